use Rattle.std.proofs.Common.{◌≡◌, List, None, subst}
use Rattle.std.specs.Option.{option_map}
use Rattle.action_queue.specs.Targets.{resolved}
use Rattle.action_queue.specs.declared.book.Known.{Known}
use Rattle.local_view.specs.Messages.{message_of}
use Rattle.local_view.specs.Touching.{seen_so_far}
use Rattle.local_view.proofs.Effects.{flags_nothing, flags_gone}
use Rattle.local_view.proofs.acting.turn.Goals as goal

pub returns-in_default : goal.returns-in_default
returns-in_default c =
    let book = c.args.book.now in
    flags_nothing (seen_so_far book.boxes c.args.touched.now) c.args.add c.args.asked.now
    (message_of book.boxes (resolved book.queue.items c.args.target.now)) c.in_default.ensures

pub returns-in_default-flags : goal.returns-in_default-flags
returns-in_default-flags c =
    let book = c.args.book.now in
    flags_gone (seen_so_far book.boxes c.args.touched.now) c.args.add c.args.asked.now c.in-Some.message
    (message_of book.boxes (resolved book.queue.items c.args.target.now)) c.in-Some.ensures
    (subst (λ (boxes : List Known). None ≡ option_map (λ s. s.flags) (seen_so_far boxes c.args.touched.now c.in-Some.message)) c.as_slice-boxes.ensures
    c.in_default-flags.ensures)
