use Rattle.std.proofs.Common.{◌≡◌, List, Some, None, subst}
use Rattle.std.proofs.lemmas.Result.{on_ok_weaker}
use Rattle.std.specs.Option.{option_map}
use Rattle.action_queue.specs.Targets.{resolved}
use Rattle.action_queue.specs.declared.book.Known.{Known}
use Rattle.local_view.specs.Messages.{message_of}
use Rattle.local_view.specs.Sights.{put}
use Rattle.local_view.specs.Touching.{seen_so_far, AreSame}
use Rattle.local_view.proofs.Effects.{moves_nothing, moves_gone, moves_over}
use Rattle.local_view.proofs.acting.shift.Goals as goal

pub returns-in_default : goal.returns-in_default
returns-in_default c =
    let book = c.args.book.now in
    moves_nothing (seen_so_far book.boxes c.args.touched.now) c.args.id (message_of book.boxes (resolved book.queue.items c.args.target.now))
    c.in_default.ensures

pub returns-in_default-flags : goal.returns-in_default-flags
returns-in_default-flags c =
    let book = c.args.book.now in
    moves_gone (seen_so_far book.boxes c.args.touched.now) c.args.id c.in-Some.message
    (message_of book.boxes (resolved book.queue.items c.args.target.now)) c.in-Some.ensures
    (subst (λ (boxes : List Known). None ≡ option_map (λ s. s.flags) (seen_so_far boxes c.args.touched.now c.in-Some.message)) c.as_slice-boxes.ensures
    c.in_default-flags.ensures)

pub returns : goal.returns
returns c =
    let book = c.args.book.now in
    on_ok_weaker c.make.result
    (moves_over (seen_so_far book.boxes c.args.touched.now) c.args.id (seen_so_far book.boxes c.take.new.self) (seen_so_far book.boxes c.make.new.self)
    c.in-Some-flags.flags.now c.in_ok-flags.flags c.in-Some.message (message_of book.boxes (resolved book.queue.items c.args.target.now)) c.in-Some.ensures
    (subst (λ (boxes : List Known). Some c.in-Some-flags.flags.now ≡ option_map (λ s. s.flags) (seen_so_far boxes c.args.touched.now c.in-Some.message))
    c.as_slice-boxes.ensures c.in-Some-flags.ensures) c.in_ok-flags.ensures
    (subst (λ (boxes : List Known). AreSame (seen_so_far boxes c.take.new.self) (put c.in-Some.message None (seen_so_far boxes c.args.touched.now)))
    c.as_slice-boxes.ensures c.in_ok-take.ensures))
    (c.make.ensures book.boxes)
