use Rattle.std.proofs.Common.{◌≡◌, ◌∙◌, ap, subst, sym, true, None, List}
use Rattle.std.specs.Prelude.{is_some}
use Rattle.imap_model.specs.Changes.{receiver}
use Rattle.imap_model.specs.Lawful.{broken_rule}
use Rattle.imap_model.specs.Lookups.{box_at}
use Rattle.imap_model.specs.PlainChanges.{changed}
use Rattle.imap_model.specs.declared.server.Mailbox.{Mailbox}
use Rattle.server_mem.specs.States.{State}
use Rattle.server_mem.proofs.Making.{named_after, named_there, receiver_after, receiver_there}
use Rattle.server_mem.proofs.mem_server.MemServer.made.Goals as goal

pub deed_of-requires-clause-named : goal.deed_of-requires-clause-named
deed_of-requires-clause-named c =
    let boxes : List Mailbox = c.self.inside.server.boxes in
    let lawful : broken_rule boxes c.args.name.now c.args.change.now ≡ None =
    subst (λ (l : List Mailbox). broken_rule l c.args.name.now c.args.change.now ≡ None) (sym (ap (λ (s : State). s.server.boxes) c.self.view_is)) c.requires in
    subst (λ (l : List Mailbox). is_some (box_at c.args.name.now l) ≡ true)
    (sym (c.as_slice-2.ensures ∙ c.in_ok-boxes.ensures ∙ ap (changed c.args.name.now c.args.change.now) c.as_slice.ensures))
    (named_after boxes c.args.name.now c.args.change.now c.self.inside.well lawful (named_there boxes c.args.name.now c.args.change.now lawful))

pub deed_of-requires-clause-receiver : goal.deed_of-requires-clause-receiver
deed_of-requires-clause-receiver c =
    let boxes : List Mailbox = c.self.inside.server.boxes in
    let lawful : broken_rule boxes c.args.name.now c.args.change.now ≡ None =
    subst (λ (l : List Mailbox). broken_rule l c.args.name.now c.args.change.now ≡ None) (sym (ap (λ (s : State). s.server.boxes) c.self.view_is)) c.requires in
    subst (λ (l : List Mailbox). is_some (box_at (receiver c.args.name.now c.args.change.now) l) ≡ true)
    (sym (c.as_slice-2.ensures ∙ c.in_ok-boxes.ensures ∙ ap (changed c.args.name.now c.args.change.now) c.as_slice.ensures))
    (receiver_after boxes c.args.name.now c.args.change.now c.self.inside.well lawful (receiver_there boxes c.args.name.now c.args.change.now lawful))
