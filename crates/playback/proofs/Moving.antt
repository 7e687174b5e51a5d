-- No step touches a UIDVALIDITY.
use Rattle.std.proofs.Common.{◌≡◌, inl, inr, ℕ, List, Option, ap}
use Rattle.mail_base.specs.declared.tag.Tag.{Tag}
use Rattle.imap_model.specs.Lookups.{box_at, validity_of}
use Rattle.imap_model.specs.Carrying.{Waiting, Accepted, Carries}
use Rattle.imap_model.specs.declared.command.Command.{Command}
use Rattle.imap_model.specs.declared.command.Command.TheVariants as commands
use Rattle.imap_model.specs.declared.server.Server.{Server}
use Rattle.playback.proofs.Staying.{added_validity, set_validity, dropped_validity, shifted_validity}

same_server : (s t : Server) (n : List ℕ) → t ≡ s → validity_of (box_at n t.boxes) ≡ validity_of (box_at n s.boxes)
same_server s t n e = ap (λ (x : Server). validity_of (box_at n x.boxes)) e

accepted_validity : (selected : Option (List ℕ)) (tag : Tag) (command : Command) (s t : Server) (n : List ℕ) → Accepted selected tag command s t →
    validity_of (box_at n t.boxes) ≡ validity_of (box_at n s.boxes)
accepted_validity selected tag commands.Capability s t n e = same_server s t n e
accepted_validity selected tag (commands.Login account) s t n e = same_server s t n e
accepted_validity selected tag (commands.Plain account) s t n e = same_server s t n e
accepted_validity selected tag (commands.Enable rev2) s t n e = same_server s t n e
accepted_validity selected tag (commands.Select name since) s t n e = same_server s t n e
accepted_validity selected tag commands.FetchAll s t n e = same_server s t n e
accepted_validity selected tag (commands.FetchRow uid) s t n e = same_server s t n e
accepted_validity selected tag (commands.Search from id) s t n e = same_server s t n e
accepted_validity selected tag (commands.FetchIds uids) s t n e = same_server s t n e
accepted_validity selected tag (commands.FetchText uid) s t n e = same_server s t n e
accepted_validity selected tag (commands.Store uid since add flags) s t n (inl e) =
    set_validity s.boxes e.found.name uid e.flags s.boxes t.boxes n e.becomes.effect
accepted_validity selected tag (commands.Store uid since add flags) s t n (inr e) = same_server s t n e.stays
accepted_validity selected tag (commands.Shift uid to) s t n (inl e) =
    shifted_validity s.boxes e.found.name uid to e.received s.boxes t.boxes n e.becomes.effect
accepted_validity selected tag (commands.Shift uid to) s t n (inr e) = same_server s t n e.stays
accepted_validity selected tag (commands.Copy uid to) s t n (inl e) =
    added_validity s.boxes to e.found.message.flags e.found.message.text e.received s.boxes t.boxes n e.becomes.effect
accepted_validity selected tag (commands.Copy uid to) s t n (inr e) = same_server s t n e.stays
accepted_validity selected tag (commands.Expunge uid) s t n (inl e) =
    dropped_validity s.boxes e.is.found.name uid s.boxes t.boxes n e.becomes.effect
accepted_validity selected tag (commands.Expunge uid) s t n (inr e) = same_server s t n e.stays
accepted_validity selected tag (commands.Append to flags text) s t n e =
    added_validity s.boxes to flags text e.uid s.boxes t.boxes n e.becomes.effect
accepted_validity selected tag commands.Logout s t n e = same_server s t n e

pub carried_validity : (w : Waiting) (s t : Server) (n : List ℕ) → Carries w s t → validity_of (box_at n t.boxes) ≡ validity_of (box_at n s.boxes)
carried_validity w s t n (inl e) = same_server s t n e
carried_validity w s t n (inr e) = accepted_validity w.selected w.tag w.command s t n e
