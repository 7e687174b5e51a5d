-- A command that is carried out makes a later server for each action that it isn't of.
use Rattle.std.proofs.Common.{◌≡◌, inl, inr, ℕ, false, List, Option, refl, sym, ◌∙◌, ap, subst}
use Rattle.mail_base.specs.declared.tag.Tag.{Tag}
use Rattle.imap_model.specs.Ours.{is_try, ours}
use Rattle.imap_model.specs.WellFormed.{IsWellFormed}
use Rattle.imap_model.specs.Changes.{Changes, deed_of}
use Rattle.imap_model.specs.Carrying.{Waiting, Accepted, Carries}
use Rattle.imap_model.proofs.Evolution.{evolves_same, changes_stay}
use Rattle.imap_model.specs.declared.command.Command.{Command}
use Rattle.imap_model.specs.declared.command.Command.TheVariants as commands
use Rattle.imap_model.specs.declared.deed.Author.TheVariants.{Ours}
use Rattle.imap_model.specs.declared.deed.Change.{Change}
use Rattle.imap_model.specs.declared.deed.Change.TheVariants as changes
use Rattle.imap_model.specs.declared.server.Server.{Server}
use Rattle.book_laws.specs.Past.{Later}
use Rattle.book_laws.proofs.Deeds.{ours_push_other}

same_later : (n : ℕ) (s t : Server) → t ≡ s → Later n s t
same_later n s t e = subst (λ (x : Server). Later n s x) (sym e) (record { evolves = evolves_same s.boxes s.boxes; ours = refl })

change_later : (n : ℕ) (tag : Tag) (name : List ℕ) (change : Change) (s t : Server) → IsWellFormed s.boxes → is_try n tag ≡ false →
    Changes s.boxes (Ours tag) name change s t → Later n s t
change_later n tag name change s t w f c = record {
  evolves = (changes_stay s.boxes (Ours tag) name change s t w c).1;
  ours = ap (ours n) c.history ∙ ours_push_other n (deed_of (Ours tag) name change t.boxes) s.history f;
}

module _ (n : ℕ) (selected : Option (List ℕ)) (tag : Tag) (s t : Server) (well : IsWellFormed s.boxes) (f : is_try n tag ≡ false) where
  accepted_later : (command : Command) → Accepted selected tag command s t → Later n s t
  accepted_later commands.Capability e = same_later n s t e
  accepted_later (commands.Login account) e = same_later n s t e
  accepted_later (commands.Plain account) e = same_later n s t e
  accepted_later (commands.Enable rev2) e = same_later n s t e
  accepted_later (commands.Select name since) e = same_later n s t e
  accepted_later commands.FetchAll e = same_later n s t e
  accepted_later (commands.FetchRow uid) e = same_later n s t e
  accepted_later (commands.Search from id) e = same_later n s t e
  accepted_later (commands.FetchIds uids) e = same_later n s t e
  accepted_later (commands.FetchText uid) e = same_later n s t e
  accepted_later (commands.Store uid since add flags) (inl e) =
      change_later n tag e.found.name (changes.SetFlags uid e.flags) s t well f e.becomes
  accepted_later (commands.Store uid since add flags) (inr e) = same_later n s t e.stays
  accepted_later (commands.Shift uid to) (inl e) = change_later n tag e.found.name (changes.Shift uid to e.received) s t well f e.becomes
  accepted_later (commands.Shift uid to) (inr e) = same_later n s t e.stays
  accepted_later (commands.Copy uid to) (inl e) =
      change_later n tag to (changes.Add e.found.message.flags e.found.message.text e.received) s t well f e.becomes
  accepted_later (commands.Copy uid to) (inr e) = same_later n s t e.stays
  accepted_later (commands.Expunge uid) (inl e) = change_later n tag e.is.found.name (changes.Drop uid) s t well f e.becomes
  accepted_later (commands.Expunge uid) (inr e) = same_later n s t e.stays
  accepted_later (commands.Append to flags text) e = change_later n tag to (changes.Add flags text e.uid) s t well f e.becomes
  accepted_later commands.Logout e = same_later n s t e

pub carried_later : (n : ℕ) (w : Waiting) (s t : Server) → IsWellFormed s.boxes → Carries w s t → is_try n w.tag ≡ false → Later n s t
carried_later n w s t well (inl e) f = same_later n s t e
carried_later n w s t well (inr e) f = accepted_later n w.selected w.tag s t well f w.command e
