-- No change takes a mailbox away; and what is selected behind a command is there (RFC 9051, section 6.3.2).
use Rattle.std.proofs.Common.{◌≡◌, ◌≢◌, inl, inr, ℕ, cond, List, [], ◌∷◌, Option, Some, None, sym, ◌∙◌, subst}
use Rattle.std.proofs.lemmas.Bool.{cond_both}
use Rattle.std.proofs.lemmas.Option.{none-some, same_Some}
use Rattle.std.specs.Prelude.{bytes_eq}
use Rattle.mail_base.specs.declared.tag.Tag.{Tag}
use Rattle.imap_model.specs.CarriedOut.{CarriesOut, Decides, Fulfils, left_selected}
use Rattle.imap_model.specs.Carrying.{Accepted, Carries, Waiting}
use Rattle.imap_model.specs.Changes.{Batch, Effect, Rewrites}
use Rattle.imap_model.specs.Changes.Batch.{more, none}
use Rattle.imap_model.specs.Lookups.{box_at, put_box}
use Rattle.imap_model.specs.declared.command.Command.{Command}
use Rattle.imap_model.specs.declared.command.Command.TheVariants as commands
use Rattle.imap_model.specs.declared.deed.Change.{Change}
use Rattle.imap_model.specs.declared.deed.Change.TheVariants as changes
use Rattle.imap_model.specs.declared.ending.Ending.{Ending}
use Rattle.imap_model.specs.declared.ending.Ending.TheVariants as endings
use Rattle.imap_model.specs.declared.replies.Replies.{Replies}
use Rattle.imap_model.specs.declared.server.Mailbox.{Mailbox}
use Rattle.imap_model.specs.declared.server.Server.{Server}
use Rattle.imap_model.proofs.Effect.{carried_effect}
use Rattle.imap_model.proofs.Finding.{cond_two, same_name}
use Rattle.play_driver.specs.Granting.{IsBox}

-- a mailbox that isn't there behind an edit wasn't there before it
put_none : (name : List ℕ) (new : Mailbox) (bs : List Mailbox) → box_at name (put_box new bs) ≡ None → box_at name bs ≡ None
put_none name new [] = λ e. e
put_none name new (c ∷ cs) =
    cond_both (bytes_eq c.name new.name) (new ∷ cs) (c ∷ put_box new cs) (λ (l : List Mailbox). box_at name l ≡ None → box_at name (c ∷ cs) ≡ None)
    (λ t. subst (λ (n : List ℕ). cond (bytes_eq n name) (Some new) (box_at name cs) ≡ None → box_at name (c ∷ cs) ≡ None) (same_name c.name new.name t)
    (cond_two (bytes_eq c.name name) (Some new) (box_at name cs) (Some c) (box_at name cs) (λ (o p : Option Mailbox). o ≡ None → p ≡ None)
    (λ u e. absurd cc) (λ u e. e)))
    (λ f. cond_two (bytes_eq c.name name) (Some c) (box_at name (put_box new cs)) (Some c) (box_at name cs)
    (λ (o p : Option Mailbox). o ≡ None → p ≡ None) (λ u e. e) (λ u e. put_none name new cs e))

-- each mailbox that was there is there
abbrev pub KeepsBoxes : List Mailbox → List Mailbox → Type 0
KeepsBoxes old new = (name : List ℕ) → box_at name old ≢ None → box_at name new ≢ None

keeps_then : (old mid new : List Mailbox) → KeepsBoxes old mid → KeepsBoxes mid new → KeepsBoxes old new
keeps_then old mid new a b = λ name there. b name (a name there)

rewritten_keeps : (Becomes : Mailbox → Mailbox → Type 0) (name : List ℕ) (old new : List Mailbox) → Rewrites Becomes name old new → KeepsBoxes old new
rewritten_keeps Becomes name old new r = λ other there absent.
    there (put_none other r.after old (subst (λ (l : List Mailbox). box_at other l ≡ None) r.put absent))

effect_keeps : (base : List Mailbox) (name : List ℕ) (change : Change) (old new : List Mailbox) → Effect base name change old new → KeepsBoxes old new
effect_keeps base name (changes.Add flags text uid) old new e = rewritten_keeps _ name old new e
effect_keeps base name (changes.SetFlags uid flags) old new e = rewritten_keeps _ name old new e
effect_keeps base name (changes.Drop uid) old new e = rewritten_keeps _ name old new e
effect_keeps base name (changes.Shift uid to received) old new e =
    keeps_then old e.middle new (rewritten_keeps _ name old e.middle e.leaves) (rewritten_keeps _ to e.middle new e.comes)
effect_keeps base name (changes.Reset validity uids uidnext highest) old new e = rewritten_keeps _ name old new e

-- by others, and by a command
pub batch_keeps : (base : List Mailbox) (old new : Server) → Batch base old new → KeepsBoxes old.boxes new.boxes
batch_keeps base old new none = λ name there. there
batch_keeps base old new (more {m = mid} name change c rest) =
    keeps_then old.boxes mid.boxes new.boxes (effect_keeps base name change old.boxes mid.boxes c.effect) (batch_keeps base mid new rest)

same_keeps : (s t : Server) → t ≡ s → KeepsBoxes s.boxes t.boxes
same_keeps s t same = subst (λ (x : Server). KeepsBoxes s.boxes x.boxes) (sym same) (λ name there. there)

accepted_keeps : (selected : Option (List ℕ)) (tag : Tag) (command : Command) (s t : Server) → Accepted selected tag command s t →
    KeepsBoxes s.boxes t.boxes
accepted_keeps selected tag commands.Capability s t e = same_keeps s t e
accepted_keeps selected tag (commands.Login account) s t e = same_keeps s t e
accepted_keeps selected tag (commands.Plain account) s t e = same_keeps s t e
accepted_keeps selected tag (commands.Enable rev2) s t e = same_keeps s t e
accepted_keeps selected tag (commands.Select name since) s t e = same_keeps s t e
accepted_keeps selected tag commands.FetchAll s t e = same_keeps s t e
accepted_keeps selected tag (commands.FetchRow uid) s t e = same_keeps s t e
accepted_keeps selected tag (commands.Search from id) s t e = same_keeps s t e
accepted_keeps selected tag (commands.FetchIds uids) s t e = same_keeps s t e
accepted_keeps selected tag (commands.FetchText uid) s t e = same_keeps s t e
accepted_keeps selected tag (commands.Store uid since add flags) s t (inl e) =
    effect_keeps s.boxes e.found.name (changes.SetFlags uid e.flags) s.boxes t.boxes e.becomes.effect
accepted_keeps selected tag (commands.Store uid since add flags) s t (inr e) = same_keeps s t e.stays
accepted_keeps selected tag (commands.Shift uid to) s t (inl e) =
    effect_keeps s.boxes e.found.name (changes.Shift uid to e.received) s.boxes t.boxes e.becomes.effect
accepted_keeps selected tag (commands.Shift uid to) s t (inr e) = same_keeps s t e.stays
accepted_keeps selected tag (commands.Copy uid to) s t (inl e) =
    effect_keeps s.boxes to (changes.Add e.found.message.flags e.found.message.text e.received) s.boxes t.boxes e.becomes.effect
accepted_keeps selected tag (commands.Copy uid to) s t (inr e) = same_keeps s t e.stays
accepted_keeps selected tag (commands.Expunge uid) s t (inl e) =
    effect_keeps s.boxes e.is.found.name (changes.Drop uid) s.boxes t.boxes e.becomes.effect
accepted_keeps selected tag (commands.Expunge uid) s t (inr e) = same_keeps s t e.stays
accepted_keeps selected tag (commands.Append to flags text) s t e =
    effect_keeps s.boxes to (changes.Add flags text e.uid) s.boxes t.boxes e.becomes.effect
accepted_keeps selected tag commands.Logout s t e = same_keeps s t e

carries_keeps : (w : Waiting) (s t : Server) → Carries w s t → KeepsBoxes s.boxes t.boxes
carries_keeps w s t (inl same) = same_keeps s t same
carries_keeps w s t (inr does) = accepted_keeps w.selected w.tag w.command s t does

-- behind a refusal what is selected was selected before
left_before : (command : Command) (selected : Option (List ℕ)) (name : List ℕ) → left_selected command selected ≡ Some name → selected ≡ Some name
left_before commands.Capability selected name is = is
left_before (commands.Login account) selected name is = is
left_before (commands.Plain account) selected name is = is
left_before (commands.Enable rev2) selected name is = is
left_before (commands.Select other since) selected name is = absurd cc
left_before commands.FetchAll selected name is = is
left_before (commands.FetchRow uid) selected name is = is
left_before (commands.Search from id) selected name is = is
left_before (commands.FetchIds uids) selected name is = is
left_before (commands.FetchText uid) selected name is = is
left_before (commands.Store uid since add flags) selected name is = is
left_before (commands.Shift uid to) selected name is = is
left_before (commands.Copy uid to) selected name is = is
left_before (commands.Expunge uid) selected name is = is
left_before (commands.Append to flags text) selected name is = is
left_before commands.Logout selected name is = is

-- a mailbox that SELECT found is there
found_there : (name other : List ℕ) (s t : Server) (box : Mailbox) → t ≡ s → box_at name s.boxes ≡ Some box → name ≡ other → IsBox other t
found_there name other s t box same there named =
    subst (λ (n : List ℕ). IsBox n t) named
    (subst (λ (x : Server). IsBox name x) (sym same) (λ absent. none-some box (sym absent ∙ there)))

-- Of the mailbox that was selected before it is known that it is there: so is the one that is selected behind a command.
module _ (w : Waiting) (s : Server) (r : Replies) (t : Server) (after : Option (List ℕ)) (name : List ℕ) (is : after ≡ Some name)
    (before : w.selected ≡ Some name → IsBox name t) where
  selected_still : after ≡ w.selected → IsBox name t
  selected_still same = before (sym same ∙ is)

  fulfilled_there : (command : Command) → Fulfils command w s r t after → IsBox name t
  fulfilled_there commands.Capability f = selected_still f.stays.selection
  fulfilled_there (commands.Login account) f = selected_still f.stays.selection
  fulfilled_there (commands.Plain account) f = selected_still f.stays.selection
  fulfilled_there (commands.Enable rev2) f = selected_still f.stays.selection
  fulfilled_there (commands.Select other since) f = found_there other name s t f.box f.server f.there (same_Some other name (sym f.selection ∙ is))
  fulfilled_there commands.FetchAll f = selected_still f.stays.selection
  fulfilled_there (commands.FetchRow uid) f = selected_still f.stays.selection
  fulfilled_there (commands.Search from id) f = selected_still f.stays.selection
  fulfilled_there (commands.FetchIds uids) f = selected_still f.stays.selection
  fulfilled_there (commands.FetchText uid) f = selected_still f.stays.selection
  fulfilled_there (commands.Store uid since add flags) (inl f) = selected_still f.selection
  fulfilled_there (commands.Store uid since add flags) (inr f) = selected_still f.selection
  fulfilled_there (commands.Shift uid to) (inl f) = selected_still f.selection
  fulfilled_there (commands.Shift uid to) (inr f) = selected_still f.selection
  fulfilled_there (commands.Copy uid to) (inl f) = selected_still f.selection
  fulfilled_there (commands.Copy uid to) (inr f) = selected_still f.selection
  fulfilled_there (commands.Expunge uid) (inl f) = selected_still f.selection
  fulfilled_there (commands.Expunge uid) (inr f) = selected_still f.selection
  fulfilled_there (commands.Append to flags text) f = selected_still f.selection
  fulfilled_there commands.Logout f = selected_still f.stays.selection

  decided_there : (ending : Ending) (command : Command) → Decides ending command w s r t after → IsBox name t
  decided_there endings.Ok command d = fulfilled_there command d
  decided_there endings.No command d = before (left_before command w.selected name (sym d.selection ∙ is))
  decided_there endings.Bad command d = before (left_before command w.selected name (sym d.selection ∙ is))

  pub selected_there : CarriesOut w s r t after → IsBox name t
  selected_there d = decided_there r.ending w.command d

pub carried_keeps : (w : Waiting) (s : Server) (r : Replies) (t : Server) (after : Option (List ℕ)) → CarriesOut w s r t after →
    KeepsBoxes s.boxes t.boxes
carried_keeps w s r t after out = carries_keeps w s t (carried_effect w s r t after out)
