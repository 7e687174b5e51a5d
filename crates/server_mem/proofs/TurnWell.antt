-- A server stays well formed, whatever command it carries out.
use Rattle.std.proofs.Common.{◌≡◌, ◌⊎◌, inl, inr, ℕ, Bool, false, List, Option, sym, subst}
use Rattle.mail_base.specs.declared.tag.Tag.{Tag}
use Rattle.imap_model.specs.Carrying.{Waiting, Accepted, Carries, Stores, StoresNothing, Moves, MovesNothing, Copies, Expunges, ExpungesNothing}
use Rattle.imap_model.specs.CarriedOut.{CarriesOut}
use Rattle.imap_model.specs.PlainServer.{Turn}
use Rattle.imap_model.specs.WellFormed.{IsWellFormed}
use Rattle.imap_model.proofs.Effect.{carried_effect}
use Rattle.imap_model.proofs.Evolution.{changes_stay}
use Rattle.imap_model.proofs.PlainCase.{plain_case}
use Rattle.imap_model.specs.declared.command.Command.{Command}
use Rattle.imap_model.specs.declared.command.Command.TheVariants as commands
use Rattle.imap_model.specs.declared.deed.Author.TheVariants.{Ours}
use Rattle.imap_model.specs.declared.deed.Change.TheVariants as changes
use Rattle.imap_model.specs.declared.server.Server.{Server}
use Rattle.server_mem.specs.Well.{Well}
use Rattle.server_mem.specs.States.{State, plain_at, turn_at}
use Rattle.server_mem.proofs.Muting.{unmuted}
use Rattle.server_mem.proofs.Welling.{into_well, from_well}

same_well : (s t : Server) → t ≡ s → IsWellFormed s.boxes → IsWellFormed t.boxes
same_well s t e w = subst (λ (x : Server). IsWellFormed x.boxes) (sym e) w

stored_well : (tag : Tag) (selected : Option (List ℕ)) (uid since : ℕ) (add : Bool) (flags : List (List ℕ)) (s t : Server) → IsWellFormed s.boxes →
    Stores tag selected uid since add flags s t ⊎ StoresNothing selected uid since s t → IsWellFormed t.boxes
stored_well tag selected uid since add flags s t w (inl e) = (changes_stay s.boxes (Ours tag) e.found.name (changes.SetFlags uid e.flags) s t w e.becomes).0
stored_well tag selected uid since add flags s t w (inr e) = same_well s t e.stays w

moved_well : (tag : Tag) (selected : Option (List ℕ)) (uid : ℕ) (to : List ℕ) (s t : Server) → IsWellFormed s.boxes →
    Moves tag selected uid to s t ⊎ MovesNothing selected uid s t → IsWellFormed t.boxes
moved_well tag selected uid to s t w (inl e) = (changes_stay s.boxes (Ours tag) e.found.name (changes.Shift uid to e.received) s t w e.becomes).0
moved_well tag selected uid to s t w (inr e) = same_well s t e.stays w

copied_well : (tag : Tag) (selected : Option (List ℕ)) (uid : ℕ) (to : List ℕ) (s t : Server) → IsWellFormed s.boxes →
    Copies tag selected uid to s t ⊎ MovesNothing selected uid s t → IsWellFormed t.boxes
copied_well tag selected uid to s t w (inl e) =
    (changes_stay s.boxes (Ours tag) to (changes.Add e.found.message.flags e.found.message.text e.received) s t w e.becomes).0
copied_well tag selected uid to s t w (inr e) = same_well s t e.stays w

expunged_well : (tag : Tag) (selected : Option (List ℕ)) (uid : ℕ) (s t : Server) → IsWellFormed s.boxes →
    Expunges tag selected uid s t ⊎ ExpungesNothing selected uid s t → IsWellFormed t.boxes
expunged_well tag selected uid s t w (inl e) = (changes_stay s.boxes (Ours tag) e.is.found.name (changes.Drop uid) s t w e.becomes).0
expunged_well tag selected uid s t w (inr e) = same_well s t e.stays w

accepted_well : (selected : Option (List ℕ)) (tag : Tag) (command : Command) (s t : Server) → IsWellFormed s.boxes →
    Accepted selected tag command s t → IsWellFormed t.boxes
accepted_well selected tag commands.Capability s t w e = same_well s t e w
accepted_well selected tag (commands.Login account) s t w e = same_well s t e w
accepted_well selected tag (commands.Plain account) s t w e = same_well s t e w
accepted_well selected tag (commands.Enable rev2) s t w e = same_well s t e w
accepted_well selected tag (commands.Select name since) s t w e = same_well s t e w
accepted_well selected tag commands.FetchAll s t w e = same_well s t e w
accepted_well selected tag (commands.FetchRow uid) s t w e = same_well s t e w
accepted_well selected tag (commands.Search from id) s t w e = same_well s t e w
accepted_well selected tag (commands.FetchIds uids) s t w e = same_well s t e w
accepted_well selected tag (commands.FetchText uid) s t w e = same_well s t e w
accepted_well selected tag (commands.Store uid since add flags) s t w e = stored_well tag selected uid since add flags s t w e
accepted_well selected tag (commands.Shift uid to) s t w e = moved_well tag selected uid to s t w e
accepted_well selected tag (commands.Copy uid to) s t w e = copied_well tag selected uid to s t w e
accepted_well selected tag (commands.Expunge uid) s t w e = expunged_well tag selected uid s t w e
accepted_well selected tag (commands.Append to flags text) s t w e = (changes_stay s.boxes (Ours tag) to (changes.Add flags text e.uid) s t w e.becomes).0
accepted_well selected tag commands.Logout s t w e = same_well s t e w

carries_well : (w : Waiting) (s t : Server) → IsWellFormed s.boxes → Carries w s t → IsWellFormed t.boxes
carries_well w s t f (inl e) = same_well s t e f
carries_well w s t f (inr e) = accepted_well w.selected w.tag w.command s t f e

-- a turn is lawful, but for a code that is left out
plain_lawful : (x : State) (tag : Tag) (command : Command) → Well x.server.boxes →
    CarriesOut (record { selected = x.selected; tag = tag; command = command }) x.server (plain_at x tag command).replies
    (plain_at x tag command).server (plain_at x tag command).selected
plain_lawful x tag command w = plain_case tag x.server (from_well x.server.boxes w) x.choices x.selected command

pub turn_lawful : (x : State) (tag : Tag) (command : Command) → Well x.server.boxes → x.muted ≡ false →
    CarriesOut (record { selected = x.selected; tag = tag; command = command }) x.server (turn_at x tag command).replies
    (turn_at x tag command).server (turn_at x tag command).selected
turn_lawful x tag command w loud =
    subst (λ (turn : Turn). CarriesOut (record { selected = x.selected; tag = tag; command = command }) x.server turn.replies turn.server turn.selected)
    (sym (unmuted x tag command loud)) (plain_lawful x tag command w)

pub turn_well : (x : State) (tag : Tag) (command : Command) → Well x.server.boxes → Well (turn_at x tag command).server.boxes
turn_well x tag command w =
    let turn = plain_at x tag command in
    let waiting : Waiting = record { selected = x.selected; tag = tag; command = command } in
    into_well turn.server.boxes (carries_well waiting x.server turn.server (from_well x.server.boxes w)
    (carried_effect waiting x.server turn.replies turn.server turn.selected (plain_lawful x tag command w)))
