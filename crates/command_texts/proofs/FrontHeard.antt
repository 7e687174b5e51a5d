-- A front of a command's text is heard as one, by what stands for the commands that have it.
use Rattle.std.proofs.Common.{◌≡◌, ◌<◌, ◌↔◌, ℕ, Bool, false, IsTrue, None, List, refl, arith}
use Rattle.mail_base.specs.declared.tag.Tag.{Tag}
use Rattle.imap_model.specs.CommandText.{IsCarried, parts_of}
use Rattle.imap_model.specs.Held.{IsHeld, IsSent}
use Rattle.imap_model.specs.declared.command.Command.{Command}
use Rattle.imap_model.specs.declared.command.Command.TheVariants as commands
use Rattle.command_texts.specs.AwaitedParts.{Awaited, Response, User, Password, Id, Message, IsHeldFront, IsFrontOf}
use Rattle.command_texts.specs.HeardParts.{append_of}
use Rattle.command_texts.specs.Renumbered.{IsRenumbered}
use Rattle.command_texts.specs.Stands.{Stands, IsPossible, stand_for, announced_at}
use Rattle.command_texts.specs.declared.reading.fronts.StandIn.{StandIn}
use Rattle.command_texts.proofs.FrontReading.{no_account, return_account, user_account, no_text, return_text, return_nul}
use Rattle.command_texts.proofs.FrontWritten.{stand_in_front}
use Rattle.command_texts.proofs.Leading.{octets_of}
use Rattle.command_texts.proofs.StandIns.{stand_in}

-- a test that isn't passed
pub refused : {P : Type 0} (b : Bool) → (IsTrue b ↔ P) → b ≡ false → P → ⊥
refused b means is holds = let told : IsTrue b = means.1 holds in cc

-- the number of octets is possible
possible_for : (awaited : Awaited) → IsHeldFront awaited → IsPossible (stand_for awaited) (announced_at awaited)
possible_for Response held = omega arith
possible_for (User n) held = held.some
possible_for (Password user n) held = held.1.some
possible_for (Id from n) held = held.1.some
possible_for (Message to flags n) held = tt

pub stands_possible : (awaited : Awaited) (s : StandIn) → IsHeldFront awaited → Stands awaited s → IsPossible s.command s.octets
stands_possible awaited s held stands = rw (stands.command, stands.octets) (possible_for awaited held)

-- and a program sends the command
held_for : (awaited : Awaited) → IsHeldFront awaited → IsHeld (stand_for awaited)
held_for Response held = no_account
held_for (User n) held = return_account
held_for (Password user n) held = user_account user held.0
held_for (Id from n) held = (held.0, return_text)
held_for (Message to flags n) held = (held.0, held.1, no_text)

carried_for : (awaited : Awaited) → IsCarried (stand_for awaited)
carried_for Response = tt
carried_for (User n) = tt
carried_for (Password user n) = tt
carried_for (Id from n) = return_nul
carried_for (Message to flags n) = tt

sent_for : (tag : Tag) (awaited : Awaited) (parts : List (List ℕ)) → IsFrontOf tag awaited parts → IsSent tag (stand_for awaited)
sent_for tag awaited parts front =
    record { writable = record { tagged = front.tagged; carried = carried_for awaited }; tag_fits = front.tag_fits; held = held_for awaited front.held }

pub stands_sent : (tag : Tag) (awaited : Awaited) (parts : List (List ℕ)) (t : Tag) (s : StandIn) → IsFrontOf tag awaited parts → t ≡ tag →
    Stands awaited s → IsSent t s.command
stands_sent tag awaited parts t s front same stands = rw (same, stands.command) (sent_for tag awaited parts front)

-- its text is the front but for the number of octets
stand_in_is : (awaited : Awaited) → stand_in awaited ≡ stand_for awaited
stand_in_is Response = refl
stand_in_is (User n) = refl
stand_in_is (Password user n) = refl
stand_in_is (Id from n) = refl
stand_in_is (Message to flags n) = refl

octets_are : (awaited : Awaited) → octets_of awaited ≡ announced_at awaited
octets_are Response = refl
octets_are (User n) = refl
octets_are (Password user n) = refl
octets_are (Id from n) = refl
octets_are (Message to flags n) = refl

pub stands_renumbered : (tag : Tag) (awaited : Awaited) (parts : List (List ℕ)) (t : Tag) (s : StandIn) → IsFrontOf tag awaited parts →
    t ≡ tag → Stands awaited s
    → IsRenumbered s.octets (parts_of t s.command) parts
stands_renumbered tag awaited parts t s front same stands =
    rw (same, stands.command, stands.octets, ← stand_in_is awaited, ← octets_are awaited) (stand_in_front tag awaited parts front)

-- only a message may be one of no octets
pub possible_some : (command : Command) (n : ℕ) → IsPossible command n → append_of command ≡ None → 0 < n
possible_some commands.Capability n is none = is
possible_some (commands.Login account) n is none = is
possible_some (commands.Plain account) n is none = is
possible_some (commands.Enable rev2) n is none = is
possible_some (commands.Select name since) n is none = is
possible_some commands.FetchAll n is none = is
possible_some (commands.FetchRow uid) n is none = is
possible_some (commands.Search from id) n is none = is
possible_some (commands.FetchIds uids) n is none = is
possible_some (commands.FetchText uid) n is none = is
possible_some (commands.Store uid since add flags) n is none = is
possible_some (commands.Shift uid to) n is none = is
possible_some (commands.Copy uid to) n is none = is
possible_some (commands.Expunge uid) n is none = is
possible_some (commands.Append to flags octets) n is none = absurd cc
possible_some commands.Logout n is none = is
