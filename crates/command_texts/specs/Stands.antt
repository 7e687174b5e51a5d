-- What stands for the commands whose texts have one front (RFC 9051, section 4.3): its text has that front too, but for the number of octets.
use Rattle.std.specs.Prelude.{◌≡◌, ◌<◌, ℕ, [], ◌∷◌, Option, MatchOption}
use Rattle.imap_model.specs.declared.command.Command.{Command}
use Rattle.imap_model.specs.declared.command.Command.TheVariants as commands
use Rattle.command_texts.specs.AwaitedParts.{Awaited, Response, User, Password, Id, Message}
use Rattle.command_texts.specs.declared.reading.fronts.StandIn.{StandIn}

-- what is awaited is one CR, or a message of no octets
abbrev pub stand_for : Awaited → Command
stand_for Response = commands.Plain (record { user = []; password = [] })
stand_for (User octets) = commands.Login (record { user = 13 ∷ []; password = [] })
stand_for (Password user octets) = commands.Login (record { user = user; password = 13 ∷ [] })
stand_for (Id from octets) = commands.Search from (13 ∷ [])
stand_for (Message to flags octets) = commands.Append to flags []

-- how many octets are announced; 1 where the response is awaited, of which none are
abbrev pub announced_at : Awaited → ℕ
announced_at Response = 1
announced_at (User octets) = octets
announced_at (Password user octets) = octets
announced_at (Id from octets) = octets
announced_at (Message to flags octets) = octets

-- it stands for what is awaited
pub record Stands (awaited : Awaited) (found : StandIn) : Type 0 where
  pub command : found.command ≡ stand_for awaited
  pub octets : found.octets ≡ announced_at awaited

-- it is found
abbrev pub Finds : Awaited → Option StandIn → Type 0
Finds awaited found = MatchOption found ⊥ (Stands awaited)

-- only the text of a message may have no octets
abbrev pub IsPossible : Command → ℕ → Type 0
IsPossible commands.Capability octets = 0 < octets
IsPossible (commands.Login account) octets = 0 < octets
IsPossible (commands.Plain account) octets = 0 < octets
IsPossible (commands.Enable rev2) octets = 0 < octets
IsPossible (commands.Select name since) octets = 0 < octets
IsPossible commands.FetchAll octets = 0 < octets
IsPossible (commands.FetchRow uid) octets = 0 < octets
IsPossible (commands.Search from id) octets = 0 < octets
IsPossible (commands.FetchIds uids) octets = 0 < octets
IsPossible (commands.FetchText uid) octets = 0 < octets
IsPossible (commands.Store uid since add flags) octets = 0 < octets
IsPossible (commands.Shift uid to) octets = 0 < octets
IsPossible (commands.Copy uid to) octets = 0 < octets
IsPossible (commands.Expunge uid) octets = 0 < octets
IsPossible (commands.Append to flags text) octets = Unit {0}
IsPossible commands.Logout octets = 0 < octets

-- the second byte of the front without its tag, which tells the kinds apart
abbrev pub second : Awaited → ℕ
second Response = 85
second (User octets) = 79
second (Password user octets) = 79
second (Id from octets) = 73
second (Message to flags octets) = 80
