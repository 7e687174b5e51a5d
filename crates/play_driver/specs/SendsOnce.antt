-- What a run sends: of each try of an action one command at most (RFC 9051, sections 2.2.1 and 4.3).
use Rattle.std.specs.Prelude.{◌≡◌, ◌⊎◌, ◌<◌, ◌+◌, ◌*◌, ℕ, List, [], ◌∷◌, ◌++◌, Option, Some, None, take}
use Rattle.std.specs.List.{AllByRecursion}
use Rattle.std.specs.Option.{option_to_list}
use Rattle.mail_base.specs.declared.tag.Tag.{Tag}
use Rattle.mail_base.specs.declared.tag.Tag.TheVariants as tags
use Rattle.imap_model.specs.CommandText.{parts_of}
use Rattle.imap_model.specs.declared.command.Command.{Command}
use Rattle.world_traits.specs.LinkState.{LinkState}
use Rattle.imap_session.specs.Sent.{SentFront, joined}

-- a command under its tag, and how many parts of its text were sent: each but the first waits for a `+` of the server
pub record Sending : Type 0 where
  pub tag : Tag
  pub command : Command
  pub parts : ℕ

-- these texts, one behind the other
abbrev pub texts_of : List Sending → List ℕ
texts_of [] = []
texts_of (s ∷ more) = joined (take s.parts (parts_of s.tag s.command)) ++ texts_of more

-- the place of a try among all tries of all actions: an action has three at most, one behind the other, and behind those of each action before it
abbrev pub place_of : Tag → Option ℕ
place_of (tags.Play n) = Some (4 * n + 1)
place_of (tags.Again n turn) = Some (4 * n + turn)
place_of (tags.Count n) = None
place_of tags.Strange = None

-- those of the tries to which the tags belong, in the order in which they were sent
abbrev pub places_sent : List Sending → List ℕ
places_sent [] = []
places_sent (s ∷ more) = option_to_list (place_of s.tag) ++ places_sent more

-- each number is greater than those before it
abbrev pub NumbersRise : List ℕ → Type 0
NumbersRise [] = Unit {0}
NumbersRise (n ∷ ns) = AllByRecursion (λ (m : ℕ). n < m) ns × NumbersRise ns

-- no connection was made, and nothing was sent
pub record SentNothing (old new : LinkState) : Type 0 where
  pub sent : new.sent ≡ old.sent
  pub earlier : new.earlier ≡ old.earlier

-- One connection was made, and all that was sent in it are the texts of these commands, the last ones maybe not to their end. The
-- places of the tries rise, so that no tag of a try is sent twice.
pub record SentInOne (old new : LinkState) : Type 0 where
  pub earlier : new.earlier ≡ old.sent ∷ old.earlier
  pub sendings : List Sending
  pub sent : SentFront (texts_of sendings) [] new.sent
  pub rising : NumbersRise (places_sent sendings)

-- Of each try of an action a command is sent at most once.
abbrev pub SendsOnce : LinkState → LinkState → Type 0
SendsOnce old new = SentNothing old new ⊎ SentInOne old new
