-- What holds of the texts of commands (RFC 9051, sections 2.2.1 and 4.3): each part is cut off as one, a text ends where
-- it is whole, and its first part tells its tag.
use Rattle.std.specs.Prelude.{◌≡◌, ℕ, List, ◌∷◌, ◌++◌}
use Rattle.imap_model.specs.CommandText.{parts_of}
use Rattle.imap_model.specs.Held.{IsSent}
use Rattle.imap_model.specs.declared.command.Command.{Command}
use Rattle.mail_base.specs.declared.tag.Tag.{Tag}
use Rattle.command_texts.specs.Cutting.{IsPart}
use Rattle.command_texts.specs.HeardParts.{IsWhole, IsFront}

-- each part of a command's text is cut off as one
abbrev pub TextsAreCut : Type 0
TextsAreCut = (tag : Tag) (command : Command) (earlier : List (List ℕ)) (part : List ℕ) (behind : List (List ℕ)) → IsSent tag command
    → parts_of tag command ≡ earlier ++ part ∷ behind → IsPart earlier part

-- no whole text is the front of another one
abbrev pub NoTextIsAFront : Type 0
NoTextIsAFront = (tag other : Tag) (command command' : Command) (parts : List (List ℕ)) → IsWhole tag command parts → IsFront other command' parts → ⊥

-- texts with one first part have one tag
abbrev pub FirstPartsTellTags : Type 0
FirstPartsTellTags = (tag other : Tag) (command command' : Command) (part : List ℕ) (behind behind' : List (List ℕ)) → IsSent tag command →
    IsSent other command'
    → parts_of tag command ≡ part ∷ behind → parts_of other command' ≡ part ∷ behind' → tag ≡ other
