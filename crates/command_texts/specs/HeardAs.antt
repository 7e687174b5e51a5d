-- What parts are heard as (RFC 9051, sections 4.3 and 6).
use Rattle.std.specs.Prelude.{◌≡◌, ℕ, List}
use Rattle.imap_model.specs.declared.command.Command.{Command}
use Rattle.command_texts.specs.HeardParts.{IsWhole, IsFront, IsNoText, append_of}
use Rattle.command_texts.specs.declared.outcome.Heard.{Heard}
use Rattle.command_texts.specs.declared.outcome.Heard.TheVariants as outcomes

abbrev pub IsHeardAs : List (List ℕ) → Heard → Type 0
IsHeardAs parts (outcomes.Command tag command) = IsWhole tag command parts
IsHeardAs parts (outcomes.Front tag append) = (command : Command) × IsFront tag command parts × (append_of command ≡ append)
IsHeardAs parts outcomes.Nothing = IsNoText parts
