-- What single words of a command of the user say (this client's profile).
use Rattle.std.specs.Prelude.{ℕ, List}
use Rattle.mail_base.specs.BoxName.{IsBoxText, KeptAs}

-- The word writes a mailbox's name, which is kept as this.
pub record WritesBox (word name : List ℕ) : Type 0 where
  pub named : IsBoxText word
  pub kept : KeptAs word name
