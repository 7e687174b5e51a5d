-- The letter of an action: the text that an append puts into a mailbox (RFC 9051, section 6.3.12).
use Rattle.std.specs.Prelude.{◌≡◌, ℕ, List, Option, Some, None, Result, Ok, Err}
use Rattle.action_queue.specs.Book.{Meaning}
use Rattle.action_queue.specs.Targets.{action_at}
use Rattle.action_queue.specs.declared.action.Action.{Action}
use Rattle.action_queue.specs.declared.action.Action.TheVariants as actions
use Rattle.action_queue.specs.declared.queued.Queued.{Queued}
use Rattle.look_run.specs.declared.look.LookReason.{LookReason}
use Rattle.look_run.specs.declared.look.LookReason.TheVariants as reasons

-- the text of an append; other actions have none
abbrev pub text_of : Action → Option (List ℕ)
text_of (actions.Flag target add flags) = None
text_of (actions.Move target to) = None
text_of (actions.Append to flags text id) = Some text

-- Action n of the book has this text, or has none.
pub record HasText (b : Meaning) (n : ℕ) (text : Option (List ℕ)) : Type 0 where
  pub queued : Queued
  pub there : action_at b.queue n ≡ Some queued
  pub is : text_of queued.action ≡ text

-- this is the letter of action n of the book, counted from 1; or the book has no such action; or the action has no text
abbrev pub IsLetter : Meaning → ℕ → Result (List ℕ) LookReason → Type 0
IsLetter b n (Ok text) = HasText b n (Some text)
IsLetter b n (Err reasons.NoAction) = action_at b.queue n ≡ None
IsLetter b n (Err reasons.NoLetter) = HasText b n None
