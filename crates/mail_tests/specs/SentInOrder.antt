-- What is sent in one session.
use Rattle.std.specs.Prelude.{◌≡◌, ℕ, ◌+◌, Bool, List, [], ◌++◌, None}
use Rattle.mail_base.specs.Account.{Credentials}
use Rattle.imap_model.specs.declared.command.Command.TheVariants as commands
use Rattle.imap_model.specs.declared.replies.Replies.{Replies}
use Rattle.imap_session.specs.Dialogue.{Dialogue, Known, next_text}
use Rattle.imap_session.specs.Dialogue.Dialogue.{Ends, Lacks, Asks}
use Rattle.imap_session.specs.LogIn.{enabling, entering}

-- the texts of a dialogue's questions up to its end, each whole, and what was known then
abbrev pub SentAll : Dialogue → ℕ → Known → List ℕ → List ℕ → Type 0
SentAll (Ends rev2) count known old new = (known ≡ record { count = count; rev2 = rev2 }) × (new ≡ old)
SentAll (Lacks item) count known old new = ⊥
SentAll (Asks command next) count known old new =
    (r : Replies) × SentAll (next r) (count + 1) known (old ++ next_text count command) new

-- All that was sent: the texts of logging in, of enabling, and then SELECT, FETCH and LOGOUT, each whole.
pub record AreSentInOrder (account : Credentials) (name sent : List ℕ) : Type 0 where
  pub preauth : Bool
  pub entered : Known
  pub known : List ℕ
  pub logs_in : SentAll (entering preauth account) 0 entered [] known
  pub enabled : Known
  pub ready : List ℕ
  pub enables : SentAll (enabling entered.rev2) entered.count enabled known ready
  pub then : sent ≡ ready ++ next_text enabled.count (commands.Select name None) ++ next_text (enabled.count + 1) commands.FetchAll
      ++ next_text (enabled.count + 2) commands.Logout
