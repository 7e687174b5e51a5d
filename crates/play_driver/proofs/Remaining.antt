-- No question by which a run enters is LOGOUT.
use Rattle.std.proofs.Common.{◌≢◌, true, false, Bool, if◌then◌else◌}
use Rattle.std.specs.Prelude.{codes, ⊤}
use Rattle.mail_base.specs.Account.{Credentials}
use Rattle.imap_model.specs.declared.command.Command.TheVariants as commands
use Rattle.imap_model.specs.declared.replies.Replies.{Replies}
use Rattle.imap_session.specs.Dialogue.{Dialogue}
use Rattle.imap_session.specs.Dialogue.Dialogue.{Ends, Lacks, Asks}
use Rattle.imap_session.specs.Enabled.{is_enabled}
use Rattle.imap_session.specs.LogIn.{behind_offer, enabling, entering, fitness, logged_in, way_in}
use Rattle.imap_session.specs.Offers.{offers}

-- each command of a dialogue is another
abbrev pub Remains : Dialogue → Type 0
Remains (Ends rev2) = ⊤
Remains (Lacks item) = ⊤
Remains (Asks command next) = (command ≢ commands.Logout) × ((r : Replies) → Remains (next r))

either : (test : Bool) (x y : Dialogue) → Remains x → Remains y → Remains (if test then x else y)
either true x y p q = p
either false x y p q = q

fitness_remains : (r : Replies) → Remains (fitness r)
fitness_remains r =
    either (offers r (codes "QRESYNC")) _ _
    (either (offers r (codes "IMAP4rev2")) _ _ tt (either (offers r (codes "UIDPLUS")) _ _ (either (offers r (codes "MOVE")) _ _ tt tt) tt)) tt

logged_in_remains : Remains logged_in
logged_in_remains = (λ e. cc, fitness_remains)

way_in_remains : (account : Credentials) (r : Replies) → Remains (way_in account r)
way_in_remains account r =
    either (offers r (codes "AUTH=PLAIN")) _ _ (λ e. cc, λ s. logged_in_remains)
    (either (offers r (codes "LOGINDISABLED")) _ _ tt (λ e. cc, λ s. logged_in_remains))

behind_remains : (preauth : Bool) (account : Credentials) (r : Replies) → Remains (behind_offer preauth account r)
behind_remains true account r = logged_in_remains
behind_remains false account r = way_in_remains account r

pub entering_remains : (preauth : Bool) (account : Credentials) → Remains (entering preauth account)
entering_remains preauth account = (λ e. cc, behind_remains preauth account)

pub enabling_remains : (rev2 : Bool) → Remains (enabling rev2)
enabling_remains rev2 = (λ e. cc, λ r. either (is_enabled (codes "QRESYNC") r.untagged) _ _ tt tt)
