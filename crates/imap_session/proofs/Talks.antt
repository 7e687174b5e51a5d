-- What a session tells of its calls, as questions that are asked.
use Rattle.std.proofs.Common.{◌≡◌, inl, inr, ℕ, ◌+◌, true, false, Bool, List, ◌++◌, if◌then◌else◌, refl, sym, subst}
use Rattle.std.specs.Prelude.{codes, ⊤}
use Rattle.mail_base.specs.Account.{Credentials}
use Rattle.mail_base.specs.declared.tag.Tag.{Tag}
use Rattle.imap_model.specs.Mutating.{is_mutating}
use Rattle.imap_model.specs.Talking.{Answering, Connecting}
use Rattle.imap_model.specs.Talking.Connecting.{as_before}
use Rattle.imap_model.specs.declared.command.Command.{Command}
use Rattle.imap_model.specs.declared.replies.Replies.{Replies}
use Rattle.imap_model.specs.declared.response.Response.{Response}
use Rattle.world_traits.specs.Asking.{Asking}
use Rattle.world_traits.specs.Links.{Any, LinkStep, Linked}
use Rattle.world_traits.specs.Moments.{Moment, Clock, Since, Became, tick}
use Rattle.world_traits.proofs.Passing.{since_start, since_tick, since_then, since_weaker}
use Rattle.imap_session.specs.Dialogue.{Dialogue, Talked, Point, next_tag, next_text}
use Rattle.imap_session.specs.Dialogue.Dialogue.{Ends, Lacks, Asks}
use Rattle.imap_session.specs.LogIn.{entering, enabling, behind_offer, way_in, logged_in, fitness}
use Rattle.imap_session.specs.Offers.{offers}
use Rattle.imap_session.specs.Enabled.{is_enabled}
use Rattle.imap_session.specs.Enquiring.{Enquiring, connecting, asking}

-- making a connection, and reading a greeting
pub connects_enquires : (old new : Clock) → Linked Connecting old new → Linked Enquiring old new
connects_enquires old new s =
    since_weaker Any Any (LinkStep Connecting) (LinkStep Enquiring) (λ m p. p)
    (λ m n step. record { left = step.left; right = step.right; outside = connecting step.outside }) old new s

pub answers_enquires : (old new : Clock) → Linked Answering old new → Linked Enquiring old new
answers_enquires old new s =
    since_weaker Any Any (LinkStep Answering) (LinkStep Enquiring) (λ m p. p)
    (λ m n step. record { left = step.left; right = step.right; outside = connecting (as_before step.outside) }) old new s

-- one question
pub asks_enquires : (told : List Response) (tag : Tag) (command : Command) → is_mutating command ≡ false → (old new : Clock) →
    Linked (Asking told tag command) old new → Linked Enquiring old new
asks_enquires told tag command question old new s =
    since_weaker Any Any (LinkStep (Asking told tag command)) (LinkStep Enquiring) (λ m p. p)
    (λ m n step. record { left = step.left; right = step.right; outside = asking told tag command question step.outside }) old new s

-- a step on the way is one of the way
pub became_since : (P : Moment → Type 0) (S R : Moment → Moment → Type 0) (old new : Clock) → Became P S R old new → Since P S old new
became_since P S R old new b =
    since_then P S old (tick b.at b.to) new (since_tick P S old b.at (tick b.at b.to) b.to b.before refl b.has b.step) b.after

-- each command of a dialogue is a question
abbrev pub Questions : Dialogue → Type 0
Questions (Ends rev2) = ⊤
Questions (Lacks item) = ⊤
Questions (Asks command next) = (is_mutating command ≡ false) × ((r : Replies) → Questions (next r))

pub talks_enquires : (d : Dialogue) → Questions d → (count : ℕ) (old new : Point) → Talked d count old new → Linked Enquiring old.clock new.clock
talks_enquires (Ends rev2) q count old new is =
    subst (λ (k : Point). Linked Enquiring old.clock k.clock) (sym is) (since_start Any (LinkStep Enquiring) old.clock)
talks_enquires (Lacks item) q count old new is =
    subst (λ (k : Point). Linked Enquiring old.clock k.clock) (sym is) (since_start Any (LinkStep Enquiring) old.clock)
talks_enquires (Asks command next) q count old new (inl sent) =
    asks_enquires old.clock.now.outside.talk.told (next_tag count) command q.0 old.clock new.clock sent.0
talks_enquires (Asks command next) q count old new (inr t) =
    since_then Any (LinkStep Enquiring) old.clock t.1 new.clock
    (asks_enquires old.clock.now.outside.talk.told (next_tag count) command q.0 old.clock t.1
    (became_since Any (LinkStep (Asking old.clock.now.outside.talk.told (next_tag count) command)) _ old.clock t.1 t.2.answered.became))
    (talks_enquires (next t.0) (q.1 t.0) (count + 1) (record { clock = t.1; sent = old.sent ++ next_text count command }) new t.3)

either : (test : Bool) (x y : Dialogue) → Questions x → Questions y → Questions (if test then x else y)
either true x y p q = p
either false x y p q = q

fitness_asks : (r : Replies) → Questions (fitness r)
fitness_asks r =
    either (offers r (codes "QRESYNC")) _ _
    (either (offers r (codes "IMAP4rev2")) _ _ tt (either (offers r (codes "UIDPLUS")) _ _ (either (offers r (codes "MOVE")) _ _ tt tt) tt)) tt

logged_in_asks : Questions logged_in
logged_in_asks = (refl, fitness_asks)

way_in_asks : (account : Credentials) (r : Replies) → Questions (way_in account r)
way_in_asks account r =
    either (offers r (codes "AUTH=PLAIN")) _ _ (refl, λ s. logged_in_asks)
    (either (offers r (codes "LOGINDISABLED")) _ _ tt (refl, λ s. logged_in_asks))

behind_asks : (preauth : Bool) (account : Credentials) (r : Replies) → Questions (behind_offer preauth account r)
behind_asks true account r = logged_in_asks
behind_asks false account r = way_in_asks account r

-- logging in, and enabling
pub entering_asks : (preauth : Bool) (account : Credentials) → Questions (entering preauth account)
entering_asks preauth account = (refl, behind_asks preauth account)

pub enabling_asks : (rev2 : Bool) → Questions (enabling rev2)
enabling_asks rev2 = (refl, λ r. either (is_enabled (codes "QRESYNC") r.untagged) _ _ tt tt)
