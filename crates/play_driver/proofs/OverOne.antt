-- A session's calls, as questions over the connection that it has.
use Rattle.std.proofs.Common.{◌≡◌, ◌≢◌, inl, inr, ℕ, ◌+◌, false, Bool, List, ◌++◌, Option, Some, refl, sym, subst, ◌∙◌}
use Rattle.play_driver.specs.Accuses.{ConnectsOnce}
use Rattle.mail_base.specs.Account.{Credentials}
use Rattle.mail_base.specs.declared.tag.Tag.{Tag}
use Rattle.imap_model.specs.Mutating.{is_mutating}
use Rattle.imap_model.specs.Talking.{Answering, Connecting, Peer}
use Rattle.imap_model.specs.declared.command.Command.{Command}
use Rattle.imap_model.specs.declared.command.Command.TheVariants as commands
use Rattle.imap_model.specs.declared.mark.Mark.{Mark}
use Rattle.imap_model.specs.declared.response.Response.{Response}
use Rattle.action_queue.specs.Book.{after}
use Rattle.action_queue.specs.declared.event.Event.{Event}
use Rattle.world_traits.specs.Asking.{Asking}
use Rattle.world_traits.specs.LinkState.{LinkState}
use Rattle.world_traits.specs.Links.{Any, LinkStep, Linked}
use Rattle.world_traits.specs.Moments.{Moment, Clock, GoesOn, Since}
use Rattle.world_traits.proofs.Passing.{since_start, since_then, since_weaker}
use Rattle.store_core.specs.Books.{HoldsBook}
use Rattle.store_core.specs.Holding.{Holding}
use Rattle.store_core.specs.Mail.{mail}
use Rattle.store_core.specs.Taking.{IsTaking, Takes}
use Rattle.imap_session.specs.Dialogue.{Dialogue, Talked, Point, next_tag, next_text, so_far}
use Rattle.imap_session.specs.Dialogue.Dialogue.{Ends, Lacks, Asks}
use Rattle.imap_session.specs.LogIn.{enabling, entering}
use Rattle.imap_session.proofs.Talks.{Questions, became_since, enabling_asks, entering_asks}
use Rattle.play_driver.proofs.Remaining.{Remains, enabling_remains, entering_remains}
use Rattle.play_driver.specs.Questioning.{ConnectsFirst, Conversing, Questioning, RunStep, TalkStep, answering, asking, sending}
use Rattle.play_driver.specs.Questioning.Conversing.{answering as answers_so}

-- reading a greeting
pub answers_over : (old new : Clock) → Linked Answering old new → Linked Questioning old new
answers_over old new s =
    since_weaker Any Any (LinkStep Answering) (LinkStep Questioning) (λ m p. p)
    (λ m n step. record { left = step.left; right = step.right; outside = answering step.outside }) old new s

-- one question
pub asks_over : (told : List Response) (tag : Tag) (command : Command) → is_mutating command ≡ false → command ≢ commands.Logout →
    (old new : Clock) → Linked (Asking told tag command) old new → Linked Questioning old new
asks_over told tag command question remains old new s =
    since_weaker Any Any (LinkStep (Asking told tag command)) (LinkStep Questioning) (λ m p. p)
    (λ m n step. record { left = step.left; right = step.right; outside = asking told tag command question remains step.outside }) old new s

-- the questions of a dialogue
pub talks_over : (d : Dialogue) → Questions d → Remains d → (count : ℕ) (old new : Point) → Talked d count old new →
    Linked Questioning old.clock new.clock
talks_over (Ends rev2) q s count old new is =
    subst (λ (k : Point). Linked Questioning old.clock k.clock) (sym is) (since_start Any (LinkStep Questioning) old.clock)
talks_over (Lacks item) q s count old new is =
    subst (λ (k : Point). Linked Questioning old.clock k.clock) (sym is) (since_start Any (LinkStep Questioning) old.clock)
talks_over (Asks command next) q s count old new (inl sent) =
    asks_over old.clock.now.outside.talk.told (next_tag count) command q.0 s.0 old.clock new.clock sent.0
talks_over (Asks command next) q s count old new (inr t) =
    since_then Any (LinkStep Questioning) old.clock t.1 new.clock
    (asks_over old.clock.now.outside.talk.told (next_tag count) command q.0 s.0 old.clock t.1
    (became_since Any (LinkStep (Asking old.clock.now.outside.talk.told (next_tag count) command)) _ old.clock t.1 t.2.answered.became))
    (talks_over (next t.0) (q.1 t.0) (s.1 t.0) (count + 1) (record { clock = t.1; sent = old.sent ++ next_text count command }) new t.3)

-- SELECT, and the FETCH behind it
pub select_over : (name : List ℕ) (since : Option Mark) (count : ℕ) (old new : Clock) →
    Linked (Asking old.now.outside.talk.told (next_tag count) (commands.Select name since)) old new → Linked Questioning old new
select_over name since count old new linked = asks_over old.now.outside.talk.told (next_tag count) (commands.Select name since) refl (λ e. cc) old new linked

pub both_over : (name : List ℕ) (since : Option Mark) (count : ℕ) (tag : Tag) (old mid new : Clock) →
    Linked (Asking old.now.outside.talk.told (next_tag count) (commands.Select name since)) old mid →
    Linked (Asking mid.now.outside.talk.told tag commands.FetchAll) mid new → Linked Questioning old new
both_over name since count tag old mid new first second =
    since_then Any (LinkStep Questioning) old mid new (select_over name since count old mid first)
    (asks_over mid.now.outside.talk.told tag commands.FetchAll refl (λ e. cc) mid new second)

pub fetch_over : (tag : Tag) (old new : Clock) → Linked (Asking old.now.outside.talk.told tag commands.FetchAll) old new → Linked Questioning old new
fetch_over tag old new linked = asks_over old.now.outside.talk.told tag commands.FetchAll refl (λ e. cc) old new linked

-- a connection is made, and what comes behind it
pub connects_first : (S : Moment → Moment → Type 0) (old at : Clock) → Linked Connecting old at → ConnectsFirst S old at
connects_first S old at linked = record { at = at; connects = linked; behind = since_start Any S at }

pub goes_behind : (S : Moment → Moment → Type 0) (old mid new : Clock) → ConnectsFirst S old mid → Since Any S mid new → ConnectsFirst S old new
goes_behind S old mid new c more = record { at = c.at; connects = c.connects; behind = since_then Any S c.at mid new c.behind more }

module _ (old mid new : Clock) (first : ConnectsFirst (LinkStep Questioning) old mid) (before later : LinkState) (count : ℕ) where
  pub entering_over : (preauth : Bool) (account : Credentials) → Talked (entering preauth account) count (so_far mid before) (so_far new later) →
      ConnectsFirst (LinkStep Questioning) old new
  entering_over preauth account talked =
      goes_behind (LinkStep Questioning) old mid new first
      (talks_over (entering preauth account) (entering_asks preauth account) (entering_remains preauth account) count (so_far mid before) (so_far new later) talked)

  pub enabling_over : (rev2 : Bool) → Talked (enabling rev2) count (so_far mid before) (so_far new later) → ConnectsFirst (LinkStep Questioning) old new
  enabling_over rev2 talked =
      goes_behind (LinkStep Questioning) old mid new first
      (talks_over (enabling rev2) (enabling_asks rev2) (enabling_remains rev2) count (so_far mid before) (so_far new later) talked)

-- a question is a command
conversing : (p q : Peer) → Questioning p q → Conversing p q
conversing p q (answering step) = answers_so step
conversing p q (asking told tag command question remains step) = sending told tag command remains step

-- beside the disk
pub over_talks : (old new : Clock) → Linked Questioning old new → Since Any TalkStep old new
over_talks old new s =
    since_weaker Any Any (LinkStep Questioning) TalkStep (λ m p. p)
    (λ m n step. inr (record { left = step.left; right = step.right; outside = conversing m.outside n.outside step.outside })) old new s

-- a command, of whatever kind but LOGOUT
pub asked_talks : (told : List Response) (tag : Tag) (command : Command) → command ≢ commands.Logout → (old new : Clock) →
    Linked (Asking told tag command) old new → Since Any TalkStep old new
asked_talks told tag command remains old new s =
    since_weaker Any Any (LinkStep (Asking told tag command)) TalkStep (λ m p. p)
    (λ m n step. inr (record { left = step.left; right = step.right; outside = sending told tag command remains step.outside })) old new s

pub talks_then : (old mid new : Clock) → Since Any TalkStep old mid → Since Any TalkStep mid new → Since Any TalkStep old new
talks_then old mid new a b = since_then Any TalkStep old mid new a b

-- up to a run's end
pub talks_run : (old new : Clock) → Since Any TalkStep old new → Since Any RunStep old new
talks_run old new s = since_weaker Any Any TalkStep RunStep (λ m p. p) (λ m n step. inl step) old new s

pub enters_run : (old new : Clock) → ConnectsFirst (LinkStep Questioning) old new → ConnectsFirst RunStep old new
enters_run old new c = record { at = c.at; connects = c.connects; behind = talks_run c.at new (over_talks c.at new c.behind) }

pub run_then : (old mid new : Clock) → Since Any RunStep old mid → Since Any RunStep mid new → Since Any RunStep old new
run_then old mid new a b = since_then Any RunStep old mid new a b

-- what a record tells
pub record_talks : (store : Holding mail) (event : Event) (mid new : Clock) → Takes mail (Some store.book) event mid new → Since Any TalkStep mid new
record_talks store event mid new takes =
    since_weaker (IsTaking mail (Some store.book) event) Any
    (GoesOn (HoldsBook mail (Some store.book)) (HoldsBook mail (Some (after store.book event)))) TalkStep (λ m p. tt)
    (λ m n step. inl step.outside) mid new takes

-- LOGOUT
pub leave_run : (told : List Response) (tag : Tag) (old new : Clock) → Linked (Asking told tag commands.Logout) old new → Since Any RunStep old new
leave_run told tag old new linked =
    since_weaker Any Any (LinkStep (Asking told tag commands.Logout)) RunStep (λ m p. p)
    (λ m n step. inr (record { left = step.left; right = step.right; outside = record { told = told; tag = tag; asks = step.outside } })) old new
    linked

-- one connection, and none behind it
pub once_then : (old mid new : LinkState) → ConnectsOnce old mid → new.earlier ≡ mid.earlier → ConnectsOnce old new
once_then old mid new (inl same) stays = inl (stays ∙ same)
once_then old mid new (inr one) stays = inr (stays ∙ one)
