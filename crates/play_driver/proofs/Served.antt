-- A served connection: what is told in it refuses nothing, as long as LOGOUT isn't asked; and behind that no question is denied.
use Rattle.std.proofs.Common.{◌≡◌, ◌≢◌, ◌⊎◌, inl, inr, ⊎_elim, ℕ, List, [], ◌∷◌, ◌++◌, Some, None, refl, sym, ◌∙◌, ap, subst}
use Rattle.std.proofs.lemmas.Option.{none-some, same_Some}
use Rattle.mail_base.specs.declared.tag.Tag.{Tag}
use Rattle.imap_model.specs.CarriedOut.{told_in}
use Rattle.imap_model.specs.Carrying.{Waiting}
use Rattle.imap_model.specs.Talking.{Answering, Connecting, IsGreeting, Peer, Talk, arrived, greeted}
use Rattle.imap_model.specs.Talking.Answering.{carries, goes_on, others, refuses, stays}
use Rattle.imap_model.specs.Talking.Connecting.{as_before, begins, ends}
use Rattle.imap_model.specs.declared.command.Command.{Command}
use Rattle.imap_model.specs.declared.command.Command.TheVariants as commands
use Rattle.imap_model.specs.declared.response.Response.{Response}
use Rattle.imap_model.specs.declared.response.Response.TheVariants as responses
use Rattle.imap_model.specs.declared.server.Server.{Server}
use Rattle.world_traits.specs.Asking.{Asking}
use Rattle.world_traits.specs.Asking.Asking.{answers, arrives}
use Rattle.world_traits.specs.Connected.{IsGreeted}
use Rattle.world_traits.specs.Links.{Any, LinkStep}
use Rattle.world_traits.specs.Moments.{Clock, Moment, Since}
use Rattle.world_traits.proofs.Passing.{since_then, since_weaker}
use Rattle.world_traits.proofs.Traces.{carried_now, since_both}
use Rattle.play_driver.specs.Grounds.{AreBoxes, Grounded, GroundStep}
use Rattle.play_driver.specs.Grounds.Grounded.{asking, connecting}
use Rattle.play_driver.specs.Questioning.{ConnectsFirst, Conversing, TalkStep}
use Rattle.play_driver.specs.Questioning.Conversing.{answering, sending}
use Rattle.play_driver.specs.Refusals.{DeniesQuestion, IsBye, NeverTold, RefusesRun}
use Rattle.play_driver.specs.Serving.{AllServing, IsServing, ServesOn}
use Rattle.play_driver.proofs.OnGround.{IsOnGround, boxes_on, free_denies, ground_first, ground_on}
use Rattle.play_driver.proofs.Parts.{grows, since_first, since_second}

-- in this connection nothing was refused, and no LOGOUT waits
pub record IsServed (p : Peer) : Type 0 where
  pub told : NeverTold RefusesRun p.talk.told
  pub remains : (w : Waiting) → p.waiting ≡ Some w → w.command ≢ commands.Logout

never_more : (P : Response → Type 0) (xs ys : List Response) → NeverTold P xs → NeverTold P ys → NeverTold P (xs ++ ys)
never_more P [] ys a b = b
never_more P (x ∷ xs) ys a b = (a.0, never_more P xs ys a.1 b)

-- neither a BYE nor a denial is no refusal
never_both : (xs : List Response) → NeverTold DeniesQuestion xs → NeverTold IsBye xs → NeverTold RefusesRun xs
never_both [] a b = tt
never_both (x ∷ xs) a b = (λ r. ⊎_elim (λ (bye : IsBye x). b.0 bye) (λ (denies : DeniesQuestion x). a.0 denies) r, never_both xs a.1 b.1)

-- and no refusal is no denial
pub never_denied : (xs : List Response) → NeverTold RefusesRun xs → NeverTold DeniesQuestion xs
never_denied [] a = tt
never_denied (x ∷ xs) a = (λ d. a.0 (inr d), never_denied xs a.1)

go_refuses : RefusesRun responses.Go → ⊥
go_refuses (inl bye) = cc
go_refuses (inr denies) = denies

-- what waits is what arrived last
waits_for : (tag : Tag) (command : Command) (p : Peer) (w : Waiting) →
    Some (record { selected = p.talk.selected; tag = tag; command = command }) ≡ Some w → command ≡ w.command
waits_for tag command p w is =
    ap (λ (x : Waiting). x.command) (same_Some (record { selected = p.talk.selected; tag = tag; command = command }) w is)

-- the server answers
served_answer : (names : List (List ℕ)) (p q : Peer) → Answering p q → ServesOn p q → IsOnGround names p → IsServed p → IsServed q
served_answer names p q stays v g s = s
served_answer names p q (others t batch) v g s = record { told = s.told; remains = s.remains }
served_answer names p q (goes_on a is unasked) v g s =
    record { told = never_more RefusesRun p.talk.told (responses.Go ∷ []) s.told (go_refuses, tt); remains = s.remains }
served_answer names p q (refuses a r is unasked refusal) v g s =
    record { told = never_more RefusesRun p.talk.told (told_in a.tag r) s.told (v.texts a r is refl); remains = s.remains }
served_answer names p q (carries w r t after is out) v g s =
    let serves = v.replies w r is refl in
    record {
      told = never_more RefusesRun p.talk.told (told_in w.tag r) s.told
          (never_both (told_in w.tag r) (free_denies w p.server r t after out serves.grants (g.waits w is)) (serves.remains (s.remains w is)));
      remains = λ x none. absurd cc;
    }

-- a part of a command that isn't LOGOUT arrives
served_arrives : (tag : Tag) (command : Command) (before : List (List ℕ)) (part : List ℕ) (behind : List (List ℕ)) (p : Peer) →
    command ≢ commands.Logout → IsServed p → IsServed (arrived tag command before part behind p)
served_arrives tag command before part [] p remains s = record { told = s.told; remains = λ w is e. remains (waits_for tag command p w is ∙ e) }
served_arrives tag command before part (next ∷ behind) p remains s = record { told = s.told; remains = s.remains }

served_asking : (names : List (List ℕ)) (told : List Response) (tag : Tag) (command : Command) (p q : Peer) → command ≢ commands.Logout →
    Asking told tag command p q → ServesOn p q → IsOnGround names p → IsServed p → IsServed q
served_asking names told tag command p q remains (answers step) v g s = served_answer names p q step v g s
served_asking names told tag command p q remains (arrives before part behind is awaits first) v g s =
    served_arrives tag command before part behind p remains s

served_talk : (names : List (List ℕ)) (p q : Peer) → Conversing p q → ServesOn p q → IsOnGround names p → IsServed p → IsServed q
served_talk names p q (answering step) v g s = served_answer names p q step v g s
served_talk names p q (sending told tag command remains step) v g s = served_asking names told tag command p q remains step v g s

served_step : (names : List (List ℕ)) (m n : Moment) → TalkStep m n → IsServing m n → IsOnGround names m.outside → IsServed m.outside →
    IsServed n.outside
served_step names m n (inl same) v g s = subst IsServed (sym same) s
served_step names m n (inr step) v g s = served_talk names m.outside n.outside step.outside v g s

-- a connection is made: its greeting is no refusal
greeting_denies : (r : Response) → IsGreeting r → DeniesQuestion r → ⊥
greeting_denies (responses.Done tag ending code) g d = g
greeting_denies (responses.Untagged ending code) g d = d
greeting_denies responses.Bye g d = d
greeting_denies (responses.Preauth code) g d = d
greeting_denies responses.Go g d = d
greeting_denies (responses.Capability words) g d = d
greeting_denies (responses.Enabled words) g d = d
greeting_denies (responses.Exists count) g d = d
greeting_denies (responses.Fetch fetched) g d = d
greeting_denies (responses.Vanished earlier uids) g d = d
greeting_denies (responses.Found uids) g d = d
greeting_denies responses.Other g d = d

served_greeting : (s : Server) (r : Response) → IsGreeting r → (greeted r ≢ greeted responses.Bye) →
    IsServed (record { server = s; waiting = None; talk = greeted r })
served_greeting s r greets other = record {
  told = (
    λ refuses. ⊎_elim (λ (bye : IsBye r). other (ap greeted bye)) (λ (denies : DeniesQuestion r). greeting_denies r greets denies) refuses,
    tt,
  );
  remains = λ w none. absurd cc;
}

served_connecting : (names : List (List ℕ)) (p q : Peer) → Connecting p q → ServesOn p q → IsOnGround names p → IsServed p → IsServed q
served_connecting names p q (as_before step) v g s = served_answer names p q step v g s
served_connecting names p q ends v g s = record { told = s.told; remains = s.remains }
served_connecting names p q (begins greeting greets) v g s = served_greeting p.server greeting greets v.greets

-- a connection is made, or the run goes on over it
abbrev OpenStep : Moment → Moment → Type 0
OpenStep m n = LinkStep Connecting m n ⊎ TalkStep m n

served_open : (names : List (List ℕ)) (m n : Moment) → OpenStep m n → IsServing m n → IsOnGround names m.outside → IsServed m.outside →
    IsServed n.outside
served_open names m n (inl step) v g s = served_connecting names m.outside n.outside step.outside v g s
served_open names m n (inr step) v g s = served_step names m n step v g s

-- as a connection has been made
served_first : (p : Peer) → IsGreeted p → p.talk ≢ greeted responses.Bye → IsServed p
served_first p fresh hello =
    let one = served_greeting p.server fresh.greeting fresh.greets (λ bye. hello (fresh.talk ∙ bye)) in
    record { told = subst (λ (t : Talk). NeverTold RefusesRun t.told) (sym fresh.talk) one.told; remains = λ w is. absurd (none-some w (sym fresh.quiet ∙ is)) }

open_chain : (old new : Clock) → ConnectsFirst TalkStep old new → Since Any OpenStep old new
open_chain old new c =
    since_then Any OpenStep old c.at new (since_weaker Any Any (LinkStep Connecting) OpenStep (λ m p. p) (λ m n step. inl step) old c.at c.connects)
    (since_weaker Any Any TalkStep OpenStep (λ m p. p) (λ m n step. inr step) c.at new c.behind)

-- From the moment on at which a connection had been made: what is asked on its ground is served.
module _ (names : List (List ℕ)) (S : Moment → Moment → Type 0) (Q : Peer → Type 0)
    (on : (m n : Moment) → S m n → IsServing m n → IsOnGround names m.outside → Q m.outside → Q n.outside) where
  abbrev Both : Moment → Moment → Type 0
  Both m n = (S m n × GroundStep names m n) × IsServing m n

  abbrev Twice : Moment → Type 0
  Twice m = (Any m × Any m) × Any m

  both_on : (m n : Moment) → Twice n → Both m n → Q m.outside × IsOnGround names m.outside → Q n.outside × IsOnGround names n.outside
  both_on m n any step so = (on m n step.0.0 step.1 so.1 so.0, ground_on names m.outside n.outside step.0.1 so.1)

  ends_so : (old new : Clock) → Since Any S old new → Since Any (GroundStep names) old new → AreBoxes names old.now.outside.server →
      (a : AllServing old new) → Q a.made.now.outside → Q new.now.outside
  ends_so old new steps grounds boxes a first =
      let rest = grows Any IsServing a.made new a.later in
      let there = boxes_on names old a.made (since_first Any (GroundStep names) old a.made new a.before rest grounds) boxes in
      let both = since_both Any Any S (GroundStep names) a.made new (since_second Any S old a.made new a.before rest steps)
      (since_second Any (GroundStep names) old a.made new a.before rest grounds) in
      (carried_now Twice (λ m. Q m.outside × IsOnGround names m.outside) Both both_on a.made
      (first, ground_first names a.made.now.outside a.fresh there) new
      (since_both (λ m. Any m × Any m) Any (λ m n. S m n × GroundStep names m n) IsServing a.made new both a.later)).0

-- as a run goes on
pub served_end : (names : List (List ℕ)) (old new : Clock) → ConnectsFirst TalkStep old new → Since Any (GroundStep names) old new →
    AreBoxes names old.now.outside.server → AllServing old new → IsServed new.now.outside
served_end names old new c grounds boxes a =
    ends_so names OpenStep IsServed (served_open names) old new (open_chain old new c) grounds boxes a
    (served_first a.made.now.outside a.fresh a.hello)

-- behind LOGOUT no question is denied
abbrev DeniesNone : Peer → Type 0
DeniesNone p = NeverTold DeniesQuestion p.talk.told

denied_answer : (names : List (List ℕ)) (p q : Peer) → Answering p q → ServesOn p q → IsOnGround names p → DeniesNone p → DeniesNone q
denied_answer names p q stays v g s = s
denied_answer names p q (others t batch) v g s = s
denied_answer names p q (goes_on a is unasked) v g s = never_more DeniesQuestion p.talk.told (responses.Go ∷ []) s (λ d. d, tt)
denied_answer names p q (refuses a r is unasked refusal) v g s =
    never_more DeniesQuestion p.talk.told (told_in a.tag r) s (never_denied (told_in a.tag r) (v.texts a r is refl))
denied_answer names p q (carries w r t after is out) v g s =
    never_more DeniesQuestion p.talk.told (told_in w.tag r) s
    (free_denies w p.server r t after out (v.replies w r is refl).grants (g.waits w is))

denied_arrives : (tag : Tag) (command : Command) (before : List (List ℕ)) (part : List ℕ) (behind : List (List ℕ)) (p : Peer) →
    DeniesNone p → DeniesNone (arrived tag command before part behind p)
denied_arrives tag command before part [] p s = s
denied_arrives tag command before part (next ∷ behind) p s = s

denied_connecting : (names : List (List ℕ)) (p q : Peer) → Connecting p q → ServesOn p q → IsOnGround names p → DeniesNone p → DeniesNone q
denied_connecting names p q (as_before step) v g s = denied_answer names p q step v g s
denied_connecting names p q ends v g s = s
denied_connecting names p q (begins greeting greets) v g s = (λ d. greeting_denies greeting greets d, tt)

denied_on : (names : List (List ℕ)) (p q : Peer) → Grounded names p q → ServesOn p q → IsOnGround names p → DeniesNone p → DeniesNone q
denied_on names p q (connecting step) v g s = denied_connecting names p q step v g s
denied_on names p q (asking tag command before part behind ground) v g s = denied_arrives tag command before part behind p s

pub denied_end : (names : List (List ℕ)) (old new : Clock) → Since Any (GroundStep names) old new → AreBoxes names old.now.outside.server →
    AllServing old new → DeniesNone new.now.outside
denied_end names old new grounds boxes a =
    ends_so names (GroundStep names) DeniesNone (λ m n step v g s. denied_on names m.outside n.outside step v g s) old new grounds grounds boxes a
    (never_denied a.made.now.outside.talk.told (served_first a.made.now.outside a.fresh a.hello).told)
