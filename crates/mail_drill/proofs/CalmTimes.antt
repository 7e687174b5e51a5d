-- The time of a run that makes its connection itself: no text's first part has come in pieces, and the server serves from its greeting on.
use Rattle.std.proofs.Common.{◌≡◌, ◌⊎◌, inl, inr, ⊎_elim, ℕ, true, false, List, [], ◌∷◌, ◌++◌, length, Some, sym, ◌∙◌, ap, subst, arith}
use Rattle.std.proofs.Common.{length-append}
use Rattle.std.proofs.lemmas.Option.{none-some, same_Some}
use Rattle.mail_base.specs.declared.tag.Tag.{Tag}
use Rattle.imap_model.specs.Talking.{Answering, Arriving, Connecting, Peer, arrived}
use Rattle.imap_model.specs.Talking.Answering.{carries, goes_on, others, refuses, stays}
use Rattle.imap_model.specs.Talking.Connecting.{as_before, begins, ends}
use Rattle.imap_model.specs.declared.command.Command.{Command}
use Rattle.imap_model.specs.declared.response.Response.{Response}
use Rattle.world_traits.specs.Asking.{Asking}
use Rattle.world_traits.specs.Asking.Asking.{answers, arrives}
use Rattle.world_traits.specs.Links.{Any, LinkStep}
use Rattle.world_traits.specs.Moments.{Clock, Moment, Since, grow}
use Rattle.world_traits.proofs.Passing.{since_then, since_weaker}
use Rattle.world_traits.proofs.Traces.{carried_now}
use Rattle.play_driver.specs.Joining.{Grows}
use Rattle.play_driver.specs.Questioning.{Conversing, RunStep}
use Rattle.play_driver.specs.Questioning.Conversing.{answering, sending}
use Rattle.play_driver.specs.Serving.{AllServing, IsServing}
use Rattle.play_driver.proofs.Longer.{one_told}
use Rattle.play_driver.proofs.Parts.{grows, since_first}
use Rattle.mail_top.specs.Connecting.{ConnectsAtFirst, SameOutside}
use Rattle.mail_drill.specs.Connected.{IsMade, IsTold, Untouched, WasBare}
use Rattle.mail_drill.proofs.ServedCalls.{any_chain, same_clock, untouched_now}

-- of two clocks that grew to one the one comes before the other
either_first : (k l : Clock) (xs ys : List Moment) → grow k xs ≡ grow l ys → Grows k l ⊎ Grows l k
either_first k l [] ys is = inr (record { added = ys; grown = is; each = any_chain l ys })
either_first k l (x ∷ xs) [] is = inl (record { added = x ∷ xs; grown = sym is; each = any_chain k (x ∷ xs) })
either_first k l (x ∷ xs) (y ∷ ys) is = either_first k l xs ys (same_clock (grow k xs) (grow l ys) x y is)

pub first_of : (k l new : Clock) → Grows k new → Grows l new → Grows k l ⊎ Grows l k
first_of k l new a b = either_first k l a.added b.added (sym a.grown ∙ b.grown)

-- the text that arrives has a whole part
abbrev HasPart : Peer → Type 0
HasPart p = (a : Arriving) → p.talk.arriving ≡ Some a → a.parts ≡ [] → ⊥

part_answered : (p q : Peer) → Answering p q → HasPart p → HasPart q
part_answered p q stays has = has
part_answered p q (others t batch) has = has
part_answered p q (goes_on a is unasked) has = λ b same none. has a is (ap (λ (x : Arriving). x.parts) (same_Some (record a { asked = true }) b same) ∙ none)
part_answered p q (refuses a r is unasked refusal) has = λ b same none. none-some b same
part_answered p q (carries w r t after is out) has = has

part_connected : (p q : Peer) → Connecting p q → HasPart p → HasPart q
part_connected p q (as_before step) has = part_answered p q step has
part_connected p q ends has = λ b same none. none-some b same
part_connected p q (begins greeting is) has = λ b same none. none-some b same

part_arrived : (tag : Tag) (command : Command) (before : List (List ℕ)) (part : List ℕ) (behind : List (List ℕ)) (p : Peer) →
    HasPart (arrived tag command before part behind p)
part_arrived tag command before part [] p = λ b same none. none-some b same
part_arrived tag command before part (next ∷ behind) p = λ b same none.
    let parts : before ++ part ∷ [] ≡ b.parts =
    ap (λ (x : Arriving). x.parts) (same_Some (record { tag = tag; parts = before ++ part ∷ []; asked = false }) b same) in
    omega (arith, ap length parts, ap length none, length-append before (part ∷ []))

part_asked : (told : List Response) (tag : Tag) (command : Command) (p q : Peer) → Asking told tag command p q → HasPart p → HasPart q
part_asked told tag command p q (answers step) has = part_answered p q step has
part_asked told tag command p q (arrives before part behind is awaits first) has = part_arrived tag command before part behind p

part_talked : (p q : Peer) → Conversing p q → HasPart p → HasPart q
part_talked p q (answering step) has = part_answered p q step has
part_talked p q (sending told tag command remains asks) has = part_asked told tag command p q asks has

-- how a run goes on: what isn't on the disk stays, or a connection is made, or it talks over the one that it has
abbrev GoesBy : Moment → Moment → Type 0
GoesBy m n = SameOutside m n ⊎ (LinkStep Connecting m n ⊎ RunStep m n)

part_kept : (m n : Moment) → GoesBy m n → HasPart m.outside → HasPart n.outside
part_kept m n (inl same) has = subst HasPart (sym same) has
part_kept m n (inr (inl step)) has = part_connected m.outside n.outside step.outside has
part_kept m n (inr (inr (inl (inl same)))) has = subst HasPart (sym same) has
part_kept m n (inr (inr (inl (inr step)))) has = part_talked m.outside n.outside step.outside has
part_kept m n (inr (inr (inr step))) has =
    part_asked step.outside.told step.outside.tag _ m.outside n.outside step.outside.asks has

all_steps : (old new : Clock) → ConnectsAtFirst old new → Since Any GoesBy old new
all_steps old new c =
    let first = since_weaker Any Any SameOutside GoesBy (λ m any. any) (λ m n same. inl same) old c.first c.opens in
    let second = since_weaker Any Any (LinkStep Connecting) GoesBy (λ m any. any) (λ m n step. inr (inl step)) c.first c.run.at c.run.connects in
    let last = since_weaker Any Any RunStep GoesBy (λ m any. any) (λ m n step. inr (inr step)) c.run.at new c.run.behind in
    since_then Any GoesBy old c.run.at new (since_then Any GoesBy old c.first c.run.at first second) last

module _ (old new : Clock) (connects : ConnectsAtFirst old new) (untouched : Untouched old) (grown : Grows old new) where
  has_part : (at : Clock) → Grows old at → Grows at new → HasPart at.now.outside
  has_part at a b =
      carried_now Any (λ m. HasPart m.outside) GoesBy (λ m n here step has. part_kept m n step has) old
      (λ x same none. none-some x (sym (untouched_now old untouched).none ∙ same)) at
      (since_first Any GoesBy old at new a b (all_steps old new connects))

  -- so none came in pieces
  pub not_bare : WasBare new → ⊥
  not_bare bare =
      ⊎_elim (λ (early : Grows bare.at old). none-some bare.is.text (sym (untouched bare.at early).none ∙ bare.is.arrives))
      (λ (late : Grows old bare.at). has_part bare.at late bare.later bare.is.text bare.is.arrives bare.is.none)
      (first_of bare.at old new bare.later grown)

  -- a connection that was made was made in this time, and served
  pub all_serving : IsMade new → AllServing old new
  all_serving is =
      let more = grows IsTold IsServing is.made new is.served.later in
      record {
        made = is.made;
        before = ⊎_elim (λ (early : Grows is.made old).
            absurd (omega (arith, ap length (untouched is.made early).untold, one_told is.made.now is.fresh)))
            (λ (late : Grows old is.made). late) (first_of is.made old new more grown);
        fresh = is.fresh;
        hello = is.hello;
        later = since_weaker IsTold Any IsServing IsServing (λ m told. tt) (λ m n serves. serves) is.made new is.served.later;
      }
