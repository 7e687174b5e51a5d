-- Over one connection what was told grows longer; so a moment at which a greeting alone was told comes before each reply.
use Rattle.std.proofs.Common.{◌≡◌, ◌⊎◌, inl, inr, ⊎_elim, ℕ, ◌≤◌, ◌<◌, List, [], ◌∷◌, ◌++◌, length, refl, sym, ◌∙◌, ap, subst, arith}
use Rattle.std.proofs.Common.{length-append}
use Rattle.mail_base.specs.declared.tag.Tag.{Tag}
use Rattle.imap_model.specs.CarriedOut.{told_in}
use Rattle.imap_model.specs.Talking.{Answering, Peer, Talk, arrived}
use Rattle.imap_model.specs.Talking.Answering.{carries, goes_on, others, refuses, stays}
use Rattle.imap_model.specs.declared.command.Command.{Command}
use Rattle.imap_model.specs.declared.replies.Replies.{Replies}
use Rattle.imap_model.specs.declared.response.Response.{Response}
use Rattle.imap_model.specs.declared.response.Response.TheVariants as responses
use Rattle.world_traits.specs.Asking.{Asking}
use Rattle.world_traits.specs.Asking.Asking.{answers, arrives}
use Rattle.world_traits.specs.Connected.{IsGreeted}
use Rattle.world_traits.specs.Links.{Any, LinkStep, Linked}
use Rattle.world_traits.specs.Moments.{Chain, Clock, Moment, grow, tick}
use Rattle.world_traits.proofs.Traces.{carried_now, grow_same}
use Rattle.play_driver.specs.Joining.{AnyTwo, Grows}
use Rattle.play_driver.specs.Questioning.{Questioning}
use Rattle.play_driver.specs.Questioning.Questioning.{answering, asking}
use Rattle.play_driver.specs.Serving.{begins_preauth}
use Rattle.play_driver.proofs.Parts.{grow_more, grows, grows_then, since_first}

abbrev pub Told : Moment → ℕ
Told m = length m.outside.talk.told

pub longer : (told : List Response) (tag : Tag) (r : Replies) → length told < length (told ++ told_in tag r)
longer told tag r = omega (arith, length-append told (told_in tag r), length-append r.untagged (responses.Done tag r.ending r.code ∷ []))

longer_by : (told : List Response) (x : Response) → length told ≤ length (told ++ x ∷ [])
longer_by told x = omega (arith, length-append told (x ∷ []))

longer_answer : (p q : Peer) → Answering p q → length p.talk.told ≤ length q.talk.told
longer_answer p q stays = omega arith
longer_answer p q (others t batch) = omega arith
longer_answer p q (goes_on a is unasked) = longer_by p.talk.told responses.Go
longer_answer p q (refuses a r is unasked refusal) = omega (arith, longer p.talk.told a.tag r)
longer_answer p q (carries w r t after is out) = omega (arith, longer p.talk.told w.tag r)

longer_arrives : (tag : Tag) (command : Command) (before : List (List ℕ)) (part : List ℕ) (behind : List (List ℕ)) (p : Peer) →
    length p.talk.told ≤ length (arrived tag command before part behind p).talk.told
longer_arrives tag command before part [] p = omega arith
longer_arrives tag command before part (next ∷ behind) p = omega arith

longer_asking : (told : List Response) (tag : Tag) (command : Command) (p q : Peer) → Asking told tag command p q →
    length p.talk.told ≤ length q.talk.told
longer_asking told tag command p q (answers step) = longer_answer p q step
longer_asking told tag command p q (arrives before part behind is awaits first) = longer_arrives tag command before part behind p

longer_question : (p q : Peer) → Questioning p q → length p.talk.told ≤ length q.talk.told
longer_question p q (answering step) = longer_answer p q step
longer_question p q (asking told tag command question remains step) = longer_asking told tag command p q step

pub longer_on : (old new : Clock) → Linked Questioning old new → Told old.now ≤ Told new.now
longer_on old new s =
    carried_now Any (λ m. Told old.now ≤ Told m) (LinkStep Questioning)
    (λ m n here step so. omega (arith, so, longer_question m.outside n.outside step.outside)) old (omega arith) new s

-- and it begins as it began
front_same : (xs ys : List Response) → 1 ≤ length xs → begins_preauth (xs ++ ys) ≡ begins_preauth xs
front_same [] ys some = absurd (omega (arith, some))
front_same (x ∷ xs) ys some = refl

begins_answer : (p q : Peer) → Answering p q → 1 ≤ length p.talk.told → begins_preauth q.talk.told ≡ begins_preauth p.talk.told
begins_answer p q stays some = refl
begins_answer p q (others t batch) some = refl
begins_answer p q (goes_on a is unasked) some = front_same p.talk.told (responses.Go ∷ []) some
begins_answer p q (refuses a r is unasked refusal) some = front_same p.talk.told (told_in a.tag r) some
begins_answer p q (carries w r t after is out) some = front_same p.talk.told (told_in w.tag r) some

begins_arrives : (tag : Tag) (command : Command) (before : List (List ℕ)) (part : List ℕ) (behind : List (List ℕ)) (p : Peer) →
    begins_preauth (arrived tag command before part behind p).talk.told ≡ begins_preauth p.talk.told
begins_arrives tag command before part [] p = refl
begins_arrives tag command before part (next ∷ behind) p = refl

begins_asking : (told : List Response) (tag : Tag) (command : Command) (p q : Peer) → Asking told tag command p q → 1 ≤ length p.talk.told →
    begins_preauth q.talk.told ≡ begins_preauth p.talk.told
begins_asking told tag command p q (answers step) some = begins_answer p q step some
begins_asking told tag command p q (arrives before part behind is awaits first) some = begins_arrives tag command before part behind p

begins_question : (p q : Peer) → Questioning p q → 1 ≤ length p.talk.told → begins_preauth q.talk.told ≡ begins_preauth p.talk.told
begins_question p q (answering step) some = begins_answer p q step some
begins_question p q (asking told tag command question remains step) some = begins_asking told tag command p q step some

pub begins_on : (old new : Clock) → Linked Questioning old new → 1 ≤ Told old.now →
    begins_preauth new.now.outside.talk.told ≡ begins_preauth old.now.outside.talk.told
begins_on old new s some =
    (carried_now Any (λ m. (1 ≤ Told m) × (begins_preauth m.outside.talk.told ≡ begins_preauth old.now.outside.talk.told)) (LinkStep Questioning)
    (λ m n here step so. (
      omega (arith, so.0, longer_question m.outside n.outside step.outside),
      begins_question m.outside n.outside step.outside so.0 ∙ so.1,
    )) old (some, refl) new s).1

-- as a connection has been made, one thing was told
pub one_told : (m : Moment) → IsGreeted m.outside → Told m ≡ 1
one_told m fresh = ap (λ (t : Talk). length t.told) fresh.talk

any_chain : (c : Clock) (xs : List Moment) → Chain Any AnyTwo c xs
any_chain c [] = tt
any_chain c (x ∷ xs) = (tt, tt, any_chain c xs)

up : (old : Clock) (ks ls ms : List Moment) → ms ≡ ls ++ ks → Grows (grow old ks) (grow old ms)
up old ks ls ms e = record { added = ls; grown = ap (grow old) e ∙ sym (grow_more old ks ls); each = any_chain (grow old ks) ls }

same_rest : (b d : Moment) (xs ys : List Moment) → b ∷ xs ≡ d ∷ ys → xs ≡ ys
same_rest b d xs ys e = cc

-- of two clocks of one time the one comes before the other
front_of : (old : Clock) (ks ls ms ns : List Moment) → ls ++ ks ≡ ns ++ ms → Grows (grow old ks) (grow old ms) ⊎ Grows (grow old ms) (grow old ks)
front_of old ks [] ms ns e = inr (up old ms ns ks e)
front_of old ks (b ∷ ls) ms [] e = inl (up old ks (b ∷ ls) ms (sym e))
front_of old ks (b ∷ ls) ms (d ∷ ns) e = front_of old ks ls ms ns (same_rest b d (ls ++ ks) (ns ++ ms) e)

whole : (old mid new : Clock) (a : Grows old mid) (b : Grows mid new) → new ≡ grow old (b.added ++ a.added)
whole old mid new a b = b.grown ∙ ap (λ (x : Clock). grow x b.added) a.grown ∙ grow_more old a.added b.added

pub in_order : (old k l new : Clock) → Grows old k → Grows k new → Grows old l → Grows l new → Grows k l ⊎ Grows l k
in_order old k l new a b c d =
    let same = grow_same old (b.added ++ a.added) (d.added ++ c.added) (sym (whole old k new a b) ∙ whole old l new c d) in
    subst (λ (x : Clock). Grows x l ⊎ Grows l x) (sym a.grown)
    (subst (λ (x : Clock). Grows (grow old a.added) x ⊎ Grows x (grow old a.added)) (sym c.grown)
    (front_of old a.added b.added c.added d.added same))

same_clock : (k l : Clock) → k.now ≡ l.now → k.past ≡ l.past → k ≡ l
same_clock k l n p = ap (λ (m : Moment). record { now = m; past = k.past }) n ∙ ap (λ (ms : List Moment). record { now = l.now; past = ms }) p

same_head : (b d : Moment) (xs ys : List Moment) → b ∷ xs ≡ d ∷ ys → b ≡ d
same_head b d xs ys e = cc

-- the clock before a tick
tick_same : (k l : Clock) (m n : Moment) → tick k m ≡ tick l n → k ≡ l
tick_same k l m n e =
    let pasts = ap (λ (x : Clock). x.past) e in
    same_clock k l (same_head k.now l.now k.past l.past pasts) (same_rest k.now l.now k.past l.past pasts)

before_tick : (k at : Clock) (to : Moment) (xs : List Moment) → tick at to ≡ grow k xs → (tick at to ≡ k → ⊥) → Grows k at
before_tick k at to [] e other = absurd (other e)
before_tick k at to (x ∷ xs) e other = record { added = xs; grown = tick_same at (grow k xs) to x e; each = any_chain k xs }

-- A moment at which a greeting alone was told comes before one behind which more than that was told, over the same connection.
pub greeted_before : (old k at new : Clock) (to : Moment) → Grows old k → Grows k new → Grows old at → Linked Questioning (tick at to) new →
    IsGreeted k.now.outside → 1 < Told to → Grows k at
greeted_before old k at new to a b c behind fresh more =
    let t = tick at to in
    let reach = grows_then old at t c (record { added = to ∷ []; grown = refl; each = (tt, tt, tt) }) in
    let left = grows Any (LinkStep Questioning) t new behind in
    let other : t ≡ k → ⊥ = λ same. omega (arith, more, one_told k.now fresh, ap (λ (x : Clock). Told x.now) same) in
    ⊎_elim (λ (g : Grows k t). before_tick k at to g.added g.grown other)
    (λ (g : Grows t k). absurd (omega (
      arith,
      more,
      one_told k.now fresh,
      longer_on t k (since_first Any (LinkStep Questioning) t k new g b behind),
    ))) (in_order old k t new a b reach left)
