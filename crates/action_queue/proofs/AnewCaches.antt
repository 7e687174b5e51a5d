-- A cache that is told anew.
use Rattle.std.proofs.Common.{◌≡◌, ℕ, ◌≤◌, Bool, true, false, not, cond, List, [], ◌∷◌, ◌++◌, length, Option, Some, None}
use Rattle.std.proofs.Common.{refl, sym, ◌∙◌, ap, subst, arith, append_assoc, length-append}
use Rattle.std.specs.Prelude.{◌==◌, nat_lt, is_none, bytes_eq}
use Rattle.std.proofs.lemmas.List.{append-nil}
use Rattle.std.proofs.lemmas.Bool.{eq-eqb, cond-true, cond-false, le-ltb}
use Rattle.uid_sets.specs.declared.uid.UidRange.{UidRange}
use Rattle.mailbox_cache.specs.Cache.{numbered}
use Rattle.mailbox_cache.specs.Rows.{RisesAbove, Rises, put_rows, without_uids}
use Rattle.mailbox_cache.specs.declared.cache.Cache.{Cache}
use Rattle.mailbox_cache.specs.declared.delta.Delta.{Delta}
use Rattle.mailbox_cache.specs.declared.row.Row.{Row}
use Rattle.action_queue.specs.Book.{Meaning, after, cache_of, cache_at, known_at, put_cache, learned}
use Rattle.action_queue.specs.Restating.{FoldsTo, book_of, AreBehind, TellsRows, TellParts, TellsCache, IsWellCache, joined}
use Rattle.action_queue.specs.Rules.{is_unknown, is_wrong_whole, is_wrong_validity, is_lower_mark, first_broken}
use Rattle.action_queue.specs.Writable.{HaveFewFlags}
use Rattle.action_queue.specs.declared.book.Known.{Known}
use Rattle.action_queue.specs.declared.event.Event.{Event}
use Rattle.action_queue.specs.declared.event.Event.TheVariants as events
use Rattle.action_queue.specs.declared.rule.Rule.{Rule}
use Rattle.action_queue.specs.declared.rule.Version.{Version}
use Rattle.action_queue.proofs.Anew.{rows_follow}

-- ---- rows that rise, cut

weaken : (low high : ℕ) (b : List (ℕ × Row)) → low ≤ high → RisesAbove high b → RisesAbove low b
weaken low high [] le a = tt
weaken low high (r ∷ b) le a = (omega (arith, le, a.0), a.1)

tail_above : (floor : ℕ) (a b : List (ℕ × Row)) → RisesAbove floor (a ++ b) → RisesAbove floor b
tail_above floor [] b h = h
tail_above floor (x ∷ a) b h = weaken floor x.0 b (omega (arith, h.0)) (tail_above x.0 a b h.1)

front_above : (floor : ℕ) (a b : List (ℕ × Row)) → RisesAbove floor (a ++ b) → RisesAbove floor a
front_above floor [] b h = tt
front_above floor (x ∷ a) b h = (h.0, front_above x.0 a b h.1)

above_rises : (floor : ℕ) (b : List (ℕ × Row)) → RisesAbove floor b → Rises b
above_rises floor [] h = tt
above_rises floor (y ∷ b) h = h.1

rises_tail : (a b : List (ℕ × Row)) → Rises (a ++ b) → Rises b
rises_tail [] b h = h
rises_tail (x ∷ a) b h = above_rises x.0 b (tail_above x.0 a b h)

rises_front : (a b : List (ℕ × Row)) → Rises (a ++ b) → Rises a
rises_front [] b h = tt
rises_front (x ∷ a) b h = front_above x.0 a b h

behind_none : (b : List (ℕ × Row)) → AreBehind b []
behind_none [] = tt
behind_none (r ∷ b) = (tt, behind_none b)

behind_one : (x : ℕ × Row) (a b : List (ℕ × Row)) → RisesAbove x.0 b → AreBehind b a → AreBehind b (x ∷ a)
behind_one x a [] above behind = tt
behind_one x a (r ∷ b) above behind = ((above.0, behind.0), behind_one x a b (weaken x.0 r.0 b (omega (arith, above.0)) above.1) behind.1)

behind_above : (floor : ℕ) (a b : List (ℕ × Row)) → RisesAbove floor (a ++ b) → AreBehind b a
behind_above floor [] b h = behind_none b
behind_above floor (x ∷ a) b h = behind_one x a b (tail_above x.0 a b h.1) (behind_above x.0 a b h.1)

behind_all : (a b : List (ℕ × Row)) → Rises (a ++ b) → AreBehind b a
behind_all [] b h = behind_none b
behind_all (x ∷ a) b h = behind_one x a b (tail_above x.0 a b h) (behind_above x.0 a b h)

few_front : (a b : List (ℕ × Row)) → HaveFewFlags (a ++ b) → HaveFewFlags a
few_front [] b h = tt
few_front (x ∷ a) b h = (h.0, few_front a b h.1)

few_tail : (a b : List (ℕ × Row)) → HaveFewFlags (a ++ b) → HaveFewFlags b
few_tail [] b h = h
few_tail (x ∷ a) b h = few_tail a b h.1

none_without : (rows : List (ℕ × Row)) → without_uids [] rows ≡ rows
none_without [] = refl
none_without (r ∷ rows) = ap (λ (l : List (ℕ × Row)). r ∷ l) (none_without rows)

-- ---- the mailbox of a name

never_none : (b : Bool) (k : Known) (o : Option Known) → b ≡ true → is_none (cond b (Some k) o) ≡ false
never_none true k o e = refl
never_none false k o e = absurd cc

cases_of : (b : Bool) (P : Type 0) → (b ≡ true → P) → (b ≡ false → P) → P
cases_of true P t f = t refl
cases_of false P t f = f refl

-- a cache that was put is there
pub cache_put : (name : List ℕ) (c : Option Cache) (boxes : List Known) → is_unknown boxes name ≡ false → cache_at name (put_cache name c boxes) ≡ c
cache_put name c [] known = absurd cc
cache_put name c (k ∷ ks) known =
    let test = bytes_eq k.name name in
    cases_of (bytes_eq k.name name) (cache_at name (put_cache name c (k ∷ ks)) ≡ c)
    (λ t. ap (cache_at name) (cond-true (bytes_eq k.name name) (record k { cache = c } ∷ ks) (k ∷ put_cache name c ks) t)
    ∙ ap cache_of (cond-true (bytes_eq k.name name) (Some (record k { cache = c })) (known_at name ks) t))
    (λ f. ap (cache_at name) (cond-false (bytes_eq k.name name) (record k { cache = c } ∷ ks) (k ∷ put_cache name c ks) f)
    ∙ ap cache_of (cond-false (bytes_eq k.name name) (Some k) (known_at name (put_cache name c ks)) f)
    ∙ cache_put name c ks (sym (ap is_none (cond-false (bytes_eq k.name name) (Some k) (known_at name ks) f)) ∙ known))

pub known_put : (name : List ℕ) (c : Option Cache) (boxes : List Known) → is_unknown boxes name ≡ false → is_unknown (put_cache name c boxes) name ≡ false
known_put name c [] known = absurd cc
known_put name c (k ∷ ks) known =
    cases_of (bytes_eq k.name name) (is_unknown (put_cache name c (k ∷ ks)) name ≡ false)
    (λ t. ap (λ (l : List Known). is_unknown l name) (cond-true (bytes_eq k.name name) (record k { cache = c } ∷ ks) (k ∷ put_cache name c ks) t)
    ∙ ap is_none (cond-true (bytes_eq k.name name) (Some (record k { cache = c })) (known_at name ks) t))
    (λ f. ap (λ (l : List Known). is_unknown l name) (cond-false (bytes_eq k.name name) (record k { cache = c } ∷ ks) (k ∷ put_cache name c ks) f)
    ∙ ap is_none (cond-false (bytes_eq k.name name) (Some k) (known_at name (put_cache name c ks)) f)
    ∙ known_put name c ks (sym (ap is_none (cond-false (bytes_eq k.name name) (Some k) (known_at name ks) f)) ∙ known))

-- of two that are put the second stays
pub put_again : (name : List ℕ) (c d : Option Cache) (boxes : List Known) → put_cache name d (put_cache name c boxes) ≡ put_cache name d boxes
put_again name c d [] = refl
put_again name c d (k ∷ ks) =
    cases_of (bytes_eq k.name name) (put_cache name d (put_cache name c (k ∷ ks)) ≡ put_cache name d (k ∷ ks))
    (λ t. ap (put_cache name d) (cond-true (bytes_eq k.name name) (record k { cache = c } ∷ ks) (k ∷ put_cache name c ks) t)
    ∙ cond-true (bytes_eq k.name name) (record k { cache = d } ∷ ks) (record k { cache = c } ∷ put_cache name d ks) t
    ∙ sym (cond-true (bytes_eq k.name name) (record k { cache = d } ∷ ks) (k ∷ put_cache name d ks) t))
    (λ f. ap (put_cache name d) (cond-false (bytes_eq k.name name) (record k { cache = c } ∷ ks) (k ∷ put_cache name c ks) f)
    ∙ cond-false (bytes_eq k.name name) (record k { cache = d } ∷ put_cache name c ks) (k ∷ put_cache name d (put_cache name c ks)) f
    ∙ ap (λ (l : List Known). k ∷ l) (put_again name c d ks)
    ∙ sym (cond-false (bytes_eq k.name name) (record k { cache = d } ∷ ks) (k ∷ put_cache name d ks) f))

-- ---- one event

none_of_five : (a b c d i : Bool) (w x y z l : Rule) → a ≡ false → b ≡ false → c ≡ false → d ≡ false → i ≡ false →
    cond a (Some w) (cond b (Some x) (cond c (Some y) (cond d (Some z) (cond i (Some l) None)))) ≡ None
none_of_five true b c d i w x y z l e f g h p = absurd cc
none_of_five false true c d i w x y z l e f g h p = absurd cc
none_of_five false false true d i w x y z l e f g h p = absurd cc
none_of_five false false false true i w x y z l e f g h p = absurd cc
none_of_five false false false false true w x y z l e f g h p = absurd cc
none_of_five false false false false false w x y z l e f g h p = refl

-- the cache with other rows
abbrev pub with_rows : Cache → List (ℕ × Row) → Cache
with_rows cache rows = record { validity = cache.validity; highest = cache.highest; uidnext = cache.uidnext; rows = rows }

numbered_is : (name : List ℕ) (cache : Cache) (whole : Bool) (rows : List (ℕ × Row)) (event : Event) (t : TellsRows name cache whole rows event)
    (all : List (ℕ × Row)) → numbered t.delta all ≡ with_rows cache all
numbered_is name cache whole rows event t all =
    ap (λ (v : ℕ). record { validity = v; highest = t.delta.highest; uidnext = t.delta.uidnext; rows = all }) t.validity
    ∙ ap (λ (h : ℕ). record { validity = cache.validity; highest = h; uidnext = t.delta.uidnext; rows = all }) t.highest
    ∙ ap (λ (u : ℕ). record { validity = cache.validity; highest = cache.highest; uidnext = u; rows = all }) t.uidnext

module _ (version : Version) (boxes : List Known) (name : List ℕ) (cache : Cache) (known : is_unknown boxes name ≡ false) where
  learn_lawful : (delta : Delta) (o : Option Cache) → cache_at name boxes ≡ o → is_wrong_whole o delta ≡ false → is_wrong_validity o delta ≡ false →
      is_lower_mark o delta ≡ false → nat_lt 200000 (length (learned o delta).rows) ≡ false →
      first_broken version (book_of boxes []) (events.Learn name delta) ≡ None
  learn_lawful delta o is a b c d =
      none_of_five (is_unknown boxes name) (is_wrong_whole (cache_at name boxes) delta) (is_wrong_validity (cache_at name boxes) delta)
      (is_lower_mark (cache_at name boxes) delta) (nat_lt 200000 (length (learned (cache_at name boxes) delta).rows)) _ _ _ _ _ known
      (ap (λ (p : Option Cache). is_wrong_whole p delta) is ∙ a) (ap (λ (p : Option Cache). is_wrong_validity p delta) is ∙ b)
      (ap (λ (p : Option Cache). is_lower_mark p delta) is ∙ c) (ap (λ (p : Option Cache). nat_lt 200000 (length (learned p delta).rows)) is ∙ d)

  learn_after : (delta : Delta) (o : Option Cache) (c : Cache) → cache_at name boxes ≡ o → learned o delta ≡ c →
      after (book_of boxes []) (events.Learn name delta) ≡ book_of (put_cache name (Some c) boxes) []
  learn_after delta o c is same =
      ap (λ (d : Cache). book_of (put_cache name (Some d) boxes) []) (ap (λ (p : Option Cache). learned p delta) is ∙ same)

same_number : (a b : ℕ) → a ≡ b → not (a == b) ≡ false
same_number a b e = ap not (eq-eqb a b e)

-- one event, and those behind it
one_event : (version : Version) (boxes : List Known) (name : List ℕ) (cache : Cache) (whole : Bool) (rows all : List (ℕ × Row)) (event : Event)
    (events : List Event) (end : Meaning) (o : Option Cache) → (t : TellsRows name cache whole rows event) → is_unknown boxes name ≡ false →
    cache_at name boxes ≡ o → is_wrong_whole o t.delta ≡ false → is_wrong_validity o t.delta ≡ false → is_lower_mark o t.delta ≡ false →
    learned o t.delta ≡ with_rows cache all → length all ≤ 200000 → length rows ≤ 200000 → HaveFewFlags rows →
    FoldsTo version (book_of (put_cache name (Some (with_rows cache all)) boxes) []) events end →
    FoldsTo version (book_of boxes []) (event ∷ events) end
one_event version boxes name cache whole rows all event evs end o t known is a b c same few short flags rest =
    subst (λ (e : Event). FoldsTo version (book_of boxes []) (e ∷ evs) end) (sym t.is) (
      learn_lawful version boxes name cache known t.delta o is a b c
          (ap (λ (d : Cache). nat_lt 200000 (length d.rows)) same ∙ le-ltb 200000 (length all) few),
      (subst (λ (l : List (ℕ × Row)). length l ≤ 200000) (sym t.rows_are) short, subst HaveFewFlags (sym t.rows_are) flags),
      subst (λ (m : Meaning). FoldsTo version m evs end) (sym (learn_after version boxes name cache known t.delta o (with_rows cache all) is same)) rest,
    )

module _ (version : Version) (boxes : List Known) (name : List ℕ) (cache : Cache) (known : is_unknown boxes name ≡ false) where
  -- the later parts, behind what was told so far
  later_fold : (so_far : List (ℕ × Row)) (parts : List (List (ℕ × Row))) (evs : List Event) → Rises (so_far ++ joined parts) →
      length (so_far ++ joined parts) ≤ 200000 → HaveFewFlags (so_far ++ joined parts) → TellParts name cache parts evs →
      FoldsTo version (book_of (put_cache name (Some (with_rows cache so_far)) boxes) []) evs
      (book_of (put_cache name (Some (with_rows cache (so_far ++ joined parts))) boxes) [])
  later_fold so_far [] [] rises few flags tells =
      ap (λ (l : List (ℕ × Row)). book_of (put_cache name (Some (with_rows cache l)) boxes) []) (append-nil so_far)
  later_fold so_far [] (e ∷ evs) rises few flags tells = absurd tells
  later_fold so_far (part ∷ parts) [] rises few flags tells = absurd tells
  later_fold so_far (part ∷ parts) (e ∷ evs) rises few flags tells =
      let t = tells.0 in
      let whole : (so_far ++ part) ++ joined parts ≡ so_far ++ (part ++ joined parts) = append_assoc so_far part (joined parts) in
      let rises' : Rises ((so_far ++ part) ++ joined parts) = subst Rises (sym whole) rises in
      let both = rises_front (so_far ++ part) (joined parts) rises' in
      let now = put_cache name (Some (with_rows cache so_far)) boxes in
      let there : cache_at name (put_cache name (Some (with_rows cache so_far)) boxes) ≡ Some (with_rows cache so_far) =
      cache_put name (Some (with_rows cache so_far)) boxes known in
      let same : learned (Some (with_rows cache so_far)) t.delta ≡ with_rows cache (so_far ++ part) =
      numbered_is name cache false part e t (put_rows t.delta.rows (without_uids t.delta.vanished so_far))
      ∙ ap (λ (l : List (ℕ × Row)). with_rows cache (put_rows t.delta.rows l))
      (ap (λ (v : List UidRange). without_uids v so_far) t.vanished ∙ none_without so_far)
      ∙ ap (λ (l : List (ℕ × Row)). with_rows cache (put_rows l so_far)) t.rows_are
      ∙ ap (with_rows cache) (rows_follow so_far part (behind_all so_far part both) (rises_tail so_far part both)) in
      one_event version (put_cache name (Some (with_rows cache so_far)) boxes) name cache false part (so_far ++ part) e evs _
      (Some (with_rows cache so_far)) t (known_put name (Some (with_rows cache so_far)) boxes known) there t.whole_is
      (same_number cache.validity t.delta.validity (sym t.validity))
      (le-ltb t.delta.highest cache.highest (omega (arith, t.highest))) same
      (omega (arith, few, ap length whole, length-append (so_far ++ part) (joined parts)))
      (omega (arith, few, length-append so_far (part ++ joined parts), length-append part (joined parts)))
      (few_front part (joined parts) (few_tail so_far (part ++ joined parts) flags))
      (subst (λ (l : List Known). FoldsTo version (book_of l []) evs (book_of (put_cache name (Some (with_rows cache (so_far ++ (part ++ joined parts)))) boxes) []))
      (sym (put_again name (Some (with_rows cache so_far)) (Some (with_rows cache (so_far ++ part))) boxes))
      (subst (λ (l : List (ℕ × Row)). FoldsTo version (book_of (put_cache name (Some (with_rows cache (so_far ++ part))) boxes) []) evs
      (book_of (put_cache name (Some (with_rows cache l)) boxes) [])) whole
      (later_fold (so_far ++ part) parts evs rises' (omega (arith, few, ap length whole)) (subst HaveFewFlags (sym whole) flags) tells.1)))

  pub cache_folds : (first : List (ℕ × Row)) (later : List (List (ℕ × Row))) (evs : List Event) → cache_at name boxes ≡ None → IsWellCache cache →
      cache.rows ≡ first ++ joined later → TellsCache name cache first later evs →
      FoldsTo version (book_of boxes []) evs (book_of (put_cache name (Some cache) boxes) [])
  cache_folds first later [] none well is tells = absurd tells
  cache_folds first later (e ∷ evs) none well is tells =
      let t = tells.0 in
      let rises : Rises (first ++ joined later) = subst Rises is well.rising in
      let flags : HaveFewFlags (first ++ joined later) = subst HaveFewFlags is well.flags in
      let few : length (first ++ joined later) ≤ 200000 = subst (λ (l : List (ℕ × Row)). length l ≤ 200000) is well.few in
      let end : with_rows cache (first ++ joined later) ≡ cache = ap (with_rows cache) (sym is) in
      one_event version boxes name cache true first first e evs _ None t known none (ap not t.whole_is) refl refl
      (numbered_is name cache true first e t t.delta.rows ∙ ap (with_rows cache) t.rows_are)
      (omega (arith, few, length-append first (joined later))) (omega (arith, few, length-append first (joined later)))
      (few_front first (joined later) flags)
      (subst (λ (d : Cache). FoldsTo version (book_of (put_cache name (Some (with_rows cache first)) boxes) []) evs
      (book_of (put_cache name (Some d) boxes) [])) end (later_fold first later evs rises few flags tells.1))
