-- What is seen once something of a message is kept in one of the two maps.
use Rattle.std.proofs.Common.{◌≡◌, ℕ, Bool, true, false, cond, List, [], Option, Some, None, refl, sym, ◌∙◌, ap, subst}
use Rattle.std.specs.Prelude.{◌==◌, bytes_eq, OnSome, IsSome}
use Rattle.std.specs.BTreeMap.{get, is_at, Updates}
use Rattle.std.specs.Map.{lookup}
use Rattle.std.specs.Option.{option_map}
use Rattle.std.specs.Ordering.{nat_cmp}
use Rattle.std.proofs.lemmas.Bool.{cond_both, and_parts, and_from, false_from_ne_true, eqb-true}
use Rattle.std.proofs.lemmas.Slice.Eq.{bytes_eq-Decides}
use Rattle.mailbox_cache.specs.declared.row.Row.{Row}
use Rattle.action_queue.specs.Book.{known_at, cache_at, cache_of}
use Rattle.action_queue.specs.declared.book.Known.{Known}
use Rattle.local_view.specs.Messages.{is_same}
use Rattle.local_view.specs.Sights.{Sight, put, dummy, cached, sight_of, row_in, with_flags}
use Rattle.local_view.specs.Touching.{place_of, key_order, kept_at, left_in, left_as, seen_so_far, AreSame}
use Rattle.local_view.specs.declared.message.Message.{Message}
use Rattle.local_view.specs.declared.message.Message.TheVariants as message
use Rattle.local_view.specs.declared.touched.Touched.{Touched}
use Rattle.local_view.proofs.Keys.{key_is_at, numbers_equal}
use Rattle.local_view.proofs.Places.{nowhere, one_name}

pushed : {A B : Type 0} (f : A → B) (b : Bool) (x y : Option A) → option_map f (cond b x y) ≡ cond b (option_map f x) (option_map f y)
pushed f true x y = refl
pushed f false x y = refl

-- where the map of cached messages stays, so does what is kept of each
kept_same : (old new : Touched) (place : Option ℕ) (uid : ℕ) → new.cached ≡ old.cached → kept_at new place uid ≡ kept_at old place uid
kept_same old new None uid same = refl
kept_same old new (Some at) uid same = ap (λ m. get key_order m (at, uid)) same

-- a message that is there has what is kept of it now, and one that is gone stays so
left_now : (kept : Option (Option (List (List ℕ)))) (left : Option (List (List ℕ))) (row : Option Row) →
    OnSome left (IsSome (left_in kept row)) → left_in (Some left) row ≡ left_as left (left_in kept row)
left_now kept None None there = refl
left_now kept (Some flags) None there = refl
left_now None None (Some row) there = refl
left_now None (Some flags) (Some row) there = refl
left_now (Some None) None (Some row) there = refl
left_now (Some None) (Some flags) (Some row) there = absurd (cc)
left_now (Some (Some old)) None (Some row) there = refl
left_now (Some (Some old)) (Some flags) (Some row) there = refl

gone : (left : Option (List (List ℕ))) → left_as left None ≡ None
gone None = refl
gone (Some flags) = refl

-- the key of another message is another one
apart : (boxes : List Known) (name other : List ℕ) (uid number at place : ℕ) → place_of name boxes ≡ Some at → place_of other boxes ≡ Some place →
    is_same (message.Cached name uid) (message.Cached other number) ≡ false → is_at (key_order (at, uid)) (place, number) ≡ false
apart boxes name other uid number at place e f differ =
    false_from_ne_true _ (λ t.
    let parts : (at == place ≡ true) × (uid == number ≡ true) = and_parts (at == place) (uid == number) (sym (key_is_at (at, uid) (place, number)) ∙ t) in
    let same : name ≡ other = one_name 0 name other boxes at e (f ∙ ap Some (sym (eqb-true at place parts.0))) in
    let one : is_same (message.Cached name uid) (message.Cached other number) ≡ true =
    and_from (bytes_eq name other) (uid == number) ((bytes_eq-Decides name other).1 same) parts.1 in absurd (cc))

others : (boxes : List Known) (old new : Touched) (name other : List ℕ) (uid number at : ℕ) (left : Option (List (List ℕ))) (place : Option ℕ) →
    place_of name boxes ≡ Some at → place_of other boxes ≡ place → Updates key_order old.cached new.cached (at, uid) (Some left) →
    is_same (message.Cached name uid) (message.Cached other number) ≡ false → kept_at new place number ≡ kept_at old place number
others boxes old new name other uid number at left None e f h differ = refl
others boxes old new name other uid number at left (Some place) e f h differ =
    h.2 (place, number) (apart boxes name other uid number at place e f differ)

-- What is kept of a cached message counts for it alone.
pub kept_cached : (boxes : List Known) (old new : Touched) (name : List ℕ) (uid at : ℕ) (left : Option (List (List ℕ))) →
    OnSome left (IsSome (seen_so_far boxes old (message.Cached name uid))) →
    place_of name boxes ≡ Some at → new.made ≡ old.made → Updates key_order old.cached new.cached (at, uid) (Some left) →
    AreSame (seen_so_far boxes new) (put (message.Cached name uid) (left_as left (seen_so_far boxes old (message.Cached name uid))) (seen_so_far boxes old))
kept_cached boxes old new name uid at left there place made h (message.Made n) = ap (λ m. option_map dummy (get nat_cmp m n)) made
kept_cached boxes old new name uid at left there place made h (message.Cached other number) =
    cond_both (is_same (message.Cached name uid) (message.Cached other number)) (left_as left (seen_so_far boxes old (message.Cached name uid)))
    (seen_so_far boxes old (message.Cached other number)) (λ (o : Option Sight). seen_so_far boxes new (message.Cached other number) ≡ o)
    (λ t. let parts = and_parts (bytes_eq name other) (uid == number) t in
    subst (λ (b : List ℕ). seen_so_far boxes new (message.Cached b number) ≡ left_as left (seen_so_far boxes old (message.Cached name uid)))
    ((bytes_eq-Decides name other).0 parts.0)
    (subst (λ (u : ℕ). seen_so_far boxes new (message.Cached name u) ≡ left_as left (seen_so_far boxes old (message.Cached name uid)))
    (eqb-true uid number parts.1)
    (ap (λ p. left_in (kept_at new p uid) (row_in uid (cache_at name boxes))) place ∙ ap (λ k. left_in k (row_in uid (cache_at name boxes))) h.1
    ∙ left_now (kept_at old (place_of name boxes) uid) left (row_in uid (cache_at name boxes)) there)))
    (λ f. ap (λ k. left_in k (row_in number (cache_at other boxes)))
    (others boxes old new name other uid number at left (place_of other boxes) place refl h f))

-- a mailbox that isn't known has no message that could go
pub kept_nowhere : (boxes : List Known) (touched : Touched) (name : List ℕ) (uid : ℕ) (left : Option (List (List ℕ))) → place_of name boxes ≡ None →
    AreSame (seen_so_far boxes touched)
    (put (message.Cached name uid) (left_as left (seen_so_far boxes touched (message.Cached name uid))) (seen_so_far boxes touched))
kept_nowhere boxes touched name uid left place (message.Made n) = refl
kept_nowhere boxes touched name uid left place (message.Cached other number) =
    let none : seen_so_far boxes touched (message.Cached name uid) ≡ None =
    ap (λ k. left_in (kept_at touched (place_of name boxes) uid) (row_in uid (cache_of k))) (nowhere 0 name boxes place) in
    cond_both (is_same (message.Cached name uid) (message.Cached other number)) (left_as left (seen_so_far boxes touched (message.Cached name uid)))
    (seen_so_far boxes touched (message.Cached other number)) (λ (o : Option Sight). seen_so_far boxes touched (message.Cached other number) ≡ o)
    (λ t. let parts = and_parts (bytes_eq name other) (uid == number) t in
    subst (λ (b : List ℕ). seen_so_far boxes touched (message.Cached b number) ≡ left_as left (seen_so_far boxes touched (message.Cached name uid)))
    ((bytes_eq-Decides name other).0 parts.0)
    (subst (λ (u : ℕ). seen_so_far boxes touched (message.Cached name u) ≡ left_as left (seen_so_far boxes touched (message.Cached name uid)))
    (eqb-true uid number parts.1) (none ∙ sym (ap (left_as left) none ∙ gone left))))
    (λ f. refl)

-- a message that is made is there
pub made_put : (boxes : List Known) (old new : Touched) (n : ℕ) (flags : List (List ℕ)) → new.cached ≡ old.cached →
    Updates nat_cmp old.made new.made n (Some flags) → AreSame (seen_so_far boxes new) (put (message.Made n) (Some (dummy flags)) (seen_so_far boxes old))
made_put boxes old new n flags cached h (message.Cached name uid) =
    ap (λ k. left_in k (row_in uid (cache_at name boxes))) (kept_same old new (place_of name boxes) uid cached)
made_put boxes old new n flags cached h (message.Made m) =
    ap (option_map dummy) (h.0 m) ∙ ap (λ b. option_map dummy (cond b (Some flags) (get nat_cmp old.made m))) (numbers_equal n m)
    ∙ pushed dummy (n == m) (Some flags) (get nat_cmp old.made m)

-- and one that is taken away isn't there
pub made_taken : (boxes : List Known) (old new : Touched) (n : ℕ) → new.cached ≡ old.cached → Updates nat_cmp old.made new.made n None →
    AreSame (seen_so_far boxes new) (put (message.Made n) None (seen_so_far boxes old))
made_taken boxes old new n cached h (message.Cached name uid) =
    ap (λ k. left_in k (row_in uid (cache_at name boxes))) (kept_same old new (place_of name boxes) uid cached)
made_taken boxes old new n cached h (message.Made m) =
    ap (option_map dummy) (h.0 m) ∙ ap (λ b. option_map dummy (cond b None (get nat_cmp old.made m))) (numbers_equal n m)
    ∙ pushed dummy (n == m) None (get nat_cmp old.made m)

untouched : (row : Option Row) → left_in None row ≡ option_map sight_of row
untouched None = refl
untouched (Some row) = refl

none_kept : (touched : Touched) (place : Option ℕ) (uid : ℕ) → touched.cached.entries ≡ [] → kept_at touched place uid ≡ None
none_kept touched None uid empty = refl
none_kept touched (Some at) uid empty = ap (lookup (is_at (key_order (at, uid)))) empty

-- where nothing is touched, the cached rows are as they are
pub nothing_touched : (boxes : List Known) (touched : Touched) → touched.cached.entries ≡ [] → touched.made.entries ≡ [] →
    AreSame (seen_so_far boxes touched) (cached boxes)
nothing_touched boxes touched cached made (message.Cached name uid) =
    ap (λ k. left_in k (row_in uid (cache_at name boxes))) (none_kept touched (place_of name boxes) uid cached) ∙ untouched (row_in uid (cache_at name boxes))
nothing_touched boxes touched cached made (message.Made n) = ap (λ es. option_map dummy (lookup (is_at (nat_cmp n)) es)) made

-- what is seen of a cached message, by its mailbox's place and what is known of it
pub seen_at : (boxes : List Known) (touched : Touched) (name : List ℕ) (uid : ℕ) (place : Option ℕ) (known : Option Known) →
    place_of name boxes ≡ place → known_at name boxes ≡ known →
    seen_so_far boxes touched (message.Cached name uid) ≡ left_in (kept_at touched place uid) (row_in uid (cache_of known))
seen_at boxes touched name uid place known at is =
    ap (λ p. left_in (kept_at touched p uid) (row_in uid (cache_at name boxes))) at
    ∙ ap (λ k. left_in (kept_at touched place uid) (row_in uid (cache_of k))) is

-- and its flags by its row
pub flags_at : (boxes : List Known) (touched : Touched) (name : List ℕ) (uid : ℕ) (place : Option ℕ) (known : Option Known) (row : Option Row) →
    place_of name boxes ≡ place → known_at name boxes ≡ known → row_in uid (cache_of known) ≡ row →
    option_map (λ sight. sight.flags) (left_in (kept_at touched place uid) row)
    ≡ option_map (λ sight. sight.flags) (seen_so_far boxes touched (message.Cached name uid))
flags_at boxes touched name uid place known row at is has =
    sym (ap (option_map (λ sight. sight.flags)) (seen_at boxes touched name uid place known at is ∙ ap (left_in (kept_at touched place uid)) has))

-- a message that was made has the flags that are kept of it
pub flags_made : (kept : Option (List (List ℕ))) → kept ≡ option_map (λ sight. sight.flags) (option_map dummy kept)
flags_made None = refl
flags_made (Some flags) = refl

flags_left : (flags : List (List ℕ)) (sight : Option Sight) → left_as (Some flags) sight ≡ option_map (with_flags flags) sight
flags_left flags None = refl
flags_left flags (Some sight) = refl

nothing_left : (sight : Option Sight) → left_as None sight ≡ None
nothing_left None = refl
nothing_left (Some sight) = refl

made_turned : (flags : List (List ℕ)) (kept : Option (List (List ℕ))) → IsSome (option_map dummy kept) →
    Some (dummy flags) ≡ option_map (with_flags flags) (option_map dummy kept)
made_turned flags None there = absurd (cc)
made_turned flags (Some old) there = refl

module _ (boxes : List Known) (old new : Touched) where
  swapped : (m : Message) (a b : Option Sight) → a ≡ b → AreSame (seen_so_far boxes new) (put m a (seen_so_far boxes old)) →
      AreSame (seen_so_far boxes new) (put m b (seen_so_far boxes old))
  swapped m a b same = subst (λ (o : Option Sight). AreSame (seen_so_far boxes new) (put m o (seen_so_far boxes old))) same

  -- a cached message that is there has other flags
  pub turned_cached : (m : Message) (name : List ℕ) (uid : ℕ) (flags : List (List ℕ)) → m ≡ message.Cached name uid →
      AreSame (seen_so_far boxes new)
      (put (message.Cached name uid) (left_as (Some flags) (seen_so_far boxes old (message.Cached name uid))) (seen_so_far boxes old)) →
      AreSame (seen_so_far boxes new) (put m (option_map (with_flags flags) (seen_so_far boxes old m)) (seen_so_far boxes old))
  turned_cached m name uid flags is h =
      subst (λ (m : Message). AreSame (seen_so_far boxes new) (put m (option_map (with_flags flags) (seen_so_far boxes old m)) (seen_so_far boxes old)))
      (sym is)
      (swapped (message.Cached name uid) _ _ (flags_left flags (seen_so_far boxes old (message.Cached name uid))) h)

  -- and so has one that was made
  pub turned_made : (m : Message) (n : ℕ) (flags : List (List ℕ)) → m ≡ message.Made n → IsSome (seen_so_far boxes old m) →
      AreSame (seen_so_far boxes new) (put (message.Made n) (Some (dummy flags)) (seen_so_far boxes old)) →
      AreSame (seen_so_far boxes new) (put m (option_map (with_flags flags) (seen_so_far boxes old m)) (seen_so_far boxes old))
  turned_made m n flags is there h =
      subst (λ (m : Message). AreSame (seen_so_far boxes new) (put m (option_map (with_flags flags) (seen_so_far boxes old m)) (seen_so_far boxes old)))
      (sym is)
      (swapped (message.Made n) _ _
      (made_turned flags (get nat_cmp old.made n) (subst (λ (m : Message). IsSome (seen_so_far boxes old m)) is there)) h)

  -- a cached message is taken away
  pub taken_cached : (m : Message) (name : List ℕ) (uid : ℕ) → m ≡ message.Cached name uid →
      AreSame (seen_so_far boxes new) (put (message.Cached name uid) (left_as None (seen_so_far boxes old (message.Cached name uid))) (seen_so_far boxes old)) →
      AreSame (seen_so_far boxes new) (put m None (seen_so_far boxes old))
  taken_cached m name uid is h =
      subst (λ (m : Message). AreSame (seen_so_far boxes new) (put m None (seen_so_far boxes old))) (sym is)
      (swapped (message.Cached name uid) _ _ (nothing_left (seen_so_far boxes old (message.Cached name uid))) h)
