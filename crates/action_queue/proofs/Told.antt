-- The pieces of a book that is told anew.
use Rattle.std.proofs.Common.{◌≡◌, ℕ, zero, suc, ◌+◌, ◌-◌, ◌*◌, ◌<◌, ◌≤◌, Bool, false, List, [], ◌∷◌, ◌++◌, length, get_or, take, drop, map, Option, Some, None}
use Rattle.std.proofs.Common.{refl, sym, ◌∙◌, ap, subst, arith, append_assoc, length-append, length-drop}
use Rattle.std.specs.Prelude.{◌==◌, slice_get, option_map}
use Rattle.std.proofs.lemmas.List.{append-nil, take-append-drop, drop-drop, drop_all, length-map}
use Rattle.std.proofs.lemmas.Bool.{ne_eqb}
use Rattle.std.proofs.lemmas.Option.{slice_get-map, slice_get_read}
use Rattle.mailbox_cache.specs.Rows.{Rises, AreApart}
use Rattle.mailbox_cache.specs.declared.cache.Cache.{Cache}
use Rattle.mailbox_cache.specs.declared.delta.Delta.{Delta}
use Rattle.mailbox_cache.specs.declared.row.Row.{Row}
use Rattle.action_queue.specs.Book.{Meaning}
use Rattle.action_queue.specs.Queues.{due}
use Rattle.action_queue.specs.Restating.{action_event, action_events, intent_events, joined, names_of, TellBoxes, TellParts, TellsBook, TellsCache, TellsKnown, withdrawn}
use Rattle.action_queue.specs.Telling.{Piece, Rows, Fields, IsToldBy, AreTold, thousands, later_parts, cache_pieces, box_pieces, events_behind, pieces, IsPart}
use Rattle.action_queue.specs.declared.book.Known.{Known}
use Rattle.action_queue.specs.declared.event.Event.{Event}
use Rattle.action_queue.specs.declared.event.Event.TheVariants as events
use Rattle.action_queue.specs.declared.intent.Intent.{Intent}
use Rattle.action_queue.specs.declared.queued.Queued.{Queued}

-- ---- a place of two lists

-- before the end of the first
pub place_front : {A : Type 0} (xs ys : List A) (n : ℕ) → n < length xs → slice_get (xs ++ ys) n ≡ slice_get xs n
place_front [] ys n l = absurd (omega arith)
place_front (x ∷ xs) ys zero l = refl
place_front (x ∷ xs) ys (suc n) l = place_front xs ys n (omega arith)

-- behind it
pub place_behind : {A : Type 0} (xs ys : List A) (n left : ℕ) → n ≡ length xs + left → slice_get (xs ++ ys) n ≡ slice_get ys left
place_behind [] ys n left e = ap (slice_get ys) (omega (arith, e))
place_behind (x ∷ xs) ys zero left e = absurd (omega (arith, e))
place_behind (x ∷ xs) ys (suc n) left e = place_behind xs ys n left (omega (arith, e))

-- what is left of a list from a place on
pub drop_there : {A : Type 0} (xs : List A) (n : ℕ) (x : A) → slice_get xs n ≡ Some x → drop n xs ≡ x ∷ drop (suc n) xs
drop_there [] n x e = absurd cc
drop_there (y ∷ xs) zero x e = cc
drop_there (y ∷ xs) (suc n) x e = drop_there xs n x e

pub drop_none : {A : Type 0} (xs : List A) (n : ℕ) → slice_get xs n ≡ None → drop n xs ≡ []
drop_none [] zero e = refl
drop_none [] (suc n) e = refl
drop_none (y ∷ xs) zero e = absurd cc
drop_none (y ∷ xs) (suc n) e = drop_none xs n e

-- ---- parts of 1,000 rows

pub thousands_length : (n : ℕ) (rows : List (ℕ × Row)) → length (thousands n rows) ≡ n
thousands_length zero rows = refl
thousands_length (suc n) rows = omega (arith, thousands_length n (drop 1000 rows))

pub thousand_there : (n k : ℕ) (rows : List (ℕ × Row)) → k < n → slice_get (thousands n rows) k ≡ Some (take 1000 (drop (k * 1000) rows))
thousand_there zero k rows l = absurd (omega arith)
thousand_there (suc n) zero rows l = refl
thousand_there (suc n) (suc k) rows l =
    thousand_there n k (drop 1000 rows) (omega arith)
    ∙ ap (λ (rest : List (ℕ × Row)). Some (take 1000 rest)) (drop-drop (k * 1000) 1000 rows ∙ ap (λ (m : ℕ). drop m rows) (omega arith))

pub all_thousands : (n : ℕ) (rows : List (ℕ × Row)) → length rows ≤ n * 1000 → joined (thousands n rows) ≡ rows
all_thousands zero [] l = refl
all_thousands zero (r ∷ rows) l = absurd (omega arith)
all_thousands (suc n) rows l =
    ap (λ (rest : List (ℕ × Row)). take 1000 rows ++ rest) (all_thousands n (drop 1000 rows) (omega (arith, l, length-drop 1000 rows)))
    ∙ take-append-drop 1000 rows

pub all_later : (rows : List (ℕ × Row)) → rows ≡ take 1000 rows ++ joined (thousands (later_parts rows) (drop 1000 rows))
all_later rows =
    sym (take-append-drop 1000 rows)
    ∙ ap (λ (rest : List (ℕ × Row)). take 1000 rows ++ rest)
    (sym (all_thousands (later_parts rows) (drop 1000 rows) (omega (arith, length-drop 1000 rows))))

-- the parts of a cache: how many, and each
pub parts_length : (name : List ℕ) (cache : Cache) → length (cache_pieces name (Some cache)) ≡ suc (later_parts cache.rows)
parts_length name cache =
    omega (
      arith,
      length-map (thousands (later_parts cache.rows) (drop 1000 cache.rows)) (Rows name cache false),
      thousands_length (later_parts cache.rows) (drop 1000 cache.rows),
    )

pub part_there : (name : List ℕ) (cache : Cache) (part : ℕ) → part ≤ later_parts cache.rows →
    slice_get (cache_pieces name (Some cache)) part ≡ Some (Rows name cache (part == 0) (take 1000 (drop (part * 1000) cache.rows)))
part_there name cache zero l = refl
part_there name cache (suc part) l =
    slice_get-map (Rows name cache false) (thousands (later_parts cache.rows) (drop 1000 cache.rows)) part
    ∙ ap (option_map (Rows name cache false)) (thousand_there (later_parts cache.rows) part (drop 1000 cache.rows) (omega arith))
    ∙ ap (λ (rest : List (ℕ × Row)). Some (Rows name cache false (take 1000 rest))) (drop-drop (part * 1000) 1000 cache.rows)
    ∙ ap (λ (m : ℕ). Some (Rows name cache false (take 1000 (drop m cache.rows)))) (omega arith)
    ∙ ap (λ (b : Bool). Some (Rows name cache b (take 1000 (drop (suc part * 1000) cache.rows))))
    (sym (ne_eqb (suc part) 0 (λ e. absurd (omega (arith, e)))))

pub part_told : (name : List ℕ) (cache : Cache) (part : ℕ) (delta : Delta) → part ≤ later_parts cache.rows → IsPart cache part delta →
    IsToldBy (slice_get (cache_pieces name (Some cache)) part) (Some (events.Learn name delta))
part_told name cache part delta l p =
    subst (λ (o : Option Piece). IsToldBy o (Some (events.Learn name delta))) (sym (part_there name cache part l)) (record {
      delta = delta;
      is = refl;
      whole_is = p.whole;
      validity = p.validity;
      highest = p.highest;
      uidnext = p.uidnext;
      vanished = p.vanished;
      rows_are = p.rows;
    })

pub part_within : (rows : List (ℕ × Row)) (part : ℕ) → part ≤ later_parts rows → part * 1000 ≤ length rows
part_within rows part l = omega arith

pub none_left : {A : Type 0} (o : Option A) → ((x : A) → o ≡ Some x → ⊥) → o ≡ None
none_left None never = refl
none_left (Some x) never = absurd (never x refl)

pub apart_none : (rows : List (ℕ × Row)) → AreApart [] rows
apart_none [] = tt
apart_none (r ∷ rows) = (refl, apart_none rows)

pub drop_rises : (n : ℕ) (rows : List (ℕ × Row)) → Rises rows → Rises (drop n rows)
drop_rises zero rows rises = rises
drop_rises (suc n) [] rises = tt
drop_rises (suc n) (r ∷ []) rises = drop_rises n [] tt
drop_rises (suc n) (r ∷ s ∷ rows) rises = drop_rises n (s ∷ rows) rises.1

-- ---- what stands behind the caches

pub action_there : (n : ℕ) (qs : List Queued) (rest : List Event) (at : ℕ) (q : Queued) → slice_get qs at ≡ Some q →
    slice_get (action_events n qs ++ rest) at ≡ Some (action_event (suc (n + at)) q.action q.outcome)
action_there n [] rest at q e = absurd cc
action_there n (p ∷ qs) rest zero q e =
    ap (λ (r : Queued). Some (action_event (suc n) r.action r.outcome)) (let same : p ≡ q = cc in same)
    ∙ ap (λ (m : ℕ). Some (action_event (suc m) q.action q.outcome)) (omega arith)
action_there n (p ∷ qs) rest (suc at) q e =
    action_there (suc n) qs rest at q e ∙ ap (λ (m : ℕ). Some (action_event (suc m) q.action q.outcome)) (omega arith)

pub actions_length : (n : ℕ) (qs : List Queued) → length (action_events n qs) ≡ length qs
actions_length n [] = refl
actions_length n (q ∷ qs) = omega (arith, actions_length (suc n) qs)

pub behind_actions : (qs : List Queued) (rest : List Event) (place left : ℕ) → place ≡ length qs + left →
    slice_get (action_events 0 qs ++ rest) place ≡ slice_get rest left
behind_actions qs rest place left e = place_behind (action_events 0 qs) rest place left (omega (arith, e, actions_length 0 qs))

pub withdrawn_there : (id tries : ℕ) → 1 ≤ tries → withdrawn id tries ≡ events.Withdraw id tries ∷ []
withdrawn_there id zero l = absurd (omega arith)
withdrawn_there id (suc n) l = refl

pub action_at : (qs : List Queued) (rest : List Event) (at : ℕ) (q : Queued) → slice_get qs at ≡ Some q →
    slice_get (action_events 0 qs ++ rest) at ≡ Some (action_event (suc at) q.action q.outcome)
action_at qs rest at q e =
    action_there 0 qs rest at q e ∙ ap (λ (m : ℕ). Some (action_event (suc m) q.action q.outcome)) (omega arith)

pub withdrawn_first : (id tries left : ℕ) (rest : List Event) → 1 ≤ tries → left ≡ 0 →
    slice_get (withdrawn id tries ++ rest) left ≡ Some (events.Withdraw id tries)
withdrawn_first id tries left rest l e =
    ap (λ (list : List Event). slice_get (list ++ rest) left) (withdrawn_there id tries l) ∙ ap (slice_get (events.Withdraw id tries ∷ rest)) e

pub withdrawn_later : (id tries left : ℕ) (rest : List Event) → 1 ≤ tries → 1 ≤ left →
    slice_get (withdrawn id tries ++ rest) left ≡ slice_get rest (left - 1)
withdrawn_later id tries left rest l m =
    ap (λ (list : List Event). slice_get (list ++ rest) left) (withdrawn_there id tries l)
    ∙ place_behind (events.Withdraw id tries ∷ []) rest left (left - 1) (omega arith)

pub withdrawn_none : (id tries left : ℕ) (rest : List Event) → tries ≡ 0 → slice_get (withdrawn id tries ++ rest) left ≡ slice_get rest left
withdrawn_none id tries left rest e = ap (λ (n : ℕ). slice_get (withdrawn id n ++ rest) left) e

pub withdraw_there : (id due_id tries old left : ℕ) (rest : List Event) → id ≡ due_id → tries ≡ old → 1 ≤ old → left ≡ 0 →
    Some (events.Withdraw id tries) ≡ slice_get (withdrawn due_id old ++ rest) left
withdraw_there id due_id tries old left rest e same l first =
    ap (λ (m : ℕ). Some (events.Withdraw m tries)) e ∙ ap (λ (m : ℕ). Some (events.Withdraw due_id m)) same ∙ sym (withdrawn_first due_id old left rest l first)

pub intent_past : (o : Option Intent) (qs : List Queued) (left : ℕ) → 1 ≤ left → slice_get (intent_events o qs) left ≡ None
intent_past None qs left l = refl
intent_past (Some intent) qs zero l = absurd (omega arith)
intent_past (Some intent) qs (suc left) l = refl

pub intent_none : (o : Option Intent) (qs : List Queued) (left : ℕ) → o ≡ None → None ≡ slice_get (intent_events o qs) left
intent_none o qs left e = ap (λ (p : Option Intent). slice_get (intent_events p qs) left) (sym e)

pub intent_there : (o : Option Intent) (qs : List Queued) (left id : ℕ) (intent copy : Intent) → o ≡ Some intent → left ≡ 0 → id ≡ suc (due qs) →
    copy ≡ intent → Some (events.Intend id copy) ≡ slice_get (intent_events o qs) left
intent_there o qs left id intent copy e first n same =
    ap (λ (m : ℕ). Some (events.Intend m copy)) n ∙ ap (λ (i : Intent). Some (events.Intend (suc (due qs)) i)) same
    ∙ ap (λ (m : ℕ). slice_get (intent_events (Some intent) qs) m) (sym first) ∙ ap (λ (p : Option Intent). slice_get (intent_events p qs) left) (sym e)

-- ---- where a place of the mailboxes' pieces is

module _ (boxes : List Known) (at : ℕ) (k : Known) (place left : ℕ) (within : at < length boxes) (is : k ≡ get_or boxes at k) (
    so_far : (behind : List Piece) → slice_get (box_pieces boxes ++ behind) place ≡ slice_get (box_pieces (drop at boxes) ++ behind) left) where
  from_here : (behind : List Piece) (o : Option Cache) → k.cache ≡ o →
      slice_get (box_pieces boxes ++ behind) place ≡ slice_get ((cache_pieces k.name o ++ box_pieces (drop (at + 1) boxes)) ++ behind) left
  from_here behind o e =
      let next : suc at ≡ at + 1 = omega arith in
      let there : drop at boxes ≡ k ∷ drop (at + 1) boxes =
      drop_there boxes at k (slice_get_read boxes (length boxes) at k refl within is) ∙ ap (λ (n : ℕ). k ∷ drop n boxes) next in
      so_far behind ∙ ap (λ (ks : List Known). slice_get (box_pieces ks ++ behind) left) there
      ∙ ap (λ (c : Option Cache). slice_get ((cache_pieces k.name c ++ box_pieces (drop (at + 1) boxes)) ++ behind) left) e

  -- a mailbox without a cache
  pub spot_none : k.cache ≡ None → (behind : List Piece) →
      slice_get (box_pieces boxes ++ behind) place ≡ slice_get (box_pieces (drop (at + 1) boxes) ++ behind) left
  spot_none e behind = from_here behind None e

  -- the parts of its cache, as one list with what stands behind them
  apart : (cache : Cache) → k.cache ≡ Some cache → (behind : List Piece) → slice_get (box_pieces boxes ++ behind) place
      ≡ slice_get (cache_pieces k.name (Some cache) ++ (box_pieces (drop (at + 1) boxes) ++ behind)) left
  apart cache e behind =
      from_here behind (Some cache) e
      ∙ ap (λ (list : List Piece). slice_get list left) (append_assoc (cache_pieces k.name (Some cache)) (box_pieces (drop (at + 1) boxes)) behind)

  pub spot_past : (cache : Cache) → k.cache ≡ Some cache → (parts after : ℕ) → parts ≡ suc (later_parts cache.rows) → left ≡ parts + after →
      (behind : List Piece) → slice_get (box_pieces boxes ++ behind) place ≡ slice_get (box_pieces (drop (at + 1) boxes) ++ behind) after
  spot_past cache e parts after many far behind =
      apart cache e behind
      ∙ place_behind (cache_pieces k.name (Some cache)) (box_pieces (drop (at + 1) boxes) ++ behind) left after
      (omega (arith, many, far, parts_length k.name cache))

  pub spot_told : (cache : Cache) → k.cache ≡ Some cache → left ≤ later_parts cache.rows → (event : Event) →
      IsToldBy (slice_get (cache_pieces k.name (Some cache)) left) (Some event) →
      (behind : List Piece) → IsToldBy (slice_get (box_pieces boxes ++ behind) place) (Some event)
  spot_told cache e near event told behind =
      let front = place_front (cache_pieces k.name (Some cache)) (box_pieces (drop (at + 1) boxes) ++ behind) left
      (omega (arith, near, parts_length k.name cache)) in
      subst (λ (o : Option Piece). IsToldBy o (Some event)) (sym (apart cache e behind ∙ front)) told

-- behind all of them
pub spot_behind : (boxes : List Known) (at place left : ℕ) → length boxes ≤ at →
    ((behind : List Piece) → slice_get (box_pieces boxes ++ behind) place ≡ slice_get (box_pieces (drop at boxes) ++ behind) left) →
    (behind : List Piece) → slice_get (box_pieces boxes ++ behind) place ≡ slice_get behind left
spot_behind boxes at place left past so_far behind =
    so_far behind ∙ ap (λ (ks : List Known). slice_get (box_pieces ks ++ behind) left) (drop_all at boxes past)

-- a place behind the first piece
pub later_piece : (piece : Piece) (list : List Piece) (place : ℕ) → 1 ≤ place → slice_get (piece ∷ list) place ≡ slice_get list (place - 1)
later_piece piece list place l = place_behind (piece ∷ []) list place (place - 1) (omega arith)

-- ---- the pieces are told by events

told_same : (list : List Event) (place : ℕ) (o : Option Event) → o ≡ slice_get list place → IsToldBy (slice_get (map Fields list) place) o
told_same [] place None e = tt
told_same [] place (Some event) e = absurd cc
told_same (x ∷ list) zero None e = absurd cc
told_same (x ∷ list) zero (Some event) e = cc
told_same (x ∷ list) (suc place) o e = told_same list place o e

-- the first place, a place of the mailboxes' pieces, and one behind them
pub told_first : (b : Meaning) (place : ℕ) (names : List (List ℕ)) → place ≡ 0 → names ≡ names_of b.boxes →
    IsToldBy (slice_get (pieces b) place) (Some (events.Begin names))
told_first b place names first e =
    subst (λ (n : ℕ). IsToldBy (slice_get (pieces b) n) (Some (events.Begin names))) (sym first) (ap (λ (l : List (List ℕ)). events.Begin l) e)

pub told_there : (b : Meaning) (place : ℕ) (event : Event) → 1 ≤ place →
    ((behind : List Piece) → IsToldBy (slice_get (box_pieces b.boxes ++ behind) (place - 1)) (Some event)) →
    IsToldBy (slice_get (pieces b) place) (Some event)
told_there b place event l told =
    let later = later_piece (Fields (events.Begin (names_of b.boxes))) (box_pieces b.boxes ++ map Fields (events_behind b)) place l in
    subst (λ (o : Option Piece). IsToldBy o (Some event)) (sym later) (told (map Fields (events_behind b)))

pub told_behind : (b : Meaning) (place left : ℕ) → 1 ≤ place →
    ((behind : List Piece) → slice_get (box_pieces b.boxes ++ behind) (place - 1) ≡ slice_get behind left) → (o : Option Event) →
    o ≡ slice_get (events_behind b) left → IsToldBy (slice_get (pieces b) place) o
told_behind b place left l far o e =
    let later = later_piece (Fields (events.Begin (names_of b.boxes))) (box_pieces b.boxes ++ map Fields (events_behind b)) place l in
    subst (λ (p : Option Piece). IsToldBy p o) (sym (later ∙ far (map Fields (events_behind b)))) (told_same (events_behind b) left o e)

record Parted (first second : List Piece) (list : List Event) : Type 0 where
  pub mine : List Event
  pub others : List Event
  pub is : list ≡ mine ++ others
  pub told : AreTold first mine
  pub rest : AreTold second others

parted : (first second : List Piece) (list : List Event) → AreTold (first ++ second) list → Parted first second list
parted [] second list told = record { mine = []; others = list; is = refl; told = tt; rest = told }
parted (p ∷ first) second [] told = absurd told
parted (p ∷ first) second (e ∷ list) told =
    let later = parted first second list told.1 in record {
      mine = e ∷ later.mine;
      others = later.others;
      is = ap (λ (l : List Event). e ∷ l) later.is;
      told = (told.0, later.told);
      rest = later.rest;
    }

fields_are : (list told : List Event) → AreTold (map Fields list) told → told ≡ list
fields_are [] [] t = refl
fields_are [] (e ∷ told) t = absurd t
fields_are (x ∷ list) [] t = absurd t
fields_are (x ∷ list) (e ∷ told) t =
    ap (λ (y : Event). y ∷ told) t.0 ∙ ap (λ (l : List Event). x ∷ l) (fields_are list told t.1)

parts_tell : (name : List ℕ) (cache : Cache) (parts : List (List (ℕ × Row))) (list : List Event) → AreTold (map (Rows name cache false) parts) list →
    TellParts name cache parts list
parts_tell name cache [] [] t = tt
parts_tell name cache [] (e ∷ list) t = absurd t
parts_tell name cache (part ∷ parts) [] t = absurd t
parts_tell name cache (part ∷ parts) (e ∷ list) t = (t.0, parts_tell name cache parts list t.1)

cache_tells : (name : List ℕ) (cache : Cache) (list : List Event) → AreTold (cache_pieces name (Some cache)) list →
    TellsCache name cache (take 1000 cache.rows) (thousands (later_parts cache.rows) (drop 1000 cache.rows)) list
cache_tells name cache [] t = absurd t
cache_tells name cache (e ∷ list) t = (t.0, parts_tell name cache (thousands (later_parts cache.rows) (drop 1000 cache.rows)) list t.1)

none_told : (list : List Event) → AreTold [] list → list ≡ []
none_told [] t = refl
none_told (e ∷ list) t = absurd t

known_tells : (name : List ℕ) (o : Option Cache) (list : List Event) → AreTold (cache_pieces name o) list → TellsKnown name o list
known_tells name None list t = none_told list t
known_tells name (Some cache) list t = (
  take 1000 cache.rows,
  thousands (later_parts cache.rows) (drop 1000 cache.rows),
  all_later cache.rows,
  cache_tells name cache list t,
)

boxes_tell : (boxes : List Known) (list : List Event) → AreTold (box_pieces boxes) list → TellBoxes boxes list
boxes_tell [] list t = none_told list t
boxes_tell (k ∷ ks) list t =
    let p = parted (cache_pieces k.name k.cache) (box_pieces ks) list t in
    (p.mine, p.others, p.is, known_tells k.name k.cache p.mine p.told, boxes_tell ks p.others p.rest)

pub pieces_tell : (b : Meaning) (begin : Event) (later : List Event) → AreTold (pieces b) (begin ∷ later) →
    (begin ≡ events.Begin (names_of b.boxes)) × TellsBook b later
pieces_tell b begin later t =
    let p = parted (box_pieces b.boxes) (map Fields (events_behind b)) later t.1 in (
      t.0,
      record {
        caches = p.mine;
        boxes = boxes_tell b.boxes p.mine p.told;
        is = p.is ∙ ap (λ (l : List Event). p.mine ++ l) (fields_are (events_behind b) p.others p.rest);
      },
    )

-- ---- the whole list

-- one event more is told
pub told_more : (all : List Piece) (list : List Event) (event : Event) → IsToldBy (slice_get all (length list)) (Some event) →
    ((later : List Event) → AreTold (drop (length list) all) later → AreTold all (list ++ later)) →
    (later : List Event) → AreTold (drop (length (list ++ event ∷ [])) all) later → AreTold all ((list ++ event ∷ []) ++ later)
told_more all list event told so_far later rest =
    let long : length (list ++ event ∷ []) ≡ suc (length list) = omega (arith, length-append list (event ∷ [])) in
    let left : AreTold (drop (suc (length list)) all) later = subst (λ (n : ℕ). AreTold (drop n all) later) long rest in
    subst (AreTold all) (sym (append_assoc list (event ∷ []) later)) (so_far (event ∷ later) (with_more all (length list) event later (slice_get all (length list)) refl told left))
  where
    with_more : (all : List Piece) (n : ℕ) (event : Event) (later : List Event) (o : Option Piece) → slice_get all n ≡ o → IsToldBy o (Some event) →
        AreTold (drop (suc n) all) later → AreTold (drop n all) (event ∷ later)
    with_more all n event later None e t rest = absurd t
    with_more all n event later (Some piece) e t rest = subst (λ (l : List Piece). AreTold l (event ∷ later)) (sym (drop_there all n piece e)) (t, rest)

-- no more is
pub told_all : (all : List Piece) (list : List Event) → IsToldBy (slice_get all (length list)) None →
    ((later : List Event) → AreTold (drop (length list) all) later → AreTold all (list ++ later)) → AreTold all list
told_all all list t so_far = at_end (slice_get all (length list)) refl t
  where
    at_end : (o : Option Piece) → slice_get all (length list) ≡ o → IsToldBy o None → AreTold all list
    at_end None e t =
        subst (AreTold all) (append-nil list) (so_far [] (subst (λ (l : List Piece). AreTold l []) (sym (drop_none all (length list) e)) tt))
    at_end (Some piece) e t = absurd t

-- the same of the list with the event behind it, and where no event is told
pub told_next : (all : List Piece) (list new : List Event) (event : Event) (place : ℕ) (o : Option Event) → place ≡ length list → o ≡ Some event →
    IsToldBy (slice_get all place) o → new ≡ list ++ event ∷ [] →
    ((later : List Event) → AreTold (drop (length list) all) later → AreTold all (list ++ later)) →
    (later : List Event) → AreTold (drop (length new) all) later → AreTold all (new ++ later)
told_next all list new event place o here is told more so_far =
    let one : IsToldBy (slice_get all place) (Some event) = subst (IsToldBy (slice_get all place)) is told in
    let now : IsToldBy (slice_get all (length list)) (Some event) = subst (λ (n : ℕ). IsToldBy (slice_get all n) (Some event)) here one in
    subst (λ (l : List Event). (later : List Event) → AreTold (drop (length l) all) later → AreTold all (l ++ later)) (sym more)
    (told_more all list event now so_far)

pub told_end : (all : List Piece) (list : List Event) (place : ℕ) (o : Option Event) → place ≡ length list → o ≡ None → IsToldBy (slice_get all place) o →
    ((later : List Event) → AreTold (drop (length list) all) later → AreTold all (list ++ later)) → AreTold all list
told_end all list place o here is told so_far =
    let none : IsToldBy (slice_get all place) None = subst (IsToldBy (slice_get all place)) is told in
    told_all all list (subst (λ (n : ℕ). IsToldBy (slice_get all n) None) here none) so_far
