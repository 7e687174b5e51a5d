-- The sizes of the records that tell a book anew.
use Rattle.std.proofs.Common.{◌≡◌, ℕ, zero, suc, ◌+◌, ◌-◌, ◌*◌, ◌^◌, ◌<◌, ◌≤◌, min, true, false, List, [], ◌∷◌, ◌++◌, length, get_or, take, drop, map, Option, Some, None}
use Rattle.std.proofs.Common.{refl, sym, ◌∙◌, ap, subst, arith, length-append, length-drop}
use Rattle.std.specs.Prelude.{flat_map, sum_by}
use Rattle.std.proofs.Math.Nat.{suc-mul}
use Rattle.std.proofs.lemmas.List.{length-map, map-append, take-append-drop}
use Rattle.std.proofs.lemmas.List.Concat.{flat_map-append, flat_map-cons}
use Rattle.std.proofs.lemmas.List.Sums.{sum_by-append, sum_by-cons, sum_by_more}
use Rattle.std.proofs.lemmas.Nat.{mul-le}
use Rattle.mail_base.specs.declared.limits.TheConstants.{MAX_ROWS}
use Rattle.uid_sets.specs.declared.uid.UidRange.{UidRange}
use Rattle.mailbox_cache.specs.declared.cache.Cache.{Cache}
use Rattle.mailbox_cache.specs.declared.delta.Delta.{Delta}
use Rattle.mailbox_cache.specs.declared.row.Row.{Row}
use Rattle.action_queue.specs.Book.{Meaning}
use Rattle.action_queue.specs.Events.{AreNames}
use Rattle.action_queue.specs.Queues.{change_queued, due, tried, tries_due, untried}
use Rattle.action_queue.specs.Restating.{AreWell, AreWellBoxes, IsWellBook, IsWellKnown, action_event, action_events, intent_events, names_of, tries_events, withdrawn}
use Rattle.action_queue.specs.Telling.{Piece, Rows, Fields, IsTold, AreTold, box_pieces, cache_pieces, events_behind, later_parts, thousands}
use Rattle.action_queue.specs.Writable.{IsWritableAction}
use Rattle.action_queue.specs.declared.book.Known.{Known}
use Rattle.action_queue.specs.declared.event.Event.{Event}
use Rattle.action_queue.specs.declared.event.Event.TheVariants as events
use Rattle.action_queue.specs.declared.intent.Intent.{Intent}
use Rattle.action_queue.specs.declared.outcome.Outcome.{Outcome}
use Rattle.action_queue.specs.declared.queued.Queued.{Queued}
use Rattle.action_queue.specs.declared.rule.Version.{Version}
use Rattle.action_queue.proofs.Told.{withdrawn_there}
use Rattle.record_codec.specs.Bodies.{action_fields, body_of, delta_fields, intent_fields, mark_fields, outcome_fields, range_fields, row_fields}
use Rattle.record_codec.specs.Fields.{counted, row_field}
use Rattle.record_codec.specs.Restated.{AreWritable, box_size, ended_size, piece_size, queued_size, record_size, restated_end}

-- ---- what one event tells

-- a body that tells rows, where no UID vanished
no_ranges : (delta : Delta) → delta.vanished ≡ [] → length (range_fields delta.vanished) ≡ 4
unfolding range_fields
no_ranges delta e = ap (λ (ranges : List UidRange). length (range_fields ranges)) e

learn_size : (name : List ℕ) (delta : Delta) → delta.vanished ≡ [] →
    length (body_of (events.Learn name delta)) ≡ 26 + length (counted name) + length (flat_map row_field delta.rows)
unfolding delta_fields mark_fields row_fields
learn_size name delta e =
    omega (
      arith,
      no_ranges delta e,
      length-append (counted name) (delta_fields delta),
      length-append (mark_fields delta) (range_fields delta.vanished),
      length-append (mark_fields delta ++ range_fields delta.vanished) (row_fields delta.rows),
    )

pub body_size : (piece : Piece) (event : Event) → IsTold piece event → length (body_of event) ≡ piece_size piece
body_size (Rows name cache whole rows) event told =
    ap (λ (e : Event). length (body_of e)) told.is ∙ learn_size name told.delta told.vanished
    ∙ ap (λ (l : List (ℕ × Row)). 26 + length (counted name) + length (flat_map row_field l)) told.rows_are
body_size (Fields fields) event told = ap (λ (e : Event). length (body_of e)) told

pub sizes_tell : (list : List Piece) (events : List Event) → AreTold list events →
    sum_by (λ (event : Event). 5 + length (body_of event)) events ≡ sum_by record_size list
sizes_tell [] [] told = refl
sizes_tell [] (event ∷ events) told = absurd told
sizes_tell (piece ∷ list) [] told = absurd told
sizes_tell (piece ∷ list) (event ∷ events) told =
    omega (
      arith,
      sum_by-cons (λ (e : Event). 5 + length (body_of e)) event events,
      sum_by-cons record_size piece list,
      body_size piece event told.0,
      sizes_tell list events told.1,
    )

-- ---- a cache

parts_size : (name : List ℕ) (cache : Cache) (n : ℕ) (rows : List (ℕ × Row)) → length rows ≤ n * 1000 →
    sum_by record_size (map (Rows name cache false) (thousands n rows)) ≡ n * (31 + length (counted name)) + length (flat_map row_field rows)
parts_size name cache zero [] few = omega arith
parts_size name cache zero (r ∷ rows) few = absurd (omega arith)
parts_size name cache (suc n) rows few =
    let front = take 1000 rows in
    let rest = drop 1000 rows in
    let later = parts_size name cache n rest (omega (arith, few, length-drop 1000 rows)) in
    let whole : length (flat_map row_field front) + length (flat_map row_field rest) ≡ length (flat_map row_field rows) =
    sym (length-append (flat_map row_field front) (flat_map row_field rest)) ∙ ap length (sym (flat_map-append row_field front rest))
    ∙ ap (λ (l : List (ℕ × Row)). length (flat_map row_field l)) (take-append-drop 1000 rows) in
    omega (
      arith,
      later,
      whole,
      sum_by-cons record_size (Rows name cache false front) (map (Rows name cache false) (thousands n rest)),
      suc-mul n (31 + length (counted name)),
    )

pub cache_size : (name : List ℕ) (cache : Cache) → sum_by record_size (cache_pieces name (Some cache))
    ≡ 5 + (26 + length (counted name) + length (flat_map row_field cache.rows)) + later_parts cache.rows * (31 + length (counted name))
cache_size name cache =
    let front = take 1000 cache.rows in
    let rest = drop 1000 cache.rows in
    let later = parts_size name cache (later_parts cache.rows) rest (omega (arith, length-drop 1000 cache.rows)) in
    let whole : length (flat_map row_field front) + length (flat_map row_field rest) ≡ length (flat_map row_field cache.rows) =
    sym (length-append (flat_map row_field front) (flat_map row_field rest)) ∙ ap length (sym (flat_map-append row_field front rest))
    ∙ ap (λ (l : List (ℕ × Row)). length (flat_map row_field l)) (take-append-drop 1000 cache.rows) in
    omega (
      arith,
      later,
      whole,
      sum_by-cons record_size (Rows name cache true front) (map (Rows name cache false) (thousands (later_parts cache.rows) rest)),
    )

-- ---- all mailboxes

boxes_size : (boxes : List Known) →
    length (flat_map counted (names_of boxes)) + sum_by record_size (box_pieces boxes) ≡ sum_by box_size boxes
boxes_size [] = refl
boxes_size (k ∷ ks) =
    omega (
      arith,
      boxes_size ks,
      ap length (flat_map-cons counted k.name (names_of ks)),
      length-append (counted k.name) (flat_map counted (names_of ks)),
      sum_by-append record_size (cache_pieces k.name k.cache) (box_pieces ks),
      sum_by-cons box_size k ks,
    )

pub well_at : (boxes : List Known) (at : ℕ) (k : Known) → AreWellBoxes boxes → at < length boxes → k ≡ get_or boxes at k → IsWellKnown k.cache
well_at [] at k well there is = absurd (omega arith)
well_at (first ∷ boxes) zero k well there is = subst (λ (x : Known). IsWellKnown x.cache) (sym is) well.0
well_at (first ∷ boxes) (suc at) k well there is = well_at boxes at k well.1 (omega arith) is

-- ---- the actions

action_size : (id : ℕ) (q : Queued) (o : Option Outcome) → 5 + length (body_of (action_event id q.action o)) ≡ 10 + length (action_fields q.action) + ended_size o
action_size id q None = omega arith
action_size id q (Some outcome) = omega (arith, length-append (action_fields q.action) (outcome_fields outcome))

actions_size : (n : ℕ) (qs : List Queued) → sum_by record_size (map Fields (action_events n qs)) ≡ sum_by queued_size qs
actions_size n [] = refl
actions_size n (q ∷ qs) =
    omega (
      arith,
      actions_size (suc n) qs,
      action_size (suc n) q q.outcome,
      sum_by-cons record_size (Fields (action_event (suc n) q.action q.outcome)) (map Fields (action_events (suc n) qs)),
      sum_by-cons queued_size q qs,
    )

pub writable_at : (qs : List Queued) (at : ℕ) (q : Queued) → AreWritable qs → at < length qs → q ≡ get_or qs at q → IsWritableAction q.action
writable_at [] at q can there is = absurd (omega arith)
writable_at (first ∷ qs) zero q can there is = subst (λ (x : Queued). IsWritableAction x.action) (sym is) can.0
writable_at (first ∷ qs) (suc at) q can there is = writable_at qs at q can.1 (omega arith) is

well_writable : (boxes : List Known) (before qs : List Queued) → AreWell boxes before qs → AreWritable qs
well_writable boxes before [] well = tt
well_writable boxes before (q ∷ qs) well = (well.0.writable, well_writable boxes (before ++ q ∷ []) qs well.1)

untried_then : (q : Queued) (qs : List Queued) (o : Option Outcome) → AreWritable (change_queued (tried 0) q qs (untried qs) o) →
    (AreWritable (untried qs) → AreWritable qs) → AreWritable (q ∷ qs)
untried_then q qs None can later = can
untried_then q qs (Some outcome) can later = (can.0, later can.1)

untried_writable : (qs : List Queued) → AreWritable (untried qs) → AreWritable qs
untried_writable [] can = tt
untried_writable (q ∷ qs) can = untried_then q qs q.outcome can (untried_writable qs)

pub all_writable : (boxes : List Known) (qs : List Queued) → AreWell boxes [] (untried qs) → AreWritable qs
all_writable boxes qs well = untried_writable qs (well_writable boxes [] (untried qs) well)

-- ---- the tries of the action that is due, and the whole

pub side_size : (b : Meaning) → restated_end b ≡ 21 + sum_by box_size b.boxes + sum_by queued_size b.queue
    + (sum_by record_size (map Fields (tries_events b.queue)) + sum_by record_size (map Fields (intent_events b.pending b.queue)))
side_size b =
    let actions = action_events 0 b.queue in
    let tries = tries_events b.queue in
    let intent = intent_events b.pending b.queue in
    let behind = ap (sum_by record_size) (map-append Fields actions (tries ++ intent)) ∙ sum_by-append record_size (map Fields actions) (map Fields (tries ++ intent)) in
    let last = ap (sum_by record_size) (map-append Fields tries intent) ∙ sum_by-append record_size (map Fields tries) (map Fields intent) in
    omega (
      arith,
      boxes_size b.boxes,
      actions_size 0 b.queue,
      behind,
      last,
      sum_by-append record_size (box_pieces b.boxes) (map Fields (events_behind b)),
      sum_by-cons record_size (Fields (events.Begin (names_of b.boxes))) (box_pieces b.boxes ++ map Fields (events_behind b)),
    )

-- ---- the code's numbers

pub few_slice : (boxes slice : List Known) → slice ≡ boxes → AreNames (names_of boxes) → length slice ≤ 32
few_slice boxes slice e names = omega (arith, names.few, length-map boxes (λ (k : Known). k.name), ap length e)

pub well_slice : (boxes slice : List Known) → slice ≡ boxes → AreWellBoxes boxes → AreWellBoxes slice
well_slice boxes slice e well = subst AreWellBoxes (sym e) well

pub writable_slice : (version : Version) (b : Meaning) (slice : List Queued) → slice ≡ b.queue → IsWellBook version b → AreWritable slice
writable_slice version b slice e well = subst AreWritable (sym e) (all_writable b.boxes b.queue well.actions)

pub whole_size : (b : Meaning) (boxes : List Known) (queue : List Queued) (known tries intent actions all : ℕ) → boxes ≡ b.boxes → queue ≡ b.queue →
    known ≡ sum_by box_size boxes → tries ≡ sum_by record_size (map Fields (tries_events b.queue)) →
    intent ≡ sum_by record_size (map Fields (intent_events b.pending b.queue)) → actions ≡ min (sum_by queued_size queue) (2 ^ 64 - 1) →
    all ≡ min (21 + known + (tries + intent) + actions) (2 ^ 64 - 1) → all ≡ min (restated_end b) (2 ^ 64 - 1)
whole_size b boxes queue known tries intent actions all mine others k t i a is =
    omega (arith, side_size b, k, t, i, a, is, ap (sum_by box_size) mine, ap (sum_by queued_size) others)

-- the records behind a cache's first one
pub later_size : (cache : Cache) (name : List ℕ) (parts named : ℕ) → parts ≡ suc (later_parts cache.rows) → named ≡ length (counted name) →
    (parts - 1) * (31 + named) ≡ later_parts cache.rows * (31 + length (counted name))
later_size cache name parts named many long =
    let more : parts - 1 ≡ later_parts cache.rows = omega (arith, many) in
    ap (λ (n : ℕ). n * (31 + named)) more ∙ ap (λ (n : ℕ). later_parts cache.rows * (31 + n)) long

pub later_small : (cache : Cache) (parts named : ℕ) → length cache.rows ≤ MAX_ROWS → parts ≡ suc (later_parts cache.rows) → named ≤ 129 →
    (parts - 1) * (31 + named) ≤ 31840
later_small cache parts named few many long = mul-le (parts - 1) (31 + named) 199 160 (omega arith) (omega arith)

pub cache_whole : (name : List ℕ) (cache : Cache) (rows : List (ℕ × Row)) (all later : ℕ) → rows ≡ cache.rows →
    all ≡ 26 + length (counted name) + length (flat_map row_field rows) → later ≡ later_parts cache.rows * (31 + length (counted name)) →
    5 + all + later ≡ sum_by record_size (cache_pieces name (Some cache))
cache_whole name cache rows all later same a l =
    omega (arith, a, l, cache_size name cache, ap (λ (list : List (ℕ × Row)). length (flat_map row_field list)) same)

-- one mailbox, and one action, more
pub box_more : (boxes : List Known) (at : ℕ) (k : Known) (size more : ℕ) → at < length boxes → k ≡ get_or boxes at k →
    size ≡ sum_by box_size (take at boxes) → more ≡ box_size k → size + more ≡ sum_by box_size (take (at + 1) boxes)
box_more boxes at k size more there is so_far one = omega (arith, sum_by_more box_size boxes at k there, ap box_size is, so_far, one)

pub queued_more : (queue : List Queued) (at : ℕ) (q : Queued) (size more next : ℕ) → at < length queue → q ≡ get_or queue at q →
    size ≡ min (sum_by queued_size (take at queue)) (2 ^ 64 - 1) → more ≡ queued_size q → next ≡ min (size + more) (2 ^ 64 - 1) →
    next ≡ min (sum_by queued_size (take (at + 1) queue)) (2 ^ 64 - 1)
queued_more queue at q size more next there is so_far one sum =
    omega (arith, sum_by_more queued_size queue at q there, ap queued_size is, so_far, one, sum)

-- a mailbox without a cache, and one with it
pub box_none : (k : Known) (size : ℕ) → k.cache ≡ None → size ≡ length (counted k.name) → size ≡ box_size k
box_none k size none is = omega (arith, is, ap (λ (o : Option Cache). sum_by record_size (cache_pieces k.name o)) none)

pub box_some : (k : Known) (cache : Cache) (named size : ℕ) → k.cache ≡ Some cache → named ≡ length (counted k.name) →
    size ≡ sum_by record_size (cache_pieces k.name (Some cache)) → named + size ≡ box_size k
box_some k cache named size there is rest = omega (arith, is, rest, ap (λ (o : Option Cache). sum_by record_size (cache_pieces k.name o)) there)

-- an action that waits, and one that ended
pub queued_none : (q : Queued) (size : ℕ) → q.outcome ≡ None → size ≡ length (action_fields q.action) → 10 + size ≡ queued_size q
queued_none q size none is = omega (arith, is, ap ended_size none)

pub queued_some : (q : Queued) (outcome : Outcome) (size : ℕ) → q.outcome ≡ Some outcome →
    size ≡ 5 + length (action_fields q.action) + length (outcome_fields outcome) → 5 + size ≡ queued_size q
queued_some q outcome size there is = omega (arith, is, ap ended_size there)

-- no try was taken back, and some were
pub tries_none : (qs : List Queued) (tries : ℕ) → tries ≡ tries_due qs → tries ≡ 0 → 0 ≡ sum_by record_size (map Fields (tries_events qs))
tries_none qs tries is none = ap (λ (n : ℕ). sum_by record_size (map Fields (withdrawn (suc (due qs)) n))) (sym none ∙ is)

pub tries_some : (qs : List Queued) (tries : ℕ) → tries ≡ tries_due qs → 1 ≤ tries → 11 ≡ sum_by record_size (map Fields (tries_events qs))
tries_some qs tries is some =
    let there = ap (λ (list : List Event). sum_by record_size (map Fields list)) (withdrawn_there (suc (due qs)) (tries_due qs) (omega (arith, is, some))) in
    omega (arith, there)

-- no intent is pending, and one is
pub pending_none : (o : Option Intent) (qs : List Queued) → o ≡ None → 0 ≡ sum_by record_size (map Fields (intent_events o qs))
pending_none o qs none = ap (λ (p : Option Intent). sum_by record_size (map Fields (intent_events p qs))) (sym none)

pub pending_some : (o : Option Intent) (qs : List Queued) (intent : Intent) (size : ℕ) → o ≡ Some intent → size ≡ length (intent_fields intent) →
    10 + size ≡ sum_by record_size (map Fields (intent_events o qs))
pending_some o qs intent size there is =
    omega (arith, is, ap (λ (p : Option Intent). sum_by record_size (map Fields (intent_events p qs))) there)
