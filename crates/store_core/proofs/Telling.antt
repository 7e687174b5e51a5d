-- The body of each piece of a book that is told anew.
use Rattle.std.proofs.Common.{◌≡◌, ℕ, zero, suc, ◌≤◌, Bool, true, false, List, [], ◌∷◌, ◌++◌, length, take, drop, map, Option, Some, None, refl, sym, ap, subst, arith}
use Rattle.std.proofs.Common.{length-take, length-append, take-append-drop}
use Rattle.std.specs.Prelude.{slice_get}
use Rattle.std.specs.List.{AllByRecursion}
use Rattle.mail_base.specs.declared.limits.TheConstants.{MAX_ROWS}
use Rattle.mailbox_cache.specs.declared.cache.Cache.{Cache}
use Rattle.mailbox_cache.specs.declared.row.Row.{Row}
use Rattle.action_queue.specs.Book.{Meaning}
use Rattle.action_queue.specs.Queues.{change_queued, due, tried, tries_due, untried}
use Rattle.action_queue.specs.Restating.{AreWell, AreWellBoxes, IsWellBook, IsWellKnown, action_event, action_events, intent_events, tries_events, withdrawn}
use Rattle.action_queue.specs.Telling.{Piece, Rows, Fields, IsTold, IsToldBy, box_pieces, cache_pieces, events_behind, later_parts, pieces, thousands}
use Rattle.action_queue.specs.Writable.{HaveFewFlags, IsWritable, IsWritableAction}
use Rattle.action_queue.specs.declared.action.Action.{Action}
use Rattle.action_queue.specs.declared.book.Known.{Known}
use Rattle.action_queue.specs.declared.event.Event.{Event}
use Rattle.action_queue.specs.declared.intent.Intent.{Intent}
use Rattle.action_queue.specs.declared.outcome.Outcome.{Outcome}
use Rattle.action_queue.specs.declared.queued.Queued.{Queued}
use Rattle.action_queue.specs.declared.rule.Version.{Version as Rules}
use Rattle.record_codec.specs.Bodies.{body_of}
use Rattle.std.specs.Prelude.{sum_by}
use Rattle.std.proofs.lemmas.List.Sums.{sum_by-cons}
use Rattle.record_codec.specs.Restated.{piece_size, record_size, restated_end}
use Rattle.record_codec.specs.Spelling.{Spelled}
use Rattle.record_codec.proofs.RestatedSizes.{body_size}
use Rattle.store_core.specs.Anew.{SpellPieces, MaySpell}

-- ---- each event that tells a piece of a lawful book has a record

abbrev IsTellable : Piece → Type 0
IsTellable piece = (event : Event) → IsTold piece event → IsWritable event

abbrev AreTellable : List Piece → Type 0
AreTellable list = AllByRecursion IsTellable list

tellable_both : (xs ys : List Piece) → AreTellable xs → AreTellable ys → AreTellable (xs ++ ys)
tellable_both [] ys a b = b
tellable_both (x ∷ xs) ys a b = (a.0, tellable_both xs ys a.1 b)

few_take : (n : ℕ) (rows : List (ℕ × Row)) → HaveFewFlags rows → HaveFewFlags (take n rows)
few_take zero rows few = tt
few_take (suc n) [] few = tt
few_take (suc n) (r ∷ rows) few = (few.0, few_take n rows few.1)

few_drop : (n : ℕ) (rows : List (ℕ × Row)) → HaveFewFlags rows → HaveFewFlags (drop n rows)
few_drop zero rows few = few
few_drop (suc n) [] few = tt
few_drop (suc n) (r ∷ rows) few = few_drop n rows few.1

short_drop : (n : ℕ) (rows : List (ℕ × Row)) → length (drop n rows) ≤ length rows
short_drop n rows = omega (arith, ap length (take-append-drop n rows), length-append (take n rows) (drop n rows))

module _ (name : List ℕ) (cache : Cache) where
  rows_tellable : (whole : Bool) (rows : List (ℕ × Row)) → length rows ≤ MAX_ROWS → HaveFewFlags rows → IsTellable (Rows name cache whole rows)
  rows_tellable whole rows short few event told = subst IsWritable (sym told.is) (
    omega (arith, short, ap length told.rows_are),
    subst HaveFewFlags (sym told.rows_are) few,
  )

  parts_tellable : (n : ℕ) (rows : List (ℕ × Row)) → length rows ≤ MAX_ROWS → HaveFewFlags rows → AreTellable (map (Rows name cache false) (thousands n rows))
  parts_tellable zero rows short few = tt
  parts_tellable (suc n) rows short few = (
    rows_tellable false (take 1000 rows) (omega (arith, short, length-take 1000 rows)) (few_take 1000 rows few),
    parts_tellable n (drop 1000 rows) (omega (arith, short, short_drop 1000 rows)) (few_drop 1000 rows few),
  )

cache_tellable : (name : List ℕ) (o : Option Cache) → IsWellKnown o → AreTellable (cache_pieces name o)
cache_tellable name None well = tt
cache_tellable name (Some cache) well = (
  rows_tellable name cache true (take 1000 cache.rows) (omega (arith, well.few, length-take 1000 cache.rows)) (few_take 1000 cache.rows well.flags),
  parts_tellable name cache (later_parts cache.rows) (drop 1000 cache.rows) (omega (arith, well.few, short_drop 1000 cache.rows))
      (few_drop 1000 cache.rows well.flags),
)

boxes_tellable : (boxes : List Known) → AreWellBoxes boxes → AreTellable (box_pieces boxes)
boxes_tellable [] well = tt
boxes_tellable (k ∷ ks) well = tellable_both (cache_pieces k.name k.cache) (box_pieces ks) (cache_tellable k.name k.cache well.0) (boxes_tellable ks well.1)

fields_tellable : (list : List Event) → AllByRecursion IsWritable list → AreTellable (map Fields list)
fields_tellable [] all = tt
fields_tellable (e ∷ list) all = ((λ event told. subst IsWritable (sym told) all.0), fields_tellable list all.1)

event_writable : (id : ℕ) (action : Action) (o : Option Outcome) → IsWritableAction action → IsWritable (action_event id action o)
event_writable id action None w = w
event_writable id action (Some outcome) w = w

actions_writable : (boxes : List Known) (before : List Queued) (n : ℕ) (qs : List Queued) → AreWell boxes before qs → AllByRecursion IsWritable (action_events n qs)
actions_writable boxes before n [] well = tt
actions_writable boxes before n (q ∷ qs) well =
    (event_writable (suc n) q.action q.outcome well.0.writable, actions_writable boxes (before ++ q ∷ []) (suc n) qs well.1)

-- those of a queue are those of the queue as if no try was taken back
same_then : (n : ℕ) (q : Queued) (qs : List Queued) (o : Option Outcome) → action_events (suc n) (untried qs) ≡ action_events (suc n) qs → q.outcome ≡ o →
    action_events n (change_queued (tried 0) q qs (untried qs) o) ≡ action_events n (q ∷ qs)
same_then n q qs None later is = refl
same_then n q qs (Some outcome) later is = ap (λ (l : List Event). action_event (suc n) q.action q.outcome ∷ l) later

same_events : (n : ℕ) (qs : List Queued) → action_events n (untried qs) ≡ action_events n qs
same_events n [] = refl
same_events n (q ∷ qs) = same_then n q qs q.outcome (same_events (suc n) qs) refl

tries_writable : (id n : ℕ) → AllByRecursion IsWritable (withdrawn id n)
tries_writable id zero = tt
tries_writable id (suc n) = (tt, tt)

intent_writable : (o : Option Intent) (qs : List Queued) → AllByRecursion IsWritable (intent_events o qs)
intent_writable None qs = tt
intent_writable (Some intent) qs = (tt, tt)

writable_both : (xs ys : List Event) → AllByRecursion IsWritable xs → AllByRecursion IsWritable ys → AllByRecursion IsWritable (xs ++ ys)
writable_both [] ys a b = b
writable_both (x ∷ xs) ys a b = (a.0, writable_both xs ys a.1 b)

behind_writable : (rules : Rules) (b : Meaning) → IsWellBook rules b → AllByRecursion IsWritable (events_behind b)
behind_writable rules b well =
    writable_both (action_events 0 b.queue) (tries_events b.queue ++ intent_events b.pending b.queue)
    (subst (AllByRecursion IsWritable) (same_events 0 b.queue) (actions_writable b.boxes [] 0 (untried b.queue) well.actions))
    (writable_both (tries_events b.queue) (intent_events b.pending b.queue) (tries_writable (suc (due b.queue)) (tries_due b.queue)) (intent_writable b.pending b.queue))

all_tellable : (rules : Rules) (b : Meaning) → IsWellBook rules b → AreTellable (pieces b)
all_tellable rules b well = (
  (λ event told. subst IsWritable (sym told) well.names),
  tellable_both (box_pieces b.boxes) (map Fields (events_behind b)) (boxes_tellable b.boxes well.caches)
      (fields_tellable (events_behind b) (behind_writable rules b well)),
)

tellable_at : (list : List Piece) (place : ℕ) (piece : Piece) → slice_get list place ≡ Some piece → AreTellable list → IsTellable piece
tellable_at [] place piece there all = absurd cc
tellable_at (p ∷ list) zero piece there all = subst IsTellable (one_some p piece there) all.0
  where
    one_some : (x y : Piece) → Some x ≡ Some y → x ≡ y
    one_some x y same = cc
tellable_at (p ∷ list) (suc place) piece there all = tellable_at list place piece there all.1

size_at : (list : List Piece) (place : ℕ) (piece : Piece) → slice_get list place ≡ Some piece → piece_size piece ≤ sum_by record_size list
size_at [] place piece there = absurd cc
size_at (p ∷ list) zero piece there = subst (λ (x : Piece). piece_size x ≤ sum_by record_size (p ∷ list)) (one_some p piece there) (omega (arith, sum_by-cons record_size p list))
  where
    one_some : (x y : Piece) → Some x ≡ Some y → x ≡ y
    one_some x y same = cc
size_at (p ∷ list) (suc place) piece there = omega (arith, size_at list place piece there, sum_by-cons record_size p list)

-- what stands at a place is told by an event
record IsToldThere (o : Option Piece) (event : Event) : Type 0 where
  piece : Piece
  there : o ≡ Some piece
  told : IsTold piece event

told_there : (o : Option Piece) (event : Event) → IsToldBy o (Some event) → IsToldThere o event
told_there None event told = absurd told
told_there (Some piece) event told = record { piece = piece; there = refl; told = told }

module _ (rules : Rules) (b : Meaning) (well : IsWellBook rules b) (fits : restated_end b ≤ 1073741824) (place : ℕ) (event : Event)
    (told : IsToldBy (slice_get (pieces b) place) (Some event)) where
  pub told_writable : IsWritable event
  told_writable = let t = told_there (slice_get (pieces b) place) event told in tellable_at (pieces b) place t.piece t.there (all_tellable rules b well) event t.told

  pub told_fits : length (body_of event) ≤ 1073741824
  told_fits =
      let t = told_there (slice_get (pieces b) place) event told in
      omega (arith, fits, size_at (pieces b) place t.piece t.there, body_size t.piece event t.told)

-- ---- one body more

pub spells_there : (o : Option Piece) (event : Event) (body : List ℕ) → IsToldBy o (Some event) → Spelled body event → MaySpell o (Some body)
spells_there None event body told spelled = absurd told
spells_there (Some piece) event body told spelled = record { event = event; told = told; spelled = spelled }

pub spells_none : (o : Option Piece) → IsToldBy o None → MaySpell o None
spells_none None told = tt
spells_none (Some piece) told = absurd told

module _ (all : List Piece) where
  spell_more : (list : List Piece) (bodies : List (List ℕ)) (n : ℕ) (body : List ℕ) → SpellPieces (take n list) bodies → MaySpell (slice_get list n) (Some body) →
      SpellPieces (take (suc n) list) (bodies ++ body ∷ [])
  spell_more [] bodies n body s may = absurd may
  spell_more (p ∷ list) [] zero body s may = (may, tt)
  spell_more (p ∷ list) (x ∷ bodies) zero body s may = absurd s
  spell_more (p ∷ list) [] (suc n) body s may = absurd s
  spell_more (p ∷ list) (x ∷ bodies) (suc n) body s may = (s.0, spell_more list bodies n body s.1 may)

  spell_all : (list : List Piece) (bodies : List (List ℕ)) (n : ℕ) → SpellPieces (take n list) bodies → MaySpell (slice_get list n) None → SpellPieces list bodies
  spell_all [] [] zero s may = tt
  spell_all [] [] (suc n) s may = tt
  spell_all [] (x ∷ bodies) zero s may = absurd s
  spell_all [] (x ∷ bodies) (suc n) s may = absurd s
  spell_all (p ∷ list) bodies zero s may = absurd may
  spell_all (p ∷ list) [] (suc n) s may = absurd s
  spell_all (p ∷ list) (x ∷ bodies) (suc n) s may = (s.0, spell_all list bodies n s.1 may)

  told_more : (bodies more : List (List ℕ)) (n : ℕ) (body : List ℕ) → n ≡ length bodies → more ≡ bodies ++ body ∷ [] →
      SpellPieces (take (length bodies) all) bodies → MaySpell (slice_get all n) (Some body) → SpellPieces (take (length more) all) more
  told_more bodies more n body count is s may =
      let long : length (bodies ++ body ∷ []) ≡ suc (length bodies) = omega (arith, length-append bodies (body ∷ [])) in
      subst (λ (l : List (List ℕ)). SpellPieces (take (length l) all) l) (sym is)
      (subst (λ (m : ℕ). SpellPieces (take m all) (bodies ++ body ∷ [])) (sym long)
      (spell_more all bodies (length bodies) body s (subst (λ (m : ℕ). MaySpell (slice_get all m) (Some body)) count may)))

  told_all : (bodies : List (List ℕ)) (n : ℕ) → n ≡ length bodies → SpellPieces (take (length bodies) all) bodies → MaySpell (slice_get all n) None →
      SpellPieces all bodies
  told_all bodies n count s may = spell_all all bodies (length bodies) s (subst (λ (m : ℕ). MaySpell (slice_get all m) None) count may)

pub next_told : (all : List Piece) (bodies more : List (List ℕ)) (n : ℕ) (o : Option (List ℕ)) (body : List ℕ) → n ≡ length bodies → o ≡ Some body →
    MaySpell (slice_get all n) o → more ≡ bodies ++ body ∷ [] → SpellPieces (take (length bodies) all) bodies → SpellPieces (take (length more) all) more
next_told all bodies more n o body count here may is s =
    told_more all bodies more n body count is s (subst (λ (p : Option (List ℕ)). MaySpell (slice_get all n) p) here may)

pub last_told : (all : List Piece) (bodies : List (List ℕ)) (n : ℕ) (o : Option (List ℕ)) → n ≡ length bodies → o ≡ None → MaySpell (slice_get all n) o →
    SpellPieces (take (length bodies) all) bodies → SpellPieces all bodies
last_told all bodies n o count here may s = told_all all bodies n count s (subst (λ (p : Option (List ℕ)). MaySpell (slice_get all n) p) here may)
