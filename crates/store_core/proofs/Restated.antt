-- Bodies that tell a book anew make that book.
use Rattle.std.proofs.Common.{◌≡◌, ℕ, ◌<◌, List, [], ◌∷◌, ◌++◌, length, map, Some, None, sym, ap, subst, arith, length-append}
use Rattle.std.specs.Int.{w32, to_be_bytes}
use Rattle.journal_core.specs.Creating.{NoneEmpty, end_of}
use Rattle.journal_core.specs.Records.{open_record, records}
use Rattle.journal_core.specs.declared.version.Version.{Version}
use Rattle.action_queue.specs.Book.{Meaning, after, begun}
use Rattle.action_queue.specs.Restating.{FoldsTo, IsWellBook, names_of}
use Rattle.action_queue.specs.Telling.{Piece, Fields, AreTold, box_pieces, events_behind, pieces}
use Rattle.action_queue.specs.declared.event.Event.{Event}
use Rattle.action_queue.specs.declared.event.Event.TheVariants as events
use Rattle.action_queue.proofs.AnewBooks.{book_folds}
use Rattle.action_queue.proofs.Told.{pieces_tell}
use Rattle.record_codec.specs.Bodies.{body_of}
use Rattle.std.specs.Prelude.{sum_by}
use Rattle.std.proofs.lemmas.List.Sums.{sum_by-cons}
use Rattle.record_codec.specs.Restated.{record_size, restated_end}
use Rattle.record_codec.proofs.RestatedSizes.{body_size}
use Rattle.store_core.specs.Mail.{mail, rules_of}
use Rattle.store_core.specs.Anew.{SpellPieces, Restates}
use Rattle.store_core.specs.Books.{AreSpelled, Folds, Make}

-- the events may come in a journal whose rules they keep
folds_mail : (version : Version) (b c : Meaning) (later : List Event) → FoldsTo (rules_of version) b later c → Folds mail version (Some b) later (Some c)
folds_mail version b c [] is = ap (λ (m : Meaning). Some m) is
folds_mail version b c (event ∷ later) folds = (folds.0, folds_mail version (after b event) c later folds.2)

-- the events that bodies spell
abbrev told_events : (list : List Piece) (bodies : List (List ℕ)) → SpellPieces list bodies → List Event
told_events [] [] s = []
told_events [] (body ∷ bodies) s = absurd s
told_events (piece ∷ list) [] s = absurd s
told_events (piece ∷ list) (body ∷ bodies) s = s.0.event ∷ told_events list bodies s.1

are_told : (list : List Piece) (bodies : List (List ℕ)) (s : SpellPieces list bodies) → AreTold list (told_events list bodies s)
are_told [] [] s = tt
are_told [] (body ∷ bodies) s = absurd s
are_told (piece ∷ list) [] s = absurd s
are_told (piece ∷ list) (body ∷ bodies) s = (s.0.told, are_told list bodies s.1)

are_spelled : (list : List Piece) (bodies : List (List ℕ)) (s : SpellPieces list bodies) → AreSpelled mail bodies (told_events list bodies s)
are_spelled [] [] s = tt
are_spelled [] (body ∷ bodies) s = absurd s
are_spelled (piece ∷ list) [] s = absurd s
are_spelled (piece ∷ list) (body ∷ bodies) s = (s.0.spelled, are_spelled list bodies s.1)

-- the first event begins the book, and the later ones make it
makes : (version : Version) (b : Meaning) → IsWellBook (rules_of version) b → (begin : Event) (later : List Event) → AreTold (pieces b) (begin ∷ later) →
    Folds mail version None (begin ∷ later) (Some b)
makes version b well begin later told =
    let t = pieces_tell b begin later told in
    subst (λ (e : Event). Folds mail version None (e ∷ later) (Some b)) (sym t.0)
    (well.names, folds_mail version (begun (names_of b.boxes)) b later (book_folds (rules_of version) b later well t.1))

pub restates_makes : (version : Version) (b : Meaning) (bodies : List (List ℕ)) → IsWellBook (rules_of version) b → Restates b bodies → Make mail version bodies (Some b)
restates_makes version b [] well s = absurd s
restates_makes version b (body ∷ bodies) well s =
    let told = are_told (pieces b) (body ∷ bodies) s in
    record {
      events = told_events (pieces b) (body ∷ bodies) s;
      spelled = are_spelled (pieces b) (body ∷ bodies) s;
      folds = makes version b well s.0.event (told_events (box_pieces b.boxes ++ map Fields (events_behind b)) bodies s.1) told;
    }

-- none of them is empty
lettered : (event : Event) → 0 < length (body_of event)
lettered (events.Begin names) = omega arith
lettered (events.Accept id action) = omega arith
lettered (events.Intend id intent) = omega arith
lettered (events.Settle id outcome) = omega arith
lettered (events.Learn name delta) = omega arith
lettered (events.Old id action outcome) = omega arith
lettered (events.Reset name kept told) = omega arith
lettered (events.Withdraw id tries) = omega arith

pub restated_some : (list : List Piece) (bodies : List (List ℕ)) → SpellPieces list bodies → NoneEmpty bodies
restated_some [] [] s = tt
restated_some [] (body ∷ bodies) s = absurd s
restated_some (piece ∷ list) [] s = absurd s
restated_some (piece ∷ list) (body ∷ bodies) s =
    (omega (arith, ap length s.0.spelled.is, lettered s.0.event), restated_some list bodies s.1)

pub restated_first : (b : Meaning) (bodies : List (List ℕ)) → Restates b bodies → 0 < length bodies
restated_first b [] s = absurd s
restated_first b (body ∷ bodies) s = omega arith

-- and how many bytes their records have
restated_length : (list : List Piece) (bodies : List (List ℕ)) → SpellPieces list bodies → length (records bodies) ≡ sum_by record_size list
restated_length [] [] s = omega arith
restated_length [] (body ∷ bodies) s = absurd s
restated_length (piece ∷ list) [] s = absurd s
restated_length (piece ∷ list) (body ∷ bodies) s =
    omega (
      arith,
      length-append (open_record body) (records bodies),
      length-append (to_be_bytes w32 (length body)) body,
      restated_length list bodies s.1,
      ap length s.0.spelled.is,
      body_size piece s.0.event s.0.told,
      sum_by-cons record_size piece list,
    )

pub restates_end : (b : Meaning) (bodies : List (List ℕ)) → Restates b bodies → end_of bodies ≡ restated_end b
restates_end b bodies s = omega (arith, restated_length (pieces b) bodies s)
