-- The next record of an open journal.
use Rattle.std.proofs.Common.{◌≡◌, ℕ, ◌+◌, ◌≤◌, ◌<◌, true, List, [], ◌∷◌, ◌++◌, length, get_or, take, drop, slice_index, Some, None, refl}
use Rattle.std.proofs.Common.{sym, ◌∙◌, ap, subst, arith, append_assoc, length-append, length-drop, length-take, take-append-drop}
use Rattle.std.proofs.Common.{get_or-drop}
use Rattle.std.specs.Int.{w32, to_be_bytes, from_be_bytes}
use Rattle.std.proofs.lemmas.Nat.{from_be_bytes-to_be_bytes_4}
use Rattle.std.proofs.lemmas.List.{append-nil, drop_more, drop-drop, take_at, drop_at}
use Rattle.world_traits.specs.Files.{Files, file_of}
use Rattle.world_traits.specs.Moments.{Clock}
use Rattle.mail_base.specs.Bodies.{IsBody}
use Rattle.journal_core.specs.Records.{From, open_record, records}
use Rattle.journal_core.specs.Sides.{head_of}
use Rattle.journal_core.specs.Holds.{IsPresent}
use Rattle.journal_core.specs.Standing.{Standing, IsStill}
use Rattle.journal_core.specs.Fronts.{IsWhole, FrontIs}
use Rattle.journal_core.specs.declared.reading.Front.{Front}
use Rattle.journal_core.specs.declared.reading.Front.TheVariants.{Torn, Whole}
use Rattle.journal_core.specs.Reading.{HasClosedGate, StandsAt, HasRecord, IsTorn, TakesFirst, OnlyLooks, behind}
use Rattle.journal_core.proofs.Lists.{records-push, are_more}
use Rattle.journal_core.proofs.Looking.{rests_look}

-- from the front of what stands at a place to the file
module _ (place : ℕ) (file : List ℕ) where
  gate_here : slice_index (drop place file) 0 ≡ slice_index file place
  gate_here = get_or-drop place file 0 0 ∙ ap (λ (n : ℕ). get_or file n 0) (omega arith)

  pub closed_at : HasClosedGate 0 (drop place file) → HasClosedGate place file
  closed_at shut = λ e. shut (gate_here ∙ e)

  at_zero : (body : List ℕ) → StandsAt place body file → StandsAt 0 body (drop place file)
  at_zero body s = record { size = s.size; gate = s.gate; rest = s.rest; is = s.is }

  pub torn_at : IsTorn 0 (drop place file) → IsTorn place file
  torn_at t = record { open_gate = sym gate_here ∙ t.open_gate; broken = λ body s. t.broken body (at_zero body s) }

  -- a whole record stands there with the bytes behind its length
  pub stands_at : (size : ℕ) → IsWhole size (drop place file) → (body : List ℕ) → body ≡ take size (drop (place + 5) file) →
      StandsAt place body file × (length body ≡ size)
  stands_at size w body is =
      let long : length body ≡ size = ap length is ∙ omega (
        arith,
        w.long,
        length-take size (drop (place + 5) file),
        length-drop (place + 5) file,
        length-drop place file,
      ) in
      let five : drop 5 (drop place file) ≡ drop (place + 5) file = drop-drop 5 place file in
      let tail = drop size (drop (place + 5) file) in
      let more : 0 < length tail = omega (arith, w.long, length-drop size (drop (place + 5) file), length-drop (place + 5) file, length-drop place file) in (
        record {
          size = record { some = omega (arith, w.some, long); fits = omega (arith, w.fits, long) };
          gate = get_or tail 0 0;
          rest = drop 1 tail;
          is = sym (take-append-drop 5 (drop place file))
              ∙ ap (λ (l : List ℕ). l ++ drop 5 (drop place file)) w.front
              ∙ ap (λ (l : List ℕ). (1 ∷ to_be_bytes w32 size) ++ l) (five ∙ sym (take-append-drop size (drop (place + 5) file)))
              ∙ ap (λ (l : List ℕ). (1 ∷ to_be_bytes w32 size) ++ (l ++ tail)) (sym is)
              ∙ ap (λ (n : ℕ). (1 ∷ to_be_bytes w32 n) ++ (body ++ tail)) (sym long)
              ∙ sym (append_assoc (1 ∷ to_be_bytes w32 (length body)) body tail)
              ∙ ap (λ (l : List ℕ). open_record body ++ l) (drop_more tail 0 0 more);
        },
        long,
      )

-- what stands behind an open record
pub behind_record : (place : ℕ) (body rest file : List ℕ) → drop place file ≡ open_record body ++ rest → drop (place + 5 + length body) file ≡ rest
behind_record place body rest file is =
    ap (λ (n : ℕ). drop n file) (omega arith)
    ∙ sym (drop-drop (5 + length body) place file)
    ∙ ap (drop (5 + length body)) is
    ∙ drop_at (open_record body) rest (5 + length body) (omega (arith, length-append (to_be_bytes w32 (length body)) body))

-- two records at one place
module _ (b c us vs : List ℕ) (sb : IsBody b) (sc : IsBody c) (same : open_record b ++ us ≡ open_record c ++ vs) where
  same_length : length b ≡ length c
  same_length =
      sym (from_be_bytes-to_be_bytes_4 (length b) (omega (arith, sb.fits)))
      ∙ ap (λ (l : List ℕ). from_be_bytes w32 (take 4 (drop 1 l))) same
      ∙ from_be_bytes-to_be_bytes_4 (length c) (omega (arith, sc.fits))

  past : b ++ us ≡ c ++ vs
  past = ap (drop 5) same

  pub one_body : b ≡ c
  one_body = sym (take_at b us (length b) refl) ∙ ap (take (length b)) past ∙ take_at c vs (length b) (sym same_length)

  pub one_rest : us ≡ vs
  one_rest = sym (drop_at b us (length b) refl) ∙ ap (drop (length b)) past ∙ drop_at c vs (length b) (sym same_length)

-- the first of the bodies from a place on
module _ (place : ℕ) (file : List ℕ) where
  gate_first : (g : ℕ) (r : List ℕ) → drop place file ≡ g ∷ r → slice_index file place ≡ g
  gate_first g r is = sym (gate_here place file) ∙ ap (λ (l : List ℕ). slice_index l 0) is

  pub first_none : (after : Standing) (bodies : List (List ℕ)) → From place bodies file → HasClosedGate place file → TakesFirst bodies file after None
  first_none after [] f shut = refl
  first_none after (b ∷ bs) f shut = absurd (shut (gate_first 1 _ f.is))

  pub first_some : (after : Standing) (bodies : List (List ℕ)) → From place bodies file → (body : List ℕ) → StandsAt place body file →
      after.place ≡ place + 5 + length body → TakesFirst bodies file after (Some body)
  first_some after [] f body s moved = absurd (f.closed (sym (gate_first f.gate f.rest f.is) ∙ gate_first 1 _ s.is))
  first_some after (b ∷ bs) f body s moved =
      let whole : drop place file ≡ open_record b ++ (records bs ++ f.gate ∷ f.rest) = f.is ∙ append_assoc (open_record b) (records bs) (f.gate ∷ f.rest) in
      let same : body ≡ b = one_body body b (s.gate ∷ s.rest) (records bs ++ f.gate ∷ f.rest) s.size f.sizes.0 (sym s.is ∙ whole) in
      let tail : s.gate ∷ s.rest ≡ records bs ++ f.gate ∷ f.rest =
      one_rest body b (s.gate ∷ s.rest) (records bs ++ f.gate ∷ f.rest) s.size f.sizes.0 (sym s.is ∙ whole) in (
        ap (λ (x : List ℕ). Some x) same,
        record {
          sizes = f.sizes.1;
          gate = f.gate;
          rest = f.rest;
          closed = f.closed;
          is =
              ap (λ (n : ℕ). drop n file) moved ∙ behind_record place body (s.gate ∷ s.rest) file s.is ∙ tail;
        },
      )

-- the journal stays still behind what it has read
module _ (journal : Standing) (bodies : List (List ℕ)) (k l : Clock) (f g : Files) (still : IsStill journal bodies k.now f) (looks : OnlyLooks k l f g) where
  front : List ℕ
  front = head_of journal.version journal.generation ++ records bodies

  there : drop journal.place (file_of journal.side f) ≡ still.gate ∷ still.rest
  there = ap (drop journal.place) still.is ∙ drop_at (head_of journal.version journal.generation ++ records bodies)
      (still.gate ∷ still.rest) journal.place (sym still.next)

  still_gate : slice_index (file_of journal.side f) journal.place ≡ still.gate
  still_gate = gate_first journal.place (file_of journal.side f) still.gate still.rest there

  present_now : IsPresent journal.side journal.version journal.generation g
  present_now = subst (IsPresent journal.side journal.version journal.generation) (sym looks.seen_same) still.present

  pub still_none : (after : Standing) → after ≡ record journal { all_read = true } → HasClosedGate journal.place (file_of journal.side f) →
      IsStill after (bodies ++ []) l.now g
  still_none after is shut =
      subst (λ (j : Standing). IsStill j (bodies ++ []) l.now g) (sym is)
      (subst (λ (b : List (List ℕ)). IsStill (record journal { all_read = true }) b l.now g) (sym (append-nil bodies))
      (record {
        rests = rests_look k l f g still.rests looks;
        present = present_now;
        sizes = still.sizes;
        gate = still.gate;
        rest = still.rest;
        is = ap (file_of journal.side) looks.seen_same ∙ still.is;
        next = still.next;
        closed = λ t. λ e. shut (still_gate ∙ e);
      }))

  pub still_some : (after : Standing) (body : List ℕ) → after ≡ behind (length body) journal →
      StandsAt journal.place body (file_of journal.side f) → IsStill after (bodies ++ body ∷ []) l.now g
  still_some after body is s =
      let head = head_of journal.version journal.generation in
      let tail : still.gate ∷ still.rest ≡ open_record body ++ s.gate ∷ s.rest = sym there ∙ s.is in
      subst (λ (j : Standing). IsStill j (bodies ++ body ∷ []) l.now g) (sym is)
      (record {
        rests = rests_look k l f g still.rests looks;
        present = present_now;
        sizes = are_more bodies body still.sizes s.size;
        gate = s.gate;
        rest = s.rest;
        is = ap (file_of journal.side) looks.seen_same ∙ still.is
            ∙ ap (λ (t : List ℕ). head_of journal.version journal.generation ++ records bodies ++ t) tail
            ∙ append_assoc (head_of journal.version journal.generation) (records bodies) (open_record body ++ s.gate ∷ s.rest)
            ∙ ap (λ (t : List ℕ). head_of journal.version journal.generation ++ t) (pushed bodies body (s.gate ∷ s.rest))
            ∙ sym (append_assoc (head_of journal.version journal.generation) (records (bodies ++ body ∷ [])) (s.gate ∷ s.rest));
        next = ap (λ (n : ℕ). n + 5 + length body) still.next ∙ sym (long bodies body);
        closed = λ t. absurd (still.closed t (sym still_gate ∙ gate_first journal.place (file_of journal.side f) 1 _ s.is));
      })
    where
      pushed : (bodies : List (List ℕ)) (body rest : List ℕ) → records bodies ++ (open_record body ++ rest) ≡ records (bodies ++ body ∷ []) ++ rest
      pushed bodies body rest = ap (λ (t : List ℕ). records bodies ++ 1 ∷ t)
          (append_assoc (to_be_bytes w32 (length body)) body rest ∙ sym (append_assoc (to_be_bytes w32 (length body)) body rest))
          ∙ sym (records-push bodies body rest)

      long : (bodies : List (List ℕ)) (body : List ℕ) → length (head_of journal.version journal.generation
          ++ records (bodies ++ body ∷ [])) ≡ length (head_of journal.version journal.generation ++ records bodies) + 5 + length body
      long bodies body =
          omega (
            arith,
            length-append (head_of journal.version journal.generation) (records (bodies ++ body ∷ [])),
            length-append (head_of journal.version journal.generation) (records bodies),
            ap length (records-push bodies body []),
            ap length (append-nil (records (bodies ++ body ∷ []))),
            length-append (records bodies) (1 ∷ (to_be_bytes w32 (length body) ++ body ++ [])),
            length-append (to_be_bytes w32 (length body) ++ body) [],
            length-append (to_be_bytes w32 (length body)) body,
          )

-- a whole record was read: what stands there, and where the journal stands then
pub whole_next : (journal now : Standing) (f f1 : Files) (front : Front) (size : ℕ) (body : List ℕ) (later : Standing) → journal ≡ now →
    f1 ≡ f → front ≡ Whole size → FrontIs front (drop journal.place (file_of journal.side f))
    → (journal.place + 5 + size ≤ length (file_of journal.side f1) →
    body ≡ take size (drop (journal.place + 5) (file_of journal.side f1))) →
    later ≡ record journal { place = journal.place + (size + 5) }
    → StandsAt now.place body (file_of now.side f) × (later ≡ behind (length body) now)
whole_next journal now f f1 front size body later view same is whole given moved =
    let file = file_of journal.side f in
    let w : IsWhole size (drop journal.place (file_of journal.side f)) =
    subst (λ (x : Front). FrontIs x (drop journal.place (file_of journal.side f))) is whole in
    let given' = subst (λ (x : Files). journal.place + 5 + size ≤ length (file_of journal.side x) →
    body ≡ take size (drop (journal.place + 5) (file_of journal.side x))) same given in
    let s = stands_at journal.place (file_of journal.side f) size w body (given' (omega (arith, w.long, length-drop journal.place (file_of journal.side f)))) in
    let there : later ≡ behind (length body) journal = moved ∙ ap (λ (n : ℕ). record journal { place = n }) (omega (arith, s.1)) in
    subst (λ (j : Standing). StandsAt j.place body (file_of j.side f) × (later ≡ behind (length body) j)) view (s.0, there)

-- one stands there, whether it was read or not
pub record_there : (journal now : Standing) (f : Files) (first : Front) (size : ℕ) → journal ≡ now → first ≡ Whole size →
    FrontIs first (drop journal.place (file_of journal.side f)) → HasRecord now.place (file_of now.side f)
record_there journal now f first size view is whole =
    let w : IsWhole size (drop journal.place (file_of journal.side f)) =
    subst (λ (x : Front). FrontIs x (drop journal.place (file_of journal.side f))) is whole in
    let s = stands_at journal.place (file_of journal.side f) size w (take size (drop (journal.place + 5) (file_of journal.side f))) refl in
    subst (λ (j : Standing). HasRecord j.place (file_of j.side f)) view (record { body = _; stands = s.0 })

pub torn_next : (journal now : Standing) (f : Files) (first : Front) → journal ≡ now → first ≡ Torn →
    FrontIs first (drop journal.place (file_of journal.side f)) → (journal.place ≡ now.place) × IsTorn now.place (file_of now.side f)
torn_next journal now f first view is torn = (
  ap (λ (j : Standing). j.place) view,
  subst (λ (j : Standing). IsTorn j.place (file_of j.side f)) view
      (torn_at journal.place (file_of journal.side f) (subst (λ (x : Front). FrontIs x
      (drop journal.place (file_of journal.side f))) is torn)),
)
