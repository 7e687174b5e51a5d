-- Records that stand one behind the other, in a piece of a file and in the file.
use Rattle.std.proofs.Common.{◌≡◌, ℕ, ◌+◌, ◌-◌, ◌≤◌, ◌<◌, min, List, [], ◌∷◌, ◌++◌, length, get_or, take, drop, slice_index, map, Some}
use Rattle.std.proofs.Common.{None, refl, sym, ◌∙◌, ap, subst, arith, append_assoc, length-append, length-drop, length-take}
use Rattle.std.proofs.Common.{take-append-drop}
use Rattle.std.specs.Int.{w32, to_be_bytes}
use Rattle.std.proofs.lemmas.List.{append-nil, drop_more, take_min, get_or-take, map-append}
use Rattle.world_traits.specs.Files.{Files, file_of}
use Rattle.world_traits.specs.Moments.{Clock, Moment}
use Rattle.journal_core.specs.Records.{AreBodies, From, open_record, records}
use Rattle.journal_core.specs.Standing.{Standing, IsStill}
use Rattle.journal_core.specs.Fronts.{IsWhole}
use Rattle.journal_core.specs.declared.bodies.Part.{Part}
use Rattle.journal_core.specs.Reading.{HasClosedGate, StandsAt, TakesFirst, OnlyLooks, behind}
use Rattle.journal_core.specs.Several.{StandFrom, TakesSome, part_of, behind_all}
use Rattle.journal_core.proofs.Lists.{records-push, length-more, are_more}
use Rattle.journal_core.proofs.Looking.{looks_none}
use Rattle.journal_core.proofs.Nexting.{stands_at, closed_at, behind_record, first_none, first_some, still_some}

-- a read gives as many bytes as there are
pub all_there : (count size at room : ℕ) (body into file : List ℕ) → room ≡ size → count ≡ min room (length file - at) →
    body ≡ take count into → take count into ≡ take count (drop at file) → body ≡ take size (drop at file)
all_there count size at room body into file long is cut same =
    let many : count ≡ min size (length (drop at file)) = omega (arith, long, is, length-drop at file) in
    cut ∙ same ∙ ap (λ (n : ℕ). take n (drop at file)) many ∙ take_min size (drop at file)

-- what the front of a piece from a place on says
pub whole_here : (piece : List ℕ) (at left size : ℕ) (front : List ℕ) → front ≡ take 5 (drop at piece) → left ≡ length piece - at
    → ((rest : List ℕ) → length front ≡ min 5 (length rest) → left ≡ length rest → front ≡ take (length front) rest → IsWhole size rest) →
    IsWhole size (drop at piece)
whole_here piece at left size front is much says =
    let long : length front ≡ min 5 (length (drop at piece)) = ap length is ∙ length-take 5 (drop at piece) in
    let all : left ≡ length (drop at piece) = much ∙ sym (length-drop at piece) in
    let cut : front ≡ take (length front) (drop at piece) = is ∙ sym (take_min 5 (drop at piece)) ∙ ap (λ (n : ℕ). take n (drop at piece)) (sym long) in
    says (drop at piece) long all cut

-- records of these bodies stand at the front of the bytes, so long, and more behind them
pub record StandTo (bodies : List (List ℕ)) (end : ℕ) (bytes : List ℕ) : Type 0 where
  pub sizes : AreBodies bodies
  pub is : bytes ≡ records bodies ++ drop end bytes
  pub long : end ≡ length (records bodies)
  pub within : end < length bytes

-- one more of them
pushed : (bodies : List (List ℕ)) (body rest : List ℕ) → records bodies ++ (open_record body ++ rest) ≡ records (bodies ++ body ∷ []) ++ rest
pushed bodies body rest = ap (λ (t : List ℕ). records bodies ++ 1 ∷ t)
    (append_assoc (to_be_bytes w32 (length body)) body rest ∙ sym (append_assoc (to_be_bytes w32 (length body)) body rest))
    ∙ sym (records-push bodies body rest)

pub longer : (bodies : List (List ℕ)) (body : List ℕ) → length (records (bodies ++ body ∷ [])) ≡ length (records bodies) + 5 + length body
longer bodies body =
    omega (
      arith,
      length-more [] bodies body,
      length-append (to_be_bytes w32 (length body) ++ body) (0 ∷ []),
      length-append (to_be_bytes w32 (length body)) body,
    )

stand_more : (bodies : List (List ℕ)) (end size next : ℕ) (bytes body : List ℕ) → StandTo bodies end bytes →
    IsWhole size (drop end bytes) → body ≡ take size (drop (end + 5) bytes) → next ≡ end + 5 + size →
    StandTo (bodies ++ body ∷ []) next bytes
stand_more bodies end size next bytes body so_far w cut moved =
    let s : StandsAt end body bytes × (length body ≡ size) = stands_at end bytes size w body cut in
    let there : next ≡ end + 5 + length body = omega (arith, s.1, moved) in
    let tail : drop next bytes ≡ s.0.gate ∷ s.0.rest = ap (λ (n : ℕ). drop n bytes) there ∙ behind_record end body (s.0.gate ∷ s.0.rest) bytes s.0.is in
    record {
      sizes = are_more bodies body so_far.sizes s.0.size;
      is = so_far.is ∙ ap (λ (t : List ℕ). records bodies ++ t) s.0.is ∙ pushed bodies body (s.0.gate ∷ s.0.rest)
          ∙ ap (λ (t : List ℕ). records (bodies ++ body ∷ []) ++ t) (sym tail);
      long = omega (arith, there, so_far.long, longer bodies body);
      within = omega (arith, w.long, length-drop end bytes, moved);
    }

module _ (bytes : List ℕ) where
  pub stand_none : (parts : List Part) → parts ≡ [] → 0 < length bytes → StandTo (map (part_of bytes) parts) 0 bytes
  stand_none parts none some = subst (λ (l : List Part). StandTo (map (part_of bytes) l) 0 bytes) (sym none)
      (record { sizes = tt; is = refl; long = refl; within = some })

  pub part_more : (parts after : List Part) (part : Part) (end size next : ℕ) → StandTo (map (part_of bytes) parts) end bytes →
      IsWhole size (drop end bytes) → after ≡ parts ++ part ∷ [] → part ≡ record { at = end + 5; size = size } → next ≡ end + 5 + size →
      StandTo (map (part_of bytes) after) next bytes
  part_more parts after part end size next so_far w is this moved =
      let body : part_of bytes part ≡ take size (drop (end + 5) bytes) = ap (part_of bytes) this in
      let all : map (part_of bytes) after ≡ map (part_of bytes) parts ++ part_of bytes part ∷ [] =
      ap (map (part_of bytes)) is ∙ map-append (part_of bytes) parts (part ∷ []) in
      subst (λ (b : List (List ℕ)). StandTo b next bytes) (sym all) (stand_more _ end size next bytes _ so_far w body moved)

  pub stand_from : (bodies : List (List ℕ)) (end : ℕ) → StandTo bodies end bytes → StandFrom 0 bodies bytes
  stand_from bodies end s =
      let more : 0 < length (drop end bytes) = omega (arith, s.within, length-drop end bytes) in
      record {
        sizes = s.sizes;
        gate = get_or (drop end bytes) 0 0;
        rest = drop 1 (drop end bytes);
        is = s.is ∙ ap (λ (t : List ℕ). records bodies ++ t) (drop_more (drop end bytes) 0 0 more);
      }

-- from a piece to the file
pub in_file : (piece file : List ℕ) (place size : ℕ) (bodies : List (List ℕ)) → piece ≡ take size (drop place file) →
    StandFrom 0 bodies piece → StandFrom place bodies file
in_file piece file place size bodies cut s = record {
  sizes = s.sizes;
  gate = s.gate;
  rest = s.rest ++ drop size (drop place file);
  is = sym (take-append-drop size (drop place file))
      ∙ ap (λ (l : List ℕ). l ++ drop size (drop place file)) (sym cut ∙ s.is)
      ∙ append_assoc (records bodies) (s.gate ∷ s.rest) (drop size (drop place file));
}

-- the first of them, and the others
pub stand_first : (place : ℕ) (file body : List ℕ) (bodies : List (List ℕ)) → StandFrom place (body ∷ bodies) file → StandsAt place body file
stand_first place file body [] s = record {
  size = s.sizes.0;
  gate = s.gate;
  rest = s.rest;
  is =
      s.is ∙ ap (λ (t : List ℕ). t ++ s.gate ∷ s.rest) (append-nil (open_record body));
}
stand_first place file body (b ∷ bs) s = record {
  size = s.sizes.0;
  gate = 1;
  rest = (to_be_bytes w32 (length b) ++ b ++ records bs) ++ s.gate ∷ s.rest;
  is = s.is ∙ append_assoc (open_record body) (records (b ∷ bs)) (s.gate ∷ s.rest);
}

pub stand_later : (place : ℕ) (file body : List ℕ) (bodies : List (List ℕ)) → StandFrom place (body ∷ bodies) file →
    StandFrom (place + 5 + length body) bodies file
stand_later place file body bodies s = record {
  sizes = s.sizes.1;
  gate = s.gate;
  rest = s.rest;
  is = behind_record place body (records bodies ++ s.gate ∷ s.rest) file (s.is ∙ append_assoc (open_record body) (records bodies) (s.gate ∷ s.rest));
}

record_long : (body : List ℕ) (bodies : List (List ℕ)) → length (records (body ∷ bodies)) ≡ 5 + length body + length (records bodies)
record_long body bodies = omega (arith, length-append (open_record body) (records bodies), length-append (to_be_bytes w32 (length body)) body)

-- those before one of them, and that one
pub stand_split : (before : List (List ℕ)) (body : List ℕ) (later : List (List ℕ)) (place : ℕ) (file : List ℕ) →
    StandFrom place (before ++ body ∷ later) file → StandFrom place before file × StandsAt (place + length (records before)) body file
stand_split [] body later place file s =
    let first : StandsAt place body file = stand_first place file body later s in
    let here : place ≡ place + length (records []) = omega arith in (
      record { sizes = tt; gate = 1; rest = (to_be_bytes w32 (length body) ++ body) ++ first.gate ∷ first.rest; is = first.is },
      subst (λ (n : ℕ). StandsAt n body file) here first,
    )
stand_split (b ∷ bs) body later place file s =
    let first : StandsAt place b file = stand_first place file b (bs ++ body ∷ later) s in
    let r = stand_split bs body later (place + 5 + length b) file (stand_later place file b (bs ++ body ∷ later) s) in
    let tail : first.gate ∷ first.rest ≡ records bs ++ r.0.gate ∷ r.0.rest = sym (behind_record place b (first.gate ∷ first.rest) file first.is) ∙ r.0.is in
    let there : place + 5 + length b + length (records bs) ≡ place + length (records (b ∷ bs)) = omega (arith, record_long b bs) in (
      record {
        sizes = (s.sizes.0, r.0.sizes);
        gate = r.0.gate;
        rest = r.0.rest;
        is = first.is ∙ ap (λ (t : List ℕ). open_record b ++ t) tail ∙ sym (append_assoc (open_record b) (records bs) (r.0.gate ∷ r.0.rest));
      },
      subst (λ (n : ℕ). StandsAt n body file) there r.1,
    )

-- of the bodies from a place on they are the first ones
pub first_few : (few bodies : List (List ℕ)) (place : ℕ) (file : List ℕ) (after : Standing) → From place bodies file →
    StandFrom place few file → after.place ≡ place + length (records few) → TakesSome bodies few file after
first_few [] bodies place file after from s moved =
    let here : after.place ≡ place = moved ∙ omega arith in
    record { later = bodies; is = refl; from = subst (λ (n : ℕ). From n bodies file) (sym here) from }
first_few (b ∷ bs) [] place file after from s moved =
    let taken : Some b ≡ None = first_some place file (record after { place = place + 5 + length b }) [] from b (stand_first place file b bs s) refl in
    absurd cc
first_few (b ∷ bs) (c ∷ cs) place file after from s moved =
    let taken : TakesFirst (c ∷ cs) file (record after { place = place + 5 + length b }) (Some b) =
    first_some place file (record after { place = place + 5 + length b }) (c ∷ cs) from b (stand_first place file b bs s) refl in
    let same : b ≡ c = cc (taken.0) in
    let r = first_few bs cs (place + 5 + length b) file after taken.1 (stand_later place file b bs s) (omega (arith, moved, record_long b bs)) in
    record { later = r.later; is = ap (λ (x : List ℕ). x ∷ cs) (sym same) ∙ ap (λ (l : List (List ℕ)). b ∷ l) r.is; from = r.from }

-- the journal stays still behind them
pub still_here : (few bodies : List (List ℕ)) (j : Standing) (k : Clock) (f : Files) → IsStill j bodies k.now f →
    StandFrom j.place few (file_of j.side f) → IsStill (behind_all few j) (bodies ++ few) k.now f
still_here [] bodies j k f still s =
    let here : j ≡ behind_all [] j = ap (λ (n : ℕ). record j { place = n }) (omega arith) in
    subst (λ (x : Standing). IsStill x (bodies ++ []) k.now f) here (subst (λ (b : List (List ℕ)). IsStill j b k.now f) (sym (append-nil bodies)) still)
still_here (b ∷ bs) bodies j k f still s =
    let one : IsStill (behind (length b) j) (bodies ++ b ∷ []) k.now f =
    still_some j bodies k k f f still (looks_none k f) (behind (length b) j) b refl (stand_first j.place (file_of j.side f) b bs s) in
    let all : IsStill (behind_all bs (behind (length b) j)) ((bodies ++ b ∷ []) ++ bs) k.now f =
    still_here bs (bodies ++ b ∷ []) (behind (length b) j) k f one (stand_later j.place (file_of j.side f) b bs s) in
    let there : behind_all bs (behind (length b) j) ≡ behind_all (b ∷ bs) j = ap (λ (n : ℕ). record j { place = n }) (omega (arith, record_long b bs)) in
    subst (λ (x : Standing). IsStill x (bodies ++ b ∷ bs) k.now f) there
    (subst (λ (l : List (List ℕ)). IsStill (behind_all bs (behind (length b) j)) l k.now f) (append_assoc bodies (b ∷ []) bs) all)

pub still_few : (few bodies : List (List ℕ)) (j after : Standing) (k l : Clock) (f g : Files) → IsStill j bodies k.now f →
    OnlyLooks k l f g → StandFrom j.place few (file_of j.side f) → after ≡ behind_all few j → IsStill after (bodies ++ few) l.now g
still_few few bodies j after k l f g still looks s moved =
    subst (λ (x : Standing). IsStill x (bodies ++ few) l.now g) (sym moved)
    (subst (λ (m : Moment). IsStill (behind_all few j) (bodies ++ few) m g) (sym looks.now)
    (subst (IsStill (behind_all few j) (bodies ++ few) k.now) (sym looks.seen_same) (still_here few bodies j k f still s)))

-- one record alone
pub alone_none : (bodies : List (List ℕ)) (bytes : List ℕ) (after : Standing) → TakesFirst bodies bytes after None → bodies ≡ []
alone_none [] bytes after t = refl
alone_none (b ∷ bs) bytes after t =
    let e : None ≡ Some b = t.0 in
    cc

pub alone_some : (bodies few : List (List ℕ)) (bytes body : List ℕ) (after : Standing) → TakesFirst bodies bytes after (Some body) →
    few ≡ body ∷ [] → TakesSome bodies few bytes after
alone_some [] few bytes body after t is =
    let e : Some body ≡ None = t in
    absurd cc
alone_some (b ∷ bs) few bytes body after t is =
    let same : body ≡ b = cc (t.0) in
    record { later = bs; is = ap (λ (x : List ℕ). x ∷ bs) (sym same) ∙ ap (λ (l : List (List ℕ)). l ++ bs) (sym is); from = t.1 }

-- a closed gate at the front of a piece
shut_in_file : (piece file : List ℕ) (place size : ℕ) → piece ≡ take size (drop place file) → 0 < size → HasClosedGate 0 piece → HasClosedGate place file
shut_in_file piece file place size cut some shut =
    let there : slice_index piece 0 ≡ slice_index (drop place file) 0 =
    ap (λ (l : List ℕ). slice_index l 0) cut ∙ get_or-take size (drop place file) 0 0 some in
    closed_at place file (λ e. shut (there ∙ e))

-- each record takes the place on
each_long : (few : List (List ℕ)) → length few ≤ length (records few)
each_long [] = omega arith
each_long (b ∷ bs) = omega (arith, each_long bs, record_long b bs)

places_on : (few : List (List ℕ)) (place end : ℕ) → end ≡ length (records few) → place + length few ≤ place + end
places_on few place end long = omega (arith, each_long few, long)

-- a piece that was read at the journal's place
module _ (j now : Standing) (f : Files) (piece : List ℕ) (size : ℕ) (view : j ≡ now) (cut : piece ≡ take size (drop j.place (file_of j.side f))) where
  pub shut_first : (slice : List ℕ) (bodies : List (List ℕ)) → slice ≡ piece → 0 < size → HasClosedGate 0 slice →
      From now.place bodies (file_of now.side f) → bodies ≡ []
  shut_first slice bodies same some shut from =
      let here : HasClosedGate j.place (file_of j.side f) = shut_in_file piece (file_of j.side f) j.place size cut some (subst (HasClosedGate 0) same shut) in
      let closed : HasClosedGate now.place (file_of now.side f) = subst (λ (x : Standing). HasClosedGate x.place (file_of x.side f)) view here in
      alone_none bodies (file_of now.side f) now (first_none now.place (file_of now.side f) now bodies from closed)

  pub few_stand : (few : List (List ℕ)) (end : ℕ) (later : Standing) → StandFrom 0 few piece → end ≡ length (records few) →
      later ≡ record j { place = j.place + end } → StandFrom now.place few (file_of now.side f) × (later ≡ behind_all few now)
  few_stand few end later stand long moved =
      let here : StandFrom j.place few (file_of j.side f) = in_file piece (file_of j.side f) j.place size few cut stand in
      let there : later ≡ behind_all few j = moved ∙ ap (λ (n : ℕ). record j { place = j.place + n }) long in
      subst (λ (x : Standing). StandFrom x.place few (file_of x.side f) × (later ≡ behind_all few x)) view (here, there)

pub advances : (j now : Standing) (few : List (List ℕ)) (end : ℕ) → j ≡ now → end ≡ length (records few) → now.place + length few ≤ j.place + end
advances j now few end view long = subst (λ (x : Standing). x.place + length few ≤ j.place + end) view (places_on few j.place end long)
