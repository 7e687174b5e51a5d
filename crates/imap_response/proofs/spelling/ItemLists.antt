-- The items of a message together: what is read, and what is spelled.
use Rattle.std.proofs.Common.{◌≡◌, ℕ, zero, suc, ◌≤◌, List, [], ◌∷◌, ◌++◌, length, refl, ap, sym, ◌∙◌, subst, inl, inr, arith}
use Rattle.std.proofs.Common.{append_assoc, append-nil, length-append, Option, None, Result, Ok, Err}
use Rattle.std.specs.Prelude.{fold}
use Rattle.flag_set.specs.declared.flag_fault.FlagFault.{FlagFault}
use Rattle.imap_model.specs.declared.fetched.Fetched.{Fetched}
use Rattle.imap_model.specs.declared.response.Response.TheVariants as responses
use Rattle.imap_model.specs.Parts.{Part, bytes}
use Rattle.imap_model.specs.Words.{IsGap, AreSpaces}
use Rattle.imap_model.specs.Values.{is_wide_byte, IsWide}
use Rattle.imap_model.specs.FetchItems as model
use Rattle.imap_model.specs.FetchItems.{IsItem, AreItems, fetched_of}
use Rattle.imap_model.proofs.Cutting.{Stops as Ends}
use Rattle.imap_response.specs.declared.fetch.Gathered.{Gathered}
use Rattle.imap_response.specs.declared.fetch.Told.{Told}
use Rattle.imap_response.specs.declared.fetch.Told.TheVariants as tellings
use Rattle.imap_response.specs.declared.line.Said.{Said}
use Rattle.imap_response.specs.Leaf.{is_space, gap_at, end_at, mark_at, wide_at}
use Rattle.imap_response.specs.Reads.{◌>>=◌, or_else}
use Rattle.imap_response.specs.Flags.{whole}
use Rattle.imap_response.specs.Left.{Left, at_left, mark_in}
use Rattle.imap_response.specs.Items.{is_atom, item_at, nothing, with_told, items_from, items_at}
use Rattle.imap_response.specs.ReadLines.{fetch_at}
use Rattle.std.specs.List.{AllByRecursion}
use Rattle.imap_response.specs.Within.{IsToldWithin}
use Rattle.imap_response.proofs.spelling.Agreeing.{Agrees}
use Rattle.imap_response.proofs.spelling.IdSections.{gap_wide}
use Rattle.imap_response.proofs.spelling.ItemAgreeing.{ToldAgrees, item_agrees, one_agrees}
use Rattle.imap_response.proofs.spelling.Items.{told_of, IsItemFront, item_spells, item_is, by_section, by_name, atom_is}
use Rattle.imap_response.proofs.spelling.ItemReads.{Gives, item_reads, wide_solid}
use Rattle.imap_response.proofs.spelling.Passing.{Passes, Fits, text_of, bytes_pass, pass_bytes, pass_left, split, joined, fits_behind, bytes_joined}
use Rattle.imap_response.proofs.spelling.Results.{ok_is, ok_first, ok_bind, bind_ok, ok_or_else, or_else_ok, or_else_err, err_not}
use Rattle.imap_response.proofs.spelling.Runs.{reading_cuts}
use Rattle.imap_response.proofs.spelling.Steps.{repart, gap_front, gap_there, mark_front, mark_there, mark_in_front, mark_in_there, no_mark}
use Rattle.imap_response.proofs.spelling.Words.{end_spells, end_reads}

-- one item more
told_more : (gathered : Gathered) (told : Told) → (with_told gathered told).fetched ≡ model.with_told gathered.fetched (told_of told)
told_more gathered (tellings.Uid uid) = refl
told_more gathered (tellings.Flags flags excess) = refl
told_more gathered (tellings.ModSeq modseq) = refl
told_more gathered (tellings.Ids ids) = refl
told_more gathered (tellings.Text text) = refl
told_more gathered tellings.Nothing = refl

-- no excess so far, and each set within the limits
abbrev IsWithin : Gathered → List model.Told → Type 0
IsWithin gathered told = (gathered.excess ≡ None) × AllByRecursion IsToldWithin told

one_within : (gathered : Gathered) (told : Told) → ToldAgrees told → Agrees (with_told gathered told).excess (IsWithin gathered (told_of told ∷ []))
one_within gathered told agrees =
    let one = one_agrees gathered told agrees in
    record { to = λ none. (let both = one.to none in (both.0, (both.1, tt))); from = λ within. one.from (within.0, within.1.0) }

more_within : (excess : Option FlagFault) (gathered : Gathered) (told : Told) (later : List model.Told) → ToldAgrees told →
    Agrees excess (IsWithin (with_told gathered told) later) → Agrees excess (IsWithin gathered (told_of told ∷ later))
more_within excess gathered told later agrees rest =
    let one = one_agrees gathered told agrees in
    record {
      to = λ none. (let more = rest.to none in let both = one.to more.0 in (both.0, (both.1, more.1)));
      from = λ within. rest.from (one.from (within.0, within.1.0), within.1.1);
    }

abbrev Item : Type 0
Item = Told × Left

abbrev Items : Type 0
Items = Gathered × Left

abbrev item_end : Gathered → Item → List ℕ → Result Items ℕ
item_end gathered item end = Ok (with_told gathered item.0, at_left item.1 end)

abbrev item_next : ℕ → Gathered → Item → List ℕ → Result Items ℕ
item_next more gathered item after = items_from whole more (with_told gathered item.0) (at_left item.1 after)

abbrev behind_item : ℕ → Gathered → Item → Result Items ℕ
behind_item more gathered item = or_else (mark_at 41 item.1.text) (item_end gathered item) (gap_at item.1.text >>= item_next more gathered item)

items_none : (gathered : Gathered) (left : Left) → items_from whole zero gathered left ≡ Err 0
unfolding items_from
items_none gathered left = refl

items_is : (more : ℕ) (gathered : Gathered) (left : Left) → items_from whole (suc more) gathered left ≡ (item_at whole left >>= behind_item more gathered)
unfolding items_from
items_is more gathered left = refl

-- what is read is spelled
pub record IsItemsFront (gathered : Gathered) (left : Left) (items : Items) : Type 0 where
  pub first : model.Told
  pub later : List model.Told
  pub parts : List Part
  pub are : AreItems parts (first ∷ later)
  pub passes : Passes left (parts ++ bytes (41 ∷ [])) items.1
  pub told : items.0.fetched ≡ fold model.with_told gathered.fetched (first ∷ later)
  pub agrees : Agrees items.0.excess (IsWithin gathered (first ∷ later))

last_item : (gathered : Gathered) (left : Left) (item : Item) (end : List ℕ) → ToldAgrees item.0 → IsItemFront left item →
    mark_at 41 item.1.text ≡ Ok end → IsItemsFront gathered left (with_told gathered item.0, at_left item.1 end)
last_item gathered left item end agrees front marked =
    let close = mark_front 41 item.1 end (fits_behind left front.parts item.1 front.passes) marked in
    record {
      first = told_of item.0;
      later = [];
      parts = front.parts;
      are = front.item;
      passes = joined left front.parts item.1 (bytes (41 ∷ [])) (at_left item.1 end) front.passes close;
      told = told_more gathered item.0;
      agrees = one_within gathered item.0 agrees;
    }

more_items : (gathered : Gathered) (left : Left) (item : Item) (after : List ℕ) (items : Items) → ToldAgrees item.0 →
    IsItemFront left item → gap_at item.1.text ≡ Ok after → IsItemsFront (with_told gathered item.0) (at_left item.1 after) items →
    IsItemsFront gathered left items
more_items gathered left item after items agrees front gapped rest =
    let gap = gap_front item.1 after (fits_behind left front.parts item.1 front.passes) gapped in
    let before = joined left front.parts item.1 (bytes gap.gap) (at_left item.1 after) front.passes gap.passes in
    record {
      first = told_of item.0;
      later = rest.first ∷ rest.later;
      parts = front.parts ++ bytes gap.gap ++ rest.parts;
      are = (front.parts, gap.gap, rest.parts, front.item, gap.spaces, refl, rest.are);
      passes = repart left items.1 ((front.parts ++ bytes gap.gap) ++ (rest.parts ++ bytes (41 ∷ [])))
          ((front.parts ++ bytes gap.gap ++ rest.parts) ++ bytes (41 ∷ []))
          (sym (append_assoc (front.parts ++ bytes gap.gap) rest.parts (bytes (41 ∷ []))))
          (joined left (front.parts ++ bytes gap.gap) (at_left item.1 after) (rest.parts ++ bytes (41 ∷ [])) items.1 before rest.passes);
      told = rest.told ∙ ap (λ (f : Fetched). fold model.with_told (model.with_told f rest.first) rest.later) (told_more gathered item.0);
      agrees = more_within items.0.excess gathered item.0 (rest.first ∷ rest.later) agrees rest.agrees;
    }

pub items_spells : (n : ℕ) (gathered : Gathered) (left : Left) (items : Items) → Fits left → items_from whole n gathered left ≡ Ok items →
    IsItemsFront gathered left items
items_spells zero gathered left items fits is = absurd (err_not 0 items (sym (items_none gathered left) ∙ is))
items_spells (suc more) gathered left items fits is =
    let item = ok_bind (item_at whole left) (behind_item more gathered) items (sym (items_is more gathered left) ∙ is) in
    let front = item_spells left item.0 fits item.1 in
    elim (ok_or_else (mark_at 41 item.0.1.text) (item_end gathered item.0) (gap_at item.0.1.text >>= item_next more gathered item.0) items item.2) [
      | inl end ↦ subst (IsItemsFront gathered left) (ok_is (with_told gathered item.0.0, at_left item.0.1 end.0) items end.2)
          (last_item gathered left item.0 end.0 (item_agrees left item.0 item.1) front end.1)
      | inr next ↦
          let after = ok_bind (gap_at item.0.1.text) (item_next more gathered item.0) items next.2 in
          let gap = gap_front item.0.1 after.0 (fits_behind left front.parts item.0.1 front.passes) after.1 in
          more_items gathered left item.0 after.0 items (item_agrees left item.0 item.1) front after.1
          (items_spells more (with_told gathered item.0.0) (at_left item.0.1 after.0) items
          (fits_behind item.0.1 (bytes gap.gap) (at_left item.0.1 after.0) gap.passes) after.2)
    ]

-- what is spelled is read
front_some : (text run rest : List ℕ) → text ≡ run ++ rest → IsWide run → Ends is_space text
front_some text run rest is wide = subst (Ends is_space) (sym is) (wide_solid run rest wide)

item_solid : (left : Left) (item : Item) → item_at whole left ≡ Ok item → Ends is_space left.text
item_solid left item is =
    let test = ok_first (is_atom (wide_at left.text).0) (length left.text)
    (or_else (mark_at 91 (wide_at left.text).1) (by_section left) (gap_at (wide_at left.text).1 >>= by_name left)) item
    (sym (item_is left) ∙ is) in
    let atom = atom_is (wide_at left.text).0 test.0 in
    let cut = reading_cuts is_wide_byte left.text in
    front_some left.text (wide_at left.text).0 (wide_at left.text).1 cut.whole (atom.0, cut.all)

pub record ItemsRead (n : ℕ) (gathered : Gathered) (left behind : Left) (told : List model.Told) : Type 0 where
  pub result : Gathered
  pub read : items_from whole n gathered left ≡ Ok (result, behind)
  pub fetched : result.fetched ≡ fold model.with_told gathered.fetched told
  pub agrees : Agrees result.excess (IsWithin gathered told)

last_read : (more : ℕ) (gathered : Gathered) (left mid behind : Left) (told : model.Told) → Gives left told mid →
    Passes mid (bytes (41 ∷ [])) behind → ItemsRead (suc more) gathered left behind (told ∷ [])
last_read more gathered left mid behind told given close = record {
  result = with_told gathered given.0;
  read = items_is more gathered left ∙ bind_ok (item_at whole left) (behind_item more gathered) (given.0, mid) (with_told gathered given.0, behind) given.1
      (or_else_ok (mark_at 41 mid.text) (item_end gathered (given.0, mid))
      (gap_at mid.text >>= item_next more gathered (given.0, mid)) behind.text (mark_there 41 mid behind close)
      ∙ ap (λ (l : Left). Ok (with_told gathered given.0, l)) (pass_left mid (41 ∷ []) behind close));
  fetched = told_more gathered given.0 ∙ ap (model.with_told gathered.fetched) given.2;
  agrees = subst (λ (t : model.Told). Agrees (with_told gathered given.0).excess (IsWithin gathered (t ∷ []))) given.2
      (one_within gathered given.0 (item_agrees left (given.0, mid) given.1));
}

no_close : (gap : List ℕ) (mid next : Left) → IsGap gap → mid.text ≡ gap ++ next.text → (rest : List ℕ) → mark_at 41 mid.text ≡ Ok rest → ⊥
no_close [] mid next spaces is rest marked = spaces.0 refl
no_close (b ∷ gap) mid next spaces is rest marked = no_mark 41 b mid.text (gap ++ next.text) is
    (λ e. (let space = spaces.1.0 in omega (arith, e, space))) rest marked

more_read : (more : ℕ) (gathered : Gathered) (left mid next behind : Left) (told : model.Told) (later : List model.Told) (gap : List ℕ) →
    IsGap gap → Passes mid (bytes gap) next → Ends is_space next.text
    → (given : Gives left told mid) → ItemsRead more (with_told gathered given.0) next behind later → ItemsRead (suc more) gathered left behind (told ∷ later)
more_read more gathered left mid next behind told later gap spaces spaced solid given rest = record {
  result = rest.result;
  read = items_is more gathered left ∙ bind_ok (item_at whole left) (behind_item more gathered) (given.0, mid) (rest.result, behind) given.1
      (or_else_err (mark_at 41 mid.text) (item_end gathered (given.0, mid)) (gap_at mid.text >>= item_next more gathered (given.0, mid))
      (no_close gap mid next spaces (pass_bytes mid gap next spaced))
      ∙ bind_ok (gap_at mid.text) (item_next more gathered (given.0, mid)) next.text (rest.result, behind) (gap_there mid next gap spaces solid spaced)
      (ap (λ (l : Left). items_from whole more (with_told gathered given.0) l) (pass_left mid gap next spaced) ∙ rest.read));
  fetched = rest.fetched ∙ ap (λ (f : Fetched). fold model.with_told f later) (told_more gathered given.0 ∙ ap (model.with_told gathered.fetched) given.2);
  agrees = subst (λ (t : model.Told). Agrees rest.result.excess (IsWithin gathered (t ∷ later))) given.2
      (more_within rest.result.excess gathered given.0 later (item_agrees left (given.0, mid) given.1) rest.agrees);
}

some_gap : (left mid next : Left) (item : List Part) (gap : List ℕ) (more : ℕ) → Passes left item mid → IsGap gap →
    Passes mid (bytes gap) next → length left.text ≤ suc more → length next.text ≤ more
some_gap left mid next item [] more first spaces second fits = absurd (spaces.0 refl)
some_gap left mid next item (b ∷ gap) more first spaces second fits =
    omega (
      arith,
      ap length first.text,
      length-append (text_of item) mid.text,
      ap length (pass_bytes mid (b ∷ gap) next second),
      length-append (b ∷ gap) next.text,
      fits,
    )

none_there : (left behind : Left) (parts : List Part) → Passes left (parts ++ bytes (41 ∷ [])) behind → length left.text ≤ 0 → ⊥
none_there left behind parts passes fits =
    let cut = split left parts (bytes (41 ∷ [])) behind passes in
    omega (arith, ap length cut.1.text, length-append (text_of parts) cut.0.text, ap length cut.2.text, fits)

close_wide : (mid behind : Left) → Passes mid (bytes (41 ∷ [])) behind → Ends is_wide_byte mid.text
close_wide mid behind close = subst (Ends is_wide_byte) (sym (pass_bytes mid (41 ∷ []) behind close)) refl

solid_there : (told : List model.Told) (left behind : Left) (parts : List Part) → AreItems parts told →
    Passes left (parts ++ bytes (41 ∷ [])) behind → Ends is_space left.text
solid_there [] left behind parts are passes = absurd are
solid_there (told ∷ []) left behind parts are passes =
    let close = split left parts (bytes (41 ∷ [])) behind passes in
    let given = item_reads left close.0 parts told are close.1 (close_wide close.0 behind close.2) in
    item_solid left (given.0, close.0) given.1
solid_there (told ∷ next ∷ more) left behind parts are passes =
    let whole' = repart left behind (parts ++ bytes (41 ∷ [])) (are.0 ++ (bytes are.1 ++ (are.2 ++ bytes (41 ∷ []))))
    (ap (λ (p : List Part). p ++ bytes (41 ∷ [])) are.5 ∙ append_assoc (are.0 ++ bytes are.1) are.2 (bytes (41 ∷ []))
    ∙ append_assoc are.0 (bytes are.1) (are.2 ++ bytes (41 ∷ []))) passes in
    let first = split left are.0 (bytes are.1 ++ (are.2 ++ bytes (41 ∷ []))) behind whole' in
    let second = split first.0 (bytes are.1) (are.2 ++ bytes (41 ∷ [])) behind first.2 in
    let given = item_reads left first.0 are.0 told are.3 first.1
    (gap_wide are.1 second.0.text first.0.text are.4 (pass_bytes first.0 are.1 second.0 second.1)) in
    item_solid left (given.0, first.0) given.1

pub items_read : (n : ℕ) (told : List model.Told) (gathered : Gathered) (left behind : Left) (parts : List Part) → AreItems parts told →
    Passes left (parts ++ bytes (41 ∷ [])) behind → length left.text ≤ n → ItemsRead n gathered left behind told
items_read n [] gathered left behind parts are passes fits = absurd are
items_read zero (told ∷ later) gathered left behind parts are passes fits = absurd (none_there left behind parts passes fits)
items_read (suc more) (told ∷ []) gathered left behind parts are passes fits =
    let close = split left parts (bytes (41 ∷ [])) behind passes in
    let given = item_reads left close.0 parts told are close.1 (close_wide close.0 behind close.2) in
    last_read more gathered left close.0 behind told given close.2
items_read (suc more) (told ∷ next ∷ later) gathered left behind parts are passes fits =
    let whole' = repart left behind (parts ++ bytes (41 ∷ [])) (are.0 ++ (bytes are.1 ++ (are.2 ++ bytes (41 ∷ []))))
    (ap (λ (p : List Part). p ++ bytes (41 ∷ [])) are.5 ∙ append_assoc (are.0 ++ bytes are.1) are.2 (bytes (41 ∷ []))
    ∙ append_assoc are.0 (bytes are.1) (are.2 ++ bytes (41 ∷ []))) passes in
    let first = split left are.0 (bytes are.1 ++ (are.2 ++ bytes (41 ∷ []))) behind whole' in
    let second = split first.0 (bytes are.1) (are.2 ++ bytes (41 ∷ [])) behind first.2 in
    let given = item_reads left first.0 are.0 told are.3 first.1
    (gap_wide are.1 second.0.text first.0.text are.4 (pass_bytes first.0 are.1 second.0 second.1)) in
    let solid = solid_there (next ∷ later) second.0 behind are.2 are.6 second.2 in
    more_read more gathered left first.0 second.0 behind told (next ∷ later) are.1 are.4 second.1 solid given
    (items_read more (next ∷ later) (with_told gathered given.0) second.0 behind are.2 are.6 second.2
    (some_gap left first.0 second.0 are.0 are.1 more first.1 are.4 second.1 fits))

-- in parentheses
abbrev items_in : Left → Result Items ℕ
items_in inside = items_from whole (length inside.text) nothing inside

list_is : (left : Left) → items_at whole left ≡ (mark_in 40 left >>= items_in)
unfolding items_at
list_is left = refl

-- behind the word FETCH
abbrev said_of : Gathered → Said
said_of gathered = record { response = responses.Fetch gathered.fetched; excess = gathered.excess }

abbrev behind_end : Items → Unit {0} → Result Said ℕ
behind_end items end = Ok (said_of items.0)

abbrev behind_items : Items → Result Said ℕ
behind_items items = end_at items.1.text >>= behind_end items

abbrev behind_gap : Left → List ℕ → Result Said ℕ
behind_gap left text = items_at whole (at_left left text) >>= behind_items

fetch_is : (left : Left) → fetch_at whole left ≡ (gap_at left.text >>= behind_gap left)
unfolding fetch_at
fetch_is left = refl

pub record IsFetch (left : Left) (later : List Part) (fetched : Fetched) : Type 0 where
  pub gap : List ℕ
  pub items : List Part
  pub told : List model.Told
  pub blank : List ℕ
  pub gap_spaces : IsGap gap
  pub are : AreItems items told
  pub blank_spaces : AreSpaces blank
  pub whole_is : later ≡ bytes (gap ++ 40 ∷ []) ++ items ++ bytes (41 ∷ blank)
  pub tells : fetched ≡ fetched_of told

pub record IsFetchFront (left : Left) (said : Said) : Type 0 where
  pub later : List Part
  pub fetched : Fetched
  pub fetch : IsFetch left later fetched
  pub end : Left
  pub passes : Passes left later end
  pub none : end.text ≡ []
  pub is : said.response ≡ responses.Fetch fetched
  pub within : said.excess ≡ None → AllByRecursion IsToldWithin fetch.told

fetch_parts : (gap : List ℕ) (items : List Part) (blank : List ℕ) →
    (bytes gap ++ bytes (40 ∷ [])) ++ (items ++ bytes (41 ∷ [])) ++ bytes blank ≡ bytes (gap ++ 40 ∷ []) ++ items ++ bytes (41 ∷ blank)
fetch_parts gap items blank =
    ap (λ (p : List Part). p ++ (items ++ bytes (41 ∷ [])) ++ bytes blank) (sym (bytes_joined gap (40 ∷ [])))
    ∙ ap (λ (p : List Part). p ++ bytes blank) (sym (append_assoc (bytes (gap ++ 40 ∷ [])) items (bytes (41 ∷ []))))
    ∙ append_assoc (bytes (gap ++ 40 ∷ []) ++ items) (bytes (41 ∷ [])) (bytes blank)

pub fetch_spells : (left : Left) (said : Said) → Fits left → fetch_at whole left ≡ Ok said → IsFetchFront left said
fetch_spells left said fits is =
    let text = ok_bind (gap_at left.text) (behind_gap left) said (sym (fetch_is left) ∙ is) in
    let items = ok_bind (items_at whole (at_left left text.0)) behind_items said text.2 in
    let done = ok_bind (end_at items.0.1.text) (behind_end items.0) said items.2 in
    let gap = gap_front left text.0 fits text.1 in
    let fits1 = fits_behind left (bytes gap.gap) (at_left left text.0) gap.passes in
    let inside = ok_bind (mark_in 40 (at_left left text.0)) items_in items.0 (sym (list_is (at_left left text.0)) ∙ items.1) in
    let open_ = mark_in_front 40 (at_left left text.0) inside.0 fits1 inside.1 in
    let fits2 = fits_behind (at_left left text.0) (bytes (40 ∷ [])) inside.0 open_ in
    let list = items_spells (length inside.0.text) nothing inside.0 items.0 fits2 inside.2 in
    let fits3 = fits_behind inside.0 (list.parts ++ bytes (41 ∷ [])) items.0.1 list.passes in
    let blank = bytes_pass items.0.1 items.0.1.text [] fits3 (sym (append-nil items.0.1.text)) in
    let front = joined left (bytes gap.gap) (at_left left text.0) (bytes (40 ∷ [])) inside.0 gap.passes open_ in
    let middle = joined left (bytes gap.gap ++ bytes (40 ∷ [])) inside.0 (list.parts ++ bytes (41 ∷ [])) items.0.1 front list.passes in
    let all = joined left ((bytes gap.gap ++ bytes (40 ∷ [])) ++ (list.parts ++ bytes (41 ∷ []))) items.0.1 (bytes items.0.1.text)
    (at_left items.0.1 []) middle blank in
    record {
      later = bytes (gap.gap ++ 40 ∷ []) ++ list.parts ++ bytes (41 ∷ items.0.1.text);
      fetched = items.0.0.fetched;
      fetch = record {
        gap = gap.gap;
        items = list.parts;
        told = list.first ∷ list.later;
        blank = items.0.1.text;
        gap_spaces =
            gap.spaces;
        are = list.are;
        blank_spaces = end_spells items.0.1.text done.1;
        whole_is = refl;
        tells = list.told;
      };
      end = at_left items.0.1 [];
      passes = repart left (at_left items.0.1 []) _ _ (fetch_parts gap.gap list.parts items.0.1.text) all;
      none = refl;
      is = ap (λ (s : Said). s.response) (sym (ok_is (said_of items.0.0) said done.2));
      within = λ none. (list.agrees.to (ap (λ (s : Said). s.excess) (ok_is (said_of items.0.0) said done.2) ∙ none)).1;
    }

pub fetch_reads : (left end : Left) (later : List Part) (fetched : Fetched) (fetch : IsFetch left later fetched) → Passes left later end →
    end.text ≡ [] → (said : Said) × (fetch_at whole left ≡ Ok said) × (said.response ≡ responses.Fetch fetched)
    × (AllByRecursion IsToldWithin fetch.told → said.excess ≡ None)
fetch_reads left end later fetched fetch passes none =
    let all = repart left end later ((bytes fetch.gap ++ bytes (40 ∷ [])) ++ (fetch.items ++ bytes (41 ∷ [])) ++ bytes fetch.blank)
    (fetch.whole_is ∙ sym (fetch_parts fetch.gap fetch.items fetch.blank)) passes in
    let last = split left ((bytes fetch.gap ++ bytes (40 ∷ [])) ++ (fetch.items ++ bytes (41 ∷ []))) (bytes fetch.blank) end all in
    let middle = split left (bytes fetch.gap ++ bytes (40 ∷ [])) (fetch.items ++ bytes (41 ∷ [])) last.0 last.1 in
    let front = split left (bytes fetch.gap) (bytes (40 ∷ [])) middle.0 middle.1 in
    let list = items_read (length middle.0.text) fetch.told nothing middle.0 last.0 fetch.items fetch.are middle.2 (omega arith) in
    let solid = subst (Ends is_space) (sym (pass_bytes front.0 (40 ∷ []) middle.0 front.2)) refl in
    let spaces : AreSpaces last.0.text = subst AreSpaces (sym (pass_bytes last.0 fetch.blank end last.2
    ∙ ap (λ (t : List ℕ). fetch.blank ++ t) none ∙ append-nil fetch.blank)) fetch.blank_spaces in
    let items : items_at whole (at_left left front.0.text) ≡ Ok (list.result, last.0) =
    ap (λ (l : Left). items_at whole l) (pass_left left fetch.gap front.0 front.1) ∙ list_is front.0
    ∙ bind_ok (mark_in 40 front.0) items_in middle.0 (list.result, last.0) (mark_in_there 40 front.0 middle.0 front.2) list.read in (
      said_of list.result,
      fetch_is left ∙ bind_ok (gap_at left.text) (behind_gap left) front.0.text (said_of list.result)
          (gap_there left front.0 fetch.gap fetch.gap_spaces solid front.1)
          (bind_ok (items_at whole (at_left left front.0.text)) behind_items (list.result, last.0) (said_of list.result) items
          (bind_ok (end_at last.0.text) (behind_end (list.result, last.0)) tt (said_of list.result) (end_reads last.0.text spaces) refl)),
      ap (λ (f : Fetched). responses.Fetch f) (list.fetched ∙ sym fetch.tells),
      (λ all. list.agrees.from (refl, all)),
    )
