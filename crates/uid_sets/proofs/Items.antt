-- The items of a text, one by one.
use Rattle.std.proofs.Common.{◌≡◌, ℕ, ◌+◌, ◌<◌, Bool, true, false, not, cond, List, [], ◌∷◌, ◌++◌, length, Option, Some, None}
use Rattle.std.proofs.Common.{MatchOption, Bor, Result, Ok, Err, refl, arith, ap, sym, ◌∙◌, append_assoc, append-nil}
use Rattle.std.proofs.lemmas.List.{take_all, length-take, length-drop}
use Rattle.std.specs.List.{before_first, after_first, position_or_len, slice_split, onto_first}
use Rattle.std.proofs.lemmas.List.Splits.{slice_split_first}
use Rattle.uid_sets.specs.SequenceSet.{◌>>=◌, is_comma, item, items, items_of, Refuses}
use Rattle.uid_sets.specs.declared.uid.UidRange.{UidRange}
use Rattle.uid_sets.specs.declared.set_fault.SetFault.{SetFault}
use Rattle.uid_sets.specs.declared.set_fault.SetFault.TheVariants.{Memory, Empty, Zero, BadNumber, BadByte}

-- what is left of the texts, and one more
abbrev pub left_len : Option (Bor (List ℕ)) → ℕ
left_len None = 0
left_len (Some texts) = length texts.now + 1

-- the items so far, before those that are read
abbrev pub behind : List UidRange → Result (List UidRange) SetFault → Result (List UidRange) SetFault
behind written read = read >>= λ more. Ok (written ++ more)

split_step : (p : ℕ → Bool) (x : ℕ) (xs : List ℕ) (b : Bool) → slice_split p xs ≡ xs ∷ [] →
    cond (not b) (1 + position_or_len p xs) 0 ≡ length (x ∷ xs) →
    cond b ([] ∷ slice_split p xs) (onto_first x (slice_split p xs)) ≡ (x ∷ xs) ∷ []
split_step p x xs true more len = absurd (omega arith)
split_step p x xs false more len = rw more refl

split_rest : (p : ℕ → Bool) (x : ℕ) (xs : List ℕ) (b : Bool) → cond (not b) (1 + position_or_len p xs) 0 ≡ length (x ∷ xs) → position_or_len p xs ≡ length xs
split_rest p x xs true len = absurd (omega arith)
split_rest p x xs false len = omega arith

-- with no mark the list is the one text
pub slice_split_missing : (p : ℕ → Bool) (xs : List ℕ) → position_or_len p xs ≡ length xs → slice_split p xs ≡ xs ∷ []
slice_split_missing p [] len = refl
slice_split_missing p (x ∷ xs) len =
    split_step p x xs (p x) (slice_split_missing p xs (split_rest p x xs (p x) len)) len

-- of a text that is not empty
pub items_of_some : (text : List ℕ) → 0 < length text → items_of text ≡ items 0 (slice_split is_comma text)
unfolding items_of
items_of_some [] some = absurd (omega arith)
items_of_some (byte ∷ bytes) some = refl

-- a fault of the first item is one of all
pub fault_first : (at : ℕ) (first : List ℕ) (texts : List (List ℕ)) (written : List UidRange) (fault : SetFault) →
    item at first ≡ Err fault → behind written (items at (first ∷ texts)) ≡ Err fault
unfolding items
fault_first at first texts written fault is = rw is refl

behind_more : (written : List UidRange) (range : UidRange) (read : Result (List UidRange) SetFault) →
    behind written (read >>= λ ranges. Ok (range ∷ ranges)) ≡ behind (written ++ range ∷ []) read
behind_more written range (Ok more) = ap Ok (sym (append_assoc written (range ∷ []) more))
behind_more written range (Err fault) = refl

-- one item more is written
pub item_more : (at : ℕ) (first : List ℕ) (texts : List (List ℕ)) (written : List UidRange) (range : UidRange) → item at first ≡ Ok range →
    behind written (items at (first ∷ texts)) ≡ behind (written ++ range ∷ []) (items (at + (length first + 1)) texts)
unfolding items
item_more at first texts written range is = rw is (behind_more written range (items (at + (length first + 1)) texts))

pub behind_none : (at : ℕ) (written : List UidRange) → behind written (items at []) ≡ Ok written
unfolding items
behind_none at written = ap Ok (append-nil _)

pub items_of_none : (text : List ℕ) → length text ≡ 0 → items_of text ≡ Err Empty
unfolding items_of
items_of_none [] none = refl
items_of_none (byte ∷ bytes) none = absurd (omega arith)

-- the texts behind the first
abbrev pub texts_behind : Option (Bor (List ℕ)) → List (List ℕ)
texts_behind None = []
texts_behind (Some texts) = slice_split is_comma texts.now

-- what a cut at the first comma gives
abbrev pub IsCut : List ℕ → Option (Bor (List ℕ)) → Type 0
IsCut texts rest = MatchOption rest (position_or_len is_comma texts ≡ length texts)
    (λ more. (position_or_len is_comma texts < length texts) × (more.now ≡ after_first is_comma texts))

pub split_by_cut : (texts first : List ℕ) (rest : Option (Bor (List ℕ))) → first ≡ before_first is_comma texts → IsCut texts rest →
    slice_split is_comma texts ≡ first ∷ texts_behind rest
split_by_cut texts first None is missing =
    slice_split_missing is_comma texts missing ∙ ap (λ text. text ∷ []) (sym (is ∙ take_all _ texts (omega arith)))
split_by_cut texts first (Some more) is found =
    rw (is, found.1) (slice_split_first is_comma texts 0 found.0)

pub place_by_cut : (at n : ℕ) (texts first : List ℕ) (rest : Option (Bor (List ℕ))) → first ≡ before_first is_comma texts →
    IsCut texts rest → at + length texts ≡ n → MatchOption rest (Unit {0}) (λ more. at + (length first + 1) + length more.now ≡ n)
place_by_cut at n texts first None is missing whole = tt
place_by_cut at n texts first (Some more) is found whole =
    let front = ap length is ∙ length-take _ texts in
    let back = ap length found.1 ∙ length-drop _ texts in
    omega arith

pub read_more : (read : Result (List UidRange) SetFault) (at : ℕ) (first : List ℕ) (written : List UidRange) (range : UidRange)
    (rest : Option (Bor (List ℕ))) → item at first ≡ Ok range → behind written (items at (first ∷ texts_behind rest)) ≡ read →
    MatchOption rest (read ≡ Ok (written ++ range ∷ [])) (λ more. behind (written ++ range ∷ [])
    (items (at + (length first + 1)) (slice_split is_comma more.now)) ≡ read)
read_more read at first written range None is so_far =
    sym so_far ∙ item_more at first [] written range is ∙ behind_none _ _
read_more read at first written range (Some more) is so_far =
    sym (item_more at first (slice_split is_comma more.now) written range is) ∙ so_far

-- a fault, by its cases
pub refuses : (text : List ℕ) (fault : SetFault) → items_of text ≡ Err fault → Refuses text fault
refuses text Memory is = tt
refuses text Empty is = is
refuses text (Zero at) is = is
refuses text (BadNumber at) is = is
refuses text (BadByte at) is = is
