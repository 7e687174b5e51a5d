-- What a command's text is made of holds no CR, but for the ends of its parts and the octets of literals.
use Rattle.std.proofs.Common.{◌≡◌, ℕ, ◌<◌, ◌^◌, zero, suc, Bool, true, false, not, cond, ◌&&◌, ◌||◌, ◌==◌, nat_lt, List, [], ◌∷◌, ◌++◌}
use Rattle.std.proofs.Common.{length, map, replicate, decimal, slice_index, refl, ap, sym, ◌∙◌, arith}
use Rattle.std.specs.Char.{is_ascii_digit}
use Rattle.std.specs.List.{flat_map, list_all, join_with_byte}
use Rattle.std.proofs.lemmas.Bool.{and_parts}
use Rattle.std.proofs.lemmas.Bool.Decides.{nat_tests}
use Rattle.std.proofs.lemmas.List.Folds.{list_all-append}
use Rattle.base64.specs.Engines.{standard}
use Rattle.base64.specs.Rfc4648.{encode_symbols, padding_len}
use Rattle.flag_set.specs.Flag.{backslash, is_atom_byte, is_flag, name_of, spelling}
use Rattle.flag_set.specs.FlagKey.{IsKey}
use Rattle.flag_set.specs.FlagSet.{AllKeys}
use Rattle.flag_set.specs.FlagText.{list_text}
use Rattle.flag_set.proofs.Keys.{accepted}
use Rattle.flag_set.proofs.Texts.{spelling_accepted}
use Rattle.mail_base.specs.Account.{Credentials}
use Rattle.uid_sets.specs.Spelling.{range_text, set_text}
use Rattle.uid_sets.specs.UidSet.{IsCanonical, RisesAbove}
use Rattle.uid_sets.specs.declared.uid.UidRange.{UidRange}
use Rattle.imap_model.specs.Astring.{is_quotable, escaped, quoted}
use Rattle.imap_model.specs.CommandText.{response_of}
use Rattle.imap_model.specs.Tagged.{is_astring_byte}
use Rattle.imap_model.proofs.Cutting.{all_digits}

-- a byte other than CR
abbrev pub is_plain : ℕ → Bool
is_plain byte = not (byte == 13)

abbrev pub Plain : List ℕ → Type 0
Plain bytes = list_all is_plain bytes ≡ true

both_true : (x y : Bool) → x ≡ true → y ≡ true → (x && y) ≡ true
both_true true true h k = refl
both_true true false h k = k
both_true false y h k = h

plain_byte : (b : ℕ) → (b ≡ 13 → ⊥) → is_plain b ≡ true
plain_byte b other = grind (arith, nat_tests)

pub plain_both : (xs ys : List ℕ) → Plain xs → Plain ys → Plain (xs ++ ys)
plain_both xs ys plain plain' = list_all-append is_plain xs ys ∙ both_true (list_all is_plain xs) (list_all is_plain ys) plain plain'

pub plain_parts : (xs ys : List ℕ) → Plain (xs ++ ys) → Plain xs × Plain ys
plain_parts xs ys plain = and_parts (list_all is_plain xs) (list_all is_plain ys) (sym (list_all-append is_plain xs ys) ∙ plain)

-- bytes that pass a test which CR fails
plain_where : (p : ℕ → Bool) → p 13 ≡ false → (xs : List ℕ) → list_all p xs ≡ true → Plain xs
plain_where p fails [] all = refl
plain_where p fails (x ∷ xs) all =
    let both = and_parts (p x) (list_all p xs) all in
    both_true (is_plain x) (list_all is_plain xs) (plain_byte x (λ e. cc (ap p e, both.0, fails))) (plain_where p fails xs both.1)

pub plain_number : (n : ℕ) → n < 2 ^ 64 → Plain (decimal n)
plain_number n fits = plain_where is_ascii_digit refl (decimal n) (all_digits n fits)

pub plain_bare : (bytes : List ℕ) → list_all is_astring_byte bytes ≡ true → Plain bytes
plain_bare bytes all = plain_where is_astring_byte refl bytes all

-- a quoted string
plain_escape_from : (b : ℕ) (t : Bool) → is_plain b ≡ true → Plain (cond t (92 ∷ b ∷ []) (b ∷ []))
plain_escape_from b true is = both_true (is_plain b) true is refl
plain_escape_from b false is = both_true (is_plain b) true is refl

plain_escapes : (bytes : List ℕ) → list_all is_quotable bytes ≡ true → Plain (flat_map escaped bytes)
plain_escapes [] all = refl
plain_escapes (b ∷ bytes) all =
    let both = and_parts (is_quotable b) (list_all is_quotable bytes) all in
    plain_both (escaped b) (flat_map escaped bytes) (plain_escape_from b (b == 34 || b == 92)
    (plain_byte b (λ e. cc (ap is_quotable e, both.0)))) (plain_escapes bytes both.1)

pub plain_quoted : (bytes : List ℕ) → list_all is_quotable bytes ≡ true → Plain (quoted bytes)
plain_quoted bytes all = plain_both (flat_map escaped bytes) (34 ∷ []) (plain_escapes bytes all) refl

-- words with a byte between them
abbrev AllPlain : List (List ℕ) → Type 0
AllPlain [] = Unit {0}
AllPlain (word ∷ rest) = Plain word × AllPlain rest

plain_joined : (c : ℕ) (words : List (List ℕ)) → is_plain c ≡ true → AllPlain words → Plain (join_with_byte c words)
plain_joined c [] at all = refl
plain_joined c (x ∷ []) at all = all.0
plain_joined c (x ∷ y ∷ rest) at all =
    plain_both x (c ∷ join_with_byte c (y ∷ rest)) all.0 (both_true (is_plain c) (list_all is_plain (join_with_byte c (y ∷ rest))) at
    (plain_joined c (y ∷ rest) at all.1))

-- a list of flags
plain_flag_from : (b : ℕ) (rest : List ℕ) (t : Bool) → (b == backslash) ≡ t → list_all is_atom_byte (cond t rest (b ∷ rest)) ≡ true → Plain (b ∷ rest)
plain_flag_from b rest true is all = both_true (is_plain b) (list_all is_plain rest) (grind (arith, nat_tests)) (plain_where is_atom_byte refl rest all)
plain_flag_from b rest false is all = plain_where is_atom_byte refl (b ∷ rest) all

plain_flag : (text : List ℕ) → is_flag text ≡ true → Plain text
plain_flag [] is = refl
plain_flag (b ∷ rest) is =
    plain_flag_from b rest (b == backslash) refl (and_parts (nat_lt 0 (length (name_of (b ∷ rest)))) (list_all is_atom_byte (name_of (b ∷ rest))) is).1

plain_spelled : (keys : List (List ℕ)) → AllKeys IsKey keys → AllPlain (map spelling keys)
plain_spelled [] all = tt
plain_spelled (key ∷ rest) all = (plain_flag (spelling key) (accepted (spelling key) (spelling_accepted key all.0)).1, plain_spelled rest all.1)

pub plain_list : (keys : List (List ℕ)) → AllKeys IsKey keys → Plain (list_text keys)
plain_list keys all = plain_joined 32 (map spelling keys) refl (plain_spelled keys all)

-- a set of UIDs
plain_range_from : (low high : ℕ) (t : Bool) → low < 2 ^ 64 → high < 2 ^ 64 → Plain (cond t (decimal low) (decimal low ++ 58 ∷ decimal high))
plain_range_from low high true fits fits' = plain_number low fits
plain_range_from low high false fits fits' = plain_both (decimal low) (58 ∷ decimal high) (plain_number low fits) (plain_number high fits')

plain_ranges : (ranges : List UidRange) (floor : ℕ) → RisesAbove floor ranges → AllPlain (map range_text ranges)
plain_ranges [] floor rises = tt
plain_ranges (range ∷ ranges) floor rises = (
  plain_range_from range.low range.high (range.low == range.high) (omega (arith, rises.0.ordered, rises.0.fits))
      (omega (arith, rises.0.fits)),
  plain_ranges ranges _ rises.1,
)

pub plain_set : (ranges : List UidRange) → IsCanonical ranges → Plain (set_text ranges)
plain_set ranges is = plain_joined 44 (map range_text ranges) refl (plain_ranges ranges 0 is)

-- base64
plain_at : (t : List ℕ) (k : ℕ) → Plain t → is_plain (slice_index t k) ≡ true
plain_at [] k all = refl
plain_at (b ∷ t) zero all = (and_parts (is_plain b) (list_all is_plain t) all).0
plain_at (b ∷ t) (suc k) all = plain_at t k (and_parts (is_plain b) (list_all is_plain t) all).1

plain_two : (t : List ℕ) (i j : ℕ) → Plain t → Plain (slice_index t i ∷ slice_index t j ∷ [])
plain_two t i j all = both_true (is_plain (slice_index t i)) _ (plain_at t i all) (both_true (is_plain (slice_index t j)) true (plain_at t j all) refl)

plain_symbols : (t bytes : List ℕ) → Plain t → Plain (encode_symbols t bytes)
unfolding encode_symbols
plain_symbols t [] all = refl
plain_symbols t (a ∷ []) all = plain_two t _ _ all
plain_symbols t (a ∷ b ∷ []) all = plain_both (slice_index t _ ∷ slice_index t _ ∷ []) (slice_index t _ ∷ []) (plain_two t _ _ all)
    (both_true _ true (plain_at t _ all) refl)
plain_symbols t (a ∷ b ∷ c ∷ rest) all =
    plain_both (slice_index t _ ∷ slice_index t _ ∷ slice_index t _ ∷ slice_index t _ ∷ []) (encode_symbols t rest)
    (plain_both (slice_index t _ ∷ slice_index t _ ∷ []) (slice_index t _ ∷ slice_index t _ ∷ []) (plain_two t _ _ all) (plain_two t _ _ all))
    (plain_symbols t rest all)

plain_padding : (n : ℕ) → Plain (replicate n 61)
plain_padding zero = refl
plain_padding (suc n) = plain_padding n

pub plain_response : (account : Credentials) → Plain (response_of account)
unfolding response_of
plain_response account =
    plain_both (encode_symbols standard.encode_table (0 ∷ (account.user ++ 0 ∷ account.password))) _
    (plain_symbols standard.encode_table (0 ∷ (account.user ++ 0 ∷ account.password)) refl)
    (plain_padding (padding_len (length (0 ∷ (account.user ++ 0 ∷ account.password)))))
