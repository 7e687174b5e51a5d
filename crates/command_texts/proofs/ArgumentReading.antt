-- An argument's text is read as the argument.
use Rattle.std.proofs.Common.{◌≡◌, ◌<◌, ◌&&◌, ◌==◌, ℕ, Bool, true, false, cond, not, nat_lt, List, [], ◌∷◌, ◌++◌, length, Option, Some}
use Rattle.std.proofs.Common.{None, codes, decimal, refl, ap, sym, ◌∙◌, append_assoc, arith}
use Rattle.std.specs.List.{IsFirstAndRest, list_all, flat_map, position, position_or_len}
use Rattle.std.specs.Str.{str_eq_ignore_ascii_case}
use Rattle.std.proofs.lemmas.Bool.{and_parts}
use Rattle.std.proofs.lemmas.Bool.Decides.{nat_tests}
use Rattle.std.proofs.lemmas.List.{append-nil, length-append}
use Rattle.mail_base.specs.Frames.{header}
use Rattle.imap_model.specs.Tagged.{is_astring_byte}
use Rattle.imap_model.specs.Astring.{is_bare, is_quotable, escaped, quoted, literal, astring_parts}
use Rattle.imap_model.specs.CommandParts.{line, crlf, ◌⌢◌}
use Rattle.command_texts.specs.Arguments.{EndsArgument, ends_argument}

pub rest_same : (text : List ℕ) (b c : ℕ) (rest behind : List ℕ) → IsFirstAndRest text b rest → text ≡ c ∷ behind → rest ≡ behind
rest_same text b c rest behind first is = let e : b ∷ rest ≡ c ∷ behind = sym first.0 ∙ is in cc

pub first_same : (text : List ℕ) (b c : ℕ) (rest behind : List ℕ) → IsFirstAndRest text b rest → text ≡ c ∷ behind → b ≡ c
first_same text b c rest behind first is = let e : b ∷ rest ≡ c ∷ behind = sym first.0 ∙ is in cc

pub not_empty : (text : List ℕ) (c : ℕ) (behind : List ℕ) → length text ≡ 0 → text ≡ c ∷ behind → ⊥
not_empty text c behind none is = omega (arith, none, ap length is)

-- what is taken from a quoted text: some bytes are done, and the others stand in front of the closing quote
pub record Unquoted (bytes rest done left : List ℕ) : Type 0 where
  pub inner : List ℕ
  pub whole : bytes ≡ done ++ inner
  pub text_is : left ≡ flat_map escaped inner ++ 34 ∷ rest

pub unquoted_more : (bytes rest done left : List ℕ) (byte : ℕ) (behind : List ℕ) → Unquoted bytes rest done left → ((r : List ℕ) → left ≡ 34 ∷ r → ⊥)
    → ((b : ℕ) (r : List ℕ) → left ≡ escaped b ++ r → (byte ≡ b) × (behind ≡ r)) → Unquoted bytes rest (done ++ byte ∷ []) behind
unquoted_more bytes rest done left byte behind u closed next = more u.inner u.whole u.text_is
  where
    more : (inner : List ℕ) → bytes ≡ done ++ inner → left ≡ flat_map escaped inner ++ 34 ∷ rest → Unquoted bytes rest (done ++ byte ∷ []) behind
    more [] whole is = absurd (closed rest is)
    more (b ∷ inner) whole is =
        let both = next b (flat_map escaped inner ++ 34 ∷ rest) (is ∙ append_assoc (escaped b) (flat_map escaped inner) (34 ∷ rest)) in
        record { inner = inner; whole = whole ∙ ap (λ x. done ++ x ∷ inner) (sym both.0) ∙ sym (append_assoc done (byte ∷ []) inner); text_is = both.1 }

pub record Closed (bytes rest done left : List ℕ) : Type 0 where
  pub all : done ≡ bytes
  pub end : left ≡ 34 ∷ rest

pub closes : (bytes rest done left : List ℕ) → Unquoted bytes rest done left → ((b : ℕ) (r : List ℕ) → left ≡ escaped b ++ r → ⊥) → Closed bytes rest done left
closes bytes rest done left u next = close u.inner u.whole u.text_is
  where
    close : (inner : List ℕ) → bytes ≡ done ++ inner → left ≡ flat_map escaped inner ++ 34 ∷ rest → Closed bytes rest done left
    close [] whole is = record { all = sym (whole ∙ append-nil done); end = is }
    close (b ∷ inner) whole is = absurd (next b (flat_map escaped inner ++ 34 ∷ rest) (is ∙ append_assoc (escaped b) (flat_map escaped inner) (34 ∷ rest)))

-- where an argument without quotes ends
goes_on_from : (b : ℕ) (x : Bool) → ends_argument b ≡ x → is_astring_byte b ≡ true → ends_argument b ≡ false
goes_on_from b false is all = is
goes_on_from b true is all = absurd (ends b (b == 32) refl is all)
  where
    two : (b c : ℕ) → b ≡ c → is_astring_byte c ≡ false → is_astring_byte b ≡ true → ⊥
    two b c e fails is = cc (ap is_astring_byte e)

    ends : (b : ℕ) (x : Bool) → (b == 32) ≡ x → ends_argument b ≡ true → is_astring_byte b ≡ true → ⊥
    ends b true e is all = two b 32 (grind (arith, nat_tests)) refl all
    ends b false e is all = two b 13 (grind (arith, nat_tests)) refl all

goes_on : (b : ℕ) → is_astring_byte b ≡ true → ends_argument b ≡ false
goes_on b all = goes_on_from b (ends_argument b) refl all

end_place : (bytes rest : List ℕ) → list_all is_astring_byte bytes ≡ true → EndsArgument rest → position_or_len ends_argument (bytes ++ rest) ≡ length bytes
end_place [] [] all ends = absurd ends
end_place [] (b ∷ rest) all ends = rw ends refl
end_place (b ∷ bytes) rest all ends =
    let both = and_parts (is_astring_byte b) (list_all is_astring_byte bytes) all in
    rw (goes_on b both.0) (omega (arith, end_place bytes rest both.1 ends))

ends_some : (rest : List ℕ) → EndsArgument rest → 0 < length rest
ends_some [] ends = absurd ends
ends_some (b ∷ rest) ends = omega arith

position_is : (p : ℕ → Bool) (xs : List ℕ) (n : ℕ) → position_or_len p xs ≡ n → n < length xs → position p xs ≡ Some n
position_is p xs n is within = rw is (inside n (length xs) within)
  where
    inside : (n m : ℕ) → n < m → cond (nat_lt n m) (Some n) None ≡ Some n
    inside n m within = grind (arith, nat_tests)

end_found : (text bytes rest : List ℕ) → list_all is_astring_byte bytes ≡ true → EndsArgument rest → text ≡ bytes ++ rest →
    position ends_argument text ≡ Some (length bytes)
end_found text bytes rest all ends is =
    rw is (position_is ends_argument (bytes ++ rest) (length bytes) (end_place bytes rest all ends)
    (omega (arith, length-append bytes rest, ends_some rest ends)))

pub end_is : (place : ℕ) (text bytes rest : List ℕ) → list_all is_astring_byte bytes ≡ true → EndsArgument rest → text ≡ bytes ++ rest →
    Some place ≡ position ends_argument text → place ≡ length bytes
end_is place text bytes rest all ends is found = let e = end_found text bytes rest all ends is in cc

pub end_there : (text bytes rest : List ℕ) → list_all is_astring_byte bytes ≡ true → EndsArgument rest → text ≡ bytes ++ rest →
    ◌≡◌ {A = Option ℕ} None (position ends_argument text) → ⊥
end_there text bytes rest all ends is found = let e = end_found text bytes rest all ends is in cc

-- the three forms of an argument, in front of what is left
pub data Form (bytes rest : List ℕ) (behind : List (List ℕ)) (text : List ℕ) (later : List (List ℕ)) : Type 0 where
  bare : (first : ℕ) (more : List ℕ) → text ≡ first ∷ more → is_astring_byte first ≡ true → list_all is_astring_byte bytes ≡ true →
      text ≡ bytes ++ rest → later ≡ behind → Form bytes rest behind text later
  in_quotes : text ≡ 34 ∷ (flat_map escaped bytes ++ 34 ∷ rest) → later ≡ behind → Form bytes rest behind text later
  counted : text ≡ 123 ∷ (decimal (length bytes) ++ 125 ∷ crlf) → later ≡ (bytes ++ rest) ∷ behind → Form bytes rest behind text later

bare_all : (bytes : List ℕ) → is_bare bytes ≡ true → list_all is_astring_byte bytes ≡ true
bare_all bytes is = (and_parts (nat_lt 0 (length bytes) && not (str_eq_ignore_ascii_case bytes (codes "NIL"))) (list_all is_astring_byte bytes) is).1

bare_form : (bytes rest : List ℕ) (behind : List (List ℕ)) (text : List ℕ) (later : List (List ℕ)) → is_bare bytes ≡ true →
    text ≡ bytes ++ rest → later ≡ behind → Form bytes rest behind text later
bare_form [] rest behind text later is same same' = absurd cc
bare_form (b ∷ bytes) rest behind text later is same same' =
    bare b (bytes ++ rest) same (and_parts (is_astring_byte b) (list_all is_astring_byte bytes) (bare_all (b ∷ bytes) is)).0
    (bare_all (b ∷ bytes) is) same same'

form_from : (bytes rest : List ℕ) (behind : List (List ℕ)) (text : List ℕ) (later : List (List ℕ)) (b q : Bool) → is_bare bytes ≡ b →
    list_all is_quotable bytes ≡ q
    → text ∷ later ≡ cond b (line bytes) (cond q (line (quoted bytes)) (literal bytes)) ⌢ (rest ∷ behind) → Form bytes rest behind text later
unfolding ◌⌢◌
form_from bytes rest behind text later true q is all same =
    let first : text ≡ bytes ++ rest = cc in
    let others : later ≡ behind = cc in
    bare_form bytes rest behind text later is first others
form_from bytes rest behind text later false true is all same =
    let first : text ≡ (34 ∷ (flat_map escaped bytes ++ 34 ∷ [])) ++ rest = cc in
    let others : later ≡ behind = cc in
    in_quotes (first ∙ ap (λ xs. 34 ∷ xs) (append_assoc (flat_map escaped bytes) (34 ∷ []) rest)) others
form_from bytes rest behind text later false false is all same =
    let first : text ≡ header (decimal (length bytes)) ++ crlf = cc in
    let others : later ≡ (bytes ++ rest) ∷ behind = cc in
    counted (first ∙ ap (λ xs. 123 ∷ xs) (append_assoc (decimal (length bytes)) (125 ∷ []) crlf)) others

pub form_of : (bytes rest : List ℕ) (behind : List (List ℕ)) (text : List ℕ) (later : List (List ℕ)) →
    text ∷ later ≡ astring_parts bytes ⌢ (rest ∷ behind) → Form bytes rest behind text later
form_of bytes rest behind text later same = form_from bytes rest behind text later (is_bare bytes) (list_all is_quotable bytes) refl refl same

two_bytes : (b c : ℕ) → b ≡ c → is_astring_byte c ≡ false → is_astring_byte b ≡ true → ⊥
two_bytes b c e fails is = cc (ap is_astring_byte e)

-- the first byte tells the form
module _ (bytes rest : List ℕ) (behind : List (List ℕ)) (text : List ℕ) (later : List (List ℕ)) (first : ℕ)
    (told : (b : ℕ) (r : List ℕ) → text ≡ b ∷ r → first ≡ b) where
  pub counted_of : Form bytes rest behind text later → first ≡ 123 → (text ≡ 123 ∷ (decimal (length bytes) ++ 125 ∷ crlf)) × (later ≡ (bytes ++ rest) ∷ behind)
  counted_of (bare b more is passes all same same') e = absurd (two_bytes b 123 (sym (told b more is) ∙ e) refl passes)
  counted_of (in_quotes is same) e = absurd (omega (arith, told 34 _ is, e))
  counted_of (counted is same) e = (is, same)

  pub quoted_of : Form bytes rest behind text later → first ≡ 34 → (text ≡ 34 ∷ (flat_map escaped bytes ++ 34 ∷ rest)) × (later ≡ behind)
  quoted_of (bare b more is passes all same same') e = absurd (two_bytes b 34 (sym (told b more is) ∙ e) refl passes)
  quoted_of (in_quotes is same) e = (is, same)
  quoted_of (counted is same) e = absurd (omega (arith, told 123 _ is, e))

  pub bare_of : Form bytes rest behind text later → (first ≡ 123 → ⊥) → (first ≡ 34 → ⊥) →
      (list_all is_astring_byte bytes ≡ true) × (text ≡ bytes ++ rest) × (later ≡ behind)
  bare_of (bare b more is passes all same same') e f = (all, same, same')
  bare_of (in_quotes is same) e f = absurd (f (told 34 _ is))
  bare_of (counted is same) e f = absurd (e (told 123 _ is))
