-- One byte more of a reading from the left.
use Rattle.std.proofs.Common.{◌≡◌, ℕ, ◌+◌, ◌<◌, Bool, true, false, List, [], ◌∷◌, ◌++◌, length, drop, get_or, Some, None, refl, sym, ◌∙◌}
use Rattle.std.proofs.Common.{ap, arith, drop-cons, add-one, append_assoc, append-nil, min}
use Rattle.std.proofs.lemmas.List.{drop_all}
use Rattle.std.specs.Prelude.{◌==◌, if◌then◌else◌}
use Rattle.imap_model.specs.Tagged.{is_tag_byte}
use Rattle.imap_model.specs.Values.{is_wide_byte}
use Rattle.imap_response.specs.Flags.{follows, flag_place}
use Rattle.imap_response.specs.ReadStrings.{unquoted_from}
use Rattle.imap_response.specs.Tags.{tag_misfit}

pub here : (text : List ℕ) (at : ℕ) → at < length text → drop at text ≡ get_or text at 0 ∷ drop (at + 1) text
here text at within = rw (add-one, drop-cons text at 0)

pub none_left : (text : List ℕ) (at : ℕ) → at ≡ length text → drop at text ≡ []
none_left text at all = drop_all at text (omega (arith, all))

-- tags
tag_yes : (start at byte : ℕ) (more : List ℕ) → is_tag_byte byte ≡ true →
    tag_misfit start at (byte ∷ more) ≡ tag_misfit (if is_wide_byte byte then start else at + 1) (at + 1) more
unfolding tag_misfit
tag_yes start at byte more is = rw is refl

tag_no : (start at byte : ℕ) (more : List ℕ) → is_tag_byte byte ≡ false → tag_misfit start at (byte ∷ more) ≡ Some (if is_wide_byte byte then start else at)
unfolding tag_misfit
tag_no start at byte more other = rw other refl

tag_nil : (start at : ℕ) → tag_misfit start at [] ≡ None
unfolding tag_misfit
tag_nil start at = refl

pub tag_on : (text : List ℕ) (start at : ℕ) → at < length text → is_tag_byte (get_or text at 0) ≡ true
    → tag_misfit start at (drop at text) ≡ tag_misfit (if is_wide_byte (get_or text at 0) then start else at + 1) (at + 1) (drop (at + 1) text)
tag_on text start at within is = ap (tag_misfit start at) (here text at within) ∙ tag_yes start at _ _ is

pub tag_stops : (text : List ℕ) (start at : ℕ) → at < length text → is_tag_byte (get_or text at 0) ≡ false
    → tag_misfit start at (drop at text) ≡ Some (if is_wide_byte (get_or text at 0) then start else at)
tag_stops text start at within other = ap (tag_misfit start at) (here text at within) ∙ tag_no start at _ _ other

pub tag_end : (text : List ℕ) (start at : ℕ) → at ≡ length text → tag_misfit start at (drop at text) ≡ None
tag_end text start at all = ap (tag_misfit start at) (none_left text at all) ∙ tag_nil start at

-- flags
flag_yes : (permanent : Bool) (before start at byte : ℕ) (more : List ℕ) → follows permanent before byte ≡ true
    → flag_place permanent before start at (byte ∷ more) ≡ flag_place permanent byte (if is_wide_byte byte then start else at + 1) (at + 1) more
unfolding flag_place
flag_yes permanent before start at byte more is = rw is refl

flag_no : (permanent : Bool) (before start at byte : ℕ) (more : List ℕ) → follows permanent before byte ≡ false
    → flag_place permanent before start at (byte ∷ more) ≡ (if is_wide_byte byte then start else at)
unfolding flag_place
flag_no permanent before start at byte more other = rw other refl

flag_nil : (permanent : Bool) (before start at : ℕ) → flag_place permanent before start at [] ≡ at
unfolding flag_place
flag_nil permanent before start at = refl

pub flag_on : (permanent : Bool) (text : List ℕ) (before start at : ℕ) → at < length text → follows permanent before (get_or text at 0) ≡ true
    → flag_place permanent before start at (drop at text) ≡ flag_place permanent (get_or text at 0)
    (if is_wide_byte (get_or text at 0) then start else at + 1) (at + 1) (drop (at + 1) text)
flag_on permanent text before start at within is = ap (flag_place permanent before start at) (here text at within) ∙ flag_yes permanent before start at _ _ is

pub flag_stops : (permanent : Bool) (text : List ℕ) (before start at : ℕ) → at < length text → follows permanent before (get_or text at 0) ≡ false
    → flag_place permanent before start at (drop at text) ≡ (if is_wide_byte (get_or text at 0) then start else at)
flag_stops permanent text before start at within other = ap (flag_place permanent before start at) (here text at within)
    ∙ flag_no permanent before start at _ _ other

pub flag_end : (permanent : Bool) (text : List ℕ) (before start at : ℕ) → at ≡ length text → flag_place permanent before start at (drop at text) ≡ at
flag_end permanent text before start at all = ap (flag_place permanent before start at) (none_left text at all) ∙ flag_nil permanent before start at

-- quoted strings
unquoted_yes : (byte : ℕ) (more : List ℕ) → unquoted_from true (byte ∷ more) ≡ byte ∷ unquoted_from false more
unfolding unquoted_from
unquoted_yes byte more = refl

unquoted_end : (byte : ℕ) (more : List ℕ) → (byte == 34) ≡ true → unquoted_from false (byte ∷ more) ≡ []
unfolding unquoted_from
unquoted_end byte more is = rw is refl

unquoted_slash : (byte : ℕ) (more : List ℕ) → (byte == 34) ≡ false → (byte == 92) ≡ true → unquoted_from false (byte ∷ more) ≡ unquoted_from true more
unfolding unquoted_from
unquoted_slash byte more other is = rw (other, is) refl

unquoted_plain : (byte : ℕ) (more : List ℕ) → (byte == 34) ≡ false → (byte == 92) ≡ false → unquoted_from false (byte ∷ more) ≡ byte ∷ unquoted_from false more
unfolding unquoted_from
unquoted_plain byte more other plain = rw (other, plain) refl

unquoted_nil : (escaped : Bool) → unquoted_from escaped [] ≡ []
unfolding unquoted_from
unquoted_nil true = refl
unquoted_nil false = refl

module _ (front text : List ℕ) (i : ℕ) (escaped : Bool) (whole : List ℕ) (within : i < length text)
    (so_far : front ++ unquoted_from escaped (drop i text) ≡ whole) where
  pub after_escape : escaped ≡ true → (front ++ get_or text i 0 ∷ []) ++ unquoted_from false (drop (i + 1) text) ≡ whole
  after_escape is = append_assoc front (get_or text i 0 ∷ []) _
      ∙ sym (ap (λ xs. front ++ xs) (ap (λ e. unquoted_from e (drop i text)) is ∙ ap (unquoted_from true) (here text i within)
      ∙ unquoted_yes (get_or text i 0) _)) ∙ so_far

  pub at_quote : escaped ≡ false → (get_or text i 0 == 34) ≡ true → front ≡ whole
  at_quote is test = sym (append-nil front)
      ∙ sym (ap (λ xs. front ++ xs) (ap (λ e. unquoted_from e (drop i text)) is ∙ ap (unquoted_from false) (here text i within)
      ∙ unquoted_end (get_or text i 0) _ test)) ∙ so_far

  pub at_slash : escaped ≡ false → (get_or text i 0 == 34) ≡ false → (get_or text i 0 == 92) ≡ true → front ++ unquoted_from true (drop (i + 1) text) ≡ whole
  at_slash is other test =
      sym (ap (λ xs. front ++ xs) (ap (λ e. unquoted_from e (drop i text)) is ∙ ap (unquoted_from false) (here text i within)
      ∙ unquoted_slash (get_or text i 0) _ other test)) ∙ so_far

  pub at_plain : escaped ≡ false → (get_or text i 0 == 34) ≡ false → (get_or text i 0 == 92) ≡ false →
      (front ++ get_or text i 0 ∷ []) ++ unquoted_from escaped (drop (i + 1) text) ≡ whole
  at_plain is other plain = ap (λ e. (front ++ get_or text i 0 ∷ []) ++ unquoted_from e (drop (i + 1) text)) is ∙ append_assoc front (get_or text i 0 ∷ []) _
      ∙ sym (ap (λ xs. front ++ xs) (ap (λ e. unquoted_from e (drop i text)) is ∙ ap (unquoted_from false) (here text i within)
      ∙ unquoted_plain (get_or text i 0) _ other plain)) ∙ so_far

pub no_quote : (front text : List ℕ) (i : ℕ) (escaped : Bool) (whole : List ℕ) → i ≡ length text →
    front ++ unquoted_from escaped (drop i text) ≡ whole → front ≡ whole
no_quote front text i escaped whole all so_far = sym (append-nil front)
    ∙ sym (ap (λ xs. front ++ xs) (ap (unquoted_from escaped) (none_left text i all) ∙ unquoted_nil escaped)) ∙ so_far

pub behind_first : (token : List ℕ) → drop (min (length token) 1) token ≡ drop 1 token
behind_first [] = refl
behind_first (byte ∷ more) = let e : min (length (byte ∷ more)) 1 ≡ 1 = omega arith in rw e refl
