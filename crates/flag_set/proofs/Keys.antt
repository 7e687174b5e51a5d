-- The lower-case text of a flag is a key.
use Rattle.std.proofs.Common.{◌≡◌, ◌↔◌, ℕ, ◌≤◌, Bool, true, false, cond, ◌&&◌, List, [], ◌∷◌, length, None, Some, IsTrue, nat_eq, nat_lt}
use Rattle.std.proofs.Common.{refl, sym, ap, ◌∙◌, arith}
use Rattle.std.proofs.lemmas.Bool.{and_parts, ltb-false}
use Rattle.std.proofs.lemmas.Bool.Decides.{nat_tests}
use Rattle.std.proofs.lemmas.Cmp.{nat_list_eq_equiv}
use Rattle.std.proofs.lemmas.List.{length-map}
use Rattle.std.proofs.lemmas.Str.Ascii.{lowercase-lowercase}
use Rattle.std.specs.Char.{to_ascii_lowercase}
use Rattle.std.specs.Cmp.Lexicographic.{same_text}
use Rattle.std.specs.List.{list_all}
use Rattle.std.specs.Str.{bytes_eq}
use Rattle.flag_set.specs.declared.flag_fault.TheConstants.{MAX_FLAG}
use Rattle.flag_set.specs.declared.flag_fault.FlagFault.TheVariants.{TooLong, BadFlag}
use Rattle.flag_set.specs.Flag.{is_atom_byte, name_of, is_flag, misfit, refusal, backslash}
use Rattle.flag_set.specs.FlagKey.{key_of, IsKey}

atom_lower : (b : ℕ) → is_atom_byte b ≡ true → is_atom_byte (to_ascii_lowercase b) ≡ true
atom_lower b h = grind (arith, nat_tests)

backslash_lower : (b : ℕ) → nat_eq (to_ascii_lowercase b) backslash ≡ nat_eq b backslash
backslash_lower b = grind (arith, nat_tests)

name_lower : (text : List ℕ) → name_of (key_of text) ≡ key_of (name_of text)
name_lower [] = refl
name_lower (b ∷ rest) =
    ap (λ t. cond t (key_of rest) (key_of (b ∷ rest))) (backslash_lower b)
    ∙ elim (nat_eq b backslash) as (λ t. cond t (key_of rest) (key_of (b ∷ rest)) ≡ key_of (cond t rest (b ∷ rest))) [ true ↦ refl | false ↦ refl ]

all_lower : (name : List ℕ) → list_all is_atom_byte name ≡ true → list_all is_atom_byte (key_of name) ≡ true
all_lower [] h = refl
all_lower (b ∷ rest) h =
    let both = and_parts (is_atom_byte b) _ h in
    ap (λ t. t && list_all is_atom_byte (key_of rest)) (atom_lower b both.0) ∙ all_lower rest both.1

lower_lower : (text : List ℕ) → key_of (key_of text) ≡ key_of text
lower_lower [] = refl
lower_lower (b ∷ rest) = ap (λ x. x ∷ key_of (key_of rest)) (lowercase-lowercase b) ∙ ap (λ t. to_ascii_lowercase b ∷ t) (lower_lower rest)

-- what no refusal says of a text
accepted_cases : (text : List ℕ) (long fits : Bool) → cond long (Some (TooLong (length text)))
    (cond fits None (Some (BadFlag (misfit text)))) ≡ None → (long ≡ false) × (fits ≡ true)
accepted_cases text true fits h = cc
accepted_cases text false true h = (refl, refl)
accepted_cases text false false h = cc

pub accepted : (text : List ℕ) → refusal text ≡ None → (length text ≤ MAX_FLAG) × (is_flag text ≡ true)
accepted text h =
    let parts = accepted_cases text (nat_lt MAX_FLAG (length text)) (is_flag text) h in
    (ltb-false _ _ parts.0, parts.1)

flag_lower : (text : List ℕ) → is_flag text ≡ true → is_flag (key_of text) ≡ true
flag_lower text h =
    let both = and_parts (nat_lt 0 (length (name_of text))) _ h in
    rw (name_lower text, length-map, both.0) (all_lower (name_of text) both.1)

pub key_is : (text : List ℕ) → refusal text ≡ None → IsKey (key_of text)
key_is text h =
    let good = accepted text h in
    record { flag = flag_lower text good.1; lower = lower_lower text; short = rw length-map good.0 }

-- two keys that are tested byte by byte
pub keys_same : (a b : List ℕ) (r : Bool) → r ≡ bytes_eq a b → IsTrue r ↔ (a ≡ b)
keys_same a b r e = (λ t. same_text a b (sym t ∙ e), λ s. e ∙ ap (bytes_eq a) (sym s) ∙ nat_list_eq_equiv.refl a)
