-- Who logs in, as the parts of a text say it.
use Rattle.std.proofs.Common.{◌≡◌, ◌<◌, ◌-◌, ◌&&◌, ◌==◌, ℕ, zero, suc, Bool, true, false, not, Contains, Ok, List, [], ◌∷◌, ◌++◌, length}
use Rattle.std.proofs.Common.{take, refl, ap, ◌∙◌, sym, arith}
use Rattle.mail_base.specs.Account.{Credentials}
use Rattle.imap_model.specs.Astring.{astring_parts}
use Rattle.imap_model.specs.CommandParts.{line, words, crlf, ◌⌢◌}
use Rattle.std.specs.List.{list_all, AllByRecursion, IsFirstAndRest}
use Rattle.imap_model.specs.OneText.{IsAccount}
use Rattle.std.proofs.lemmas.Bool.Decides.{nat_tests}
use Rattle.std.proofs.lemmas.List.{take_at, length-append}
use Rattle.base64.specs.Engines.{standard}
use Rattle.base64.specs.GeneralPurpose.{encode_of, decode_of, IsBytes, IsConsistent}
use Rattle.base64.proofs.EngineFacts.{decode_of-encode_of}
use Rattle.imap_model.specs.CommandText.{response_of}
use Rattle.command_texts.specs.Arguments.{Lacks}
use Rattle.imap_model.proofs.Joining.{some_behind}

-- the first part and those behind it
pub record Firsts (parts : List (List ℕ)) : Type 0 where
  pub first : List ℕ
  pub others : List (List ℕ)
  pub is : parts ≡ first ∷ others

pub firsts : (parts : List (List ℕ)) → 0 < length parts → Firsts parts
firsts [] some = absurd (omega arith)
firsts (first ∷ others) some = record { first = first; others = others; is = refl }

pub record UserText (a : Credentials) (text : List ℕ) (later : List (List ℕ)) : Type 0 where
  pub first : List ℕ
  pub others : List (List ℕ)
  pub is : text ∷ later ≡ astring_parts a.user ⌢ ((32 ∷ first) ∷ others)
  pub next : first ∷ others ≡ astring_parts a.password ⌢ (crlf ∷ [])

space : (first : List ℕ) (others : List (List ℕ)) → words " " ⌢ (first ∷ others) ≡ (32 ∷ first) ∷ others
unfolding ◌⌢◌
space first others = refl

pub user_text : (a : Credentials) (text : List ℕ) (later : List (List ℕ)) →
    text ∷ later ≡ astring_parts a.user ⌢ (words " " ⌢ (astring_parts a.password ⌢ line crlf)) → UserText a text later
user_text a text later is =
    let f = firsts (astring_parts a.password ⌢ line crlf) (some_behind (astring_parts a.password) (line crlf) (omega arith)) in
    record {
      first = f.first;
      others = f.others;
      is = is ∙ ap (λ q. astring_parts a.user ⌢ q) (ap (λ q. words " " ⌢ q) f.is ∙ space f.first f.others);
      next = sym f.is;
    }

-- the response stands for NUL, the user, NUL and the password
abbrev pub message : Credentials → List ℕ
message a = 0 ∷ (a.user ++ 0 ∷ a.password)

pub response_is : (a : Credentials) → response_of a ≡ encode_of standard (message a)
unfolding response_of
response_is a = refl

consistent : IsConsistent standard
consistent = refl

pub decodes : (bytes text : List ℕ) → IsBytes bytes → text ≡ encode_of standard bytes → decode_of standard text ≡ Ok bytes
decodes bytes text all is = ap (decode_of standard) is ∙ decode_of-encode_of standard bytes consistent all

not_same : (b mark : ℕ) → (b ≡ mark → ⊥) → not (b == mark) ≡ true
not_same b mark other = grind (arith, nat_tests)

both_true : (x y : Bool) → x ≡ true → y ≡ true → (x && y) ≡ true
both_true true true h k = refl
both_true true false h k = k
both_true false y h k = h

-- a text without NUL is cut at the NUL behind it
pub no_nul : (text : List ℕ) → (Contains text 0 → ⊥) → Lacks 0 text
no_nul [] none = refl
no_nul (b ∷ text) none =
    both_true (not (b == 0)) (list_all (λ byte. not (byte == 0)) text) (not_same b 0 (λ e. none (0, omega arith, e)))
    (no_nul text (λ there. none (suc there.0, omega (arith, there.1), there.2)))

bytes_at : (bytes : List ℕ) → AllByRecursion (λ byte. byte < 256) bytes → IsBytes bytes
bytes_at [] all i = omega arith
bytes_at (b ∷ bytes) all zero = all.0
bytes_at (b ∷ bytes) all (suc i) = bytes_at bytes all.1 i

bytes_both : (xs ys : List ℕ) → AllByRecursion (λ byte. byte < 256) xs → AllByRecursion (λ byte. byte < 256) ys → AllByRecursion (λ byte. byte < 256) (xs ++ ys)
bytes_both [] ys all all' = all'
bytes_both (x ∷ xs) ys all all' = (all.0, bytes_both xs ys all.1 all')

pub message_bytes : (a : Credentials) → IsAccount a → IsBytes (message a)
message_bytes a kept = bytes_at (message a) (omega arith, bytes_both a.user (0 ∷ a.password) kept.user.each (omega arith, kept.password.each))

pub line_is : (line text : List ℕ) → line ≡ text ++ crlf → take (length line - 2) line ≡ text
line_is line text is = rw is (take_at text crlf (length (text ++ crlf) - 2) (omega (arith, length-append text crlf)))

pub first_same_parts : (parts : List (List ℕ)) (part other : List ℕ) (rest behind : List (List ℕ)) → IsFirstAndRest parts part rest →
    parts ≡ other ∷ behind → part ≡ other
first_same_parts parts part other rest behind first is = let e : part ∷ rest ≡ other ∷ behind = sym first.0 ∙ is in cc
