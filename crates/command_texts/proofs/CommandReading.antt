-- The texts of commands, one byte list behind the other.
use Rattle.std.proofs.Common.{◌≡◌, ◌<◌, ℕ, Bool, true, false, ◌==◌, List, [], ◌∷◌, ◌++◌, length, codes, decimal, Option, Some, None, refl}
use Rattle.std.proofs.Common.{ap, ◌∙◌, sym, append_assoc, arith}
use Rattle.flag_set.specs.FlagText.{list_text}
use Rattle.imap_model.specs.Astring.{astring_parts}
use Rattle.imap_model.proofs.Joining.{some_behind}
use Rattle.imap_model.specs.CommandParts.{line, words, number, crlf, ◌⌢◌}
use Rattle.imap_model.specs.CommandText.{mark_parts, sign}
use Rattle.imap_model.specs.Held.{IsHeldMark, IsNonzero32, IsModSeq}
use Rattle.command_texts.specs.Arguments.{EndsArgument}
use Rattle.imap_model.specs.declared.command.Command.TheVariants as commands
use Rattle.imap_model.specs.declared.mark.Mark.{Mark}

-- a number and what stands behind it
pub number_first : (n : ℕ) (text : List ℕ) (rest : List ℕ) → text ∷ [] ≡ number n ⌢ (rest ∷ []) → text ≡ decimal n ++ rest
unfolding ◌⌢◌
number_first n text rest is = cc

pub mark_text : (mark : Mark) (text : List ℕ) → text ∷ [] ≡ mark_parts (Some mark) ⌢ line crlf
    → text ≡ codes " (QRESYNC (" ++ (decimal mark.validity ++ 32 ∷ (decimal mark.modseq ++ 41 ∷ 41 ∷ crlf))
unfolding ◌⌢◌
mark_text mark text is =
    let first : text ≡ (codes " (QRESYNC (" ++ (decimal mark.validity ++ 32 ∷ (decimal mark.modseq ++ 41 ∷ 41 ∷ []))) ++ crlf = cc in
    first ∙ ap (λ x. codes " (QRESYNC (" ++ x) (append_assoc (decimal mark.validity) (32 ∷ (decimal mark.modseq ++ 41 ∷ 41 ∷ [])) crlf
    ∙ ap (λ x. decimal mark.validity ++ 32 ∷ x) (append_assoc (decimal mark.modseq) (41 ∷ 41 ∷ []) crlf))

pub mark_same : (v m v' m' : ℕ) → Some v ≡ Some v' → Some m ≡ Some m' →
    ◌≡◌ {A = Option Mark} (Some (record { validity = v; modseq = m })) (Some (record { validity = v'; modseq = m' }))
mark_same v m v' m' first second =
    let one : v ≡ v' = cc in
    let two : m ≡ m' = cc in
    cc

-- a search: the UID, and behind fixed words the id
pub record SearchText (from : ℕ) (id text : List ℕ) (later : List (List ℕ)) : Type 0 where
  pub first : List ℕ
  pub is : text ≡ decimal from ++ 58 ∷ (codes "* HEADER Message-ID " ++ first)
  pub next : first ∷ later ≡ astring_parts id ⌢ (crlf ∷ [])

search_from : (from : ℕ) (id text : List ℕ) (later parts : List (List ℕ)) → parts ≡ astring_parts id ⌢ line crlf → 0 < length parts
    → text ∷ later ≡ number from ⌢ (words ":* HEADER Message-ID " ⌢ parts) → SearchText from id text later
unfolding ◌⌢◌
search_from from id text later [] means some is = absurd (omega (arith, some))
search_from from id text later (first ∷ others) means some is =
    let one : text ≡ decimal from ++ (codes ":* HEADER Message-ID " ++ first) = cc in
    let two : later ≡ others = cc in
    record { first = first; is = one; next = ap (λ x. first ∷ x) two ∙ means }

pub search_text : (from : ℕ) (id text : List ℕ) (later : List (List ℕ)) →
    text ∷ later ≡ number from ⌢ (words ":* HEADER Message-ID " ⌢ (astring_parts id ⌢ line crlf)) → SearchText from id text later
search_text from id text later is = search_from from id text later (astring_parts id ⌢ line crlf) refl
    (some_behind (astring_parts id) (line crlf) (omega arith)) is

-- a move or a copy: the UID, and behind a space the mailbox's name
pub record NamedText (front : List ℕ) (to rest text : List ℕ) : Type 0 where
  pub first : List ℕ
  pub is : text ≡ front ++ 32 ∷ first
  pub next : first ∷ [] ≡ astring_parts to ⌢ (rest ∷ [])

named_from : (front to rest text : List ℕ) (parts : List (List ℕ)) → parts ≡ astring_parts to ⌢ line rest → 0 < length parts →
    text ∷ [] ≡ line front ⌢ (words " " ⌢ parts) → NamedText front to rest text
unfolding ◌⌢◌
named_from front to rest text [] means some is = absurd (omega (arith, some))
named_from front to rest text (first ∷ others) means some is =
    let one : text ≡ front ++ 32 ∷ first = cc in
    let two : others ≡ [] = cc in
    record { first = first; is = one; next = ap (λ x. first ∷ x) (sym two) ∙ means }

pub shift_text : (uid : ℕ) (to text : List ℕ) → text ∷ [] ≡ number uid ⌢ (words " " ⌢ (astring_parts to ⌢ line crlf)) → NamedText (decimal uid) to crlf text
shift_text uid to text is = named_from (decimal uid) to crlf text (astring_parts to ⌢ line crlf) refl
    (some_behind (astring_parts to) (line crlf) (omega arith)) is

pub search_same : (from : ℕ) (id : List ℕ) (from' : ℕ) (id' : List ℕ) → Some from ≡ Some from' → id ≡ id' →
    Some (commands.Search from id) ≡ Some (commands.Search from' id')
search_same from id from' id' first second = let one : from ≡ from' = cc in cc

-- what stands behind a mailbox's name in a SELECT
abbrev pub mark_end : Option Mark → List ℕ
mark_end None = crlf
mark_end (Some mark) = codes " (QRESYNC (" ++ (decimal mark.validity ++ 32 ∷ (decimal mark.modseq ++ 41 ∷ 41 ∷ crlf))

pub mark_ends : (since : Option Mark) → EndsArgument (mark_end since)
mark_ends None = refl
mark_ends (Some mark) = refl

pub mark_is : (since : Option Mark) → mark_parts since ⌢ line crlf ≡ mark_end since ∷ []
unfolding ◌⌢◌
mark_is None = refl
mark_is (Some mark) =
    ap (λ x. (codes " (QRESYNC (" ++ x) ∷ []) (append_assoc (decimal mark.validity) (32 ∷ (decimal mark.modseq ++ 41 ∷ 41 ∷ [])) crlf
    ∙ ap (λ x. decimal mark.validity ++ 32 ∷ x) (append_assoc (decimal mark.modseq) (41 ∷ 41 ∷ []) crlf))

pub mark_found : (since : Option Mark) (rest : List ℕ) (found : Option Mark) → IsHeldMark since → rest ≡ mark_end since → (rest ≡ crlf → found ≡ None)
    → ((v m : ℕ) → IsNonzero32 v → IsModSeq m → rest ≡ codes " (QRESYNC (" ++ (decimal v ++ 32 ∷ (decimal m ++ 41 ∷ 41 ∷ crlf)) →
    found ≡ Some (record { validity = v; modseq = m })) → found ≡ since
mark_found None rest found held is none some = none is
mark_found (Some mark) rest found held is none some = some mark.validity mark.modseq held.0 held.1 is

pub select_same : (name : List ℕ) (since : Option Mark) (name' : List ℕ) (since' : Option Mark) → name ≡ name' → since ≡ since' →
    Some (commands.Select name since) ≡ Some (commands.Select name' since')
select_same name since name' since' first second = cc

abbrev pub sign_byte : Bool → ℕ
sign_byte true = 43
sign_byte false = 45

pub store_text : (uid since : ℕ) (add : Bool) (flags : List (List ℕ)) (text : List ℕ)
    → text ∷ [] ≡ number uid ⌢ (words " (UNCHANGEDSINCE " ⌢ (number since ⌢
    (words ") " ⌢ (sign add ⌢ (words "FLAGS (" ⌢ (line (list_text flags) ⌢ (words ")" ⌢ line crlf)))))))
    → text ≡ decimal uid ++ 32 ∷ (codes "(UNCHANGEDSINCE " ++ (decimal since ++ 41 ∷ 32 ∷ sign_byte add ∷ (codes "FLAGS (" ++ (list_text flags ++ 41 ∷ crlf))))
unfolding ◌⌢◌
store_text uid since true flags text is = cc
store_text uid since false flags text is = cc

sign_is : (b : ℕ) (add : Bool) → b ≡ sign_byte add → (b == 43) ≡ add
sign_is b true is = rw is refl
sign_is b false is = rw is refl

pub store_same : (uid since b : ℕ) (flags : List (List ℕ)) (uid' since' : ℕ) (add : Bool) (flags' : List (List ℕ)) → Some uid ≡ Some uid' →
    Some since ≡ Some since' → b ≡ sign_byte add → Some flags ≡ Some flags'
    → Some (commands.Store uid since (b == 43) flags) ≡ Some (commands.Store uid' since' add flags')
store_same uid since b flags uid' since' add flags' first second third fourth =
    let one : uid ≡ uid' = cc in
    let two : since ≡ since' = cc in
    let four : flags ≡ flags' = cc in
    let three : (b == 43) ≡ add = sign_is b add third in
    cc

-- what stands behind a mailbox's name in an APPEND
abbrev pub append_end : List (List ℕ) → List ℕ → List ℕ
append_end flags size = codes " (" ++ (list_text flags ++ (codes ") " ++ size))

pub append_is : (to : List ℕ) (flags : List (List ℕ)) (size : List ℕ)
    → astring_parts to ⌢ (words " (" ⌢ (line (list_text flags) ⌢ (words ") " ⌢ line size))) ≡ astring_parts to ⌢ (append_end flags size ∷ [])
unfolding ◌⌢◌
append_is to flags size = refl

pub append_same : (to : List ℕ) (flags : List (List ℕ)) (text : List ℕ) (to' : List ℕ) (flags' : List (List ℕ)) (text' : List ℕ) →
    to ≡ to' → Some flags ≡ Some flags' → text ≡ text'
    → Some (commands.Append to flags text) ≡ Some (commands.Append to' flags' text')
append_same to flags text to' flags' text' first second third = let two : flags ≡ flags' = cc in cc
