-- FETCH lines, and what they tell.
use Rattle.std.proofs.Common.{◌≡◌, ℕ, ◌<◌, ◌^◌, Bool, true, List, [], ◌∷◌, ◌++◌, Some, refl, sym, ◌∙◌, ap, arith, decimal, append_assoc}
use Rattle.std.proofs.lemmas.List.{map-append}
use Rattle.std.specs.Prelude.{codes}
use Rattle.std.specs.List.{list_all}
use Rattle.flag_set.specs.FlagSet.{IsFlagSet}
use Rattle.imap_model.specs.FetchItems.{IsUidItem, IsFlagsItem, IsModSeqItem, AreItems, UidIs, FlagsAre, ModSeqIs}
use Rattle.imap_model.specs.Lines.{IsSpelled}
use Rattle.imap_model.specs.Parts.{Part, Byte, bytes}
use Rattle.imap_model.specs.Responses.{IsFetchLine}
use Rattle.imap_model.specs.Unfetched.{nothing_fetched}
use Rattle.imap_model.specs.Words.{IsGap, IsNumbered}
use Rattle.imap_model.specs.declared.fetched.Fetched.{Fetched}
use Rattle.imap_model.specs.declared.response.Response.TheVariants as responses
use Rattle.response_lines.specs.LineTexts.{◌⌢◌, fetch_text, flags_text, row_text}
use Rattle.response_lines.specs.Tellable.{LacksRecent}
use Rattle.response_lines.proofs.LineCodes.{number_unspaced}
use Rattle.response_lines.proofs.LineFlags.{flags_inner, flags_spelled}
use Rattle.response_lines.proofs.LineNumbers.{a_nonzero, a_modseq, decimal_all, digit_quiet}
use Rattle.response_lines.proofs.PlainLines.{is_quiet_byte, all_join, begins_unspaced, inner_quiet, one_space, quiet_spelled}

pub a_gap : IsGap (32 ∷ [])
a_gap = (λ e. cc, (refl, tt))

pub join_bytes : (a b : List ℕ) → bytes (a ++ b) ≡ bytes a ++ bytes b
join_bytes a b = map-append Byte a b

-- the front of a FETCH line, up to the space before its parenthesis
abbrev pub front_of : ℕ → List ℕ
front_of number = 42 ∷ 32 ∷ (decimal number ++ codes " FETCH")

pub numbered : (number : ℕ) (more : List ℕ) → number < 2 ^ 32 →
    IsNumbered (42 ∷ 32 ∷ (decimal number ++ (codes " FETCH " ++ more))) (decimal number) (codes "FETCH") (32 ∷ more)
numbered number more h = (
  codes " FETCH " ++ more,
  codes "FETCH " ++ more,
  (
    32 ∷ (decimal number ++ (codes " FETCH " ++ more)),
    refl,
    one_space (decimal number ++ (codes " FETCH " ++ more))
        (number_unspaced number (codes " FETCH " ++ more) (omega arith)),
  ),
  one_space (codes "FETCH " ++ more) (begins_unspaced 70 (codes "ETCH " ++ more) refl),
  record { word = codes "FETCH"; same = refl; whole = refl; ends = refl },
)

pub front_join : (number : ℕ) (more : List ℕ) → 42 ∷ 32 ∷ (decimal number ++ (codes " FETCH " ++ more)) ≡ front_of number ++ 32 ∷ more
front_join number more = ap (λ (t : List ℕ). 42 ∷ 32 ∷ t) (sym (append_assoc (decimal number) (codes " FETCH") (32 ∷ more)))

-- a line with these parts behind its front
pub fetch_line : (number : ℕ) (more : List ℕ) (later parts : List Part) → 0 < number → number < 2 ^ 32 → parts ≡ bytes (front_of number) ++ later
    → IsFetchLine (42 ∷ 32 ∷ (decimal number ++ (codes " FETCH " ++ more))) parts later
fetch_line number more later parts some h is = record {
  digits = decimal number;
  number = number;
  nonzero = a_nonzero number some h;
  front = front_of number;
  rest = 32 ∷ more;
  numbered = numbered number more h;
  fronted = front_join number more;
  whole = is;
}

-- UID, FLAGS and MODSEQ
pub uid_item : (uid : ℕ) → 0 < uid → uid < 2 ^ 32 → IsUidItem (bytes (codes "UID " ++ decimal uid)) uid
uid_item uid some h = record {
  name = codes "UID";
  named = refl;
  gap = 32 ∷ [];
  spaces = a_gap;
  digits = decimal uid;
  number =
      a_nonzero uid some h;
  whole = refl;
}

flags_item : (older : Bool) (keys : List (List ℕ)) → IsFlagSet keys → LacksRecent keys →
    IsFlagsItem (bytes (codes "FLAGS (" ++ (flags_text older keys ++ 41 ∷ []))) keys
flags_item older keys set lacks = record {
  name = codes "FLAGS";
  named = refl;
  gap = 32 ∷ [];
  spaces = a_gap;
  text =
      flags_text older keys;
  listed = flags_spelled older keys set lacks;
  whole = refl;
}

modseq_item : (modseq : ℕ) → 0 < modseq → modseq < 2 ^ 63 → IsModSeqItem (bytes (codes "MODSEQ (" ++ (decimal modseq ++ 41 ∷ []))) modseq
modseq_item modseq some h = record {
  name = codes "MODSEQ";
  named = refl;
  gap = 32 ∷ [];
  spaces = a_gap;
  digits = decimal modseq;
  number =
      a_modseq modseq some h;
  whole = refl;
}

abbrev last_text : ℕ → List ℕ
last_text modseq = codes "MODSEQ (" ++ (decimal modseq ++ 41 ∷ [])

abbrev middle_text : Bool → List (List ℕ) → ℕ → List ℕ
middle_text older keys modseq = codes "FLAGS (" ++ (flags_text older keys ++ (codes ") " ++ last_text modseq))

abbrev items_of : Bool → ℕ → List (List ℕ) → ℕ → List ℕ
items_of older uid keys modseq = codes "UID " ++ (decimal uid ++ 32 ∷ middle_text older keys modseq)

first_parts : (uid : ℕ) (more : List ℕ) → bytes (codes "UID " ++ (decimal uid ++ 32 ∷ more))
    ≡ (bytes (codes "UID " ++ decimal uid) ++ bytes (32 ∷ [])) ++ bytes more
first_parts uid more =
    join_bytes (codes "UID " ++ decimal uid) (32 ∷ more) ∙ sym (append_assoc (bytes (codes "UID " ++ decimal uid)) (bytes (32 ∷ [])) (bytes more))

middle_parts : (older : Bool) (keys : List (List ℕ)) (more : List ℕ) →
    bytes (codes "FLAGS (" ++ (flags_text older keys ++ (codes ") " ++ more)))
    ≡ (bytes (codes "FLAGS (" ++ (flags_text older keys ++ 41 ∷ [])) ++ bytes (32 ∷ [])) ++ bytes more
middle_parts older keys more =
    ap (λ (t : List ℕ). bytes (codes "FLAGS (" ++ t)) (sym (append_assoc (flags_text older keys) (41 ∷ []) (32 ∷ more)))
    ∙ join_bytes (codes "FLAGS (" ++ (flags_text older keys ++ 41 ∷ [])) (32 ∷ more)
    ∙ sym (append_assoc (bytes (codes "FLAGS (" ++ (flags_text older keys ++ 41 ∷ []))) (bytes (32 ∷ [])) (bytes more))

row_items : (older : Bool) (uid modseq : ℕ) (keys : List (List ℕ)) → 0 < uid → uid < 2 ^ 32 → IsFlagSet keys → LacksRecent keys → 0 < modseq → modseq < 2 ^ 63
    → AreItems (bytes (items_of older uid keys modseq)) (UidIs uid ∷ FlagsAre keys ∷ ModSeqIs modseq ∷ [])
row_items older uid modseq keys some h set lacks some' k = (
  bytes (codes "UID " ++ decimal uid),
  32 ∷ [],
  bytes (middle_text older keys modseq),
  uid_item uid some h,
  a_gap,
  first_parts uid (middle_text older keys modseq),
  (
    bytes (codes "FLAGS (" ++ (flags_text older keys ++ 41 ∷ [])),
    32 ∷ [],
    bytes (last_text modseq),
    flags_item older keys set lacks,
    a_gap,
    middle_parts older keys (last_text modseq),
    modseq_item modseq some' k,
  ),
)

-- the items and the closing parenthesis are the row
row_is : (older : Bool) (uid modseq : ℕ) (keys : List (List ℕ)) → items_of older uid keys modseq ++ 41 ∷ [] ≡ row_text older uid keys modseq
unfolding ◌⌢◌
row_is older uid modseq keys =
    ap (λ (t : List ℕ). codes "UID " ++ t) (append_assoc (decimal uid) (32 ∷ middle_text older keys modseq) (41 ∷ [])
    ∙ ap (λ (t : List ℕ). decimal uid ++ (codes " FLAGS (" ++ t)) (append_assoc (flags_text older keys) (codes ") " ++ last_text modseq) (41 ∷ [])
    ∙ ap (λ (t : List ℕ). flags_text older keys ++ (codes ") MODSEQ (" ++ t)) (append_assoc (decimal modseq) (41 ∷ []) (41 ∷ []))))

row_quiet : (older : Bool) (uid modseq : ℕ) (keys : List (List ℕ)) → uid < 2 ^ 32 → IsFlagSet keys → modseq < 2 ^ 63 →
    list_all is_quiet_byte (row_text older uid keys modseq) ≡ true
unfolding ◌⌢◌
row_quiet older uid modseq keys h set k =
    all_join is_quiet_byte (decimal uid) (codes " FLAGS (" ++ (flags_text older keys
    ++ (codes ") MODSEQ (" ++ (decimal modseq ++ codes "))")))) (decimal_all is_quiet_byte digit_quiet uid (omega arith))
    (all_join is_quiet_byte (flags_text older keys) (codes ") MODSEQ (" ++ (decimal modseq ++ codes "))"))
    (inner_quiet (flags_text older keys) (flags_inner older keys set.flags))
    (all_join is_quiet_byte (decimal modseq) (codes "))") (decimal_all is_quiet_byte digit_quiet modseq (omega arith)) refl))

row_later : (older : Bool) (uid modseq : ℕ) (keys : List (List ℕ)) →
    bytes (32 ∷ 40 ∷ row_text older uid keys modseq) ≡ (bytes (32 ∷ 40 ∷ []) ++ bytes (items_of older uid keys modseq)) ++ bytes (41 ∷ [])
row_later older uid modseq keys =
    ap (λ (t : List ℕ). bytes (32 ∷ 40 ∷ t)) (sym (row_is older uid modseq keys)) ∙ join_bytes (32 ∷ 40 ∷ items_of older uid keys modseq) (41 ∷ [])

row_whole : (number : ℕ) (more : List ℕ) → bytes (42 ∷ 32 ∷ (decimal number ++ (codes " FETCH " ++ more))) ≡ bytes (front_of number) ++ bytes (32 ∷ more)
row_whole number more = ap bytes (front_join number more) ∙ join_bytes (front_of number) (32 ∷ more)

abbrev full_row : ℕ → List (List ℕ) → ℕ → Fetched
full_row uid keys modseq = record nothing_fetched { uid = Some uid; flags = Some keys; modseq = Some modseq }

-- a row
pub row_spelled : (older : Bool) (number uid modseq : ℕ) (keys : List (List ℕ)) → 0 < number → number < 2 ^ 32 → 0 < uid → uid < 2 ^ 32 →
    IsFlagSet keys → LacksRecent keys → 0 < modseq → modseq < 2 ^ 63
    → IsSpelled (responses.Fetch (full_row uid keys modseq)) (fetch_text older number (full_row uid keys modseq))
unfolding ◌⌢◌
row_spelled older number uid modseq keys n h some h' set lacks some' k =
    let row : List ℕ = row_text older uid keys modseq in
    quiet_spelled (responses.Fetch (full_row uid keys modseq)) (42 ∷ 32 ∷ (decimal number ++ (codes " FETCH (" ++ row)))
    (all_join is_quiet_byte (decimal number) (codes " FETCH (" ++ row) (decimal_all is_quiet_byte digit_quiet number (omega arith))
    (row_quiet older uid modseq keys h' set k)) (
      bytes (32 ∷ 40 ∷ row),
      32 ∷ [],
      bytes (items_of older uid keys modseq),
      UidIs uid ∷ FlagsAre keys ∷ ModSeqIs modseq ∷ [],
      [],
      fetch_line number (40 ∷ row) (bytes (32 ∷ 40 ∷ row)) (bytes (42 ∷ 32 ∷ (decimal number ++ (codes " FETCH (" ++ row)))) n h (row_whole number (40 ∷ row)),
      a_gap,
      row_items older uid modseq keys some h' set lacks some' k,
      tt,
      row_later older uid modseq keys,
      refl,
    )
