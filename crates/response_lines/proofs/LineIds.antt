-- FETCH lines with Message-ID fields, or a whole text, which stand in a literal.
use Rattle.std.proofs.Common.{◌≡◌, ℕ, ◌+◌, ◌<◌, ◌^◌, Bool, true, List, [], ◌∷◌, ◌++◌, Some, refl, sym, ◌∙◌, ap, subst, arith, length}
use Rattle.std.proofs.Common.{decimal, inl, inr, append_assoc, length-append}
use Rattle.std.proofs.lemmas.Fmt.{decimal_is_IsNumeral}
use Rattle.std.proofs.lemmas.List.{append-nil}
use Rattle.std.specs.Prelude.{IsTrue, codes}
use Rattle.std.specs.List.{AllByRecursion, list_all, flat_map}
use Rattle.mail_base.specs.Frames.{Opening, header, line_text}
use Rattle.mail_base.specs.declared.frame.Frame.{Frame}
use Rattle.mail_base.specs.declared.span.Span.{Span}
use Rattle.imap_model.specs.FetchItems.{IsIdsItem, IsIdSection, IsTextItem, IsItem, AreItems, Told, UidIs, IdsAre, TextIs, fetched_of}
use Rattle.imap_model.specs.Lines.{IsSpelled}
use Rattle.imap_model.specs.Parts.{Part, Literal, IsPart, part_text, literals_from, bytes}
use Rattle.imap_model.specs.Responses.{IsFetchLine, IsLineOf}
use Rattle.imap_model.specs.Tagged.{is_astring_byte}
use Rattle.imap_model.specs.Unfetched.{nothing_fetched}
use Rattle.imap_model.specs.declared.fetched.Fetched.{Fetched}
use Rattle.imap_model.specs.declared.response.Response.TheVariants as responses
use Rattle.response_lines.specs.LineTexts.{◌⌢◌, fetch_text}
use Rattle.response_lines.proofs.LineFetch.{a_gap, fetch_line, front_join, front_of, join_bytes, uid_item}
use Rattle.response_lines.proofs.LineNumbers.{decimal_all, digit_quiet}
use Rattle.response_lines.proofs.PlainLines.{is_quiet_byte, all_each, all_join, quiet_closed, quiet_lf}

-- a text and a literal behind it, and `)`
abbrev parts_of : List ℕ → List ℕ → List Part
parts_of front octets = bytes front ++ Literal (decimal (length octets)) octets ∷ bytes (41 ∷ [])

abbrev text_of : List ℕ → List ℕ → List ℕ
text_of front octets = front ++ (header (decimal (length octets)) ++ (13 ∷ 10 ∷ (octets ++ 41 ∷ [])))

abbrev opening_of : List ℕ → List ℕ → Opening
opening_of front octets = record { front = front; digits = decimal (length octets); octets = octets }

lawful_parts : (front octets : List ℕ) → length octets < 2 ^ 64 → AllByRecursion IsPart (parts_of front octets)
lawful_parts [] octets h = ((decimal_is_IsNumeral (length octets) h).0, (tt, tt))
lawful_parts (b ∷ front) octets h = (tt, lawful_parts front octets h)

text_parts : (front octets : List ℕ) → text_of front octets ≡ flat_map part_text (parts_of front octets)
text_parts [] octets = sym (append_assoc (header (decimal (length octets))) (13 ∷ 10 ∷ octets) (41 ∷ []))
text_parts (b ∷ front) octets = ap (λ (t : List ℕ). b ∷ t) (text_parts front octets)

-- where the octets stand
span_from : (at : ℕ) (front octets : List ℕ) → literals_from at (parts_of front octets)
    ≡ literals_from (at + length front) (Literal (decimal (length octets)) octets ∷ bytes (41 ∷ []))
span_from at [] octets = ap (λ (n : ℕ). literals_from n (Literal (decimal (length octets)) octets ∷ bytes (41 ∷ []))) (omega arith)
span_from at (b ∷ front) octets =
    span_from (at + 1) front octets ∙ ap (λ (n : ℕ). literals_from n (Literal (decimal (length octets)) octets ∷ bytes (41 ∷ []))) (omega arith)

abbrev span_at : ℕ → ℕ → Span
span_at low count = record { low = low; high = low + count }

literal_is : (front octets : List ℕ) → span_at (0 + length (front ++ header (decimal (length octets))) + 2) (length octets) ∷ []
    ≡ literals_from 0 (parts_of front octets) ++ []
literal_is front octets =
    ap (λ (low : ℕ). span_at low (length octets) ∷ []) (let len = length-append front (header (decimal (length octets))) in omega arith)
    ∙ sym (append-nil (literals_from 0 (parts_of front octets)) ∙ span_from 0 front octets)

opening_is : (front octets : List ℕ) → text_of front octets ≡ line_text (opening_of front octets ∷ []) (41 ∷ [])
opening_is front octets =
    sym (append_assoc front (header (decimal (length octets))) (13 ∷ 10 ∷ (octets ++ 41 ∷ [])))
    ∙ sym (append_assoc (front ++ header (decimal (length octets))) (13 ∷ 10 ∷ octets) (41 ∷ []))
    ∙ ap (λ (t : List ℕ). t ++ 41 ∷ []) (sym (append-nil ((front ++ header (decimal (length octets))) ++ 13 ∷ 10 ∷ octets)))

-- a line with one literal, `)` behind it
pub literal_spelled : (fetched : Fetched) (front octets : List ℕ) → list_all is_quiet_byte front ≡ true → length octets < 2 ^ 64
    → IsLineOf (text_of front octets) (parts_of front octets) (responses.Fetch fetched) → IsSpelled (responses.Fetch fetched) (text_of front octets)
literal_spelled fetched front octets quiet h of =
    let numeral = decimal_is_IsNumeral (length octets) h in
    let frame : Frame = record {
      bytes = text_of front octets;
      literals =
          span_at (0 + length (front ++ header (decimal (length octets))) + 2) (length octets) ∷ [];
      at = 0;
    } in
    record {
      frame = frame;
      is_line = record {
        openings = opening_of front octets ∷ [];
        last = 41 ∷ [];
        opened = (record { plain = quiet_lf front quiet; number = numeral.0; octets = numeral.1 }, tt);
        plain = quiet_lf (41 ∷ []) refl;
        closed = quiet_closed (41 ∷ []) refl;
        text = opening_is front octets;
        literals = refl;
      };
      spells = (
        parts_of front octets,
        record {
          lawful = lawful_parts front octets h;
          text = text_parts front octets;
          unused =
              [];
          literals = literal_is front octets;
        },
        of,
      );
      text = refl;
    }

-- the items
id_section : IsIdSection (bytes (codes "HEADER.FIELDS (MESSAGE-ID)"))
id_section = record {
  name = codes "HEADER.FIELDS";
  named = refl;
  gap = 32 ∷ [];
  spaces = a_gap;
  field = bytes (codes "MESSAGE-ID");
  value = codes "MESSAGE-ID";
  astring = inr (record {
    some = λ e. cc;
    each = all_each is_astring_byte (λ byte. IsTrue (is_astring_byte byte)) (λ b is. is)
        (codes "MESSAGE-ID") refl;
    whole = refl;
  });
  is_id = refl;
  whole = refl;
}

abbrev literal_part : List ℕ → Part
literal_part octets = Literal (decimal (length octets)) octets

ids_item : (octets : List ℕ) → IsIdsItem (bytes (codes "BODY[HEADER.FIELDS (MESSAGE-ID)] ") ++ literal_part octets ∷ []) octets
ids_item octets = record {
  name = codes "BODY";
  named = refl;
  inside = bytes (codes "HEADER.FIELDS (MESSAGE-ID)");
  id_section = id_section;
  gap = 32 ∷ [];
  spaces = a_gap;
  value = literal_part octets ∷ [];
  told = inl (inr (decimal (length octets), refl));
  whole = refl;
}

text_item : (octets : List ℕ) → IsTextItem (bytes (codes "BODY[] ") ++ literal_part octets ∷ []) octets
text_item octets = record {
  name = codes "BODY";
  named = refl;
  gap = 32 ∷ [];
  spaces = a_gap;
  value = literal_part octets ∷ [];
  told = inl (inr (decimal (length octets), refl));
  whole = refl;
}

-- a row of a UID and one item more, whose value is a literal behind this label
module _ (label : List ℕ) (quiet : list_all is_quiet_byte label ≡ true) (tell : List ℕ → Told)
    (item : (octets : List ℕ) → IsItem (bytes label ++ literal_part octets ∷ []) (tell octets)) where
  abbrev items_of : ℕ → List ℕ → List Part
  items_of uid octets = (bytes (codes "UID " ++ decimal uid) ++ bytes (32 ∷ [])) ++ (bytes label ++ literal_part octets ∷ [])

  items_are : (uid : ℕ) (octets : List ℕ) → 0 < uid → uid < 2 ^ 32 → AreItems (items_of uid octets) (UidIs uid ∷ tell octets ∷ [])
  items_are uid octets some h = (
    bytes (codes "UID " ++ decimal uid),
    32 ∷ [],
    bytes label ++ literal_part octets ∷ [],
    uid_item uid some h,
    a_gap,
    refl,
    item octets,
  )

  -- the text in front of the literal
  abbrev middle : ℕ → List ℕ
  middle uid = codes "UID " ++ (decimal uid ++ 32 ∷ label)

  abbrev before : ℕ → ℕ → List ℕ
  before number uid = 42 ∷ 32 ∷ (decimal number ++ (codes " FETCH (" ++ middle uid))

  before_quiet : (number uid : ℕ) → number < 2 ^ 32 → uid < 2 ^ 32 → list_all is_quiet_byte (before number uid) ≡ true
  before_quiet number uid h k =
      all_join is_quiet_byte (decimal number) (codes " FETCH (" ++ middle uid) (decimal_all is_quiet_byte digit_quiet number (omega arith))
      (all_join is_quiet_byte (decimal uid) (32 ∷ label) (decimal_all is_quiet_byte digit_quiet uid (omega arith)) quiet)

  -- what stands behind the front of the line
  abbrev later_parts : ℕ → List ℕ → List Part
  later_parts uid octets = bytes (32 ∷ 40 ∷ middle uid) ++ literal_part octets ∷ bytes (41 ∷ [])

  before_parts : (number uid : ℕ) (octets : List ℕ) → parts_of (before number uid) octets ≡ bytes (front_of number) ++ later_parts uid octets
  before_parts number uid octets =
      ap (λ (t : List ℕ). bytes t ++ literal_part octets ∷ bytes (41 ∷ [])) (front_join number (40 ∷ middle uid))
      ∙ ap (λ (ps : List Part). ps ++ literal_part octets ∷ bytes (41 ∷ [])) (join_bytes (front_of number) (32 ∷ 40 ∷ middle uid))
      ∙ append_assoc (bytes (front_of number)) (bytes (32 ∷ 40 ∷ middle uid)) (literal_part octets ∷ bytes (41 ∷ []))

  middle_parts : (uid : ℕ) → bytes (middle uid) ≡ (bytes (codes "UID " ++ decimal uid) ++ bytes (32 ∷ [])) ++ bytes label
  middle_parts uid =
      join_bytes (codes "UID " ++ decimal uid) (32 ∷ label) ∙ sym (append_assoc (bytes (codes "UID " ++ decimal uid)) (bytes (32 ∷ [])) (bytes label))

  later_is : (uid : ℕ) (octets : List ℕ) → later_parts uid octets ≡ (bytes (32 ∷ 40 ∷ []) ++ items_of uid octets) ++ bytes (41 ∷ [])
  later_is uid octets =
      ap (λ (ps : List Part). bytes (32 ∷ 40 ∷ []) ++ ps)
      (ap (λ (ps : List Part). ps ++ literal_part octets ∷ bytes (41 ∷ [])) (middle_parts uid)
      ∙ sym (append_assoc ((bytes (codes "UID " ++ decimal uid) ++ bytes (32 ∷ [])) ++ bytes label) (literal_part octets ∷ []) (bytes (41 ∷ [])))
      ∙ ap (λ (ps : List Part). ps ++ bytes (41 ∷ []))
      (append_assoc (bytes (codes "UID " ++ decimal uid) ++ bytes (32 ∷ [])) (bytes label) (literal_part octets ∷ [])))

  -- the line
  line_is : (number uid : ℕ) (octets : List ℕ) → text_of (before number uid) octets
      ≡ 42 ∷ 32 ∷ (decimal number ++ (codes " FETCH (" ++ (codes "UID "
      ++ (decimal uid ++ ((32 ∷ label) ++ (header (decimal (length octets)) ++ (13 ∷ 10 ∷ (octets ++ 41 ∷ []))))))))
  line_is number uid octets =
      ap (λ (t : List ℕ). 42 ∷ 32 ∷ t) (append_assoc (decimal number) (codes " FETCH (" ++ middle uid)
      (header (decimal (length octets)) ++ (13 ∷ 10 ∷ (octets ++ 41 ∷ [])))
      ∙ ap (λ (t : List ℕ). decimal number ++ (codes " FETCH (UID " ++ t))
      (append_assoc (decimal uid) (32 ∷ label) (header (decimal (length octets)) ++ (13 ∷ 10 ∷ (octets ++ 41 ∷ [])))))

  header_is : (octets : List ℕ) → header (decimal (length octets)) ++ (13 ∷ 10 ∷ (octets ++ 41 ∷ []))
      ≡ (123 ∷ (decimal (length octets) ++ (125 ∷ 13 ∷ 10 ∷ octets))) ++ 41 ∷ []
  header_is octets =
      ap (λ (t : List ℕ). 123 ∷ t) (append_assoc (decimal (length octets)) (125 ∷ []) (13 ∷ 10 ∷ (octets ++ 41 ∷ []))
      ∙ sym (append_assoc (decimal (length octets)) (125 ∷ 13 ∷ 10 ∷ octets) (41 ∷ [])))

  written_is : (number uid : ℕ) (octets : List ℕ) → text_of (before number uid) octets
      ≡ 42 ∷ 32 ∷ (decimal number ++ (codes " FETCH (UID "
      ++ ((decimal uid ++ (32 ∷ label)) ++ ((123 ∷ (decimal (length octets) ++ (125 ∷ 13 ∷ 10 ∷ octets))) ++ 41 ∷ []))))
  written_is number uid octets =
      line_is number uid octets
      ∙ ap (λ (t : List ℕ). 42 ∷ 32 ∷ (decimal number ++ (codes " FETCH (UID " ++ (decimal uid ++ ((32 ∷ label) ++ t))))) (header_is octets)
      ∙ ap (λ (t : List ℕ). 42 ∷ 32 ∷ (decimal number ++ (codes " FETCH (UID " ++ t)))
      (sym (append_assoc (decimal uid) (32 ∷ label) ((123 ∷ (decimal (length octets) ++ (125 ∷ 13 ∷ 10 ∷ octets))) ++ 41 ∷ [])))

  row_is_spelled : (number uid : ℕ) (octets : List ℕ) → 0 < number → number < 2 ^ 32 → 0 < uid → uid < 2 ^ 32 → length octets < 2 ^ 64
      → IsSpelled (responses.Fetch (fetched_of (UidIs uid ∷ tell octets ∷ []))) (text_of (before number uid) octets)
  row_is_spelled number uid octets n h some k long =
      let more : List ℕ = codes "(UID " ++ (decimal uid ++ ((32 ∷ label) ++ (header (decimal (length octets)) ++ (13 ∷ 10 ∷ (octets ++ 41 ∷ []))))) in
      let line = fetch_line number more (later_parts uid octets) (parts_of (before number uid) octets) n h (before_parts number uid octets) in
      literal_spelled (fetched_of (UidIs uid ∷ tell octets ∷ [])) (before number uid) octets (before_quiet number uid h k) long (
        later_parts uid octets,
        32 ∷ [],
        items_of uid octets,
        UidIs uid ∷ tell octets ∷ [],
        [],
        subst (λ (t : List ℕ). IsFetchLine t (parts_of (before number uid) octets) (later_parts uid octets)) (sym (line_is number uid octets)) line,
        a_gap,
        items_are uid octets some k,
        tt,
        later_is uid octets,
        refl,
      )

abbrev ids_row : ℕ → List ℕ → Fetched
ids_row uid octets = record nothing_fetched { uid = Some uid; ids = Some octets }

abbrev ids_label : List ℕ
ids_label = codes "BODY[HEADER.FIELDS (MESSAGE-ID)] "

pub ids_spelled : (older : Bool) (number uid : ℕ) (octets : List ℕ) → 0 < number → number < 2 ^ 32 → 0 < uid → uid < 2 ^ 32 → length octets < 2 ^ 64
    → IsSpelled (responses.Fetch (ids_row uid octets)) (fetch_text older number (ids_row uid octets))
unfolding ◌⌢◌
ids_spelled older number uid octets n h some k long =
    subst (IsSpelled (responses.Fetch (ids_row uid octets))) (written_is ids_label refl IdsAre ids_item number uid octets)
    (row_is_spelled ids_label refl IdsAre ids_item number uid octets n h some k long)

abbrev whole_row : ℕ → List ℕ → Fetched
whole_row uid octets = record nothing_fetched { uid = Some uid; text = Some octets }

abbrev whole_label : List ℕ
whole_label = codes "BODY[] "

pub text_spelled : (older : Bool) (number uid : ℕ) (octets : List ℕ) → 0 < number → number < 2 ^ 32 → 0 < uid → uid < 2 ^ 32 → length octets < 2 ^ 64
    → IsSpelled (responses.Fetch (whole_row uid octets)) (fetch_text older number (whole_row uid octets))
unfolding ◌⌢◌
text_spelled older number uid octets n h some k long =
    subst (IsSpelled (responses.Fetch (whole_row uid octets))) (written_is whole_label refl TextIs text_item number uid octets)
    (row_is_spelled whole_label refl TextIs text_item number uid octets n h some k long)
