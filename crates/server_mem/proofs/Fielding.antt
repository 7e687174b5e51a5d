-- What is said of a header's lines is said of its fields.
use Rattle.std.proofs.Common.{◌≡◌, ℕ, ◌+◌, Bool, true, false, cond, eqb, ◌&&◌, ◌||◌, List, [], ◌∷◌, ◌++◌, Option, Some, None, take, drop}
use Rattle.std.proofs.Common.{length, refl, sym, ◌∙◌, ap, suc, arith, add-one}
use Rattle.std.specs.List.{list_any, filter_map, cons_option, position, position_from}
use Rattle.imap_model.proofs.Finding.{cond_two}
use Rattle.std.proofs.lemmas.Bool.{cond_both, eqb-true}
use Rattle.std.proofs.lemmas.Option.{same_Some}
use Rattle.std.proofs.lemmas.Iterator.Adapters.{position_from-zero}
use Rattle.mail_header.specs.Field.{FieldText, is_colon, parted_at, field_of, fields_of}
use Rattle.mail_header.specs.Folding.{unfolded, whole_header}
use Rattle.mail_header.specs.Header.{crlf}
use Rattle.mail_header.specs.Identifier.{PlacedBody, is_id_name, id_body, with_some, id_bodies_from}
use Rattle.imap_model.specs.Searching.{holds_part, lower, has_in_id_caseless}
use Rattle.imap_model.specs.ToldRows.{is_id_field, id_lines, id_fields}
use Rattle.server_mem.specs.IdFields.{any_holds, id_text}

abbrev test : List ℕ → PlacedBody → Bool
test part b = holds_part (lower part) (lower (unfolded b.body))

bodies_step : (part : List ℕ) (at : ℕ) (o : Option FieldText) (bodies : List PlacedBody) (fields : List FieldText) →
    list_any (test part) bodies ≡ any_holds (lower part) fields →
    list_any (test part) (with_some (id_body at o) bodies) ≡ any_holds (lower part) (cons_option o fields)
bodies_step part at None bodies fields ih = ih
bodies_step part at (Some f) bodies fields ih =
    cond_two (is_id_name f.name) (Some (record { at = at; body = f.body })) None true false
    (λ (o : Option PlacedBody) (b : Bool). list_any (test part) (with_some o bodies)
    ≡ ((b && holds_part (lower part) (lower (unfolded f.body))) || any_holds (lower part) fields))
    (λ t. ap (λ (b : Bool). holds_part (lower part) (lower (unfolded f.body)) || b) ih) (λ _. ih)
    ∙ ap (λ (b : Bool). (b && holds_part (lower part) (lower (unfolded f.body))) || any_holds (lower part) fields) (same_test (is_id_name f.name))
  where
    same_test : (b : Bool) → cond b true false ≡ b
    same_test true = refl
    same_test false = refl

bodies_any : (part : List ℕ) (at : ℕ) (lines : List (List ℕ)) →
    list_any (test part) (id_bodies_from at lines) ≡ any_holds (lower part) (filter_map field_of lines)
bodies_any part at [] = refl
bodies_any part at (line ∷ lines) =
    bodies_step part at (field_of line) (id_bodies_from (at + length line + 2) lines) (filter_map field_of lines) (bodies_any part (at + length line + 2) lines)

-- a search by fields
pub by_fields : (part text : List ℕ) → has_in_id_caseless part text ≡ any_holds (lower part) (fields_of text)
by_fields part text = bodies_any part 0 (whole_header text)

-- a field's line
cut_at : (line : List ℕ) (k at : ℕ) → position_from is_colon k line ≡ Some at → (i : ℕ) × ((at ≡ k + i) × (line ≡ take i line ++ 58 ∷ drop (i + 1) line))
cut_at [] k at = λ e. absurd (cc)
cut_at (b ∷ line) k at =
    cond_both (is_colon b) (Some k) (position_from is_colon (k + 1) line)
    (λ (o : Option ℕ). o ≡ Some at → (i : ℕ) × ((at ≡ k + i) × ((b ∷ line) ≡ take i (b ∷ line) ++ 58 ∷ drop (i + 1) (b ∷ line))))
    (λ t e. let same : k ≡ at = same_Some k at e in (0, (omega arith, ap (λ (x : ℕ). x ∷ line) (eqb-true b 58 t))))
    (λ _ e. let later = cut_at line (k + 1) at e in
    let is : at ≡ k + 1 + later.0 = later.1.0 in
    (suc later.0, (omega arith, ap (λ (l : List ℕ). b ∷ l) later.1.1 ∙ cut_more b later.0 line)))
  where
    cut_more : (b i : ℕ) (line : List ℕ) → b ∷ (take i line ++ 58 ∷ drop (i + 1) line) ≡ take (suc i) (b ∷ line) ++ 58 ∷ drop (suc i + 1) (b ∷ line)
    cut_more b i line = ap (λ (n : ℕ). b ∷ (take i line ++ 58 ∷ drop n line)) (add-one i)
        ∙ sym (ap (λ (n : ℕ). b ∷ (take i line ++ 58 ∷ drop n (b ∷ line))) (add-one (suc i)))

line_from : (line : List ℕ) (o : Option ℕ) (f : FieldText) → o ≡ position_from is_colon 0 line → parted_at line o ≡ Some f → line ≡ f.name ++ 58 ∷ f.body
line_from line None f e = λ p. absurd (cc)
line_from line (Some at) f e =
    cond_both (eqb at 0) None (Some (record { name = take at line; body = drop (at + 1) line }))
    (λ (o : Option FieldText). o ≡ Some f → line ≡ f.name ++ 58 ∷ f.body)
    (λ _ p. absurd (cc))
    (λ _ p. let cut = cut_at line 0 at (sym e) in
    let is : at ≡ 0 + cut.0 = cut.1.0 in let same : cut.0 ≡ at = omega arith in
    cut.1.1 ∙ ap (λ (i : ℕ). take i line ++ 58 ∷ drop (i + 1) line) same
    ∙ ap (λ (g : FieldText). g.name ++ 58 ∷ g.body) (same_Some (record { name = take at line; body = drop (at + 1) line }) f p))

field_line : (line : List ℕ) (f : FieldText) → field_of line ≡ Some f → line ≡ f.name ++ 58 ∷ f.body
field_line line f e = line_from line (position is_colon line) f (position_from-zero is_colon line) e

lines_step : (line : List ℕ) (o : Option FieldText) (lines : List (List ℕ)) (fields : List FieldText) → field_of line ≡ o → id_lines lines ≡ id_text fields →
    cond (is_id_field o) (line ++ crlf ++ id_lines lines) (id_lines lines) ≡ id_text (cons_option o fields)
lines_step line None lines fields e ih = ih
lines_step line (Some f) lines fields e ih =
    cond_two (is_id_name f.name) (line ++ crlf ++ id_lines lines) (id_lines lines) ((f.name ++ 58 ∷ f.body) ++ crlf ++ id_text fields)
    (id_text fields) (λ (x y : List ℕ). x ≡ y)
    (λ _. ap (λ (l : List ℕ). l ++ crlf ++ id_lines lines) (field_line line f e) ∙ ap (λ (l : List ℕ). (f.name ++ 58 ∷ f.body) ++ crlf ++ l) ih)
    (λ _. ih)

lines_text : (lines : List (List ℕ)) → id_lines lines ≡ id_text (filter_map field_of lines)
lines_text [] = refl
lines_text (line ∷ lines) = lines_step line (field_of line) lines (filter_map field_of lines) refl (lines_text lines)

-- the Message-ID fields of a text
pub text_of_fields : (text : List ℕ) → id_fields text ≡ id_text (fields_of text)
text_of_fields text = lines_text (whole_header text)
