-- A line that is passed over: what is read, and what is spelled.
use Rattle.std.proofs.Common.{◌≡◌, ◌≢◌, ℕ, zero, suc, ◌<◌, ◌≤◌, Bool, true, false, cond, List, [], ◌∷◌, ◌++◌, length, drop, Option, Some}
use Rattle.std.proofs.Common.{None, refl, ap, sym, ◌∙◌, subst, inl, inr, arith, append_assoc, append-nil, Result, Ok, Err}
use Rattle.std.proofs.lemmas.Bool.Decides.{nat_tests}
use Rattle.std.proofs.lemmas.List.{length-drop}
use Rattle.std.specs.Prelude.{◌==◌, nat_lt}
use Rattle.std.specs.List.{AllByRecursion}
use Rattle.std.specs.Str.Parse.{IsNumeral}
use Rattle.mail_base.specs.Frames.{header}
use Rattle.imap_tokens.specs.declared.token.TokenKind.{TokenKind}
use Rattle.imap_tokens.specs.declared.token.TokenKind.TheVariants as kinds
use Rattle.imap_tokens.specs.Scan.{token_of}
use Rattle.imap_model.specs.Parts.{Part, Byte, Literal, bytes, EndsInHeader}
use Rattle.imap_model.specs.Others.{IsQuiet, EndInHeader}
use Rattle.imap_response.specs.Leaf.{is_forbidden}
use Rattle.imap_response.specs.WordLists.{header_start, no_header}
use Rattle.imap_response.specs.Left.{Left, at_left, behind_token}
use Rattle.imap_response.specs.ReadSearches.{begins_with}
use Rattle.imap_response.specs.ReadLines.{literal_size, literal_by, literal_len, begins_forbidden, other_from, other_at}
use Rattle.imap_response.proofs.spelling.Headers.{closed_spells}
use Rattle.imap_response.proofs.spelling.Passing.{Passes, Fits, place, bytes_pass, pass_none, joined, fits_behind, bytes_joined}
use Rattle.imap_response.proofs.spelling.Results.{len_none, ok_either, err_not}
use Rattle.imap_response.proofs.spelling.Tokens.{IsNext, next_from}

-- the bytes behind the last literal of parts, and before them these
abbrev pub tail_from : List ℕ → List Part → List ℕ
tail_from acc [] = acc
tail_from acc (Byte byte ∷ parts) = tail_from (acc ++ byte ∷ []) parts
tail_from acc (Literal digits octets ∷ parts) = tail_from [] parts

tail_bytes : (text acc : List ℕ) → tail_from acc (bytes text) ≡ acc ++ text
tail_bytes [] acc = sym (append-nil acc)
tail_bytes (b ∷ text) acc = tail_bytes text (acc ++ b ∷ []) ∙ append_assoc acc (b ∷ []) text

tail_joined : (a b : List Part) (acc : List ℕ) → tail_from acc (a ++ b) ≡ tail_from (tail_from acc a) b
tail_joined [] b acc = refl
tail_joined (Byte byte ∷ a) b acc = tail_joined a b (acc ++ byte ∷ [])
tail_joined (Literal digits octets ∷ a) b acc = tail_joined a b []

-- parts and such a tail
tail_cut : (parts : List Part) (acc : List ℕ) → (front : List Part) × (bytes acc ++ parts ≡ front ++ bytes (tail_from acc parts))
tail_cut [] acc = ([], append-nil (bytes acc))
tail_cut (Byte byte ∷ parts) acc =
    let more = tail_cut parts (acc ++ byte ∷ []) in
    (more.0, sym (append_assoc (bytes acc) (bytes (byte ∷ [])) parts) ∙ ap (λ (p : List Part). p ++ parts) (sym (bytes_joined acc (byte ∷ []))) ∙ more.1)
tail_cut (Literal digits octets ∷ parts) acc =
    let more = tail_cut parts [] in (
      bytes acc ++ Literal digits octets ∷ more.0,
      ap (λ (p : List Part). bytes acc ++ Literal digits octets ∷ p) more.1
          ∙ sym (append_assoc (bytes acc) (Literal digits octets ∷ more.0) (bytes (tail_from [] parts))),
    )

tail_header : (parts : List Part) → EndInHeader parts → EndsInHeader (tail_from [] parts)
tail_header parts ends = (
  tail_from [] ends.0,
  ends.1,
  ends.2,
  ap (tail_from []) ends.3 ∙ tail_joined ends.0 (bytes (header ends.1)) []
      ∙ tail_bytes (header ends.1) (tail_from [] ends.0),
)

header_tail : (parts : List Part) → EndsInHeader (tail_from [] parts) → EndInHeader parts
header_tail parts ends =
    let cut = tail_cut parts [] in (
      cut.0 ++ bytes ends.0,
      ends.1,
      ends.2,
      cut.1 ∙ ap (λ (t : List ℕ). cut.0 ++ bytes t) ends.3
          ∙ ap (λ (p : List Part). cut.0 ++ p) (bytes_joined ends.0 (header ends.1))
          ∙ sym (append_assoc cut.0 (bytes ends.0) (bytes (header ends.1))),
    )

-- no brace stands among the bytes
abbrev pub NoBrace : List ℕ → Type 0
NoBrace text = AllByRecursion (λ byte. byte ≢ 123) text

strip : (front text x digits : List ℕ) → NoBrace front → IsNumeral 10 digits → front ++ text ≡ x ++ header digits → EndsInHeader text
strip [] text x digits all numeral is = (x, digits, numeral, is)
strip (b ∷ front) text [] digits all numeral is = absurd (all.0 (let e : b ≡ 123 = cc in e))
strip (b ∷ front) text (y ∷ x) digits all numeral is = strip front text x digits all.1 numeral (let e : front ++ text ≡ x ++ header digits = cc in e)

put_front : (front text : List ℕ) → EndsInHeader text → EndsInHeader (front ++ text)
put_front front text ends = (front ++ ends.0, ends.1, ends.2, ap (λ (t : List ℕ). front ++ t) ends.3 ∙ sym (append_assoc front ends.0 (header ends.1)))

without_front : (parts : List Part) (front acc : List ℕ) → NoBrace front → EndsInHeader (tail_from (front ++ acc) parts) → EndsInHeader (tail_from acc parts)
without_front [] front acc all ends = strip front acc ends.0 ends.1 all ends.2 ends.3
without_front (Byte byte ∷ parts) front acc all ends = without_front parts front (acc ++ byte ∷ []) all
    (subst (λ (t : List ℕ). EndsInHeader (tail_from t parts)) (append_assoc front acc (byte ∷ [])) ends)
without_front (Literal digits octets ∷ parts) front acc all ends = ends

with_front : (parts : List Part) (front acc : List ℕ) → EndsInHeader (tail_from acc parts) → EndsInHeader (tail_from (front ++ acc) parts)
with_front [] front acc ends = put_front front acc ends
with_front (Byte byte ∷ parts) front acc ends = subst (λ (t : List ℕ). EndsInHeader (tail_from t parts))
    (sym (append_assoc front acc (byte ∷ []))) (with_front parts front (acc ++ byte ∷ []) ends)
with_front (Literal digits octets ∷ parts) front acc ends = ends

front_tail : (front : List ℕ) (parts : List Part) → tail_from [] (bytes front ++ parts) ≡ tail_from (front ++ []) parts
front_tail front parts = tail_joined (bytes front) parts [] ∙ ap (λ (t : List ℕ). tail_from t parts) (tail_bytes front [] ∙ sym (append-nil front))

-- a header ends the parts where it ends them with bytes in front
line_header : (front : List ℕ) (parts : List Part) → NoBrace front → EndInHeader (bytes front ++ parts) → EndsInHeader (tail_from [] parts)
line_header front parts all ends = without_front parts front [] all
    (subst (λ (t : List ℕ). EndsInHeader t) (front_tail front parts) (tail_header (bytes front ++ parts) ends))

pub header_line : (front : List ℕ) (parts : List Part) → EndsInHeader (tail_from [] parts) → EndInHeader (bytes front ++ parts)
header_line front parts ends = header_tail (bytes front ++ parts)
    (subst (λ (t : List ℕ). EndsInHeader t) (sym (front_tail front parts)) (with_front parts front [] ends))

-- the literal in front
size_kind : (kind : TokenKind) (size : ℕ) → nat_lt 0 (literal_size kind size) ≡ true → (kind ≡ kinds.Literal) × (literal_size kind size ≡ size)
size_kind kinds.Atom size some = absurd cc
size_kind kinds.Number size some = absurd cc
size_kind kinds.Nil size some = absurd cc
size_kind kinds.Quoted size some = absurd cc
size_kind kinds.Literal size some = (refl, refl)
size_kind kinds.LeftParen size some = absurd cc
size_kind kinds.RightParen size some = absurd cc
size_kind kinds.LeftBracket size some = absurd cc
size_kind kinds.RightBracket size some = absurd cc
size_kind kinds.Space size some = absurd cc

abbrev Kinded : Type 0
Kinded = TokenKind × ℕ

by_token : (left : Left) (o : Option Kinded) → Fits left → token_of left.literals (place left) left.text ≡ o →
    nat_lt 0 (literal_by o) ≡ true → IsNext left kinds.Literal (literal_by o)
by_token left None fits is some = absurd cc
by_token left (Some token) fits is some =
    let kind = size_kind token.0 token.1 some in
    let next = next_from left left.text token fits refl is in
    subst (λ (n : ℕ). IsNext left kinds.Literal n) (sym kind.1) (subst (λ (k : TokenKind). IsNext left k token.1) kind.0 next)

by_brace : (left : Left) (t : Bool) → Fits left → nat_lt 0 (cond t (literal_by (token_of left.literals (place left) left.text)) 0) ≡ true →
    IsNext left kinds.Literal (cond t (literal_by (token_of left.literals (place left) left.text)) 0)
by_brace left true fits some = by_token left (token_of left.literals (place left) left.text) fits refl some
by_brace left false fits some = absurd cc

none_left : (text : List ℕ) → length text ≤ 0 → text ≡ []
none_left [] fits = refl
none_left (b ∷ text) fits = absurd (omega arith)

pub literal_there : (left : Left) → Fits left → nat_lt 0 (literal_len left) ≡ true → IsNext left kinds.Literal (literal_len left)
literal_there left fits some = by_brace left (begins_with 123 left.text) fits some

-- reading step by step
abbrev Done : Type 0
Done = Result (Unit {0}) ℕ

pub other_none : (last : List ℕ) (left : Left) → other_from zero last left ≡ no_header last (header_start 0 last)
unfolding other_from
other_none last left = refl

pub other_is : (more : ℕ) (last : List ℕ) (left : Left) → other_from (suc more) last left
    ≡ cond (nat_lt 0 (literal_len left)) (other_from more (drop (literal_len left) left.text) (behind_token left kinds.Literal (literal_len left)))
    (cond (length left.text == 0) (no_header last (header_start 0 last))
    (cond (begins_forbidden left.text) (Err (length left.text)) (other_from more last (at_left left (drop 1 left.text)))))
unfolding other_from
other_is more last left = refl

pub record IsPassed (acc : List ℕ) (left : Left) : Type 0 where
  pub parts : List Part
  pub end : Left
  pub quiet : AllByRecursion IsQuiet parts
  pub passes : Passes left parts end
  pub none : end.text ≡ []
  pub closed : EndsInHeader (tail_from acc parts) → ⊥

end_passed : (acc last : List ℕ) (left : Left) → Fits left → last ≡ acc ++ left.text → left.text ≡ [] →
    no_header last (header_start 0 last) ≡ Ok tt → IsPassed acc left
end_passed acc last left fits is none closed = record {
  parts = [];
  end = left;
  quiet = tt;
  passes = pass_none left fits;
  none = none;
  closed = λ ends. closed_spells last last closed (subst EndsInHeader (sym (is ∙ ap (λ (t : List ℕ). acc ++ t) none ∙ append-nil acc)) ends);
}

literal_passed : (acc : List ℕ) (left : Left) (size : ℕ) → IsNext left kinds.Literal size →
    IsPassed [] (behind_token left kinds.Literal size) → IsPassed acc left
literal_passed acc left size next rest =
    let passes = subst (λ (p : List Part). Passes left p (behind_token left kinds.Literal size)) next.token.3 next.passes in
    record {
      parts = Literal next.token.0 next.token.1 ∷ rest.parts;
      end = rest.end;
      quiet = (tt, rest.quiet);
      passes = joined left (Literal next.token.0 next.token.1 ∷ []) (behind_token left kinds.Literal size) rest.parts rest.end passes rest.passes;
      none = rest.none;
      closed = rest.closed;
    }

not_forbidden : (b : ℕ) → is_forbidden b ≡ false → (b ≢ 0) × (b ≢ 10) × (b ≢ 13)
not_forbidden b test = ((λ e. grind (arith, nat_tests)), (λ e. grind (arith, nat_tests)), (λ e. grind (arith, nat_tests)))

byte_passed : (acc : List ℕ) (left : Left) (b : ℕ) (more : List ℕ) → Fits left → left.text ≡ b ∷ more → is_forbidden b ≡ false →
    IsPassed (acc ++ b ∷ []) (at_left left more) → IsPassed acc left
byte_passed acc left b more fits is quiet rest = record {
  parts = Byte b ∷ rest.parts;
  end = rest.end;
  quiet = (not_forbidden b quiet, rest.quiet);
  passes = joined left (bytes (b ∷ [])) (at_left left more) rest.parts rest.end (bytes_pass left (b ∷ []) more fits is) rest.passes;
  none = rest.none;
  closed = rest.closed;
}

literal_shorter : (left : Left) (size more : ℕ) → nat_lt 0 size ≡ true → length left.text ≤ suc more → length (drop size left.text) ≤ more
literal_shorter left size more some fits = let above : 0 < size = grind (arith, nat_tests) in simp length-drop (omega arith)

abbrev PassedAt : ℕ → Type 0
PassedAt more = (acc last : List ℕ) (left : Left) → Fits left → last ≡ acc ++ left.text → length left.text ≤ more →
    other_from more last left ≡ Ok tt → IsPassed acc left

-- no literal in front
byte_from : (more : ℕ) → PassedAt more → (acc last : List ℕ) (left : Left) (text : List ℕ) → left.text ≡ text → Fits left →
    last ≡ acc ++ left.text → length left.text ≤ suc more
    → cond (length text == 0) (no_header last (header_start 0 last))
    (cond (begins_forbidden text) (Err (length text)) (other_from more last (at_left left (drop 1 text)))) ≡ Ok tt → IsPassed acc left
byte_from more rec acc last left [] is fits whole short read = end_passed acc last left fits whole is read
byte_from more rec acc last left (b ∷ text) is fits whole short read =
    elim (ok_either (length (b ∷ text) == 0) (no_header last (header_start 0 last))
    (cond (is_forbidden b) (Err (length (b ∷ text))) (other_from more last (at_left left text))) tt read) [
      | inl none ↦ absurd (let e : b ∷ text ≡ [] = len_none (b ∷ text) none.0 in cc)
      | inr some ↦ elim (ok_either (is_forbidden b) (Err (length (b ∷ text))) (other_from more last (at_left left text)) tt some.1) [
        | inl bad ↦ absurd (err_not (length (b ∷ text)) tt bad.1)
        | inr quiet ↦ byte_passed acc left b text fits is quiet.0
            (rec (acc ++ b ∷ []) last (at_left left text) (fits_behind left (bytes (b ∷ [])) (at_left left text) (bytes_pass left (b ∷ []) text fits is))
            (whole ∙ ap (λ (t : List ℕ). acc ++ t) is ∙ sym (append_assoc acc (b ∷ []) text)) (omega (arith, ap length is, short)) quiet.1)
      ]
    ]

passed : (n : ℕ) → PassedAt n
passed zero acc last left fits whole short read = end_passed acc last left fits whole (none_left left.text short) (sym (other_none last left) ∙ read)
passed (suc more) acc last left fits whole short read =
    elim (ok_either (nat_lt 0 (literal_len left)) (other_from more (drop (literal_len left) left.text) (behind_token left kinds.Literal (literal_len left)))
    (cond (length left.text == 0) (no_header last (header_start 0 last))
    (cond (begins_forbidden left.text) (Err (length left.text)) (other_from more last (at_left left (drop 1 left.text))))) tt
    (sym (other_is more last left) ∙ read)) [
      | inl literal ↦
          let next = literal_there left fits literal.0 in
          literal_passed acc left (literal_len left) next (passed more [] (drop (literal_len left) left.text)
          (behind_token left kinds.Literal (literal_len left))
          (fits_behind left next.parts (behind_token left kinds.Literal (literal_len left)) next.passes) refl
          (literal_shorter left (literal_len left) more literal.0 short) literal.1)
      | inr plain ↦ byte_from more (passed more) acc last left left.text refl fits whole short plain.1
    ]

pub record IsOtherFront (left : Left) : Type 0 where
  pub parts : List Part
  pub end : Left
  pub quiet : AllByRecursion IsQuiet parts
  pub passes : Passes left parts end
  pub none : end.text ≡ []
  pub closed : (front : List ℕ) → NoBrace front → EndInHeader (bytes front ++ parts) → ⊥

pub other_spells : (left : Left) → Fits left → other_at left ≡ Ok tt → IsOtherFront left
other_spells left fits is =
    let w = passed (length left.text) [] left.text left fits refl (omega arith) is in
    record {
      parts = w.parts;
      end = w.end;
      quiet = w.quiet;
      passes = w.passes;
      none = w.none;
      closed =
          λ front all ends. w.closed (line_header front w.parts all ends);
    }
