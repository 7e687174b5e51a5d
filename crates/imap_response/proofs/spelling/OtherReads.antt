-- A line that is passed over: what is spelled is read.
use Rattle.std.proofs.Common.{◌≡◌, ◌≢◌, ℕ, zero, suc, ◌≤◌, Bool, true, false, cond, List, [], ◌∷◌, ◌++◌, length, drop, refl, ap, sym, ◌∙◌}
use Rattle.std.proofs.Common.{subst, inl, inr, arith, append_assoc, append-nil, length-append, Result, Ok, Err}
use Rattle.std.proofs.lemmas.Bool.{cases_Bool}
use Rattle.std.proofs.lemmas.Bool.Decides.{nat_tests}
use Rattle.std.proofs.Math.Seq.{drop-append_seam}
use Rattle.std.specs.Prelude.{◌==◌, nat_lt}
use Rattle.std.specs.List.{AllByRecursion}
use Rattle.std.specs.Char.{is_ascii_digit}
use Rattle.std.specs.Str.Parse.{AllDigits}
use Rattle.imap_tokens.specs.declared.token.TokenKind.TheVariants as kinds
use Rattle.imap_tokens.specs.Scan.{token_of}
use Rattle.imap_model.specs.Parts.{Part, Byte, Literal, part_text, bytes, EndsInHeader}
use Rattle.imap_model.specs.Others.{IsQuiet, EndInHeader}
use Rattle.imap_response.specs.Leaf.{is_forbidden}
use Rattle.imap_response.specs.WordLists.{header_start, no_header}
use Rattle.imap_response.specs.Left.{Left, at_left, behind_token}
use Rattle.imap_response.specs.ReadSearches.{begins_with}
use Rattle.imap_response.specs.ReadLines.{literal_by, literal_len, begins_forbidden, other_from, other_at}
use Rattle.imap_response.proofs.spelling.Headers.{closed_reads}
use Rattle.imap_response.proofs.spelling.LiteralTokens.{IsLiteralFront}
use Rattle.imap_response.proofs.spelling.Numbers.{digits_pass}
use Rattle.imap_response.proofs.spelling.OtherLines.{tail_from, NoBrace, header_line, literal_there, other_none, other_is}
use Rattle.imap_response.proofs.spelling.Passing.{Passes, place, text_of, pass_bytes, pass_left, split, same_left}
use Rattle.imap_response.proofs.spelling.Results.{some_len}
use Rattle.imap_response.proofs.spelling.Tokens.{IsNext}
use Rattle.imap_response.proofs.spelling.TokenReads.{literal_found}

first_same : (b c : ℕ) (s t : List ℕ) → b ∷ s ≡ c ∷ t → b ≡ c
first_same b c s t is = cc

-- no CR is reached over bytes that are no braces
no_run : (parts : List Part) (run rest : List ℕ) → AllByRecursion IsQuiet parts → NoBrace run → text_of parts ≡ run ++ 13 ∷ rest → ⊥
no_run [] [] rest quiet all is = cc
no_run [] (r ∷ run) rest quiet all is = cc
no_run (Byte b ∷ parts) [] rest quiet all is = quiet.0.2 (let e : b ≡ 13 = cc in e)
no_run (Byte b ∷ parts) (r ∷ run) rest quiet all is = no_run parts run rest quiet.1 all.1 (let e : text_of parts ≡ run ++ 13 ∷ rest = cc in e)
no_run (Literal digits octets ∷ parts) [] rest quiet all is = let e : ◌≡◌ {A = ℕ} 123 13 = first_same 123 13 _ rest is in omega (arith, e)
no_run (Literal digits octets ∷ parts) (r ∷ run) rest quiet all is = all.0 (sym (first_same 123 r _ (run ++ 13 ∷ rest) is))

digit_no_brace : (digits : List ℕ) → AllDigits 10 digits → NoBrace digits
digit_no_brace [] all = tt
digit_no_brace (b ∷ digits) all =
    let digit = (digits_pass (b ∷ digits) all).0 in
    ((λ e. let fails : is_ascii_digit 123 ≡ true = ap is_ascii_digit (sym e) ∙ digit in cc), digit_no_brace digits all.1)

brace_joined : (a b : List ℕ) → NoBrace a → NoBrace b → NoBrace (a ++ b)
brace_joined [] b all all' = all'
brace_joined (x ∷ a) b all all' = (all.0, brace_joined a b all.1 all')

literal_text : (digits octets rest : List ℕ) → (part_text (Literal digits octets) ++ []) ++ rest ≡ 123 ∷ ((digits ++ 125 ∷ []) ++ 13 ∷ ((10 ∷ octets) ++ rest))
literal_text digits octets rest =
    ap (λ (t : List ℕ). t ++ rest) (append-nil (part_text (Literal digits octets)))
    ∙ ap (λ (t : List ℕ). 123 ∷ t) (append_assoc (digits ++ 125 ∷ []) (13 ∷ 10 ∷ octets) rest)

tail_same : (b c : ℕ) (s t : List ℕ) → b ∷ s ≡ c ∷ t → s ≡ t
tail_same b c s t is = cc

-- a brace that is a byte of its own opens no literal
no_literal : (left end : Left) (b : ℕ) (parts : List Part) (size : ℕ) → AllByRecursion IsQuiet parts → Passes left (Byte b ∷ parts) end →
    end.text ≡ [] → IsNext left kinds.Literal size → ⊥
no_literal left end b parts size quiet passes none next =
    let digits : List ℕ = next.token.0 in
    let there = subst (λ (p : List Part). Passes left p (behind_token left kinds.Literal size)) next.token.3 next.passes in
    let text : left.text ≡ b ∷ text_of parts = passes.text ∙ ap (λ (t : List ℕ). (b ∷ text_of parts) ++ t) none ∙ append-nil (b ∷ text_of parts) in
    let other : left.text ≡ 123 ∷ ((next.token.0 ++ 125 ∷ []) ++ 13 ∷ ((10 ∷ next.token.1) ++ drop size left.text)) =
    there.text ∙ literal_text next.token.0 next.token.1 (drop size left.text) in
    no_run parts (next.token.0 ++ 125 ∷ []) ((10 ∷ next.token.1) ++ drop size left.text) quiet
    (brace_joined next.token.0 (125 ∷ []) (digit_no_brace next.token.0 there.lawful.0.1) ((λ e. omega (arith, e)), tt))
    (tail_same b 123 (text_of parts) ((next.token.0 ++ 125 ∷ []) ++ 13 ∷ ((10 ∷ next.token.1) ++ drop size left.text)) (sym text ∙ other))

no_len : (left end : Left) (b : ℕ) (parts : List Part) → AllByRecursion IsQuiet parts → Passes left (Byte b ∷ parts) end → end.text ≡ [] →
    nat_lt 0 (literal_len left) ≡ false
no_len left end b parts quiet passes none = elim (cases_Bool (nat_lt 0 (literal_len left))) [
  | inl some ↦ absurd (no_literal left end b parts (literal_len left) quiet passes none (literal_there left passes.fits some))
  | inr is ↦ is
]

none_len : (left : Left) → left.text ≡ [] → nat_lt 0 (literal_len left) ≡ false
none_len left none = ap (λ (t : Bool). nat_lt 0 (cond t (literal_by (token_of left.literals (place left) left.text)) 0)) (ap (begins_with 123) none)

-- a literal in front
len_is : (left mid : Left) (digits octets : List ℕ) → Passes left (Literal digits octets ∷ []) mid →
    literal_len left ≡ length (part_text (Literal digits octets))
len_is left mid digits octets passes =
    let whole : left.text ≡ part_text (Literal digits octets) ++ mid.text =
    passes.text ∙ ap (λ (t : List ℕ). t ++ mid.text) (append-nil (part_text (Literal digits octets))) in
    let front : IsLiteralFront left.literals (place left) left.text digits octets mid.text mid.literals =
    record { numeral = passes.lawful.0; whole = whole; spans = passes.literals } in
    let found = literal_found left.literals (place left) left.text digits octets mid.text mid.literals front in
    ap (λ (t : Bool). cond t (literal_by (token_of left.literals (place left) left.text)) 0) (ap (begins_with 123) whole) ∙ ap literal_by found

behind_is : (left mid : Left) (digits octets : List ℕ) → Passes left (Literal digits octets ∷ []) mid → behind_token left kinds.Literal (literal_len left) ≡ mid
behind_is left mid digits octets passes =
    let whole : left.text ≡ part_text (Literal digits octets) ++ mid.text =
    passes.text ∙ ap (λ (t : List ℕ). t ++ mid.text) (append-nil (part_text (Literal digits octets))) in
    same_left (behind_token left kinds.Literal (literal_len left)) mid (sym passes.total)
    (ap (λ (n : ℕ). drop n left.text) (len_is left mid digits octets passes) ∙ ap (drop (length (part_text (Literal digits octets)))) whole
    ∙ drop-append_seam (part_text (Literal digits octets)) mid.text)
    (ap (drop 1) passes.literals)

some_literal : (digits octets : List ℕ) → nat_lt 0 (length (part_text (Literal digits octets))) ≡ true
some_literal digits octets = grind (arith, nat_tests)

quiet_test : (b : ℕ) → b ≢ 0 → b ≢ 10 → b ≢ 13 → is_forbidden b ≡ false
quiet_test b nul lf cr = grind (arith, nat_tests)

abbrev ReadAt : ℕ → Type 0
ReadAt more = (parts : List Part) (acc last : List ℕ) (left end : Left) → AllByRecursion IsQuiet parts → Passes left parts end →
    end.text ≡ [] → last ≡ acc ++ left.text → (EndsInHeader (tail_from acc parts) → ⊥)
    → length left.text ≤ more → other_from more last left ≡ Ok tt

end_closed : (acc last : List ℕ) (left end : Left) → Passes left [] end → end.text ≡ [] → last ≡ acc ++ left.text →
    (EndsInHeader acc → ⊥) → (left.text ≡ []) × (no_header last (header_start 0 last) ≡ Ok tt)
end_closed acc last left end passes none whole closed =
    let nothing : left.text ≡ [] = passes.text ∙ none in
    let same : last ≡ acc = whole ∙ ap (λ (t : List ℕ). acc ++ t) nothing ∙ append-nil acc in
    (nothing, closed_reads last last (subst (λ (t : List ℕ). EndsInHeader t → ⊥) (sym same) closed))

end_read : (more : ℕ) (acc last : List ℕ) (left end : Left) → Passes left [] end → end.text ≡ [] → last ≡ acc ++ left.text →
    (EndsInHeader acc → ⊥) → other_from (suc more) last left ≡ Ok tt
end_read more acc last left end passes none whole closed =
    let both = end_closed acc last left end passes none whole closed in
    let nothing = both.0 in
    other_is more last left ∙ rw (none_len left both.0) (ap (λ (t : List ℕ). cond (length t == 0) (no_header last (header_start 0 last))
    (cond (begins_forbidden left.text) (Err (length left.text)) (other_from more last (at_left left (drop 1 left.text))))) both.0
    ∙ both.1)

byte_read : (more : ℕ) → ReadAt more → (b : ℕ) (parts : List Part) (acc last : List ℕ) (left end : Left) →
    AllByRecursion IsQuiet (Byte b ∷ parts) → Passes left (Byte b ∷ parts) end → end.text ≡ [] → last ≡ acc ++ left.text
    → (EndsInHeader (tail_from (acc ++ b ∷ []) parts) → ⊥) → length left.text ≤ suc more → other_from (suc more) last left ≡ Ok tt
byte_read more rec b parts acc last left end quiet passes none whole closed short =
    let cut = split left (bytes (b ∷ [])) parts end passes in
    let text : left.text ≡ b ∷ cut.0.text = pass_bytes left (b ∷ []) cut.0 cut.1 in
    let rest = rec parts (acc ++ b ∷ []) last cut.0 end quiet.1 cut.2 none
    (whole ∙ ap (λ (t : List ℕ). acc ++ t) text ∙ sym (append_assoc acc (b ∷ []) cut.0.text)) closed
    (omega (arith, ap length text, short)) in
    let form : List ℕ → Result (Unit {0}) ℕ = λ t. cond (length t == 0) (no_header last (header_start 0 last))
    (cond (begins_forbidden t) (Err (length t)) (other_from more last (at_left left (drop 1 t)))) in
    other_is more last left ∙ rw (no_len left end b parts quiet.1 passes none)
    (ap form text ∙ rw (some_len (b ∷ cut.0.text) (λ e. cc), quiet_test b quiet.0.0 quiet.0.1 quiet.0.2)
    (ap (λ (l : Left). other_from more last l) (pass_left left (b ∷ []) cut.0 cut.1) ∙ rest))

literal_read : (more : ℕ) → ReadAt more → (digits octets : List ℕ) (parts : List Part) (last : List ℕ) (left end : Left) →
    AllByRecursion IsQuiet parts → Passes left (Literal digits octets ∷ parts) end → end.text ≡ []
    → (EndsInHeader (tail_from [] parts) → ⊥) → length left.text ≤ suc more → other_from (suc more) last left ≡ Ok tt
literal_read more rec digits octets parts last left end quiet passes none closed short =
    let cut = split left (Literal digits octets ∷ []) parts end passes in
    let len = len_is left cut.0 digits octets cut.1 in
    let behind = behind_is left cut.0 digits octets cut.1 in
    let some : nat_lt 0 (literal_len left) ≡ true = ap (nat_lt 0) len ∙ some_literal digits octets in
    let rest = rec parts [] cut.0.text cut.0 end quiet cut.2 none refl closed
    (omega (arith, ap length cut.1.text, length-append (text_of (Literal digits octets ∷ [])) cut.0.text, short)) in
    other_is more last left ∙ rw some (ap (λ (l : Left). other_from more l.text l) behind ∙ rest)

none_there : (left end : Left) (b : ℕ) (text : List ℕ) → left.text ≡ b ∷ text → length left.text ≤ 0 → ⊥
none_there left end b text is short = omega (arith, ap length is, short)

pub reads : (n : ℕ) → ReadAt n
reads zero [] acc last left end quiet passes none whole closed short = other_none last left ∙ (end_closed acc last left end passes none whole closed).1
reads zero (Byte b ∷ parts) acc last left end quiet passes none whole closed short = absurd (none_there left end b _ passes.text short)
reads zero (Literal digits octets ∷ parts) acc last left end quiet passes none whole closed short = absurd (none_there left end 123 _ passes.text short)
reads (suc more) [] acc last left end quiet passes none whole closed short = end_read more acc last left end passes none whole closed
reads (suc more) (Byte b ∷ parts) acc last left end quiet passes none whole closed short =
    byte_read more (reads more) b parts acc last left end quiet passes none whole closed short
reads (suc more) (Literal digits octets ∷ parts) acc last left end quiet passes none whole closed short =
    literal_read more (reads more) digits octets parts last left end quiet.1 passes none closed short

pub other_reads : (left end : Left) (front : List ℕ) (parts : List Part) → AllByRecursion IsQuiet parts → Passes left parts end →
    end.text ≡ [] → (EndInHeader (bytes front ++ parts) → ⊥) → other_at left ≡ Ok tt
other_reads left end front parts quiet passes none closed =
    reads (length left.text) parts [] left.text left end quiet passes none refl (λ ends. closed (header_line front parts ends)) (omega arith)
