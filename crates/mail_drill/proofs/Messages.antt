-- The message that a command of a drill puts into a mailbox: it stays as it is where line ends are made whole, it is short, it has no byte
-- 0, and it has its Message-ID (RFC 5322, section 3.6.4).
use Rattle.std.proofs.Common.{◌≡◌, ℕ, ◌<◌, ◌≤◌, ◌^◌, Bool, true, false, List, [], ◌∷◌, ◌++◌, length, refl, sym, ◌∙◌, ap, arith}
use Rattle.std.specs.Prelude.{◌==◌, ◌&&◌, All, Some, codes, decimal, nat_lt, reverse}
use Rattle.std.specs.Char.{is_ascii_digit}
use Rattle.std.specs.List.{list_all, list_any, onto_first, position}
use Rattle.std.proofs.lemmas.Bool.{and_left, and_parts, lt-ltb, ne_eqb}
use Rattle.std.proofs.lemmas.Bool.Decides.{nat_tests}
use Rattle.std.proofs.lemmas.Fmt.{length-decimal-le}
use Rattle.std.proofs.lemmas.List.{append_assoc, length-append, reverse-append, reverse-reverse}
use Rattle.std.proofs.lemmas.List.Elements.{All-append, All-cons, All-nil}
use Rattle.std.proofs.lemmas.List.Folds.{list_all-append}
use Rattle.imap_model.proofs.Cutting.{all_digits}
use Rattle.mail_header.specs.BareLf.{crlf_after, crlf_of}
use Rattle.mail_header.specs.Field.{is_colon, parted_at}
use Rattle.mail_header.specs.Folding.{joined, unfolded, whole_lines}
use Rattle.mail_header.specs.Header.{before_empty, is_crlf, lines_of}
use Rattle.mail_header.specs.Identifier.{HasMessageId, IsId, IsIdByte, id_bodies, id_bodies_from, id_body, trimmed, trimmed_front, with_some}
use Rattle.mail_drill.specs.Asked.{identifier}
use Rattle.mail_drill.specs.Texts.{message_text}

-- a byte above CR: it ends no line, and it isn't 0
abbrev pub is_plain : ℕ → Bool
is_plain byte = nat_lt 13 byte

pub above : (byte : ℕ) → is_plain byte ≡ true → 13 < byte
above byte plain = grind (arith, nat_tests)

pub digit_plain : (byte : ℕ) → is_ascii_digit byte ≡ true → is_plain byte ≡ true
digit_plain byte digit = grind (arith, nat_tests)

both_true : (x y : Bool) → x ≡ true → y ≡ true → (x && y) ≡ true
both_true x y p q = rw (p, q) refl

digits_plain : (bytes : List ℕ) → list_all is_ascii_digit bytes ≡ true → list_all is_plain bytes ≡ true
digits_plain [] all = refl
digits_plain (byte ∷ bytes) all =
    let both = and_parts (is_ascii_digit byte) (list_all is_ascii_digit bytes) all in
    both_true (is_plain byte) (list_all is_plain bytes) (digit_plain byte both.0) (digits_plain bytes both.1)

-- a line with its CRLF, and an empty one behind it
abbrev ended : List ℕ → List ℕ
ended line = line ++ 13 ∷ 10 ∷ 13 ∷ 10 ∷ []

-- no LF of it gets another CR
kept_ends : (before : ℕ) (line : List ℕ) → list_all is_plain line ≡ true → crlf_after before (ended line) ≡ ended line
kept_ends before [] plain = refl
kept_ends before (byte ∷ line) plain =
    let both = and_parts (is_plain byte) (list_all is_plain line) plain in
    let other : (byte == 10) ≡ false = ne_eqb byte 10 (λ is. omega (arith, above byte both.0, is)) in
    rw other (ap (λ bytes. byte ∷ bytes) (kept_ends byte line both.1))

-- it has no byte 0
zero_free : (line : List ℕ) → list_all is_plain line ≡ true → list_any (λ byte. byte == 0) (ended line) ≡ false
zero_free [] plain = refl
zero_free (byte ∷ line) plain =
    let both = and_parts (is_plain byte) (list_all is_plain line) plain in
    let other : (byte == 0) ≡ false = ne_eqb byte 0 (λ is. omega (arith, above byte both.0, is)) in
    rw other (zero_free line both.1)

-- a plain byte begins no CRLF
goes_on : (byte next : ℕ) (rest : List ℕ) → is_plain byte ≡ true → lines_of (byte ∷ next ∷ rest) ≡ onto_first byte (lines_of (next ∷ rest))
goes_on byte next rest plain =
    let other : is_crlf byte next ≡ false = and_left (byte == 13) (next == 10) (ne_eqb byte 13 (λ is. omega (arith, above byte plain, is))) in
    rw other refl

-- its lines are the line and two empty ones
lines_ended : (line : List ℕ) → list_all is_plain line ≡ true → lines_of (ended line) ≡ line ∷ [] ∷ [] ∷ []
lines_ended [] plain = refl
lines_ended (byte ∷ []) plain = goes_on byte 13 (10 ∷ 13 ∷ 10 ∷ []) (and_parts (is_plain byte) true plain).0
lines_ended (byte ∷ next ∷ line) plain =
    let both = and_parts (is_plain byte) (list_all is_plain (next ∷ line)) plain in
    goes_on byte next (ended line) both.0 ∙ ap (onto_first byte) (lines_ended (next ∷ line) both.1)

-- a line alone is one
one_line : (line : List ℕ) → list_all is_plain line ≡ true → lines_of line ≡ line ∷ []
one_line [] plain = refl
one_line (byte ∷ []) plain = refl
one_line (byte ∷ next ∷ line) plain =
    let both = and_parts (is_plain byte) (list_all is_plain (next ∷ line)) plain in
    goes_on byte next line both.0 ∙ ap (onto_first byte) (one_line (next ∷ line) both.1)

-- a digit may stand in an identifier
id_digit : (byte : ℕ) → is_ascii_digit byte ≡ true → IsIdByte byte
id_digit byte digit = record {
  low = grind (arith, nat_tests);
  high = grind (arith, nat_tests);
  left = grind (arith, nat_tests);
  right = grind (arith, nat_tests);
}

id_digits : (bytes : List ℕ) → list_all is_ascii_digit bytes ≡ true → All IsIdByte bytes
id_digits [] all = All-nil IsIdByte
id_digits (byte ∷ bytes) all =
    let both = and_parts (is_ascii_digit byte) (list_all is_ascii_digit bytes) all in
    All-cons IsIdByte byte bytes (id_digit byte both.0) (id_digits bytes both.1)

-- so may these three
id_letter : IsIdByte 97
id_letter = record { low = omega arith; high = omega arith; left = λ is. omega (arith, is); right = λ is. omega (arith, is) }

id_sign : IsIdByte 64
id_sign = record { low = omega arith; high = omega arith; left = λ is. omega (arith, is); right = λ is. omega (arith, is) }

id_end : IsIdByte 100
id_end = record { low = omega arith; high = omega arith; left = λ is. omega (arith, is); right = λ is. omega (arith, is) }

module _ (n : ℕ) (fits : n < 2 ^ 32) where
  digits : list_all is_ascii_digit (decimal n) ≡ true
  digits = all_digits n (omega (arith, fits))

  few_digits : length (decimal n) ≤ 10
  few_digits = length-decimal-le 10 n (omega arith) (omega (arith, fits)) (omega (arith, fits))

  -- the one line of its header
  abbrev line : List ℕ
  line = codes "Message-ID: <a" ++ decimal n ++ codes "@d>"

  tail_plain : list_all is_plain (decimal n ++ codes "@d>") ≡ true
  tail_plain =
      list_all-append is_plain (decimal n) (codes "@d>")
      ∙ both_true (list_all is_plain (decimal n)) true (digits_plain (decimal n) digits) refl

  line_plain : list_all is_plain line ≡ true
  line_plain = tail_plain

  text_ended : message_text 97 n ≡ ended line
  unfolding message_text
  text_ended = ap (λ rest. codes "Message-ID: <a" ++ rest) (sym (append_assoc (decimal n) (codes "@d>") (codes "\r\n\r\n")))

  -- the message stays as it is, where each LF gets a CR before it
  pub message_kept : crlf_of (message_text 97 n) ≡ message_text 97 n
  message_kept = ap crlf_of text_ended ∙ kept_ends 0 line line_plain ∙ sym text_ended

  -- it is short
  pub message_short : length (crlf_of (message_text 97 n)) ≤ 64
  message_short =
      omega (
        arith,
        few_digits,
        ap length (message_kept ∙ text_ended),
        length-append (codes "Message-ID: <a" ++ decimal n ++ codes "@d>") (codes "\r\n\r\n"),
        length-append (codes "Message-ID: <a" ++ decimal n) (codes "@d>"),
        length-append (codes "Message-ID: <a") (decimal n),
      )

  -- it has no byte 0
  pub message_clean : list_any (λ byte. byte == 0) (crlf_of (message_text 97 n)) ≡ false
  message_clean = ap (list_any (λ byte. byte == 0)) (message_kept ∙ text_ended) ∙ zero_free line line_plain

  colon : position is_colon line ≡ Some 10
  colon = rw (lt-ltb 10 (length line) (omega arith)) refl

  one_body : id_bodies (ended line) ≡ record { at = 0; body = 32 ∷ identifier n } ∷ []
  one_body =
      ap (λ lines. id_bodies_from 0 (whole_lines (before_empty lines))) (lines_ended line line_plain)
      ∙ ap (λ at. with_some (id_body 0 (parted_at line at)) []) colon

  body_unfolded : unfolded (32 ∷ identifier n) ≡ 32 ∷ identifier n
  body_unfolded = ap joined (one_line (32 ∷ identifier n) tail_plain)

  body_trimmed : trimmed (32 ∷ identifier n) ≡ identifier n
  body_trimmed =
      let back = reverse-append (codes "<a" ++ decimal n) (codes "@d>") in
      ap (λ bytes. reverse (trimmed_front bytes)) back ∙ ap reverse (sym back) ∙ reverse-reverse (identifier n)

  is_id : IsId (identifier n)
  is_id = record {
    inside = 97 ∷ (decimal n ++ codes "@d");
    some = omega arith;
    bytes =
        All-cons IsIdByte 97 (decimal n ++ codes "@d") id_letter
        (All-append IsIdByte (decimal n) (codes "@d") (id_digits (decimal n) digits)
        (All-cons IsIdByte 64 (100 ∷ []) id_sign (All-cons IsIdByte 100 [] id_end (All-nil IsIdByte))));
    whole = ap (λ rest. 60 ∷ 97 ∷ rest) (sym (append_assoc (decimal n) (codes "@d") (codes ">")));
  }

  -- and it has this Message-ID
  pub message_id : HasMessageId (crlf_of (message_text 97 n)) (identifier n)
  message_id = record {
    body = 32 ∷ identifier n;
    one = (0, ap id_bodies (message_kept ∙ text_ended) ∙ one_body);
    value = sym (ap trimmed body_unfolded ∙ body_trimmed);
    few = omega (arith, few_digits, length-append (codes "<a" ++ decimal n) (codes "@d>"), length-append (codes "<a") (decimal n));
    form = is_id;
  }
