-- A front whose last part has another number of octets in its header is the front of a command's text too.
use Rattle.std.proofs.Common.{◌≡◌, ℕ, ◌<◌, ◌^◌, inl, inr, None, Bool, true, false, not, ◌&&◌, ◌==◌, List, [], ◌∷◌, ◌++◌, length, decimal}
use Rattle.std.proofs.Common.{codes, refl, ap, sym, ◌∙◌, subst, append_assoc, arith}
use Rattle.std.specs.Char.{is_ascii_digit}
use Rattle.std.specs.List.{list_all}
use Rattle.std.proofs.lemmas.Bool.{and_parts}
use Rattle.std.proofs.lemmas.Bool.Decides.{nat_tests}
use Rattle.std.proofs.lemmas.Fmt.{decimal_digit}
use Rattle.std.proofs.lemmas.List.{length-append}
use Rattle.mail_base.specs.Frames.{header}
use Rattle.mail_base.specs.declared.tag.Tag.{Tag}
use Rattle.mail_base.specs.declared.tag.Tag.TheVariants.{Play, Again, Count, Strange}
use Rattle.imap_model.specs.CommandParts.{crlf, ◌⌢◌}
use Rattle.imap_model.specs.CommandText.{parts_of}
use Rattle.imap_model.specs.TagText.{IsCommandTag}
use Rattle.imap_model.specs.Held.{IsSent}
use Rattle.imap_model.specs.declared.command.Command.{Command}
use Rattle.mail_base.proofs.SameFront.{length_same}
use Rattle.imap_model.proofs.Cutting.{all_digits}
use Rattle.command_texts.specs.AwaitedParts.{Awaited, Response, User, Password, Id, Message, IsHeldFront, IsFrontOf, front_parts, append_at}
use Rattle.command_texts.specs.Renumbered.{digit_part, IsDigit, Announcing, as_it_is, announced, IsRenumbered}
use Rattle.command_texts.specs.HeardParts.{IsFront, append_of}
use Rattle.command_texts.proofs.FrontFound.{front_found}
use Rattle.command_texts.proofs.FrontIs.{front_is}
use Rattle.command_texts.proofs.Leading.{mark_of, octets_of}
use Rattle.command_texts.proofs.StandIns.{cut_of, little, stand_in, with_octets, own_octets}

snoc_same : (xs ys : List (List ℕ)) (x y : List ℕ) → xs ++ x ∷ [] ≡ ys ++ y ∷ [] → (xs ≡ ys) × (x ≡ y)
snoc_same [] [] x y same = (refl, cc)
snoc_same [] (b ∷ []) x y same = absurd cc
snoc_same [] (b ∷ c ∷ ys) x y same = absurd cc
snoc_same (a ∷ []) [] x y same = absurd cc
snoc_same (a ∷ c ∷ xs) [] x y same = absurd cc
snoc_same (a ∷ xs) (b ∷ ys) x y same =
    let first : a ≡ b = cc in
    let rest : xs ++ x ∷ [] ≡ ys ++ y ∷ [] = cc in
    let both = snoc_same xs ys x y rest in
    let tails : xs ≡ ys = both.0 in
    (cc, both.1)

-- no byte opens a header
abbrev closed : List ℕ → Bool
closed text = list_all (λ byte. not (byte == 123)) text

no_brace : (xs ys : List ℕ) → closed (xs ++ 123 ∷ ys) ≡ true → ⊥
no_brace [] ys all = absurd cc
no_brace (x ∷ xs) ys all = no_brace xs ys (and_parts (not (x == 123)) (closed (xs ++ 123 ∷ ys)) all).1

-- where a header opens last
last_brace : (xs ys s t : List ℕ) → closed s ≡ true → closed t ≡ true → xs ++ 123 ∷ s ≡ ys ++ 123 ∷ t → xs ≡ ys
last_brace [] [] s t all all' same = refl
last_brace [] (y ∷ ys) s t all all' same = let rest : s ≡ ys ++ 123 ∷ t = cc in absurd (no_brace ys t (sym (ap closed rest) ∙ all))
last_brace (x ∷ xs) [] s t all all' same = let rest : xs ++ 123 ∷ s ≡ t = cc in absurd (no_brace xs s (ap closed rest ∙ all'))
last_brace (x ∷ xs) (y ∷ ys) s t all all' same =
    let first : x ≡ y = cc in
    let rest : xs ++ 123 ∷ s ≡ ys ++ 123 ∷ t = cc in
    let tails : xs ≡ ys = last_brace xs ys s t all all' rest in
    cc

not_byte : (b c : ℕ) → (b ≡ c → ⊥) → not (b == c) ≡ true
not_byte b c other = grind (arith, nat_tests)

brace_no_digit : (d : ℕ) → is_ascii_digit d ≡ true → not (d == 123) ≡ true
brace_no_digit d is = not_byte d 123 (λ e. cc (ap is_ascii_digit e))

both_true : (x y : Bool) → x ≡ true → y ≡ true → (x && y) ≡ true
both_true true true h k = refl
both_true true false h k = k
both_true false y h k = h

digits_closed : (ds later : List ℕ) → list_all is_ascii_digit ds ≡ true → closed later ≡ true → closed (ds ++ later) ≡ true
digits_closed [] later all end = end
digits_closed (d ∷ ds) later all end =
    let both = and_parts (is_ascii_digit d) (list_all is_ascii_digit ds) all in
    both_true (not (d == 123)) (closed (ds ++ later)) (brace_no_digit d both.0) (digits_closed ds later both.1 end)

digit_closed : (digit : ℕ) → IsDigit digit → closed (digit ∷ 125 ∷ 13 ∷ 10 ∷ []) ≡ true
digit_closed digit (inl is) = rw is refl
digit_closed digit (inr is) = rw is refl

-- two parts that end with a header begin alike
begun_same : (xs ys : List ℕ) (digit n : ℕ) → IsDigit digit → n < 2 ^ 64 → digit_part xs digit ≡ ys ++ (header (decimal n) ++ crlf) → xs ≡ ys
begun_same xs ys digit n is fits same =
    last_brace xs ys (digit ∷ 125 ∷ 13 ∷ 10 ∷ []) ((decimal n ++ 125 ∷ []) ++ crlf) (digit_closed digit is)
    (ap closed (append_assoc (decimal n) (125 ∷ []) crlf) ∙ digits_closed (decimal n) (125 ∷ 13 ∷ 10 ∷ []) (all_digits n fits) refl) same

five : (xs ys s t : List ℕ) → length s ≡ 5 → length t ≡ 5 → xs ++ s ≡ ys ++ t → length xs ≡ length ys
five xs ys s t long long' same = omega (arith, sym (length-append xs s) ∙ ap length same ∙ length-append ys t, long, long')

-- the end of AUTHENTICATE PLAIN is no header
plain_apart : (g begun : List ℕ) (digit : ℕ) → digit_part begun digit ≡ (g ++ codes " AUTHENTICATE PL") ++ (65 ∷ 73 ∷ 78 ∷ 13 ∷ 10 ∷ []) → ⊥
plain_apart g begun digit same =
    let both = length_same begun (g ++ codes " AUTHENTICATE PL") (123 ∷ digit ∷ 125 ∷ 13 ∷ 10 ∷ []) (65 ∷ 73 ∷ 78 ∷ 13 ∷ 10 ∷ [])
    (five begun (g ++ codes " AUTHENTICATE PL") _ _ refl refl same) same in
    let e : ◌≡◌ {A = ℕ} 123 65 = cc both.1 in
    omega arith

-- a front with the header of another number
module _ (tag : Tag) (awaited : Awaited) (before : List (List ℕ)) (begun : List ℕ) (digit n : ℕ) (is : IsDigit digit)
    (same : front_parts tag awaited ≡ before ++ digit_part begun digit ∷ []) where
  renumbered_from : ((m : ℕ) → mark_of (with_octets m awaited) ≡ header (decimal m) ++ crlf) → octets_of awaited < 2 ^ 64
      → front_parts tag (with_octets n awaited) ≡ before ++ (begun ++ (header (decimal n) ++ crlf)) ∷ []
  renumbered_from marks fits =
      let cut = cut_of tag awaited in
      let k = octets_of awaited in
      let both = snoc_same cut.before before (cut.begun ++ (header (decimal k) ++ crlf)) (digit_part begun digit)
      (ap (λ m. cut.before ++ (cut.begun ++ m) ∷ []) (sym (marks k)) ∙ sym (cut.front k) ∙ ap (front_parts tag) (own_octets awaited) ∙ same) in
      let begins : begun ≡ cut.begun = begun_same begun cut.begun digit k is fits (sym both.1) in
      cut.front n ∙ ap (λ m. cut.before ++ (cut.begun ++ m) ∷ []) (marks n)
      ∙ ap (λ p. p ++ (cut.begun ++ (header (decimal n) ++ crlf)) ∷ []) both.0
      ∙ ap (λ b. before ++ (b ++ (header (decimal n) ++ crlf)) ∷ []) (sym begins)

-- the front of AUTHENTICATE PLAIN is one part
response_part : (tag : Tag) → IsCommandTag tag → (g : List ℕ)
    × (front_parts tag Response ≡ ((g ++ codes " AUTHENTICATE PL") ++ (65 ∷ 73 ∷ 78 ∷ 13 ∷ 10 ∷ [])) ∷ [])
unfolding ◌⌢◌
response_part (Play m) is = (80 ∷ decimal m, ap (λ p. p ∷ []) (sym (append_assoc (80 ∷ decimal m) (codes " AUTHENTICATE PL") (65 ∷ 73 ∷ 78 ∷ 13 ∷ 10 ∷ []))))
response_part (Again m t) is = (
  80 ∷ (decimal m ++ 82 ∷ decimal t),
  ap (λ p. p ∷ []) (sym (append_assoc (80 ∷ (decimal m ++ 82 ∷ decimal t)) (codes " AUTHENTICATE PL") (65 ∷ 73 ∷ 78 ∷ 13 ∷ 10 ∷ []))),
)
response_part (Count m) is = (67 ∷ decimal m, ap (λ p. p ∷ []) (sym (append_assoc (67 ∷ decimal m) (codes " AUTHENTICATE PL") (65 ∷ 73 ∷ 78 ∷ 13 ∷ 10 ∷ []))))
response_part Strange is = absurd is

renumbered : (tag : Tag) (awaited : Awaited) (before : List (List ℕ)) (begun : List ℕ) (digit n : ℕ) → IsCommandTag tag → IsHeldFront awaited → IsDigit digit
    → front_parts tag awaited ≡ before ++ digit_part begun digit ∷ [] →
    front_parts tag (with_octets n awaited) ≡ before ++ (begun ++ (header (decimal n) ++ crlf)) ∷ []
renumbered tag Response before begun digit n tagged held is same =
    let (g, one) = response_part tag tagged in
    absurd (plain_apart g begun digit (snoc_same before [] (digit_part begun digit) _ (sym same ∙ one)).1)
renumbered tag (User m) before begun digit n tagged held is same = renumbered_from tag (User m) before begun digit n is same (λ m. refl) held.fits
renumbered tag (Password user m) before begun digit n tagged held is same =
    renumbered_from tag (Password user m) before begun digit n is same (λ m. refl) held.1.fits
renumbered tag (Id from m) before begun digit n tagged held is same = renumbered_from tag (Id from m) before begun digit n is same (λ m. refl) held.1.fits
renumbered tag (Message to flags m) before begun digit n tagged held is same =
    renumbered_from tag (Message to flags m) before begun digit n is same (λ m. refl) held.2

held_with : (awaited : Awaited) (n : ℕ) → IsHeldFront awaited → n < 2 ^ 64 → (append_at awaited ≡ None → 0 < n) → IsHeldFront (with_octets n awaited)
held_with Response n held fits some = tt
held_with (User m) n held fits some = record { some = some refl; fits = fits }
held_with (Password user m) n held fits some = (held.0, record { some = some refl; fits = fits })
held_with (Id from m) n held fits some = (held.0, record { some = some refl; fits = fits })
held_with (Message to flags m) n held fits some = (held.0, held.1, fits)

append_with : (awaited : Awaited) (n : ℕ) → append_at (with_octets n awaited) ≡ append_at awaited
append_with Response n = refl
append_with (User m) n = refl
append_with (Password user m) n = refl
append_with (Id from m) n = refl
append_with (Message to flags m) n = refl

-- The text of a command has two parts or more. Those before the last one are a front, and so they are with another number of octets
-- in the last one of them: none only where a message is awaited.
module _ (tag : Tag) (command : Command) (before : List (List ℕ)) (part final written : List ℕ) (n : ℕ) (parts : List (List ℕ))
    (sent : IsSent tag command) (fits : n < 2 ^ 64) (some : append_of command ≡ None → 0 < n)
    (text : parts_of tag command ≡ before ++ part ∷ final ∷ []) (is : parts ≡ before ++ written ∷ []) where
  abbrev IsSuch : Type 0
  IsSuch = (other : Command) × IsFront tag other parts × (append_of other ≡ append_of command)

  own_front : IsFront tag command (before ++ part ∷ [])
  own_front = record { sent = sent; next = final; behind = []; text = text ∙ sym (append_assoc before (part ∷ []) (final ∷ [])) }

  some_before : 0 < length (before ++ part ∷ [])
  some_before = omega (arith, length-append before (part ∷ []))

  as_written : written ≡ part → IsSuch
  as_written same = (command, subst (IsFront tag command) (ap (λ p. before ++ p ∷ []) (sym same) ∙ sym is) own_front, refl)

  with_number : (begun : List ℕ) (digit : ℕ) → IsDigit digit → part ≡ digit_part begun digit → written ≡ begun ++ (header (decimal n) ++ crlf) → IsSuch
  with_number begun digit one ends writes =
      let (awaited, front, append) = front_found tag command (before ++ part ∷ []) own_front some_before in
      let such = front_is tag (with_octets n awaited) parts (record {
        tagged = sent.writable.tagged;
        tag_fits = sent.tag_fits;
        held = held_with awaited n front.held fits (λ e. some (sym append ∙ e));
        text = renumbered tag awaited before begun digit n sent.writable.tagged front.held one
            (front.text ∙ ap (λ p. before ++ p ∷ []) ends) ∙ ap (λ p. before ++ p ∷ []) (sym writes) ∙ sym is;
      }) in
      (such.0, such.1, such.2 ∙ append_with awaited n ∙ append)

  pub such_front : Announcing n part written → IsSuch
  such_front (as_it_is none same) = as_written same
  such_front (announced begun digit one ends writes) = with_number begun digit one ends writes

-- what a front renumbered is, of any command that a program sends
pub renumbered_front : (tag : Tag) (command : Command) (n : ℕ) (parts : List (List ℕ)) → IsSent tag command → n < 2 ^ 64 → (append_of command ≡ None → 0 < n)
    → IsRenumbered n (parts_of tag command) parts → (other : Command) × IsFront tag other parts × (append_of other ≡ append_of command)
renumbered_front tag command n parts sent fits some is =
    such_front tag command is.before is.part is.final is.written n parts sent fits some is.whole is.front is.announcing

stand_in_from : (tag : Tag) (awaited : Awaited) (parts : List (List ℕ)) (digit : ℕ) → IsDigit digit → front_parts tag awaited ≡ parts
    → ((m : ℕ) → mark_of (with_octets m awaited) ≡ header (decimal m) ++ crlf) →
    mark_of (with_octets (length (little awaited)) awaited) ≡ 123 ∷ digit ∷ 125 ∷ 13 ∷ 10 ∷ []
    → IsRenumbered (octets_of awaited) (parts_of tag (stand_in awaited)) parts
stand_in_from tag awaited parts digit one is marks little_mark =
    let cut = cut_of tag awaited in
    let k = octets_of awaited in
    record {
      before = cut.before;
      part = digit_part cut.begun digit;
      final = cut.last;
      written = cut.begun ++ (header (decimal k) ++ crlf);
      whole = cut.text ∙ ap (λ m. cut.before ++ (cut.begun ++ m) ∷ cut.last ∷ []) little_mark;
      front = sym is ∙ ap (front_parts tag) (sym (own_octets awaited)) ∙ cut.front k ∙ ap (λ m. cut.before ++ (cut.begun ++ m) ∷ []) (marks k);
      announcing = announced cut.begun digit one refl refl;
    }

response_from : (tag : Tag) (parts : List (List ℕ)) → IsCommandTag tag → front_parts tag Response ≡ parts →
    IsRenumbered 1 (parts_of tag (stand_in Response)) parts
response_from tag parts tagged is =
    let cut = cut_of tag Response in
    let (g, one) = response_part tag tagged in
    record {
      before = cut.before;
      part = cut.begun ++ crlf;
      final = cut.last;
      written = cut.begun ++ crlf;
      whole = cut.text;
      front = sym is ∙ cut.front 0;
      announcing = as_it_is (λ begun digit d same. plain_apart g begun digit
          (sym same ∙ (snoc_same cut.before [] (cut.begun ++ crlf) _ (sym (cut.front 0) ∙ one)).1)) refl;
    }

one_header : header (decimal 1) ++ crlf ≡ 123 ∷ 49 ∷ 125 ∷ 13 ∷ 10 ∷ []
one_header = ap (λ d. header d ++ crlf) (decimal_digit 1 (omega arith))

none_header : header (decimal 0) ++ crlf ≡ 123 ∷ 48 ∷ 125 ∷ 13 ∷ 10 ∷ []
none_header = ap (λ d. header d ++ crlf) (decimal_digit 0 (omega arith))

-- a front is the renumbered front of its stand-in's text
pub stand_in_front : (tag : Tag) (awaited : Awaited) (parts : List (List ℕ)) → IsFrontOf tag awaited parts →
    IsRenumbered (octets_of awaited) (parts_of tag (stand_in awaited)) parts
stand_in_front tag Response parts front = response_from tag parts front.tagged front.text
stand_in_front tag (User m) parts front = stand_in_from tag (User m) parts 49 (inr refl) front.text (λ n. refl) one_header
stand_in_front tag (Password user m) parts front = stand_in_from tag (Password user m) parts 49 (inr refl) front.text (λ n. refl) one_header
stand_in_front tag (Id from m) parts front = stand_in_from tag (Id from m) parts 49 (inr refl) front.text (λ n. refl) one_header
stand_in_front tag (Message to flags m) parts front = stand_in_from tag (Message to flags m) parts 48 (inl refl) front.text (λ n. refl) none_header
