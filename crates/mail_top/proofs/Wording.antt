-- What words of a command read as, and that they ask for one thing.
use Rattle.std.proofs.Common.{◌≡◌, ℕ, ◌<◌, ◌^◌, Bool, true, false, List, [], ◌∷◌, map, slice_index, refl, sym, ◌∙◌, ap, subst, arith}
use Rattle.std.proofs.lemmas.Fmt.{decimal_is_IsNumeral}
use Rattle.std.specs.Prelude.{codes, decimal}
use Rattle.std.specs.Str.Parse.{digits_value}
use Rattle.std.specs.Char.{is_ascii_digit}
use Rattle.std.specs.List.{list_all}
use Rattle.std.proofs.lemmas.Bool.{and_parts}
use Rattle.imap_model.proofs.Cutting.{all_digits}
use Rattle.mail_base.specs.Arguments.{WritesBox}
use Rattle.conflict_report.specs.QueueLines.{sign_of}
use Rattle.local_view.specs.declared.seen.Ident.{Ident}
use Rattle.local_view.specs.declared.seen.Ident.TheVariants as ident
use Rattle.mail_top.specs.Words.{Change, Transfer, Addition, Flag, Move, Append, Request, Init, Act, Rows, Queue, Report, Play, Asks}
use Rattle.mail_top.specs.Words.{WritesIdent, WritesInit, WritesFlag, WritesMove, WritesAppend, WritesRows}
use Rattle.mail_top.specs.Names.{name_of}
use Rattle.mail_top.proofs.Naming.{kept_name}

-- the decimal digits of a number are read as no other
pub one_decimal : (m n : ℕ) → m < 2 ^ 32 → n < 2 ^ 32 → decimal m ≡ decimal n → m ≡ n
one_decimal m n small less same =
    sym (decimal_is_IsNumeral m (omega (arith, small))).1 ∙ ap (λ (t : List ℕ). digits_value 10 t) same ∙ (decimal_is_IsNumeral n (omega (arith, less))).1

one_sign : (a b : Bool) → sign_of a ≡ sign_of b → a ≡ b
one_sign true true same = refl
one_sign false false same = refl
one_sign true false same = absurd (omega (arith, same))
one_sign false true same = absurd (omega (arith, same))

-- the first byte of the first word
abbrev first_byte : List (List ℕ) → ℕ
first_byte [] = 0
first_byte (w ∷ ws) = slice_index w 0

-- a text is kept as one name
one_name : (text other name kept : List ℕ) → text ≡ other → name ≡ name_of text → kept ≡ name_of other → name ≡ kept
one_name text other name kept same is also = is ∙ ap name_of same ∙ sym also

one_init : (words names others : List (List ℕ)) → WritesInit words names → WritesInit words others → names ≡ others
one_init words names others a b =
    let same : a.texts ≡ b.texts = cc (a.are, b.are) in
    a.kept ∙ ap (λ (texts : List (List ℕ)). map name_of texts) same ∙ sym b.kept

head_word : (w v : List ℕ) (ws vs : List (List ℕ)) → w ∷ ws ≡ v ∷ vs → w ≡ v
head_word w v ws vs is = cc

later_words : (w v : List ℕ) (ws vs : List (List ℕ)) → w ∷ ws ≡ v ∷ vs → ws ≡ vs
later_words w v ws vs is = cc

tail_bytes : (x y : ℕ) (xs ys : List ℕ) → x ∷ xs ≡ y ∷ ys → xs ≡ ys
tail_bytes x y xs ys is = cc

-- a word writes one mailbox's name
one_box : (word other name kept : List ℕ) → word ≡ other → WritesBox word name → WritesBox other kept → name ≡ kept
one_box word other name kept same a b = one_name word other name kept same (kept_name word name a.kept) (kept_name other kept b.kept)

-- the first of a number's digits is below 58, and so it is no `d`
no_d : (bytes : List ℕ) → list_all is_ascii_digit bytes ≡ true → slice_index bytes 0 ≡ 100 → ⊥
no_d [] all is = absurd (omega (arith, is))
no_d (x ∷ xs) all is =
    let digit : is_ascii_digit x ≡ true = (and_parts (is_ascii_digit x) (list_all is_ascii_digit xs) all).0 in
    let same : is_ascii_digit 100 ≡ true = subst (λ (byte : ℕ). is_ascii_digit byte ≡ true) is digit in
    cc same

digit_first : (n : ℕ) → n < 2 ^ 32 → slice_index (decimal n) 0 ≡ 100 → ⊥
digit_first n fits = no_d (decimal n) (all_digits n (omega (arith, fits)))

-- and one message
one_ident : (word : List ℕ) (a b : Ident) → WritesIdent word a → WritesIdent word b → a ≡ b
one_ident word (ident.Real uid) (ident.Real other) a b = ap ident.Real (one_decimal uid other a.fits b.fits (sym a.is ∙ b.is))
one_ident word (ident.Dummy n) (ident.Dummy m) a b =
    let same : decimal n ≡ decimal m = tail_bytes _ _ _ _ (sym a.is ∙ b.is) in ap ident.Dummy (one_decimal n m a.fits b.fits same)
one_ident word (ident.Real uid) (ident.Dummy n) a b = absurd (digit_first uid a.fits (ap (λ (w : List ℕ). slice_index w 0) (sym a.is ∙ b.is)))
one_ident word (ident.Dummy n) (ident.Real uid) a b = absurd (digit_first uid b.fits (ap (λ (w : List ℕ). slice_index w 0) (sym b.is ∙ a.is)))

-- behind a `d` no number from 1 stands
pub no_dummy : (text rest : List ℕ) → text ≡ 100 ∷ rest → ((n : ℕ) → n < 2 ^ 32 → rest ≡ decimal n → ⊥) → (id : Ident) → WritesIdent text id → ⊥
no_dummy text rest is none (ident.Real uid) w = digit_first uid w.fits (ap (λ (t : List ℕ). slice_index t 0) (sym w.is ∙ is))
no_dummy text rest is none (ident.Dummy n) w = none n w.fits (tail_bytes _ _ _ _ (sym is ∙ w.is))

pub zero_dummy : (text rest : List ℕ) (number : ℕ) → text ≡ 100 ∷ rest → rest ≡ decimal number → number ≡ 0 → (id : Ident) → WritesIdent text id → ⊥
zero_dummy text rest number is written zero (ident.Real uid) w = digit_first uid w.fits (ap (λ (t : List ℕ). slice_index t 0) (sym w.is ∙ is))
zero_dummy text rest number is written zero (ident.Dummy n) w =
    let same = one_decimal n number w.fits (omega (arith, zero)) (sym (tail_bytes _ _ _ _ (sym is ∙ w.is)) ∙ written) in
    omega (arith, same, zero, w.from_one)

-- a 0 is no UID
pub zero_real : (text : List ℕ) (number : ℕ) → text ≡ decimal number → number ≡ 0 → (id : Ident) → WritesIdent text id → ⊥
zero_real text number written zero (ident.Real uid) w =
    let same = one_decimal uid number w.fits (omega (arith, zero)) (sym w.is ∙ written) in omega (arith, same, zero, w.from_one)
zero_real text number written zero (ident.Dummy n) w =
    digit_first number (omega (arith, zero)) (ap (λ (t : List ℕ). slice_index t 0) (sym written ∙ w.is))

one_change : (words : List (List ℕ)) (a b : Change) → WritesFlag words a → WritesFlag words b → a ≡ b
one_change words a b x y =
    let w0 = later_words _ _ _ _ (sym x.are ∙ y.are) in
    let w1 = later_words _ _ _ _ w0 in
    let w2 = later_words _ _ _ _ w1 in
    let name = one_box x.box y.box a.name b.name (head_word _ _ _ _ w0) x.names y.names in
    let id = one_ident x.id a.id b.id x.message (subst (λ (w : List ℕ). WritesIdent w b.id) (sym (head_word _ _ _ _ w1)) y.message) in
    let add = one_sign a.add b.add (ap (λ (w : List ℕ). slice_index w 0) (head_word _ _ _ _ w2)) in
    let flags = later_words _ _ _ _ w2 in
    ap (λ (n : List ℕ). record a { name = n }) name ∙ ap (λ (i : Ident). record a { name = b.name; id = i }) id
    ∙ ap (λ (t : Bool). record a { name = b.name; id = b.id; add = t }) add
    ∙ ap (λ (l : List (List ℕ)). record { name = b.name; id = b.id; add = b.add; flags = l }) flags

one_transfer : (words : List (List ℕ)) (a b : Transfer) → WritesMove words a → WritesMove words b → a ≡ b
one_transfer words a b x y =
    let w0 = later_words _ _ _ _ (sym x.are ∙ y.are) in
    let w1 = later_words _ _ _ _ w0 in
    let w2 = later_words _ _ _ _ w1 in
    let name = one_box x.box y.box a.name b.name (head_word _ _ _ _ w0) x.names y.names in
    let id = one_ident x.id a.id b.id x.message (subst (λ (w : List ℕ). WritesIdent w b.id) (sym (head_word _ _ _ _ w1)) y.message) in
    let to = one_box x.to y.to a.to b.to (head_word _ _ _ _ w2) x.receives y.receives in
    ap (λ (n : List ℕ). record a { name = n }) name ∙ ap (λ (i : Ident). record a { name = b.name; id = i }) id
    ∙ ap (λ (t : List ℕ). record { name = b.name; id = b.id; to = t }) to

one_addition : (words : List (List ℕ)) (a b : Addition) → WritesAppend words a → WritesAppend words b → a ≡ b
one_addition words a b x y =
    let w0 = later_words _ _ _ _ (sym x.are ∙ y.are) in
    let to = one_box x.box y.box a.to b.to (head_word _ _ _ _ w0) x.names y.names in
    let flags = later_words _ _ _ _ w0 in
    ap (λ (n : List ℕ). record a { to = n }) to ∙ ap (λ (l : List (List ℕ)). record { to = b.to; flags = l }) flags

one_rows : (words : List (List ℕ)) (name other : List ℕ) → WritesRows words name → WritesRows words other → name ≡ other
one_rows words name other a b =
    let same = head_word _ _ _ _ (later_words _ _ _ _ (sym a.are ∙ b.are)) in one_box a.box b.box name other same a.names b.names

-- the first byte of each command
abbrev byte_of : Request → ℕ
byte_of (Init names) = 105
byte_of (Act (Flag change)) = 102
byte_of (Act (Move transfer)) = 109
byte_of (Act (Append addition text)) = 97
byte_of (Rows name) = 108
byte_of Queue = 113
byte_of Report = 114
byte_of Play = 112

module _ (words : List (List ℕ)) (input : List ℕ) where
  asked_byte : (request : Request) → Asks words input request → first_byte words ≡ byte_of request
  asked_byte (Init names) asks = ap first_byte asks.are
  asked_byte (Act (Flag change)) asks = ap first_byte asks.are
  asked_byte (Act (Move transfer)) asks = ap first_byte asks.are
  asked_byte (Act (Append addition text)) asks = ap first_byte asks.0.are
  asked_byte (Rows name) asks = ap first_byte asks.are
  asked_byte Queue asks = ap first_byte asks.are
  asked_byte Report asks = ap first_byte asks.are
  asked_byte Play asks = ap first_byte asks.are

  same_byte : (one other : Request) → Asks words input one → Asks words input other → byte_of one ≡ byte_of other
  same_byte one other a b = sym (asked_byte one a) ∙ asked_byte other b

  -- what begins with `append` asks for an append
  append_of : (request : Request) → Asks words input request → first_byte words ≡ 97 → (addition : Addition) × WritesAppend words addition
  append_of (Act (Append addition text)) asks is = (addition, asks.0)
  append_of (Init names) asks is = absurd (omega (arith, asked_byte (Init names) asks, is))
  append_of (Act (Flag change)) asks is = absurd (omega (arith, asked_byte (Act (Flag change)) asks, is))
  append_of (Act (Move transfer)) asks is = absurd (omega (arith, asked_byte (Act (Move transfer)) asks, is))
  append_of (Rows name) asks is = absurd (omega (arith, asked_byte (Rows name) asks, is))
  append_of Queue asks is = absurd (omega (arith, asked_byte Queue asks, is))
  append_of Report asks is = absurd (omega (arith, asked_byte Report asks, is))
  append_of Play asks is = absurd (omega (arith, asked_byte Play asks, is))

  pub no_append : (arguments : List (List ℕ)) → words ≡ codes "append" ∷ arguments →
      ((addition : Addition) → WritesAppend (codes "append" ∷ arguments) addition → ⊥) → (request : Request) → Asks words input request → ⊥
  no_append arguments is none request asks =
      let writes = append_of request asks (ap first_byte is) in none writes.0 (subst (λ (w : List (List ℕ)). WritesAppend w writes.0) is writes.1)

  -- words and an input ask for one thing
  pub one_request : (one other : Request) → Asks words input one → Asks words input other → one ≡ other
  one_request (Init names) (Init others) a b = ap Init (one_init words names others a b)
  one_request (Act (Flag change)) (Act (Flag other)) a b = ap (λ (c : Change). Act (Flag c)) (one_change words change other a b)
  one_request (Act (Move transfer)) (Act (Move other)) a b = ap (λ (t : Transfer). Act (Move t)) (one_transfer words transfer other a b)
  one_request (Act (Append addition text)) (Act (Append other read)) a b =
      ap (λ (t : List ℕ). Act (Append addition t)) (a.1 ∙ sym b.1) ∙ ap (λ (x : Addition). Act (Append x read)) (one_addition words addition other a.0 b.0)
  one_request (Rows name) (Rows other) a b = ap Rows (one_rows words name other a b)
  one_request Queue Queue a b = refl
  one_request Report Report a b = refl
  one_request Play Play a b = refl
  one_request (Init names) (Act (Flag change)) a b = absurd (omega (arith, same_byte (Init names) (Act (Flag change)) a b))
  one_request (Init names) (Act (Move transfer)) a b = absurd (omega (arith, same_byte (Init names) (Act (Move transfer)) a b))
  one_request (Init names) (Act (Append addition text)) a b = absurd (omega (arith, same_byte (Init names) (Act (Append addition text)) a b))
  one_request (Init names) (Rows name) a b = absurd (omega (arith, same_byte (Init names) (Rows name) a b))
  one_request (Init names) Queue a b = absurd (omega (arith, same_byte (Init names) Queue a b))
  one_request (Init names) Report a b = absurd (omega (arith, same_byte (Init names) Report a b))
  one_request (Init names) Play a b = absurd (omega (arith, same_byte (Init names) Play a b))
  one_request (Act (Flag change)) (Init names) a b = absurd (omega (arith, same_byte (Act (Flag change)) (Init names) a b))
  one_request (Act (Flag change)) (Act (Move transfer)) a b = absurd (omega (arith, same_byte (Act (Flag change)) (Act (Move transfer)) a b))
  one_request (Act (Flag change)) (Act (Append addition text)) a b = absurd (omega (arith, same_byte (Act (Flag change)) (Act (Append addition text)) a b))
  one_request (Act (Flag change)) (Rows name) a b = absurd (omega (arith, same_byte (Act (Flag change)) (Rows name) a b))
  one_request (Act (Flag change)) Queue a b = absurd (omega (arith, same_byte (Act (Flag change)) Queue a b))
  one_request (Act (Flag change)) Report a b = absurd (omega (arith, same_byte (Act (Flag change)) Report a b))
  one_request (Act (Flag change)) Play a b = absurd (omega (arith, same_byte (Act (Flag change)) Play a b))
  one_request (Act (Move transfer)) (Init names) a b = absurd (omega (arith, same_byte (Act (Move transfer)) (Init names) a b))
  one_request (Act (Move transfer)) (Act (Flag change)) a b = absurd (omega (arith, same_byte (Act (Move transfer)) (Act (Flag change)) a b))
  one_request (Act (Move transfer)) (Act (Append addition text)) a b = absurd (omega (arith, same_byte (Act (Move transfer)) (Act (Append addition text)) a b))
  one_request (Act (Move transfer)) (Rows name) a b = absurd (omega (arith, same_byte (Act (Move transfer)) (Rows name) a b))
  one_request (Act (Move transfer)) Queue a b = absurd (omega (arith, same_byte (Act (Move transfer)) Queue a b))
  one_request (Act (Move transfer)) Report a b = absurd (omega (arith, same_byte (Act (Move transfer)) Report a b))
  one_request (Act (Move transfer)) Play a b = absurd (omega (arith, same_byte (Act (Move transfer)) Play a b))
  one_request (Act (Append addition text)) (Init names) a b = absurd (omega (arith, same_byte (Act (Append addition text)) (Init names) a b))
  one_request (Act (Append addition text)) (Act (Flag change)) a b = absurd (omega (arith, same_byte (Act (Append addition text)) (Act (Flag change)) a b))
  one_request (Act (Append addition text)) (Act (Move transfer)) a b = absurd (omega (arith, same_byte (Act (Append addition text)) (Act (Move transfer)) a b))
  one_request (Act (Append addition text)) (Rows name) a b = absurd (omega (arith, same_byte (Act (Append addition text)) (Rows name) a b))
  one_request (Act (Append addition text)) Queue a b = absurd (omega (arith, same_byte (Act (Append addition text)) Queue a b))
  one_request (Act (Append addition text)) Report a b = absurd (omega (arith, same_byte (Act (Append addition text)) Report a b))
  one_request (Act (Append addition text)) Play a b = absurd (omega (arith, same_byte (Act (Append addition text)) Play a b))
  one_request (Rows name) (Init names) a b = absurd (omega (arith, same_byte (Rows name) (Init names) a b))
  one_request (Rows name) (Act (Flag change)) a b = absurd (omega (arith, same_byte (Rows name) (Act (Flag change)) a b))
  one_request (Rows name) (Act (Move transfer)) a b = absurd (omega (arith, same_byte (Rows name) (Act (Move transfer)) a b))
  one_request (Rows name) (Act (Append addition text)) a b = absurd (omega (arith, same_byte (Rows name) (Act (Append addition text)) a b))
  one_request (Rows name) Queue a b = absurd (omega (arith, same_byte (Rows name) Queue a b))
  one_request (Rows name) Report a b = absurd (omega (arith, same_byte (Rows name) Report a b))
  one_request (Rows name) Play a b = absurd (omega (arith, same_byte (Rows name) Play a b))
  one_request Queue (Init names) a b = absurd (omega (arith, same_byte Queue (Init names) a b))
  one_request Queue (Act (Flag change)) a b = absurd (omega (arith, same_byte Queue (Act (Flag change)) a b))
  one_request Queue (Act (Move transfer)) a b = absurd (omega (arith, same_byte Queue (Act (Move transfer)) a b))
  one_request Queue (Act (Append addition text)) a b = absurd (omega (arith, same_byte Queue (Act (Append addition text)) a b))
  one_request Queue (Rows name) a b = absurd (omega (arith, same_byte Queue (Rows name) a b))
  one_request Queue Report a b = absurd (omega (arith, same_byte Queue Report a b))
  one_request Queue Play a b = absurd (omega (arith, same_byte Queue Play a b))
  one_request Report (Init names) a b = absurd (omega (arith, same_byte Report (Init names) a b))
  one_request Report (Act (Flag change)) a b = absurd (omega (arith, same_byte Report (Act (Flag change)) a b))
  one_request Report (Act (Move transfer)) a b = absurd (omega (arith, same_byte Report (Act (Move transfer)) a b))
  one_request Report (Act (Append addition text)) a b = absurd (omega (arith, same_byte Report (Act (Append addition text)) a b))
  one_request Report (Rows name) a b = absurd (omega (arith, same_byte Report (Rows name) a b))
  one_request Report Queue a b = absurd (omega (arith, same_byte Report Queue a b))
  one_request Report Play a b = absurd (omega (arith, same_byte Report Play a b))
  one_request Play (Init names) a b = absurd (omega (arith, same_byte Play (Init names) a b))
  one_request Play (Act (Flag change)) a b = absurd (omega (arith, same_byte Play (Act (Flag change)) a b))
  one_request Play (Act (Move transfer)) a b = absurd (omega (arith, same_byte Play (Act (Move transfer)) a b))
  one_request Play (Act (Append addition text)) a b = absurd (omega (arith, same_byte Play (Act (Append addition text)) a b))
  one_request Play (Rows name) a b = absurd (omega (arith, same_byte Play (Rows name) a b))
  one_request Play Queue a b = absurd (omega (arith, same_byte Play Queue a b))
  one_request Play Report a b = absurd (omega (arith, same_byte Play Report a b))
