-- Why a reader that meets what was written reads it, or is out of memory.
use Rattle.std.proofs.Common.{◌≡◌, ℕ, suc, ◌+◌, ◌==◌, nat_le, is_some, unwrap_or, Bool, true, false, cond, not, List, [], ◌∷◌, ◌++◌, Option, Some, None, Result, Ok, Err, IsErr, IsErrAnd, All, length, take, drop, replicate, refl, sym, ap, ap₂, ◌∙◌, append_assoc, append-nil, true≢false, arith}
use Rattle.std.proofs.Math.Seq.{take-append_seam, drop-append_seam}
use Rattle.std.proofs.lemmas.Bool.{and_parts, eqb-true}
use Rattle.std.specs.List.{list_all, position_or_len}
use Rattle.cases.specs.declared.fault.WordFault.{WordFault}
use Rattle.cases.specs.declared.fault.WordFault.TheVariants.{Memory}
use Rattle.cases.specs.declared.words.Word.{Word}
use Rattle.cases.specs.Reading.{IsBare, IsWord, Reads, as_it_stands, begins_quoted, behind, ended, in_quotes, line_of}
use Rattle.cases.specs.Written.{counted, is_bare, is_long_run, quoted}

-- memory is out
pub out : {T : Type 0} (r : Result T WordFault) (P : T → Type 0) → IsErr r → IsErrAnd r (λ fault. fault ≡ Memory) → Reads r P
out (Ok x) P is and = absurd (true≢false (sym is))
out (Err y) P is and = (tt, and)

-- what a call gave is handed on
pub out_by : {T : Type 0} (r : Result T WordFault) (P : T → Type 0) (given : WordFault) → IsErr r → IsErrAnd r (λ fault. fault ≡ given) → given ≡ Memory →
    Reads r P
out_by (Ok x) P given is and memory = absurd (true≢false (sym is))
out_by (Err y) P given is and memory = (tt, and ∙ memory)

-- and something else is so
pub with_more : {T : Type 0} (r : Result T WordFault) (P : T → Type 0) (Q : Type 0) → Reads r P → Q → Reads r (λ x. P x × Q)
with_more (Ok x) P Q both q = ((both.0, q), tt)
with_more (Err y) P Q both q = both

-- nothing but a space ends a word
pub ended_not : (mark : ℕ) (left : Option (List ℕ)) → (32 == mark) ≡ false → behind mark (ended left) ≡ None
ended_not mark None other = refl
ended_not mark (Some rest) other = ap (λ t. cond t (Some rest) None) other

pub ended_none : (left : Option (List ℕ)) → [] ≡ ended left → None ≡ left
ended_none None is = refl
ended_none (Some rest) is = absurd (omega (arith, ap length is))

pub ended_space : (left : Option (List ℕ)) (first : ℕ) (rest : List ℕ) → first ∷ rest ≡ ended left → (first ≡ 32) × (Some rest ≡ left)
ended_space None first rest is = absurd (omega (arith, ap length is))
ended_space (Some more) first rest is = (ap (λ l. head l) is, ap (λ l. Some (drop 1 l)) is)
  where
    head : List ℕ → ℕ
    head [] = 0
    head (x ∷ xs) = x

one_more : (n : ℕ) → 1 + n ≡ suc n
one_more n = omega arith

-- a word ends where its bytes end
pub end_is : (p : ℕ → Bool) (word : List ℕ) (left : Option (List ℕ)) → list_all p word ≡ true → p 32 ≡ false →
    position_or_len (λ byte. not (p byte)) (word ++ ended left) ≡ length word
end_is p [] None all other = refl
end_is p [] (Some rest) all other = ap (λ t. cond (not (not t)) (1 + position_or_len (λ byte. not (p byte)) rest) 0) other
end_is p (b ∷ word) left all other =
    let both = and_parts (p b) (list_all p word) all in
    ap (λ t. cond (not (not t)) (1 + position_or_len (λ byte. not (p byte)) (word ++ ended left)) 0) both.0
    ∙ one_more (position_or_len (λ byte. not (p byte)) (word ++ ended left))
    ∙ ap suc (end_is p word left both.1 other)

pub front_is : (p : ℕ → Bool) (text word front : List ℕ) (left : Option (List ℕ)) (n : ℕ) → list_all p word ≡ true → p 32 ≡ false →
    text ≡ word ++ ended left → n ≡ position_or_len (λ byte. not (p byte)) text → front ≡ take n text → front ≡ word
front_is p text word front left n all other is at e =
    e ∙ ap₂ take (at ∙ ap (position_or_len (λ byte. not (p byte))) is ∙ end_is p word left all other) is ∙ take-append_seam word (ended left)

pub back_is : (p : ℕ → Bool) (text word back : List ℕ) (left : Option (List ℕ)) (n : ℕ) → list_all p word ≡ true → p 32 ≡ false →
    text ≡ word ++ ended left → n ≡ position_or_len (λ byte. not (p byte)) text → back ≡ drop n text → back ≡ ended left
back_is p text word back left n all other is at e =
    e ∙ ap₂ drop (at ∙ ap (position_or_len (λ byte. not (p byte))) is ∙ end_is p word left all other) is ∙ drop-append_seam word (ended left)

-- a run is its first byte, so often
pub run_is : (first : ℕ) (rest : List ℕ) → list_all (λ byte. byte == first) rest ≡ true → replicate (length rest) first ≡ rest
run_is first [] all = refl
run_is first (b ∷ rest) all =
    let both = and_parts (b == first) (list_all (λ byte. byte == first) rest) all in
    ap₂ (λ x xs. x ∷ xs) (sym (eqb-true b first both.0)) (run_is first rest both.1)

-- the first word of a line, and what ends it
abbrev pub left_of : List Word → Option (List ℕ)
left_of [] = None
left_of (word ∷ more) = Some (line_of (word ∷ more))

pub first_word : (word : Word) (more : List Word) → line_of (word ∷ more) ≡ as_it_stands word ++ ended (left_of more)
first_word word [] = sym (append-nil (as_it_stands word))
first_word word (next ∷ more) = refl

-- a quote stands in front where the word stands in quotes
no_quote : (b : ℕ) → not (b == 34) ≡ true → (b == 34) ≡ false
no_quote b = elim (b == 34) as (λ t. not t ≡ true → t ≡ false) [
  | true ↦ λ e. absurd (true≢false (sym e))
  | false ↦ λ e. refl
]

bare_first : (text rest : List ℕ) → IsBare text → begins_quoted (text ++ rest) ≡ false
bare_first [] rest bare = absurd (omega (arith, bare.some))
bare_first (b ∷ text) rest bare =
    let one = (and_parts (is_bare b) (list_all is_bare text) bare.bytes).0 in
    no_quote b (and_parts (nat_le b 126) (not (b == 34)) (and_parts (nat_le 33 b) _ one).1).1

run_begins : (text rest : List ℕ) → begins_quoted (counted text ++ rest) ≡ true
run_begins [] rest = refl
run_begins (b ∷ more) rest = refl

quotes_first : (text rest : List ℕ) → begins_quoted (in_quotes text ++ rest) ≡ true
quotes_first text rest = elim (is_long_run text) as (λ t. begins_quoted (cond t (counted text) (quoted text) ++ rest) ≡ true) [
  | true ↦ run_begins text rest
  | false ↦ refl
]

pub quotes_are : (word : Word) (rest : List ℕ) → IsWord word → begins_quoted (as_it_stands word ++ rest) ≡ not word.is_bare
quotes_are word rest is =
    elim word.is_bare as (λ t. word.is_bare ≡ t → begins_quoted (cond t word.bytes (in_quotes word.bytes) ++ rest) ≡ not t) [
      | true ↦ λ e. bare_first word.bytes rest (is.bare e)
      | false ↦ λ e. quotes_first word.bytes rest
    ] refl

pub quoted_is : (word : Word) (rest : List ℕ) → IsWord word → begins_quoted (as_it_stands word ++ rest) ≡ true →
    as_it_stands word ≡ in_quotes word.bytes
quoted_is word rest is =
    elim word.is_bare as (λ t. word.is_bare ≡ t → begins_quoted (cond t word.bytes (in_quotes word.bytes) ++ rest) ≡ true →
    cond t word.bytes (in_quotes word.bytes) ≡ in_quotes word.bytes) [
      | true ↦ λ e begins. absurd (true≢false (sym begins ∙ bare_first word.bytes rest (is.bare e)))
      | false ↦ λ e begins. refl
    ] refl

pub bare_is : (word : Word) (rest : List ℕ) → IsWord word → begins_quoted (as_it_stands word ++ rest) ≡ false →
    IsBare word.bytes × (as_it_stands word ≡ word.bytes)
bare_is word rest is =
    elim word.is_bare as (λ t. word.is_bare ≡ t → begins_quoted (cond t word.bytes (in_quotes word.bytes) ++ rest) ≡ false →
    IsBare word.bytes × (cond t word.bytes (in_quotes word.bytes) ≡ word.bytes)) [
      | true ↦ λ e begins. (is.bare e, refl)
      | false ↦ λ e begins. absurd (true≢false (sym (quotes_first word.bytes rest) ∙ begins))
    ] refl

-- a word has a byte at least
no_bytes : (text rest : List ℕ) → IsBare text → [] ≡ text ++ rest → ⊥
no_bytes [] rest bare is = absurd (omega (arith, bare.some))
no_bytes (b ∷ text) rest bare is = absurd (omega (arith, ap length is))

pub some_bytes : (word : Word) (rest : List ℕ) → IsWord word → [] ≡ as_it_stands word ++ rest → ⊥
some_bytes word rest is =
    elim word.is_bare as (λ t. word.is_bare ≡ t → [] ≡ cond t word.bytes (in_quotes word.bytes) ++ rest → ⊥) [
      | true ↦ λ e empty. no_bytes word.bytes rest (is.bare e) empty
      | false ↦ λ e empty. true≢false (sym (quotes_first word.bytes rest) ∙ sym (ap begins_quoted empty))
    ] refl

-- a word of these bytes, which stands in quotes or doesn't
not_not : (t : Bool) → not (not t) ≡ t
not_not true = refl
not_not false = refl

abbrev word_of : List ℕ → Bool → Word
word_of bytes bare = record { bytes = bytes; is_bare = bare }

pub word_is : (word made : Word) (text rest : List ℕ) → IsWord word → text ≡ as_it_stands word ++ rest →
    made.bytes ≡ word.bytes → made.is_bare ≡ not (begins_quoted text) → made ≡ word
word_is word made text rest is at bytes bare =
    ap₂ word_of bytes (bare ∙ ap (λ l. not (begins_quoted l)) at ∙ ap not (quotes_are word rest is) ∙ not_not word.is_bare)

-- of a line's words some were read, and these are left
pub record Unread (read all : List Word) (left : Option (List ℕ)) : Type 0 where
  pub todo : List Word
  pub texts : All IsWord todo
  pub same : read ++ todo ≡ all
  pub is : left ≡ left_of todo

pub unread : (line : List ℕ) (first : Word) (more : List Word) → All IsWord (first ∷ more) → line ≡ line_of (first ∷ more) →
    Unread [] (first ∷ more) (Some line)
unread line first more texts is = record { todo = first ∷ more; texts = texts; same = refl; is = ap Some is }

-- the next word
pub record Next (read all : List Word) (text : List ℕ) : Type 0 where
  pub word : Word
  pub more : List Word
  pub one : IsWord word
  pub texts : All IsWord more
  pub same : read ++ word ∷ more ≡ all
  pub is : text ≡ as_it_stands word ++ ended (left_of more)

next_by : (read all : List Word) (text : List ℕ) (todo : List Word) → All IsWord todo → read ++ todo ≡ all → Some text ≡ left_of todo →
    Next read all text
next_by read all text [] texts same is = absurd (true≢false (ap is_some is))
next_by read all text (word ∷ more) texts same is = record {
  word = word;
  more = more;
  one = texts 0 word (omega arith);
  texts = λ k d within. texts (suc k) d (omega (arith, within));
  same = same;
  is = ap (λ o. unwrap_or o []) is ∙ first_word word more;
}

pub next : (read all : List Word) (text : List ℕ) → Unread read all (Some text) → Next read all text
next read all text u = next_by read all text u.todo u.texts u.same u.is

pub after : (read all now : List Word) (text : List ℕ) (left : Option (List ℕ)) (n : Next read all text) → left ≡ left_of n.more →
    now ≡ read ++ n.word ∷ [] → Unread now all left
after read all now text left n is e = record {
  todo = n.more;
  texts = n.texts;
  same = ap (λ l. l ++ n.more) e ∙ append_assoc read (n.word ∷ []) n.more ∙ n.same;
  is = is;
}

all_by : (read all todo : List Word) → read ++ todo ≡ all → None ≡ left_of todo → read ≡ all
all_by read all [] same is = sym (append-nil read) ∙ same
all_by read all (word ∷ more) same is = absurd (true≢false (sym (ap is_some is)))

pub all_read : (read all : List Word) → Unread read all None → read ≡ all
all_read read all u = all_by read all u.todo u.same u.is
