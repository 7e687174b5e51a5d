-- The head of a side, byte by byte.
use Rattle.std.proofs.Common.{◌≡◌, ℕ, zero, suc, ◌-◌, ◌≤◌, ◌<◌, ◌^◌, min, List, [], ◌∷◌, ◌++◌, length, get_or, take, drop}
use Rattle.std.proofs.Common.{refl, sym, ◌∙◌, ap, subst, arith, append_assoc, length-take, take-append-drop}
use Rattle.std.proofs.Common.{get_or-take}
use Rattle.std.specs.Int.{w32, from_be_bytes, to_be_bytes}
use Rattle.std.proofs.lemmas.Nat.{be_bytes_4, from_be_bytes-to_be_bytes_4}
use Rattle.std.proofs.lemmas.List.{drop_more, drop-drop}
use Rattle.journal_core.specs.declared.version.Version.{Version}
use Rattle.journal_core.specs.declared.version.Version.TheVariants.{First, Second}
use Rattle.journal_core.specs.declared.heads.Head.{Head}
use Rattle.journal_core.specs.declared.heads.Head.TheVariants.{Closed, Wrong, SetUp}
use Rattle.journal_core.specs.Sides.{head_of, magic_of, IsSetUp, IsBegun, HasWrongHeader}
use Rattle.journal_core.specs.Heads.{HeadIs}

pub generation_bytes : (v : Version) (g : ℕ) (bytes : List ℕ) → IsSetUp v g bytes → take 4 (drop 9 bytes) ≡ to_be_bytes w32 g
generation_bytes First g bytes s = ap (λ (l : List ℕ). take 4 (drop 9 l)) s.is
generation_bytes Second g bytes s = ap (λ (l : List ℕ). take 4 (drop 9 l)) s.is

module _ (bytes : List ℕ) (long : 14 ≤ length bytes) where
  split : bytes ≡ get_or bytes 0 0 ∷ drop 1 bytes
  split = drop_more bytes 0 0 (omega (arith, long))

  behind_magic : drop 9 bytes ≡ get_or bytes 9 0 ∷ get_or bytes 10 0 ∷ get_or bytes 11 0 ∷ get_or bytes 12 0 ∷ get_or bytes 13 0 ∷ drop 14 bytes
  behind_magic =
      drop_more bytes 9 0 (omega (arith, long))
      ∙ ap (λ (l : List ℕ). get_or bytes 9 0 ∷ l) (drop_more bytes 10 0 (omega (arith, long)))
      ∙ ap (λ (l : List ℕ). get_or bytes 9 0 ∷ get_or bytes 10 0 ∷ l) (drop_more bytes 11 0 (omega (arith, long)))
      ∙ ap (λ (l : List ℕ). get_or bytes 9 0 ∷ get_or bytes 10 0 ∷ get_or bytes 11 0 ∷ l) (drop_more bytes 12 0 (omega (arith, long)))
      ∙ ap (λ (l : List ℕ). get_or bytes 9 0 ∷ get_or bytes 10 0 ∷ get_or bytes 11 0 ∷ get_or bytes 12 0 ∷ l) (drop_more bytes 13 0 (omega (arith, long)))

  four_small : ((i : ℕ) → get_or bytes i 0 < 256) → (i : ℕ) → get_or
      (get_or bytes 9 0 ∷ get_or bytes 10 0 ∷ get_or bytes 11 0 ∷ get_or bytes 12 0 ∷ []) i 0 < 256
  four_small small zero = small 9
  four_small small (suc zero) = small 10
  four_small small (suc (suc zero)) = small 11
  four_small small (suc (suc (suc zero))) = small 12
  four_small small (suc (suc (suc (suc i)))) = omega arith

  -- a generation that is 0
  pub no_generation : get_or bytes 0 0 ≡ 1 → (n : ℕ) → n ≡ from_be_bytes w32
      (get_or bytes 9 0 ∷ get_or bytes 10 0 ∷ get_or bytes 11 0 ∷ get_or bytes 12 0 ∷ []) → n ≡ 0 → HasWrongHeader bytes
  no_generation open_gate n is none = record {
    begun = record { long = long; open_gate = open_gate };
    wrong = λ v g s.
        let told : g ≡ n = sym (from_be_bytes-to_be_bytes_4 g s.number.fits)
        ∙ ap (from_be_bytes w32) (sym (generation_bytes v g bytes s) ∙ ap (take 4) behind_magic) ∙ sym is in
        omega (arith, s.number.some, told, none);
  }

  -- the magic word and a generation behind an open gate
  pub set_up_read : get_or bytes 0 0 ≡ 1 → (v : Version) → take 8 (drop 1 bytes) ≡ magic_of v →
      ((i : ℕ) → get_or bytes i 0 < 256) → (n : ℕ) → n ≡ from_be_bytes w32
      (get_or bytes 9 0 ∷ get_or bytes 10 0 ∷ get_or bytes 11 0 ∷ get_or bytes 12 0 ∷ []) → 0 < n → n < 2 ^ 32 → IsSetUp v n bytes
  set_up_read open_gate v word small n is some fits = record {
    number = record { some = some; fits = fits };
    gate = get_or bytes 13 0;
    rest = drop 14 bytes;
    is = split
        ∙ ap (λ (x : ℕ). x ∷ drop 1 bytes) open_gate
        ∙ ap (λ (l : List ℕ). 1 ∷ l) (sym (take-append-drop 8 (drop 1 bytes)))
        ∙ ap (λ (l : List ℕ). 1 ∷ (l ++ drop 8 (drop 1 bytes))) word
        ∙ ap (λ (l : List ℕ). 1 ∷ (magic_of v ++ l)) (drop-drop 8 1 bytes ∙ behind_magic)
        ∙ ap (λ (l : List ℕ). 1 ∷ (magic_of v ++ (l ++ get_or bytes 13 0 ∷ drop 14 bytes)))
        (sym (be_bytes_4 (get_or bytes 9 0 ∷ get_or bytes 10 0 ∷ get_or bytes 11 0 ∷ get_or bytes 12 0 ∷ []) n refl
        (four_small small) is))
        ∙ ap (λ (l : List ℕ). 1 ∷ l) (sym (append_assoc (magic_of v) (to_be_bytes w32 n) (get_or bytes 13 0 ∷ drop 14 bytes)));
  }

-- the word that a head begins with
word_there : (v : Version) (g : ℕ) (rest : List ℕ) → take 8 (drop 1 (head_of v g ++ rest)) ≡ magic_of v
word_there First g rest = refl
word_there Second g rest = refl

pub word_of : (v : Version) (g : ℕ) (bytes : List ℕ) → IsSetUp v g bytes → take 8 (drop 1 bytes) ≡ magic_of v
word_of v g bytes s = ap (λ (l : List ℕ). take 8 (drop 1 l)) s.is ∙ word_there v g (s.gate ∷ s.rest)

pub no_word : (word : List ℕ) → (word ≡ magic_of First → ⊥) → (word ≡ magic_of Second → ⊥) → (v : Version) → word ≡ magic_of v → ⊥
no_word word first second First = first
no_word word first second Second = second

-- no version has this word
pub wrong_word : (bytes : List ℕ) → 14 ≤ length bytes → get_or bytes 0 0 ≡ 1 → ((v : Version) → take 8 (drop 1 bytes) ≡ magic_of v → ⊥) →
    HasWrongHeader bytes
wrong_word bytes long open_gate none = record {
  begun = record { long = long; open_gate = open_gate };
  wrong = λ v g s. none v (word_of v g bytes s);
}

-- a side that is set up has at least 14 bytes, and they decide
pub set_up_long : (v : Version) (g : ℕ) (bytes : List ℕ) → IsSetUp v g bytes → 14 ≤ length bytes
set_up_long First g bytes s = omega (arith, ap length s.is)
set_up_long Second g bytes s = omega (arith, ap length s.is)

set_up_take : (v : Version) (g : ℕ) (bytes : List ℕ) → IsSetUp v g bytes → IsSetUp v g (take 14 bytes)
set_up_take First g bytes s = record { number = s.number; gate = s.gate; rest = []; is = ap (take 14) s.is }
set_up_take Second g bytes s = record { number = s.number; gate = s.gate; rest = []; is = ap (take 14) s.is }

module _ (n : ℕ) (file : List ℕ) (all : n ≡ min 14 (length file)) where
  is_14 : 14 ≤ length file → n ≡ 14
  is_14 long = omega (arith, all, long)

  begun_short : IsBegun file → IsBegun (take n file)
  begun_short b = record {
    long = omega (arith, all, b.long, length-take n file);
    open_gate = get_or-take n file 0 0 (omega (arith, all, b.long)) ∙ b.open_gate;
  }

  begun_long : IsBegun (take n file) → IsBegun file
  begun_long b = record {
    long = omega (arith, all, b.long, length-take n file);
    open_gate = sym (get_or-take n file 0 0 (omega (arith, all, b.long, length-take n file))) ∙ b.open_gate;
  }

  set_up_short : (v : Version) (g : ℕ) → IsSetUp v g file → IsSetUp v g (take n file)
  set_up_short v g s = subst (λ (k : ℕ). IsSetUp v g (take k file)) (sym (is_14 (set_up_long v g file s))) (set_up_take v g file s)

  pub head_long_is : (head : Head) → HeadIs head (take n file) → HeadIs head file
  head_long_is Closed none = λ b. none (begun_short b)
  head_long_is Wrong w = record { begun = begun_long w.begun; wrong = λ v g s. w.wrong v g (set_up_short v g s) }
  head_long_is (SetUp v g) s = record {
    number = s.number;
    gate = s.gate;
    rest = s.rest ++ drop n file;
    is = sym (take-append-drop n file) ∙ ap (λ (l : List ℕ). l ++ drop n file) s.is ∙ append_assoc (head_of v g) (s.gate ∷ s.rest) (drop n file);
  }

-- what the first bytes say is what the file says
pub read_head_is : (n : ℕ) (file into : List ℕ) → n ≡ min 14 (length file - 0) → (head : Head) → take n into ≡ take n file →
    HeadIs head (take n into) → HeadIs head file
read_head_is n file into all head same is =
    let full : n ≡ min 14 (length file) = omega (arith, all) in
    head_long_is n file full head (subst (HeadIs head) same is)
