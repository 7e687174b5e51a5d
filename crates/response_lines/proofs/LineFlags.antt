-- Lists of flags as they are written, and what they spell.
use Rattle.std.proofs.Common.{◌≡◌, ℕ, Bool, true, false, cond, List, [], ◌∷◌, ◌++◌, refl, sym, ◌∙◌, ap, subst, arith, map, fold, length}
use Rattle.std.proofs.Common.{append_assoc, inl, inr, ◌⊎◌}
use Rattle.std.proofs.lemmas.Bool.{and_parts}
use Rattle.std.proofs.lemmas.Bool.Decides.{nat_tests}
use Rattle.std.specs.Cmp.Lexicographic.{same_text}
use Rattle.std.specs.Prelude.{◌||◌, ◌==◌, ◌≢◌, not, nat_lt, IsTrue, codes}
use Rattle.std.specs.List.{AllByRecursion, list_all, list_any, join_with_byte, onto_first}
use Rattle.flag_set.specs.Flag.{backslash, is_atom_byte, is_flag, name_of, spelling}
use Rattle.flag_set.specs.FlagKey.{IsKey}
use Rattle.flag_set.specs.FlagList.{begins_with_space, flags_alone, flags_of, is_any, is_space, pieces, set_of, with_flag}
use Rattle.flag_set.specs.FlagSet.{AllKeys, IsFlagSet}
use Rattle.flag_set.specs.FlagText.{list_text}
use Rattle.flag_set.proofs.Keys.{accepted}
use Rattle.flag_set.proofs.Texts.{flags_again, not_true, pieces_word, pieces_words, spelling_accepted, text_again}
use Rattle.imap_model.specs.FlagLists.{IsFlags, ArePermanent}
use Rattle.response_lines.specs.Bracketed.{is_inner_byte}
use Rattle.response_lines.specs.LineTexts.{◌⌢◌, flags_with, flags_text, permanent_text}
use Rattle.response_lines.specs.Tellable.{LacksRecent}
use Rattle.response_lines.proofs.PlainLines.{both_true, all_join, all_weaker}

-- one more word behind others
join_push : (c : ℕ) (x : List ℕ) (xs : List (List ℕ)) (y : List ℕ) → join_with_byte c ((x ∷ xs) ++ y ∷ []) ≡ join_with_byte c (x ∷ xs) ++ (c ∷ y)
join_push c x [] y = refl
join_push c x (z ∷ zs) y = ap (λ t. x ++ (c ∷ t)) (join_push c z zs y) ∙ sym (append_assoc x (c ∷ join_with_byte c (z ∷ zs)) (c ∷ y))

-- words that hold no space
record IsPiece (word : List ℕ) : Type 0 where
  plain : list_all (λ byte. not (is_space byte)) word ≡ true
  some : word ≢ []

begins_word : (word : List ℕ) (words : List (List ℕ)) → IsPiece word → begins_with_space (join_with_byte 32 (word ∷ words)) ≡ false
begins_word [] words w = absurd (w.some refl)
begins_word (b ∷ rest) [] w = let both = and_parts (not (is_space b)) (list_all (λ byte. not (is_space byte)) rest) w.plain in not_true _ both.0
begins_word (b ∷ rest) (z ∷ zs) w = let both = and_parts (not (is_space b)) (list_all (λ byte. not (is_space byte)) rest) w.plain in not_true _ both.0

pieces_join : (word : List ℕ) (words : List (List ℕ)) → IsPiece word → AllByRecursion IsPiece words → pieces (join_with_byte 32 (word ∷ words)) ≡ word ∷ words
pieces_join word [] w all = pieces_word word w.plain
pieces_join word (z ∷ zs) w all = pieces_words word (join_with_byte 32 (z ∷ zs)) w.plain (begins_word z zs all.0)
    ∙ ap (λ l. word ∷ l) (pieces_join z zs all.0 all.1)

flags_join : (words : List (List ℕ)) → AllByRecursion IsPiece words → flags_of (join_with_byte 32 words) ≡ words
flags_join [] all = refl
flags_join ([] ∷ words) all = absurd (all.0.some refl)
flags_join ((b ∷ rest) ∷ []) all = pieces_join (b ∷ rest) [] all.0 all.1
flags_join ((b ∷ rest) ∷ z ∷ zs) all = pieces_join (b ∷ rest) (z ∷ zs) all.0 all.1

-- the bytes of a flag: those of an atom, and a backslash
module _ (p : ℕ → Bool) (each : (b : ℕ) → is_atom_byte b ≡ true → p b ≡ true) (slash : p 92 ≡ true) where
  flag_from : (b : ℕ) (rest : List ℕ) (t : Bool) → (b == backslash) ≡ t → list_all is_atom_byte (cond t rest (b ∷ rest)) ≡ true → list_all p (b ∷ rest) ≡ true
  flag_from b rest true e h =
      let is : b ≡ 92 = grind (arith, nat_tests) in
      both_true (p b) (list_all p rest) (subst (λ (x : ℕ). p x ≡ true) (sym is) slash) (all_weaker is_atom_byte p each rest h)
  flag_from b rest false e h = all_weaker is_atom_byte p each (b ∷ rest) h

  pub flag_all : (text : List ℕ) → is_flag text ≡ true → list_all p text ≡ true
  flag_all [] h = refl
  flag_all (b ∷ rest) h =
      let both = and_parts (nat_lt 0 (length (name_of (b ∷ rest)))) (list_all is_atom_byte (name_of (b ∷ rest))) h in
      flag_from b rest (b == backslash) refl both.1

  pub keys_all : p 32 ≡ true → (keys : List (List ℕ)) → AllKeys IsKey keys → list_all p (list_text keys) ≡ true
  keys_all space [] all = refl
  keys_all space (k ∷ []) all = flag_all (spelling k) (accepted (spelling k) (spelling_accepted k all.0)).1
  keys_all space (k ∷ l ∷ keys) all =
      all_join p (spelling k) (32 ∷ list_text (l ∷ keys)) (flag_all (spelling k) (accepted (spelling k) (spelling_accepted k all.0)).1)
      (both_true (p 32) (list_all p (list_text (l ∷ keys))) space (keys_all space (l ∷ keys) all.1))

  pub with_all : p 32 ≡ true → (keys : List (List ℕ)) (last : List ℕ) → AllKeys IsKey keys → list_all p last ≡ true → list_all p (flags_with keys last) ≡ true
  unfolding ◌⌢◌
  with_all space [] last all h = h
  with_all space (k ∷ keys) last all h =
      all_join p (list_text (k ∷ keys)) (32 ∷ last) (keys_all space (k ∷ keys) all) (both_true (p 32) (list_all p last) space h)

atom_inner : (b : ℕ) → is_atom_byte b ≡ true → is_inner_byte b ≡ true
atom_inner b h = grind (arith, nat_tests)

pub permanent_inner : (keys : List (List ℕ)) (any : Bool) → AllKeys IsKey keys → list_all is_inner_byte (permanent_text keys any) ≡ true
permanent_inner keys true all = with_all is_inner_byte atom_inner refl refl keys (codes "\\*") all refl
permanent_inner keys false all = keys_all is_inner_byte atom_inner refl refl keys all

pub flags_inner : (older : Bool) (keys : List (List ℕ)) → AllKeys IsKey keys → list_all is_inner_byte (flags_text older keys) ≡ true
flags_inner true keys all = with_all is_inner_byte atom_inner refl refl keys (codes "\\Recent") all refl
flags_inner false keys all = keys_all is_inner_byte atom_inner refl refl keys all

-- a flag is a piece
atom_plain : (b : ℕ) → is_atom_byte b ≡ true → not (is_space b) ≡ true
atom_plain b h = grind (arith, nat_tests)

flag_some : (text : List ℕ) → is_flag text ≡ true → text ≢ []
flag_some [] h e = cc
flag_some (b ∷ rest) h e = cc

flag_piece : (text : List ℕ) → is_flag text ≡ true → IsPiece text
flag_piece text h = record { plain = flag_all (λ byte. not (is_space byte)) atom_plain refl text h; some = flag_some text h }

spelt_flag : (key : List ℕ) → IsKey key → is_flag (spelling key) ≡ true
spelt_flag key k = (accepted (spelling key) (spelling_accepted key k)).1

spelt_flags : (keys : List (List ℕ)) → AllKeys IsKey keys → AllByRecursion (λ flag. IsTrue (is_flag flag)) (map spelling keys)
spelt_flags [] all = tt
spelt_flags (k ∷ keys) all = (spelt_flag k all.0, spelt_flags keys all.1)

pieces_with : (keys : List (List ℕ)) (last : List ℕ) → AllKeys IsKey keys → IsPiece last → AllByRecursion IsPiece (map spelling keys ++ last ∷ [])
pieces_with [] last all h = (h, tt)
pieces_with (k ∷ keys) last all h = (flag_piece (spelling k) (spelt_flag k all.0), pieces_with keys last all.1 h)

with_is : (keys : List (List ℕ)) (last : List ℕ) → flags_with keys last ≡ join_with_byte 32 (map spelling keys ++ last ∷ [])
unfolding ◌⌢◌
with_is [] last = refl
with_is (k ∷ keys) last = sym (join_push 32 (spelling k) (map spelling keys) last)

-- the flags of such a list
with_again : (keys : List (List ℕ)) (last : List ℕ) → AllKeys IsKey keys → IsPiece last → flags_of (flags_with keys last) ≡ map spelling keys ++ last ∷ []
with_again keys last all h = ap flags_of (with_is keys last) ∙ flags_join (map spelling keys ++ last ∷ []) (pieces_with keys last all h)

-- one flag more at the end
all_last : (P : List ℕ → Type 0) (flags : List (List ℕ)) (last : List ℕ) → AllByRecursion P flags → P last → AllByRecursion P (flags ++ last ∷ [])
all_last P [] last all h = (h, tt)
all_last P (f ∷ flags) last all h = (all.0, all_last P flags last all.1 h)

fold_last : (keys flags : List (List ℕ)) (last : List ℕ) → fold with_flag keys (flags ++ last ∷ []) ≡ with_flag (fold with_flag keys flags) last
fold_last keys [] last = refl
fold_last keys (f ∷ flags) last = fold_last (with_flag keys f) flags last

set_is : (keys : List (List ℕ)) → IsFlagSet keys → LacksRecent keys → set_of (map spelling keys) ≡ keys
set_is keys set lacks = ap set_of (sym (flags_again keys set.flags)) ∙ text_again keys set ∙ lacks

pub flags_spelled : (older : Bool) (keys : List (List ℕ)) → IsFlagSet keys → LacksRecent keys → IsFlags (flags_text older keys) keys
flags_spelled false keys set lacks = record {
  each = subst (AllByRecursion (λ flag. IsTrue (is_flag flag))) (sym (flags_again keys set.flags)) (spelt_flags keys set.flags);
  set = sym (text_again keys set ∙ lacks);
}
flags_spelled true keys set lacks =
    let again = with_again keys (codes "\\Recent") set.flags (record { plain = refl; some = λ e. cc }) in
    record {
      each = subst (AllByRecursion (λ flag. IsTrue (is_flag flag))) (sym again)
          (all_last (λ flag. IsTrue (is_flag flag)) (map spelling keys) (codes "\\Recent") (spelt_flags keys set.flags) refl);
      set = sym (ap set_of again ∙ fold_last [] (map spelling keys) (codes "\\Recent") ∙ set_is keys set lacks);
    }

-- no flag is `\*`
flag_not_any : (flag : List ℕ) → is_flag flag ≡ true → is_any flag ≡ false
flag_not_any flag h = elim (is_any flag) as (λ t. is_any flag ≡ t → t ≡ false) [
  | true ↦ λ e. let is : flag ≡ codes "\\*" = same_text flag (codes "\\*") (sym e) in
      absurd (let no' : is_flag (codes "\\*") ≡ true = subst (λ (t : List ℕ). is_flag t ≡ true) is h in cc)
  | false ↦ λ e. refl
] refl

alone_one : (flag : List ℕ) (flags : List (List ℕ)) → is_any flag ≡ false → flags_alone (flag ∷ flags) ≡ flag ∷ flags_alone flags
alone_one flag flags h = ap (λ t. cond (not t) (flag ∷ flags_alone flags) (flags_alone flags)) h

alone_is : (flags : List (List ℕ)) → AllByRecursion (λ flag. IsTrue (is_flag flag)) flags → flags_alone flags ≡ flags
alone_is [] all = refl
alone_is (f ∷ flags) all = alone_one f flags (flag_not_any f all.0) ∙ ap (λ l. f ∷ l) (alone_is flags all.1)

alone_with : (flags : List (List ℕ)) → AllByRecursion (λ flag. IsTrue (is_flag flag)) flags → flags_alone (flags ++ codes "\\*" ∷ []) ≡ flags
alone_with [] all = refl
alone_with (f ∷ flags) all = alone_one f (flags ++ codes "\\*" ∷ []) (flag_not_any f all.0) ∙ ap (λ l. f ∷ l) (alone_with flags all.1)

none_any : (flags : List (List ℕ)) → AllByRecursion (λ flag. IsTrue (is_flag flag)) flags → list_any is_any flags ≡ false
none_any [] all = refl
none_any (f ∷ flags) all = ap (λ t. t || list_any is_any flags) (flag_not_any f all.0) ∙ none_any flags all.1

some_any : (flags : List (List ℕ)) → AllByRecursion (λ flag. IsTrue (is_flag flag)) flags → list_any is_any (flags ++ codes "\\*" ∷ []) ≡ true
some_any [] all = refl
some_any (f ∷ flags) all = ap (λ t. t || list_any is_any (flags ++ codes "\\*" ∷ [])) (flag_not_any f all.0) ∙ some_any flags all.1

either_all : (flags : List (List ℕ)) → AllByRecursion (λ flag. IsTrue (is_flag flag)) flags →
    AllByRecursion (λ flag. IsTrue (is_flag flag) ⊎ IsTrue (is_any flag)) flags
either_all [] all = tt
either_all (f ∷ flags) all = (inl all.0, either_all flags all.1)

pub permanent_spelled : (keys : List (List ℕ)) (any : Bool) → IsFlagSet keys → LacksRecent keys → ArePermanent (permanent_text keys any) keys any
permanent_spelled keys false set lacks =
    let again = flags_again keys set.flags in
    let flags = spelt_flags keys set.flags in
    record {
      each = subst (AllByRecursion (λ flag. IsTrue (is_flag flag) ⊎ IsTrue (is_any flag))) (sym again) (either_all (map spelling keys) flags);
      set = sym (ap (λ l. set_of (flags_alone l)) again ∙ ap set_of (alone_is (map spelling keys) flags) ∙ set_is keys set lacks);
      starred = sym (ap (list_any is_any) again ∙ none_any (map spelling keys) flags);
    }
permanent_spelled keys true set lacks =
    let again = with_again keys (codes "\\*") set.flags (record { plain = refl; some = λ e. cc }) in
    let flags = spelt_flags keys set.flags in
    record {
      each = subst (AllByRecursion (λ flag. IsTrue (is_flag flag) ⊎ IsTrue (is_any flag))) (sym again)
          (all_last (λ flag. IsTrue (is_flag flag) ⊎ IsTrue (is_any flag)) (map spelling keys) (codes "\\*") (either_all (map spelling keys) flags) (inr refl));
      set = sym (ap (λ l. set_of (flags_alone l)) again ∙ ap set_of (alone_with (map spelling keys) flags) ∙ set_is keys set lacks);
      starred = sym (ap (list_any is_any) again ∙ some_any (map spelling keys) flags);
    }
