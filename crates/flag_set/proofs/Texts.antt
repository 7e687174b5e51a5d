-- The text of a set, and what is read of it again.
use Rattle.std.proofs.Common.{◌≡◌, ℕ, ◌+◌, ◌≤◌, ◌<◌, Bool, true, false, cond, not, ◌&&◌, ◌||◌, nat_lt, List, [], ◌∷◌, ◌++◌, length, take}
use Rattle.std.proofs.Common.{get_or, fold, map, Some, None, unwrap_or, add-one, append_assoc, refl, sym, ap, ◌∙◌, subst, arith}
use Rattle.std.proofs.Common.{length-append}
use Rattle.std.proofs.Math.Seq.{take-suc}
use Rattle.std.proofs.lemmas.Bool.{and_parts, le-ltb}
use Rattle.std.proofs.lemmas.Bool.Decides.{nat_tests}
use Rattle.std.proofs.lemmas.List.{append-nil, length-take, map-append}
use Rattle.std.specs.Cmp.Lexicographic.{same_text}
use Rattle.std.specs.Prelude.{◌==◌}
use Rattle.std.specs.List.{find, join_with_byte, list_all, onto_first}
use Rattle.std.specs.Option.{option_or}
use Rattle.std.specs.Str.{bytes_eq, str_eq_ignore_ascii_case}
use Rattle.std.specs.declared.cmp.Ordering.TheVariants.{Less}
use Rattle.flag_set.specs.declared.flag_fault.TheConstants.{MAX_FLAG, MAX_FLAGS}
use Rattle.flag_set.specs.declared.flag_fault.FlagFault.TheVariants.{BadFlag, TooLong, TooMany}
use Rattle.flag_set.specs.Flag.{backslash, is_atom_byte, is_flag, misfit, name_of, refusal, spelling, system_flags}
use Rattle.flag_set.specs.FlagKey.{IsKey, key_of, recent}
use Rattle.flag_set.specs.FlagList.{HasNoFault, begins_with_space, excess, flags_of, is_space, keep, pieces, set_of, with_flag}
use Rattle.flag_set.specs.FlagSet.{AllKeys, IsFlagSet, IsRising, minus, order, put}
use Rattle.flag_set.specs.FlagText.{list_text}
use Rattle.flag_set.proofs.Faults.{no_fault}
use Rattle.flag_set.specs.FlagList.{fault_behind, next_fault}
use Rattle.flag_set.proofs.Keys.{accepted}
use Rattle.flag_set.proofs.Order.{put_behind}

-- one more flag behind others
join_push : (c : ℕ) (x : List ℕ) (xs : List (List ℕ)) (y : List ℕ) → join_with_byte c ((x ∷ xs) ++ y ∷ []) ≡ join_with_byte c (x ∷ xs) ++ (c ∷ y)
join_push c x [] y = refl
join_push c x (z ∷ zs) y = ap (λ t. x ++ (c ∷ t)) (join_push c z zs y) ∙ sym (append_assoc x (c ∷ join_with_byte c (z ∷ zs)) (c ∷ y))

pub text_first : (keys : List (List ℕ)) (key : List ℕ) → 0 < length keys → key ≡ get_or keys 0 key → list_text (take (0 + 1) keys) ≡ spelling key
text_first [] key h e = absurd (omega arith)
text_first (x ∷ xs) key h e = ap spelling (sym e)

text_push : (keys : List (List ℕ)) (key : List ℕ) → 0 < length keys → list_text (keys ++ key ∷ []) ≡ list_text keys ++ (32 ∷ spelling key)
text_push [] key h = absurd (omega arith)
text_push (x ∷ xs) key h = ap (join_with_byte 32) (map-append spelling (x ∷ xs) (key ∷ [])) ∙ join_push 32 (spelling x) (map spelling xs) (spelling key)

pub text_more : (keys : List (List ℕ)) (key : List ℕ) (at : ℕ) → 0 < at → at < length keys → key ≡ get_or keys at key →
    list_text (take (at + 1) keys) ≡ list_text (take at keys) ++ (32 ∷ spelling key)
text_more keys key at h lt e =
    ap list_text (ap (λ n. take n keys) (add-one at) ∙ take-suc keys at key lt ∙ ap (λ k. take at keys ++ k ∷ []) (sym e))
    ∙ text_push (take at keys) key (simp length-take (omega arith))

-- words that hold no space
record IsWord (word : List ℕ) : Type 0 where
  plain : list_all (λ byte. not (is_space byte)) word ≡ true
  some : 0 < length word

pub not_true : (b : Bool) → not b ≡ true → b ≡ false
not_true true h = cc
not_true false h = refl

onto_word : (b : ℕ) (rest : List ℕ) → not (is_space b) ≡ true → pieces (b ∷ rest) ≡ onto_first b (pieces rest)
onto_word b rest h = ap (λ t. cond t (cond (begins_with_space rest) (pieces rest) ([] ∷ pieces rest)) (onto_first b (pieces rest))) (not_true _ h)

pub pieces_word : (word : List ℕ) → list_all (λ byte. not (is_space byte)) word ≡ true → pieces word ≡ word ∷ []
pieces_word [] h = refl
pieces_word (b ∷ rest) h =
    let both = and_parts (not (is_space b)) (list_all (λ byte. not (is_space byte)) rest) h in
    onto_word b rest both.0 ∙ ap (onto_first b) (pieces_word rest both.1)

pub pieces_words : (word rest : List ℕ) → list_all (λ byte. not (is_space byte)) word ≡ true → begins_with_space rest ≡ false →
    pieces (word ++ (32 ∷ rest)) ≡ word ∷ pieces rest
pieces_words [] rest h e = ap (λ t. cond t (pieces rest) ([] ∷ pieces rest)) e
pieces_words (b ∷ more) rest h e =
    let both = and_parts (not (is_space b)) (list_all (λ byte. not (is_space byte)) more) h in
    onto_word b (more ++ (32 ∷ rest)) both.0 ∙ ap (onto_first b) (pieces_words more rest both.1 e)

begins_word : (word : List ℕ) (words : List (List ℕ)) → IsWord word → begins_with_space (join_with_byte 32 (word ∷ words)) ≡ false
begins_word [] words w = absurd (let h = w.some in omega arith)
begins_word (b ∷ rest) [] w = let both = and_parts (not (is_space b)) (list_all (λ byte. not (is_space byte)) rest) w.plain in not_true _ both.0
begins_word (b ∷ rest) (z ∷ zs) w = let both = and_parts (not (is_space b)) (list_all (λ byte. not (is_space byte)) rest) w.plain in not_true _ both.0

pieces_join : (word : List ℕ) (words : List (List ℕ)) → IsWord word → AllKeys IsWord words → pieces (join_with_byte 32 (word ∷ words)) ≡ word ∷ words
pieces_join word [] w all = pieces_word word w.plain
pieces_join word (z ∷ zs) w all = pieces_words word (join_with_byte 32 (z ∷ zs)) w.plain (begins_word z zs all.0)
    ∙ ap (λ l. word ∷ l) (pieces_join z zs all.0 all.1)

flags_join : (words : List (List ℕ)) → AllKeys IsWord words → flags_of (join_with_byte 32 words) ≡ words
flags_join [] all = refl
flags_join ([] ∷ words) all = absurd (let h = all.0.some in omega arith)
flags_join ((b ∷ rest) ∷ []) all = pieces_join (b ∷ rest) [] all.0 all.1
flags_join ((b ∷ rest) ∷ z ∷ zs) all = pieces_join (b ∷ rest) (z ∷ zs) all.0 all.1

-- what is accepted as a flag is a word
atom_plain : (b : ℕ) → is_atom_byte b ≡ true → not (is_space b) ≡ true
atom_plain b h = grind (arith, nat_tests)

backslash_plain : (b : ℕ) → (b == backslash) ≡ true → not (is_space b) ≡ true
backslash_plain b h = grind (arith, nat_tests)

name_plain : (name : List ℕ) → list_all is_atom_byte name ≡ true → list_all (λ byte. not (is_space byte)) name ≡ true
name_plain [] h = refl
name_plain (b ∷ rest) h =
    let both = and_parts (is_atom_byte b) (list_all is_atom_byte rest) h in
    ap (λ t. t && list_all (λ byte. not (is_space byte)) rest) (atom_plain b both.0) ∙ name_plain rest both.1

flag_plain : (b : ℕ) (rest : List ℕ) (t : Bool) → (b == backslash) ≡ t → list_all is_atom_byte (cond t rest (b ∷ rest)) ≡ true →
    list_all (λ byte. not (is_space byte)) (b ∷ rest) ≡ true
flag_plain b rest true e h = ap (λ t. t && list_all (λ byte. not (is_space byte)) rest) (backslash_plain b e) ∙ name_plain rest h
flag_plain b rest false e h = name_plain (b ∷ rest) h

flag_is_word : (text : List ℕ) → is_flag text ≡ true → IsWord text
flag_is_word [] h = cc
flag_is_word (b ∷ rest) h =
    let both = and_parts (nat_lt 0 (length (name_of (b ∷ rest)))) (list_all is_atom_byte (name_of (b ∷ rest))) h in
    record { plain = flag_plain b rest (b == backslash) refl both.1; some = omega arith }

-- keys as they are written
spelling_accepted_from : (key : List ℕ) (names : List (List ℕ)) → refusal key ≡ None → AllKeys (λ name. refusal name ≡ None) names →
    refusal (unwrap_or (find (λ flag. str_eq_ignore_ascii_case flag key) names) key) ≡ None
spelling_accepted_from key [] h all = h
spelling_accepted_from key (x ∷ xs) h all =
    elim (str_eq_ignore_ascii_case x key) as (λ t. refusal (unwrap_or (cond t (Some x) (find (λ flag. str_eq_ignore_ascii_case flag key) xs)) key) ≡ None) [
      | true ↦ all.0
      | false ↦ spelling_accepted_from key xs h all.1
    ]

spelling_key_from : (key : List ℕ) (names : List (List ℕ)) → key_of key ≡ key →
    key_of (unwrap_or (find (λ flag. str_eq_ignore_ascii_case flag key) names) key) ≡ key
spelling_key_from key [] h = h
spelling_key_from key (x ∷ xs) h =
    elim (str_eq_ignore_ascii_case x key) as (λ t. str_eq_ignore_ascii_case x key ≡ t →
    key_of (unwrap_or (cond t (Some x) (find (λ flag. str_eq_ignore_ascii_case flag key) xs)) key) ≡ key) [
      | true ↦ λ e. same_text (key_of x) (key_of key) (sym e) ∙ h
      | false ↦ λ e. spelling_key_from key xs h
    ] refl

key_accepted : (key : List ℕ) → IsKey key → refusal key ≡ None
key_accepted key k =
    ap (λ t. cond t (Some (TooLong (length key))) (cond (is_flag key) None (Some (BadFlag (misfit key))))) (le-ltb MAX_FLAG (length key) k.short)
    ∙ ap (λ t. cond t None (Some (BadFlag (misfit key)))) k.flag

pub spelling_accepted : (key : List ℕ) → IsKey key → refusal (spelling key) ≡ None
spelling_accepted key k = spelling_accepted_from key system_flags (key_accepted key k) (refl, (refl, (refl, (refl, (refl, tt)))))

pub spelling_key : (key : List ℕ) → IsKey key → key_of (spelling key) ≡ key
spelling_key key k = spelling_key_from key system_flags k.lower

spelled_words : (keys : List (List ℕ)) → AllKeys IsKey keys → AllKeys IsWord (map spelling keys)
spelled_words [] all = tt
spelled_words (key ∷ rest) all = (flag_is_word (spelling key) (accepted (spelling key) (spelling_accepted key all.0)).1, spelled_words rest all.1)

pub flags_again : (keys : List (List ℕ)) → AllKeys IsKey keys → flags_of (list_text keys) ≡ map spelling keys
flags_again keys all = flags_join (map spelling keys) (spelled_words keys all)

-- lists that rise, around a key
rising_front : (k : List ℕ) (x : List ℕ) (done rest : List (List ℕ)) → AllKeys (λ later. order x later ≡ Less) (done ++ k ∷ rest) → order x k ≡ Less
rising_front k x [] rest all = all.0
rising_front k x (y ∷ ys) rest all = rising_front k x ys rest all.1

all_skip : (P : List ℕ → Type 0) (done : List (List ℕ)) (k : List ℕ) (rest : List (List ℕ)) → AllKeys P (done ++ k ∷ rest) → AllKeys P (done ++ rest)
all_skip P [] k rest all = all.1
all_skip P (x ∷ xs) k rest all = (all.0, all_skip P xs k rest all.1)

rising_skip : (done : List (List ℕ)) (k : List ℕ) (rest : List (List ℕ)) → IsRising (done ++ k ∷ rest) → IsRising (done ++ rest)
rising_skip [] k rest up = up.1
rising_skip (x ∷ xs) k rest up = (all_skip (λ later. order x later ≡ Less) xs k rest up.0, rising_skip xs k rest up.1)

put_last : (k : List ℕ) (done rest : List (List ℕ)) → IsRising (done ++ k ∷ rest) → put k done ≡ done ++ k ∷ []
put_last k [] rest up = refl
put_last k (x ∷ xs) rest up = put_behind k x xs (rising_front k x xs rest up.0) ∙ ap (λ l. x ∷ l) (put_last k xs rest up.1)

or_nothing : (b : Bool) → (b || false) ≡ b
or_nothing true = refl
or_nothing false = refl

-- the keys that a list keeps
abbrev kept : List (List ℕ) → List (List ℕ)
kept keys = minus keys (recent ∷ [])

kept_recent : (k : List ℕ) (rest : List (List ℕ)) (t : Bool) → bytes_eq k recent ≡ t → kept (k ∷ rest) ≡ cond t (kept rest) (k ∷ kept rest)
kept_recent k rest true e = ap (λ b. cond (not (b || false)) (k ∷ kept rest) (kept rest)) e
kept_recent k rest false e = ap (λ b. cond (not (b || false)) (k ∷ kept rest) (kept rest)) e

next_keys : (done : List (List ℕ)) (k : List ℕ) → IsKey k → with_flag done (spelling k) ≡ keep k done
next_keys done k key = ap (λ x. keep x done) (spelling_key k key)

-- behind keys that are lower, the rest is read as it is kept
read_behind : (done keys : List (List ℕ)) → IsRising (done ++ keys) → AllKeys IsKey keys → fold with_flag done (map spelling keys) ≡ done ++ kept keys
read_behind done [] up all = sym (append-nil done)
read_behind done (k ∷ rest) up all =
    ap (λ d. fold with_flag d (map spelling rest)) (next_keys done k all.0)
    ∙ elim (bytes_eq k recent) as (λ t. bytes_eq k recent ≡ t → fold with_flag (cond t done (put k done)) (map spelling rest) ≡ done ++ kept (k ∷ rest)) [
      | true ↦ λ e. read_behind done rest (rising_skip done k rest up) all.1 ∙ ap (λ l. done ++ l) (sym (kept_recent k rest true e))
      | false ↦ λ e.
          ap (λ d. fold with_flag d (map spelling rest)) (put_last k done rest up)
          ∙ read_behind (done ++ k ∷ []) rest (subst IsRising (sym (append_assoc done (k ∷ []) rest)) up) all.1
          ∙ append_assoc done (k ∷ []) (kept rest)
          ∙ ap (λ l. done ++ l) (sym (kept_recent k rest false e))
    ] refl

no_excess : (keys : List (List ℕ)) → length keys ≤ MAX_FLAGS → excess keys ≡ None
no_excess keys h = ap (λ t. cond t (Some (TooMany (MAX_FLAGS + 1))) None) (le-ltb MAX_FLAGS (length keys) h)

no_next : (done : List (List ℕ)) (k : List ℕ) (d : List (List ℕ)) → IsKey k → keep k done ≡ d → length d ≤ MAX_FLAGS → next_fault done (spelling k) ≡ None
no_next done k d key e h =
    ap (λ o. option_or o (excess (with_flag done (spelling k)))) (spelling_accepted k key)
    ∙ ap excess (next_keys done k key ∙ e)
    ∙ no_excess d h

no_fault_read : (done keys : List (List ℕ)) → IsRising (done ++ keys) → AllKeys IsKey keys → length done + length keys ≤ MAX_FLAGS →
    fault_behind done (map spelling keys) ≡ None
no_fault_read done [] up all short = refl
no_fault_read done (k ∷ rest) up all short =
    elim (bytes_eq k recent) as (λ t. bytes_eq k recent ≡ t → fault_behind done (map spelling (k ∷ rest)) ≡ None) [
      | true ↦ λ e.
          let same : keep k done ≡ done = ap (λ t. cond t done (put k done)) e in
          ap (λ o. option_or o (fault_behind (with_flag done (spelling k)) (map spelling rest))) (no_next done k done all.0 same (omega arith))
          ∙ ap (λ d. fault_behind d (map spelling rest)) (next_keys done k all.0 ∙ same)
          ∙ no_fault_read done rest (rising_skip done k rest up) all.1 (omega arith)
      | false ↦ λ e.
          let more : keep k done ≡ done ++ k ∷ [] = ap (λ t. cond t done (put k done)) e ∙ put_last k done rest up in
          let long : length (done ++ k ∷ []) ≡ length done + 1 = length-append done (k ∷ []) in
          ap (λ o. option_or o (fault_behind (with_flag done (spelling k)) (map spelling rest))) (no_next done k (done ++ k ∷ []) all.0 more (omega arith))
          ∙ ap (λ d. fault_behind d (map spelling rest)) (next_keys done k all.0 ∙ more)
          ∙ no_fault_read (done ++ k ∷ []) rest (subst IsRising (sym (append_assoc done (k ∷ []) rest)) up) all.1 (omega arith)
    ] refl

-- the text of a set is read as the set again
pub text_again : (keys : List (List ℕ)) → IsFlagSet keys → set_of (flags_of (list_text keys)) ≡ minus keys (recent ∷ [])
text_again keys set = ap set_of (flags_again keys set.flags) ∙ read_behind [] keys set.rising set.flags

pub text_readable : (keys : List (List ℕ)) → IsFlagSet keys → length keys ≤ MAX_FLAGS → HasNoFault (flags_of (list_text keys))
text_readable keys set short = subst HasNoFault (sym (flags_again keys set.flags))
    (no_fault (map spelling keys) (no_fault_read [] keys set.rising set.flags (omega arith)))

-- one step of the loop that writes a text
pub step_first : (keys : List (List ℕ)) (at : ℕ) (key text text' : List ℕ) → at ≤ 0 → at < length keys → key ≡ get_or keys at key →
    text ≡ list_text (take at keys) → text' ≡ text ++ spelling key → text' ≡ list_text (take (at + 1) keys)
step_first keys at key text text' h lt e t w =
    let none : at ≡ 0 = omega arith in
    w
    ∙ ap (λ l. l ++ spelling key) (t ∙ ap (λ n. list_text (take n keys)) none)
    ∙ sym (text_first keys key (omega arith) (e ∙ ap (λ n. get_or keys n key) none))
    ∙ ap (λ n. list_text (take (n + 1) keys)) (sym none)

pub step_more : (keys : List (List ℕ)) (at : ℕ) (key text spaced text' : List ℕ) → 0 < at → at < length keys → key ≡ get_or keys at key →
    text ≡ list_text (take at keys) → spaced ≡ text ++ 32 ∷ [] → text' ≡ spaced ++ spelling key → text' ≡ list_text (take (at + 1) keys)
step_more keys at key text spaced text' h lt e t s w =
    w
    ∙ ap (λ l. l ++ spelling key) (s ∙ ap (λ l. l ++ 32 ∷ []) t)
    ∙ append_assoc (list_text (take at keys)) (32 ∷ []) (spelling key)
    ∙ sym (text_more keys key at h lt e)
