-- The text of a list of flags is read as that list.
use Rattle.std.proofs.Common.{◌≡◌, ◌<◌, ℕ, Bool, true, false, not, cond, ◌&&◌, nat_lt, ◌==◌, List, [], ◌∷◌, ◌++◌, length, unwrap_or, refl}
use Rattle.std.proofs.Common.{ap, sym, ◌∙◌, append_assoc, arith}
use Rattle.std.specs.List.{list_all}
use Rattle.std.specs.declared.cmp.Ordering.TheVariants.{Less}
use Rattle.flag_set.specs.Flag.{backslash, is_atom_byte, is_flag, name_of, spelling, refusal}
use Rattle.flag_set.specs.FlagKey.{IsKey, key_of}
use Rattle.flag_set.specs.FlagSet.{AllKeys, IsRising, IsFlagSet, order, put}
use Rattle.flag_set.specs.FlagText.{list_text}
use Rattle.flag_set.specs.declared.flag_fault.FlagFault.{FlagFault}
use Rattle.flag_set.specs.declared.flag_fault.FlagFault.TheVariants.{Memory}
use Rattle.flag_set.proofs.Keys.{accepted}
use Rattle.flag_set.proofs.Order.{put_behind}
use Rattle.flag_set.proofs.Texts.{spelling_accepted, spelling_key}
use Rattle.std.proofs.lemmas.List.Folds.{list_all-append}
use Rattle.std.proofs.lemmas.Bool.{and_parts}
use Rattle.std.proofs.lemmas.List.{append-nil, length-append}
use Rattle.std.proofs.lemmas.Bool.Decides.{nat_tests}
use Rattle.command_texts.specs.Arguments.{Lacks}

pub key_read : (key text found : List ℕ) → IsKey key → text ≡ spelling key → found ≡ key_of text → found ≡ key
key_read key text found is same read = read ∙ ap key_of same ∙ spelling_key key is

pub key_fault : (key text : List ℕ) (fault : FlagFault) → IsKey key → text ≡ spelling key → fault ≡ unwrap_or (refusal text) Memory → fault ≡ Memory
key_fault key text fault is same told = told ∙ ap (λ r. unwrap_or r Memory) (ap refusal same ∙ spelling_accepted key is)

below : (d : List ℕ) (done : List (List ℕ)) (key : List ℕ) (rest : List (List ℕ)) →
    AllKeys (λ later. order d later ≡ Less) (done ++ key ∷ rest) → order d key ≡ Less
below d [] key rest all = all.0
below d (x ∷ done) key rest all = below d done key rest all.1

-- the next key of a set that rises is put behind those that are done
pub put_next : (done : List (List ℕ)) (key : List ℕ) (rest : List (List ℕ)) → IsRising (done ++ key ∷ rest) → put key done ≡ done ++ key ∷ []
put_next [] key rest up = refl
put_next (d ∷ done) key rest up = put_behind key d done (below d done key rest up.0) ∙ ap (λ keys. d ∷ keys) (put_next done key rest up.1)

not_space : (b : ℕ) → (b ≡ 32 → ⊥) → not (b == 32) ≡ true
not_space b other = grind (arith, nat_tests)

atom_solid : (b : ℕ) → is_atom_byte b ≡ true → not (b == 32) ≡ true
atom_solid b is = not_space b (λ e. cc (ap is_atom_byte e))

both_true : (x y : Bool) → x ≡ true → y ≡ true → (x && y) ≡ true
both_true true true h k = refl
both_true true false h k = k
both_true false y h k = h

atoms_lack : (bytes : List ℕ) → list_all is_atom_byte bytes ≡ true → Lacks 32 bytes
atoms_lack [] all = refl
atoms_lack (b ∷ bytes) all =
    let both = and_parts (is_atom_byte b) (list_all is_atom_byte bytes) all in
    both_true (not (b == 32)) (list_all (λ byte. not (byte == 32)) bytes) (atom_solid b both.0) (atoms_lack bytes both.1)

flag_lacks_from : (b : ℕ) (rest : List ℕ) (t : Bool) → (b == backslash) ≡ t → list_all is_atom_byte (cond t rest (b ∷ rest)) ≡ true → Lacks 32 (b ∷ rest)
flag_lacks_from b rest true is all = both_true (not (b == 32)) (list_all (λ byte. not (byte == 32)) rest) (grind (arith, nat_tests)) (atoms_lack rest all)
flag_lacks_from b rest false is all = atoms_lack (b ∷ rest) all

flag_lacks : (text : List ℕ) → is_flag text ≡ true → Lacks 32 text
flag_lacks [] is = refl
flag_lacks (b ∷ rest) is =
    flag_lacks_from b rest (b == backslash) refl (and_parts (nat_lt 0 (length (name_of (b ∷ rest)))) (list_all is_atom_byte (name_of (b ∷ rest))) is).1

pub spelling_lacks : (key : List ℕ) → IsKey key → Lacks 32 (spelling key)
spelling_lacks key is = flag_lacks (spelling key) (accepted (spelling key) (spelling_accepted key is)).1

-- what is read of a set: some keys are done, and the text of the others is left
pub record Reads (keys done : List (List ℕ)) (text : List ℕ) : Type 0 where
  pub left : List (List ℕ)
  pub whole : keys ≡ done ++ left
  pub text_is : text ≡ list_text left

-- a text is cut at its first space
pub record Cut (text front behind : List ℕ) : Type 0 where
  pub cut : (word rest : List ℕ) → Lacks 32 word → text ≡ word ++ 32 ∷ rest → (front ≡ word) × (behind ≡ rest)
  pub missing : Lacks 32 text → (front ≡ text) × (behind ≡ [])

-- the next key
pub record Next (keys done : List (List ℕ)) (front behind : List ℕ) : Type 0 where
  pub key : List ℕ
  pub is_key : IsKey key
  pub flag : front ≡ spelling key
  pub puts : put key done ≡ done ++ key ∷ []
  pub reads : Reads keys (done ++ key ∷ []) behind

all_keys_front : (P : List ℕ → Type 0) (done : List (List ℕ)) (key : List ℕ) (rest : List (List ℕ)) → AllKeys P (done ++ key ∷ rest) → P key
all_keys_front P [] key rest all = all.0
all_keys_front P (d ∷ done) key rest all = all_keys_front P done key rest all.1

next_from : (keys done : List (List ℕ)) (key : List ℕ) (rest : List (List ℕ)) (text front behind : List ℕ) → IsFlagSet keys →
    keys ≡ done ++ key ∷ rest → front ≡ spelling key → behind ≡ list_text rest
    → Next keys done front behind
next_from keys done key rest text front behind set whole flag left =
    let whole_set : IsFlagSet (done ++ key ∷ rest) = rw whole at set in
    record {
      key = key;
      is_key = all_keys_front IsKey done key rest whole_set.flags;
      flag = flag;
      puts = put_next done key rest whole_set.rising;
      reads = record { left = rest; whole = whole ∙ sym (append_assoc done (key ∷ []) rest); text_is = left };
    }

pub next : (keys done : List (List ℕ)) (text front behind : List ℕ) → IsFlagSet keys → Reads keys done text → 0 < length text →
    Cut text front behind → Next keys done front behind
next keys done text front behind set reads some cuts = next_of reads.left reads.whole reads.text_is
  where
    lacks : (key : List ℕ) (rest : List (List ℕ)) → keys ≡ done ++ key ∷ rest → Lacks 32 (spelling key)
    lacks key rest whole =
        let whole_set : IsFlagSet (done ++ key ∷ rest) = rw whole at set in
        spelling_lacks key (all_keys_front IsKey done key rest whole_set.flags)

    next_of : (left : List (List ℕ)) → keys ≡ done ++ left → text ≡ list_text left → Next keys done front behind
    next_of [] whole is = absurd (omega (arith, some, ap length is))
    next_of (key ∷ []) whole is =
        let both = cuts.missing (rw is (lacks key [] whole)) in
        next_from keys done key [] text front behind set whole (both.0 ∙ is) both.1
    next_of (key ∷ k ∷ rest) whole is =
        let both = cuts.cut (spelling key) (list_text (k ∷ rest)) (lacks key (k ∷ rest) whole) is in
        next_from keys done key (k ∷ rest) text front behind set whole both.0 both.1

spelled_some : (text : List ℕ) → is_flag text ≡ true → 0 < length text
spelled_some [] is = absurd cc
spelled_some (b ∷ text) is = omega arith

pub spelling_some : (key : List ℕ) → IsKey key → 0 < length (spelling key)
spelling_some key is = spelled_some (spelling key) (accepted (spelling key) (spelling_accepted key is)).1

-- nothing is left
pub done_all : (keys done : List (List ℕ)) (text : List ℕ) → IsFlagSet keys → Reads keys done text → length text ≡ 0 → done ≡ keys
done_all keys done text set reads none = done_of reads.left reads.whole reads.text_is
  where
    some : (key : List ℕ) (rest : List (List ℕ)) → keys ≡ done ++ key ∷ rest → 0 < length (spelling key)
    some key rest whole =
        let whole_set : IsFlagSet (done ++ key ∷ rest) = rw whole at set in
        spelling_some key (all_keys_front IsKey done key rest whole_set.flags)

    done_of : (left : List (List ℕ)) → keys ≡ done ++ left → text ≡ list_text left → done ≡ keys
    done_of [] whole is = sym (whole ∙ append-nil done)
    done_of (key ∷ []) whole is = absurd (omega (arith, none, ap length is, some key [] whole))
    done_of (key ∷ k ∷ rest) whole is =
        absurd (omega (arith, none, ap length is, length-append (spelling key) (32 ∷ list_text (k ∷ rest)), some key (k ∷ rest) whole))

atom_inside : (b : ℕ) → is_atom_byte b ≡ true → not (b == 41) ≡ true
atom_inside b is = not_same b (λ e. cc (ap is_atom_byte e))
  where
    not_same : (b : ℕ) → (b ≡ 41 → ⊥) → not (b == 41) ≡ true
    not_same b other = grind (arith, nat_tests)

atoms_inside : (bytes : List ℕ) → list_all is_atom_byte bytes ≡ true → Lacks 41 bytes
atoms_inside [] all = refl
atoms_inside (b ∷ bytes) all =
    let both = and_parts (is_atom_byte b) (list_all is_atom_byte bytes) all in
    both_true (not (b == 41)) (list_all (λ byte. not (byte == 41)) bytes) (atom_inside b both.0) (atoms_inside bytes both.1)

flag_inside_from : (b : ℕ) (rest : List ℕ) (t : Bool) → (b == backslash) ≡ t → list_all is_atom_byte (cond t rest (b ∷ rest)) ≡ true → Lacks 41 (b ∷ rest)
flag_inside_from b rest true is all = both_true (not (b == 41)) (list_all (λ byte. not (byte == 41)) rest) (grind (arith, nat_tests)) (atoms_inside rest all)
flag_inside_from b rest false is all = atoms_inside (b ∷ rest) all

flag_inside : (text : List ℕ) → is_flag text ≡ true → Lacks 41 text
flag_inside [] is = refl
flag_inside (b ∷ rest) is =
    flag_inside_from b rest (b == backslash) refl (and_parts (nat_lt 0 (length (name_of (b ∷ rest)))) (list_all is_atom_byte (name_of (b ∷ rest))) is).1

spelling_inside : (key : List ℕ) → IsKey key → Lacks 41 (spelling key)
spelling_inside key is = flag_inside (spelling key) (accepted (spelling key) (spelling_accepted key is)).1

-- the text of flags ends in front of a closing parenthesis
pub list_lacks : (keys : List (List ℕ)) → AllKeys IsKey keys → Lacks 41 (list_text keys)
list_lacks [] all = refl
list_lacks (key ∷ []) all = spelling_inside key all.0
list_lacks (key ∷ k ∷ rest) all =
    list_all-append (λ byte. not (byte == 41)) (spelling key) (32 ∷ list_text (k ∷ rest))
    ∙ both_true (list_all (λ byte. not (byte == 41)) (spelling key)) (list_all (λ byte. not (byte == 41)) (32 ∷ list_text (k ∷ rest)))
    (spelling_inside key all.0) (list_lacks (k ∷ rest) all.1)
