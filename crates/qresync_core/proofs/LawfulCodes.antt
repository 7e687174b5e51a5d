-- What a lawful server's codes tell of the mailbox that is selected.
use Rattle.std.proofs.Common.{◌≡◌, ◌⊎◌, inl, inr, ℕ, false, List, [], ◌∷◌, ◌++◌, Option, Some, None, refl, sym, ◌∙◌, ap, subst, arith}
use Rattle.std.specs.Prelude.{Contains, Ok}
use Rattle.std.specs.List.{AllByRecursion, list_any}
use Rattle.std.specs.Option.{option_or, option_to_list}
use Rattle.imap_model.proofs.Remarking.{all_append, here, behind}
use Rattle.imap_model.specs.Remarks.{CodeTold}
use Rattle.imap_model.specs.SelectTells.{SelectCode, SelectSays}
use Rattle.imap_model.specs.declared.code.Code.{Code}
use Rattle.imap_model.specs.declared.code.Code.TheVariants as codings
use Rattle.imap_model.specs.declared.ending.Ending.TheVariants as endings
use Rattle.imap_model.specs.declared.response.Response.{Response}
use Rattle.imap_model.specs.declared.response.Response.TheVariants as responses
use Rattle.imap_model.specs.declared.server.Mailbox.{Mailbox}
use Rattle.qresync_core.proofs.Lawful.{first_or_later, neither}
use Rattle.qresync_core.specs.Laws.{codes_of_box}
use Rattle.qresync_core.specs.ToldCodes.{code_of, codes_in, is_no_modseq, is_not_sticky, validity_in, uidnext_in, highest_in, last_told, numbers_of}

-- a code tells nothing of it, or this number
abbrev NoneOr : ℕ → Option ℕ → Type 0
NoneOr n o = (o ≡ None) ⊎ (o ≡ Some n)

-- what each code of the table's reply tells of the numbers
record IsTrueCode (b : Mailbox) (code : Code) : Type 0 where
  no_modseq : is_no_modseq code ≡ false
  not_sticky : is_not_sticky code ≡ false
  validity : NoneOr b.validity (validity_in code)
  uidnext : NoneOr b.uidnext (uidnext_in code)
  highest : NoneOr b.highest (highest_in code)

silent : (b : Mailbox) (code : Code) → is_no_modseq code ≡ false → is_not_sticky code ≡ false → validity_in code ≡ None → uidnext_in code ≡ None →
    highest_in code ≡ None → IsTrueCode b code
silent b code m s v u h = record { no_modseq = m; not_sticky = s; validity = inl v; uidnext = inl u; highest = inl h }

true_code : (b : Mailbox) (code : Code) → SelectCode b code → IsTrueCode b code
true_code b codings.None m = silent b codings.None refl refl refl refl refl
true_code b (codings.Capability words) m = silent b (codings.Capability words) refl refl refl refl refl
true_code b (codings.UidNext uid) m = record { no_modseq = refl; not_sticky = refl; validity = inl refl; uidnext = inr (ap Some m); highest = inl refl }
true_code b (codings.UidValidity validity) m =
    record { no_modseq = refl; not_sticky = refl; validity = inr (ap Some m); uidnext = inl refl; highest = inl refl }
true_code b (codings.PermanentFlags flags any) m = silent b (codings.PermanentFlags flags any) refl refl refl refl refl
true_code b (codings.HighestModSeq modseq) m =
    record { no_modseq = refl; not_sticky = refl; validity = inl refl; uidnext = inl refl; highest = inr (ap Some m) }
true_code b codings.NoModSeq m = absurd m
true_code b codings.UidNotSticky m = absurd m
true_code b (codings.AppendUid validity uid) m = absurd m
true_code b (codings.CopyUid validity source target) m = absurd m
true_code b (codings.Modified uids) m = absurd m
true_code b codings.Closed m = absurd m
true_code b codings.Other m = silent b codings.Other refl refl refl refl refl

true_of : (b : Mailbox) (r : Response) → SelectSays b r → AllByRecursion (IsTrueCode b) (option_to_list (code_of r))
true_of b (responses.Done tag ending code) m = tt
true_of b (responses.Untagged ending code) m = (true_code b code m, tt)
true_of b responses.Bye m = tt
true_of b (responses.Preauth code) m = tt
true_of b responses.Go m = tt
true_of b (responses.Capability words) m = tt
true_of b (responses.Enabled words) m = tt
true_of b (responses.Exists count) m = tt
true_of b (responses.Fetch fetched) m = tt
true_of b (responses.Vanished earlier uids) m = tt
true_of b (responses.Found uids) m = tt
true_of b responses.Other m = tt

all_true : (b : Mailbox) (told : List Response) (last : Code) → AllByRecursion (SelectSays b) told → SelectCode b last →
    AllByRecursion (IsTrueCode b) (codes_in told last)
all_true b [] last a l = (true_code b last l, tt)
all_true b (r ∷ rs) last a l = all_append (IsTrueCode b) (option_to_list (code_of r)) (codes_in rs last) (true_of b r a.0) (all_true b rs last a.1 l)

no_refusal : (b : Mailbox) (codes : List Code) → AllByRecursion (IsTrueCode b) codes →
    (list_any is_no_modseq codes ≡ false) × (list_any is_not_sticky codes ≡ false)
no_refusal b [] a = (refl, refl)
no_refusal b (c ∷ cs) a =
    let rest = no_refusal b cs a.1 in
    (neither (is_no_modseq c) (list_any is_no_modseq cs) a.0.no_modseq rest.0, neither (is_not_sticky c) (list_any is_not_sticky cs) a.0.not_sticky rest.1)

-- of values that are all one number the last is that number, once it is told
module _ (pick : Code → Option ℕ) (n : ℕ) where
  either_or : (o p : Option ℕ) → NoneOr n o → NoneOr n p → NoneOr n (option_or o p)
  either_or None p x y = y
  either_or (Some m) p x y = x

  last_or : (codes : List Code) → AllByRecursion (λ (c : Code). NoneOr n (pick c)) codes → NoneOr n (last_told pick codes)
  last_or [] a = inl refl
  last_or (c ∷ cs) a = either_or (last_told pick cs) (pick c) (last_or cs a.1) a.0

  told_first : (o p : Option ℕ) → NoneOr n o → p ≡ Some n → option_or o p ≡ Some n
  told_first None p x e = e
  told_first (Some m) p (inl x) e = absurd (cc)
  told_first (Some m) p (inr x) e = x

  told_later : (o p : Option ℕ) → o ≡ Some n → option_or o p ≡ Some n
  told_later None p e = absurd (cc)
  told_later (Some m) p e = e

  last_is : (code : Code) (codes : List Code) → AllByRecursion (λ (c : Code). NoneOr n (pick c)) codes → Contains codes code → pick code ≡ Some n →
      last_told pick codes ≡ Some n
  last_is code [] a c e = absurd (omega (arith, c.1))
  last_is code (x ∷ xs) a c e =
      elim (first_or_later x code xs c) [
        | inl same ↦ told_first (last_told pick xs) (pick x) (last_or xs a.1) (ap pick same ∙ e)
        | inr later ↦ told_later (last_told pick xs) (pick x) (last_is code xs a.1 later e)
      ]

-- a code that is told is among the codes
last_among : (told : List Response) (last : Code) → Contains (codes_in told last) last
last_among [] last = here last []
last_among (r ∷ rs) last = behind (option_to_list (code_of r)) (codes_in rs last) last (last_among rs last)

code_among : (told : List Response) (last code : Code) → Contains told (responses.Untagged endings.Ok code) → Contains (codes_in told last) code
code_among [] last code c = absurd (omega (arith, c.1))
code_among (r ∷ rs) last code c =
    elim (first_or_later r (responses.Untagged endings.Ok code) rs c) [
      | inl same ↦ subst (λ (x : Response). Contains (option_to_list (code_of x) ++ codes_in rs last) code) (sym same) (here code (codes_in rs last))
      | inr later ↦ behind (option_to_list (code_of r)) (codes_in rs last) code (code_among rs last code later)
    ]

among : (told : List Response) (last code : Code) → CodeTold told last code → Contains (codes_in told last) code
among told last code (inl c) = code_among told last code c
among told last code (inr e) = subst (λ (x : Code). Contains (codes_in told last) x) e (last_among told last)

weaker : (b : Mailbox) (P : Code → Type 0) (f : (c : Code) → IsTrueCode b c → P c) (codes : List Code) →
    AllByRecursion (IsTrueCode b) codes → AllByRecursion P codes
weaker b P f [] a = tt
weaker b P f (c ∷ cs) a = (f c a.0, weaker b P f cs a.1)

-- a reply that tells each of the three tells those of the mailbox
pub numbers_true : (b : Mailbox) (told : List Response) (last : Code) → AllByRecursion (SelectSays b) told → SelectCode b last →
    CodeTold told last (codings.UidValidity b.validity) →
    CodeTold told last (codings.UidNext b.uidnext) → CodeTold told last (codings.HighestModSeq b.highest) →
    numbers_of (codes_in told last) ≡ Ok (codes_of_box b)
numbers_true b told last a l v u h =
    let codes : List Code = codes_in told last in
    let all = all_true b told last a l in
    let none = no_refusal b codes all in
    let no_modseq = none.0 in
    let not_sticky = none.1 in
    let validity = last_is validity_in b.validity (codings.UidValidity b.validity) codes
    (weaker b (λ (c : Code). NoneOr b.validity (validity_in c)) (λ c t. t.validity) codes all) (among told last (codings.UidValidity b.validity) v) refl in
    let uidnext = last_is uidnext_in b.uidnext (codings.UidNext b.uidnext) codes
    (weaker b (λ (c : Code). NoneOr b.uidnext (uidnext_in c)) (λ c t. t.uidnext) codes all) (among told last (codings.UidNext b.uidnext) u) refl in
    let highest = last_is highest_in b.highest (codings.HighestModSeq b.highest) codes
    (weaker b (λ (c : Code). NoneOr b.highest (highest_in c)) (λ c t. t.highest) codes all) (among told last (codings.HighestModSeq b.highest) h) refl in
    cc
