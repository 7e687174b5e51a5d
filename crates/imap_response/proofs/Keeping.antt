-- What is kept of lists of flags that are too large changes neither where reading fails nor which excess is told, and without
-- an excess it changes nothing.
use Rattle.std.proofs.Common.{◌≡◌, ℕ, zero, suc, ◌+◌, min, Bool, true, false, List, [], ◌∷◌, length, take, drop, codes, Option, Some}
use Rattle.std.proofs.Common.{None, Result, Ok, Err, refl, sym, ◌∙◌, ap, subst}
use Rattle.std.proofs.lemmas.Bool.{true≢false}
use Rattle.std.specs.Prelude.{is_some, ◌==◌, ◌||◌, if◌then◌else◌}
use Rattle.std.specs.Option.{option_or}
use Rattle.std.specs.Str.{bytes_eq}
use Rattle.std.specs.List.{list_all, list_any}
use Rattle.flag_set.specs.Flag.{is_flag}
use Rattle.flag_set.specs.FlagList.{flags_of, set_of, flags_alone, is_any, first_fault_of}
use Rattle.flag_set.specs.declared.flag_fault.FlagFault.{FlagFault}
use Rattle.mail_base.specs.declared.frame.Frame.{Frame}
use Rattle.imap_model.specs.declared.code.Code.{Code}
use Rattle.imap_model.specs.declared.code.Code.TheVariants as codings
use Rattle.imap_model.specs.declared.ending.Ending.{Ending}
use Rattle.imap_model.specs.declared.response.Response.{Response}
use Rattle.imap_model.specs.declared.response.Response.TheVariants as responses
use Rattle.imap_response.specs.declared.fetch.Gathered.{Gathered}
use Rattle.imap_response.specs.declared.fetch.Told.{Told}
use Rattle.imap_response.specs.declared.fetch.Told.TheVariants as tellings
use Rattle.imap_response.specs.declared.flags.Listed.{Listed}
use Rattle.imap_response.specs.declared.line.Said.{Said}
use Rattle.imap_response.specs.declared.text_part.Coded.{Coded}
use Rattle.imap_response.specs.Reads.{◌>>=◌, or_else}
use Rattle.imap_response.specs.Leaf.{gap_at, mark_at, end_at, word_at, wide_at, same_word, is_digits}
use Rattle.imap_response.specs.ReadNumbers.{nonzero_at, modseq_at}
use Rattle.imap_response.specs.Tags.{tag_misfit, tag_of}
use Rattle.imap_response.specs.Flags.{Keep, kept, whole, list_len, list_text, fits_list, listed, listed_permanent, flags_at, permanent_at}
use Rattle.imap_response.specs.ReadCodes.{closed_at, permanent_flags_at, plain_code_at, code_at, plainly}
use Rattle.imap_response.specs.ReadTextParts.{closing_from, within, code_up_to, code_in, text_misfit, with_misfit, text_at}
use Rattle.imap_response.specs.Left.{Left, at_left, mark_in}
use Rattle.imap_response.specs.ReadValues.{value_at}
use Rattle.imap_response.specs.Items.{is_atom, sectioned_at, named_item_at, item_at, with_told, items_from, items_at, nothing}
use Rattle.imap_response.specs.ReadLines.{simply, ending_of, fits_tag, done_at, tagged_at, named_line_at, status_at, fetch_at, exists_at}
use Rattle.imap_response.specs.ReadLines.{second_word, other_at, numbered_at, ended_at, untagged_at, line_at}
use Rattle.imap_response.specs.Reading.{reading, whole_of}

abbrev GoTogether : {A : Type 0} → (A → A → Type 0) → Result A ℕ → Result A ℕ → Type 0
GoTogether R (Ok x) (Ok y) = R x y
GoTogether R (Ok x) (Err right) = ⊥
GoTogether R (Err left) (Ok y) = ⊥
GoTogether R (Err left) (Err right) = left ≡ right

-- both fail at the same place, or give values that go together
pub record Alike {A : Type 0} (R : A → A → Type 0) (a b : Result A ℕ) : Type 0 where
  pub is : GoTogether R a b

alike_bind : {A B : Type 0} (R : A → A → Type 0) (S : B → B → Type 0) (a b : Result A ℕ) (f g : A → Result B ℕ) → Alike R a b →
    ((x y : A) → R x y → Alike S (f x) (g y)) → Alike S (a >>= f) (b >>= g)
alike_bind R S (Ok x) (Ok y) f g r on = on x y r.is
alike_bind R S (Ok x) (Err right) f g r on = absurd r.is
alike_bind R S (Err left) (Ok y) f g r on = absurd r.is
alike_bind R S (Err left) (Err right) f g r on = record { is = r.is }

alike_after : {A B : Type 0} (S : B → B → Type 0) (a : Result A ℕ) (f g : A → Result B ℕ) → ((x : A) → Alike S (f x) (g x)) → Alike S (a >>= f) (a >>= g)
alike_after S (Ok x) f g on = on x
alike_after S (Err left) f g on = record { is = refl }

alike_or : {A B : Type 0} (S : B → B → Type 0) (a : Result A ℕ) (f g : A → Result B ℕ) (other further : Result B ℕ) →
    ((x : A) → Alike S (f x) (g x)) → Alike S other further → Alike S (or_else a f other) (or_else a g further)
alike_or S (Ok x) f g other further on r = on x
alike_or S (Err left) f g other further on r = r

alike_same : {A : Type 0} (R : A → A → Type 0) (a : Result A ℕ) → ((x : A) → R x x) → Alike R a a
alike_same R (Ok x) same = record { is = same x }
alike_same R (Err left) same = record { is = refl }

alike_if : {A : Type 0} (R : A → A → Type 0) (test : Bool) (x x' y y' : Result A ℕ) → Alike R x x' → Alike R y y' →
    Alike R (if test then x else y) (if test then x' else y')
alike_if R true x x' y y' first second = first
alike_if R false x x' y y' first second = second

abbrev Beside : {A B : Type 0} → (A → A → Type 0) → A × B → A × B → Type 0
Beside R x y = R x.0 y.0 × (y.1 ≡ x.1)

-- with one excess, and the same where there is none
abbrev KeptListed : Listed → Listed → Type 0
KeptListed w k = (k.excess ≡ w.excess) × (w.excess ≡ None → k ≡ w)

abbrev KeptCoded : Coded → Coded → Type 0
KeptCoded w k = (k.excess ≡ w.excess) × (w.excess ≡ None → k ≡ w)

abbrev KeptGathered : Gathered → Gathered → Type 0
KeptGathered w k = (k.excess ≡ w.excess) × (w.excess ≡ None → k ≡ w)

abbrev pub KeptSaid : Said → Said → Type 0
KeptSaid w k = (k.excess ≡ w.excess) × (w.excess ≡ None → k ≡ w)

abbrev KeptTold : Told → Told → Type 0
KeptTold (tellings.Flags flags excess) told = (rest : List (List ℕ)) × (told ≡ tellings.Flags rest excess) × (excess ≡ None → rest ≡ flags)
KeptTold told other = other ≡ told

same_told : (told : Told) → KeptTold told told
same_told (tellings.Flags flags excess) = (flags, refl, λ e. refl)
same_told (tellings.Uid uid) = refl
same_told (tellings.ModSeq modseq) = refl
same_told (tellings.Ids ids) = refl
same_told (tellings.Text text) = refl
same_told tellings.Nothing = refl

same_item : (item : Told × Left) → Beside KeptTold item item
same_item item = (same_told item.0, refl)

same_coded : (coded : Coded) → KeptCoded coded coded
same_coded coded = (refl, λ e. refl)

same_said : (said : Said) → KeptSaid said said
same_said said = (refl, λ e. refl)

some_none : {A : Type 0} (fault : FlagFault) → Some fault ≡ None → A
some_none fault e = absurd (true≢false (ap is_some e))

-- flags
abbrev pick : Keep → Option FlagFault → List (List ℕ) → Listed
pick keep fault flags = record { flags = set_of (keep fault flags); any = false; excess = fault }

pick_kept : (fault : Option FlagFault) (flags : List (List ℕ)) → KeptListed (pick whole fault flags) (pick kept fault flags)
pick_kept None flags = (refl, λ e. refl)
pick_kept (Some fault) flags = (refl, λ e. some_none fault e)

abbrev pick_starred : Keep → Option FlagFault → List (List ℕ) → Listed
pick_starred keep fault flags = record { flags = set_of (flags_alone (keep fault flags)); any = list_any is_any (keep fault flags); excess = fault }

starred_kept : (fault : Option FlagFault) (flags : List (List ℕ)) → KeptListed (pick_starred whole fault flags) (pick_starred kept fault flags)
starred_kept None flags = (refl, λ e. refl)
starred_kept (Some fault) flags = (refl, λ e. some_none fault e)

ok_listed : (flags : List (List ℕ)) (rest : List ℕ) → Alike (Beside KeptListed) (Ok (listed whole flags, rest)) (Ok (listed kept flags, rest))
ok_listed flags rest = record { is = (pick_kept (first_fault_of flags) flags, refl) }

ok_starred : (flags : List (List ℕ)) (rest : List ℕ) → Alike (Beside KeptListed) (Ok (listed_permanent whole flags, rest))
    (Ok (listed_permanent kept flags, rest))
ok_starred flags rest = record { is = (starred_kept (first_fault_of (flags_alone flags)) flags, refl) }

flags_kept : (text : List ℕ) → Alike (Beside KeptListed) (flags_at whole text) (flags_at kept text)
unfolding flags_at
flags_kept text = alike_after (Beside KeptListed) (mark_at 40 text) _ _ (λ inside.
    let flags = flags_of (list_text inside) in
    alike_after (Beside KeptListed) (fits_list (list_all is_flag flags) false inside) _ _ (λ fits.
    alike_after (Beside KeptListed) (mark_at 41 (drop (list_len inside) inside)) _ _ (λ rest. ok_listed flags rest)))

permanent_kept : (text : List ℕ) → Alike (Beside KeptListed) (permanent_at whole text) (permanent_at kept text)
unfolding permanent_at
permanent_kept text = alike_after (Beside KeptListed) (mark_at 40 text) _ _ (λ inside.
    let flags = flags_of (list_text inside) in
    alike_after (Beside KeptListed) (fits_list (list_all (λ flag. is_any flag || is_flag flag) flags) true inside) _ _ (λ fits.
    alike_after (Beside KeptListed) (mark_at 41 (drop (list_len inside) inside)) _ _ (λ rest. ok_starred flags rest)))

-- codes and texts
abbrev code_of : Listed → Coded
code_of flags = record { code = codings.PermanentFlags flags.flags flags.any; excess = flags.excess }

ok_code : (x y : Listed) → KeptListed x y → Alike KeptCoded (Ok (code_of x)) (Ok (code_of y))
ok_code x y r = record { is = (r.0, λ e. ap code_of (r.1 e)) }

closed_kept : (x y : Listed × List ℕ) → Beside KeptListed x y →
    Alike KeptCoded (closed_at x.1 >>= λ end. Ok (code_of x.0)) (closed_at y.1 >>= λ end. Ok (code_of y.0))
closed_kept x y r = rw r.1 (alike_after KeptCoded (closed_at x.1) (λ end. Ok (code_of x.0)) (λ end. Ok (code_of y.0)) (λ end. ok_code x.0 y.0 r.0))

permanent_flags_kept : (text : List ℕ) → Alike KeptCoded (permanent_flags_at whole text) (permanent_flags_at kept text)
unfolding permanent_flags_at
permanent_flags_kept text = alike_after KeptCoded (gap_at text) _ _ (λ after.
    alike_bind (Beside KeptListed) KeptCoded (permanent_at whole after) (permanent_at kept after) _ _ (permanent_kept after) closed_kept)

code_kept : (text : List ℕ) → Alike KeptCoded (code_at whole text) (code_at kept text)
unfolding code_at
code_kept text = alike_if KeptCoded (same_word (wide_at text).0 (codes "PERMANENTFLAGS")) _ _ _ _ (permanent_flags_kept (wide_at text).1)
    (alike_same KeptCoded (plain_code_at (wide_at text).0 (wide_at text).1 >>= λ code. Ok (plainly code)) same_coded)

within_kept : (size behind : ℕ) (a b : Result Coded ℕ) → Alike KeptCoded a b → Alike KeptCoded (within size behind a) (within size behind b)
within_kept size behind (Ok x) (Ok y) r = record { is = r.is }
within_kept size behind (Ok x) (Err right) r = absurd r.is
within_kept size behind (Err left) (Ok y) r = absurd r.is
within_kept size behind (Err left) (Err right) r = record { is = ap (λ n. min n size + behind) r.is }

code_up_to_kept : (text : List ℕ) (found : Option ℕ) → Alike KeptCoded (code_up_to whole text found) (code_up_to kept text found)
code_up_to_kept text None = record { is = same_coded (plainly codings.None) }
code_up_to_kept text (Some size) = within_kept (length (take size text)) (length (drop size text)) _ _ (code_kept (take size text))

code_in_kept : (text : List ℕ) → Alike KeptCoded (code_in whole text) (code_in kept text)
unfolding code_in
code_in_kept [] = record { is = same_coded (plainly codings.None) }
code_in_kept (byte ∷ more) = alike_if KeptCoded (byte == 91) _ _ _ _ (code_up_to_kept more (closing_from 0 0 more))
    (alike_same KeptCoded (Ok (plainly codings.None)) same_coded)

with_misfit_kept : (misfit : Option ℕ) (a b : Result Coded ℕ) → Alike KeptCoded a b → Alike KeptCoded (with_misfit misfit a) (with_misfit misfit b)
with_misfit_kept None a b r = r
with_misfit_kept (Some left) (Ok x) (Ok y) r = record { is = refl }
with_misfit_kept (Some left) (Ok x) (Err second) r = absurd r.is
with_misfit_kept (Some left) (Err first) (Ok y) r = absurd r.is
with_misfit_kept (Some left) (Err first) (Err second) r = rw r.is (alike_same KeptCoded (with_misfit (Some left) (Err second)) same_coded)

text_kept : (text : List ℕ) → Alike KeptCoded (text_at whole text) (text_at kept text)
unfolding text_at
text_kept [] = record { is = same_coded (plainly codings.None) }
text_kept (byte ∷ more) = alike_after KeptCoded (gap_at (byte ∷ more)) _ _ (λ text. with_misfit_kept (text_misfit text) _ _ (code_in_kept text))

-- items
same_read : (read : Result (Told × Left) ℕ) → Alike (Beside KeptTold) read read
same_read read = alike_same (Beside KeptTold) read same_item

flags_item_kept : (left : Left) (x y : Listed × List ℕ) → Beside KeptListed x y
    → Alike (Beside KeptTold) (Ok (tellings.Flags x.0.flags x.0.excess, at_left left x.1)) (Ok (tellings.Flags y.0.flags y.0.excess, at_left left y.1))
flags_item_kept left x y r = record {
  is = (
    (
      y.0.flags,
      ap (λ excess. tellings.Flags y.0.flags excess) r.0.0,
      λ e. ap (λ l. l.flags) (r.0.1 e),
    ),
    ap (at_left left) r.1,
  );
}

named_item_kept : (name : List ℕ) (left : Left) → Alike (Beside KeptTold) (named_item_at whole name left) (named_item_at kept name left)
unfolding named_item_at
named_item_kept name left =
    alike_if (Beside KeptTold) (same_word name (codes "UID")) _ _ _ _ (same_read (nonzero_at left.text >>= λ uid. Ok (tellings.Uid uid.0, at_left left uid.1)))
    (alike_if (Beside KeptTold) (same_word name (codes "FLAGS")) _ _ _ _
    (alike_bind (Beside KeptListed) (Beside KeptTold) (flags_at whole left.text) (flags_at kept left.text) _ _ (flags_kept left.text) (flags_item_kept left))
    (alike_if (Beside KeptTold) (same_word name (codes "MODSEQ")) _ _ _ _
    (same_read (mark_at 40 left.text >>= λ inside. modseq_at inside >>= λ modseq. mark_at 41 modseq.1 >>= λ behind. Ok
    (tellings.ModSeq modseq.0, at_left left behind)))
    (same_read (value_at left >>= λ value. Ok (tellings.Nothing, value)))))

item_kept : (left : Left) → Alike (Beside KeptTold) (item_at whole left) (item_at kept left)
unfolding item_at
item_kept left =
    let name = (wide_at left.text).0 in
    let behind = (wide_at left.text).1 in
    alike_if (Beside KeptTold) (is_atom name) _ _ _ _
    (alike_or (Beside KeptTold) (mark_at 91 behind) _ _ _ _ (λ inside. same_read (sectioned_at name (at_left left inside)))
    (alike_after (Beside KeptTold) (gap_at behind) _ _ (λ after. named_item_kept name (at_left left after))))
    (same_read (Err (length left.text)))

both_none : (a b : Option FlagFault) → option_or a b ≡ None → (a ≡ None) × (b ≡ None)
both_none None b e = (refl, e)
both_none (Some fault) b e = some_none fault e

abbrev with_flags : Gathered → List (List ℕ) → Option FlagFault → Gathered
with_flags gathered flags excess = with_told gathered (tellings.Flags flags excess)

told_kept : (w k : Gathered) (told other : Told) → KeptGathered w k → KeptTold told other → KeptGathered (with_told w told) (with_told k other)
told_kept w k (tellings.Flags flags excess) other r t =
    rw t.1 (
      ap (λ o. option_or o excess) r.0,
      λ e. let nones = both_none w.excess excess e in
          ap (λ g. with_flags g t.0 excess) (r.1 nones.0) ∙ ap (λ rest. with_flags w rest excess) (t.2 nones.1),
    )
told_kept w k (tellings.Uid uid) other r t = rw t (r.0, λ e. ap (λ g. with_told g (tellings.Uid uid)) (r.1 e))
told_kept w k (tellings.ModSeq modseq) other r t = rw t (r.0, λ e. ap (λ g. with_told g (tellings.ModSeq modseq)) (r.1 e))
told_kept w k (tellings.Ids ids) other r t = rw t (r.0, λ e. ap (λ g. with_told g (tellings.Ids ids)) (r.1 e))
told_kept w k (tellings.Text text) other r t = rw t (r.0, λ e. ap (λ g. with_told g (tellings.Text text)) (r.1 e))
told_kept w k tellings.Nothing other r t = rw t r

abbrev behind_item : Keep → ℕ → Gathered → Told × Left → Result (Gathered × Left) ℕ
behind_item keep n gathered item = or_else (mark_at 41 item.1.text)
    (λ end. Ok (with_told gathered item.0, at_left item.1 end))
    (gap_at item.1.text >>= λ after. items_from keep n (with_told gathered item.0) (at_left item.1 after))

ok_gathered : (w k : Gathered) (left : Left) → KeptGathered w k → Alike (Beside KeptGathered) (Ok (w, left)) (Ok (k, left))
ok_gathered w k left r = record { is = (r, refl) }

behind_kept : (n : ℕ) (w k : Gathered) (x y : Told × Left) → KeptGathered w k → Beside KeptTold x y
    → ((u v : Gathered) (left : Left) → KeptGathered u v → Alike (Beside KeptGathered) (items_from whole n u left) (items_from kept n v left))
    → Alike (Beside KeptGathered) (behind_item whole n w x) (behind_item kept n k y)
behind_kept n w k x y r t more =
    let told = told_kept w k x.0 y.0 r t.0 in
    let here : Alike (Beside KeptGathered) (behind_item whole n w x) (behind_item kept n k (y.0, x.1)) =
    alike_or (Beside KeptGathered) (mark_at 41 x.1.text) _ _ _ _ (λ end. ok_gathered (with_told w x.0) (with_told k y.0) (at_left x.1 end) told)
    (alike_after (Beside KeptGathered) (gap_at x.1.text) _ _ (λ after. more (with_told w x.0) (with_told k y.0) (at_left x.1 after) told)) in
    subst (λ left. Alike (Beside KeptGathered) (behind_item whole n w x) (behind_item kept n k (y.0, left))) (sym t.1) here

items_from_kept : (n : ℕ) (w k : Gathered) (left : Left) → KeptGathered w k → Alike (Beside KeptGathered) (items_from whole n w left) (items_from kept n k left)
unfolding items_from
items_from_kept zero w k left r = record { is = refl }
items_from_kept (suc n) w k left r = alike_bind (Beside KeptTold) (Beside KeptGathered) (item_at whole left) (item_at kept left)
    (behind_item whole n w) (behind_item kept n k) (item_kept left)
    (λ x y t. behind_kept n w k x y r t (items_from_kept n))

items_kept : (left : Left) → Alike (Beside KeptGathered) (items_at whole left) (items_at kept left)
unfolding items_at
items_kept left = alike_after (Beside KeptGathered) (mark_in 40 left) _ _
    (λ inside. items_from_kept (length inside.text) nothing nothing inside (refl, λ e. refl))

-- lines
abbrev said_by : Response → Option FlagFault → Said
said_by response excess = record { response = response; excess = excess }

ok_said : (say : Code → Response) (x y : Coded) → KeptCoded x y → Alike KeptSaid (Ok (said_by (say x.code) x.excess)) (Ok (said_by (say y.code) y.excess))
ok_said say x y r = record { is = (r.0, λ e. ap (λ c. said_by (say c.code) c.excess) (r.1 e)) }

ok_fetch : (x y : Gathered) → KeptGathered x y → Alike KeptSaid (Ok (said_by (responses.Fetch x.fetched) x.excess))
    (Ok (said_by (responses.Fetch y.fetched) y.excess))
ok_fetch x y r = record { is = (r.0, λ e. ap (λ g. said_by (responses.Fetch g.fetched) g.excess) (r.1 e)) }

coded_kept : (say : Code → Response) (rest : List ℕ) → Alike KeptSaid
    (text_at whole rest >>= λ coded. Ok (said_by (say coded.code) coded.excess))
    (text_at kept rest >>= λ coded. Ok (said_by (say coded.code) coded.excess))
coded_kept say rest = alike_bind KeptCoded KeptSaid (text_at whole rest) (text_at kept rest) _ _ (text_kept rest) (λ x y r. ok_said say x y r)

same_line : (read : Result Said ℕ) → Alike KeptSaid read read
same_line read = alike_same KeptSaid read same_said

done_kept : (tag text rest : List ℕ) (ending : Option Ending) → Alike KeptSaid (done_at whole tag text rest ending) (done_at kept tag text rest ending)
done_kept tag text rest None = record { is = refl }
done_kept tag text rest (Some ending) = coded_kept (λ code. responses.Done (tag_of tag) ending code) rest

tagged_kept : (text : List ℕ) → Alike KeptSaid (tagged_at whole text) (tagged_at kept text)
unfolding tagged_at
tagged_kept text = alike_after KeptSaid (fits_tag text (word_at text).0 (tag_misfit 0 0 (word_at text).0)) _ _ (λ fits.
    alike_after KeptSaid (gap_at (word_at text).1) _ _ (λ after. done_kept (word_at text).0 after (word_at after).1 (ending_of (word_at after).0)))

status_kept : (name : List ℕ) (left : Left) (behind : List ℕ) → Alike KeptSaid (status_at whole name left behind) (status_at kept name left behind)
unfolding status_at
status_kept name left behind =
    alike_if KeptSaid (same_word name (codes "BYE")) _ _ _ _ (coded_kept (λ code. responses.Bye) behind)
    (alike_if KeptSaid (same_word name (codes "PREAUTH")) _ _ _ _ (coded_kept (λ code. responses.Preauth code) behind)
    (same_line (named_line_at name left behind >>= λ response. Ok (simply response))))

ended_items : (x y : Gathered × Left) → Beside KeptGathered x y
    → Alike KeptSaid (end_at x.1.text >>= λ end. Ok (said_by (responses.Fetch x.0.fetched) x.0.excess))
    (end_at y.1.text >>= λ end. Ok (said_by (responses.Fetch y.0.fetched) y.0.excess))
ended_items x y r =
    let here : Alike KeptSaid (end_at x.1.text >>= λ end. Ok (said_by (responses.Fetch x.0.fetched) x.0.excess))
    (end_at x.1.text >>= λ end. Ok (said_by (responses.Fetch y.0.fetched) y.0.excess)) =
    alike_after KeptSaid (end_at x.1.text) _ _ (λ end. ok_fetch x.0 y.0 r.0) in
    subst (λ left. Alike KeptSaid (end_at x.1.text >>= λ end. Ok (said_by (responses.Fetch x.0.fetched) x.0.excess))
    (end_at left.text >>= λ end. Ok (said_by (responses.Fetch y.0.fetched) y.0.excess))) (sym r.1) here

fetch_kept : (left : Left) → Alike KeptSaid (fetch_at whole left) (fetch_at kept left)
unfolding fetch_at
fetch_kept left = alike_after KeptSaid (gap_at left.text) _ _ (λ text.
    alike_bind (Beside KeptGathered) KeptSaid (items_at whole (at_left left text)) (items_at kept (at_left left text)) _ _
    (items_kept (at_left left text)) ended_items)

numbered_kept : (left : Left) → Alike KeptSaid (numbered_at whole left) (numbered_at kept left)
unfolding numbered_at
numbered_kept left =
    let second = second_word (gap_at (word_at left.text).1) in
    alike_if KeptSaid (same_word second.0 (codes "EXISTS")) _ _ _ _ (same_line (exists_at left.text second.1))
    (alike_if KeptSaid (same_word second.0 (codes "FETCH")) _ _ _ _
    (alike_after KeptSaid (nonzero_at left.text) _ _ (λ number. fetch_kept (at_left left second.1)))
    (same_line (other_at left >>= λ _. Ok (simply responses.Other))))

ended_kept : (name : List ℕ) (left : Left) (behind : List ℕ) (ending : Option Ending) →
    Alike KeptSaid (ended_at whole name left behind ending) (ended_at kept name left behind ending)
ended_kept name left behind None = status_kept name left behind
ended_kept name left behind (Some ending) = coded_kept (λ code. responses.Untagged ending code) behind

untagged_kept : (left : Left) → Alike KeptSaid (untagged_at whole left) (untagged_at kept left)
unfolding untagged_at
untagged_kept left =
    alike_if KeptSaid (length (word_at left.text).0 == 0) _ _ _ _ (same_line (Err (length left.text)))
    (alike_if KeptSaid (is_digits (word_at left.text).0) _ _ _ _ (numbered_kept left)
    (ended_kept (word_at left.text).0 left (word_at left.text).1 (ending_of (word_at left.text).0)))

line_kept : (left : Left) → Alike KeptSaid (line_at whole left) (line_at kept left)
unfolding line_at
line_kept left =
    alike_if KeptSaid (bytes_eq (word_at left.text).0 (42 ∷ [])) _ _ _ _
    (alike_after KeptSaid (gap_at (word_at left.text).1) _ _ (λ after. untagged_kept (at_left left after)))
    (alike_if KeptSaid (bytes_eq (word_at left.text).0 (43 ∷ [])) _ _ _ _ (coded_kept (λ code. responses.Go) (word_at left.text).1) (tagged_kept left.text))

pub reading_kept : (frame : Frame) → Alike KeptSaid (reading whole frame) (reading kept frame)
reading_kept frame = line_kept (whole_of frame)
