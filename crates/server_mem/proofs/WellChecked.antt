-- What is well formed passes the tests.
use Rattle.std.proofs.Common.{◌≡◌, ℕ, ◌+◌, ◌<◌, ◌≤◌, true, not, eqb, ◌&&◌, List, [], ◌∷◌, Option, Some, None, refl, sym, ◌∙◌, ap, arith}
use Rattle.std.specs.Prelude.{Contains, nat_le, nat_lt, is_some, bytes_eq}
use Rattle.std.proofs.lemmas.Bool.{cond_both, and_from, not_from_false, false_from_ne_true, le-leb, lt-ltb, eq-eqb, eqb-true, ne_eqb, cond-true, cond-false}
use Rattle.std.proofs.lemmas.Map.Views.{Contains-from_any}
use Rattle.std.proofs.lemmas.Option.{none-some}
use Rattle.imap_model.proofs.Finding.{names_same, names_differ}
use Rattle.imap_model.specs.Lookups.{box_at, message_at, gone_at}
use Rattle.imap_model.specs.WellFormed.{Rises, GoOnce, Differ, IsWellFormedBox, IsWellFormed}
use Rattle.imap_model.specs.declared.server.Message.{Message}
use Rattle.imap_model.specs.declared.server.Gone.{Gone}
use Rattle.imap_model.specs.declared.server.Mailbox.{Mailbox}
use Rattle.server_mem.specs.Checks.{holds_nul, message_fits, messages_fit, gone_fits, all_gone_fit, box_fits, boxes_fit}

lacks : {A : Type 0} (o : Option A) → o ≡ None → not (is_some o) ≡ true
lacks o none = ap (λ (x : Option _). not (is_some x)) none

no_nul : (text : List ℕ) → ¬ (Contains text 0) → not (holds_nul text) ≡ true
no_nul text plain =
    not_from_false (holds_nul text) (false_from_ne_true (holds_nul text)
    (λ t. plain (Contains-from_any {eq = λ (x : ℕ) (y : ℕ). eqb y x} (λ x y e. sym (eqb-true y x e)) 0 text t)))

-- each message that is found has these numbers and such a text
record AllFit (next highest : ℕ) (ms : List Message) : Type 0 where
  pub below : (u : ℕ) (m : Message) → message_at u ms ≡ Some m → u < next
  pub numbered : (u : ℕ) (m : Message) → message_at u ms ≡ Some m → m.modseq ≤ highest
  pub plain : (u : ℕ) (m : Message) → message_at u ms ≡ Some m → ¬ (Contains m.text 0)

-- messages that rise are found from this number on
least_found : (least : ℕ) (ms : List Message) → Rises least ms → (u : ℕ) (m : Message) → message_at u ms ≡ Some m → least ≤ u
least_found least [] rises u m = λ e. absurd (cc)
least_found least (x ∷ xs) rises u m =
    cond_both (eqb x.uid u) (Some x) (message_at u xs) (λ (o : Option Message). o ≡ Some m → least ≤ u)
    (λ t e. omega (arith, rises.0, eqb-true x.uid u t))
    (λ f e. omega (arith, rises.0, least_found (x.uid + 1) xs rises.1 u m e))

-- so those behind the first one are found past it
found_behind : (x : Message) (xs : List Message) → Rises (x.uid + 1) xs → (u : ℕ) (m : Message) → message_at u xs ≡ Some m → message_at u (x ∷ xs) ≡ Some m
found_behind x xs rises u m e =
    let past : x.uid + 1 ≤ u = least_found (x.uid + 1) xs rises u m e in
    cond-false (eqb x.uid u) (Some x) (message_at u xs) (ne_eqb x.uid u (λ same. absurd (omega (arith, past, same)))) ∙ e

found_first : (x : Message) (xs : List Message) → message_at x.uid (x ∷ xs) ≡ Some x
found_first x xs = cond-true (eqb x.uid x.uid) (Some x) (message_at x.uid xs) (eq-eqb x.uid x.uid refl)

fit_passes : (low next highest : ℕ) (ms : List Message) → Rises low ms → AllFit next highest ms → messages_fit low next highest ms ≡ true
fit_passes low next highest [] rises all = refl
fit_passes low next highest (x ∷ xs) rises all =
    let there = found_first x xs in
    and_from (message_fits low next highest x) (messages_fit (x.uid + 1) next highest xs)
    (and_from (nat_le low x.uid) (nat_lt x.uid next && (nat_le x.modseq highest && not (holds_nul x.text))) (le-leb low x.uid rises.0)
    (and_from (nat_lt x.uid next) (nat_le x.modseq highest && not (holds_nul x.text)) (lt-ltb x.uid next (all.below x.uid x there))
    (and_from (nat_le x.modseq highest) (not (holds_nul x.text)) (le-leb x.modseq highest (all.numbered x.uid x there))
    (no_nul x.text (all.plain x.uid x there)))))
    (fit_passes (x.uid + 1) next highest xs rises.1 (record {
      below = λ u m e. all.below u m (found_behind x xs rises.1 u m e);
      numbered = λ u m e. all.numbered u m (found_behind x xs rises.1 u m e);
      plain = λ u m e. all.plain u m (found_behind x xs rises.1 u m e);
    }))

-- each UID that went has such numbers, and isn't there
record AllGone (ms : List Message) (next highest : ℕ) (gs : List Gone) : Type 0 where
  pub below : (u k : ℕ) → gone_at u gs ≡ Some k → u < next
  pub numbered : (u k : ℕ) → gone_at u gs ≡ Some k → k ≤ highest
  pub apart : (u k : ℕ) → gone_at u gs ≡ Some k → message_at u ms ≡ None

gone_first : (g : Gone) (gs : List Gone) → gone_at g.uid (g ∷ gs) ≡ Some g.modseq
gone_first g gs = cond-true (eqb g.uid g.uid) (Some g.modseq) (gone_at g.uid gs) (eq-eqb g.uid g.uid refl)

gone_behind : (g : Gone) (gs : List Gone) → gone_at g.uid gs ≡ None → (u k : ℕ) → gone_at u gs ≡ Some k → gone_at u (g ∷ gs) ≡ Some k
gone_behind g gs once u k e =
    cond-false (eqb g.uid u) (Some g.modseq) (gone_at u gs) (ne_eqb g.uid u (λ same. none-some k (sym once ∙ ap (λ (v : ℕ). gone_at v gs) same ∙ e))) ∙ e

gone_passes : (ms : List Message) (next highest : ℕ) (gs : List Gone) → GoOnce gs → AllGone ms next highest gs → all_gone_fit ms next highest gs ≡ true
gone_passes ms next highest [] once all = refl
gone_passes ms next highest (g ∷ gs) once all =
    let there = gone_first g gs in
    let apart = lacks (message_at g.uid ms) (all.apart g.uid g.modseq there) in
    and_from (gone_fits ms next highest g gs) (all_gone_fit ms next highest gs)
    (and_from (nat_lt g.uid next) (nat_le g.modseq highest && (not (is_some (message_at g.uid ms)) && not (is_some (gone_at g.uid gs))))
    (lt-ltb g.uid next (all.below g.uid g.modseq there))
    (and_from (nat_le g.modseq highest) (not (is_some (message_at g.uid ms)) && not (is_some (gone_at g.uid gs)))
    (le-leb g.modseq highest (all.numbered g.uid g.modseq there))
    (and_from (not (is_some (message_at g.uid ms))) (not (is_some (gone_at g.uid gs))) apart (lacks (gone_at g.uid gs) once.0))))
    (gone_passes ms next highest gs once.1 (record {
      below = λ u k e. all.below u k (gone_behind g gs once.0 u k e);
      numbered = λ u k e. all.numbered u k (gone_behind g gs once.0 u k e);
      apart = λ u k e. all.apart u k (gone_behind g gs once.0 u k e);
    }))

box_passes : (b : Mailbox) → IsWellFormedBox b → box_fits b ≡ true
box_passes b w =
    and_from (messages_fit 0 b.uidnext b.highest b.messages) (all_gone_fit b.messages b.uidnext b.highest b.gone)
    (fit_passes 0 b.uidnext b.highest b.messages w.rise (record { below = w.below; numbered = w.numbered; plain = w.plain }))
    (gone_passes b.messages b.uidnext b.highest b.gone w.once (record { below = w.gone_below; numbered = w.gone_numbered; apart = w.apart }))

named_first : (b : Mailbox) (bs : List Mailbox) → box_at b.name (b ∷ bs) ≡ Some b
named_first b bs = cond-true (bytes_eq b.name b.name) (Some b) (box_at b.name bs) (names_same b.name b.name refl)

named_behind : (b : Mailbox) (bs : List Mailbox) → box_at b.name bs ≡ None → (name : List ℕ) (x : Mailbox) → box_at name bs ≡ Some x →
    box_at name (b ∷ bs) ≡ Some x
named_behind b bs apart name x e =
    cond-false (bytes_eq b.name name) (Some b) (box_at name bs) (names_differ b.name name
    (λ same. none-some x (sym apart ∙ ap (λ (n : List ℕ). box_at n bs) same ∙ e))) ∙ e

passes : (bs : List Mailbox) → Differ bs → ((name : List ℕ) (b : Mailbox) → box_at name bs ≡ Some b → IsWellFormedBox b) → boxes_fit bs ≡ true
passes [] names each = refl
passes (b ∷ bs) names each =
    and_from (box_fits b && not (is_some (box_at b.name bs))) (boxes_fit bs)
    (and_from (box_fits b) (not (is_some (box_at b.name bs))) (box_passes b (each b.name b (named_first b bs))) (lacks (box_at b.name bs) names.0))
    (passes bs names.1 (λ name x e. each name x (named_behind b bs names.0 name x e)))

pub well_checked : (bs : List Mailbox) → IsWellFormed bs → boxes_fit bs ≡ true
well_checked bs w = passes bs w.names w.each
