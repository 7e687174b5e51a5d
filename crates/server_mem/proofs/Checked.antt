-- What passes the tests is well formed.
use Rattle.std.proofs.Common.{◌≡◌, ℕ, ◌+◌, ◌<◌, ◌≤◌, true, not, eqb, ◌&&◌, List, [], ◌∷◌, Option, Some, None, refl, subst}
use Rattle.std.specs.Prelude.{Contains, nat_le, nat_lt, is_some, bytes_eq}
use Rattle.std.proofs.lemmas.Bool.{cond_both, and_parts, not-true, leb-true, ltb-true, eqb-true}
use Rattle.std.proofs.lemmas.Option.{same_Some}
use Rattle.imap_model.specs.Lookups.{box_at, message_at, gone_at}
use Rattle.imap_model.specs.WellFormed.{Rises, GoOnce, Differ, IsWellFormedBox, IsWellFormed}
use Rattle.imap_model.proofs.Possible.{plain_fact}
use Rattle.imap_model.specs.declared.server.Message.{Message}
use Rattle.imap_model.specs.declared.server.Gone.{Gone}
use Rattle.imap_model.specs.declared.server.Mailbox.{Mailbox}
use Rattle.server_mem.specs.Checks.{holds_nul, message_fits, messages_fit, gone_fits, all_gone_fit, box_fits, boxes_fit}

none_of : {A : Type 0} (o : Option A) → not (is_some o) ≡ true → o ≡ None
none_of None t = refl
none_of (Some x) t = absurd (cc)

pub record Fits (low next highest : ℕ) (m : Message) : Type 0 where
  pub above : low ≤ m.uid
  pub below : m.uid < next
  pub numbered : m.modseq ≤ highest
  pub plain : ¬ (Contains m.text 0)

fits : (low next highest : ℕ) (m : Message) → message_fits low next highest m ≡ true → Fits low next highest m
fits low next highest m t =
    let a = and_parts (nat_le low m.uid) (nat_lt m.uid next && (nat_le m.modseq highest && not (holds_nul m.text))) t in
    let b = and_parts (nat_lt m.uid next) (nat_le m.modseq highest && not (holds_nul m.text)) a.1 in
    let d = and_parts (nat_le m.modseq highest) (not (holds_nul m.text)) b.1 in
    record {
      above = leb-true low m.uid a.0;
      below = ltb-true m.uid next b.0;
      numbered = leb-true m.modseq highest d.0;
      plain =
          plain_fact m.text (not-true (holds_nul m.text) d.1);
    }

rises : (low next highest : ℕ) (ms : List Message) → messages_fit low next highest ms ≡ true → Rises low ms
rises low next highest [] t = tt
rises low next highest (m ∷ ms) t =
    let both = and_parts (message_fits low next highest m) (messages_fit (m.uid + 1) next highest ms) t in
    ((fits low next highest m both.0).above, rises (m.uid + 1) next highest ms both.1)

one_fits : (low next highest : ℕ) (ms : List Message) → messages_fit low next highest ms ≡ true → (u : ℕ) (m : Message) →
    message_at u ms ≡ Some m → (m.uid ≡ u) × ((l : ℕ) × Fits l next highest m)
one_fits low next highest [] t u m = λ e. absurd (cc)
one_fits low next highest (x ∷ ms) t u m =
    let both = and_parts (message_fits low next highest x) (messages_fit (x.uid + 1) next highest ms) t in
    cond_both (eqb x.uid u) (Some x) (message_at u ms) (λ (o : Option Message). o ≡ Some m → (m.uid ≡ u) × ((l : ℕ) × Fits l next highest m))
    (λ s e. subst (λ (y : Message). (y.uid ≡ u) × ((l : ℕ) × Fits l next highest y)) (same_Some x m e)
    (eqb-true x.uid u s, (low, fits low next highest x both.0)))
    (λ _ e. one_fits (x.uid + 1) next highest ms both.1 u m e)

pub record GoneFits (ms : List Message) (next highest u k : ℕ) : Type 0 where
  pub below : u < next
  pub numbered : k ≤ highest
  pub apart : message_at u ms ≡ None

gone_fit : (ms : List Message) (next highest : ℕ) (g : Gone) (gs : List Gone) → gone_fits ms next highest g gs ≡ true →
    GoneFits ms next highest g.uid g.modseq × (gone_at g.uid gs ≡ None)
gone_fit ms next highest g gs t =
    let a = and_parts (nat_lt g.uid next) (nat_le g.modseq highest && (not (is_some (message_at g.uid ms)) && not (is_some (gone_at g.uid gs)))) t in
    let b = and_parts (nat_le g.modseq highest) (not (is_some (message_at g.uid ms)) && not (is_some (gone_at g.uid gs))) a.1 in
    let d = and_parts (not (is_some (message_at g.uid ms))) (not (is_some (gone_at g.uid gs))) b.1 in (
      record { below = ltb-true g.uid next a.0; numbered = leb-true g.modseq highest b.0; apart = none_of (message_at g.uid ms) d.0 },
      none_of (gone_at g.uid gs) d.1,
    )

go_once : (ms : List Message) (next highest : ℕ) (gs : List Gone) → all_gone_fit ms next highest gs ≡ true → GoOnce gs
go_once ms next highest [] t = tt
go_once ms next highest (g ∷ gs) t =
    let both = and_parts (gone_fits ms next highest g gs) (all_gone_fit ms next highest gs) t in
    ((gone_fit ms next highest g gs both.0).1, go_once ms next highest gs both.1)

one_gone : (ms : List Message) (next highest : ℕ) (gs : List Gone) → all_gone_fit ms next highest gs ≡ true → (u k : ℕ) →
    gone_at u gs ≡ Some k → GoneFits ms next highest u k
one_gone ms next highest [] t u k = λ e. absurd (cc)
one_gone ms next highest (g ∷ gs) t u k =
    let both = and_parts (gone_fits ms next highest g gs) (all_gone_fit ms next highest gs) t in
    cond_both (eqb g.uid u) (Some g.modseq) (gone_at u gs) (λ (o : Option ℕ). o ≡ Some k → GoneFits ms next highest u k)
    (λ s e. subst (λ (v : ℕ). GoneFits ms next highest v k) (eqb-true g.uid u s)
    (subst (λ (j : ℕ). GoneFits ms next highest g.uid j) (same_Some g.modseq k e) (gone_fit ms next highest g gs both.0).0))
    (λ _ e. one_gone ms next highest gs both.1 u k e)

box_well : (b : Mailbox) → box_fits b ≡ true → IsWellFormedBox b
box_well b t =
    let both = and_parts (messages_fit 0 b.uidnext b.highest b.messages) (all_gone_fit b.messages b.uidnext b.highest b.gone) t in
    record {
      rise = rises 0 b.uidnext b.highest b.messages both.0;
      below = λ u m e. let f = one_fits 0 b.uidnext b.highest b.messages both.0 u m e in subst (λ (v : ℕ). v < b.uidnext) f.0 f.1.1.below;
      numbered = λ u m e. (one_fits 0 b.uidnext b.highest b.messages both.0 u m e).1.1.numbered;
      plain = λ u m e. (one_fits 0 b.uidnext b.highest b.messages both.0 u m e).1.1.plain;
      gone_below = λ u k e. (one_gone b.messages b.uidnext b.highest b.gone both.1 u k e).below;
      gone_numbered = λ u k e. (one_gone b.messages b.uidnext b.highest b.gone both.1 u k e).numbered;
      apart = λ u k e. (one_gone b.messages b.uidnext b.highest b.gone both.1 u k e).apart;
      once = go_once b.messages b.uidnext b.highest b.gone both.1;
    }

parts : (b : Mailbox) (bs : List Mailbox) → boxes_fit (b ∷ bs) ≡ true → (box_fits b ≡ true) × ((box_at b.name bs ≡ None) × (boxes_fit bs ≡ true))
parts b bs t =
    let a = and_parts (box_fits b && not (is_some (box_at b.name bs))) (boxes_fit bs) t in
    let d = and_parts (box_fits b) (not (is_some (box_at b.name bs))) a.0 in (d.0, (none_of (box_at b.name bs) d.1, a.1))

differ : (bs : List Mailbox) → boxes_fit bs ≡ true → Differ bs
differ [] t = tt
differ (b ∷ bs) t = let p = parts b bs t in (p.1.0, differ bs p.1.1)

each : (bs : List Mailbox) → boxes_fit bs ≡ true → (name : List ℕ) (b : Mailbox) → box_at name bs ≡ Some b → IsWellFormedBox b
each [] t name b = λ e. absurd (cc)
each (x ∷ bs) t name b =
    let p = parts x bs t in
    cond_both (bytes_eq x.name name) (Some x) (box_at name bs) (λ (o : Option Mailbox). o ≡ Some b → IsWellFormedBox b)
    (λ _ e. subst IsWellFormedBox (same_Some x b e) (box_well x p.0))
    (λ _ e. each bs p.1.1 name b e)

pub checked_well : (bs : List Mailbox) → boxes_fit bs ≡ true → IsWellFormed bs
checked_well bs t = record { names = differ bs t; each = each bs t }
