-- What a mailbox that is renewed between two runs leaves of what others are asked for.
use Rattle.std.proofs.Common.{◌≡◌, ◌≢◌, inl, inr, ◌⊎◌, ℕ, ◌<◌, true, false, List, [], ◌∷◌, Option, Some, None, refl, sym, ◌∙◌, ap, subst, arith, lit<, lit≤}
use Rattle.std.specs.Prelude.{bytes_eq}
use Rattle.std.proofs.lemmas.Bool.{cases_Bool}
use Rattle.std.proofs.lemmas.Option.{same_Some}
use Rattle.imap_model.specs.Carrying.{Waiting}
use Rattle.imap_model.specs.Changes.{Changes, Resets, Rewrites}
use Rattle.imap_model.specs.Changes.Batch.{more, none}
use Rattle.imap_model.specs.Lookups.{box_at}
use Rattle.imap_model.specs.Talking.Answering.{others}
use Rattle.imap_model.specs.Talking.Connecting.{as_before, ends}
use Rattle.imap_model.specs.declared.deed.Author.TheVariants.{Other}
use Rattle.imap_model.specs.declared.deed.Change.TheVariants as changes
use Rattle.imap_model.specs.declared.server.Mailbox.{Mailbox}
use Rattle.imap_model.specs.declared.server.Server.{Server}
use Rattle.imap_model.proofs.Effects.{rewritten_other, rewritten_there}
use Rattle.imap_model.proofs.Finding.{same_name}
use Rattle.imap_model.proofs.Going.{names_apart}
use Rattle.action_queue.specs.Book.{Meaning}
use Rattle.book_laws.specs.Polite.{KeepsBox, KeepsWaiting, Spares, has_validity}
use Rattle.book_laws.proofs.Foreign.{spared_same}
use Rattle.world_traits.specs.Files.{Stored}
use Rattle.world_traits.specs.Moments.{Moment}
use Rattle.mail_top.specs.FairRuns.{FairlyGoesOn, SparesBetween}
use Rattle.mail_top.specs.FairRuns.FollowsFairly.{by_others}
use Rattle.mail_top.specs.Renewals.{MayBeRenewed, NoneWaitsIn, RenewsSelected, archive, archive_renewed, box_under, ended, inbox, inbox_renewed, lost}
use Rattle.mail_top.specs.Renewals.{server_before, store, with_server}
use Rattle.mail_top.proofs.Between.{spared_between}

-- two names are one, or two
by_names : {A : Type 0} → (a b : List ℕ) → (a ≡ b → A) → (a ≢ b → A) → (bytes_eq a b ≡ true) ⊎ (bytes_eq a b ≡ false) → A
by_names a b same apart (inl t) = same (same_name a b t)
by_names a b same apart (inr f) = apart (names_apart a b f)

module _ (name : List ℕ) (validity : ℕ) (uids : List ℕ) (uidnext highest : ℕ) (s t : Server)
    (r : Rewrites (Resets validity uids uidnext highest) name s.boxes t.boxes) where
  same_names : (b c : Mailbox) → Resets validity uids uidnext highest b c → c.name ≡ b.name
  same_names b c resets = ap (λ (x : Mailbox). x.name) resets.becomes

  others_stay : (n : List ℕ) → n ≢ name → box_at n t.boxes ≡ box_at n s.boxes
  others_stay n apart = rewritten_other (Resets validity uids uidnext highest) name n s.boxes t.boxes same_names apart r

  -- the mailbox that was renewed has another UIDVALIDITY
  differs : (x y : Mailbox) → box_at name s.boxes ≡ Some x → box_at name t.boxes ≡ Some y → y.validity ≡ x.validity → ⊥
  differs x y f g v =
      let was : r.before ≡ x = same_Some r.before x (sym r.there ∙ f) in
      let is : r.after ≡ y = same_Some r.after y (sym (rewritten_there (Resets validity uids uidnext highest) name s.boxes t.boxes same_names r) ∙ g) in
      let low : r.before.validity ≡ x.validity = ap (λ (b : Mailbox). b.validity) was in
      let high : r.after.validity ≡ y.validity = ap (λ (b : Mailbox). b.validity) is in
      let told : r.after.validity ≡ validity = ap (λ (b : Mailbox). b.validity) r.becomes.becomes in
      let above : r.before.validity < validity = r.becomes.above in
      omega (arith, above, low, high, told, v)

  -- so each append is spared
  spared : (b : Meaning) → Spares b s.boxes t.boxes
  spared b = λ q to flags text id x y e a f g v.
      by_names to name
      (λ same. absurd (differs x y (subst (λ (n : List ℕ). box_at n s.boxes ≡ Some x) same f) (subst (λ (n : List ℕ). box_at n t.boxes ≡ Some y) same g) v))
      (λ apart. spared_same (Some b) s q to flags text id x y e a f (sym (others_stay to apart) ∙ g) v)
      (cases_Bool (bytes_eq to name))

  kept_box : (selected : Option (List ℕ)) → selected ≢ Some name → KeepsBox selected s.boxes t.boxes
  kept_box None apart = tt
  kept_box (Some n) apart = ap has_validity (others_stay n (λ e. apart (ap Some e)))

  kept_waiting : (waiting : Option Waiting) → NoneWaitsIn name waiting → KeepsWaiting waiting s.boxes t.boxes
  kept_waiting None waits = tt
  kept_waiting (Some w) waits = kept_box w.selected (waits w refl)

-- where the mailbox isn't selected, others are fair
renewed_step : (m : Moment) (t : Server) (name : List ℕ) (validity : ℕ) (uids : List ℕ) (uidnext highest : ℕ) →
    m.outside.talk.selected ≢ Some name → NoneWaitsIn name m.outside.waiting →
    Changes m.outside.server.boxes Other name (changes.Reset validity uids uidnext highest) m.outside.server t → FairlyGoesOn m (with_server t m)
renewed_step m t name validity uids uidnext highest apart waits c = record {
  step = record { left = refl; right = refl; outside = as_before (others t (more name (changes.Reset validity uids uidnext highest) c none)) };
  fair = record { each = λ files b leaves holds batch. each b };
}
  where
    each : (b : Option Meaning) → SparesBetween b m.outside t
    each None = tt
    each (Some b) = record {
      append =
          λ to told from pending. spared name validity uids uidnext highest m.outside.server t c.effect b;
      selected =
          kept_box name validity uids uidnext highest m.outside.server t c.effect m.outside.talk.selected apart;
      waiting =
          kept_waiting name validity uids uidnext highest m.outside.server t c.effect m.outside.waiting waits;
    }

-- the end of a connection changes nothing at the server
ended_step : (m : Moment) → FairlyGoesOn m (ended m)
ended_step m = record {
  step = record { left = refl; right = refl; outside = ends };
  fair = record { each = λ files b leaves holds batch. spared_between b m.outside };
}

pub may_be_renewed : MayBeRenewed
may_be_renewed first m t name validity uids uidnext highest so_far waits c =
    by_others (ended m) (with_server t (ended m)) (by_others m (ended m) so_far (ended_step m))
    (renewed_step (ended m) t name validity uids uidnext highest (λ e. absurd (cc)) waits c)

-- the example
inbox_resets : Changes server_before.boxes Other inbox (changes.Reset 6 (1 ∷ []) 2 800) server_before inbox_renewed
inbox_resets = record {
  effect = record {
    before = box_under inbox 5 715;
    after = box_under inbox 6 800;
    there = refl;
    becomes = record { above = lit< tt; rise = (lit≤ tt, lit< tt, tt); as_many = refl; becomes = refl };
    put = refl;
  };
  history = refl;
}

archive_resets : Changes server_before.boxes Other archive (changes.Reset 10 (1 ∷ []) 2 400) server_before archive_renewed
archive_resets = record {
  effect = record {
    before = box_under archive 9 300;
    after = box_under archive 10 400;
    there = refl;
    becomes = record { above = lit< tt; rise = (lit≤ tt, lit< tt, tt); as_many = refl; becomes = refl };
    put = refl;
  };
  history = refl;
}

-- INBOX has another UIDVALIDITY then
not_kept : KeepsBox (Some inbox) server_before.boxes inbox_renewed.boxes → ⊥
not_kept e = let same : 6 ≡ 5 = same_Some 6 5 e in absurd (omega (arith, same))

inbox_apart : Some inbox ≢ Some archive
inbox_apart e = let same : inbox ≡ archive = same_Some inbox archive e in absurd (cc)

pub renews_selected : (left right : Stored) → RenewsSelected left right
renews_selected left right = record {
  ends = ended_step (lost None left right);
  renews = renewed_step (ended (lost None left right)) inbox_renewed inbox 6 (1 ∷ []) 2 800 (λ e. absurd (cc)) (λ w e. absurd (cc)) inbox_resets;
  another =
      renewed_step (lost (Some store) left right) archive_renewed archive 10 (1 ∷ []) 2 400 inbox_apart
      (λ w e. subst (λ (x : Waiting). x.selected ≢ Some archive) (same_Some store w e) inbox_apart) archive_resets;
  not_before = λ b spares. not_kept spares.selected;
  not_waiting = λ b spares. not_kept spares.waiting;
}
