-- What becomes of a letter, by its answer.
use Rattle.std.proofs.Common.{◌≡◌, ℕ, List, Result, Ok, Err, refl, sym, ◌∙◌, ap, subst}
use Rattle.mail_base.specs.declared.status.Status.{Status}
use Rattle.mail_base.specs.declared.status.Status.TheVariants as status
use Rattle.mail_top.specs.Course.{Course}
use Rattle.mail_top.specs.Showing.{EndsShowing, IsOfReading}
use Rattle.mail_top.specs.Telling.{status_of, status_of_refusal, text_of}
use Rattle.mail_top.specs.declared.refusal.Refusal.{Refusal}
use Rattle.mail_top.specs.declared.refusal.Refusal.TheVariants as refusals
use Rattle.mail_top.proofs.Showings.{showing_ends}
use Rattle.look_run.specs.Ending.{EndsLetter, EndsLook}
use Rattle.look_run.specs.HistoryText.{history_text}
use Rattle.look_run.specs.LetterText.{IsLetter}
use Rattle.look_run.specs.Telling.{letter_status, letter_text}
use Rattle.look_run.specs.declared.look.Look.{Look}
use Rattle.look_run.specs.declared.look.Look.TheVariants as looks
use Rattle.look_run.specs.declared.look.LookReason.{LookReason}

-- so a letter is shown
letter_ends : (n : ℕ) (k : Course) (r : Result (Result (List ℕ) LookReason) Refusal) → EndsShowing (λ b answer. IsLetter b n answer) k r →
    EndsLetter n k (letter_status r) (letter_text r)
letter_ends n k (Ok (Ok text)) s = record { book = s.book; stays = s.stays; is = s.fits }
letter_ends n k (Ok (Err reason)) s = record { book = s.book; stays = s.stays; reason = reason; is = s.fits; text_is = refl }
letter_ends n k (Err (refusals.NotAJournal why)) s = s
letter_ends n k (Err refusals.Memory) s = s
letter_ends n k (Err refusals.Disk) s = s
letter_ends n k (Err refusals.Input) s = absurd s
letter_ends n k (Err refusals.Already) s = absurd s
letter_ends n k (Err (refusals.Reason reason)) s = absurd s
letter_ends n k (Err refusals.Actions) s = absurd s
letter_ends n k (Err (refusals.Full end)) s = absurd s
letter_ends n k (Err refusals.Generation) s = absurd s

-- what became of a look, of which this is the ending
module _ (look : Look) (k : Course) (s : Status) (x : List ℕ) where
  said_so : (t : Status) (y : List ℕ) → s ≡ t → x ≡ y → EndsLook look k t y → EndsLook look k s x
  said_so t y status_is text_is ends = subst (λ (u : Status). EndsLook look k u x) (sym status_is)
      (subst (λ (z : List ℕ). EndsLook look k t z) (sym text_is) ends)

  pub history_seen : look ≡ looks.History → (r : Result (List ℕ) Refusal) → s ≡ status_of r → x ≡ text_of (λ text. text) r →
      EndsShowing (λ b text. text ≡ history_text b) k r → EndsLook look k s x
  history_seen is r status_is text_is showing = said_so (status_of r) (text_of (λ text. text) r) status_is text_is
      (subst (λ (l : Look). EndsLook l k (status_of r) (text_of (λ text. text) r)) (sym is) (showing_ends history_text k r showing))

  pub letter_seen : (n : ℕ) → look ≡ looks.Letter n → (r : Result (Result (List ℕ) LookReason) Refusal) → s ≡ letter_status r → x ≡ letter_text r →
      EndsShowing (λ b answer. IsLetter b n answer) k r → EndsLook look k s x
  letter_seen n is r status_is text_is showing = said_so (letter_status r) (letter_text r) status_is text_is
      (subst (λ (l : Look). EndsLook l k (letter_status r) (letter_text r)) (sym is) (letter_ends n k r showing))

-- the refusals that have these statuses
disk_back : (x : Refusal) → status_of_refusal x ≡ status.Disk → x ≡ refusals.Disk
disk_back refusals.Disk is = refl
disk_back (refusals.NotAJournal why) is = absurd cc
disk_back refusals.Memory is = absurd cc
disk_back refusals.Input is = absurd cc
disk_back refusals.Already is = absurd cc
disk_back (refusals.Reason reason) is = absurd cc
disk_back refusals.Actions is = absurd cc
disk_back (refusals.Full end) is = absurd cc
disk_back refusals.Generation is = absurd cc

no_words : (x : Refusal) → status_of_refusal x ≡ status.Words → ⊥
no_words refusals.Disk is = absurd cc
no_words (refusals.NotAJournal why) is = absurd cc
no_words refusals.Memory is = absurd cc
no_words refusals.Input is = absurd cc
no_words refusals.Already is = absurd cc
no_words (refusals.Reason reason) is = absurd cc
no_words refusals.Actions is = absurd cc
no_words (refusals.Full end) is = absurd cc
no_words refusals.Generation is = absurd cc

no_output : (x : Refusal) → status_of_refusal x ≡ status.Output → ⊥
no_output refusals.Disk is = absurd cc
no_output (refusals.NotAJournal why) is = absurd cc
no_output refusals.Memory is = absurd cc
no_output refusals.Input is = absurd cc
no_output refusals.Already is = absurd cc
no_output (refusals.Reason reason) is = absurd cc
no_output refusals.Actions is = absurd cc
no_output (refusals.Full end) is = absurd cc
no_output refusals.Generation is = absurd cc

no_reason : (x : Refusal) → IsOfReading x → status_of_refusal x ≡ status.Reason → ⊥
no_reason refusals.Disk reading is = absurd cc
no_reason (refusals.NotAJournal why) reading is = absurd cc
no_reason refusals.Memory reading is = absurd cc
no_reason refusals.Input reading is = absurd cc
no_reason refusals.Already reading is = absurd cc
no_reason (refusals.Reason reason) reading is = absurd reading
no_reason refusals.Actions reading is = absurd cc
no_reason (refusals.Full end) reading is = absurd cc
no_reason refusals.Generation reading is = absurd cc

-- of a history
module _ (r : Result (List ℕ) Refusal) (s : Status) (said : s ≡ status_of r) where
  pub history_disk : s ≡ status.Disk → r ≡ Err refusals.Disk
  history_disk is = by_case r (sym said ∙ is)
    where
      by_case : (q : Result (List ℕ) Refusal) → status_of q ≡ status.Disk → q ≡ Err refusals.Disk
      by_case (Ok text) same = absurd cc
      by_case (Err x) same = ap (λ (y : Refusal). Err y) (disk_back x same)

  pub history_words : s ≡ status.Words → ⊥
  history_words is = by_case r (sym said ∙ is)
    where
      by_case : (q : Result (List ℕ) Refusal) → status_of q ≡ status.Words → ⊥
      by_case (Ok text) same = absurd cc
      by_case (Err x) same = no_words x same

  pub history_output : s ≡ status.Output → ⊥
  history_output is = by_case r (sym said ∙ is)
    where
      by_case : (q : Result (List ℕ) Refusal) → status_of q ≡ status.Output → ⊥
      by_case (Ok text) same = absurd cc
      by_case (Err x) same = no_output x same

  pub history_reason : ((refusal : Refusal) → r ≡ Err refusal → IsOfReading refusal) → s ≡ status.Reason → ⊥
  history_reason only is = by_case r refl (sym said ∙ is)
    where
      by_case : (q : Result (List ℕ) Refusal) → r ≡ q → status_of q ≡ status.Reason → ⊥
      by_case (Ok text) was same = absurd cc
      by_case (Err x) was same = no_reason x (only x was) same

-- and of a letter
module _ (r : Result (Result (List ℕ) LookReason) Refusal) (s : Status) (said : s ≡ letter_status r) where
  pub letter_disk : s ≡ status.Disk → r ≡ Err refusals.Disk
  letter_disk is = by_case r (sym said ∙ is)
    where
      by_case : (q : Result (Result (List ℕ) LookReason) Refusal) → letter_status q ≡ status.Disk → q ≡ Err refusals.Disk
      by_case (Ok (Ok text)) same = absurd cc
      by_case (Ok (Err reason)) same = absurd cc
      by_case (Err x) same = ap (λ (y : Refusal). Err y) (disk_back x same)

  pub letter_words : s ≡ status.Words → ⊥
  letter_words is = by_case r (sym said ∙ is)
    where
      by_case : (q : Result (Result (List ℕ) LookReason) Refusal) → letter_status q ≡ status.Words → ⊥
      by_case (Ok (Ok text)) same = absurd cc
      by_case (Ok (Err reason)) same = absurd cc
      by_case (Err x) same = no_words x same

  pub letter_output : s ≡ status.Output → ⊥
  letter_output is = by_case r (sym said ∙ is)
    where
      by_case : (q : Result (Result (List ℕ) LookReason) Refusal) → letter_status q ≡ status.Output → ⊥
      by_case (Ok (Ok text)) same = absurd cc
      by_case (Ok (Err reason)) same = absurd cc
      by_case (Err x) same = no_output x same
