-- How a look ends, told of its words and of what is printed.
use Rattle.std.proofs.Common.{◌≡◌, inl, inr, ℕ, ◌-◌, List, [], ◌∷◌, ◌++◌, Option, Some, None, Err, refl, sym, ◌∙◌, ap, subst, arith}
use Rattle.std.specs.Prelude.{slice_index}
use Rattle.mail_base.specs.declared.status.Status.{Status}
use Rattle.mail_base.specs.declared.status.Status.TheVariants as status
use Rattle.world_traits.specs.Moments.{MayLeave}
use Rattle.action_queue.specs.Book.{Meaning}
use Rattle.action_queue.specs.declared.action.Action.TheVariants as actions
use Rattle.action_queue.specs.declared.outcome.Outcome.{Outcome}
use Rattle.action_queue.specs.declared.queued.Queued.{Queued}
use Rattle.store_core.specs.Mail.{mail}
use Rattle.store_core.specs.HeldActions.{IsHeld}
use Rattle.store_core.proofs.Folding.{one_held}
use Rattle.store_core.proofs.MailBook.{one_mail_event}
use Rattle.store_core.proofs.Wholeness.{never_both}
use Rattle.mail_top.specs.Course.{Course}
use Rattle.mail_top.specs.Ending.{IsDone}
use Rattle.mail_top.specs.Printing.{IsSaid, Prints}
use Rattle.mail_top.proofs.Endings.{shown_done}
use Rattle.mail_top.proofs.Wording.{one_decimal}
use Rattle.look_run.specs.Ending.{AreSeen, AreWithLetter, Ends, EndsLetter, EndsLook, SaysLetter}
use Rattle.look_run.specs.HistoryText.{history_text}
use Rattle.look_run.specs.LetterText.{HasText, IsLetter, text_of}
use Rattle.look_run.specs.Words.{Asks, AsksNothing, WritesLetter}
use Rattle.look_run.specs.declared.look.Look.{Look}
use Rattle.look_run.specs.declared.look.Look.TheVariants as looks
use Rattle.look_run.specs.declared.look.LookReason.{LookReason}
use Rattle.look_run.specs.declared.look.LookReason.TheVariants as reasons

-- a failed output says as much of a look as a printed text
output_as : (look : Look) (k : Course) (text : List ℕ) → EndsLook look k status.Done text → EndsLook look k status.Output text
output_as looks.History k text ends = ends
output_as (looks.Letter n) k text ends = ends

-- no look ends with conflicts
no_conflicts : (look : Look) (k : Course) (text : List ℕ) → EndsLook look k status.Conflicts text → ⊥
no_conflicts looks.History k text ends = ends
no_conflicts (looks.Letter n) k text ends = ends

module _ (words : List (List ℕ)) (k : Course) (text : List ℕ) where
  output_ends : Ends words k status.Done text → Ends words k status.Output text
  output_ends (inl w) = absurd (let told = w.told in cc)
  output_ends (inr s) = inr (record { look = s.look; asks = s.asks; ends = output_as s.look k text s.ends })

  conflicts_ends : Ends words k status.Conflicts text → ⊥
  conflicts_ends (inl w) = absurd (let told = w.told in cc)
  conflicts_ends (inr s) = no_conflicts s.look k text s.ends

  pub said_ends : (r s : Status) → IsSaid s r → Ends words k s text → Ends words k r text
  said_ends r s (inl same) ends = subst (λ (t : Status). Ends words k t text) (sym same) ends
  said_ends r s (inr (inl done, is)) ends = subst (λ (t : Status). Ends words k t text) (sym is)
      (output_ends (subst (λ (t : Status). Ends words k t text) done ends))
  said_ends r s (inr (inr conflicts, is)) ends = absurd (conflicts_ends (subst (λ (t : Status). Ends words k t text) conflicts ends))

  -- what became of the words, of which this is the ending
  pub said_look : (look : Look) → Asks words look → (r : Status) → EndsLook look k r text → Ends words k r text
  said_look look asks r ends = inr (record { look = look; asks = asks; ends = ends })

-- the first byte of each command
abbrev byte_of : Look → ℕ
byte_of looks.History = 104
byte_of (looks.Letter n) = 108

abbrev first_byte : List (List ℕ) → ℕ
first_byte [] = 0
first_byte (w ∷ ws) = slice_index w 0

asked_byte : (words : List (List ℕ)) (look : Look) → Asks words look → first_byte words ≡ byte_of look
asked_byte words looks.History asks = ap first_byte asks.are
asked_byte words (looks.Letter n) asks = ap first_byte asks.are

second_word : (v w x y : List ℕ) → v ∷ x ∷ [] ≡ w ∷ y ∷ [] → x ≡ y
second_word v w x y is = cc

one_letter : (words : List (List ℕ)) (m n : ℕ) → WritesLetter words m → WritesLetter words n → m ≡ n
one_letter words m n a b =
    let same = second_word _ _ a.number b.number (sym a.are ∙ b.are) in
    one_decimal m n a.writes.fits b.writes.fits (sym a.writes.is ∙ same ∙ b.writes.is)

-- words ask for one look
pub one_look : (words : List (List ℕ)) (one other : Look) → Asks words one → Asks words other → one ≡ other
one_look words looks.History looks.History a b = refl
one_look words looks.History (looks.Letter n) a b =
    absurd (omega (arith, asked_byte words looks.History a, asked_byte words (looks.Letter n) b))
one_look words (looks.Letter m) looks.History a b =
    absurd (omega (arith, asked_byte words (looks.Letter m) a, asked_byte words looks.History b))
one_look words (looks.Letter m) (looks.Letter n) a b = ap looks.Letter (one_letter words m n a b)

-- the look of an end is the one that is asked for
ended_as : (words : List (List ℕ)) (k : Course) (r : Status) (text : List ℕ) (look : Look) → Asks words look → Ends words k r text →
    (r ≡ status.Words → AsksNothing words) → EndsLook look k r text
ended_as words k r text look asks (inl w) cause = absurd (w.nothing look asks)
ended_as words k r text look asks (inr s) cause =
    subst (λ (l : Look). EndsLook l k r text) (one_look words s.look look s.asks asks) s.ends

-- a letter that the book has isn't lacking
module _ (b : Meaning) (n : ℕ) (text : List ℕ) (has : HasText b n (Some text)) where
  never_lacks : (reason : LookReason) → IsLetter b n (Err reason) → ⊥
  never_lacks reasons.NoAction none = let bad : None ≡ Some has.queued = sym none ∙ has.there in cc bad
  never_lacks reasons.NoLetter none =
      let same : none.queued ≡ has.queued = cc (none.there, has.there) in
      let bad : None ≡ Some text = sym none.is ∙ ap (λ (q : Queued). text_of q.action) same ∙ has.is in cc bad

module _ (k : Course) (n : ℕ) (t : AreWithLetter n k.seen) where
  letter_done : (r : Status) (text : List ℕ) → EndsLetter n k r text → (r ≡ status.Disk → ⊥) → (r ≡ status.Output → ⊥) → IsDone r
  letter_done status.Done text ends no_disk no_output = inl refl
  letter_done status.Memory text ends no_disk no_output = inr refl
  letter_done status.Output text ends no_disk no_output = absurd (no_output refl)
  letter_done status.Disk text ends no_disk no_output = absurd (no_disk refl)
  letter_done status.Journal text ends no_disk no_output = absurd (never_both mail one_mail_event t.book k.seen t.holds ends.why ends.broken)
  letter_done status.Reason text ends no_disk no_output =
      let same = one_held mail one_mail_event k.seen ends.book t.book ends.stays.holds t.holds in
      absurd (never_lacks t.book n t.text t.is ends.reason (subst (λ (b : Meaning). IsLetter b n (Err ends.reason)) same ends.is))
  letter_done status.Limit text ends no_disk no_output = absurd ends
  letter_done status.Words text ends no_disk no_output = absurd ends
  letter_done status.Conflicts text ends no_disk no_output = absurd ends
  letter_done status.Link text ends no_disk no_output = absurd ends
  letter_done status.Refused text ends no_disk no_output = absurd ends
  letter_done status.Reply text ends no_disk no_output = absurd ends
  letter_done status.Lacking text ends no_disk no_output = absurd ends
  letter_done status.Validity text ends no_disk no_output = absurd ends
  letter_done status.Input text ends no_disk no_output = absurd ends
  letter_done status.Shelf text ends no_disk no_output = absurd ends

module _ (k : Course) where
  look_done : (look : Look) → AreSeen look k.seen → (r : Status) (text : List ℕ) → EndsLook look k r text → (r ≡ status.Disk → ⊥) →
      (r ≡ status.Output → ⊥) → IsDone r
  look_done looks.History t r text ends no_disk no_output = shown_done history_text k t r text ends no_disk no_output
  look_done (looks.Letter n) t r text ends no_disk no_output = letter_done k n t r text ends no_disk no_output

  -- what the files hold is shown, unless a fault or want of memory comes
  pub completes : (words : List (List ℕ)) (r : Status) (text : List ℕ) → Ends words k r text → (r ≡ status.Words → AsksNothing words) →
      (r ≡ status.Disk → ⊥) → (r ≡ status.Output → ⊥) → (look : Look) → Asks words look → AreSeen look k.seen → IsDone r
  completes words r text ends cause no_disk no_output look asks t =
      look_done look t r text (ended_as words k r text look asks ends cause) no_disk no_output

-- a letter that each stop leaves is the one that is shown
module _ (k : Course) (may : MayLeave k.old.now k.seen) (n : ℕ) (to : List ℕ) (flags : List (List ℕ)) (text id : List ℕ) (named : Option Outcome)
    (held : IsHeld (n - 1) (actions.Append to flags text id) named k.old.now) where
  one_text : (x : List ℕ) → SaysLetter n k x → x ≡ text
  one_text x says =
      let there = held.each k.seen may in
      let same = one_held mail one_mail_event k.seen says.book there.book says.stays.holds there.holds in
      let has = subst (λ (b : Meaning). HasText b n (Some x)) same says.is in
      let queued : has.queued ≡ there.has.queued = cc (has.there, there.has.there) in
      let is : Some x ≡ Some text = sym has.is ∙ ap (λ (q : Queued). text_of q.action) queued ∙ ap text_of there.has.asked in
      cc is

  letter_shown : (words : List (List ℕ)) → WritesLetter words n → (x : List ℕ) → Ends words k status.Done x → x ≡ text
  letter_shown words writes x ends =
      one_text x (ended_as words k status.Done x (looks.Letter n) writes ends (λ is. absurd cc))

  -- and so it is printed
  pub letter_printed : (words : List (List ℕ)) → WritesLetter words n → (r : Status) (x : List ℕ) → r ≡ status.Done → Ends words k r x →
      (old new : List ℕ) (faults faults_after : ℕ) → Prints r x old new faults faults_after → new ≡ old ++ text
  letter_printed words writes r x is ends old new faults faults_after prints =
      let same = letter_shown words writes x (subst (λ (s : Status). Ends words k s x) is ends) in
      let all : new ≡ old ++ x = subst (λ (s : Status). Prints s x old new faults faults_after) is prints in
      all ∙ ap (λ (y : List ℕ). old ++ y) same
