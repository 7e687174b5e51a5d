-- What each kind of call keeps, and calls one behind another.
use Rattle.std.proofs.Common.{⊎_elim, Some}
use Rattle.imap_model.specs.Talking.{Peer}
use Rattle.world_traits.specs.Asking.{Asking}
use Rattle.world_traits.specs.Links.{Any, LinkStep}
use Rattle.world_traits.specs.Moments.{Moment, Clock, Since, GoesOn, Within, restarted}
use Rattle.world_traits.proofs.Narrowing.{restart_within, within_keeps}
use Rattle.world_traits.proofs.Passing.{since_start, since_then, since_weaker}
use Rattle.world_traits.proofs.Traces.{carried_now}
use Rattle.store_core.specs.Keeping.{Keeping}
use Rattle.store_core.specs.Books.{HoldsBook}
use Rattle.store_core.proofs.Folding.{OneEvent}
use Rattle.store_core.specs.Steps.{Firm}
use Rattle.play_driver.specs.Machine.{Relation, Machine, Withstands}
use Rattle.play_driver.specs.Joining.{Relates, IsKept, Joined, IsFair, AllFair, StaysJoined, AnyTwo, Grows}
use Rattle.imap_session.specs.Enquiring.{Enquiring}
use Rattle.play_driver.specs.SentOnce.{AsksOnce}
use Rattle.play_driver.specs.Laws.{RecordingJoins, OpeningJoins, LinkJoins, EnquiryJoins, SendingJoins, ChoosingJoins, BeginningJoins}
use Rattle.play_driver.specs.Laws.{RecordingKeeps, OpeningKeeps, StopKeeps, LinkKeeps}
use Rattle.play_driver.proofs.Once.{asks_once}
use Rattle.play_driver.proofs.Steps.{run_keeps}
use Rattle.play_driver.proofs.Choices.{narrows_keeps, settles_joins}
use Rattle.play_driver.proofs.Files.{takes_keeps, takes_joins}
use Rattle.play_driver.proofs.Beginnings.{chooses_joins, begins_joins}
use Rattle.play_driver.proofs.Links.{linked_keeps, linked_joins}
use Rattle.play_driver.proofs.Questions.{enquiring_steps}
use Rattle.play_driver.proofs.Longer.{in_order}
use Rattle.play_driver.proofs.Parts.{grows_start, since_first, since_second}

-- any relation, without a machine
module _ (K : Keeping) (R : Relation K) where
  anyhow : (S : Moment → Moment → Type 0) (old new : Clock) → Since (IsKept K R) S old new → Since (IsKept K R) AnyTwo old new
  anyhow S old new s = since_weaker (IsKept K R) (IsKept K R) S AnyTwo (λ m p. p) (λ m n step. tt) old new s

  pub recording_keeps : RecordingKeeps K R
  recording_keeps b e old new before after takes =
      anyhow (GoesOn (HoldsBook K b) (HoldsBook K (Some (K.next_book b e)))) old new (takes_keeps K R b e old new before after takes)

  pub opening_keeps : OpeningKeeps K R
  opening_keeps old new kept narrows = anyhow Within old new (narrows_keeps K R old new kept narrows)

  pub stop_keeps : StopKeeps K R
  stop_keeps m files leaves kept = within_keeps (Relates K R) m (restarted files m) kept (restart_within m files leaves)

  pub link_keeps : (S : Peer → Peer → Type 0) → LinkKeeps K R S
  link_keeps S stands old new kept linked = anyhow (LinkStep S) old new (linked_keeps K R S stands old new kept linked)

module _ (K : Keeping) (one : OneEvent K) (R : Relation K) (M : Machine K) (stands : Withstands K M R) where
  -- what is joined whatever others do
  joined_stays : (old new : Clock) → IsKept K R old.now → Since Any (Joined K M) old new → StaysJoined K R M old new
  joined_stays old new kept joined at before after fair =
      run_keeps K M R stands one old at kept (since_first Any (Joined K M) old at new before after joined)

  -- the recording of an event that is permitted
  pub takes_stays : RecordingJoins K R M
  takes_stays version b e old new may permits kept takes =
      joined_stays old new kept (takes_joins K M version b e may old permits new takes)

  -- an opening
  pub settles_stays : OpeningJoins K R M
  settles_stays x old new seen has leaves kept settles narrows =
      joined_stays old new kept (settles_joins K M x old seen has leaves new settles narrows)

  -- a store is opened, or a book begun
  pub chooses_stays : ChoosingJoins K R M
  chooses_stays old new kept s = joined_stays old new kept (chooses_joins K M old new s)

  pub begins_stays : BeginningJoins K R M
  begins_stays version e old new may permits kept b = joined_stays old new kept (begins_joins K M version e may old new permits b)

  -- calls of the link, by what is known of server and connection
  pub linked_stays : (S : Peer → Peer → Type 0) (Known : Peer → Type 0) → LinkJoins K R M S Known
  linked_stays S Known x go old new has known kept linked at before after fair =
      run_keeps K M R stands one old at kept
      (linked_joins K M S x Known go old has known at (since_first Any (LinkStep S) old at new before after linked) fair)

  -- calls of a session that ask questions alone, beside any books
  pub enquires_stays : EnquiryJoins K R M
  enquires_stays x old new has kept linked =
      linked_stays Enquiring (λ p. Unit {0}) x (λ p q s spares u. (tt, enquiring_steps K M x p q s spares)) old new has tt kept linked

  -- and a command of the book
  pub sends_stays : SendingJoins K R M
  sends_stays b told tag command old new has asks kept linked =
      linked_stays (Asking told tag command) (AsksOnce K M b told tag command) (Firm (Some b))
      (asks_once K M stands.sendable b told tag command) old new has asks kept linked

module _ (K : Keeping) (R : Relation K) (M : Machine K) where
  pub stays_start : (k : Clock) → StaysJoined K R M k k
  stays_start k at before after fair = since_first (IsKept K R) (Joined K M) k at k before after (since_start (IsKept K R) (Joined K M) k)

  pub kept_last : (k l : Clock) → IsKept K R k.now → Since (IsKept K R) (Joined K M) k l → IsKept K R l.now
  kept_last k l kept s = carried_now (IsKept K R) (IsKept K R) (Joined K M) (λ m n here j h. here) k kept l s

  -- A run so far, and a call behind it, which rests on what is known where others were fair so far: a moment of both is one of the
  -- run, or one of the call.
  module _ (e k l : Clock) (kept : IsKept K R e.now) (before : Grows e k) (more : Grows k l) (Known : Type 0)
      (so_far : StaysJoined K R M e k) (known : AllFair K M e k → Known) (call : IsKept K R k.now → Known → StaysJoined K R M k l) where
    past_it : (at : Clock) → Grows k at → Grows at l → AllFair K M e at → Since (IsKept K R) (Joined K M) e at
    past_it at past left fair =
        let first = since_first Any (IsFair K M) e k at before past fair in
        let so = so_far k before (grows_start k) first in
        since_then (IsKept K R) (Joined K M) e k at so
        (call (kept_last e k kept so) (known first) at past left (since_second Any (IsFair K M) e k at before past fair))

    pub stays_on : StaysJoined K R M e l
    stays_on at reach left fair =
        ⊎_elim (λ (past : Grows k at). past_it at past left fair) (λ (early : Grows at k). so_far at reach early fair)
        (in_order e k at l before more reach left)

  -- two calls
  pub stays_then : (e k l : Clock) → IsKept K R e.now → Grows e k → Grows k l → StaysJoined K R M e k → (IsKept K R k.now → StaysJoined K R M k l) →
      StaysJoined K R M e l
  stays_then e k l kept before more a b = stays_on e k l kept before more (Unit {0}) a (λ fair. tt) (λ then known. b then)
