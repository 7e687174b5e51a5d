-- A book that each stop leaves rests while the link is called.
use Rattle.std.proofs.Common.{Some}
use Rattle.action_queue.specs.Book.{Meaning}
use Rattle.imap_model.specs.Talking.{Peer}
use Rattle.play_driver.proofs.Links.{books_there}
use Rattle.play_driver.specs.Joining.{AnyTwo}
use Rattle.play_driver.specs.TrueRecords.{BookRests}
use Rattle.store_core.specs.Mail.{mail}
use Rattle.store_core.specs.Steps.{Firm}
use Rattle.store_core.specs.Taking.{HasBooks}
use Rattle.world_traits.proofs.Passing.{since_weaker}
use Rattle.world_traits.proofs.Traces.{since_carry}
use Rattle.world_traits.specs.Links.{Any, LinkStep, Linked}
use Rattle.world_traits.specs.Moments.{Clock, Moment}

abbrev Has : Meaning → Moment → Type 0
Has b m = HasBooks mail (Firm (Some b)) m

pub book_rests_linked : (b : Meaning) (S : Peer → Peer → Type 0) (old new : Clock) → HasBooks mail (Firm (Some b)) old.now → Linked S old new →
    BookRests b old new
book_rests_linked b S old new has linked =
    since_weaker (λ m. Any m × Has b m) (Has b) (λ m n. Has b m × LinkStep S m n) AnyTwo (λ m p. p.1) (λ m n s. tt) old new
    (since_carry Any (Has b) (LinkStep S) (λ m n any s h. books_there S m n s mail (Firm (Some b)) h) old has new linked)
