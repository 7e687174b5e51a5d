-- The link's half of the joining law: the files stand still, and the server with its connection goes on.
use Rattle.std.proofs.Common.{◌≡◌, Option, ◌∙◌, sym, subst}
use Rattle.imap_model.specs.Talking.{Peer}
use Rattle.world_traits.specs.Files.{Files, Stored, MayHold}
use Rattle.world_traits.specs.Links.{Any, LinkStep, Linked}
use Rattle.world_traits.specs.Moments.{Moment, MayLeave, Clock, Since, Occurs, Rests}
use Rattle.world_traits.proofs.Passing.{since_weaker}
use Rattle.world_traits.proofs.Resting.{resting}
use Rattle.world_traits.proofs.Traces.{since_both, since_carry, carried_now}
use Rattle.store_core.specs.Keeping.{Keeping}
use Rattle.store_core.specs.Books.{HoldsBook}
use Rattle.store_core.specs.Holding.{Holding, IsAsLeft}
use Rattle.store_core.specs.Steps.{Books, Firm, Begun}
use Rattle.store_core.specs.Taking.{HasBooks}
use Rattle.play_driver.specs.States.{state_of}
use Rattle.play_driver.specs.Machine.{Relation, Machine, Step}
use Rattle.play_driver.specs.Joining.{IsKept, Joined, IsFair, AllFair, SparesAt}

-- the files stay
module _ (S : Peer → Peer → Type 0) (m n : Moment) (step : LinkStep S m n) where
  back : (files : Files) → MayLeave n files → MayLeave m files
  back files h = record {
    left = subst (λ (f : Stored). MayHold f files.left) step.left h.left;
    right = subst (λ (f : Stored). MayHold f files.right) step.right h.right;
  }

  forth : (files : Files) → MayLeave m files → MayLeave n files
  forth files h = record {
    left = subst (λ (f : Stored). MayHold f files.left) (sym step.left) h.left;
    right = subst (λ (f : Stored). MayHold f files.right) (sym step.right) h.right;
  }

  occurs_there : (Q : Files → Type 0) → Occurs Q m → Occurs Q n
  occurs_there Q o = record { files = o.files; leaves = forth o.files o.leaves; has = o.has }

  pub books_there : (K : Keeping) (x : Books K) → HasBooks K x m → HasBooks K x n
  books_there K (Firm b) h = record { each = record { each = λ files l. h.each.each files (back files l) }; some = occurs_there (HoldsBook K b) h.some }
  books_there K (Begun b c) h = record {
    each = record { each = λ files l. h.each.each files (back files l) };
    before = occurs_there (HoldsBook K b) h.before;
    after = occurs_there (HoldsBook K c) h.after;
  }

  -- a relation that stands this step beside each book is kept
  pub link_step_keeps : (K : Keeping) (R : Relation K) →
      ((b : Option K.Book) → R b m.outside.server m.outside.waiting → R b n.outside.server n.outside.waiting) → IsKept K R m → IsKept K R n
  link_step_keeps K R stands kept = record {
    each = λ files l.
        let j = kept.each files (back files l) in
        record { book = j.book; holds = j.holds; related = stands j.book j.related };
  }

-- over a call
pub linked_keeps : (K : Keeping) (R : Relation K) (S : Peer → Peer → Type 0) →
    ((b : Option K.Book) (p q : Peer) → S p q → R b p.server p.waiting → R b q.server q.waiting) →
    (old new : Clock) → IsKept K R old.now → Linked S old new → Since (IsKept K R) (LinkStep S) old new
linked_keeps K R S stands old new kept linked =
    since_weaker (λ m. Any m × IsKept K R m) (IsKept K R) (λ m n. IsKept K R m × LinkStep S m n) (LinkStep S) (λ m p. p.1) (λ m n s. s.1) old new
    (since_carry Any (IsKept K R) (LinkStep S) (λ m n any s k. link_step_keeps S m n s K R (λ b r. stands b m.outside n.outside s.outside r) k)
    old kept new linked)

-- what is known of each image is known of the books
pub fair_books : (K : Keeping) (M : Machine K) (x : Books K) (m n : Moment) → HasBooks K x m → IsFair K M m n → SparesAt K M x m.outside n.outside
fair_books K M (Firm b) m n h fair batch = fair.each h.some.files b h.some.leaves h.some.has batch
fair_books K M (Begun b c) m n h fair batch =
    (fair.each h.before.files b h.before.leaves h.before.has batch, fair.each h.after.files c h.after.leaves h.after.has batch)

-- Each step of the server is one of the machine beside these books, by what is known of server and connection, and kept.
module _ (K : Keeping) (M : Machine K) (S : Peer → Peer → Type 0) (x : Books K) (Known : Peer → Type 0)
    (go : (p q : Peer) → S p q → SparesAt K M x p q → Known p → Known q × Step K M (state_of K x p) (state_of K x q))
    (old : Clock) (has : HasBooks K x old.now) (at_first : Known old.now.outside) (new : Clock) (linked : Linked S old new)
    (fair : AllFair K M old new) where
  abbrev Held : Moment → Type 0
  Held m = HasBooks K x m × Known m.outside

  abbrev A : Moment → Type 0
  A m = Any m × Any m

  abbrev L : Moment → Moment → Type 0
  L m n = LinkStep S m n × IsFair K M m n

  gone : (m n : Moment) → L m n → Held m → Known n.outside × Step K M (state_of K x m.outside) (state_of K x n.outside)
  gone m n s h = go m.outside n.outside s.0.outside (fair_books K M x m n h.0 s.1) h.1

  on : (m n : Moment) → A n → L m n → Held m → Held n
  on m n any s h = (books_there S m n s.0 K x h.0, (gone m n s h).0)

  joins : (m n : Moment) → Held m × L m n → Joined K M m n
  joins m n s = record { old = x; new = x; at_old = s.0.0; at_new = books_there S m n s.1.0 K x s.0.0; step = (gone m n s.1 s.0).1 }

  both : Since A L old new
  both = since_both Any Any (LinkStep S) (IsFair K M) old new linked fair

  pub linked_joins : Since Any (Joined K M) old new
  linked_joins =
      since_weaker (λ m. A m × Held m) Any (λ m n. Held m × L m n) (Joined K M) (λ m p. tt) joins old new
      (since_carry A Held L on old (has, at_first) new both)

-- The files stay as a store left them while the link is called.
module _ (K : Keeping) (S : Peer → Peer → Type 0) (store : Holding K) (old new : Clock) (seen later : Files) (left : IsAsLeft K store old.now seen)
    (linked : Linked S old new) (leaves : MayLeave new.now later) where
  still_rests : Rests new.now seen
  still_rests = carried_now Any (λ m. Rests m seen) (LinkStep S)
      (λ m n any step r. record { left = step.left ∙ r.left; right = step.right ∙ r.right }) old left.still.rests new linked

  same_seen : later ≡ seen
  same_seen = resting new.now seen later still_rests leaves

  pub left_there : IsAsLeft K store new.now later
  left_there = subst (λ (f : Files). IsAsLeft K store new.now f) (sym same_seen) (record {
    bodies = left.bodies;
    make = left.make;
    still = record {
      rests = still_rests;
      present = left.still.present;
      sizes = left.still.sizes;
      gate = left.still.gate;
      rest = left.still.rest;
      is = left.still.is;
      next = left.still.next;
      closed = left.still.closed;
    };
    all_read = left.all_read;
  })
