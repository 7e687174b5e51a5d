-- The books of moments go on by steps of their own, and what events keep of a book is kept.
use Rattle.std.proofs.Common.{Bool, true, false, Option, Some, subst}
use Rattle.imap_model.specs.Talking.{Peer}
use Rattle.world_traits.specs.Files.{Files}
use Rattle.world_traits.specs.Links.{Any, LinkStep, Linked}
use Rattle.world_traits.specs.Moments.{Moment, MayLeave, Clock, Since, Narrows, restarted}
use Rattle.world_traits.proofs.Passing.{since_weaker}
use Rattle.world_traits.proofs.Traces.{since_carry}
use Rattle.journal_core.specs.declared.version.Version.{Version}
use Rattle.journal_core.specs.Settling.{Settles}
use Rattle.store_core.specs.Keeping.{Keeping}
use Rattle.store_core.specs.Taking.{HasBooks, Takes}
use Rattle.store_core.proofs.Folding.{OneEvent}
use Rattle.store_core.specs.Steps.{Books, EachBook, chosen}
use Rattle.play_driver.specs.States.{State, state_of}
use Rattle.play_driver.specs.Machine.{Machine, Step}
use Rattle.play_driver.specs.Machine.Step.{rests, begins, firm, chooses, sends, asks, carries_out, foreign, connects}
use Rattle.play_driver.specs.Joining.{IsKept, Joined}
use Rattle.play_driver.specs.BookSteps.{BooksStep, BooksJoined, OfBook}
use Rattle.play_driver.specs.BookSteps.BooksStep.{keep, begin, confirm, choose}
use Rattle.play_driver.proofs.Kept.{kept_books, books_kept}
use Rattle.play_driver.proofs.Files.{takes_joins}
use Rattle.play_driver.proofs.Choices.{settles_joins, stop_joins}
use Rattle.play_driver.proofs.Links.{books_there}
use Rattle.play_driver.proofs.Beginnings.{chooses_joins, begins_joins}
use Rattle.play_driver.specs.Laws.{ChoosingGoesOn, BeginningGoesOn}

-- a machine that permits every event
abbrev anything : (K : Keeping) → Machine K
anything K = record { Permits = λ b e s w. Unit {0}; MaySend = λ b s w. Unit {0}; Spares = λ b p t. Unit {0} }

module _ (K : Keeping) where
  module _ (M : Machine K) where
    books_of : (x y : State K) → Step K M x y → BooksStep K x.books y.books
    books_of x y rests = keep
    books_of x y (begins version b e is may permits) = begin version b e is may
    books_of x y (firm b c is) = confirm b c is
    books_of x y (chooses first b c is) = choose first b c is
    books_of x y (sends b w is quiet may) = keep
    books_of x y (asks w quiet question) = keep
    books_of x y (carries_out w r t after waits out) = keep
    books_of x y (foreign p t server waiting batch spares) = keep
    books_of x y connects = keep

    -- a step of a machine
    pub books_joined : (m n : Moment) → Joined K M m n → BooksJoined K m n
    books_joined m n j = record {
      old = j.old;
      new = j.new;
      at_old = j.at_old;
      at_new = j.at_new;
      step = books_of (state_of K j.old m.outside) (state_of K j.new n.outside) j.step;
    }

    pub books_joins : (old new : Clock) → Since Any (Joined K M) old new → Since Any (BooksJoined K) old new
    books_joins old new s = since_weaker Any Any (Joined K M) (BooksJoined K) (λ m p. p) books_joined old new s

  -- the recording of an event
  pub takes_books : (version : Version) (b : Option K.Book) (e : K.Event) (old new : Clock) → K.MayCome version b e → Takes K b e old new →
      Since Any (BooksJoined K) old new
  takes_books version b e old new may takes = books_joins (anything K) old new (takes_joins K (anything K) version b e may old tt new takes)

  -- an opening, and a stop
  pub settles_books : (x : Books K) (old new : Clock) (seen : Files) → HasBooks K x old.now → MayLeave old.now seen → Settles old new seen →
      Narrows old new → Since Any (BooksJoined K) old new
  settles_books x old new seen has leaves settles narrows =
      books_joins (anything K) old new (settles_joins K (anything K) x old seen has leaves new settles narrows)

  pub stop_books : (x : Books K) (m : Moment) (files : Files) → HasBooks K x m → MayLeave m files → BooksJoined K m (restarted files m)
  stop_books x m files has leaves = books_joined (anything K) m (restarted files m) (stop_joins K (anything K) x m files has leaves)

  -- a store is opened, or a book begun
  pub chooses_books : ChoosingGoesOn K
  chooses_books old new s = books_joins (anything K) old new (chooses_joins K (anything K) old new s)

  pub begins_books : BeginningGoesOn K
  begins_books version e old new may b = books_joins (anything K) old new (begins_joins K (anything K) version e may old new tt b)

  -- calls of the link, whatever they do
  pub linked_books : (S : Peer → Peer → Type 0) (x : Books K) (old new : Clock) → HasBooks K x old.now → Linked S old new → Since Any (BooksJoined K) old new
  linked_books S x old new has linked =
      since_weaker (λ m. Any m × HasBooks K x m) Any (λ m n. HasBooks K x m × LinkStep S m n) (BooksJoined K) (λ m p. tt)
      (λ m n s. record { old = x; new = x; at_old = s.0; at_new = books_there S m n s.1 K x s.0; step = keep }) old new
      (since_carry Any (HasBooks K x) (LinkStep S) (λ m n any s h. books_there S m n s K x h) old has new linked)

  -- what every event keeps
  module _ (one : OneEvent K) (P : Option K.Book → Type 0)
      (later : (version : Version) (b : Option K.Book) (e : K.Event) → K.MayCome version b e → P b → P (Some (K.next_book b e))) where
    chose : (first : Bool) (b c : Option K.Book) → P b → P c → P (chosen first b c)
    chose true b c p q = p
    chose false b c p q = q

    steps_keep : (x y : Books K) → BooksStep K x y → EachBook K P x → EachBook K P y
    steps_keep x y keep h = h
    steps_keep x y (begin version b e is may) h =
        let here = subst (EachBook K P) is h in
        (here, later version b e may here)
    steps_keep x y (confirm b c is) h = (subst (EachBook K P) is h).1
    steps_keep x y (choose first b c is) h =
        let both = subst (EachBook K P) is h in
        chose first b c both.0 both.1

    pub books_keep : (old new : Clock) → IsKept K (OfBook K P) old.now → Since Any (BooksJoined K) old new →
        Since (IsKept K (OfBook K P)) (BooksJoined K) old new
    books_keep old new kept s =
        since_weaker (λ m. Any m × IsKept K (OfBook K P) m) (IsKept K (OfBook K P)) (λ m n. IsKept K (OfBook K P) m × BooksJoined K m n) (BooksJoined K)
        (λ m p. p.1) (λ m n p. p.1) old new
        (since_carry Any (IsKept K (OfBook K P)) (BooksJoined K)
        (λ m n any j h. books_kept K (OfBook K P) j.new n j.at_new (steps_keep j.old j.new j.step (kept_books K (OfBook K P) one j.old m h j.at_old)))
        old kept new s)
