-- Files that hold a book aren't broken.
use Rattle.std.proofs.Common.{◌≡◌, inl, inr, ℕ, List, [], ◌∷◌, ◌++◌, Option, Some, None, refl, sym, ◌∙◌, subst}
use Rattle.world_traits.specs.Files.{Files}
use Rattle.journal_core.specs.declared.version.Version.{Version}
use Rattle.journal_core.specs.declared.fault.Place9.{Place9}
use Rattle.journal_core.specs.declared.fault.Place9.TheVariants as places
use Rattle.journal_core.proofs.Unique.{one_presence}
use Rattle.journal_core.proofs.Wholeness.{whole, is_journal}
use Rattle.store_core.specs.Keeping.{Keeping}
use Rattle.store_core.specs.Books.{AreSpelled, Folds, Make, HasBook}
use Rattle.store_core.specs.Broken.{IsUndue, BrokenAt, IsBroken}
use Rattle.store_core.proofs.Folding.{OneEvent, one_make}

-- the events before a body, and its own
record Cut (K : Keeping) (v : Version) (start : Option K.Book) (before : List (List ℕ)) (body : List ℕ) : Type 0 where
  events : List K.Event
  book : Option K.Book
  spelled : AreSpelled K before events
  folds : Folds K v start events book
  event : K.Event
  spells : K.Spelled body event
  may : K.MayCome v book event

module _ (K : Keeping) (v : Version) where
  cut_at : (before : List (List ℕ)) (body : List ℕ) (later : List (List ℕ)) (events : List K.Event) (b c : Option K.Book) →
      AreSpelled K (before ++ body ∷ later) events → Folds K v b events c → Cut K v b before body
  cut_at [] body later [] b c are folds = absurd are
  cut_at [] body later (e ∷ es) b c are folds = record { events = []; book = b; spelled = tt; folds = refl; event = e; spells = are.0; may = folds.0 }
  cut_at (x ∷ xs) body later [] b c are folds = absurd are
  cut_at (x ∷ xs) body later (e ∷ es) b c are folds =
      let r = cut_at xs body later es (Some (K.next_book b e)) c are.1 folds.1 in
      record { events = e ∷ r.events; book = r.book; spelled = (are.0, r.spelled); folds = (folds.0, r.folds); event = r.event; spells = r.spells; may = r.may }

module _ (K : Keeping) (one_event : OneEvent K) (v : Version) (all : List (List ℕ)) (end : K.Book) (makes : Make K v all (Some end))
    (before : List (List ℕ)) (book : Option K.Book) (make : Make K v before book) where
  -- each body behind these may come
  comes : (b : List ℕ) (later : List (List ℕ)) → all ≡ before ++ b ∷ later → IsUndue K v book b → ⊥
  comes b later are undue =
      let all' = subst (λ (l : List (List ℕ)). Make K v l (Some end)) are makes in
      let k = cut_at K v before b later all'.events None (Some end) all'.spelled all'.folds in
      let here : k.book ≡ book = one_make K one_event v before k.book book (record { events = k.events; spelled = k.spelled; folds = k.folds }) make in
      undue k.event k.spells (subst (λ (x : Option K.Book). K.MayCome v x k.event) here k.may)

  -- and at the end a book has begun
  has_begun : all ≡ before → book ≡ None → ⊥
  has_begun are none =
      let never : Some end ≡ None = one_make K one_event v before (Some end) book
      (subst (λ (l : List (List ℕ)). Make K v l (Some end)) are makes) make ∙ none in absurd cc

module _ (K : Keeping) (one_event : OneEvent K) (book : K.Book) (files : Files) (holds : HasBook K book files) where
  not_broken : (at : ℕ) → BrokenAt K at files → ⊥
  not_broken at b =
      let h = holds.holds in
      let same : b.version ≡ holds.version =
      one_presence b.broken.side h.side b.version holds.version b.broken.generation h.generation files b.broken.present h.present in
      let make = subst (λ (w : Version). Make K w b.before b.book) same b.make in
      whole holds.bodies b.before (IsUndue K b.version b.book) (b.book ≡ None)
      (subst (λ (w : Version). (body : List ℕ) (later : List (List ℕ)) → holds.bodies ≡ b.before ++ body ∷ later → IsUndue K w b.book body → ⊥) (sym same)
      (comes K one_event holds.version holds.bodies book holds.make b.before b.book make))
      (has_begun K one_event holds.version holds.bodies book holds.make b.before b.book make)
      holds.version b.version at files h b.broken

  pub never_both : (why : Place9) → IsBroken K why files → ⊥
  never_both places.Absent broken = is_journal holds.version holds.bodies files places.Absent holds.holds broken
  never_both places.Header broken = is_journal holds.version holds.bodies files places.Header holds.holds broken
  never_both places.Generations broken = is_journal holds.version holds.bodies files places.Generations holds.holds broken
  never_both (places.Record at) broken = not_broken at broken
