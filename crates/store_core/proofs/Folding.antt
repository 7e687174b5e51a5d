-- Bodies make one book, and a body more makes the next one.
use Rattle.std.proofs.Common.{◌≡◌, ℕ, List, [], ◌∷◌, ◌++◌, Option, Some, None, refl, sym, ◌∙◌, ap, subst}
use Rattle.world_traits.specs.Files.{Files}
use Rattle.journal_core.specs.declared.version.Version.{Version}
use Rattle.journal_core.proofs.Unique.{one_book, one_version}
use Rattle.store_core.specs.Keeping.{Keeping}
use Rattle.store_core.specs.Books.{AreSpelled, Folds, Make, HasBook}

module _ (K : Keeping) where
  spelled_more : (bodies : List (List ℕ)) (events : List K.Event) (body : List ℕ) (e : K.Event) → AreSpelled K bodies events →
      K.Spelled body e → AreSpelled K (bodies ++ body ∷ []) (events ++ e ∷ [])
  spelled_more [] [] body e are is = (is, tt)
  spelled_more [] (x ∷ xs) body e are is = absurd are
  spelled_more (b ∷ bs) [] body e are is = absurd are
  spelled_more (b ∷ bs) (x ∷ xs) body e are is = (are.0, spelled_more bs xs body e are.1 is)

module _ (K : Keeping) (v : Version) where
  folds_more : (b : Option K.Book) (events : List K.Event) (e : K.Event) (c : Option K.Book) → Folds K v b events c → K.MayCome v c e →
      Folds K v b (events ++ e ∷ []) (Some (K.next_book c e))
  folds_more b [] e c is may = (subst (λ (x : Option K.Book). K.MayCome v x e) is may, ap (λ (x : Option K.Book). Some (K.next_book x e)) is)
  folds_more b (x ∷ xs) e c folds may = (folds.0, folds_more (Some (K.next_book b x)) xs e c folds.1 may)

  -- without a body there is no book
  pub make_none : Make K v [] None
  make_none = record { events = []; spelled = tt; folds = refl }

  -- a body more
  pub make_more : (bodies : List (List ℕ)) (book : Option K.Book) (body : List ℕ) (e : K.Event) → Make K v bodies book → K.Spelled body e →
      K.MayCome v book e → Make K v (bodies ++ body ∷ []) (Some (K.next_book book e))
  make_more bodies book body e make is may = record {
    events = make.events ++ e ∷ [];
    spelled = spelled_more K bodies make.events body e make.spelled is;
    folds = folds_more None make.events e book make.folds may;
  }

  same_fold : (b : Option K.Book) (es : List K.Event) (c d : Option K.Book) → Folds K v b es c → Folds K v b es d → c ≡ d
  same_fold b [] c d p q = p ∙ sym q
  same_fold b (e ∷ es) c d p q = same_fold (Some (K.next_book b e)) es c d p.1 q.1

-- no body spells two events
abbrev pub OneEvent : Keeping → Type 0
OneEvent K = (body : List ℕ) (e f : K.Event) → K.Spelled body e → K.Spelled body f → e ≡ f

module _ (K : Keeping) (one_event : OneEvent K) where
  same_events : (bodies : List (List ℕ)) (es fs : List K.Event) → AreSpelled K bodies es → AreSpelled K bodies fs → es ≡ fs
  same_events [] [] [] p q = refl
  same_events [] [] (f ∷ fs) p q = absurd q
  same_events [] (e ∷ es) fs p q = absurd p
  same_events (b ∷ bs) [] fs p q = absurd p
  same_events (b ∷ bs) (e ∷ es) [] p q = absurd q
  same_events (b ∷ bs) (e ∷ es) (f ∷ fs) p q = ap (λ (x : K.Event). x ∷ es) (one_event b e f p.0 q.0)
      ∙ ap (λ (l : List K.Event). f ∷ l) (same_events bs es fs p.1 q.1)

  -- the same bodies make one book
  pub one_make : (v : Version) (bodies : List (List ℕ)) (c d : Option K.Book) → Make K v bodies c → Make K v bodies d → c ≡ d
  one_make v bodies c d p q =
      same_fold K v None q.events c d (subst (λ (es : List K.Event). Folds K v None es c)
      (same_events bodies p.events q.events p.spelled q.spelled) p.folds) q.folds

  some_same : (b c : K.Book) → Some b ≡ Some c → b ≡ c
  some_same b c same = cc

  -- and the same files hold one
  pub one_held : (files : Files) (b c : K.Book) → HasBook K b files → HasBook K c files → b ≡ c
  one_held files b c p q =
      let bodies = one_book p.version q.version p.bodies q.bodies files p.holds q.holds in
      let version = one_version p.version q.version p.bodies q.bodies files p.holds q.holds in
      some_same b c
      (one_make q.version q.bodies (Some b) (Some c)
      (subst (λ (v : Version). Make K v q.bodies (Some b)) version (subst (λ (l : List (List ℕ)). Make K p.version l (Some b)) bodies p.make)) q.make)
