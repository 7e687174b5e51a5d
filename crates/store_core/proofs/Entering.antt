-- How a journal's events are entered, one behind the other.
use Rattle.std.proofs.Common.{◌≡◌, ℕ, ◌+◌, ◌<◌, ◌≤◌, ◌^◌, true, false, IsTrue, List, [], ◌∷◌, ◌++◌, length, get_or, take, drop, slice_get}
use Rattle.std.proofs.Common.{inl, inr, Option, Some, None, Result, Ok, Err, IfOk, IsErrOf, refl, sym, ◌∙◌, ap, subst, arith, append_assoc, length-append}
use Rattle.std.proofs.Common.{take-append-drop}
use Rattle.std.proofs.lemmas.List.{append-nil, take_more, drop_more}
use Rattle.std.proofs.lemmas.Option.{slice_get_within, get_or_from_slice_get}
use Rattle.world_traits.specs.Files.{Files, file_of}
use Rattle.world_traits.specs.Moments.{Moment, Clock, Since, Within, Narrows}
use Rattle.world_traits.proofs.Passing.{since_weaker}
use Rattle.journal_core.specs.Sides.{version_written}
use Rattle.journal_core.specs.declared.version.Version.{Version}
use Rattle.journal_core.specs.declared.fault.Place9.{Place9}
use Rattle.journal_core.specs.declared.fault.Place9.TheVariants as places
use Rattle.journal_core.specs.declared.fault.OpenFault.{OpenFault}
use Rattle.journal_core.specs.declared.fault.OpenFault.TheVariants as opening
use Rattle.journal_core.specs.Records.{open_record, records}
use Rattle.journal_core.specs.Appending.{told_end}
use Rattle.journal_core.specs.Standing.{Standing, IsStill}
use Rattle.journal_core.specs.Broken.{IsNotDue, torn, other, missing}
use Rattle.journal_core.specs.Reading.{HasClosedGate, StandsAt, NextIs, IsAtFirst, IsNoJournal}
use Rattle.journal_core.specs.Several.{StandFrom, behind_all}
use Rattle.journal_core.proofs.Few.{longer, stand_split, still_here}
use Rattle.journal_core.proofs.UpTo.{up_to_here}
use Rattle.journal_core.proofs.HeldBodies.{still_holds}
use Rattle.action_queue.specs.declared.event.Event.{Event}
use Rattle.action_queue.specs.declared.book.Book.{Book}
use Rattle.action_queue.specs.Book.{Meaning, meaning}
use Rattle.action_queue.specs.Rules.{first_broken}
use Rattle.std.specs.Option.{is_some}
use Rattle.record_codec.specs.Spelling.{Spelled}
use Rattle.store_core.specs.Keeping.{Keeping}
use Rattle.store_core.specs.declared.fault.StoreFault.TheVariants as store
use Rattle.store_core.specs.Mail.{mail, rules_of}
use Rattle.store_core.specs.Books.{Make, HasBook}
use Rattle.store_core.specs.Holding.{IsAsLeft}
use Rattle.store_core.specs.HeldActions.{KeepsActions}
use Rattle.store_core.specs.Broken.{IsUndue, IsBroken}
use Rattle.store_core.specs.Reading.{Enters, EntersAll, ReadsBook, UndueAt}
use Rattle.store_core.proofs.Folding.{make_none, make_more}
use Rattle.store_core.proofs.MailBook.{one_mail_event}
use Rattle.store_core.proofs.Holds.{within_keeps_actions}

module _ (K : Keeping) (v : Version) where
  -- a body more that was entered
  pub make_entered : (bodies : List (List ℕ)) (book : Option K.Book) (body : List ℕ) (later : K.Book) → Make K v bodies book →
      Enters K v book body later → Make K v (bodies ++ body ∷ []) (Some later)
  make_entered bodies book body later make e = subst (λ (b : K.Book). Make K v (bodies ++ body ∷ []) (Some b)) (sym e.is)
      (make_more K v bodies book body e.event make e.spelled e.may)

  -- and some bodies more
  pub make_all : (few bodies : List (List ℕ)) (book later : K.Book) → Make K v bodies (Some book) → EntersAll K v book few later →
      Make K v (bodies ++ few) (Some later)
  make_all [] bodies book later make same =
      subst (λ (l : List (List ℕ)). Make K v l (Some later)) (sym (append-nil bodies)) (subst (λ (b : K.Book). Make K v bodies (Some b)) (sym same) make)
  make_all (x ∷ xs) bodies book later make e =
      subst (λ (l : List (List ℕ)). Make K v l (Some later)) (append_assoc bodies (x ∷ []) xs)
      (make_all xs (bodies ++ x ∷ []) e.0 later (make_entered bodies (Some book) x e.0 make e.1) e.2)

  -- one body more of those that were entered
  pub enters_more : (few : List (List ℕ)) (book so_far later : K.Book) (body : List ℕ) → EntersAll K v book few so_far →
      Enters K v (Some so_far) body later → EntersAll K v book (few ++ body ∷ []) later
  enters_more [] book so_far later body same e = (later, subst (λ (b : K.Book). Enters K v (Some b) body later) same e, refl)
  enters_more (x ∷ xs) book so_far later body all e = (all.0, all.1, enters_more xs all.0 so_far later body all.2 e)

  -- the body at an index of those that were read together
  module _ (few : List (List ℕ)) (index : ℕ) (body : List ℕ) (there : slice_get few index ≡ Some body) where
    within : index < length few
    within = slice_get_within few index body there

    here : get_or few index body ≡ body
    here = get_or_from_slice_get few index body body there

    one_more : take (index + 1) few ≡ take index few ++ body ∷ []
    one_more = take_more few index body within ∙ ap (λ (x : List ℕ). take index few ++ x ∷ []) here

    pub entered : (book so_far later : K.Book) → EntersAll K v book (take index few) so_far → Enters K v (Some so_far) body later →
        EntersAll K v book (take (index + 1) few) later
    entered book so_far later all e = subst (λ (l : List (List ℕ)). EntersAll K v book l later) (sym one_more)
        (enters_more (take index few) book so_far later body all e)

    pub place_on : (at place fifth next : ℕ) → place ≡ told_end (at + length (records (take index few))) → fifth ≡ told_end (place + 5) →
        next ≡ told_end (fifth + length body) → next ≡ told_end (at + length (records (take (index + 1) few)))
    place_on at place fifth next is five moved =
        let long : length (records (take (index + 1) few)) ≡ length (records (take index few)) + 5 + length body =
        ap (λ (l : List (List ℕ)). length (records l)) one_more ∙ longer (take index few) body in
        omega (arith, is, five, moved, long)

    pub undue_here : (book so_far : K.Book) (at place : ℕ) (why : Place9) → EntersAll K v book (take index few) so_far →
        place ≡ told_end (at + length (records (take index few))) → IsUndue K v (Some so_far) body → why ≡ places.Record place →
        UndueAt K v book at why few
    undue_here book so_far at place why all is bad told = record {
      before = take index few;
      so_far = so_far;
      enter = all;
      body = body;
      bad = bad;
      later = drop (index + 1) few;
      is = sym (take-append-drop index few) ∙ ap (λ (l : List (List ℕ)). take index few ++ l)
          (drop_more few index body within ∙ ap (λ (x : List ℕ). x ∷ drop (index + 1) few) here);
      there = told ∙ ap (λ (n : ℕ). places.Record n) is;
    }

module _ (K : Keeping) (book : Option K.Book) (bodies : List (List ℕ)) (j : Standing) (make : Make K j.version bodies book) (m : Moment)
    (f : Files) (still : IsStill j bodies m f) where
  broken_here : IsNotDue (IsUndue K j.version book) (book ≡ None) j.place (file_of j.side f) → IsBroken K (places.Record j.place) f
  broken_here bad = record {
    version = j.version;
    before = bodies;
    book = book;
    make = make;
    broken = record { side = j.side; generation = j.generation; present = still.present; up_to = up_to_here bodies j m f still; bad = bad };
  }

  -- a torn record
  pub torn_behind : (after : Standing) (fault : OpenFault) (why : Place9) → fault ≡ opening.NotAJournal why →
      NextIs j (file_of j.side f) after (Err fault) → IsBroken K why f
  torn_behind after (opening.NotAJournal (places.Record at)) (places.Record place) is next =
      let same : place ≡ j.place = cc in
      subst (λ (n : ℕ). IsBroken K (places.Record n) f) (sym same) (broken_here (torn next.1))
  torn_behind after (opening.NotAJournal (places.Record at)) places.Absent is next = absurd cc
  torn_behind after (opening.NotAJournal (places.Record at)) places.Header is next = absurd cc
  torn_behind after (opening.NotAJournal (places.Record at)) places.Generations is next = absurd cc
  torn_behind after (opening.NotAJournal places.Absent) why is next = absurd next
  torn_behind after (opening.NotAJournal places.Header) why is next = absurd next
  torn_behind after (opening.NotAJournal places.Generations) why is next = absurd next
  torn_behind after opening.Disk why is next = absurd cc
  torn_behind after opening.Memory why is next = absurd cc

  -- a body that may not come
  pub undue_behind : (body : List ℕ) (at : ℕ) (why : Place9) → at ≡ j.place → why ≡ places.Record at →
      StandsAt j.place body (file_of j.side f) → IsUndue K j.version book body → IsBroken K why f
  undue_behind body at why same is stands bad =
      subst (λ (w : Place9). IsBroken K w f) (sym (is ∙ ap (λ (n : ℕ). places.Record n) same)) (broken_here (other body stands bad))

  -- where no book has begun the first record is missing
  pub missing_here : book ≡ None → HasClosedGate j.place (file_of j.side f) → (at : ℕ) (why : Place9) → at ≡ j.place → why ≡ places.Record at → IsBroken K why f
  missing_here none closed at why same is =
      subst (λ (w : Place9). IsBroken K w f) (sym (is ∙ ap (λ (n : ℕ). places.Record n) same)) (broken_here (missing none closed))

-- the body that was read stands at the journal's place
pub body_stands : (j after : Standing) (file : List ℕ) (found : Option (List ℕ)) (body : List ℕ) → found ≡ Some body →
    NextIs j file after (Ok found) → StandsAt j.place body file
body_stands j after file (Some b) body is next = let same : b ≡ body = cc in subst (λ (x : List ℕ). StandsAt j.place x file) same next.0
body_stands j after file None body is next = absurd cc

-- where none was read the gate there is closed
pub gate_closed : (j after : Standing) (file : List ℕ) (found : Option (List ℕ)) → found ≡ None → NextIs j file after (Ok found) → HasClosedGate j.place file
gate_closed j after file None is next = next.0
gate_closed j after file (Some b) is next = absurd cc

-- what is no journal holds no book
pub no_journal_broken : (K : Keeping) (why : Place9) (f : Files) → IsNoJournal why f → IsBroken K why f
no_journal_broken K (places.Record at) f not = absurd not
no_journal_broken K places.Absent f not = not
no_journal_broken K places.Header f not = not
no_journal_broken K places.Generations f not = not

no_longer : (xs ys : List (List ℕ)) → length (records xs) ≤ length (records (xs ++ ys))
no_longer [] ys = omega arith
no_longer (x ∷ xs) ys = omega (arith, no_longer xs ys, length-append (open_record x) (records xs), length-append (open_record x) (records (xs ++ ys)))

-- one of the bodies that were read together may not come
pub undue_later : (K : Keeping) (book : K.Book) (j : Standing) (k : Clock) (f : Files) → ReadsBook K book j k.now f →
    (few : List (List ℕ)) (at end : ℕ) (why : Place9) → StandFrom j.place few (file_of j.side f) → UndueAt K j.version book at why few →
    at ≡ j.place → end ≡ j.place + length (records few) → end < 2 ^ 64 → IsBroken K why f
undue_later K book j k f r few at end why stand o from to fits =
    let stand' : StandFrom j.place (o.before ++ o.body ∷ o.later) (file_of j.side f) =
    subst (λ (l : List (List ℕ)). StandFrom j.place l (file_of j.side f)) o.is stand in
    let s = stand_split o.before o.body o.later j.place (file_of j.side f) stand' in
    let short : length (records o.before) ≤ length (records few) =
    subst (λ (l : List (List ℕ)). length (records o.before) ≤ length (records l)) (sym o.is) (no_longer o.before (o.body ∷ o.later)) in
    let there : told_end (at + length (records o.before)) ≡ j.place + length (records o.before) = omega (arith, from, to, fits, short) in
    undue_behind K (Some o.so_far) (r.bodies ++ o.before) (behind_all o.before j) (make_all K j.version o.before r.bodies book o.so_far r.make o.enter) k.now f
    (still_here o.before r.bodies j k f r.still s.0) o.body _ why there o.there s.1 o.bad

-- some bodies more were read and entered
pub reads_all : (K : Keeping) (v : Version) (few bodies : List (List ℕ)) (book later : K.Book) (j : Standing) (m : Moment) (f : Files) →
    j.version ≡ v → Make K v bodies (Some book) → EntersAll K v book few later → IsStill j (bodies ++ few) m f → ReadsBook K later j m f
reads_all K v few bodies book later j m f same make e still =
    record {
      bodies = bodies ++ few;
      make = subst (λ (w : Version). Make K w (bodies ++ few) (Some later)) (sym same)
          (make_all K v few bodies book later make e);
      still = still;
    }

-- the first one was
pub reads_first : (K : Keeping) (v : Version) (body : List ℕ) (later : K.Book) (j : Standing) (m : Moment) (f : Files) → j.version ≡ v →
    Enters K v None body later → IsStill j (body ∷ []) m f → ReadsBook K later j m f
reads_first K v body later j m f same e still =
    record {
      bodies = body ∷ [];
      make = subst (λ (w : Version). Make K w (body ∷ []) (Some later)) (sym same)
          (make_entered K v [] None body later (make_none K v) e);
      still = still;
    }

-- all were, so the files hold the book
pub holds_all : (K : Keeping) (book : K.Book) (j : Standing) (m : Moment) (f g : Files) → f ≡ g → ReadsBook K book j m f → IsTrue j.all_read →
    HasBook K book g
holds_all K book j m f g same r read = subst (HasBook K book) same
    (record { version = j.version; bodies = r.bodies; holds = still_holds j r.bodies m f r.still read; make = r.make })

pub left_as : (K : Keeping) (book : K.Book) (j : Standing) (m : Moment) (f : Files) → ReadsBook K book j m f → j.all_read ≡ true →
    IsAsLeft K (record { journal = j; book = book }) m f
left_as K book j m f r read = record { bodies = r.bodies; make = r.make; still = r.still; all_read = read }

-- a body whose event breaks a rule spells none that may come
pub undue : (v : Version) (b : Meaning) (body : List ℕ) (e : Event) → Spelled body e → true ≡ is_some (first_broken (rules_of v) b e) →
    IsUndue mail v (Some b) body
undue v b body e s broken event t may =
    let same : e ≡ event = one_mail_event body e event s t in
    let none : first_broken (rules_of v) b e ≡ None = subst (λ (x : Event). first_broken (rules_of v) b x ≡ None) (sym same) may in
    let no : is_some (first_broken (rules_of v) b e) ≡ false = ap is_some none in
    absurd (cc (broken, no))

-- moments that narrow lose no action
pub narrows_held : (k l : Clock) → Narrows k l → Since (Within k.now) KeepsActions k l
narrows_held k l n = since_weaker (Within k.now) (Within k.now) Within KeepsActions (λ m w. w) (λ m n w. within_keeps_actions m n w) k l n

pub if_reads_first : {E : Type 0} (v : Version) (r : Result Book E) (body : List ℕ) (j : Standing) (m : Moment) (f : Files) →
    IsStill j (body ∷ []) m f → j.version ≡ v → IfOk r (λ book. Enters mail v None body (meaning book)) →
    IfOk r (λ book. ReadsBook mail (meaning book) j m f)
if_reads_first v (Ok book) body j m f still same e = reads_first mail v body (meaning book) j m f same e still
if_reads_first v (Err fault) body j m f still same e = tt
