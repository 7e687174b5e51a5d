-- What is done where nothing prevents it.
use Rattle.std.proofs.Common.{◌≡◌, inl, inr, ℕ, List, Some, None, Ok, Err, refl, sym, ◌∙◌, ap, subst}
use Rattle.std.specs.Prelude.{codes}
use Rattle.mail_base.specs.Account.{Credentials}
use Rattle.mail_base.specs.declared.status.Status.{Status}
use Rattle.mail_base.specs.declared.status.Status.TheVariants as status
use Rattle.action_queue.specs.Book.{Meaning}
use Rattle.store_core.specs.Mail.{mail}
use Rattle.store_core.proofs.Folding.{one_held}
use Rattle.store_core.proofs.MailBook.{one_mail_event}
use Rattle.store_core.proofs.Wholeness.{never_both}
use Rattle.mail_top.specs.Course.{Course}
use Rattle.mail_top.specs.Ending.{IsDone}
use Rattle.body_cache.specs.Completing.{AreKeyed, AreListed, Completes, IsFetched, IsServed}
use Rattle.body_cache.specs.Ending.{Ends, EndsDates, EndsFetch, EndsReading, EndsShow, Shelving}
use Rattle.body_cache.specs.Finding.{Finds}
use Rattle.body_cache.specs.Keys.{cached_in, key_in}
use Rattle.body_cache.specs.Shelf.{text_at}
use Rattle.body_cache.specs.Words.{Asks, WritesMessage}
use Rattle.body_cache.specs.declared.key.Key.{Key}
use Rattle.body_cache.specs.declared.reading.ReadReason.{ReadReason}
use Rattle.body_cache.specs.declared.reading.Reading.{Reading}
use Rattle.body_cache.specs.declared.reading.Reading.TheVariants as readings
use Rattle.body_cache.proofs.ReadRuns.{one_dates, one_fetch, one_show}

module _ (k : Course) (name : List ℕ) (uid : ℕ) (key : Key) (t : AreKeyed name uid k.seen key) where
  -- the book as read is the one that has the key
  never_none : (b : Meaning) (reason : ReadReason) → b ≡ t.book → key_in b name uid ≡ Err reason → ⊥
  never_none b reason same none =
      let is : Ok key ≡ Err reason = sym t.is ∙ ap (λ (c : Meaning). key_in c name uid) (sym same) ∙ none in cc is

  one_key : (other : Key) → Finds name uid k other → other ≡ key
  one_key other f =
      let same = one_held mail one_mail_event k.seen f.book t.book f.reads.holds t.holds in
      let is : Ok other ≡ Ok key = sym f.is ∙ ap (λ (c : Meaning). key_in c name uid) same ∙ t.is in cc is

  module _ (v : Shelving) where
    show_done : (text : List ℕ) → v.tells → text_at key v.old ≡ Some text → (r : Status) (x : List ℕ) → EndsShow name uid k v r x →
        (r ≡ status.Disk → ⊥) → (r ≡ status.Shelf → ⊥) → (r ≡ status.Output → ⊥) → IsDone r
    show_done text tells there status.Done x ends no_disk no_shelf no_output = inl refl
    show_done text tells there status.Memory x ends no_disk no_shelf no_output = inr refl
    show_done text tells there status.Output x ends no_disk no_shelf no_output = absurd (no_output refl)
    show_done text tells there status.Disk x ends no_disk no_shelf no_output = absurd (no_disk refl)
    show_done text tells there status.Shelf x ends no_disk no_shelf no_output = absurd (no_shelf refl)
    show_done text tells there status.Journal x ends no_disk no_shelf no_output =
        absurd (never_both mail one_mail_event t.book k.seen t.holds ends.on_files.says.why ends.on_files.says.broken)
    show_done text tells there status.Reason x (inl ends) no_disk no_shelf no_output =
        let f = ends.on_files.says.finds in
        absurd (never_none f.book ends.on_files.says.reason (one_held mail one_mail_event k.seen f.book t.book f.reads.holds t.holds) f.is)
    show_done text tells there status.Reason x (inr ends) no_disk no_shelf no_output =
        let same = one_key ends.key ends.finds in
        let bad : None ≡ Some text = sym (ends.none tells) ∙ ap (λ (o : Key). text_at o v.old) same ∙ there in absurd (cc bad)
    show_done text tells there status.Words x ends no_disk no_shelf no_output = absurd ends
    show_done text tells there status.Conflicts x ends no_disk no_shelf no_output = absurd ends
    show_done text tells there status.Link x ends no_disk no_shelf no_output = absurd ends
    show_done text tells there status.Refused x ends no_disk no_shelf no_output = absurd ends
    show_done text tells there status.Reply x ends no_disk no_shelf no_output = absurd ends
    show_done text tells there status.Lacking x ends no_disk no_shelf no_output = absurd ends
    show_done text tells there status.Limit x ends no_disk no_shelf no_output = absurd ends
    show_done text tells there status.Validity x ends no_disk no_shelf no_output = absurd ends
    show_done text tells there status.Input x ends no_disk no_shelf no_output = absurd ends

    fetch_done : (account : Credentials) (r : Status) (x : List ℕ) → EndsFetch account name uid k v r x → IsServed r → (r ≡ status.Disk → ⊥) →
        (r ≡ status.Link → ⊥) → (r ≡ status.Shelf → ⊥) → (r ≡ status.Output → ⊥) → (r ≡ status.Limit → ⊥) → IsFetched r
    fetch_done account status.Done x ends served no_disk no_link no_shelf no_output no_limit = inl (inl refl)
    fetch_done account status.Memory x ends served no_disk no_link no_shelf no_output no_limit = inl (inr refl)
    fetch_done account status.Validity x ends served no_disk no_link no_shelf no_output no_limit = inr (inl refl)
    fetch_done account status.Reason x ends served no_disk no_link no_shelf no_output no_limit = inr (inr refl)
    fetch_done account status.Disk x ends served no_disk no_link no_shelf no_output no_limit = absurd (no_disk refl)
    fetch_done account status.Link x ends served no_disk no_link no_shelf no_output no_limit = absurd (no_link refl)
    fetch_done account status.Shelf x ends served no_disk no_link no_shelf no_output no_limit = absurd (no_shelf refl)
    fetch_done account status.Output x ends served no_disk no_link no_shelf no_output no_limit = absurd (no_output refl)
    fetch_done account status.Limit x ends served no_disk no_link no_shelf no_output no_limit = absurd (no_limit refl)
    fetch_done account status.Journal x ends served no_disk no_link no_shelf no_output no_limit =
        absurd (never_both mail one_mail_event t.book k.seen t.holds ends.on_files.says.why ends.on_files.says.broken)
    fetch_done account status.Refused x ends served no_disk no_link no_shelf no_output no_limit = absurd served
    fetch_done account status.Reply x ends served no_disk no_link no_shelf no_output no_limit = absurd served
    fetch_done account status.Lacking x ends served no_disk no_link no_shelf no_output no_limit = absurd served
    fetch_done account status.Words x ends served no_disk no_link no_shelf no_output no_limit = absurd ends
    fetch_done account status.Conflicts x ends served no_disk no_link no_shelf no_output no_limit = absurd ends
    fetch_done account status.Input x ends served no_disk no_link no_shelf no_output no_limit = absurd ends

module _ (k : Course) (v : Shelving) (name : List ℕ) (t : AreListed name k.seen) where
  dates_done : (r : Status) (x : List ℕ) → EndsDates name k v r x → (r ≡ status.Disk → ⊥) → (r ≡ status.Shelf → ⊥) → (r ≡ status.Output → ⊥) →
      IsDone r
  dates_done status.Done x ends no_disk no_shelf no_output = inl refl
  dates_done status.Memory x ends no_disk no_shelf no_output = inr refl
  dates_done status.Output x ends no_disk no_shelf no_output = absurd (no_output refl)
  dates_done status.Disk x ends no_disk no_shelf no_output = absurd (no_disk refl)
  dates_done status.Shelf x ends no_disk no_shelf no_output = absurd (no_shelf refl)
  dates_done status.Journal x ends no_disk no_shelf no_output =
      absurd (never_both mail one_mail_event t.book k.seen t.holds ends.on_files.says.why ends.on_files.says.broken)
  dates_done status.Reason x ends no_disk no_shelf no_output =
      let same = one_held mail one_mail_event k.seen ends.book t.book ends.reads.holds t.holds in
      absurd (t.known (ap (λ (b : Meaning). cached_in b name) (sym same) ∙ ends.none))
  dates_done status.Words x ends no_disk no_shelf no_output = absurd ends
  dates_done status.Conflicts x ends no_disk no_shelf no_output = absurd ends
  dates_done status.Link x ends no_disk no_shelf no_output = absurd ends
  dates_done status.Refused x ends no_disk no_shelf no_output = absurd ends
  dates_done status.Reply x ends no_disk no_shelf no_output = absurd ends
  dates_done status.Lacking x ends no_disk no_shelf no_output = absurd ends
  dates_done status.Limit x ends no_disk no_shelf no_output = absurd ends
  dates_done status.Validity x ends no_disk no_shelf no_output = absurd ends
  dates_done status.Input x ends no_disk no_shelf no_output = absurd ends

-- the reading of an end is the one that is asked for
ended_as : (account : Credentials) (words : List (List ℕ)) (k : Course) (v : Shelving) (r : Status) (x : List ℕ) (reading : Reading) →
    Asks words reading → ((other : Reading) → Asks words other → other ≡ reading) → Ends account words k v r x → EndsReading account reading k v r x
ended_as account words k v r x reading asks one (inl w) = absurd (w.nothing reading asks)
ended_as account words k v r x reading asks one (inr s) =
    subst (λ (o : Reading). EndsReading account o k v r x) (one s.reading s.asks) s.ends

module _ (account : Credentials) (words : List (List ℕ)) (k : Course) (v : Shelving) (r : Status) (x : List ℕ) (ends : Ends account words k v r x)
    (no_disk : r ≡ status.Disk → ⊥) (no_shelf : r ≡ status.Shelf → ⊥) (no_output : r ≡ status.Output → ⊥) where
  pub completes : Completes words k.seen v r
  completes = record {
    show = λ name uid key text writes t tells there.
        show_done k name uid key t v text tells there r x
        (ended_as account words k v r x (readings.Show name uid) writes (λ other asks. one_show words other name uid asks writes) ends)
        no_disk no_shelf no_output;
    dates = λ name writes t.
        dates_done k v name t r x
        (ended_as account words k v r x (readings.Dates name) writes (λ other asks. one_dates words other name asks writes) ends)
        no_disk no_shelf no_output;
  }

  pub complete_fetch : (name : List ℕ) (uid : ℕ) (key : Key) → WritesMessage (codes "fetch") words name uid → AreKeyed name uid k.seen key →
      IsServed r → (r ≡ status.Link → ⊥) → (r ≡ status.Limit → ⊥) → IsFetched r
  complete_fetch name uid key writes t served no_link no_limit =
      fetch_done k name uid key t v account r x
      (ended_as account words k v r x (readings.Fetch name uid) writes (λ other asks. one_fetch words other name uid asks writes) ends)
      served no_disk no_link no_shelf no_output no_limit
