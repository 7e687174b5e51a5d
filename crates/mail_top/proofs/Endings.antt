-- What each status says follows from what became of the command; and a lawful command ends well.
use Rattle.std.proofs.Common.{◌≡◌, ◌⊎◌, inl, inr, ⊎_elim, ℕ, ◌+◌, ◌≤◌, List, length, refl, sym, ◌∙◌, ap, subst, arith}
use Rattle.std.specs.Prelude.{◌↔◌, true}
use Rattle.mail_base.specs.declared.limits.TheConstants.{MAX_ACTIONS}
use Rattle.mail_base.specs.Account.{Credentials}
use Rattle.mail_base.specs.Bodies.{frame_of}
use Rattle.mail_base.specs.declared.status.Status.{Status}
use Rattle.mail_base.specs.declared.status.Status.TheVariants as status
use Rattle.world_traits.specs.Files.{Files, file_of}
use Rattle.journal_core.specs.Creating.{IsTaken, IsUnbegun}
use Rattle.journal_core.specs.Reading.{AnyWrong}
use Rattle.journal_core.specs.declared.version.Version.{Version}
use Rattle.journal_core.proofs.Choice.{open_head}
use Rattle.journal_core.proofs.Unique.{one_book, one_version}
use Rattle.action_queue.specs.Book.{Meaning}
use Rattle.action_queue.specs.Rules.{is_unknown}
use Rattle.action_queue.specs.declared.event.Event.{Event}
use Rattle.record_codec.specs.Bodies.{body_of}
use Rattle.store_core.specs.Mail.{mail}
use Rattle.store_core.specs.Books.{HasBook}
use Rattle.store_core.proofs.Folding.{one_held}
use Rattle.store_core.proofs.MailBook.{one_mail_event}
use Rattle.store_core.proofs.Wholeness.{never_both}
use Rattle.mail_top.specs.Ending.{Ends, EndsInit, EndsAct, EndsRows, EndsPlay, EndsShown, EndsRequest, IsDone, IsTakable, IsListable}
use Rattle.mail_top.specs.Runs.{AreBook}
use Rattle.mail_top.specs.Saying.{SaysRefused, SaysUnknown, SaysFull, PassesLimit, PassesPlace, PassesTakeover}
use Rattle.mail_top.specs.Actions.{Becomes, accepts}
use Rattle.conflict_report.specs.QueueLines.{queue_text}
use Rattle.conflict_report.specs.ReportLines.{report_text}
use Rattle.mail_top.specs.CompletePlay.{IsPlayed, IsTheServers}
use Rattle.mail_top.specs.Course.{Course, end_behind, end_written}
use Rattle.mail_top.specs.Played.{CameThrough}
use Rattle.mail_top.specs.Printing.{IsSaid}
use Rattle.mail_top.specs.Reasons.{IsFirst, Stops}
use Rattle.conflict_report.specs.StatusLines.{limit_actions}
use Rattle.mail_top.specs.Takeover.{IsNotTakenAs}
use Rattle.mail_top.specs.Words.{Wanted, Request, Init, Act, Rows, Queue, Report, Play, Asks, AsksNothing}
use Rattle.mail_top.specs.declared.reason.Reason.{Reason}
use Rattle.mail_top.specs.declared.reason.Reason.TheVariants as reasons
use Rattle.mail_top.specs.declared.refusal.Refusal.{Refusal}
use Rattle.mail_top.proofs.Takeovers.{same_generation}
use Rattle.mail_top.proofs.Wording.{one_request}

-- a failed output says as much of a request as a printed text
output_as : (account : Credentials) (request : Request) (k : Course) (text : List ℕ) → EndsRequest account request k status.Done text →
    EndsRequest account request k status.Output text
output_as account (Init names) k text ends = ends
output_as account (Act wanted) k text ends = ends
output_as account (Rows name) k text ends = ends
output_as account Queue k text ends = ends
output_as account Report k text ends = ends
output_as account Play k text ends = inl ends

module _ (account : Credentials) (words : List (List ℕ)) (input : List ℕ) (k : Course) where
  output_ends : (text : List ℕ) → Ends account words input k status.Done text → Ends account words input k status.Output text
  output_ends text (inl w) = absurd (let told = w.told in cc)
  output_ends text (inr s) = inr (record { request = s.request; asks = s.asks; ends = output_as account s.request k text s.ends })

  -- nor does `play` with conflicts say less
  conflicts_ends : (text : List ℕ) → Ends account words input k status.Conflicts text → Ends account words input k status.Output text
  conflicts_ends text (inl s) = absurd (let told = s.told in cc)
  conflicts_ends text (inr s) = inr (record { request = s.request; asks = s.asks; ends = by_request s.request s.ends })
    where
      by_request : (request : Request) → EndsRequest account request k status.Conflicts text → EndsRequest account request k status.Output text
      by_request (Init names) ends = absurd ends.says
      by_request (Act wanted) ends = absurd ends.says
      by_request (Rows name) ends = absurd ends.says
      by_request Queue ends = absurd ends.says
      by_request Report ends = absurd ends.says
      by_request Play ends = inr ends

  pub said_ends : (r s : Status) (text : List ℕ) → IsSaid s r → Ends account words input k s text → Ends account words input k r text
  said_ends r s text (inl same) ends = subst (λ (t : Status). Ends account words input k t text) (sym same) ends
  said_ends r s text (inr (inl done, is)) ends = subst (λ (t : Status). Ends account words input k t text) (sym is)
      (output_ends text (subst (λ (t : Status). Ends account words input k t text) done ends))
  said_ends r s text (inr (inr conflicts, is)) ends = subst (λ (t : Status). Ends account words input k t text) (sym is)
      (conflicts_ends text (subst (λ (t : Status). Ends account words input k t text) conflicts ends))

pub said_words : (r s : Status) (Q : Type 0) → IsSaid s r → ((s ≡ status.Words) ↔ Q) → (r ≡ status.Words) ↔ Q
said_words r s Q (inl same) both = (λ is. both.0 (sym same ∙ is), λ q. same ∙ both.1 q)
said_words r s Q (inr (inl done, said)) both = (λ is. absurd (cc (is, said)), λ q. let w = both.1 q in absurd (cc (w, done)))
said_words r s Q (inr (inr conflicts, said)) both = (λ is. absurd (cc (is, said)), λ q. let w = both.1 q in absurd (cc (w, conflicts)))

-- a status that no failed output gives is that of the ending
pub said_as : (t r s : Status) → (t ≡ status.Output → ⊥) → IsSaid s r → r ≡ t → s ≡ t
said_as t r s other (inl same) is = sym same ∙ is
said_as t r s other (inr changed) is = absurd (other (sym is ∙ changed.1))

-- and a status that no failed output changes is that of what is said
pub ended_so : (t r s : Status) → (t ≡ status.Done → ⊥) → (t ≡ status.Conflicts → ⊥) → IsSaid s r → s ≡ t → r ≡ t
ended_so t r s other quiet (inl same) is = same ∙ is
ended_so t r s other quiet (inr (inl done, changed)) is = absurd (other (sym is ∙ done))
ended_so t r s other quiet (inr (inr conflicts, changed)) is = absurd (quiet (sym is ∙ conflicts))

pub said_disk : (r s : Status) → IsSaid s r → r ≡ status.Disk → s ≡ status.Disk
said_disk r s said is = said_as status.Disk r s (λ e. cc e) said is

pub said_link : (r s : Status) → IsSaid s r → r ≡ status.Link → s ≡ status.Link
said_link r s said is = said_as status.Link r s (λ e. cc e) said is

pub said_input : (r s : Status) → IsSaid s r → r ≡ status.Input → s ≡ status.Input
said_input r s said is = said_as status.Input r s (λ e. cc e) said is

pub said_reply : (r s : Status) → IsSaid s r → r ≡ status.Reply → s ≡ status.Reply
said_reply r s said is = said_as status.Reply r s (λ e. cc e) said is

pub said_servers : (r s : Status) → IsSaid s r → IsTheServers r → IsTheServers s
said_servers r s (inl same) bad = subst IsTheServers same bad
said_servers r s (inr (ended, is)) bad = absurd (subst IsTheServers is bad)

-- a command that came to its end did so before its text was printed
pub said_through : (r s : Status) → IsSaid s r → CameThrough r → CameThrough s
said_through r s (inl same) through = subst CameThrough same through
said_through r s (inr (inl done, is)) through = subst CameThrough (sym done) tt
said_through r s (inr (inr conflicts, is)) through = subst CameThrough (sym conflicts) tt

-- one book is held
module _ (files : Files) (b c : Meaning) (holds : HasBook mail b files) (held : HasBook mail c files) where
  same_book : b ≡ c
  same_book = one_held mail one_mail_event files b c holds held

  same_version : holds.version ≡ held.version
  same_version = one_version holds.version held.version holds.bodies held.bodies files holds.holds held.holds

  same_end : (e : Event) → end_behind holds e ≡ end_behind held e
  same_end e =
      let bodies = one_book holds.version held.version holds.bodies held.bodies files holds.holds held.holds in
      ap (λ (v : Version). end_written v holds.bodies b + length (frame_of (body_of e))) same_version
      ∙ ap (λ (l : List (List ℕ)). end_written held.version l b + length (frame_of (body_of e))) bodies
      ∙ ap (λ (x : Meaning). end_written held.version held.bodies x + length (frame_of (body_of e))) same_book

  -- it is taken over, or it isn't, whichever way it is held
  taken_same : (x : Refusal) → IsNotTakenAs holds.version holds.holds.generation b x → IsNotTakenAs held.version held.holds.generation c x
  taken_same x why =
      let generation = same_generation holds.holds.side held.holds.side holds.version held.version holds.holds.generation held.holds.generation files
      holds.holds.present held.holds.present in
      subst (λ (y : Meaning). IsNotTakenAs held.version held.holds.generation y x) same_book
      (subst (λ (g : ℕ). IsNotTakenAs held.version g b x) generation
      (subst (λ (v : Version). IsNotTakenAs v holds.holds.generation b x) same_version why))

-- the request of an end is the one that is asked for
pub ended_as : (account : Credentials) (words : List (List ℕ)) (input : List ℕ) (k : Course) (r : Status) (text : List ℕ) (request : Request) →
    Asks words input request →
    Ends account words input k r text → (r ≡ status.Words → AsksNothing words) → EndsRequest account request k r text
ended_as account words input k r text request asks (inl w) cause = absurd (w.nothing input request asks)
ended_as account words input k r text request asks (inr s) cause =
    subst (λ (q : Request). EndsRequest account q k r text) (one_request words input s.request request s.asks asks) s.ends

module _ (k : Course) (wanted : Wanted) (t : IsTakable wanted k.seen) where
  -- no reason speaks against it
  free_of : (reason : Reason) → Stops wanted t.book reason → ⊥
  free_of reasons.NoMessageId stops = t.free.0 stops
  free_of reasons.BadText stops = t.free.1.0 stops
  free_of reasons.TooLarge stops = t.free.1.1.0 stops
  free_of reasons.NoMailbox stops = t.free.1.1.1.0 stops
  free_of reasons.NoMessage stops = t.free.1.1.1.1.0 stops
  free_of reasons.BadFlag stops = t.free.1.1.1.1.1.0 stops
  free_of reasons.SameMailbox stops = t.free.1.1.1.1.1.1.0 stops
  free_of reasons.QueueFull stops = t.free.1.1.1.1.1.1.1.0 stops

  never_refused : (text : List ℕ) → SaysRefused wanted k text → ⊥
  never_refused text s =
      let same = same_book k.seen s.book t.book s.stays.holds t.holds in
      free_of s.reason (subst (λ (b : Meaning). IsFirst wanted b s.reason) same s.is).stops

  never_long : (text : List ℕ) (b : Meaning) (holds : HasBook mail b k.seen) → PassesPlace wanted k b holds text → ⊥
  never_long text b holds p =
      let same = same_book k.seen b t.book holds t.holds in
      let is = subst (λ (c : Meaning). Becomes wanted c p.action) same p.is in
      let fits = t.room p.action is in
      let there = same_end k.seen b t.book holds t.holds (accepts t.book p.action) in
      let here : end_behind holds (accepts b p.action) ≡ end_behind holds (accepts t.book p.action) =
      ap (λ (c : Meaning). end_behind holds (accepts c p.action)) same in
      omega (arith, p.past, fits, there, here)

  never_past : (text : List ℕ) (b : Meaning) → PassesLimit wanted k b text → ⊥
  never_past text b s = by_limit s.past
    where
      by_limit : ((MAX_ACTIONS ≤ length b.queue) × (text ≡ limit_actions)) ⊎ PassesPlace wanted k b s.stays.holds text → ⊥
      by_limit (inl many) =
          let same = same_book k.seen b t.book s.stays.holds t.holds in omega (arith, many.0, t.few, ap (λ (x : Meaning). length x.queue) same)
      by_limit (inr long) = never_long text b s.stays.holds long

  never_full : (text : List ℕ) → SaysFull wanted k text → ⊥
  never_full text s =
      ⊎_elim (λ (past : PassesLimit wanted k s.book text). never_past text s.book past)
      (λ (older : PassesTakeover k s.book text).
      t.taken older.refusal older.is_limit (taken_same k.seen s.book t.book older.stays.holds t.holds older.refusal older.limit)) s.past

  act_done : (r : Status) (text : List ℕ) → EndsAct wanted k r text → (r ≡ status.Disk → ⊥) → (r ≡ status.Output → ⊥) → (r ≡ status.Input → ⊥) → IsDone r
  act_done status.Done text ends no_disk no_output no_input = inl refl
  act_done status.Memory text ends no_disk no_output no_input = inr refl
  act_done status.Output text ends no_disk no_output no_input = absurd (no_output refl)
  act_done status.Disk text ends no_disk no_output no_input = absurd (no_disk refl)
  act_done status.Journal text ends no_disk no_output no_input = absurd (never_both mail one_mail_event t.book k.seen t.holds ends.why ends.broken)
  act_done status.Reason text ends no_disk no_output no_input = absurd (never_refused text ends)
  act_done status.Limit text ends no_disk no_output no_input = absurd (never_full text ends)
  act_done status.Words text ends no_disk no_output no_input = absurd ends
  act_done status.Conflicts text ends no_disk no_output no_input = absurd ends
  act_done status.Link text ends no_disk no_output no_input = absurd ends
  act_done status.Refused text ends no_disk no_output no_input = absurd ends
  act_done status.Reply text ends no_disk no_output no_input = absurd ends
  act_done status.Lacking text ends no_disk no_output no_input = absurd ends
  act_done status.Validity text ends no_disk no_output no_input = absurd ends
  act_done status.Input text ends no_disk no_output no_input = absurd (no_input refl)
  act_done status.Shelf text ends no_disk no_output no_input = absurd ends

module _ (k : Course) (names : List (List ℕ)) (unbegun : IsUnbegun k.seen) where
  init_done : (r : Status) (text : List ℕ) → EndsInit names k r text → (r ≡ status.Disk → ⊥) → (r ≡ status.Output → ⊥) → IsDone r
  init_done status.Done text ends no_disk no_output = inl refl
  init_done status.Memory text ends no_disk no_output = inr refl
  init_done status.Output text ends no_disk no_output = absurd (no_output refl)
  init_done status.Disk text ends no_disk no_output = absurd (no_disk refl)
  init_done status.Journal text ends no_disk no_output =
      absurd (⊎_elim (λ (w : AnyWrong k.seen × _). unbegun w.0.side w.0.wrong.begun)
      (λ (s : IsTaken k.seen × _). unbegun s.0.side (open_head s.0.version s.0.generation (file_of s.0.side k.seen) s.0.set_up)) ends.taken)
  init_done status.Reason text ends no_disk no_output = absurd ends
  init_done status.Limit text ends no_disk no_output = absurd ends
  init_done status.Words text ends no_disk no_output = absurd ends
  init_done status.Conflicts text ends no_disk no_output = absurd ends
  init_done status.Link text ends no_disk no_output = absurd ends
  init_done status.Refused text ends no_disk no_output = absurd ends
  init_done status.Reply text ends no_disk no_output = absurd ends
  init_done status.Lacking text ends no_disk no_output = absurd ends
  init_done status.Validity text ends no_disk no_output = absurd ends
  init_done status.Input text ends no_disk no_output = absurd ends
  init_done status.Shelf text ends no_disk no_output = absurd ends

module _ (k : Course) (name : List ℕ) (t : IsListable name k.seen) where
  never_unknown : (text : List ℕ) → SaysUnknown name k text → ⊥
  never_unknown text s =
      let same = same_book k.seen s.book t.book s.stays.holds t.holds in
      let is = subst (λ (b : Meaning). is_unknown b.boxes name ≡ true) same s.unknown in
      cc (is, t.known)

  rows_done : (r : Status) (text : List ℕ) → EndsRows name k r text → (r ≡ status.Disk → ⊥) → (r ≡ status.Output → ⊥) → IsDone r
  rows_done status.Done text ends no_disk no_output = inl refl
  rows_done status.Memory text ends no_disk no_output = inr refl
  rows_done status.Output text ends no_disk no_output = absurd (no_output refl)
  rows_done status.Disk text ends no_disk no_output = absurd (no_disk refl)
  rows_done status.Journal text ends no_disk no_output = absurd (never_both mail one_mail_event t.book k.seen t.holds ends.why ends.broken)
  rows_done status.Reason text ends no_disk no_output = absurd (never_unknown text ends)
  rows_done status.Limit text ends no_disk no_output = absurd ends
  rows_done status.Words text ends no_disk no_output = absurd ends
  rows_done status.Conflicts text ends no_disk no_output = absurd ends
  rows_done status.Link text ends no_disk no_output = absurd ends
  rows_done status.Refused text ends no_disk no_output = absurd ends
  rows_done status.Reply text ends no_disk no_output = absurd ends
  rows_done status.Lacking text ends no_disk no_output = absurd ends
  rows_done status.Validity text ends no_disk no_output = absurd ends
  rows_done status.Input text ends no_disk no_output = absurd ends
  rows_done status.Shelf text ends no_disk no_output = absurd ends

module _ (shown : Meaning → List ℕ) (k : Course) (t : AreBook k.seen) where
  pub shown_done : (r : Status) (text : List ℕ) → EndsShown shown k r text → (r ≡ status.Disk → ⊥) → (r ≡ status.Output → ⊥) → IsDone r
  shown_done status.Done text ends no_disk no_output = inl refl
  shown_done status.Memory text ends no_disk no_output = inr refl
  shown_done status.Output text ends no_disk no_output = absurd (no_output refl)
  shown_done status.Disk text ends no_disk no_output = absurd (no_disk refl)
  shown_done status.Journal text ends no_disk no_output = absurd (never_both mail one_mail_event t.book k.seen t.holds ends.why ends.broken)
  shown_done status.Reason text ends no_disk no_output = absurd ends
  shown_done status.Limit text ends no_disk no_output = absurd ends
  shown_done status.Words text ends no_disk no_output = absurd ends
  shown_done status.Conflicts text ends no_disk no_output = absurd ends
  shown_done status.Link text ends no_disk no_output = absurd ends
  shown_done status.Refused text ends no_disk no_output = absurd ends
  shown_done status.Reply text ends no_disk no_output = absurd ends
  shown_done status.Lacking text ends no_disk no_output = absurd ends
  shown_done status.Validity text ends no_disk no_output = absurd ends
  shown_done status.Input text ends no_disk no_output = absurd ends
  shown_done status.Shelf text ends no_disk no_output = absurd ends

-- a `play` that the server serves
module _ (account : Credentials) (k : Course) (b : Meaning) (holds : HasBook mail b k.seen) where
  play_done : (r : Status) (text : List ℕ) → EndsPlay account k r text → (r ≡ status.Disk → ⊥) → (r ≡ status.Output → ⊥) → (r ≡ status.Link → ⊥) →
      (r ≡ status.Limit → ⊥) → (IsTheServers r → ⊥) → IsPlayed r
  play_done status.Done text ends no_disk no_output no_link no_limit serves = inl refl
  play_done status.Conflicts text ends no_disk no_output no_link no_limit serves = inr (inl refl)
  play_done status.Memory text ends no_disk no_output no_link no_limit serves = inr (inr refl)
  play_done status.Output text ends no_disk no_output no_link no_limit serves = absurd (no_output refl)
  play_done status.Disk text ends no_disk no_output no_link no_limit serves = absurd (no_disk refl)
  play_done status.Journal text ends no_disk no_output no_link no_limit serves =
      absurd (never_both mail one_mail_event b k.seen holds ends.says.why ends.says.broken)
  play_done status.Reason text ends no_disk no_output no_link no_limit serves = absurd ends
  play_done status.Limit text ends no_disk no_output no_link no_limit serves = absurd (no_limit refl)
  play_done status.Words text ends no_disk no_output no_link no_limit serves = absurd ends
  play_done status.Link text ends no_disk no_output no_link no_limit serves = absurd (no_link refl)
  play_done status.Refused text ends no_disk no_output no_link no_limit serves = absurd (serves tt)
  play_done status.Reply text ends no_disk no_output no_link no_limit serves = absurd (serves tt)
  play_done status.Lacking text ends no_disk no_output no_link no_limit serves = absurd (serves tt)
  play_done status.Validity text ends no_disk no_output no_link no_limit serves = absurd ends
  play_done status.Input text ends no_disk no_output no_link no_limit serves = absurd ends
  play_done status.Shelf text ends no_disk no_output no_link no_limit serves = absurd ends

module _ (account : Credentials) (words : List (List ℕ)) (input : List ℕ) (k : Course) (r : Status) (text : List ℕ)
    (ends : Ends account words input k r text) (cause : r ≡ status.Words → AsksNothing words)
    (no_disk : r ≡ status.Disk → ⊥) (no_output : r ≡ status.Output → ⊥) where
  pub completes_act : (wanted : Wanted) → Asks words input (Act wanted) → IsTakable wanted k.seen → (r ≡ status.Input → ⊥) → IsDone r
  completes_act wanted asks t no_input =
      act_done k wanted t r text (ended_as account words input k r text (Act wanted) asks ends cause).says no_disk no_output no_input

  pub completes_init : (names : List (List ℕ)) → Asks words input (Init names) → IsUnbegun k.seen → IsDone r
  completes_init names asks unbegun =
      init_done k names unbegun r text (ended_as account words input k r text (Init names) asks ends cause).says no_disk no_output

  pub completes_rows : (name : List ℕ) → Asks words input (Rows name) → IsListable name k.seen → IsDone r
  completes_rows name asks t = rows_done k name t r text (ended_as account words input k r text (Rows name) asks ends cause).says no_disk no_output

  pub completes_queue : Asks words input Queue → AreBook k.seen → IsDone r
  completes_queue asks t = shown_done queue_text k t r text (ended_as account words input k r text Queue asks ends cause).says no_disk no_output

  pub completes_report : Asks words input Report → AreBook k.seen → IsDone r
  completes_report asks t = shown_done report_text k t r text (ended_as account words input k r text Report asks ends cause).says no_disk no_output

  pub completes_play : Asks words input Play → (b : Meaning) → HasBook mail b k.seen → (r ≡ status.Link → ⊥) → (r ≡ status.Limit → ⊥) →
      (IsTheServers r → ⊥) → IsPlayed r
  completes_play asks b holds no_link no_limit serves =
      play_done account k b holds r text (ended_as account words input k r text Play asks ends cause) no_disk no_output no_link no_limit serves
