-- A run: it enters, takes its turns, and leaves.
use Rattle.action_queue.specs.Book.{Meaning}
use Rattle.action_queue.specs.declared.book.Known.{Known}
use Rattle.action_queue.specs.declared.event.Event.{Event}
use Rattle.imap_model.specs.Talking.{Connecting, Peer, Talk}
use Rattle.imap_model.specs.declared.response.Response.{Response}
use Rattle.imap_session.proofs.Talks.{asks_enquires, connects_enquires}
use Rattle.imap_session.specs.Enquiring.{Enquiring}
use Rattle.imap_session.specs.declared.fault.SessionFault.{SessionFault}
use Rattle.imap_session.specs.declared.ready.Ready.{Ready}
use Rattle.mail_base.specs.Account.{Credentials}
use Rattle.mail_base.specs.declared.tag.Tag.{Tag}
use Rattle.play_driver.proofs.Calls.{enquires_stays, stays_then}
use Rattle.play_driver.proofs.Folds.{fold_actions, fold_few}
use Rattle.play_driver.proofs.Links.{books_there}
use Rattle.play_driver.proofs.ManyTurns.{GoneOn, joined_on, so_on}
use Rattle.play_driver.proofs.NotRead.{asked_not_read, synced_later}
use Rattle.play_driver.proofs.KnownLaws.{known_law}
use Rattle.play_driver.proofs.PlayedKept.{withstood}
use Rattle.play_driver.proofs.Parts.{grows, grows_start, grows_then, since_first, since_second}
use Rattle.play_driver.proofs.Progressing.{later_start, linked_progress, progress_then}
use Rattle.play_driver.proofs.BookAtRest.{book_rests_linked}
use Rattle.play_driver.proofs.Opened.{opens_enquiring}
use Rattle.play_driver.proofs.OverOne.{over_talks, run_then, talks_run, talks_then}
use Rattle.play_driver.proofs.Shortness.{place_before, short_first, short_last}
use Rattle.imap_session.specs.Session.{Stands, waiting_of}
use Rattle.literal_feed.specs.Stream.{Stream}
use Rattle.play_driver.specs.Entering.{HasEntered, OpensFrom}
use Rattle.play_driver.specs.Faults.{of_session}
use Rattle.play_driver.specs.Joining.{AllFair, Grows, IsFair, IsKept, Joined, StaysJoined}
use Rattle.play_driver.specs.KnownAt.{KnownAt, StandsKept}
use Rattle.play_driver.specs.Played.{played}
use Rattle.play_driver.specs.Playing.{CameTo, EndsEarly, HasLeft, NotLeft, Plays}
use Rattle.play_driver.specs.Playing.EndsEarly.{turn_failed, not_left}
use Rattle.play_driver.specs.Questioning.{ConnectsFirst, Questioning, RunStep, TalkStep}
use Rattle.play_driver.specs.TrueRecords.IsTrueSince.{enters, rests}
use Rattle.play_driver.specs.Progress.{IsLater, Progresses, has_name}
use Rattle.play_driver.specs.Running.{RunsBetween, StopsBehind, first_standing, turns_left}
use Rattle.play_driver.specs.declared.session.Held.{Held}
use Rattle.play_driver.specs.Settled.{AreSyncedBehind, IsSyncedSoFar}
use Rattle.play_driver.specs.Stages.{Stage, stage_of}
use Rattle.play_driver.specs.Synced.{AsksRows, IsNotRead, IsSynced}
use Rattle.play_driver.specs.TrueRecords.{IsTrueBefore, IsTrueSince, RecordsTruly, StopsTruly}
use Rattle.play_driver.specs.Turning.{Standing, standing_of}
use Rattle.play_driver.specs.declared.fault.PlayFault.{PlayFault}
use Rattle.playback.proofs.Falling.{left_at_first}
use Rattle.playback.specs.Choosing.{IsEntered, begun_with}
use Rattle.book_laws.specs.Kept.{Kept}
use Rattle.playback.specs.Left.{left, unsettled}
use Rattle.playback.specs.Needs.{IsFinished}
use Rattle.playback.specs.declared.player.Player.{Player}
use Rattle.std.proofs.Common.{arith, Bool, List, None, Option, Some, [], ap, cond, false, length, inl, inr, refl, subst, suc, sym, true, ℕ, ◌*◌, ◌+◌, ◌<◌}
use Rattle.std.proofs.Common.{◌∙◌, ◌∷◌, ◌≡◌, ◌≤◌}
use Rattle.std.proofs.lemmas.Option.{none-some}
use Rattle.std.proofs.lemmas.Slice.Eq.{bytes_eq-Decides}
use Rattle.std.specs.Prelude.{bytes_eq, map, slice_get}
use Rattle.std.specs.declared.alloc.Global.{Global}
use Rattle.store_core.proofs.MailBook.{one_mail_event}
use Rattle.store_core.specs.Fold.{IsFold}
use Rattle.store_core.specs.Holding.{Holding}
use Rattle.store_core.specs.Mail.{mail}
use Rattle.store_core.specs.Steps.{Firm}
use Rattle.store_core.specs.Taking.{HasBooks}
use Rattle.world_traits.proofs.Traces.{carried_now}
use Rattle.world_traits.specs.Asking.{Asking}
use Rattle.world_traits.specs.LinkState.{Connection, LinkState}
use Rattle.world_traits.specs.Links.{Any, AnyStep, LinkStep, Linked}
use Rattle.world_traits.specs.Moments.{Clock, Since}
use Rattle.imap_model.specs.declared.command.Command.TheVariants as commands
use Rattle.imap_session.specs.declared.fault.SessionFault.TheVariants as session_faults
use Rattle.play_driver.specs.declared.fault.PlayFault.TheVariants as faults
use Rattle.play_driver.specs.declared.fault.Why.{Why}
use Rattle.play_driver.specs.declared.session.Session.TheVariants as sessions

-- LOGOUT is a question, and asks for no rows
no_rows_left : (name : List ℕ) (selected : Option (List ℕ)) (tag : Tag) → AsksRows name (waiting_of selected tag commands.Logout) → ⊥
no_rows_left name selected tag (inl (since, is)) = absurd cc
no_rows_left name selected tag (inr (there, is)) = absurd cc

pub leaves_asking : (told : List Response) (tag : Tag) (old new : Clock) → Linked (Asking told tag commands.Logout) old new → Linked Enquiring old new
leaves_asking told tag old new linked = asks_enquires told tag commands.Logout refl old new linked

pub leaves_unread : (tag : Tag) (old new : Clock) → old.now.outside.waiting ≡ None → old.now.outside.talk.arriving ≡ None →
    Linked (Asking old.now.outside.talk.told tag commands.Logout) old new → (name : List ℕ) → Since Any (IsNotRead name) old new
leaves_unread tag old new none nothing linked name =
    asked_not_read name tag commands.Logout old new none nothing (no_rows_left name old.now.outside.talk.selected tag) linked

-- questions alone, beside a firm book
pub questions_stay : (b : Meaning) (old new : Clock) → HasBooks mail (Firm (Some b)) old.now → Linked Enquiring old new → IsKept mail Kept old.now →
    StaysJoined mail Kept played old new
questions_stay b old new has linked kept = enquires_stays mail one_mail_event Kept played withstood (Firm (Some b)) old new has kept linked

-- the firm book stays as the link is called
pub firm_there : (S : Peer → Peer → Type 0) (b : Meaning) (old new : Clock) → HasBooks mail (Firm (Some b)) old.now → Linked S old new →
    HasBooks mail (Firm (Some b)) new.now
firm_there S b old new has linked =
    carried_now Any (HasBooks mail (Firm (Some b))) (LinkStep S) (λ m n any s h. books_there S m n s mail (Firm (Some b)) h) old has new linked

-- what is kept now, where the call joined its moments
kept_now : (old new : Clock) → IsKept mail Kept old.now → Since (IsKept mail Kept) (Joined mail played) old new → IsKept mail Kept new.now
kept_now old new kept s = carried_now (IsKept mail Kept) (IsKept mail Kept) (Joined mail played) (λ m n here j h. here) old kept new s

-- whatever the server does
module _ (b : Meaning) (old k l : Clock) (firm : HasBooks mail (Firm (Some b)) old.now) (calls : Linked AnyStep old k) (plays : Progresses b k l)
  where
    pub progress_two : Progresses b old l
    progress_two = progress_then b b (later_start b) old k l (linked_progress b AnyStep old k firm calls) plays

    pub progress_three : (c : Meaning) (m : Clock) → IsLater b c → HasBooks mail (Firm (Some c)) l.now → Linked AnyStep l m → Progresses b old m
    progress_three c m later there leaves = progress_then b c later old l m progress_two (linked_progress c AnyStep l m there leaves)

-- A run has entered, with the book that a stop would leave before: its connection was made and questions were asked, and the player
-- begins.
pub record HasBegun (b : Meaning) (p : Player) (old k : Clock) : Type 0 where
  pub alloc : Global
  pub begun : p ≡ begun_with alloc b
  pub entered : IsEntered b p b
  pub firm : HasBooks mail (Firm (Some b)) old.now
  pub asked : Linked Enquiring old k
  pub opened : OpensFrom old k
  pub waits : k.now.outside.waiting ≡ None
  pub selects : k.now.outside.talk.selected ≡ None

pub begins_so : (alloc : Global) (b x : Meaning) (p : Player) → p ≡ begun_with alloc x → x ≡ b → p ≡ begun_with alloc b
begins_so alloc b x p begun same = begun ∙ ap (λ (y : Meaning). begun_with alloc y) same

pub has_begun : (alloc : Global) (b x : Meaning) (p : Player) → p ≡ begun_with alloc x → IsEntered x p x → x ≡ b → (old k : Clock) →
    HasBooks mail (Firm (Some b)) old.now → Linked Enquiring old k → OpensFrom old k → (c : Option Connection) (feed : Stream) → Stands None k c
    feed →
    HasBegun b p old k
has_begun alloc b x p begun entered same old k firm asked opened c feed stands = record {
  alloc = alloc;
  begun = begins_so alloc b x p begun same;
  entered = subst (λ (y : Meaning). IsEntered y p y) same entered;
  firm = firm;
  asked = asked;
  opened = opened;
  waits = stands.nothing;
  selects = stands.selects;
}

module _ (b : Meaning) (p : Player) (old k : Clock) (r : HasBegun b p old k) where
  made_first : Grows old r.opened.made
  made_first = grows Any (LinkStep Connecting) old r.opened.made r.opened.connects

  made_then : Grows r.opened.made k
  made_then = grows Any (LinkStep Questioning) r.opened.made k r.opened.asks

  firm_made : HasBooks mail (Firm (Some b)) r.opened.made.now
  firm_made = firm_there Connecting b old r.opened.made r.firm r.opened.connects

  -- up to there nothing was recorded
  true_entered : IsTrueSince b r.opened.made k b
  true_entered = rests r.opened.made k b enters (book_rests_linked b Questioning r.opened.made k firm_made r.opened.asks)

  first_part : Grows old k
  first_part = grows Any (LinkStep Enquiring) old k r.asked

  pub run_grows : (l : Clock) → Grows k l → Grows old l
  run_grows l more = grows_then old k l first_part more

  -- where the book is kept
  module _ (kept : IsKept mail Kept old.now) where
    stands_made : AllFair mail played old r.opened.made → StandsKept b r.opened.made
    stands_made fair = record {
      books = firm_made;
      kept = kept_now old r.opened.made kept
          (questions_stay b old r.opened.made r.firm (connects_enquires old r.opened.made r.opened.connects) kept r.opened.made made_first
          (grows_start r.opened.made) fair);
      none_waits = r.opened.greeted.quiet;
      none_arrives = ap (λ (t : Talk). t.arriving) r.opened.greeted.talk;
    }

    known_entered : AllFair mail played old k → KnownAt r.opened.made k None None p b
    known_entered fair =
        subst (λ (x : Player). KnownAt r.opened.made k None None x b) (sym r.begun)
        (known_law.begins r.alloc b r.opened.made k (stands_made (since_first Any (IsFair mail played) old r.opened.made k made_first made_then fair))
        (opens_enquiring r.opened.made k r.opened.asks)
        (since_second Any (IsFair mail played) old r.opened.made k made_first made_then fair) r.waits r.selects None)

    gone_entered : GoneOn r.opened.made old k None None p b
    gone_entered = record { joined = questions_stay b old k r.firm r.asked kept; known = known_entered }

    -- so far every action was settled, and no mailbox resynchronised
    synced_entered : IsSyncedSoFar old k None p b
    synced_entered =
        subst (λ (x : Player). IsSyncedSoFar old k None x b) (sym r.begun) (λ settled. record {
          from = k;
          later = first_part;
          before = grows_start k;
          settled = record { book = b; books = firm_there Enquiring b old k r.firm r.asked; settled = settled };
          counted = λ i known there below other none. absurd (omega (arith, below));
          pending = λ told is. absurd cc;
          unread = λ h is. absurd (none-some h is);
        })

    -- the turns
    module _ (l : Clock) (more : Grows k l) where
      pub run_two : (IsKept mail Kept k.now → KnownAt r.opened.made k None None p b → StaysJoined mail Kept played k l) → StaysJoined mail Kept played
          old l
      run_two turns = joined_on r.opened.made old k None None p b kept first_part gone_entered l more turns

      run_so : (R : Type 0) → AllFair mail played old l → (IsKept mail Kept k.now → KnownAt r.opened.made k None None p b → AllFair mail played k l → R)
          → R
      run_so R fair turns =
          so_on r.opened.made old k None None p b kept first_part gone_entered l more R fair (λ first here knows second. turns here knows second)

      pub true_two : (c : Meaning) → AllFair mail played old l → Since Any TalkStep k l →
          (IsKept mail Kept k.now → KnownAt r.opened.made k None None p b → AllFair mail played k l →
          IsEntered b p b → IsTrueSince b r.opened.made k b → IsTrueSince b r.opened.made l c) → RecordsTruly b c old l
      true_two c fair talks turns =
          run_so (RecordsTruly b c old l) fair (λ here knows second. record {
            made = r.opened.made;
            connects = r.opened.connects;
            behind = talks_run r.opened.made l (talks_then r.opened.made k l (over_talks r.opened.made k r.opened.asks) talks);
            truly = turns here knows second r.entered true_entered;
          })

      pub stopped_two : (c : Meaning) (event : Event) → AllFair mail played old l → Since Any TalkStep k l →
          (IsKept mail Kept k.now → KnownAt r.opened.made k None None p b → AllFair mail played k l → IsEntered b p b → IsTrueSince b r.opened.made k b →
          IsTrueBefore event b c r.opened.made l) → StopsTruly b c old l
      stopped_two c event fair talks turns =
          run_so (StopsTruly b c old l) fair (λ here knows second. record {
            event = event;
            made = r.opened.made;
            connects = r.opened.connects;
            behind = talks_run r.opened.made l (talks_then r.opened.made k l (over_talks r.opened.made k r.opened.asks) talks);
            truly = turns here knows second r.entered true_entered;
          })

      -- what the server told wasn't at fault
      pub faultless_two : AllFair mail played old l →
          (IsKept mail Kept k.now → KnownAt r.opened.made k None None p b → AllFair mail played k l → ⊥) → ⊥
      faultless_two fair turns = run_so ⊥ fair turns

      pub synced_two : (held : Option Held) (q : Player) (c : Meaning) → AllFair mail played old l →
          (Grows old k → IsKept mail Kept k.now → KnownAt r.opened.made k None None p b → AllFair mail played k l → IsSyncedSoFar old k None p b →
          IsSyncedSoFar old l held q c) → IsSyncedSoFar old l held q c
      synced_two held q c fair turns =
          run_so (IsSyncedSoFar old l held q c) fair (λ here knows second. turns first_part here knows second synced_entered)

-- and left
pub leaves_grow : (l m : Clock) → Linked Enquiring l m → Grows l m
leaves_grow l m leaves = grows Any (LinkStep Enquiring) l m leaves

module _ (old l m : Clock) (before : Grows old l) (c : Meaning) (firm : HasBooks mail (Firm (Some c)) l.now) (leaves : Linked Enquiring l m) where
  pub run_three : IsKept mail Kept old.now → StaysJoined mail Kept played old l → StaysJoined mail Kept played old m
  run_three kept joined =
      stays_then mail Kept played old l m kept before (leaves_grow l m leaves) joined (λ here. questions_stay c l m firm leaves here)

  pub fair_run : AllFair mail played old m → AllFair mail played old l
  fair_run fair = since_first Any (IsFair mail played) old l m before (leaves_grow l m leaves) fair

  pub true_three : (b : Meaning) → Since Any RunStep l m → RecordsTruly b c old l → RecordsTruly b c old m
  true_three b talks r = record {
    made = r.made;
    connects = r.connects;
    behind = run_then r.made l m r.behind talks;
    truly = rests l m c r.truly (book_rests_linked c Enquiring l m firm leaves);
  }

-- nothing was recorded
pub true_one : (b : Meaning) (old new : Clock) → HasBooks mail (Firm (Some b)) old.now → ConnectsFirst (LinkStep Questioning) old new →
    RecordsTruly b b old new
true_one b old new firm first = record {
  made = first.at;
  connects = first.connects;
  behind = talks_run first.at new (over_talks first.at new first.behind);
  truly = rests first.at new b enters
      (book_rests_linked b Questioning first.at new (firm_there Connecting b old first.at firm first.connects) first.behind);
}

-- a session that ended with no reply had one that is none
pub bad_at : (f : SessionFault) (why : Why) → faults.BadReply why ≡ of_session f → (at : ℕ) × (f ≡ session_faults.BadReply at)
bad_at session_faults.Memory why is = absurd cc
bad_at session_faults.Link why is = absurd cc
bad_at (session_faults.Refused line) why is = absurd cc
bad_at (session_faults.BadReply at) why is = (at, refl)
bad_at (session_faults.Lacking item) why is = absurd cc
bad_at (session_faults.TooLarge limit number) why is = absurd cc

-- a name of the book is that of a mailbox at a place
record IsPlaced (name : List ℕ) (boxes : List Known) : Type 0 where
  place : ℕ
  known : Known
  there : slice_get boxes place ≡ Some known
  named : known.name ≡ name

abbrev names_of : List Known → List (List ℕ)
names_of boxes = map (λ (k : Known). k.name) boxes

placed_by : (name : List ℕ) (k : Known) (ks : List Known) → (has_name name (names_of ks) ≡ true → IsPlaced name ks) → (here : Bool) →
    bytes_eq k.name name ≡ here → cond here true (has_name name (names_of ks)) ≡ true → IsPlaced name (k ∷ ks)
placed_by name k ks later true e is = record { place = 0; known = k; there = refl; named = (bytes_eq-Decides k.name name).0 e }
placed_by name k ks later false e is =
    let x = later is in record { place = suc x.place; known = x.known; there = x.there; named = x.named }

placed : (name : List ℕ) (boxes : List Known) → has_name name (names_of boxes) ≡ true → IsPlaced name boxes
placed name [] is = absurd cc
placed name (k ∷ ks) is = placed_by name k ks (placed name ks) (bytes_eq k.name name) refl is

-- so each mailbox is synced where the run is finished
pub all_synced : (old l m : Clock) (q : Player) (c : Meaning) → IsFinished q c → IsSyncedSoFar old l None q c → Grows l m →
    ((name : List ℕ) → Since Any (IsNotRead name) l m) → AreSyncedBehind old m c
all_synced old l m q c finished so more unread =
    let s = so finished.settled in
    record {
      from = s.from;
      later = s.later;
      before = grows_then s.from l m s.before more;
      settled = s.settled;
      each = λ name has.
          let x = placed name c.boxes has in
          let within = place_before c.boxes x.place x.known x.there in
          let t =
          s.counted x.place x.known x.there (omega (arith, within, finished.resynced))
          (λ pending. none-some pending.told (sym finished.recorded ∙ pending.learns)) (λ held. absurd held) in
          subst (λ (n : List ℕ). IsSynced n c s.from m) x.named (synced_later x.known.name c s.from l m t (unread x.known.name));
    }

-- how far it came
module _ (account : Credentials) (alloc : Global) (s : Holding mail) (p : Player) (begun : p ≡ begun_with alloc s.book) (link : LinkState)
    (ready : Ready)
    (entered : HasEntered account (stage_of link (sessions.Ready ready))) where
  abbrev First : Stage
  First = stage_of link (sessions.Ready ready)

  pub came_to : (q : Standing) → RunsBetween (standing_of link (sessions.Ready ready) s p) q → CameTo First s q
  came_to q came =
      let r : RunsBetween (first_standing alloc First s) q =
      subst (λ (x : Player). RunsBetween (standing_of link (sessions.Ready ready) s x) q) begun came in
      record {
        alloc = alloc;
        selects = r.selects;
        learns = r.learns;
        runs = r.runs;
        short = short_last r.selects r.learns q s.book
            (r.short (unsettled s.book.queue + length s.book.boxes) (short_first alloc s.book));
      }

  pub plays_so : (q : Standing) (later : LinkState) → RunsBetween (standing_of link (sessions.Ready ready) s p) q → IsFinished q.player q.store.book →
      HasLeft q.stage later → Plays account s q.store later
  plays_so q later came finished left =
      record { first = First; entered = entered; last = q; came = came_to q came; finished = finished; is = refl; left = left }

  pub stops_early : (store : Holding mail) (old later : LinkState) (fault : PlayFault) →
      StopsBehind (standing_of link (sessions.Ready ready) s p) store later fault → EndsEarly account s store old later fault
  stops_early store old later fault x = turn_failed First x.at entered (came_to x.at x.came) x.fails x.same x.still

  pub stays_on_line : (q : Standing) (old later : LinkState) (f : SessionFault) (fault : PlayFault) → fault ≡ of_session f →
      RunsBetween (standing_of link (sessions.Ready ready) s p) q → IsFinished q.player q.store.book → NotLeft q.stage later f →
      EndsEarly account s q.store old later fault
  stays_on_line q old later f fault is came finished not_so = not_left f First q is entered (came_to q came) finished not_so refl

-- the room for a run's questions
pub has_room : (alloc : Global) (b : Meaning) (p : Player) → p ≡ begun_with alloc b → IsFold b → (count : ℕ) → count ≤ 4 →
    count + 2 * turns_left None p b + 3 < 4294967295
has_room alloc b p begun fold count few =
    let same : left p b ≡ left (begun_with alloc b) b = ap (λ (x : Player). left x b) begun in
    omega (arith, few, same, left_at_first alloc b, fold_few b fold, fold_actions b fold)
