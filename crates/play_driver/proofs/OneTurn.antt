-- One turn, by what its call tells: a record, a resynchronisation, or a question.
use Rattle.action_queue.specs.Book.{Meaning, cache_at, learned}
use Rattle.action_queue.specs.Queues.{due_action, tries_due}
use Rattle.action_queue.specs.declared.event.Event.{Event}
use Rattle.imap_model.specs.declared.command.Command.{Command}
use Rattle.imap_model.specs.declared.replies.Replies.{Replies}
use Rattle.imap_session.specs.Dialogue.{next_tag}
use Rattle.imap_session.specs.Session.{Stands}
use Rattle.imap_session.specs.declared.chosen.Chosen.{Chosen}
use Rattle.literal_feed.specs.Stream.{Stream}
use Rattle.mail_base.specs.declared.tag.Tag.{Tag}
use Rattle.mailbox_cache.specs.declared.delta.Delta.{Delta}
use Rattle.play_driver.proofs.Asked.{lawful_fold}
use Rattle.play_driver.proofs.NotRead.{last_earlier, last_later, synced_later}
use Rattle.play_driver.proofs.Parts.{grows_then}
use Rattle.play_driver.proofs.Progressing.{firm_left}
use Rattle.play_driver.specs.Faults.{IsReplyFault}
use Rattle.play_driver.specs.Joining.{Grows, IsKept}
use Rattle.play_driver.specs.KnownAt.{KnownAt, StandsKept}
use Rattle.play_driver.specs.Recording.{NotRecorded, recorded}
use Rattle.play_driver.specs.Recording.NotRecorded.{disk, full, wanting}
use Rattle.play_driver.specs.Sessions.{count_of, held_in, permits_in, selected_in}
use Rattle.play_driver.specs.Settled.{IsHeldOf, IsPending, IsReadHeld, IsSyncedSoFar, SyncedSince}
use Rattle.play_driver.specs.Stages.{DeltaCameOf, stage_of}
use Rattle.play_driver.specs.Synced.{IsLastRead, IsNotRead}
use Rattle.play_driver.specs.TrueRecords.{IsTrueSince, TrueEvent}
use Rattle.play_driver.specs.TrueRecords.IsTrueSince.{records as more_true}
use Rattle.play_driver.specs.Turning.Turns.{asks, records, selects}
use Rattle.play_driver.specs.Turning.{AskedBetween, IsAskedFor, TurnFails, Turns, permits_due, standing_of}
use Rattle.play_driver.specs.declared.fault.PlayFault.{PlayFault}
use Rattle.play_driver.specs.declared.session.Held.{Held}
use Rattle.play_driver.specs.declared.session.Session.{Session}
use Rattle.playback.specs.Allowed.{Records}
use Rattle.playback.specs.Choosing.{IsChosen, committed}
use Rattle.book_laws.specs.Kept.{Kept}
use Rattle.playback.specs.Needs.{IsBeside, IsLawfulNeed, need_of}
use Rattle.playback.specs.Replying.{IsHeard}
use Rattle.playback.specs.Worlds.{name_of}
use Rattle.playback.specs.declared.finding.Resynced.{Resynced}
use Rattle.playback.specs.declared.finding.Selected.{Selected}
use Rattle.playback.specs.declared.need.Need.{Need}
use Rattle.playback.specs.declared.player.Player.{Player}
use Rattle.std.proofs.Common.{inl, inr, List, None, Ok, Option, Some, ap, refl, subst, sym, true, ℕ, ⊎_elim, ◌<◌, ◌∙◌, ◌≡◌, ◌≢◌, ◌⊎◌}
use Rattle.std.proofs.lemmas.Option.{none-some, same_Some}
use Rattle.std.specs.Prelude.{is_some}
use Rattle.store_core.specs.Fold.{IsFold}
use Rattle.store_core.specs.Holding.{Holding, IsAsLeft}
use Rattle.store_core.specs.Mail.{mail}
use Rattle.store_core.specs.Taking.{Takes}
use Rattle.world_traits.specs.Files.{Files}
use Rattle.world_traits.specs.LinkState.{Connection, LinkState}
use Rattle.world_traits.specs.Links.{Any}
use Rattle.world_traits.specs.Moments.{Clock, Since}
use Rattle.playback.specs.declared.need.Need.TheVariants as needs
use Rattle.play_driver.specs.declared.session.Session.TheVariants as sessions

-- Where a call left the store, and the connection rests, a kept moment stands.
pub stands_kept : (store : Holding mail) (k : Clock) (seen : Files) (selected : Option (List ℕ)) (c : Option Connection) (feed : Stream) →
    IsAsLeft mail store k.now seen → Stands selected k c feed → IsKept mail Kept k.now → StandsKept store.book k
stands_kept store k seen selected c feed left stands kept =
    record { books = firm_left store k seen left; kept = kept; none_waits = stands.nothing; none_arrives = stands.no_part }

-- nothing was done
pub left_kept : {X : Type 0} (clock : X → Clock) (seen : X → Files) (store now : Holding mail) (x y : X) → now ≡ store → y ≡ x →
    IsAsLeft mail store (clock x).now (seen x) → IsAsLeft mail now (clock y).now (seen y)
left_kept {X} clock seen store now x y same still left =
    subst (λ (s : Holding mail). IsAsLeft mail s (clock y).now (seen y)) (sym same)
    (subst (λ (z : X). IsAsLeft mail store (clock z).now (seen z)) (sym still) left)

pub true_kept : {X : Type 0} (clock : X → Clock) (b c : Meaning) (x y : X) → c ≡ b → y ≡ x → (entry : Meaning) (made : Clock) →
    IsTrueSince entry made (clock x) b → IsTrueSince entry made (clock y) c
true_kept {X} clock b c x y same still entry made truly =
    subst (λ (d : Meaning). IsTrueSince entry made (clock y) d) (sym same)
    (subst (λ (z : X). IsTrueSince entry made (clock z) b) (sym still) truly)

-- An event was recorded.
module _ (s t : Holding mail) (event : Event) (is : t ≡ recorded s event) where
  pub true_more : (entry : Meaning) (made old new : Clock) → IsTrueSince entry made old s.book → TrueEvent event entry s.book made old →
      Takes mail (Some s.book) event old new → IsTrueSince entry made new t.book
  true_more entry made old new before truly takes =
      subst (λ (u : Holding mail). IsTrueSince entry made new u.book) (sym is) (more_true old new s.book event before truly takes)

  pub records_turn : (link later : LinkState) (session : Session) (p q : Player) → held_in session ≡ None → later ≡ link → q ≡ committed p t.book →
      Records (need_of p s.book) event → Turns (standing_of link session s p) (standing_of later session t q)
  records_turn link later session p q resting same goes needed =
      records event resting needed
      (ap (λ (l : LinkState). standing_of l session t q) same ∙ ap (λ (u : Holding mail). standing_of link session u q) is
      ∙ ap (standing_of link session (recorded s event)) (goes ∙ ap (λ (u : Holding mail). committed p u.book) is))

-- What the server told is no reason for which an event isn't recorded.
pub no_reply_fault : (event : Event) (s : Holding mail) (fault : PlayFault) → NotRecorded event s fault → IsReplyFault fault → ⊥
no_reply_fault event s fault (wanting takes is) = λ told. subst IsReplyFault is told
no_reply_fault event s fault (disk is) = λ told. subst IsReplyFault is told
no_reply_fault event s fault (full more is) = λ told. subst IsReplyFault is told

-- The first mailboxes stay resynchronised over a call of the link, which records nothing, and reads no mailbox but that of which something
-- is to be recorded then.
module _ (c : Meaning) (old new : Clock) (p q : Player) (start : Clock) (more : Grows old new) (resynced : q.resynced ≡ p.resynced) where
  abbrev LeavesOthers : Option Held → Option Held → Type 0
  LeavesOthers held later = (name : List ℕ) → (IsPending name q → ⊥) → (IsHeldOf name later → ⊥) →
      (IsPending name p → ⊥) × (IsHeldOf name held → ⊥) × Since Any (IsNotRead name) old new

  abbrev IsReadHere : Resynced → Type 0
  IsReadHere told = IsLastRead told.name (learned (cache_at told.name c.boxes) told.delta) old new

  -- what was so of a mailbox up to the first clock, and what is so behind it
  synced_as : (held later : Option Held) (s : SyncedSince start old held p c) → LeavesOthers held later → ((told : Resynced) → q.learns ≡ Some told →
      IsReadHere told ⊎ ((p.learns ≡ Some told) × Since Any (IsNotRead told.name) old new)
      ⊎ IsLastRead told.name (learned (cache_at told.name c.boxes) told.delta) s.from new) →
      ((h : Held) → later ≡ Some h → IsReadHeld h s.from new) → SyncedSince start new later q c
  synced_as held later s leaves pending unread = record {
    from = s.from;
    later = s.later;
    before = grows_then s.from old new s.before more;
    settled = s.settled;
    counted = λ i known at below other none.
        let then = leaves known.name other none in
        synced_later known.name c s.from old new (s.counted i known at (subst (λ (n : ℕ). i < n) resynced below) then.0 then.1) then.2;
    pending = λ told is.
        let Put = learned (cache_at told.name c.boxes) told.delta in
        ⊎_elim (λ (read : IsReadHere told). last_earlier told.name Put s.from old new s.before read)
        (λ (rest : ((p.learns ≡ Some told) × Since Any (IsNotRead told.name) old new) ⊎ IsLastRead told.name Put s.from new).
        ⊎_elim (λ (was : (p.learns ≡ Some told) × Since Any (IsNotRead told.name) old new).
        last_later told.name Put s.from old new (s.pending told was.0) was.1)
        (λ (here : IsLastRead told.name Put s.from new). here) rest) (pending told is);
    unread = unread;
  }

  pub synced_asked : q.learns ≡ p.learns → ((name : List ℕ) → Since Any (IsNotRead name) old new) → IsSyncedSoFar start old None p c →
      IsSyncedSoFar start new None q c
  synced_asked learns unread so_far settled =
      synced_as None None (so_far settled)
      (λ name other none. (
        λ was. other (record { told = was.told; learns = learns ∙ was.learns; named = was.named }),
        λ held. absurd held,
        unread name,
      )) (λ told is. inr (inl (sym learns ∙ is, unread told.name))) (λ h is. absurd (none-some h is))

  -- A mailbox was resynchronised, of which nothing was to be recorded before.
  module _ (name : List ℕ) (none : p.learns ≡ None)
      (others : (other : List ℕ) → name ≢ other → Since Any (IsNotRead other) old new) where
    not_pending : (other : List ℕ) → IsPending other p → ⊥
    not_pending other was = none-some was.told (sym none ∙ was.learns)

    -- what was told of it is to be recorded
    module _ (named : (told : Resynced) → q.learns ≡ Some told → told.name ≡ name) (there : is_some q.learns ≡ true) where
      pending_is : (o : Option Resynced) → q.learns ≡ o → is_some o ≡ true → (other : List ℕ) → name ≡ other → IsPending other q
      pending_is None is some other same = absurd cc
      pending_is (Some told) is some other same = record { told = told; learns = is; named = named told is ∙ same }

      free_apart : (other : List ℕ) → (IsPending other q → ⊥) → name ≢ other
      free_apart other free same = free (pending_is q.learns refl there other same)

      pub synced_read : ((told : Resynced) → q.learns ≡ Some told → IsReadHere told) → IsSyncedSoFar start old None p c →
          IsSyncedSoFar start new None q c
      synced_read read so_far settled =
          synced_as None None (so_far settled)
          (λ other free held. (not_pending other, λ h. absurd h, others other (free_apart other free)))
          (λ told is. inl (read told is)) (λ h is. absurd (none-some h is))

      -- behind a reply that was held
      pub synced_fetched : (h : Held) → h.chosen.name ≡ name →
          ((told : Resynced) → q.learns ≡ Some told → IsReadHere told ⊎ ((from : Clock) → IsReadHeld h from old →
          IsLastRead told.name (learned (cache_at told.name c.boxes) told.delta) from new)) →
          IsSyncedSoFar start old (Some h) p c → IsSyncedSoFar start new None q c
      synced_fetched h same read so_far settled =
          let s = so_far settled in
          synced_as (Some h) None s
          (λ other free held. (not_pending other, λ is. free_apart other free (sym same ∙ is), others other (free_apart other free)))
          (λ told is. ⊎_elim (λ (here : IsReadHere told). inl here)
          (λ (before : (from : Clock) → IsReadHeld h from old → IsLastRead told.name (learned (cache_at told.name c.boxes) told.delta) from new).
          inr (inr (before s.from (s.unread h refl)))) (read told is)) (λ g is. absurd (none-some g is))

    -- the reply is held
    pub synced_held : (h : Held) → h.chosen.name ≡ name → q.learns ≡ None →
        ((from : Clock) → Grows from old → IsReadHeld h from new) → IsSyncedSoFar start old None p c → IsSyncedSoFar start new (Some h) q c
    synced_held h same empty read so_far settled =
        let s = so_far settled in
        synced_as None (Some h) s
        (λ other free held. (not_pending other, λ g. absurd g, others other (λ is. held (same ∙ is))))
        (λ told is. absurd (none-some told (sym empty ∙ is)))
        (λ g is. subst (λ (x : Held). IsReadHeld x s.from new) (same_Some h g is) (read s.from s.before))

-- A mailbox was resynchronised.
pub selects_turn : (link later : LinkState) (session : Session) (chosen : Chosen) (s : Holding mail) (p q : Player) (b : Meaning) (name : List ℕ) →
    b ≡ s.book → held_in session ≡ None → need_of p s.book ≡ needs.Select name → chosen.name ≡ name →
    ((delta : Delta) × DeltaCameOf name (cache_at name b.boxes) (Ok delta) chosen.permits (stage_of link session)
    (stage_of later (sessions.Chosen chosen)) × IsChosen p b (Ok delta) q) →
    Turns (standing_of link session s p) (standing_of later (sessions.Chosen chosen) s q)
selects_turn link later session chosen s p q b name same resting needed named (delta, came, taken) =
    selects name delta resting needed
    (subst (λ (x : Meaning). DeltaCameOf name (cache_at name x.boxes) (Ok delta) chosen.permits (stage_of link session)
    (stage_of later (sessions.Chosen chosen))) same came)
    (subst (λ (x : Meaning). IsChosen p x (Ok delta) q) same taken) (ap (λ (n : List ℕ). Some n) named) refl refl

-- Something is asked in the session in which a mailbox is selected.
module _ (session : Session) (chosen : Chosen) (is : session ≡ sessions.Chosen chosen) where
  pub known_in : (made k : Clock) (p : Player) (b : Meaning) → KnownAt made k (permits_in session) (held_in session) p b →
      KnownAt made k chosen.permits None p b
  known_in made k p b known = subst (λ (s : Session). KnownAt made k (permits_in s) (held_in s) p b) is known

  module _ (link later : LinkState) (s : Holding mail) (p : Player) where
    pub asked_fails : (fault : PlayFault) → TurnFails (standing_of link (sessions.Chosen chosen) s p) later fault →
        TurnFails (standing_of link session s p) later fault
    asked_fails fault fails = subst (λ (x : Session). TurnFails (standing_of link x s p) later fault) (sym is) fails

    pub asks_turn : (next : Chosen) (q : Player) (b : Meaning) (tag : Tag) (command : Command) → b ≡ s.book →
        IsAskedFor (need_of p s.book) (tries_due s.book.queue) (count_of session) tag command → next.name ≡ chosen.name → next.permits ≡ chosen.permits →
        ((r : Replies) × AskedBetween tag command r (stage_of link (sessions.Chosen chosen)) (stage_of later (sessions.Chosen next))
        × IsHeard p b (permits_due chosen.permits (due_action b.queue)) r q) →
        Turns (standing_of link session s p) (standing_of later (sessions.Chosen next) s q)
    asks_turn next q b tag command same needed named permits (r, asked, heard) =
        subst (λ (x : Session). IsAskedFor (need_of p s.book) (tries_due s.book.queue) (count_of x) tag command →
        Turns (standing_of link x s p) (standing_of later (sessions.Chosen next) s q)) (sym is)
        (λ here. asks tag command r refl here asked
        (subst (λ (x : Meaning). IsHeard p x (permits_due chosen.permits (due_action x.queue)) r q) same heard)
        (ap (λ (n : List ℕ). Some n) named) permits refl refl) needed

-- A mailbox is selected where something is to be asked.
asked_by : (p : Player) (b : Meaning) (need : Need) (tries count : ℕ) (tag : Tag) (command : Command) → IsLawfulNeed need p b →
    IsAskedFor need tries count tag command → is_some p.selected ≡ true
asked_by p b (needs.Select name) tries count tag command lawful asked = absurd asked
asked_by p b (needs.Ask question) tries count tag command lawful asked = lawful.1
asked_by p b (needs.Commit event) tries count tag command lawful asked = absurd asked
asked_by p b (needs.Settle n outcome) tries count tag command lawful asked = absurd asked
asked_by p b (needs.Withdraw n k) tries count tag command lawful asked = absurd asked
asked_by p b (needs.Send n sent) tries count tag command lawful asked = lawful.2
asked_by p b needs.Finished tries count tag command lawful asked = absurd asked

is_named : (selected : Option Selected) → is_some selected ≡ true → is_some (name_of selected) ≡ true
is_named None none = none
is_named (Some box) there = refl

pub asked_selected : (p : Player) (b : Meaning) (session : Session) (tag : Tag) (command : Command) → IsFold b → IsBeside p b →
    name_of p.selected ≡ selected_in session → IsAskedFor (need_of p b) (tries_due b.queue) (count_of session) tag command → is_some (selected_in session) ≡ true
asked_selected p b session tag command fold beside same asked =
    subst (λ (o : Option (List ℕ)). is_some o ≡ true) same
    (is_named p.selected
    (asked_by p b (need_of p b) (tries_due b.queue) (count_of session) tag command (lawful_fold p b fold beside) asked))

pub question_selected : (p : Player) (b : Meaning) (session : Session) (command : Command) → IsFold b → IsBeside p b →
    name_of p.selected ≡ selected_in session → need_of p b ≡ needs.Ask command → is_some (selected_in session) ≡ true
question_selected p b session command fold beside same needed =
    asked_selected p b session (next_tag (count_of session)) command fold beside same
    (subst (λ (n : Need). IsAskedFor n (tries_due b.queue) (count_of session) (next_tag (count_of session)) command) (sym needed) (refl, refl))
