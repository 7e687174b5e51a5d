-- A lawful server's replies have no fault, where the book is kept and the player knows the connection.
use Rattle.action_queue.specs.Book.{Meaning, cache_at}
use Rattle.imap_model.specs.declared.command.Command.{Command}
use Rattle.imap_model.specs.declared.item.Item.{Item}
use Rattle.imap_model.specs.declared.replies.Replies.{Replies}
use Rattle.imap_model.specs.declared.response.Response.{Response}
use Rattle.imap_session.specs.Causes.{FailsBehind}
use Rattle.imap_session.specs.Dialogue.{BrokeOff, next_tag, next_text}
use Rattle.imap_session.specs.Dialogue.Dialogue.{Asks, Ends}
use Rattle.imap_session.specs.declared.fault.SessionFault.{SessionFault}
use Rattle.imap_session.specs.declared.permits.Permits.{Permits}
use Rattle.mail_base.specs.declared.tag.Tag.{Tag}
use Rattle.mailbox_cache.specs.declared.cache.Cache.{Cache}
use Rattle.mailbox_cache.specs.declared.delta.Delta.{Delta}
use Rattle.play_driver.proofs.Learned.{learns_faultless}
use Rattle.play_driver.specs.Faults.{IsReplyFault, of_resync, of_session, of_unheard}
use Rattle.play_driver.specs.Joining.{AllFair}
use Rattle.play_driver.specs.KnownAt.{GatheredAt, HeardAt, StandsKept}
use Rattle.play_driver.specs.Played.{played}
use Rattle.play_driver.specs.Resynchronising.{Resyncs, fetches, resync, select_of}
use Rattle.play_driver.specs.declared.fault.PlayFault.{PlayFault}
use Rattle.playback.specs.Allowed.{IsGathered, IsReply, WhyNotChosen}
use Rattle.book_laws.specs.Kept.{KeptBook}
use Rattle.playback.specs.Knows.{Knows}
use Rattle.playback.specs.Replying.{IsHeardFault}
use Rattle.playback.specs.Worlds.{World}
use Rattle.playback.specs.declared.need.Unheard.{Unheard}
use Rattle.playback.specs.declared.player.Player.{Player}
use Rattle.qresync_core.specs.declared.fault.ResyncFault.{ResyncFault}
use Rattle.qresync_core.specs.declared.fault.ResyncFault.TheVariants as resync_faults
use Rattle.std.proofs.Common.{Bool, Err, List, Ok, Option, Result, false, inl, inr, refl, subst, sym, true, ℕ, ◌++◌, ◌+◌, ◌≡◌, ◌≢◌}
use Rattle.std.specs.Prelude.{IsErrOf, if◌then◌else◌}
use Rattle.store_core.specs.Mail.{mail}
use Rattle.world_traits.specs.LinkState.{Connection, LinkState}
use Rattle.world_traits.specs.Moments.{Clock}
use Rattle.imap_model.specs.declared.command.Command.TheVariants as commands
use Rattle.imap_session.specs.declared.fault.SessionFault.TheVariants as sessions
use Rattle.playback.specs.declared.need.Unheard.TheVariants as unheards

-- no fault of reading a reply says that a thing is lacking
lacking_nothing : (heard : List Response) (tag : Tag) (command : Command) (had : List ℕ) (c : Option Connection) (item : Item) →
    FailsBehind heard tag command had c (sessions.Lacking item) → ⊥
lacking_nothing heard tag command had c item (inl reading) = reading.reading
lacking_nothing heard tag command had c item (inr line) = line.unfit

pub asked_whole : (heard : List Response) (tag : Tag) (command : Command) (had : List ℕ) (c : Option Connection) (f : SessionFault) →
    FailsBehind heard tag command had c f → (item : Item) → f ≢ sessions.Lacking item
asked_whole heard tag command had c f failing item is =
    lacking_nothing heard tag command had c item (subst (λ (x : SessionFault). FailsBehind heard tag command had c x) is failing)

-- nor does one of a resynchronisation's questions
module _ (link : LinkState) (f : SessionFault) where
  rows_whole : (fetched : Bool) (count : ℕ) (sent had : List ℕ) (heard : List Response) →
      BrokeOff (if fetched then Asks commands.FetchAll (λ all. Ends true) else Ends true) count sent had heard link f →
      (item : Item) → f ≢ sessions.Lacking item
  rows_whole false count sent had heard broke = absurd broke
  rows_whole true count sent had heard (inl none) = asked_whole heard (next_tag count) commands.FetchAll had link.connection f none.failing
  rows_whole true count sent had heard (inr (r, came, lines, reply, rest)) = absurd rest

  pub fetch_whole : (count : ℕ) (sent had : List ℕ) (heard : List Response) →
      BrokeOff (Asks commands.FetchAll (λ all. Ends true)) count sent had heard link f → (item : Item) → f ≢ sessions.Lacking item
  fetch_whole count sent had heard broke = rows_whole true count sent had heard broke

  pub resync_whole : (name : List ℕ) (kept : Option Cache) (count : ℕ) (sent had : List ℕ) (heard : List Response) →
      BrokeOff (resync name kept (Ends true)) count sent had heard link f → (item : Item) → f ≢ sessions.Lacking item
  resync_whole name kept count sent had heard (inl none) =
      asked_whole heard (next_tag count) (select_of name kept) had link.connection f none.failing
  resync_whole name kept count sent had heard (inr (r, came, lines, reply, rest)) =
      rows_whole (fetches kept r) (count + 1) (sent ++ next_text count (select_of name kept)) (had ++ came) (heard ++ lines) rest

-- a session's fault
module _ {T : Type 0} (result : Result T SessionFault) (honest : (at : ℕ) → IsErrOf result (sessions.BadReply at) → ⊥) where
  none_of : (f : SessionFault) → IsErrOf result f → ((item : Item) → f ≢ sessions.Lacking item) → IsReplyFault (of_session f) → ⊥
  none_of sessions.Memory failed whole is = is
  none_of sessions.Link failed whole is = is
  none_of (sessions.Refused line) failed whole is = is
  none_of (sessions.BadReply at) failed whole is = honest at failed
  none_of (sessions.Lacking item) failed whole is = whole item refl
  none_of (sessions.TooLarge limit number) failed whole is = is

  pub session_faultless : (f : SessionFault) (fault : PlayFault) → IsErrOf result f → ((item : Item) → f ≢ sessions.Lacking item) →
      fault ≡ of_session f → IsReplyFault fault → ⊥
  session_faultless f fault failed whole told is = none_of f failed whole (subst IsReplyFault told is)

-- a reply that the player doesn't take
module _ (p : Player) (b : Meaning) (permits : Option Permits) (permitted : Bool) (made now : Clock) (r : Replies) (name : List ℕ)
    (heard : HeardAt r made now permits p b) where
  none_unheard : (unheard : Unheard) → IsHeardFault p b permitted r unheard →
      ((w : World) (item : Item) → KeptBook b w.course.now w.waiting → IsReply r w → Knows p b w → unheard ≢ unheards.Lacks item) →
      IsReplyFault (of_unheard name unheard) → ⊥
  none_unheard unheards.Memory lacking honest is = is
  none_unheard (unheards.Resync fault) lacking honest is = lacking
  none_unheard (unheards.Target old new) lacking honest is = lacking
  none_unheard (unheards.Lacks item) lacking honest is = honest heard.world item heard.kept heard.reply heard.knows refl
  none_unheard (unheards.Rows count) lacking honest is = lacking

  pub heard_faultless : (unheard : Unheard) (fault : PlayFault) → IsHeardFault p b permitted r unheard →
      ((w : World) (item : Item) → KeptBook b w.course.now w.waiting → IsReply r w → Knows p b w → unheard ≢ unheards.Lacks item) →
      fault ≡ of_unheard name unheard → IsReplyFault fault → ⊥
  heard_faultless unheard fault lacking honest told is = none_unheard unheard lacking honest (subst IsReplyFault told is)

-- What was told of a mailbox has no fault but want of memory: that of a SELECT, beside a book that is kept.
module _ (b : Meaning) (old new : Clock) (stands : StandsKept b old) (fair : AllFair mail played old new) (name : List ℕ) (kept : Option Cache)
    (same_cache : kept ≡ cache_at name b.boxes) (told : Result Delta ResyncFault) (selected : Option (List ℕ)) (count after : ℕ)
    (permits : Option Permits) (resyncs : Resyncs selected count after name kept told permits old new) where
  pub memory_resynced : (fault : ResyncFault) → told ≡ Err fault → fault ≡ resync_faults.Memory
  memory_resynced fault failed =
      learns_faultless b name kept fault selected count after permits old new (sym same_cache) stands fair
      (subst (λ (d : Result Delta ResyncFault). Resyncs selected count after name kept d permits old new) failed resyncs)

-- then the player takes it
module _ (p : Player) (b : Meaning) (name : List ℕ) (told : Result Delta ResyncFault) (permits : Option Permits) (made now : Clock)
    (gathered : (delta : Delta) → told ≡ Ok delta → GatheredAt delta made now permits p b)
    (memory : (fault : ResyncFault) → told ≡ Err fault → fault ≡ resync_faults.Memory) where
  -- no lower UIDVALIDITY is told by a lawful server
  abbrev pub TellsNoLower : Unheard → Type 0
  TellsNoLower unheard = (w : World) (delta : Delta) (before now : ℕ) → told ≡ Ok delta → KeptBook b w.course.now w.waiting → IsGathered delta b w →
      Knows p b w → unheard ≢ unheards.Target before now

  none_untaken : (unheard : Unheard) → WhyNotChosen unheard told p b → TellsNoLower unheard → IsReplyFault (of_unheard name unheard) → ⊥
  none_untaken unheards.Memory why honest is = is
  none_untaken (unheards.Resync fault) why honest is =
      subst (λ (f : ResyncFault). IsReplyFault (of_resync name f)) (memory fault why) is
  none_untaken (unheards.Target before now) why honest is =
      let g = gathered why.0 why.1 in honest g.world why.0 before now why.1 g.kept g.gathered g.knows refl
  none_untaken (unheards.Lacks item) why honest is = why
  none_untaken (unheards.Rows count) why honest is = is

  pub told_faultless : (unheard : Unheard) (fault : PlayFault) → WhyNotChosen unheard told p b → TellsNoLower unheard →
      fault ≡ of_unheard name unheard → IsReplyFault fault → ⊥
  told_faultless unheard fault why honest same is = none_untaken unheard why honest (subst IsReplyFault same is)
