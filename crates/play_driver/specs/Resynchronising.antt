-- How a mailbox is resynchronised: SELECT, with what is kept of the mailbox, and the FETCH of all rows where nothing is kept
-- (RFC 7162, section 3.2.5; RFC 9051, sections 6.3.2 and 6.4.5).
use Rattle.std.specs.Prelude.{◌≡◌, ℕ, length, ◌+◌, Bool, false, not, List, [], ◌∷◌, Option, Some, None, is_some, Result, IfOk, IfErr, if◌then◌else◌}
use Rattle.literal_feed.specs.Stream.{Stream}
use Rattle.imap_model.specs.declared.command.Command.{Command}
use Rattle.imap_model.specs.declared.command.Command.TheVariants as commands
use Rattle.imap_model.specs.declared.mark.Mark.{Mark}
use Rattle.imap_model.specs.declared.replies.Replies.{Replies}
use Rattle.imap_model.specs.declared.response.Response.{Response}
use Rattle.mailbox_cache.specs.declared.cache.Cache.{Cache}
use Rattle.mailbox_cache.specs.declared.delta.Delta.{Delta}
use Rattle.action_queue.specs.Writable.{HaveFewFlags}
use Rattle.qresync_core.specs.Fitting.{Fits}
use Rattle.qresync_core.specs.Marking.{mark_of}
use Rattle.qresync_core.specs.Resync.{is_told_empty, TellsDelta, HasFault}
use Rattle.qresync_core.specs.declared.fault.ResyncFault.{ResyncFault}
use Rattle.world_traits.specs.LinkState.{LinkState}
use Rattle.world_traits.specs.Moments.{Clock}
use Rattle.imap_session.specs.Dialogue.{Dialogue}
use Rattle.imap_session.specs.Dialogue.Dialogue.{Asks}
use Rattle.imap_session.specs.Permanent.{permitted}
use Rattle.imap_session.specs.declared.permits.Permits.{Permits}
use Rattle.play_driver.specs.Exchanges.{Exchange, AnsweredAll, CameAll}
use Rattle.play_driver.specs.Holds.{IsHeldReply}
use Rattle.play_driver.specs.Renewing.{renewed_to}
use Rattle.play_driver.specs.declared.session.Held.{Held}

-- what a server told of a mailbox: its reply to SELECT, and that to the FETCH of all rows, where it was asked for them
pub record Gathered : Type 0 where
  pub selected : Replies
  pub all : Option Replies

-- the mark of what is kept
abbrev pub mark_kept : Option Cache → Option Mark
mark_kept None = None
mark_kept (Some cache) = Some (mark_of cache)

-- SELECT tells UIDVALIDITY and mark of the cache exactly where one is kept
abbrev pub select_of : List ℕ → Option Cache → Command
select_of name kept = commands.Select name (mark_kept kept)

-- whether the rows are fetched behind this reply to SELECT: nothing is kept, and the mailbox isn't told to be empty
abbrev pub fetches : Option Cache → Replies → Bool
fetches None selected = not (is_told_empty selected)
fetches (Some cache) selected = false

-- what is asked, and what is asked behind it
abbrev pub resync : List ℕ → Option Cache → Dialogue → Dialogue
resync name kept next = Asks (select_of name kept) (λ selected. if fetches kept selected then Asks commands.FetchAll (λ all. next) else next)

-- the FETCH with its replies, where it was asked
abbrev pub then_all : Option Replies → List Exchange
then_all None = []
then_all (Some all) = record { asked = commands.FetchAll; replies = all } ∷ []

-- what was asked, with the replies
abbrev pub exchanged : List ℕ → Option Cache → Gathered → List Exchange
exchanged name kept g = record { asked = select_of name kept; replies = g.selected } ∷ then_all g.all

-- What these replies make of the cache that was kept, or their first fault; the rows were fetched exactly where they were due.
pub record MakesDelta (kept : Option Cache) (g : Gathered) (delta : Result Delta ResyncFault) : Type 0 where
  pub fetched : is_some g.all ≡ fetches kept g.selected
  pub value : IfOk delta (TellsDelta kept g.selected g.all)
  pub fault : IfErr delta (HasFault kept g.selected g.all)

-- The delta is that of replies that the server gave at one moment each, of which that to SELECT tells the flags that can be changed
-- for good. So many questions were asked in the connection before and behind it, and this was selected before.
pub record Resyncs (selected : Option (List ℕ)) (count after : ℕ) (name : List ℕ) (kept : Option Cache) (delta : Result Delta ResyncFault)
    (permits : Option Permits) (old new : Clock) : Type 0 where
  pub gathered : Gathered
  pub permitted : permits ≡ permitted None gathered.selected
  pub asked : after ≡ count + length (exchanged name kept gathered)
  pub answered : AnsweredAll (exchanged name kept gathered) selected count old new
  pub makes : MakesDelta kept gathered delta
  pub current : renewed_to kept gathered.selected ≡ None

-- It is that of replies that came, which are all that came behind what had been received and heard.
pub record DeltaCame (count after : ℕ) (name : List ℕ) (kept : Option Cache) (delta : Result Delta ResyncFault) (permits : Option Permits)
    (sent had : List ℕ) (heard : List Response) (link : LinkState) (feed : Stream) : Type 0 where
  pub gathered : Gathered
  pub permitted : permits ≡ permitted None gathered.selected
  pub asked : after ≡ count + length (exchanged name kept gathered)
  pub came : CameAll (exchanged name kept gathered) count sent had heard link feed
  pub makes : MakesDelta kept gathered delta
  pub current : renewed_to kept gathered.selected ≡ None

-- The delta goes on from the cache, and its flags can be recorded.
pub record IsLearnable (kept : Option Cache) (delta : Delta) : Type 0 where
  pub fits : Fits kept delta
  pub few : HaveFewFlags delta.rows

-- Behind a reply to SELECT that is held, the rows of all messages are asked for, unless it told that there are none; what is asked for is of
-- no cache. The delta is that of replies that the server gave at one moment each: of this one, and of that to the FETCH.
pub record RowsFetched (h : Held) (selected : Option (List ℕ)) (count after : ℕ) (delta : Result Delta ResyncFault) (old new : Clock) : Type 0 where
  pub all : Option Replies
  pub asked : after ≡ count + length (then_all all)
  pub answered : AnsweredAll (then_all all) selected count old new
  pub makes : (r : Replies) → IsHeldReply h r → MakesDelta None (record { selected = r; all = all }) delta

-- It is that of replies that came, which are all that came behind what had been received and heard.
pub record RowsCame (h : Held) (count after : ℕ) (delta : Result Delta ResyncFault) (sent had : List ℕ) (heard : List Response) (link : LinkState)
    (feed : Stream) : Type 0 where
  pub all : Option Replies
  pub asked : after ≡ count + length (then_all all)
  pub came : CameAll (then_all all) count sent had heard link feed
  pub makes : (r : Replies) → IsHeldReply h r → MakesDelta None (record { selected = r; all = all }) delta
