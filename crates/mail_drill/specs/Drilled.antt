-- What a drill comes to: what its line says of the world that it leaves.
use Rattle.std.specs.Prelude.{◌≡◌, ℕ, suc, ◌+◌, ◌*◌, true, List, [], length, slice_get, Some}
use Rattle.mail_base.specs.declared.status.Status.{Status}
use Rattle.mail_base.specs.declared.status.Status.TheVariants as status
use Rattle.imap_model.specs.Ours.{ours}
use Rattle.action_queue.specs.Book.{Meaning}
use Rattle.action_queue.specs.declared.queued.Queued.{Queued}
use Rattle.book_laws.specs.Once.{AllOwned}
use Rattle.store_core.specs.Books.{HasBook}
use Rattle.store_core.specs.Mail.{mail}
use Rattle.store_core.specs.Steps.{Firm}
use Rattle.store_core.specs.Taking.{HasBooks}
use Rattle.play_driver.specs.Progress.{actions_of}
use Rattle.mail_top.specs.Headline.{IsOnceOrReported}
use Rattle.world_mem.specs.Worlds.{run_in}
use Rattle.world_mem.specs.declared.mem_world.MemWorld.{MemWorld}
use Rattle.mail_drill.specs.Accepted.{accepted}
use Rattle.mail_drill.specs.Alone.{are_own}
use Rattle.mail_drill.specs.Asked.{actions_for}
use Rattle.mail_drill.specs.Came.{files_of, history_of}
use Rattle.mail_drill.specs.Counted.{settled_in, twice_in, missing_in}
use Rattle.mail_drill.specs.Held.{CameToItsEnd, PassesLimit, WasHeld}
use Rattle.mail_drill.specs.Orders.{orders_of}
use Rattle.mail_drill.specs.Texts.{Counts, line_of}
use Rattle.mail_drill.specs.declared.task.Task.{Task}

-- The drill's commands were given and played, to the end. The files hold a book whose actions are those that the commands ask for, in their
-- order, without the refused ones, and so does whatever a stop leaves. Nobody else changed anything at the server; each change there is one
-- that an action wants, and each action took effect once or is a conflict that says so. The text is the line of what was accepted and refused,
-- and of what the book and the history tell of the actions: each is settled, none took effect twice, and none is missing.
pub record IsDrilled (task : Task) (world : MemWorld) (text : List ℕ) : Type 0 where
  pub last : Status
  pub told : List ℕ
  pub held : WasHeld task.size task.seed world last told
  pub ended : CameToItsEnd last
  pub book : Meaning
  pub holds : HasBook mail book (files_of world)
  pub leaves : HasBooks mail (Firm (Some book)) (run_in world).clock.now
  pub asked : actions_of book ≡ actions_for (accepted [] (orders_of task))
  pub alone : are_own (history_of world) ≡ true
  pub owned : AllOwned book.queue (history_of world)
  pub each : (place : ℕ) (queued : Queued) → slice_get book.queue place ≡ Some queued → IsOnceOrReported queued (ours (suc place) (history_of world))
  pub counts : Counts
  pub text_is : text ≡ line_of counts
  pub settled_is : counts.settled ≡ settled_in book.queue
  pub twice_is : counts.twice ≡ twice_in book.queue (history_of world)
  pub missing_is : counts.missing ≡ missing_in book.queue (history_of world)
  pub accepted_is : counts.accepted ≡ length book.queue
  pub all : counts.accepted + counts.refused ≡ 2 * task.size
  pub settled : counts.settled ≡ counts.accepted
  pub once : counts.twice ≡ 0
  pub none_missing : counts.missing ≡ 0

-- what is so of the world and the line, by the status of a drill that came to an end
abbrev pub EndsBy : Task → Status → MemWorld → List ℕ → Type 0
EndsBy task status.Done world text = IsDrilled task world text
EndsBy task status.Limit world text = PassesLimit task.size task.seed world text
EndsBy task status.Conflicts world text = ⊥
EndsBy task status.Words world text = ⊥
EndsBy task status.Disk world text = ⊥
EndsBy task status.Link world text = ⊥
EndsBy task status.Refused world text = ⊥
EndsBy task status.Reply world text = ⊥
EndsBy task status.Lacking world text = ⊥
EndsBy task status.Validity world text = ⊥
EndsBy task status.Journal world text = ⊥
EndsBy task status.Reason world text = ⊥
EndsBy task status.Memory world text = ⊥
EndsBy task status.Output world text = ⊥
EndsBy task status.Input world text = ⊥
EndsBy task status.Shelf world text = ⊥
