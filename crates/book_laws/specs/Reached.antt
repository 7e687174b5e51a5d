-- What each UIDVALIDITY that this client names has in common: its mailbox has reached it, since none falls (RFC 9051, section 2.3.1.1). So a
-- mailbox with a lower one is no lawful server's.
use Rattle.std.specs.Prelude.{◌≡◌, ℕ, List, Some, None, slice_get}
use Rattle.std.specs.List.{AllByRecursion}
use Rattle.action_queue.specs.Book.{Meaning}
use Rattle.action_queue.specs.declared.action.Action.{Action}
use Rattle.action_queue.specs.declared.action.Action.TheVariants as actions
use Rattle.action_queue.specs.declared.queued.Queued.{Queued}
use Rattle.action_queue.specs.declared.target.Target.{Target}
use Rattle.action_queue.specs.declared.target.Target.TheVariants as targets
use Rattle.imap_model.specs.Changes.{receiver}
use Rattle.imap_model.specs.declared.deed.Author.{Author}
use Rattle.imap_model.specs.declared.deed.Author.TheVariants.{Other, Ours}
use Rattle.imap_model.specs.declared.deed.Deed.{Deed}
use Rattle.imap_model.specs.declared.server.Mailbox.{Mailbox}
use Rattle.imap_model.specs.declared.server.Server.{Server}
use Rattle.book_laws.specs.InBox.{InBox}

-- the mailbox of this name is there, and its UIDVALIDITY isn't below this one
abbrev pub HasReached : List ℕ → ℕ → List Mailbox → Type 0
HasReached name validity boxes = InBox (λ _. Unit {0}) name validity boxes

-- the UIDVALIDITY that a target names; a dummy names none
abbrev pub TargetReached : List Mailbox → Target → Type 0
TargetReached boxes (targets.Real name validity uid) = HasReached name validity boxes
TargetReached boxes (targets.Dummy n) = Unit {0}

abbrev pub ActionReached : List Mailbox → Action → Type 0
ActionReached boxes (actions.Flag target add flags) = TargetReached boxes target
ActionReached boxes (actions.Move target to) = TargetReached boxes target
ActionReached boxes (actions.Append to flags text id) = Unit {0}

-- the UIDVALIDITY under which a change of this client's put its message into a mailbox, or changed it there
abbrev pub DeedReached : List Mailbox → Deed → Author → Type 0
DeedReached boxes deed Other = Unit {0}
DeedReached boxes deed (Ours tag) = HasReached (receiver deed.name deed.change) deed.received boxes

abbrev pub DeedsReached : List Mailbox → List Deed → Type 0
DeedsReached boxes deeds = AllByRecursion (λ (d : Deed). DeedReached boxes d d.author) deeds

-- so it is of each action that waits, and of each change of this client's
pub record Reached (b : Meaning) (s : Server) : Type 0 where
  pub waiting : (i : ℕ) (q : Queued) → slice_get b.queue i ≡ Some q → q.outcome ≡ None → ActionReached s.boxes q.action
  pub deeds : DeedsReached s.boxes s.history
