-- What a session knows.
use Rattle.std.specs.Prelude.{◌≡◌, ℕ, Bool, false, List, [], ◌∷◌, ◌++◌, Option, Some, None}
use Rattle.mail_base.specs.declared.tag.Tag.{Tag}
use Rattle.literal_feed.specs.Stream.{Stream}
use Rattle.imap_model.specs.Carrying.{Waiting}
use Rattle.imap_model.specs.Talking.{Peer, Answering, Awaits, IsPartOf}
use Rattle.imap_model.specs.declared.command.Command.{Command}
use Rattle.imap_model.specs.declared.command.Command.TheVariants as commands
use Rattle.imap_model.specs.declared.replies.Replies.{Replies}
use Rattle.imap_model.specs.declared.response.Response.{Response}
use Rattle.world_traits.specs.Asking.{Asking}
use Rattle.world_traits.specs.LinkState.{Connection, LinkState, fresh}
use Rattle.world_traits.specs.Links.{Linked, LinkStep, Any}
use Rattle.world_traits.specs.Moments.{Clock, Became}
use Rattle.world_traits.specs.Owing.{Owes}
use Rattle.imap_session.specs.Hearing.{Hears}
use Rattle.imap_session.specs.Knowing.{Whole, Partly, Pending, Tells, AllGo}

-- the server owes more than was heard
pub record Listening (p : Peer) (c : Option Connection) (feed : Stream) : Type 0 where
  pub heard : List Response
  pub owes : Owes heard p
  pub hears : Hears heard c feed

-- something was asked, at some moment, and no answer was heard yet
pub record Asked (part : Bool) (k : Clock) (c : Option Connection) (feed : Stream) : Type 0 where
  pub at : Clock
  pub told : List Response
  pub pending : Pending part told at.now.outside
  pub since : Linked Answering at k
  pub hears : Hears told c feed

-- The connection stands at rest: nothing waits or arrives, this is selected, all that was told was heard, and nothing is left
-- over in the feed.
pub record Stands (selected : Option (List ℕ)) (k : Clock) (c : Option Connection) (feed : Stream) : Type 0 where
  pub nothing : k.now.outside.waiting ≡ None
  pub no_part : k.now.outside.talk.arriving ≡ None
  pub selects : k.now.outside.talk.selected ≡ selected
  pub hears : Hears k.now.outside.talk.told c feed
  pub empty : feed.bytes ≡ []

-- These parts of the command's text were sent and asked for, and the next one is awaited.
pub record Sending (w : Waiting) (before : List (List ℕ)) (old k : Clock) (c : Option Connection) (feed : Stream) : Type 0 where
  pub asked : List Response
  pub all_go : AllGo asked
  pub as_told : k.now.outside.talk.told ≡ old.now.outside.talk.told ++ asked
  pub first : Linked (Asking old.now.outside.talk.told w.tag w.command) old k
  pub awaits : Awaits w.tag before k.now.outside
  pub begins : before ≡ [] → k.now.outside.talk.told ≡ old.now.outside.talk.told
  pub selects : k.now.outside.talk.selected ≡ w.selected
  pub hears : Hears k.now.outside.talk.told c feed
  pub empty : feed.bytes ≡ []

-- the last part of the command was sent, and no answer to it was read
pub record Begun (w : Waiting) (old k : Clock) (c : Option Connection) (feed : Stream) : Type 0 where
  pub at : Clock
  pub told : List Response
  pub asked : List Response
  pub all_go : AllGo asked
  pub as_told : told ≡ old.now.outside.talk.told ++ asked
  pub first : Linked (Asking old.now.outside.talk.told w.tag w.command) old at
  pub whole : Whole w told at.now.outside
  pub since : Linked Answering at k
  pub hears : Hears told c feed

-- commands that leave what is selected
abbrev pub KeepsSelection : Command → Type 0
KeepsSelection commands.Capability = Unit {0}
KeepsSelection (commands.Login account) = Unit {0}
KeepsSelection (commands.Plain account) = Unit {0}
KeepsSelection (commands.Enable rev2) = Unit {0}
KeepsSelection (commands.Select name since) = ⊥
KeepsSelection commands.FetchAll = Unit {0}
KeepsSelection (commands.FetchRow uid) = Unit {0}
KeepsSelection (commands.Search from id) = Unit {0}
KeepsSelection (commands.FetchIds uids) = Unit {0}
KeepsSelection (commands.FetchText uid) = Unit {0}
KeepsSelection (commands.Store uid since add flags) = Unit {0}
KeepsSelection (commands.Shift uid to) = Unit {0}
KeepsSelection (commands.Copy uid to) = Unit {0}
KeepsSelection (commands.Expunge uid) = Unit {0}
KeepsSelection (commands.Append to flags text) = Unit {0}
KeepsSelection commands.Logout = Unit {0}

-- The replies were the table's answer at one moment since, behind requests to go on alone, and the connection stands at rest
-- with what is selected then.
pub record Answered (w : Waiting) (r : Replies) (old k : Clock) (c : Option Connection) (feed : Stream) : Type 0 where
  pub asked : List Response
  pub all_go : AllGo asked
  pub after : Option (List ℕ)
  pub became : Became Any (LinkStep (Asking old.now.outside.talk.told w.tag w.command))
      (λ m n. Tells w (old.now.outside.talk.told ++ asked) r after m.outside n.outside) old k
  pub stands : Stands after k c feed
  pub keeps : KeepsSelection w.command → after ≡ w.selected

-- a part of the command is to be sent, behind these parts and before those
pub record IsReady (w : Waiting) (before : List (List ℕ)) (part : List ℕ) (behind : List (List ℕ)) (old k : Clock) (c : Option Connection)
    (feed : Stream) : Type 0 where
  pub sending : Sending w before old k c feed
  pub part_of : IsPartOf w.tag w.command before part behind

-- a part that isn't the last was sent, and no answer to it was read
pub record HalfSent (w : Waiting) (before : List (List ℕ)) (part : List ℕ) (old k : Clock) (c : Option Connection) (feed : Stream) : Type 0 where
  pub at : Clock
  pub told : List Response
  pub asked : List Response
  pub all_go : AllGo asked
  pub as_told : told ≡ old.now.outside.talk.told ++ asked
  pub first : Linked (Asking old.now.outside.talk.told w.tag w.command) old at
  pub partly : Partly (record { tag = w.tag; parts = before ++ part ∷ []; asked = false }) w.selected told at.now.outside
  pub since : Linked Answering at k
  pub hears : Hears told c feed

abbrev pub waiting_of : Option (List ℕ) → Tag → Command → Waiting
waiting_of selected tag command = record { selected = selected; tag = tag; command = command }

-- what a session's feed is to the connection, whatever the server does
abbrev pub Follows : Option Connection → Stream → Type 0
Follows c feed = (heard : List Response) × Hears heard c feed

-- the commands that are asked while a mailbox is selected
abbrev pub IsAsked : Command → Type 0
IsAsked commands.Capability = ⊥
IsAsked (commands.Login account) = ⊥
IsAsked (commands.Plain account) = ⊥
IsAsked (commands.Enable rev2) = ⊥
IsAsked (commands.Select name since) = ⊥
IsAsked commands.FetchAll = Unit {0}
IsAsked (commands.FetchRow uid) = Unit {0}
IsAsked (commands.Search from id) = Unit {0}
IsAsked (commands.FetchIds uids) = Unit {0}
IsAsked (commands.FetchText uid) = Unit {0}
IsAsked (commands.Store uid since add flags) = Unit {0}
IsAsked (commands.Shift uid to) = Unit {0}
IsAsked (commands.Copy uid to) = Unit {0}
IsAsked (commands.Expunge uid) = Unit {0}
IsAsked (commands.Append to flags text) = Unit {0}
IsAsked commands.Logout = ⊥

-- a connection was just made, and nothing was read from it
pub record IsFresh (link : LinkState) (feed : Stream) : Type 0 where
  pub there : link.connection ≡ Some fresh
  pub nothing : feed ≡ record { at = 0; bytes = [] }
