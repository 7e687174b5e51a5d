-- Dialogues, one question behind the other.
use Rattle.std.proofs.Common.{◌≡◌, inl, inr, ℕ, ◌+◌, Bool, List, [], ◌∷◌, ◌++◌, Option, Some, None}
use Rattle.std.proofs.Common.{Result, Ok, Err, IfOk, OnOk, refl, sym, ◌∙◌, ap, subst}
use Rattle.std.proofs.lemmas.Option.{same_Some}
use Rattle.mail_base.specs.declared.tag.Tag.{Tag}
use Rattle.literal_feed.specs.Stream.{Stream}
use Rattle.imap_model.specs.Carrying.{Waiting}
use Rattle.imap_model.specs.declared.command.Command.{Command}
use Rattle.imap_model.specs.declared.ending.Ending.TheVariants as endings
use Rattle.imap_model.specs.declared.item.Item.{Item}
use Rattle.imap_model.specs.declared.replies.Replies.{Replies}
use Rattle.imap_model.specs.declared.response.Response.{Response}
use Rattle.imap_model.specs.declared.response.Response.TheVariants as responses
use Rattle.world_traits.specs.Asking.{Asking}
use Rattle.world_traits.specs.LinkState.{Connection, LinkState}
use Rattle.world_traits.specs.Moments.{Clock}
use Rattle.imap_session.specs.Dialogue.{Dialogue, Known, Point, CameToEnd, BrokeOff, SentIn, StoodAt, Talked, TalkedOut, IsReply, Replied}
use Rattle.imap_session.specs.Dialogue.{next_tag, next_text}
use Rattle.imap_session.specs.Dialogue.Dialogue.{Ends, Lacks, Asks}
use Rattle.imap_session.specs.Causes.{FailsBehind}
use Rattle.imap_session.specs.Hearing.{Hears}
use Rattle.imap_session.specs.Most.{most_of}
use Rattle.imap_session.specs.Replying.{AreSmall, Came, ReceivedWithin}
use Rattle.imap_session.specs.Sent.{SentFront}
use Rattle.imap_session.specs.Session.{Answered, Follows, KeepsSelection, Stands, waiting_of}
use Rattle.imap_session.proofs.Sent.{sent_none}
use Rattle.imap_session.proofs.Talking.{linked_start}
use Rattle.imap_session.specs.declared.fault.SessionFault.{SessionFault}
use Rattle.imap_session.specs.declared.fault.SessionFault.TheVariants as faults

-- what was answered to its end was talked
pub talked_out : (d : Dialogue) (count : ℕ) (lacking : Option Item) (old new : Point) → TalkedOut d count lacking old new → Talked d count old new
talked_out (Ends rev2) count None old new h = h
talked_out (Ends rev2) count (Some item) old new h = absurd h
talked_out (Lacks what) count None old new h = absurd h
talked_out (Lacks what) count (Some item) old new h = h.1
talked_out (Asks command next) count lacking old new h = inr (h.0, h.1, h.2, talked_out (next h.0) (count + 1) lacking _ new h.3)

-- a dialogue that came to its end goes on
pub came_follows : (d : Dialogue) (count : ℕ) (sent had : List ℕ) (heard : List Response) (known : Known) (link : LinkState) (feed : Stream)
    → CameToEnd d count sent had heard known link feed → Follows link.connection feed
came_follows (Ends rev2) count sent had heard known link feed h = (heard, h.1.hears)
came_follows (Lacks item) count sent had heard known link feed h = absurd h
came_follows (Asks command next) count sent had heard known link feed h = came_follows (next h.0) (count + 1) _ _ _ known link feed h.4

-- the first question isn't answered
pub broke_first : (command : Command) (next : Replies → Dialogue) (count : ℕ) (sent had : List ℕ) (heard : List Response) (link : LinkState)
    (fault : SessionFault)
    → SentFront (next_text count command) sent link.sent → FailsBehind heard (next_tag count) command had link.connection fault
    → BrokeOff (Asks command next) count sent had heard link fault
broke_first command next count sent had heard link fault text failing = inl (record { text = text; failing = failing })

-- a reply that came is one
abbrev pub lines_of : (heard : List Response) (tag : Tag) (command : Command) (r : Replies) (old new : LinkState) (feed : Stream)
    → Came heard tag command r old new feed → List Response
lines_of heard tag command r old new feed came = came.told ++ responses.Done tag r.ending r.code ∷ []

module _ (heard : List Response) (tag : Tag) (command : Command) (r : Replies) (old new : LinkState) (feed : Stream)
    (came : Came heard tag command r old new feed) (had : List ℕ) (within : ReceivedWithin (most_of command) had new.connection) where
  pub is_reply : r.ending ≡ endings.Ok → AreSmall r
      → IsReply had heard tag command r within.reply (lines_of heard tag command r old new feed came)
  is_reply ok small = record {
    told = came.told;
    none = came.none;
    untagged = came.untagged;
    whole = refl;
    accepted = ok;
    asked = came.all ok;
    small = small;
    feed = feed;
    hears = subst (λ (x : Option Connection). Hears (heard ++ lines_of heard tag command r old new feed came) x feed) within.there came.hears;
    few = within.few;
  }

  -- all that was received is what was had before and what came
  pub had_now : came.hears.connection.received ≡ had ++ within.reply
  had_now = ap (λ (k : Connection). k.received)
      (same_Some came.hears.connection (record { received = had ++ within.reply }) (sym came.hears.there ∙ within.there))

  pub stood_at : (sent : List ℕ) → new.sent ≡ sent
      → StoodAt sent (had ++ within.reply) (heard ++ lines_of heard tag command r old new feed came) new feed
  stood_at sent same = record { sends = same; has = within.there; hears = came.hears }

-- no question that isn't answered says that a thing is lacking
pub no_lack : (heard : List Response) (tag : Tag) (command : Command) (had : List ℕ) (c : Option Connection) (item : Item)
    → FailsBehind heard tag command had c (faults.Lacking item) → ⊥
no_lack heard tag command had c item (inl r) = r.reading
no_lack heard tag command had c item (inr u) = u.unfit

pub replied_so : (count : ℕ) (command : Command) (r : Replies) (old new : Clock) (c : Option Connection) (feed : Stream)
    → Answered (waiting_of None (next_tag count) command) r old new c feed → r.ending ≡ endings.Ok → Replied count command r old new
replied_so count command r old new c feed a ok = record { connection = c; feed = feed; answered = a; accepted = ok }

-- what is selected stays
pub stands_left : (w : Waiting) (r : Replies) (old k : Clock) (c : Option Connection) (feed : Stream) → Answered w r old k c feed
    → KeepsSelection w.command → Stands w.selected k c feed
stands_left w r old k c feed a keeps = subst (λ (s : Option (List ℕ)). Stands s k c feed) (a.keeps keeps) a.stands

-- the dialogue is at its end
same_point : (k : Clock) (now sent : List ℕ) → now ≡ sent → ◌≡◌ {A = Point} (record { clock = k; sent = now }) (record { clock = k; sent = sent })
same_point k now sent is = ap (λ (t : List ℕ). record { clock = k; sent = t }) is

pub out_end : (d : Dialogue) (count : ℕ) (rev2 : Bool) (k : Clock) (sent now : List ℕ) → d ≡ Ends rev2 → now ≡ sent
    → TalkedOut d count None (record { clock = k; sent = sent }) (record { clock = k; sent = now })
out_end d count rev2 k sent now is same =
    subst (λ (x : Dialogue). TalkedOut x count None (record { clock = k; sent = sent }) (record { clock = k; sent = now })) (sym is)
    (same_point k now sent same)

pub out_lack : (d : Dialogue) (count : ℕ) (item : Item) (k : Clock) (sent now : List ℕ) → d ≡ Lacks item → now ≡ sent
    → TalkedOut d count (Some item) (record { clock = k; sent = sent }) (record { clock = k; sent = now })
out_lack d count item k sent now is same =
    subst (λ (x : Dialogue). TalkedOut x count (Some item) (record { clock = k; sent = sent }) (record { clock = k; sent = now })) (sym is)
    (refl, same_point k now sent same)

pub came_end : (d : Dialogue) (count : ℕ) (sent had : List ℕ) (heard : List Response) (rev2 : Bool) (link : LinkState) (feed : Stream)
    → d ≡ Ends rev2 → StoodAt sent had heard link feed
    → CameToEnd d count sent had heard (record { count = count; rev2 = rev2 }) link feed
came_end d count sent had heard rev2 link feed is stood =
    subst (λ (x : Dialogue). CameToEnd x count sent had heard (record { count = count; rev2 = rev2 }) link feed) (sym is) (refl, stood)

pub broke_lack : (d : Dialogue) (count : ℕ) (sent had : List ℕ) (heard : List Response) (item : Item) (link : LinkState) (feed : Stream)
    (fault : SessionFault)
    → d ≡ Lacks item → fault ≡ faults.Lacking item → StoodAt sent had heard link feed → BrokeOff d count sent had heard link fault
broke_lack d count sent had heard item link feed fault is lacks stood =
    subst (λ (x : Dialogue). BrokeOff x count sent had heard link fault) (sym is) (lacks, (feed, stood))

-- the same dialogue, by equations
pub came_from : (d : Dialogue) (count : ℕ) (s t had got : List ℕ) (heard : List Response) (known : Known) (link : LinkState) (feed : Stream)
    → s ≡ t → had ≡ got → CameToEnd d count s had heard known link feed → CameToEnd d count t got heard known link feed
came_from d count s t had got heard known link feed same more h =
    subst (λ (x : List ℕ). CameToEnd d count t x heard known link feed) more
    (subst (λ (x : List ℕ). CameToEnd d count x had heard known link feed) same h)

pub came_count : (d : Dialogue) (count : ℕ) (s had : List ℕ) (heard : List Response) (n m : ℕ) (rev2 : Bool) (link : LinkState) (feed : Stream)
    → n ≡ m → CameToEnd d count s had heard (record { count = n; rev2 = rev2 }) link feed
    → CameToEnd d count s had heard (record { count = m; rev2 = rev2 }) link feed
came_count d count s had heard n m rev2 link feed same h = subst
    (λ (x : ℕ). CameToEnd d count s had heard (record { count = x; rev2 = rev2 }) link feed) same h

pub broke_from : (d : Dialogue) (count : ℕ) (s t had got : List ℕ) (heard : List Response) (link : LinkState) (fault : SessionFault)
    → s ≡ t → had ≡ got → BrokeOff d count s had heard link fault → BrokeOff d count t got heard link fault
broke_from d count s t had got heard link fault same more h =
    subst (λ (x : List ℕ). BrokeOff d count t x heard link fault) more
    (subst (λ (x : List ℕ). BrokeOff d count x had heard link fault) same h)

pub came_as : (d e : Dialogue) (count : ℕ) (s had : List ℕ) (heard : List Response) (known : Known) (link : LinkState) (feed : Stream) → e ≡ d
    → CameToEnd d count s had heard known link feed → CameToEnd e count s had heard known link feed
came_as d e count s had heard known link feed same h = subst (λ (x : Dialogue). CameToEnd x count s had heard known link feed) (sym same) h

pub broke_as : (d e : Dialogue) (count : ℕ) (s had : List ℕ) (heard : List Response) (link : LinkState) (fault : SessionFault) → e ≡ d
    → BrokeOff d count s had heard link fault → BrokeOff e count s had heard link fault
broke_as d e count s had heard link fault same h = subst (λ (x : Dialogue). BrokeOff x count s had heard link fault) (sym same) h

pub talked_as : (d e : Dialogue) (count : ℕ) (old new : Point) → e ≡ d → Talked d count old new → Talked e count old new
talked_as d e count old new same h = subst (λ (x : Dialogue). Talked x count old new) (sym same) h

pub talked_from : (d : Dialogue) (count : ℕ) (k : Clock) (s t : List ℕ) (new : Point) → s ≡ t
    → Talked d count (record { clock = k; sent = s }) new → Talked d count (record { clock = k; sent = t }) new
talked_from d count k s t new same h = subst (λ (x : List ℕ). Talked d count (record { clock = k; sent = x }) new) same h

pub out_as : (d e : Dialogue) (count : ℕ) (lacking : Option Item) (old new : Point) → e ≡ d → TalkedOut d count lacking old new
    → TalkedOut e count lacking old new
out_as d e count lacking old new same h = subst (λ (x : Dialogue). TalkedOut x count lacking old new) (sym same) h

pub out_from : (d : Dialogue) (count : ℕ) (lacking : Option Item) (k : Clock) (s t : List ℕ) (new : Point) → s ≡ t
    → TalkedOut d count lacking (record { clock = k; sent = s }) new → TalkedOut d count lacking (record { clock = k; sent = t }) new
out_from d count lacking k s t new same h = subst (λ (x : List ℕ). TalkedOut d count lacking (record { clock = k; sent = x }) new) same h

-- results
pub on_ok_from : {T E : Type 0} (r : Result T E) (P : T → Type 0) (Q : Type 0) → ((x : T) → P x → Q) → IfOk r P → OnOk r Q
on_ok_from (Ok x) P Q f h = f x h
on_ok_from (Err e) P Q f h = tt

pub on_ok_then : {T E : Type 0} (r : Result T E) (P Q : Type 0) → (P → Q) → OnOk r P → OnOk r Q
on_ok_then (Ok x) P Q f h = f h
on_ok_then (Err e) P Q f h = tt

pub sent_as_dialogue : (d e : Dialogue) (count : ℕ) (old new : List ℕ) → e ≡ d → SentIn d count old new → SentIn e count old new
sent_as_dialogue d e count old new same h = subst (λ (x : Dialogue). SentIn x count old new) (sym same) h

-- nothing happened yet
pub idle_talked : (d : Dialogue) (count : ℕ) (p : Point) → Talked d count p p
idle_talked (Ends rev2) count p = refl
idle_talked (Lacks item) count p = refl
idle_talked (Asks command next) count p = inl
    (linked_start (Asking p.clock.now.outside.talk.told (next_tag count) command) p.clock, sent_none (next_text count command) p.sent p.sent refl)

pub idle_sent : (d : Dialogue) (count : ℕ) (sent : List ℕ) → SentIn d count sent sent
idle_sent (Ends rev2) count sent = refl
idle_sent (Lacks item) count sent = refl
idle_sent (Asks command next) count sent = inl (sent_none (next_text count command) sent sent refl)

pub sent_from : (d : Dialogue) (count : ℕ) (s t new : List ℕ) → s ≡ t → SentIn d count s new → SentIn d count t new
sent_from d count s t new same h = subst (λ (x : List ℕ). SentIn d count x new) same h
