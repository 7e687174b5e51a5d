-- A run asks each question on its ground.
use Rattle.std.proofs.Common.{◌≡◌, inl, inr, ℕ, ◌+◌, Bool, true, false, if◌then◌else◌, List, [], ◌∷◌, ◌++◌, Option, Some, refl, sym, subst}
use Rattle.std.specs.Prelude.{bytes_eq, codes, cond, is_none, map, ⊤}
use Rattle.std.proofs.lemmas.Bool.{cond_both}
use Rattle.action_queue.specs.Book.{Meaning, after, known_at}
use Rattle.action_queue.specs.Queues.{tries_due}
use Rattle.action_queue.specs.Rules.{is_unknown}
use Rattle.action_queue.specs.declared.book.Known.{Known}
use Rattle.action_queue.specs.declared.event.Event.{Event}
use Rattle.mail_base.specs.Account.{Credentials}
use Rattle.mail_base.specs.Tags.{action_of}
use Rattle.mail_base.specs.declared.tag.Tag.{Tag}
use Rattle.mail_base.specs.declared.tag.Tag.TheVariants as tags
use Rattle.imap_model.specs.Mutating.{is_mutating}
use Rattle.imap_model.specs.Talking.{Answering, Connecting, Peer}
use Rattle.imap_model.specs.Talking.Answering.{stays}
use Rattle.imap_model.specs.Talking.Connecting.{as_before}
use Rattle.imap_model.specs.declared.command.Command.{Command}
use Rattle.imap_model.specs.declared.command.Command.TheVariants as commands
use Rattle.imap_model.specs.declared.mark.Mark.{Mark}
use Rattle.imap_model.specs.declared.replies.Replies.{Replies}
use Rattle.imap_model.specs.declared.response.Response.{Response}
use Rattle.imap_session.proofs.Talks.{became_since}
use Rattle.imap_session.proofs.Under.{asks_under}
use Rattle.imap_session.specs.Counting.{HasTag}
use Rattle.imap_session.specs.Dialogue.{Dialogue, Point, Talked, next_tag, next_text}
use Rattle.imap_session.specs.Dialogue.Dialogue.{Ends, Lacks, Asks}
use Rattle.imap_session.specs.Enabled.{is_enabled}
use Rattle.imap_session.specs.Enquiring.{AsksUnder}
use Rattle.imap_session.specs.Enquiring.AsksUnder.{answers as answers_under, arrives as arrives_under}
use Rattle.imap_session.specs.Faults.{IsCount}
use Rattle.imap_session.specs.LogIn.{behind_offer, enabling, entering, fitness, logged_in, way_in}
use Rattle.imap_session.specs.Offers.{offers}
use Rattle.imap_session.specs.Session.{IsAsked, Stands}
use Rattle.literal_feed.specs.Stream.{Stream}
use Rattle.playback.specs.Needs.{IsBeside, IsLawfulNeed, need_of}
use Rattle.playback.specs.declared.need.Need.{Need}
use Rattle.playback.specs.declared.need.Need.TheVariants as needs
use Rattle.playback.specs.declared.player.Player.{Player}
use Rattle.store_core.specs.Books.{HoldsBook}
use Rattle.store_core.specs.Fold.{IsFold}
use Rattle.store_core.specs.Mail.{mail}
use Rattle.store_core.specs.Taking.{IsTaking, Takes}
use Rattle.world_traits.proofs.Passing.{since_start, since_then, since_weaker}
use Rattle.world_traits.specs.Asking.{Asking}
use Rattle.world_traits.specs.Asking.Asking.{answers, arrives}
use Rattle.world_traits.specs.LinkState.{Connection}
use Rattle.world_traits.specs.Links.{Any, LinkStep, Linked}
use Rattle.world_traits.specs.Moments.{Clock, GoesOn, Since}
use Rattle.play_driver.specs.Grounds.{Grounded, GroundStep, HasGround}
use Rattle.play_driver.specs.Grounds.Grounded.{asking, connecting}
use Rattle.play_driver.specs.Progress.{IsLater, box_names, has_name}
use Rattle.play_driver.specs.Turning.{IsAskedFor}
use Rattle.play_driver.proofs.Asked.{askable, lawful_fold}

module _ (names : List (List ℕ)) where
  pub grounds_start : (k : Clock) → Since Any (GroundStep names) k k
  grounds_start k = since_start Any (GroundStep names) k

  pub grounds_then : (old mid new : Clock) → Since Any (GroundStep names) old mid → Since Any (GroundStep names) mid new →
      Since Any (GroundStep names) old new
  grounds_then old mid new a b = since_then Any (GroundStep names) old mid new a b

  -- a connection is made
  pub connects_grounded : (old new : Clock) → Linked Connecting old new → Since Any (GroundStep names) old new
  connects_grounded old new s =
      since_weaker Any Any (LinkStep Connecting) (GroundStep names) (λ m p. p) (λ m n step. connecting step.outside) old new s

  -- the server answers
  answers_grounded : (old new : Clock) → Linked Answering old new → Since Any (GroundStep names) old new
  answers_grounded old new s =
      since_weaker Any Any (LinkStep Answering) (GroundStep names) (λ m p. p) (λ m n step. connecting (as_before step.outside)) old new s

  pub greets_grounded : (old mid new : Clock) → Linked Connecting old mid → Linked Answering mid new → Since Any (GroundStep names) old new
  greets_grounded old mid new connects greets =
      grounds_then old mid new (connects_grounded old mid connects) (answers_grounded mid new greets)

  -- a command whose ground is the same whatever is selected
  asking_grounded : (told : List Response) (tag : Tag) (command : Command) → ((selected : Option (List ℕ)) → HasGround names selected tag command) →
      (p q : Peer) → Asking told tag command p q → Grounded names p q
  asking_grounded told tag command ground p q (answers step) = connecting (as_before step)
  asking_grounded told tag command ground p q (arrives before part behind is awaits first) =
      asking tag command before part behind (ground p.talk.selected)

  asks_grounded : (told : List Response) (tag : Tag) (command : Command) → ((selected : Option (List ℕ)) → HasGround names selected tag command) →
      (old new : Clock) → Linked (Asking told tag command) old new → Since Any (GroundStep names) old new
  asks_grounded told tag command ground old new s =
      since_weaker Any Any (LinkStep (Asking told tag command)) (GroundStep names) (λ m p. p)
      (λ m n step. asking_grounded told tag command ground m.outside n.outside step.outside) old new s

  -- a command whose ground is what is selected as it is begun
  under_grounded : (selected : Option (List ℕ)) (told : List Response) (tag : Tag) (command : Command) → HasGround names selected tag command →
      (p q : Peer) → AsksUnder selected told tag command p q → Grounded names p q
  under_grounded selected told tag command ground p q (answers_under step) = connecting (as_before step)
  under_grounded selected told tag command ground p q (arrives_under before part behind is awaits first same) =
      asking tag command before part behind (subst (λ (o : Option (List ℕ)). HasGround names o tag command) (sym same) ground)

  stands_grounded : (selected : Option (List ℕ)) (tag : Tag) (command : Command) → HasGround names selected tag command →
      (old new : Clock) (c : Option Connection) (feed : Stream) → Stands selected old c feed →
      Linked (Asking old.now.outside.talk.told tag command) old new → Since Any (GroundStep names) old new
  stands_grounded selected tag command ground old new c feed stands s =
      let told = old.now.outside.talk.told in
      since_weaker Any Any (LinkStep (AsksUnder selected told tag command)) (GroundStep names) (λ m p. p)
      (λ m n step. under_grounded selected told tag command ground m.outside n.outside step.outside) old new
      (asks_under selected tag command old new stands.nothing stands.no_part stands.selects s)

  -- LOGOUT
  pub leave_grounded : (told : List Response) (tag : Tag) (old new : Clock) → Linked (Asking told tag commands.Logout) old new →
      Since Any (GroundStep names) old new
  leave_grounded told tag old new s = asks_grounded told tag commands.Logout (λ selected. tt) old new s

  -- SELECT, and the FETCH behind it
  pub select_grounded : (name : List ℕ) → has_name name names ≡ true → (since : Option Mark) (count : ℕ) (old new : Clock) →
      Linked (Asking old.now.outside.talk.told (next_tag count) (commands.Select name since)) old new → Since Any (GroundStep names) old new
  select_grounded name is since count old new s =
      asks_grounded old.now.outside.talk.told (next_tag count) (commands.Select name since) (λ selected. is) old new s

  pub both_grounded : (name : List ℕ) → has_name name names ≡ true → (since : Option Mark) (count : ℕ) (tag : Tag) (old mid new : Clock) →
      Linked (Asking old.now.outside.talk.told (next_tag count) (commands.Select name since)) old mid → (c : Option Connection) (feed : Stream) →
      Stands (Some name) mid c feed → Linked (Asking mid.now.outside.talk.told tag commands.FetchAll) mid new → Since Any (GroundStep names) old new
  both_grounded name is since count tag old mid new first c feed stands second =
      grounds_then old mid new (select_grounded name is since count old mid first)
      (stands_grounded (Some name) tag commands.FetchAll refl mid new c feed stands second)

  pub fetch_grounded : (name : List ℕ) (tag : Tag) (old new : Clock) (c : Option Connection) (feed : Stream) → Stands (Some name) old c feed →
      Linked (Asking old.now.outside.talk.told tag commands.FetchAll) old new → Since Any (GroundStep names) old new
  fetch_grounded name tag old new c feed stands s = stands_grounded (Some name) tag commands.FetchAll refl old new c feed stands s

  -- what isn't on the disk stays
  still_grounded : (p q : Peer) → q ≡ p → Grounded names p q
  still_grounded p q same = subst (λ (x : Peer). Grounded names p x) (sym same) (connecting (as_before stays))

  pub record_grounded : (b : Meaning) (event : Event) (old new : Clock) → Takes mail (Some b) event old new → Since Any (GroundStep names) old new
  record_grounded b event old new takes =
      since_weaker (IsTaking mail (Some b) event) Any (GoesOn (HoldsBook mail (Some b)) (HoldsBook mail (Some (after b event)))) (GroundStep names)
      (λ m p. tt) (λ m n step. still_grounded m.outside n.outside step.outside) old new takes

  -- the questions of a dialogue in which no mailbox is named
  abbrev NamesNone : Dialogue → Type 0
  NamesNone (Ends rev2) = ⊤
  NamesNone (Lacks item) = ⊤
  NamesNone (Asks command next) =
      ((tag : Tag) (selected : Option (List ℕ)) → HasGround names selected tag command) × ((r : Replies) → NamesNone (next r))

  talks_grounded : (d : Dialogue) → NamesNone d → (count : ℕ) (old new : Point) → Talked d count old new →
      Since Any (GroundStep names) old.clock new.clock
  talks_grounded (Ends rev2) g count old new is =
      subst (λ (k : Point). Since Any (GroundStep names) old.clock k.clock) (sym is) (grounds_start old.clock)
  talks_grounded (Lacks item) g count old new is =
      subst (λ (k : Point). Since Any (GroundStep names) old.clock k.clock) (sym is) (grounds_start old.clock)
  talks_grounded (Asks command next) g count old new (inl sent) =
      asks_grounded old.clock.now.outside.talk.told (next_tag count) command (g.0 (next_tag count)) old.clock new.clock sent.0
  talks_grounded (Asks command next) g count old new (inr t) =
      grounds_then old.clock t.1 new.clock
      (asks_grounded old.clock.now.outside.talk.told (next_tag count) command (g.0 (next_tag count)) old.clock t.1
      (became_since Any (LinkStep (Asking old.clock.now.outside.talk.told (next_tag count) command)) _ old.clock t.1 t.2.answered.became))
      (talks_grounded (next t.0) (g.1 t.0) (count + 1) (record { clock = t.1; sent = old.sent ++ next_text count command }) new t.3)

  either : (test : Bool) (x y : Dialogue) → NamesNone x → NamesNone y → NamesNone (if test then x else y)
  either true x y p q = p
  either false x y p q = q

  fitness_names : (r : Replies) → NamesNone (fitness r)
  fitness_names r =
      either (offers r (codes "QRESYNC")) _ _
      (either (offers r (codes "IMAP4rev2")) _ _ tt (either (offers r (codes "UIDPLUS")) _ _ (either (offers r (codes "MOVE")) _ _ tt tt) tt)) tt

  logged_in_names : NamesNone logged_in
  logged_in_names = (λ tag selected. tt, fitness_names)

  way_in_names : (account : Credentials) (r : Replies) → NamesNone (way_in account r)
  way_in_names account r =
      either (offers r (codes "AUTH=PLAIN")) _ _ (λ tag selected. tt, λ s. logged_in_names)
      (either (offers r (codes "LOGINDISABLED")) _ _ tt (λ tag selected. tt, λ s. logged_in_names))

  behind_names : (preauth : Bool) (account : Credentials) (r : Replies) → NamesNone (behind_offer preauth account r)
  behind_names true account r = logged_in_names
  behind_names false account r = way_in_names account r

  entering_names : (preauth : Bool) (account : Credentials) → NamesNone (entering preauth account)
  entering_names preauth account = (λ tag selected. tt, behind_names preauth account)

  enabling_names : (rev2 : Bool) → NamesNone (enabling rev2)
  enabling_names rev2 = (λ tag selected. tt, λ r. either (is_enabled (codes "QRESYNC") r.untagged) _ _ tt tt)

  pub entering_grounded : (preauth : Bool) (account : Credentials) (count : ℕ) (old new : Point) → Talked (entering preauth account) count old new →
      Since Any (GroundStep names) old.clock new.clock
  entering_grounded preauth account count old new t = talks_grounded (entering preauth account) (entering_names preauth account) count old new t

  pub enabling_grounded : (rev2 : Bool) (count : ℕ) (old new : Point) → Talked (enabling rev2) count old new →
      Since Any (GroundStep names) old.clock new.clock
  enabling_grounded rev2 count old new t = talks_grounded (enabling rev2) (enabling_names rev2) count old new t

-- What the player needs is asked on its ground while a mailbox is selected.
no_count : (tag : Tag) (n : ℕ) → action_of tag ≡ Some n → IsCount tag → ⊥
no_count (tags.Play m) n is counts = counts
no_count (tags.Again id turn) n is counts = counts
no_count (tags.Count m) n is counts = absurd cc
no_count tags.Strange n is counts = counts

module _ (names : List (List ℕ)) (name : List ℕ) (count : ℕ) (tag : Tag) where
  asked_ground : (command : Command) → IsAsked command → HasTag (is_mutating command) count tag → HasGround names (Some name) tag command
  asked_ground commands.Capability asked tagged = absurd asked
  asked_ground (commands.Login account) asked tagged = absurd asked
  asked_ground (commands.Plain account) asked tagged = absurd asked
  asked_ground (commands.Enable rev2) asked tagged = absurd asked
  asked_ground (commands.Select other since) asked tagged = absurd asked
  asked_ground commands.FetchAll asked tagged = refl
  asked_ground (commands.FetchRow uid) asked tagged = refl
  asked_ground (commands.Search from id) asked tagged = refl
  asked_ground (commands.FetchIds uids) asked tagged = refl
  asked_ground (commands.FetchText uid) asked tagged = refl
  asked_ground (commands.Store uid since add flags) asked tagged = no_count tag tagged.0 tagged.1
  asked_ground (commands.Shift uid to) asked tagged = no_count tag tagged.0 tagged.1
  asked_ground (commands.Copy uid to) asked tagged = no_count tag tagged.0 tagged.1
  asked_ground (commands.Expunge uid) asked tagged = no_count tag tagged.0 tagged.1
  asked_ground (commands.Append to flags text) asked tagged = no_count tag tagged.0 tagged.1
  asked_ground commands.Logout asked tagged = absurd asked

pub needed_grounded : (names : List (List ℕ)) (p : Player) (b : Meaning) → IsFold b → IsBeside p b → (count : ℕ) (tag : Tag) (command : Command) →
    IsAskedFor (need_of p b) (tries_due b.queue) count tag command → (name : List ℕ) (old new : Clock) (c : Option Connection) (feed : Stream) →
    Stands (Some name) old c feed → Linked (Asking old.now.outside.talk.told tag command) old new → Since Any (GroundStep names) old new
needed_grounded names p b fold beside count tag command needed name old new c feed stands s =
    let can = askable (need_of p b) p b (tries_due b.queue) count tag command needed (lawful_fold p b fold beside) in
    stands_grounded names (Some name) tag command (asked_ground names name count tag command can.asked can.tagged) old new c feed stands s

-- A mailbox that the player needs is one of the book's.
known_named : (name : List ℕ) (boxes : List Known) → is_unknown boxes name ≡ false → has_name name (map (λ (k : Known). k.name) boxes) ≡ true
known_named name [] = λ is. absurd cc
known_named name (k ∷ ks) =
    cond_both (bytes_eq k.name name) (Some k) (known_at name ks)
    (λ (o : Option Known). is_none o ≡ false → cond (bytes_eq k.name name) true (has_name name (map (λ (x : Known). x.name) ks)) ≡ true)
    (λ t is. subst (λ (test : Bool). cond test true (has_name name (map (λ (x : Known). x.name) ks)) ≡ true) (sym t) refl)
    (λ f is. subst (λ (test : Bool). cond test true (has_name name (map (λ (x : Known). x.name) ks)) ≡ true) (sym f) (known_named name ks is))

pub needed_named : (p : Player) (b : Meaning) (name : List ℕ) → IsFold b → IsBeside p b → need_of p b ≡ needs.Select name →
    has_name name (box_names b) ≡ true
needed_named p b name fold beside needed =
    known_named name b.boxes (subst (λ (need : Need). IsLawfulNeed need p b) needed (lawful_fold p b fold beside))

-- the names of a later book are the same
pub grounds_later : (b c : Meaning) → IsLater b c → (old mid new : Clock) → Since Any (GroundStep (box_names b)) old mid →
    Since Any (GroundStep (box_names c)) mid new → Since Any (GroundStep (box_names b)) old new
grounds_later b c later old mid new a more =
    grounds_then (box_names b) old mid new a (subst (λ (names : List (List ℕ)). Since Any (GroundStep names) mid new) later.names more)
