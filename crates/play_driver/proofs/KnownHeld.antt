-- What the player knows while the reply to a SELECT is held: as the cache is taken away, and as the rows are asked for behind that.
use Rattle.action_queue.specs.Book.{Meaning, after, cache_at}
use Rattle.action_queue.specs.declared.event.Event.{Event}
use Rattle.imap_model.specs.Carrying.{Waiting}
use Rattle.imap_model.specs.Talking.{Peer}
use Rattle.imap_model.specs.declared.replies.Replies.{Replies}
use Rattle.imap_session.specs.Dialogue.{next_tag}
use Rattle.imap_session.specs.Session.{waiting_of}
use Rattle.imap_session.specs.declared.permits.Permits.{Permits}
use Rattle.mailbox_cache.specs.declared.cache.Cache.{Cache}
use Rattle.mailbox_cache.specs.declared.delta.Delta.{Delta}
use Rattle.play_driver.proofs.KnownAnswer.{AnsweredFollows, follows_answered, tells_then}
use Rattle.play_driver.proofs.KnownBeside.{Follows, world_of}
use Rattle.play_driver.proofs.KnownGathers.{rows_carried}
use Rattle.play_driver.proofs.KnownPermits.{permitted_on}
use Rattle.play_driver.proofs.KnownWalk.{answered_later, kept_here, kept_told, servers_later, tells_peer}
use Rattle.play_driver.proofs.Parts.{grows}
use Rattle.play_driver.specs.Exchanges.{AnsweredAll, Exchange, IsAnsweredOk}
use Rattle.play_driver.specs.Holds.{IsHeldFor, OwesHeld}
use Rattle.play_driver.specs.Joining.{AllFair, Grows}
use Rattle.play_driver.specs.KnownAt.{GatheredAt, KnownAt, StandsKept}
use Rattle.play_driver.specs.Played.{played}
use Rattle.play_driver.specs.Resynchronising.{MakesDelta, RowsFetched, fetches, then_all}
use Rattle.play_driver.specs.declared.session.Held.{Held}
use Rattle.playback.proofs.Gathering.{IsAsked, came_asked}
use Rattle.playback.proofs.Resetting.{IsResetOf, reset_knows, reset_kept, reset_told}
use Rattle.playback.specs.Allowed.{is_due}
use Rattle.playback.specs.Choosing.{reset_of}
use Rattle.playback.specs.Course.{Course, Said}
use Rattle.book_laws.specs.Kept.{KeptBook}
use Rattle.playback.specs.Knows.{IsNeeded, Knows, MayAskRows, MayReset, SelectsBox}
use Rattle.playback.specs.Why.{TellsValidity}
use Rattle.playback.specs.Worlds.{World, name_of}
use Rattle.playback.specs.declared.need.Need.{Need}
use Rattle.playback.specs.declared.player.Player.{Player}
use Rattle.qresync_core.specs.Resync.{TellsDelta}
use Rattle.std.proofs.Common.{List, None, Ok, Option, Some, ap, inl, refl, subst, sym, ℕ, ◌∙◌, ◌∷◌, ◌≡◌, ◌<◌}
use Rattle.std.proofs.lemmas.Option.{none-some, same_Some}
use Rattle.store_core.specs.Books.{HoldsBook}
use Rattle.store_core.specs.Mail.{mail}
use Rattle.store_core.specs.Taking.{IsTaking, Takes}
use Rattle.world_traits.proofs.Traces.{carried_now}
use Rattle.world_traits.specs.Moments.{Clock, GoesOn, Moment}
use Rattle.imap_model.specs.declared.command.Command.TheVariants as commands

-- the reply that is held answers the SELECT that the player needs
module _ (p : Player) (b : Meaning) (h : Held) (permits : Option Permits) (made old : Clock) (stands : StandsKept b old)
    (known : KnownAt made old permits (Some h) p b) (fits : IsHeldFor h p b) where
  abbrev pub W : World
  W = known.world

  abbrev pub Name : List ℕ
  Name = h.chosen.name

  pub owes : OwesHeld h W
  owes = known.owed

  pub kept : KeptBook b W.course.now W.waiting
  kept = kept_told b W old.now.outside (tells_peer W made old known.tells) (kept_here b old.now stands.kept stands.books)

  pub asked : IsAsked owes.select p b W
  asked = came_asked owes.select p b W W.owed W.waiting owes.owed owes.none_waits known.knows.came

  pub selects_box : SelectsBox Name b owes.select
  selects_box = subst (λ (need : Need). IsNeeded need owes.select p.selected b) fits.needed asked.needed

  pub told : TellsValidity h.told owes.said.reply
  told = fits.tells owes.said.reply owes.is

  -- its cache may be taken away
  pub may_reset : (cache : Cache) → cache_at Name b.boxes ≡ Some cache → cache.validity < h.told → MayReset Name cache.validity h.told b W
  may_reset cache there above = record {
    select = owes.select;
    owed = owes.owed;
    none_waits = owes.none_waits;
    selects = selects_box;
    said = owes.said;
    rest = owes.rest;
    last = owes.last;
    answers = owes.answers;
    accepted = owes.is.accepted;
    codes = told.0;
    tells = told.1;
    validity = told.2;
    cache = cache;
    there = there;
    old = refl;
    above = above;
  }

  -- the cache is taken away
  module _ (event : Event) (reset : reset_of Name (cache_at Name b.boxes) h.told ≡ Some event) where
    pub is_of : IsResetOf Name (cache_at Name b.boxes) h.told event
    is_of = reset_told Name (cache_at Name b.boxes) h.told event reset

    pub may : MayReset Name is_of.cache.validity h.told b W
    may = may_reset is_of.cache is_of.there is_of.above

    pub kept_behind : KeptBook (after b event) W.course.now W.waiting
    kept_behind =
        subst (λ (e : Event). KeptBook (after b e) W.course.now W.waiting) (sym is_of.is)
        (reset_kept p b W Name is_of.cache.validity h.told may kept known.knows)

    knows_behind : Knows p (after b event) W
    knows_behind =
        subst (λ (e : Event). Knows p (after b e) W) (sym is_of.is)
        (reset_knows p b W Name is_of.cache.validity h.told may kept known.knows)

    module _ (new : Clock) (takes : Takes mail (Some b) event old new) where
      abbrev Goes : Moment → Moment → Type 0
      Goes = GoesOn (HoldsBook mail (Some b)) (HoldsBook mail (Some (after b event)))

      same : new.now.outside ≡ old.now.outside
      same =
          carried_now (IsTaking mail (Some b) event) (λ m. m.outside ≡ old.now.outside) Goes (λ m n p s before. s.outside ∙ before) old refl new
          takes

      time : Grows old new
      time = grows (IsTaking mail (Some b) event) Goes old new takes

      pub known_reset : KnownAt made new permits (Some h) p (after b event)
      known_reset = record {
        world = W;
        tells = record {
          first = known.tells.first;
          server = subst (λ (q : Peer). W.course.now ≡ q.server) (sym same) known.tells.server;
          each = servers_later W made old new time known.tells.each;
          answered = answered_later W.course.said made old new time known.tells.answered;
          waits = subst (λ (q : Peer). W.waiting ≡ q.waiting) (sym same) known.tells.waits;
          selects = subst (λ (q : Peer). name_of W.selected ≡ q.talk.selected) (sym same) known.tells.selects;
        };
        permitted = known.permitted;
        owed = known.owed;
        knows = knows_behind;
      }

  -- the rows are asked for, where the reply is read without a cache
  module _ (away : cache_at Name b.boxes ≡ None) (delta : Delta) where
    due_same : (selected : Replies) → fetches None selected ≡ is_due (cache_at Name b.boxes) selected
    due_same selected = ap (λ (o : Option Cache). is_due o selected) (sym away)

    tells_same : (all : Option Replies) → TellsDelta None owes.said.reply all delta → TellsDelta (cache_at Name b.boxes) owes.said.reply all delta
    tells_same all t = subst (λ (o : Option Cache). TellsDelta o owes.said.reply all delta) (sym away) t

    -- where none were due
    known_empty : MakesDelta None (record { selected = owes.said.reply; all = None }) (Ok delta) → GatheredAt delta made old permits p b
    known_empty makes = record {
      world = W;
      tells = known.tells;
      permitted = known.permitted;
      gathered = record {
        selected = owes.said;
        rows = None;
        rest = owes.rest;
        last = owes.last;
        command = owes.select;
        owed = owes.owed;
        answered = owes.none_waits;
        asks = owes.answers;
        name = Name;
        selects = selects_box;
        accepted = owes.is.accepted;
        all_asks = λ e is. absurd (none-some e is);
        all_accepted = λ e is. absurd (none-some e is);
        fetched = makes.fetched ∙ due_same owes.said.reply;
        tells = tells_same None makes.value;
      };
      kept = kept;
      knows = known.knows;
    }

    -- where they were
    module _ (count : ℕ) (all : Replies) (new : Clock) where
      abbrev Fetch : Waiting
      Fetch = waiting_of old.now.outside.talk.selected (next_tag count) commands.FetchAll

      abbrev Second : Exchange
      Second = record { asked = commands.FetchAll; replies = all }

      follows_held : Follows p b made W.selected (Some owes.select) W.course.said old
      follows_held =
          let same : W ≡ world_of W.course W.selected (Some owes.select) =
          ap (λ (o : Option Waiting). record W { owed = o }) owes.owed
          ∙ ap (λ (o : Option Waiting). record { course = W.course; selected = W.selected; waiting = o; owed = Some owes.select }) owes.none_waits in
          record {
            course = W.course;
            books = stands.books;
            first = known.tells.first;
            server = known.tells.server;
            selects = known.tells.selects;
            each = known.tells.each;
            is_said = refl;
            answered = known.tells.answered;
            kept = subst (λ (o : Option Waiting). KeptBook b W.course.now o) owes.none_waits kept;
            knows = subst (λ (v : World). Knows p b v) same known.knows;
          }

      may_rows : (course : Course) → course.said ≡ W.course.said → MayAskRows Fetch p b (world_of course W.selected (Some owes.select))
      may_rows course is_said = record {
        select = owes.select;
        owed = refl;
        none_waits = refl;
        name = Name;
        selects = selects_box;
        said = owes.said;
        rest = owes.rest;
        last = is_said ∙ owes.last;
        answers = owes.answers;
        asks = refl;
        selected = sym known.tells.selects;
      }

      module _ (f : IsAnsweredOk old.now.outside.talk.selected (next_tag count) Second old new) (fair : AllFair mail played old new) where
        then : AnsweredFollows Fetch all p b made W.selected (Some owes.select) W.course.said new
        then =
            follows_answered p b made old new Fetch all W.selected (Some owes.select) W.course.said f.connection f.feed f.answered fair
            stands.none_waits (inl refl) follows_held (sym known.tells.selects) (known.tells.selects ∙ sym (f.answered.keeps tt)) (Some owes.select)
            (λ course t after is_said out kept waits later k.
            rows_carried p b Fetch all W.selected owes.select course t after (may_rows course is_said) out waits later k)

        known_rows : MakesDelta None (record { selected = owes.said.reply; all = Some all }) (Ok delta) → GatheredAt delta made new permits p b
        known_rows makes = record {
          world = world_of then.follows.course W.selected (Some owes.select);
          tells = tells_then p b made new W.selected (Some owes.select)
              (then.said ∷ W.course.said) f.answered.after f.connection f.feed f.answered.stands
              (known.tells.selects ∙ sym (f.answered.keeps tt)) then.follows;
          permitted = permitted_on permits W (world_of then.follows.course W.selected (Some owes.select)) refl then.said
              then.follows.is_said known.permitted;
          gathered = record {
            selected = owes.said;
            rows = Some then.said;
            rest = owes.rest;
            last = then.follows.is_said ∙ ap (λ (l : List Said). then.said ∷ l) owes.last;
            command = owes.select;
            owed = refl;
            answered = refl;
            asks = owes.answers;
            name = Name;
            selects = selects_box;
            accepted = owes.is.accepted;
            all_asks = λ e is.
                ap (λ (x : Said). x.command.command) (sym (same_Some then.said e is)) ∙ ap (λ (x : Waiting). x.command) then.command;
            all_accepted = λ e is.
                ap (λ (x : Said). x.reply.ending) (sym (same_Some then.said e is)) ∙ ap (λ (x : Replies). x.ending) then.reply ∙ f.accepted;
            fetched = makes.fetched ∙ due_same owes.said.reply;
            tells = tells_same (Some then.said.reply)
                (subst (λ (x : Replies). TellsDelta None owes.said.reply (Some x) delta) (sym then.reply) makes.value);
          };
          kept = then.follows.kept;
          knows = then.follows.knows;
        }

    pub known_fetched : (new : Clock) → AllFair mail played old new → (count after : ℕ) →
        RowsFetched h old.now.outside.talk.selected count after (Ok delta) old new → GatheredAt delta made new permits p b
    known_fetched new fair count after r = by r.all r.answered (r.makes owes.said.reply owes.is)
      where
        by : (all : Option Replies) → AnsweredAll (then_all all) old.now.outside.talk.selected count old new →
            MakesDelta None (record { selected = owes.said.reply; all = all }) (Ok delta) →
            GatheredAt delta made new permits p b
        by None a makes = subst (λ (k : Clock). GatheredAt delta made k permits p b) (sym a) (known_empty makes)
        by (Some all) a makes =
            known_rows count all new
            (subst (λ (k : Clock). IsAnsweredOk old.now.outside.talk.selected (next_tag count) (record { asked = commands.FetchAll; replies = all }) old k)
            (sym a.2) a.1) fair makes
