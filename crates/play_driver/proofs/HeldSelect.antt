-- The reply to the SELECT of a mailbox that the player needs is held.
use Rattle.action_queue.specs.Book.{Meaning, cache_at, learned}
use Rattle.imap_model.specs.declared.response.Response.{Response}
use Rattle.imap_session.specs.Dialogue.{next_tag}
use Rattle.imap_session.specs.Hearing.{Hears}
use Rattle.imap_session.specs.declared.permits.Permits.{Permits}
use Rattle.mailbox_cache.specs.declared.cache.Cache.{Cache}
use Rattle.play_driver.proofs.Answering.{AnsweredAt, answered_at, answered_through}
use Rattle.play_driver.proofs.KnownLaws.{known_law}
use Rattle.play_driver.proofs.Learned.{calm, ends_at, selected_stays, without_rows}
use Rattle.play_driver.proofs.NotRead.{last_earlier}
use Rattle.play_driver.proofs.ReadsOne.{exchanges_other}
use Rattle.play_driver.specs.Exchanges.{CameAll, Exchange, IsAnsweredOk}
use Rattle.play_driver.specs.Gathering.{HasHeld}
use Rattle.play_driver.specs.Holds.{IsHeldFor}
use Rattle.play_driver.specs.Joining.{AllFair, Grows}
use Rattle.play_driver.specs.KnownAt.{KnownAt, StandsKept}
use Rattle.play_driver.specs.Played.{played}
use Rattle.play_driver.specs.Resynchronising.{exchanged, select_of}
use Rattle.play_driver.specs.Sessions.{count_of, feed_of, selected_in}
use Rattle.play_driver.specs.Settled.{IsReadHeld}
use Rattle.play_driver.specs.Synced.{IsLastRead, IsNotRead}
use Rattle.play_driver.specs.declared.session.Held.{Held}
use Rattle.play_driver.specs.declared.session.Session.{Session}
use Rattle.playback.specs.Choosing.{reset_of}
use Rattle.playback.specs.Needs.{need_of}
use Rattle.playback.specs.declared.player.Player.{Player}
use Rattle.action_queue.specs.declared.event.Event.TheVariants as events
use Rattle.playback.specs.declared.need.Need.TheVariants as needs
use Rattle.std.proofs.Common.{List, None, Option, Some, ap, refl, subst, sym, ℕ, ◌<◌, ◌∙◌, ◌≡◌, ◌≢◌}
use Rattle.std.proofs.lemmas.Bool.{cond-true, lt-ltb}
use Rattle.std.proofs.lemmas.Option.{same_Some}
use Rattle.std.specs.Prelude.{nat_lt}
use Rattle.store_core.specs.Mail.{mail}
use Rattle.world_traits.specs.Links.{Any}
use Rattle.world_traits.specs.Moments.{Clock, Since}
use Rattle.world_traits.specs.declared.clocked.Clocked.{Ghosts}

module _ {Self : Type 0} (L : Ghosts Self) (old new : Self) (session : Session) (h : Held) (name : List ℕ) (kept : Option Cache) (b : Meaning)
    (p : Player) (same : h.chosen.name ≡ name) (cached : kept ≡ cache_at name b.boxes) (needed : need_of p b ≡ needs.Select name)
    (x : HasHeld L name kept old new session h) where
  here : cache_at h.chosen.name b.boxes ≡ Some x.cache
  here = ap (λ (n : List ℕ). cache_at n b.boxes) same ∙ sym cached ∙ x.cached

  pub needed_held : need_of p b ≡ needs.Select h.chosen.name
  needed_held = needed ∙ ap (λ (n : List ℕ). needs.Select n) (sym same)

  pub fits_held : IsHeldFor h p b
  fits_held = record {
    reply = x.reply;
    is = x.is;
    needed = needed_held;
    tells = x.tells;
    risen = λ cache there. subst (λ (c : Cache). c.validity < h.told) (same_Some x.cache cache (sym here ∙ there)) x.above;
  }

  -- its cache is to be taken away
  pub reset_held : reset_of h.chosen.name (cache_at h.chosen.name b.boxes) h.told ≡ Some (events.Reset h.chosen.name x.cache.validity h.told)
  reset_held =
      ap (λ (o : Option Cache). reset_of h.chosen.name o h.told) here
      ∙ cond-true (nat_lt x.cache.validity h.told) (Some (events.Reset h.chosen.name x.cache.validity h.told)) None
      (lt-ltb x.cache.validity h.told x.above)

  -- what came
  pub came_held : L.tells_files → (heard : List Response) (f : Hears heard (L.link old).connection (feed_of session)) →
      CameAll (exchanged h.chosen.name (cache_at h.chosen.name b.boxes) (record { selected = x.reply; all = None })) (count_of session)
      (L.link old).sent f.connection.received heard (L.link new) h.chosen.conversation.feed
  came_held t heard f =
      subst (λ (n : List ℕ). CameAll (exchanged n (cache_at n b.boxes) (record { selected = x.reply; all = None })) (count_of session)
      (L.link old).sent f.connection.received heard (L.link new) h.chosen.conversation.feed) (sym same)
      (subst (λ (o : Option Cache). CameAll (exchanged name o (record { selected = x.reply; all = None })) (count_of session)
      (L.link old).sent f.connection.received heard (L.link new) h.chosen.conversation.feed) cached (x.came t heard f))

  -- at a server
  module _ (t : L.tells_server) (stands : StandsKept b (L.clock old)) (fair : AllFair mail played (L.clock old) (L.clock new)) where
    abbrev Asked : Exchange
    Asked = record { asked = select_of name kept; replies = x.reply }

    answered : IsAnsweredOk (selected_in session) (next_tag (count_of session)) Asked (L.clock old) (L.clock new)
    answered =
        let a = x.answered t in
        ends_at name (selected_in session) (next_tag (count_of session)) Asked (L.clock old) a.0 (L.clock new) a.2 a.1

    pub known_held : (made : Clock) (permits : Option Permits) → KnownAt made (L.clock old) permits None p b →
        (L.clock old).now.outside.talk.selected ≡ selected_in session → KnownAt made (L.clock new) h.chosen.permits (Some h) p b
    known_held made permits known selects =
        let there : IsAnsweredOk (selected_in session) (next_tag (count_of session))
        (record { asked = select_of h.chosen.name (cache_at h.chosen.name b.boxes); replies = x.reply }) (L.clock old) (L.clock new) =
        subst (λ (n : List ℕ). IsAnsweredOk (selected_in session) (next_tag (count_of session))
        (record { asked = select_of n (cache_at n b.boxes); replies = x.reply }) (L.clock old) (L.clock new)) (sym same)
        (subst (λ (o : Option Cache). IsAnsweredOk (selected_in session) (next_tag (count_of session))
        (record { asked = select_of name o; replies = x.reply }) (L.clock old) (L.clock new)) cached answered) in
        subst (λ (o : Option Permits). KnownAt made (L.clock new) o (Some h) p b) (sym x.permitted)
        (known_law.holds p b h x.reply (count_of session) permits made (L.clock old) (L.clock new) stands known needed_held fair
        (subst (λ (s : Option (List ℕ)). IsAnsweredOk s (next_tag (count_of session))
        (record { asked = select_of h.chosen.name (cache_at h.chosen.name b.boxes); replies = x.reply }) (L.clock old) (L.clock new)) (sym selects) there)
        x.is)

    -- where it told that there are no messages, the mailbox was read
    pub read_held : (from : Clock) → Grows from (L.clock old) → IsReadHeld h from (L.clock new)
    read_held from before = record {
      reply = x.reply;
      is = x.is;
      reads = λ empty delta tells.
          let a : AnsweredAt (selected_in session) (next_tag (count_of session)) Asked (L.clock old) (L.clock new) =
          answered_at (selected_in session) (next_tag (count_of session)) Asked (L.clock old) (L.clock new) refl answered in
          let comes = without_rows name kept (selected_in session) (next_tag (count_of session)) x.reply (L.clock old) (L.clock new)
          (calm b (L.clock old) stands) stands.none_waits stands.none_arrives
          (selected_stays b (L.clock old) (L.clock new) stands.books
          (answered_through (selected_in session) (next_tag (count_of session)) Asked (L.clock old) (L.clock new) a) fair) empty x.is.accepted a in
          subst (λ (n : List ℕ). IsLastRead n (learned None delta) from (L.clock new)) (sym same)
          (last_earlier name (learned None delta) from (L.clock old) (L.clock new) before
          ((comes.1 delta tells).last stands.none_waits stands.none_arrives));
    }

    pub others_held : (other : List ℕ) → name ≢ other → Since Any (IsNotRead other) (L.clock old) (L.clock new)
    others_held other apart =
        exchanges_other name other apart kept x.reply None (selected_in session) (count_of session) (L.clock old) (L.clock new) stands.none_waits
        stands.none_arrives (x.answered t)
