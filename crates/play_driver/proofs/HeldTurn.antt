-- A turn in which the reply to a SELECT is held, or was held before: by what its call tells.
use Rattle.action_queue.specs.Book.{Meaning, cache_at}
use Rattle.action_queue.specs.declared.event.Event.{Event}
use Rattle.imap_model.specs.CommandText.{parts_of}
use Rattle.imap_model.specs.declared.command.Command.{Command}
use Rattle.imap_model.specs.declared.replies.Replies.{Replies}
use Rattle.imap_model.specs.declared.response.Response.{Response}
use Rattle.imap_session.specs.Dialogue.{BrokeOff, IsReply, StoodAt, next_tag}
use Rattle.imap_session.specs.Dialogue.Dialogue.{Asks, Ends}
use Rattle.imap_session.specs.Hearing.{Hears}
use Rattle.imap_session.specs.Permanent.{permitted}
use Rattle.imap_session.specs.Knowing.{requests}
use Rattle.imap_session.specs.Replying.{Came}
use Rattle.imap_session.specs.Sent.{joined}
use Rattle.imap_session.specs.Session.{Follows}
use Rattle.imap_session.specs.declared.chosen.Chosen.{Chosen}
use Rattle.imap_session.specs.declared.fault.SessionFault.{SessionFault}
use Rattle.literal_feed.specs.Stream.{Stream}
use Rattle.mail_base.specs.declared.tag.Tag.{Tag}
use Rattle.mailbox_cache.specs.declared.delta.Delta.{Delta}
use Rattle.play_driver.proofs.GatheredTaken.{taken_delta}
use Rattle.play_driver.specs.Exchanges.{CameAll}
use Rattle.play_driver.specs.Faults.{of_session, of_unheard}
use Rattle.play_driver.specs.Holds.{IsHeldReply}
use Rattle.play_driver.specs.Recording.{recorded}
use Rattle.play_driver.specs.Resynchronising.{RowsCame, exchanged, select_of}
use Rattle.play_driver.specs.Sessions.{count_of, feed_of, held_in}
use Rattle.play_driver.specs.Stages.{stage_of}
use Rattle.play_driver.specs.Turning.{RowsCameOf, TurnFails, Turns, standing_of}
use Rattle.play_driver.specs.Turning.TurnFails.{not_fetched, not_taken}
use Rattle.play_driver.specs.Turning.Turns.{fetches, holds, resets}
use Rattle.play_driver.specs.declared.fault.PlayFault.{PlayFault}
use Rattle.play_driver.specs.declared.session.Held.{Held}
use Rattle.play_driver.specs.declared.session.Session.{Session}
use Rattle.playback.specs.Allowed.{WhyNotChosen}
use Rattle.playback.specs.Choosing.{IsChosen, IsChosenFault, reset_of}
use Rattle.playback.specs.Needs.{need_of}
use Rattle.playback.specs.Why.{TellsValidity}
use Rattle.playback.specs.declared.need.Unheard.{Unheard}
use Rattle.playback.specs.declared.player.Player.{Player}
use Rattle.qresync_core.specs.declared.fault.ResyncFault.{ResyncFault}
use Rattle.std.proofs.Common.{List, None, Ok, Result, Some, ap, arith, refl, subst, sym, true, ℕ, ◌+◌, ◌++◌, ◌∙◌, ◌≡◌}
use Rattle.std.proofs.lemmas.List.{take_all}
use Rattle.store_core.specs.Holding.{Holding}
use Rattle.store_core.specs.Mail.{mail}
use Rattle.world_traits.specs.LinkState.{LinkState}
use Rattle.imap_model.specs.declared.command.Command.TheVariants as commands
use Rattle.playback.specs.declared.need.Need.TheVariants as needs
use Rattle.play_driver.specs.declared.session.Session.TheVariants as sessions

-- the whole reply to a question is all that came behind what was heard before
came_so : (had : List ℕ) (heard : List Response) (tag : Tag) (command : Command) (r : Replies) (old new : LinkState) (feed : Stream) (got : List ℕ)
    (lines : List Response) → IsReply had heard tag command r got lines →
    StoodAt (old.sent ++ joined (parts_of tag command)) (had ++ got) (heard ++ lines) new feed → Came heard tag command r old new feed
came_so had heard tag command r old new feed got lines reply stood = record {
  told = reply.told;
  none = reply.none;
  untagged = reply.untagged;
  hears = subst (λ (l : List Response). Hears (heard ++ l) new.connection feed) reply.whole stood.hears;
  sent = stood.sends
      ∙ ap (λ (l : List (List ℕ)). old.sent ++ joined l) (sym (take_all (requests reply.told + 1) (parts_of tag command) (omega (arith, reply.asked))));
  all = λ ok. reply.asked;
}

-- The reply is held.
module _ (link later : LinkState) (session : Session) (h : Held) (s : Holding mail) (p : Player) (resting : held_in session ≡ None)
    (needed : need_of p s.book ≡ needs.Select h.chosen.name) where
  pub holds_turn : (r : Replies) (event : Event) → IsHeldReply h r → TellsValidity h.told r →
      reset_of h.chosen.name (cache_at h.chosen.name s.book.boxes) h.told ≡ Some event → h.chosen.permits ≡ permitted None r →
      h.chosen.conversation.count ≡ count_of session + 1 → (follows : Follows link.connection (feed_of session)) →
      CameAll (exchanged h.chosen.name (cache_at h.chosen.name s.book.boxes) (record { selected = r; all = None })) (count_of session)
      link.sent follows.1.connection.received follows.0 later h.chosen.conversation.feed →
      Turns (standing_of link session s p) (standing_of later (sessions.Held h) s p)
  holds_turn r event is tells reset permits counted follows came =
      holds h r event resting needed
      (record {
        heard = follows.0;
        hears = follows.1;
        came = came_so follows.1.connection.received follows.0 (next_tag (count_of session))
            (select_of h.chosen.name (cache_at h.chosen.name s.book.boxes)) r link later h.chosen.conversation.feed came.0 came.1 came.2 came.3;
        counted = counted;
      }) is tells reset permits refl refl refl refl

-- Its cache is taken away.
module _ (link later : LinkState) (h : Held) (s t : Holding mail) (p : Player) (needed : need_of p s.book ≡ needs.Select h.chosen.name) where
  pub resets_turn : (event : Event) → reset_of h.chosen.name (cache_at h.chosen.name s.book.boxes) h.told ≡ Some event → later ≡ link →
      t ≡ recorded s event → Turns (standing_of link (sessions.Held h) s p) (standing_of later (sessions.Held h) t p)
  resets_turn event reset same is =
      resets h event refl needed reset
      (ap (λ (l : LinkState). standing_of l (sessions.Held h) t p) same ∙ ap (λ (u : Holding mail). standing_of link (sessions.Held h) u p) is)

-- The rows are asked for.
module _ (link later : LinkState) (h : Held) (s : Holding mail) (p : Player) (b : Meaning) (same : b ≡ s.book)
    (needed : need_of p s.book ≡ needs.Select h.chosen.name) where
  -- what came of it
  rows_of : (chosen : Chosen) (told : Result Delta ResyncFault) (follows : Follows link.connection h.chosen.conversation.feed) →
      RowsCame h h.chosen.conversation.count chosen.conversation.count told link.sent follows.1.connection.received follows.0 later chosen.conversation.feed →
      RowsCameOf h told (stage_of link (sessions.Held h)) (stage_of later (sessions.Chosen chosen))
  rows_of chosen told follows came = record { heard = follows.0; hears = follows.1; came = came }

  pub fetches_turn : (chosen : Chosen) (told : Result Delta ResyncFault) (q : Player) → cache_at h.chosen.name s.book.boxes ≡ None →
      (follows : Follows link.connection h.chosen.conversation.feed) →
      RowsCame h h.chosen.conversation.count chosen.conversation.count told link.sent follows.1.connection.received follows.0 later chosen.conversation.feed →
      IsChosen p b told q → chosen.name ≡ h.chosen.name → chosen.permits ≡ h.chosen.permits →
      Turns (standing_of link (sessions.Held h) s p) (standing_of later (sessions.Chosen chosen) s q)
  fetches_turn chosen told q away follows came taken named permits =
      let t = taken_delta p q b told taken in
      fetches h t.0 refl needed away
      (subst (λ (d : Result Delta ResyncFault). RowsCameOf h d (stage_of link (sessions.Held h)) (stage_of later (sessions.Chosen chosen))) t.1
      (rows_of chosen told follows came)) (subst (λ (x : Meaning). IsChosen p x (Ok t.0) q) same t.2) (ap (λ (n : List ℕ). Some n) named) permits refl refl

  -- they aren't taken
  pub rows_not_taken : (chosen : Chosen) (told : Result Delta ResyncFault) (unheard : Unheard) (fault : PlayFault) →
      (follows : Follows link.connection h.chosen.conversation.feed) →
      RowsCame h h.chosen.conversation.count chosen.conversation.count told link.sent follows.1.connection.received follows.0 later chosen.conversation.feed →
      IsChosenFault p b told unheard → WhyNotChosen unheard told p b → fault ≡ of_unheard h.chosen.name unheard →
      TurnFails (standing_of link (sessions.Held h) s p) later fault
  rows_not_taken chosen told unheard fault follows came faulty why is =
      not_taken h told (stage_of later (sessions.Chosen chosen)) unheard refl needed (rows_of chosen told follows came) refl
      (subst (λ (x : Meaning). IsChosenFault p x told unheard) same faulty) (subst (λ (x : Meaning). WhyNotChosen unheard told p x) same why) is

  -- they aren't answered
  pub rows_not_told : (f : SessionFault) (fault : PlayFault) → fault ≡ of_session f → (follows : Follows link.connection h.chosen.conversation.feed) →
      BrokeOff (Asks commands.FetchAll (λ all. Ends true)) h.chosen.conversation.count link.sent follows.1.connection.received follows.0 later f →
      TurnFails (standing_of link (sessions.Held h) s p) later fault
  rows_not_told f fault is follows broke =
      not_fetched h f refl needed is (record { heard = follows.0; hears = follows.1; broke = broke })
