-- What the player needs is asked of the server: each moment of it is kept, and joined to the one before it, and the player knows the
-- connection behind its reply.
use Rattle.action_queue.specs.Book.{Meaning}
use Rattle.action_queue.specs.Queues.{due_action, tries_due, tries_of}
use Rattle.imap_model.specs.Carrying.{Waiting}
use Rattle.imap_model.specs.Mutating.{is_mutating}
use Rattle.imap_model.specs.declared.command.Command.{Command}
use Rattle.imap_model.specs.declared.replies.Replies.{Replies}
use Rattle.imap_model.specs.declared.server.Server.{Server}
use Rattle.imap_session.specs.Faults.{IsCount}
use Rattle.imap_session.specs.Session.{Answered, waiting_of}
use Rattle.imap_session.specs.declared.permits.Permits.{Permits}
use Rattle.literal_feed.specs.Stream.{Stream}
use Rattle.mail_base.specs.Tags.{try_tag}
use Rattle.mail_base.specs.declared.tag.Tag.{Tag}
use Rattle.action_queue.specs.declared.queued.Queued.{Queued}
use Rattle.play_driver.proofs.Asked.{askable, no_select, question_harmless}
use Rattle.play_driver.proofs.Calls.{sends_stays}
use Rattle.play_driver.proofs.Kept.{kept_books}
use Rattle.play_driver.proofs.KnownLaws.{known_law}
use Rattle.play_driver.proofs.Once.{idle_asks}
use Rattle.play_driver.proofs.Permitting.{fair_permits}
use Rattle.play_driver.proofs.PlayedKept.{withstood}
use Rattle.play_driver.specs.Joining.{AllFair, StaysJoined}
use Rattle.play_driver.specs.KnownAt.{HeardAt, KnownAt, StandsKept}
use Rattle.play_driver.specs.Played.{played}
use Rattle.play_driver.specs.SentOnce.{MayAsk}
use Rattle.play_driver.specs.Turning.{IsAskedFor, permits_due}
use Rattle.playback.proofs.Allowing.{allowed_need}
use Rattle.playback.specs.Allowed.{IsAllowed, IsReply, MaySend, PermitsTruly}
use Rattle.book_laws.specs.Kept.{Kept, KeptBook}
use Rattle.playback.specs.Knows.{IsNeeded, Knows}
use Rattle.playback.specs.Needs.{IsLawfulNeed, due_id, need_of}
use Rattle.book_laws.specs.Of.{IsOf, tag_of}
use Rattle.playback.specs.Worlds.{World, given, name_of}
use Rattle.playback.specs.declared.need.Need.{Need}
use Rattle.playback.specs.declared.player.Player.{Player}
use Rattle.std.proofs.Common.{None, List, Option, Some, ap, inl, inr, refl, subst, sym, ℕ, ◌∙◌, ◌≡◌}
use Rattle.store_core.proofs.MailBook.{one_mail_event}
use Rattle.store_core.specs.Mail.{mail}
use Rattle.store_core.specs.Steps.{Firm}
use Rattle.world_traits.specs.Asking.{Asking}
use Rattle.world_traits.specs.LinkState.{Connection}
use Rattle.world_traits.specs.Links.{Linked}
use Rattle.world_traits.specs.Moments.{Clock}
use Rattle.imap_model.specs.declared.ending.Ending.TheVariants as endings
use Rattle.playback.specs.declared.need.Need.TheVariants as needs

waiting_as : (s t : Option (List ℕ)) (u v : Tag) (c d : Command) → s ≡ t → u ≡ v → c ≡ d → waiting_of s u c ≡ waiting_of t v d
waiting_as s t u v c d e f g = cc

module _ (p : Player) (b : Meaning) (permits : Option Permits) (made old : Clock) (count : ℕ) (tag : Tag) (command : Command) (name : List ℕ)
    (stands : StandsKept b old) (known : KnownAt made old permits None p b) (at : name_of p.selected ≡ Some name)
    (here : old.now.outside.talk.selected ≡ Some name) where
  abbrev W : World
  W = known.world

  abbrev Asks : Waiting
  Asks = waiting_of (Some name) tag command

  kept : KeptBook b W.course.now W.waiting
  kept =
      let k = kept_books mail Kept one_mail_event (Firm (Some b)) old.now stands.kept stands.books in
      subst (λ (s : Server). KeptBook b s W.waiting) (sym known.tells.server)
      (subst (λ (v : Option Waiting). KeptBook b old.now.outside.server v) (sym known.tells.waits) k)

  -- the tag of the action's try
  same_try : (n : ℕ) (q : Queued) → n ≡ due_id b → due_action b.queue ≡ Some q → try_tag n (tries_due b.queue) ≡ tag_of (due_id b) q
  same_try n q number there =
      ap (λ (k : ℕ). try_tag k (tries_due b.queue)) number ∙ ap (λ (o : Option Queued). try_tag (due_id b) (tries_of o)) there

  sends : (n : ℕ) (sent : Command) → command ≡ sent → tag ≡ try_tag n (tries_due b.queue) → (m : MaySend n sent b W) → m.sends ≡ Asks
  sends n sent c t m =
      m.of_tag.is
      ∙ waiting_as (name_of W.selected) (Some name) (tag_of (due_id b) m.of_tag.queued) tag sent command (known.tells.selects ∙ here)
      (sym (same_try n m.of_tag.queued m.of_tag.number m.of_tag.there) ∙ sym t) (sym c)

  may_by : (need : Need) → IsAskedFor need (tries_due b.queue) count tag command → IsLawfulNeed need p b → IsAllowed need p b W →
      MayAsk mail played b old.now.outside.server Asks
  may_by (needs.Select other) is lawful may = absurd is
  may_by (needs.Ask asked) is lawful may = inl (ap is_mutating is.0 ∙ question_harmless asked lawful.0)
  may_by (needs.Commit event) is lawful may = absurd is
  may_by (needs.Settle n outcome) is lawful may = absurd is
  may_by (needs.Withdraw n k) is lawful may = absurd is
  may_by (needs.Send n sent) is lawful may =
      let of = subst (λ (w : Waiting). IsOf b W.course.now w) (sends n sent is.0 is.1 may) may.is_of in
      inr (subst (λ (s : Server). IsOf b s Asks) known.tells.server of)
  may_by needs.Finished is lawful may = absurd is

  needed_by : (need : Need) → IsAskedFor need (tries_due b.queue) count tag command → IsLawfulNeed need p b → IsAllowed need p b W → IsNeeded need Asks p.selected b
  needed_by (needs.Select other) is lawful may = absurd is
  needed_by (needs.Ask asked) is lawful may = record { is = is.0; at = sym at; harmless = question_harmless asked lawful.0 }
  needed_by (needs.Commit event) is lawful may = absurd is
  needed_by (needs.Settle n outcome) is lawful may = absurd is
  needed_by (needs.Withdraw n k) is lawful may = absurd is
  needed_by (needs.Send n sent) is lawful may = record {
    number = may.of_tag.number;
    queued = may.of_tag.queued;
    there = may.of_tag.there;
    is = waiting_as (Some name) (name_of p.selected) tag (tag_of (due_id b) may.of_tag.queued) command sent (sym at)
        (is.1 ∙ same_try n may.of_tag.queued may.of_tag.number may.of_tag.there) is.0;
  }
  needed_by needs.Finished is lawful may = absurd is

  module _ (is : IsAskedFor (need_of p b) (tries_due b.queue) count tag command) (lawful : IsLawfulNeed (need_of p b) p b) (new : Clock)
      (linked : Linked (Asking old.now.outside.talk.told tag command) old new) where
    allowed : IsAllowed (need_of p b) p b W
    allowed = allowed_need p b W kept known.owed known.knows

    may : MayAsk mail played b old.now.outside.server Asks
    may = may_by (need_of p b) is lawful allowed

    pub asked_stays : StaysJoined mail Kept played old new
    asked_stays =
        sends_stays mail one_mail_event Kept played withstood b old.now.outside.talk.told tag command old new stands.books
        (idle_asks mail played b (Some name) tag command old.now.outside stands.none_waits here may) stands.kept linked

    module _ (fair : AllFair mail played old new) (r : Replies) (c : Option Connection) (feed : Stream) (answered : Answered Asks r old new c feed)
        (accepted : IsCount tag → r.ending ≡ endings.Ok) where
      pub asked_heard : HeardAt r made new permits p b
      asked_heard =
          let can = askable (need_of p b) p b (tries_due b.queue) count tag command is lawful in
          known_law.asks p b Asks r permits made old new c feed stands known (sym here) (needed_by (need_of p b) is lawful allowed)
          (no_select command can.asked) may linked fair answered (λ question. accepted (can.counted question))

-- the reply is given to the player
pub heard_known : (p new : Player) (b : Meaning) (permits : Option Permits) (made now : Clock) (r : Replies) (name : List ℕ) →
    now.now.outside.talk.selected ≡ Some name → HeardAt r made now permits p b →
    ((w : World) → KeptBook b w.course.now w.waiting → IsReply r w → PermitsTruly (permits_due permits (due_action b.queue)) b w → Knows p b w →
    Knows new b (given w)) → KnownAt made now permits None new b
heard_known p new b permits made now r name here heard knows = record {
  world = given heard.world;
  tells = record {
    first = heard.tells.first;
    server = heard.tells.server;
    each = heard.tells.each;
    answered = heard.tells.answered;
    waits = heard.tells.waits;
    selects = heard.tells.selects;
  };
  permitted = heard.permitted;
  owed = refl;
  knows = knows heard.world heard.kept heard.reply (fair_permits permits b heard.world name (heard.tells.selects ∙ here) heard.permitted) heard.knows;
}
