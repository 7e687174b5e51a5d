-- What the player knows behind a record of what it needs: nothing changed at the server meanwhile.
use Rattle.std.proofs.Common.{None, Option, Some, refl, subst, sym, ◌∙◌, ◌≡◌}
use Rattle.action_queue.specs.Book.{Meaning, after}
use Rattle.action_queue.specs.declared.event.Event.{Event}
use Rattle.imap_model.specs.Talking.{Peer}
use Rattle.imap_session.specs.declared.permits.Permits.{Permits as Flags}
use Rattle.journal_core.specs.declared.version.Version.{Version}
use Rattle.play_driver.proofs.KnownWalk.{answered_later, kept_here, kept_told, servers_later, tells_peer}
use Rattle.play_driver.proofs.Parts.{grows}
use Rattle.play_driver.specs.Joining.{Grows}
use Rattle.play_driver.specs.KnownAt.{KnownAt, StandsKept}
use Rattle.playback.proofs.Allowing.{allowed_need}
use Rattle.book_laws.proofs.Entering.{event_keeps}
use Rattle.playback.proofs.Recording.{committed_knows}
use Rattle.playback.specs.Allowed.{IsAllowed, Records}
use Rattle.playback.specs.Choosing.{committed}
use Rattle.book_laws.specs.Kept.{KeptBook}
use Rattle.playback.specs.Needs.{need_of}
use Rattle.book_laws.specs.Permitted.{MayFollow, Permits}
use Rattle.playback.specs.Worlds.{World, name_of}
use Rattle.playback.specs.declared.need.Need.{Need}
use Rattle.playback.specs.declared.player.Player.{Player}
use Rattle.store_core.specs.Books.{HoldsBook}
use Rattle.store_core.specs.Mail.{MayCome, mail, rules_of}
use Rattle.store_core.specs.Taking.{IsTaking, Takes}
use Rattle.world_traits.proofs.Traces.{carried_now}
use Rattle.world_traits.specs.Moments.{Clock, GoesOn, Moment}
use Rattle.playback.specs.declared.need.Need.TheVariants as needs

-- an event that is needed is permitted
pub permitted_by : (p : Player) (b : Meaning) (w : World) (event : Event) (need : Need) → IsAllowed need p b w → Records need event →
    Permits (Some b) event w.course.now w.waiting
permitted_by p b w event (needs.Select name) ok is = absurd is
permitted_by p b w event (needs.Ask command) ok is = absurd is
permitted_by p b w event (needs.Commit other) ok is = subst (λ (x : Event). Permits (Some b) x w.course.now w.waiting) (sym is) ok.0
permitted_by p b w event (needs.Settle n outcome) ok is = subst (λ (x : Event). Permits (Some b) x w.course.now w.waiting) (sym is) ok.0
permitted_by p b w event (needs.Withdraw n tries) ok is = subst (λ (x : Event). Permits (Some b) x w.course.now w.waiting) (sym is) ok.0
permitted_by p b w event (needs.Send n command) ok is = absurd is
permitted_by p b w event needs.Finished ok is = absurd is

module _ (p : Player) (b : Meaning) (event : Event) (version : Version) (permits : Option Flags) (made old new : Clock)
    (stands : StandsKept b old) (known : KnownAt made old permits None p b) (records : Records (need_of p b) event) (may : MayCome version (Some b) event)
    (takes : Takes mail (Some b) event old new) where
  abbrev W : World
  W = known.world

  kept : KeptBook b W.course.now W.waiting
  kept = kept_told b W old.now.outside (tells_peer W made old known.tells) (kept_here b old.now stands.kept stands.books)

  abbrev Goes : Moment → Moment → Type 0
  Goes = GoesOn (HoldsBook mail (Some b)) (HoldsBook mail (Some (after b event)))

  follows : MayFollow (Some b) event
  follows = record { version = rules_of version; unbroken = may }

  -- the book behind the event is kept beside the same server
  pub kept_behind : KeptBook (after b event) W.course.now W.waiting
  kept_behind =
      event_keeps b event W.course.now W.waiting kept follows
      (permitted_by p b W event (need_of p b) (allowed_need p b W kept known.owed known.knows) records)

  same : new.now.outside ≡ old.now.outside
  same =
      carried_now (IsTaking mail (Some b) event) (λ m. m.outside ≡ old.now.outside) Goes (λ m n p s before. s.outside ∙ before) old refl new
      takes

  time : Grows old new
  time = grows (IsTaking mail (Some b) event) Goes old new takes

  pub known_recorded : KnownAt made new permits None (committed p (after b event)) (after b event)
  known_recorded = record {
    world = W;
    tells = record {
      first = known.tells.first;
      server = subst (λ (q : Peer). W.course.now ≡ q.server) (sym same) known.tells.server;
      each = servers_later W made old new time known.tells.each;
      answered = answered_later W.course.said made old new time known.tells.answered;
      waits = subst (λ (q : Peer). W.waiting ≡ q.waiting) (sym same) known.tells.waits;
      selects = subst (λ (q : Peer). name_of W.selected ≡ q.talk.selected) (sym same) known.tells.selects;
    };
    permitted = known.permitted;
    owed = known.owed;
    knows = committed_knows p b (after b event) W event refl records kept kept_behind known.owed known.knows;
  }
