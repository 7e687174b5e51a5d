-- What a resynchronisation told is moved out into its event: the player goes on as behind the record of it.
use Rattle.action_queue.specs.Book.{Meaning, after, cache_at, learned}
use Rattle.action_queue.specs.Queues.{due_action}
use Rattle.action_queue.specs.declared.event.Event.{Event}
use Rattle.playback.proofs.Committing.{committed_falls}
use Rattle.playback.proofs.Onward.{learns_need}
use Rattle.playback.proofs.Recording.{behind_beside, behind_entered, behind_knows, put_length}
use Rattle.playback.specs.Allowed.{Records}
use Rattle.playback.specs.Choosing.{IsEntered, committed, counted, told_after}
use Rattle.book_laws.specs.Kept.{KeptBook}
use Rattle.playback.specs.Knows.{Knows}
use Rattle.playback.specs.Left.{left}
use Rattle.playback.specs.Needs.{IsBeside, need_learn, need_of}
use Rattle.book_laws.specs.Sound.{IsSound}
use Rattle.playback.specs.Worlds.{World}
use Rattle.playback.specs.declared.finding.Resynced.{Resynced}
use Rattle.playback.specs.declared.need.Need.{Need}
use Rattle.playback.specs.declared.player.Player.{Player}
use Rattle.std.proofs.Common.{None, Option, Some, ap, refl, subst, sym, ℕ, ◌<◌, ◌∙◌, ◌≡◌}
use Rattle.std.specs.Option.{is_some}
use Rattle.std.specs.Prelude.{◌&&◌}
use Rattle.action_queue.specs.declared.event.Event.TheVariants as events
use Rattle.playback.specs.declared.need.Need.TheVariants as needs

-- the event is that of what was told
record IsMovedOut (waits : Option Resynced) (event : Event) : Type 0 where
  pub told : Resynced
  pub learns : waits ≡ Some told
  pub is : event ≡ events.Learn told.name told.delta

moved_out : (learns : Option Resynced) (event : Event) → need_learn learns ≡ needs.Commit event → IsMovedOut learns event
moved_out None event e = absurd (subst (λ (need : Need). Records need event) (sym e) refl)
moved_out (Some told) event e =
    record { told = told; learns = refl; is = subst (λ (need : Need). Records need event) (sym e) refl }

-- A record of what was told changes the caches alone, and not how many mailboxes there are.
committed_as : (p : Player) (b : Meaning) (told : Resynced) →
    committed p b ≡ committed p (after b (events.Learn told.name told.delta))
committed_as p b told =
    ap (λ (boxes : ℕ). record p {
      told = told_after p.learns p.told;
      resumed = p.resumed && is_some b.pending;
      learns = None;
      resynced = counted p.learns (due_action b.queue) boxes p.resynced;
    }) (sym (put_length told.name (Some (learned (cache_at told.name b.boxes) told.delta)) b.boxes))

module _ (p q : Player) (b : Meaning) (event : Event) (needed : need_learn p.learns ≡ needs.Commit event) (goes : q ≡ committed p b) where
  out : IsMovedOut p.learns event
  out = moved_out p.learns event needed

  -- it is what is needed
  pub learn_needed : need_of p b ≡ needs.Commit event
  learn_needed = learns_need p b out.told out.learns ∙ ap needs.Commit (sym out.is)

  records : Records (need_of p b) event
  records = subst (λ (need : Need). Records need event) (sym learn_needed) refl

  pub learn_goes : q ≡ committed p (after b event)
  learn_goes = goes ∙ committed_as p b out.told ∙ ap (λ (e : Event). committed p (after b e)) (sym out.is)

  pub learn_beside : IsBeside p b → IsBeside q (after b event)
  learn_beside beside = behind_beside p q (after b event) learn_goes b event refl records beside

  pub learn_falls : IsSound b → IsBeside p b → left q (after b event) < left p b
  learn_falls sound beside =
      subst (λ (x : Player). left x (after b event) < left p b) (sym learn_goes)
      (committed_falls p b (after b event) event refl records sound beside)

  pub learn_entered : (entry : Meaning) → IsSound b → IsEntered entry p b → IsEntered entry q (after b event)
  learn_entered entry sound entered = behind_entered p q (after b event) learn_goes entry b event refl records sound entered

  pub learn_knows : (w : World) → KeptBook b w.course.now w.waiting → KeptBook (after b event) w.course.now w.waiting → w.owed ≡ None →
      Knows p b w → Knows q (after b event) w
  learn_knows w kept later owed known = behind_knows p q (after b event) learn_goes b event w refl records kept later owed known
