-- What the player makes of what was told of the mailbox that it needs.
use Rattle.action_queue.specs.Book.{Meaning, cache_at}
use Rattle.action_queue.specs.Queues.{due_action, tries_due}
use Rattle.action_queue.specs.Writable.{HaveFewFlags}
use Rattle.imap_model.specs.declared.response.Response.{Response}
use Rattle.imap_session.specs.Dialogue.{BrokeOff}
use Rattle.imap_session.specs.Dialogue.Dialogue.{Ends}
use Rattle.imap_session.specs.Hearing.{Hears}
use Rattle.imap_session.specs.declared.fault.SessionFault.{SessionFault}
use Rattle.imap_session.specs.declared.permits.Permits.{Permits}
use Rattle.mailbox_cache.specs.declared.cache.Cache.{Cache}
use Rattle.mailbox_cache.specs.declared.delta.Delta.{Delta}
use Rattle.imap_session.specs.Session.{Follows}
use Rattle.play_driver.specs.Turning.TurnFails.{not_chosen, not_told}
use Rattle.play_driver.specs.Faults.{of_session, of_unheard}
use Rattle.action_queue.specs.declared.outcome.Outcome.{Outcome}
use Rattle.playback.specs.declared.step.Step.{Step}
use Rattle.play_driver.specs.Resynchronising.{DeltaCame, IsLearnable, resync}
use Rattle.play_driver.specs.Sessions.{count_of, feed_of, held_in}
use Rattle.play_driver.specs.Stages.{Broke, DeltaCameOf, Stage, stage_of}
use Rattle.play_driver.specs.Turning.{TurnFails, standing_of}
use Rattle.play_driver.specs.declared.fault.PlayFault.{PlayFault}
use Rattle.play_driver.specs.declared.session.Session.{Session}
use Rattle.playback.proofs.Ranks.{due_search_any, due_sent_any, ids_any}
use Rattle.playback.specs.Allowed.{WhyNotChosen}
use Rattle.playback.specs.Choosing.{FitsWanted, IsChosen, IsChosenFault, WantedBox, chosen_box, chosen_in, wanted, wanted_by}
use Rattle.playback.specs.Needs.{again, due_id, need_end, need_for, need_learn, need_of}
use Rattle.playback.specs.Steps.{step_learn, step_of}
use Rattle.playback.specs.Worlds.{name_of}
use Rattle.playback.specs.declared.finding.Resynced.{Resynced}
use Rattle.playback.specs.declared.need.Need.{Need}
use Rattle.playback.specs.declared.need.Unheard.{Unheard}
use Rattle.playback.specs.declared.player.Player.{Player}
use Rattle.qresync_core.specs.Fitting.{Fits}
use Rattle.qresync_core.specs.declared.fault.ResyncFault.{ResyncFault}
use Rattle.std.proofs.Common.{Err, IfOk, List, None, Ok, Option, Result, Some, [], ap, refl, subst, sym, true, ℕ, ◌∙◌, ◌≡◌}
use Rattle.store_core.specs.Holding.{Holding}
use Rattle.store_core.specs.Mail.{mail}
use Rattle.world_traits.specs.LinkState.{LinkState}
use Rattle.action_queue.specs.declared.event.Event.TheVariants as events
use Rattle.playback.specs.declared.need.Need.TheVariants as needs
use Rattle.playback.specs.declared.step.Step.TheVariants as steps

-- the mailbox that is needed
abbrev name_in : Need → List ℕ
name_in (needs.Select name) = name
name_in need = []

-- what may be learned of the cache fits what the player needs
pub fits_wanted : (p : Player) (b : Meaning) (name : List ℕ) (kept : Option Cache) → need_of p b ≡ needs.Select name → kept ≡ cache_at name b.boxes →
    (told : Result Delta ResyncFault) → IfOk told (IsLearnable kept) → FitsWanted p b told
fits_wanted p b name kept needed same (Err fault) learnable = tt
fits_wanted p b name kept needed same (Ok delta) learnable = λ other is.
    let one : name ≡ other = ap name_in (sym needed ∙ is) in
    subst (λ (n : List ℕ). Fits (cache_at n b.boxes) delta × HaveFewFlags delta.rows) one
    (subst (λ (o : Option Cache). Fits o delta) same learnable.fits, learnable.few)

-- what was taken is a delta
pub taken_delta : (p new : Player) (b : Meaning) (told : Result Delta ResyncFault) → IsChosen p b told new →
    (delta : Delta) × (told ≡ Ok delta) × IsChosen p b (Ok delta) new
taken_delta p new b (Ok delta) chosen = (delta, refl, chosen)
taken_delta p new b (Err fault) chosen = absurd chosen

-- a mailbox is needed only where nothing is to be recorded
pub selects_none : (p : Player) (b : Meaning) (name : List ℕ) → need_of p b ≡ needs.Select name → p.learns ≡ None
selects_none p b name needed = by p.learns refl
  where
    by : (learns : Option Resynced) → p.learns ≡ learns → p.learns ≡ None
    by None is = is
    by (Some told) is =
        let learn : need_of p b ≡ needs.Commit (events.Learn told.name told.delta) =
        ap (λ (o : Option Resynced). need_for (step_learn p b o) p b) is ∙ ap need_learn is in
        let other : needs.Commit (events.Learn told.name told.delta) ≡ needs.Select name = sym learn ∙ needed in
        absurd cc

-- this mailbox is selected, and its delta is to be recorded
pub record HasTaken (name : List ℕ) (delta : Delta) (new : Player) : Type 0 where
  pub selected : name_of new.selected ≡ Some name
  pub learns : new.learns ≡ Some (record { name = name; delta = delta })

module _ (p : Player) (b : Meaning) (delta : Delta) (name : List ℕ) where
  abbrev NoSelect : Need → Type 0
  NoSelect need = need ≡ needs.Select name → ⊥

  learn_selects : (learns : Option Resynced) → NoSelect (need_learn learns)
  learn_selects None e = absurd cc
  learn_selects (Some told) e = absurd cc

  end_selects : (outcome : Outcome) (o : Option ℕ) → NoSelect (need_end (due_id b) outcome o)
  end_selects outcome None e = absurd cc
  end_selects outcome (Some tries) e = absurd cc

  by_step : (step : Step) → need_for step p b ≡ needs.Select name → HasTaken name delta (chosen_in p b delta (wanted_by step))
  by_step steps.Learn need = absurd (learn_selects p.learns need)
  by_step (steps.Select box under) need =
      subst (λ (n : List ℕ). HasTaken n delta (chosen_box p b delta box)) (ap name_in need) (record { selected = refl; learns = refl })
  by_step (steps.AskRow uid) need = absurd cc
  by_step (steps.Search uidnext) need =
      absurd
      (due_search_any NoSelect (λ n. absurd cc) (λ command n. absurd cc) (λ number command n. absurd cc) uidnext (due_action b.queue) need)
  by_step steps.AskIds need = absurd (ids_any NoSelect (λ n. absurd cc) (λ command n. absurd cc) (λ number command n. absurd cc) p.told need)
  by_step (steps.Intend intent) need = absurd cc
  by_step (steps.Settle outcome) need = absurd (end_selects outcome (again (tries_due b.queue) outcome) need)
  by_step steps.Send need =
      absurd
      (due_sent_any NoSelect (λ n. absurd cc) (λ command n. absurd cc) (λ number command n. absurd cc) (due_id b) (due_action b.queue) b.pending need)
  by_step steps.Finished need = absurd cc

  pub chosen_takes : (new : Player) → need_of p b ≡ needs.Select name → IsChosen p b (Ok delta) new → HasTaken name delta new
  chosen_takes new needed chosen = subst (λ (x : Player). HasTaken name delta x) (sym chosen.1) (by_step (step_of p b) needed)

-- of what was known before, this stays
pub record KeepsRest (p new : Player) : Type 0 where
  pub resumed : new.resumed ≡ p.resumed
  pub resynced : new.resynced ≡ p.resynced

keeps_in : (p : Player) (b : Meaning) (delta : Delta) (box : Option WantedBox) → KeepsRest p (chosen_in p b delta box)
keeps_in p b delta None = record { resumed = refl; resynced = refl }
keeps_in p b delta (Some box) = record { resumed = refl; resynced = refl }

pub chosen_keeps : (p new : Player) (b : Meaning) (told : Result Delta ResyncFault) → IsChosen p b told new → KeepsRest p new
chosen_keeps p new b (Ok delta) chosen = subst (λ (x : Player). KeepsRest p x) (sym chosen.1) (keeps_in p b delta (wanted p b))
chosen_keeps p new b (Err fault) chosen = absurd chosen

-- What came, of a cache that is this one, up to a stage.
module _ (name : List ℕ) (kept known : Option Cache) (same_cache : kept ≡ known) (p q : Stage) (follows : Follows p.link.connection p.feed)
    (told : Result Delta ResyncFault) (permits : Option Permits)
    (came : (heard : List Response) → (h : Hears heard p.link.connection p.feed) →
    DeltaCame p.count q.count name kept told permits p.link.sent h.connection.received heard q.link q.feed) where
  pub came_of : DeltaCameOf name known told permits p q
  came_of = subst (λ (k : Option Cache). DeltaCameOf name k told permits p q) same_cache
      (record { heard = follows.0; hears = follows.1; came = came follows.0 follows.1 })

  pub came_chosen : (player new : Player) (b : Meaning) → IsChosen player b told new →
      (delta : Delta) × DeltaCameOf name known (Ok delta) permits p q × IsChosen player b (Ok delta) new
  came_chosen player new b chosen =
      let t = taken_delta player new b told chosen in
      (t.0, subst (λ (d : Result Delta ResyncFault). DeltaCameOf name known d permits p q) t.1 came_of, t.2)

-- the fault that is told is this one
pub refused_as : {T : Type 0} (f fault now : PlayFault) → ◌≡◌ {A = Result T PlayFault} (Err f) (Err fault) → f ≡ now → fault ≡ now
refused_as f fault now is same = cc

-- Why the turn fails.
module _ (link : LinkState) (session : Session) (store : Holding mail) (player : Player) (b : Meaning) (same_book : store.book ≡ b)
    (name : List ℕ) (kept : Option Cache) (same_cache : kept ≡ cache_at name b.boxes) (needed : need_of player b ≡ needs.Select name)
    (resting : held_in session ≡ None) (follows : Follows link.connection (feed_of session)) where
  needed_there : need_of player store.book ≡ needs.Select name
  needed_there = subst (λ (x : Meaning). need_of player x ≡ needs.Select name) (sym same_book) needed

  kept_there : kept ≡ cache_at name store.book.boxes
  kept_there = same_cache ∙ ap (λ (x : Meaning). cache_at name x.boxes) (sym same_book)

  -- a question wasn't answered
  pub not_asked : (now : LinkState) (f : SessionFault) (fault : PlayFault) → fault ≡ of_session f →
      ((heard : List Response) → (h : Hears heard link.connection (feed_of session)) →
      BrokeOff (resync name kept (Ends true)) (count_of session) link.sent h.connection.received heard now f) →
      TurnFails (standing_of link session store player) now fault
  not_asked now f fault is why =
      not_told name f resting needed_there is
      (subst (λ (k : Option Cache). Broke (resync name k (Ends true)) (stage_of link session) now f) kept_there
      (record { heard = follows.0; hears = follows.1; broke = why follows.0 follows.1 }))

  -- what was told isn't taken
  pub not_taken : (q : Stage) (told : Result Delta ResyncFault) (permits : Option Permits) (unheard : Unheard) (fault : PlayFault) →
      ((heard : List Response) → (h : Hears heard link.connection (feed_of session)) →
      DeltaCame (count_of session) q.count name kept told permits link.sent h.connection.received heard q.link q.feed) →
      IsChosenFault player b told unheard → WhyNotChosen unheard told player b → fault ≡ of_unheard name unheard →
      TurnFails (standing_of link session store player) q.link fault
  not_taken q told permits unheard fault came refused why is =
      not_chosen name told permits unheard resting needed_there
      (record { last = q; here = refl; came = came_of name kept _ kept_there (stage_of link session) q follows told permits came })
      (subst (λ (x : Meaning). IsChosenFault player x told unheard) (sym same_book) refused)
      (subst (λ (x : Meaning). WhyNotChosen unheard told player x) (sym same_book) why) is
