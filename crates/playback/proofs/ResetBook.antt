-- What is so of a cache that is taken away, whatever the server did: it may come next, and the player needs what it needed.
use Rattle.action_queue.specs.Book.{Meaning, cache_at, cache_of, known_at, put_cache}
use Rattle.action_queue.specs.Queues.{due_action, tries_due}
use Rattle.action_queue.specs.Rules.{is_unknown, is_wrong_reset}
use Rattle.action_queue.specs.declared.book.Known.{Known}
use Rattle.mailbox_cache.specs.declared.cache.Cache.{Cache}
use Rattle.playback.proofs.Ranks.{due_search_any, due_sent_any, ids_any}
use Rattle.playback.proofs.Recording.{next_none, put_length}
use Rattle.playback.proofs.Resetting.{ends_boxes, known_then, right_one, step_same, two}
use Rattle.playback.specs.Choosing.{IsEntered, reset_in, reset_of, wanted, wanted_by}
use Rattle.playback.specs.Left.{left, rank, rank_of, unsettled}
use Rattle.playback.proofs.Trying.{end_any}
use Rattle.playback.specs.Needs.{IsBeside, again, IsNextBox, IsReadyEvent, MayRecord, due_id, need_for, need_learn, need_of}
use Rattle.playback.specs.Steps.{step_learn, step_of}
use Rattle.playback.specs.declared.finding.Resynced.{Resynced}
use Rattle.playback.specs.declared.need.Need.{Need}
use Rattle.playback.specs.declared.player.Player.{Player}
use Rattle.playback.specs.declared.step.Step.{Step}
use Rattle.std.proofs.Common.{Bool, List, None, Option, Some, [], ap, cond, false, length, refl, subst, sym, true, ℕ, ◌*◌, ◌+◌, ◌-◌, ◌<◌, ◌∙◌, ◌∷◌, ◌≡◌, ◌≤◌}
use Rattle.std.proofs.lemmas.Bool.{cond-true, lt-ltb}
use Rattle.std.specs.Prelude.{bytes_eq, nat_lt}
use Rattle.action_queue.specs.declared.event.Event.TheVariants as events
use Rattle.playback.specs.declared.need.Need.TheVariants as needs
use Rattle.action_queue.specs.declared.rule.Version.TheVariants as versions
use Rattle.playback.specs.declared.step.Step.TheVariants as steps

-- it may come next in the book, by the rules of the first version
pub reset_ready : (b : Meaning) (name : List ℕ) (cache : Cache) (kept told : ℕ) → cache_at name b.boxes ≡ Some cache → cache.validity ≡ kept → kept < told →
    IsReadyEvent b (events.Reset name kept told)
reset_ready b name cache kept told there old above = record {
  lawful = record {
    version = versions.Second;
    unbroken = two (is_unknown b.boxes name) (is_wrong_reset (cache_at name b.boxes) kept told) (known_then (known_at name b.boxes) cache there)
        (ap (λ (o : Option Cache). is_wrong_reset o kept told) there ∙ right_one cache kept told old above);
  };
  second = refl;
  writable = tt;
}

-- behind it there is no cache
pub none_cached : (name : List ℕ) (boxes : List Known) → cache_at name (put_cache name None boxes) ≡ None
none_cached name [] = refl
none_cached name (k ∷ ks) = by (bytes_eq k.name name) refl (none_cached name ks)
  where
    by : (here : Bool) → bytes_eq k.name name ≡ here → cache_at name (put_cache name None ks) ≡ None →
        cache_at name (cond here (record k { cache = None } ∷ ks) (k ∷ put_cache name None ks)) ≡ None
    by true h later = ap (λ (x : Bool). cache_of (cond x (Some (record k { cache = None })) (known_at name ks))) h
    by false h later = ap (λ (x : Bool). cache_of (cond x (Some k) (known_at name (put_cache name None ks)))) h ∙ later

-- a mailbox is needed only where nothing is to be recorded
learn_selects : (name : List ℕ) (learns : Option Resynced) → need_learn learns ≡ needs.Select name → learns ≡ None
learn_selects name None e = refl
learn_selects name (Some told) e = absurd (cc)

module _ (p : Player) (b : Meaning) (box name : List ℕ) (needed : need_of p b ≡ needs.Select name) where
  abbrev boxes : List Known
  boxes = put_cache box None b.boxes

  abbrev later : Meaning
  later = record b { boxes = boxes }

  by_learns : (learns : Option Resynced) → p.learns ≡ learns → p.learns ≡ None
  by_learns None e = e
  by_learns (Some told) e =
      let learn : need_of p b ≡ need_learn p.learns = ap (λ (o : Option Resynced). need_for (step_learn p b o) p b) e in
      learn_selects name p.learns (sym learn ∙ needed)

  none : p.learns ≡ None
  none = by_learns p.learns refl

  need_boxes : (step : Step) → need_for step p later ≡ need_for step p b
  need_boxes steps.Learn = refl
  need_boxes (steps.Select at under) = refl
  need_boxes (steps.AskRow uid) = refl
  need_boxes (steps.Search uidnext) = refl
  need_boxes steps.AskIds = refl
  need_boxes (steps.Intend intent) = refl
  need_boxes (steps.Settle outcome) = refl
  need_boxes steps.Send = refl
  need_boxes steps.Finished = refl

  step_is : step_of p later ≡ step_of p b
  step_is = step_same p b box None p.learns

  -- the player needs what it needed
  pub reset_needed : need_of p later ≡ needs.Select name
  reset_needed = need_boxes (step_of p later) ∙ ap (λ (s : Step). need_for s p b) step_is ∙ needed

  pub reset_stays_beside : IsBeside p b → IsBeside p later
  reset_stays_beside beside = record {
    learns = subst (λ (x : Option Resynced). MayRecord x later) (sym none) tt;
    ends = ends_boxes p.told b boxes beside.ends;
    plain = beside.plain;
    fresh = beside.fresh;
    placed = beside.placed;
    within = subst (λ (n : ℕ). p.resynced ≤ n) (sym (put_length box None b.boxes)) beside.within;
    last = beside.last;
    next = subst (λ (x : Option Resynced). IsNextBox (due_action b.queue) x p.resynced boxes) (sym none) (next_none (due_action b.queue) p.resynced boxes);
  }

  rank_at : (c : Meaning) → rank_of p c p.learns ≡ rank (step_of p c)
  rank_at c = ap (λ (o : Option Resynced). rank_of p c o) none

  -- and as much is left
  pub reset_left : left p later ≡ left p b
  reset_left =
      ap (λ (n : ℕ). n + 4 * (2 - tries_due b.queue) + 16 * unsettled b.queue + 16 * (length boxes - p.resynced)) (rank_at later ∙ ap rank step_is ∙ sym (rank_at b))
      ∙ ap (λ (n : ℕ). rank_of p b p.learns + 4 * (2 - tries_due b.queue) + 16 * unsettled b.queue + 16 * (n - p.resynced)) (put_length box None b.boxes)

  pub reset_entered : (entry : Meaning) → IsEntered entry p b → IsEntered entry p later
  reset_entered entry e = record { same = e.same; further = e.further; tries = e.tries; pending = e.pending }

-- ---- the mailbox that is needed is the one that is to be selected

module _ (p : Player) (b : Meaning) (told : ℕ) (name : List ℕ) where
  abbrev NoSelect : Need → Type 0
  NoSelect need = need ≡ needs.Select name → ⊥

  no_select : (learns : Option Resynced) → NoSelect (need_learn learns)
  no_select None e = absurd (cc)
  no_select (Some resynced) e = absurd (cc)

  abbrev name_in : Need → List ℕ
  name_in (needs.Select box) = box
  name_in need = []

  asked_by : (step : Step) → need_for step p b ≡ needs.Select name →
      reset_in b told (wanted_by step) ≡ reset_of name (cache_at name b.boxes) told
  asked_by steps.Learn need = absurd (no_select p.learns need)
  asked_by (steps.Select box under) need = ap (λ (n : List ℕ). reset_of n (cache_at n b.boxes) told) (ap name_in need)
  asked_by (steps.AskRow uid) need = absurd (cc)
  asked_by (steps.Search uidnext) need =
      absurd
      (due_search_any NoSelect (λ n. absurd (cc)) (λ command n. absurd (cc)) (λ number command n. absurd (cc)) uidnext (due_action b.queue) need)
  asked_by steps.AskIds need =
      absurd (ids_any NoSelect (λ n. absurd (cc)) (λ command n. absurd (cc)) (λ number command n. absurd (cc)) p.told need)
  asked_by (steps.Intend intent) need = absurd (cc)
  asked_by (steps.Settle outcome) need =
      absurd (end_any NoSelect (λ n o x. absurd (cc)) (λ n k x. absurd (cc)) (due_id b) outcome (again (tries_due b.queue) outcome) need)
  asked_by steps.Send need =
      absurd
      (due_sent_any NoSelect (λ n. absurd (cc)) (λ command n. absurd (cc)) (λ number command n. absurd (cc)) (due_id b) (due_action b.queue)
      b.pending need)
  asked_by steps.Finished need = absurd (cc)

  pub reset_asked : need_of p b ≡ needs.Select name → reset_in b told (wanted p b) ≡ reset_of name (cache_at name b.boxes) told
  reset_asked needed = asked_by (step_of p b) needed

-- where the UIDVALIDITY of a cache is below the one that was told, it is to be taken away
pub reset_none : (name : List ℕ) (kept : Option Cache) (told : ℕ) → reset_of name kept told ≡ None →
    ((cache : Cache) → kept ≡ Some cache → cache.validity < told) → kept ≡ None
reset_none name None told none below = refl
reset_none name (Some cache) told none below =
    let taken : reset_of name (Some cache) told ≡ Some (events.Reset name cache.validity told) =
    cond-true (nat_lt cache.validity told) (Some (events.Reset name cache.validity told)) None (lt-ltb cache.validity told (below cache refl)) in
    let e : Some (events.Reset name cache.validity told) ≡ None = sym taken ∙ none in
    absurd (cc)
