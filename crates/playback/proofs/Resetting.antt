-- A cache is taken away behind a SELECT that told a greater UIDVALIDITY, while its reply is owed still.
use Rattle.action_queue.specs.Book.{Meaning, after, cache_at, cache_of, known_at, put_cache}
use Rattle.action_queue.specs.Events.{IsLawful}
use Rattle.action_queue.specs.Queues.{due, due_action, tries_due}
use Rattle.action_queue.specs.Rules.{comes_before_intent, first_broken, fits, fits_append, fits_flag, fits_move, is_early, is_misfit, is_misplaced}
use Rattle.action_queue.specs.Rules.{is_unknown, is_wrong_reset, rests_on_intent}
use Rattle.action_queue.specs.declared.action.Action.{Action}
use Rattle.action_queue.specs.declared.book.Known.{Known}
use Rattle.action_queue.specs.declared.event.Event.{Event}
use Rattle.action_queue.specs.declared.outcome.Kind.{Kind}
use Rattle.action_queue.specs.declared.outcome.Outcome.{Outcome}
use Rattle.action_queue.specs.declared.queued.Queued.{Queued}
use Rattle.action_queue.specs.declared.rule.Version.{Version}
use Rattle.action_queue.specs.declared.target.Target.{Target}
use Rattle.append_probe.specs.declared.verdict.Verdict.{Verdict}
use Rattle.imap_model.specs.Carrying.{Waiting}
use Rattle.imap_model.specs.Mutating.{is_mutating}
use Rattle.imap_model.specs.declared.command.Command.{Command}
use Rattle.imap_model.specs.declared.ending.Ending.{Ending}
use Rattle.imap_model.specs.declared.server.Server.{Server}
use Rattle.mailbox_cache.specs.declared.cache.Cache.{Cache}
use Rattle.book_laws.proofs.Entering.{book_keeps, still_cached}
use Rattle.playback.proofs.Gathering.{IsAsked, IsSameSaid, came_asked, chooses, no_all, same_said, select_no_all}
use Rattle.playback.proofs.Purposes.{ChoosesBox, purpose_of}
use Rattle.playback.proofs.Recording.{append_boxes, next_none, put_length, was_boxes, why_boxes}
use Rattle.playback.specs.Allowed.{WhyCommit}
use Rattle.playback.specs.Choosing.{reset_of}
use Rattle.playback.specs.Course.{Course, IsAmong, Said}
use Rattle.book_laws.specs.Fresh.{IsRenewed}
use Rattle.playback.specs.Games.{IsReset}
use Rattle.book_laws.specs.InBox.{InBox}
use Rattle.book_laws.specs.Kept.{KeptBook}
use Rattle.playback.specs.Knows.{Came, Covered, HasCome, Holds, HoldsVerdict, IsNeeded, IsProbed, IsQuiet, IsTold, Knows, ReplyIsOwed}
use Rattle.playback.specs.Knows.{Learning, MayReset, OfPut, RowTold}
use Rattle.playback.specs.Needs.{IsBeside, IsNextBox, IsReadyEvent, MayEnd, MayRecord, again, due_id, end_of, need_for, need_of}
use Rattle.book_laws.specs.Open.{PutFacts}
use Rattle.playback.specs.Steps.{step_action, step_box, step_due, step_learn}
use Rattle.playback.specs.Why.{NoRow, TellsNext, WasSelected}
use Rattle.playback.specs.Worlds.{IsUnder, World, selected_after, selected_by, selected_on}
use Rattle.playback.specs.declared.finding.Finding.{Finding}
use Rattle.playback.specs.declared.finding.Resynced.{Resynced}
use Rattle.playback.specs.declared.player.Player.{Player}
use Rattle.playback.specs.declared.step.Step.{Step}
use Rattle.qresync_core.specs.declared.codes.Codes.{Codes}
use Rattle.qresync_core.specs.declared.fault.CodeFault.{CodeFault}
use Rattle.std.proofs.Common.{Bool, List, None, Option, Result, Some, [], ap, arith, cond, false, inl, not, refl, subst, suc, sym, true, zero, ℕ}
use Rattle.std.proofs.Common.{◌+◌, ◌<◌, ◌∙◌, ◌∷◌, ◌≡◌, ◌≢◌, ◌≤◌}
use Rattle.std.proofs.lemmas.Bool.{cond_both, eq-eqb, lt-leb, ltb-true}
use Rattle.std.proofs.lemmas.Option.{none-some, same_Some}
use Rattle.std.specs.Prelude.{bytes_eq, is_none, is_some, nat_le, nat_lt, slice_get, ◌&&◌, ◌==◌, ◌||◌}
use Rattle.action_queue.specs.declared.action.Action.TheVariants as actions
use Rattle.action_queue.specs.declared.event.Event.TheVariants as events
use Rattle.playback.specs.declared.finding.Finding.TheVariants as findings
use Rattle.imap_model.specs.declared.command.Command.TheVariants as commands
use Rattle.action_queue.specs.declared.outcome.Kind.TheVariants as kinds
use Rattle.action_queue.specs.declared.outcome.Outcome.TheVariants as outcomes
use Rattle.action_queue.specs.declared.rule.Rule.TheVariants as rule
use Rattle.action_queue.specs.declared.rule.Version.TheVariants as versions
use Rattle.playback.specs.declared.step.Step.TheVariants as steps
use Rattle.append_probe.specs.declared.verdict.Verdict.TheVariants as verdicts

-- what `outdated` answers: the cache's UIDVALIDITY is below the one that was told
pub record IsResetOf (name : List ℕ) (kept : Option Cache) (told : ℕ) (event : Event) : Type 0 where
  pub cache : Cache
  pub there : kept ≡ Some cache
  pub is : event ≡ events.Reset name cache.validity told
  pub above : cache.validity < told

pub reset_told : (name : List ℕ) (kept : Option Cache) (told : ℕ) (event : Event) → reset_of name kept told ≡ Some event →
    IsResetOf name kept told event
reset_told name None told event = λ e. absurd (none-some event e)
reset_told name (Some cache) told event =
    cond_both (nat_lt cache.validity told) (Some (events.Reset name cache.validity told)) None
    (λ (o : Option Event). o ≡ Some event → IsResetOf name (Some cache) told event)
    (λ t e. record {
      cache = cache;
      there = refl;
      is = sym (same_Some (events.Reset name cache.validity told) event e);
      above = ltb-true cache.validity told t;
    })
    (λ f e. absurd (none-some event e))

-- how the action that is due may end doesn't depend on the caches
flag_same : (b : Meaning) (boxes : List Known) (target : Target) (kind : Kind) → fits_flag (record b { boxes = boxes }) target kind ≡ fits_flag b target kind
flag_same b boxes target kinds.MessageGone = refl
flag_same b boxes target kinds.AlreadySo = refl
flag_same b boxes target (kinds.FlagsChanged m) = refl
flag_same b boxes target kinds.RefusedNo = refl
flag_same b boxes target kinds.RefusedBad = refl
flag_same b boxes target kinds.NotPermanent = refl
flag_same b boxes target (kinds.TargetUnknown k) = refl
flag_same b boxes target kinds.FoundSo = refl
flag_same b boxes target (kinds.StoreUnsure m f) = refl
flag_same b boxes target kinds.SourceGone = refl
flag_same b boxes target kinds.GoneAfterLoss = refl
flag_same b boxes target (kinds.Ambiguous u v) = refl
flag_same b boxes target (kinds.ValidityChanged o n) = refl
flag_same b boxes target (kinds.ResetAfterLoss o n) = refl

move_same : (b : Meaning) (boxes : List Known) (target : Target) (kind : Kind) → fits_move (record b { boxes = boxes }) target kind ≡ fits_move b target kind
move_same b boxes target kinds.MessageGone = refl
move_same b boxes target kinds.AlreadySo = refl
move_same b boxes target (kinds.FlagsChanged m) = refl
move_same b boxes target kinds.RefusedNo = refl
move_same b boxes target kinds.RefusedBad = refl
move_same b boxes target kinds.NotPermanent = refl
move_same b boxes target (kinds.TargetUnknown k) = refl
move_same b boxes target kinds.FoundSo = refl
move_same b boxes target (kinds.StoreUnsure m f) = refl
move_same b boxes target kinds.SourceGone = refl
move_same b boxes target kinds.GoneAfterLoss = refl
move_same b boxes target (kinds.Ambiguous u v) = refl
move_same b boxes target (kinds.ValidityChanged o n) = refl
move_same b boxes target (kinds.ResetAfterLoss o n) = refl

append_same : (b : Meaning) (boxes : List Known) (kind : Kind) → fits_append (record b { boxes = boxes }) kind ≡ fits_append b kind
append_same b boxes kinds.MessageGone = refl
append_same b boxes kinds.AlreadySo = refl
append_same b boxes (kinds.FlagsChanged m) = refl
append_same b boxes kinds.RefusedNo = refl
append_same b boxes kinds.RefusedBad = refl
append_same b boxes kinds.NotPermanent = refl
append_same b boxes (kinds.TargetUnknown k) = refl
append_same b boxes kinds.FoundSo = refl
append_same b boxes (kinds.StoreUnsure m f) = refl
append_same b boxes kinds.SourceGone = refl
append_same b boxes kinds.GoneAfterLoss = refl
append_same b boxes (kinds.Ambiguous u v) = refl
append_same b boxes (kinds.ValidityChanged o n) = refl
append_same b boxes (kinds.ResetAfterLoss o n) = refl

fits_same : (b : Meaning) (boxes : List Known) (action : Action) (kind : Kind) → fits (record b { boxes = boxes }) action kind ≡ fits b action kind
fits_same b boxes (actions.Flag target add flags) kind = flag_same b boxes target kind
fits_same b boxes (actions.Move target to) kind = move_same b boxes target kind
fits_same b boxes (actions.Append to flags text id) kind = append_same b boxes kind

misfit_same : (b : Meaning) (boxes : List Known) (o : Option Queued) (outcome : Outcome) →
    is_misfit (record b { boxes = boxes }) o outcome ≡ is_misfit b o outcome
misfit_same b boxes None outcome = refl
misfit_same b boxes (Some q) (outcomes.Done place) = refl
misfit_same b boxes (Some q) (outcomes.Conflict kind) = ap not (fits_same b boxes q.action kind)

settle_same : (version : Version) (b : Meaning) (boxes : List Known) (id : ℕ) (outcome : Outcome) →
    first_broken version (record b { boxes = boxes }) (events.Settle id outcome) ≡ first_broken version b (events.Settle id outcome)
settle_same version b boxes id outcome =
    ap (λ (m : Bool). cond (is_none (due_action b.queue)) (Some rule.NothingWaiting) (cond (not (id == due b.queue + 1)) (Some rule.WrongAction)
    (cond (is_none b.pending && rests_on_intent outcome) (Some rule.NeedsIntent)
    (cond (is_some b.pending && comes_before_intent outcome) (Some rule.NoIntentDue)
    (cond (is_misplaced (due_action b.queue) outcome) (Some rule.WrongPlace)
    (cond (m || is_early version (due_action b.queue) outcome) (Some rule.WrongKind) None))))))
    (misfit_same b boxes (due_action b.queue) outcome)

tried_same : (version : Version) (b : Meaning) (boxes : List Known) (id tries : ℕ) →
    first_broken version (record b { boxes = boxes }) (events.Withdraw id tries) ≡ first_broken version b (events.Withdraw id tries)
tried_same versions.First b boxes id tries = refl
tried_same versions.Second b boxes id tries = refl

end_boxes : (b : Meaning) (boxes : List Known) (outcome : Outcome) (o : Option ℕ) → IsReadyEvent b (end_of (due_id b) outcome o) →
    IsReadyEvent (record b { boxes = boxes }) (end_of (due_id b) outcome o)
end_boxes b boxes outcome None m = record {
  lawful = record {
    version = m.lawful.version;
    unbroken = settle_same m.lawful.version b boxes (due_id b) outcome ∙ m.lawful.unbroken;
  };
  second = m.second;
  writable = m.writable;
}
end_boxes b boxes outcome (Some tries) m = record {
  lawful = record { version = m.lawful.version; unbroken = tried_same m.lawful.version b boxes (due_id b) tries ∙ m.lawful.unbroken };
  second = m.second;
  writable = m.writable;
}

pub ends_boxes : (told : Finding) (b : Meaning) (boxes : List Known) → MayEnd told b → MayEnd told (record b { boxes = boxes })
ends_boxes findings.Nothing b boxes m = tt
ends_boxes findings.NoRow b boxes m = tt
ends_boxes (findings.Row modseq so) b boxes m = tt
ends_boxes findings.Barred b boxes m = tt
ends_boxes (findings.Ended outcome) b boxes m = end_boxes b boxes outcome (again (tries_due b.queue) outcome) m
ends_boxes (findings.Next validity uidnext) b boxes m = tt
ends_boxes (findings.Candidates uids) b boxes m = tt
ends_boxes (findings.Probed verdict) b boxes m = tt

-- nor does what was told, or what follows from it
put_boxes : (P : List ℕ → List ℕ → ℕ → ℕ → Type 0) (b : Meaning) (boxes : List Known) → OfPut P b → OfPut P (record b { boxes = boxes })
put_boxes P b boxes x = record {
  append = record {
    queued = x.append.queued;
    there = x.append.there;
    to = x.append.to;
    flags = x.append.flags;
    text = x.append.text;
    id = x.append.id;
    action = x.append.action;
    holds = tt;
  };
  validity = x.validity;
  uidnext = x.uidnext;
  pending = x.pending;
  holds = x.holds;
}

probed_boxes : (verdict : Verdict) (b : Meaning) (boxes : List Known) (c : Course) → IsProbed verdict b c → IsProbed verdict (record b { boxes = boxes }) c
probed_boxes verdicts.NotThere b boxes c i = tt
probed_boxes (verdicts.There uid) b boxes c i = tt
probed_boxes (verdicts.Several first second) b boxes c i = put_boxes _ b boxes i

told_boxes : (told : Finding) (b : Meaning) (boxes : List Known) (c : Course) → IsTold told b c → IsTold told (record b { boxes = boxes }) c
told_boxes findings.Nothing b boxes c i = tt
told_boxes findings.NoRow b boxes c i = was_boxes NoRow b boxes c i
told_boxes (findings.Row modseq so) b boxes c i = was_boxes (RowTold modseq so) b boxes c i
told_boxes findings.Barred b boxes c i = record { queued = i.queued; there = i.there; holds = i.holds }
told_boxes (findings.Ended outcome) b boxes c i = tt
told_boxes (findings.Next validity uidnext) b boxes c i = append_boxes (λ to id. WasSelected to (TellsNext validity uidnext) c) b boxes i
told_boxes (findings.Candidates uids) b boxes c i = tt
told_boxes (findings.Probed verdict) b boxes c i = probed_boxes verdict b boxes c i

verdict_boxes : (verdict : Verdict) (b : Meaning) (boxes : List Known) (s : Server) → HoldsVerdict verdict b s →
    HoldsVerdict verdict (record b { boxes = boxes }) s
verdict_boxes verdicts.NotThere b boxes s h = h
verdict_boxes (verdicts.There uid) b boxes s h = put_boxes _ b boxes h
verdict_boxes (verdicts.Several first second) b boxes s h = tt

holds_boxes : (told : Finding) (b : Meaning) (boxes : List Known) (s : Server) → Holds told b s → Holds told (record b { boxes = boxes }) s
holds_boxes findings.Nothing b boxes s h = tt
holds_boxes findings.NoRow b boxes s h = tt
holds_boxes (findings.Row modseq so) b boxes s h = tt
holds_boxes findings.Barred b boxes s h = tt
holds_boxes (findings.Ended outcome) b boxes s h = tt
holds_boxes (findings.Next validity uidnext) b boxes s h =
    append_boxes (λ to id. InBox (PutFacts id uidnext validity []) to validity s.boxes) b boxes h
holds_boxes (findings.Candidates uids) b boxes s h = put_boxes (λ to id validity uidnext. InBox (Covered uidnext id uids) to validity s.boxes) b boxes h
holds_boxes (findings.Probed verdict) b boxes s h = verdict_boxes verdict b boxes s h

-- the step is the same: no mailbox's name changes
box_same : (name : List ℕ) (cache : Option Cache) (boxes : List Known) (n : ℕ) →
    step_box (slice_get (put_cache name cache boxes) n) ≡ step_box (slice_get boxes n)
box_same name cache [] n = refl
box_same name cache (k ∷ ks) zero =
    cond_both (bytes_eq k.name name) (record k { cache = cache } ∷ ks) (k ∷ put_cache name cache ks)
    (λ (l : List Known). step_box (slice_get l zero) ≡ step_box (Some k)) (λ t. refl) (λ f. refl)
box_same name cache (k ∷ ks) (suc n) =
    cond_both (bytes_eq k.name name) (record k { cache = cache } ∷ ks) (k ∷ put_cache name cache ks)
    (λ (l : List Known). step_box (slice_get l (suc n)) ≡ step_box (slice_get ks n)) (λ t. refl) (λ f. box_same name cache ks n)

action_same : (p : Player) (b : Meaning) (boxes : List Known) (action : Action) →
    step_action p (record b { boxes = boxes }) action ≡ step_action p b action
action_same p b boxes (actions.Flag target add flags) = refl
action_same p b boxes (actions.Move target to) = refl
action_same p b boxes (actions.Append to flags text id) = refl

due_same : (p : Player) (b : Meaning) (name : List ℕ) (cache : Option Cache) (o : Option Queued) →
    step_due p (record b { boxes = put_cache name cache b.boxes }) o ≡ step_due p b o
due_same p b name cache None = box_same name cache b.boxes p.resynced
due_same p b name cache (Some q) = action_same p b (put_cache name cache b.boxes) q.action

pub step_same : (p : Player) (b : Meaning) (name : List ℕ) (cache : Option Cache) (learns : Option Resynced) →
    step_learn p (record b { boxes = put_cache name cache b.boxes }) learns ≡ step_learn p b learns
step_same p b name cache None = due_same p b name cache (due_action b.queue)
step_same p b name cache (Some told) = refl

pub none_learned : (p : Player) (b : Meaning) (name : List ℕ) (under : Option ℕ) (learns : Option Resynced) →
    step_learn p b learns ≡ steps.Select name under → learns ≡ None
none_learned p b name under None = λ e. refl
none_learned p b name under (Some told) = λ e. absurd (cc)

-- the rules aren't broken
pub two : (a b : Bool) → a ≡ false → b ≡ false → cond a (Some rule.UnknownBox) (cond b (Some rule.WrongValidity) None) ≡ None
two false false e f = refl
two false true e f = absurd cc
two true b e f = absurd cc

pub known_then : (o : Option Known) (cache : Cache) → cache_of o ≡ Some cache → is_none o ≡ false
known_then None cache = λ e. absurd (none-some cache e)
known_then (Some k) cache = λ e. refl

pub right_one : (cache : Cache) (kept told : ℕ) → cache.validity ≡ kept → kept < told → is_wrong_reset (Some cache) kept told ≡ false
right_one cache kept told same above = rightly (cache.validity == kept) (nat_le told kept) (eq-eqb cache.validity kept same) (lt-leb told kept above)
  where
    rightly : (x y : Bool) → x ≡ true → y ≡ false → (not x || y) ≡ false
    rightly true false e f = refl
    rightly true true e f = absurd cc
    rightly false y e f = absurd cc

module _ (p : Player) (b : Meaning) (w : World) (name : List ℕ) (kept told : ℕ) (may : MayReset name kept told b w)
    (book : KeptBook b w.course.now w.waiting) (known : Knows p b w) where
  abbrev boxes : List Known
  boxes = put_cache name None b.boxes

  abbrev later : Meaning
  later = record b { boxes = boxes }

  asked : IsAsked may.select p b w
  asked = came_asked may.select p b w w.owed w.waiting may.owed may.none_waits known.came

  a : ReplyIsOwed may.select p b w
  a = asked.answered

  box : ChoosesBox p b may.select
  box = chooses p b w may.select name may.selects (purpose_of p b w may.select book.sound known asked.needed)

  never : may.select.command ≢ commands.FetchAll
  never = select_no_all may.select name b may.selects

  same : IsSameSaid asked.answered.said may.said asked.answered.rows None
  same =
      same_said asked.answered.rows None asked.answered.said may.said asked.answered.rest may.rest (λ e h. (asked.answered.fetched e h).asks)
      (λ e h. absurd (none-some e h)) (no_all asked.answered.said may.select asked.answered.command never)
      (no_all may.said may.select may.answers never) (sym asked.answered.last ∙ may.last)

  selected_is : w.selected ≡ Some (record { name = name; validity = told })
  selected_is =
      asked.answered.selected ∙ ap (λ (x : Command). selected_after x asked.answered.said.reply p.selected) may.selects.is
      ∙ ap (λ (x : Said). selected_on name x.reply x.reply.ending) same.one
      ∙ ap (λ (x : Ending). selected_on name may.said.reply x) may.accepted
      ∙ ap (λ (x : Result Codes CodeFault). selected_by name x) may.tells
      ∙ ap (λ (v : ℕ). Some (record { name = name; validity = v })) may.validity

  at : IsUnder name told w.course.now
  at = known.valid (record { name = name; validity = told }) selected_is

  renewed : IsRenewed name kept w.course.now.boxes
  renewed = let one : at.box.validity ≡ told = at.same in let two : kept < told = may.above in
      record { box = at.box; there = at.there; above = omega arith }

  why : WhyCommit (events.Reset name kept told) b w.course
  why = (
    may.above,
    (
      may.said,
      subst (λ (l : List Said). IsAmong may.said l) (sym may.last) (inl refl),
      ((may.selects.since, ap (λ (x : Waiting). x.command) may.answers ∙ may.selects.is), (may.codes, may.tells, may.validity)),
    ),
  )

  abbrev lawful : IsLawful b (events.Reset name kept told)
  lawful = record {
    version = versions.Second;
    unbroken = two (is_unknown b.boxes name) (is_wrong_reset (cache_at name b.boxes) kept told) (known_then (known_at name b.boxes) may.cache may.there)
        (ap (λ (o : Option Cache). is_wrong_reset o kept told) may.there ∙ right_one may.cache kept told may.old may.above);
  }

  pub is_reset : IsReset name kept told b w
  is_reset = record { ready = record { lawful = lawful; second = refl; writable = tt }; permitted = renewed; why = why }

  pub reset_kept : KeptBook later w.course.now w.waiting
  reset_kept = book_keeps (Some b) (events.Reset name kept told) w.course.now w.waiting book lawful renewed

  none : p.learns ≡ None
  none = none_learned p b box.name box.under p.learns box.step

  needed : IsNeeded (need_of p later) may.select p.selected later
  needed =
      subst (λ (s : Step). IsNeeded (need_for s p later) may.select p.selected later) (sym (step_same p b name None p.learns ∙ box.step)) (record {
        since = box.selects.since;
        is = box.selects.is;
        knows = λ cache e. box.selects.knows cache (still_cached name box.name b.boxes cache e);
      })

  quiet : IsQuiet asked.answered.said p.told p.resumed later w
  quiet =
      let q : IsQuiet asked.answered.said p.told p.resumed b w =
      subst (λ (x : Bool). HasCome x asked.answered.said p.told p.resumed b w) (ap is_mutating may.selects.is) asked.answered.come in
      record {
        unsent = record { same = q.unsent.same; none = q.unsent.none; holds = holds_boxes p.told b boxes w.course.now q.unsent.holds };
        stays = record { evolves = q.stays.evolves; spares = q.stays.spares; same = q.stays.same };
      }

  answered : ReplyIsOwed may.select p later w
  answered = record {
    said = asked.answered.said;
    rows = asked.answered.rows;
    rest = asked.answered.rest;
    last = asked.answered.last;
    fetched = asked.answered.fetched;
    command = asked.answered.command;
    among = asked.answered.among;
    after = asked.answered.after;
    carries = asked.answered.carries;
    selected = asked.answered.selected;
    at = asked.answered.at;
    fresh = λ n cache e. asked.answered.fresh n cache (still_cached name n b.boxes cache e);
    come = subst (λ (x : Bool). HasCome x asked.answered.said p.told p.resumed later w) (sym (ap is_mutating may.selects.is)) quiet;
  }

  came_by : (owed waiting : Option Waiting) → owed ≡ Some may.select → waiting ≡ None → Came owed waiting p later w
  came_by owed waiting o n =
      subst (λ (x : Option Waiting). Came x waiting p later w) (sym o)
      (subst (λ (x : Option Waiting). Came (Some may.select) x p later w) (sym n) (needed, answered))

  pub reset_knows : Knows p later w
  reset_knows = record {
    course = known.course;
    since = known.since;
    valid = known.valid;
    fresh = known.fresh;
    meant = λ r intent e. why_boxes intent b boxes w.course (known.meant r intent e);
    placed = known.placed;
    resumed = known.resumed;
    told = told_boxes p.told b boxes w.course known.told;
    learns = subst (λ (x : Option Resynced). Learning x p later w.course.now) (sym none) tt;
    came = came_by w.owed w.waiting may.owed may.none_waits;
  }

  pub reset_beside : IsBeside p b → IsBeside p later
  reset_beside beside = record {
    learns = subst (λ (x : Option Resynced). MayRecord x later) (sym none) tt;
    ends = ends_boxes p.told b boxes beside.ends;
    plain = beside.plain;
    fresh = beside.fresh;
    placed = beside.placed;
    within = subst (λ (n : ℕ). p.resynced ≤ n) (sym (put_length name None b.boxes)) beside.within;
    last = beside.last;
    next = subst (λ (x : Option Resynced). IsNextBox (due_action b.queue) x p.resynced boxes) (sym none) (next_none (due_action b.queue) p.resynced boxes);
  }
