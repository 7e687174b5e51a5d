-- What is known stays known as moments are added.
use Rattle.action_queue.specs.Book.{Meaning, cache_at, learned}
use Rattle.action_queue.specs.declared.action.Action.{Action}
use Rattle.action_queue.specs.declared.intent.Intent.{Intent}
use Rattle.action_queue.specs.declared.outcome.Outcome.{Outcome}
use Rattle.action_queue.specs.declared.queued.Queued.{Queued}
use Rattle.append_probe.specs.Marked.{marked}
use Rattle.append_probe.specs.declared.verdict.Verdict.{Verdict}
use Rattle.imap_model.proofs.Effect.{carried_effect}
use Rattle.imap_model.proofs.Evolution.{batches_stay, changes_stay, evolves_same}
use Rattle.imap_model.proofs.Finding.{cond_two}
use Rattle.imap_model.specs.CarriedOut.{CarriesOut}
use Rattle.imap_model.specs.Carrying.{Accepted, Waiting}
use Rattle.imap_model.specs.Changes.{Batch, Changes, deed_of, floor_of}
use Rattle.imap_model.specs.Evolving.{EvolvesFrom, FindsEvolved}
use Rattle.imap_model.specs.Lookups.{box_at, validity_of}
use Rattle.imap_model.specs.Ours.{is_ours, ours}
use Rattle.imap_model.specs.WellFormed.{IsWellFormed}
use Rattle.imap_model.specs.declared.command.Command.{Command}
use Rattle.imap_model.specs.declared.deed.Author.{Author}
use Rattle.imap_model.specs.declared.deed.Author.TheVariants.{Ours}
use Rattle.imap_model.specs.declared.deed.Change.{Change}
use Rattle.imap_model.specs.declared.deed.Deed.{Deed}
use Rattle.imap_model.specs.declared.mark.Mark.{Mark}
use Rattle.imap_model.specs.declared.replies.Replies.{Replies}
use Rattle.imap_model.specs.declared.server.Mailbox.{Mailbox}
use Rattle.imap_model.specs.declared.server.Server.{Server}
use Rattle.mail_base.specs.declared.tag.Tag.{Tag}
use Rattle.mailbox_cache.specs.declared.cache.Cache.{Cache}
use Rattle.mailbox_cache.specs.declared.row.Row.{Row}
use Rattle.book_laws.proofs.Deducing.{later_then}
use Rattle.book_laws.proofs.Deeds.{batch_ours}
use Rattle.book_laws.proofs.Facts.{box_evolves, put_goes, squeezed, under_keeps}
use Rattle.playback.specs.Course.{AtMoment, Course, IsAmong, IsCourse, Said, WasSaid}
use Rattle.book_laws.specs.InBox.{InBox, InBoxNow}
use Rattle.playback.specs.Knows.{Covered, HasEnded, Holds, HoldsVerdict, IsLearning, IsProbed, IsSent, IsTold, IsUnsent, Learning, OfAppend}
use Rattle.playback.specs.Knows.{OfPut, Rests, RowTold, Stays, WasSeen}
use Rattle.playback.specs.Needs.{due_id}
use Rattle.book_laws.specs.Once.{Fits}
use Rattle.book_laws.specs.Open.{PutFacts}
use Rattle.book_laws.specs.Past.{Later}
use Rattle.book_laws.specs.Polite.{Spares}
use Rattle.playback.specs.Why.{AreTwo, NoRow, OfDue, RowAt, RowIs, RowNotSo, RowWas, SomeRow, TellsLack, TellsNext, WasRefused, WasSelected}
use Rattle.playback.specs.Why.{WhyIntent}
use Rattle.playback.specs.Worlds.{Among, IsUnder, KeepsCourse, LeadsTo, World, answered_course, answered_world, asks_rows, given, moved}
use Rattle.playback.specs.Worlds.{says}
use Rattle.playback.specs.declared.finding.Finding.{Finding}
use Rattle.playback.specs.declared.finding.Resynced.{Resynced}
use Rattle.playback.specs.declared.player.Player.{Player}
use Rattle.qresync_core.proofs.Leveling.{facts_later}
use Rattle.qresync_core.specs.Fresh.{FreshFacts}
use Rattle.std.proofs.Common.{Bool, List, None, Option, Some, [], ap, inl, inr, refl, subst, sym, ℕ, ⊎_elim, ◌++◌, ◌∙◌, ◌∷◌, ◌≡◌}
use Rattle.std.proofs.lemmas.Option.{same_Some}
use Rattle.std.specs.Prelude.{Contains}
use Rattle.uid_sets.specs.declared.uid.UidRange.{UidRange}
use Rattle.action_queue.specs.declared.action.Action.TheVariants as actions
use Rattle.imap_model.specs.declared.deed.Change.TheVariants as changes
use Rattle.imap_model.specs.declared.command.Command.TheVariants as commands
use Rattle.playback.specs.declared.finding.Finding.TheVariants as findings
use Rattle.action_queue.specs.declared.intent.Intent.TheVariants as intents
use Rattle.action_queue.specs.declared.outcome.Outcome.TheVariants as outcomes
use Rattle.append_probe.specs.declared.verdict.Verdict.TheVariants as verdicts

pub grows_moved : (t : Server) (w : World) → KeepsCourse w (moved t w)
grows_moved t w = record { among = λ s a. inr a; back = λ s a. a; said = λ e a. a; first = refl }

pub grows_carried : (c : Waiting) (r : Replies) (t : Server) (w : World) → KeepsCourse w (answered_world c r t w)
grows_carried c r t w = record { among = λ s a. inr a; back = λ s a. a; said = λ e a. inr a; first = refl }

pub grows_says : (c : Waiting) (w : World) → KeepsCourse w (says c w)
grows_says c w = record { among = λ s a. a; back = λ s a. inr a; said = λ e a. a; first = refl }

pub grows_asks : (c : Waiting) (w : World) → KeepsCourse w (asks_rows c w)
grows_asks c w = record { among = λ s a. a; back = λ s a. inr a; said = λ e a. a; first = refl }

pub grows_given : (w : World) → KeepsCourse w (given w)
grows_given w = record { among = λ s a. a; back = λ s a. inr a; said = λ e a. a; first = refl }

-- the course tells the truth still
pub course_moved : (t : Server) (c : Course) → IsCourse c → IsCourse (record c { now = t; past = c.now ∷ c.past })
course_moved t c is = record { first = inr is.first; said = λ e a. (inr (is.said e a).0, inr (is.said e a).1, (is.said e a).2) }

said_carried : (e x : Said) (t : Server) (c : Course) (after : Option (List ℕ)) → IsAmong x.before (c.now ∷ c.past) → x.behind ≡ t →
    CarriesOut x.command x.before x.reply x.behind after → e ≡ x →
    IsAmong e.before (t ∷ c.now ∷ c.past) × IsAmong e.behind (t ∷ c.now ∷ c.past) ×
    ((end : Option (List ℕ)) × CarriesOut e.command e.before e.reply e.behind end)
said_carried e x t c after before behind carries is =
    subst (λ (y : Said). IsAmong y.before (t ∷ c.now ∷ c.past) × IsAmong y.behind (t ∷ c.now ∷ c.past)
    × ((end : Option (List ℕ)) × CarriesOut y.command y.before y.reply y.behind end)) (sym is)
    (inr before, inl behind, (after, carries))

pub course_carried : (c : Waiting) (r : Replies) (t : Server) (course : Course) (after : Option (List ℕ)) →
    CarriesOut c course.now r t after →
    IsCourse course → IsCourse (answered_course c r t course)
course_carried c r t course after carries is = record {
  first = inr is.first;
  said = λ e a.
      ⊎_elim (λ (n : e ≡ record { command = c; before = course.now; behind = t; reply = r }).
      said_carried e (record { command = c; before = course.now; behind = t; reply = r }) t course after (inl refl) refl carries n)
      (λ (o : IsAmong e course.said). (inr (is.said e o).0, inr (is.said e o).1, (is.said e o).2)) a;
}

-- what holds of the new server and of each earlier one holds of each
pub each_moment : (P : Server → Type 0) (w v : World) → KeepsCourse w v → P v.course.now → ((s : Server) → Among s w → P s) → (s : Server) →
    Among s v → P s
each_moment P w v g now before s a = ⊎_elim (λ (e : s ≡ v.course.now). subst P (sym e) now) (λ (h : Among s w). before s h) (g.back s a)

pub evolves_join : (a b c : List Mailbox) → IsWellFormed a → EvolvesFrom a a b → EvolvesFrom b b c → EvolvesFrom a a c
evolves_join a b c w g h =
    let l : Later 0 (record { boxes = a; history = [] }) (record { boxes = c; history = [] }) =
    later_then 0 (record { boxes = a; history = [] }) (record { boxes = b; history = [] }) (record { boxes = c; history = [] }) w
    (record { evolves = g; ours = refl }) (record { evolves = h; ours = refl }) in
    l.evolves

pub since_same : (s : Server) → IsWellFormed s.boxes → LeadsTo s s
since_same s w = record { well = w; evolves = evolves_same s.boxes s.boxes; grows = λ n e. e }

pub since_is : (s t : Server) → IsWellFormed s.boxes → t ≡ s → LeadsTo s t
since_is s t w e = subst (λ (x : Server). LeadsTo s x) (sym e) (since_same s w)

pub since_then : (a b c : Server) → LeadsTo a b → LeadsTo b c → LeadsTo a c
since_then a b c g h = record {
  well = g.well;
  evolves = evolves_join a.boxes b.boxes c.boxes g.well g.evolves h.evolves;
  grows = λ n e. g.grows n (h.grows n e);
}

pub since_foreign : (s t : Server) → IsWellFormed s.boxes → Batch s.boxes s t → LeadsTo s t
since_foreign s t w f = record {
  well = w;
  evolves = (batches_stay s t w f).1;
  grows = λ n e. sym (batch_ours n s.boxes s t f) ∙ e;
}

-- no deeds behind a change, none before it
ours_before : (n : ℕ) (d : Deed) (h : List Deed) → ours n (h ++ d ∷ []) ≡ [] → ours n h ≡ []
ours_before n d [] = λ e. refl
ours_before n d (x ∷ xs) =
    cond_two (is_ours n x.author) (x ∷ ours n (xs ++ d ∷ [])) (ours n (xs ++ d ∷ [])) (x ∷ ours n xs) (ours n xs)
    (λ (l k : List Deed). l ≡ [] → k ≡ [])
    (λ _ e. absurd (cc)) (λ _. ours_before n d xs)

pub since_changes : (author : Author) (name : List ℕ) (change : Change) (s t : Server) → IsWellFormed s.boxes →
    Changes s.boxes author name change s t → LeadsTo s t
since_changes author name change s t w c = record {
  well = w;
  evolves = (changes_stay s.boxes author name change s t w c).1;
  grows = λ n e. ours_before n (deed_of author name change t.boxes) s.history (sym (ap (ours n) c.history) ∙ e);
}

since_accepted : (selected : Option (List ℕ)) (tag : Tag) (command : Command) (s t : Server) → IsWellFormed s.boxes →
    Accepted selected tag command s t → LeadsTo s t
since_accepted selected tag commands.Capability s t w e = since_is s t w e
since_accepted selected tag (commands.Login account) s t w e = since_is s t w e
since_accepted selected tag (commands.Plain account) s t w e = since_is s t w e
since_accepted selected tag (commands.Enable rev2) s t w e = since_is s t w e
since_accepted selected tag (commands.Select name since) s t w e = since_is s t w e
since_accepted selected tag commands.FetchAll s t w e = since_is s t w e
since_accepted selected tag (commands.FetchRow uid) s t w e = since_is s t w e
since_accepted selected tag (commands.Search from id) s t w e = since_is s t w e
since_accepted selected tag (commands.FetchIds uids) s t w e = since_is s t w e
since_accepted selected tag (commands.FetchText uid) s t w e = since_is s t w e
since_accepted selected tag (commands.Store uid since add flags) s t w (inl e) =
    since_changes (Ours tag) e.found.name (changes.SetFlags uid e.flags) s t w e.becomes
since_accepted selected tag (commands.Store uid since add flags) s t w (inr e) = since_is s t w e.stays
since_accepted selected tag (commands.Shift uid to) s t w (inl e) =
    since_changes (Ours tag) e.found.name (changes.Shift uid to e.received) s t w e.becomes
since_accepted selected tag (commands.Shift uid to) s t w (inr e) = since_is s t w e.stays
since_accepted selected tag (commands.Copy uid to) s t w (inl e) =
    since_changes (Ours tag) to (changes.Add e.found.message.flags e.found.message.text e.received) s t w e.becomes
since_accepted selected tag (commands.Copy uid to) s t w (inr e) = since_is s t w e.stays
since_accepted selected tag (commands.Expunge uid) s t w (inl e) =
    since_changes (Ours tag) e.is.found.name (changes.Drop uid) s t w e.becomes
since_accepted selected tag (commands.Expunge uid) s t w (inr e) = since_is s t w e.stays
since_accepted selected tag (commands.Append to flags text) s t w e =
    since_changes (Ours tag) to (changes.Add flags text e.uid) s t w e.becomes
since_accepted selected tag commands.Logout s t w e = since_is s t w e

-- a command that is carried out
pub since_carries : (c : Waiting) (r : Replies) (s t : Server) (after : Option (List ℕ)) → IsWellFormed s.boxes → CarriesOut c s r t after →
    LeadsTo s t
since_carries c r s t after w carries =
    ⊎_elim (λ (e : t ≡ s). since_is s t w e)
    (λ (e : Accepted c.selected c.tag c.command s t). since_accepted c.selected c.tag c.command s t w e)
    (carried_effect c s r t after carries)

-- each earlier server, also to the new one
pub since_grows : (w v : World) → KeepsCourse w v → LeadsTo w.course.now v.course.now → IsWellFormed v.course.now.boxes →
    ((s : Server) → Among s w → LeadsTo s w.course.now) → (s : Server) → Among s v → LeadsTo s v.course.now
since_grows w v g step well since =
    each_moment (λ (s : Server). LeadsTo s v.course.now) w v g (since_same v.course.now well)
    (λ s a. since_then s w.course.now v.course.now (since s a) step)

pub moment_grows : (P : Server → Type 0) (w v : World) → KeepsCourse w v → AtMoment P w.course → AtMoment P v.course
moment_grows P w v g m = (m.0, g.among m.0 m.1, m.2)

pub said_grows : (P : Said → Type 0) (w v : World) → KeepsCourse w v → WasSaid P w.course → WasSaid P v.course
said_grows P w v g m = (m.0, g.said m.0 m.1, m.2)

pub was_grows : (P : Action → Option Row → Type 0) (b : Meaning) (w v : World) → KeepsCourse w v → RowWas P b w.course → RowWas P b v.course
was_grows P b w v g o = record {
  queued = o.queued;
  there = o.there;
  holds = moment_grows (λ (s : Server). RowIs (P o.queued.action) b.queue o.queued.action s) w v g o.holds;
}

pub selected_grows : (name : List ℕ) (P : Replies → Type 0) (w v : World) → KeepsCourse w v → WasSelected name P w.course →
    WasSelected name P v.course
selected_grows name P w v g s =
    said_grows (λ (e : Said). ((since : Option Mark) × (e.command.command ≡ commands.Select name since)) × P e.reply) w v g s

refused_grows : (queue : List Queued) (action : Action) (w v : World) → KeepsCourse w v → WasRefused queue w.course action →
    WasRefused queue v.course action
refused_grows queue (actions.Flag target add asked) w v g r = (r.0, r.1, r.2, r.3, selected_grows r.0 (TellsLack asked) w v g r.4)
refused_grows queue (actions.Move target to) w v g r = r
refused_grows queue (actions.Append to flags text id) w v g r = r

pub barred_grows : (b : Meaning) (w v : World) → KeepsCourse w v → OfDue (WasRefused b.queue w.course) b → OfDue (WasRefused b.queue v.course) b
barred_grows b w v g o = record { queued = o.queued; there = o.there; holds = refused_grows b.queue o.queued.action w v g o.holds }

pub append_maps : (P Q : List ℕ → List ℕ → Type 0) (b : Meaning) → ((to id : List ℕ) → P to id → Q to id) → OfAppend P b → OfAppend Q b
append_maps P Q b f o = record {
  queued = o.queued;
  there = o.there;
  to = o.to;
  flags = o.flags;
  text = o.text;
  id = o.id;
  action = o.action;
  holds = f o.to o.id o.holds;
}

pub put_maps : (P Q : List ℕ → List ℕ → ℕ → ℕ → Type 0) (b : Meaning) →
    ((to id : List ℕ) (validity low : ℕ) → P to id validity low → Q to id validity low) →
    OfPut P b → OfPut Q b
put_maps P Q b f o = record {
  append = o.append;
  validity = o.validity;
  uidnext = o.uidnext;
  pending = o.pending;
  holds = f o.append.to o.append.id o.validity o.uidnext o.holds;
}

probed_grows : (verdict : Verdict) (b : Meaning) (w v : World) → KeepsCourse w v → IsProbed verdict b w.course → IsProbed verdict b v.course
probed_grows verdicts.NotThere b w v g t = tt
probed_grows (verdicts.There uid) b w v g t = tt
probed_grows (verdicts.Several first second) b w v g t =
    put_maps (λ (to id : List ℕ) (validity low : ℕ). AtMoment (λ s. InBoxNow (AreTwo first second low id) to validity s.boxes) w.course)
    (λ (to id : List ℕ) (validity low : ℕ). AtMoment (λ s. InBoxNow (AreTwo first second low id) to validity s.boxes) v.course) b
    (λ to id validity low m. moment_grows (λ (s : Server). InBoxNow (AreTwo first second low id) to validity s.boxes) w v g m) t

pub told_grows : (told : Finding) (b : Meaning) (w v : World) → KeepsCourse w v → IsTold told b w.course → IsTold told b v.course
told_grows findings.Nothing b w v g t = tt
told_grows findings.NoRow b w v g t = was_grows NoRow b w v g t
told_grows (findings.Row modseq so) b w v g t = was_grows (RowTold modseq so) b w v g t
told_grows findings.Barred b w v g t = barred_grows b w v g t
told_grows (findings.Ended outcome) b w v g t = tt
told_grows (findings.Next validity uidnext) b w v g t =
    append_maps (λ (to id : List ℕ). WasSelected to (TellsNext validity uidnext) w.course)
    (λ (to id : List ℕ). WasSelected to (TellsNext validity uidnext) v.course) b
    (λ to id c. selected_grows to (TellsNext validity uidnext) w v g c) t
told_grows (findings.Candidates uids) b w v g t = tt
told_grows (findings.Probed verdict) b w v g t = probed_grows verdict b w v g t

pub intent_grows : (intent : Intent) (b : Meaning) (w v : World) → KeepsCourse w v → WhyIntent intent b w.course → WhyIntent intent b v.course
intent_grows (intents.Store name validity uid modseq) b w v g s = was_grows (RowNotSo (λ k. k ≡ modseq)) b w v g s
intent_grows (intents.Shift from validity uid to) b w v g s = was_grows SomeRow b w v g s
intent_grows (intents.Put to validity uidnext) b w v g s = selected_grows to (TellsNext validity uidnext) w v g s

pub seen_grows : (intent : Intent) (b : Meaning) (w v : World) → KeepsCourse w v → WasSeen intent b w.course → WasSeen intent b v.course
seen_grows (intents.Store name validity uid modseq) b w v g s = was_grows (RowAt modseq) b w v g s
seen_grows (intents.Shift from validity uid to) b w v g s = tt
seen_grows (intents.Put to validity uidnext) b w v g s = tt

-- nothing of the action happened
pub stays_same : (b : Meaning) (s : Server) → Stays b s s
stays_same b s = record {
  evolves = evolves_same s.boxes s.boxes;
  spares = λ q to flags text id x y e a h k v. ap (λ (m : Mailbox). marked id m.messages) (same_Some y x (sym k ∙ h));
  same = refl;
}

pub stays_is : (b : Meaning) (s t : Server) → t ≡ s → Stays b s t
stays_is b s t e = subst (λ (x : Server). Stays b s x) (sym e) (stays_same b s)

pub stays_others : (b : Meaning) (s t : Server) → IsWellFormed s.boxes → Batch s.boxes s t → Spares b s.boxes t.boxes → Stays b s t
stays_others b s t w f spares = record {
  evolves = (batches_stay s t w f).1;
  spares = spares;
  same = batch_ours (due_id b) s.boxes s t f;
}

pub stays_then : (b : Meaning) (s m t : Server) → IsWellFormed s.boxes → Stays b s m → Stays b m t → Stays b s t
stays_then b s m t w g h = record {
  evolves = evolves_join s.boxes m.boxes t.boxes w g.evolves h.evolves;
  spares = λ q to flags text id x y e a here there same.
      let f : FindsEvolved (floor_of s.boxes to) to x m.boxes = g.evolves.each to x here in
      let one : f.box.validity ≡ x.validity = squeezed to g.evolves h.evolves x f.box y here f.there there same in
      h.spares q to flags text id f.box y e a f.there there (same ∙ sym one) ∙ g.spares q to flags text id x f.box e a here f.there one;
  same = h.same ∙ g.same;
}

pub covered_same : (low : ℕ) (id : List ℕ) (uids : List UidRange) (x y : Mailbox) → marked id y.messages ≡ marked id x.messages →
    Covered low id uids x → Covered low id uids y
covered_same low id uids x y e c = record {
  each = λ u h l. c.each u (subst (λ (us : List ℕ). Contains us u) e h) l;
  least = c.least;
}

next_moves : (b : Meaning) (s t : Server) (validity uidnext : ℕ) → Stays b s t →
    OfAppend (λ to id. InBox (PutFacts id uidnext validity []) to validity s.boxes) b →
    OfAppend (λ to id. InBox (PutFacts id uidnext validity []) to validity t.boxes) b
next_moves b s t validity uidnext st o = record {
  queued = o.queued;
  there = o.there;
  to = o.to;
  flags = o.flags;
  text = o.text;
  id = o.id;
  action = o.action;
  holds = box_evolves (PutFacts o.id uidnext validity []) o.to validity s.boxes t.boxes st.evolves
      (λ x y h k v g facts. put_goes o.id uidnext validity [] x y g
      (st.spares o.queued o.to o.flags o.text o.id x y o.there o.action h k v) facts) o.holds;
}

covered_moves : (b : Meaning) (s t : Server) (uids : List UidRange) → Stays b s t →
    OfPut (λ to id validity low. InBox (Covered low id uids) to validity s.boxes) b →
    OfPut (λ to id validity low. InBox (Covered low id uids) to validity t.boxes) b
covered_moves b s t uids st o = record {
  append = o.append;
  validity = o.validity;
  uidnext = o.uidnext;
  pending = o.pending;
  holds = box_evolves (Covered o.uidnext o.append.id uids) o.append.to o.validity s.boxes t.boxes st.evolves
      (λ x y h k v g facts. covered_same o.uidnext o.append.id uids x y
      (st.spares o.append.queued o.append.to o.append.flags o.append.text o.append.id x y o.append.there o.append.action h k v)
      facts) o.holds;
}

-- the one message is the append's
abbrev IsIts : ℕ → Meaning → Server → List ℕ → List ℕ → ℕ → ℕ → Type 0
IsIts uid b s to id validity low = Fits (outcomes.Done (Some (record { validity = validity; uid = uid }))) (ours (due_id b) s.history)

verdict_stays : (verdict : Verdict) (b : Meaning) (s t : Server) → Stays b s t → HoldsVerdict verdict b s → HoldsVerdict verdict b t
verdict_stays verdicts.NotThere b s t st h = st.same ∙ h
verdict_stays (verdicts.There uid) b s t st h =
    put_maps (IsIts uid b s) (IsIts uid b t) b
    (λ to id validity low f.
    subst (λ (l : List Deed). Fits (outcomes.Done (Some (record { validity = validity; uid = uid }))) l) (sym st.same) f) h
verdict_stays (verdicts.Several first second) b s t st h = tt

pub holds_stay : (told : Finding) (b : Meaning) (s t : Server) → Stays b s t → Holds told b s → Holds told b t
holds_stay findings.Nothing b s t st h = tt
holds_stay findings.NoRow b s t st h = tt
holds_stay (findings.Row modseq so) b s t st h = tt
holds_stay findings.Barred b s t st h = tt
holds_stay (findings.Ended outcome) b s t st h = tt
holds_stay (findings.Next validity uidnext) b s t st h = next_moves b s t validity uidnext st h
holds_stay (findings.Candidates uids) b s t st h = covered_moves b s t uids st h
holds_stay (findings.Probed verdict) b s t st h = verdict_stays verdict b s t st h

pub unsent_grows : (told : Finding) (resumed : Bool) (b : Meaning) (w v : World) → KeepsCourse w v → Stays b w.course.now v.course.now →
    IsUnsent told resumed b w → IsUnsent told resumed b v
unsent_grows told resumed b w v g st u = record {
  same =
      each_moment (λ (s : Server). ours (due_id b) s.history ≡ ours (due_id b) v.course.now.history) w v g refl
      (λ s a. u.same s a ∙ sym st.same);
  none = λ r. st.same ∙ u.none r;
  holds = holds_stay told b w.course.now v.course.now st u.holds;
}

pub sent_grows : (b : Meaning) (x : Said) (w v : World) → KeepsCourse w v →
    ours (due_id b) v.course.now.history ≡ ours (due_id b) w.course.now.history →
    IsSent b x w → IsSent b x v
sent_grows b x w v g e u = record {
  among = g.among x.before u.among;
  was_said = g.said x u.was_said;
  after = u.after;
  carries = u.carries;
  kept = u.kept;
  is_of = u.is_of;
  first = ap (λ (s : Server). ours (due_id b) s.history) g.first ∙ u.first;
  later = e ∙ u.later;
}

pub ended_grows : (outcome : Outcome) (resumed : Bool) (b : Meaning) (w v : World) → KeepsCourse w v →
    ours (due_id b) v.course.now.history ≡ ours (due_id b) w.course.now.history → HasEnded outcome resumed b w →
    HasEnded outcome resumed b v
ended_grows outcome resumed b w v g e h = record {
  said = h.said;
  sent = sent_grows b h.said w v g e h.sent;
  queued = h.queued;
  there = h.there;
  intent = h.intent;
  pending = h.pending;
  read = h.read;
  seen = seen_grows h.intent b w v g h.seen;
}

pub rests_grows : (told : Finding) (resumed : Bool) (b : Meaning) (w v : World) → KeepsCourse w v → Stays b w.course.now v.course.now →
    Rests told resumed b w → Rests told resumed b v
rests_grows findings.Nothing resumed b w v g st r = unsent_grows findings.Nothing resumed b w v g st r
rests_grows findings.NoRow resumed b w v g st r = unsent_grows findings.NoRow resumed b w v g st r
rests_grows (findings.Row modseq so) resumed b w v g st r = unsent_grows (findings.Row modseq so) resumed b w v g st r
rests_grows findings.Barred resumed b w v g st r = unsent_grows findings.Barred resumed b w v g st r
rests_grows (findings.Ended outcome) resumed b w v g st r = ended_grows outcome resumed b w v g st.same r
rests_grows (findings.Next validity uidnext) resumed b w v g st r = unsent_grows (findings.Next validity uidnext) resumed b w v g st r
rests_grows (findings.Candidates uids) resumed b w v g st r = unsent_grows (findings.Candidates uids) resumed b w v g st r
rests_grows (findings.Probed verdict) resumed b w v g st r = unsent_grows (findings.Probed verdict) resumed b w v g st r

-- the cache that a delta makes stays fresh
learning_stays : (told : Resynced) (p : Player) (b : Meaning) (s t : Server) → LeadsTo s t → IsLearning told p b s → IsLearning told p b t
learning_stays told p b s t step l =
    let cache : Cache = learned (cache_at told.name b.boxes) told.delta in
    record {
      selected = l.selected;
      plain = l.plain;
      fresh = box_evolves (FreshFacts cache) told.name cache.validity s.boxes t.boxes step.evolves
          (λ x y f g v goes facts. facts_later cache x y facts goes) l.fresh;
    }

pub learns_stay : (learns : Option Resynced) (p : Player) (b : Meaning) (s t : Server) → LeadsTo s t → Learning learns p b s →
    Learning learns p b t
learns_stay None p b s t step l = tt
learns_stay (Some told) p b s t step l = learning_stays told p b s t step l

-- a mailbox that is there under a UIDVALIDITY, and keeps it, is there under it still
pub under_stays : (name : List ℕ) (validity : ℕ) (s t : Server) → LeadsTo s t → validity_of (box_at name t.boxes) ≡ validity_of (box_at name s.boxes) →
    IsUnder name validity s → IsUnder name validity t
under_stays name validity s t step v u = under_keeps step.evolves v u
