-- The mailboxes that were resynchronised since every action was settled, as one event more is recorded.
use Rattle.action_queue.proofs.Queueing.{settled_all}
use Rattle.action_queue.specs.Book.{Meaning, after, cache_at, cache_of, known_at, learned, put_cache}
use Rattle.action_queue.specs.Events.{IsLawful}
use Rattle.action_queue.specs.Queues.{AllSettled, change_first, change_queued, due, due_action, settled_then, tried}
use Rattle.action_queue.specs.declared.book.Known.{Known}
use Rattle.action_queue.specs.declared.event.Event.{Event}
use Rattle.action_queue.specs.declared.intent.Intent.{Intent}
use Rattle.action_queue.specs.declared.outcome.Outcome.{Outcome}
use Rattle.action_queue.specs.declared.queued.Queued.{Queued}
use Rattle.action_queue.specs.declared.rule.Rule.{Rule}
use Rattle.mailbox_cache.specs.declared.cache.Cache.{Cache}
use Rattle.mailbox_cache.specs.declared.delta.Delta.{Delta}
use Rattle.play_driver.proofs.NotRead.{last_later, takes_not_read}
use Rattle.play_driver.proofs.Parts.{grows_start, grows_then}
use Rattle.play_driver.specs.Joining.{Grows}
use Rattle.play_driver.specs.Settled.{IsSettledAt, IsSyncedSoFar, SyncedSince}
use Rattle.play_driver.specs.Synced.{IsLastRead, IsNotRead, IsSynced}
use Rattle.playback.specs.Allowed.{Records}
use Rattle.play_driver.proofs.Progressing.{names_put, takes_grows}
use Rattle.playback.proofs.Recorded.{IsRecorded, recorded}
use Rattle.playback.specs.Choosing.{committed, counted}
use Rattle.playback.specs.Needs.{IsBeside, IsNextBox, need_of}
use Rattle.playback.specs.Steps.{step_box, step_due, step_learn, step_of}
use Rattle.playback.specs.declared.finding.Resynced.{Resynced}
use Rattle.playback.specs.declared.player.Player.{Player}
use Rattle.std.proofs.Common.{Bool, List, None, Option, Some, [], ap, arith, cond, false, inl, inr, length, refl, subst, sym, true}
use Rattle.std.proofs.Common.{ℕ, ◌+◌, ◌<◌, ◌∙◌, ◌∷◌, ◌≡◌, ◌≤◌}
use Rattle.std.proofs.lemmas.Bool.{cond_both, ltb-false, ltb-true}
use Rattle.std.proofs.lemmas.Option.{none-some, same_Some, slice_get-map, slice_get_past}
use Rattle.std.proofs.lemmas.Slice.Eq.{bytes_eq-Decides}
use Rattle.play_driver.specs.declared.session.Held.{Held}
use Rattle.std.specs.Option.{option_map}
use Rattle.std.specs.Prelude.{IsSome, bytes_eq, is_none, is_some, map, nat_lt, slice_get}
use Rattle.store_core.specs.Mail.{mail}
use Rattle.store_core.specs.Steps.{Firm}
use Rattle.store_core.specs.Taking.{HasBooks, Takes}
use Rattle.world_traits.specs.Links.{Any}
use Rattle.world_traits.specs.Moments.{Clock, Since}
use Rattle.action_queue.specs.declared.event.Event.TheVariants as events
use Rattle.action_queue.specs.declared.rule.Rule.TheVariants as rule
use Rattle.playback.specs.declared.step.Step.TheVariants as steps

-- the place of a name
module _ (name : List ℕ) where
  -- the mailbox of this name stands at this place
  pub record IsNamedAt (boxes : List Known) (i : ℕ) : Type 0 where
    pub known : Known
    pub there : slice_get boxes i ≡ Some known
    pub named : known.name ≡ name

  pub named_at : (boxes : List Known) (i : ℕ) → slice_get (map (λ (k : Known). k.name) boxes) i ≡ Some name → IsNamedAt boxes i
  named_at boxes i is = by (slice_get boxes i) refl (sym (slice_get-map (λ (k : Known). k.name) boxes i) ∙ is)
    where
      by : (o : Option Known) → slice_get boxes i ≡ o → option_map (λ (k : Known). k.name) o ≡ Some name → IsNamedAt boxes i
      by None at e = absurd cc
      by (Some k) at e = record { known = k; there = at; named = same_Some k.name name e }

pub name_at : (boxes : List Known) (i : ℕ) (known : Known) → slice_get boxes i ≡ Some known →
    slice_get (map (λ (k : Known). k.name) boxes) i ≡ Some known.name
name_at boxes i known there = slice_get-map (λ (k : Known). k.name) boxes i ∙ ap (option_map (λ (k : Known). k.name)) there

-- a cache is found where it was put
pub cache_put : (name : List ℕ) (put : Cache) (boxes : List Known) → is_some (known_at name boxes) ≡ true →
    cache_at name (put_cache name (Some put) boxes) ≡ Some put
cache_put name put [] known = absurd cc
cache_put name put (k ∷ ks) known = by (cache_put name put ks) (bytes_eq k.name name) refl known
  where
    by : (is_some (known_at name ks) ≡ true → cache_at name (put_cache name (Some put) ks) ≡ Some put) → (here : Bool) → bytes_eq k.name name ≡ here →
        is_some (cond here (Some k) (known_at name ks)) ≡ true →
        cache_at name (cond here (record k { cache = Some put } ∷ ks) (k ∷ put_cache name (Some put) ks)) ≡ Some put
    by later true h is = ap (λ (x : Bool). cache_of (cond x (Some (record k { cache = Some put })) (known_at name ks))) h
    by later false h is = ap (λ (x : Bool). cache_of (cond x (Some k) (known_at name (put_cache name (Some put) ks)))) h ∙ later is

-- another one stays
pub cache_kept : (name other : List ℕ) (cache : Option Cache) (boxes : List Known) → bytes_eq name other ≡ false →
    cache_at other (put_cache name cache boxes) ≡ cache_at other boxes
cache_kept name other cache [] apart = refl
cache_kept name other cache (k ∷ ks) apart = by (cache_kept name other cache ks apart) (bytes_eq k.name name) refl
  where
    there : (test : Bool) → cache_at other (put_cache name cache ks) ≡ cache_at other ks →
        cache_of (cond test (Some k) (known_at other (put_cache name cache ks))) ≡ cache_of (cond test (Some k) (known_at other ks))
    there true later = refl
    there false later = later

    by : cache_at other (put_cache name cache ks) ≡ cache_at other ks → (here : Bool) → bytes_eq k.name name ≡ here →
        cache_at other (cond here (record k { cache = cache } ∷ ks) (k ∷ put_cache name cache ks))
        ≡ cache_of (cond (bytes_eq k.name other) (Some k) (known_at other ks))
    by later true h =
        let same : k.name ≡ name = (bytes_eq-Decides k.name name).0 h in
        let not : bytes_eq k.name other ≡ false = ap (λ (n : List ℕ). bytes_eq n other) same ∙ apart in
        ap (λ (x : Bool). cache_of (cond x (Some (record k { cache = cache })) (known_at other ks))) not
        ∙ sym (ap (λ (x : Bool). cache_of (cond x (Some k) (known_at other ks))) not)
    by later false h = there (bytes_eq k.name other) later

-- no action is due where all are settled
pub none_due : (queue : List Queued) → AllSettled queue → due_action queue ≡ None
none_due queue all = slice_get_past queue (due queue) (omega (arith, settled_all queue all))

-- a delta is lawful of a mailbox of the book's alone
known_name : (o : Option Known) (r : Rule) (rest : Option Rule) → cond (is_none o) (Some r) rest ≡ None → is_some o ≡ true
known_name None r rest e = absurd cc
known_name (Some k) r rest e = refl

pub learns_known : (b : Meaning) (name : List ℕ) (delta : Delta) → IsLawful b (events.Learn name delta) → is_some (known_at name b.boxes) ≡ true
learns_known b name delta lawful = known_name (known_at name b.boxes) rule.UnknownBox _ lawful.unbroken

-- a mailbox more is counted, or none is
counted_by_one : (learns : Option Resynced) (queued : Option Queued) (boxes count : ℕ) → counted learns queued boxes count ≤ count + 1
counted_by_one None queued boxes count = omega arith
counted_by_one (Some told) None boxes count =
    cond_both (nat_lt count boxes) (count + 1) count (λ (n : ℕ). n ≤ count + 1) (λ t. omega arith) (λ f. omega arith)
counted_by_one (Some told) (Some q) boxes count = omega arith

counted_none : (learns : Option Resynced) (queued : Option Queued) (boxes count : ℕ) → learns ≡ None → counted learns queued boxes count ≡ count
counted_none None queued boxes count is = refl
counted_none (Some told) queued boxes count is = absurd cc

-- the mailbox that is counted next is the one of which something was told
next_box : (queued : Option Queued) (learns : Option Resynced) (told : Resynced) (count : ℕ) (boxes : List Known) → queued ≡ None →
    learns ≡ Some told → IsNextBox queued learns count boxes → IsNamedAt told.name boxes count
next_box (Some q) learns told count boxes none is next = absurd cc
next_box None None told count boxes none is next = absurd cc
next_box None (Some other) told count boxes none is next =
    let same : other ≡ told = same_Some other told is in
    record { known = next.0; there = next.1; named = next.2 ∙ ap (λ (r : Resynced). r.name) same }

-- one mailbox is learned of: it is synced where what was told is the server's, and the others are as they were
module _ (b : Meaning) (name : List ℕ) (delta : Delta) (known : is_some (known_at name b.boxes) ≡ true) (from old new : Clock)
    (unread : (other : List ℕ) → Since Any (IsNotRead other) old new) where
  abbrev Put : Cache
  Put = learned (cache_at name b.boxes) delta

  abbrev Then : Meaning
  Then = after b (events.Learn name delta)

  kept_synced : (other : List ℕ) → bytes_eq name other ≡ false → IsSynced other b from old → IsSynced other Then from new
  kept_synced other apart s = record {
    cache = s.cache;
    there = cache_kept name other (Some Put) b.boxes apart ∙ s.there;
    level = last_later other s.cache from old new s.level (unread other);
  }

  put_synced : (other : List ℕ) → name ≡ other → IsLastRead name Put from old → IsSynced other Then from new
  put_synced other same told = subst (λ (n : List ℕ). IsSynced n Then from new) same (record {
    cache = Put;
    there = cache_put name Put b.boxes known;
    level = last_later name Put from old new told (unread name);
  })

  pub learned_synced : (other : List ℕ) → IsLastRead name Put from old → (bytes_eq name other ≡ false → IsSynced other b from old) →
      IsSynced other Then from new
  learned_synced other told rest = by (bytes_eq name other) refl
    where
      by : (test : Bool) → bytes_eq name other ≡ test → IsSynced other Then from new
      by true is = put_synced other ((bytes_eq-Decides name other).0 is) told
      by false is = kept_synced other is (rest is)

module _ (start old new : Clock) (p : Player) (b : Meaning) (beside : IsBeside p b) (first : Grows start old) (more : Grows old new) where
  -- Behind an outcome the count begins anew, where it is the last one.
  module _ (event : Event) (none : p.learns ≡ None) (queued : Queued) (there : due_action b.queue ≡ Some queued) where
    none_counted : 0 < p.resynced → ⊥
    none_counted some = absurd (none-some queued (sym (beside.last some) ∙ there))

    counted_before : (i : ℕ) → i < (committed p (after b event)).resynced → i < p.resynced
    counted_before i below =
        omega (arith, below, counted_none p.learns (due_action (after b event).queue) (length (after b event).boxes) p.resynced none)

    pub synced_anew : IsSettledAt new → SyncedSince start new None (committed p (after b event)) (after b event)
    synced_anew at_new = record {
      from = new;
      later = grows_then start old new first more;
      before = grows_start new;
      settled = at_new;
      counted = λ i known at below other held. let less = counted_before i below in absurd (none_counted (omega (arith, less)));
      pending = λ told is. absurd cc;
      unread = λ h is. absurd (none-some h is);
    }

  -- What was told of the next mailbox is recorded.
  module _ (told : Resynced) (is : p.learns ≡ Some told) (known : is_some (known_at told.name b.boxes) ≡ true) (settled : AllSettled b.queue)
      (s : SyncedSince start old None p b) (unread : (other : List ℕ) → Since Any (IsNotRead other) old new) where
    abbrev Told : Event
    Told = events.Learn told.name told.delta

    next : IsNamedAt told.name b.boxes p.resynced
    next = next_box (due_action b.queue) p.learns told p.resynced b.boxes (none_due b.queue settled) is beside.next

    -- the last one that is counted has this very name
    last_named : (i : ℕ) (name : List ℕ) → IsNamedAt name b.boxes i → p.resynced ≤ i → i < p.resynced + 1 → told.name ≡ name
    last_named i name at above below =
        let here : i ≡ p.resynced = omega (arith, above, below) in
        let same : next.known ≡ at.known =
        same_Some next.known at.known (sym next.there ∙ sym (ap (slice_get b.boxes) here) ∙ at.there) in
        sym next.named ∙ ap (λ (k : Known). k.name) same ∙ at.named

    -- what is to be recorded is of no other name
    is_other : (other : Resynced) (name : List ℕ) → p.learns ≡ Some other → other.name ≡ name → bytes_eq told.name name ≡ false → ⊥
    is_other other name learns named apart =
        let same : told ≡ other = same_Some told other (sym is ∙ learns) in
        let equal : bytes_eq told.name name ≡ true = (bytes_eq-Decides told.name name).1 (ap (λ (r : Resynced). r.name) same ∙ named) in
        absurd cc

    counted_one : (i : ℕ) (name : List ℕ) → IsNamedAt name b.boxes i → i < p.resynced + 1 → bytes_eq told.name name ≡ false →
        IsSynced name b s.from old
    counted_one i name at below apart = by (nat_lt i p.resynced) refl
      where
        by : (test : Bool) → nat_lt i p.resynced ≡ test → IsSynced name b s.from old
        by true less =
            subst (λ (n : List ℕ). IsSynced n b s.from old) at.named
            (s.counted i at.known at.there (ltb-true i p.resynced less)
            (λ pending. is_other pending.told at.known.name (pending.learns) (pending.named) (ap (bytes_eq told.name) at.named ∙ apart))
            (λ held. absurd held))
        by false not =
            let same : told.name ≡ name = last_named i name at (ltb-false i p.resynced not) below in
            absurd (let equal : bytes_eq told.name name ≡ true = (bytes_eq-Decides told.name name).1 same in cc)

    stands : (i : ℕ) (box : Known) → slice_get (after b Told).boxes i ≡ Some box → IsNamedAt box.name b.boxes i
    stands i box at =
        named_at box.name b.boxes i
        (sym (ap (λ (names : List (List ℕ)). slice_get names i)
        (names_put told.name (Some (learned (cache_at told.name b.boxes) told.delta)) b.boxes))
        ∙ name_at (after b Told).boxes i box at)

    pub synced_more : SyncedSince start new None (committed p (after b Told)) (after b Told)
    synced_more = record {
      from = s.from;
      later = s.later;
      before = grows_then s.from old new s.before more;
      settled = s.settled;
      counted = λ i box at below other held.
          let less : i < p.resynced + 1 =
          omega (arith, below, counted_by_one p.learns (due_action b.queue) (length (after b Told).boxes) p.resynced) in
          learned_synced b told.name told.delta known s.from old new unread box.name (s.pending told is)
          (λ apart. counted_one i box.name (stands i box at) less apart);
      pending = λ other none. absurd cc;
      unread = λ h none. absurd (none-some h none);
    }

-- no intent is needed where all is settled
none_intended : (p : Player) (b : Meaning) (o : Option Known) (intent : Intent) → step_box o ≡ steps.Intend intent → ⊥
none_intended p b None intent is = absurd cc
none_intended p b (Some known) intent is = absurd cc

intends_open : (p : Player) (b : Meaning) (intent : Intent) → p.learns ≡ None → step_of p b ≡ steps.Intend intent → AllSettled b.queue → ⊥
intends_open p b intent none step settled =
    none_intended p b (slice_get b.boxes p.resynced) intent
    (sym (ap (step_due p b) (none_due b.queue settled)) ∙ sym (ap (step_learn p b) none) ∙ step)

-- an action whose try is taken back isn't settled
open_then : (k : ℕ) (x : Queued) (xs : List Queued) (o : Option Outcome) → x.outcome ≡ o → (q : Queued) →
    slice_get (x ∷ xs) (settled_then o (due xs)) ≡ Some q → ((y : Queued) → due_action xs ≡ Some y → AllSettled (change_first (tried k) xs) → ⊥) →
    AllSettled (change_queued (tried k) x xs (change_first (tried k) xs) o) → ⊥
open_then k x xs None e q there later all = absurd (let some : IsSome {T = Outcome} None = subst IsSome e all.0 in cc)
open_then k x xs (Some old) e q there later all = later q there all.1

still_open : (k : ℕ) (queue : List Queued) (q : Queued) → due_action queue ≡ Some q → AllSettled (change_first (tried k) queue) → ⊥
still_open k [] q there all = absurd cc
still_open k (x ∷ xs) q there all = open_then k x xs x.outcome refl q there (still_open k xs) all

-- So it goes on with the event that the player needs.
pub synced_on : (start old new : Clock) (p : Player) (b : Meaning) (event : Event) → IsBeside p b → Records (need_of p b) event → IsLawful b event →
    Grows start old → Takes mail (Some b) event old new → HasBooks mail (Firm (Some (after b event))) new.now → IsSyncedSoFar start old None p b →
    IsSyncedSoFar start new None (committed p (after b event)) (after b event)
synced_on start old new p b event beside needed lawful first takes books so_far = by (recorded p b event needed)
  where
    more : Grows old new
    more = takes_grows b event old new takes

    by : IsRecorded p b event → IsSyncedSoFar start new None (committed p (after b event)) (after b event)
    by (inl x) = λ settled.
        absurd (intends_open p b x.intent x.none x.step (subst (λ (e : Event). AllSettled (after b e).queue) x.is settled))
    by (inr (inl x)) = λ settled.
        synced_anew start old new p b beside first more event x.none x.queued x.there
        (record { book = after b event; books = books; settled = settled })
    by (inr (inr (inr x))) = λ settled.
        absurd (still_open x.next b.queue x.queued x.there (subst (λ (e : Event). AllSettled (after b e).queue) x.is settled))
    by (inr (inr (inl x))) =
        subst (λ (e : Event). IsSyncedSoFar start new None (committed p (after b e)) (after b e)) (sym x.is)
        (λ settled. synced_more start old new p b beside first more x.told x.learns
        (learns_known b x.told.name x.told.delta (subst (IsLawful b) x.is lawful)) settled (so_far settled)
        (λ other. takes_not_read other b event old new takes))

pub synced_then : (p q : Player) (b c : Meaning) (event : Event) → c ≡ after b event → q ≡ committed p c → (start new : Clock) →
    IsSyncedSoFar start new None (committed p (after b event)) (after b event) → IsSyncedSoFar start new None q c
synced_then p q b c event is goes start new so_far =
    subst (λ (x : Player). IsSyncedSoFar start new None x c) (sym goes)
    (subst (λ (m : Meaning). IsSyncedSoFar start new None (committed p m) m) (sym is) so_far)

-- A cache is taken away while the reply to its mailbox's SELECT is held.
pub synced_reset : (start old new : Clock) (p : Player) (b : Meaning) (h : Held) (kept : ℕ) (event : Event) →
    event ≡ events.Reset h.chosen.name kept h.told → p.learns ≡ None → Takes mail (Some b) event old new →
    IsSyncedSoFar start old (Some h) p b → IsSyncedSoFar start new (Some h) p (after b event)
synced_reset start old new p b h kept event is none takes so_far =
    subst (λ (e : Event). IsSyncedSoFar start new (Some h) p (after b e)) (sym is)
    (λ settled.
    let s = so_far settled in
    record {
      from = s.from;
      later = s.later;
      before = grows_then s.from old new s.before (takes_grows b event old new takes);
      settled = s.settled;
      counted = λ i known at below other held.
          let apart : bytes_eq h.chosen.name known.name ≡ false = apart_names h.chosen.name known.name held in
          let was : IsNamedAt known.name b.boxes i = stood i known at in
          let then : IsSynced was.known.name b s.from old =
          s.counted i was.known was.there below (λ pending. absurd (none-some pending.told (sym none ∙ pending.learns)))
          (λ same. held (same ∙ was.named)) in
          let here : IsSynced known.name b s.from old = subst (λ (n : List ℕ). IsSynced n b s.from old) was.named then in
          record {
            cache = here.cache;
            there = cache_kept h.chosen.name known.name None b.boxes apart ∙ here.there;
            level = last_later known.name here.cache s.from old new here.level (takes_not_read known.name b event old new takes);
          };
      pending = λ told learns. absurd (none-some told (sym none ∙ learns));
      unread = λ g same. record {
        reply = (s.unread g same).reply;
        is = (s.unread g same).is;
        reads = λ empty delta tells.
            last_later g.chosen.name (learned None delta) s.from old new ((s.unread g same).reads empty delta tells)
            (takes_not_read g.chosen.name b event old new takes);
      };
    })
  where
    stood : (i : ℕ) (known : Known) → slice_get (put_cache h.chosen.name None b.boxes) i ≡ Some known → IsNamedAt known.name b.boxes i
    stood i known at =
        named_at known.name b.boxes i
        (sym (ap (λ (names : List (List ℕ)). slice_get names i) (names_put h.chosen.name None b.boxes))
        ∙ name_at (put_cache h.chosen.name None b.boxes) i known at)

    apart_names : (name other : List ℕ) → (name ≡ other → ⊥) → bytes_eq name other ≡ false
    apart_names name other apart = by (bytes_eq name other) refl
      where
        by : (test : Bool) → bytes_eq name other ≡ test → bytes_eq name other ≡ false
        by true e = absurd (apart ((bytes_eq-Decides name other).0 e))
        by false e = e
