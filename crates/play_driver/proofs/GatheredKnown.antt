-- What is joined and known where a mailbox is resynchronised that the player needs.
use Rattle.action_queue.specs.Book.{Meaning, cache_at, learned}
use Rattle.imap_session.specs.Enquiring.{Enquiring}
use Rattle.imap_session.specs.declared.permits.Permits.{Permits}
use Rattle.mailbox_cache.specs.declared.cache.Cache.{Cache}
use Rattle.mailbox_cache.specs.declared.delta.Delta.{Delta}
use Rattle.play_driver.proofs.Calls.{enquires_stays}
use Rattle.play_driver.proofs.GatheredTaken.{chosen_takes, taken_delta}
use Rattle.play_driver.proofs.HeldLevel.{rows_memory, rows_read, selected_here}
use Rattle.play_driver.proofs.KnownLaws.{known_law, level_law}
use Rattle.play_driver.proofs.PlayedKept.{withstood}
use Rattle.play_driver.proofs.ReadsOne.{resynced_other, rows_other}
use Rattle.play_driver.specs.Holds.{IsHeldFor}
use Rattle.play_driver.specs.Joining.{AllFair, StaysJoined}
use Rattle.play_driver.specs.KnownAt.{GatheredAt, KnownAt, StandsKept}
use Rattle.play_driver.specs.Played.{played}
use Rattle.play_driver.specs.Questioning.{Questioning}
use Rattle.play_driver.specs.Resynchronising.{Resyncs, RowsFetched}
use Rattle.play_driver.specs.Settled.{IsReadHeld}
use Rattle.play_driver.specs.Synced.{IsLastRead, IsNotRead}
use Rattle.play_driver.specs.declared.session.Held.{Held}
use Rattle.playback.specs.Allowed.{IsGathered}
use Rattle.playback.specs.Choosing.{IsChosen}
use Rattle.book_laws.specs.Kept.{Kept, KeptBook}
use Rattle.playback.specs.Knows.{Knows}
use Rattle.playback.specs.Needs.{need_of}
use Rattle.playback.specs.Worlds.{World, given}
use Rattle.playback.specs.declared.finding.Resynced.{Resynced}
use Rattle.playback.specs.declared.player.Player.{Player}
use Rattle.qresync_core.specs.declared.fault.ResyncFault.{ResyncFault}
use Rattle.std.proofs.Common.{Err, List, None, Ok, Option, Result, Some, ap, refl, subst, sym, true, ℕ, ◌∙◌, ◌≡◌, ◌≢◌, ◌⊎◌}
use Rattle.std.specs.Prelude.{is_some}
use Rattle.std.proofs.lemmas.Option.{same_Some}
use Rattle.store_core.proofs.MailBook.{one_mail_event}
use Rattle.store_core.specs.Mail.{mail}
use Rattle.store_core.specs.Steps.{Firm}
use Rattle.world_traits.specs.Links.{Any, Linked}
use Rattle.world_traits.specs.Moments.{Clock, Since}
use Rattle.playback.specs.declared.need.Need.TheVariants as needs
use Rattle.qresync_core.specs.declared.fault.ResyncFault.TheVariants as resync_faults

-- the player was given the replies
given_known : (b : Meaning) (p q : Player) (told : Result Delta ResyncFault) (delta : Delta) → told ≡ Ok delta → (made new : Clock) (permits : Option Permits) →
    GatheredAt delta made new permits p b →
    ((delta : Delta) (w : World) → told ≡ Ok delta → KeptBook b w.course.now w.waiting → IsGathered delta b w → Knows p b w → Knows q b (given w)) →
    KnownAt made new permits None q b
given_known b p q told delta is made new permits g knows = record {
  world = given g.world;
  tells = record {
    first = g.tells.first;
    server = g.tells.server;
    each = g.tells.each;
    answered = g.tells.answered;
    waits = g.tells.waits;
    selects = g.tells.selects;
  };
  permitted = g.permitted;
  owed = refl;
  knows = knows delta g.world is g.kept g.gathered g.knows;
}

module _ (b : Meaning) (old new : Clock) (stands : StandsKept b old) where
  -- questions alone, beside a firm book
  pub asks_joined : Linked Enquiring old new → StaysJoined mail Kept played old new
  asks_joined linked = enquires_stays mail one_mail_event Kept played withstood (Firm (Some b)) old new stands.books stands.kept linked

  -- what was told is taken
  module _ (p q : Player) (name : List ℕ) (needed : need_of p b ≡ needs.Select name) (fair : AllFair mail played old new)
      (told : Result Delta ResyncFault) (chosen : IsChosen p b told q) (kept : Option Cache) (same_cache : kept ≡ cache_at name b.boxes)
      (selected : Option (List ℕ)) (count after : ℕ) (then : Option Permits)
      (resyncs : Resyncs selected count after name kept told then old new) where
    abbrev Taken : (delta : Delta) × (told ≡ Ok delta) × IsChosen p b (Ok delta) q
    Taken = taken_delta p q b told chosen

    resynced : Resyncs selected count after name (cache_at name b.boxes) (Ok Taken.0) then old new
    resynced =
        subst (λ (k : Option Cache). Resyncs selected count after name k (Ok Taken.0) then old new) same_cache
        (subst (λ (d : Result Delta ResyncFault). Resyncs selected count after name kept d then old new) Taken.1 resyncs)

    pub chosen_known : (made : Clock) (permits : Option Permits) → old.now.outside.talk.selected ≡ selected → Linked Questioning old new →
        KnownAt made old permits None p b →
        ((delta : Delta) (w : World) → told ≡ Ok delta → KeptBook b w.course.now w.waiting → IsGathered delta b w → Knows p b w →
        Knows q b (given w)) → KnownAt made new then None q b
    chosen_known made permits selects linked known =
        given_known b p q told Taken.0 Taken.1 made new then
        (known_law.gathers p b name Taken.0 count after permits then made old new stands known needed linked fair
        (subst (λ (s : Option (List ℕ)). Resyncs s count after name (cache_at name b.boxes) (Ok Taken.0) then old new) (sym selects) resynced))

    -- something is to be recorded, which makes the server's cache
    pub chosen_learns : is_some q.learns ≡ true
    chosen_learns = ap is_some (chosen_takes p b Taken.0 name q needed Taken.2).learns

    pub chosen_read : (next : Resynced) → q.learns ≡ Some next →
        (next.name ≡ name) × IsLastRead next.name (learned (cache_at next.name b.boxes) next.delta) old new
    chosen_read next is =
        subst (λ (x : Resynced). (x.name ≡ name) × IsLastRead x.name (learned (cache_at x.name b.boxes) x.delta) old new)
        (same_Some (record { name = name; delta = Taken.0 }) next (sym (chosen_takes p b Taken.0 name q needed Taken.2).learns ∙ is)) (
          refl,
          (level_law b name (cache_at name b.boxes) Taken.0 selected count after then old new refl stands fair resynced).last
              stands.none_waits stands.none_arrives,
        )

    -- and no other mailbox was read
    pub chosen_others : (other : List ℕ) → name ≢ other → Since Any (IsNotRead other) old new
    chosen_others other apart =
        resynced_other name other apart (cache_at name b.boxes) (Ok Taken.0) selected count after then old new stands.none_waits stands.none_arrives
        resynced

-- The rows behind a reply that is held are owed to the player, or they have no fault but want of memory.
module _ (b : Meaning) (old new : Clock) (stands : StandsKept b old) (h : Held) (p : Player) (told : Result Delta ResyncFault) (count after : ℕ)
    (rows : RowsFetched h (Some h.chosen.name) count after told old new) (permits : Option Permits) (made : Clock)
    (known : KnownAt made old permits (Some h) p b) (fits : IsHeldFor h p b) where
  at_box : old.now.outside.talk.selected ≡ Some h.chosen.name
  at_box = selected_here p b h permits made old stands known fits

  pub rows_gathered : cache_at h.chosen.name b.boxes ≡ None → AllFair mail played old new → (delta : Delta) → told ≡ Ok delta →
      GatheredAt delta made new permits p b
  rows_gathered away fair delta is =
      known_law.fetches p b h delta count after permits made old new stands known fits away fair
      (subst (λ (s : Option (List ℕ)). RowsFetched h s count after (Ok delta) old new) (sym at_box)
      (subst (λ (d : Result Delta ResyncFault). RowsFetched h (Some h.chosen.name) count after d old new) is rows))

  pub rows_faulty : AllFair mail played old new → (fault : ResyncFault) → told ≡ Err fault → fault ≡ resync_faults.Memory
  rows_faulty fair fault is =
      rows_memory p b h permits made old stands known fits new fair count after fault
      (subst (λ (d : Result Delta ResyncFault). RowsFetched h (Some h.chosen.name) count after d old new) is rows)

-- The rows behind a reply that is held are taken.
module _ (b : Meaning) (old new : Clock) (stands : StandsKept b old) (h : Held) (p q : Player) (told : Result Delta ResyncFault)
    (chosen : IsChosen p b told q) (count after : ℕ) (rows : RowsFetched h (Some h.chosen.name) count after told old new) where
  abbrev Told : (delta : Delta) × (told ≡ Ok delta) × IsChosen p b (Ok delta) q
  Told = taken_delta p q b told chosen

  fetched : RowsFetched h (Some h.chosen.name) count after (Ok Told.0) old new
  fetched = subst (λ (d : Result Delta ResyncFault). RowsFetched h (Some h.chosen.name) count after d old new) Told.1 rows

  module _ (permits : Option Permits) (made : Clock) (known : KnownAt made old permits (Some h) p b) (fits : IsHeldFor h p b)
      (away : cache_at h.chosen.name b.boxes ≡ None) (fair : AllFair mail played old new) where
    here : old.now.outside.talk.selected ≡ Some h.chosen.name
    here = selected_here p b h permits made old stands known fits

    pub fetched_known : ((delta : Delta) (w : World) → told ≡ Ok delta → KeptBook b w.course.now w.waiting → IsGathered delta b w → Knows p b w →
        Knows q b (given w)) → KnownAt made new permits None q b
    fetched_known knows =
        given_known b p q told Told.0 Told.1 made new permits
        (known_law.fetches p b h Told.0 count after permits made old new stands known fits away fair
        (subst (λ (s : Option (List ℕ)). RowsFetched h s count after (Ok Told.0) old new) (sym here) fetched)) knows

    -- something is to be recorded, which makes the server's cache, as it was read now, or as the reply came that was held
    pub fetched_read : (next : Resynced) → q.learns ≡ Some next →
        IsLastRead next.name (learned (cache_at next.name b.boxes) next.delta) old new
        ⊎ ((from : Clock) → IsReadHeld h from old → IsLastRead next.name (learned (cache_at next.name b.boxes) next.delta) from new)
    fetched_read next is =
        let takes = chosen_takes p b Told.0 h.chosen.name q fits.needed Told.2 in
        subst
        (λ (x : Resynced). IsLastRead x.name (learned (cache_at x.name b.boxes) x.delta) old new
        ⊎ ((from : Clock) → IsReadHeld h from old → IsLastRead x.name (learned (cache_at x.name b.boxes) x.delta) from new))
        (same_Some (record { name = h.chosen.name; delta = Told.0 }) next (sym takes.learns ∙ is))
        (subst
        (λ (o : Option Cache). IsLastRead h.chosen.name (learned o Told.0) old new
        ⊎ ((from : Clock) → IsReadHeld h from old → IsLastRead h.chosen.name (learned o Told.0) from new)) (sym away)
        (rows_read p b h permits made old stands known fits new fair count after Told.0 fetched))

    pub fetched_others : (other : List ℕ) → h.chosen.name ≢ other → Since Any (IsNotRead other) old new
    fetched_others other apart =
        rows_other h.chosen.name other apart rows.all (Some h.chosen.name) count old new stands.none_waits stands.none_arrives here rows.answered

  pub fetched_learns : need_of p b ≡ needs.Select h.chosen.name → is_some q.learns ≡ true
  fetched_learns needed = ap is_some (chosen_takes p b Told.0 h.chosen.name q needed Told.2).learns

  pub fetched_named : need_of p b ≡ needs.Select h.chosen.name → (next : Resynced) → q.learns ≡ Some next → next.name ≡ h.chosen.name
  fetched_named needed next is =
      ap (λ (x : Resynced). x.name)
      (sym (same_Some (record { name = h.chosen.name; delta = Told.0 }) next (sym (chosen_takes p b Told.0 h.chosen.name q needed Told.2).learns ∙ is)))
