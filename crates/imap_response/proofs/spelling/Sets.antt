-- Sets of UIDs in front of a text: what is read, and what is spelled.
use Rattle.std.proofs.Common.{◌≡◌, ℕ, List, Some, refl, ap, sym, ◌∙◌, subst, Result, Ok, Err}
use Rattle.uid_sets.specs.SequenceSet.{Spells, items_of}
use Rattle.uid_sets.specs.declared.uid.UidRange.{UidRange}
use Rattle.uid_sets.specs.declared.set_fault.SetFault.{SetFault}
use Rattle.uid_sets.proofs.Fits.{items_of_fit}
use Rattle.imap_response.specs.Sets.{set_of_ranges, if_written, set_at}
use Rattle.imap_response.proofs.spelling.Numbers.{IsFront, front_spells, front_reads}
use Rattle.imap_response.proofs.SetLemmas.{set_canonical, set_members, spelt_set}
use Rattle.imap_response.proofs.spelling.SetBytes.{set_wide}

if_written_ok : (read : Result (List UidRange) SetFault) (ranges : List UidRange) → if_written read ≡ Some ranges →
    (written : List UidRange) × (read ≡ Ok written) × (set_of_ranges written ≡ ranges)
if_written_ok (Ok written) ranges is = (written, refl, cc)
if_written_ok (Err fault) ranges is = absurd cc

pub set_spells : (run : List ℕ) (ranges : List UidRange) → if_written (items_of run) ≡ Some ranges → Spells run ranges
set_spells run ranges is =
    let w = if_written_ok (items_of run) ranges is in
    let fit = items_of_fit run w.0 w.1 in
    subst (Spells run) w.2 (record { written = w.0; read = w.1; canonical = set_canonical w.0 fit; members = λ uid. set_members w.0 uid fit })

pub set_reads : (run : List ℕ) (ranges : List UidRange) → Spells run ranges → if_written (items_of run) ≡ Some ranges
set_reads run ranges spells = ap if_written spells.read ∙ ap Some (sym (spelt_set run ranges spells))

pub set_at_spells : (text : List ℕ) (ranges : List UidRange) (rest : List ℕ) → set_at text ≡ Ok (ranges, rest) → IsFront Spells text ranges rest
unfolding set_at
set_at_spells text ranges rest is = front_spells Spells (λ run. if_written (items_of run)) set_spells text ranges rest is

pub set_at_reads : (text : List ℕ) (ranges : List UidRange) (rest : List ℕ) → IsFront Spells text ranges rest → set_at text ≡ Ok (ranges, rest)
unfolding set_at
set_at_reads text ranges rest is = front_reads Spells (λ run. if_written (items_of run))
    (λ run ranges spells. (set_reads run ranges spells, set_wide run spells.written spells.read)) text ranges rest is
