use Rattle.std.proofs.Common.{◌≡◌, rules, refl, sym, ap, subst, arith, Err}
use Rattle.world_traits.proofs.Passing.{since_start}
use Rattle.journal_core.specs.Sides.{version_written}
use Rattle.journal_core.specs.Standing.{Standing}
use Rattle.store_core.specs.Faults.{of_creating}
use Rattle.store_core.specs.Fold.{IsFold, begins}
use Rattle.store_core.proofs.Folds.{made_first, well_still}
use Rattle.store_core.proofs.Unless.{not_disk}
use Rattle.store_core.proofs.Beginning.{some_begin, left_begun, never_over}
use Rattle.store_core.proofs.Moments.{begins_no_book, begins_book}
use Rattle.store_core.proofs.store.Store.init.Goals as goal

pub create-requires : goal.create-requires
create-requires g c = record { some = omega arith; sizes = (some_begin c.in_ok-body.body c.args.names c.requires c.in_ok-body.ensures, tt) }

pub returns-in_err-journal-clause-not_full : goal.returns-in_err-journal-clause-not_full
returns-in_err-journal-clause-not_full g c end wanted is =
    let full = c.create.ensures.full end wanted (search rules) in
    never_over c.in_ok-body.body c.args.names _ c.requires c.in_ok-body.ensures refl full.0

pub returns-clause-still : goal.returns-clause-still
returns-clause-still g c tells = left_begun c.in_ok-body.body c.args.names c.requires c.in_ok-body.ensures _ _ _ _ refl
    (ap (λ (j : Standing). j.version) c.in_ok-journal.ensures.value) (ap (λ (j : Standing). j.all_read) c.in_ok-journal.ensures.value)
    (c.in_ok-journal.ensures.still tells) _ c.in_ok-book.ensures

pub returns-in_err-journal-clause-kept : goal.returns-in_err-journal-clause-kept
returns-in_err-journal-clause-kept g c tells err no_disk =
    let was : c.from_residual-in_err-journal.result ≡ Err (of_creating c.in_err-journal.field-0.0) = search rules in
    c.create.ensures.kept tells (rw c.in_err-journal.was refl) (not_disk c.in_err-journal.field-0.0 c.create.result _ c.in_err-journal.was was no_disk)

pub returns-clause-fold : goal.returns-clause-fold
returns-clause-fold g c = subst IsFold (sym c.in_ok-book.ensures) (begins c.args.names c.requires)

pub returns-in_err-body-clause-moments : goal.returns-in_err-body-clause-moments
returns-in_err-body-clause-moments g c tells = begins_no_book c.args.names (g.D.Clocked.clock c.args.disk.now)

pub returns-in_err-book-clause-moments : goal.returns-in_err-book-clause-moments
returns-in_err-book-clause-moments g c tells = begins_no_book c.args.names (g.D.Clocked.clock c.args.disk.now)

pub returns-in_err-journal-clause-moments : goal.returns-in_err-journal-clause-moments
returns-in_err-journal-clause-moments g c tells = begins_book c.in_ok-body.body c.args.names c.requires c.in_ok-body.ensures _ _ _
    (g.met.D.Disk.seen_is c.args.disk.now tells) _ refl (c.create.ensures.creates tells)

pub returns-in_err-body-clause-taken : goal.returns-in_err-body-clause-taken
returns-in_err-body-clause-taken g c tells taken = since_start _ _ (g.D.Clocked.clock c.args.disk.now)

pub returns-in_err-book-clause-taken : goal.returns-in_err-book-clause-taken
returns-in_err-book-clause-taken g c tells taken = since_start _ _ (g.D.Clocked.clock c.args.disk.now)

pub returns-in_err-journal-clause-taken : goal.returns-in_err-journal-clause-taken
returns-in_err-journal-clause-taken g c tells taken = c.create.ensures.taken tells taken

pub returns-clause-taken : goal.returns-clause-taken
returns-clause-taken g c tells taken = c.create.ensures.taken tells taken

pub returns-clause-moments : goal.returns-clause-moments
returns-clause-moments g c tells = begins_book c.in_ok-body.body c.args.names c.requires c.in_ok-body.ensures _ _ _
    (g.met.D.Disk.seen_is c.args.disk.now tells) _ refl (c.create.ensures.creates tells)

pub invariant_of-result : goal.invariant_of-result
invariant_of-result g c = (
  ap (λ (j : Standing). j.all_read) c.in_ok-journal.ensures.value,
  well_still version_written _ _ (ap (λ (j : Standing). j.version) c.in_ok-journal.ensures.value)
      (made_first version_written _ c.args.names c.in_ok-book.ensures c.requires).well,
)
