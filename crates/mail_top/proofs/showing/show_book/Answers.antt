use Rattle.journal_core.proofs.HeldBodies.{narrowed}
use Rattle.mail_top.proofs.Openings.{never_err, opened_stays, store_disk, store_failed}
use Rattle.mail_top.proofs.Showings.{memory_showing, reading_refusal, shown_showing, unopened_showing}
use Rattle.mail_top.proofs.showing.show_book.Goals as goal

pub returns-in_err-store-clause-ends : goal.returns-in_err-store-clause-ends
returns-in_err-store-clause-ends g c tells =
    unopened_showing _ _ _ c.in_err-store.was c.from_residual.ensures.1 c.open.ensures.only _ (narrowed _ _ (c.open.ensures.moments tells).told)
    (c.open.ensures.seen tells) (c.open.ensures.broken tells) _

pub returns-in_err-store-clause-reads : goal.returns-in_err-store-clause-reads
returns-in_err-store-clause-reads g c tells = record {
  keeps = (c.open.ensures.moments tells).held;
  books = (c.open.ensures.moments tells).chooses;
  one_side = (c.open.ensures.moments tells).one_side;
  each_one_side = (c.open.ensures.moments tells).each_one_side;
}

pub returns-in_err-store-clause-only : goal.returns-in_err-store-clause-only
returns-in_err-store-clause-only g c refusal is =
    reading_refusal _ _ _ c.in_err-store.was c.from_residual.ensures.1 c.open.ensures.only refusal is

pub returns-in_err-store-clause-cause : goal.returns-in_err-store-clause-cause
returns-in_err-store-clause-cause g c is = c.open.ensures.blames.cause (store_disk _ _ _ c.in_err-store.was c.from_residual.ensures.1 is)

pub returns-in_err-store-clause-unfailed : goal.returns-in_err-store-clause-unfailed
returns-in_err-store-clause-unfailed g c other =
    c.open.ensures.blames.unfailed (λ is. other (store_failed _ _ _ c.in_err-store.was c.from_residual.ensures.1 is))

pub returns-in_err-shown-clause-unfailed : goal.returns-in_err-shown-clause-unfailed
returns-in_err-shown-clause-unfailed g c other = c.in_ok-store.ensures.blames.unfailed (never_err _ _)

pub returns-clause-unfailed : goal.returns-clause-unfailed
returns-clause-unfailed g c other = c.in_ok-store.ensures.blames.unfailed (never_err _ _)

pub returns-in_err-shown-clause-ends : goal.returns-in_err-shown-clause-ends
returns-in_err-shown-clause-ends g c tells =
    memory_showing _ _ _ (narrowed _ _ (c.open.ensures.moments tells).told) (c.in_ok-store.ensures.seen tells (never_err _ _)) c.from_residual-in_err-shown.ensures.1

pub returns-in_err-shown-clause-reads : goal.returns-in_err-shown-clause-reads
returns-in_err-shown-clause-reads g c tells = record {
  keeps = (c.open.ensures.moments tells).held;
  books = (c.open.ensures.moments tells).chooses;
  one_side = (c.open.ensures.moments tells).one_side;
  each_one_side = (c.open.ensures.moments tells).each_one_side;
}

pub returns-clause-ends : goal.returns-clause-ends
returns-clause-ends g c tells =
    shown_showing _ _ _ (opened_stays _ _ (c.in_ok-store.ensures.still tells) (c.in_ok-store.ensures.seen tells (never_err _ _))) _ _
    c.book.ensures c.in_ok-shown.ensures

pub returns-clause-reads : goal.returns-clause-reads
returns-clause-reads g c tells = record {
  keeps = (c.open.ensures.moments tells).held;
  books = (c.open.ensures.moments tells).chooses;
  one_side = (c.open.ensures.moments tells).one_side;
  each_one_side = (c.open.ensures.moments tells).each_one_side;
}
