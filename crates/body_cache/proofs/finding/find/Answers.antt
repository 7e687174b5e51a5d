use Rattle.mail_top.proofs.Openings.{never_err}
use Rattle.body_cache.proofs.Founds.{disk_found, disk_told, found, none_found, reason_comes, reason_no_disk, refusal_comes, unopened}
use Rattle.body_cache.proofs.finding.find.Goals as goal

pub returns-in_err-shown-clause-why : goal.returns-in_err-shown-clause-why
returns-in_err-shown-clause-why g c tells =
    unopened _ _ _ c.show_book.result _ c.in_err-shown.was (c.show_book.ensures.ends tells) _ c.from_residual.ensures.1

pub returns-in_err-shown-clause-only : goal.returns-in_err-shown-clause-only
returns-in_err-shown-clause-only g c = refusal_comes c.show_book.result _ c.in_err-shown.was c.show_book.ensures.only _ c.from_residual.ensures.1

pub returns-in_err-shown-clause-cause : goal.returns-in_err-shown-clause-cause
returns-in_err-shown-clause-cause g c is =
    c.show_book.ensures.cause (disk_found c.show_book.result _ c.in_err-shown.was _ c.from_residual.ensures.1 is)

pub returns-in_err-shown-clause-unfailed : goal.returns-in_err-shown-clause-unfailed
returns-in_err-shown-clause-unfailed g c other =
    c.show_book.ensures.unfailed (λ is. other (disk_told c.show_book.result _ c.in_err-shown.was _ c.from_residual.ensures.1 is))

pub returns-in_err-key-clause-why : goal.returns-in_err-key-clause-why
returns-in_err-key-clause-why g c tells =
    none_found _ _ _ c.show_book.result _ _ c.in_ok-shown.was c.in_err-key.was (c.show_book.ensures.ends tells) _ c.from_residual-in_err-key.ensures.1

pub returns-in_err-key-clause-only : goal.returns-in_err-key-clause-only
returns-in_err-key-clause-only g c = reason_comes _ _ c.from_residual-in_err-key.ensures.1

pub returns-in_err-key-clause-cause : goal.returns-in_err-key-clause-cause
returns-in_err-key-clause-cause g c is = absurd (reason_no_disk _ _ c.from_residual-in_err-key.ensures.1 is)

pub returns-in_err-key-clause-unfailed : goal.returns-in_err-key-clause-unfailed
returns-in_err-key-clause-unfailed g c other = c.in_ok-shown.ensures.unfailed (never_err _ _)

pub returns-clause-finds : goal.returns-clause-finds
returns-clause-finds g c tells =
    found _ _ _ c.show_book.result _ _ c.in_ok-shown.was c.in_ok-key.was (c.show_book.ensures.ends tells)

pub returns-clause-unfailed : goal.returns-clause-unfailed
returns-clause-unfailed g c other = c.in_ok-shown.ensures.unfailed (never_err _ _)
