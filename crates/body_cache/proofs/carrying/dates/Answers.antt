use Rattle.mail_top.specs.Course.{course_of}
use Rattle.body_cache.specs.Causing.{shelving_of}
use Rattle.body_cache.proofs.DateLines.{dates_end}
use Rattle.body_cache.proofs.carrying.dates.Goals as goal

pub returns-in-Some-clause-ends : goal.returns-in-Some-clause-ends
returns-in-Some-clause-ends g c = λ t.
    dates_end c.args.name.now (course_of g.D.Clocked g.D.Disk.seen c.args.disk.now c.show_book.new.disk)
    (shelving_of g.K.Shelf c.args.shelf.now c.dates_text.new.shelf) c.show_book.result c.in_ok-shown.shown c.in-Some.cached c.dates_text.result
    c.in_ok-shown.was c.in-Some.is (c.show_book.ensures.ends t) c.dates_text.ensures.dates
