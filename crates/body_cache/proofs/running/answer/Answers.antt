use Rattle.std.proofs.Common.{ℕ, List, sym, subst, ◌∙◌}
use Rattle.play_driver.specs.Granting.{IsBox}
use Rattle.mail_top.proofs.Besides.{causes_as}
use Rattle.body_cache.specs.Causing.{shelving_of}
use Rattle.body_cache.specs.Completing.{IsServed}
use Rattle.body_cache.specs.Fetched.{PutsTold}
use Rattle.body_cache.specs.Words.{IsFetch}
use Rattle.body_cache.proofs.Looking.{looks_alone, reads_outside}
use Rattle.body_cache.proofs.ReadRuns.{ends_as, fetch_named, read_output, read_words, shelf_as, told_done}
use Rattle.body_cache.proofs.running.answer.Goals as goal

pub returns-in-Fetch-clause-ends : goal.returns-in-Fetch-clause-ends
returns-in-Fetch-clause-ends g c tells =
    ends_as _ _ _ _ _ _ _ _ _ c.in-Fetch.is c.ending_of_read.ensures.status c.ending_of_read.ensures.text (c.fetch.ensures.ends tells)

pub returns-in-Fetch-clause-server : goal.returns-in-Fetch-clause-server
returns-in-Fetch-clause-server g c = record {
  told = λ tells name uid is done.
      told_done
      (λ n u. PutsTold n u (g.W.Clocked.clock c.args.world.now) (g.W.Clocked.clock c.fetch.new.world) (shelving_of g.K.Shelf c.args.shelf.now c.fetch.new.shelf))
      _ _ name _ uid _ _ c.in-Fetch.is is c.ending_of_read.ensures.status done (c.fetch.ensures.told tells);
  serves = λ tells name uid is serving there.
      subst IsServed (sym c.ending_of_read.ensures.status)
      (c.fetch.ensures.serves tells serving (subst (λ (n : List ℕ). IsBox n (g.W.Clocked.clock c.args.world.now).now.outside.server) (fetch_named _ name _ uid (sym is ∙ c.in-Fetch.is)) there));
}

pub returns-in-Fetch-clause-not_output : goal.returns-in-Fetch-clause-not_output
returns-in-Fetch-clause-not_output g c is = read_output _ (sym c.ending_of_read.ensures.status ∙ is)

pub returns-in-Fetch-clause-not_words : goal.returns-in-Fetch-clause-not_words
returns-in-Fetch-clause-not_words g c is = read_words _ (sym c.ending_of_read.ensures.status ∙ is)

pub returns-in-Fetch-clause-causes : goal.returns-in-Fetch-clause-causes
returns-in-Fetch-clause-causes g c = causes_as _ _ _ _ _ c.ending_of_read.ensures.status c.fetch.ensures.causes

pub returns-in-Fetch-clause-shelf : goal.returns-in-Fetch-clause-shelf
returns-in-Fetch-clause-shelf g c = shelf_as _ _ _ _ _ c.ending_of_read.ensures.status c.fetch.ensures.shelf

pub returns-in-Fetch-clause-spares : goal.returns-in-Fetch-clause-spares
returns-in-Fetch-clause-spares g c never = absurd (never (subst IsFetch (sym c.in-Fetch.is) tt))

pub returns-in-Show-clause-ends : goal.returns-in-Show-clause-ends
returns-in-Show-clause-ends g c tells =
    ends_as _ _ _ _ _ _ _ _ _ c.in-Show.is c.ending_of_read-in-Show.ensures.status c.ending_of_read-in-Show.ensures.text (c.show.ensures.ends tells)

pub returns-in-Show-clause-looks : goal.returns-in-Show-clause-looks
returns-in-Show-clause-looks g c tells = looks_alone _ _ _ (c.show.ensures.reads tells) c.show.ensures.link

pub returns-in-Show-clause-server : goal.returns-in-Show-clause-server
returns-in-Show-clause-server g c = record {
  told = λ tells name uid is done. absurd (let shown = c.in-Show.is in cc (shown, is));
  serves = λ tells name uid is serving there. absurd (let shown = c.in-Show.is in cc (shown, is));
}

pub returns-in-Show-clause-not_output : goal.returns-in-Show-clause-not_output
returns-in-Show-clause-not_output g c is = read_output _ (sym c.ending_of_read-in-Show.ensures.status ∙ is)

pub returns-in-Show-clause-not_words : goal.returns-in-Show-clause-not_words
returns-in-Show-clause-not_words g c is = read_words _ (sym c.ending_of_read-in-Show.ensures.status ∙ is)

pub returns-in-Show-clause-causes : goal.returns-in-Show-clause-causes
returns-in-Show-clause-causes g c = causes_as _ _ _ _ _ c.ending_of_read-in-Show.ensures.status c.show.ensures.causes

pub returns-in-Show-clause-shelf : goal.returns-in-Show-clause-shelf
returns-in-Show-clause-shelf g c = shelf_as _ _ _ _ _ c.ending_of_read-in-Show.ensures.status c.show.ensures.shelf

pub returns-in-Show-clause-spares : goal.returns-in-Show-clause-spares
returns-in-Show-clause-spares g c never =
    record { link = c.show.ensures.link; outside = λ tells. reads_outside _ _ (c.show.ensures.reads tells) }

pub returns-in-Dates-clause-ends : goal.returns-in-Dates-clause-ends
returns-in-Dates-clause-ends g c tells =
    ends_as _ _ _ _ _ _ _ _ _ c.in-Dates.is c.ending_of_read-in-Dates.ensures.status c.ending_of_read-in-Dates.ensures.text
    (c.dates.ensures.ends tells)

pub returns-in-Dates-clause-looks : goal.returns-in-Dates-clause-looks
returns-in-Dates-clause-looks g c tells = looks_alone _ _ _ (c.dates.ensures.reads tells) c.dates.ensures.link

pub returns-in-Dates-clause-server : goal.returns-in-Dates-clause-server
returns-in-Dates-clause-server g c = record {
  told = λ tells name uid is done. absurd (let shown = c.in-Dates.is in cc (shown, is));
  serves = λ tells name uid is serving there. absurd (let shown = c.in-Dates.is in cc (shown, is));
}

pub returns-in-Dates-clause-not_output : goal.returns-in-Dates-clause-not_output
returns-in-Dates-clause-not_output g c is = read_output _ (sym c.ending_of_read-in-Dates.ensures.status ∙ is)

pub returns-in-Dates-clause-not_words : goal.returns-in-Dates-clause-not_words
returns-in-Dates-clause-not_words g c is = read_words _ (sym c.ending_of_read-in-Dates.ensures.status ∙ is)

pub returns-in-Dates-clause-causes : goal.returns-in-Dates-clause-causes
returns-in-Dates-clause-causes g c = causes_as _ _ _ _ _ c.ending_of_read-in-Dates.ensures.status c.dates.ensures.causes

pub returns-in-Dates-clause-shelf : goal.returns-in-Dates-clause-shelf
returns-in-Dates-clause-shelf g c = shelf_as _ _ _ _ _ c.ending_of_read-in-Dates.ensures.status c.dates.ensures.shelf

pub returns-in-Dates-clause-spares : goal.returns-in-Dates-clause-spares
returns-in-Dates-clause-spares g c never =
    record { link = c.dates.ensures.link; outside = λ tells. reads_outside _ _ (c.dates.ensures.reads tells) }
