use Rattle.mail_base.specs.declared.status.Status.TheVariants as status
use Rattle.mail_top.proofs.Endings.{ended_so, said_as, said_disk, said_link, said_words}
use Rattle.body_cache.proofs.Completeness.{complete_fetch, completes}
use Rattle.body_cache.proofs.Looking.{looks_kept}
use Rattle.body_cache.proofs.ReadRuns.{quiet_ends, said_done, said_ends, said_served}
use Rattle.body_cache.proofs.TextPut.{puts_had}
use Rattle.body_cache.proofs.running.read_run.Goals as goal

pub returns-clause-ends : goal.returns-clause-ends
returns-clause-ends g c tells =
    (_, said_ends _ _ _ _ _ _ _ c.say.ensures.status (c.carry_out-ending.ensures.ends tells), c.say.ensures.prints)

pub returns-clause-kept : goal.returns-clause-kept
returns-clause-kept g c e = looks_kept _ _ _ (c.carry_out-ending.ensures.looks (g.W.Clocked.server_with_files e.tells)) e

pub returns-clause-text : goal.returns-clause-text
returns-clause-text g c fairly name uid writes ended =
    let done = said_done _ _ c.say.ensures.status ended c.carry_out-ending.ensures.not_output
    (quiet_ends _ _ _ _ _ _ (c.carry_out-ending.ensures.ends (g.W.Clocked.server_with_files fairly.tells))) in
    puts_had _ _ _ name uid _ fairly (c.carry_out-ending.ensures.server.told fairly.tells name uid writes done)

pub returns-clause-words : goal.returns-clause-words
returns-clause-words g c = said_words _ _ _ c.say.ensures.status c.carry_out-ending.ensures.words

pub returns-clause-causes : goal.returns-clause-causes
returns-clause-causes g c =
    let causes = c.carry_out-ending.ensures.causes in record {
      disk = λ is. causes.disk (said_disk _ _ c.say.ensures.status is);
      link_fault = λ is. causes.link_fault (said_link _ _ c.say.ensures.status is);
      count = causes.count;
      link_count = causes.link_count;
      disk_unfailed = λ other.
          causes.disk_unfailed (λ is. other (ended_so status.Disk _ _ (λ e. cc e) (λ e. cc e) c.say.ensures.status is));
      link_unfailed = λ other.
          causes.link_unfailed (λ is. other (ended_so status.Link _ _ (λ e. cc e) (λ e. cc e) c.say.ensures.status is));
    }

pub returns-clause-shelf : goal.returns-clause-shelf
returns-clause-shelf g c =
    let causes = c.carry_out-ending.ensures.shelf in record {
      shelf = λ is. causes.shelf (said_as status.Shelf _ _ (λ e. cc e) c.say.ensures.status is);
      count = causes.count;
      unfailed = λ other.
          causes.unfailed (λ is. other (ended_so status.Shelf _ _ (λ e. cc e) (λ e. cc e) c.say.ensures.status is));
    }

pub returns-clause-sink : goal.returns-clause-sink
returns-clause-sink g c = record { output = c.say.ensures.output; sink_count = c.say.ensures.count }

pub returns-clause-completes : goal.returns-clause-completes
returns-clause-completes g c tells no_disk no_shelf no_sink =
    let begun = c.carry_out-ending.ensures in
    let said = c.say.ensures in
    completes _ _ _ _ _ _ (said_ends _ _ _ _ _ _ _ said.status (begun.ends tells))
    (λ is. no_disk (begun.causes.disk (said_disk _ _ said.status is)))
    (λ is. no_shelf (begun.shelf.shelf (said_as status.Shelf _ _ (λ e. cc e) said.status is))) (λ is. no_sink (said.output is))

pub returns-clause-complete_fetch : goal.returns-clause-complete_fetch
returns-clause-complete_fetch g c tells name uid key writes keyed serving there no_disk no_link no_shelf no_sink no_limit =
    let begun = c.carry_out-ending.ensures in
    let said = c.say.ensures in
    complete_fetch _ _ _ _ _ _ (said_ends _ _ _ _ _ _ _ said.status (begun.ends (g.W.Clocked.server_with_files tells)))
    (λ is. no_disk (begun.causes.disk (said_disk _ _ said.status is)))
    (λ is. no_shelf (begun.shelf.shelf (said_as status.Shelf _ _ (λ e. cc e) said.status is))) (λ is. no_sink (said.output is))
    name uid key writes keyed (said_served _ _ said.status (begun.server.serves tells name uid writes serving there))
    (λ is. no_link (begun.causes.link_fault (said_link _ _ said.status is))) no_limit
