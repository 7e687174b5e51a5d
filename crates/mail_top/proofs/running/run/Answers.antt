use Rattle.mail_base.specs.declared.status.Status.TheVariants as status
use Rattle.mail_top.proofs.Endings.{ended_so, said_ends, said_words, said_disk, said_link, said_input, said_reply, said_servers, said_through}
use Rattle.mail_top.proofs.Endings.{completes_play}
use Rattle.mail_top.proofs.Besides.{completes}
use Rattle.mail_top.proofs.Headlines.{once_or_reported, run_finished, stays_owned}
use Rattle.mail_top.proofs.Repeated.{held_later, outside_later}
use Rattle.mail_top.proofs.running.run.Goals as goal

pub returns-clause-goes : goal.returns-clause-goes
returns-clause-goes g c tells =
    let went = c.carry_out-ending.ensures.goes tells in (
      went.0,
      went.1,
      _,
      record {
        ends = said_ends _ _ _ _ _ _ _ c.say.ensures.status went.2.ends;
        every = went.2.every;
        books = went.2.books;
      },
      λ server is. c.carry_out-ending.ensures.server.honest server (said_reply _ _ c.say.ensures.status is),
      c.say.ensures.prints,
    )

pub returns-clause-words : goal.returns-clause-words
returns-clause-words g c = said_words _ _ _ c.say.ensures.status c.carry_out-ending.ensures.words

pub returns-clause-causes : goal.returns-clause-causes
returns-clause-causes g c =
    let causes = c.carry_out-ending.ensures.causes in record {
      disk = λ is. causes.disk (said_disk _ _ c.say.ensures.status is);
      link_fault = λ is. causes.link_fault (said_link _ _ c.say.ensures.status is);
      count = causes.count;
      link_count = causes.link_count;
      disk_unfailed = λ other.
          causes.disk_unfailed (λ is. other (ended_so status.Disk _ _ (λ e. cc e) (λ e. cc e) c.say.ensures.status is));
      link_unfailed = λ other.
          causes.link_unfailed (λ is. other (ended_so status.Link _ _ (λ e. cc e) (λ e. cc e) c.say.ensures.status is));
    }

pub returns-clause-streams : goal.returns-clause-streams
returns-clause-streams g c =
    let reads = c.carry_out-ending.ensures.reads in record {
      sink = record { output = c.say.ensures.output; sink_count = c.say.ensures.count };
      reads = record {
        unread = reads.unread;
        read = reads.read;
        taken = reads.taken;
        whole = λ tells append through. reads.whole tells append (said_through _ _ c.say.ensures.status through);
        out = λ tells unfailed enough.
            reads.out tells (λ is. unfailed (ended_so status.Input _ _ (λ e. cc e) (λ e. cc e) c.say.ensures.status is))
            (λ is. enough (ended_so status.Memory _ _ (λ e. cc e) (λ e. cc e) c.say.ensures.status is));
        input_fault = λ is. reads.input_fault (said_input _ _ c.say.ensures.status is);
        source_count = reads.source_count;
      };
    }

pub returns-clause-completes : goal.returns-clause-completes
returns-clause-completes g c tells no_disk no_sink =
    let begun = c.carry_out-ending.ensures in
    let said = c.say.ensures in
    let went = begun.goes tells in
    completes _ _ _ _ _ _ _ _ _ (said_ends _ _ _ _ _ _ _ said.status went.2.ends) (said_words _ _ _ said.status begun.words).0
    (λ is. no_disk (begun.causes.disk (said_disk _ _ said.status is))) (λ is. no_sink (said.output is))
    (λ no_input is. no_input (begun.reads.input_fault (said_input _ _ said.status is))) went.1

pub returns-clause-complete_play : goal.returns-clause-complete_play
returns-clause-complete_play g c asks fairly serving none no_disk no_link no_sink no_limit =
    let files = g.W.Clocked.server_with_files fairly.tells in
    let begun = c.carry_out-ending.ensures in
    let said = c.say.ensures in
    completes_play _ _ _ _ _ _ (said_ends _ _ _ _ _ _ _ said.status (begun.goes files).2.ends) (said_words _ _ _ said.status begun.words).0
    (λ is. no_disk (begun.causes.disk (said_disk _ _ said.status is))) (λ is. no_sink (said.output is)) asks none.book none.holds
    (λ is. no_link (begun.causes.link_fault (said_link _ _ said.status is))) no_limit
    (λ bad. begun.server.serves asks fairly serving none (said_servers _ _ said.status bad))

pub returns-clause-journal : goal.returns-clause-journal
returns-clause-journal g c = record {
  held = λ tells. held_later _ _ _ _ _ (c.carry_out-ending.ensures.goes tells).2.every;
  sides = c.carry_out-ending.ensures.sides;
}

pub returns-clause-any_server : goal.returns-clause-any_server
returns-clause-any_server g c tells = c.carry_out-ending.ensures.server.any_server tells

pub returns-clause-moments : goal.returns-clause-moments
returns-clause-moments g c =
    let server = c.carry_out-ending.ensures.server in record {
      joined = server.joined;
      twice = λ at f. server.twice f.tells f.kept at f.reach f.left f.fair;
      owned = λ enters at f. stays_owned _ _ (server.joined enters) at f.reach f.left f.fair;
    }

pub returns-clause-outcomes : goal.returns-clause-outcomes
returns-clause-outcomes g c =
    let ended = c.carry_out-ending.ensures in
    let said = c.say.ensures.status in record {
      finishes = λ tells asks through. run_finished _ _ _ _ _ _ asks (said_through _ _ said through) (ended.goes tells).2.ends;
      once_or_reported = λ asks through fairly.
          let goes = ended.goes (g.W.Clocked.server_with_files fairly.tells) in
          once_or_reported _ _ _ (run_finished _ _ _ _ _ _ asks (said_through _ _ said through) goes.2.ends) (ended.server.kept asks fairly);
      surely = λ asks other fairly.
          ended.server.surely asks (λ is. other (ended_so status.Disk _ _ (λ e. cc e) (λ e. cc e) said is)) fairly;
    }

pub returns-clause-server : goal.returns-clause-server
returns-clause-server g c =
    let server = c.carry_out-ending.ensures.server in
    let said = c.say.ensures.status in record {
      truly = server.truly;
      synced = λ asks through fairly. server.synced asks (said_through _ _ said through) fairly;
      faultless = λ fairly is. server.faultless fairly (said_reply _ _ said is);
    }

pub returns-clause-link : goal.returns-clause-link
returns-clause-link g c = record {
  connects = c.carry_out-ending.ensures.server.connects;
  spares = λ never. record {
    link = c.carry_out-ending.ensures.link never;
    outside = λ tells. outside_later _ _ never _ _ _ (c.carry_out-ending.ensures.goes tells).2.every;
  };
}
