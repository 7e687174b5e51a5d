use Rattle.std.proofs.Common.{inr, inl, ⊎_elim, ap, sym, refl, ◌∙◌, subst}
use Rattle.conflict_report.specs.QueueLines.{queue_text}
use Rattle.conflict_report.specs.ReportLines.{report_text}
use Rattle.mail_top.specs.Reading.{AwaitsAsked, IsAppend}
use Rattle.mail_top.specs.Telling.{status_of}
use Rattle.mail_top.specs.Words.{Init, Act, Rows, Queue, Report, IsLawful, IsPlay, request_of, wanted_of}
use Rattle.mail_top.specs.declared.request.Asked.{Asked}
use Rattle.mail_top.proofs.AnyServers.{act_whole, init_whole}
use Rattle.mail_top.proofs.Besides.{apart, causes_as, handed, input_unread, reads_apart, reads_go, refused_causes}
use Rattle.mail_top.proofs.Goings.{went_so, went_init, went_act, went_rows, went_queue, went_report, went_play, few_with, action_done, input_failed}
use Rattle.mail_top.proofs.Joinings.{init_records, action_records}
use Rattle.mail_top.proofs.Sayings.{never_init, never_act}
use Rattle.mail_top.proofs.Sayings.{no_reply, play_prints, play_asked}
use Rattle.mail_top.proofs.Showings.{showing_ends}
use Rattle.mail_top.proofs.running.answer.Goals as goal

pub returns-in-Init-clause-goes : goal.returns-in-Init-clause-goes
returns-in-Init-clause-goes g c tells = (
  g.I.Source.rest c.args.input.now,
  λ _. refl,
  went_so c.args.account.now _ (request_of c.args.asked.now (g.I.Source.rest c.args.input.now)) _ _ _ _ _ c.ending_of_init.ensures.status
      c.ending_of_init.ensures.text (ap (λ (a : Asked). request_of a (g.I.Source.rest c.args.input.now)) c.in-Init.is)
      (went_init c.args.account.now _ c.init.ensures.link _ _ _ (c.init.ensures.ends tells)
      (record { keeps = c.init.ensures.keeps tells; books = λ one books have. c.init.ensures.books tells one books have })),
)

pub returns-in-Init-clause-causes : goal.returns-in-Init-clause-causes
returns-in-Init-clause-causes g c =
    refused_causes g.W.Clocked _ _ _ _ c.ending_of_init.ensures.status c.init.ensures.cause c.init.ensures.unfailed c.init.ensures.count
    c.init.ensures.link

pub returns-in-Init-clause-reads : goal.returns-in-Init-clause-reads
returns-in-Init-clause-reads g c =
    input_unread g.I.Source _ _ _ _ _ (λ append. subst IsAppend c.in-Init.is append)
    (λ is. c.init.ensures.unread (input_failed _ _ c.ending_of_init.ensures.status is))

pub returns-in-Init-clause-server : goal.returns-in-Init-clause-server
returns-in-Init-clause-server g c =
    apart g.W.Clocked (λ told. g.W.Clocked.server_with_files told) g.W.Disk.seen _ _ _ _ _
    (λ tells. record {
      request = Init _;
      never = never_init _;
      records = init_records _;
      goes = record { keeps = c.init.ensures.keeps tells; books = λ one books have. c.init.ensures.books tells one books have };
      whole = λ was.
          init_whole (g.W.Disk.seen c.args.world.now) (g.W.Clocked.clock c.args.world.now) (g.W.Clocked.clock c.init.new.disk) was
          (g.met.W.Disk.seen_is c.args.world.now tells) (c.init.ensures.taken tells);
    })
    c.init.ensures.link (λ play. subst IsPlay c.in-Init.is play) (λ is. no_reply _ _ c.ending_of_init.ensures.status is)

pub returns-in-Init-clause-sides : goal.returns-in-Init-clause-sides
returns-in-Init-clause-sides g c tells = record {
  one_side = c.init.ensures.one_side tells;
  each_one_side = c.init.ensures.each_one_side tells;
}

pub returns-in-Act-clause-goes : goal.returns-in-Act-clause-goes
returns-in-Act-clause-goes g c tells =
    let went = c.accept.ensures.goes tells in (
      went.0,
      went.1,
      went_so c.args.account.now _ (request_of c.args.asked.now went.0) (Act (wanted_of _ went.0)) _ _ _ _ c.ending_of_action.ensures.status
          c.ending_of_action.ensures.text (ap (λ (a : Asked). request_of a went.0) c.in-Act.is)
          (went_act c.args.account.now _ c.accept.ensures.blames.link _ _ _ went.2),
    )

pub returns-in-Act-clause-causes : goal.returns-in-Act-clause-causes
returns-in-Act-clause-causes g c =
    let blames = c.accept.ensures.blames in
    refused_causes g.W.Clocked _ _ _ _ c.ending_of_action.ensures.status blames.cause blames.unfailed blames.count blames.link

pub returns-in-Act-clause-reads : goal.returns-in-Act-clause-reads
returns-in-Act-clause-reads g c = record {
  unread = λ none. ⊎_elim (λ same. same) (λ append. absurd (none (subst IsAppend (sym c.in-Act.is) append))) c.accept.ensures.awaits;
  read = λ tells.
      ⊎_elim (λ same. inl same) (λ awaits. inr (subst (λ (a : Asked). AwaitsAsked a (g.W.Disk.seen c.args.world.now)) (sym c.in-Act.is) awaits))
      (c.accept.ensures.read tells);
  taken = c.accept.ensures.taken;
  whole = λ tells append came.
      action_done _ _ _ c.ending_of_action.ensures.status came (c.accept.ensures.whole tells (subst IsAppend c.in-Act.is append));
  out = λ tells unfailed enough.
      c.accept.ensures.out tells (λ is. unfailed (c.ending_of_action.ensures.status ∙ ap status_of is))
      (λ is. enough (c.ending_of_action.ensures.status ∙ ap status_of is));
  input_fault = λ is. c.accept.ensures.input_cause (input_failed _ _ c.ending_of_action.ensures.status is);
  source_count = c.accept.ensures.source_count;
}

pub returns-in-Act-clause-server : goal.returns-in-Act-clause-server
returns-in-Act-clause-server g c =
    apart g.W.Clocked (λ told. g.W.Clocked.server_with_files told) g.W.Disk.seen _ _ _ _ _
    (λ tells.
    let went = c.accept.ensures.goes tells in record {
      request = Act (wanted_of _ went.0);
      never = never_act _;
      records = action_records _ (few_with _ went.0 (subst IsLawful c.in-Act.is c.requires));
      goes = went.2.goes;
      whole = λ was.
          act_whole (g.W.Disk.seen c.args.world.now) (g.W.Clocked.clock c.args.world.now) (g.W.Clocked.clock c.accept.new.disk) was (wanted_of _ went.0)
          went.2.goes.keeps;
    })
    c.accept.ensures.blames.link (λ play. subst IsPlay c.in-Act.is play) (λ is. no_reply _ _ c.ending_of_action.ensures.status is)

pub returns-in-Act-clause-sides : goal.returns-in-Act-clause-sides
returns-in-Act-clause-sides g c = c.accept.ensures.sides

pub returns-in-Rows-clause-goes : goal.returns-in-Rows-clause-goes
returns-in-Rows-clause-goes g c tells = (
  g.I.Source.rest c.args.input.now,
  λ _. refl,
  went_so c.args.account.now _ (request_of c.args.asked.now (g.I.Source.rest c.args.input.now)) _ _ _ _ _ c.ending_of_text.ensures.status
      c.ending_of_text.ensures.text (ap (λ (a : Asked). request_of a (g.I.Source.rest c.args.input.now)) c.in-Rows.is)
      (went_rows c.args.account.now _ c.list.ensures.link _ _ _ (c.list.ensures.ends tells)
      (reads_go (Rows _) _ (λ m w. w) (c.list.ensures.reads tells))),
)

pub returns-in-Rows-clause-causes : goal.returns-in-Rows-clause-causes
returns-in-Rows-clause-causes g c =
    refused_causes g.W.Clocked _ _ _ _ c.ending_of_text.ensures.status c.list.ensures.cause c.list.ensures.unfailed c.list.ensures.count
    c.list.ensures.link

pub returns-in-Rows-clause-reads : goal.returns-in-Rows-clause-reads
returns-in-Rows-clause-reads g c =
    input_unread g.I.Source _ _ _ _ _ (λ append. subst IsAppend c.in-Rows.is append)
    (λ is. c.list.ensures.unread (input_failed _ _ c.ending_of_text.ensures.status is))

pub returns-in-Rows-clause-server : goal.returns-in-Rows-clause-server
returns-in-Rows-clause-server g c =
    apart g.W.Clocked (λ told. g.W.Clocked.server_with_files told) g.W.Disk.seen _ _ _ _ _
    (λ tells. reads_apart _ (c.list.ensures.reads tells)) c.list.ensures.link (λ play. subst IsPlay c.in-Rows.is play) (λ is. no_reply _ _ c.ending_of_text.ensures.status is)

pub returns-in-Rows-clause-sides : goal.returns-in-Rows-clause-sides
returns-in-Rows-clause-sides g c tells = record {
  one_side = (c.list.ensures.reads tells).one_side;
  each_one_side = (c.list.ensures.reads tells).each_one_side;
}

pub returns-in-Queue-clause-goes : goal.returns-in-Queue-clause-goes
returns-in-Queue-clause-goes g c tells = (
  g.I.Source.rest c.args.input.now,
  λ _. refl,
  went_so c.args.account.now _ (request_of c.args.asked.now (g.I.Source.rest c.args.input.now)) _ _ _ _ _ c.ending_of_text-in-Queue.ensures.status
      c.ending_of_text-in-Queue.ensures.text (ap (λ (a : Asked). request_of a (g.I.Source.rest c.args.input.now)) c.in-Queue.is)
      (went_queue c.args.account.now _ c.show_book.ensures.link _ _ (showing_ends queue_text _ _ (c.show_book.ensures.ends tells))
      (reads_go Queue _ (λ m w. w) (c.show_book.ensures.reads tells))),
)

pub returns-in-Queue-clause-causes : goal.returns-in-Queue-clause-causes
returns-in-Queue-clause-causes g c =
    refused_causes g.W.Clocked _ _ _ _ c.ending_of_text-in-Queue.ensures.status c.show_book.ensures.cause c.show_book.ensures.unfailed c.show_book.ensures.count
    c.show_book.ensures.link

pub returns-in-Queue-clause-reads : goal.returns-in-Queue-clause-reads
returns-in-Queue-clause-reads g c =
    input_unread g.I.Source _ _ _ _ _ (λ append. subst IsAppend c.in-Queue.is append)
    (λ is. c.show_book.ensures.only _ (input_failed _ _ c.ending_of_text-in-Queue.ensures.status is))

pub returns-in-Queue-clause-server : goal.returns-in-Queue-clause-server
returns-in-Queue-clause-server g c =
    apart g.W.Clocked (λ told. g.W.Clocked.server_with_files told) g.W.Disk.seen _ _ _ _ _
    (λ tells. reads_apart _ (c.show_book.ensures.reads tells)) c.show_book.ensures.link (λ play. subst IsPlay c.in-Queue.is play) (λ is. no_reply _ _ c.ending_of_text-in-Queue.ensures.status is)

pub returns-in-Queue-clause-sides : goal.returns-in-Queue-clause-sides
returns-in-Queue-clause-sides g c tells = record {
  one_side = (c.show_book.ensures.reads tells).one_side;
  each_one_side = (c.show_book.ensures.reads tells).each_one_side;
}

pub returns-in-Report-clause-goes : goal.returns-in-Report-clause-goes
returns-in-Report-clause-goes g c tells = (
  g.I.Source.rest c.args.input.now,
  λ _. refl,
  went_so c.args.account.now _ (request_of c.args.asked.now (g.I.Source.rest c.args.input.now)) _ _ _ _ _ c.ending_of_text-in-Report.ensures.status
      c.ending_of_text-in-Report.ensures.text (ap (λ (a : Asked). request_of a (g.I.Source.rest c.args.input.now)) c.in-Report.is)
      (went_report c.args.account.now _ c.show_book-in-Report.ensures.link _ _ (showing_ends report_text _ _ (c.show_book-in-Report.ensures.ends tells))
      (reads_go Report _ (λ m w. w) (c.show_book-in-Report.ensures.reads tells))),
)

pub returns-in-Report-clause-causes : goal.returns-in-Report-clause-causes
returns-in-Report-clause-causes g c =
    refused_causes g.W.Clocked _ _ _ _ c.ending_of_text-in-Report.ensures.status c.show_book-in-Report.ensures.cause c.show_book-in-Report.ensures.unfailed c.show_book-in-Report.ensures.count
    c.show_book-in-Report.ensures.link

pub returns-in-Report-clause-reads : goal.returns-in-Report-clause-reads
returns-in-Report-clause-reads g c =
    input_unread g.I.Source _ _ _ _ _ (λ append. subst IsAppend c.in-Report.is append)
    (λ is. c.show_book-in-Report.ensures.only _ (input_failed _ _ c.ending_of_text-in-Report.ensures.status is))

pub returns-in-Report-clause-server : goal.returns-in-Report-clause-server
returns-in-Report-clause-server g c =
    apart g.W.Clocked (λ told. g.W.Clocked.server_with_files told) g.W.Disk.seen _ _ _ _ _
    (λ tells. reads_apart _ (c.show_book-in-Report.ensures.reads tells)) c.show_book-in-Report.ensures.link (λ play. subst IsPlay c.in-Report.is play) (λ is. no_reply _ _ c.ending_of_text-in-Report.ensures.status is)

pub returns-in-Report-clause-sides : goal.returns-in-Report-clause-sides
returns-in-Report-clause-sides g c tells = record {
  one_side = (c.show_book-in-Report.ensures.reads tells).one_side;
  each_one_side = (c.show_book-in-Report.ensures.reads tells).each_one_side;
}

pub returns-in-Play-clause-goes : goal.returns-in-Play-clause-goes
returns-in-Play-clause-goes g c tells = (
  g.I.Source.rest c.args.input.now,
  λ _. refl,
  went_so c.args.account.now _ (request_of c.args.asked.now (g.I.Source.rest c.args.input.now)) _ _ _ _ _ c.ending_of_play.ensures.status
      c.ending_of_play.ensures.text (ap (λ (a : Asked). request_of a (g.I.Source.rest c.args.input.now)) c.in-Play.is)
      (went_play c.args.account.now _ _ _ (c.play.ensures.ends tells) (c.play.ensures.goes tells)),
)

pub returns-in-Play-clause-not_output : goal.returns-in-Play-clause-not_output
returns-in-Play-clause-not_output g c = play_prints _ _ c.ending_of_play.ensures.status

pub returns-in-Play-clause-not_words : goal.returns-in-Play-clause-not_words
returns-in-Play-clause-not_words g c = play_asked _ _ c.ending_of_play.ensures.status

pub returns-in-Play-clause-causes : goal.returns-in-Play-clause-causes
returns-in-Play-clause-causes g c = causes_as g.W.Clocked _ _ _ _ c.ending_of_play.ensures.status c.play.ensures.causes

pub returns-in-Play-clause-reads : goal.returns-in-Play-clause-reads
returns-in-Play-clause-reads g c =
    input_unread g.I.Source _ _ _ _ _ (λ append. subst IsAppend c.in-Play.is append) (λ is. c.play.ensures.unread (sym c.ending_of_play.ensures.status ∙ is))

pub returns-in-Play-clause-server : goal.returns-in-Play-clause-server
returns-in-Play-clause-server g c =
    handed g.W.Clocked g.W.Disk.seen _ _ _ _ _ _ _ _ (λ play. tt) c.ending_of_play.ensures.status c.ending_of_play.ensures.text c.play.ensures.server

pub returns-in-Play-clause-link : goal.returns-in-Play-clause-link
returns-in-Play-clause-link g c never = absurd (never (subst IsPlay (sym c.in-Play.is) tt))
