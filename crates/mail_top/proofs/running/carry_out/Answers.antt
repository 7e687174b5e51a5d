use Rattle.std.proofs.Common.{inl, inr, [], refl}
use Rattle.journal_core.proofs.AtRest.{each_none}
use Rattle.book_laws.specs.Kept.{Kept}
use Rattle.store_core.specs.Mail.{mail}
use Rattle.play_driver.specs.Played.{played}
use Rattle.play_driver.proofs.Calls.{stays_start}
use Rattle.mail_top.specs.Words.{Act, Append, Play}
use Rattle.mail_top.proofs.AnyServers.{any_none}
use Rattle.mail_top.proofs.Besides.{handed, input_unread, reads_as, words_not_input, words_not_reply}
use Rattle.mail_top.proofs.Connections.{nothing_made}
use Rattle.mail_top.proofs.Goings.{append_asks, asks_append, asks_play, awaits_asked, play_asks}
use Rattle.mail_top.proofs.Headlines.{nothing_twice}
use Rattle.mail_top.proofs.Moving.{words_keep, words_go, nothing_keeps, nothing_goes}
use Rattle.mail_top.proofs.running.carry_out.Goals as goal

pub returns-in-None-clause-goes : goal.returns-in-None-clause-goes
returns-in-None-clause-goes g c tells = (
  g.I.Source.rest c.args.input.now,
  λ _. refl,
  record {
    ends = inl (record {
      nothing = c.in-None.ensures.none refl;
      stays = refl;
      reads = refl;
      link = refl;
      told = c.ending_of_words.ensures.status;
      text_is = c.ending_of_words.ensures.text;
    });
    every = nothing_keeps _ _ _ _ _;
    books = λ one books have. nothing_goes _ _ _;
  },
)

pub returns-in-None-clause-words : goal.returns-in-None-clause-words
returns-in-None-clause-words g c = (λ is. c.in-None.ensures.none refl, λ nothing. c.ending_of_words.ensures.status)

pub returns-in-None-clause-reads : goal.returns-in-None-clause-reads
returns-in-None-clause-reads g c =
    input_unread g.I.Source _ _ _ _ _ (λ append. c.in-None.ensures.none refl [] (Act (Append append.addition [])) (append.asks, refl))
    (λ is. words_not_input _ c.ending_of_words.ensures.status is)

pub returns-in-None-clause-server : goal.returns-in-None-clause-server
returns-in-None-clause-server g c = record {
  joined = λ e. stays_start mail Kept played _;
  twice = λ tells kept. nothing_twice _;
  kept = λ play. absurd (c.in-None.ensures.none refl [] Play play);
  truly = λ play. absurd (c.in-None.ensures.none refl [] Play play);
  surely = λ play. absurd (c.in-None.ensures.none refl [] Play play);
  synced = λ play. absurd (c.in-None.ensures.none refl [] Play play);
  serves = λ play. absurd (c.in-None.ensures.none refl [] Play play);
  faultless = λ f is. words_not_reply _ c.ending_of_words.ensures.status is;
  honest = λ tells is. absurd (words_not_reply _ c.ending_of_words.ensures.status is);
  connects = record { at_first = λ tells. nothing_made _; once = λ tells. inl refl };
  any_server = λ tells. any_none g.W.Clocked _;
}

pub returns-in-None-clause-sides : goal.returns-in-None-clause-sides
returns-in-None-clause-sides g c tells = record { one_side = λ one. one; each_one_side = λ one. each_none _ }

pub returns-in-Some-clause-goes : goal.returns-in-Some-clause-goes
returns-in-Some-clause-goes g c tells =
    let went = c.answer.ensures.goes tells in
    let asks = c.in-Some.ensures.some went.0 in (
      went.0,
      went.1,
      record {
        ends = inr (record { request = _; asks = asks; ends = went.2.ends });
        every = words_keep _ _ _ asks _ _ _ _ went.2.goes.keeps;
        books = λ one books have. words_go _ _ _ asks _ _ (went.2.goes.books one books have);
      },
    )

pub returns-in-Some-clause-words : goal.returns-in-Some-clause-words
returns-in-Some-clause-words g c = (λ is. absurd (c.answer.ensures.not_words is), λ nothing. absurd (nothing [] _ (c.in-Some.ensures.some [])))

pub returns-in-Some-clause-reads : goal.returns-in-Some-clause-reads
returns-in-Some-clause-reads g c =
    reads_as g.I.Source _ _ _ _ _ _ _ _ (λ append. append_asks _ _ c.in-Some.ensures.some append) (λ append. asks_append _ _ c.in-Some.ensures.some append)
    (λ awaits. awaits_asked _ _ _ c.in-Some.ensures.some awaits) c.answer.ensures.reads

pub returns-in-Some-clause-server : goal.returns-in-Some-clause-server
returns-in-Some-clause-server g c =
    handed g.W.Clocked g.W.Disk.seen _ _ _ _ _ _ _ _ (λ play. asks_play _ _ c.in-Some.ensures.some play) refl refl c.answer.ensures.server

pub returns-in-Some-clause-link : goal.returns-in-Some-clause-link
returns-in-Some-clause-link g c never = c.answer.ensures.link (λ play. never (play_asks _ _ c.in-Some.ensures.some play))
