use Rattle.std.proofs.Common.{◌∙◌, ap, subst, sym, refl, Ok}
use Rattle.journal_core.proofs.AtRest.{each_then}
use Rattle.journal_core.proofs.HeldBodies.{narrowed}
use Rattle.action_queue.specs.Book.{Meaning}
use Rattle.mail_top.specs.Weighing.{Admits, HasNumber, Weighed}
use Rattle.mail_top.specs.Words.{Act, wanted_of}
use Rattle.mail_top.specs.declared.refusal.Refusal.TheVariants as refusals
use Rattle.mail_top.proofs.Accusing.{blames_behind, blames_none}
use Rattle.mail_top.proofs.Goings.{awaits_on, nothing_taken}
use Rattle.mail_top.proofs.Moving.{opens_adding, adding_then, anew_adding, anew_steps, chooses_steps, steps_then, left_now, left_start}
use Rattle.mail_top.proofs.Openings.{unopened_act, weighed_act, unrecorded_act, opened_stays, opened_book, store_disk, store_failed, store_already}
use Rattle.mail_top.proofs.Openings.{store_input, never_err, commit_disk, commit_failed, commit_already, commit_input, weighed_disk}
use Rattle.mail_top.proofs.Openings.{weighed_already, weighed_input, act_told, full_act, handed_back, handed_on, number_already, number_disk, number_input}
use Rattle.mail_top.proofs.Recording.{told_as, no_room, may_event, stands_as, event_keeps, event_steps, event_full, event_recorded}
use Rattle.mail_top.proofs.Takeovers.{stays_taken, untaken_act, untaken_already, untaken_input}
use Rattle.mail_top.proofs.accepting.accept.Goals as goal

pub returns-in_err-store-clause-goes : goal.returns-in_err-store-clause-goes
returns-in_err-store-clause-goes g c tells = (
  g.I.Source.rest c.args.input.now,
  λ _. refl,
  record {
    ends = unopened_act _ _ _ c.in_err-store.was c.from_residual.ensures.1 _ _ (narrowed _ _ (c.open.ensures.moments tells).told) (c.open.ensures.seen tells)
        c.open.ensures.only (c.open.ensures.broken tells) (wanted_of c.args.asked.now (g.I.Source.rest c.args.input.now));
    goes = record {
      keeps = opens_adding _ _ _ _ _ (c.open.ensures.moments tells).held;
      books = λ one books have. chooses_steps _ _ _ ((c.open.ensures.moments tells).chooses one books have);
    };
  },
)

pub returns-in_err-store-clause-blames : goal.returns-in_err-store-clause-blames
returns-in_err-store-clause-blames g c = record {
  link = c.open.ensures.blames.link;
  count = c.open.ensures.blames.count;
  cause = λ is. c.open.ensures.blames.cause (store_disk _ _ _ c.in_err-store.was c.from_residual.ensures.1 is);
  unfailed = λ other. c.open.ensures.blames.unfailed (λ is. other (store_failed _ _ _ c.in_err-store.was c.from_residual.ensures.1 is));
}

pub returns-in_err-store-clause-input_cause : goal.returns-in_err-store-clause-input_cause
returns-in_err-store-clause-input_cause g c is = absurd (store_input _ _ _ c.in_err-store.was c.from_residual.ensures.1 is)

pub returns-in_err-store-clause-never : goal.returns-in_err-store-clause-never
returns-in_err-store-clause-never g c is = c.open.ensures.only.0 (store_already _ _ _ c.in_err-store.was c.from_residual.ensures.1 is)

pub returns-in_err-store-clause-taken : goal.returns-in_err-store-clause-taken
returns-in_err-store-clause-taken g c tells = nothing_taken _

pub returns-in_err-action-clause-goes : goal.returns-in_err-action-clause-goes
returns-in_err-action-clause-goes g c tells =
    let given = c.weighed.ensures.value in (
      given.0,
      given.1,
      record {
        ends = weighed_act _ _ _ (narrowed _ _ (c.open.ensures.moments tells).told)
            (opened_stays _ _ (c.in_ok-store.ensures.still tells) (c.in_ok-store.ensures.seen tells (never_err _ _))) _ _ _ _ c.in_err-action.was
            c.from_residual-in_err-action.ensures.1
            (subst (λ (b : Meaning). Weighed (wanted_of c.args.asked.now given.0) b c.weighed.result) c.book.ensures given.2);
        goes = record {
          keeps = opens_adding _ _ _ _ _ (c.open.ensures.moments tells).held;
          books = λ one books have. chooses_steps _ _ _ ((c.open.ensures.moments tells).chooses one books have);
        };
      },
    )

pub returns-in_err-action-clause-blames : goal.returns-in_err-action-clause-blames
returns-in_err-action-clause-blames g c =
    blames_none g.D.Clocked _ _ c.open.ensures.blames.link (c.in_ok-store.ensures.blames.unfailed (never_err _ _)) _
    (λ is.
    weighed_disk _ c.in_ok-store.store.book _ _ _ c.in_err-action.was c.from_residual-in_err-action.ensures.1
    (subst (λ (b : Meaning). Weighed (wanted_of c.args.asked.now c.weighed.ensures.value.0) b c.weighed.result) c.book.ensures c.weighed.ensures.value.2) is)

pub returns-in_err-action-clause-input_cause : goal.returns-in_err-action-clause-input_cause
returns-in_err-action-clause-input_cause g c is =
    c.weighed.ensures.cause (weighed_input _ _ _ c.in_err-action.was c.from_residual-in_err-action.ensures.1 is)

pub returns-in_err-action-clause-never : goal.returns-in_err-action-clause-never
returns-in_err-action-clause-never g c is =
    weighed_already _ c.in_ok-store.store.book _ _ _ c.in_err-action.was c.from_residual-in_err-action.ensures.1
    (subst (λ (b : Meaning). Weighed (wanted_of c.args.asked.now c.weighed.ensures.value.0) b c.weighed.result) c.book.ensures c.weighed.ensures.value.2) is

pub returns-in_err-action-clause-read : goal.returns-in_err-action-clause-read
returns-in_err-action-clause-read g c tells =
    awaits_on _ _ _ _ _ c.book.ensures
    (opened_book _ _ _ _ (c.in_ok-store.ensures.still tells) (c.in_ok-store.ensures.seen tells (never_err _ _)))
    c.weighed.ensures.read

pub take_over-requires : goal.take_over-requires
take_over-requires g c = record {
  sound = λ failed. absurd (cc (failed, c.in_ok-store.ensures.sound));
  still = λ tells. c.in_ok-store.ensures.still tells;
}

-- it isn't taken over
pub returns-in_err-take_over-clause-goes : goal.returns-in_err-take_over-clause-goes
returns-in_err-take_over-clause-goes g c tells =
    let left = c.in_ok-store.ensures.still tells in
    let same = c.in_ok-store.ensures.seen tells (never_err _ _) in
    let given = c.in_ok-action.ensures.value in
    let weighed = subst (λ (b : Meaning). Weighed (wanted_of c.args.asked.now given.0) b (Ok c.in_ok-action.action)) c.book.ensures given.2 in
    let keeps = adding_then _ _ _ _ _ _ (opens_adding (wanted_of c.args.asked.now given.0) _ _ _ _ (c.open.ensures.moments tells).held)
    (anew_adding (wanted_of c.args.asked.now given.0) _ _ c.in_ok-store.store.book (opened_book _ _ _ _ left same) _ _ (c.take_over.ensures.moments tells).held) in
    let way = left_now (Act (wanted_of c.args.asked.now given.0)) _ _ _ (left_start (Act (wanted_of c.args.asked.now given.0)) _ _) keeps in (
      given.0,
      given.1,
      record {
        ends = act_told _ _ _ _ _ c.from_residual-in_err-take_over.ensures.1
            (untaken_act _ c.in_ok-store.store _ _ left same (narrowed _ _ (c.open.ensures.moments tells).told) (wanted_of c.args.asked.now given.0) _ weighed.0
            c.in_err-take_over.ensures.why way
            (λ other.
            let kept = c.in_err-take_over.ensures.kept refl (λ disk. other (cc disk)) in
            (ap (λ d. (g.D.Clocked.clock d).now) kept.1, ap (λ d. g.D.Disk.seen d) kept.1)));
        goes = record {
          keeps = keeps;
          books = λ one books have. (steps_then _ _ _ _ (chooses_steps _ _ _ ((c.open.ensures.moments tells).chooses one books have))
              (anew_steps _ c.in_ok-store.store.book _ _ (c.take_over.ensures.moments tells).stays));
        };
      },
    )

pub returns-in_err-take_over-clause-blames : goal.returns-in_err-take_over-clause-blames
returns-in_err-take_over-clause-blames g c =
    blames_behind g.D.Clocked _ _ c.open.ensures.blames.link (c.in_ok-store.ensures.blames.unfailed (never_err _ _)) _ _ _
    (λ is. handed_back _ _ _ c.in_err-take_over.was c.from_residual-in_err-take_over.ensures.1 refusals.Disk is)
    (λ is. handed_on _ _ _ c.in_err-take_over.was c.from_residual-in_err-take_over.ensures.1 refusals.Disk is) c.take_over.ensures.blames

pub returns-in_err-take_over-clause-input_cause : goal.returns-in_err-take_over-clause-input_cause
returns-in_err-take_over-clause-input_cause g c is =
    absurd (untaken_input c.in_ok-store.store _ _ c.from_residual-in_err-take_over.ensures.1 c.in_err-take_over.ensures.why is)

pub returns-in_err-take_over-clause-never : goal.returns-in_err-take_over-clause-never
returns-in_err-take_over-clause-never g c is =
    untaken_already c.in_ok-store.store _ _ c.from_residual-in_err-take_over.ensures.1 c.in_err-take_over.ensures.why is

pub returns-in_err-take_over-clause-sides : goal.returns-in_err-take_over-clause-sides
returns-in_err-take_over-clause-sides g c tells = record {
  one_side = λ one. (c.take_over.ensures.moments tells).one_side;
  each_one_side = λ one. each_then _ _ _ ((c.open.ensures.moments tells).each_one_side one) (c.take_over.ensures.moments tells).each_one_side;
}

pub returns-in_err-take_over-clause-read : goal.returns-in_err-take_over-clause-read
returns-in_err-take_over-clause-read g c tells =
    awaits_on _ _ _ _ _ c.book.ensures
    (opened_book _ _ _ _ (c.in_ok-store.ensures.still tells) (c.in_ok-store.ensures.seen tells (never_err _ _)))
    c.weighed.ensures.read

-- the queue would have too many actions
pub returns-in_err-id-clause-goes : goal.returns-in_err-id-clause-goes
returns-in_err-id-clause-goes g c tells =
    let left = c.in_ok-store.ensures.still tells in
    let same = c.in_ok-store.ensures.seen tells (never_err _ _) in
    let given = c.in_ok-action.ensures.value in
    let weighed = subst (λ (b : Meaning). Weighed (wanted_of c.args.asked.now given.0) b (Ok c.in_ok-action.action)) c.book.ensures given.2 in
    let stays = stays_taken _ c.in_ok-store.store _ _ left same (narrowed _ _ (c.open.ensures.moments tells).told) c.take_over.new.store
    c.take_over.ensures.stays c.in_ok-take_over.ensures.written (c.in_ok-take_over.ensures.done tells)
    (λ is. ap (λ d. g.D.Disk.seen d) (c.take_over.ensures.same is).1) in (
      given.0,
      given.1,
      record {
        ends = full_act (wanted_of c.args.asked.now given.0) _ c.in_ok-store.store.book weighed.0 stays.0 _ _ _ _ c.in_err-id.was
            c.from_residual-in_err-id.ensures.1
            (subst (λ (b : Meaning). HasNumber b.queue c.next_id.result) (c.book-book.ensures ∙ c.take_over.ensures.stays) c.next_id.ensures);
        goes = record {
          keeps = adding_then _ _ _ _ _ _ (opens_adding (wanted_of c.args.asked.now given.0) _ _ _ _ (c.open.ensures.moments tells).held)
              (anew_adding (wanted_of c.args.asked.now given.0) _ _ c.in_ok-store.store.book (opened_book _ _ _ _ left same) _ _ (c.take_over.ensures.moments tells).held);
          books = λ one books have. (steps_then _ _ _ _ (chooses_steps _ _ _ ((c.open.ensures.moments tells).chooses one books have))
              (anew_steps _ c.in_ok-store.store.book _ _ (c.take_over.ensures.moments tells).stays));
        };
      },
    )

pub returns-in_err-id-clause-blames : goal.returns-in_err-id-clause-blames
returns-in_err-id-clause-blames g c =
    blames_none g.D.Clocked _ _ (c.take_over.ensures.blames.link ∙ c.open.ensures.blames.link)
    (c.in_ok-take_over.ensures.blames.unfailed (never_err _ _) ∙ c.in_ok-store.ensures.blames.unfailed (never_err _ _)) _
    (λ is. number_disk _ _ _ _ c.in_err-id.was c.from_residual-in_err-id.ensures.1 c.next_id.ensures is)

pub returns-in_err-id-clause-input_cause : goal.returns-in_err-id-clause-input_cause
returns-in_err-id-clause-input_cause g c is = absurd (number_input _ _ _ _ c.in_err-id.was c.from_residual-in_err-id.ensures.1 c.next_id.ensures is)

pub returns-in_err-id-clause-never : goal.returns-in_err-id-clause-never
returns-in_err-id-clause-never g c is = number_already _ _ _ _ c.in_err-id.was c.from_residual-in_err-id.ensures.1 c.next_id.ensures is

pub returns-in_err-id-clause-sides : goal.returns-in_err-id-clause-sides
returns-in_err-id-clause-sides g c tells = record {
  one_side = λ one. (c.take_over.ensures.moments tells).one_side;
  each_one_side = λ one. each_then _ _ _ ((c.open.ensures.moments tells).each_one_side one) (c.take_over.ensures.moments tells).each_one_side;
}

pub returns-in_err-id-clause-read : goal.returns-in_err-id-clause-read
returns-in_err-id-clause-read g c tells =
    awaits_on _ _ _ _ _ c.book.ensures
    (opened_book _ _ _ _ (c.in_ok-store.ensures.still tells) (c.in_ok-store.ensures.seen tells (never_err _ _)))
    c.weighed.ensures.read

pub commit-requires : goal.commit-requires
commit-requires g c =
    let given = c.in_ok-action.ensures.value in
    let weighed = subst (λ (b : Meaning). Weighed (wanted_of c.args.asked.now given.0) b (Ok c.in_ok-action.action)) c.book.ensures given.2 in
    let number = subst (λ (b : Meaning). HasNumber b.queue (Ok c.in_ok-id.id)) (c.book-book.ensures ∙ c.take_over.ensures.stays) c.in_ok-id.ensures in
    let takes : Admits (wanted_of c.args.asked.now given.0) c.in_ok-store.store.book c.in_ok-id.id c.in_ok-action.action =
    record { free = weighed.0; few = number.0; number = number.1; is = weighed.1 } in record {
      lawful = may_event c.take_over.new.store.journal.version _ _ _ _
          (subst (λ (b : Meaning). Admits (wanted_of c.args.asked.now given.0) b c.in_ok-id.id c.in_ok-action.action) (sym c.take_over.ensures.stays) takes);
      writable = c.in_ok-action.ensures.writable;
      fresh = λ old. old;
      sound = λ failed. absurd (cc (failed, c.in_ok-take_over.ensures.sound_still));
      written = c.in_ok-take_over.ensures.written;
      still = λ tells. c.in_ok-take_over.ensures.done tells;
    }

-- its event isn't recorded
pub returns-in_err-commit-clause-goes : goal.returns-in_err-commit-clause-goes
returns-in_err-commit-clause-goes g c tells =
    let left = c.in_ok-store.ensures.still tells in
    let same = c.in_ok-store.ensures.seen tells (never_err _ _) in
    let taken = c.in_ok-take_over.ensures.value in
    let book = c.take_over.ensures.stays in
    let given = c.in_ok-action.ensures.value in
    let weighed = subst (λ (b : Meaning). Weighed (wanted_of c.args.asked.now given.0) b (Ok c.in_ok-action.action)) c.book.ensures given.2 in
    let number = subst (λ (b : Meaning). HasNumber b.queue (Ok c.in_ok-id.id)) (c.book-book.ensures ∙ c.take_over.ensures.stays) c.in_ok-id.ensures in
    let takes : Admits (wanted_of c.args.asked.now given.0) c.in_ok-store.store.book c.in_ok-id.id c.in_ok-action.action =
    record { free = weighed.0; few = number.0; number = number.1; is = weighed.1 } in
    let keeps = adding_then _ _ _ _ _ _ (adding_then _ _ _ _ _ _ (opens_adding (wanted_of c.args.asked.now given.0) _ _ _ _ (c.open.ensures.moments tells).held)
    (anew_adding (wanted_of c.args.asked.now given.0) _ _ c.in_ok-store.store.book (opened_book _ _ _ _ left same) _ _ (c.take_over.ensures.moments tells).held))
    (event_keeps _ _ c.take_over.new.store _ _ _ left same taken book _ _ takes _ g.D.Clocked.clock _ _
    (λ past. no_room c.commit.result _ _ (c.commit.ensures.over past) (λ err disk. (c.commit.ensures.kept err disk).1)) (c.commit.ensures.moments tells).held) in
    let way = left_now (Act (wanted_of c.args.asked.now given.0)) _ _ _ (left_start (Act (wanted_of c.args.asked.now given.0)) _ _) keeps in (
      given.0,
      given.1,
      record {
        ends = unrecorded_act _ _ _ c.commit.result _ _ c.in_err-commit.was c.from_residual-in_err-commit.ensures.1 way _ _ takes.free takes.few takes.is
            (opened_book _ _ _ _ left same)
            (λ no_disk.
            let kept = c.in_err-commit.ensures.kept refl (λ is. no_disk (c.in_err-commit.was ∙ is)) in
            stays_taken _ c.in_ok-store.store _ _ left same (narrowed _ _ (c.open.ensures.moments tells).told) c.take_over.new.store book
            c.in_ok-take_over.ensures.written
            (stands_as g.D.Clocked.clock g.D.Disk.seen c.take_over.new.store _ _ kept.1 (c.in_ok-take_over.ensures.done tells))
            (λ is. ap (λ d. g.D.Disk.seen d) (kept.1 ∙ (c.take_over.ensures.same is).1)))
            (event_full _ _ c.take_over.new.store _ _ _ left same taken book _ _ takes c.commit.result _ c.commit.ensures.over c.commit.ensures.full);
        goes = record {
          keeps = keeps;
          books = λ one books have.
              steps_then _ _ _ _ (steps_then _ _ _ _ (chooses_steps _ _ _ ((c.open.ensures.moments tells).chooses one books have))
              (anew_steps _ c.in_ok-store.store.book _ _ (c.take_over.ensures.moments tells).stays))
              (event_steps _ _ c.take_over.new.store _ _ _ left same taken book _ _ takes _ _ (c.commit.ensures.moments tells).told);
        };
      },
    )

pub returns-in_err-commit-clause-blames : goal.returns-in_err-commit-clause-blames
returns-in_err-commit-clause-blames g c =
    blames_behind g.D.Clocked _ _ (c.take_over.ensures.blames.link ∙ c.open.ensures.blames.link)
    (c.in_ok-take_over.ensures.blames.unfailed (never_err _ _) ∙ c.in_ok-store.ensures.blames.unfailed (never_err _ _)) _ _ _
    (λ is. commit_disk _ _ _ c.in_err-commit.was c.from_residual-in_err-commit.ensures.1 is)
    (λ is. commit_failed _ _ _ c.in_err-commit.was c.from_residual-in_err-commit.ensures.1 is) c.commit.ensures.blames

pub returns-in_err-commit-clause-input_cause : goal.returns-in_err-commit-clause-input_cause
returns-in_err-commit-clause-input_cause g c is = absurd (commit_input _ _ _ c.in_err-commit.was c.from_residual-in_err-commit.ensures.1 is)

pub returns-in_err-commit-clause-never : goal.returns-in_err-commit-clause-never
returns-in_err-commit-clause-never g c is = commit_already _ _ _ c.in_err-commit.was c.from_residual-in_err-commit.ensures.1 is

pub returns-in_err-commit-clause-sides : goal.returns-in_err-commit-clause-sides
returns-in_err-commit-clause-sides g c tells = record {
  one_side = λ one. (c.commit.ensures.moments tells).one_side;
  each_one_side = λ one.
      each_then _ _ _ (each_then _ _ _ ((c.open.ensures.moments tells).each_one_side one) (c.take_over.ensures.moments tells).each_one_side)
      (c.commit.ensures.moments tells).each_one_side;
}

pub returns-in_err-commit-clause-read : goal.returns-in_err-commit-clause-read
returns-in_err-commit-clause-read g c tells =
    awaits_on _ _ _ _ _ c.book.ensures
    (opened_book _ _ _ _ (c.in_ok-store.ensures.still tells) (c.in_ok-store.ensures.seen tells (never_err _ _)))
    c.weighed.ensures.read

pub returns-clause-goes : goal.returns-clause-goes
returns-clause-goes g c tells =
    let left = c.in_ok-store.ensures.still tells in
    let same = c.in_ok-store.ensures.seen tells (never_err _ _) in
    let taken = c.in_ok-take_over.ensures.value in
    let book = c.take_over.ensures.stays in
    let given = c.in_ok-action.ensures.value in
    let weighed = subst (λ (b : Meaning). Weighed (wanted_of c.args.asked.now given.0) b (Ok c.in_ok-action.action)) c.book.ensures given.2 in
    let number = subst (λ (b : Meaning). HasNumber b.queue (Ok c.in_ok-id.id)) (c.book-book.ensures ∙ c.take_over.ensures.stays) c.in_ok-id.ensures in
    let takes : Admits (wanted_of c.args.asked.now given.0) c.in_ok-store.store.book c.in_ok-id.id c.in_ok-action.action =
    record { free = weighed.0; few = number.0; number = number.1; is = weighed.1 } in
    let done = event_recorded _ _ c.take_over.new.store _ _ _ left same taken book _ _ takes _ _ _ _ _ _ c.in_ok-commit.ensures.value
    (c.in_ok-commit.ensures.done tells)
    (λ past. let never = c.in_ok-commit.ensures.over past in cc never) in (
      given.0,
      given.1,
      record {
        ends = told_as _ _ _ _ c.number.ensures.value done;
        goes = record {
          keeps = adding_then _ _ _ _ _ _ (adding_then _ _ _ _ _ _ (opens_adding (wanted_of c.args.asked.now given.0) _ _ _ _ (c.open.ensures.moments tells).held)
              (anew_adding (wanted_of c.args.asked.now given.0) _ _ c.in_ok-store.store.book (opened_book _ _ _ _ left same) _ _ (c.take_over.ensures.moments tells).held))
              (event_keeps _ _ c.take_over.new.store _ _ _ left same taken book _ _ takes _ g.D.Clocked.clock _ _
              (λ past. let never = c.in_ok-commit.ensures.over past in cc never) (c.commit.ensures.moments tells).held);
          books = λ one books have.
              steps_then _ _ _ _ (steps_then _ _ _ _ (chooses_steps _ _ _ ((c.open.ensures.moments tells).chooses one books have))
              (anew_steps _ c.in_ok-store.store.book _ _ (c.take_over.ensures.moments tells).stays))
              (event_steps _ _ c.take_over.new.store _ _ _ left same taken book _ _ takes _ _ (c.commit.ensures.moments tells).told);
        };
      },
    )

pub returns-clause-blames : goal.returns-clause-blames
returns-clause-blames g c =
    blames_none g.D.Clocked _ _ (c.commit.ensures.blames.link ∙ c.take_over.ensures.blames.link ∙ c.open.ensures.blames.link)
    (c.in_ok-commit.ensures.blames.unfailed (never_err _ _)
    ∙ (c.in_ok-take_over.ensures.blames.unfailed (never_err _ _) ∙ c.in_ok-store.ensures.blames.unfailed (never_err _ _))) _ (λ is. never_err _ _ is)

pub returns-clause-sides : goal.returns-clause-sides
returns-clause-sides g c tells = record {
  one_side = λ one. (c.commit.ensures.moments tells).one_side;
  each_one_side = λ one.
      each_then _ _ _ (each_then _ _ _ ((c.open.ensures.moments tells).each_one_side one) (c.take_over.ensures.moments tells).each_one_side)
      (c.commit.ensures.moments tells).each_one_side;
}

pub returns-clause-read : goal.returns-clause-read
returns-clause-read g c tells =
    awaits_on _ _ _ _ _ c.book.ensures
    (opened_book _ _ _ _ (c.in_ok-store.ensures.still tells) (c.in_ok-store.ensures.seen tells (never_err _ _)))
    c.weighed.ensures.read
