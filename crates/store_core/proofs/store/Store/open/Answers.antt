use Rattle.std.proofs.Common.{◌∙◌, rules, subst}
use Rattle.journal_core.proofs.Looking.{looks_then}
use Rattle.journal_core.proofs.Syncing.{syncs_look}
use Rattle.journal_core.specs.Reading.{HasRecord}
use Rattle.world_traits.specs.Files.{Files, file_of}
use Rattle.store_core.specs.Mail.{mail}
use Rattle.store_core.specs.Broken.{IsBroken}
use Rattle.store_core.proofs.MailBook.{one_mail_event}
use Rattle.store_core.proofs.Wholeness.{never_both}
use Rattle.store_core.proofs.Choosing.{one_of, only_left}
use Rattle.store_core.proofs.Entering.{no_journal_broken, holds_all, left_as}
use Rattle.store_core.proofs.FirstRecord.{first_record}
use Rattle.store_core.proofs.Folds.{well_still}
use Rattle.store_core.proofs.Moments.{opening_moments}
use Rattle.store_core.proofs.store.Store.open.Goals as goal

pub returns-in_err-journal-clause-broken : goal.returns-in_err-journal-clause-broken
returns-in_err-journal-clause-broken g c tells why is = no_journal_broken mail why _ (c.open.ensures.no_journal tells why (search rules))

pub returns-in_err-journal-clause-whole : goal.returns-in_err-journal-clause-whole
returns-in_err-journal-clause-whole g c tells book holds why is =
    never_both mail one_mail_event book _ holds why (no_journal_broken mail why _ (c.open.ensures.no_journal tells why (search rules)))

pub returns-in_err-book-clause-broken : goal.returns-in_err-book-clause-broken
returns-in_err-book-clause-broken g c tells why is =
    subst (IsBroken mail why) (c.in_ok-journal.ensures.seen tells (λ e. cc e))
    (c.read_begin.ensures.broken tells (c.in_ok-journal.ensures.still tells) why (search rules))

pub returns-in_err-book-clause-whole : goal.returns-in_err-book-clause-whole
returns-in_err-book-clause-whole g c tells book holds why is =
    never_both mail one_mail_event book _ holds why
    (subst (IsBroken mail why) (c.in_ok-journal.ensures.seen tells (λ e. cc e))
    (c.read_begin.ensures.broken tells (c.in_ok-journal.ensures.still tells) why (search rules)))

pub returns-in_err-read_later-clause-broken : goal.returns-in_err-read_later-clause-broken
returns-in_err-read_later-clause-broken g c tells why is =
    subst (IsBroken mail why) ((c.read_begin.ensures.told tells).seen_same ∙ c.in_ok-journal.ensures.seen tells (λ e. cc e))
    (c.read_later.ensures.broken tells (c.in_ok-book.ensures.value tells (c.in_ok-journal.ensures.still tells)) why (search rules))

pub returns-in_err-read_later-clause-whole : goal.returns-in_err-read_later-clause-whole
returns-in_err-read_later-clause-whole g c tells book holds why is =
    never_both mail one_mail_event book _ holds why
    (subst (IsBroken mail why) ((c.read_begin.ensures.told tells).seen_same ∙ c.in_ok-journal.ensures.seen tells (λ e. cc e))
    (c.read_later.ensures.broken tells (c.in_ok-book.ensures.value tells (c.in_ok-journal.ensures.still tells)) why (search rules)))

pub returns-clause-value : goal.returns-clause-value
returns-clause-value g c tells =
    holds_all mail _ _ _ _ _ ((c.read_later.ensures.told tells).seen_same ∙ (c.read_begin.ensures.told tells).seen_same
    ∙ c.in_ok-journal.ensures.seen tells (λ e. cc e))
    (c.in_ok-read_later.ensures.value tells (c.in_ok-book.ensures.value tells (c.in_ok-journal.ensures.still tells))) c.in_ok-read_later.ensures.all_read

pub returns-clause-still : goal.returns-clause-still
returns-clause-still g c tells = left_as mail _ _ _ _ (c.in_ok-read_later.ensures.value tells
    (c.in_ok-book.ensures.value tells (c.in_ok-journal.ensures.still tells))) c.in_ok-read_later.ensures.all_read

pub returns-clause-chosen : goal.returns-clause-chosen
returns-clause-chosen g c tells books have =
    let reads = c.in_ok-read_later.ensures.value tells (c.in_ok-book.ensures.value tells (c.in_ok-journal.ensures.still tells)) in
    let same = (c.read_later.ensures.told tells).seen_same ∙ (c.read_begin.ensures.told tells).seen_same ∙ c.in_ok-journal.ensures.seen tells (λ e. cc e) in (
      one_of mail one_mail_event books _ _ _ (g.met.D.Disk.seen_is c.args.disk.now tells) have
          (holds_all mail _ _ _ _ _ same reads c.in_ok-read_later.ensures.all_read),
      only_left mail _ _ _ (left_as mail _ _ _ _ reads c.in_ok-read_later.ensures.all_read),
    )

pub returns-in_err-book-clause-memory : goal.returns-in_err-book-clause-memory
returns-in_err-book-clause-memory g c tells is =
    first_record _ _ (c.in_ok-journal.ensures.value tells)
    (subst (λ (f : Files). HasRecord c.in_ok-journal.journal.place (file_of c.in_ok-journal.journal.side f))
    (c.in_ok-journal.ensures.seen tells (λ e. cc e)) (c.read_begin.ensures.memory tells (search rules)))

pub returns-in_err-read_later-clause-memory : goal.returns-in_err-read_later-clause-memory
returns-in_err-read_later-clause-memory g c tells is =
    first_record _ _ (c.in_ok-journal.ensures.value tells)
    (subst (λ (f : Files). HasRecord c.in_ok-journal.journal.place (file_of c.in_ok-journal.journal.side f))
    (c.in_ok-journal.ensures.seen tells (λ e. cc e)) (c.in_ok-book.ensures.stands tells))

pub returns-clause-fold : goal.returns-clause-fold
returns-clause-fold g c = (c.in_ok-read_later.ensures.made (c.in_ok-book.ensures.made _)).fold

pub returns-in_err-journal-clause-moments : goal.returns-in_err-journal-clause-moments
returns-in_err-journal-clause-moments g c tells = opening_moments _ _ _ (g.met.D.Disk.seen_is c.args.disk.now tells) (c.open.ensures.syncs tells)

pub returns-in_err-book-clause-moments : goal.returns-in_err-book-clause-moments
returns-in_err-book-clause-moments g c tells = opening_moments _ _ _ (g.met.D.Disk.seen_is c.args.disk.now tells)
    (syncs_look _ _ _ _ _ _ (c.open.ensures.syncs tells) (c.read_begin.ensures.told tells))

pub returns-in_err-read_later-clause-moments : goal.returns-in_err-read_later-clause-moments
returns-in_err-read_later-clause-moments g c tells = opening_moments _ _ _ (g.met.D.Disk.seen_is c.args.disk.now tells)
    (syncs_look _ _ _ _ _ _ (c.open.ensures.syncs tells) (looks_then _ _ _ _ _ _ (c.read_begin.ensures.told tells) (c.read_later.ensures.told tells)))

pub returns-clause-moments : goal.returns-clause-moments
returns-clause-moments g c tells = opening_moments _ _ _ (g.met.D.Disk.seen_is c.args.disk.now tells)
    (syncs_look _ _ _ _ _ _ (c.open.ensures.syncs tells) (looks_then _ _ _ _ _ _ (c.read_begin.ensures.told tells) (c.read_later.ensures.told tells)))

pub invariant_of-result : goal.invariant_of-result
invariant_of-result g c = (
  c.in_ok-read_later.ensures.all_read,
  well_still _ _ _ c.read_later.ensures.same.version (c.in_ok-read_later.ensures.made (c.in_ok-book.ensures.made _)).well,
)
