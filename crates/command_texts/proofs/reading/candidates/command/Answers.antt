use Rattle.std.proofs.Common.{◌≡◌, Some, IfOk, subst, arith}
use Rattle.command_texts.proofs.CandidateReading.{ReadsUids, ReadsSelect, ReadsAppend, command_read}
use Rattle.command_texts.proofs.reading.candidates.command.Goals as goal

pub returns-then-kind-eq73 : goal.returns-then-kind-eq73
returns-then-kind-eq73 c = command_read (λ x. IfOk c.on_uids.result
    (λ found. found ≡ Some x)) c.byte_at-kind.result c.args.text.now c.args.later.now c.byte_at-kind.ensures
    (λ k. subst (λ t. ReadsUids (λ x. IfOk c.on_uids.result (λ found. found ≡ Some x)) t c.args.later.now) c.behind.ensures
    (record {
      all = c.on_uids.ensures.all;
      row = c.on_uids.ensures.row;
      ids = c.on_uids.ensures.ids;
      shift =
          c.on_uids.ensures.shift;
      whole = c.on_uids.ensures.text;
      copy = c.on_uids.ensures.copy;
      expunge = c.on_uids.ensures.expunge;
      search = c.on_uids.ensures.search;
      store = c.on_uids.ensures.store;
    }))
    (λ k. absurd (omega (arith, k, c.if-kind-eq73.true)))
    (λ k. absurd (omega (arith, k, c.if-kind-eq73.true)))
    (λ k. absurd (omega (arith, k, c.if-kind-eq73.true)))
    (λ k. absurd (omega (arith, k, c.if-kind-eq73.true)))
    (λ a b d e f. absurd (a c.if-kind-eq73.true))

pub returns-then-kind-eq79 : goal.returns-then-kind-eq79
returns-then-kind-eq79 c = command_read (λ x. IfOk c.login_or_logout.result
    (λ found. found ≡ Some x)) c.byte_at-kind.result c.args.text.now c.args.later.now c.byte_at-kind.ensures
    (λ k. absurd (omega (arith, k, c.if-kind-eq79.true)))
    (λ k. record { login = c.login_or_logout.ensures.login; logout = c.login_or_logout.ensures.logout })
    (λ k. absurd (omega (arith, k, c.if-kind-eq79.true)))
    (λ k. absurd (omega (arith, k, c.if-kind-eq79.true)))
    (λ k. absurd (omega (arith, k, c.if-kind-eq79.true)))
    (λ a b d e f. absurd (b c.if-kind-eq79.true))

pub returns-then-kind-eq85 : goal.returns-then-kind-eq85
returns-then-kind-eq85 c = command_read (λ x. IfOk c.plain.result
    (λ found. found ≡ Some x)) c.byte_at-kind.result c.args.text.now c.args.later.now c.byte_at-kind.ensures
    (λ k. absurd (omega (arith, k, c.if-kind-eq85.true)))
    (λ k. absurd (omega (arith, k, c.if-kind-eq85.true)))
    (λ k. c.plain.ensures)
    (λ k. absurd (omega (arith, k, c.if-kind-eq85.true)))
    (λ k. absurd (omega (arith, k, c.if-kind-eq85.true)))
    (λ a b d e f. absurd (d c.if-kind-eq85.true))

pub returns-then-kind-eq69 : goal.returns-then-kind-eq69
returns-then-kind-eq69 c = command_read (λ x. IfOk c.select.result
    (λ found. found ≡ Some x)) c.byte_at-kind.result c.args.text.now c.args.later.now c.byte_at-kind.ensures
    (λ k. absurd (omega (arith, k, c.if-kind-eq69.true)))
    (λ k. absurd (omega (arith, k, c.if-kind-eq69.true)))
    (λ k. absurd (omega (arith, k, c.if-kind-eq69.true)))
    (λ k. subst (ReadsSelect (λ x. IfOk c.select.result (λ found. found ≡ Some x))) c.behind-then-kind-eq69.ensures c.select.ensures)
    (λ k. absurd (omega (arith, k, c.if-kind-eq69.true)))
    (λ a b d e f. absurd (e c.if-kind-eq69.true))

pub returns-then-kind-eq80 : goal.returns-then-kind-eq80
returns-then-kind-eq80 c = command_read (λ x. IfOk c.append.result
    (λ found. found ≡ Some x)) c.byte_at-kind.result c.args.text.now c.args.later.now c.byte_at-kind.ensures
    (λ k. absurd (omega (arith, k, c.if-kind-eq80.true)))
    (λ k. absurd (omega (arith, k, c.if-kind-eq80.true)))
    (λ k. absurd (omega (arith, k, c.if-kind-eq80.true)))
    (λ k. absurd (omega (arith, k, c.if-kind-eq80.true)))
    (λ k. subst (λ t. ReadsAppend (λ x. IfOk c.append.result (λ found. found ≡ Some x)) t c.args.later.now) c.behind-then-kind-eq80.ensures c.append.ensures)
    (λ a b d e f. absurd (f c.if-kind-eq80.true))

pub returns : goal.returns
returns c = command_read (λ x. c.wordy.result ≡ Some x) c.byte_at-kind.result c.args.text.now c.args.later.now c.byte_at-kind.ensures
    (λ k. absurd (c.if-kind-eq73.false k))
    (λ k. absurd (c.if-kind-eq79.false k))
    (λ k. absurd (c.if-kind-eq85.false k))
    (λ k. absurd (c.if-kind-eq69.false k))
    (λ k. absurd (c.if-kind-eq80.false k))
    (λ a b d e f. record { capability = c.wordy.ensures.capability; enable = c.wordy.ensures.enable; rev2 = c.wordy.ensures.rev2 })
