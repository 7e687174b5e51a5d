use Rattle.std.proofs.Common.{◌≡◌, ◌≤◌, ◌<◌, List, length, get_or, ap, subst, arith}
use Rattle.action_queue.specs.Book.{meaning}
use Rattle.action_queue.specs.declared.queued.Queued.{Queued}
use Rattle.local_view.specs.Sights.{seen}
use Rattle.local_view.specs.Touching.{seen_so_far}
use Rattle.local_view.proofs.Effects.{next_acted, all_acted}
use Rattle.local_view.proofs.acting.touched_by.Goals as goal

pub overflow_cast-at : goal.overflow_cast-at
overflow_cast-at c = omega (arith, c.loop-at-test.true, ap length c.as_slice-queued-items.ensures, c.len-count.ensures.value, c.len-count.ensures.most)

pub overflow_add-at : goal.overflow_add-at
overflow_add-at c = omega (arith, c.loop-at-test.true, ap length c.as_slice-queued-items.ensures, c.len-count.ensures.value, c.len-count.ensures.most)

pub loop-at-preserved : goal.loop-at-preserved
loop-at-preserved c =
    let book = c.args.book.now in
    next_acted (meaning book) c.loop-at.at book.queue.items (seen (meaning book)) c.in-Some.id c.queued-item.result
    (seen_so_far book.boxes c.loop-at.touched) (seen_so_far book.boxes c.act_unless.new.touched) c.in-Some.ensures.value
    (subst (λ (qs : List Queued). c.loop-at.at < length qs) c.as_slice-queued-items.ensures c.loop-at-test.true)
    (subst (λ (qs : List Queued). c.queued-item.result ≡ get_or qs c.loop-at.at c.queued-item.result) c.as_slice-queued-items.ensures c.queued-item.is)
    c.in_ok-act_unless.ensures c.loop-at.invariant

pub returns : goal.returns
returns c =
    let book = c.args.book.now in
    all_acted (meaning book) c.loop-at.at book.queue.items (seen (meaning book)) (seen_so_far book.boxes c.loop-at.touched)
    (subst (λ (qs : List Queued). length qs ≤ c.loop-at.at) c.as_slice-queued-items.ensures c.loop-at-test.false) c.loop-at.invariant
