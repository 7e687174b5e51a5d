-- What is counted is so of the book that each stop leaves, and there is one.
use Rattle.std.proofs.Common.{◌∙◌, refl, ap}
use Rattle.imap_model.specs.declared.server.Server.{Server}
use Rattle.action_queue.specs.Book.{Meaning}
use Rattle.world_traits.specs.Memory.{state_of}
use Rattle.world_mem.specs.Image.{bytes_of}
use Rattle.mail_drill.specs.Came.{history_of}
use Rattle.mail_drill.specs.Standing.{now_of}
use Rattle.mail_drill.proofs.OneImage.{counted, opened}
use Rattle.mail_drill.proofs.examining.counts_in.Goals as goal

pub returns : goal.returns
returns c = λ b has.
    let counts = counted b c.in-Ok.store.book (now_of c.args.world.now) (bytes_of c.in_ok-files.files) has c.in_ok-files.ensures c.in_ok-left.left.items
    c.in_ok-right.right.items c.in_ok-left.ensures c.in_ok-right.ensures (state_of c.new-disk.result) c.new-disk.ensures.state
    (c.in-Ok.ensures.value tt) c.counts_of.result c.book.result.now.queue.items c.as_slice-history.result.now (history_of c.args.world.now.world)
    (ap (λ (x : Meaning). x.queue) c.book.ensures) (c.as_slice-history.ensures ∙ ap (λ (s : Server). s.history) c.server.ensures)
    c.counts_of.ensures.settled c.counts_of.ensures.twice c.counts_of.ensures.missing in
    (c.counts_of.result, refl, counts.0, counts.1, counts.2)

pub returns-in-Err : goal.returns-in-Err
returns-in-Err c = λ b has.
    opened b (now_of c.args.world.now) (bytes_of c.in_ok-files.files) has c.in_ok-files.ensures c.in_ok-left.left.items c.in_ok-right.right.items
    c.in_ok-left.ensures c.in_ok-right.ensures (state_of c.new-disk.result) c.new-disk.ensures.state c.open.result (c.open.ensures.whole tt)
    c.open.ensures.only _ c.in-Err.fault c.in-Err.is c.without_store.result c.without_store.ensures
