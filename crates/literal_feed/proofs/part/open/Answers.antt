use Rattle.std.proofs.Common.{[], sym, arith, append-nil}
use Rattle.literal_feed.proofs.Parts.{long_fault}
use Rattle.literal_feed.proofs.part.open.Goals as goal

pub returns-then-counted_len-room : goal.returns-then-counted_len-room
returns-then-counted_len-room c =
    long_fault c.args.at c.args.cursor.part c.args.cursor.counted c.args.part.now c.args.part.now [] c.counted_len.result _ c.told.result
    (sym (append-nil c.args.part.now)) c.requires.plain c.counted_len.ensures c.args.cursor.room
    (omega arith) c.if-counted_len-room.true c.told.ensures
