use Rattle.std.proofs.lemmas.Result.{on_ok_weaker}
use Rattle.action_queue.specs.Book.{meaning}
use Rattle.playback.proofs.Calls.{counts, covers, none_lacks}
use Rattle.playback.proofs.Besides.{heard_beside, heard_honest}
use Rattle.playback.proofs.Falling.{heard_falls}
use Rattle.playback.proofs.Taking.{heard_knows}
use Rattle.playback.proofs.player.Player.heard.Goals as goal

pub returns-clause-falls : goal.returns-clause-falls
returns-clause-falls c =
    on_ok_weaker c.hear.result (λ heard sound awaits.
    heard_falls c.args.self.now c.hear.new.self (meaning c.args.book.now) c.args.permits c.args.replies.now sound (heard sound) awaits)
    c.hear.ensures.value

pub returns-clause-beside : goal.returns-clause-beside
returns-clause-beside c =
    on_ok_weaker c.hear.result (λ heard sound beside.
    heard_beside c.args.self.now (meaning c.args.book.now) c.args.permits c.args.replies.now c.hear.new.self (heard sound) sound beside)
    c.hear.ensures.value

pub returns-clause-honest : goal.returns-clause-honest
returns-clause-honest c = λ w item kept reply known.
    none_lacks c.args.self.now (meaning c.args.book.now) c.args.permits c.args.replies.now c.hear.result item c.hear.ensures.fault
    (heard_honest c.args.self.now (meaning c.args.book.now) w c.args.permits c.args.replies.now kept reply known)

pub returns-clause-knows : goal.returns-clause-knows
returns-clause-knows c =
    on_ok_weaker c.hear.result (λ heard w kept reply fair known.
    heard_knows covers counts c.args.self.now c.hear.new.self (meaning c.args.book.now) w c.args.permits c.args.replies.now kept reply
    fair (heard kept.sound) known) c.hear.ensures.value
