use Rattle.std.proofs.lemmas.Result.{IfErr-weaker, on_ok_weaker}
use Rattle.action_queue.specs.Book.{meaning}
use Rattle.playback.proofs.Calls.{taken_beside, taken_knows}
use Rattle.playback.proofs.Falling.{taken_falls}
use Rattle.playback.proofs.Lower.{not_lower}
use Rattle.playback.proofs.WhyNot.{chosen_why}
use Rattle.playback.proofs.player.Player.chosen.Goals as goal

pub returns-clause-falls : goal.returns-clause-falls
returns-clause-falls c =
    on_ok_weaker c.choose.result (λ chosen name sound need.
    taken_falls c.args.self.now c.choose.new.self (meaning c.args.book.now) c.args.told name sound need chosen) c.choose.ensures.value

pub returns-clause-why : goal.returns-clause-why
returns-clause-why c =
    IfErr-weaker c.choose.result _ _ (chosen_why c.args.self.now (meaning c.args.book.now) c.args.told) c.choose.ensures.fault

pub returns-clause-honest : goal.returns-clause-honest
returns-clause-honest c = λ w delta old now is kept g known err.
    not_lower c.args.self.now (meaning c.args.book.now) c.args.told c.choose.result w delta old now (returns-clause-why c) is kept g known err

pub returns-clause-beside : goal.returns-clause-beside
returns-clause-beside c =
    on_ok_weaker c.choose.result (taken_beside c.args.self.now c.choose.new.self (meaning c.args.book.now) c.args.told c.requires)
    c.choose.ensures.value

pub returns-clause-knows : goal.returns-clause-knows
returns-clause-knows c =
    on_ok_weaker c.choose.result (taken_knows c.args.self.now c.choose.new.self (meaning c.args.book.now) c.args.told)
    c.choose.ensures.value
