use Rattle.std.proofs.Common.{◌≡◌, ◌++◌, arith, length, length-append, rules}
use Rattle.mail_base.specs.Frames.{told}
use Rattle.mail_bench.specs.Breaking.{Breaks, IsSound}
use Rattle.mail_bench.specs.declared.fault.MeterFault.TheVariants.{Feed}
use Rattle.mail_bench.proofs.Breaking.{all_sound, handed_on, piece_breaks, whatever}
use Rattle.mail_bench.proofs.meter.Meter.push.Goals as goal

pub returns-in_err-push-clause-why : goal.returns-in_err-push-clause-why
returns-in_err-push-clause-why c = λ all metered sound.
    let reads = c.args.self.now.reads in
    let fault = c.in_err-push.field-0.0 in
    handed_on c.from_residual.result (Feed fault) (Breaks reads (all ++ c.args.piece.now)) (search rules)
    (piece_breaks reads all c.args.piece.now metered.0 c.args.self.now.feed c.push.new.self fault metered.1 sound
    c.in_err-push.ensures.fault c.in_err-push.ensures.first)

pub returns-clause-sound : goal.returns-clause-sound
returns-clause-sound c = λ all metered.
    let all' = all ++ c.args.piece.now in
    whatever c.take_all.result (IsSound all')
    (all_sound all' metered.0 c.push.new.self (c.in_ok-push.ensures.stands all metered.0 metered.1) c.in_ok-push.ensures.done.1)

pub returns-clause-why : goal.returns-clause-why
returns-clause-why c = λ all metered sound.
    let all' = all ++ c.args.piece.now in
    let bytes : c.saturating_add-self.result ≡ told (length all') = omega
    (arith, metered.4, length-append all c.args.piece.now, c.saturating_add-self.ensures) in
    c.take_all.ensures.why all' (metered.0, c.in_ok-push.ensures.stands all metered.0 metered.1, metered.2, metered.3, bytes)
