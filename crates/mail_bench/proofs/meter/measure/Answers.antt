use Rattle.std.proofs.Common.{◌≡◌, ◌∙◌, ◌-◌, ◌%◌, ◌≤◌, ◌++◌, Bool, List, ℕ, ap, arith, rules, subst, sym}
use Rattle.std.proofs.Math.Nat.{zero-mod}
use Rattle.mail_bench.specs.Blocks.{text_in}
use Rattle.mail_bench.specs.Breaking.{Breaks, IsSound}
use Rattle.mail_bench.specs.Metered.{Metered}
use Rattle.mail_bench.specs.Repeated.{stretch}
use Rattle.mail_bench.proofs.Breaking.{breaks_stay, handed_on, nothing_sound}
use Rattle.mail_bench.proofs.Stretching.{came_more, next_behind, nothing_yet, period_is, still_to_come, whole_stream}
use Rattle.mail_bench.proofs.meter.measure.Goals as goal

pub loop-left-init : goal.loop-left-init
loop-left-init c =
    let size = c.args.size in
    let period = c.args.block.now.period in
    let nothing = nothing_yet (text_in c.args.block.now) size in
    let none : size - size ≡ 0 = omega arith in
    record {
      at = sym (ap (λ (k : ℕ). k % period) none ∙ zero-mod period);
      within = omega arith;
      reads = c.new-meter.ensures.reads;
      taken = c.new-meter.ensures.taken;
      counted = subst (λ (all : List ℕ). Metered all c.new-meter.result) nothing c.new-meter.ensures.counted;
      sound = subst (λ (all : List ℕ). IsSound all) nothing nothing_sound;
    }

-- the piece is one of the bytes that were left
pub loop-left-preserved : goal.loop-left-preserved
loop-left-preserved c =
    let block = c.args.block.now in
    let text = text_in block in
    let at = c.loop-left.invariant in
    let is = period_is block.bytes.items block.period block.most block.enough in
    let came = stretch text 0 (c.args.size - c.loop-left.left) in
    let few : c.min-count.result ≤ c.loop-left.left = omega (arith, c.min-count.ensures) in
    let more = came_more text c.piece.result.now block.period c.args.size c.loop-left.left c.loop-left.at c.min-count.result is at.at at.within few
    c.piece.ensures in
    record {
      at = c.behind-at.ensures ∙ next_behind text c.piece.result.now block.period c.args.size c.loop-left.left c.loop-left.at c.min-count.result is
          at.at at.within few c.piece.ensures;
      within = omega (arith, at.within);
      reads = c.in_ok-push.ensures.reads ∙ at.reads;
      taken = c.in_ok-push.ensures.taken;
      counted = subst (λ (all : List ℕ). Metered all c.push.new.self) more (c.in_ok-push.ensures.counted came at.counted);
      sound = subst (λ (all : List ℕ). IsSound all) more (c.in_ok-push.ensures.sound came at.counted);
    }

pub returns-in_err-push-clause-why : goal.returns-in_err-push-clause-why
returns-in_err-push-clause-why c =
    let block = c.args.block.now in
    let text = text_in block in
    let at = c.loop-left.invariant in
    let piece = c.piece.result.now in
    let is = period_is block.bytes.items block.period block.most block.enough in
    let came = stretch text 0 (c.args.size - c.loop-left.left) in
    let few : c.min-count.result ≤ c.loop-left.left = omega (arith, c.min-count.ensures) in
    let later = still_to_come text piece block.period c.args.size c.loop-left.left c.loop-left.at c.min-count.result is at.at at.within few c.piece.ensures in
    let whole = whole_stream text piece block.period c.args.size c.loop-left.left c.loop-left.at c.min-count.result is at.at at.within few
    c.piece.ensures in
    let fault = c.in_err-push.field-0.0 in
    let bad = c.in_err-push.ensures.why came at.counted at.sound in
    let stays = breaks_stay c.loop-left.meter.reads (came ++ piece) later fault bad in
    handed_on c.from_residual.result fault (Breaks c.args.reads (stretch text 0 c.args.size)) (search rules)
    (subst (λ (b : Bool). Breaks b (stretch text 0 c.args.size) fault) at.reads
    (subst (λ (all : List ℕ). Breaks c.loop-left.meter.reads all fault) whole stays))

pub returns-clause-sound : goal.returns-clause-sound
returns-clause-sound c =
    let all : c.args.size - c.loop-left.left ≡ c.args.size = omega (arith, c.loop-left-test.false) in
    subst (λ (n : ℕ). IsSound (stretch (text_in c.args.block.now) 0 n)) all c.loop-left.invariant.sound
