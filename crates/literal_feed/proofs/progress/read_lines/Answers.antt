use Rattle.std.proofs.Common.{ℕ, ◌+◌, ◌≤◌, List, length, drop, refl, sym, subst, arith, Some, None, length-drop}
use Rattle.mail_base.specs.Frames.{LineFault}
use Rattle.literal_feed.specs.Lines.{Stands, IsOpenLine, IsWholeLine}
use Rattle.literal_feed.proofs.Lines.{known}
use Rattle.literal_feed.proofs.Searches.{all_behind}
use Rattle.literal_feed.proofs.Streams.{known2, sure_le, line_fits, reads_line, holds_when_open, holds_when_bad}
use Rattle.literal_feed.proofs.progress.read_lines.Goals as goal

pub read_on-requires : goal.read_on-requires
read_on-requires c = known c.loop-end.invariant (λ r. subst (λ (t : List ℕ). Stands t c.loop-end.cursor)
    (sym (all_behind c.args.text.now c.loop-end.whole)) r.1)

pub overflow_add-whole : goal.overflow_add-whole
overflow_add-whole c =
    let text = c.args.text.now in
    let w = c.loop-end.whole in
    let fits : c.in-Whole.end + 2 ≤ length (drop w text) = sure_le _ _ c.in-Whole.ensures
    (λ l. line_fits (drop w text) c.in-Whole.end (subst (λ (t : List ℕ). IsWholeLine t c.in-Whole.end) (all_behind text w) l)) in
    omega (arith, fits, length-drop w text)

pub overflow_add-whole-in-Whole : goal.overflow_add-whole-in-Whole
overflow_add-whole-in-Whole c =
    let text = c.args.text.now in
    let w = c.loop-end.whole in
    let fits : c.in-Whole.end + 2 ≤ length (drop w text) = sure_le _ _ c.in-Whole.ensures
    (λ l. line_fits (drop w text) c.in-Whole.end (subst (λ (t : List ℕ). IsWholeLine t c.in-Whole.end) (all_behind text w) l)) in
    let within : w ≤ length text = sure_le _ _ c.loop-end.invariant (λ r. r.0.0) in
    omega (arith, fits, within, length-drop w text)

pub loop-end-smaller : goal.loop-end-smaller
loop-end-smaller c =
    let text = c.args.text.now in
    let w = c.loop-end.whole in
    let fits : c.in-Whole.end + 2 ≤ length (drop w text) = sure_le _ _ c.in-Whole.ensures
    (λ l. line_fits (drop w text) c.in-Whole.end (subst (λ (t : List ℕ). IsWholeLine t c.in-Whole.end) (all_behind text w) l)) in
    let within : w ≤ length text = sure_le _ _ c.loop-end.invariant (λ r. r.0.0) in
    omega (arith, fits, within, length-drop w text)

pub loop-end-preserved : goal.loop-end-preserved
loop-end-preserved c =
    let text = c.args.text.now in
    let w = c.loop-end.whole in
    let start = c.start-cursor.ensures in
    known2 c.loop-end.invariant c.in-Whole.ensures
    (λ r l. reads_line c.args.at text w c.in-Whole.end c.loop-end.cursor c.start-cursor.result r
    (subst (λ (t : List ℕ). IsWholeLine t c.in-Whole.end) (all_behind text w) l) start.part start.searched start.counted)

pub returns-in-Open : goal.returns-in-Open
returns-in-Open c =
    let text = c.args.text.now in
    let w = c.loop-end.whole in
    let both : ∥ Stands (drop w text) c.in-Open.cursor × IsOpenLine (drop w text) ∥₁ =
    known2 c.in-Open.ensures.0 c.in-Open.ensures.1 (λ s o. (
      subst (λ (t : List ℕ). Stands t c.in-Open.cursor) (all_behind text w) s,
      subst IsOpenLine (all_behind text w) o,
    )) in
    known2 c.loop-end.invariant both (λ r p. holds_when_open c.args.at text w c.loop-end.cursor
    (record { whole = w; cursor = c.in-Open.cursor; fault = None }) r refl refl p.0 p.1)

pub returns-in-Bad : goal.returns-in-Bad
returns-in-Bad c =
    let text = c.args.text.now in
    let w = c.loop-end.whole in
    known2 c.loop-end.invariant c.in-Bad.ensures (λ r b. holds_when_bad c.args.at text w c.loop-end.cursor
    (record { whole = w; cursor = c.loop-end.cursor; fault = Some c.in-Bad.fault }) c.in-Bad.fault r refl refl
    (subst (λ (k : ℕ). LineFault k (drop w text) c.in-Bad.fault) c.told.ensures
    (subst (λ (t : List ℕ). LineFault c.told.result t c.in-Bad.fault) (all_behind text w) b)))
