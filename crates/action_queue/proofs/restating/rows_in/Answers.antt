-- So many rows from a place on, and fewer where fewer are left.
use Rattle.std.proofs.Common.{ℕ, ◌*◌, ◌∙◌, ap, arith, take, drop, length-drop}
use Rattle.std.proofs.lemmas.List.{take_min}
use Rattle.mailbox_cache.proofs.Splitting.{take_rises}
use Rattle.action_queue.proofs.Told.{apart_none, drop_rises}
use Rattle.action_queue.proofs.restating.rows_in.Goals as goal

pub returns-clause-value : goal.returns-clause-value
returns-clause-value c =
    let rest = drop (c.args.part * 1000) c.args.rows.now in
    ap (λ (n : ℕ). take n rest) (omega (arith, length-drop (c.args.part * 1000) c.args.rows.now)) ∙ take_min 1000 rest

pub returns-clause-rising : goal.returns-clause-rising
returns-clause-rising c = take_rises _ _ (drop_rises _ _ c.requires.rising)

pub returns-clause-apart : goal.returns-clause-apart
returns-clause-apart c = apart_none _
