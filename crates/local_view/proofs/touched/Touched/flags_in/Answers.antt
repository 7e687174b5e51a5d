use Rattle.std.proofs.Common.{Some, None, refl, sym, ◌∙◌, ap}
use Rattle.std.specs.Option.{option_copied}
use Rattle.local_view.specs.Sights.{row_in}
use Rattle.local_view.proofs.Places.{nowhere, known_there, known_past}
use Rattle.local_view.proofs.Touches.{flags_at}
use Rattle.local_view.proofs.touched.Touched.flags_in.Goals as goal

pub returns-in_err-at : goal.returns-in_err-at
returns-in_err-at c =
    ap option_copied c.from_residual.ensures
    ∙ flags_at c.args.boxes.now c.args.self.now c.args.name.now c.args.uid None None None (sym c.in_err-at.ensures)
    (nowhere 0 c.args.name.now c.args.boxes.now (sym c.in_err-at.ensures)) refl

pub returns-in_err-get : goal.returns-in_err-get
returns-in_err-get c =
    ap option_copied c.from_residual-in_err-get.ensures
    ∙ flags_at c.args.boxes.now c.args.self.now c.args.name.now c.args.uid (Some c.in_ok-at.at) None None (sym c.in_ok-at.ensures)
    (known_past c.args.name.now c.args.boxes.now c.in_ok-at.at (sym c.in_ok-at.ensures) c.in_err-get.ensures.lookup.3) refl

pub returns-in_err-cache : goal.returns-in_err-cache
returns-in_err-cache c =
    let known = c.in_ok-get.field-0.now in
    ap option_copied c.from_residual-in_err-cache.ensures
    ∙ flags_at c.args.boxes.now c.args.self.now c.args.name.now c.args.uid (Some c.in_ok-at.at) (Some known) None (sym c.in_ok-at.ensures)
    (known_there c.args.name.now c.args.boxes.now c.in_ok-at.at known (sym c.in_ok-at.ensures) c.in_ok-get.ensures.lookup.3.0
    c.in_ok-get.ensures.lookup.1) (ap (row_in c.args.uid) (sym c.in_err-cache.ensures.value))

pub returns-in_err-row : goal.returns-in_err-row
returns-in_err-row c =
    let known = c.in_ok-get.field-0.now in
    ap option_copied c.from_residual-in_err-row.ensures
    ∙ flags_at c.args.boxes.now c.args.self.now c.args.name.now c.args.uid (Some c.in_ok-at.at) (Some known) None (sym c.in_ok-at.ensures)
    (known_there c.args.name.now c.args.boxes.now c.in_ok-at.at known (sym c.in_ok-at.ensures) c.in_ok-get.ensures.lookup.3.0
    c.in_ok-get.ensures.lookup.1) (ap (row_in c.args.uid) (sym c.in_ok-cache.ensures.value) ∙ sym c.in_err-row.ensures)

pub returns : goal.returns
returns c =
    let known = c.in_ok-get.field-0.now in
    c.left_of.ensures
    ∙ flags_at c.args.boxes.now c.args.self.now c.args.name.now c.args.uid (Some c.in_ok-at.at) (Some known) (Some c.in_ok-row.row.now)
    (sym c.in_ok-at.ensures) (known_there c.args.name.now c.args.boxes.now c.in_ok-at.at known (sym c.in_ok-at.ensures)
    c.in_ok-get.ensures.lookup.3.0 c.in_ok-get.ensures.lookup.1)
    (ap (row_in c.args.uid) (sym c.in_ok-cache.ensures.value) ∙ sym c.in_ok-row.ensures)
