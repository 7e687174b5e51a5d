-- The row of a UID stands at its place, or nowhere.
use Rattle.std.proofs.Common.{◌≡◌, ◌∙◌, sym, ap, slice_get, None, Some}
use Rattle.std.specs.Option.{option_copied}
use Rattle.mailbox_cache.proofs.Splitting.{got_none, got_some, row_none, row_same, row_other}
use Rattle.mailbox_cache.proofs.search.row_in.Goals as goal

pub returns-in_err-other : goal.returns-in_err-other
returns-in_err-other c =
    let none : slice_get c.args.rows.now c.place_of-place.result ≡ None = got_none c.args.rows.now c.place_of-place.result c.in_err-other.ensures.lookup.3 in
    ap option_copied c.from_residual.ensures ∙ sym (row_none c.args.uid c.args.rows.now c.place_of-place.result c.place_of-place.ensures.below none)

pub returns-then-number : goal.returns-then-number
returns-then-number c =
    let there : slice_get c.args.rows.now c.place_of-place.result ≡ Some c.in_ok-other.field-0.now =
    got_some c.args.rows.now c.place_of-place.result c.in_ok-other.field-0.now c.in_ok-other.ensures.lookup.3.0
    c.in_ok-other.ensures.lookup.1 in
    sym (row_other c.args.uid c.args.rows.now c.place_of-place.result c.in_ok-other.field-0.now c.requires c.place_of-place.ensures.below
    c.place_of-place.ensures.behind there (λ same. c.if-number.true (c.number.ensures.value ∙ same ∙ sym c.number-2.ensures.value)))

pub returns : goal.returns
returns c =
    let there : slice_get c.args.rows.now c.place_of-place.result ≡ Some c.in_ok-other.field-0.now =
    got_some c.args.rows.now c.place_of-place.result c.in_ok-other.field-0.now c.in_ok-other.ensures.lookup.3.0
    c.in_ok-other.ensures.lookup.1 in
    sym (row_same c.args.uid c.args.rows.now c.place_of-place.result c.in_ok-other.field-0.now c.place_of-place.ensures.below there
    (sym c.number.ensures.value ∙ c.if-number.false ∙ c.number-2.ensures.value))
