use Rattle.std.proofs.Common.{◌≡◌, ◌++◌, List, OnOk, sym, ◌∙◌, ap, subst}
use Rattle.std.proofs.lemmas.Result.{on_ok_weaker}
use Rattle.std.specs.List.{flat_map}
use Rattle.action_queue.specs.Book.{cache_at, cache_of}
use Rattle.action_queue.specs.declared.book.Known.{Known}
use Rattle.local_view.specs.Listing.{listed_rows}
use Rattle.local_view.specs.Touching.{seen_so_far, left_row}
use Rattle.local_view.proofs.Listed.{no_rows, rows_listed}
use Rattle.local_view.proofs.Places.{nowhere, known_there, known_past}
use Rattle.local_view.proofs.listing.put_cached.Goals as goal

pub returns-in_default : goal.returns-in_default
returns-in_default c =
    let name = c.args.name.now in
    let rows = c.args.rows.now.items in
    let boxes = c.as_slice-boxes.result.now in
    subst (λ (bs : List Known). rows ≡ rows ++ listed_rows (seen_so_far bs c.args.touched.now) name (cache_at name bs)) c.as_slice-boxes.ensures
    (no_rows (seen_so_far boxes c.args.touched.now) name (cache_at name boxes) rows (ap cache_of (nowhere 0 name boxes (sym c.in_default.ensures))))

pub returns-in_default-get : goal.returns-in_default-get
returns-in_default-get c =
    let name = c.args.name.now in
    let rows = c.args.rows.now.items in
    let boxes = c.as_slice-boxes.result.now in
    subst (λ (bs : List Known). rows ≡ rows ++ listed_rows (seen_so_far bs c.args.touched.now) name (cache_at name bs)) c.as_slice-boxes.ensures
    (no_rows (seen_so_far boxes c.args.touched.now) name (cache_at name boxes) rows
    (ap cache_of (known_past name boxes c.in-Some.at (sym c.in-Some.ensures) c.in_default-get.ensures.lookup.3)))

pub returns-in_default-cache : goal.returns-in_default-cache
returns-in_default-cache c =
    let name = c.args.name.now in
    let rows = c.args.rows.now.items in
    let boxes = c.as_slice-boxes.result.now in
    let found = c.in-Some-get.ensures.lookup in
    subst (λ (bs : List Known). rows ≡ rows ++ listed_rows (seen_so_far bs c.args.touched.now) name (cache_at name bs)) c.as_slice-boxes.ensures
    (no_rows (seen_so_far boxes c.args.touched.now) name (cache_at name boxes) rows
    (ap cache_of (known_there name boxes c.in-Some.at c.in-Some-get.known.now (sym c.in-Some.ensures) found.3.0 found.1) ∙ c.in_default-cache.is))

pub returns : goal.returns
returns c =
    let name = c.args.name.now in
    let rows = c.args.rows.now.items in
    let touched = c.args.touched.now in
    let boxes = c.as_slice-boxes.result.now in
    let at = c.in-Some.at in
    let known = c.in-Some-get.known.now in
    let found = c.in-Some-get.ensures.lookup in
    let cached = c.as_slice.result.now in
    subst (λ (bs : List Known). OnOk c.put_rows.result (c.put_rows.new.rows.items ≡ rows ++ listed_rows (seen_so_far bs touched) name (cache_at name bs)))
    c.as_slice-boxes.ensures
    (on_ok_weaker c.put_rows.result (λ (e : c.put_rows.new.rows.items ≡ rows ++ flat_map (left_row touched at) cached).
    e ∙ ap (λ l. rows ++ l) (ap (flat_map (left_row touched at)) c.as_slice.ensures.value
    ∙ rows_listed boxes touched name at known c.in-Some-cache.cache (sym c.in-Some.ensures)
    (known_there name boxes at known (sym c.in-Some.ensures) found.3.0 found.1) c.in-Some-cache.is c.as_slice.ensures.rising)) c.put_rows.ensures)
