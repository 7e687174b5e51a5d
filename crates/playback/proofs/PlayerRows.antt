-- What is needed behind a reply, in worked states, by computation.
use Rattle.std.proofs.Common.{List, [], arith, inl, inr, refl, subst, suc, sym, zero, ℕ, ◌≡◌, ◌≤◌, ◌∷◌}
use Rattle.imap_model.specs.CarriedOut.{FoundTold}
use Rattle.imap_model.specs.declared.response.Response.{Response}
use Rattle.imap_model.specs.declared.response.Response.TheVariants as responses
use Rattle.playback.specs.PlayerRows.{AppendRows, FlagRows, MoveRows, NeedsInCases, OpenStoreRows, RenewedRows, StoreRows, one, told}
use Rattle.playback.specs.Replying.{HearsFound}
use Rattle.playback.specs.declared.finding.Finding.TheVariants as findings
use Rattle.append_probe.specs.declared.verdict.Verdict.TheVariants as verdicts
use Rattle.std.specs.Prelude.{codes}
use Rattle.std.specs.declared.alloc.Global.{Global}
use Rattle.uid_sets.specs.UidSet.{Member}
use Rattle.uid_sets.specs.declared.uid.UidRange.{UidRange}

six_at : (uid : ℕ) → Member (one 6) uid → uid ≤ 6
six_at uid (inl here) = omega (arith, here.below)
six_at uid (inr none) = absurd none

is_six : (uids : List UidRange) (uid : ℕ) → ◌≡◌ {A = Response} (responses.Found (one 6)) (responses.Found uids) → Member uids uid → uid ≤ 6
is_six uids uid same member =
    let ranges : one 6 ≡ uids = cc in
    let six : Member (one 6) uid = subst (λ (x : List UidRange). Member x uid) (sym ranges) member in
    six_at uid six

only_six : (uid : ℕ) → FoundTold (responses.Found (one 6) ∷ []) uid → uid ≤ 6
only_six uid (uids, (zero, within, same), member) = is_six uids uid same member
only_six uid (uids, (suc k, within, same), member) = absurd (omega (arith, within))

six_below : HearsFound 7 (told (responses.Found (one 6) ∷ [])) (findings.Probed verdicts.NotThere)
six_below = record {
  uids = [];
  found = λ uid. (λ member. absurd member, λ both. absurd (omega (arith, only_six uid both.0, both.1)));
  is = refl;
}

flag_rows : (alloc : Global) → FlagRows alloc
flag_rows alloc = record {
  selects = refl;
  asks = refl;
  intends = refl;
  told_last = refl;
  is_so = refl;
  gone = refl;
  barred = refl;
  star_is_for_keywords = record { key = codes "\\seen"; is_asked = refl; lacks = refl; no_star = λ e. absurd (cc) };
  is_so_first = refl;
  bare = refl;
  flagless = refl;
}

store_rows : (alloc : Global) → StoreRows alloc
store_rows alloc = record { sends = refl; done = refl; changed = refl; begins_anew = refl; sends_anew = refl; changed_again = refl; changed_at_last = refl; of_another = refl; refused = refl; gone = refl }

open_store_rows : (alloc : Global) → OpenStoreRows alloc
open_store_rows alloc = record { asks = refl; found_so = refl; unsure = refl; sends_again = refl; gone = refl }

move_rows : (alloc : Global) → MoveRows alloc
move_rows alloc = record {
  intends = refl;
  done = refl;
  of_another = refl;
  told_last = refl;
  gone = refl;
  sends_again = refl;
  source_gone = refl;
}

renewed_rows : (alloc : Global) → RenewedRows alloc
renewed_rows alloc = record {
  flag = refl;
  move = refl;
  lower = refl;
  elsewhere = refl;
  open_flag = refl;
  open_move = refl;
  open_append = refl;
  append = refl;
  below = refl;
  above = refl;
  takes_away = refl;
  same = refl;
  fell = refl;
  none_kept = refl;
}

append_rows : (alloc : Global) → AppendRows alloc
append_rows alloc = record {
  selects = refl;
  intends = refl;
  done = refl;
  untold = refl;
  selects_again = refl;
  searches = refl;
  earlier_one = six_below;
  sends_again = refl;
  found = refl;
  ambiguous = refl;
}

pub needs_rows : NeedsInCases
needs_rows = record { flag = flag_rows; store = store_rows; open_store = open_store_rows; move = move_rows; append = append_rows; renewed = renewed_rows }
