-- The examples.
use Rattle.book_laws.proofs.Needing as needed
use Rattle.book_laws.proofs.laws.conditions_are_needed.Goals as goal

pub returns : goal.returns
returns c = record {
  outcome_fits = needed.outcome_fits;
  none_waits = needed.none_waits;
  intent_is_so = needed.intent_is_so;
  cache_is_fresh = needed.cache_is_fresh;
  no_deed_yet = needed.no_deed_yet;
  others_spare = needed.others_spare;
  others_settle = needed.others_settle;
}
