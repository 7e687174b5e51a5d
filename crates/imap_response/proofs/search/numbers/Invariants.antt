use Rattle.std.proofs.Common.{◌≡◌, ◌-◌, length}
use Rattle.std.specs.List.{AllByRecursion}
use Rattle.imap_response.specs.ReadSearches.{numbers_from}
use Rattle.imap_response.specs.Sets.{IsUidNumber}
use Rattle.imap_response.proofs.TurnLemmas.{with_numbers}
use Rattle.imap_response.proofs.search.numbers.Given as goal

abbrev pub invariant-loop : goal.invariant-loop
invariant-loop l = record {
  uids : AllByRecursion IsUidNumber l.numbers.items;
  same : with_numbers l.numbers.items (numbers_from (l.end - l.counter) l.rest) ≡ numbers_from (length l.text) l.text;
}
