-- What may stand in front of the completion in a reply (RFC 9051, sections 2.2.2 and 7): neither a completion nor a request
-- to go on.
use Rattle.std.specs.List.{AllByRecursion}
use Rattle.std.specs.Prelude.{List}
use Rattle.imap_model.specs.declared.response.Response.{Response}
use Rattle.imap_model.specs.declared.response.Response.TheVariants as responses

abbrev pub IsBefore : Response → Type 0
IsBefore (responses.Done tag ending code) = ⊥
IsBefore (responses.Untagged ending code) = Unit {0}
IsBefore responses.Bye = Unit {0}
IsBefore (responses.Preauth code) = Unit {0}
IsBefore responses.Go = ⊥
IsBefore (responses.Capability words) = Unit {0}
IsBefore (responses.Enabled words) = Unit {0}
IsBefore (responses.Exists count) = Unit {0}
IsBefore (responses.Fetch fetched) = Unit {0}
IsBefore (responses.Vanished earlier uids) = Unit {0}
IsBefore (responses.Found uids) = Unit {0}
IsBefore responses.Other = Unit {0}

abbrev pub AreBefore : List Response → Type 0
AreBefore told = AllByRecursion IsBefore told
