use Rattle.std.proofs.Common.{ap}
use Rattle.std.specs.List.{filter_map}
use Rattle.mail_header.specs.Folding.{whole_lines}
use Rattle.mail_header.specs.Field.{field_of}
use Rattle.mail_header.specs.Identifier.{id_bodies_from}
use Rattle.mail_header.proofs.Joined.{header_alone}
use Rattle.mail_header.proofs.laws.the_body_changes_nothing.Goals as goal

pub returns-clause-fields : goal.returns-clause-fields
returns-clause-fields c = λ header body. ap (λ lines. filter_map field_of (whole_lines lines)) (header_alone header body)

pub returns-clause-ids : goal.returns-clause-ids
returns-clause-ids c = λ header body. ap (λ lines. id_bodies_from 0 (whole_lines lines)) (header_alone header body)
