-- The bodies of Message-ID fields that are still to come.
use Rattle.std.specs.Prelude.{ℕ, ◌-◌, List, length}
use Rattle.std.specs.Borrow.{Bor}
use Rattle.mail_header.specs.Folding.{whole_header}
use Rattle.mail_header.specs.Identifier.{PlacedBody, id_bodies_from}
use Rattle.mail_header.specs.declared.identifier.IdBodies.{IdBodies}

-- those in what is left of the text
abbrev pub bodies_left : IdBodies → List PlacedBody
bodies_left bodies = id_bodies_from (bodies.end - length bodies.rest.now) (whole_header bodies.rest.now)

-- a place and the bytes of a body
abbrev pub placed : ℕ × Bor (List ℕ) → PlacedBody
placed one = record { at = one.0; body = one.1.now }
