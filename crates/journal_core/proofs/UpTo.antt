-- The records of a journal at rest stand up to its place.
use Rattle.std.proofs.Common.{ℕ, ◌+◌, List, ◌∷◌, ◌++◌, length, drop, ◌∙◌, ap, append_assoc, length-append}
use Rattle.std.proofs.lemmas.List.{drop_at}
use Rattle.world_traits.specs.Files.{Files, file_of}
use Rattle.world_traits.specs.Moments.{Moment}
use Rattle.journal_core.specs.Broken.{StandUpTo}
use Rattle.journal_core.specs.Records.{records}
use Rattle.journal_core.specs.Sides.{head_of}
use Rattle.journal_core.specs.Standing.{Standing, IsStill}
use Rattle.journal_core.proofs.Presence.{head_long}

pub up_to_here : (bodies : List (List ℕ)) (j : Standing) (m : Moment) (f : Files) → IsStill j bodies m f → StandUpTo j.place bodies (file_of j.side f)
up_to_here bodies j m f still = record {
  sizes = still.sizes;
  rest = still.gate ∷ still.rest;
  is = ap (drop 13) (still.is ∙ append_assoc (head_of j.version j.generation) (records bodies) (still.gate ∷ still.rest))
      ∙ drop_at (head_of j.version j.generation) (records bodies ++ still.gate ∷ still.rest) 13 (head_long j.version j.generation);
  there = still.next ∙ length-append (head_of j.version j.generation) (records bodies)
      ∙ ap (λ (n : ℕ). n + length (records bodies)) (head_long j.version j.generation);
}
