-- What the words of a drill ask for.
use Rattle.std.specs.Prelude.{ℕ, ◌≡◌, ◌≤◌, ◌<◌, ◌^◌, List, [], ◌∷◌, decimal}
use Rattle.mail_drill.specs.declared.task.Task.{Task}

-- The words are the seed and the size, without leading zeros; the seed is below 2^32, and the size is from 1 to 2,000.
pub record WritesTask (words : List (List ℕ)) (task : Task) : Type 0 where
  pub words_are : words ≡ decimal task.seed ∷ decimal task.size ∷ []
  pub fits : task.seed < 2 ^ 32
  pub some : 1 ≤ task.size
  pub most : task.size ≤ 2000
