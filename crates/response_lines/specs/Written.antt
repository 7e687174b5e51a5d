-- What is written behind bytes that were there: the lines of responses (RFC 9051, section 7).
use Rattle.std.specs.Prelude.{◌≡◌, ℕ, List, ◌++◌}
use Rattle.imap_model.specs.Lines.{AreLines}
use Rattle.imap_model.specs.declared.response.Response.{Response}

-- the lines of these responses came behind the old bytes, and nothing more
pub record WritesLines (told : List Response) (old new : List ℕ) : Type 0 where
  pub added : List ℕ
  pub grown : new ≡ old ++ added
  pub lines : AreLines told added
