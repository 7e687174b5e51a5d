-- Who logs in (RFC 9051, section 6.2.3), and what no command can carry (RFC 9051, section 9: no NUL in a string).
use Rattle.std.specs.Prelude.{ℕ, List, Contains}

-- a user's name and password
pub record Credentials : Type 0 where
  pub user : List ℕ
  pub password : List ℕ

-- neither holds a NUL
pub record IsPlain (user password : List ℕ) : Type 0 where
  pub user_has_none : ¬ (Contains user 0)
  pub password_has_none : ¬ (Contains password 0)
