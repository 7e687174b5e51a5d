-- A server that owes a client a line (RFC 9051, sections 2.2.1 and 5.5).
use Rattle.std.specs.Prelude.{◌≡◌, List, [], ◌++◌, None}
use Rattle.imap_model.specs.Talking.{Peer, Unanswered}
use Rattle.imap_model.specs.declared.response.Response.{Response}

-- The server has told more than was heard, or a command waits, or a part isn't answered.
pub record Owes (heard : List Response) (p : Peer) : Type 0 where
  pub more : List Response
  pub told : p.talk.told ≡ heard ++ more
  pub owed : more ≡ [] → p.waiting ≡ None → ¬ (Unanswered p) → ⊥
