-- How the server with its connection goes on while one command is asked.
use Rattle.std.specs.Prelude.{◌≡◌, ℕ, List, []}
use Rattle.mail_base.specs.declared.tag.Tag.{Tag}
use Rattle.imap_model.specs.Talking.{Peer, Answering, Awaits, IsPartOf, arrived}
use Rattle.imap_model.specs.declared.command.Command.{Command}
use Rattle.imap_model.specs.declared.response.Response.{Response}

-- What may happen while this command is sent and answered, once. (Its text begins while no more than this was told; so it
-- can't begin again behind its answer.)
pub data Asking (told : List Response) (tag : Tag) (command : Command) (p : Peer) : Peer → Type 0 where
  answers : {q : Peer} → Answering p q → Asking told tag command p q
  arrives : (before : List (List ℕ)) (part : List ℕ) (behind : List (List ℕ)) → IsPartOf tag command before part behind →
      Awaits tag before p → (before ≡ [] → p.talk.told ≡ told) → Asking told tag command p (arrived tag command before part behind p)
