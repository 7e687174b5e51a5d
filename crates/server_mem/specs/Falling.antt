-- What a step of hearing comes to, and where it ends for want of memory (RFC 9051, section 2.2.1).
use Rattle.std.specs.Prelude.{◌≡◌, ℕ, List, [], true}
use Rattle.imap_model.specs.Lines.{AreLines}
use Rattle.imap_model.specs.declared.response.Response.{Response}
use Rattle.server_mem.specs.Hearing.{Steps}
use Rattle.server_mem.specs.States.{State}
use Rattle.server_mem.specs.Texts.{steps_text}

-- what is left where memory was wanting
abbrev pub broken : State → State
broken s = record s { parts = []; begun = []; failed = true }

-- some whole parts were answered, and these bytes tell it
pub record Tells (s : State) (bytes : List ℕ) (u : State) : Type 0 where
  pub told : List Response
  pub steps : Steps s told u
  pub lines : AreLines told bytes
  pub text : bytes ≡ steps_text s told u steps

-- some whole parts were answered, when memory was wanting
pub record Falls (s u : State) : Type 0 where
  pub told : List Response
  pub last : State
  pub steps : Steps s told last
  pub same : broken u ≡ broken last
