-- The greeting (RFC 9051, section 7.1.1): it tells what is offered, where something is.
use Rattle.std.specs.Prelude.{ℕ, List}
use Rattle.imap_model.specs.declared.ending.Ending.TheVariants as endings
use Rattle.imap_model.specs.declared.response.Response.{Response}
use Rattle.imap_model.specs.declared.response.Response.TheVariants as responses
use Rattle.response_lines.specs.LineTexts.{greeting_code}

abbrev pub greeting : List (List ℕ) → Response
greeting offers = responses.Untagged endings.Ok (greeting_code offers)
