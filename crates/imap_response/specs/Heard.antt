-- What frames in a row spell (RFC 9051, section 9, response).
use Rattle.std.specs.Prelude.{List, [], ◌∷◌}
use Rattle.mail_base.specs.declared.frame.Frame.{Frame}
use Rattle.imap_model.specs.Responses.{Spells}
use Rattle.imap_model.specs.declared.response.Response.{Response}

-- each frame spells its response
abbrev pub Spell : List Frame → List Response → Type 0
Spell [] [] = Unit {0}
Spell [] (r ∷ rs) = ⊥
Spell (f ∷ fs) [] = ⊥
Spell (f ∷ fs) (r ∷ rs) = Spells f r × Spell fs rs
