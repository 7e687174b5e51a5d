-- What a server in memory has to offer a run (RFC 9051, sections 6.1.1 and 6.3.1; RFC 7162, section 3.2.3).
use Rattle.std.specs.Prelude.{◌≡◌, Bool, true, None, [], ◌∷◌, codes}
use Rattle.imap_model.specs.PlainServer.{Choices, accepted, enabled_names, offers_told}
use Rattle.imap_model.specs.declared.code.Code.TheVariants as codings
use Rattle.imap_model.specs.declared.replies.Replies.{Replies}
use Rattle.imap_model.specs.declared.response.Response.TheVariants as responses
use Rattle.imap_session.specs.Enabled.{is_enabled}
use Rattle.play_driver.specs.Serving.{AllowsLogin, IsFit}

-- what it tells of what it offers
abbrev pub offer_in : Choices → Replies
offer_in c = accepted (offers_told c.offers) codings.None

-- It lets a user log in, offers what this client needs, enables QRESYNC where that is asked for, and has no mailbox that nothing is appended
-- to.
pub record OffersAll (c : Choices) : Type 0 where
  pub login : AllowsLogin (offer_in c)
  pub fit : IsFit (offer_in c)
  pub enables : (rev2 : Bool) → is_enabled (codes "QRESYNC") (responses.Enabled (enabled_names c rev2) ∷ []) ≡ true
  pub each_open : c.closed ≡ None
