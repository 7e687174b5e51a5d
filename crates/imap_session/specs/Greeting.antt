-- The greeting that was read (RFC 9051, sections 7.1.1 and 7.1.4).
use Rattle.std.specs.Prelude.{◌≡◌, Bool, true, false, [], ◌∷◌, Option}
use Rattle.literal_feed.specs.Stream.{Stream}
use Rattle.imap_model.specs.Talking.{Peer}
use Rattle.imap_model.specs.declared.response.Response.{Response}
use Rattle.imap_model.specs.declared.response.Response.TheVariants as responses
use Rattle.world_traits.specs.LinkState.{Connection}
use Rattle.imap_session.specs.Faults.{IsHello}
use Rattle.imap_session.specs.Hearing.{Hears}

-- it says that the user is logged in already
abbrev pub is_preauth : Response → Bool
is_preauth (responses.Done tag ending code) = false
is_preauth (responses.Untagged ending code) = false
is_preauth responses.Bye = false
is_preauth (responses.Preauth code) = true
is_preauth responses.Go = false
is_preauth (responses.Capability words) = false
is_preauth (responses.Enabled words) = false
is_preauth (responses.Exists count) = false
is_preauth (responses.Fetch fetched) = false
is_preauth (responses.Vanished earlier uids) = false
is_preauth (responses.Found uids) = false
is_preauth responses.Other = false

-- all that was told is one greeting, which is PREAUTH or OK
pub record IsBegun (preauth : Bool) (p : Peer) : Type 0 where
  pub greeting : Response
  pub hello : IsHello greeting
  pub told : p.talk.told ≡ greeting ∷ []
  pub is : preauth ≡ is_preauth greeting

-- all that was heard is one greeting, which is PREAUTH or OK
pub record Greets (preauth : Bool) (c : Option Connection) (feed : Stream) : Type 0 where
  pub greeting : Response
  pub hello : IsHello greeting
  pub hears : Hears (greeting ∷ []) c feed
  pub is : preauth ≡ is_preauth greeting
