-- The greeting that was read.
use Rattle.std.proofs.Common.{◌≡◌, [], ◌∷◌, ◌++◌, Bool, Option, sym, subst, ◌∙◌, ap}
use Rattle.literal_feed.specs.Stream.{Stream}
use Rattle.imap_model.specs.Talking.{Peer}
use Rattle.imap_model.specs.declared.response.Response.{Response}
use Rattle.world_traits.specs.LinkState.{Connection}
use Rattle.imap_session.specs.Faults.{IsHello}
use Rattle.imap_session.specs.Greeting.{Greets, IsBegun, is_preauth}
use Rattle.imap_session.specs.Hearing.{Hears}

pub greets_so : (preauth : Bool) (line greeting : Response) (c : Option Connection) (feed : Stream) → greeting ≡ line → IsHello greeting
    → Hears ([] ++ line ∷ []) c feed → preauth ≡ is_preauth greeting → Greets preauth c feed
greets_so preauth line greeting c feed same hello h is = record {
  greeting = greeting;
  hello = hello;
  hears = subst (λ (x : Response). Hears (x ∷ []) c feed) (sym same) h;
  is = is;
}

pub begun_so : (preauth : Bool) (line greeting : Response) (p : Peer) → greeting ≡ line → IsHello greeting → p.talk.told ≡ line ∷ []
    → preauth ≡ is_preauth greeting → IsBegun preauth p
begun_so preauth line greeting p same hello told is = record {
  greeting = greeting;
  hello = hello;
  told = told ∙ ap (λ (x : Response). x ∷ []) (sym same);
  is = is;
}
