-- How a command goes: how it ends, what a stop leaves at each of its moments, and how the books that it may leave go on.
use Rattle.std.specs.Prelude.{ℕ, List}
use Rattle.mail_base.specs.Account.{Credentials}
use Rattle.mail_base.specs.declared.status.Status.{Status}
use Rattle.world_traits.specs.Links.{Any}
use Rattle.world_traits.specs.Moments.{OneSideAtRest, Since}
use Rattle.store_core.specs.Mail.{mail}
use Rattle.store_core.specs.Steps.{Books}
use Rattle.store_core.specs.Taking.{HasBooks}
use Rattle.mail_top.specs.Course.{Course}
use Rattle.mail_top.specs.Ending.{Ends, EndsAct, EndsRequest}
use Rattle.mail_top.specs.Leaving.{MayBeLeft, KeepsStep, RequestStep, KeepsOn, GoesOnBy}
use Rattle.mail_top.specs.Words.{Request, Wanted, Act}

-- At each moment of it a stop leaves what the request asks for; no step loses an action that all images hold; and where one side was
-- at rest, the books go on from each moment to the next as the request asks.
pub record GoesBy (request : Request) (k : Course) : Type 0 where
  pub keeps : Since (MayBeLeft request k.old.now k.seen) (KeepsStep request) k.old k.new
  pub books : OneSideAtRest k.old.now → (books : Books mail) → HasBooks mail books k.old.now → Since Any (RequestStep request) k.old k.new

-- so an action that is asked for goes
pub record GoesAction (wanted : Wanted) (k : Course) (s : Status) (text : List ℕ) : Type 0 where
  pub ends : EndsAct wanted k s text
  pub goes : GoesBy (Act wanted) k

-- so a request goes
pub record GoesRequest (account : Credentials) (request : Request) (k : Course) (s : Status) (text : List ℕ) : Type 0 where
  pub ends : EndsRequest account request k s text
  pub goes : GoesBy request k

-- So the words and the input go: at every moment a stop leaves what was accepted, and nothing but what they ask for.
pub record Goes (account : Credentials) (words : List (List ℕ)) (input : List ℕ) (k : Course) (s : Status) (text : List ℕ) : Type 0 where
  pub ends : Ends account words input k s text
  pub every : KeepsOn words input k.old.now k.seen k.old k.new
  pub books : OneSideAtRest k.old.now → (books : Books mail) → HasBooks mail books k.old.now → GoesOnBy words input k.old k.new
