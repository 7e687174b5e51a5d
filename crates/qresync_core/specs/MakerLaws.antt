-- A maker stands for all that it took, and makes what the whole replies tell (RFC 7162, section 3.2.5).
use Rattle.std.specs.Prelude.{◌≡◌, ◌+◌, true, false, List, [], ◌∷◌, ◌++◌, Option}
use Rattle.mailbox_cache.specs.declared.cache.Cache.{Cache}
use Rattle.mailbox_cache.specs.declared.delta.Delta.{Delta}
use Rattle.imap_model.specs.declared.replies.Replies.{Replies}
use Rattle.imap_model.specs.declared.response.Response.{Response}
use Rattle.qresync_core.specs.Behind.{is_closed}
use Rattle.qresync_core.specs.Making.{StandsFor, StandForAll, anew, Takes, MakesDelta, made_judged}
use Rattle.qresync_core.specs.Resync.{TellsDelta, judged, is_told_empty}
use Rattle.qresync_core.specs.declared.maker.DeltaMaker.{DeltaMaker}

abbrev pub StandsAtFirst : Type 0
StandsAtFirst = StandsFor (anew 0) []

-- one response more
abbrev pub StandsOn : Type 0
StandsOn = (old new : DeltaMaker) (list : List Response) (r : Response) → StandsFor old list → is_closed r ≡ false → Takes r old new → StandsFor new (list ++ r ∷ [])

-- at CLOSED it begins anew
abbrev pub StandsAnew : Type 0
StandsAnew = (old : DeltaMaker) (list : List Response) (r : Response) → StandsFor old list → is_closed r ≡ true → StandsFor (anew (old.count + 1)) (list ++ r ∷ [])

-- what it makes is what the replies tell
abbrev pub MakesTold : Type 0
MakesTold = (kept : Option Cache) (made : DeltaMaker) (selected : Replies) (every : Option DeltaMaker) (all : Option Replies) (delta : Delta) →
    StandsFor made selected.untagged → StandForAll every all → MakesDelta kept made selected.code every delta → TellsDelta kept selected all delta

-- and so is the first fault
abbrev pub JudgesAlike : Type 0
JudgesAlike = (kept : Option Cache) (made : DeltaMaker) (selected : Replies) (every : Option DeltaMaker) (all : Option Replies) →
    StandsFor made selected.untagged → StandForAll every all → made_judged kept made selected.code every ≡ judged kept selected all

abbrev pub EmptyAlike : Type 0
EmptyAlike = (made : DeltaMaker) (selected : Replies) → StandsFor made selected.untagged → made.empty ≡ is_told_empty selected
