-- The clauses of the player's functions, by what their values are.
use Rattle.action_queue.specs.Book.{Meaning}
use Rattle.append_probe.proofs.Lawful.{counts_right, search_is_complete}
use Rattle.append_probe.proofs.Parting.{part_is}
use Rattle.append_probe.specs.Laws.{PartsAreParts, SearchCovers, VerdictCounts}
use Rattle.imap_model.specs.declared.item.Item.{Item}
use Rattle.imap_model.specs.declared.replies.Replies.{Replies}
use Rattle.mailbox_cache.specs.declared.delta.Delta.{Delta}
use Rattle.playback.proofs.Gathering.{chosen_knows}
use Rattle.playback.proofs.Besides.{chosen_beside}
use Rattle.playback.specs.Allowed.{IsGathered}
use Rattle.playback.specs.Choosing.{FitsWanted, IsChosen}
use Rattle.book_laws.specs.Kept.{KeptBook}
use Rattle.playback.specs.Knows.{Knows}
use Rattle.playback.specs.Needs.{IsBeside}
use Rattle.playback.specs.Replying.{IsHeardFault, lacks}
use Rattle.book_laws.specs.Sound.{IsSound}
use Rattle.playback.specs.Worlds.{World, given}
use Rattle.playback.specs.declared.need.Unheard.{Unheard}
use Rattle.playback.specs.declared.player.Player.{Player}
use Rattle.qresync_core.specs.declared.fault.ResyncFault.{ResyncFault}
use Rattle.std.proofs.Common.{Bool, Err, None, Ok, Option, Result, Some, subst, sym, ◌∙◌, ◌≡◌}
use Rattle.std.specs.Prelude.{IfErr, IsErrOf}
use Rattle.playback.specs.declared.need.Unheard.TheVariants as unheards

-- the laws of the search for an append's message
pub covers : SearchCovers
covers = λ low id name box w s t r after set. search_is_complete name box w s t r after low id set

pub counts : VerdictCounts
counts = counts_right

-- what is searched for can be sent
pub parts : PartsAreParts
parts = part_is

-- a delta was taken, so one was handed over
pub taken_beside : (p new : Player) (b : Meaning) (told : Result Delta ResyncFault) → FitsWanted p b told → IsChosen p b told new →
    IsSound b → IsBeside p b → IsBeside new b
taken_beside p new b (Ok delta) fits chosen sound beside = chosen_beside p b delta new fits chosen sound beside
taken_beside p new b (Err fault) fits chosen sound beside = absurd chosen

pub taken_knows : (p new : Player) (b : Meaning) (told : Result Delta ResyncFault) → IsChosen p b told new → (delta : Delta) (w : World) →
    told ≡ Ok delta → KeptBook b w.course.now w.waiting → IsGathered delta b w → Knows p b w → Knows new b (given w)
taken_knows p new b told chosen delta w is kept gathered known =
    chosen_knows p new b w delta kept gathered (subst (λ (t : Result Delta ResyncFault). IsChosen p b t new) is chosen) known

-- the reply lacks nothing, so it isn't refused for that
some_none : (item : Item) → ◌≡◌ {A = Option Item} (Some item) None → ⊥
some_none item e = absurd (cc)

pub none_lacks : {T : Type 0} (p : Player) (b : Meaning) (permits : Bool) (r : Replies) (result : Result T Unheard) (item : Item) →
    IfErr result (IsHeardFault p b permits r) → lacks p b permits r ≡ None → IsErrOf result (unheards.Lacks item) → ⊥
none_lacks p b permits r (Ok x) item fault none is = absurd (cc)
none_lacks p b permits r (Err unheard) item fault none is =
    let same : unheard ≡ unheards.Lacks item = cc in
    let lacking : lacks p b permits r ≡ Some item = subst (λ (x : Unheard). IsHeardFault p b permits r x) same fault in
    absurd (some_none item (sym lacking ∙ none))
