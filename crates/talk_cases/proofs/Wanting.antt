-- The delta that is handed over is one for the mailbox that is needed.
use Rattle.std.proofs.Common.{◌≡◌, ℕ, List, Result, Ok, Err, ◌∙◌, ap, subst, sym}
use Rattle.std.specs.Prelude.{[], IfOk}
use Rattle.action_queue.specs.Book.{Meaning, cache_at}
use Rattle.action_queue.specs.Writable.{HaveFewFlags}
use Rattle.mailbox_cache.specs.declared.delta.Delta.{Delta}
use Rattle.playback.specs.Choosing.{FitsWanted}
use Rattle.playback.specs.Needs.{need_of}
use Rattle.playback.specs.declared.need.Need.{Need}
use Rattle.playback.specs.declared.need.Need.TheVariants as needs
use Rattle.playback.specs.declared.player.Player.{Player}
use Rattle.qresync_core.specs.Fitting.{Fits}
use Rattle.qresync_core.specs.declared.fault.ResyncFault.{ResyncFault}

-- the name of the mailbox that is needed
abbrev box_of : Need → List ℕ
box_of (needs.Select name) = name
box_of (needs.Ask command) = []
box_of (needs.Commit event) = []
box_of (needs.Settle n outcome) = []
box_of (needs.Withdraw n tries) = []
box_of (needs.Send n command) = []
box_of needs.Finished = []

pub fits_wanted : (p : Player) (b : Meaning) (name : List ℕ) (told : Result Delta ResyncFault) → need_of p b ≡ needs.Select name →
    IfOk told (Fits (cache_at name b.boxes)) → IfOk told (λ delta. HaveFewFlags delta.rows) → FitsWanted p b told
fits_wanted p b name (Err fault) is fits few = tt
fits_wanted p b name (Ok delta) is fits few =
    λ other wants. (subst (λ (n : List ℕ). Fits (cache_at n b.boxes) delta) (ap box_of (sym is ∙ wants)) fits, few)
