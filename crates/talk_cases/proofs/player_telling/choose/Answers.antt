use Rattle.std.proofs.Common.{Option, ◌∙◌, subst, sym}
use Rattle.std.specs.Prelude.{IfOk}
use Rattle.action_queue.specs.Book.{meaning, cache_at}
use Rattle.mailbox_cache.specs.declared.cache.Cache.{Cache}
use Rattle.qresync_core.specs.Fitting.{Fits}
use Rattle.talk_cases.proofs.Wanting.{fits_wanted}
use Rattle.talk_cases.proofs.player_telling.choose.Goals as goal

pub chosen-requires : goal.chosen-requires
chosen-requires c =
    fits_wanted c.args.player.now (meaning c.args.book.now) c.in-Select.name c.small-small.result (sym c.in_ok-need.ensures.value ∙ c.in-Select.is)
    (c.small-small.ensures.fits (cache_at c.in-Select.name c.args.book.now.boxes)
    (subst (λ (kept : Option Cache). IfOk c.delta_of-told.result (Fits kept)) c.cache_in.ensures c.delta_of-told.ensures.fits)) c.small-small.ensures.few
