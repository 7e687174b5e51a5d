-- What stays of a player beside its book as a cache is taken away, behind the reply to a SELECT that is held.
use Rattle.action_queue.specs.Book.{Meaning, after, cache_at, put_cache}
use Rattle.action_queue.specs.declared.event.Event.{Event}
use Rattle.play_driver.proofs.ResetTurn.{of_reset, reset_away}
use Rattle.play_driver.specs.Holds.{IsHeldFor}
use Rattle.play_driver.specs.Running.{resets_left, turns_left}
use Rattle.play_driver.specs.declared.session.Held.{Held}
use Rattle.playback.proofs.ResetBook.{reset_entered, reset_left, reset_needed, reset_stays_beside}
use Rattle.playback.proofs.Resetting.{IsResetOf}
use Rattle.playback.specs.Choosing.{IsEntered, reset_of}
use Rattle.playback.specs.Left.{left}
use Rattle.playback.specs.Needs.{IsBeside, need_of}
use Rattle.playback.specs.declared.player.Player.{Player}
use Rattle.std.proofs.Common.{None, Some, ap, arith, subst, sym, ◌<◌, ◌∙◌, ◌≡◌}
use Rattle.std.proofs.lemmas.Option.{none-some}
use Rattle.playback.specs.declared.need.Need.TheVariants as needs

module _ (h : Held) (p : Player) (b : Meaning) (event : Event) (needed : need_of p b ≡ needs.Select h.chosen.name)
    (due : reset_of h.chosen.name (cache_at h.chosen.name b.boxes) h.told ≡ Some event) (c : Meaning) (same : c ≡ after b event) where
  abbrev Of : IsResetOf h.chosen.name (cache_at h.chosen.name b.boxes) h.told event
  Of = of_reset h b event due

  abbrev later : Meaning
  later = record b { boxes = put_cache h.chosen.name None b.boxes }

  is : c ≡ later
  is = same ∙ ap (after b) Of.is

  away : cache_at h.chosen.name c.boxes ≡ None
  away = ap (λ (x : Meaning). cache_at h.chosen.name x.boxes) same ∙ reset_away h b event due

  pub stays_beside : IsBeside p b → IsBeside p c
  stays_beside beside = subst (IsBeside p) (sym is) (reset_stays_beside p b h.chosen.name h.chosen.name needed beside)

  pub stays_entered : (entry : Meaning) → IsEntered entry p b → IsEntered entry p c
  stays_entered entry entered =
      subst (λ (x : Meaning). IsEntered entry p x) (sym is) (reset_entered p b h.chosen.name h.chosen.name needed entry entered)

  pub left_behind : turns_left (Some h) p c < turns_left (Some h) p b
  left_behind =
      let no_more : left p c ≡ left p b = ap (λ (x : Meaning). left p x) is ∙ reset_left p b h.chosen.name h.chosen.name needed in
      let none : resets_left (cache_at h.chosen.name c.boxes) ≡ 0 = ap resets_left away in
      let one : resets_left (cache_at h.chosen.name b.boxes) ≡ 1 = ap resets_left Of.there in
      omega (arith, no_more, none, one)

  pub fits_behind : IsHeldFor h p b → IsHeldFor h p c
  fits_behind fits = record {
    reply = fits.reply;
    is = fits.is;
    needed = ap (λ (x : Meaning). need_of p x) is ∙ reset_needed p b h.chosen.name h.chosen.name needed;
    tells = fits.tells;
    risen = λ cache there. absurd (none-some cache (sym away ∙ there));
  }
