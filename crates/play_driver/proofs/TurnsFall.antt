-- How many turns are left, and how many replies and records.
use Rattle.action_queue.specs.Book.{Meaning, cache_at}
use Rattle.mailbox_cache.specs.declared.cache.Cache.{Cache}
use Rattle.play_driver.specs.Running.{resets_left, turns_left, turns_left_at}
use Rattle.play_driver.specs.Turning.{Standing}
use Rattle.play_driver.specs.declared.session.Held.{Held}
use Rattle.playback.specs.Left.{left}
use Rattle.playback.specs.declared.player.Player.{Player}
use Rattle.std.proofs.Common.{None, Option, Some, arith, subst, sym, ◌*◌, ◌+◌, ◌<◌, ◌≡◌, ◌≤◌}

reset_one : (o : Option Cache) → resets_left o ≤ 1
reset_one None = omega arith
reset_one (Some cache) = omega arith

pub turns_most : (o : Option Held) (p : Player) (b : Meaning) → turns_left o p b ≤ 3 * left p b + 2
turns_most None p b = omega arith
turns_most (Some h) p b = omega (arith, reset_one (cache_at h.chosen.name b.boxes))

pub turns_least : (o : Option Held) (p : Player) (b : Meaning) → 3 * left p b ≤ turns_left o p b
turns_least None p b = omega arith
turns_least (Some h) p b = omega arith

-- no more is left behind a turn; and less, where no reply is held then
pub left_no_more : (q r : Standing) → turns_left_at r < turns_left_at q → left r.player r.store.book ≤ left q.player q.store.book
left_no_more q r falls =
    omega (arith, falls, turns_most q.held q.player q.store.book, turns_least r.held r.player r.store.book)

pub left_less : (q r : Standing) → r.held ≡ None → turns_left_at r < turns_left_at q → left r.player r.store.book < left q.player q.store.book
left_less q r rests falls =
    let now : turns_left None r.player r.store.book < turns_left_at q =
    subst (λ (o : Option Held). turns_left o r.player r.store.book < turns_left_at q) rests falls in
    omega (arith, now, turns_most q.held q.player q.store.book)

-- a turn in a session in which no reply is held, before and behind it
pub falls_rested : (o : Option Held) → o ≡ None → (p q : Player) (b c : Meaning) → left q c < left p b → turns_left o q c < turns_left o p b
falls_rested o is p q b c less =
    subst (λ (x : Option Held). turns_left x q c < turns_left x p b) (sym is) (omega (arith, less))

pub falls_free : (o : Option Held) → o ≡ None → (p q : Player) (b c : Meaning) → left q c < left p b → turns_left None q c < turns_left o p b
falls_free o is p q b c less = subst (λ (x : Option Held). turns_left None q c < turns_left x p b) (sym is) (omega (arith, less))

-- a reply is held behind it; or it was held before
pub falls_held : (o : Option Held) → o ≡ None → (h : Held) (p : Player) (b : Meaning) → turns_left (Some h) p b < turns_left o p b
falls_held o is h p b =
    subst (λ (x : Option Held). turns_left (Some h) p b < turns_left x p b) (sym is) (omega (arith, reset_one (cache_at h.chosen.name b.boxes)))

pub fetch_falls : (h : Held) (p q : Player) (b : Meaning) → left q b < left p b → turns_left None q b < turns_left (Some h) p b
fetch_falls h p q b less = omega (arith, less)
