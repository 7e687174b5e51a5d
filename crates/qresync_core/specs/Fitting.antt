-- Whether a delta may be learned of a mailbox (RFC 7162, section 3.2.5).
use Rattle.std.specs.Prelude.{◌≡◌, ◌≤◌, true, false, Option, Some, None}
use Rattle.mailbox_cache.specs.declared.cache.Cache.{Cache}
use Rattle.mailbox_cache.specs.declared.delta.Delta.{Delta}

-- The delta is for a mailbox of which this cache was kept, or nothing: it tells the whole mailbox, or it goes on from the cache.
abbrev pub Fits : Option Cache → Delta → Type 0
Fits None delta = delta.whole ≡ true
Fits (Some cache) delta = (delta.whole ≡ false) × (delta.validity ≡ cache.validity) × (cache.highest ≤ delta.highest)
