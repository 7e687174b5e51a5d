-- The cache that a delta makes (RFC 7162, section 3.2).
use Rattle.std.specs.Prelude.{ℕ, List}
use Rattle.mailbox_cache.specs.Rows.{without_uids, put_rows}
use Rattle.mailbox_cache.specs.declared.row.Row.{Row}
use Rattle.mailbox_cache.specs.declared.cache.Cache.{Cache}
use Rattle.mailbox_cache.specs.declared.delta.Delta.{Delta}

-- a mailbox with these rows, and the delta's numbers
abbrev pub numbered : Delta → List (ℕ × Row) → Cache
numbered delta rows = record { validity = delta.validity; highest = delta.highest; uidnext = delta.uidnext; rows = rows }

-- a mailbox whose messages were all told has the rows that were told
abbrev pub first : Delta → Cache
first delta = numbered delta delta.rows

-- a cache without the vanished UIDs, and with the delta's rows in place of old ones
abbrev pub applied : Cache → Delta → Cache
applied cache delta = numbered delta (put_rows delta.rows (without_uids delta.vanished cache.rows))
