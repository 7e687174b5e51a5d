-- The mark with which a mailbox is selected (RFC 7162, section 3.2.5).
use Rattle.mailbox_cache.specs.declared.cache.Cache.{Cache}
use Rattle.imap_model.specs.declared.mark.Mark.{Mark}

-- what a SELECT tells the server of the cache
abbrev pub mark_of : Cache → Mark
mark_of cache = record { validity = cache.validity; modseq = cache.highest }
