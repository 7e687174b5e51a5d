-- What a FETCH response tells before its first item (RFC 9051, section 7.5.2).
use Rattle.std.specs.Prelude.{None}
use Rattle.imap_model.specs.declared.fetched.Fetched.{Fetched}

-- nothing: every other `Fetched` of the definitions is this one with some items in place of its own
abbrev pub nothing_fetched : Fetched
nothing_fetched = record { uid = None; flags = None; modseq = None; ids = None; text = None }
