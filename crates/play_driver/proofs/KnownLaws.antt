-- The laws of what a run knows, and of what it makes of a cache.
use Rattle.play_driver.proofs.KnownAsks.{known_asked}
use Rattle.play_driver.proofs.KnownFirst.{known_first}
use Rattle.play_driver.proofs.KnownGathers.{known_gathered, known_holds}
use Rattle.play_driver.proofs.KnownHeld.{known_fetched, known_reset}
use Rattle.play_driver.proofs.KnownRecords.{known_recorded}
use Rattle.play_driver.proofs.Learned.{learns_level}
use Rattle.play_driver.specs.KnownAt.{KnownGoesOn}
use Rattle.imap_session.specs.Permanent.{permitted}
use Rattle.std.proofs.Common.{None, refl}
use Rattle.play_driver.specs.Levelling.{ResyncsLevel}

-- what the player knows goes on
pub known_law : KnownGoesOn
known_law = record {
  begins = λ alloc b made now stands linked fair waiting selected permits. known_first alloc b made now stands linked fair waiting selected permits;
  asks = λ p b w r permits made old new connection feed stands known at needed no_select may linked fair answered accepted.
      known_asked p b w r permits made old new connection feed stands known at needed no_select may fair answered accepted;
  gathers = λ p b name delta count after permits told made old new stands known needed linked fair resyncs.
      known_gathered p b name delta permits told made old new stands known needed fair count after resyncs;
  records = λ p b event version permits made old new stands known records may takes.
      known_recorded p b event version permits made old new stands known records may takes;
  holds = λ p b h r count permits made old new stands known needed fair answered is.
      known_holds p b h.chosen.name permits (permitted None r) made old stands known needed count r new answered fair h refl is;
  resets = λ p b h event version permits made old new stands known fits reset may takes.
      known_reset p b h permits made old stands known fits event reset new takes;
  fetches = λ p b h delta count after permits made old new stands known fits away fair fetched.
      known_fetched p b h permits made old stands known fits away delta new fair count after fetched;
}

-- a resynchronisation makes a cache that is the server's
pub level_law : ResyncsLevel
level_law = learns_level
