-- That a text that was fetched is the server's.
use Rattle.std.specs.Prelude.{◌≡◌, ℕ, List, Ok, Some}
use Rattle.world_traits.specs.Moments.{Clock}
use Rattle.action_queue.specs.Book.{Meaning}
use Rattle.store_core.specs.Mail.{mail}
use Rattle.store_core.specs.Steps.{Firm}
use Rattle.store_core.specs.Taking.{HasBooks}
use Rattle.mail_top.specs.Showing.{OnlyReads}
use Rattle.body_cache.specs.Ending.{Shelving}
use Rattle.body_cache.specs.Fetching.{FetchesAt}
use Rattle.body_cache.specs.HasText.{HadText}
use Rattle.body_cache.specs.Keys.{key_in}
use Rattle.body_cache.specs.Shelf.{IsPut}
use Rattle.body_cache.specs.declared.key.Key.{Key}

-- Behind the clock at which the journal was open, and each stop left a book in which the message has this key, the server answered so, and this text was put.
pub record PutsTold (name : List ℕ) (uid : ℕ) (old new : Clock) (v : Shelving) : Type 0 where
  pub opened : Clock
  pub opens : OnlyReads old opened
  pub book : Meaning
  pub leaves : HasBooks mail (Firm (Some book)) opened.now
  pub key : Key
  pub is : key_in book name uid ≡ Ok key
  pub text : List ℕ
  pub told : FetchesAt key text opened new
  pub put : v.tells → IsPut key text v.old v.new

-- The text that was put under the key of the message, in the book that each stop leaves, is one that the server had under this key at a moment of
-- this time.
pub record PutsHad (name : List ℕ) (uid : ℕ) (old new : Clock) (v : Shelving) : Type 0 where
  pub book : Meaning
  pub leaves : HasBooks mail (Firm (Some book)) new.now
  pub key : Key
  pub is : key_in book name uid ≡ Ok key
  pub text : List ℕ
  pub had : HadText key text old new
  pub put : v.tells → IsPut key text v.old v.new
