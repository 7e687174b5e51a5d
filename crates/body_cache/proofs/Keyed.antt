-- The key that a book has of a message is the message's.
use Rattle.std.proofs.Common.{◌≡◌, ℕ, Bool, true, false, cond, List, Option, Some, None, Result, Ok, Err, is_some, refl, subst}
use Rattle.action_queue.specs.Book.{Meaning, known_at}
use Rattle.action_queue.specs.declared.book.Known.{Known}
use Rattle.mailbox_cache.specs.Rows.{row_at}
use Rattle.mailbox_cache.specs.declared.cache.Cache.{Cache}
use Rattle.body_cache.specs.Keys.{key_in, key_known, key_of}
use Rattle.body_cache.specs.declared.key.Key.{Key}
use Rattle.body_cache.specs.declared.reading.ReadReason.{ReadReason}
use Rattle.body_cache.specs.declared.reading.ReadReason.TheVariants as reasons

-- it names this message
pub record IsOf (name : List ℕ) (uid : ℕ) (key : Key) : Type 0 where
  pub named : key.name ≡ name
  pub numbered : key.uid ≡ uid

module _ (name : List ℕ) (uid : ℕ) (key : Key) where
  by_row : (validity : ℕ) (there : Bool) →
      ◌≡◌ {A = Result Key ReadReason} (cond there (Ok (record { name = name; validity = validity; uid = uid })) (Err reasons.NoMessage)) (Ok key) →
      IsOf name uid key
  by_row validity true is =
      let made : Key = record { name = name; validity = validity; uid = uid } in
      let same : made ≡ key = cc is in
      subst (IsOf name uid) same (record { named = refl; numbered = refl })
  by_row validity false is = absurd cc

  by_cache : (cache : Option Cache) → key_of name uid cache ≡ Ok key → IsOf name uid key
  by_cache None is = absurd cc
  by_cache (Some cache) is = by_row cache.validity (is_some (row_at uid cache.rows)) is

  by_known : (known : Option Known) → key_known name uid known ≡ Ok key → IsOf name uid key
  by_known None is = absurd cc
  by_known (Some known) is = by_cache known.cache is

  pub keyed : (b : Meaning) → key_in b name uid ≡ Ok key → IsOf name uid key
  keyed b is = by_known (known_at name b.boxes) is
