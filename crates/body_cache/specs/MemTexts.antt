-- What contracts see of a shelf in memory.
use Rattle.std.specs.Prelude.{ℕ, List}
use Rattle.body_cache.specs.declared.key.KeptText.{KeptText}

-- its texts, the one that was put last in front, and how often memory was wanting for one that was to be put, up to the last value of a count
pub record MemTexts : Type 0 where
  pub texts : List KeptText
  pub refused : ℕ

-- a shelf of which given calls fail: what it is without that, and how often it failed
pub record FaultyTexts : Type 0 where
  pub shelf : MemTexts
  pub faults : ℕ
