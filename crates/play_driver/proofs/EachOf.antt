-- What is so of each book of a state.
use Rattle.std.proofs.Common.{Option}
use Rattle.store_core.specs.Keeping.{Keeping}
use Rattle.store_core.specs.Steps.{Books, Firm, Begun, EachBook}

module _ (K : Keeping) (P Q : Option K.Book → Type 0) where
  pub each_as : ((b : Option K.Book) → P b → Q b) → (x : Books K) → EachBook K P x → EachBook K Q x
  each_as f (Firm b) h = f b h
  each_as f (Begun b c) h = (f b h.0, f c h.1)

  pub each_both : (T : Option K.Book → Type 0) → ((b : Option K.Book) → P b → Q b → T b) → (x : Books K) → EachBook K P x → EachBook K Q x → EachBook K T x
  each_both T f (Firm b) h k = f b h k
  each_both T f (Begun b c) h k = (f b h.0 k.0, f c h.1 k.1)
