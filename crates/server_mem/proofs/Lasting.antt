-- The last message of a list.
use Rattle.std.proofs.Common.{◌≡◌, ℕ, zero, suc, ◌-◌, eqb, List, [], ◌∷◌, Some, length, refl, ap, arith}
use Rattle.std.specs.Prelude.{slice_get}
use Rattle.std.proofs.lemmas.Option.{same_Some}
use Rattle.imap_model.specs.Searching.{is_last}
use Rattle.imap_model.specs.declared.server.Message.{Message}

last_at : (uid : ℕ) (ms : List Message) (m : Message) (n : ℕ) → n ≡ length ms - 1 → Some m ≡ slice_get ms n → eqb m.uid uid ≡ is_last uid ms
last_at uid [] m n l = λ e. absurd (cc)
last_at uid (x ∷ []) m zero l = λ e. ap (λ (y : Message). eqb y.uid uid) (same_Some m x e)
last_at uid (x ∷ []) m (suc n) l = λ e. absurd (cc)
last_at uid (x ∷ y ∷ ms) m zero l = λ e. absurd (omega arith)
last_at uid (x ∷ y ∷ ms) m (suc n) l = λ e. last_at uid (y ∷ ms) m n (omega arith) e

pub is_the_last : (uid : ℕ) (ms : List Message) (m : Message) → Some m ≡ slice_get ms (length ms - 1) → eqb m.uid uid ≡ is_last uid ms
is_the_last uid ms m e = last_at uid ms m (length ms - 1) refl e
