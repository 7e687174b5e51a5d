-- Bytes behind bytes.
use Rattle.std.proofs.Common.{◌≡◌, ℕ, List, [], ◌++◌, append_assoc, ap, ◌∙◌}
use Rattle.std.proofs.lemmas.List.{append-nil}
use Rattle.response_lines.specs.LineTexts.{◌⌢◌}

pub text_assoc : (a b d : List ℕ) → (a ⌢ b) ⌢ d ≡ a ⌢ (b ⌢ d)
unfolding ◌⌢◌
text_assoc a b d = append_assoc a b d

pub text_nil : (a : List ℕ) → a ⌢ [] ≡ a
unfolding ◌⌢◌
text_nil a = append-nil a

-- a word and a text behind it
pub both_put : (a b d word text : List ℕ) → a ≡ [] → b ≡ a ⌢ word → d ≡ b ⌢ text → d ≡ word ⌢ text
unfolding ◌⌢◌
both_put a b d word text none one two = two ∙ ap (λ (l : List ℕ). l ++ text) (one ∙ ap (λ (l : List ℕ). l ++ word) none)
