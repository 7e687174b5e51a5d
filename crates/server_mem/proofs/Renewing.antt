-- The messages of a mailbox that is renewed.
use Rattle.std.proofs.Common.{◌≡◌, ℕ, ◌≤◌, List, [], ◌∷◌, ◌++◌, drop, length, refl, sym, ◌∙◌, ap}
use Rattle.std.proofs.lemmas.List.{append-nil, drop_all}
use Rattle.imap_model.specs.Lookups.{renumbered}
use Rattle.imap_model.specs.declared.server.Message.{Message}

-- no message is left
no_message : (us : List ℕ) (highest : ℕ) → renumbered us highest [] ≡ []
no_message [] highest = refl
no_message (u ∷ us) highest = refl

-- each of the messages has its UID
pub all_done : (uids left : List ℕ) (highest i : ℕ) (ms new : List Message) → length ms ≤ i →
    renumbered uids highest ms ≡ new ++ renumbered left highest (drop i ms) → new ≡ renumbered uids highest ms
all_done uids left highest i ms new past is =
    sym (is ∙ ap (λ (l : List Message). new ++ renumbered left highest l) (drop_all i ms past)
    ∙ ap (λ (l : List Message). new ++ l) (no_message left highest) ∙ append-nil new)
