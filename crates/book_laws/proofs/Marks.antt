-- The messages with one identifier.
use Rattle.std.proofs.Common.{◌≡◌, ℕ, true, List, [], ◌∷◌, ◌++◌, sym, ◌∙◌, ap}
use Rattle.std.proofs.lemmas.Bool.{cond-true}
use Rattle.mail_header.specs.Identifier.{HasMessageId}
use Rattle.imap_model.proofs.Finding.{cond_two, names_same}
use Rattle.imap_model.specs.declared.server.Message.{Message}
use Rattle.append_probe.specs.Marked.{is_only, has_id, marked}

-- a text has its Message-ID
pub has_its_id : (text id : List ℕ) → HasMessageId text id → has_id id text ≡ true
has_its_id text id h = ap (is_only id) h.one.1 ∙ names_same _ id (sym h.value)

pub marked_push : (id : List ℕ) (m : Message) (ms : List Message) → has_id id m.text ≡ true → marked id (ms ++ m ∷ []) ≡ marked id ms ++ m.uid ∷ []
marked_push id m [] t = cond-true (has_id id m.text) (m.uid ∷ []) [] t
marked_push id m (x ∷ xs) t =
    cond_two (has_id id x.text) (x.uid ∷ marked id (xs ++ m ∷ [])) (marked id (xs ++ m ∷ [])) (x.uid ∷ marked id xs) (marked id xs)
    (λ (l k : List ℕ). l ≡ k ++ m.uid ∷ [])
    (λ _. ap (λ (l : List ℕ). x.uid ∷ l) (marked_push id m xs t)) (λ _. marked_push id m xs t)
