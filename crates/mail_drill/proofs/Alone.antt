-- What others change shows in the history.
use Rattle.std.proofs.Common.{◌≡◌, true, List, [], ◌∷◌, ◌++◌, refl, sym, ◌∙◌, ap, subst}
use Rattle.std.proofs.lemmas.Bool.{and_parts, true≢false}
use Rattle.imap_model.specs.Changes.{deed_of, Batch}
use Rattle.imap_model.specs.Changes.Batch.{none, more}
use Rattle.imap_model.specs.declared.deed.Author.TheVariants.{Other}
use Rattle.imap_model.specs.declared.deed.Deed.{Deed}
use Rattle.imap_model.specs.declared.server.Mailbox.{Mailbox}
use Rattle.imap_model.specs.declared.server.Server.{Server}
use Rattle.mail_drill.specs.Alone.{is_own, are_own}

-- a history that ends with a change by others isn't this client's alone
others_show : (d : Deed) (h : List Deed) → d.author ≡ Other → are_own (h ++ d ∷ []) ≡ true → ⊥
others_show d [] other own = true≢false (sym (and_parts (is_own d.author) true own).0 ∙ ap is_own other)
others_show d (x ∷ xs) other own = others_show d xs other (and_parts (is_own x.author) (are_own (xs ++ d ∷ [])) own).1

-- changes by others that leave a history of this client's alone are none
pub batch_alone : (base : List Mailbox) (s t : Server) → Batch base s t → are_own t.history ≡ true → t ≡ s
batch_alone base s t none own = refl
batch_alone base s t (more {m = mid} name change c b) own =
    absurd (others_show (deed_of Other name change mid.boxes) s.history refl
    (subst (λ (h : List Deed). are_own h ≡ true) c.history (subst (λ (x : Server). are_own x.history ≡ true) (batch_alone base mid t b own) own)))
