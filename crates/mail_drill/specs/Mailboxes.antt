-- The two mailboxes of a drill, at its server and in its book (RFC 9051, section 2.3.1.1).
use Rattle.std.specs.Prelude.{◌≡◌, ℕ, List, [], ◌∷◌, Some, None, codes}
use Rattle.imap_model.specs.declared.server.Server.{Server}
use Rattle.action_queue.specs.Book.{Meaning}
use Rattle.store_core.specs.Mail.{mail}
use Rattle.play_driver.specs.Granting.{IsBox}
use Rattle.play_driver.specs.Machine.{Relation}
use Rattle.play_driver.specs.Progress.{box_names}

-- their names
abbrev pub both_names : List (List ℕ)
both_names = codes "INBOX" ∷ codes "Archive" ∷ []

-- the server has both
pub record HasBoth (s : Server) : Type 0 where
  pub inbox : IsBox (codes "INBOX") s
  pub archive : IsBox (codes "Archive") s

-- The book has these mailboxes and no other, and the server has them.
pub record FitsBoth (b : Meaning) (s : Server) : Type 0 where
  pub names : box_names b ≡ both_names
  pub both : HasBoth s

-- there is a book, and it fits
abbrev pub BothFit : Relation mail
BothFit None s waiting = ⊥
BothFit (Some b) s waiting = FitsBoth b s
