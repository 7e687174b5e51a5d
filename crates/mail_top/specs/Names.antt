-- The names of mailboxes that the words of a command write (RFC 9051, section 5.1).
use Rattle.std.specs.Prelude.{ℕ, List, map, cond, codes, bytes_eq}
use Rattle.std.specs.Char.{to_ascii_lowercase}
use Rattle.std.specs.List.{AllByRecursion}
use Rattle.mail_base.specs.BoxName.{IsBoxText}
use Rattle.action_queue.specs.Events.{AreNames, AreDistinct}

-- the name that is kept for a text: INBOX in capitals for INBOX in any case, and else the text as it is
abbrev pub name_of : List ℕ → List ℕ
name_of text = cond (bytes_eq (map to_ascii_lowercase text) (codes "inbox")) (codes "INBOX") text

-- each text writes a name, no two of them the same
pub record AreApart (texts : List (List ℕ)) : Type 0 where
  pub each : AllByRecursion IsBoxText texts
  pub distinct : AreDistinct (map name_of texts)

-- the texts write names with which a journal may begin
pub record WriteNames (texts : List (List ℕ)) : Type 0 where
  pub each : AllByRecursion IsBoxText texts
  pub names : AreNames (map name_of texts)
