-- The words and the input of a drill's commands, and the line that it prints.
use Rattle.std.specs.Prelude.{ℕ, List, [], ◌∷◌, ◌++◌, codes, decimal}
use Rattle.mail_drill.specs.declared.orders.Order.{Order}
use Rattle.mail_drill.specs.declared.orders.Order.TheVariants as orders

-- a message of no more than its Message-ID (RFC 5322, section 3.6.4), which a letter and a number make
unfoldable pub message_text : ℕ → ℕ → List ℕ
message_text letter number = codes "Message-ID: <" ++ (letter ∷ []) ++ decimal number ++ codes "@d>\r\n\r\n"

-- the words of a command
abbrev pub words_of : Order → List (List ℕ)
words_of (orders.Flag uid) = codes "flag" ∷ codes "INBOX" ∷ decimal uid ∷ codes "+" ∷ codes "\\Flagged" ∷ []
words_of (orders.Move uid) = codes "move" ∷ codes "INBOX" ∷ decimal uid ∷ codes "Archive" ∷ []
words_of (orders.Append number) = codes "append" ∷ codes "Archive" ∷ []

-- what it reads
abbrev pub input_of : Order → List ℕ
input_of (orders.Flag uid) = []
input_of (orders.Move uid) = []
input_of (orders.Append number) = message_text 97 number

-- how many commands were accepted and refused, and what became of the actions
pub record Counts : Type 0 where
  pub accepted : ℕ
  pub refused : ℕ
  pub settled : ℕ
  pub twice : ℕ
  pub missing : ℕ

-- the line of these counts
abbrev pub line_of : Counts → List ℕ
line_of c =
    codes "actions " ++ decimal c.accepted ++ codes " refused " ++ decimal c.refused ++ codes " settled " ++ decimal c.settled ++ codes " twice "
    ++ decimal c.twice ++ codes " missing " ++ decimal c.missing ++ 10 ∷ []
