-- The lines that the program prints. Each ends with an LF.
use Rattle.std.specs.Prelude.{ℕ, List, [], ◌∷◌, ◌++◌, codes, decimal}

-- a front, a number in decimal digits, and the LF
abbrev pub numbered : List ℕ → ℕ → List ℕ
numbered front number = front ++ decimal number ++ 10 ∷ []

-- the journal is set up
abbrev pub ready : List ℕ
ready = codes "ready" ++ 10 ∷ []

-- the action is on the disk, as the journal's action of this number
abbrev pub accepted : ℕ → List ℕ
accepted number = numbered (codes "accepted ") number

-- the words are no command
abbrev pub error_words : List ℕ
error_words = codes "error words" ++ 10 ∷ []

-- the disk failed
abbrev pub error_disk : List ℕ
error_disk = codes "error disk" ++ 10 ∷ []

-- memory is wanting
abbrev pub error_memory : List ℕ
error_memory = codes "error memory" ++ 10 ∷ []

-- there is no journal
abbrev pub journal_none : List ℕ
journal_none = codes "error journal none" ++ 10 ∷ []

-- a file isn't a journal's, or is one of another version
abbrev pub journal_header : List ℕ
journal_header = codes "error journal header" ++ 10 ∷ []

-- both files are a journal's, and neither is the newer one
abbrev pub journal_generations : List ℕ
journal_generations = codes "error journal generations" ++ 10 ∷ []

-- a journal is set up already
abbrev pub journal_exists : List ℕ
journal_exists = codes "error journal exists" ++ 10 ∷ []

-- the journal's record at this place isn't whole, or isn't one
abbrev pub journal_record : ℕ → List ℕ
journal_record at = numbered (codes "error journal record ") at

-- with the record the journal would end at this place, past its limit
abbrev pub limit_journal : ℕ → List ℕ
limit_journal end = numbered (codes "error limit journal ") end
