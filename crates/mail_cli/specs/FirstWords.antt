-- Which top call a first word picks.
use Rattle.std.specs.Prelude.{◌≡◌, ◌⊎◌, ℕ, List, [], ◌∷◌, codes}
use Rattle.mail_cli.specs.declared.top_calls.TopCall.{TopCall}
use Rattle.mail_cli.specs.declared.top_calls.TopCall.TheVariants.{Run, Look, Read}

-- the words that pick a top call
abbrev pub IsWordOf : TopCall → List ℕ → Type 0
IsWordOf Run word =
    (word ≡ codes "init") ⊎ (word ≡ codes "flag") ⊎ (word ≡ codes "move") ⊎ (word ≡ codes "append") ⊎ (word ≡ codes "list") ⊎ (word ≡ codes "queue")
    ⊎ (word ≡ codes "report") ⊎ (word ≡ codes "play")
IsWordOf Look word = (word ≡ codes "history") ⊎ (word ≡ codes "letter")
IsWordOf Read word = (word ≡ codes "fetch") ⊎ (word ≡ codes "show") ⊎ (word ≡ codes "dates")

-- the first of the words picks this top call
abbrev pub Picks : List (List ℕ) → TopCall → Type 0
Picks [] call = ⊥
Picks (word ∷ words) call = IsWordOf call word

-- the first of the words is one of those that only read the journal
abbrev pub OnlyReads : List (List ℕ) → Type 0
OnlyReads [] = ⊥
OnlyReads (word ∷ words) =
    (word ≡ codes "list") ⊎ (word ≡ codes "queue") ⊎ (word ≡ codes "report") ⊎ (word ≡ codes "history") ⊎ (word ≡ codes "letter")
    ⊎ (word ≡ codes "show") ⊎ (word ≡ codes "dates")
