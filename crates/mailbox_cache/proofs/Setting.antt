-- What is set aside from a place on, and a row that is put in front of it.
use Rattle.std.proofs.Common.{◌≡◌, ℕ, ◌≤◌, false, List, [], ◌∷◌, ◌++◌, length, take, drop, sym, ◌∙◌, ap, subst, append_assoc}
use Rattle.std.specs.Prelude.{reverse}
use Rattle.std.proofs.lemmas.List.{reverse-append, take-append-le, drop-append-le}
use Rattle.std.proofs.Math.Seq.{take-append_seam, drop-append_seam}
use Rattle.mailbox_cache.specs.Rows.{put_row, put_rows, AllBelow, StartsFrom, starts_with_uid}
use Rattle.mailbox_cache.specs.declared.row.Row.{Row}
use Rattle.mailbox_cache.proofs.Splitting.{put_between, puts_front}

-- what stays is the front of what was there
pub stays : (low high rows back : List (ℕ × Row)) (place : ℕ) → low ++ high ≡ rows ++ back → length low ≡ place → place ≤ length rows → low ≡ take place rows
stays low high rows back place whole len within =
    sym (subst (λ (n : ℕ). take n (low ++ high) ≡ low) len (take-append_seam low high))
    ∙ ap (take place) whole
    ∙ take-append-le place rows back within

-- and what is aside is the rest
rest : (low high rows back : List (ℕ × Row)) (place : ℕ) → low ++ high ≡ rows ++ back → length low ≡ place → place ≤ length rows →
    high ≡ drop place rows ++ back
rest low high rows back place whole len within =
    sym (subst (λ (n : ℕ). drop n (low ++ high) ≡ high) len (drop-append_seam low high))
    ∙ ap (drop place) whole
    ∙ drop-append-le place rows back within

-- a row that isn't there is put in front of what was set aside, and rows below it may still be put in
pub put_aside : (before low rows aside was : List (ℕ × Row)) (e : ℕ × Row) (place : ℕ) → low ++ reverse aside ≡ rows ++ reverse was →
    length low ≡ place → place ≤ length rows
    → AllBelow e.0 (take place rows) → StartsFrom e.0 (drop place rows) → starts_with_uid e.0 (drop place rows) ≡ false → AllBelow e.0 before →
    put_rows before low ++ reverse (aside ++ e ∷ []) ≡ put_rows before (put_row e rows) ++ reverse was
put_aside before low rows aside was e place whole len within below behind other under =
    ap (λ (l : List (ℕ × Row)). put_rows before l ++ reverse (aside ++ e ∷ [])) (stays low (reverse aside) rows (reverse was) place whole len within)
    ∙ ap (λ (l : List (ℕ × Row)). put_rows before (take place rows) ++ l) (reverse-append aside (e ∷ []))
    ∙ ap (λ (l : List (ℕ × Row)). put_rows before (take place rows) ++ e ∷ l) (rest low (reverse aside) rows (reverse was) place whole len within)
    ∙ sym (append_assoc (put_rows before (take place rows)) (e ∷ drop place rows) (reverse was))
    ∙ ap (λ (l : List (ℕ × Row)). l ++ reverse was) (sym (puts_front before e (take place rows) (drop place rows) under))
    ∙ ap (λ (l : List (ℕ × Row)). put_rows before l ++ reverse was) (sym (put_between e rows place below behind other))
