use Rattle.std.proofs.Common.{◌≡◌, ◌<◌, ◌^◌, ◌∙◌, refl, ℕ, List, get_or, sym, ap, arith}
use Rattle.std.proofs.lemmas.Fmt.{decimal_is_IsNumeral}
use Rattle.std.specs.Prelude.{decimal, string_bytes}
use Rattle.std.specs.Str.Parse.{digits_value}
use Rattle.mail_top.proofs.Naming.{bytes_at}
use Rattle.mail_drill.proofs.task.task_of.Goals as goal

-- two numbers that are written alike are one
same_number : (m n : ℕ) → m < 2 ^ 32 → n < 2 ^ 32 → decimal m ≡ decimal n → m ≡ n
same_number m n small less same =
    sym (decimal_is_IsNumeral m (omega (arith, small))).1 ∙ ap (λ (t : List ℕ). digits_value 10 t) same ∙ (decimal_is_IsNumeral n (omega (arith, less))).1

pub returns-in_err-seed-clause-none : goal.returns-in_err-seed-clause-none
returns-in_err-seed-clause-none c none task writes =
    let at = bytes_at c.args.words.now 0 c.seed-item.result (omega arith) c.seed-item.is in
    c.in_err-seed.ensures.none refl task.seed writes.fits
    (c.deref.ensures ∙ at.1 ∙ ap (λ (l : List (List ℕ)). get_or l 0 (string_bytes c.seed-item.result)) writes.words_are)

pub returns-then-size-eq0-clause-none : goal.returns-then-size-eq0-clause-none
returns-then-size-eq0-clause-none c none task writes =
    let at = bytes_at c.args.words.now 1 c.size-item.result (omega arith) c.size-item.is in
    let written : decimal c.in_ok-size.size ≡ decimal task.size =
    sym c.in_ok-size.ensures.some ∙ c.deref-2.ensures ∙ at.1
    ∙ ap (λ (l : List (List ℕ)). get_or l 1 (string_bytes c.size-item.result)) writes.words_are in
    let same : c.in_ok-size.size ≡ task.size = same_number c.in_ok-size.size task.size (omega arith) (omega arith) written in
    absurd (omega arith)
