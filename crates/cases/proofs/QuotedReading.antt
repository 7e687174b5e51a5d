-- What stands between quotes is read byte by byte.
use Rattle.std.proofs.Common.{◌≡◌, ℕ, suc, ◌<◌, List, [], ◌∷◌, ◌++◌, Option, Some, None, is_some, All, flat_map, refl, sym, ap, ◌∙◌, append_assoc, append-nil, true≢false, arith}
use Rattle.cases.specs.Written.{quoted, quoted_byte}
use Rattle.cases.specs.Reading.{unquoted}
use Rattle.cases.proofs.Unquoting.{byte_back}

abbrev first_of : Option (ℕ × List ℕ) → ℕ
first_of None = 0
first_of (Some both) = both.0

abbrev second_of : Option (ℕ × List ℕ) → List ℕ
second_of None = []
second_of (Some both) = both.1

-- a text in quotes, and what stands behind it
pub quoted_tail : (text tail : List ℕ) → quoted text ++ tail ≡ 34 ∷ (flat_map quoted_byte text ++ 34 ∷ tail)
quoted_tail text tail = ap (λ l. 34 ∷ l) (append_assoc (flat_map quoted_byte text) (34 ∷ []) tail)

-- of a text some bytes were read behind what was there, and these are left
pub record Left (text tail had now rest : List ℕ) : Type 0 where
  pub todo : List ℕ
  pub small : All (λ byte. byte < 256) todo
  pub is : rest ≡ flat_map quoted_byte todo ++ 34 ∷ tail
  pub same : now ++ todo ≡ had ++ text

pub begins : (text tail had rest : List ℕ) → All (λ byte. byte < 256) text → rest ≡ flat_map quoted_byte text ++ 34 ∷ tail → Left text tail had had rest
begins text tail had rest small is = record { todo = text; small = small; is = is; same = refl }

next_is : (b : ℕ) (more tail rest : List ℕ) → b < 256 → rest ≡ flat_map quoted_byte (b ∷ more) ++ 34 ∷ tail →
    unquoted rest ≡ Some (b, flat_map quoted_byte more ++ 34 ∷ tail)
next_is b more tail rest within is =
    ap unquoted (is ∙ append_assoc (quoted_byte b) (flat_map quoted_byte more) (34 ∷ tail))
    ∙ byte_back b (flat_map quoted_byte more ++ 34 ∷ tail) within

step_by : (text tail had now rest todo : List ℕ) (byte : ℕ) (behind : List ℕ) → Some (byte, behind) ≡ unquoted rest →
    All (λ byte. byte < 256) todo → rest ≡ flat_map quoted_byte todo ++ 34 ∷ tail → now ++ todo ≡ had ++ text →
    Left text tail had (now ++ byte ∷ []) behind
step_by text tail had now rest [] byte behind told small is same =
    absurd (true≢false (ap is_some (told ∙ ap unquoted is)))
step_by text tail had now rest (b ∷ more) byte behind told small is same =
    let e = told ∙ next_is b more tail rest (small 0 0 (omega arith)) is in
    record {
      todo = more;
      small = λ k d within. small (suc k) d (omega (arith, within));
      is = ap second_of e;
      same = append_assoc now (byte ∷ []) more ∙ ap (λ n. now ++ n ∷ more) (ap first_of e) ∙ same;
    }

pub step : (text tail had now rest : List ℕ) (byte : ℕ) (behind : List ℕ) → Some (byte, behind) ≡ unquoted rest →
    Left text tail had now rest → Left text tail had (now ++ byte ∷ []) behind
step text tail had now rest byte behind told left = step_by text tail had now rest left.todo byte behind told left.small left.is left.same

end_by : (text tail had now rest todo : List ℕ) → unquoted rest ≡ None →
    All (λ byte. byte < 256) todo → rest ≡ flat_map quoted_byte todo ++ 34 ∷ tail → now ++ todo ≡ had ++ text →
    (rest ≡ 34 ∷ tail) × (now ≡ had ++ text)
end_by text tail had now rest [] none small is same = (is, sym (append-nil now) ∙ same)
end_by text tail had now rest (b ∷ more) none small is same =
    absurd (true≢false (sym (ap is_some (sym none ∙ next_is b more tail rest (small 0 0 (omega arith)) is))))

pub ends : (text tail had now rest : List ℕ) → unquoted rest ≡ None → Left text tail had now rest → (rest ≡ 34 ∷ tail) × (now ≡ had ++ text)
ends text tail had now rest none left = end_by text tail had now rest left.todo none left.small left.is left.same
