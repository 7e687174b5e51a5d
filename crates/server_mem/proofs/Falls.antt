-- Steps of hearing, one behind another.
use Rattle.std.proofs.Common.{◌≡◌, ℕ, List, [], ◌∷◌, ◌++◌, refl, ap, sym, ◌∙◌, subst, append_assoc}
use Rattle.imap_model.specs.Lines.{AreLines}
use Rattle.imap_model.specs.declared.response.Response.{Response}
use Rattle.server_mem.specs.Hearing.{stops, Breaks, with_bytes}
use Rattle.server_mem.specs.States.{State}
use Rattle.server_mem.specs.Falling.{broken, Tells, Falls}
use Rattle.server_mem.specs.Texts.{steps_text}
use Rattle.server_mem.proofs.Pieces.{steps_then}
use Rattle.server_mem.proofs.StepTexts.{steps_joined}

-- one line behind others
pub lines_then : (told later : List Response) (front back : List ℕ) → AreLines told front → AreLines later back → AreLines (told ++ later) (front ++ back)
lines_then [] later front back lines after = subst (λ (bytes : List ℕ). AreLines later (bytes ++ back)) (sym lines) after
lines_then (response ∷ told) later front back lines after = (
  lines.0,
  lines.1 ++ back,
  lines.2,
  ap (λ (bytes : List ℕ). bytes ++ back) lines.3 ∙ append_assoc lines.0 (13 ∷ 10 ∷ lines.1) back,
  lines_then told later lines.1 back lines.4 after,
)

-- nothing was heard yet
pub nothing_told : (s : State) → Tells s [] s
nothing_told s = record { told = []; steps = stops; lines = refl; text = refl }

-- another step
pub more_told : (s : State) (front : List ℕ) (t : State) (back : List ℕ) (u : State) → Tells s front t → Tells t back u → Tells s (front ++ back) u
more_told s front t back u one two =
    let joined = steps_joined s one.told t two.told u one.steps two.steps in
    record {
      told = one.told ++ two.told;
      steps = joined.0;
      lines = lines_then one.told two.told front back one.lines two.lines;
      text = ap (λ (bytes : List ℕ). bytes ++ back) one.text
          ∙ ap (λ (bytes : List ℕ). steps_text s one.told t one.steps ++ bytes) two.text ∙ sym joined.1;
    }

-- it falls in the midst of a part
pub fall_here : (s u : State) → broken u ≡ broken s → Falls s u
fall_here s u same = record { told = []; last = s; steps = stops; same = same }

pub fall_later : (s : State) (bytes : List ℕ) (t u : State) → Tells s bytes t → Falls t u → Falls s u
fall_later s bytes t u one fall = record {
  told = one.told ++ fall.told;
  last = fall.last;
  steps = steps_then s one.told t fall.told fall.last one.steps fall.steps;
  same = fall.same;
}

-- all of it
pub breaks : (s : State) (bytes : List ℕ) (t u : State) → Falls (with_bytes bytes s) t → u ≡ broken t → Breaks s bytes u
breaks s bytes t u fall is = record { told = fall.told; last = fall.last; steps = fall.steps; broken = is ∙ fall.same }
