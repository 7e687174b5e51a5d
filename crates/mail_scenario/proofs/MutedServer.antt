-- A muted server stays muted, whatever it hears.
use Rattle.std.proofs.Common.{◌≡◌, ℕ, List, [], ◌∷◌, ◌++◌, refl, ap, ◌∙◌}
use Rattle.imap_model.specs.declared.response.Response.{Response}
use Rattle.server_mem.specs.Hearing.{Steps, stops, hears, Answers, carries, goes_on, refuses, says_bad, Hears, Breaks}
use Rattle.server_mem.specs.States.{State}

answers_keep : (s : State) (parts : List (List ℕ)) (told : List Response) (t : State) → Answers s parts told t → t.muted ≡ s.muted
answers_keep s parts _ _ (carries tag command whole) = refl
answers_keep s parts _ _ (goes_on tag command front apart) = refl
answers_keep s parts _ _ (refuses tag command name front named closed) = refl
answers_keep s parts _ _ (says_bad bad none is) = refl

steps_keep : (s : State) (told : List Response) (u : State) → Steps s told u → u.muted ≡ s.muted
steps_keep s _ _ stops = refl
steps_keep s _ u (hears {t = t} {told = told} {later = later} part rest cut is answer after) =
    steps_keep t later u after ∙ answers_keep (record s { begun = rest }) (s.parts ++ part ∷ []) told t answer

-- all that came was heard
pub heard : (s : State) (bytes : List ℕ) (told : List Response) (u : State) → Hears s bytes told u → u.muted ≡ s.muted
heard s bytes told u h = steps_keep (record s { begun = s.begun ++ bytes }) told u h.steps

-- memory was wanting on the way
pub broken_off : (s : State) (bytes : List ℕ) (u : State) → Breaks s bytes u → u.muted ≡ s.muted
broken_off s bytes u h =
    ap (λ (x : State). x.muted) h.broken ∙ steps_keep (record s { begun = s.begun ++ bytes }) h.told h.last h.steps
