-- What is heard in two pieces is what is heard in one.
use Rattle.std.proofs.Common.{◌≡◌, ℕ, List, [], ◌∷◌, ◌++◌, refl, ap, sym, ◌∙◌, subst}
use Rattle.std.proofs.lemmas.List.{append_assoc}
use Rattle.imap_model.specs.declared.response.Response.{Response}
use Rattle.server_mem.specs.Hearing.{Steps, stops, hears, Answers, carries, goes_on, refuses, says_bad, Hears, with_bytes}
use Rattle.server_mem.specs.States.{State}

-- bytes that come behind change no answer
answers_before : (more : List ℕ) (s : State) (parts : List (List ℕ)) (told : List Response) (t : State)
    → Answers s parts told t → Answers (with_bytes more s) parts told (with_bytes more t)
answers_before more s parts _ _ (carries tag command whole) = carries tag command whole
answers_before more s parts _ _ (goes_on tag command front apart) = goes_on tag command front apart
answers_before more s parts _ _ (refuses tag command name front named closed) = refuses tag command name front named closed
answers_before more s parts _ _ (says_bad bad none is) = says_bad bad none is

-- nor do they change the steps before them
steps_before : (more : List ℕ) (s : State) (told : List Response) (t : State) → Steps s told t → Steps (with_bytes more s) told (with_bytes more t)
steps_before more s _ _ stops = stops
steps_before more s _ u (hears {t = t} {told = told} {later = later} part rest cut is answer after) =
    hears part (rest ++ more) (ap (λ bytes. bytes ++ more) cut ∙ append_assoc part rest more) is
    (answers_before more (record s { begun = rest }) (s.parts ++ part ∷ []) told t answer) (steps_before more t later u after)

-- steps go on
pub steps_then : (s : State) (told : List Response) (t : State) (later : List Response) (u : State) → Steps s told t → Steps t later u →
    Steps s (told ++ later) u
steps_then s _ _ later u stops after = after
steps_then s _ t later u (hears {t = m} {told = first} {later = second} part rest cut is answer between) after =
    subst (λ all. Steps s all u) (sym (append_assoc first second later)) (hears part rest cut is answer (steps_then m second t later u between after))

pub two_pieces : (s : State) (one two : List ℕ) (told : List Response) (t : State) (later : List Response) (u : State)
    → Hears s one told t → Hears t two later u → Hears s (one ++ two) (told ++ later) u
two_pieces s one two told t later u first second = record {
  steps = steps_then (with_bytes (one ++ two) s) told (with_bytes two t) later u
      (subst (λ bytes. Steps (record s { begun = bytes }) told (with_bytes two t)) (append_assoc s.begun one two)
      (steps_before two (with_bytes one s) told t first.steps))
      second.steps;
  rest = second.rest;
}

-- no step takes the connection away
answers_keep : (s : State) (parts : List (List ℕ)) (told : List Response) (t : State) → Answers s parts told t → t.failed ≡ s.failed
answers_keep s parts _ _ (carries tag command whole) = refl
answers_keep s parts _ _ (goes_on tag command front apart) = refl
answers_keep s parts _ _ (refuses tag command name front named closed) = refl
answers_keep s parts _ _ (says_bad bad none is) = refl

pub steps_keep : (s : State) (told : List Response) (u : State) → Steps s told u → u.failed ≡ s.failed
steps_keep s _ _ stops = refl
steps_keep s _ u (hears {t = t} {told = told} {later = later} part rest cut is answer after) =
    steps_keep t later u after ∙ answers_keep (record s { begun = rest }) (s.parts ++ part ∷ []) told t answer
