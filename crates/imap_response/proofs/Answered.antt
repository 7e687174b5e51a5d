-- What an answer to a frame says of the whole reading, of which nothing is left out.
use Rattle.std.proofs.Common.{◌≡◌, ℕ, true, false, length, Option, Some, None, Result, Ok, Err, IfOk, refl, sym, ◌∙◌, ap, subst}
use Rattle.std.proofs.lemmas.Bool.{true≢false}
use Rattle.std.specs.Prelude.{Bool, is_ok}
use Rattle.flag_set.specs.declared.flag_fault.FlagFault.{FlagFault}
use Rattle.flag_set.specs.declared.flag_fault.FlagFault.TheVariants as flag_faults
use Rattle.mail_base.specs.declared.frame.Frame.{Frame}
use Rattle.imap_model.specs.declared.limit.Limit.{Limit}
use Rattle.imap_model.specs.declared.response.Response.{Response}
use Rattle.imap_model.specs.Responses.{Spells}
use Rattle.imap_response.specs.declared.fault.ResponseFault.{ResponseFault}
use Rattle.imap_response.specs.declared.fault.ResponseFault.TheVariants as faults
use Rattle.imap_response.specs.declared.line.Said.{Said}
use Rattle.imap_response.specs.Flags.{kept, whole}
use Rattle.imap_response.specs.Reading.{Answers, answer_to, reading, said_whole, too_large}
use Rattle.imap_response.specs.Within.{SpellsWithin}
use Rattle.imap_response.proofs.Keeping.{Alike, KeptSaid, reading_kept}
use Rattle.imap_response.proofs.spelling.Whole.{reading_spells, within_gives, nothing_spelled, one_response}

abbrev is_bad : Result Response ResponseFault → Bool
is_bad (Ok response) = false
is_bad (Err (faults.BadForm at)) = true
is_bad (Err (faults.TooLarge limit number)) = false
is_bad (Err faults.Memory) = false

abbrev is_large : Result Response ResponseFault → Bool
is_large (Ok response) = false
is_large (Err (faults.BadForm at)) = false
is_large (Err (faults.TooLarge limit number)) = true
is_large (Err faults.Memory) = false

abbrev or_this : Response → Result Response ResponseFault → Response
or_this said (Ok response) = response
or_this said (Err fault) = said

-- a fault of flags is no misplaced byte
large_not_bad : (fault : FlagFault) → is_bad (Err (too_large fault)) ≡ false
large_not_bad (flag_faults.TooLong length) = refl
large_not_bad (flag_faults.TooMany count) = refl
large_not_bad (flag_faults.BadFlag at) = refl
large_not_bad flag_faults.Memory = refl

abbrev excess_of : Option FlagFault → Result Said ℕ → Option FlagFault
excess_of other (Ok said) = said.excess
excess_of other (Err left) = other

-- a response is given where nothing is too large
ok_excess : (excess : Option FlagFault) (said response : Response) → said_whole said excess ≡ Ok response → (excess ≡ None) × (said ≡ response)
ok_excess None said response is = (refl, ap (or_this said) is)
ok_excess (Some fault) said response is = absurd (true≢false (sym (ap is_ok is)))

bad_excess : (excess : Option FlagFault) (said : Response) (at : ℕ) → said_whole said excess ≡ Err (faults.BadForm at) → ⊥
bad_excess None said at is = true≢false (ap is_ok is)
bad_excess (Some fault) said at is = true≢false (sym (ap is_bad is) ∙ large_not_bad fault)

module _ (size : ℕ) where
  -- a response is given where the whole reading gives it without an excess
  ok_by : (w k : Result Said ℕ) (response : Response) → Alike KeptSaid w k → answer_to size k ≡ Ok response →
      w ≡ Ok (record { response = response; excess = None })
  ok_by (Ok w) (Ok k) response alike is =
      let given = ok_excess k.excess k.response response is in
      let none : w.excess ≡ None = sym alike.is.0 ∙ given.0 in
      let by_response : Response → Said = λ r. record { response = r; excess = k.excess } in
      let by_excess : Option FlagFault → Said = λ e. record { response = response; excess = e } in
      ap Ok (sym (alike.is.1 none) ∙ ap by_response given.1 ∙ ap by_excess given.0)
  ok_by (Ok w) (Err right) response alike is = absurd alike.is
  ok_by (Err left) (Ok k) response alike is = absurd alike.is
  ok_by (Err left) (Err right) response alike is = absurd (true≢false (sym (ap is_ok is)))

  -- a place is told where the whole reading fails
  bad_by : (w k : Result Said ℕ) (at : ℕ) → Alike KeptSaid w k → answer_to size k ≡ Err (faults.BadForm at) → (left : ℕ) × (w ≡ Err left)
  bad_by (Ok w) (Ok k) at alike is = absurd (bad_excess k.excess k.response at is)
  bad_by (Ok w) (Err right) at alike is = absurd alike.is
  bad_by (Err left) k at alike is = (left, refl)

  -- a limit is told where the whole reading gives a response
  large_by : (w k : Result Said ℕ) (limit : Limit) (number : ℕ) → Alike KeptSaid w k →
      answer_to size k ≡ Err (faults.TooLarge limit number) → (said : Said) × (w ≡ Ok said)
  large_by (Ok w) k limit number alike is = (w, refl)
  large_by (Err left) (Ok k) limit number alike is = absurd alike.is
  large_by (Err left) (Err right) limit number alike is = absurd (true≢false (sym (ap is_large is)))

  -- no limit is told where the whole reading gives no excess
  none_large : (w k : Result Said ℕ) (response : Response) (limit : Limit) (number : ℕ) → Alike KeptSaid w k →
      answer_to size k ≡ Err (faults.TooLarge limit number) → w ≡ Ok (record { response = response; excess = None }) → ⊥
  none_large (Ok w) (Ok k) response limit number alike is whole_is =
      let none : k.excess ≡ None = alike.is.0 ∙ ap (excess_of None) whole_is in
      true≢false (ap is_ok (ap (said_whole k.response) (sym none) ∙ is))
  none_large (Ok w) (Err right) response limit number alike is whole_is = absurd alike.is
  none_large (Err left) k response limit number alike is whole_is = true≢false (sym (ap is_ok whole_is))

module _ (frame : Frame) (size : ℕ) (result : Result Response ResponseFault) (answer : Answers (answer_to size (reading kept frame)) result) where
  -- what is given the whole reading gives without an excess
  given_whole : (response : Response) → result ≡ Ok response → reading whole frame ≡ Ok (record { response = response; excess = None })
  given_whole response is = ok_by size (reading whole frame) (reading kept frame) response (reading_kept frame)
      (subst (Answers (answer_to size (reading kept frame))) is answer)

  -- what is given is spelled
  spelled_ok : (response : Response) → result ≡ Ok response → Spells frame response
  spelled_ok response is = reading_spells frame (record { response = response; excess = None }) (given_whole response is)

  -- it is within the limits
  within_ok : (response : Response) → result ≡ Ok response → SpellsWithin frame response
  within_ok response is = (within_gives frame response).1 (given_whole response is)

  -- where a place is told nothing is spelled
  pub none_spelled : (at : ℕ) → result ≡ Err (faults.BadForm at) → (response : Response) → Spells frame response → ⊥
  none_spelled at is response =
      let failed = bad_by size (reading whole frame) (reading kept frame) at (reading_kept frame)
      (subst (Answers (answer_to size (reading kept frame))) is answer) in
      nothing_spelled frame failed.0 response failed.1

  -- where a limit is told something is spelled
  pub some_spelled : (limit : Limit) (number : ℕ) → result ≡ Err (faults.TooLarge limit number) → (response : Response) × Spells frame response
  some_spelled limit number is =
      let said = large_by size (reading whole frame) (reading kept frame) limit number (reading_kept frame)
      (subst (Answers (answer_to size (reading kept frame))) is answer) in
      (said.0.response, reading_spells frame said.0 said.1)

  -- where a limit is told nothing within the limits is spelled
  pub none_within : (limit : Limit) (number : ℕ) → result ≡ Err (faults.TooLarge limit number) → (response : Response) → SpellsWithin frame response → ⊥
  none_within limit number is response within =
      none_large size (reading whole frame) (reading kept frame) response limit number (reading_kept frame)
      (subst (Answers (answer_to size (reading kept frame))) is answer) ((within_gives frame response).0 within)

pub given_within : (frame : Frame) (size : ℕ) (result : Result Response ResponseFault) →
    Answers (answer_to size (reading kept frame)) result → IfOk result (SpellsWithin frame)
given_within frame size (Ok response) answer = within_ok frame size (Ok response) answer response refl
given_within frame size (Err fault) answer = tt

pub given_spelled : (frame : Frame) (size : ℕ) (result : Result Response ResponseFault) →
    Answers (answer_to size (reading kept frame)) result → IfOk result (Spells frame)
given_spelled frame size (Ok response) answer = spelled_ok frame size (Ok response) answer response refl
given_spelled frame size (Err fault) answer = tt

pub given_alone : (frame : Frame) (size : ℕ) (result : Result Response ResponseFault) → Answers (answer_to size (reading kept frame)) result
    → (response : Response) → Spells frame response → IfOk result (λ read. read ≡ response)
given_alone frame size (Ok given) answer response spells = one_response frame given response (spelled_ok frame size (Ok given) answer given refl) spells
given_alone frame size (Err fault) answer response spells = tt
