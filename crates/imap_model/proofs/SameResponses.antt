-- No two proofs that two responses, or two lists of them, are the same differ: an equality of lists of responses is a
-- proposition. Each type here is seen as a sum of products of numbers, lists and options, of which that is known.
use Rattle.std.proofs.Common.{◌≡◌, ◌⊎◌, inl, inr, ℕ, Bool, List, [], ◌∷◌, ◌++◌, Option, refl, ap}
use Rattle.std.proofs.Common.{drop, length, sym, ◌∙◌}
use Rattle.std.proofs.Math.Logic.{∥∥₁_elim}
use Rattle.std.specs.Coded.{Coded, Coded-set, coded_ℕ, coded_bool, coded_list, coded×, coded⊎, coded_option, code_by}
use base.Stored.{coded_unit}
use Rattle.mail_base.specs.declared.tag.Tag.{Tag}
use Rattle.mail_base.specs.declared.tag.Tag.TheVariants.{Play, Again, Count, Strange}
use Rattle.uid_sets.specs.declared.uid.UidRange.{UidRange}
use Rattle.imap_model.specs.declared.code.Code.{Code}
use Rattle.imap_model.specs.declared.code.Code.TheVariants as codings
use Rattle.imap_model.specs.declared.ending.Ending.{Ending}
use Rattle.imap_model.specs.declared.ending.Ending.TheVariants as endings
use Rattle.imap_model.specs.declared.fetched.Fetched.{Fetched}
use Rattle.imap_model.specs.declared.response.Response.{Response}
use Rattle.imap_model.specs.declared.response.Response.TheVariants as responses

-- capabilities, flags and names
abbrev Words : Type 0
Words = List (List ℕ)

coded_words : Coded Words
coded_words = coded_list (coded_list coded_ℕ)

coded_range : Coded UidRange
coded_range = code_by (ℕ × ℕ) (coded× coded_ℕ coded_ℕ) (λ r. (r.low, r.high)) (λ p. record { low = p.0; high = p.1 }) (λ _. refl)

-- sets of UIDs
abbrev Uids : Type 0
Uids = List UidRange

coded_uids : Coded Uids
coded_uids = coded_list coded_range

coded_fetched : Coded Fetched
coded_fetched =
    code_by (Option ℕ × (Option Words × (Option ℕ × (Option (List ℕ) × Option (List ℕ)))))
    (coded× (coded_option coded_ℕ) (coded× (coded_option coded_words) (coded× (coded_option coded_ℕ)
    (coded× (coded_option (coded_list coded_ℕ)) (coded_option (coded_list coded_ℕ))))))
    (λ f. (f.uid, (f.flags, (f.modseq, (f.ids, f.text)))))
    (λ p. record { uid = p.0; flags = p.1.0; modseq = p.1.1.0; ids = p.1.1.1.0; text = p.1.1.1.1 }) (λ _. refl)

-- tags: one summand for each variant, in their order, as for each enum below
abbrev SumTag : Type 0
SumTag = ℕ ⊎ ((ℕ × ℕ) ⊎ (ℕ ⊎ Unit {0}))

tag_to : Tag → SumTag
tag_to (Play number) = (inl number)
tag_to (Again id turn) = (inr (inl (id, turn)))
tag_to (Count number) = (inr (inr (inl number)))
tag_to Strange = (inr (inr (inr tt)))

tag_from : SumTag → Tag
tag_from (inl v) = Play v
tag_from (inr (inl v)) = Again v.0 v.1
tag_from (inr (inr (inl v))) = Count v
tag_from (inr (inr (inr v))) = Strange

tag_back : (x : Tag) → tag_from (tag_to x) ≡ x
unfolding tag_from tag_to
tag_back (Play number) = refl
tag_back (Again x0 x1) = refl
tag_back (Count x0) = refl
tag_back Strange = refl

pub coded_tag : Coded Tag
coded_tag = code_by SumTag (coded⊎ coded_ℕ (coded⊎ (coded× coded_ℕ coded_ℕ) (coded⊎ coded_ℕ coded_unit))) tag_to tag_from tag_back

-- the endings of a completion
abbrev SumEnding : Type 0
SumEnding = Unit {0} ⊎ (Unit {0} ⊎ Unit {0})

ending_to : Ending → SumEnding
ending_to endings.Ok = (inl tt)
ending_to endings.No = (inr (inl tt))
ending_to endings.Bad = (inr (inr tt))

ending_from : SumEnding → Ending
ending_from (inl v) = endings.Ok
ending_from (inr (inl v)) = endings.No
ending_from (inr (inr v)) = endings.Bad

ending_back : (x : Ending) → ending_from (ending_to x) ≡ x
unfolding ending_from ending_to
ending_back endings.Ok = refl
ending_back endings.No = refl
ending_back endings.Bad = refl

pub coded_ending : Coded Ending
coded_ending = code_by SumEnding (coded⊎ coded_unit (coded⊎ coded_unit coded_unit)) ending_to ending_from ending_back

-- response codes
abbrev SumCode : Type 0
SumCode =
    Unit {0} ⊎ (Words ⊎ (ℕ ⊎ (ℕ ⊎ ((Words × Bool) ⊎ (ℕ ⊎ (Unit {0} ⊎ (Unit {0}
    ⊎ ((ℕ × ℕ) ⊎ ((ℕ × (Uids × Uids)) ⊎ (Uids ⊎ (Unit {0} ⊎ Unit {0})))))))))))

code_to : Code → SumCode
code_to codings.None = (inl tt)
code_to (codings.Capability x0) = (inr (inl x0))
code_to (codings.UidNext x0) = (inr (inr (inl x0)))
code_to (codings.UidValidity x0) = (inr (inr (inr (inl x0))))
code_to (codings.PermanentFlags x0 x1) = (inr (inr (inr (inr (inl (x0, x1))))))
code_to (codings.HighestModSeq x0) = (inr (inr (inr (inr (inr (inl x0))))))
code_to codings.NoModSeq = (inr (inr (inr (inr (inr (inr (inl tt)))))))
code_to codings.UidNotSticky = (inr (inr (inr (inr (inr (inr (inr (inl tt))))))))
code_to (codings.AppendUid x0 x1) = (inr (inr (inr (inr (inr (inr (inr (inr (inl (x0, x1))))))))))
code_to (codings.CopyUid x0 x1 x2) = (inr (inr (inr (inr (inr (inr (inr (inr (inr (inl (x0, (x1, x2))))))))))))
code_to (codings.Modified x0) = (inr (inr (inr (inr (inr (inr (inr (inr (inr (inr (inl x0)))))))))))
code_to codings.Closed = (inr (inr (inr (inr (inr (inr (inr (inr (inr (inr (inr (inl tt))))))))))))
code_to codings.Other = (inr (inr (inr (inr (inr (inr (inr (inr (inr (inr (inr (inr tt))))))))))))

code_from : SumCode → Code
code_from (inl v) = codings.None
code_from (inr (inl v)) = codings.Capability v
code_from (inr (inr (inl v))) = codings.UidNext v
code_from (inr (inr (inr (inl v)))) = codings.UidValidity v
code_from (inr (inr (inr (inr (inl v))))) = codings.PermanentFlags v.0 v.1
code_from (inr (inr (inr (inr (inr (inl v)))))) = codings.HighestModSeq v
code_from (inr (inr (inr (inr (inr (inr (inl v))))))) = codings.NoModSeq
code_from (inr (inr (inr (inr (inr (inr (inr (inl v)))))))) = codings.UidNotSticky
code_from (inr (inr (inr (inr (inr (inr (inr (inr (inl v))))))))) = codings.AppendUid v.0 v.1
code_from (inr (inr (inr (inr (inr (inr (inr (inr (inr (inl v)))))))))) = codings.CopyUid v.0 v.1.0 v.1.1
code_from (inr (inr (inr (inr (inr (inr (inr (inr (inr (inr (inl v))))))))))) = codings.Modified v
code_from (inr (inr (inr (inr (inr (inr (inr (inr (inr (inr (inr (inl v)))))))))))) = codings.Closed
code_from (inr (inr (inr (inr (inr (inr (inr (inr (inr (inr (inr (inr v)))))))))))) = codings.Other

code_back : (x : Code) → code_from (code_to x) ≡ x
unfolding code_from code_to
code_back codings.None = refl
code_back (codings.Capability x0) = refl
code_back (codings.UidNext x0) = refl
code_back (codings.UidValidity x0) = refl
code_back (codings.PermanentFlags x0 x1) = refl
code_back (codings.HighestModSeq x0) = refl
code_back codings.NoModSeq = refl
code_back codings.UidNotSticky = refl
code_back (codings.AppendUid x0 x1) = refl
code_back (codings.CopyUid x0 x1 x2) = refl
code_back (codings.Modified x0) = refl
code_back codings.Closed = refl
code_back codings.Other = refl

pub coded_code : Coded Code
coded_code =
    code_by SumCode
    (coded⊎ coded_unit (coded⊎ coded_words (coded⊎ coded_ℕ (coded⊎ coded_ℕ (coded⊎ (coded× coded_words coded_bool)
    (coded⊎ coded_ℕ (coded⊎ coded_unit (coded⊎ coded_unit (coded⊎ (coded× coded_ℕ coded_ℕ)
    (coded⊎ (coded× coded_ℕ (coded× coded_uids coded_uids)) (coded⊎ coded_uids (coded⊎ coded_unit coded_unit))))))))))))
    code_to code_from code_back

-- responses
abbrev SumResponse : Type 0
SumResponse =
    (Tag × (Ending × Code)) ⊎ ((Ending × Code) ⊎ (Unit {0} ⊎ (Code ⊎ (Unit {0} ⊎ (Words ⊎ (Words ⊎ (ℕ
    ⊎ (Fetched ⊎ ((Bool × Uids) ⊎ (Uids ⊎ Unit {0}))))))))))

response_to : Response → SumResponse
response_to (responses.Done x0 x1 x2) = (inl (x0, (x1, x2)))
response_to (responses.Untagged x0 x1) = (inr (inl (x0, x1)))
response_to responses.Bye = (inr (inr (inl tt)))
response_to (responses.Preauth x0) = (inr (inr (inr (inl x0))))
response_to responses.Go = (inr (inr (inr (inr (inl tt)))))
response_to (responses.Capability x0) = (inr (inr (inr (inr (inr (inl x0))))))
response_to (responses.Enabled x0) = (inr (inr (inr (inr (inr (inr (inl x0)))))))
response_to (responses.Exists x0) = (inr (inr (inr (inr (inr (inr (inr (inl x0))))))))
response_to (responses.Fetch x0) = (inr (inr (inr (inr (inr (inr (inr (inr (inl x0)))))))))
response_to (responses.Vanished x0 x1) = (inr (inr (inr (inr (inr (inr (inr (inr (inr (inl (x0, x1)))))))))))
response_to (responses.Found x0) = (inr (inr (inr (inr (inr (inr (inr (inr (inr (inr (inl x0)))))))))))
response_to responses.Other = (inr (inr (inr (inr (inr (inr (inr (inr (inr (inr (inr tt)))))))))))

response_from : SumResponse → Response
response_from (inl v) = responses.Done v.0 v.1.0 v.1.1
response_from (inr (inl v)) = responses.Untagged v.0 v.1
response_from (inr (inr (inl v))) = responses.Bye
response_from (inr (inr (inr (inl v)))) = responses.Preauth v
response_from (inr (inr (inr (inr (inl v))))) = responses.Go
response_from (inr (inr (inr (inr (inr (inl v)))))) = responses.Capability v
response_from (inr (inr (inr (inr (inr (inr (inl v))))))) = responses.Enabled v
response_from (inr (inr (inr (inr (inr (inr (inr (inl v)))))))) = responses.Exists v
response_from (inr (inr (inr (inr (inr (inr (inr (inr (inl v))))))))) = responses.Fetch v
response_from (inr (inr (inr (inr (inr (inr (inr (inr (inr (inl v)))))))))) = responses.Vanished v.0 v.1
response_from (inr (inr (inr (inr (inr (inr (inr (inr (inr (inr (inl v))))))))))) = responses.Found v
response_from (inr (inr (inr (inr (inr (inr (inr (inr (inr (inr (inr v))))))))))) = responses.Other

response_back : (x : Response) → response_from (response_to x) ≡ x
unfolding response_from response_to
response_back (responses.Done x0 x1 x2) = refl
response_back (responses.Untagged x0 x1) = refl
response_back responses.Bye = refl
response_back (responses.Preauth x0) = refl
response_back responses.Go = refl
response_back (responses.Capability x0) = refl
response_back (responses.Enabled x0) = refl
response_back (responses.Exists x0) = refl
response_back (responses.Fetch x0) = refl
response_back (responses.Vanished x0 x1) = refl
response_back (responses.Found x0) = refl
response_back responses.Other = refl

pub coded_response : Coded Response
coded_response =
    code_by SumResponse
    (coded⊎ (coded× coded_tag (coded× coded_ending coded_code)) (coded⊎ (coded× coded_ending coded_code) (coded⊎ coded_unit
    (coded⊎ coded_code (coded⊎ coded_unit (coded⊎ coded_words (coded⊎ coded_words (coded⊎ coded_ℕ (coded⊎ coded_fetched
    (coded⊎ (coded× coded_bool coded_uids) (coded⊎ coded_uids coded_unit)))))))))))
    response_to response_from response_back

-- two lists of responses are the same in one way
pub told_set : (a b : List Response) → IsProp (a ≡ b)
told_set = Coded-set (coded_list coded_response)

drop_front : (heard more : List Response) → drop (length heard) (heard ++ more) ≡ more
drop_front [] more = refl
drop_front (r ∷ rs) more = drop_front rs more

-- what is told goes on behind what was heard, though it is only known that it does so somehow
pub goes_on_behind : (heard told : List Response) → ∥ ((more : List Response) × (told ≡ heard ++ more)) ∥₁ → told ≡ heard ++ drop (length heard) told
goes_on_behind heard told known =
    ∥∥₁_elim known (told_set told (heard ++ drop (length heard) told))
    (λ m. m.1 ∙ ap (λ (z : List Response). heard ++ z) (sym (drop_front heard m.0) ∙ ap (λ (z : List Response). drop (length heard) z) (sym m.1)))
