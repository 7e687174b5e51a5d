-- How an input is read, and what is read of it.
use Rattle.std.proofs.Common.{◌≡◌, ℕ, zero, suc, ◌<◌, ◌≤◌, Bool, true, false, List, [], ◌∷◌, ◌++◌, length, drop, take, ◌-◌, Result, Err, refl, sym, ◌∙◌, ap, subst, arith}
use Rattle.std.proofs.lemmas.Bool.{lt-ltb}
use Rattle.std.proofs.lemmas.List.{length-append}
use Rattle.std.specs.Prelude.{nat_lt, ◌==◌, if◌then◌else◌}
use Rattle.std.specs.Result.{IsErrAnd, IsOkUnless}
use Rattle.mail_base.specs.declared.limits.TheConstants.{MAX_TEXT}
use Rattle.mail_header.specs.BareLf.{crlf_of, crlf_after, end_behind}
use Rattle.mail_header.specs.Identifier.{HasMessageId}
use Rattle.mail_header.specs.declared.identifier.IdFault.{IdFault}
use Rattle.mail_header.specs.declared.identifier.IdFault.TheVariants as faults
use Rattle.mail_top.specs.Faults.{of_id}
use Rattle.mail_top.specs.Reading.{Identified, InputRead, IsReadOut, MessageRead, TakesFront}
use Rattle.mail_top.specs.Reasons.{is_large, has_zero}
use Rattle.mail_top.specs.declared.reason.Reason.{Reason}
use Rattle.mail_top.specs.declared.refusal.Refusal.{Refusal}
use Rattle.mail_top.specs.declared.refusal.Refusal.TheVariants as refusals
use Rattle.mail_top.proofs.Openings.{raised}

-- an LF behind a byte is one byte or two
end_some : (before : ℕ) (lf : Bool) (byte : ℕ) → 1 ≤ length {A = ℕ} (if lf then end_behind before else byte ∷ [])
end_some before true byte = by_test (before == 13)
  where
    by_test : (cr : Bool) → 1 ≤ length {A = ℕ} (if cr then 10 ∷ [] else 13 ∷ 10 ∷ [])
    by_test true = omega arith
    by_test false = omega arith
end_some before false byte = omega arith

-- no byte is lost
crlf_longer : (before : ℕ) (bytes : List ℕ) → length bytes ≤ length (crlf_after before bytes)
crlf_longer before [] = omega arith
crlf_longer before (byte ∷ bytes) =
    let here = end_some before (byte == 10) byte in
    let behind = crlf_longer byte bytes in
    omega (arith, here, behind, length-append (if byte == 10 then end_behind before else byte ∷ []) (crlf_after byte bytes))

above : (n : ℕ) → MAX_TEXT < n → nat_lt MAX_TEXT n ≡ true
above n more = lt-ltb MAX_TEXT n more

large_input : (input : List ℕ) → MAX_TEXT < length input → is_large input ≡ true
large_input input more = above (length (crlf_of input)) (omega (arith, more, crlf_longer 0 input))

-- an input that isn't read gives no message
pub unread : (input : List ℕ) (x : Refusal) → InputRead input (Err x) → MessageRead input (Err x)
unread input (refusals.Reason reason) r =
    subst (λ (y : Reason). MessageRead input (Err (refusals.Reason y))) (sym r.0) (large_input input r.1)
unread input refusals.Input r = tt
unread input refusals.Memory r = tt
unread input refusals.Actions r = absurd r
unread input refusals.Disk r = absurd r
unread input refusals.Already r = absurd r
unread input (refusals.NotAJournal why) r = absurd r
unread input (refusals.Full end) r = absurd r
unread input refusals.Generation r = absurd r

pub unread_message : (input : List ℕ) (o : Result (List ℕ) Refusal) (r : Result (List ℕ × List ℕ) Refusal) (x : Refusal) → o ≡ Err x →
    IsErrAnd r (λ refusal. refusal ≡ x) → InputRead input o → MessageRead input r
unread_message input o r x was given read =
    subst (MessageRead input) (sym (raised r x given)) (unread input x (subst (InputRead input) was read))

-- a text without a Message-ID is no message
pub unidentified : (input text : List ℕ) (x : Refusal) → text ≡ crlf_of input → is_large input ≡ false → has_zero input ≡ false → Identified text (Err x) →
    MessageRead input (Err x)
unidentified input text (refusals.Reason reason) same fits clean i =
    subst (λ (y : Reason). MessageRead input (Err (refusals.Reason y))) (sym i.0)
    (fits, clean, λ id has. i.1 id (subst (λ (t : List ℕ). HasMessageId t id) (sym same) has))
unidentified input text refusals.Memory same fits clean i = tt
unidentified input text refusals.Input same fits clean i = absurd i
unidentified input text refusals.Actions same fits clean i = absurd i
unidentified input text refusals.Disk same fits clean i = absurd i
unidentified input text refusals.Already same fits clean i = absurd i
unidentified input text (refusals.NotAJournal why) same fits clean i = absurd i
unidentified input text (refusals.Full end) same fits clean i = absurd i
unidentified input text refusals.Generation same fits clean i = absurd i

pub unidentified_message : (input text : List ℕ) (o : Result (List ℕ) Refusal) (r : Result (List ℕ × List ℕ) Refusal) (x : Refusal) → o ≡ Err x →
    IsErrAnd r (λ refusal. refusal ≡ x) → text ≡ crlf_of input → is_large input ≡ false → has_zero input ≡ false → Identified text o → MessageRead input r
unidentified_message input text o r x was given same fits clean i =
    subst (MessageRead input) (sym (raised r x given)) (unidentified input text x same fits clean (subst (Identified text) was i))

-- a text whose Message-ID is refused has none
nameless : (text : List ℕ) (fault : IdFault) → ((fault ≡ faults.Memory → ⊥) → (id : List ℕ) → HasMessageId text id → ⊥) →
    Identified text (Err (of_id fault))
nameless text faults.Memory none = tt
nameless text faults.Missing none = (refl, none (λ e. cc e))
nameless text (faults.Twice second) none = (refl, none (λ e. cc e))
nameless text (faults.TooLong n) none = (refl, none (λ e. cc e))
nameless text (faults.BadForm at) none = (refl, none (λ e. cc e))

pub nameless_message : {T : Type 0} (text : List ℕ) (o : Result T IdFault) (r : Result (List ℕ) Refusal) (fault : IdFault) → o ≡ Err fault →
    IsErrAnd r (λ refusal. refusal ≡ of_id fault) → ((id : List ℕ) → HasMessageId text id → IsOkUnless o faults.Memory) → Identified text r
nameless_message {T} text o r fault was given found =
    subst (Identified text) (sym (raised r (of_id fault) given))
    (nameless text fault (λ other id has. other (subst (λ (x : Result T IdFault). IsOkUnless x faults.Memory) was (found id has))))

-- an input that failed, and want of memory
pub input_err : (input : List ℕ) (r : Result (List ℕ) Refusal) → IsErrAnd r (λ refusal. refusal ≡ refusals.Input) → InputRead input r
input_err input r given = subst (InputRead input) (sym (raised r refusals.Input given)) tt

pub memory_err : (input : List ℕ) (r : Result (List ℕ) Refusal) → IsErrAnd r (λ refusal. refusal ≡ refusals.Memory) → InputRead input r
memory_err input r given = subst (InputRead input) (sym (raised r refusals.Memory given)) tt

-- what was taken off the front
pub front_taken : (old front rest : List ℕ) → old ≡ front ++ rest → length front ≤ 33554433 → TakesFront old rest
front_taken old front rest is most = record {
  count = length front;
  most = most;
  taken = sym (ap (λ (l : List ℕ). drop (length front) l) is ∙ drop_front front rest);
}
  where
    drop_front : (xs ys : List ℕ) → drop (length xs) (xs ++ ys) ≡ ys
    drop_front [] ys = refl
    drop_front (x ∷ xs) ys = drop_front xs ys

take_most : (n : ℕ) (l : List ℕ) → length (take n l) ≤ n
take_most zero l = omega arith
take_most (suc n) [] = omega arith
take_most (suc n) (x ∷ xs) = let less = take_most n xs in omega (arith, less)

-- one more piece
pub piece_most : (given into : List ℕ) (n : ℕ) → n ≤ 33554433 - length given → length given ≤ 33554433 → length (given ++ take n into) ≤ 33554433
piece_most given into n fits most = omega (arith, fits, most, length-append given (take n into), take_most n into)

pub longer : (xs ys : List ℕ) → MAX_TEXT < length xs → MAX_TEXT < length (xs ++ ys)
longer xs ys more = omega (arith, more, length-append xs ys)

-- an input that ends within what is read was read out, and so was one of which that much was read
pub ended_out : (old given rest : List ℕ) → old ≡ given ++ rest → rest ≡ [] → length given ≤ 33554433 → IsReadOut old rest
ended_out old given rest is none most =
    none ∙ sym (ap (λ (l : List ℕ). drop 33554433 l) is ∙ past_end 33554433 (given ++ rest)
    (omega (arith, most, length-append given rest, ap (λ (l : List ℕ). length l) none)))
  where
    past_end : (n : ℕ) (l : List ℕ) → length l ≤ n → drop n l ≡ []
    past_end zero [] few = refl
    past_end zero (x ∷ xs) few = absurd (omega (arith, few))
    past_end (suc n) [] few = refl
    past_end (suc n) (x ∷ xs) few = past_end n xs (omega (arith, few))

pub full_out : (old given rest : List ℕ) → old ≡ given ++ rest → length given ≡ 33554433 → IsReadOut old rest
full_out old given rest is size =
    sym (ap (λ (l : List ℕ). drop 33554433 l) is ∙ ap (λ (n : ℕ). drop n (given ++ rest)) (sym size) ∙ behind given rest)
  where
    behind : (xs ys : List ℕ) → drop (length xs) (xs ++ ys) ≡ ys
    behind [] ys = refl
    behind (x ∷ xs) ys = behind xs ys
