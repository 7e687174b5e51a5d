-- The first record of a journal: whether its body is a Begin's, and that it stands whole.
use Rattle.std.proofs.Common.{◌≡◌, ◌↔◌, ℕ, Bool, false, IsTrue, List, get_or, None, Result, Ok, Err, IfOk, OnOk, refl, sym, ◌∙◌, ap, subst, arith}
use Rattle.world_traits.specs.Files.{Files, file_of}
use Rattle.journal_core.specs.declared.version.Version.{Version}
use Rattle.journal_core.specs.Standing.{Standing}
use Rattle.journal_core.specs.Reading.{HasRecord, HasFirstRecord, IsAtFirst}
use Rattle.action_queue.specs.declared.event.Event.{Event}
use Rattle.action_queue.specs.declared.event.Event.TheVariants as events
use Rattle.action_queue.specs.declared.book.Book.{Book}
use Rattle.action_queue.specs.Book.{meaning}
use Rattle.action_queue.specs.Events.{IsFirst, first_book}
use Rattle.action_queue.specs.Writable.{IsWritable}
use Rattle.record_codec.specs.Bodies.{body_of}
use Rattle.record_codec.specs.Spelling.{Spelled}
use Rattle.store_core.specs.Mail.{mail}
use Rattle.store_core.specs.Broken.{IsUndue}
use Rattle.store_core.specs.Reading.{Enters}
use Rattle.store_core.proofs.MailBook.{one_mail_event}

-- a Begin's body, and no other one's, begins with its letter
letter_first : (e : Event) → IsWritable e → get_or (body_of e) 0 0 ≡ 66 → IsFirst e
letter_first (events.Begin names) writable is = writable
letter_first (events.Accept id action) writable is = let never : 65 ≡ 66 = is in omega (arith, never)
letter_first (events.Intend id intent) writable is = let never : 73 ≡ 66 = is in omega (arith, never)
letter_first (events.Settle id outcome) writable is = let never : 83 ≡ 66 = is in omega (arith, never)
letter_first (events.Learn name delta) writable is = let never : 76 ≡ 66 = is in omega (arith, never)
letter_first (events.Old id action outcome) writable is = let never : 79 ≡ 66 = is in omega (arith, never)
letter_first (events.Reset name kept told) writable is = let never : 82 ≡ 66 = is in omega (arith, never)
letter_first (events.Withdraw id tries) writable is = let never : 87 ≡ 66 = is in omega (arith, never)

first_letter : (e : Event) → IsFirst e → get_or (body_of e) 0 0 ≡ 66
first_letter (events.Begin names) first = refl
first_letter (events.Accept id action) first = absurd first
first_letter (events.Intend id intent) first = absurd first
first_letter (events.Settle id outcome) first = absurd first
first_letter (events.Learn name delta) first = absurd first
first_letter (events.Old id action outcome) first = absurd first
first_letter (events.Reset name kept told) first = absurd first
first_letter (events.Withdraw id tries) first = absurd first

pub lettered_first : (body : List ℕ) → get_or body 0 0 ≡ 66 → (e : Event) → Spelled body e → IsFirst e
lettered_first body is e s = letter_first e s.writable (ap (λ (b : List ℕ). get_or b 0 0) (sym s.is) ∙ is)

pub unlettered_undue : (v : Version) (body : List ℕ) (b : Bool) → (IsTrue b ↔ (get_or body 0 0 ≡ 66)) → b ≡ false → IsUndue mail v None body
unlettered_undue v body b means is e s first =
    let told : IsTrue b = means.1 (ap (λ (l : List ℕ). get_or l 0 0) s.is ∙ first_letter e first) in
    absurd cc

-- the one event that a body spells is the first one, or isn't
pub first_so : (body : List ℕ) (e : Event) → Spelled body e → IsFirst e → (f : Event) → Spelled body f → IsFirst f
first_so body e s first f t = subst IsFirst (one_mail_event body e f s t) first

pub unfirst_undue : (v : Version) (body : List ℕ) (e : Event) → Spelled body e → (IsFirst e → ⊥) → IsUndue mail v None body
unfirst_undue v body e s not f t first = not (first_so body f t first e s)

pub if_enters : {E : Type 0} (v : Version) (r : Result Book E) (body : List ℕ) (e : Event) → Spelled body e →
    IfOk r (λ book. IsFirst e × (meaning book ≡ first_book e)) → IfOk r (λ book. Enters mail v None body (meaning book))
if_enters v (Ok book) body e s is = record { event = e; spelled = s; may = is.0; is = is.1 }
if_enters v (Err fault) body e s is = tt

-- the first record of a journal stands whole where it was found so behind its head
pub first_record : (j : Standing) (f : Files) → IsAtFirst j f → HasRecord j.place (file_of j.side f) → HasFirstRecord f
first_record j f at has = record {
  side = j.side;
  version = j.version;
  generation = j.generation;
  present = at.present;
  first = subst (λ (n : ℕ). HasRecord n (file_of j.side f)) (ap (λ (k : Standing). k.place) at.is) has;
}

pub on_any : {T E : Type 0} (r : Result T E) (Q : Type 0) → Q → OnOk r Q
on_any (Ok x) Q q = q
on_any (Err e) Q q = tt
