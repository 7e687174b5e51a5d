-- A record more behind an open journal's gate.
use Rattle.std.proofs.Common.{◌≡◌, ℕ, ◌+◌, IsTrue, List, [], ◌∷◌, ◌++◌, length, sym, ◌∙◌, ap, subst, Result, Ok, Err, OnOk}
use Rattle.world_traits.specs.Files.{Files, file_of}
use Rattle.world_traits.specs.Moments.{Clock}
use Rattle.world_traits.proofs.Passing.{since_start}
use Rattle.mail_base.specs.Bodies.{IsBody, frame_of}
use Rattle.journal_core.specs.Records.{records}
use Rattle.journal_core.specs.Sides.{head_of}
use Rattle.journal_core.specs.Gates.{IsShut, IsOpened, OpensGate, Passes}
use Rattle.journal_core.specs.Standing.{Standing, IsStill}
use Rattle.journal_core.specs.Appending.{Appends}
use Rattle.journal_core.specs.Holds.{Holds}
use Rattle.journal_core.proofs.Aside.{passes_as}
use Rattle.journal_core.proofs.GateOpens.{P, S}
use Rattle.journal_core.proofs.Lists.{opened_shuts, length-more, are_more}
use Rattle.journal_core.proofs.Presence.{set_up_shut, present_kept, holds_kept}

at_err : {T E : Type 0} (r : Result T E) (e : E) (Q : Type 0) → r ≡ Err e → OnOk r Q
at_err r e Q is = rw is tt

-- the journal with a record of so many bytes more
abbrev pub moved : ℕ → Standing → Standing
moved size journal = record journal { place = journal.place + size }

module _ (journal : Standing) (frame : List ℕ) (old new : Clock) (seen after : Files) where
  -- where nothing was done
  pub unadded : {T E : Type 0} (later : Standing) (s : Result T E) (e : E) → s ≡ Err e → Appends journal later frame old old seen seen s
  unadded later s e is = record {
    passing = λ bodies body still b f. since_start (P (Holds journal.version bodies) (Holds journal.version (bodies ++ body ∷ [])))
        (S (Holds journal.version bodies) (Holds journal.version (bodies ++ body ∷ []))) old;
    done = λ bodies body still b f. at_err s e _ is;
  }

  module _ {V E : Type 0} (r : Result V E) (opens : OpensGate journal.side journal.place frame old new seen after r) (read : IsTrue journal.all_read) where
    front : List (List ℕ) → List ℕ
    front bodies = head_of journal.version journal.generation ++ records bodies

    shut : (bodies : List (List ℕ)) → IsStill journal bodies old.now seen →
        IsShut (head_of journal.version journal.generation ++ records bodies) (file_of journal.side seen)
    shut bodies still = record { gate = still.gate; rest = still.rest; closed = still.closed read; is = still.is }

    adds : (bodies : List (List ℕ)) (body : List ℕ) → IsStill journal bodies old.now seen → IsBody body → frame ≡ frame_of body →
        Passes (Holds journal.version bodies) (Holds journal.version (bodies ++ body ∷ [])) old new
    adds bodies body still b is =
        passes_as _ _ _ _
        (λ files old_there. holds_kept journal.side journal.version journal.generation seen still.present bodies still.sizes files old_there)
        (λ files new_there. holds_kept journal.side journal.version journal.generation seen still.present (bodies ++ body ∷ [])
        (are_more bodies body still.sizes b) files
        (record {
          here = opened_shuts (head_of journal.version journal.generation) bodies body _
              (subst (λ (f : List ℕ). IsOpened (head_of journal.version journal.generation ++ records bodies) f
              (file_of journal.side files)) is new_there.here);
          there = new_there.there;
        }))
        old new (opens.passing (head_of journal.version journal.generation ++ records bodies) still.rests (shut bodies still) still.next)

    pub added_not : {T F : Type 0} (later : Standing) (s : Result T F) (e : F) → s ≡ Err e → Appends journal later frame old new seen after s
    added_not later s e is = record { passing = adds; done = λ bodies body still b f. at_err s e _ is }

  module _ {V E : Type 0} (x : V) (opens : OpensGate {T = V} {E = E} journal.side journal.place frame old new seen after (Ok x))
      (read : IsTrue journal.all_read) where
    still_after : (bodies : List (List ℕ)) (body : List ℕ) → IsStill journal bodies old.now seen → IsBody body → frame ≡ frame_of body →
        IsStill (moved (length frame) journal) (bodies ++ body ∷ []) new.now after
    still_after bodies body still b is =
        let head = head_of journal.version journal.generation in
        let s = shut (Ok x) opens read bodies still in
        let there = opens.done (head_of journal.version journal.generation ++ records bodies) still.rests s still.next in
        let more = opened_shuts head bodies body (file_of journal.side after)
        (subst (λ (f : List ℕ). IsOpened (head_of journal.version journal.generation ++ records bodies) f
        (file_of journal.side after)) is there.here) in
        record {
          rests = opens.rests (head_of journal.version journal.generation ++ records bodies) still.rests s still.next;
          present = present_kept journal.side journal.version journal.generation seen after still.present there.there
              (set_up_shut journal.version journal.generation (bodies ++ body ∷ [])
              (file_of journal.side after) more.gate more.rest still.present.set_up.number more.is);
          sizes = are_more bodies body still.sizes b;
          gate = more.gate;
          rest = more.rest;
          is = more.is;
          next = ap (λ (n : ℕ). n + length frame) still.next ∙ ap (λ (f : List ℕ). length
              (head_of journal.version journal.generation ++ records bodies) + length f) is ∙ sym (length-more head bodies body);
          closed = λ t. more.closed;
        }

    pub added : {T F : Type 0} (later : Standing) (s : Result T F) → later ≡ moved (length frame) journal → Appends journal later frame old new seen after s
    added later s is = record {
      passing = adds (Ok x) opens read;
      done = λ bodies body still b f. all s _ (subst (λ (j : Standing). IsStill j (bodies ++ body ∷ []) new.now after) (sym is)
          (still_after bodies body still b f));
    }
      where
        all : {T F : Type 0} (s : Result T F) (Q : Type 0) → Q → OnOk s Q
        all (Ok y) Q q = q
        all (Err e) Q q = tt

-- the same of a journal as contracts see it
read_as : (journal now : Standing) → journal ≡ now → IsTrue now.all_read → IsTrue journal.all_read
read_as journal now is read = subst (λ (j : Standing). IsTrue j.all_read) (sym is) read

module _ {V E T F : Type 0} (frame : List ℕ) (old new : Clock) (seen after : Files) (journal now later : Standing) (is : journal ≡ now)
    (read : IsTrue now.all_read) where
  pub added_as : (r : Result V E) (x : V) → r ≡ Ok x → OpensGate journal.side journal.place frame old new seen after r → (s : Result T F) →
      later ≡ moved (length frame) journal → Appends now later frame old new seen after s
  added_as r x ok opens s same =
      subst (λ (j : Standing). Appends j later frame old new seen after s) is
      (added journal frame old new seen after x (subst (λ
      (q : Result V E). OpensGate journal.side journal.place frame old new seen after q) ok opens)
      (read_as journal now is read) later s same)

  pub added_not_as : (r : Result V E) → OpensGate journal.side journal.place frame old new seen after r → (s : Result T F) (e : F) →
      s ≡ Err e → Appends now later frame old new seen after s
  added_not_as r opens s e err =
      subst (λ (j : Standing). Appends j later frame old new seen after s) is
      (added_not journal frame old new seen after r opens (read_as journal now is read) later s e err)
