-- Records of bodies, one body more.
use Rattle.std.proofs.Common.{◌≡◌, ℕ, ◌+◌, List, [], ◌∷◌, ◌++◌, length, sym, ◌∙◌, ap, arith, append_assoc, length-append}
use Rattle.std.proofs.lemmas.List.{append-nil}
use Rattle.std.specs.Int.{w32, to_be_bytes}
use Rattle.mail_base.specs.Bodies.{IsBody, frame_of}
use Rattle.journal_core.specs.Records.{AreBodies, open_record, records}
use Rattle.journal_core.specs.Gates.{IsShut, IsOpened}

pub records-push : (bodies : List (List ℕ)) (body rest : List ℕ) →
    records (bodies ++ body ∷ []) ++ rest ≡ records bodies ++ 1 ∷ (to_be_bytes w32 (length body) ++ body ++ rest)
records-push [] body rest = ap (λ (l : List ℕ). l ++ rest) (append-nil (open_record body))
records-push (b ∷ bodies) body rest =
    append_assoc (open_record b) (records (bodies ++ body ∷ [])) rest
    ∙ ap (λ (l : List ℕ). open_record b ++ l) (records-push bodies body rest)
    ∙ sym (append_assoc (open_record b) (records bodies) (1 ∷ (to_be_bytes w32 (length body) ++ body ++ rest)))

-- a whole frame behind an open gate is one record more
pub one_more : (head : List ℕ) (bodies : List (List ℕ)) (body rest : List ℕ) →
    head ++ records bodies ++ 1 ∷ (frame_of body ++ rest) ≡ head ++ records (bodies ++ body ∷ []) ++ 0 ∷ rest
one_more head bodies body rest =
    append_assoc head (records bodies) (1 ∷ (frame_of body ++ rest))
    ∙ ap (λ (l : List ℕ). head ++ (records bodies ++ 1 ∷ l)) (append_assoc (to_be_bytes w32 (length body) ++ body) (0 ∷ []) rest)
    ∙ ap (λ (l : List ℕ). head ++ l) (sym (records-push bodies body (0 ∷ rest)))
    ∙ sym (append_assoc head (records (bodies ++ body ∷ [])) (0 ∷ rest))

pub opened_shuts : (head : List ℕ) (bodies : List (List ℕ)) (body bytes : List ℕ) →
    IsOpened (head ++ records bodies) (frame_of body) bytes → IsShut (head ++ records (bodies ++ body ∷ [])) bytes
opened_shuts head bodies body bytes o = record { gate = 0; rest = o.rest; closed = λ e. cc; is = o.is ∙ one_more head bodies body o.rest }

pub length-more : (head : List ℕ) (bodies : List (List ℕ)) (body : List ℕ) →
    length (head ++ records (bodies ++ body ∷ [])) ≡ length (head ++ records bodies) + length (frame_of body)
length-more head bodies body =
    omega (
      arith,
      ap length (records-push bodies body []),
      ap length (append-nil (records (bodies ++ body ∷ []))),
      length-append head (records (bodies ++ body ∷ [])),
      length-append head (records bodies),
      length-append (records bodies) (1 ∷ (to_be_bytes w32 (length body) ++ body ++ [])),
      length-append (to_be_bytes w32 (length body) ++ body) [],
      length-append (to_be_bytes w32 (length body) ++ body) (0 ∷ []),
    )

pub are_more : (bodies : List (List ℕ)) (body : List ℕ) → AreBodies bodies → IsBody body → AreBodies (bodies ++ body ∷ [])
are_more [] body bs b = (b, tt)
are_more (x ∷ xs) body bs b = (bs.0, are_more xs body bs.1 b)
