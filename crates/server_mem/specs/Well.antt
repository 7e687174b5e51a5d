-- A well-formed server (RFC 9051, section 2.3.1.1; RFC 7162, section 3.1), said so that there is one proof of it at most.
use Rattle.std.specs.Prelude.{◌≡◌, ℕ, ◌+◌, ◌≤◌, ◌<◌, false, List, [], ◌∷◌, Contains, Option, Some, is_some}
use Rattle.std.specs.Coded.{×_prop, Π_prop, →_prop, Unit-prop, le_prop, Coded-set, coded_bool}
use Rattle.imap_model.specs.Lookups.{box_at, message_at, gone_at}
use Rattle.imap_model.specs.WellFormed.{Rises}
use Rattle.imap_model.specs.declared.server.Message.{Message}
use Rattle.imap_model.specs.declared.server.Gone.{Gone}
use Rattle.imap_model.specs.declared.server.Mailbox.{Mailbox}

-- there is none
abbrev pub Lacks : {A : Type 0} → Option A → Type 0
Lacks o = is_some o ≡ false

abbrev pub GoneApart : List Gone → Type 0
GoneApart [] = Unit {0}
GoneApart (g ∷ gs) = Lacks (gone_at g.uid gs) × GoneApart gs

abbrev pub NamesApart : List Mailbox → Type 0
NamesApart [] = Unit {0}
NamesApart (b ∷ bs) = Lacks (box_at b.name bs) × NamesApart bs

abbrev pub WellBox : Mailbox → Type 0
WellBox b =
    Rises 0 b.messages
    × (((u : ℕ) (m : Message) → message_at u b.messages ≡ Some m → u < b.uidnext)
    × (((u : ℕ) (m : Message) → message_at u b.messages ≡ Some m → m.modseq ≤ b.highest)
    × (((u : ℕ) (m : Message) → message_at u b.messages ≡ Some m → ¬ (Contains m.text 0))
    × (((u k : ℕ) → gone_at u b.gone ≡ Some k → u < b.uidnext)
    × (((u k : ℕ) → gone_at u b.gone ≡ Some k → k ≤ b.highest)
    × (((u k : ℕ) → gone_at u b.gone ≡ Some k → Lacks (message_at u b.messages))
    × GoneApart b.gone))))))

abbrev pub Well : List Mailbox → Type 0
Well boxes = NamesApart boxes × ((name : List ℕ) (b : Mailbox) → box_at name boxes ≡ Some b → WellBox b)

rises_prop : (low : ℕ) (ms : List Message) → IsProp (Rises low ms)
rises_prop low [] = Unit-prop
rises_prop low (m ∷ ms) = ×_prop le_prop (rises_prop (m.uid + 1) ms)

gone_prop : (gs : List Gone) → IsProp (GoneApart gs)
gone_prop [] = Unit-prop
gone_prop (g ∷ gs) = ×_prop (Coded-set coded_bool (is_some (gone_at g.uid gs)) false) (gone_prop gs)

names_prop : (bs : List Mailbox) → IsProp (NamesApart bs)
names_prop [] = Unit-prop
names_prop (b ∷ bs) = ×_prop (Coded-set coded_bool (is_some (box_at b.name bs)) false) (names_prop bs)

box_prop : (b : Mailbox) → IsProp (WellBox b)
box_prop b =
    ×_prop (rises_prop 0 b.messages)
    (×_prop (Π_prop (λ u. Π_prop (λ m. →_prop le_prop)))
    (×_prop (Π_prop (λ u. Π_prop (λ m. →_prop le_prop)))
    (×_prop (Π_prop (λ u. Π_prop (λ m. →_prop (→_prop (λ x y. absurd x)))))
    (×_prop (Π_prop (λ u. Π_prop (λ k. →_prop le_prop)))
    (×_prop (Π_prop (λ u. Π_prop (λ k. →_prop le_prop)))
    (×_prop (Π_prop (λ u. Π_prop (λ k. →_prop (Coded-set coded_bool (is_some (message_at u b.messages)) false))))
    (gone_prop b.gone)))))))

pub Well-prop : (boxes : List Mailbox) → IsProp (Well boxes)
Well-prop boxes = ×_prop (names_prop boxes) (Π_prop (λ name. Π_prop (λ b. →_prop (box_prop b))))
