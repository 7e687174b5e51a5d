-- Two files hold one list of bodies.
use Rattle.std.proofs.Common.{◌≡◌, ◌≢◌, ℕ, List, [], ◌∷◌, ◌++◌, get_or, refl, sym, ◌∙◌, ap, arith, append_assoc}
use Rattle.world_traits.specs.Files.{Files, file_of}
use Rattle.world_traits.specs.declared.disk.Side.{Side}
use Rattle.world_traits.specs.declared.disk.Side.TheVariants.{Left, Right}
use Rattle.journal_core.specs.declared.version.Version.{Version}
use Rattle.journal_core.specs.declared.version.Version.TheVariants.{First, Second}
use Rattle.journal_core.specs.Sides.{magic_of, IsSetUp}
use Rattle.journal_core.specs.Records.{AreBodies, From, open_record, records}
use Rattle.journal_core.specs.Holds.{IsPresent, Holds}
use Rattle.journal_core.proofs.HeadBytes.{word_of}
use Rattle.journal_core.proofs.Nexting.{one_body, one_rest}

one_list : (bs cs : List (List ℕ)) (g h : ℕ) (r s : List ℕ) → g ≢ 1 → h ≢ 1 → AreBodies bs → AreBodies cs → records bs ++ g ∷ r ≡ records cs ++ h ∷ s → bs ≡ cs
one_list [] [] g h r s gs hs sb sc same = refl
one_list [] (c ∷ cs) g h r s gs hs sb sc same = absurd (gs cc)
one_list (b ∷ bs) [] g h r s gs hs sb sc same = absurd (hs cc)
one_list (b ∷ bs) (c ∷ cs) g h r s gs hs sb sc same =
    let whole = sym (append_assoc (open_record b) (records bs) (g ∷ r)) ∙ same ∙ append_assoc (open_record c) (records cs) (h ∷ s) in
    let first = one_body b c (records bs ++ g ∷ r) (records cs ++ h ∷ s) sb.0 sc.0 whole in
    let rest = one_list bs cs g h r s gs hs sb.1 sc.1 (one_rest b c (records bs ++ g ∷ r) (records cs ++ h ∷ s) sb.0 sc.0 whole) in
    ap (λ (x : List ℕ). x ∷ bs) first ∙ ap (λ (l : List (List ℕ)). c ∷ l) rest

-- from a place on
pub one_from : (place : ℕ) (bs cs : List (List ℕ)) (bytes : List ℕ) → From place bs bytes → From place cs bytes → bs ≡ cs
one_from place bs cs bytes a b = one_list bs cs a.gate b.gate a.rest b.rest a.closed b.closed a.sizes b.sizes (sym a.is ∙ b.is)

by_sides : (s t : Side) (v w : Version) (g h : ℕ) (bs cs : List (List ℕ)) (files : Files) → IsPresent s v g files → IsPresent t w h files →
    From 13 bs (file_of s files) → From 13 cs (file_of t files) → bs ≡ cs
by_sides Left Left v w g h bs cs files p q a b = one_from 13 bs cs files.left a b
by_sides Right Right v w g h bs cs files p q a b = one_from 13 bs cs files.right a b
by_sides Left Right v w g h bs cs files p q a b = let x = p.newer w h q.set_up in let y = q.newer v g p.set_up in absurd (omega (arith, x, y))
by_sides Right Left v w g h bs cs files p q a b = let x = p.newer w h q.set_up in let y = q.newer v g p.set_up in absurd (omega (arith, x, y))

pub one_book : (v w : Version) (bs cs : List (List ℕ)) (files : Files) → Holds v bs files → Holds w cs files → bs ≡ cs
one_book v w bs cs files a b = by_sides a.side b.side v w a.generation b.generation bs cs files a.present b.present a.records b.records

-- the words of the versions differ in their last byte
differ : magic_of First ≡ magic_of Second → ⊥
differ same = let never : 49 ≡ 50 = ap (λ (l : List ℕ). get_or l 7 0) same in omega (arith, never)

-- a side is set up in one version
version_of : (v w : Version) (g h : ℕ) (bytes : List ℕ) → IsSetUp v g bytes → IsSetUp w h bytes → v ≡ w
version_of First First g h bytes s t = refl
version_of First Second g h bytes s t = absurd (differ (sym (word_of First g bytes s) ∙ word_of Second h bytes t))
version_of Second First g h bytes s t = absurd (differ (sym (word_of First h bytes t) ∙ word_of Second g bytes s))
version_of Second Second g h bytes s t = refl

-- and so is the side that is the journal
pub one_presence : (s t : Side) (v w : Version) (g h : ℕ) (files : Files) → IsPresent s v g files → IsPresent t w h files → v ≡ w
one_presence Left Left v w g h files p q = version_of v w g h files.left p.set_up q.set_up
one_presence Right Right v w g h files p q = version_of v w g h files.right p.set_up q.set_up
one_presence Left Right v w g h files p q = let x = p.newer w h q.set_up in let y = q.newer v g p.set_up in absurd (omega (arith, x, y))
one_presence Right Left v w g h files p q = let x = p.newer w h q.set_up in let y = q.newer v g p.set_up in absurd (omega (arith, x, y))

pub one_version : (v w : Version) (bs cs : List (List ℕ)) (files : Files) → Holds v bs files → Holds w cs files → v ≡ w
one_version v w bs cs files a b = one_presence a.side b.side v w a.generation b.generation files a.present b.present
