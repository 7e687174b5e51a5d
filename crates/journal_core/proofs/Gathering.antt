-- Records that are held back, and written together.
use Rattle.std.proofs.Common.{◌≡◌, ℕ, ◌+◌, List, [], ◌∷◌, ◌++◌, length, take, get_or, ◌<◌, refl, sym, ◌∙◌, ap, subst, arith}
use Rattle.std.proofs.Common.{append_assoc, length-append, Result, Ok, Err, OnOk, IfOk}
use Rattle.std.proofs.lemmas.List.{append-nil}
use Rattle.world_traits.specs.Files.{Files}
use Rattle.world_traits.specs.Moments.{Clock}
use Rattle.world_traits.specs.declared.disk.Side.{Side}
use Rattle.journal_core.specs.Records.{open_record, records}
use Rattle.journal_core.specs.Drafts.{Drafts, Gathers}
use Rattle.journal_core.proofs.Creation.{more}
use Rattle.journal_core.proofs.DraftWrites.{drafts_none, drafts_then, drafts_failed, drafts_as}

pub if_ok_more : {T E : Type 0} (r : Result T E) (P Q : T → Type 0) → ((x : T) → P x → Q x) → IfOk r P → IfOk r Q
if_ok_more (Ok x) P Q later p = later x p
if_ok_more (Err e) P Q later p = tt

ok_any : {T E : Type 0} (r : Result T E) (P : Type 0) → P → OnOk r P
ok_any (Ok x) P p = p
ok_any (Err e) P p = tt

-- bytes that are held back alone
pub gathers_held : {X F : Type 0} (side : Side) (at : ℕ) (held more left : List ℕ) (k : Clock) (f : Files) (y : X) → left ≡ held ++ more →
    Gathers {T = X} {E = F} side at held more left k k f f (Ok y)
gathers_held side at held _ left k f y is = record { put = []; is = is; told = drafts_none side at k f y }

-- those that were held back are put, and the others behind them
pub gathers_put : {V E X F : Type 0} (side : Side) (at : ℕ) (held more left : List ℕ) (k l n : Clock) (f g h : Files) (v : V) (r : Result X F) (next : ℕ) →
    next ≡ at + length held → left ≡ [] → Drafts {T = V} {E = E} side at held k l f g (Ok v) → Drafts side next more l n g h r →
    Gathers side at held more left k n f h r
gathers_put side at held more left k l n f g h v r next is none a b = record {
  put = held ++ more;
  is = ok_any r ((held ++ more) ++ left ≡ held ++ more) (ap (λ (b : List ℕ). (held ++ more) ++ b) none ∙ append-nil (held ++ more));
  told = drafts_then side at held more k l n f g h v r next is a b;
}

pub gathers_failed : {X F Y G : Type 0} (side : Side) (at : ℕ) (held more left : List ℕ) (k l : Clock) (f g : Files) (r : Result X F) (s : Result Y G) (e : G) →
    s ≡ Err e → Drafts side at held k l f g r → Gathers side at held more left k l f g s
gathers_failed side at held more left k l f g r s e err a = record {
  put = held;
  is = subst (λ (q : _). OnOk q (held ++ left ≡ held ++ more)) (sym err) tt;
  told = drafts_failed side at held held k l f g r s e err a;
}

join : {X F : Type 0} (r : Result X F) (a b p q one two : List ℕ) → a ++ p ≡ one → OnOk r (b ++ q ≡ p ++ two) → OnOk r ((a ++ b) ++ q ≡ one ++ two)
join (Ok y) a b p q one two first second =
    append_assoc a b q ∙ ap (λ (l : List ℕ). a ++ l) second ∙ sym (append_assoc a p two) ∙ ap (λ (l : List ℕ). l ++ two) first
join (Err e) a b p q one two first second = tt

module _ (side : Side) (at place : ℕ) (one p : List ℕ) (k l n : Clock) (f g h : Files) {V E : Type 0} (v : V)
    (there : place + length p ≡ at + length one) (a : Gathers {T = V} {E = E} side at [] one p k l f g (Ok v)) where
  put_to : place ≡ at + length a.put
  put_to = omega (arith, there, ap length a.is, length-append a.put p)

  -- more behind them
  gathers_then : {X F : Type 0} (two q : List ℕ) (r : Result X F) → Gathers side place p two q l n g h r → Gathers side at [] (one ++ two) q k n f h r
  gathers_then two q r b = record {
    put = a.put ++ b.put;
    is = join r a.put b.put p q one two a.is b.is;
    told = drafts_then side at a.put b.put k l n f g h v r place put_to a.told b.told;
  }

  -- what is held back is put at last
  pub gathers_all : {X F : Type 0} (r : Result X F) → Drafts side place p l n g h r → Drafts side at one k n f h r
  gathers_all r b = drafts_as side at (a.put ++ p) one k n f h r a.is (drafts_then side at a.put p k l n f g h v r place put_to a.told b)

-- one record more of these bodies
pub record_gathers : (bodies : List (List ℕ)) (i : ℕ) (x y : List ℕ) → i < length bodies → x ≡ get_or bodies i x → y ≡ x →
    {V E X F : Type 0} (side : Side) (at place : ℕ) (p q : List ℕ) (k l n : Clock) (f g h : Files) (v : V) (r : Result X F) →
    place + length p ≡ at + length (records (take i bodies)) → Gathers {T = V} {E = E} side at [] (records (take i bodies)) p k l f g (Ok v) →
    Gathers side place p (open_record y) q l n g h r → Gathers side at [] (records (take (i + 1) bodies)) q k n f h r
record_gathers bodies i x y lt is given side at place p q k l n f g h v r there a b =
    subst (λ (b : List ℕ). Gathers side at [] b q k n f h r) (sym (more bodies i x y lt is given))
    (gathers_then side at place (records (take i bodies)) p k l n f g h v there a (open_record y) q r b)
