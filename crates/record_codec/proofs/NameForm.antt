-- The test of a mailbox's name says what a name is.
use Rattle.std.proofs.Common.{◌≡◌, ◌≢◌, ◌≤◌, ℕ, Bool, true, false, not, ◌&&◌, ◌||◌, List, length, map, codes, leb, ltb, refl, arith}
use Rattle.std.specs.Prelude.{All}
use Rattle.std.specs.Bool.{Decides}
use Rattle.std.specs.List.{list_all}
use Rattle.std.specs.Str.{bytes_eq}
use Rattle.std.specs.Char.{to_ascii_lowercase}
use Rattle.std.proofs.lemmas.Bool.Decides.{nat_tests, Decides-like, Decides-and, Decides-ltb, Decides-by_and}
use Rattle.std.proofs.lemmas.Bool.{leb-true, le-leb}
use Rattle.std.proofs.lemmas.Slice.Eq.{bytes_eq-Decides}
use Rattle.mail_base.specs.BoxName.{IsNameByte, IsBoxName}
use Rattle.record_codec.specs.Reading.{is_name_byte, is_name}

pub Decides-leb : (a b : ℕ) → Decides (leb a b) (a ≤ b)
Decides-leb a b = (leb-true a b, le-leb a b)

name_byte-true : (b : ℕ) → is_name_byte b ≡ true → IsNameByte b
name_byte-true b is = record {
  low = grind (arith, nat_tests);
  high = grind (arith, nat_tests);
  quote = grind (arith, nat_tests);
  percent = grind (arith, nat_tests);
  ampersand = grind (arith, nat_tests);
  star = grind (arith, nat_tests);
  backslash = grind (arith, nat_tests);
}

name_byte-holds : (b : ℕ) → IsNameByte b → is_name_byte b ≡ true
name_byte-holds b h =
    let low : 32 ≤ b = h.low in
    let high : b ≤ 126 = h.high in
    let q : b ≢ 34 = h.quote in
    let p : b ≢ 37 = h.percent in
    let a : b ≢ 38 = h.ampersand in
    let s : b ≢ 42 = h.star in
    let k : b ≢ 92 = h.backslash in
    grind (arith, nat_tests)

name_byte-Decides : (b : ℕ) → Decides (is_name_byte b) (IsNameByte b)
name_byte-Decides b = (name_byte-true b, name_byte-holds b)

all-Decides : (text : List ℕ) → Decides (list_all is_name_byte text) (All IsNameByte text)
all-Decides = Decides-by_and is_name_byte IsNameByte (list_all is_name_byte) name_byte-Decides refl (λ _ _. refl)

capitals-true : (a b : Bool) {P Q : Type 0} → Decides a P → Decides b Q → (not a || b) ≡ true → P → Q
capitals-true true b d e is p = e.0 is
capitals-true false b d e is p = absurd (let t = d.1 p in cc)

capitals-holds : (a b : Bool) {P Q : Type 0} → Decides a P → Decides b Q → (P → Q) → (not a || b) ≡ true
capitals-holds true b d e h = e.1 (h (d.0 refl))
capitals-holds false b d e h = refl

capitals-Decides : (a b : Bool) {P Q : Type 0} → Decides a P → Decides b Q → Decides (not a || b) (P → Q)
capitals-Decides a b d e = (capitals-true a b d e, capitals-holds a b d e)

-- the test says exactly whether the text is a name as it is kept
pub is_name-Decides : (text : List ℕ) → Decides (is_name text) (IsBoxName text)
is_name-Decides text =
    let some = ltb 0 (length text) in
    let few = leb (length text) 128 in
    let bytes = list_all is_name_byte text in
    let inbox = bytes_eq (map to_ascii_lowercase text) (codes "inbox") in
    let capitals = bytes_eq text (codes "INBOX") in
    Decides-like (is_name text)
    (λ p. record { text = record { some = p.0.0.0; few = p.0.0.1; bytes = p.0.1 }; capitals = p.1 })
    (λ n. (((n.text.some, n.text.few), n.text.bytes), n.capitals))
    (Decides-and ((some && few) && bytes) (not inbox || capitals)
    (Decides-and (some && few) bytes (Decides-and some few (Decides-ltb 0 (length text)) (Decides-leb (length text) 128)) (all-Decides text))
    (capitals-Decides inbox capitals (bytes_eq-Decides (map to_ascii_lowercase text) (codes "inbox")) (bytes_eq-Decides text (codes "INBOX"))))
