-- Flags whose bytes come again are the same flags.
use Rattle.std.proofs.Common.{◌≡◌, ℕ, ◌-◌, true, List, ◌++◌, length, take, drop, Ok, sym, ap, ◌∙◌, arith, take-append-drop, length-append}
use Rattle.std.proofs.Math.Seq.{take-append_seam}
use Rattle.std.specs.Str.{bytes_eq}
use Rattle.std.proofs.lemmas.Slice.Eq.{bytes_eq-Decides}
use Rattle.record_codec.specs.Fields.{flag_field}
use Rattle.record_codec.specs.Reading.{AreBytes, flags_at}
use Rattle.record_codec.specs.Spelling.{SpellFlags}
use Rattle.record_codec.proofs.Items.{flags_read, flags_reads}

-- bytes that begin as a text that spells flags are read as these
pub read_again : (bytes text rest : List ℕ) (flags copy : List (List ℕ)) → SpellFlags text flags → bytes_eq (take (length text) bytes) text ≡ true →
    rest ≡ drop (length text) bytes → copy ≡ flags → flags_at 0 bytes ≡ Ok (copy, rest)
read_again bytes text rest flags copy spell same behind is =
    let front : take (length text) bytes ≡ text = (bytes_eq-Decides (take (length text) bytes) text).0 same in
    let whole : bytes ≡ flag_field flags ++ rest =
    sym (take-append-drop (length text) bytes) ∙ ap (λ (l : List ℕ). l ++ drop (length text) bytes) (front ∙ spell.spelled)
    ∙ ap (λ (l : List ℕ). flag_field flags ++ l) (sym behind) in
    rw (whole, is) (flags_read 0 flags rest (record { set = spell.set; some = omega arith; few = spell.few }))

front_of : (front rest : List ℕ) → take (length (front ++ rest) - length rest) (front ++ rest) ≡ front
front_of front rest =
    let size : length (front ++ rest) - length rest ≡ length front = omega (arith, length-append front rest) in
    ap (λ (n : ℕ). take n (front ++ rest)) size ∙ take-append_seam front rest

-- the bytes of flags that were read spell them
pub spell_last : (bytes text rest : List ℕ) (flags copy : List (List ℕ)) → AreBytes bytes → flags_at 0 bytes ≡ Ok (flags, rest) →
    text ≡ take (length bytes - length rest) bytes → copy ≡ flags → SpellFlags text copy
spell_last bytes text rest flags copy clean read front is =
    let was = flags_reads 0 bytes (flags, rest) clean read in
    rw is (record {
      spelled = front ∙ ap (λ (l : List ℕ). take (length l - length rest) l) was.is ∙ front_of (flag_field flags) rest;
      set = was.kept.set;
      few = was.kept.few;
    })
