-- What a SEARCH found: what is read, and what is spelled.
use Rattle.std.proofs.Common.{◌≡◌, ◌≢◌, ◌↔◌, ℕ, zero, suc, ◌≤◌, Bool, true, false, cond, List, [], ◌∷◌, ◌++◌, length, codes, refl, ap}
use Rattle.std.proofs.Common.{sym, ◌∙◌, subst, inl, inr, arith, append_assoc, length-append, Contains, Result, Ok}
use Rattle.std.proofs.lemmas.Bool.Decides.{nat_tests}
use Rattle.std.specs.Prelude.{◌==◌}
use Rattle.std.specs.List.{AllByRecursion}
use Rattle.std.specs.Str.Parse.{IsNumeral}
use Rattle.std.specs.Char.{is_ascii_digit}
use Rattle.uid_sets.specs.UidSet.{Member}
use Rattle.uid_sets.specs.declared.uid.UidRange.{UidRange}
use Rattle.uid_sets.proofs.Ranges.{one_form}
use Rattle.imap_model.specs.Numbers.{IsNonzero, IsModSeq}
use Rattle.imap_model.specs.Searches.{AreNumbers, IsSearchModSeq, IsSearchEnd, IsSetOf, TellsSearch}
use Rattle.imap_model.specs.Words.{AreSpaces, Spaced, Stops, is_word_byte}
use Rattle.imap_model.specs.Values.{is_wide_byte}
use Rattle.imap_model.proofs.Cutting.{Stops as Ends}
use Rattle.imap_response.specs.Leaf.{is_space, gap_at, blank_at, end_at, mark_at, named_at}
use Rattle.imap_response.specs.ReadNumbers.{nonzero_at, modseq_at}
use Rattle.imap_response.specs.Reads.{◌>>=◌}
use Rattle.imap_response.specs.ReadSearches.{begins_with, search_end_at, numbers_from, found_at}
use Rattle.imap_response.specs.Sets.{IsUidNumber, IsIn, set_of_numbers}
use Rattle.imap_response.proofs.spelling.CodeRows.{spaced_ends}
use Rattle.imap_response.proofs.spelling.Names.{IsNamed, named_spells, named_reads}
use Rattle.imap_response.proofs.spelling.Numbers.{IsFront, nonzero_at_spells, nonzero_at_reads, modseq_at_spells, modseq_at_reads, digits_pass}
use Rattle.imap_response.proofs.NumberSets.{place_of, at_place, numbers_canonical, numbers_members}
use Rattle.imap_response.proofs.spelling.Results.{byte_not, len_none, ok_is, ok_either, ok_bind, bind_ok}
use Rattle.imap_response.proofs.spelling.WordLists.{blank_some}
use Rattle.imap_response.proofs.spelling.Words.{gap_spells, gap_reads, mark_spells, mark_reads, end_spells, end_reads, all_spaces, spaces_end, no_space}

-- the mod-sequence and the end
record IsEnd (text : List ℕ) : Type 0 where
  pub modseq : List ℕ
  pub blank : List ℕ
  pub whole : text ≡ modseq ++ blank
  pub is_modseq : IsSearchModSeq modseq
  pub spaces : AreSpaces blank

abbrev at_close : List ℕ → Result (Unit {0}) ℕ
at_close end = end_at end

abbrev at_number : ℕ × List ℕ → Result (Unit {0}) ℕ
at_number modseq = mark_at 41 modseq.1 >>= at_close

abbrev at_after : List ℕ → Result (Unit {0}) ℕ
at_after after = modseq_at after >>= at_number

abbrev at_name : List ℕ → Result (Unit {0}) ℕ
at_name behind = gap_at behind >>= at_after

abbrev at_open : List ℕ → Result (Unit {0}) ℕ
at_open inside = named_at (codes "MODSEQ") inside >>= at_name

end_parts : (name gap digits blank : List ℕ) → 40 ∷ (name ++ (gap ++ (digits ++ (41 ∷ blank)))) ≡ (40 ∷ (name ++ gap ++ digits ++ 41 ∷ [])) ++ blank
end_parts name gap digits blank =
    ap (λ (t : List ℕ). 40 ∷ t) (sym (append_assoc name gap (digits ++ 41 ∷ blank)) ∙ sym (append_assoc (name ++ gap) digits (41 ∷ blank))
    ∙ sym (append_assoc ((name ++ gap) ++ digits) (41 ∷ []) blank))

end_spelled : (text : List ℕ) → search_end_at text ≡ Ok tt → IsEnd text
unfolding search_end_at
end_spelled text is =
    let inside = ok_bind (mark_at 40 text) at_open tt is in
    let behind = ok_bind (named_at (codes "MODSEQ") inside.0) at_name tt inside.2 in
    let after = ok_bind (gap_at behind.0) at_after tt behind.2 in
    let modseq = ok_bind (modseq_at after.0) at_number tt after.2 in
    let end = ok_bind (mark_at 41 modseq.0.1) at_close tt modseq.2 in
    let named = named_spells (codes "MODSEQ") inside.0 behind.0 behind.1 in
    let gap = gap_spells behind.0 after.0 after.1 in
    let front = modseq_at_spells after.0 modseq.0.0 modseq.0.1 modseq.1 in
    record {
      modseq = 40 ∷ (named.word ++ gap.gap ++ front.run ++ 41 ∷ []);
      blank = end.0;
      whole = mark_spells 40 text inside.0 inside.1
          ∙ ap (λ (t : List ℕ). 40 ∷ t) (named.whole ∙ ap (λ (t : List ℕ). named.word ++ t)
          (gap.whole ∙ ap (λ (t : List ℕ). gap.gap ++ t) (front.whole ∙ ap (λ (t : List ℕ). front.run ++ t)
          (mark_spells 41 modseq.0.1 end.0 end.1))))
          ∙ end_parts named.word gap.gap front.run end.0;
      is_modseq = record {
        name = named.word;
        named = named.same;
        gap = gap.gap;
        spaces = gap.spaces;
        digits = front.run;
        modseq =
            modseq.0.0;
        number = front.spells;
        whole = refl;
      };
      spaces = end_spells end.0 end.2;
    }

numeral_solid : (digits more : List ℕ) → IsNumeral 10 digits → Ends is_space (digits ++ more)
numeral_solid [] more numeral = absurd (omega (arith, numeral.0))
numeral_solid (b ∷ digits) more numeral =
    let digit = (digits_pass (b ∷ digits) numeral.1).0 in
    byte_not b 32 (λ e. let fails : is_ascii_digit 32 ≡ true = ap is_ascii_digit (sym e) ∙ digit in cc)

end_read : (text : List ℕ) → IsEnd text → search_end_at text ≡ Ok tt
unfolding search_end_at
end_read text w =
    let m = w.is_modseq in
    let rest : List ℕ = m.digits ++ 41 ∷ w.blank in
    let whole : text ≡ 40 ∷ (m.name ++ (m.gap ++ (m.digits ++ (41 ∷ w.blank)))) =
    w.whole ∙ ap (λ (t : List ℕ). t ++ w.blank) m.whole ∙ sym (end_parts m.name m.gap m.digits w.blank) in
    let spaced : Spaced (m.gap ++ (m.digits ++ 41 ∷ w.blank)) (m.digits ++ 41 ∷ w.blank) =
    record {
      gap = m.gap;
      spaces = m.spaces;
      whole = refl;
      no_more =
          no_space (m.digits ++ 41 ∷ w.blank) (numeral_solid m.digits (41 ∷ w.blank) m.number.0.digits);
    } in
    let named : IsNamed (codes "MODSEQ") (m.name ++ (m.gap ++ (m.digits ++ 41 ∷ w.blank))) (m.gap ++ (m.digits ++ 41 ∷ w.blank)) =
    record {
      word = m.name;
      same = m.named;
      whole = refl;
      ends =
          spaced_ends (m.gap ++ (m.digits ++ 41 ∷ w.blank)) (m.digits ++ 41 ∷ w.blank) spaced;
    } in
    let front : IsFront IsModSeq (m.digits ++ 41 ∷ w.blank) m.modseq (41 ∷ w.blank) = record { run = m.digits; spells = m.number; whole = refl; ends = refl } in
    bind_ok (mark_at 40 text) at_open (m.name ++ (m.gap ++ (m.digits ++ 41 ∷ w.blank))) tt
    (mark_reads 40 text (m.name ++ (m.gap ++ (m.digits ++ 41 ∷ w.blank))) whole)
    (bind_ok (named_at (codes "MODSEQ") (m.name ++ (m.gap ++ (m.digits ++ 41 ∷ w.blank)))) at_name (m.gap ++ (m.digits ++ 41 ∷ w.blank)) tt
    (named_reads (codes "MODSEQ") (m.name ++ (m.gap ++ (m.digits ++ 41 ∷ w.blank))) (m.gap ++ (m.digits ++ 41 ∷ w.blank)) refl named)
    (bind_ok (gap_at (m.gap ++ (m.digits ++ 41 ∷ w.blank))) at_after (m.digits ++ 41 ∷ w.blank) tt
    (gap_reads (m.gap ++ (m.digits ++ 41 ∷ w.blank)) (m.digits ++ 41 ∷ w.blank) spaced)
    (bind_ok (modseq_at (m.digits ++ 41 ∷ w.blank)) at_number (m.modseq, 41 ∷ w.blank) tt
    (modseq_at_reads (m.digits ++ 41 ∷ w.blank) m.modseq (41 ∷ w.blank) front)
    (bind_ok (mark_at 41 (41 ∷ w.blank)) at_close w.blank tt (mark_reads 41 (41 ∷ w.blank) w.blank refl) (end_reads w.blank w.spaces)))))

-- numbers
abbrev Numbers : Type 0
Numbers = List ℕ

abbrev done : Unit {0} → Result Numbers ℕ
done end = Ok []

abbrev onto : ℕ → Numbers → Result Numbers ℕ
onto number numbers = Ok (number ∷ numbers)

abbrev behind_number : ℕ → ℕ × List ℕ → Result Numbers ℕ
behind_number more number = numbers_from more number.1 >>= onto number.0

abbrev behind_gap : ℕ → List ℕ → Result Numbers ℕ
behind_gap more after = cond (begins_with 40 after) (search_end_at after >>= done) (nonzero_at after >>= behind_number more)

numbers_none : (text : List ℕ) → numbers_from zero text ≡ Ok []
unfolding numbers_from
numbers_none text = refl

numbers_is : (more : ℕ) (text : List ℕ) → numbers_from (suc more) text ≡ cond (length (blank_at text) == 0) (Ok []) (gap_at text >>= behind_gap more)
unfolding numbers_from
numbers_is more text = refl

-- the text is numbers and what may stand behind them, and no word goes on in front
record AreTold (text : List ℕ) (numbers : List ℕ) : Type 0 where
  pub later : List ℕ
  pub are : AreNumbers text numbers later
  pub end : IsSearchEnd later
  pub stops : Stops text

space_stops : (gap rest text : List ℕ) → gap ≢ [] → AreSpaces gap → text ≡ gap ++ rest → Stops text
space_stops [] rest text some spaces is = absurd (some refl)
space_stops (b ∷ gap) rest text some spaces is = subst Stops (sym is) (ap is_word_byte spaces.0)

pub spaced_stops : (text rest : List ℕ) → Spaced text rest → Stops text
spaced_stops text rest spaced = space_stops spaced.gap rest text spaced.spaces.0 spaced.spaces.1 spaced.whole

spaces_stop : (text : List ℕ) → AreSpaces text → Stops text
spaces_stop [] spaces = tt
spaces_stop (b ∷ text) spaces = ap is_word_byte spaces.0

none_told : (text numbers : List ℕ) → AreSpaces text → ◌≡◌ {A = Result Numbers ℕ} (Ok []) (Ok numbers) → AreTold text numbers
none_told text numbers spaces is =
    subst (AreTold text) (ok_is [] numbers is) (record { later = text; are = refl; end = inl spaces; stops = spaces_stop text spaces })

modseq_told : (text after numbers : List ℕ) → Spaced text after → IsEnd after → ◌≡◌ {A = Result Numbers ℕ} (Ok []) (Ok numbers) → AreTold text numbers
modseq_told text after numbers spaced end is =
    subst (AreTold text) (ok_is [] numbers is) (record {
      later = text;
      are = refl;
      end = inr (end.modseq, end.blank, subst (Spaced text) end.whole spaced, end.is_modseq, end.spaces);
      stops = spaced_stops text after spaced;
    })

none_left : (text : List ℕ) → length text ≤ 0 → text ≡ []
none_left [] fits = refl
none_left (b ∷ text) fits = absurd (omega arith)

shorter : (text gap after run rest : List ℕ) (n : ℕ) → gap ≢ [] → text ≡ gap ++ after → after ≡ run ++ rest → length text ≤ suc n → length rest ≤ n
shorter text [] after run rest n some whole whole' fits = absurd (some refl)
shorter text (g ∷ gap) after run rest n some whole whole' fits =
    omega (arith, ap length whole, ap length whole', length-append (g ∷ gap) after, length-append run rest)

numbers_spell : (n : ℕ) (text numbers : List ℕ) → length text ≤ n → numbers_from n text ≡ Ok numbers → AreTold text numbers
numbers_spell zero text numbers fits is =
    none_told text numbers (subst AreSpaces (sym (none_left text fits)) tt) (sym (numbers_none text) ∙ is)
numbers_spell (suc more) text numbers fits is = elim (ok_either (length (blank_at text) == 0) (Ok [])
    (gap_at text >>= behind_gap more) numbers (sym (numbers_is more text) ∙ is)) [
      | inl blank ↦ none_told text numbers (all_spaces text (len_none (blank_at text) blank.0)) blank.1
      | inr later ↦
          let after = ok_bind (gap_at text) (behind_gap more) numbers later.1 in
          let spaced = gap_spells text after.0 after.1 in
          elim (ok_either (begins_with 40 after.0) (search_end_at after.0 >>= done) (nonzero_at after.0 >>= behind_number more) numbers after.2) [
            | inl modseq ↦
                let end = ok_bind (search_end_at after.0) done numbers modseq.1 in
                modseq_told text after.0 numbers spaced (end_spelled after.0 end.1) end.2
            | inr number ↦
                let first = ok_bind (nonzero_at after.0) (behind_number more) numbers number.1 in
                let rest = ok_bind (numbers_from more first.0.1) (onto first.0.0) numbers first.2 in
                let front = nonzero_at_spells after.0 first.0.0 first.0.1 first.1 in
                let told = numbers_spell more first.0.1 rest.0
                (shorter text spaced.gap after.0 front.run first.0.1 more spaced.spaces.0 spaced.whole front.whole fits) rest.1 in
                subst (AreTold text) (ok_is (first.0.0 ∷ rest.0) numbers rest.2) (record {
                  later = told.later;
                  are = (front.run, first.0.1, subst (Spaced text) front.whole spaced, front.spells, told.stops, told.are);
                  end = told.end;
                  stops = spaced_stops text after.0 spaced;
                })
          ]
    ]

-- what is spelled is read
narrow : (b : ℕ) → is_word_byte b ≡ false → is_wide_byte b ≡ false
narrow b fails = grind (arith, nat_tests)

pub stops_narrow : (text : List ℕ) → Stops text → Ends is_wide_byte text
stops_narrow [] stops = tt
stops_narrow (b ∷ text) stops = narrow b stops

digits_first : (digits rest : List ℕ) → IsNumeral 10 digits → begins_with 40 (digits ++ rest) ≡ false
digits_first [] rest numeral = absurd (omega (arith, numeral.0))
digits_first (b ∷ digits) rest numeral =
    let digit = (digits_pass (b ∷ digits) numeral.1).0 in
    byte_not b 40 (λ e. let fails : is_ascii_digit 40 ≡ true = ap is_ascii_digit (sym e) ∙ digit in cc)

some_append : (digits rest : List ℕ) → IsNumeral 10 digits → digits ++ rest ≢ []
some_append [] rest numeral is = omega (arith, numeral.0)
some_append (b ∷ digits) rest numeral is = cc

end_some : (modseq blank : List ℕ) → IsSearchModSeq modseq → (modseq ++ blank ≢ []) × (begins_with 40 (modseq ++ blank) ≡ true)
end_some modseq blank m =
    let whole : modseq ++ blank ≡ 40 ∷ ((m.name ++ m.gap ++ m.digits ++ 41 ∷ []) ++ blank) = ap (λ (t : List ℕ). t ++ blank) m.whole in
    ((λ is. let no : 40 ∷ ((m.name ++ m.gap ++ m.digits ++ 41 ∷ []) ++ blank) ≡ [] = sym whole ∙ is in cc), ap (begins_with 40) whole)

gap_none : (text gap after : List ℕ) → text ≡ gap ++ after → length text ≤ 0 → gap ≡ []
gap_none text [] after whole fits = refl
gap_none text (g ∷ gap) after whole fits = absurd (omega (arith, ap length whole, length-append (g ∷ gap) after))

end_reads_by : (n : ℕ) (text : List ℕ) → length text ≤ n → IsSearchEnd text → numbers_from n text ≡ Ok []
end_reads_by zero text fits end = numbers_none text
end_reads_by (suc more) text fits (inl spaces) = numbers_is more text ∙ (let none = spaces_end text spaces in rw none refl)
end_reads_by (suc more) text fits (inr told) =
    let first = end_some told.0 told.1 told.3 in
    let end = end_read (told.0 ++ told.1) (record { modseq = told.0; blank = told.1; whole = refl; is_modseq = told.3; spaces = told.4 }) in
    let some = blank_some text (told.0 ++ told.1) told.2 first.0 in
    let test = first.1 in
    numbers_is more text ∙ rw some (bind_ok (gap_at text) (behind_gap more) (told.0 ++ told.1) [] (gap_reads text (told.0 ++ told.1) told.2)
    (ap (λ (t : Bool). cond t (search_end_at (told.0 ++ told.1) >>= done) (nonzero_at (told.0 ++ told.1) >>= behind_number more)) test
    ∙ bind_ok (search_end_at (told.0 ++ told.1)) done tt [] end refl))

numbers_read : (numbers : List ℕ) (n : ℕ) (text later : List ℕ) → length text ≤ n → AreNumbers text numbers later → IsSearchEnd later →
    numbers_from n text ≡ Ok numbers
numbers_read [] n text later fits are end = end_reads_by n text fits (subst IsSearchEnd (sym are) end)
numbers_read (number ∷ numbers) zero text later fits are end = absurd (are.2.spaces.0 (gap_none text are.2.gap (are.0 ++ are.1) are.2.whole fits))
numbers_read (number ∷ numbers) (suc more) text later fits are end =
    let spaced = are.2 in
    let front : IsFront IsNonzero (are.0 ++ are.1) number are.1 = record { run = are.0; spells = are.3; whole = refl; ends = stops_narrow are.1 are.4 } in
    let some = blank_some text (are.0 ++ are.1) spaced (some_append are.0 are.1 are.3.0.digits) in
    let test = digits_first are.0 are.1 are.3.0.digits in
    let rest = numbers_read numbers more are.1 later (shorter text spaced.gap
    (are.0 ++ are.1) are.0 are.1 more spaced.spaces.0 spaced.whole refl fits) are.5 end in
    numbers_is more text ∙ rw some (bind_ok (gap_at text) (behind_gap more) (are.0 ++ are.1) (number ∷ numbers) (gap_reads text (are.0 ++ are.1) spaced)
    (ap (λ (t : Bool). cond t (search_end_at (are.0 ++ are.1) >>= done) (nonzero_at (are.0 ++ are.1) >>= behind_number more)) test
    ∙ bind_ok (nonzero_at (are.0 ++ are.1)) (behind_number more) (number, are.1) (number ∷ numbers) (nonzero_at_reads (are.0 ++ are.1) number are.1 front)
    (bind_ok (numbers_from more are.1) (onto number) numbers (number ∷ numbers) rest refl)))

-- the set of the numbers
are_uids : (numbers text later : List ℕ) → AreNumbers text numbers later → AllByRecursion IsUidNumber numbers
are_uids [] text later are = tt
are_uids (number ∷ numbers) text later are = ((are.3.1, omega (arith, are.3.0.fits)), are_uids numbers are.1 later are.5)

contains_is : (numbers : List ℕ) (uid : ℕ) → Contains numbers uid ↔ IsIn numbers uid
contains_is numbers uid = (λ c. at_place numbers c.0 uid c.1 c.2, place_of numbers uid)

members_are : (numbers : List ℕ) (uid : ℕ) → AllByRecursion IsUidNumber numbers → Member (set_of_numbers numbers) uid ↔ Contains numbers uid
members_are numbers uid all =
    let mine = numbers_members numbers uid all in
    let listed = contains_is numbers uid in
    (λ m. listed.1 (mine.0 m), λ c. mine.1 (listed.0 c))

set_is : (numbers : List ℕ) → AllByRecursion IsUidNumber numbers → IsSetOf (set_of_numbers numbers) numbers
set_is numbers all = record { canonical = numbers_canonical numbers all; members = λ uid. members_are numbers uid all }

is_set : (numbers : List ℕ) (uids : List UidRange) → AllByRecursion IsUidNumber numbers → IsSetOf uids numbers → set_of_numbers numbers ≡ uids
is_set numbers uids all set = one_form 0 (set_of_numbers numbers) uids (numbers_canonical numbers all) set.canonical (λ uid.
    let mine = members_are numbers uid all in
    let told = set.members uid in
    (λ m. told.1 (mine.0 m), λ m. mine.1 (told.0 m)))

abbrev put_set : List ℕ → Result (List UidRange) ℕ
put_set numbers = Ok (set_of_numbers numbers)

pub found_spells : (text : List ℕ) (uids : List UidRange) → found_at text ≡ Ok uids → TellsSearch text uids
unfolding found_at
found_spells text uids is =
    let numbers = ok_bind (numbers_from (length text) text) put_set uids is in
    let told = numbers_spell (length text) text numbers.0 (omega arith) numbers.1 in
    subst (TellsSearch text) (ok_is (set_of_numbers numbers.0) uids numbers.2)
    (numbers.0, told.later, told.are, told.end, set_is numbers.0 (are_uids numbers.0 text told.later told.are))

pub found_reads : (text : List ℕ) (uids : List UidRange) → TellsSearch text uids → found_at text ≡ Ok uids
unfolding found_at
found_reads text uids tells =
    bind_ok (numbers_from (length text) text) put_set tells.0 uids (numbers_read tells.0 (length text) text tells.1 (omega arith) tells.2 tells.3)
    (ap (λ (u : List UidRange). Ok u) (is_set tells.0 uids (are_uids tells.0 text tells.1 tells.2) tells.4))
