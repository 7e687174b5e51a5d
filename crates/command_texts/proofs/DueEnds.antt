-- Where a part ends: behind the octets that are due, at the first CRLF.
use Rattle.std.proofs.Common.{◌≡◌, ℕ, ◌+◌, ◌<◌, ◌≤◌, List, [], ◌∷◌, ◌++◌, length, take, drop, refl, sym, ◌∙◌, ap, subst, arith}
use Rattle.std.proofs.Common.{length-append, length-take, append_assoc}
use Rattle.std.proofs.Math.Seq.{take-add}
use Rattle.std.specs.Prelude.{min}
use Rattle.std.specs.Str.Parse.{IsNumeral, digits_value}
use Rattle.std.proofs.lemmas.List.{append_cancel_right}
use Rattle.mail_base.specs.Frames.{header}
use Rattle.command_texts.specs.Cutting.{crlf, Announces, IsDue, NoCrlf, IsPart, NoPart}
use Rattle.command_texts.specs.DueOctets.{TellsDue}
use Rattle.command_texts.proofs.HeaderEnds.{same_header}

-- behind no part
pub none_yet : TellsDue [] 0
none_yet = record { octets = 0; due = refl; only = λ other is. is; count = refl }

-- behind a part that announces none
pub tells_none : (part : List ℕ) → ((digits : List ℕ) → Announces part digits → ⊥) → TellsDue (part ∷ []) 0
tells_none part none = record {
  octets = 0;
  due = (λ digits announces. absurd (none digits announces), λ _. refl);
  only = λ other is. is.1 none;
  count = refl;
}

pub no_line : (part : List ℕ) → ((front : List ℕ) → part ≡ front ++ crlf → ⊥) → TellsDue (part ∷ []) 0
no_line part none = tells_none part (λ digits announces. none (announces.front ++ header digits) announces.text)

pub no_header : (part line : List ℕ) → part ≡ line ++ crlf →
    ((front digits : List ℕ) → IsNumeral 10 digits → line ≡ front ++ header digits → ⊥) → TellsDue (part ∷ []) 0
no_header part line cut none = tells_none part (λ digits announces. none announces.front digits announces.number
    (append_cancel_right line (announces.front ++ header digits) crlf (sym cut ∙ announces.text)))

-- behind one that ends with a header
pub tells_header : (part line front digits : List ℕ) (told : ℕ) → part ≡ line ++ crlf → IsNumeral 10 digits → line ≡ front ++ header digits
    → told ≡ min (digits_value 10 digits) 18446744073709551615 → TellsDue (part ∷ []) told
tells_header part line front digits told cut numeral is count =
    let here : Announces part digits = record { front = front; number = numeral; text = cut ∙ ap (λ (t : List ℕ). t ++ crlf) is } in
    record {
      octets = digits_value 10 digits;
      due = (
        λ others announces. ap (digits_value 10) (same_header front announces.front digits others numeral.1 announces.number.1
            (append_cancel_right (front ++ header digits) (announces.front ++ header others) crlf (sym here.text ∙ announces.text))),
        λ none. absurd (none digits here),
      );
      only = λ other due. due.0 digits here;
      count = count;
    }

-- what is due is said of the last part alone
due_to : (before : List (List ℕ)) (part : List ℕ) (octets : ℕ) → IsDue (part ∷ []) octets → IsDue (before ++ part ∷ []) octets
due_to [] part octets due = due
due_to (x ∷ []) part octets due = due
due_to (x ∷ y ∷ before) part octets due = due_to (y ∷ before) part octets due

due_from : (before : List (List ℕ)) (part : List ℕ) (octets : ℕ) → IsDue (before ++ part ∷ []) octets → IsDue (part ∷ []) octets
due_from [] part octets due = due
due_from (x ∷ []) part octets due = due
due_from (x ∷ y ∷ before) part octets due = due_from (y ∷ before) part octets due

pub tells_last : (parts before : List (List ℕ)) (part : List ℕ) (told : ℕ) → parts ≡ before ++ part ∷ [] → TellsDue (part ∷ []) told → TellsDue parts told
tells_last parts before part told is tells = subst (λ (l : List (List ℕ)). TellsDue l told) (sym is) (record {
  octets = tells.octets;
  due = due_to before part tells.octets tells.due;
  only = λ other due. tells.only other (due_from before part other due);
  count = tells.count;
})

drop_front : (front rest : List ℕ) → drop (length front) (front ++ rest) ≡ rest
drop_front [] rest = refl
drop_front (x ∷ front) rest = drop_front front rest

-- what a part in front of the bytes is made of
split : (before : List (List ℕ)) (bytes part rest : List ℕ) (is : IsPart before part) → bytes ≡ part ++ rest → bytes ≡ is.octets ++ (is.line ++ 13 ∷ 10 ∷ rest)
split before bytes part rest is whole =
    whole ∙ ap (λ (t : List ℕ). t ++ rest) is.text ∙ append_assoc (is.octets ++ is.line) crlf rest ∙ append_assoc is.octets is.line (13 ∷ 10 ∷ rest)

-- fewer bytes than are due are no part
pub too_short : (before : List (List ℕ)) (bytes : List ℕ) (due : ℕ) → TellsDue before due → length bytes < 18446744073709551616 →
    length bytes ≤ due → NoPart before bytes
too_short before bytes due tells fits short part rest is whole =
    omega (
      arith,
      ap length (split before bytes part rest is whole),
      length-append is.octets (is.line ++ 13 ∷ 10 ∷ rest),
      length-append is.line (13 ∷ 10 ∷ rest),
      tells.only (length is.octets) is.due,
      tells.count,
      fits,
      short,
    )

-- nor are those without a CRLF behind them
pub no_end : (before : List (List ℕ)) (bytes : List ℕ) (due : ℕ) → TellsDue before due → length bytes < 18446744073709551616 →
    due < length bytes → NoCrlf (drop due bytes) → NoPart before bytes
no_end before bytes due tells fits long none part rest is whole =
    let same : due ≡ length is.octets = omega (arith, tells.only (length is.octets) is.due, tells.count, fits, long) in
    none is.line rest (ap (λ (n : ℕ). drop n bytes) same ∙ ap (drop (length is.octets)) (split before bytes part rest is whole)
    ∙ drop_front is.octets (is.line ++ 13 ∷ 10 ∷ rest))

-- up to the first CRLF behind what is due, they are one
pub whole_part : (before : List (List ℕ)) (bytes line : List ℕ) (due end : ℕ) → TellsDue before due → length bytes < 18446744073709551616 → due < length bytes
    → NoCrlf line → take end (drop due bytes) ≡ line ++ crlf → IsPart before (take (due + end) bytes)
whole_part before bytes line due end tells fits long plain cut = record {
  octets = take due bytes;
  line = line;
  due = let same : tells.octets ≡ length (take due bytes) = omega (arith, tells.count, fits, long, length-take due bytes) in
      subst (IsDue before) same tells.due;
  plain = plain;
  text = take-add due end bytes ∙ ap (λ (t : List ℕ). take due bytes ++ t) cut ∙ sym (append_assoc (take due bytes) line crlf);
}
