-- What is such a front is the front of a command's text: returns, which only a literal can carry, may come behind it.
use Rattle.std.proofs.Common.{◌≡◌, ℕ, zero, suc, ◌<◌, ◌^◌, Bool, true, false, not, ◌&&◌, nat_lt, Contains, List, [], ◌∷◌, ◌++◌, length}
use Rattle.std.proofs.Common.{get_or, codes, refl, ap, sym, ◌∙◌, arith}
use Rattle.std.specs.List.{list_all, AllByRecursion}
use Rattle.std.specs.Str.{IsUtf8, str_eq_ignore_ascii_case}
use Rattle.std.proofs.lemmas.Str.{IsUtf8-from_ascii, IsUtf8-nil}
use Rattle.mail_base.specs.declared.tag.Tag.{Tag}
use Rattle.imap_model.specs.Astring.{is_bare, is_quotable, literal, astring_parts}
use Rattle.imap_model.specs.CommandText.{IsCarried}
use Rattle.imap_model.specs.Held.{IsHeld}
use Rattle.imap_model.specs.OneText.{IsText}
use Rattle.imap_model.specs.declared.command.Command.{Command}
use Rattle.command_texts.specs.AwaitedParts.{Awaited, Response, User, Password, Id, Message, IsHeldFront, IsFrontOf, append_at}
use Rattle.command_texts.specs.HeardParts.{IsFront, append_of}
use Rattle.command_texts.proofs.Leading.{Awaits, octets_of, filled, filled_is, awaited_text, tail, next_of, behind_of}

-- so many returns
abbrev pub returns : ℕ → List ℕ
returns zero = []
returns (suc n) = 13 ∷ returns n

returns_len : (n : ℕ) → length (returns n) ≡ n
returns_len zero = refl
returns_len (suc n) = ap suc (returns_len n)

returns_bytes : (n : ℕ) → AllByRecursion (λ byte. byte < 256) (returns n)
returns_bytes zero = tt
returns_bytes (suc n) = (omega arith, returns_bytes n)

returns_small : (n k : ℕ) → get_or (returns n) k 0 < 128
returns_small zero k = omega arith
returns_small (suc n) zero = omega arith
returns_small (suc n) (suc k) = returns_small n k

returns_at : (n k : ℕ) → k < length (returns n) → get_or (returns n) k 0 ≡ 13
returns_at zero k within = absurd (omega (arith, within))
returns_at (suc n) zero within = refl
returns_at (suc n) (suc k) within = returns_at n k (omega (arith, within))

returns_plain : (n : ℕ) → ¬ (Contains (returns n) 0)
returns_plain n (k, within, is) = let e : ◌≡◌ {A = ℕ} 13 0 = sym (returns_at n k within) ∙ is in omega arith

nothing_plain : ¬ (Contains {X = ℕ} [] 0)
nothing_plain (k, within, is) = omega (arith, within)

returns_utf8 : (n : ℕ) → IsUtf8 (returns n)
returns_utf8 n = IsUtf8-from_ascii (returns n) (returns_small n)

returns_text : (n : ℕ) → n < 2 ^ 64 → IsText (returns n)
returns_text n fits = record { each = returns_bytes n; short = omega (arith, returns_len n, fits) }

nothing_text : IsText []
nothing_text = record { each = tt; short = omega arith }

and_false : (x : Bool) → (x && false) ≡ false
and_false true = refl
and_false false = refl

literal_from : (bytes : List ℕ) → is_bare bytes ≡ false → list_all is_quotable bytes ≡ false → astring_parts bytes ≡ literal bytes
literal_from bytes is is' = rw (is, is') refl

-- returns are no atom, and stand in no quotes
returns_literal : (n : ℕ) → 0 < n → astring_parts (returns n) ≡ literal (returns n)
returns_literal zero some = absurd (omega (arith, some))
returns_literal (suc n) some =
    literal_from (returns (suc n)) (and_false (nat_lt 0 (length (returns (suc n))) && not (str_eq_ignore_ascii_case (returns (suc n)) (codes "NIL")))) refl

-- so many returns are awaited by a front that a program can hold
returns_awaited : (awaited : Awaited) → IsHeldFront awaited → Awaits awaited (returns (octets_of awaited))
returns_awaited Response held = tt
returns_awaited (User n) held = (returns_len n, returns_literal n held.some)
returns_awaited (Password user n) held = (returns_len n, returns_literal n held.1.some)
returns_awaited (Id from n) held = (returns_len n, returns_literal n held.1.some)
returns_awaited (Message to flags n) held = returns_len n

-- a program can hold the command with these returns
returns_held : (awaited : Awaited) → IsHeldFront awaited → IsHeld (filled awaited (returns (octets_of awaited)))
returns_held Response held = record {
  kept = record {
    plain =
        record { user_has_none = nothing_plain; password_has_none = nothing_plain };
    user = nothing_text;
    password = nothing_text;
  };
  user =
      IsUtf8-nil;
  password = IsUtf8-nil;
}
returns_held (User n) held = record {
  kept = record {
    plain =
        record { user_has_none = returns_plain n; password_has_none = nothing_plain };
    user = returns_text n held.fits;
    password =
        nothing_text;
  };
  user = returns_utf8 n;
  password = IsUtf8-nil;
}
returns_held (Password user n) held = record {
  kept = record {
    plain =
        record { user_has_none = held.0.plain; password_has_none = returns_plain n };
    user = held.0.text;
    password =
        returns_text n held.1.fits;
  };
  user = held.0.utf8;
  password = returns_utf8 n;
}
returns_held (Id from n) held = (held.0, returns_text n held.1.fits)
returns_held (Message to flags n) held = (held.0, held.1, returns_text n held.2)

returns_carried : (awaited : Awaited) → IsCarried (filled awaited (returns (octets_of awaited)))
returns_carried Response = tt
returns_carried (User n) = tt
returns_carried (Password user n) = tt
returns_carried (Id from n) = returns_plain n
returns_carried (Message to flags n) = tt

append_is : (awaited : Awaited) (octets : List ℕ) → append_of (filled awaited octets) ≡ append_at awaited
append_is Response octets = refl
append_is (User n) octets = refl
append_is (Password user n) octets = refl
append_is (Id from n) octets = refl
append_is (Message to flags n) octets = refl

-- behind such a front another part of some command's text may come
pub front_is : (tag : Tag) (awaited : Awaited) (parts : List (List ℕ)) → IsFrontOf tag awaited parts
    → (command : Command) × IsFront tag command parts × (append_of command ≡ append_at awaited)
front_is tag awaited parts is =
    let octets = returns (octets_of awaited) in
    let command = filled awaited octets in
    let next = next_of (awaited_text awaited octets) (tail awaited) in
    let behind = behind_of (tail awaited) in (
      command,
      record {
        sent = record {
          writable = record { tagged = is.tagged; carried = returns_carried awaited };
          tag_fits = is.tag_fits;
          held =
              returns_held awaited is.held;
        };
        next = next;
        behind = behind;
        text = filled_is tag awaited octets (returns_awaited awaited is.held) ∙ ap (λ p. p ++ next ∷ behind) is.text;
      },
      append_is awaited octets,
    )
