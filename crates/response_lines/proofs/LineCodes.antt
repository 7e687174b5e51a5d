-- Codes as they are written between brackets, and what they spell.
use Rattle.std.proofs.Common.{◌≡◌, ℕ, ◌<◌, ◌^◌, Bool, true, false, List, [], ◌∷◌, ◌++◌, refl, sym, ◌∙◌, ap, subst, arith, map, decimal, inl, inr}
use Rattle.std.proofs.lemmas.Bool.{and_parts}
use Rattle.std.proofs.lemmas.Bool.Decides.{nat_tests}
use Rattle.std.proofs.lemmas.List.{append-nil}
use Rattle.std.specs.Prelude.{◌≢◌, ◌==◌, IsTrue, codes}
use Rattle.std.specs.List.{AllByRecursion, list_all}
use Rattle.flag_set.specs.FlagSet.{IsFlagSet}
use Rattle.uid_sets.specs.Spelling.{set_text}
use Rattle.uid_sets.specs.UidSet.{IsCanonical}
use Rattle.uid_sets.specs.declared.uid.UidRange.{UidRange}
use Rattle.uid_sets.proofs.RoundTrip.{set_spells, some_of}
use Rattle.imap_model.specs.Codes.{HasName, HasArgument, IsSplit}
use Rattle.imap_model.specs.Strings.{BeginsQuoted}
use Rattle.imap_model.specs.TextParts.{Stretch, Single, Encloses, HasInner, IsTextPart}
use Rattle.imap_model.specs.Values.{is_wide_byte}
use Rattle.imap_model.specs.Words.{Stops, is_word_byte}
use Rattle.imap_model.specs.declared.code.Code.{Code}
use Rattle.imap_model.specs.declared.code.Code.TheVariants as codings
use Rattle.imap_model.specs.declared.ending.Ending.{Ending}
use Rattle.imap_model.specs.declared.ending.Ending.TheVariants as endings
use Rattle.response_lines.specs.Bracketed.{is_inner_byte, IsInside, FitsBrackets}
use Rattle.response_lines.specs.LineTexts.{◌⌢◌, code_text, inner_text, permanent_text, words_text}
use Rattle.response_lines.specs.Tellable.{IsAtomic, LacksRecent}
use Rattle.response_lines.proofs.LineFlags.{permanent_inner, permanent_spelled}
use Rattle.response_lines.proofs.LineNumbers.{decimal_all, decimal_some, digit_inner, digit_word, a_nonzero, a_modseq, set_inner}
use Rattle.response_lines.proofs.LineNumbers.{set_some, set_word, words_inner, words_spell}
use Rattle.response_lines.proofs.PlainLines.{IsUnspaced, is_quiet_byte, all_each, all_join, begins_unspaced, inner_quiet, one_space, quiet_text, word_unspaced}

-- a name that ends at a space, and the argument behind it
split_at : (name rest : List ℕ) → list_all is_wide_byte name ≡ true → IsSplit (name ++ 32 ∷ rest) name (32 ∷ rest)
split_at name rest h = record { wide = all_each is_wide_byte (λ byte. IsTrue (is_wide_byte byte)) (λ b is. is) name h; whole = refl; ends = refl }

has_argument : (name rest : List ℕ) → list_all is_wide_byte name ≡ true → IsUnspaced rest → HasArgument (name ++ 32 ∷ rest) name rest
has_argument name rest h none = (32 ∷ rest, (name, refl, split_at name rest h), one_space rest none)

-- a name alone
has_name : (name : List ℕ) → list_all is_wide_byte name ≡ true → HasName name name []
has_name name h = (
  name,
  refl,
  record {
    wide = all_each is_wide_byte (λ byte. IsTrue (is_wide_byte byte)) (λ b is. is) name h;
    whole =
        sym (append-nil name);
    ends = tt;
  },
)

pub number_unspaced : (n : ℕ) (more : List ℕ) → n < 2 ^ 64 → IsUnspaced (decimal n ++ more)
number_unspaced n more h = word_unspaced (decimal n) more (decimal_some n h) (decimal_all is_word_byte digit_word n h)

number_alone : (n : ℕ) → n < 2 ^ 64 → IsUnspaced (decimal n)
number_alone n h = subst IsUnspaced (append-nil (decimal n)) (number_unspaced n [] h)

set_unspaced : (uids : List UidRange) (more : List ℕ) → IsCanonical uids → uids ≢ [] → IsUnspaced (set_text uids ++ more)
set_unspaced uids more is some = word_unspaced (set_text uids) more (set_some uids is some) (set_word uids is)

pub set_alone : (uids : List UidRange) → IsCanonical uids → uids ≢ [] → IsUnspaced (set_text uids)
set_alone uids is some = subst IsUnspaced (append-nil (set_text uids)) (set_unspaced uids [] is some)

number_inner : (n : ℕ) → n < 2 ^ 64 → list_all is_inner_byte (decimal n) ≡ true
number_inner n h = decimal_all is_inner_byte digit_inner n h

-- each code
pub inside_uidnext : (uid : ℕ) → 0 < uid → uid < 2 ^ 32 → IsInside (inner_text endings.Ok (codings.UidNext uid)) (codings.UidNext uid)
unfolding ◌⌢◌
inside_uidnext uid some h = record {
  plain = number_inner uid (omega arith);
  spells = (decimal uid, has_argument (codes "UIDNEXT") (decimal uid) refl (number_alone uid (omega arith)), a_nonzero uid some h);
}

pub inside_validity : (validity : ℕ) → 0 < validity → validity < 2 ^ 32 →
    IsInside (inner_text endings.Ok (codings.UidValidity validity)) (codings.UidValidity validity)
unfolding ◌⌢◌
inside_validity validity some h = record {
  plain = number_inner validity (omega arith);
  spells = (decimal validity, has_argument (codes "UIDVALIDITY") (decimal validity) refl (number_alone validity (omega arith)), a_nonzero validity some h);
}

pub inside_highest : (modseq : ℕ) → 0 < modseq → modseq < 2 ^ 63 →
    IsInside (inner_text endings.Ok (codings.HighestModSeq modseq)) (codings.HighestModSeq modseq)
unfolding ◌⌢◌
inside_highest modseq some h = record {
  plain = number_inner modseq (omega arith);
  spells = (decimal modseq, has_argument (codes "HIGHESTMODSEQ") (decimal modseq) refl (number_alone modseq (omega arith)), a_modseq modseq some h);
}

pub inside_capability : (words : List (List ℕ)) → words ≢ [] → AllByRecursion IsAtomic words →
    IsInside (inner_text endings.Ok (codings.Capability words)) (codings.Capability words)
unfolding ◌⌢◌
inside_capability [] some all = absurd (some refl)
inside_capability (word ∷ words) some all = record {
  plain = words_inner (word ∷ words) all;
  spells = (
    some,
    words_text (word ∷ words),
    (codes "CAPABILITY", refl, split_at (codes "CAPABILITY") (word ++ words_text words) refl),
    words_spell (word ∷ words) all,
  );
}

pub inside_permanent : (keys : List (List ℕ)) (any : Bool) → IsFlagSet keys → LacksRecent keys →
    IsInside (inner_text endings.Ok (codings.PermanentFlags keys any)) (codings.PermanentFlags keys any)
unfolding ◌⌢◌
inside_permanent keys any set lacks = record {
  plain = all_join is_inner_byte (permanent_text keys any) (41 ∷ []) (permanent_inner keys any set.flags) refl;
  spells = (
    permanent_text keys any,
    has_argument (codes "PERMANENTFLAGS") (40 ∷ (permanent_text keys any ++ 41 ∷ [])) refl (begins_unspaced 40 (permanent_text keys any ++ 41 ∷ []) refl),
    permanent_spelled keys any set lacks,
  );
}

pub inside_append : (validity uid : ℕ) → 0 < validity → validity < 2 ^ 32 → 0 < uid → uid < 2 ^ 32 →
    IsInside (inner_text endings.Ok (codings.AppendUid validity uid)) (codings.AppendUid validity uid)
unfolding ◌⌢◌
inside_append validity uid some h some' k = record {
  plain = all_join is_inner_byte (decimal validity) (32 ∷ decimal uid) (number_inner validity (omega arith)) (number_inner uid (omega arith));
  spells = (
    decimal validity,
    decimal uid,
    32 ∷ decimal uid,
    has_argument (codes "APPENDUID") (decimal validity ++ 32 ∷ decimal uid) refl (number_unspaced validity (32 ∷ decimal uid) (omega arith)),
    a_nonzero validity some h,
    one_space (decimal uid) (number_alone uid (omega arith)),
    a_nonzero uid some' k,
  );
}

pub inside_copy : (validity : ℕ) (source target : List UidRange) → 0 < validity → validity < 2 ^ 32 → IsCanonical source → source ≢ [] →
    IsCanonical target → target ≢ []
    → IsInside (inner_text endings.Ok (codings.CopyUid validity source target)) (codings.CopyUid validity source target)
unfolding ◌⌢◌
inside_copy validity source target some h s s' t t' =
    let last : List ℕ = 32 ∷ set_text target in
    let later : List ℕ = 32 ∷ (set_text source ++ last) in
    record {
      plain = all_join is_inner_byte (decimal validity) later (number_inner validity (omega arith))
          (all_join is_inner_byte (set_text source) last (set_inner source s) (set_inner target t));
      spells = (
        decimal validity,
        set_text source,
        set_text target,
        later,
        last,
        has_argument (codes "COPYUID") (decimal validity ++ later) refl (number_unspaced validity later (omega arith)),
        a_nonzero validity some h,
        one_space (set_text source ++ last) (set_unspaced source last s s'),
        set_spells source s (some_of source s'),
        one_space (set_text target) (set_alone target t t'),
        set_spells target t (some_of target t'),
      );
    }

pub inside_modified : (uids : List UidRange) → IsCanonical uids → uids ≢ [] → IsInside (inner_text endings.Ok (codings.Modified uids)) (codings.Modified uids)
unfolding ◌⌢◌
inside_modified uids is some = record {
  plain = set_inner uids is;
  spells = (set_text uids, has_argument (codes "MODIFIED") (set_text uids) refl (set_alone uids is some), set_spells uids is (some_of uids some));
}

pub inside_closed : IsInside (codes "CLOSED") codings.Closed
inside_closed = record { plain = refl; spells = has_name (codes "CLOSED") refl }

pub inside_nomodseq : IsInside (codes "NOMODSEQ") codings.NoModSeq
inside_nomodseq = record { plain = refl; spells = has_name (codes "NOMODSEQ") refl }

pub inside_not_sticky : IsInside (codes "UIDNOTSTICKY") codings.UidNotSticky
inside_not_sticky = record { plain = refl; spells = has_name (codes "UIDNOTSTICKY") refl }

name_split : (name : List ℕ) → list_all is_wide_byte name ≡ true → IsSplit name name []
name_split name h = record { wide = all_each is_wide_byte (λ byte. IsTrue (is_wide_byte byte)) (λ b is. is) name h; whole = sym (append-nil name); ends = tt }

pub inside_other : (ending : Ending) → IsInside (inner_text ending codings.Other) codings.Other
inside_other endings.Ok = record { plain = refl; spells = (codes "READ-WRITE", [], name_split (codes "READ-WRITE") refl, refl) }
inside_other endings.No = record { plain = refl; spells = (codes "TRYCREATE", [], name_split (codes "TRYCREATE") refl, refl) }
inside_other endings.Bad = record { plain = refl; spells = (codes "CLIENTBUG", [], name_split (codes "CLIENTBUG") refl, refl) }

-- what stands between brackets
inner_no_end : (b : ℕ) → is_inner_byte b ≡ true → b ≢ 93
inner_no_end b h e = grind (arith, nat_tests)

inner_no_quote : (b : ℕ) → is_inner_byte b ≡ true → b ≢ 34
inner_no_quote b h e = grind (arith, nat_tests)

no_string : (b : ℕ) (more : List ℕ) → b ≢ 34 → BeginsQuoted (b ∷ more) → ⊥
no_string b more other begins =
    let whole = begins.3.whole in
    let is : b ∷ more ≡ 34 ∷ _ = begins.4 ∙ ap (λ (q : List ℕ). q ++ begins.2) whole in
    other cc

singles : List ℕ → List Stretch
singles inner = map Single inner

enclosed : (inner rest : List ℕ) → list_all is_inner_byte inner ≡ true → Encloses (map Single inner) (inner ++ 93 ∷ rest) inner rest
enclosed [] rest h = (refl, refl)
enclosed (b ∷ inner) rest h =
    let both = and_parts (is_inner_byte b) (list_all is_inner_byte inner) h in
    (inner ++ 93 ∷ rest, inner, inner_no_end b both.0, no_string b (inner ++ 93 ∷ rest) (inner_no_quote b both.0), refl, refl, enclosed inner rest both.1)

has_inner : (inner rest : List ℕ) → list_all is_inner_byte inner ≡ true → HasInner (91 ∷ (inner ++ 93 ∷ rest)) inner
has_inner inner rest h = (inner ++ 93 ∷ rest, map Single inner, rest, refl, enclosed inner rest h)

-- a status text with a code, and one without
coded_part : (inner last : List ℕ) (code : Code) → IsInside inner code → list_all is_quiet_byte last ≡ true →
    IsTextPart (32 ∷ 91 ∷ (inner ++ 93 ∷ 32 ∷ last)) code
coded_part inner last code inside quiet =
    inr (
      91 ∷ (inner ++ 93 ∷ 32 ∷ last),
      one_space (91 ∷ (inner ++ 93 ∷ 32 ∷ last)) (begins_unspaced 91 (inner ++ 93 ∷ 32 ∷ last) refl),
      quiet_text (91 ∷ (inner ++ 93 ∷ 32 ∷ last)) (all_join is_quiet_byte inner (93 ∷ 32 ∷ last) (inner_quiet inner inside.plain) quiet),
      inr (inner, has_inner inner (32 ∷ last) inside.plain, inside.spells),
    )

no_bracket : (b : ℕ) (more inner : List ℕ) → (b == 91) ≡ false → HasInner (b ∷ more) inner → ⊥
no_bracket b more inner h has = let is : b ≡ 91 = (let whole : b ∷ more ≡ 91 ∷ has.0 = has.3 in cc) in grind (arith, nat_tests)

pub plain_part : (b : ℕ) (more : List ℕ) → (b == 32) ≡ false → (b == 91) ≡ false → list_all is_quiet_byte (b ∷ more) ≡ true →
    IsTextPart (32 ∷ b ∷ more) codings.None
plain_part b more space bracket quiet =
    inr (
      b ∷ more,
      one_space (b ∷ more) (begins_unspaced b more space),
      quiet_text (b ∷ more) quiet,
      inl (refl, λ inner has. no_bracket b more inner bracket has),
    )

-- a status text that ends in a word
pub code_part : (ending : Ending) (code : Code) (b : ℕ) (last : List ℕ) → FitsBrackets ending code → (b == 32) ≡ false →
    (b == 91) ≡ false → list_all is_quiet_byte (b ∷ last) ≡ true
    → IsTextPart (code_text ending code (b ∷ last)) code
unfolding ◌⌢◌
code_part ending codings.None b last fits space bracket quiet = plain_part b last space bracket quiet
code_part ending (codings.Capability words) b last fits space bracket quiet = coded_part _ (b ∷ last) _ fits quiet
code_part ending (codings.UidNext uid) b last fits space bracket quiet = coded_part _ (b ∷ last) _ fits quiet
code_part ending (codings.UidValidity validity) b last fits space bracket quiet = coded_part _ (b ∷ last) _ fits quiet
code_part ending (codings.PermanentFlags flags any) b last fits space bracket quiet = coded_part _ (b ∷ last) _ fits quiet
code_part ending (codings.HighestModSeq modseq) b last fits space bracket quiet = coded_part _ (b ∷ last) _ fits quiet
code_part ending codings.NoModSeq b last fits space bracket quiet = coded_part _ (b ∷ last) _ fits quiet
code_part ending codings.UidNotSticky b last fits space bracket quiet = coded_part _ (b ∷ last) _ fits quiet
code_part ending (codings.AppendUid validity uid) b last fits space bracket quiet = coded_part _ (b ∷ last) _ fits quiet
code_part ending (codings.CopyUid validity source target) b last fits space bracket quiet = coded_part _ (b ∷ last) _ fits quiet
code_part ending (codings.Modified uids) b last fits space bracket quiet = coded_part _ (b ∷ last) _ fits quiet
code_part ending codings.Closed b last fits space bracket quiet = coded_part _ (b ∷ last) _ fits quiet
code_part ending codings.Other b last fits space bracket quiet = coded_part _ (b ∷ last) _ fits quiet

-- its bytes
coded_quiet : (inner last : List ℕ) (code : Code) → IsInside inner code → list_all is_quiet_byte last ≡ true →
    list_all is_quiet_byte (32 ∷ 91 ∷ (inner ++ 93 ∷ 32 ∷ last)) ≡ true
coded_quiet inner last code inside quiet = all_join is_quiet_byte inner (93 ∷ 32 ∷ last) (inner_quiet inner inside.plain) quiet

pub code_quiet : (ending : Ending) (code : Code) (last : List ℕ) → FitsBrackets ending code → list_all is_quiet_byte last ≡ true →
    list_all is_quiet_byte (code_text ending code last) ≡ true
unfolding ◌⌢◌
code_quiet ending codings.None last fits quiet = quiet
code_quiet ending (codings.Capability words) last fits quiet = coded_quiet _ last _ fits quiet
code_quiet ending (codings.UidNext uid) last fits quiet = coded_quiet _ last _ fits quiet
code_quiet ending (codings.UidValidity validity) last fits quiet = coded_quiet _ last _ fits quiet
code_quiet ending (codings.PermanentFlags flags any) last fits quiet = coded_quiet _ last _ fits quiet
code_quiet ending (codings.HighestModSeq modseq) last fits quiet = coded_quiet _ last _ fits quiet
code_quiet ending codings.NoModSeq last fits quiet = coded_quiet _ last _ fits quiet
code_quiet ending codings.UidNotSticky last fits quiet = coded_quiet _ last _ fits quiet
code_quiet ending (codings.AppendUid validity uid) last fits quiet = coded_quiet _ last _ fits quiet
code_quiet ending (codings.CopyUid validity source target) last fits quiet = coded_quiet _ last _ fits quiet
code_quiet ending (codings.Modified uids) last fits quiet = coded_quiet _ last _ fits quiet
code_quiet ending codings.Closed last fits quiet = coded_quiet _ last _ fits quiet
code_quiet ending codings.Other last fits quiet = coded_quiet _ last _ fits quiet

-- no word goes on into it
pub code_stops : (ending : Ending) (code : Code) (last : List ℕ) → Stops (code_text ending code last)
unfolding ◌⌢◌
code_stops ending codings.None last = refl
code_stops ending (codings.Capability words) last = refl
code_stops ending (codings.UidNext uid) last = refl
code_stops ending (codings.UidValidity validity) last = refl
code_stops ending (codings.PermanentFlags flags any) last = refl
code_stops ending (codings.HighestModSeq modseq) last = refl
code_stops ending codings.NoModSeq last = refl
code_stops ending codings.UidNotSticky last = refl
code_stops ending (codings.AppendUid validity uid) last = refl
code_stops ending (codings.CopyUid validity source target) last = refl
code_stops ending (codings.Modified uids) last = refl
code_stops ending codings.Closed last = refl
code_stops ending codings.Other last = refl
