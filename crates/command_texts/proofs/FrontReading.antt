-- The texts of fronts, one byte list behind the other.
use Rattle.std.proofs.Common.{◌≡◌, ◌<◌, ◌≤◌, ◌^◌, ℕ, zero, suc, Bool, true, false, cond, not, ◌&&◌, nat_lt, ◌==◌, get_or, drop, Contains, Bor}
use Rattle.std.proofs.Common.{Result, Ok, Err, IfOk, MatchOption, Option, Some, None, subst, List, [], ◌∷◌, ◌++◌, length, codes, decimal}
use Rattle.std.proofs.Common.{refl, ap, ◌∙◌, sym, append_assoc, arith}
use Rattle.std.specs.Str.{IsUtf8}
use Rattle.std.proofs.lemmas.Str.{IsUtf8-from_ascii, IsUtf8-nil}
use Rattle.std.proofs.lemmas.Str.Ascii.{IsAscii-nil, IsAscii-cons}
use Rattle.std.specs.List.{list_all, All}
use Rattle.std.proofs.lemmas.Bool.Decides.{nat_tests}
use Rattle.std.specs.Str.{str_eq_ignore_ascii_case}
use Rattle.std.proofs.lemmas.Bool.{and_parts, eqb-true}
use Rattle.flag_set.specs.FlagText.{list_text}
use Rattle.imap_model.specs.Astring.{is_bare, is_quotable, quoted, literal, astring_parts}
use Rattle.imap_model.specs.Tagged.{is_astring_byte}
use Rattle.imap_model.proofs.Joining.{some_behind}
use Rattle.imap_model.specs.CommandParts.{line, words, number, crlf, ◌⌢◌}
use Rattle.flag_set.specs.FlagSet.{IsFlagSet}
use Rattle.mail_base.specs.BoxName.{IsBoxName, IsNameByte}
use Rattle.imap_model.specs.Held.{IsHeldAccount, IsNonzero32}
use Rattle.imap_model.specs.OneText.{IsText, IsKeptTag}
use Rattle.imap_model.specs.TagText.{tag_parts, IsCommandTag}
use Rattle.mail_base.specs.declared.tag.Tag.{Tag}
use Rattle.mail_base.specs.declared.tag.Tag.TheVariants.{Play, Again, Count, Strange}
use Rattle.std.proofs.lemmas.Option.{same_Some}
use Rattle.std.proofs.Math.Seq.{drop-append_seam}
use Rattle.mail_base.specs.Account.{Credentials}
use Rattle.imap_model.specs.declared.command.Command.TheVariants as commands
use Rattle.command_texts.specs.AwaitedParts.{Awaited, Response, User, Password, Id, Message, IsUser, IsCount, IsHeldFront, IsFrontOf, announced, begun_parts}
use Rattle.command_texts.specs.Stands.{Finds, stand_for, announced_at, second}
use Rattle.command_texts.specs.declared.reading.fronts.StandIn.{StandIn}

-- the header of a literal and the end of its line
pub announced_is : (n : ℕ) → announced n ≡ (123 ∷ (decimal n ++ 125 ∷ crlf)) ∷ []
announced_is n = ap (λ x. (123 ∷ x) ∷ []) (append_assoc (decimal n) (125 ∷ []) crlf)

-- the accounts of the stand-ins
pub no_text : IsText []
no_text = record { each = tt; short = omega arith }

pub return_text : IsText (13 ∷ [])
return_text = record { each = (omega arith, tt); short = omega arith }

no_nul : ¬ (Contains {X = ℕ} [] 0)
no_nul = λ there. omega (arith, there.1)

pub return_nul : ¬ (Contains {X = ℕ} (13 ∷ []) 0)
return_nul (zero, within, is) = omega (arith, is)
return_nul (suc k, within, is) = omega (arith, within)

return_utf8 : IsUtf8 (13 ∷ [])
return_utf8 = IsUtf8-from_ascii (13 ∷ []) (IsAscii-cons 13 [] (omega arith) IsAscii-nil)

pub no_account : IsHeldAccount (record { user = []; password = [] })
no_account = record {
  kept = record {
    plain = record { user_has_none = no_nul; password_has_none = no_nul };
    user = no_text;
    password =
        no_text;
  };
  user = IsUtf8-nil;
  password = IsUtf8-nil;
}

pub return_account : IsHeldAccount (record { user = 13 ∷ []; password = [] })
return_account = record {
  kept = record {
    plain = record { user_has_none = return_nul; password_has_none = no_nul };
    user =
        return_text;
    password = no_text;
  };
  user = return_utf8;
  password = IsUtf8-nil;
}

pub user_account : (name : List ℕ) → IsUser name → IsHeldAccount (record { user = name; password = 13 ∷ [] })
user_account name is = record {
  kept = record {
    plain = record { user_has_none = is.plain; password_has_none = return_nul };
    user =
        is.text;
    password = return_text;
  };
  user = is.utf8;
  password = return_utf8;
}

-- behind the user's name, which is one part or two
pub password_text : (name : List ℕ) (n : ℕ) → astring_parts name ⌢ (words " " ⌢ announced n)
    ≡ astring_parts name ⌢ ((32 ∷ 123 ∷ (decimal n ++ 125 ∷ crlf)) ∷ [])
unfolding ◌⌢◌
password_text name n = ap (λ x. astring_parts name ⌢ ((32 ∷ 123 ∷ x) ∷ [])) (append_assoc (decimal n) (125 ∷ []) crlf)

-- a login is found for what is awaited
pub login_finds : {E : Type 0} (awaited : Awaited) (account : Credentials) (n m : ℕ) (result : Result (Option StandIn) E)
    → IfOk result (λ found. MatchOption found ⊥ (λ f. (f.command ≡ commands.Login account) × (f.octets ≡ n)))
    → commands.Login account ≡ stand_for awaited → m ≡ announced_at awaited → Some n ≡ Some m → IfOk result (Finds awaited)
login_finds awaited account n m (Ok None) is command octets same = absurd is
login_finds awaited account n m (Ok (Some f)) is command octets same = record { command = is.0 ∙ command; octets = is.1 ∙ same_Some n m same ∙ octets }
login_finds awaited account n m (Err e) is command octets same = tt

-- what is found for other numbers is found for these
pub id_finds : {E : Type 0} (from n from' n' : ℕ) (result : Result (Option StandIn) E) → IfOk result (Finds (Id from n)) →
    Some from ≡ Some from' → Some n ≡ Some n' → IfOk result (Finds (Id from' n'))
id_finds from n from' n' result is first second = subst (λ x. IfOk result (Finds (Id x n'))) (same_Some from from' first)
    (subst (λ x. IfOk result (Finds (Id from x))) (same_Some n n' second) is)

pub plain_stands : (account : Credentials) → Some account ≡ Some (record { user = []; password = [] }) → commands.Plain account ≡ stand_for Response
plain_stands account same = ap commands.Plain (same_Some account (record { user = []; password = [] }) same)

pub append_stands : (to to' : List ℕ) (flags flags' : List (List ℕ)) (text : List ℕ) (n : ℕ) → to ≡ to' → Some flags ≡ Some flags' →
    text ≡ [] → commands.Append to flags text ≡ stand_for (Message to' flags' n)
append_stands to to' flags flags' text n first second third = let two : flags ≡ flags' = same_Some flags flags' second in cc

-- Where a user's name and what stands behind it are one part, that part begins with no brace.
bare_parts : (name : List ℕ) → is_bare name ≡ true → (nat_lt 0 (length name) ≡ true) × (list_all is_astring_byte name ≡ true)
bare_parts name is =
    let both = and_parts (nat_lt 0 (length name) && not (str_eq_ignore_ascii_case name (codes "NIL"))) (list_all is_astring_byte name) is in
    ((and_parts (nat_lt 0 (length name)) (not (str_eq_ignore_ascii_case name (codes "NIL"))) both.0).0, both.1)

bare_first : (name text r : List ℕ) → is_bare name ≡ true → text ∷ [] ≡ line name ⌢ ((32 ∷ r) ∷ []) → get_or text 0 0 ≡ 123 → ⊥
unfolding ◌⌢◌
bare_first [] text r bare is brace = cc (bare_parts [] bare).0
bare_first (c ∷ name) text r bare is brace =
    let same : text ≡ (c ∷ name) ++ 32 ∷ r = cc in
    let first : c ≡ 123 = sym (ap (λ x. get_or x 0 0) same) ∙ brace in
    cc (ap is_astring_byte first, (and_parts (is_astring_byte c) (list_all is_astring_byte name) (bare_parts (c ∷ name) bare).1).0)

lone_from : (name text r : List ℕ) (b q : Bool) → is_bare name ≡ b →
    text ∷ [] ≡ cond b (line name) (cond q (line (quoted name)) (literal name)) ⌢ ((32 ∷ r) ∷ []) → get_or text 0 0 ≡ 123 → ⊥
unfolding ◌⌢◌
lone_from name text r true q bare is brace = bare_first name text r bare is brace
lone_from name text r false true bare is brace =
    let same : text ≡ quoted name ++ 32 ∷ r = cc in
    let first : ◌≡◌ {A = ℕ} 34 123 = sym (ap (λ x. get_or x 0 0) same) ∙ brace in
    omega (arith, first)
lone_from name text r false false bare is brace = cc

pub lone_first : (name text r : List ℕ) → text ∷ [] ≡ astring_parts name ⌢ ((32 ∷ r) ∷ []) → get_or text 0 0 ≡ 123 → ⊥
lone_first name text r is brace = lone_from name text r (is_bare name) (list_all is_quotable name) refl is brace

-- what a front begins with, and what stands behind that
begins : (word : List ℕ) (parts : List (List ℕ)) (text : List ℕ) (later : List (List ℕ)) → text ∷ later ≡ line word ⌢ parts →
    1 < length word → get_or text 1 0 ≡ get_or word 1 0
unfolding ◌⌢◌
begins (a ∷ b ∷ word) [] text later is some = let same : text ≡ a ∷ b ∷ word = cc in ap (λ x. get_or x 1 0) same
begins (a ∷ b ∷ word) (p ∷ parts) text later is some = let same : text ≡ (a ∷ b ∷ word) ++ p = cc in ap (λ x. get_or x 1 0) same
begins [] parts text later is some = absurd (omega (arith, some))
begins (a ∷ []) parts text later is some = absurd (omega (arith, some))

pub behind_word : (word : List ℕ) (parts : List (List ℕ)) (text : List ℕ) (later : List (List ℕ)) → 0 < length parts →
    text ∷ later ≡ line word ⌢ parts → drop (length word) text ∷ later ≡ parts
unfolding ◌⌢◌
behind_word word [] text later some is = absurd (omega (arith, some))
behind_word word (p ∷ parts) text later some is =
    let same : text ≡ word ++ p = cc in
    let others : later ≡ parts = cc in
    let rest : drop (length word) text ≡ p = ap (drop (length word)) same ∙ drop-append_seam word p in
    cc

pub second_is : (awaited : Awaited) (text : List ℕ) (later : List (List ℕ)) → text ∷ later ≡ begun_parts awaited → get_or text 1 0 ≡ second awaited
unfolding ◌⌢◌
second_is Response text later is = let same : text ≡ codes "AUTHENTICATE PLAIN" ++ crlf = cc in ap (λ x. get_or x 1 0) same
second_is (User n) text later is = begins (codes "LOGIN ") (announced n) text later is (omega arith)
second_is (Password user n) text later is = begins (codes "LOGIN ") (astring_parts user ⌢ (words " " ⌢ announced n)) text later is (omega arith)
second_is (Id from n) text later is = begins (codes "UID SEARCH UID ") (number from ⌢ (words ":* HEADER Message-ID " ⌢ announced n)) text later is (omega arith)
second_is (Message to flags n) text later is = begins (codes "APPEND ")
    (astring_parts to ⌢ (words " (" ⌢ (line (list_text flags) ⌢ (words ") " ⌢ announced n)))) text later is (omega arith)

pub none_of : (parts : List (List ℕ)) → true ≡ (length parts == 0) → parts ≡ []
none_of [] is = refl
none_of (p ∷ parts) is = absurd (let same = eqb-true (length (p ∷ parts)) 0 (sym is) in omega (arith, same))

pub lone_text : (name text : List ℕ) (later : List (List ℕ)) (n : ℕ) → true ≡ (length later == 0) →
    text ∷ later ≡ astring_parts name ⌢ (words " " ⌢ announced n) → get_or text 0 0 ≡ 123 → ⊥
lone_text name text later n alone is brace =
    lone_first name text (123 ∷ (decimal n ++ 125 ∷ crlf)) (ap (λ x. text ∷ x) (sym (none_of later alone)) ∙ is ∙ password_text name n) brace

pub user_text : (text : List ℕ) (later : List (List ℕ)) (n : ℕ) → text ∷ later ≡ announced n → text ≡ 123 ∷ (decimal n ++ 125 ∷ crlf)
user_text text later n is = let same : text ∷ later ≡ (123 ∷ (decimal n ++ 125 ∷ crlf)) ∷ [] = is ∙ announced_is n in cc

-- the fronts by their second byte
abbrev pub IsLogin : Awaited → List (List ℕ) → Type 0
IsLogin (User n) parts = parts ≡ announced n
IsLogin (Password user n) parts = parts ≡ astring_parts user ⌢ (words " " ⌢ announced n)
IsLogin _ parts = ⊥

pub login_rest : (awaited : Awaited) (text : List ℕ) (later : List (List ℕ)) → text ∷ later ≡ begun_parts awaited → second awaited ≡ 79 →
    IsLogin awaited (drop 6 text ∷ later)
login_rest Response text later is second = absurd (omega (arith, second))
login_rest (User n) text later is second = behind_word (codes "LOGIN ") (announced n) text later (omega arith) is
login_rest (Password user n) text later is second =
    behind_word (codes "LOGIN ") (astring_parts user ⌢ (words " " ⌢ announced n)) text later
    (some_behind (astring_parts user) (words " " ⌢ announced n) (some_behind (words " ") (announced n) (omega arith))) is
login_rest (Id from n) text later is second = absurd (omega (arith, second))
login_rest (Message to flags n) text later is second = absurd (omega (arith, second))

pub login_is : {E : Type 0} (awaited : Awaited) (parts : List (List ℕ)) (result : Result (Option StandIn) E) → IsHeldFront awaited → IsLogin awaited parts
    → ((n : ℕ) → IsCount n → parts ≡ announced n → IfOk result (Finds (User n)))
    → ((name : List ℕ) (n : ℕ) → IsUser name → IsCount n → parts ≡ astring_parts name ⌢ (words " " ⌢ announced n) →
    IfOk result (Finds (Password name n))) → IfOk result (Finds awaited)
login_is Response parts result held is user password = absurd is
login_is (User n) parts result held is user password = user n held is
login_is (Password name n) parts result held is user password = password name n held.0 held.1 is
login_is (Id from n) parts result held is user password = absurd is
login_is (Message to flags n) parts result held is user password = absurd is

pub plain_is : {E : Type 0} (awaited : Awaited) (result : Result (Option StandIn) E) → second awaited ≡ 85 → IfOk result (Finds Response) →
    IfOk result (Finds awaited)
plain_is Response result is found = found
plain_is (User n) result is found = absurd (omega (arith, is))
plain_is (Password name n) result is found = absurd (omega (arith, is))
plain_is (Id from n) result is found = absurd (omega (arith, is))
plain_is (Message to flags n) result is found = absurd (omega (arith, is))

-- a mailbox's name is one part
pub record IsLone (parts : List (List ℕ)) : Type 0 where
  pub part : List ℕ
  pub is : parts ≡ part ∷ []

both_true : (x y : Bool) → x ≡ true → y ≡ true → (x && y) ≡ true
both_true true true h k = refl
both_true true false h k = k
both_true false y h k = h

name_byte : (b : ℕ) → IsNameByte b → is_quotable b ≡ true
name_byte b is = grind (arith, nat_tests, is.low, is.high)

name_quotable : (bytes : List ℕ) → All IsNameByte bytes → list_all is_quotable bytes ≡ true
name_quotable [] all = refl
name_quotable (b ∷ bytes) all =
    both_true (is_quotable b) (list_all is_quotable bytes) (name_byte b (all 0 0 (omega arith)))
    (name_quotable bytes (λ k d within. all (suc k) d (omega (arith, within))))

name_from : (name : List ℕ) (b q : Bool) → q ≡ true → astring_parts name
    ≡ cond b (line name) (cond q (line (quoted name)) (literal name)) → IsLone (astring_parts name)
name_from name true q all is = record { part = name; is = is }
name_from name false true all is = record { part = quoted name; is = is }
name_from name false false all is = cc

pub one_name : (name : List ℕ) → IsBoxName name → IsLone (astring_parts name)
one_name name is = name_from name (is_bare name) (list_all is_quotable name) (name_quotable name is.text.bytes) refl

-- an APPEND, and a SEARCH
message_text : (to : List ℕ) (flags : List (List ℕ)) (n : ℕ) (text : List ℕ) (later : List (List ℕ)) (one : IsLone (astring_parts to)) →
    text ∷ later ≡ begun_parts (Message to flags n)
    → drop 7 text ∷ [] ≡ astring_parts to ⌢ (words " (" ⌢ (line (list_text flags) ⌢ (words ") " ⌢ line (123 ∷ (decimal n ++ 125 ∷ crlf)))))
unfolding ◌⌢◌
message_text to flags n text later one is =
    let whole = behind_word (codes "APPEND ") (astring_parts to ⌢ (words " (" ⌢ (line (list_text flags) ⌢ (words ") " ⌢ announced n)))) text later
    (some_behind (astring_parts to) _ (omega arith)) is in
    let size : astring_parts to ⌢ (words " (" ⌢ (line (list_text flags) ⌢ (words ") " ⌢ announced n)))
    ≡ astring_parts to ⌢ (words " (" ⌢ (line (list_text flags) ⌢ (words ") " ⌢ line (123 ∷ (decimal n ++ 125 ∷ crlf)))))
    = ap (λ x. astring_parts to ⌢ (words " (" ⌢ (line (list_text flags) ⌢ (words ") " ⌢ x)))) (announced_is n) in
    let lone : drop 7 text ∷ later ≡ (one.part ++ (codes " (" ++
    (list_text flags ++ (codes ") " ++ (123 ∷ (decimal n ++ 125 ∷ crlf)))))) ∷ [] =
    whole ∙ size ∙ ap (λ x. x ⌢ (words " (" ⌢ (line (list_text flags) ⌢
    (words ") " ⌢ line (123 ∷ (decimal n ++ 125 ∷ crlf)))))) one.is in
    let none : later ≡ [] = cc in
    ap (λ x. drop 7 text ∷ x) (sym none) ∙ whole ∙ size

pub message_is : {E : Type 0} (awaited : Awaited) (text : List ℕ) (later : List (List ℕ)) (result : Result (Option StandIn) E) →
    IsHeldFront awaited → second awaited ≡ 80 → text ∷ later ≡ begun_parts awaited
    → ((to : List ℕ) (flags : List (List ℕ)) (n : ℕ) → IsBoxName to → IsFlagSet flags → n < 2 ^ 64
    → drop 7 text ∷ [] ≡ astring_parts to ⌢ (words " (" ⌢ (line (list_text flags) ⌢
    (words ") " ⌢ line (123 ∷ (decimal n ++ 125 ∷ crlf))))) → IfOk result (Finds (Message to flags n)))
    → IfOk result (Finds awaited)
message_is Response text later result held kind is found = absurd (omega (arith, kind))
message_is (User n) text later result held kind is found = absurd (omega (arith, kind))
message_is (Password name n) text later result held kind is found = absurd (omega (arith, kind))
message_is (Id from n) text later result held kind is found = absurd (omega (arith, kind))
message_is (Message to flags n) text later result held kind is found =
    found to flags n held.0 held.1 held.2 (message_text to flags n text later (one_name to held.0) is)

id_text : (from n : ℕ) (text : List ℕ) (later : List (List ℕ)) → text ∷ later ≡ begun_parts (Id from n) →
    drop 15 text ≡ decimal from ++ 58 ∷ (codes "* HEADER Message-ID " ++ 123 ∷ (decimal n ++ 125 ∷ crlf))
unfolding ◌⌢◌
id_text from n text later is =
    let whole = behind_word (codes "UID SEARCH UID ") (number from ⌢ (words ":* HEADER Message-ID " ⌢ announced n)) text later (omega arith) is in
    let size = ap (λ x. number from ⌢ (words ":* HEADER Message-ID " ⌢ x)) (announced_is n) in
    let same : drop 15 text ∷ later ≡ (decimal from ++ (codes ":* HEADER Message-ID " ++ 123 ∷ (decimal n ++ 125 ∷ crlf))) ∷ [] = whole ∙ size in
    cc

pub id_is : {E : Type 0} (awaited : Awaited) (text : List ℕ) (later : List (List ℕ)) (result : Result (Option StandIn) E) →
    IsHeldFront awaited → second awaited ≡ 73 → text ∷ later ≡ begun_parts awaited
    → ((from n : ℕ) → IsNonzero32 from → IsCount n → drop 15 text
    ≡ decimal from ++ 58 ∷ (codes "* HEADER Message-ID " ++ 123 ∷ (decimal n ++ 125 ∷ crlf)) → IfOk result (Finds (Id from n)))
    → IfOk result (Finds awaited)
id_is Response text later result held kind is found = absurd (omega (arith, kind))
id_is (User n) text later result held kind is found = absurd (omega (arith, kind))
id_is (Password name n) text later result held kind is found = absurd (omega (arith, kind))
id_is (Id from n) text later result held kind is found = found from n held.0 held.1 (id_text from n text later is)
id_is (Message to flags n) text later result held kind is found = absurd (omega (arith, kind))

-- the part is this tag, a space and this
abbrev pub IsTagOf : Tag → List ℕ → List ℕ → Type 0
IsTagOf (Play n) part first = (n < 2 ^ 32) × (part ≡ 80 ∷ (decimal n ++ 32 ∷ first))
IsTagOf (Again n t) part first = (n < 2 ^ 32) × (2 ≤ t) × (t ≤ 3) × (part ≡ 80 ∷ (decimal n ++ 82 ∷ (decimal t ++ 32 ∷ first)))
IsTagOf (Count n) part first = (n < 2 ^ 32) × (part ≡ 67 ∷ (decimal n ++ 32 ∷ first))
IsTagOf Strange part first = ⊥

-- the text of a tag is one part
played : (n : ℕ) (parts : List (List ℕ)) → ((80 ∷ decimal n) ∷ []) ⌢ (words " " ⌢ parts) ≡ tag_parts (Play n) ⌢ (words " " ⌢ parts)
unfolding ◌⌢◌
played n parts = refl

counted : (n : ℕ) (parts : List (List ℕ)) → ((67 ∷ decimal n) ∷ []) ⌢ (words " " ⌢ parts) ≡ tag_parts (Count n) ⌢ (words " " ⌢ parts)
unfolding ◌⌢◌
counted n parts = refl

tried : (n t : ℕ) (first : List ℕ) (later : List (List ℕ)) →
    tag_parts (Again n t) ⌢ (words " " ⌢ (first ∷ later)) ≡ (80 ∷ (decimal n ++ 82 ∷ (decimal t ++ 32 ∷ first))) ∷ later
unfolding ◌⌢◌
tried n t first later =
    ap (λ x. (80 ∷ x) ∷ later) (append_assoc (decimal n) (82 ∷ decimal t) (32 ∷ first))

-- the tag in front
pub tag_front : (n : ℕ) (letter : ℕ) (first : List ℕ) (later : List (List ℕ)) →
    ((letter ∷ decimal n) ∷ []) ⌢ (words " " ⌢ (first ∷ later)) ≡ (letter ∷ (decimal n ++ 32 ∷ first)) ∷ later
unfolding ◌⌢◌
tag_front n letter first later = refl

-- no front begins otherwise
pub no_kind : (awaited : Awaited) (byte : ℕ) → byte ≡ second awaited → (byte ≡ 79 → ⊥) → (byte ≡ 85 → ⊥) → (byte ≡ 80 → ⊥) → (byte ≡ 73 → ⊥) → ⊥
no_kind Response byte is o u p i = u is
no_kind (User n) byte is o u p i = o is
no_kind (Password name n) byte is o u p i = o is
no_kind (Id from n) byte is o u p i = i is
no_kind (Message to flags n) byte is o u p i = p is

-- parts behind a tag and a space: the first of them all has the tag, and behind it the first of these parts
pub record Tagged (tag : Tag) (parts : List (List ℕ)) (part : List ℕ) (later : List (List ℕ)) : Type 0 where
  pub first : List ℕ
  pub is : IsTagOf tag part first
  pub begun : first ∷ later ≡ parts

pub tagged_from : (tag : Tag) (parts : List (List ℕ)) (part : List ℕ) (later : List (List ℕ)) → IsCommandTag tag → IsKeptTag tag → 0 < length parts
    → tag_parts tag ⌢ (words " " ⌢ parts) ≡ part ∷ later → Tagged tag parts part later
tagged_from tag [] part later is fits some same = absurd (omega (arith, some))
tagged_from (Play n) (first ∷ others) part later is fits some same =
    let whole : (80 ∷ (decimal n ++ 32 ∷ first)) ∷ others ≡ part ∷ later = sym (tag_front n 80 first others) ∙ played n (first ∷ others) ∙ same in
    let one : (80 ∷ (decimal n ++ 32 ∷ first)) ≡ part = cc in
    let two : others ≡ later = cc in
    record { first = first; is = (fits, sym one); begun = ap (λ x. first ∷ x) (sym two) }
tagged_from (Again n t) (first ∷ others) part later is fits some same =
    let whole : (80 ∷ (decimal n ++ 82 ∷ (decimal t ++ 32 ∷ first))) ∷ others ≡ part ∷ later = sym (tried n t first others) ∙ same in
    let one : (80 ∷ (decimal n ++ 82 ∷ (decimal t ++ 32 ∷ first))) ≡ part = cc in
    let two : others ≡ later = cc in
    record { first = first; is = (fits, is.1, is.2, sym one); begun = ap (λ x. first ∷ x) (sym two) }
tagged_from (Count n) (first ∷ others) part later is fits some same =
    let whole : (67 ∷ (decimal n ++ 32 ∷ first)) ∷ others ≡ part ∷ later = sym (tag_front n 67 first others) ∙ counted n (first ∷ others) ∙ same in
    let one : (67 ∷ (decimal n ++ 32 ∷ first)) ≡ part = cc in
    let two : others ≡ later = cc in
    record { first = first; is = (fits, sym one); begun = ap (λ x. first ∷ x) (sym two) }
tagged_from Strange (first ∷ others) part later is fits some same = absurd is

some_begun : (awaited : Awaited) → 0 < length (begun_parts awaited)
some_begun Response = some_behind (words "AUTHENTICATE PLAIN") (line crlf) (omega arith)
some_begun (User n) = some_behind (words "LOGIN ") (announced n) (omega arith)
some_begun (Password name n) = some_behind (words "LOGIN ") _
    (some_behind (astring_parts name) (words " " ⌢ announced n) (some_behind (words " ") (announced n) (omega arith)))
some_begun (Id from n) = some_behind (words "UID SEARCH UID ") _
    (some_behind (number from) _ (some_behind (words ":* HEADER Message-ID ") (announced n) (omega arith)))
some_begun (Message to flags n) = some_behind (words "APPEND ") _
    (some_behind (astring_parts to) _ (some_behind (words " (") _
    (some_behind (line (list_text flags)) _ (some_behind (words ") ") (announced n) (omega arith)))))

pub front_tagged : (tag : Tag) (awaited : Awaited) (parts : List (List ℕ)) (part : List ℕ) (later : List (List ℕ)) →
    IsFrontOf tag awaited parts → parts ≡ part ∷ later → Tagged tag (begun_parts awaited) part later
front_tagged tag awaited parts part later front same = tagged_from tag (begun_parts awaited) part later front.tagged front.tag_fits
    (some_begun awaited) (front.text ∙ same)

pub some_front : (tag : Tag) (awaited : Awaited) (parts : List (List ℕ)) → IsFrontOf tag awaited parts → length parts ≡ 0 → ⊥
some_front tag awaited parts front none =
    let some = some_behind (tag_parts tag) (words " " ⌢ begun_parts awaited) (some_behind (words " ") (begun_parts awaited) (some_begun awaited)) in
    omega (arith, some, none, ap length front.text)

-- the tag that is found
pub tag_found : (tag : Tag) (parts : List (List ℕ)) (part : List ℕ) (later : List (List ℕ)) (t : Tagged tag parts part later)
    (result : Option (Tag × Bor (List ℕ)))
    → ((n : ℕ) (rest : List ℕ) → n < 2 ^ 32 → part ≡ 80 ∷ (decimal n ++ 32 ∷ rest) → MatchOption result ⊥ (λ f. (f.0 ≡ Play n) × (f.1.now ≡ rest)))
    → ((n t : ℕ) (rest : List ℕ) → n < 2 ^ 32 → 2 ≤ t → t ≤ 3 → part ≡ 80 ∷ (decimal n ++ 82 ∷ (decimal t ++ 32 ∷ rest))
    → MatchOption result ⊥ (λ f. (f.0 ≡ Again n t) × (f.1.now ≡ rest)))
    → ((n : ℕ) (rest : List ℕ) → n < 2 ^ 32 → part ≡ 67 ∷ (decimal n ++ 32 ∷ rest) → MatchOption result ⊥ (λ f. (f.0 ≡ Count n) × (f.1.now ≡ rest)))
    → MatchOption result ⊥ (λ f. (f.0 ≡ tag) × (f.1.now ≡ t.first))
tag_found (Play n) parts part later t result played again counted = played n t.first t.is.0 t.is.1
tag_found (Again n k) parts part later t result played again counted = again n k t.first t.is.0 t.is.1 t.is.2 t.is.3
tag_found (Count n) parts part later t result played again counted = counted n t.first t.is.0 t.is.1
tag_found Strange parts part later t result played again counted = absurd t.is
