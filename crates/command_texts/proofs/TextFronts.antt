-- The whole text of a command is no front of another one's, and the first part of a text tells its tag.
use Rattle.std.proofs.Common.{◌≡◌, ℕ, ◌<◌, ◌≤◌, ◌^◌, Bool, true, false, cond, not, ◌&&◌, nat_lt, List, [], ◌∷◌, ◌++◌, length, get_or, drop}
use Rattle.std.proofs.Common.{decimal, codes, refl, ap, sym, ◌∙◌, arith}
use Rattle.std.specs.Char.{is_ascii_digit}
use Rattle.std.specs.List.{list_all}
use Rattle.std.specs.Str.{str_eq_ignore_ascii_case}
use Rattle.std.proofs.lemmas.Bool.{and_parts}
use Rattle.mail_base.specs.Account.{Credentials}
use Rattle.flag_set.specs.FlagText.{list_text}
use Rattle.mail_base.specs.BoxName.{IsBoxName}
use Rattle.mail_base.specs.Frames.{header}
use Rattle.mail_base.specs.declared.tag.Tag.{Tag}
use Rattle.mail_base.specs.declared.tag.Tag.TheVariants.{Play, Again, Count, Strange}
use Rattle.imap_model.specs.Astring.{is_bare, is_quotable, quoted, literal, astring_parts}
use Rattle.imap_model.specs.CommandParts.{line, words, number, crlf, ◌⌢◌}
use Rattle.imap_model.specs.CommandText.{command_parts}
use Rattle.imap_model.specs.Held.{IsHeld, IsHeldAccount, IsNonzero32}
use Rattle.imap_model.specs.Tagged.{is_astring_byte}
use Rattle.imap_model.specs.declared.command.Command.{Command}
use Rattle.imap_model.proofs.Arguments.{astring_same}
use Rattle.imap_model.proofs.Cutting.{stops_line, cut_same, cut_number, byte_at, byte_of_line}
use Rattle.imap_model.proofs.Joining.{some_behind, some_first, literal_is}
use Rattle.command_texts.specs.AwaitedParts.{Awaited, Response, User, Password, Id, Message, IsUser, IsHeldFront, announced, begun_parts}
use Rattle.command_texts.specs.TextLaws.{NoTextIsAFront, FirstPartsTellTags}
use Rattle.command_texts.proofs.CandidateReading.{ReadsLogin, command_read, whole_tagged, some_whole}
use Rattle.command_texts.proofs.FrontFound.{front_found}
use Rattle.command_texts.proofs.FrontReading.{IsLone, IsTagOf, one_name, second_is, login_rest, behind_word, announced_is, front_tagged}

-- one first part has one tag, and behind it one text
number_behind : (letter m n : ℕ) (a b : List ℕ) → letter ∷ (decimal m ++ 32 ∷ a) ≡ letter ∷ (decimal n ++ 32 ∷ b) →
    number m ⌢ line (32 ∷ a) ≡ number n ⌢ line (32 ∷ b)
unfolding ◌⌢◌
number_behind letter m n a b same = cc

one_number : (letter m n : ℕ) (a b : List ℕ) → m < 2 ^ 32 → n < 2 ^ 32 → letter ∷ (decimal m ++ 32 ∷ a) ≡ letter ∷ (decimal n ++ 32 ∷ b) → (m ≡ n) × (a ≡ b)
one_number letter m n a b fits fits' same =
    let both = cut_number m n (line (32 ∷ a)) (line (32 ∷ b)) (omega arith) (omega arith) refl refl (number_behind letter m n a b same) in
    let tails = both.1 in
    (both.0, cc)

-- a try's number, and behind it one more
number_before : (m n : ℕ) (x y : List ℕ) → 80 ∷ (decimal m ++ x) ≡ 80 ∷ (decimal n ++ y) → number m ⌢ line x ≡ number n ⌢ line y
unfolding ◌⌢◌
number_before m n x y same = cc

tried_number : (m n s t : ℕ) (a b : List ℕ) → m < 2 ^ 32 → n < 2 ^ 32 → s ≤ 3 → t ≤ 3
    → 80 ∷ (decimal m ++ 82 ∷ (decimal s ++ 32 ∷ a)) ≡ 80 ∷ (decimal n ++ 82 ∷ (decimal t ++ 32 ∷ b)) → (m ≡ n) × (s ≡ t) × (a ≡ b)
tried_number m n s t a b fits fits' few few' same =
    let both = cut_number m n (line (82 ∷ (decimal s ++ 32 ∷ a))) (line (82 ∷ (decimal t ++ 32 ∷ b))) (omega arith) (omega arith) refl refl
    (number_before m n (82 ∷ (decimal s ++ 32 ∷ a)) (82 ∷ (decimal t ++ 32 ∷ b)) same) in
    let tails = both.1 in
    let later : 82 ∷ (decimal s ++ 32 ∷ a) ≡ 82 ∷ (decimal t ++ 32 ∷ b) = cc in
    let turns = one_number 82 s t a b (omega arith) (omega arith) later in
    (both.0, turns.0, turns.1)

-- a first try isn't a later one
tries_apart : (m n t : ℕ) (a b : List ℕ) → m < 2 ^ 32 → n < 2 ^ 32 → 80 ∷ (decimal m ++ 32 ∷ a) ≡ 80 ∷ (decimal n ++ 82 ∷ (decimal t ++ 32 ∷ b)) → ⊥
tries_apart m n t a b fits fits' same =
    let both = cut_number m n (line (32 ∷ a)) (line (82 ∷ (decimal t ++ 32 ∷ b))) (omega arith) (omega arith) refl refl
    (number_before m n (32 ∷ a) (82 ∷ (decimal t ++ 32 ∷ b)) same) in
    let e : ◌≡◌ {A = ℕ} 32 82 = ap (byte_at 0) both.1 in
    omega (arith, e)

one_tag : (t u : Tag) (part a b : List ℕ) → IsTagOf t part a → IsTagOf u part b → (t ≡ u) × (a ≡ b)
one_tag (Play m) (Play n) part a b is is' = let both = one_number 80 m n a b is.0 is'.0 (sym is.1 ∙ is'.1) in (ap Play both.0, both.1)
one_tag (Play m) (Again n t) part a b is is' = absurd (tries_apart m n t a b is.0 is'.0 (sym is.1 ∙ is'.3))
one_tag (Again m s) (Play n) part a b is is' = absurd (tries_apart n m s b a is'.0 is.0 (sym is'.1 ∙ is.3))
one_tag (Again m s) (Again n t) part a b is is' =
    let all = tried_number m n s t a b is.0 is'.0 is.2 is'.2 (sym is.3 ∙ is'.3) in (ap (λ x. Again x s) all.0 ∙ ap (Again n) all.1, all.2)
one_tag (Again m s) (Count n) part a b is is' = let e : ◌≡◌ {A = ℕ} 80 67 = ap (λ x. get_or x 0 0) (sym is.3 ∙ is'.1) in absurd (omega arith)
one_tag (Count m) (Again n t) part a b is is' = let e : ◌≡◌ {A = ℕ} 67 80 = ap (λ x. get_or x 0 0) (sym is.1 ∙ is'.3) in absurd (omega arith)
one_tag (Play m) (Count n) part a b is is' = let e : ◌≡◌ {A = ℕ} 80 67 = ap (λ x. get_or x 0 0) (sym is.1 ∙ is'.1) in absurd (omega arith)
one_tag (Count m) (Play n) part a b is is' = let e : ◌≡◌ {A = ℕ} 67 80 = ap (λ x. get_or x 0 0) (sym is.1 ∙ is'.1) in absurd (omega arith)
one_tag (Count m) (Count n) part a b is is' = let both = one_number 67 m n a b is.0 is'.0 (sym is.1 ∙ is'.1) in (ap Count both.0, both.1)
one_tag Strange u part a b is is' = absurd is
one_tag t Strange part a b is is' = absurd is'

-- an argument, and what stands behind it, begins with no brace where it is one part
bare_byte : (b : ℕ) (bytes : List ℕ) → is_bare (b ∷ bytes) ≡ true → is_astring_byte b ≡ true
bare_byte b bytes is =
    (and_parts (is_astring_byte b) (list_all is_astring_byte bytes)
    (and_parts (nat_lt 0 (length (b ∷ bytes)) && not (str_eq_ignore_ascii_case (b ∷ bytes) (codes "NIL"))) (list_all is_astring_byte (b ∷ bytes)) is).1).0

two_parts : (text size octets : List ℕ) (later : List (List ℕ)) → text ∷ [] ≡ (size ∷ octets ∷ []) ⌢ later → ⊥
unfolding ◌⌢◌
two_parts text size octets [] same = cc
two_parts text size octets (part ∷ later) same = cc

no_brace_from : (text bytes : List ℕ) (later : List (List ℕ)) (b q : Bool) → is_bare bytes ≡ b
    → text ∷ [] ≡ cond b (line bytes) (cond q (line (quoted bytes)) (literal bytes)) ⌢ later → get_or text 0 0 ≡ 123 → ⊥
no_brace_from text [] later true q bare same brace = cc
no_brace_from text (c ∷ bytes) later true q bare same brace =
    let first : c ≡ 123 = sym (ap (byte_at 0) same ∙ byte_of_line 0 (c ∷ bytes) later (omega arith)) ∙ brace in
    cc (ap is_astring_byte first, bare_byte c bytes bare)
no_brace_from text bytes later false true bare same brace =
    let first : ◌≡◌ {A = ℕ} 34 123 = sym (ap (byte_at 0) same ∙ byte_of_line 0 (quoted bytes) later (omega arith)) ∙ brace in
    omega (arith, first)
no_brace_from text bytes later false false bare same brace =
    two_parts text (header (decimal (length bytes)) ++ crlf) bytes later (same ∙ ap (λ p. p ⌢ later) (literal_is bytes))

-- so it isn't the header of a literal alone
no_argument : (n : ℕ) (bytes : List ℕ) (later : List (List ℕ)) → announced n ≡ astring_parts bytes ⌢ later → ⊥
no_argument n bytes later same =
    no_brace_from (123 ∷ (decimal n ++ 125 ∷ crlf)) bytes later (is_bare bytes) (list_all is_quotable bytes) refl (sym (announced_is n) ∙ same) refl

-- what a part begins with
byte_is : (k : ℕ) (word text : List ℕ) (later parts : List (List ℕ)) → k < length word → text ∷ later ≡ line word ⌢ parts → get_or text k 0 ≡ get_or word k 0
byte_is k word text later parts within is = ap (byte_at k) is ∙ byte_of_line k word parts within

-- no command is read
abbrev Never : Command → Type 0
Never command = ⊥

-- AUTHENTICATE PLAIN alone
alone : (text : List ℕ) (later : List (List ℕ)) → text ∷ later ≡ begun_parts Response → later ≡ []
unfolding ◌⌢◌
alone text later is = cc

no_response : (command : Command) (text : List ℕ) (later : List (List ℕ)) → IsHeld command → text ∷ later ≡ begun_parts Response →
    text ∷ later ≡ command_parts command ⌢ line crlf → ⊥
no_response command text later held is same =
    let kind : get_or text 1 0 ≡ 85 = second_is Response text later is in
    let one = alone text later is in
    command_read Never (get_or text 1 0) text later refl
    (λ e. absurd (omega (arith, e, kind))) (λ e. absurd (omega (arith, e, kind))) (λ e account held two. let both = sym one ∙ two in cc)
    (λ e. absurd (omega (arith, e, kind))) (λ e. absurd (omega (arith, e, kind))) (λ i o u s a. absurd (u kind)) command held same

-- a LOGIN up to the header of a literal
no_logout : (text : List ℕ) (later parts : List (List ℕ)) → text ∷ later ≡ words "LOGIN " ⌢ parts → text ≡ codes "LOGOUT" ++ crlf → ⊥
no_logout text later parts is out =
    let four : get_or text 3 0 ≡ 73 = byte_is 3 (codes "LOGIN ") text later parts (omega arith) is in
    let other : get_or text 3 0 ≡ 79 = ap (λ x. get_or x 3 0) out in
    omega arith

no_login : (command : Command) (text : List ℕ) (later : List (List ℕ)) → IsHeld command → get_or text 1 0 ≡ 79 →
    ReadsLogin Never text later → text ∷ later ≡ command_parts command ⌢ line crlf → ⊥
no_login command text later held kind login same =
    command_read Never (get_or text 1 0) text later refl
    (λ e. absurd (omega (arith, e, kind))) (λ e. login) (λ e. absurd (omega (arith, e, kind)))
    (λ e. absurd (omega (arith, e, kind))) (λ e. absurd (omega (arith, e, kind))) (λ i o u s a. absurd (o kind)) command held same

no_user : (n : ℕ) (command : Command) (text : List ℕ) (later : List (List ℕ)) → IsHeld command → text ∷ later ≡ begun_parts (User n) →
    text ∷ later ≡ command_parts command ⌢ line crlf → ⊥
no_user n command text later held is same =
    let rest : drop 6 text ∷ later ≡ announced n = login_rest (User n) text later is refl in
    no_login command text later held (second_is (User n) text later is)
    (record {
      login = λ account first kept begins next. no_argument n account.user (words " " ⌢ (astring_parts account.password ⌢ line crlf))
          (sym rest ∙ ap (λ x. drop 6 x ∷ later) begins ∙ next);
      logout = no_logout text later (announced n) is;
    }) same

no_password : (user : List ℕ) (n : ℕ) (command : Command) (text : List ℕ) (later : List (List ℕ)) → IsUser user → IsHeld command
    → text ∷ later ≡ begun_parts (Password user n) → text ∷ later ≡ command_parts command ⌢ line crlf → ⊥
no_password user n command text later named held is same =
    let rest : drop 6 text ∷ later ≡ astring_parts user ⌢ (words " " ⌢ announced n) = login_rest (Password user n) text later is refl in
    no_login command text later held (second_is (Password user n) text later is)
    (record {
      login = λ account first kept begins next. behind_user account kept (sym rest ∙ ap (λ x. drop 6 x ∷ later) begins ∙ next);
      logout = no_logout text later (astring_parts user ⌢ (words " " ⌢ announced n)) is;
    }) same
  where
    behind_user : (account : Credentials) → IsHeldAccount account
        → astring_parts user ⌢ (words " " ⌢ announced n) ≡ astring_parts account.user ⌢ (words " " ⌢ (astring_parts account.password ⌢ line crlf)) → ⊥
    behind_user account kept both =
        let password = astring_parts account.password ⌢ line crlf in
        let users = astring_same user account.user (words " " ⌢ announced n) (words " " ⌢ password) named.text.short kept.kept.user.short
        (stops_line is_astring_byte 32 [] (announced n) refl) (stops_line is_astring_byte 32 [] password refl) both in
        no_argument n account.password (line crlf)
        (cut_same (codes " ") (announced n) password (omega arith) (some_behind (astring_parts account.password) (line crlf) (omega arith)) users.1)

-- a SEARCH up to the header of a literal
search_rest : (from n : ℕ) (text : List ℕ) (later : List (List ℕ)) → text ∷ later ≡ begun_parts (Id from n)
    → drop 4 text ∷ later ≡ words "SEARCH UID " ⌢ (number from ⌢ (words ":* HEADER Message-ID " ⌢ announced n))
unfolding ◌⌢◌
search_rest from n text later is = behind_word (codes "UID ")
    (words "SEARCH UID " ⌢ (number from ⌢ (words ":* HEADER Message-ID " ⌢ announced n))) text later (omega arith) is

no_id : (from n : ℕ) (command : Command) (text : List ℕ) (later : List (List ℕ)) → IsNonzero32 from → IsHeld command
    → text ∷ later ≡ begun_parts (Id from n) → text ∷ later ≡ command_parts command ⌢ line crlf → ⊥
no_id from n command text later fits held is same =
    let kind : get_or text 1 0 ≡ 73 = second_is (Id from n) text later is in
    let rest = search_rest from n text later is in
    let one : get_or (drop 4 text) 0 0 ≡ 83 = byte_is 0 (codes "SEARCH UID ") (drop 4 text) later _ (omega arith) rest in
    let two : get_or (drop 4 text) 1 0 ≡ 69 = byte_is 1 (codes "SEARCH UID ") (drop 4 text) later _ (omega arith) rest in
    let behind : drop 11 (drop 4 text) ∷ later ≡ number from ⌢ (words ":* HEADER Message-ID " ⌢ announced n) =
    behind_word (codes "SEARCH UID ") (number from ⌢ (words ":* HEADER Message-ID " ⌢ announced n)) (drop 4 text) later
    (some_behind (number from) _ (some_first _ _ _)) rest in
    command_read Never (get_or text 1 0) text later refl
    (λ e. record {
      all = λ t. omega (arith, one, ap (λ x. get_or x 0 0) t);
      row = λ uid kept t. omega (arith, one, ap (λ x. get_or x 0 0) t);
      ids = λ uids kept t. omega (arith, one, ap (λ x. get_or x 0 0) t);
      shift = λ uid to first kept name t next. omega (arith, one, ap (λ x. get_or x 0 0) t);
      whole = λ uid kept t. omega (arith, one, ap (λ x. get_or x 0 0) t);
      copy = λ uid to first kept name t next. omega (arith, one, ap (λ x. get_or x 0 0) t);
      expunge = λ uid kept t. omega (arith, one, ap (λ x. get_or x 0 0) t);
      search = λ uid id first kept carried t next. behind_number uid id kept (sym behind ∙ ap (λ x. drop 11 x ∷ later) t ∙ next);
      store = λ uid since add flags first kept mark set t next. omega (arith, two, ap (λ x. get_or x 1 0) t);
    })
    (λ e. absurd (omega (arith, e, kind))) (λ e. absurd (omega (arith, e, kind)))
    (λ e. absurd (omega (arith, e, kind))) (λ e. absurd (omega (arith, e, kind))) (λ i o u s a. absurd (i kind)) command held same
  where
    behind_number : (uid : ℕ) (id : List ℕ) → IsNonzero32 uid
        → number from ⌢ (words ":* HEADER Message-ID " ⌢ announced n) ≡ number uid ⌢ (words ":* HEADER Message-ID " ⌢ (astring_parts id ⌢ line crlf)) → ⊥
    behind_number uid id kept both =
        let text = astring_parts id ⌢ line crlf in
        let numbers = cut_number from uid (words ":* HEADER Message-ID " ⌢ announced n) (words ":* HEADER Message-ID " ⌢ text)
        (omega (arith, fits.fits)) (omega (arith, kept.fits))
        (stops_line is_ascii_digit 58 _ (announced n) refl) (stops_line is_ascii_digit 58 _ text refl) both in
        no_argument n id (line crlf) (cut_same (codes ":* HEADER Message-ID ") (announced n) text (omega arith)
        (some_behind (astring_parts id) (line crlf) (omega arith)) numbers.1)

-- an APPEND up to the header of its literal
one_part : (to : List ℕ) (flags : List (List ℕ)) (n : ℕ) (text : List ℕ) (later : List (List ℕ)) → IsLone (astring_parts to) →
    text ∷ later ≡ begun_parts (Message to flags n) → later ≡ []
unfolding ◌⌢◌
one_part to flags n text later one is =
    let whole : text ∷ later ≡ (codes "APPEND " ++ (one.part ++ (codes " (" ++ (list_text flags ++ (codes ") " ++ (header (decimal n) ++ crlf)))))) ∷ []
    = is ∙ ap (λ x. words "APPEND " ⌢ (x ⌢ (words " (" ⌢ (line (list_text flags) ⌢ (words ") " ⌢ announced n))))) one.is in
    cc

no_message : (to : List ℕ) (flags : List (List ℕ)) (n : ℕ) (command : Command) (text : List ℕ) (later : List (List ℕ)) → IsBoxName to → IsHeld command
    → text ∷ later ≡ begun_parts (Message to flags n) → text ∷ later ≡ command_parts command ⌢ line crlf → ⊥
no_message to flags n command text later name held is same =
    let kind : get_or text 1 0 ≡ 80 = second_is (Message to flags n) text later is in
    let one = one_part to flags n text later (one_name to name) is in
    command_read Never (get_or text 1 0) text later refl
    (λ e. absurd (omega (arith, e, kind))) (λ e. absurd (omega (arith, e, kind))) (λ e. absurd (omega (arith, e, kind)))
    (λ e. absurd (omega (arith, e, kind))) (λ e to flags octets end behind name set text front two. let both = sym one ∙ two in cc)
    (λ i o u s a. absurd (a kind)) command held same

no_front : (awaited : Awaited) (command : Command) (text : List ℕ) (later : List (List ℕ)) → IsHeldFront awaited → IsHeld command
    → text ∷ later ≡ begun_parts awaited → text ∷ later ≡ command_parts command ⌢ line crlf → ⊥
no_front Response command text later front held is same = no_response command text later held is same
no_front (User n) command text later front held is same = no_user n command text later held is same
no_front (Password user n) command text later front held is same = no_password user n command text later front.0 held is same
no_front (Id from n) command text later front held is same = no_id from n command text later front.0 held is same
no_front (Message to flags n) command text later front held is same = no_message to flags n command text later front.0 held is same

pub no_text_is_a_front : NoTextIsAFront
no_text_is_a_front tag other command command' [] whole front = some_whole tag command [] whole refl
no_text_is_a_front tag other command command' (part ∷ later) whole front =
    let found = front_found other command' (part ∷ later) front (omega arith) in
    let mine = whole_tagged tag command (part ∷ later) part later whole refl in
    let theirs = front_tagged other found.0 (part ∷ later) part later found.1 refl in
    let same = one_tag tag other part mine.first theirs.first mine.is theirs.is in
    no_front found.0 command theirs.first later found.1.held whole.sent.held theirs.begun (ap (λ x. x ∷ later) (sym same.1) ∙ mine.begun)

-- the first part of a text has its tag
pub first_parts_tell_tags : FirstPartsTellTags
first_parts_tell_tags tag other command command' part behind behind' sent sent' text text' =
    let mine = whole_tagged tag command (part ∷ behind) part behind (record { sent = sent; text = text }) refl in
    let theirs = whole_tagged other command' (part ∷ behind') part behind' (record { sent = sent'; text = text' }) refl in
    (one_tag tag other part mine.first theirs.first mine.is theirs.is).0
