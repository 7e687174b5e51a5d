-- The text of a command tells the command.
use Rattle.std.proofs.Common.{◌≡◌, ℕ, ◌<◌, ◌≤◌, ◌^◌, zero, suc, Bool, true, false, cond, if◌then◌else◌, not, ◌&&◌, ◌==◌, Contains, Result}
use Rattle.std.proofs.Common.{Ok, Option, Some, None, List, [], ◌∷◌, ◌++◌, length, get_or, decimal, codes, refl, ap, sym, ◌∙◌, arith}
use Rattle.std.specs.Char.{is_ascii_digit}
use Rattle.std.specs.List.{list_all, AllByRecursion}
use Rattle.std.proofs.lemmas.Bool.Decides.{nat_tests}
use Rattle.std.proofs.lemmas.List.{append_cancel_right}
use Rattle.base64.specs.Engines.{standard}
use Rattle.base64.specs.GeneralPurpose.{decode_of, IsBytes, IsConsistent}
use Rattle.base64.proofs.EngineFacts.{decode_of-encode_of}
use Rattle.flag_set.specs.FlagSet.{IsFlagSet}
use Rattle.flag_set.specs.FlagText.{list_text}
use Rattle.mail_base.specs.Account.{Credentials}
use Rattle.mail_base.specs.BoxName.{IsBoxName}
use Rattle.mail_base.specs.declared.tag.Tag.{Tag}
use Rattle.mail_base.specs.declared.tag.Tag.TheVariants.{Play, Again, Count, Strange}
use Rattle.uid_sets.specs.UidSet.{IsCanonical}
use Rattle.uid_sets.specs.Spelling.{set_text}
use Rattle.uid_sets.specs.declared.uid.UidRange.{UidRange}
use Rattle.imap_model.specs.Astring.{astring_parts, literal}
use Rattle.imap_model.specs.Tagged.{is_astring_byte}
use Rattle.imap_model.specs.CommandText.{response_of, mark_parts, sign, command_parts}
use Rattle.imap_model.specs.OneText.{OneText, IsText, IsAccount, IsMark, IsKept, IsKeptTag}
use Rattle.imap_model.specs.CommandParts.{line, words, number, crlf, wait, ◌⌢◌}
use Rattle.imap_model.specs.TagText.{tag_parts, IsCommandTag}
use Rattle.imap_model.specs.declared.mark.Mark.{Mark}
use Rattle.imap_model.specs.declared.command.Command.{Command}
use Rattle.imap_model.specs.declared.command.Command.TheVariants as commands
use Rattle.imap_model.proofs.Joining.{parts_assoc, some_behind, some_first}
use Rattle.imap_model.proofs.Cutting.{run_same, StopsAt, stops_line, cut_run, cut_same, cut_number, byte_at, byte_of_line, all_digits}
use Rattle.imap_model.proofs.Arguments.{astring_same, literal_same}
use Rattle.imap_model.proofs.Listed.{is_solid, solid_number, solid_set, cut_flags, cut_set, is_inside}

-- the words that each command begins with
abbrev front : Command → List ℕ
front commands.Capability = codes "CAPABILITY"
front (commands.Login account) = codes "LOGIN "
front (commands.Plain account) = codes "AUTHENTICATE PLAIN"
front (commands.Enable rev2) = codes "ENABLE "
front (commands.Select name since) = codes "SELECT "
front commands.FetchAll = codes "UID FETCH "
front (commands.FetchRow uid) = codes "UID FETCH "
front (commands.Search from id) = codes "UID SEARCH UID "
front (commands.FetchIds uids) = codes "UID FETCH "
front (commands.FetchText uid) = codes "UID FETCH "
front (commands.Store uid since add flags) = codes "UID STORE "
front (commands.Shift uid to) = codes "UID MOVE "
front (commands.Copy uid to) = codes "UID COPY "
front (commands.Expunge uid) = codes "UID EXPUNGE "
front (commands.Append to flags octets) = codes "APPEND "
front commands.Logout = codes "LOGOUT"

-- what stands behind them
abbrev tail_of : Command → List (List ℕ)
tail_of commands.Capability = []
tail_of (commands.Login account) = astring_parts account.user ⌢ words " " ⌢ astring_parts account.password
tail_of (commands.Plain account) = wait ⌢ line (response_of account)
tail_of (commands.Enable rev2) = if rev2 then words "IMAP4rev2 QRESYNC" else words "QRESYNC"
tail_of (commands.Select name since) = astring_parts name ⌢ mark_parts since
tail_of commands.FetchAll = words "1:* (UID FLAGS MODSEQ)"
tail_of (commands.FetchRow uid) = number uid ⌢ words " (UID FLAGS MODSEQ)"
tail_of (commands.Search from id) = number from ⌢ words ":* HEADER Message-ID " ⌢ astring_parts id
tail_of (commands.FetchIds uids) = line (set_text uids) ⌢ words " (UID BODY.PEEK[HEADER.FIELDS (MESSAGE-ID)])"
tail_of (commands.FetchText uid) = number uid ⌢ words " (UID BODY.PEEK[])"
tail_of (commands.Store uid since add flags) =
    number uid ⌢ words " (UNCHANGEDSINCE " ⌢ number since ⌢ words ") " ⌢ sign add ⌢ words "FLAGS (" ⌢ line (list_text flags) ⌢ words ")"
tail_of (commands.Shift uid to) = number uid ⌢ words " " ⌢ astring_parts to
tail_of (commands.Copy uid to) = number uid ⌢ words " " ⌢ astring_parts to
tail_of (commands.Expunge uid) = number uid
tail_of (commands.Append to flags octets) = astring_parts to ⌢ words " (" ⌢ line (list_text flags) ⌢ words ") " ⌢ literal octets
tail_of commands.Logout = []

whole_is : (c : Command) → command_parts c ≡ line (front c) ⌢ tail_of c
unfolding ◌⌢◌
whole_is commands.Capability = refl
whole_is (commands.Login account) = refl
whole_is (commands.Plain account) = refl
whole_is (commands.Enable true) = refl
whole_is (commands.Enable false) = refl
whole_is (commands.Select name since) = refl
whole_is commands.FetchAll = refl
whole_is (commands.FetchRow uid) = refl
whole_is (commands.Search from id) = refl
whole_is (commands.FetchIds uids) = refl
whole_is (commands.FetchText uid) = refl
whole_is (commands.Store uid since add flags) = refl
whole_is (commands.Shift uid to) = refl
whole_is (commands.Copy uid to) = refl
whole_is (commands.Expunge uid) = refl
whole_is (commands.Append to flags octets) = refl
whole_is commands.Logout = refl

-- the end of a command
abbrev end : List (List ℕ)
end = line crlf

abbrev rest : Command → List (List ℕ)
rest c = tail_of c ⌢ end

ended : (c : Command) → command_parts c ⌢ end ≡ line (front c) ⌢ rest c
ended c = ap (λ p. p ⌢ end) (whole_is c) ∙ parts_assoc (line (front c)) (tail_of c) end

rest_some : (c : Command) → 0 < length (rest c)
rest_some c = some_behind (tail_of c) end (omega arith)

-- the two commands have one text
abbrev Same : Command → Command → Type 0
Same c d = command_parts c ⌢ end ≡ command_parts d ⌢ end

fronts : (c d : Command) → Same c d → line (front c) ⌢ rest c ≡ line (front d) ⌢ rest d
fronts c d same = sym (ended c) ∙ same ∙ ended d

-- behind equal words the texts are the same
tails_same : (c d : Command) → front c ≡ front d → Same c d → rest c ≡ rest d
tails_same c d is same =
    cut_same (front d) (rest c) (rest d) (rest_some c) (rest_some d) (ap (λ f. line f ⌢ rest c) (sym is) ∙ fronts c d same)

front_long : (c : Command) → 6 ≤ length (front c)
front_long commands.Capability = omega arith
front_long (commands.Login account) = omega arith
front_long (commands.Plain account) = omega arith
front_long (commands.Enable rev2) = omega arith
front_long (commands.Select name since) = omega arith
front_long commands.FetchAll = omega arith
front_long (commands.FetchRow uid) = omega arith
front_long (commands.Search from id) = omega arith
front_long (commands.FetchIds uids) = omega arith
front_long (commands.FetchText uid) = omega arith
front_long (commands.Store uid since add flags) = omega arith
front_long (commands.Shift uid to) = omega arith
front_long (commands.Copy uid to) = omega arith
front_long (commands.Expunge uid) = omega arith
front_long (commands.Append to flags octets) = omega arith
front_long commands.Logout = omega arith

front_byte : (k : ℕ) (c d : Command) → k < 6 → Same c d → get_or (front c) k 0 ≡ get_or (front d) k 0
front_byte k c d within same =
    sym (byte_of_line k (front c) (rest c) (omega (arith, front_long c))) ∙ ap (byte_at k) (fronts c d same)
    ∙ byte_of_line k (front d) (rest d) (omega (arith, front_long d))

-- five bytes tell the kinds of commands apart, up to the four FETCHes
record Alike (c d : Command) : Type 0 where
  one : get_or (front c) 0 0 ≡ get_or (front d) 0 0
  two : get_or (front c) 1 0 ≡ get_or (front d) 1 0
  four : get_or (front c) 3 0 ≡ get_or (front d) 3 0
  five : get_or (front c) 4 0 ≡ get_or (front d) 4 0
  six : get_or (front c) 5 0 ≡ get_or (front d) 5 0

alike : (c d : Command) → Same c d → Alike c d
alike c d same = record {
  one = front_byte 0 c d (omega arith) same;
  two = front_byte 1 c d (omega arith) same;
  four = front_byte 3 c d (omega arith) same;
  five = front_byte 4 c d (omega arith) same;
  six = front_byte 5 c d (omega arith) same;
}

same_capability : (d : Command) → IsKept d → Same commands.Capability d → commands.Capability ≡ d
same_capability commands.Capability kept same = refl
same_capability d kept same = let a = alike commands.Capability d same in absurd (omega arith)

same_logout : (d : Command) → IsKept d → Same commands.Logout d → commands.Logout ≡ d
same_logout commands.Logout kept same = refl
same_logout d kept same = let a = alike commands.Logout d same in absurd (omega arith)

credentials_same : (a b : Credentials) → a.user ≡ b.user → a.password ≡ b.password → a ≡ b
credentials_same a b user password = λ i. record { user = user i; password = password i }

chain_three : (a b d : List (List ℕ)) → (a ⌢ (b ⌢ d)) ⌢ end ≡ a ⌢ (b ⌢ (d ⌢ end))
chain_three a b d = parts_assoc a (b ⌢ d) end ∙ ap (λ p. a ⌢ p) (parts_assoc b d end)

same_login : (account : Credentials) (d : Command) → IsAccount account → IsKept d → Same (commands.Login account) d → commands.Login account ≡ d
same_login a (commands.Login b) kept kept' same =
    let tails = tails_same (commands.Login a) (commands.Login b) refl same in
    let users = astring_same a.user b.user (words " " ⌢ (astring_parts a.password ⌢ end))
    (words " " ⌢ (astring_parts b.password ⌢ end)) kept.user.short kept'.user.short
    (stops_line is_astring_byte 32 [] _ refl) (stops_line is_astring_byte 32 [] _ refl)
    (sym (chain_three (astring_parts a.user) (words " ") (astring_parts a.password)) ∙ tails
    ∙ chain_three (astring_parts b.user) (words " ") (astring_parts b.password)) in
    let behind = cut_same (codes " ") (astring_parts a.password ⌢ end) (astring_parts b.password ⌢ end) (some_behind _ end (omega arith))
    (some_behind _ end (omega arith)) users.1 in
    let passwords = astring_same a.password b.password end end kept.password.short kept'.password.short refl refl behind in
    ap commands.Login (credentials_same a b users.0 passwords.0)
same_login a d kept kept' same = let e = alike (commands.Login a) d same in absurd (omega arith)

-- AUTHENTICATE PLAIN: the response tells the account
abbrev message : Credentials → List ℕ
message a = 0 ∷ (a.user ++ 0 ∷ a.password)

bytes_at : (bytes : List ℕ) → AllByRecursion (λ byte. byte < 256) bytes → (k : ℕ) → get_or bytes k 0 < 256
bytes_at [] all k = omega arith
bytes_at (b ∷ bytes) all zero = all.0
bytes_at (b ∷ bytes) all (suc k) = bytes_at bytes all.1 k

bytes_both : (xs ys : List ℕ) → AllByRecursion (λ byte. byte < 256) xs → AllByRecursion (λ byte. byte < 256) ys → AllByRecursion (λ byte. byte < 256) (xs ++ ys)
bytes_both [] ys all all' = all'
bytes_both (x ∷ xs) ys all all' = (all.0, bytes_both xs ys all.1 all')

message_bytes : (a : Credentials) → IsAccount a → IsBytes (message a)
message_bytes a kept = bytes_at (message a) (omega arith, bytes_both a.user (0 ∷ a.password) kept.user.each (omega arith, kept.password.each))

-- no byte is NUL
abbrev is_full : ℕ → Bool
is_full byte = not (byte == 0)

full_from : (b : ℕ) → (b ≡ 0 → ⊥) → is_full b ≡ true
full_from b other = grind (arith, nat_tests)

both_true : (x y : Bool) → x ≡ true → y ≡ true → (x && y) ≡ true
both_true true true h k = refl
both_true true false h k = k
both_true false y h k = h

all_full : (bytes : List ℕ) → ¬ (Contains bytes 0) → list_all is_full bytes ≡ true
all_full [] none = refl
all_full (b ∷ bytes) none =
    both_true (is_full b) (list_all is_full bytes) (full_from b (λ e. none (0, omega arith, e)))
    (all_full bytes (λ there. none (suc there.0, omega (arith, there.1), there.2)))

message_same : (a b : Credentials) → IsAccount a → IsAccount b → message a ≡ message b → a ≡ b
message_same a b kept kept' same =
    let inner : a.user ++ 0 ∷ a.password ≡ b.user ++ 0 ∷ b.password = cc in
    let both = run_same is_full a.user b.user (0 ∷ a.password) (0 ∷ b.password) (all_full a.user kept.plain.user_has_none)
    (all_full b.user kept'.plain.user_has_none) refl refl inner in
    let second = both.1 in
    let passwords : a.password ≡ b.password = cc in
    credentials_same a b both.0 passwords

Ok_same : {E : Type 0} (x y : List ℕ) → ◌≡◌ {A = Result (List ℕ) E} (Ok x) (Ok y) → x ≡ y
Ok_same x y same = cc

consistent : IsConsistent standard
consistent = refl

response_same : (a b : Credentials) → IsAccount a → IsAccount b → response_of a ≡ response_of b → a ≡ b
unfolding response_of
response_same a b kept kept' same =
    message_same a b kept kept' (Ok_same (message a) (message b)
    (sym (decode_of-encode_of standard (message a) consistent (message_bytes a kept)) ∙ ap (decode_of standard) same
    ∙ decode_of-encode_of standard (message b) consistent (message_bytes b kept')))

plain_parts : (a : Credentials) → rest (commands.Plain a) ≡ crlf ∷ (response_of a ++ crlf) ∷ []
unfolding ◌⌢◌
plain_parts a = refl

same_plain : (account : Credentials) (d : Command) → IsAccount account → IsKept d → Same (commands.Plain account) d → commands.Plain account ≡ d
same_plain a (commands.Plain b) kept kept' same =
    let tails = sym (plain_parts a) ∙ tails_same (commands.Plain a) (commands.Plain b) refl same ∙ plain_parts b in
    let second : response_of a ++ crlf ≡ response_of b ++ crlf = cc in
    ap commands.Plain (response_same a b kept kept' (append_cancel_right (response_of a) (response_of b) crlf second))
same_plain a d kept kept' same = let e = alike (commands.Plain a) d same in absurd (omega arith)

-- ENABLE: the first byte behind it tells which
enable_byte : (rev2 : Bool) → byte_at 0 (rest (commands.Enable rev2)) ≡ cond rev2 73 81
unfolding ◌⌢◌
enable_byte true = refl
enable_byte false = refl

cond_same : (x y : Bool) → ◌≡◌ {A = ℕ} (cond x 73 81) (cond y 73 81) → x ≡ y
cond_same true true same = refl
cond_same true false same = absurd (omega arith)
cond_same false true same = absurd (omega arith)
cond_same false false same = refl

same_enable : (rev2 : Bool) (d : Command) → IsKept d → Same (commands.Enable rev2) d → commands.Enable rev2 ≡ d
same_enable x (commands.Enable y) kept same =
    let tails = tails_same (commands.Enable x) (commands.Enable y) refl same in
    ap commands.Enable (cond_same x y (sym (enable_byte x) ∙ ap (byte_at 0) tails ∙ enable_byte y))
same_enable x d kept same = let e = alike (commands.Enable x) d same in absurd (omega arith)

-- SELECT: the name, and then the mark or the end
chain_five : (a b d e f : List (List ℕ)) → (a ⌢ (b ⌢ (d ⌢ (e ⌢ f)))) ⌢ end ≡ a ⌢ (b ⌢ (d ⌢ (e ⌢ (f ⌢ end))))
chain_five a b d e f = parts_assoc a (b ⌢ (d ⌢ (e ⌢ f))) end ∙ ap (λ p. a ⌢ p) (parts_assoc b (d ⌢ (e ⌢ f)) end ∙ ap (λ p. b ⌢ p) (chain_three d e f))

-- the parts of a mark up to the end
abbrev mark_end : Mark → List (List ℕ)
mark_end mark = words " (QRESYNC (" ⌢ (number mark.validity ⌢ (words " " ⌢ (number mark.modseq ⌢ (words "))" ⌢ end))))

mark_is : (mark : Mark) → mark_parts (Some mark) ⌢ end ≡ mark_end mark
mark_is mark = chain_five (words " (QRESYNC (") (number mark.validity) (words " ") (number mark.modseq) (words "))")

mark_stops : (since : Option Mark) → StopsAt is_astring_byte (mark_parts since ⌢ end)
unfolding ◌⌢◌
mark_stops None = refl
mark_stops (Some mark) = refl

no_mark : (mark : Mark) → mark_parts None ⌢ end ≡ mark_parts (Some mark) ⌢ end → ⊥
unfolding ◌⌢◌
no_mark mark same = let first : ◌≡◌ {A = ℕ} 13 32 = ap (byte_at 0) same in omega arith

marks_same : (m n : Mark) → m.validity ≡ n.validity → m.modseq ≡ n.modseq → m ≡ n
marks_same m n validity modseq = λ i. record { validity = validity i; modseq = modseq i }

mark_same : (m n : Option Mark) → IsMark m → IsMark n → mark_parts m ⌢ end ≡ mark_parts n ⌢ end → m ≡ n
mark_same None None kept kept' same = refl
mark_same None (Some n) kept kept' same = absurd (no_mark n same)
mark_same (Some m) None kept kept' same = absurd (no_mark m (sym same))
mark_same (Some m) (Some n) kept kept' same =
    let first = cut_same (codes " (QRESYNC (") _ _ (some_first _ _ _) (some_first _ _ _) (sym (mark_is m) ∙ same ∙ mark_is n) in
    let validities = cut_number m.validity n.validity _ _ (omega (arith, kept.0)) (omega (arith, kept'.0))
    (stops_line is_ascii_digit 32 [] _ refl) (stops_line is_ascii_digit 32 [] _ refl) first in
    let second = cut_same (codes " ") _ _ (some_first _ _ _) (some_first _ _ _) validities.1 in
    let modseqs = cut_number m.modseq n.modseq _ _ (omega (arith, kept.1)) (omega (arith, kept'.1))
    (stops_line is_ascii_digit 41 (codes ")") _ refl) (stops_line is_ascii_digit 41 (codes ")") _ refl) second in
    ap (λ mark. Some mark) (marks_same m n validities.0 modseqs.0)

name_short : (name : List ℕ) → IsBoxName name → length name < 2 ^ 64
name_short name is = omega (arith, is.text.few)

same_select : (name : List ℕ) (since : Option Mark) (d : Command) → IsBoxName name → IsMark since → IsKept d →
    Same (commands.Select name since) d → commands.Select name since ≡ d
same_select x m (commands.Select y n) kept mark kept' same =
    let tails = tails_same (commands.Select x m) (commands.Select y n) refl same in
    let names = astring_same x y (mark_parts m ⌢ end) (mark_parts n ⌢ end) (name_short x kept) (name_short y kept'.0) (mark_stops m) (mark_stops n)
    (sym (parts_assoc (astring_parts x) (mark_parts m) end) ∙ tails ∙ parts_assoc (astring_parts y) (mark_parts n) end) in
    let first : x ≡ y = names.0 in
    let second : m ≡ n = mark_same m n mark kept'.1 names.1 in
    cc
same_select x m d kept mark kept' same = let e = alike (commands.Select x m) d same in absurd (omega arith)

-- the four FETCHes
abbrev row_end : List (List ℕ)
row_end = words " (UID FLAGS MODSEQ)" ⌢ end

abbrev ids_end : List (List ℕ)
ids_end = words " (UID BODY.PEEK[HEADER.FIELDS (MESSAGE-ID)])" ⌢ end

abbrev text_end : List (List ℕ)
text_end = words " (UID BODY.PEEK[])" ⌢ end

all_is : rest commands.FetchAll ≡ line (codes "1:*") ⌢ row_end
unfolding ◌⌢◌
all_is = refl

row_is : (uid : ℕ) → rest (commands.FetchRow uid) ≡ number uid ⌢ row_end
row_is uid = parts_assoc (number uid) (words " (UID FLAGS MODSEQ)") end

ids_is : (uids : List UidRange) → rest (commands.FetchIds uids) ≡ line (set_text uids) ⌢ ids_end
ids_is uids = parts_assoc (line (set_text uids)) (words " (UID BODY.PEEK[HEADER.FIELDS (MESSAGE-ID)])") end

text_is : (uid : ℕ) → rest (commands.FetchText uid) ≡ number uid ⌢ text_end
text_is uid = parts_assoc (number uid) (words " (UID BODY.PEEK[])") end

no_rows : row_end ≡ ids_end → ⊥
unfolding ◌⌢◌
no_rows same = let seventh : ◌≡◌ {A = ℕ} 70 66 = ap (byte_at 6) same in omega arith

no_row_text : row_end ≡ text_end → ⊥
unfolding ◌⌢◌
no_row_text same = let seventh : ◌≡◌ {A = ℕ} 70 66 = ap (byte_at 6) same in omega arith

no_ids_text : ids_end ≡ text_end → ⊥
unfolding ◌⌢◌
no_ids_text same = let behind : ◌≡◌ {A = ℕ} 72 93 = ap (byte_at 16) same in omega arith

no_star : (uid : ℕ) → uid < 2 ^ 64 → codes "1:*" ≡ decimal uid → ⊥
no_star uid fits same = cc (ap (list_all is_ascii_digit) same, all_digits uid fits)

all_row : (uid : ℕ) → uid < 2 ^ 64 → line (codes "1:*") ⌢ row_end ≡ number uid ⌢ row_end → ⊥
all_row uid fits same =
    no_star uid fits (cut_run is_solid (codes "1:*") (decimal uid) row_end row_end refl (solid_number uid fits)
    (stops_line is_solid 32 _ end refl) (stops_line is_solid 32 _ end refl) same).0

all_ids : (uids : List UidRange) → IsCanonical uids → line (codes "1:*") ⌢ row_end ≡ line (set_text uids) ⌢ ids_end → ⊥
all_ids uids is same =
    no_rows (cut_run is_solid (codes "1:*") (set_text uids) row_end ids_end refl (solid_set uids is) (stops_line is_solid 32 _ end refl)
    (stops_line is_solid 32 _ end refl) same).1

row_ids : (uid : ℕ) (uids : List UidRange) → uid < 2 ^ 64 → IsCanonical uids → number uid ⌢ row_end ≡ line (set_text uids) ⌢ ids_end → ⊥
row_ids uid uids fits is same =
    no_rows (cut_run is_solid (decimal uid) (set_text uids) row_end ids_end (solid_number uid fits) (solid_set uids is)
    (stops_line is_solid 32 _ end refl) (stops_line is_solid 32 _ end refl) same).1

all_text : (uid : ℕ) → uid < 2 ^ 64 → line (codes "1:*") ⌢ row_end ≡ number uid ⌢ text_end → ⊥
all_text uid fits same =
    no_row_text (cut_run is_solid (codes "1:*") (decimal uid) row_end text_end refl (solid_number uid fits) (stops_line is_solid 32 _ end refl)
    (stops_line is_solid 32 _ end refl) same).1

row_text : (m n : ℕ) → m < 2 ^ 64 → n < 2 ^ 64 → number m ⌢ row_end ≡ number n ⌢ text_end → ⊥
row_text m n fits fits' same =
    no_row_text (cut_run is_solid (decimal m) (decimal n) row_end text_end (solid_number m fits) (solid_number n fits')
    (stops_line is_solid 32 _ end refl) (stops_line is_solid 32 _ end refl) same).1

ids_text : (uids : List UidRange) (uid : ℕ) → IsCanonical uids → uid < 2 ^ 64 → line (set_text uids) ⌢ ids_end ≡ number uid ⌢ text_end → ⊥
ids_text uids uid is fits same =
    no_ids_text (cut_run is_solid (set_text uids) (decimal uid) ids_end text_end (solid_set uids is) (solid_number uid fits)
    (stops_line is_solid 32 _ end refl) (stops_line is_solid 32 _ end refl) same).1

same_fetch_all : (d : Command) → IsKept d → Same commands.FetchAll d → commands.FetchAll ≡ d
same_fetch_all commands.FetchAll kept same = refl
same_fetch_all (commands.FetchRow uid) kept same =
    absurd (all_row uid (omega (arith, kept)) (sym all_is ∙ tails_same commands.FetchAll (commands.FetchRow uid) refl same ∙ row_is uid))
same_fetch_all (commands.FetchIds uids) kept same =
    absurd (all_ids uids kept (sym all_is ∙ tails_same commands.FetchAll (commands.FetchIds uids) refl same ∙ ids_is uids))
same_fetch_all (commands.FetchText uid) kept same =
    absurd (all_text uid (omega (arith, kept)) (sym all_is ∙ tails_same commands.FetchAll (commands.FetchText uid) refl same ∙ text_is uid))
same_fetch_all d kept same = let e = alike commands.FetchAll d same in absurd (omega arith)

same_fetch_row : (uid : ℕ) (d : Command) → uid < 2 ^ 32 → IsKept d → Same (commands.FetchRow uid) d → commands.FetchRow uid ≡ d
same_fetch_row m commands.FetchAll kept kept' same =
    absurd (all_row m (omega arith) (sym all_is ∙ sym (tails_same (commands.FetchRow m) commands.FetchAll refl same) ∙ row_is m))
same_fetch_row m (commands.FetchRow n) kept kept' same =
    let both = cut_number m n row_end row_end (omega arith) (omega (arith, kept')) (stops_line is_ascii_digit 32 _ end refl)
    (stops_line is_ascii_digit 32 _ end refl)
    (sym (row_is m) ∙ tails_same (commands.FetchRow m) (commands.FetchRow n) refl same ∙ row_is n) in
    ap commands.FetchRow both.0
same_fetch_row m (commands.FetchIds uids) kept kept' same =
    absurd (row_ids m uids (omega arith) kept' (sym (row_is m) ∙ tails_same (commands.FetchRow m) (commands.FetchIds uids) refl same ∙ ids_is uids))
same_fetch_row m (commands.FetchText n) kept kept' same =
    absurd (row_text m n (omega arith) (omega (arith, kept')) (sym (row_is m) ∙ tails_same (commands.FetchRow m) (commands.FetchText n) refl same ∙ text_is n))
same_fetch_row m d kept kept' same = let e = alike (commands.FetchRow m) d same in absurd (omega arith)

same_fetch_ids : (uids : List UidRange) (d : Command) → IsCanonical uids → IsKept d → Same (commands.FetchIds uids) d → commands.FetchIds uids ≡ d
same_fetch_ids u commands.FetchAll kept kept' same =
    absurd (all_ids u kept (sym all_is ∙ sym (tails_same (commands.FetchIds u) commands.FetchAll refl same) ∙ ids_is u))
same_fetch_ids u (commands.FetchRow n) kept kept' same =
    absurd (row_ids n u (omega (arith, kept')) kept (sym (row_is n) ∙ sym (tails_same (commands.FetchIds u) (commands.FetchRow n) refl same) ∙ ids_is u))
same_fetch_ids u (commands.FetchIds v) kept kept' same =
    let both = cut_set u v ids_end ids_end kept kept' (stops_line is_solid 32 _ end refl) (stops_line is_solid 32 _ end refl)
    (sym (ids_is u) ∙ tails_same (commands.FetchIds u) (commands.FetchIds v) refl same ∙ ids_is v) in
    ap commands.FetchIds both.0
same_fetch_ids u (commands.FetchText n) kept kept' same =
    absurd (ids_text u n kept (omega (arith, kept')) (sym (ids_is u) ∙ tails_same (commands.FetchIds u) (commands.FetchText n) refl same ∙ text_is n))
same_fetch_ids u d kept kept' same = let e = alike (commands.FetchIds u) d same in absurd (omega arith)

same_fetch_text : (uid : ℕ) (d : Command) → uid < 2 ^ 32 → IsKept d → Same (commands.FetchText uid) d → commands.FetchText uid ≡ d
same_fetch_text m commands.FetchAll kept kept' same =
    absurd (all_text m (omega arith) (sym all_is ∙ sym (tails_same (commands.FetchText m) commands.FetchAll refl same) ∙ text_is m))
same_fetch_text m (commands.FetchRow n) kept kept' same =
    absurd (row_text n m (omega (arith, kept')) (omega arith) (sym (row_is n) ∙ sym (tails_same (commands.FetchText m) (commands.FetchRow n) refl same) ∙ text_is m))
same_fetch_text m (commands.FetchIds u) kept kept' same =
    absurd (ids_text u m kept' (omega arith) (sym (ids_is u) ∙ sym (tails_same (commands.FetchText m) (commands.FetchIds u) refl same) ∙ text_is m))
same_fetch_text m (commands.FetchText n) kept kept' same =
    let both = cut_number m n text_end text_end (omega arith) (omega (arith, kept')) (stops_line is_ascii_digit 32 _ end refl)
    (stops_line is_ascii_digit 32 _ end refl)
    (sym (text_is m) ∙ tails_same (commands.FetchText m) (commands.FetchText n) refl same ∙ text_is n) in
    ap commands.FetchText both.0
same_fetch_text m d kept kept' same = let e = alike (commands.FetchText m) d same in absurd (omega arith)

-- SEARCH, MOVE, COPY, EXPUNGE, STORE and APPEND
same_search : (from : ℕ) (id : List ℕ) (d : Command) → from < 2 ^ 32 → IsText id → IsKept d → Same (commands.Search from id) d → commands.Search from id ≡ d
same_search m x (commands.Search n y) kept text kept' same =
    let tails = tails_same (commands.Search m x) (commands.Search n y) refl same in
    let numbers = cut_number m n (words ":* HEADER Message-ID " ⌢ (astring_parts x ⌢ end))
    (words ":* HEADER Message-ID " ⌢ (astring_parts y ⌢ end)) (omega arith) (omega (arith, kept'.0))
    (stops_line is_ascii_digit 58 _ _ refl) (stops_line is_ascii_digit 58 _ _ refl)
    (sym (chain_three (number m) (words ":* HEADER Message-ID ") (astring_parts x)) ∙ tails
    ∙ chain_three (number n) (words ":* HEADER Message-ID ") (astring_parts y)) in
    let behind = cut_same (codes ":* HEADER Message-ID ") (astring_parts x ⌢ end) (astring_parts y ⌢ end) (some_behind _ end (omega arith))
    (some_behind _ end (omega arith)) numbers.1 in
    let ids = astring_same x y end end text.short kept'.1.short refl refl behind in
    let first : m ≡ n = numbers.0 in
    let second : x ≡ y = ids.0 in
    cc
same_search m x d kept text kept' same = let e = alike (commands.Search m x) d same in absurd (omega arith)

-- a UID and a mailbox's name
abbrev to_end : ℕ → List ℕ → List (List ℕ)
to_end uid to = (number uid ⌢ words " " ⌢ astring_parts to) ⌢ end

number_name : (m : ℕ) (x : List ℕ) (n : ℕ) (y : List ℕ) → m < 2 ^ 32 → IsBoxName x → n < 2 ^ 32 → IsBoxName y → to_end m x ≡ to_end n y → (m ≡ n) × (x ≡ y)
number_name m x n y fits name fits' name' tails =
    let numbers = cut_number m n (words " " ⌢ (astring_parts x ⌢ end)) (words " " ⌢ (astring_parts y ⌢ end)) (omega arith) (omega arith)
    (stops_line is_ascii_digit 32 _ _ refl) (stops_line is_ascii_digit 32 _ _ refl)
    (sym (chain_three (number m) (words " ") (astring_parts x)) ∙ tails ∙ chain_three (number n) (words " ") (astring_parts y)) in
    let behind = cut_same (codes " ") (astring_parts x ⌢ end) (astring_parts y ⌢ end) (some_behind _ end (omega arith))
    (some_behind _ end (omega arith)) numbers.1 in
    (numbers.0, (astring_same x y end end (name_short x name) (name_short y name') refl refl behind).0)

same_shift : (uid : ℕ) (to : List ℕ) (d : Command) → uid < 2 ^ 32 → IsBoxName to → IsKept d → Same (commands.Shift uid to) d → commands.Shift uid to ≡ d
same_shift m x (commands.Shift n y) kept name kept' same =
    let both = number_name m x n y kept name kept'.0 kept'.1 (tails_same (commands.Shift m x) (commands.Shift n y) refl same) in
    let first : m ≡ n = both.0 in
    let second : x ≡ y = both.1 in
    cc
same_shift m x d kept name kept' same = let e = alike (commands.Shift m x) d same in absurd (omega arith)

same_copy : (uid : ℕ) (to : List ℕ) (d : Command) → uid < 2 ^ 32 → IsBoxName to → IsKept d → Same (commands.Copy uid to) d → commands.Copy uid to ≡ d
same_copy m x (commands.Copy n y) kept name kept' same =
    let both = number_name m x n y kept name kept'.0 kept'.1 (tails_same (commands.Copy m x) (commands.Copy n y) refl same) in
    let first : m ≡ n = both.0 in
    let second : x ≡ y = both.1 in
    cc
same_copy m x d kept name kept' same = let e = alike (commands.Copy m x) d same in absurd (omega arith)

same_expunge : (uid : ℕ) (d : Command) → uid < 2 ^ 32 → IsKept d → Same (commands.Expunge uid) d → commands.Expunge uid ≡ d
same_expunge m (commands.Expunge n) kept kept' same =
    let both = cut_number m n end end (omega arith) (omega (arith, kept')) refl refl (tails_same (commands.Expunge m) (commands.Expunge n) refl same) in
    ap commands.Expunge both.0
same_expunge m d kept kept' same = let e = alike (commands.Expunge m) d same in absurd (omega arith)

-- a STORE up to its end
abbrev store_flags : List (List ℕ) → List (List ℕ)
store_flags flags = words "FLAGS (" ⌢ (line (list_text flags) ⌢ (words ")" ⌢ end))

abbrev store_sign : Bool → List (List ℕ) → List (List ℕ)
store_sign add flags = words ") " ⌢ (sign add ⌢ store_flags flags)

abbrev store_end : ℕ → ℕ → Bool → List (List ℕ) → List (List ℕ)
store_end uid since add flags = number uid ⌢ (words " (UNCHANGEDSINCE " ⌢ (number since ⌢ store_sign add flags))

store_is : (uid since : ℕ) (add : Bool) (flags : List (List ℕ)) → rest (commands.Store uid since add flags) ≡ store_end uid since add flags
store_is uid since add flags =
    parts_assoc (number uid) _ end
    ∙ ap (λ p. number uid ⌢ p) (parts_assoc (words " (UNCHANGEDSINCE ") _ end
    ∙ ap (λ p. words " (UNCHANGEDSINCE " ⌢ p) (chain_three (number since) (words ") ") (sign add ⌢ (words "FLAGS (" ⌢ (line (list_text flags) ⌢ words ")")))
    ∙ ap (λ p. number since ⌢ (words ") " ⌢ p)) (parts_assoc (sign add) _ end
    ∙ ap (λ p. sign add ⌢ p) (chain_three (words "FLAGS (") (line (list_text flags)) (words ")")))))

sign_byte : (add : Bool) (flags : List (List ℕ)) → byte_at 0 (sign add ⌢ store_flags flags) ≡ cond add 43 45
sign_byte true flags = byte_of_line 0 (codes "+") (store_flags flags) (omega arith)
sign_byte false flags = byte_of_line 0 (codes "-") (store_flags flags) (omega arith)

signs_same : (x y : Bool) → ◌≡◌ {A = ℕ} (cond x 43 45) (cond y 43 45) → x ≡ y
signs_same true true same = refl
signs_same true false same = absurd (omega arith)
signs_same false true same = absurd (omega arith)
signs_same false false same = refl

cut_sign : (add : Bool) (x y : List (List ℕ)) → sign add ⌢ store_flags x ≡ sign add ⌢ store_flags y → store_flags x ≡ store_flags y
cut_sign true x y same = cut_same (codes "+") (store_flags x) (store_flags y) (some_first _ _ _) (some_first _ _ _) same
cut_sign false x y same = cut_same (codes "-") (store_flags x) (store_flags y) (some_first _ _ _) (some_first _ _ _) same

flags_same : (x y : List (List ℕ)) → IsFlagSet x → IsFlagSet y → store_flags x ≡ store_flags y → x ≡ y
flags_same x y set set' same =
    (cut_flags x y (words ")" ⌢ end) (words ")" ⌢ end) set set' (stops_line is_inside 41 [] end refl) (stops_line is_inside 41 [] end refl)
    (cut_same (codes "FLAGS (") _ _ (some_behind _ _ (some_first _ _ _)) (some_behind _ _ (some_first _ _ _)) same)).0

store_sign_same : (a b : Bool) (x y : List (List ℕ)) → IsFlagSet x → IsFlagSet y → store_sign a x ≡ store_sign b y → (a ≡ b) × (x ≡ y)
store_sign_same a b x y set set' same =
    let behind = cut_same (codes ") ") (sign a ⌢ store_flags x) (sign b ⌢ store_flags y) (some_behind _ _ (some_first _ _ _))
    (some_behind _ _ (some_first _ _ _)) same in
    let signs : a ≡ b = signs_same a b (sym (sign_byte a x) ∙ ap (byte_at 0) behind ∙ sign_byte b y) in
    (signs, flags_same x y set set' (cut_sign b x y (ap (λ s. sign s ⌢ store_flags x) (sym signs) ∙ behind)))

same_store : (uid since : ℕ) (add : Bool) (flags : List (List ℕ)) (d : Command) → uid < 2 ^ 32 → since < 2 ^ 63 → IsFlagSet flags → IsKept d
    → Same (commands.Store uid since add flags) d → commands.Store uid since add flags ≡ d
same_store m r a x (commands.Store n s b y) kept mark set kept' same =
    let tails = sym (store_is m r a x) ∙ tails_same (commands.Store m r a x) (commands.Store n s b y) refl same ∙ store_is n s b y in
    let uids = cut_number m n (words " (UNCHANGEDSINCE " ⌢ (number r ⌢ store_sign a x))
    (words " (UNCHANGEDSINCE " ⌢ (number s ⌢ store_sign b y)) (omega arith) (omega (arith, kept'.0))
    (stops_line is_ascii_digit 32 _ _ refl) (stops_line is_ascii_digit 32 _ _ refl) tails in
    let behind = cut_same (codes " (UNCHANGEDSINCE ") (number r ⌢ store_sign a x) (number s ⌢ store_sign b y) (some_first _ _ _) (some_first _ _ _) uids.1 in
    let marks = cut_number r s (store_sign a x) (store_sign b y) (omega arith) (omega (arith, kept'.1))
    (stops_line is_ascii_digit 41 _ _ refl) (stops_line is_ascii_digit 41 _ _ refl) behind in
    let both = store_sign_same a b x y set kept'.2 marks.1 in
    let first : m ≡ n = uids.0 in
    let second : r ≡ s = marks.0 in
    let third : a ≡ b = both.0 in
    let fourth : x ≡ y = both.1 in
    cc
same_store m r a x d kept mark set kept' same = let e = alike (commands.Store m r a x) d same in absurd (omega arith)

-- an APPEND up to its end
abbrev append_flags : List (List ℕ) → List ℕ → List (List ℕ)
append_flags flags octets = words " (" ⌢ (line (list_text flags) ⌢ (words ") " ⌢ (literal octets ⌢ end)))

append_is : (to : List ℕ) (flags : List (List ℕ)) (octets : List ℕ) → rest (commands.Append to flags octets) ≡ astring_parts to ⌢ append_flags flags octets
append_is to flags octets =
    chain_three (astring_parts to) (words " (") (line (list_text flags) ⌢ (words ") " ⌢ literal octets))
    ∙ ap (λ p. astring_parts to ⌢ (words " (" ⌢ p)) (chain_three (line (list_text flags)) (words ") ") (literal octets))

same_append : (to : List ℕ) (flags : List (List ℕ)) (octets : List ℕ) (d : Command) → IsBoxName to → IsFlagSet flags → IsText octets → IsKept d
    → Same (commands.Append to flags octets) d → commands.Append to flags octets ≡ d
same_append x f s (commands.Append y g t) name set text kept' same =
    let tails = sym (append_is x f s) ∙ tails_same (commands.Append x f s) (commands.Append y g t) refl same ∙ append_is y g t in
    let names = astring_same x y (append_flags f s) (append_flags g t) (name_short x name) (name_short y kept'.0)
    (stops_line is_astring_byte 32 _ _ refl) (stops_line is_astring_byte 32 _ _ refl) tails in
    let behind = cut_same (codes " (") (line (list_text f) ⌢ (words ") " ⌢ (literal s ⌢ end)))
    (line (list_text g) ⌢ (words ") " ⌢ (literal t ⌢ end))) (some_first _ _ _) (some_first _ _ _) names.1 in
    let sets = cut_flags f g (words ") " ⌢ (literal s ⌢ end)) (words ") " ⌢ (literal t ⌢ end)) set kept'.1
    (stops_line is_inside 41 _ _ refl) (stops_line is_inside 41 _ _ refl) behind in
    let octets = cut_same (codes ") ") (literal s ⌢ end) (literal t ⌢ end) (some_behind _ end (omega arith)) (some_behind _ end (omega arith)) sets.1 in
    let texts = literal_same s t end end text.short kept'.2.short (omega arith) (omega arith) octets in
    let first : x ≡ y = names.0 in
    let second : f ≡ g = sets.0 in
    let third : s ≡ t = texts.0 in
    cc
same_append x f s d name set text kept' same = let e = alike (commands.Append x f s) d same in absurd (omega arith)

pub same_command : (c d : Command) → IsKept c → IsKept d → Same c d → c ≡ d
same_command commands.Capability d kept kept' same = same_capability d kept' same
same_command (commands.Login account) d kept kept' same = same_login account d kept kept' same
same_command (commands.Plain account) d kept kept' same = same_plain account d kept kept' same
same_command (commands.Enable rev2) d kept kept' same = same_enable rev2 d kept' same
same_command (commands.Select name since) d kept kept' same = same_select name since d kept.0 kept.1 kept' same
same_command commands.FetchAll d kept kept' same = same_fetch_all d kept' same
same_command (commands.FetchRow uid) d kept kept' same = same_fetch_row uid d kept kept' same
same_command (commands.Search from id) d kept kept' same = same_search from id d kept.0 kept.1 kept' same
same_command (commands.FetchIds uids) d kept kept' same = same_fetch_ids uids d kept kept' same
same_command (commands.FetchText uid) d kept kept' same = same_fetch_text uid d kept kept' same
same_command (commands.Store uid since add flags) d kept kept' same = same_store uid since add flags d kept.0 kept.1 kept.2 kept' same
same_command (commands.Shift uid to) d kept kept' same = same_shift uid to d kept.0 kept.1 kept' same
same_command (commands.Copy uid to) d kept kept' same = same_copy uid to d kept.0 kept.1 kept' same
same_command (commands.Expunge uid) d kept kept' same = same_expunge uid d kept kept' same
same_command (commands.Append to flags octets) d kept kept' same = same_append to flags octets d kept.0 kept.1 kept.2 kept' same
same_command commands.Logout d kept kept' same = same_logout d kept' same

-- the tag, in front of a space
numbers_same : (letter m n : ℕ) (P Q : List (List ℕ)) → m < 2 ^ 32 → n < 2 ^ 32 → StopsAt is_ascii_digit P → StopsAt is_ascii_digit Q
    → (line (letter ∷ []) ⌢ number m) ⌢ P ≡ (line (letter ∷ []) ⌢ number n) ⌢ Q → (m ≡ n) × (P ≡ Q)
numbers_same letter m n P Q fits fits' stop stop' same =
    cut_number m n P Q (omega arith) (omega arith) stop stop'
    (cut_same (letter ∷ []) (number m ⌢ P) (number n ⌢ Q) (some_first _ _ _) (some_first _ _ _)
    (sym (parts_assoc (line (letter ∷ [])) (number m) P) ∙ same ∙ parts_assoc (line (letter ∷ [])) (number n) Q))

-- what is behind the number of a try
tried_same : (m n a b : ℕ) (P Q : List (List ℕ)) → m < 2 ^ 32 → n < 2 ^ 32 → a ≤ 3 → b ≤ 3 → StopsAt is_ascii_digit P → StopsAt is_ascii_digit Q
    → (line (80 ∷ []) ⌢ (number m ⌢ (line (82 ∷ []) ⌢ number a))) ⌢ P ≡ (line (80 ∷ []) ⌢ (number n ⌢ (line (82 ∷ []) ⌢ number b))) ⌢ Q
    → (m ≡ n) × (a ≡ b) × (P ≡ Q)
tried_same m n a b P Q fits fits' few few' stop stop' same =
    let one = cut_number m n (line (82 ∷ []) ⌢ (number a ⌢ P)) (line (82 ∷ []) ⌢ (number b ⌢ Q)) (omega arith) (omega arith)
    (stops_line is_ascii_digit 82 [] (number a ⌢ P) refl) (stops_line is_ascii_digit 82 [] (number b ⌢ Q) refl)
    (cut_same (80 ∷ []) (number m ⌢ (line (82 ∷ []) ⌢ (number a ⌢ P))) (number n ⌢ (line (82 ∷ []) ⌢ (number b ⌢ Q))) (some_first _ _ _) (some_first _ _ _)
    (sym (tried_parts m a P) ∙ same ∙ tried_parts n b Q)) in
    let two = cut_number a b P Q (omega arith) (omega arith) stop stop'
    (cut_same (82 ∷ []) (number a ⌢ P) (number b ⌢ Q) (some_first _ _ _) (some_first _ _ _) one.1) in
    (one.0, two.0, two.1)
  where
    tried_parts : (k c : ℕ) (R : List (List ℕ)) → (line (80 ∷ []) ⌢ (number k ⌢ (line (82 ∷ []) ⌢ number c))) ⌢ R
        ≡ line (80 ∷ []) ⌢ (number k ⌢ (line (82 ∷ []) ⌢ (number c ⌢ R)))
    tried_parts k c R =
        parts_assoc (line (80 ∷ [])) (number k ⌢ (line (82 ∷ []) ⌢ number c)) R
        ∙ ap (λ x. line (80 ∷ []) ⌢ x) (parts_assoc (number k) (line (82 ∷ []) ⌢ number c) R ∙ ap (λ x. number k ⌢ x) (parts_assoc (line (82 ∷ [])) (number c) R))

-- a first try isn't a later one, where a space is behind its number
tries_apart : (m n b : ℕ) (P Q : List (List ℕ)) → m < 2 ^ 32 → n < 2 ^ 32 → StopsAt is_ascii_digit P → byte_at 0 P ≡ 32
    → (line (80 ∷ []) ⌢ number m) ⌢ P ≡ (line (80 ∷ []) ⌢ (number n ⌢ (line (82 ∷ []) ⌢ number b))) ⌢ Q → ⊥
tries_apart m n b P Q fits fits' stop space same =
    let one = cut_number m n P (line (82 ∷ []) ⌢ (number b ⌢ Q)) (omega arith) (omega arith) stop (stops_line is_ascii_digit 82 [] (number b ⌢ Q) refl)
    (cut_same (80 ∷ []) (number m ⌢ P) (number n ⌢ (line (82 ∷ []) ⌢ (number b ⌢ Q))) (some_first _ _ _) (some_first _ _ _)
    (sym (parts_assoc (line (80 ∷ [])) (number m) P) ∙ same ∙ parts_assoc (line (80 ∷ [])) (number n ⌢ (line (82 ∷ []) ⌢ number b)) Q
    ∙ ap (λ x. line (80 ∷ []) ⌢ x) (parts_assoc (number n) (line (82 ∷ []) ⌢ number b) Q ∙ ap (λ x. number n ⌢ x) (parts_assoc (line (82 ∷ [])) (number b) Q)))) in
    let e : ◌≡◌ {A = ℕ} 32 82 = sym space ∙ ap (byte_at 0) one.1 ∙ byte_of_line 0 (82 ∷ []) (number b ⌢ Q) (omega arith) in
    absurd (omega arith)

first_byte : (letter : ℕ) (R P : List (List ℕ)) → byte_at 0 ((line (letter ∷ []) ⌢ R) ⌢ P) ≡ letter
first_byte letter R P = ap (byte_at 0) (parts_assoc (line (letter ∷ [])) R P) ∙ byte_of_line 0 (letter ∷ []) (R ⌢ P) (omega arith)

letters_apart : (a b : ℕ) (R S P Q : List (List ℕ)) → (a ≡ b → ⊥) → (line (a ∷ []) ⌢ R) ⌢ P ≡ (line (b ∷ []) ⌢ S) ⌢ Q → ⊥
letters_apart a b R S P Q n same = n (sym (first_byte a R P) ∙ ap (byte_at 0) same ∙ first_byte b S Q)

pub tag_same : (t u : Tag) (P Q : List (List ℕ)) → IsCommandTag t → IsCommandTag u → IsKeptTag t → IsKeptTag u → StopsAt is_ascii_digit P →
    StopsAt is_ascii_digit Q → byte_at 0 P ≡ 32 → byte_at 0 Q ≡ 32
    → tag_parts t ⌢ P ≡ tag_parts u ⌢ Q → (t ≡ u) × (P ≡ Q)
tag_same (Play m) (Play n) P Q is is' kept kept' stop stop' sp sp' same =
    let both = numbers_same 80 m n P Q kept kept' stop stop' same in (ap Play both.0, both.1)
tag_same (Play m) (Again n b) P Q is is' kept kept' stop stop' sp sp' same = absurd (tries_apart m n b P Q kept kept' stop sp same)
tag_same (Again m a) (Play n) P Q is is' kept kept' stop stop' sp sp' same = absurd (tries_apart n m a Q P kept' kept stop' sp' (sym same))
tag_same (Again m a) (Again n b) P Q is is' kept kept' stop stop' sp sp' same =
    let all = tried_same m n a b P Q kept kept' is.2 is'.2 stop stop' same in (ap (λ x. Again x a) all.0 ∙ ap (Again n) all.1, all.2)
tag_same (Play m) (Count n) P Q is is' kept kept' stop stop' sp sp' same = absurd (letters_apart 80 67 (number m) (number n) P Q (λ e. absurd (omega arith)) same)
tag_same (Count m) (Play n) P Q is is' kept kept' stop stop' sp sp' same = absurd (letters_apart 67 80 (number m) (number n) P Q (λ e. absurd (omega arith)) same)
tag_same (Again m a) (Count n) P Q is is' kept kept' stop stop' sp sp' same =
    absurd (letters_apart 80 67 (number m ⌢ (line (82 ∷ []) ⌢ number a)) (number n) P Q (λ e. absurd (omega arith)) same)
tag_same (Count m) (Again n b) P Q is is' kept kept' stop stop' sp sp' same =
    absurd (letters_apart 67 80 (number m) (number n ⌢ (line (82 ∷ []) ⌢ number b)) P Q (λ e. absurd (omega arith)) same)
tag_same (Count m) (Count n) P Q is is' kept kept' stop stop' sp sp' same =
    let both = numbers_same 67 m n P Q kept kept' stop stop' same in (ap Count both.0, both.1)
tag_same Strange u P Q is is' kept kept' stop stop' sp sp' same = absurd is
tag_same t Strange P Q is is' kept kept' stop stop' sp sp' same = absurd is'

pub one_text : OneText
one_text t u c d written written' same =
    let tags = tag_same t u (words " " ⌢ (command_parts c ⌢ end))
    (words " " ⌢ (command_parts d ⌢ end)) written.writable.tagged written'.writable.tagged written.kept_tag written'.kept_tag
    (stops_line is_ascii_digit 32 [] _ refl) (stops_line is_ascii_digit 32 [] _ refl)
    (byte_of_line 0 (32 ∷ []) (command_parts c ⌢ end) (omega arith)) (byte_of_line 0 (32 ∷ []) (command_parts d ⌢ end) (omega arith)) same in
    let behind = cut_same (codes " ") (command_parts c ⌢ end) (command_parts d ⌢ end) (some_behind _ end (omega arith))
    (some_behind _ end (omega arith)) tags.1 in
    (tags.0, same_command c d written.kept written'.kept behind)
