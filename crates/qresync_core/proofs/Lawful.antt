-- What a lawful server's responses tell of its mailbox.
use Rattle.std.proofs.Common.{◌≡◌, ◌⊎◌, inl, inr, ℕ, zero, suc, ◌<◌, ◌+◌, Bool, true, false, eqb, ◌||◌}
use Rattle.std.proofs.Common.{List, [], ◌∷◌, ◌++◌, length, get_or, Option, Some, None, refl, sym, ◌∙◌, ap, subst, arith}
use Rattle.std.specs.Prelude.{Contains, is_some, is_none}
use Rattle.std.specs.List.{AllByRecursion, list_any}
use Rattle.std.specs.Option.{option_or, option_to_list, option_map}
use Rattle.std.proofs.lemmas.Bool.{cond_both, cond-true, cond-false, eq-eqb, eqb-true}
use Rattle.std.proofs.lemmas.Option.{same_Some}
use Rattle.uid_sets.specs.UidSet.{Member}
use Rattle.uid_sets.specs.declared.uid.UidRange.{UidRange}
use Rattle.mailbox_cache.proofs.Members.{has_uid-Decides}
use Rattle.mailbox_cache.specs.Rows.{row_at}
use Rattle.mailbox_cache.specs.declared.row.Row.{Row}
use Rattle.imap_model.proofs.Finding.{message_at-uid}
use Rattle.imap_model.proofs.Remarking.{all_append}
use Rattle.imap_model.specs.Lookups.{message_at}
use Rattle.imap_model.specs.Remarks.{MayCode, MaySay, AreAbsent, IsRow, RowTold}
use Rattle.imap_model.specs.SelectTells.{SelectCode, SelectSays, GoneTold}
use Rattle.imap_model.specs.ToldRows.{row_of}
use Rattle.imap_model.specs.declared.code.Code.{Code}
use Rattle.imap_model.specs.declared.code.Code.TheVariants as codings
use Rattle.imap_model.specs.declared.fetched.Fetched.{Fetched}
use Rattle.imap_model.specs.declared.response.Response.{Response}
use Rattle.imap_model.specs.declared.response.Response.TheVariants as responses
use Rattle.imap_model.specs.declared.server.Mailbox.{Mailbox}
use Rattle.imap_model.specs.declared.server.Message.{Message}
use Rattle.qresync_core.proofs.LastRows.{last_first}
use Rattle.qresync_core.specs.Behind.{is_closed_code, is_closed}
use Rattle.qresync_core.specs.Fresh.{kept_row, server_row}
use Rattle.qresync_core.specs.ToldGone.{tells_gone, is_told_gone}
use Rattle.qresync_core.specs.ReadRows.{row_in, told_row, is_bare, rows_in, last_row, first_bare}

-- a list that holds an item holds it first or later
found_at : {A : Type 0} (x y : A) (xs : List A) (k : ℕ) → k < length (x ∷ xs) → get_or (x ∷ xs) k y ≡ y → (x ≡ y) ⊎ Contains xs y
found_at x y xs zero l e = inl e
found_at x y xs (suc k) l e = inr (k, omega arith, e)

pub first_or_later : {A : Type 0} (x y : A) (xs : List A) → Contains (x ∷ xs) y → (x ≡ y) ⊎ Contains xs y
first_or_later x y xs c = found_at x y xs c.0 c.1 c.2

-- what the table lets a server say of the rows and the vanished UIDs of its mailbox
abbrev pub IsTrueOf : Mailbox → Response → Type 0
IsTrueOf b (responses.Done tag ending code) = Unit {0}
IsTrueOf b (responses.Untagged ending code) = is_closed_code code ≡ false
IsTrueOf b responses.Bye = Unit {0}
IsTrueOf b (responses.Preauth code) = Unit {0}
IsTrueOf b responses.Go = Unit {0}
IsTrueOf b (responses.Capability words) = Unit {0}
IsTrueOf b (responses.Enabled words) = Unit {0}
IsTrueOf b (responses.Exists count) = count ≡ length b.messages
IsTrueOf b (responses.Fetch fetched) = IsRow b fetched
IsTrueOf b (responses.Vanished earlier uids) = AreAbsent b uids
IsTrueOf b (responses.Found uids) = Unit {0}
IsTrueOf b responses.Other = Unit {0}

open_code : (b : Mailbox) (code : Code) → MayCode (Some b) code → is_closed_code code ≡ false
open_code b codings.None m = refl
open_code b (codings.Capability words) m = refl
open_code b (codings.UidNext uid) m = refl
open_code b (codings.UidValidity validity) m = refl
open_code b (codings.PermanentFlags flags any) m = refl
open_code b (codings.HighestModSeq modseq) m = refl
open_code b codings.NoModSeq m = refl
open_code b codings.UidNotSticky m = refl
open_code b (codings.AppendUid validity uid) m = refl
open_code b (codings.CopyUid validity source target) m = refl
open_code b (codings.Modified uids) m = refl
open_code b codings.Closed m = absurd m
open_code b codings.Other m = refl

open_select : (b : Mailbox) (code : Code) → SelectCode b code → is_closed_code code ≡ false
open_select b codings.None m = refl
open_select b (codings.Capability words) m = refl
open_select b (codings.UidNext uid) m = refl
open_select b (codings.UidValidity validity) m = refl
open_select b (codings.PermanentFlags flags any) m = refl
open_select b (codings.HighestModSeq modseq) m = refl
open_select b codings.NoModSeq m = refl
open_select b codings.UidNotSticky m = refl
open_select b (codings.AppendUid validity uid) m = refl
open_select b (codings.CopyUid validity source target) m = refl
open_select b (codings.Modified uids) m = refl
open_select b codings.Closed m = absurd m
open_select b codings.Other m = refl

pub remark_true : (b : Mailbox) (r : Response) → MaySay (Some b) r → IsTrueOf b r
remark_true b (responses.Done tag ending code) m = tt
remark_true b (responses.Untagged ending code) m = open_code b code m
remark_true b responses.Bye m = tt
remark_true b (responses.Preauth code) m = tt
remark_true b responses.Go m = tt
remark_true b (responses.Capability words) m = tt
remark_true b (responses.Enabled words) m = tt
remark_true b (responses.Exists count) m = m
remark_true b (responses.Fetch fetched) m = m
remark_true b (responses.Vanished earlier uids) m = m
remark_true b (responses.Found uids) m = tt
remark_true b responses.Other m = tt

pub select_true : (b : Mailbox) (r : Response) → SelectSays b r → IsTrueOf b r
select_true b (responses.Done tag ending code) m = tt
select_true b (responses.Untagged ending code) m = open_select b code m
select_true b responses.Bye m = tt
select_true b (responses.Preauth code) m = tt
select_true b responses.Go m = tt
select_true b (responses.Capability words) m = tt
select_true b (responses.Enabled words) m = tt
select_true b (responses.Exists count) m = m
select_true b (responses.Fetch fetched) m = m
select_true b (responses.Vanished earlier uids) m = m
select_true b (responses.Found uids) m = tt
select_true b responses.Other m = tt

-- none of them is CLOSED
is_open : (b : Mailbox) (r : Response) → IsTrueOf b r → is_closed r ≡ false
is_open b (responses.Done tag ending code) t = refl
is_open b (responses.Untagged ending code) t = t
is_open b responses.Bye t = refl
is_open b (responses.Preauth code) t = refl
is_open b responses.Go t = refl
is_open b (responses.Capability words) t = refl
is_open b (responses.Enabled words) t = refl
is_open b (responses.Exists count) t = refl
is_open b (responses.Fetch fetched) t = refl
is_open b (responses.Vanished earlier uids) t = refl
is_open b (responses.Found uids) t = refl
is_open b responses.Other t = refl

pub neither : (b c : Bool) → b ≡ false → c ≡ false → (b || c) ≡ false
neither true c e f = e
neither false c e f = f

pub all_open : (b : Mailbox) (told : List Response) → AllByRecursion (IsTrueOf b) told → list_any is_closed told ≡ false
all_open b [] a = refl
all_open b (r ∷ rs) a = neither (is_closed r) (list_any is_closed rs) (is_open b r a.0) (all_open b rs a.1)

-- the row that a true FETCH tells
row_is : (b : Mailbox) (fetched : Fetched) (i : IsRow b fetched) → row_in fetched ≡ Some (i.1.uid, kept_row i.1)
row_is b fetched i = ap row_in i.3

-- a response tells a row that the server has, or none
abbrev IsServerRow : Mailbox → ℕ × Row → Type 0
IsServerRow b row = server_row row.0 b ≡ Some row.1

row_there : (b : Mailbox) (fetched : Fetched) (i : IsRow b fetched) → IsServerRow b (i.1.uid, kept_row i.1)
row_there b fetched i =
    ap (option_map kept_row) (ap (λ (u : ℕ). message_at u b.messages) (message_at-uid i.0 b.messages i.1 i.2) ∙ i.2)

fetched_rows : (b : Mailbox) (fetched : Fetched) (i : IsRow b fetched) (o : Option (ℕ × Row)) → row_in fetched ≡ o →
    AllByRecursion (IsServerRow b) (option_to_list o) × (is_none o ≡ false)
fetched_rows b fetched i None e = absurd (let f = row_is b fetched i in cc)
fetched_rows b fetched i (Some row) e =
    let same : (i.1.uid, kept_row i.1) ≡ row = same_Some (i.1.uid, kept_row i.1) row (sym (row_is b fetched i) ∙ e) in
    ((subst (IsServerRow b) same (row_there b fetched i), tt), refl)

told_rows : (b : Mailbox) (r : Response) → IsTrueOf b r → AllByRecursion (IsServerRow b) (option_to_list (told_row r)) × (is_bare r ≡ false)
told_rows b (responses.Done tag ending code) t = (tt, refl)
told_rows b (responses.Untagged ending code) t = (tt, refl)
told_rows b responses.Bye t = (tt, refl)
told_rows b (responses.Preauth code) t = (tt, refl)
told_rows b responses.Go t = (tt, refl)
told_rows b (responses.Capability words) t = (tt, refl)
told_rows b (responses.Enabled words) t = (tt, refl)
told_rows b (responses.Exists count) t = (tt, refl)
told_rows b (responses.Fetch fetched) t = fetched_rows b fetched t (row_in fetched) refl
told_rows b (responses.Vanished earlier uids) t = (tt, refl)
told_rows b (responses.Found uids) t = (tt, refl)
told_rows b responses.Other t = (tt, refl)

-- no FETCH lacks an item
pub none_bare : (b : Mailbox) (index : ℕ) (told : List Response) → AllByRecursion (IsTrueOf b) told → first_bare index told ≡ None
none_bare b index [] a = refl
none_bare b index (r ∷ rs) a =
    cond-false (is_bare r) (Some index) (first_bare (index + 1) rs) (told_rows b r a.0).1 ∙ none_bare b (index + 1) rs a.1

rows_there : (b : Mailbox) (told : List Response) → AllByRecursion (IsTrueOf b) told → AllByRecursion (IsServerRow b) (rows_in told)
rows_there b [] a = tt
rows_there b (r ∷ rs) a =
    all_append (IsServerRow b) (option_to_list (told_row r)) (rows_in rs) (told_rows b r a.0).0 (rows_there b rs a.1)

one_row : (b : Mailbox) (uid : ℕ) (r : ℕ × Row) → IsServerRow b r → (row : Row) → row_at uid (r ∷ []) ≡ Some row → server_row uid b ≡ Some row
one_row b uid r i row =
    cond_both (eqb r.0 uid) (Some r.1) None (λ (o : Option Row). o ≡ Some row → server_row uid b ≡ Some row)
    (λ t e. subst (λ (u : ℕ). server_row u b ≡ Some r.1) (eqb-true r.0 uid t) i ∙ e)
    (λ f e. absurd (cc))

one_there : (b : Mailbox) (uid : ℕ) (r : ℕ × Row) (o : Option Row) → IsServerRow b r → ((row : Row) → o ≡ Some row → server_row uid b ≡ Some row) →
    (row : Row) → option_or o (row_at uid (r ∷ [])) ≡ Some row → server_row uid b ≡ Some row
one_there b uid r (Some v) i f row e = f row e
one_there b uid r None i f row e =
    one_row b uid r i row e

last_there : (b : Mailbox) (uid : ℕ) (rows : List (ℕ × Row)) → AllByRecursion (IsServerRow b) rows → (row : Row) → last_row uid rows ≡ Some row →
    server_row uid b ≡ Some row
last_there b uid [] a row e = absurd (cc)
last_there b uid (r ∷ rs) a row e =
    one_there b uid r (last_row uid rs) a.0 (last_there b uid rs a.1) row (sym (last_first uid r rs) ∙ e)

-- a row that is told is the server's
pub told_there : (b : Mailbox) (told : List Response) → AllByRecursion (IsTrueOf b) told → (uid : ℕ) (row : Row) → last_row uid (rows_in told) ≡ Some row →
    server_row uid b ≡ Some row
told_there b told a uid row e = last_there b uid (rows_in told) (rows_there b told a) row e

some_or : (o p : Option Row) → is_some p ≡ true → is_some (option_or o p) ≡ true
some_or None p e = e
some_or (Some v) p e = refl

some_first : (o p : Option Row) → is_some o ≡ true → is_some (option_or o p) ≡ true
some_first None p e = absurd (cc)
some_first (Some v) p e = refl

-- a row that is told somewhere is told last, or another one of its UID
stays_told : (uid : ℕ) (row : Row) (front rest : List (ℕ × Row)) → is_some (last_row uid rest) ≡ true → is_some (last_row uid (front ++ rest)) ≡ true
stays_told uid row [] rest e = e
stays_told uid row (r ∷ front) rest e =
    subst (λ (o : Option Row). is_some o ≡ true) (sym (last_first uid r (front ++ rest)))
    (some_first (last_row uid (front ++ rest)) (row_at uid (r ∷ [])) (stays_told uid row front rest e))

head_told : (uid : ℕ) (row : Row) (rest : List (ℕ × Row)) → is_some (last_row uid ((uid, row) ∷ rest)) ≡ true
head_told uid row rest =
    subst (λ (o : Option Row). is_some o ≡ true) (sym (last_first uid (uid, row) rest))
    (some_or (last_row uid rest) (row_at uid ((uid, row) ∷ [])) (ap is_some (cond-true (eqb uid uid) (Some row) None (eq-eqb uid uid refl))))

pub row_told_some : (uid : ℕ) (row : Row) (fetched : Fetched) (told : List Response) → row_in fetched ≡ Some (uid, row) →
    Contains told (responses.Fetch fetched) → is_some (last_row uid (rows_in told)) ≡ true
row_told_some uid row fetched [] e c = absurd (omega (arith, c.1))
row_told_some uid row fetched (r ∷ rs) e c =
    elim (first_or_later r (responses.Fetch fetched) rs c) [
      | inl same ↦ subst (λ (x : Response). is_some (last_row uid (option_to_list (told_row x) ++ rows_in rs)) ≡ true) (sym same)
          (subst (λ (o : Option (ℕ × Row)). is_some (last_row uid (option_to_list o ++ rows_in rs)) ≡ true) (sym e) (head_told uid row (rows_in rs)))
      | inr later ↦ stays_told uid row (option_to_list (told_row r)) (rows_in rs) (row_told_some uid row fetched rs e later)
    ]

-- the row of a message that is told counts: whatever else is told of its UID is the same
pub message_told : (b : Mailbox) (told : List Response) → AllByRecursion (IsTrueOf b) told → (uid : ℕ) (m : Message) →
    message_at uid b.messages ≡ Some m → RowTold told m → (o : Option Row) → last_row uid (rows_in told) ≡ o → o ≡ Some (kept_row m)
message_told b told a uid m e t None n =
    let same : m.uid ≡ uid = message_at-uid uid b.messages m e in
    let some = row_told_some m.uid (kept_row m) (row_of m) told refl t in
    absurd (let none = ap (λ (u : ℕ). last_row u (rows_in told)) same ∙ n in cc)
message_told b told a uid m e t (Some row) n = sym (told_there b told a uid row n) ∙ ap (option_map kept_row) e

-- what is told to be gone isn't there
gone_there : (b : Mailbox) (uid : ℕ) (r : Response) → IsTrueOf b r → tells_gone uid r ≡ true → message_at uid b.messages ≡ None
gone_there b uid (responses.Done tag ending code) t e = absurd (cc)
gone_there b uid (responses.Untagged ending code) t e = absurd (cc)
gone_there b uid responses.Bye t e = absurd (cc)
gone_there b uid (responses.Preauth code) t e = absurd (cc)
gone_there b uid responses.Go t e = absurd (cc)
gone_there b uid (responses.Capability words) t e = absurd (cc)
gone_there b uid (responses.Enabled words) t e = absurd (cc)
gone_there b uid (responses.Exists count) t e = absurd (cc)
gone_there b uid (responses.Fetch fetched) t e = absurd (cc)
gone_there b uid (responses.Vanished earlier uids) t e = t uid ((has_uid-Decides uids uid).0 e)
gone_there b uid (responses.Found uids) t e = absurd (cc)
gone_there b uid responses.Other t e = absurd (cc)

pub either_true : (b c : Bool) → (b || c) ≡ true → (b ≡ true) ⊎ (c ≡ true)
either_true true c e = inl refl
either_true false c e = inr e

pub told_absent : (b : Mailbox) (uid : ℕ) (told : List Response) → AllByRecursion (IsTrueOf b) told → is_told_gone told uid ≡ true →
    message_at uid b.messages ≡ None
told_absent b uid [] a e = absurd (cc)
told_absent b uid (r ∷ rs) a e =
    elim (either_true (tells_gone uid r) (is_told_gone rs uid) e) [
      | inl here ↦ gone_there b uid r a.0 here
      | inr later ↦ told_absent b uid rs a.1 later
    ]

or_true : (b c : Bool) → c ≡ true → (b || c) ≡ true
or_true true c e = refl
or_true false c e = e

true_or : (b c : Bool) → b ≡ true → (b || c) ≡ true
true_or true c e = refl
true_or false c e = absurd (cc)

gone_in_list : (uid : ℕ) (uids : List UidRange) (told : List Response) → Member uids uid → Contains told (responses.Vanished true uids) →
    is_told_gone told uid ≡ true
gone_in_list uid uids [] m c = absurd (omega (arith, c.1))
gone_in_list uid uids (r ∷ rs) m c =
    elim (first_or_later r (responses.Vanished true uids) rs c) [
      | inl same ↦ true_or (tells_gone uid r) (is_told_gone rs uid) (ap (tells_gone uid) same ∙ (has_uid-Decides uids uid).1 m)
      | inr later ↦ or_true (tells_gone uid r) (is_told_gone rs uid) (gone_in_list uid uids rs m later)
    ]

pub gone_is_told : (uid : ℕ) (told : List Response) → GoneTold told uid → is_told_gone told uid ≡ true
gone_is_told uid told g = gone_in_list uid g.0 told g.2 g.1
