-- Sets of UIDs by the test of a UID, and which rows a set is apart from.
use Rattle.std.proofs.Common.{◌≡◌, ◌↔◌, ◌⊎◌, ℕ, ◌+◌, ◌<◌, length, get_or, Bool, true, false, cond, eqb, ◌||◌}
use Rattle.std.proofs.Common.{◌&&◌, List, [], ◌∷◌, ◌++◌, take, drop, Option, Some, None, refl, sym, ◌∙◌, ap}
use Rattle.std.specs.Prelude.{not, is_some, is_none}
use Rattle.std.specs.Option.{option_or}
use Rattle.std.proofs.lemmas.Bool.{cond-true, eq-eqb}
use Rattle.std.proofs.lemmas.Bool.Decides.{same_from_decides, Decides-eqb, Decides-like, Decides-or, Decides-and, Decides-not}
use Rattle.std.proofs.lemmas.List.{take_more, take-append-drop}
use Rattle.std.proofs.lemmas.List.Folds.{list_any-append}
use Rattle.uid_sets.specs.UidSet.{Member}
use Rattle.uid_sets.specs.declared.uid.UidRange.{UidRange}
use Rattle.mailbox_cache.proofs.Members.{has_uid-Decides}
use Rattle.mailbox_cache.specs.Rows.{row_at, has_uid, AreApart}
use Rattle.mailbox_cache.specs.declared.row.Row.{Row}
use Rattle.imap_model.specs.declared.response.Response.{Response}
use Rattle.qresync_core.proofs.LastRows.{row_behind}
use Rattle.qresync_core.specs.ToldGone.{tells_gone, is_told_gone}

pub union_has : (left right both : List UidRange) (uid : ℕ) → Member both uid ↔ (Member left uid ⊎ Member right uid) →
    has_uid both uid ≡ (has_uid left uid || has_uid right uid)
union_has left right both uid m =
    same_from_decides (has_uid both uid) (has_uid left uid || has_uid right uid)
    (Decides-like (has_uid both uid) m.0 m.1 (has_uid-Decides both uid))
    (Decides-or (has_uid left uid) (has_uid right uid) (has_uid-Decides left uid) (has_uid-Decides right uid))

pub minus_has : (left right rest : List UidRange) (uid : ℕ) → Member rest uid ↔ (Member left uid × ¬ Member right uid) →
    has_uid rest uid ≡ (has_uid left uid && not (has_uid right uid))
minus_has left right rest uid m =
    same_from_decides (has_uid rest uid) (has_uid left uid && not (has_uid right uid))
    (Decides-like (has_uid rest uid) m.0 m.1 (has_uid-Decides rest uid))
    (Decides-and (has_uid left uid) (not (has_uid right uid)) (has_uid-Decides left uid) (Decides-not (has_uid right uid) (has_uid-Decides right uid)))

pub not_some : (o : Option Row) → not (is_some o) ≡ is_none o
not_some None = refl
not_some (Some row) = refl

-- what either half tells to be gone
pub gone_halves : (front back : List Response) (uid : ℕ) → is_told_gone (front ++ back) uid ≡ (is_told_gone front uid || is_told_gone back uid)
gone_halves front back uid = list_any-append (tells_gone uid) front back

some_more : (b : Bool) (v : Row) (o : Option Row) → is_some o ≡ true → is_some (cond b (Some v) o) ≡ true
some_more true v o e = refl
some_more false v o e = e

-- a set that has no UID of the rows is apart from them
pub apart_rows : (us : List UidRange) (rows : List (ℕ × Row)) → ((uid : ℕ) → is_some (row_at uid rows) ≡ true → has_uid us uid ≡ false) → AreApart us rows
apart_rows us [] f = tt
apart_rows us (r ∷ rs) f = (
  f r.0 (ap is_some (cond-true (eqb r.0 r.0) (Some r.1) (row_at r.0 rs) (eq-eqb r.0 r.0 refl))),
  apart_rows us rs (λ uid e. f uid (some_more (eqb r.0 uid) r.1 (row_at uid rs) e)),
)

same_some : (b : Bool) (v : Row) (o : Option Row) → (is_some o || b) ≡ is_some (option_or o (cond b (Some v) None))
same_some true v None = refl
same_some true v (Some w) = refl
same_some false v None = refl
same_some false v (Some w) = refl

-- one UID more
pub added_has : (old new : List UidRange) (rows : List (ℕ × Row)) (i : ℕ) (r : ℕ × Row) (uid : ℕ) → i < length rows → r ≡ get_or rows i r →
    Member new uid ↔ (Member old uid ⊎ (uid ≡ r.0)) → has_uid old uid ≡ is_some (row_at uid (take i rows)) →
    has_uid new uid ≡ is_some (row_at uid (take (i + 1) rows))
added_has old new rows i x uid l g m e =
    same_from_decides (has_uid new uid) (has_uid old uid || eqb x.0 uid)
    (Decides-like (has_uid new uid) m.0 m.1 (has_uid-Decides new uid))
    (Decides-or (has_uid old uid) (eqb x.0 uid) (has_uid-Decides old uid) (Decides-like (eqb x.0 uid) sym sym (Decides-eqb x.0 uid)))
    ∙ ap (λ (b : Bool). b || eqb x.0 uid) e
    ∙ same_some (eqb x.0 uid) x.1 (row_at uid (take i rows))
    ∙ ap is_some (sym (ap (row_at uid) (take_more rows i x l ∙ ap (λ (y : ℕ × Row). take i rows ++ y ∷ []) (sym g)) ∙ row_behind uid (take i rows) (x ∷ [])))

-- what both halves tell to be gone is what the whole tells
pub two_halves : (told front back : List Response) (n : ℕ) → front ≡ take n told → back ≡ drop n told → (uid : ℕ) →
    (is_told_gone front uid || is_told_gone back uid) ≡ is_told_gone told uid
two_halves told front back n f b uid =
    ap (λ (l : List Response). is_told_gone l uid || is_told_gone back uid) f
    ∙ ap (λ (l : List Response). is_told_gone (take n told) uid || is_told_gone l uid) b
    ∙ sym (gone_halves (take n told) (drop n told) uid) ∙ ap (λ (l : List Response). is_told_gone l uid) (take-append-drop n told)
