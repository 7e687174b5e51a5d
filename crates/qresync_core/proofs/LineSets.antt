-- Sets of UIDs that lines told: what is in any of them, and two that become one.
use Rattle.std.proofs.Common.{◌≡◌, ℕ, ◌+◌, ◌-◌, ◌<◌, ◌≤◌, Bool, true, false, ◌||◌, ◌&&◌, List, [], ◌∷◌, ◌++◌, length, take, get_or}
use Rattle.std.proofs.Common.{refl, sym, ◌∙◌, ap, subst, arith, append_assoc, length-append}
use Rattle.std.specs.Prelude.{nat_le}
use Rattle.std.proofs.lemmas.List.{append-nil, take_more}
use Rattle.std.proofs.Math.Seq.{take-append_seam}
use Rattle.uid_sets.specs.declared.uid.UidRange.{UidRange}
use Rattle.mailbox_cache.specs.Rows.{has_uid}
use Rattle.qresync_core.specs.SetsTold.{all_ranges}
use Rattle.qresync_core.specs.declared.gone_sets.Lines.{Lines}

or_later : (a b c : Bool) → (a || (b || c)) ≡ ((a || b) || c)
or_later true b c = refl
or_later false b c = refl

pub has_append : (xs ys : List UidRange) (uid : ℕ) → has_uid (xs ++ ys) uid ≡ (has_uid xs uid || has_uid ys uid)
has_append [] ys uid = refl
has_append (x ∷ xs) ys uid =
    ap (λ (b : Bool). (nat_le x.low uid && nat_le uid x.high) || b) (has_append xs ys uid)
    ∙ or_later (nat_le x.low uid && nat_le uid x.high) (has_uid xs uid) (has_uid ys uid)

ranges_append : (a b : List Lines) → all_ranges (a ++ b) ≡ all_ranges a ++ all_ranges b
ranges_append [] b = refl
ranges_append (l ∷ a) b = ap (λ (r : List UidRange). l.uids ++ r) (ranges_append a b) ∙ sym (append_assoc l.uids (all_ranges a) (all_ranges b))

-- one set more
pub has_more : (sets : List Lines) (one : Lines) (uid : ℕ) → has_uid (all_ranges (sets ++ one ∷ [])) uid ≡ (has_uid (all_ranges sets) uid || has_uid one.uids uid)
has_more sets one uid =
    ap (λ (r : List UidRange). has_uid r uid) (ranges_append sets (one ∷ []))
    ∙ has_append (all_ranges sets) (one.uids ++ []) uid
    ∙ ap (λ (r : List UidRange). has_uid (all_ranges sets) uid || has_uid r uid) (append-nil one.uids)

two_ends : (front : List Lines) (before last : Lines) → length ((front ++ before ∷ []) ++ last ∷ []) ≡ length front + 2
two_ends front before last = omega (arith, length-append (front ++ before ∷ []) (last ∷ []), length-append front (before ∷ []))

front_of : (front : List Lines) (before last : Lines) →
    take (length ((front ++ before ∷ []) ++ last ∷ []) - 2) ((front ++ before ∷ []) ++ last ∷ []) ≡ front
front_of front before last =
    let n : length ((front ++ before ∷ []) ++ last ∷ []) - 2 ≡ length front = omega (arith, two_ends front before last) in
    ap (λ (k : ℕ). take k ((front ++ before ∷ []) ++ last ∷ [])) n
    ∙ ap (take (length front)) (append_assoc front (before ∷ []) (last ∷ []))
    ∙ take-append_seam front (before ∷ last ∷ [])

both_of : (front : List Lines) (before last both : Lines) (uid : ℕ) → has_uid both.uids uid ≡ (has_uid before.uids uid || has_uid last.uids uid) →
    has_uid (all_ranges (front ++ both ∷ [])) uid ≡ has_uid (all_ranges ((front ++ before ∷ []) ++ last ∷ [])) uid
both_of front before last both uid e =
    has_more front both uid ∙ ap (λ (b : Bool). has_uid (all_ranges front) uid || b) e
    ∙ or_later (has_uid (all_ranges front) uid) (has_uid before.uids uid) (has_uid last.uids uid)
    ∙ ap (λ (b : Bool). b || has_uid last.uids uid) (sym (has_more front before uid))
    ∙ sym (has_more (front ++ before ∷ []) last uid)

-- two sets that become one
pub two_joined : (sets front : List Lines) (before last both : Lines) → sets ≡ (front ++ before ∷ []) ++ last ∷ [] →
    ((uid : ℕ) → has_uid both.uids uid ≡ (has_uid before.uids uid || has_uid last.uids uid)) →
    (uid : ℕ) → has_uid (all_ranges (take (length sets - 2) sets ++ both ∷ [])) uid ≡ has_uid (all_ranges sets) uid
two_joined sets front before last both is e uid =
    subst (λ (l : List Lines). has_uid (all_ranges (take (length l - 2) l ++ both ∷ [])) uid ≡ has_uid (all_ranges l) uid) (sym is)
    (ap (λ (l : List Lines). has_uid (all_ranges (l ++ both ∷ [])) uid) (front_of front before last) ∙ both_of front before last both uid (e uid))

pub two_there : (sets front : List Lines) (before last : Lines) → sets ≡ (front ++ before ∷ []) ++ last ∷ [] → 2 ≤ length sets
two_there sets front before last is = omega (arith, ap length is, two_ends front before last)

-- what the sets so far are together, with one more
pub joined_more : (sets : List Lines) (i : ℕ) (lines : Lines) (uid : ℕ) → i < length sets → lines ≡ get_or sets i lines →
    (has_uid (all_ranges (take i sets)) uid || has_uid lines.uids uid) ≡ has_uid (all_ranges (take (i + 1) sets)) uid
joined_more sets i lines uid l e =
    sym (has_more (take i sets) lines uid)
    ∙ ap (λ (r : List Lines). has_uid (all_ranges r) uid) (sym (take_more sets i lines l ∙ ap (λ (y : Lines). take i sets ++ y ∷ []) (sym e)))
