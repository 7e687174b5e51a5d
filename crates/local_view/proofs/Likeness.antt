-- What an action makes of two sights that are the same is the same.
use Rattle.std.proofs.Common.{◌≡◌, ℕ, suc, List, [], ◌∷◌, ◌++◌, Bool, true, false, cond, Option, Some, None, refl, ◌∙◌, ap, subst}
use Rattle.std.specs.List.{flat_map}
use Rattle.action_queue.specs.Book.{Meaning}
use Rattle.action_queue.specs.Targets.{resolved}
use Rattle.action_queue.specs.declared.action.Action.{Action}
use Rattle.action_queue.specs.declared.action.Action.TheVariants as actions
use Rattle.action_queue.specs.declared.outcome.Outcome.{Outcome}
use Rattle.action_queue.specs.declared.queued.Queued.{Queued}
use Rattle.local_view.specs.Messages.{is_same, message_of}
use Rattle.local_view.specs.Sights.{Sight, Sights, put, flagged, flagged_at, moved, moved_at, acted, acted_unless, acted_all}
use Rattle.mailbox_cache.specs.declared.cache.Cache.{Cache}
use Rattle.mailbox_cache.specs.declared.row.Row.{Row}
use Rattle.dummy_ids.specs.Places.{makes_into}
use Rattle.local_view.specs.Listing.{listed, listed_row, listed_rows, listed_made, listed_dummies}
use Rattle.local_view.specs.declared.seen.Ident.TheVariants as ident
use Rattle.local_view.specs.Touching.{AreSame}
use Rattle.local_view.specs.declared.message.Message.{Message}
use Rattle.local_view.specs.declared.message.Message.TheVariants as message

pub and_then : {a b c : Sights} → AreSame a b → AreSame b c → AreSame a c
and_then ab bc m = ab m ∙ bc m

pub put_alike : (m : Message) (sight : Option Sight) (a b : Sights) → AreSame a b → AreSame (put m sight a) (put m sight b)
put_alike m sight a b same other = ap (cond (is_same m other) sight) (same other)

flagged_alike : (add : Bool) (asked : List (List ℕ)) (m : Message) (sight : Option Sight) (a b : Sights) → AreSame a b →
    AreSame (flagged add asked m sight a) (flagged add asked m sight b)
flagged_alike add asked m None a b same = same
flagged_alike add asked m (Some sight) a b same = put_alike m _ a b same

moved_alike : (n : ℕ) (m : Message) (sight : Option Sight) (a b : Sights) → AreSame a b → AreSame (moved n m sight a) (moved n m sight b)
moved_alike n m None a b same = same
moved_alike n m (Some sight) a b same = put_alike (message.Made n) _ (put m None a) (put m None b) (put_alike m None a b same)

flagged_at_alike : (add : Bool) (asked : List (List ℕ)) (m : Option Message) (a b : Sights) → AreSame a b →
    AreSame (flagged_at add asked m a) (flagged_at add asked m b)
flagged_at_alike add asked None a b same = same
flagged_at_alike add asked (Some m) a b same =
    subst (λ (sight : Option Sight). AreSame (flagged add asked m (a m) a) (flagged add asked m sight b)) (same m)
    (flagged_alike add asked m (a m) a b same)

moved_at_alike : (n : ℕ) (m : Option Message) (a b : Sights) → AreSame a b → AreSame (moved_at n m a) (moved_at n m b)
moved_at_alike n None a b same = same
moved_at_alike n (Some m) a b same =
    subst (λ (sight : Option Sight). AreSame (moved n m (a m) a) (moved n m sight b)) (same m) (moved_alike n m (a m) a b same)

acted_alike : (b : Meaning) (n : ℕ) (action : Action) (s t : Sights) → AreSame s t → AreSame (acted b n action s) (acted b n action t)
acted_alike b n (actions.Flag target add flags) s t same = flagged_at_alike add flags (message_of b.boxes (resolved b.queue target)) s t same
acted_alike b n (actions.Move target to) s t same = moved_at_alike n (message_of b.boxes (resolved b.queue target)) s t same
acted_alike b n (actions.Append to flags text id) s t same = put_alike (message.Made n) _ s t same

pub unless_alike : (b : Meaning) (n : ℕ) (action : Action) (outcome : Option Outcome) (s t : Sights) → AreSame s t →
    AreSame (acted_unless b n action outcome s) (acted_unless b n action outcome t)
unless_alike b n action None s t same = acted_alike b n action s t same
unless_alike b n action (Some outcome) s t same = same

-- what actions make of the same is the same
pub all_alike : (b : Meaning) (n : ℕ) (queue : List Queued) (s t : Sights) → AreSame s t → AreSame (acted_all b n queue s) (acted_all b n queue t)
all_alike b n [] s t same = same
all_alike b n (q ∷ qs) s t same = all_alike b (suc n) qs _ _ (unless_alike b n q.action q.outcome s t same)

flat_alike : (s t : Sights) (name : List ℕ) (rows : List (ℕ × Row)) → AreSame s t → flat_map (listed_row s name) rows ≡ flat_map (listed_row t name) rows
flat_alike s t name [] same = refl
flat_alike s t name (r ∷ rows) same =
    ap (λ o. listed (ident.Real r.0) o ++ flat_map (listed_row s name) rows) (same (message.Cached name r.0))
    ∙ ap (λ l. listed_row t name r ++ l) (flat_alike s t name rows same)

-- the rows of the same are the same
pub rows_alike : (s t : Sights) (name : List ℕ) (cache : Option Cache) → AreSame s t → listed_rows s name cache ≡ listed_rows t name cache
rows_alike s t name None same = refl
rows_alike s t name (Some cache) same = flat_alike s t name cache.rows same

made_alike : (s t : Sights) (n : ℕ) (into : Bool) (outcome : Option Outcome) → AreSame s t → listed_made s n into outcome ≡ listed_made t n into outcome
made_alike s t n false outcome same = refl
made_alike s t n true (Some outcome) same = refl
made_alike s t n true None same = ap (listed (ident.Dummy n)) (same (message.Made n))

pub dummies_alike : (s t : Sights) (name : List ℕ) (n : ℕ) (queue : List Queued) → AreSame s t →
    listed_dummies s name n queue ≡ listed_dummies t name n queue
dummies_alike s t name n [] same = refl
dummies_alike s t name n (q ∷ qs) same =
    ap (λ l. l ++ listed_dummies s name (suc n) qs) (made_alike s t n (makes_into name q.action) q.outcome same)
    ∙ ap (λ l. listed_made t n (makes_into name q.action) q.outcome ++ l) (dummies_alike s t name (suc n) qs same)
