-- The view of INBOX on the book of a drill: the cached messages, without those that a command moved.
use Rattle.std.proofs.Common.{◌≡◌, ℕ, suc, Bool, true, false, not, List, [], ◌∷◌, Option, Some, None, refl, sym, ◌∙◌, ap, subst}
use Rattle.std.specs.Prelude.{◌==◌, ◌&&◌, ◌||◌, codes, cond, eqb, is_some, map}
use Rattle.std.specs.List.{flat_map}
use Rattle.std.specs.Option.{option_map}
use Rattle.std.proofs.lemmas.Bool.{eq-eqb, eqb-true, ne_eqb}
use Rattle.std.proofs.lemmas.List.Folds.{list_any-append}
use Rattle.mailbox_cache.specs.Rows.{row_at}
use Rattle.mailbox_cache.specs.declared.cache.Cache.{Cache}
use Rattle.mailbox_cache.specs.declared.row.Row.{Row}
use Rattle.action_queue.specs.Book.{Meaning, cache_at}
use Rattle.action_queue.specs.Queues.{AllOpen}
use Rattle.action_queue.specs.Targets.{resolved}
use Rattle.action_queue.specs.declared.action.Action.{Action}
use Rattle.action_queue.specs.declared.outcome.Outcome.{Outcome}
use Rattle.action_queue.specs.declared.queued.Queued.{Queued}
use Rattle.action_queue.specs.declared.target.Target.TheVariants as targets
use Rattle.dummy_ids.specs.Places.{makes_into}
use Rattle.local_view.specs.Listing.{has_row, listed, listed_dummies, listed_made, listed_row, listed_rows, shows, view}
use Rattle.local_view.specs.Messages.{is_under, message_of}
use Rattle.local_view.specs.Sights.{Sight, Sights, acted, acted_all, acted_unless, cached, flagged, flagged_at, moved, moved_at, row_in, seen, sight_of, turned, with_flags}
use Rattle.local_view.specs.declared.message.Message.{Message}
use Rattle.local_view.specs.declared.message.Message.TheVariants as message
use Rattle.local_view.specs.declared.seen.Ident.TheVariants as ident
use Rattle.mail_drill.specs.Accepted.{is_moved, moves}
use Rattle.mail_top.specs.Actions.{keys_of}
use Rattle.mail_drill.specs.Asked.{action_of, actions_for}
use Rattle.mail_drill.specs.declared.orders.Order.{Order}
use Rattle.mail_drill.specs.declared.orders.Order.TheVariants as orders

-- Of the rows of a cache those are shown that are still there.
and_true : (x : Bool) → (x && true) ≡ x
and_true true = refl
and_true false = refl

and_false : (x : Bool) → (x && false) ≡ false
and_false true = refl
and_false false = refl

or_false : (x : Bool) → (x || false) ≡ x
or_false true = refl
or_false false = refl

one_row : (uid number : ℕ) (o : Option Sight) → has_row (ident.Real uid) (listed (ident.Real number) o) ≡ ((uid == number) && is_some o)
one_row uid number None = sym (and_false (uid == number))
one_row uid number (Some sight) = or_false (uid == number) ∙ sym (and_true (uid == number))

module _ (sights : Sights) (name : List ℕ) (uid : ℕ) where
  abbrev is_there : ℕ → Bool
  is_there number = is_some (sights (message.Cached name number))

  -- the row of a UID, and the rows behind it
  this_row : (r : ℕ × Row) (rows : List (ℕ × Row)) (later : Bool) → later ≡ (is_some (row_at uid rows) && is_there uid) → (test : Bool) →
      eqb r.0 uid ≡ test → (((uid == r.0) && is_there r.0) || later) ≡ (is_some (cond test (Some r.1) (row_at uid rows)) && is_there uid)
  this_row r rows later same true is =
      let equal : r.0 ≡ uid = eqb-true r.0 uid is in
      rw (equal, eq-eqb uid uid refl) (absorbed (is_there uid) later (is_some (row_at uid rows)) same)
    where
      absorbed : (a l x : Bool) → l ≡ (x && a) → (a || l) ≡ a
      absorbed true l x is = refl
      absorbed false l x is = is ∙ and_false x
  this_row r rows later same false is =
      let other : (uid == r.0) ≡ false = ne_eqb uid r.0 (λ equal. absurd (cc (is, eq-eqb r.0 uid (sym equal)))) in
      rw other same

  rows_there : (rows : List (ℕ × Row)) →
      has_row (ident.Real uid) (flat_map (listed_row sights name) rows) ≡ (is_some (row_at uid rows) && is_there uid)
  rows_there [] = refl
  rows_there (r ∷ rows) =
      list_any-append (shows (ident.Real uid)) (listed_row sights name r) (flat_map (listed_row sights name) rows)
      ∙ ap (λ x. x || has_row (ident.Real uid) (flat_map (listed_row sights name) rows)) (one_row uid r.0 (sights (message.Cached name r.0)))
      ∙ this_row r rows (has_row (ident.Real uid) (flat_map (listed_row sights name) rows)) (rows_there rows) (eqb r.0 uid) refl

  -- a message that an action makes has no UID
  made_none : (n : ℕ) (o : Option Sight) → has_row (ident.Real uid) (listed (ident.Dummy n) o) ≡ false
  made_none n None = refl
  made_none n (Some sight) = refl

  made_no_uid : (n : ℕ) (into : Bool) (outcome : Option Outcome) → has_row (ident.Real uid) (listed_made sights n into outcome) ≡ false
  made_no_uid n false outcome = refl
  made_no_uid n true (Some outcome) = refl
  made_no_uid n true None = made_none n (sights (message.Made n))

  dummies_no_uid : (n : ℕ) (queue : List Queued) → has_row (ident.Real uid) (listed_dummies sights name n queue) ≡ false
  dummies_no_uid n [] = refl
  dummies_no_uid n (q ∷ qs) =
      list_any-append (shows (ident.Real uid)) (listed_made sights n (makes_into name q.action) q.outcome) (listed_dummies sights name (suc n) qs)
      ∙ ap (λ x. x || has_row (ident.Real uid) (listed_dummies sights name (suc n) qs)) (made_no_uid n (makes_into name q.action) q.outcome)
      ∙ dummies_no_uid (suc n) qs

-- What the actions of a drill's commands leave of the message of a UID: none flags it away, and a move of it takes it away.
module _ (b : Meaning) (cache : Cache) (has : cache_at (codes "INBOX") b.boxes ≡ Some cache) (validity : cache.validity ≡ 5) (uid : ℕ) where
  abbrev this : Message
  this = message.Cached (codes "INBOX") uid

  abbrev stays : Sights → Sights → Bool → Type 0
  stays sights now gone = is_some (now this) ≡ (is_some (sights this) && not gone)

  under : is_under 5 (cache_at (codes "INBOX") b.boxes) ≡ true
  under = rw has (eq-eqb cache.validity 5 validity)

  -- the message that a command names
  found : (number : ℕ) →
      message_of b.boxes (resolved b.queue (targets.Real (codes "INBOX") 5 number)) ≡ Some (message.Cached (codes "INBOX") number)
  found number = ap (λ x. cond x (Some (message.Cached (codes "INBOX") number)) None) under

  flag_leaves : (add : Bool) (keys : List (List ℕ)) (sights : Sights) (number : ℕ) (sight : Option Sight) →
      sights (message.Cached (codes "INBOX") number) ≡ sight →
      stays sights (flagged add keys (message.Cached (codes "INBOX") number) sight sights) false
  flag_leaves add keys sights number None is = sym (and_true (is_some (sights this)))
  flag_leaves add keys sights number (Some sight) is = kept (with_flags (turned add keys sight.flags) sight) (number == uid) refl
    where
      kept : (told : Sight) (test : Bool) → (number == uid) ≡ test → is_some (cond test (Some told) (sights this)) ≡ (is_some (sights this) && true)
      kept told true same =
          let here : is_some (sights this) ≡ true = ap is_some (ap (λ n. sights (message.Cached (codes "INBOX") n)) (sym (eqb-true number uid same)) ∙ is) in
          sym (and_true (is_some (sights this)) ∙ here)
      kept told false other = sym (and_true (is_some (sights this)))

  move_takes : (n : ℕ) (sights : Sights) (number : ℕ) (sight : Option Sight) → sights (message.Cached (codes "INBOX") number) ≡ sight →
      stays sights (moved n (message.Cached (codes "INBOX") number) sight sights) (number == uid)
  move_takes n sights number None is = gone (number == uid) refl
    where
      gone : (test : Bool) → (number == uid) ≡ test → is_some (sights this) ≡ (is_some (sights this) && not test)
      gone true same =
          let none : is_some (sights this) ≡ false = ap is_some (ap (λ n. sights (message.Cached (codes "INBOX") n)) (sym (eqb-true number uid same)) ∙ is) in
          none ∙ sym (and_false (is_some (sights this)))
      gone false other = sym (and_true (is_some (sights this)))
  move_takes n sights number (Some sight) is = taken (number == uid)
    where
      taken : (test : Bool) → is_some (cond test None (sights this)) ≡ (is_some (sights this) && not test)
      taken true = sym (and_false (is_some (sights this)))
      taken false = sym (and_true (is_some (sights this)))

  -- what one action leaves
  order_leaves : (n : ℕ) (o : Order) (sights : Sights) → stays sights (acted b n (action_of o) sights) (moves uid o)
  order_leaves n (orders.Flag number) sights =
      subst (λ (m : Option Message). stays sights (flagged_at true (keys_of (codes "\\Flagged" ∷ [])) m sights) false) (sym (found number))
      (flag_leaves true (keys_of (codes "\\Flagged" ∷ [])) sights number (sights (message.Cached (codes "INBOX") number)) refl)
  order_leaves n (orders.Move number) sights =
      subst (λ (m : Option Message). stays sights (moved_at n m sights) (number == uid)) (sym (found number))
      (move_takes n sights number (sights (message.Cached (codes "INBOX") number)) refl)
  order_leaves n (orders.Append number) sights = sym (and_true (is_some (sights this)))

  open_leaves : (n : ℕ) (o : Order) (action : Action) (outcome : Option Outcome) (sights : Sights) → outcome ≡ None → action ≡ action_of o →
      stays sights (acted_unless b n action outcome sights) (moves uid o)
  open_leaves n o action outcome sights unsettled is =
      rw (unsettled, is) (order_leaves n o sights)

  both_gone : (x y z : Bool) → ((x && not y) && not z) ≡ (x && not (y || z))
  both_gone true true z = refl
  both_gone true false z = refl
  both_gone false y z = refl

  -- and all of them
  orders_leave : (n : ℕ) (os : List Order) (queue : List Queued) (sights : Sights) → AllOpen queue → map (λ (q : Queued). q.action) queue ≡ actions_for os →
      stays sights (acted_all b n queue sights) (is_moved os uid)
  orders_leave n [] [] sights unsettled are = sym (and_true (is_some (sights this)))
  orders_leave n [] (q ∷ qs) sights unsettled are = absurd (cc are)
  orders_leave n (o ∷ os) [] sights unsettled are = absurd (cc are)
  orders_leave n (o ∷ os) (q ∷ qs) sights unsettled are =
      let first : q.action ≡ action_of o = cc are in
      let later : map (λ (q : Queued). q.action) qs ≡ actions_for os = cc are in
      orders_leave (suc n) os qs (acted_unless b n q.action q.outcome sights) unsettled.1 later
      ∙ ap (λ x. x && not (is_moved os uid)) (open_leaves n o q.action q.outcome sights unsettled.0 first)
      ∙ both_gone (is_some (sights this)) (moves uid o) (is_moved os uid)

  cached_first : is_some (cached b.boxes this) ≡ is_some (row_at uid cache.rows)
  cached_first = ap (λ c. is_some (option_map sight_of (row_in uid c))) has ∙ mapped (row_at uid cache.rows)
    where
      mapped : (o : Option Row) → is_some (option_map sight_of o) ≡ is_some o
      mapped None = refl
      mapped (Some row) = refl

  once : (r x y : Bool) → x ≡ (r && y) → ((r && x) || false) ≡ (r && y)
  once true x y is = or_false x ∙ is
  once false x y is = refl

  -- a UID is in the view where it is cached, and no command moved its message
  pub in_view : (os : List Order) → AllOpen b.queue → map (λ (q : Queued). q.action) b.queue ≡ actions_for os →
      has_row (ident.Real uid) (view b (codes "INBOX")) ≡ (is_some (row_at uid cache.rows) && not (is_moved os uid))
  in_view os unsettled are =
      let left : is_some (seen b this) ≡ (is_some (row_at uid cache.rows) && not (is_moved os uid)) =
      orders_leave 1 os b.queue (cached b.boxes) unsettled are ∙ ap (λ x. x && not (is_moved os uid)) cached_first in
      let rows : has_row (ident.Real uid) (listed_rows (seen b) (codes "INBOX") (cache_at (codes "INBOX") b.boxes))
      ≡ (is_some (row_at uid cache.rows) && is_some (seen b this)) =
      ap (λ c. has_row (ident.Real uid) (listed_rows (seen b) (codes "INBOX") c)) has ∙ rows_there (seen b) (codes "INBOX") uid cache.rows in
      list_any-append (shows (ident.Real uid)) (listed_rows (seen b) (codes "INBOX") (cache_at (codes "INBOX") b.boxes))
      (listed_dummies (seen b) (codes "INBOX") 1 b.queue)
      ∙ ap (λ x. x || has_row (ident.Real uid) (listed_dummies (seen b) (codes "INBOX") 1 b.queue)) rows
      ∙ ap (λ x. (is_some (row_at uid cache.rows) && is_some (seen b this)) || x) (dummies_no_uid (seen b) (codes "INBOX") uid 1 b.queue)
      ∙ once (is_some (row_at uid cache.rows)) (is_some (seen b this)) (not (is_moved os uid)) left
