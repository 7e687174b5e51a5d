-- Which reason comes first, and which action a book takes.
use Rattle.std.proofs.Common.{◌≡◌, ℕ, ◌+◌, ◌<◌, ◌≤◌, Bool, true, false, not, cond, List, [], ◌∷◌, length, Option, Some, None, Result, Ok, Err}
use Rattle.std.proofs.Common.{refl, sym, ◌∙◌, ap, subst, arith, add-one, zero, suc, ⊎_elim, fold}
use Rattle.std.proofs.lemmas.Bool.{eq-eqb}
use Rattle.std.proofs.lemmas.Bool.Decides.{leb_tells}
use Rattle.std.specs.Prelude.{is_some, nat_le, IfErr, ◌==◌}
use Rattle.std.specs.List.{list_any}
use Rattle.std.specs.Result.{IsErrAnd}
use Rattle.std.specs.Prelude.{◌||◌, get_or, take, drop, unwrap_or}
use Rattle.std.specs.Ordering.{match_ordering}
use Rattle.std.specs.declared.cmp.Ordering.{Ordering}
use Rattle.std.specs.declared.cmp.Ordering.TheVariants as orderings
use Rattle.std.proofs.lemmas.List.Folds.{list_any_more, list_any_at}
use Rattle.std.proofs.lemmas.List.Sums.{fold_more}
use Rattle.mail_base.specs.declared.limits.TheConstants.{MAX_ACTIONS}
use Rattle.flag_set.specs.Flag.{asked_refusal}
use Rattle.flag_set.specs.FlagKey.{key_of}
use Rattle.flag_set.specs.FlagSet.{order, put}
use Rattle.flag_set.specs.declared.flag_fault.FlagFault.{FlagFault}
use Rattle.flag_set.specs.declared.flag_fault.FlagFault.TheVariants as flaws
use Rattle.mail_header.specs.BareLf.{crlf_of}
use Rattle.mail_header.specs.Identifier.{HasMessageId, PlacedBody, id_of}
use Rattle.mailbox_cache.specs.declared.cache.Cache.{Cache}
use Rattle.action_queue.specs.Book.{Meaning, cache_at}
use Rattle.action_queue.specs.Rules.{is_unknown, is_unknown_action, is_unknown_target, is_bad_action, is_bad_target}
use Rattle.action_queue.specs.Writable.{IsWritable}
use Rattle.action_queue.specs.declared.action.Action.{Action}
use Rattle.action_queue.specs.declared.book.Known.{Known}
use Rattle.action_queue.specs.declared.action.Action.TheVariants as actions
use Rattle.action_queue.specs.declared.queued.Queued.{Queued}
use Rattle.action_queue.specs.declared.rule.Rule.TheVariants as rule
use Rattle.action_queue.specs.declared.target.Target.{Target}
use Rattle.action_queue.specs.declared.target.Target.TheVariants as targets
use Rattle.local_view.specs.Listing.{has_row, view}
use Rattle.local_view.specs.declared.seen.Ident.{Ident}
use Rattle.local_view.specs.declared.seen.Ident.TheVariants as ident
use Rattle.local_view.proofs.InView.{made_there}
use Rattle.store_core.specs.Mail.{MayCome}
use Rattle.journal_core.specs.declared.version.Version.{Version}
use Rattle.mail_top.specs.Actions.{Becomes, keys_of, next_id, accepts, target_in}
use Rattle.mail_top.specs.Reading.{Awaits, MessageRead}
use Rattle.mail_top.specs.Reasons.{IsFree, is_absent, is_bad_flag, open_len, one_if_open}
use Rattle.mail_top.specs.Weighing.{Admits, Weighed, FlagsAsked, Received}
use Rattle.mail_top.specs.Words.{Addition, Wanted, Flag, Move, Append, HasFewFlags}
use Rattle.mail_top.specs.declared.reason.Reason.TheVariants as reasons
use Rattle.mail_top.specs.declared.refusal.Refusal.{Refusal}
use Rattle.mail_top.specs.declared.refusal.Refusal.TheVariants as refusals
use Rattle.mail_top.proofs.Openings.{raised}

-- a test that is false isn't true
pub not_so : (p : Bool) → p ≡ false → p ≡ true → ⊥
not_so p fails passes = cc (fails, passes)

one_of : (p : Bool) → p ≡ false → (p || false) ≡ true → ⊥
one_of p fails passes = cc (ap (λ (q : Bool). q || false) fails, passes)

one_is : (p : Bool) → p ≡ true → (p || false) ≡ true
one_is p is = ap (λ (q : Bool). q || false) is

first_is : (p q : Bool) → p ≡ true → (p || (q || false)) ≡ true
first_is p q is = ap (λ (x : Bool). x || (q || false)) is

second_is : (p q : Bool) → q ≡ true → (p || (q || false)) ≡ true
second_is true q is = refl
second_is false q is = ap (λ (x : Bool). x || false) is

-- a new message, whose input is read
module _ (addition : Addition) (input : List ℕ) (b : Meaning) where
  -- a reason that came before that
  pub append_refused : (refusal : Refusal) → Received addition input b (Err refusal) → Weighed (Append addition input) b (Err refusal)
  append_refused (refusals.Reason reason) f = f
  append_refused refusals.Memory f = tt
  append_refused refusals.Input f = absurd f
  append_refused refusals.Actions f = absurd f
  append_refused refusals.Disk f = absurd f
  append_refused refusals.Already f = absurd f
  append_refused (refusals.NotAJournal why) f = absurd f
  append_refused (refusals.Full end) f = absurd f
  append_refused refusals.Generation f = absurd f

  module _ (keys : List (List ℕ)) (received : Received addition input b (Ok keys)) where
    pub append_awaits : Awaits (Append addition input) b
    append_awaits = record { addition = addition; input = input; append = refl; free = received.0 }

    -- a message that is refused
    pub append_read : (refusal : Refusal) → MessageRead input (Err refusal) → Weighed (Append addition input) b (Err refusal)
    append_read (refusals.Reason reasons.TooLarge) f = record { stops = f; others = received.0 }
    append_read (refusals.Reason reasons.BadText) f = record { stops = f.1; others = (not_so _ f.0, received.0) }
    append_read (refusals.Reason reasons.NoMessageId) f = record { stops = f.2; others = (not_so _ f.1, (not_so _ f.0, received.0)) }
    append_read (refusals.Reason reasons.NoMailbox) f = absurd f
    append_read (refusals.Reason reasons.NoMessage) f = absurd f
    append_read (refusals.Reason reasons.BadFlag) f = absurd f
    append_read (refusals.Reason reasons.SameMailbox) f = absurd f
    append_read (refusals.Reason reasons.QueueFull) f = absurd f
    append_read refusals.Memory f = tt
    append_read refusals.Input f = append_awaits
    append_read refusals.Actions f = absurd f
    append_read refusals.Disk f = absurd f
    append_read refusals.Already f = absurd f
    append_read (refusals.NotAJournal why) f = absurd f
    append_read (refusals.Full end) f = absurd f
    append_read refusals.Generation f = absurd f

    module _ (both : List ℕ × List ℕ) (message : MessageRead input (Ok both)) where
      append_free : IsFree (Append addition input) b
      append_free = (λ lacks. lacks both.1 message.3, (not_so _ message.2, (not_so _ message.1, received.0)))

      -- and the message is taken
      append_taken : Weighed (Append addition input) b (Ok (actions.Append addition.to keys both.0 both.1))
      append_taken = (
        append_free,
        record {
          id = both.1;
          has = message.3;
          is =
              ap (λ (ks : List (List ℕ)). actions.Append addition.to ks both.0 both.1) received.1
              ∙ ap (λ (text : List ℕ). actions.Append addition.to (keys_of addition.flags) text both.1) message.0;
        },
      )

      -- the same for a copy of the name
      pub append_named : (name : List ℕ) → name ≡ addition.to → Weighed (Append addition input) b (Ok (actions.Append name keys both.0 both.1))
      append_named name same =
          subst (λ (to : List ℕ). Weighed (Append addition input) b (Ok (actions.Append to keys both.0 both.1))) (sym same) append_taken

-- what has no target is a UID, and there is no cache
pub no_target : (name : List ℕ) (o : Option Cache) (id : Ident) → target_in name o id ≡ None → (uid : ℕ) × (id ≡ ident.Real uid) × (o ≡ None)
no_target name None (ident.Real uid) is = (uid, refl, refl)
no_target name (Some cache) (ident.Real uid) is = absurd (cc is)
no_target name o (ident.Dummy n) is = absurd (cc is)

-- four tests of an event
four_pass : (p q r s : Bool) → p ≡ false → q ≡ false → r ≡ false → s ≡ false →
    cond p (Some rule.WrongNumber) (cond q (Some rule.UnknownBox) (cond r (Some rule.BadTarget) (cond s (Some rule.TooMany) None))) ≡ None
four_pass false false false false a b c d = refl
four_pass true q r s a b c d = absurd cc
four_pass false true r s a b c d = absurd cc
four_pass false false true s a b c d = absurd cc
four_pass false false false true a b c d = absurd cc

same_number : (n : ℕ) → not (n == n) ≡ false
same_number n = ap not (eq-eqb n n refl)

below : (n m : ℕ) → m < n → nat_le n m ≡ false
below n m less = ⊎_elim (λ (passes : (nat_le n m ≡ true) × (n ≤ m)). absurd (omega (arith, less, passes.1))) (λ (fails : (nat_le n m ≡ false)
    × (m < n)). fails.0) (leb_tells n m)

is_not : (p : Bool) → (p ≡ true → ⊥) → p ≡ false
is_not true never = absurd (never refl)
is_not false never = refl

-- none of the mailboxes is unknown
of_one : (p : Bool) → ((p || false) ≡ true → ⊥) → p ≡ false
of_one p never = is_not p (λ is. never (one_is p is))

of_two_first : (p q : Bool) → ((p || (q || false)) ≡ true → ⊥) → p ≡ false
of_two_first p q never = is_not p (λ is. never (first_is p q is))

of_two_second : (p q : Bool) → ((p || (q || false)) ≡ true → ⊥) → q ≡ false
of_two_second p q never = is_not q (λ is. never (second_is p q is))

neither : (p q : Bool) → p ≡ false → q ≡ false → (p || q) ≡ false
neither p q fails none = ap (λ (x : Bool). x || q) fails ∙ none

-- the target of a message that is there, in a mailbox that is known
module _ (b : Meaning) (name : List ℕ) where
  target_known : (o : Option Cache) (id : Ident) (target : Target) → target_in name o id ≡ Some target → is_unknown b.boxes name ≡ false →
      is_unknown_target b.boxes target ≡ false
  target_known None (ident.Real uid) target is known = absurd cc
  target_known (Some cache) (ident.Real uid) target is known =
      let same : targets.Real name cache.validity uid ≡ target = cc is in subst (λ (t : Target). is_unknown_target b.boxes t ≡ false) same known
  target_known o (ident.Dummy n) target is known =
      let same : targets.Dummy n ≡ target = cc is in subst (λ (t : Target). is_unknown_target b.boxes t ≡ false) same refl

  target_made : (o : Option Cache) (id : Ident) (target : Target) → target_in name o id ≡ Some target → (is_absent b name id ≡ true → ⊥) →
      is_bad_target b.queue target ≡ false
  target_made None (ident.Real uid) target is there = absurd cc
  target_made (Some cache) (ident.Real uid) target is there =
      let same : targets.Real name cache.validity uid ≡ target = cc is in subst (λ (t : Target). is_bad_target b.queue t ≡ false) same refl
  target_made o (ident.Dummy n) target is there =
      let same : targets.Dummy n ≡ target = cc is in
      subst (λ (t : Target). is_bad_target b.queue t ≡ false) same (made_there b name n (seen_so (has_row (ident.Dummy n) (view b name)) there))
    where
      seen_so : (p : Bool) → (not p ≡ true → ⊥) → p ≡ true
      seen_so true never = refl
      seen_so false never = absurd (never refl)

-- the action speaks of nothing that the book doesn't have
known_action : (wanted : Wanted) (b : Meaning) (action : Action) → IsFree wanted b → Becomes wanted b action → is_unknown_action b.boxes action ≡ false
known_action (Flag change) b action free is =
    subst (λ (a : Action). is_unknown_action b.boxes a ≡ false) (sym is.is)
    (target_known b change.name (cache_at change.name b.boxes) change.id is.target is.of (of_one _ free.1.1.1.0))
known_action (Move transfer) b action free is =
    subst (λ (a : Action). is_unknown_action b.boxes a ≡ false) (sym is.is)
    (neither _ _ (target_known b transfer.name (cache_at transfer.name b.boxes) transfer.id is.target is.of (of_two_first _ _ free.1.1.1.0))
    (of_two_second _ _ free.1.1.1.0))
known_action (Append addition input) b action free is =
    subst (λ (a : Action). is_unknown_action b.boxes a ≡ false) (sym is.is) (of_one _ free.1.1.1.0)

good_action : (wanted : Wanted) (b : Meaning) (action : Action) → IsFree wanted b → Becomes wanted b action → is_bad_action b.queue action ≡ false
good_action (Flag change) b action free is =
    subst (λ (a : Action). is_bad_action b.queue a ≡ false) (sym is.is)
    (target_made b change.name (cache_at change.name b.boxes) change.id is.target is.of free.1.1.1.1.0)
good_action (Move transfer) b action free is =
    subst (λ (a : Action). is_bad_action b.queue a ≡ false) (sym is.is)
    (target_made b transfer.name (cache_at transfer.name b.boxes) transfer.id is.target is.of free.1.1.1.1.0)
good_action (Append addition input) b action free is = subst (λ (a : Action). is_bad_action b.queue a ≡ false) (sym is.is) refl

-- what the book takes may come next
pub may_accept : (v : Version) (wanted : Wanted) (b : Meaning) (id : ℕ) (action : Action) → Admits wanted b id action → MayCome v (Some b) (accepts b action)
may_accept v wanted b id action t =
    four_pass (not (next_id b == next_id b)) (is_unknown_action b.boxes action) (is_bad_action b.queue action) (nat_le MAX_ACTIONS (length b.queue))
    (same_number (next_id b)) (known_action wanted b action t.free t.is) (good_action wanted b action t.free t.is) (below MAX_ACTIONS (length b.queue) t.few)

-- a refusal that is handed on
module _ (wanted : Wanted) (b : Meaning) (r : Result Action Refusal) where
  pub handed : (x : Refusal) → IsErrAnd r (λ refusal. refusal ≡ x) → Weighed wanted b (Err x) → Weighed wanted b r
  handed x given w = subst (Weighed wanted b) (sym (raised r x given)) w

-- how many keys a set of flags has
put_by : (key first : List ℕ) (rest later : List (List ℕ)) (o : Ordering) → length later ≤ length rest + 1 →
    (1 ≤ length (match_ordering o (key ∷ first ∷ rest) (first ∷ rest) (first ∷ later)))
    × (length (match_ordering o (key ∷ first ∷ rest) (first ∷ rest) (first ∷ later)) ≤ length (first ∷ rest) + 1)
put_by key first rest later orderings.Less few = (omega arith, omega arith)
put_by key first rest later orderings.Equal few = (omega arith, omega arith)
put_by key first rest later orderings.Greater few = (omega arith, omega (arith, few))

put_len : (key : List ℕ) (keys : List (List ℕ)) → (1 ≤ length (put key keys)) × (length (put key keys) ≤ length keys + 1)
put_len key [] = (omega arith, omega arith)
put_len key (first ∷ rest) = put_by key first rest (put key rest) (order key first) (put_len key rest).1

-- one more flag of a list that is read
module _ (flags : List (List ℕ)) (i : ℕ) (flag : List ℕ) (below : i < length flags) (is : flag ≡ get_or flags i flag) where
  pub good_more : list_any is_bad_flag (take i flags) ≡ false → is_bad_flag flag ≡ false → list_any is_bad_flag (take (i + 1) flags) ≡ false
  good_more before here =
      list_any_more is_bad_flag flags i flag below
      ∙ ap (λ (p : Bool). p || is_bad_flag (get_or flags i flag)) before ∙ ap is_bad_flag (sym is) ∙ here

  pub bad_here : list_any is_bad_flag (take i flags) ≡ false → is_bad_flag flag ≡ true → list_any is_bad_flag flags ≡ true
  bad_here before here = list_any_at is_bad_flag flags i flag below (ap is_bad_flag (sym is) ∙ here)

  pub keys_more : keys_of (take (i + 1) flags) ≡ put (key_of flag) (keys_of (take i flags))
  keys_more = fold_more (λ keys f. put (key_of f) keys) [] flags i flag below ∙ ap (λ (f : List ℕ). put (key_of f) (keys_of (take i flags))) (sym is)

-- why a flag is no one that can be asked for
pub why_bad : (flag : List ℕ) (fault : FlagFault) → fault ≡ unwrap_or (asked_refusal flag) flaws.Memory → (fault ≡ flaws.Memory → ⊥) → is_bad_flag flag ≡ true
why_bad flag fault is other = by_refusal (asked_refusal flag) is
  where
    by_refusal : (o : Option FlagFault) → fault ≡ unwrap_or o flaws.Memory → is_some o ≡ true
    by_refusal None told = absurd (other told)
    by_refusal (Some x) told = refl

-- the fault of a flag that is handed on
pub refused_bad : {T : Type 0} (flag text : List ℕ) (r : Result T FlagFault) (x : FlagFault) → IsErrAnd r (λ fault. fault ≡ x) →
    x ≡ unwrap_or (asked_refusal text) flaws.Memory → text ≡ flag →
    IfErr r (λ fault. (fault ≡ flaws.Memory → ⊥) → is_bad_flag flag ≡ true)
refused_bad flag text (Ok done) x given is same = absurd given
refused_bad flag text (Err fault) x given is same =
    λ other. ap is_bad_flag (sym same) ∙ why_bad text x is (λ memory. other (given ∙ memory))

-- flags of which one can't be asked for, unless memory is wanting
pub bad_flags : (flags : List (List ℕ)) (fault : FlagFault) → ((fault ≡ flaws.Memory → ⊥) → list_any is_bad_flag flags ≡ true) → FlagsAsked flags (Err fault)
bad_flags flags flaws.Memory bad = tt
bad_flags flags (flaws.TooLong n) bad = bad (λ e. cc e)
bad_flags flags (flaws.BadFlag at) bad = bad (λ e. cc e)
bad_flags flags (flaws.TooMany n) bad = bad (λ e. cc e)

-- one action more is counted
open_next : (queue : List Queued) (i : ℕ) (q : Queued) → i < length queue → q ≡ get_or queue i q →
    open_len (drop i queue) ≡ one_if_open q.outcome (open_len (drop (suc i) queue))
open_next [] i q within is = absurd (omega (arith, within))
open_next (x ∷ xs) zero q within is = ap (λ (y : Queued). one_if_open y.outcome (open_len xs)) (sym is)
open_next (x ∷ xs) (suc i) q within is = open_next xs i q (omega (arith, within)) is

pub open_more : (queue : List Queued) (i : ℕ) (q : Queued) → i < length queue → q ≡ get_or queue i q →
    open_len (drop i queue) ≡ one_if_open q.outcome (open_len (drop (i + 1) queue))
open_more queue i q within is =
    open_next queue i q within is ∙ ap (λ (n : ℕ). one_if_open q.outcome (open_len (drop n queue))) (sym (add-one i))

-- a fault of a flag that is handed on
pub asked_handed : (flags : List (List ℕ)) (r : Result (List (List ℕ)) FlagFault) (x : FlagFault) → IsErrAnd r (λ fault. fault ≡ x) →
    ((x ≡ flaws.Memory → ⊥) → list_any is_bad_flag flags ≡ true) → FlagsAsked flags r
asked_handed flags (Ok keys) x given bad = absurd given
asked_handed flags (Err fault) x given bad = bad_flags flags fault (λ other. bad (λ is. other (given ∙ is)))

-- one more flag, as its text was read
module _ (flags : List (List ℕ)) (i : ℕ) (flag text : List ℕ) (below : i < length flags) (is : flag ≡ get_or flags i flag) (same : text ≡ flag)
    (old new : List (List ℕ)) (good : list_any is_bad_flag (take i flags) ≡ false) (keys : old ≡ keys_of (take i flags)) where
  pub bad_text : is_bad_flag text ≡ true → list_any is_bad_flag flags ≡ true
  bad_text bad = bad_here flags i flag below is good (ap is_bad_flag (sym same) ∙ bad)

  pub good_text : is_bad_flag text ≡ false → list_any is_bad_flag (take (i + 1) flags) ≡ false
  good_text fine = good_more flags i flag below is good (ap is_bad_flag (sym same) ∙ fine)

  pub keys_text : new ≡ put (key_of text) old → new ≡ keys_of (take (i + 1) flags)
  keys_text added =
      added ∙ ap (λ (t : List ℕ). put (key_of t) old) same ∙ ap (λ (ks : List (List ℕ)). put (key_of flag) ks) keys ∙ sym (keys_more flags i flag below is)

pub put_most : (key : List ℕ) (old new : List (List ℕ)) (i : ℕ) → new ≡ put key old → length old ≤ i → length new ≤ i + 1
put_most key old new i added most = omega (arith, ap (λ (ks : List (List ℕ)). length ks) added, (put_len key old).1, most)

pub put_least : (key : List ℕ) (old new : List (List ℕ)) → new ≡ put key old → 1 ≤ length new
put_least key old new added = omega (arith, ap (λ (ks : List (List ℕ)). length ks) added, (put_len key old).0)

-- how many keys flags have
keys_len : (keys flags : List (List ℕ)) →
    (length (fold (λ (ks : List (List ℕ)) (flag : List ℕ). put (key_of flag) ks) keys flags) ≤ length keys + length flags)
    × (1 ≤ length keys + length flags → 1 ≤ length (fold (λ (ks : List (List ℕ)) (flag : List ℕ). put (key_of flag) ks) keys flags))
keys_len keys [] = (omega arith, λ some. omega (arith, some))
keys_len keys (flag ∷ flags) =
    let here = put_len (key_of flag) keys in
    let later = keys_len (put (key_of flag) keys) flags in (omega (arith, later.0, here.1), λ some. later.1 (omega (arith, here.0)))

-- the action that a book admits has a record
pub admitted_writable : (wanted : Wanted) (b : Meaning) (id : ℕ) (action : Action) → HasFewFlags wanted → Admits wanted b id action →
    IsWritable (accepts b action)
admitted_writable (Flag change) b id action few t =
    let keys = keys_len [] change.flags in
    subst (λ (a : Action). IsWritable (accepts b a)) (sym t.is.is) (keys.1 (omega (arith, few.0)), omega (arith, keys.0, few.1))
admitted_writable (Move transfer) b id action few t = subst (λ (a : Action). IsWritable (accepts b a)) (sym t.is.is) tt
admitted_writable (Append addition input) b id action few t =
    let keys = keys_len [] addition.flags in
    subst (λ (a : Action). IsWritable (accepts b a)) (sym t.is.is) (omega (arith, keys.0, few), t.is.has)

-- a text has one Message-ID
one_id : (text id other : List ℕ) → HasMessageId text id → HasMessageId text other → id ≡ other
one_id text id other h k =
    let same : h.body ≡ k.body = one_body _ _ (sym h.one.1 ∙ k.one.1) in h.value ∙ ap id_of same ∙ sym k.value
  where
    one_body : (x y : PlacedBody) → x ∷ [] ≡ y ∷ [] → x.body ≡ y.body
    one_body x y is = let both : x ≡ y = cc is in ap (λ (p : PlacedBody). p.body) both

same_target : (o : Option Target) (t u : Target) → o ≡ Some t → o ≡ Some u → t ≡ u
same_target o t u is other = let both : Some t ≡ Some u = sym is ∙ other in cc both

-- what is asked for becomes one action
pub one_action : (wanted : Wanted) (b : Meaning) (action other : Action) → Becomes wanted b action → Becomes wanted b other → action ≡ other
one_action (Flag change) b action other x y =
    let same = same_target _ x.target y.target x.of y.of in
    x.is ∙ ap (λ (t : Target). actions.Flag t change.add (keys_of change.flags)) same ∙ sym y.is
one_action (Move transfer) b action other x y =
    let same = same_target _ x.target y.target x.of y.of in
    x.is ∙ ap (λ (t : Target). actions.Move t transfer.to) same ∙ sym y.is
one_action (Append addition input) b action other x y =
    let same = one_id (crlf_of input) x.id y.id x.has y.has in
    x.is ∙ ap (λ (id : List ℕ). actions.Append addition.to (keys_of addition.flags) (crlf_of input) id) same ∙ sym y.is

-- by the mailboxes alone
pub action_by_boxes : (wanted : Wanted) (b c : Meaning) (action : Action) → c.boxes ≡ b.boxes → Becomes wanted b action → Becomes wanted c action
action_by_boxes (Flag change) b c action same x = record {
  target = x.target;
  of = ap (λ (boxes : List Known). target_in change.name (cache_at change.name boxes) change.id) same ∙ x.of;
  is = x.is;
}
action_by_boxes (Move transfer) b c action same x = record {
  target = x.target;
  of = ap (λ (boxes : List Known). target_in transfer.name (cache_at transfer.name boxes) transfer.id) same ∙ x.of;
  is = x.is;
}
action_by_boxes (Append addition input) b c action same x = x
