-- A drill's command is accepted exactly where no earlier one moved the message that it names.
use Rattle.std.proofs.Common.{◌≡◌, ℕ, ◌+◌, ◌≤◌, Bool, true, false, not, List, [], ◌∷◌, length, Option, Some, None, refl, sym, ◌∙◌, ap, subst, arith}
use Rattle.std.proofs.Common.{⊎_elim}
use Rattle.std.specs.Prelude.{◌&&◌, bytes_eq, codes, cond, is_none, map, nat_le}
use Rattle.std.specs.List.{list_any}
use Rattle.std.proofs.lemmas.Bool.{le-leb, leb-true, ltb-true}
use Rattle.std.proofs.lemmas.List.{length-map}
use Rattle.mail_base.specs.Account.{Credentials}
use Rattle.mail_base.specs.declared.status.Status.{Status}
use Rattle.mail_base.specs.declared.status.Status.TheVariants as status
use Rattle.action_queue.specs.Book.{Meaning, after, known_at}
use Rattle.action_queue.specs.Rules.{is_unknown}
use Rattle.action_queue.specs.declared.action.Action.{Action}
use Rattle.action_queue.specs.declared.book.Known.{Known}
use Rattle.action_queue.specs.declared.outcome.Outcome.{Outcome}
use Rattle.action_queue.specs.declared.queued.Queued.{Queued}
use Rattle.local_view.specs.declared.seen.Ident.TheVariants as ident
use Rattle.book_laws.specs.Kept.{Kept}
use Rattle.play_driver.specs.Joining.{IsKept, Joined}
use Rattle.play_driver.specs.Played.{played}
use Rattle.play_driver.specs.Progress.{has_name}
use Rattle.store_core.specs.Mail.{mail}
use Rattle.store_core.specs.Steps.{Firm}
use Rattle.store_core.specs.Taking.{HasBooks}
use Rattle.store_core.proofs.Folding.{OneEvent, one_held}
use Rattle.world_traits.proofs.Keeping.{since_now}
use Rattle.world_mem.specs.Worlds.{course_of, seen_sound}
use Rattle.world_mem.specs.declared.mem_world.MemWorld.{MemWorld}
use Rattle.mail_top.specs.Actions.{Becomes, accepts}
use Rattle.mail_top.specs.Course.{Course, OnFiles}
use Rattle.mail_top.specs.Ending.{Ends, EndsAct, EndsRequest}
use Rattle.mail_top.specs.KeptNow.{IsKeptNow}
use Rattle.mail_top.specs.Reasons.{IsFree, Stops, boxes_of, flags_of, is_absent, is_bad_flag, is_full, lacks_message, one_if_open, open_len}
use Rattle.mail_top.specs.Saying.{SaysAccepted, SaysRefused}
use Rattle.mail_top.specs.Words.{Act, Asks, Request}
use Rattle.mail_top.specs.declared.reason.Reason.{Reason}
use Rattle.mail_top.specs.declared.reason.Reason.TheVariants as reasons
use Rattle.mail_top.proofs.Wording.{one_request}
use Rattle.mail_drill.proofs.Mailboxes.{fits_behind}
use Rattle.mail_drill.proofs.Messages.{message_clean, message_id, message_short}
use Rattle.mail_drill.proofs.OrderWords.{order_asked, order_becomes}
use Rattle.mail_drill.proofs.Viewing.{in_view}
use Rattle.mail_drill.specs.Accepted.{is_moved, is_refused}
use Rattle.mail_drill.specs.Answering.{Answers, Awaits, IsNumbered}
use Rattle.mail_drill.specs.Asked.{action_of, identifier, wanted_of}
use Rattle.mail_drill.specs.Orders.{NamesOneOf}
use Rattle.mail_drill.specs.Came.{Runs}
use Rattle.mail_drill.specs.Ran.{Ran, course_from}
use Rattle.mail_drill.specs.Standing.{HasAsked, HasOne, IsBrokenAs, Knows, clock_of, now_of, seen_of}
use Rattle.mail_drill.specs.Texts.{input_of, words_of}
use Rattle.mail_drill.specs.declared.orders.Order.{Order}
use Rattle.mail_drill.specs.declared.orders.Order.TheVariants as orders
use Rattle.mail_drill.specs.declared.played.Broken.{Broken}
use Rattle.mail_drill.specs.declared.quiet_world.QuietWorld.{QuietWorld}

-- a mailbox that is among a book's names is known
named_then : (name : List ℕ) (k : Known) (ks : List Known) → (has_name name (map (λ (k : Known). k.name) ks) ≡ true → is_unknown ks name ≡ false) →
    (test : Bool) → cond test true (has_name name (map (λ (k : Known). k.name) ks)) ≡ true → is_none (cond test (Some k) (known_at name ks)) ≡ false
named_then name k ks later true has = refl
named_then name k ks later false has = later has

name_known : (name : List ℕ) (boxes : List Known) → has_name name (map (λ (k : Known). k.name) boxes) ≡ true → is_unknown boxes name ≡ false
name_known name [] has = absurd (cc has)
name_known name (k ∷ ks) has = named_then name k ks (name_known name ks) (bytes_eq k.name name) has

module _ (size : ℕ) (b : Meaning) (knows : Knows size b) where
  inbox_known : is_unknown b.boxes (codes "INBOX") ≡ false
  inbox_known = name_known (codes "INBOX") b.boxes (ap (has_name (codes "INBOX")) knows.names)

  archive_known : is_unknown b.boxes (codes "Archive") ≡ false
  archive_known = name_known (codes "Archive") b.boxes (ap (has_name (codes "Archive")) knows.names)

  -- the mailboxes of a command are known
  boxes_known : (o : Order) → list_any (is_unknown b.boxes) (boxes_of (wanted_of o)) ≡ false
  boxes_known (orders.Flag uid) = rw inbox_known refl
  boxes_known (orders.Move uid) = rw (inbox_known, archive_known) refl
  boxes_known (orders.Append number) = rw archive_known refl

-- a user may ask for the flag of a command
flags_good : (o : Order) → list_any is_bad_flag (flags_of (wanted_of o)) ≡ false
flags_good (orders.Flag uid) = refl
flags_good (orders.Move uid) = refl
flags_good (orders.Append number) = refl

-- at most all actions are open
one_more : (outcome : Option Outcome) (n m : ℕ) → n ≤ m → one_if_open outcome n ≤ m + 1
one_more None n m most = omega (arith, most)
one_more (Some outcome) n m most = omega (arith, most)

few_open : (queue : List Queued) → open_len queue ≤ length queue
few_open [] = omega arith
few_open (q ∷ qs) = omega (arith, one_more q.outcome (open_len qs) (length qs) (few_open qs))

-- there are as many actions as were asked for
pub as_many : (os : List Order) (b : Meaning) → HasAsked os b → length b.queue ≡ length os
as_many os b asked = sym (length-map b.queue (λ (q : Queued). q.action)) ∙ ap length asked.asked ∙ length-map os action_of

never_full : (os : List Order) (b : Meaning) → HasAsked os b → length os ≤ 4000 → is_full b.queue ≡ true → ⊥
never_full os b asked few full = omega (arith, leb-true 65535 (open_len b.queue) full, few_open b.queue, as_many os b asked, few)

module _ (size : ℕ) (os : List Order) (b : Meaning) (knows : Knows size b) (asked : HasAsked os b) where
  -- of the messages of INBOX those are absent that an earlier command moved
  absent_moved : (uid : ℕ) → 1 ≤ uid → uid ≤ size → is_absent b (codes "INBOX") (ident.Real uid) ≡ is_moved os uid
  absent_moved uid first last =
      ap not (in_view b knows.inbox knows.has_inbox knows.validity uid os asked.unsettled asked.asked)
      ∙ ap (λ x. not (x && not (is_moved os uid))) (knows.uids uid ∙ within) ∙ twice (is_moved os uid)
    where
      within : (nat_le 1 uid && nat_le uid size) ≡ true
      within = rw (le-leb 1 uid first, le-leb uid size last) refl

      twice : (x : Bool) → not (not x) ≡ x
      twice true = refl
      twice false = refl

  -- a command lacks its message where it is one to be refused
  lacking : (o : Order) → NamesOneOf size o → lacks_message b (wanted_of o) ≡ is_refused os o
  lacking (orders.Flag uid) named = absent_moved uid named.0 named.1
  lacking (orders.Move uid) named = absent_moved uid named.0 named.1
  lacking (orders.Append number) named = refl

  -- no other reason stops it
  too_large : (o : Order) → IsNumbered o → Stops (wanted_of o) b reasons.TooLarge → ⊥
  too_large (orders.Flag uid) numbered stops = absurd (cc stops)
  too_large (orders.Move uid) numbered stops = absurd (cc stops)
  too_large (orders.Append number) numbered stops = omega (arith, ltb-true _ _ stops, message_short number (omega (arith, numbered)))

  bad_text : (o : Order) → IsNumbered o → Stops (wanted_of o) b reasons.BadText → ⊥
  bad_text (orders.Flag uid) numbered stops = absurd (cc stops)
  bad_text (orders.Move uid) numbered stops = absurd (cc stops)
  bad_text (orders.Append number) numbered stops = absurd (cc (stops, message_clean number (omega (arith, numbered))))

  no_id : (o : Order) → IsNumbered o → Stops (wanted_of o) b reasons.NoMessageId → ⊥
  no_id (orders.Flag uid) numbered stops = stops
  no_id (orders.Move uid) numbered stops = stops
  no_id (orders.Append number) numbered stops = stops (identifier number) (message_id number (omega (arith, numbered)))

  one_box : (o : Order) → Stops (wanted_of o) b reasons.SameMailbox → ⊥
  one_box (orders.Flag uid) stops = absurd (cc stops)
  one_box (orders.Move uid) stops = absurd (cc stops)
  one_box (orders.Append number) stops = absurd (cc stops)

  -- a command that a reason stops is one to be refused
  stopped : (o : Order) (reason : Reason) → length os ≤ 4000 → NamesOneOf size o → IsNumbered o → Stops (wanted_of o) b reason → is_refused os o ≡ true
  stopped o reasons.NoMailbox few named numbered stops = absurd (cc (stops, boxes_known size b knows o))
  stopped o reasons.NoMessage few named numbered stops = sym (lacking o named) ∙ stops
  stopped o reasons.BadFlag few named numbered stops = absurd (cc (stops, flags_good o))
  stopped o reasons.SameMailbox few named numbered stops = absurd (one_box o stops)
  stopped o reasons.QueueFull few named numbered stops = absurd (never_full os b asked few stops)
  stopped o reasons.TooLarge few named numbered stops = absurd (too_large o numbered stops)
  stopped o reasons.BadText few named numbered stops = absurd (bad_text o numbered stops)
  stopped o reasons.NoMessageId few named numbered stops = absurd (no_id o numbered stops)

  -- and one that none stops isn't
  not_stopped : (o : Order) → NamesOneOf size o → (Stops (wanted_of o) b reasons.NoMessage → ⊥) → is_refused os o ≡ false
  not_stopped o named goes = by_test (is_refused os o) refl
    where
      by_test : (test : Bool) → is_refused os o ≡ test → is_refused os o ≡ false
      by_test true is = absurd (goes (lacking o named ∙ is))
      by_test false is = is

-- what was carried out is what the command asks for
pub asked_ends : (account : Credentials) (size : ℕ) (o : Order) (k : Course) (s : Status) (text : List ℕ) → size ≤ 2000 → NamesOneOf size o →
    Ends account (words_of o) (input_of o) k s text → OnFiles k (EndsAct (wanted_of o) k s text)
asked_ends account size o k s text most named ends =
    let asks : Asks (words_of o) (input_of o) (Act (wanted_of o)) = order_asked size o most named in
    ⊎_elim (λ w. absurd (w.nothing (input_of o) (Act (wanted_of o)) asks))
    (λ r. subst (λ (request : Request). EndsRequest account request k s text)
    (one_request (words_of o) (input_of o) r.request (Act (wanted_of o)) r.asks asks) r.ends) ends

module _ (account : Credentials) (words : List (List ℕ)) (input : List ℕ) (old new : QuietWorld) (s : Status) (ran : Ran account words input old new s)
    (b : Meaning) (has : HasOne b old) where
  kept_now : IsKeptNow (now_of new)
  kept_now =
      since_now (IsKept mail Kept) (IsKept mail Kept) (Joined mail played) (λ m n p s q. p) (clock_of old) has.kept (clock_of new)
      (ran.joined has.one_side (Firm (Some b)) has.leaves has.kept)

  -- the book that each stop leaves is the world's one
  leaves_one : (c : Meaning) → HasBooks mail (Firm (Some c)) (now_of new) → HasOne c new
  leaves_one c leaves = record {
    one_side = ran.one_side has.one_side;
    leaves = leaves;
    reads = leaves.each.each (seen_of new) (seen_sound (course_of new.world));
    kept = kept_now;
    fits = fits_behind account words input old new s ran has.one_side (Firm (Some b)) has.leaves has.kept has.fits;
    sufficed = ran.sufficed;
  }

module _ (one : OneEvent mail) (account : Credentials) (size : ℕ) (os : List Order) (o : Order) (b : Meaning) (old new : QuietWorld)
    (waits : Awaits size os o b old) where
  taken_as : Ran account (words_of o) (input_of o) old new status.Done → (c : Meaning) → c ≡ b → (action : Action) → IsFree (wanted_of o) c →
      Becomes (wanted_of o) c action → HasBooks mail (Firm (Some (after c (accepts c action)))) (now_of new) → Answers true os o b new
  taken_as ran c same action free is leaves =
      let here : IsFree (wanted_of o) b = subst (λ (x : Meaning). IsFree (wanted_of o) x) same free in
      let becomes : action ≡ action_of o =
      order_becomes size b o action waits.knows waits.numbered (subst (λ (x : Meaning). Becomes (wanted_of o) x action) same is) in
      let left : HasBooks mail (Firm (Some (after b (accepts b action)))) (now_of new) =
      subst (λ (x : Meaning). HasBooks mail (Firm (Some (after x (accepts x action)))) (now_of new)) same leaves in (
        not_stopped size os b waits.knows waits.asked o waits.named here.1.1.1.1.0,
        leaves_one account (words_of o) (input_of o) old new status.Done ran b waits.has (after b (accepts b (action_of o)))
            (subst (λ (x : Action). HasBooks mail (Firm (Some (after b (accepts b x)))) (now_of new)) becomes left),
      )

  -- a command that was carried out well was accepted
  pub taken : Ran account (words_of o) (input_of o) old new status.Done → Answers true os o b new
  taken ran =
      let a : SaysAccepted (wanted_of o) (course_from old new) ran.text =
      (asked_ends account size o (course_from old new) status.Done ran.text waits.most waits.named ran.goes.ends).says in
      taken_as ran a.book (one_held mail one (seen_of old) a.book b a.holds waits.has.reads) a.action a.free a.is a.leaves

  -- and one that wasn't for a reason of the book's was refused
  pub refused : Ran account (words_of o) (input_of o) old new status.Reason → Answers false os o b new
  refused ran =
      let a : SaysRefused (wanted_of o) (course_from old new) ran.text =
      (asked_ends account size o (course_from old new) status.Reason ran.text waits.most waits.named ran.goes.ends).says in
      let same : a.book ≡ b = one_held mail one (seen_of old) a.book b a.stays.holds waits.has.reads in (
        stopped size os b waits.knows waits.asked o a.reason waits.few waits.named waits.numbered
            (subst (λ (x : Meaning). Stops (wanted_of o) x a.reason) same a.is.stops),
        leaves_one account (words_of o) (input_of o) old new status.Reason ran b waits.has b
            (subst (λ (x : Meaning). HasBooks mail (Firm (Some x)) (now_of new)) same a.stays.leaves),
      )

module _ (one : OneEvent mail) (account : Credentials) (o : Order) (words : List (List ℕ)) (input : List ℕ) (old new : QuietWorld) (s : Status)
    (ran : Ran account words input old new s) (said : words ≡ words_of o) (read : input ≡ input_of o) where
  asked_so : Ran account (words_of o) (input_of o) old new s
  asked_so =
      subst (λ (ws : List (List ℕ)). Ran account ws (input_of o) old new s) said (subst (λ (i : List ℕ). Ran account words i old new s) read ran)

  -- so it is with words and an input that are the command's
  pub done_answers : s ≡ status.Done → (size : ℕ) (os : List Order) (b : Meaning) → Awaits size os o b old → Answers true os o b new
  done_answers is size os b waits =
      taken one account size os o b old new waits (subst (λ (t : Status). Ran account (words_of o) (input_of o) old new t) is asked_so)

  pub reason_answers : s ≡ status.Reason → (size : ℕ) (os : List Order) (b : Meaning) → Awaits size os o b old → Answers false os o b new
  reason_answers is size os b waits =
      refused one account size os o b old new waits (subst (λ (t : Status). Ran account (words_of o) (input_of o) old new t) is asked_so)

-- and it was run from the one world to the other
pub order_runs : (account : Credentials) (o : Order) (words : List (List ℕ)) (input : List ℕ) (old new : QuietWorld) (s : Status) →
    Ran account words input old new s → words ≡ words_of o → input ≡ input_of o →
    (t : Status) × (text : List ℕ) × Runs (words_of o) (input_of o) old.world new.world t text
order_runs account o words input old new s ran said read = (
  s,
  ran.text,
  subst (λ (ws : List (List ℕ)). Runs ws (input_of o) old.world new.world s ran.text) said
      (subst (λ (i : List ℕ). Runs words i old.world new.world s ran.text) read (record { account = account; goes = ran.goes })),
)

-- where a limit was passed, the command's run did
pub order_broken : (o : Order) (words : List (List ℕ)) (input : List ℕ) (old new : MemWorld) (broken : Broken) → words ≡ words_of o → input ≡ input_of o →
    IsBrokenAs (Runs words input old new status.Limit) broken → IsBrokenAs (Runs (words_of o) (input_of o) old new status.Limit) broken
order_broken o words input old new broken said read is =
    subst (λ (ws : List (List ℕ)). IsBrokenAs (Runs ws (input_of o) old new status.Limit) broken) said
    (subst (λ (i : List ℕ). IsBrokenAs (Runs words i old new status.Limit) broken) read is)
