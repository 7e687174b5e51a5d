-- The commands of a drill, one behind the other: the book has the actions of those that were accepted.
use Rattle.std.proofs.Common.{◌≡◌, ℕ, suc, ◌+◌, ◌-◌, ◌*◌, ◌<◌, ◌≤◌, Bool, true, false, List, [], ◌∷◌, ◌++◌, length, refl, sym, ◌∙◌, ap, subst, arith}
use Rattle.std.proofs.Common.{add-one}
use Rattle.std.specs.Prelude.{◌==◌, ◌||◌, if◌then◌else◌, map, nat_lt}
use Rattle.std.proofs.lemmas.Bool.{eqb-true}
use Rattle.std.proofs.lemmas.List.{append-nil, append_assoc, length-append, map-append}
use Rattle.std.proofs.lemmas.List.Folds.{list_any-append}
use Rattle.action_queue.specs.Book.{Meaning, after}
use Rattle.action_queue.specs.Queues.{AllOpen, accepted as queued_as}
use Rattle.action_queue.specs.declared.action.Action.{Action}
use Rattle.action_queue.specs.declared.queued.Queued.{Queued}
use Rattle.mail_base.specs.declared.status.Status.{Status}
use Rattle.mail_base.specs.declared.status.Status.TheVariants as status
use Rattle.world_mem.specs.declared.mem_world.MemWorld.{MemWorld}
use Rattle.mail_top.specs.Actions.{accepts}
use Rattle.mail_drill.proofs.OrderAnswers.{as_many}
use Rattle.mail_drill.specs.Accepted.{accepted, is_moved, is_refused, moves}
use Rattle.mail_drill.specs.Answering.{Answers, Awaits, IsNumbered}
use Rattle.mail_drill.specs.Asked.{action_of}
use Rattle.mail_drill.specs.Came.{Runs}
use Rattle.mail_drill.specs.Counted.{one_more_if}
use Rattle.mail_drill.specs.Held.{Gives, PassesLimit, at_command, goes_on}
use Rattle.mail_drill.specs.Orders.{NamesOneOf, behind_order, behind_orders, kind_at, order_at, orders_from, uid_at}
use Rattle.mail_drill.specs.Standing.{HasAsked, HasOne, IsBrokenAs, Knows}
use Rattle.mail_drill.specs.Texts.{input_of, words_of}
use Rattle.mail_drill.specs.declared.orders.Order.{Order}
use Rattle.mail_drill.specs.declared.orders.Order.TheVariants as orders
use Rattle.mail_drill.specs.declared.played.Broken.{Broken}
use Rattle.mail_drill.specs.declared.played.Broken.TheVariants as brokens
use Rattle.mail_drill.specs.declared.quiet_world.QuietWorld.{QuietWorld}

-- Of all these commands some were given and these are left. Each stop leaves a book with the actions of those that were taken, of
-- which there are so many; and a message was moved by one of those that were taken where it was moved by one of those that were given.
pub record IsGiven (size : ℕ) (all left : List Order) (count : ℕ) (w : QuietWorld) : Type 0 where
  pub book : Meaning
  pub has : HasOne book w
  pub knows : Knows size book
  pub taken : List Order
  pub earlier : List Order
  pub asked : HasAsked taken book
  pub so_far : accepted [] all ≡ taken ++ accepted earlier left
  pub same : (uid : ℕ) → is_moved taken uid ≡ is_moved earlier uid
  pub counted : count ≡ length book.queue

-- before the first
pub none_given : (size : ℕ) (all : List Order) (w : QuietWorld) (b : Meaning) → HasOne b w → Knows size b → b.queue ≡ [] → IsGiven size all all 0 w
none_given size all w b has knows none = record {
  book = b;
  has = has;
  knows = knows;
  taken = [];
  earlier = [];
  asked = record { asked = ap (λ (queue : List Queued). map (λ (q : Queued). q.action) queue) none; unsettled = subst AllOpen (sym none) tt };
  so_far = refl;
  same = λ uid. refl;
  counted = ap length (sym none);
}

-- an action more that is open
open_more : (queue : List Queued) (action : Action) → AllOpen queue → AllOpen (queue ++ queued_as action ∷ [])
open_more [] action unsettled = (refl, tt)
open_more (q ∷ qs) action unsettled = (unsettled.0, open_more qs action unsettled.1)

asked_more : (os : List Order) (o : Order) (b : Meaning) → HasAsked os b → HasAsked (os ++ o ∷ []) (after b (accepts b (action_of o)))
asked_more os o b asked = record {
  asked =
      map-append (λ (q : Queued). q.action) b.queue (queued_as (action_of o) ∷ []) ∙ ap (λ (done : List Action). done ++ action_of o ∷ []) asked.asked
      ∙ sym (map-append action_of os (o ∷ []));
  unsettled = open_more b.queue (action_of o) asked.unsettled;
}

-- which commands are to be refused depends on the moved messages alone
refused_same : (os earlier : List Order) (o : Order) → ((uid : ℕ) → is_moved os uid ≡ is_moved earlier uid) → is_refused os o ≡ is_refused earlier o
refused_same os earlier (orders.Flag uid) same = same uid
refused_same os earlier (orders.Move uid) same = same uid
refused_same os earlier (orders.Append number) same = refl

or_turned : (x y : Bool) → (x || (y || false)) ≡ (y || x)
or_turned true true = refl
or_turned true false = refl
or_turned false true = refl
or_turned false false = refl

-- a command that was taken, and one that was refused, moves what it moves
moved_more : (os earlier : List Order) (o : Order) → ((uid : ℕ) → is_moved os uid ≡ is_moved earlier uid) → (uid : ℕ) →
    is_moved (os ++ o ∷ []) uid ≡ is_moved (o ∷ earlier) uid
moved_more os earlier o same uid =
    list_any-append (moves uid) os (o ∷ []) ∙ or_turned (is_moved os uid) (moves uid o) ∙ ap (λ x. moves uid o || x) (same uid)

moved_again : (os earlier : List Order) (o : Order) → ((uid : ℕ) → is_moved os uid ≡ is_moved earlier uid) → is_refused os o ≡ true → (uid : ℕ) →
    is_moved os uid ≡ is_moved (o ∷ earlier) uid
moved_again os earlier (orders.Flag n) same was uid = same uid
moved_again os earlier (orders.Move n) same was uid = by_test (n == uid) refl
  where
    by_test : (test : Bool) → (n == uid) ≡ test → is_moved os uid ≡ (test || is_moved earlier uid)
    by_test true is = sym (ap (is_moved os) (eqb-true n uid is)) ∙ was
    by_test false is = same uid
moved_again os earlier (orders.Append number) same was uid = absurd (cc was)

-- one command more
pub next_given : (took : Bool) (size : ℕ) (all left : List Order) (o : Order) (count : ℕ) (old new : QuietWorld) (g : IsGiven size all (o ∷ left) count old) →
    Answers took g.taken o g.book new → IsGiven size all left (one_more_if took count) new
next_given true size all left o count old new g answers = record {
  book = after g.book (accepts g.book (action_of o));
  has = answers.1;
  knows = record { names = g.knows.names; inbox = g.knows.inbox; has_inbox = g.knows.has_inbox; validity = g.knows.validity; uids = g.knows.uids };
  taken = g.taken ++ o ∷ [];
  earlier = o ∷ g.earlier;
  asked = asked_more g.taken o g.book g.asked;
  so_far =
      g.so_far ∙ ap (λ (x : Bool). g.taken ++ (if x then accepted (o ∷ g.earlier) left else o ∷ accepted (o ∷ g.earlier) left))
      (sym (refused_same g.taken g.earlier o g.same) ∙ answers.0) ∙ sym (append_assoc g.taken (o ∷ []) (accepted (o ∷ g.earlier) left));
  same = moved_more g.taken g.earlier o g.same;
  counted = omega (arith, g.counted, length-append g.book.queue (queued_as (action_of o) ∷ []));
}
next_given false size all left o count old new g answers = record {
  book = g.book;
  has = answers.1;
  knows = g.knows;
  taken = g.taken;
  earlier = o ∷ g.earlier;
  asked = g.asked;
  so_far =
      g.so_far ∙ ap (λ (x : Bool). g.taken ++ (if x then accepted (o ∷ g.earlier) left else o ∷ accepted (o ∷ g.earlier) left))
      (sym (refused_same g.taken g.earlier o g.same) ∙ answers.0);
  same = moved_again g.taken g.earlier o g.same answers.0;
  counted = g.counted;
}

-- the next command is one that the book awaits
pub awaits_next : (size : ℕ) (all left : List Order) (o : Order) (count : ℕ) (w : QuietWorld) (g : IsGiven size all left count w) → count ≤ 4000 → size ≤ 2000 →
    NamesOneOf size o → IsNumbered o → Awaits size g.taken o g.book w
awaits_next size all left o count w g few most named numbered = record {
  has = g.has;
  knows = g.knows;
  asked = g.asked;
  few = omega (arith, few, g.counted, as_many g.taken g.book g.asked);
  most = most;
  named = named;
  numbered = numbered;
}

-- the commands that are left, by the next of them
abbrev pub left_from : ℕ → ℕ → ℕ → ℕ → List Order
left_from size end number x = orders_from size (end - number) number x

pub next_left : (size end number x : ℕ) → number < end → left_from size end number x ≡ order_at size number x ∷ left_from size end (number + 1) (behind_order x)
next_left size end number x more =
    let one : end - number ≡ suc (end - (number + 1)) = omega (arith, more) in
    ap (λ count. orders_from size count number x) one
    ∙ ap (λ n. order_at size number x ∷ orders_from size (end - (number + 1)) n (behind_order x)) (sym (add-one number))

pub next_behind : (end number x : ℕ) → number < end → behind_orders (end - number) x ≡ behind_orders (end - (number + 1)) (behind_order x)
next_behind end number x more = let one : end - number ≡ suc (end - (number + 1)) = omega (arith, more) in ap (λ count. behind_orders count x) one

-- a command of a number up to 4,000 has it
pub order_numbered : (size number x : ℕ) → number ≤ 4000 → IsNumbered (order_at size number x)
order_numbered size number x most =
    by_tests (nat_lt (kind_at x) 6) (nat_lt (kind_at x) 8)
  where
    by_tests : (few some : Bool) → IsNumbered (if few then orders.Flag (uid_at size x) else if some then orders.Move (uid_at size x) else orders.Append number)
    by_tests true some = tt
    by_tests false true = tt
    by_tests false false = most

-- What is known of the commands behind the last one.
pub all_given : (size : ℕ) (all : List Order) (count : ℕ) (w : QuietWorld) → IsGiven size all [] count w →
    (c : Meaning) × HasOne c w × HasAsked (accepted [] all) c × (count ≡ length c.queue)
all_given size all count w g =
    (g.book, g.has, subst (λ (os : List Order). HasAsked os g.book) (sym (g.so_far ∙ append-nil g.taken)) g.asked, g.counted)

-- What was given, and a limit that was passed, by the runs of the commands.
pub gives_next : (size seed number x y : ℕ) (o : Order) (old new : MemWorld) → o ≡ order_at size number x → y ≡ behind_order x →
    Gives size seed number x old → (s : Status) × (text : List ℕ) × Runs (words_of o) (input_of o) old new s text →
    Gives size seed (number + 1) y new
gives_next size seed number x y o old new is draws gives runs =
    subst (λ (n : ℕ). Gives size seed n y new) (sym (add-one number)) (subst (λ (k : ℕ). Gives size seed (suc number) k new) (sym draws)
    (goes_on gives (subst (λ (p : Order). Runs (words_of p) (input_of p) old new runs.0 runs.1) is runs.2)))

pub limit_next : (size seed number x : ℕ) (o : Order) (old new : MemWorld) (broken : Broken) → o ≡ order_at size number x → number ≤ 2 * size →
    Gives size seed number x old → IsBrokenAs (Runs (words_of o) (input_of o) old new status.Limit) broken →
    IsBrokenAs (PassesLimit size seed new) broken
limit_next size seed number x o old new brokens.Memory is most gives ran = tt
limit_next size seed number x o old new (brokens.Unforeseen s) is most gives ran = tt
limit_next size seed number x o old new (brokens.Limit line) is most gives ran =
    at_command most gives (subst (λ (p : Order). Runs (words_of p) (input_of p) old new status.Limit line) is ran)

-- The loop over the commands, whose numbers are from 1 to this one: before the first, one more, and behind the last.
pub first_left : (size x : ℕ) → orders_from size (2 * size) 1 x ≡ left_from size (2 * size + 1) 1 x
first_left size x = let all : 2 * size ≡ 2 * size + 1 - 1 = omega arith in ap (λ count. orders_from size count 1 x) all

pub given_first : (size x : ℕ) (w : QuietWorld) (b : Meaning) → HasOne b w → Knows size b → b.queue ≡ [] →
    IsGiven size (orders_from size (2 * size) 1 x) (left_from size (2 * size + 1) 1 x) 0 w
given_first size x w b has knows none =
    subst (λ (left : List Order). IsGiven size (orders_from size (2 * size) 1 x) left 0 w) (first_left size x)
    (none_given size (orders_from size (2 * size) 1 x) w b has knows none)

-- the book awaits the next one
pub awaits_more : (size number x count refused : ℕ) (all : List Order) (o : Order) (w : QuietWorld) → size ≤ 2000 → number < 2 * size + 1 →
    count + refused + 1 ≡ number → o ≡ order_at size number x → NamesOneOf size o → IsGiven size all (left_from size (2 * size + 1) number x) count w →
    (os : List Order) × (b : Meaning) × Awaits size os o b w
awaits_more size number x count refused all o w most within sum is named g = (
  g.taken,
  g.book,
  awaits_next size all (left_from size (2 * size + 1) number x) o count w g (omega (arith, most, within, sum)) most named
      (subst IsNumbered (sym is) (order_numbered size number x (omega (arith, most, within)))),
)

pub given_more : (size number x y count refused more : ℕ) (all : List Order) (o : Order) (took : Bool) (old new : QuietWorld) → size ≤ 2000 →
    number < 2 * size + 1 → count + refused + 1 ≡ number → o ≡ order_at size number x → y ≡ behind_order x → NamesOneOf size o →
    more ≡ one_more_if took count →
    ((size : ℕ) (os : List Order) (b : Meaning) → Awaits size os o b old → Answers took os o b new) →
    IsGiven size all (left_from size (2 * size + 1) number x) count old → IsGiven size all (left_from size (2 * size + 1) (number + 1) y) more new
given_more size number x y count refused more all o took old new most within sum is draws named one answers given =
    let left = left_from size (2 * size + 1) (number + 1) (behind_order x) in
    let g : IsGiven size all (o ∷ left) count old =
    subst (λ (os : List Order). IsGiven size all os count old) (next_left size (2 * size + 1) number x within ∙ ap (λ (p : Order). p ∷ left) (sym is)) given in
    let numbered : IsNumbered o = subst IsNumbered (sym is) (order_numbered size number x (omega (arith, most, within))) in
    let done : IsGiven size all left (one_more_if took count) new =
    next_given took size all left o count old new g (answers size g.taken g.book
    (awaits_next size all (o ∷ left) o count old g (omega (arith, most, within, sum)) most named numbered)) in
    subst (λ (k : ℕ). IsGiven size all (left_from size (2 * size + 1) (number + 1) k) more new) (sym draws)
    (subst (λ (k : ℕ). IsGiven size all left k new) (sym one) done)

pub given_last : (size number x count refused : ℕ) (all : List Order) (w : QuietWorld) → 2 * size + 1 ≤ number → number ≤ 2 * size + 1 →
    count + refused + 1 ≡ number → IsGiven size all (left_from size (2 * size + 1) number x) count w →
    (c : Meaning) × HasOne c w × HasAsked (accepted [] all) c × (count ≡ length c.queue) × (count + refused ≡ 2 * size)
given_last size number x count refused all w past within sum given =
    let none : 2 * size + 1 - number ≡ 0 = omega (arith, past) in
    let done = all_given size all count w (subst (λ (k : ℕ). IsGiven size all (orders_from size k number x) count w) none given) in
    (done.0, done.1, done.2, done.3, omega (arith, past, within, sum))

pub behind_last : (size number x all : ℕ) → 2 * size + 1 ≤ number → behind_orders (2 * size + 1 - number) x ≡ all → x ≡ all
behind_last size number x all past is =
    let none : 2 * size + 1 - number ≡ 0 = omega (arith, past) in sym (ap (λ count. behind_orders count x) none) ∙ is

pub gives_last : (size seed number x : ℕ) (w : MemWorld) → 2 * size + 1 ≤ number → number ≤ 2 * size + 1 → Gives size seed number x w →
    Gives size seed (2 * size + 1) x w
gives_last size seed number x w past within gives =
    let end : number ≡ 2 * size + 1 = omega (arith, past, within) in subst (λ (n : ℕ). Gives size seed n x w) end gives
