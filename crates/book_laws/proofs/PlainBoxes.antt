-- The plain programs for `Open` and `Fresh` tell the truth.
use Rattle.std.proofs.Common.{◌≡◌, ◌≤◌, ℕ, suc, ◌+◌, Bool, true, false, eqb, cond, List, [], ◌∷◌, Option, Some, None}
use Rattle.std.proofs.Common.{refl, sym, ◌∙◌, ap, subst, arith}
use Rattle.std.specs.Prelude.{◌&&◌, ◌||◌, ◌==◌, nat_le, nat_lt, not, is_some, bytes_eq}
use Rattle.std.specs.Bool.{Decides}
use Rattle.std.specs.List.{list_all}
use Rattle.std.specs.Cmp.Lexicographic.{pointwise}
use Rattle.std.proofs.lemmas.Bool.{cond_both, cond-true, cond-false, and_parts, eqb-true, eq-eqb, ne_eqb}
use Rattle.std.proofs.lemmas.Bool.Decides.{Decides-eqb, Decides-ltb}
use Rattle.std.proofs.lemmas.Option.{same_Some}
use Rattle.mailbox_cache.specs.Rows.{row_at}
use Rattle.mailbox_cache.specs.declared.cache.Cache.{Cache}
use Rattle.mailbox_cache.specs.declared.row.Row.{Row}
use Rattle.imap_model.specs.Lookups.{box_at, message_at, gone_at}
use Rattle.imap_model.specs.Evolving.{IsAbove}
use Rattle.imap_model.specs.Ours.{is_number, ours}
use Rattle.imap_model.specs.WellFormed.{Rises, IsWellFormed}
use Rattle.imap_model.specs.declared.deed.Deed.{Deed}
use Rattle.imap_model.specs.declared.server.Message.{Message}
use Rattle.imap_model.specs.declared.server.Mailbox.{Mailbox}
use Rattle.imap_model.specs.declared.server.Server.{Server}
use Rattle.qresync_core.specs.Fresh.{kept_row, FreshFacts}
use Rattle.action_queue.specs.Queues.{due, due_action}
use Rattle.action_queue.specs.Book.{Meaning, known_at, cache_of, cache_at}
use Rattle.action_queue.specs.Writable.{IsWritableAction}
use Rattle.action_queue.specs.declared.action.Action.{Action}
use Rattle.action_queue.specs.declared.action.Action.TheVariants as actions
use Rattle.action_queue.specs.declared.book.Known.{Known}
use Rattle.action_queue.specs.declared.intent.Intent.{Intent}
use Rattle.action_queue.specs.declared.intent.Intent.TheVariants as intents
use Rattle.action_queue.specs.declared.queued.Queued.{Queued}
use Rattle.imap_model.proofs.Finding.{same_name}
use Rattle.append_probe.specs.Marked.{at_least, has_id, marked}
use Rattle.append_probe.specs.Question.{append_id}
use Rattle.book_laws.specs.Once.{new_uid}
use Rattle.book_laws.specs.InBox.{InBox}
use Rattle.book_laws.specs.Open.{RowAbove, some_of, given, AllReceived, IntentFacts, IsOpen, Open, intent_name, intent_validity}
use Rattle.book_laws.specs.Fresh.{Fresh, IsFreshFor}
use Rattle.book_laws.specs.PlainOnce.{is_none}
use Rattle.book_laws.specs.PlainOpen.{row_above, not_there, marked_from, gave, all_received, NeedsId, HasGoodId, intent_holds}
use Rattle.book_laws.specs.PlainOpen.{holds_in, open_by, open_holds}
use Rattle.book_laws.specs.PlainFresh.{is_row, went_above, knows_message, accounts_for, is_fresh, fresh_for, fresh_holds}
use Rattle.book_laws.specs.Sound.{HasIntent, IsSound}
use Rattle.book_laws.proofs.Queueing.{Suited, is_suited}
use Rattle.book_laws.proofs.Deciding.{yes, no, both, unless, implies, at_most, same_flags, none_is, means}

above_decides : (modseq : ℕ) (o : Option Message) → Decides (row_above modseq o) (RowAbove modseq o)
above_decides modseq None = yes tt
above_decides modseq (Some m) = Decides-ltb modseq m.modseq

absent_decides : (o : Option Message) → Decides (not_there o) (o ≡ None)
absent_decides None = yes refl
absent_decides (Some m) = no (λ e. absurd (cc))

-- the UIDs in one go
by_low : (low : ℕ) (m : Message) (us vs : List ℕ) (l : Bool) → us ≡ vs → cond l (m.uid ∷ us) us ≡ cond l (m.uid ∷ vs) vs
by_low low m us vs true e = ap (λ (xs : List ℕ). m.uid ∷ xs) e
by_low low m us vs false e = e

by_id : (low : ℕ) (id : List ℕ) (m : Message) (us vs : List ℕ) (h : Bool) → us ≡ at_least low vs →
    cond (h && nat_le low m.uid) (m.uid ∷ us) us ≡ at_least low (cond h (m.uid ∷ vs) vs)
by_id low id m us vs true e = by_low low m us (at_least low vs) (nat_le low m.uid) e
by_id low id m us vs false e = e

from_is : (low : ℕ) (id : List ℕ) (ms : List Message) → marked_from low id ms ≡ at_least low (marked id ms)
from_is low id [] = refl
from_is low id (m ∷ ms) = by_id low id m (marked_from low id ms) (marked id ms) (has_id id m.text) (from_is low id ms)

uid_is : (n : ℕ) (o : Option ℕ) → Decides (is_number n o) (Some n ≡ o)
uid_is n None = no (λ e. absurd (cc))
uid_is n (Some k) = (λ e. ap (λ (x : ℕ). Some x) (sym (eqb-true k n e)), λ e. eq-eqb k n (sym (same_Some n k e)))

pair_is : (a b : Option ℕ) (xs ys : List (Option ℕ)) → a ≡ b → xs ≡ ys → a ∷ xs ≡ b ∷ ys
pair_is a b xs ys e f = ap (λ (x : Option ℕ). x ∷ xs) e ∙ ap (λ (zs : List (Option ℕ)). b ∷ zs) f

gave_decides : (us : List ℕ) (mine : List Deed) → Decides (gave us mine) (some_of us ≡ given mine)
gave_decides [] [] = yes refl
gave_decides [] (d ∷ ds) = no (λ e. absurd (cc))
gave_decides (u ∷ us) [] = no (λ e. absurd (cc))
gave_decides (u ∷ us) (d ∷ ds) =
    means (gave (u ∷ us) (d ∷ ds)) (λ h. pair_is (Some u) (new_uid d.change) (some_of us) (given ds) h.0 h.1)
    (λ e. (let h : Some u ≡ new_uid d.change = cc in h, let h : some_of us ≡ given ds = cc in h))
    (both (is_number u (new_uid d.change)) (gave us ds) (uid_is u (new_uid d.change)) (gave_decides us ds))

received_decides : (validity : ℕ) (mine : List Deed) → Decides (all_received validity mine) (AllReceived validity mine)
received_decides validity [] = yes tt
received_decides validity (d ∷ ds) = both (d.received == validity) (all_received validity ds) (Decides-eqb d.received validity) (received_decides validity ds)

intent_decides : (action : Action) (mine : List Deed) (intent : Intent) (b : Mailbox) →
    Decides (intent_holds action mine intent b) (IntentFacts action mine intent b)
intent_decides action mine (intents.Store name validity uid modseq) b =
    means (intent_holds action mine (intents.Store name validity uid modseq) b)
    (λ h. record { highest = h.0; below = h.1.0; passed = h.1.1 }) (λ f. (f.highest, (f.below, f.passed)))
    (both (nat_le modseq b.highest) (nat_lt uid b.uidnext && (is_none mine || row_above modseq (message_at uid b.messages))) (at_most modseq b.highest)
    (both (nat_lt uid b.uidnext) (is_none mine || row_above modseq (message_at uid b.messages)) (Decides-ltb uid b.uidnext)
    (unless (is_none mine) (row_above modseq (message_at uid b.messages)) (none_is mine) (above_decides modseq (message_at uid b.messages)))))
intent_decides action mine (intents.Shift from validity uid to) b =
    means (intent_holds action mine (intents.Shift from validity uid to) b)
    (λ h. record { below = h.0; left = h.1 }) (λ f. (f.below, f.left))
    (both (nat_lt uid b.uidnext) (is_none mine || not_there (message_at uid b.messages)) (Decides-ltb uid b.uidnext)
    (unless (is_none mine) (not_there (message_at uid b.messages)) (none_is mine) (absent_decides (message_at uid b.messages))))
intent_decides action mine (intents.Put to validity uidnext) b =
    let id : List ℕ = append_id action in
    means (intent_holds action mine (intents.Put to validity uidnext) b)
    (λ h. record { reached = h.0; found = ap some_of (sym (from_is uidnext id b.messages)) ∙ h.1.0; received = h.1.1 })
    (λ f. (f.reached, (ap some_of (from_is uidnext id b.messages) ∙ f.found, f.received)))
    (both (nat_le uidnext b.uidnext) (gave (marked_from uidnext id b.messages) mine && all_received validity mine) (at_most uidnext b.uidnext)
    (both (gave (marked_from uidnext id b.messages) mine) (all_received validity mine)
    (gave_decides (marked_from uidnext id b.messages) mine) (received_decides validity mine)))

-- a test of the mailbox of a name
module _ (Facts : Mailbox → Type 0) (test : Mailbox → Bool) (decides : (b : Mailbox) → Decides (test b) (Facts b)) (name : List ℕ) (validity : ℕ)
    (boxes : List Mailbox) where
  tests : (b : Mailbox) → Decides (nat_le validity b.validity && (not (b.validity == validity) || test b))
      ((validity ≤ b.validity) × (b.validity ≡ validity → Facts b))
  tests b =
      both (nat_le validity b.validity) (not (b.validity == validity) || test b) (at_most validity b.validity)
      (implies (b.validity == validity) (test b) (Decides-eqb b.validity validity) (decides b))

  box_there : (o : Option Mailbox) → box_at name boxes ≡ o → holds_in test validity o ≡ true → InBox Facts name validity boxes
  box_there None e = λ h. absurd (cc)
  box_there (Some b) e = λ h.
      let both_are = (tests b).0 h in record { box = b; there = e; not_below = both_are.0; facts = both_are.1 }

  box_back : InBox Facts name validity boxes → holds_in test validity (box_at name boxes) ≡ true
  box_back i =
      ap (holds_in test validity) i.there
      ∙ (tests i.box).1 (i.not_below, i.facts)

  pub box_decides : Decides (holds_in test validity (box_at name boxes)) (InBox Facts name validity boxes)
  box_decides = (box_there (box_at name boxes) refl, box_back)

module _ (b : Meaning) (s : Server) where
  is_open_decides : (q : Queued) (intent : Intent) → Decides (open_by b s (Some intent) (Some q)) (IsOpen q.action
      (ours (suc (due b.queue)) s.history) intent s.boxes)
  is_open_decides q intent =
      box_decides (IntentFacts q.action (ours (suc (due b.queue)) s.history) intent) (intent_holds q.action (ours (suc (due b.queue)) s.history) intent)
      (intent_decides q.action (ours (suc (due b.queue)) s.history) intent) (intent_name intent) (intent_validity intent) s.boxes

  open_there : (i : Option Intent) (o : Option Queued) → b.pending ≡ i → due_action b.queue ≡ o → open_by b s i o ≡ true → Open b s
  open_there None o p e = λ h intent p2. absurd (cc)
  open_there (Some i) None p e = λ h intent p2 q e2. absurd (cc)
  open_there (Some i) (Some x) p e = λ h intent p2 q e2.
      subst (λ (y : Intent). IsOpen q.action (ours (suc (due b.queue)) s.history) y s.boxes) (same_Some i intent (sym p ∙ p2))
      (subst (λ (y : Queued). IsOpen y.action (ours (suc (due b.queue)) s.history) i s.boxes) (same_Some x q (sym e ∙ e2)) ((is_open_decides x i).0 h))

  open_back : (i : Option Intent) (o : Option Queued) → b.pending ≡ i → due_action b.queue ≡ o → Open b s → open_by b s i o ≡ true
  open_back None o p e f = refl
  open_back (Some i) None p e f = refl
  open_back (Some i) (Some x) p e f = (is_open_decides x i).1 (f i p x e)

  pub open_decides : Decides (open_holds b s) (Open b s)
  open_decides = (open_there b.pending (due_action b.queue) refl refl, open_back b.pending (due_action b.queue) refl refl)

-- rows
row_decides : (row : Row) (o : Option Row) → Decides (is_row row o) (o ≡ Some row)
row_decides row None = no (λ e. absurd (cc))
row_decides row (Some other) =
    means (is_row row (Some other)) (λ h. rows_same other row h.0 h.1)
    (λ e. (ap (λ (r : Row). r.flags) (same_Some other row e), ap (λ (r : Row). r.modseq) (same_Some other row e)))
    (both (pointwise bytes_eq other.flags row.flags) (other.modseq == row.modseq) (same_flags other.flags row.flags) (Decides-eqb other.modseq row.modseq))
  where
    rows_same : (x y : Row) → x.flags ≡ y.flags → x.modseq ≡ y.modseq → Some x ≡ Some y
    rows_same x y f m =
        ap (λ (l : List (List ℕ)). Some (record { flags = l; modseq = x.modseq })) f
        ∙ ap (λ (k : ℕ). Some (record { flags = y.flags; modseq = k })) m

went_decides : (mark : ℕ) (o : Option ℕ) → Decides (went_above mark o) (IsAbove mark o)
went_decides mark None = no (λ h. h)
went_decides mark (Some modseq) = Decides-ltb mark modseq

knows_decides : (cache : Cache) (m : Message) → Decides (knows_message cache m) (m.modseq ≤ cache.highest → row_at m.uid cache.rows ≡ Some (kept_row m))
knows_decides cache m =
    implies (nat_le m.modseq cache.highest) (is_row (kept_row m) (row_at m.uid cache.rows)) (at_most m.modseq cache.highest)
    (row_decides (kept_row m) (row_at m.uid cache.rows))

-- a message that is found by its UID passes where all do
found_passes : (p : Message → Bool) (uid : ℕ) (ms : List Message) (m : Message) → list_all p ms ≡ true → message_at uid ms ≡ Some m →
    (p m ≡ true) × (m.uid ≡ uid)
found_passes p uid [] m = λ a e. absurd (cc)
found_passes p uid (x ∷ xs) m = λ a.
    let parts = and_parts (p x) (list_all p xs) a in
    cond_both (eqb x.uid uid) (Some x) (message_at uid xs) (λ (o : Option Message). o ≡ Some m → (p m ≡ true) × (m.uid ≡ uid))
    (λ t e. let is : x ≡ m = same_Some x m e in (subst (λ (y : Message). p y ≡ true) is parts.0, ap (λ (y : Message). y.uid) (sym is) ∙ eqb-true x.uid uid t))
    (λ f e. found_passes p uid xs m parts.1 e)

-- where messages rise, each is found by its UID
all_found : (p : Message → Bool) (least : ℕ) (ms : List Message) → Rises least ms →
    ((m : Message) → least ≤ m.uid → message_at m.uid ms ≡ Some m → p m ≡ true) → list_all p ms ≡ true
all_found p least [] r f = refl
all_found p least (x ∷ xs) r f =
    (both (p x) (list_all p xs) (λ e. e, λ e. e) (λ e. e, λ e. e)).1 (
      f x r.0 (cond-true (eqb x.uid x.uid) (Some x) (message_at x.uid xs) (eq-eqb x.uid x.uid refl)),
      all_found p (x.uid + 1) xs r.1 (λ m l e.
          f m (let first : least ≤ x.uid = r.0 in omega arith)
          (cond-false (eqb x.uid m.uid) (Some x) (message_at m.uid xs) (ne_eqb x.uid m.uid (λ s. absurd (omega arith))) ∙ e)),
    )

messages_decide : (cache : Cache) (box : Mailbox) → Rises 0 box.messages → Decides (list_all (knows_message cache) box.messages)
    ((uid : ℕ) (m : Message) → message_at uid box.messages ≡ Some m → m.modseq ≤ cache.highest → row_at uid cache.rows ≡ Some (kept_row m))
messages_decide cache box r = (
  λ a uid m e l.
      let found = found_passes (knows_message cache) uid box.messages m a e in
      subst (λ (k : ℕ). row_at k cache.rows ≡ Some (kept_row m)) found.1 ((knows_decides cache m).0 found.0 l),
  λ f. all_found (knows_message cache) 0 box.messages r (λ m low e. (knows_decides cache m).1 (λ l. f m.uid m e l)),
)

accounts_decide : (cache : Cache) (box : Mailbox) (r : ℕ × Row) →
    Decides (accounts_for cache box r) (message_at r.0 box.messages ≡ None → IsAbove cache.highest (gone_at r.0 box.gone))
accounts_decide cache box r = by_message (message_at r.0 box.messages)
  where
    by_message : (o : Option Message) → Decides (is_some o || went_above cache.highest (gone_at r.0 box.gone)) (o ≡ None → IsAbove cache.highest
        (gone_at r.0 box.gone))
    by_message None = means (went_above cache.highest (gone_at r.0 box.gone)) (λ h e. h) (λ f. f refl) (went_decides cache.highest (gone_at r.0 box.gone))
    by_message (Some m) = yes (λ e. absurd (cc))

-- a row that is found passes where all do
row_passes : (p : ℕ × Row → Bool) (uid : ℕ) (rows : List (ℕ × Row)) (row : Row) → list_all p rows ≡ true → row_at uid rows ≡ Some row → p (uid, row) ≡ true
row_passes p uid [] row = λ a e. absurd (cc)
row_passes p uid (x ∷ xs) row = λ a.
    let parts = and_parts (p x) (list_all p xs) a in
    cond_both (eqb x.0 uid) (Some x.1) (row_at uid xs) (λ (o : Option Row). o ≡ Some row → p (uid, row) ≡ true)
    (λ t e. subst (λ (k : ℕ). p (k, row) ≡ true) (eqb-true x.0 uid t) (subst (λ (y : Row). p (x.0, y) ≡ true) (same_Some x.1 row e) parts.0))
    (λ f e. row_passes p uid xs row parts.1 e)

-- a row that stands there is found, or another of its UID
pub record HasRow (uid : ℕ) (rows : List (ℕ × Row)) : Type 0 where
  pub row : Row
  pub there : row_at uid rows ≡ Some row

rows_pass : (p : ℕ × Row → Bool) (rows : List (ℕ × Row)) → ((r : ℕ × Row) → HasRow r.0 rows → p r ≡ true) → list_all p rows ≡ true
rows_pass p [] f = refl
rows_pass p (x ∷ xs) f =
    (both (p x) (list_all p xs) (λ e. e, λ e. e) (λ e. e, λ e. e)).1 (
      f x (record { row = x.1; there = cond-true (eqb x.0 x.0) (Some x.1) (row_at x.0 xs) (eq-eqb x.0 x.0 refl) }),
      rows_pass p xs (λ r h. f r (further r h)),
    )
  where
    further : (r : ℕ × Row) → HasRow r.0 xs → HasRow r.0 (x ∷ xs)
    further r h =
        cond_both (eqb x.0 r.0) (Some x.1) (row_at r.0 xs) (λ (o : Option Row). row_at r.0 (x ∷ xs) ≡ o → HasRow r.0 (x ∷ xs))
        (λ t e. record { row = x.1; there = e }) (λ f e. record { row = h.row; there = e ∙ h.there }) refl

rows_decide : (cache : Cache) (box : Mailbox) → Decides (list_all (accounts_for cache box) cache.rows)
    ((uid : ℕ) (row : Row) → row_at uid cache.rows ≡ Some row → message_at uid box.messages ≡ None → IsAbove cache.highest (gone_at uid box.gone))
rows_decide cache box = (
  λ a uid row e. (accounts_decide cache box (uid, row)).0 (row_passes (accounts_for cache box) uid cache.rows row a e),
  λ f. rows_pass (accounts_for cache box) cache.rows (λ r h. (accounts_decide cache box r).1 (f r.0 h.row h.there)),
)

facts_decide : (cache : Cache) (box : Mailbox) → Rises 0 box.messages → Decides (is_fresh cache box) (FreshFacts cache box)
facts_decide cache box r =
    means (is_fresh cache box) (λ h. record { highest = h.0; rows = h.1.0; gone = h.1.1 }) (λ f. (f.highest, (f.rows, f.gone)))
    (both (nat_le cache.highest box.highest) (list_all (knows_message cache) box.messages && list_all (accounts_for cache box) cache.rows)
    (at_most cache.highest box.highest)
    (both (list_all (knows_message cache) box.messages) (list_all (accounts_for cache box) cache.rows) (messages_decide cache box r) (rows_decide cache box)))

module _ (name : List ℕ) (cache : Cache) (boxes : List Mailbox) (well : IsWellFormed boxes) where
  tests_fresh : (b : Mailbox) → box_at name boxes ≡ Some b → Decides (nat_le cache.validity b.validity && (not (b.validity == cache.validity) || is_fresh cache b))
      ((cache.validity ≤ b.validity) × (b.validity ≡ cache.validity → FreshFacts cache b))
  tests_fresh b e =
      both (nat_le cache.validity b.validity) (not (b.validity == cache.validity) || is_fresh cache b) (at_most cache.validity b.validity)
      (implies (b.validity == cache.validity) (is_fresh cache b) (Decides-eqb b.validity cache.validity)
      (facts_decide cache b (well.each name b e).rise))

  fresh_there : (o : Option Mailbox) → box_at name boxes ≡ o → holds_in (is_fresh cache) cache.validity o ≡ true → IsFreshFor name cache boxes
  fresh_there None e = λ h. absurd (cc)
  fresh_there (Some b) e = λ h.
      let both_are = (tests_fresh b e).0 h in record { box = b; there = e; not_below = both_are.0; facts = both_are.1 }

  fresh_back : IsFreshFor name cache boxes → holds_in (is_fresh cache) cache.validity (box_at name boxes) ≡ true
  fresh_back i =
      ap (holds_in (is_fresh cache) cache.validity) i.there
      ∙ (tests_fresh i.box i.there).1 (i.not_below, i.facts)

  one_decides : Decides (holds_in (is_fresh cache) cache.validity (box_at name boxes)) (IsFreshFor name cache boxes)
  one_decides = (fresh_there (box_at name boxes) refl, fresh_back)

-- what a name's cache says
abbrev For : List ℕ → Option Cache → List Mailbox → Type 0
For name o boxes = (cache : Cache) → o ≡ Some cache → IsFreshFor name cache boxes

for_decides : (name : List ℕ) (o : Option Cache) (boxes : List Mailbox) → IsWellFormed boxes → Decides (fresh_for name boxes o) (For name o boxes)
for_decides name None boxes w = yes (λ cache e. absurd (cc))
for_decides name (Some cache) boxes w =
    means (fresh_for name boxes (Some cache)) (λ h other e. subst (λ (c : Cache). IsFreshFor name c boxes) (same_Some cache other e) h) (λ f. f cache refl)
    (one_decides name cache boxes w)

-- a cache is that of a known name
known_passes : (p : Known → Bool) (name : List ℕ) (ks : List Known) (k : Known) → list_all p ks ≡ true → known_at name ks ≡ Some k →
    (p k ≡ true) × (k.name ≡ name)
known_passes p name [] k = λ a e. absurd (cc)
known_passes p name (x ∷ xs) k = λ a.
    let parts = and_parts (p x) (list_all p xs) a in
    cond_both (bytes_eq x.name name) (Some x) (known_at name xs) (λ (o : Option Known). o ≡ Some k → (p k ≡ true) × (k.name ≡ name))
    (λ t e. let is : x ≡ k = same_Some x k e in (subst (λ (y : Known). p y ≡ true) is parts.0, ap (λ (y : Known). y.name) (sym is) ∙ same_name x.name name t))
    (λ f e. known_passes p name xs k parts.1 e)

all_known : (p : Known → Bool) (ks : List Known) → ((k : Known) → p k ≡ true) → list_all p ks ≡ true
all_known p [] f = refl
all_known p (k ∷ ks) f = (both (p k) (list_all p ks) (λ e. e, λ e. e) (λ e. e, λ e. e)).1 (f k, all_known p ks f)

module _ (b : Meaning) (boxes : List Mailbox) (well : IsWellFormed boxes) where
  cache_passes : (name : List ℕ) (cache : Cache) (o : Option Known) → known_at name b.boxes ≡ o → cache_of o ≡ Some cache → fresh_holds b boxes ≡ true →
      IsFreshFor name cache boxes
  cache_passes name cache None e = λ c h. absurd (cc)
  cache_passes name cache (Some k) e = λ c h.
      let found = known_passes (λ (x : Known). fresh_for x.name boxes (cache_at x.name b.boxes)) name b.boxes k h e in
      let here : fresh_for name boxes (cache_at name b.boxes) ≡ true =
      subst (λ (n : List ℕ). fresh_for n boxes (cache_at n b.boxes) ≡ true) found.1 found.0 in
      (for_decides name (cache_at name b.boxes) boxes well).0 here cache (ap cache_of e ∙ c)

  pub fresh_decides : Decides (fresh_holds b boxes) (Fresh b boxes)
  fresh_decides = (
    λ h name cache e. cache_passes name cache (known_at name b.boxes) refl e h,
    λ f. all_known (λ (x : Known). fresh_for x.name boxes (cache_at x.name b.boxes)) b.boxes
        (λ k. (for_decides k.name (cache_at k.name b.boxes) boxes well).1 (λ cache e. f k.name cache e)),
  )

-- a sound book's intent of an append is one for an append, whose identifier is that of its text
needs_id : (queue : List Queued) (action : Action) (intent : Intent) → Suited queue action intent → IsWritableAction action → NeedsId action intent
needs_id queue action (intents.Store name validity uid modseq) s w = tt
needs_id queue action (intents.Shift from validity uid to) s w = tt
needs_id queue (actions.Append to flags text id) (intents.Put other validity uidnext) s w = record { few = w.1.few; form = w.1.form }
needs_id queue (actions.Flag target add flags) (intents.Put other validity uidnext) s w = absurd s
needs_id queue (actions.Move target to) (intents.Put other validity uidnext) s w = absurd s

pub good_id : (b : Meaning) → IsSound b → HasGoodId b
good_id b sound = λ q intent e p.
    let h : HasIntent b intent = sound.intent intent p in
    let is : h.queued ≡ q = same_Some h.queued q (sym h.there ∙ e) in
    subst (λ (x : Queued). NeedsId x.action intent) is
    (needs_id b.queue h.queued.action intent (is_suited b.queue h.queued.action intent h.suits_it) (sound.writable (due b.queue) h.queued h.there))
