-- Of a row that was told: what it says of an intent, then and later.
use Rattle.std.proofs.Common.{◌≡◌, ⊎_elim, ℕ, ◌<◌, ◌≤◌, Bool, true, false, List, [], Option, Some, None, refl, sym, ◌∙◌, ap, subst}
use Rattle.std.specs.Prelude.{bytes_eq, eqb}
use Rattle.std.specs.Option.{option_map}
use Rattle.std.proofs.lemmas.Bool.{and_parts, eqb-true, cases_lt}
use Rattle.std.proofs.lemmas.Option.{same_Some}
use Rattle.imap_model.specs.Carrying.{IsThere}
use Rattle.imap_model.specs.Evolving.{GoesOn}
use Rattle.imap_model.specs.Lookups.{message_at}
use Rattle.imap_model.specs.Ours.{ours}
use Rattle.imap_model.proofs.Finding.{same_name}
use Rattle.imap_model.specs.declared.deed.Deed.{Deed}
use Rattle.imap_model.specs.declared.server.Mailbox.{Mailbox}
use Rattle.imap_model.specs.declared.server.Message.{Message}
use Rattle.imap_model.specs.declared.server.Server.{Server}
use Rattle.mailbox_cache.specs.declared.row.Row.{Row}
use Rattle.qresync_core.specs.Fresh.{kept_row, server_row}
use Rattle.action_queue.specs.Book.{Meaning}
use Rattle.action_queue.specs.Queues.{due_action}
use Rattle.action_queue.specs.Targets.{resolved}
use Rattle.action_queue.specs.declared.action.Action.{Action}
use Rattle.action_queue.specs.declared.action.Action.TheVariants as actions
use Rattle.action_queue.specs.declared.found.Found.{Found}
use Rattle.action_queue.specs.declared.found.Found.TheVariants as found
use Rattle.action_queue.specs.declared.queued.Queued.{Queued}
use Rattle.playback.specs.Course.{AtMoment, Course}
use Rattle.book_laws.specs.InBox.{InBox, InBoxNow}
use Rattle.playback.specs.Knows.{RowTold}
use Rattle.book_laws.specs.Open.{ShiftFacts, StoreFacts}
use Rattle.book_laws.specs.Past.{OneBox}
use Rattle.playback.specs.Steps.{is_selected_at}
use Rattle.playback.specs.Why.{IsAbout, NoRow, RowAt, RowIs, RowPassed, RowSo, RowWas, SomeRow}
use Rattle.playback.specs.Worlds.{IsAt, IsUnder, LeadsTo}
use Rattle.playback.specs.declared.finding.Selected.{Selected}
use Rattle.playback.specs.declared.finding.Spot.{Spot}
use Rattle.book_laws.proofs.Deducing.{one_goes, shift_again, shift_intends, store_again, store_intends}

pub record IsMessage (modseq uid : ℕ) (box : Mailbox) : Type 0 where
  pub message : Message
  pub there : message_at uid box.messages ≡ Some message
  pub mark : message.modseq ≡ modseq

-- a row is that of a message
message_of : (modseq : ℕ) (action : Action) (uid : ℕ) (box : Mailbox) (o : Option Message) → message_at uid box.messages ≡ o →
    RowAt modseq action (option_map kept_row o) → IsMessage modseq uid box
message_of modseq action uid box None e h = absurd h
message_of modseq action uid box (Some m) e h = record { message = m; there = e; mark = h }

pub row_message : (modseq : ℕ) (action : Action) (uid : ℕ) (box : Mailbox) → RowAt modseq action (server_row uid box) →
    IsMessage modseq uid box
row_message modseq action uid box h = message_of modseq action uid box (message_at uid box.messages) refl h

-- a row with flags as asked whose mod-sequence is so
pub row_weaker : (P Q : ℕ → Type 0) → ((k : ℕ) → P k → Q k) → (action : Action) (o : Option Row) → RowSo P action o → RowSo Q action o
row_weaker P Q f action None h = h
row_weaker P Q f action (Some row) h = (f row.modseq h.0, h.1)

pub row_mark : (modseq : ℕ) (so : Bool) (action : Action) (o : Option Row) → RowTold modseq so action o → RowAt modseq action o
row_mark modseq true action None h = h
row_mark modseq true action (Some row) h = h.0
row_mark modseq false action None h = h
row_mark modseq false action (Some row) h = h.0

pub row_is : (modseq : ℕ) (so : Bool) (action : Action) (o : Option Row) → RowTold modseq so action o → SomeRow action o
row_is modseq true action None h = h
row_is modseq true action (Some row) h = tt
row_is modseq false action None h = h
row_is modseq false action (Some row) h = tt

pub was_map : (P Q : Action → Option Row → Type 0) (b : Meaning) (c : Course) →
    ((action : Action) (o : Option Row) → P action o → Q action o) →
    RowWas P b c → RowWas Q b c
was_map P Q b c f o = record {
  queued = o.queued;
  there = o.there;
  holds = (
    o.holds.0,
    o.holds.1,
    record {
      name = o.holds.2.name;
      validity = o.holds.2.validity;
      uid = o.holds.2.uid;
      about = o.holds.2.about;
      at_it = record {
        box = o.holds.2.at_it.box;
        there = o.holds.2.at_it.there;
        same = o.holds.2.at_it.same;
        facts = f o.queued.action (server_row o.holds.2.uid o.holds.2.at_it.box) o.holds.2.at_it.facts;
      };
    },
  );
}

-- at a server the row of this message was so
abbrev pub RowThere : Spot → (Option Row → Type 0) → Server → Type 0
RowThere spot P s = InBoxNow (λ box. P (server_row spot.uid box)) spot.name spot.validity s.boxes

-- the message that the action is about
abbrev pub IsAboutSpot : List Queued → Action → Spot → Type 0
IsAboutSpot queue action spot = IsAbout queue action spot.name spot.validity spot.uid

abbrev pub spot_at : List ℕ → ℕ → ℕ → Spot
spot_at name validity uid = record { name = name; validity = validity; uid = uid }

-- it is one
one_real : (f : Found) (spot other : Spot) → f ≡ found.Real other.name other.validity other.uid →
    f ≡ found.Real spot.name spot.validity spot.uid → other ≡ spot
one_real f spot other e g =
    let is : found.Real other.name other.validity other.uid ≡ found.Real spot.name spot.validity spot.uid = sym e ∙ g in
    let n : other.name ≡ spot.name = cc in
    let v : other.validity ≡ spot.validity = cc in
    let u : other.uid ≡ spot.uid = cc in
    ap (λ (x : List ℕ). spot_at x other.validity other.uid) n ∙ ap (λ (x : ℕ). spot_at spot.name x other.uid) v
    ∙ ap (λ (x : ℕ). spot_at spot.name spot.validity x) u

one_spot : (queue : List Queued) (action : Action) (spot other : Spot) → IsAboutSpot queue action other → IsAboutSpot queue action spot →
    other ≡ spot
one_spot queue (actions.Flag target add flags) spot other e g = one_real (resolved queue target) spot other e g
one_spot queue (actions.Move target to) spot other e g = one_real (resolved queue target) spot other e g
one_spot queue (actions.Append to flags text id) spot other e g = absurd e

-- the message of the action that is due
module _ (b : Meaning) (c : Course) (q : Queued) (e : due_action b.queue ≡ Some q) (spot : Spot)
    (about : IsAboutSpot b.queue q.action spot) where
  row_there : (P : Option Row → Type 0) (s : Server) → RowIs P b.queue q.action s → RowThere spot P s
  row_there P s r =
      subst (λ (x : Spot). RowThere x P s) (one_spot b.queue q.action spot
      (record { name = r.name; validity = r.validity; uid = r.uid }) r.about about) r.at_it

  pub was_at : (P : Action → Option Row → Type 0) → RowWas P b c → AtMoment (RowThere spot (P q.action)) c
  was_at P o =
      let m : AtMoment (RowIs (P q.action) b.queue q.action) c =
      subst (λ (x : Queued). AtMoment (RowIs (P x.action) b.queue x.action) c) (same_Some o.queued q (sym o.there ∙ e)) o.holds in
      (m.0, m.1, row_there (P q.action) m.0 m.2)

  pub is_row : (P : Option Row → Type 0) (s : Server) → RowThere spot P s → RowIs P b.queue q.action s
  is_row P s r = record { name = spot.name; validity = spot.validity; uid = spot.uid; about = about; at_it = r }

  pub is_was : (P : Action → Option Row → Type 0) → AtMoment (RowThere spot (P q.action)) c → RowWas P b c
  is_was P m = record { queued = q; there = e; holds = (m.0, m.1, is_row (P q.action) m.0 m.2) }

-- what is selected is this mailbox
pub record IsThat (selected : Option Selected) (name : List ℕ) (validity : ℕ) : Type 0 where
  pub sel : Selected
  pub is : selected ≡ Some sel
  pub same_name : sel.name ≡ name
  pub same_validity : sel.validity ≡ validity

that_is : (selected : Option Selected) (name : List ℕ) (validity : ℕ) (o : Option Selected) → selected ≡ o →
    is_selected_at o name validity ≡ true →
    IsThat selected name validity
that_is selected name validity None e = λ t. absurd (cc)
that_is selected name validity (Some sel) e = λ t.
    let parts : (bytes_eq sel.name name ≡ true) × (eqb sel.validity validity ≡ true) =
    and_parts (bytes_eq sel.name name) (eqb sel.validity validity) t in
    record { sel = sel; is = e; same_name = same_name sel.name name parts.0; same_validity = eqb-true sel.validity validity parts.1 }

pub selected_that : (selected : Option Selected) (name : List ℕ) (validity : ℕ) → is_selected_at selected name validity ≡ true →
    IsThat selected name validity
selected_that selected name validity t = that_is selected name validity selected refl t

pub under_that : (selected : Option Selected) (name : List ℕ) (validity : ℕ) (s : Server) (x : IsThat selected name validity) →
    IsAt x.sel s → IsUnder name validity s
under_that selected name validity s x u =
    subst (λ (n : List ℕ). IsUnder n validity s) x.same_name (subst (λ (v : ℕ). IsUnder x.sel.name v s) x.same_validity u)

-- a mailbox at an earlier moment and now
abbrev one_box : (P : Option Row → Type 0) (spot : Spot) (s now : Server) (row : RowThere spot P s)
    (under : IsUnder spot.name spot.validity now) → OneBox spot.name spot.validity s now
one_box P spot s now row under =
    record { was = row.box; there = row.there; was_validity = row.same; box = under.box; here = under.there; validity_is = under.same }

-- a row at an earlier moment makes the facts of an intent now
pub row_intends : (n : ℕ) (spot : Spot) (modseq : ℕ) (action : Action) (s now : Server) → LeadsTo s now →
    ours n now.history ≡ ours n s.history →
    RowThere spot (RowAt modseq action) s → IsUnder spot.name spot.validity now →
    InBoxNow (StoreFacts spot.uid modseq []) spot.name spot.validity now.boxes
row_intends n spot modseq action s now since same row under =
    let m : IsMessage modseq spot.uid row.box = row_message modseq action spot.uid row.box row.facts in
    let goes : GoesOn row.box.highest row.box under.box =
    one_goes n spot.name spot.validity s now (record { evolves = since.evolves; ours = same })
    (one_box (RowAt modseq action) spot s now row under) in
    record {
      box = under.box;
      there = under.there;
      same = under.same;
      facts = subst (λ (k : ℕ). StoreFacts spot.uid k [] under.box) m.mark
          (store_intends spot.uid m.message row.box under.box (since.well.each spot.name row.box row.there) m.there goes);
    }

-- an open intent whose row has its mod-sequence had no effect
pub row_again : (spot : Spot) (modseq : ℕ) (action : Action) (mine : List Deed) (s : Server) →
    InBox (StoreFacts spot.uid modseq mine) spot.name spot.validity s.boxes → RowThere spot (RowAt modseq action) s → mine ≡ []
row_again spot modseq action mine s o row =
    let m : IsMessage modseq spot.uid row.box = row_message modseq action spot.uid row.box row.facts in
    let is : o.box ≡ row.box = same_Some o.box row.box (sym o.there ∙ row.there) in
    store_again spot.uid modseq mine m.message row.box (subst
    (λ (x : Mailbox). StoreFacts spot.uid modseq mine x) is (o.facts (ap (λ (x : Mailbox). x.validity) is ∙ row.same))) m.there m.mark

-- the same of a move
pub row_shifts : (n : ℕ) (spot : Spot) (modseq : ℕ) (action : Action) (s now : Server) → LeadsTo s now →
    ours n now.history ≡ ours n s.history →
    RowThere spot (RowAt modseq action) s → IsUnder spot.name spot.validity now →
    InBoxNow (ShiftFacts spot.uid []) spot.name spot.validity now.boxes
row_shifts n spot modseq action s now since same row under =
    let m : IsMessage modseq spot.uid row.box = row_message modseq action spot.uid row.box row.facts in
    let goes : GoesOn row.box.highest row.box under.box =
    one_goes n spot.name spot.validity s now (record { evolves = since.evolves; ours = same })
    (one_box (RowAt modseq action) spot s now row under) in
    record {
      box = under.box;
      there = under.there;
      same = under.same;
      facts = shift_intends spot.uid m.message row.box under.box (since.well.each spot.name row.box row.there) m.there goes;
    }

pub row_still : (spot : Spot) (modseq : ℕ) (action : Action) (mine : List Deed) (s : Server) →
    InBox (ShiftFacts spot.uid mine) spot.name spot.validity s.boxes → RowThere spot (RowAt modseq action) s → mine ≡ []
row_still spot modseq action mine s o row =
    let m : IsMessage modseq spot.uid row.box = row_message modseq action spot.uid row.box row.facts in
    let is : o.box ≡ row.box = same_Some o.box row.box (sym o.there ∙ row.there) in
    shift_again spot.uid mine m.message row.box (subst (λ (x : Mailbox). ShiftFacts spot.uid mine x) is (o.facts (ap (λ (x : Mailbox). x.validity) is ∙ row.same))) m.there

-- where the STORE had no effect, the row isn't there or has a greater mod-sequence
passes : (uid modseq : ℕ) (action : Action) (box : Mailbox) (o : Option Message) → message_at uid box.messages ≡ o →
    ((m : Message) → message_at uid box.messages ≡ Some m → m.modseq ≤ modseq → ⊥) → RowPassed modseq action (option_map kept_row o)
passes uid modseq action box None e f = tt
passes uid modseq action box (Some m) e f =
    ⊎_elim (λ (l : modseq < m.modseq). l) (λ (l : m.modseq ≤ modseq). absurd (f m e l)) (cases_lt modseq m.modseq)

pub row_passes : (spot : Spot) (modseq : ℕ) (action : Action) (s : Server) → IsUnder spot.name spot.validity s →
    ((found : IsThere (Some spot.name) spot.uid s) → found.message.modseq ≤ modseq → ⊥) → RowThere spot (RowPassed modseq action) s
row_passes spot modseq action s u f = record {
  box = u.box;
  there = u.there;
  same = u.same;
  facts = passes spot.uid modseq action u.box (message_at spot.uid u.box.messages) refl
      (λ m e l. f (record { name = spot.name; is_selected = refl; box = u.box; named = u.there; message = m; there = e }) l);
}

-- and where the UID isn't there, it has no row
absent : (uid : ℕ) (box : Mailbox) (o : Option Message) → message_at uid box.messages ≡ o →
    ((m : Message) → message_at uid box.messages ≡ Some m → ⊥) →
    option_map kept_row o ≡ None
absent uid box None e f = refl
absent uid box (Some m) e f = absurd (f m e)

pub row_absent : (spot : Spot) (action : Action) (s : Server) → IsUnder spot.name spot.validity s →
    (IsThere (Some spot.name) spot.uid s → ⊥) →
    RowThere spot (NoRow action) s
row_absent spot action s u f = record {
  box = u.box;
  there = u.there;
  same = u.same;
  facts = absent spot.uid u.box (message_at spot.uid u.box.messages) refl
      (λ m e. f (record { name = spot.name; is_selected = refl; box = u.box; named = u.there; message = m; there = e }));
}
