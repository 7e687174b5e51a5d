-- The law: whatever steps follow, a kept state stays kept.
use Rattle.std.proofs.Common.{◌≡◌, Bool, true, false, List, [], ◌∷◌, Option, Some, None, sym, ◌∙◌, ap, subst}
use Rattle.std.proofs.lemmas.Option.{same_Some}
use Rattle.imap_model.specs.Carrying.{Waiting}
use Rattle.imap_model.specs.Mutating.{is_mutating}
use Rattle.imap_model.specs.declared.server.Server.{Server}
use Rattle.action_queue.specs.Book.{Meaning}
use Rattle.action_queue.specs.Events.{next_book}
use Rattle.action_queue.specs.declared.event.Event.{Event}
use Rattle.book_laws.specs.Of.{IsOf, MutatingWaits}
use Rattle.book_laws.specs.Kept.{Kept, KeptBook}
use Rattle.book_laws.specs.Polite.{SparesBook}
use Rattle.book_laws.specs.Machine.{PossibleBooks, Firm, Begun, EachBook, State, KeptState, Begins, chosen, Chooses, Sends, Carried, Others}
use Rattle.book_laws.specs.Machine.{Label, Begin, Choose, Send, Carry, Other, Connect, Ask, Step, Run}
use Rattle.book_laws.proofs.Carrying.{carries_book, nothing_waits}
use Rattle.book_laws.proofs.Foreign.{others_book}
use Rattle.book_laws.proofs.Entering.{book_keeps}

-- what each book keeps, both keep
each_book : (P Q : Option Meaning → Type 0) (books : PossibleBooks) → ((b : Option Meaning) → P b → Q b) → EachBook P books → EachBook Q books
each_book P Q (Firm b) f p = f b p
each_book P Q (Begun b c) f p = (f b p.0, f c p.1)

each_both : (P Q R : Option Meaning → Type 0) (books : PossibleBooks) → ((b : Option Meaning) → R b → P b → Q b) → EachBook R books → EachBook P books →
    EachBook Q books
each_both P Q R (Firm b) f r p = f b r p
each_both P Q R (Begun b c) f r p = (f b r.0 p.0, f c r.1 p.1)

arrives : (x y z : State) → y ≡ z → KeptState z → KeptState y
arrives x y z e k = subst KeptState (sym e) k

begins_keep : (x y : State) (event : Event) → Begins event x y → KeptState x → KeptState y
begins_keep x y event st k =
    let one : Kept st.book x.server x.waiting = subst (EachBook (λ b. Kept b x.server x.waiting)) st.firm k in
    arrives x y (record x { books = Begun st.book (Some (next_book st.book event)) }) st.becomes
    (one, book_keeps st.book event x.server x.waiting one st.follows st.permitted)

chosen_keeps : (first : Bool) (P : Option Meaning → Type 0) (b c : Option Meaning) → P b → P c → P (chosen first b c)
chosen_keeps true P b c p q = p
chosen_keeps false P b c p q = q

chooses_keep : (x y : State) (first : Bool) → Chooses first x y → KeptState x → KeptState y
chooses_keep x y first st k =
    let both : EachBook (λ b. Kept b x.server x.waiting) (Begun st.before st.later) = subst (EachBook (λ b. Kept b x.server x.waiting)) st.begun k in
    arrives x y (record x { books = Firm (chosen first st.before st.later) }) st.becomes
    (chosen_keeps first (λ (b : Option Meaning). Kept b x.server x.waiting) st.before st.later both.0 both.1)

-- the command that waits now is the book's
pub sent : (b : Meaning) (s : Server) (before : Option Waiting) (w : Waiting) → KeptBook b s before → IsOf b s w → KeptBook b s (Some w)
sent b s before w k of = record {
  sound = k.sound;
  well = k.well;
  once = k.once;
  open_intent = k.open_intent;
  fresh = k.fresh;
  reached = k.reached;
  waits = λ m. subst (λ (x : Waiting). IsOf b s x) (same_Some w m.command m.waits) of;
}

sends_keep : (x y : State) (w : Waiting) → Sends w x y → KeptState x → KeptState y
sends_keep x y w st k =
    let one : Kept (Some st.book) x.server x.waiting = subst (EachBook (λ b. Kept b x.server x.waiting)) st.firm k in
    let firm : Kept (Some st.book) x.server (Some w) = sent st.book x.server x.waiting w one st.is_of in
    arrives x y (record x { waiting = Some w }) st.becomes
    (subst (EachBook (λ b. Kept b x.server (Some w))) (sym st.firm) firm)

carried_keep : (x y : State) → Carried x y → KeptState x → KeptState y
carried_keep x y st k =
    arrives x y (record x { server = st.server; waiting = None }) st.becomes
    (each_book (λ b. Kept b x.server x.waiting) (λ b. Kept b st.server None) x.books
    (λ b p. carries_book b x.server st.server st.command (subst (λ (o : Option Waiting). Kept b x.server o) st.waits p) st.carries) k)

others_keep_state : (x y : State) → Others x y → KeptState x → KeptState y
others_keep_state x y st k =
    arrives x y (record x { server = st.server }) st.becomes
    (each_both (λ b. Kept b x.server x.waiting) (λ b. Kept b st.server x.waiting) (SparesBook x.server.boxes st.server.boxes) x.books
    (λ b spares p. others_book b x.server st.server x.waiting st.changes spares st.stays p) st.spares k)

-- another command waits, none that changes anything
pub quiet_keeps : (b : Option Meaning) (s : Server) (before later : Option Waiting) → (MutatingWaits later → ⊥) → Kept b s before → Kept b s later
quiet_keeps None s before later q k = record { well = k.well; none = k.none; quiet = q }
quiet_keeps (Some b) s before later q k = record {
  sound = k.sound;
  well = k.well;
  once = k.once;
  open_intent = k.open_intent;
  fresh = k.fresh;
  reached = k.reached;
  waits = λ m. absurd (q m);
}

waiting_keeps : (x y : State) (later : Option Waiting) → (MutatingWaits later → ⊥) → y ≡ record x { waiting = later } → KeptState x → KeptState y
waiting_keeps x y later q e k =
    arrives x y (record x { waiting = later }) e
    (each_book (λ b. Kept b x.server x.waiting) (λ b. Kept b x.server later) x.books (λ b p. quiet_keeps b x.server x.waiting later q p) k)

pub asked_quiet : (w : Waiting) → is_mutating w.command ≡ false → MutatingWaits (Some w) → ⊥
asked_quiet w f m =
    let e : w ≡ m.command = same_Some w m.command m.waits in
    let t : is_mutating w.command ≡ true = ap (λ (x : Waiting). is_mutating x.command) e ∙ m.mutating in
    absurd (cc)

pub step_keeps : (label : Label) (x y : State) → Step label x y → KeptState x → KeptState y
step_keeps (Begin event) x y st k = begins_keep x y event st k
step_keeps (Choose first) x y st k = chooses_keep x y first st k
step_keeps (Send w) x y st k = sends_keep x y w st k
step_keeps Carry x y st k = carried_keep x y st k
step_keeps Other x y st k = others_keep_state x y st k
step_keeps Connect x y st k = waiting_keeps x y None nothing_waits st k
step_keeps (Ask w) x y st k = waiting_keeps x y (Some w) (asked_quiet w st.harmless) st.becomes k

pub run_keeps : (labels : List Label) (x y : State) → Run labels x y → KeptState x → KeptState y
run_keeps [] x y r k = subst KeptState (sym r) k
run_keeps (l ∷ ls) x y r k = run_keeps ls r.0 y r.2 (step_keeps l x r.0 r.1 k)
