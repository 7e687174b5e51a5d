-- No action's number has two changes in the history.
use Rattle.std.proofs.Common.{◌≡◌, ◌≤◌, ℕ, zero, suc, Bool, true, false, List, [], ◌∷◌, length, slice_get, Option, Some, None, refl, sym}
use Rattle.std.proofs.Common.{◌∙◌, subst, arith}
use Rattle.std.proofs.lemmas.Bool.{cond-false}
use Rattle.imap_model.specs.Carrying.{Waiting}
use Rattle.imap_model.specs.Ours.{is_ours, ours}
use Rattle.imap_model.specs.declared.deed.Author.{Author}
use Rattle.imap_model.specs.declared.deed.Author.TheVariants.{Ours, Other}
use Rattle.imap_model.specs.declared.deed.Deed.{Deed}
use Rattle.imap_model.specs.declared.server.Server.{Server}
use Rattle.action_queue.specs.Book.{Meaning}
use Rattle.action_queue.specs.declared.intent.Intent.{Intent}
use Rattle.action_queue.specs.declared.outcome.Outcome.{Outcome}
use Rattle.action_queue.specs.declared.outcome.Outcome.TheVariants as outcomes
use Rattle.action_queue.specs.declared.outcome.Place.{Place}
use Rattle.action_queue.specs.declared.queued.Queued.{Queued}
use Rattle.book_laws.specs.Once.{IsOwned, AllOwned, IsOne, is_unsure, FitsConflict, Fits, Once}
use Rattle.book_laws.specs.Table.{intent_of, RowFits, OnceByAction}
use Rattle.book_laws.specs.Kept.{Kept}
use Rattle.book_laws.specs.Machine.{PossibleBooks, Firm, Begun, EachBook, State, KeptState, Label, Run}
use Rattle.book_laws.proofs.Carrying.{try_apart}
use Rattle.book_laws.proofs.Counting.{none_absent, to_table}
use Rattle.book_laws.proofs.Deeds.{none_ours}
use Rattle.book_laws.proofs.Keeping.{run_keeps}

few : (mine : List Deed) → mine ≡ [] → length mine ≤ 1
few mine e = subst (λ (l : List Deed). length l ≤ 1) (sym e) (omega arith)

one_few : (place : Option Place) (mine : List Deed) → IsOne place mine → length mine ≤ 1
one_few place [] f = absurd f
one_few place (d ∷ []) f = omega arith
one_few place (d ∷ e ∷ ds) f = absurd f

conflict_few : (unsure : Bool) (mine : List Deed) → FitsConflict unsure mine → length mine ≤ 1
conflict_few true mine f = f
conflict_few false mine f = few mine f

outcome_few : (outcome : Outcome) (mine : List Deed) → Fits outcome mine → length mine ≤ 1
outcome_few (outcomes.Done place) mine f = one_few place mine f
outcome_few (outcomes.Conflict kind) mine f = conflict_few (is_unsure kind) mine f

row_few : (intent : Option Intent) (outcome : Option Outcome) (mine : List Deed) → RowFits intent outcome mine → length mine ≤ 1
row_few intent (Some outcome) mine f = outcome_few outcome mine f
row_few None None mine f = few mine f
row_few (Some intent) None mine f = f

-- no action has the number 0
no_zeroth : (queue : List Queued) (d : Deed) (author : Author) → IsOwned queue d author → is_ours 0 author ≡ false
no_zeroth queue d Other o = refl
no_zeroth queue d (Ours tag) o = try_apart 0 (suc o.place) tag (λ e. absurd (omega arith)) o.tagged

none_zeroth : (queue : List Queued) (h : List Deed) → AllOwned queue h → ours 0 h ≡ []
none_zeroth queue [] o = refl
none_zeroth queue (d ∷ ds) o = cond-false (is_ours 0 d.author) (d ∷ ours 0 ds) (ours 0 ds) (no_zeroth queue d d.author o.0) ∙ none_zeroth queue ds o.1

placed_few : (b : Meaning) (h : List Deed) → OnceByAction b h → (i : ℕ) (o : Option Queued) → slice_get b.queue i ≡ o → length (ours (suc i) h) ≤ 1
placed_few b h t i None e = few (ours (suc i) h) (none_absent b.queue i h e t.owned)
placed_few b h t i (Some q) e = row_few (intent_of b i) q.outcome (ours (suc i) h) (t.each i q e)

book_few : (b : Meaning) (h : List Deed) → Once b h → (n : ℕ) → length (ours n h) ≤ 1
book_few b h k zero = few (ours 0 h) (none_zeroth b.queue h k.owned)
book_few b h k (suc i) = placed_few b h (to_table b h k) i (slice_get b.queue i) refl

kept_few : (b : Option Meaning) (s : Server) (w : Option Waiting) → Kept b s w → (n : ℕ) → length (ours n s.history) ≤ 1
kept_few None s w k n = few (ours n s.history) (none_ours n s.history k.none)
kept_few (Some b) s w k n = book_few b s.history k.once n

state_few : (books : PossibleBooks) (s : Server) (w : Option Waiting) → EachBook (λ b. Kept b s w) books → (n : ℕ) → length (ours n s.history) ≤ 1
state_few (Firm b) s w k n = kept_few b s w k n
state_few (Begun b c) s w k n = kept_few b s w k.0 n

pub never_twice : (labels : List Label) (x y : State) → Run labels x y → KeptState x → (n : ℕ) → length (ours n y.server.history) ≤ 1
never_twice labels x y r k n = state_few y.books y.server y.waiting (run_keeps labels x y r k) n
