-- The run of the example, step by step.
use Rattle.std.proofs.Common.{◌≡◌, inl, inr, ℕ, ◌<◌, ◌≤◌, eqb, true, false, List, [], ◌∷◌, Option, Some, None, refl, subst, arith, lit<, lit≤}
use Rattle.std.specs.Prelude.{Contains, bytes_eq}
use Rattle.std.proofs.lemmas.Option.{same_Some}
use Rattle.std.proofs.lemmas.Bool.{cond_both, eqb-true}
use Rattle.mail_base.specs.declared.tag.Tag.TheVariants.{Play}
use Rattle.imap_model.specs.Lookups.{box_at, message_at}
use Rattle.imap_model.specs.Carrying.{Waiting, Carries, Stores}
use Rattle.imap_model.specs.WellFormed.{IsWellFormedBox}
use Rattle.imap_model.specs.declared.server.Message.{Message}
use Rattle.imap_model.specs.declared.server.Mailbox.{Mailbox}
use Rattle.imap_model.specs.declared.server.Server.{Server}
use Rattle.action_queue.specs.Queues.{accepted}
use Rattle.action_queue.specs.Book.{Meaning}
use Rattle.action_queue.specs.Events.{IsLawful, next_book}
use Rattle.action_queue.specs.declared.event.Event.{Event}
use Rattle.action_queue.specs.declared.event.Event.TheVariants as events
use Rattle.action_queue.specs.declared.outcome.Outcome.TheVariants as outcomes
use Rattle.action_queue.specs.declared.rule.Version.TheVariants.{First}
use Rattle.book_laws.specs.Of.{IsOf}
use Rattle.book_laws.specs.Kept.{KeptBefore}
use Rattle.book_laws.specs.Permitted.{MayFollow, Permits}
use Rattle.book_laws.specs.Machine.{State, Firm, Begun, Begins, Chooses, Sends, Carried, Run}
use Rattle.book_laws.specs.Example.{box_name, flag, message_with, box_with, server_before, server_after, asked, meant, sent_out}
use Rattle.book_laws.specs.Example.{book_one, book_two, book_three, book_four, start_state, end_state, schedule}
use Rattle.book_laws.proofs.Carrying.{nothing_waits}

abbrev firm : Option Meaning → Server → Option Waiting → State
firm b s w = record { books = Firm b; server = s; waiting = w }

abbrev both : Option Meaning → Option Meaning → Server → Option Waiting → State
both b c s w = record { books = Begun b c; server = s; waiting = w }

begins : (b : Option Meaning) (event : Event) (s : Server) (w : Option Waiting) → MayFollow b event → Permits b event s w →
    Begins event (firm b s w) (both b (Some (next_book b event)) s w)
begins b event s w f p = record { book = b; firm = refl; follows = f; permitted = p; becomes = refl }

goes_on : (b c : Option Meaning) (s : Server) (w : Option Waiting) → Chooses false (both b c s w) (firm c s w)
goes_on b c s w = record { before = b; later = c; begun = refl; becomes = refl }

pub is_of : IsOf book_three server_before sent_out
is_of = record { intent = meant; pending = refl; queued = accepted asked; there = refl; is = refl; none = refl; at = record { box = box_with [] 10; there = refl; same = refl; facts = tt } }

sends : Sends sent_out (firm (Some book_three) server_before None) (firm (Some book_three) server_before (Some sent_out))
sends = record { book = book_three; firm = refl; quiet = nothing_waits; is_of = is_of; becomes = refl }

pub stores_it : Stores (Play 1) (Some box_name) 1 10 true (flag ∷ []) server_before server_after
stores_it = record {
  found = record { name = box_name; is_selected = refl; box = box_with [] 10; named = refl; message = message_with [] 10; there = refl };
  since_then = lit≤ tt;
  flags = flag ∷ [];
  changed = λ key. refl;
  becomes = record {
    effect = record {
      before = box_with [] 10;
      after = box_with (flag ∷ []) 11;
      there = refl;
      put = refl;
      becomes = record {
        message = message_with [] 10;
        there = refl;
        modseq = 11;
        is_next = record { room = lit< tt; above = lit< tt; fits = lit< tt };
        becomes = refl;
      };
    };
    history = refl;
  };
}

pub carried_out : Carries sent_out server_before server_after
carried_out = inr (inl stores_it)

pub carries : Carried (firm (Some book_three) server_before (Some sent_out)) (firm (Some book_three) server_after None)
carries = record {
  command = sent_out;
  waits = refl;
  server = server_after;
  becomes = refl;
  carries = carried_out;
}

pub begin_follows : MayFollow None (events.Begin (box_name ∷ []))
begin_follows = record { some = lit≤ tt; few = lit≤ tt; distinct = (tt, tt) }

pub accept_follows : IsLawful book_one (events.Accept 1 asked)
accept_follows = record { version = First; unbroken = refl }

pub intend_follows : IsLawful book_two (events.Intend 1 meant)
intend_follows = record { version = First; unbroken = refl }

pub settle_follows : IsLawful book_three (events.Settle 1 (outcomes.Done None))
settle_follows = record { version = First; unbroken = refl }

pub intend_may : Permits (Some book_two) (events.Intend 1 meant) server_before None
intend_may = (
  nothing_waits,
  λ q e. record {
    box = box_with [] 10;
    there = refl;
    same = refl;
    facts = record { highest = lit≤ tt; below = lit< tt; passed = λ n. absurd (n refl) };
  },
)

pub accept_may : Permits (Some book_one) (events.Accept 1 asked) server_before None
accept_may = ((lit≤ tt, lit≤ tt), record { box = box_with [] 10; there = refl; not_below = lit≤ tt; facts = λ _. tt })

pub settle_may : Permits (Some book_three) (events.Settle 1 (outcomes.Done None)) server_after None
settle_may = (nothing_waits, tt)

pub shown : Run schedule start_state end_state
shown = (
  both None (Some book_one) server_before None,
  begins None (events.Begin (box_name ∷ [])) server_before None begin_follows (tt, nothing_waits),
  (
    firm (Some book_one) server_before None,
    goes_on None (Some book_one) server_before None,
    (
      both (Some book_one) (Some book_two) server_before None,
      begins (Some book_one) (events.Accept 1 asked) server_before None accept_follows accept_may,
      (
        firm (Some book_two) server_before None,
        goes_on (Some book_one) (Some book_two) server_before None,
        (
          both (Some book_two) (Some book_three) server_before None,
          begins (Some book_two) (events.Intend 1 meant) server_before None intend_follows intend_may,
          (
            firm (Some book_three) server_before None,
            goes_on (Some book_two) (Some book_three) server_before None,
            (
              firm (Some book_three) server_before (Some sent_out),
              sends,
              (
                firm (Some book_three) server_after None,
                carries,
                (
                  both (Some book_three) (Some book_four) server_after None,
                  begins (Some book_three) (events.Settle 1 (outcomes.Done None)) server_after None settle_follows settle_may,
                  (firm (Some book_four) server_after None, goes_on (Some book_three) (Some book_four) server_after None, refl),
                ),
              ),
            ),
          ),
        ),
      ),
    ),
  ),
)

only : (u : ℕ) (m : Message) (P : ℕ → Message → Type 0) → P 1 (message_with [] 10) → message_at u (message_with [] 10 ∷ []) ≡ Some m → P u m
only u m P p =
    cond_both (eqb 1 u) (Some (message_with [] 10)) None (λ (o : Option Message). o ≡ Some m → P u m)
    (λ t e. subst (λ (x : Message). P u x) (same_Some (message_with [] 10) m e) (subst (λ (k : ℕ). P k (message_with [] 10)) (eqb-true 1 u t) p))
    (λ f e. absurd (cc))

pub box_formed : IsWellFormedBox (box_with [] 10)
box_formed = record {
  rise = (lit≤ tt, tt);
  below = λ u m. only u m (λ k x. k < 2) (lit< tt);
  numbered = λ u m. only u m (λ k x. x.modseq ≤ 10) (lit≤ tt);
  plain = λ u m. only u m (λ k x. Contains x.text 0 → ⊥) (λ c. let h : c.0 < 0 = c.1 in absurd (omega arith));
  gone_below = λ u k e. absurd (cc);
  gone_numbered = λ u k e. absurd (cc);
  apart = λ u k e. absurd (cc);
  once = tt;
}

box_only : (name : List ℕ) (b : Mailbox) → box_at name (box_with [] 10 ∷ []) ≡ Some b → IsWellFormedBox b
box_only name b =
    cond_both (bytes_eq box_name name) (Some (box_with [] 10)) None (λ (o : Option Mailbox). o ≡ Some b → IsWellFormedBox b)
    (λ t e. subst IsWellFormedBox (same_Some (box_with [] 10) b e) box_formed) (λ f e. absurd (cc))

pub start_kept : KeptBefore server_before None
start_kept = record { well = record { names = (refl, tt); each = box_only }; none = tt; quiet = nothing_waits }
