-- An action of each kind takes effect.
use Rattle.std.proofs.Common.{◌≡◌, ◌≢◌, inl, inr, ℕ, ◌<◌, true, List, [], ◌∷◌, Option, Some, None, refl, subst, arith, lit<, lit≤}
use Rattle.std.specs.Prelude.{bytes_eq}
use Rattle.std.proofs.lemmas.Bool.{cond_both}
use Rattle.std.proofs.lemmas.Option.{same_Some}
use Rattle.imap_model.specs.Lookups.{box_at}
use Rattle.imap_model.specs.WellFormed.{IsWellFormedBox}
use Rattle.imap_model.proofs.Finding.{names_same}
use Rattle.imap_model.specs.declared.server.Mailbox.{Mailbox}
use Rattle.action_queue.specs.Queues.{accepted}
use Rattle.action_queue.specs.declared.event.Event.TheVariants as events
use Rattle.action_queue.specs.declared.intent.Intent.TheVariants as intents
use Rattle.action_queue.specs.declared.outcome.Outcome.TheVariants as outcomes
use Rattle.action_queue.specs.declared.rule.Version.TheVariants.{First}
use Rattle.book_laws.specs.Kept.{KeptBefore, KeptBook}
use Rattle.book_laws.specs.Example.{box_name, box_with, message_with, server_before, server_after, sent_out, book_three}
use Rattle.book_laws.specs.Needed.{appends, book_that_appends, box_with_one_more}
use Rattle.book_laws.specs.EachKind.{done_at, HasEffect, append_sent, server_appended, other_name, box_of, server_of_two, server_moved, moves}
use Rattle.book_laws.specs.EachKind.{book_of_two, book_with_move, book_that_moves, move_sent}
use Rattle.book_laws.proofs.Carrying.{nothing_waits}
use Rattle.book_laws.proofs.Entering.{book_keeps, event_keeps}
use Rattle.book_laws.proofs.Showing.{is_of, carried_out, settle_follows, settle_may, box_formed}
use Rattle.book_laws.proofs.Needing.{append_meant, kept_three, no_nul}

pub stores : HasEffect book_three server_before server_after sent_out (outcomes.Done None)
stores = record { kept = kept_three; is_of = is_of; carries = carried_out; one = refl; lawful = settle_follows; permitted = settle_may }

pub puts : HasEffect book_that_appends server_before server_appended append_sent (done_at 2)
puts = record {
  kept = append_meant;
  is_of = record {
    intent = intents.Put box_name 5 2;
    pending = refl;
    queued = accepted appends;
    there = refl;
    is = refl;
    none = refl;
    at = record { box = box_with [] 10; there = refl; same = refl; facts = tt };
  };
  carries = inr (record {
    uid = 2;
    becomes = record {
      effect = record {
        before = box_with [] 10;
        after = box_with_one_more;
        there = refl;
        becomes = record {
          fresh = lit≤ tt;
          uid_fits = lit< tt;
          plain = no_nul;
          modseq = 11;
          is_next = record { room = lit< tt; above = lit< tt; fits = lit< tt };
          next = 3;
          beyond = lit< tt;
          next_fits = lit< tt;
          becomes = refl;
        };
        put = refl;
      };
      history = refl;
    };
  });
  one = refl;
  lawful = record { version = First; unbroken = refl };
  permitted = (nothing_waits, (refl, refl));
}

empty_formed : IsWellFormedBox (box_of other_name 1 1 [] [])
empty_formed = record {
  rise = tt;
  below = λ u m e. absurd (cc);
  numbered = λ u m e. absurd (cc);
  plain = λ u m e. absurd (cc);
  gone_below = λ u k e. absurd (cc);
  gone_numbered = λ u k e. absurd (cc);
  apart = λ u k e. absurd (cc);
  once = tt;
}

second_only : (name : List ℕ) (b : Mailbox) → box_at name (box_of other_name 1 1 [] [] ∷ []) ≡ Some b → IsWellFormedBox b
second_only name b =
    cond_both (bytes_eq other_name name) (Some (box_of other_name 1 1 [] [])) None (λ (o : Option Mailbox). o ≡ Some b → IsWellFormedBox b)
    (λ t e. subst IsWellFormedBox (same_Some (box_of other_name 1 1 [] []) b e) empty_formed) (λ f e. absurd (cc))

two_formed : (name : List ℕ) (b : Mailbox) → box_at name server_of_two.boxes ≡ Some b → IsWellFormedBox b
two_formed name b =
    cond_both (bytes_eq box_name name) (Some (box_with [] 10)) (box_at name (box_of other_name 1 1 [] [] ∷ []))
    (λ (o : Option Mailbox). o ≡ Some b → IsWellFormedBox b)
    (λ t e. subst IsWellFormedBox (same_Some (box_with [] 10) b e) box_formed) (λ f e. second_only name b e)

two_kept : KeptBefore server_of_two None
two_kept = record { well = record { names = (refl, (refl, tt)); each = two_formed }; none = tt; quiet = nothing_waits }

apart : other_name ≢ box_name
apart e = let t : bytes_eq other_name box_name ≡ true = names_same other_name box_name e in absurd (cc)

begun_kept : KeptBook book_of_two server_of_two None
begun_kept =
    book_keeps None (events.Begin (box_name ∷ other_name ∷ [])) server_of_two None two_kept
    (record { some = lit≤ tt; few = lit≤ tt; distinct = ((apart, tt), (tt, tt)) }) (tt, nothing_waits)

move_accepted : KeptBook book_with_move server_of_two None
move_accepted = event_keeps book_of_two (events.Accept 1 moves) server_of_two None begun_kept (record { version = First; unbroken = refl })
    (tt, record { box = box_with [] 10; there = refl; not_below = lit≤ tt; facts = λ _. tt })

move_meant : KeptBook book_that_moves server_of_two None
move_meant =
    event_keeps book_with_move (events.Intend 1 (intents.Shift box_name 5 1 other_name)) server_of_two None move_accepted
    (record { version = First; unbroken = refl })
    (nothing_waits, λ q e. record { box = box_with [] 10; there = refl; same = refl; facts = record { below = lit< tt; left = λ n. absurd (n refl) } })

pub shifts : HasEffect book_that_moves server_of_two server_moved move_sent (done_at 1)
shifts = record {
  kept = move_meant;
  is_of = record {
    intent = intents.Shift box_name 5 1 other_name;
    pending = refl;
    queued = accepted moves;
    there = refl;
    is = refl;
    none = refl;
    at = record { box = box_with [] 10; there = refl; same = refl; facts = tt };
  };
  carries = inr (inl (record {
    found = record { name = box_name; is_selected = refl; box = box_with [] 10; named = refl; message = message_with [] 10; there = refl };
    received = 1;
    becomes = record {
      effect = record {
        apart = apart;
        source = box_with [] 10;
        message = message_with [] 10;
        named = refl;
        there = refl;
        middle = box_of box_name 2 11 [] (record { uid = 1; modseq = 11 } ∷ []) ∷ box_of other_name 1 1 [] [] ∷ [];
        leaves = record {
          before = box_with [] 10;
          after = box_of box_name 2 11 [] (record { uid = 1; modseq = 11 } ∷ []);
          there = refl;
          becomes = record {
            message = message_with [] 10;
            there = refl;
            modseq = 11;
            is_next = record { room = lit< tt; above = lit< tt; fits = lit< tt };
            becomes = refl;
          };
          put = refl;
        };
        comes = record {
          before = box_of other_name 1 1 [] [];
          after = box_of other_name 2 2 (record { uid = 1; flags = []; modseq = 2; text = [] } ∷ []) [];
          there = refl;
          becomes = record {
            fresh = lit≤ tt;
            uid_fits = lit< tt;
            plain = λ c. let h : c.0 < 0 = c.1 in absurd (omega arith);
            modseq = 2;
            is_next = record { room = lit< tt; above = lit< tt; fits = lit< tt };
            next = 2;
            beyond = lit< tt;
            next_fits = lit< tt;
            becomes = refl;
          };
          put = refl;
        };
      };
      history = refl;
    };
  }));
  one = refl;
  lawful = record { version = First; unbroken = refl };
  permitted = (nothing_waits, (refl, refl));
}
