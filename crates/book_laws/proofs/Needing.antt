-- Each condition is needed, by example.
use Rattle.std.proofs.Common.{◌≡◌, ◌≤◌, zero, suc, true, [], ◌∷◌, Some, None, refl, sym, ap, subst, arith, lit<, lit≤}
use Rattle.std.specs.Prelude.{Contains, codes, nat_eq}
use Rattle.std.specs.List.{All, list_any}
use Rattle.std.proofs.lemmas.Option.{same_Some}
use Rattle.std.proofs.lemmas.Map.Views.{list_any-from_Contains}
use Rattle.std.proofs.lemmas.Cmp.{nat_eq_equiv}
use Rattle.mail_header.specs.Identifier.{HasMessageId, IsIdByte}
use Rattle.imap_model.specs.Lookups.{message_at}
use Rattle.imap_model.specs.Ours.{ours}
use Rattle.qresync_core.specs.Fresh.{kept_row}
use Rattle.imap_model.specs.Changes.{Batch}
use Rattle.imap_model.specs.Changes.Batch.{none, more}
use Rattle.imap_model.specs.declared.deed.Change.TheVariants as changes
use Rattle.imap_model.specs.declared.server.Mailbox.{Mailbox}
use Rattle.mailbox_cache.specs.declared.cache.Cache.{Cache}
use Rattle.action_queue.specs.Queues.{accepted, settled}
use Rattle.action_queue.specs.declared.queued.Queued.{Queued}
use Rattle.action_queue.specs.Book.{Meaning, after, learned}
use Rattle.action_queue.specs.Events.{IsLawful}
use Rattle.action_queue.specs.declared.event.Event.TheVariants as events
use Rattle.action_queue.specs.declared.intent.Intent.{Intent}
use Rattle.action_queue.specs.declared.intent.Intent.TheVariants as intents
use Rattle.action_queue.specs.declared.outcome.Outcome.TheVariants as outcomes
use Rattle.action_queue.specs.declared.rule.Version.TheVariants.{First}
use Rattle.book_laws.specs.InBox.{InBox, InBoxNow}
use Rattle.book_laws.specs.Open.{IsOpenNow, StoreFacts, PutFacts, intent_name, intent_validity, some_of}
use Rattle.append_probe.specs.Marked.{at_least, marked}
use Rattle.book_laws.specs.Fresh.{IsFreshFor}
use Rattle.book_laws.specs.Of.{IsOf}
use Rattle.book_laws.specs.Kept.{KeptBook}
use Rattle.book_laws.specs.Example.{box_name, box_with, message_with, server_before, server_after, asked, meant, sent_out, book_one, book_two, book_three}
use Rattle.book_laws.specs.Needed.{done, refused, meant_above, without_the_row, learns, text, id, appends, book_that_appends}
use Rattle.book_laws.specs.Needed.{box_renewed, box_with_one_more, server_renewed, server_with_one_more, BreaksIt}
use Rattle.book_laws.proofs.Carrying.{carries_book, nothing_waits}
use Rattle.book_laws.proofs.Entering.{book_keeps, event_keeps}
use Rattle.book_laws.proofs.Keeping.{sent}
use Rattle.book_laws.proofs.Showing.{begin_follows, accept_follows, accept_may, intend_follows, intend_may, is_of, carried_out, start_kept}

kept_one : KeptBook book_one server_before None
kept_one = book_keeps None (events.Begin (box_name ∷ [])) server_before None start_kept begin_follows (tt, nothing_waits)

pub kept_two : KeptBook book_two server_before None
kept_two = event_keeps book_one (events.Accept 1 asked) server_before None kept_one accept_follows accept_may

pub kept_three : KeptBook book_three server_before None
kept_three = event_keeps book_two (events.Intend 1 meant) server_before None kept_two intend_follows intend_may

kept_sent : KeptBook book_three server_before (Some sent_out)
kept_sent = sent book_three server_before None sent_out kept_three is_of

kept_carried : KeptBook book_three server_after None
kept_carried = carries_book (Some book_three) server_before server_after sent_out kept_sent carried_out

pub outcome_fits : BreaksIt book_three done server_before
outcome_fits = record {
  kept = kept_three;
  lawful = record { version = First; unbroken = refl };
  broken = λ k. k.once.settled 0 (settled (outcomes.Done None) (accepted asked)) (outcomes.Done None) refl refl;
}

refused_lawful : IsLawful book_three refused
refused_lawful = record { version = First; unbroken = refl }

refused_breaks : ¬ (KeptBook (after book_three refused) server_before (Some sent_out))
refused_breaks k =
    let of : IsOf (after book_three refused) server_before sent_out = k.waits (record { command = sent_out; waits = refl; mutating = refl }) in
    let p : None ≡ Some of.intent = of.pending in
    absurd (cc)

pub none_waits : KeptBook book_three server_before (Some sent_out) × IsLawful book_three refused × (ours 1 server_before.history ≡ [])
    × ¬ (KeptBook (after book_three refused) server_before (Some sent_out))
none_waits = (kept_sent, refused_lawful, refl, refused_breaks)

above_breaks : ¬ (KeptBook (after book_two meant_above) server_before None)
above_breaks k =
    let i : InBox (StoreFacts 1 99 []) box_name 5 server_before.boxes = k.open_intent (intents.Store box_name 5 1 99) refl (accepted asked) refl in
    let is : box_with [] 10 ≡ i.box = same_Some (box_with [] 10) i.box i.there in
    let h : 99 ≤ i.box.highest = (i.facts (ap (λ (b : Mailbox). b.validity) (sym is))).highest in
    let ten : 10 ≡ i.box.highest = ap (λ (b : Mailbox). b.highest) is in
    absurd (omega arith)

pub intent_is_so : BreaksIt book_two meant_above server_before
intent_is_so = record { kept = kept_two; lawful = record { version = First; unbroken = refl }; broken = above_breaks }

learns_breaks : ¬ (KeptBook (after book_one learns) server_before None)
learns_breaks k =
    let cache : Cache = learned None without_the_row in
    let i : IsFreshFor box_name cache server_before.boxes = k.fresh box_name cache refl in
    let is : box_with [] 10 ≡ i.box = same_Some (box_with [] 10) i.box i.there in
    let row : None ≡ Some (kept_row (message_with [] 10)) = (i.facts (ap (λ (b : Mailbox). b.validity) (sym is))).rows 1 (message_with [] 10)
    (subst (λ (b : Mailbox). message_at 1 b.messages ≡ Some (message_with [] 10)) is refl) (lit≤ tt) in
    absurd (cc)

pub cache_is_fresh : BreaksIt book_one learns server_before
cache_is_fresh = record { kept = kept_one; lawful = record { version = First; unbroken = refl }; broken = learns_breaks }

again_breaks : ¬ (KeptBook book_three server_after (Some sent_out))
again_breaks k =
    let of : IsOf book_three server_after sent_out = k.waits (record { command = sent_out; waits = refl; mutating = refl }) in
    let n : server_after.history ≡ [] = of.none in
    absurd (cc)

pub no_deed_yet : KeptBook book_three server_after None × ¬ (KeptBook book_three server_after (Some sent_out))
no_deed_yet = (kept_carried, again_breaks)

-- the bytes between the brackets
inside_fits : All IsIdByte (97 ∷ [])
inside_fits zero d l = record { low = lit≤ tt; high = lit≤ tt; left = λ e. absurd (omega arith); right = λ e. absurd (omega arith) }
inside_fits (suc k) d l = absurd (omega arith)

text_id : HasMessageId text id
text_id = record {
  body = codes "<a>";
  one = (0, refl);
  value = refl;
  few = lit≤ tt;
  form = record { inside = 97 ∷ []; some = lit< tt; bytes = inside_fits; whole = refl };
}

pub no_nul : ¬ (Contains text 0)
no_nul c = let t : list_any (nat_eq 0) text ≡ true = list_any-from_Contains nat_eq_equiv 0 text c in absurd (cc)

abbrev book_with_append : Meaning
book_with_append = after book_one (events.Accept 1 appends)

append_accepted : KeptBook book_with_append server_before None
append_accepted =
    event_keeps book_one (events.Accept 1 appends) server_before None kept_one (record { version = First; unbroken = refl })
    ((lit≤ tt, text_id), tt)

pub append_meant : KeptBook book_that_appends server_before None
append_meant =
    event_keeps book_with_append (events.Intend 1 (intents.Put box_name 5 2)) server_before None append_accepted
    (record { version = First; unbroken = refl })
    (nothing_waits, λ q e. put_open q (same_Some (accepted appends) q e))
  where
    put_open : (q : Queued) → accepted appends ≡ q → IsOpenNow q.action (ours 1 server_before.history) (intents.Put box_name 5 2) server_before.boxes
    put_open q is = subst (λ (x : Queued). IsOpenNow x.action (ours 1 server_before.history) (intents.Put box_name 5 2) server_before.boxes) is
        (record { box = box_with [] 10; there = refl; same = refl; facts = record { reached = lit≤ tt; found = refl; received = tt } })

one_more : Batch server_before.boxes server_before server_with_one_more
one_more = more box_name (changes.Add [] text 2) (record {
  effect = record {
    before = box_with [] 10;
    after = box_with_one_more;
    there = refl;
    becomes = record {
      fresh = lit≤ tt;
      uid_fits = lit< tt;
      plain = no_nul;
      modseq = 11;
      is_next = record { room = lit< tt; above = lit< tt; fits = lit< tt };
      next = 3;
      beyond = lit< tt;
      next_fits = lit< tt;
      becomes = refl;
    };
    put = refl;
  };
  history = refl;
}) none

more_breaks : ¬ (KeptBook book_that_appends server_with_one_more None)
more_breaks k =
    let i : InBox (PutFacts id 2 5 []) box_name 5 server_with_one_more.boxes = k.open_intent (intents.Put box_name 5 2) refl (accepted appends) refl in
    let is : box_with_one_more ≡ i.box = same_Some box_with_one_more i.box i.there in
    let found : some_of (at_least 2 (marked id i.box.messages)) ≡ [] = (i.facts (ap (λ (b : Mailbox). b.validity) (sym is))).found in
    let here : some_of (at_least 2 (marked id box_with_one_more.messages)) ≡ [] =
    subst (λ (b : Mailbox). some_of (at_least 2 (marked id b.messages)) ≡ []) (sym is) found in
    one_found here
  where
    one_found : some_of (at_least 2 (marked id box_with_one_more.messages)) ≡ [] → ⊥
    one_found = λ e. absurd (cc)

pub others_spare : KeptBook book_that_appends server_before None × Batch server_before.boxes server_before server_with_one_more
    × ¬ (KeptBook book_that_appends server_with_one_more None)
others_spare = (append_meant, one_more, more_breaks)

renewed : Batch server_before.boxes server_before server_renewed
renewed = more box_name (changes.Reset 6 (1 ∷ []) 2 12) (record {
  effect = record {
    before = box_with [] 10;
    after = box_renewed;
    there = refl;
    becomes = record { above = lit< tt; rise = (lit≤ tt, lit< tt, tt); as_many = refl; becomes = refl };
    put = refl;
  };
  history = refl;
}) none

-- the STORE that waits is one for the UIDVALIDITY of its intent
renewed_breaks : ¬ (KeptBook book_three server_renewed (Some sent_out))
renewed_breaks k =
    let of : IsOf book_three server_renewed sent_out = k.waits (record { command = sent_out; waits = refl; mutating = refl }) in
    let is : Some meant ≡ Some of.intent = of.pending in
    let at : InBoxNow (λ _. Unit {0}) (intent_name of.intent) (intent_validity of.intent) server_renewed.boxes = of.at in
    let here : InBoxNow (λ _. Unit {0}) box_name 5 server_renewed.boxes =
    subst (λ (i : Intent). InBoxNow (λ _. Unit {0}) (intent_name i) (intent_validity i) server_renewed.boxes) (sym (same_Some meant of.intent is)) at in
    let box : box_renewed ≡ here.box = same_Some box_renewed here.box here.there in
    let six : 6 ≡ here.box.validity = ap (λ (b : Mailbox). b.validity) box in
    absurd (omega (arith, six, here.same))

pub others_settle : KeptBook book_three server_before (Some sent_out) × Batch server_before.boxes server_before server_renewed
    × ¬ (KeptBook book_three server_renewed (Some sent_out))
others_settle = (kept_sent, renewed, renewed_breaks)
