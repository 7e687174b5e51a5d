-- The tries whose commands a run sends have rising places: what is left falls with each turn.
use Rattle.std.proofs.Common.{◌≡◌, ◌⊎◌, ⊎_elim, inl, inr, ℕ, zero, suc, ◌+◌, ◌-◌, ◌*◌, ◌<◌, ◌≤◌, List, [], ◌∷◌, ◌++◌, length, Option, Some, None}
use Rattle.std.proofs.Common.{refl, sym, ◌∙◌, ap, subst, arith, rules}
use Rattle.std.specs.Prelude.{IsSome}
use Rattle.std.specs.List.{AllByRecursion}
use Rattle.std.specs.Option.{option_to_list}
use Rattle.std.proofs.lemmas.List.{append-nil, length-map}
use Rattle.action_queue.specs.Book.{Meaning, after, cache_at}
use Rattle.action_queue.specs.Queues.{AllSettled, change_first, change_queued, due, due_action, settled, tried, tries_due}
use Rattle.action_queue.specs.declared.action.Action.{Action}
use Rattle.action_queue.specs.declared.action.Action.TheVariants as actions
use Rattle.action_queue.specs.declared.book.Known.{Known}
use Rattle.action_queue.specs.declared.event.Event.{Event}
use Rattle.action_queue.specs.declared.event.Event.TheVariants as events
use Rattle.action_queue.specs.declared.intent.Intent.{Intent}
use Rattle.action_queue.specs.declared.intent.Intent.TheVariants as intents
use Rattle.action_queue.specs.declared.outcome.Outcome.{Outcome}
use Rattle.action_queue.specs.declared.queued.Queued.{Queued}
use Rattle.action_queue.proofs.Queueing.{all_settled, none_due}
use Rattle.mail_base.specs.Tags.{try_tag}
use Rattle.mail_base.specs.declared.tag.Tag.{Tag}
use Rattle.imap_model.specs.declared.command.Command.{Command}
use Rattle.playback.specs.Allowed.{Records}
use Rattle.playback.specs.Choosing.{WantedBox, chosen_in, committed, counted, wanted}
use Rattle.playback.specs.Left.{left, rank, rank_of}
use Rattle.playback.specs.Needs.{again, due_id, need_end, need_for, need_ids, need_learn, need_of, need_search, need_send, search_of, send_meant, send_of}
use Rattle.playback.specs.Steps.{step_learn, step_of}
use Rattle.playback.specs.declared.finding.Finding.{Finding}
use Rattle.playback.specs.declared.finding.Finding.TheVariants as findings
use Rattle.playback.specs.declared.finding.Resynced.{Resynced}
use Rattle.playback.specs.declared.need.Need.{Need}
use Rattle.playback.specs.declared.need.Need.TheVariants as needs
use Rattle.playback.specs.declared.player.Player.{Player}
use Rattle.playback.specs.declared.step.Step.{Step}
use Rattle.playback.specs.declared.step.Step.TheVariants as steps
use Rattle.mailbox_cache.specs.declared.delta.Delta.{Delta}
use Rattle.store_core.specs.Holding.{Holding}
use Rattle.store_core.specs.Mail.{mail}
use Rattle.play_driver.specs.Progress.{IsLater, IsPlayEvent}
use Rattle.play_driver.specs.Recording.{recorded}
use Rattle.play_driver.specs.SendsOnce.{NumbersRise, place_of}
use Rattle.play_driver.specs.Turning.{IsAskedFor, Standing, Turns, need_at, reset_at, tries_at}
use Rattle.play_driver.specs.Turning.Turns.{asks, fetches, holds, records, resets, selects}
use Rattle.play_driver.specs.declared.session.Held.{Held}
use Rattle.playback.proofs.Recording.{put_length}
use Rattle.playback.proofs.Resetting.{reset_told}
use Rattle.play_driver.proofs.Progressing.{later_event}
use Rattle.play_driver.proofs.Reasons.{of_playback}
use Rattle.play_driver.proofs.Shortness.{place_before}

-- the place of the try whose command is needed, where so many of the action were taken back
abbrev pub sends_for : ℕ → Need → List ℕ
sends_for tries (needs.Select name) = []
sends_for tries (needs.Ask command) = []
sends_for tries (needs.Commit event) = []
sends_for tries (needs.Settle n outcome) = []
sends_for tries (needs.Withdraw n k) = []
sends_for tries (needs.Send n command) = (4 * n + suc tries) ∷ []
sends_for tries needs.Finished = []

abbrev pub sends_at : Standing → List ℕ
sends_at p = sends_for (tries_at p) (need_at p)

try_place : (n tries : ℕ) → option_to_list (place_of (try_tag n tries)) ≡ (4 * n + suc tries) ∷ []
try_place n zero = refl
try_place n (suc k) = refl

pub asked_numbers : (need : Need) (tries count : ℕ) (tag : Tag) (command : Command) → IsAskedFor need tries count tag command →
    option_to_list (place_of tag) ≡ sends_for tries need
asked_numbers (needs.Select name) tries count tag command x = absurd x
asked_numbers (needs.Ask asked) tries count tag command x = ap (λ (t : Tag). option_to_list (place_of t)) x.1
asked_numbers (needs.Commit event) tries count tag command x = absurd x
asked_numbers (needs.Settle n outcome) tries count tag command x = absurd x
asked_numbers (needs.Withdraw n k) tries count tag command x = absurd x
asked_numbers (needs.Send n sent) tries count tag command x = ap (λ (t : Tag). option_to_list (place_of t)) x.1 ∙ try_place n tries
asked_numbers needs.Finished tries count tag command x = absurd x

-- no command of an action is needed, or one of its three tries
pub asked_few : (need : Need) (tries count : ℕ) (tag : Tag) (command : Command) → IsAskedFor need tries count tag command →
    (sends_for tries need ≡ []) ⊎ (tries ≤ 2)
asked_few (needs.Select name) tries count tag command x = absurd x
asked_few (needs.Ask asked) tries count tag command x = inl refl
asked_few (needs.Commit event) tries count tag command x = absurd x
asked_few (needs.Settle n outcome) tries count tag command x = absurd x
asked_few (needs.Withdraw n k) tries count tag command x = absurd x
asked_few (needs.Send n sent) tries count tag command x = inr x.2
asked_few needs.Finished tries count tag command x = absurd x

pub recorded_numbers : (need : Need) (event : Event) → Records need event → (tries : ℕ) → [] ≡ sends_for tries need
recorded_numbers (needs.Select name) event x tries = absurd x
recorded_numbers (needs.Ask command) event x tries = absurd x
recorded_numbers (needs.Commit told) event x tries = refl
recorded_numbers (needs.Settle n outcome) event x tries = refl
recorded_numbers (needs.Withdraw n k) event x tries = refl
recorded_numbers (needs.Send n command) event x tries = absurd x
recorded_numbers needs.Finished event x tries = absurd x

-- ---- rising numbers

all_and : (P : ℕ → Type 0) (ns : List ℕ) (m : ℕ) → AllByRecursion P ns → P m → AllByRecursion P (ns ++ m ∷ [])
all_and P [] m all p = (p, tt)
all_and P (n ∷ ns) m all p = (all.0, all_and P ns m all.1 p)

all_weaker : (P Q : ℕ → Type 0) → ((n : ℕ) → P n → Q n) → (ns : List ℕ) → AllByRecursion P ns → AllByRecursion Q ns
all_weaker P Q f [] all = tt
all_weaker P Q f (n ∷ ns) all = (f n all.0, all_weaker P Q f ns all.1)

rise_and : (ns : List ℕ) (m : ℕ) → AllByRecursion (λ (n : ℕ). n < m) ns → NumbersRise ns → NumbersRise (ns ++ m ∷ [])
rise_and [] m below rising = (tt, tt)
rise_and (n ∷ ns) m below rising = (all_and (λ (k : ℕ). n < k) ns m rising.0 below.0, rise_and ns m below.1 rising.1)

-- ---- what is left where a command is needed

ids_none : (tries : ℕ) (told : Finding) → sends_for tries (need_ids told) ≡ []
ids_none tries findings.Nothing = refl
ids_none tries findings.NoRow = refl
ids_none tries (findings.Row modseq so) = refl
ids_none tries findings.Barred = refl
ids_none tries (findings.Ended outcome) = refl
ids_none tries (findings.Next validity uidnext) = refl
ids_none tries (findings.Candidates uids) = refl
ids_none tries (findings.Probed verdict) = refl

search_one : (tries uidnext : ℕ) (action : Action) → sends_for tries (search_of uidnext action) ≡ []
search_one tries uidnext (actions.Flag target add flags) = refl
search_one tries uidnext (actions.Move target to) = refl
search_one tries uidnext (actions.Append to flags text id) = refl

search_none : (tries uidnext : ℕ) (o : Option Queued) → sends_for tries (need_search uidnext o) ≡ []
search_none tries uidnext None = refl
search_none tries uidnext (Some q) = search_one tries uidnext q.action

learn_none : (tries : ℕ) (o : Option Resynced) → sends_for tries (need_learn o) ≡ []
learn_none tries None = refl
learn_none tries (Some told) = refl

end_none : (tries n : ℕ) (outcome : Outcome) (o : Option ℕ) → sends_for tries (need_end n outcome o) ≡ []
end_none tries n outcome None = refl
end_none tries n outcome (Some k) = refl

abbrev OneOrNone : ℕ → ℕ → Need → Type 0
OneOrNone tries n need = (sends_for tries need ≡ []) ⊎ (sends_for tries need ≡ (4 * n + suc tries) ∷ [])

send_one : (tries n : ℕ) (action : Action) (intent : Intent) → OneOrNone tries n (send_of n action intent)
send_one tries n (actions.Flag target add flags) (intents.Store name validity uid modseq) = inr refl
send_one tries n (actions.Flag target add flags) (intents.Shift from validity uid to) = inl refl
send_one tries n (actions.Flag target add flags) (intents.Put to validity uidnext) = inl refl
send_one tries n (actions.Move target other) (intents.Store name validity uid modseq) = inl refl
send_one tries n (actions.Move target other) (intents.Shift from validity uid to) = inr refl
send_one tries n (actions.Move target other) (intents.Put to validity uidnext) = inl refl
send_one tries n (actions.Append other flags text id) (intents.Store name validity uid modseq) = inl refl
send_one tries n (actions.Append other flags text id) (intents.Shift from validity uid to) = inl refl
send_one tries n (actions.Append other flags text id) (intents.Put to validity uidnext) = inr refl

meant_one : (tries n : ℕ) (action : Action) (pending : Option Intent) → OneOrNone tries n (send_meant n action pending)
meant_one tries n action None = inl refl
meant_one tries n action (Some intent) = send_one tries n action intent

-- the place of the try of the action that is due
abbrev pub place_due : Meaning → ℕ
place_due b = 4 * due_id b + suc (tries_due b.queue)

module _ (p : Player) (b : Meaning) where
  abbrev Sends : Need → List ℕ
  Sends need = sends_for (tries_due b.queue) need

  -- none is needed for a step; or it is that of the action that is due, and the step's rank is 2
  abbrev SendsDue : Need → ℕ → Type 0
  SendsDue need ranked = (Sends need ≡ []) ⊎ ((Sends need ≡ place_due b ∷ []) × (ranked ≡ 2) × (due b.queue < length b.queue))

  with_due : (need : Need) → due b.queue < length b.queue → OneOrNone (tries_due b.queue) (due_id b) need → SendsDue need 2
  with_due need there (inl none) = inl none
  with_due need there (inr one) = inr (one, refl, there)

  send_due : (o : Option Queued) → due_action b.queue ≡ o → SendsDue (need_send (due_id b) o b.pending) 2
  send_due None e = inl refl
  send_due (Some q) e =
      with_due (send_meant (due_id b) q.action b.pending) (place_before b.queue (due b.queue) q e)
      (meant_one (tries_due b.queue) (due_id b) q.action b.pending)

  step_sends : (step : Step) → SendsDue (need_for step p b) (rank step)
  step_sends steps.Learn = inl (learn_none (tries_due b.queue) p.learns)
  step_sends (steps.Select name under) = inl refl
  step_sends (steps.AskRow uid) = inl refl
  step_sends (steps.Search uidnext) = inl (search_none (tries_due b.queue) uidnext (due_action b.queue))
  step_sends steps.AskIds = inl (ids_none (tries_due b.queue) p.told)
  step_sends (steps.Intend intent) = inl refl
  step_sends (steps.Settle outcome) = inl (end_none (tries_due b.queue) (due_id b) outcome (again (tries_due b.queue) outcome))
  step_sends steps.Send = send_due (due_action b.queue) refl
  step_sends steps.Finished = inl refl

  learns_sends : (o : Option Resynced) → p.learns ≡ o → SendsDue (need_of p b) (rank_of p b o)
  learns_sends None e = step_sends (step_of p b)
  learns_sends (Some told) e =
      inl (ap (λ (o : Option Resynced). Sends (need_for (step_learn p b o) p b)) e ∙ learn_none (tries_due b.queue) p.learns)

  pub need_sends : SendsDue (need_of p b) (rank_of p b p.learns)
  need_sends = learns_sends p.learns refl

-- ---- what stays from turn to turn

-- so many actions and mailboxes are in its book; and where a mailbox was resynchronised since, every action is settled
pub record StandsIn (n m : ℕ) (p : Standing) : Type 0 where
  pub queued : length p.store.book.queue ≡ n
  pub known : length p.store.book.boxes ≡ m
  pub last : 0 < p.player.resynced → due p.store.book.queue ≡ length p.store.book.queue

change_then : (f : Queued → Queued) (q : Queued) (qs changed : List Queued) (o : Option Outcome) → IsSome o → changed ≡ qs →
    change_queued f q qs changed o ≡ q ∷ qs
change_then f q qs changed None some same = absurd (search rules)
change_then f q qs changed (Some old) some same = ap (λ (ys : List Queued). q ∷ ys) same

-- where every action is settled none is left to settle
change_none : (f : Queued → Queued) (qs : List Queued) → AllSettled qs → change_first f qs ≡ qs
change_none f [] all = refl
change_none f (q ∷ qs) all = change_then f q qs (change_first f qs) q.outcome all.0 (change_none f qs all.1)

settled_still : (f : Queued → Queued) (qs : List Queued) → due qs ≡ length qs → due (change_first f qs) ≡ length (change_first f qs)
settled_still f qs all =
    let same = change_none f qs (all_settled qs all) in
    subst (λ (ys : List Queued). due ys ≡ length ys) (sym same) all

event_still : (b : Meaning) (event : Event) → IsPlayEvent event → due b.queue ≡ length b.queue →
    due (after b event).queue ≡ length (after b event).queue
event_still b (events.Begin names) of_play all = absurd of_play
event_still b (events.Accept id action) of_play all = absurd of_play
event_still b (events.Intend id intent) of_play all = all
event_still b (events.Settle id outcome) of_play all = settled_still (settled outcome) b.queue all
event_still b (events.Learn name delta) of_play all = all
event_still b (events.Old id action outcome) of_play all = absurd of_play
event_still b (events.Reset name kept told) of_play all = all
event_still b (events.Withdraw id tries) of_play all = settled_still (tried tries) b.queue all

counted_last : (learns : Option Resynced) (queue : List Queued) (o : Option Queued) → due_action queue ≡ o → (boxes count : ℕ) →
    (0 < count → due queue ≡ length queue) → 0 < counted learns o boxes count → due queue ≡ length queue
counted_last None queue o e boxes count before more = before more
counted_last (Some told) queue None e boxes count before more = none_due queue e
counted_last (Some told) queue (Some q) e boxes count before more = before more

same_actions : (b c : Meaning) → IsLater b c → length c.queue ≡ length b.queue
same_actions b c later =
    sym (length-map c.queue (λ (q : Queued). q.action)) ∙ ap length later.actions ∙ length-map b.queue (λ (q : Queued). q.action)

same_boxes : (b c : Meaning) → IsLater b c → length c.boxes ≡ length b.boxes
same_boxes b c later =
    sym (length-map c.boxes (λ (k : Known). k.name)) ∙ ap length later.names ∙ length-map b.boxes (λ (k : Known). k.name)

module _ (n m : ℕ) (q r : Standing) (stands : StandsIn n m q) where
  -- the store is the same, and as many mailboxes were resynchronised
  alike : r.store ≡ q.store → r.player.resynced ≡ q.player.resynced → StandsIn n m r
  alike store count = record {
    queued = ap (λ (s : Holding mail). length s.book.queue) store ∙ stands.queued;
    known = ap (λ (s : Holding mail). length s.book.boxes) store ∙ stands.known;
    last = λ more. ap (λ (s : Holding mail). due s.book.queue) store ∙ stands.last (subst (λ (k : ℕ). 0 < k) count more)
        ∙ sym (ap (λ (s : Holding mail). length s.book.queue) store);
  }

  behind_record : (event : Event) → Records (need_at q) event →
      StandsIn n m (record q { store = recorded q.store event; player = committed q.player (after q.store.book event) })
  behind_record event needed =
      let b = q.store.book in
      let of_play = of_playback q.player b event needed in
      let later = later_event b event of_play in
      record {
        queued = same_actions b (after b event) later ∙ stands.queued;
        known = same_boxes b (after b event) later ∙ stands.known;
        last = λ more.
            counted_last q.player.learns (after b event).queue (due_action (after b event).queue) refl (length (after b event).boxes)
            q.player.resynced (λ before. event_still b event of_play (stands.last before)) more;
      }

-- a cache is taken away
behind_reset : (n m : ℕ) (q : Standing) → StandsIn n m q → (h : Held) (event : Event) → reset_at h q ≡ Some event →
    StandsIn n m (record q { store = recorded q.store event })
behind_reset n m q stands h event reset =
    let r = reset_told h.chosen.name (cache_at h.chosen.name q.store.book.boxes) h.told event reset in
    subst (λ (e : Event). StandsIn n m (record q { store = recorded q.store e })) (sym r.is) (record {
      queued = stands.queued;
      known = put_length h.chosen.name None q.store.book.boxes ∙ stands.known;
      last = stands.last;
    })

chosen_count : (p : Player) (b : Meaning) (delta : Delta) (o : Option WantedBox) → (chosen_in p b delta o).resynced ≡ p.resynced
chosen_count p b delta None = refl
chosen_count p b delta (Some box) = refl

pub stands_then : (n m : ℕ) (q r : Standing) → StandsIn n m q → Turns q r → StandsIn n m r
stands_then n m q r stands (records event resting needed is) = subst (StandsIn n m) (sym is) (behind_record n m q r stands event needed)
stands_then n m q r stands (selects name delta resting needed came taken selected unheld same) =
    alike n m q r stands same
    (ap (λ (x : Player). x.resynced) taken.1 ∙ chosen_count q.player q.store.book delta (wanted q.player q.store.book))
stands_then n m q r stands (holds h reply event resting needed came is tells reset permits selected here same player) =
    alike n m q r stands same (ap (λ (x : Player). x.resynced) player)
stands_then n m q r stands (resets h event here needed reset is) = subst (StandsIn n m) (sym is) (behind_reset n m q stands h event reset)
stands_then n m q r stands (fetches h delta here needed away came taken selected permits unheld same) =
    alike n m q r stands same
    (ap (λ (x : Player). x.resynced) taken.1 ∙ chosen_count q.player q.store.book delta (wanted q.player q.store.book))
stands_then n m q r stands (asks tag command replies resting asked came heard selected permits unheld same) =
    alike n m q r stands same (ap (λ (x : Player). x.resynced) heard.is)

-- ---- what is left, and the numbers

zero_of : (k : ℕ) → (0 < k → ⊥) → k ≡ 0
zero_of zero none = refl
zero_of (suc k) none = absurd (none (omega arith))

some_sent : (k : ℕ) → k ∷ [] ≡ [] → ⊥
some_sent k e = absurd cc

-- so much is left for each try that was sent, in a run of so many actions and mailboxes
abbrev pub Below : ℕ → ℕ → Standing → List ℕ → Type 0
Below n m q ns = AllByRecursion (λ (k : ℕ). left q.player q.store.book + 4 * k < 30 + 16 * (n + m)) ns

module _ (n m : ℕ) (q : Standing) (stands : StandsIn n m q) where
  abbrev Left : ℕ
  Left = left q.player q.store.book

  -- as a command is sent
  module _ (ranked : rank_of q.player q.store.book q.player.learns ≡ 2) (there : due q.store.book.queue < length q.store.book.queue) where
    none_read : q.player.resynced ≡ 0
    none_read = zero_of q.player.resynced (λ more. let all = stands.last more in let e : ⊥ = absurd (omega (arith, all, there)) in e)

    left_is : Left ≡ rank_of q.player q.store.book q.player.learns + 4 * (2 - tries_at q)
        + 16 * (length q.store.book.queue - due q.store.book.queue) + 16 * (length q.store.book.boxes - q.player.resynced)
    left_is = refl

    left_now : 30 + 16 * (n + m) ≤ Left + 4 * place_due q.store.book
    left_now = omega (arith, left_is, ranked, there, none_read, stands.queued, stands.known)

    left_just : tries_at q ≤ 2 → Left + 4 * place_due q.store.book ≡ 30 + 16 * (n + m)
    left_just few = omega (arith, few, left_is, ranked, there, none_read, stands.queued, stands.known)

  -- another place rises above all before
  pub rises_next : (ns : List ℕ) → NumbersRise ns → Below n m q ns → NumbersRise (ns ++ sends_at q)
  rises_next ns rising below = by (need_sends q.player q.store.book) where
    by : SendsDue q.player q.store.book (need_at q) (rank_of q.player q.store.book q.player.learns) → NumbersRise (ns ++ sends_at q)
    by (inl none) =
        subst (λ (ms : List ℕ). NumbersRise (ns ++ ms)) (sym none) (subst NumbersRise (sym (append-nil ns)) rising)
    by (inr (one, ranked, there)) =
        let now = left_now ranked there in
        subst (λ (ms : List ℕ). NumbersRise (ns ++ ms)) (sym one)
        (rise_and ns (place_due q.store.book)
        (all_weaker (λ (k : ℕ). Left + 4 * k < 30 + 16 * (n + m)) (λ (k : ℕ). k < place_due q.store.book)
        (λ k less. omega (arith, less, now)) ns below) rising)

  -- and behind the turn less is left for all of them
  pub below_next : (r : Standing) (ns : List ℕ) → left r.player r.store.book ≤ Left →
      (sends_at q ≡ []) ⊎ ((left r.player r.store.book < Left) × (tries_at q ≤ 2)) → Below n m q ns → Below n m r (ns ++ sends_at q)
  below_next r ns no_more less below = by (need_sends q.player q.store.book) where
    later : Below n m r ns
    later =
        all_weaker (λ (k : ℕ). Left + 4 * k < 30 + 16 * (n + m)) (λ (k : ℕ). left r.player r.store.book + 4 * k < 30 + 16 * (n + m))
        (λ k under. omega (arith, under, no_more)) ns below

    by : SendsDue q.player q.store.book (need_at q) (rank_of q.player q.store.book q.player.learns) → Below n m r (ns ++ sends_at q)
    by (inl none) =
        subst (λ (ms : List ℕ). Below n m r (ns ++ ms)) (sym none) (subst (Below n m r) (sym (append-nil ns)) later)
    by (inr (one, ranked, there)) =
        subst (λ (ms : List ℕ). Below n m r (ns ++ ms)) (sym one)
        (all_and (λ (k : ℕ). left r.player r.store.book + 4 * k < 30 + 16 * (n + m)) ns (place_due q.store.book) later
        (⊎_elim (λ (none : sends_at q ≡ []). absurd (some_sent (place_due q.store.book) (sym one ∙ none)))
        (λ (falls : (left r.player r.store.book < Left) × (tries_at q ≤ 2)).
        let now = left_just ranked there falls.1 in
        omega (arith, now, falls.0)) less))
