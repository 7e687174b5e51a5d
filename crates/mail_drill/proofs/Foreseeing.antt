-- Which statuses come of a drill's commands, where nothing fails: of the first two 0, and of the others 0, or that the book has a reason.
use Rattle.std.proofs.Common.{◌≡◌, inl, inr, ⊎_elim, ℕ, false, List, [], ◌∷◌, length, Option, Some, None, refl, sym, ◌∙◌, ap, subst, arith}
use Rattle.std.proofs.Math.Logic.{∥∥₁_elim}
use Rattle.std.proofs.lemmas.Option.{none-some}
use Rattle.mail_base.specs.Account.{Credentials}
use Rattle.mail_base.specs.declared.status.Status.{Status}
use Rattle.mail_base.specs.declared.status.Status.TheVariants as status
use Rattle.action_queue.specs.Book.{Meaning, begun}
use Rattle.action_queue.specs.declared.queued.Queued.{Queued}
use Rattle.store_core.specs.Books.{HasBook}
use Rattle.store_core.specs.Mail.{mail}
use Rattle.store_core.proofs.Folding.{one_held}
use Rattle.store_core.proofs.MailBook.{one_mail_event}
use Rattle.store_core.proofs.Wholeness.{never_both}
use Rattle.play_driver.specs.Counted.{conflicts_of, counted, played_since}
use Rattle.mail_top.specs.Course.{Course}
use Rattle.mail_top.specs.Ending.{Ends, EndsAct, EndsRequest}
use Rattle.mail_top.specs.Played.{SaysPlayed}
use Rattle.mail_top.specs.Telling.{status_of_conflicts}
use Rattle.mail_top.specs.Words.{Act, AsksNothing, Init, Play, Queue, Report, Request, Rows, Wanted, WritesPlay}
use Rattle.mail_top.proofs.Endings.{completes_init, ended_as}
use Rattle.mail_drill.specs.Answering.{Awaits}
use Rattle.mail_drill.specs.Asked.{wanted_of}
use Rattle.mail_drill.specs.Beginning.{IsNew}
use Rattle.mail_drill.specs.Connected.{IsMade, IsUnmade, Untouched}
use Rattle.mail_drill.specs.Foreseen.{NothingAgainst, RanCalmly}
use Rattle.mail_drill.specs.Held.{init_words, play_words}
use Rattle.mail_drill.specs.Mailboxes.{both_names}
use Rattle.mail_drill.specs.Ran.{Ran, course_from}
use Rattle.mail_drill.specs.Standing.{HasOne, clock_of, now_of, seen_of}
use Rattle.mail_drill.specs.Texts.{input_of, words_of}
use Rattle.mail_drill.specs.declared.orders.Order.{Order}
use Rattle.mail_drill.specs.declared.quiet_world.QuietWorld.{QuietWorld}
use Rattle.mail_drill.proofs.FirstWorld.{begun_one, still_untold, writes_init, writes_play}
use Rattle.mail_drill.proofs.Mailboxes.{has_each_box}
use Rattle.mail_drill.proofs.OrderAnswers.{asked_ends}
use Rattle.mail_drill.proofs.PlayingOn.{plays_on}

-- where a command is answered as one that asks for nothing it asks for nothing
no_request : (account : Credentials) (request : Request) (k : Course) (text : List ℕ) → EndsRequest account request k status.Words text → ⊥
no_request account (Init names) k text ends = ends.says
no_request account (Act wanted) k text ends = ends.says
no_request account (Rows name) k text ends = ends.says
no_request account Queue k text ends = ends.says
no_request account Report k text ends = ends.says
no_request account Play k text ends = ends

nothing_asked : (account : Credentials) (words : List (List ℕ)) (input : List ℕ) (k : Course) (s : Status) (text : List ℕ) →
    Ends account words input k s text → s ≡ status.Words → AsksNothing words
nothing_asked account words input k s text (inl w) is = w.nothing
nothing_asked account words input k s text (inr r) is =
    absurd (no_request account r.request k text (subst (λ (t : Status). EndsRequest account r.request k t text) is r.ends))

-- what a command's words say, and no input
pub ran_as : (account : Credentials) (words texts : List (List ℕ)) (input : List ℕ) (old new : QuietWorld) (s : Status) → words ≡ texts → input ≡ [] →
    RanCalmly account words input old new s → RanCalmly account texts [] old new s
ran_as account words texts input old new s said none calm =
    subst (λ (ws : List (List ℕ)). RanCalmly account ws [] old new s) said (subst (λ (i : List ℕ). RanCalmly account words i old new s) none calm)

-- The first command.
pub init_ends : (account : Credentials) (size : ℕ) (old new : QuietWorld) → IsNew size old.world → NothingAgainst account init_words old new
init_ends account size old new fresh s calm =
    ⊎_elim (λ (done : s ≡ status.Done). done) (λ (want : s ≡ status.Memory). absurd (calm.no_memory want))
    (completes_init account init_words [] (course_from old new) s calm.ran.text calm.ran.goes.ends
    (nothing_asked account init_words [] (course_from old new) s calm.ran.text calm.ran.goes.ends) calm.no_disk calm.no_output both_names writes_init
    fresh.unbegun)

-- what isn't a list with elements, or an option with a value, is empty
no_elements : {A : Type 0} (xs : List A) → ((xs ≡ [] → ⊥) → ⊥) → xs ≡ []
no_elements [] stable = refl
no_elements (x ∷ xs) stable = absurd (stable (λ is. omega (arith, ap length is)))

no_value : {A : Type 0} (o : Option A) → ((o ≡ None → ⊥) → ⊥) → o ≡ None
no_value None stable = refl
no_value (Some x) stable = absurd (stable (λ is. none-some x (sym is)))

-- In a world whose server has told nothing no connection was made.
module _ (w : QuietWorld) (sufficed : w.short ≡ false) (untold : (now_of w).outside.talk.told ≡ []) where
  never_made : (IsUnmade w.world → ⊥) → ⊥
  never_made not = ∥∥₁_elim w.served (hlevel) (λ known.
      ⊎_elim not (λ (made : IsMade (clock_of w)). omega (arith, ap length untold, made.served.told.some)) (known sufficed).connection)

  untouched_yet : Untouched (clock_of w)
  untouched_yet at before = record {
    untold = no_elements at.now.outside.talk.told (λ not. never_made (λ un. not (un.untouched at before).untold));
    none = no_value at.now.outside.talk.arriving (λ not. never_made (λ un. not (un.untouched at before).none));
  }

-- A book without an action has no conflict.
no_conflicts : (entry b : Meaning) → entry.queue ≡ [] → status.Conflicts ≡ status_of_conflicts (played_since entry b).conflicts → ⊥
no_conflicts entry b none is =
    let no_one : counted conflicts_of entry.queue b.queue ≡ 0 = ap (λ (queue : List Queued). counted conflicts_of queue b.queue) none in
    apart (is ∙ ap status_of_conflicts no_one)
  where
    apart : status.Conflicts ≡ status.Done → ⊥
    apart same = cc

never_conflicts : (account : Credentials) (words : List (List ℕ)) (input : List ℕ) → WritesPlay words → (old new : QuietWorld) →
    Ran account words input old new status.Conflicts → (b : Meaning) → HasOne b old → b.queue ≡ [] → ⊥
never_conflicts account words input writes old new ran b one none =
    let said : SaysPlayed account (course_from old new) status.Conflicts ran.text =
    ended_as account words input (course_from old new) status.Conflicts ran.text Play writes ran.goes.ends (λ is. absurd cc) in
    let same : said.opened.book ≡ b = one_held mail one_mail_event (seen_of old) said.opened.book b said.read.holds one.reads in
    no_conflicts said.opened.book said.store.book (ap (λ (c : Meaning). c.queue) same ∙ none) said.status_is

-- The second one, which fetches the mailboxes.
pub play_ends : (account : Credentials) (size : ℕ) (old mid new : QuietWorld) → IsNew size old.world → Ran account init_words [] old mid status.Done →
    NothingAgainst account play_words mid new
play_ends account size old mid new fresh first s calm =
    let one : HasOne (begun both_names) mid = begun_one account size old mid fresh first in
    let waits = has_each_box (begun both_names) mid (plays_on (begun both_names) mid one) in
    let untouched = untouched_yet mid first.sufficed (still_untold account size old mid fresh first) in
    ⊎_elim (λ (done : s ≡ status.Done). done)
    (λ (conflicts : s ≡ status.Conflicts).
    absurd (never_conflicts account play_words [] writes_play mid new (subst (λ (t : Status). Ran account play_words [] mid new t) conflicts calm.ran)
    (begun both_names) one refl)) (calm.completes writes_play one.kept untouched waits)

-- The others. This is none of the statuses that come of one, and nothing is to blame for it.
record IsOther (s : Status) : Type 0 where
  done : s ≡ status.Done → ⊥
  reason : s ≡ status.Reason → ⊥
  disk : s ≡ status.Disk → ⊥
  input : s ≡ status.Input → ⊥
  output : s ≡ status.Output → ⊥
  memory : s ≡ status.Memory → ⊥
  limit : s ≡ status.Limit → ⊥

act_comes : (wanted : Wanted) (k : Course) (b : Meaning) → HasBook mail b k.seen → (s : Status) (text : List ℕ) → EndsAct wanted k s text →
    IsOther s → ⊥
act_comes wanted k b holds status.Done text ends other = other.done refl
act_comes wanted k b holds status.Output text ends other = other.output refl
act_comes wanted k b holds status.Disk text ends other = other.disk refl
act_comes wanted k b holds status.Journal text ends other = never_both mail one_mail_event b k.seen holds ends.why ends.broken
act_comes wanted k b holds status.Reason text ends other = other.reason refl
act_comes wanted k b holds status.Memory text ends other = other.memory refl
act_comes wanted k b holds status.Limit text ends other = other.limit refl
act_comes wanted k b holds status.Input text ends other = other.input refl
act_comes wanted k b holds status.Words text ends other = ends
act_comes wanted k b holds status.Conflicts text ends other = ends
act_comes wanted k b holds status.Link text ends other = ends
act_comes wanted k b holds status.Refused text ends other = ends
act_comes wanted k b holds status.Reply text ends other = ends
act_comes wanted k b holds status.Lacking text ends other = ends
act_comes wanted k b holds status.Validity text ends other = ends
act_comes wanted k b holds status.Shelf text ends other = ends

pub order_comes : (account : Credentials) (o : Order) (words : List (List ℕ)) (input : List ℕ) (old new : QuietWorld) (s : Status) →
    RanCalmly account words input old new s → words ≡ words_of o → input ≡ input_of o → (s ≡ status.Done → ⊥) → (s ≡ status.Reason → ⊥) →
    (size : ℕ) (os : List Order) (b : Meaning) → Awaits size os o b old → ⊥
order_comes account o words input old new s calm said read not_done not_reason size os b waits =
    let k = course_from old new in
    let ends : Ends account (words_of o) (input_of o) k s calm.ran.text =
    subst (λ (ws : List (List ℕ)). Ends account ws (input_of o) k s calm.ran.text) said
    (subst (λ (i : List ℕ). Ends account words i k s calm.ran.text) read calm.ran.goes.ends) in
    act_comes (wanted_of o) k b waits.has.reads s calm.ran.text (asked_ends account size o k s calm.ran.text waits.most waits.named ends).says
    (record {
      done = not_done;
      reason = not_reason;
      disk = calm.no_disk;
      input = calm.no_input;
      output = calm.no_output;
      memory = calm.no_memory;
      limit = calm.no_limit;
    })
