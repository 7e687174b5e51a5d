-- How `play` ends at each of its ends, and what its texts tell.
use Rattle.std.proofs.Common.{◌≡◌, inl, inr, ℕ, zero, suc, List, Some, Result, Ok, Err, refl, sym, ◌∙◌, ap, subst}
use Rattle.std.specs.Prelude.{OnOk}
use Rattle.std.specs.Result.{IsErrAnd}
use Rattle.mail_base.specs.Account.{Credentials}
use Rattle.mail_base.specs.declared.status.Status.{Status}
use Rattle.mail_base.specs.declared.status.Status.TheVariants as status
use Rattle.world_traits.specs.LinkState.{LinkState}
use Rattle.action_queue.specs.Queues.{AllSettled}
use Rattle.action_queue.specs.declared.event.Event.{Event}
use Rattle.store_core.specs.Mail.{mail}
use Rattle.store_core.specs.Holding.{Holding, IsAsLeft}
use Rattle.store_core.specs.Taking.{IsTaking}
use Rattle.store_core.proofs.Choosing.{only_left}
use Rattle.play_driver.specs.Counted.{played_since}
use Rattle.play_driver.specs.Playing.{Plays, EndsEarly}
use Rattle.play_driver.specs.Progress.{IsLater, IsPlayEvent, IsPlaying}
use Rattle.play_driver.specs.declared.fault.PlayFault.{PlayFault}
use Rattle.play_driver.specs.declared.fault.PlayFault.TheVariants as faults
use Rattle.play_driver.specs.declared.fault.Why.{Why}
use Rattle.play_driver.specs.declared.fault.Why.TheVariants as whys
use Rattle.play_driver.specs.declared.played.Played.{Played}
use Rattle.mail_top.specs.Course.{Course, OnFiles}
use Rattle.mail_top.specs.Ending.{EndsPlay, EndsRequest}
use Rattle.mail_top.specs.Played.{CameThrough, SaysPlayed, SaysStopped}
use Rattle.mail_top.specs.Readying.{IsLeftOlder, IsOpened, IsUnready}
use Rattle.mail_top.specs.Saying.{SaysOlder}
use Rattle.mail_top.specs.Telling.{TellsNoPlace, status_of, status_of_refusal, status_of_fault, text_of_fault, text_of_refusal}
use Rattle.mail_top.specs.Telling.{status_of_conflicts, status_of_play, text_of_play}
use Rattle.mail_top.specs.Words.{Wanted, Request, Init, Act, Rows, Queue, Report, Play}
use Rattle.mail_top.specs.declared.refusal.Refusal.{Refusal}
use Rattle.mail_top.specs.declared.refusal.Refusal.TheVariants as refusals
use Rattle.mail_top.specs.declared.unfinished.Unfinished.{Unfinished}
use Rattle.mail_top.specs.declared.unfinished.Unfinished.TheVariants as ends
use Rattle.mail_top.proofs.Openings.{opened_book}

-- what was handed on is the result
pub ended_by : {T : Type 0} (r : Result T Unfinished) (x : Unfinished) → IsErrAnd r (λ end. end ≡ x) → r ≡ Err x
ended_by (Ok y) x given = absurd given
ended_by (Err end) x given = ap (λ (e : Unfinished). Err e) given

-- an end by a result that is known
pub by_result : (account : Credentials) (k : Course) (r s : Result Played Unfinished) → r ≡ s → EndsPlay account k (status_of_play s) (text_of_play s) →
    EndsPlay account k (status_of_play r) (text_of_play r)
by_result account k r s is says = subst (λ (q : Result Played Unfinished). EndsPlay account k (status_of_play q) (text_of_play q)) (sym is) says

-- the journal isn't ready
module _ (account : Credentials) (k : Course) (link : k.link_after ≡ k.link) (outside : k.new.now.outside ≡ k.old.now.outside) where
  older_play : (y : Refusal) → IsLeftOlder k y → status_of_refusal y ≡ status.Limit → OnFiles k (SaysOlder k (text_of_refusal y))
  older_play y u is = record {
    link = link;
    outside = outside;
    says = record {
      book = u.book;
      past = record { stays = u.stays; refusal = y; limit = u.limit; is_limit = is; text_is = refl };
    };
  }

  by_refusal : (y : Refusal) → IsUnready k y → EndsPlay account k (status_of_refusal y) (text_of_refusal y)
  by_refusal refusals.Memory u = inl (record { link = link; outside = outside; says = record { keeps = u; text_is = refl } })
  by_refusal refusals.Disk u = inl (record { link = link; outside = outside; says = record { leaves = u; text_is = refl } })
  by_refusal (refusals.NotAJournal why) u = record {
    link = link;
    outside = outside;
    says = record { keeps = u.0; why = why; broken = u.1; text_is = refl };
  }
  by_refusal (refusals.Full end) u = inl (older_play (refusals.Full end) u refl)
  by_refusal refusals.Generation u = inl (older_play refusals.Generation u refl)
  by_refusal refusals.Input u = absurd u
  by_refusal refusals.Already u = absurd u
  by_refusal (refusals.Reason reason) u = absurd u
  by_refusal refusals.Actions u = absurd u

pub unready_play : {S : Type 0} (account : Credentials) (k : Course) (o : Result S Refusal) (r : Result Played Unfinished) (x : Refusal) → o ≡ Err x →
    IsErrAnd r (λ end. end ≡ ends.Unopened x) → k.link_after ≡ k.link → k.new.now.outside ≡ k.old.now.outside → IsUnready k x →
    EndsPlay account k (status_of_play r) (text_of_play r)
unready_play account k o r x was given link outside unready =
    by_result account k r (Err (ends.Unopened x)) (ended_by r (ends.Unopened x) given) (by_refusal account k link outside x unready)

-- unless the disk failed the files read as before
pub unready_reads : {S : Type 0} (k : Course) (o : Result S Refusal) (x : Refusal) → o ≡ Err x → IsUnready k x → (o ≡ Err refusals.Disk → ⊥) →
    k.seen_after ≡ k.seen
unready_reads k o refusals.Memory was u other = u.reads
unready_reads k o refusals.Disk was u other = absurd (other was)
unready_reads k o (refusals.NotAJournal why) was u other = u.0.reads
unready_reads k o (refusals.Full end) was u other = u.stays.reads
unready_reads k o refusals.Generation was u other = u.stays.reads
unready_reads k o refusals.Input was u other = absurd u
unready_reads k o refusals.Already was u other = absurd u
unready_reads k o (refusals.Reason reason) was u other = absurd u
unready_reads k o refusals.Actions was u other = absurd u

-- the run came to its end
module _ (account : Credentials) (k : Course) (opened store : Holding mail) (p : Played) (read : IsOpened k.old.now k.seen opened)
    (plays : Plays account opened store k.link_after) (later : IsLater opened.book store.book) (settled : AllSettled store.book.queue)
    (left : IsAsLeft mail store k.new.now k.seen_after) (is : p ≡ played_since opened.book store.book) where
  says_played : SaysPlayed account k (status_of_play (Ok p)) (text_of_play (Ok p))
  says_played = record {
    opened = opened;
    read = read;
    store = store;
    plays = plays;
    later = later;
    settled = settled;
    left = left;
    holds = opened_book store k.new.now k.seen_after k.seen_after left refl;
    leaves = only_left mail store k.new.now k.seen_after left;
    status_is = ap (λ (q : Played). status_of_play (Ok q)) is;
    text_is = ap (λ (q : Played). text_of_play (Ok q)) is;
  }

  by_conflicts : (n : ℕ) (text : List ℕ) → SaysPlayed account k (status_of_conflicts n) text → EndsPlay account k (status_of_conflicts n) text
  by_conflicts zero text says = says
  by_conflicts (suc n) text says = says

  pub played_play : EndsPlay account k (status_of_play (Ok p)) (text_of_play (Ok p))
  played_play = by_conflicts p.conflicts (text_of_play (Ok p)) says_played

-- the run ended early
module _ (account : Credentials) (k : Course) where
  by_fault : (x : PlayFault) → SaysStopped account k (status_of_fault x) (text_of_fault x) → EndsPlay account k (status_of_fault x) (text_of_fault x)
  by_fault faults.Memory s = inr s
  by_fault faults.Disk s = inr s
  by_fault faults.Link s = s
  by_fault (faults.Refused line) s = s
  by_fault (faults.BadReply why) s = s
  by_fault (faults.Lacking what) s = s
  by_fault (faults.Limit which number) s = inr s

  pub stopped_play : {T : Type 0} (opened store : Holding mail) (o : Result T PlayFault) (r : Result Played Unfinished) (x : PlayFault) → o ≡ Err x →
      IsErrAnd r (λ end. end ≡ ends.Stopped x) → IsOpened k.old.now k.seen opened → IsLater opened.book store.book →
      (before : LinkState) → before ≡ k.link → ((fault : PlayFault) → o ≡ Err fault → EndsEarly account opened store before k.link_after fault) →
      IsPlaying opened.book k.new.now →
      ((o ≡ Err faults.Disk → ⊥) → IsAsLeft mail store k.new.now k.seen_after) →
      (o ≡ Err faults.Disk → (event : Event) × IsPlayEvent event × IsTaking mail (Some store.book) event k.new.now) →
      EndsPlay account k (status_of_play r) (text_of_play r)
  stopped_play opened store o r x was given read later before same early leaves left stops =
      by_result account k r (Err (ends.Stopped x)) (ended_by r (ends.Stopped x) given)
      (by_fault x (record {
        opened = opened;
        read = read;
        fault = x;
        store = store;
        early = subst (λ (l : LinkState). EndsEarly account opened store l k.link_after x) same (early x was);
        later = later;
        leaves = leaves;
        left = λ other. left (λ is. other (cc (was, is)));
        stopped = λ is. let one = stops (was ∙ ap (λ (f : PlayFault). Err f) is) in record { event = one.0; of_play = one.1; taking = one.2 };
        status_is = refl;
        text_is = refl;
      }))

-- which refusal or fault it was by its status
disk_refusal : (x : Refusal) → status_of_refusal x ≡ status.Disk → x ≡ refusals.Disk
disk_refusal refusals.Disk is = refl
disk_refusal refusals.Memory is = absurd cc
disk_refusal refusals.Input is = absurd cc
disk_refusal refusals.Already is = absurd cc
disk_refusal (refusals.NotAJournal why) is = absurd cc
disk_refusal (refusals.Reason reason) is = absurd cc
disk_refusal refusals.Actions is = absurd cc
disk_refusal (refusals.Full end) is = absurd cc
disk_refusal refusals.Generation is = absurd cc

input_refusal : (x : Refusal) → status_of_refusal x ≡ status.Input → x ≡ refusals.Input
input_refusal refusals.Disk is = absurd cc
input_refusal refusals.Memory is = absurd cc
input_refusal refusals.Input is = refl
input_refusal refusals.Already is = absurd cc
input_refusal (refusals.NotAJournal why) is = absurd cc
input_refusal (refusals.Reason reason) is = absurd cc
input_refusal refusals.Actions is = absurd cc
input_refusal (refusals.Full end) is = absurd cc
input_refusal refusals.Generation is = absurd cc

reply_refusal : {T : Type 0} (r : Result T Refusal) → status_of r ≡ status.Reply → ⊥
reply_refusal (Ok x) is = absurd cc
reply_refusal (Err refusals.Disk) is = absurd cc
reply_refusal (Err refusals.Memory) is = absurd cc
reply_refusal (Err refusals.Input) is = absurd cc
reply_refusal (Err refusals.Already) is = absurd cc
reply_refusal (Err (refusals.NotAJournal why)) is = absurd cc
reply_refusal (Err (refusals.Reason reason)) is = absurd cc
reply_refusal (Err refusals.Actions) is = absurd cc
reply_refusal (Err (refusals.Full end)) is = absurd cc
reply_refusal (Err refusals.Generation) is = absurd cc

link_refusal : {T : Type 0} (r : Result T Refusal) → status_of r ≡ status.Link → ⊥
link_refusal (Ok x) is = absurd cc
link_refusal (Err refusals.Disk) is = absurd cc
link_refusal (Err refusals.Memory) is = absurd cc
link_refusal (Err refusals.Input) is = absurd cc
link_refusal (Err refusals.Already) is = absurd cc
link_refusal (Err (refusals.NotAJournal why)) is = absurd cc
link_refusal (Err (refusals.Reason reason)) is = absurd cc
link_refusal (Err refusals.Actions) is = absurd cc
link_refusal (Err (refusals.Full end)) is = absurd cc
link_refusal (Err refusals.Generation) is = absurd cc

input_fault : (x : PlayFault) → status_of_fault x ≡ status.Input → ⊥
input_fault faults.Memory is = absurd cc
input_fault faults.Disk is = absurd cc
input_fault faults.Link is = absurd cc
input_fault (faults.Refused line) is = absurd cc
input_fault (faults.BadReply why) is = absurd cc
input_fault (faults.Lacking what) is = absurd cc
input_fault (faults.Limit which number) is = absurd cc

disk_fault : (x : PlayFault) → status_of_fault x ≡ status.Disk → x ≡ faults.Disk
disk_fault faults.Memory is = absurd cc
disk_fault faults.Disk is = refl
disk_fault faults.Link is = absurd cc
disk_fault (faults.Refused line) is = absurd cc
disk_fault (faults.BadReply why) is = absurd cc
disk_fault (faults.Lacking what) is = absurd cc
disk_fault (faults.Limit which number) is = absurd cc

link_fault : (x : PlayFault) → status_of_fault x ≡ status.Link → x ≡ faults.Link
link_fault faults.Memory is = absurd cc
link_fault faults.Disk is = absurd cc
link_fault faults.Link is = refl
link_fault (faults.Refused line) is = absurd cc
link_fault (faults.BadReply why) is = absurd cc
link_fault (faults.Lacking what) is = absurd cc
link_fault (faults.Limit which number) is = absurd cc

reply_fault : (x : PlayFault) → ((why : Why) → x ≡ faults.BadReply why → ⊥) → status_of_fault x ≡ status.Reply → ⊥
reply_fault faults.Memory never is = absurd cc
reply_fault faults.Disk never is = absurd cc
reply_fault faults.Link never is = absurd cc
reply_fault (faults.Refused line) never is = absurd cc
reply_fault (faults.BadReply why) never is = never why refl
reply_fault (faults.Lacking what) never is = absurd cc
reply_fault (faults.Limit which number) never is = absurd cc

module _ {S : Type 0} (o : Result S Refusal) (r : Result Played Unfinished) (x : Refusal) (was : o ≡ Err x)
    (given : IsErrAnd r (λ end. end ≡ ends.Unopened x)) where
  of_opening : (t : Status) → status_of_play r ≡ t → status_of_refusal x ≡ t
  of_opening t is = ap status_of_play (sym (ended_by r (ends.Unopened x) given)) ∙ is

  pub opening_disk : status_of_play r ≡ status.Disk → o ≡ Err refusals.Disk
  opening_disk is = was ∙ ap (λ (f : Refusal). Err f) (disk_refusal x (of_opening status.Disk is))

  pub opening_failed : o ≡ Err refusals.Disk → status_of_play r ≡ status.Disk
  opening_failed is =
      let same : x ≡ refusals.Disk = cc (was, is) in
      ap status_of_play (ended_by r (ends.Unopened x) given) ∙ ap status_of_refusal same

  pub opening_input : status_of_play r ≡ status.Input → o ≡ Err refusals.Input
  opening_input is = was ∙ ap (λ (f : Refusal). Err f) (input_refusal x (of_opening status.Input is))

  pub opening_link : status_of_play r ≡ status.Link → ⊥
  opening_link is = link_refusal {T = ℕ} (Err x) (of_opening status.Link is)

  pub opening_reply : status_of_play r ≡ status.Reply → ⊥
  opening_reply is = reply_refusal {T = ℕ} (Err x) (of_opening status.Reply is)

module _ {S : Type 0} (o : Result S PlayFault) (r : Result Played Unfinished) (x : PlayFault) (was : o ≡ Err x)
    (given : IsErrAnd r (λ end. end ≡ ends.Stopped x)) where
  of_run : (t : Status) → status_of_play r ≡ t → status_of_fault x ≡ t
  of_run t is = ap status_of_play (sym (ended_by r (ends.Stopped x) given)) ∙ is

  pub run_disk : status_of_play r ≡ status.Disk → o ≡ Err faults.Disk
  run_disk is = was ∙ ap (λ (f : PlayFault). Err f) (disk_fault x (of_run status.Disk is))

  pub run_failed : o ≡ Err faults.Disk → status_of_play r ≡ status.Disk
  run_failed is =
      let same : x ≡ faults.Disk = cc (was, is) in ap status_of_play (ended_by r (ends.Stopped x) given) ∙ ap status_of_fault same

  pub run_input : status_of_play r ≡ status.Input → ⊥
  run_input is = input_fault x (of_run status.Input is)

  pub run_lost : o ≡ Err faults.Link → status_of_play r ≡ status.Link
  run_lost is =
      let same : x ≡ faults.Link = cc (was, is) in ap status_of_play (ended_by r (ends.Stopped x) given) ∙ ap status_of_fault same

  pub run_link : status_of_play r ≡ status.Link → o ≡ Err faults.Link
  run_link is = was ∙ ap (λ (f : PlayFault). Err f) (link_fault x (of_run status.Link is))

  pub run_reply : ((why : Why) → o ≡ Err (faults.BadReply why) → ⊥) → status_of_play r ≡ status.Reply → ⊥
  run_reply never is = reply_fault x (λ why same. never why (was ∙ ap (λ (f : PlayFault). Err f) same)) (of_run status.Reply is)

-- only of an honest server's replies no place is told
why_told : (x : PlayFault) → ((at : ℕ) → x ≡ faults.BadReply (whys.At at) → ⊥) → status_of_fault x ≡ status.Reply → TellsNoPlace (text_of_fault x)
why_told faults.Memory honest is = absurd cc
why_told faults.Disk honest is = absurd cc
why_told faults.Link honest is = absurd cc
why_told (faults.Refused line) honest is = absurd cc
why_told (faults.BadReply why) honest is = record { why = why; text_is = refl; no_place = λ at same. honest at (ap faults.BadReply same) }
why_told (faults.Lacking what) honest is = absurd cc
why_told (faults.Limit which number) honest is = absurd cc

-- a run that came to its end has one of two statuses
other_done : (n : ℕ) (t : Status) → status_of_conflicts n ≡ t → (t ≡ status.Done → ⊥) → (t ≡ status.Conflicts → ⊥) → ⊥
other_done zero t is done conflicts = done (sym is)
other_done (suc n) t is done conflicts = conflicts (sym is)

no_place : (r : Result Played Unfinished) → ((at : ℕ) → r ≡ Err (ends.Stopped (faults.BadReply (whys.At at))) → ⊥) → status_of_play r ≡ status.Reply →
    TellsNoPlace (text_of_play r)
no_place (Ok p) honest is = absurd (other_done p.conflicts status.Reply is (λ e. cc e) (λ e. cc e))
no_place (Err (ends.Unopened x)) honest is = absurd (reply_refusal {T = ℕ} (Err x) is)
no_place (Err (ends.Stopped x)) honest is =
    why_told x (λ at same. honest at (ap (λ (f : PlayFault). Err (ends.Stopped f)) same)) is

pub no_place_told : (r : Result Played Unfinished) (s : Status) (text : List ℕ) → s ≡ status_of_play r → text ≡ text_of_play r →
    ((at : ℕ) → r ≡ Err (ends.Stopped (faults.BadReply (whys.At at))) → ⊥) → s ≡ status.Reply → TellsNoPlace text
no_place_told r s text status_is text_is honest is = subst TellsNoPlace (sym text_is) (no_place r honest (sym status_is ∙ is))

-- a command that works with the files alone ends with no status of the link
pub no_reply : {T : Type 0} (r : Result T Refusal) (s : Status) → s ≡ status_of r → s ≡ status.Reply → ⊥
no_reply r s status_is is = reply_refusal r (sym status_is ∙ is)

pub no_link : {T : Type 0} (r : Result T Refusal) (s : Status) → s ≡ status_of r → s ≡ status.Link → ⊥
no_link r s status_is is = link_refusal r (sym status_is ∙ is)

-- it isn't `play`
pub never_init : (names : List (List ℕ)) → Init names ≡ Play → ⊥
never_init names is = absurd cc

pub never_act : (wanted : Wanted) → Act wanted ≡ Play → ⊥
never_act wanted is = absurd cc

pub never_rows : (name : List ℕ) → Rows name ≡ Play → ⊥
never_rows name is = absurd cc

pub never_queue : Queue ≡ Play → ⊥
never_queue is = absurd cc

pub never_report : Report ≡ Play → ⊥
never_report is = absurd cc

-- What is said of what became of a request is said of its ending.
module _ (account : Credentials) (r : Request) (k : Course) (s t : Status) (x y : List ℕ) (status_is : s ≡ t) (text_is : x ≡ y) where
  pub said_so : (q : Request) → r ≡ q → EndsRequest account q k t y → EndsRequest account r k s x
  said_so q same says = subst (λ (p : Request). EndsRequest account p k s x) (sym same)
      (subst (λ (u : Status). EndsRequest account q k u x) (sym status_is) (subst (λ (z : List ℕ). EndsRequest account q k t z) (sym text_is) says))

-- a run that came to its end has none of these statuses
pub played_disk : (p : Played) → status_of_play (Ok p) ≡ status.Disk → ⊥
played_disk p is = other_done p.conflicts status.Disk is (λ e. cc e) (λ e. cc e)

pub played_link : (p : Played) → status_of_play (Ok p) ≡ status.Link → ⊥
played_link p is = other_done p.conflicts status.Link is (λ e. cc e) (λ e. cc e)

pub played_input : (p : Played) → status_of_play (Ok p) ≡ status.Input → ⊥
played_input p is = other_done p.conflicts status.Input is (λ e. cc e) (λ e. cc e)

pub played_reply : (p : Played) → status_of_play (Ok p) ≡ status.Reply → ⊥
played_reply p is = other_done p.conflicts status.Reply is (λ e. cc e) (λ e. cc e)

-- what holds of each status that comes of `play` holds of its ending's
module _ (P : Status → Type 0) (done : P status.Done) (conflicts : P status.Conflicts) (memory : P status.Memory) (disk : P status.Disk)
    (journal : P status.Journal) (limit : P status.Limit) (link : P status.Link) (refused : P status.Refused) (reply : P status.Reply)
    (lacking : P status.Lacking) (input : P status.Input) (reason : P status.Reason) where
  at_refusal : (x : Refusal) → P (status_of_refusal x)
  at_refusal refusals.Memory = memory
  at_refusal refusals.Disk = disk
  at_refusal refusals.Input = input
  at_refusal refusals.Already = journal
  at_refusal (refusals.NotAJournal why) = journal
  at_refusal (refusals.Reason which) = reason
  at_refusal refusals.Actions = limit
  at_refusal (refusals.Full end) = limit
  at_refusal refusals.Generation = limit

  at_fault : (x : PlayFault) → P (status_of_fault x)
  at_fault faults.Memory = memory
  at_fault faults.Disk = disk
  at_fault faults.Link = link
  at_fault (faults.Refused line) = refused
  at_fault (faults.BadReply why) = reply
  at_fault (faults.Lacking what) = lacking
  at_fault (faults.Limit which number) = limit

  at_conflicts : (n : ℕ) → P (status_of_conflicts n)
  at_conflicts zero = done
  at_conflicts (suc n) = conflicts

  at_end : (r : Result Played Unfinished) → P (status_of_play r)
  at_end (Ok p) = at_conflicts p.conflicts
  at_end (Err (ends.Unopened x)) = at_refusal x
  at_end (Err (ends.Stopped x)) = at_fault x

  pub of_play : (r : Result Played Unfinished) (s : Status) → s ≡ status_of_play r → P s
  of_play r s status_is = subst P (sym status_is) (at_end r)

pub play_prints : (r : Result Played Unfinished) (s : Status) → s ≡ status_of_play r → s ≡ status.Output → ⊥
play_prints r s = of_play (λ (t : Status). t ≡ status.Output → ⊥)
    (λ e. cc e) (λ e. cc e) (λ e. cc e) (λ e. cc e) (λ e. cc e) (λ e. cc e)
    (λ e. cc e) (λ e. cc e) (λ e. cc e) (λ e. cc e) (λ e. cc e) (λ e. cc e) r s

pub play_asked : (r : Result Played Unfinished) (s : Status) → s ≡ status_of_play r → s ≡ status.Words → ⊥
play_asked r s = of_play (λ (t : Status). t ≡ status.Words → ⊥)
    (λ e. cc e) (λ e. cc e) (λ e. cc e) (λ e. cc e) (λ e. cc e) (λ e. cc e)
    (λ e. cc e) (λ e. cc e) (λ e. cc e) (λ e. cc e) (λ e. cc e) (λ e. cc e) r s

-- a run whose status says so came to its end
through_refusal : (x : Refusal) → CameThrough (status_of_refusal x) → ⊥
through_refusal refusals.Disk is = is
through_refusal refusals.Memory is = is
through_refusal refusals.Input is = is
through_refusal refusals.Already is = is
through_refusal (refusals.NotAJournal why) is = is
through_refusal (refusals.Reason reason) is = is
through_refusal refusals.Actions is = is
through_refusal (refusals.Full end) is = is
through_refusal refusals.Generation is = is

through_fault : (x : PlayFault) → CameThrough (status_of_fault x) → ⊥
through_fault faults.Memory is = is
through_fault faults.Disk is = is
through_fault faults.Link is = is
through_fault (faults.Refused line) is = is
through_fault (faults.BadReply why) is = is
through_fault (faults.Lacking what) is = is
through_fault (faults.Limit which number) is = is

through_ok : (r : Result Played Unfinished) (P : Type 0) → CameThrough (status_of_play r) → OnOk r P → P
through_ok (Ok p) P is came = came
through_ok (Err (ends.Unopened x)) P is came = absurd (through_refusal x is)
through_ok (Err (ends.Stopped x)) P is came = absurd (through_fault x is)

-- one that ended early didn't
pub stopped_early : (r : Result Played Unfinished) (x : Unfinished) → IsErrAnd r (λ end. end ≡ x) → CameThrough (status_of_play r) → ⊥
stopped_early (Ok p) x given came = absurd given
stopped_early (Err end) x given came = through_ok (Err end) ⊥ came tt

-- an honest run prints no place of a reply
pub run_honest : {S : Type 0} (o : Result S PlayFault) (r : Result Played Unfinished) (fault : PlayFault) → o ≡ Err fault →
    IsErrAnd r (λ end. end ≡ ends.Stopped fault) → ((at : ℕ) → o ≡ Err (faults.BadReply (whys.At at)) → ⊥) →
    (at : ℕ) → r ≡ Err (ends.Stopped (faults.BadReply (whys.At at))) → ⊥
run_honest o (Ok p) fault was given honest at is = absurd given
run_honest o (Err end) fault was given honest at is =
    let same : fault ≡ faults.BadReply (whys.At at) = cc (given, is) in honest at (was ∙ ap (λ (f : PlayFault). Err f) same)
