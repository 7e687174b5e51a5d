-- How what is asked for goes, told of the words and of the ending.
use Rattle.std.proofs.Common.{◌≡◌, ◌⊎◌, inl, inr, ℕ, List, [], Result, Ok, Err, refl, sym, ◌∙◌, subst, arith}
use Rattle.std.specs.Prelude.{OnOk}
use Rattle.mail_base.specs.Account.{Credentials}
use Rattle.mail_base.specs.declared.status.Status.{Status}
use Rattle.mail_base.specs.declared.status.Status.TheVariants as status
use Rattle.world_traits.specs.Files.{Files}
use Rattle.action_queue.specs.Book.{Meaning}
use Rattle.store_core.specs.Mail.{mail}
use Rattle.store_core.specs.Books.{HasBook}
use Rattle.conflict_report.specs.QueueLines.{queue_text}
use Rattle.conflict_report.specs.ReportLines.{report_text}
use Rattle.mail_top.specs.Course.{Course}
use Rattle.mail_top.specs.Ending.{EndsInit, EndsRows, EndsShown, EndsPlay}
use Rattle.mail_top.specs.Going.{GoesBy, GoesAction, GoesRequest}
use Rattle.mail_top.specs.Leaving.{MayBeLeft}
use Rattle.mail_top.specs.Played.{CameThrough}
use Rattle.mail_top.specs.Reading.{AsksAppend, Awaits, AwaitsAsked, AwaitsInput, AwaitsOn, IsAppend, IsInput, NeedsInput, TakesFront}
use Rattle.mail_top.specs.Telling.{status_of}
use Rattle.mail_top.specs.Words.{Wanted, Flag, Move, Append, Request, Init, Act, Rows, Queue, Report, Play, Asks, AsksAction, HasFewFlags, addition_of}
use Rattle.mail_top.specs.Words.{IsPlay, WritesPlay, request_of, wanted_of}
use Rattle.mail_top.specs.declared.refusal.Refusal.{Refusal}
use Rattle.mail_top.specs.declared.refusal.Refusal.TheVariants as refusals
use Rattle.mail_top.specs.declared.request.Asked.{Asked}
use Rattle.mail_top.specs.declared.request.Asked.TheVariants as asked
use Rattle.mail_top.specs.declared.request.AskedAction.{AskedAction}
use Rattle.mail_top.specs.declared.request.AskedAction.TheVariants as asked_action
use Rattle.mail_top.proofs.Repeated.{outside_stays}
use Rattle.mail_top.proofs.Sayings.{never_init, never_act, never_rows, never_queue, never_report, said_so}
use Rattle.mail_top.proofs.Wording.{one_request}

module _ (account : Credentials) (k : Course) where
  -- of another name for the request, and another for status and text
  pub went_so : (r q : Request) (s t : Status) (x y : List ℕ) → s ≡ t → x ≡ y → r ≡ q → GoesRequest account q k t y → GoesRequest account r k s x
  went_so r q s t x y status_is text_is same went = record {
    ends = said_so account r k s t x y status_is text_is q same went.ends;
    goes = subst (λ (p : Request). GoesBy p k) (sym same) went.goes;
  }

  pub went_play : (t : Status) (y : List ℕ) → EndsPlay account k t y → GoesBy Play k → GoesRequest account Play k t y
  went_play t y ends goes = record { ends = ends; goes = goes }

  -- by a command that works with the files alone
  module _ (link : k.link_after ≡ k.link) where
    outside : (q : Request) → (q ≡ Play → ⊥) → GoesBy q k → k.new.now.outside ≡ k.old.now.outside
    outside q never goes = outside_stays q never (MayBeLeft q k.old.now k.seen) k.old k.new goes.keeps

    pub went_init : (names : List (List ℕ)) (t : Status) (y : List ℕ) → EndsInit names k t y → GoesBy (Init names) k → GoesRequest account (Init names) k t y
    went_init names t y ends goes = record {
      ends = record { link = link; outside = outside (Init names) (never_init names) goes; says = ends };
      goes = goes;
    }

    pub went_act : (wanted : Wanted) (t : Status) (y : List ℕ) → GoesAction wanted k t y → GoesRequest account (Act wanted) k t y
    went_act wanted t y went = record {
      ends = record { link = link; outside = outside (Act wanted) (never_act wanted) went.goes; says = went.ends };
      goes = went.goes;
    }

    pub went_rows : (name : List ℕ) (t : Status) (y : List ℕ) → EndsRows name k t y → GoesBy (Rows name) k → GoesRequest account (Rows name) k t y
    went_rows name t y ends goes = record {
      ends = record { link = link; outside = outside (Rows name) (never_rows name) goes; says = ends };
      goes = goes;
    }

    pub went_queue : (t : Status) (y : List ℕ) → EndsShown queue_text k t y → GoesBy Queue k → GoesRequest account Queue k t y
    went_queue t y ends goes = record {
      ends = record { link = link; outside = outside Queue never_queue goes; says = ends };
      goes = goes;
    }

    pub went_report : (t : Status) (y : List ℕ) → EndsShown report_text k t y → GoesBy Report k → GoesRequest account Report k t y
    went_report t y ends goes = record {
      ends = record { link = link; outside = outside Report never_report goes; says = ends };
      goes = goes;
    }

-- an action that is asked for has as many flags, whatever its input is
pub few_with : (action : AskedAction) (given : List ℕ) → HasFewFlags (wanted_of action []) → HasFewFlags (wanted_of action given)
few_with (asked_action.Flag flags) given few = few
few_with (asked_action.Move move) given few = few
few_with (asked_action.Append append) given few = few

pub few_asked : (words : List (List ℕ)) (input : List ℕ) (wanted : Wanted) → AsksAction words input wanted → HasFewFlags wanted
few_asked words input (Flag change) asks = (asks.some, asks.few)
few_asked words input (Move transfer) asks = tt
few_asked words input (Append addition text) asks = asks.0.few

-- nothing was taken off an input that is as it was
pub nothing_taken : (rest : List ℕ) → TakesFront rest rest
nothing_taken rest = record { count = 0; most = omega arith; taken = refl }

-- an action that came to its end was accepted
done_action : {T : Type 0} (r : Result T Refusal) (P : Type 0) → CameThrough (status_of r) → OnOk r P → P
done_action (Ok x) P is came = came
done_action (Err refusals.Disk) P is came = absurd is
done_action (Err refusals.Memory) P is came = absurd is
done_action (Err refusals.Input) P is came = absurd is
done_action (Err refusals.Already) P is came = absurd is
done_action (Err (refusals.NotAJournal why)) P is came = absurd is
done_action (Err (refusals.Reason reason)) P is came = absurd is
done_action (Err refusals.Actions) P is came = absurd is
done_action (Err (refusals.Full end)) P is came = absurd is
done_action (Err refusals.Generation) P is came = absurd is

pub action_done : {T : Type 0} (r : Result T Refusal) (s : Status) (P : Type 0) → s ≡ status_of r → CameThrough s → OnOk r P → P
action_done r s P status_is is came = done_action r P (subst CameThrough status_is is) came

-- an input that failed is told by its status
input_refusal : {T : Type 0} (r : Result T Refusal) → status_of r ≡ status.Input → r ≡ Err refusals.Input
input_refusal (Ok x) is = absurd cc
input_refusal (Err refusals.Input) is = refl
input_refusal (Err refusals.Disk) is = absurd cc
input_refusal (Err refusals.Memory) is = absurd cc
input_refusal (Err refusals.Already) is = absurd cc
input_refusal (Err (refusals.NotAJournal why)) is = absurd cc
input_refusal (Err (refusals.Reason reason)) is = absurd cc
input_refusal (Err refusals.Actions) is = absurd cc
input_refusal (Err (refusals.Full end)) is = absurd cc
input_refusal (Err refusals.Generation) is = absurd cc

pub input_failed : {T : Type 0} (r : Result T Refusal) (s : Status) → s ≡ status_of r → s ≡ status.Input → r ≡ Err refusals.Input
input_failed r s status_is is = input_refusal r (sym status_is ∙ is)

-- words that ask for an append are taken for one, and others aren't
module _ (words : List (List ℕ)) where
  pub append_asks : (a : Asked) → ((input : List ℕ) → Asks words input (request_of a input)) → IsAppend a → AsksAppend words
  append_asks (asked.Init texts) asks append = absurd append
  append_asks (asked.Act (asked_action.Flag flags)) asks append = absurd append
  append_asks (asked.Act (asked_action.Move move)) asks append = absurd append
  append_asks (asked.Act (asked_action.Append addition)) asks append = record { addition = addition_of addition; asks = (asks []).0 }
  append_asks (asked.Rows name) asks append = absurd append
  append_asks asked.Queue asks append = absurd append
  append_asks asked.Report asks append = absurd append
  append_asks asked.Play asks append = absurd append

  as_append : (a : Asked) (wanted : Wanted) → request_of a [] ≡ Act wanted → (x : AsksAppend words) → wanted ≡ Append x.addition [] → IsAppend a
  as_append (asked.Init texts) wanted is x same = absurd cc
  as_append (asked.Act (asked_action.Flag flags)) wanted is x same = absurd (let other : wanted_of (asked_action.Flag flags) [] ≡ wanted = cc is in cc)
  as_append (asked.Act (asked_action.Move move)) wanted is x same = absurd (let other : wanted_of (asked_action.Move move) [] ≡ wanted = cc is in cc)
  as_append (asked.Act (asked_action.Append addition)) wanted is x same = tt
  as_append (asked.Rows name) wanted is x same = absurd cc
  as_append asked.Queue wanted is x same = absurd cc
  as_append asked.Report wanted is x same = absurd cc
  as_append asked.Play wanted is x same = absurd cc

  pub asks_append : (a : Asked) → ((input : List ℕ) → Asks words input (request_of a input)) → AsksAppend words → IsAppend a
  asks_append a asks x =
      as_append a (Append x.addition []) (one_request words [] (request_of a []) (Act (Append x.addition [])) (asks []) (x.asks, refl)) x refl

  -- and so it is with `play`
  pub play_asks : (a : Asked) → ((input : List ℕ) → Asks words input (request_of a input)) → IsPlay a → WritesPlay words
  play_asks (asked.Init texts) asks play = absurd play
  play_asks (asked.Act action) asks play = absurd play
  play_asks (asked.Rows name) asks play = absurd play
  play_asks asked.Queue asks play = absurd play
  play_asks asked.Report asks play = absurd play
  play_asks asked.Play asks play = asks []

  as_play : (a : Asked) → request_of a [] ≡ Play → IsPlay a
  as_play (asked.Init texts) is = absurd cc
  as_play (asked.Act action) is = absurd cc
  as_play (asked.Rows name) is = absurd cc
  as_play asked.Queue is = absurd cc
  as_play asked.Report is = absurd cc
  as_play asked.Play is = tt

  pub asks_play : (a : Asked) → ((input : List ℕ) → Asks words input (request_of a input)) → WritesPlay words → IsPlay a
  asks_play a asks writes = as_play a (one_request words [] (request_of a []) Play (asks []) writes)

  pub awaits_asked : (a : Asked) (seen : Files) → ((input : List ℕ) → Asks words input (request_of a input)) → AwaitsAsked a seen → AwaitsInput words seen
  awaits_asked (asked.Init texts) seen asks awaits = absurd awaits
  awaits_asked (asked.Act (asked_action.Flag flags)) seen asks awaits = absurd (let is = awaits.awaits.append in cc)
  awaits_asked (asked.Act (asked_action.Move move)) seen asks awaits = absurd (let is = awaits.awaits.append in cc)
  awaits_asked (asked.Act (asked_action.Append addition)) seen asks awaits = record {
    addition = addition_of addition;
    asks = (asks []).0;
    awaits = awaits;
  }
  awaits_asked (asked.Rows name) seen asks awaits = absurd awaits
  awaits_asked asked.Queue seen asks awaits = absurd awaits
  awaits_asked asked.Report seen asks awaits = absurd awaits
  awaits_asked asked.Play seen asks awaits = absurd awaits

  -- what the words and the source's rest ask for, they and the input ask for
  pub asks_given : (rest given : List ℕ) (wanted : Wanted) (tells : Type 0) → NeedsInput wanted tells → IsInput tells rest given →
      AsksAction words rest wanted → AsksAction words given wanted
  asks_given rest given (Flag change) tells needs is asks = asks
  asks_given rest given (Move transfer) tells needs is asks = asks
  asks_given rest given (Append addition text) tells needs is asks = (asks.0, asks.1 ∙ sym (is needs))

-- a book that awaits an input is that of the files
pub awaits_on : (P : Type 0) (wanted : Wanted) (files : Files) (b c : Meaning) → b ≡ c → HasBook mail c files → P ⊎ Awaits wanted b →
    P ⊎ AwaitsOn wanted files
awaits_on P wanted files b c same holds (inl unread) = inl unread
awaits_on P wanted files b c same holds (inr awaits) =
    inr (record { book = c; holds = holds; awaits = subst (λ (m : Meaning). Awaits wanted m) same awaits })
