-- How a run hands on what its command gives: of the book beside the server, of causes, and of the input.
use Rattle.std.proofs.Common.{◌≡◌, inl, inr, ⊎_elim, ℕ, ◌≤◌, List, Result, Ok, Err, refl, sym, ◌∙◌, ap, subst, arith}
use Rattle.mail_base.specs.Account.{Credentials}
use Rattle.mail_base.specs.declared.status.Status.{Status}
use Rattle.mail_base.specs.declared.status.Status.TheVariants as status
use Rattle.world_traits.specs.Calls.{Rose}
use Rattle.world_traits.specs.Files.{Files}
use Rattle.world_traits.specs.LinkState.{LinkState}
use Rattle.world_traits.specs.Moments.{Moment, Within}
use Rattle.world_traits.specs.declared.clocked.Clocked.{Ghosts}
use Rattle.world_traits.specs.declared.streams.Source.{Ghosts as SourceGhosts}
use Rattle.mail_top.specs.AnyServer.{IsWhole, StaysWhole}
use Rattle.mail_top.specs.BesideServer.{BesideServer}
use Rattle.mail_top.specs.Causing.{HasCauses}
use Rattle.mail_top.specs.CompletePlay.{IsTheServers}
use Rattle.mail_top.specs.Completing.{Completes}
use Rattle.mail_top.specs.Course.{Course, course_of}
use Rattle.mail_top.specs.Ending.{Ends}
use Rattle.mail_top.specs.Going.{GoesBy}
use Rattle.mail_top.specs.Leaving.{MayBeLeft}
use Rattle.mail_top.specs.Played.{CameThrough}
use Rattle.mail_top.specs.Reading.{IsInput}
use Rattle.mail_top.specs.ReadsInput.{ReadsInput}
use Rattle.mail_top.specs.Showing.{OnlyReads}
use Rattle.mail_top.specs.Telling.{status_of, TellsNoPlace}
use Rattle.mail_top.specs.Words.{Request, Queue, Play, AsksNothing}
use Rattle.mail_top.specs.declared.refusal.Refusal.{Refusal}
use Rattle.mail_top.specs.declared.refusal.Refusal.TheVariants as refusals
use Rattle.mail_top.proofs.AnyServers.{none_sent, reads_whole}
use Rattle.mail_top.proofs.Connections.{none_once, request_alone}
use Rattle.mail_top.proofs.Endings.{completes_act, completes_init, completes_rows, completes_queue, completes_report}
use Rattle.mail_top.proofs.Goings.{asks_given, nothing_taken}
use Rattle.mail_top.proofs.Headlines.{request_once}
use Rattle.mail_top.proofs.Joinings.{HasRecords, queue_records, request_joins}
use Rattle.mail_top.proofs.Moving.{chooses_steps, keeps_steps}
use Rattle.mail_top.proofs.Sayings.{never_queue, no_link}

-- a request that only reads goes so
pub reads_go : (request : Request) (k : Course) → ((m : Moment) → Within k.old.now m → MayBeLeft request k.old.now k.seen m) →
    OnlyReads k.old k.new → GoesBy request k
reads_go request k left reads = record {
  keeps = keeps_steps request (Within k.old.now) (MayBeLeft request k.old.now k.seen) left k.old k.new reads.keeps;
  books = λ one books have. chooses_steps request k.old k.new (reads.books one books have);
}

-- the request isn't `play`, and so it goes
pub record GoesApart (k : Course) : Type 0 where
  pub request : Request
  pub never : request ≡ Play → ⊥
  pub records : HasRecords request
  pub goes : GoesBy request k
  pub whole : IsWhole k.old.now → StaysWhole k.old k.new

-- so it is with one that only reads, whichever it is
pub reads_apart : (k : Course) → OnlyReads k.old k.new → GoesApart k
reads_apart k reads = record {
  request = Queue;
  never = never_queue;
  records = queue_records;
  goes = reads_go Queue k (λ m w. w) reads;
  whole = λ was. reads_whole k.seen k.old k.new was reads;
}

-- what such a request gives of the book beside the server
module _ {Self : Type 0} (W : Ghosts Self) (files : W.tells_server → W.tells_files) (seen : Self → Files) (old new : Self) where
  pub apart : (IsPlay : Type 0) (s : Status) (text : List ℕ) → (W.tells_files → GoesApart (course_of W seen old new)) → W.link new ≡ W.link old →
      (IsPlay → ⊥) → (s ≡ status.Reply → ⊥) → BesideServer W seen IsPlay old new s text
  apart IsPlay s text goes link other no_reply = record {
    joined = λ e.
        let went = goes (files e.tells) in
        request_joins went.request went.never went.records (W.clock old) (W.clock new) e.kept (went.goes.books e.one_side e.books e.have);
    twice = λ tells kept.
        let went = goes (files tells) in
        request_once went.request went.never (MayBeLeft went.request (W.clock old).now (seen old)) (W.clock old) (W.clock new) kept went.goes.keeps;
    kept = λ play f. absurd (other play);
    truly = λ play f. absurd (other play);
    surely = λ play sound f. absurd (other play);
    synced = λ play came f. absurd (other play);
    serves = λ play f serving none bad. other play;
    faultless = λ f is. no_reply is;
    honest = λ tells is. absurd (no_reply is);
    connects = record {
      at_first = λ tells.
          let went = goes (files tells) in
          request_alone went.request went.never (MayBeLeft went.request (W.clock old).now (seen old)) (W.clock old) (W.clock new) went.goes.keeps;
      once = λ tells. none_once (W.link old) (W.link new) link;
    };
    any_server = λ tells. record { whole = (goes tells).whole; once = none_sent (W.link old) (W.link new) link };
  }

-- under another name for the premise, the status and the text
pub handed : {Self : Type 0} (W : Ghosts Self) (seen : Self → Files) (old new : Self) (P Q : Type 0) (s t : Status) (x y : List ℕ) → (Q → P) →
    s ≡ t → x ≡ y → BesideServer W seen P old new t y → BesideServer W seen Q old new s x
handed W seen old new P Q s t x y of same text_is b = record {
  joined = b.joined;
  twice = b.twice;
  kept = λ play f. b.kept (of play) f;
  truly = λ play f. b.truly (of play) f;
  surely = λ play other f. b.surely (of play) (λ is. other (same ∙ is)) f;
  synced = λ play came f. b.synced (of play) (subst CameThrough same came) f;
  serves = λ play f serving none bad. b.serves (of play) f serving none (subst IsTheServers same bad);
  faultless = λ f is. b.faultless f (sym same ∙ is);
  honest = λ tells is. subst TellsNoPlace (sym text_is) (b.honest tells (sym same ∙ is));
  connects = b.connects;
  any_server = b.any_server;
}

-- a disk that failed is told by its status
disk_refusal : {T : Type 0} (r : Result T Refusal) → status_of r ≡ status.Disk → r ≡ Err refusals.Disk
disk_refusal (Ok x) is = absurd cc
disk_refusal (Err refusals.Disk) is = refl
disk_refusal (Err refusals.Memory) is = absurd cc
disk_refusal (Err refusals.Input) is = absurd cc
disk_refusal (Err refusals.Already) is = absurd cc
disk_refusal (Err (refusals.NotAJournal why)) is = absurd cc
disk_refusal (Err (refusals.Reason reason)) is = absurd cc
disk_refusal (Err refusals.Actions) is = absurd cc
disk_refusal (Err (refusals.Full end)) is = absurd cc
disk_refusal (Err refusals.Generation) is = absurd cc

-- a link that stayed has as many faults
pub same_count : (k l : LinkState) → l ≡ k → k.faults ≤ l.faults
same_count k l same = let count : l.faults ≡ k.faults = ap (λ (s : LinkState). s.faults) same in omega (arith, count)

-- the causes of a command that works with the files alone
pub refused_causes : {Self T : Type 0} (W : Ghosts Self) (old new : Self) (r : Result T Refusal) (s : Status) → s ≡ status_of r →
    (r ≡ Err refusals.Disk → Rose (W.disk_faults old) (W.disk_faults new)) → ((r ≡ Err refusals.Disk → ⊥) → W.disk_faults new ≡ W.disk_faults old) →
    W.disk_faults old ≤ W.disk_faults new → W.link new ≡ W.link old → HasCauses W old new s
refused_causes W old new r s status_is cause unfailed count link = record {
  disk = λ is. cause (disk_refusal r (sym status_is ∙ is));
  link_fault = λ is. absurd (no_link r s status_is is);
  count = count;
  link_count = same_count (W.link old) (W.link new) link;
  disk_unfailed = λ other. unfailed (λ is. other (status_is ∙ ap status_of is));
  link_unfailed = λ other. ap (λ (l : LinkState). l.faults) link;
}

-- under another name for the status
pub causes_as : {Self : Type 0} (W : Ghosts Self) (old new : Self) (s t : Status) → s ≡ t → HasCauses W old new t → HasCauses W old new s
causes_as W old new s t same causes = subst (λ (u : Status). HasCauses W old new u) (sym same) causes

-- the input isn't read
pub input_unread : {Self : Type 0} (I : SourceGhosts Self) (IsAppend TellsFiles Awaits : Type 0) (input : Self) (s : Status) → (IsAppend → ⊥) →
    (s ≡ status.Input → ⊥) → ReadsInput I IsAppend TellsFiles Awaits input input s
input_unread I IsAppend TellsFiles Awaits input s other unfailed = record {
  unread = λ never. refl;
  read = λ tells. inl refl;
  taken = λ tells. nothing_taken (I.rest input);
  whole = λ tells append came. absurd (other append);
  out = λ tells no_input no_memory. inl refl;
  input_fault = λ is. absurd (unfailed is);
  source_count = omega arith;
}

-- under other names for the premises
pub reads_as : {Self : Type 0} (I : SourceGhosts Self) (P Q TellsFiles Awaits Waits : Type 0) (old new : Self) (s : Status) → (P → Q) → (Q → P) →
    (Awaits → Waits) → ReadsInput I P TellsFiles Awaits old new s → ReadsInput I Q TellsFiles Waits old new s
reads_as I P Q TellsFiles Awaits Waits old new s to of waits reads = record {
  unread = λ never. reads.unread (λ append. never (to append));
  read = λ tells. ⊎_elim (λ same. inl same) (λ awaits. inr (waits awaits)) (reads.read tells);
  taken = reads.taken;
  whole = λ tells append came. reads.whole tells (of append) came;
  out = reads.out;
  input_fault = reads.input_fault;
  source_count = reads.source_count;
}

-- a run whose words ask for nothing blames neither the input nor a reply
pub words_not_input : (s : Status) → s ≡ status.Words → s ≡ status.Input → ⊥
words_not_input s words is = let same : status.Words ≡ status.Input = sym words ∙ is in cc same

pub words_not_reply : (s : Status) → s ≡ status.Words → s ≡ status.Reply → ⊥
words_not_reply s words is = let same : status.Words ≡ status.Reply = sym words ∙ is in cc same

-- what nothing prevents is done
pub completes : (account : Credentials) (words : List (List ℕ)) (rest given : List ℕ) (ShowsInput NoReadFails : Type 0) (k : Course) (r : Status)
    (text : List ℕ) → Ends account words given k r text → (r ≡ status.Words → AsksNothing words) → (r ≡ status.Disk → ⊥) → (r ≡ status.Output → ⊥) →
    (NoReadFails → r ≡ status.Input → ⊥) → IsInput ShowsInput rest given → Completes words rest ShowsInput NoReadFails k.seen r
completes account words rest given ShowsInput NoReadFails k r text ends cause no_disk no_output reads is = record {
  complete_action = λ wanted asks needs takable unfailed.
      completes_act account words given k r text ends cause no_disk no_output wanted (asks_given words rest given wanted ShowsInput needs is asks) takable
      (reads unfailed);
  complete_init = λ names asks unbegun. completes_init account words given k r text ends cause no_disk no_output names asks unbegun;
  complete_list = λ name asks listable. completes_rows account words given k r text ends cause no_disk no_output name asks listable;
  complete_queue = λ asks set_up. completes_queue account words given k r text ends cause no_disk no_output asks set_up;
  complete_report = λ asks set_up. completes_report account words given k r text ends cause no_disk no_output asks set_up;
}
