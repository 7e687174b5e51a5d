-- How a drill ends whose actions are all played.
use Rattle.std.proofs.Common.{◌≡◌, ◌⊎◌, inl, inr, ℕ, suc, ◌+◌, ◌*◌, true, false, List, [], length, Option, Some, refl, sym, ◌∙◌, ap, subst}
use Rattle.std.specs.Prelude.{slice_get}
use Rattle.std.proofs.lemmas.Bool.{and_parts}
use Rattle.std.proofs.lemmas.List.{length-map}
use Rattle.std.proofs.lemmas.Option.{same_Some}
use Rattle.imap_model.specs.Ours.{ours}
use Rattle.imap_model.specs.declared.server.Server.{Server}
use Rattle.action_queue.specs.Book.{Meaning}
use Rattle.action_queue.specs.declared.action.Action.{Action}
use Rattle.action_queue.specs.declared.queued.Queued.{Queued}
use Rattle.mail_base.specs.declared.status.Status.{Status}
use Rattle.mail_base.specs.declared.status.Status.TheVariants as status
use Rattle.play_driver.specs.Progress.{actions_of}
use Rattle.book_laws.specs.Once.{AllOwned}
use Rattle.mail_top.specs.Headline.{IsOnceOrReported}
use Rattle.store_core.specs.Mail.{mail}
use Rattle.store_core.specs.Steps.{Firm}
use Rattle.store_core.specs.Taking.{HasBooks}
use Rattle.world_mem.specs.Worlds.{course_of, run_in}
use Rattle.world_mem.specs.declared.mem_world.MemWorld.{MemWorld}
use Rattle.mail_drill.specs.Accepted.{accepted}
use Rattle.mail_drill.specs.Alone.{are_own, is_own_at}
use Rattle.mail_drill.specs.Counted.{missing_in, settled_in, twice_in}
use Rattle.mail_drill.specs.Came.{history_of}
use Rattle.mail_drill.specs.Drilled.{EndsBy, IsDrilled}
use Rattle.mail_drill.specs.Held.{CameToItsEnd, Gives, PassesLimit, WasHeld}
use Rattle.mail_drill.specs.Held.PassesLimit.{in_a_round}
use Rattle.mail_drill.specs.Orders.{orders_of}
use Rattle.mail_drill.specs.Rounds.{EndsIn, RoundsEnd}
use Rattle.mail_drill.specs.Standing.{HasAsked, IsPlayedOut, now_of}
use Rattle.mail_drill.specs.Texts.{Counts, line_of}
use Rattle.mail_drill.specs.declared.quiet_world.QuietWorld.{QuietWorld}
use Rattle.mail_drill.specs.declared.rounds.Ended.{Ended}
use Rattle.mail_drill.specs.declared.rounds.Ended.TheVariants as ended
use Rattle.mail_drill.specs.declared.tally.Counts.{Counts as Tally}
use Rattle.mail_drill.specs.declared.tally.Given.{Given}
use Rattle.mail_drill.specs.declared.task.Task.{Task}
use Rattle.mail_drill.proofs.Counts.{all_settled}
use Rattle.mail_drill.proofs.Courses.{alone_in}
use Rattle.mail_drill.proofs.PlayedOut.{none_missing, none_twice}

-- the server of the moment now is the server that the world has
server_now : (world : MemWorld) → (run_in world).clock.now.outside.server ≡ (run_in world).state.server
server_now world = (course_of world).stands.server_fits

-- where memory sufficed, nobody else changed anything at the server
pub own_history : (w : QuietWorld) → w.short ≡ false → are_own (history_of w.world) ≡ true
own_history w sufficed =
    subst (λ (s : Server). are_own s.history ≡ true) (server_now w.world) (and_parts (is_own_at (now_of w)) _ (alone_in w sufficed)).0

-- these are the counts of a book's actions in a world
pub record AreCounted (book : Meaning) (world : MemWorld) (c : Counts) : Type 0 where
  pub settled : c.settled ≡ settled_in book.queue
  pub twice : c.twice ≡ twice_in book.queue (history_of world)
  pub missing : c.missing ≡ missing_in book.queue (history_of world)

-- so they are of the book that each stop leaves, whatever it is
abbrev pub CountsBook : QuietWorld → Tally → Type 0
CountsBook seen k = (book : Meaning) → HasBooks mail (Firm (Some book)) (now_of seen) → (k.settled ≡ settled_in book.queue)
    × (k.twice ≡ twice_in book.queue (run_in seen.world).state.server.history)
    × (k.missing ≡ missing_in book.queue (run_in seen.world).state.server.history)

-- so it is told of the counts, if there are some
abbrev pub CountsTold : QuietWorld → Option Tally → Type 0
CountsTold seen told = (book : Meaning) → HasBooks mail (Firm (Some book)) (now_of seen) → (k : Tally) × (told ≡ Some k)
    × (k.settled ≡ settled_in book.queue) × (k.twice ≡ twice_in book.queue (run_in seen.world).state.server.history)
    × (k.missing ≡ missing_in book.queue (run_in seen.world).state.server.history)

pub counts_told : (seen : QuietWorld) (told : Option Tally) (k : Tally) → told ≡ Some k → CountsTold seen told → CountsBook seen k
counts_told seen told k is sums book has =
    let s = sums book has in
    subst (λ (x : Tally). (x.settled ≡ settled_in book.queue) × (x.twice ≡ twice_in book.queue (run_in seen.world).state.server.history)
    × (x.missing ≡ missing_in book.queue (run_in seen.world).state.server.history)) (same_Some s.0 k (sym s.1 ∙ is)) (s.2, s.3, s.4)

-- where all is played there are some
pub always_counted : (b : Meaning) (seen w : QuietWorld) (e : Ended) (told : Option Tally) → seen ≡ w → e ≡ ended.Played → EndsIn b e w →
    CountsTold seen told → ((k : Tally) → told ≡ Some k → ⊥) → ⊥
always_counted b seen w e told same is ends sums never =
    let out : IsPlayedOut b w = subst (λ (y : Ended). EndsIn b y w) is ends in
    let here : CountsTold w told = subst (λ (x : QuietWorld). CountsTold x told) same sums in
    let s = here out.book out.leaves in never s.0 s.1

-- what was given, and what was counted
abbrev pub counts_as : Given → Tally → Counts
counts_as g k = record { accepted = g.accepted; refused = g.refused; settled = k.settled; twice = k.twice; missing = k.missing }

same_length : (b c : Meaning) → actions_of c ≡ actions_of b → length b.queue ≡ length c.queue
same_length b c same =
    sym (length-map b.queue (λ (q : Queued). q.action))
    ∙ sym (ap (λ (l : List Action). length l) same)
    ∙ length-map c.queue (λ (q : Queued). q.action)

module _ (task : Task) (b : Meaning) (w : QuietWorld) (asked : HasAsked (accepted [] (orders_of task)) b) where
  -- where all was played, the line of the counts tells what became of the actions
  pub drilled : (c : Counts) (text : List ℕ) (last : Status) (told : List ℕ) → WasHeld task.size task.seed w.world last told → CameToItsEnd last →
      (out : IsPlayedOut b w) → AreCounted out.book w.world c → c.accepted ≡ length b.queue → c.accepted + c.refused ≡ 2 * task.size →
      text ≡ line_of c → IsDrilled task w.world text
  drilled c text last told held done out counted count all text_is =
      let accepted_is : c.accepted ≡ length out.book.queue = count ∙ same_length b out.book out.later.actions in
      let fits : (place : ℕ) (queued : Queued) → slice_get out.book.queue place ≡ Some queued →
      IsOnceOrReported queued (ours (suc place) (history_of w.world)) =
      subst (λ (s : Server). (place : ℕ) (queued : Queued) → slice_get out.book.queue place ≡ Some queued →
      IsOnceOrReported queued (ours (suc place) s.history)) (server_now w.world) out.each in
      record {
        last = last;
        told = told;
        held = held;
        ended = done;
        book = out.book;
        holds = out.holds;
        leaves = out.leaves;
        asked = out.later.actions ∙ asked.asked;
        alone = own_history w out.sufficed;
        owned = subst (λ (s : Server). AllOwned out.book.queue s.history) (server_now w.world) out.owned;
        each = fits;
        counts = c;
        text_is = text_is;
        settled_is = counted.settled;
        twice_is = counted.twice;
        missing_is = counted.missing;
        accepted_is = accepted_is;
        all = all;
        settled = counted.settled ∙ all_settled out.book.queue out.settled ∙ sym accepted_is;
        once = counted.twice ∙ none_twice out.book.queue (history_of w.world) fits;
        none_missing = counted.missing ∙ none_missing out.book.queue (history_of w.world) fits;
      }

  -- so it is where the rounds ended, and what is counted in the world is of its book
  pub all_played : (first : MemWorld) (x : ℕ) (seen : QuietWorld) (e : Ended) (g : Given) (k : Tally) (text : List ℕ) → seen ≡ w → e ≡ ended.Played →
      EndsIn b e w → RoundsEnd first x e w.world → Gives task.size task.seed (2 * task.size + 1) x first → CountsBook seen k →
      text ≡ line_of (counts_as g k) → g.accepted ≡ length b.queue → g.accepted + g.refused ≡ 2 * task.size → IsDrilled task w.world text
  all_played first x seen e g k text same is ends rounds gives counts text_is count all =
      let out : IsPlayedOut b w = subst (λ (y : Ended). EndsIn b y w) is ends in
      let last : RoundsEnd first x ended.Played w.world = subst (λ (y : Ended). RoundsEnd first x y w.world) is rounds in
      let sums : CountsBook w k = subst (λ (y : QuietWorld). CountsBook y k) same counts in
      let three = sums out.book out.leaves in
      drilled (counts_as g k) text last.0 last.1 (record { first = first; x = x; gives = gives; plays = last.3 }) last.2 out
      (record { settled = three.0; twice = three.1; missing = three.2 }) count all text_is

-- where a limit was passed in a round, the line is its line
pub limit_passed : (task : Task) (first w : MemWorld) (x : ℕ) (e : Ended) (line : List ℕ) → e ≡ ended.Limit line → RoundsEnd first x e w →
    Gives task.size task.seed (2 * task.size + 1) x first → PassesLimit task.size task.seed w line
limit_passed task first w x e line is rounds gives =
    in_a_round (record { first = first; x = x; gives = gives; plays = subst (λ (y : Ended). RoundsEnd first x y w) is rounds })

-- it ends with one of two statuses
pub ends_as : (task : Task) (s : Status) (world : MemWorld) (text : List ℕ) → EndsBy task s world text → (s ≡ status.Done) ⊎ (s ≡ status.Limit)
ends_as task status.Done world text ends = inl refl
ends_as task status.Limit world text ends = inr refl
ends_as task status.Conflicts world text ends = absurd ends
ends_as task status.Words world text ends = absurd ends
ends_as task status.Disk world text ends = absurd ends
ends_as task status.Link world text ends = absurd ends
ends_as task status.Refused world text ends = absurd ends
ends_as task status.Reply world text ends = absurd ends
ends_as task status.Lacking world text ends = absurd ends
ends_as task status.Validity world text ends = absurd ends
ends_as task status.Journal world text ends = absurd ends
ends_as task status.Reason world text ends = absurd ends
ends_as task status.Memory world text ends = absurd ends
ends_as task status.Output world text ends = absurd ends
ends_as task status.Input world text ends = absurd ends
ends_as task status.Shelf world text ends = absurd ends

-- at 0 the line is so, and at 14 a limit was passed
pub ends_done : (task : Task) (s : Status) (world : MemWorld) (text : List ℕ) → s ≡ status.Done → EndsBy task s world text → IsDrilled task world text
ends_done task s world text is ends = subst (λ (x : Status). EndsBy task x world text) is ends

pub ends_limit : (task : Task) (s : Status) (world : MemWorld) (text : List ℕ) → s ≡ status.Limit → EndsBy task s world text →
    PassesLimit task.size task.seed world text
ends_limit task s world text is ends = subst (λ (x : Status). EndsBy task x world text) is ends
