-- Whatever turns follow, the book, the server and the player stay as they should, and what is needed may be done.
use Rattle.std.proofs.Common.{None, Option, Some, ap, false, refl, subst, sym, ℕ, ◌∙◌, ◌≡◌}
use Rattle.std.proofs.lemmas.Option.{same_Some}
use Rattle.action_queue.specs.Book.{Meaning, after}
use Rattle.action_queue.specs.declared.event.Event.{Event}
use Rattle.action_queue.specs.declared.queued.Queued.{Queued}
use Rattle.imap_model.proofs.Effect.{carried_effect}
use Rattle.imap_model.specs.Carrying.{Waiting}
use Rattle.imap_model.specs.Mutating.{is_mutating}
use Rattle.imap_model.specs.declared.command.Command.{Command}
use Rattle.imap_model.specs.declared.server.Server.{Server}
use Rattle.book_laws.proofs.Carrying.{carries_book}
use Rattle.book_laws.proofs.Entering.{book_keeps}
use Rattle.book_laws.proofs.Foreign.{others_keep}
use Rattle.book_laws.proofs.Keeping.{asked_quiet, quiet_keeps, sent}
use Rattle.playback.proofs.Onward.{IsIdle, asks_know, carried_knows, idle, others_know, says_know}
use Rattle.playback.proofs.Recording.{committed_beside, committed_knows}
use Rattle.playback.proofs.Allowing.{allowed_need}
use Rattle.playback.proofs.Lawfulness.{lawful_need}
use Rattle.playback.proofs.Taking.{heard_knows}
use Rattle.playback.proofs.Gathering.{chosen_knows}
use Rattle.playback.proofs.Resetting.{is_reset, reset_beside, reset_kept, reset_knows}
use Rattle.playback.proofs.Besides.{chosen_beside, heard_beside}
use Rattle.playback.proofs.Calls.{counts, covers, parts}
use Rattle.playback.specs.Allowed.{IsAllowed, MaySend, Records}
use Rattle.playback.specs.Games.{Game, IsGood, IsSafe, IsSafeNeed, Play, PlaysWell, Turn}
use Rattle.playback.specs.Games.{asks, carries, chooses, hears, others, records, resets, rests, sends, turns}
use Rattle.book_laws.specs.Kept.{KeptBook}
use Rattle.playback.specs.Knows.{IsNeeded, OfTag}
use Rattle.playback.specs.Needs.{IsLawfulNeed, due_id, need_of}
use Rattle.book_laws.specs.Of.{IsOf, tag_of}
use Rattle.playback.specs.Worlds.{World, name_of}
use Rattle.playback.specs.declared.finding.Selected.{Selected}
use Rattle.playback.specs.declared.need.Need.{Need}
use Rattle.playback.specs.declared.player.Player.{Player}
use Rattle.action_queue.specs.declared.event.Event.TheVariants as events
use Rattle.playback.specs.declared.need.Need.TheVariants as needs

-- a question may be asked at any time
harmless_sent : (b : Meaning) (s : Server) (waiting : Option Waiting) (c : Waiting) → is_mutating c.command ≡ false → KeptBook b s waiting →
    KeptBook b s (Some c)
harmless_sent b s waiting c harmless kept = quiet_keeps (Some b) s waiting (Some c) (asked_quiet c harmless) kept

-- the command that may be sent is the one that is needed
same_command : (n : ℕ) (command : Command) (p : Player) (b : Meaning) (w : World) (c : Waiting) → w.selected ≡ p.selected →
    OfTag n command c p.selected b → (m : MaySend n command b w) → m.sends ≡ c
same_command n command p b w c same o m =
    let queued : m.of_tag.queued ≡ o.queued = same_Some m.of_tag.queued o.queued (sym m.of_tag.there ∙ o.there) in
    m.of_tag.is
    ∙ ap (λ (q : Queued). record { selected = name_of w.selected; tag = tag_of (due_id b) q; command = command }) queued
    ∙ ap (λ (x : Option Selected). record { selected = name_of x; tag = tag_of (due_id b) o.queued; command = command }) same
    ∙ sym o.is

sends_by : (p : Player) (b : Meaning) (w : World) (c : Waiting) (need : Need) → KeptBook b w.course.now w.waiting → IsIdle p b w →
    IsAllowed need p b w → IsNeeded need c p.selected b → KeptBook b w.course.now (Some c)
sends_by p b w c (needs.Select name) kept i ok n = harmless_sent b w.course.now w.waiting c (ap is_mutating n.is) kept
sends_by p b w c (needs.Ask command) kept i ok n = harmless_sent b w.course.now w.waiting c (ap is_mutating n.is ∙ n.harmless) kept
sends_by p b w c (needs.Commit event) kept i ok n = absurd n
sends_by p b w c (needs.Settle id outcome) kept i ok n = absurd n
sends_by p b w c (needs.Withdraw id tries) kept i ok n = absurd n
sends_by p b w c (needs.Send id command) kept i ok n =
    sent b w.course.now w.waiting c kept
    (subst (λ (x : Waiting). IsOf b w.course.now x) (same_command id command p b w c i.resting.selected n ok) ok.is_of)
sends_by p b w c needs.Finished kept i ok n = absurd n

-- what is needed may come next and is permitted, so the book behind it is kept
records_keep : (p : Player) (b : Meaning) (w : World) (event : Event) (need : Need) → KeptBook b w.course.now w.waiting →
    IsLawfulNeed need p b → IsAllowed need p b w → Records need event → KeptBook (after b event) w.course.now w.waiting
records_keep p b w event (needs.Select name) kept lawful ok is = absurd is
records_keep p b w event (needs.Ask command) kept lawful ok is = absurd is
records_keep p b w event (needs.Commit other) kept lawful ok is =
    subst (λ (x : Event). KeptBook (after b x) w.course.now w.waiting) (sym is)
    (book_keeps (Some b) other w.course.now w.waiting kept lawful.lawful ok.0)
records_keep p b w event (needs.Settle n outcome) kept lawful ok is =
    subst (λ (x : Event). KeptBook (after b x) w.course.now w.waiting) (sym is)
    (book_keeps (Some b) (events.Settle n outcome) w.course.now w.waiting kept lawful.lawful ok.0)
records_keep p b w event (needs.Withdraw n tries) kept lawful ok is =
    subst (λ (x : Event). KeptBook (after b x) w.course.now w.waiting) (sym is)
    (book_keeps (Some b) (events.Withdraw n tries) w.course.now w.waiting kept lawful.lawful ok.0)
records_keep p b w event (needs.Send n command) kept lawful ok is = absurd is
records_keep p b w event needs.Finished kept lawful ok is = absurd is

safe_need : (x : Game) → IsGood x → IsSafeNeed x
safe_need x good owed =
    (lawful_need parts x.player x.book good.kept.sound good.beside, allowed_need x.player x.book x.world good.kept owed good.knows)

safe_now : (x : Game) → IsGood x → IsSafe x
safe_now x good = (safe_need x good, λ name kept told may. is_reset x.player x.book x.world name kept told may good.kept good.knows)

turn_keeps : (x y : Game) → Turn x y → IsGood x → IsGood y
turn_keeps x y (others t act) good = record {
  kept = others_keep x.book x.world.course.now t x.world.waiting good.kept act.changes act.spares act.settled;
  beside = good.beside;
  knows = others_know x.player x.book x.world t good.kept act.changes act.spares act.stays act.settled good.knows;
}
turn_keeps x y (sends c owed needed) good = record {
  kept =
      sends_by x.player x.book x.world c (need_of x.player x.book) good.kept (idle x.player x.book x.world owed good.knows)
      (allowed_need x.player x.book x.world good.kept owed good.knows) needed;
  beside = good.beside;
  knows = says_know x.player x.book x.world c good.kept owed needed good.knows;
}
turn_keeps x y (asks c may) good = record {
  kept = harmless_sent x.book x.world.course.now x.world.waiting c (ap is_mutating may.asks) good.kept;
  beside = good.beside;
  knows = asks_know x.player x.book x.world c may good.knows;
}
turn_keeps x y (carries c r t end waits carried) good =
    let now : KeptBook x.book x.world.course.now (Some c) =
    subst (λ (o : Option Waiting). KeptBook x.book x.world.course.now o) waits good.kept in
    let later : KeptBook x.book t None =
    carries_book (Some x.book) x.world.course.now t c now (carried_effect c x.world.course.now r t end carried) in
    record {
      kept = later;
      beside = good.beside;
      knows = carried_knows x.player x.book x.world c r t end waits carried now later good.knows;
    }
turn_keeps x y (hears r permits p is fair heard) good = record {
  kept = good.kept;
  beside = heard_beside x.player x.book permits r p heard good.kept.sound good.beside;
  knows = heard_knows covers counts x.player p x.book x.world permits r good.kept is fair heard good.knows;
}
turn_keeps x y (chooses delta p fits is chosen) good = record {
  kept = good.kept;
  beside = chosen_beside x.player x.book delta p fits chosen good.kept.sound good.beside;
  knows = chosen_knows x.player p x.book x.world delta good.kept is chosen good.knows;
}
turn_keeps x y (records event owed is) good =
    let safe : IsLawfulNeed (need_of x.player x.book) x.player x.book × IsAllowed (need_of x.player x.book) x.player x.book x.world =
    safe_need x good owed in
    let later : KeptBook (after x.book event) x.world.course.now x.world.waiting =
    records_keep x.player x.book x.world event (need_of x.player x.book) good.kept safe.0 safe.1 is in
    record {
      kept = later;
      beside = committed_beside x.player x.book (after x.book event) event refl is good.beside;
      knows = committed_knows x.player x.book (after x.book event) x.world event refl is good.kept later owed good.knows;
    }
turn_keeps x y (resets name kept told may) good = record {
  kept = reset_kept x.player x.book x.world name kept told may good.kept good.knows;
  beside = reset_beside x.player x.book x.world name kept told may good.kept good.knows good.beside;
  knows = reset_knows x.player x.book x.world name kept told may good.kept good.knows;
}

play_keeps : (x y : Game) → Play x y → IsGood x → IsGood y
play_keeps x y rests good = good
play_keeps x y (turns {y = m} {z = z} one more) good = play_keeps m z more (turn_keeps x m one good)

pub plays_well : PlaysWell
plays_well = record { keeps = play_keeps; safe = λ x y play good. safe_now y (play_keeps x y play good) }
