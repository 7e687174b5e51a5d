-- A connection in which a flag action has three tries: before each of the first two STOREs others touch the message, so that the STORE
-- has no effect and its try is taken back; the third one is carried out (RFC 7162, section 3.1.3).
use Rattle.imap_model.specs.CarriedOut.{only}
use Rattle.imap_model.specs.Carrying.{Waiting}
use Rattle.imap_model.specs.Changes.{deed_of}
use Rattle.imap_model.specs.Ours.{ours}
use Rattle.imap_model.specs.declared.deed.Author.TheVariants.{Other, Ours}
use Rattle.imap_model.specs.declared.deed.Change.{Change}
use Rattle.imap_model.specs.declared.deed.Change.TheVariants as changes
use Rattle.imap_model.specs.declared.deed.Deed.{Deed}
use Rattle.imap_model.specs.declared.replies.Replies.{Replies}
use Rattle.imap_model.specs.declared.server.Server.{Server}
use Rattle.action_queue.specs.Queues.{AllSettled, accepted, settled}
use Rattle.action_queue.specs.declared.intent.Intent.{Intent}
use Rattle.mail_base.specs.declared.tag.Tag.{Tag}
use Rattle.mail_base.specs.declared.tag.Tag.TheVariants.{Again, Count}
use Rattle.book_laws.specs.Example.{asked, box_name, box_with, flag, sent_out}
use Rattle.playback.specs.Games.{Game, IsGood, Play}
use Rattle.playback.specs.PlaysThrough.{carries_to, game_meant, game_one, hears_to, moves_to, records_to, row_told, sends_to, tells}
use Rattle.playback.specs.declared.finding.Finding.{Finding}
use Rattle.std.specs.Prelude.{List, None, Some, [], length, true, false, ℕ, ◌++◌, ◌∷◌, ◌≡◌}
use Rattle.std.specs.declared.alloc.Global.{Global}
use Rattle.imap_model.specs.declared.code.Code.TheVariants as codings
use Rattle.imap_model.specs.declared.command.Command.TheVariants as commands
use Rattle.imap_model.specs.declared.ending.Ending.TheVariants as endings
use Rattle.action_queue.specs.declared.event.Event.TheVariants as events
use Rattle.playback.specs.declared.finding.Finding.TheVariants as findings
use Rattle.action_queue.specs.declared.intent.Intent.TheVariants as intents
use Rattle.action_queue.specs.declared.outcome.Kind.TheVariants as kinds
use Rattle.action_queue.specs.declared.outcome.Outcome.TheVariants as outcomes

-- others set the message's flags to none, as they are
abbrev pub touches : Change
touches = changes.SetFlags 1 []

abbrev pub touched : ℕ → List Deed → Server
touched modseq history = record {
  boxes = box_with [] modseq ∷ [];
  history = history ++ deed_of Other box_name touches (box_with [] modseq ∷ []) ∷ [];
}

-- the server before the first STORE, before the second one, and behind the third one
abbrev pub server_first : Server
server_first = touched 11 []

abbrev pub server_second : Server
server_second = touched 12 server_first.history

abbrev pub server_third : Server
server_third = record {
  boxes = box_with (flag ∷ []) 13 ∷ [];
  history =
      server_second.history
      ++ record { author = Ours (Again 1 3); name = box_name; validity = 5; received = 5; change = changes.SetFlags 1 (flag ∷ []) } ∷ [];
}

-- the STORE of a try, and the FETCH of the message's row behind the try before it
abbrev pub stores_by : Tag → ℕ → Waiting
stores_by tag mark = record { selected = Some box_name; tag = tag; command = commands.Store 1 mark true (flag ∷ []) }

abbrev pub asks_again : ℕ → Waiting
asks_again count = record { selected = Some box_name; tag = Count count; command = commands.FetchRow 1 }

-- the intent of a try
abbrev pub meant_at : ℕ → Intent
meant_at mark = intents.Store box_name 5 1 mark

-- the STORE had no effect, and what is found out by that
abbrev pub late_told : Replies
late_told = record { untagged = []; ending = endings.Ok; code = codings.Modified (only 1) }

abbrev pub late : ℕ → Finding
late mark = findings.Ended (outcomes.Conflict (kinds.FlagsChanged mark))

-- the reply to a FETCH of the row
abbrev pub row_again : ℕ → Replies
row_again modseq = tells (row_told [] modseq ∷ [])

-- the reply to the last STORE
abbrev pub third_told : Replies
third_told = tells (row_told (flag ∷ []) 13 ∷ [])

-- others touch the message, the STORE has no effect, and its try is taken back
abbrev pub misses_to : Waiting → ℕ → ℕ → Server → Game → Game
misses_to c mark tries t x = records_to (events.Withdraw 1 tries) (hears_to (late mark) (carries_to c late_told t (sends_to c (moves_to t x))))

-- the row is asked for, and the next intent is recorded
abbrev pub means_to : Waiting → ℕ → Server → Game → Game
means_to c mark t x =
    records_to (events.Intend 1 (meant_at mark)) (hears_to (findings.Row mark false) (carries_to c (row_again mark) t (sends_to c x)))

-- the first try is taken back, and the second one is intended
abbrev pub game_missed : Global → Game
game_missed alloc = misses_to sent_out 10 1 server_first (game_meant alloc)

abbrev pub game_second : Global → Game
game_second alloc = means_to (asks_again 4) 11 server_first (game_missed alloc)

-- the same of the second and the third one
abbrev pub game_missed_twice : Global → Game
game_missed_twice alloc = misses_to (stores_by (Again 1 2) 11) 11 2 server_second (game_second alloc)

abbrev pub game_third : Global → Game
game_third alloc = means_to (asks_again 5) 12 server_second (game_missed_twice alloc)

-- the third STORE is carried out, and the outcome is recorded
abbrev pub game_thrice : Global → Game
game_thrice alloc =
    records_to (events.Settle 1 (outcomes.Done None))
    (hears_to (findings.Ended (outcomes.Done None))
    (carries_to (stores_by (Again 1 3) 12) third_told server_third (sends_to (stores_by (Again 1 3) 12) (game_third alloc))))

-- It is a play that begins well, and the action has its one deed and is done.
pub record PlaysThrice (alloc : Global) : Type 0 where
  pub play : Play (game_one alloc) (game_thrice alloc)
  pub good : IsGood (game_one alloc)
  pub effect : length (ours 1 (game_thrice alloc).world.course.now.history) ≡ 1
  pub done : (game_thrice alloc).book.queue ≡ settled (outcomes.Done None) (accepted asked) ∷ []
  pub settled : AllSettled (game_thrice alloc).book.queue
