-- A connection in which a flag action is played to its end, so that the player's law isn't empty: the mailbox is selected, its rows are
-- asked for and recorded, the action's message is asked for, its intent is recorded, its command is carried out, its outcome is recorded,
-- and the mailbox is resynchronised (RFC 9051, sections 6.3.2, 6.4.5 and 6.4.6; RFC 7162, sections 3.1.3 and 3.2.5).
use Rattle.action_queue.specs.Book.{after, cache_at}
use Rattle.action_queue.specs.Queues.{AllSettled, accepted, settled}
use Rattle.action_queue.specs.declared.event.Event.{Event}
use Rattle.imap_model.specs.Carrying.{Waiting}
use Rattle.imap_model.specs.Changes.{deed_of}
use Rattle.imap_model.specs.Ours.{ours}
use Rattle.imap_model.specs.ToldRows.{row_of}
use Rattle.imap_model.specs.declared.code.Code.{Code}
use Rattle.imap_model.specs.declared.replies.Replies.{Replies}
use Rattle.imap_model.specs.declared.response.Response.{Response}
use Rattle.imap_model.specs.declared.deed.Author.TheVariants.{Other}
use Rattle.imap_model.specs.declared.deed.Change.{Change}
use Rattle.imap_model.specs.declared.deed.Change.TheVariants as changes
use Rattle.imap_model.specs.declared.server.Mailbox.{Mailbox}
use Rattle.imap_model.specs.declared.server.Server.{Server}
use Rattle.mail_base.specs.declared.tag.Tag.TheVariants.{Count}
use Rattle.mailbox_cache.specs.Cache.{first}
use Rattle.mailbox_cache.specs.declared.delta.Delta.{Delta}
use Rattle.mailbox_cache.specs.declared.row.Row.{Row}
use Rattle.playback.specs.Choosing.{begun_with, chosen, committed}
use Rattle.book_laws.specs.Example.{asked, book_two, box_name, box_with, flag, meant, message_with, sent_out, server_after, server_before}
use Rattle.playback.specs.Games.{Game, IsGood, Play}
use Rattle.playback.specs.Needs.{need_of}
use Rattle.playback.specs.Worlds.{answered_world, asks_rows, begins, given, moved, says}
use Rattle.playback.specs.declared.finding.Finding.{Finding}
use Rattle.std.specs.Prelude.{Bool, List, None, Some, [], false, length, refl, true, ℕ, ◌++◌, ◌∷◌, ◌≡◌}
use Rattle.std.specs.declared.alloc.Global.{Global}
use Rattle.imap_model.specs.declared.code.Code.TheVariants as codings
use Rattle.imap_model.specs.declared.command.Command.TheVariants as commands
use Rattle.imap_model.specs.declared.ending.Ending.TheVariants as endings
use Rattle.action_queue.specs.declared.event.Event.TheVariants as events
use Rattle.playback.specs.declared.finding.Finding.TheVariants as findings
use Rattle.playback.specs.declared.need.Need.TheVariants as needs
use Rattle.action_queue.specs.declared.outcome.Outcome.TheVariants as outcomes
use Rattle.imap_model.specs.declared.response.Response.TheVariants as responses

-- what each turn makes of a game
abbrev pub sends_to : Waiting → Game → Game
sends_to c x = record x { world = says c x.world }

abbrev pub asks_to : Waiting → Game → Game
asks_to c x = record x { world = asks_rows c x.world }

abbrev pub carries_to : Waiting → Replies → Server → Game → Game
carries_to c r t x = record x { world = answered_world c r t x.world }

abbrev pub hears_to : Finding → Game → Game
hears_to finding x = record { player = record x.player { told = finding }; book = x.book; world = given x.world }

abbrev pub chooses_to : Delta → Game → Game
chooses_to delta x = record { player = chosen x.player x.book delta; book = x.book; world = given x.world }

abbrev pub records_to : Event → Game → Game
records_to event x = record { player = committed x.player (after x.book event); book = after x.book event; world = x.world }

-- a reply that says OK
abbrev pub tells : List Response → Replies
tells untagged = record { untagged = untagged; ending = endings.Ok; code = codings.None }

-- an untagged OK with this code
abbrev pub says_code : Code → Response
says_code code = responses.Untagged endings.Ok code

-- what a SELECT tells of the mailbox, and behind it these rows
abbrev pub box_told : ℕ → List Response → List Response
box_told highest rows = responses.Exists 1 ∷ says_code (codings.UidValidity 5) ∷ says_code (codings.UidNext 2)
    ∷ says_code (codings.HighestModSeq highest) ∷ says_code (codings.PermanentFlags (flag ∷ []) true) ∷ rows

-- the message's row
abbrev pub row_told : List (List ℕ) → ℕ → Response
row_told flags modseq = responses.Fetch (row_of (message_with flags modseq))

-- the first SELECT, the FETCH of all rows, and the FETCH of one row
abbrev pub select_first : Waiting
select_first = record { selected = None; tag = Count 1; command = commands.Select box_name None }

abbrev pub ask_rows : Waiting
ask_rows = record { selected = Some box_name; tag = Count 2; command = commands.FetchAll }

abbrev pub ask_row : Waiting
ask_row = record { selected = Some box_name; tag = Count 3; command = commands.FetchRow 1 }

-- the SELECT behind the action, which names what was recorded
abbrev pub select_last : Waiting
select_last =
    record { selected = Some box_name; tag = Count 4; command = commands.Select box_name (Some (record { validity = 5; modseq = 10 })) }

-- the reply to the first SELECT
abbrev pub first_told : Replies
first_told = tells (box_told 10 [])

-- the reply to either FETCH: the message as it was
abbrev pub one_row : Replies
one_row = tells (row_told [] 10 ∷ [])

-- the reply to the STORE
abbrev pub new_row : Replies
new_row = tells (row_told (flag ∷ []) 11 ∷ [])

-- the reply to the last SELECT: the message with its flag
abbrev pub last_told : Replies
last_told = tells (says_code codings.Closed ∷ box_told 11 (row_told (flag ∷ []) 11 ∷ []))

-- what the two resynchronisations tell: all messages, and then those that changed
abbrev pub row_with : List (List ℕ) → ℕ → Row
row_with flags modseq = record { flags = flags; modseq = modseq }

abbrev pub delta_with : Bool → List (List ℕ) → ℕ → Delta
delta_with whole flags modseq = record {
  whole = whole;
  validity = 5;
  highest = modseq;
  uidnext = 2;
  vanished = [];
  rows = (1, row_with flags modseq) ∷ [];
  rising = tt;
  apart = (refl, tt);
}

abbrev pub delta_first : Delta
delta_first = delta_with true [] 10

abbrev pub delta_last : Delta
delta_last = delta_with false (flag ∷ []) 11

-- the book has the action and no cache, and the connection begins
abbrev pub game_one : Global → Game
game_one alloc = record { player = begun_with alloc book_two; book = book_two; world = begins server_before }

-- the mailbox is selected, and its rows are asked for
abbrev pub game_told : Global → Game
game_told alloc =
    carries_to ask_rows one_row server_before
    (asks_to ask_rows (carries_to select_first first_told server_before (sends_to select_first (game_one alloc))))

-- what they tell is recorded
abbrev pub game_learned : Global → Game
game_learned alloc = records_to (events.Learn box_name delta_first) (chooses_to delta_first (game_told alloc))

-- the message's row is asked for, and the intent is recorded
abbrev pub game_meant : Global → Game
game_meant alloc =
    records_to (events.Intend 1 meant)
    (hears_to (findings.Row 10 false) (carries_to ask_row one_row server_before (sends_to ask_row (game_learned alloc))))

-- the command is carried out, and the outcome is recorded
abbrev pub game_settled : Global → Game
game_settled alloc =
    records_to (events.Settle 1 (outcomes.Done None))
    (hears_to (findings.Ended (outcomes.Done None)) (carries_to sent_out new_row server_after (sends_to sent_out (game_meant alloc))))

-- the mailbox is resynchronised
abbrev pub game_end : Global → Game
game_end alloc =
    records_to (events.Learn box_name delta_last)
    (chooses_to delta_last (carries_to select_last last_told server_after (sends_to select_last (game_settled alloc))))

-- It is a play that begins well; the action has its one deed, it is done, and so every action is settled; and nothing more is needed.
pub record PlaysThrough (alloc : Global) : Type 0 where
  pub play : Play (game_one alloc) (game_end alloc)
  pub good : IsGood (game_one alloc)
  pub effect : length (ours 1 (game_end alloc).world.course.now.history) ≡ 1
  pub done : (game_end alloc).book.queue ≡ settled (outcomes.Done None) (accepted asked) ∷ []
  pub settled : AllSettled (game_end alloc).book.queue
  pub finished : need_of (game_end alloc).player (game_end alloc).book ≡ needs.Finished

-- Then others renew the mailbox, and in a connection of its own it is resynchronised: its cache is taken away while the reply to the SELECT
-- is owed, and the rows of all messages are asked for.
abbrev pub renewed_box : Mailbox
renewed_box = record (box_with (flag ∷ []) 20) { validity = 6 }

abbrev pub renews : Change
renews = changes.Reset 6 (1 ∷ []) 2 20

abbrev pub server_renewed : Server
server_renewed = record {
  boxes = renewed_box ∷ [];
  history = server_after.history ++ deed_of Other box_name renews (renewed_box ∷ []) ∷ [];
}

abbrev pub select_again : Waiting
select_again =
    record { selected = None; tag = Count 1; command = commands.Select box_name (Some (record { validity = 5; modseq = 11 })) }

abbrev pub ask_again : Waiting
ask_again = record { selected = Some box_name; tag = Count 2; command = commands.FetchAll }

abbrev pub again_told : Replies
again_told = tells (responses.Exists 1 ∷ says_code (codings.UidValidity 6) ∷ says_code (codings.UidNext 2)
    ∷ says_code (codings.HighestModSeq 20) ∷ says_code (codings.PermanentFlags (flag ∷ []) true) ∷ [])

abbrev pub again_row : Replies
again_row = tells (row_told (flag ∷ []) 20 ∷ [])

abbrev pub delta_again : Delta
delta_again = record (delta_with true (flag ∷ []) 20) { validity = 6 }

abbrev pub moves_to : Server → Game → Game
moves_to t x = record x { world = moved t x.world }

abbrev pub resets_to : Event → Game → Game
resets_to event x = record x { book = after x.book event }

abbrev pub game_next : Global → Game
game_next alloc =
    record { player = begun_with alloc (game_end alloc).book; book = (game_end alloc).book; world = begins server_after }

-- the SELECT is answered
abbrev pub game_held : Global → Game
game_held alloc = carries_to select_again again_told server_renewed (sends_to select_again (moves_to server_renewed (game_next alloc)))

-- the cache is taken away
abbrev pub game_reset : Global → Game
game_reset alloc = resets_to (events.Reset box_name 5 6) (game_held alloc)

-- the rows are asked for
abbrev pub game_again : Global → Game
game_again alloc = carries_to ask_again again_row server_renewed (asks_to ask_again (game_reset alloc))

abbrev pub game_over : Global → Game
game_over alloc = records_to (events.Learn box_name delta_again) (chooses_to delta_again (game_again alloc))

-- It is a play that begins well; the cache is the new one, and nothing more is needed.
pub record PlaysOver (alloc : Global) : Type 0 where
  pub play : Play (game_next alloc) (game_over alloc)
  pub good : IsGood (game_next alloc)
  pub cache : cache_at box_name (game_over alloc).book.boxes ≡ Some (first delta_again)
  pub finished : need_of (game_over alloc).player (game_over alloc).book ≡ needs.Finished
