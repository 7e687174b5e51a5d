-- The play of the example is one, turn by turn.
use Rattle.std.proofs.Common.{◌≡◌, ◌≢◌, inl, inr, ℕ, eqb, true, false, List, [], ◌∷◌, Option, Some, None, refl, sym, ◌∙◌, ap, subst}
use Rattle.std.proofs.Common.{lit<, lit≤}
use Rattle.std.specs.Prelude.{Ok}
use Rattle.std.specs.declared.alloc.Global.{Global}
use Rattle.std.proofs.lemmas.Bool.{cond_both}
use Rattle.std.proofs.lemmas.Option.{same_Some}
use Rattle.action_queue.specs.Book.{Meaning, cache_at, learned}
use Rattle.action_queue.specs.Queues.{accepted}
use Rattle.action_queue.specs.Writable.{HaveFewFlags}
use Rattle.imap_model.specs.CarriedOut.{CarriesOut}
use Rattle.imap_model.specs.Carrying.{Waiting}
use Rattle.imap_model.specs.Lookups.{message_at}
use Rattle.imap_model.specs.Remarks.{RowTold}
use Rattle.imap_model.specs.SelectTells.{SelectTells}
use Rattle.imap_model.specs.declared.mark.Mark.{Mark}
use Rattle.imap_model.specs.declared.replies.Replies.{Replies}
use Rattle.imap_model.specs.declared.server.Server.{Server}
use Rattle.imap_model.specs.declared.server.Mailbox.{Mailbox}
use Rattle.imap_model.specs.declared.server.Message.{Message}
use Rattle.imap_model.proofs.Remarking.{here}
use Rattle.mailbox_cache.specs.Cache.{first}
use Rattle.mailbox_cache.specs.declared.cache.Cache.{Cache}
use Rattle.mailbox_cache.specs.declared.delta.Delta.{Delta}
use Rattle.qresync_core.specs.Fitting.{Fits}
use Rattle.qresync_core.specs.Marking.{mark_of}
use Rattle.qresync_core.specs.Resync.{TellsDelta}
use Rattle.playback.specs.Allowed.{IsGathered, IsReply}
use Rattle.playback.specs.Choosing.{FitsWanted}
use Rattle.playback.specs.Course.{Said}
use Rattle.book_laws.specs.Example.{asked, book_two, box_name, box_with, flag, meant, message_with, sent_out, server_after, server_before}
use Rattle.playback.specs.Games.{Game, IsGood, Play}
use Rattle.playback.specs.Games.Play.{rests, turns}
use Rattle.playback.specs.Games.Turn.{asks, carries, chooses, hears, records, sends}
use Rattle.playback.specs.Knows.{SelectsBox}
use Rattle.playback.specs.Needs.{need_of}
use Rattle.playback.specs.PlaysThrough.{PlaysThrough, ask_row, ask_rows, box_told, delta_first, delta_last, first_told, game_end}
use Rattle.playback.specs.PlaysThrough.{game_learned, game_meant, game_one, game_settled, game_told, last_told, new_row, one_row, row_told}
use Rattle.playback.specs.PlaysThrough.{carries_to, chooses_to, select_first, select_last, sends_to}
use Rattle.playback.specs.declared.need.Need.{Need}
use Rattle.playback.specs.declared.player.Player.{Player}
use Rattle.book_laws.proofs.Needing.{kept_two}
use Rattle.playback.proofs.Recording.{begins_beside, begins_know}
use Rattle.book_laws.proofs.Showing.{stores_it}
use Rattle.imap_model.specs.declared.command.Command.TheVariants as commands
use Rattle.imap_model.specs.declared.ending.Ending.TheVariants as endings
use Rattle.action_queue.specs.declared.event.Event.TheVariants as events
use Rattle.playback.specs.declared.finding.Finding.TheVariants as findings
use Rattle.playback.specs.declared.need.Need.TheVariants as needs
use Rattle.action_queue.specs.declared.outcome.Outcome.TheVariants as outcomes

pub starts_good : (alloc : Global) → IsGood (game_one alloc)
starts_good alloc = record {
  kept = kept_two;
  beside = begins_beside alloc book_two;
  knows = begins_know alloc book_two server_before kept_two;
}

-- the mailbox's one message is this
one_message : (flags : List (List ℕ)) (modseq uid : ℕ) (m : Message) (P : Message → Type 0) → P (message_with flags modseq)
    → message_at uid (message_with flags modseq ∷ []) ≡ Some m → P m
one_message flags modseq uid m P p =
    cond_both (eqb 1 uid) (Some (message_with flags modseq)) None (λ (o : Option Message). o ≡ Some m → P m)
    (λ t e. subst P (same_Some (message_with flags modseq) m e) p) (λ f e. absurd (cc))

-- the mailbox is selected
first_tells : SelectTells None None (box_with [] 10) first_told.untagged first_told.code
first_tells = record {
  before = [];
  told = first_told.untagged;
  parted = inr (refl, refl);
  of_old = tt;
  of_new = (refl, (refl, (refl, (refl, (tt, tt)))));
  code_of_new = tt;
  exists = (0, lit< tt, refl);
  validity = inl (1, lit< tt, refl);
  uidnext = inl (2, lit< tt, refl);
  highest = inl (3, lit< tt, refl);
  since_mark = tt;
}

first_selects : CarriesOut select_first server_before first_told server_before (Some box_name)
first_selects = record { box = box_with [] 10; there = refl; server = refl; selection = refl; tells = first_tells }

-- the rows are told
pub row_there : (flags : List (List ℕ)) (modseq uid : ℕ) (m : Message) → message_at uid (message_with flags modseq ∷ []) ≡ Some m
    → RowTold (row_told flags modseq ∷ []) m
row_there flags modseq uid m e =
    one_message flags modseq uid m (λ (x : Message). RowTold (row_told flags modseq ∷ []) x) (here (row_told flags modseq) []) e

rows_asked : CarriesOut ask_rows server_before one_row server_before (Some box_name)
rows_asked = record {
  stays = record { server = refl; selection = refl };
  box = box_with [] 10;
  there = refl;
  says = ((1, message_with [] 10, refl, refl), tt);
  code = tt;
  tells = λ uid m e. row_there [] 10 uid m e;
}

row_asked : CarriesOut ask_row server_before one_row server_before (Some box_name)
row_asked = record {
  stays = record { server = refl; selection = refl };
  box = box_with [] 10;
  there = refl;
  says = ((1, message_with [] 10, refl, refl), tt);
  code = tt;
  tells = λ m e. row_there [] 10 1 m e;
}

-- the flag is stored
stored : CarriesOut sent_out server_before new_row server_after (Some box_name)
stored = inl (record {
  effect = stores_it;
  selection = refl;
  says = record { untagged = ((1, message_with (flag ∷ []) 11, refl, refl), tt); code = tt };
  row = λ b m is e. row_there (flag ∷ []) 11 1 m
      (subst (λ (x : Mailbox). message_at 1 x.messages ≡ Some m) (sym (same_Some (box_with (flag ∷ []) 11) b is)) e);
})

-- the mailbox is selected once more, and tells what is new
last_tells : SelectTells (Some (box_with (flag ∷ []) 11)) (Some (record { validity = 5; modseq = 10 })) (box_with (flag ∷ []) 11)
    last_told.untagged last_told.code
last_tells = record {
  before = [];
  told = box_told 11 (row_told (flag ∷ []) 11 ∷ []);
  parted = inl refl;
  of_old = tt;
  of_new = (refl, (refl, (refl, (refl, (tt, ((1, message_with (flag ∷ []) 11, refl, refl), tt))))));
  code_of_new = tt;
  exists = (0, lit< tt, refl);
  validity = inl (1, lit< tt, refl);
  uidnext = inl (2, lit< tt, refl);
  highest = inl (3, lit< tt, refl);
  since_mark = λ same. record {
    rows = λ uid m e above. one_message (flag ∷ []) 11 uid m (λ (x : Message). RowTold (box_told 11 (row_told (flag ∷ []) 11 ∷ [])) x)
        (5, lit< tt, refl) e;
    gone = λ uid went e. absurd (cc);
  };
}

last_selects : CarriesOut select_last server_after last_told server_after (Some box_name)
last_selects = record { box = box_with (flag ∷ []) 11; there = refl; server = refl; selection = refl; tells = last_tells }

-- what the replies tell
first_delta : TellsDelta None first_told (Some one_row) delta_first
first_delta = record {
  codes = record { validity = 5; uidnext = 2; highest = 10 };
  told = refl;
  fits = refl;
  none_bare = refl;
  whole = refl;
  validity = refl;
  uidnext = refl;
  highest = refl;
  rows = λ uid. refl;
  vanished = λ uid. refl;
}

last_delta : TellsDelta (Some (learned None delta_first)) last_told None delta_last
last_delta = record {
  codes = record { validity = 5; uidnext = 2; highest = 11 };
  told = refl;
  fits = refl;
  none_bare = refl;
  whole = refl;
  validity = refl;
  uidnext = refl;
  highest = refl;
  rows = λ uid. refl;
  vanished = λ uid. refl;
}

-- the name of a mailbox that is to be selected
abbrev name_in : Need → List ℕ
name_in (needs.Select name) = name
name_in need = []

-- what is told fits the one mailbox that is to be selected
pub fits : (p : Player) (b : Meaning) (delta : Delta) → need_of p b ≡ needs.Select box_name → Fits (cache_at box_name b.boxes) delta
    → HaveFewFlags delta.rows → FitsWanted p b (Ok delta)
fits p b delta is f few name e =
    subst (λ (n : List ℕ). Fits (cache_at n b.boxes) delta × HaveFewFlags delta.rows) (ap name_in (sym is ∙ e)) (f, few)

-- the FETCH of all rows, as it was answered
abbrev rows_said : Said
rows_said = record { command = ask_rows; before = server_before; behind = server_before; reply = one_row }

-- each SELECT names what was recorded of its mailbox
selects_first : (alloc : Global) → SelectsBox box_name (game_one alloc).book select_first
selects_first alloc = record { since = None; is = refl; knows = λ cache e. absurd (cc) }

selects_last : (alloc : Global) → SelectsBox box_name (game_settled alloc).book select_last
selects_last alloc = record {
  since = Some (record { validity = 5; modseq = 10 });
  is = refl;
  knows = λ cache e. ap (λ (x : Cache). Some (mark_of x)) (same_Some (first delta_first) cache e);
}

first_gathered : (alloc : Global) → IsGathered delta_first (game_told alloc).book (game_told alloc).world
first_gathered alloc = record {
  selected = record { command = select_first; before = server_before; behind = server_before; reply = first_told };
  rows = Some rows_said;
  rest = [];
  last = refl;
  command = select_first;
  owed = refl;
  answered = refl;
  asks = refl;
  name = box_name;
  selects = selects_first alloc;
  accepted = refl;
  all_asks = λ e is. subst (λ (x : Said). x.command.command ≡ commands.FetchAll) (same_Some rows_said e is) refl;
  all_accepted = λ e is. subst (λ (x : Said). x.reply.ending ≡ endings.Ok) (same_Some rows_said e is) refl;
  fetched = refl;
  tells = first_delta;
}

-- the last SELECT is answered
abbrev game_last : Global → Game
game_last alloc = carries_to select_last last_told server_after (sends_to select_last (game_settled alloc))

last_gathered : (alloc : Global) → IsGathered delta_last (game_last alloc).book (game_last alloc).world
last_gathered alloc = record {
  selected = _;
  rows = None;
  rest = _;
  last = refl;
  command = select_last;
  owed = refl;
  answered = refl;
  asks = refl;
  name = box_name;
  selects = selects_last alloc;
  accepted = refl;
  all_asks = λ e is. absurd (cc);
  all_accepted = λ e is. absurd (cc);
  fetched = refl;
  tells = last_delta;
}

-- the reply to a command that is no SELECT is the last one, and says OK
pub is_reply : (c : Waiting) (r : Replies) (t : Server) (x : Game)
    → ((name : List ℕ) (since : Option Mark) → c.command ≢ commands.Select name since)
    → r.ending ≡ endings.Ok → IsReply r (carries_to c r t (sends_to c x)).world
is_reply c r t x apart ok = record {
  said = _;
  rest = _;
  last = refl;
  is = refl;
  command = c;
  asks = refl;
  owed = refl;
  answered = refl;
  no_select = apart;
  accepted = λ f. ok;
}

-- the turns up to the first record, and from each record to the next
pub learns_first : (alloc : Global) (y : Game) → Play (game_learned alloc) y → Play (game_one alloc) y
learns_first alloc y later =
    turns (sends select_first refl (selects_first alloc))
    (turns (carries select_first first_told server_before (Some box_name) refl first_selects)
    (turns (asks ask_rows (record {
      select = select_first;
      owed = refl;
      none_waits = refl;
      name = box_name;
      selects = selects_first alloc;
      said = _;
      rest = [];
      last = refl;
      answers = refl;
      asks = refl;
      selected = refl;
    }))
    (turns (carries ask_rows one_row server_before (Some box_name) refl rows_asked)
    (turns (chooses delta_first (chooses_to delta_first (game_told alloc)).player
    (fits (game_told alloc).player (game_told alloc).book delta_first refl refl (lit≤ tt, tt)) (first_gathered alloc) (refl, refl))
    (turns (records (events.Learn box_name delta_first) refl refl)
    later)))))

pub means_it : (alloc : Global) (y : Game) → Play (game_meant alloc) y → Play (game_learned alloc) y
means_it alloc y later =
    turns (sends ask_row refl (record { is = refl; at = refl; harmless = refl }))
    (turns (carries ask_row one_row server_before (Some box_name) refl row_asked)
    (turns (hears one_row true (record (game_learned alloc).player { told = findings.Row 10 false })
    (is_reply ask_row one_row server_before (game_learned alloc) (λ name since e. absurd (cc)) refl) (λ f. absurd (cc))
    (record { finding = findings.Row 10 false; hears = refl; whole = refl; is = refl }))
    (turns (records (events.Intend 1 meant) refl refl)
    later)))

settles_it : (alloc : Global) → Play (game_settled alloc) (game_end alloc) → Play (game_meant alloc) (game_end alloc)
settles_it alloc later =
    turns (sends sent_out refl (record { number = refl; queued = accepted asked; there = refl; is = refl }))
    (turns (carries sent_out new_row server_after (Some box_name) refl stored)
    (turns (hears new_row true (record (game_meant alloc).player { told = findings.Ended (outcomes.Done None) })
    (is_reply sent_out new_row server_after (game_meant alloc) (λ name since e. absurd (cc)) refl) (λ f. absurd (cc))
    (record { finding = findings.Ended (outcomes.Done None); hears = refl; whole = refl; is = refl }))
    (turns (records (events.Settle 1 (outcomes.Done None)) refl refl)
    later)))

learns_last : (alloc : Global) → Play (game_settled alloc) (game_end alloc)
learns_last alloc =
    turns (sends select_last refl (selects_last alloc))
    (turns (carries select_last last_told server_after (Some box_name) refl last_selects)
    (turns (chooses delta_last (chooses_to delta_last (game_last alloc)).player
    (fits (game_last alloc).player (game_last alloc).book delta_last refl (refl, refl, lit≤ tt) (lit≤ tt, tt))
    (last_gathered alloc) (refl, refl))
    (turns (records (events.Learn box_name delta_last) refl refl)
    rests)))

pub played : (alloc : Global) → PlaysThrough alloc
played alloc = record {
  play = learns_first alloc (game_end alloc) (means_it alloc (game_end alloc) (settles_it alloc (learns_last alloc)));
  good = starts_good alloc;
  effect = refl;
  done = refl;
  settled = (refl, tt);
  finished = refl;
}
