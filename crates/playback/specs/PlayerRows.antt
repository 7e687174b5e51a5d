-- What is needed behind a reply, in worked states. INBOX has message 42; action 1 adds `\Seen` to it, moves it to Archive, or puts a text
-- into Archive, whose UIDNEXT was 7 (this client's profile; RFC 7162, section 3.1.3; RFC 9051, sections 6.3.12 and 6.4.8).
use Rattle.action_queue.specs.Book.{Meaning}
use Rattle.action_queue.specs.Queues.{change_first, tried}
use Rattle.action_queue.specs.declared.action.Action.{Action}
use Rattle.action_queue.specs.declared.intent.Intent.{Intent}
use Rattle.action_queue.specs.declared.outcome.Kind.{Kind}
use Rattle.action_queue.specs.declared.outcome.Outcome.{Outcome}
use Rattle.append_probe.specs.Question.{question_of}
use Rattle.imap_model.specs.declared.code.Code.{Code}
use Rattle.imap_model.specs.declared.ending.Ending.{Ending}
use Rattle.imap_model.specs.declared.item.Item.{Item}
use Rattle.imap_model.specs.declared.replies.Replies.{Replies}
use Rattle.imap_model.specs.declared.response.Response.{Response}
use Rattle.mailbox_cache.specs.declared.cache.Cache.{Cache}
use Rattle.playback.specs.Choosing.{is_below, reset_of, target_fault}
use Rattle.playback.specs.Needs.{need_of}
use Rattle.playback.specs.Replying.{HearsFound, read_of}
use Rattle.playback.specs.Steps.{step_of}
use Rattle.playback.specs.Why.{Lacks}
use Rattle.book_laws.specs.WorkedRows.{appends_it, archive, book_of, flags_it, id, inbox, puts, seen, stores, text}
use Rattle.playback.specs.declared.finding.Finding.{Finding}
use Rattle.playback.specs.declared.need.Need.{Need}
use Rattle.playback.specs.declared.player.Player.{Player}
use Rattle.std.specs.Prelude.{Bool, Err, List, None, Ok, Option, Result, Some, [], false, true, ℕ, ◌∷◌, ◌≡◌}
use Rattle.std.specs.declared.alloc.Global.{Global}
use Rattle.uid_sets.specs.declared.uid.UidRange.{UidRange}
use Rattle.action_queue.specs.declared.action.Action.TheVariants as actions
use Rattle.action_queue.specs.declared.event.Event.TheVariants as events
use Rattle.action_queue.specs.declared.intent.Intent.TheVariants as intents
use Rattle.action_queue.specs.declared.outcome.Kind.TheVariants as kinds
use Rattle.action_queue.specs.declared.outcome.Outcome.TheVariants as outcomes
use Rattle.action_queue.specs.declared.target.Target.TheVariants as targets
use Rattle.append_probe.specs.declared.verdict.Verdict.TheVariants as verdicts
use Rattle.imap_model.specs.declared.code.Code.TheVariants as codings
use Rattle.imap_model.specs.declared.command.Command.TheVariants as commands
use Rattle.imap_model.specs.declared.ending.Ending.TheVariants as endings
use Rattle.imap_model.specs.declared.item.Item.TheVariants as items
use Rattle.imap_model.specs.declared.response.Response.TheVariants as responses
use Rattle.playback.specs.declared.finding.Finding.TheVariants as findings
use Rattle.playback.specs.declared.need.Need.TheVariants as needs
use Rattle.playback.specs.declared.need.Unheard.TheVariants as unheards

-- message 42 is moved to Archive
abbrev pub moves_it : Action
moves_it = actions.Move (targets.Real inbox 5 42) archive

-- the intent of that move
abbrev pub shifts : Intent
shifts = intents.Shift inbox 5 42 archive

-- a player with this mailbox selected; `resumed` says that an earlier run recorded the intent
abbrev pub player_in : Global → Bool → List ℕ → ℕ → Finding → Player
player_in alloc resumed name validity told = record {
  alloc = alloc;
  resumed = resumed;
  selected = Some (record { name = name; validity = validity });
  told = told;
  learns = None;
  resynced = 0;
}

-- INBOX is selected, and nothing was told
abbrev pub in_inbox : Global → Bool → Player
in_inbox alloc resumed = player_in alloc resumed inbox 5 findings.Nothing

-- Archive is selected, and this was told
abbrev pub in_archive : Global → Bool → Finding → Player
in_archive alloc resumed told = player_in alloc resumed archive 9 told

-- what the player needs for this action
abbrev pub needed : Player → Action → Option Intent → Need
needed p action pending = need_of p (book_of action None pending)

-- the book of an action of which so many tries were taken back
abbrev pub tried_book : ℕ → Meaning → Meaning
tried_book tries b = record b { queue = change_first (tried tries) b.queue }

-- what the player needs then
abbrev pub needed_after : ℕ → Player → Action → Option Intent → Need
needed_after tries p action pending = need_of p (tried_book tries (book_of action None pending))

-- another changed the message before the STORE with this mod-sequence
abbrev pub forestalled : Global → ℕ → Player
forestalled alloc m = record (in_inbox alloc false) { told = findings.Ended (outcomes.Conflict (kinds.FlagsChanged m)) }

-- what it needs once it found this out
abbrev pub needed_told : Player → Action → Option Intent → Result Finding Item → Result Need Item
needed_told p action pending (Ok finding) = Ok (needed (record p { told = finding }) action pending)
needed_told p action pending (Err item) = Err item

-- what it needs once it was given the reply to what it needed, or the item that the reply lacks
abbrev pub needed_behind : Player → Action → Option Intent → Bool → Replies → Result Need Item
needed_behind p action pending permits r =
    needed_told p action pending (read_of (step_of p (book_of action None pending)) p.resumed action pending permits r)

-- a reply
abbrev pub replies_of : List Response → Ending → Code → Replies
replies_of told ending code = record { untagged = told; ending = ending; code = code }

-- a plain OK behind these responses
abbrev pub told : List Response → Replies
told responses = replies_of responses endings.Ok codings.None

-- the row of message 42
abbrev pub row : List (List ℕ) → ℕ → Response
row flags modseq = responses.Fetch (record { uid = Some 42; flags = Some flags; modseq = Some modseq; ids = None; text = None })

-- the row without its mod-sequence
abbrev pub bare_row : Response
bare_row = responses.Fetch (record { uid = Some 42; flags = Some []; modseq = None; ids = None; text = None })

-- the row without its flags
abbrev pub flagless_row : Response
flagless_row = responses.Fetch (record { uid = Some 42; flags = None; modseq = Some 715; ids = None; text = None })

-- this UID alone
abbrev pub one : ℕ → List UidRange
one uid = record { low = uid; high = uid } ∷ []

-- a COPYUID of this message, which went to UID 8 of Archive
abbrev pub copied : ℕ → Response
copied uid = responses.Untagged endings.Ok (codings.CopyUid 9 (one uid) (one 8))

-- the action is settled so
abbrev pub ends : Outcome → Result Need Item
ends outcome = Ok (needs.Settle 1 outcome)

-- it is settled as this conflict
abbrev pub conflict : Kind → Result Need Item
conflict kind = ends (outcomes.Conflict kind)

-- it is done, and the message has this UID of Archive
abbrev pub done_at : ℕ → Result Need Item
done_at uid = ends (outcomes.Done (Some (record { validity = 9; uid = uid })))

-- the flag action before its intent
pub record FlagRows (alloc : Global) : Type 0 where
  pub selects : needed (in_archive alloc false findings.Nothing) flags_it None ≡ needs.Select inbox
  pub asks : needed (in_inbox alloc false) flags_it None ≡ needs.Ask (commands.FetchRow 42)
  pub intends :
      needed_behind (in_inbox alloc false) flags_it None true (told (row [] 715 ∷ [])) ≡ Ok (needs.Commit (events.Intend 1 (stores 715)))
  pub told_last :
      needed_behind (in_inbox alloc false) flags_it None true (told (row seen 714 ∷ row [] 715 ∷ []))
      ≡ Ok (needs.Commit (events.Intend 1 (stores 715)))
  pub is_so : needed_behind (in_inbox alloc false) flags_it None true (told (row seen 715 ∷ [])) ≡ conflict kinds.AlreadySo
  pub gone : needed_behind (in_inbox alloc false) flags_it None true (told []) ≡ conflict kinds.MessageGone
  pub barred : needed_behind (in_inbox alloc false) flags_it None false (told (row [] 715 ∷ [])) ≡ conflict kinds.NotPermanent
  pub star_is_for_keywords : Lacks seen [] true
  pub is_so_first : needed_behind (in_inbox alloc false) flags_it None false (told (row seen 715 ∷ [])) ≡ conflict kinds.AlreadySo
  pub bare : needed_behind (in_inbox alloc false) flags_it None true (told (bare_row ∷ [])) ≡ Err items.ModSeq
  pub flagless : needed_behind (in_inbox alloc false) flags_it None true (told (flagless_row ∷ [])) ≡ Err items.Flags

-- its STORE was answered
pub record StoreRows (alloc : Global) : Type 0 where
  pub sends : needed (in_inbox alloc false) flags_it (Some (stores 715)) ≡ needs.Send 1 (commands.Store 42 715 true seen)
  pub done : needed_behind (in_inbox alloc false) flags_it (Some (stores 715)) true (told (row seen 716 ∷ [])) ≡ ends (outcomes.Done None)
  pub changed :
      needed_behind (in_inbox alloc false) flags_it (Some (stores 715)) true (replies_of [] endings.No (codings.Modified (one 42)))
      ≡ Ok (needs.Withdraw 1 1)
  pub begins_anew : needed_after 1 (in_inbox alloc false) flags_it None ≡ needs.Ask (commands.FetchRow 42)
  pub sends_anew : needed_after 1 (in_inbox alloc false) flags_it (Some (stores 716)) ≡ needs.Send 1 (commands.Store 42 716 true seen)
  pub changed_again : needed_after 1 (forestalled alloc 716) flags_it (Some (stores 716)) ≡ needs.Withdraw 1 2
  pub changed_at_last : needed_after 2 (forestalled alloc 717) flags_it (Some (stores 717)) ≡ needs.Settle 1 (outcomes.Conflict (kinds.FlagsChanged 717))
  pub of_another :
      needed_behind (in_inbox alloc false) flags_it (Some (stores 715)) true (replies_of [] endings.No (codings.Modified (one 41)))
      ≡ conflict kinds.RefusedNo
  pub refused :
      needed_behind (in_inbox alloc false) flags_it (Some (stores 715)) true (replies_of [] endings.No codings.None)
      ≡ conflict kinds.RefusedNo
  pub gone : needed_behind (in_inbox alloc false) flags_it (Some (stores 715)) true (told []) ≡ conflict kinds.MessageGone

-- its intent is of an earlier run
pub record OpenStoreRows (alloc : Global) : Type 0 where
  pub asks : needed (in_inbox alloc true) flags_it (Some (stores 715)) ≡ needs.Ask (commands.FetchRow 42)
  pub found_so : needed_behind (in_inbox alloc true) flags_it (Some (stores 715)) true (told (row seen 716 ∷ [])) ≡ conflict kinds.FoundSo
  pub unsure :
      needed_behind (in_inbox alloc true) flags_it (Some (stores 715)) true (told (row [] 716 ∷ [])) ≡ conflict (kinds.StoreUnsure 715 716)
  pub sends_again :
      needed_behind (in_inbox alloc true) flags_it (Some (stores 715)) true (told (row [] 715 ∷ []))
      ≡ Ok (needs.Send 1 (commands.Store 42 715 true seen))
  pub gone : needed_behind (in_inbox alloc true) flags_it (Some (stores 715)) true (told []) ≡ conflict kinds.GoneAfterLoss

-- the move
pub record MoveRows (alloc : Global) : Type 0 where
  pub intends :
      needed_behind (in_inbox alloc false) moves_it None true (told (row [] 715 ∷ [])) ≡ Ok (needs.Commit (events.Intend 1 shifts))
  pub done : needed_behind (in_inbox alloc false) moves_it (Some shifts) true (told (copied 42 ∷ [])) ≡ done_at 8
  pub of_another : needed_behind (in_inbox alloc false) moves_it (Some shifts) true (told (copied 41 ∷ [])) ≡ Err items.CopyUid
  pub told_last : needed_behind (in_inbox alloc false) moves_it (Some shifts) true (told (copied 41 ∷ copied 42 ∷ [])) ≡ done_at 8
  pub gone : needed_behind (in_inbox alloc false) moves_it (Some shifts) true (told []) ≡ conflict kinds.MessageGone
  pub sends_again :
      needed_behind (in_inbox alloc true) moves_it (Some shifts) true (told (row [] 715 ∷ []))
      ≡ Ok (needs.Send 1 (commands.Shift 42 archive))
  pub source_gone : needed_behind (in_inbox alloc true) moves_it (Some shifts) true (told []) ≡ conflict kinds.SourceGone

-- The append. Behind a loss a search that finds UID 6 alone found none of the UIDs from the intent's UIDNEXT on.
pub record AppendRows (alloc : Global) : Type 0 where
  pub selects : needed (in_archive alloc false findings.Nothing) appends_it None ≡ needs.Select archive
  pub intends : needed (in_archive alloc false (findings.Next 9 7)) appends_it None ≡ needs.Commit (events.Intend 1 (puts 7))
  pub done :
      needed_behind (in_archive alloc false findings.Nothing) appends_it (Some (puts 7)) true
      (replies_of [] endings.Ok (codings.AppendUid 9 7))
      ≡ done_at 7
  pub untold : needed_behind (in_archive alloc false findings.Nothing) appends_it (Some (puts 7)) true (told []) ≡ Err items.AppendUid
  pub selects_again : needed (in_archive alloc true findings.Nothing) appends_it (Some (puts 7)) ≡ needs.Select archive
  pub searches : needed (in_archive alloc true (findings.Next 9 9)) appends_it (Some (puts 7)) ≡ needs.Ask (question_of 7 id)
  pub earlier_one : HearsFound 7 (told (responses.Found (one 6) ∷ [])) (findings.Probed verdicts.NotThere)
  pub sends_again :
      needed (in_archive alloc true (findings.Probed verdicts.NotThere)) appends_it (Some (puts 7))
      ≡ needs.Send 1 (commands.Append archive [] text)
  pub found :
      needed (in_archive alloc true (findings.Probed (verdicts.There 7))) appends_it (Some (puts 7))
      ≡ needs.Settle 1 (outcomes.Done (Some (record { validity = 9; uid = 7 })))
  pub ambiguous :
      needed (in_archive alloc true (findings.Probed (verdicts.Several 7 8))) appends_it (Some (puts 7))
      ≡ needs.Settle 1 (outcomes.Conflict (kinds.Ambiguous 7 8))

-- a cache of INBOX
abbrev pub kept_cache : Cache
kept_cache = record { validity = 5; highest = 715; uidnext = 43; rows = [] }

-- INBOX is selected under another UIDVALIDITY
abbrev pub in_renewed : Global → Bool → ℕ → Player
in_renewed alloc resumed validity = player_in alloc resumed inbox validity findings.Nothing

-- Where the mailbox was renewed the action ends; under a lower UIDVALIDITY, or where another mailbox is selected, it is selected first.
pub record RenewedRows (alloc : Global) : Type 0 where
  pub flag : needed (in_renewed alloc false 6) flags_it None ≡ needs.Settle 1 (outcomes.Conflict (kinds.ValidityChanged 5 6))
  pub move : needed (in_renewed alloc false 6) moves_it None ≡ needs.Settle 1 (outcomes.Conflict (kinds.ValidityChanged 5 6))
  pub lower : needed (in_renewed alloc false 4) flags_it None ≡ needs.Select inbox
  pub elsewhere : needed (in_archive alloc false findings.Nothing) flags_it None ≡ needs.Select inbox
  pub open_flag : needed (in_renewed alloc true 6) flags_it (Some (stores 715)) ≡ needs.Settle 1 (outcomes.Conflict (kinds.ResetAfterLoss 5 6))
  pub open_move : needed (in_renewed alloc true 6) moves_it (Some shifts) ≡ needs.Settle 1 (outcomes.Conflict (kinds.ResetAfterLoss 5 6))
  pub open_append :
      needed (player_in alloc true archive 10 (findings.Next 10 2)) appends_it (Some (puts 7))
      ≡ needs.Settle 1 (outcomes.Conflict (kinds.ResetAfterLoss 9 10))
  pub append : needed (player_in alloc false archive 10 (findings.Next 10 2)) appends_it None ≡ needs.Commit (events.Intend 1 (intents.Put archive 10 2))
  pub below : target_fault (is_below (Some 5) 4) None ≡ Some (unheards.Target 5 4)
  pub above : target_fault (is_below (Some 5) 6) None ≡ None
  pub takes_away : reset_of inbox (Some kept_cache) 6 ≡ Some (events.Reset inbox 5 6)
  pub same : reset_of inbox (Some kept_cache) 5 ≡ None
  pub fell : reset_of inbox (Some kept_cache) 4 ≡ None
  pub none_kept : reset_of inbox None 6 ≡ None

-- all of these
pub record NeedsInCases : Type 0 where
  pub flag : (alloc : Global) → FlagRows alloc
  pub store : (alloc : Global) → StoreRows alloc
  pub open_store : (alloc : Global) → OpenStoreRows alloc
  pub move : (alloc : Global) → MoveRows alloc
  pub append : (alloc : Global) → AppendRows alloc
  pub renewed : (alloc : Global) → RenewedRows alloc
