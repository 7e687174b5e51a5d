-- The plain programs on worked states of a book beside a server, right ones and wrong ones. INBOX has message 42; a flag action adds
-- `\Seen` to it. Archive has UIDNEXT 7; an append goes there (this client's profile).
use Rattle.std.specs.Prelude.{◌≡◌, ℕ, Bool, true, false, List, [], ◌∷◌, codes, Option, Some, None}
use Rattle.mail_base.specs.declared.tag.Tag.TheVariants.{Play}
use Rattle.mailbox_cache.specs.declared.cache.Cache.{Cache}
use Rattle.mailbox_cache.specs.declared.row.Row.{Row}
use Rattle.imap_model.specs.declared.deed.Author.{Author}
use Rattle.imap_model.specs.declared.deed.Author.TheVariants.{Other, Ours}
use Rattle.imap_model.specs.declared.deed.Change.TheVariants as changes
use Rattle.imap_model.specs.declared.deed.Deed.{Deed}
use Rattle.imap_model.specs.declared.server.Message.{Message}
use Rattle.imap_model.specs.declared.server.Gone.{Gone}
use Rattle.imap_model.specs.declared.server.Mailbox.{Mailbox}
use Rattle.imap_model.specs.declared.server.Server.{Server}
use Rattle.action_queue.specs.Book.{Meaning}
use Rattle.action_queue.specs.declared.action.Action.{Action}
use Rattle.action_queue.specs.declared.action.Action.TheVariants as actions
use Rattle.action_queue.specs.declared.intent.Intent.{Intent}
use Rattle.action_queue.specs.declared.intent.Intent.TheVariants as intents
use Rattle.action_queue.specs.declared.outcome.Kind.TheVariants as kinds
use Rattle.action_queue.specs.declared.outcome.Outcome.{Outcome}
use Rattle.action_queue.specs.declared.outcome.Outcome.TheVariants as outcomes
use Rattle.action_queue.specs.declared.target.Target.TheVariants as targets
use Rattle.book_laws.specs.PlainOnce.{once_holds}
use Rattle.book_laws.specs.PlainOpen.{open_holds}
use Rattle.book_laws.specs.PlainFresh.{fresh_holds}

abbrev pub inbox : List ℕ
inbox = codes "INBOX"

abbrev pub archive : List ℕ
archive = codes "Archive"

abbrev pub seen : List (List ℕ)
seen = codes "\\seen" ∷ []

-- a text with the Message-ID <a@b>, and one with another
abbrev pub text : List ℕ
text = codes "Message-ID: <a@b>\r\n\r\nx"

abbrev pub id : List ℕ
id = codes "<a@b>"

abbrev pub other_text : List ℕ
other_text = codes "Message-ID: <c@d>\r\n\r\nx"

abbrev pub message : ℕ → List (List ℕ) → ℕ → List ℕ → Message
message uid flags modseq octets = record { uid = uid; flags = flags; modseq = modseq; text = octets }

-- INBOX with these messages and this highest mod-sequence
abbrev pub inbox_of : List Message → ℕ → List Gone → Mailbox
inbox_of messages highest gone = record { name = inbox; validity = 5; uidnext = 43; highest = highest; messages = messages; gone = gone }

abbrev pub archive_of : ℕ → List Message → ℕ → Mailbox
archive_of uidnext messages highest = record { name = archive; validity = 9; uidnext = uidnext; highest = highest; messages = messages; gone = [] }

abbrev pub server_of : Mailbox → Mailbox → List Deed → Server
server_of first second history = record { boxes = first ∷ second ∷ []; history = history }

abbrev pub plain_inbox : Mailbox
plain_inbox = inbox_of (message 42 [] 715 [] ∷ []) 715 []

abbrev pub seen_inbox : Mailbox
seen_inbox = inbox_of (message 42 seen 716 [] ∷ []) 716 []

abbrev pub plain_archive : Mailbox
plain_archive = archive_of 7 (message 6 [] 20 other_text ∷ []) 20

-- the flag action, and its deed by an author
abbrev pub flags_it : Action
flags_it = actions.Flag (targets.Real inbox 5 42) true seen

abbrev pub seen_by : Author → Deed
seen_by author = record { author = author; name = inbox; validity = 5; received = 5; change = changes.SetFlags 42 seen }

-- the append, and its deed by an author
abbrev pub appends_it : Action
appends_it = actions.Append archive [] text id

abbrev pub added_by : Author → ℕ → Deed
added_by author uid = record { author = author; name = archive; validity = 9; received = 9; change = changes.Add [] text uid }

abbrev pub ours_one : Author
ours_one = Ours (Play 1)

-- a book of one action
abbrev pub book_of : Action → Option Outcome → Option Intent → Meaning
book_of action outcome pending = record { boxes = []; queue = record { action = action; outcome = outcome; tries = 0 } ∷ []; pending = pending }

-- how many deeds, by state
abbrev pub once : Action → Option Outcome → Option Intent → List Deed → Bool
once action outcome pending history = once_holds (book_of action outcome pending) history

abbrev pub stores : ℕ → Intent
stores modseq = intents.Store inbox 5 42 modseq

abbrev pub puts : ℕ → Intent
puts uidnext = intents.Put archive 9 uidnext

abbrev pub done_at : ℕ → Option Outcome
done_at uid = Some (outcomes.Done (Some (record { validity = 9; uid = uid })))

pub record CountsRight : Type 0 where
  pub nothing_yet : once flags_it None None [] ≡ true
  pub begun : once flags_it None (Some (stores 715)) [] ≡ true
  pub taken : once flags_it None (Some (stores 715)) (seen_by ours_one ∷ []) ≡ true
  pub done : once flags_it (Some (outcomes.Done None)) None (seen_by ours_one ∷ []) ≡ true
  pub unsure : once flags_it (Some (outcomes.Conflict kinds.FoundSo)) None (seen_by ours_one ∷ []) ≡ true
  pub refused : once flags_it (Some (outcomes.Conflict kinds.RefusedNo)) None [] ≡ true
  pub by_others : once flags_it None None (seen_by Other ∷ seen_by Other ∷ []) ≡ true
  pub appended : once appends_it (done_at 7) None (added_by ours_one 7 ∷ []) ≡ true

pub record CountsWrong : Type 0 where
  pub deed_without_intent : once flags_it None None (seen_by ours_one ∷ []) ≡ false
  pub two_deeds : once flags_it None (Some (stores 715)) (seen_by ours_one ∷ seen_by ours_one ∷ []) ≡ false
  pub done_without_deed : once flags_it (Some (outcomes.Done None)) None [] ≡ false
  pub done_twice : once flags_it (Some (outcomes.Done None)) None (seen_by ours_one ∷ seen_by ours_one ∷ []) ≡ false
  pub unsure_with_two : once flags_it (Some (outcomes.Conflict kinds.FoundSo)) None (seen_by ours_one ∷ seen_by ours_one ∷ []) ≡ false
  pub refused_while_it_waited : once flags_it (Some (outcomes.Conflict kinds.RefusedNo)) None (seen_by ours_one ∷ []) ≡ false
  pub done_at_a_lower_uid : once appends_it (done_at 6) None (added_by ours_one 7 ∷ []) ≡ false
  pub of_no_action : once flags_it None None (seen_by (Ours (Play 2)) ∷ []) ≡ false
  pub of_another_kind : once appends_it None (Some (puts 7)) (seen_by ours_one ∷ []) ≡ false

abbrev pub open_at : Action → Intent → Server → Bool
open_at action intent s = open_holds (book_of action None (Some intent)) s

pub record OpenRight : Type 0 where
  pub stored_not_yet : open_at flags_it (stores 715) (server_of plain_inbox plain_archive []) ≡ true
  pub stored : open_at flags_it (stores 715) (server_of seen_inbox plain_archive (seen_by ours_one ∷ [])) ≡ true
  pub put_not_yet : open_at appends_it (puts 7) (server_of plain_inbox plain_archive []) ≡ true
  pub put :
      open_at appends_it (puts 7) (server_of plain_inbox (archive_of 8 (message 7 [] 21 text ∷ []) 21) (added_by ours_one 7 ∷ [])) ≡ true
  pub put_beside_an_earlier_one :
      open_at appends_it (puts 7) (server_of plain_inbox (archive_of 7 (message 6 [] 20 text ∷ []) 20) []) ≡ true

pub record OpenWrong : Type 0 where
  pub mark_above_all : open_at flags_it (stores 800) (server_of plain_inbox plain_archive []) ≡ false
  pub mark_above_the_row :
      open_at flags_it (stores 717) (server_of (inbox_of (message 42 seen 716 [] ∷ []) 717 []) plain_archive (seen_by ours_one ∷ [])) ≡ false
  pub mark_of_the_effect : open_at flags_it (stores 716) (server_of seen_inbox plain_archive (seen_by ours_one ∷ [])) ≡ false
  pub earlier_uidnext :
      open_at appends_it (puts 6) (server_of plain_inbox (archive_of 7 (message 6 [] 20 text ∷ []) 20) []) ≡ false
  pub anothers_message :
      open_at appends_it (puts 7) (server_of plain_inbox (archive_of 8 (message 7 [] 21 text ∷ []) 21) (added_by Other 7 ∷ [])) ≡ false
  pub removed_by_another : open_at appends_it (puts 7) (server_of plain_inbox (archive_of 8 [] 22) (added_by ours_one 7 ∷ [])) ≡ false
  pub another_validity : open_at flags_it (intents.Store inbox 6 42 715) (server_of plain_inbox plain_archive []) ≡ false
  pub no_mailbox : open_at flags_it (intents.Store (codes "Sent") 5 42 715) (server_of plain_inbox plain_archive []) ≡ false

-- a cache of INBOX with this mark, and with the row of message 42 alone, or with none
abbrev pub cache_of : ℕ → List (ℕ × Row) → Cache
cache_of mark rows = record { validity = 5; highest = mark; uidnext = 43; rows = rows }

abbrev pub row : List (List ℕ) → ℕ → List (ℕ × Row)
row flags modseq = (42, record { flags = flags; modseq = modseq }) ∷ []

abbrev pub fresh_at : Cache → Mailbox → Bool
fresh_at cache box = fresh_holds (record { boxes = record { name = inbox; cache = Some cache } ∷ []; queue = []; pending = None }) (box ∷ [])

pub record FreshRight : Type 0 where
  pub level : fresh_at (cache_of 715 (row [] 715)) plain_inbox ≡ true
  pub behind : fresh_at (cache_of 715 (row [] 715)) seen_inbox ≡ true
  pub went : fresh_at (cache_of 715 (row [] 715)) (inbox_of [] 716 (record { uid = 42; modseq = 716 } ∷ [])) ≡ true

pub record FreshWrong : Type 0 where
  pub lacks_a_row_at_the_mark : fresh_at (cache_of 715 []) plain_inbox ≡ false
  pub other_flags : fresh_at (cache_of 715 (row seen 715)) plain_inbox ≡ false
  pub mark_of_a_store : fresh_at (cache_of 716 (row [] 715)) seen_inbox ≡ false
  pub mark_above_all : fresh_at (cache_of 717 (row seen 716)) seen_inbox ≡ false
  pub kept_what_went : fresh_at (cache_of 716 (row [] 715)) (inbox_of [] 716 (record { uid = 42; modseq = 716 } ∷ [])) ≡ false

pub record WorkedRows : Type 0 where
  pub counts_right : CountsRight
  pub counts_wrong : CountsWrong
  pub open_right : OpenRight
  pub open_wrong : OpenWrong
  pub fresh_right : FreshRight
  pub fresh_wrong : FreshWrong
