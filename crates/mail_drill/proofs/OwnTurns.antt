-- What the server in memory does for a command is a change by this client, or none.
use Rattle.std.proofs.Common.{◌≡◌, ℕ, Bool, true, false, ◌&&◌, List, [], ◌∷◌, ◌++◌, Option, Some, None, is_some, refl, if◌then◌else◌}
use Rattle.std.specs.Prelude.{nat_lt}
use Rattle.std.proofs.lemmas.Bool.{and_parts}
use Rattle.flag_set.specs.FlagSet.{has}
use Rattle.imap_model.specs.CarriedOut.{only}
use Rattle.imap_model.specs.Carrying.{deleted}
use Rattle.imap_model.specs.Changes.{deed_of}
use Rattle.imap_model.specs.Lawful.{broken_rule}
use Rattle.imap_model.specs.Lookups.{box_at, message_at, validity_of}
use Rattle.imap_model.specs.PlainChanges.{changed, with_change}
use Rattle.imap_model.specs.PlainServer.{Choices, Turn, accepted, answered, append_turn, change_turn, coded, copied_code, copy_in, copy_message}
use Rattle.imap_model.specs.PlainServer.{copy_turn, denied, expunge_in, expunge_message, expunge_turn, is_closed}
use Rattle.imap_model.specs.PlainServer.{move_in, move_message, move_turn, question_turn, row_in, select_turn, store_in, store_message}
use Rattle.imap_model.specs.PlainServer.{store_turn, stored_flags, turn_of}
use Rattle.imap_model.specs.Remarks.{selected_box}
use Rattle.imap_model.specs.declared.code.Code.TheVariants as codings
use Rattle.imap_model.specs.declared.command.Command.{Command}
use Rattle.imap_model.specs.declared.command.Command.TheVariants as commands
use Rattle.imap_model.specs.declared.deed.Author.TheVariants.{Ours}
use Rattle.imap_model.specs.declared.deed.Change.{Change}
use Rattle.imap_model.specs.declared.deed.Change.TheVariants as changes
use Rattle.imap_model.specs.declared.deed.Deed.{Deed}
use Rattle.imap_model.specs.declared.mark.Mark.{Mark}
use Rattle.imap_model.specs.declared.replies.Replies.{Replies}
use Rattle.imap_model.specs.declared.response.Response.TheVariants as responses
use Rattle.imap_model.specs.declared.server.Mailbox.{Mailbox}
use Rattle.imap_model.specs.declared.server.Message.{Message}
use Rattle.imap_model.specs.declared.server.Server.{Server}
use Rattle.mail_base.specs.declared.tag.Tag.{Tag}
use Rattle.mail_drill.specs.Alone.{is_own, are_own}

pub both_true : (x y : Bool) → x ≡ true → y ≡ true → (x && y) ≡ true
both_true true true h k = refl
both_true true false h k = k
both_true false y h k = h

-- one change more by this client
own_push : (d : Deed) (h : List Deed) → is_own d.author ≡ true → are_own h ≡ true → are_own (h ++ d ∷ []) ≡ true
own_push d [] own all = both_true (is_own d.author) true own refl
own_push d (x ∷ xs) own all =
    let both = and_parts (is_own x.author) (are_own xs) all in
    both_true (is_own x.author) (are_own (xs ++ d ∷ [])) both.0 (own_push d xs own both.1)

abbrev IsOwnTurn : Turn → Type 0
IsOwnTurn t = are_own t.server.history ≡ true

either : (b : Bool) (x y : Turn) → IsOwnTurn x → IsOwnTurn y → IsOwnTurn (if b then x else y)
either true x y p q = p
either false x y p q = q

module _ (s : Server) (own : are_own s.history ≡ true) where
  change_own : (selected : Option (List ℕ)) (tag : Tag) (name : List ℕ) (change : Change) (reply : Server → Replies) →
      IsOwnTurn (change_turn selected tag name change s reply)
  change_own selected tag name change reply = either (is_some (broken_rule s.boxes name change)) (answered selected s (denied codings.Other))
      (answered selected (with_change (Ours tag) name change s) (reply (with_change (Ours tag) name change s))) own
      (own_push (deed_of (Ours tag) name change (changed name change s.boxes)) s.history refl own)

  select_own : (c : Choices) (selected : Option (List ℕ)) (name : List ℕ) (since : Option Mark) (box : Option Mailbox) →
      IsOwnTurn (select_turn c selected name since s box)
  select_own c selected name since None = own
  select_own c selected name since (Some b) = own

  question_own : (selected : Option (List ℕ)) (reply : Mailbox → Replies) (box : Option Mailbox) → IsOwnTurn (question_turn selected s reply box)
  question_own selected reply None = own
  question_own selected reply (Some b) = own

  store_message_own : (name : List ℕ) (tag : Tag) (uid since : ℕ) (add : Bool) (asked : List (List ℕ)) (m : Option Message) →
      IsOwnTurn (store_message name tag uid since add asked s m)
  store_message_own name tag uid since add asked None = own
  store_message_own name tag uid since add asked (Some m) =
      either (nat_lt since m.modseq) _ _ own
      (change_own (Some name) tag name (changes.SetFlags uid (stored_flags add asked m.flags))
      (λ t. accepted (row_in uid (box_at name t.boxes)) codings.None))

  store_in_own : (name : List ℕ) (tag : Tag) (uid since : ℕ) (add : Bool) (asked : List (List ℕ)) (box : Option Mailbox) →
      IsOwnTurn (store_in name tag uid since add asked s box)
  store_in_own name tag uid since add asked None = own
  store_in_own name tag uid since add asked (Some b) = store_message_own name tag uid since add asked (message_at uid b.messages)

  store_own : (selected : Option (List ℕ)) (tag : Tag) (uid since : ℕ) (add : Bool) (asked : List (List ℕ)) →
      IsOwnTurn (store_turn selected tag uid since add asked s)
  store_own None tag uid since add asked = own
  store_own (Some name) tag uid since add asked = store_in_own name tag uid since add asked (box_at name s.boxes)

  move_message_own : (name : List ℕ) (tag : Tag) (uid : ℕ) (to : List ℕ) (target : Mailbox) (m : Option Message) →
      IsOwnTurn (move_message name tag uid to s target m)
  move_message_own name tag uid to target None = own
  move_message_own name tag uid to target (Some m) =
      change_own (Some name) tag name (changes.Shift uid to target.uidnext)
      (λ t. accepted (coded (copied_code uid to target.uidnext t) ∷ responses.Vanished false (only uid) ∷ []) codings.None)

  move_in_own : (name : List ℕ) (tag : Tag) (uid : ℕ) (to : List ℕ) (box target : Option Mailbox) → IsOwnTurn (move_in name tag uid to s box target)
  move_in_own name tag uid to None target = own
  move_in_own name tag uid to (Some b) None = own
  move_in_own name tag uid to (Some b) (Some target) = move_message_own name tag uid to target (message_at uid b.messages)

  move_own : (selected : Option (List ℕ)) (tag : Tag) (uid : ℕ) (to : List ℕ) → IsOwnTurn (move_turn selected tag uid to s)
  move_own None tag uid to = own
  move_own (Some name) tag uid to = move_in_own name tag uid to (box_at name s.boxes) (box_at to s.boxes)

  copy_message_own : (name : List ℕ) (tag : Tag) (uid : ℕ) (to : List ℕ) (target : Mailbox) (m : Option Message) →
      IsOwnTurn (copy_message name tag uid to s target m)
  copy_message_own name tag uid to target None = own
  copy_message_own name tag uid to target (Some m) =
      change_own (Some name) tag to (changes.Add m.flags m.text target.uidnext) (λ t. accepted [] (copied_code uid to target.uidnext t))

  copy_in_own : (name : List ℕ) (tag : Tag) (uid : ℕ) (to : List ℕ) (box target : Option Mailbox) → IsOwnTurn (copy_in name tag uid to s box target)
  copy_in_own name tag uid to None target = own
  copy_in_own name tag uid to (Some b) None = own
  copy_in_own name tag uid to (Some b) (Some target) = copy_message_own name tag uid to target (message_at uid b.messages)

  copy_own : (selected : Option (List ℕ)) (tag : Tag) (uid : ℕ) (to : List ℕ) → IsOwnTurn (copy_turn selected tag uid to s)
  copy_own None tag uid to = own
  copy_own (Some name) tag uid to = copy_in_own name tag uid to (box_at name s.boxes) (box_at to s.boxes)

  expunge_message_own : (name : List ℕ) (tag : Tag) (uid : ℕ) (m : Option Message) → IsOwnTurn (expunge_message name tag uid s m)
  expunge_message_own name tag uid None = own
  expunge_message_own name tag uid (Some m) =
      either (has m.flags deleted) _ _
      (change_own (Some name) tag name (changes.Drop uid) (λ t. accepted (responses.Vanished false (only uid) ∷ []) codings.None)) own

  expunge_in_own : (name : List ℕ) (tag : Tag) (uid : ℕ) (box : Option Mailbox) → IsOwnTurn (expunge_in name tag uid s box)
  expunge_in_own name tag uid None = own
  expunge_in_own name tag uid (Some b) = expunge_message_own name tag uid (message_at uid b.messages)

  expunge_own : (selected : Option (List ℕ)) (tag : Tag) (uid : ℕ) → IsOwnTurn (expunge_turn selected tag uid s)
  expunge_own None tag uid = own
  expunge_own (Some name) tag uid = expunge_in_own name tag uid (box_at name s.boxes)

  append_own : (selected : Option (List ℕ)) (tag : Tag) (to : List ℕ) (flags : List (List ℕ)) (text : List ℕ) (box : Option Mailbox) →
      IsOwnTurn (append_turn selected tag to flags text s box)
  append_own selected tag to flags text None = own
  append_own selected tag to flags text (Some b) =
      change_own selected tag to (changes.Add flags text b.uidnext) (λ t. accepted [] (codings.AppendUid (validity_of (box_at to t.boxes)) b.uidnext))

  -- so it is with each command
  pub turn_own : (c : Choices) (selected : Option (List ℕ)) (tag : Tag) (command : Command) → IsOwnTurn (turn_of c selected tag command s)
  turn_own c selected tag commands.Capability = own
  turn_own c selected tag (commands.Login account) = own
  turn_own c selected tag (commands.Plain account) = own
  turn_own c selected tag (commands.Enable rev2) = own
  turn_own c selected tag (commands.Select name since) = select_own c selected name since (box_at name s.boxes)
  turn_own c selected tag commands.FetchAll = question_own selected _ (selected_box selected s.boxes)
  turn_own c selected tag (commands.FetchRow uid) = question_own selected _ (selected_box selected s.boxes)
  turn_own c selected tag (commands.Search from id) = question_own selected _ (selected_box selected s.boxes)
  turn_own c selected tag (commands.FetchIds uids) = question_own selected _ (selected_box selected s.boxes)
  turn_own c selected tag (commands.FetchText uid) = question_own selected _ (selected_box selected s.boxes)
  turn_own c selected tag (commands.Store uid since add flags) = store_own selected tag uid since add flags
  turn_own c selected tag (commands.Shift uid to) = move_own selected tag uid to
  turn_own c selected tag (commands.Copy uid to) = copy_own selected tag uid to
  turn_own c selected tag (commands.Expunge uid) = expunge_own selected tag uid
  turn_own c selected tag (commands.Append to flags text) =
      either (is_closed c.closed to) _ _ own (append_own selected tag to flags text (box_at to s.boxes))
  turn_own c selected tag commands.Logout = own
