-- The server in memory serves a run: it refuses no question that has what it needs, says BYE to LOGOUT alone, and provides what is needed.
use Rattle.std.proofs.Common.{◌≡◌, ◌≢◌, ℕ, Bool, true, false, List, [], ◌∷◌, ◌++◌, Option, Some, None, refl, sym, subst, if◌then◌else◌}
use Rattle.std.specs.Prelude.{filter, is_some, map, nat_lt, ◌==◌}
use Rattle.flag_set.specs.FlagSet.{has}
use Rattle.mail_base.specs.declared.tag.Tag.{Tag}
use Rattle.imap_model.specs.CarriedOut.{only}
use Rattle.imap_model.specs.Carrying.{deleted}
use Rattle.imap_model.specs.Lawful.{broken_rule}
use Rattle.imap_model.specs.Lookups.{box_at, message_at, validity_of}
use Rattle.imap_model.specs.PlainChanges.{with_change}
use Rattle.imap_model.specs.PlainServer.{Choices, Turn, accepted, answered, append_turn, change_turn, closed_told, coded, copied_code, copy_in}
use Rattle.imap_model.specs.PlainServer.{copy_message, copy_turn, denied, expunge_in, expunge_message, expunge_turn, fetch_code, found_in, gone_above}
use Rattle.imap_model.specs.PlainServer.{has_rev2, ids_in, is_closed, is_named, move_in, move_message, move_turn, offers_told, older_told, question_turn, row_if}
use Rattle.imap_model.specs.PlainServer.{row_in, rows_where, any_message, select_told, select_turn, store_in, store_message, store_turn, stored_flags}
use Rattle.imap_model.specs.PlainServer.{text_if, told_above, told_since, turn_of, vanished_of}
use Rattle.imap_model.specs.Remarks.{selected_box}
use Rattle.imap_model.specs.ToldRows.{ids_of, row_of}
use Rattle.imap_model.specs.UidLists.{set_of}
use Rattle.imap_model.specs.declared.code.Code.{Code}
use Rattle.imap_model.specs.declared.code.Code.TheVariants as codings
use Rattle.imap_model.specs.declared.command.Command.{Command}
use Rattle.imap_model.specs.declared.command.Command.TheVariants as commands
use Rattle.imap_model.specs.declared.deed.Author.TheVariants.{Ours}
use Rattle.imap_model.specs.declared.deed.Change.{Change}
use Rattle.imap_model.specs.declared.deed.Change.TheVariants as changes
use Rattle.imap_model.specs.declared.ending.Ending.{Ending}
use Rattle.imap_model.specs.declared.ending.Ending.TheVariants as endings
use Rattle.imap_model.specs.declared.fetched.Fetched.{Fetched}
use Rattle.imap_model.specs.declared.mark.Mark.{Mark}
use Rattle.imap_model.specs.declared.replies.Replies.{Replies}
use Rattle.imap_model.specs.declared.response.Response.{Response}
use Rattle.imap_model.specs.declared.response.Response.TheVariants as responses
use Rattle.imap_model.specs.declared.server.Mailbox.{Mailbox}
use Rattle.imap_model.specs.declared.server.Message.{Message}
use Rattle.imap_model.specs.declared.server.Server.{Server}
use Rattle.server_mem.specs.States.{State, muted_code, turn_at}
use Rattle.play_driver.specs.Granting.{HasWhatItNeeds}
use Rattle.play_driver.specs.Refusals.{DeniesQuestion, IsBye, NeverTold}
use Rattle.play_driver.specs.Serving.{AllowsLogin, IsFit, Provides, Serves}
use Rattle.mail_drill.specs.Offering.{OffersAll}

-- a response that says BYE, or completes a command
abbrev pub IsEnd : Response → Type 0
IsEnd (responses.Done tag ending code) = Unit {0}
IsEnd (responses.Untagged ending code) = ⊥
IsEnd responses.Bye = Unit {0}
IsEnd (responses.Preauth code) = ⊥
IsEnd responses.Go = ⊥
IsEnd (responses.Capability words) = ⊥
IsEnd (responses.Enabled words) = ⊥
IsEnd (responses.Exists count) = ⊥
IsEnd (responses.Fetch fetched) = ⊥
IsEnd (responses.Vanished earlier uids) = ⊥
IsEnd (responses.Found uids) = ⊥
IsEnd responses.Other = ⊥

pub bye_ends : (r : Response) → IsBye r → IsEnd r
bye_ends r is = subst IsEnd (sym is) tt

denial_ends : (r : Response) → DeniesQuestion r → IsEnd r
denial_ends (responses.Done tag ending code) d = tt
denial_ends (responses.Untagged ending code) d = d
denial_ends responses.Bye d = tt
denial_ends (responses.Preauth code) d = d
denial_ends responses.Go d = d
denial_ends (responses.Capability words) d = d
denial_ends (responses.Enabled words) d = d
denial_ends (responses.Exists count) d = d
denial_ends (responses.Fetch fetched) d = d
denial_ends (responses.Vanished earlier uids) d = d
denial_ends (responses.Found uids) d = d
denial_ends responses.Other d = d

-- what is never told
never_weaker : (P Q : Response → Type 0) → ((r : Response) → Q r → P r) → (rs : List Response) → NeverTold P rs → NeverTold Q rs
never_weaker P Q weaker [] never = tt
never_weaker P Q weaker (r ∷ rs) never = (λ q. never.0 (weaker r q), never_weaker P Q weaker rs never.1)

both_never : (P : Response → Type 0) (xs ys : List Response) → NeverTold P xs → NeverTold P ys → NeverTold P (xs ++ ys)
both_never P [] ys a b = b
both_never P (x ∷ xs) ys a b = (a.0, both_never P xs ys a.1 b)

-- so it is of what is told before a completion
abbrev NoEnds : List Response → Type 0
NoEnds rs = NeverTold IsEnd rs

if_none : (b : Bool) (xs ys : List Response) → NoEnds xs → NoEnds ys → NoEnds (if b then xs else ys)
if_none true xs ys p q = p
if_none false xs ys p q = q

fetched_none : (f : Message → Fetched) (ms : List Message) → NoEnds (map (λ (m : Message). responses.Fetch (f m)) ms)
fetched_none f [] = tt
fetched_none f (m ∷ ms) = (λ e. e, fetched_none f ms)

row_none : (m : Option Message) → NoEnds (row_if m)
row_none None = tt
row_none (Some m) = (λ e. e, tt)

text_none : (m : Option Message) → NoEnds (text_if m)
text_none None = tt
text_none (Some m) = (λ e. e, tt)

row_in_none : (uid : ℕ) (box : Option Mailbox) → NoEnds (row_in uid box)
row_in_none uid None = tt
row_in_none uid (Some b) = row_none (message_at uid b.messages)

offers_none : (words : List (List ℕ)) → NoEnds (offers_told words)
offers_none [] = tt
offers_none (word ∷ words) = (λ e. e, tt)

vanished_none : (uids : List ℕ) → NoEnds (vanished_of uids)
vanished_none [] = tt
vanished_none (uid ∷ uids) = (λ e. e, tt)

above_none : (modseq : ℕ) (b : Mailbox) → NoEnds (told_above modseq b)
above_none modseq b =
    both_never IsEnd (vanished_of (gone_above modseq b.gone)) (rows_where (λ (m : Message). nat_lt modseq m.modseq) b.messages)
    (vanished_none (gone_above modseq b.gone)) (fetched_none row_of (filter (λ (m : Message). nat_lt modseq m.modseq) b.messages))

since_none : (since : Option Mark) (b : Mailbox) → NoEnds (told_since since b)
since_none None b = tt
since_none (Some mark) b = if_none (mark.validity == b.validity) (told_above mark.modseq b) [] (above_none mark.modseq b) tt

older_none : (c : Choices) → NoEnds (older_told c)
older_none c = if_none (has_rev2 c) [] (responses.Other ∷ responses.Other ∷ responses.Other ∷ []) tt (λ e. e, (λ e. e, (λ e. e, tt)))

closed_none : (selected : Option (List ℕ)) → NoEnds (closed_told selected)
closed_none None = tt
closed_none (Some name) = (λ e. e, tt)

select_none : (c : Choices) (since : Option Mark) (b : Mailbox) → NoEnds (select_told c since b)
select_none c since b =
    let more = both_never IsEnd (older_told c) (told_since since b) (older_none c) (since_none since b) in
    (λ e. e, (λ e. e, (λ e. e, (λ e. e, (λ e. e, more)))))

-- and of each turn
abbrev IsQuiet : Turn → Type 0
IsQuiet t = NoEnds t.replies.untagged

either : (b : Bool) (x y : Turn) → IsQuiet x → IsQuiet y → IsQuiet (if b then x else y)
either true x y p q = p
either false x y p q = q

module _ (s : Server) where
  change_quiet : (selected : Option (List ℕ)) (tag : Tag) (name : List ℕ) (change : Change) (reply : Server → Replies) →
      ((t : Server) → NoEnds (reply t).untagged) → IsQuiet (change_turn selected tag name change s reply)
  change_quiet selected tag name change reply none =
      either (is_some (broken_rule s.boxes name change)) (answered selected s (denied codings.Other))
      (answered selected (with_change (Ours tag) name change s) (reply (with_change (Ours tag) name change s))) tt
      (none (with_change (Ours tag) name change s))

  select_quiet : (c : Choices) (selected : Option (List ℕ)) (name : List ℕ) (since : Option Mark) (box : Option Mailbox) →
      IsQuiet (select_turn c selected name since s box)
  select_quiet c selected name since None = tt
  select_quiet c selected name since (Some b) =
      both_never IsEnd (closed_told selected) (select_told c since b) (closed_none selected) (select_none c since b)

  question_quiet : (selected : Option (List ℕ)) (reply : Mailbox → Replies) → ((b : Mailbox) → NoEnds (reply b).untagged) →
      (box : Option Mailbox) → IsQuiet (question_turn selected s reply box)
  question_quiet selected reply none None = tt
  question_quiet selected reply none (Some b) = none b

  store_message_quiet : (name : List ℕ) (tag : Tag) (uid since : ℕ) (add : Bool) (asked : List (List ℕ)) (m : Option Message) →
      IsQuiet (store_message name tag uid since add asked s m)
  store_message_quiet name tag uid since add asked None = tt
  store_message_quiet name tag uid since add asked (Some m) =
      either (nat_lt since m.modseq) _ _ tt
      (change_quiet (Some name) tag name (changes.SetFlags uid (stored_flags add asked m.flags))
      (λ t. accepted (row_in uid (box_at name t.boxes)) codings.None) (λ t. row_in_none uid (box_at name t.boxes)))

  store_in_quiet : (name : List ℕ) (tag : Tag) (uid since : ℕ) (add : Bool) (asked : List (List ℕ)) (box : Option Mailbox) →
      IsQuiet (store_in name tag uid since add asked s box)
  store_in_quiet name tag uid since add asked None = tt
  store_in_quiet name tag uid since add asked (Some b) = store_message_quiet name tag uid since add asked (message_at uid b.messages)

  store_quiet : (selected : Option (List ℕ)) (tag : Tag) (uid since : ℕ) (add : Bool) (asked : List (List ℕ)) →
      IsQuiet (store_turn selected tag uid since add asked s)
  store_quiet None tag uid since add asked = tt
  store_quiet (Some name) tag uid since add asked = store_in_quiet name tag uid since add asked (box_at name s.boxes)

  move_message_quiet : (name : List ℕ) (tag : Tag) (uid : ℕ) (to : List ℕ) (target : Mailbox) (m : Option Message) →
      IsQuiet (move_message name tag uid to s target m)
  move_message_quiet name tag uid to target None = tt
  move_message_quiet name tag uid to target (Some m) =
      change_quiet (Some name) tag name (changes.Shift uid to target.uidnext)
      (λ t. accepted (coded (copied_code uid to target.uidnext t) ∷ responses.Vanished false (only uid) ∷ []) codings.None)
      (λ t. (λ e. e, (λ e. e, tt)))

  move_in_quiet : (name : List ℕ) (tag : Tag) (uid : ℕ) (to : List ℕ) (box target : Option Mailbox) → IsQuiet (move_in name tag uid to s box target)
  move_in_quiet name tag uid to None target = tt
  move_in_quiet name tag uid to (Some b) None = tt
  move_in_quiet name tag uid to (Some b) (Some target) = move_message_quiet name tag uid to target (message_at uid b.messages)

  move_quiet : (selected : Option (List ℕ)) (tag : Tag) (uid : ℕ) (to : List ℕ) → IsQuiet (move_turn selected tag uid to s)
  move_quiet None tag uid to = tt
  move_quiet (Some name) tag uid to = move_in_quiet name tag uid to (box_at name s.boxes) (box_at to s.boxes)

  copy_message_quiet : (name : List ℕ) (tag : Tag) (uid : ℕ) (to : List ℕ) (target : Mailbox) (m : Option Message) →
      IsQuiet (copy_message name tag uid to s target m)
  copy_message_quiet name tag uid to target None = tt
  copy_message_quiet name tag uid to target (Some m) =
      change_quiet (Some name) tag to (changes.Add m.flags m.text target.uidnext) (λ t. accepted [] (copied_code uid to target.uidnext t)) (λ t. tt)

  copy_in_quiet : (name : List ℕ) (tag : Tag) (uid : ℕ) (to : List ℕ) (box target : Option Mailbox) → IsQuiet (copy_in name tag uid to s box target)
  copy_in_quiet name tag uid to None target = tt
  copy_in_quiet name tag uid to (Some b) None = tt
  copy_in_quiet name tag uid to (Some b) (Some target) = copy_message_quiet name tag uid to target (message_at uid b.messages)

  copy_quiet : (selected : Option (List ℕ)) (tag : Tag) (uid : ℕ) (to : List ℕ) → IsQuiet (copy_turn selected tag uid to s)
  copy_quiet None tag uid to = tt
  copy_quiet (Some name) tag uid to = copy_in_quiet name tag uid to (box_at name s.boxes) (box_at to s.boxes)

  expunge_message_quiet : (name : List ℕ) (tag : Tag) (uid : ℕ) (m : Option Message) → IsQuiet (expunge_message name tag uid s m)
  expunge_message_quiet name tag uid None = tt
  expunge_message_quiet name tag uid (Some m) =
      either (has m.flags deleted) _ _
      (change_quiet (Some name) tag name (changes.Drop uid) (λ t. accepted (responses.Vanished false (only uid) ∷ []) codings.None) (λ t. (λ e. e, tt)))
      tt

  expunge_in_quiet : (name : List ℕ) (tag : Tag) (uid : ℕ) (box : Option Mailbox) → IsQuiet (expunge_in name tag uid s box)
  expunge_in_quiet name tag uid None = tt
  expunge_in_quiet name tag uid (Some b) = expunge_message_quiet name tag uid (message_at uid b.messages)

  expunge_quiet : (selected : Option (List ℕ)) (tag : Tag) (uid : ℕ) → IsQuiet (expunge_turn selected tag uid s)
  expunge_quiet None tag uid = tt
  expunge_quiet (Some name) tag uid = expunge_in_quiet name tag uid (box_at name s.boxes)

  append_quiet : (selected : Option (List ℕ)) (tag : Tag) (to : List ℕ) (flags : List (List ℕ)) (text : List ℕ) (box : Option Mailbox) →
      IsQuiet (append_turn selected tag to flags text s box)
  append_quiet selected tag to flags text None = tt
  append_quiet selected tag to flags text (Some b) =
      change_quiet selected tag to (changes.Add flags text b.uidnext) (λ t. accepted [] (codings.AppendUid (validity_of (box_at to t.boxes)) b.uidnext))
      (λ t. tt)

  -- so it is with each command but LOGOUT
  turn_quiet : (c : Choices) (selected : Option (List ℕ)) (tag : Tag) (command : Command) → command ≢ commands.Logout →
      IsQuiet (turn_of c selected tag command s)
  turn_quiet c selected tag commands.Capability other = offers_none c.offers
  turn_quiet c selected tag (commands.Login account) other = tt
  turn_quiet c selected tag (commands.Plain account) other = tt
  turn_quiet c selected tag (commands.Enable rev2) other = (λ e. e, tt)
  turn_quiet c selected tag (commands.Select name since) other = select_quiet c selected name since (box_at name s.boxes)
  turn_quiet c selected tag commands.FetchAll other =
      question_quiet selected (λ b. accepted (rows_where any_message b.messages) (fetch_code c b))
      (λ b. fetched_none row_of (filter any_message b.messages)) (selected_box selected s.boxes)
  turn_quiet c selected tag (commands.FetchRow uid) other =
      question_quiet selected (λ b. accepted (row_if (message_at uid b.messages)) (fetch_code c b)) (λ b. row_none (message_at uid b.messages))
      (selected_box selected s.boxes)
  turn_quiet c selected tag (commands.Search from id) other =
      question_quiet selected (λ b. accepted (responses.Found (set_of (found_in from id b.messages)) ∷ []) codings.None) (λ b. (λ e. e, tt))
      (selected_box selected s.boxes)
  turn_quiet c selected tag (commands.FetchIds uids) other =
      question_quiet selected (λ b. accepted (ids_in uids b.messages) (fetch_code c b))
      (λ b. fetched_none ids_of (filter (is_named uids) b.messages)) (selected_box selected s.boxes)
  turn_quiet c selected tag (commands.FetchText uid) other =
      question_quiet selected (λ b. accepted (text_if (message_at uid b.messages)) (fetch_code c b)) (λ b. text_none (message_at uid b.messages))
      (selected_box selected s.boxes)
  turn_quiet c selected tag (commands.Store uid since add flags) other = store_quiet selected tag uid since add flags
  turn_quiet c selected tag (commands.Shift uid to) other = move_quiet selected tag uid to
  turn_quiet c selected tag (commands.Copy uid to) other = copy_quiet selected tag uid to
  turn_quiet c selected tag (commands.Expunge uid) other = expunge_quiet selected tag uid
  turn_quiet c selected tag (commands.Append to flags text) other =
      either (is_closed c.closed to) _ _ tt (append_quiet selected tag to flags text (box_at to s.boxes))
  turn_quiet c selected tag commands.Logout other = absurd (other refl)

  -- what has what it needs is granted
  select_grants : (c : Choices) (selected : Option (List ℕ)) (name : List ℕ) (since : Option Mark) (box : Option Mailbox) → box ≢ None →
      (select_turn c selected name since s box).replies.ending ≡ endings.Ok
  select_grants c selected name since None there = absurd (there refl)
  select_grants c selected name since (Some b) there = refl

  question_grants : (selected : Option (List ℕ)) (reply : Mailbox → Replies) → ((b : Mailbox) → (reply b).ending ≡ endings.Ok) →
      (box : Option Mailbox) → box ≢ None → (question_turn selected s reply box).replies.ending ≡ endings.Ok
  question_grants selected reply accepts None there = absurd (there refl)
  question_grants selected reply accepts (Some b) there = accepts b

  turn_grants : (c : Choices) (selected : Option (List ℕ)) (tag : Tag) (command : Command) → HasWhatItNeeds command selected s →
      (turn_of c selected tag command s).replies.ending ≡ endings.Ok
  turn_grants c selected tag commands.Capability needs = refl
  turn_grants c selected tag (commands.Login account) needs = refl
  turn_grants c selected tag (commands.Plain account) needs = refl
  turn_grants c selected tag (commands.Enable rev2) needs = refl
  turn_grants c selected tag (commands.Select name since) needs = select_grants c selected name since (box_at name s.boxes) needs
  turn_grants c selected tag commands.FetchAll needs =
      question_grants selected (λ b. accepted (rows_where any_message b.messages) (fetch_code c b)) (λ b. refl) (selected_box selected s.boxes) needs
  turn_grants c selected tag (commands.FetchRow uid) needs =
      question_grants selected (λ b. accepted (row_if (message_at uid b.messages)) (fetch_code c b)) (λ b. refl) (selected_box selected s.boxes) needs
  turn_grants c selected tag (commands.Search from id) needs =
      question_grants selected (λ b. accepted (responses.Found (set_of (found_in from id b.messages)) ∷ []) codings.None) (λ b. refl) (selected_box selected s.boxes) needs
  turn_grants c selected tag (commands.FetchIds uids) needs =
      question_grants selected (λ b. accepted (ids_in uids b.messages) (fetch_code c b)) (λ b. refl) (selected_box selected s.boxes) needs
  turn_grants c selected tag (commands.FetchText uid) needs =
      question_grants selected (λ b. accepted (text_if (message_at uid b.messages)) (fetch_code c b)) (λ b. refl) (selected_box selected s.boxes) needs
  turn_grants c selected tag (commands.Store uid since add flags) needs = absurd needs
  turn_grants c selected tag (commands.Shift uid to) needs = absurd needs
  turn_grants c selected tag (commands.Copy uid to) needs = absurd needs
  turn_grants c selected tag (commands.Expunge uid) needs = absurd needs
  turn_grants c selected tag (commands.Append to flags text) needs = absurd needs
  turn_grants c selected tag commands.Logout needs = refl

-- no question is denied by an OK
ok_denies : (tag : Tag) (ending : Ending) (code : Code) → ending ≡ endings.Ok → DeniesQuestion (responses.Done tag ending code) → ⊥
ok_denies tag ending code ok denies = denies.1 ok

done_is_no_bye : (tag : Tag) (ending : Ending) (code : Code) → IsBye (responses.Done tag ending code) → ⊥
done_is_no_bye tag ending code is = cc

quiet_denies : (c : Choices) (selected : Option (List ℕ)) (tag : Tag) (command : Command) (s : Server) → command ≢ commands.Logout →
    NeverTold DeniesQuestion (turn_of c selected tag command s).replies.untagged
quiet_denies c selected tag command s other = never_weaker IsEnd DeniesQuestion denial_ends _ (turn_quiet s c selected tag command other)

untagged_denies : (c : Choices) (selected : Option (List ℕ)) (tag : Tag) (command : Command) (s : Server) →
    NeverTold DeniesQuestion (turn_of c selected tag command s).replies.untagged
untagged_denies c selected tag commands.Capability s = quiet_denies c selected tag commands.Capability s (λ is. cc)
untagged_denies c selected tag (commands.Login account) s = quiet_denies c selected tag (commands.Login account) s (λ is. cc)
untagged_denies c selected tag (commands.Plain account) s = quiet_denies c selected tag (commands.Plain account) s (λ is. cc)
untagged_denies c selected tag (commands.Enable rev2) s = quiet_denies c selected tag (commands.Enable rev2) s (λ is. cc)
untagged_denies c selected tag (commands.Select name since) s = quiet_denies c selected tag (commands.Select name since) s (λ is. cc)
untagged_denies c selected tag commands.FetchAll s = quiet_denies c selected tag commands.FetchAll s (λ is. cc)
untagged_denies c selected tag (commands.FetchRow uid) s = quiet_denies c selected tag (commands.FetchRow uid) s (λ is. cc)
untagged_denies c selected tag (commands.Search from id) s = quiet_denies c selected tag (commands.Search from id) s (λ is. cc)
untagged_denies c selected tag (commands.FetchIds uids) s = quiet_denies c selected tag (commands.FetchIds uids) s (λ is. cc)
untagged_denies c selected tag (commands.FetchText uid) s = quiet_denies c selected tag (commands.FetchText uid) s (λ is. cc)
untagged_denies c selected tag (commands.Store uid since add flags) s = quiet_denies c selected tag (commands.Store uid since add flags) s (λ is. cc)
untagged_denies c selected tag (commands.Shift uid to) s = quiet_denies c selected tag (commands.Shift uid to) s (λ is. cc)
untagged_denies c selected tag (commands.Copy uid to) s = quiet_denies c selected tag (commands.Copy uid to) s (λ is. cc)
untagged_denies c selected tag (commands.Expunge uid) s = quiet_denies c selected tag (commands.Expunge uid) s (λ is. cc)
untagged_denies c selected tag (commands.Append to flags text) s = quiet_denies c selected tag (commands.Append to flags text) s (λ is. cc)
untagged_denies c selected tag commands.Logout s = (λ denies. denies, tt)

-- a code that isn't left out
muted_none : (muted : Bool) → muted_code muted codings.None ≡ codings.None
muted_none true = refl
muted_none false = refl

abbrev offered_as : List (List ℕ) → Code → Replies
offered_as offers code = record { untagged = offers_told offers; ending = endings.Ok; code = code }

-- what is needed is provided
provides : (s : State) → OffersAll s.choices → (told : List Response) (tag : Tag) (command : Command) → Provides told command tag (turn_at s tag command).replies
provides s all told tag commands.Capability = (
  λ first begins. subst (λ (code : Code). AllowsLogin (offered_as s.choices.offers code)) (sym (muted_none s.muted)) all.login,
  λ later. subst (λ (code : Code). IsFit (offered_as s.choices.offers code)) (sym (muted_none s.muted)) all.fit,
)
provides s all told tag (commands.Login account) = tt
provides s all told tag (commands.Plain account) = tt
provides s all told tag (commands.Enable rev2) = all.enables rev2
provides s all told tag (commands.Select name since) = tt
provides s all told tag commands.FetchAll = tt
provides s all told tag (commands.FetchRow uid) = tt
provides s all told tag (commands.Search from id) = tt
provides s all told tag (commands.FetchIds uids) = tt
provides s all told tag (commands.FetchText uid) = tt
provides s all told tag (commands.Store uid since add flags) = tt
provides s all told tag (commands.Shift uid to) = tt
provides s all told tag (commands.Copy uid to) = tt
provides s all told tag (commands.Expunge uid) = tt
provides s all told tag (commands.Append to flags text) = tt
provides s all told tag commands.Logout = tt

-- so what it tells for a command serves
pub turn_serves : (s : State) → OffersAll s.choices → (told : List Response) (tag : Tag) (command : Command) →
    Serves told (record { selected = s.selected; tag = tag; command = command }) s.server (turn_at s tag command).replies
turn_serves s all told tag command =
    let r = (turn_at s tag command).replies in
    record {
      grants = λ needs.
          both_never DeniesQuestion r.untagged (responses.Done tag r.ending r.code ∷ []) (untagged_denies s.choices s.selected tag command s.server)
          (λ denies. ok_denies tag r.ending r.code (turn_grants s.server s.choices s.selected tag command needs) denies, tt);
      remains = λ other.
          both_never IsBye r.untagged (responses.Done tag r.ending r.code ∷ [])
          (never_weaker IsEnd IsBye bye_ends r.untagged (turn_quiet s.server s.choices s.selected tag command other))
          (λ is. done_is_no_bye tag r.ending r.code is, tt);
      provides = λ ok. provides s all told tag command;
    }
