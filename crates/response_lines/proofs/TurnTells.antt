-- All that a turn tells can be told.
use Rattle.std.proofs.Common.{◌≡◌, ℕ, ◌+◌, Bool, true, false, cond, not, List, [], ◌∷◌, ◌++◌, Option, Some, None, refl, ◌∙◌, ap, map}
use Rattle.std.specs.Prelude.{◌≢◌, ◌==◌, filter, nat_lt, codes, is_some, if◌then◌else◌}
use Rattle.std.specs.List.{AllByRecursion}
use Rattle.flag_set.specs.FlagKey.{recent}
use Rattle.flag_set.specs.FlagSet.{has}
use Rattle.mail_base.specs.declared.tag.Tag.{Tag}
use Rattle.uid_sets.specs.declared.uid.UidRange.{UidRange}
use Rattle.imap_model.specs.CarriedOut.{only, told_in}
use Rattle.imap_model.specs.Carrying.{deleted}
use Rattle.imap_model.specs.Lawful.{broken_rule}
use Rattle.imap_model.specs.Lookups.{box_at, message_at, validity_of}
use Rattle.imap_model.specs.PlainChanges.{with_change}
use Rattle.imap_model.specs.PlainServer as plain
use Rattle.imap_model.specs.Remarks.{selected_box}
use Rattle.imap_model.specs.TagText.{IsCommandTag}
use Rattle.imap_model.specs.ToldRows.{told_flags, row_of, ids_of}
use Rattle.imap_model.specs.UidLists.{in_front, put_uid, ranges_of, in_order, set_of}
use Rattle.imap_model.specs.declared.code.Code.TheVariants as codings
use Rattle.imap_model.specs.declared.command.Command.{Command}
use Rattle.imap_model.specs.declared.command.Command.TheVariants as commands
use Rattle.imap_model.specs.declared.deed.Author.TheVariants.{Ours}
use Rattle.imap_model.specs.declared.deed.Change.{Change}
use Rattle.imap_model.specs.declared.deed.Change.TheVariants as changes
use Rattle.imap_model.specs.declared.mark.Mark.{Mark}
use Rattle.imap_model.specs.declared.replies.Replies.{Replies}
use Rattle.imap_model.specs.declared.response.Response.TheVariants as responses
use Rattle.imap_model.specs.declared.server.Message.{Message}
use Rattle.imap_model.specs.declared.server.Mailbox.{Mailbox}
use Rattle.imap_model.specs.declared.server.Server.{Server}
use Rattle.response_lines.specs.Tellable.{AreTellable, IsAtomic, IsTellable, IsTellableCode, LacksRecent}

record Tells (r : Replies) : Type 0 where
  untagged : AreTellable r.untagged
  code : IsTellableCode r.code

all_append : {A : Type 0} (P : A → Type 0) (xs ys : List A) → AllByRecursion P xs → AllByRecursion P ys → AllByRecursion P (xs ++ ys)
all_append P [] ys a b = b
all_append P (x ∷ xs) ys a b = (a.0, all_append P xs ys a.1 b)

either : {A : Type 0} (P : A → Type 0) (b : Bool) (x y : A) → P x → P y → P (if b then x else y)
either P true x y p q = p
either P false x y p q = q

all_filter : {A : Type 0} (P : A → Type 0) (p : A → Bool) (xs : List A) → AllByRecursion P xs → AllByRecursion P (filter p xs)
all_filter P p [] all = tt
all_filter P p (x ∷ xs) all = either (AllByRecursion P) (p x) (x ∷ filter p xs) (filter p xs) (all.0, all_filter P p xs all.1) (all_filter P p xs all.1)

-- the flags that are left lack `\Recent`
filter_again : (p : List ℕ → Bool) (xs : List (List ℕ)) → filter p (filter p xs) ≡ filter p xs
filter_again p [] = refl
filter_again p (x ∷ xs) = elim (p x) as (λ b. p x ≡ b → filter p (cond b (x ∷ filter p xs) (filter p xs)) ≡ cond b (x ∷ filter p xs) (filter p xs)) [
  | true ↦ λ e. ap (λ b. cond b (x ∷ filter p (filter p xs)) (filter p (filter p xs))) e ∙ ap (λ l. x ∷ l) (filter_again p xs)
  | false ↦ λ e. filter_again p xs
] refl

lacks : (flags : List (List ℕ)) → LacksRecent (told_flags flags)
lacks flags = filter_again (λ key. not (has (recent ∷ []) key)) flags

-- sets with a member
either_some : {A : Type 0} (b : Bool) (x y : A) (xs ys : List A) → (if b then x ∷ xs else y ∷ ys) ≢ []
either_some true x y xs ys e = cc
either_some false x y xs ys e = cc

front_some : (uid : ℕ) (ranges : List UidRange) → in_front uid ranges ≢ []
front_some uid [] e = cc
front_some uid (r ∷ ranges) e = either_some (r.low == uid + 1) _ _ _ _ e

ranges_some : (uids : List ℕ) → uids ≢ [] → ranges_of uids ≢ []
ranges_some [] some e = some refl
ranges_some (uid ∷ uids) some e = front_some uid (ranges_of uids) e

put_either : (above same : Bool) (uid next : ℕ) (uids more : List ℕ) → (if above then uid ∷ next ∷ uids else (if same then next ∷ uids else next ∷ more)) ≢ []
put_either true same uid next uids more e = cc
put_either false true uid next uids more e = cc
put_either false false uid next uids more e = cc

put_some : (uid : ℕ) (uids : List ℕ) → put_uid uid uids ≢ []
put_some uid [] e = cc
put_some uid (next ∷ uids) e = put_either (nat_lt uid next) (uid == next) uid next uids (put_uid uid uids) e

set_some : (uid : ℕ) (uids : List ℕ) → set_of (uid ∷ uids) ≢ []
set_some uid uids = ranges_some (put_uid uid (in_order uids)) (put_some uid (in_order uids))

-- what is told of messages
row_tells : (m : Message) → IsTellable (responses.Fetch (row_of m))
row_tells m = lacks m.flags

rows_tell : (messages : List Message) → AreTellable (map (λ m. responses.Fetch (row_of m)) messages)
rows_tell [] = tt
rows_tell (m ∷ messages) = (row_tells m, rows_tell messages)

ids_tell : (messages : List Message) → AreTellable (map (λ m. responses.Fetch (ids_of m)) messages)
ids_tell [] = tt
ids_tell (m ∷ messages) = (tt, ids_tell messages)

if_tells : (o : Option Message) → AreTellable (plain.row_if o)
if_tells None = tt
if_tells (Some m) = (row_tells m, tt)

in_tells : (uid : ℕ) (o : Option Mailbox) → AreTellable (plain.row_in uid o)
in_tells uid None = tt
in_tells uid (Some b) = if_tells (message_at uid b.messages)

text_tells : (o : Option Message) → AreTellable (plain.text_if o)
text_tells None = tt
text_tells (Some m) = (tt, tt)

-- what a SELECT tells
vanished_tells : (uids : List ℕ) → AreTellable (plain.vanished_of uids)
vanished_tells [] = tt
vanished_tells (uid ∷ uids) = (set_some uid uids, tt)

since_tells : (since : Option Mark) (b : Mailbox) → AreTellable (plain.told_since since b)
since_tells None b = tt
since_tells (Some mark) b =
    either AreTellable (mark.validity == b.validity) (plain.told_above mark.modseq b) []
    (all_append IsTellable (plain.vanished_of (plain.gone_above mark.modseq b.gone)) _
    (vanished_tells (plain.gone_above mark.modseq b.gone)) (rows_tell (filter (λ m. nat_lt mark.modseq m.modseq) b.messages))) tt

older_tells : (c : plain.Choices) → AreTellable (plain.older_told c)
older_tells c = either AreTellable (plain.has_rev2 c) [] (responses.Other ∷ responses.Other ∷ responses.Other ∷ []) tt (tt, (tt, (tt, tt)))

closed_tells : (selected : Option (List ℕ)) → AreTellable (plain.closed_told selected)
closed_tells None = tt
closed_tells (Some name) = (tt, tt)

select_tells : (c : plain.Choices) (selected : Option (List ℕ)) (name : List ℕ) (since : Option Mark) (s : Server) (o : Option Mailbox) →
    Tells (plain.select_turn c selected name since s o).replies
select_tells c selected name since s None = record { untagged = tt; code = tt }
select_tells c selected name since s (Some b) = record {
  untagged = all_append IsTellable (plain.closed_told selected) (plain.select_told c since b) (closed_tells selected)
      (tt, (lacks c.flags, (tt, (tt, (tt, all_append IsTellable (plain.older_told c) (plain.told_since since b) (older_tells c) (since_tells since b))))));
  code = tt;
}

-- questions
code_tells : (c : plain.Choices) (b : Mailbox) → IsTellableCode (plain.fetch_code c b)
code_tells c b = either IsTellableCode (plain.has_rev2 c) codings.None (codings.HighestModSeq b.highest) tt tt

question_tells : (selected : Option (List ℕ)) (s : Server) (reply : Mailbox → Replies) (o : Option Mailbox) →
    ((b : Mailbox) → Tells (reply b)) → Tells (plain.question_turn selected s reply o).replies
question_tells selected s reply None each = record { untagged = tt; code = tt }
question_tells selected s reply (Some b) each = each b

-- changes
change_tells : (selected : Option (List ℕ)) (tag : Tag) (name : List ℕ) (change : Change) (s : Server) (reply : Server → Replies) →
    ((t : Server) → Tells (reply t)) → Tells (plain.change_turn selected tag name change s reply).replies
change_tells selected tag name change s reply each =
    either (λ (t : plain.Turn). Tells t.replies) (is_some (broken_rule s.boxes name change)) (plain.answered selected s (plain.denied codings.Other))
    (plain.answered selected (with_change (Ours tag) name change s) (reply (with_change (Ours tag) name change s)))
    (record { untagged = tt; code = tt }) (each (with_change (Ours tag) name change s))

one_some : (uid : ℕ) → only uid ≢ []
one_some uid e = cc

store_tells : (name : List ℕ) (tag : Tag) (uid since : ℕ) (add : Bool) (asked : List (List ℕ)) (s : Server) (o : Option Message) →
    Tells (plain.store_message name tag uid since add asked s o).replies
store_tells name tag uid since add asked s None = record { untagged = tt; code = tt }
store_tells name tag uid since add asked s (Some m) =
    let change : Change = changes.SetFlags uid (plain.stored_flags add asked m.flags) in
    let reply : Server → Replies = λ t. plain.accepted (plain.row_in uid (box_at name t.boxes)) codings.None in
    either (λ (t : plain.Turn). Tells t.replies) (nat_lt since m.modseq)
    (plain.answered (Some name) s (plain.denied (codings.Modified (only uid)))) (plain.change_turn (Some name) tag name change s reply)
    (record { untagged = tt; code = one_some uid }) (change_tells (Some name) tag name change s reply
    (λ t. record { untagged = in_tells uid (box_at name t.boxes); code = tt }))

store_in_tells : (name : List ℕ) (tag : Tag) (uid since : ℕ) (add : Bool) (asked : List (List ℕ)) (s : Server) (o : Option Mailbox) →
    Tells (plain.store_in name tag uid since add asked s o).replies
store_in_tells name tag uid since add asked s None = record { untagged = tt; code = tt }
store_in_tells name tag uid since add asked s (Some b) = store_tells name tag uid since add asked s (message_at uid b.messages)

store_turn_tells : (selected : Option (List ℕ)) (tag : Tag) (uid since : ℕ) (add : Bool) (asked : List (List ℕ)) (s : Server) →
    Tells (plain.store_turn selected tag uid since add asked s).replies
store_turn_tells None tag uid since add asked s = record { untagged = tt; code = tt }
store_turn_tells (Some name) tag uid since add asked s = store_in_tells name tag uid since add asked s (box_at name s.boxes)

move_tells : (name : List ℕ) (tag : Tag) (uid : ℕ) (to : List ℕ) (s : Server) (target : Mailbox) (o : Option Message) →
    Tells (plain.move_message name tag uid to s target o).replies
move_tells name tag uid to s target None = record { untagged = tt; code = tt }
move_tells name tag uid to s target (Some m) =
    let reply : Server → Replies = λ t. plain.accepted (plain.coded (plain.copied_code uid to target.uidnext t) ∷ responses.Vanished false
    (only uid) ∷ []) codings.None in
    change_tells (Some name) tag name (changes.Shift uid to target.uidnext) s reply
    (λ t. record { untagged = ((one_some uid, one_some target.uidnext), (one_some uid, tt)); code = tt })

move_in_tells : (name : List ℕ) (tag : Tag) (uid : ℕ) (to : List ℕ) (s : Server) (o target : Option Mailbox) →
    Tells (plain.move_in name tag uid to s o target).replies
move_in_tells name tag uid to s None target = record { untagged = tt; code = tt }
move_in_tells name tag uid to s (Some b) None = record { untagged = tt; code = tt }
move_in_tells name tag uid to s (Some b) (Some target) = move_tells name tag uid to s target (message_at uid b.messages)

move_turn_tells : (selected : Option (List ℕ)) (tag : Tag) (uid : ℕ) (to : List ℕ) (s : Server) → Tells (plain.move_turn selected tag uid to s).replies
move_turn_tells None tag uid to s = record { untagged = tt; code = tt }
move_turn_tells (Some name) tag uid to s = move_in_tells name tag uid to s (box_at name s.boxes) (box_at to s.boxes)

copy_tells : (name : List ℕ) (tag : Tag) (uid : ℕ) (to : List ℕ) (s : Server) (target : Mailbox) (o : Option Message) →
    Tells (plain.copy_message name tag uid to s target o).replies
copy_tells name tag uid to s target None = record { untagged = tt; code = tt }
copy_tells name tag uid to s target (Some m) =
    let reply : Server → Replies = λ t. plain.accepted [] (plain.copied_code uid to target.uidnext t) in
    change_tells (Some name) tag to (changes.Add m.flags m.text target.uidnext) s reply
    (λ t. record { untagged = tt; code = (one_some uid, one_some target.uidnext) })

copy_in_tells : (name : List ℕ) (tag : Tag) (uid : ℕ) (to : List ℕ) (s : Server) (o target : Option Mailbox) →
    Tells (plain.copy_in name tag uid to s o target).replies
copy_in_tells name tag uid to s None target = record { untagged = tt; code = tt }
copy_in_tells name tag uid to s (Some b) None = record { untagged = tt; code = tt }
copy_in_tells name tag uid to s (Some b) (Some target) = copy_tells name tag uid to s target (message_at uid b.messages)

copy_turn_tells : (selected : Option (List ℕ)) (tag : Tag) (uid : ℕ) (to : List ℕ) (s : Server) → Tells (plain.copy_turn selected tag uid to s).replies
copy_turn_tells None tag uid to s = record { untagged = tt; code = tt }
copy_turn_tells (Some name) tag uid to s = copy_in_tells name tag uid to s (box_at name s.boxes) (box_at to s.boxes)

expunge_tells : (name : List ℕ) (tag : Tag) (uid : ℕ) (s : Server) (o : Option Message) → Tells (plain.expunge_message name tag uid s o).replies
expunge_tells name tag uid s None = record { untagged = tt; code = tt }
expunge_tells name tag uid s (Some m) =
    let reply : Server → Replies = λ t. plain.accepted (responses.Vanished false (only uid) ∷ []) codings.None in
    either (λ (t : plain.Turn). Tells t.replies) (has m.flags deleted) (plain.change_turn (Some name) tag name (changes.Drop uid) s reply)
    (plain.answered (Some name) s (plain.accepted [] codings.None))
    (change_tells (Some name) tag name (changes.Drop uid) s reply (λ t. record { untagged = (one_some uid, tt); code = tt }))
    (record { untagged = tt; code = tt })

expunge_in_tells : (name : List ℕ) (tag : Tag) (uid : ℕ) (s : Server) (o : Option Mailbox) → Tells (plain.expunge_in name tag uid s o).replies
expunge_in_tells name tag uid s None = record { untagged = tt; code = tt }
expunge_in_tells name tag uid s (Some b) = expunge_tells name tag uid s (message_at uid b.messages)

expunge_turn_tells : (selected : Option (List ℕ)) (tag : Tag) (uid : ℕ) (s : Server) → Tells (plain.expunge_turn selected tag uid s).replies
expunge_turn_tells None tag uid s = record { untagged = tt; code = tt }
expunge_turn_tells (Some name) tag uid s = expunge_in_tells name tag uid s (box_at name s.boxes)

append_tells : (selected : Option (List ℕ)) (tag : Tag) (to : List ℕ) (flags : List (List ℕ)) (text : List ℕ) (s : Server)
    (o : Option Mailbox) → Tells (plain.append_turn selected tag to flags text s o).replies
append_tells selected tag to flags text s None = record { untagged = tt; code = tt }
append_tells selected tag to flags text s (Some b) =
    let reply : Server → Replies = λ t. plain.accepted [] (codings.AppendUid (validity_of (box_at to t.boxes)) b.uidnext) in
    change_tells selected tag to (changes.Add flags text b.uidnext) s reply (λ t. record { untagged = tt; code = tt })

-- what is offered
offers_tell : (offers : List (List ℕ)) → AllByRecursion IsAtomic offers → AreTellable (plain.offers_told offers)
offers_tell [] all = tt
offers_tell (word ∷ words) all = ((λ e. cc, all), tt)

enabled_tell : (c : plain.Choices) (rev2 : Bool) → AllByRecursion IsAtomic (plain.enabled_names c rev2)
enabled_tell c true = all_filter IsAtomic (plain.is_offered c.offers) (codes "IMAP4rev2" ∷ codes "QRESYNC" ∷ []) ((λ e. cc, refl), ((λ e. cc, refl), tt))
enabled_tell c false = all_filter IsAtomic (plain.is_offered c.offers) (codes "QRESYNC" ∷ []) ((λ e. cc, refl), tt)

turn_tells : (c : plain.Choices) (selected : Option (List ℕ)) (tag : Tag) (command : Command) (s : Server) →
    AllByRecursion IsAtomic c.offers → Tells (plain.turn_of c selected tag command s).replies
turn_tells c selected tag commands.Capability s all = record { untagged = offers_tell c.offers all; code = tt }
turn_tells c selected tag (commands.Login account) s all = record { untagged = tt; code = tt }
turn_tells c selected tag (commands.Plain account) s all = record { untagged = tt; code = tt }
turn_tells c selected tag (commands.Enable rev2) s all = record { untagged = (enabled_tell c rev2, tt); code = tt }
turn_tells c selected tag (commands.Select name since) s all = select_tells c selected name since s (box_at name s.boxes)
turn_tells c selected tag commands.FetchAll s all =
    question_tells selected s _ (selected_box selected s.boxes) (λ b. record {
      untagged =
          rows_tell (filter plain.any_message b.messages);
      code = code_tells c b;
    })
turn_tells c selected tag (commands.FetchRow uid) s all =
    question_tells selected s _ (selected_box selected s.boxes) (λ b. record { untagged = if_tells (message_at uid b.messages); code = code_tells c b })
turn_tells c selected tag (commands.Search from id) s all =
    question_tells selected s _ (selected_box selected s.boxes) (λ b. record { untagged = (tt, tt); code = tt })
turn_tells c selected tag (commands.FetchIds uids) s all =
    question_tells selected s _ (selected_box selected s.boxes) (λ b. record {
      untagged =
          ids_tell (filter (plain.is_named uids) b.messages);
      code = code_tells c b;
    })
turn_tells c selected tag (commands.FetchText uid) s all =
    question_tells selected s _ (selected_box selected s.boxes) (λ b. record { untagged = text_tells (message_at uid b.messages); code = code_tells c b })
turn_tells c selected tag (commands.Store uid since add flags) s all = store_turn_tells selected tag uid since add flags s
turn_tells c selected tag (commands.Shift uid to) s all = move_turn_tells selected tag uid to s
turn_tells c selected tag (commands.Copy uid to) s all = copy_turn_tells selected tag uid to s
turn_tells c selected tag (commands.Expunge uid) s all = expunge_turn_tells selected tag uid s
turn_tells c selected tag (commands.Append to flags text) s all =
    either (λ (t : plain.Turn). Tells t.replies) (plain.is_closed c.closed to) (plain.answered selected s (plain.denied codings.Other))
    (plain.append_turn selected tag to flags text s (box_at to s.boxes)) (record { untagged = tt; code = tt })
    (append_tells selected tag to flags text s (box_at to s.boxes))
turn_tells c selected tag commands.Logout s all = record { untagged = (tt, tt); code = tt }

-- with the completion
pub told_tellable : (c : plain.Choices) (selected : Option (List ℕ)) (tag : Tag) (command : Command) (s : Server) →
    AllByRecursion IsAtomic c.offers → IsCommandTag tag
    → AreTellable (told_in tag (plain.turn_of c selected tag command s).replies)
told_tellable c selected tag command s all own =
    let tells = turn_tells c selected tag command s all in
    let r : Replies = (plain.turn_of c selected tag command s).replies in
    all_append IsTellable r.untagged (responses.Done tag r.ending r.code ∷ []) tells.untagged ((own, tells.code), tt)
