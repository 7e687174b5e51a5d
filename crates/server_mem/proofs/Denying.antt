-- The server answers NO exactly where it says so.
use Rattle.std.proofs.Common.{◌≡◌, inl, inr, ℕ, ◌<◌, Bool, true, false, List, [], ◌∷◌, Option, Some, None, refl, sym, ◌∙◌, ap, subst, arith}
use Rattle.std.specs.Prelude.{nat_lt, is_some, if◌then◌else◌}
use Rattle.std.specs.Str.{bytes_eq}
use Rattle.std.proofs.lemmas.Bool.{ltb-true, ltb-false}
use Rattle.std.proofs.lemmas.Option.{same_Some}
use Rattle.std.proofs.lemmas.Slice.Eq.{bytes_eq-Decides}
use Rattle.flag_set.specs.FlagSet.{has}
use Rattle.imap_model.specs.CarriedOut.{only}
use Rattle.imap_model.specs.Carrying.{deleted}
use Rattle.imap_model.specs.Lawful.{broken_rule}
use Rattle.imap_model.specs.Lookups.{box_at, message_at, validity_of}
use Rattle.imap_model.specs.Mutating.{is_mutating}
use Rattle.imap_model.specs.PlainChanges.{with_change}
use Rattle.imap_model.specs.PlainServer.{Choices, Turn, answered, accepted, coded, copied_code, denied, row_in, stored_flags, turn_of}
use Rattle.imap_model.specs.PlainServer.{is_closed, append_turn, change_turn, select_turn, question_turn, store_in, store_message}
use Rattle.imap_model.specs.PlainServer.{store_turn, move_in, move_message, move_turn, copy_in, copy_message, copy_turn}
use Rattle.imap_model.specs.PlainServer.{expunge_in, expunge_message, expunge_turn}
use Rattle.imap_model.specs.Remarks.{selected_box}
use Rattle.imap_model.specs.declared.code.Code.TheVariants as codings
use Rattle.imap_model.specs.declared.command.Command.{Command}
use Rattle.imap_model.specs.declared.command.Command.TheVariants as commands
use Rattle.imap_model.specs.declared.deed.Author.TheVariants.{Ours}
use Rattle.imap_model.specs.declared.deed.Change.{Change}
use Rattle.imap_model.specs.declared.deed.Change.TheVariants as changes
use Rattle.imap_model.specs.declared.ending.Ending.TheVariants as endings
use Rattle.imap_model.specs.declared.mark.Mark.{Mark}
use Rattle.imap_model.specs.declared.replies.Replies.{Replies}
use Rattle.imap_model.specs.declared.response.Response.TheVariants as responses
use Rattle.imap_model.specs.declared.server.Mailbox.{Mailbox}
use Rattle.imap_model.specs.declared.server.Message.{Message}
use Rattle.imap_model.specs.declared.server.Server.{Server}
use Rattle.mail_base.specs.declared.tag.Tag.{Tag}
use Rattle.server_mem.specs.Denied.{named, wants_selected, IsHere, Makes, sets, shifts, copies, drops, adds, IsDenied, missing, unselected, forbidden}
use Rattle.server_mem.specs.Denied.{modified, closed, Says, DeniesExactly}

some_none : {A : Type 0} (x : A) → ◌≡◌ {A = Option A} (Some x) None → ⊥
some_none x same = cc

-- only commands that change a mailbox make a change
makes_changes : (selected : Option (List ℕ)) (s : Server) (command : Command) (name : List ℕ) (change : Change) →
    Makes selected s command name change → is_mutating command ≡ true
makes_changes selected s _ _ _ (sets name uid since add flags m here old) = refl
makes_changes selected s _ _ _ (shifts name uid to m target here there) = refl
makes_changes selected s _ _ _ (copies name uid to m target here there) = refl
makes_changes selected s _ _ _ (drops name uid m here marked) = refl
makes_changes selected s _ _ _ (adds to flags text target there) = refl

no_change : (selected : Option (List ℕ)) (s : Server) (command : Command) → is_mutating command ≡ false →
    (name : List ℕ) (change : Change) → Makes selected s command name change → ⊥
no_change selected s command asks name change made = cc (makes_changes selected s command name change made, asks)

-- commands that nothing denies
open_command : (c : Choices) (selected : Option (List ℕ)) (s : Server) (command : Command) → named command ≡ None → wants_selected command ≡ false
    → ((name : List ℕ) (change : Change) → Makes selected s command name change → ⊥) → IsDenied c selected s command → ⊥
open_command c selected s command none no_box makes (missing name is gone) = some_none name (sym is ∙ none)
open_command c selected s command none no_box makes (unselected is gone) = cc (sym is ∙ no_box)
open_command c selected s command none no_box makes (forbidden name change rule is broken) = makes name change is
open_command c selected s command none no_box makes (modified name uid since add flags m is here new) = cc (ap wants_selected is, no_box)
open_command c selected s command none no_box makes (closed to flags text is shut) = some_none to (sym (ap named is) ∙ none)

-- SELECT
select_says : (c : Choices) (selected : Option (List ℕ)) (name : List ℕ) (since : Option Mark) (s : Server) (o : Option Mailbox) → box_at name s.boxes ≡ o
    → Says c selected s (commands.Select name since) (select_turn c selected name since s o).replies.ending
select_says c selected name since s None is = inl (refl, missing name refl is)
select_says c selected name since s (Some b) is = inr (refl, never) where
  never : IsDenied c selected s (commands.Select name since) → ⊥
  never (missing other same gone) = some_none b (sym is ∙ ap (λ x. box_at x s.boxes) (same_Some name other same) ∙ gone)
  never (unselected no_box gone) = cc no_box
  never (forbidden other change rule made broken) = no_change selected s (commands.Select name since) refl other change made
  never (modified other uid mark add flags m same here new) = cc same
  never (closed to flags text same shut) = cc same

-- a question
question_says : (c : Choices) (selected : Option (List ℕ)) (command : Command) (s : Server) (reply : Mailbox → Replies)
    (o : Option Mailbox) → selected_box selected s.boxes ≡ o
    → named command ≡ None → wants_selected command ≡ true → ((name : List ℕ) (change : Change) → Makes selected s command name change → ⊥)
    → ((uid since : ℕ) (add : Bool) (flags : List (List ℕ)) → command ≡ commands.Store uid since add flags → ⊥) →
    ((b : Mailbox) → (reply b).ending ≡ endings.Ok)
    → Says c selected s command (question_turn selected s reply o).replies.ending
question_says c selected command s reply None is none wants makes store good = inl (refl, unselected wants is)
question_says c selected command s reply (Some b) is none wants makes store good = inr (good b, never) where
  never : IsDenied c selected s command → ⊥
  never (missing name same gone) = some_none name (sym same ∙ none)
  never (unselected same gone) = some_none b (sym is ∙ gone)
  never (forbidden name change rule made broken) = makes name change made
  never (modified name uid since add flags m same here new) = store uid since add flags same
  never (closed to flags text same shut) = some_none to (sym (ap named same) ∙ none)

-- a change: NO where a rule forbids it
change_says : (c : Choices) (selected kept : Option (List ℕ)) (tag : Tag) (command : Command) (name : List ℕ) (change : Change)
    (s : Server) (reply : Server → Replies) (o : Option ℕ)
    → broken_rule s.boxes name change ≡ o → Makes selected s command name change → ((t : Server) → (reply t).ending ≡ endings.Ok)
    → (broken_rule s.boxes name change ≡ None → IsDenied c selected s command → ⊥)
    → Says c selected s command (change_turn kept tag name change s reply).replies.ending
change_says c selected kept tag command name change s reply None is made good never =
    inr (ap (λ o. (change_of o).replies.ending) is ∙ good _, never is) where
      change_of : Option ℕ → Turn
      change_of o = if is_some o then answered kept s (denied codings.Other) else answered kept (with_change (Ours tag) name change s)
          (reply (with_change (Ours tag) name change s))
change_says c selected kept tag command name change s reply (Some rule) is made good never =
    inl (ap (λ o. (change_of o).replies.ending) is, forbidden name change rule made is) where
      change_of : Option ℕ → Turn
      change_of o = if is_some o then answered kept s (denied codings.Other) else answered kept (with_change (Ours tag) name change s)
          (reply (with_change (Ours tag) name change s))

-- two ways to say where a message is
same_here : (selected : Option (List ℕ)) (s : Server) (name other : List ℕ) (b : Mailbox) (uid : ℕ) (m : Message) → selected ≡ Some name →
    box_at name s.boxes ≡ Some b
    → IsHere selected s other uid m → message_at uid b.messages ≡ Some m
same_here selected s name other b uid m is there here =
    let names : name ≡ other = same_Some name other (sym is ∙ here.selection) in
    let boxes : b ≡ here.box = same_Some b here.box (sym there ∙ ap (λ x. box_at x s.boxes) names ∙ here.there) in
    ap (λ x. message_at uid x.messages) boxes ∙ here.found

gone_here : (selected : Option (List ℕ)) (s : Server) (name other : List ℕ) (uid : ℕ) (m : Message) → selected ≡ Some name → box_at name s.boxes ≡ None
    → IsHere selected s other uid m → ⊥
gone_here selected s name other uid m is gone here =
    some_none here.box (sym here.there ∙ ap (λ x. box_at x s.boxes) (sym (same_Some name other (sym is ∙ here.selection))) ∙ gone)

-- STORE
store_never : (c : Choices) (selected : Option (List ℕ)) (name : List ℕ) (uid since : ℕ) (add : Bool) (flags : List (List ℕ)) (s : Server)
    (b : Mailbox) (o : Option Message)
    → selected ≡ Some name → box_at name s.boxes ≡ Some b → message_at uid b.messages ≡ o → ((m : Message) → o ≡ Some m → since < m.modseq → ⊥)
    → ((m : Message) (rule : ℕ) → o ≡ Some m → broken_rule s.boxes name (changes.SetFlags uid (stored_flags add flags m.flags)) ≡ Some rule → ⊥)
    → IsDenied c selected s (commands.Store uid since add flags) → ⊥
store_never c selected name uid since add flags s b o is there found old free (missing other same gone) = cc same
store_never c selected name uid since add flags s b o is there found old free (unselected wants gone) =
    some_none b (sym there ∙ ap (λ x. selected_box x s.boxes) (sym is) ∙ gone)
store_never c selected name uid since add flags s b o is there found old free (forbidden other change rule made broken) = breaks other change made broken where
  breaks : (other : List ℕ) (change : Change) → Makes selected s (commands.Store uid since add flags) other change →
      broken_rule s.boxes other change ≡ Some rule → ⊥
  breaks _ _ (sets other uid since add flags m here low) broken =
      free m rule (sym found ∙ same_here selected s name other b uid m is there here)
      (ap (λ x. broken_rule s.boxes x (changes.SetFlags uid (stored_flags add flags m.flags))) (same_Some name other (sym is ∙ here.selection)) ∙ broken)
store_never c selected name uid since add flags s b o is there found old free (modified other uid' since' add' flags' m same here new) =
    let uids : uid ≡ uid' = cc in
    let marks : since ≡ since' = cc in
    old m (sym found ∙ ap (λ x. message_at x b.messages) uids ∙ same_here selected s name other b uid' m is there here) (omega (arith, new, marks))
store_never c selected name uid since add flags s b o is there found old free (closed to other text same shut) = cc same

message_says : (c : Choices) (name : List ℕ) (tag : Tag) (uid since : ℕ) (add : Bool) (flags : List (List ℕ)) (s : Server) (b : Mailbox) (o : Option Message)
    → box_at name s.boxes ≡ Some b → message_at uid b.messages ≡ o
    → Says c (Some name) s (commands.Store uid since add flags) (store_message name tag uid since add flags s o).replies.ending
message_says c name tag uid since add flags s b None there found =
    inr (
      refl,
      store_never c (Some name) name uid since add flags s b None refl there found (λ m e. absurd (some_none m (sym e)))
          (λ m rule e. absurd (some_none m (sym e))),
    )
message_says c name tag uid since add flags s b (Some m) there found = by (nat_lt since m.modseq) refl where
  here : IsHere (Some name) s name uid m
  here = record { selection = refl; box = b; there = there; found = found }

  by : (t : Bool) → nat_lt since m.modseq ≡ t → Says c (Some name) s (commands.Store uid since add flags)
      (store_message name tag uid since add flags s (Some m)).replies.ending
  by true new = inl (ap (λ t. (turn_if t).replies.ending) new, modified name uid since add flags m refl here (ltb-true since m.modseq new)) where
    turn_if : Bool → Turn
    turn_if t = if t then answered (Some name) s (denied (codings.Modified (only uid))) else
        change_turn (Some name) tag name (changes.SetFlags uid (stored_flags add flags m.flags)) s
        (λ t. accepted (row_in uid (box_at name t.boxes)) codings.None)
  by false old =
      subst (λ t. Says c (Some name) s (commands.Store uid since add flags) (turn_if t).replies.ending) (sym old)
      (change_says c (Some name) (Some name) tag (commands.Store uid since add flags) name (changes.SetFlags uid (stored_flags add flags m.flags)) s
      (λ t. accepted (row_in uid (box_at name t.boxes)) codings.None) (broken_rule s.boxes name (changes.SetFlags uid (stored_flags add flags m.flags))) refl
      (sets name uid since add flags m here (omega (arith, ltb-false since m.modseq old))) (λ t. refl)
      (λ free. store_never c (Some name) name uid since add flags s b (Some m) refl there found
      (λ other e new. omega (arith, new, ltb-false since m.modseq old, ap (λ x. x.modseq) (same_Some m other e)))
      (λ other rule e broken. some_none rule (sym broken ∙ ap (λ x. broken_rule s.boxes name
      (changes.SetFlags uid (stored_flags add flags x.flags))) (sym (same_Some m other e)) ∙ free)))) where
        turn_if : Bool → Turn
        turn_if t = if t then answered (Some name) s (denied (codings.Modified (only uid))) else
            change_turn (Some name) tag name (changes.SetFlags uid (stored_flags add flags m.flags)) s
            (λ t. accepted (row_in uid (box_at name t.boxes)) codings.None)

store_in_says : (c : Choices) (name : List ℕ) (tag : Tag) (uid since : ℕ) (add : Bool) (flags : List (List ℕ)) (s : Server)
    (o : Option Mailbox) → box_at name s.boxes ≡ o
    → Says c (Some name) s (commands.Store uid since add flags) (store_in name tag uid since add flags s o).replies.ending
store_in_says c name tag uid since add flags s None is = inl (refl, unselected refl is)
store_in_says c name tag uid since add flags s (Some b) is = message_says c name tag uid since add flags s b (message_at uid b.messages) is refl

store_says : (c : Choices) (selected : Option (List ℕ)) (tag : Tag) (uid since : ℕ) (add : Bool) (flags : List (List ℕ)) (s : Server)
    → Says c selected s (commands.Store uid since add flags) (store_turn selected tag uid since add flags s).replies.ending
store_says c None tag uid since add flags s = inl (refl, unselected refl refl)
store_says c (Some name) tag uid since add flags s = store_in_says c name tag uid since add flags s (box_at name s.boxes) refl

-- MOVE
move_never : (c : Choices) (selected : Option (List ℕ)) (name : List ℕ) (uid : ℕ) (to : List ℕ) (s : Server) (b target : Mailbox) (o : Option Message)
    → selected ≡ Some name → box_at name s.boxes ≡ Some b → box_at to s.boxes ≡ Some target → message_at uid b.messages ≡ o
    → ((m : Message) (rule : ℕ) → o ≡ Some m → broken_rule s.boxes name (changes.Shift uid to target.uidnext) ≡ Some rule → ⊥)
    → IsDenied c selected s (commands.Shift uid to) → ⊥
move_never c selected name uid to s b target o is there comes found free (missing other same gone) =
    some_none target (sym comes ∙ ap (λ x. box_at x s.boxes) (same_Some to other same) ∙ gone)
move_never c selected name uid to s b target o is there comes found free (unselected wants gone) =
    some_none b (sym there ∙ ap (λ x. selected_box x s.boxes) (sym is) ∙ gone)
move_never c selected name uid to s b target o is there comes found free (forbidden other change rule made broken) = breaks other change made broken where
  breaks : (other : List ℕ) (change : Change) → Makes selected s (commands.Shift uid to) other change → broken_rule s.boxes other change ≡ Some rule → ⊥
  breaks _ _ (shifts other uid to m target' here comes') broken =
      free m rule (sym found ∙ same_here selected s name other b uid m is there here)
      (ap (λ x. broken_rule s.boxes x (changes.Shift uid to target.uidnext)) (same_Some name other (sym is ∙ here.selection))
      ∙ ap (λ x. broken_rule s.boxes other (changes.Shift uid to x.uidnext)) (same_Some target target' (sym comes ∙ comes')) ∙ broken)
move_never c selected name uid to s b target o is there comes found free (modified other uid' since add flags m same here new) = cc same
move_never c selected name uid to s b target o is there comes found free (closed other flags text same shut) = cc same

moved_says : (c : Choices) (name : List ℕ) (tag : Tag) (uid : ℕ) (to : List ℕ) (s : Server) (b target : Mailbox) (o : Option Message)
    → box_at name s.boxes ≡ Some b → box_at to s.boxes ≡ Some target → message_at uid b.messages ≡ o
    → Says c (Some name) s (commands.Shift uid to) (move_message name tag uid to s target o).replies.ending
moved_says c name tag uid to s b target None there comes found =
    inr (refl, move_never c (Some name) name uid to s b target None refl there comes found (λ m rule e. absurd (some_none m (sym e))))
moved_says c name tag uid to s b target (Some m) there comes found =
    change_says c (Some name) (Some name) tag (commands.Shift uid to) name (changes.Shift uid to target.uidnext) s
    (λ t. accepted (coded (copied_code uid to target.uidnext t) ∷ responses.Vanished false (only uid) ∷ []) codings.None)
    (broken_rule s.boxes name (changes.Shift uid to target.uidnext)) refl
    (shifts name uid to m target (record { selection = refl; box = b; there = there; found = found }) comes) (λ t. refl)
    (λ free. move_never c (Some name) name uid to s b target (Some m) refl there comes found (λ other rule e broken. some_none rule (sym broken ∙ free)))

move_in_says : (c : Choices) (name : List ℕ) (tag : Tag) (uid : ℕ) (to : List ℕ) (s : Server) (o p : Option Mailbox) →
    box_at name s.boxes ≡ o → box_at to s.boxes ≡ p
    → Says c (Some name) s (commands.Shift uid to) (move_in name tag uid to s o p).replies.ending
move_in_says c name tag uid to s None p is comes = inl (refl, unselected refl is)
move_in_says c name tag uid to s (Some b) None is comes = inl (refl, missing to refl comes)
move_in_says c name tag uid to s (Some b) (Some target) is comes = moved_says c name tag uid to s b target (message_at uid b.messages) is comes refl

move_says : (c : Choices) (selected : Option (List ℕ)) (tag : Tag) (uid : ℕ) (to : List ℕ) (s : Server) →
    Says c selected s (commands.Shift uid to) (move_turn selected tag uid to s).replies.ending
move_says c None tag uid to s = inl (refl, unselected refl refl)
move_says c (Some name) tag uid to s = move_in_says c name tag uid to s (box_at name s.boxes) (box_at to s.boxes) refl refl

-- COPY
copy_never : (c : Choices) (selected : Option (List ℕ)) (name : List ℕ) (uid : ℕ) (to : List ℕ) (s : Server) (b target : Mailbox) (o : Option Message)
    → selected ≡ Some name → box_at name s.boxes ≡ Some b → box_at to s.boxes ≡ Some target → message_at uid b.messages ≡ o
    → ((m : Message) (rule : ℕ) → o ≡ Some m → broken_rule s.boxes to (changes.Add m.flags m.text target.uidnext) ≡ Some rule → ⊥)
    → IsDenied c selected s (commands.Copy uid to) → ⊥
copy_never c selected name uid to s b target o is there comes found free (missing other same gone) =
    some_none target (sym comes ∙ ap (λ x. box_at x s.boxes) (same_Some to other same) ∙ gone)
copy_never c selected name uid to s b target o is there comes found free (unselected wants gone) =
    some_none b (sym there ∙ ap (λ x. selected_box x s.boxes) (sym is) ∙ gone)
copy_never c selected name uid to s b target o is there comes found free (forbidden other change rule made broken) = breaks other change made broken where
  breaks : (other : List ℕ) (change : Change) → Makes selected s (commands.Copy uid to) other change → broken_rule s.boxes other change ≡ Some rule → ⊥
  breaks _ _ (copies other uid to m target' here comes') broken =
      free m rule (sym found ∙ same_here selected s name other b uid m is there here)
      (ap (λ x. broken_rule s.boxes to (changes.Add m.flags m.text x.uidnext)) (same_Some target target' (sym comes ∙ comes')) ∙ broken)
copy_never c selected name uid to s b target o is there comes found free (modified other uid' since add flags m same here new) = cc same
copy_never c selected name uid to s b target o is there comes found free (closed other flags text same shut) = cc same

copied_says : (c : Choices) (name : List ℕ) (tag : Tag) (uid : ℕ) (to : List ℕ) (s : Server) (b target : Mailbox) (o : Option Message)
    → box_at name s.boxes ≡ Some b → box_at to s.boxes ≡ Some target → message_at uid b.messages ≡ o
    → Says c (Some name) s (commands.Copy uid to) (copy_message name tag uid to s target o).replies.ending
copied_says c name tag uid to s b target None there comes found =
    inr (refl, copy_never c (Some name) name uid to s b target None refl there comes found (λ m rule e. absurd (some_none m (sym e))))
copied_says c name tag uid to s b target (Some m) there comes found =
    change_says c (Some name) (Some name) tag (commands.Copy uid to) to (changes.Add m.flags m.text target.uidnext) s
    (λ t. accepted [] (copied_code uid to target.uidnext t)) (broken_rule s.boxes to (changes.Add m.flags m.text target.uidnext)) refl
    (copies name uid to m target (record { selection = refl; box = b; there = there; found = found }) comes) (λ t. refl)
    (λ free. copy_never c (Some name) name uid to s b target (Some m) refl there comes found
    (λ other rule e broken. some_none rule (sym broken ∙ ap (λ x. broken_rule s.boxes to (changes.Add x.flags x.text target.uidnext))
    (sym (same_Some m other e)) ∙ free)))

copy_in_says : (c : Choices) (name : List ℕ) (tag : Tag) (uid : ℕ) (to : List ℕ) (s : Server) (o p : Option Mailbox) →
    box_at name s.boxes ≡ o → box_at to s.boxes ≡ p
    → Says c (Some name) s (commands.Copy uid to) (copy_in name tag uid to s o p).replies.ending
copy_in_says c name tag uid to s None p is comes = inl (refl, unselected refl is)
copy_in_says c name tag uid to s (Some b) None is comes = inl (refl, missing to refl comes)
copy_in_says c name tag uid to s (Some b) (Some target) is comes = copied_says c name tag uid to s b target (message_at uid b.messages) is comes refl

copy_says : (c : Choices) (selected : Option (List ℕ)) (tag : Tag) (uid : ℕ) (to : List ℕ) (s : Server) →
    Says c selected s (commands.Copy uid to) (copy_turn selected tag uid to s).replies.ending
copy_says c None tag uid to s = inl (refl, unselected refl refl)
copy_says c (Some name) tag uid to s = copy_in_says c name tag uid to s (box_at name s.boxes) (box_at to s.boxes) refl refl

-- EXPUNGE
expunge_never : (c : Choices) (selected : Option (List ℕ)) (name : List ℕ) (uid : ℕ) (s : Server) (b : Mailbox) (o : Option Message)
    → selected ≡ Some name → box_at name s.boxes ≡ Some b → message_at uid b.messages ≡ o
    → ((m : Message) (rule : ℕ) → o ≡ Some m → has m.flags deleted ≡ true → broken_rule s.boxes name (changes.Drop uid) ≡ Some rule → ⊥)
    → IsDenied c selected s (commands.Expunge uid) → ⊥
expunge_never c selected name uid s b o is there found free (missing other same gone) = cc same
expunge_never c selected name uid s b o is there found free (unselected wants gone) =
    some_none b (sym there ∙ ap (λ x. selected_box x s.boxes) (sym is) ∙ gone)
expunge_never c selected name uid s b o is there found free (forbidden other change rule made broken) = breaks other change made broken where
  breaks : (other : List ℕ) (change : Change) → Makes selected s (commands.Expunge uid) other change → broken_rule s.boxes other change ≡ Some rule → ⊥
  breaks _ _ (drops other uid m here marked) broken =
      free m rule (sym found ∙ same_here selected s name other b uid m is there here) marked
      (ap (λ x. broken_rule s.boxes x (changes.Drop uid)) (same_Some name other (sym is ∙ here.selection)) ∙ broken)
expunge_never c selected name uid s b o is there found free (modified other uid' since add flags m same here new) = cc same
expunge_never c selected name uid s b o is there found free (closed other flags text same shut) = cc same

expunged_says : (c : Choices) (name : List ℕ) (tag : Tag) (uid : ℕ) (s : Server) (b : Mailbox) (o : Option Message)
    → box_at name s.boxes ≡ Some b → message_at uid b.messages ≡ o
    → Says c (Some name) s (commands.Expunge uid) (expunge_message name tag uid s o).replies.ending
expunged_says c name tag uid s b None there found =
    inr (refl, expunge_never c (Some name) name uid s b None refl there found (λ m rule e. absurd (some_none m (sym e))))
expunged_says c name tag uid s b (Some m) there found = by (has m.flags deleted) refl where
  turn_if : Bool → Turn
  turn_if t = if t then
      change_turn (Some name) tag name (changes.Drop uid) s (λ t. accepted (responses.Vanished false (only uid) ∷ []) codings.None)
      else answered (Some name) s (accepted [] codings.None)

  by : (t : Bool) → has m.flags deleted ≡ t → Says c (Some name) s (commands.Expunge uid) (expunge_message name tag uid s (Some m)).replies.ending
  by true marked =
      subst (λ t. Says c (Some name) s (commands.Expunge uid) (turn_if t).replies.ending) (sym marked)
      (change_says c (Some name) (Some name) tag (commands.Expunge uid) name (changes.Drop uid) s
      (λ t. accepted (responses.Vanished false (only uid) ∷ []) codings.None) (broken_rule s.boxes name (changes.Drop uid)) refl
      (drops name uid m (record { selection = refl; box = b; there = there; found = found }) marked) (λ t. refl)
      (λ free. expunge_never c (Some name) name uid s b (Some m) refl there found (λ other rule e is broken. some_none rule (sym broken ∙ free))))
  by false kept =
      inr (
        ap (λ t. (turn_if t).replies.ending) kept,
        expunge_never c (Some name) name uid s b (Some m) refl there found
            (λ other rule e is broken. cc (ap (λ x. has x.flags deleted) (same_Some m other e), is, kept)),
      )

expunge_in_says : (c : Choices) (name : List ℕ) (tag : Tag) (uid : ℕ) (s : Server) (o : Option Mailbox) → box_at name s.boxes ≡ o
    → Says c (Some name) s (commands.Expunge uid) (expunge_in name tag uid s o).replies.ending
expunge_in_says c name tag uid s None is = inl (refl, unselected refl is)
expunge_in_says c name tag uid s (Some b) is = expunged_says c name tag uid s b (message_at uid b.messages) is refl

expunge_says : (c : Choices) (selected : Option (List ℕ)) (tag : Tag) (uid : ℕ) (s : Server) →
    Says c selected s (commands.Expunge uid) (expunge_turn selected tag uid s).replies.ending
expunge_says c None tag uid s = inl (refl, unselected refl refl)
expunge_says c (Some name) tag uid s = expunge_in_says c name tag uid s (box_at name s.boxes) refl

-- APPEND
append_never : (c : Choices) (selected : Option (List ℕ)) (to : List ℕ) (flags : List (List ℕ)) (text : List ℕ) (s : Server) (target : Mailbox)
    → box_at to s.boxes ≡ Some target → (c.closed ≡ Some to → ⊥) → broken_rule s.boxes to (changes.Add flags text target.uidnext) ≡ None
    → IsDenied c selected s (commands.Append to flags text) → ⊥
append_never c selected to flags text s target comes ready free (missing other same gone) =
    some_none target (sym comes ∙ ap (λ x. box_at x s.boxes) (same_Some to other same) ∙ gone)
append_never c selected to flags text s target comes ready free (unselected wants gone) = cc wants
append_never c selected to flags text s target comes ready free (forbidden other change rule made broken) = breaks other change made broken where
  breaks : (other : List ℕ) (change : Change) → Makes selected s (commands.Append to flags text) other change → broken_rule s.boxes other change ≡ Some rule → ⊥
  breaks _ _ (adds to flags text target' comes') broken =
      some_none rule (sym broken ∙ ap (λ x. broken_rule s.boxes to (changes.Add flags text x.uidnext)) (same_Some target' target (sym comes' ∙ comes)) ∙ free)
append_never c selected to flags text s target comes ready free (modified other uid since add flags' m same here new) = cc same
append_never c selected to flags text s target comes ready free (closed other flags' text' same shut) =
    let names : to ≡ other = cc in
    ready (shut ∙ ap (λ x. Some x) (sym names))

appended_says : (c : Choices) (selected : Option (List ℕ)) (tag : Tag) (to : List ℕ) (flags : List (List ℕ)) (text : List ℕ) (s : Server) (o : Option Mailbox)
    → box_at to s.boxes ≡ o → (c.closed ≡ Some to → ⊥) → Says c selected s (commands.Append to flags text)
    (append_turn selected tag to flags text s o).replies.ending
appended_says c selected tag to flags text s None is ready = inl (refl, missing to refl is)
appended_says c selected tag to flags text s (Some target) is ready =
    change_says c selected selected tag (commands.Append to flags text) to (changes.Add flags text target.uidnext) s
    (λ t. accepted [] (codings.AppendUid (validity_of (box_at to t.boxes)) target.uidnext))
    (broken_rule s.boxes to (changes.Add flags text target.uidnext)) refl (adds to flags text target is) (λ t. refl)
    (λ free. append_never c selected to flags text s target is ready free)

-- whether this is the closed mailbox
abbrev IsShut : Bool → Option (List ℕ) → List ℕ → Type 0
IsShut true o to = o ≡ Some to
IsShut false o to = o ≡ Some to → ⊥

decided : (name to : List ℕ) → bytes_eq name to ≡ true → name ≡ to
decided name to is = (bytes_eq-Decides name to).0 is

same_bytes : (name to : List ℕ) → name ≡ to → bytes_eq name to ≡ true
same_bytes name to same = (bytes_eq-Decides name to).1 same

closed_is : (o : Option (List ℕ)) (to : List ℕ) (t : Bool) → is_closed o to ≡ t → IsShut t o to
closed_is None to true is = cc
closed_is None to false is = λ same. some_none to (sym same)
closed_is (Some name) to true is = ap (λ x. Some x) (decided name to is)
closed_is (Some name) to false is = λ same. cc (same_bytes name to (same_Some name to same), is)

append_says : (c : Choices) (selected : Option (List ℕ)) (tag : Tag) (to : List ℕ) (flags : List (List ℕ)) (text : List ℕ) (s : Server)
    → Says c selected s (commands.Append to flags text) (turn_of c selected tag (commands.Append to flags text) s).replies.ending
append_says c selected tag to flags text s = by (is_closed c.closed to) refl where
  turn_if : Bool → Turn
  turn_if t = if t then answered selected s (denied codings.Other) else append_turn selected tag to flags text s (box_at to s.boxes)

  by : (t : Bool) → is_closed c.closed to ≡ t → Says c selected s (commands.Append to flags text)
      (turn_of c selected tag (commands.Append to flags text) s).replies.ending
  by true is = inl (ap (λ t. (turn_if t).replies.ending) is, closed to flags text refl (closed_is c.closed to true is))
  by false is =
      subst (λ t. Says c selected s (commands.Append to flags text) (turn_if t).replies.ending) (sym is)
      (appended_says c selected tag to flags text s (box_at to s.boxes) refl (closed_is c.closed to false is))

-- no STORE
no_store : (command : Command) → is_mutating command ≡ false → (uid since : ℕ) (add : Bool) (flags : List (List ℕ)) →
    command ≡ commands.Store uid since add flags → ⊥
no_store command asks uid since add flags same = cc (ap is_mutating same, asks)

open_says : (c : Choices) (selected : Option (List ℕ)) (s : Server) (command : Command) → named command ≡ None →
    wants_selected command ≡ false → is_mutating command ≡ false
    → Says c selected s command endings.Ok
open_says c selected s command none no_box asks = inr (refl, open_command c selected s command none no_box (no_change selected s command asks))

pub denies_exactly : DeniesExactly
denies_exactly c selected tag commands.Capability s = open_says c selected s commands.Capability refl refl refl
denies_exactly c selected tag (commands.Login account) s = open_says c selected s (commands.Login account) refl refl refl
denies_exactly c selected tag (commands.Plain account) s = open_says c selected s (commands.Plain account) refl refl refl
denies_exactly c selected tag (commands.Enable rev2) s = open_says c selected s (commands.Enable rev2) refl refl refl
denies_exactly c selected tag (commands.Select name since) s = select_says c selected name since s (box_at name s.boxes) refl
denies_exactly c selected tag commands.FetchAll s =
    question_says c selected commands.FetchAll s _ (selected_box selected s.boxes) refl refl refl
    (no_change selected s commands.FetchAll refl) (no_store commands.FetchAll refl) (λ b. refl)
denies_exactly c selected tag (commands.FetchRow uid) s =
    question_says c selected (commands.FetchRow uid) s _ (selected_box selected s.boxes) refl refl refl
    (no_change selected s (commands.FetchRow uid) refl) (no_store (commands.FetchRow uid) refl) (λ b. refl)
denies_exactly c selected tag (commands.Search from id) s =
    question_says c selected (commands.Search from id) s _ (selected_box selected s.boxes) refl refl refl
    (no_change selected s (commands.Search from id) refl) (no_store (commands.Search from id) refl) (λ b. refl)
denies_exactly c selected tag (commands.FetchIds uids) s =
    question_says c selected (commands.FetchIds uids) s _ (selected_box selected s.boxes) refl refl refl
    (no_change selected s (commands.FetchIds uids) refl) (no_store (commands.FetchIds uids) refl) (λ b. refl)
denies_exactly c selected tag (commands.FetchText uid) s =
    question_says c selected (commands.FetchText uid) s _ (selected_box selected s.boxes) refl refl refl
    (no_change selected s (commands.FetchText uid) refl) (no_store (commands.FetchText uid) refl) (λ b. refl)
denies_exactly c selected tag (commands.Store uid since add flags) s = store_says c selected tag uid since add flags s
denies_exactly c selected tag (commands.Shift uid to) s = move_says c selected tag uid to s
denies_exactly c selected tag (commands.Copy uid to) s = copy_says c selected tag uid to s
denies_exactly c selected tag (commands.Expunge uid) s = expunge_says c selected tag uid s
denies_exactly c selected tag (commands.Append to flags text) s = append_says c selected tag to flags text s
denies_exactly c selected tag commands.Logout s = open_says c selected s commands.Logout refl refl refl
