-- What the commands of a drill ask for, and the actions that they become (RFC 4549, section 4.2).
use Rattle.std.specs.Prelude.{ℕ, true, List, [], ◌∷◌, ◌++◌, codes, decimal, map}
use Rattle.action_queue.specs.declared.action.Action.{Action}
use Rattle.action_queue.specs.declared.action.Action.TheVariants as actions
use Rattle.action_queue.specs.declared.target.Target.TheVariants as targets
use Rattle.local_view.specs.declared.seen.Ident.TheVariants as ident
use Rattle.mail_top.specs.Actions.{keys_of}
use Rattle.mail_top.specs.Words.{Wanted, Flag, Move, Append}
use Rattle.mail_drill.specs.declared.orders.Order.{Order}
use Rattle.mail_drill.specs.declared.orders.Order.TheVariants as orders
use Rattle.mail_drill.specs.Texts.{message_text}

-- what a command asks for
abbrev pub wanted_of : Order → Wanted
wanted_of (orders.Flag uid) = Flag (record { name = codes "INBOX"; id = ident.Real uid; add = true; flags = codes "\\Flagged" ∷ [] })
wanted_of (orders.Move uid) = Move (record { name = codes "INBOX"; id = ident.Real uid; to = codes "Archive" })
wanted_of (orders.Append number) = Append (record { to = codes "Archive"; flags = [] }) (message_text 97 number)

-- the Message-ID of what an append puts into a mailbox
abbrev pub identifier : ℕ → List ℕ
identifier number = codes "<a" ++ decimal number ++ codes "@d>"

-- the action that it becomes, where it isn't refused; INBOX has UIDVALIDITY 5
abbrev pub action_of : Order → Action
action_of (orders.Flag uid) = actions.Flag (targets.Real (codes "INBOX") 5 uid) true (keys_of (codes "\\Flagged" ∷ []))
action_of (orders.Move uid) = actions.Move (targets.Real (codes "INBOX") 5 uid) (codes "Archive")
action_of (orders.Append number) = actions.Append (codes "Archive") [] (message_text 97 number) (identifier number)

abbrev pub actions_for : List Order → List Action
actions_for os = map action_of os
