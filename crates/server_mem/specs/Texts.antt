-- The bytes that tell what is answered, octet for octet (RFC 9051, sections 2.2.2, 7.1 and 7.5.2).
use Rattle.std.specs.Prelude.{ℕ, Bool, not, List, [], ◌∷◌, ◌++◌, codes}
use Rattle.imap_model.specs.CarriedOut.{told_in}
use Rattle.imap_model.specs.PlainServer.{Choices, Turn, denied, has_rev2}
use Rattle.imap_model.specs.Remarks.{selected_box}
use Rattle.imap_model.specs.declared.code.Code.TheVariants as codings
use Rattle.imap_model.specs.declared.command.Command.{Command}
use Rattle.imap_model.specs.declared.response.Response.{Response}
use Rattle.imap_model.specs.declared.response.Response.TheVariants as responses
use Rattle.imap_model.specs.declared.server.Message.{Message}
use Rattle.mail_base.specs.declared.tag.Tag.{Tag}
use Rattle.response_lines.specs.ToldText.{lines_of}
use Rattle.server_mem.specs.Hearing.{Answers, carries, goes_on, refuses, says_bad, IsBad, tagged, untagged, Steps, stops, hears}
use Rattle.server_mem.specs.SelectedMessages.{messages_of}
use Rattle.server_mem.specs.States.{State, turn_at}

-- IMAP4rev2 isn't offered
abbrev pub is_older : Choices → Bool
is_older c = not (has_rev2 c)

-- the messages of the mailbox that is selected behind a turn: a row tells the number of one of them
abbrev pub messages_behind : Turn → List Message
messages_behind turn = messages_of (selected_box turn.selected turn.server.boxes)

-- a command that is carried out, the request for the next part, and a NO in place of it
abbrev pub command_text : State → Tag → Command → List ℕ
command_text s tag command = lines_of (is_older s.choices) tag (messages_behind (turn_at s tag command)) (told_in tag (turn_at s tag command).replies)

abbrev pub go_text : State → Tag → List ℕ
go_text s tag = lines_of (is_older s.choices) tag [] (responses.Go ∷ [])

abbrev pub denial_text : State → Tag → List ℕ
denial_text s tag = lines_of (is_older s.choices) tag [] (told_in tag (denied codings.Other))

-- BAD, with the very tag that the text begins with, or with `*`
abbrev pub bad_text : (parts : List (List ℕ)) (bad : Response) → IsBad parts bad → List ℕ
bad_text parts _ (tagged word tag begins names) = word ++ codes " BAD done\r\n"
bad_text parts _ (untagged none) = codes "* BAD done\r\n"

-- what one more part brings
abbrev pub answer_text : (s : State) (parts : List (List ℕ)) (told : List Response) (u : State) → Answers s parts told u → List ℕ
answer_text s parts _ _ (carries tag command whole) = command_text s tag command
answer_text s parts _ _ (goes_on tag command front apart) = go_text s tag
answer_text s parts _ _ (refuses tag command name front named closed) = denial_text s tag
answer_text s parts _ _ (says_bad bad none is) = bad_text parts bad is

-- all that is told, step by step
abbrev pub steps_text : (s : State) (told : List Response) (u : State) → Steps s told u → List ℕ
steps_text s _ _ stops = []
steps_text s _ u (hears {t = t} {told = told} {later = later} part rest cut is answer after) =
    answer_text (record s { begun = rest }) (s.parts ++ part ∷ []) told t answer ++ steps_text t later u after
