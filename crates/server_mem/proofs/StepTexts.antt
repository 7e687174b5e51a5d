-- The bytes of one step behind those of others.
use Rattle.std.proofs.Common.{◌≡◌, ℕ, List, [], ◌∷◌, ◌++◌, Option, refl, ap, sym, ◌∙◌, subst, append_assoc}
use Rattle.imap_model.specs.PlainServer.{Turn}
use Rattle.imap_model.specs.CarriedOut.{told_in}
use Rattle.imap_model.specs.Remarks.{selected_box}
use Rattle.imap_model.specs.declared.command.Command.{Command}
use Rattle.imap_model.specs.declared.response.Response.{Response}
use Rattle.imap_model.specs.declared.server.Mailbox.{Mailbox}
use Rattle.imap_model.specs.declared.server.Message.{Message}
use Rattle.imap_model.specs.declared.server.Server.{Server}
use Rattle.mail_base.specs.declared.tag.Tag.{Tag}
use Rattle.response_lines.specs.ToldText.{lines_of}
use Rattle.server_mem.specs.Hearing.{Steps, stops, hears}
use Rattle.server_mem.specs.SelectedMessages.{messages_of}
use Rattle.server_mem.specs.States.{State, turn_at}
use Rattle.server_mem.specs.Texts.{answer_text, command_text, is_older, messages_behind, steps_text}

-- steps, and their bytes behind one another
pub steps_joined : (s : State) (told : List Response) (t : State) (later : List Response) (u : State) (one : Steps s told t) (two : Steps t later u) →
    (all : Steps s (told ++ later) u) × (steps_text s (told ++ later) u all ≡ steps_text s told t one ++ steps_text t later u two)
steps_joined s _ _ later u stops two = (two, refl)
steps_joined s _ t later u (hears {t = m} {told = first} {later = second} part rest cut is answer between) two =
    let more = steps_joined m second t later u between two in
    let front : List ℕ = answer_text (record s { begun = rest }) (s.parts ++ part ∷ []) first m answer in
    let back : List ℕ = steps_text t later u two in
    subst (λ (told : List Response). (all : Steps s told u) × (steps_text s told u all ≡ (front ++ steps_text m second t between) ++ back))
    (sym (append_assoc first second later)) (
      hears part rest cut is answer more.0,
      ap (λ (bytes : List ℕ). front ++ bytes) more.1 ∙ sym (append_assoc front (steps_text m second t between) back),
    )

-- the lines of a command, by what was worked out of it
pub command_told : (s : State) (tag : Tag) (command : Command) (messages : List Message) (boxes : List Mailbox) (server : Server)
    (selected : Option (List ℕ)) (told : List Response) (bytes : List ℕ) → messages ≡ messages_of (selected_box selected boxes)
    → boxes ≡ server.boxes → server ≡ (turn_at s tag command).server → selected ≡ (turn_at s tag command).selected
    → told ≡ told_in tag (turn_at s tag command).replies → bytes ≡ lines_of (is_older s.choices) tag messages told → bytes ≡ command_text s tag command
command_told s tag command messages boxes server selected told bytes these behind one two all text =
    let turn : Turn = turn_at s tag command in
    text
    ∙ ap (λ (ms : List Message). lines_of (is_older s.choices) tag ms told) (these
    ∙ ap (λ (bs : List Mailbox). messages_of (selected_box selected bs)) (behind ∙ ap (λ (x : Server). x.boxes) one)
    ∙ ap (λ (o : Option (List ℕ)). messages_of (selected_box o turn.server.boxes)) two)
    ∙ ap (lines_of (is_older s.choices) tag (messages_behind turn)) all
