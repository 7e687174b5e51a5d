-- One line behind another, and the number of its message.
use Rattle.std.proofs.Common.{◌≡◌, ℕ, ◌+◌, ◌-◌, ◌<◌, Bool, List, ◌∷◌, ◌++◌, Option, Some, None, length, take, drop, get_or, sym, ◌∙◌, ap, arith, append_assoc}
use Rattle.std.proofs.lemmas.List.{drop_more, length-drop, take_all}
use Rattle.std.specs.Prelude.{◌==◌}
use Rattle.std.specs.List.{position}
use Rattle.std.specs.Option.{unwrap_or}
use Rattle.imap_model.specs.declared.response.Response.{Response}
use Rattle.imap_model.specs.declared.server.Message.{Message}
use Rattle.mail_base.specs.declared.tag.Tag.{Tag}
use Rattle.response_lines.specs.LineTexts.{◌⌢◌, line_end, line_of}
use Rattle.response_lines.specs.MessageNumbers.{number_at, place_from, place_of}
use Rattle.response_lines.specs.ToldText.{count_other, lines_from}

-- the messages from a place on
pub messages_behind : (messages rest : List Message) (at : ℕ) → rest ≡ take (length messages - at) (drop at messages) → rest ≡ drop at messages
messages_behind messages rest at is = is ∙ take_all (length messages - at) (drop at messages) (omega (arith, length-drop at messages))

-- the UID's place behind the messages that were passed over
place_with : (messages rest : List Message) (at uid : ℕ) (found : Option ℕ) → rest ≡ drop at messages →
    found ≡ position (λ message. message.uid == uid) rest → at + unwrap_or found 0 ≡ place_from messages at (Some uid)
place_with messages rest at uid found same is =
    ap (λ (o : Option ℕ). at + unwrap_or o 0) (is ∙ ap (position (λ message. message.uid == uid)) same)

pub place_found : (messages rest : List Message) (at uid further : ℕ) (found : Option ℕ) → rest ≡ drop at messages →
    found ≡ position (λ message. message.uid == uid) rest → found ≡ Some further → at + further ≡ place_from messages at (Some uid)
place_found messages rest at uid further found same is some =
    sym (ap (λ (o : Option ℕ). at + unwrap_or o 0) some) ∙ place_with messages rest at uid found same is

pub place_missing : (messages rest : List Message) (at uid : ℕ) (found : Option ℕ) → rest ≡ drop at messages →
    found ≡ position (λ message. message.uid == uid) rest → found ≡ None → at ≡ place_from messages at (Some uid)
place_missing messages rest at uid found same is none =
    let no_more : at ≡ at + unwrap_or {T = ℕ} None 0 = omega arith in
    no_more ∙ sym (ap (λ (o : Option ℕ). at + unwrap_or o 0) none) ∙ place_with messages rest at uid found same is

module _ (older : Bool) (tag : Tag) (messages : List Message) (at others : ℕ) (response : Response) (place number count : ℕ)
    (is_place : place ≡ place_of messages at response) (is_number : number ≡ number_at place) (is_count : count ≡ count_other others response) where
  abbrev line_with : ℕ → List ℕ
  line_with n = line_of (record { older = older; tag = tag; number = n; others = others }) response

  -- the first of the lines, and those behind it
  line_first : (told : List Response) →
      line_with number ++ (line_end ++ lines_from older tag messages place count told) ≡ lines_from older tag messages at others (response ∷ told)
  unfolding ◌⌢◌
  line_first told =
      ap (λ (n : ℕ). line_with n ++ (line_end ++ lines_from older tag messages place count told)) (is_number ∙ ap number_at is_place)
      ∙ ap (λ (p : ℕ). line_with (number_at (place_of messages at response)) ++ (line_end ++ lines_from older tag messages p count told)) is_place
      ∙ ap (λ (n : ℕ). line_with (number_at (place_of messages at response))
      ++ (line_end ++ lines_from older tag messages (place_of messages at response) n told)) is_count

  -- a turn of the loop
  pub line_turn : (i : ℕ) (told : List Response) (o x z : List ℕ) → i < length told → response ≡ get_or told i response →
      x ++ lines_from older tag messages at others (drop i told) ≡ o → z ≡ x ⌢ (line_with number ⌢ line_end)
      → z ++ lines_from older tag messages place count (drop (i + 1) told) ≡ o
  unfolding ◌⌢◌
  line_turn i told o x z lt is before grown =
      let more : List ℕ = lines_from older tag messages place count (drop (i + 1) told) in
      let here : drop i told ≡ response ∷ drop (i + 1) told =
      drop_more told i response lt ∙ ap (λ (r : Response). r ∷ drop (i + 1) told) (sym is) in
      ap (λ (t : List ℕ). t ++ more) grown ∙ append_assoc x (line_with number ++ line_end) more
      ∙ ap (λ (t : List ℕ). x ++ t) (append_assoc (line_with number) line_end more ∙ line_first (drop (i + 1) told)
      ∙ ap (lines_from older tag messages at others) (sym here)) ∙ before
