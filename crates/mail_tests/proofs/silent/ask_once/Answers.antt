use Rattle.std.proofs.Common.{◌≡◌, ℕ, List, [], ◌∷◌, ◌∙◌, ap, arith}
use Rattle.std.proofs.lemmas.Fmt.{decimal_digit}
use Rattle.imap_model.specs.CommandParts.{◌⌢◌, crlf, line, words}
use Rattle.imap_model.specs.CommandText.{parts_of}
use Rattle.imap_model.specs.Talking.{Peer, Talk, Awaits, IsPartOf}
use Rattle.imap_model.specs.declared.command.Command.TheVariants as commands
use Rattle.mail_base.specs.declared.tag.Tag.TheVariants as tags
use Rattle.world_traits.specs.Connected.{IsGreeted}
use Rattle.world_traits.specs.LinkState.{fresh}
use Rattle.world_traits.proofs.Due.{sent_due}
use Rattle.mail_tests.proofs.silent.ask_once.Goals as goal

awaits_first : (p : Peer) → IsGreeted p → Awaits (tags.Count 1) [] p
awaits_first p g = (g.quiet, ap (λ (t : Talk). t.arriving) g.talk)

-- the bytes that are sent
abbrev sent_text : List ℕ
sent_text = 67 ∷ 49 ∷ 32 ∷ 67 ∷ 65 ∷ 80 ∷ 65 ∷ 66 ∷ 73 ∷ 76 ∷ 73 ∷ 84 ∷ 89 ∷ 13 ∷ 10 ∷ []

text : parts_of (tags.Count 1) commands.Capability ≡ sent_text ∷ []
unfolding ◌⌢◌
text = ap (λ (digits : List ℕ). (words "C" ⌢ line digits) ⌢ words " " ⌢ words "CAPABILITY" ⌢ line crlf) (decimal_digit 1 (omega arith))

pub send-requires : goal.send-requires
send-requires g c = record { there = λ tells. (fresh, (c.in_ok-connect.ensures.made (g.L.Clocked.server_with_files tells)).begins) }

pub recv-requires-clause-due : goal.recv-requires-clause-due
recv-requires-clause-due g c = λ tells.
    let files = g.L.Clocked.server_with_files tells in
    let begins = (c.in_ok-connect.ensures.made files).begins in
    let awaits = awaits_first (g.L.Clocked.clock c.connect.new.self).now.outside (c.in_ok-connect.ensures.greets tells) in
    let is_part : IsPartOf (tags.Count 1) commands.Capability [] sent_text [] =
    record { sent = record { writable = record { tagged = omega arith; carried = tt }; tag_fits = omega arith; held = tt }; text = text } in
    let sent = c.in_ok-send.ensures.told tells (tags.Count 1) commands.Capability [] [] is_part awaits in
    sent_due (tags.Count 1) commands.Capability [] _ [] _ _ fresh _ awaits
    (g.met.L.Link.honest c.connect.new.self tells fresh begins) sent.done (c.in_ok-send.ensures.received files ∙ begins)
