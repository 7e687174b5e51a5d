-- A well-formed server as tests that compute (RFC 9051, section 2.3.1.1; RFC 7162, section 3.1).
use Rattle.std.specs.Prelude.{ℕ, ◌+◌, ◌==◌, Bool, true, not, ◌&&◌, nat_le, nat_lt, List, [], ◌∷◌, is_some}
use Rattle.std.specs.List.{list_any}
use Rattle.imap_model.specs.Lookups.{box_at, message_at, gone_at}
use Rattle.imap_model.specs.declared.server.Message.{Message}
use Rattle.imap_model.specs.declared.server.Gone.{Gone}
use Rattle.imap_model.specs.declared.server.Mailbox.{Mailbox}

abbrev pub holds_nul : List ℕ → Bool
holds_nul text = list_any (λ byte. byte == 0) text

-- a message below UIDNEXT, with a mod-sequence up to the highest, and without a NUL
abbrev pub message_fits : ℕ → ℕ → ℕ → Message → Bool
message_fits low next highest m = nat_le low m.uid && (nat_lt m.uid next && (nat_le m.modseq highest && not (holds_nul m.text)))

abbrev pub messages_fit : ℕ → ℕ → ℕ → List Message → Bool
messages_fit low next highest [] = true
messages_fit low next highest (m ∷ ms) = message_fits low next highest m && messages_fit (m.uid + 1) next highest ms

abbrev pub gone_fits : List Message → ℕ → ℕ → Gone → List Gone → Bool
gone_fits messages next highest g later =
    nat_lt g.uid next && (nat_le g.modseq highest && (not (is_some (message_at g.uid messages)) && not (is_some (gone_at g.uid later))))

abbrev pub all_gone_fit : List Message → ℕ → ℕ → List Gone → Bool
all_gone_fit messages next highest [] = true
all_gone_fit messages next highest (g ∷ gs) = gone_fits messages next highest g gs && all_gone_fit messages next highest gs

abbrev pub box_fits : Mailbox → Bool
box_fits b = messages_fit 0 b.uidnext b.highest b.messages && all_gone_fit b.messages b.uidnext b.highest b.gone

abbrev pub boxes_fit : List Mailbox → Bool
boxes_fit [] = true
boxes_fit (b ∷ bs) = (box_fits b && not (is_some (box_at b.name bs))) && boxes_fit bs
