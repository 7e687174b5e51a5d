-- That no deed of this client is added at a server (this client's profile of RFC 4549, section 4.2).
use Rattle.std.specs.Prelude.{◌≡◌, ℕ, true, false, Option, Some, None, ⊤}
use Rattle.imap_model.specs.Carrying.{Waiting}
use Rattle.imap_model.specs.Mutating.{is_mutating}
use Rattle.imap_model.specs.Ours.{is_try, ours}
use Rattle.imap_session.specs.Enquiring.{Enquiring}
use Rattle.world_traits.specs.Links.{Linked}
use Rattle.world_traits.specs.Moments.{Clock}
use Rattle.play_driver.specs.Joining.{Grows}
use Rattle.mail_top.specs.Showing.{OnlyReads}

-- no command of action n waits
abbrev pub NoneWaits : ℕ → Option Waiting → Type 0
NoneWaits n None = ⊤
NoneWaits n (Some w) = is_mutating w.command ≡ true → is_try n w.tag ≡ false

-- each action has the deeds that it had, but one of which a command waited at first
abbrev pub AddsNone : Clock → Clock → Type 0
AddsNone old new =
    (n : ℕ) → NoneWaits n old.now.outside.waiting → ours n new.now.outside.server.history ≡ ours n old.now.outside.server.history

-- so it is up to each moment of a time in which a journal is opened and then questions are asked
abbrev pub ReadingsAddNone : Type 0
ReadingsAddNone =
    (old opened new at : Clock) → OnlyReads old opened → Linked Enquiring opened new → Grows old at → Grows at new → AddsNone old at
