-- What a run does and why it ends early: it enters, takes its turns until nothing is needed, and leaves (RFC 9051, section 3; RFC 4549,
-- section 4.2; RFC 7162, section 3.2.5).
use Rattle.std.specs.Prelude.{◌≡◌, ℕ, ◌++◌, List}
use Rattle.std.specs.declared.alloc.Global.{Global}
use Rattle.mail_base.specs.Account.{Credentials}
use Rattle.imap_model.specs.declared.command.Command.TheVariants as commands
use Rattle.imap_model.specs.declared.response.Response.{Response}
use Rattle.playback.specs.Needs.{IsFinished}
use Rattle.world_traits.specs.LinkState.{LinkState}
use Rattle.store_core.specs.Holding.{Holding}
use Rattle.store_core.specs.Mail.{mail}
use Rattle.imap_session.specs.Dialogue.{next_tag, next_text}
use Rattle.imap_session.specs.Hearing.{Hears}
use Rattle.imap_session.specs.Leaving.{Left, Staying}
use Rattle.imap_session.specs.Sent.{SentFront}
use Rattle.imap_session.specs.declared.fault.SessionFault.{SessionFault}
use Rattle.play_driver.specs.Entering.{HasEntered, NotEntered}
use Rattle.play_driver.specs.Faults.{of_session}
use Rattle.play_driver.specs.Running.{IsShort, RunsTo, first_standing}
use Rattle.play_driver.specs.Stages.{Stage}
use Rattle.play_driver.specs.Turning.{Standing, TurnFails}
use Rattle.play_driver.specs.declared.fault.PlayFault.{PlayFault}
use Rattle.play_driver.specs.declared.fault.PlayFault.TheVariants as faults

-- from a stage on LOGOUT was sent whole, and a BYE or its completion was read
pub record HasLeft (p : Stage) (link : LinkState) : Type 0 where
  pub heard : List Response
  pub hears : Hears heard p.link.connection p.feed
  pub sent : link.sent ≡ p.link.sent ++ next_text p.count commands.Logout
  pub left : Left heard (next_tag p.count) link.connection

-- from a stage on LOGOUT was sent to no more than its end, and neither a BYE nor its completion was read
pub record NotLeft (p : Stage) (link : LinkState) (fault : SessionFault) : Type 0 where
  pub heard : List Response
  pub hears : Hears heard p.link.connection p.feed
  pub sent : SentFront (next_text p.count commands.Logout) p.link.sent link.sent
  pub staying : Staying heard (next_tag p.count) hears.connection.received link.connection fault

-- how far a run came that entered at this stage: to this standing, by few enough SELECTs
pub record CameTo (entered : Stage) (s : Holding mail) (p : Standing) : Type 0 where
  pub alloc : Global
  pub selects : ℕ
  pub learns : ℕ
  pub runs : RunsTo (first_standing alloc entered s) p selects learns
  pub short : IsShort s.book selects learns p

-- The run entered, and took its turns until each action was settled and each mailbox resynchronised since; so one store became the other;
-- and the run left.
pub record Plays (account : Credentials) (s t : Holding mail) (link : LinkState) : Type 0 where
  pub first : Stage
  pub entered : HasEntered account first
  pub last : Standing
  pub came : CameTo first s last
  pub finished : IsFinished last.player last.store.book
  pub is : last.store ≡ t
  pub left : HasLeft last.stage link

-- Why a run ended early, on the bytes received, with what was sent, and with the store that it came to: it didn't enter; or a turn failed
-- behind those that it took; or it didn't leave. Where the disk failed the store has the book of the last turn.
pub data EndsEarly (account : Credentials) (s store : Holding mail) (old link : LinkState) (fault : PlayFault) : Type 0 where
  not_entered : (f : SessionFault) → fault ≡ of_session f → NotEntered account old link f → store ≡ s →
      EndsEarly account s store old link fault
  turn_failed : (p : Stage) (q : Standing) → HasEntered account p → CameTo p s q → TurnFails q link fault →
      store.book ≡ q.store.book → ((fault ≡ faults.Disk → ⊥) → store ≡ q.store) → EndsEarly account s store old link fault
  not_left : (f : SessionFault) (p : Stage) (q : Standing) → fault ≡ of_session f → HasEntered account p → CameTo p s q →
      IsFinished q.player q.store.book → NotLeft q.stage link f → q.store ≡ store → EndsEarly account s store old link fault
