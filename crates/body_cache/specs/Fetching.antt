-- How the text of a message is fetched: its mailbox is selected, and its text is asked for (RFC 9051, sections 6.3.2 and 6.4.5).
use Rattle.std.specs.Prelude.{◌≡◌, ◌≢◌, ◌+◌, ℕ, List, None, Some, Ok, Err, Result}
use Rattle.mail_base.specs.Account.{Credentials}
use Rattle.imap_model.specs.declared.command.Command.TheVariants as commands
use Rattle.imap_model.specs.declared.item.Item.TheVariants as items
use Rattle.imap_model.specs.declared.replies.Replies.{Replies}
use Rattle.imap_session.specs.Dialogue.{next_tag}
use Rattle.imap_session.specs.Enquiring.{Enquiring}
use Rattle.imap_session.specs.declared.fault.SessionFault.{SessionFault}
use Rattle.world_traits.specs.LinkState.{LinkState}
use Rattle.world_traits.specs.Links.{Linked}
use Rattle.world_traits.specs.Moments.{Clock}
use Rattle.play_driver.specs.Entering.{HasEntered, NotEntered}
use Rattle.play_driver.specs.Exchanges.{IsAnsweredOk}
use Rattle.play_driver.specs.Faults.{of_session}
use Rattle.play_driver.specs.Playing.{HasLeft, NotLeft}
use Rattle.play_driver.specs.Stages.{Stage}
use Rattle.play_driver.specs.Turning.{AskedBetween, NotAnswered}
use Rattle.play_driver.specs.declared.fault.PlayFault.{PlayFault}
use Rattle.play_driver.specs.declared.fault.PlayFault.TheVariants as plays
use Rattle.play_driver.specs.declared.fault.Why.TheVariants as whys
use Rattle.qresync_core.specs.ToldCodes.{told_codes}
use Rattle.qresync_core.specs.declared.codes.Codes.{Codes}
use Rattle.qresync_core.specs.declared.fault.CodeFault.{CodeFault}
use Rattle.qresync_core.specs.declared.fault.CodeFault.TheVariants as codings
use Rattle.body_cache.specs.TextFound.{text_found}
use Rattle.body_cache.specs.declared.fault.TextFault.{TextFault}
use Rattle.body_cache.specs.declared.fault.TextFault.TheVariants as faults
use Rattle.body_cache.specs.declared.found.TextFound.{TextFound}
use Rattle.body_cache.specs.declared.found.TextFound.TheVariants as founds
use Rattle.body_cache.specs.declared.key.Key.{Key}

-- the mailbox has no mod-sequences, or doesn't keep its UIDs; or the reply to SELECT lacks a number
abbrev pub of_code : CodeFault → PlayFault
of_code codings.NoModSeq = plays.Lacking items.ModSeqs
of_code codings.NotSticky = plays.Lacking items.Sticky
of_code (codings.NoCode which) = plays.BadReply (whys.Lacks which)

-- From one stage to another the key's mailbox was selected, and has the key's UIDVALIDITY.
pub record Selects (key : Key) (p q : Stage) : Type 0 where
  pub replies : Replies
  pub asked : AskedBetween (next_tag p.count) (commands.Select key.name None) replies p q
  pub codes : Codes
  pub told : told_codes replies ≡ Ok codes
  pub same : codes.validity ≡ key.validity

-- SELECT wasn't answered, or told no numbers of the mailbox, or another UIDVALIDITY.
pub data NotSelected (key : Key) (p : Stage) (link : LinkState) (fault : TextFault) : Type 0 where
  unanswered : (f : SessionFault) → fault ≡ faults.Stopped (of_session f) →
      NotAnswered (next_tag p.count) (commands.Select key.name None) p link f → NotSelected key p link fault
  untold : (r : Replies) (q : Stage) (f : CodeFault) → fault ≡ faults.Stopped (of_code f) →
      AskedBetween (next_tag p.count) (commands.Select key.name None) r p q → q.link ≡ link → told_codes r ≡ Err f → NotSelected key p link fault
  renewed : (r : Replies) (q : Stage) (codes : Codes) → fault ≡ faults.Renewed codes.validity →
      AskedBetween (next_tag p.count) (commands.Select key.name None) r p q → q.link ≡ link → told_codes r ≡ Ok codes →
      codes.validity ≢ key.validity → NotSelected key p link fault

-- From one stage to another the text was asked for, and this was told.
pub record Tells (key : Key) (text : List ℕ) (p q : Stage) : Type 0 where
  pub replies : Replies
  pub asked : AskedBetween (next_tag p.count) (commands.FetchText key.uid) replies p q
  pub found : text_found key.uid replies.untagged ≡ founds.Text text

-- The FETCH wasn't answered, or told no row of the message, or none with a text.
pub data NotTold (key : Key) (p : Stage) (link : LinkState) (fault : TextFault) : Type 0 where
  unanswered : (f : SessionFault) → fault ≡ faults.Stopped (of_session f) →
      NotAnswered (next_tag p.count) (commands.FetchText key.uid) p link f → NotTold key p link fault
  gone : (r : Replies) (q : Stage) → fault ≡ faults.Gone → AskedBetween (next_tag p.count) (commands.FetchText key.uid) r p q → q.link ≡ link →
      text_found key.uid r.untagged ≡ founds.Gone → NotTold key p link fault
  lacks : (r : Replies) (q : Stage) → fault ≡ faults.Stopped (plays.BadReply (whys.Lacks items.Body)) →
      AskedBetween (next_tag p.count) (commands.FetchText key.uid) r p q → q.link ≡ link →
      text_found key.uid r.untagged ≡ founds.Lacks → NotTold key p link fault

-- The user was logged in, the mailbox was selected, this text was told, and then the connection was left.
pub record Fetches (account : Credentials) (key : Key) (text : List ℕ) (link : LinkState) : Type 0 where
  pub entered : Stage
  pub enters : HasEntered account entered
  pub selected : Stage
  pub selects : Selects key entered selected
  pub told : Stage
  pub tells : Tells key text selected told
  pub left : HasLeft told link

-- Why no text was fetched, on the bytes received: the run didn't enter; or the mailbox wasn't selected; or no text was told; or the
-- connection wasn't left.
pub data NotFetched (account : Credentials) (key : Key) (old link : LinkState) (fault : TextFault) : Type 0 where
  not_entered : (f : SessionFault) → fault ≡ faults.Stopped (of_session f) → NotEntered account old link f → NotFetched account key old link fault
  not_selected : (p : Stage) → HasEntered account p → NotSelected key p link fault → NotFetched account key old link fault
  not_told : (p q : Stage) → HasEntered account p → Selects key p q → NotTold key q link fault → NotFetched account key old link fault
  not_left : (p q z : Stage) (text : List ℕ) (f : SessionFault) → HasEntered account p → Selects key p q → Tells key text q z →
      fault ≡ faults.Stopped (of_session f) → NotLeft z link f → NotFetched account key old link fault

-- At the server: it answered SELECT at one moment of the time between, and told the key's UIDVALIDITY. So many questions were asked before.
pub record SelectsAt (key : Key) (count : ℕ) (old new : Clock) : Type 0 where
  pub replies : Replies
  pub answered : IsAnsweredOk None (next_tag count) (record { asked = commands.Select key.name None; replies = replies }) old new
  pub codes : Codes
  pub told : told_codes replies ≡ Ok codes
  pub same : codes.validity ≡ key.validity

-- It answered the FETCH so, while the mailbox was selected.
pub record TellsAt (key : Key) (text : List ℕ) (count : ℕ) (old new : Clock) : Type 0 where
  pub replies : Replies
  pub answered : IsAnsweredOk (Some key.name) (next_tag count) (record { asked = commands.FetchText key.uid; replies = replies }) old new
  pub found : text_found key.uid replies.untagged ≡ founds.Text text

-- So the text was told at the server: behind a clock at which nothing waited or arrived and nothing was selected, SELECT was answered, and then the FETCH.
pub record FetchesAt (key : Key) (text : List ℕ) (old new : Clock) : Type 0 where
  pub count : ℕ
  pub entered : Clock
  pub enters : Linked Enquiring old entered
  pub none_waits : entered.now.outside.waiting ≡ None
  pub none_arrives : entered.now.outside.talk.arriving ≡ None
  pub selected : Clock
  pub selects : SelectsAt key count entered selected
  pub told : Clock
  pub tells : TellsAt key text (count + 1) selected told
  pub leaves : Linked Enquiring told new

-- why no text was told, where this was found
abbrev pub WhyNone : TextFound → TextFault → Type 0
WhyNone founds.Gone fault = fault ≡ faults.Gone
WhyNone founds.Lacks fault = fault ≡ faults.Stopped (plays.BadReply (whys.Lacks items.Body))
WhyNone (founds.Text text) fault = ⊥

-- the codes of a reply to SELECT tell this UIDVALIDITY
pub record HasValidity (validity : ℕ) (told : Result Codes CodeFault) : Type 0 where
  pub codes : Codes
  pub is : told ≡ Ok codes
  pub same : codes.validity ≡ validity

-- why they don't
abbrev pub WhyUnfit : ℕ → Result Codes CodeFault → TextFault → Type 0
WhyUnfit validity (Err code) fault = fault ≡ faults.Stopped (of_code code)
WhyUnfit validity (Ok codes) fault = (fault ≡ faults.Renewed codes.validity) × (codes.validity ≢ validity)
