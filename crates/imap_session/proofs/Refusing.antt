-- The refusal of a part is the table's answer, and what is selected behind an answer.
use Rattle.std.proofs.Common.{◌≡◌, ◌≢◌, inl, inr, ℕ, List, Option, refl, sym, ◌∙◌}
use Rattle.imap_model.specs.CarriedOut.{CarriesOut, Decides, Fulfils, Refuses, RefusalSays, RefusalCode, left_selected, SaysRemarks}
use Rattle.imap_model.specs.Carrying.{Waiting}
use Rattle.imap_model.specs.Remarks.{MaySay, MayCode, selected_box}
use Rattle.imap_model.specs.declared.code.Code.{Code}
use Rattle.imap_model.specs.declared.command.Command.{Command}
use Rattle.imap_model.specs.declared.command.Command.TheVariants as commands
use Rattle.imap_model.specs.declared.ending.Ending.{Ending}
use Rattle.imap_model.specs.declared.ending.Ending.TheVariants as endings
use Rattle.imap_model.specs.declared.replies.Replies.{Replies}
use Rattle.imap_model.specs.declared.response.Response.{Response}
use Rattle.imap_model.specs.declared.server.Mailbox.{Mailbox}
use Rattle.imap_model.specs.declared.server.Server.{Server}
use Rattle.imap_model.proofs.Remarking.{all_weaker}
use Rattle.imap_session.specs.Session.{KeepsSelection}

kept : (command : Command) (selected : Option (List ℕ)) → KeepsSelection command → left_selected command selected ≡ selected
kept commands.Capability selected k = refl
kept (commands.Login account) selected k = refl
kept (commands.Plain account) selected k = refl
kept (commands.Enable rev2) selected k = refl
kept (commands.Select name since) selected k = absurd k
kept commands.FetchAll selected k = refl
kept (commands.FetchRow uid) selected k = refl
kept (commands.Search from id) selected k = refl
kept (commands.FetchIds uids) selected k = refl
kept (commands.FetchText uid) selected k = refl
kept (commands.Store uid since add flags) selected k = refl
kept (commands.Shift uid to) selected k = refl
kept (commands.Copy uid to) selected k = refl
kept (commands.Expunge uid) selected k = refl
kept (commands.Append to flags text) selected k = refl
kept commands.Logout selected k = refl

says : (command : Command) (selected : Option Mailbox) (r : Response) → KeepsSelection command → MaySay selected r → RefusalSays command selected r
says commands.Capability selected r k h = h
says (commands.Login account) selected r k h = h
says (commands.Plain account) selected r k h = h
says (commands.Enable rev2) selected r k h = h
says (commands.Select name since) selected r k h = absurd k
says commands.FetchAll selected r k h = h
says (commands.FetchRow uid) selected r k h = h
says (commands.Search from id) selected r k h = h
says (commands.FetchIds uids) selected r k h = h
says (commands.FetchText uid) selected r k h = h
says (commands.Store uid since add flags) selected r k h = h
says (commands.Shift uid to) selected r k h = h
says (commands.Copy uid to) selected r k h = h
says (commands.Expunge uid) selected r k h = h
says (commands.Append to flags text) selected r k h = h
says commands.Logout selected r k h = h

codes_say : (command : Command) (w : Waiting) (s : Server) (code : Code) → MayCode (selected_box w.selected s.boxes) code
    → RefusalCode command w s code
codes_say commands.Capability w s code h = h
codes_say (commands.Login account) w s code h = h
codes_say (commands.Plain account) w s code h = h
codes_say (commands.Enable rev2) w s code h = h
codes_say (commands.Select name since) w s code h = h
codes_say commands.FetchAll w s code h = h
codes_say (commands.FetchRow uid) w s code h = h
codes_say (commands.Search from id) w s code h = h
codes_say (commands.FetchIds uids) w s code h = h
codes_say (commands.FetchText uid) w s code h = h
codes_say (commands.Store uid since add flags) w s code h = inl h
codes_say (commands.Shift uid to) w s code h = h
codes_say (commands.Copy uid to) w s code h = h
codes_say (commands.Expunge uid) w s code h = h
codes_say (commands.Append to flags text) w s code h = h
codes_say commands.Logout w s code h = h

refuses : (w : Waiting) (s t : Server) (r : Replies) → KeepsSelection w.command → SaysRemarks (selected_box w.selected s.boxes) r → t ≡ s
    → Refuses w.command w s r t w.selected
refuses w s t r keeps h same = record {
  server = same;
  selection = sym (kept w.command w.selected keeps);
  says = all_weaker (MaySay (selected_box w.selected s.boxes)) (RefusalSays w.command (selected_box w.selected s.boxes)) r.untagged
      (λ x m. says w.command (selected_box w.selected s.boxes) x keeps m) h.untagged;
  code = codes_say w.command w s r.code h.code;
}

-- a refused part is a refused command
pub refusal_carries : (w : Waiting) (s t : Server) (r : Replies) → KeepsSelection w.command → r.ending ≢ endings.Ok
    → SaysRemarks (selected_box w.selected s.boxes) r → t ≡ s → CarriesOut w s r t w.selected
refusal_carries w s t r keeps not h same = by_ending r.ending refl
  where
    by_ending : (e : Ending) → r.ending ≡ e → Decides e w.command w s r t w.selected
    by_ending endings.Ok is = absurd (not is)
    by_ending endings.No is = refuses w s t r keeps h same
    by_ending endings.Bad is = refuses w s t r keeps h same

module _ (w : Waiting) (s : Server) (r : Replies) (t : Server) (after : Option (List ℕ)) where
  fulfilled : (command : Command) → KeepsSelection command → Fulfils command w s r t after → after ≡ w.selected
  fulfilled commands.Capability k x = x.stays.selection
  fulfilled (commands.Login account) k x = x.stays.selection
  fulfilled (commands.Plain account) k x = x.stays.selection
  fulfilled (commands.Enable rev2) k x = x.stays.selection
  fulfilled (commands.Select name since) k x = absurd k
  fulfilled commands.FetchAll k x = x.stays.selection
  fulfilled (commands.FetchRow uid) k x = x.stays.selection
  fulfilled (commands.Search from id) k x = x.stays.selection
  fulfilled (commands.FetchIds uids) k x = x.stays.selection
  fulfilled (commands.FetchText uid) k x = x.stays.selection
  fulfilled (commands.Store uid since add flags) k (inl x) = x.selection
  fulfilled (commands.Store uid since add flags) k (inr x) = x.selection
  fulfilled (commands.Shift uid to) k (inl x) = x.selection
  fulfilled (commands.Shift uid to) k (inr x) = x.selection
  fulfilled (commands.Copy uid to) k (inl x) = x.selection
  fulfilled (commands.Copy uid to) k (inr x) = x.selection
  fulfilled (commands.Expunge uid) k (inl x) = x.selection
  fulfilled (commands.Expunge uid) k (inr x) = x.selection
  fulfilled (commands.Append to flags text) k x = x.selection
  fulfilled commands.Logout k x = x.stays.selection

  decided : (e : Ending) → KeepsSelection w.command → Decides e w.command w s r t after → after ≡ w.selected
  decided endings.Ok k x = fulfilled w.command k x
  decided endings.No k x = x.selection ∙ kept w.command w.selected k
  decided endings.Bad k x = x.selection ∙ kept w.command w.selected k

  -- a command that keeps what is selected does so
  pub keeps_selected : KeepsSelection w.command → CarriesOut w s r t after → after ≡ w.selected
  keeps_selected k x = decided r.ending k x
