-- No completion and no request to go on stands among the untagged responses of a reply.
use Rattle.std.proofs.Common.{◌≡◌, inl, inr, ℕ, List, ◌∷◌, Option, Some, None, refl, sym, subst}
use Rattle.std.specs.List.{AllByRecursion}
use Rattle.imap_model.specs.CarriedOut.{CarriesOut, EnableSays, SearchSays, IdsSay, TextSays, MoveSays, ByeSays, RefusalSays, Fulfils, Refuses, Decides}
use Rattle.imap_model.specs.Carrying.{Waiting}
use Rattle.imap_model.specs.Remarks.{selected_box, MaySay, Remarks}
use Rattle.imap_model.specs.SelectTells.{SelectSays, SelectTells}
use Rattle.imap_model.specs.Untagged.{IsBefore, AreBefore}
use Rattle.imap_model.specs.declared.code.Code.{Code}
use Rattle.imap_model.specs.declared.code.Code.TheVariants as codings
use Rattle.imap_model.specs.declared.command.Command.{Command}
use Rattle.imap_model.specs.declared.command.Command.TheVariants as commands
use Rattle.imap_model.specs.declared.ending.Ending.{Ending}
use Rattle.imap_model.specs.declared.ending.Ending.TheVariants as endings
use Rattle.imap_model.specs.declared.replies.Replies.{Replies}
use Rattle.imap_model.specs.declared.response.Response.{Response}
use Rattle.imap_model.specs.declared.response.Response.TheVariants as responses
use Rattle.imap_model.specs.declared.server.Mailbox.{Mailbox}
use Rattle.imap_model.specs.declared.server.Server.{Server}
use Rattle.imap_model.proofs.Remarking.{all_append, all_weaker}

-- a sentence on responses that allows neither is enough
abbrev Forbids : (Response → Type 0) → Type 0
Forbids May = (tag : _) (ending : Ending) (code : Code) → May (responses.Done tag ending code) → ⊥

before_if : (May : Response → Type 0) → Forbids May → (May responses.Go → ⊥) → (r : Response) → May r → IsBefore r
before_if May done go (responses.Done tag ending code) h = done tag ending code h
before_if May done go (responses.Untagged ending code) h = tt
before_if May done go responses.Bye h = tt
before_if May done go (responses.Preauth code) h = tt
before_if May done go responses.Go h = go h
before_if May done go (responses.Capability words) h = tt
before_if May done go (responses.Enabled words) h = tt
before_if May done go (responses.Exists count) h = tt
before_if May done go (responses.Fetch fetched) h = tt
before_if May done go (responses.Vanished earlier uids) h = tt
before_if May done go (responses.Found uids) h = tt
before_if May done go responses.Other h = tt

no_done : (selected : Option Mailbox) → Forbids (MaySay selected)
no_done None tag ending code h = h
no_done (Some b) tag ending code h = h

no_go : (selected : Option Mailbox) → MaySay selected responses.Go → ⊥
no_go None h = h
no_go (Some b) h = h

all_before : (May : Response → Type 0) → Forbids May → (May responses.Go → ⊥) → (rs : List Response) → AllByRecursion May rs → AreBefore rs
all_before May done go rs all = all_weaker May IsBefore rs (before_if May done go) all

pub remarks_before : (selected : Option Mailbox) (rs : List Response) → Remarks selected rs → AreBefore rs
remarks_before selected rs all = all_before (MaySay selected) (no_done selected) (no_go selected) rs all

selects_before : (old : Option Mailbox) (since : _) (b : Mailbox) (untagged : List Response) (code : Code) →
    SelectTells old since b untagged code → AreBefore untagged
selects_before old since b untagged code t =
    let new : AreBefore t.told = all_before (SelectSays b) (no_done (Some b)) (no_go (Some b)) t.told t.of_new in
    elim t.parted [
      | inl is ↦ subst AreBefore (sym is) (all_append IsBefore t.before (responses.Untagged endings.Ok codings.Closed ∷ t.told)
          (remarks_before old t.before t.of_old) (tt, new))
      | inr is ↦ subst AreBefore (sym is.1) new
    ]

refusal_no_done : (command : Command) (selected : Option Mailbox) → Forbids (RefusalSays command selected)
refusal_no_done (commands.Select name since) selected tag ending code h = no_done selected tag ending code h
refusal_no_done commands.Capability selected tag ending code h = no_done selected tag ending code h
refusal_no_done (commands.Login account) selected tag ending code h = no_done selected tag ending code h
refusal_no_done (commands.Plain account) selected tag ending code h = no_done selected tag ending code h
refusal_no_done (commands.Enable rev2) selected tag ending code h = no_done selected tag ending code h
refusal_no_done commands.FetchAll selected tag ending code h = no_done selected tag ending code h
refusal_no_done (commands.FetchRow uid) selected tag ending code h = no_done selected tag ending code h
refusal_no_done (commands.Search from id) selected tag ending code h = no_done selected tag ending code h
refusal_no_done (commands.FetchIds uids) selected tag ending code h = no_done selected tag ending code h
refusal_no_done (commands.FetchText uid) selected tag ending code h = no_done selected tag ending code h
refusal_no_done (commands.Store uid since add flags) selected tag ending code h = no_done selected tag ending code h
refusal_no_done (commands.Shift uid to) selected tag ending code h = no_done selected tag ending code h
refusal_no_done (commands.Copy uid to) selected tag ending code h = no_done selected tag ending code h
refusal_no_done (commands.Expunge uid) selected tag ending code h = no_done selected tag ending code h
refusal_no_done (commands.Append to flags octets) selected tag ending code h = no_done selected tag ending code h
refusal_no_done commands.Logout selected tag ending code h = no_done selected tag ending code h

refusal_no_go : (command : Command) (selected : Option Mailbox) → RefusalSays command selected responses.Go → ⊥
refusal_no_go (commands.Select name since) selected h = no_go selected h
refusal_no_go commands.Capability selected h = no_go selected h
refusal_no_go (commands.Login account) selected h = no_go selected h
refusal_no_go (commands.Plain account) selected h = no_go selected h
refusal_no_go (commands.Enable rev2) selected h = no_go selected h
refusal_no_go commands.FetchAll selected h = no_go selected h
refusal_no_go (commands.FetchRow uid) selected h = no_go selected h
refusal_no_go (commands.Search from id) selected h = no_go selected h
refusal_no_go (commands.FetchIds uids) selected h = no_go selected h
refusal_no_go (commands.FetchText uid) selected h = no_go selected h
refusal_no_go (commands.Store uid since add flags) selected h = no_go selected h
refusal_no_go (commands.Shift uid to) selected h = no_go selected h
refusal_no_go (commands.Copy uid to) selected h = no_go selected h
refusal_no_go (commands.Expunge uid) selected h = no_go selected h
refusal_no_go (commands.Append to flags octets) selected h = no_go selected h
refusal_no_go commands.Logout selected h = no_go selected h

refused_before : (w : Waiting) (s : Server) (r : Replies) (t : Server) (after : Option (List ℕ)) → Refuses w.command w s r t after → AreBefore r.untagged
refused_before w s r t after x =
    let sel = selected_box w.selected s.boxes in
    all_before (RefusalSays w.command sel) (refusal_no_done w.command sel) (refusal_no_go w.command sel) r.untagged x.says

module _ (w : Waiting) (s : Server) (r : Replies) (t : Server) (after : Option (List ℕ)) where
  fulfilled : (command : Command) → Fulfils command w s r t after → AreBefore r.untagged
  fulfilled commands.Capability x = remarks_before _ r.untagged x.says.untagged
  fulfilled (commands.Login account) x = remarks_before _ r.untagged x.says.untagged
  fulfilled (commands.Plain account) x = remarks_before _ r.untagged x.says.untagged
  fulfilled (commands.Enable rev2) x =
      let sel = selected_box w.selected s.boxes in
      all_before (EnableSays rev2 sel) (no_done sel) (no_go sel) r.untagged x.says
  fulfilled (commands.Select name since) x = selects_before _ since x.box r.untagged r.code x.tells
  fulfilled commands.FetchAll x = remarks_before (Some x.box) r.untagged x.says
  fulfilled (commands.FetchRow uid) x = remarks_before (Some x.box) r.untagged x.says
  fulfilled (commands.Search from id) x = all_before (SearchSays from id x.box) (no_done (Some x.box)) (no_go (Some x.box)) r.untagged x.says
  fulfilled (commands.FetchIds uids) x = all_before (IdsSay uids x.box) (no_done (Some x.box)) (no_go (Some x.box)) r.untagged x.says
  fulfilled (commands.FetchText uid) x = all_before (TextSays uid x.box) (no_done (Some x.box)) (no_go (Some x.box)) r.untagged x.says
  fulfilled (commands.Store uid since add flags) (inl x) = remarks_before _ r.untagged x.says.untagged
  fulfilled (commands.Store uid since add flags) (inr x) = remarks_before _ r.untagged x.says
  fulfilled (commands.Shift uid to) (inl x) =
      let sel = selected_box w.selected t.boxes in
      all_before (MoveSays x.copied sel) (no_done sel) (no_go sel) r.untagged x.says
  fulfilled (commands.Shift uid to) (inr x) = remarks_before _ r.untagged x.says.untagged
  fulfilled (commands.Copy uid to) (inl x) =
      let sel = selected_box w.selected t.boxes in
      all_before (MoveSays x.copied sel) (no_done sel) (no_go sel) r.untagged x.says
  fulfilled (commands.Copy uid to) (inr x) = remarks_before _ r.untagged x.says.untagged
  fulfilled (commands.Expunge uid) (inl x) = remarks_before _ r.untagged x.says.untagged
  fulfilled (commands.Expunge uid) (inr x) = remarks_before _ r.untagged x.says.untagged
  fulfilled (commands.Append to flags octets) x = remarks_before _ r.untagged x.says
  fulfilled commands.Logout x =
      let sel = selected_box w.selected s.boxes in
      all_before (ByeSays sel) (no_done sel) (no_go sel) r.untagged x.says

-- in no reply that the table allows
pub untagged_before : (w : Waiting) (s : Server) (r : Replies) (t : Server) (after : Option (List ℕ)) → CarriesOut w s r t after → AreBefore r.untagged
untagged_before w s r t after x = by_ending r.ending refl x
  where
    by_ending : (e : Ending) → r.ending ≡ e → CarriesOut w s r t after → AreBefore r.untagged
    by_ending endings.Ok is x = fulfilled w s r t after w.command (subst (λ (e : Ending). Decides e w.command w s r t after) is x)
    by_ending endings.No is x = refused_before w s r t after (subst (λ (e : Ending). Decides e w.command w s r t after) is x)
    by_ending endings.Bad is x = refused_before w s r t after (subst (λ (e : Ending). Decides e w.command w s r t after) is x)
