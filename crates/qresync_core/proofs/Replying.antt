-- The replies of a lawful server to SELECT and to the FETCH of all rows, read as this crate reads them.
use Rattle.std.proofs.Common.{◌≡◌, inl, inr, ℕ, ◌≤◌, List, Option, Some, None, refl, sym, ◌∙◌, ap, subst, arith}
use Rattle.std.specs.Prelude.{Ok}
use Rattle.std.specs.List.{AllByRecursion}
use Rattle.std.proofs.lemmas.Option.{same_Some}
use Rattle.mailbox_cache.specs.declared.cache.Cache.{Cache}
use Rattle.imap_model.proofs.Remarking.{all_weaker}
use Rattle.imap_model.specs.CarriedOut.{CarriesOut, Decides, Fulfils, Selects, Asks, RowsSay, EachRow}
use Rattle.imap_model.specs.Carrying.{Waiting}
use Rattle.imap_model.specs.Lookups.{box_at}
use Rattle.imap_model.specs.Remarks.{MaySay, selected_box}
use Rattle.imap_model.specs.SelectTells.{SelectTells, SelectSays}
use Rattle.imap_model.specs.declared.code.Code.TheVariants as codings
use Rattle.imap_model.specs.declared.command.Command.{Command}
use Rattle.imap_model.specs.declared.command.Command.TheVariants as commands
use Rattle.imap_model.specs.declared.ending.Ending.{Ending}
use Rattle.imap_model.specs.declared.ending.Ending.TheVariants as endings
use Rattle.imap_model.specs.declared.mark.Mark.{Mark}
use Rattle.imap_model.specs.declared.replies.Replies.{Replies}
use Rattle.imap_model.specs.declared.response.Response.{Response}
use Rattle.imap_model.specs.declared.response.Response.TheVariants as responses
use Rattle.imap_model.specs.declared.server.Mailbox.{Mailbox}
use Rattle.imap_model.specs.declared.server.Server.{Server}
use Rattle.qresync_core.proofs.Closing.{all_behind, behind_it}
use Rattle.qresync_core.proofs.Lawful.{IsTrueOf, select_true, remark_true, all_open, none_bare}
use Rattle.qresync_core.proofs.LawfulCodes.{numbers_true}
use Rattle.qresync_core.specs.Behind.{behind_closed, closed_len}
use Rattle.qresync_core.specs.Laws.{AnswersSelect, AnswersFetch, codes_of_box}
use Rattle.qresync_core.specs.Resync.{bare_in, kept_fault}
use Rattle.qresync_core.specs.ToldCodes.{told_codes, codes_in, numbers_of}
use Rattle.qresync_core.specs.ReadRows.{first_bare}

-- a command that was answered OK did and told what it is for
fulfilled : (c : Command) (w : Waiting) (s : Server) (r : Replies) (t : Server) (after : Option (List ℕ)) → w.command ≡ c → r.ending ≡ endings.Ok →
    CarriesOut w s r t after → Fulfils c w s r t after
fulfilled c w s r t after is ok carried =
    subst (λ (d : Command). Fulfils d w s r t after) is (subst (λ (e : Ending). Decides e w.command w s r t after) ok carried)

-- the mailbox is there
pub select_box : (name : List ℕ) (since : Option Mark) (w : Waiting) (s t : Server) (r : Replies) (after : Option (List ℕ)) →
    w.command ≡ commands.Select name since → r.ending ≡ endings.Ok → CarriesOut w s r t after → (b : Mailbox) × (box_at name s.boxes ≡ Some b)
select_box name since w s t r after is ok carried =
    let does : Selects name since w s r t after = fulfilled (commands.Select name since) w s r t after is ok carried in (does.box, does.there)

pub fetch_box : (name : List ℕ) (w : Waiting) (s t : Server) (r : Replies) (after : Option (List ℕ)) →
    w.command ≡ commands.FetchAll → w.selected ≡ Some name → r.ending ≡ endings.Ok → CarriesOut w s r t after →
    (b : Mailbox) × (box_at name s.boxes ≡ Some b)
fetch_box name w s t r after is of ok carried =
    let does : Asks RowsSay EachRow w s r t after = fulfilled commands.FetchAll w s r t after is ok carried in
    (does.box, subst (λ (o : Option (List ℕ)). selected_box o s.boxes ≡ Some does.box) of does.there)

-- what a reply to SELECT tells of the mailbox
pub record Selecting (since : Option Mark) (b : Mailbox) (r : Replies) : Type 0 where
  pub old : Option Mailbox
  pub tells : SelectTells old since b r.untagged r.code

pub selecting : (name : List ℕ) (since : Option Mark) (b : Mailbox) (r : Replies) → AnswersSelect name since b r → Selecting since b r
selecting name since b r a =
    let s : Server = a.answers.server in
    let does : Selects name since a.waiting s r a.answers.later a.answers.after =
    fulfilled (commands.Select name since) a.waiting s r a.answers.later a.answers.after a.command a.answers.ok a.answers.carried in
    let old : Option Mailbox = selected_box a.waiting.selected s.boxes in
    let same : does.box ≡ b = same_Some does.box b (sym does.there ∙ a.answers.there) in
    record { old = old; tells = subst (λ (x : Mailbox). SelectTells old since x r.untagged r.code) same does.tells }

-- what a reply to the FETCH of all rows tells of it
pub record Fetching (b : Mailbox) (r : Replies) : Type 0 where
  pub says : AllByRecursion (MaySay (Some b)) r.untagged
  pub each : EachRow b r.untagged

pub fetching : (name : List ℕ) (b : Mailbox) (r : Replies) → AnswersFetch name b r → Fetching b r
fetching name b r a =
    let s : Server = a.answers.server in
    let does : Asks RowsSay EachRow a.waiting s r a.answers.later a.answers.after =
    fulfilled commands.FetchAll a.waiting s r a.answers.later a.answers.after a.command a.answers.ok a.answers.carried in
    let there : box_at name s.boxes ≡ Some does.box =
    subst (λ (o : Option (List ℕ)). selected_box o s.boxes ≡ Some does.box) a.selected does.there in
    let same : does.box ≡ b = same_Some does.box b (sym there ∙ a.answers.there) in
    record {
      says = subst (λ (x : Mailbox). AllByRecursion (MaySay (Some x)) r.untagged) same does.says;
      each = subst (λ (x : Mailbox). EachRow x r.untagged) same does.tells;
    }

module _ (since : Option Mark) (b : Mailbox) (r : Replies) (q : Selecting since b r) where
  abbrev pub said : List Response
  said = q.tells.told

  pub said_true : AllByRecursion (IsTrueOf b) said
  said_true = all_weaker (SelectSays b) (IsTrueOf b) said (select_true b) q.tells.of_new

  pub said_behind : behind_closed r.untagged ≡ said
  said_behind =
      elim q.tells.parted [
        | inl e ↦ ap behind_closed e ∙ behind_it q.tells.before said (responses.Untagged endings.Ok codings.Closed) refl (all_open b said said_true)
        | inr p ↦ ap behind_closed p.1 ∙ all_behind said (all_open b said said_true)
      ]

  pub codes_true : told_codes r ≡ Ok (codes_of_box b)
  codes_true =
      ap (λ (l : List Response). numbers_of (codes_in l r.code)) said_behind
      ∙ numbers_true b said r.code q.tells.of_new q.tells.code_of_new q.tells.validity q.tells.uidnext q.tells.highest

  pub select_whole : bare_in r ≡ None
  select_whole = ap (λ (l : List Response). first_bare (closed_len r.untagged) l) said_behind ∙ none_bare b (closed_len r.untagged) said said_true

module _ (b : Mailbox) (r : Replies) (q : Fetching b r) where
  pub fetched_true : AllByRecursion (IsTrueOf b) r.untagged
  fetched_true = all_weaker (MaySay (Some b)) (IsTrueOf b) r.untagged (remark_true b) q.says

  pub fetched_behind : behind_closed r.untagged ≡ r.untagged
  fetched_behind = all_behind r.untagged (all_open b r.untagged fetched_true)

  pub fetch_whole : bare_in r ≡ None
  fetch_whole =
      ap (λ (l : List Response). first_bare (closed_len r.untagged) l) fetched_behind ∙ none_bare b (closed_len r.untagged) r.untagged fetched_true

-- a cache of this UIDVALIDITY, whose mark isn't above the mailbox's highest
pub kept_goes_on : (cache : Cache) (b : Mailbox) → cache.validity ≡ b.validity → cache.highest ≤ b.highest → kept_fault (Some cache) (codes_of_box b) ≡ None
kept_goes_on cache b v h = grind (arith, v, h)
