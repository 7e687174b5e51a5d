-- The steps in which a text is fetched, by what their calls tell.
use Rattle.std.proofs.Common.{◌≡◌, ℕ, List, Some, None, Result, Ok, Err, sym, subst}
use Rattle.mail_base.specs.declared.tag.Tag.{Tag}
use Rattle.imap_model.specs.declared.command.Command.TheVariants as commands
use Rattle.imap_model.specs.declared.replies.Replies.{Replies}
use Rattle.imap_session.specs.Dialogue.{next_tag}
use Rattle.imap_session.specs.Faults.{IsCount}
use Rattle.imap_session.specs.declared.fault.SessionFault.{SessionFault}
use Rattle.world_traits.specs.LinkState.{LinkState}
use Rattle.world_traits.specs.Moments.{Clock}
use Rattle.qresync_core.specs.ToldCodes.{told_codes}
use Rattle.qresync_core.specs.declared.codes.Codes.{Codes}
use Rattle.qresync_core.specs.declared.fault.CodeFault.{CodeFault}
use Rattle.play_driver.specs.Exchanges.{Exchange, IsAnsweredOk}
use Rattle.play_driver.specs.Faults.{of_session}
use Rattle.play_driver.specs.Stages.{Stage}
use Rattle.play_driver.specs.Turning.{AskedBetween, NotAnswered}
use Rattle.body_cache.specs.Fetching.{NotSelected, NotTold, WhyNone, WhyUnfit}
use Rattle.body_cache.specs.Fetching.NotSelected.{renewed, untold}
use Rattle.body_cache.specs.Fetching.NotTold.{gone, lacks, unanswered}
use Rattle.body_cache.specs.TextFound.{text_found}
use Rattle.body_cache.specs.declared.fault.TextFault.{TextFault}
use Rattle.body_cache.specs.declared.fault.TextFault.TheVariants as faults
use Rattle.body_cache.specs.declared.found.TextFound.{TextFound}
use Rattle.body_cache.specs.declared.found.TextFound.TheVariants as founds
use Rattle.body_cache.specs.declared.key.Key.{Key}

module _ (key : Key) (p : Stage) (link : LinkState) (q : Stage) (here : q.link ≡ link) (r : Replies) where
  -- the mailbox isn't the key's
  pub unfit_so : AskedBetween (next_tag p.count) (commands.Select key.name None) r p q → (told : Result Codes CodeFault) → told ≡ told_codes r →
      (fault : TextFault) → WhyUnfit key.validity told fault → NotSelected key p link fault
  unfit_so asked (Ok codes) is fault why = renewed r q codes why.0 asked here (sym is) why.1
  unfit_so asked (Err code) is fault why = untold r q code why asked here (sym is)

  -- no text was told
  pub untold_so : AskedBetween (next_tag p.count) (commands.FetchText key.uid) r p q → (found : TextFound) → found ≡ text_found key.uid r.untagged →
      (fault : TextFault) → WhyNone found fault → NotTold key p link fault
  untold_so asked founds.Gone is fault why = gone r q why asked here (sym is)
  untold_so asked founds.Lacks is fault why = lacks r q why asked here (sym is)
  untold_so asked (founds.Text text) is fault why = absurd why

-- a tag that is the next one
module _ (key : Key) (p : Stage) (tag : Tag) (is : tag ≡ next_tag p.count) where
  pub unanswered_so : (link : LinkState) (f : SessionFault) (fault : TextFault) → fault ≡ faults.Stopped (of_session f) →
      NotAnswered tag (commands.FetchText key.uid) p link f → NotTold key p link fault
  unanswered_so link f fault told a = unanswered f told (subst (λ (g : Tag). NotAnswered g (commands.FetchText key.uid) p link f) is a)

  pub asked_so : (r : Replies) (q : Stage) → AskedBetween tag (commands.FetchText key.uid) r p q → AskedBetween (next_tag p.count) (commands.FetchText key.uid) r p q
  asked_so r q a = subst (λ (g : Tag). AskedBetween g (commands.FetchText key.uid) r p q) is a

  pub is_count : IsCount tag
  is_count = subst IsCount (sym is) tt

  -- and the mailbox that is selected is the key's
  pub answered_so : (n : List ℕ) → n ≡ key.name → (x : Exchange) (old new : Clock) → IsAnsweredOk (Some n) tag x old new →
      IsAnsweredOk (Some key.name) (next_tag p.count) x old new
  answered_so n same x old new a =
      subst (λ (g : Tag). IsAnsweredOk (Some key.name) g x old new) is (subst (λ (k : List ℕ). IsAnsweredOk (Some k) tag x old new) same a)
