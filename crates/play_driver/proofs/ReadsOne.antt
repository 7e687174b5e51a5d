-- A resynchronisation reads no other mailbox.
use Rattle.std.proofs.Common.{◌≡◌, ◌≢◌, ◌+◌, inl, inr, ℕ, List, Option, Some, None, Result, subst, sym, ◌∙◌}
use Rattle.std.proofs.lemmas.Option.{same_Some}
use Rattle.mail_base.specs.declared.tag.Tag.{Tag}
use Rattle.imap_model.specs.declared.command.Command.TheVariants as commands
use Rattle.imap_model.specs.declared.mark.Mark.{Mark}
use Rattle.imap_model.specs.declared.replies.Replies.{Replies}
use Rattle.mailbox_cache.specs.declared.cache.Cache.{Cache}
use Rattle.mailbox_cache.specs.declared.delta.Delta.{Delta}
use Rattle.qresync_core.specs.declared.fault.ResyncFault.{ResyncFault}
use Rattle.world_traits.specs.Asking.{Asking}
use Rattle.world_traits.specs.Links.{Any, LinkStep}
use Rattle.world_traits.specs.Moments.{Clock, Since}
use Rattle.world_traits.proofs.Passing.{since_start, since_then}
use Rattle.imap_session.specs.Dialogue.{next_tag}
use Rattle.imap_session.specs.Session.{waiting_of}
use Rattle.imap_session.specs.declared.permits.Permits.{Permits}
use Rattle.imap_session.proofs.Talks.{became_since}
use Rattle.play_driver.specs.Exchanges.{AnsweredAll, Exchange, IsAnsweredOk}
use Rattle.play_driver.specs.Resynchronising.{Resyncs, exchanged, mark_kept, select_of, then_all}
use Rattle.play_driver.specs.Synced.{AsksRows, IsNotRead}
use Rattle.play_driver.proofs.Learned.{select_after}
use Rattle.play_driver.proofs.NotRead.{asked_not_read}

same_select : (name other : List ℕ) (since then : Option Mark) → commands.Select name since ≡ commands.Select other then → name ≡ other
same_select name other since then is = cc

module _ (name other : List ℕ) (apart : name ≢ other) where
  -- SELECT of one mailbox doesn't ask for the rows of another, nor does FETCH while one is selected
  select_other : (selected : Option (List ℕ)) (tag : Tag) (since : Option Mark) →
      AsksRows other (waiting_of selected tag (commands.Select name since)) → ⊥
  select_other selected tag since (inl (then, is)) = apart (same_select name other since then is)
  select_other selected tag since (inr (there, is)) = absurd cc

  fetch_other : (selected : Option (List ℕ)) (tag : Tag) → selected ≡ Some name → AsksRows other (waiting_of selected tag commands.FetchAll) → ⊥
  fetch_other selected tag here (inl (then, is)) = absurd cc
  fetch_other selected tag here (inr (there, is)) = apart (same_Some name other (sym here ∙ there))

  -- one question
  exchange_other : (selected : Option (List ℕ)) (tag : Tag) (x : Exchange) (old new : Clock) → old.now.outside.waiting ≡ None →
      old.now.outside.talk.arriving ≡ None → IsAnsweredOk selected tag x old new →
      (AsksRows other (waiting_of old.now.outside.talk.selected tag x.asked) → ⊥) → Since Any (IsNotRead other) old new
  exchange_other selected tag x old new none nothing a asks =
      asked_not_read other tag x.asked old new none nothing asks
      (became_since Any (LinkStep (Asking old.now.outside.talk.told tag x.asked)) _ old new a.answered.became)

  pub exchanges_other : (kept : Option Cache) (r : Replies) (all : Option Replies) (selected : Option (List ℕ)) (count : ℕ) (old new : Clock) →
      old.now.outside.waiting ≡ None → old.now.outside.talk.arriving ≡ None →
      AnsweredAll (exchanged name kept (record { selected = r; all = all })) selected count old new → Since Any (IsNotRead other) old new
  exchanges_other kept r None selected count old new none nothing a =
      let x : Exchange = record { asked = select_of name kept; replies = r } in
      subst (λ (k : Clock). Since Any (IsNotRead other) old k) (sym a.2)
      (exchange_other selected (next_tag count) x old a.0 none nothing a.1
      (select_other old.now.outside.talk.selected (next_tag count) (mark_kept kept)))
  exchanges_other kept r (Some all) selected count old new none nothing a =
      let x : Exchange = record { asked = select_of name kept; replies = r } in
      let y : Exchange = record { asked = commands.FetchAll; replies = all } in
      let first = a.1.answered in
      let here : a.0.now.outside.talk.selected ≡ Some name =
      first.stands.selects
      ∙ select_after name (mark_kept kept) selected (next_tag count) r _ _ first.after a.1.accepted first.became.is.is in
      let second : Since Any (IsNotRead other) a.0 a.2.0 =
      exchange_other first.after (next_tag (count + 1)) y a.0 a.2.0 first.stands.nothing first.stands.no_part a.2.1
      (fetch_other a.0.now.outside.talk.selected (next_tag (count + 1)) here) in
      subst (λ (k : Clock). Since Any (IsNotRead other) old k) (sym a.2.2)
      (since_then Any (IsNotRead other) old a.0 a.2.0
      (exchange_other selected (next_tag count) x old a.0 none nothing a.1
      (select_other old.now.outside.talk.selected (next_tag count) (mark_kept kept))) second)

  -- the FETCH of all rows alone, where it was asked
  pub rows_other : (all : Option Replies) (selected : Option (List ℕ)) (count : ℕ) (old new : Clock) → old.now.outside.waiting ≡ None →
      old.now.outside.talk.arriving ≡ None → old.now.outside.talk.selected ≡ Some name → AnsweredAll (then_all all) selected count old new →
      Since Any (IsNotRead other) old new
  rows_other None selected count old new none nothing here a =
      subst (λ (k : Clock). Since Any (IsNotRead other) old k) (sym a) (since_start Any (IsNotRead other) old)
  rows_other (Some all) selected count old new none nothing here a =
      let y : Exchange = record { asked = commands.FetchAll; replies = all } in
      subst (λ (k : Clock). Since Any (IsNotRead other) old k) (sym a.2)
      (exchange_other selected (next_tag count) y old a.0 none nothing a.1 (fetch_other old.now.outside.talk.selected (next_tag count) here))

  pub resynced_other : (kept : Option Cache) (delta : Result Delta ResyncFault) (selected : Option (List ℕ)) (count after : ℕ)
      (permits : Option Permits) (old new : Clock) → old.now.outside.waiting ≡ None → old.now.outside.talk.arriving ≡ None →
      Resyncs selected count after name kept delta permits old new → Since Any (IsNotRead other) old new
  resynced_other kept delta selected count after permits old new none nothing r =
      exchanges_other kept r.gathered.selected r.gathered.all selected count old new none nothing r.answered
