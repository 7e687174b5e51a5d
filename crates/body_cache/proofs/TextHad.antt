-- What a FETCH tells behind a SELECT is what the server has under the UIDVALIDITY that the SELECT told (RFC 9051, section 2.3.1.1).
use Rattle.std.proofs.Common.{◌≡◌, ℕ, List, Option, Some, None, Ok, Result, refl, sym, ◌∙◌, ap, subst, arith}
use Rattle.std.proofs.lemmas.Option.{same_Some}
use Rattle.mail_base.specs.declared.tag.Tag.{Tag}
use Rattle.action_queue.specs.Book.{Meaning}
use Rattle.imap_model.specs.Lookups.{box_at, message_at}
use Rattle.imap_model.specs.declared.command.Command.TheVariants as commands
use Rattle.imap_model.specs.declared.replies.Replies.{Replies}
use Rattle.imap_model.specs.declared.server.Mailbox.{Mailbox}
use Rattle.imap_model.specs.declared.server.Message.{Message}
use Rattle.imap_session.specs.Enquiring.{Enquiring}
use Rattle.imap_session.specs.Session.{waiting_of}
use Rattle.qresync_core.proofs.Replying.{codes_true, selecting}
use Rattle.qresync_core.specs.Laws.{AnswersSelect, codes_of_box}
use Rattle.qresync_core.specs.ToldCodes.{told_codes}
use Rattle.qresync_core.specs.declared.codes.Codes.{Codes}
use Rattle.qresync_core.specs.declared.fault.CodeFault.{CodeFault}
use Rattle.store_core.specs.Mail.{mail}
use Rattle.world_traits.specs.Links.{Any, LinkStep, Linked}
use Rattle.world_traits.specs.Moments.{Clock}
use Rattle.world_traits.proofs.Passing.{since_then}
use Rattle.world_traits.proofs.Traces.{carried_now}
use Rattle.play_driver.proofs.Answering.{AnsweredAt, answered_at, answered_through}
use Rattle.play_driver.proofs.Calm.{SameSelected, calm_now, held_now, stays_selected}
use Rattle.play_driver.proofs.Learned.{IsPast, answered_stays, calm, past_on, select_after, selected_stays, selects}
use Rattle.play_driver.proofs.Parts.{grows, grows_then, since_first, since_second}
use Rattle.play_driver.specs.Exchanges.{Exchange, IsAnsweredOk}
use Rattle.play_driver.specs.Joining.{AllFair, Grows}
use Rattle.play_driver.specs.KnownAt.{StandsKept}
use Rattle.play_driver.specs.Levelling.{LeavesSelected, LeavesValidity, SelectedStays, ValidityStays}
use Rattle.play_driver.specs.Played.{played}
use Rattle.body_cache.proofs.TextTold.{IsTold, found_of, told_at}
use Rattle.body_cache.specs.HasText.{HadText}
use Rattle.body_cache.specs.TextFound.{text_found}
use Rattle.body_cache.specs.declared.found.TextFound.{TextFound}
use Rattle.body_cache.specs.declared.found.TextFound.TheVariants as founds
use Rattle.body_cache.specs.declared.key.Key.{Key}

same_ok : (a b : Codes) → ◌≡◌ {A = Result Codes CodeFault} (Ok a) (Ok b) → a ≡ b
same_ok a b same = cc same

-- a SELECT without a mark, and its reply
abbrev pub selecting_it : List ℕ → Replies → Exchange
selecting_it name r = record { asked = commands.Select name None; replies = r }

-- the FETCH of a message's text, and its reply
abbrev pub fetching : ℕ → Replies → Exchange
fetching uid s = record { asked = commands.FetchText uid; replies = s }

-- At a clock between the two the key's mailbox was there under the key's UIDVALIDITY, and what was told is what was found in it.
pub record ToldThen (key : Key) (found : TextFound) (old new : Clock) : Type 0 where
  pub at : Clock
  pub before : Grows old at
  pub after : Grows at new
  pub box : Mailbox
  pub there : box_at key.name at.now.outside.server.boxes ≡ Some box
  pub validity : box.validity ≡ key.validity
  pub is : found ≡ found_of (message_at key.uid box.messages)

-- A SELECT that was answered OK.
module _ (name : List ℕ) (selected : Option (List ℕ)) (tag : Tag) (r : Replies) (old mid : Clock) (a : IsAnsweredOk selected tag (selecting_it name r) old mid) where
  pub first : AnsweredAt selected tag (selecting_it name r) old mid
  first = answered_at selected tag (selecting_it name r) old mid refl a

  named : first.selects ≡ Some name
  named = select_after name None selected tag r _ _ first.selects a.accepted first.carried

  pub chosen : (box : Mailbox) × (there : box_at name first.at.now.outside.server.boxes ≡ Some box) × AnswersSelect name None box r
  chosen = selects name None selected tag r old mid a.accepted first

  -- its codes are the mailbox's numbers
  pub codes_come : told_codes r ≡ Ok (codes_of_box chosen.0)
  codes_come = codes_true None chosen.0 r (selecting name None chosen.0 r chosen.2)

-- A FETCH behind it.
module _ (b : Meaning) (key : Key) (selected : Option (List ℕ)) (tag again : Tag) (r s : Replies) (codes : Codes) (old mid new : Clock)
    (stands : StandsKept b old) (fair : AllFair mail played old new) (a : IsAnsweredOk selected tag (selecting_it key.name r) old mid)
    (told : told_codes r ≡ Ok codes) (validity : codes.validity ≡ key.validity) (f : IsAnsweredOk (Some key.name) again (fetching key.uid s) mid new) where
  abbrev First : AnsweredAt selected tag (selecting_it key.name r) old mid
  First = first key.name selected tag r old mid a

  second : AnsweredAt (Some key.name) again (fetching key.uid s) mid new
  second = answered_at (Some key.name) again (fetching key.uid s) mid new refl f

  before_mid : Linked Enquiring old mid
  before_mid = answered_through selected tag (selecting_it key.name r) old mid First

  after_mid : Linked Enquiring mid new
  after_mid = answered_through (Some key.name) again (fetching key.uid s) mid new second

  stays : SelectedStays old new
  stays = selected_stays b old new stands.books (since_then Any (LinkStep Enquiring) old mid new before_mid after_mid) fair

  until_mid : SelectedStays old mid
  until_mid =
      since_first Any LeavesSelected old mid new (grows Any (LinkStep Enquiring) old mid before_mid) (grows Any (LinkStep Enquiring) mid new after_mid) stays

  from_mid : SelectedStays mid new
  from_mid =
      since_second Any LeavesSelected old mid new (grows Any (LinkStep Enquiring) old mid before_mid) (grows Any (LinkStep Enquiring) mid new after_mid) stays

  -- from the SELECT to the FETCH the mailbox keeps its UIDVALIDITY
  chosen_there : second.at.now.outside.talk.selected ≡ Some key.name
  chosen_there =
      carried_now Any (λ m. m.outside.talk.selected ≡ Some key.name) SameSelected (λ m n any s before. s ∙ before) mid
      (First.chosen_then ∙ named key.name selected tag r old mid a) second.at second.still

  keeps_first : ValidityStays key.name First.at mid
  keeps_first =
      answered_stays key.name selected tag (selecting_it key.name r) old mid First refl stands.none_waits stands.none_arrives
      (named key.name selected tag r old mid a) until_mid

  keeps_second : ValidityStays key.name mid second.at
  keeps_second =
      stays_selected key.name mid second.at second.still chosen_there
      (since_first Any LeavesSelected mid second.at new (grows Any (LinkStep Enquiring) mid second.at second.before)
      (grows Any (LinkStep Enquiring) second.at new second.after) from_mid)

  abbrev Chosen : (box : Mailbox) × (there : box_at key.name First.at.now.outside.server.boxes ≡ Some box) × AnswersSelect key.name None box r
  Chosen = chosen key.name selected tag r old mid a

  later : IsPast key.name Chosen.0.validity Chosen.0.highest second.at.now.outside.server
  later =
      (held_now key.name (IsPast key.name Chosen.0.validity Chosen.0.highest) (past_on key.name Chosen.0.validity Chosen.0.highest) First.at second.at
      (since_then Any (LinkStep Enquiring) First.at mid second.at First.after second.before)
      (since_then Any (LeavesValidity key.name) First.at mid second.at keeps_first keeps_second) (
        calm_now old First.at First.before (calm b old stands),
        record { box = Chosen.0; there = Chosen.1; same = refl; higher = omega arith },
      )).1

  tells : IsTold key.name key.uid s.untagged second.at.now.outside.server
  tells =
      told_at key.name key.uid (waiting_of (Some key.name) again (commands.FetchText key.uid)) second.at.now.outside.server second.to.outside.server s
      second.selects refl refl f.accepted second.carried

  validity_is : Chosen.0.validity ≡ key.validity
  validity_is =
      sym (ap (λ (c : Codes). c.validity) (same_ok codes (codes_of_box Chosen.0) (sym told ∙ codes_come key.name selected tag r old mid a))) ∙ validity

  same : later.box ≡ tells.box
  same = same_Some later.box tells.box (sym later.there ∙ tells.there)

  -- what was told is what the server had then
  pub told_then : ToldThen key (text_found key.uid s.untagged) old new
  told_then = record {
    at = second.at;
    before = grows_then old mid second.at (grows Any (LinkStep Enquiring) old mid before_mid) (grows Any (LinkStep Enquiring) mid second.at second.before);
    after = grows Any (LinkStep Enquiring) second.at new second.after;
    box = tells.box;
    there = tells.there;
    validity = ap (λ (m : Mailbox). m.validity) (sym same) ∙ later.same ∙ validity_is;
    is = tells.found;
  }

module _ (key : Key) (old new : Clock) where
  had : (text : List ℕ) (t : ToldThen key (founds.Text text) old new) (o : Option Message) → message_at key.uid t.box.messages ≡ o →
      founds.Text text ≡ found_of o → HadText key text old new
  had text t None at is = absurd cc
  had text t (Some m) at is = record {
    at = t.at;
    before = t.before;
    after = t.after;
    has = record { box = t.box; there = t.there; validity = t.validity; message = m; found = at; is = same_text m.text text (sym is) };
  }
    where
      same_text : (x y : List ℕ) → founds.Text x ≡ founds.Text y → x ≡ y
      same_text x y same = cc same

  -- a text that was told is one that the server had
  pub had_text : (found : TextFound) (text : List ℕ) → ToldThen key found old new → found ≡ founds.Text text → HadText key text old new
  had_text found text t is =
      let u = subst (λ (x : TextFound). ToldThen key x old new) is t in had text u (message_at key.uid u.box.messages) refl u.is

  never_lacks : (o : Option Message) → found_of o ≡ founds.Lacks → ⊥
  never_lacks None is = cc is
  never_lacks (Some m) is = cc is

  none_there : (o : Option Message) → found_of o ≡ founds.Gone → o ≡ None
  none_there None is = refl
  none_there (Some m) is = absurd cc
