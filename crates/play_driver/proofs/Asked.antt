-- What is needed of the server can be asked of it while a mailbox is selected.
use Rattle.action_queue.specs.Book.{Meaning}
use Rattle.action_queue.specs.Queues.{due_action, tries_due}
use Rattle.imap_model.specs.CommandText.{IsCarried, parts_of}
use Rattle.imap_model.specs.Mutating.{is_mutating}
use Rattle.imap_model.specs.declared.command.Command.{Command}
use Rattle.imap_model.specs.declared.mark.Mark.{Mark}
use Rattle.imap_model.specs.declared.replies.Replies.{Replies}
use Rattle.imap_session.specs.Causes.{FailsBehind}
use Rattle.imap_session.specs.Counting.{HasTag}
use Rattle.imap_session.specs.Dialogue.{next_tag}
use Rattle.imap_session.specs.Faults.{IsCount}
use Rattle.imap_session.specs.Sent.{SentFront, joined}
use Rattle.imap_session.specs.Session.{Follows, IsAsked, waiting_of}
use Rattle.imap_session.specs.declared.chosen.Chosen.{Chosen}
use Rattle.imap_session.specs.declared.fault.SessionFault.{SessionFault}
use Rattle.imap_model.specs.TagText.{IsCommandTag}
use Rattle.mail_base.specs.Tags.{action_of, try_tag}
use Rattle.mail_base.specs.declared.tag.Tag.{Tag}
use Rattle.play_driver.proofs.Folds.{fold_sound}
use Rattle.play_driver.proofs.NotRead.{asked_not_read}
use Rattle.play_driver.specs.Faults.{of_session, of_unheard}
use Rattle.play_driver.specs.Stages.{stage_of}
use Rattle.play_driver.specs.Synced.{AsksRows, IsNotRead}
use Rattle.play_driver.specs.Turning.{AskedBetween, IsAskedFor, TurnFails, permits_due, standing_of}
use Rattle.play_driver.specs.Turning.TurnFails.{not_answered, not_heard}
use Rattle.play_driver.specs.declared.fault.PlayFault.{PlayFault}
use Rattle.playback.proofs.Calls.{parts}
use Rattle.playback.proofs.Lawfulness.{lawful_need}
use Rattle.playback.specs.Left.{Awaits}
use Rattle.playback.specs.Needs.{IsBeside, IsLawfulNeed, IsPlayQuestion, need_of}
use Rattle.playback.specs.Replying.{IsHeard, IsHeardFault}
use Rattle.playback.specs.declared.finding.Finding.{Finding}
use Rattle.playback.specs.declared.need.Need.{Need}
use Rattle.playback.specs.declared.need.Unheard.{Unheard}
use Rattle.playback.specs.declared.player.Player.{Player}
use Rattle.std.proofs.Common.{Bool, List, Option, Some, ap, arith, false, inl, inr, None, refl, subst, suc, sym, true, zero, ℕ, ◌<◌, ◌∙◌, ◌≡◌, ◌≢◌, ◌≤◌}
use Rattle.std.proofs.lemmas.Bool.{both_ways}
use Rattle.store_core.specs.Fold.{IsFold}
use Rattle.store_core.specs.Holding.{Holding}
use Rattle.store_core.specs.Mail.{mail}
use Rattle.world_traits.specs.Asking.{Asking}
use Rattle.world_traits.specs.LinkState.{LinkState}
use Rattle.world_traits.specs.Links.{Any, Linked}
use Rattle.world_traits.specs.Moments.{Clock, Since}
use Rattle.imap_model.specs.declared.command.Command.TheVariants as commands
use Rattle.play_driver.specs.declared.session.Session.TheVariants as sessions
use Rattle.playback.specs.declared.need.Need.TheVariants as needs

-- a question that playback asks
question_asked : (command : Command) → IsPlayQuestion command → IsAsked command
question_asked commands.Capability h = absurd h
question_asked (commands.Login account) h = absurd h
question_asked (commands.Plain account) h = absurd h
question_asked (commands.Enable rev2) h = absurd h
question_asked (commands.Select name since) h = absurd h
question_asked commands.FetchAll h = absurd h
question_asked (commands.FetchRow uid) h = tt
question_asked (commands.Search from id) h = tt
question_asked (commands.FetchIds uids) h = tt
question_asked (commands.FetchText uid) h = absurd h
question_asked (commands.Store uid since add flags) h = absurd h
question_asked (commands.Shift uid to) h = absurd h
question_asked (commands.Copy uid to) h = absurd h
question_asked (commands.Expunge uid) h = absurd h
question_asked (commands.Append to flags text) h = absurd h
question_asked commands.Logout h = absurd h

question_carried : (command : Command) → IsPlayQuestion command → IsCarried command
question_carried commands.Capability h = absurd h
question_carried (commands.Login account) h = absurd h
question_carried (commands.Plain account) h = absurd h
question_carried (commands.Enable rev2) h = absurd h
question_carried (commands.Select name since) h = absurd h
question_carried commands.FetchAll h = absurd h
question_carried (commands.FetchRow uid) h = tt
question_carried (commands.Search from id) h = h
question_carried (commands.FetchIds uids) h = tt
question_carried (commands.FetchText uid) h = absurd h
question_carried (commands.Store uid since add flags) h = absurd h
question_carried (commands.Shift uid to) h = absurd h
question_carried (commands.Copy uid to) h = absurd h
question_carried (commands.Expunge uid) h = absurd h
question_carried (commands.Append to flags text) h = absurd h
question_carried commands.Logout h = absurd h

pub question_harmless : (command : Command) → IsPlayQuestion command → is_mutating command ≡ false
question_harmless commands.Capability h = absurd h
question_harmless (commands.Login account) h = absurd h
question_harmless (commands.Plain account) h = absurd h
question_harmless (commands.Enable rev2) h = absurd h
question_harmless (commands.Select name since) h = absurd h
question_harmless commands.FetchAll h = absurd h
question_harmless (commands.FetchRow uid) h = refl
question_harmless (commands.Search from id) h = refl
question_harmless (commands.FetchIds uids) h = refl
question_harmless (commands.FetchText uid) h = absurd h
question_harmless (commands.Store uid since add flags) h = absurd h
question_harmless (commands.Shift uid to) h = absurd h
question_harmless (commands.Copy uid to) h = absurd h
question_harmless (commands.Expunge uid) h = absurd h
question_harmless (commands.Append to flags text) h = absurd h
question_harmless commands.Logout h = absurd h

-- a command that changes a mailbox
sent_asked : (command : Command) → is_mutating command ≡ true → IsAsked command
sent_asked commands.Capability e = absurd cc
sent_asked (commands.Login account) e = absurd cc
sent_asked (commands.Plain account) e = absurd cc
sent_asked (commands.Enable rev2) e = absurd cc
sent_asked (commands.Select name since) e = absurd cc
sent_asked commands.FetchAll e = absurd cc
sent_asked (commands.FetchRow uid) e = absurd cc
sent_asked (commands.Search from id) e = absurd cc
sent_asked (commands.FetchIds uids) e = absurd cc
sent_asked (commands.FetchText uid) e = absurd cc
sent_asked (commands.Store uid since add flags) e = tt
sent_asked (commands.Shift uid to) e = tt
sent_asked (commands.Copy uid to) e = tt
sent_asked (commands.Expunge uid) e = tt
sent_asked (commands.Append to flags text) e = tt
sent_asked commands.Logout e = absurd cc

sent_carried : (command : Command) → is_mutating command ≡ true → IsCarried command
sent_carried commands.Capability e = absurd cc
sent_carried (commands.Login account) e = absurd cc
sent_carried (commands.Plain account) e = absurd cc
sent_carried (commands.Enable rev2) e = absurd cc
sent_carried (commands.Select name since) e = absurd cc
sent_carried commands.FetchAll e = absurd cc
sent_carried (commands.FetchRow uid) e = absurd cc
sent_carried (commands.Search from id) e = absurd cc
sent_carried (commands.FetchIds uids) e = absurd cc
sent_carried (commands.FetchText uid) e = absurd cc
sent_carried (commands.Store uid since add flags) e = tt
sent_carried (commands.Shift uid to) e = tt
sent_carried (commands.Copy uid to) e = tt
sent_carried (commands.Expunge uid) e = tt
sent_carried (commands.Append to flags text) e = tt
sent_carried commands.Logout e = absurd cc

-- the command can be asked under this tag, behind so many questions
pub record IsAskable (count : ℕ) (tag : Tag) (command : Command) : Type 0 where
  pub asked : IsAsked command
  pub tagged : HasTag (is_mutating command) count tag
  pub carried : IsCarried command
  pub counted : is_mutating command ≡ false → IsCount tag

askable_as : (count : ℕ) (tag other : Tag) (command same : Command) → command ≡ same → tag ≡ other → IsAskable count other same →
    IsAskable count tag command
askable_as count tag other command same c t h =
    subst (λ (x : Tag). IsAskable count x command) (sym t) (subst (λ (x : Command). IsAskable count other x) (sym c) h)

askable_question : (count : ℕ) (command : Command) → IsPlayQuestion command → IsAskable count (next_tag count) command
askable_question count command h = record {
  asked = question_asked command h;
  tagged = subst (λ (t : Bool). HasTag t count (next_tag count)) (sym (question_harmless command h)) refl;
  carried = question_carried command h;
  counted = λ e. tt;
}

tried_action : (n tries : ℕ) → action_of (try_tag n tries) ≡ Some n
tried_action n zero = refl
tried_action n (suc k) = refl

tried_fits : (n tries : ℕ) → 0 < n → tries ≤ 2 → IsCommandTag (try_tag n tries)
tried_fits n zero some few = some
tried_fits n (suc k) some few = (some, omega arith, omega (arith, few))

askable_sent : (count n tries : ℕ) (command : Command) → 0 < n → tries ≤ 2 → is_mutating command ≡ true → IsAskable count (try_tag n tries) command
askable_sent count n tries command some few e = record {
  asked = sent_asked command e;
  tagged = subst (λ (t : Bool). HasTag t count (try_tag n tries)) (sym e) (n, tried_action n tries, tried_fits n tries some few);
  carried = sent_carried command e;
  counted = λ f. absurd (both_ways (is_mutating command) f e);
}

pub askable : (need : Need) (p : Player) (b : Meaning) (tries count : ℕ) (tag : Tag) (command : Command) → IsAskedFor need tries count tag command →
    IsLawfulNeed need p b → IsAskable count tag command
askable (needs.Select name) p b tries count tag command is lawful = absurd is
askable (needs.Ask asked) p b tries count tag command is lawful =
    askable_as count tag (next_tag count) command asked is.0 is.1 (askable_question count asked lawful.0)
askable (needs.Commit event) p b tries count tag command is lawful = absurd is
askable (needs.Settle n outcome) p b tries count tag command is lawful = absurd is
askable (needs.Withdraw n k) p b tries count tag command is lawful = absurd is
askable (needs.Send n sent) p b tries count tag command is lawful =
    askable_as count tag (try_tag n tries) command sent is.0 is.1 (askable_sent count n tries sent (omega (arith, lawful.0)) is.2 lawful.1)
askable needs.Finished p b tries count tag command is lawful = absurd is

-- what is needed can be done, where the book is the fold of some events
pub lawful_fold : (p : Player) (b : Meaning) → IsFold b → IsBeside p b → IsLawfulNeed (need_of p b) p b
lawful_fold p b fold beside = lawful_need parts p b (fold_sound b fold) beside

-- it isn't SELECT
pub no_select : (command : Command) → IsAsked command → (name : List ℕ) (since : Option Mark) → command ≢ commands.Select name since
no_select command asked name since is = subst IsAsked is asked

no_logout : (command : Command) → IsAsked command → command ≢ commands.Logout
no_logout command asked is = subst IsAsked is asked

-- nor is what is needed LOGOUT
pub asked_remains : (p : Player) (b : Meaning) (count : ℕ) (tag : Tag) (command : Command) → IsFold b → IsBeside p b →
    IsAskedFor (need_of p b) (tries_due b.queue) count tag command → command ≢ commands.Logout
asked_remains p b count tag command fold beside needed =
    no_logout command (askable (need_of p b) p b (tries_due b.queue) count tag command needed (lawful_fold p b fold beside)).asked

-- nor does it ask for all rows of a mailbox
question_no_rows : (name : List ℕ) (selected : Option (List ℕ)) (tag : Tag) (command : Command) → IsPlayQuestion command →
    AsksRows name (waiting_of selected tag command) → ⊥
question_no_rows name selected tag command h (inl (since, is)) = subst IsPlayQuestion is h
question_no_rows name selected tag command h (inr (there, is)) = subst IsPlayQuestion is h

sent_no_rows : (name : List ℕ) (selected : Option (List ℕ)) (tag : Tag) (command : Command) → is_mutating command ≡ true →
    AsksRows name (waiting_of selected tag command) → ⊥
sent_no_rows name selected tag command e (inl (since, is)) =
    both_ways (is_mutating (commands.Select name since)) refl (sym (ap is_mutating is) ∙ e)
sent_no_rows name selected tag command e (inr (there, is)) = both_ways (is_mutating commands.FetchAll) refl (sym (ap is_mutating is) ∙ e)

needed_no_rows : (need : Need) (p : Player) (b : Meaning) (tries count : ℕ) (tag : Tag) (command : Command) → IsAskedFor need tries count tag command →
    IsLawfulNeed need p b → (name : List ℕ) (selected : Option (List ℕ)) → AsksRows name (waiting_of selected tag command) → ⊥
needed_no_rows (needs.Select box) p b tries count tag command is lawful name selected asks = is
needed_no_rows (needs.Ask asked) p b tries count tag command is lawful name selected asks =
    question_no_rows name selected tag command (subst IsPlayQuestion (sym is.0) lawful.0) asks
needed_no_rows (needs.Commit event) p b tries count tag command is lawful name selected asks = is
needed_no_rows (needs.Settle n outcome) p b tries count tag command is lawful name selected asks = is
needed_no_rows (needs.Withdraw n k) p b tries count tag command is lawful name selected asks = is
needed_no_rows (needs.Send n sent) p b tries count tag command is lawful name selected asks =
    sent_no_rows name selected tag command (ap is_mutating is.0 ∙ lawful.1) asks
needed_no_rows needs.Finished p b tries count tag command is lawful name selected asks = is

-- So it reads no mailbox, where nothing waited or arrived before.
pub asked_reads_none : (p : Player) (b : Meaning) (count : ℕ) (tag : Tag) (command : Command) (old new : Clock) → IsFold b → IsBeside p b →
    IsAskedFor (need_of p b) (tries_due b.queue) count tag command → old.now.outside.waiting ≡ None → old.now.outside.talk.arriving ≡ None →
    Linked (Asking old.now.outside.talk.told tag command) old new → (name : List ℕ) → Since Any (IsNotRead name) old new
asked_reads_none p b count tag command old new fold beside needed none nothing linked name =
    asked_not_read name tag command old new none nothing
    (needed_no_rows (need_of p b) p b (tries_due b.queue) count tag command needed (lawful_fold p b fold beside) name old.now.outside.talk.selected) linked

-- a reply is awaited for it
pub asked_awaits : (need : Need) (tries count : ℕ) (tag : Tag) (command : Command) → IsAskedFor need tries count tag command → Awaits need
asked_awaits (needs.Select name) tries count tag command is = absurd is
asked_awaits (needs.Ask asked) tries count tag command is = tt
asked_awaits (needs.Commit event) tries count tag command is = absurd is
asked_awaits (needs.Settle n outcome) tries count tag command is = absurd is
asked_awaits (needs.Withdraw n k) tries count tag command is = absurd is
asked_awaits (needs.Send n sent) tries count tag command is = tt
asked_awaits needs.Finished tries count tag command is = absurd is

-- the player keeps the rest
pub only_told : (p : Player) (b : Meaning) (permits : Bool) (r : Replies) (new : Player) → IsHeard p b permits r new →
    new ≡ record p { told = new.told }
only_told p b permits r new h = h.is ∙ ap (λ (f : Finding). record p { told = f }) (ap (λ (x : Player). x.told) (sym h.is))

-- no reply came
pub not_answered_so : (link later : LinkState) (chosen : Chosen) (store : Holding mail) (p : Player) (b : Meaning) (tag : Tag) (command : Command)
    (f : SessionFault) (fault : PlayFault) → store.book ≡ b → IsAskedFor (need_of p b) (tries_due b.queue) chosen.conversation.count tag command →
    (follows : Follows link.connection chosen.conversation.feed) → SentFront (joined (parts_of tag command)) link.sent later.sent →
    FailsBehind follows.0 tag command follows.1.connection.received later.connection f → fault ≡ of_session f →
    TurnFails (standing_of link (sessions.Chosen chosen) store p) later fault
not_answered_so link later chosen store p b tag command f fault same is follows sent failing told =
    not_answered tag command f (subst (λ (x : Meaning). IsAskedFor (need_of p x) (tries_due x.queue) chosen.conversation.count tag command) (sym same) is) told
    (record { heard = follows.0; hears = follows.1; sent = sent; failing = failing })

-- a reply came, and isn't taken
pub not_heard_so : (link later : LinkState) (chosen new : Chosen) (store : Holding mail) (p : Player) (b : Meaning) (tag : Tag) (command : Command)
    (r : Replies) (unheard : Unheard) (fault : PlayFault) → store.book ≡ b → IsAskedFor (need_of p b) (tries_due b.queue) chosen.conversation.count tag command →
    AskedBetween tag command r (stage_of link (sessions.Chosen chosen)) (stage_of later (sessions.Chosen new)) →
    IsHeardFault p b (permits_due chosen.permits (due_action b.queue)) r unheard → fault ≡ of_unheard chosen.name unheard →
    TurnFails (standing_of link (sessions.Chosen chosen) store p) later fault
not_heard_so link later chosen new store p b tag command r unheard fault same is came lacking told =
    not_heard tag command r (stage_of later (sessions.Chosen new)) unheard chosen.name refl
    (subst (λ (x : Meaning). IsAskedFor (need_of p x) (tries_due x.queue) chosen.conversation.count tag command) (sym same) is) came refl
    (subst (λ (x : Meaning). IsHeardFault p x (permits_due chosen.permits (due_action x.queue)) r unheard) (sym same) lacking) told
