-- A text is fetched of a server that serves: it refuses nothing, and nothing that it tells is at fault.
use Rattle.std.proofs.Common.{◌≡◌, ℕ, Bool, true, false, List, [], ◌∷◌, Option, Some, None, Result, Ok, Err, refl, sym, ◌∙◌, ap, subst}
use Rattle.std.proofs.lemmas.Bool.{cond_both}
use Rattle.std.proofs.lemmas.Slice.Eq.{bytes_eq-Decides}
use Rattle.std.specs.Prelude.{IsErrOf, bytes_eq, cond}
use Rattle.mail_base.specs.declared.tag.Tag.{Tag}
use Rattle.imap_model.specs.Lookups.{message_at}
use Rattle.imap_model.specs.Talking.{Peer}
use Rattle.imap_model.specs.Talking.Connecting.{as_before}
use Rattle.imap_model.specs.declared.command.Command.{Command}
use Rattle.imap_model.specs.declared.command.Command.TheVariants as commands
use Rattle.imap_model.specs.declared.replies.Replies.{Replies}
use Rattle.imap_model.specs.declared.response.Response.{Response}
use Rattle.imap_model.specs.declared.server.Message.{Message}
use Rattle.imap_model.specs.declared.server.Server.{Server}
use Rattle.imap_session.proofs.Under.{asks_under}
use Rattle.imap_session.specs.Causes.{FailsBehind}
use Rattle.imap_session.specs.Dialogue.{next_tag}
use Rattle.imap_session.specs.Enquiring.{AsksUnder}
use Rattle.imap_session.specs.Enquiring.AsksUnder.{answers, arrives}
use Rattle.imap_session.specs.Exchange.{Talks}
use Rattle.imap_session.specs.Session.{Stands, waiting_of}
use Rattle.imap_session.specs.declared.fault.SessionFault.{SessionFault}
use Rattle.imap_session.specs.declared.fault.SessionFault.TheVariants as sessions
use Rattle.literal_feed.specs.Stream.{Stream}
use Rattle.qresync_core.specs.declared.codes.Codes.{Codes}
use Rattle.qresync_core.specs.declared.fault.CodeFault.{CodeFault}
use Rattle.qresync_core.specs.declared.fault.CodeFault.TheVariants as codings
use Rattle.world_traits.proofs.Passing.{since_weaker}
use Rattle.world_traits.specs.LinkState.{Connection, LinkState}
use Rattle.world_traits.specs.Links.{Any, LinkStep, Linked}
use Rattle.world_traits.specs.Moments.{Clock, Since}
use Rattle.world_traits.specs.Asking.{Asking}
use Rattle.world_traits.specs.declared.clocked.Clocked.{Ghosts}
use Rattle.play_driver.proofs.Answering.{answered_at}
use Rattle.play_driver.proofs.CompleteRun.{comes_turn}
use Rattle.play_driver.proofs.Faultless.{asked_whole, session_faultless}
use Rattle.play_driver.proofs.GroundChains.{select_grounded}
use Rattle.play_driver.proofs.OverOne.{asked_talks}
use Rattle.play_driver.proofs.Served.{served_end}
use Rattle.play_driver.proofs.ToldRefusals.{IsHonest, WasTold, never_told, refused_as, answer_told}
use Rattle.play_driver.specs.Exchanges.{IsAnsweredOk}
use Rattle.play_driver.specs.Faults.{ComesAnyway, IsReplyFault, of_session}
use Rattle.play_driver.specs.Granting.{IsBox}
use Rattle.play_driver.specs.Grounds.{AreBoxes, Grounded, GroundStep, HasGround}
use Rattle.play_driver.specs.Grounds.Grounded.{asking, connecting}
use Rattle.play_driver.specs.Progress.{has_name}
use Rattle.play_driver.specs.Questioning.{ConnectsFirst, TalkStep}
use Rattle.play_driver.specs.Refusals.{RefusesRun}
use Rattle.play_driver.specs.Serving.{AllServing}
use Rattle.play_driver.specs.Stages.{Stage}
use Rattle.play_driver.specs.Turning.{NotAnswered}
use Rattle.play_driver.specs.declared.fault.PlayFault.{PlayFault}
use Rattle.play_driver.specs.declared.fault.PlayFault.TheVariants as plays
use Rattle.body_cache.proofs.TextHad.{fetching}
use Rattle.body_cache.proofs.TextTold.{found_of, told_at}
use Rattle.body_cache.proofs.OnlyAsking.{same_err, stopped}
use Rattle.body_cache.specs.Asking.{ComesServed, Converses}
use Rattle.body_cache.specs.Fetching.{NotSelected, NotTold, WhyNone, WhyUnfit, of_code}
use Rattle.body_cache.specs.Fetching.NotSelected.{renewed, unanswered, untold}
use Rattle.body_cache.specs.Fetching.NotTold.{gone, lacks, unanswered as unasked}
use Rattle.body_cache.specs.TextFound.{text_found}
use Rattle.body_cache.specs.declared.fault.TextFault.{TextFault}
use Rattle.body_cache.specs.declared.fault.TextFault.TheVariants as faults
use Rattle.body_cache.specs.declared.found.TextFound.{TextFound}
use Rattle.body_cache.specs.declared.found.TextFound.TheVariants as founds
use Rattle.body_cache.specs.declared.key.Key.{Key}

-- the names of one mailbox
pub has_own : (name : List ℕ) → has_name name (name ∷ []) ≡ true
has_own name = ap (λ (test : Bool). cond test true false) ((bytes_eq-Decides name name).1 refl)

pub only_box : (name : List ℕ) (s : Server) → IsBox name s → AreBoxes (name ∷ []) s
only_box name s box other has =
    cond_both (bytes_eq name other) true false (λ (b : Bool). b ≡ true → IsBox other s)
    (λ t h. subst (λ (n : List ℕ). IsBox n s) ((bytes_eq-Decides name other).0 t) box) (λ f h. absurd cc) has

-- The text is asked for while a mailbox is selected.
module _ (names : List (List ℕ)) (name : List ℕ) (uid : ℕ) (tag : Tag) where
  grounded : (told : List Response) (p q : Peer) → AsksUnder (Some name) told tag (commands.FetchText uid) p q → Grounded names p q
  grounded told p q (answers step) = connecting (as_before step)
  grounded told p q (arrives before part behind is awaits first same) =
      asking tag (commands.FetchText uid) before part behind
      (subst (λ (o : Option (List ℕ)). HasGround names o tag (commands.FetchText uid)) (sym same) refl)

  pub text_grounded : (old new : Clock) (c : Option Connection) (feed : Stream) → Stands (Some name) old c feed →
      Linked (Asking old.now.outside.talk.told tag (commands.FetchText uid)) old new → Since Any (GroundStep names) old new
  text_grounded old new c feed stands s =
      let told = old.now.outside.talk.told in
      since_weaker Any Any (LinkStep (AsksUnder (Some name) told tag (commands.FetchText uid))) (GroundStep names) (λ m p. p)
      (λ m n step. grounded told m.outside n.outside step.outside) old new
      (asks_under (Some name) tag (commands.FetchText uid) old new stands.nothing stands.no_part stands.selects s)

-- a lawful server's codes have no fault
pub fit_faultless : (validity : ℕ) (told : Result Codes CodeFault) (codes : Codes) → told ≡ Ok codes → (x : TextFault) → WhyUnfit validity told x →
    (fault : PlayFault) → x ≡ faults.Stopped fault → ⊥
fit_faultless validity (Ok codes) known is x why fault stopped = cc (sym why.0 ∙ stopped)
fit_faultless validity (Err code) known is x why fault stopped = cc is

-- and of a message that is there it tells the text
none_lacking : (o : Option Message) → found_of o ≡ founds.Lacks → ⊥
none_lacking None is = cc is
none_lacking (Some m) is = cc is

pub none_faultless : (name : List ℕ) (uid : ℕ) (tag : Tag) (s : Replies) (old new : Clock) → IsAnsweredOk (Some name) tag (fetching uid s) old new →
    (x : TextFault) → WhyNone (text_found uid s.untagged) x → (fault : PlayFault) → x ≡ faults.Stopped fault → ⊥
none_faultless name uid tag s old new a x why fault stopped = by (text_found uid s.untagged) refl why
  where
    by : (found : TextFound) → text_found uid s.untagged ≡ found → WhyNone found x → ⊥
    by founds.Gone is w = cc (sym w ∙ stopped)
    by founds.Lacks is w =
        let at = answered_at (Some name) tag (fetching uid s) old new refl a in
        let told = told_at name uid (waiting_of (Some name) tag (commands.FetchText uid)) at.at.now.outside.server at.to.outside.server s at.selects refl refl
        a.accepted at.carried in
        none_lacking (message_at uid told.box.messages) (sym told.found ∙ is)
    by (founds.Text text) is w = w

-- Where a call was refused, a refusal was told.
stopped_refused : (line : List ℕ) (f : SessionFault) → faults.Stopped (plays.Refused line) ≡ faults.Stopped (of_session f) → f ≡ sessions.Refused line
stopped_refused line f is = refused_as line f (cc is)

code_unrefused : (line : List ℕ) (f : CodeFault) → faults.Stopped (plays.Refused line) ≡ faults.Stopped (of_code f) → ⊥
code_unrefused line codings.NoModSeq is = cc is
code_unrefused line codings.NotSticky is = cc is
code_unrefused line (codings.NoCode which) is = cc is

asked_told : (tag : Tag) (command : Command) (p : Stage) (link : LinkState) (line : List ℕ) (told : List Response) (f : SessionFault) →
    f ≡ sessions.Refused line → NotAnswered tag command p link f → IsHonest told link.connection → WasTold RefusesRun told
asked_told tag command p link line told f is n honest =
    let refused : NotAnswered tag command p link (sessions.Refused line) = subst (λ (x : SessionFault). NotAnswered tag command p link x) is n in
    answer_told refused.heard tag command refused.hears.connection.received link.connection line told refused.failing honest

pub selected_told : (key : Key) (p : Stage) (link : LinkState) (line : List ℕ) (told : List Response) →
    NotSelected key p link (faults.Stopped (plays.Refused line)) → IsHonest told link.connection → WasTold RefusesRun told
selected_told key p link line told (unanswered f is n) honest = asked_told _ _ p link line told f (stopped_refused line f is) n honest
selected_told key p link line told (untold r q f is asked here codes) honest = absurd (code_unrefused line f is)
selected_told key p link line told (renewed r q codes is asked here told_codes other) honest = absurd (cc is)

pub texts_told : (key : Key) (p : Stage) (link : LinkState) (line : List ℕ) (told : List Response) →
    NotTold key p link (faults.Stopped (plays.Refused line)) → IsHonest told link.connection → WasTold RefusesRun told
texts_told key p link line told (unasked f is n) honest = asked_told _ _ p link line told f (stopped_refused line f is) n honest
texts_told key p link line told (gone r q is asked here found) honest = absurd (cc is)
texts_told key p link line told (lacks r q is asked here found) honest = absurd (cc is)

-- So it comes at a server that serves.
pub comes_text : (x : TextFault) → ((fault : PlayFault) → x ≡ faults.Stopped fault → ComesAnyway fault) → ComesServed x
comes_text (faults.Stopped fault) comes = comes fault refl
comes_text (faults.Renewed told) comes = tt
comes_text faults.Gone comes = tt

pub comes_served : (names : List (List ℕ)) (old new : Clock) → ConnectsFirst TalkStep old new → Since Any (GroundStep names) old new →
    AreBoxes names old.now.outside.server → AllServing old new → (x : TextFault) →
    ((line : List ℕ) → x ≡ faults.Stopped (plays.Refused line) → WasTold RefusesRun new.now.outside.talk.told) →
    ((fault : PlayFault) → x ≡ faults.Stopped fault → IsReplyFault fault → ⊥) → ComesServed x
comes_served names old new talks grounds boxes serving x told faultless =
    comes_text x (λ fault is.
    comes_turn fault
    (λ line refused.
    never_told RefusesRun new.now.outside.talk.told (served_end names old new talks grounds boxes serving).told (told line (is ∙ ap faults.Stopped refused)))
    (faultless fault is))

-- A fault of a session, as that of a text.
stopped_is : {T : Type 0} (out : Result T TextFault) (f : SessionFault) (fault : PlayFault) → out ≡ Err (stopped f) → out ≡ Err (faults.Stopped fault) →
    fault ≡ of_session f
stopped_is out f fault p q = cc (same_err out (faults.Stopped fault) (stopped f) q p)

pub err_is : {T : Type 0} (x : TextFault) (fault : PlayFault) → ◌≡◌ {A = Result T TextFault} (Err x) (Err (faults.Stopped fault)) → x ≡ faults.Stopped fault
err_is x fault is = cc is

-- A call of a lawful server that isn't answered has no fault of a reply.
pub failed_faultless : {S T : Type 0} (res : Result S SessionFault) (out : Result T TextFault) (f : SessionFault) (heard : List Response) (tag : Tag)
    (command : Command) (had : List ℕ) (c : Option Connection) → ((at : ℕ) → IsErrOf res (sessions.BadReply at) → ⊥) → res ≡ Err f → out ≡ Err (stopped f) →
    FailsBehind heard tag command had c f → (fault : PlayFault) → IsErrOf out (faults.Stopped fault) → IsReplyFault fault → ⊥
failed_faultless res out f heard tag command had c honest was is failing fault bad =
    session_faultless res honest f fault was (asked_whole heard tag command had c f failing) (stopped_is out f fault is bad)

-- How a call goes on over its connection.
module _ {Self S T : Type 0} (L : Ghosts Self) (key : Key) (old new : Self) (res : Result S SessionFault) (out : Result T TextFault)
    (faultless : L.tells_server → (fault : PlayFault) → IsErrOf out (faults.Stopped fault) → IsReplyFault fault → ⊥) where
  pub select_converses : (count : ℕ) → Talks L (next_tag count) (commands.Select key.name None) old new res → Converses L key.name old new out
  select_converses count talks = record {
    earlier = talks.earlier;
    talks = λ t. asked_talks _ (next_tag count) (commands.Select key.name None) (λ is. cc is) (L.clock old) (L.clock new) (talks.told t);
    grounds = λ t names has. select_grounded names key.name has None count (L.clock old) (L.clock new) (talks.told t);
    faultless = faultless;
  }

  pub text_converses : (name : List ℕ) (tag : Tag) (feed : Stream) →
      (L.tells_server → Stands (Some name) (L.clock old) (L.link old).connection feed) → Talks L tag (commands.FetchText key.uid) old new res →
      Converses L key.name old new out
  text_converses name tag feed stands talks = record {
    earlier = talks.earlier;
    talks = λ t. asked_talks _ tag (commands.FetchText key.uid) (λ is. cc is) (L.clock old) (L.clock new) (talks.told t);
    grounds = λ t names has.
        text_grounded names name key.uid tag (L.clock old) (L.clock new) (L.link old).connection feed (stands t) (talks.told t);
    faultless = faultless;
  }
