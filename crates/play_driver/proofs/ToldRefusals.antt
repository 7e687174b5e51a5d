-- Where a run ends by a refusal, a refusal was told: each line that was read is one that was told.
use Rattle.std.proofs.Common.{◌≡◌, ◌≢◌, inl, inr, ℕ, ◌+◌, ◌<◌, true, List, [], ◌∷◌, ◌++◌, length, drop, Option, Some}
use Rattle.std.proofs.Common.{sym, ◌∙◌, ap, subst, append_assoc}
use Rattle.std.proofs.Math.Logic.{∥∥₁_map}
use Rattle.action_queue.specs.Book.{cache_at}
use Rattle.mail_base.specs.Account.{Credentials}
use Rattle.mail_base.specs.declared.frame.Frame.{Frame}
use Rattle.mail_base.specs.declared.tag.Tag.{Tag}
use Rattle.mail_base.proofs.MoreBytes.{frames_stay}
use Rattle.literal_feed.specs.Stream.{Stream}
use Rattle.imap_model.proofs.SameResponses.{goes_on_behind}
use Rattle.imap_model.specs.Lines.{Received}
use Rattle.imap_model.specs.declared.command.Command.{Command}
use Rattle.imap_model.specs.declared.command.Command.TheVariants as commands
use Rattle.imap_model.specs.declared.response.Response.{Response}
use Rattle.imap_model.specs.declared.response.Response.TheVariants as responses
use Rattle.imap_response.proofs.Heard.{front}
use Rattle.imap_session.specs.Causes.{FailsBehind, LastLine}
use Rattle.imap_session.specs.Dialogue.{BrokeOff, Dialogue, next_tag, next_text}
use Rattle.imap_session.specs.Dialogue.Dialogue.{Ends, Lacks, Asks}
use Rattle.imap_session.specs.Faults.{NoHello, Unfit, more_parts}
use Rattle.imap_session.specs.Hearing.{Took}
use Rattle.imap_session.specs.Knowing.{requests}
use Rattle.imap_session.specs.Leaving.{Staying}
use Rattle.imap_session.specs.LogIn.{enabling, entering}
use Rattle.imap_session.specs.declared.fault.SessionFault.{SessionFault}
use Rattle.imap_session.specs.declared.fault.SessionFault.TheVariants as sessions
use Rattle.playback.specs.declared.need.Unheard.{Unheard}
use Rattle.playback.specs.declared.need.Unheard.TheVariants as unheards
use Rattle.qresync_core.specs.declared.fault.ResyncFault.{ResyncFault}
use Rattle.qresync_core.specs.declared.fault.ResyncFault.TheVariants as resyncs
use Rattle.world_traits.specs.LinkState.{Connection, LinkState}
use Rattle.play_driver.specs.Entering.{NotEntered}
use Rattle.play_driver.specs.Entering.NotEntered.{unconnected, ungreeted, not_logged_in, not_enabled}
use Rattle.play_driver.specs.Faults.{of_resync, of_session, of_unheard}
use Rattle.play_driver.specs.Playing.{NotLeft}
use Rattle.play_driver.specs.Recording.NotRecorded.{wanting as record_wanting, disk, full}
use Rattle.play_driver.specs.Refusals.{DeniesQuestion, NeverTold, RefusesRun}
use Rattle.play_driver.specs.Resynchronising.{resync}
use Rattle.play_driver.specs.Stages.{Broke, Stage}
use Rattle.play_driver.specs.Turning.{Standing, TurnFails}
use Rattle.play_driver.specs.Turning.TurnFails.{wanting, not_recorded, not_told, not_chosen, not_reset, not_fetched, not_taken, not_answered, not_heard}
use Rattle.play_driver.specs.declared.fault.PlayFault.TheVariants as faults

-- such a response was told
pub record WasTold (P : Response → Type 0) (told : List Response) : Type 0 where
  pub before : List Response
  pub response : Response
  pub behind : List Response
  pub among : told ≡ before ++ response ∷ behind
  pub is : P response

-- where none was told, that is absurd
never_among : (P : Response → Type 0) (before : List Response) (response : Response) (behind : List Response) → P response →
    NeverTold P (before ++ response ∷ behind) → ⊥
never_among P [] response behind is never = never.0 is
never_among P (r ∷ before) response behind is never = never_among P before response behind is never.1

pub never_told : (P : Response → Type 0) (told : List Response) → NeverTold P told → WasTold P told → ⊥
never_told P told never w = never_among P w.before w.response w.behind w.is (subst (NeverTold P) w.among never)

-- what was received is a front of the lines of what was told, as of each link that tells its server
abbrev pub IsHonest : List Response → Option Connection → Type 0
IsHonest told c = (k : Connection) → c ≡ Some k → ∥ Received told k.received ∥₁

-- what was taken of an honest connection is a front of what was told
pub took_front : (heard told : List Response) (taken : List Frame) (left : Stream) (had : List ℕ) (c : Option Connection)
    → Took heard taken left had c → IsHonest told c → told ≡ heard ++ drop (length heard) told
took_front heard told taken left had c t honest =
    goes_on_behind heard told (∥∥₁_map (honest t.connection t.there) (λ r.
    let f = front 0 (t.connection.received ++ r.rest) taken (left.bytes ++ r.rest) heard told
    (frames_stay 0 t.connection.received r.rest taken left.bytes t.stands.frames) t.spell r.lines in
    (f.0, f.1)))

-- so the last line that was read was told
line_told : (P : Response → Type 0) (heard : List Response) (frame : Frame) (response : Response) (had : List ℕ) (c : Option Connection)
    (told : List Response) → LastLine heard frame response had c → P response → IsHonest told c → WasTold P told
line_told P heard frame response had c told line is honest =
    let all = heard ++ (line.told ++ response ∷ []) in
    let more = drop (length all) told in
    record {
      before = heard ++ line.told;
      response = response;
      behind = more;
      among = took_front all told (line.before ++ frame ∷ []) line.left had c line.took honest
          ∙ ap (λ (t : List Response). t ++ more) (sym (append_assoc heard line.told (response ∷ [])))
          ∙ append_assoc (heard ++ line.told) (response ∷ []) more;
      is = is;
    }

-- the line refuses
unfit_refuses : (tag : Tag) (Early : Type 0) (frame : Frame) (response : Response) (line : List ℕ)
    → Unfit tag Early frame response (sessions.Refused line) → RefusesRun response
unfit_refuses tag Early frame response line (same, inl bye) = inl bye
unfit_refuses tag Early frame response line (same, inr (count, (ending, code, done, bad))) = inr (subst DeniesQuestion (sym done) (count, bad))

unfit_denies : (tag : Tag) (Early : Type 0) (frame : Frame) (response : Response) (line : List ℕ)
    → Unfit tag Early frame response (sessions.Refused line) → response ≢ responses.Bye → DeniesQuestion response
unfit_denies tag Early frame response line (same, inl bye) other = absurd (other bye)
unfit_denies tag Early frame response line (same, inr (count, (ending, code, done, bad))) other = subst DeniesQuestion (sym done) (count, bad)

-- where a question, or the command of an action, was refused
pub answer_told : (heard : List Response) (tag : Tag) (command : Command) (had : List ℕ) (c : Option Connection) (line : List ℕ)
    (told : List Response) → FailsBehind heard tag command had c (sessions.Refused line) → IsHonest told c → WasTold RefusesRun told
answer_told heard tag command had c line told (inl r) honest = absurd r.reading
answer_told heard tag command had c line told (inr u) honest =
    line_told RefusesRun heard u.frame u.response had c told u.line
    (unfit_refuses tag (requests u.line.told < more_parts tag command) u.frame u.response line u.unfit) honest

-- where the greeting was BYE
greeting_told : (c : Option Connection) (line : List ℕ) (told : List Response) → NoHello c (sessions.Refused line) → IsHonest told c →
    WasTold RefusesRun told
greeting_told c line told (inl r) honest = absurd r
greeting_told c line told (inr u) honest =
    let more = drop 1 told in
    record {
      before = [];
      response = u.response;
      behind = more;
      among = took_front (u.response ∷ []) told (u.frame ∷ []) u.line.left [] c u.line.took honest;
      is = inl u.unfit.1;
    }

-- in a dialogue
dialogue_told : (d : Dialogue) (count : ℕ) (sent had : List ℕ) (heard : List Response) (link : LinkState) (line : List ℕ) (told : List Response)
    → BrokeOff d count sent had heard link (sessions.Refused line) → IsHonest told link.connection → WasTold RefusesRun told
dialogue_told (Ends rev2) count sent had heard link line told b honest = absurd b
dialogue_told (Lacks item) count sent had heard link line told b honest = absurd (let h = b.0 in cc)
dialogue_told (Asks command next) count sent had heard link line told (inl n) honest =
    answer_told heard (next_tag count) command had link.connection line told n.failing honest
dialogue_told (Asks command next) count sent had heard link line told (inr (r, came, lines, reply, b)) honest =
    dialogue_told (next r) (count + 1) (sent ++ next_text count command) (had ++ came) (heard ++ lines) link line told b honest

broke_told : (d : Dialogue) (p : Stage) (link : LinkState) (line : List ℕ) (told : List Response)
    → Broke d p link (sessions.Refused line) → IsHonest told link.connection → WasTold RefusesRun told
broke_told d p link line told b honest =
    dialogue_told d p.count p.link.sent b.hears.connection.received b.heard link line told b.broke honest

-- where a run didn't enter
pub entry_told : (account : Credentials) (old link : LinkState) (line : List ℕ) (told : List Response) →
    NotEntered account old link (sessions.Refused line) → IsHonest told link.connection → WasTold RefusesRun told
entry_told account old link line told (unconnected is sent made) honest = absurd cc
entry_told account old link line told (ungreeted none sent) honest = greeting_told link.connection line told none honest
entry_told account old link line told (not_logged_in preauth p hello b) honest = broke_told (entering preauth account) p link line told b honest
entry_told account old link line told (not_enabled rev2 p logged b) honest = broke_told (enabling rev2) p link line told b honest

-- a refusal of a run is one of its session's
pub refused_as : (line : List ℕ) (f : SessionFault) → faults.Refused line ≡ of_session f → f ≡ sessions.Refused line
refused_as line sessions.Memory is = absurd cc
refused_as line sessions.Link is = absurd cc
refused_as line (sessions.Refused other) is = cc
refused_as line (sessions.BadReply at) is = absurd cc
refused_as line (sessions.Lacking item) is = absurd cc
refused_as line (sessions.TooLarge limit number) is = absurd cc

resync_no_refusal : (line name : List ℕ) (f : ResyncFault) → faults.Refused line ≡ of_resync name f → ⊥
resync_no_refusal line name resyncs.Memory is = cc
resync_no_refusal line name resyncs.NoModSeq is = cc
resync_no_refusal line name resyncs.NotSticky is = cc
resync_no_refusal line name (resyncs.NoCode which) is = cc
resync_no_refusal line name (resyncs.Validity kept told) is = cc
resync_no_refusal line name (resyncs.Unfit kept told) is = cc
resync_no_refusal line name (resyncs.BareRow index) is = cc

unheard_no_refusal : (line name : List ℕ) (u : Unheard) → faults.Refused line ≡ of_unheard name u → ⊥
unheard_no_refusal line name unheards.Memory is = cc
unheard_no_refusal line name (unheards.Resync fault) is = resync_no_refusal line name fault is
unheard_no_refusal line name (unheards.Target kept told) is = cc
unheard_no_refusal line name (unheards.Lacks item) is = cc
unheard_no_refusal line name (unheards.Rows count) is = cc

-- where a turn failed
pub turn_told : (p : Standing) (link : LinkState) (line : List ℕ) (told : List Response) → TurnFails p link (faults.Refused line) →
    IsHonest told link.connection → WasTold RefusesRun told
turn_told p link line told (wanting dear same is) honest = absurd cc
turn_told p link line told (not_recorded event records same (record_wanting takes is)) honest = absurd cc
turn_told p link line told (not_recorded event records same (disk is)) honest = absurd cc
turn_told p link line told (not_recorded event records same (full over is)) honest = absurd cc
turn_told p link line told (not_told name f resting need is b) honest =
    let d = resync name (cache_at name p.store.book.boxes) (Ends true) in
    broke_told d p.stage link line told (subst (λ (x : SessionFault). Broke d p.stage link x) (refused_as line f is) b) honest
turn_told p link line told (not_chosen name delta permits unheard resting need came fault why is) honest =
    absurd (unheard_no_refusal line name unheard is)
turn_told p link line told (not_reset h event here need reset same (record_wanting takes is)) honest = absurd cc
turn_told p link line told (not_reset h event here need reset same (disk is)) honest = absurd cc
turn_told p link line told (not_reset h event here need reset same (full over is)) honest = absurd cc
turn_told p link line told (not_fetched h f here need is b) honest =
    let d = Asks commands.FetchAll (λ all. Ends true) in
    broke_told d p.stage link line told (subst (λ (x : SessionFault). Broke d p.stage link x) (refused_as line f is) b) honest
turn_told p link line told (not_taken h delta q unheard here need came there fault why is) honest =
    absurd (unheard_no_refusal line h.chosen.name unheard is)
turn_told p link line told (not_answered tag command f asked is n) honest =
    answer_told n.heard tag command n.hears.connection.received link.connection line told
    (subst (λ (x : SessionFault). FailsBehind n.heard tag command n.hears.connection.received link.connection x) (refused_as line f is) n.failing)
    honest
turn_told p link line told (not_heard tag command r q unheard name selected asked came here fault is) honest =
    absurd (unheard_no_refusal line name unheard is)

staying_told : (heard : List Response) (tag : Tag) (had : List ℕ) (c : Option Connection) (line : List ℕ) (told : List Response)
    → Staying heard tag had c (sessions.Refused line) → IsHonest told c → WasTold DeniesQuestion told
staying_told heard tag had c line told (inl r) honest = absurd r.reading
staying_told heard tag had c line told (inr u) honest =
    line_told DeniesQuestion heard u.frame u.response had c told u.line (unfit_denies tag ⊥ u.frame u.response line u.unfit u.other) honest

-- where LOGOUT was refused, a completion says so: a BYE refuses no LOGOUT
pub leave_told : (p : Stage) (link : LinkState) (line : List ℕ) (told : List Response) → NotLeft p link (sessions.Refused line) →
    IsHonest told link.connection → WasTold DeniesQuestion told
leave_told p link line told n honest = staying_told n.heard (next_tag p.count) n.hears.connection.received link.connection line told n.staying honest
