-- SELECT and the FETCH behind it, one after the other.
use Rattle.std.proofs.Common.{◌≡◌, ◌≤◌, arith, length, inl, inr, ℕ, ◌+◌, Bool, true, List, [], ◌∷◌, ◌++◌, Option, Some, None, is_some, if◌then◌else◌}
use Rattle.std.proofs.Common.{Result, Ok, Err, IfOk, IfErr, IfSome, refl, sym, ◌∙◌, ap, subst}
use Rattle.std.specs.List.{AllByRecursion}
use Rattle.mail_base.specs.declared.tag.Tag.{Tag}
use Rattle.literal_feed.specs.Stream.{Stream}
use Rattle.imap_model.specs.CommandText.{parts_of}
use Rattle.imap_model.specs.Small.{AreFew, IsSmall}
use Rattle.imap_model.specs.declared.command.Command.TheVariants as commands
use Rattle.imap_model.specs.declared.ending.Ending.TheVariants as endings
use Rattle.imap_model.specs.declared.mark.Mark.{Mark}
use Rattle.imap_model.specs.declared.replies.Replies.{Replies}
use Rattle.imap_model.specs.declared.response.Response.{Response}
use Rattle.mailbox_cache.specs.declared.cache.Cache.{Cache}
use Rattle.mailbox_cache.specs.declared.delta.Delta.{Delta}
use Rattle.mailbox_cache.specs.declared.row.Row.{Row}
use Rattle.action_queue.specs.Writable.{HaveFewFlags}
use Rattle.qresync_core.specs.Fitting.{Fits}
use Rattle.qresync_core.specs.Resync.{TellsDelta, HasFault, read_for_rows}
use Rattle.qresync_core.specs.declared.fault.ResyncFault.{ResyncFault}
use Rattle.qresync_core.specs.declared.maker.DeltaMaker.{DeltaMaker}
use Rattle.imap_model.specs.declared.listen.Last.{Last}
use Rattle.play_driver.specs.Gathering.{StandFor}
use Rattle.qresync_core.proofs.SmallRows.{rows_small}
use Rattle.world_traits.specs.Asking.{Asking}
use Rattle.world_traits.specs.LinkState.{Connection, LinkState}
use Rattle.world_traits.specs.Links.{Any, LinkStep, Linked}
use Rattle.world_traits.specs.Moments.{Clock}
use Rattle.world_traits.proofs.Passing.{since_then}
use Rattle.imap_session.specs.Causes.{FailsBehind}
use Rattle.imap_session.specs.Dialogue.{BrokeOff, Dialogue, IsReply, SentIn, next_tag, next_text}
use Rattle.imap_session.specs.Dialogue.Dialogue.{Asks}
use Rattle.imap_session.specs.Replying.{AreSmall, Came, ReceivedAtMost}
use Rattle.imap_session.specs.Sent.{joined, SentFront}
use Rattle.imap_session.specs.Session.{Answered, Stands, waiting_of}
use Rattle.imap_session.specs.declared.fault.SessionFault.{SessionFault}
use Rattle.imap_session.proofs.Dialogues.{broke_first, broke_from, had_now, is_reply, lines_of, stood_at}
use Rattle.imap_session.specs.Enquiring.{Enquiring}
use Rattle.play_driver.specs.Exchanges.{AnsweredAll, CameAll, IsAnsweredOk}
use Rattle.play_driver.specs.Resynchronising.{mark_kept, select_of, fetches, exchanged, resync, then_all, Gathered, IsLearnable, MakesDelta}
use Rattle.imap_session.proofs.Talks.{asks_enquires}

-- behind SELECT comes the FETCH, or nothing more
abbrev behind : Bool → Dialogue → Dialogue
behind due next = if due then Asks commands.FetchAll (λ all. next) else next

-- a question and its answer
pub answered_by : (selected : Option (List ℕ)) (count : ℕ) (kept since : Option Mark) (name : List ℕ) (r : Replies) (old at : Clock)
    (c : Option Connection) (feed : Stream) → since ≡ kept → r.ending ≡ endings.Ok →
    Answered (waiting_of selected (next_tag count) (commands.Select name since)) r old at c feed →
    IsAnsweredOk selected (next_tag count) (record { asked = commands.Select name kept; replies = r }) old at
answered_by selected count kept since name r old at c feed same ok a = record {
  connection = c;
  feed = feed;
  answered = subst (λ (m : Option Mark). Answered (waiting_of selected (next_tag count) (commands.Select name m)) r old at c feed) same a;
  accepted = ok;
}

-- what was told
pub select_told : (name : List ℕ) (since : Option Mark) (count : ℕ) (old new : Clock) →
    Linked (Asking old.now.outside.talk.told (next_tag count) (commands.Select name since)) old new → Linked Enquiring old new
select_told name since count old new linked = asks_enquires old.now.outside.talk.told (next_tag count) (commands.Select name since) refl old new linked

pub both_told : (name : List ℕ) (since : Option Mark) (count : ℕ) (tag : Tag) (old mid new : Clock) →
    Linked (Asking old.now.outside.talk.told (next_tag count) (commands.Select name since)) old mid →
    Linked (Asking mid.now.outside.talk.told tag commands.FetchAll) mid new → Linked Enquiring old new
both_told name since count tag old mid new first second =
    since_then Any (LinkStep Enquiring) old mid new (select_told name since count old mid first)
    (asks_enquires mid.now.outside.talk.told tag commands.FetchAll refl mid new second)

pub fetch_told : (tag : Tag) (old new : Clock) → Linked (Asking old.now.outside.talk.told tag commands.FetchAll) old new → Linked Enquiring old new
fetch_told tag old new linked = asks_enquires old.now.outside.talk.told tag commands.FetchAll refl old new linked

module _ (name : List ℕ) (kept : Option Cache) (since : Option Mark) (same : since ≡ mark_kept kept) (count : ℕ) where
  -- what was answered
  pub answered_two : (selected : Option (List ℕ)) (r all : Replies) (tag : Tag) (other : List ℕ) (old at new : Clock) (c d : Option Connection)
      (between feed : Stream) → tag ≡ next_tag (count + 1) → other ≡ name → r.ending ≡ endings.Ok → all.ending ≡ endings.Ok → Stands (Some name) at c between →
      Answered (waiting_of selected (next_tag count) (commands.Select name since)) r old at c between →
      Answered (waiting_of (Some other) tag commands.FetchAll) all at new d feed →
      AnsweredAll (exchanged name kept (record { selected = r; all = Some all })) selected count old new
  answered_two selected r all tag other old at new c d between feed next it ok fine stands first second =
      let one = answered_by selected count (mark_kept kept) since name r old at c between same ok first in
      let after : Some name ≡ one.answered.after = sym stands.selects ∙ one.answered.stands.selects in
      let as_counted = subst (λ (x : Tag). Answered (waiting_of (Some other) x commands.FetchAll) all at new d feed) next second in
      let as_named = subst (λ (x : List ℕ). Answered (waiting_of (Some x) (next_tag (count + 1)) commands.FetchAll) all at new d feed) it as_counted in
      let as_selected =
      subst (λ (s : Option (List ℕ)). Answered (waiting_of s (next_tag (count + 1)) commands.FetchAll) all at new d feed) after as_named in
      (at, one, (new, record { connection = d; feed = feed; answered = as_selected; accepted = fine }, refl))

  -- what came
  whole_as_kept : (old new : List ℕ) → new ≡ old ++ next_text count (commands.Select name since) → new ≡ old ++ next_text count (select_of name kept)
  whole_as_kept old new whole = whole ∙ ap (λ (m : Option Mark). old ++ next_text count (commands.Select name m)) same

  module _ (heard : List Response) (had : List ℕ) (r : Replies) (old at : LinkState) (between : Stream) (ok : r.ending ≡ endings.Ok) (small : AreSmall r)
      (whole : at.sent ≡ old.sent ++ next_text count (commands.Select name since))
      (came : Came heard (next_tag count) (commands.Select name since) r old at between) (within : ReceivedAtMost had at.connection) where
    abbrev first_lines : List Response
    first_lines = lines_of heard (next_tag count) (commands.Select name since) r old at between came

    first_reply : IsReply had heard (next_tag count) (select_of name kept) r within.reply first_lines
    first_reply = subst (λ (m : Option Mark). IsReply had heard (next_tag count) (commands.Select name m) r within.reply first_lines) same
        (is_reply heard (next_tag count) (commands.Select name since) r old at between came had within ok small)

    pub came_one : CameAll (exchanged name kept (record { selected = r; all = None })) count old.sent had heard at between
    came_one = (
      within.reply,
      first_lines,
      first_reply,
      stood_at heard (next_tag count) (commands.Select name since) r old at between came had within (old.sent ++ next_text count (select_of name kept))
          (whole_as_kept old.sent at.sent whole),
    )

    had_then : came.hears.connection.received ≡ had ++ within.reply
    had_then = had_now heard (next_tag count) (commands.Select name since) r old at between came had within

    module _ (tag : Tag) (is : tag ≡ next_tag (count + 1)) (due : true ≡ fetches kept r) where
      -- the FETCH was asked behind it
      pub came_two : (all : Replies) (new : LinkState) (feed : Stream) → all.ending ≡ endings.Ok → AreSmall all →
          new.sent ≡ at.sent ++ joined (parts_of tag commands.FetchAll) →
          Came (heard ++ first_lines) tag commands.FetchAll all at new feed → ReceivedAtMost came.hears.connection.received new.connection →
          CameAll (exchanged name kept (record { selected = r; all = Some all })) count old.sent had heard new feed
      came_two all new feed fine few more second more_within =
          let second_counted = subst (λ (x : Tag). Came (heard ++ first_lines) x commands.FetchAll all at new feed) is second in
          let in_had = subst (λ (t : List ℕ). ReceivedAtMost t new.connection) had_then more_within in
          let sent_so : new.sent ≡ (old.sent ++ next_text count (select_of name kept)) ++ next_text (count + 1) commands.FetchAll =
          more ∙ ap (λ (t : List ℕ). t ++ joined (parts_of tag commands.FetchAll)) (whole_as_kept old.sent at.sent whole)
          ∙ ap (λ (x : Tag). (old.sent ++ next_text count (select_of name kept)) ++ joined (parts_of x commands.FetchAll)) is in (
            within.reply,
            first_lines,
            first_reply,
            (
              in_had.reply,
              lines_of (heard ++ first_lines) (next_tag (count + 1)) commands.FetchAll all at new feed second_counted,
              is_reply (heard ++ first_lines) (next_tag (count + 1)) commands.FetchAll all at new feed second_counted (had ++ within.reply) in_had fine few,
              stood_at (heard ++ first_lines) (next_tag (count + 1)) commands.FetchAll all at new feed second_counted (had ++ within.reply) in_had
                  ((old.sent ++ next_text count (select_of name kept)) ++ next_text (count + 1) commands.FetchAll) sent_so,
            ),
          )

      -- it wasn't answered
      pub why_two : (next : Dialogue) (new : LinkState) (fault : SessionFault) → SentFront (joined (parts_of tag commands.FetchAll)) at.sent new.sent →
          FailsBehind (heard ++ first_lines) tag commands.FetchAll came.hears.connection.received new.connection fault →
          BrokeOff (resync name kept next) count old.sent had heard new fault
      why_two next new fault text failing =
          let text_counted = subst (λ (x : Tag). SentFront (joined (parts_of x commands.FetchAll)) at.sent new.sent) is text in
          let failing_counted =
          subst (λ (x : Tag). FailsBehind (heard ++ first_lines) x commands.FetchAll came.hears.connection.received new.connection fault) is failing in
          let there_counted = broke_first commands.FetchAll (λ all. next) (count + 1) at.sent came.hears.connection.received (heard ++ first_lines) new fault
          text_counted failing_counted in
          let there_had = broke_from (behind true next) (count + 1) at.sent (old.sent ++ next_text count (select_of name kept))
          came.hears.connection.received (had ++ within.reply) (heard ++ first_lines) new fault (whole_as_kept old.sent at.sent whole) had_then there_counted in
          let there_due = subst (λ (b : Bool). BrokeOff (behind b next) (count + 1) (old.sent ++ next_text count (select_of name kept))
          (had ++ within.reply) (heard ++ first_lines) new fault) due there_had in
          inr (r, within.reply, first_lines, first_reply, there_due)

  -- what was sent
  pub sent_two : (next : Dialogue) (tag : Tag) (r : Replies) (old at new : List ℕ) → tag ≡ next_tag (count + 1) → true ≡ fetches kept r →
      at ≡ old ++ next_text count (commands.Select name since) → SentFront (joined (parts_of tag commands.FetchAll)) at new →
      SentIn (resync name kept next) count old new
  sent_two next tag r old at new is due whole sent =
      let counted : SentIn (behind true next) (count + 1) at new =
      inl (subst (λ (x : Tag). SentFront (joined (parts_of x commands.FetchAll)) at new) is sent) in
      let behind_select = subst (λ (t : List ℕ). SentIn (behind true next) (count + 1) t new) (whole_as_kept old at whole) counted in
      inr (r, subst (λ (b : Bool). SentIn (behind b next) (count + 1) (old ++ next_text count (select_of name kept)) new) due behind_select)

-- what may be learned of the cache
have_few : (rows : List (ℕ × Row)) → AllByRecursion (λ (row : ℕ × Row). AreFew row.1.flags) rows → HaveFewFlags rows
have_few [] few = tt
have_few (row ∷ rows) few = (few.0, have_few rows few.1)

small_rows : (selected : Replies) (all : Option Replies) → AreSmall selected → IfSome all AreSmall →
    AllByRecursion IsSmall (read_for_rows selected all).untagged
small_rows selected None few more = few.untagged
small_rows selected (Some all) few more = more.untagged

pub learnable : (kept : Option Cache) (g : Gathered) (delta : Result Delta ResyncFault) → AreSmall g.selected → IfSome g.all AreSmall →
    MakesDelta kept g delta → IfOk delta (Fits kept) → IfOk delta (IsLearnable kept)
learnable kept g (Err fault) few more makes fits = tt
learnable kept g (Ok delta) few more makes fits = record {
  fits = fits;
  few = have_few delta.rows (rows_small kept g.selected g.all delta (small_rows g.selected g.all few more) makes.value);
}

-- what the replies make of the cache, for which the makers stand
module _ (kept : Option Cache) (selected : DeltaMaker) (last : Last) (all : DeltaMaker) where
  abbrev OfAll : (Gathered → Type 0) → Type 0
  OfAll P = (g : Gathered) → StandFor selected last all g → is_some g.all ≡ fetches kept g.selected → P g

  pub makes_delta : (g : Gathered) (delta : Result Delta ResyncFault) → StandFor selected last all g → is_some g.all ≡ fetches kept g.selected →
      IfOk delta (λ (d : Delta). OfAll (λ (h : Gathered). TellsDelta kept h.selected h.all d)) →
      IfErr delta (λ (f : ResyncFault). OfAll (λ (h : Gathered). HasFault kept h.selected h.all f)) → MakesDelta kept g delta
  makes_delta g (Ok delta) stand fetched value fault = record { fetched = fetched; value = value g stand fetched; fault = tt }
  makes_delta g (Err told) stand fetched value fault = record { fetched = fetched; value = tt; fault = fault g stand fetched }

-- the FETCH is one question at most
pub at_most_one : (all : Option Replies) → length (then_all all) ≤ 1
at_most_one None = omega arith
at_most_one (Some all) = omega arith
