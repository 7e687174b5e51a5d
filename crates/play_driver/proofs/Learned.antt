-- What a resynchronisation tells makes the cache the server's at the last moment at which it reads the mailbox, and fresh from then on.
use Rattle.std.proofs.Common.{◌≡◌, inl, inr, ◌≤◌, ℕ, ◌+◌, Bool, true, false, not, List, Option, Some, None, is_some, Ok, Err, Result}
use Rattle.std.proofs.Common.{refl, sym, ◌∙◌, ap, subst, arith}
use Rattle.std.specs.Prelude.{cond, nat_lt}
use Rattle.std.proofs.lemmas.Bool.{ltb-false}
use Rattle.std.proofs.lemmas.Option.{none-some, same_Some}
use Rattle.mail_base.specs.declared.tag.Tag.{Tag}
use Rattle.imap_model.specs.CarriedOut.{CarriesOut, Decides, Selects}
use Rattle.imap_model.specs.Carrying.{Waiting}
use Rattle.imap_model.specs.Mutating.{is_mutating}
use Rattle.imap_model.specs.Changes.{Batch, floor_of}
use Rattle.imap_model.specs.Evolving.{GoesOn, FindsEvolved}
use Rattle.imap_model.specs.Lookups.{box_at, validity_of, highest_of}
use Rattle.imap_model.specs.WellFormed.{IsWellFormed}
use Rattle.imap_model.specs.declared.command.Command.TheVariants as commands
use Rattle.imap_model.specs.declared.ending.Ending.{Ending}
use Rattle.imap_model.specs.declared.ending.Ending.TheVariants as endings
use Rattle.imap_model.specs.declared.mark.Mark.{Mark}
use Rattle.imap_model.specs.declared.replies.Replies.{Replies}
use Rattle.imap_model.specs.declared.server.Mailbox.{Mailbox}
use Rattle.imap_model.specs.declared.server.Server.{Server}
use Rattle.imap_model.proofs.Evolution.{batches_stay}
use Rattle.mailbox_cache.specs.Cache.{first}
use Rattle.mailbox_cache.specs.declared.cache.Cache.{Cache}
use Rattle.mailbox_cache.specs.declared.delta.Delta.{Delta}
use Rattle.action_queue.specs.Book.{Meaning, cache_at, learned}
use Rattle.qresync_core.specs.Fresh.{FreshFacts}
use Rattle.qresync_core.specs.Laws.{AnswersSelect, AnswersFetch, Faultless, Mirrors, codes_of_box}
use Rattle.qresync_core.specs.Marking.{mark_of}
use Rattle.qresync_core.specs.Resync.{TellsDelta, is_told_empty}
use Rattle.qresync_core.specs.ToldCodes.{told_codes}
use Rattle.qresync_core.specs.declared.codes.Codes.{Codes}
use Rattle.qresync_core.specs.declared.fault.ResyncFault.{ResyncFault}
use Rattle.qresync_core.specs.declared.fault.CodeFault.{CodeFault}
use Rattle.qresync_core.proofs.Judging.{memory_alone}
use Rattle.qresync_core.proofs.Leveling.{kept_judged, kept_levels, first_judged, first_mirrors, empty_judged, empty_mirrors, facts_later, fresh_later as still_fresh}
use Rattle.qresync_core.proofs.Replying.{codes_true, fetch_box, select_box, selecting}
use Rattle.world_traits.specs.Links.{Any, LinkStep, Linked}
use Rattle.world_traits.specs.Moments.{Moment, Clock, Since, tick}
use Rattle.world_traits.proofs.Passing.{since_start, since_then, since_tick, since_weaker}
use Rattle.world_traits.proofs.Traces.{carried_now, since_both, since_carry}
use Rattle.imap_session.specs.Dialogue.{next_tag}
use Rattle.imap_session.specs.Enquiring.{Enquiring}
use Rattle.imap_session.specs.Session.{waiting_of}
use Rattle.imap_session.specs.declared.permits.Permits.{Permits}
use Rattle.book_laws.specs.Kept.{KeptBook}
use Rattle.book_laws.specs.Fresh.{IsFreshFor}
use Rattle.store_core.specs.Mail.{mail}
use Rattle.store_core.specs.Steps.{Firm}
use Rattle.store_core.specs.Taking.{HasBooks}
use Rattle.play_driver.specs.Exchanges.{Exchange, AnsweredAll, IsAnsweredOk}
use Rattle.play_driver.specs.Renewing.{above, above_codes, renewed_to}
use Rattle.play_driver.specs.Resynchronising.{exchanged, fetches, mark_kept, select_of, Resyncs}
use Rattle.play_driver.specs.Calm.{IsCalm, IsFreshAt, NoChangeWaits}
use Rattle.play_driver.specs.Joining.{AllFair, IsFair}
use Rattle.play_driver.specs.KnownAt.{StandsKept}
use Rattle.play_driver.specs.Levelling.{IsKeptFresh, IsLevelled, LeavesSelected, LeavesValidity, LinkFaultless, LinkLevels, ResyncsFaultless, ResyncsLevel}
use Rattle.play_driver.specs.Levelling.{SameValidity, SelectedStays, ValidityStays}
use Rattle.play_driver.specs.Played.{played}
use Rattle.play_driver.specs.Synced.{IsLevel, IsRead, IsReadAt}
use Rattle.play_driver.proofs.Answering.{AnsweredAt, answered_at, answered_through}
use Rattle.play_driver.proofs.Calm.{SameSelected, calm_now, held_freely, held_now, stays_selected}
use Rattle.play_driver.proofs.KnownWalk.{grows_tick, kept_here}
use Rattle.play_driver.proofs.QuestionsStay.{question_stays}
use Rattle.book_laws.proofs.Facts.{box_evolves}
use Rattle.play_driver.proofs.Links.{books_there, fair_books}
use Rattle.play_driver.proofs.NotRead.{IsQuiet, last_earlier, quiet_all}
use Rattle.play_driver.proofs.Parts.{grows, grows_then, since_first, since_second}

-- a mailbox goes on through changes by others that leave its UIDVALIDITY
pub record GoneOn (name : List ℕ) (box : Mailbox) (t : Server) : Type 0 where
  pub later : Mailbox
  pub there : box_at name t.boxes ≡ Some later
  pub validity : later.validity ≡ box.validity
  pub goes : GoesOn box.highest box later

pub goes_on : (name : List ℕ) (box : Mailbox) (s t : Server) → IsWellFormed s.boxes → Batch s.boxes s t → SameValidity name s t → box_at name s.boxes ≡ Some box →
    GoneOn name box t
goes_on name box s t well batch same there =
    let found : FindsEvolved (floor_of s.boxes name) name box t.boxes = (batches_stay s t well batch).1.each name box there in
    let validity : found.box.validity ≡ box.validity = ap validity_of (sym found.there) ∙ same ∙ ap validity_of there in
    record {
      later = found.box;
      there = found.there;
      validity = validity;
      goes = subst (λ (floor : ℕ). GoesOn floor box found.box) (ap highest_of there) (found.evolves.goes_on validity);
    }

-- a cache that is fresh stays so
abbrev Freshly : List ℕ → Cache → Server → Type 0
Freshly name cache s = IsFreshAt s name cache

freshly_on : (name : List ℕ) (cache : Cache) (s t : Server) → IsWellFormed s.boxes → Batch s.boxes s t → SameValidity name s t → Freshly name cache s →
    Freshly name cache t
freshly_on name cache s t well batch same f =
    let g = goes_on name f.box s t well batch same f.there in
    record { box = g.later; there = g.there; fresh = still_fresh cache f.box g.later f.fresh g.validity g.goes }

-- a number that isn't above another
not_above : (kept told : ℕ) → above kept told ≡ None → kept ≤ told → kept ≡ told
not_above kept told is low = by (nat_lt kept told) refl
  where
    by : (test : Bool) → nat_lt kept told ≡ test → kept ≡ told
    by true e =
        absurd (let some : above kept told ≡ Some told = ap (λ (x : Bool). cond x (Some told) None) e in none-some told (sym is ∙ some))
    by false e = let h : told ≤ kept = ltb-false kept told e in omega arith

-- UIDVALIDITY stays, and mod-sequences only rise
pub record IsPast (name : List ℕ) (validity highest : ℕ) (s : Server) : Type 0 where
  pub box : Mailbox
  pub there : box_at name s.boxes ≡ Some box
  pub same : box.validity ≡ validity
  pub higher : highest ≤ box.highest

pub past_on : (name : List ℕ) (validity highest : ℕ) (s t : Server) → IsWellFormed s.boxes → Batch s.boxes s t → SameValidity name s t →
    IsPast name validity highest s → IsPast name validity highest t
past_on name validity highest s t well batch same p =
    let g = goes_on name p.box s t well batch same p.there in
    record { box = g.later; there = g.there; same = g.validity ∙ p.same; higher = omega (arith, p.higher, g.goes.highest) }

module _ (name : List ℕ) where
  -- a cache that mirrors the mailbox at some clock
  mirrored : (cache : Cache) (old at new : Clock) (to : Moment) (box : Mailbox) → IsCalm at.now.outside → Linked Enquiring old at →
      Linked Enquiring at new → Linked Enquiring (tick at to) new → IsRead name at.now to →
      (old.now.outside.waiting ≡ None → old.now.outside.talk.arriving ≡ None → Since Any IsQuiet (tick at to) new) → ValidityStays name at new →
      box_at name at.now.outside.server.boxes ≡ Some box → Mirrors cache box → IsLevelled name cache old new
  mirrored cache old at new to box calm before after behind read quiet fair there mirrors =
      let level : IsLevel name cache at.now = record { box = box; there = there; validity = mirrors.fresh.validity; rows = mirrors.rows } in
      let first = grows Any (LinkStep Enquiring) old at before in
      let is : IsReadAt name cache at.now to = record { read = read; level = level } in
      record {
        level = record {
          at = at;
          to = to;
          before = first;
          has = tt;
          step = tt;
          after = grows Any (LinkStep Enquiring) (tick at to) new behind;
          is = is;
        };
        last = λ none no_part. record {
          at = at;
          to = to;
          before = first;
          is = is;
          after = quiet_all name (tick at to) new (quiet none no_part);
        };
        fresh = (held_now name (Freshly name cache) (freshly_on name cache) at new after fair (calm, record { box = box; there = there; fresh = mirrors.fresh })).1;
      }

  -- SELECT, answered by OK
  pub selects : (kept : Option Cache) (selected : Option (List ℕ)) (tag : Tag) (r : Replies) (old new : Clock) → r.ending ≡ endings.Ok →
      (a : AnsweredAt selected tag (record { asked = select_of name kept; replies = r }) old new) →
      (box : Mailbox) × (there : box_at name a.at.now.outside.server.boxes ≡ Some box) × AnswersSelect name (mark_kept kept) box r
  selects kept selected tag r old new ok a =
      let w = waiting_of selected tag (select_of name kept) in
      let found = select_box name (mark_kept kept) w a.at.now.outside.server a.to.outside.server r a.selects refl ok a.carried in (
        found.0,
        found.1,
        record {
          waiting = w;
          command = refl;
          answers = record { server = a.at.now.outside.server; later = a.to.outside.server; after = a.selects; carried = a.carried; ok = ok; there = found.1 };
        },
      )

  -- SELECT reads the mailbox as it is carried out
  select_read : (kept : Option Cache) (selected : Option (List ℕ)) (tag : Tag) (r : Replies) (old new : Clock) → r.ending ≡ endings.Ok →
      (a : AnsweredAt selected tag (record { asked = select_of name kept; replies = r }) old new) → IsRead name a.at.now a.to
  select_read kept selected tag r old new ok a = record {
    asked = waiting_of selected tag (select_of name kept);
    rows = inl (mark_kept kept, refl);
    replies = r;
    accepted = ok;
    selects = a.selects;
    told = a.told;
    tells = a.tells;
  }

  -- the replies have no fault, and make a cache that is level
  abbrev pub Comes : Option Cache → Replies → Option Replies → Clock → Clock → Type 0
  Comes kept r all old new = Faultless kept r all × ((delta : Delta) → TellsDelta kept r all delta → IsLevelled name (learned kept delta) old new)

  -- behind SELECT, answered by OK, the mailbox is selected
  pub select_after : (since : Option Mark) (selected : Option (List ℕ)) (tag : Tag) (r : Replies) (s t : Server) (after : Option (List ℕ)) → r.ending ≡ endings.Ok →
      CarriesOut (waiting_of selected tag (commands.Select name since)) s r t after → after ≡ Some name
  select_after since selected tag r s t after ok carried =
      let w = waiting_of selected tag (commands.Select name since) in
      let done : Selects name since w s r t after = subst (λ (e : Ending). Decides e w.command w s r t after) ok carried in
      done.selection

  -- so it was in a longer time
  levelled_earlier : (cache : Cache) (old mid new : Clock) → Linked Enquiring old mid → mid.now.outside.waiting ≡ None →
      mid.now.outside.talk.arriving ≡ None → IsLevelled name cache mid new → IsLevelled name cache old new
  levelled_earlier cache old mid new first none no_part l =
      let more = grows Any (LinkStep Enquiring) old mid first in
      record {
        level = record {
          at = l.level.at;
          to = l.level.to;
          before = grows_then old mid l.level.at more l.level.before;
          has = l.level.has;
          step = l.level.step;
          after = l.level.after;
          is = l.level.is;
        };
        last = λ quiet idle. last_earlier name cache old mid new more (l.last none no_part);
        fresh = l.fresh;
      }

  -- at the step at which a question is answered the server stays
  answer_leaves : (selected : Option (List ℕ)) (tag : Tag) (x : Exchange) (old new : Clock) (a : AnsweredAt selected tag x old new) →
      is_mutating x.asked ≡ false → LeavesValidity name a.at.now a.to
  answer_leaves selected tag x old new a question = record {
    same = λ batch. ap (λ (s : Server). validity_of (box_at name s.boxes))
        (question_stays (waiting_of selected tag x.asked) a.at.now.outside.server x.replies a.to.outside.server a.selects question a.carried);
  }

  -- behind it the mailbox that is selected keeps its UIDVALIDITY
  behind_answer : (selected : Option (List ℕ)) (tag : Tag) (x : Exchange) (old mid new : Clock) (a : AnsweredAt selected tag x old mid) →
      is_mutating x.asked ≡ false → ValidityStays name (tick a.at a.to) new → ValidityStays name a.at new
  behind_answer selected tag x old mid new a question behind =
      since_then Any (LeavesValidity name) a.at (tick a.at a.to) new
      (since_tick Any (LeavesValidity name) a.at a.at (tick a.at a.to) a.to (since_start Any (LeavesValidity name) a.at) refl tt
      (answer_leaves selected tag x old mid a question)) behind

  pub answered_stays : (selected : Option (List ℕ)) (tag : Tag) (x : Exchange) (old new : Clock) (a : AnsweredAt selected tag x old new) →
      is_mutating x.asked ≡ false → old.now.outside.waiting ≡ None → old.now.outside.talk.arriving ≡ None → a.selects ≡ Some name →
      SelectedStays old new → ValidityStays name a.at new
  answered_stays selected tag x old new a question none no_part named fair =
      behind_answer selected tag x old new new a question
      (stays_selected name (tick a.at a.to) new (a.chosen none no_part) (a.chosen_then ∙ named)
      (since_second Any LeavesSelected old (tick a.at a.to) new
      (grows_then old a.at (tick a.at a.to) (grows Any (LinkStep Enquiring) old a.at a.before) (grows_tick a.at a.to))
      (grows Any (LinkStep Enquiring) (tick a.at a.to) new a.behind) fair))

  -- what is kept stays so, whatever others do
  kept_on : (cache : Cache) (s t : Server) → IsWellFormed s.boxes → Batch s.boxes s t → IsFreshFor name cache s.boxes → IsFreshFor name cache t.boxes
  kept_on cache s t well batch f =
      box_evolves (FreshFacts cache) name cache.validity s.boxes t.boxes (batches_stay s t well batch).1
      (λ x y a b v goes facts. facts_later cache x y facts goes) f

  -- a cache whose UIDVALIDITY isn't below that of the mailbox has that one
  not_renewed : (cache : Cache) (box : Mailbox) (r : Replies) → told_codes r ≡ Ok (codes_of_box box) → renewed_to (Some cache) r ≡ None →
      cache.validity ≤ box.validity → cache.validity ≡ box.validity
  not_renewed cache box r told current low =
      not_above cache.validity box.validity
      (ap (λ (x : Result Codes CodeFault). above_codes cache.validity x) (sym told) ∙ current) low

  -- where a cache is kept
  with_cache : (cache : Cache) (selected : Option (List ℕ)) (tag : Tag) (r : Replies) (old new : Clock) → IsCalm old.now.outside →
      old.now.outside.waiting ≡ None → old.now.outside.talk.arriving ≡ None → IsFreshFor name cache old.now.outside.server.boxes →
      SelectedStays old new → renewed_to (Some cache) r ≡ None → r.ending ≡ endings.Ok →
      AnsweredAt selected tag (record { asked = select_of name (Some cache); replies = r }) old new → Comes (Some cache) r None old new
  with_cache cache selected tag r old new calm none no_part kept fair current ok a =
      let x : Exchange = record { asked = select_of name (Some cache); replies = r } in
      let then = held_freely (λ s. IsFreshFor name cache s.boxes) (kept_on cache) old a.at a.before (calm, kept) in
      let s = selects (Some cache) selected tag r old new ok a in
      let f : IsFreshFor name cache a.at.now.outside.server.boxes = then.1 in
      let same : f.box ≡ s.0 = same_Some f.box s.0 (sym f.there ∙ s.1) in
      let low : cache.validity ≤ s.0.validity = subst (λ (m : Mailbox). cache.validity ≤ m.validity) same f.not_below in
      let codes : told_codes r ≡ Ok (codes_of_box s.0) =
      codes_true (Some (mark_of cache)) s.0 r (selecting name (Some (mark_of cache)) s.0 r s.2) in
      let validity : cache.validity ≡ s.0.validity = not_renewed cache s.0 r codes current low in
      let facts : FreshFacts cache s.0 =
      subst (FreshFacts cache) same (f.facts (ap (λ (m : Mailbox). m.validity) same ∙ sym validity)) in
      let stays = answered_stays selected tag x old new a refl none no_part
      (select_after (mark_kept (Some cache)) selected tag r _ _ a.selects ok a.carried) fair in (
        (codes_of_box s.0, kept_judged name cache s.0 r s.2 validity facts),
        λ delta tells.
            mirrored (learned (Some cache) delta) old a.at new a.to s.0 then.0 a.before a.after a.behind
            (select_read (Some cache) selected tag r old new ok a) a.quiet stays s.1
            (kept_levels name cache s.0 r s.2 validity facts delta tells).mirrors,
      )

  -- where the mailbox is told to be empty, and the reply is read without a cache
  pub without_rows : (kept : Option Cache) (selected : Option (List ℕ)) (tag : Tag) (r : Replies) (old new : Clock) → IsCalm old.now.outside →
      old.now.outside.waiting ≡ None → old.now.outside.talk.arriving ≡ None → SelectedStays old new →
      is_told_empty r ≡ true → r.ending ≡ endings.Ok → AnsweredAt selected tag (record { asked = select_of name kept; replies = r }) old new →
      Comes None r None old new
  without_rows kept selected tag r old new calm none no_part fair empty ok a =
      let x : Exchange = record { asked = select_of name kept; replies = r } in
      let then = calm_now old a.at a.before calm in
      let stays = answered_stays selected tag x old new a refl none no_part (select_after (mark_kept kept) selected tag r _ _ a.selects ok a.carried) fair in
      let s = selects kept selected tag r old new ok a in (
        (codes_of_box s.0, empty_judged name (mark_kept kept) s.0 r s.2 empty),
        λ delta tells.
            mirrored (first delta) old a.at new a.to s.0 then a.before a.after a.behind
            (select_read kept selected tag r old new ok a) a.quiet stays s.1
            (empty_mirrors name (mark_kept kept) s.0 r s.2 empty delta tells).1,
      )

  -- the rows are fetched behind a SELECT that was answered so, of a mailbox that went on since
  module _ (since : Option Mark) (box : Mailbox) (r : Replies) (answers : AnswersSelect name since box r) (again : Tag) (all : Replies) (old new : Clock)
      (f : AnsweredAt (Some name) again (record { asked = commands.FetchAll; replies = all }) old new) (fine : all.ending ≡ endings.Ok)
      (calm : IsCalm old.now.outside) (none : old.now.outside.waiting ≡ None) (no_part : old.now.outside.talk.arriving ≡ None)
      (here : old.now.outside.talk.selected ≡ Some name) (named : f.selects ≡ Some name) (fair : SelectedStays old new)
      (went : IsPast name box.validity box.highest old.now.outside.server) where
    abbrev Fetch : Exchange
    Fetch = record { asked = commands.FetchAll; replies = all }

    until : ValidityStays name old f.at
    until =
        stays_selected name old f.at f.still
        (carried_now Any (λ m. m.outside.talk.selected ≡ Some name) SameSelected (λ m n any s before. s ∙ before) old here f.at f.still)
        (since_first Any LeavesSelected old f.at new (grows Any (LinkStep Enquiring) old f.at f.before) (grows Any (LinkStep Enquiring) f.at new f.after) fair)

    stays : ValidityStays name f.at new
    stays = answered_stays (Some name) again Fetch old new f refl none no_part named fair

    abbrev w : Waiting
    w = waiting_of (Some name) again commands.FetchAll

    g : (m : Mailbox) × (box_at name f.at.now.outside.server.boxes ≡ Some m)
    g = fetch_box name w f.at.now.outside.server f.to.outside.server all f.selects refl refl fine f.carried

    later : IsCalm f.at.now.outside × IsPast name box.validity box.highest f.at.now.outside.server
    later = held_now name (IsPast name box.validity box.highest) (past_on name box.validity box.highest) old f.at f.before until (calm, went)

    same : later.1.box ≡ g.0
    same = same_Some later.1.box g.0 (sym later.1.there ∙ g.1)

    validity : g.0.validity ≡ box.validity
    validity = ap (λ (m : Mailbox). m.validity) (sym same) ∙ later.1.same

    higher : box.highest ≤ g.0.highest
    higher = subst (λ (m : Mailbox). box.highest ≤ m.highest) same later.1.higher

    fetched : AnswersFetch name g.0 all
    fetched = record {
      waiting = w;
      command = refl;
      selected = refl;
      answers = record { server = f.at.now.outside.server; later = f.to.outside.server; after = f.selects; carried = f.carried; ok = fine; there = g.1 };
    }

    read : IsRead name f.at.now f.to
    read = record {
      asked = w;
      rows = inr (refl, refl);
      replies = all;
      accepted = fine;
      selects = f.selects;
      told = f.told;
      tells = f.tells;
    }

    pub rows_fine : Comes None r (Some all) old new
    rows_fine = (
      (codes_of_box box, first_judged name since box g.0 r all answers fetched),
      λ delta tells.
          mirrored (first delta) old f.at new f.to g.0 later.0 f.before f.after f.behind read f.quiet stays g.1
          (first_mirrors name since box g.0 r all answers fetched validity higher delta tells),
    )

  -- where none is kept, and the rows are fetched
  with_rows : (selected : Option (List ℕ)) (tag again : Tag) (r all : Replies) (old mid new : Clock) → IsCalm old.now.outside →
      old.now.outside.waiting ≡ None → old.now.outside.talk.arriving ≡ None →
      SelectedStays old new → r.ending ≡ endings.Ok → all.ending ≡ endings.Ok →
      AnsweredAt selected tag (record { asked = select_of name None; replies = r }) old mid →
      (f : AnsweredAt (Some name) again (record { asked = commands.FetchAll; replies = all }) mid new) → f.selects ≡ Some name →
      Comes None r (Some all) old new
  with_rows selected tag again r all old mid new calm none no_part fair ok fine a f kept =
      let x : Exchange = record { asked = select_of name None; replies = r } in
      let y : Exchange = record { asked = commands.FetchAll; replies = all } in
      let first_part : Linked Enquiring old mid = answered_through selected tag x old mid a in
      let second_part : Linked Enquiring mid new = answered_through (Some name) again y mid new f in
      let fair_first = since_first Any LeavesSelected old mid new (grows Any (LinkStep Enquiring) old mid first_part)
      (grows Any (LinkStep Enquiring) mid new second_part) fair in
      let fair_second = since_second Any LeavesSelected old mid new (grows Any (LinkStep Enquiring) old mid first_part)
      (grows Any (LinkStep Enquiring) mid new second_part) fair in
      let chosen : a.selects ≡ Some name = select_after (mark_kept None) selected tag r _ _ a.selects ok a.carried in
      let stays = answered_stays selected tag x old mid a refl none no_part chosen fair_first in
      let s = selects None selected tag r old mid ok a in
      let went = held_now name (IsPast name s.0.validity s.0.highest) (past_on name s.0.validity s.0.highest) a.at mid a.after stays
      (calm_now old a.at a.before calm, record { box = s.0; there = s.1; same = refl; higher = omega arith }) in
      let rows = rows_fine None s.0 r s.2 again all mid new f fine went.0 a.nothing a.no_part (a.chosen_then ∙ chosen) kept fair_second went.1 in
      (rows.0, λ delta tells. levelled_earlier (first delta) old mid new first_part a.nothing a.no_part (rows.1 delta tells))

  -- what was answered, up to the end
  pub ends_at : (selected : Option (List ℕ)) (tag : Tag) (x : Exchange) (old at new : Clock) → new ≡ at → IsAnsweredOk selected tag x old at →
      IsAnsweredOk selected tag x old new
  ends_at selected tag x old at new same a = subst (λ (k : Clock). IsAnsweredOk selected tag x old k) (sym same) a

  pub told_empty : (empty : Bool) → false ≡ not empty → empty ≡ true
  told_empty true is = refl
  told_empty false is = absurd cc

  by_exchanges : (kept : Option Cache) (r : Replies) (all : Option Replies) (selected : Option (List ℕ)) (count : ℕ) (old new : Clock) →
      IsCalm old.now.outside → old.now.outside.waiting ≡ None → old.now.outside.talk.arriving ≡ None → IsKeptFresh old.now.outside.server name kept →
      SelectedStays old new → renewed_to kept r ≡ None → is_some all ≡ fetches kept r →
      AnsweredAll (exchanged name kept (record { selected = r; all = all })) selected count old new → Comes kept r all old new
  by_exchanges (Some cache) r None selected count old new calm none no_part fresh fair current due a =
      let x : Exchange = record { asked = select_of name (Some cache); replies = r } in
      with_cache cache selected (next_tag count) r old new calm none no_part fresh fair current a.1.accepted
      (answered_at selected (next_tag count) x old new refl (ends_at selected (next_tag count) x old a.0 new a.2 a.1))
  by_exchanges (Some cache) r (Some all) selected count old new calm none no_part fresh fair current due a = absurd cc
  by_exchanges None r None selected count old new calm none no_part fresh fair current due a =
      let x : Exchange = record { asked = select_of name None; replies = r } in
      without_rows None selected (next_tag count) r old new calm none no_part fair (told_empty (is_told_empty r) due) a.1.accepted
      (answered_at selected (next_tag count) x old new refl (ends_at selected (next_tag count) x old a.0 new a.2 a.1))
  by_exchanges None r (Some all) selected count old new calm none no_part fresh fair current due a =
      let x : Exchange = record { asked = select_of name None; replies = r } in
      let y : Exchange = record { asked = commands.FetchAll; replies = all } in
      let first_at = answered_at selected (next_tag count) x old a.0 refl a.1 in
      let after : a.1.answered.after ≡ Some name =
      select_after None selected (next_tag count) r _ _ a.1.answered.after a.1.accepted a.1.answered.became.is.is in
      let fetched : IsAnsweredOk (Some name) (next_tag (count + 1)) y a.0 a.2.0 =
      subst (λ (s : Option (List ℕ)). IsAnsweredOk s (next_tag (count + 1)) y a.0 a.2.0) after a.2.1 in
      let at_end : IsAnsweredOk (Some name) (next_tag (count + 1)) y a.0 new = ends_at (Some name) (next_tag (count + 1)) y a.0 a.2.0 new a.2.2 fetched in
      let second_at = answered_at (Some name) (next_tag (count + 1)) y a.0 new refl at_end in
      with_rows selected (next_tag count) (next_tag (count + 1)) r all old a.0 new calm none no_part fair a.1.accepted at_end.accepted first_at
      second_at (second_at.keeps tt)

  -- what was asked, up to the end
  asked_through : (kept : Option Cache) (r : Replies) (all : Option Replies) (selected : Option (List ℕ)) (count : ℕ) (old new : Clock) →
      AnsweredAll (exchanged name kept (record { selected = r; all = all })) selected count old new → Linked Enquiring old new
  asked_through kept r None selected count old new a =
      let x : Exchange = record { asked = select_of name kept; replies = r } in
      answered_through selected (next_tag count) x old new
      (answered_at selected (next_tag count) x old new refl (ends_at selected (next_tag count) x old a.0 new a.2 a.1))
  asked_through kept r (Some all) selected count old new a =
      let x : Exchange = record { asked = select_of name kept; replies = r } in
      let y : Exchange = record { asked = commands.FetchAll; replies = all } in
      let s = a.1.answered.after in
      since_then Any (LinkStep Enquiring) old a.0 new
      (answered_through selected (next_tag count) x old a.0 (answered_at selected (next_tag count) x old a.0 refl a.1))
      (answered_through s (next_tag (count + 1)) y a.0 new
      (answered_at s (next_tag (count + 1)) y a.0 new refl (ends_at s (next_tag (count + 1)) y a.0 a.2.0 new a.2.2 a.2.1)))

-- so it is with what a resynchronisation tells
pub link_levels : LinkLevels
link_levels name kept delta selected count after permits old new calm none no_part fresh fair r =
    (by_exchanges name kept r.gathered.selected r.gathered.all selected count old new calm none no_part fresh fair r.current r.makes.fetched r.answered).1 delta
    r.makes.value

pub link_faultless : LinkFaultless
link_faultless name kept fault selected count after permits old new calm none no_part fresh fair r =
    memory_alone kept r.gathered.selected r.gathered.all fault
    (by_exchanges name kept r.gathered.selected r.gathered.all selected count old new calm none no_part fresh fair r.current r.makes.fetched r.answered).0
    r.makes.fault

-- Others renew no mailbox that is selected, as long as they are fair beside a book that a stop leaves.
module _ (b : Meaning) (old new : Clock) (has : HasBooks mail (Firm (Some b)) old.now) (linked : Linked Enquiring old new)
    (fair : AllFair mail played old new) where
  abbrev Fairly : Moment → Moment → Type 0
  Fairly m n = LinkStep Enquiring m n × IsFair mail played m n

  leaves_it : (m n : Moment) → HasBooks mail (Firm (Some b)) m × Fairly m n → LeavesSelected m n
  leaves_it m n s = record { same = λ batch. (fair_books mail played (Firm (Some b)) m n s.0 s.1.1 batch).1 }

  pub selected_stays : SelectedStays old new
  selected_stays =
      since_weaker (λ m. (Any m × Any m) × HasBooks mail (Firm (Some b)) m) Any (λ m n. HasBooks mail (Firm (Some b)) m × Fairly m n)
      LeavesSelected (λ m p. tt) leaves_it old new
      (since_carry (λ m. Any m × Any m) (HasBooks mail (Firm (Some b))) Fairly
      (λ m n any s has. books_there Enquiring m n s.0 mail (Firm (Some b)) has) old has new
      (since_both Any Any (LinkStep Enquiring) (IsFair mail played) old new linked fair))

-- Beside a book that is kept, where nothing waits.
module _ (b : Meaning) (old : Clock) (stands : StandsKept b old) where
  kept : KeptBook b old.now.outside.server old.now.outside.waiting
  kept = kept_here b old.now stands.kept stands.books

  pub calm : IsCalm old.now.outside
  calm = record { well = kept.well; no_change = subst NoChangeWaits (sym stands.none_waits) tt }

  fresh_of : (name : List ℕ) (cache : Option Cache) → cache_at name b.boxes ≡ cache → IsKeptFresh old.now.outside.server name cache
  fresh_of name None is = tt
  fresh_of name (Some cache) is = kept.fresh name cache is

  stays_fair : (name : List ℕ) (cache : Option Cache) (delta : Result Delta ResyncFault) (selected : Option (List ℕ)) (count after : ℕ)
      (permits : Option Permits) (new : Clock) → AllFair mail played old new → Resyncs selected count after name cache delta permits old new →
      SelectedStays old new
  stays_fair name cache delta selected count after permits new fair r =
      selected_stays b old new stands.books (asked_through name cache r.gathered.selected r.gathered.all selected count old new r.answered) fair

pub learns_level : ResyncsLevel
learns_level b name cache delta selected count after permits old new is stands fair r =
    link_levels name cache delta selected count after permits old new (calm b old stands) stands.none_waits stands.none_arrives
    (fresh_of b old stands name cache is) (stays_fair b old stands name cache (Ok delta) selected count after permits new fair r) r

pub learns_faultless : ResyncsFaultless
learns_faultless b name cache fault selected count after permits old new is stands fair r =
    link_faultless name cache fault selected count after permits old new (calm b old stands) stands.none_waits stands.none_arrives
    (fresh_of b old stands name cache is) (stays_fair b old stands name cache (Err fault) selected count after permits new fair r) r
