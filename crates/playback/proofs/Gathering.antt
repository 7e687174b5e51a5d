-- What a SELECT told is taken.
use Rattle.action_queue.specs.Book.{Meaning, cache_at, learned}
use Rattle.action_queue.specs.Queues.{due_action}
use Rattle.action_queue.specs.declared.action.Action.{Action}
use Rattle.action_queue.specs.declared.intent.Intent.{Intent}
use Rattle.action_queue.specs.declared.queued.Queued.{Queued}
use Rattle.append_probe.specs.Question.{question_part}
use Rattle.imap_model.proofs.Evolution.{box_same}
use Rattle.imap_model.specs.Carrying.{Waiting}
use Rattle.imap_model.specs.Changes.{floor_of}
use Rattle.imap_model.specs.Evolving.{FindsEvolved}
use Rattle.imap_model.specs.Lookups.{box_at}
use Rattle.imap_model.specs.Mutating.{is_mutating}
use Rattle.imap_model.specs.declared.command.Command.{Command}
use Rattle.imap_model.specs.declared.ending.Ending.{Ending}
use Rattle.imap_model.specs.declared.mark.Mark.{Mark}
use Rattle.imap_model.specs.declared.server.Mailbox.{Mailbox}
use Rattle.imap_model.specs.declared.server.Server.{Server}
use Rattle.mailbox_cache.specs.Cache.{applied, first}
use Rattle.mailbox_cache.specs.declared.cache.Cache.{Cache}
use Rattle.mailbox_cache.specs.declared.delta.Delta.{Delta}
use Rattle.book_laws.proofs.Deducing.{put_intends}
use Rattle.book_laws.proofs.Facts.{box_evolves, now_in, put_goes, squeezed}
use Rattle.playback.proofs.Moments.{grows_given, since_same}
use Rattle.playback.proofs.Onward.{knows_again, rest_now}
use Rattle.playback.proofs.Placed.{no_select}
use Rattle.playback.proofs.Purposes.{ChoosesBox, OfBox, Purpose, a_box, a_row, a_search, an_effect, purpose_of, the_ids}
use Rattle.playback.specs.Allowed.{IsGathered, is_due, reply_of}
use Rattle.playback.specs.Choosing.{IsChosen, chosen_box, chosen_due, chosen_for, chosen_in, wanted_by}
use Rattle.playback.specs.Course.{IsAmong, Said}
use Rattle.book_laws.specs.Fresh.{IsFreshFor}
use Rattle.book_laws.specs.InBox.{InBox}
use Rattle.book_laws.specs.Kept.{KeptBook}
use Rattle.playback.specs.Knows.{Came, HasCome, Holds, IsFetched, IsNeeded, IsQuiet, IsTold, IsUnsent, Knows, ReplyIsOwed, Rests}
use Rattle.playback.specs.Knows.{SelectsBox, with_rows}
use Rattle.playback.specs.Needs.{IsPlaced, IsPlain, need_of}
use Rattle.book_laws.specs.Open.{PutFacts}
use Rattle.playback.specs.Worlds.{Among, IsAt, LeadsTo, World, given, name_of, selected_after, selected_by, selected_on}
use Rattle.playback.specs.declared.finding.Finding.{Finding}
use Rattle.playback.specs.declared.player.Player.{Player}
use Rattle.playback.specs.declared.step.Step.{Step}
use Rattle.qresync_core.proofs.Leveling.{empty_mirrors, facts_later, first_mirrors, kept_levels}
use Rattle.qresync_core.proofs.Replying.{codes_true, fetch_box, select_box, selecting}
use Rattle.qresync_core.specs.Fresh.{FreshFacts, IsFresh}
use Rattle.qresync_core.specs.Laws.{AnswersFetch, AnswersSelect, Levels, Mirrors, codes_of_box}
use Rattle.qresync_core.specs.Marking.{mark_of}
use Rattle.qresync_core.specs.declared.fault.ResyncFault.{ResyncFault}
use Rattle.qresync_core.specs.declared.fault.ResyncFault.TheVariants as faults
use Rattle.imap_model.specs.declared.replies.Replies.{Replies}
use Rattle.qresync_core.specs.Resync.{TellsDelta, is_told_empty, kept_fault}
use Rattle.qresync_core.specs.ToldCodes.{told_codes}
use Rattle.qresync_core.specs.declared.codes.Codes.{Codes}
use Rattle.qresync_core.specs.declared.fault.CodeFault.{CodeFault}
use Rattle.std.proofs.Common.{Bool, List, [], None, Ok, Option, Result, Some, ap, false, inl, inr, refl, subst, sym, true, ℕ, ◌∙◌}
use Rattle.std.specs.Prelude.{◌==◌, nat_lt, if◌then◌else◌}
use Rattle.std.proofs.Common.{not, ◌∷◌, ◌≡◌, ◌≢◌, ◌≤◌}
use Rattle.std.proofs.lemmas.Bool.{cond_both, eqb-true, not-false}
use Rattle.std.proofs.lemmas.Option.{same_Some}
use Rattle.std.specs.Option.{is_some}
use Rattle.action_queue.specs.declared.action.Action.TheVariants as actions
use Rattle.imap_model.specs.declared.command.Command.TheVariants as commands
use Rattle.imap_model.specs.declared.ending.Ending.TheVariants as endings
use Rattle.playback.specs.declared.finding.Finding.TheVariants as findings

-- the command that is owed was answered
pub record IsAsked (c : Waiting) (p : Player) (b : Meaning) (w : World) : Type 0 where
  pub needed : IsNeeded (need_of p b) c p.selected b
  pub answered : ReplyIsOwed c p b w

pub came_asked : (c : Waiting) (p : Player) (b : Meaning) (w : World) (owed waiting : Option Waiting) → owed ≡ Some c → waiting ≡ None →
    Came owed waiting p b w → IsAsked c p b w
came_asked c p b w None None = λ o n k. absurd (cc)
came_asked c p b w None (Some x) = λ o n k. absurd (cc)
came_asked c p b w (Some y) (Some x) = λ o n k. absurd (cc)
came_asked c p b w (Some y) None = λ o n k.
    subst (λ (z : Waiting). IsAsked z p b w) (same_Some y c o) (record { needed = k.0; answered = k.1 })

-- of two commands of which one asks for all rows and the other doesn't
abbrev AsksAll : Option Said → Type 0
AsksAll rows = (e : Said) → rows ≡ Some e → e.command.command ≡ commands.FetchAll

apart : (x y : Said) → x ≡ y → x.command.command ≡ commands.FetchAll → y.command.command ≢ commands.FetchAll → ⊥
apart x y e all n = n (sym (ap (λ (s : Said). s.command.command) e) ∙ all)

pub record IsSameSaid (said other : Said) (rows others : Option Said) : Type 0 where
  pub one : said ≡ other
  pub rows_are : rows ≡ others

pub same_said : (rows others : Option Said) (said other : Said) (rest rests : List Said) → AsksAll rows → AsksAll others →
    said.command.command ≢ commands.FetchAll → other.command.command ≢ commands.FetchAll →
    with_rows rows (said ∷ rest) ≡ with_rows others (other ∷ rests) → IsSameSaid said other rows others
same_said None None said other rest rests f g m n = λ e. record { one = cc; rows_are = refl }
same_said None (Some x) said other rest rests f g m n = λ e. let is : x ≡ said = cc in absurd (apart x said is (g x refl) m)
same_said (Some x) None said other rest rests f g m n = λ e. let is : x ≡ other = cc in absurd (apart x other is (f x refl) n)
same_said (Some x) (Some y) said other rest rests f g m n = λ e.
    let is : x ≡ y = cc in record { one = cc; rows_are = ap (λ (s : Said). Some s) is }

-- the command of a SELECT is that of the step
pub chooses : (p : Player) (b : Meaning) (w : World) (c : Waiting) (name : List ℕ) → SelectsBox name b c → Purpose p b w c → ChoosesBox p b c
chooses p b w c name s (a_row x) =
    let h : commands.FetchRow x.uid ≡ commands.Select name s.since = sym x.command ∙ s.is in absurd (cc)
chooses p b w c name s (an_effect x) = let h : true ≡ false = sym x.mutating ∙ ap is_mutating s.is in absurd (cc)
chooses p b w c name s (a_box x) = x
chooses p b w c name s (a_search x) =
    let h : commands.Search x.uidnext (question_part x.append.id) ≡ commands.Select name s.since =
    sym x.command ∙ s.is in absurd (cc)
chooses p b w c name s (the_ids x) =
    let h : commands.FetchIds x.found.uids ≡ commands.Select name s.since = sym x.command ∙ s.is in absurd (cc)

with_said : (rows : Option Said) (said : Said) (rest l : List Said) → l ≡ with_rows rows (said ∷ rest) → IsAmong said l
with_said None said rest l e = subst (λ (x : List Said). IsAmong said x) (sym e) (inl refl)
with_said (Some rows) said rest l e = subst (λ (x : List Said). IsAmong said x) (sym e) (inr (inl refl))

kept_same : (cache : Cache) (codes : Codes) → kept_fault (Some cache) codes ≡ None → cache.validity ≡ codes.validity
kept_same cache codes =
    cond_both (not (cache.validity == codes.validity)) (Some (faults.Validity cache.validity codes.validity))
    (if nat_lt codes.highest cache.highest then Some (faults.Unfit cache.highest codes.highest) else None)
    (λ (o : Option ResyncFault). o ≡ None → cache.validity ≡ codes.validity) (λ t e. absurd (cc))
    (λ f e. eqb-true cache.validity codes.validity (not-false (cache.validity == codes.validity) f))

module _ (p : Player) (b : Meaning) (w : World) (kept : KeptBook b w.course.now w.waiting) (quiet : w.waiting ≡ None)
    (known : Knows p b w) (delta : Delta)
    (c : Waiting) (a : ReplyIsOwed c p b w) (name : List ℕ) (box : OfBox name b) (selects : SelectsBox name b c)
    (accepted : a.said.reply.ending ≡ endings.Ok) (all_accepted : (e : Said) → a.rows ≡ Some e → e.reply.ending ≡ endings.Ok)
    (fetched : is_some a.rows ≡ is_due (cache_at name b.boxes) a.said.reply)
    (tells : TellsDelta (cache_at name b.boxes) a.said.reply (reply_of a.rows) delta)
    (placed : p.resumed ≡ false → (intent : Intent) → b.pending ≡ Some intent → IsPlaced intent (chosen_box p b delta name)) where
  abbrev mark : Option Mark
  mark = selects.since

  abbrev s : Server
  s = a.said.before

  come : IsQuiet a.said p.told p.resumed b w
  come = subst (λ (x : Bool). HasCome x a.said p.told p.resumed b w) (ap is_mutating selects.is) a.come

  there_then : (m : Mailbox) × (box_at name s.boxes ≡ Some m)
  there_then = select_box name mark c s a.said.behind a.said.reply a.after selects.is accepted a.carries

  answers : (since : Option Mark) → mark ≡ since → (m : Mailbox) → box_at name s.boxes ≡ Some m → AnswersSelect name since m a.said.reply
  answers since e m there = record {
    waiting = c;
    command = selects.is ∙ ap (λ (x : Option Mark). commands.Select name x) e;
    answers = record { server = s; later = a.said.behind; after = a.after; carried = a.carries; ok = accepted; there = there };
  }

  selected_is : w.selected ≡ Some (record { name = name; validity = delta.validity })
  selected_is =
      a.selected ∙ ap (λ (x : Command). selected_after x a.said.reply p.selected) selects.is
      ∙ ap (λ (x : Ending). selected_on name a.said.reply x) accepted
      ∙ ap (λ (x : Result Codes CodeFault). selected_by name x) tells.told
      ∙ ap (λ (v : ℕ). Some (record { name = name; validity = v })) (sym tells.validity)

  -- the numbers that were told are the mailbox's
  codes_are : tells.codes ≡ codes_of_box there_then.0
  codes_are =
      let true_codes : told_codes a.said.reply ≡ Ok (codes_of_box there_then.0) =
      codes_true mark there_then.0 a.said.reply
      (selecting name mark there_then.0 a.said.reply (answers mark refl there_then.0 there_then.1)) in
      let told : told_codes a.said.reply ≡ Ok tells.codes = tells.told in cc

  -- the cache's UIDVALIDITY is the mailbox's, as its reply was taken
  same_old : (cache : Cache) (e : cache_at name b.boxes ≡ Some cache) (box : Mailbox) → box_at name s.boxes ≡ Some box → (all : Option Replies) →
      TellsDelta (Some cache) a.said.reply all delta → box.validity ≡ cache.validity
  same_old cache e box there all t =
      let true_codes : told_codes a.said.reply ≡ Ok (codes_of_box box) =
      codes_true mark box a.said.reply (selecting name mark box a.said.reply (answers mark refl box there)) in
      let told : told_codes a.said.reply ≡ Ok t.codes = t.told in
      let is : t.codes ≡ codes_of_box box = cc in
      sym (kept_same cache t.codes t.fits ∙ ap (λ (c : Codes). c.validity) is)

  -- a cache that was fresh at a moment is fresh now
  now_fresh : (cache : Cache) (t : Server) → Among t w → (m : Mailbox) → box_at name t.boxes ≡ Some m → IsFresh cache m →
      IsFreshFor name cache w.course.now.boxes
  now_fresh cache t among m there fresh =
      let since : LeadsTo t w.course.now = known.since t among in
      box_evolves (FreshFacts cache) name cache.validity t.boxes w.course.now.boxes since.evolves
      (λ x y f g v goes facts. facts_later cache x y facts goes)
      (now_in (record { box = m; there = there; same = sym fresh.validity; facts = fresh.facts }))

  -- the rows of all messages were fetched behind it
  fetched_fresh : (e : Said) → a.rows ≡ Some e → TellsDelta None a.said.reply (Some e.reply) delta →
      IsFreshFor name (first delta) w.course.now.boxes
  fetched_fresh e is t =
      let f : IsFetched a.said e w = a.fetched e is in
      let of : e.command.selected ≡ Some name = f.selected ∙ ap name_of selected_is in
      let ok : e.reply.ending ≡ endings.Ok = all_accepted e is in
      let later : (m : Mailbox) × (box_at name e.before.boxes ≡ Some m) =
      fetch_box name e.command e.before e.behind e.reply f.after f.asks of ok f.carries in
      let all : AnswersFetch name later.0 e.reply = record {
        waiting = e.command;
        command = f.asks;
        selected = of;
        answers = record { server = e.before; later = e.behind; after = f.after; carried = f.carries; ok = ok; there = later.1 };
      } in
      let at : IsAt (record { name = name; validity = delta.validity }) w.course.now =
      known.valid (record { name = name; validity = delta.validity }) selected_is in
      let valid : later.0.validity ≡ there_then.0.validity =
      squeezed name f.evolves (known.since e.before f.among).evolves there_then.0 later.0 at.box there_then.1 later.1 at.there
      (at.same ∙ tells.validity ∙ ap (λ (c : Codes). c.validity) codes_are) in
      let found : FindsEvolved (floor_of s.boxes name) name there_then.0 e.before.boxes = f.evolves.each name there_then.0 there_then.1 in
      let found_is : found.box ≡ later.0 = same_Some found.box later.0 (sym found.there ∙ later.1) in
      let higher : there_then.0.highest ≤ later.0.highest =
      subst (λ (m : Mailbox). there_then.0.highest ≤ m.highest) found_is
      (found.evolves.goes_on (ap (λ (m : Mailbox). m.validity) found_is ∙ valid)).highest in
      let mirrors : Mirrors (first delta) later.0 =
      first_mirrors name mark there_then.0 later.0 a.said.reply e.reply
      (answers mark refl there_then.0 there_then.1) all valid higher delta t in
      now_fresh (first delta) e.before f.among later.0 later.1 mirrors.fresh

  -- by what was kept, and by whether the rows were fetched
  fresh_by : (cache : Option Cache) → cache_at name b.boxes ≡ cache → (rows : Option Said) → a.rows ≡ rows →
      is_some rows ≡ is_due cache a.said.reply →
      TellsDelta cache a.said.reply (reply_of rows) delta → IsFreshFor name (learned cache delta) w.course.now.boxes
  fresh_by (Some cache) e None r f t =
      let old : IsFreshFor name cache s.boxes = a.fresh name cache e in
      let facts : FreshFacts cache old.box = old.facts (same_old cache e old.box old.there (reply_of None) t) in
      let levels : Levels cache delta old.box =
      kept_levels name cache old.box a.said.reply
      (answers (Some (mark_of cache)) (selects.knows cache e) old.box old.there)
      (sym (same_old cache e old.box old.there (reply_of None) t)) facts delta t in
      now_fresh (applied cache delta) s a.among old.box old.there levels.mirrors.fresh
  fresh_by (Some cache) e (Some x) r f t = absurd (cc)
  fresh_by None e None r f t =
      now_fresh (first delta) s a.among there_then.0 there_then.1
      (empty_mirrors name mark there_then.0 a.said.reply (answers mark refl there_then.0 there_then.1)
      (not-false (is_told_empty a.said.reply) (sym f)) delta t).1.fresh
  fresh_by None e (Some x) r f t = fetched_fresh x r t

  -- an append: the UIDNEXT that was told serves its intent
  module _ (q : Queued) (e : due_action b.queue ≡ Some q) (to : List ℕ) (flags : List (List ℕ)) (text id : List ℕ)
      (action : q.action ≡ actions.Append to flags text id) where
    abbrev Puts : Mailbox → Type 0
    Puts = PutFacts id delta.uidnext delta.validity []

    name_is : name ≡ to
    name_is = box.of_append q to flags text id e action

    put_then : InBox Puts name delta.validity s.boxes
    put_then = now_in (record {
      box = there_then.0;
      there = there_then.1;
      same = sym (tells.validity ∙ ap (λ (x : Codes). x.validity) codes_are);
      facts = subst (λ (k : ℕ). PutFacts id k delta.validity [] there_then.0)
          (sym (tells.uidnext ∙ ap (λ (x : Codes). x.uidnext) codes_are))
          (put_intends id delta.validity there_then.0 there_then.0 ((known.since s a.among).well.each name there_then.0 there_then.1)
          ((box_same there_then.0.highest there_then.0).goes_on refl) refl);
    })

    put_now : InBox Puts to delta.validity w.course.now.boxes
    put_now =
        box_evolves Puts to delta.validity s.boxes w.course.now.boxes come.stays.evolves
        (λ x y f g v goes facts. put_goes id delta.uidnext delta.validity [] x y goes
        (come.stays.spares q to flags text id x y e action f g v) facts)
        (subst (λ (n : List ℕ). InBox Puts n delta.validity s.boxes) name_is put_then)

    next_holds : Holds (findings.Next delta.validity delta.uidnext) b w.course.now
    next_holds = record { queued = q; there = e; to = to; flags = flags; text = text; id = id; action = action; holds = put_now }

    next_told : IsTold (findings.Next delta.validity delta.uidnext) b w.course
    next_told = record {
      queued = q;
      there = e;
      to = to;
      flags = flags;
      text = text;
      id = id;
      action = action;
      holds = (
        a.said,
        with_said a.rows a.said a.rest w.course.said a.last,
        (
          (mark, ap (λ (x : Waiting). x.command) a.command ∙ selects.is ∙ ap (λ (n : List ℕ). commands.Select n mark) name_is),
          (tells.codes, tells.told, sym tells.validity, sym tells.uidnext),
        ),
      );
    }

  -- what the player keeps
  abbrev taken : Player
  taken = chosen_box p b delta name

  unsent_of : (told : Finding) → Holds told b w.course.now → IsUnsent told p.resumed b (given w)
  unsent_of told holds = record { same = come.unsent.same; none = come.unsent.none; holds = holds }

  taken_with : (told : Finding) → chosen_due (due_action b.queue) delta ≡ told → IsPlain told → IsTold told b w.course →
      Rests told p.resumed b (given w) →
      Knows taken b (given w)
  taken_with told is plain i rests =
      knows_again p taken b w (given w) refl (grows_given w) known.course
      (since_same w.course.now kept.well) kept.well kept.open_intent known.valid
      (subst (λ (t : Finding). IsTold t b w.course) (sym is) i) placed
      (record {
        selected = refl;
        plain = subst (λ (t : Finding). IsPlain t) (sym is) plain;
        fresh = fresh_by (cache_at name b.boxes) refl a.rows refl fetched tells;
      })
      (rest_now taken b (given w) w.waiting quiet (record {
        selected = selected_is;
        rests = subst (λ (t : Finding). Rests t p.resumed b (given w)) (sym is) rests;
      })) known

  taken_for : (q : Queued) → due_action b.queue ≡ Some q → (action : Action) → q.action ≡ action →
      chosen_due (due_action b.queue) delta ≡ chosen_for action delta →
      Knows taken b (given w)
  taken_for q e (actions.Flag target add flags) h is = taken_with findings.Nothing is tt tt (unsent_of findings.Nothing tt)
  taken_for q e (actions.Move target to) h is = taken_with findings.Nothing is tt tt (unsent_of findings.Nothing tt)
  taken_for q e (actions.Append to flags text id) h is =
      taken_with (findings.Next delta.validity delta.uidnext) is tt (next_told q e to flags text id h)
      (unsent_of (findings.Next delta.validity delta.uidnext) (next_holds q e to flags text id h))

  taken_due : (o : Option Queued) → due_action b.queue ≡ o → Knows taken b (given w)
  taken_due None e = taken_with findings.Nothing (ap (λ (o : Option Queued). chosen_due o delta) e) tt tt (unsent_of findings.Nothing tt)
  taken_due (Some q) e = taken_for q e q.action refl (ap (λ (o : Option Queued). chosen_due o delta) e)

  pub taken_knows : Knows taken b (given w)
  taken_knows = taken_due (due_action b.queue) refl

pub select_no_all : (c : Waiting) (name : List ℕ) (b : Meaning) → SelectsBox name b c → c.command ≢ commands.FetchAll
select_no_all c name b s e =
    let h : commands.Select name s.since ≡ commands.FetchAll = sym s.is ∙ e in absurd (cc)

pub no_all : (x : Said) (c : Waiting) → x.command ≡ c → c.command ≢ commands.FetchAll → x.command.command ≢ commands.FetchAll
no_all x c is n e = n (sym (ap (λ (y : Waiting). y.command) is) ∙ e)

pub chosen_knows : (p r : Player) (b : Meaning) (w : World) (delta : Delta) → KeptBook b w.course.now w.waiting → IsGathered delta b w →
    IsChosen p b (Ok delta) r → Knows p b w → Knows r b (given w)
chosen_knows p r b w delta kept g chosen_is known =
    let i : IsAsked g.command p b w = came_asked g.command p b w w.owed w.waiting g.owed g.answered known.came in
    let a : ReplyIsOwed g.command p b w = i.answered in
    let x : ChoosesBox p b g.command = chooses p b w g.command g.name g.selects (purpose_of p b w g.command kept.sound known i.needed) in
    let never : g.command.command ≢ commands.FetchAll = select_no_all g.command g.name b g.selects in
    let same : IsSameSaid a.said g.selected a.rows g.rows =
    same_said a.rows g.rows a.said g.selected a.rest g.rest (λ e h. (a.fetched e h).asks) g.all_asks
    (no_all a.said g.command a.command never)
    (no_all g.selected g.command g.asks never) (sym a.last ∙ g.last) in
    let names : commands.Select g.name g.selects.since ≡ commands.Select x.name x.selects.since = sym g.selects.is ∙ x.selects.is in
    let name_is : g.name ≡ x.name = cc in
    let fetched : is_some a.rows ≡ is_due (cache_at x.name b.boxes) a.said.reply =
    ap (λ (o : Option Said). is_some o) same.rows_are ∙ g.fetched
    ∙ ap (λ (n : List ℕ). is_due (cache_at n b.boxes) g.selected.reply) name_is
    ∙ ap (λ (y : Said). is_due (cache_at x.name b.boxes) y.reply) (sym same.one) in
    let tells : TellsDelta (cache_at x.name b.boxes) a.said.reply (reply_of a.rows) delta =
    subst (λ (o : Option Said). TellsDelta (cache_at x.name b.boxes) a.said.reply (reply_of o) delta) (sym same.rows_are)
    (subst (λ (y : Said). TellsDelta (cache_at x.name b.boxes) y.reply (reply_of g.rows) delta) (sym same.one)
    (subst (λ (n : List ℕ). TellsDelta (cache_at n b.boxes) g.selected.reply (reply_of g.rows) delta) name_is g.tells)) in
    subst (λ (y : Player). Knows y b (given w)) (sym (chosen_is.1 ∙ ap (λ (t : Step). chosen_in p b delta (wanted_by t)) x.step))
    (taken_knows p b w kept g.answered known delta g.command a x.name x.box x.selects
    (ap (λ (y : Said). y.reply.ending) same.one ∙ g.accepted)
    (λ e h. g.all_accepted e (sym same.rows_are ∙ h)) fetched tells
    (λ r intent e. absurd (no_select p b kept.sound r intent e (known.placed r intent e) p.learns x.name x.under x.step)))
