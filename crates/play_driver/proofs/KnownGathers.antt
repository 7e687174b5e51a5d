-- What the player knows where a mailbox is resynchronised that it needs.
use Rattle.action_queue.specs.Book.{Meaning, cache_at}
use Rattle.imap_model.specs.CarriedOut.{CarriesOut, Decides, Selects}
use Rattle.imap_model.specs.Carrying.{Waiting}
use Rattle.imap_model.specs.Lookups.{box_at}
use Rattle.imap_model.specs.declared.ending.Ending.{Ending}
use Rattle.imap_model.specs.declared.mark.Mark.{Mark}
use Rattle.imap_model.specs.declared.replies.Replies.{Replies}
use Rattle.imap_model.specs.declared.server.Mailbox.{Mailbox}
use Rattle.imap_model.specs.declared.server.Server.{Server}
use Rattle.imap_session.specs.Dialogue.{next_tag}
use Rattle.imap_session.specs.Permanent.{permitted}
use Rattle.imap_session.specs.Session.{waiting_of}
use Rattle.imap_session.specs.declared.permits.Permits.{Permits}
use Rattle.mail_base.specs.declared.tag.Tag.{Tag}
use Rattle.mailbox_cache.specs.declared.cache.Cache.{Cache}
use Rattle.mailbox_cache.specs.declared.delta.Delta.{Delta}
use Rattle.play_driver.proofs.KnownAnswer.{AnsweredFollows, follows_answered, follows_first, tells_then}
use Rattle.play_driver.proofs.KnownAsks.{says_carried}
use Rattle.play_driver.proofs.KnownBeside.{world_of}
use Rattle.play_driver.proofs.KnownPermits.{permitted_on, told_permits}
use Rattle.play_driver.proofs.KnownWalk.{grows_tick}
use Rattle.play_driver.proofs.Parts.{grows, grows_then, since_first, since_second}
use Rattle.play_driver.specs.Exchanges.{AnsweredAll, Exchange, IsAnsweredOk}
use Rattle.play_driver.specs.Holds.{IsHeldReply}
use Rattle.play_driver.specs.Joining.{AllFair, Grows, IsFair}
use Rattle.play_driver.specs.KnownAt.{GatheredAt, IsPermitted, KnownAt, StandsKept}
use Rattle.play_driver.specs.Played.{played}
use Rattle.play_driver.specs.Resynchronising.{Resyncs, exchanged, fetches, mark_kept, select_of}
use Rattle.play_driver.specs.declared.session.Held.{Held}
use Rattle.playback.proofs.Onward.{asks_know, carried_knows}
use Rattle.playback.specs.Allowed.{is_due}
use Rattle.playback.specs.Course.{Course, Said}
use Rattle.book_laws.specs.Kept.{KeptBook}
use Rattle.playback.specs.Knows.{IsNeeded, Knows, MayAskRows, SelectsBox}
use Rattle.playback.specs.Needs.{need_of}
use Rattle.playback.specs.Worlds.{World, answered_course, asks_rows, name_of, selected_after, selected_by, selected_on}
use Rattle.playback.specs.declared.finding.Selected.{Selected}
use Rattle.playback.specs.declared.need.Need.{Need}
use Rattle.playback.specs.declared.player.Player.{Player}
use Rattle.qresync_core.proofs.Replying.{codes_true, select_box, selecting}
use Rattle.qresync_core.specs.Laws.{codes_of_box}
use Rattle.qresync_core.specs.Resync.{TellsDelta}
use Rattle.qresync_core.specs.ToldCodes.{told_codes}
use Rattle.qresync_core.specs.declared.codes.Codes.{Codes}
use Rattle.qresync_core.specs.declared.fault.CodeFault.{CodeFault}
use Rattle.std.proofs.Common.{List, None, Ok, Option, Result, Some, ap, false, inl, refl, subst, sym, true, ℕ, ◌+◌, ◌∙◌, ◌∷◌, ◌≡◌}
use Rattle.std.proofs.lemmas.Option.{none-some, same_Some}
use Rattle.std.specs.Option.{is_some}
use Rattle.store_core.specs.Mail.{mail}
use Rattle.world_traits.specs.Asking.{Asking}
use Rattle.world_traits.specs.Links.{Any, LinkStep}
use Rattle.world_traits.specs.Moments.{Clock, Moment, tick}
use Rattle.imap_model.specs.declared.command.Command.TheVariants as commands
use Rattle.imap_model.specs.declared.ending.Ending.TheVariants as endings
use Rattle.playback.specs.declared.need.Need.TheVariants as needs

-- the rows are fetched where they are due
due_same : (kept : Option Cache) (selected : Replies) → fetches kept selected ≡ is_due kept selected
due_same None selected = refl
due_same (Some cache) selected = refl

-- what is selected behind a SELECT has its name
module _ (name : List ℕ) (since : Option Mark) (selected : Option (List ℕ)) (tag : Tag) (s t : Server) (r : Replies)
    (after : Option (List ℕ))
    (ok : r.ending ≡ endings.Ok) (out : CarriesOut (waiting_of selected tag (commands.Select name since)) s r t after) where
  abbrev W : Waiting
  W = waiting_of selected tag (commands.Select name since)

  is_after : after ≡ Some name
  is_after =
      let done : Selects name since W s r t after = subst (λ (e : Ending). Decides e W.command W s r t after) ok out in
      done.selection

  pub selected_named : name_of (selected_on name r r.ending) ≡ after
  selected_named =
      let there : (box : Mailbox) × (box_at name s.boxes ≡ Some box) = select_box name since W s t r after refl ok out in
      let codes : told_codes r ≡ Ok (codes_of_box there.0) =
      codes_true since there.0 r (selecting name since there.0 r (record {
        waiting = W;
        command = refl;
        answers = record { server = s; later = t; after = after; carried = out; ok = ok; there = there.1 };
      })) in
      ap (λ (e : Ending). name_of (selected_on name r e)) ok
      ∙ ap (λ (told : Result Codes CodeFault). name_of (selected_by name told)) codes
      ∙ sym is_after

-- behind it the rows are asked for, and that is carried out
pub rows_carried : (p : Player) (b : Meaning) (c : Waiting) (r : Replies) (selected : Option Selected) (owed : Waiting) (course : Course)
    (t : Server)
    (after : Option (List ℕ)) → MayAskRows c p b (world_of course selected (Some owed)) → CarriesOut c course.now r t after →
    KeptBook b course.now (Some c) → KeptBook b t None → Knows p b (world_of course selected (Some owed)) →
    Knows p b (world_of (answered_course c r t course) (selected_after c.command r selected) (Some owed))
rows_carried p b c r selected owed course t after may out waits later k =
    let v : World = world_of course selected (Some owed) in
    carried_knows p b (asks_rows c v) c r t after refl out waits later (asks_know p b v c may k)

-- time goes on while a question is answered
answered_grows : (selected : Option (List ℕ)) (tag : Tag) (x : Exchange) (old new : Clock) → IsAnsweredOk selected tag x old new →
    Grows old new
answered_grows selected tag x old new a =
    let step : Moment → Moment → Type 0 = LinkStep (Asking old.now.outside.talk.told tag x.asked) in
    let became = a.answered.became in
    grows_then old became.at new (grows Any step old became.at became.before)
    (grows_then became.at (tick became.at became.to) new (grows_tick became.at became.to)
    (grows Any step (tick became.at became.to) new became.after))

module _ (p : Player) (b : Meaning) (name : List ℕ) (permits told : Option Permits) (made old : Clock) (stands : StandsKept b old)
    (known : KnownAt made old permits None p b)
    (needed : need_of p b ≡ needs.Select name) (count : ℕ) (r : Replies) where
  abbrev Cached : Option Cache
  Cached = cache_at name b.boxes

  abbrev Before : Option (List ℕ)
  Before = old.now.outside.talk.selected

  abbrev Select : Waiting
  Select = waiting_of Before (next_tag count) (select_of name Cached)

  abbrev First : Exchange
  First = record { asked = select_of name Cached; replies = r }

  abbrev Selection : Option Selected
  Selection = selected_on name r r.ending

  abbrev Rest : List Said
  Rest = known.world.course.said

  selects_box : SelectsBox name b Select
  selects_box = record { since = mark_kept Cached; is = refl; knows = λ cache e. ap mark_kept e }

  select_needed : IsNeeded (need_of p b) Select p.selected b
  select_needed = subst (λ (need : Need). IsNeeded need Select p.selected b) (sym needed) selects_box

  module _ (mid : Clock) (a : IsAnsweredOk Before (next_tag count) First old mid) (fair : AllFair mail played old mid) where
    selects : name_of Selection ≡ a.answered.after
    selects =
        let became = a.answered.became in
        selected_named name (mark_kept Cached) Before
        (next_tag count) became.at.now.outside.server became.to.outside.server r a.answered.after
        a.accepted became.is.is

    there : AnsweredFollows Select r p b made Selection (Some Select) Rest mid
    there =
        follows_answered p b made old mid Select r known.world.selected None Rest a.connection a.feed a.answered fair stands.none_waits
        (inl refl)
        (follows_first p b permits made old stands known) (sym known.tells.selects) selects (Some Select)
        (λ course t after is_said out kept waits later k.
        says_carried p b Select r known.world.selected course t after select_needed out kept waits later k)

    accepted : there.said.reply.ending ≡ endings.Ok
    accepted = ap (λ (x : Replies). x.ending) there.reply ∙ a.accepted

    -- the SELECT told these flags
    after_named : a.answered.after ≡ Some name
    after_named =
        let became = a.answered.became in
        is_after name (mark_kept Cached) Before (next_tag count) became.at.now.outside.server became.to.outside.server r a.answered.after
        a.accepted became.is.is

    permitted_then : told ≡ permitted None r → IsPermitted told (world_of there.follows.course Selection (Some Select))
    permitted_then is =
        told_permits told name (mark_kept Cached) (world_of there.follows.course Selection (Some Select)) there.said Rest there.follows.is_said
        (ap (λ (x : Waiting). x.command) there.command) (is ∙ ap (permitted None) (sym there.reply)) (selects ∙ after_named)

    -- where the reply is held
    pub known_holds : (h : Held) → told ≡ permitted None r → IsHeldReply h r → KnownAt made mid told (Some h) p b
    known_holds h is here = record {
      world = world_of there.follows.course Selection (Some Select);
      tells = tells_then p b made mid Selection (Some Select)
          (there.said ∷ Rest) a.answered.after a.connection a.feed a.answered.stands selects
          there.follows;
      permitted = permitted_then is;
      owed = record {
        select = Select;
        owed = refl;
        none_waits = refl;
        said = there.said;
        rest = Rest;
        last = there.follows.is_said;
        answers = there.command;
        is = subst (IsHeldReply h) (sym there.reply) here;
      };
      knows = there.follows.knows;
    }

    -- where no rows were due
    pub known_selected : (delta : Delta) → told ≡ permitted None r → false ≡ fetches Cached r → TellsDelta Cached r None delta → GatheredAt delta made mid told p b
    known_selected delta is due tells = record {
      world = world_of there.follows.course Selection (Some Select);
      tells = tells_then p b made mid Selection (Some Select)
          (there.said ∷ Rest) a.answered.after a.connection a.feed a.answered.stands selects
          there.follows;
      permitted = permitted_then is;
      gathered = record {
        selected = there.said;
        rows = None;
        rest = Rest;
        last = there.follows.is_said;
        command = Select;
        owed = refl;
        answered = refl;
        asks = there.command;
        name = name;
        selects = selects_box;
        accepted = accepted;
        all_asks = λ e is. absurd (none-some e is);
        all_accepted = λ e is. absurd (none-some e is);
        fetched = due ∙ due_same Cached r ∙ ap (λ (x : Replies). is_due Cached x) (sym there.reply);
        tells = subst (λ (x : Replies). TellsDelta Cached x None delta) (sym there.reply) tells;
      };
      kept = there.follows.kept;
      knows = there.follows.knows;
    }

    -- where they were
    module _ (all : Replies) (new : Clock) where
      abbrev Fetch : Waiting
      Fetch = waiting_of a.answered.after (next_tag (count + 1)) commands.FetchAll

      abbrev Second : Exchange
      Second = record { asked = commands.FetchAll; replies = all }

      module _ (f : IsAnsweredOk a.answered.after (next_tag (count + 1)) Second mid new) (later_fair : AllFair mail played mid new) where
        may_rows : (course : Course) → course.said ≡ there.said ∷ Rest → MayAskRows Fetch p b (world_of course Selection (Some Select))
        may_rows course is_said = record {
          select = Select;
          owed = refl;
          none_waits = refl;
          name = name;
          selects = selects_box;
          said = there.said;
          rest = Rest;
          last = is_said;
          answers = there.command;
          asks = refl;
          selected = sym selects;
        }

        then : AnsweredFollows Fetch all p b made Selection (Some Select) (there.said ∷ Rest) new
        then =
            follows_answered p b made mid new Fetch all Selection (Some Select)
            (there.said ∷ Rest) f.connection f.feed f.answered later_fair
            a.answered.stands.nothing (inl refl) there.follows (sym selects) (selects ∙ sym (f.answered.keeps tt)) (Some Select)
            (λ course t after is_said out kept waits later k.
            rows_carried p b Fetch all Selection Select course t after (may_rows course is_said) out waits later k)

        pub known_fetched : (delta : Delta) → told ≡ permitted None r → true ≡ fetches Cached r → TellsDelta Cached r (Some all) delta →
            GatheredAt delta made new told p b
        known_fetched delta is due tells = record {
          world = world_of then.follows.course Selection (Some Select);
          tells = tells_then p b made new Selection (Some Select)
              (then.said ∷ there.said ∷ Rest) f.answered.after f.connection f.feed f.answered.stands
              (selects ∙ sym (f.answered.keeps tt)) then.follows;
          permitted = permitted_on told (world_of there.follows.course Selection (Some Select))
              (world_of then.follows.course Selection (Some Select)) refl then.said
              (then.follows.is_said ∙ ap (λ (l : List Said). then.said ∷ l) (sym there.follows.is_said)) (permitted_then is);
          gathered = record {
            selected = there.said;
            rows = Some then.said;
            rest = Rest;
            last = then.follows.is_said;
            command = Select;
            owed = refl;
            answered = refl;
            asks = there.command;
            name = name;
            selects = selects_box;
            accepted = accepted;
            all_asks = λ e is.
                ap (λ (x : Said). x.command.command) (sym (same_Some then.said e is)) ∙ ap (λ (x : Waiting). x.command) then.command;
            all_accepted = λ e is.
                ap (λ (x : Said). x.reply.ending) (sym (same_Some then.said e is)) ∙ ap (λ (x : Replies). x.ending) then.reply ∙ f.accepted;
            fetched = due ∙ due_same Cached r ∙ ap (λ (x : Replies). is_due Cached x) (sym there.reply);
            tells = subst (λ (x : Replies). TellsDelta Cached x (Some then.said.reply) delta) (sym there.reply)
                (subst (λ (x : Replies). TellsDelta Cached r (Some x) delta) (sym then.reply) tells);
          };
          kept = then.follows.kept;
          knows = then.follows.knows;
        }

-- so it is behind both
module _ (p : Player) (b : Meaning) (name : List ℕ) (delta : Delta) (permits told : Option Permits) (made old new : Clock)
    (stands : StandsKept b old) (known : KnownAt made old permits None p b)
    (needed : need_of p b ≡ needs.Select name) (fair : AllFair mail played old new) (count : ℕ) where
  abbrev Kept : Option Cache
  Kept = cache_at name b.boxes

  abbrev Front : Option (List ℕ)
  Front = old.now.outside.talk.selected

  by_exchanges : (r : Replies) (all : Option Replies) → told ≡ permitted None r → is_some all ≡ fetches Kept r → TellsDelta Kept r all delta →
      AnsweredAll (exchanged name Kept (record { selected = r; all = all })) Front count old new → GatheredAt delta made new told p b
  by_exchanges r None is due tells a =
      let x : Exchange = record { asked = select_of name Kept; replies = r } in
      known_selected p b name permits told made old stands known needed count r new
      (subst (λ (k : Clock). IsAnsweredOk Front (next_tag count) x old k) (sym a.2) a.1) fair delta is due tells
  by_exchanges r (Some all) is due tells a =
      let x : Exchange = record { asked = select_of name Kept; replies = r } in
      let y : Exchange = record { asked = commands.FetchAll; replies = all } in
      let mid : Clock = a.0 in
      let f : IsAnsweredOk a.1.answered.after (next_tag (count + 1)) y mid new =
      subst (λ (k : Clock). IsAnsweredOk a.1.answered.after (next_tag (count + 1)) y mid k) (sym a.2.2) a.2.1 in
      let first : Grows old mid = answered_grows Front (next_tag count) x old mid a.1 in
      let second : Grows mid new = answered_grows a.1.answered.after (next_tag (count + 1)) y mid new f in
      known_fetched p b name permits told made old stands known needed count r mid a.1
      (since_first Any (IsFair mail played) old mid new first second fair) all new f
      (since_second Any (IsFair mail played) old mid new first second fair) delta is due tells

  pub known_gathered : (after : ℕ) → Resyncs Front count after name Kept (Ok delta) told old new → GatheredAt delta made new told p b
  known_gathered after r = by_exchanges r.gathered.selected r.gathered.all r.permitted r.makes.fetched r.makes.value r.answered
