-- What comes of the reply to a SELECT that is held: its rows have no fault, and they make a cache that is the server's.
use Rattle.action_queue.specs.Book.{Meaning, learned}
use Rattle.imap_model.specs.Carrying.{Waiting}
use Rattle.imap_model.specs.CarriedOut.{CarriesOut}
use Rattle.imap_model.specs.Evolving.{FindsEvolved}
use Rattle.imap_model.specs.Changes.{floor_of}
use Rattle.imap_model.specs.Lookups.{box_at}
use Rattle.imap_model.specs.declared.command.Command.{Command}
use Rattle.imap_model.specs.declared.ending.Ending.{Ending}
use Rattle.imap_model.specs.declared.mark.Mark.{Mark}
use Rattle.imap_model.specs.declared.replies.Replies.{Replies}
use Rattle.imap_model.specs.declared.server.Mailbox.{Mailbox}
use Rattle.imap_model.specs.declared.server.Server.{Server}
use Rattle.imap_session.specs.Dialogue.{next_tag}
use Rattle.imap_session.specs.declared.permits.Permits.{Permits}
use Rattle.mailbox_cache.specs.declared.delta.Delta.{Delta}
use Rattle.play_driver.proofs.Answering.{AnsweredAt, answered_at, answered_through}
use Rattle.play_driver.proofs.KnownHeld.{asked, owes, selects_box, told}
use Rattle.play_driver.proofs.Learned.{Comes, IsPast, calm, ends_at, rows_fine, selected_stays, told_empty}
use Rattle.play_driver.specs.Exchanges.{AnsweredAll, Exchange, IsAnsweredOk}
use Rattle.play_driver.specs.Holds.{IsHeldFor, IsHeldReply, OwesHeld}
use Rattle.play_driver.specs.Joining.{AllFair}
use Rattle.play_driver.specs.KnownAt.{KnownAt, StandsKept}
use Rattle.play_driver.specs.Played.{played}
use Rattle.play_driver.specs.Resynchronising.{MakesDelta, RowsFetched, then_all}
use Rattle.play_driver.specs.Settled.{IsReadHeld}
use Rattle.play_driver.specs.Synced.{IsLastRead}
use Rattle.play_driver.specs.declared.session.Held.{Held}
use Rattle.playback.proofs.Gathering.{IsSameSaid, no_all, same_said, select_no_all}
use Rattle.playback.specs.Course.{IsAmong, Said}
use Rattle.playback.specs.Worlds.{IsUnder, name_of, selected_after, selected_by, selected_on}
use Rattle.playback.specs.declared.player.Player.{Player}
use Rattle.qresync_core.proofs.Judging.{memory_alone}
use Rattle.qresync_core.proofs.Leveling.{empty_judged}
use Rattle.qresync_core.proofs.Replying.{codes_true, select_box, selecting}
use Rattle.qresync_core.specs.Laws.{AnswersSelect, Faultless, codes_of_box}
use Rattle.qresync_core.specs.Resync.{is_told_empty}
use Rattle.qresync_core.specs.ToldCodes.{told_codes}
use Rattle.qresync_core.specs.declared.codes.Codes.{Codes}
use Rattle.qresync_core.specs.declared.fault.CodeFault.{CodeFault}
use Rattle.qresync_core.specs.declared.fault.ResyncFault.{ResyncFault}
use Rattle.std.proofs.Common.{Err, List, None, Ok, Option, Result, Some, ap, inl, inr, refl, subst, sym, true, ℕ, ◌∙◌, ◌≡◌, ◌⊎◌}
use Rattle.std.proofs.lemmas.Option.{none-some, same_Some}
use Rattle.store_core.specs.Mail.{mail}
use Rattle.world_traits.specs.Moments.{Clock}
use Rattle.imap_model.specs.declared.command.Command.TheVariants as commands
use Rattle.qresync_core.specs.declared.fault.ResyncFault.TheVariants as faults

module _ (p : Player) (b : Meaning) (h : Held) (permits : Option Permits) (made old : Clock) (stands : StandsKept b old)
    (known : KnownAt made old permits (Some h) p b) (fits : IsHeldFor h p b) where
  abbrev Box : List ℕ
  Box = h.chosen.name

  abbrev Owed : OwesHeld h known.world
  Owed = owes p b h permits made old stands known fits

  abbrev Reply : Replies
  Reply = Owed.said.reply

  abbrev Since : Option Mark
  Since = (selects_box p b h permits made old stands known fits).since

  is_select : Owed.select.command ≡ commands.Select Box Since
  is_select = (selects_box p b h permits made old stands known fits).is

  -- the server that answered the SELECT
  among : IsAmong Owed.said known.world.course.said
  among = subst (λ (l : List Said). IsAmong Owed.said l) (sym Owed.last) (inl refl)

  abbrev Carried : (after : Option (List ℕ)) × CarriesOut Owed.said.command Owed.said.before Reply Owed.said.behind after
  Carried = (known.knows.course.said Owed.said among).2

  said_select : Owed.said.command.command ≡ commands.Select Box Since
  said_select = ap (λ (x : Waiting). x.command) Owed.answers ∙ is_select

  found : (box : Mailbox) × (box_at Box Owed.said.before.boxes ≡ Some box)
  found = select_box Box Since Owed.said.command Owed.said.before Owed.said.behind Reply Carried.0 said_select Owed.is.accepted Carried.1

  selected_then : AnswersSelect Box Since found.0 Reply
  selected_then = record {
    waiting = Owed.said.command;
    command = said_select;
    answers = record {
      server = Owed.said.before;
      later = Owed.said.behind;
      after = Carried.0;
      carried = Carried.1;
      ok = Owed.is.accepted;
      there = found.1;
    };
  }

  codes_are : told_codes Reply ≡ Ok (codes_of_box found.0)
  codes_are = codes_true Since found.0 Reply (selecting Box Since found.0 Reply selected_then)

  validity_told : h.told ≡ found.0.validity
  validity_told =
      let t = told p b h permits made old stands known fits in
      let both : Ok t.0 ≡ Ok (codes_of_box found.0) = sym t.1 ∙ codes_are in
      let one : t.0 ≡ codes_of_box found.0 = cc in
      sym t.2 ∙ ap (λ (c : Codes). c.validity) one

  -- it is selected under the UIDVALIDITY that was told
  selected_is : known.world.selected ≡ Some (record { name = Box; validity = h.told })
  selected_is =
      let a = asked p b h permits made old stands known fits in
      let t = told p b h permits made old stands known fits in
      let never = select_no_all Owed.select Box b (selects_box p b h permits made old stands known fits) in
      let same : IsSameSaid a.answered.said Owed.said a.answered.rows None =
      same_said a.answered.rows None a.answered.said Owed.said a.answered.rest Owed.rest (λ e i. (a.answered.fetched e i).asks)
      (λ e i. absurd (none-some e i)) (no_all a.answered.said Owed.select a.answered.command never)
      (no_all Owed.said Owed.select Owed.answers never) (sym a.answered.last ∙ Owed.last) in
      a.answered.selected ∙ ap (λ (x : Command). selected_after x a.answered.said.reply p.selected) is_select
      ∙ ap (λ (x : Said). selected_on Box x.reply x.reply.ending) same.one
      ∙ ap (λ (x : Ending). selected_on Box Reply x) Owed.is.accepted
      ∙ ap (λ (x : Result Codes CodeFault). selected_by Box x) t.1
      ∙ ap (λ (v : ℕ). Some (record { name = Box; validity = v })) t.2

  pub selected_here : old.now.outside.talk.selected ≡ Some Box
  selected_here = sym known.tells.selects ∙ ap name_of selected_is

  -- and went on so
  went : IsPast Box found.0.validity found.0.highest old.now.outside.server
  went =
      let now = known.world.course.now in
      let at : IsUnder Box h.told now = known.knows.valid (record { name = Box; validity = h.told }) selected_is in
      let f : FindsEvolved (floor_of Owed.said.before.boxes Box) Box found.0 now.boxes =
      (known.knows.since Owed.said.before (known.knows.course.said Owed.said among).0).evolves.each Box found.0 found.1 in
      let same : f.box ≡ at.box = same_Some f.box at.box (sym f.there ∙ at.there) in
      let validity : f.box.validity ≡ found.0.validity = ap (λ (m : Mailbox). m.validity) same ∙ at.same ∙ validity_told in
      subst (λ (s : Server). IsPast Box found.0.validity found.0.highest s) known.tells.server
      (record { box = f.box; there = f.there; same = validity; higher = (f.evolves.goes_on validity).highest })

  -- the rows come behind it
  rows_come : (tag : ℕ) (all : Replies) (new : Clock) → AllFair mail played old new →
      IsAnsweredOk (Some Box) (next_tag tag) (record { asked = commands.FetchAll; replies = all }) old new → Comes Box None Reply (Some all) old new
  rows_come tag all new fair a =
      let y : Exchange = record { asked = commands.FetchAll; replies = all } in
      let f : AnsweredAt (Some Box) (next_tag tag) y old new = answered_at (Some Box) (next_tag tag) y old new refl a in
      rows_fine Box Since found.0 Reply selected_then (next_tag tag) all old new f a.accepted (calm b old stands) stands.none_waits stands.none_arrives
      selected_here (f.keeps tt)
      (selected_stays b old new stands.books (answered_through (Some Box) (next_tag tag) y old new f) fair) went

  empty_fine : is_told_empty Reply ≡ true → Faultless None Reply None
  empty_fine empty = (codes_of_box found.0, empty_judged Box Since found.0 Reply selected_then empty)

  -- there is no fault but want of memory
  module _ (new : Clock) (fair : AllFair mail played old new) (count after : ℕ) where
    pub rows_memory : (fault : ResyncFault) → RowsFetched h (Some Box) count after (Err fault) old new → fault ≡ faults.Memory
    rows_memory fault r = by r.all r.answered (r.makes Reply Owed.is)
      where
        by : (all : Option Replies) → AnsweredAll (then_all all) (Some Box) count old new →
            MakesDelta None (record { selected = Reply; all = all }) (Err fault) → fault ≡ faults.Memory
        by None a makes = memory_alone None Reply None fault (empty_fine (told_empty Box (is_told_empty Reply) makes.fetched)) makes.fault
        by (Some all) a makes =
            memory_alone None Reply (Some all) fault
            (rows_come count all new fair
            (ends_at Box (Some Box) (next_tag count) (record { asked = commands.FetchAll; replies = all }) old a.0 new a.2 a.1)).0 makes.fault

    -- the mailbox was read here; or as the reply came that was held
    pub rows_read : (delta : Delta) → RowsFetched h (Some Box) count after (Ok delta) old new →
        IsLastRead Box (learned None delta) old new
        ⊎ ((from : Clock) → IsReadHeld h from old → IsLastRead Box (learned None delta) from new)
    rows_read delta r = by r.all r.answered r.makes
      where
        by : (all : Option Replies) → AnsweredAll (then_all all) (Some Box) count old new →
            ((reply : Replies) → IsHeldReply h reply → MakesDelta None (record { selected = reply; all = all }) (Ok delta)) →
            IsLastRead Box (learned None delta) old new
            ⊎ ((from : Clock) → IsReadHeld h from old → IsLastRead Box (learned None delta) from new)
        by None a makes =
            inr
            (λ from was.
            let m = makes was.reply was.is in
            subst (λ (k : Clock). IsLastRead Box (learned None delta) from k) (sym a)
            (was.reads (told_empty Box (is_told_empty was.reply) m.fetched) delta m.value))
        by (Some all) a makes =
            inl
            (((rows_come count all new fair
            (ends_at Box (Some Box) (next_tag count) (record { asked = commands.FetchAll; replies = all }) old a.0 new a.2 a.1)).1 delta
            (makes Reply Owed.is).value).last stands.none_waits stands.none_arrives)
