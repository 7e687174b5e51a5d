-- A lawful server's SELECT tells no UIDVALIDITY below the one that its mailbox is to have.
use Rattle.action_queue.specs.Book.{Meaning}
use Rattle.imap_model.specs.Lookups.{box_at}
use Rattle.imap_model.specs.declared.command.Command.{Command}
use Rattle.imap_model.specs.declared.ending.Ending.{Ending}
use Rattle.imap_model.specs.declared.server.Mailbox.{Mailbox}
use Rattle.mailbox_cache.specs.declared.delta.Delta.{Delta}
use Rattle.playback.proofs.Gathering.{IsAsked, IsSameSaid, came_asked, no_all, same_said, select_no_all}
use Rattle.playback.proofs.Naming.{to_have_reached}
use Rattle.playback.specs.Allowed.{IsGathered, IsLowerValidity, WhyNotChosen}
use Rattle.playback.specs.Course.{Said}
use Rattle.book_laws.specs.Kept.{KeptBook}
use Rattle.playback.specs.Knows.{IsNeeded, Knows, SelectsBox}
use Rattle.book_laws.specs.Reached.{HasReached}
use Rattle.playback.specs.Worlds.{IsAt, World, selected_after, selected_by, selected_on}
use Rattle.playback.specs.declared.need.Need.{Need}
use Rattle.playback.specs.declared.need.Unheard.{Unheard}
use Rattle.playback.specs.declared.player.Player.{Player}
use Rattle.qresync_core.specs.declared.codes.Codes.{Codes}
use Rattle.qresync_core.specs.declared.fault.CodeFault.{CodeFault}
use Rattle.qresync_core.specs.declared.fault.ResyncFault.{ResyncFault}
use Rattle.std.proofs.Common.{List, Ok, Err, Result, Some, ap, arith, subst, sym, ℕ, ◌<◌, ◌≤◌, ◌∙◌, ◌≡◌, ◌≢◌}
use Rattle.std.proofs.lemmas.Option.{same_Some}
use Rattle.std.specs.Prelude.{IfErr, IsErrOf}
use Rattle.imap_model.specs.declared.command.Command.TheVariants as commands
use Rattle.playback.specs.declared.need.Unheard.TheVariants as unheards

module _ (p : Player) (b : Meaning) (w : World) (delta : Delta) (kept : KeptBook b w.course.now w.waiting) (g : IsGathered delta b w)
    (known : Knows p b w) (old told : ℕ) (lower : IsLowerValidity old told delta p b) where
  asked : IsAsked g.command p b w
  asked = came_asked g.command p b w w.owed w.waiting g.owed g.answered known.came

  never : g.command.command ≢ commands.FetchAll
  never = select_no_all g.command g.name b g.selects

  same : IsSameSaid asked.answered.said g.selected asked.answered.rows g.rows
  same =
      same_said asked.answered.rows g.rows asked.answered.said g.selected asked.answered.rest g.rest (λ e h. (asked.answered.fetched e h).asks)
      g.all_asks
      (no_all asked.answered.said g.command asked.answered.command never)
      (no_all g.selected g.command g.asks never) (sym asked.answered.last ∙ g.last)

  -- it was selected under the UIDVALIDITY that was told
  selected_is : w.selected ≡ Some (record { name = g.name; validity = g.tells.codes.validity })
  selected_is =
      asked.answered.selected ∙ ap (λ (x : Command). selected_after x asked.answered.said.reply p.selected) g.selects.is
      ∙ ap (λ (x : Said). selected_on g.name x.reply x.reply.ending) same.one
      ∙ ap (λ (x : Ending). selected_on g.name g.selected.reply x) g.accepted
      ∙ ap (λ (x : Result Codes CodeFault). selected_by g.name x) g.tells.told

  needed : SelectsBox lower.name b g.command
  needed = subst (λ (need : Need). IsNeeded need g.command p.selected b) lower.selects asked.needed

  name_is : lower.name ≡ g.name
  name_is = let names : commands.Select lower.name needed.since ≡ commands.Select g.name g.selects.since = sym needed.is ∙ g.selects.is in cc

  pub never_lower : ⊥
  never_lower =
      let at : IsAt (record { name = g.name; validity = g.tells.codes.validity }) w.course.now =
      known.valid (record { name = g.name; validity = g.tells.codes.validity }) selected_is in
      let reached : HasReached lower.name old w.course.now.boxes = to_have_reached b w.course.now w.waiting kept lower.name old lower.to_have in
      let box : reached.box ≡ at.box =
      same_Some reached.box at.box
      (sym reached.there ∙ ap (λ (n : List ℕ). box_at n w.course.now.boxes) name_is ∙ at.there) in
      let above : old ≤ at.box.validity = subst (λ (m : Mailbox). old ≤ m.validity) box reached.not_below in
      let is : at.box.validity ≡ told = at.same ∙ sym g.tells.validity ∙ lower.is_told in
      let below : told < old = lower.below in
      absurd (omega arith)

-- so no delta is refused for it
same_delta : (told : Result Delta ResyncFault) (d delta : Delta) → told ≡ Ok d → told ≡ Ok delta → d ≡ delta
same_delta told d delta e f = let h : ◌≡◌ {A = Result Delta ResyncFault} (Ok d) (Ok delta) = sym e ∙ f in cc

pub not_lower : {T : Type 0} (p : Player) (b : Meaning) (told : Result Delta ResyncFault) (result : Result T Unheard) (w : World) (delta : Delta)
    (old now : ℕ) → IfErr result (λ fault. WhyNotChosen fault told p b) → told ≡ Ok delta → KeptBook b w.course.now w.waiting →
    IsGathered delta b w → Knows p b w → IsErrOf result (unheards.Target old now) → ⊥
not_lower p b told (Ok x) w delta old now why is kept g known err = absurd (cc)
not_lower p b told (Err fault) w delta old now why is kept g known err =
    let same_fault : fault ≡ unheards.Target old now = cc in
    let target : WhyNotChosen (unheards.Target old now) told p b = subst (λ (f : Unheard). WhyNotChosen f told p b) same_fault why in
    never_lower p b w delta kept g known old now
    (subst (λ (d : Delta). IsLowerValidity old now d p b) (same_delta told target.0 delta target.1 is) target.2)
