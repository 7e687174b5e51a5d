-- How a fetching ends at a server that serves.
use Rattle.std.proofs.Common.{◌≡◌, ⊎_elim, inl, inr, ℕ, List, Result, sym, subst}
use Rattle.imap_model.specs.Talking.{Peer, greeted}
use Rattle.imap_model.specs.declared.response.Response.TheVariants as responses
use Rattle.world_traits.specs.Connected.{IsGreeted}
use Rattle.world_traits.specs.Links.{Any}
use Rattle.world_traits.specs.Moments.{Clock, Within}
use Rattle.store_core.specs.HeldActions.{KeepsActions}
use Rattle.play_driver.proofs.Longer.{in_order}
use Rattle.play_driver.proofs.Parts.{grows, grows_start, since_second}
use Rattle.play_driver.specs.Faults.{ComesAnyway}
use Rattle.play_driver.specs.Joining.{Grows}
use Rattle.play_driver.specs.Serving.{AllServing, IsServing}
use Rattle.play_driver.specs.declared.fault.PlayFault.{PlayFault}
use Rattle.play_driver.specs.declared.fault.PlayFault.TheVariants as plays
use Rattle.mail_top.proofs.PlayServed.{same_peer}
use Rattle.mail_top.specs.Showing.{IsOfReading, OnlyReads}
use Rattle.mail_top.specs.Telling.{status_of_fault}
use Rattle.mail_top.specs.declared.refusal.Refusal.{Refusal}
use Rattle.mail_top.specs.declared.refusal.Refusal.TheVariants as refusals
use Rattle.body_cache.specs.Asking.{ComesServed}
use Rattle.body_cache.specs.Carrying.{IsUnfetched, Puts}
use Rattle.body_cache.specs.Carrying.Puts.{fails, puts, wants}
use Rattle.body_cache.specs.Completing.{IsServed}
use Rattle.body_cache.specs.Ending.{Shelving}
use Rattle.body_cache.specs.Finding.{ComesOfFinding}
use Rattle.body_cache.specs.Telling.{status_of_read, status_of_unread}
use Rattle.body_cache.specs.declared.fault.TextFault.{TextFault}
use Rattle.body_cache.specs.declared.fault.TextFault.TheVariants as texts
use Rattle.body_cache.specs.declared.key.Key.{Key}
use Rattle.body_cache.specs.declared.refused.ReadFault.{ReadFault}
use Rattle.body_cache.specs.declared.refused.ReadFault.TheVariants as faults

-- behind the opening of the journal the server serves still
pub serving_opened : (k l n : Clock) → OnlyReads k l → Grows l n → AllServing k n → AllServing l n
serving_opened k l n opens more a =
    let first = grows (Within k.now) KeepsActions k l opens.keeps in
    let rest = grows Any IsServing a.made n a.later in
    ⊎_elim (λ (g : Grows a.made l).
    let same = same_peer (Within k.now) a.made l (since_second (Within k.now) KeepsActions k a.made l a.before g opens.keeps) in
    record {
      made = l;
      before = grows_start l;
      fresh = subst IsGreeted (sym same) a.fresh;
      hello = subst (λ (p : Peer). p.talk ≡ greeted responses.Bye → ⊥) (sym same) a.hello;
      later = since_second Any IsServing a.made l n g more a.later;
    })
    (λ (g : Grows l a.made). record { made = a.made; before = g; fresh = a.fresh; hello = a.hello; later = a.later })
    (in_order k a.made l n a.before rest first more)

-- what may come anyway is none of the server's statuses
play_served : (f : PlayFault) → ComesAnyway f → IsServed (status_of_fault f)
play_served plays.Memory comes = tt
play_served plays.Disk comes = tt
play_served plays.Link comes = tt
play_served (plays.Refused line) comes = absurd comes
play_served (plays.BadReply why) comes = absurd comes
play_served (plays.Lacking what) comes = absurd comes
play_served (plays.Limit which number) comes = tt

pub unfetched_served : (key : Key) (x : TextFault) (fault : ReadFault) → IsUnfetched key x fault → ComesServed x → IsServed (status_of_unread fault)
unfetched_served key (texts.Stopped f) fault is comes = subst (λ (g : ReadFault). IsServed (status_of_unread g)) (sym is) (play_served f comes)
unfetched_served key (texts.Renewed told) fault (inl is) comes = subst (λ (g : ReadFault). IsServed (status_of_unread g)) (sym is) tt
unfetched_served key (texts.Renewed told) fault (inr is) comes = subst (λ (g : ReadFault). IsServed (status_of_unread g)) (sym is) tt
unfetched_served key texts.Gone fault is comes = subst (λ (g : ReadFault). IsServed (status_of_unread g)) (sym is) tt

-- nor is what is put
pub put_served : (v : Shelving) (key : Key) (text : List ℕ) (r : Result (List ℕ) ReadFault) → Puts v key text r → IsServed (status_of_read r)
put_served v key text r (puts is put) = subst (λ (x : Result (List ℕ) ReadFault). IsServed (status_of_read x)) (sym is) tt
put_served v key text r (wants is untouched) = subst (λ (x : Result (List ℕ) ReadFault). IsServed (status_of_read x)) (sym is) tt
put_served v key text r (fails is others) = subst (λ (x : Result (List ℕ) ReadFault). IsServed (status_of_read x)) (sym is) tt

-- nor is what comes of looking for a key
refusal_served : (x : Refusal) → IsOfReading x → IsServed (status_of_unread (faults.Refused x))
refusal_served refusals.Disk of = tt
refusal_served refusals.Memory of = tt
refusal_served (refusals.NotAJournal why) of = tt
refusal_served refusals.Input of = absurd of
refusal_served refusals.Already of = absurd of
refusal_served (refusals.Reason reason) of = absurd of
refusal_served refusals.Actions of = absurd of
refusal_served (refusals.Full end) of = absurd of
refusal_served refusals.Generation of = absurd of

pub unfound_served : (x : ReadFault) → ComesOfFinding x → IsServed (status_of_unread x)
unfound_served (faults.Refused refusal) comes = refusal_served refusal comes
unfound_served (faults.Reason reason) comes = tt
unfound_served (faults.Stopped fault) comes = absurd comes
unfound_served (faults.Renewed line) comes = absurd comes
unfound_served faults.Shelf comes = absurd comes
