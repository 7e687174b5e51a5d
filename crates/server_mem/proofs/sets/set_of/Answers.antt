use Rattle.std.proofs.Common.{◌≡◌, ◌∙◌, ℕ, ◌↔◌, ap, subst, take, length, List, arith, ◌≤◌}
use Rattle.std.proofs.Math.Seq.{take-length}
use Rattle.uid_sets.proofs.Ranges.{one_form}
use Rattle.uid_sets.specs.UidSet.{Member}
use Rattle.imap_model.proofs.SetOf.{Among}
use Rattle.server_mem.proofs.Setting.{AreUids, more_uids, more_members, is_set_of}
use Rattle.server_mem.proofs.sets.set_of.Goals as goal

pub loop-uid-preserved : goal.loop-uid-preserved
loop-uid-preserved c = (
  c.put.ensures.canonical,
  (
    more_uids c.loop-uid.uid-index c.args.uids.now c.uid-item.result c.loop-uid-test.true c.uid-item.is c.put.ensures.number c.loop-uid.invariant.1.0,
    more_members c.loop-uid.uid-index c.args.uids.now c.uid-item.result c.loop-uid.set c.put.new.set c.loop-uid-test.true c.uid-item.is
        c.in_ok-put.ensures.members c.loop-uid.invariant.1.1,
  ),
)

pub returns : goal.returns
returns c =
    let i : ℕ = c.loop-uid.uid-index in
    let below : i ≤ length c.args.uids.now = c.loop-uid.auto.uid-index-end in
    let above : length c.args.uids.now ≤ i = c.loop-uid-test.false in
    let ended : i ≡ length c.args.uids.now = omega arith in
    let all : take i c.args.uids.now ≡ c.args.uids.now = ap (λ (n : ℕ). take n c.args.uids.now) ended ∙ take-length c.args.uids.now in
    is_set_of c.args.uids.now c.loop-uid.set (one_form 0) c.loop-uid.invariant.0 (subst AreUids all c.loop-uid.invariant.1.0)
    (subst (λ (us : List ℕ). (v : ℕ) → Member c.loop-uid.set v ↔ Among v us) all c.loop-uid.invariant.1.1)
