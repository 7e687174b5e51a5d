use Rattle.std.proofs.Common.{ℕ, List, length, refl, ◌∙◌, ap, arith}
use Rattle.std.proofs.lemmas.List.{take_all}
use Rattle.std.proofs.lemmas.Result.{err_from_is_err_and}
use Rattle.journal_core.specs.Records.{records}
use Rattle.journal_core.proofs.AsideStays.{aside_none, aside_then}
use Rattle.journal_core.proofs.DraftWrites.{drafts_as, drafts_failed, record_fits, place_on, all_records}
use Rattle.journal_core.proofs.Gathering.{if_ok_more, gathers_held, gathers_all, record_gathers}
use Rattle.journal_core.proofs.drafting.put_records.Goals as goal

pub loop-body-init : goal.loop-body-init
loop-body-init g c = record {
  place = omega (arith, ap length c.new-piece.ensures);
  told = λ tells. gathers_held _ _ _ _ _ _ _ _ c.new-piece.ensures;
  aside = λ tells. aside_none c.args.side _;
  link = refl;
  unfailed = refl;
}

pub gather-requires : goal.gather-requires
gather-requires g c = record {
  room = record_fits c.args.bodies.now _ _ _ c.loop-body-test.true c.body-item.is c.as_slice.ensures _ _ _ c.loop-body.invariant.place c.requires;
}

pub returns-in_err-place-clause-told : goal.returns-in_err-place-clause-told
returns-in_err-place-clause-told g c tells =
    let p = err_from_is_err_and c.from_residual.result c.from_residual.ensures.1 in
    drafts_failed _ _ _ _ _ _ _ _ _ _ p.0 p.1
    (record_gathers c.args.bodies.now _ _ _ c.loop-body-test.true c.body-item.is c.as_slice.ensures c.args.side c.args.at _ _ _ _ _ _ _ _ _ _ _
    c.loop-body.invariant.place (c.loop-body.invariant.told tells) (c.gather.ensures.told tells)).told

pub returns-in_err-place-clause-aside : goal.returns-in_err-place-clause-aside
returns-in_err-place-clause-aside g c tells = aside_then c.args.side _ _ _ (c.loop-body.invariant.aside tells) (c.gather.ensures.aside tells)

pub loop-body-preserved : goal.loop-body-preserved
loop-body-preserved g c = record {
  place = place_on c.args.bodies.now _ _ _ c.loop-body-test.true c.body-item.is c.as_slice.ensures _ _ _ c.loop-body.invariant.place c.in_ok-place.ensures.value;
  told = λ tells. record_gathers c.args.bodies.now _ _ _ c.loop-body-test.true c.body-item.is c.as_slice.ensures c.args.side c.args.at _ _ _ _ _ _ _ _ _ _ _
      c.loop-body.invariant.place (c.loop-body.invariant.told tells) (c.in_ok-place.ensures.told tells);
  aside = λ tells. aside_then c.args.side _ _ _ (c.loop-body.invariant.aside tells) (c.gather.ensures.aside tells);
  link = c.gather.ensures.blames.link ∙ c.loop-body.invariant.link;
  unfailed = c.in_ok-place.ensures.blames.unfailed ∙ c.loop-body.invariant.unfailed;
}

pub put_more-requires : goal.put_more-requires
put_more-requires g c = record {
  room = omega (
    arith,
    c.requires,
    c.loop-body.invariant.place,
    ap length c.as_slice-2.ensures.value,
    ap (λ (bs : List (List ℕ)). length (records bs)) (take_all c.loop-body.body-index c.args.bodies.now (omega (arith, c.loop-body-test.false))),
  );
}

pub returns-clause-value : goal.returns-clause-value
returns-clause-value g c = if_ok_more c.put_more.result _ _
    (λ (n : ℕ) is. omega (
      arith,
      is,
      c.loop-body.invariant.place,
      ap length c.as_slice-2.ensures.value,
      ap (λ (bs : List (List ℕ)). length (records bs)) (take_all c.loop-body.body-index c.args.bodies.now (omega (arith, c.loop-body-test.false))),
    )) c.put_more.ensures.value

pub returns-clause-told : goal.returns-clause-told
returns-clause-told g c tells =
    all_records c.args.bodies.now c.loop-body.body-index c.args.side c.args.at _ _ _ _ _ (omega (arith, c.loop-body-test.false))
    (gathers_all _ _ _ _ _ _ _ _ _ _ _ _ c.loop-body.invariant.place (c.loop-body.invariant.told tells) _
    (drafts_as _ _ _ _ _ _ _ _ _ c.as_slice-2.ensures.value (c.put_more.ensures.told tells)))

pub returns-clause-aside : goal.returns-clause-aside
returns-clause-aside g c tells = aside_then c.args.side _ _ _ (c.loop-body.invariant.aside tells) (c.put_more.ensures.aside tells)
