use Rattle.std.proofs.Common.{sym, ap, ◌∙◌}
use Rattle.std.proofs.lemmas.Result.{err_from_is_err_and}
use Rattle.std.specs.Option.{option_copied}
use Rattle.flag_set.specs.FlagList.{fault_behind, flags_of, pieces_left}
use Rattle.flag_set.proofs.Faults.{flag_fault, flag_refused, key_fault, key_refused, no_fault}
use Rattle.flag_set.proofs.flag_set.FlagSet.read_list.Goals as goal

pub returns-in_err-new-clause-refused : goal.returns-in_err-new-clause-refused
returns-in_err-new-clause-refused c =
    let p = err_from_is_err_and c.from_residual.result c.from_residual.ensures.1 in
    rw (p.1, p.2) (flag_refused _ _ _ _ _ _
    (sym (ap (λ o. fault_behind c.loop-left.set (pieces_left (option_copied o))) c.in-Some.is) ∙ c.loop-left.invariant.faults)
    c.first_flag.ensures.parts c.in_err-new.ensures.refused)

pub returns-in_err-keep-clause-refused : goal.returns-in_err-keep-clause-refused
returns-in_err-keep-clause-refused c =
    let p = err_from_is_err_and c.from_residual-in_err-keep.result c.from_residual-in_err-keep.ensures.1 in
    rw (p.1, p.2) (key_refused _ _ _ _ _ _ _
    (sym (ap (λ o. fault_behind c.loop-left.set (pieces_left (option_copied o))) c.in-Some.is) ∙ c.loop-left.invariant.faults)
    c.first_flag.ensures.parts c.in_ok-new.ensures.accepted c.in_ok-new.ensures.value c.in_err-keep.ensures.refused)

pub returns-clause-accepted : goal.returns-clause-accepted
returns-clause-accepted c =
    no_fault _ (sym c.loop-left.invariant.faults ∙ ap (λ o. fault_behind c.loop-left.set (pieces_left (option_copied o))) c.in_default.is)

pub returns-in_err-new-clause-some : goal.returns-in_err-new-clause-some
returns-in_err-new-clause-some c =
    let p = err_from_is_err_and c.from_residual.result c.from_residual.ensures.1 in
    rw (p.1, p.2) (flag_fault (flags_of c.args.text.now) _ _ _ _ _
    (sym (ap (λ o. fault_behind c.loop-left.set (pieces_left (option_copied o))) c.in-Some.is) ∙ c.loop-left.invariant.faults)
    c.first_flag.ensures.parts c.in_err-new.ensures.refused)

pub returns-in_err-keep-clause-some : goal.returns-in_err-keep-clause-some
returns-in_err-keep-clause-some c =
    let p = err_from_is_err_and c.from_residual-in_err-keep.result c.from_residual-in_err-keep.ensures.1 in
    rw (p.1, p.2) (key_fault (flags_of c.args.text.now) _ _ _ _ _ _
    (sym (ap (λ o. fault_behind c.loop-left.set (pieces_left (option_copied o))) c.in-Some.is) ∙ c.loop-left.invariant.faults)
    c.first_flag.ensures.parts c.in_ok-new.ensures.accepted c.in_ok-new.ensures.value c.in_err-keep.ensures.refused)

pub returns-clause-none : goal.returns-clause-none
returns-clause-none c =
    sym c.loop-left.invariant.faults ∙ ap (λ o. fault_behind c.loop-left.set (pieces_left (option_copied o))) c.in_default.is
