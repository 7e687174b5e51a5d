use Rattle.std.proofs.Common.{subst, sym, ◌∙◌}
use Rattle.std.proofs.lemmas.Bool.{false_from_ne_true}
use Rattle.std.proofs.lemmas.Slice.Eq.{bytes_eq-Decides}
use Rattle.mail_base.specs.BoxName.{IsBoxName}
use Rattle.record_codec.specs.Reading.{is_name}
use Rattle.record_codec.proofs.NameForm.{is_name-Decides}
use Rattle.record_codec.proofs.reading.kept_name.Goals as goal

pub returns-then-eq-clause-test : goal.returns-then-eq-clause-test
returns-then-eq-clause-test c =
    sym ((is_name-Decides c.args.text.now).1 (subst IsBoxName ((bytes_eq-Decides c.as_bytes.result.now c.args.text.now).0
    (sym c.eq.ensures ∙ c.if-eq.true)) c.as_bytes.ensures.is_name))

pub returns-in-Err-clause-test : goal.returns-in-Err-clause-test
returns-in-Err-clause-test c =
    sym (false_from_ne_true (is_name c.args.text.now) (λ t. let told =
    c.in-Err.ensures.name.1 (((is_name-Decides c.args.text.now).0 t).text) in absurd (cc told)))
