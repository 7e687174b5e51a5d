use Rattle.std.proofs.Common.{inl, map, refl, subst, rules}
use Rattle.std.specs.Prelude.{string_bytes}
use Rattle.world_traits.specs.Links.{Any}
use Rattle.world_traits.specs.Moments.{Within}
use Rattle.world_traits.proofs.Passing.{since_start}
use Rattle.journal_core.proofs.AtRest.{each_none}
use Rattle.store_core.specs.HeldActions.{KeepsActions}
use Rattle.store_core.specs.Mail.{mail}
use Rattle.store_core.specs.Taking.{ChoosesStep}
use Rattle.look_run.specs.Words.{Asks}
use Rattle.look_run.proofs.Endings.{said_look}
use Rattle.look_run.proofs.Numbers.{asked_numbered}
use Rattle.look_run.proofs.running.looked.Goals as goal

pub look_at-requires : goal.look_at-requires
look_at-requires g c = asked_numbered _ _ c.in-Some.ensures.some

pub returns-in_default-clause-ends : goal.returns-in_default-clause-ends
returns-in_default-clause-ends g c tells = inl (record {
  nothing = search rules;
  stays = refl;
  reads = refl;
  told = c.ending_of_words.ensures.status;
  text_is = c.ending_of_words.ensures.text;
})

pub returns-in_default-clause-reads : goal.returns-in_default-clause-reads
returns-in_default-clause-reads g c tells = record {
  keeps = since_start (Within (g.D.Clocked.clock c.args.disk.now).now) KeepsActions (g.D.Clocked.clock c.args.disk.now);
  books = λ one books have. since_start Any (ChoosesStep mail) (g.D.Clocked.clock c.args.disk.now);
  one_side = λ one. one;
  each_one_side = λ one. each_none _;
}

pub returns-clause-ends : goal.returns-clause-ends
returns-clause-ends g c tells = said_look _ _ _ _ c.in-Some.ensures.some _ (c.look_at.ensures.ends tells)

pub returns-clause-words : goal.returns-clause-words
returns-clause-words g c = (
  λ is. absurd (c.look_at.ensures.not_words is),
  λ nothing. absurd (nothing _ c.in-Some.ensures.some),
)

pub returns-clause-reason : goal.returns-clause-reason
returns-clause-reason g c is =
    let letter = c.look_at.ensures.reason is in
    (letter.0, subst (Asks (map string_bytes c.args.words.now)) letter.1 c.in-Some.ensures.some)
