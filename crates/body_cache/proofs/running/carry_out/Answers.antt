use Rattle.std.proofs.Common.{inl, inr, refl, sym, subst, arith, rules}
use Rattle.world_traits.specs.Links.{Any}
use Rattle.world_traits.specs.Moments.{Within}
use Rattle.world_traits.proofs.Passing.{since_start}
use Rattle.journal_core.proofs.AtRest.{each_none}
use Rattle.store_core.specs.HeldActions.{KeepsActions}
use Rattle.store_core.specs.Mail.{mail}
use Rattle.store_core.specs.Taking.{ChoosesStep}
use Rattle.body_cache.specs.Completing.{IsServed}
use Rattle.body_cache.proofs.Looking.{looks_alone}
use Rattle.body_cache.proofs.ReadRuns.{asks_fetch, one_fetch}
use Rattle.body_cache.proofs.running.carry_out.Goals as goal

pub returns-in-None-clause-ends : goal.returns-in-None-clause-ends
returns-in-None-clause-ends g c tells = inl (record {
  nothing = search rules;
  stays = refl;
  reads = refl;
  link = refl;
  untouched = λ t. refl;
  told = c.ending_of_words.ensures.status;
  text_is = c.ending_of_words.ensures.text;
})

pub returns-in-None-clause-looks : goal.returns-in-None-clause-looks
returns-in-None-clause-looks g c tells = looks_alone g.W.Clocked c.args.world.now c.args.world.now (record {
  keeps = since_start (Within (g.W.Clocked.clock c.args.world.now).now) KeepsActions (g.W.Clocked.clock c.args.world.now);
  books = λ one books have. since_start Any (ChoosesStep mail) (g.W.Clocked.clock c.args.world.now);
  one_side = λ one. one;
  each_one_side = λ one. each_none _;
}) refl

pub returns-in-None-clause-server : goal.returns-in-None-clause-server
returns-in-None-clause-server g c = record {
  told = λ tells name uid writes done. absurd (let told = c.ending_of_words.ensures.status in cc (told, done));
  serves = λ tells name uid writes serving there. subst IsServed (sym c.ending_of_words.ensures.status) tt;
}

pub returns-in-None-clause-causes : goal.returns-in-None-clause-causes
returns-in-None-clause-causes g c =
    let told = c.ending_of_words.ensures.status in record {
      disk = λ is. absurd (cc (told, is));
      link_fault = λ is. absurd (cc (told, is));
      count = omega arith;
      link_count = omega arith;
      disk_unfailed = λ other. refl;
      link_unfailed = λ other. refl;
    }

pub returns-in-None-clause-shelf : goal.returns-in-None-clause-shelf
returns-in-None-clause-shelf g c =
    let told = c.ending_of_words.ensures.status in record { shelf = λ is. absurd (cc (told, is)); count = omega arith; unfailed = λ other. refl }

pub returns-in-Some-clause-ends : goal.returns-in-Some-clause-ends
returns-in-Some-clause-ends g c tells =
    inr (record { reading = _; asks = c.in-Some.ensures.some; ends = c.answer.ensures.ends tells })

pub returns-in-Some-clause-server : goal.returns-in-Some-clause-server
returns-in-Some-clause-server g c = record {
  told = λ tells name uid writes done. c.answer.ensures.server.told tells name uid (one_fetch _ _ name uid c.in-Some.ensures.some writes) done;
  serves = λ tells name uid writes serving there.
      c.answer.ensures.server.serves tells name uid (one_fetch _ _ name uid c.in-Some.ensures.some writes) serving there;
}

pub returns-in-Some-clause-words : goal.returns-in-Some-clause-words
returns-in-Some-clause-words g c = (
  λ is. absurd (c.answer.ensures.not_words is),
  λ nothing. absurd (nothing _ c.in-Some.ensures.some),
)

pub returns-in-Some-clause-spares : goal.returns-in-Some-clause-spares
returns-in-Some-clause-spares g c never = c.answer.ensures.spares (asks_fetch _ _ c.in-Some.ensures.some never)
