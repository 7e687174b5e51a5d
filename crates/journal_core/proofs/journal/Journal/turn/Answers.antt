use Rattle.std.proofs.Common.{refl, arith}
use Rattle.journal_core.proofs.Creation.{are_bodies}
use Rattle.journal_core.proofs.Turned.{turns, turns_not, turned_view, left_stays, left_each}
use Rattle.journal_core.proofs.journal.Journal.turn.Goals as goal

pub returns-in-Err-clause-told : goal.returns-in-Err-clause-told
returns-in-Err-clause-told g c tells =
    let sizes = are_bodies _ c.requires.sizes (omega (arith, c.place_behind-wanted.ensures, c.if-wanted-gt-MAX_SIDE.false)) in
    turns_not _ _ _ c.args.bodies.now _ _ _ _ c.self.view_is c.requires.all_read sizes c.requires.later _ _ _ _ _ refl c.other_side-side.ensures refl (c.draw_up.ensures.told tells)

pub returns-clause-told : goal.returns-clause-told
returns-clause-told g c tells =
    let sizes = are_bodies _ c.requires.sizes (omega (arith, c.place_behind-wanted.ensures, c.if-wanted-gt-MAX_SIDE.false)) in
    turns _ _ _ c.args.bodies.now _ _ _ _ c.self.view_is c.requires.all_read sizes c.requires.later _ _ _ _ _ c.in_default.is c.other_side-side.ensures refl (c.draw_up.ensures.told tells)
    (turned_view _ _ _ _ _ c.self.view_is c.requires.all_read c.requires.sound c.other_side-side.ensures
    (omega (arith, c.place_behind-wanted.ensures, c.if-wanted-gt-MAX_SIDE.false)))

pub returns-in-Err-clause-beside : goal.returns-in-Err-clause-beside
returns-in-Err-clause-beside g c tells = left_stays _ _ _ _ _ c.self.view_is c.other_side-side.ensures (c.draw_up.ensures.aside tells)

pub returns-clause-beside : goal.returns-clause-beside
returns-clause-beside g c tells = left_stays _ _ _ _ _ c.self.view_is c.other_side-side.ensures (c.draw_up.ensures.aside tells)

pub returns-in-Err-clause-each_one_side : goal.returns-in-Err-clause-each_one_side
returns-in-Err-clause-each_one_side g c tells rests = left_each _ _ _ _ _ c.self.view_is c.other_side-side.ensures (c.draw_up.ensures.aside tells) rests

pub returns-clause-each_one_side : goal.returns-clause-each_one_side
returns-clause-each_one_side g c tells rests = left_each _ _ _ _ _ c.self.view_is c.other_side-side.ensures (c.draw_up.ensures.aside tells) rests
