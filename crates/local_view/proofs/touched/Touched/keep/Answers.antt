use Rattle.std.proofs.Common.{Some, sym, ◌∙◌, subst, refl}
use Rattle.std.specs.BTreeMap.{Updates}
use Rattle.local_view.specs.Touching.{key_order}
use Rattle.local_view.specs.declared.touched.Touched.{Touched}
use Rattle.local_view.proofs.Touches.{kept_cached, kept_nowhere}
use Rattle.local_view.proofs.touched.Touched.keep.Goals as goal

pub returns-in_ok-insert : goal.returns-in_ok-insert
returns-in_ok-insert c =
    let new : Touched = record { cached = c.insert.new.self; made = c.args.self.now.made } in
    kept_cached c.args.boxes.now c.args.self.now new c.args.name.now c.args.uid c.in-Some.at c.args.left c.requires
    (sym c.place_of.ensures ∙ c.in-Some.is) refl
    (subst (λ u. Updates key_order c.args.self.now.cached c.insert.new.self (c.in-Some.at, u) (Some c.args.left)) c.number.ensures.value
    c.in_ok-insert.ensures.updates)

pub returns-in_default : goal.returns-in_default
returns-in_default c =
    kept_nowhere c.args.boxes.now c.args.self.now c.args.name.now c.args.uid c.args.left (sym c.place_of.ensures ∙ c.in_default.is)
