use Rattle.std.proofs.Common.{rules, ◌≡◌, subst, sym, ap, None}
use Rattle.imap_model.specs.Changes.{Changes}
use Rattle.imap_model.specs.Lawful.{broken_rule}
use Rattle.imap_model.specs.declared.deed.Author.TheVariants.{Other}
use Rattle.imap_model.specs.declared.server.Server.{Server}
use Rattle.server_mem.specs.States.{State}
use Rattle.server_mem.specs.Well.{Well}
use Rattle.server_mem.proofs.Making.{is_a_change, well_after}
use Rattle.server_mem.proofs.mem_server.MemServer.foreign.Goals as goal

pub commit-requires : goal.commit-requires
commit-requires c =
    let w : Well c.args.self.now.server.boxes = subst Well (ap (λ (s : State). s.server.boxes) c.self.view_is) c.self.inside.well in
    let lawful : broken_rule c.args.self.now.server.boxes c.args.name.now c.args.change.now ≡ None = search rules in
    subst Well (sym (ap (λ (s : Server). s.boxes) c.in_ok-made.ensures)) (well_after c.args.self.now.server.boxes c.args.name.now c.args.change.now w lawful)

pub returns-clause-lawful : goal.returns-clause-lawful
returns-clause-lawful c =
    let w : Well c.args.self.now.server.boxes = subst Well (ap (λ (s : State). s.server.boxes) c.self.view_is) c.self.inside.well in
    let lawful : broken_rule c.args.self.now.server.boxes c.args.name.now c.args.change.now ≡ None = search rules in
    subst (λ (t : State). Changes c.args.self.now.server.boxes Other c.args.name.now c.args.change.now c.args.self.now.server t.server)
    (sym c.in_ok-commit.ensures.done)
    (subst (λ (t : Server). Changes c.args.self.now.server.boxes Other c.args.name.now c.args.change.now c.args.self.now.server t) (sym c.in_ok-made.ensures)
    (is_a_change Other c.args.name.now c.args.change.now c.args.self.now.server w lawful))
