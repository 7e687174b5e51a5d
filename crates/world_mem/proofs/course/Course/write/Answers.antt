use Rattle.std.proofs.Common.{◌≡◌, List, [], ◌∷◌, ◌++◌, rules, sym, ◌∙◌, ap, subst}
use Rattle.world_traits.specs.Calls.{written}
use Rattle.world_traits.specs.Files.{put, file_of, with_file}
use Rattle.world_mem.specs.Both.{torn_at}
use Rattle.world_mem.specs.Image.{bytes_of}
use Rattle.world_mem.specs.Running.{Run, start}
use Rattle.world_mem.specs.Standing.{Stands}
use Rattle.world_mem.specs.Memory.{run_of}
use Rattle.world_mem.specs.declared.did.Did.{Did}
use Rattle.world_mem.specs.declared.did.Did.TheVariants as did
use Rattle.world_mem.proofs.Doing.{one_did, wrote_stands}
use Rattle.world_mem.proofs.course.Course.write.Goals as goal

pub invariant_of-self-2 : goal.invariant_of-self-2
invariant_of-self-2 c =
    let w = c.args.self.now in
    let r = run_of w in
    let own = c.in_ok-own.own in
    let same : own.items ≡ c.args.bytes.now = search rules in
    let is : c.push_reserved.new.self.items ≡ w.log.items ++ did.Wrote c.args.side c.args.at own ∷ [] =
    c.push_reserved.ensures.items ∙ ap (λ (l : List Did). l ++ did.Wrote c.args.side c.args.at own ∷ []) c.reserve.ensures.items in
    record {
      stands = subst (λ (x : Run). Stands c.write.new.self w.server w.phase w.held w.parts w.unfinished w.lines.items w.received x)
          (sym (one_did w.log.items c.push_reserved.new.self.items (did.Wrote c.args.side c.args.at own)
          (start (bytes_of w.given) w.began.value w.began_held.value) is))
          (wrote_stands w.files w.server w.phase w.held w.parts w.unfinished w.lines.items w.received r w.stands c.args.side c.args.at own c.write.new.self
          (c.in_ok-write.ensures.moment r.clock.now r.seen w.stands.files_are
          ∙ ap (λ (b : List _). torn_at (written c.args.side c.args.at b r.clock.now)
          (with_file c.args.side (put c.args.at b (file_of c.args.side r.seen)) r.seen)) (sym same)));
    }

pub returns-clause-done : goal.returns-clause-done
returns-clause-done c =
    let w = c.args.self.now in
    let own = c.in_ok-own.own in
    let same : own.items ≡ c.args.bytes.now = search rules in
    let is : c.push_reserved.new.self.items ≡ w.log.items ++ did.Wrote c.args.side c.args.at own ∷ [] =
    c.push_reserved.ensures.items ∙ ap (λ (l : List Did). l ++ did.Wrote c.args.side c.args.at own ∷ []) c.reserve.ensures.items in (
      own,
      same,
      one_did w.log.items c.push_reserved.new.self.items (did.Wrote c.args.side c.args.at own)
          (start (bytes_of w.given) w.began.value w.began_held.value) is,
    )
