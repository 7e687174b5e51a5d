use Rattle.std.proofs.Common.{ap, ◌∙◌, arith, is_some}
use Rattle.journal_core.specs.Sides.{version_written}
use Rattle.journal_core.proofs.Creation.{syncs_creates, creates_set_up, still_created, not_taken, are_bodies, created_at}
use Rattle.journal_core.proofs.journal.Journal.create.Goals as goal

pub side_bytes-requires : goal.side_bytes-requires
side_bytes-requires g c = record { sizes = are_bodies _ c.requires.sizes (omega (arith, c.place_behind-wanted.ensures, c.if-wanted-gt-MAX_SIDE.false)) }

pub returns-in-Err-clause-creates : goal.returns-in-Err-clause-creates
returns-in-Err-clause-creates g c tells = syncs_creates _ _ _ _ (c.read_sides.ensures.syncs tells)

pub returns-in-Some-clause-creates : goal.returns-in-Some-clause-creates
returns-in-Some-clause-creates g c tells = syncs_creates _ _ _ _ (c.read_sides.ensures.syncs tells)

pub returns-then-wanted-gt-MAX_SIDE-clause-creates : goal.returns-then-wanted-gt-MAX_SIDE-clause-creates
returns-then-wanted-gt-MAX_SIDE-clause-creates g c tells = syncs_creates _ _ _ _ (c.read_sides.ensures.syncs tells)

pub returns-in_default-side_bytes-clause-creates : goal.returns-in_default-side_bytes-clause-creates
returns-in_default-side_bytes-clause-creates g c tells = syncs_creates _ _ _ _ (c.read_sides.ensures.syncs tells)

pub returns-in-Err-set_up-clause-creates : goal.returns-in-Err-set_up-clause-creates
returns-in-Err-set_up-clause-creates g c tells =
    let sizes = are_bodies _ c.requires.sizes (omega (arith, c.place_behind-wanted.ensures, c.if-wanted-gt-MAX_SIDE.false)) in
    let unbegun = c.why_taken.ensures.none (g.D.Disk.seen c.args.disk.now) (c.in-Ok.ensures.left tells) (c.in-Ok.ensures.right tells)
    (ap is_some c.in_default.is) in
    creates_set_up c.args.bodies.now sizes _ _ _ _ _ _ (c.read_sides.ensures.syncs tells) (c.in-Ok.ensures.rests tells) (c.in-Ok.ensures.seen tells) unbegun _
    (c.set_up.ensures.told tells version_written 1 c.args.bodies.now (c.deref.ensures.value ∙ c.in-Ok-side_bytes.ensures)) (c.set_up.ensures.aside tells)

pub returns-clause-creates : goal.returns-clause-creates
returns-clause-creates g c tells =
    let sizes = are_bodies _ c.requires.sizes (omega (arith, c.place_behind-wanted.ensures, c.if-wanted-gt-MAX_SIDE.false)) in
    let unbegun = c.why_taken.ensures.none (g.D.Disk.seen c.args.disk.now) (c.in-Ok.ensures.left tells) (c.in-Ok.ensures.right tells)
    (ap is_some c.in_default.is) in
    creates_set_up c.args.bodies.now sizes _ _ _ _ _ _ (c.read_sides.ensures.syncs tells) (c.in-Ok.ensures.rests tells) (c.in-Ok.ensures.seen tells) unbegun _
    (c.set_up.ensures.told tells version_written 1 c.args.bodies.now (c.deref.ensures.value ∙ c.in-Ok-side_bytes.ensures)) (c.set_up.ensures.aside tells)

pub returns-clause-still : goal.returns-clause-still
returns-clause-still g c tells =
    let sizes = are_bodies _ c.requires.sizes (omega (arith, c.place_behind-wanted.ensures, c.if-wanted-gt-MAX_SIDE.false)) in
    let unbegun = c.why_taken.ensures.none (g.D.Disk.seen c.args.disk.now) (c.in-Ok.ensures.left tells) (c.in-Ok.ensures.right tells)
    (ap is_some c.in_default.is) in
    still_created c.args.bodies.now sizes _ _ _ _ _ (c.in-Ok.ensures.rests tells) (c.in-Ok.ensures.seen tells) unbegun _ _ c.in-Ok-set_up.is
    (c.set_up.ensures.told tells version_written 1 c.args.bodies.now (c.deref.ensures.value ∙ c.in-Ok-side_bytes.ensures)) _
    (ap created_at (omega (arith, c.place_behind-wanted.ensures, c.if-wanted-gt-MAX_SIDE.false)))

pub returns-in-Err-clause-taken : goal.returns-in-Err-clause-taken
returns-in-Err-clause-taken g c tells taken = (c.read_sides.ensures.syncs tells).told

pub returns-in-Some-clause-taken : goal.returns-in-Some-clause-taken
returns-in-Some-clause-taken g c tells taken = (c.read_sides.ensures.syncs tells).told

pub returns-then-wanted-gt-MAX_SIDE-clause-taken : goal.returns-then-wanted-gt-MAX_SIDE-clause-taken
returns-then-wanted-gt-MAX_SIDE-clause-taken g c tells taken = (c.read_sides.ensures.syncs tells).told

pub returns-in_default-side_bytes-clause-taken : goal.returns-in_default-side_bytes-clause-taken
returns-in_default-side_bytes-clause-taken g c tells taken = (c.read_sides.ensures.syncs tells).told

pub returns-in-Err-set_up-clause-taken : goal.returns-in-Err-set_up-clause-taken
returns-in-Err-set_up-clause-taken g c tells taken = absurd (not_taken _ (c.why_taken.ensures.none (g.D.Disk.seen c.args.disk.now)
    (c.in-Ok.ensures.left tells) (c.in-Ok.ensures.right tells) (ap is_some c.in_default.is)) taken)

pub returns-clause-taken : goal.returns-clause-taken
returns-clause-taken g c tells taken = absurd (not_taken _ (c.why_taken.ensures.none (g.D.Disk.seen c.args.disk.now)
    (c.in-Ok.ensures.left tells) (c.in-Ok.ensures.right tells) (ap is_some c.in_default.is)) taken)
