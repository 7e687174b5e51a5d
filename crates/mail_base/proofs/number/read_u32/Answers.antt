use Rattle.std.proofs.Common.{Ok, Err}
use Rattle.mail_base.proofs.Stopping.{exactly}
use Rattle.mail_base.proofs.number.read_u32.Goals as goal

pub returns-in-Ok : goal.returns-in-Ok
returns-in-Ok c = let e = exactly 4294967295 c.args.text.now (Ok c.in-Ok.number) c.in-Ok.ensures in
    record { value = e.value; empty = e.empty; not_digit = e.not_digit; too_big = e.too_big; not_zero = e.not_zero }

pub returns-in-Err : goal.returns-in-Err
returns-in-Err c = let e = exactly 4294967295 c.args.text.now (Err c.in-Err.fault) c.in-Err.ensures in
    record { value = e.value; empty = e.empty; not_digit = e.not_digit; too_big = e.too_big; not_zero = e.not_zero }
