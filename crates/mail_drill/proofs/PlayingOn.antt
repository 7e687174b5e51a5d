-- A world whose files hold one book is one in which it is played back.
use Rattle.std.proofs.Common.{Some}
use Rattle.action_queue.specs.Book.{Meaning}
use Rattle.store_core.specs.Steps.{Firm}
use Rattle.play_driver.proofs.Progressing.{later_start}
use Rattle.mail_drill.specs.Standing.{HasOne, PlaysOn}
use Rattle.mail_drill.specs.declared.quiet_world.QuietWorld.{QuietWorld}

pub plays_on : (b : Meaning) (w : QuietWorld) → HasOne b w → PlaysOn b w
plays_on b w has = record {
  ready = record { one_side = has.one_side; books = Firm (Some b); have = has.leaves; each = tt };
  playing = record { each = λ files leaves. record { book = b; holds = has.leaves.each.each files leaves; later = later_start b } };
  kept = has.kept;
  fits = has.fits;
  sufficed = has.sufficed;
}
