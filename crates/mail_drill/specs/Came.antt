-- How one world came from another: by a run of the program, by another plan, or by a stop.
use Rattle.std.specs.Prelude.{◌≡◌, ℕ, List, Option, Some, None}
use Rattle.mail_base.specs.Account.{Credentials}
use Rattle.mail_base.specs.declared.status.Status.{Status}
use Rattle.imap_model.specs.declared.deed.Deed.{Deed}
use Rattle.mail_top.specs.Course.{Course}
use Rattle.mail_top.specs.Going.{Goes}
use Rattle.world_traits.specs.Files.{Files}
use Rattle.world_mem.specs.Both.{torn_at}
use Rattle.world_mem.specs.Image.{image_of}
use Rattle.world_mem.specs.Planned.{unbegun}
use Rattle.world_mem.specs.Restarting.{goes_on_from}
use Rattle.world_mem.specs.Worlds.{course_of, link_of, planned_of, run_in}
use Rattle.world_mem.specs.declared.mem_world.MemWorld.{MemWorld}
use Rattle.world_mem.specs.declared.plan.Plan.{Plan}

-- what the world's files read as, and each change that was made at its server
abbrev pub files_of : MemWorld → Files
files_of world = (run_in world).seen

abbrev pub history_of : MemWorld → List Deed
history_of world = (run_in world).state.server.history

-- the clock, what the files read as, and the link, each of both worlds
abbrev pub course_between : MemWorld → MemWorld → Course
course_between old new = record {
  old = (run_in old).clock;
  new = (run_in new).clock;
  seen = files_of old;
  seen_after = files_of new;
  link = link_of old;
  link_after = link_of new;
}

-- A run of the program with these words and this input, by some account, took one world to the other, and ended with this status and this
-- text.
pub record Runs (words : List (List ℕ)) (input : List ℕ) (old new : MemWorld) (s : Status) (text : List ℕ) : Type 0 where
  pub account : Credentials
  pub goes : Goes account words input (course_between old new) s text

-- The world is as it was, or goes on from the image that a pick takes of those that a stop leaves now.
abbrev pub ResumesBy : Option ℕ → MemWorld → MemWorld → Type 0
ResumesBy None old new = course_of new ≡ course_of old
ResumesBy (Some pick) old new = run_in new ≡ goes_on_from (image_of pick (torn_at (run_in old).clock.now (run_in old).seen)) (run_in old)

-- A round begins with this plan: where the program was to stop in the last one, from what the stop left. (That the calls of its run met
-- the plan no clause tells.)
pub record Begins (pick : Option ℕ) (plan : Plan) (old new : MemWorld) : Type 0 where
  pub resumes : ResumesBy pick old new
  pub planned : planned_of new ≡ unbegun plan
