-- What was received is always a front of lines of what was told.
-- These lemmas stand beside the definitions, since the law of an impl cites them.
use Rattle.std.proofs.Common.{◌≡◌, ℕ, List, Some, take, drop, take-append-drop, sym, subst}
use Rattle.std.proofs.Math.Logic.{∥∥₁_map}
use Rattle.std.proofs.lemmas.Option.{none-some, same_Some}
use Rattle.imap_model.specs.Lines.{AreLines, Received}
use Rattle.imap_model.specs.declared.response.Response.{Response}
use Rattle.world_traits.specs.LinkState.{Connection}
use Rattle.world_mem.specs.Memory.{run_of, connection_of}
use Rattle.world_mem.specs.Standing.{TellsIn, is_on, connection_in}
use Rattle.world_mem.specs.declared.course.Course.{Course}
use Rattle.world_mem.specs.declared.course.Phase.{Phase}
use Rattle.world_mem.specs.declared.course.Phase.TheVariants as phases

-- so many bytes of the lines are a front of them
front : (told : List Response) (lines : List ℕ) (received : ℕ) → AreLines told lines → Received told (take received lines)
front told lines received are = record { rest = drop received lines; lines = subst (AreLines told) (sym (take-append-drop received lines)) are }

-- where there is a connection, they are what was received
received_in : (phase : Phase) (told : List Response) (lines : List ℕ) (received : ℕ) (c : Connection)
    → connection_in (is_on phase) lines received ≡ Some c → ∥ TellsIn phase told lines ∥₁ → ∥ Received told c.received ∥₁
received_in phases.Off told lines received c is tells = absurd (none-some c is)
received_in phases.On told lines received c is tells =
    subst (λ (x : Connection). ∥ Received told x.received ∥₁) (same_Some (record { received = take received lines }) c is)
    (∥∥₁_map tells (front told lines received))
received_in phases.Hearing told lines received c is tells = absurd (none-some c is)
received_in phases.Waiting told lines received c is tells = absurd (none-some c is)

pub honest : (course : Course) (c : Connection) → connection_of course ≡ Some c → ∥ Received (run_of course).clock.now.outside.talk.told c.received ∥₁
honest course c is =
    received_in course.phase (run_of course).clock.now.outside.talk.told course.lines.items course.received c is course.stands.told
