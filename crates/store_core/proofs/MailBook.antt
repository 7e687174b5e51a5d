-- What is known of the mail book alone: a body spells one event, and what may come breaks no rule.
use Rattle.std.proofs.Common.{◌≡◌, sym, false, Option, Some, None}
use Rattle.std.specs.Option.{is_some}
use Rattle.journal_core.specs.declared.version.Version.{Version}
use Rattle.action_queue.specs.declared.event.Event.{Event}
use Rattle.action_queue.specs.Book.{Meaning}
use Rattle.action_queue.specs.Events.{IsLawful}
use Rattle.action_queue.specs.declared.rule.Rule.{Rule}
use Rattle.action_queue.specs.Rules.{first_broken}
use Rattle.record_codec.proofs.OneByOne.{one_event}
use Rattle.store_core.specs.Mail.{mail, rules_of, MayCome}
use Rattle.store_core.proofs.Folding.{OneEvent}

pub one_mail_event : OneEvent mail
one_mail_event = one_event

-- what may come in a journal of a version is lawful
pub lawful_in : (v : Version) (b : Meaning) (e : Event) → MayCome v (Some b) e → IsLawful b e
lawful_in v b e may = record { version = rules_of v; unbroken = may }

-- what breaks no rule may come
pub may_as : (v : Version) (b : Meaning) (e : Event) (r : Option Rule) → r ≡ first_broken (rules_of v) b e → false ≡ is_some r → MayCome v (Some b) e
may_as v b e None told none = sym told
may_as v b e (Some rule) told none = absurd cc
