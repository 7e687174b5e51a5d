-- By how the command was carried out: well, or refused for a reason of the book's. Its words and its input are the command's.
use Rattle.std.proofs.Common.{◌∙◌, ap}
use Rattle.std.specs.Prelude.{map, string_bytes}
use Rattle.store_core.proofs.MailBook.{one_mail_event}
use Rattle.mail_drill.proofs.Foreseeing.{order_comes}
use Rattle.mail_drill.proofs.OrderAnswers.{done_answers, order_runs, reason_answers}
use Rattle.mail_drill.proofs.beginning.is_accepted.Goals as goal

pub returns-in-Done-clause-done : goal.returns-in-Done-clause-done
returns-in-Done-clause-done c =
    done_answers one_mail_event c.args.account.now c.args.order.now (map string_bytes c.deref.result.now) c.in_ok-input.input.items c.args.world.now.quiet
    c.carried_out_calmly.new.world.quiet c.in_ok-status.status c.in_ok-status.ensures.done.ran
    (ap (map string_bytes) c.deref.ensures.value ∙ c.in_ok-words.ensures) c.in_ok-input.ensures c.in-Done.is

pub returns-in-Reason-clause-done : goal.returns-in-Reason-clause-done
returns-in-Reason-clause-done c =
    reason_answers one_mail_event c.args.account.now c.args.order.now (map string_bytes c.deref.result.now) c.in_ok-input.input.items c.args.world.now.quiet
    c.carried_out_calmly.new.world.quiet c.in_ok-status.status c.in_ok-status.ensures.done.ran
    (ap (map string_bytes) c.deref.ensures.value ∙ c.in_ok-words.ensures) c.in_ok-input.ensures c.in-Reason.is

pub returns-in-Done-clause-runs : goal.returns-in-Done-clause-runs
returns-in-Done-clause-runs c =
    order_runs c.args.account.now c.args.order.now (map string_bytes c.deref.result.now) c.in_ok-input.input.items c.args.world.now.quiet
    c.carried_out_calmly.new.world.quiet c.in_ok-status.status c.in_ok-status.ensures.done.ran
    (ap (map string_bytes) c.deref.ensures.value ∙ c.in_ok-words.ensures) c.in_ok-input.ensures

pub returns-in-Reason-clause-runs : goal.returns-in-Reason-clause-runs
returns-in-Reason-clause-runs c =
    order_runs c.args.account.now c.args.order.now (map string_bytes c.deref.result.now) c.in_ok-input.input.items c.args.world.now.quiet
    c.carried_out_calmly.new.world.quiet c.in_ok-status.status c.in_ok-status.ensures.done.ran
    (ap (map string_bytes) c.deref.ensures.value ∙ c.in_ok-words.ensures) c.in_ok-input.ensures

pub returns-clause-foreseen : goal.returns-clause-foreseen
returns-clause-foreseen c =
    order_comes c.args.account.now c.args.order.now (map string_bytes c.deref.result.now) c.in_ok-input.input.items c.args.world.now.quiet
    c.carried_out_calmly.new.world.quiet c.in_ok-status.status c.in_ok-status.ensures.done
    (ap (map string_bytes) c.deref.ensures.value ∙ c.in_ok-words.ensures) c.in_ok-input.ensures c.in_default.not-Done c.in_default.not-Reason
