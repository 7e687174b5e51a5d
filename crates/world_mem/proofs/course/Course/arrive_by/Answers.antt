use Rattle.std.proofs.Common.{◌≡◌, ◌≤◌, inr, ℕ, List, ◌++◌, length, OnOk, rules, sym, subst}
use Rattle.std.proofs.lemmas.List.{append-nil, take_all}
use Rattle.imap_model.specs.Talking.{Answering}
use Rattle.world_traits.specs.Links.{Linked}
use Rattle.world_mem.specs.Losing.{HearsLast, Loses}
use Rattle.world_mem.specs.Memory.{run_of, sent_of}
use Rattle.world_mem.specs.Planned.{arriving}
use Rattle.world_mem.specs.Running.{Run}
use Rattle.world_mem.specs.declared.plan.Loss.{Loss}
use Rattle.world_mem.proofs.Answering.{linked_start}
use Rattle.world_mem.proofs.Sending.{sent_or_linked}
use Rattle.world_mem.proofs.course.Course.arrive_by.Goals as goal

pub returns-then-count-bytes-clause-told : goal.returns-then-count-bytes-clause-told
returns-then-count-bytes-clause-told c = λ tag command before behind is awaits.
    sent_or_linked tag command before c.args.bytes.now behind (run_of c.args.self.now).clock
    (run_of c.arrive_last.new.self).clock c.arrive_last.result (c.arrive_last.ensures.told tag command before behind is awaits)

pub returns-else-count-bytes-clause-told : goal.returns-else-count-bytes-clause-told
returns-else-count-bytes-clause-told c = λ tag command before behind is awaits.
    inr (subst (λ (r : Run). Linked Answering (run_of c.args.self.now).clock r.clock)
    (sym (c.arrive_front.ensures.told tag command before behind is awaits)) (linked_start Answering (run_of c.args.self.now).clock))

pub returns-in-All-clause-told : goal.returns-in-All-clause-told
returns-in-All-clause-told c = λ tag command before behind is awaits.
    sent_or_linked tag command before c.args.bytes.now behind (run_of c.args.self.now).clock
    (run_of c.arrive_last-in-All.new.self).clock c.arrive_last-in-All.result
    (c.arrive_last-in-All.ensures.told tag command before behind is awaits)

pub returns-in-Waits-clause-told : goal.returns-in-Waits-clause-told
returns-in-Waits-clause-told c = λ tag command before behind is awaits.
    sent_or_linked tag command before c.args.bytes.now behind (run_of c.args.self.now).clock
    (run_of c.arrive_waiting.new.self).clock c.arrive_waiting.result (c.arrive_waiting.ensures.told tag command before behind is awaits)

pub returns-then-count-bytes-clause-whole : goal.returns-then-count-bytes-clause-whole
returns-then-count-bytes-clause-whole c = λ long. c.arrive_last.ensures.told

pub returns-else-count-bytes-clause-short : goal.returns-else-count-bytes-clause-short
returns-else-count-bytes-clause-short c = λ short. c.arrive_front.ensures.told

pub returns-in-All-clause-whole : goal.returns-in-All-clause-whole
returns-in-All-clause-whole c = λ long. c.arrive_last-in-All.ensures.told

pub returns-in-Waits-clause-whole : goal.returns-in-Waits-clause-whole
returns-in-Waits-clause-whole c = λ long. c.arrive_waiting.ensures.told

-- a part that is all of the bytes
pub returns-then-count-bytes-clause-loses : goal.returns-then-count-bytes-clause-loses
returns-then-count-bytes-clause-loses c =
    let w = c.args.self.now in
    let bytes = c.args.bytes.now in
    let long : length bytes ≤ c.in-Part.count = search rules in
    let last = subst (λ (b : List ℕ). OnOk c.arrive_last.result (HearsLast b w.server (run_of w) (run_of c.arrive_last.new.self)))
    (sym (take_all c.in-Part.count bytes long)) c.arrive_last.ensures.last in
    subst (λ (l : Loss). OnOk c.arrive_last.result (Loses l bytes w.server (run_of w) (run_of c.arrive_last.new.self))) (sym c.in-Part.is) last

pub returns-then-count-bytes-clause-sent : goal.returns-then-count-bytes-clause-sent
returns-then-count-bytes-clause-sent c =
    let bytes = c.args.bytes.now in
    let before = sent_of c.args.self.now in
    let long : length bytes ≤ c.in-Part.count = search rules in
    let sent = subst (λ (b : List ℕ). OnOk c.arrive_last.result (sent_of c.arrive_last.new.self ≡ before ++ b))
    (sym (take_all c.in-Part.count bytes long)) c.arrive_last.ensures.sent in
    subst (λ (l : Loss). OnOk c.arrive_last.result (sent_of c.arrive_last.new.self ≡ before ++ arriving l bytes)) (sym c.in-Part.is) sent

pub returns-in-Nothing-clause-sent : goal.returns-in-Nothing-clause-sent
returns-in-Nothing-clause-sent c =
    let before = sent_of c.args.self.now in subst (λ (l : Loss). before ≡ before ++ arriving l c.args.bytes.now) (sym c.in-Nothing.is) (sym (append-nil before))
