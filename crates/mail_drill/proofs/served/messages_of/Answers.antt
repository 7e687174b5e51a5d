use Rattle.std.proofs.Common.{◌≡◌, ℕ, zero, suc, ◌+◌, ◌-◌, ◌≤◌, List, [], ◌∷◌, ◌++◌, ◌∙◌, ap, arith}
use Rattle.imap_model.specs.declared.server.Message.{Message}
use Rattle.mail_drill.specs.Beginning.{message_at_first, messages_at_first}
use Rattle.mail_drill.proofs.served.messages_of.Goals as goal
use Rattle.mail_drill.proofs.served.messages_of.Goals.{else-loop-number-test, then-loop-number-test+in_ok-message_of+in_ok-push+else-number-size}

-- the messages below a number and that of the number are those below the next number
one_more : (n : ℕ) → 1 ≤ n → messages_at_first (n - 1) ++ message_at_first n ∷ [] ≡ messages_at_first (n + 1 - 1)
one_more zero some = absurd (omega arith)
one_more (suc k) some =
    let here : suc k - 1 ≡ k = omega arith in
    let next : suc k ≡ suc k + 1 - 1 = omega arith in
    ap (λ (j : ℕ). messages_at_first j ++ message_at_first (suc k) ∷ []) here ∙ ap messages_at_first next

-- one more behind those below its number
pushed : (n : ℕ) (m : Message) (ms new : List Message) → 1 ≤ n → m ≡ message_at_first n → new ≡ ms ++ m ∷ [] → ms ≡ messages_at_first (n - 1) →
    new ≡ messages_at_first (n + 1 - 1)
pushed n m ms new some is done below =
    done ∙ ap (λ (l : List Message). l ++ m ∷ []) below ∙ ap (λ (x : Message). messages_at_first (n - 1) ++ x ∷ []) is ∙ one_more n some

-- behind the last number all are there
all_there : (n size : ℕ) (ms last : List Message) → n - 1 ≡ size → last ≡ ms → ms ≡ messages_at_first (n - 1) → last ≡ messages_at_first size
all_there n size ms last is same below = same ∙ below ∙ ap messages_at_first is

pub loop-number-preserved : goal.loop-number-preserved
loop-number-preserved c = record {
  below =
      pushed c.loop-number.number c.in_ok-message_of.field-0 c.loop-number.messages c.push.new.self (omega arith) c.in_ok-message_of.ensures
      c.in_ok-push.ensures.done c.loop-number.invariant.below;
  within = omega arith;
}

pub returns : goal.returns
returns c = elim c.loop-number-test.branch [
  | else-loop-number-test w ↦
      all_there c.loop-number.number c.args.size c.loop-number.messages c.loop-number-test.messages (omega arith) w.messages-is
      c.loop-number.invariant.below
  | then-loop-number-test+in_ok-message_of+in_ok-push+else-number-size w ↦
      all_there (c.loop-number.number + 1) c.args.size w.push.new.self c.loop-number-test.messages (omega arith) w.messages-is
      (pushed c.loop-number.number w.in_ok-message_of.field-0 c.loop-number.messages w.push.new.self (omega arith) w.in_ok-message_of.ensures
      w.in_ok-push.ensures.done c.loop-number.invariant.below)
]
