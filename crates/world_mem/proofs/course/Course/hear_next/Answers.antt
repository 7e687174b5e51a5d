use Rattle.std.proofs.Common.{◌≡◌, inr, ◌-◌, List, [], ◌∷◌, ◌++◌, length, Option, IfSome, rules, sym, ◌∙◌, ap, subst}
use Rattle.imap_model.specs.WellFormed.{IsWellFormed}
use Rattle.imap_model.specs.declared.server.Server.{Server}
use Rattle.server_mem.specs.Answered.{IsAnswer}
use Rattle.server_mem.specs.declared.outcome.Answer.{Answer}
use Rattle.world_mem.specs.Image.{bytes_of}
use Rattle.world_mem.specs.Memory.{run_of}
use Rattle.world_mem.specs.Running.{Run, run, start, step}
use Rattle.world_mem.specs.Standing.{Stands, kept_as}
use Rattle.world_mem.specs.declared.course.Phase.TheVariants as phases
use Rattle.world_mem.specs.declared.did.Did.{Did}
use Rattle.world_mem.specs.declared.did.Did.TheVariants as did
use Rattle.world_mem.proofs.Doing.{one_did}
use Rattle.world_mem.proofs.Hearing.{heard_stands, heard_lost, left_behind, same_stands, phase_stands}
use Rattle.world_mem.proofs.course.Course.hear_next.Goals as goal

pub invariant_of-self-in_default : goal.invariant_of-self-in_default
invariant_of-self-in_default c =
    let w = c.args.self.now in
    let same : c.answer_next.new.self ≡ w.server = search rules in
    record {
      stands = same_stands w.files w.server c.answer_next.new.self w.phase w.held w.parts w.unfinished w.lines.items w.received (run_of w)
          (run c.reserve.new.self.items (start (bytes_of w.given) w.began.value w.began_held.value)) w.stands same
          (ap (λ (l : List Did). run l (start (bytes_of w.given) w.began.value w.began_held.value)) c.reserve.ensures.items);
    }

pub invariant_of-self-then-is_err : goal.invariant_of-self-then-is_err
invariant_of-self-then-is_err c =
    let w = c.args.self.now in
    let answer = c.in-Some.answer in
    let d = did.Heard answer.part answer.answered in
    let is : IsAnswer w.server answer c.answer_next.new.self = subst
    (λ (o : Option Answer). IfSome o (λ a. IsAnswer w.server a c.answer_next.new.self)) c.in-Some.is c.in-Ok.ensures.answered in
    let log : c.push_reserved.new.self.items ≡ w.log.items ++ d ∷ [] =
    c.push_reserved.ensures.items ∙ ap (λ (l : List Did). l ++ d ∷ []) c.reserve.ensures.items in
    let h = phase_stands w.files w.server w.phase phases.Hearing w.held w.parts w.unfinished w.lines.items w.received (run_of w) w.stands c.requires in
    record {
      stands = subst (λ (x : Run). Stands w.files c.answer_next.new.self phases.Off w.held c.keep_part-kept.new.parts
          (w.unfinished - length c.as_slice.result.now) c.extend_from_slice-told.new.self.items 0 x)
          (sym (one_did w.log.items c.push_reserved.new.self.items d (start (bytes_of w.given) w.began.value w.began_held.value) log))
          (heard_lost w.files w.server w.held w.parts w.unfinished w.lines.items w.received
          (run_of w) h answer c.answer_next.new.self c.keep_part-kept.new.parts
          (w.unfinished - length c.as_slice.result.now) c.extend_from_slice-told.new.self.items is
          (left_behind w.server answer c.answer_next.new.self w.unfinished c.as_slice.result.now is h.counted c.as_slice.ensures));
    }

pub returns-then-is_err-clause-broken : goal.returns-then-is_err-clause-broken
returns-then-is_err-clause-broken c =
    let w = c.args.self.now in
    let answer = c.in-Some.answer in
    let d = did.Heard answer.part answer.answered in
    let is : IsAnswer w.server answer c.answer_next.new.self = subst
    (λ (o : Option Answer). IfSome o (λ a. IsAnswer w.server a c.answer_next.new.self)) c.in-Some.is c.in-Ok.ensures.answered in
    let log : c.push_reserved.new.self.items ≡ w.log.items ++ d ∷ [] =
    c.push_reserved.ensures.items ∙ ap (λ (l : List Did). l ++ d ∷ []) c.reserve.ensures.items in
    inr (record {
      answer = answer;
      answers = is;
      run = one_did w.log.items c.push_reserved.new.self.items d
          (start (bytes_of w.given) w.began.value w.began_held.value) log;
      well =
          subst (λ (s : Server). IsWellFormed s.boxes) c.server.ensures.value c.server.ensures.well;
    })

pub invariant_of-self-then-is_err-2 : goal.invariant_of-self-then-is_err-2
invariant_of-self-then-is_err-2 c =
    let w = c.args.self.now in
    let answer = c.in-Some.answer in
    let d = did.Heard answer.part answer.answered in
    let is : IsAnswer w.server answer c.answer_next.new.self = subst
    (λ (o : Option Answer). IfSome o (λ a. IsAnswer w.server a c.answer_next.new.self)) c.in-Some.is c.in-Ok.ensures.answered in
    let log : c.push_reserved.new.self.items ≡ w.log.items ++ d ∷ [] =
    c.push_reserved.ensures.items ∙ ap (λ (l : List Did). l ++ d ∷ []) c.reserve.ensures.items in
    let h = phase_stands w.files w.server w.phase phases.Hearing w.held w.parts w.unfinished w.lines.items w.received (run_of w) w.stands c.requires in
    record {
      stands = subst (λ (x : Run). Stands w.files c.answer_next.new.self phases.Off w.held c.keep_part-kept.new.parts
          (w.unfinished - length c.as_slice.result.now) c.extend_from_slice-told.new.self.items 0 x)
          (sym (one_did w.log.items c.push_reserved.new.self.items d (start (bytes_of w.given) w.began.value w.began_held.value) log))
          (heard_lost w.files w.server w.held w.parts w.unfinished w.lines.items w.received
          (run_of w) h answer c.answer_next.new.self c.keep_part-kept.new.parts
          (w.unfinished - length c.as_slice.result.now) c.extend_from_slice-told.new.self.items is
          (left_behind w.server answer c.answer_next.new.self w.unfinished c.as_slice.result.now is h.counted c.as_slice.ensures));
    }

pub returns-then-is_err-2-clause-broken : goal.returns-then-is_err-2-clause-broken
returns-then-is_err-2-clause-broken c =
    let w = c.args.self.now in
    let answer = c.in-Some.answer in
    let d = did.Heard answer.part answer.answered in
    let is : IsAnswer w.server answer c.answer_next.new.self = subst
    (λ (o : Option Answer). IfSome o (λ a. IsAnswer w.server a c.answer_next.new.self)) c.in-Some.is c.in-Ok.ensures.answered in
    let log : c.push_reserved.new.self.items ≡ w.log.items ++ d ∷ [] =
    c.push_reserved.ensures.items ∙ ap (λ (l : List Did). l ++ d ∷ []) c.reserve.ensures.items in
    inr (record {
      answer = answer;
      answers = is;
      run = one_did w.log.items c.push_reserved.new.self.items d
          (start (bytes_of w.given) w.began.value w.began_held.value) log;
      well =
          subst (λ (s : Server). IsWellFormed s.boxes) c.server.ensures.value c.server.ensures.well;
    })

pub invariant_of-self-else-is_err-2 : goal.invariant_of-self-else-is_err-2
invariant_of-self-else-is_err-2 c =
    let w = c.args.self.now in
    let answer = c.in-Some.answer in
    let d = did.Heard answer.part answer.answered in
    let is : IsAnswer w.server answer c.answer_next.new.self = subst
    (λ (o : Option Answer). IfSome o (λ a. IsAnswer w.server a c.answer_next.new.self)) c.in-Some.is c.in-Ok.ensures.answered in
    let log : c.push_reserved.new.self.items ≡ w.log.items ++ d ∷ [] =
    c.push_reserved.ensures.items ∙ ap (λ (l : List Did). l ++ d ∷ []) c.reserve.ensures.items in
    let h = phase_stands w.files w.server w.phase phases.Hearing w.held w.parts w.unfinished w.lines.items w.received (run_of w) w.stands c.requires in
    let kept : c.keep_part-kept.new.parts ≡ kept_as answer.answered (w.parts ++ answer.part ∷ []) = search rules in
    let told : c.extend_from_slice-told.new.self.items ≡ w.lines.items ++ answer.lines.items = search rules in
    let now = heard_stands w.files w.server w.held w.parts w.unfinished w.lines.items w.received
    (run_of w) h answer c.answer_next.new.self c.keep_part-kept.new.parts
    (w.unfinished - length c.as_slice.result.now) c.extend_from_slice-told.new.self.items is kept
    (left_behind w.server answer c.answer_next.new.self w.unfinished c.as_slice.result.now is h.counted c.as_slice.ensures) told in
    let back = phase_stands w.files c.answer_next.new.self phases.Hearing w.phase w.held c.keep_part-kept.new.parts
    (w.unfinished - length c.as_slice.result.now) c.extend_from_slice-told.new.self.items w.received (step d (run_of w)) now
    (sym c.requires) in
    record {
      stands = subst (λ (x : Run). Stands w.files c.answer_next.new.self w.phase w.held c.keep_part-kept.new.parts
          (w.unfinished - length c.as_slice.result.now) c.extend_from_slice-told.new.self.items w.received x)
          (sym (one_did w.log.items c.push_reserved.new.self.items d (start (bytes_of w.given) w.began.value w.began_held.value) log)) back;
    }

pub returns-clause-more : goal.returns-clause-more
returns-clause-more c = λ more.
    let w = c.args.self.now in
    let answer = c.in-Some.answer in
    let d = did.Heard answer.part answer.answered in
    let is : IsAnswer w.server answer c.answer_next.new.self = subst
    (λ (o : Option Answer). IfSome o (λ a. IsAnswer w.server a c.answer_next.new.self)) c.in-Some.is c.in-Ok.ensures.answered in
    let log : c.push_reserved.new.self.items ≡ w.log.items ++ d ∷ [] =
    c.push_reserved.ensures.items ∙ ap (λ (l : List Did). l ++ d ∷ []) c.reserve.ensures.items in
    record {
      answer = answer;
      answers = is;
      run = one_did w.log.items c.push_reserved.new.self.items d
          (start (bytes_of w.given) w.began.value w.began_held.value) log;
      well =
          subst (λ (s : Server). IsWellFormed s.boxes) c.server.ensures.value c.server.ensures.well;
    }
