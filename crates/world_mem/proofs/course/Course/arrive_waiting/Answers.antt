use Rattle.std.proofs.Common.{◌≡◌, inl, inr, ℕ, List, [], ◌∷◌, ◌++◌, Option, Some, None, IfSome, rules, refl, sym, ◌∙◌, ap, subst}
use Rattle.std.specs.Prelude.{IfNone}
use Rattle.imap_model.specs.Talking.{arrived}
use Rattle.command_texts.specs.HeardParts.{IsWhole}
use Rattle.world_traits.specs.Links.{Linked, AnyStep}
use Rattle.world_traits.specs.Sends.{Arrives}
use Rattle.world_mem.specs.Image.{bytes_of}
use Rattle.world_mem.specs.Losing.{CompletesNone}
use Rattle.world_mem.specs.Memory.{run_of, sent_of}
use Rattle.world_mem.specs.Running.{Run, run, start}
use Rattle.world_mem.specs.Standing.{Stands}
use Rattle.world_mem.specs.declared.course.Phase.TheVariants as phases
use Rattle.world_mem.specs.declared.did.Did.{Did}
use Rattle.world_mem.specs.declared.did.Did.TheVariants as did
use Rattle.world_mem.specs.declared.did.Held.{Held}
use Rattle.world_mem.proofs.Answering.{one_step}
use Rattle.world_mem.proofs.Doing.{one_did}
use Rattle.world_mem.proofs.Hearing.{phase_stands}
use Rattle.world_mem.proofs.Parts.{none_of_some, sent_none, waits_now}
use Rattle.world_mem.proofs.Sending.{waited_stands, waits_there}
use Rattle.world_mem.proofs.Lines.{anyway}
use Rattle.world_mem.proofs.course.Course.arrive_waiting.Goals as goal

pub invariant_of-self-2 : goal.invariant_of-self-2
invariant_of-self-2 c =
    let w = c.args.self.now in
    let found = c.in-Some.held in
    let x : Held = record { part = found.part; tag = found.tag; command = found.command; carried = c.args.carried } in
    let none : w.unfinished ≡ 0 = subst (λ (o : Option Held). IfSome o (λ h. w.unfinished ≡ 0)) c.in-Some.is c.in_ok-held.ensures.ends in
    let part : found.part ≡ c.args.bytes.now = subst (λ (o : Option Held). IfSome o (λ h. h.part ≡ c.args.bytes.now)) c.in-Some.is c.in_ok-held.ensures.part in
    let whole : IsWhole found.tag found.command (w.parts ++ c.args.bytes.now ∷ []) =
    subst (λ (o : Option Held). IfSome o (λ h. IsWhole h.tag h.command (w.parts ++ c.args.bytes.now ∷ []))) c.in-Some.is
    c.in_ok-held.ensures.whole in
    let own : c.in_ok-own.own ≡ x = c.in_ok-own.ensures in
    let log : c.push_reserved.new.self.items ≡ w.log.items ++ did.Waited x ∷ [] =
    c.push_reserved.ensures.items ∙ ap (λ (l : List Did). l ++ did.Waited c.in_ok-own.own ∷ []) c.reserve.ensures.items
    ∙ ap (λ (h : Held). w.log.items ++ did.Waited h ∷ []) own in
    let h = phase_stands w.files w.server w.phase phases.On w.held w.parts w.unfinished w.lines.items w.received (run_of w) w.stands c.requires in
    record {
      stands = subst (λ (y : Run). Stands w.files w.server phases.Waiting (Some x) w.parts w.unfinished w.lines.items w.received y)
          (sym (one_did w.log.items c.push_reserved.new.self.items (did.Waited x)
          (start (bytes_of w.given) w.began.value w.began_held.value) log))
          (waited_stands w.files w.server w.held w.parts w.unfinished w.lines.items w.received (run_of w) h x none
          (subst (λ (b : List ℕ). IsWhole found.tag found.command (w.parts ++ b ∷ [])) (sym part) whole));
    }

pub returns-clause-arrives : goal.returns-clause-arrives
returns-clause-arrives c = record {
  earlier = search rules;
  files =
      let w = c.args.self.now in
      let found = c.in-Some.held in
      let x : Held = record { part = found.part; tag = found.tag; command = found.command; carried = c.args.carried } in
      let own : c.in_ok-own.own ≡ x = c.in_ok-own.ensures in
      let log : c.push_reserved.new.self.items ≡ w.log.items ++ did.Waited x ∷ [] =
      c.push_reserved.ensures.items ∙ ap (λ (l : List Did). l ++ did.Waited c.in_ok-own.own ∷ []) c.reserve.ensures.items
      ∙ ap (λ (h : Held). w.log.items ++ did.Waited h ∷ []) own in
      subst (λ (y : Run). Linked AnyStep (run_of w).clock y.clock)
      (sym (one_did w.log.items c.push_reserved.new.self.items (did.Waited x)
      (start (bytes_of w.given) w.began.value w.began_held.value) log))
      (one_step AnyStep (arrived x.tag x.command [] [] []) (run_of w).clock tt);
  some = search rules;
  front = search rules;
}

pub returns-clause-told : goal.returns-clause-told
returns-clause-told c = λ tag command before behind is awaits.
    let w = c.args.self.now in
    let found = c.in-Some.held in
    let x : Held = record { part = found.part; tag = found.tag; command = found.command; carried = c.args.carried } in
    let whole : IsWhole found.tag found.command (w.parts ++ c.args.bytes.now ∷ []) =
    subst (λ (o : Option Held). IfSome o (λ h. IsWhole h.tag h.command (w.parts ++ c.args.bytes.now ∷ []))) c.in-Some.is
    c.in_ok-held.ensures.whole in
    let own : c.in_ok-own.own ≡ x = c.in_ok-own.ensures in
    let log : c.push_reserved.new.self.items ≡ w.log.items ++ did.Waited x ∷ [] =
    c.push_reserved.ensures.items ∙ ap (λ (l : List Did). l ++ did.Waited c.in_ok-own.own ∷ []) c.reserve.ensures.items
    ∙ ap (λ (h : Held). w.log.items ++ did.Waited h ∷ []) own in
    record {
      done = subst (λ (y : Run). Arrives tag command before c.args.bytes.now behind (run_of w).clock y.clock)
          (sym (one_did w.log.items c.push_reserved.new.self.items (did.Waited x)
          (start (bytes_of w.given) w.began.value w.began_held.value) log))
          (waits_there w c.requires tag command before c.args.bytes.now behind is awaits c.no_text_is_a_front.ensures x.tag x.command whole);
      failed = tt;
    }

pub returns-clause-waits : goal.returns-clause-waits
returns-clause-waits c =
    let w = c.args.self.now in
    let found = c.in-Some.held in
    let x : Held = record { part = found.part; tag = found.tag; command = found.command; carried = c.args.carried } in
    let none : w.unfinished ≡ 0 = subst (λ (o : Option Held). IfSome o (λ h. w.unfinished ≡ 0)) c.in-Some.is c.in_ok-held.ensures.ends in
    let part : found.part ≡ c.args.bytes.now = subst (λ (o : Option Held). IfSome o (λ h. h.part ≡ c.args.bytes.now)) c.in-Some.is c.in_ok-held.ensures.part in
    let whole : IsWhole found.tag found.command (w.parts ++ c.args.bytes.now ∷ []) =
    subst (λ (o : Option Held). IfSome o (λ h. IsWhole h.tag h.command (w.parts ++ c.args.bytes.now ∷ []))) c.in-Some.is
    c.in_ok-held.ensures.whole in
    let own : c.in_ok-own.own ≡ x = c.in_ok-own.ensures in
    let log : c.push_reserved.new.self.items ≡ w.log.items ++ did.Waited x ∷ [] =
    c.push_reserved.ensures.items ∙ ap (λ (l : List Did). l ++ did.Waited c.in_ok-own.own ∷ []) c.reserve.ensures.items
    ∙ ap (λ (h : Held). w.log.items ++ did.Waited h ∷ []) own in
    inl (waits_now w c.requires c.args.carried c.args.bytes.now x
    (run c.push_reserved.new.self.items (start (bytes_of w.given) w.began.value w.began_held.value)) none part refl whole
    (one_did w.log.items c.push_reserved.new.self.items (did.Waited x) (start (bytes_of w.given) w.began.value w.began_held.value) log))

pub returns-in_default-clause-waits : goal.returns-in_default-clause-waits
returns-in_default-clause-waits c =
    let none : c.in_ok-held.field-0 ≡ None = search rules in
    inr (
      subst (λ (o : Option Held). IfNone o (CompletesNone c.args.bytes.now c.args.self.now.server)) none c.in_ok-held.ensures.none,
      c.in_ok-arrive_last.ensures.last,
    )

pub returns-in_err-held-clause-arrives : goal.returns-in_err-held-clause-arrives
returns-in_err-held-clause-arrives c = record {
  earlier = search rules;
  files = search rules;
  some = let w = c.args.self.now in anyway c.from_residual.result (none_of_some c.args.bytes.now w.server (run_of w) (run_of w) refl);
  front = anyway c.from_residual.result (sent_none c.args.bytes.now (sent_of c.args.self.now) (sent_of c.args.self.now) refl);
}

pub returns-in_err-own-clause-arrives : goal.returns-in_err-own-clause-arrives
returns-in_err-own-clause-arrives c = record {
  earlier = search rules;
  files = search rules;
  some = let w = c.args.self.now in anyway c.from_residual-in_err-own.result (none_of_some c.args.bytes.now w.server (run_of w) (run_of w) refl);
  front = anyway c.from_residual-in_err-own.result (sent_none c.args.bytes.now (sent_of c.args.self.now) (sent_of c.args.self.now) refl);
}

pub returns-in_err-reserve-clause-arrives : goal.returns-in_err-reserve-clause-arrives
returns-in_err-reserve-clause-arrives c = record {
  earlier = search rules;
  files = search rules;
  some =
      let w = c.args.self.now in
      anyway c.from_residual-in_err-reserve.result
      (none_of_some c.args.bytes.now w.server (run_of w) (run c.reserve.new.self.items (start (bytes_of w.given) w.began.value w.began_held.value))
      (ap (λ (l : List Did). run l (start (bytes_of w.given) w.began.value w.began_held.value)) c.reserve.ensures.items));
  front = anyway c.from_residual-in_err-reserve.result (sent_none c.args.bytes.now (sent_of c.args.self.now) (sent_of c.args.self.now) refl);
}

pub returns-in_err-extend_from_slice-clause-arrives : goal.returns-in_err-extend_from_slice-clause-arrives
returns-in_err-extend_from_slice-clause-arrives c = record {
  earlier = search rules;
  files = search rules;
  some =
      let w = c.args.self.now in
      anyway c.from_residual-in_err-extend_from_slice.result
      (none_of_some c.args.bytes.now w.server (run_of w) (run c.reserve.new.self.items (start (bytes_of w.given) w.began.value w.began_held.value))
      (ap (λ (l : List Did). run l (start (bytes_of w.given) w.began.value w.began_held.value)) c.reserve.ensures.items));
  front =
      let same : c.extend_from_slice.new.self.items ≡ sent_of c.args.self.now = search rules in
      anyway c.from_residual-in_err-extend_from_slice.result
      (sent_none c.args.bytes.now (sent_of c.args.self.now) c.extend_from_slice.new.self.items same);
}
