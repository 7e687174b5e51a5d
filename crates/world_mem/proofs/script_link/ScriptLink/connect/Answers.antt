use Rattle.std.proofs.Common.{◌≡◌, ℕ, List, [], ◌∷◌, ◌++◌, true, reverse, ◌∙◌, ap, ap₂, subst}
use Rattle.std.proofs.lemmas.List.{reverse-append}
use Rattle.world_mem.specs.Scripted.{Scripted}
use Rattle.world_mem.proofs.script_link.ScriptLink.connect.Goals as goal

pub returns-clause-done : goal.returns-clause-done
returns-clause-done c =
    let was = c.self.inside in
    let fields : Scripted = record {
      script = was.script.items;
      given = was.given;
      began = was.began;
      on = was.on;
      sent = was.sent.items;
      faults = was.faults;
      earlier = reverse was.earlier.items;
    } in
    let sent : c.of.result ≡ was.sent.items = c.of.ensures ∙ ap (λ v. v.items) c.replace-sent.ensures.value in
    let none : c.replace-sent.new.dest.items ≡ [] = ap (λ v. v.items) c.replace-sent.ensures.after ∙ c.new.ensures.items in
    let earlier : reverse c.push_reserved.new.self.items ≡ was.sent.items ∷ reverse was.earlier.items =
    ap reverse (c.push_reserved.ensures.items ∙ ap (λ (l : List (List ℕ)). l ++ c.of.result ∷ []) c.reserve.ensures.items)
    ∙ reverse-append was.earlier.items (c.of.result ∷ [])
    ∙ ap (λ (b : List ℕ). b ∷ reverse was.earlier.items) sent in
    subst (λ (p : Scripted). ◌≡◌ {A = Scripted} (record fields {
      began = fields.given;
      on = true;
      sent = c.replace-sent.new.dest.items;
      earlier = reverse c.push_reserved.new.self.items;
    }) (record p { began = p.given; on = true; sent = []; earlier = p.sent ∷ p.earlier })) c.self.view_is
    (ap₂ (λ (s : List ℕ) (e : List (List ℕ)). record fields { began = fields.given; on = true; sent = s; earlier = e }) none earlier)
