-- A connection to a server in memory goes on: it is level with what was told, and serves, part by part.
use Rattle.std.proofs.Common.{◌≡◌, inl, inr, ℕ, Bool, true, false, List, [], ◌∷◌, ◌++◌, Option, Some, None, take, drop, refl, sym, ◌∙◌, ap, subst, if◌then◌else◌}
use Rattle.std.proofs.Common.{append-nil, take-append-drop}
use Rattle.std.proofs.Math.Logic.{∥∥₁_elim}
use Rattle.std.proofs.lemmas.Bool.{true≢false}
use Rattle.std.proofs.lemmas.Option.{none-some, same_Some}
use Rattle.imap_model.specs.Lines.{AreLines}
use Rattle.imap_model.specs.PlainServer.{Choices}
use Rattle.imap_model.specs.Talking.{Arriving, IsDue, arrived}
use Rattle.server_mem.specs.Hearing.{with_bytes}
use Rattle.server_mem.specs.States.{State}
use Rattle.server_mem.specs.declared.outcome.Answered.{Answered}
use Rattle.server_mem.specs.declared.outcome.Answered.TheVariants as answers
use Rattle.world_traits.specs.LinkState.{Connection}
use Rattle.world_traits.specs.Moments.{Clock}
use Rattle.world_mem.specs.Both.{Both}
use Rattle.world_mem.specs.Heard.{HearsBytes, HearsParts, hears, left_over, stops}
use Rattle.world_mem.specs.Losing.{Loses}
use Rattle.world_mem.specs.Running.{Run, step, unfinished, waiting_of, with_front}
use Rattle.world_mem.specs.Standing.{Stands, came, coming, connection_in, is_on}
use Rattle.world_mem.specs.Worlds.{connection_at, course_of, run_in, server_of}
use Rattle.world_mem.specs.declared.course.Course.{Course}
use Rattle.world_mem.specs.declared.course.Phase.{Phase}
use Rattle.world_mem.specs.declared.course.Phase.TheVariants as phases
use Rattle.world_mem.specs.declared.did.Did.TheVariants as did
use Rattle.world_mem.specs.declared.did.Held.{Held}
use Rattle.world_mem.specs.declared.mem_world.MemWorld.{MemWorld}
use Rattle.world_mem.specs.declared.plan.Loss.{Loss}
use Rattle.world_mem.specs.declared.plan.Loss.TheVariants as losses
use Rattle.mail_drill.specs.Connected.{IsBare, IsMade, IsServedFrom}
use Rattle.mail_drill.specs.Doing.{IsLevel}
use Rattle.mail_drill.specs.Offering.{OffersAll}
use Rattle.mail_drill.proofs.ServedSteps.{answered_choices, on_heard, on_peer}

-- a part that is answered leaves the connection level
heard_level : (part : List ℕ) (a : Answered) (r : Run) → IsLevel r → IsLevel (step (did.Heard part a) r)
heard_level part (answers.Carried tag command) r level = record { quiet = refl; selected = refl; server = refl }
heard_level part (answers.Asked tag) r level = record { quiet = level.quiet; selected = level.selected; server = level.server }
heard_level part (answers.Refused tag) r level = record { quiet = level.quiet; selected = level.selected; server = level.server }
heard_level part (answers.Bad tag) r level = record { quiet = level.quiet; selected = level.selected; server = level.server }

-- A connection goes on so: this is the server with the bytes that have come.
pub record IsGoing (made : Clock) (s : State) (r : Run) : Type 0 where
  pub each_open : s.choices.closed ≡ None
  pub offers : OffersAll r.state.choices
  pub level : IsLevel r
  pub served : IsServedFrom made r.clock

-- and so it stands behind it
pub record StandsServed (made : Clock) (r : Run) : Type 0 where
  pub offers : OffersAll r.state.choices
  pub served : IsServedFrom made r.clock

module _ (made : Clock) where
  parts_going : (s : State) (r : Run) (u : State) (v : Run) → HearsParts s r u v → IsGoing made s r → IsGoing made u v
  parts_going s r u v stops going = going
  parts_going s r u v (hears {t = t} {q = q} before one) going =
      let so : IsGoing made t q = parts_going s r t q before going in
      let part = one.answer.part in
      let answer = one.answer.answered in
      let asked : List (List ℕ) = t.parts ++ part ∷ [] in
      record {
        each_open = ap (λ (x : State). x.choices.closed) one.answers.after
            ∙ ap (λ (c : Choices). c.closed) (answered_choices (record t { begun = one.answers.rest }) asked answer) ∙ so.each_open;
        offers = subst (λ (x : Run). OffersAll x.state.choices) (sym one.run)
            (subst OffersAll (sym (answered_choices q.state (q.state.parts ++ part ∷ []) answer)) so.offers);
        level = subst IsLevel (sym one.run) (heard_level part answer q so.level);
        served = subst (λ (x : Run). IsServedFrom made x.clock) (sym one.run)
            (on_heard made t so.each_open part q so.offers so.level so.served answer asked one.answers.may);
      }

  going_stands : (s : State) (r : Run) → IsGoing made s r → StandsServed made r
  going_stands s r going = record { offers = going.offers; served = going.served }

  left_served : (bytes : List ℕ) (r : Run) → StandsServed made r → StandsServed made (left_over bytes r)
  left_served [] r is = is
  left_served (byte ∷ bytes) r is = record { offers = is.offers; served = on_peer made (with_front unfinished) r.clock refl is.served }

  starts_going : (bytes : List ℕ) (s : State) (r : Run) → IsGoing made s r → IsGoing made (with_bytes bytes s) r
  starts_going bytes s r going = record { each_open = going.each_open; offers = going.offers; level = going.level; served = going.served }

  -- bytes come
  pub bytes_served : (bytes : List ℕ) (s : State) (old : Run) (u : State) (new : Run) → HearsBytes bytes s old u new → IsGoing made s old →
      StandsServed made new
  bytes_served bytes s old u new h going =
      subst (StandsServed made) (sym h.left)
      (left_served u.begun h.mid
      (going_stands u h.mid (parts_going (with_bytes bytes s) old u h.mid h.all.parts (starts_going bytes s old going))))

  -- they come as the connection is lost
  pub loses_served : (loss : Loss) (bytes : List ℕ) (s : State) (old new : Run) → Loses loss bytes s old new → IsGoing made s old →
      StandsServed made new
  loses_served losses.Nothing bytes s old new same going = subst (StandsServed made) (sym same) (going_stands s old going)
  loses_served (losses.Part count) bytes s old new h going =
      going_stands h.after new (parts_going (with_bytes (take count bytes) s) old h.after new h.all.parts (starts_going (take count bytes) s old going))
  loses_served losses.All bytes s old new h going =
      going_stands h.after new (parts_going (with_bytes bytes s) old h.after new h.all.parts (starts_going bytes s old going))
  loses_served (losses.Waits carried) bytes s old new (inl waits) going =
      subst (StandsServed made) (sym waits.run) (record { offers = going.offers; served = on_peer made (arrived waits.held.tag waits.held.command [] [] []) old.clock refl going.served })
  loses_served (losses.Waits carried) bytes s old new (inr both) going =
      going_stands both.1.after new
      (parts_going (with_bytes bytes s) old both.1.after new both.1.all.parts (starts_going bytes s old going))

-- where there is a connection, it is level, and the world's server offers what is offered in it
level_on : (phase : Phase) (c : Connection) (files : Both) (server : State) (held : Option Held) (parts : List (List ℕ)) (left : ℕ) (lines : List ℕ)
    (received : ℕ) (r : Run) → connection_in (is_on phase) lines received ≡ Some c → Stands files server phase held parts left lines received r →
    IsLevel r × (server.choices ≡ r.state.choices)
level_on phases.Off c files server held parts left lines received r there stands = absurd (none-some c there)
level_on phases.On c files server held parts left lines received r there stands = (
  record {
    quiet = stands.waits ∙ ap (waiting_of r.state) (sym stands.held_is);
    selected = stands.selected_fits;
    server = stands.server_fits;
  },
  ap (λ (s : State). s.choices) stands.server_is,
)
level_on phases.Hearing c files server held parts left lines received r there stands = absurd (none-some c there)
level_on phases.Waiting c files server held parts left lines received r there stands = absurd (none-some c there)

pub world_going : (w : MemWorld) (c : Connection) → connection_at w ≡ Some c → OffersAll (run_in w).state.choices → (is : IsMade (run_in w).clock) →
    IsGoing is.made (server_of w) (run_in w)
world_going w c there offers is =
    let k : Course = course_of w in
    let both = level_on k.phase c k.files k.server k.held k.parts k.unfinished k.lines.items k.received (run_in w) there k.stands in
    record {
      each_open = ap (λ (x : Choices). x.closed) both.1 ∙ offers.each_open;
      offers = offers;
      level = both.0;
      served = is.served;
    }

-- Where nothing waits to be received though a reply is due, bytes have come that aren't a whole part.
asked_not : (a : Arriving) (parts : List (List ℕ)) → a.asked ≡ false → Some (a.asked, a.parts) ≡ coming false parts → ⊥
asked_not a [] unasked is = none-some (a.asked, a.parts) (sym is)
asked_not a (part ∷ parts) unasked is =
    let same : a.asked ≡ true = ap (λ (p : Bool × List (List ℕ)). p.0) (same_Some (a.asked, a.parts) (true, part ∷ parts) is) in
    true≢false (sym same ∙ unasked)

bare_text : (r : Run) (o : Option Arriving) → r.clock.now.outside.talk.arriving ≡ o → came o ≡ Some (false, []) → IsBare r.clock.now
bare_text r None same is = absurd (none-some (false, []) is)
bare_text r (Some a) same is = record {
  text = a;
  arrives = same;
  none = ap (λ (p : Bool × List (List ℕ)). p.1) (same_Some (a.asked, a.parts) (false, []) is);
}

module _ (c : Connection) (lines : List ℕ) (received : ℕ) (r : Run) (level : IsLevel r) (there : Some (record { received = take received lines }) ≡ Some c)
    (waits : drop received lines ≡ []) (told : ∥ AreLines r.clock.now.outside.talk.told lines ∥₁)
    (comes : came r.clock.now.outside.talk.arriving ≡ coming r.begun r.state.parts) (due : IsDue r.clock.now.outside c.received) where
  all_lines : c.received ≡ lines
  all_lines =
      sym (ap (λ (k : Connection). k.received) (same_Some (record { received = take received lines }) c there))
      ∙ sym (append-nil (take received lines)) ∙ ap (λ (l : List ℕ). take received lines ++ l) (sym waits) ∙ take-append-drop received lines

  owes_none : (r.begun ≡ false) → ⊥
  owes_none whole =
      ∥∥₁_elim told (hlevel) (λ are. due (record {
        all = subst (AreLines r.clock.now.outside.talk.told) (sym all_lines) are;
        quiet = level.quiet;
        answered = λ un. asked_not un.0 r.state.parts un.2
            (ap came (sym un.1) ∙ comes ∙ ap (λ (b : Bool). coming b r.state.parts) whole);
      }))

  bare_by : (b : Bool) → r.begun ≡ b → IsBare r.clock.now
  bare_by false same = absurd (owes_none same)
  bare_by true same =
      bare_text r r.clock.now.outside.talk.arriving refl (comes ∙ ap (λ (b : Bool). coming b r.state.parts) same)

pub bare_on : (phase : Phase) (c : Connection) (files : Both) (server : State) (held : Option Held) (parts : List (List ℕ)) (left : ℕ) (lines : List ℕ)
    (received : ℕ) (r : Run) → connection_in (is_on phase) lines received ≡ Some c → (if is_on phase then drop received lines else []) ≡ [] →
    Stands files server phase held parts left lines received r → IsDue r.clock.now.outside c.received → IsBare r.clock.now
bare_on phases.Off c files server held parts left lines received r there waits stands due = absurd (none-some c there)
bare_on phases.On c files server held parts left lines received r there waits stands due =
    let level = (level_on phases.On c files server held parts left lines received r there stands).0 in
    bare_by c lines received r level there waits stands.told stands.comes due r.begun refl
bare_on phases.Hearing c files server held parts left lines received r there waits stands due = absurd (none-some c there)
bare_on phases.Waiting c files server held parts left lines received r there waits stands due = absurd (none-some c there)
