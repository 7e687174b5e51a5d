-- What a world in memory holds goes on with what is done in it.
use Rattle.std.proofs.Common.{◌≡◌, ◌≤◌, ◌==◌, ℕ, Bool, true, false, List, [], ◌∷◌, ◌++◌, length, Vec, Option, Some, None, refl, sym, ◌∙◌, ap, subst, arith}
use Rattle.std.specs.declared.alloc.Global.{Global}
use Rattle.imap_model.specs.Lines.{AreLines}
use Rattle.imap_model.specs.PlainChanges.{with_change}
use Rattle.imap_model.specs.Talking.{Peer}
use Rattle.imap_model.specs.declared.deed.Author.TheVariants.{Other}
use Rattle.imap_model.specs.declared.deed.Change.{Change}
use Rattle.imap_model.specs.declared.server.Server.{Server}
use Rattle.server_mem.specs.Greeting.{greeting}
use Rattle.server_mem.specs.States.{State, disconnected}
use Rattle.world_traits.specs.Calls.{written, settled}
use Rattle.world_traits.specs.Files.{Files, put, file_of, with_file}
use Rattle.world_traits.specs.declared.disk.Side.{Side}
use Rattle.world_traits.proofs.Sides.{outside_written, outside_settled}
use Rattle.std.proofs.lemmas.Bool.{eqb-true}
use Rattle.world_mem.specs.Both.{Both, torn_at}
use Rattle.world_mem.specs.Running.{Run, run, start, step, waiting_of}
use Rattle.world_mem.specs.Standing.{Stands, TellsIn, seen_in, held_in, is_on, came, came_in, failed_in, phase_of, counted_in, selected_in, in_use, lost_phase}
use Rattle.world_mem.specs.Standing.{rested_phase, coming, WholeIn, IsComplete}
use Rattle.world_mem.specs.declared.course.Phase.{Phase}
use Rattle.world_mem.specs.declared.course.Phase.TheVariants as phases
use Rattle.world_mem.specs.declared.did.Did.{Did}
use Rattle.world_mem.specs.declared.did.Did.TheVariants as did
use Rattle.world_mem.specs.declared.did.Held.{Held}

one_more : (log : List Did) (d : Did) (s : Run) → run (log ++ d ∷ []) s ≡ step d (run log s)
one_more [] d s = refl
one_more (x ∷ log) d s = one_more log d (step x s)

-- one thing more was done
pub one_did : (log after : List Did) (d : Did) (s : Run) → after ≡ log ++ d ∷ [] → run after s ≡ step d (run log s)
one_did log after d s is = ap (λ (l : List Did). run l s) is ∙ one_more log d s

-- two things more were
pub two_did : (log after : List Did) (d e : Did) (s : Run) → after ≡ (log ++ d ∷ []) ++ e ∷ [] → run after s ≡ step e (step d (run log s))
two_did log after d e s is = one_did (log ++ d ∷ []) after e s is ∙ ap (step e) (one_more log d s)

-- what is known of the server by how the connection stands
pub server_same : (phase : Phase) (s t : State) → seen_in phase s ≡ seen_in phase t → s.server ≡ t.server
server_same phases.Off s t is = ap (λ (u : State). u.server) is
server_same phases.On s t is = ap (λ (u : State). u.server) is
server_same phases.Hearing s t is = ap (λ (u : State). u.server) is
server_same phases.Waiting s t is = ap (λ (u : State). u.server) is

pub offers_same : (phase : Phase) (s t : State) → seen_in phase s ≡ seen_in phase t → s.choices.offers ≡ t.choices.offers
offers_same phases.Off s t is = ap (λ (u : State). u.choices.offers) is
offers_same phases.On s t is = ap (λ (u : State). u.choices.offers) is
offers_same phases.Hearing s t is = ap (λ (u : State). u.choices.offers) is
offers_same phases.Waiting s t is = ap (λ (u : State). u.choices.offers) is

pub cut_same : (phase : Phase) (s t : State) → seen_in phase s ≡ seen_in phase t → disconnected s ≡ disconnected t
cut_same phases.Off s t is = is
cut_same phases.On s t is = ap disconnected is
cut_same phases.Hearing s t is = ap disconnected is
cut_same phases.Waiting s t is = ap disconnected is

seen_change : (phase : Phase) (x : Server) (s t : State) → seen_in phase s ≡ seen_in phase t →
    seen_in phase (record s { server = x }) ≡ seen_in phase (record t { server = x })
seen_change phases.Off x s t is = ap (λ (u : State). record u { server = x }) is
seen_change phases.On x s t is = ap (λ (u : State). record u { server = x }) is
seen_change phases.Hearing x s t is = ap (λ (u : State). record u { server = x }) is
seen_change phases.Waiting x s t is = ap (λ (u : State). record u { server = x }) is

pub hearing_is : (phase : Phase) → phase ≡ phases.Hearing → phase ≡ phases.Waiting → ⊥
hearing_is phase hearing waits = absurd (cc (sym hearing ∙ waits))

-- the same, where no command waits
pub none_waiting : (phase : Phase) (held other : Option Held) → (phase ≡ phases.Waiting → ⊥) → held_in phase held ≡ other → None ≡ other
none_waiting phases.Off held other none is = is
none_waiting phases.On held other none is = is
none_waiting phases.Hearing held other none is = is
none_waiting phases.Waiting held other none is = absurd (none refl)

-- without a connection nothing is told of what is selected, and of what arrives
none_selected : (phase : Phase) (selected : Option (List ℕ)) → lost_phase phase ≡ phase → selected_in phase None ≡ selected_in phase selected
none_selected phases.Off selected lost = refl
none_selected phases.On selected lost = absurd (cc lost)
none_selected phases.Hearing selected lost = absurd (cc lost)
none_selected phases.Waiting selected lost = refl

none_comes : (phase : Phase) (text : Option (Bool × List (List ℕ))) → lost_phase phase ≡ phase → came_in phase None ≡ came_in phase text
none_comes phases.Off text lost = refl
none_comes phases.On text lost = absurd (cc lost)
none_comes phases.Hearing text lost = absurd (cc lost)
none_comes phases.Waiting text lost = refl

-- what is in use is known of the server
pub used_same : (phase : Phase) (s t : State) → seen_in phase s ≡ seen_in phase t → in_use phase s ≡ in_use phase t
used_same phases.Off s t is = refl
used_same phases.On s t is = ap (λ (u : State). u.selected) is
used_same phases.Hearing s t is = refl
used_same phases.Waiting s t is = ap (λ (u : State). u.selected) is

-- a server that isn't muted
pub lawful_server : (phase : Phase) (s t : State) → seen_in phase s ≡ seen_in phase t → t.muted ≡ false → s.muted ≡ false
lawful_server phases.Off s t is lawful = ap (λ (u : State). u.muted) is ∙ lawful
lawful_server phases.On s t is lawful = ap (λ (u : State). u.muted) is ∙ lawful
lawful_server phases.Hearing s t is lawful = ap (λ (u : State). u.muted) is ∙ lawful
lawful_server phases.Waiting s t is lawful = ap (λ (u : State). u.muted) is ∙ lawful

-- how it stands where it is lost
pub lost_twice : (phase : Phase) → lost_phase (lost_phase phase) ≡ lost_phase phase
lost_twice phases.Off = refl
lost_twice phases.On = refl
lost_twice phases.Hearing = refl
lost_twice phases.Waiting = refl

pub lost_off : (phase : Phase) → lost_phase phase ≡ phase → is_on phase ≡ false
lost_off phases.Off lost = refl
lost_off phases.On lost = absurd (cc lost)
lost_off phases.Hearing lost = absurd (cc lost)
lost_off phases.Waiting lost = refl

pub rested_twice : (phase : Phase) → rested_phase (rested_phase phase) ≡ rested_phase phase
rested_twice phases.Off = refl
rested_twice phases.On = refl
rested_twice phases.Hearing = refl
rested_twice phases.Waiting = refl

pub on_rested : (phase : Phase) → is_on (rested_phase phase) ≡ is_on phase
on_rested phases.Off = refl
on_rested phases.On = refl
on_rested phases.Hearing = refl
on_rested phases.Waiting = refl

pub used_rested : (phase : Phase) (s : State) → in_use (rested_phase phase) s ≡ in_use phase s
used_rested phases.Off s = refl
used_rested phases.On s = refl
used_rested phases.Hearing s = refl
used_rested phases.Waiting s = refl

pub not_hearing : (phase : Phase) → rested_phase phase ≡ phase → is_on phase ≡ false → lost_phase phase ≡ phase
not_hearing phases.Off rests off = refl
not_hearing phases.On rests off = absurd (cc off)
not_hearing phases.Hearing rests off = absurd (cc rests)
not_hearing phases.Waiting rests off = refl

waiting_same : (held : Option Held) (s t : State) → s.selected ≡ t.selected → waiting_of s held ≡ waiting_of t held
waiting_same None s t is = refl
waiting_same (Some held) s t is = ap (λ (selected : Option (List ℕ)). Some (record { selected = selected; tag = held.tag; command = held.command })) is

module _ (files : Both) (server : State) (phase : Phase) (held : Option Held) (parts : List (List ℕ)) (unfinished : ℕ) (lines : List ℕ)
    (received : ℕ) (r : Run) (h : Stands files server phase held parts unfinished lines received r) where
  -- a write and a sync
  pub wrote_stands : (side : Side) (at : ℕ) (own : Vec ℕ Global) (files' : Both)
      → files' ≡ torn_at (written side at own.items r.clock.now) (with_file side (put at own.items (file_of side r.seen)) r.seen)
      → Stands files' server phase held parts unfinished lines received (step (did.Wrote side at own) r)
  wrote_stands side at own files' is = record {
    files_are = is;
    server_is = h.server_is;
    held_is = h.held_is;
    parts_are = h.parts_are;
    counted = h.counted;
    rested = h.rested;
    told = subst (λ (p : Peer). ∥ TellsIn phase p.talk.told lines ∥₁) (sym (outside_written side at own.items r.clock.now)) h.told;
    whole = h.whole;
    within = h.within;
    server_fits = ap (λ (p : Peer). p.server) (outside_written side at own.items r.clock.now) ∙ h.server_fits;
    selected_fits = ap (λ (p : Peer). selected_in phase p.talk.selected) (outside_written side at own.items r.clock.now) ∙ h.selected_fits;
    waits = ap (λ (p : Peer). p.waiting) (outside_written side at own.items r.clock.now) ∙ h.waits;
    comes = ap (λ (p : Peer). came_in phase (came p.talk.arriving)) (outside_written side at own.items r.clock.now) ∙ h.comes;
    sound = h.sound;
    lawful = h.lawful;
  }

  pub synced_stands : (side : Side) (files' : Both) → files' ≡ torn_at (settled side (file_of side r.seen) r.clock.now) r.seen
      → Stands files' server phase held parts unfinished lines received (step (did.Synced side) r)
  synced_stands side files' is = record {
    files_are = is;
    server_is = h.server_is;
    held_is = h.held_is;
    parts_are = h.parts_are;
    counted = h.counted;
    rested = h.rested;
    told = subst (λ (p : Peer). ∥ TellsIn phase p.talk.told lines ∥₁) (sym (outside_settled side (file_of side r.seen) r.clock.now)) h.told;
    whole = h.whole;
    within = h.within;
    server_fits = ap (λ (p : Peer). p.server) (outside_settled side (file_of side r.seen) r.clock.now) ∙ h.server_fits;
    selected_fits = ap (λ (p : Peer). selected_in phase p.talk.selected) (outside_settled side (file_of side r.seen) r.clock.now) ∙ h.selected_fits;
    waits = ap (λ (p : Peer). p.waiting) (outside_settled side (file_of side r.seen) r.clock.now) ∙ h.waits;
    comes = ap (λ (p : Peer). came_in phase (came p.talk.arriving)) (outside_settled side (file_of side r.seen) r.clock.now) ∙ h.comes;
    sound = h.sound;
    lawful = h.lawful;
  }

  -- a change by another client
  pub changed_stands : (name : List ℕ) (change : Change) (server' : State) → server' ≡ record server { server = with_change Other name change server.server }
      → Stands files server' phase held parts unfinished lines received (step (did.Changed name change) r)
  changed_stands name change server' is = record {
    files_are = h.files_are;
    server_is = ap (seen_in phase) is
        ∙ ap (λ (s : Server). seen_in phase (record server { server = with_change Other name change s })) (server_same phase server r.state h.server_is)
        ∙ seen_change phase (with_change Other name change r.state.server) server r.state h.server_is;
    held_is = h.held_is;
    parts_are = h.parts_are;
    counted = ap (λ (s : State). counted_in phase (length s.begun)) is ∙ h.counted;
    rested = h.rested;
    told = h.told;
    whole = h.whole;
    within = h.within;
    server_fits = refl;
    selected_fits = h.selected_fits;
    waits = h.waits ∙ waiting_same r.held r.state (record r.state { server = with_change Other name change r.state.server }) refl;
    comes = h.comes;
    sound = h.sound;
    lawful = h.lawful;
  }

  -- a connection
  pub greeted_stands : (server' : State) (parts' : List (List ℕ)) (lines' : List ℕ) → server' ≡ disconnected server → parts' ≡ [] →
      AreLines (greeting server.choices.offers ∷ []) lines'
      → Stands files server' phases.On held parts' 0 lines' 0 (step did.Greeted r)
  greeted_stands server' parts' lines' is none tells = record {
    files_are = h.files_are;
    server_is = ap (λ (s : State). record s { begun = [] }) (is ∙ cut_same phase server r.state h.server_is);
    held_is = refl;
    parts_are = none;
    counted = ap (λ (s : State). length s.begun) is;
    rested = refl;
    told = ∣ subst (λ (offers : List (List ℕ)). AreLines (greeting offers ∷ []) lines') (offers_same phase server r.state h.server_is) tells ∣₁;
    whole = ∣ tt ∣₁;
    within = omega arith;
    server_fits = h.server_fits;
    selected_fits = refl;
    waits = refl;
    comes = refl;
    sound = refl;
    lawful = h.lawful;
  }

  -- the connection is lost
  pub lost_stands : (phase ≡ phases.Waiting → ⊥) → Stands files server phases.Off held parts unfinished lines received r
  lost_stands none = record {
    files_are = h.files_are;
    server_is = cut_same phase server r.state h.server_is;
    held_is = none_waiting phase held r.held none h.held_is;
    parts_are = refl;
    counted = refl;
    rested = refl;
    told = ∣ tt ∣₁;
    whole = ∣ tt ∣₁;
    within = h.within;
    server_fits = h.server_fits;
    selected_fits = refl;
    waits = h.waits;
    comes = refl;
    sound = refl;
    lawful = h.lawful;
  }

  -- it is told that it is at its end
  pub ended_stands : lost_phase phase ≡ phase → Stands files server phase held parts unfinished lines received (step did.Ended r)
  ended_stands none = record {
    files_are = h.files_are;
    server_is = h.server_is;
    held_is = h.held_is;
    parts_are = h.parts_are;
    counted = h.counted;
    rested = h.rested;
    told = h.told;
    whole = h.whole;
    within = h.within;
    server_fits = h.server_fits;
    selected_fits = none_selected phase r.state.selected none;
    waits = h.waits;
    comes = none_comes phase (coming r.begun r.state.parts) none;
    sound = h.sound;
    lawful = h.lawful;
  }

  -- bytes are received
  pub given_stands : (received' : ℕ) → received' ≤ length lines → Stands files server phase held parts unfinished lines received' r
  given_stands received' within = record {
    files_are = h.files_are;
    server_is = h.server_is;
    held_is = h.held_is;
    parts_are = h.parts_are;
    counted = h.counted;
    rested = h.rested;
    told = h.told;
    whole = h.whole;
    within = within;
    server_fits = h.server_fits;
    selected_fits = h.selected_fits;
    waits = h.waits;
    comes = h.comes;
    sound = h.sound;
    lawful = h.lawful;
  }

-- a server in which memory wasn't wanting
pub sound_server : (phase : Phase) (s t : State) → is_on phase ≡ true → seen_in phase s ≡ seen_in phase t → failed_in phase t.failed ≡ false → s.failed ≡ false
sound_server phases.Off s t on is sound = absurd (cc on)
sound_server phases.On s t on is sound = ap (λ (u : State). u.failed) is ∙ sound
sound_server phases.Hearing s t on is sound = absurd (cc on)
sound_server phases.Waiting s t on is sound = absurd (cc on)

-- a world in which nothing has happened
pub begun_stands : (files : Both) (given : Files) (server : State) (phase : Phase) (held : Option Held) (parts : List (List ℕ))
    (lines : List ℕ) (log : List Did)
    → files ≡ torn_at (start given server held).clock.now given → phase ≡ phase_of held → server.begun ≡ [] → server.failed ≡ false →
    ∥ WholeIn (phase_of held) held server.parts ∥₁ → server.muted ≡ false → log ≡ []
    → Stands files server phase held parts 0 lines 0 (run log (start given server held))
begun_stands files given server phase held parts lines log is by whole sound ends lawful none =
    subst (λ (l : List Did). Stands files server phase held parts 0 lines 0 (run l (start given server held))) (sym none)
    (subst (λ (p : Phase). Stands files server p held parts 0 lines 0 (start given server held)) (sym by) (at_first held is ends))
  where
    at_first : (h : Option Held) → files ≡ torn_at (start given server h).clock.now given → ∥ WholeIn (phase_of h) h server.parts ∥₁ →
        Stands files server (phase_of h) h parts 0 lines 0 (start given server h)
    at_first None is complete = record {
      files_are = is;
      server_is = refl;
      held_is = refl;
      parts_are = refl;
      counted = refl;
      rested = refl;
      told = ∣ tt ∣₁;
      whole = ∣ tt ∣₁;
      within = omega arith;
      server_fits = refl;
      selected_fits = refl;
      waits = refl;
      sound = refl;
      comes = refl;
      lawful = lawful;
    }
    at_first (Some h) is complete = record {
      files_are = is;
      server_is = refl;
      held_is = refl;
      parts_are = refl;
      counted = ap length whole;
      rested = refl;
      told = ∣ tt ∣₁;
      whole = complete;
      within = omega arith;
      server_fits = refl;
      selected_fits = refl;
      waits = refl;
      sound = sound;
      comes = refl;
      lawful = lawful;
    }

pub none_long : (bytes : List ℕ) → length bytes ≡ 0 → bytes ≡ []
none_long [] is = refl
none_long (x ∷ bytes) is = absurd (omega (arith, is))

pub zero_is : (n : ℕ) → (n == 0) ≡ true → n ≡ 0
zero_is n is = eqb-true n 0 is

-- a server for which a command waits
pub waiting_whole : (files : Both) (server : State) (phase : Phase) (held : Option Held) (parts : List (List ℕ)) (unfinished : ℕ)
    (lines : List ℕ) (received : ℕ) (r : Run)
    → Stands files server phase held parts unfinished lines received r → phase ≡ phases.Waiting → server.begun ≡ []
waiting_whole files server phase held parts unfinished lines received r h is =
    let now = subst (λ (x : Phase). Stands files server x held parts unfinished lines received r) is h in
    none_long server.begun (now.counted ∙ zero_is unfinished now.rested)

pub waiting_sound : (files : Both) (server : State) (phase : Phase) (held : Option Held) (parts : List (List ℕ)) (unfinished : ℕ)
    (lines : List ℕ) (received : ℕ) (r : Run)
    → Stands files server phase held parts unfinished lines received r → phase ≡ phases.Waiting → server.failed ≡ false
waiting_sound files server phase held parts unfinished lines received r h is =
    let now = subst (λ (x : Phase). Stands files server x held parts unfinished lines received r) is h in
    ap (λ (u : State). u.failed) now.server_is ∙ now.sound

pub waiting_ends : (files : Both) (server : State) (phase : Phase) (held : Option Held) (parts : List (List ℕ)) (unfinished : ℕ)
    (lines : List ℕ) (received : ℕ) (r : Run)
    → Stands files server phase held parts unfinished lines received r → phase ≡ phases.Waiting → ∥ WholeIn (phase_of held) held server.parts ∥₁
waiting_ends files server phase held parts unfinished lines received r h is =
    let now = subst (λ (x : Phase). Stands files server x held parts unfinished lines received r) is h in
    ends held (subst (λ (x : List (List ℕ)). ∥ IsComplete held x ∥₁) (sym (ap (λ (u : State). u.parts) now.server_is)) now.whole)
  where
    ends : (h : Option Held) → ∥ IsComplete h server.parts ∥₁ → ∥ WholeIn (phase_of h) h server.parts ∥₁
    ends None whole = ∣ tt ∣₁
    ends (Some x) whole = whole
