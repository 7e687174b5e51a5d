-- Whole parts that are answered one by one, and what is left of bytes that come.
use Rattle.std.proofs.Common.{◌≡◌, ◌⊎◌, inl, inr, ◌≤◌, ℕ, Bool, min, List, [], ◌∷◌, ◌++◌, length, take, refl, sym, ◌∙◌, ap, subst, arith, length-take}
use Rattle.std.proofs.lemmas.Bool.{cases_lt}
use Rattle.std.proofs.lemmas.List.{append-nil, take_all, take-take}
use Rattle.imap_model.specs.declared.command.Command.{Command}
use Rattle.imap_model.specs.declared.response.Response.{Response}
use Rattle.imap_model.specs.declared.server.Server.{Server}
use Rattle.mail_base.specs.declared.tag.Tag.{Tag}
use Rattle.command_texts.specs.Cutting.{NoPart}
use Rattle.command_texts.specs.HeardParts.{IsWhole, IsFront, IsNoText}
use Rattle.command_texts.specs.TextLaws.{NoTextIsAFront}
use Rattle.server_mem.proofs.AnswerSteps.{answer_told}
use Rattle.server_mem.proofs.Falls.{nothing_told, more_told}
use Rattle.server_mem.specs.Falling.{Tells}
use Rattle.server_mem.specs.Hearing.{with_bytes, Hears}
use Rattle.server_mem.specs.States.{State}
use Rattle.world_mem.specs.Heard.{HearsOne, HearsParts, stops, hears, HearsAll, HearsBytes, HearsSome, left_over}
use Rattle.world_mem.specs.Losing.{HearsLast, Completes, CompletesNone, Waits}
use Rattle.world_mem.specs.Memory.{SentSome, run_of}
use Rattle.world_mem.specs.Planned.{arriving}
use Rattle.world_mem.specs.Running.{Run, step}
use Rattle.world_mem.specs.Standing.{Stands}
use Rattle.world_mem.specs.declared.course.Course.{Course}
use Rattle.world_mem.specs.declared.course.Phase.TheVariants as phases
use Rattle.world_mem.specs.declared.did.Did.TheVariants as did
use Rattle.world_mem.specs.declared.did.Held.{Held}
use Rattle.world_mem.specs.declared.plan.Loss.{Loss}
use Rattle.world_mem.specs.declared.plan.Loss.TheVariants as losses
use Rattle.world_mem.proofs.Doing.{none_long}
use Rattle.world_mem.proofs.Hearing.{phase_stands}

-- parts, and others behind them
pub parts_then : (s t : State) (r q : Run) (u : State) (v : Run) → HearsParts s r t q → HearsParts t q u v → HearsParts s r u v
parts_then s t r q _ _ first stops = first
parts_then s t r q _ _ first (hears {t = m} {q = n} more one) = hears (parts_then s t r q m n first more) one

-- one more, or want of memory
pub parts_or_not : (s t u : State) (r q v : Run) → HearsParts s r t q → (v ≡ q) ⊎ HearsOne t q u v → (after : State) × HearsParts s r after v
parts_or_not s t u r q v parts (inl same) = (t, subst (HearsParts s r t) (sym same) parts)
parts_or_not s t u r q v parts (inr one) = (u, hears parts one)

pub parts_later : (s t : State) (r q v : Run) → HearsParts s r t q → (after : State) × HearsParts t q after v → (after : State) × HearsParts s r after v
parts_later s t r q v first more = (more.0, parts_then s t r q more.0 v first more.1)

-- no whole part is left
pub all_heard : (s t u : State) (r q v : Run) → HearsParts s r t q → u ≡ t → v ≡ q → NoPart t.parts t.begun → HearsAll s r u v
all_heard s t u r q v parts same_server same none = record {
  parts = subst (λ (x : State). HearsParts s r x v) (sym same_server) (subst (HearsParts s r t) (sym same) parts);
  rest = subst (λ (x : State). NoPart x.parts x.begun) (sym same_server) none;
}

pub all_later : (s t u : State) (r q v : Run) → HearsParts s r t q → HearsAll t q u v → HearsAll s r u v
all_later s t u r q v first more = record { parts = parts_then s t r q u v first more.parts; rest = more.rest }

-- the bytes that aren't a whole part
pub left_none : (bytes : List ℕ) (r : Run) → length bytes ≡ 0 → left_over bytes r ≡ r
left_none [] r none = refl
left_none (byte ∷ bytes) r none = absurd (omega (arith, none))

pub left_some : (bytes : List ℕ) (r : Run) → (length bytes ≡ 0 → ⊥) → left_over bytes r ≡ step did.Began r
left_some [] r some = absurd (some refl)
left_some (byte ∷ bytes) r some = refl

-- what came, as it is said of the state before it
module _ (bytes : List ℕ) (s mid_state : State) (old mid : Run) (came : mid_state ≡ with_bytes bytes s) (same : mid ≡ old) where
  here : (u : State) (v : Run) → HearsAll mid_state mid u v → HearsAll (with_bytes bytes s) old u v
  here u v all = subst (λ (x : State). HearsAll x old u v) came (subst (λ (x : Run). HearsAll mid_state x u v) same all)

  pub bytes_heard : (t u : State) (v new : Run) → HearsAll mid_state mid t v → u ≡ t → new ≡ left_over t.begun v → HearsBytes bytes s old u new
  bytes_heard t u v new all same_server left = record {
    mid = v;
    all = subst (λ (x : State). HearsAll (with_bytes bytes s) old x v) (sym same_server) (here t v all);
    left = left ∙ sym (ap (λ (x : State). left_over x.begun v) same_server);
  }

  pub last_heard : (u : State) (new : Run) → HearsAll mid_state mid u new → HearsLast bytes s old new
  last_heard u new all = record { after = u; all = here u new all }

  pub some_heard : (new : Run) → (after : State) × HearsParts mid_state mid after new → HearsSome bytes s old new
  some_heard new some = record {
    count = length bytes;
    after = some.0;
    parts = subst (λ (b : List ℕ). HearsParts (with_bytes b s) old some.0 new) (sym (take_all (length bytes) bytes (omega arith)))
        (subst (λ (x : State). HearsParts x old some.0 new) came (subst (λ (x : Run). HearsParts mid_state x some.0 new) same some.1));
  }

-- nothing was heard
pub none_of_some : (bytes : List ℕ) (s : State) (old new : Run) → new ≡ old → HearsSome bytes s old new
none_of_some bytes s old new same = record {
  count = 0;
  after = with_bytes (take 0 bytes) s;
  parts =
      subst (HearsParts (with_bytes (take 0 bytes) s) old (with_bytes (take 0 bytes) s)) (sym same) stops;
}

-- a front of a front is one
front_of_front : (k n : ℕ) (bytes : List ℕ) → take k (take n bytes) ≡ take (min k n) bytes
front_of_front k n bytes =
    elim (cases_lt k n) [
      | inl less ↦ let same : k ≡ min k n = omega (arith, less) in take-take k n bytes (omega (arith, less)) ∙ ap (λ (m : ℕ). take m bytes) same
      | inr least ↦ let same : n ≡ min k n = omega (arith, least) in
          take_all k (take n bytes) (omega (arith, least, taken n bytes)) ∙ ap (λ (m : ℕ). take m bytes) same
    ]
  where
    taken : (n : ℕ) (a : List ℕ) → length (take n a) ≤ n
    taken n a = omega (arith, length-take n a)

pub some_of_front : (count : ℕ) (bytes : List ℕ) (s : State) (old new : Run) → HearsSome (take count bytes) s old new → HearsSome bytes s old new
some_of_front count bytes s old new some = record {
  count = min some.count count;
  after = some.after;
  parts = subst (λ (b : List ℕ). HearsParts (with_bytes b s) old some.after new) (front_of_front some.count count bytes) some.parts;
}

-- what was sent
pub sent_none : (bytes old new : List ℕ) → new ≡ old → SentSome bytes old new
sent_none bytes old new same = (0, same ∙ sym (append-nil old))

pub sent_all : (bytes old new : List ℕ) → new ≡ old ++ bytes → SentSome bytes old new
sent_all bytes old new is = (length bytes, is ∙ ap (λ (b : List ℕ). old ++ b) (sym (take_all (length bytes) bytes (omega arith))))

pub sent_front : (count : ℕ) (bytes old new : List ℕ) → SentSome (take count bytes) old new → SentSome bytes old new
sent_front count bytes old new some = (min some.0 count, some.1 ∙ ap (λ (b : List ℕ). old ++ b) (front_of_front some.0 count bytes))

pub sent_same : (bytes old new before after : List ℕ) → old ≡ before → after ≡ new → SentSome bytes old new → SentSome bytes before after
sent_same bytes old new before after same still some = (some.0, still ∙ some.1 ∙ ap (λ (b : List ℕ). b ++ take some.0 bytes) same)

-- by a loss a front arrives
pub sent_arriving : (loss : Loss) (bytes old new : List ℕ) → new ≡ old ++ arriving loss bytes → SentSome bytes old new
sent_arriving losses.Nothing bytes old new is = (0, is)
sent_arriving (losses.Part count) bytes old new is = (count, is)
sent_arriving losses.All bytes old new is = sent_all bytes old new is
sent_arriving (losses.Waits carried) bytes old new is = sent_all bytes old new is

-- what stays or goes on of the server
pub serves : (old new : State) (x s : Server) → new ≡ record old { server = x } → new.server ≡ s → new ≡ record old { server = s }
serves old new x s is now = is ∙ ap (λ (y : Server). record old { server = y }) (sym (ap (λ (t : State). t.server) is) ∙ now)

pub serves_same : (old new : State) (s : Server) → new ≡ old → old.server ≡ s → new ≡ record old { server = s }
serves_same old new s same is = same ∙ ap (λ (y : Server). record old { server = y }) is

pub serves_then : (old mid new : State) (q s : Server) → mid ≡ record old { server = q } → new ≡ record mid { server = s } → new ≡ record old { server = s }
serves_then old mid new q s first second = second ∙ ap (λ (t : State). record t { server = s }) first

-- whether bytes are the last part of a command's text
module _ (w : Course) (on : w.phase ≡ phases.On) where
  now : Stands w.files w.server phases.On w.held w.parts w.unfinished w.lines.items w.received (run_of w)
  now = phase_stands w.files w.server w.phase phases.On w.held w.parts w.unfinished w.lines.items w.received (run_of w) w.stands on

  pub same_parts : w.server.parts ≡ w.parts
  same_parts = ap (λ (s : State). s.parts) now.server_is ∙ sym now.parts_are

  pub same_count : length w.server.begun ≡ w.unfinished
  same_count = now.counted

  whole_here : (bytes : List ℕ) (tag : Tag) (command : Command) → Completes bytes w.server tag command → IsWhole tag command (w.parts ++ bytes ∷ [])
  whole_here bytes tag command completes = subst (λ (b : List (List ℕ)). IsWhole tag command (b ++ bytes ∷ [])) same_parts completes.whole

  pub unfinished_completes : (bytes : List ℕ) → (w.unfinished ≡ 0 → ⊥) → CompletesNone bytes w.server
  unfinished_completes bytes some = λ tag command completes. some (sym same_count ∙ ap length completes.nothing)

  pub front_completes : (bytes : List ℕ) (other : Tag) (command' : Command) → NoTextIsAFront →
      IsFront other command' (w.parts ++ bytes ∷ []) → CompletesNone bytes w.server
  front_completes bytes other command' law front = λ tag command completes. law tag other command command' (w.parts ++ bytes ∷ [])
      (whole_here bytes tag command completes) front

  pub nothing_completes : (bytes : List ℕ) → IsNoText (w.parts ++ bytes ∷ []) → CompletesNone bytes w.server
  nothing_completes bytes none = λ tag command completes. none.whole tag command (whole_here bytes tag command completes)

  pub waits_now : (carried : Bool) (bytes : List ℕ) (held : Held) (new : Run) → w.unfinished ≡ 0 → held.part ≡ bytes → held.carried ≡ carried
      → IsWhole held.tag held.command (w.parts ++ bytes ∷ []) → new ≡ step (did.Waited held) (run_of w) → Waits carried bytes w.server (run_of w) new
  waits_now carried bytes held new none last carries whole run = record {
    held = held;
    last = last;
    carries = carries;
    completes = record {
      nothing = none_long w.server.begun (same_count ∙ none);
      whole = subst (λ (b : List (List ℕ)). IsWhole held.tag held.command (b ++ bytes ∷ [])) (sym same_parts) whole;
    };
    run = run;
  }

-- What was heard, by the server's own definition of hearing, in which pieces don't count.
told_parts : (s : State) (r : Run) (u : State) (v : Run) → HearsParts s r u v → (lines : List ℕ) × Tells s lines u
told_parts s r _ _ stops = ([], nothing_told s)
told_parts s r _ _ (hears {t = t} {u = u} {q = q} more one) =
    let before = told_parts s r t q more in (
      before.0 ++ one.answer.lines.items,
      more_told s before.0 t one.answer.lines.items u before.1 (answer_told t u one.answer one.answers),
    )

pub bytes_told : (bytes : List ℕ) (s : State) (old : Run) (u : State) (new : Run) → HearsBytes bytes s old u new → (told : List Response) × Hears s bytes told u
bytes_told bytes s old u new heard = let told = (told_parts (with_bytes bytes s) old u heard.mid heard.all.parts).1 in
    (told.told, record { steps = told.steps; rest = heard.all.rest })
