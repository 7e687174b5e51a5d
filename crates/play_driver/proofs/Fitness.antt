-- At a server that serves nothing is lacking for a log-in, nor for ENABLE.
use Rattle.std.proofs.Common.{◌≡◌, ◌≢◌, ◌⊎◌, inl, inr, ℕ, ◌+◌, ◌≤◌, ◌<◌, true, false, Bool, if◌then◌else◌, List, [], ◌∷◌, ◌++◌, length, Some, None}
use Rattle.std.proofs.Common.{refl, sym, ◌∙◌, ap, subst, arith}
use Rattle.std.specs.Prelude.{codes}
use Rattle.mail_base.specs.Account.{Credentials}
use Rattle.mail_base.specs.declared.tag.Tag.TheVariants as tags
use Rattle.imap_model.specs.CarriedOut.{told_in}
use Rattle.imap_model.specs.Mutating.{is_mutating}
use Rattle.imap_model.specs.declared.command.Command.{Command}
use Rattle.imap_model.specs.declared.command.Command.TheVariants as commands
use Rattle.imap_model.specs.declared.item.Item.{Item}
use Rattle.imap_model.specs.declared.item.Item.TheVariants as items
use Rattle.imap_model.specs.declared.replies.Replies.{Replies}
use Rattle.imap_model.specs.declared.response.Response.{Response}
use Rattle.imap_session.proofs.Talks.{Questions, became_since}
use Rattle.imap_session.specs.Dialogue.{Dialogue, Point, Replied, TalkedOut, next_tag, next_text}
use Rattle.imap_session.specs.Dialogue.Dialogue.{Ends, Lacks, Asks}
use Rattle.imap_session.specs.Enabled.{is_enabled}
use Rattle.imap_session.specs.LogIn.{behind_offer, enabling, entering, fitness, logged_in, way_in}
use Rattle.imap_session.specs.Offers.{offers}
use Rattle.imap_session.specs.Session.{waiting_of}
use Rattle.world_traits.specs.Asking.{Asking}
use Rattle.world_traits.specs.Links.{Any, LinkStep, Linked}
use Rattle.world_traits.specs.Moments.{Chain, Clock, Moment, Since, tick}
use Rattle.world_traits.proofs.Passing.{since_start, since_then, since_tick}
use Rattle.world_traits.proofs.Traces.{grow_same}
use Rattle.play_driver.specs.Joining.{AnyTwo, Grows}
use Rattle.play_driver.specs.Questioning.{Questioning}
use Rattle.play_driver.specs.Serving.{AllServing, AllowsLogin, IsFit, IsServing, Provides, Serves, begins_preauth}
use Rattle.play_driver.proofs.Longer.{Told, begins_on, greeted_before, longer, longer_on}
use Rattle.play_driver.proofs.OverOne.{asks_over}
use Rattle.play_driver.proofs.Parts.{grows, grows_start, grows_then, since_first, since_second}
use Rattle.play_driver.proofs.Remaining.{Remains}

-- the one step of a run of one step
step_of : (P : Moment → Type 0) (S : Moment → Moment → Type 0) (k : Clock) (m : Moment) → Since P S k (tick k m) → S k.now m
step_of P S k m s = (subst (λ (xs : List Moment). Chain P S k xs) (grow_same k s.added (m ∷ []) (sym s.grown)) s.each).1

one_tick : (k : Clock) (m : Moment) → Grows k (tick k m)
one_tick k m = since_tick Any AnyTwo k k (tick k m) m (grows_start k) refl tt tt

-- a question is asked and answered between two clocks
module _ (count : ℕ) (command : Command) (r : Replies) (x y : Clock) (replied : Replied count command r x y) (question : is_mutating command ≡ false)
    (remains : command ≢ commands.Logout) where
  pub replied_asks : Linked Questioning x y
  replied_asks =
      asks_over x.now.outside.talk.told (next_tag count) command question remains x y
      (became_since Any (LinkStep (Asking x.now.outside.talk.told (next_tag count) command)) _ x y replied.answered.became)

  -- where the server serves, the reply does
  module _ (old new : Clock) (first : Grows old x) (some : 1 ≤ Told x.now) (more : Linked Questioning y new) (serving : AllServing old new) where
    asked_before : Linked Questioning x replied.answered.became.at
    asked_before = asks_over x.now.outside.talk.told (next_tag count) command question remains x replied.answered.became.at
        replied.answered.became.before

    asked_behind : Linked Questioning (tick replied.answered.became.at replied.answered.became.to) new
    asked_behind =
        let b = replied.answered.became in
        since_then Any (LinkStep Questioning) (tick b.at b.to) y new
        (asks_over x.now.outside.talk.told (next_tag count) command question remains (tick b.at b.to) y b.after) more

    -- behind it more than a greeting was told
    two_told : 1 < Told replied.answered.became.to
    two_told =
        let b = replied.answered.became in
        omega (
          arith,
          some,
          longer_on x b.at asked_before,
          ap (λ (t : List Response). length t) b.is.before,
          ap (λ (t : List Response). length t) b.is.behind,
          longer (x.now.outside.talk.told ++ replied.answered.asked) (next_tag count) r,
        )

    -- and it began with the same greeting
    pub replied_begins : begins_preauth replied.answered.became.at.now.outside.talk.told ≡ begins_preauth x.now.outside.talk.told
    replied_begins = begins_on x replied.answered.became.at asked_before some

    pub replied_serves : Serves replied.answered.became.at.now.outside.talk.told (waiting_of None (next_tag count) command)
        replied.answered.became.at.now.outside.server r
    replied_serves =
        let b = replied.answered.became in
        let reach = grows_then old x b.at first (grows Any (LinkStep Questioning) x b.at asked_before) in
        let rest = grows Any IsServing serving.made new serving.later in
        let made_first = greeted_before old serving.made b.at new b.to serving.before rest reach asked_behind serving.fresh two_told in
        let left = grows Any (LinkStep Questioning) (tick b.at b.to) new asked_behind in
        let second = since_second Any IsServing serving.made b.at new made_first (grows_then b.at (tick b.at b.to) new (one_tick b.at b.to) left)
        serving.later in
        let step = step_of Any IsServing b.at b.to (since_first Any IsServing b.at (tick b.at b.to) new (one_tick b.at b.to) left second) in
        step.replies (waiting_of None (next_tag count) command) r (b.is.waits replied.accepted)
        (b.is.behind ∙ ap (λ (t : List Response). t ++ told_in (next_tag count) r) (sym b.is.before))

talked_asks : (d : Dialogue) → Questions d → Remains d → (count : ℕ) (item : Item) (x y : Point) → TalkedOut d count (Some item) x y →
    Linked Questioning x.clock y.clock
talked_asks (Ends rev2) q s count item x y t = absurd t
talked_asks (Lacks what) q s count item x y t =
    subst (λ (k : Point). Linked Questioning x.clock k.clock) (sym t.1) (since_start Any (LinkStep Questioning) x.clock)
talked_asks (Asks command next) q s count item x y (r, at, replied, rest) =
    since_then Any (LinkStep Questioning) x.clock at y.clock (replied_asks count command r x.clock at replied q.0 s.0)
    (talked_asks (next r) (q.1 r) (s.1 r) (count + 1) item (record { clock = at; sent = x.sent ++ next_text count command }) y rest)

-- whatever is replied in a connection that began so, if it serves, nothing is lacking
abbrev pub LacksNothing : Bool → Dialogue → ℕ → Type 0
LacksNothing preauth (Ends rev2) count = Unit {0}
LacksNothing preauth (Lacks item) count = ⊥
LacksNothing preauth (Asks command next) count =
    (r : Replies) (told : List Response) → begins_preauth told ≡ preauth → Provides told command (next_tag count) r →
    LacksNothing preauth (next r) (count + 1)

pub lacks_none : (preauth : Bool) (d : Dialogue) → Questions d → Remains d → (count : ℕ) (item : Item) (old : Clock) (x y : Point) →
    LacksNothing preauth d count → Grows old x.clock → 1 ≤ Told x.clock.now → begins_preauth x.clock.now.outside.talk.told ≡ preauth →
    TalkedOut d count (Some item) x y → AllServing old y.clock → ⊥
lacks_none preauth (Ends rev2) q s count item old x y fit first some began t serving = t
lacks_none preauth (Lacks what) q s count item old x y fit first some began t serving = fit
lacks_none preauth (Asks command next) q s count item old x y fit first some began (r, at, replied, rest) serving =
    let later : Point = record { clock = at; sent = x.sent ++ next_text count command } in
    let more = talked_asks (next r) (q.1 r) (s.1 r) (count + 1) item later y rest in
    let asks = replied_asks count command r x.clock at replied q.0 s.0 in
    let serves = replied_serves count command r x.clock at replied q.0 s.0 old y.clock first some more serving in
    let begins = replied_begins count command r x.clock at replied q.0 s.0 old y.clock first some more serving in
    lacks_none preauth (next r) (q.1 r) (s.1 r) (count + 1) item old later y
    (fit r replied.answered.became.at.now.outside.talk.told (begins ∙ began) (serves.provides replied.accepted))
    (grows_then old x.clock at first (grows Any (LinkStep Questioning) x.clock at asks)) (omega (arith, some, longer_on x.clock at asks))
    (begins_on x.clock at asks some ∙ began) rest serving

-- what is offered is enough
if_so : (p test : Bool) (x y : Dialogue) (count : ℕ) → test ≡ true → LacksNothing p x count → LacksNothing p (if test then x else y) count
if_so p true x y count is fit = fit
if_so p false x y count is fit = absurd cc

if_either : (p test : Bool) (x y : Dialogue) (count : ℕ) → LacksNothing p x count → LacksNothing p y count → LacksNothing p (if test then x else y) count
if_either p true x y count a b = a
if_either p false x y count a b = b

if_not : (p test : Bool) (x y : Dialogue) (count : ℕ) → test ≡ false → LacksNothing p y count → LacksNothing p (if test then x else y) count
if_not p true x y count is fit = absurd cc
if_not p false x y count is fit = fit

moves_lack_none : (p : Bool) (r : Replies) (count : ℕ)
    → (offers r (codes "IMAP4rev2") ≡ true) ⊎ ((offers r (codes "UIDPLUS") ≡ true) × (offers r (codes "MOVE") ≡ true))
    → LacksNothing p (if offers r (codes "IMAP4rev2") then Ends true
    else (if offers r (codes "UIDPLUS") then (if offers r (codes "MOVE") then Ends false else Lacks items.Move) else Lacks items.Uidplus)) count
moves_lack_none p r count (inl rev2) = if_so p (offers r (codes "IMAP4rev2")) _ _ count rev2 tt
moves_lack_none p r count (inr both) =
    if_either p (offers r (codes "IMAP4rev2")) _ _ count tt
    (if_so p (offers r (codes "UIDPLUS")) _ _ count both.0 (if_so p (offers r (codes "MOVE")) _ _ count both.1 tt))

fitness_lacks_none : (p : Bool) (r : Replies) (count : ℕ) → IsFit r → LacksNothing p (fitness r) count
fitness_lacks_none p r count fit = if_so p (offers r (codes "QRESYNC")) _ _ count fit.qresync (moves_lack_none p r count fit.moves)

same_count : (m n : ℕ) → tags.Count m ≡ tags.Count n → m ≡ n
same_count m n e = cc

-- behind the connection's first question
logged_in_lacks_none : (p : Bool) (count : ℕ) → 0 < count → LacksNothing p logged_in count
logged_in_lacks_none p count some = λ r told began provides.
    fitness_lacks_none p r (count + 1) (provides.1 (λ e. omega (arith, some, same_count (count + 1) 1 e)))

way_in_lacks_none : (p : Bool) (account : Credentials) (r : Replies) (count : ℕ) → 0 < count → AllowsLogin r → LacksNothing p (way_in account r) count
way_in_lacks_none p account r count some (inl plain) =
    if_so p (offers r (codes "AUTH=PLAIN")) _ _ count plain (λ s told began provides. logged_in_lacks_none p (count + 1) (omega (arith, some)))
way_in_lacks_none p account r count some (inr login) =
    if_either p (offers r (codes "AUTH=PLAIN")) _ _ count (λ s told began provides. logged_in_lacks_none p (count + 1) (omega (arith, some)))
    (if_not p (offers r (codes "LOGINDISABLED")) _ _ count login (λ s told began provides. logged_in_lacks_none p (count + 1) (omega (arith, some))))

behind_lacks_none : (preauth : Bool) (account : Credentials) (r : Replies) → (preauth ≡ false → AllowsLogin r) →
    LacksNothing preauth (behind_offer preauth account r) 1
behind_lacks_none true account r allows = logged_in_lacks_none true 1 (omega arith)
behind_lacks_none false account r allows = way_in_lacks_none false account r 1 (omega arith) (allows refl)

pub entering_lacks_none : (preauth : Bool) (account : Credentials) → LacksNothing preauth (entering preauth account) 0
entering_lacks_none preauth account = λ r told began provides.
    behind_lacks_none preauth account r (λ other. provides.0 refl (began ∙ other))

pub enabling_lacks_none : (preauth rev2 : Bool) (count : ℕ) → LacksNothing preauth (enabling rev2) count
enabling_lacks_none preauth rev2 count = λ r told began provides.
    if_so preauth (is_enabled (codes "QRESYNC") r.untagged) _ _ (count + 1) provides tt
