-- Whatever is done in a world in memory behind a greeting, its server serves.
use Rattle.std.proofs.Common.{◌≡◌, ◌≢◌, inl, inr, ℕ, ◌≤◌, List, [], ◌∷◌, ◌++◌, length, Option, Some, None, refl, sym, ◌∙◌, ap, subst, arith}
use Rattle.std.proofs.Common.{length-append}
use Rattle.std.proofs.lemmas.List.{append_cancel_left}
use Rattle.std.proofs.lemmas.Option.{none-some, same_Some}
use Rattle.mail_base.specs.declared.tag.Tag.{Tag}
use Rattle.mail_base.specs.declared.tag.Tag.TheVariants as tags
use Rattle.imap_model.specs.CarriedOut.{told_in}
use Rattle.imap_model.specs.Carrying.{Waiting}
use Rattle.imap_model.specs.PlainChanges.{with_change}
use Rattle.imap_model.specs.Talking.{Arriving, IsGreeting, Peer, Talk, arrived, greeted}
use Rattle.imap_model.specs.declared.code.Code.{Code}
use Rattle.imap_model.specs.declared.command.Command.{Command}
use Rattle.imap_model.specs.declared.deed.Author.TheVariants.{Other}
use Rattle.imap_model.specs.declared.ending.Ending.{Ending}
use Rattle.imap_model.specs.declared.replies.Replies.{Replies}
use Rattle.imap_model.specs.declared.response.Response.{Response}
use Rattle.imap_model.specs.declared.response.Response.TheVariants as responses
use Rattle.imap_model.specs.declared.server.Server.{Server}
use Rattle.server_mem.specs.Answered.{IsAnswered, after_as, bad_of}
use Rattle.server_mem.specs.Greeting.{greeting}
use Rattle.server_mem.specs.States.{State, turn_at}
use Rattle.server_mem.specs.declared.outcome.Answered.{Answered}
use Rattle.server_mem.specs.declared.outcome.Answered.TheVariants as answers
use Rattle.world_traits.specs.Connected.{IsGreeted}
use Rattle.world_traits.specs.Files.{Stored}
use Rattle.world_traits.specs.Links.{Any, becomes}
use Rattle.world_traits.specs.Moments.{Clock, Moment, tick, with_stored}
use Rattle.world_traits.specs.declared.disk.Side.{Side}
use Rattle.world_traits.specs.declared.disk.Side.TheVariants.{Left, Right}
use Rattle.world_traits.proofs.Passing.{since_start, since_tick, since_weaker}
use Rattle.world_mem.specs.Running.{Run, answers_as, at_end, begins_with, carried_out, comes_as, run, state_settled, step, unfinished, waiting_of, with_front}
use Rattle.world_mem.specs.declared.did.Did.{Did}
use Rattle.world_mem.specs.declared.did.Did.TheVariants as did
use Rattle.world_mem.specs.declared.did.Held.{Held}
use Rattle.play_driver.specs.Refusals.{NeverTold, RefusesRun}
use Rattle.play_driver.specs.Serving.{IsServing, Serves, ServesOn}
use Rattle.play_driver.proofs.Longer.{longer}
use Rattle.mail_drill.specs.Connected.{IsMade, IsServedFrom, IsTold}
use Rattle.mail_drill.specs.Doing.{IsEnded, IsLevel, MayBeAllDone, MayBeDone, ServesInMemory}
use Rattle.mail_drill.specs.Offering.{OffersAll}
use Rattle.mail_drill.proofs.ServedTurn.{turn_serves}

no_bye : (p : Peer) → p.talk.told ≢ responses.Bye ∷ [] → p.talk ≢ greeted responses.Bye
no_bye p other is = other (ap (λ (t : Talk). t.told) is)

-- where nothing more is told
not_more : (told : List Response) (tag : Tag) (r : Replies) → told ≡ told ++ told_in tag r → ⊥
not_more told tag r is = omega (arith, longer told tag r, ap length is)

silent_serves : (p q : Peer) → q.talk.told ≡ p.talk.told → p.talk.told ≢ responses.Bye ∷ [] → ServesOn p q
silent_serves p q same other = record {
  replies = λ w r waits more. absurd (not_more p.talk.told w.tag r (sym same ∙ more));
  texts = λ a r arrives more. absurd (not_more p.talk.told a.tag r (sym same ∙ more));
  greets = no_bye q (λ is. other (sym same ∙ is));
}

-- what was told before was told
told_more : (m n : Moment) (xs : List Response) → n.outside.talk.told ≡ m.outside.talk.told ++ xs → 1 ≤ length xs → IsTold m → IsTold n
told_more m n xs is some told = record {
  some = omega (arith, ap length is, length-append m.outside.talk.told xs, told.some);
  more = λ bye. absurd (omega (arith, ap length is, length-append m.outside.talk.told xs, told.some, some, ap length bye));
}

told_same : (m n : Moment) → n.outside.talk.told ≡ m.outside.talk.told → IsTold m → IsTold n
told_same m n same told = record { some = omega (arith, ap length same, told.some); more = λ bye. told.more (sym same ∙ bye) }

-- a reply of one line is a completion alone
no_end : (xs : List Response) (r : Response) → [] ≡ xs ++ r ∷ [] → ⊥
no_end xs r is = omega (arith, ap length is, length-append xs (r ∷ []))

same_ends : (xs ys : List Response) (r s : Response) → xs ++ r ∷ [] ≡ ys ++ s ∷ [] → (xs ≡ ys) × (r ≡ s)
same_ends [] [] r s e = let same : r ≡ s = cc in (refl, same)
same_ends [] (y ∷ ys) r s e = let rest : [] ≡ ys ++ s ∷ [] = cc in absurd (no_end ys s rest)
same_ends (x ∷ xs) [] r s e = let rest : [] ≡ xs ++ r ∷ [] = cc in absurd (no_end xs r rest)
same_ends (x ∷ xs) (y ∷ ys) r s e =
    let first : x ≡ y = cc in
    let rest : xs ++ r ∷ [] ≡ ys ++ s ∷ [] = cc in
    let both = same_ends xs ys r s rest in
    (ap (λ (z : Response). z ∷ xs) first ∙ ap (λ (zs : List Response). y ∷ zs) both.0, both.1)

-- a reply is known by what it tells
same_completion : (tag : Tag) (a b : Ending) (c d : Code) → responses.Done tag a c ≡ responses.Done tag b d → (a ≡ b) × (c ≡ d)
same_completion tag a b c d e = let one : a ≡ b = cc in let other : c ≡ d = cc in (one, other)

same_fields : (r x : Replies) → r.untagged ≡ x.untagged → r.ending ≡ x.ending → r.code ≡ x.code → r ≡ x
same_fields r x u e c =
    ap (λ (us : List Response). record { untagged = us; ending = r.ending; code = r.code }) u
    ∙ ap (λ (n : Ending). record { untagged = x.untagged; ending = n; code = r.code }) e
    ∙ ap (λ (k : Code). record { untagged = x.untagged; ending = x.ending; code = k }) c

same_replies : (told : List Response) (tag : Tag) (r x : Replies) → told ++ told_in tag r ≡ told ++ told_in tag x → r ≡ x
same_replies told tag r x e =
    let both = same_ends r.untagged x.untagged (responses.Done tag r.ending r.code) (responses.Done tag x.ending x.code)
    (append_cancel_left told (told_in tag r) (told_in tag x) e) in
    let last = same_completion tag r.ending x.ending r.code x.code both.1 in
    same_fields r x both.0 last.0 last.1

-- a single line is told
one_line : (told : List Response) (tag : Tag) (r : Replies) (x : Response) → told ++ x ∷ [] ≡ told ++ told_in tag r →
    (r.untagged ≡ []) × (x ≡ responses.Done tag r.ending r.code)
one_line told tag r x e =
    let both = same_ends [] r.untagged x (responses.Done tag r.ending r.code) (append_cancel_left told (x ∷ []) (told_in tag r) e) in
    (sym both.0, both.1)

-- a line that tells of no tag of this client's refuses nothing
strange_refuses : (ending : Ending) (code : Code) → RefusesRun (responses.Done tags.Strange ending code) → ⊥
strange_refuses ending code (inl bye) = cc
strange_refuses ending code (inr denies) = denies.0

strange_line : (r : Replies) → r.untagged ≡ [] → NeverTold RefusesRun (told_in tags.Strange r)
strange_line r none =
    subst (λ (rs : List Response). NeverTold RefusesRun (rs ++ responses.Done tags.Strange r.ending r.code ∷ [])) (sym none)
    (λ refuses. strange_refuses r.ending r.code refuses, tt)

-- the command waits, while this is selected
abbrev waits_as : Option (List ℕ) → Tag → Command → Option Waiting
waits_as selected tag command = Some (record { selected = selected; tag = tag; command = command })

-- A command that waits is carried out, while no text arrives.
module _ (s : State) (offers : OffersAll s.choices) (tag : Tag) (command : Command) (p : Peer)
    (waits : p.waiting ≡ waits_as s.selected tag command) (none : p.talk.arriving ≡ None)
    (server : p.server ≡ s.server) where
  abbrev W : Waiting
  W = record { selected = s.selected; tag = tag; command = command }

  abbrev R : Replies
  R = (turn_at s tag command).replies

  abbrev Q : Peer
  Q = answers_as s [] (answers.Carried tag command) p

  serves_it : Serves p.talk.told W p.server R
  serves_it = subst (λ (t : Server). Serves p.talk.told W t R) (sym server) (turn_serves s offers p.talk.told tag command)

  serves_as : (w : Waiting) (r : Replies) → W ≡ w → p.talk.told ++ told_in tag R ≡ p.talk.told ++ told_in w.tag r → Serves p.talk.told w p.server r
  serves_as w r is more =
      let under : p.talk.told ++ told_in tag R ≡ p.talk.told ++ told_in tag r =
      more ∙ ap (λ (x : Waiting). p.talk.told ++ told_in x.tag r) (sym is) in
      subst (λ (x : Waiting). Serves p.talk.told x p.server r) is
      (subst (λ (x : Replies). Serves p.talk.told W p.server x) (same_replies p.talk.told tag R r under) serves_it)

  carried_serves : Q.talk.told ≢ responses.Bye ∷ [] → ServesOn p Q
  carried_serves other = record {
    replies = λ w r is more. serves_as w r (same_Some W w (sym waits ∙ is)) more;
    texts = λ a r arrives more. absurd (none-some a (sym none ∙ arrives));
    greets = no_bye Q other;
  }

-- A part is answered by one line: that of a text that isn't complete, or is none.
one_serves : (p q : Peer) (x : Response) → p.waiting ≡ None → q.talk.told ≡ p.talk.told ++ x ∷ [] →
    ((a : Arriving) (r : Replies) → p.talk.arriving ≡ Some a → r.untagged ≡ [] → x ≡ responses.Done a.tag r.ending r.code →
    NeverTold RefusesRun (told_in a.tag r)) → q.talk.told ≢ responses.Bye ∷ [] → ServesOn p q
one_serves p q x quiet told refuses other = record {
  replies = λ w r waits more. absurd (none-some w (sym quiet ∙ waits));
  texts = λ a r arrives more. let line = one_line p.talk.told a.tag r x (sym told ∙ more) in refuses a r arrives line.0 line.1;
  greets = no_bye q other;
}

go_is_no_end : (tag : Tag) (ending : Ending) (code : Code) → responses.Go ≡ responses.Done tag ending code → ⊥
go_is_no_end tag ending code is = cc

bad_refuses : (a : Arriving) (r : Replies) → Some unfinished ≡ Some a → r.untagged ≡ [] → NeverTold RefusesRun (told_in a.tag r)
bad_refuses a r is none = subst (λ (b : Arriving). NeverTold RefusesRun (told_in b.tag r)) (same_Some unfinished a is) (strange_line r none)

some_told : (tag : Tag) (r : Replies) → 1 ≤ length (told_in tag r)
some_told tag r = omega (arith, length-append r.untagged (responses.Done tag r.ending r.code ∷ []))

-- a greeting, which isn't BYE
greeting_no_bye : (offers : List (List ℕ)) → greeting offers ≡ responses.Bye → ⊥
greeting_no_bye offers is = cc

greeting_may : (offers : List (List ℕ)) → IsGreeting (greeting offers)
greeting_may [] = tt
greeting_may (word ∷ words) = tt

first_line : (x y : Response) → x ∷ [] ≡ y ∷ [] → x ≡ y
first_line x y is = cc

told_greeting : (offers : List (List ℕ)) (m : Moment) → m.outside.talk.told ≡ greeting offers ∷ [] → IsTold m
told_greeting offers m is = record {
  some = omega (arith, ap length is);
  more = λ bye. absurd (greeting_no_bye offers (first_line (greeting offers) responses.Bye (sym is ∙ bye)));
}

-- What is done, one thing behind another.
module _ (made : Clock) where
  on_tick : (c : Clock) (m : Moment) → IsServedFrom made c → IsServing c.now m → IsTold m → IsServedFrom made (tick c m)
  on_tick c m is serves told =
      record { later = since_tick IsTold IsServing made c (tick c m) m is.later refl told serves; told = told }

  on_silent : (c : Clock) (m : Moment) → m.outside.talk.told ≡ c.now.outside.talk.told → IsServedFrom made c → IsServedFrom made (tick c m)
  on_silent c m same is =
      on_tick c m is (silent_serves c.now.outside m.outside same is.told.more) (told_same c.now m same is.told)

  pub on_peer : (f : Peer → Peer) (c : Clock) → (f c.now.outside).talk.told ≡ c.now.outside.talk.told → IsServedFrom made c → IsServedFrom made (becomes f c)
  on_peer f c same is = on_silent c (record c.now { outside = f c.now.outside }) same is

  pub on_stored : (side : Side) (file : Stored) (c : Clock) → IsServedFrom made c → IsServedFrom made (tick c (with_stored side file c.now))
  on_stored Left file c is = on_silent c (with_stored Left file c.now) refl is
  on_stored Right file c is = on_silent c (with_stored Right file c.now) refl is

  -- a connection begins
  greeted_serves : (offers : List (List ℕ)) (p : Peer) → 1 ≤ length p.talk.told → ServesOn p (begins_with (greeting offers) p)
  greeted_serves offers p some = record {
    replies = λ w r waits more. absurd (omega (arith, some, ap length more, longer p.talk.told w.tag r));
    texts = λ a r arrives more. absurd (omega (arith, some, ap length more, longer p.talk.told a.tag r));
    greets = no_bye (begins_with (greeting offers) p) (λ bye. greeting_no_bye offers (first_line (greeting offers) responses.Bye bye));
  }

  on_greeted : (offers : List (List ℕ)) (c : Clock) → IsServedFrom made c →
      IsServedFrom made (tick c (record c.now { outside = begins_with (greeting offers) c.now.outside }))
  on_greeted offers c is =
      let m : Moment = record c.now { outside = begins_with (greeting offers) c.now.outside } in
      on_tick c m is (greeted_serves offers c.now.outside is.told.some) (told_greeting offers m refl)

  -- a part is answered
  module _ (t : State) (each_open : t.choices.closed ≡ None) (part : List ℕ) (r : Run) (offers : OffersAll r.state.choices) (level : IsLevel r)
      (is : IsServedFrom made r.clock) where
    abbrev parts : List (List ℕ)
    parts = r.state.parts ++ part ∷ []

    abbrev here : Moment
    here = r.clock.now

    abbrev first : Answered → Moment
    first a = record here { outside = comes_as parts a here.outside }

    abbrev second : Answered → Moment
    second a = record (first a) { outside = answers_as r.state parts a (first a).outside }

    then_answered : (a : Answered) (xs : List Response) → (first a).outside.talk.told ≡ here.outside.talk.told →
        (second a).outside.talk.told ≡ (first a).outside.talk.told ++ xs → 1 ≤ length xs →
        ((second a).outside.talk.told ≢ responses.Bye ∷ [] → ServesOn (first a).outside (second a).outside) →
        IsServedFrom made (step (did.Heard part a) r).clock
    then_answered a xs same more some serves =
        let came : IsServedFrom made (tick r.clock (first a)) = on_silent r.clock (first a) same is in
        let told : IsTold (second a) = told_more (first a) (second a) xs more some came.told in
        on_tick (tick r.clock (first a)) (second a) came (serves told.more) told

    waits_so : (tag : Tag) (command : Command) → (first (answers.Carried tag command)).outside.waiting ≡ waits_as r.state.selected tag command
    waits_so tag command = ap (λ (name : Option (List ℕ)). waits_as name tag command) level.selected

    pub on_heard : (a : Answered) (asked : List (List ℕ)) → IsAnswered t asked a → IsServedFrom made (step (did.Heard part a) r).clock
    on_heard (answers.Carried tag command) asked may =
        then_answered (answers.Carried tag command) (told_in tag (turn_at r.state tag command).replies) refl refl
        (some_told tag (turn_at r.state tag command).replies)
        (λ other. carried_serves r.state offers tag command (first (answers.Carried tag command)).outside (waits_so tag command) refl level.server other)
    on_heard (answers.Asked tag) asked may =
        then_answered (answers.Asked tag) (responses.Go ∷ []) refl refl (omega arith)
        (λ other. one_serves (first (answers.Asked tag)).outside (second (answers.Asked tag)).outside responses.Go level.quiet refl
        (λ a x arrives none end. absurd (go_is_no_end a.tag x.ending x.code end)) other)
    on_heard (answers.Refused tag) asked may = absurd (none-some may.1 (sym each_open ∙ may.4))
    on_heard (answers.Bad tag) asked may =
        then_answered (answers.Bad tag) (bad_of tag ∷ []) refl refl (omega arith)
        (λ other. one_serves (first (answers.Bad tag)).outside (second (answers.Bad tag)).outside (bad_of tag) level.quiet refl
        (λ a x arrives none end. bad_refuses a x arrives none) other)

  -- what is held is carried out
  module _ (r : Run) (offers : OffersAll r.state.choices) (ended : IsEnded r) (is : IsServedFrom made r.clock) where
    on_settled : (held : Option Held) → r.held ≡ held → IsServedFrom made (carried_out held r).clock
    on_settled None same = on_silent r.clock r.clock.now refl is
    on_settled (Some held) same =
        let p : Peer = r.clock.now.outside in
        let q : Peer = answers_as r.state [] (answers.Carried held.tag held.command) p in
        let m : Moment = record r.clock.now { outside = q } in
        let replies = (turn_at r.state held.tag held.command).replies in
        let told : IsTold m = told_more r.clock.now m (told_in held.tag replies) refl (some_told held.tag replies) is.told in
        on_tick r.clock m is
        (carried_serves r.state offers held.tag held.command p (ended.waits ∙ ap (waiting_of r.state) same) ended.none ended.server told.more) told

  -- so it is with each
  on_step : (d : Did) (r : Run) → OffersAll r.state.choices → MayBeDone d r → IsServedFrom made r.clock → IsServedFrom made (step d r).clock
  on_step (did.Wrote side at bytes) r offers may is = on_stored side _ r.clock is
  on_step (did.Synced side) r offers may is = on_stored side _ r.clock is
  on_step (did.Changed name change) r offers may is =
      on_peer (λ (p : Peer). record p { server = with_change Other name change r.state.server }) r.clock refl is
  on_step did.Greeted r offers may is = on_greeted r.state.choices.offers r.clock is
  on_step (did.Heard part answered) r offers may is =
      on_heard r.state offers.each_open part r offers may.0 is answered (r.state.parts ++ part ∷ []) may.1
  on_step did.Began r offers may is = on_peer (with_front unfinished) r.clock refl is
  on_step (did.Waited held) r offers may is = on_peer (arrived held.tag held.command [] [] []) r.clock refl is
  on_step did.Settled r offers may is = on_settled r offers may is r.held refl
  on_step did.Ended r offers may is = on_peer at_end r.clock refl is

-- what the server offers stays
pub answered_choices : (s : State) (asked : List (List ℕ)) (a : Answered) → (after_as s asked a).choices ≡ s.choices
answered_choices s asked (answers.Carried tag command) = refl
answered_choices s asked (answers.Asked tag) = refl
answered_choices s asked (answers.Refused tag) = refl
answered_choices s asked (answers.Bad tag) = refl

pub settled_choices : (held : Option Held) (s : State) → (state_settled held s).choices ≡ s.choices
settled_choices None s = refl
settled_choices (Some held) s = refl

pub step_choices : (d : Did) (r : Run) → (step d r).state.choices ≡ r.state.choices
step_choices (did.Wrote side at bytes) r = refl
step_choices (did.Synced side) r = refl
step_choices (did.Changed name change) r = refl
step_choices did.Greeted r = refl
step_choices (did.Heard part answered) r = answered_choices r.state (r.state.parts ++ part ∷ []) answered
step_choices did.Began r = refl
step_choices (did.Waited held) r = refl
step_choices did.Settled r = settled_choices r.held r.state
step_choices did.Ended r = refl

all_served : (made : Clock) (ds : List Did) (r : Run) → OffersAll r.state.choices → MayBeAllDone ds r → IsServedFrom made r.clock →
    IsServedFrom made (run ds r).clock
all_served made [] r offers may is = is
all_served made (d ∷ ds) r offers may is =
    all_served made ds (step d r) (subst OffersAll (sym (step_choices d r)) offers) may.1 (on_step made d r offers may.0 is)

-- from a greeting on
abbrev greeted_at : Run → Clock
greeted_at r = (step did.Greeted r).clock

greeted_told : (r : Run) → IsTold (greeted_at r).now
greeted_told r = told_greeting r.state.choices.offers (greeted_at r).now refl

greeted_served : (r : Run) → IsServedFrom (greeted_at r) (greeted_at r)
greeted_served r = record { later = since_start IsTold IsServing (greeted_at r); told = greeted_told r }

greeted_fresh : (r : Run) → IsGreeted (greeted_at r).now.outside
greeted_fresh r =
    record { greeting = greeting r.state.choices.offers; greets = greeting_may r.state.choices.offers; quiet = refl; talk = refl }

pub greeted_made : (r : Run) → IsMade (greeted_at r)
greeted_made r = record {
  made = greeted_at r;
  fresh = greeted_fresh r;
  hello = no_bye (greeted_at r).now.outside (greeted_told r).more;
  served = greeted_served r;
}

pub serves_in_memory : ServesInMemory
serves_in_memory old first ds grows offers may =
    let k : Clock = greeted_at first in
    let all = all_served k ds (step did.Greeted first) offers may (greeted_served first) in
    record {
      made = k;
      before = grows;
      fresh = greeted_fresh first;
      hello = no_bye k.now.outside (greeted_told first).more;
      later = since_weaker IsTold Any IsServing IsServing (λ m told. tt) (λ m n serves. serves) k (run ds (step did.Greeted first)).clock all.later;
    }
