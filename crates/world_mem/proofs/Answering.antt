-- What a server in memory does is what a server may do.
use Rattle.std.proofs.Common.{◌≡◌, ℕ, List, [], ◌∷◌, refl, sym, ◌∙◌, subst}
use Rattle.imap_model.specs.Changes.{Changes, Batch, none, more}
use Rattle.imap_model.specs.Talking.{Peer, Answering, others, Connecting, begins, ends, as_before, IsGreeting}
use Rattle.imap_model.specs.declared.deed.Author.TheVariants.{Other}
use Rattle.imap_model.specs.declared.deed.Change.{Change}
use Rattle.imap_model.specs.declared.server.Server.{Server}
use Rattle.world_traits.specs.Links.{Any, AnyStep, Linked, LinkStep, becomes}
use Rattle.world_traits.specs.Moments.{Clock}
use Rattle.world_traits.proofs.Passing.{since_start, since_tick, since_then, since_weaker}
use Rattle.world_mem.specs.Others.{OthersChange}
use Rattle.server_mem.specs.Greeting.{greeting}
use Rattle.world_traits.specs.Connected.{IsGreeted, WasConnected}
use Rattle.world_mem.specs.Running.{Run, step, at_end, begins_with}
use Rattle.world_mem.specs.declared.did.Did.TheVariants as did

-- one step
pub one_step : (S : Peer → Peer → Type 0) (f : Peer → Peer) (c : Clock) → S c.now.outside (f c.now.outside) → Linked S c (becomes f c)
one_step S f c is = since_tick Any (LinkStep S) c c (becomes f c) (becomes f c).now (since_start Any (LinkStep S) c) refl tt
    (record { left = refl; right = refl; outside = is })

-- a change by another client
pub one_change : (name : List _) (change : Change) (s t : Server) (c : Clock) → c.now.outside.server ≡ s → Changes s.boxes Other name change s t
    → Linked Answering c (becomes (λ p. record p { server = t }) c)
one_change name change s t c is changes =
    one_step Answering (λ p. record p { server = t }) c (others t (subst (λ (x : Server). Batch x.boxes x t) (sym is) (more name change changes none)))

-- others change nothing, or go on
pub no_change : (r : Run) → OthersChange r r
no_change r = record { told = since_start Any (LinkStep Answering) r.clock; waiting = refl; talk = refl; held = refl }

pub no_change_as : (old new : Run) → new ≡ old → OthersChange old new
no_change_as old new is = subst (OthersChange old) (sym is) (no_change old)

pub more_changes : (old mid new : Run) → OthersChange old mid → OthersChange mid new → OthersChange old new
more_changes old mid new a b = record {
  told = since_then Any (LinkStep Answering) old.clock mid.clock new.clock a.told b.told;
  waiting =
      b.waiting ∙ a.waiting;
  talk = b.talk ∙ a.talk;
  held = b.held ∙ a.held;
}

-- the server's greeting is one
greets : (offers : List (List ℕ)) → IsGreeting (greeting offers)
greets [] = tt
greets (word ∷ words) = tt

-- the end of a connection
pub one_end : (r : Run) → Linked Connecting r.clock (step did.Ended r).clock
one_end r = one_step Connecting at_end r.clock ends

pub one_greeting : (r : Run) → Linked Connecting r.clock (step did.Greeted r).clock
one_greeting r = one_step Connecting (begins_with (greeting r.state.choices.offers)) r.clock
    (begins (greeting r.state.choices.offers) (greets r.state.choices.offers))

pub greeted_now : (r : Run) → IsGreeted (step did.Greeted r).clock.now.outside
greeted_now r = record { greeting = greeting r.state.choices.offers; greets = greets r.state.choices.offers; quiet = refl; talk = refl }

pub connected_now : (old : Clock) (r : Run) → Linked Connecting old r.clock → WasConnected old (step did.Greeted r).clock
connected_now old r before =
    let first = greeting r.state.choices.offers in
    let is_one = greets r.state.choices.offers in
    record {
      at = r.clock;
      to = (step did.Greeted r).clock.now;
      before = before;
      has = tt;
      step = record { left = refl; right = refl; outside = begins first is_one };
      after = since_start Any (LinkStep Connecting) (step did.Greeted r).clock;
      is = record { greeting = first; greets = is_one; is = refl };
    }

-- answering is a case of connecting
pub connecting : (old new : Clock) → Linked Answering old new → Linked Connecting old new
connecting old new is = since_weaker Any Any (LinkStep Answering) (LinkStep Connecting) (λ m any. any)
    (λ m n step. record { left = step.left; right = step.right; outside = as_before step.outside }) old new is

pub linked_then : (S : Peer → Peer → Type 0) (old mid new : Clock) → Linked S old mid → Linked S mid new → Linked S old new
linked_then S old mid new a b = since_then Any (LinkStep S) old mid new a b

pub linked_start : (S : Peer → Peer → Type 0) (c : Clock) → Linked S c c
linked_start S c = since_start Any (LinkStep S) c

-- of a server that isn't told nothing is known
pub any_linked : (S : Peer → Peer → Type 0) (old new : Clock) → Linked S old new → Linked AnyStep old new
any_linked S old new is = since_weaker Any Any (LinkStep S) (LinkStep AnyStep) (λ m any. any)
    (λ m n step. record { left = step.left; right = step.right; outside = tt }) old new is
