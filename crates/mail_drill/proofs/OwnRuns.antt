-- What is done in a world leaves it alone, unless others change something.
use Rattle.std.proofs.Common.{◌≡◌, inl, inr, ℕ, true, List, [], ◌∷◌, ◌++◌, Option, Some, None, sym, subst}
use Rattle.std.proofs.lemmas.Bool.{and_parts}
use Rattle.imap_model.specs.Talking.{Peer}
use Rattle.server_mem.specs.Answered.{after_as}
use Rattle.server_mem.specs.States.{State}
use Rattle.server_mem.specs.declared.outcome.Answered.{Answered}
use Rattle.server_mem.specs.declared.outcome.Answered.TheVariants as answers
use Rattle.world_mem.specs.Heard.{HearsBytes, HearsParts, hears, left_over, stops}
use Rattle.world_mem.specs.Losing.{Loses}
use Rattle.world_mem.specs.Running.{Run, answers_as, comes_as, peer_settled, state_settled, step}
use Rattle.world_mem.specs.declared.did.Did.TheVariants as did
use Rattle.world_mem.specs.declared.did.Held.{Held}
use Rattle.world_mem.specs.declared.plan.Loss.{Loss}
use Rattle.world_mem.specs.declared.plan.Loss.TheVariants as losses
use Rattle.world_traits.specs.Moments.{Clock}
use Rattle.mail_drill.specs.Alone.{are_own, is_alone, is_own_at}
use Rattle.mail_drill.proofs.OwnTurns.{both_true, turn_own}

-- at each moment, and in the server that the connection has
pub record IsOwnRun (r : Run) : Type 0 where
  pub moments : is_alone r.clock ≡ true
  pub state : are_own r.state.server.history ≡ true

-- the moment now
pub own_now : (c : Clock) → is_alone c ≡ true → are_own c.now.outside.server.history ≡ true
own_now c alone = (and_parts (is_own_at c.now) _ alone).0

comes_own : (parts : List (List ℕ)) (a : Answered) (p : Peer) → are_own p.server.history ≡ true → are_own (comes_as parts a p).server.history ≡ true
comes_own parts (answers.Carried tag command) p own = own
comes_own parts (answers.Asked tag) p own = own
comes_own parts (answers.Refused tag) p own = own
comes_own parts (answers.Bad tag) p own = own

answers_own : (s : State) (parts : List (List ℕ)) (a : Answered) (p : Peer) → are_own s.server.history ≡ true → are_own p.server.history ≡ true →
    are_own (answers_as s parts a p).server.history ≡ true
answers_own s parts (answers.Carried tag command) p own at = turn_own s.server own s.choices s.selected tag command
answers_own s parts (answers.Asked tag) p own at = at
answers_own s parts (answers.Refused tag) p own at = at
answers_own s parts (answers.Bad tag) p own at = at

after_own : (s : State) (parts : List (List ℕ)) (a : Answered) → are_own s.server.history ≡ true →
    are_own (after_as s parts a).server.history ≡ true
after_own s parts (answers.Carried tag command) own = turn_own s.server own s.choices s.selected tag command
after_own s parts (answers.Asked tag) own = own
after_own s parts (answers.Refused tag) own = own
after_own s parts (answers.Bad tag) own = own

-- a part is answered
pub heard_own : (part : List ℕ) (a : Answered) (r : Run) → IsOwnRun r → IsOwnRun (step (did.Heard part a) r)
heard_own part a r own =
    let parts = r.state.parts ++ part ∷ [] in
    let came = comes_own parts a r.clock.now.outside (own_now r.clock own.moments) in
    let answered = answers_own r.state parts a (comes_as parts a r.clock.now.outside) own.state came in
    record {
      moments = both_true _ _ answered (both_true _ _ came own.moments);
      state = after_own r.state parts a own.state;
    }

-- bytes have come that aren't a whole part
began_own : (r : Run) → IsOwnRun r → IsOwnRun (step did.Began r)
began_own r own = record { moments = both_true _ _ (own_now r.clock own.moments) own.moments; state = own.state }

-- a connection comes to its end
pub ended_own : (r : Run) → IsOwnRun r → IsOwnRun (step did.Ended r)
ended_own r own = record { moments = both_true _ _ (own_now r.clock own.moments) own.moments; state = own.state }

-- a connection begins
pub greeted_own : (r : Run) → IsOwnRun r → IsOwnRun (step did.Greeted r)
greeted_own r own = record { moments = both_true _ _ (own_now r.clock own.moments) own.moments; state = own.state }

peer_settled_own : (held : Option Held) (s : State) (p : Peer) → are_own s.server.history ≡ true → are_own p.server.history ≡ true →
    are_own (peer_settled held s p).server.history ≡ true
peer_settled_own None s p own at = at
peer_settled_own (Some held) s p own at = answers_own s [] (answers.Carried held.tag held.command) p own at

state_settled_own : (held : Option Held) (s : State) → are_own s.server.history ≡ true → are_own (state_settled held s).server.history ≡ true
state_settled_own None s own = own
state_settled_own (Some held) s own = after_own s [] (answers.Carried held.tag held.command) own

-- what waits is carried out
pub settled_own : (r : Run) → IsOwnRun r → IsOwnRun (step did.Settled r)
settled_own r own = record {
  moments = both_true _ _ (peer_settled_own r.held r.state r.clock.now.outside own.state (own_now r.clock own.moments)) own.moments;
  state = state_settled_own r.held r.state own.state;
}

-- a command waits
waited_own : (held : Held) (r : Run) → IsOwnRun r → IsOwnRun (step (did.Waited held) r)
waited_own held r own = record { moments = both_true _ _ (own_now r.clock own.moments) own.moments; state = own.state }

parts_own : (s : State) (r : Run) (u : State) (v : Run) → HearsParts s r u v → IsOwnRun r → IsOwnRun v
parts_own s r u v stops own = own
parts_own s r u v (hears {t = t} {q = q} before one) own =
    subst IsOwnRun (sym one.run) (heard_own one.answer.part one.answer.answered q (parts_own s r t q before own))

left_own : (bytes : List ℕ) (r : Run) → IsOwnRun r → IsOwnRun (left_over bytes r)
left_own [] r own = own
left_own (byte ∷ bytes) r own = began_own r own

-- bytes come
pub bytes_own : (bytes : List ℕ) (s : State) (old : Run) (u : State) (new : Run) → HearsBytes bytes s old u new → IsOwnRun old → IsOwnRun new
bytes_own bytes s old u new h own = subst IsOwnRun (sym h.left) (left_own u.begun h.mid (parts_own _ old u h.mid h.all.parts own))

-- they come as the connection is lost
pub loses_own : (loss : Loss) (bytes : List ℕ) (s : State) (old new : Run) → Loses loss bytes s old new → IsOwnRun old → IsOwnRun new
loses_own losses.Nothing bytes s old new same own = subst IsOwnRun (sym same) own
loses_own (losses.Part count) bytes s old new h own = parts_own _ old h.after new h.all.parts own
loses_own losses.All bytes s old new h own = parts_own _ old h.after new h.all.parts own
loses_own (losses.Waits carried) bytes s old new (inl waits) own = subst IsOwnRun (sym waits.run) (waited_own waits.held old own)
loses_own (losses.Waits carried) bytes s old new (inr both) own = parts_own _ old both.1.after new both.1.all.parts own
