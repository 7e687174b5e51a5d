-- What a session does but for the commands of actions is steps of any machine.
use Rattle.std.proofs.Common.{◌≡◌, ℕ, List, [], ◌∷◌, None, refl}
use Rattle.mail_base.specs.declared.tag.Tag.{Tag}
use Rattle.imap_model.specs.Talking.{Peer, Answering, Connecting, Awaits}
use Rattle.imap_model.specs.Talking.Answering.{stays, others, goes_on, refuses, carries}
use Rattle.imap_model.specs.Talking.Connecting.{as_before, begins, ends}
use Rattle.world_traits.specs.Asking.Asking.{answers, arrives}
use Rattle.store_core.specs.Keeping.{Keeping}
use Rattle.store_core.specs.Steps.{Books}
use Rattle.play_driver.specs.States.{state_of}
use Rattle.play_driver.specs.Machine.{Machine, Step}
use Rattle.play_driver.specs.Machine.Step.{rests, asks, carries_out, foreign, connects}
use Rattle.imap_session.specs.Enquiring.{Enquiring, connecting, asking}
use Rattle.play_driver.specs.Joining.{SparesAt}

pub awaits_quiet : (tag : Tag) (before : List (List ℕ)) (p : Peer) → Awaits tag before p → p.waiting ≡ None
awaits_quiet tag [] p a = a.0
awaits_quiet tag (x ∷ xs) p a = a.0

module _ (K : Keeping) (M : Machine K) (x : Books K) where
  -- what may happen whatever is asked
  pub answering_steps : (p q : Peer) → Answering p q → SparesAt K M x p q → Step K M (state_of K x p) (state_of K x q)
  answering_steps p q stays spares = rests
  answering_steps p q (others t batch) spares = foreign p t refl refl batch (spares batch)
  answering_steps p q (goes_on a is unasked) spares = rests
  answering_steps p q (refuses a r is unasked refusal) spares = rests
  answering_steps p q (carries w r t after is out) spares = carries_out w r t after is out

  -- making a connection
  pub connecting_steps : (p q : Peer) → Connecting p q → SparesAt K M x p q → Step K M (state_of K x p) (state_of K x q)
  connecting_steps p q (as_before step) spares = answering_steps p q step spares
  connecting_steps p q ends spares = rests
  connecting_steps p q (begins greeting is) spares = connects

  -- and asking a question
  pub enquiring_steps : (p q : Peer) → Enquiring p q → SparesAt K M x p q → Step K M (state_of K x p) (state_of K x q)
  enquiring_steps p q (connecting step) spares = connecting_steps p q step spares
  enquiring_steps p q (asking told tag command question (answers step)) spares = answering_steps p q step spares
  enquiring_steps p q (asking told tag command question (arrives before part [] is awaits front)) spares =
      asks (record { selected = p.talk.selected; tag = tag; command = command }) (awaits_quiet tag before p awaits) question
  enquiring_steps p q (asking told tag command question (arrives before part (next ∷ behind) is awaits front)) spares = rests
