-- Questions add no deed of this client.
use Rattle.std.proofs.Common.{◌≡◌, ◌⊎◌, inl, inr, ℕ, true, false, List, [], ◌∷◌, Option, refl, sym, ◌∙◌, ap, subst}
use Rattle.mail_base.specs.declared.tag.Tag.{Tag}
use Rattle.imap_model.specs.Carrying.{Accepted, Carries, Waiting}
use Rattle.imap_model.specs.Mutating.{is_mutating}
use Rattle.imap_model.specs.Ours.{is_try, ours}
use Rattle.imap_model.specs.Talking.{Peer, Answering, Connecting}
use Rattle.imap_model.specs.Talking.Answering.{stays, others, goes_on, refuses, carries}
use Rattle.imap_model.specs.Talking.Connecting.{as_before, begins, ends}
use Rattle.imap_model.specs.declared.command.Command.{Command}
use Rattle.imap_model.specs.declared.command.Command.TheVariants as commands
use Rattle.imap_model.specs.declared.server.Server.{Server}
use Rattle.imap_model.proofs.Effect.{carried_effect}
use Rattle.imap_session.specs.Enquiring.{Enquiring, asking, connecting}
use Rattle.book_laws.proofs.Deeds.{batch_ours, ours_push_other}
use Rattle.world_traits.specs.Asking.Asking.{answers, arrives}
use Rattle.world_traits.specs.Links.{Any, LinkStep}
use Rattle.world_traits.specs.Moments.{Moment, Since, Within}
use Rattle.world_traits.proofs.Passing.{since_then, since_weaker}
use Rattle.world_traits.proofs.Traces.{carried_now}
use Rattle.store_core.specs.HeldActions.{KeepsActions}
use Rattle.play_driver.proofs.Parts.{since_first}
use Rattle.body_cache.specs.NoDeeds.{NoneWaits, ReadingsAddNone}

module _ (n : ℕ) where
  same_deeds : (s t : Server) → t ≡ s → ours n t.history ≡ ours n s.history
  same_deeds s t same = ap (λ (x : Server). ours n x.history) same

  -- a command that is no try of the action
  accepted_deeds : (selected : Option (List ℕ)) (tag : Tag) (command : Command) (s t : Server) →
      (is_mutating command ≡ true → is_try n tag ≡ false) → Accepted selected tag command s t → ours n t.history ≡ ours n s.history
  accepted_deeds selected tag commands.Capability s t other e = same_deeds s t e
  accepted_deeds selected tag (commands.Login account) s t other e = same_deeds s t e
  accepted_deeds selected tag (commands.Plain account) s t other e = same_deeds s t e
  accepted_deeds selected tag (commands.Enable rev2) s t other e = same_deeds s t e
  accepted_deeds selected tag (commands.Select name since) s t other e = same_deeds s t e
  accepted_deeds selected tag commands.FetchAll s t other e = same_deeds s t e
  accepted_deeds selected tag (commands.FetchRow uid) s t other e = same_deeds s t e
  accepted_deeds selected tag (commands.Search from id) s t other e = same_deeds s t e
  accepted_deeds selected tag (commands.FetchIds uids) s t other e = same_deeds s t e
  accepted_deeds selected tag (commands.FetchText uid) s t other e = same_deeds s t e
  accepted_deeds selected tag (commands.Store uid since add flags) s t other (inl e) =
      ap (ours n) e.becomes.history ∙ ours_push_other n _ s.history (other refl)
  accepted_deeds selected tag (commands.Store uid since add flags) s t other (inr e) = same_deeds s t e.stays
  accepted_deeds selected tag (commands.Shift uid to) s t other (inl e) =
      ap (ours n) e.becomes.history ∙ ours_push_other n _ s.history (other refl)
  accepted_deeds selected tag (commands.Shift uid to) s t other (inr e) = same_deeds s t e.stays
  accepted_deeds selected tag (commands.Copy uid to) s t other (inl e) =
      ap (ours n) e.becomes.history ∙ ours_push_other n _ s.history (other refl)
  accepted_deeds selected tag (commands.Copy uid to) s t other (inr e) = same_deeds s t e.stays
  accepted_deeds selected tag (commands.Expunge uid) s t other (inl e) =
      ap (ours n) e.becomes.history ∙ ours_push_other n _ s.history (other refl)
  accepted_deeds selected tag (commands.Expunge uid) s t other (inr e) = same_deeds s t e.stays
  accepted_deeds selected tag (commands.Append to flags text) s t other e =
      ap (ours n) e.becomes.history ∙ ours_push_other n _ s.history (other refl)
  accepted_deeds selected tag commands.Logout s t other e = same_deeds s t e

  carried_deeds : (w : Waiting) (s t : Server) → (is_mutating w.command ≡ true → is_try n w.tag ≡ false) → Carries w s t →
      ours n t.history ≡ ours n s.history
  carried_deeds w s t other (inl same) = same_deeds s t same
  carried_deeds w s t other (inr does) = accepted_deeds w.selected w.tag w.command s t other does

  -- what is so of a server with its connection
  abbrev Adds : Peer → Peer → Type 0
  Adds p q = NoneWaits n p.waiting → NoneWaits n q.waiting × (ours n q.server.history ≡ ours n p.server.history)

  answering_adds : (p q : Peer) → Answering p q → Adds p q
  answering_adds p q stays none = (none, refl)
  answering_adds p q (others t batch) none = (none, batch_ours n p.server.boxes p.server t batch)
  answering_adds p q (goes_on a is unasked) none = (none, refl)
  answering_adds p q (refuses a r is unasked refusal) none = (none, refl)
  answering_adds p q (carries w r t after is out) none =
      (tt, carried_deeds w p.server t (subst (NoneWaits n) is none) (carried_effect w p.server r t after out))

  connecting_adds : (p q : Peer) → Connecting p q → Adds p q
  connecting_adds p q (as_before step) none = answering_adds p q step none
  connecting_adds p q ends none = (none, refl)
  connecting_adds p q (begins greeting is) none = (tt, refl)

  enquiring_adds : (p q : Peer) → Enquiring p q → Adds p q
  enquiring_adds p q (connecting step) none = connecting_adds p q step none
  enquiring_adds p q (asking told tag command question (answers step)) none = answering_adds p q step none
  enquiring_adds p q (asking told tag command question (arrives before part [] is awaits front)) none = (λ changes. absurd (cc (changes, question)), refl)
  enquiring_adds p q (asking told tag command question (arrives before part (next ∷ behind) is awaits front)) none = (none, refl)

-- what isn't on the disk stays, or a question is asked
abbrev ReadStep : Moment → Moment → Type 0
ReadStep m n = (n.outside ≡ m.outside) ⊎ LinkStep Enquiring m n

read_adds : (k : ℕ) (m n : Moment) → ReadStep m n → Adds k m.outside n.outside
read_adds k m n (inl same) = subst (λ (p : Peer). Adds k m.outside p) (sym same) (λ none. (none, refl))
read_adds k m n (inr step) = enquiring_adds k m.outside n.outside step.outside

pub readings_add_none : ReadingsAddNone
readings_add_none old opened new at reads asks before after k none =
    let first : Since Any ReadStep old opened =
    since_weaker (Within old.now) Any KeepsActions ReadStep (λ m p. tt) (λ m n s. inl s.outside) old opened reads.keeps in
    let second : Since Any ReadStep opened new = since_weaker Any Any (LinkStep Enquiring) ReadStep (λ m p. p) (λ m n s. inr s) opened new asks in
    let whole : Since Any ReadStep old new = since_then Any ReadStep old opened new first second in
    (carried_now Any (λ m. NoneWaits k m.outside.waiting × (ours k m.outside.server.history ≡ ours k old.now.outside.server.history)) ReadStep
    (λ m n any s h. let a = read_adds k m n s h.0 in (a.0, a.1 ∙ h.1)) old (none, refl) at (since_first Any ReadStep old at new before after whole)).1
