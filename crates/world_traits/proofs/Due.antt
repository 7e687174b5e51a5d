-- Where a reply is due, so that a caller that knows no more than `Link` may call `recv`: behind a greeting, behind each part of a
-- text that was sent, and so behind each whole text (RFC 9051, sections 2.2 and 7.1.5).
--
-- Such a caller keeps `Owes heard`: `greeting_owed` and `sent_owed` begin it, and `owes_on` takes it over each further call. While
-- what it received is a front of the lines of what it heard, `owed_due` gives what `recv` requires.
use Rattle.std.proofs.Common.{◌≡◌, ℕ, false, true, List, [], ◌∷◌, ◌++◌, Option, Some, None, refl, sym, ◌∙◌, ap, subst, append_assoc}
use Rattle.std.proofs.Math.Logic.{∥∥₁_elim}
use Rattle.std.proofs.lemmas.List.{append-nil}
use Rattle.std.proofs.lemmas.Option.{none-some, same_Some}
use Rattle.mail_base.specs.declared.tag.Tag.{Tag}
use Rattle.imap_model.specs.CarriedOut.{told_in}
use Rattle.imap_model.specs.Lines.{AreLines, Received}
use Rattle.imap_model.specs.Talking.{Peer, Talk, Arriving, Answering, Awaits, IsDue, Unanswered, arrived}
use Rattle.imap_model.specs.Talking.Answering.{stays, others, goes_on, refuses, carries}
use Rattle.imap_model.specs.declared.command.Command.{Command}
use Rattle.imap_model.specs.declared.response.Response.{Response}
use Rattle.imap_model.specs.declared.response.Response.TheVariants as responses
use Rattle.world_traits.specs.Connected.{IsGreeted, IsReplyDue}
use Rattle.world_traits.specs.LinkState.{Connection}
use Rattle.world_traits.specs.Links.{Any, LinkStep, Linked, becomes}
use Rattle.world_traits.specs.Moments.{Moment, Clock}
use Rattle.world_traits.specs.Owing.{Owes}
use Rattle.world_traits.specs.Sends.{Arrives}
use Rattle.world_traits.proofs.Keeping.{since_now}
use Rattle.world_traits.proofs.OneLine.{no_more}

last_some : (rs : List Response) (r : Response) → rs ++ r ∷ [] ≡ [] → ⊥
last_some [] r e = cc
last_some (q ∷ rs) r e = cc

last_back : (xs rs : List Response) (r : Response) → xs ++ (rs ++ r ∷ []) ≡ [] → ⊥
last_back xs rs r e = last_some (xs ++ rs) r (append_assoc xs rs (r ∷ []) ∙ e)

-- what is owed stays owed until it was heard
owes_step : (heard : List Response) (o p : Peer) → Answering o p → Owes heard o → Owes heard p
owes_step heard o p stays h = h
owes_step heard o p (others t batch) h = record { more = h.more; told = h.told; owed = h.owed }
owes_step heard o p (goes_on a is unasked) h = record {
  more = h.more ++ responses.Go ∷ [];
  told = ap (λ (t : List Response). t ++ responses.Go ∷ []) h.told ∙ append_assoc heard h.more (responses.Go ∷ []);
  owed = λ nil w u. last_some h.more responses.Go nil;
}
owes_step heard o p (refuses a r is unasked refusal) h = record {
  more = h.more ++ told_in a.tag r;
  told = ap (λ (t : List Response). t ++ told_in a.tag r) h.told ∙ append_assoc heard h.more (told_in a.tag r);
  owed = λ nil w u. last_back h.more r.untagged (responses.Done a.tag r.ending r.code) nil;
}
owes_step heard o p (carries v r t after is out) h = record {
  more = h.more ++ told_in v.tag r;
  told = ap (λ (t : List Response). t ++ told_in v.tag r) h.told ∙ append_assoc heard h.more (told_in v.tag r);
  owed = λ nil w u. last_back h.more r.untagged (responses.Done v.tag r.ending r.code) nil;
}

pub owes_on : (heard : List Response) (k l : Clock) → Owes heard k.now.outside → Linked Answering k l → Owes heard l.now.outside
owes_on heard k l h linked =
    since_now Any (λ (m : Moment). Owes heard m.outside) (LinkStep Answering)
    (λ m n any step o. owes_step heard m.outside n.outside step.outside o) k h l linked

-- behind a greeting
pub greeting_owed : (p : Peer) → IsGreeted p → Owes [] p
greeting_owed p g = record {
  more = g.greeting ∷ [];
  told = ap (λ (t : Talk). t.told) g.talk;
  owed = λ nil w u. let h : g.greeting ∷ [] ≡ [] = nil in cc;
}

-- while a part is awaited nothing is told
record Quiet (told : List Response) (p : Peer) : Type 0 where
  pub nothing : p.waiting ≡ None
  pub answered : ¬ (Unanswered p)
  pub same : p.talk.told ≡ told

awaits_quiet : (tag : Tag) (before : List (List ℕ)) (p : Peer) → Awaits tag before p → Quiet p.talk.told p
awaits_quiet tag [] p awaits = record { nothing = awaits.0; answered = λ u. none-some u.0 (sym awaits.1 ∙ u.1); same = refl }
awaits_quiet tag (part ∷ parts) p awaits = record {
  nothing = awaits.0;
  answered = λ u. let h : true ≡ false = ap (λ (a : Arriving). a.asked)
      (same_Some (record { tag = tag; parts = part ∷ parts; asked = true }) u.0 (sym awaits.1 ∙ u.1)) ∙ u.2 in cc;
  same = refl;
}

quiet_step : (told : List Response) (o p : Peer) → Answering o p → Quiet told o → Quiet told p
quiet_step told o p stays h = h
quiet_step told o p (others t batch) h = record { nothing = h.nothing; answered = h.answered; same = h.same }
quiet_step told o p (goes_on a is unasked) h = absurd (h.answered (a, is, unasked))
quiet_step told o p (refuses a r is unasked refusal) h = absurd (h.answered (a, is, unasked))
quiet_step told o p (carries w r t after is out) h = absurd (none-some w (sym h.nothing ∙ is))

quiet_on : (told : List Response) (k l : Clock) → Quiet told k.now.outside → Linked Answering k l → Quiet told l.now.outside
quiet_on told k l h linked =
    since_now Any (λ (m : Moment). Quiet told m.outside) (LinkStep Answering)
    (λ m n any step q. quiet_step told m.outside n.outside step.outside q) k h l linked

-- a part that has just arrived isn't answered, or the command waits
arrived_owed : (tag : Tag) (command : Command) (before : List (List ℕ)) (part : List ℕ) (behind : List (List ℕ)) (told : List Response)
    (p : Peer) → p.talk.told ≡ told
    → Owes told (arrived tag command before part behind p)
arrived_owed tag command before part [] told p same = record {
  more = [];
  told = same ∙ sym (append-nil told);
  owed = λ nil waits u. none-some (record { selected = p.talk.selected; tag = tag; command = command }) (sym waits);
}
arrived_owed tag command before part (next ∷ behind) told p same = record {
  more = [];
  told = same ∙ sym (append-nil told);
  owed = λ nil waits u. u (record { tag = tag; parts = before ++ part ∷ []; asked = false }, refl, refl);
}

-- Behind a part of a text that was sent: the last one, so that the text is whole, or another.
pub sent_owed : (tag : Tag) (command : Command) (before : List (List ℕ)) (part : List ℕ) (behind : List (List ℕ)) (k l : Clock) →
    Awaits tag before k.now.outside
    → Arrives tag command before part behind k l → Owes k.now.outside.talk.told l.now.outside
sent_owed tag command before part behind k l awaits arrives =
    let told = k.now.outside.talk.told in
    let quiet = quiet_on told k arrives.at (awaits_quiet tag before k.now.outside awaits) arrives.first in
    owes_on told (becomes (arrived tag command before part behind) arrives.at) l
    (arrived_owed tag command before part behind told arrives.at.now.outside quiet.same)
    arrives.later

-- Where no more was received than a front of the lines of what was heard, a reply is due.
owed_now : (heard : List Response) (p : Peer) (received : List ℕ) → Received heard received → Owes heard p → IsDue p received
owed_now heard p received front owes none =
    owes.owed (no_more heard owes.more received front.rest front.lines
    (subst (λ (t : List Response). AreLines t received) owes.told none.all)) none.quiet none.answered

pub owed_due : (heard : List Response) (p : Peer) (c : Connection) (d : Option Connection) → ∥ Received heard c.received ∥₁ →
    Owes heard p → d ≡ Some c → IsReplyDue p d
owed_due heard p c d received owes there =
    subst (IsReplyDue p) (sym there) (λ none. ∥∥₁_elim received (λ x y. absurd x) (λ front. owed_now heard p c.received front owes none))

-- Behind a part that was sent, in the words of the clauses of `Link`: what was received before is a front of what was told before
-- (`honest`), the part arrived (`told` of `send`), and nothing more was received (`received` of `send`).
pub sent_due : (tag : Tag) (command : Command) (before : List (List ℕ)) (part : List ℕ) (behind : List (List ℕ)) (k l : Clock)
    (c : Connection) (d : Option Connection)
    → Awaits tag before k.now.outside → ∥ Received k.now.outside.talk.told c.received ∥₁ → Arrives tag command before part behind k l → d ≡ Some c
    → IsReplyDue l.now.outside d
sent_due tag command before part behind k l c d awaits received arrives there =
    owed_due k.now.outside.talk.told l.now.outside c d received (sent_owed tag command before part behind k l awaits arrives) there
