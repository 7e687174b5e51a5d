-- A client that asks on grounds alone: what waits at the server has what it needs, or is no question.
use Rattle.std.proofs.Common.{◌≡◌, ◌⊎◌, inl, inr, ℕ, true, List, [], ◌∷◌, ◌++◌, Option, Some, None, refl, sym, ◌∙◌, ap, subst}
use Rattle.std.proofs.lemmas.Option.{none-some, same_Some}
use Rattle.std.specs.Prelude.{is_some}
use Rattle.mail_base.specs.declared.tag.Tag.{Tag}
use Rattle.imap_model.specs.CarriedOut.{CarriesOut, told_in}
use Rattle.imap_model.specs.Carrying.{Waiting}
use Rattle.imap_model.specs.Talking.{Answering, Connecting, Peer, Talk, arrived}
use Rattle.imap_model.specs.Talking.Answering.{carries, goes_on, others, refuses, stays}
use Rattle.imap_model.specs.Talking.Connecting.{as_before, begins, ends}
use Rattle.imap_model.specs.Untagged.{AreBefore, IsBefore}
use Rattle.imap_model.specs.declared.code.Code.{Code}
use Rattle.imap_model.specs.declared.command.Command.{Command}
use Rattle.imap_model.specs.declared.command.Command.TheVariants as commands
use Rattle.imap_model.specs.declared.ending.Ending.{Ending}
use Rattle.imap_model.specs.declared.replies.Replies.{Replies}
use Rattle.imap_model.specs.declared.response.Response.{Response}
use Rattle.imap_model.specs.declared.response.Response.TheVariants as responses
use Rattle.imap_model.specs.declared.server.Server.{Server}
use Rattle.imap_model.proofs.Untagged.{untagged_before}
use Rattle.imap_session.specs.Faults.{IsCount}
use Rattle.world_traits.specs.Connected.{IsGreeted}
use Rattle.world_traits.specs.Links.{Any}
use Rattle.world_traits.specs.Moments.{Clock, Since}
use Rattle.world_traits.proofs.Traces.{carried_now}
use Rattle.play_driver.specs.Granting.{HasWhatItNeeds, IsBox, IsGrantable, SelectsBox}
use Rattle.play_driver.specs.Grounds.{AreBoxes, Grounded, GroundStep, HasGround}
use Rattle.play_driver.specs.Grounds.Grounded.{asking, connecting}
use Rattle.play_driver.specs.Refusals.{DeniesQuestion, NeverTold}
use Rattle.play_driver.proofs.Boxes.{KeepsBoxes, batch_keeps, carried_keeps, selected_there}

-- it has what it needs, or is no question
abbrev pub IsFree : Waiting → Server → Type 0
IsFree w s = IsGrantable w s ⊎ (IsCount w.tag → ⊥)

-- The mailboxes of these names are there; so is the selected one, and the one under which a command waits; and that has what it needs.
pub record IsOnGround (names : List (List ℕ)) (p : Peer) : Type 0 where
  pub boxes : AreBoxes names p.server
  pub selects : (name : List ℕ) → p.talk.selected ≡ Some name → IsBox name p.server
  pub under : (w : Waiting) → p.waiting ≡ Some w → (name : List ℕ) → w.selected ≡ Some name → IsBox name p.server
  pub waits : (w : Waiting) → p.waiting ≡ Some w → IsFree w p.server

-- what is needed stays
selects_stay : (selected : Option (List ℕ)) (s t : Server) → KeepsBoxes s.boxes t.boxes → SelectsBox selected s → SelectsBox selected t
selects_stay None s t keeps there = there
selects_stay (Some name) s t keeps there = keeps name there

needed_stays : (command : Command) (selected : Option (List ℕ)) (s t : Server) → KeepsBoxes s.boxes t.boxes → HasWhatItNeeds command selected s →
    HasWhatItNeeds command selected t
needed_stays commands.Capability selected s t keeps h = h
needed_stays (commands.Login account) selected s t keeps h = h
needed_stays (commands.Plain account) selected s t keeps h = h
needed_stays (commands.Enable rev2) selected s t keeps h = h
needed_stays (commands.Select name since) selected s t keeps h = keeps name h
needed_stays commands.FetchAll selected s t keeps h = selects_stay selected s t keeps h
needed_stays (commands.FetchRow uid) selected s t keeps h = selects_stay selected s t keeps h
needed_stays (commands.Search from id) selected s t keeps h = selects_stay selected s t keeps h
needed_stays (commands.FetchIds uids) selected s t keeps h = selects_stay selected s t keeps h
needed_stays (commands.FetchText uid) selected s t keeps h = selects_stay selected s t keeps h
needed_stays (commands.Store uid since add flags) selected s t keeps h = h
needed_stays (commands.Shift uid to) selected s t keeps h = h
needed_stays (commands.Copy uid to) selected s t keeps h = h
needed_stays (commands.Expunge uid) selected s t keeps h = h
needed_stays (commands.Append to flags text) selected s t keeps h = h
needed_stays commands.Logout selected s t keeps h = h

free_stays : (w : Waiting) (s t : Server) → KeepsBoxes s.boxes t.boxes → IsFree w s → IsFree w t
free_stays w s t keeps (inl g) = inl (needed_stays w.command w.selected s t keeps g)
free_stays w s t keeps (inr other) = inr other

-- what is asked on its ground has what it needs
selected_some : (selected : Option (List ℕ)) (s : Server) → is_some selected ≡ true → ((name : List ℕ) → selected ≡ Some name → IsBox name s) →
    SelectsBox selected s
selected_some None s some there = absurd cc
selected_some (Some name) s some there = there name refl

module _ (names : List (List ℕ)) (selected : Option (List ℕ)) (tag : Tag) (s : Server) (boxes : AreBoxes names s)
    (there : (name : List ℕ) → selected ≡ Some name → IsBox name s) where
  free_asked : (command : Command) → HasGround names selected tag command → IsFree (record { selected = selected; tag = tag; command = command }) s
  free_asked commands.Capability g = inl g
  free_asked (commands.Login account) g = inl g
  free_asked (commands.Plain account) g = inl g
  free_asked (commands.Enable rev2) g = inl g
  free_asked (commands.Select name since) g = inl (boxes name g)
  free_asked commands.FetchAll g = inl (selected_some selected s g there)
  free_asked (commands.FetchRow uid) g = inl (selected_some selected s g there)
  free_asked (commands.Search from id) g = inl (selected_some selected s g there)
  free_asked (commands.FetchIds uids) g = inl (selected_some selected s g there)
  free_asked (commands.FetchText uid) g = inl (selected_some selected s g there)
  free_asked (commands.Store uid since add flags) g = inr g
  free_asked (commands.Shift uid to) g = inr g
  free_asked (commands.Copy uid to) g = inr g
  free_asked (commands.Expunge uid) g = inr g
  free_asked (commands.Append to flags text) g = inr g
  free_asked commands.Logout g = inl g

-- so it goes on
module _ (names : List (List ℕ)) where
  pub ground_answer : (p q : Peer) → Answering p q → IsOnGround names p → IsOnGround names q
  ground_answer p q stays g = g
  ground_answer p q (others t batch) g =
      let keeps = batch_keeps p.server.boxes p.server t batch in
      record {
        boxes = λ name has. keeps name (g.boxes name has);
        selects = λ name is. keeps name (g.selects name is);
        under = λ w is name so. keeps name (g.under w is name so);
        waits = λ w is. free_stays w p.server t keeps (g.waits w is);
      }
  ground_answer p q (goes_on a is unasked) g = record { boxes = g.boxes; selects = g.selects; under = g.under; waits = g.waits }
  ground_answer p q (refuses a r is unasked refusal) g = record { boxes = g.boxes; selects = g.selects; under = g.under; waits = g.waits }
  ground_answer p q (carries w r t after is out) g =
      let keeps = carried_keeps w p.server r t after out in
      record {
        boxes = λ name has. keeps name (g.boxes name has);
        selects = λ name so. selected_there w p.server r t after name so (λ was. keeps name (g.under w is name was)) out;
        under = λ x none. absurd (none-some x none);
        waits = λ x none. absurd (none-some x none);
      }

  ground_arrives : (tag : Tag) (command : Command) (before : List (List ℕ)) (part : List ℕ) (behind : List (List ℕ)) (p : Peer) →
      HasGround names p.talk.selected tag command → IsOnGround names p → IsOnGround names (arrived tag command before part behind p)
  ground_arrives tag command before part [] p ground g =
      let asked : Waiting = record { selected = p.talk.selected; tag = tag; command = command } in
      record {
        boxes = g.boxes;
        selects = g.selects;
        under = λ w is name so. g.selects name (ap (λ (x : Waiting). x.selected) (same_Some asked w is) ∙ so);
        waits = λ w is. subst (λ (x : Waiting). IsFree x p.server) (same_Some asked w is)
            (free_asked names p.talk.selected tag p.server g.boxes g.selects command ground);
      }
  ground_arrives tag command before part (next ∷ behind) p ground g =
      record { boxes = g.boxes; selects = g.selects; under = g.under; waits = g.waits }

  ground_connecting : (p q : Peer) → Connecting p q → IsOnGround names p → IsOnGround names q
  ground_connecting p q (as_before step) g = ground_answer p q step g
  ground_connecting p q ends g = record { boxes = g.boxes; selects = λ name is. absurd (none-some name is); under = g.under; waits = g.waits }
  ground_connecting p q (begins greeting greets) g = record {
    boxes = g.boxes;
    selects = λ name is. absurd (none-some name is);
    under = λ w is. absurd (none-some w is);
    waits = λ w is. absurd (none-some w is);
  }

  pub ground_on : (p q : Peer) → Grounded names p q → IsOnGround names p → IsOnGround names q
  ground_on p q (connecting step) g = ground_connecting p q step g
  ground_on p q (asking tag command before part behind ground) g = ground_arrives tag command before part behind p ground g

  -- the mailboxes alone
  answer_keeps : (p q : Peer) → Answering p q → KeepsBoxes p.server.boxes q.server.boxes
  answer_keeps p q stays = λ name there. there
  answer_keeps p q (others t batch) = batch_keeps p.server.boxes p.server t batch
  answer_keeps p q (goes_on a is unasked) = λ name there. there
  answer_keeps p q (refuses a r is unasked refusal) = λ name there. there
  answer_keeps p q (carries w r t after is out) = carried_keeps w p.server r t after out

  arrived_keeps : (tag : Tag) (command : Command) (before : List (List ℕ)) (part : List ℕ) (behind : List (List ℕ)) (p : Peer) →
      KeepsBoxes p.server.boxes (arrived tag command before part behind p).server.boxes
  arrived_keeps tag command before part [] p = λ name there. there
  arrived_keeps tag command before part (next ∷ behind) p = λ name there. there

  step_keeps : (p q : Peer) → Grounded names p q → KeepsBoxes p.server.boxes q.server.boxes
  step_keeps p q (connecting (as_before step)) = answer_keeps p q step
  step_keeps p q (connecting ends) = λ name there. there
  step_keeps p q (connecting (begins greeting greets)) = λ name there. there
  step_keeps p q (asking tag command before part behind ground) = arrived_keeps tag command before part behind p

  pub boxes_on : (old new : Clock) → Since Any (GroundStep names) old new → AreBoxes names old.now.outside.server →
      AreBoxes names new.now.outside.server
  boxes_on old new grounds boxes =
      carried_now Any (λ m. AreBoxes names m.outside.server) (GroundStep names)
      (λ m n any step there name has. step_keeps m.outside n.outside step name (there name has)) old boxes new grounds

  -- as a connection has been made
  pub ground_first : (p : Peer) → IsGreeted p → AreBoxes names p.server → IsOnGround names p
  ground_first p fresh boxes = record {
    boxes = boxes;
    selects = λ name is. absurd (none-some name (sym (ap (λ (t : Talk). t.selected) fresh.talk) ∙ is));
    under = λ w is. absurd (none-some w (sym fresh.quiet ∙ is));
    waits = λ w is. absurd (none-some w (sym fresh.quiet ∙ is));
  }

-- what stands in front of a completion denies nothing
before_denies : (r : Response) → IsBefore r → DeniesQuestion r → ⊥
before_denies (responses.Done tag ending code) b d = b
before_denies (responses.Untagged ending code) b d = d
before_denies responses.Bye b d = d
before_denies (responses.Preauth code) b d = d
before_denies responses.Go b d = d
before_denies (responses.Capability words) b d = d
before_denies (responses.Enabled words) b d = d
before_denies (responses.Exists count) b d = d
before_denies (responses.Fetch fetched) b d = d
before_denies (responses.Vanished earlier uids) b d = d
before_denies (responses.Found uids) b d = d
before_denies responses.Other b d = d

never_counted : (tag : Tag) (ending : Ending) (code : Code) → (IsCount tag → ⊥) → (untagged : List Response) → AreBefore untagged →
    NeverTold DeniesQuestion (untagged ++ responses.Done tag ending code ∷ [])
never_counted tag ending code other [] b = (λ d. other d.0, tt)
never_counted tag ending code other (x ∷ xs) b = (λ d. before_denies x b.0 d, never_counted tag ending code other xs b.1)

-- so the reply denies no question, where what is grantable is granted
pub free_denies : (w : Waiting) (s : Server) (r : Replies) (t : Server) (after : Option (List ℕ)) → CarriesOut w s r t after →
    (IsGrantable w s → NeverTold DeniesQuestion (told_in w.tag r)) → IsFree w s → NeverTold DeniesQuestion (told_in w.tag r)
free_denies w s r t after out grants (inl g) = grants g
free_denies w s r t after out grants (inr other) =
    never_counted w.tag r.ending r.code other r.untagged (untagged_before w s r t after out)
