-- A command of a book that is asked is sent once, while it may be; and each step meanwhile is one of the machine.
use Rattle.std.proofs.Common.{◌≡◌, ◌⊎◌, inl, inr, ℕ, ◌≤◌, ◌<◌, true, List, [], ◌∷◌, ◌++◌, length, Option, Some, None, refl, sym, ◌∙◌, ap, subst, arith}
use Rattle.std.proofs.Common.{length-append}
use Rattle.std.proofs.lemmas.Option.{none-some}
use Rattle.mail_base.specs.declared.tag.Tag.{Tag}
use Rattle.imap_model.specs.CarriedOut.{told_in}
use Rattle.imap_model.specs.Carrying.{Waiting}
use Rattle.imap_model.specs.Changes.{Batch}
use Rattle.imap_model.specs.Talking.{Peer, Answering, Awaits, arrived}
use Rattle.imap_model.specs.Talking.Answering.{stays, others, goes_on, refuses, carries}
use Rattle.imap_model.specs.declared.command.Command.{Command}
use Rattle.imap_model.specs.declared.replies.Replies.{Replies}
use Rattle.imap_model.specs.declared.response.Response.{Response}
use Rattle.imap_model.specs.declared.response.Response.TheVariants as responses
use Rattle.imap_model.specs.declared.server.Server.{Server}
use Rattle.world_traits.specs.Asking.{Asking}
use Rattle.world_traits.specs.Asking.Asking.{answers, arrives}
use Rattle.store_core.specs.Keeping.{Keeping}
use Rattle.store_core.specs.Steps.{Firm}
use Rattle.play_driver.specs.States.{state_of}
use Rattle.play_driver.specs.Machine.{Machine, Step}
use Rattle.play_driver.specs.Machine.Step.{rests, sends, asks}
use Rattle.play_driver.specs.SentOnce.{MayAsk, Before, Waits, Behind, AsksOnce}
use Rattle.play_driver.specs.Joining.{SparesAt}
use Rattle.play_driver.proofs.Questions.{awaits_quiet, answering_steps}

-- an answer makes the list of what was told longer
longer : (told : List Response) (tag : Tag) (r : Replies) → length told < length (told ++ told_in tag r)
longer told tag r = omega (arith, length-append told (told_in tag r), length-append r.untagged (responses.Done tag r.ending r.code ∷ []))

longer_by : (told : List Response) (x : Response) → length told ≤ length (told ++ x ∷ [])
longer_by told x = omega (arith, length-append told (x ∷ []))

same_length : (xs ys : List Response) → xs ≡ ys → length xs ≡ length ys
same_length xs ys e = ap length e

module _ (K : Keeping) (M : Machine K)
    (may_stays : (b : K.Book) (p : Peer) (t : Server) (w : Waiting) → (p.talk.selected ≡ w.selected) ⊎ (p.waiting ≡ Some w) →
    Batch p.server.boxes p.server t → M.Spares (Some b) p t → M.MaySend b p.server w → M.MaySend b t w) where
  asks_still : (b : K.Book) (w : Waiting) (p : Peer) (t : Server) → (p.talk.selected ≡ w.selected) ⊎ (p.waiting ≡ Some w) →
      Batch p.server.boxes p.server t → M.Spares (Some b) p t → MayAsk K M b p.server w → MayAsk K M b t w
  asks_still b w p t tie batch spares (inl question) = inl question
  asks_still b w p t tie batch spares (inr may) = inr (may_stays b p t w tie batch spares may)

  module _ (b : K.Book) (told : List Response) (w : Waiting) where
    abbrev Spared : Peer → Peer → Type 0
    Spared p q = SparesAt K M (Firm (Some b)) p q

    abbrev Known : Peer → Type 0
    Known p = Before K M b told w p ⊎ Waits K M b told w p ⊎ Behind told p

    -- what may happen whatever is asked
    answering : (p q : Peer) → Answering p q → Spared p q → Known p → Known q
    answering p q stays f k = k
    answering p q (others t batch) f (inl h) =
        inl (record { quiet = h.quiet; selects = h.selects; may = asks_still b w p t (inl h.selects) batch (f batch) h.may; from = h.from })
    answering p q (others t batch) f (inr (inl h)) =
        inr (inl (record { waits = h.waits; no_text = h.no_text; may = asks_still b w p t (inr h.waits) batch (f batch) h.may; from = h.from }))
    answering p q (others t batch) f (inr (inr h)) = inr (inr (record { quiet = h.quiet; no_text = h.no_text; more = h.more }))
    answering p q (goes_on a is unasked) f (inl h) =
        inl (record { quiet = h.quiet; selects = h.selects; may = h.may; from = omega (arith, h.from, longer_by p.talk.told responses.Go) })
    answering p q (goes_on a is unasked) f (inr (inl h)) = absurd (none-some a (sym h.no_text ∙ is))
    answering p q (goes_on a is unasked) f (inr (inr h)) = absurd (none-some a (sym h.no_text ∙ is))
    answering p q (refuses a r is unasked refusal) f (inl h) =
        inr (inr (record { quiet = h.quiet; no_text = refl; more = omega (arith, h.from, longer p.talk.told a.tag r) }))
    answering p q (refuses a r is unasked refusal) f (inr (inl h)) = absurd (none-some a (sym h.no_text ∙ is))
    answering p q (refuses a r is unasked refusal) f (inr (inr h)) = absurd (none-some a (sym h.no_text ∙ is))
    answering p q (carries v r t after is out) f (inl h) = absurd (none-some v (sym h.quiet ∙ is))
    answering p q (carries v r t after is out) f (inr (inl h)) =
        inr (inr (record { quiet = refl; no_text = h.no_text; more = omega (arith, h.from, longer p.talk.told v.tag r) }))
    answering p q (carries v r t after is out) f (inr (inr h)) = absurd (none-some v (sym h.quiet ∙ is))

    -- nothing arrives while it waits, and nothing begins behind its answer
    closed : (before : List (List ℕ)) (p : Peer) → Awaits w.tag before p → (before ≡ [] → p.talk.told ≡ told) → p.talk.arriving ≡ None →
        length told < length p.talk.told → ⊥
    closed [] p a front empty more = omega (arith, more, same_length p.talk.told told (front refl))
    closed (x ∷ xs) p a front empty more = none-some (record { tag = w.tag; parts = x ∷ xs; asked = true }) (sym empty ∙ a.1)

    one_waiting : (p : Peer) → p.talk.selected ≡ w.selected → record { selected = p.talk.selected; tag = w.tag; command = w.command } ≡ w
    one_waiting p selects = ap (λ (s : Option (List ℕ)). record w { selected = s }) selects

    abbrev Goes : Peer → Peer → Type 0
    Goes p q = Step K M (state_of K (Firm (Some b)) p) (state_of K (Firm (Some b)) q)

    -- the last part
    sent : (p : Peer) → Before K M b told w p → Goes p (arrived w.tag w.command [] [] [] p)
    sent p h = by h.may
      where
        v : Waiting
        v = record { selected = p.talk.selected; tag = w.tag; command = w.command }

        by : MayAsk K M b p.server w → Goes p (arrived w.tag w.command [] [] [] p)
        by (inl question) = asks v h.quiet question
        by (inr may) = sends b v refl h.quiet (subst (M.MaySend b p.server) (sym (one_waiting p h.selects)) may)

    arriving : (before : List (List ℕ)) (part : List ℕ) (behind : List (List ℕ)) (p : Peer) → Awaits w.tag before p → (before ≡ [] → p.talk.told ≡ told) →
        Known p → Known (arrived w.tag w.command before part behind p) × Goes p (arrived w.tag w.command before part behind p)
    arriving before part behind p a front (inr (inl h)) = absurd (none-some w (sym (awaits_quiet w.tag before p a) ∙ h.waits))
    arriving before part behind p a front (inr (inr h)) = absurd (closed before p a front h.no_text h.more)
    arriving before part [] p a front (inl h) =
        (inr (inl (record { waits = ap Some (one_waiting p h.selects); no_text = refl; may = h.may; from = h.from })), sent p h)
    arriving before part (next ∷ behind) p a front (inl h) =
        (inl (record { quiet = h.quiet; selects = h.selects; may = h.may; from = h.from }), rests)

    step : (p q : Peer) → Asking told w.tag w.command p q → Spared p q → Known p → Known q × Goes p q
    step p q (answers s) f k = (answering p q s f k, answering_steps K M (Firm (Some b)) p q s f)
    step p q (arrives before part behind is a front) f k = arriving before part behind p a front k

  -- the invariant of the link's half, for a command that is asked
  pub asks_once : (b : K.Book) (told : List Response) (tag : Tag) (command : Command) (p q : Peer) → Asking told tag command p q →
      SparesAt K M (Firm (Some b)) p q → AsksOnce K M b told tag command p →
      AsksOnce K M b told tag command q × Step K M (state_of K (Firm (Some b)) p) (state_of K (Firm (Some b)) q)
  asks_once b told tag command p q asked f k =
      let as_tagged = subst (λ (t : Tag). Asking told t command p q) (sym k.tagged) asked in
      let there = step b told k.waiting p q (subst (λ (c : Command). Asking told k.waiting.tag c p q) (sym k.asked) as_tagged) f k.state in
      (record { waiting = k.waiting; tagged = k.tagged; asked = k.asked; state = there.0 }, there.1)

-- over an idle connection, a command may be asked that may be sent
pub idle_asks : (K : Keeping) (M : Machine K) (b : K.Book) (selected : Option (List ℕ)) (tag : Tag) (command : Command) (p : Peer) → p.waiting ≡ None →
    p.talk.selected ≡ selected → MayAsk K M b p.server (record { selected = selected; tag = tag; command = command }) →
    AsksOnce K M b p.talk.told tag command p
idle_asks K M b selected tag command p quiet selects may = record {
  waiting = record { selected = selected; tag = tag; command = command };
  tagged = refl;
  asked = refl;
  state = inl (record { quiet = quiet; selects = selects; may = may; from = omega arith });
}
