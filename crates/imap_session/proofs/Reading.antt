-- A reply is due while the server owes more than was heard.
use Rattle.std.proofs.Common.{◌≡◌, inl, inr, ℕ, Bool, true, false, List, [], ◌∷◌, ◌++◌, length, drop}
use Rattle.std.proofs.Common.{Option, Some, None, refl, sym, ◌∙◌, ap, subst}
use Rattle.std.proofs.Math.Logic.{∥∥₁_elim, ∥∥₁_map}
use Rattle.std.proofs.lemmas.Option.{none-some}
use Rattle.std.proofs.lemmas.List.{append-nil, append_cancel_left}
use Rattle.std.specs.Coded.{Coded-set, coded_ℕ, coded_list}
use Rattle.mail_base.specs.Frames.{NoWhole}
use Rattle.mail_base.proofs.MoreBytes.{frames_stay}
use Rattle.literal_feed.specs.Stream.{Stream, NoFault}
use Rattle.imap_model.proofs.SameResponses.{goes_on_behind}
use Rattle.imap_response.proofs.Heard.{front, no_lines}
use Rattle.imap_model.specs.CarriedOut.{told_in}
use Rattle.imap_model.specs.Carrying.{Waiting}
use Rattle.imap_model.specs.Lines.{AreLines, Received}
use Rattle.imap_model.specs.Talking.{Peer, Arriving, Answering, IsDue}
use Rattle.imap_model.specs.declared.replies.Replies.{Replies}
use Rattle.imap_model.specs.declared.response.Response.{Response}
use Rattle.imap_model.specs.declared.response.Response.TheVariants as responses
use Rattle.world_traits.specs.Connected.{IsReplyDue}
use Rattle.world_traits.specs.LinkState.{Connection}
use Rattle.world_traits.specs.Links.{Linked}
use Rattle.world_traits.specs.Moments.{Clock}
use Rattle.world_traits.specs.Owing.{Owes}
use Rattle.world_traits.proofs.Due.{owes_on}
use Rattle.imap_session.specs.Hearing.{Hears}
use Rattle.imap_session.specs.Knowing.{Whole, Partly, Finished, Pending, IsEnd, NoEnd, Tells}
use Rattle.imap_session.specs.Session.{Listening, Asked}
use Rattle.imap_session.proofs.Talking.{reached, whole_step, finished_step, part_step, after_part_step, AfterPart, Replied, linked_then}

-- what an honest link says of a connection
abbrev pub Honest : Peer → Option Connection → Type 0
Honest p d = (k : Connection) → d ≡ Some k → ∥ Received p.talk.told k.received ∥₁

pub nil_back : (xs ys : List ℕ) → xs ++ ys ≡ [] → xs ≡ []
nil_back [] ys e = refl
nil_back (x ∷ xs) ys e = absurd (let h : x ∷ (xs ++ ys) ≡ [] = e in cc)

more_nil : (heard told more : List Response) → told ≡ heard ++ more → told ≡ heard → more ≡ []
more_nil heard told more is same = append_cancel_left heard more [] (sym is ∙ same ∙ sym (append-nil heard))

-- what was heard is a front of what was told
module _ (heard told : List Response) (c : Option Connection) (feed : Stream) (h : Hears heard c feed)
    (honest : (k : Connection) → c ≡ Some k → ∥ Received told k.received ∥₁) where
  got : (r : Received told h.connection.received) → (more : List Response) × (told ≡ heard ++ more) × AreLines more (feed.bytes ++ r.rest)
  got r = front 0 (h.connection.received ++ r.rest) h.taken (feed.bytes ++ r.rest) heard told
      (frames_stay 0 h.connection.received r.rest h.taken feed.bytes h.stands.frames) h.spell r.lines

  abbrev pub behind_heard : List Response
  behind_heard = drop (length heard) told

  pub heard_front : told ≡ heard ++ behind_heard
  heard_front = goes_on_behind heard told (∥∥₁_map (honest h.connection h.there) (λ r. let g = got r in (g.0, g.1)))

  -- where all that was told was heard, nothing is left over
  pub left_empty : told ≡ heard → feed.bytes ≡ []
  left_empty same =
      ∥∥₁_elim (honest h.connection h.there) (Coded-set (coded_list coded_ℕ) feed.bytes [])
      (λ r. let g = got r in nil_back feed.bytes r.rest
      (subst (λ (m : List Response). AreLines m (feed.bytes ++ r.rest)) (more_nil heard told g.0 g.1 same) g.2))

pub due : (p : Peer) (c : Option Connection) (feed : Stream) → Listening p c feed → NoWhole feed.bytes → NoFault feed → IsReplyDue p c
due p c feed l none sound = subst (λ (x : Option Connection). IsReplyDue p x) (sym l.hears.there) at_rest
  where
    at_rest : IsDue p l.hears.connection.received
    at_rest owes =
        let f = front 0 l.hears.connection.received l.hears.taken feed.bytes l.heard p.talk.told l.hears.stands.frames l.hears.spell owes.all in
        let same : l.owes.more ≡ f.0 = append_cancel_left l.heard l.owes.more f.0 (sym l.owes.told ∙ f.1) in
        l.owes.owed (same ∙ no_lines feed.at feed.bytes f.0 none sound f.2) owes.quiet owes.answered

-- what is owed is owed after a piece was received
pub listens_on : (k l : Clock) (c d : Option Connection) (feed after : Stream) → Listening k.now.outside c feed → Linked Answering k l
    → ((heard : List Response) → Hears heard c feed → Hears heard d after) → Listening l.now.outside d after
listens_on k l c d feed after h s on = record { heard = h.heard; owes = owes_on h.heard k l h.owes s; hears = on h.heard h.hears }

pub listens_same : (p : Peer) (c : Option Connection) (feed after : Stream) → Listening p c feed → after ≡ feed → Listening p c after
listens_same p c feed after h same = subst (λ (f : Stream). Listening p c f) (sym same) h

-- what ends a reply isn't among what doesn't
ended : (part : Bool) (rows : List Response) (r : Response) → IsEnd part r → NoEnd part (rows ++ r ∷ []) → ⊥
ended part [] r end none = none.0 end
ended part (q ∷ rows) r end none = ended part rows r end none.1

pub no_end_more : (part : Bool) (rows : List Response) (r : Response) → NoEnd part rows → (IsEnd part r → ⊥) → NoEnd part (rows ++ r ∷ [])
no_end_more part [] r h none = (none, tt)
no_end_more part (q ∷ rows) r h none = (h.0, no_end_more part rows r h.1 none)

ended_as : (part : Bool) (rows replies : List Response) (r : Response) → replies ≡ rows ++ r ∷ [] → IsEnd part r → NoEnd part replies → ⊥
ended_as part rows replies r is end none = ended part rows r end (subst (NoEnd part) is none)

pub all_of : (xs ys : List Response) → ys ≡ [] → xs ++ ys ≡ xs
all_of xs ys nil = ap (λ (z : List Response). xs ++ z) nil ∙ append-nil xs

-- what was told since, where all of it was heard
heard_all : (told replies read more now : List Response) → now ≡ told ++ replies → now ≡ (told ++ read) ++ more → more ≡ [] → read ≡ replies
heard_all told replies read more now is as_heard nil = append_cancel_left told read replies (sym (all_of (told ++ read) more nil) ∙ sym as_heard ∙ is)

module _ (told read : List Response) (at k : Clock) (since : Linked Answering at k) (more : List Response)
    (as_heard : k.now.outside.talk.told ≡ (told ++ read) ++ more) where
  owes_whole : (w : Waiting) → Whole w told at.now.outside → NoEnd false read → Owes (told ++ read) k.now.outside
  owes_whole w whole none =
      elim (reached (Replies × Option (List ℕ)) (Whole w told) (λ d o. Finished (told ++ told_in w.tag d.0) d.1 o) (λ d o p. Tells w told d.0 d.1 o p)
      (whole_step w told) (λ d. finished_step (told ++ told_in w.tag d.0) d.1) at whole k since) [
        | inl still ↦ record { more = more; told = as_heard; owed = λ nil waits u. none-some w (sym waits ∙ still.waits) }
        | inr done ↦
            record {
              more = more;
              told = as_heard;
              owed = λ nil waits u. ended_as false done.0.0.untagged read
                  (responses.Done w.tag done.0.0.ending done.0.0.code)
                  (heard_all told (told_in w.tag done.0.0) read more k.now.outside.talk.told done.1.all as_heard nil) tt none;
            }
      ]

  owes_part : (a : Arriving) (selected : Option (List ℕ)) → Partly a selected told at.now.outside → NoEnd true read
      → Owes (told ++ read) k.now.outside
  owes_part a selected partly none =
      elim (reached (Option Replies) (Partly a selected told) (AfterPart a selected told) (Replied a selected told) (part_step a selected told)
      (after_part_step a selected told) at partly k since) [
        | inl still ↦ record { more = more; told = as_heard; owed = λ nil waits u. u (a, still.part, still.unasked) }
        | inr done ↦ record { more = more; told = as_heard; owed = λ nil waits u. after_owes done.0 done.1 nil }
      ]
    where
      after_owes : (d : Option Replies) → AfterPart a selected told d k.now.outside → more ≡ [] → ⊥
      after_owes None went nil = ended_as true [] read responses.Go
          (heard_all told (responses.Go ∷ []) read more k.now.outside.talk.told went.all as_heard nil) tt none
      after_owes (Some r) done nil = ended_as true r.untagged read (responses.Done a.tag r.ending r.code)
          (heard_all told (told_in a.tag r) read more k.now.outside.talk.told done.all as_heard nil) tt none

owes_now : (part : Bool) (told read : List Response) (at k : Clock) → Pending part told at.now.outside → Linked Answering at k → NoEnd part read
    → (more : List Response) → k.now.outside.talk.told ≡ (told ++ read) ++ more → Owes (told ++ read) k.now.outside
owes_now true told read at k p since none more is = owes_part told read at k since more is p.0 p.1 p.2 none
owes_now false told read at k p since none more is = owes_whole told read at k since more is p.0 p.1 none

pub asked_listens : (part : Bool) (k l : Clock) (c d : Option Connection) (feed after : Stream) (read : List Response) → (asked : Asked part k c feed)
    → Linked Answering k l → Hears (asked.told ++ read) d after → NoEnd part read → Honest l.now.outside d → Listening l.now.outside d after
asked_listens part k l c d feed after read asked since h none honest =
    record {
      heard = asked.told ++ read;
      owes = owes_now part asked.told read asked.at l asked.pending (linked_then Answering asked.at k l asked.since since) none
          (behind_heard (asked.told ++ read) l.now.outside.talk.told d after h honest)
          (heard_front (asked.told ++ read) l.now.outside.talk.told d after h honest);
      hears = h;
    }
