-- What a reply that was read to its end says.
use Rattle.std.proofs.Common.{◌≡◌, ◌≢◌, ◌⊎◌, inl, inr, ℕ, List, [], ◌∷◌, ◌++◌, Option, Some, None, refl, sym}
use Rattle.std.proofs.Common.{◌∙◌, ap, subst, append_assoc}
use Rattle.std.proofs.lemmas.List.{append-nil, append_cancel_left}
use Rattle.mail_base.specs.declared.tag.Tag.{Tag}
use Rattle.literal_feed.specs.Stream.{Stream}
use Rattle.imap_model.specs.CarriedOut.{told_in}
use Rattle.imap_model.specs.Carrying.{Waiting}
use Rattle.imap_model.specs.Talking.{Peer, Arriving, Answering}
use Rattle.imap_model.specs.Untagged.{IsBefore, AreBefore}
use Rattle.imap_model.specs.declared.code.Code.{Code}
use Rattle.imap_model.specs.declared.ending.Ending.{Ending}
use Rattle.imap_model.specs.declared.ending.Ending.TheVariants as endings
use Rattle.imap_model.specs.declared.replies.Replies.{Replies}
use Rattle.imap_model.specs.declared.response.Response.{Response}
use Rattle.imap_model.specs.declared.response.Response.TheVariants as responses
use Rattle.imap_model.proofs.Untagged.{untagged_before, remarks_before}
use Rattle.world_traits.specs.LinkState.{Connection}
use Rattle.world_traits.specs.Links.{LinkStep, Linked, Any}
use Rattle.world_traits.specs.Moments.{Clock, Became}
use Rattle.imap_session.specs.Hearing.{Hears}
use Rattle.imap_session.specs.Knowing.{Whole, Partly, Finished, Went, Tells, Denies}
use Rattle.imap_session.specs.Replying.{read_as}
use Rattle.imap_session.specs.Session.{Stands}
use Rattle.imap_session.proofs.Reading.{Honest, heard_front, behind_heard, left_empty, all_of}
use Rattle.imap_session.proofs.Talking.{reached, whole_step, finished_step, part_step, after_part_step, AfterPart, Replied}

front_some : (xs : List Response) (x : Response) (ys : List Response) → (xs ++ x ∷ []) ++ ys ≡ [] → ⊥
front_some [] x ys f = let g : x ∷ ys ≡ [] = f in cc
front_some (z ∷ xs) x ys f = let g : z ∷ ((xs ++ x ∷ []) ++ ys) ≡ [] = f in cc

-- a completion behind responses that are none is the first one
ends_once : (rows others more : List Response) (d : Response) (tag : Tag) (e : Ending) (k : Code) → AreBefore others
    → others ++ d ∷ [] ≡ (rows ++ responses.Done tag e k ∷ []) ++ more → (others ≡ rows) × (d ≡ responses.Done tag e k) × (more ≡ [])
ends_once [] [] more d tag e k plain is = let h : d ∷ [] ≡ responses.Done tag e k ∷ more = is in (refl, cc, cc)
ends_once (r ∷ rows) [] more d tag e k plain is =
    let h : d ∷ [] ≡ r ∷ ((rows ++ responses.Done tag e k ∷ []) ++ more) = is in
    let nil : (rows ++ responses.Done tag e k ∷ []) ++ more ≡ [] = cc in
    absurd (front_some rows (responses.Done tag e k) more nil)
ends_once [] (q ∷ others) more d tag e k plain is =
    let h : q ∷ (others ++ d ∷ []) ≡ responses.Done tag e k ∷ more = is in
    let same : q ≡ responses.Done tag e k = cc in
    absurd (subst IsBefore same plain.0)
ends_once (r ∷ rows) (q ∷ others) more d tag e k plain is =
    let h : q ∷ (others ++ d ∷ []) ≡ r ∷ ((rows ++ responses.Done tag e k ∷ []) ++ more) = is in
    let head : q ≡ r = cc in
    let tail : others ++ d ∷ [] ≡ (rows ++ responses.Done tag e k ∷ []) ++ more = cc in
    let rest = ends_once rows others more d tag e k plain.1 tail in
    ((λ i. head i ∷ rest.0 i), rest.1, rest.2)

-- one response is read as one
only_one : (rows more : List Response) (d last : Response) → d ∷ [] ≡ (rows ++ last ∷ []) ++ more → (rows ≡ []) × (last ≡ d) × (more ≡ [])
only_one [] more d last is = let h : d ∷ [] ≡ last ∷ more = is in (refl, cc, cc)
only_one (r ∷ rows) more d last is =
    let h : d ∷ [] ≡ r ∷ ((rows ++ last ∷ []) ++ more) = is in
    let nil : (rows ++ last ∷ []) ++ more ≡ [] = cc in
    absurd (front_some rows last more nil)

-- among responses that are none, no request to go on was read
no_go_among : (rows others more : List Response) (d : Response) → AreBefore others → (d ≡ responses.Go → ⊥)
    → others ++ d ∷ [] ≡ (rows ++ responses.Go ∷ []) ++ more → ⊥
no_go_among [] [] more d plain not is = let h : d ∷ [] ≡ responses.Go ∷ more = is in not cc
no_go_among (r ∷ rows) [] more d plain not is =
    let h : d ∷ [] ≡ r ∷ ((rows ++ responses.Go ∷ []) ++ more) = is in
    let nil : (rows ++ responses.Go ∷ []) ++ more ≡ [] = cc in
    front_some rows responses.Go more nil
no_go_among [] (q ∷ others) more d plain not is =
    let h : q ∷ (others ++ d ∷ []) ≡ responses.Go ∷ more = is in
    let same : q ≡ responses.Go = cc in
    absurd (subst IsBefore same plain.0)
no_go_among (r ∷ rows) (q ∷ others) more d plain not is =
    let h : q ∷ (others ++ d ∷ []) ≡ r ∷ ((rows ++ responses.Go ∷ []) ++ more) = is in
    let tail : others ++ d ∷ [] ≡ (rows ++ responses.Go ∷ []) ++ more = cc in
    no_go_among rows others more d plain.1 not tail

told_more : (told replies heard more now : List Response) → now ≡ told ++ replies → now ≡ (told ++ heard) ++ more → replies ≡ heard ++ more
told_more told replies heard more now is as_heard = append_cancel_left told replies (heard ++ more) (sym is ∙ as_heard ∙ append_assoc told heard more)

done_tag : (a b : Tag) (e f : Ending) (k l : Code) → responses.Done a e k ≡ responses.Done b f l → a ≡ b
done_tag a b e f k l is = cc

done_ending : (a b : Tag) (e f : Ending) (k l : Code) → responses.Done a e k ≡ responses.Done b f l → e ≡ f
done_ending a b e f k l is = cc

done_code : (a b : Tag) (e f : Ending) (k l : Code) → responses.Done a e k ≡ responses.Done b f l → k ≡ l
done_code a b e f k l is = cc

same_replies : (r : Replies) (a tag : Tag) (rows : List Response) (e : Ending) (k : Code) → r.untagged ≡ rows
    → responses.Done a r.ending r.code ≡ responses.Done tag e k → r ≡ read_as rows e k
same_replies r a tag rows e k same is =
    let ending = done_ending a tag r.ending e r.code k is in
    let code = done_code a tag r.ending e r.code k is in
    λ i. record { untagged = same i; ending = ending i; code = code i }

-- the answer of a whole command
pub record Settled (w : Waiting) (told rows : List Response) (tag : Tag) (e : Ending) (k : Code) (at now : Clock) : Type 0 where
  pub same_tag : tag ≡ w.tag
  pub plain : AreBefore rows
  pub after : Option (List ℕ)
  pub finished : Finished (told ++ (rows ++ responses.Done tag e k ∷ [])) after now.now.outside
  pub became : Became Any (LinkStep Answering) (λ m n. Tells w told (read_as rows e k) after m.outside n.outside) at now

-- the refusal of a part
pub record Refused (a : Arriving) (selected : Option (List ℕ)) (told rows : List Response) (tag : Tag) (e : Ending) (k : Code)
    (at now : Clock) : Type 0 where
  pub same_tag : tag ≡ a.tag
  pub plain : AreBefore rows
  pub not_ok : e ≢ endings.Ok
  pub finished : Finished (told ++ (rows ++ responses.Done tag e k ∷ [])) selected now.now.outside
  pub became : Became Any (LinkStep Answering) (λ m n. Denies a.tag told selected (read_as rows e k) m.outside n.outside) at now

denied_not_ok : (tag : Tag) (told : List Response) (selected : Option (List ℕ)) (r : Replies) (p q : Peer) → Denies tag told selected r p q
    → r.ending ≢ endings.Ok
denied_not_ok tag told selected r p q d = d.refusal.ending

module _ (told rows : List Response) (last : Response) (at k : Clock) (since : Linked Answering at k) (c : Option Connection) (feed : Stream)
    (h : Hears (told ++ (rows ++ last ∷ [])) c feed) (honest : Honest k.now.outside c) where
  abbrev more : List Response
  more = behind_heard (told ++ (rows ++ last ∷ [])) k.now.outside.talk.told c feed h honest

  as_heard : k.now.outside.talk.told ≡ (told ++ (rows ++ last ∷ [])) ++ more
  as_heard = heard_front (told ++ (rows ++ last ∷ [])) k.now.outside.talk.told c feed h honest

  nothing_told : k.now.outside.talk.told ≡ told → ⊥
  nothing_told same = front_some rows last more
      (sym (told_more told [] (rows ++ last ∷ []) more k.now.outside.talk.told (same ∙ sym (append-nil told)) as_heard))

  all_told : more ≡ [] → k.now.outside.talk.told ≡ told ++ (rows ++ last ∷ [])
  all_told nil = as_heard ∙ all_of (told ++ (rows ++ last ∷ [])) more nil

  pub settled_whole : (w : Waiting) → Whole w told at.now.outside → (tag : Tag) (e : Ending) (code : Code) → last ≡ responses.Done tag e code
      → Settled w told rows tag e code at k
  settled_whole w whole tag e code is =
      elim (reached (Replies × Option (List ℕ)) (Whole w told) (λ d o. Finished (told ++ told_in w.tag d.0) d.1 o) (λ d o p. Tells w told d.0 d.1 o p)
      (whole_step w told) (λ d. finished_step (told ++ told_in w.tag d.0) d.1) at whole k since) [
        | inl still ↦ absurd (nothing_told still.before)
        | inr done ↦
            let r : Replies = done.0.0 in
            let all = told_more told (told_in w.tag r) (rows ++ last ∷ []) more k.now.outside.talk.told done.1.all as_heard in
            let plain = untagged_before w done.2.at.now.outside.server r done.2.to.outside.server done.0.1 done.2.is.is in
            let one = ends_once rows r.untagged more (responses.Done w.tag r.ending r.code) tag e code plain
            (all ∙ ap (λ (x : Response). (rows ++ x ∷ []) ++ more) is) in
            let same = same_replies r w.tag tag rows e code one.0 one.1 in
            record {
              same_tag = sym (done_tag w.tag tag r.ending e r.code code one.1);
              plain = subst AreBefore one.0 plain;
              after = done.0.1;
              finished = record {
                nothing = done.1.nothing;
                no_part = done.1.no_part;
                selects = done.1.selects;
                all = all_told one.2
                    ∙ ap (λ (x : Response). told ++ (rows ++ x ∷ [])) is;
              };
              became = subst (λ (x : Replies). Became Any (LinkStep Answering) (λ m n. Tells w told x done.0.1 m.outside n.outside) at k) same done.2;
            }
      ]

  module _ (a : Arriving) (selected : Option (List ℕ)) (partly : Partly a selected told at.now.outside) where
    told_part : Partly a selected told k.now.outside
        ⊎ ((d : Option Replies) × AfterPart a selected told d k.now.outside × Became Any (LinkStep Answering)
        (λ m n. Replied a selected told d m.outside n.outside) at k)
    told_part = reached (Option Replies) (Partly a selected told) (AfterPart a selected told) (Replied a selected told) (part_step a selected told)
        (after_part_step a selected told) at partly k since

    refused_plain : (r : Replies) → Became Any (LinkStep Answering) (λ m n. Replied a selected told (Some r) m.outside n.outside) at k
        → AreBefore r.untagged
    refused_plain r b = remarks_before _ r.untagged b.is.refusal.says.untagged

    -- asked to go on
    pub settled_go : last ≡ responses.Go → Went a selected told k.now.outside
    settled_go is =
        elim told_part [
          | inl still ↦ absurd (nothing_told still.before)
          | inr done ↦ by_answer done.0 done.1 done.2
        ]
      where
        by_answer : (d : Option Replies) → AfterPart a selected told d k.now.outside
            → Became Any (LinkStep Answering) (λ m n. Replied a selected told d m.outside n.outside) at k → Went a selected told k.now.outside
        by_answer None went b = went
        by_answer (Some r) done b =
            absurd (no_go_among rows r.untagged more (responses.Done a.tag r.ending r.code) (refused_plain r b) (λ e. cc)
            (told_more told (told_in a.tag r) (rows ++ last ∷ []) more k.now.outside.talk.told done.all as_heard
            ∙ ap (λ (x : Response). (rows ++ x ∷ []) ++ more) is))

    pub went_alone : last ≡ responses.Go → Went a selected told k.now.outside → (rows ≡ []) × (k.now.outside.talk.told ≡ told ++ (rows ++ last ∷ []))
    went_alone is went =
        let one = only_one rows more responses.Go last
        (told_more told (responses.Go ∷ []) (rows ++ last ∷ []) more k.now.outside.talk.told went.all as_heard) in
        (one.0, all_told one.2)

    -- refused
    pub settled_refused : (tag : Tag) (e : Ending) (code : Code) → last ≡ responses.Done tag e code → Refused a selected told rows tag e code at k
    settled_refused tag e code is =
        elim told_part [
          | inl still ↦ absurd (nothing_told still.before)
          | inr done ↦ by_answer done.0 done.1 done.2
        ]
      where
        by_answer : (d : Option Replies) → AfterPart a selected told d k.now.outside
            → Became Any (LinkStep Answering) (λ m n. Replied a selected told d m.outside n.outside) at k
            → Refused a selected told rows tag e code at k
        by_answer None went b =
            let one = only_one rows more responses.Go last
            (told_more told (responses.Go ∷ []) (rows ++ last ∷ []) more k.now.outside.talk.told went.all as_heard) in
            let no : responses.Done tag e code ≡ responses.Go = sym is ∙ one.1 in
            absurd (cc)
        by_answer (Some r) done b =
            let all = told_more told (told_in a.tag r) (rows ++ last ∷ []) more k.now.outside.talk.told done.all as_heard in
            let one = ends_once rows r.untagged more (responses.Done a.tag r.ending r.code) tag e code (refused_plain r b)
            (all ∙ ap (λ (x : Response). (rows ++ x ∷ []) ++ more) is) in
            let same = same_replies r a.tag tag rows e code one.0 one.1 in
            let b2 = subst (λ (x : Replies). Became Any (LinkStep Answering) (λ m n. Denies a.tag told selected x m.outside n.outside) at k) same b in
            record {
              same_tag = sym (done_tag a.tag tag r.ending e r.code code one.1);
              plain = subst AreBefore one.0 (refused_plain r b);
              not_ok = b2.is.refusal.ending;
              finished = record {
                nothing = done.nothing;
                no_part = done.no_part;
                selects = done.selects;
                all = all_told one.2
                    ∙ ap (λ (x : Response). told ++ (rows ++ x ∷ [])) is;
              };
              became = b2;
            }

-- what was heard to the end stands at rest
pub stands_at_rest : (heard : List Response) (selected : Option (List ℕ)) (k : Clock) (c : Option Connection) (feed : Stream)
    → Finished heard selected k.now.outside → Hears heard c feed → Honest k.now.outside c → Stands selected k c feed
stands_at_rest heard selected k c feed f h honest = record {
  nothing = f.nothing;
  no_part = f.no_part;
  selects = f.selects;
  hears = subst (λ (x : List Response). Hears x c feed) (sym f.all) h;
  empty = left_empty heard k.now.outside.talk.told c feed h honest f.all;
}
