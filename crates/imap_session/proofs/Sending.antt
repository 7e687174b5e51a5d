-- What a command's parts lead to.
use Rattle.std.proofs.Common.{zero, suc, ◌+◌, ◌-◌, ◌<◌, ◌≤◌, length, drop, take, arith, ◌≡◌, ◌≢◌, ◌⊎◌, inl, inr, ℕ, true}
use Rattle.std.proofs.Common.{false, List, [], ◌∷◌, ◌++◌, Option, Some, None, MatchOption, Result, Ok, Err, OnOk, refl, sym}
use Rattle.std.proofs.Common.{◌∙◌, ap, subst, append_assoc}
use Rattle.std.proofs.lemmas.List.{append-nil}
use Rattle.mail_base.specs.declared.tag.Tag.{Tag}
use Rattle.literal_feed.specs.Stream.{Stream}
use Rattle.imap_model.specs.CarriedOut.{SaysRemarks}
use Rattle.imap_model.specs.Carrying.{Waiting}
use Rattle.imap_model.specs.Remarks.{selected_box}
use Rattle.imap_model.specs.Talking.{Peer, Talk, Arriving, Answering, Awaits, IsPartOf, arrived}
use Rattle.imap_model.specs.Untagged.{AreBefore}
use Rattle.imap_model.specs.declared.code.Code.{Code}
use Rattle.imap_model.specs.declared.ending.Ending.{Ending}
use Rattle.imap_model.specs.declared.ending.Ending.TheVariants as endings
use Rattle.imap_model.specs.declared.replies.Replies.{Replies}
use Rattle.imap_model.specs.declared.response.Response.{Response}
use Rattle.imap_model.specs.declared.response.Response.TheVariants as responses
use Rattle.world_traits.specs.Asking.{Asking}
use Rattle.world_traits.specs.LinkState.{Connection}
use Rattle.world_traits.specs.Links.{LinkStep, Linked, Any, becomes}
use Rattle.world_traits.specs.Moments.{Moment, Clock, Became}
use Rattle.world_traits.specs.Sends.{Arrives}
use Rattle.mail_base.specs.declared.frame.Frame.{Frame}
use Rattle.std.specs.Prelude.{codes}
use Rattle.imap_model.specs.CommandText.{parts_of}
use Rattle.imap_model.specs.Held.{IsSent}
use Rattle.imap_model.specs.TagText.{tag_parts}
use Rattle.imap_model.specs.declared.command.Command.{Command}
use Rattle.imap_model.specs.declared.command.Command.TheVariants as commands
use Rattle.imap_model.proofs.Joining.{some_first, some_behind}
use Rattle.imap_session.specs.Faults.{HasParts, Unfit, IsWrong}
use Rattle.imap_session.specs.declared.fault.SessionFault.{SessionFault}
use Rattle.imap_session.specs.declared.fault.SessionFault.TheVariants as faults
use Rattle.imap_session.specs.Hearing.{Hears}
use Rattle.imap_session.specs.Knowing.{Went, Tells, Denies, AllGo, IsEnd}
use Rattle.imap_session.specs.Session.{Stands, Sending, Begun, Asked, Answered, IsReady, HalfSent, IsAsked, KeepsSelection, waiting_of}
use Rattle.imap_session.specs.Replying.{read_as}
use Rattle.imap_model.specs.declared.listen.Last.{Last}
use Rattle.imap_session.specs.Hearing.{all_told_by}
use Rattle.imap_session.proofs.Reading.{Honest, left_empty}
use Rattle.imap_session.proofs.Replying.{TurnedTo, plain_told}
use Rattle.imap_session.proofs.Refusing.{refusal_carries, keeps_selected}
use Rattle.imap_session.proofs.Settling.{settled_whole, settled_go, went_alone, settled_refused, stands_at_rest}
use Rattle.imap_session.proofs.Talking.{linked_start, linked_then, awaits_on, arrives_at, arrives_asking, failed_asking}
use Rattle.imap_session.proofs.Talking.{answers_asking, asking_then, became_later, became_weaker}

hears_at : (heard : List Response) (c d : Option Connection) (feed : Stream) → Hears heard c feed → d ≡ c → Hears heard d feed
hears_at heard c d feed h same = subst (λ (x : Option Connection). Hears heard x feed) (sym same) h

-- at rest, the first part is awaited
pub begins_sending : (w : Waiting) (k : Clock) (c : Option Connection) (feed : Stream) → Stands w.selected k c feed → Sending w [] k k c feed
begins_sending w k c feed s = record {
  asked = [];
  all_go = tt;
  as_told = sym (append-nil k.now.outside.talk.told);
  first = linked_start (Asking k.now.outside.talk.told w.tag w.command) k;
  awaits = (s.nothing, s.no_part);
  begins = λ nil. refl;
  selects = s.selects;
  hears = s.hears;
  empty = s.empty;
}

module _ (w : Waiting) (before : List (List ℕ)) (part : List ℕ) (old k l : Clock) (c d : Option Connection) (feed : Stream)
    (s : Sending w before old k c feed) (same : d ≡ c) where
  -- the last part was sent
  pub begun : IsPartOf w.tag w.command before part [] → Arrives w.tag w.command before part [] k l → Begun w old l d feed
  begun part_of r =
      let on = awaits_on w.tag before k r.at s.awaits r.first in
      let selects : r.at.now.outside.talk.selected ≡ w.selected = ap (λ (t : Talk). t.selected) on.1 ∙ s.selects in
      record {
        at = becomes (arrived w.tag w.command before part []) r.at;
        told = k.now.outside.talk.told;
        asked = s.asked;
        all_go = s.all_go;
        as_told = s.as_told;
        first = asking_then old.now.outside.talk.told w.tag w.command old k (becomes (arrived w.tag w.command before part []) r.at) s.first
            (arrives_at old.now.outside.talk.told w.tag w.command before part [] k l part_of s.awaits (begins_as s) r);
        whole = record {
          waits = ap (λ (x : Option (List ℕ)). Some (waiting_of x w.tag w.command)) selects;
          no_part = refl;
          before = ap (λ (t : Talk). t.told)
              on.1;
        };
        since = r.later;
        hears = hears_at k.now.outside.talk.told c d feed s.hears same;
      }
    where
      begins_as : Sending w before old k c feed → before ≡ [] → k.now.outside.talk.told ≡ old.now.outside.talk.told
      begins_as s nil = s.begins nil

  -- another part was sent
  pub half_sent : (next : List ℕ) (behind : List (List ℕ)) → IsPartOf w.tag w.command before part (next ∷ behind)
      → Arrives w.tag w.command before part (next ∷ behind) k l → HalfSent w before part old l d feed
  half_sent next behind part_of r =
      let on = awaits_on w.tag before k r.at s.awaits r.first in
      record {
        at = becomes (arrived w.tag w.command before part (next ∷ behind)) r.at;
        told = k.now.outside.talk.told;
        asked = s.asked;
        all_go = s.all_go;
        as_told = s.as_told;
        first = asking_then old.now.outside.talk.told w.tag w.command old k (becomes (arrived w.tag w.command before part (next ∷ behind)) r.at)
            s.first (arrives_at old.now.outside.talk.told w.tag w.command before part (next ∷ behind) k l part_of s.awaits s.begins r);
        partly = record {
          nothing = waits_not before r.at.now.outside on.0;
          part = refl;
          unasked = refl;
          selects = ap (λ (t : Talk). t.selected) on.1 ∙ s.selects;
          before = ap (λ (t : Talk). t.told) on.1;
        };
        since = r.later;
        hears = hears_at k.now.outside.talk.told c d feed s.hears same;
      }
    where
      waits_not : (before : List (List ℕ)) (p : Peer) → Awaits w.tag before p → p.waiting ≡ None
      waits_not [] p a = a.0
      waits_not (x ∷ xs) p a = a.0

pub half_asked : (w : Waiting) (before : List (List ℕ)) (part : List ℕ) (old k : Clock) (c : Option Connection) (feed : Stream)
    → HalfSent w before part old k c feed → Asked true k c feed
half_asked w before part old k c feed
    h = record {
      at = h.at;
      told = h.told;
      pending = (record { tag = w.tag; parts = before ++ part ∷ []; asked = false }, w.selected, h.partly);
      since = h.since;
      hears = h.hears;
    }

pub begun_asked : (w : Waiting) (old k : Clock) (c : Option Connection) (feed : Stream) → Begun w old k c feed → Asked false k c feed
begun_asked w old k c feed b = record { at = b.at; told = b.told; pending = (w, b.whole); since = b.since; hears = b.hears }

all_go_more : (rs : List Response) → AllGo rs → AllGo (rs ++ responses.Go ∷ [])
all_go_more [] h = (refl, tt)
all_go_more (r ∷ rs) h = (h.0, all_go_more rs h.1)

awaits_next : (tag : Tag) (before : List (List ℕ)) (part : List ℕ) (p : Peer) → p.waiting ≡ None
    → p.talk.arriving ≡ Some (record { tag = tag; parts = before ++ part ∷ []; asked = true }) → Awaits tag (before ++ part ∷ []) p
awaits_next tag [] part p w a = (w, a)
awaits_next tag (x ∷ xs) part p w a = (w, a)

no_parts : (before : List (List ℕ)) (part : List ℕ) → before ++ part ∷ [] ≡ [] → ⊥
no_parts [] part e = cc
no_parts (x ∷ xs) part e = cc

-- a completion that was read is the table's answer
pub record Concluded (w : Waiting) (rows : List Response) (tag : Tag) (e : Ending) (code : Code) (old k : Clock) (c : Option Connection)
    (feed : Stream) : Type 0 where
  pub same_tag : tag ≡ w.tag
  pub plain : AreBefore rows
  pub answered : Answered w (read_as rows e code) old k c feed

module _ (w : Waiting) (before : List (List ℕ)) (part : List ℕ) (old k l : Clock) (c d : Option Connection) (feed after : Stream)
    (rows : List Response) (last : Response) (half : HalfSent w before part old k c feed) (since : Linked Answering k l)
    (h : Hears (half.told ++ (rows ++ last ∷ [])) d after) (honest : Honest l.now.outside d) where
  abbrev a : Arriving
  a = record { tag = w.tag; parts = before ++ part ∷ []; asked = false }

  all_since : Linked Answering half.at l
  all_since = linked_then Answering half.at k l half.since since

  -- asked to go on, the next part is awaited
  pub half_went : last ≡ responses.Go → Sending w (before ++ part ∷ []) old l d after
  half_went go =
      let went : Went a w.selected half.told l.now.outside = settled_go half.told rows last half.at l all_since d after h honest a w.selected
      half.partly go in
      let alone = went_alone half.told rows last half.at l all_since d after h honest a w.selected half.partly go went in
      record {
        asked = half.asked ++ responses.Go ∷ [];
        all_go = all_go_more half.asked half.all_go;
        as_told = went.all ∙ ap (λ (t : List Response). t ++ responses.Go ∷ []) half.as_told ∙ append_assoc old.now.outside.talk.told half.asked
            (responses.Go ∷ []);
        first = asking_then old.now.outside.talk.told w.tag w.command old half.at l half.first
            (answers_asking old.now.outside.talk.told w.tag w.command half.at l all_since);
        awaits = awaits_next w.tag before part l.now.outside went.nothing went.part;
        begins = λ nil. absurd (no_parts before part nil);
        selects = went.selects;
        hears = subst (λ (x : List Response). Hears x d after) (sym alone.1) h;
        empty = left_empty (half.told ++ (rows ++ last ∷ [])) l.now.outside.talk.told d after h honest alone.1;
      }

  -- refused, the command is answered
  pub half_refused : KeepsSelection w.command → (tag : Tag) (e : Ending) (code : Code) → last ≡ responses.Done tag e code
      → Concluded w rows tag e code old l d after
  half_refused keeps tag e code is =
      let r = settled_refused half.told rows last half.at l all_since d after h honest a w.selected half.partly tag e code is in
      record {
        same_tag = r.same_tag;
        plain = r.plain;
        answered = record {
          asked = half.asked;
          all_go = half.all_go;
          after = w.selected;
          became = became_weaker Any (LinkStep (Asking old.now.outside.talk.told w.tag w.command))
              (λ m n. Denies w.tag half.told w.selected (read_as rows e code) m.outside n.outside)
              (λ m n. Tells w (old.now.outside.talk.told ++ half.asked) (read_as rows e code) w.selected m.outside n.outside)
              (λ m n x. record {
                is = refusal_carries w m.outside.server n.outside.server (read_as rows e code) keeps x.refusal.ending
                    (subst (λ (sel : Option (List ℕ)). SaysRemarks (selected_box sel m.outside.server.boxes) (read_as rows e code)) x.selects
                    x.refusal.says) x.server;
                waits = λ ok. absurd (x.refusal.ending ok);
                before = x.before ∙ half.as_told;
                behind = x.behind ∙ ap (λ (t : List Response). t ++ (rows ++ responses.Done w.tag e code ∷ [])) half.as_told;
              }) old l
              (became_later old.now.outside.talk.told w.tag w.command
              (λ m n. Denies w.tag half.told w.selected (read_as rows e code) m.outside n.outside) old half.at l half.first r.became);
          stands = stands_at_rest (half.told ++ (rows ++ last ∷ [])) w.selected l d after
              (record {
                nothing = r.finished.nothing;
                no_part = r.finished.no_part;
                selects = r.finished.selects;
                all = r.finished.all
                    ∙ ap (λ (x : Response). half.told ++ (rows ++ x ∷ [])) (sym is);
              }) h honest;
          keeps = λ k. refl;
        };
      }

  -- and not by OK
  pub half_not_ok : (tag : Tag) (e : Ending) (code : Code) → last ≡ responses.Done tag e code → e ≢ endings.Ok
  half_not_ok tag e code is = (settled_refused half.told rows last half.at l all_since d after h honest a w.selected half.partly tag e code is).not_ok

module _ (w : Waiting) (old k l : Clock) (c d : Option Connection) (feed after : Stream) (rows : List Response) (last : Response)
    (begun : Begun w old k c feed) (since : Linked Answering k l) (h : Hears (begun.told ++ (rows ++ last ∷ [])) d after)
    (honest : Honest l.now.outside d) where
  pub begun_answered : (tag : Tag) (e : Ending) (code : Code) → last ≡ responses.Done tag e code → Concluded w rows tag e code old l d after
  begun_answered tag e code is =
      let s = settled_whole begun.told rows last begun.at l (linked_then Answering begun.at k l begun.since since) d after h honest w begun.whole tag
      e code is in
      let R : List Response → Moment → Moment → Type 0 = λ t m n. Tells w t (read_as rows e code) s.after m.outside n.outside in
      let S : Moment → Moment → Type 0 = LinkStep (Asking old.now.outside.talk.told w.tag w.command) in
      record {
        same_tag = s.same_tag;
        plain = s.plain;
        answered = record {
          asked = begun.asked;
          all_go = begun.all_go;
          after = s.after;
          became = subst (λ (t : List Response). Became Any S (R t) old l) begun.as_told
              (became_later old.now.outside.talk.told w.tag w.command (R begun.told) old begun.at l begun.first s.became);
          stands = stands_at_rest (begun.told ++ (rows ++ last ∷ [])) s.after l d after
              (record {
                nothing = s.finished.nothing;
                no_part = s.finished.no_part;
                selects = s.finished.selects;
                all = s.finished.all
                    ∙ ap (λ (x : Response). begun.told ++ (rows ++ x ∷ [])) (sym is);
              }) h honest;
          keeps = λ k. keeps_selected w s.became.at.now.outside.server (read_as rows e code) s.became.to.outside.server s.after k s.became.is.is;
        };
      }

-- what was read of a line behind a part
pub end_not_go : (r : Response) → IsEnd true r → (r ≡ responses.Go → ⊥) → IsEnd false r
end_not_go (responses.Done tag ending code) e not = tt
end_not_go (responses.Untagged ending code) e not = e
end_not_go responses.Bye e not = tt
end_not_go (responses.Preauth code) e not = e
end_not_go responses.Go e not = absurd (not refl)
end_not_go (responses.Capability words) e not = e
end_not_go (responses.Enabled words) e not = e
end_not_go (responses.Exists count) e not = e
end_not_go (responses.Fetch fetched) e not = e
end_not_go (responses.Vanished earlier uids) e not = e
end_not_go (responses.Found uids) e not = e
end_not_go responses.Other e not = e

-- the rows as the listener has them
pub concluded_as : (w : Waiting) (told rows : List Response) (e : Ending) (code : Code) (old k : Clock) (c : Option Connection) (feed : Stream)
    → rows ≡ all_told_by told
    → Concluded w told w.tag e code old k c feed → Answered w (read_as rows e code) old k c feed
concluded_as w told rows e code old k c feed same x = subst (λ (rs : List Response). Answered w (read_as rs e code) old k c feed)
    (sym (same ∙ plain_told told x.plain)) x.answered

pub unfit_weaker : (tag : Tag) (P Q : Type 0) (frame : Frame) (response : Response) (fault : SessionFault) → (P → Q)
    → Unfit tag P frame response fault → Unfit tag Q frame response fault
unfit_weaker tag P Q frame response faults.Memory f u = u
unfit_weaker tag P Q frame response faults.Link f u = u
unfit_weaker tag P Q frame response (faults.Refused line) f u = u
unfit_weaker tag P Q frame response (faults.BadReply at) f u = (u.0, (u.1.0, u.1.1, u.1.2, u.1.3, wrong u.1.4))
  where
    wrong : IsWrong tag P u.1.0 u.1.1 → IsWrong tag Q u.1.0 u.1.1
    wrong (inl other) = inl other
    wrong (inr early) = inr (early.0, f early.1)
unfit_weaker tag P Q frame response (faults.Lacking item) f u = u
unfit_weaker tag P Q frame response (faults.TooLarge limit number) f u = u

module _ (w : Waiting) (before : List (List ℕ)) (part : List ℕ) (behind : List (List ℕ)) (old k l : Clock) (c : Option Connection) (feed : Stream)
    (ready : IsReady w before part behind old k c feed) where
  pub ready_arrives : Arrives w.tag w.command before part behind k l → Linked (Asking old.now.outside.talk.told w.tag w.command) k l
  ready_arrives r = arrives_asking old.now.outside.talk.told w.tag w.command before part behind k l ready.part_of ready.sending.awaits
      ready.sending.begins r

  pub ready_failed : Arrives w.tag w.command before part behind k l ⊎ Linked Answering k l
      → Linked (Asking old.now.outside.talk.told w.tag w.command) k l
  ready_failed r = failed_asking old.now.outside.talk.told w.tag w.command before part behind k l ready.part_of ready.sending.awaits
      ready.sending.begins r

module _ (w : Waiting) (before : List (List ℕ)) (part : List ℕ) (old k l : Clock) (c d : Option Connection) (feed after : Stream)
    (told rows : List Response) (last : Response) (half : HalfSent w before part old k c feed) (since : Linked Answering k l)
    (h : Hears (half.told ++ (told ++ last ∷ [])) d after) (honest : Honest l.now.outside d) (keeps : KeepsSelection w.command)
    (same : rows ≡ all_told_by told) where
  abbrev pub WentOn : Option Last → Type 0
  WentOn o = MatchOption o ((rows ≡ []) × Sending w (before ++ part ∷ []) old l d after)
      (λ x. Answered w (read_as rows x.ending x.code) old l d after)

  -- asked to go on, the listener has nothing
  went_silent : last ≡ responses.Go → rows ≡ []
  went_silent go =
      let all_since = linked_then Answering half.at k l half.since since in
      let arriving : Arriving = record { tag = w.tag; parts = before ++ part ∷ []; asked = false } in
      let went : Went arriving w.selected half.told l.now.outside = settled_go half.told told last half.at l all_since d after h honest arriving
      w.selected half.partly go in
      same ∙ ap all_told_by (went_alone half.told told last half.at l all_since d after h honest arriving w.selected half.partly go went).0

  pub one_turned : (o : Option Last) → TurnedTo last w.tag o → WentOn o
  one_turned None go = (went_silent go, half_went w before part old k l c d feed after told last half since h honest go)
  one_turned (Some x) is = concluded_as w told rows x.ending x.code old l d after same
      (half_refused w before part old k l c d feed after told last half since h honest keeps w.tag x.ending x.code is)

pub on_ok_always : {T E P : Type 0} (r : Result T E) → P → OnOk r P
on_ok_always (Ok x) p = p
on_ok_always (Err e) p = tt

-- parts by their places
drop_some : (n : ℕ) (xs : List (List ℕ)) → n < length xs → (next : List ℕ) × (behind : List (List ℕ)) × (drop n xs ≡ next ∷ behind)
drop_some n [] lt = absurd (omega (arith, lt))
drop_some zero (x ∷ xs) lt = (x, xs, refl)
drop_some (suc n) (x ∷ xs) lt = drop_some n xs (omega (arith, lt))

drop_none : (n : ℕ) (xs : List (List ℕ)) → length xs ≤ n → drop n xs ≡ []
drop_none zero [] le = refl
drop_none (suc n) [] le = refl
drop_none zero (x ∷ xs) le = absurd (omega (arith, le))
drop_none (suc n) (x ∷ xs) le = drop_none n xs (omega (arith, le))

pub next_of : (i : ℕ) (parts : List (List ℕ)) → i < length parts - 1 → (next : List ℕ) × (behind : List (List ℕ))
    × (drop (i + 1) parts ≡ next ∷ behind)
next_of i parts lt = drop_some (i + 1) parts (omega (arith, lt))

pub part_of_at : (tag : Tag) (command : Command) (parts before : List (List ℕ)) (part : List ℕ) (rest behind : List (List ℕ)) → IsSent tag command
    → parts ≡ parts_of tag command → parts ≡ before ++ part ∷ rest → rest ≡ behind → IsPartOf tag command before part behind
part_of_at tag command parts before part rest behind sent text cut
    same = record { sent = sent; text = sym text ∙ cut ∙ ap (λ (xs : List (List ℕ)). before ++ part ∷ xs) same }

pub last_of_at : (i : ℕ) (parts : List (List ℕ)) → 0 < length parts → i ≡ length parts - 1 → drop (i + 1) parts ≡ []
last_of_at i parts some is = drop_none (i + 1) parts (omega (arith, some, is))

pub has_parts : (tag : Tag) (command : Command) (parts : List (List ℕ)) (i : ℕ) → parts ≡ parts_of tag command → i < length parts - 1
    → HasParts tag command
has_parts tag command [] i text lt = absurd (omega (arith, lt))
has_parts tag command (x ∷ []) i text lt = absurd (omega (arith, lt))
has_parts tag command (x ∷ y ∷ xs) i text lt = record { first = x; next = y; behind = xs; text = sym text }

-- a command has a part at least
pub some_parts : (tag : Tag) (command : Command) → 0 < length (parts_of tag command)
some_parts tag command = some_behind (tag_parts tag) _ (some_first (codes " ") [] _)

pub ready_at : (w : Waiting) (parts before : List (List ℕ)) (part : List ℕ) (rest behind : List (List ℕ)) (old k : Clock) (c : Option Connection)
    (feed : Stream) → IsSent w.tag w.command → parts ≡ parts_of w.tag w.command → parts ≡ before ++ part ∷ rest → rest ≡ behind
    → Sending w before old k c feed → IsReady w before part behind old k c feed
ready_at w parts before part rest behind old k c feed sent text cut same
    sending = record { sending = sending; part_of = part_of_at w.tag w.command parts before part rest behind sent text cut same }

pub end_ready : (w : Waiting) (parts : List (List ℕ)) (i : ℕ) (part : List ℕ) (old k : Clock) (c : Option Connection) (feed : Stream)
    → IsSent w.tag w.command → parts ≡ parts_of w.tag w.command → 0 < length parts → i ≡ length parts - 1
    → parts ≡ take (length parts - 1) parts ++ part ∷ drop (length parts - 1 + 1) parts → Sending w (take i parts) old k c feed
    → IsReady w (take (length parts - 1) parts) part [] old k c feed
end_ready w parts i part old k c feed sent text some is cut sending =
    ready_at w parts (take (length parts - 1) parts) part (drop (length parts - 1 + 1) parts) [] old k c feed sent text cut
    (last_of_at (length parts - 1) parts some refl)
    (subst (λ (j : ℕ). Sending w (take j parts) old k c feed) is sending)

pub asked_keeps : (command : Command) → IsAsked command → KeepsSelection command
asked_keeps commands.Capability a = tt
asked_keeps (commands.Login account) a = tt
asked_keeps (commands.Plain account) a = tt
asked_keeps (commands.Enable rev2) a = tt
asked_keeps (commands.Select name since) a = absurd a
asked_keeps commands.FetchAll a = tt
asked_keeps (commands.FetchRow uid) a = tt
asked_keeps (commands.Search from id) a = tt
asked_keeps (commands.FetchIds uids) a = tt
asked_keeps (commands.FetchText uid) a = tt
asked_keeps (commands.Store uid since add flags) a = tt
asked_keeps (commands.Shift uid to) a = tt
asked_keeps (commands.Copy uid to) a = tt
asked_keeps (commands.Expunge uid) a = tt
asked_keeps (commands.Append to flags text) a = tt
asked_keeps commands.Logout a = tt

pub stands_kept : (w : Waiting) (r : Replies) (old k : Clock) (c : Option Connection) (feed : Stream) → Answered w r old k c feed → IsAsked w.command
    → Stands w.selected k c feed
stands_kept w r old k c feed a asked = subst (λ (s : Option (List ℕ)). Stands s k c feed) (a.keeps (asked_keeps w.command asked)) a.stands

-- over an honest link no completion that is read is wrong
module _ (w : Waiting) (before : List (List ℕ)) (part : List ℕ) (old k l : Clock) (c d : Option Connection) (feed after : Stream)
    (rows : List Response) (last : Response) (half : HalfSent w before part old k c feed) (since : Linked Answering k l)
    (h : Hears (half.told ++ (rows ++ last ∷ [])) d after) (honest : Honest l.now.outside d) (keeps : KeepsSelection w.command) where
  pub half_fit : (Early : Type 0) (frame : Frame) (at : ℕ) → Unfit w.tag Early frame last (faults.BadReply at) → ⊥
  half_fit Early frame at u = wrong u.1.4
    where
      wrong : IsWrong w.tag Early u.1.0 u.1.1 → ⊥
      wrong (inl other) = other
          (half_refused w before part old k l c d feed after rows last half since h honest keeps u.1.0 u.1.1 u.1.2 u.1.3).same_tag
      wrong (inr early) = half_not_ok w before part old k l c d feed after rows last half since h honest u.1.0 u.1.1 u.1.2 u.1.3 early.0

module _ (w : Waiting) (old k l : Clock) (c d : Option Connection) (feed after : Stream) (rows : List Response) (last : Response)
    (begun : Begun w old k c feed) (since : Linked Answering k l) (h : Hears (begun.told ++ (rows ++ last ∷ [])) d after)
    (honest : Honest l.now.outside d) where
  pub begun_fit : (Early : Type 0) (frame : Frame) (at : ℕ) → (Early → ⊥) → Unfit w.tag Early frame last (faults.BadReply at) → ⊥
  begun_fit Early frame at not u = wrong u.1.4
    where
      wrong : IsWrong w.tag Early u.1.0 u.1.1 → ⊥
      wrong (inl other) = other (begun_answered w old k l c d feed after rows last begun since h honest u.1.0 u.1.1 u.1.2 u.1.3).same_tag
      wrong (inr early) = not early.1
