-- What a listener takes of a reply, one part of it behind another.
use Rattle.std.proofs.Common.{◌≡◌, ◌∙◌, ℕ, true, false, List, [], ◌∷◌, ◌++◌, Option, Some, None, MatchOption, Result, Ok, Err, IfOk, OnErr}
use Rattle.std.proofs.Common.{ap, append_assoc, refl, subst, sym}
use Rattle.std.proofs.lemmas.List.{append-nil}
use Rattle.mail_base.specs.declared.tag.Tag.{Tag}
use Rattle.literal_feed.specs.Stream.{Stream}
use Rattle.imap_model.specs.Small.{IsSmall}
use Rattle.imap_model.specs.declared.command.Command.{Command}
use Rattle.imap_model.specs.declared.replies.Replies.{Replies}
use Rattle.imap_model.specs.declared.response.Response.{Response}
use Rattle.imap_model.specs.declared.response.Response.TheVariants as responses
use Rattle.imap_model.proofs.Remarking.{all_append}
use Rattle.world_traits.specs.Moments.{Clock}
use Rattle.world_traits.specs.declared.clocked.Clocked.{Ghosts}
use Rattle.imap_session.specs.Exchange.{HasReply, IsHeard}
use Rattle.imap_session.specs.Hearing.{all_told_by, told_by}
use Rattle.imap_session.specs.Knowing.{NoEnd}
use Rattle.imap_session.specs.Permanent.{behind, behind_all, behind_code, permitted}
use Rattle.imap_session.specs.Replying.{AllSmall, read_as}
use Rattle.imap_session.specs.Session.{Answered, IsReady, Sending, waiting_of}
use Rattle.imap_session.specs.Taken.{HeardLine, HeardPart, Takes, TookSome}
use Rattle.imap_session.specs.declared.asking.Answer.{Answer}
use Rattle.imap_session.specs.declared.gather.Gather.{Gather}
use Rattle.imap_session.specs.declared.listening.Line.{Line}
use Rattle.imap_session.specs.declared.permits.Permits.{Permits}
use Rattle.imap_model.specs.declared.listen.Last.{Last}
use Rattle.imap_session.proofs.Hearing.{reads_at}
use Rattle.imap_session.proofs.Replying.{TurnedTo, behind_append, behind_told, none_append, none_go, none_weaker, permitted_as, small_told, to_done, to_on}
use Rattle.imap_session.proofs.Replying.{told_append, told_one}

module _ {H : Type 0} (Holds : H → List Response → Type 0) where
  pub takes_nothing : (h : H) (p : Option Permits) → Takes Holds [] h h p p
  takes_nothing h p = record { stands = λ list s. subst (Holds h) (sym (append-nil list)) s; permits = refl; small = tt }

  -- one response behind another
  pub takes_then : (a b : List Response) (h k m : H) (p q r : Option Permits) → Takes Holds a h k p q → Takes Holds b k m q r
      → Takes Holds (a ++ b) h m p r
  takes_then a b h k m p q r x y = record {
    stands = λ list s. subst (Holds m)
        (append_assoc list (all_told_by a) (all_told_by b) ∙ ap (λ (t : List Response). list ++ t) (sym (told_append a b)))
        (y.stands (list ++ all_told_by a) (x.stands list s));
    permits = y.permits ∙ ap (λ (z : Option Permits). behind_all z (all_told_by b)) x.permits
        ∙ sym (behind_append p (all_told_by a) (all_told_by b)) ∙ ap (λ (t : List Response). behind_all p t) (sym (told_append a b));
    small = subst AllSmall (sym (told_append a b)) (all_append IsSmall (all_told_by a) (all_told_by b) x.small y.small);
  }

  -- one response
  pub takes_one : (r : Response) (h k : H) (p q : Option Permits) → ((list : List Response) → Holds h list → Holds k (list ++ told_by r))
      → q ≡ behind p r → IsSmall r → Takes Holds (r ∷ []) h k p q
  takes_one r h k p q taken next small =
      let one : all_told_by (r ∷ []) ≡ told_by r = append-nil (told_by r) in
      record {
        stands = λ list s. subst (Holds k) (ap (λ (t : List Response). list ++ t) (sym one)) (taken list s);
        permits = next ∙ sym (behind_told p r) ∙ ap (λ (t : List Response). behind_all p t) (sym one);
        small = subst AllSmall (sym one) (small_told r small);
      }

  -- a `+` tells nothing
  pub go_silent : (told : List Response) (last : Response) → last ≡ responses.Go → all_told_by (told ++ last ∷ []) ≡ all_told_by told
  go_silent told last go = told_one told last ∙ ap (λ (r : Response). all_told_by told ++ told_by r) go ∙ append-nil (all_told_by told)

  pub takes_go : (told : List Response) (last : Response) (h k : H) (p q : Option Permits) → last ≡ responses.Go → Takes Holds told h k p q
      → Takes Holds (told ++ last ∷ []) h k p q
  unfolding go_silent
  takes_go told last h k p q go x =
      let same = sym (go_silent told last go) in
      record {
        stands = λ list s. subst (Holds k) (ap (λ (t : List Response). list ++ t) same) (x.stands list s);
        permits = x.permits ∙ ap (λ (t : List Response). behind_all p t) same;
        small = subst AllSmall same x.small;
      }

  -- after a fault
  pub some_of : (told : List Response) (h k : H) (p q : Option Permits) → NoEnd false told → Takes Holds told h k p q → TookSome Holds h k
  some_of told h k p q none x = record { told = told; none = none; stands = x.stands }

  pub some_none : (h k : H) → k ≡ h → TookSome Holds h k
  some_none h k same = record {
    told = [];
    none = tt;
    stands = λ list s. subst (λ (x : H). Holds x (list ++ [])) (sym same) (subst (Holds h) (sym (append-nil list)) s);
  }

  pub some_then : (told : List Response) (h k m : H) (p q : Option Permits) → NoEnd false told → Takes Holds told h k p q → TookSome Holds k m
      → TookSome Holds h m
  some_then told h k m p q none x y = record {
    told = told ++ y.told;
    none = none_append false told y.told none y.none;
    stands = λ list s. subst (Holds m)
        (append_assoc list (all_told_by told) (all_told_by y.told) ∙ ap (λ (t : List Response). list ++ t) (sym (told_append told y.told)))
        (y.stands (list ++ all_told_by told) (x.stands list s));
  }

pub on_err_always : {T E P : Type 0} (r : Result T E) → P → OnErr r P
on_err_always (Ok x) p = tt
on_err_always (Err e) p = p

pub on_err_then : {T E P Q : Type 0} (r : Result T E) → (P → Q) → OnErr r P → OnErr r Q
on_err_then (Ok x) f p = tt
on_err_then (Err e) f p = f p

-- a line that came behind a part, as what it leads to
module _ {Self H : Type 0} (L : Ghosts Self) (Holds : H → List Response → Type 0) (tag : Tag) (command : Command) (part : List ℕ)
    (old mid new : Self) (left less : ℕ) (feed after : Stream) (was is : H) (p q : Option Permits) (line : Line)
    (heard : HeardLine L Holds true mid new left less feed after was is p q line)
    (still : L.tells_files → (L.link mid).connection ≡ (L.link old).connection)
    (went : L.tells_server → (selected : Option (List ℕ)) (before : List (List ℕ)) (next : List ℕ) (behind : List (List ℕ)) (start : Clock)
    → IsReady (waiting_of selected tag command) before part (next ∷ behind) start (L.clock old) (L.link old).connection feed
    → (o : Option Last) → TurnedTo line.response tag o
    → MatchOption o
    ((all_told_by heard.told ≡ [])
    × Sending (waiting_of selected tag command) (before ++ part ∷ []) start (L.clock new) (L.link new).connection after)
    (λ d. Answered (waiting_of selected tag command) (read_as (all_told_by heard.told) d.ending d.code) start (L.clock new)
    (L.link new).connection after)) where
  turned_one : (o : Option Last) → TurnedTo line.response tag o
      → HeardPart L Holds tag command part old new left less feed after was is p q o
  turned_one None go = record {
    told = heard.told ++ line.response ∷ [];
    none = none_go heard.told line.response heard.none go;
    takes = takes_go Holds heard.told line.response was is p q go heard.takes;
    reads = λ t before had most r. to_on before heard.told line.frame line.response had most less _ after
        (heard.reads t before had most (reads_at before had most left _ _ feed (still t) r)) go;
    went = λ t selected before next behind start ready.
        let w = went t selected before next behind start ready None go in
        (go_silent Holds heard.told line.response go ∙ w.0, w.1);
  }
  turned_one (Some d) done = record {
    told = heard.told;
    none = none_weaker heard.told heard.none;
    takes = heard.takes;
    reads = λ t before had most r. to_done before heard.told line.frame line.response had most less _ after
        (heard.reads t before had most (reads_at before had most left _ _ feed (still t) r)) tag d.ending d.code done;
    went = λ t selected before next behind start ready. went t selected before next behind start ready (Some d) done;
  }

  pub turned_heard : {E : Type 0} (res : Result (Option Last) E) → IfOk res (TurnedTo line.response tag)
      → IfOk res (HeardPart L Holds tag command part old new left less feed after was is p q)
  turned_heard (Ok o) done = turned_one o done
  turned_heard (Err e) done = tt

-- a reply that was read, and what counts behind it
pub heard_as : {Self H E : Type 0} (L : Ghosts Self) (Holds : H → List Response → Type 0) (tag : Tag) (command : Command) (old new : Self)
    (before after : Stream) (was is : H) (p q : Option Permits) (told : List Response) (d : Last) → Takes Holds told was is p q
    → HasReply L tag command old new before after (read_as (all_told_by told) d.ending d.code)
    → (r : Result Answer E) → IfOk r (λ a. a.last ≡ d) → IfOk r (λ a. a.permits ≡ behind_code q d.code)
    → IfOk r
    (λ a. (rows : List Response) × IsHeard L Holds tag command old new before after was is rows a.last
    × (a.permits ≡ permitted p (read_as rows a.last.ending a.last.code)))
heard_as L Holds tag command old new before after was is p q told d takes reply (Err e) same counts = tt
heard_as L Holds tag command old new before after was is p q told d takes reply (Ok a) same counts =
    let rows = all_told_by told in (
      rows,
      subst (λ (x : Last). IsHeard L Holds tag command old new before after was is (all_told_by told) x) (sym same)
          (record { taken = takes.stands; reply = reply }),
      permitted_as p q a.permits (all_told_by told) a.last.ending a.last.code takes.permits
          (counts ∙ ap (λ (x : Last). behind_code q x.code) (sym same)),
    )

-- a reply that was gathered
module _ {Self : Type 0} (L : Ghosts Self) (tag : Tag) (command : Command) (old new : Self) (before after : Stream) (was is : Gather)
    (told : List Response) (last : Last) (heard : IsHeard L (λ (x : Gather) (list : List Response). x.rows ≡ list) tag command old new before after was is told last)
    (nothing : was.rows ≡ []) (r : Replies) (whole : r ≡ read_as is.rows last.ending last.code) where
  all_gathered : read_as told last.ending last.code ≡ r
  all_gathered = ap (λ (rows : List Response). read_as rows last.ending last.code) (sym (heard.taken [] nothing)) ∙ sym whole

  pub gathered : HasReply L tag command old new before after r
  gathered = subst (λ (x : Replies). HasReply L tag command old new before after x) all_gathered heard.reply

  pub gathered_permits : (p : Option Permits) → p ≡ permitted None (read_as told last.ending last.code) → p ≡ permitted None r
  gathered_permits p is = is ∙ ap (λ (x : Replies). permitted None x) all_gathered
