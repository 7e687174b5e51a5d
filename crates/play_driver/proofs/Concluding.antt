-- What a resynchronisation tells, by the replies for which its makers stand; or its reply to SELECT is held.
use Rattle.imap_model.specs.declared.listen.Last.{Last}
use Rattle.imap_model.specs.declared.replies.Replies.{Replies}
use Rattle.imap_model.specs.declared.response.Response.{Response}
use Rattle.imap_session.specs.Hearing.{Hears}
use Rattle.imap_session.specs.declared.chosen.Chosen.{Chosen}
use Rattle.literal_feed.specs.Stream.{Stream}
use Rattle.mailbox_cache.specs.declared.cache.Cache.{Cache}
use Rattle.mailbox_cache.specs.declared.delta.Delta.{Delta}
use Rattle.play_driver.proofs.Gathers.{learnable}
use Rattle.play_driver.specs.Exchanges.{AnsweredAll, CameAll}
use Rattle.play_driver.specs.Gathering.{HasHeard, HasHeld, Holds, Makes}
use Rattle.play_driver.specs.Renewing.{IfRenewed, IfTold, above, above_codes, renewed_to, session_of}
use Rattle.play_driver.specs.Resynchronising.{DeltaCame, Gathered, IsLearnable, Resyncs, exchanged, fetches, then_all}
use Rattle.play_driver.specs.Sessions.{count_of, feed_of, selected_in}
use Rattle.play_driver.specs.declared.resync.Heard.{Heard}
use Rattle.play_driver.specs.declared.session.Held.{Held}
use Rattle.play_driver.specs.declared.session.Session.{Session}
use Rattle.playback.specs.Why.{TellsValidity}
use Rattle.qresync_core.specs.Making.{StandsFor}
use Rattle.qresync_core.specs.ToldCodes.{told_codes}
use Rattle.qresync_core.specs.declared.codes.Codes.{Codes}
use Rattle.qresync_core.specs.declared.fault.CodeFault.{CodeFault}
use Rattle.qresync_core.specs.declared.fault.ResyncFault.{ResyncFault}
use Rattle.qresync_core.specs.declared.maker.DeltaMaker.{DeltaMaker}
use Rattle.std.proofs.Common.{Bool, Err, IfOk, List, None, Ok, Option, Result, Some, ap, arith, cond, false, is_some, length, refl, subst, sym, true, ℕ, ◌<◌, ◌∙◌, ◌≡◌}
use Rattle.std.proofs.lemmas.Bool.{ltb-true}
use Rattle.std.proofs.lemmas.Option.{same_Some}
use Rattle.std.specs.Prelude.{nat_lt}
use Rattle.world_traits.specs.declared.clocked.Clocked.{Ghosts}
use Rattle.play_driver.specs.declared.resync.Heard.TheVariants as heards

-- the reply tells a UIDVALIDITY above the cache's
record IsRisen (kept : Option Cache) (r : Replies) (n : ℕ) : Type 0 where
  pub cache : Cache
  pub cached : kept ≡ Some cache
  pub above : cache.validity < n
  pub tells : TellsValidity n r

above_is : (kept told n : ℕ) → above kept told ≡ Some n → (kept < n) × (told ≡ n)
above_is kept told n is = by (nat_lt kept told) refl
  where
    by : (test : Bool) → nat_lt kept told ≡ test → (kept < n) × (told ≡ n)
    by true e =
        let some : above kept told ≡ Some told = ap (λ (x : Bool). cond x (Some told) None) e in
        let same : told ≡ n = same_Some told n (sym some ∙ is) in
        (subst (λ (m : ℕ). kept < m) same (ltb-true kept told e), same)
    by false e = absurd (let none : above kept told ≡ None = ap (λ (x : Bool). cond x (Some told) None) e in let h : None ≡ Some n = sym none ∙ is in cc)

risen_by : (cache : Cache) (r : Replies) (n : ℕ) (told : Result Codes CodeFault) → told_codes r ≡ told → above_codes cache.validity told ≡ Some n →
    IsRisen (Some cache) r n
risen_by cache r n (Err fault) e is = absurd (cc)
risen_by cache r n (Ok codes) e is =
    let a = above_is cache.validity codes.validity n is in
    record { cache = cache; cached = refl; above = a.0; tells = (codes, e, a.1) }

risen : (kept : Option Cache) (r : Replies) (n : ℕ) → renewed_to kept r ≡ Some n → IsRisen kept r n
risen None r n is = absurd (cc)
risen (Some cache) r n is = risen_by cache r n (told_codes r) refl is

none_there : (all : Option Replies) → is_some all ≡ false → all ≡ None
none_there None is = refl
none_there (Some replies) is = absurd (cc)

-- the session is that of this mailbox
pub record HasChosen (chosen : Chosen) (s : Session) : Type 0 where
  pub feed : feed_of s ≡ chosen.conversation.feed
  pub name : selected_in s ≡ Some chosen.name
  pub count : count_of s ≡ chosen.conversation.count

module _ {Self : Type 0} (L : Ghosts Self) (name : List ℕ) (kept : Option Cache) (old new : Self) (session : Session) (chosen : Chosen)
    (selected : DeltaMaker) (last : Last) (all : DeltaMaker) (x : HasHeard L name kept old new session chosen selected last all) where
  abbrev IsTold : Chosen → Result Delta ResyncFault → Type 0
  IsTold next told = (next ≡ chosen) × Makes kept selected last all told

  -- the delta is that of the server's answers
  pub resyncs : L.tells_server → (heard : Heard) → IfTold IsTold heard →
      IfTold (λ next told. Resyncs (selected_in session) (count_of session) next.conversation.count name kept told next.permits (L.clock old) (L.clock new)) heard
  resyncs t (heards.Told next told) (is, makes) =
      subst (λ (n : Chosen). Resyncs (selected_in session) (count_of session) n.conversation.count name kept told n.permits (L.clock old) (L.clock new))
      (sym is)
      (record {
        gathered = x.gathered;
        permitted = x.permitted;
        asked = omega (arith, x.asked);
        answered = x.heard.answered t;
        makes = makes.makes x.gathered x.stand x.heard.fetched;
        current = makes.current x.gathered x.stand;
      })
  resyncs t (heards.Renewed held) told = tt

  -- it is that of the bytes that came
  pub delta_came : L.tells_files → (told_so : List Response) (h : Hears told_so (L.link old).connection (feed_of session)) → (heard : Heard) →
      IfTold IsTold heard →
      IfTold (λ next told. DeltaCame (count_of session) next.conversation.count name kept told next.permits
      (L.link old).sent h.connection.received told_so (L.link new) next.conversation.feed) heard
  delta_came t told_so h (heards.Told next told) (is, makes) =
      subst (λ (n : Chosen). DeltaCame (count_of session) n.conversation.count name kept told n.permits
      (L.link old).sent h.connection.received told_so (L.link new) n.conversation.feed) (sym is)
      (record {
        gathered = x.gathered;
        permitted = x.permitted;
        asked = omega (arith, x.asked);
        came = x.heard.came t told_so h;
        makes = makes.makes x.gathered x.stand x.heard.fetched;
        current = makes.current x.gathered x.stand;
      })
  delta_came t told_so h (heards.Renewed held) told = tt

  pub may_learn : (heard : Heard) → IfTold IsTold heard → IfTold (λ next told. IfOk told (IsLearnable kept)) heard
  may_learn (heards.Told next told) (is, makes) =
      learnable kept x.gathered told x.heard.small.0 x.heard.small.1 (makes.makes x.gathered x.stand x.heard.fetched) makes.fits
  may_learn (heards.Renewed held) told = tt

  -- the reply is held
  held_so : (held : Held) → Holds kept chosen selected last held → HasHeld L name kept old new session held
  held_so held holds =
      let r = x.gathered.selected in
      let is_risen : IsRisen kept r held.told = risen kept r held.told (holds.renewed r x.stand.select x.stand.code) in
      let none : x.gathered.all ≡ None =
      none_there x.gathered.all (x.heard.fetched ∙ ap (λ (o : Option Cache). fetches o r) is_risen.cached) in
      let alone : x.gathered ≡ record { selected = r; all = None } = ap (λ (o : Option Replies). record { selected = r; all = o }) none in
      let count : held.chosen.conversation.count ≡ chosen.conversation.count = ap (λ (h : Held). h.chosen.conversation.count) holds.is in
      let none_more : length (then_all x.gathered.all) ≡ 0 = ap (λ (o : Option Replies). length (then_all o)) none in
      record {
        cache = is_risen.cache;
        cached = is_risen.cached;
        above = is_risen.above;
        reply = r;
        is = record {
          stands = subst (λ (h : Held). StandsFor h.maker r.untagged) (sym holds.is) x.stand.select;
          code = x.stand.code ∙ ap (λ (h : Held). h.last.code) (sym holds.is);
          accepted = x.accepted;
          small = x.heard.small.0;
        };
        tells = λ s is.
            let again : IsRisen kept s held.told =
            risen kept s held.told
            (holds.renewed s (subst (λ (h : Held). StandsFor h.maker s.untagged) holds.is is.stands) (is.code ∙ ap (λ (h : Held). h.last.code) holds.is)) in
            again.tells;
        permitted = ap (λ (h : Held). h.chosen.permits) holds.is ∙ x.permitted;
        asked = omega (arith, count, x.asked, none_more);
        answered = λ t.
            subst (λ (g : Gathered). AnsweredAll (exchanged name kept g) (selected_in session) (count_of session) (L.clock old) (L.clock new)) alone
            (x.heard.answered t);
        came = λ t heard h.
            subst (λ (f : Stream). CameAll (exchanged name kept (record { selected = r; all = None })) (count_of session) (L.link old).sent h.connection.received
            heard (L.link new) f) (sym (ap (λ (i : Held). i.chosen.conversation.feed) holds.is))
            (subst (λ (g : Gathered). CameAll (exchanged name kept g) (count_of session) (L.link old).sent h.connection.received heard (L.link new)
            chosen.conversation.feed) alone (x.heard.came t heard h));
      }

  pub renewed_held : (heard : Heard) → IfRenewed (Holds kept chosen selected last) heard → IfRenewed (HasHeld L name kept old new session) heard
  renewed_held (heards.Told next told) holds = tt
  renewed_held (heards.Renewed held) holds = held_so held holds

  -- either way the session is that of the mailbox
  pub has_chosen : (heard : Heard) → IfTold IsTold heard → IfRenewed (Holds kept chosen selected last) heard → HasChosen chosen (session_of heard)
  has_chosen (heards.Told next told) (is, makes) holds = record {
    feed = ap (λ (n : Chosen). n.conversation.feed) is;
    name = ap (λ (n : Chosen). Some n.name) is;
    count = ap (λ (n : Chosen). n.conversation.count) is;
  }
  has_chosen (heards.Renewed held) told holds = record {
    feed = ap (λ (h : Held). h.chosen.conversation.feed) holds.is;
    name = ap (λ (h : Held). Some h.chosen.name) holds.is;
    count = ap (λ (h : Held). h.chosen.conversation.count) holds.is;
  }

-- what is so of an answer, where it is a delta, or a reply that is held
module _ {Self : Type 0} (L : Ghosts Self) (name : List ℕ) (kept : Option Cache) (old new : Self) (session : Session) (heard : Heard) where
  module _ (held : Held) (is : heard ≡ heards.Renewed held) where
    pub renewed_then : IfRenewed (HasHeld L name kept old new session) heard → HasHeld L name kept old new session held
    renewed_then so = subst (λ (x : Heard). IfRenewed (HasHeld L name kept old new session) x) is so

  module _ (chosen : Chosen) (told : Result Delta ResyncFault) (is : heard ≡ heards.Told chosen told) where
    abbrev SoResyncs : Chosen → Result Delta ResyncFault → Type 0
    SoResyncs next delta =
        Resyncs (selected_in session) (count_of session) next.conversation.count name kept delta next.permits (L.clock old) (L.clock new)

    pub resyncs_then : IfTold SoResyncs heard → SoResyncs chosen told
    resyncs_then so = subst (λ (x : Heard). IfTold SoResyncs x) is so

    module _ (told_so : List Response) (h : Hears told_so (L.link old).connection (feed_of session)) where
      abbrev SoCame : Chosen → Result Delta ResyncFault → Type 0
      SoCame next delta =
          DeltaCame (count_of session) next.conversation.count name kept delta next.permits
          (L.link old).sent h.connection.received told_so (L.link new) next.conversation.feed

      pub came_then : IfTold SoCame heard → SoCame chosen told
      came_then so = subst (λ (x : Heard). IfTold SoCame x) is so

    abbrev SoLearns : Chosen → Result Delta ResyncFault → Type 0
    SoLearns next delta = IfOk delta (IsLearnable kept)

    pub learns_then : IfTold SoLearns heard → SoLearns chosen told
    learns_then so = subst (λ (x : Heard). IfTold SoLearns x) is so

-- its mailbox
pub told_named : (heard : Heard) (chosen : Chosen) (told : Result Delta ResyncFault) (name : List ℕ) → heard ≡ heards.Told chosen told →
    selected_in (session_of heard) ≡ Some name → chosen.name ≡ name
told_named heard chosen told name is named =
    same_Some chosen.name name (subst (λ (h : Heard). selected_in (session_of h) ≡ Some name) is named)

pub held_named : (heard : Heard) (held : Held) (name : List ℕ) → heard ≡ heards.Renewed held → selected_in (session_of heard) ≡ Some name →
    held.chosen.name ≡ name
held_named heard held name is named =
    same_Some held.chosen.name name (subst (λ (h : Heard). selected_in (session_of h) ≡ Some name) is named)
