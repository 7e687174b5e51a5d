-- While a command is asked no other one is answered, and behind its answer nothing waits: so only what asks for a mailbox's rows reads it.
use Rattle.std.proofs.Common.{◌≡◌, ◌<◌, ◌≤◌, ◌∙◌, ℕ, List, [], ◌∷◌, ◌++◌, Option, Some, None, ap, arith, length, length-append, refl, subst, sym}
use Rattle.std.proofs.lemmas.Option.{none-some, same_Some}
use Rattle.mail_base.specs.declared.tag.Tag.{Tag}
use Rattle.imap_model.specs.CarriedOut.{told_in}
use Rattle.imap_model.specs.Carrying.{Waiting}
use Rattle.imap_model.specs.Talking.{Peer, Talk, Answering}
use Rattle.imap_model.specs.Talking.Answering.{stays, others, goes_on, refuses, carries}
use Rattle.imap_model.specs.declared.command.Command.{Command}
use Rattle.imap_model.specs.declared.replies.Replies.{Replies}
use Rattle.imap_model.specs.declared.response.Response.{Response}
use Rattle.imap_model.specs.declared.response.Response.TheVariants as responses
use Rattle.world_traits.specs.Asking.{Asking}
use Rattle.world_traits.specs.Asking.Asking.{answers, arrives}
use Rattle.world_traits.specs.Links.{Any, LinkStep, Linked}
use Rattle.world_traits.specs.Moments.{Moment, Clock, GoesOn, Since, tick}
use Rattle.world_traits.proofs.Passing.{since_then, since_weaker}
use Rattle.world_traits.proofs.Traces.{carried_now, since_carry}
use Rattle.imap_session.specs.Enquiring.{AsksUnder}
use Rattle.imap_session.specs.Enquiring.AsksUnder.{answers as answers_under, arrives as arrives_under}
use Rattle.imap_session.specs.Session.{waiting_of}
use Rattle.imap_session.proofs.Talking.{idle_step, no_part_answered}
use Rattle.imap_session.proofs.Under.{asks_under}
use Rattle.play_driver.specs.Synced.{AsksRows, IsLastRead, IsNotRead, IsSynced}
use Rattle.play_driver.specs.Joining.{Grows}
use Rattle.play_driver.proofs.Parts.{grows_then}
use Rattle.play_driver.proofs.Questions.{awaits_quiet}
use Rattle.action_queue.specs.Book.{Meaning, after}
use Rattle.action_queue.specs.declared.event.Event.{Event}
use Rattle.mailbox_cache.specs.declared.cache.Cache.{Cache}
use Rattle.store_core.specs.Books.{HoldsBook}
use Rattle.store_core.specs.Mail.{mail}
use Rattle.store_core.specs.Taking.{IsTaking, Takes}

-- what is told in a reply is something
more_told : (told : List Response) (tag : Tag) (r : Replies) → length told < length (told ++ told_in tag r)
more_told told tag r =
    omega (arith, length-append told (told_in tag r), length-append r.untagged (responses.Done tag r.ending r.code ∷ []))

-- where the server with its connection stays, nothing is read
pub still_not_read : (name : List ℕ) (m n : Moment) → n.outside ≡ m.outside → IsNotRead name m n
still_not_read name m n same read =
    let t = read.tells in
    let told : read.told ++ told_in read.asked.tag read.replies ≡ read.told =
    sym t.behind ∙ ap (λ (p : Peer). p.talk.told) same ∙ t.before in
    let longer = more_told read.told read.asked.tag read.replies in
    let equal : length (read.told ++ told_in read.asked.tag read.replies) ≡ length read.told = ap (λ (rs : List Response). length rs) told in
    absurd (omega (arith, longer, equal))

-- nor where nothing waits
pub quiet_not_read : (name : List ℕ) (m n : Moment) → m.outside.waiting ≡ None → IsNotRead name m n
quiet_not_read name m n none read = absurd (none-some read.asked (sym none ∙ read.tells.waits read.accepted))

-- this command alone waits, and no text arrives meanwhile
module _ (selected : Option (List ℕ)) (told : List Response) (tag : Tag) (command : Command) where
  abbrev Mine : Peer → Type 0
  Mine p = (w : Waiting) → p.waiting ≡ Some w → (w ≡ waiting_of selected tag command) × (p.talk.arriving ≡ None)

  mine_answered : (p q : Peer) → Answering p q → Mine p → Mine q
  mine_answered p q stays h = h
  mine_answered p q (others t batch) h = h
  mine_answered p q (goes_on a is unasked) h = λ w waits. absurd (none-some a (sym (h w waits).1 ∙ is))
  mine_answered p q (refuses a r is unasked refusal) h = λ w waits. absurd (none-some a (sym (h w waits).1 ∙ is))
  mine_answered p q (carries v r t after is out) h = λ w waits. absurd (none-some w waits)

  mine_on : (p q : Peer) → AsksUnder selected told tag command p q → Mine p → Mine q
  mine_on p q (answers_under step) h = mine_answered p q step h
  mine_on p q (arrives_under before part [] is awaits first selects) h = λ w waits. (
    sym (same_Some (record { selected = p.talk.selected; tag = tag; command = command }) w waits)
        ∙ ap (λ (s : Option (List ℕ)). waiting_of s tag command) selects,
    refl,
  )
  mine_on p q (arrives_under before part (next ∷ behind) is awaits first selects) h =
      λ w waits. absurd (none-some w (sym (awaits_quiet tag before p awaits) ∙ waits))

  abbrev Under : Moment → Moment → Type 0
  Under m n = LinkStep (AsksUnder selected told tag command) m n

  mine_first : (p : Peer) → p.waiting ≡ None → Mine p
  mine_first p none w waits = absurd (none-some w (sym none ∙ waits))

  mine_step : (m n : Moment) → Any n → Under m n → Mine m.outside → Mine n.outside
  mine_step m n any s h = mine_on m.outside n.outside s.outside h

  -- it doesn't ask for the rows of this mailbox
  module _ (name : List ℕ) (other : AsksRows name (waiting_of selected tag command) → ⊥) where
    mine_not_read : (m n : Moment) → Mine m.outside → IsNotRead name m n
    mine_not_read m n h read =
        let w = h read.asked (read.tells.waits read.accepted) in other (subst (AsksRows name) w.0 read.rows)

    under_not_read : (old new : Clock) → old.now.outside.waiting ≡ None → Linked (AsksUnder selected told tag command) old new →
        Since Any (IsNotRead name) old new
    under_not_read old new none linked =
        since_weaker (λ m. Any m × Mine m.outside) Any (λ m n. Mine m.outside × Under m n) (IsNotRead name) (λ m p. tt)
        (λ m n s. mine_not_read m n s.0) old new
        (since_carry Any (λ m. Mine m.outside) Under mine_step old (mine_first old.now.outside none) new linked)

-- So a command that doesn't ask for the rows of a mailbox reads nothing of it.
pub asked_not_read : (name : List ℕ) (tag : Tag) (command : Command) (old new : Clock) → old.now.outside.waiting ≡ None →
    old.now.outside.talk.arriving ≡ None → (AsksRows name (waiting_of old.now.outside.talk.selected tag command) → ⊥) →
    Linked (Asking old.now.outside.talk.told tag command) old new → Since Any (IsNotRead name) old new
asked_not_read name tag command old new none nothing other linked =
    let selected = old.now.outside.talk.selected in
    under_not_read selected old.now.outside.talk.told tag command name other old new none
    (asks_under selected tag command old new none nothing refl linked)

-- Behind the answer nothing waits or arrives, and more was told than as the command was begun: so it can't be begun again.
module _ (told : List Response) (tag : Tag) (command : Command) where
  abbrev Over : Peer → Type 0
  Over p = (p.waiting ≡ None) × (p.talk.arriving ≡ None) × (length told < length p.talk.told)

  over_on : (p q : Peer) → Asking told tag command p q → Over p → Over q
  over_on p q (answers step) h =
      let i = idle_step p q step h.0 (no_part_answered p h.1) in
      let same : length q.talk.told ≡ length p.talk.told = ap (λ (t : Talk). length t.told) i.1 in
      (i.0, ap (λ (t : Talk). t.arriving) i.1 ∙ h.1, omega (arith, same, h.2))
  over_on p q (arrives [] part behind is awaits first) h =
      let same : length p.talk.told ≡ length told = ap (λ (rs : List Response). length rs) (first refl) in
      absurd (omega (arith, same, h.2))
  over_on p q (arrives (x ∷ xs) part behind is awaits first) h = absurd (none-some _ (sym h.1 ∙ awaits.1))

  -- the answer
  module _ (selected : Option (List ℕ)) (w : Waiting) (r : Replies) where
    not_longer : (p q : Peer) → q.talk.told ≡ p.talk.told → q.talk.told ≡ p.talk.told ++ told_in w.tag r → ⊥
    not_longer p q same behind =
        let longer = more_told p.talk.told w.tag r in
        let equal : length (p.talk.told ++ told_in w.tag r) ≡ length p.talk.told = ap (λ (rs : List Response). length rs) (sym behind ∙ same) in
        absurd (omega (arith, longer, equal))

    over_answered : (p q : Peer) → Answering p q → Mine selected told tag command p → p.waiting ≡ Some w →
        q.talk.told ≡ p.talk.told ++ told_in w.tag r → length told ≤ length p.talk.told → Over q
    over_answered p q stays mine waits behind long = absurd (not_longer p q refl behind)
    over_answered p q (others t batch) mine waits behind long = absurd (not_longer p q refl behind)
    over_answered p q (goes_on a is unasked) mine waits behind long = absurd (none-some a (sym (mine w waits).1 ∙ is))
    over_answered p q (refuses a s is unasked refusal) mine waits behind long = absurd (none-some a (sym (mine w waits).1 ∙ is))
    over_answered p q (carries v s t after is out) mine waits behind long =
        let longer = more_told p.talk.told w.tag r in
        let told_then : length q.talk.told ≡ length (p.talk.told ++ told_in w.tag r) = ap (λ (rs : List Response). length rs) behind in
        (refl, (mine w waits).1, omega (arith, long, longer, told_then))

    over_there : (p q : Peer) → Asking told tag command p q → Mine selected told tag command p → p.waiting ≡ Some w →
        q.talk.told ≡ p.talk.told ++ told_in w.tag r → length told ≤ length p.talk.told → Over q
    over_there p q (answers step) mine waits behind long = over_answered p q step mine waits behind long
    over_there p q (arrives before part rest is awaits first) mine waits behind long =
        absurd (none-some w (sym (awaits_quiet tag before p awaits) ∙ waits))

  quiet_behind : (at new : Clock) → Over at.now.outside → Linked (Asking told tag command) at new →
      Since Any (λ m n. m.outside.waiting ≡ None) at new
  quiet_behind at new over linked =
      since_weaker (λ m. Any m × Over m.outside) Any (λ m n. Over m.outside × LinkStep (Asking told tag command) m n)
      (λ m n. m.outside.waiting ≡ None) (λ m p. tt) (λ m n s. s.0.0) at new
      (since_carry Any (λ m. Over m.outside) (LinkStep (Asking told tag command)) (λ m n any s h. over_on m.outside n.outside s.outside h)
      at over new linked)

-- nothing waits up to the end
abbrev pub IsQuiet : Moment → Moment → Type 0
IsQuiet m n = m.outside.waiting ≡ None

-- So nothing waits behind the step at which a command is answered that was begun at rest.
pub answered_quiet : (tag : Tag) (command : Command) (w : Waiting) (r : Replies) (asked : List Response) (old at new : Clock) (to : Moment) →
    old.now.outside.waiting ≡ None → old.now.outside.talk.arriving ≡ None → Linked (Asking old.now.outside.talk.told tag command) old at →
    Asking old.now.outside.talk.told tag command at.now.outside to.outside → at.now.outside.waiting ≡ Some w →
    at.now.outside.talk.told ≡ old.now.outside.talk.told ++ asked → to.outside.talk.told ≡ (old.now.outside.talk.told ++ asked) ++ told_in w.tag r →
    Linked (Asking old.now.outside.talk.told tag command) (tick at to) new → Since Any IsQuiet (tick at to) new
answered_quiet tag command w r asked old at new to none nothing first step waits before behind linked =
    let told = old.now.outside.talk.told in
    let selected = old.now.outside.talk.selected in
    let mine : Mine selected told tag command at.now.outside =
    carried_now Any (λ m. Mine selected told tag command m.outside) (Under selected told tag command) (mine_step selected told tag command) old
    (mine_first selected told tag command old.now.outside none) at (asks_under selected tag command old at none nothing refl first) in
    let same : length at.now.outside.talk.told ≡ length (told ++ asked) = ap (λ (rs : List Response). length rs) before in
    let long : length told ≤ length at.now.outside.talk.told = omega (arith, same, length-append told asked) in
    quiet_behind told tag command (tick at to) new
    (over_there told tag command selected w r at.now.outside to.outside step mine waits
    (behind ∙ ap (λ (rs : List Response). rs ++ told_in w.tag r) (sym before)) long) linked

pub quiet_all : (name : List ℕ) (old new : Clock) → Since Any IsQuiet old new → Since Any (IsNotRead name) old new
quiet_all name old new s =
    since_weaker Any Any IsQuiet (IsNotRead name) (λ m p. p) (λ m n none. quiet_not_read name m n none) old new s

-- As an event is recorded the server with its connection stays.
pub takes_not_read : (name : List ℕ) (b : Meaning) (event : Event) (old new : Clock) → Takes mail (Some b) event old new →
    Since Any (IsNotRead name) old new
takes_not_read name b event old new takes =
    since_weaker (IsTaking mail (Some b) event) Any (GoesOn (HoldsBook mail (Some b)) (HoldsBook mail (Some (after b event)))) (IsNotRead name)
    (λ m p. tt) (λ m n step. still_not_read name m n step.outside) old new takes

-- What was read last stays so while the mailbox isn't read.
pub last_later : (name : List ℕ) (cache : Cache) (old mid new : Clock) → IsLastRead name cache old mid → Since Any (IsNotRead name) mid new →
    IsLastRead name cache old new
last_later name cache old mid new r more =
    record { at = r.at; to = r.to; before = r.before; is = r.is; after = since_then Any (IsNotRead name) (tick r.at r.to) mid new r.after more }

pub last_earlier : (name : List ℕ) (cache : Cache) (old mid new : Clock) → Grows old mid → IsLastRead name cache mid new →
    IsLastRead name cache old new
last_earlier name cache old mid new first r =
    record { at = r.at; to = r.to; before = grows_then old mid r.at first r.before; is = r.is; after = r.after }

pub synced_later : (name : List ℕ) (b : Meaning) (from old new : Clock) → IsSynced name b from old → Since Any (IsNotRead name) old new →
    IsSynced name b from new
synced_later name b from old new s more =
    record { cache = s.cache; there = s.there; level = last_later name s.cache from old new s.level more }
