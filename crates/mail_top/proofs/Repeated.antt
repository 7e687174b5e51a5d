-- Runs one behind another lose nothing that every image held, and leave books that the next run can go on with.
use Rattle.std.proofs.Common.{◌≡◌, ◌⊎◌, inl, inr, ⊎_elim, ℕ, zero, suc, ◌<◌, Bool, true, false, List, [], ◌∷◌, length, Option, Some, None, refl, sym, ◌∙◌}
use Rattle.std.proofs.Common.{ap, map, cond}
use Rattle.std.proofs.Common.{subst, arith}
use Rattle.std.specs.Prelude.{slice_get, bytes_eq}
use Rattle.world_traits.specs.Files.{Stored, MayHold, Files, file_of}
use Rattle.world_traits.specs.Links.{Any}
use Rattle.world_traits.specs.Moments.{Moment, MayLeave, Clock, Images, Occurs, OneSideAtRest, Since, Within, stored, restarted}
use Rattle.world_traits.specs.declared.disk.Side.{Side}
use Rattle.world_traits.specs.declared.disk.Side.TheVariants as sides
use Rattle.world_traits.proofs.Images.{image_clean}
use Rattle.world_traits.proofs.Keeping.{since_now}
use Rattle.world_traits.proofs.Narrowing.{restart_within}
use Rattle.world_traits.proofs.OneSide.{one_restarted}
use Rattle.journal_core.specs.OneSide.{AnyNext}
use Rattle.journal_core.specs.declared.version.Version.{Version}
use Rattle.journal_core.proofs.Choice.{open_head}
use Rattle.mailbox_cache.specs.declared.cache.Cache.{Cache}
use Rattle.action_queue.specs.Book.{Meaning, after, begun, cache_at, learned, put_cache}
use Rattle.action_queue.specs.declared.book.Known.{Known}
use Rattle.action_queue.specs.Events.{next_book}
use Rattle.action_queue.specs.declared.event.Event.{Event}
use Rattle.action_queue.specs.declared.event.Event.TheVariants as events
use Rattle.action_queue.specs.declared.queued.Queued.{Queued}
use Rattle.store_core.specs.Mail.{mail, MayCome}
use Rattle.store_core.specs.Books.{HasBook, HoldsBook}
use Rattle.store_core.specs.HeldActions.{IsHeld}
use Rattle.store_core.specs.Steps.{Books, Firm, Begun, MakesFirm, Chooses, EachBook, chosen}
use Rattle.store_core.specs.Taking.{HasBooks}
use Rattle.store_core.proofs.Folding.{one_held}
use Rattle.store_core.proofs.Holds.{within_keeps_actions}
use Rattle.store_core.proofs.MailBook.{one_mail_event}
use Rattle.store_core.proofs.Opens.{stop_chooses}
use Rattle.play_driver.specs.Progress.{IsPlayEvent}
use Rattle.mail_top.specs.Saying.{SaysAccepted}
use Rattle.mail_top.specs.Actions.{accepts}
use Rattle.mail_top.specs.Course.{Course}
use Rattle.mail_top.specs.Leaving.{MayBeLeft, OnTheWay, LosesNone, StaysOutside, KeepsStep, WordsKeep, IsDue, BeginsDue, RequestStep, WordsStep}
use Rattle.mail_top.specs.Runs.{RunsOn, Follows, at_once, by_run, by_stop, by_others, SameFiles, BeginsWith, AcceptsAt, AreBook, AreUnbegunOrBook}
use Rattle.mail_top.specs.Runs.{HasNames}
use Rattle.mail_top.specs.Runs.{IsReady, AnyBook}
use Rattle.mail_top.specs.Words.{Wanted, Request, Init, Act, Rows, Queue, Report, Play, Asks, WritesPlay}

pub held_self : (m : Moment) → LosesNone m m
held_self m = record { held = λ place action named h. h }

pub held_then : (l m n : Moment) → LosesNone l m → LosesNone m n → LosesNone l n
held_then l m n p q = record { held = λ place action named h. q.held place action named (p.held place action named h) }

-- what is held at a moment is held at each later one
pub held_later : (words : List (List ℕ)) (input : List ℕ) (P : Moment → Type 0) (k l : Clock) → Since P (WordsKeep words input) k l → LosesNone k.now l.now
held_later words input P k l s = since_now P (λ m. LosesNone k.now m) (WordsKeep words input)
    (λ m n p step so_far. held_then k.now m n so_far step.step.loses_none) k (held_self k.now) l s

-- and what isn't on the disk is as it was, unless it is played
pub outside_same : (request : Request) (m n : Moment) → (request ≡ Play → ⊥) → StaysOutside request m n → n.outside ≡ m.outside
outside_same (Init names) m n never same = same
outside_same (Act wanted) m n never same = same
outside_same (Rows name) m n never same = same
outside_same Queue m n never same = same
outside_same Report m n never same = same
outside_same Play m n never same = absurd (never refl)

pub outside_stays : (request : Request) → (request ≡ Play → ⊥) → (P : Moment → Type 0) (k l : Clock) → Since P (KeepsStep request) k l →
    l.now.outside ≡ k.now.outside
outside_stays request never P k l s = since_now P (λ m. m.outside ≡ k.now.outside) (KeepsStep request)
    (λ m n p step so_far. outside_same request m n never step.outside ∙ so_far) k refl l s

pub outside_later : (words : List (List ℕ)) (input : List ℕ) → (WritesPlay words → ⊥) → (P : Moment → Type 0) (k l : Clock) → Since P (WordsKeep words input) k l →
    l.now.outside ≡ k.now.outside
outside_later words input never P k l s = since_now P (λ m. m.outside ≡ k.now.outside) (WordsKeep words input)
    (λ m n p w so_far. outside_same w.request m n (λ is. never (subst (Asks words input) is w.asks)) w.step.outside ∙ so_far) k refl l s

within_held : (m n : Moment) → Within m n → LosesNone m n
within_held m n w = record { held = (within_keeps_actions m n w).held }

-- moments with the same files have the same images
same_leaves : (m n : Moment) → SameFiles m n → (files : Files) → MayLeave n files → MayLeave m files
same_leaves m n same files h = record {
  left = subst (λ (s : Stored). MayHold s files.left) same.left h.left;
  right = subst (λ (s : Stored). MayHold s files.right) same.right h.right;
}

same_back : (m n : Moment) → SameFiles m n → SameFiles n m
same_back m n same = record { left = sym same.left; right = sym same.right }

same_held : (m n : Moment) → SameFiles m n → LosesNone m n
same_held m n same = record { held = λ place action named held. record { each = λ files h. held.each files (same_leaves m n same files h) } }

pub follows_held : (first last : Moment) → Follows first last → LosesNone first last
follows_held first last at_once = held_self first
follows_held first last (by_run words input seen old at new so_far reads cut) =
    held_then first old.now at.now (follows_held first old.now so_far) (held_later words input (OnTheWay words input old.now seen) old at cut.before.keeps)
follows_held first last (by_stop m files so_far leaves) =
    held_then first m (restarted files m) (follows_held first m so_far) (within_held m (restarted files m) (restart_within m files leaves))
follows_held first last (by_others m n so_far same) = held_then first m n (follows_held first m so_far) (same_held m n same)

-- after a stop the files are those that it left, and no others
restart_reads : (m : Moment) (files seen : Files) → MayLeave (restarted files m) seen → seen ≡ files
restart_reads m files seen h =
    ap (λ (b : List ℕ). record seen { left = b }) (image_clean files.left seen.left h.left)
    ∙ ap (λ (b : List ℕ). record files { right = b }) (image_clean files.right seen.right h.right)

pub restart_begins : (m : Moment) (files : Files) → MayLeave m files → BeginsWith files m (restarted files m)
restart_begins m files h = record { reads = λ seen k. restart_reads m files seen k; within = restart_within m files h }

-- what stands at a place is in front of the end
in_front : (qs : List Queued) (i : ℕ) (q : Queued) → slice_get qs i ≡ Some q → i < length qs
in_front [] i q e = absurd cc
in_front (x ∷ xs) zero q e = omega arith
in_front (x ∷ xs) (suc i) q e = let lt = in_front xs i q e in omega (arith, lt)

module _ (wanted : Wanted) (k : Course) (text : List ℕ) (is : SaysAccepted wanted k text) (last : Moment) (follows : Follows k.new.now last) where
  pub accepted_stays : IsHeld (length is.book.queue) is.action None last
  accepted_stays = (follows_held k.new.now last follows).held (length is.book.queue) is.action None is.held

  pub accepted_before : (later : AcceptsAt last) → length is.book.queue < length later.is.book.queue
  accepted_before later =
      let there = accepted_stays.each later.course.seen later.reads in
      let same = one_held mail one_mail_event later.course.seen there.book later.is.book there.holds later.is.holds in
      let front = in_front there.book.queue (length is.book.queue) there.has.queued there.has.there in
      omega (arith, front, ap (λ (b : Meaning). length b.queue) same)

book_as : (b : Meaning) (files : Files) → HasBook mail b files → AreBook files
book_as b files h = record { book = b; holds = h }

-- each moment of a run on files without a journal or with a book
module _ (words : List (List ℕ)) (input : List ℕ) (seen : Files) (entry : Moment) (was : Images AreUnbegunOrBook entry) where
  within_ready : (m : Moment) → Within entry m → Images AreUnbegunOrBook m
  within_ready m w = record { each = λ files h. was.each files (w.each files h) }

  left_ready : (request : Request) (m : Moment) → MayBeLeft request entry seen m → Images AreUnbegunOrBook m
  left_ready (Init names) m (inl w) = within_ready m w
  left_ready (Init names) m (inr images) = record {
    each = λ files h. ⊎_elim (λ none. inl none) (λ (b : HasBook mail (begun names) files). inr (book_as (begun names) files b)) (images.each files h);
  }
  left_ready (Act wanted) m (inl (inl w)) = within_ready m w
  left_ready (Act wanted) m (inl (inr left)) = record {
    each = λ files h. inr (book_as left.book files (left.leaves.each.each files h));
  }
  left_ready (Act wanted) m (inr a) = record {
    each = λ files h. ⊎_elim (λ (b : HasBook mail a.book files). inr (book_as a.book files b))
        (λ (b : HasBook mail (after a.book (accepts a.book a.action)) files). inr (book_as (after a.book (accepts a.book a.action)) files b))
        (a.taking.each files h);
  }
  left_ready (Rows name) m w = within_ready m w
  left_ready Queue m w = within_ready m w
  left_ready Report m w = within_ready m w
  left_ready Play m (inl w) = within_ready m w
  left_ready Play m (inr p) = record {
    each = λ files h. let held = p.playing.each files h in inr (book_as held.book files held.holds);
  }

  way_ready : (m : Moment) → OnTheWay words input entry seen m → Images AreUnbegunOrBook m
  way_ready m way = left_ready way.request m way.leaves

pub follows_ready : (first last : Moment) → Images AreUnbegunOrBook first → Follows first last → Images AreUnbegunOrBook last
follows_ready first last was at_once = was
follows_ready first last was (by_run words input seen old at new so_far reads cut) =
    let here = follows_ready first old.now was so_far in
    since_now (OnTheWay words input old.now seen) (Images AreUnbegunOrBook) (WordsKeep words input)
    (λ m n way step so. way_ready words input seen old.now here n way) old here at
    cut.before.keeps
follows_ready first last was (by_stop m files so_far leaves) =
    let at = follows_ready first m was so_far in
    let within = restart_within m files leaves in
    record { each = λ f h. at.each f (within.each f h) }
follows_ready first last was (by_others m n so_far same) =
    let at = follows_ready first m was so_far in record { each = λ files h. at.each files (same_leaves m n same files h) }

-- files hold one book, or none
none_held : (files : Files) (b : Meaning) → HoldsBook mail None files → HasBook mail b files → ⊥
none_held files b none h = none h.holds.side (open_head h.version h.holds.generation (file_of h.holds.side files) h.holds.present.set_up)

same_held_book : (b c : Option Meaning) (files : Files) → HoldsBook mail b files → HoldsBook mail c files → b ≡ c
same_held_book None None files p q = refl
same_held_book None (Some c) files p q = absurd (none_held files c p q)
same_held_book (Some b) None files p q = absurd (none_held files b q p)
same_held_book (Some b) (Some c) files p q = ap Some (one_held mail one_mail_event files b c p q)

-- What holds of each book that a stop may leave, and is handed on by each event that may be begun.
module _ (P : Option Meaning → Type 0)
    (grows : (request : Request) (v : Version) (b : Option Meaning) (e : Event) → MayCome v b e → IsDue request b e → P b → P (Some (next_book b e))) where
  -- each image holds such a book
  pub record Held (files : Files) : Type 0 where
    pub book : Option Meaning
    pub holds : HoldsBook mail book files
    pub has : P book

  pub images_of : (x : Books mail) (m : Moment) → HasBooks mail x m → EachBook mail P x → Images Held m
  images_of (Firm b) m have each = record { each = λ files h. record { book = b; holds = have.each.each files h; has = each } }
  images_of (Begun b c) m have each = record {
    each = λ files h. ⊎_elim (λ (p : HoldsBook mail b files). record { book = b; holds = p; has = each.0 })
        (λ (q : HoldsBook mail c files). record { book = c; holds = q; has = each.1 }) (have.each.each files h);
  }

  of_occurring : (b : Option Meaning) (m : Moment) → Images Held m → Occurs (HoldsBook mail b) m → P b
  of_occurring b m images o =
      let h = images.each o.files o.leaves in subst P (same_held_book h.book b o.files h.holds o.has) h.has

  pub each_of : (x : Books mail) (m : Moment) → HasBooks mail x m → Images Held m → EachBook mail P x
  each_of (Firm b) m have images = of_occurring b m images have.some
  each_of (Begun b c) m have images = (of_occurring b m images have.before, of_occurring c m images have.after)

  chosen_has : (first : Bool) (b c : Option Meaning) → P b → P c → P (chosen first b c)
  chosen_has true b c p q = p
  chosen_has false b c p q = q

  begins_has : (request : Request) (x y : Books mail) → BeginsDue request x y → EachBook mail P x → EachBook mail P y
  begins_has request x y d each =
      let b = d.begins in
      let here : P b.book = subst (EachBook mail P) b.firm each in
      subst (EachBook mail P) (sym b.becomes) (here, grows request d.version b.book d.event b.may d.due here)

  firm_has : (x y : Books mail) → MakesFirm mail x y → EachBook mail P x → EachBook mail P y
  firm_has x y f each = subst (EachBook mail P) (sym f.becomes) (subst (EachBook mail P) f.begun each).1

  chooses_has : (first : Bool) (x y : Books mail) → Chooses mail first x y → EachBook mail P x → EachBook mail P y
  chooses_has first x y c each =
      let both = subst (EachBook mail P) c.begun each in
      subst (EachBook mail P) (sym c.becomes) (chosen_has first c.before c.later both.0 both.1)

  pub step_has : (request : Request) (m n : Moment) (s : RequestStep request m n) → EachBook mail P s.old → EachBook mail P s.new
  step_has request m n s each = by_step s.step
    where
      by_step : (s.new ≡ s.old) ⊎ BeginsDue request s.old s.new ⊎ MakesFirm mail s.old s.new ⊎ ((first : Bool) × Chooses mail first s.old s.new) →
          EachBook mail P s.new
      by_step (inl same) = subst (EachBook mail P) (sym same) each
      by_step (inr (inl d)) = begins_has request s.old s.new d each
      by_step (inr (inr (inl f))) = firm_has s.old s.new f each
      by_step (inr (inr (inr c))) = chooses_has c.0 s.old s.new c.1 each

  -- the books of a moment, each with P
  record Stand (m : Moment) : Type 0 where
    books : Books mail
    have : HasBooks mail books m
    each : EachBook mail P books

  known_on : (words : List (List ℕ)) (input : List ℕ) (m n : Moment) → WordsStep words input m n → Stand m → Stand n
  known_on words input m n w known =
      let s = w.step in
      let old = each_of s.old m s.at_old (images_of known.books m known.have known.each) in
      record { books = s.new; have = s.at_new; each = step_has w.request m n s old }

  ready_run : (words : List (List ℕ)) (input : List ℕ) (seen : Files) (old at : Clock) → RunsOn words input seen old.now old at → IsReady P old.now →
      IsReady P at.now
  ready_run words input seen old at run ready =
      let one = since_now OneSideAtRest OneSideAtRest AnyNext (λ m n p s q. p) old ready.one_side at (run.one_side ready.one_side) in
      let known = since_now Any Stand (WordsStep words input) (λ m n p s q. known_on words input m n s q) old
      (record { books = ready.books; have = ready.have; each = ready.each }) at (run.books ready.one_side ready.books ready.have) in
      record { one_side = one; books = known.books; have = known.have; each = known.each }

  ready_stop : (m : Moment) (files : Files) → MayLeave m files → IsReady P m → IsReady P (restarted files m)
  ready_stop m files leaves ready =
      let s = stop_chooses mail ready.books m files ready.have leaves in
      let old = each_of s.old m s.at_old (images_of ready.books m ready.have ready.each) in
      record {
        one_side = one_restarted files m;
        books = s.new;
        have = s.at_new;
        each = ⊎_elim (λ (same : s.new ≡ s.old). subst (EachBook mail P) (sym same) old)
            (λ (c : (first : Bool) × Chooses mail first s.old s.new). chooses_has c.0 s.old s.new c.1 old) s.step;
      }

  same_stored : (side : Side) (m n : Moment) → SameFiles m n → stored side n ≡ stored side m
  same_stored sides.Left m n same = same.left
  same_stored sides.Right m n same = same.right

  same_occurs : (Q : Files → Type 0) (m n : Moment) → SameFiles m n → Occurs Q m → Occurs Q n
  same_occurs Q m n same o = record { files = o.files; leaves = same_leaves n m (same_back m n same) o.files o.leaves; has = o.has }

  same_images : (Q : Files → Type 0) (m n : Moment) → SameFiles m n → Images Q m → Images Q n
  same_images Q m n same i = record { each = λ files h. i.each files (same_leaves m n same files h) }

  same_have : (x : Books mail) (m n : Moment) → SameFiles m n → HasBooks mail x m → HasBooks mail x n
  same_have (Firm b) m n same have = record {
    each = same_images (HoldsBook mail b) m n same have.each;
    some = same_occurs (HoldsBook mail b) m n same have.some;
  }
  same_have (Begun b c) m n same have = record {
    each = same_images (λ files. HoldsBook mail b files ⊎ HoldsBook mail c files) m n same have.each;
    before = same_occurs (HoldsBook mail b) m n same have.before;
    after = same_occurs (HoldsBook mail c) m n same have.after;
  }

  ready_others : (m n : Moment) → SameFiles m n → IsReady P m → IsReady P n
  ready_others m n same ready = record {
    one_side = record { side = ready.one_side.side; rests = ap (λ (s : Stored). s.written) (same_stored ready.one_side.side m n same) ∙ ready.one_side.rests };
    books = ready.books;
    have = same_have ready.books m n same ready.have;
    each = ready.each;
  }

  stays_ready : (first last : Moment) → IsReady P first → Follows first last → IsReady P last
  stays_ready first last was at_once = was
  stays_ready first last was (by_run words input seen old at new so_far reads cut) =
      ready_run words input seen old at cut.before (stays_ready first old.now was so_far)
  stays_ready first last was (by_stop m files so_far leaves) = ready_stop m files leaves (stays_ready first m was so_far)
  stays_ready first last was (by_others m n so_far same) = ready_others m n same (stays_ready first m was so_far)

pub follows_any : (first last : Moment) → IsReady AnyBook first → Follows first last → IsReady AnyBook last
follows_any first last was follows = stays_ready AnyBook (λ request v b e may due p. tt) first last was follows

-- another cache leaves the names
abbrev names_of : List Known → List (List ℕ)
names_of boxes = map (λ (known : Known). known.name) boxes

put_at : (k : Known) (cache : Option Cache) (ks later : List Known) (t : Bool) → names_of later ≡ names_of ks →
    names_of (cond t (record k { cache = cache } ∷ ks) (k ∷ later)) ≡ k.name ∷ names_of ks
put_at k cache ks later true same = refl
put_at k cache ks later false same = ap (λ (ns : List (List ℕ)). k.name ∷ ns) same

put_names : (name : List ℕ) (cache : Option Cache) (ks : List Known) → names_of (put_cache name cache ks) ≡ names_of ks
put_names name cache [] = refl
put_names name cache (k ∷ ks) = put_at k cache ks (put_cache name cache ks) (bytes_eq k.name name) (put_names name cache ks)

-- nor does an event of playback change them
play_names : (names : List (List ℕ)) (b : Meaning) (e : Event) → IsPlayEvent e → HasNames names (Some b) → HasNames names (Some (after b e))
play_names names b (events.Begin others) of_play has = absurd of_play
play_names names b (events.Accept id action) of_play has = absurd of_play
play_names names b (events.Intend id intent) of_play has = has
play_names names b (events.Settle id outcome) of_play has = has
play_names names b (events.Learn name delta) of_play has = put_names name (Some (learned (cache_at name b.boxes) delta)) b.boxes ∙ has
play_names names b (events.Old id action outcome) of_play has = absurd of_play
play_names names b (events.Reset name kept told) of_play has = put_names name None b.boxes ∙ has
play_names names b (events.Withdraw id tries) of_play has = has

-- an event that may be begun behind a book leaves its mailboxes
names_stay : (names : List (List ℕ)) (request : Request) (b : Option Meaning) (e : Event) → IsDue request b e → HasNames names b →
    HasNames names (Some (next_book b e))
names_stay names request None e due has = absurd has
names_stay names (Init others) (Some b) e due has = absurd (let is = due.0 in cc)
names_stay names (Act wanted) (Some b) e due has = subst (λ (x : Event). HasNames names (Some (after b x))) (sym due.2) has
names_stay names (Rows name) (Some b) e due has = absurd due
names_stay names Queue (Some b) e due has = absurd due
names_stay names Report (Some b) e due has = absurd due
names_stay names Play (Some b) e due has = play_names names b e due has

pub follows_names : (names : List (List ℕ)) (first last : Moment) → IsReady (HasNames names) first → Follows first last → IsReady (HasNames names) last
follows_names names first last was follows =
    stays_ready (HasNames names) (λ request v b e may due p. names_stay names request b e due p) first last was follows
