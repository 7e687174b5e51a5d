-- While a book without an action is played, and nobody else changes anything, nothing changes at the server.
use Rattle.std.proofs.Common.{◌≡◌, inl, inr, ℕ, true, List, [], ◌∷◌, ◌++◌, map, slice_get, Option, Some, refl, sym, ◌∙◌, ap, subst}
use Rattle.std.proofs.lemmas.Bool.{and_parts, true≢false}
use Rattle.mail_base.specs.declared.tag.Tag.{Tag}
use Rattle.imap_model.specs.Carrying.{Waiting, Accepted, Carries}
use Rattle.imap_model.specs.Changes.{Changes, Batch, deed_of}
use Rattle.imap_model.specs.Changes.Batch.{none, more}
use Rattle.imap_model.specs.declared.command.Command.{Command}
use Rattle.imap_model.specs.declared.command.Command.TheVariants as commands
use Rattle.imap_model.specs.declared.deed.Author.{Author}
use Rattle.imap_model.specs.declared.deed.Author.TheVariants.{Other, Ours}
use Rattle.imap_model.specs.declared.deed.Change.{Change}
use Rattle.imap_model.specs.declared.deed.Change.TheVariants as changes
use Rattle.imap_model.specs.declared.deed.Deed.{Deed}
use Rattle.imap_model.specs.declared.server.Mailbox.{Mailbox}
use Rattle.imap_model.specs.declared.server.Server.{Server}
use Rattle.imap_model.proofs.Effect.{carried_effect}
use Rattle.world_traits.specs.Files.{Files}
use Rattle.world_traits.specs.Moments.{Moment, MayLeave, Clock, Since, Chain, grow}
use Rattle.world_traits.proofs.Keeping.{since_now}
use Rattle.world_traits.proofs.Traces.{since_both}
use Rattle.action_queue.specs.Book.{Meaning}
use Rattle.action_queue.specs.declared.queued.Queued.{Queued}
use Rattle.book_laws.specs.Kept.{Kept, KeptBook}
use Rattle.book_laws.specs.Once.{AllOwned, IsOwned}
use Rattle.store_core.specs.Mail.{mail}
use Rattle.store_core.specs.Steps.{Books, Firm, Begun}
use Rattle.store_core.specs.Taking.{HasBooks}
use Rattle.store_core.proofs.MailBook.{one_mail_event}
use Rattle.play_driver.specs.Joining.{AnyTwo, Grows, Joined}
use Rattle.play_driver.specs.Machine.{Step}
use Rattle.play_driver.specs.Machine.Step.{rests, begins, firm, chooses, sends, asks, carries_out, foreign, connects}
use Rattle.play_driver.specs.Played.{played}
use Rattle.play_driver.specs.Progress.{IsLater, IsPlaying}
use Rattle.play_driver.specs.States.{State, state_of}
use Rattle.play_driver.proofs.Kept.{same_held}
use Rattle.play_driver.proofs.Parts.{since_first}
use Rattle.mail_top.specs.KeptNow.{IsKeptNow}
use Rattle.mail_drill.specs.Alone.{is_own, are_own, is_own_at, is_alone}

-- a history to which something was put isn't empty
no_end : (h : List Deed) (d : Deed) → h ++ d ∷ [] ≡ [] → ⊥
no_end [] d is = absurd cc
no_end (x ∷ xs) d is = absurd cc

-- a change shows in the history
change_shows : (base : List Mailbox) (author : Author) (name : List ℕ) (change : Change) (s t : Server) → Changes base author name change s t →
    t.history ≡ [] → ⊥
change_shows base author name change s t c empty = no_end s.history (deed_of author name change t.boxes) (sym c.history ∙ empty)

-- so changes by others that leave no history are none
batch_shows : (base : List Mailbox) (s t : Server) → Batch base s t → t.history ≡ [] → t ≡ s
batch_shows base s t none empty = refl
batch_shows base s t (more {m = mid} name change c b) empty =
    absurd (change_shows base Other name change s mid c (subst (λ (x : Server). x.history ≡ []) (batch_shows base mid t b empty) empty))

-- and so is what a command does
module _ (selected : Option (List ℕ)) (tag : Tag) (s t : Server) (empty : t.history ≡ []) where
  accepted_shows : (command : Command) → Accepted selected tag command s t → t ≡ s
  accepted_shows commands.Capability same = same
  accepted_shows (commands.Login account) same = same
  accepted_shows (commands.Plain account) same = same
  accepted_shows (commands.Enable rev2) same = same
  accepted_shows (commands.Select name since) same = same
  accepted_shows commands.FetchAll same = same
  accepted_shows (commands.FetchRow uid) same = same
  accepted_shows (commands.Search from id) same = same
  accepted_shows (commands.FetchIds uids) same = same
  accepted_shows (commands.FetchText uid) same = same
  accepted_shows (commands.Store uid since add flags) (inl e) =
      absurd (change_shows s.boxes (Ours tag) e.found.name (changes.SetFlags uid e.flags) s t e.becomes empty)
  accepted_shows (commands.Store uid since add flags) (inr e) = e.stays
  accepted_shows (commands.Shift uid to) (inl e) =
      absurd (change_shows s.boxes (Ours tag) e.found.name (changes.Shift uid to e.received) s t e.becomes empty)
  accepted_shows (commands.Shift uid to) (inr e) = e.stays
  accepted_shows (commands.Copy uid to) (inl e) =
      absurd (change_shows s.boxes (Ours tag) to (changes.Add e.found.message.flags e.found.message.text e.received) s t e.becomes empty)
  accepted_shows (commands.Copy uid to) (inr e) = e.stays
  accepted_shows (commands.Expunge uid) (inl e) =
      absurd (change_shows s.boxes (Ours tag) e.is.found.name (changes.Drop uid) s t e.becomes empty)
  accepted_shows (commands.Expunge uid) (inr e) = e.stays
  accepted_shows (commands.Append to flags text) e = absurd (change_shows s.boxes (Ours tag) to (changes.Add flags text e.uid) s t e.becomes empty)
  accepted_shows commands.Logout same = same

carried_shows : (w : Waiting) (s t : Server) → Carries w s t → t.history ≡ [] → t ≡ s
carried_shows w s t (inl same) empty = same
carried_shows w s t (inr e) empty = accepted_shows w.selected w.tag s t empty w.command e

-- a step that leaves no history leaves the server
step_shows : (x y : State mail) → Step mail played x y → y.server.history ≡ [] → y.server ≡ x.server
step_shows x y rests empty = refl
step_shows x y (begins version b e is may permits) empty = refl
step_shows x y (firm b c is) empty = refl
step_shows x y (chooses first b c is) empty = refl
step_shows x y (sends b w is quiet may) empty = refl
step_shows x y (asks w quiet question) empty = refl
step_shows x y (carries_out w r t after waits out) empty = carried_shows w x.server t (carried_effect w x.server r t after out) empty
step_shows x y (foreign p t server waiting batch spares) empty = batch_shows x.server.boxes x.server t batch empty
step_shows x y connects empty = refl

pub joined_shows : (m n : Moment) → Joined mail played m n → n.outside.server.history ≡ [] → n.outside.server ≡ m.outside.server
joined_shows m n j empty = step_shows (state_of mail j.old m.outside) (state_of mail j.new n.outside) j.step empty

none_there : (i : ℕ) (q : Queued) → slice_get [] i ≡ Some q → ⊥
none_there i q there = absurd cc

not_owned : (d : Deed) (author : Author) → IsOwned [] d author → is_own author ≡ true → ⊥
not_owned d Other owned own = true≢false (sym own)
not_owned d (Ours tag) owned own = none_there owned.place owned.queued owned.there

-- a history without a change by others, in which an empty queue owns all, is empty
none_owned : (h : List Deed) → AllOwned [] h → are_own h ≡ true → h ≡ []
none_owned [] owned own = refl
none_owned (d ∷ ds) owned own = absurd (not_owned d d.author owned.0 (and_parts (is_own d.author) (are_own ds) own).0)

no_action : (queue : List Queued) → map (λ (q : Queued). q.action) queue ≡ [] → queue ≡ []
no_action [] is = refl
no_action (q ∷ qs) is = absurd cc

-- a book further on than one without an action has none
pub still_empty : (b c : Meaning) → IsLater b c → b.queue ≡ [] → c.queue ≡ []
still_empty b c later empty =
    let acts : map (λ (q : Queued). q.action) b.queue ≡ [] = ap (λ (queue : List Queued). map (λ (q : Queued). q.action) queue) empty in
    no_action c.queue (later.actions ∙ acts)

-- an image of a moment whose books are known
image_there : (x : Books mail) (m : Moment) → HasBooks mail x m → (files : Files) × MayLeave m files
image_there (Firm b) m have = (have.some.files, have.some.leaves)
image_there (Begun b c) m have = (have.before.files, have.before.leaves)

-- At a kept moment of a time in which a book without an action is played, the server's history is empty, if nobody else changed
-- anything.
nothing_changed : (b : Meaning) (m : Moment) → b.queue ≡ [] → IsPlaying b m → IsKeptNow m → (x : Books mail) → HasBooks mail x m →
    is_own_at m ≡ true → m.outside.server.history ≡ []
nothing_changed b m empty playing kept x have own =
    let image = image_there x m have in
    let held = kept.each image.0 image.1 in
    let here = playing.each image.0 image.1 in
    let same = same_held mail one_mail_event held.book (Some here.book) image.0 held.holds here.holds in
    let book : KeptBook here.book m.outside.server m.outside.waiting =
    subst (λ (o : Option Meaning). Kept o m.outside.server m.outside.waiting) same held.related in
    none_owned m.outside.server.history
    (subst (λ (queue : List Queued). AllOwned queue m.outside.server.history) (still_empty b here.book here.later empty) book.once.owned) own

own_chain : (c : Clock) (added : List Moment) → is_alone (grow c added) ≡ true → Chain (λ m. is_own_at m ≡ true) AnyTwo c added
own_chain c [] alone = tt
own_chain c (m ∷ ms) alone =
    let both = and_parts (is_own_at m) (is_alone (grow c ms)) alone in
    (both.0, tt, own_chain c ms both.1)

-- nobody else changed anything up to each moment of a time at whose end nobody did
pub own_since : (old new : Clock) → Grows old new → is_alone new ≡ true → Since (λ m. is_own_at m ≡ true) AnyTwo old new
own_since old new time alone = record {
  added = time.added;
  grown = time.grown;
  each = own_chain old time.added (subst (λ (c : Clock). is_alone c ≡ true) time.grown alone);
}

module _ (b : Meaning) (empty : b.queue ≡ []) (old new : Clock) (joined : Since IsKeptNow (Joined mail played) old new)
    (playing : Since (IsPlaying b) AnyTwo old new) (own : Since (λ m. is_own_at m ≡ true) AnyTwo old new) where
  abbrev Known : Moment → Type 0
  Known m = IsKeptNow m × IsPlaying b m

  abbrev KnownOwn : Moment → Type 0
  KnownOwn m = Known m × (is_own_at m ≡ true)

  abbrev Goes : Moment → Moment → Type 0
  Goes m n = Joined mail played m n × AnyTwo m n

  abbrev GoesOwn : Moment → Moment → Type 0
  GoesOwn m n = Goes m n × AnyTwo m n

  all_known : Since KnownOwn GoesOwn old new
  all_known = since_both Known (λ m. is_own_at m ≡ true) Goes AnyTwo old new
      (since_both IsKeptNow (IsPlaying b) (Joined mail played) AnyTwo old new joined playing) own

  -- so the server is the same at each clock on the way
  pub server_stays : (at : Clock) → Grows old at → Grows at new → at.now.outside.server ≡ old.now.outside.server
  server_stays at before after = since_now KnownOwn (λ m. m.outside.server ≡ old.now.outside.server) GoesOwn
      (λ m n here step so_far.
      joined_shows m n step.0.0 (nothing_changed b n empty here.0.1 here.0.0 step.0.0.new step.0.0.at_new here.1) ∙ so_far)
      old refl at (since_first KnownOwn GoesOwn old at new before after all_known)
