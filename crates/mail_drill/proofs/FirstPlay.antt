-- What a drill's world holds behind its second command, which fetches the mailboxes.
use Rattle.std.proofs.Common.{◌≡◌, inl, inr, ℕ, true, List, [], ◌∷◌, Option, Some, None, is_some, refl, sym, ◌∙◌, ap, subst}
use Rattle.std.specs.Prelude.{◌&&◌, codes, nat_le}
use Rattle.std.specs.Option.{option_map}
use Rattle.std.proofs.lemmas.Option.{same_Some}
use Rattle.imap_model.specs.Lookups.{box_at, message_at}
use Rattle.imap_model.specs.declared.server.Mailbox.{Mailbox}
use Rattle.imap_model.specs.declared.server.Server.{Server}
use Rattle.mailbox_cache.specs.Rows.{row_at}
use Rattle.qresync_core.specs.Fresh.{kept_row}
use Rattle.world_traits.specs.Files.{Files}
use Rattle.world_traits.specs.Links.{Any}
use Rattle.world_traits.specs.Moments.{Moment, Clock, Since, tick}
use Rattle.world_traits.proofs.Passing.{since_start, since_tick, since_weaker}
use Rattle.mail_base.specs.Account.{Credentials}
use Rattle.mail_base.specs.declared.status.Status.TheVariants as status
use Rattle.action_queue.specs.Book.{Meaning}
use Rattle.store_core.specs.Books.{HasBook}
use Rattle.store_core.specs.Mail.{mail}
use Rattle.store_core.specs.Steps.{Firm}
use Rattle.store_core.specs.Taking.{HasBooks}
use Rattle.store_core.proofs.Folding.{one_held}
use Rattle.store_core.proofs.MailBook.{one_mail_event}
use Rattle.play_driver.specs.Joining.{AnyTwo, Grows, Joined}
use Rattle.play_driver.specs.Played.{played}
use Rattle.play_driver.specs.Progress.{IsLater, IsPlaying, box_names, has_name}
use Rattle.play_driver.specs.Settled.{AreSyncedBehind}
use Rattle.play_driver.specs.Synced.{IsNotRead, IsSynced}
use Rattle.play_driver.proofs.Parts.{grows, grows_then}
use Rattle.play_driver.proofs.Progressing.{later_start}
use Rattle.mail_top.specs.KeptNow.{IsKeptNow}
use Rattle.mail_top.specs.Leaving.{MayBeLeft, OnTheWay, WordsKeep}
use Rattle.mail_top.specs.Played.{SaysPlayed}
use Rattle.mail_top.specs.Words.{Request, Play, WritesPlay}
use Rattle.mail_top.proofs.Endings.{ended_as}
use Rattle.mail_top.proofs.Wording.{one_request}
use Rattle.mail_drill.specs.Ran.{Ran, course_from}
use Rattle.mail_drill.specs.Standing.{HasOne, Knows, clock_of, now_of, seen_of}
use Rattle.mail_drill.specs.declared.quiet_world.QuietWorld.{QuietWorld}
use Rattle.mail_drill.proofs.Courses.{alone_in, kept_behind}
use Rattle.mail_drill.proofs.Mailboxes.{fits_behind}
use Rattle.mail_drill.proofs.Untouched.{own_since, server_stays, still_empty}

-- while the book that is read is played, each image holds it or one further on
module _ (b : Meaning) (entry : Moment) (leaves : HasBooks mail (Firm (Some b)) entry) (seen : Files) (holds : HasBook mail b seen) where
  left_playing : (m : Moment) → MayBeLeft Play entry seen m → IsPlaying b m
  left_playing m (inl within) =
      record { each = λ files left. record { book = b; holds = leaves.each.each files (within.each files left); later = later_start b } }
  left_playing m (inr p) = subst (λ (c : Meaning). IsPlaying c m) (one_held mail one_mail_event seen p.book b p.holds holds) p.playing

  way_playing : (words : List (List ℕ)) (input : List ℕ) → WritesPlay words → (m : Moment) → OnTheWay words input entry seen m → IsPlaying b m
  way_playing words input writes m w =
      left_playing m (subst (λ (r : Request). MayBeLeft r entry seen m) (one_request words input w.request Play w.asks writes) w.leaves)

map_some : {A B : Type 0} (f : A → B) (o : Option A) → is_some (option_map f o) ≡ is_some o
map_some f None = refl
map_some f (Some x) = refl

-- a book's play to its end, where nothing is against it
module _ (account : Credentials) (words : List (List ℕ)) (input : List ℕ) (writes : WritesPlay words) (old new : QuietWorld)
    (ran : Ran account words input old new status.Done) (b : Meaning) (one : HasOne b old) where
  pub play_said : SaysPlayed account (course_from old new) status.Done ran.text
  play_said = ended_as account words input (course_from old new) status.Done ran.text Play writes ran.goes.ends (λ is. absurd cc)

  -- the book behind it
  abbrev pub book_then : Meaning
  book_then = play_said.store.book

  pub then_later : IsLater b book_then
  then_later = subst (λ (c : Meaning). IsLater c play_said.store.book)
      (one_held mail one_mail_event (seen_of old) play_said.opened.book b play_said.read.holds one.reads) play_said.later

  pub then_one : HasOne book_then new
  then_one = record {
    one_side = ran.one_side one.one_side;
    leaves = play_said.leaves;
    reads = play_said.holds;
    kept = kept_behind account words input old new status.Done ran one.one_side (Firm (Some b)) one.leaves one.kept;
    fits = fits_behind account words input old new status.Done ran one.one_side (Firm (Some b)) one.leaves one.kept one.fits;
    sufficed = ran.sufficed;
  }

  playing_since : Since (IsPlaying b) AnyTwo (clock_of old) (clock_of new)
  playing_since = since_weaker (OnTheWay words input (now_of old) (seen_of old)) (IsPlaying b) (WordsKeep words input) AnyTwo
      (way_playing b (now_of old) one.leaves (seen_of old) one.reads words input writes) (λ m n step. tt) (clock_of old) (clock_of new)
      ran.goes.every

  joined_since : Since IsKeptNow (Joined mail played) (clock_of old) (clock_of new)
  joined_since = ran.joined one.one_side (Firm (Some b)) one.leaves one.kept

  -- the server is as it was at each clock on the way
  module _ (empty : b.queue ≡ []) where
    same_server : (at : Clock) → Grows (clock_of old) at → Grows at (clock_of new) → at.now.outside.server ≡ (now_of old).outside.server
    same_server at before after =
        let time = grows IsKeptNow (Joined mail played) (clock_of old) (clock_of new) joined_since in
        server_stays b empty (clock_of old) (clock_of new) joined_since playing_since
        (own_since (clock_of old) (clock_of new) time (alone_in new ran.sufficed)) at before after

    pub then_empty : book_then.queue ≡ []
    then_empty = still_empty b book_then then_later empty

    -- so is each mailbox of which the book has a cache
    module _ (name : List ℕ) (c : Meaning) (from : Clock) (later : Grows (clock_of old) from) (s : IsSynced name c from (clock_of new)) where
      read_in_time : Grows (clock_of old) s.level.at
      read_in_time = grows_then (clock_of old) from s.level.at later s.level.before

      read_before_end : Grows s.level.at (clock_of new)
      read_before_end =
          let one_more : Grows s.level.at (tick s.level.at s.level.to) =
          since_tick Any AnyTwo s.level.at s.level.at (tick s.level.at s.level.to) s.level.to (since_start Any AnyTwo s.level.at) refl tt tt in
          grows_then s.level.at (tick s.level.at s.level.to) (clock_of new) one_more
          (grows Any (IsNotRead name) (tick s.level.at s.level.to) (clock_of new) s.level.after)

      box_stays : box_at name (now_of old).outside.server.boxes ≡ Some s.level.is.level.box
      box_stays = ap (λ (x : Server). box_at name x.boxes) (sym (same_server s.level.at read_in_time read_before_end)) ∙ s.level.is.level.there

      module _ (box : Mailbox) (there : box_at name (now_of old).outside.server.boxes ≡ Some box) where
        same_box : s.level.is.level.box ≡ box
        same_box = same_Some s.level.is.level.box box (sym box_stays ∙ there)

        pub cache_validity : s.cache.validity ≡ box.validity
        cache_validity = s.level.is.level.validity ∙ ap (λ (x : Mailbox). x.validity) same_box

        pub cache_uids : (uid : ℕ) → is_some (row_at uid s.cache.rows) ≡ is_some (message_at uid box.messages)
        cache_uids uid = ap is_some (s.level.is.level.rows uid) ∙ map_some kept_row (message_at uid s.level.is.level.box.messages)
            ∙ ap (λ (x : Mailbox). is_some (message_at uid x.messages)) same_box

    -- It knows both mailboxes, where the book at entry has their names and the server has them.
    pub then_knows : (size : ℕ) → box_names b ≡ codes "INBOX" ∷ codes "Archive" ∷ [] → (box : Mailbox) →
        box_at (codes "INBOX") (now_of old).outside.server.boxes ≡ Some box → box.validity ≡ 5 →
        ((uid : ℕ) → is_some (message_at uid box.messages) ≡ (nat_le 1 uid && nat_le uid size)) → Knows size book_then
    then_knows size names box there validity uids =
        let synced = ran.synced writes tt one.kept in
        let same = one_held mail one_mail_event (seen_of new) synced.book book_then synced.holds play_said.holds in
        let behind : AreSyncedBehind (clock_of old) (clock_of new) book_then =
        subst (λ (c : Meaning). AreSyncedBehind (clock_of old) (clock_of new) c) same synced.behind in
        let named : box_names book_then ≡ codes "INBOX" ∷ codes "Archive" ∷ [] = then_later.names ∙ names in
        let has : has_name (codes "INBOX") (box_names book_then) ≡ true =
        subst (λ (ns : List (List ℕ)). has_name (codes "INBOX") ns ≡ true) (sym named) refl in
        let s : IsSynced (codes "INBOX") book_then behind.from (clock_of new) = behind.each (codes "INBOX") has in
        record {
          names = named;
          inbox = s.cache;
          has_inbox = s.there;
          validity = cache_validity (codes "INBOX") book_then behind.from behind.later s box there ∙ validity;
          uids = λ uid. cache_uids (codes "INBOX") book_then behind.from behind.later s box there uid ∙ uids uid;
        }
