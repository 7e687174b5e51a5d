-- What was put is what the server had.
use Rattle.std.proofs.Common.{ℕ, ◌+◌, List, Some, None, refl}
use Rattle.action_queue.specs.Book.{Meaning}
use Rattle.imap_session.specs.Dialogue.{next_tag}
use Rattle.imap_session.specs.Enquiring.{Enquiring}
use Rattle.book_laws.specs.Kept.{Kept}
use Rattle.store_core.proofs.MailBook.{one_mail_event}
use Rattle.store_core.specs.Mail.{mail}
use Rattle.store_core.specs.Steps.{Books, Firm}
use Rattle.store_core.specs.Taking.{HasBooks}
use Rattle.world_traits.proofs.Narrowing.{within_keeps}
use Rattle.world_traits.proofs.Passing.{since_then}
use Rattle.world_traits.proofs.Traces.{carried_now}
use Rattle.world_traits.specs.Links.{Any, LinkStep, Linked}
use Rattle.world_traits.specs.Moments.{Clock, Within}
use Rattle.world_traits.specs.declared.clocked.Clocked.{Ghosts}
use Rattle.play_driver.proofs.Answering.{answered_at, answered_through}
use Rattle.play_driver.proofs.Calls.{enquires_stays, kept_last}
use Rattle.play_driver.proofs.Links.{books_there}
use Rattle.play_driver.proofs.Parts.{grows, grows_start, grows_then, since_first, since_second}
use Rattle.play_driver.proofs.PlayedKept.{withstood}
use Rattle.play_driver.specs.Joining.{AllFair, Grows, IsFair, Relates}
use Rattle.play_driver.specs.KnownAt.{StandsKept}
use Rattle.play_driver.specs.Played.{played}
use Rattle.mail_top.specs.BesideServer.{Fairly}
use Rattle.mail_top.specs.KeptNow.{IsKeptNow, StaysKept}
use Rattle.store_core.specs.HeldActions.{KeepsActions}
use Rattle.mail_top.specs.Showing.{OnlyReads}
use Rattle.body_cache.proofs.TextHad.{ToldThen, fetching, had_text, selecting_it, told_then}
use Rattle.body_cache.specs.Ending.{Shelving}
use Rattle.body_cache.specs.Fetched.{PutsHad, PutsTold}
use Rattle.body_cache.specs.Fetching.{FetchesAt}
use Rattle.body_cache.specs.HasText.{HadText}
use Rattle.body_cache.specs.TextFound.{text_found}
use Rattle.body_cache.specs.declared.key.Key.{Key}

-- an opening keeps what is kept
opened_kept : (old opened : Clock) → OnlyReads old opened → IsKeptNow old.now → IsKeptNow opened.now
opened_kept old opened opens kept =
    carried_now (Within old.now) IsKeptNow KeepsActions (λ m n within step here. within_keeps (Relates mail Kept) old.now n kept within) old kept opened
    opens.keeps

opens_grows : (old opened : Clock) → OnlyReads old opened → Grows old opened
opens_grows old opened opens = grows (Within old.now) KeepsActions old opened opens.keeps

-- questions keep the books
books_asked : (x : Books mail) (k l : Clock) → HasBooks mail x k.now → Linked Enquiring k l → HasBooks mail x l.now
books_asked x k l has linked =
    carried_now Any (HasBooks mail x) (LinkStep Enquiring) (λ m n any s here. books_there Enquiring m n s mail x here) k has l linked

asked_kept : (x : Books mail) (k l : Clock) → HasBooks mail x k.now → IsKeptNow k.now → Linked Enquiring k l → StaysKept k l
asked_kept x k l has kept linked = enquires_stays mail one_mail_event Kept played withstood x k l has kept linked

-- What was fetched behind an opening, beside a book that each stop leaves.
module _ (key : Key) (text : List ℕ) (old opened new : Clock) (opens : OnlyReads old opened) (book : Meaning)
    (leaves : HasBooks mail (Firm (Some book)) opened.now) (told : FetchesAt key text opened new) where
  selecting : Linked Enquiring told.entered told.selected
  selecting =
      answered_through None (next_tag told.count) (selecting_it key.name told.selects.replies) told.entered told.selected
      (answered_at None (next_tag told.count) (selecting_it key.name told.selects.replies) told.entered told.selected refl told.selects.answered)

  fetched : Linked Enquiring told.selected told.told
  fetched =
      answered_through (Some key.name) (next_tag (told.count + 1)) (fetching key.uid told.tells.replies) told.selected told.told
      (answered_at (Some key.name) (next_tag (told.count + 1)) (fetching key.uid told.tells.replies) told.selected told.told refl told.tells.answered)

  till_told : Linked Enquiring opened told.told
  till_told =
      since_then Any (LinkStep Enquiring) opened told.entered told.told told.enters
      (since_then Any (LinkStep Enquiring) told.entered told.selected told.told selecting fetched)

  all : Linked Enquiring opened new
  all = since_then Any (LinkStep Enquiring) opened told.told new till_told told.leaves

  -- the book is left at the end too
  pub left_still : HasBooks mail (Firm (Some book)) new.now
  left_still = books_asked (Firm (Some book)) opened new leaves all

  from_start : Grows old told.entered
  from_start = grows_then old opened told.entered (opens_grows old opened opens) (grows Any (LinkStep Enquiring) opened told.entered told.enters)

  to_end : Grows told.told new
  to_end = grows Any (LinkStep Enquiring) told.told new told.leaves

  within : Grows told.entered told.told
  within = grows Any (LinkStep Enquiring) told.entered told.told (since_then Any (LinkStep Enquiring) told.entered told.selected told.told selecting fetched)

  module _ (kept : IsKeptNow old.now) (fair : AllFair mail played old new) where
    fair_entered : AllFair mail played opened told.entered
    fair_entered =
        let so_far = since_first Any (IsFair mail played) old told.entered new from_start (grows_then told.entered told.told new within to_end) fair in
        since_second Any (IsFair mail played) old opened told.entered (opens_grows old opened opens)
        (grows Any (LinkStep Enquiring) opened told.entered told.enters) so_far

    fair_within : AllFair mail played told.entered told.told
    fair_within =
        since_first Any (IsFair mail played) told.entered told.told new within to_end
        (since_second Any (IsFair mail played) old told.entered new from_start (grows_then told.entered told.told new within to_end) fair)

    kept_entered : IsKeptNow told.entered.now
    kept_entered =
        let here = opened_kept old opened opens kept in
        let there = grows Any (LinkStep Enquiring) opened told.entered told.enters in
        kept_last mail Kept played opened told.entered here
        (asked_kept (Firm (Some book)) opened told.entered leaves here told.enters told.entered there (grows_start told.entered) fair_entered)

    stands : StandsKept book told.entered
    stands = record {
      books = books_asked (Firm (Some book)) opened told.entered leaves told.enters;
      kept = kept_entered;
      none_waits = told.none_waits;
      none_arrives = told.none_arrives;
    }

    told_so : ToldThen key (text_found key.uid told.tells.replies.untagged) told.entered told.told
    told_so =
        told_then book key None (next_tag told.count) (next_tag (told.count + 1)) told.selects.replies told.tells.replies told.selects.codes told.entered
        told.selected told.told stands fair_within told.selects.answered told.selects.told told.selects.same told.tells.answered

    had : HadText key text told.entered told.told
    had = had_text key told.entered told.told (text_found key.uid told.tells.replies.untagged) text told_so told.tells.found

    pub had_so : HadText key text old new
    had_so = record {
      at = had.at;
      before = grows_then old told.entered had.at from_start had.before;
      after = grows_then had.at told.told new had.after to_end;
      has = had.has;
    }

-- So it is with what was put.
pub puts_had : {Self : Type 0} (W : Ghosts Self) (old new : Self) (name : List ℕ) (uid : ℕ) (v : Shelving) → Fairly W old new →
    PutsTold name uid (W.clock old) (W.clock new) v → PutsHad name uid (W.clock old) (W.clock new) v
puts_had W old new name uid v f p = record {
  book = p.book;
  leaves = left_still p.key p.text (W.clock old) p.opened (W.clock new) p.opens p.book p.leaves p.told;
  key = p.key;
  is = p.is;
  text = p.text;
  had = had_so p.key p.text (W.clock old) p.opened (W.clock new) p.opens p.book p.leaves p.told f.kept f.fair;
  put = p.put;
}
