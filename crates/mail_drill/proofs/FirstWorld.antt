-- What a drill's world holds behind the two commands before those of its task.
use Rattle.std.proofs.Common.{◌≡◌, ◌≢◌, ℕ, List, [], Some, slice_index, refl, ◌∙◌, ap, arith}
use Rattle.std.specs.Prelude.{codes}
use Rattle.imap_model.specs.Lookups.{box_at}
use Rattle.imap_model.specs.Talking.{Peer}
use Rattle.mail_base.specs.Account.{Credentials}
use Rattle.mail_base.specs.declared.status.Status.{Status}
use Rattle.mail_base.specs.declared.status.Status.TheVariants as status
use Rattle.action_queue.specs.Book.{Meaning, begun}
use Rattle.mail_top.specs.Words.{WritesInit, WritesPlay}
use Rattle.mail_drill.specs.Beginning.{IsNew}
use Rattle.mail_drill.specs.Came.{Runs}
use Rattle.mail_drill.specs.Held.{Gives, init_words, play_words}
use Rattle.mail_drill.specs.Held.Gives.{sets_up}
use Rattle.mail_drill.specs.Mailboxes.{both_names}
use Rattle.mail_drill.specs.Ran.{Ran}
use Rattle.mail_drill.specs.Standing.{HasOne, Knows, now_of}
use Rattle.mail_drill.specs.declared.quiet_world.QuietWorld.{QuietWorld}
use Rattle.mail_drill.proofs.BoxNames.{archive_text, inbox_text}
use Rattle.mail_drill.proofs.FirstBook.{fresh_books, fresh_side, set_up_one, set_up_outside}
use Rattle.mail_drill.proofs.FirstBoxes.{inbox_at_first, inbox_there, uids_at_first}
use Rattle.mail_drill.proofs.FirstPlay.{book_then, then_empty, then_knows, then_one}
use Rattle.mail_drill.proofs.Mailboxes.{fits_at_first}

apart : codes "Archive" ≢ codes "INBOX"
apart same = omega (arith, ap (λ (w : List ℕ). slice_index w 0) same)

-- the first command's words ask for them
pub writes_init : WritesInit init_words both_names
writes_init = record {
  texts = both_names;
  are = refl;
  named = record {
    each = (inbox_text, (archive_text, tt));
    names = record { some = omega arith; few = omega arith; distinct = ((apart, tt), (tt, tt)) };
  };
  kept = refl;
}

pub writes_play : WritesPlay play_words
writes_play = record { are = refl }

-- a command that was carried out is a run of the program
pub ran_runs : (account : Credentials) (words : List (List ℕ)) (input : List ℕ) (old new : QuietWorld) (s : Status) →
    (ran : Ran account words input old new s) → Runs words input old.world new.world s ran.text
ran_runs account words input old new s ran = record { account = account; goes = ran.goes }

-- a new world, in which the first command was done
module _ (account : Credentials) (size : ℕ) (old mid : QuietWorld) (fresh : IsNew size old.world) (first : Ran account init_words [] old mid status.Done)
  where
    pub begun_one : HasOne (begun both_names) mid
    begun_one = set_up_one account init_words [] both_names writes_init old mid first (fresh_side size old fresh) (fresh_books size old fresh) fresh.kept
        (fits_at_first size (now_of old).outside.server fresh.boxes)

    still_there : box_at (codes "INBOX") (now_of mid).outside.server.boxes ≡ Some (inbox_at_first size)
    still_there =
        ap (λ (p : Peer). box_at (codes "INBOX") p.server.boxes) (set_up_outside account init_words [] both_names writes_init old mid first)
        ∙ inbox_there size (now_of old).outside.server.boxes fresh.boxes

    -- the server has told nothing yet
    pub still_untold : (now_of mid).outside.talk.told ≡ []
    still_untold =
        ap (λ (p : Peer). p.talk.told) (set_up_outside account init_words [] both_names writes_init old mid first) ∙ fresh.untold

    -- and the second one
    module _ (new : QuietWorld) (second : Ran account play_words [] mid new status.Done) where
      -- It holds a book without an action, which knows both mailboxes.
      pub set_up_through : (b : Meaning) × HasOne b new × Knows size b × (b.queue ≡ [])
      set_up_through = (
        book_then account play_words [] writes_play mid new second (begun both_names) begun_one,
        then_one account play_words [] writes_play mid new second (begun both_names) begun_one,
        then_knows account play_words [] writes_play mid new second (begun both_names) begun_one refl size refl (inbox_at_first size) still_there refl
            (uids_at_first size),
        then_empty account play_words [] writes_play mid new second (begun both_names) begun_one refl,
      )

      -- So its drill begins.
      pub set_up_gives : (seed : ℕ) → Gives size seed 1 seed new.world
      set_up_gives seed =
          sets_up fresh (ran_runs account init_words [] old mid status.Done first) (ran_runs account play_words [] mid new status.Done second)
