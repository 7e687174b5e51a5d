-- A look is a run of `queue`.
use Rattle.std.proofs.Common.{List, ℕ, [], ◌∷◌, refl}
use Rattle.std.specs.Prelude.{codes}
use Rattle.world_traits.specs.Files.{Files}
use Rattle.world_traits.specs.Links.{Any}
use Rattle.world_traits.specs.Moments.{Clock, OneSideAtRest, Within}
use Rattle.journal_core.specs.OneSide.{AnyNext}
use Rattle.store_core.specs.Mail.{mail}
use Rattle.play_driver.specs.Joining.{AllFair, Grows}
use Rattle.play_driver.specs.Played.{played}
use Rattle.play_driver.proofs.Parts.{since_first, since_second}
use Rattle.mail_top.specs.FairRuns.{FairRun}
use Rattle.mail_top.specs.Leaving.{KeepsOn, MayBeLeft, OnTheWay, WordsKeep, WordsStep}
use Rattle.mail_top.specs.Runs.{CutOff}
use Rattle.mail_top.specs.Showing.{OnlyReads}
use Rattle.mail_top.specs.Words.{Queue, WritesQueue}
use Rattle.mail_top.proofs.Moving.{chooses_steps, keeps_steps, words_go, words_keep}
use Rattle.mail_top.proofs.PlaySteps.{opening_joined}

abbrev queue : List (List ℕ)
queue = codes "queue" ∷ []

asks : WritesQueue queue
asks = record { are = refl }

module _ (seen : Files) (old new : Clock) (r : OnlyReads old new) where
  keeps : KeepsOn queue [] old.now seen old new
  keeps = words_keep queue [] Queue asks old.now seen old new
      (keeps_steps Queue (Within old.now) (MayBeLeft Queue old.now seen) (λ m w. w) old new r.keeps)

pub looks_cut : (seen : Files) (old at new : Clock) → OnlyReads old new → Grows old at → Grows at new → CutOff queue [] seen old at new
looks_cut seen old at new r before after = record {
  before = record {
    keeps = since_first (OnTheWay queue [] old.now seen) (WordsKeep queue []) old at new before after (keeps seen old new r);
    one_side = λ one. since_first OneSideAtRest AnyNext old at new before after (r.each_one_side one);
    books = λ one books have. since_first Any (WordsStep queue []) old at new before after
        (words_go queue [] Queue asks old new (chooses_steps Queue old new (r.books one books have)));
  };
  after = record {
    keeps = since_second (OnTheWay queue [] old.now seen) (WordsKeep queue []) old at new before after (keeps seen old new r);
    one_side = λ one. since_second OneSideAtRest AnyNext old at new before after (r.each_one_side one);
    books = λ one books have. since_second Any (WordsStep queue []) old at new before after
        (words_go queue [] Queue asks old new (chooses_steps Queue old new (r.books one books have)));
  };
}

-- and where others are fair up to there, one of the runs at a server that others change fairly
pub looks_fair : (seen : Files) (old at new : Clock) → OnlyReads old new → Grows old at → Grows at new → AllFair mail played old at →
    FairRun queue [] seen old at new
looks_fair seen old at new r before after fair = record {
  cut = looks_cut seen old at new r before after;
  joined = λ one books have kept. opening_joined old new kept (r.books one books have);
  fair = fair;
}
