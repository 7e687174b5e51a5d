-- What holds where the first run begins with new files.
use Rattle.std.proofs.Common.{◌≡◌, ℕ, ◌≤◌, [], length, None, refl, sym, subst, arith}
use Rattle.imap_model.specs.Ours.{ours}
use Rattle.journal_core.specs.Creating.{IsUnbegun}
use Rattle.world_traits.specs.Files.{Files, MayHold, Stored, clean}
use Rattle.world_traits.specs.Moments.{Moment, MayLeave}
use Rattle.world_traits.specs.declared.disk.Side.TheVariants.{Left, Right}
use Rattle.world_traits.proofs.Images.{image_self}
use Rattle.world_traits.proofs.Resting.{resting}
use Rattle.store_core.specs.Steps.{Firm}
use Rattle.mail_top.specs.FairRuns.{FollowsFairly}
use Rattle.mail_top.specs.FromNothing.{FromNothing, empty}
use Rattle.mail_top.specs.Headline.{IsOwnedNow}
use Rattle.mail_top.specs.KeptNow.{IsKeptNow}
use Rattle.mail_top.specs.Runs.{IsReady, AnyBook}
use Rattle.mail_top.proofs.Headlines.{kept_owned}
use Rattle.mail_top.proofs.KeptRuns.{fair_follows, follows_few, follows_kept}
use Rattle.mail_top.proofs.Repeated.{follows_any}

-- no side of them is begun
none_begun : IsUnbegun empty
none_begun Left begun = absurd (omega (arith, begun.long))
none_begun Right begun = absurd (omega (arith, begun.long))

-- a new file may be left without a byte
leaves_none : (file : Stored) → file ≡ clean [] → MayHold file []
leaves_none file is = subst (λ (s : Stored). MayHold s []) (sym is) (image_self (clean []) (omega arith))

module _ (first : Moment) (new : FromNothing first) where
  unbegun : (files : Files) → MayLeave first files → IsUnbegun files
  unbegun files leaves = subst IsUnbegun (sym (resting first empty files new.files leaves)) none_begun

  pub kept_first : IsKeptNow first
  kept_first = record { each = λ files leaves. record { book = None; holds = unbegun files leaves; related = new.server } }

  pub ready_first : IsReady AnyBook first
  ready_first = record {
    one_side = record { side = Left; rests = subst (λ (s : Stored). s.written ≡ []) (sym new.files.left) refl };
    books = Firm None;
    have = record {
      each = record { each = unbegun };
      some = record {
        files = empty;
        leaves = record { left = leaves_none first.left new.files.left; right = leaves_none first.right new.files.right };
        has = none_begun;
      };
    };
    each = tt;
  }

  module _ (last : Moment) (follows : FollowsFairly first last) where
    pub kept_from_nothing : IsKeptNow last
    kept_from_nothing = follows_kept first last ready_first kept_first follows

    pub ready_from_nothing : IsReady AnyBook last
    ready_from_nothing = follows_any first last ready_first (fair_follows first last follows)

    pub once_from_nothing : (n : ℕ) → length (ours n last.outside.server.history) ≤ 1
    once_from_nothing = follows_few first last ready_first kept_first follows

    pub owned_from_nothing : IsOwnedNow last
    owned_from_nothing = kept_owned last kept_from_nothing
