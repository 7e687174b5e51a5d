-- A call's answer, at one moment of a longer time.
use Rattle.std.proofs.Common.{◌≡◌, ℕ, List, Option, Some, sym, subst}
use Rattle.mail_base.specs.declared.tag.Tag.{Tag}
use Rattle.literal_feed.specs.Stream.{Stream}
use Rattle.imap_model.specs.declared.command.Command.{Command}
use Rattle.imap_model.specs.declared.ending.Ending.TheVariants as endings
use Rattle.imap_model.specs.declared.replies.Replies.{Replies}
use Rattle.world_traits.specs.Asking.{Asking}
use Rattle.world_traits.specs.LinkState.{Connection}
use Rattle.world_traits.specs.Links.{AnyStep, Any, Linked, LinkStep}
use Rattle.world_traits.specs.Moments.{Moment, Clock, tick}
use Rattle.world_traits.proofs.Passing.{since_start, since_then, since_weaker}
use Rattle.imap_session.specs.Session.{Answered, Stands, waiting_of}
use Rattle.mail_tests.specs.InOrder.{Answers}

pub still : (k : Clock) → Linked AnyStep k k
still k = since_start Any (LinkStep AnyStep) k

pub later : (k l m : Clock) → Linked AnyStep k l → Linked AnyStep l m → Linked AnyStep k m
later k l m first second = since_then Any (LinkStep AnyStep) k l m first second

module _ (selected : Option (List ℕ)) (tag : Tag) (command : Command) (r : Replies) (start old k end_of : Clock) (c : Option Connection)
    (feed : Stream) where
  abbrev S : Clock → Moment → Moment → Type 0
  S at = LinkStep (Asking at.now.outside.talk.told tag command)

  any_step : (m n : Moment) → S old m n → LinkStep AnyStep m n
  any_step m n step = record { left = step.left; right = step.right; outside = tt }

  any_since : (a b : Clock) → Linked (Asking old.now.outside.talk.told tag command) a b → Linked AnyStep a b
  any_since a b since = since_weaker Any Any (S old) (LinkStep AnyStep) (λ m any. any) any_step a b since

  pub answers_so : Linked AnyStep start old → Answered (waiting_of selected tag command) r old k c feed → r.ending ≡ endings.Ok
      → Linked AnyStep k end_of → Answers selected command r start end_of
  answers_so first a ok last = record {
    tag = tag;
    after = a.after;
    did = record {
      at = a.became.at;
      to = a.became.to;
      before = later start old a.became.at first (any_since old a.became.at a.became.before);
      has = tt;
      step = any_step a.became.at.now a.became.to a.became.step;
      after = later (tick a.became.at a.became.to) k end_of (any_since (tick a.became.at a.became.to) k a.became.after) last;
      is = a.became.is.is;
    };
    accepted = ok;
  }

-- the mailbox is the one that was named
pub stands_by : (name named : List ℕ) (k : Clock) (c : Option Connection) (feed : Stream) → named ≡ name → Stands (Some name) k c feed
    → Stands (Some named) k c feed
stands_by name named k c feed same stands = subst (λ (n : List ℕ). Stands (Some n) k c feed) (sym same) stands
