-- What the player knows where a question or a command that it needs is asked and answered.
use Rattle.action_queue.specs.Book.{Meaning}
use Rattle.imap_model.specs.CarriedOut.{CarriesOut}
use Rattle.imap_model.specs.Carrying.{Waiting}
use Rattle.imap_model.specs.Mutating.{is_mutating}
use Rattle.imap_model.specs.declared.command.Command.{Command}
use Rattle.imap_model.specs.declared.mark.Mark.{Mark}
use Rattle.imap_model.specs.declared.replies.Replies.{Replies}
use Rattle.imap_model.specs.declared.server.Server.{Server}
use Rattle.imap_session.specs.Session.{Answered, KeepsSelection}
use Rattle.imap_session.specs.declared.permits.Permits.{Permits}
use Rattle.literal_feed.specs.Stream.{Stream}
use Rattle.play_driver.proofs.KnownAnswer.{AnsweredFollows, follows_answered, follows_first, tells_then}
use Rattle.play_driver.proofs.KnownBeside.{world_of}
use Rattle.play_driver.proofs.KnownPermits.{permitted_on}
use Rattle.play_driver.specs.Joining.{AllFair}
use Rattle.play_driver.specs.KnownAt.{HeardAt, KnownAt, StandsKept}
use Rattle.play_driver.specs.Played.{played}
use Rattle.play_driver.specs.SentOnce.{MayAsk}
use Rattle.playback.proofs.Onward.{carried_knows, says_know}
use Rattle.playback.specs.Course.{Course}
use Rattle.book_laws.specs.Kept.{KeptBook}
use Rattle.playback.specs.Knows.{IsNeeded, Knows}
use Rattle.playback.specs.Needs.{need_of}
use Rattle.playback.specs.Worlds.{World, answered_course, name_of, says, selected_after}
use Rattle.playback.specs.declared.finding.Selected.{Selected}
use Rattle.playback.specs.declared.player.Player.{Player}
use Rattle.std.proofs.Common.{List, None, Option, Some, ap, false, refl, sym, ℕ, ◌∙◌, ◌∷◌, ◌≡◌, ◌≢◌}
use Rattle.store_core.specs.Mail.{mail}
use Rattle.world_traits.specs.LinkState.{Connection}
use Rattle.world_traits.specs.Moments.{Clock}
use Rattle.imap_model.specs.declared.command.Command.TheVariants as commands
use Rattle.imap_model.specs.declared.ending.Ending.TheVariants as endings

-- a command that isn't SELECT leaves what is selected
pub keeps_selection : (command : Command) → ((name : List ℕ) (since : Option Mark) → command ≢ commands.Select name since) →
    KeepsSelection command
keeps_selection commands.Capability isnt = tt
keeps_selection (commands.Login account) isnt = tt
keeps_selection (commands.Plain account) isnt = tt
keeps_selection (commands.Enable rev2) isnt = tt
keeps_selection (commands.Select name since) isnt = absurd (isnt name since refl)
keeps_selection commands.FetchAll isnt = tt
keeps_selection (commands.FetchRow uid) isnt = tt
keeps_selection (commands.Search from id) isnt = tt
keeps_selection (commands.FetchIds uids) isnt = tt
keeps_selection (commands.FetchText uid) isnt = tt
keeps_selection (commands.Store uid since add flags) isnt = tt
keeps_selection (commands.Shift uid to) isnt = tt
keeps_selection (commands.Copy uid to) isnt = tt
keeps_selection (commands.Expunge uid) isnt = tt
keeps_selection (commands.Append to flags text) isnt = tt
keeps_selection commands.Logout isnt = tt

pub selected_still : (command : Command) (r : Replies) (selected : Option Selected) → KeepsSelection command →
    selected_after command r selected ≡ selected
selected_still commands.Capability r selected keeps = refl
selected_still (commands.Login account) r selected keeps = refl
selected_still (commands.Plain account) r selected keeps = refl
selected_still (commands.Enable rev2) r selected keeps = refl
selected_still (commands.Select name since) r selected keeps = absurd keeps
selected_still commands.FetchAll r selected keeps = refl
selected_still (commands.FetchRow uid) r selected keeps = refl
selected_still (commands.Search from id) r selected keeps = refl
selected_still (commands.FetchIds uids) r selected keeps = refl
selected_still (commands.FetchText uid) r selected keeps = refl
selected_still (commands.Store uid since add flags) r selected keeps = refl
selected_still (commands.Shift uid to) r selected keeps = refl
selected_still (commands.Copy uid to) r selected keeps = refl
selected_still (commands.Expunge uid) r selected keeps = refl
selected_still (commands.Append to flags text) r selected keeps = refl
selected_still commands.Logout r selected keeps = refl

-- it arrives, and is carried out
pub says_carried : (p : Player) (b : Meaning) (w : Waiting) (r : Replies) (selected : Option Selected) (course : Course) (t : Server)
    (after : Option (List ℕ)) → IsNeeded (need_of p b) w p.selected b → CarriesOut w course.now r t after → KeptBook b course.now None →
    KeptBook b course.now (Some w) → KeptBook b t None → Knows p b (world_of course selected None) →
    Knows p b (world_of (answered_course w r t course) (selected_after w.command r selected) (Some w))
says_carried p b w r selected course t after needed out kept waits later k =
    let v : World = world_of course selected None in
    carried_knows p b (says w v) w r t after refl out waits later (says_know p b v w kept refl needed k)

module _ (p : Player) (b : Meaning) (w : Waiting) (r : Replies) (permits : Option Permits) (made old new : Clock) (c : Option Connection)
    (feed : Stream) (stands : StandsKept b old) (known : KnownAt made old permits None p b) (at_selected : w.selected ≡ old.now.outside.talk.selected)
    (needed : IsNeeded (need_of p b) w p.selected b)
    (no_select : (name : List ℕ) (since : Option Mark) → w.command ≢ commands.Select name since)
    (may : MayAsk mail played b old.now.outside.server w) (fair : AllFair mail played old new) (answered : Answered w r old new c feed)
    (accepted : is_mutating w.command ≡ false → r.ending ≡ endings.Ok) where
  abbrev Selects : Option Selected
  Selects = known.world.selected

  keeps : KeepsSelection w.command
  keeps = keeps_selection w.command no_select

  selects : name_of (selected_after w.command r Selects) ≡ answered.after
  selects =
      ap name_of (selected_still w.command r Selects keeps) ∙ known.tells.selects ∙ sym at_selected ∙ sym (answered.keeps keeps)

  there : AnsweredFollows w r p b made (selected_after w.command r Selects) (Some w) known.world.course.said new
  there =
      follows_answered p b made old new w r Selects None known.world.course.said c feed answered fair stands.none_waits may
      (follows_first p b permits made old stands known) (at_selected ∙ sym known.tells.selects) selects (Some w)
      (λ course t after is_said out kept waits later k. says_carried p b w r Selects course t after needed out kept waits later k)

  abbrev World_then : World
  World_then = world_of there.follows.course (selected_after w.command r Selects) (Some w)

  pub known_asked : HeardAt r made new permits p b
  known_asked = record {
    world = World_then;
    tells = tells_then p b made new (selected_after w.command r Selects) (Some w)
        (there.said ∷ known.world.course.said) answered.after c feed
        answered.stands selects there.follows;
    permitted = permitted_on permits known.world World_then (ap name_of (selected_still w.command r Selects keeps)) there.said there.follows.is_said
        known.permitted;
    reply = record {
      said = there.said;
      rest = known.world.course.said;
      last = there.follows.is_said;
      is = there.reply;
      command = w;
      asks = there.command;
      owed = refl;
      answered = refl;
      no_select = no_select;
      accepted = accepted;
    };
    kept = there.follows.kept;
    knows = there.follows.knows;
  }
