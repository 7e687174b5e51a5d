-- A `play` in a drill's world in which nothing fails comes to its end, unless memory is wanting or a limit is passed.
use Rattle.std.proofs.Common.{◌≡◌, inl, inr, ⊎_elim, ℕ, List, [], None, refl, sym, ◌∙◌, ap, subst, arith}
use Rattle.std.proofs.Math.Logic.{∥∥₁_elim}
use Rattle.std.proofs.lemmas.Option.{none-some}
use Rattle.mail_base.specs.Account.{Credentials}
use Rattle.mail_base.specs.declared.status.Status.{Status}
use Rattle.mail_base.specs.declared.status.Status.TheVariants as status
use Rattle.world_traits.specs.Calls.{Rose}
use Rattle.world_mem.specs.Worlds.{disk_faults_of, link_faults_of, planned_of}
use Rattle.store_core.specs.Mail.{mail}
use Rattle.play_driver.specs.Faults.{ComesAnyway}
use Rattle.play_driver.specs.Joining.{AllFair, Grows}
use Rattle.play_driver.specs.Played.{played}
use Rattle.play_driver.specs.Serving.{AllServing}
use Rattle.play_driver.specs.declared.fault.PlayFault.{PlayFault}
use Rattle.play_driver.specs.declared.fault.PlayFault.TheVariants as faults
use Rattle.play_driver.proofs.Parts.{grows, grows_start}
use Rattle.mail_top.specs.CompletePlay.{HasEachBox, IsPlayed, IsTheServers}
use Rattle.mail_top.specs.Connecting.{ConnectsAtFirst}
use Rattle.mail_top.specs.Course.{Course}
use Rattle.mail_top.specs.Ending.{EndsPlay}
use Rattle.mail_top.specs.Leaving.{OnTheWay, WordsKeep}
use Rattle.mail_top.specs.Played.{SaysStopped}
use Rattle.mail_top.specs.Telling.{status_of_fault}
use Rattle.mail_top.specs.Words.{AsksNothing, Play, WritesPlay}
use Rattle.mail_top.proofs.Endings.{completes_play, ended_as}
use Rattle.mail_drill.specs.Connected.{IsMade, IsServed, IsUnmade, Untouched}
use Rattle.mail_drill.specs.Held.{CameToItsEnd}
use Rattle.mail_drill.specs.Misfortunes.{nothing_fails}
use Rattle.mail_drill.specs.Ran.{Ran, course_from}
use Rattle.mail_drill.specs.Standing.{clock_of, now_of, seen_of}
use Rattle.mail_drill.specs.declared.quiet_world.QuietWorld.{QuietWorld}
use Rattle.mail_drill.proofs.CalmTimes.{all_serving, not_bare}
use Rattle.mail_drill.proofs.Courses.{alone_in}
use Rattle.mail_drill.proofs.Fair.{fair_alone}
use Rattle.mail_drill.proofs.NothingTold.{untold_comes}

-- what comes anyway isn't the server's
not_servers : (x : PlayFault) → ComesAnyway x → IsTheServers (status_of_fault x) → ⊥
not_servers faults.Memory comes bad = bad
not_servers faults.Disk comes bad = bad
not_servers faults.Link comes bad = bad
not_servers (faults.Refused line) comes bad = comes
not_servers (faults.BadReply why) comes bad = comes
not_servers (faults.Lacking what) comes bad = comes
not_servers (faults.Limit which number) comes bad = bad

-- Where no connection was made, no server is to blame.
module _ (account : Credentials) (k : Course) (untold : k.new.now.outside.talk.told ≡ []) (none : k.link_after.connection ≡ None) where
  stopped_none : (s : Status) (text : List ℕ) → (s ≡ status.Reply → ⊥) → SaysStopped account k s text → IsTheServers s → ⊥
  stopped_none s text faultless says bad =
      let comes = untold_comes k.new.now.outside.talk.told untold account says.opened says.store k.link k.link_after says.fault says.early
      (λ c there. absurd (none-some c (sym none ∙ there)))
      (λ why is. faultless (says.status_is ∙ ap status_of_fault is)) in
      not_servers says.fault comes (subst IsTheServers says.status_is bad)

  pub ends_none : (s : Status) (text : List ℕ) → (s ≡ status.Reply → ⊥) → EndsPlay account k s text → IsTheServers s → ⊥
  ends_none status.Done text faultless says bad = bad
  ends_none status.Conflicts text faultless says bad = bad
  ends_none status.Output text faultless says bad = bad
  ends_none status.Disk text faultless says bad = bad
  ends_none status.Link text faultless says bad = bad
  ends_none status.Refused text faultless says bad = stopped_none status.Refused text faultless says bad
  ends_none status.Reply text faultless says bad = faultless refl
  ends_none status.Lacking text faultless says bad = stopped_none status.Lacking text faultless says bad
  ends_none status.Validity text faultless says bad = says
  ends_none status.Journal text faultless says bad = bad
  ends_none status.Memory text faultless says bad = bad
  ends_none status.Limit text faultless says bad = bad
  ends_none status.Words text faultless says bad = bad
  ends_none status.Reason text faultless says bad = bad
  ends_none status.Input text faultless says bad = bad
  ends_none status.Shelf text faultless says bad = bad

-- a play that is played isn't the server's
played_serves : (s : Status) → IsPlayed s → IsTheServers s → ⊥
played_serves s (inl is) bad = subst IsTheServers is bad
played_serves s (inr (inl is)) bad = subst IsTheServers is bad
played_serves s (inr (inr is)) bad = subst IsTheServers is bad

-- a count that is 0 didn't rise
pub zero_stays : (n m : ℕ) → m ≡ 0 → Rose n m → ⊥
zero_stays n m none rose = let less = rose (omega (arith, none)) in omega (arith, none, less)

-- The top call with these words, in a world with a plan by which nothing fails; and what `run` promises of it.
module _ (account : Credentials) (words : List (List ℕ)) (input : List ℕ) (old new : QuietWorld) (s : Status) (ran : Ran account words input old new s)
    (calm : (planned_of new.world).plan ≡ nothing_fails) where
  grown : Grows (clock_of old) (clock_of new)
  grown = grows (OnTheWay words input (now_of old) (seen_of old)) (WordsKeep words input) (clock_of old) (clock_of new) ran.goes.every

  fair : AllFair mail played (clock_of old) (clock_of new)
  fair = fair_alone (clock_of old) (clock_of new) grown (alone_in new ran.sufficed)

  served_then : (IsServed new.world → ⊥) → ⊥
  served_then never = ∥∥₁_elim new.served (hlevel) (λ known. never (known ran.sufficed))

  -- no call of the disk failed
  pub no_disk_fault : Rose (disk_faults_of old.world) (disk_faults_of new.world) → ⊥
  no_disk_fault rose = served_then (λ is. zero_stays (disk_faults_of old.world) (disk_faults_of new.world) (is.unfailed calm).0 rose)

  -- A `play`, before which none was connected.
  module _ (writes : WritesPlay words) (untouched : Untouched (clock_of old)) (connects : ConnectsAtFirst (clock_of old) (clock_of new)) where
    no_link_fault : Rose (link_faults_of old.world) (link_faults_of new.world) → ⊥
    no_link_fault rose = served_then (λ is.
        ⊎_elim (λ (none : link_faults_of new.world ≡ 0). zero_stays (link_faults_of old.world) (link_faults_of new.world) none rose)
        (not_bare (clock_of old) (clock_of new) connects untouched grown) (is.unfailed calm).1)

    module _ (words_cause : s ≡ status.Words → AsksNothing words)
        (disk_cause : s ≡ status.Disk → Rose (disk_faults_of old.world) (disk_faults_of new.world))
        (link_cause : s ≡ status.Link → Rose (link_faults_of old.world) (link_faults_of new.world)) (no_output : s ≡ status.Output → ⊥)
        (no_limit : s ≡ status.Limit → ⊥) (faultless : AllFair mail played (clock_of old) (clock_of new) → s ≡ status.Reply → ⊥)
        (waits : HasEachBox (seen_of old) (now_of old).outside.server)
        (complete : AllFair mail played (clock_of old) (clock_of new) → AllServing (clock_of old) (clock_of new) →
        (Rose (disk_faults_of old.world) (disk_faults_of new.world) → ⊥) → (Rose (link_faults_of old.world) (link_faults_of new.world) → ⊥) → IsPlayed s)
      where
        -- the server isn't to blame, whether a connection was made or not
        serves : IsTheServers s → ⊥
        serves bad = served_then (λ is.
            ⊎_elim (λ (un : IsUnmade new.world).
            ends_none account (course_from old new) (un.untouched (clock_of new) (grows_start (clock_of new))).untold un.none s ran.text (faultless fair)
            (ended_as account words input (course_from old new) s ran.text Play writes ran.goes.ends words_cause) bad)
            (λ (made : IsMade (clock_of new)).
            played_serves s (complete fair (all_serving (clock_of old) (clock_of new) connects untouched grown made) no_disk_fault no_link_fault) bad)
            is.connection)

        pub calm_ends : (s ≡ status.Memory → ⊥) → CameToItsEnd s
        calm_ends no_memory =
            by_played (completes_play account words input (course_from old new) s ran.text ran.goes.ends words_cause
            (λ is. no_disk_fault (disk_cause is)) no_output writes waits.book waits.holds (λ is. no_link_fault (link_cause is)) no_limit serves)
          where
            by_played : IsPlayed s → CameToItsEnd s
            by_played (inl is) = inl is
            by_played (inr (inl is)) = inr is
            by_played (inr (inr is)) = absurd (no_memory is)
