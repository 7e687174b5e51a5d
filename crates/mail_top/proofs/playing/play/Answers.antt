use Rattle.std.proofs.Common.{refl, ◌∙◌, ap, subst, rules}
use Rattle.world_traits.specs.Calls.{Rose}
use Rattle.world_traits.specs.LinkState.{LinkState}
use Rattle.journal_core.proofs.AtRest.{each_then}
use Rattle.store_core.proofs.Choosing.{only_left}
use Rattle.mail_top.specs.TruePlay.PlaysTruly.{unready, recorded}
use Rattle.mail_top.specs.Words.{Play}
use Rattle.mail_top.proofs.AnyServers.{none_sent, play_whole, then_sends}
use Rattle.mail_top.proofs.Besides.{same_count}
use Rattle.mail_top.proofs.Connections.{none_once, readies_alone, readies_then, then_once}
use Rattle.mail_top.proofs.Headlines.{kept_last, play_once, still_once}
use Rattle.mail_top.proofs.PlaySteps.{ready_keeps, opening_joined, play_steps, play_keeps, playing_now, playing_start, play_joined, play_fair}
use Rattle.mail_top.proofs.PlaySteps.{play_synced, surely_played, surely_unopened, only_readies, readies_book, truly_stopped, one_last}
use Rattle.mail_top.proofs.Moving.{chooses_steps}
use Rattle.mail_top.proofs.PlayServed.{boxes_behind, opening_serves, played_serves, run_serves, same_peer, serving_behind}
use Rattle.mail_top.proofs.Openings.{never_err, opened_book, rose_later}
use Rattle.mail_top.proofs.Sayings.{unready_play, unready_reads, played_play, played_disk, played_input, played_link, stopped_play}
use Rattle.mail_top.proofs.Sayings.{no_place_told, opening_disk, opening_failed, opening_input, opening_link, opening_reply, run_disk, run_failed, run_honest, run_input}
use Rattle.mail_top.proofs.Sayings.{run_link, run_lost, run_reply, played_reply, stopped_early}
use Rattle.mail_top.proofs.playing.play.Goals as goal

pub returns-in_err-store-clause-ends : goal.returns-in_err-store-clause-ends
returns-in_err-store-clause-ends g c tells =
    unready_play _ _ _ _ _ c.in_err-store.was c.from_residual.ensures.1 c.made_ready.ensures.blames.link
    (same_peer _ _ _ (c.made_ready.ensures.moments tells).keeps) (c.made_ready.ensures.unready tells _ c.in_err-store.was)

pub returns-in_err-store-clause-goes : goal.returns-in_err-store-clause-goes
returns-in_err-store-clause-goes g c tells = record {
  keeps = ready_keeps _ _ _ _ (c.made_ready.ensures.moments tells).keeps;
  books = λ one books have. chooses_steps Play _ _ ((c.made_ready.ensures.moments tells).chooses one books have);
}

pub returns-in_err-store-clause-sides : goal.returns-in_err-store-clause-sides
returns-in_err-store-clause-sides g c tells = record { one_side = (c.made_ready.ensures.moments tells).one_side; each_one_side = (c.made_ready.ensures.moments tells).each_one_side }

pub returns-in_err-store-clause-server : goal.returns-in_err-store-clause-server
returns-in_err-store-clause-server g c = record {
  joined = λ e. opening_joined _ _ e.kept ((c.made_ready.ensures.moments (g.W.Clocked.server_with_files e.tells)).chooses e.one_side e.books e.have);
  twice = λ tells kept. still_once _ _ _ kept (only_readies _ _ _ (c.made_ready.ensures.moments (g.W.Clocked.server_with_files tells)).keeps);
  kept = λ play f. (c.made_ready.ensures.moments (g.W.Clocked.server_with_files f.tells)).kept f.kept;
  truly = λ play f. unready (only_readies _ _ _ (c.made_ready.ensures.moments (g.W.Clocked.server_with_files f.tells)).keeps);
  surely = λ play other f.
      surely_unopened _ _
      (unready_reads _ _ _ c.in_err-store.was (c.made_ready.ensures.unready (g.W.Clocked.server_with_files f.tells) _ c.in_err-store.was)
      (λ is. other (opening_failed _ _ _ c.in_err-store.was c.from_residual.ensures.1 is)));
  synced = λ play came f. absurd (stopped_early _ _ c.from_residual.ensures.1 came);
  serves = λ play f serving none bad. opening_serves _ _ c.from_residual.ensures.1 bad;
  faultless = λ f is. opening_reply _ _ _ c.in_err-store.was c.from_residual.ensures.1 is;
  honest = λ tells is. absurd (opening_reply _ _ _ c.in_err-store.was c.from_residual.ensures.1 is);
  connects = record {
    at_first = λ tells. readies_alone _ _ _ (c.made_ready.ensures.moments (g.W.Clocked.server_with_files tells)).keeps;
    once = λ tells. none_once _ _ c.made_ready.ensures.blames.link;
  };
  any_server = λ tells. record {
    whole = λ was.
        play_whole (g.W.Disk.seen c.args.world.now) (g.W.Clocked.clock c.args.world.now) (g.W.Clocked.clock c.made_ready.new.disk) was
        (ready_keeps _ _ _ _ (c.made_ready.ensures.moments tells).keeps);
    once = none_sent _ _ c.made_ready.ensures.blames.link;
  };
}

pub returns-in_err-store-clause-causes : goal.returns-in_err-store-clause-causes
returns-in_err-store-clause-causes g c = record {
  disk = λ is. c.made_ready.ensures.blames.cause (opening_disk _ _ _ c.in_err-store.was c.from_residual.ensures.1 is);
  link_fault = λ is. absurd (opening_link _ _ _ c.in_err-store.was c.from_residual.ensures.1 is);
  count = c.made_ready.ensures.blames.count;
  link_count = same_count _ _ c.made_ready.ensures.blames.link;
  disk_unfailed = λ other. c.made_ready.ensures.blames.unfailed (λ is. other (opening_failed _ _ _ c.in_err-store.was c.from_residual.ensures.1 is));
  link_unfailed = λ other. ap (λ (s : LinkState). s.faults) c.made_ready.ensures.blames.link;
}

pub returns-in_err-store-clause-unread : goal.returns-in_err-store-clause-unread
returns-in_err-store-clause-unread g c is = c.made_ready.ensures.never (opening_input _ _ _ c.in_err-store.was c.from_residual.ensures.1 is)

pub returns-in_err-played-clause-ends : goal.returns-in_err-played-clause-ends
returns-in_err-played-clause-ends g c tells =
    stopped_play c.args.account.now
    (record {
      old = g.W.Clocked.clock c.args.world.now;
      new = g.W.Clocked.clock c.play.new.world;
      seen = g.W.Disk.seen c.args.world.now;
      seen_after = g.W.Disk.seen c.play.new.world;
      link = g.W.Clocked.link c.args.world.now;
      link_after = g.W.Clocked.link c.play.new.world;
    })
    _ _ _ _ _ c.in_err-played.was c.from_residual-in_err-played.ensures.1
    (c.in_ok-store.ensures.opened tells) c.play.ensures.stored.later _ c.made_ready.ensures.blames.link (c.play.ensures.why tells)
    (playing_now _ _ _ (playing_start _ _ _ (c.in_ok-store.ensures.still tells)) (c.play.ensures.goes_on.progress tells)) (c.play.ensures.stored.left tells) (c.play.ensures.reasons.stopped tells)

pub returns-in_err-played-clause-goes : goal.returns-in_err-played-clause-goes
returns-in_err-played-clause-goes g c tells =
    let moments = c.made_ready.ensures.moments tells in record {
      keeps = play_keeps _ _ (c.in_ok-store.ensures.opened tells).holds _ _ _ _ moments.keeps (c.play.ensures.goes_on.progress tells);
      books = λ one books have. play_steps _ _ _ _ (moments.chooses one books have) (c.play.ensures.goes_on.progress tells);
    }

pub returns-in_err-played-clause-sides : goal.returns-in_err-played-clause-sides
returns-in_err-played-clause-sides g c tells = record {
  one_side = λ one. one_last _ _ ((c.made_ready.ensures.moments tells).one_side one) (c.play.ensures.goes_on.each_one_side tells);
  each_one_side = λ one. each_then _ _ _ ((c.made_ready.ensures.moments tells).each_one_side one) (c.play.ensures.goes_on.each_one_side tells);
}

pub returns-in_err-played-clause-server : goal.returns-in_err-played-clause-server
returns-in_err-played-clause-server g c = record {
  joined = λ e.
      let files = g.W.Clocked.server_with_files e.tells in
      play_joined _ _ _ _ e.kept ((c.made_ready.ensures.moments files).chooses e.one_side e.books e.have) (c.play.ensures.goes_on.progress files) (c.play.ensures.goes_on.joined e.tells);
  twice = λ tells kept.
      let files = g.W.Clocked.server_with_files tells in
      let moments = c.made_ready.ensures.moments files in
      let here = moments.kept kept in
      play_once _ _ _ _ _ kept (only_readies _ _ _ moments.keeps) (c.play.ensures.goes_on.progress files) (c.play.ensures.goes_on.joined tells here);
  kept = λ play f.
      let files = g.W.Clocked.server_with_files f.tells in
      let moments = c.made_ready.ensures.moments files in
      let here = moments.kept f.kept in
      kept_last _ _ here (c.play.ensures.goes_on.joined f.tells here) (play_fair _ _ _ _ _ _ moments.keeps (c.play.ensures.goes_on.progress files) f.fair);
  truly = λ play f.
      let files = g.W.Clocked.server_with_files f.tells in
      let moments = c.made_ready.ensures.moments files in
      let opened = readies_book _ _ _ _ _ moments.keeps (c.in_ok-store.ensures.opened files).holds (c.in_ok-store.ensures.still files) in
      let here = moments.kept f.kept in
      let spared = play_fair _ _ _ _ _ _ moments.keeps (c.play.ensures.goes_on.progress files) f.fair in
      truly_stopped c.play.result _ _ _ _ _ _ opened (λ other. c.play.ensures.reasons.truly f.tells here spared other)
      (λ is. c.play.ensures.reasons.stopped_truly f.tells is here spared) (λ other. only_left _ _ _ _ (c.play.ensures.stored.left files other)) _ c.in_err-played.was;
  surely = λ play other f.
      let files = g.W.Clocked.server_with_files f.tells in
      let moments = c.made_ready.ensures.moments files in
      let here = moments.kept f.kept in
      surely_played _ _ (c.in_ok-store.ensures.opened files).holds
      (opened_book _ _ _ _ (c.play.ensures.stored.left files (λ is. other (run_failed _ _ _ c.in_err-played.was c.from_residual-in_err-played.ensures.1 is))) refl)
      (c.play.ensures.surely f.tells here (play_fair _ _ _ _ _ _ moments.keeps (c.play.ensures.goes_on.progress files) f.fair));
  synced = λ play came f. absurd (stopped_early _ _ c.from_residual-in_err-played.ensures.1 came);
  serves = λ play f serving none bad.
      let files = g.W.Clocked.server_with_files f.tells in
      let moments = c.made_ready.ensures.moments files in
      let opened = readies_book _ _ _ _ _ moments.keeps (c.in_ok-store.ensures.opened files).holds (c.in_ok-store.ensures.still files) in
      let here = moments.kept f.kept in
      let spared = play_fair _ _ _ _ _ _ moments.keeps (c.play.ensures.goes_on.progress files) f.fair in
      let served = serving_behind _ _ _ _ _ moments.keeps (c.play.ensures.goes_on.progress files) serving in
      let there = boxes_behind _ _ (g.W.Clocked.clock c.args.world.now).now (g.W.Clocked.clock c.made_ready.new.disk).now opened.holds (same_peer _ _ _ moments.keeps) none in
      run_serves _ _ c.from_residual-in_err-played.ensures.1 (c.play.ensures.complete f.tells here spared served there _ c.in_err-played.was) bad;
  faultless = λ f is.
      let files = g.W.Clocked.server_with_files f.tells in
      let moments = c.made_ready.ensures.moments files in
      let here = moments.kept f.kept in
      let spared = play_fair _ _ _ _ _ _ moments.keeps (c.play.ensures.goes_on.progress files) f.fair in
      run_reply _ _ _ c.in_err-played.was c.from_residual-in_err-played.ensures.1 (c.play.ensures.faultless f.tells here spared) is;
  honest = λ tells is.
      no_place_told _ _ _ refl refl (run_honest _ _ _ c.in_err-played.was c.from_residual-in_err-played.ensures.1 (c.play.ensures.accuses.honest tells)) is;
  connects = record {
    at_first = λ tells.
        let files = g.W.Clocked.server_with_files tells in
        readies_then _ _ _ (c.made_ready.ensures.moments files).keeps _ (c.in_ok-store.ensures.none_due files) (c.play.ensures.goes_on.once tells);
    once = λ tells.
        then_once (g.W.Clocked.link c.args.world.now) (g.W.Clocked.link c.made_ready.new.disk) (g.W.Clocked.link c.play.new.world) c.made_ready.ensures.blames.link
        (c.play.ensures.goes_on.one tells);
  };
  any_server = λ tells. record {
    whole = λ was.
        play_whole (g.W.Disk.seen c.args.world.now) (g.W.Clocked.clock c.args.world.now) (g.W.Clocked.clock c.play.new.world) was
        (play_keeps _ _ (c.in_ok-store.ensures.opened tells).holds _ _ _ _ (c.made_ready.ensures.moments tells).keeps (c.play.ensures.goes_on.progress tells));
    once =
        then_sends (g.W.Clocked.link c.args.world.now) (g.W.Clocked.link c.made_ready.new.disk) (g.W.Clocked.link c.play.new.world)
        c.made_ready.ensures.blames.link (c.play.ensures.goes_on.sends tells);
  };
}

pub returns-in_err-played-clause-causes : goal.returns-in_err-played-clause-causes
returns-in_err-played-clause-causes g c = record {
  disk = λ is.
      rose_later _ _ _ c.made_ready.ensures.blames.count
      (c.play.ensures.accuses.disk_cause (run_disk _ _ _ c.in_err-played.was c.from_residual-in_err-played.ensures.1 is));
  link_fault = λ is.
      subst (λ (s : LinkState). Rose s.faults (g.W.Clocked.link c.play.new.world).faults) c.made_ready.ensures.blames.link
      (c.play.ensures.accuses.link_cause (run_link _ _ _ c.in_err-played.was c.from_residual-in_err-played.ensures.1 is));
  count = search rules;
  link_count = search rules;
  disk_unfailed = λ other.
      c.play.ensures.accuses.disk_unfailed (λ is. other (run_failed _ _ _ c.in_err-played.was c.from_residual-in_err-played.ensures.1 is))
      ∙ c.in_ok-store.ensures.blames.unfailed (never_err _ _);
  link_unfailed = λ other.
      c.play.ensures.accuses.link_unfailed (λ is. other (run_lost _ _ _ c.in_err-played.was c.from_residual-in_err-played.ensures.1 is))
      ∙ ap (λ (s : LinkState). s.faults) c.made_ready.ensures.blames.link;
}

pub returns-in_err-played-clause-unread : goal.returns-in_err-played-clause-unread
returns-in_err-played-clause-unread g c is = run_input _ _ _ c.in_err-played.was c.from_residual-in_err-played.ensures.1 is

pub returns-clause-ends : goal.returns-clause-ends
returns-clause-ends g c tells =
    played_play c.args.account.now _ _ _ _ (c.in_ok-store.ensures.opened tells)
    (c.in_ok-played.ensures.plays tells) c.play.ensures.stored.later c.in_ok-played.ensures.settled (c.in_ok-played.ensures.stored.left tells (never_err _ _))
    c.in_ok-played.ensures.played

pub returns-clause-goes : goal.returns-clause-goes
returns-clause-goes g c tells =
    let moments = c.made_ready.ensures.moments tells in record {
      keeps = play_keeps _ _ (c.in_ok-store.ensures.opened tells).holds _ _ _ _ moments.keeps (c.play.ensures.goes_on.progress tells);
      books = λ one books have. play_steps _ _ _ _ (moments.chooses one books have) (c.play.ensures.goes_on.progress tells);
    }

pub returns-clause-sides : goal.returns-clause-sides
returns-clause-sides g c tells = record {
  one_side = λ one. one_last _ _ ((c.made_ready.ensures.moments tells).one_side one) (c.play.ensures.goes_on.each_one_side tells);
  each_one_side = λ one. each_then _ _ _ ((c.made_ready.ensures.moments tells).each_one_side one) (c.play.ensures.goes_on.each_one_side tells);
}

pub returns-clause-server : goal.returns-clause-server
returns-clause-server g c = record {
  joined = λ e.
      let files = g.W.Clocked.server_with_files e.tells in
      play_joined _ _ _ _ e.kept ((c.made_ready.ensures.moments files).chooses e.one_side e.books e.have) (c.play.ensures.goes_on.progress files) (c.play.ensures.goes_on.joined e.tells);
  twice = λ tells kept.
      let files = g.W.Clocked.server_with_files tells in
      let moments = c.made_ready.ensures.moments files in
      let here = moments.kept kept in
      play_once _ _ _ _ _ kept (only_readies _ _ _ moments.keeps) (c.play.ensures.goes_on.progress files) (c.play.ensures.goes_on.joined tells here);
  kept = λ play f.
      let files = g.W.Clocked.server_with_files f.tells in
      let moments = c.made_ready.ensures.moments files in
      let here = moments.kept f.kept in
      kept_last _ _ here (c.play.ensures.goes_on.joined f.tells here) (play_fair _ _ _ _ _ _ moments.keeps (c.play.ensures.goes_on.progress files) f.fair);
  truly = λ play f.
      let files = g.W.Clocked.server_with_files f.tells in
      let moments = c.made_ready.ensures.moments files in
      let opened = readies_book _ _ _ _ _ moments.keeps (c.in_ok-store.ensures.opened files).holds (c.in_ok-store.ensures.still files) in
      let here = moments.kept f.kept in
      let spared = play_fair _ _ _ _ _ _ moments.keeps (c.play.ensures.goes_on.progress files) f.fair in
      recorded _ _ _ opened (c.in_ok-played.ensures.reasons.truly f.tells here spared (never_err _ _))
      (only_left _ _ _ _ (c.in_ok-played.ensures.stored.left files (never_err _ _)));
  surely = λ play other f.
      let files = g.W.Clocked.server_with_files f.tells in
      let moments = c.made_ready.ensures.moments files in
      let here = moments.kept f.kept in
      surely_played _ _ (c.in_ok-store.ensures.opened files).holds
      (opened_book _ _ _ _ (c.in_ok-played.ensures.stored.left files (never_err _ _)) refl)
      (c.play.ensures.surely f.tells here (play_fair _ _ _ _ _ _ moments.keeps (c.play.ensures.goes_on.progress files) f.fair));
  synced = λ play came f.
      let files = g.W.Clocked.server_with_files f.tells in
      let moments = c.made_ready.ensures.moments files in
      let here = moments.kept f.kept in
      play_synced c.play.new.store _ _ _ _ _ _ _ moments.keeps (c.in_ok-played.ensures.stored.left files (never_err _ _))
      (c.in_ok-played.ensures.synced f.tells here (play_fair _ _ _ _ _ _ moments.keeps (c.play.ensures.goes_on.progress files) f.fair));
  serves = λ play f serving none bad. played_serves c.in_ok-played.played bad;
  faultless = λ f is. played_reply c.in_ok-played.played is;
  honest = λ tells is. absurd (played_reply c.in_ok-played.played is);
  connects = record {
    at_first = λ tells.
        let files = g.W.Clocked.server_with_files tells in
        readies_then _ _ _ (c.made_ready.ensures.moments files).keeps _ (c.in_ok-store.ensures.none_due files) (c.play.ensures.goes_on.once tells);
    once = λ tells.
        then_once (g.W.Clocked.link c.args.world.now) (g.W.Clocked.link c.made_ready.new.disk) (g.W.Clocked.link c.play.new.world) c.made_ready.ensures.blames.link
        (c.play.ensures.goes_on.one tells);
  };
  any_server = λ tells. record {
    whole = λ was.
        play_whole (g.W.Disk.seen c.args.world.now) (g.W.Clocked.clock c.args.world.now) (g.W.Clocked.clock c.play.new.world) was
        (play_keeps _ _ (c.in_ok-store.ensures.opened tells).holds _ _ _ _ (c.made_ready.ensures.moments tells).keeps (c.play.ensures.goes_on.progress tells));
    once =
        then_sends (g.W.Clocked.link c.args.world.now) (g.W.Clocked.link c.made_ready.new.disk) (g.W.Clocked.link c.play.new.world)
        c.made_ready.ensures.blames.link (c.play.ensures.goes_on.sends tells);
  };
}

pub returns-clause-causes : goal.returns-clause-causes
returns-clause-causes g c = record {
  disk = λ is. absurd (played_disk c.in_ok-played.played is);
  link_fault = λ is. absurd (played_link c.in_ok-played.played is);
  count = search rules;
  link_count = search rules;
  disk_unfailed = λ other. c.in_ok-played.ensures.accuses.disk_unfailed (never_err _ _) ∙ c.in_ok-store.ensures.blames.unfailed (never_err _ _);
  link_unfailed = λ other. c.in_ok-played.ensures.accuses.link_unfailed (never_err _ _) ∙ ap (λ (s : LinkState). s.faults) c.made_ready.ensures.blames.link;
}

pub returns-clause-unread : goal.returns-clause-unread
returns-clause-unread g c is = played_input c.in_ok-played.played is
