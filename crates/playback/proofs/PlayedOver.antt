-- The play of the second example is one, turn by turn.
use Rattle.std.proofs.Common.{◌≡◌, inl, inr, [], ◌∷◌, Some, None, refl, ap, subst, lit<, lit≤}
use Rattle.std.specs.Prelude.{Ok}
use Rattle.std.specs.declared.alloc.Global.{Global}
use Rattle.std.proofs.lemmas.Option.{none-some, same_Some}
use Rattle.imap_model.specs.CarriedOut.{CarriesOut}
use Rattle.imap_model.specs.Changes.Batch.{more, none}
use Rattle.imap_model.specs.SelectTells.{SelectTells}
use Rattle.mailbox_cache.specs.Cache.{applied, first}
use Rattle.mailbox_cache.specs.declared.cache.Cache.{Cache}
use Rattle.qresync_core.specs.Marking.{mark_of}
use Rattle.qresync_core.specs.Resync.{TellsDelta}
use Rattle.playback.specs.Allowed.{IsGathered}
use Rattle.playback.specs.Course.{Said}
use Rattle.book_laws.specs.Example.{box_name, flag, message_with, server_after}
use Rattle.playback.specs.Games.{IsGood, OthersAct}
use Rattle.playback.specs.Games.Play.{rests, turns}
use Rattle.playback.specs.Games.Turn.{asks, carries, chooses, others, records, resets, sends}
use Rattle.book_laws.specs.Kept.{KeptBook}
use Rattle.playback.specs.Knows.{MayAskRows, MayReset, SelectsBox}
use Rattle.playback.specs.PlaysThrough.{PlaysOver, again_row, again_told, ask_again, chooses_to, delta_again, delta_first, delta_last}
use Rattle.playback.specs.PlaysThrough.{game_again, game_end, game_held, game_next, game_one, game_reset, renewed_box, renews}
use Rattle.playback.specs.PlaysThrough.{select_again, server_renewed}
use Rattle.playback.proofs.PlayedThrough.{fits, played, row_there, starts_good}
use Rattle.playback.proofs.Playing.{plays_well}
use Rattle.playback.proofs.Recording.{begins_beside, begins_know}
use Rattle.imap_model.specs.declared.command.Command.TheVariants as commands
use Rattle.imap_model.specs.declared.ending.Ending.TheVariants as endings
use Rattle.action_queue.specs.declared.event.Event.TheVariants as events

kept_then : (alloc : Global) → KeptBook (game_end alloc).book server_after None
kept_then alloc = (plays_well.keeps (game_one alloc) (game_end alloc) (played alloc).play (starts_good alloc)).kept

good_next : (alloc : Global) → IsGood (game_next alloc)
good_next alloc = record {
  kept = kept_then alloc;
  beside = begins_beside alloc (game_end alloc).book;
  knows = begins_know alloc (game_end alloc).book server_after (kept_then alloc);
}

-- others renew the mailbox
others_renew : (alloc : Global) → OthersAct (game_next alloc) server_renewed
others_renew alloc = record {
  changes = more box_name renews (record {
    effect = record {
      before = _;
      after = renewed_box;
      there = refl;
      becomes = record { above = lit< tt; rise = (lit≤ tt, lit< tt, tt); as_many = refl; becomes = refl };
      put = refl;
    };
    history = refl;
  }) none;
  spares = λ q to flags text id x y e a. absurd (none-some q e);
  stays = tt;
  settled = tt;
}

-- the SELECT names the cache that was kept
selects_again : (alloc : Global) → SelectsBox box_name (game_next alloc).book select_again
selects_again alloc = record {
  since = Some (record { validity = 5; modseq = 11 });
  is = refl;
  knows = λ cache e. ap (λ (x : Cache). Some (mark_of x)) (same_Some (applied (first delta_first) delta_last) cache e);
}

again_tells : SelectTells None (Some (record { validity = 5; modseq = 11 })) renewed_box again_told.untagged again_told.code
again_tells = record {
  before = [];
  told = again_told.untagged;
  parted = inr (refl, refl);
  of_old = tt;
  of_new = (refl, (refl, (refl, (refl, (tt, tt)))));
  code_of_new = tt;
  exists = (0, lit< tt, refl);
  validity = inl (1, lit< tt, refl);
  uidnext = inl (2, lit< tt, refl);
  highest = inl (3, lit< tt, refl);
  since_mark = λ same. absurd (cc);
}

again_selects : CarriesOut select_again server_renewed again_told server_renewed (Some box_name)
again_selects = record { box = renewed_box; there = refl; server = refl; selection = refl; tells = again_tells }

again_asked : CarriesOut ask_again server_renewed again_row server_renewed (Some box_name)
again_asked = record {
  stays = record { server = refl; selection = refl };
  box = renewed_box;
  there = refl;
  says = ((1, message_with (flag ∷ []) 20, refl, refl), tt);
  code = tt;
  tells = λ uid m e. row_there (flag ∷ []) 20 uid m e;
}

-- behind it the cache may be taken away
may_reset : (alloc : Global) → MayReset box_name 5 6 (game_held alloc).book (game_held alloc).world
may_reset alloc = record {
  select = select_again;
  owed = refl;
  none_waits = refl;
  selects = selects_again alloc;
  said = _;
  rest = [];
  last = refl;
  answers = refl;
  accepted = refl;
  codes = record { validity = 6; uidnext = 2; highest = 20 };
  tells = refl;
  validity = refl;
  cache = applied (first delta_first) delta_last;
  there = refl;
  old = refl;
  above = lit< tt;
}

-- there is no cache then, and the SELECT is the same one
selects_still : (alloc : Global) → SelectsBox box_name (game_reset alloc).book select_again
selects_still alloc = record { since = Some (record { validity = 5; modseq = 11 }); is = refl; knows = λ cache e. absurd (none-some cache e) }

delta_told : TellsDelta None again_told (Some again_row) delta_again
delta_told = record {
  codes = record { validity = 6; uidnext = 2; highest = 20 };
  told = refl;
  fits = refl;
  none_bare = refl;
  whole = refl;
  validity = refl;
  uidnext = refl;
  highest = refl;
  rows = λ uid. refl;
  vanished = λ uid. refl;
}

abbrev again_said : Said
again_said = record { command = ask_again; before = server_renewed; behind = server_renewed; reply = again_row }

again_gathered : (alloc : Global) → IsGathered delta_again (game_again alloc).book (game_again alloc).world
again_gathered alloc = record {
  selected = _;
  rows = Some again_said;
  rest = [];
  last = refl;
  command = select_again;
  owed = refl;
  answered = refl;
  asks = refl;
  name = box_name;
  selects = selects_still alloc;
  accepted = refl;
  all_asks = λ e is. subst (λ (x : Said). x.command.command ≡ commands.FetchAll) (same_Some again_said e is) refl;
  all_accepted = λ e is. subst (λ (x : Said). x.reply.ending ≡ endings.Ok) (same_Some again_said e is) refl;
  fetched = refl;
  tells = delta_told;
}

may_rows : (alloc : Global) → MayAskRows ask_again (game_reset alloc).player (game_reset alloc).book (game_reset alloc).world
may_rows alloc = record {
  select = select_again;
  owed = refl;
  none_waits = refl;
  name = box_name;
  selects = selects_still alloc;
  said = _;
  rest = [];
  last = refl;
  answers = refl;
  asks = refl;
  selected = refl;
}

pub played_over : (alloc : Global) → PlaysOver alloc
played_over alloc = record {
  play =
      turns (others server_renewed (others_renew alloc))
      (turns (sends select_again refl (selects_again alloc))
      (turns (carries select_again again_told server_renewed (Some box_name) refl again_selects)
      (turns (resets box_name 5 6 (may_reset alloc))
      (turns (asks ask_again (may_rows alloc))
      (turns (carries ask_again again_row server_renewed (Some box_name) refl again_asked)
      (turns (chooses delta_again (chooses_to delta_again (game_again alloc)).player
      (fits (game_again alloc).player (game_again alloc).book delta_again refl refl (lit≤ tt, tt)) (again_gathered alloc) (refl, refl))
      (turns (records (events.Learn box_name delta_again) refl refl)
      rests)))))));
  good = good_next alloc;
  cache = refl;
  finished = refl;
}
