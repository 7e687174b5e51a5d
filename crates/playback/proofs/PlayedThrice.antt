-- The play of three tries is one, turn by turn.
use Rattle.std.proofs.Common.{◌≡◌, inl, inr, ℕ, ◌<◌, ◌≤◌, true, false, List, [], ◌∷◌, Some, None, refl, sym, subst, arith}
use Rattle.std.proofs.Common.{lit<, lit≤}
use Rattle.std.specs.declared.alloc.Global.{Global}
use Rattle.std.proofs.lemmas.Option.{same_Some}
use Rattle.action_queue.specs.Queues.{accepted, tried}
use Rattle.action_queue.specs.declared.queued.Queued.{Queued}
use Rattle.imap_model.specs.CarriedOut.{CarriesOut}
use Rattle.imap_model.specs.Carrying.{IsThere, Stores}
use Rattle.imap_model.specs.Changes.Batch.{more, none}
use Rattle.imap_model.specs.Lookups.{box_at, message_at}
use Rattle.imap_model.specs.declared.server.Mailbox.{Mailbox}
use Rattle.imap_model.specs.declared.server.Message.{Message}
use Rattle.imap_model.specs.declared.server.Server.{Server}
use Rattle.mail_base.specs.declared.tag.Tag.TheVariants.{Again}
use Rattle.book_laws.specs.Example.{asked, box_name, box_with, flag, message_with, sent_out}
use Rattle.playback.specs.Games.{Game, OthersAct, Play}
use Rattle.playback.specs.Games.Play.{rests, turns}
use Rattle.playback.specs.Games.Turn.{carries, hears, others, records, sends}
use Rattle.playback.specs.PlaysThrice.{PlaysThrice, asks_again, game_missed, game_missed_twice, game_second, game_third, game_thrice}
use Rattle.playback.specs.PlaysThrice.{late, late_told, meant_at, row_again, server_first, server_second, server_third, stores_by}
use Rattle.playback.specs.PlaysThrice.{third_told, touches}
use Rattle.playback.specs.PlaysThrough.{game_meant, moves_to}
use Rattle.playback.proofs.PlayedThrough.{is_reply, learns_first, means_it, row_there, starts_good}
use Rattle.action_queue.specs.declared.action.Action.TheVariants as actions
use Rattle.action_queue.specs.declared.event.Event.TheVariants as events
use Rattle.playback.specs.declared.finding.Finding.TheVariants as findings
use Rattle.action_queue.specs.declared.outcome.Outcome.TheVariants as outcomes

-- the action is no append
spares_it : (q : Queued) (to : List ℕ) (flags : List (List ℕ)) (text id : List ℕ) (tries : ℕ) → Some (tried tries (accepted asked)) ≡ Some q
    → q.action ≡ actions.Append to flags text id → ⊥
spares_it q to flags text id tries e a =
    let z : asked ≡ actions.Append to flags text id =
    subst (λ (y : Queued). y.action ≡ actions.Append to flags text id) (sym (same_Some (tried tries (accepted asked)) q e)) a in absurd (cc)

-- others touch the message, before the first STORE and before the second one
touch_first : (alloc : Global) → OthersAct (game_meant alloc) server_first
touch_first alloc = record {
  changes = more box_name touches (record {
    effect = record {
      before = box_with [] 10;
      after = box_with [] 11;
      there = refl;
      becomes = record {
        message = message_with [] 10;
        there = refl;
        modseq = 11;
        is_next = record { room = lit< tt; above = lit< tt; fits = lit< tt };
        becomes = refl;
      };
      put = refl;
    };
    history = refl;
  }) none;
  spares = λ q to flags text id x y e a. absurd (spares_it q to flags text id 0 e a);
  stays = refl;
  settled = tt;
}

touch_second : (alloc : Global) → OthersAct (game_second alloc) server_second
touch_second alloc = record {
  changes = more box_name touches (record {
    effect = record {
      before = box_with [] 11;
      after = box_with [] 12;
      there = refl;
      becomes = record {
        message = message_with [] 11;
        there = refl;
        modseq = 12;
        is_next = record { room = lit< tt; above = lit< tt; fits = lit< tt };
        becomes = refl;
      };
      put = refl;
    };
    history = refl;
  }) none;
  spares = λ q to flags text id x y e a. absurd (spares_it q to flags text id 1 e a);
  stays = refl;
  settled = tt;
}

-- the message that is there then has a greater mod-sequence
is_late : (modseq mark : ℕ) (s : Server) → s.boxes ≡ box_with [] modseq ∷ [] → mark < modseq → (found : IsThere (Some box_name) 1 s)
    → found.message.modseq ≤ mark → ⊥
is_late modseq mark s is above found low =
    let n : box_name ≡ found.name = same_Some box_name found.name found.is_selected in
    let at : box_at box_name s.boxes ≡ Some found.box =
    subst (λ (x : List ℕ). box_at x s.boxes ≡ Some found.box) (sym n) found.named in
    let here : Some (box_with [] modseq) ≡ Some found.box = subst (λ (x : List Mailbox). box_at box_name x ≡ Some found.box) is at in
    let box : box_with [] modseq ≡ found.box = same_Some (box_with [] modseq) found.box here in
    let there : Some (message_with [] modseq) ≡ Some found.message =
    subst (λ (x : Mailbox). message_at 1 x.messages ≡ Some found.message) (sym box) found.there in
    let message : message_with [] modseq ≡ found.message = same_Some (message_with [] modseq) found.message there in
    let low_then : modseq ≤ mark = subst (λ (x : Message). x.modseq ≤ mark) (sym message) low in
    absurd (omega arith)

-- so the STORE has no effect
missed_first : CarriesOut sent_out server_first late_told server_first (Some box_name)
missed_first = inr (record {
  effect = record { greater = λ found low. is_late 11 10 server_first refl (lit< tt) found low; stays = refl };
  selection = refl;
  says = tt;
  code = inr refl;
  modified = λ found. refl;
})

missed_second : CarriesOut (stores_by (Again 1 2) 11) server_second late_told server_second (Some box_name)
missed_second = inr (record {
  effect = record { greater = λ found low. is_late 12 11 server_second refl (lit< tt) found low; stays = refl };
  selection = refl;
  says = tt;
  code = inr refl;
  modified = λ found. refl;
})

-- the row is told
row_first : CarriesOut (asks_again 4) server_first (row_again 11) server_first (Some box_name)
row_first = record {
  stays = record { server = refl; selection = refl };
  box = box_with [] 11;
  there = refl;
  says = ((1, message_with [] 11, refl, refl), tt);
  code = tt;
  tells = λ m e. row_there [] 11 1 m e;
}

row_second : CarriesOut (asks_again 5) server_second (row_again 12) server_second (Some box_name)
row_second = record {
  stays = record { server = refl; selection = refl };
  box = box_with [] 12;
  there = refl;
  says = ((1, message_with [] 12, refl, refl), tt);
  code = tt;
  tells = λ m e. row_there [] 12 1 m e;
}

-- the third STORE is carried out
stores_third : Stores (Again 1 3) (Some box_name) 1 12 true (flag ∷ []) server_second server_third
stores_third = record {
  found = record { name = box_name; is_selected = refl; box = box_with [] 12; named = refl; message = message_with [] 12; there = refl };
  since_then = lit≤ tt;
  flags = flag ∷ [];
  changed = λ key. refl;
  becomes = record {
    effect = record {
      before = box_with [] 12;
      after = box_with (flag ∷ []) 13;
      there = refl;
      put = refl;
      becomes = record {
        message = message_with [] 12;
        there = refl;
        modseq = 13;
        is_next = record { room = lit< tt; above = lit< tt; fits = lit< tt };
        becomes = refl;
      };
    };
    history = refl;
  };
}

stored_third : CarriesOut (stores_by (Again 1 3) 12) server_second third_told server_third (Some box_name)
stored_third = inl (record {
  effect = stores_third;
  selection = refl;
  says = record { untagged = ((1, message_with (flag ∷ []) 13, refl, refl), tt); code = tt };
  row = λ b m is e. row_there (flag ∷ []) 13 1 m
      (subst (λ (x : Mailbox). message_at 1 x.messages ≡ Some m) (sym (same_Some (box_with (flag ∷ []) 13) b is)) e);
})

-- the turns of each try
misses_first : (alloc : Global) (y : Game) → Play (game_missed alloc) y → Play (game_meant alloc) y
misses_first alloc y later =
    turns (others server_first (touch_first alloc))
    (turns (sends sent_out refl (record { number = refl; queued = accepted asked; there = refl; is = refl }))
    (turns (carries sent_out late_told server_first (Some box_name) refl missed_first)
    (turns (hears late_told true (record (game_meant alloc).player { told = late 10 })
    (is_reply sent_out late_told server_first (moves_to server_first (game_meant alloc)) (λ name since e. absurd (cc)) refl) (λ f. absurd (cc))
    (record { finding = late 10; hears = refl; whole = refl; is = refl }))
    (turns (records (events.Withdraw 1 1) refl refl)
    later))))

means_second : (alloc : Global) (y : Game) → Play (game_second alloc) y → Play (game_missed alloc) y
means_second alloc y later =
    turns (sends (asks_again 4) refl (record { is = refl; at = refl; harmless = refl }))
    (turns (carries (asks_again 4) (row_again 11) server_first (Some box_name) refl row_first)
    (turns (hears (row_again 11) true (record (game_missed alloc).player { told = findings.Row 11 false })
    (is_reply (asks_again 4) (row_again 11) server_first (game_missed alloc) (λ name since e. absurd (cc)) refl) (λ f. absurd (cc))
    (record { finding = findings.Row 11 false; hears = refl; whole = refl; is = refl }))
    (turns (records (events.Intend 1 (meant_at 11)) refl refl)
    later)))

misses_second : (alloc : Global) (y : Game) → Play (game_missed_twice alloc) y → Play (game_second alloc) y
misses_second alloc y later =
    turns (others server_second (touch_second alloc))
    (turns (sends (stores_by (Again 1 2) 11) refl (record { number = refl; queued = tried 1 (accepted asked); there = refl; is = refl }))
    (turns (carries (stores_by (Again 1 2) 11) late_told server_second (Some box_name) refl missed_second)
    (turns (hears late_told true (record (game_second alloc).player { told = late 11 })
    (is_reply (stores_by (Again 1 2) 11) late_told server_second (moves_to server_second (game_second alloc)) (λ name since e. absurd (cc)) refl)
    (λ f. absurd (cc)) (record { finding = late 11; hears = refl; whole = refl; is = refl }))
    (turns (records (events.Withdraw 1 2) refl refl)
    later))))

means_third : (alloc : Global) (y : Game) → Play (game_third alloc) y → Play (game_missed_twice alloc) y
means_third alloc y later =
    turns (sends (asks_again 5) refl (record { is = refl; at = refl; harmless = refl }))
    (turns (carries (asks_again 5) (row_again 12) server_second (Some box_name) refl row_second)
    (turns (hears (row_again 12) true (record (game_missed_twice alloc).player { told = findings.Row 12 false })
    (is_reply (asks_again 5) (row_again 12) server_second (game_missed_twice alloc) (λ name since e. absurd (cc)) refl) (λ f. absurd (cc))
    (record { finding = findings.Row 12 false; hears = refl; whole = refl; is = refl }))
    (turns (records (events.Intend 1 (meant_at 12)) refl refl)
    later)))

settles_third : (alloc : Global) → Play (game_third alloc) (game_thrice alloc)
settles_third alloc =
    turns (sends (stores_by (Again 1 3) 12) refl (record { number = refl; queued = tried 2 (accepted asked); there = refl; is = refl }))
    (turns (carries (stores_by (Again 1 3) 12) third_told server_third (Some box_name) refl stored_third)
    (turns (hears third_told true (record (game_third alloc).player { told = findings.Ended (outcomes.Done None) })
    (is_reply (stores_by (Again 1 3) 12) third_told server_third (game_third alloc) (λ name since e. absurd (cc)) refl) (λ f. absurd (cc))
    (record { finding = findings.Ended (outcomes.Done None); hears = refl; whole = refl; is = refl }))
    (turns (records (events.Settle 1 (outcomes.Done None)) refl refl)
    rests)))

pub played_thrice : (alloc : Global) → PlaysThrice alloc
played_thrice alloc = record {
  play =
      learns_first alloc (game_thrice alloc)
      (means_it alloc (game_thrice alloc)
      (misses_first alloc (game_thrice alloc)
      (means_second alloc (game_thrice alloc)
      (misses_second alloc (game_thrice alloc)
      (means_third alloc (game_thrice alloc)
      (settles_third alloc))))));
  good = starts_good alloc;
  effect = refl;
  done = refl;
  settled = (refl, tt);
}
