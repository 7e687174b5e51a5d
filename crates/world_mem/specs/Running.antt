-- What a world in memory has become by what was done in it.
use Rattle.std.specs.Prelude.{ℕ, Bool, true, false, List, [], ◌∷◌, ◌++◌, Option, Some, None}
use Rattle.mail_base.specs.declared.tag.Tag.{Tag}
use Rattle.mail_base.specs.declared.tag.Tag.TheVariants.{Strange}
use Rattle.imap_model.specs.Carrying.{Waiting}
use Rattle.imap_model.specs.PlainChanges.{with_change}
use Rattle.imap_model.specs.PlainServer.{denied}
use Rattle.imap_model.specs.Talking.{Arriving, Peer, arrived, carried, greeted, refused, went_on}
use Rattle.imap_model.specs.declared.code.Code.TheVariants as codings
use Rattle.imap_model.specs.declared.deed.Author.TheVariants.{Other}
use Rattle.imap_model.specs.declared.response.Response.{Response}
use Rattle.server_mem.specs.Answered.{after_as, bad_of}
use Rattle.server_mem.specs.Greeting.{greeting}
use Rattle.server_mem.specs.States.{State, turn_at, disconnected}
use Rattle.server_mem.specs.declared.outcome.Answered.{Answered}
use Rattle.server_mem.specs.declared.outcome.Answered.TheVariants as answers
use Rattle.world_traits.specs.Calls.{written, settled}
use Rattle.world_traits.specs.Files.{Files, clean, put, file_of, with_file}
use Rattle.world_traits.specs.Links.{becomes}
use Rattle.world_traits.specs.Moments.{Clock, tick}
use Rattle.world_mem.specs.declared.did.Did.{Did}
use Rattle.world_mem.specs.declared.did.Did.TheVariants as did
use Rattle.world_mem.specs.declared.did.Held.{Held}

-- The moments so far, what the files read as, the server in memory as its connection has it, the command that waits, and whether
-- bytes have come that aren't a whole part.
pub record Run : Type 0 where
  pub clock : Clock
  pub seen : Files
  pub state : State
  pub held : Option Held
  pub begun : Bool

-- the command that waits, with what was selected as its connection was lost
abbrev pub waiting_of : State → Option Held → Option Waiting
waiting_of s None = None
waiting_of s (Some held) = Some (record { selected = s.selected; tag = held.tag; command = held.command })

-- at first both files are on the disk, no connection was made, so that nothing is selected, and a command may wait
abbrev pub start : Files → State → Option Held → Run
start files s held = record {
  clock = record {
    now = record {
      left = clean files.left;
      right = clean files.right;
      outside = record {
        server = s.server;
        waiting = waiting_of s held;
        talk = record { told = []; selected = None; arriving = None };
      };
    };
    past = [];
  };
  seen = files;
  state = s;
  held = held;
  begun = false;
}

-- a part has come that isn't answered, of a text with these parts
abbrev pub fronted : Tag → List (List ℕ) → Arriving
fronted tag parts = record { tag = tag; parts = parts; asked = false }

abbrev pub with_front : Arriving → Peer → Peer
with_front a p = record p { talk = record p.talk { arriving = Some a } }

-- bytes have come that aren't a whole part
abbrev pub unfinished : Arriving
unfinished = fronted Strange []

-- the last of these parts comes, which are answered so
abbrev pub comes_as : List (List ℕ) → Answered → Peer → Peer
comes_as parts (answers.Carried tag command) p = arrived tag command [] [] [] p
comes_as parts (answers.Asked tag) p = with_front (fronted tag parts) p
comes_as parts (answers.Refused tag) p = with_front (fronted tag parts) p
comes_as parts (answers.Bad tag) p = with_front unfinished p

-- BAD is said, and the text is dropped
abbrev pub said_bad : Response → Peer → Peer
said_bad bad p = record p { talk = record p.talk { told = p.talk.told ++ bad ∷ []; arriving = None } }

-- they are answered
abbrev pub answers_as : State → List (List ℕ) → Answered → Peer → Peer
answers_as s parts (answers.Carried tag command) p =
    carried (record { selected = s.selected; tag = tag; command = command }) (turn_at s tag command).replies (turn_at s tag command).server
    (turn_at s tag command).selected p
answers_as s parts (answers.Asked tag) p = went_on (fronted tag parts) p
answers_as s parts (answers.Refused tag) p = refused (fronted tag parts) (denied codings.Other) p
answers_as s parts (answers.Bad tag) p = said_bad (bad_of tag) p

-- a connection begins
abbrev pub begins_with : Response → Peer → Peer
begins_with first p = record { server = p.server; waiting = None; talk = greeted first }

-- what waits is carried out
abbrev pub peer_settled : Option Held → State → Peer → Peer
peer_settled None s p = p
peer_settled (Some held) s p = answers_as s [] (answers.Carried held.tag held.command) p

abbrev pub state_settled : Option Held → State → State
state_settled None s = s
state_settled (Some held) s = after_as s [] (answers.Carried held.tag held.command)

-- a connection is at its end: nothing is selected, and no text arrives; what waits stays
abbrev pub at_end : Peer → Peer
at_end p = record p { talk = record p.talk { selected = None; arriving = None } }

abbrev pub carried_out : Option Held → Run → Run
carried_out held s = record s { clock = becomes (peer_settled held s.state) s.clock; state = state_settled held s.state; held = None }

-- what was done, once more
abbrev pub step : Did → Run → Run
step (did.Wrote side at bytes) s = record s {
  clock = tick s.clock (written side at bytes.items s.clock.now);
  seen = with_file side (put at bytes.items (file_of side s.seen)) s.seen;
}
step (did.Synced side) s = record s { clock = tick s.clock (settled side (file_of side s.seen) s.clock.now) }
step (did.Changed name change) s = record s {
  clock = becomes (λ p. record p { server = with_change Other name change s.state.server }) s.clock;
  state = record s.state { server = with_change Other name change s.state.server };
}
step did.Greeted s = record s {
  clock = becomes (begins_with (greeting s.state.choices.offers)) s.clock;
  state = disconnected s.state;
  held = None;
  begun = false;
}
step (did.Heard part answered) s = record s {
  clock = becomes (answers_as s.state (s.state.parts ++ part ∷ []) answered) (becomes (comes_as (s.state.parts ++ part ∷ []) answered) s.clock);
  state = after_as s.state (s.state.parts ++ part ∷ []) answered;
  begun = false;
}
step did.Began s = record s { clock = becomes (with_front unfinished) s.clock; begun = true }
step (did.Waited held) s = record s { clock = becomes (arrived held.tag held.command [] [] []) s.clock; held = Some held }
step did.Settled s = carried_out s.held s
step did.Ended s = record s { clock = becomes at_end s.clock }

-- all that was done, the first of it first
abbrev pub run : List Did → Run → Run
run [] s = s
run (d ∷ ds) s = run ds (step d s)
