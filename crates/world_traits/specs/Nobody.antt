-- What a disk has as its outside where there is no server.
use Rattle.std.specs.Prelude.{[], None}
use Rattle.imap_model.specs.Talking.{Peer}

-- an empty server that has told nothing, and for which nothing waits or arrives
abbrev pub nobody : Peer
nobody = record {
  server = record { boxes = []; history = [] };
  waiting = None;
  talk = record { told = []; selected = None; arriving = None };
}
