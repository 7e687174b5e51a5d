use Rattle.std.proofs.Common.{◌≡◌, ◌++◌, ℕ, false, List, [], Option, take}
use Rattle.world_traits.specs.Asking.{Asking}
use Rattle.world_traits.specs.Links.{Linked, AnyStep}
use Rattle.imap_session.specs.Sent.{joined}
use Rattle.imap_model.specs.declared.response.Response.{Response}
use Rattle.imap_session.specs.Hearing.{Reads, all_told_by}
use Rattle.imap_session.specs.Knowing.{NoEnd}
use Rattle.imap_session.specs.Replying.{HeardOn}
use Rattle.imap_session.specs.Session.{Sending, Stands, waiting_of}
use Rattle.imap_session.specs.Taken.{Takes}
use Rattle.imap_session.proofs.asking.begin.Given as goal

abbrev pub invariant-loop-index : goal.invariant-loop-index
invariant-loop-index g l =
    let clock = g.L.Clocked.clock in
    let link = g.L.Clocked.link in
    record {
      files : g.L.Clocked.tells_files → Linked AnyStep (clock l.fn.link) (clock l.link);
      told : g.L.Clocked.tells_server → Linked (Asking (clock l.fn.link).now.outside.talk.told l.tag l.command) (clock l.fn.link) (clock l.link);
      sending : g.L.Clocked.tells_server → (selected : Option (List ℕ)) → Stands selected (clock l.fn.link) (link l.fn.link).connection l.fn.feed
          → Sending (waiting_of selected l.tag l.command) (take l.index l.parts) (clock l.fn.link) (clock l.link) (link l.link).connection l.feed;
      heard : (told : List Response) × NoEnd false told × Takes g.H.Listen.Stands told l.fn.heard l.heard l.fn.permits l.permits
          × (g.L.Clocked.tells_files → (heard : List Response) (had : List ℕ) (most : ℕ)
          → Reads heard had most l.fn.left (link l.fn.link).connection l.fn.feed
          → HeardOn heard told l.index had most l.left (link l.link).connection l.feed)
          × (g.L.Clocked.tells_server → all_told_by told ≡ []);
      sent : g.L.Clocked.tells_files → (link l.link).sent ≡ (link l.fn.link).sent ++ joined (take l.index l.parts);
      disk : g.L.Clocked.disk_faults l.link ≡ g.L.Clocked.disk_faults l.fn.link;
      earlier : g.L.Clocked.tells_files → (link l.link).earlier ≡ (link l.fn.link).earlier;
      count : (link l.link).faults ≡ (link l.fn.link).faults;
    }
