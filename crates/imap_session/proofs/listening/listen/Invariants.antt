use Rattle.std.proofs.Common.{◌≡◌, ◌+◌, ◌++◌, ℕ, List, length}
use Rattle.imap_model.specs.Talking.{Answering}
use Rattle.imap_model.specs.declared.response.Response.{Response}
use Rattle.world_traits.specs.Links.{Linked, AnyStep}
use Rattle.imap_session.specs.Hearing.{Reads}
use Rattle.imap_session.specs.Knowing.{NoEnd}
use Rattle.imap_session.specs.Taken.{Takes}
use Rattle.imap_session.proofs.listening.listen.Given as goal

abbrev pub invariant-loop-line : goal.invariant-loop-line
invariant-loop-line g l =
    let clock = g.L.Clocked.clock in
    let link = g.L.Clocked.link in
    record {
      files : g.L.Clocked.tells_files → Linked AnyStep (clock l.fn.link) (clock l.link);
      told : g.L.Clocked.tells_server → Linked Answering (clock l.fn.link) (clock l.link);
      heard : (told : List Response) × NoEnd l.part told
          × Takes g.H.Listen.Stands told l.fn.heard l.heard l.fn.permits l.permits
          × (g.L.Clocked.tells_files → (heard : List Response) (had : List ℕ) (most : ℕ)
          → Reads heard had most l.fn.left (link l.fn.link).connection l.fn.feed → Reads (heard ++ told) had most l.left (link l.link).connection l.feed);
      sent : g.L.Clocked.tells_files → (link l.link).sent ≡ (link l.fn.link).sent;
      earlier : g.L.Clocked.tells_files → (link l.link).earlier ≡ (link l.fn.link).earlier;
      disk : g.L.Clocked.disk_faults l.link ≡ g.L.Clocked.disk_faults l.fn.link;
      count : (link l.link).faults ≡ (link l.fn.link).faults;
    }

abbrev pub decreases-loop-line : goal.decreases-loop-line
decreases-loop-line g l = length l.feed.bytes + l.left
