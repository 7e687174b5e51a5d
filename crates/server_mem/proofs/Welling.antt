-- What a server in memory keeps is that it is well formed.
use Rattle.std.proofs.Common.{◌≡◌, List, [], ◌∷◌, Option, Some, None, refl, ap}
use Rattle.std.specs.Prelude.{is_some}
use Rattle.imap_model.specs.Lookups.{box_at, message_at, gone_at}
use Rattle.imap_model.specs.WellFormed.{GoOnce, Differ, IsWellFormedBox, IsWellFormed}
use Rattle.imap_model.specs.declared.server.Gone.{Gone}
use Rattle.imap_model.specs.declared.server.Mailbox.{Mailbox}
use Rattle.server_mem.specs.Well.{Lacks, GoneApart, NamesApart, WellBox, Well}

none_there : {A : Type 0} (o : Option A) → Lacks o → o ≡ None
none_there None = λ l. refl
none_there (Some x) = λ l. absurd (cc)

lacks : {A : Type 0} (o : Option A) → o ≡ None → Lacks o
lacks o e = ap is_some e

into_gone : (gs : List Gone) → GoOnce gs → GoneApart gs
into_gone [] g = tt
into_gone (x ∷ xs) g = (lacks (gone_at x.uid xs) g.0, into_gone xs g.1)

from_gone : (gs : List Gone) → GoneApart gs → GoOnce gs
from_gone [] g = tt
from_gone (x ∷ xs) g = (none_there (gone_at x.uid xs) g.0, from_gone xs g.1)

into_names : (bs : List Mailbox) → Differ bs → NamesApart bs
into_names [] d = tt
into_names (b ∷ bs) d = (lacks (box_at b.name bs) d.0, into_names bs d.1)

from_names : (bs : List Mailbox) → NamesApart bs → Differ bs
from_names [] d = tt
from_names (b ∷ bs) d = (none_there (box_at b.name bs) d.0, from_names bs d.1)

into_box : (b : Mailbox) → IsWellFormedBox b → WellBox b
into_box b w = (
  w.rise,
  (
    w.below,
    (
      w.numbered,
      (
        w.plain,
        (
          w.gone_below,
          (w.gone_numbered, ((λ u k e. lacks (message_at u b.messages) (w.apart u k e)), into_gone b.gone w.once)),
        ),
      ),
    ),
  ),
)

from_box : (b : Mailbox) → WellBox b → IsWellFormedBox b
from_box b w = record {
  rise = w.0;
  below = w.1.0;
  numbered = w.1.1.0;
  plain = w.1.1.1.0;
  gone_below = w.1.1.1.1.0;
  gone_numbered = w.1.1.1.1.1.0;
  apart = λ u k e. none_there (message_at u b.messages) (w.1.1.1.1.1.1.0 u k e);
  once = from_gone b.gone w.1.1.1.1.1.1.1;
}

-- the same as the definition
pub into_well : (boxes : List Mailbox) → IsWellFormed boxes → Well boxes
into_well boxes w = (into_names boxes w.names, λ name b e. into_box b (w.each name b e))

pub from_well : (boxes : List Mailbox) → Well boxes → IsWellFormed boxes
from_well boxes w = record { names = from_names boxes w.0; each = λ name b e. from_box b (w.1 name b e) }
