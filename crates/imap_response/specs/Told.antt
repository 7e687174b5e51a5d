-- What an item tells, where its flags are few (this client's profile).
use Rattle.imap_model.specs.Small.{AreFew}
use Rattle.imap_response.specs.declared.fetch.Told.{Told}
use Rattle.imap_response.specs.declared.fetch.Told.TheVariants as tellings

abbrev pub IsSmallTold : Told → Type 0
IsSmallTold (tellings.Flags flags excess) = AreFew flags
IsSmallTold (tellings.Uid uid) = Unit {0}
IsSmallTold (tellings.ModSeq modseq) = Unit {0}
IsSmallTold (tellings.Ids ids) = Unit {0}
IsSmallTold (tellings.Text text) = Unit {0}
IsSmallTold tellings.Nothing = Unit {0}
