use Rattle.server_mem.proofs.Pieces.{two_pieces}
use Rattle.server_mem.proofs.laws.two_pieces.Goals as goal

pub returns : goal.returns
returns c = two_pieces
