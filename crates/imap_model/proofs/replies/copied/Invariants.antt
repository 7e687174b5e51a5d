use Rattle.std.proofs.Common.{◌≡◌, take}
use Rattle.imap_model.proofs.replies.copied.Given as goal

abbrev pub invariant-loop-response : goal.invariant-loop-response
invariant-loop-response l = l.copies ≡ take l.response-index l.responses
