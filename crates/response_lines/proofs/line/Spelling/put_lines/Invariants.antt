use Rattle.std.proofs.Common.{◌≡◌, ◌≤◌, ◌++◌, take, drop}
use Rattle.response_lines.specs.ToldText.{lines_from, lines_of}
use Rattle.response_lines.specs.Written.{WritesLines}
use Rattle.response_lines.proofs.line.Spelling.put_lines.Given as goal

abbrev pub invariant-loop-response : goal.invariant-loop-response
invariant-loop-response l =
    WritesLines (take l.response-index l.told) l.initial.out.items l.out.items
    × (l.out.items ++ lines_from l.self.older l.self.tag l.messages l.at l.others (drop l.response-index l.told)
    ≡ l.initial.out.items ++ lines_of l.self.older l.self.tag l.messages l.told)
    × (l.others ≤ l.response-index)
