use Rattle.std.proofs.Common.{◌≡◌, take}
use Rattle.response_lines.specs.LineTexts.{◌⌢◌, words_text}
use Rattle.response_lines.proofs.texts.put_words.Given as goal

abbrev pub invariant-loop-word : goal.invariant-loop-word
invariant-loop-word l = l.out.items ≡ l.initial.out.items ⌢ words_text (take l.word-index l.words)
