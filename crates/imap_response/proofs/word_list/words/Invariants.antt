use Rattle.std.proofs.Common.{◌≡◌, ◌-◌}
use Rattle.imap_response.specs.WordLists.{words_from, words_at}
use Rattle.imap_response.proofs.LoopLemmas.{with_words}
use Rattle.imap_response.proofs.word_list.words.Given as goal

abbrev pub invariant-loop : goal.invariant-loop
invariant-loop l = with_words l.words (words_from (l.end - l.counter) l.rest) ≡ words_at l.text
