use Rattle.std.proofs.Common.{arith}
use Rattle.std.proofs.lemmas.List.Sums.{prefix_len-le-length}
use Rattle.std.specs.Char.{is_ascii_digit}
use Rattle.imap_tokens.proofs.word.header_size.Goals as goal

pub slice_bounds-starts_with-count : goal.slice_bounds-starts_with-count
slice_bounds-starts_with-count c = omega (arith, c.digits_len-digits.ensures, prefix_len-le-length is_ascii_digit c.args.text.now)

pub slice_bounds-starts_with-start : goal.slice_bounds-starts_with-start
slice_bounds-starts_with-start c = omega (arith, c.digits_len-digits.ensures, prefix_len-le-length is_ascii_digit c.args.text.now)
