-- The rows afterwards are those that are kept and those that are new.
use Rattle.std.proofs.Common.{arith}
use Rattle.std.proofs.lemmas.Bool.Decides.{nat_tests}
use Rattle.mailbox_cache.proofs.Counting.{length_after, length_within}
use Rattle.mailbox_cache.proofs.cache.Cache.would_exceed.Goals as goal

pub returns-then-fits_with : goal.returns-then-fits_with
returns-then-fits_with c =
    let fits = rw c.len.ensures at c.if-fits_with.ensures in
    grind (arith, length_within c.args.delta.now.vanished c.args.delta.now.rows c.args.self.now.rows, fits)

pub returns-then-kept-limit : goal.returns-then-kept-limit
returns-then-kept-limit c =
    let rising = c.as_slice.ensures.rising in
    let kept = rw c.as_slice.ensures.value at c.kept_len-kept.ensures in
    let after = length_after c.args.delta.now.vanished c.args.delta.now.rows c.args.self.now.rows c.args.delta.now.rising c.args.delta.now.apart rising in
    grind (arith, nat_tests, after, kept)

pub returns-else-kept-limit : goal.returns-else-kept-limit
returns-else-kept-limit c =
    let rising = c.as_slice.ensures.rising in
    let kept = rw c.as_slice.ensures.value at c.kept_len-kept.ensures in
    let new = rw (c.as_slice-3.ensures, c.as_slice-2.ensures.value) at c.new_len-new.ensures in
    let after = length_after c.args.delta.now.vanished c.args.delta.now.rows c.args.self.now.rows c.args.delta.now.rising c.args.delta.now.apart rising in
    grind (arith, nat_tests, after, kept, new)
