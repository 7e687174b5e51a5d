use Rattle.std.proofs.Common.{◌++◌, ◌∙◌, ap, sym, subst, arith}
use Rattle.std.specs.Str.{IsUtf8}
use Rattle.std.specs.String.{string_bytes}
use Rattle.cases.specs.Written.{written}
use Rattle.cases.proofs.AsciiWords.{text_of, written_utf8}
use Rattle.cases.proofs.writing.written.Goals as goal

pub returns : goal.returns
returns c = λ text.
    let items = c.in_ok-put_word.ensures ∙ ap (λ l. l ++ written c.args.bytes.now) c.new-text.ensures.items in
    ap string_bytes c.unwrap_or.ensures
    ∙ text_of c.from_utf8.result _ c.put_word.new.text
    (c.from_utf8.ensures.succeeds (subst IsUtf8 (sym items) (written_utf8 c.args.bytes.now text.bytes (omega (arith, text.size)))))
    c.from_utf8.ensures.ok
    ∙ items
