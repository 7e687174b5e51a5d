use Rattle.std.proofs.Common.{◌++◌, ◌∙◌, refl, ap, get_or, codes, decimal, arith}
use Rattle.imap_model.specs.CommandParts.{crlf}
use Rattle.command_texts.proofs.Cuts.{digits_lack}
use Rattle.imap_model.proofs.Listed.{solid_set}
use Rattle.uid_sets.specs.Spelling.{set_text}
use Rattle.command_texts.proofs.reading.candidates.fetch.Goals as goal

pub returns-then-byte_at-eq70-clause-all : goal.returns-then-byte_at-eq70-clause-all
returns-then-byte_at-eq70-clause-all c = λ is. let cut = c.until.ensures.cut (codes "1:*") (codes "(UID FLAGS MODSEQ)" ++ crlf) refl is in
    c.fetch_rows.ensures.all cut.0

pub returns-then-byte_at-eq70-clause-row : goal.returns-then-byte_at-eq70-clause-row
returns-then-byte_at-eq70-clause-row c = λ uid held is. let cut =
    c.until.ensures.cut (decimal uid) (codes "(UID FLAGS MODSEQ)" ++ crlf) (digits_lack 32 uid (omega (arith, held.fits)) refl) is in
    c.fetch_rows.ensures.row uid held cut.0

pub returns-then-byte_at-eq70-clause-ids : goal.returns-then-byte_at-eq70-clause-ids
returns-then-byte_at-eq70-clause-ids c = λ uids held is. let cut =
    c.until.ensures.cut (set_text uids) (codes "(UID BODY.PEEK[HEADER.FIELDS (MESSAGE-ID)])" ++ crlf) (solid_set uids held) is in
    absurd (omega (arith, c.byte_at.ensures, c.if-byte_at-eq70.true, ap (λ x. get_or x 5 0) cut.1))

pub returns-clause-all : goal.returns-clause-all
returns-clause-all c = λ is. let cut = c.until.ensures.cut (codes "1:*") (codes "(UID FLAGS MODSEQ)" ++ crlf) refl is in
    absurd (c.if-byte_at-eq70.false (c.byte_at.ensures ∙ ap (λ x. get_or x 5 0) cut.1))

pub returns-clause-row : goal.returns-clause-row
returns-clause-row c = λ uid held is. let cut = c.until.ensures.cut (decimal uid) (codes "(UID FLAGS MODSEQ)" ++ crlf)
    (digits_lack 32 uid (omega (arith, held.fits)) refl) is in absurd
    (c.if-byte_at-eq70.false (c.byte_at.ensures ∙ ap (λ x. get_or x 5 0) cut.1))

pub returns-clause-ids : goal.returns-clause-ids
returns-clause-ids c = λ uids held is. let cut = c.until.ensures.cut (set_text uids)
    (codes "(UID BODY.PEEK[HEADER.FIELDS (MESSAGE-ID)])" ++ crlf) (solid_set uids held) is in c.fetch_ids.ensures uids held cut.0

pub returns-then-byte_at-eq70-clause-text : goal.returns-then-byte_at-eq70-clause-text
returns-then-byte_at-eq70-clause-text c = λ uid held is. let cut =
    c.until.ensures.cut (decimal uid) (codes "(UID BODY.PEEK[])" ++ crlf) (digits_lack 32 uid (omega (arith, held.fits)) refl) is in
    absurd (omega (arith, c.byte_at.ensures, c.if-byte_at-eq70.true, ap (λ x. get_or x 5 0) cut.1))

pub returns-then-byte_at-eq93-clause-all : goal.returns-then-byte_at-eq93-clause-all
returns-then-byte_at-eq93-clause-all c = λ is. let cut = c.until.ensures.cut (codes "1:*") (codes "(UID FLAGS MODSEQ)" ++ crlf) refl is in
    absurd (c.if-byte_at-eq70.false (c.byte_at.ensures ∙ ap (λ x. get_or x 5 0) cut.1))

pub returns-then-byte_at-eq93-clause-row : goal.returns-then-byte_at-eq93-clause-row
returns-then-byte_at-eq93-clause-row c = λ uid held is. let cut =
    c.until.ensures.cut (decimal uid) (codes "(UID FLAGS MODSEQ)" ++ crlf) (digits_lack 32 uid (omega (arith, held.fits)) refl) is in
    absurd (c.if-byte_at-eq70.false (c.byte_at.ensures ∙ ap (λ x. get_or x 5 0) cut.1))

pub returns-then-byte_at-eq93-clause-ids : goal.returns-then-byte_at-eq93-clause-ids
returns-then-byte_at-eq93-clause-ids c = λ uids held is. let cut =
    c.until.ensures.cut (set_text uids) (codes "(UID BODY.PEEK[HEADER.FIELDS (MESSAGE-ID)])" ++ crlf) (solid_set uids held) is in
    absurd (omega (arith, c.byte_at-2.ensures, c.if-byte_at-eq93.true, ap (λ x. get_or x 15 0) cut.1))

pub returns-then-byte_at-eq93-clause-text : goal.returns-then-byte_at-eq93-clause-text
returns-then-byte_at-eq93-clause-text c = λ uid held is. let cut =
    c.until.ensures.cut (decimal uid) (codes "(UID BODY.PEEK[])" ++ crlf) (digits_lack 32 uid (omega (arith, held.fits)) refl) is in
    c.fetch_text.ensures uid held cut.0

pub returns-clause-text : goal.returns-clause-text
returns-clause-text c = λ uid held is. let cut =
    c.until.ensures.cut (decimal uid) (codes "(UID BODY.PEEK[])" ++ crlf) (digits_lack 32 uid (omega (arith, held.fits)) refl) is in
    absurd (c.if-byte_at-eq93.false (c.byte_at-2.ensures ∙ ap (λ x. get_or x 15 0) cut.1))
