use Rattle.std.proofs.Common.{◌≡◌, [], ◌∷◌, Option, subst, sym}
use Rattle.imap_model.specs.Lines.{AreLines}
use Rattle.mail_base.specs.declared.tag.Tag.{Tag}
use Rattle.server_mem.specs.Answered.{bad_of}
use Rattle.server_mem.specs.Hearing.{IsBad}
use Rattle.server_mem.specs.Texts.{bad_text}
use Rattle.server_mem.proofs.BadLines.{bad_bare, bad_tagged, says_bare, says_tagged, tells_bare, tells_tagged}
use Rattle.command_texts.proofs.Outcomes.{if_ok_both, if_ok_more}
use Rattle.server_mem.proofs.bad.bad_of.Goals as goal

pub returns-in-Some-clause-tag : goal.returns-in-Some-clause-tag
returns-in-Some-clause-tag c =
    if_ok_more c.tagged_bad.result _ _
    (λ bad is. subst (λ (t : Option Tag). IsBad c.args.parts.now (bad_of t)) (sym is.1)
    (says_tagged c.args.parts.now c.in-Some.word.now is.0 c.in-Some.ensures.some is.2)) c.tagged_bad.ensures.tag

pub returns-in-Some-clause-line : goal.returns-in-Some-clause-line
returns-in-Some-clause-line c =
    if_ok_both c.tagged_bad.result _ _ _
    (λ bad is text. subst (λ (t : Option Tag). AreLines (bad_of t ∷ []) bad.line.items) (sym is.1)
    (tells_tagged c.args.parts.now c.in-Some.word.now bad.line.items is.0 c.in-Some.ensures.some is.2 text)) c.tagged_bad.ensures.tag c.tagged_bad.ensures.line

pub returns-in-None-clause-tag : goal.returns-in-None-clause-tag
returns-in-None-clause-tag c =
    if_ok_more c.bare_bad.result _ _ (λ bad is. subst (λ (t : Option Tag). IsBad c.args.parts.now (bad_of t)) (sym is)
    (says_bare c.args.parts.now c.in-None.ensures.none)) c.bare_bad.ensures.tag

pub returns-in-None-clause-line : goal.returns-in-None-clause-line
returns-in-None-clause-line c =
    if_ok_both c.bare_bad.result _ _ _
    (λ bad is text. subst (λ (t : Option Tag). AreLines (bad_of t ∷ []) bad.line.items) (sym is) (tells_bare bad.line.items text))
    c.bare_bad.ensures.tag c.bare_bad.ensures.line

pub returns-in-Some-clause-text : goal.returns-in-Some-clause-text
returns-in-Some-clause-text c =
    if_ok_both c.tagged_bad.result _ _ _
    (λ bad is text. subst (λ (t : Option Tag). (b : IsBad c.args.parts.now (bad_of t)) × (bad.line.items ≡ bad_text c.args.parts.now (bad_of t) b)) (sym is.1)
    (bad_tagged c.args.parts.now c.in-Some.word.now bad.line.items is.0 c.in-Some.ensures.some is.2 text)) c.tagged_bad.ensures.tag c.tagged_bad.ensures.line

pub returns-in-None-clause-text : goal.returns-in-None-clause-text
returns-in-None-clause-text c =
    if_ok_both c.bare_bad.result _ _ _
    (λ bad is text. subst (λ (t : Option Tag). (b : IsBad c.args.parts.now (bad_of t)) × (bad.line.items ≡ bad_text c.args.parts.now (bad_of t) b)) (sym is)
    (bad_bare c.args.parts.now bad.line.items c.in-None.ensures.none text)) c.bare_bad.ensures.tag c.bare_bad.ensures.line
