-- The text of a SELECT is one part: no name of a mailbox is written as a literal (RFC 9051, sections 4.3 and 6.3.2).
use Rattle.std.proofs.Common.{◌≡◌, ℕ, Option, List, [], ◌∷◌, sym, ◌∙◌}
use Rattle.mail_base.specs.BoxName.{IsBoxName}
use Rattle.mail_base.specs.declared.tag.Tag.{Tag}
use Rattle.imap_model.specs.CommandText.{parts_of}
use Rattle.imap_model.specs.TagText.{IsCommandTag}
use Rattle.imap_model.specs.declared.mark.Mark.{Mark}
use Rattle.imap_model.specs.declared.command.Command.TheVariants as commands
use Rattle.imap_model.proofs.OneLine.{IsLine, plain, behind, name_line, tag_line, select_line}
use Rattle.imap_session.specs.Faults.{HasParts}

one_text : (tag : Tag) (name : List ℕ) (since : Option Mark) → IsCommandTag tag → IsBoxName name
    → IsLine (parts_of tag (commands.Select name since))
one_text tag name since tagged is = behind _ _ (tag_line tag tagged) (behind _ _ (plain _) (select_line name since (name_line name is)))

-- so it has no second part
pub select_whole : (tag : Tag) (name : List ℕ) (since : Option Mark) → IsCommandTag tag
    → IsBoxName name → HasParts tag (commands.Select name since)
    → ⊥
select_whole tag name since tagged is parts =
    let one = one_text tag name since tagged is in
    let e : one.text ∷ [] ≡ parts.first ∷ parts.next ∷ parts.behind = sym one.is ∙ parts.text in
    absurd (cc e)
