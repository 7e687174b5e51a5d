-- Parts that are one line: a tag, a mailbox's name, a SELECT whole (RFC 9051, sections 2.2.1, 4.3 and 6.3.2).
use Rattle.std.proofs.Common.{◌≡◌, ℕ, Option, Some, None, Bool, true, false, List, [], ◌++◌, codes, refl, ap, ◌∙◌, arith}
use Rattle.std.specs.List.{list_all}
use Rattle.std.proofs.lemmas.Bool.Decides.{nat_tests}
use Rattle.std.proofs.lemmas.List.Sums.{list_all-from_AllPass}
use Rattle.mail_base.specs.BoxName.{IsNameByte, IsBoxName}
use Rattle.mail_base.specs.declared.tag.Tag.{Tag}
use Rattle.mail_base.specs.declared.tag.Tag.TheVariants.{Play, Again, Count, Strange}
use Rattle.imap_model.specs.Astring.{is_bare, is_quotable, quoted, astring_parts}
use Rattle.imap_model.specs.CommandParts.{line, words, crlf, ◌⌢◌}
use Rattle.imap_model.specs.CommandText.{command_parts}
use Rattle.imap_model.specs.TagText.{tag_parts, IsCommandTag}
use Rattle.imap_model.specs.declared.mark.Mark.{Mark}
use Rattle.imap_model.specs.declared.command.Command.TheVariants as commands

-- the parts are one part
pub record IsLine (parts : List (List ℕ)) : Type 0 where
  pub text : List ℕ
  pub is : parts ≡ line text

pub plain : (text : List ℕ) → IsLine (line text)
plain text = record { text = text; is = refl }

join_lines : (a b : List ℕ) → line a ⌢ line b ≡ line (a ++ b)
unfolding ◌⌢◌
join_lines a b = refl

join_none : (a b : List ℕ) → (line a ⌢ (line b ⌢ [])) ⌢ line crlf ≡ line ((a ++ b) ++ crlf)
unfolding ◌⌢◌
join_none a b = refl

-- one part behind one
pub behind : (xs ys : List (List ℕ)) → IsLine xs → IsLine ys → IsLine (xs ⌢ ys)
behind xs ys x y = record { text = x.text ++ y.text; is = ap (λ p. p ⌢ ys) x.is ∙ ap (λ p. line x.text ⌢ p) y.is ∙ join_lines x.text y.text }

quotable : (b : ℕ) → IsNameByte b → is_quotable b ≡ true
quotable b is = grind (arith, nat_tests, is.low, is.high)

name_from : (name : List ℕ) (b : Bool) → list_all is_quotable name ≡ true → is_bare name ≡ b
    → IsLine (astring_parts name)
name_from name true all is = record { text = name; is = rw is refl }
name_from name false all is = record { text = quoted name; is = rw (is, all) refl }

pub name_line : (name : List ℕ) → IsBoxName name → IsLine (astring_parts name)
name_line name is = name_from name (is_bare name) (list_all-from_AllPass is_quotable name (λ k d within. quotable _ (is.text.bytes k d within))) refl

pub tag_line : (tag : Tag) → IsCommandTag tag → IsLine (tag_parts tag)
tag_line (Play n) is = behind _ _ (plain _) (plain _)
tag_line (Again n t) is = behind _ _ (plain _) (behind _ _ (plain _) (behind _ _ (plain _) (plain _)))
tag_line (Count n) is = behind _ _ (plain _) (plain _)
tag_line Strange is = absurd is

pub select_line : (name : List ℕ) (since : Option Mark) → IsLine (astring_parts name)
    → IsLine (command_parts (commands.Select name since) ⌢ line crlf)
select_line name None is =
    record {
      text = (codes "SELECT " ++ is.text) ++ crlf;
      is = ap (λ p. (words "SELECT " ⌢ (p ⌢ [])) ⌢ line crlf) is.is
          ∙ join_none (codes "SELECT ") is.text;
    }
select_line name (Some mark) is =
    behind _ _ (behind _ _ (plain _) (behind _ _ is (behind _ _ (plain _)
    (behind _ _ (plain _) (behind _ _ (plain _) (behind _ _ (plain _) (plain _))))))) (plain crlf)
