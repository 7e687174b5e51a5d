-- The text of a mailbox's name is kept as that name.
use Rattle.std.proofs.Common.{◌≡◌, ℕ, Bool, true, false, List, map, codes, refl, sym, ◌∙◌}
use Rattle.std.specs.Char.{to_ascii_lowercase}
use Rattle.std.specs.Str.{bytes_eq}
use Rattle.flag_set.proofs.Keys.{keys_same}
use Rattle.mail_base.specs.BoxName.{IsBoxName, IsInbox, KeptAs}

kept_from : (name kept : List ℕ) (b : Bool) → b ≡ bytes_eq (map to_ascii_lowercase name) (codes "inbox") → IsBoxName name → KeptAs name kept → kept ≡ name
kept_from name kept true is name_is keeps =
    let inbox : IsInbox name = (keys_same (map to_ascii_lowercase name) (codes "inbox") true is).0 refl in
    keeps.inbox inbox ∙ sym (name_is.capitals inbox)
kept_from name kept false is name_is keeps = keeps.other (λ inbox. let e = (keys_same (map to_ascii_lowercase name) (codes "inbox") false is).1 inbox in cc)

pub kept_name : (text name kept : List ℕ) → IsBoxName name → text ≡ name → KeptAs text kept → kept ≡ name
kept_name text name kept is same keeps = kept_from name kept (bytes_eq (map to_ascii_lowercase name) (codes "inbox")) refl is (rw same at keeps)
