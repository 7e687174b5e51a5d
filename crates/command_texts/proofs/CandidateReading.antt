-- The text of each command without its tag is read as that command.
use Rattle.std.proofs.Common.{◌≡◌, ◌<◌, ℕ, Bool, true, false, get_or, drop, Option, Some, List, [], ◌∷◌, ◌++◌, length, codes, decimal}
use Rattle.std.proofs.Common.{refl, ap, ◌∙◌, sym, append_assoc, arith}
use Rattle.flag_set.specs.FlagSet.{IsFlagSet}
use Rattle.flag_set.specs.FlagText.{list_text}
use Rattle.mail_base.specs.Account.{Credentials}
use Rattle.mail_base.specs.BoxName.{IsBoxName}
use Rattle.mail_base.specs.declared.tag.Tag.{Tag}
use Rattle.uid_sets.specs.Spelling.{set_text}
use Rattle.uid_sets.specs.UidSet.{IsCanonical}
use Rattle.uid_sets.specs.declared.uid.UidRange.{UidRange}
use Rattle.imap_model.specs.Astring.{astring_parts, literal}
use Rattle.imap_model.specs.CommandParts.{line, words, number, crlf, ◌⌢◌}
use Rattle.imap_model.specs.CommandText.{command_parts, mark_parts, response_of, sign}
use Rattle.imap_model.specs.Held.{IsHeld, IsHeldAccount, IsHeldMark, IsModSeq, IsNonzero32}
use Rattle.imap_model.specs.OneText.{IsText}
use Rattle.imap_model.specs.TagText.{tag_parts}
use Rattle.imap_model.specs.declared.command.Command.{Command}
use Rattle.imap_model.specs.declared.command.Command.TheVariants as commands
use Rattle.imap_model.specs.declared.mark.Mark.{Mark}
use Rattle.imap_model.proofs.Joining.{parts_assoc, some_behind, literal_is}
use Rattle.command_texts.specs.HeardParts.{IsWhole}
use Rattle.command_texts.proofs.CommandReading.{mark_end, mark_is}
use Rattle.command_texts.proofs.FrontReading.{IsLone, one_name, Tagged, tagged_from}

-- pieces, and others behind them all
behind_two : (a b z : List (List ℕ)) → (a ⌢ b) ⌢ z ≡ a ⌢ (b ⌢ z)
behind_two a b z = parts_assoc a b z

behind_three : (a b d z : List (List ℕ)) → (a ⌢ (b ⌢ d)) ⌢ z ≡ a ⌢ (b ⌢ (d ⌢ z))
behind_three a b d z = parts_assoc a (b ⌢ d) z ∙ ap (λ p. a ⌢ p) (behind_two b d z)

behind_four : (a b d e z : List (List ℕ)) → (a ⌢ (b ⌢ (d ⌢ e))) ⌢ z ≡ a ⌢ (b ⌢ (d ⌢ (e ⌢ z)))
behind_four a b d e z = parts_assoc a (b ⌢ (d ⌢ e)) z ∙ ap (λ p. a ⌢ p) (behind_three b d e z)

behind_six : (a b d e f g z : List (List ℕ)) → (a ⌢ (b ⌢ (d ⌢ (e ⌢ (f ⌢ g))))) ⌢ z ≡ a ⌢ (b ⌢ (d ⌢ (e ⌢ (f ⌢ (g ⌢ z)))))
behind_six a b d e f g z =
    parts_assoc a (b ⌢ (d ⌢ (e ⌢ (f ⌢ g)))) z ∙ ap (λ p. a ⌢ p) (parts_assoc b (d ⌢ (e ⌢ (f ⌢ g))) z ∙ ap (λ p. b ⌢ p) (behind_four d e f g z))

behind_nine : (a b d e f g h i j z : List (List ℕ)) → (a ⌢ (b ⌢ (d ⌢ (e ⌢ (f ⌢ (g ⌢ (h ⌢ (i ⌢ j)))))))) ⌢ z
    ≡ a ⌢ (b ⌢ (d ⌢ (e ⌢ (f ⌢ (g ⌢ (h ⌢ (i ⌢ (j ⌢ z))))))))
behind_nine a b d e f g h i j z =
    parts_assoc a (b ⌢ (d ⌢ (e ⌢ (f ⌢ (g ⌢ (h ⌢ (i ⌢ j))))))) z ∙ ap (λ p. a ⌢ p) (
    parts_assoc b (d ⌢ (e ⌢ (f ⌢ (g ⌢ (h ⌢ (i ⌢ j)))))) z ∙ ap (λ p. b ⌢ p) (
    parts_assoc d (e ⌢ (f ⌢ (g ⌢ (h ⌢ (i ⌢ j))))) z ∙ ap (λ p. d ⌢ p) (behind_six e f g h i j z)))

-- parts that begin with a word: the word, and what stands behind it
record Behind (word : List ℕ) (parts : List (List ℕ)) (text : List ℕ) (later : List (List ℕ)) : Type 0 where
  first : List ℕ
  is : text ≡ word ++ first
  next : first ∷ later ≡ parts

behind : (word : List ℕ) (parts : List (List ℕ)) (text : List ℕ) (later : List (List ℕ)) → 0 < length parts →
    text ∷ later ≡ line word ⌢ parts → Behind word parts text later
unfolding ◌⌢◌
behind word [] text later some is = absurd (omega (arith, some))
behind word (p ∷ parts) text later some is =
    let same : text ≡ word ++ p = cc in
    let others : later ≡ parts = cc in
    record { first = p; is = same; next = ap (λ x. p ∷ x) others }

-- What the readers promise of texts that they can be given: that this command is read.
pub record ReadsUids (Read : Command → Type 0) (text : List ℕ) (later : List (List ℕ)) : Type 0 where
  pub all : text ≡ codes "FETCH " ++ (codes "1:*" ++ (codes " (UID FLAGS MODSEQ)" ++ crlf)) → Read commands.FetchAll
  pub row : (uid : ℕ) → IsNonzero32 uid → text ≡ codes "FETCH " ++ (decimal uid ++ (codes " (UID FLAGS MODSEQ)" ++ crlf)) → Read (commands.FetchRow uid)
  pub ids : (uids : List UidRange) → IsCanonical uids → text ≡ codes "FETCH "
      ++ (set_text uids ++ (codes " (UID BODY.PEEK[HEADER.FIELDS (MESSAGE-ID)])" ++ crlf))
      → Read (commands.FetchIds uids)
  pub shift : (uid : ℕ) (to first : List ℕ) → IsNonzero32 uid → IsBoxName to → text ≡ codes "MOVE " ++ first
      → first ∷ [] ≡ number uid ⌢ (words " " ⌢ (astring_parts to ⌢ line crlf)) → Read (commands.Shift uid to)
  pub whole : (uid : ℕ) → IsNonzero32 uid → text ≡ codes "FETCH " ++ (decimal uid ++ (codes " (UID BODY.PEEK[])" ++ crlf)) → Read (commands.FetchText uid)
  pub copy : (uid : ℕ) (to first : List ℕ) → IsNonzero32 uid → IsBoxName to → text ≡ codes "COPY " ++ first
      → first ∷ [] ≡ number uid ⌢ (words " " ⌢ (astring_parts to ⌢ line crlf)) → Read (commands.Copy uid to)
  pub expunge : (uid : ℕ) → IsNonzero32 uid → text ≡ codes "EXPUNGE " ++ (decimal uid ++ crlf) → Read (commands.Expunge uid)
  pub search : (from : ℕ) (id first : List ℕ) → IsNonzero32 from → IsText id → text ≡ codes "SEARCH UID " ++ first
      → first ∷ later ≡ number from ⌢ (words ":* HEADER Message-ID " ⌢ (astring_parts id ⌢ line crlf)) → Read (commands.Search from id)
  pub store : (uid since : ℕ) (add : Bool) (flags : List (List ℕ)) (first : List ℕ) → IsNonzero32 uid → IsModSeq since → IsFlagSet flags →
      text ≡ codes "STORE " ++ first
      → first ∷ [] ≡ number uid ⌢ (words " (UNCHANGEDSINCE " ⌢ (number since ⌢
      (words ") " ⌢ (sign add ⌢ (words "FLAGS (" ⌢ (line (list_text flags) ⌢ (words ")" ⌢ line crlf)))))))
      → Read (commands.Store uid since add flags)

pub record ReadsLogin (Read : Command → Type 0) (text : List ℕ) (later : List (List ℕ)) : Type 0 where
  pub login : (account : Credentials) (first : List ℕ) → IsHeldAccount account → text ≡ codes "LOGIN " ++ first
      → first ∷ later ≡ astring_parts account.user ⌢ (words " " ⌢ (astring_parts account.password ⌢ line crlf)) → Read (commands.Login account)
  pub logout : text ≡ codes "LOGOUT" ++ crlf → Read commands.Logout

abbrev pub ReadsPlain : (Command → Type 0) → List (List ℕ) → Type 0
ReadsPlain Read later = (account : Credentials) → IsHeldAccount account → later ≡ (response_of account ++ crlf) ∷ [] → Read (commands.Plain account)

abbrev pub ReadsSelect : (Command → Type 0) → List ℕ → Type 0
ReadsSelect Read text = (name : List ℕ) (since : Option Mark) → IsBoxName name → IsHeldMark since →
    text ∷ [] ≡ astring_parts name ⌢ (mark_parts since ⌢ line crlf)
    → Read (commands.Select name since)

abbrev pub ReadsAppend : (Command → Type 0) → List ℕ → List (List ℕ) → Type 0
ReadsAppend Read text later = (to : List ℕ) (flags : List (List ℕ)) (octets : List ℕ) (end : List ℕ) (behind : List (List ℕ)) →
    IsBoxName to → IsFlagSet flags → IsText octets
    → text ∷ [] ≡ astring_parts to ⌢ (words " (" ⌢ (line (list_text flags) ⌢ (words ") " ⌢ line (123 ∷ (decimal (length octets) ++ 125 ∷ end)))))
    → later ≡ (octets ++ crlf) ∷ [] → Read (commands.Append to flags octets)

pub record ReadsWord (Read : Command → Type 0) (text : List ℕ) : Type 0 where
  pub capability : text ≡ codes "CAPABILITY" ++ crlf → Read commands.Capability
  pub enable : text ≡ codes "ENABLE QRESYNC" ++ crlf → Read (commands.Enable false)
  pub rev2 : text ≡ codes "ENABLE IMAP4rev2 QRESYNC" ++ crlf → Read (commands.Enable true)

-- what stands behind a name of one part is in that part too
name_alone : (name rest first : List ℕ) (later : List (List ℕ)) → IsLone (astring_parts name) → first ∷ later ≡ astring_parts name ⌢ line rest → later ≡ []
unfolding ◌⌢◌
name_alone name rest first later one is =
    let whole : first ∷ later ≡ (one.part ++ rest) ∷ [] = is ∙ ap (λ p. p ⌢ line rest) one.is in
    cc

move_alone : (uid : ℕ) (to first : List ℕ) (later : List (List ℕ)) → IsLone (astring_parts to) →
    first ∷ later ≡ number uid ⌢ (words " " ⌢ (astring_parts to ⌢ line crlf)) → later ≡ []
unfolding ◌⌢◌
move_alone uid to first later one is =
    let whole : first ∷ later ≡ (decimal uid ++ (codes " " ++ (one.part ++ crlf))) ∷ [] = is ∙ ap (λ p. number uid ⌢ (words " " ⌢ (p ⌢ line crlf))) one.is in
    cc

store_alone : (uid since : ℕ) (add : Bool) (flags : List (List ℕ)) (first : List ℕ) (later : List (List ℕ))
    → first ∷ later ≡ number uid ⌢ (words " (UNCHANGEDSINCE " ⌢ (number since ⌢
    (words ") " ⌢ (sign add ⌢ (words "FLAGS (" ⌢ (line (list_text flags) ⌢ (words ")" ⌢ line crlf))))))) → later ≡ []
unfolding ◌⌢◌
store_alone uid since true flags first later is = cc
store_alone uid since false flags first later is = cc

-- an APPEND in its two parts
record AppendText (to : List ℕ) (flags : List (List ℕ)) (octets first : List ℕ) (later : List (List ℕ)) : Type 0 where
  front : first ∷ [] ≡ astring_parts to ⌢ (words " (" ⌢ (line (list_text flags) ⌢ (words ") " ⌢ line (123 ∷ (decimal (length octets) ++ 125 ∷ crlf)))))
  text : later ≡ (octets ++ crlf) ∷ []

literal_ends : (octets : List ℕ) → literal octets ⌢ line crlf ≡ (123 ∷ (decimal (length octets) ++ 125 ∷ crlf)) ∷ (octets ++ crlf) ∷ []
unfolding ◌⌢◌
literal_ends octets = ap (λ p. p ⌢ line crlf) (literal_is octets)
    ∙ ap (λ x. (123 ∷ x) ∷ (octets ++ crlf) ∷ []) (append_assoc (decimal (length octets)) (125 ∷ []) crlf)

append_text : (to : List ℕ) (flags : List (List ℕ)) (octets first : List ℕ) (later : List (List ℕ)) → IsLone (astring_parts to)
    → first ∷ later ≡ astring_parts to ⌢ (words " (" ⌢ (line (list_text flags) ⌢ (words ") " ⌢ (literal octets ⌢ line crlf)))) →
    AppendText to flags octets first later
unfolding ◌⌢◌
append_text to flags octets first later one is =
    let size = 123 ∷ (decimal (length octets) ++ 125 ∷ crlf) in
    let whole : first ∷ later ≡ (one.part ++ (codes " (" ++ (list_text flags ++ (codes ") " ++ size)))) ∷ (octets ++ crlf) ∷ []
    = is ∙ ap (λ p. astring_parts to ⌢ (words " (" ⌢ (line (list_text flags) ⌢ (words ") " ⌢ p)))) (literal_ends octets)
    ∙ ap (λ p. p ⌢ (words " (" ⌢ (line (list_text flags) ⌢ (words ") " ⌢ (size ∷ (octets ++ crlf) ∷ []))))) one.is in
    let front : first ≡ one.part ++ (codes " (" ++ (list_text flags ++ (codes ") " ++ size))) = cc in
    record {
      front = ap (λ x. x ∷ []) front ∙ sym (ap (λ p. p ⌢ (words " (" ⌢ (line (list_text flags) ⌢ (words ") " ⌢ line size)))) one.is);
      text = cc;
    }

plain_text : (account : Credentials) (text : List ℕ) (later : List (List ℕ)) → text ∷ later ≡ command_parts (commands.Plain account) ⌢ line crlf
    → (text ≡ codes "AUTHENTICATE PLAIN" ++ crlf) × (later ≡ (response_of account ++ crlf) ∷ [])
unfolding ◌⌢◌
plain_text account text later is = (cc, cc)

word_text : (word text : List ℕ) (later : List (List ℕ)) → text ∷ later ≡ line word ⌢ line crlf → text ≡ word ++ crlf
unfolding ◌⌢◌
word_text word text later is = cc

one_part : (word a b : List ℕ) → line word ⌢ (line a ⌢ (line b ⌢ line crlf)) ≡ line (word ++ (a ++ (b ++ crlf)))
unfolding ◌⌢◌
one_part word a b = refl

two_parts : (word a : List ℕ) → line word ⌢ (line a ⌢ line crlf) ≡ line (word ++ (a ++ crlf))
unfolding ◌⌢◌
two_parts word a = refl

two_text : (word a text : List ℕ) (later : List (List ℕ)) → text ∷ later ≡ (line word ⌢ line a) ⌢ line crlf → text ≡ word ++ (a ++ crlf)
two_text word a text later is =
    let whole = is ∙ behind_two (line word) (line a) (line crlf) ∙ two_parts word a in
    cc

three_text : (word a b text : List ℕ) (later : List (List ℕ)) → text ∷ later ≡ (line word ⌢ (line a ⌢ line b)) ⌢ line crlf → text ≡ word ++ (a ++ (b ++ crlf))
three_text word a b text later is =
    let whole = is ∙ behind_three (line word) (line a) (line b) (line crlf) ∙ one_part word a b in
    cc

some_end : (xs : List (List ℕ)) → 0 < length (xs ⌢ line crlf)
some_end xs = some_behind xs (line crlf) (omega arith)

-- The second byte tells which reader reads the text.
module _ (Read : Command → Type 0) (kind : ℕ) (text : List ℕ) (later : List (List ℕ)) (byte : kind ≡ get_or text 1 0)
    (uids : kind ≡ 73 → ReadsUids Read (drop 4 text) later) (login : kind ≡ 79 → ReadsLogin Read text later) (plain : kind ≡ 85 → ReadsPlain Read later)
    (select : kind ≡ 69 → ReadsSelect Read (drop 7 text)) (append : kind ≡ 80 → ReadsAppend Read (drop 7 text) later)
    (word : (kind ≡ 73 → ⊥) → (kind ≡ 79 → ⊥) → (kind ≡ 85 → ⊥) → (kind ≡ 69 → ⊥) → (kind ≡ 80 → ⊥) → ReadsWord Read text) where
  begins : (whole : List ℕ) → text ≡ whole → kind ≡ get_or whole 1 0
  begins whole is = byte ∙ ap (λ x. get_or x 1 0) is

  capability : kind ≡ 65 → ReadsWord Read text
  capability is = word (λ k. omega (arith, is, k)) (λ k. omega (arith, is, k)) (λ k. omega (arith, is, k)) (λ k. omega (arith, is, k))
      (λ k. omega (arith, is, k))

  enable : kind ≡ 78 → ReadsWord Read text
  enable is = word (λ k. omega (arith, is, k)) (λ k. omega (arith, is, k)) (λ k. omega (arith, is, k)) (λ k. omega (arith, is, k)) (λ k. omega (arith, is, k))

  pub command_read : (command : Command) → IsHeld command → text ∷ later ≡ command_parts command ⌢ line crlf → Read command
  command_read commands.Capability held is =
      let t = word_text (codes "CAPABILITY") text later is in
      (capability (begins _ t)).capability t
  command_read (commands.Login account) held is =
      let b = behind (codes "LOGIN ") _ text later (some_behind (astring_parts account.user) _
      (some_behind (words " ") _ (some_end (astring_parts account.password))))
      (is ∙ behind_four (words "LOGIN ") (astring_parts account.user) (words " ") (astring_parts account.password) (line crlf)) in
      (login (begins _ b.is)).login account b.first held b.is b.next
  command_read (commands.Plain account) held is =
      let t = plain_text account text later is in
      plain (begins _ t.0) account held t.1
  command_read (commands.Enable true) held is =
      let t = word_text (codes "ENABLE IMAP4rev2 QRESYNC") text later is in
      (enable (begins _ t)).rev2 t
  command_read (commands.Enable false) held is =
      let t = word_text (codes "ENABLE QRESYNC") text later is in
      (enable (begins _ t)).enable t
  command_read (commands.Select name since) held is =
      let b = behind (codes "SELECT ") _ text later (some_behind (astring_parts name) _ (some_end (mark_parts since)))
      (is ∙ behind_three (words "SELECT ") (astring_parts name) (mark_parts since) (line crlf)) in
      let alone = name_alone name (mark_end since) b.first later (one_name name held.0) (b.next ∙ ap (λ p. astring_parts name ⌢ p) (mark_is since)) in
      select (begins _ b.is) name since held.0 held.1 (ap (λ x. drop 7 x ∷ []) b.is ∙ ap (λ l. b.first ∷ l) (sym alone) ∙ b.next)
  command_read commands.FetchAll held is =
      let t = word_text (codes "UID FETCH 1:* (UID FLAGS MODSEQ)") text later is in
      (uids (begins _ t)).all (ap (drop 4) t)
  command_read (commands.FetchRow uid) held is =
      let t = three_text (codes "UID FETCH ") (decimal uid) (codes " (UID FLAGS MODSEQ)") text later is in
      (uids (begins _ t)).row uid held (ap (drop 4) t)
  command_read (commands.Search from id) held is =
      let b = behind (codes "UID SEARCH UID ") _ text later (some_behind (number from) _
      (some_behind (words ":* HEADER Message-ID ") _ (some_end (astring_parts id))))
      (is ∙ behind_four (words "UID SEARCH UID ") (number from) (words ":* HEADER Message-ID ") (astring_parts id) (line crlf)) in
      (uids (begins _ b.is)).search from id b.first held.0 held.1 (ap (drop 4) b.is) b.next
  command_read (commands.FetchIds set) held is =
      let t = three_text (codes "UID FETCH ") (set_text set) (codes " (UID BODY.PEEK[HEADER.FIELDS (MESSAGE-ID)])") text later is in
      (uids (begins _ t)).ids set held (ap (drop 4) t)
  command_read (commands.FetchText uid) held is =
      let t = three_text (codes "UID FETCH ") (decimal uid) (codes " (UID BODY.PEEK[])") text later is in
      (uids (begins _ t)).whole uid held (ap (drop 4) t)
  command_read (commands.Store uid since add flags) held is =
      let b = behind (codes "UID STORE ") _ text later
      (some_behind (number uid) _ (some_behind (words " (UNCHANGEDSINCE ") _
      (some_behind (number since) _ (some_behind (words ") ") _ (some_behind (sign add) _
      (some_behind (words "FLAGS (") _ (some_behind (line (list_text flags)) _ (some_end (words ")")))))))))
      (is ∙ behind_nine (words "UID STORE ") (number uid) (words " (UNCHANGEDSINCE ") (number since) (words ") ") (sign add)
      (words "FLAGS (") (line (list_text flags)) (words ")") (line crlf)) in
      (uids (begins _ b.is)).store uid since add flags b.first held.0 held.1 held.2 (ap (drop 4) b.is)
      (ap (λ l. b.first ∷ l) (sym (store_alone uid since add flags b.first later b.next)) ∙ b.next)
  command_read (commands.Shift uid to) held is =
      let b = behind (codes "UID MOVE ") _ text later (some_behind (number uid) _ (some_behind (words " ") _ (some_end (astring_parts to))))
      (is ∙ behind_four (words "UID MOVE ") (number uid) (words " ") (astring_parts to) (line crlf)) in
      (uids (begins _ b.is)).shift uid to b.first held.0 held.1 (ap (drop 4) b.is)
      (ap (λ l. b.first ∷ l) (sym (move_alone uid to b.first later (one_name to held.1) b.next)) ∙ b.next)
  command_read (commands.Copy uid to) held is =
      let b = behind (codes "UID COPY ") _ text later (some_behind (number uid) _ (some_behind (words " ") _ (some_end (astring_parts to))))
      (is ∙ behind_four (words "UID COPY ") (number uid) (words " ") (astring_parts to) (line crlf)) in
      (uids (begins _ b.is)).copy uid to b.first held.0 held.1 (ap (drop 4) b.is)
      (ap (λ l. b.first ∷ l) (sym (move_alone uid to b.first later (one_name to held.1) b.next)) ∙ b.next)
  command_read (commands.Expunge uid) held is =
      let t = two_text (codes "UID EXPUNGE ") (decimal uid) text later is in
      (uids (begins _ t)).expunge uid held (ap (drop 4) t)
  command_read (commands.Append to flags octets) held is =
      let b = behind (codes "APPEND ") _ text later (some_behind (astring_parts to) _
      (some_behind (words " (") _ (some_behind (line (list_text flags)) _ (some_behind (words ") ") _ (some_end (literal octets))))))
      (is ∙ behind_six (words "APPEND ") (astring_parts to) (words " (") (line (list_text flags)) (words ") ") (literal octets) (line crlf)) in
      let t = append_text to flags octets b.first later (one_name to held.0) b.next in
      append (begins _ b.is) to flags octets crlf [] held.0 held.1 held.2 (ap (λ x. drop 7 x ∷ []) b.is ∙ t.front) t.text
  command_read commands.Logout held is =
      let t = word_text (codes "LOGOUT") text later is in
      (login (begins _ t)).logout t

-- the whole text of a command: the first part has the tag, and behind it what the command's text begins with
pub whole_tagged : (tag : Tag) (command : Command) (parts : List (List ℕ)) (part : List ℕ) (later : List (List ℕ)) →
    IsWhole tag command parts → parts ≡ part ∷ later
    → Tagged tag (command_parts command ⌢ line crlf) part later
whole_tagged tag command parts part later whole same =
    tagged_from tag (command_parts command ⌢ line crlf) part later whole.sent.writable.tagged whole.sent.tag_fits
    (some_end (command_parts command)) (whole.text ∙ same)

pub some_whole : (tag : Tag) (command : Command) (parts : List (List ℕ)) → IsWhole tag command parts → length parts ≡ 0 → ⊥
some_whole tag command parts whole none =
    let some = some_behind (tag_parts tag) (words " " ⌢ (command_parts command ⌢ line crlf)) (some_behind (words " ") _ (some_end (command_parts command))) in
    omega (arith, some, none, ap length whole.text)

pub same_candidate : (found command : Command) → Some found ≡ Some command → found ≡ command
same_candidate found command same = cc
