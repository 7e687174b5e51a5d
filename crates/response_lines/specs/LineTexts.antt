-- The text of each line that this server writes, where the standard leaves it a choice (RFC 9051, section 7; RFC 7162, section 3).
use Rattle.std.specs.Prelude.{ℕ, zero, suc, ◌+◌, ◌-◌, Bool, true, false, List, [], ◌∷◌, ◌++◌, length, codes, decimal, Option, Some, None, if◌then◌else◌}
use Rattle.flag_set.specs.FlagText.{list_text}
use Rattle.mail_base.specs.declared.tag.Tag.{Tag}
use Rattle.mail_base.specs.declared.tag.Tag.TheVariants as tags
use Rattle.uid_sets.specs.Spelling.{set_text}
use Rattle.uid_sets.specs.declared.uid.UidRange.{UidRange}
use Rattle.imap_model.specs.Responses.{ending_word}
use Rattle.imap_model.specs.declared.code.Code.{Code}
use Rattle.imap_model.specs.declared.code.Code.TheVariants as codings
use Rattle.imap_model.specs.declared.ending.Ending.{Ending}
use Rattle.imap_model.specs.declared.ending.Ending.TheVariants as endings
use Rattle.imap_model.specs.declared.fetched.Fetched.{Fetched}
use Rattle.imap_model.specs.declared.response.Response.{Response}
use Rattle.imap_model.specs.declared.response.Response.TheVariants as responses

-- bytes, and others behind them
infixr 30 ◌⌢◌
unfoldable pub ◌⌢◌ : List ℕ → List ℕ → List ℕ
front ⌢ back = front ++ back

-- words, a space before each
abbrev pub words_text : List (List ℕ) → List ℕ
words_text [] = []
words_text (word ∷ words) = codes " " ⌢ word ⌢ words_text words

-- flags, and a last one behind them
abbrev pub flags_with : List (List ℕ) → List ℕ → List ℕ
flags_with [] last = last
flags_with (key ∷ keys) last = list_text (key ∷ keys) ⌢ codes " " ⌢ last

-- PERMANENTFLAGS: `\*` comes last
abbrev pub permanent_text : List (List ℕ) → Bool → List ℕ
permanent_text keys any = if any then flags_with keys (codes "\\*") else list_text keys

-- FETCH: `\Recent` comes last where IMAP4rev2 isn't offered
abbrev pub flags_text : Bool → List (List ℕ) → List ℕ
flags_text older keys = if older then flags_with keys (codes "\\Recent") else list_text keys

-- the name of a code without a meaning here
abbrev pub other_code : Ending → List ℕ
other_code endings.Ok = codes "READ-WRITE"
other_code endings.No = codes "TRYCREATE"
other_code endings.Bad = codes "CLIENTBUG"

-- what stands between the brackets
abbrev pub inner_text : Ending → Code → List ℕ
inner_text ending codings.None = []
inner_text ending (codings.Capability words) = codes "CAPABILITY" ⌢ words_text words
inner_text ending (codings.UidNext uid) = codes "UIDNEXT " ⌢ decimal uid
inner_text ending (codings.UidValidity validity) = codes "UIDVALIDITY " ⌢ decimal validity
inner_text ending (codings.PermanentFlags flags any) = codes "PERMANENTFLAGS (" ⌢ permanent_text flags any ⌢ codes ")"
inner_text ending (codings.HighestModSeq modseq) = codes "HIGHESTMODSEQ " ⌢ decimal modseq
inner_text ending codings.NoModSeq = codes "NOMODSEQ"
inner_text ending codings.UidNotSticky = codes "UIDNOTSTICKY"
inner_text ending (codings.AppendUid validity uid) = codes "APPENDUID " ⌢ decimal validity ⌢ codes " " ⌢ decimal uid
inner_text ending (codings.CopyUid validity source target) = codes "COPYUID " ⌢ decimal validity ⌢ codes " " ⌢ set_text source ⌢ codes " " ⌢ set_text target
inner_text ending (codings.Modified uids) = codes "MODIFIED " ⌢ set_text uids
inner_text ending codings.Closed = codes "CLOSED"
inner_text ending codings.Other = other_code ending

-- the code in its brackets, and these words behind it
abbrev pub code_text : Ending → Code → List ℕ → List ℕ
code_text ending codings.None last = codes " " ⌢ last
code_text ending code last = codes " [" ⌢ inner_text ending code ⌢ codes "] " ⌢ last

-- a tag of this client
abbrev pub tag_text : Tag → List ℕ
tag_text (tags.Play number) = codes "P" ⌢ decimal number
tag_text (tags.Again id turn) = codes "P" ⌢ decimal id ⌢ codes "R" ⌢ decimal turn
tag_text (tags.Count number) = codes "C" ⌢ decimal number
tag_text tags.Strange = codes "X"

-- a number behind a space, for each of so many from this one on
abbrev pub count_text : ℕ → ℕ → List ℕ
count_text least zero = []
count_text least (suc count) = codes " " ⌢ decimal least ⌢ count_text (least + 1) count

-- the members of a set, a space before each
abbrev pub members_text : List UidRange → List ℕ
members_text [] = []
members_text (range ∷ ranges) = count_text range.low (range.high + 1 - range.low) ⌢ members_text ranges

-- ESEARCH of a set, which isn't told where it is empty
abbrev pub all_text : List UidRange → List ℕ
all_text [] = []
all_text (range ∷ ranges) = codes " ALL " ⌢ set_text (range ∷ ranges)

abbrev pub found_text : Bool → Tag → List UidRange → List ℕ
found_text older tag uids =
    if older then codes "* SEARCH" ⌢ members_text uids else codes "* ESEARCH (TAG \"" ⌢ tag_text tag ⌢ codes "\") UID" ⌢ all_text uids

-- the flags and the mod-sequence of a message, its Message-ID fields, and its whole text
abbrev pub row_text : Bool → ℕ → List (List ℕ) → ℕ → List ℕ
row_text older uid flags modseq =
    codes "UID " ⌢ decimal uid ⌢ codes " FLAGS (" ⌢ flags_text older flags ⌢ codes ") MODSEQ (" ⌢ decimal modseq ⌢ codes "))"

abbrev pub ids_front : ℕ → List ℕ
ids_front uid = codes "UID " ⌢ decimal uid ⌢ codes " BODY[HEADER.FIELDS (MESSAGE-ID)] "

abbrev pub text_front : ℕ → List ℕ
text_front uid = codes "UID " ⌢ decimal uid ⌢ codes " BODY[] "

abbrev pub literal_text : List ℕ → List ℕ
literal_text octets = codes "{" ⌢ decimal (length octets) ⌢ codes "}\r\n" ⌢ octets

-- what stands behind the parenthesis of a FETCH
abbrev pub items_text : Bool → Option ℕ → Option (List (List ℕ)) → Option ℕ → Option (List ℕ) → Option (List ℕ) → List ℕ
items_text older (Some uid) (Some flags) (Some modseq) None None = row_text older uid flags modseq
items_text older (Some uid) None None (Some ids) None = ids_front uid ⌢ literal_text ids ⌢ codes ")"
items_text older (Some uid) None None None (Some text) = text_front uid ⌢ literal_text text ⌢ codes ")"
items_text older uid flags modseq ids text = []

-- the lines that no standard asks for: the first two are of IMAP4rev1, and what follows is unknown
abbrev pub other_text : ℕ → List ℕ
other_text zero = codes "* 0 RECENT"
other_text (suc zero) = codes "* FLAGS (\\Answered \\Flagged \\Deleted \\Seen \\Draft)"
other_text (suc (suc before)) = codes "* XNOTE 1"

-- how a line is spelled: IMAP4rev2 isn't offered, the tag of the command that is answered, the number of the message that
-- a row is of, and how many lines without a meaning came before
pub record Manner : Type 0 where
  pub older : Bool
  pub tag : Tag
  pub number : ℕ
  pub others : ℕ

-- each line, without its CRLF
abbrev pub done_text : Tag → Ending → Code → List ℕ
done_text tag ending code = tag_text tag ⌢ codes " " ⌢ ending_word ending ⌢ code_text ending code (codes "done")

abbrev pub untagged_text : Ending → Code → List ℕ
untagged_text ending code = codes "* " ⌢ ending_word ending ⌢ code_text ending code (codes "done")

abbrev pub preauth_text : Code → List ℕ
preauth_text code = codes "* PREAUTH" ⌢ code_text endings.Ok code (codes "done")

abbrev pub capability_text : List (List ℕ) → List ℕ
capability_text words = codes "* CAPABILITY" ⌢ words_text words

abbrev pub enabled_text : List (List ℕ) → List ℕ
enabled_text words = codes "* ENABLED" ⌢ words_text words

abbrev pub exists_text : ℕ → List ℕ
exists_text count = codes "* " ⌢ decimal count ⌢ codes " EXISTS"

abbrev pub fetch_text : Bool → ℕ → Fetched → List ℕ
fetch_text older number f = codes "* " ⌢ decimal number ⌢ codes " FETCH (" ⌢ items_text older f.uid f.flags f.modseq f.ids f.text

abbrev pub vanished_text : Bool → List UidRange → List ℕ
vanished_text true uids = codes "* VANISHED (EARLIER) " ⌢ set_text uids
vanished_text false uids = codes "* VANISHED " ⌢ set_text uids

abbrev pub line_of : Manner → Response → List ℕ
line_of m (responses.Done tag ending code) = done_text tag ending code
line_of m (responses.Untagged ending code) = untagged_text ending code
line_of m responses.Bye = codes "* BYE bye"
line_of m (responses.Preauth code) = preauth_text code
line_of m responses.Go = codes "+ go on"
line_of m (responses.Capability words) = capability_text words
line_of m (responses.Enabled words) = enabled_text words
line_of m (responses.Exists count) = exists_text count
line_of m (responses.Fetch f) = fetch_text m.older m.number f
line_of m (responses.Vanished earlier uids) = vanished_text earlier uids
line_of m (responses.Found uids) = found_text m.older m.tag uids
line_of m responses.Other = other_text m.others

-- the code of the greeting: what is offered, if anything is
abbrev pub greeting_code : List (List ℕ) → Code
greeting_code [] = codings.None
greeting_code (word ∷ words) = codings.Capability (word ∷ words)

-- the CRLF at a line's end
abbrev pub line_end : List ℕ
line_end = codes "\r\n"
