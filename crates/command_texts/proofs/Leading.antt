-- Where the front of a command's text ends: at the header of the literal that is awaited.
use Rattle.std.proofs.Common.{◌≡◌, ℕ, List, [], ◌∷◌, ◌++◌, length, decimal, refl, ap, sym, ◌∙◌}
use Rattle.flag_set.specs.FlagText.{list_text}
use Rattle.mail_base.specs.Account.{Credentials}
use Rattle.mail_base.specs.Frames.{header}
use Rattle.mail_base.specs.declared.tag.Tag.{Tag}
use Rattle.imap_model.specs.Astring.{astring_parts, literal}
use Rattle.imap_model.specs.CommandParts.{line, words, number, crlf, wait, ◌⌢◌}
use Rattle.imap_model.specs.CommandText.{response_of, command_parts, parts_of}
use Rattle.imap_model.specs.TagText.{tag_parts}
use Rattle.imap_model.specs.declared.command.Command.{Command}
use Rattle.imap_model.specs.declared.command.Command.TheVariants as commands
use Rattle.imap_model.proofs.Joining.{parts_assoc, literal_is}
use Rattle.command_texts.specs.AwaitedParts.{Awaited, Response, User, Password, Id, Message, announced, begun_parts, front_parts}

-- the part behind a front, which begins with these octets, and the parts behind it
abbrev pub next_of : List ℕ → List (List ℕ) → List ℕ
next_of octets [] = octets
next_of octets (part ∷ parts) = octets ++ part

abbrev pub behind_of : List (List ℕ) → List (List ℕ)
behind_of [] = []
behind_of (part ∷ parts) = parts

-- parts in front of at least two
cut_at : (xs : List (List ℕ)) (a b : List ℕ) (later : List (List ℕ)) → xs ⌢ (a ∷ b ∷ later) ≡ (xs ⌢ line a) ++ b ∷ later
unfolding ◌⌢◌
cut_at [] a b later = refl
cut_at (x ∷ []) a b later = refl
cut_at (x ∷ y ∷ xs) a b later = ap (λ r. x ∷ r) (cut_at (y ∷ xs) a b later)

two_behind : (a b : List ℕ) (later : List (List ℕ)) → (a ∷ b ∷ []) ⌢ later ≡ a ∷ next_of b later ∷ behind_of later
unfolding ◌⌢◌
two_behind a b [] = refl
two_behind a b (p ∷ ps) = refl

-- two parts behind others, and more behind them
pub cut_behind : (xs : List (List ℕ)) (a b : List ℕ) (later : List (List ℕ)) → xs ⌢ ((a ∷ b ∷ []) ⌢ later) ≡ (xs ⌢ line a) ++ next_of b later ∷ behind_of later
cut_behind xs a b later = ap (λ p. xs ⌢ p) (two_behind a b later) ∙ cut_at xs a (next_of b later) (behind_of later)

-- the octets that are awaited; for a response, which announces none, any number does
abbrev pub octets_of : Awaited → ℕ
octets_of Response = 1
octets_of (User octets) = octets
octets_of (Password user octets) = octets
octets_of (Id from octets) = octets
octets_of (Message to flags octets) = octets

-- what the last part of a front ends with
abbrev pub mark_of : Awaited → List ℕ
mark_of Response = crlf
mark_of awaited = header (decimal (octets_of awaited)) ++ crlf

-- what stands before that and behind the tag with its space
abbrev pub lead : Awaited → List (List ℕ)
lead Response = words "AUTHENTICATE PLAIN"
lead (User octets) = words "LOGIN "
lead (Password user octets) = words "LOGIN " ⌢ (astring_parts user ⌢ words " ")
lead (Id from octets) = words "UID SEARCH UID " ⌢ (number from ⌢ words ":* HEADER Message-ID ")
lead (Message to flags octets) = words "APPEND " ⌢ (astring_parts to ⌢ (words " (" ⌢ (line (list_text flags) ⌢ words ") ")))

abbrev pub leading : Tag → Awaited → List (List ℕ)
leading tag awaited = tag_parts tag ⌢ (words " " ⌢ lead awaited)

-- parts of three and five pieces, and others behind
pub behind_three : (a b c later : List (List ℕ)) → a ⌢ (b ⌢ (c ⌢ later)) ≡ (a ⌢ (b ⌢ c)) ⌢ later
behind_three a b c later = sym (parts_assoc a (b ⌢ c) later ∙ ap (λ p. a ⌢ p) (parts_assoc b c later))

pub behind_five : (a b c d e later : List (List ℕ)) → a ⌢ (b ⌢ (c ⌢ (d ⌢ (e ⌢ later)))) ≡ (a ⌢ (b ⌢ (c ⌢ (d ⌢ e)))) ⌢ later
behind_five a b c d e later = ap (λ p. a ⌢ (b ⌢ p)) (behind_three c d e later) ∙ behind_three a b (c ⌢ (d ⌢ e)) later

begun_is : (awaited : Awaited) → begun_parts awaited ≡ lead awaited ⌢ line (mark_of awaited)
begun_is Response = refl
begun_is (User octets) = refl
begun_is (Password user octets) = behind_three (words "LOGIN ") (astring_parts user) (words " ") (announced octets)
begun_is (Id from octets) = behind_three (words "UID SEARCH UID ") (number from) (words ":* HEADER Message-ID ") (announced octets)
begun_is (Message to flags octets) = behind_five (words "APPEND ") (astring_parts to) (words " (") (line (list_text flags)) (words ") ") (announced octets)

-- a front ends with its mark
pub front_is_led : (tag : Tag) (awaited : Awaited) → front_parts tag awaited ≡ leading tag awaited ⌢ line (mark_of awaited)
front_is_led tag awaited = ap (λ p. tag_parts tag ⌢ (words " " ⌢ p)) (begun_is awaited)
    ∙ behind_three (tag_parts tag) (words " ") (lead awaited) (line (mark_of awaited))

-- the end of a command
abbrev pub end : List (List ℕ)
end = line crlf

abbrev account_of : List ℕ → List ℕ → Credentials
account_of user password = record { user = user; password = password }

-- A command whose text has the front, where what is awaited is this. For AUTHENTICATE PLAIN the names are empty.
abbrev pub filled : Awaited → List ℕ → Command
filled Response octets = commands.Plain (account_of [] [])
filled (User n) octets = commands.Login (account_of octets [])
filled (Password user n) octets = commands.Login (account_of user octets)
filled (Id from n) octets = commands.Search from octets
filled (Message to flags n) octets = commands.Append to flags octets

-- what is awaited, as far as it is one part
abbrev pub awaited_text : Awaited → List ℕ → List ℕ
awaited_text Response octets = []
awaited_text awaited octets = octets

-- what stands behind it
abbrev pub tail : Awaited → List (List ℕ)
tail Response = line (response_of (account_of [] [])) ⌢ end
tail (User n) = words " " ⌢ (astring_parts [] ⌢ end)
tail awaited = end

-- the octets are awaited: there are so many, and as an argument they are a literal
abbrev pub Awaits : Awaited → List ℕ → Type 0
Awaits Response octets = Unit {0}
Awaits (Message to flags n) octets = length octets ≡ n
Awaits awaited octets = (length octets ≡ octets_of awaited) × (astring_parts octets ≡ literal octets)

-- the two parts that meet where the front ends
abbrev middle : Awaited → List ℕ → List (List ℕ)
middle awaited octets = mark_of awaited ∷ awaited_text awaited octets ∷ []

literal_middle : (n : ℕ) (octets : List ℕ) → length octets ≡ n → literal octets ≡ (header (decimal n) ++ crlf) ∷ octets ∷ []
literal_middle n octets is = literal_is octets ∙ ap (λ m. (header (decimal m) ++ crlf) ∷ octets ∷ []) is

argument_middle : (n : ℕ) (octets : List ℕ) → (length octets ≡ n) × (astring_parts octets ≡ literal octets) →
    astring_parts octets ≡ (header (decimal n) ++ crlf) ∷ octets ∷ []
argument_middle n octets is = is.1 ∙ literal_middle n octets is.0

command_is : (awaited : Awaited) (octets : List ℕ) → Awaits awaited octets →
    command_parts (filled awaited octets) ⌢ end ≡ lead awaited ⌢ (middle awaited octets ⌢ tail awaited)
command_is Response octets is =
    parts_assoc (words "AUTHENTICATE PLAIN") (wait ⌢ line (response_of (account_of [] []))) end
    ∙ ap (λ p. words "AUTHENTICATE PLAIN" ⌢ p) (parts_assoc wait (line (response_of (account_of [] []))) end)
command_is (User n) octets is =
    parts_assoc (words "LOGIN ") (astring_parts octets ⌢ (words " " ⌢ astring_parts [])) end
    ∙ ap (λ p. words "LOGIN " ⌢ p) (parts_assoc (astring_parts octets) (words " " ⌢ astring_parts []) end
    ∙ ap (λ p. astring_parts octets ⌢ p) (parts_assoc (words " ") (astring_parts []) end)
    ∙ ap (λ p. p ⌢ (words " " ⌢ (astring_parts [] ⌢ end))) (argument_middle n octets is))
command_is (Password user n) octets is =
    ap (λ p. p ⌢ end) (behind_three (words "LOGIN ") (astring_parts user) (words " ") (astring_parts octets))
    ∙ parts_assoc (lead (Password user n)) (astring_parts octets) end ∙ ap (λ p. lead (Password user n) ⌢ (p ⌢ end)) (argument_middle n octets is)
command_is (Id from n) octets is =
    ap (λ p. p ⌢ end) (behind_three (words "UID SEARCH UID ") (number from) (words ":* HEADER Message-ID ") (astring_parts octets))
    ∙ parts_assoc (lead (Id from n)) (astring_parts octets) end ∙ ap (λ p. lead (Id from n) ⌢ (p ⌢ end)) (argument_middle n octets is)
command_is (Message to flags n) octets is =
    ap (λ p. p ⌢ end) (behind_five (words "APPEND ") (astring_parts to) (words " (") (line (list_text flags)) (words ") ") (literal octets))
    ∙ parts_assoc (lead (Message to flags n)) (literal octets) end ∙ ap (λ p. lead (Message to flags n) ⌢ (p ⌢ end)) (literal_middle n octets is)

-- the text of such a command: its front, and what comes behind that
pub filled_is : (tag : Tag) (awaited : Awaited) (octets : List ℕ) → Awaits awaited octets
    → parts_of tag (filled awaited octets) ≡ front_parts tag awaited ++ next_of (awaited_text awaited octets) (tail awaited) ∷ behind_of (tail awaited)
filled_is tag awaited octets is =
    ap (λ p. tag_parts tag ⌢ (words " " ⌢ p)) (command_is awaited octets is)
    ∙ behind_three (tag_parts tag) (words " ") (lead awaited) (middle awaited octets ⌢ tail awaited)
    ∙ cut_behind (leading tag awaited) (mark_of awaited) (awaited_text awaited octets) (tail awaited)
    ∙ ap (λ p. p ++ next_of (awaited_text awaited octets) (tail awaited) ∷ behind_of (tail awaited)) (sym (front_is_led tag awaited))
