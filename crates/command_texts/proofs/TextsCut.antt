-- Each part of a command's text is a part as the server cuts them.
use Rattle.std.proofs.Common.{◌≡◌, ℕ, ◌<◌, ◌^◌, Bool, true, false, cond, ◌&&◌, nat_lt, not, List, [], ◌∷◌, ◌++◌, length, decimal, codes}
use Rattle.std.proofs.Common.{Option, Some, None, refl, ap, sym, ◌∙◌, subst, arith}
use Rattle.std.specs.List.{list_all}
use Rattle.std.specs.Str.{str_eq_ignore_ascii_case}
use Rattle.std.proofs.lemmas.Bool.{and_parts}
use Rattle.std.proofs.lemmas.List.{append_assoc, append-nil}
use Rattle.flag_set.specs.FlagText.{list_text}
use Rattle.mail_base.specs.Frames.{header}
use Rattle.mail_base.specs.Account.{Credentials}
use Rattle.mail_base.specs.BoxName.{IsBoxName}
use Rattle.mail_base.specs.declared.tag.Tag.{Tag}
use Rattle.mail_base.specs.declared.tag.Tag.TheVariants.{Play, Again, Count, Strange}
use Rattle.uid_sets.specs.Spelling.{set_text}
use Rattle.imap_model.specs.Astring.{is_bare, is_quotable, quoted, literal, astring_parts}
use Rattle.imap_model.specs.CommandParts.{line, words, number, before, joined, crlf, ◌⌢◌}
use Rattle.imap_model.specs.CommandText.{response_of, mark_parts, sign, command_parts, parts_of}
use Rattle.imap_model.specs.Held.{IsHeld, IsHeldMark, IsSent}
use Rattle.imap_model.specs.OneText.{IsKeptTag}
use Rattle.imap_model.specs.TagText.{tag_parts, IsCommandTag}
use Rattle.imap_model.specs.Tagged.{is_astring_byte}
use Rattle.imap_model.specs.declared.mark.Mark.{Mark}
use Rattle.imap_model.specs.declared.command.Command.{Command}
use Rattle.imap_model.specs.declared.command.Command.TheVariants as commands
use Rattle.imap_model.proofs.Joining.{parts_assoc, parts_nil, literal_is}
use Rattle.command_texts.specs.Cutting.{IsDue, IsPart, NoCrlf}
use Rattle.command_texts.proofs.HeaderEnds.{due_behind, none_due, due_last}
use Rattle.command_texts.proofs.PlainBytes.{Plain, plain_both, plain_parts, plain_number, plain_bare, plain_quoted, plain_list, plain_set, plain_response}

-- a part that isn't ended: the octets that are due, and plain bytes behind them
record Begun (due : ℕ) (part : List ℕ) : Type 0 where
  octets : List ℕ
  tail : List ℕ
  fits : length octets ≡ due
  plain : Plain tail
  text : part ≡ octets ++ tail

-- a part that is
record Ended (due : ℕ) (part : List ℕ) : Type 0 where
  octets : List ℕ
  tail : List ℕ
  fits : length octets ≡ due
  plain : Plain tail
  text : part ≡ (octets ++ tail) ++ crlf

-- parts of which the last isn't ended, and so many octets are due in the first
abbrev Open : ℕ → List (List ℕ) → Type 0
Open due [] = ⊥
Open due (part ∷ []) = Begun due part
Open due (part ∷ next ∷ later) = Ended due part × ((octets : ℕ) × IsDue (part ∷ []) octets × Open octets (next ∷ later))

-- parts that are all ended
abbrev Whole : ℕ → List (List ℕ) → Type 0
Whole due [] = ⊥
Whole due (part ∷ []) = Ended due part
Whole due (part ∷ next ∷ later) = Ended due part × ((octets : ℕ) × IsDue (part ∷ []) octets × Whole octets (next ∷ later))

open_cons : (due : ℕ) (part : List ℕ) (octets : ℕ) (rest : List (List ℕ)) → Ended due part → IsDue (part ∷ []) octets → Open octets rest →
    Open due (part ∷ rest)
open_cons due part octets [] ended is rest = absurd rest
open_cons due part octets (next ∷ later) ended is rest = (ended, (octets, is, rest))

whole_cons : (due : ℕ) (part : List ℕ) (octets : ℕ) (rest : List (List ℕ)) → Ended due part → IsDue (part ∷ []) octets →
    Whole octets rest → Whole due (part ∷ rest)
whole_cons due part octets [] ended is rest = absurd rest
whole_cons due part octets (next ∷ later) ended is rest = (ended, (octets, is, rest))

-- what comes behind goes on with the last part
open_joined : (due : ℕ) (part : List ℕ) (parts later : List (List ℕ)) → Open due (part ∷ parts)
    → ((octets : ℕ) (last : List ℕ) → Begun octets last → Open octets (before last later)) → Open due (joined part parts later)
open_joined due part [] later is then = then due part is
open_joined due part (next ∷ parts) later is then =
    open_cons due part is.1.0 (joined next parts later) is.0 is.1.1 (open_joined is.1.0 next parts later is.1.2 then)

open_then : (due : ℕ) (parts later : List (List ℕ)) → Open due parts
    → ((octets : ℕ) (last : List ℕ) → Begun octets last → Open octets (before last later)) → Open due (parts ⌢ later)
unfolding ◌⌢◌
open_then due [] later is then = absurd is
open_then due (part ∷ parts) later is then = open_joined due part parts later is then

whole_joined : (due : ℕ) (part : List ℕ) (parts later : List (List ℕ)) → Open due (part ∷ parts)
    → ((octets : ℕ) (last : List ℕ) → Begun octets last → Whole octets (before last later)) → Whole due (joined part parts later)
whole_joined due part [] later is then = then due part is
whole_joined due part (next ∷ parts) later is then =
    whole_cons due part is.1.0 (joined next parts later) is.0 is.1.1 (whole_joined is.1.0 next parts later is.1.2 then)

whole_then : (due : ℕ) (parts later : List (List ℕ)) → Open due parts
    → ((octets : ℕ) (last : List ℕ) → Begun octets last → Whole octets (before last later)) → Whole due (parts ⌢ later)
unfolding ◌⌢◌
whole_then due [] later is then = absurd is
whole_then due (part ∷ parts) later is then = whole_joined due part parts later is then

-- plain bytes behind a part
begun_more : (due : ℕ) (part bytes : List ℕ) → Begun due part → Plain bytes → Begun due (part ++ bytes)
begun_more due part bytes is plain = record {
  octets = is.octets;
  tail = is.tail ++ bytes;
  fits = is.fits;
  plain = plain_both is.tail bytes is.plain plain;
  text = ap (λ x. x ++ bytes) is.text ∙ append_assoc is.octets is.tail bytes;
}

ends : (due : ℕ) (part : List ℕ) → Begun due part → Ended due (part ++ crlf)
ends due part is = record { octets = is.octets; tail = is.tail; fits = is.fits; plain = is.plain; text = ap (λ x. x ++ crlf) is.text }

with_line : (due : ℕ) (parts : List (List ℕ)) (bytes : List ℕ) → Open due parts → Plain bytes → Open due (parts ⌢ line bytes)
with_line due parts bytes is plain = open_then due parts (line bytes) is (λ octets last begun. begun_more octets last bytes begun plain)

-- a literal behind a part
digits_plain : (n : ℕ) → n < 2 ^ 64 → Plain (header (decimal n))
digits_plain n fits = plain_both (decimal n) (125 ∷ []) (plain_number n fits) refl

literal_behind : (due : ℕ) (last octets : List ℕ) → length octets < 2 ^ 64 → Begun due last →
    Open due (before last ((header (decimal (length octets)) ++ crlf) ∷ octets ∷ []))
literal_behind due last octets fits is =
    let size = header (decimal (length octets)) in
    let same : (last ++ size) ++ crlf ≡ last ++ (size ++ crlf) = append_assoc last size crlf in (
      subst (Ended due) same (ends due (last ++ size) (begun_more due last size is (digits_plain (length octets) fits))),
      (
        length octets,
        subst (λ part. IsDue (part ∷ []) (length octets)) same (due_behind last (length octets) fits),
        record { octets = octets; tail = []; fits = refl; plain = refl; text = sym (append-nil octets) },
      ),
    )

with_literal : (due : ℕ) (parts : List (List ℕ)) (octets : List ℕ) → Open due parts → length octets < 2 ^ 64 → Open due (parts ⌢ literal octets)
with_literal due parts octets is fits =
    subst (λ later. Open due (parts ⌢ later)) (sym (literal_is octets))
    (open_then due parts ((header (decimal (length octets)) ++ crlf) ∷ octets ∷ []) is (λ n last begun. literal_behind n last octets fits begun))

-- an argument behind a part
bare_all : (bytes : List ℕ) → is_bare bytes ≡ true → list_all is_astring_byte bytes ≡ true
bare_all bytes is = (and_parts (nat_lt 0 (length bytes) && not (str_eq_ignore_ascii_case bytes (codes "NIL"))) (list_all is_astring_byte bytes) is).1

argument_from : (due : ℕ) (parts : List (List ℕ)) (bytes : List ℕ) (b q : Bool) → Open due parts → length bytes < 2 ^ 64 →
    is_bare bytes ≡ b → list_all is_quotable bytes ≡ q
    → Open due (parts ⌢ cond b (line bytes) (cond q (line (quoted bytes)) (literal bytes)))
argument_from due parts bytes true q is fits bare quotable = with_line due parts bytes is (plain_bare bytes (bare_all bytes bare))
argument_from due parts bytes false true is fits bare quotable = with_line due parts (quoted bytes) is (plain_quoted bytes quotable)
argument_from due parts bytes false false is fits bare quotable = with_literal due parts bytes is fits

with_argument : (due : ℕ) (parts : List (List ℕ)) (bytes : List ℕ) → Open due parts → length bytes < 2 ^ 64 → Open due (parts ⌢ astring_parts bytes)
with_argument due parts bytes is fits = argument_from due parts bytes (is_bare bytes) (list_all is_quotable bytes) is fits refl refl

-- what can stand behind any open parts, and what can end them
Passes : List (List ℕ) → Type 0
Passes piece = (due : ℕ) (parts : List (List ℕ)) → Open due parts → Open due (parts ⌢ piece)

Closes : List (List ℕ) → Type 0
Closes piece = (due : ℕ) (parts : List (List ℕ)) → Open due parts → Whole due (parts ⌢ piece)

pass_line : (bytes : List ℕ) → Plain bytes → Passes (line bytes)
unfolding Passes
pass_line bytes plain = λ due parts is. with_line due parts bytes is plain

pass_number : (n : ℕ) → n < 2 ^ 64 → Passes (number n)
pass_number n fits = pass_line (decimal n) (plain_number n fits)

pass_argument : (bytes : List ℕ) → length bytes < 2 ^ 64 → Passes (astring_parts bytes)
unfolding Passes
pass_argument bytes fits = λ due parts is. with_argument due parts bytes is fits

pass_literal : (octets : List ℕ) → length octets < 2 ^ 64 → Passes (literal octets)
unfolding Passes
pass_literal octets fits = λ due parts is. with_literal due parts octets is fits

pass_both : (one two : List (List ℕ)) → Passes one → Passes two → Passes (one ⌢ two)
unfolding Passes
pass_both one two first second = λ due parts is. subst (Open due) (parts_assoc parts one two) (second due (parts ⌢ one) (first due parts is))

close_behind : (one two : List (List ℕ)) → Passes one → Closes two → Closes (one ⌢ two)
unfolding Passes Closes
close_behind one two first second = λ due parts is. subst (Whole due) (parts_assoc parts one two) (second due (parts ⌢ one) (first due parts is))

close_line : Closes (line crlf)
unfolding Closes
close_line = λ due parts is. whole_then due parts (line crlf) is (λ octets last begun. ends octets last begun)

-- nothing at all
pass_nothing : Passes []
unfolding Passes ◌⌢◌
pass_nothing = λ due parts is. subst (Open due) (sym (parts_nil parts)) is

-- AUTHENTICATE PLAIN and the response
plain_is : (account : Credentials) → command_parts (commands.Plain account) ≡ (codes "AUTHENTICATE PLAIN" ++ crlf) ∷ response_of account ∷ []
unfolding ◌⌢◌
plain_is account = refl

plain_behind : (due : ℕ) (last response : List ℕ) → Plain response → Begun due last →
    Open due (before last ((codes "AUTHENTICATE PLAIN" ++ crlf) ∷ response ∷ []))
plain_behind due last response plain is =
    let same : (last ++ codes "AUTHENTICATE PLAIN") ++ crlf ≡ last ++ (codes "AUTHENTICATE PLAIN" ++ crlf) =
    append_assoc last (codes "AUTHENTICATE PLAIN") crlf in
    let cut : (last ++ codes "AUTHENTICATE PLAI") ++ 78 ∷ [] ≡ last ++ codes "AUTHENTICATE PLAIN" = append_assoc last (codes "AUTHENTICATE PLAI") (78 ∷ []) in (
      subst (Ended due) same (ends due (last ++ codes "AUTHENTICATE PLAIN") (begun_more due last (codes "AUTHENTICATE PLAIN") is refl)),
      (
        0,
        subst (λ part. IsDue (part ∷ []) 0) (ap (λ x. x ++ crlf) cut ∙ same) (none_due (last ++ codes "AUTHENTICATE PLAI") 78 (λ e. omega (arith, e))),
        record { octets = []; tail = response; fits = refl; plain = plain; text = refl },
      ),
    )

pass_plain : (account : Credentials) → Passes (command_parts (commands.Plain account))
unfolding Passes
pass_plain account = λ due parts is.
    subst (λ later. Open due (parts ⌢ later)) (sym (plain_is account))
    (open_then due parts ((codes "AUTHENTICATE PLAIN" ++ crlf) ∷ response_of account ∷ []) is
    (λ n last begun. plain_behind n last (response_of account) (plain_response account) begun))

pass_mark : (since : Option Mark) → IsHeldMark since → Passes (mark_parts since)
pass_mark None held = pass_nothing
pass_mark (Some mark) held =
    pass_both (words " (QRESYNC (") _ (pass_line (codes " (QRESYNC (") refl)
    (pass_both (number mark.validity) _ (pass_number mark.validity (omega (arith, held.0.fits)))
    (pass_both (words " ") _ (pass_line (codes " ") refl)
    (pass_both (number mark.modseq) (words "))") (pass_number mark.modseq (omega (arith, held.1.fits))) (pass_line (codes "))") refl))))

pass_sign : (add : Bool) → Passes (sign add)
pass_sign true = pass_line (codes "+") refl
pass_sign false = pass_line (codes "-") refl

name_short : (name : List ℕ) → IsBoxName name → length name < 2 ^ 64
name_short name is = omega (arith, is.text.few)

pass_command : (command : Command) → IsHeld command → Passes (command_parts command)
pass_command commands.Capability held = pass_line (codes "CAPABILITY") refl
pass_command (commands.Login account) held =
    pass_both (words "LOGIN ") _ (pass_line (codes "LOGIN ") refl)
    (pass_both (astring_parts account.user) _ (pass_argument account.user held.kept.user.short)
    (pass_both (words " ") (astring_parts account.password) (pass_line (codes " ") refl) (pass_argument account.password held.kept.password.short)))
pass_command (commands.Plain account) held = pass_plain account
pass_command (commands.Enable true) held = pass_line (codes "ENABLE IMAP4rev2 QRESYNC") refl
pass_command (commands.Enable false) held = pass_line (codes "ENABLE QRESYNC") refl
pass_command (commands.Select name since) held =
    pass_both (words "SELECT ") _ (pass_line (codes "SELECT ") refl)
    (pass_both (astring_parts name) (mark_parts since) (pass_argument name (name_short name held.0)) (pass_mark since held.1))
pass_command commands.FetchAll held = pass_line (codes "UID FETCH 1:* (UID FLAGS MODSEQ)") refl
pass_command (commands.FetchRow uid) held =
    pass_both (words "UID FETCH ") _ (pass_line (codes "UID FETCH ") refl)
    (pass_both (number uid) (words " (UID FLAGS MODSEQ)") (pass_number uid (omega (arith, held.fits))) (pass_line (codes " (UID FLAGS MODSEQ)") refl))
pass_command (commands.Search from id) held =
    pass_both (words "UID SEARCH UID ") _ (pass_line (codes "UID SEARCH UID ") refl)
    (pass_both (number from) _ (pass_number from (omega (arith, held.0.fits)))
    (pass_both (words ":* HEADER Message-ID ") (astring_parts id) (pass_line (codes ":* HEADER Message-ID ") refl) (pass_argument id held.1.short)))
pass_command (commands.FetchIds uids) held =
    pass_both (words "UID FETCH ") _ (pass_line (codes "UID FETCH ") refl)
    (pass_both (line (set_text uids)) (words " (UID BODY.PEEK[HEADER.FIELDS (MESSAGE-ID)])") (pass_line (set_text uids) (plain_set uids held))
    (pass_line (codes " (UID BODY.PEEK[HEADER.FIELDS (MESSAGE-ID)])") refl))
pass_command (commands.FetchText uid) held =
    pass_both (words "UID FETCH ") _ (pass_line (codes "UID FETCH ") refl)
    (pass_both (number uid) (words " (UID BODY.PEEK[])") (pass_number uid (omega (arith, held.fits))) (pass_line (codes " (UID BODY.PEEK[])") refl))
pass_command (commands.Store uid since add flags) held =
    pass_both (words "UID STORE ") _ (pass_line (codes "UID STORE ") refl)
    (pass_both (number uid) _ (pass_number uid (omega (arith, held.0.fits)))
    (pass_both (words " (UNCHANGEDSINCE ") _ (pass_line (codes " (UNCHANGEDSINCE ") refl)
    (pass_both (number since) _ (pass_number since (omega (arith, held.1.fits)))
    (pass_both (words ") ") _ (pass_line (codes ") ") refl)
    (pass_both (sign add) _ (pass_sign add)
    (pass_both (words "FLAGS (") _ (pass_line (codes "FLAGS (") refl)
    (pass_both (line (list_text flags)) (words ")") (pass_line (list_text flags) (plain_list flags held.2.flags)) (pass_line (codes ")") refl))))))))
pass_command (commands.Shift uid to) held =
    pass_both (words "UID MOVE ") _ (pass_line (codes "UID MOVE ") refl)
    (pass_both (number uid) _ (pass_number uid (omega (arith, held.0.fits)))
    (pass_both (words " ") (astring_parts to) (pass_line (codes " ") refl) (pass_argument to (name_short to held.1))))
pass_command (commands.Copy uid to) held =
    pass_both (words "UID COPY ") _ (pass_line (codes "UID COPY ") refl)
    (pass_both (number uid) _ (pass_number uid (omega (arith, held.0.fits)))
    (pass_both (words " ") (astring_parts to) (pass_line (codes " ") refl) (pass_argument to (name_short to held.1))))
pass_command (commands.Expunge uid) held =
    pass_both (words "UID EXPUNGE ") (number uid) (pass_line (codes "UID EXPUNGE ") refl) (pass_number uid (omega (arith, held.fits)))
pass_command (commands.Append to flags octets) held =
    pass_both (words "APPEND ") _ (pass_line (codes "APPEND ") refl)
    (pass_both (astring_parts to) _ (pass_argument to (name_short to held.0))
    (pass_both (words " (") _ (pass_line (codes " (") refl)
    (pass_both (line (list_text flags)) _ (pass_line (list_text flags) (plain_list flags held.1.flags))
    (pass_both (words ") ") (literal octets) (pass_line (codes ") ") refl) (pass_literal octets held.2.short)))))
pass_command commands.Logout held = pass_line (codes "LOGOUT") refl

open_tag : (tag : Tag) → IsCommandTag tag → IsKeptTag tag → Open 0 (tag_parts tag)
unfolding ◌⌢◌
open_tag (Play n) is fits = record {
  octets = [];
  tail = codes "P" ++ decimal n;
  fits = refl;
  plain =
      plain_both (codes "P") (decimal n) refl (plain_number n (omega (arith, fits)));
  text = refl;
}
open_tag (Again n t) is fits = record {
  octets = [];
  tail = codes "P" ++ (decimal n ++ (codes "R" ++ decimal t));
  fits = refl;
  plain =
      plain_both (codes "P") (decimal n ++ (codes "R" ++ decimal t)) refl
      (plain_both (decimal n) (codes "R" ++ decimal t) (plain_number n (omega (arith, fits)))
      (plain_both (codes "R") (decimal t) refl (plain_number t (omega (arith, is.2)))));
  text = refl;
}
open_tag (Count n) is fits = record {
  octets = [];
  tail = codes "C" ++ decimal n;
  fits = refl;
  plain =
      plain_both (codes "C") (decimal n) refl (plain_number n (omega (arith, fits)));
  text = refl;
}
open_tag Strange is fits = absurd is

-- a command's text is whole parts
whole_text : (tag : Tag) (command : Command) → IsSent tag command → Whole 0 (parts_of tag command)
unfolding Closes
whole_text tag command sent =
    close_behind (words " ") _ (pass_line (codes " ") refl) (close_behind (command_parts command) (line crlf) (pass_command command sent.held) close_line)
    0 (tag_parts tag) (open_tag tag sent.writable.tagged sent.tag_fits)

-- each of them is a part behind those before it
no_crlf : (bytes : List ℕ) → Plain bytes → NoCrlf bytes
no_crlf bytes plain = λ front rest is. cc (plain_parts front (13 ∷ 10 ∷ rest) (rw is at plain)).1

ended_part : (earlier : List (List ℕ)) (due : ℕ) (part : List ℕ) → IsDue earlier due → Ended due part → IsPart earlier part
ended_part earlier due part is ended = record {
  octets = ended.octets;
  line = ended.tail;
  due = subst (IsDue earlier) (sym ended.fits) is;
  plain = no_crlf ended.tail ended.plain;
  text = ended.text;
}

first_ended : (due : ℕ) (part : List ℕ) (behind : List (List ℕ)) → Whole due (part ∷ behind) → Ended due part
first_ended due part [] whole = whole
first_ended due part (next ∷ later) whole = whole.0

rest_whole : (due : ℕ) (part : List ℕ) (earlier : List (List ℕ)) (one : List ℕ) (behind : List (List ℕ)) → Whole due (part ∷ (earlier ++ one ∷ behind))
    → (octets : ℕ) × IsDue (part ∷ []) octets × Whole octets (earlier ++ one ∷ behind)
rest_whole due part [] one behind whole = whole.1
rest_whole due part (next ∷ earlier) one behind whole = whole.1

part_in : (front : List (List ℕ)) (due : ℕ) (earlier : List (List ℕ)) (part : List ℕ) (behind : List (List ℕ)) → IsDue front due →
    Whole due (earlier ++ part ∷ behind)
    → IsPart (front ++ earlier) part
part_in front due [] part behind is whole = ended_part (front ++ []) due part (subst (λ x. IsDue x due) (sym (append-nil front)) is)
    (first_ended due part behind whole)
part_in front due (first ∷ earlier) part behind is whole =
    let rest = rest_whole due first earlier part behind whole in
    subst (λ x. IsPart x part) (append_assoc front (first ∷ []) earlier)
    (part_in (front ++ first ∷ []) rest.0 earlier part behind (due_last front first rest.0 rest.1) rest.2)

pub part_of_text : (tag : Tag) (command : Command) (earlier : List (List ℕ)) (part : List ℕ) (behind : List (List ℕ)) → IsSent tag command
    → parts_of tag command ≡ earlier ++ part ∷ behind → IsPart earlier part
part_of_text tag command earlier part behind sent same = part_in [] 0 earlier part behind refl (subst (Whole 0) same (whole_text tag command sent))
