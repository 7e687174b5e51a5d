-- What a server offers, as its reply to CAPABILITY tells (RFC 9051, sections 6.1.1, 7.1 and 7.2.2).
use Rattle.std.specs.Prelude.{ℕ, Bool, codes, List, [], ◌∷◌, Option, Some, None}
use Rattle.std.specs.List.{list_any}
use Rattle.std.specs.Str.{str_eq_ignore_ascii_case}
use Rattle.imap_model.specs.declared.code.Code.{Code}
use Rattle.imap_model.specs.declared.code.Code.TheVariants as codings
use Rattle.imap_model.specs.declared.replies.Replies.{Replies}
use Rattle.imap_model.specs.declared.response.Response.{Response}
use Rattle.imap_model.specs.declared.response.Response.TheVariants as responses
use Rattle.imap_session.specs.declared.offer.Offer.{Offer}

-- the name is one of the words, whatever the case of its letters
abbrev pub names : List (List ℕ) → List ℕ → Bool
names words name = list_any (λ word. str_eq_ignore_ascii_case word name) words

-- the capabilities of a code
abbrev pub code_words : Code → Option (List (List ℕ))
code_words codings.None = None
code_words (codings.Capability words) = Some words
code_words (codings.UidNext uid) = None
code_words (codings.UidValidity validity) = None
code_words (codings.PermanentFlags flags any) = None
code_words (codings.HighestModSeq modseq) = None
code_words codings.NoModSeq = None
code_words codings.UidNotSticky = None
code_words (codings.AppendUid validity uid) = None
code_words (codings.CopyUid validity source target) = None
code_words (codings.Modified uids) = None
code_words codings.Closed = None
code_words codings.Other = None

-- the capabilities that an untagged response tells, by itself or by its code; PREAUTH is a greeting alone
abbrev pub told_words : Response → Option (List (List ℕ))
told_words (responses.Done tag ending code) = None
told_words (responses.Untagged ending code) = code_words code
told_words responses.Bye = None
told_words (responses.Preauth code) = None
told_words responses.Go = None
told_words (responses.Capability words) = Some words
told_words (responses.Enabled words) = None
told_words (responses.Exists count) = None
told_words (responses.Fetch fetched) = None
told_words (responses.Vanished earlier uids) = None
told_words (responses.Found uids) = None
told_words responses.Other = None

-- what is told anew stands in place of what was told before
abbrev pub newer : Option (List (List ℕ)) → List (List ℕ) → List (List ℕ)
newer None before = before
newer (Some words) before = words

-- what was told last
abbrev pub last_words : List (List ℕ) → List Response → List (List ℕ)
last_words before [] = before
last_words before (r ∷ rs) = last_words (newer (told_words r) before) rs

-- The list of capabilities that counts is the one told last, the completion's code being the last of all. Where none was told,
-- nothing is offered.
abbrev pub offered : Replies → List (List ℕ)
offered r = newer (code_words r.code) (last_words [] r.untagged)

-- the server offers this
abbrev pub offers : Replies → List ℕ → Bool
offers r name = names (offered r) name

-- of the capabilities that this client asks about, those that a list names
abbrev pub named_in : List (List ℕ) → Offer
named_in words = record {
  qresync = names words (codes "QRESYNC");
  rev2 = names words (codes "IMAP4rev2");
  uidplus = names words (codes "UIDPLUS");
  moves = names words (codes "MOVE");
  plain = names words (codes "AUTH=PLAIN");
  no_login = names words (codes "LOGINDISABLED");
}

-- those that the server offers
abbrev pub offer_of : Replies → Offer
offer_of r = named_in (offered r)
