-- The reading of response codes (RFC 9051, section 7.1; RFC 4315, section 3; RFC 7162, section 3): the text is what stands
-- between the brackets.
use Rattle.std.specs.Prelude.{ℕ, ◌==◌, List, length, codes, None, Result, Ok, Err, if◌then◌else◌}
use Rattle.imap_model.specs.declared.code.Code.{Code}
use Rattle.imap_model.specs.declared.code.Code.TheVariants as codings
use Rattle.imap_response.specs.declared.text_part.Coded.{Coded}
use Rattle.imap_response.specs.Reads.{◌>>=◌}
use Rattle.imap_response.specs.Leaf.{gap_at, wide_at, same_word}
use Rattle.imap_response.specs.ReadNumbers.{nonzero_at, modseq_at}
use Rattle.imap_response.specs.Sets.{set_at}
use Rattle.imap_response.specs.Flags.{Keep, permanent_at}
use Rattle.imap_response.specs.WordLists.{words_at}

-- the code ends here
unfoldable pub closed_at : List ℕ → Result (Unit {0}) ℕ
closed_at text = if length text == 0 then Ok tt else Err (length text)

unfoldable pub bare_at : Code → List ℕ → Result Code ℕ
bare_at code text = do
  end ← closed_at text
  Ok code

-- one word or more
unfoldable pub capability_at : List ℕ → Result Code ℕ
capability_at text = do
  words ← words_at text
  if length words.0 == 0 then Err (length words.1) else (closed_at words.1 >>= λ _. Ok (codings.Capability words.0))

unfoldable pub uid_next_at : List ℕ → Result Code ℕ
uid_next_at text = do
  after ← gap_at text
  uid ← nonzero_at after
  end ← closed_at uid.1
  Ok (codings.UidNext uid.0)

unfoldable pub uid_validity_at : List ℕ → Result Code ℕ
uid_validity_at text = do
  after ← gap_at text
  validity ← nonzero_at after
  end ← closed_at validity.1
  Ok (codings.UidValidity validity.0)

unfoldable pub highest_modseq_at : List ℕ → Result Code ℕ
highest_modseq_at text = do
  after ← gap_at text
  modseq ← modseq_at after
  end ← closed_at modseq.1
  Ok (codings.HighestModSeq modseq.0)

unfoldable pub append_uid_at : List ℕ → Result Code ℕ
append_uid_at text = do
  first ← gap_at text
  validity ← nonzero_at first
  second ← gap_at validity.1
  uid ← nonzero_at second
  end ← closed_at uid.1
  Ok (codings.AppendUid validity.0 uid.0)

unfoldable pub copy_uid_at : List ℕ → Result Code ℕ
copy_uid_at text = do
  first ← gap_at text
  validity ← nonzero_at first
  second ← gap_at validity.1
  source ← set_at second
  third ← gap_at source.1
  target ← set_at third
  end ← closed_at target.1
  Ok (codings.CopyUid validity.0 source.0 target.0)

unfoldable pub modified_at : List ℕ → Result Code ℕ
modified_at text = do
  after ← gap_at text
  uids ← set_at after
  end ← closed_at uids.1
  Ok (codings.Modified uids.0)

-- each code but PERMANENTFLAGS
unfoldable pub plain_code_at : List ℕ → List ℕ → Result Code ℕ
plain_code_at name text =
    if same_word name (codes "CAPABILITY") then capability_at text
    else (if same_word name (codes "UIDNEXT") then uid_next_at text
    else (if same_word name (codes "UIDVALIDITY") then uid_validity_at text
    else (if same_word name (codes "HIGHESTMODSEQ") then highest_modseq_at text
    else (if same_word name (codes "NOMODSEQ") then bare_at codings.NoModSeq text
    else (if same_word name (codes "UIDNOTSTICKY") then bare_at codings.UidNotSticky text
    else (if same_word name (codes "CLOSED") then bare_at codings.Closed text
    else (if same_word name (codes "APPENDUID") then append_uid_at text
    else (if same_word name (codes "COPYUID") then copy_uid_at text
    else (if same_word name (codes "MODIFIED") then modified_at text
    else Ok codings.Other)))))))))

unfoldable pub permanent_flags_at : Keep → List ℕ → Result Coded ℕ
permanent_flags_at keep text = do
  after ← gap_at text
  flags ← permanent_at keep after
  end ← closed_at flags.1
  Ok (record { code = codings.PermanentFlags flags.0.flags flags.0.any; excess = flags.0.excess })

-- a code with nothing too large in it
abbrev pub plainly : Code → Coded
plainly code = record { code = code; excess = None }

-- the code that the text is
unfoldable pub code_at : Keep → List ℕ → Result Coded ℕ
code_at keep text =
    if same_word (wide_at text).0 (codes "PERMANENTFLAGS") then permanent_flags_at keep (wide_at text).1
    else (plain_code_at (wide_at text).0 (wide_at text).1 >>= λ code. Ok (plainly code))
