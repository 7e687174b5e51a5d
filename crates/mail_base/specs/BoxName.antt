-- Names of mailboxes (RFC 9051, section 5.1), as far as this client takes them.
use Rattle.std.specs.Prelude.{◌≡◌, ◌≢◌, ◌≤◌, ◌<◌, ℕ, List, length, map, take, slice_index, All, codes}
use Rattle.std.specs.Char.{to_ascii_lowercase}

-- a printable byte other than `"`, `%`, `&`, `*` and `\`
pub record IsNameByte (byte : ℕ) : Type 0 where
  pub low : 32 ≤ byte
  pub high : byte ≤ 126
  pub quote : byte ≢ 34
  pub percent : byte ≢ 37
  pub ampersand : byte ≢ 38
  pub star : byte ≢ 42
  pub backslash : byte ≢ 92

-- 1 to 128 such bytes
pub record IsBoxText (text : List ℕ) : Type 0 where
  pub some : 0 < length text
  pub few : length text ≤ 128
  pub bytes : All IsNameByte text

-- the text is INBOX in some case
abbrev pub IsInbox : List ℕ → Type 0
IsInbox text = map to_ascii_lowercase text ≡ codes "inbox"

-- the name that is kept for a text: INBOX in capitals for INBOX in any case, and else the text as it is
pub record KeptAs (text name : List ℕ) : Type 0 where
  pub inbox : IsInbox text → name ≡ codes "INBOX"
  pub other : ¬ (IsInbox text) → name ≡ text

-- the first byte that isn't allowed
pub record IsFirstBad (text : List ℕ) (at : ℕ) : Type 0 where
  pub there : at < length text
  pub before : All IsNameByte (take at text)
  pub bad : ¬ (IsNameByte (slice_index text at))

-- a name as it is kept: INBOX stands in capitals
pub record IsBoxName (name : List ℕ) : Type 0 where
  pub text : IsBoxText name
  pub capitals : IsInbox name → name ≡ codes "INBOX"
