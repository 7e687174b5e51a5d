-- What is kept of responses that are heard one by one, and of which a delta is made (RFC 7162, section 3.2.5).
use Rattle.std.specs.Prelude.{◌≡◌, ℕ, ◌+◌, Bool, false, ◌&&◌, ◌||◌, List, [], ◌∷◌, ◌++◌, length, Option, Some, None, is_none, Result, Ok}
use Rattle.std.specs.Prelude.{if◌then◌else◌}
use Rattle.std.specs.List.{list_any}
use Rattle.std.specs.Option.{option_or, option_to_list, unwrap_or}
use Rattle.uid_sets.specs.declared.uid.UidRange.{UidRange}
use Rattle.mailbox_cache.specs.Rows.{row_at, has_uid}
use Rattle.mailbox_cache.specs.declared.cache.Cache.{Cache}
use Rattle.mailbox_cache.specs.declared.delta.Delta.{Delta}
use Rattle.mailbox_cache.specs.declared.row.Row.{Row}
use Rattle.imap_model.specs.declared.code.Code.{Code}
use Rattle.imap_model.specs.declared.replies.Replies.{Replies}
use Rattle.imap_model.specs.declared.response.Response.{Response}
use Rattle.qresync_core.specs.Behind.{closed_len, behind_closed}
use Rattle.qresync_core.specs.Hearing.{nothing_told, heard, heard_all, numbers_told}
use Rattle.qresync_core.specs.ReadRows.{told_row, is_bare, rows_in, last_row, first_bare}
use Rattle.qresync_core.specs.Resync.{judged_by}
use Rattle.qresync_core.specs.ToldCodes.{code_of}
use Rattle.qresync_core.specs.ToldGone.{tells_gone, is_told_gone, tells_empty}
use Rattle.qresync_core.specs.declared.codes.Codes.{Codes}
use Rattle.qresync_core.specs.declared.fault.ResyncFault.{ResyncFault}
use Rattle.qresync_core.specs.declared.maker.DeltaMaker.{DeltaMaker}

-- the codes of untagged OK, NO and BAD, in the order in which they are told
abbrev pub codes_before : List Response → List Code
codes_before [] = []
codes_before (response ∷ told) = option_to_list (code_of response) ++ codes_before told

-- It stands for these responses.
pub record StandsFor (made : DeltaMaker) (list : List Response) : Type 0 where
  pub count : made.count ≡ length list
  pub told : made.told ≡ heard_all nothing_told (codes_before (behind_closed list))
  pub rows : (uid : ℕ) → row_at uid made.rows ≡ last_row uid (rows_in (behind_closed list))
  pub gone : (uid : ℕ) → has_uid made.gone uid ≡ is_told_gone (behind_closed list) uid
  pub empty : made.empty ≡ list_any tells_empty (behind_closed list)
  pub bare : made.bare ≡ first_bare (closed_len list) (behind_closed list)

-- nothing, after so many responses
abbrev pub anew : ℕ → DeltaMaker
anew count = record { count = count; told = nothing_told; rows = []; gone = []; empty = false; bare = None }

-- what a response tells of a UID's row
abbrev pub row_by : Response → ℕ → Option Row
row_by response uid = row_at uid (option_to_list (told_row response))

-- the number of the first FETCH that is no row, with the next response
abbrev pub bare_with : Response → DeltaMaker → Option ℕ
bare_with response made = option_or made.bare (if is_bare response then Some made.count else None)

-- a response that isn't CLOSED was taken
pub record Takes (response : Response) (old new : DeltaMaker) : Type 0 where
  pub count : new.count ≡ old.count + 1
  pub told : new.told ≡ heard_all old.told (option_to_list (code_of response))
  pub rows : (uid : ℕ) → row_at uid new.rows ≡ option_or (row_by response uid) (row_at uid old.rows)
  pub gone : (uid : ℕ) → has_uid new.gone uid ≡ (has_uid old.gone uid || tells_gone uid response)
  pub empty : new.empty ≡ (old.empty || tells_empty response)
  pub bare : new.bare ≡ bare_with response old

-- what is made of a cache or none: the codes that the delta has, or the first fault
abbrev pub made_judged : Option Cache → DeltaMaker → Code → Option DeltaMaker → Result Codes ResyncFault
made_judged kept made last all = judged_by kept (unwrap_or all made).bare (numbers_told (heard made.told last))

-- whether a UID is gone of which there is this row or none, where these were told to be gone
abbrev pub made_gone : Option Cache → List UidRange → Option Row → ℕ → Bool
made_gone None gone row uid = false
made_gone (Some cache) gone row uid = has_uid gone uid && is_none row

-- a delta with these numbers, and what the makers have
pub record HasMade (kept : Option Cache) (made : DeltaMaker) (all : Option DeltaMaker) (codes : Codes) (delta : Delta) : Type 0 where
  pub whole : delta.whole ≡ is_none kept
  pub validity : delta.validity ≡ codes.validity
  pub uidnext : delta.uidnext ≡ codes.uidnext
  pub highest : delta.highest ≡ codes.highest
  pub rows : (uid : ℕ) → row_at uid delta.rows ≡ row_at uid (unwrap_or all made).rows
  pub vanished : (uid : ℕ) → has_uid delta.vanished uid ≡ made_gone kept made.gone (row_at uid (unwrap_or all made).rows) uid

-- the delta that is made
pub record MakesDelta (kept : Option Cache) (made : DeltaMaker) (last : Code) (all : Option DeltaMaker) (delta : Delta) : Type 0 where
  pub codes : Codes
  pub judged : made_judged kept made last all ≡ Ok codes
  pub has : HasMade kept made all codes delta

-- a maker stands for a reply's responses, or there is neither
abbrev pub StandForAll : Option DeltaMaker → Option Replies → Type 0
StandForAll None None = Unit {0}
StandForAll None (Some all) = ⊥
StandForAll (Some made) None = ⊥
StandForAll (Some made) (Some all) = StandsFor made all.untagged

-- The first maker stands for a reply to SELECT, whose completion has this code, and the other one for the reply to the FETCH of all
-- rows, if there is one.
pub record StandForReplies (made : DeltaMaker) (last : Code) (every : Option DeltaMaker) (selected : Replies) (all : Option Replies) : Type 0 where
  pub select : StandsFor made selected.untagged
  pub code : selected.code ≡ last
  pub fetch : StandForAll every all
