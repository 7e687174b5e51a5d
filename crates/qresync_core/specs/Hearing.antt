-- Codes as they are heard one behind the other (RFC 9051, section 7.1): the same as of all of them together.
use Rattle.std.specs.Prelude.{false, ◌||◌, List, [], ◌∷◌, None, Result, Err, if◌then◌else◌}
use Rattle.std.specs.Option.{option_or}
use Rattle.imap_model.specs.declared.code.Code.{Code}
use Rattle.qresync_core.specs.ToldCodes.{is_no_modseq, is_not_sticky, validity_in, uidnext_in, highest_in, all_three}
use Rattle.qresync_core.specs.declared.codes.Codes.{Codes}
use Rattle.qresync_core.specs.declared.codes.Told.{Told}
use Rattle.qresync_core.specs.declared.fault.CodeFault.{CodeFault}
use Rattle.qresync_core.specs.declared.fault.CodeFault.TheVariants as faults

-- nothing was told yet
abbrev pub nothing_told : Told
nothing_told = record { no_modseq = false; not_sticky = false; validity = None; uidnext = None; highest = None }

-- what was told, with one more code
abbrev pub heard : Told → Code → Told
heard told code = record {
  no_modseq = is_no_modseq code || told.no_modseq;
  not_sticky = is_not_sticky code || told.not_sticky;
  validity = option_or (validity_in code) told.validity;
  uidnext = option_or (uidnext_in code) told.uidnext;
  highest = option_or (highest_in code) told.highest;
}

abbrev pub heard_all : Told → List Code → Told
heard_all told [] = told
heard_all told (code ∷ codes) = heard_all (heard told code) codes

-- the three numbers, or the first fault
abbrev pub numbers_told : Told → Result Codes CodeFault
numbers_told told =
    if told.no_modseq then Err faults.NoModSeq else
    (if told.not_sticky then Err faults.NotSticky else all_three told.validity told.uidnext told.highest)
