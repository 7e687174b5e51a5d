-- A FETCH line spells what it is of, where that can be told and held.
use Rattle.std.proofs.Common.{ℕ, ◌<◌, ◌^◌, Bool, List, Some, None, Option}
use Rattle.imap_model.specs.Lines.{IsSpelled}
use Rattle.imap_model.specs.Unfetched.{nothing_fetched}
use Rattle.imap_model.specs.declared.fetched.Fetched.{Fetched}
use Rattle.imap_model.specs.declared.response.Response.TheVariants as responses
use Rattle.response_lines.specs.LineTexts.{fetch_text}
use Rattle.response_lines.specs.Tellable.{IsTellableRow, RowFits}
use Rattle.response_lines.proofs.LineFetch.{row_spelled}
use Rattle.response_lines.proofs.LineIds.{ids_spelled, text_spelled}

abbrev fetched_with : Option ℕ → Option (List (List ℕ)) → Option ℕ → Option (List ℕ) → Option (List ℕ) → Fetched
fetched_with uid flags modseq ids text = record nothing_fetched { uid = uid; flags = flags; modseq = modseq; ids = ids; text = text }

spelled_with : (older : Bool) (number : ℕ) (u : Option ℕ) (f : Option (List (List ℕ))) (m : Option ℕ) (i t : Option (List ℕ)) → 0 < number →
    number < 2 ^ 32 → IsTellableRow u f m i t → RowFits u f m i t
    → IsSpelled (responses.Fetch (fetched_with u f m i t)) (fetch_text older number (fetched_with u f m i t))
spelled_with older number (Some uid) (Some flags) (Some modseq) (Some ids) (Some text) some h tells fits = absurd tells
spelled_with older number (Some uid) (Some flags) (Some modseq) (Some ids) None some h tells fits = absurd tells
spelled_with older number (Some uid) (Some flags) (Some modseq) None (Some text) some h tells fits = absurd tells
spelled_with older number (Some uid) (Some flags) (Some modseq) None None some h tells fits =
    row_spelled older number uid modseq flags some h fits.0.nonzero fits.0.fits fits.1 tells fits.2.positive fits.2.fits
spelled_with older number (Some uid) (Some flags) None (Some ids) (Some text) some h tells fits = absurd tells
spelled_with older number (Some uid) (Some flags) None (Some ids) None some h tells fits = absurd tells
spelled_with older number (Some uid) (Some flags) None None (Some text) some h tells fits = absurd tells
spelled_with older number (Some uid) (Some flags) None None None some h tells fits = absurd tells
spelled_with older number (Some uid) None (Some modseq) (Some ids) (Some text) some h tells fits = absurd tells
spelled_with older number (Some uid) None (Some modseq) (Some ids) None some h tells fits = absurd tells
spelled_with older number (Some uid) None (Some modseq) None (Some text) some h tells fits = absurd tells
spelled_with older number (Some uid) None (Some modseq) None None some h tells fits = absurd tells
spelled_with older number (Some uid) None None (Some ids) (Some text) some h tells fits = absurd tells
spelled_with older number (Some uid) None None (Some ids) None some h tells fits =
    ids_spelled older number uid ids some h fits.0.nonzero fits.0.fits fits.1
spelled_with older number (Some uid) None None None (Some text) some h tells fits =
    text_spelled older number uid text some h fits.0.nonzero fits.0.fits fits.1
spelled_with older number (Some uid) None None None None some h tells fits = absurd tells
spelled_with older number None (Some flags) (Some modseq) (Some ids) (Some text) some h tells fits = absurd tells
spelled_with older number None (Some flags) (Some modseq) (Some ids) None some h tells fits = absurd tells
spelled_with older number None (Some flags) (Some modseq) None (Some text) some h tells fits = absurd tells
spelled_with older number None (Some flags) (Some modseq) None None some h tells fits = absurd tells
spelled_with older number None (Some flags) None (Some ids) (Some text) some h tells fits = absurd tells
spelled_with older number None (Some flags) None (Some ids) None some h tells fits = absurd tells
spelled_with older number None (Some flags) None None (Some text) some h tells fits = absurd tells
spelled_with older number None (Some flags) None None None some h tells fits = absurd tells
spelled_with older number None None (Some modseq) (Some ids) (Some text) some h tells fits = absurd tells
spelled_with older number None None (Some modseq) (Some ids) None some h tells fits = absurd tells
spelled_with older number None None (Some modseq) None (Some text) some h tells fits = absurd tells
spelled_with older number None None (Some modseq) None None some h tells fits = absurd tells
spelled_with older number None None None (Some ids) (Some text) some h tells fits = absurd tells
spelled_with older number None None None (Some ids) None some h tells fits = absurd tells
spelled_with older number None None None None (Some text) some h tells fits = absurd tells
spelled_with older number None None None None None some h tells fits = absurd tells

pub fetch_spelled : (older : Bool) (number : ℕ) (f : Fetched) → 0 < number → number < 2 ^ 32 → IsTellableRow f.uid f.flags f.modseq f.ids f.text →
    RowFits f.uid f.flags f.modseq f.ids f.text
    → IsSpelled (responses.Fetch f) (fetch_text older number f)
fetch_spelled older number f some h tells fits = spelled_with older number f.uid f.flags f.modseq f.ids f.text some h tells fits
