-- What a server tells that is muted, and what one tells that isn't.
use Rattle.std.proofs.Common.{◌≡◌, Bool, true, false, List, [], ◌∷◌, ◌++◌, ap}
use Rattle.std.specs.Prelude.{◌&&◌, if◌then◌else◌}
use Rattle.imap_model.specs.CarriedOut.{told_in}
use Rattle.imap_model.specs.PlainServer.{Turn}
use Rattle.imap_model.specs.declared.code.Code.{Code}
use Rattle.imap_model.specs.declared.code.Code.TheVariants as codings
use Rattle.imap_model.specs.declared.command.Command.{Command}
use Rattle.imap_model.specs.declared.replies.Replies.{Replies}
use Rattle.imap_model.specs.declared.response.Response.{Response}
use Rattle.imap_model.specs.declared.response.Response.TheVariants as responses
use Rattle.mail_base.specs.declared.tag.Tag.{Tag}
use Rattle.response_lines.specs.Tellable.{AreTellable, IsTellableCode}
use Rattle.server_mem.specs.States.{State, is_append_uid, muted_code, plain_at, turn_at}

-- one that isn't muted leaves nothing out
pub unmuted : (s : State) (tag : Tag) (command : Command) → s.muted ≡ false → turn_at s tag command ≡ plain_at s tag command
unmuted s tag command loud =
    let turn : Turn = plain_at s tag command in
    ap (λ (muted : Bool). record turn { replies = record turn.replies { code = muted_code muted turn.replies.code } }) loud

-- one that is muted can spell what it tells
left_out : (out : Bool) (code : Code) → IsTellableCode code → IsTellableCode (if out then codings.None else code)
left_out true code tells = tt
left_out false code tells = tells

spelled : (muted : Bool) (code : Code) → IsTellableCode code → IsTellableCode (muted_code muted code)
spelled muted code tells = left_out (muted && is_append_uid code) code tells

recoded : (tag : Tag) (r : Replies) (code : Code) (told : List Response) → (IsTellableCode r.code → IsTellableCode code)
    → AreTellable (told ++ responses.Done tag r.ending r.code ∷ []) → AreTellable (told ++ responses.Done tag r.ending code ∷ [])
recoded tag r code [] may all = ((all.0.0, may all.0.1), tt)
recoded tag r code (t ∷ told) may all = (all.0, recoded tag r code told may all.1)

pub muted_tellable : (muted : Bool) (tag : Tag) (r : Replies) → AreTellable (told_in tag r)
    → AreTellable (told_in tag (record r { code = muted_code muted r.code }))
muted_tellable muted tag r all = recoded tag r (muted_code muted r.code) r.untagged (spelled muted r.code) all
