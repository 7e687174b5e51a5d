-- A question that is carried out changes nothing at the server.
use Rattle.std.proofs.Common.{◌≡◌, ⊎_elim, ℕ, false, List, Option}
use Rattle.mail_base.specs.declared.tag.Tag.{Tag}
use Rattle.imap_model.specs.CarriedOut.{CarriesOut}
use Rattle.imap_model.specs.Carrying.{Waiting, Accepted}
use Rattle.imap_model.specs.Mutating.{is_mutating}
use Rattle.imap_model.specs.declared.command.Command.{Command}
use Rattle.imap_model.specs.declared.command.Command.TheVariants as commands
use Rattle.imap_model.specs.declared.replies.Replies.{Replies}
use Rattle.imap_model.specs.declared.server.Server.{Server}
use Rattle.imap_model.proofs.Effect.{carried_effect}

-- a question changes nothing
asked_stays : (selected : Option (List ℕ)) (tag : Tag) (command : Command) (s t : Server) → is_mutating command ≡ false →
    Accepted selected tag command s t → t ≡ s
asked_stays selected tag commands.Capability s t question is = is
asked_stays selected tag (commands.Login account) s t question is = is
asked_stays selected tag (commands.Plain account) s t question is = is
asked_stays selected tag (commands.Enable rev2) s t question is = is
asked_stays selected tag (commands.Select name since) s t question is = is
asked_stays selected tag commands.FetchAll s t question is = is
asked_stays selected tag (commands.FetchRow uid) s t question is = is
asked_stays selected tag (commands.Search from id) s t question is = is
asked_stays selected tag (commands.FetchIds uids) s t question is = is
asked_stays selected tag (commands.FetchText uid) s t question is = is
asked_stays selected tag (commands.Store uid since add flags) s t question is = absurd cc
asked_stays selected tag (commands.Shift uid to) s t question is = absurd cc
asked_stays selected tag (commands.Copy uid to) s t question is = absurd cc
asked_stays selected tag (commands.Expunge uid) s t question is = absurd cc
asked_stays selected tag (commands.Append to flags octets) s t question is = absurd cc
asked_stays selected tag commands.Logout s t question is = is

pub question_stays : (w : Waiting) (s : Server) (r : Replies) (t : Server) (after : Option (List ℕ)) → is_mutating w.command ≡ false →
    CarriesOut w s r t after → t ≡ s
question_stays w s r t after question out =
    ⊎_elim (λ (same : t ≡ s). same) (λ (does : Accepted w.selected w.tag w.command s t). asked_stays w.selected w.tag w.command s t question does)
    (carried_effect w s r t after out)
