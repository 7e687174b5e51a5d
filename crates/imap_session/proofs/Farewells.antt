-- The end of a session.
use Rattle.std.proofs.Common.{◌≡◌, ◌≢◌, inr, ℕ, false, IsTrue, List, [], ◌∷◌, ◌++◌, Option, length, codes, decimal}
use Rattle.std.proofs.Common.{refl, sym, ◌∙◌, ap}
use Rattle.std.proofs.lemmas.List.{append-nil}
use Rattle.mail_base.specs.declared.frame.Frame.{Frame}
use Rattle.mail_base.specs.declared.tag.Tag.{Tag}
use Rattle.mail_base.specs.declared.tag.Tag.TheVariants as tags
use Rattle.literal_feed.specs.Stream.{Stream}
use Rattle.imap_model.specs.CommandText.{parts_of}
use Rattle.imap_model.specs.CommandParts.{◌⌢◌, crlf}
use Rattle.imap_model.specs.Held.{IsSent}
use Rattle.imap_model.specs.declared.code.Code.{Code}
use Rattle.imap_model.specs.declared.command.Command.TheVariants as commands
use Rattle.imap_model.specs.declared.ending.Ending.{Ending}
use Rattle.imap_model.specs.declared.ending.Ending.TheVariants as endings
use Rattle.imap_model.specs.declared.response.Response.{Response}
use Rattle.imap_model.specs.declared.response.Response.TheVariants as responses
use Rattle.world_traits.specs.LinkState.{Connection}
use Rattle.world_traits.specs.Moments.{Clock}
use Rattle.imap_session.specs.Causes.{LastLine}
use Rattle.imap_session.specs.Faults.{Unfit}
use Rattle.imap_session.specs.Hearing.{Hears}
use Rattle.imap_session.specs.Knowing.{NoEnd}
use Rattle.imap_session.specs.Leaving.{IsFarewell, Left, Staying}
use Rattle.imap_session.specs.Sent.{joined}
use Rattle.imap_session.specs.Session.{IsReady, Stands, waiting_of}
use Rattle.imap_session.specs.declared.fault.SessionFault.{SessionFault}
use Rattle.imap_session.proofs.Outcomes.{not_true}
use Rattle.imap_session.proofs.Sending.{begins_sending, unfit_weaker}

-- the text of LOGOUT is one part
logout_text : ℕ → List ℕ
logout_text n = (codes "C" ++ decimal n) ++ (codes " " ++ (codes "LOGOUT" ++ crlf))

logout_line : (n : ℕ) → parts_of (tags.Count n) commands.Logout ≡ logout_text n ∷ []
unfolding ◌⌢◌ logout_text
logout_line n = refl

pub logout_alone : (n : ℕ) → length (parts_of (tags.Count n) commands.Logout) ≡ 1
logout_alone n = ap (λ (xs : List (List ℕ)). length xs) (logout_line n)

-- at rest, that part is to be sent
pub logout_ready : (selected : Option (List ℕ)) (tag : Tag) (parts : List (List ℕ)) (text : List ℕ) (k : Clock) (c : Option Connection)
    (feed : Stream)
    → Stands selected k c feed → IsSent tag commands.Logout → parts ≡ parts_of tag commands.Logout → parts ≡ text ∷ []
    → IsReady (waiting_of selected tag commands.Logout) [] text [] k k c feed
logout_ready selected tag parts text k c feed stands sent is one = record {
  sending = begins_sending (waiting_of selected tag commands.Logout) k c feed stands;
  part_of = record { sent = sent; text = sym is ∙ one };
}

-- all of it was sent
pub logout_sent : (tag : Tag) (parts : List (List ℕ)) (text : List ℕ) → parts ≡ parts_of tag commands.Logout → parts ≡ text ∷ []
    → text ≡ joined (parts_of tag commands.Logout)
logout_sent tag parts text is one = sym (append-nil text) ∙ ap joined (sym one ∙ is)

-- what was heard up to the farewell
pub left_so : (heard rows : List Response) (last : Response) (tag : Tag) (c : Option Connection) (feed : Stream)
    → Hears (heard ++ (rows ++ last ∷ [])) c feed → NoEnd false rows → IsFarewell tag last → Left heard tag c
left_so heard rows last tag c feed h first farewell = record { rows = rows; last = last; feed = feed; hears = h; first = first; farewell = farewell }

-- a fault of the last line
pub stays_so : (heard : List Response) (tag : Tag) (had : List ℕ) (c : Option Connection) (frame : Frame) (response : Response) (fault : SessionFault)
    → LastLine heard frame response had c
    → Unfit tag ⊥ frame response fault × (response ≢ responses.Bye) → Staying heard tag had c fault
stays_so heard tag had c frame response fault line why = inr
    (record { frame = frame; response = response; line = line; unfit = why.0; other = why.1 })

-- the last line isn't BYE and has this tag's OK, or is BYE
pub farewell_done : (tag : Tag) (last : Response) (e : Ending) (code : Code) → last ≡ responses.Done tag e code → e ≡ endings.Ok → IsFarewell tag last
farewell_done tag last e code is ok = inr (code, is ∙ ap (λ (x : Ending). responses.Done tag x code) ok)

-- no part is awaited
pub unfit_never : (tag : Tag) (frame : Frame) (response : Response) (fault : SessionFault) → Unfit tag (IsTrue false) frame response fault
    → Unfit tag ⊥ frame response fault
unfit_never tag frame response fault why = unfit_weaker tag (IsTrue false) ⊥ frame response fault not_true why
