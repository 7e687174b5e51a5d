-- What is known of a connection that was just made.
use Rattle.std.proofs.Common.{◌≡◌, ℕ, List, [], ◌∷◌, ◌++◌, length, Option, Some, IfSome, sym, ap, subst, arith, length-append}
use Rattle.imap_model.specs.Lines.{AreLines}
use Rattle.imap_model.specs.Talking.{Peer, Talk, IsDue}
use Rattle.imap_model.specs.declared.response.Response.{Response}
use Rattle.world_traits.specs.Connected.{IsGreeted, IsReplyDue}
use Rattle.world_traits.specs.LinkState.{Connection, fresh}

-- no line is empty
no_line : (response : Response) → AreLines (response ∷ []) [] → ⊥
no_line response lines = omega (arith, ap length lines.3, length-append lines.0 (13 ∷ 10 ∷ lines.1))

unread : (p : Peer) → IsGreeted p → IsDue p []
unread p g owes = no_line g.greeting (subst (λ (t : Talk). AreLines t.told []) g.talk owes.all)

-- the greeting is due
pub greeting_due : (p : Peer) (c : Option Connection) → IsGreeted p → c ≡ Some fresh → IsReplyDue p c
greeting_due p c g begins = subst (IsReplyDue p) (sym begins) (unread p g)

-- and after a piece of it was received the connection is there
pub still_there : (piece : List ℕ) (c d : Option Connection) → c ≡ Some fresh →
    IfSome c (λ k. d ≡ Some (record k { received = k.received ++ piece })) → (k : Connection) × (d ≡ Some k)
still_there piece c d begins received = (
  record fresh { received = [] ++ piece },
  subst (λ (o : Option Connection). IfSome o (λ k. d ≡ Some (record k { received = k.received ++ piece }))) begins received,
)
