-- What one session asks and sends, by the clauses of its calls.
use Rattle.std.proofs.Common.{◌≡◌, ℕ, ◌+◌, Bool, List, [], ◌++◌, None, arith, ◌∙◌, ap, subst}
use Rattle.mail_base.specs.Account.{Credentials}
use Rattle.mail_base.specs.declared.tag.Tag.{Tag}
use Rattle.literal_feed.specs.Stream.{Stream}
use Rattle.imap_model.specs.CommandText.{parts_of}
use Rattle.imap_model.specs.declared.command.Command.TheVariants as commands
use Rattle.imap_model.specs.declared.response.Response.{Response}
use Rattle.world_traits.specs.LinkState.{LinkState}
use Rattle.world_traits.specs.Links.{Any, Linked, LinkStep}
use Rattle.world_traits.specs.Moments.{Clock}
use Rattle.world_traits.proofs.Passing.{since_then}
use Rattle.imap_session.specs.Dialogue.{Dialogue, CameToEnd, Known, next_tag, next_text}
use Rattle.imap_session.specs.Dialogue.Dialogue.{Ends, Lacks, Asks}
use Rattle.imap_session.specs.Enquiring.{Enquiring}
use Rattle.imap_session.specs.LogIn.{enabling, entering}
use Rattle.imap_session.specs.Sent.{joined}
use Rattle.mail_tests.specs.SentInOrder.{AreSentInOrder, SentAll}

-- one call behind the other
pub asks_on : (k l m : Clock) → Linked Enquiring k l → Linked Enquiring l m → Linked Enquiring k m
asks_on k l m first second = since_then Any (LinkStep Enquiring) k l m first second

-- the texts of a dialogue that came to its end
pub came_sent : (d : Dialogue) (count : ℕ) (sent had : List ℕ) (heard : List Response) (known : Known) (link : LinkState) (feed : Stream)
    → CameToEnd d count sent had heard known link feed → SentAll d count known sent link.sent
came_sent (Ends rev2) count sent had heard known link feed h = (h.0, h.1.sends)
came_sent (Lacks item) count sent had heard known link feed h = absurd h
came_sent (Asks command next) count sent had heard known link feed h =
    (h.0, came_sent (next h.0) (count + 1) (sent ++ next_text count command) (had ++ h.1) (heard ++ h.2) known link feed h.4)

-- from the first text, with the first tag
pub from_first : (d : Dialogue) (count : ℕ) (known : Known) (old new : List ℕ) → count ≡ 0 → old ≡ [] → SentAll d count known old new
    → SentAll d 0 known [] new
from_first d count known old new none nothing h =
    subst (λ (n : ℕ). SentAll d n known [] new) none (subst (λ (t : List ℕ). SentAll d count known t new) nothing h)

-- and the three behind them
module _ (account : Credentials) (name : List ℕ) (preauth : Bool) (entered enabled : Known) (known ready first second last : List ℕ)
    (chosen leaving : ℕ) (tag : Tag) (logs_in : SentAll (entering preauth account) 0 entered [] known)
    (enables : SentAll (enabling entered.rev2) entered.count enabled known ready) where
  pub sent_so : first ≡ ready ++ next_text enabled.count (commands.Select name None) → chosen ≡ enabled.count + 1 → tag ≡ next_tag chosen
      → second ≡ first ++ joined (parts_of tag commands.FetchAll) → leaving ≡ chosen + 1 → last ≡ second ++ next_text leaving commands.Logout
      → AreSentInOrder account name last
  sent_so selects one is_next fetches two leaves =
      let third : leaving ≡ enabled.count + 2 = omega (arith, one, two) in
      let chosen_text : List ℕ = ready ++ next_text enabled.count (commands.Select name None) in
      let tagged : tag ≡ next_tag (enabled.count + 1) = is_next ∙ ap next_tag one in
      record {
        preauth = preauth;
        entered = entered;
        known = known;
        logs_in = logs_in;
        enabled = enabled;
        ready = ready;
        enables = enables;
        then = leaves
            ∙ ap (λ (x : List ℕ). x ++ next_text leaving commands.Logout)
            (fetches ∙ ap (λ (x : List ℕ). x ++ joined (parts_of tag commands.FetchAll)) selects
            ∙ ap (λ (t : Tag). chosen_text ++ joined (parts_of t commands.FetchAll)) tagged)
            ∙ ap (λ (n : ℕ). chosen_text ++ next_text (enabled.count + 1) commands.FetchAll ++ next_text n commands.Logout) third;
      }
