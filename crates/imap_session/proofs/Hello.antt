-- A connection that has begun.
use Rattle.std.proofs.Common.{◌≢◌, ◌≡◌, ℕ, List, [], ◌∷◌, ◌++◌, Option, None, Result, Ok, Err}
use Rattle.std.proofs.Common.{IfOk, refl, sym, ◌∙◌, ap, subst, arith}
use Rattle.std.proofs.lemmas.Option.{none-some}
use Rattle.mail_base.specs.declared.frame.Frame.{Frame}
use Rattle.literal_feed.specs.Stream.{Stream, StandsFor}
use Rattle.literal_feed.proofs.Cuts.{nothing_came}
use Rattle.imap_model.specs.Talking.{Peer, Talk, Answering, IsGreeting, greeted}
use Rattle.imap_model.specs.declared.response.Response.{Response}
use Rattle.imap_model.specs.declared.ending.Ending.TheVariants as endings
use Rattle.imap_model.specs.declared.response.Response.TheVariants as responses
use Rattle.imap_session.specs.Faults.{FirstLine, HelloUnfit, IsHello}
use Rattle.imap_session.specs.declared.fault.SessionFault.TheVariants as faults
use Rattle.world_traits.specs.Connected.{IsGreeted}
use Rattle.world_traits.specs.LinkState.{Connection, LinkState, fresh}
use Rattle.world_traits.specs.Links.{Linked}
use Rattle.world_traits.specs.Moments.{Clock}
use Rattle.imap_response.specs.Heard.{Spell}
use Rattle.imap_model.specs.Responses.{Spells}
use Rattle.imap_session.specs.Hearing.{Hears, Reads, ReadsLast}
use Rattle.imap_session.specs.Knowing.{Finished}
use Rattle.imap_session.specs.Session.{IsFresh, Listening, Stands}
use Rattle.imap_session.proofs.Reading.{Honest, heard_front, behind_heard}
use Rattle.imap_session.proofs.Settling.{stands_at_rest}
use Rattle.imap_session.proofs.Talking.{quiet}

pub fresh_reads : (link : LinkState) (feed : Stream) (most left : ℕ) → left ≡ most → IsFresh link feed
    → Reads [] [] most left link.connection feed
fresh_reads link feed most left all f = subst (λ (s : Stream). Reads [] [] most left link.connection s) (sym f.nothing) (record {
  hears = record { connection = fresh; there = f.there; taken = []; stands = nothing_came; spell = tt; limited = tt };
  reply = [];
  grown = refl;
  room = omega (arith, all);
})

pub fresh_hears : (link : LinkState) (feed : Stream) → IsFresh link feed → Hears [] link.connection feed
fresh_hears link feed f = (fresh_reads link feed 0 0 refl f).hears

-- the greeting is owed
pub greeting_owed : (p : Peer) (link : LinkState) (feed : Stream) → IsGreeted p → IsFresh link feed → Listening p link.connection feed
greeting_owed p link feed g f = record {
  heard = [];
  owes = record { more = g.greeting ∷ []; told = ap (λ (t : Talk). t.told) g.talk; owed = λ e w u. let h : g.greeting ∷ [] ≡ [] = e in cc };
  hears = fresh_hears link feed f;
}

only_greeting : (a b : Response) (more : List Response) → a ∷ [] ≡ (b ∷ []) ++ more → a ≡ b
only_greeting a b more e = let h : a ∷ [] ≡ b ∷ more = e in cc

hello_or_bye : (r : Response) → IsGreeting r → ¬ (IsHello r) → (r ≢ responses.Bye) → ⊥
hello_or_bye (responses.Done tag ending code) g not other = g
hello_or_bye (responses.Untagged endings.Ok code) g not other = not tt
hello_or_bye (responses.Untagged endings.No code) g not other = g
hello_or_bye (responses.Untagged endings.Bad code) g not other = g
hello_or_bye responses.Bye g not other = absurd (other refl)
hello_or_bye (responses.Preauth code) g not other = not tt
hello_or_bye responses.Go g not other = g
hello_or_bye (responses.Capability words) g not other = g
hello_or_bye (responses.Enabled words) g not other = g
hello_or_bye (responses.Exists count) g not other = g
hello_or_bye (responses.Fetch fetched) g not other = g
hello_or_bye (responses.Vanished earlier uids) g not other = g
hello_or_bye (responses.Found uids) g not other = g
hello_or_bye responses.Other g not other = g

-- once the greeting was read, the connection stands at rest
module _ (k l : Clock) (d : Option Connection) (feed : Stream) (r : Response) (g : IsGreeted k.now.outside) (since : Linked Answering k l)
    (h : Hears (r ∷ []) d feed) (honest : Honest l.now.outside d) where
  still : (l.now.outside.waiting ≡ None) × (l.now.outside.talk ≡ k.now.outside.talk)
  still = quiet k l g.quiet (λ u. none-some u.0 (sym (ap (λ (t : Talk). t.arriving) g.talk) ∙ u.1)) since

  talk : l.now.outside.talk ≡ greeted g.greeting
  talk = still.1 ∙ g.talk

  pub greeting_is : g.greeting ≡ r
  greeting_is = only_greeting g.greeting r (behind_heard (r ∷ []) l.now.outside.talk.told d feed h honest)
      (sym (ap (λ (t : Talk). t.told) talk) ∙ heard_front (r ∷ []) l.now.outside.talk.told d feed h honest)

  -- so it is one
  pub greeting_fit : (frame : Frame) (at : ℕ) → HelloUnfit frame r (faults.BadReply at) → ⊥
  greeting_fit frame at u = hello_or_bye r (subst IsGreeting greeting_is g.greets) u.1 u.2

  pub greeting_told : l.now.outside.talk.told ≡ r ∷ []
  greeting_told =
      let same = only_greeting g.greeting r (behind_heard (r ∷ []) l.now.outside.talk.told d feed h honest)
      (sym (ap (λ (t : Talk). t.told) talk) ∙ heard_front (r ∷ []) l.now.outside.talk.told d feed h honest) in
      ap (λ (t : Talk). t.told) talk ∙ ap (λ (x : Response). x ∷ []) same

  pub greeted_stands : Stands None l d feed
  greeted_stands =
      let f : Finished
      (r ∷ []) None
      l.now.outside =
      record {
        nothing = still.0;
        no_part = ap (λ (t : Talk). t.arriving) talk;
        selects = ap (λ (t : Talk). t.selected) talk;
        all = greeting_told;
      } in
      stands_at_rest (r ∷ []) None l d feed f h honest

pub if_ok_same : {E : Type 0} (res : Result Response E) (r : Response) (P : Response → Type 0) → IfOk res (λ x. x ≡ r) → P r → IfOk res P
if_ok_same (Ok x) r P same p = subst P (sym same) p
if_ok_same (Err e) r P same p = tt

only_line : (before : List Frame) (frame : Frame) (r : Response) → Spell (before ++ frame ∷ []) (r ∷ []) → before ≡ []
only_line [] frame r spell = refl
only_line (f ∷ []) frame r spell = absurd spell.1
only_line (f ∷ g ∷ fs) frame r spell = absurd spell.1

-- the first line that was read
pub first_line : (frame : Frame) (response : Response) (most left : ℕ) (c : Option Connection) (feed : Stream)
    → ReadsLast (response ∷ []) frame [] most left c feed → Spells frame response → FirstLine frame response c
first_line frame response most left c feed r spells =
    let none = only_line r.before frame response (subst (λ (fs : List Frame). Spell fs (response ∷ [])) r.last r.reads.hears.spell) in
    let taken : r.reads.hears.taken ≡ frame ∷ [] = r.last ∙ ap (λ (fs : List Frame). fs ++ frame ∷ []) none in
    record {
      left = feed;
      took = record {
        connection = r.reads.hears.connection;
        there = r.reads.hears.there;
        reply = r.reads.reply;
        grown = r.reads.grown;
        stands = subst (λ (fs : List Frame). StandsFor r.reads.hears.connection.received fs feed) taken r.reads.hears.stands;
        spell = (spells, tt);
      };
      spells = spells;
    }
