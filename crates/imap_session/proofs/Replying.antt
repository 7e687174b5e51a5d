-- A reply as it comes, one part of it behind another.
use Rattle.std.proofs.Common.{arith, ◌≡◌, ℕ, ◌+◌, ◌-◌, ◌≤◌, length, take, Bool, true, false, List, [], ◌∷◌, ◌++◌, Option, MatchOption}
use Rattle.std.proofs.Common.{refl, sym, ◌∙◌, ap, subst, append_assoc}
use Rattle.std.proofs.lemmas.List.{append-nil, take_all}
use Rattle.mail_base.specs.declared.frame.Frame.{Frame}
use Rattle.mail_base.specs.declared.tag.Tag.{Tag}
use Rattle.literal_feed.specs.Stream.{Stream}
use Rattle.imap_model.specs.Small.{IsSmall, IsSmallCode}
use Rattle.imap_model.specs.Untagged.{IsBefore, AreBefore}
use Rattle.imap_model.specs.CommandText.{parts_of}
use Rattle.imap_model.specs.declared.code.Code.{Code}
use Rattle.imap_model.specs.declared.command.Command.{Command}
use Rattle.imap_model.specs.declared.ending.Ending.{Ending}
use Rattle.imap_model.specs.declared.ending.Ending.TheVariants as endings
use Rattle.imap_model.specs.declared.response.Response.{Response}
use Rattle.imap_model.specs.declared.response.Response.TheVariants as responses
use Rattle.world_traits.specs.LinkState.{Connection, LinkState}
use Rattle.imap_session.specs.Faults.{more_parts}
use Rattle.imap_session.specs.Hearing.{Reads, told_by, all_told_by}
use Rattle.imap_session.specs.Knowing.{IsEnd, NoEnd, request_of, requests}
use Rattle.imap_session.specs.Permanent.{behind, behind_all, behind_code, permitted}
use Rattle.imap_session.specs.Replying.{AllSmall, HeardOn, HeardTo, HeardDone, Came, ReceivedWithin, read_as}
use Rattle.imap_session.specs.Sent.{joined}
use Rattle.imap_session.specs.declared.permits.Permits.{Permits}
use Rattle.imap_session.specs.declared.fault.SessionFault.TheVariants as faults
use Rattle.imap_model.specs.declared.listen.Last.{Last}
use Rattle.imap_session.proofs.Hearing.{at_most}

-- what ends a whole reply ends the wait behind a part
end_weaker : (r : Response) → IsEnd false r → IsEnd true r
end_weaker (responses.Done tag ending code) e = e
end_weaker (responses.Untagged ending code) e = e
end_weaker responses.Bye e = e
end_weaker (responses.Preauth code) e = e
end_weaker responses.Go e = absurd e
end_weaker (responses.Capability words) e = e
end_weaker (responses.Enabled words) e = e
end_weaker (responses.Exists count) e = e
end_weaker (responses.Fetch fetched) e = e
end_weaker (responses.Vanished earlier uids) e = e
end_weaker (responses.Found uids) e = e
end_weaker responses.Other e = e

pub none_weaker : (rs : List Response) → NoEnd true rs → NoEnd false rs
none_weaker [] none = tt
none_weaker (r ∷ rs) none = ((λ e. none.0 (end_weaker r e)), none_weaker rs none.1)

pub none_part : (part : Bool) (rs : List Response) → NoEnd part rs → NoEnd false rs
none_part true rs none = none_weaker rs none
none_part false rs none = none

pub none_append : (part : Bool) (rs qs : List Response) → NoEnd part rs → NoEnd part qs → NoEnd part (rs ++ qs)
none_append part [] qs a b = b
none_append part (r ∷ rs) qs a b = (a.0, none_append part rs qs a.1 b)

pub told_append : (rs qs : List Response) → all_told_by (rs ++ qs) ≡ all_told_by rs ++ all_told_by qs
told_append [] qs = refl
told_append (r ∷ rs) qs = ap (λ (t : List Response). told_by r ++ t) (told_append rs qs)
    ∙ sym (append_assoc (told_by r) (all_told_by rs) (all_told_by qs))

plain_one : (r : Response) → IsBefore r → told_by r ≡ r ∷ []
plain_one (responses.Done tag ending code) is = refl
plain_one (responses.Untagged ending code) is = refl
plain_one responses.Bye is = refl
plain_one (responses.Preauth code) is = refl
plain_one responses.Go is = absurd is
plain_one (responses.Capability words) is = refl
plain_one (responses.Enabled words) is = refl
plain_one (responses.Exists count) is = refl
plain_one (responses.Fetch fetched) is = refl
plain_one (responses.Vanished earlier uids) is = refl
plain_one (responses.Found uids) is = refl
plain_one responses.Other is = refl

-- without a `+`, all that comes is told
pub plain_told : (rs : List Response) → AreBefore rs → all_told_by rs ≡ rs
plain_told [] all = refl
plain_told (r ∷ rs) all = ap (λ (t : List Response). t ++ all_told_by rs) (plain_one r all.0)
    ∙ ap (λ (t : List Response). r ∷ t) (plain_told rs all.1)

-- behind responses that tell nothing
pub told_behind : (a b : List Response) → all_told_by a ≡ [] → all_told_by (a ++ b) ≡ all_told_by b
told_behind a b silent = told_append a b ∙ ap (λ (t : List Response). t ++ all_told_by b) silent

pub silent_then : (a b : List Response) → all_told_by a ≡ [] → all_told_by b ≡ [] → all_told_by (a ++ b) ≡ []
silent_then a b first second = told_behind a b first ∙ second

-- one response more
pub told_one : (told : List Response) (r : Response) → all_told_by (told ++ r ∷ []) ≡ all_told_by told ++ told_by r
told_one told r = told_append told (r ∷ []) ∙ ap (λ (t : List Response). all_told_by told ++ t) (append-nil (told_by r))

pub behind_append : (p : Option Permits) (rs qs : List Response) → behind_all p (rs ++ qs) ≡ behind_all (behind_all p rs) qs
behind_append p [] qs = refl
behind_append p (r ∷ rs) qs = behind_append (behind p r) rs qs

pub behind_told : (p : Option Permits) (r : Response) → behind_all p (told_by r) ≡ behind p r
behind_told p (responses.Done tag ending code) = refl
behind_told p (responses.Untagged ending code) = refl
behind_told p responses.Bye = refl
behind_told p (responses.Preauth code) = refl
behind_told p responses.Go = refl
behind_told p (responses.Capability words) = refl
behind_told p (responses.Enabled words) = refl
behind_told p (responses.Exists count) = refl
behind_told p (responses.Fetch fetched) = refl
behind_told p (responses.Vanished earlier uids) = refl
behind_told p (responses.Found uids) = refl
behind_told p responses.Other = refl

-- how many parts are asked for
pub asked_append : (rs qs : List Response) → requests (rs ++ qs) ≡ requests rs + requests qs
asked_append [] qs = omega arith
asked_append (r ∷ rs) qs = omega (arith, asked_append rs qs)

pub none_asked : (rs : List Response) → NoEnd true rs → requests rs ≡ 0
none_asked [] none = refl
none_asked (r ∷ rs) none = omega (arith, one_asked r none.0, none_asked rs none.1)
  where
    one_asked : (r : Response) → (IsEnd true r → ⊥) → request_of r ≡ 0
    one_asked (responses.Done tag ending code) not = refl
    one_asked (responses.Untagged ending code) not = refl
    one_asked responses.Bye not = refl
    one_asked (responses.Preauth code) not = refl
    one_asked responses.Go not = absurd (not tt)
    one_asked (responses.Capability words) not = refl
    one_asked (responses.Enabled words) not = refl
    one_asked (responses.Exists count) not = refl
    one_asked (responses.Fetch fetched) not = refl
    one_asked (responses.Vanished earlier uids) not = refl
    one_asked (responses.Found uids) not = refl
    one_asked responses.Other not = refl

module _ (heard : List Response) (had : List ℕ) (most left : ℕ) (c : Option Connection) (feed : Stream) where
  -- nothing was heard yet
  pub heard_nothing : Reads heard had most left c feed → HeardOn heard [] 0 had most left c feed
  heard_nothing r = record {
    none = tt;
    asked = refl;
    reads = subst (λ (h : List Response). Reads h had most left c feed) (sym (append-nil heard)) r;
  }

  pub heard_at : (told : List Response) (parts all : ℕ) (d : Option Connection) → d ≡ c → parts ≡ all
      → HeardOn heard told parts had most left c feed → HeardOn heard told all had most left d feed
  heard_at told parts all d same is h = subst (λ (x : Option Connection). HeardOn heard told all had most left x feed) (sym same)
      (record { none = h.none; asked = h.asked ∙ is; reads = h.reads })

module _ (heard a b : List Response) (parts : ℕ) (had : List ℕ) (most left l : ℕ) (c d : Option Connection) (feed f : Stream)
    (h : HeardOn heard a parts had most left c feed) where
  -- more was heard behind it
  pub on_on : HeardOn (heard ++ a) b 1 had most l d f → HeardOn heard (a ++ b) (parts + 1) had most l d f
  on_on n = record {
    none = none_append false a b h.none n.none;
    asked = omega (arith, asked_append a b, h.asked, n.asked);
    reads = subst (λ (t : List Response). Reads t had most l d f) (append_assoc heard a b) n.reads;
  }

  -- and the completion
  pub on_done : (tag : Tag) (e : Ending) (k : Code) (more all : ℕ) → all ≡ parts + more
      → HeardDone (heard ++ a) b tag e k more had most l d f → HeardDone heard (a ++ b) tag e k all had most l d f
  on_done tag e k more all is n = record {
    none = none_append false a b h.none n.none;
    asked = omega (arith, asked_append a b, h.asked, n.asked, is);
    reads = subst (λ (t : List Response). Reads t had most l d f)
        (append_assoc heard a (b ++ responses.Done tag e k ∷ [])
        ∙ ap (λ (t : List Response). heard ++ t) (sym (append_assoc a b (responses.Done tag e k ∷ []))))
        n.reads;
  }

pub none_go : (told : List Response) (last : Response) → NoEnd true told → last ≡ responses.Go → NoEnd false (told ++ last ∷ [])
none_go told last none go = none_append false told (last ∷ []) (none_weaker told none)
    (subst (λ (r : Response). NoEnd false (r ∷ [])) (sym go) ((λ e. e), tt))

-- what a line behind a part leads to
abbrev pub TurnedTo : Response → Tag → Option Last → Type 0
TurnedTo last tag o = MatchOption o (last ≡ responses.Go) (λ d. last ≡ responses.Done tag d.ending d.code)

module _ (heard told : List Response) (frame : Frame) (last : Response) (had : List ℕ) (most left : ℕ) (c : Option Connection)
    (feed : Stream) where
  -- a `+` goes on
  pub to_on : HeardTo true heard told frame last had most left c feed → last ≡ responses.Go
      → HeardOn heard (told ++ last ∷ []) 1 had most left c feed
  to_on h go =
      let one : requests (last ∷ []) ≡ 1 = ap (λ (r : Response). requests (r ∷ [])) go in
      record {
        none = none_go told last h.none go;
        asked = omega (arith, asked_append told (last ∷ []), none_asked told h.none, one);
        reads = h.reads.reads;
      }

  pub to_done : HeardTo true heard told frame last had most left c feed → (tag : Tag) (e : Ending) (k : Code)
      → last ≡ responses.Done tag e k → HeardDone heard told tag e k 0 had most left c feed
  to_done h tag e k is = record {
    none = none_weaker told h.none;
    asked = none_asked told h.none;
    reads = subst (λ (r : Response). Reads (heard ++ (told ++ r ∷ [])) had most left c feed) is h.reads.reads;
  }

  pub whole_done : (h : HeardTo false heard told frame last had most left c feed) (tag : Tag) (e : Ending) (k : Code)
      → last ≡ responses.Done tag e k → HeardDone heard told tag e k (requests told) had most left c feed
  whole_done h tag e k is = record {
    none = h.none;
    asked = refl;
    reads = subst (λ (r : Response). Reads (heard ++ (told ++ r ∷ [])) had most left c feed) is h.reads.reads;
  }

-- the whole reply came
module _ (heard told : List Response) (tag : Tag) (command : Command) (e : Ending) (k : Code) (parts : ℕ) (had : List ℕ)
    (most left : ℕ) (old new : LinkState) (feed : Stream) where
  pub done_came : new.sent ≡ old.sent ++ joined (take (parts + 1) (parts_of tag command))
      → (e ≡ endings.Ok → more_parts tag command ≤ parts)
      → HeardDone heard told tag e k parts had most left new.connection feed
      → Came heard tag command (read_as (all_told_by told) e k) old new feed
  done_came sent all h = record {
    told = told;
    none = h.none;
    untagged = refl;
    hears = h.reads.hears;
    sent = sent ∙ ap (λ (n : ℕ). old.sent ++ joined (take (n + 1) (parts_of tag command))) (sym h.asked);
    all = λ ok. omega (arith, all ok, h.asked);
  }

-- and where the last part was sent, all were
pub all_sent : (texts parts : List (List ℕ)) (n : ℕ) (old new : List ℕ) → texts ≡ parts → length texts - 1 ≤ n
    → new ≡ old ++ joined texts → new ≡ old ++ joined (take (n + 1) parts)
all_sent texts parts n old new same enough is =
    is ∙ ap (λ (t : List (List ℕ)). old ++ joined t) (same ∙ sym (take_all (n + 1) parts (omega (arith, enough, ap length same))))

-- the permits that count behind the whole reply
pub permitted_as : (start p q : Option Permits) (rows : List Response) (e : Ending) (k : Code) → p ≡ behind_all start rows
    → q ≡ behind_code p k → q ≡ permitted start (read_as rows e k)
permitted_as start p q rows e k counts last = last ∙ ap (λ (x : Option Permits). behind_code x k) counts

-- a fault for want of memory alone is no other
pub bad_memory : (at : ℕ) → faults.BadReply at ≡ faults.Memory → ⊥
bad_memory at e = cc

pub link_memory : faults.Link ≡ faults.Memory → ⊥
link_memory e = cc

-- one response more keeps all small
pub small_told : (r : Response) → IsSmall r → AllSmall (told_by r)
small_told (responses.Done tag ending code) small = (small, tt)
small_told (responses.Untagged ending code) small = (small, tt)
small_told responses.Bye small = (small, tt)
small_told (responses.Preauth code) small = (small, tt)
small_told responses.Go small = tt
small_told (responses.Capability words) small = (small, tt)
small_told (responses.Enabled words) small = (small, tt)
small_told (responses.Exists count) small = (small, tt)
small_told (responses.Fetch fetched) small = (small, tt)
small_told (responses.Vanished earlier uids) small = (small, tt)
small_told (responses.Found uids) small = (small, tt)
small_told responses.Other small = (small, tt)

-- the completion's code is small
pub small_code : (r : Response) (tag : Tag) (e : Ending) (k : Code) → r ≡ responses.Done tag e k → IsSmall r → IsSmallCode k
small_code r tag e k is small = subst IsSmall is small

-- no more was received than may come
pub done_within : (heard told : List Response) (tag : Tag) (ending : Ending) (code : Code) (parts : ℕ) (had : List ℕ) (most left : ℕ)
    (c : Option Connection) (feed : Stream)
    → HeardDone heard told tag ending code parts had most left c feed → ReceivedWithin most had c
done_within heard told tag ending code parts had most left c feed h = at_most _ had most left c feed h.reads
