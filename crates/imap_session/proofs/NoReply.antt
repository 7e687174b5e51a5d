-- The line that ended a reply, and what it says of a fault.
use Rattle.std.proofs.Common.{◌≡◌, inl, inr, ℕ, ◌+◌, ◌<◌, ◌≤◌, Bool, true, false, IsTrue, List, [], ◌∷◌, ◌++◌, Option, sym, ◌∙◌, ap, subst}
use Rattle.std.proofs.Common.{append_assoc, arith}
use Rattle.mail_base.specs.declared.frame.Frame.{Frame}
use Rattle.mail_base.specs.declared.tag.Tag.{Tag}
use Rattle.literal_feed.specs.Stream.{Stream, StandsFor}
use Rattle.imap_model.specs.Responses.{Spells}
use Rattle.imap_model.specs.declared.response.Response.{Response}
use Rattle.imap_response.specs.Heard.{Spell}
use Rattle.world_traits.specs.LinkState.{Connection}
use Rattle.imap_session.specs.Causes.{ReadingFails, LastLine, IsNoReply, Fails}
use Rattle.imap_session.specs.Faults.{Reading, Unfit}
use Rattle.imap_session.specs.Hearing.{Took}
use Rattle.imap_session.specs.Knowing.{NoEnd, requests}
use Rattle.imap_session.specs.Replying.{HeardTo}
use Rattle.imap_session.specs.declared.fault.SessionFault.{SessionFault}
use Rattle.imap_session.specs.declared.fault.SessionFault.TheVariants as faults
use Rattle.imap_session.proofs.Outcomes.{not_true}
use Rattle.imap_session.proofs.Replying.{none_weaker, none_append, none_asked, asked_append}
use Rattle.imap_session.proofs.Sending.{unfit_weaker}

module _ (heard told : List Response) (frame : Frame) (response : Response) (had : List ℕ) (most left : ℕ) (c : Option Connection)
    (feed : Stream) where
  last_of : (part : Bool) (weaker : (rs : List Response) → NoEnd part rs → NoEnd false rs)
      → HeardTo part heard told frame response had most left c feed → Spells frame response
      → LastLine heard frame response had c
  last_of part weaker h spells = record {
    told = told;
    none = weaker told h.none;
    before = h.reads.before;
    left = feed;
    took = record {
      connection = h.reads.reads.hears.connection;
      there = h.reads.reads.hears.there;
      reply = h.reads.reads.reply;
      grown = h.reads.reads.grown;
      stands = subst (λ (fs : List Frame). StandsFor h.reads.reads.hears.connection.received fs feed) h.reads.last h.reads.reads.hears.stands;
      spell = subst (λ (fs : List Frame). Spell fs (heard ++ (told ++ response ∷ []))) h.reads.last h.reads.reads.hears.spell;
    };
    spells = spells;
  }

  -- behind a part, where none more was asked for,
  pub unfit_part : (tag : Tag) (fault : SessionFault) → HeardTo true heard told frame response had most left c feed
      → Spells frame response → Unfit tag (IsTrue true) frame response fault → IsNoReply heard tag 1 had c fault
  unfolding last_of
  unfit_part tag fault h spells unfit =
      let few : requests told < 1 = omega (arith, none_asked told h.none) in
      record {
        frame = frame;
        response = response;
        line = last_of true none_weaker h spells;
        unfit = unfit_weaker tag (IsTrue true) (requests told < 1) frame response fault (λ early. few) unfit;
      }

  -- and behind the whole command
  pub last_whole : HeardTo false heard told frame response had most left c feed → Spells frame response → LastLine heard frame response had c
  last_whole h spells = last_of false (λ rs none. none) h spells

  pub unfit_whole : (tag : Tag) (fault : SessionFault) → HeardTo false heard told frame response had most left c feed
      → Spells frame response → Unfit tag (IsTrue false) frame response fault → IsNoReply heard tag 0 had c fault
  unfolding last_of
  unfit_whole tag fault h spells unfit = record {
    frame = frame;
    response = response;
    line = last_of false (λ rs none. none) h spells;
    unfit = unfit_weaker tag (IsTrue false) (requests told < 0) frame response fault (λ early. absurd (not_true early)) unfit;
  }

-- reading fails: for want of memory, or of the link,
pub memory_fails : (part : Bool) (heard : List Response) (had : List ℕ) (most : ℕ) (c : Option Connection) (fault : SessionFault)
    → fault ≡ faults.Memory → ReadingFails part heard had most c fault
memory_fails part heard had most c fault is =
    subst (λ (f : SessionFault). ReadingFails part heard had most c f) (sym is) (record { told = []; none = tt; reading = tt })

pub link_fails : (part : Bool) (heard : List Response) (had : List ℕ) (most : ℕ) (c : Option Connection) (fault : SessionFault)
    → fault ≡ faults.Link → ReadingFails part heard had most c fault
link_fails part heard had most c fault is =
    subst (λ (f : SessionFault). ReadingFails part heard had most c f) (sym is) (record { told = []; none = tt; reading = tt })

-- behind a part,
pub part_fails : (heard : List Response) (had : List ℕ) (most : ℕ) (c : Option Connection) (fault : SessionFault)
    → ReadingFails true heard had most c fault → ReadingFails false heard had most c fault
part_fails heard had most c fault f = record { told = f.told; none = none_weaker f.told f.none; reading = f.reading }

-- and behind more
pub reading_on : (heard more : List Response) → NoEnd false more → (had : List ℕ) (most : ℕ) (c : Option Connection) (fault : SessionFault)
    → ReadingFails false (heard ++ more) had most c fault → ReadingFails false heard had most c fault
reading_on heard more none had most c fault f = record {
  told = more ++ f.told;
  none = none_append false more f.told none f.none;
  reading = subst (λ (rs : List Response). Reading rs had most c fault) (append_assoc heard more f.told) f.reading;
}

module _ (heard more : List Response) (none : NoEnd false more) (had : List ℕ) (most : ℕ) (c : Option Connection) (tag : Tag) where
  line_on : (frame : Frame) (response : Response) → LastLine (heard ++ more) frame response had c → LastLine heard frame response had c
  line_on frame response l = record {
    told = more ++ l.told;
    none = none_append false more l.told none l.none;
    before = l.before;
    left = l.left;
    took = subst (λ (rs : List Response). Took rs (l.before ++ frame ∷ []) l.left had c)
        (append_assoc heard more (l.told ++ response ∷ []) ∙ ap (λ (t : List Response). heard ++ t) (sym (append_assoc more l.told (response ∷ []))))
        l.took;
    spells = l.spells;
  }

  -- what fails behind more fails behind less, where so many more parts have to be asked for
  pub fails_on : (parts all : ℕ) (fault : SessionFault) → requests more + parts ≤ all → Fails (heard ++ more) tag parts had most c fault
      → Fails heard tag all had most c fault
  unfolding line_on
  fails_on parts all fault few (inl reading) = inl (reading_on heard more none had most c fault reading)
  fails_on parts all fault few (inr n) = inr (record {
    frame = n.frame;
    response = n.response;
    line = line_on n.frame n.response n.line;
    unfit = unfit_weaker tag (requests n.line.told < parts) (requests (more ++ n.line.told) < all) n.frame n.response fault
        (λ early. omega (arith, early, few, asked_append more n.line.told)) n.unfit;
  })

-- a cause where as many bytes are taken
pub fails_of : (heard : List Response) (tag : Tag) (parts : ℕ) (had : List ℕ) (m n : ℕ) (c : Option Connection) (fault : SessionFault) → m ≡ n
    → Fails heard tag parts had m c fault → Fails heard tag parts had n c fault
fails_of heard tag parts had m n c fault same fails = subst (λ (k : ℕ). Fails heard tag parts had k c fault) same fails
