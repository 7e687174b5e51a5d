-- A piece more is received, and a frame taken.
use Rattle.std.proofs.Common.{◌≡◌, ◌≢◌, inl, inr, ℕ, zero, suc, ◌+◌, ◌-◌, ◌<◌, ◌≤◌, List, [], ◌∷◌, ◌++◌, length, take, Option, Some}
use Rattle.std.proofs.Common.{IfSome, refl, sym, ◌∙◌, ap, subst, arith, length-append, length-take, append_assoc}
use Rattle.std.proofs.lemmas.Option.{MatchOption-at_some}
use Rattle.std.proofs.lemmas.List.{append-nil}
use Rattle.mail_base.specs.Frames.{told, IsNext, FirstFault, NoWhole}
use Rattle.mail_base.specs.declared.frame.Frame.{Frame}
use Rattle.mail_base.specs.declared.frame.FeedFault.{FeedFault}
use Rattle.mail_base.specs.declared.frame.FeedFault.TheVariants as feeds
use Rattle.literal_feed.specs.Stream.{Stream, NoFault}
use Rattle.literal_feed.proofs.Cuts.{piece_came, frame_taken}
use Rattle.imap_model.specs.Responses.{Spells}
use Rattle.imap_model.specs.declared.limit.Limit.TheVariants as limits
use Rattle.imap_model.specs.declared.response.Response.{Response}
use Rattle.imap_response.specs.Heard.{Spell}
use Rattle.imap_response.specs.Within.{SpellsWithin}
use Rattle.world_traits.specs.LinkState.{Connection}
use Rattle.imap_session.specs.Faults.{Reading, LineBad, of_feed}
use Rattle.imap_session.specs.Hearing.{Hears, KeepLimits, Reads, ReadsLast, Took, TooMuch}
use Rattle.imap_session.specs.Replying.{ReceivedWithin}
use Rattle.imap_session.specs.declared.fault.SessionFault.{SessionFault}
use Rattle.imap_session.specs.declared.fault.SessionFault.TheVariants as faults

-- what a receiving call says of the connection
abbrev pub Received : Option Connection → Option Connection → List ℕ → Type 0
Received c d piece = IfSome c (λ k. d ≡ Some (record k { received = k.received ++ piece }))

-- the feed with the piece
abbrev pub Pushed : Stream → List ℕ → Stream → Type 0
Pushed feed piece after = after ≡ record { at = feed.at; bytes = feed.bytes ++ piece }

module _ (heard : List Response) (c d : Option Connection) (feed after : Stream) (piece : List ℕ) (h : Hears heard c feed)
    (received : Received c d piece) where
  abbrev pub longer : Connection
  longer = record h.connection { received = h.connection.received ++ piece }

  pub is_longer : d ≡ Some longer
  is_longer = MatchOption-at_some _ _ h.connection h.there received

  pub hears_piece : Pushed feed piece after → Hears heard d after
  hears_piece pushed = record {
    connection = longer;
    there = is_longer;
    taken = h.taken;
    stands = piece_came h.connection.received piece h.taken feed after h.stands pushed;
    spell = h.spell;
    limited = h.limited;
  }

-- what was taken of all that was received
module _ (heard : List Response) (had : List ℕ) (most left : ℕ) (c : Option Connection) (feed : Stream)
    (r : Reads heard had most left c feed) where
  took_all : Took heard r.hears.taken feed had c
  took_all = record {
    connection = r.hears.connection;
    there = r.hears.there;
    reply = r.reply;
    grown = r.grown;
    stands = r.hears.stands;
    spell = r.hears.spell;
  }

module _ (heard : List Response) (had : List ℕ) (most left n : ℕ) (c d : Option Connection) (feed : Stream) (into : List ℕ)
    (r : Reads heard had most left c feed) (received : Received c d (take n into)) (fits : n ≤ length into) where
  more_is : length (r.reply ++ take n into) ≡ length r.reply + n
  more_is = omega (arith, length-append r.reply (take n into), length-take n into, fits)

  grown_more : r.hears.connection.received ++ take n into ≡ had ++ (r.reply ++ take n into)
  grown_more = ap (λ (t : List ℕ). t ++ take n into) r.grown ∙ append_assoc had r.reply (take n into)

  pub reads_piece : (after : Stream) → n ≤ left → Pushed feed (take n into) after → Reads heard had most (left - n) d after
  unfolding hears_piece
  reads_piece after few pushed =
      let room : length (r.reply ++ take n into) + (left - n) ≡ most = omega (arith, more_is, r.room, few) in
      record {
        hears = hears_piece heard c d feed after (take n into) r.hears received pushed;
        reply = r.reply ++ take n into;
        grown = grown_more;
        room = room;
      }

  pub too_many : (number : ℕ) → number ≡ most + 1 → NoWhole feed.bytes → n ≤ 4096 → left < n → TooMuch heard limits.Reply number had most d
  unfolding took_all
  too_many number told none few many =
      let over : most < length (r.reply ++ take n into) = omega (arith, more_is, r.room, many) in
      let within : length r.reply ≤ most = omega (arith, r.room) in
      let last : length (take n into) ≤ 4096 = omega (arith, length-take n into, fits, few) in
      inl (
        refl,
        told,
        record {
          before = c;
          taken = r.hears.taken;
          left = feed;
          took = took_all heard had most left c feed r;
          none = none;
          within = within;
          last = take n into;
          few = last;
          there = is_longer heard c d feed feed (take n into) r.hears received;
          long = over;
        },
      )

-- what stands in the feed has this fault
module _ (heard : List Response) (had : List ℕ) (most left : ℕ) (c : Option Connection) (feed : Stream)
    (r : Reads heard had most left c feed) where
  pub fed_why : NoWhole feed.bytes → (fault : FeedFault) → (fault ≢ feeds.Memory → ∥ FirstFault feed.at feed.bytes fault ∥₁)
      → Reading heard had most c (of_feed fault)
  fed_why cut feeds.Memory bad = tt
  fed_why cut (feeds.BareLf at) bad =
      record { taken = r.hears.taken; left = feed; took = took_all heard had most left c feed r; bad = inl (cut, bad (λ e. cc)) }
  fed_why cut (feeds.LiteralTooLarge at asked) bad = inr
      (record { taken = r.hears.taken; left = feed; took = took_all heard had most left c feed r; large = inl (cut, inl (at, refl, bad (λ e. cc))) })
  fed_why cut (feeds.LineTooLong at) bad = inr
      (record { taken = r.hears.taken; left = feed; took = took_all heard had most left c feed r; large = inl (cut, inr (at, refl, refl, bad (λ e. cc))) })

-- a frame is taken
pub spell_more : (fs : List Frame) (rs : List Response) (f : Frame) (r : Response) → Spell fs rs → Spells f r → Spell (fs ++ f ∷ []) (rs ++ r ∷ [])
spell_more [] [] f r spell here = (here, tt)
spell_more [] (q ∷ rs) f r spell here = absurd spell
spell_more (g ∷ fs) [] f r spell here = absurd spell
spell_more (g ∷ fs) (q ∷ rs) f r spell here = (spell.0, spell_more fs rs f r spell.1 here)

keep_more : (fs : List Frame) (rs : List Response) (f : Frame) (r : Response) → KeepLimits fs rs → SpellsWithin f r
    → KeepLimits (fs ++ f ∷ []) (rs ++ r ∷ [])
keep_more [] [] f r kept here = (here, tt)
keep_more [] (q ∷ rs) f r kept here = absurd kept
keep_more (g ∷ fs) [] f r kept here = absurd kept
keep_more (g ∷ fs) (q ∷ rs) f r kept here = (kept.0, keep_more fs rs f r kept.1 here)

module _ (old new : Stream) (frame : Frame) (next : IsNext old.at old.bytes frame new.bytes)
    (place : new.at ≡ told (old.at + (length frame.bytes + 2))) where
  pub reads_frame : (heard : List Response) (had : List ℕ) (most left : ℕ) (c : Option Connection) (r : Response) → Reads heard had most left c old
      → Spells frame r × SpellsWithin frame r → ReadsLast (heard ++ r ∷ []) frame had most left c new
  reads_frame heard had most left c r is spells = record {
    reads = record {
      hears = record {
        connection = is.hears.connection;
        there = is.hears.there;
        taken = is.hears.taken ++ frame ∷ [];
        stands = frame_taken is.hears.connection.received is.hears.taken old new frame is.hears.stands next place;
        spell = spell_more is.hears.taken heard frame r is.hears.spell spells.0;
        limited = keep_more is.hears.taken heard frame r is.hears.limited spells.1;
      };
      reply = is.reply;
      grown = is.grown;
      room = is.room;
    };
    before = is.hears.taken;
    last = refl;
  }

  pub reads_line : (heard : List Response) (had : List ℕ) (most left : ℕ) (c : Option Connection) (r : Response) (f : Frame) → f ≡ frame
      → Reads heard had most left c old → Spells frame r × SpellsWithin frame r → ReadsLast (heard ++ r ∷ []) f had most left c new
  reads_line heard had most left c r f same is spells = subst (λ (g : Frame). ReadsLast (heard ++ r ∷ []) g had most left c new) (sym same)
      (reads_frame heard had most left c r is spells)

  pub line_why : (heard : List Response) (had : List ℕ) (most left : ℕ) (c : Option Connection) (fault : SessionFault)
      → Reads heard had most left c old → LineBad frame fault → Reading heard had most c fault
  line_why heard had most left c faults.Memory is bad = tt
  line_why heard had most left c faults.Link is bad = tt
  line_why heard had most left c (faults.Refused line) is bad = bad
  line_why heard had most left c (faults.BadReply at) is bad = record {
    taken = is.hears.taken;
    left = old;
    took = took_all heard had most left c old is;
    bad = inr (record { frame = frame; rest = new.bytes; next = next; place = bad.0; none = bad.1 });
  }
  line_why heard had most left c (faults.Lacking item) is bad = bad
  line_why heard had most left c (faults.TooLarge limit number) is bad = inr (record {
    taken = is.hears.taken;
    left = old;
    took = took_all heard had most left c old is;
    large = inr (record { frame = frame; rest = new.bytes; next = next; passes = bad });
  })

-- any list of responses that was heard is one that can be read from
pub as_reads : (heard : List Response) (left : ℕ) (c : Option Connection) (feed : Stream) → (h : Hears heard c feed)
    → Reads heard h.connection.received left left c feed
as_reads heard left c feed h = record { hears = h; reply = []; grown = sym (append-nil h.connection.received); room = omega arith }

-- and so where all that it may have is left
pub reads_from : (heard : List Response) (most left : ℕ) (c : Option Connection) (feed : Stream) → left ≡ most → (h : Hears heard c feed)
    → Reads heard h.connection.received most left c feed
reads_from heard most left c feed all h =
    record { hears = h; reply = []; grown = sym (append-nil h.connection.received); room = omega (arith, all) }

pub reads_same : (heard : List Response) (had : List ℕ) (most left : ℕ) (c : Option Connection) (feed after : Stream)
    → Reads heard had most left c feed → after ≡ feed → Reads heard had most left c after
reads_same heard had most left c feed after r same = subst (λ (f : Stream). Reads heard had most left c f) (sym same) r

pub reads_as : (heard again : List Response) (had : List ℕ) (most left : ℕ) (c : Option Connection) (feed : Stream) → heard ≡ again
    → Reads heard had most left c feed → Reads again had most left c feed
reads_as heard again had most left c feed same r = subst (λ (h : List Response). Reads h had most left c feed) same r

pub reads_last_as : (heard again : List Response) (frame : Frame) (had : List ℕ) (most left : ℕ) (c : Option Connection) (feed : Stream)
    → heard ≡ again → ReadsLast heard frame had most left c feed → ReadsLast again frame had most left c feed
reads_last_as heard again frame had most left c feed same r = subst (λ (h : List Response). ReadsLast h frame had most left c feed) same r

pub sum_after : (feed after : Stream) (into : List ℕ) (n left : ℕ) → Pushed feed (take n into) after → n ≤ length into → n ≤ left
    → length after.bytes + (left - n) ≡ length feed.bytes + left
sum_after feed after into n left pushed fits few = omega
    (arith, ap (λ (s : Stream). length s.bytes) pushed, length-append feed.bytes (take n into), length-take n into, fits, few)

pub reads_at : (heard : List Response) (had : List ℕ) (most left : ℕ) (c d : Option Connection) (feed : Stream) → d ≡ c
    → Reads heard had most left c feed → Reads heard had most left d feed
reads_at heard had most left c d feed same r = subst (λ (x : Option Connection). Reads heard had most left x feed) (sym same) r

-- what was received since is no more than may come
pub at_most : (heard : List Response) (had : List ℕ) (most left : ℕ) (c : Option Connection) (feed : Stream) → Reads heard had most left c feed
    → ReceivedWithin most had c
at_most heard had most left c feed r = record {
  reply = r.reply;
  there = r.hears.there ∙ ap (λ (t : List ℕ). Some (record { received = t })) r.grown;
  few = omega (arith, r.room);
}

-- what is equal unless it isn't, is equal
same_number : (m n : ℕ) → ((m ≡ n → ⊥) → ⊥) → m ≡ n
same_number zero zero h = refl
same_number zero (suc n) h = absurd (h (λ e. absurd (omega (arith, e))))
same_number (suc m) zero h = absurd (h (λ e. absurd (omega (arith, e))))
same_number (suc m) (suc n) h = ap suc (same_number m n (λ other. h (λ e. other (omega (arith, e)))))

same_bytes : (xs ys : List ℕ) → ((xs ≡ ys → ⊥) → ⊥) → xs ≡ ys
same_bytes [] [] h = refl
same_bytes [] (y ∷ ys) h = absurd (h (λ e. absurd (cc)))
same_bytes (x ∷ xs) [] h = absurd (h (λ e. absurd (cc)))
same_bytes (x ∷ xs) (y ∷ ys) h =
    let first = same_number x y (λ other. h (λ e. other (cc))) in
    let rest = same_bytes xs ys (λ other. h (λ e. other (cc))) in
    λ i. first i ∷ rest i

same_stream : (s t : Stream) → ((s ≡ t → ⊥) → ⊥) → s ≡ t
same_stream s t h =
    let at = same_number s.at t.at (λ other. h (λ e. other (ap (λ (x : Stream). x.at) e))) in
    let bytes = same_bytes s.bytes t.bytes (λ other. h (λ e. other (ap (λ (x : Stream). x.bytes) e))) in
    λ i. record { at = at i; bytes = bytes i }

pub pushed_nothing : (feed after : Stream) → Pushed feed [] after → after ≡ feed
pushed_nothing feed after pushed = pushed ∙ ap (λ (t : List ℕ). record { at = feed.at; bytes = t }) (append-nil feed.bytes)

pushed_none : (feed after : Stream) → ((other : FeedFault) → FirstFault feed.at feed.bytes other → after ≡ feed)
    → (NoFault feed → Pushed feed [] after) → after ≡ feed
pushed_none feed after again first = same_stream after feed
    (λ other. other (pushed_nothing feed after (first (λ fault bad. other (again fault bad)))))

-- a push of nothing leaves the feed as it is, whatever it answers
pub nothing_pushed : (feed after : Stream) (fault : FeedFault) → (fault ≡ feeds.Memory → after ≡ feed)
    → ((other : FeedFault) → FirstFault feed.at feed.bytes other → after ≡ feed)
    → (fault ≢ feeds.Memory → NoFault feed → Pushed feed [] after) → after ≡ feed
nothing_pushed feed after feeds.Memory memory again first = memory refl
nothing_pushed feed after (feeds.BareLf at) memory again first = pushed_none feed after again (first (λ e. cc))
nothing_pushed feed after (feeds.LiteralTooLarge at asked) memory again first = pushed_none feed after again (first (λ e. cc))
nothing_pushed feed after (feeds.LineTooLong at) memory again first = pushed_none feed after again (first (λ e. cc))

-- no fault of a feed is one of the link
pub feed_no_link : (fault : FeedFault) → faults.Link ≡ of_feed fault → ⊥
feed_no_link feeds.Memory e = cc
feed_no_link (feeds.BareLf at) e = cc
feed_no_link (feeds.LiteralTooLarge at asked) e = cc
feed_no_link (feeds.LineTooLong at) e = cc
