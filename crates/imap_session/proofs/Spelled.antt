-- Over an honest link what comes is spelled.
use Rattle.std.proofs.Common.{◌≡◌, inl, inr, ℕ, ◌+◌, ◌-◌, List, [], ◌∷◌, ◌++◌, length, Option}
use Rattle.std.proofs.Common.{refl, sym, ◌∙◌, ap, subst, arith, append_assoc, length-append}
use Rattle.std.proofs.Math.Logic.{∥∥₁_elim}
use Rattle.std.specs.List.{AllByRecursion}
use Rattle.mail_base.specs.Frames.{NoLf, Opening, opening_text, part_of, counted, line_text, IsOpening, IsNext, AreFrames}
use Rattle.mail_base.specs.Frames.{HasBareLf, LineFault}
use Rattle.mail_base.specs.declared.frame.Frame.{Frame}
use Rattle.mail_base.specs.declared.frame.FeedFault.TheVariants as feeds
use Rattle.mail_base.proofs.Lf.{no_lf-append, one_lf}
use Rattle.mail_base.proofs.MoreBytes.{frames_stay, first_fault_stays}
use Rattle.mail_base.proofs.Openings.{spelled, one_crlf, part_plain, opened_any, peel_any}
use Rattle.mail_base.specs.ToldLines.{IsOpened, IsClosed, IsToldLine}
use Rattle.imap_model.specs.Lines.{AreLines}
use Rattle.imap_model.specs.Talking.{Peer}
use Rattle.imap_model.specs.declared.response.Response.{Response}
use Rattle.literal_feed.specs.Stream.{Stream}
use Rattle.imap_response.proofs.Heard.{front, told_line, told_spells}
use Rattle.world_traits.specs.LinkState.{Connection}
use Rattle.imap_session.specs.Hearing.{Unspelled, SpellsNone}
use Rattle.imap_session.proofs.Reading.{Honest}

walk : (at : ℕ) (stream : List ℕ) (fs : List Frame) (rest : List ℕ) (told : List Response) → AreFrames at stream fs rest → AreLines told stream
    → (more : List Response) × AreLines more rest
walk at stream [] rest told are lines = (told, subst (AreLines told) are lines)
walk at stream (f ∷ fs) rest [] are lines = absurd (no_next at stream f are.0 are.1 lines)
  where
    no_next : (at : ℕ) (stream : List ℕ) (f : Frame) (rest : List ℕ) → IsNext at stream f rest → stream ≡ [] → ⊥
    no_next at stream f rest next nil = omega (arith, ap length next.2.whole, ap length nil, length-append (line_text next.0 next.1) (13 ∷ 10 ∷ rest))
walk at stream (f ∷ fs) rest (s ∷ told) are lines =
    let same = told_spells at stream f are.0 s lines.0 lines.1 are.1 lines.2 lines.3 in
    walk (at + length f.bytes + 2) are.0 fs rest told are.2 (subst (AreLines told) (sym same.1) lines.4)

lf_plain : NoLf (13 ∷ [])
lf_plain = ((λ e. absurd {A = ⊥} (cc e)), tt)

crlf_split : (body rest : List ℕ) → body ++ 13 ∷ 10 ∷ rest ≡ (body ++ 13 ∷ []) ++ 10 ∷ rest
crlf_split body rest = sym (append_assoc body (13 ∷ []) (10 ∷ rest))

last_or_part : (p : Opening) (ps : List Opening) (last rest u : List ℕ) → IsOpened p → NoLf last → IsClosed last
    → last ++ 13 ∷ 10 ∷ rest ≡ spelled (p ∷ ps) ++ u → ⊥
last_or_part p ps last rest u is plain closed e =
    let same = one_crlf last (part_of p) rest (p.octets ++ (spelled ps ++ u)) plain (part_plain p is)
    (e ∙ append_assoc (opening_text p) (spelled ps) u ∙ append_assoc (part_of p) (13 ∷ 10 ∷ p.octets) (spelled ps ++ u)) in
    closed p.front p.digits is.number same.0

all_opened : (os : List Opening) → AllByRecursion IsOpening os → AllByRecursion IsOpened os
all_opened [] all = tt
all_opened (o ∷ os) all = (opened_any o all.0, all_opened os all.1)

-- an LF without CR ends no part that ends with CRLF
bare_crlf : (used : ℕ) (tail part rest body x : List ℕ) → HasBareLf used tail part rest → NoLf body → tail ≡ body ++ 13 ∷ 10 ∷ x → ⊥
bare_crlf used tail part rest body x bare plain is =
    let same = one_lf part (body ++ 13 ∷ []) rest x bare.plain (no_lf-append body (13 ∷ []) plain lf_plain)
    (sym bare.text ∙ is ∙ crlf_split body x) in
    bare.bare body same.0

bare_line : (os gs : List Opening) (used : ℕ) (tail part rest last x : List ℕ) → AllByRecursion IsOpened os → AllByRecursion IsOpened gs → NoLf last
    → IsClosed last → HasBareLf used tail part rest → spelled os ++ tail ≡ spelled gs ++ (last ++ 13 ∷ 10 ∷ x) → ⊥
bare_line [] [] used tail part rest last x a b plain closed bare e = bare_crlf used tail part rest last x bare plain e
bare_line [] (g ∷ gs) used tail part rest last x a b plain closed bare e =
    bare_crlf used tail part rest (part_of g) (g.octets ++ (spelled gs ++ (last ++ 13 ∷ 10 ∷ x))) bare (part_plain g b.0)
    (e ∙ append_assoc (opening_text g) (spelled gs) (last ++ 13 ∷ 10 ∷ x)
    ∙ append_assoc (part_of g) (13 ∷ 10 ∷ g.octets) (spelled gs ++ (last ++ 13 ∷ 10 ∷ x)))
bare_line (o ∷ os) [] used tail part rest last x a b plain closed bare e = last_or_part o os last x tail a.0 plain closed (sym e)
bare_line (o ∷ os) (g ∷ gs) used tail part rest last x a b plain closed bare e =
    let first = peel_any o g (spelled os ++ tail) (spelled gs ++ (last ++ 13 ∷ 10 ∷ x)) a.0 b.0
    (sym (append_assoc (opening_text o) (spelled os) tail) ∙ e ∙ append_assoc (opening_text g) (spelled gs) (last ++ 13 ∷ 10 ∷ x)) in
    bare_line os gs used tail part rest last x a.1 b.1 plain closed bare first.1

bare_told : (at place : ℕ) (stream : List ℕ) (told : List Response) → LineFault at stream (feeds.BareLf place) → AreLines told stream → ⊥
bare_told at place stream [] bad lines =
    let bare = bad.4.2 in
    omega (arith, ap length lines, ap length bad.3, ap length bare.text, length-append (spelled bad.0) bad.1, length-append bad.4.0 (10 ∷ bad.4.1))
bare_told at place stream (s ∷ told) bad lines =
    let g = lines.2.is_line in
    let t : IsToldLine g.openings g.last = told_line lines.2.frame g in
    bare_line bad.0 g.openings (counted bad.0) bad.1 bad.4.0 bad.4.1 g.last lines.1 (all_opened bad.0 bad.2) t.opened t.plain t.closed bad.4.2
    (sym bad.3 ∙ lines.3 ∙ ap (λ (t : List ℕ). t ++ 13 ∷ 10 ∷ lines.1) (lines.2.text ∙ g.text)
    ∙ append_assoc (spelled g.openings) g.last (13 ∷ 10 ∷ lines.1))

ntold_spells : (at : ℕ) (left : Stream) (more : List Response) (behind : List ℕ) → SpellsNone at left → AreLines more (left.bytes ++ behind) → ⊥
ntold_spells at left [] behind n lines =
    omega (
      arith,
      ap length lines,
      length-append left.bytes behind,
      ap length n.next.2.whole,
      length-append (line_text n.next.0 n.next.1)
          (13 ∷ 10 ∷ n.rest),
    )
ntold_spells at left (s ∷ more) behind n lines =
    let longer = frames_stay left.at left.bytes behind (n.frame ∷ []) n.rest (n.rest, n.next, refl) in
    n.none s (told_spells left.at (left.bytes ++ behind) n.frame longer.0 s lines.0 lines.1 longer.1 lines.2 lines.3).0

pub all_spelled : (heard : List Response) (at : ℕ) (had : List ℕ) (p : Peer) (c : Option Connection) → Unspelled heard at had c → Honest p c → ⊥
all_spelled heard at had p c u honest =
    ∥∥₁_elim (honest u.took.connection u.took.there) (λ (a b : ⊥). absurd a)
    (λ r.
    let f = front 0 (u.took.connection.received ++ r.rest) u.taken (u.left.bytes ++ r.rest) heard p.talk.told
    (frames_stay 0 u.took.connection.received r.rest u.taken u.left.bytes u.took.stands.frames) u.took.spell r.lines in
    elim u.bad [
      | inl bare ↦ ∥∥₁_elim bare.1 (λ (a b : ⊥). absurd a) (λ b.
          let far = first_fault_stays u.left.at u.left.bytes r.rest (feeds.BareLf at) b in
          let there = walk u.left.at (u.left.bytes ++ r.rest) far.0 far.1 f.0 far.2 f.2 in
          bare_told (u.left.at + (length (u.left.bytes ++ r.rest) - length far.1)) at far.1 there.0 far.3 there.1)
      | inr none ↦ ntold_spells at u.left f.0 r.rest none f.2
    ])
