-- A line that is told is cut off the front of a stream in one way, however long it is (RFC 9051, sections 2.2 and 4.3).
use Rattle.std.proofs.Common.{◌≡◌, ℕ, List, [], ◌∷◌, ◌++◌, length, refl, sym, ◌∙◌, ap, subst, arith, append_assoc, length-append}
use Rattle.std.specs.List.{AllByRecursion}
use Rattle.mail_base.specs.Frames.{NoLf, Opening, opening_text, part_of}
use Rattle.mail_base.specs.ToldLines.{IsOpened, IsClosed}
use Rattle.mail_base.proofs.Openings.{spelled, one_crlf, part_plain, peel_any}
use Rattle.imap_model.specs.Lines.{IsSpelled, AreLines}
use Rattle.imap_model.specs.declared.response.Response.{Response}

last_or_part : (p : Opening) (ps : List Opening) (last rest u : List ℕ) → IsOpened p → NoLf last → IsClosed last →
    last ++ 13 ∷ 10 ∷ rest ≡ spelled (p ∷ ps) ++ u → ⊥
last_or_part p ps last rest u is plain closed e =
    let same = one_crlf last (part_of p) rest (p.octets ++ (spelled ps ++ u)) plain (part_plain p is)
    (e ∙ append_assoc (opening_text p) (spelled ps) u ∙ append_assoc (part_of p) (13 ∷ 10 ∷ p.octets) (spelled ps ++ u)) in
    closed p.front p.digits is.number same.0

-- the same openings and the same last part stand in front, and the same bytes behind them
one_cut : (os ps : List Opening) (last rest last' rest' : List ℕ)
    → AllByRecursion IsOpened os → AllByRecursion IsOpened ps → NoLf last → NoLf last' → IsClosed last → IsClosed last'
    → spelled os ++ (last ++ 13 ∷ 10 ∷ rest) ≡ spelled ps ++ (last' ++ 13 ∷ 10 ∷ rest') → rest ≡ rest'
one_cut [] [] last rest last' rest' a b pl pl' cl cl' e = (one_crlf last last' rest rest' pl pl' e).1
one_cut [] (p ∷ ps) last rest last' rest' a b pl pl' cl cl' e = absurd (last_or_part p ps last rest (last' ++ 13 ∷ 10 ∷ rest') b.0 pl cl e)
one_cut (o ∷ os) [] last rest last' rest' a b pl pl' cl cl' e = absurd (last_or_part o os last' rest' (last ++ 13 ∷ 10 ∷ rest) a.0 pl' cl' (sym e))
one_cut (o ∷ os) (p ∷ ps) last rest last' rest' a b pl pl' cl cl' e =
    let first = peel_any o p (spelled os ++ (last ++ 13 ∷ 10 ∷ rest)) (spelled ps ++ (last' ++ 13 ∷ 10 ∷ rest')) a.0 b.0
    (sym (append_assoc (opening_text o) (spelled os) (last ++ 13 ∷ 10 ∷ rest)) ∙ e ∙ append_assoc (opening_text p) (spelled ps) (last' ++ 13 ∷ 10 ∷ rest')) in
    one_cut os ps last rest last' rest' a.1 b.1 pl pl' cl cl' first.1

-- two lines that are told at the front of one stream end at one place
one_line : (r s : Response) (line rest line' rest' : List ℕ) → IsSpelled r line → IsSpelled s line' →
    line ++ 13 ∷ 10 ∷ rest ≡ line' ++ 13 ∷ 10 ∷ rest' → rest ≡ rest'
one_line r s line rest line' rest' one other is =
    let f = one.is_line in
    let g = other.is_line in
    one_cut f.openings g.openings f.last rest g.last rest' f.opened g.opened f.plain g.plain f.closed g.closed
    (sym (append_assoc (spelled f.openings) f.last (13 ∷ 10 ∷ rest))
    ∙ sym (ap (λ (t : List ℕ). t ++ 13 ∷ 10 ∷ rest) (one.text ∙ f.text)) ∙ is ∙ ap (λ (t : List ℕ). t ++ 13 ∷ 10 ∷ rest') (other.text ∙ g.text)
    ∙ append_assoc (spelled g.openings) g.last (13 ∷ 10 ∷ rest'))

no_front : (line rest more : List ℕ) → (line ++ 13 ∷ 10 ∷ rest) ++ more ≡ [] → ⊥
no_front line rest more e = omega (arith, ap length e, length-append (line ++ 13 ∷ 10 ∷ rest) more, length-append line (13 ∷ 10 ∷ rest))

-- bytes that are a front of the lines of some responses aren't the lines of these and of more
pub no_more : (heard more : List Response) (stream rest : List ℕ) → AreLines heard (stream ++ rest) → AreLines (heard ++ more) stream → more ≡ []
no_more [] [] stream rest front all = refl
no_more [] (r ∷ more) stream rest front all = absurd (no_front all.0 all.1 rest (sym (ap (λ (t : List ℕ). t ++ rest) all.3) ∙ front))
no_more (r ∷ heard) more stream rest front all =
    let same : front.1 ≡ all.1 ++ rest = one_line r r front.0 front.1 all.0 (all.1 ++ rest) front.2 all.2
    (sym front.3 ∙ ap (λ (t : List ℕ). t ++ rest) all.3 ∙ append_assoc all.0 (13 ∷ 10 ∷ all.1) rest) in
    no_more heard more all.1 rest (subst (AreLines heard) same front.4) all.4
