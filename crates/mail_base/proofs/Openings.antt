-- A line opens its literals in one way (RFC 9051, sections 2.2 and 4.3).
use Rattle.std.proofs.Common.{◌≡◌, ◌≢◌, ℕ, ◌+◌, ◌<◌, ◌≤◌, List, [], ◌∷◌, ◌++◌, length, take, drop, refl, sym, ◌∙◌, ap, subst, arith}
use Rattle.std.proofs.Common.{append_assoc, length-append}
use Rattle.std.proofs.Math.Seq.{take-append_seam, drop-append_seam}
use Rattle.std.proofs.lemmas.List.{same_from_push}
use Rattle.std.specs.List.{AllByRecursion, flat_map}
use Rattle.std.specs.Str.Parse.{digits_value}
use Rattle.mail_base.specs.Frames.{NoLf, GoesOn, header, Opening, IsOpening, opening_text, part_of, counted, HasBareLf, HasLargeLiteral, HasLongLine}
use Rattle.mail_base.specs.ToldLines.{IsOpened}
use Rattle.mail_base.proofs.Lf.{no_lf-append, no_lf-here, no_lf-header, one_lf}
use Rattle.mail_base.proofs.Headers.{one_header}

-- the bytes of the openings
abbrev pub spelled : List Opening → List ℕ
spelled openings = flat_map opening_text openings

lf_plain : NoLf (13 ∷ [])
lf_plain = ((λ e. absurd {A = ⊥} (cc e)), tt)

-- the first CRLF without an LF before it
pub record Crlf (used : ℕ) (tail body rest : List ℕ) : Type 0 where
  pub text : tail ≡ body ++ 13 ∷ 10 ∷ rest
  pub plain : NoLf body
  pub short : used + length body ≤ 1048576

crlf_split : (body rest : List ℕ) → body ++ 13 ∷ 10 ∷ rest ≡ (body ++ 13 ∷ []) ++ 10 ∷ rest
crlf_split body rest = sym (append_assoc body (13 ∷ []) (10 ∷ rest))

-- the first CRLF is one
pub one_crlf : (a b x y : List ℕ) → NoLf a → NoLf b → a ++ 13 ∷ 10 ∷ x ≡ b ++ 13 ∷ 10 ∷ y → (a ≡ b) × (x ≡ y)
one_crlf a b x y pa pb e =
    let same = one_lf (a ++ 13 ∷ []) (b ++ 13 ∷ []) x y (no_lf-append a (13 ∷ []) pa lf_plain) (no_lf-append b (13 ∷ []) pb lf_plain)
    (sym (crlf_split a x) ∙ e ∙ crlf_split b y) in
    ((same_from_push a b 13 13 same.0).0, same.1)

module _ (used : ℕ) (tail body rest : List ℕ) (crlf : Crlf used tail body rest) where
  split : tail ≡ (body ++ 13 ∷ []) ++ 10 ∷ rest
  split = crlf.text ∙ crlf_split body rest

  front_plain : NoLf (body ++ 13 ∷ [])
  front_plain = no_lf-append body (13 ∷ []) crlf.plain lf_plain

  pub crlf_unique : (body' rest' : List ℕ) (used' : ℕ) → Crlf used' tail body' rest' → (body ≡ body') × (rest ≡ rest')
  crlf_unique body' rest' used' other = one_crlf body body' rest rest' crlf.plain other.plain (sym crlf.text ∙ other.text)

  pub crlf_plain : NoLf tail → ⊥
  crlf_plain plain = no_lf-here (body ++ 13 ∷ []) rest (subst NoLf split plain)

  pub crlf_bare : (part more : List ℕ) → HasBareLf used tail part more → ⊥
  crlf_bare part more bare =
      let same = one_lf (body ++ 13 ∷ []) part rest more front_plain bare.plain (sym split ∙ bare.text) in
      bare.bare body (sym same.0)

-- a line that is too long has no LF before the byte that is too much, nor behind a CR there
long_front : (used : ℕ) (tail part : List ℕ) (byte : ℕ) (rest : List ℕ) → HasLongLine used tail part byte rest → (front more : List ℕ) →
    tail ≡ front ++ 10 ∷ more → length part < length front
long_front used tail part byte rest long front more is = inside part front byte rest more long.plain long.goes_on (sym long.text ∙ is)
  where
    inside : (part front : List ℕ) (byte : ℕ) (rest more : List ℕ) → NoLf part → byte ≢ 10 → part ++ byte ∷ rest ≡ front ++ 10 ∷ more →
        length part < length front
    inside [] [] byte rest more plain other e = absurd (other cc)
    inside [] (f ∷ front) byte rest more plain other e = omega arith
    inside (p ∷ part) [] byte rest more plain other e = absurd (plain.0 cc)
    inside (p ∷ part) (f ∷ front) byte rest more plain other e = omega (arith, inside part front byte rest more plain.1 other cc)

same_place : (part body : List ℕ) (byte : ℕ) (rest more : List ℕ) → length part ≡ length body →
    part ++ byte ∷ rest ≡ body ++ 13 ∷ 10 ∷ more → (byte ≡ 13) × (rest ≡ 10 ∷ more)
same_place [] [] byte rest more n e = (cc, cc)
same_place [] (b ∷ body) byte rest more n e = absurd (omega (arith, n))
same_place (p ∷ part) [] byte rest more n e = absurd (omega (arith, n))
same_place (p ∷ part) (b ∷ body) byte rest more n e = same_place part body byte rest more (omega (arith, n)) cc

goes_on_lf : (rest more : List ℕ) → rest ≡ 10 ∷ more → GoesOn rest → ⊥
goes_on_lf [] more is on = on
goes_on_lf (b ∷ rest) more is on = on cc

pub crlf_long : (used : ℕ) (tail body more : List ℕ) → Crlf used tail body more → (part : List ℕ) (byte : ℕ) (rest : List ℕ) →
    HasLongLine used tail part byte rest → ⊥
crlf_long used tail body more crlf part byte rest long =
    let lt = long_front used tail part byte rest long (body ++ 13 ∷ []) more (crlf.text ∙ crlf_split body more) in
    let n : length part ≡ length body = omega (arith, lt, length-append body (13 ∷ []), crlf.short, long.full) in
    let at = same_place part body byte rest more n (sym long.text ∙ crlf.text) in
    goes_on_lf rest more at.1 (long.no_end at.0)

pub bare_long : (used : ℕ) (tail front more : List ℕ) → HasBareLf used tail front more → (part : List ℕ) (byte : ℕ) (rest : List ℕ) →
    HasLongLine used tail part byte rest → ⊥
bare_long used tail front more bare part byte rest long = omega (arith, long_front used tail part byte rest long front more bare.text, bare.short, long.full)

-- what is told of a part that opens a literal
pub opening_crlf : (used : ℕ) (tail : List ℕ) (o : Opening) (x : List ℕ) → IsOpening o → used + length (part_of o) ≤ 1048576 →
    tail ≡ opening_text o ++ x → Crlf used tail (part_of o) (o.octets ++ x)
opening_crlf used tail o x is short e = record {
  text = e ∙ append_assoc (part_of o) (13 ∷ 10 ∷ o.octets) x;
  plain = no_lf-append o.front (header o.digits) is.plain (no_lf-header o.digits is.number.1);
  short = short;
}

pub large_crlf : (used : ℕ) (tail front digits rest : List ℕ) → HasLargeLiteral used tail front digits rest → Crlf used tail (front ++ header digits) rest
large_crlf used tail front digits rest is = record {
  text = is.text;
  plain =
      no_lf-append front (header digits) is.plain (no_lf-header digits is.number.1);
  short = is.short;
}

-- the part of a literal that is told holds no LF
pub part_plain : (o : Opening) → IsOpened o → NoLf (part_of o)
part_plain o is = no_lf-append o.front (header o.digits) is.plain (no_lf-header o.digits is.number.1)

-- two openings in front are one, however large their literals are
pub peel_any : (o p : Opening) (x y : List ℕ) → IsOpened o → IsOpened p → opening_text o ++ x ≡ opening_text p ++ y → (o ≡ p) × (x ≡ y)
peel_any o p x y io ip e =
    let crlf = one_crlf (part_of o) (part_of p) (o.octets ++ x) (p.octets ++ y) (part_plain o io) (part_plain p ip)
    (sym (append_assoc (part_of o) (13 ∷ 10 ∷ o.octets) x) ∙ e ∙ append_assoc (part_of p) (13 ∷ 10 ∷ p.octets) y) in
    let parts = one_header o.front o.digits p.front p.digits io.number.1 ip.number.1 crlf.0 in
    let n : length o.octets ≡ length p.octets = sym io.octets ∙ ap (digits_value 10) parts.1 ∙ ip.octets in
    let octets : o.octets ≡ p.octets = sym (take-append_seam o.octets x) ∙ ap (take (length o.octets)) crlf.1
    ∙ ap (λ (k : ℕ). take k (p.octets ++ y)) n ∙ take-append_seam p.octets y in
    let rest : x ≡ y = sym (drop-append_seam o.octets x) ∙ ap (drop (length o.octets)) crlf.1 ∙ ap (λ (k : ℕ). drop k (p.octets ++ y)) n
    ∙ drop-append_seam p.octets y in
    ((λ i. record { front = parts.0 i; digits = parts.1 i; octets = octets i }), rest)

-- a literal within the limit is one that may be told
pub opened_any : (o : Opening) → IsOpening o → IsOpened o
opened_any o is = record { plain = is.plain; number = is.number; octets = is.octets }

-- no literal is opened in front of this tail
abbrev pub NoOpening : ℕ → List ℕ → Type 0
NoOpening used tail = (o : Opening) (x : List ℕ) → IsOpening o → used + length (part_of o) ≤ 1048576 → tail ≡ opening_text o ++ x → ⊥

none : (used : ℕ) (p : Opening) (ps : List Opening) (t u : List ℕ) → IsOpening p → used + (length (part_of p) + counted ps) ≤ 1048576 →
    NoOpening (used + 0) t → t ≡ opening_text p ++ (spelled ps ++ u) → ⊥
none used p ps t u is n lacks e = lacks p (spelled ps ++ u) is (omega (arith, n)) e

-- a line opens its literals in one way, up to tails that open none
pub align : (used : ℕ) (os ps : List Opening) (t u : List ℕ) → AllByRecursion IsOpening os → AllByRecursion IsOpening ps →
    used + counted os ≤ 1048576 → used + counted ps ≤ 1048576 → NoOpening (used + counted os) t → NoOpening (used + counted ps) u →
    spelled os ++ t ≡ spelled ps ++ u → (os ≡ ps) × (t ≡ u)
align used [] [] t u a b m n lacks lacks' e = (refl, e)
align used [] (p ∷ ps) t u a b m n lacks lacks' e = absurd (none used p ps t u b.0 n lacks (e ∙ append_assoc (opening_text p) (spelled ps) u))
align used (o ∷ os) [] t u a b m n lacks lacks' e = absurd (none used o os u t a.0 m lacks' (sym e ∙ append_assoc (opening_text o) (spelled os) t))
align used (o ∷ os) (p ∷ ps) t u a b m n lacks lacks' e =
    let first = peel_any o p (spelled os ++ t) (spelled ps ++ u) (opened_any o a.0) (opened_any p b.0)
    (sym (append_assoc (opening_text o) (spelled os) t) ∙ e ∙ append_assoc (opening_text p) (spelled ps) u) in
    let size : length (part_of o) ≡ length (part_of p) = ap (λ (q : Opening). length (part_of q)) first.0 in
    let here : used + (length (part_of o) + counted os) ≡ used + length (part_of o) + counted os = omega arith in
    let there : used + (length (part_of p) + counted ps) ≡ used + length (part_of o) + counted ps = omega (arith, size) in
    let rest = align (used + length (part_of o)) os ps t u a.1 b.1 (omega (arith, m)) (omega (arith, n, size))
    (subst (λ (k : ℕ). NoOpening k t) here lacks) (subst (λ (k : ℕ). NoOpening k u) there lacks') first.1 in
    ((λ i. first.0 i ∷ rest.0 i), rest.1)
