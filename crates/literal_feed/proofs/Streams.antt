-- A stream that was read: one more line, one more piece, and a frame taken.
use Rattle.std.proofs.Common.{◌≡◌, inl, inr, ℕ, ◌+◌, ◌-◌, ◌<◌, ◌≤◌, List, [], ◌∷◌, ◌++◌, length, take, drop, Option, Some, None, refl}
use Rattle.std.proofs.Common.{sym, ◌∙◌, ap, subst, arith, append_assoc, length-append, length-drop}
use Rattle.std.proofs.Math.Logic.{∥∥₁_elim}
use Rattle.std.proofs.Math.Seq.{drop-append-add}
use Rattle.std.proofs.lemmas.List.{drop-drop, drop-append-le, take-append-le}
use Rattle.std.proofs.lemmas.Bool.{cases_lt}
use Rattle.std.specs.Str.Parse.{digits_value}
use Rattle.mail_base.specs.Frames.{NoLf, NoWhole, header, Opening, counted, BeginsWith, line_text, literals_from, IsNext, AreFrames}
use Rattle.mail_base.specs.Frames.{LineFault, FirstFault, told}
use Rattle.mail_base.specs.declared.frame.Frame.{Frame}
use Rattle.mail_base.specs.declared.frame.FeedFault.{FeedFault}
use Rattle.mail_base.specs.declared.frame.FeedFault.TheVariants as faults
use Rattle.literal_feed.specs.declared.part.Cursor.{Cursor}
use Rattle.literal_feed.specs.declared.progress.Progress.{Progress}
use Rattle.literal_feed.specs.Parts.{IsLiteralPart}
use Rattle.literal_feed.specs.Lines.{IsInPart, IsInLiteral, Stands, IsOpenLine, IsWholeLine}
use Rattle.std.specs.Prelude.{Result, Ok, Err, OnOk, OnErr, IfErr}
use Rattle.literal_feed.specs.Stream.{Stream, NoFault}
use Rattle.literal_feed.specs.Streams.{AreWhole, Reads, RestIs, Holds}
use Rattle.literal_feed.proofs.Parts.{counts-le}
use Rattle.mail_base.proofs.Openings.{spelled}
use Rattle.mail_base.proofs.Frames.{fault_no_whole, one_whole, frames_le}
use Rattle.mail_base.proofs.MoreBytes.{frames_stay, line_told, frames_told}
use Rattle.literal_feed.proofs.Lines.{known, tail_is, goes_on}
use Rattle.literal_feed.proofs.Ends.{open_no_whole, open_no_fault}

-- a line at its beginning
pub stands_start : (line : List ℕ) (cursor : Cursor) → cursor.part ≡ 0 → cursor.searched ≡ 0 → cursor.counted ≡ 0 → Stands line cursor
stands_start line cursor p s u = inl (
  [],
  line,
  record {
    text = refl;
    opened = tt;
    begins = p;
    within = omega (arith, s);
    used_is = u;
    plain = let none : cursor.searched - cursor.part ≡ 0 = omega (arith, p, s) in subst (λ (k : ℕ). NoLf (take k line)) (sym none) tt;
  },
)

pub nothing_open : IsOpenLine []
nothing_open = inl ([], [], tt, refl, record { plain = tt; short = λ size counts. omega (arith, counts-le [] size counts) })

-- more comes
part_more : (line more : List ℕ) (part searched used : ℕ) (os : List Opening) (tail : List ℕ) → part ≤ searched →
    IsInPart line part searched used os tail → IsInPart (line ++ more) part searched used os (tail ++ more)
part_more line more part searched used os tail ordered is = record {
  text = ap (λ (t : List ℕ). t ++ more) is.text ∙ append_assoc (spelled os) tail more;
  opened = is.opened;
  begins = is.begins;
  within = omega (arith, is.within, length-append line more);
  used_is = is.used_is;
  plain = subst NoLf (sym (take-append-le (searched - part) tail more
      (omega (arith, is.within, is.begins, ap length is.text, length-append (spelled os) tail, ordered)))) is.plain;
}

-- more octets of a literal
literal_more : (line more : List ℕ) (cursor : Cursor) → cursor.searched ≡ cursor.part →
    (os : List Opening) (front digits octets : List ℕ) → IsInLiteral line cursor.part cursor.counted os front digits octets →
    Stands (line ++ more) cursor
literal_more line more cursor searched os front digits octets is =
    let n : ℕ = digits_value 10 digits in
    let size : ℕ = length (front ++ header digits) in
    let tail : List ℕ = (front ++ header digits) ++ 13 ∷ 10 ∷ (octets ++ more) in
    let text : line ++ more ≡ spelled os ++ ((front ++ header digits) ++ 13 ∷ 10 ∷ (octets ++ more)) =
    ap (λ (t : List ℕ). t ++ more) is.text ∙ append_assoc (spelled os) ((front ++ header digits) ++ 13 ∷ 10 ∷ octets) more
    ∙ ap (λ (t : List ℕ). spelled os ++ t) (append_assoc (front ++ header digits) (13 ∷ 10 ∷ octets) more) in
    let few : counted os + length (front ++ header digits) ≤ 1048576 = omega (arith, is.used_is, is.short) in
    let old : Cursor = record {
      part = length (spelled os);
      searched = length (spelled os);
      counted = counted os;
      ordered =
          omega arith;
      room = omega (arith, few);
    } in
    let none : length (spelled os) - length (spelled os) ≡ 0 = omega arith in
    let here : IsInPart (line ++ more) (length (spelled os)) (length (spelled os)) (counted os) os
    ((front ++ header digits) ++ 13 ∷ 10 ∷ (octets ++ more)) = record {
      text = text;
      opened = is.opened;
      begins = refl;
      used_is = refl;
      within = omega (arith, ap length text, length-append (spelled os) ((front ++ header digits) ++ 13 ∷ 10 ∷ (octets ++ more)));
      plain = subst (λ (k : ℕ). NoLf (take k ((front ++ header digits) ++ 13 ∷ 10 ∷ (octets ++ more)))) (sym none) tt;
    } in
    let opens : IsLiteralPart (counted os) (drop (length (spelled os)) (line ++ more)) front digits (octets ++ more) = record {
      text = tail_is (line ++ more) (length (spelled os)) (length (spelled os)) (counted os) os ((front ++ header digits) ++ 13 ∷ 10 ∷ (octets ++ more)) here;
      plain = is.plain;
      number = is.number;
      few = is.few;
      short = few;
    } in
    goes_on (line ++ more) (record {
      part = length (spelled os);
      searched = length (spelled os);
      counted = counted os;
      ordered =
          omega arith;
      room = omega (arith, few);
    }) cursor (inl (
      os,
      (front ++ header digits) ++ 13 ∷ 10 ∷ (octets ++ more),
      here,
    )) here.within
    (length (spelled os) + length (front ++ header digits) + 2) (digits_value 10 digits) (front, digits, octets ++ more, opens, refl, refl)
    is.begins (searched ∙ is.begins) (omega (arith, is.used_is))

pub stands_more : (line more : List ℕ) (cursor : Cursor) → cursor.part ≤ cursor.searched → Stands line cursor → Stands (line ++ more) cursor
stands_more line more cursor ordered (inl is) = inl (is.0, is.1 ++ more, part_more line more cursor.part cursor.searched cursor.counted is.0 is.1 ordered is.2)
stands_more line more cursor ordered (inr s) = literal_more line more cursor s.0 s.1 s.2 s.3 s.4 s.5

-- a whole line behind the frames is a frame more
frame_more : (at : ℕ) (stream : List ℕ) (fs : List Frame) (rest : List ℕ) → AreFrames at stream fs rest →
    (os : List Opening) (last later : List ℕ) → BeginsWith rest os last later → (gs : List Frame) × AreFrames at stream gs later
frame_more at stream [] rest is os last later whole = (
  record { bytes = line_text os last; literals = literals_from 0 os; at = told at } ∷ [],
  (later, (os, last, subst (λ (t : List ℕ). BeginsWith t os last later) (sym is) whole, refl, refl, refl), refl),
)
frame_more at stream (f ∷ fs) rest is os last later whole =
    let more = frame_more (at + length f.bytes + 2) is.0 fs rest is.2 os last later whole in
    (f ∷ more.0, (is.0, is.1, more.1))

pub reads_line : (at : ℕ) (text : List ℕ) (whole end : ℕ) (old new : Cursor) → Reads at text whole old →
    IsWholeLine (drop whole text) end → new.part ≡ 0 → new.searched ≡ 0 → new.counted ≡ 0 → Reads at text (whole + (end + 2)) new
reads_line at text whole end old new is line p s u =
    let rest = drop whole text in
    let size : length rest ≡ end + 2 + length line.2 = omega (
      arith,
      line.4,
      ap length line.3.whole,
      length-append (line_text line.0 line.1) (13 ∷ 10 ∷ line.2),
    ) in
    let later : drop (whole + (end + 2)) text ≡ line.2 =
    sym (drop-drop (end + 2) whole text) ∙ ap (λ (k : ℕ). drop (k + 2) rest) line.4
    ∙ ap (drop (length (line_text line.0 line.1) + 2)) line.3.whole ∙ drop-append-add (line_text line.0 line.1) (13 ∷ 10 ∷ line.2) 2 in
    let more = frame_more at text is.0.1.0 rest is.0.1.1 line.0 line.1 line.2 line.3 in (
      (
        omega (arith, size, is.0.0, length-drop whole text),
        (
          more.0,
          subst (λ (t : List ℕ). AreFrames at text more.0 t) (sym later) more.1,
        ),
      ),
      stands_start (drop (whole + (end + 2)) text) new p s u,
    )

-- an open stream has no fault
pub open_frames : (at a : ℕ) (stream : List ℕ) (fs : List Frame) (rest : List ℕ) → AreFrames at stream fs rest → IsOpenLine rest →
    (b : ℕ) (gs : List Frame) (rest' : List ℕ) (fault : FeedFault) → AreFrames a stream gs rest' → LineFault b rest' fault → ⊥
open_frames at a stream [] rest is goes b [] rest' fault is' bad =
    open_no_fault rest b fault goes (subst (λ (t : List ℕ). LineFault b t fault) (sym is' ∙ is) bad)
open_frames at a stream [] rest is goes b (g ∷ gs) rest' fault is' bad =
    open_no_whole rest goes is'.1.0 is'.1.1 is'.0 (subst (λ (t : List ℕ). BeginsWith t is'.1.0 is'.1.1 is'.0) is is'.1.2)
open_frames at a stream (f ∷ fs) rest is goes b [] rest' fault is' bad =
    fault_no_whole rest' b fault bad is.1.0 is.1.1 is.0 (subst (λ (t : List ℕ). BeginsWith t is.1.0 is.1.1 is.0) is' is.1.2)
open_frames at a stream (f ∷ fs) rest is goes b (g ∷ gs) rest' fault is' bad =
    let same = one_whole stream is.1.0 is'.1.0 is.1.1 is.0 is'.1.1 is'.0 is.1.2 is'.1.2 in
    open_frames (at + length f.bytes + 2) (a + length g.bytes + 2) is.0 fs rest is.2 goes b gs rest' fault
    (subst (λ (t : List ℕ). AreFrames (a + length g.bytes + 2) t gs rest') (sym same.2) is'.2) bad

-- no bytes were read
pub holds_nothing : (progress : Progress) → progress.whole ≡ 0 → progress.fault ≡ None → progress.cursor.part ≡ 0 →
    progress.cursor.searched ≡ 0 → progress.cursor.counted ≡ 0 → Holds 0 [] progress
holds_nothing progress whole fault p s u =
    let all : drop progress.whole [] ≡ [] = ap (λ (k : ℕ). drop k []) whole in (
      (omega (arith, whole), ([], sym all)),
      subst (λ (f : Option FeedFault). RestIs (0 + progress.whole) (drop progress.whole []) progress.cursor f) (sym fault)
          (stands_start (drop progress.whole []) progress.cursor p s u, subst IsOpenLine (sym all) nothing_open),
    )

-- a piece more
pub holds_more : (at : ℕ) (bytes more : List ℕ) (progress : Progress) → progress.cursor.part ≤ progress.cursor.searched →
    progress.fault ≡ None → Holds at bytes progress → Reads at (bytes ++ more) progress.whole progress.cursor
holds_more at bytes more progress ordered fault is =
    let rest : drop progress.whole (bytes ++ more) ≡ drop progress.whole bytes ++ more = drop-append-le progress.whole bytes more is.0.0 in
    let open_is : RestIs (at + progress.whole) (drop progress.whole bytes) progress.cursor None =
    subst (λ (f : Option FeedFault). RestIs (at + progress.whole) (drop progress.whole bytes) progress.cursor f) fault is.1 in (
      (
        omega (arith, is.0.0, length-append bytes more),
        (
          is.0.1.0,
          subst (λ (t : List ℕ). AreFrames at (bytes ++ more) is.0.1.0 t) (sym rest)
              (frames_stay at bytes more is.0.1.0 (drop progress.whole bytes) is.0.1.1),
        ),
      ),
      subst (λ (t : List ℕ). Stands t progress.cursor) (sym rest) (stands_more (drop progress.whole bytes) more progress.cursor ordered open_is.0),
    )

-- what was read has no fault, or this one
pub holds_open : (at : ℕ) (bytes : List ℕ) (progress : Progress) → progress.fault ≡ None → Holds at bytes progress → (fault : FeedFault) →
    FirstFault at bytes fault → ⊥
holds_open at bytes progress none is fault bad =
    let open_is : RestIs (at + progress.whole) (drop progress.whole bytes) progress.cursor None =
    subst (λ (f : Option FeedFault). RestIs (at + progress.whole) (drop progress.whole bytes) progress.cursor f) none is.1 in
    open_frames at at bytes is.0.1.0 (drop progress.whole bytes) is.0.1.1 open_is.1 (at + (length bytes - length bad.1)) bad.0 bad.1 fault bad.2 bad.3

pub holds_fault : (at : ℕ) (bytes : List ℕ) (progress : Progress) (fault : FeedFault) → progress.fault ≡ Some fault →
    Holds at bytes progress → FirstFault at bytes fault
holds_fault at bytes progress fault some is =
    let bad : RestIs (at + progress.whole) (drop progress.whole bytes) progress.cursor (Some fault) =
    subst (λ (f : Option FeedFault). RestIs (at + progress.whole) (drop progress.whole bytes) progress.cursor f) some is.1 in
    let place : at + progress.whole ≡ at + (length bytes - length (drop progress.whole bytes)) = omega (arith, length-drop progress.whole bytes, is.0.0) in
    (is.0.1.0, drop progress.whole bytes, is.0.1.1, subst (λ (k : ℕ). LineFault k (drop progress.whole bytes) fault) place bad)

-- no whole line stands in front
pub holds_none : (at : ℕ) (bytes : List ℕ) (progress : Progress) → progress.whole ≡ 0 → Holds at bytes progress → NoWhole bytes
holds_none at bytes progress none is =
    let all : drop progress.whole bytes ≡ bytes = ap (λ (k : ℕ). drop k bytes) none in
    subst NoWhole all (rest_none (at + progress.whole) (drop progress.whole bytes) progress.cursor progress.fault is.1)
  where
    rest_none : (a : ℕ) (rest : List ℕ) (cursor : Cursor) (fault : Option FeedFault) → RestIs a rest cursor fault → NoWhole rest
    rest_none a rest cursor None r = open_no_whole rest r.1
    rest_none a rest cursor (Some f) r = fault_no_whole rest a f r

-- a whole line stands in front
pub holds_some : (at : ℕ) (bytes : List ℕ) (progress : Progress) → 0 < progress.whole → Holds at bytes progress → NoWhole bytes → ⊥
holds_some at bytes progress some is = inside at bytes (drop progress.whole bytes)
    (omega (arith, length-drop progress.whole bytes, is.0.0, some)) is.0.1.0 is.0.1.1
  where
    inside : (at : ℕ) (bytes rest : List ℕ) → length rest < length bytes → (fs : List Frame) → AreFrames at bytes fs rest → NoWhole bytes → ⊥
    inside at bytes rest less [] e lacks = omega (arith, less, ap length e)
    inside at bytes rest less (f ∷ fs) e lacks = lacks e.1.0 e.1.1 e.0 e.1.2

rest_told : (a b : ℕ) (rest : List ℕ) (cursor : Cursor) (fault : Option FeedFault) → told a ≡ told b → RestIs a rest cursor fault → RestIs b rest cursor fault
rest_told a b rest cursor None same is = is
rest_told a b rest cursor (Some f) same is = line_told a b rest f same is

-- the first frame is taken
pub holds_taken : (at : ℕ) (bytes : List ℕ) (old new : Progress) (frame : Frame) → 0 < old.whole → Holds at bytes old →
    IsNext at bytes frame (drop (length frame.bytes + 2) bytes) → new.whole ≡ old.whole - (length frame.bytes + 2) →
    new.cursor ≡ old.cursor → new.fault ≡ old.fault → (length frame.bytes + 2 ≤ old.whole)
    × Holds (told (at + (length frame.bytes + 2))) (drop (length frame.bytes + 2) bytes) new
holds_taken at bytes old new frame some is next whole_is cursor_is fault_is = inside is.0.1.0 is.0.1.1
  where
    inside : (fs : List Frame) → AreFrames at bytes fs (drop old.whole bytes) →
        (length frame.bytes + 2 ≤ old.whole) × Holds (told (at + (length frame.bytes + 2))) (drop (length frame.bytes + 2) bytes) new
    inside [] e = absurd (omega (arith, ap length e, length-drop old.whole bytes, is.0.0, some))
    inside (f ∷ fs) e =
        let same = one_whole bytes next.0 e.1.0 next.1 (drop (length frame.bytes + 2) bytes) e.1.1 e.0 next.2 e.1.2 in
        let n : length frame.bytes ≡ length f.bytes = ap length next.3 ∙ ap (λ (o : List Opening). length (line_text o next.1)) same.0
        ∙ ap (λ (l : List ℕ). length (line_text e.1.0 l)) same.1 ∙ sym (ap length e.1.3) in
        let count_le : length frame.bytes + 2 ≤ length bytes = omega (
          arith,
          ap length next.2.whole,
          length-append (line_text next.0 next.1) (13 ∷ 10 ∷ drop (length frame.bytes + 2) bytes),
          ap length next.3,
        ) in
        let le : length frame.bytes + 2 ≤ old.whole = omega (
          arith,
          frames_le (at + length f.bytes + 2) e.0 fs (drop old.whole bytes) e.2,
          ap length same.2,
          length-drop (length frame.bytes + 2) bytes,
          length-drop old.whole bytes,
          is.0.0,
          count_le,
        ) in
        let back : length frame.bytes + 2 + new.whole ≡ old.whole = omega (arith, le, whole_is) in
        let rest_is : drop new.whole (drop (length frame.bytes + 2) bytes) ≡ drop old.whole bytes =
        drop-drop new.whole (length frame.bytes + 2) bytes ∙ ap (λ (k : ℕ). drop k bytes) back in
        let place : told (at + length f.bytes + 2) ≡ told (told (at + (length frame.bytes + 2))) = omega (arith, n) in
        let place' : told (at + old.whole) ≡ told (told (at + (length frame.bytes + 2)) + new.whole) = omega (arith, back) in
        let frames : AreFrames (told (at + (length frame.bytes + 2))) (drop (length frame.bytes + 2) bytes) fs
        (drop new.whole (drop (length frame.bytes + 2) bytes)) =
        subst (λ (t : List ℕ). AreFrames (told (at + (length frame.bytes + 2))) (drop (length frame.bytes + 2) bytes) fs t) (sym rest_is)
        (subst (λ (t : List ℕ). AreFrames (told (at + (length frame.bytes + 2))) t fs (drop old.whole bytes)) (sym same.2)
        (frames_told (at + length f.bytes + 2) (told (at + (length frame.bytes + 2))) e.0 fs (drop old.whole bytes) place e.2)) in
        let left : RestIs (told (at + (length frame.bytes + 2)) + new.whole) (drop new.whole (drop (length frame.bytes + 2) bytes)) new.cursor new.fault =
        subst (λ (t : List ℕ). RestIs (told (at + (length frame.bytes + 2)) + new.whole) t new.cursor new.fault) (sym rest_is)
        (subst (λ (k : Cursor). RestIs (told (at + (length frame.bytes + 2)) + new.whole) (drop old.whole bytes) k new.fault) (sym cursor_is)
        (subst (λ (g : Option FeedFault). RestIs (told (at + (length frame.bytes + 2)) + new.whole) (drop old.whole bytes) old.cursor g) (sym fault_is)
        (rest_told (at + old.whole) (told (at + (length frame.bytes + 2)) + new.whole) (drop old.whole bytes) old.cursor old.fault place' is.1))) in
        (le, ((omega (arith, length-drop (length frame.bytes + 2) bytes, back, is.0.0), (fs, frames)), left))

pub known2 : {A B C : Type 0} → ∥ A ∥₁ → ∥ B ∥₁ → (A → B → C) → ∥ C ∥₁
known2 a b f = ∥∥₁_elim a (hlevel) (λ x. ∥∥₁_elim b (hlevel) (λ y. ∣ f x y ∣₁))

pub never : {A : Type 0} → ∥ A ∥₁ → (A → ⊥) → ⊥
never h f = ∥∥₁_elim h (λ x y. absurd x) f

pub sure_le : {A : Type 0} (m n : ℕ) → ∥ A ∥₁ → (A → m ≤ n) → m ≤ n
sure_le m n h f = elim (cases_lt n m) [ inl lt ↦ absurd (never h (λ a. let le : m ≤ n = f a in omega (arith, le, lt))) | inr le ↦ le ]

pub line_fits : (line : List ℕ) (end : ℕ) → IsWholeLine line end → end + 2 ≤ length line
line_fits line end is = omega (arith, is.4, ap length is.3.whole, length-append (line_text is.0 is.1) (13 ∷ 10 ∷ is.2))

-- what was found of the line behind the whole ones
pub holds_when_open : (at : ℕ) (text : List ℕ) (whole : ℕ) (old : Cursor) (progress : Progress) → Reads at text whole old →
    progress.whole ≡ whole → progress.fault ≡ None → Stands (drop whole text) progress.cursor → IsOpenLine (drop whole text) →
    Holds at text progress
holds_when_open at text whole old progress is whole_is none stands goes =
    subst (λ (g : Option FeedFault). AreWhole at text progress.whole × RestIs (at + progress.whole) (drop progress.whole text) progress.cursor g) (sym none)
    (subst (λ (k : ℕ). AreWhole at text k × RestIs (at + k) (drop k text) progress.cursor None) (sym whole_is) (is.0, (stands, goes)))

pub holds_when_bad : (at : ℕ) (text : List ℕ) (whole : ℕ) (old : Cursor) (progress : Progress) (fault : FeedFault) →
    Reads at text whole old → progress.whole ≡ whole → progress.fault ≡ Some fault →
    LineFault (told (at + whole)) (drop whole text) fault → Holds at text progress
holds_when_bad at text whole old progress fault is whole_is some bad =
    let same : told (told (at + whole)) ≡ told (at + whole) = omega arith in
    subst (λ (g : Option FeedFault). AreWhole at text progress.whole × RestIs (at + progress.whole) (drop progress.whole text) progress.cursor g) (sym some)
    (subst (λ (k : ℕ). AreWhole at text k × RestIs (at + k) (drop k text) progress.cursor (Some fault)) (sym whole_is)
    (is.0, line_told (told (at + whole)) (at + whole) (drop whole text) fault same bad))

pub none_of : {A : Type 0} (o : Option A) → ((a : A) → o ≡ Some a → ⊥) → o ≡ None
none_of None lacks = refl
none_of (Some a) lacks = absurd (lacks a refl)

pub on_ok : {A E : Type 0} (P Q : Type 0) (r : Result A E) → OnOk r P → (P → Q) → OnOk r Q
on_ok P Q (Ok a) p f = f p
on_ok P Q (Err e) p f = tt

pub if_err : {A E : Type 0} (P Q : E → Type 0) (r : Result A E) → IfErr r P → ((e : E) → P e → Q e) → IfErr r Q
if_err P Q (Ok a) p f = tt
if_err P Q (Err e) p f = f e p

-- A feed's bytes, seen as a stream.
module _ (s : Stream) (at : ℕ) (bytes : List ℕ) (progress : Progress) (view : record { at = at; bytes = bytes } ≡ s) (is : ∥ Holds at bytes progress ∥₁) where
  pub stream_fault : (fault : FeedFault) → progress.fault ≡ Some fault → ∥ FirstFault s.at s.bytes fault ∥₁
  stream_fault fault some = known is (λ h. subst (λ (t : Stream). FirstFault t.at t.bytes fault) view (holds_fault at bytes progress fault some h))

  pub stream_open : progress.fault ≡ None → NoFault s
  stream_open none = subst NoFault view (λ fault bad. never is (λ h. holds_open at bytes progress none h fault bad))

  pub stream_whole : progress.whole ≡ 0 → NoWhole s.bytes
  stream_whole none = subst (λ (t : Stream). NoWhole t.bytes) view (λ os last rest b. never is (λ h. holds_none at bytes progress none h os last rest b))

  pub stream_some : 0 < progress.whole → NoWhole s.bytes → ⊥
  stream_some some lacks = never is (λ h. holds_some at bytes progress some h (subst (λ (t : Stream). NoWhole t.bytes) (sym view) lacks))

pub not_memory : (at : ℕ) (bytes : List ℕ) (fault : FeedFault) → ∥ FirstFault at bytes fault ∥₁ → fault ≡ faults.Memory → ⊥
not_memory at bytes fault is memory = never is (λ bad. (subst (λ (f : FeedFault). FirstFault at bytes f) memory bad).3.4)

pub err_of : {T E : Type 0} (f g : E) → ◌≡◌ {A = Result T E} (Err f) (Err g) → f ≡ g
err_of f g e = cc

pub on_err : {A E : Type 0} (Q : Type 0) (r : Result A E) → Q → OnErr r Q
on_err Q (Ok a) q = tt
on_err Q (Err e) q = q

-- an answer other than want of memory
pub other_than : {T E : Type 0} (r : Result T E) (P : E → Type 0) (m : E) → IfErr r P → (P m → ⊥) → r ≡ Err m → ⊥
other_than (Ok a) P m all lacks e = cc
other_than (Err x) P m all lacks e = let same : x ≡ m = err_of x m e in lacks (subst P same all)
