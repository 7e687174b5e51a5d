use Rattle.std.proofs.Common.{◌≡◌, ◌++◌, ℕ, List, refl, sym, ap, subst, ◌∙◌}
use Rattle.std.specs.Prelude.{Err}
use Rattle.mail_base.specs.declared.frame.FeedFault.{FeedFault}
use Rattle.mail_base.specs.declared.frame.FeedFault.TheVariants as faults
use Rattle.mail_base.proofs.Faults.{sure_fault}
use Rattle.mail_base.proofs.Frames.{one_first_fault}
use Rattle.literal_feed.specs.Stream.{Stream}
use Rattle.literal_feed.specs.Streams.{Reads, Holds}
use Rattle.std.proofs.lemmas.Result.{on_ok_weaker}
use Rattle.literal_feed.proofs.Cuts.{piece_came}
use Rattle.literal_feed.proofs.Lines.{known}
use Rattle.literal_feed.proofs.Streams.{never, none_of, on_ok, if_err, stream_fault, stream_open, not_memory, holds_more, err_of, other_than}
use Rattle.literal_feed.proofs.feed.Feed.push.Goals as goal

pub returns-in-Some-clause-fault : goal.returns-in-Some-clause-fault
returns-in-Some-clause-fault c =
    λ other. stream_fault c.args.self.now c.self.inside.at c.self.inside.bytes c.self.inside.progress c.self.view_is c.self.invariant
    c.in-Some.fault c.in-Some.is

pub returns-in-Some-clause-first : goal.returns-in-Some-clause-first
returns-in-Some-clause-first c = λ other sound. absurd (never
    (stream_fault c.args.self.now c.self.inside.at c.self.inside.bytes c.self.inside.progress c.self.view_is c.self.invariant
    c.in-Some.fault c.in-Some.is) (λ bad. sound c.in-Some.fault bad))

pub returns-in-Some-clause-again : goal.returns-in-Some-clause-again
returns-in-Some-clause-again c = λ fault first. (
  ap (λ (f : FeedFault). Err f) (sure_fault c.in-Some.fault fault
      (stream_fault c.args.self.now c.self.inside.at c.self.inside.bytes c.self.inside.progress c.self.view_is c.self.invariant c.in-Some.fault c.in-Some.is)
      (λ bad. one_first_fault c.args.self.now.at c.args.self.now.bytes c.in-Some.fault fault bad first)),
  refl,
)

pub returns-in-Some-clause-kept : goal.returns-in-Some-clause-kept
returns-in-Some-clause-kept c = λ e. absurd (not_memory c.args.self.now.at c.args.self.now.bytes c.in-Some.fault
    (stream_fault c.args.self.now c.self.inside.at c.self.inside.bytes c.self.inside.progress c.self.view_is c.self.invariant
    c.in-Some.fault c.in-Some.is) (err_of c.in-Some.fault faults.Memory e))

-- nothing was added
pub invariant_of-self : goal.invariant_of-self
invariant_of-self c = subst (λ (b : List ℕ). ∥ Holds c.self.inside.at b c.self.inside.progress ∥₁) (sym c.in_default-extend.ensures.kept) c.self.invariant

pub returns-in_default-extend-clause-again : goal.returns-in_default-extend-clause-again
returns-in_default-extend-clause-again c = λ fault first.
    absurd (stream_open c.args.self.now c.self.inside.at c.self.inside.bytes c.self.inside.progress c.self.view_is c.self.invariant
    (none_of c.self.inside.progress.fault c.in_default.not-Some) fault first)

pub returns-in_default-extend-clause-kept : goal.returns-in_default-extend-clause-kept
returns-in_default-extend-clause-kept c = λ e. (
  ap (λ (b : List ℕ). record { at = c.self.inside.at; bytes = b }) c.in_default-extend.ensures.kept ∙ c.self.view_is,
  stream_open c.args.self.now c.self.inside.at c.self.inside.bytes c.self.inside.progress c.self.view_is c.self.invariant
      (none_of c.self.inside.progress.fault c.in_default.not-Some),
)

-- the bytes with the piece
pub read_lines-self-inside-requires : goal.read_lines-self-inside-requires
read_lines-self-inside-requires c =
    let none = none_of c.self.inside.progress.fault c.in_default.not-Some in
    let bytes : c.self.inside.bytes ++ c.args.piece.now ≡ c.as_slice.result.now = sym (c.as_slice.ensures ∙ c.in-Ok.ensures.done) in
    known c.self.invariant (λ h. subst (λ (b : List ℕ). Reads c.self.inside.at b c.self.inside.progress.whole c.self.inside.progress.cursor) bytes
    (holds_more c.self.inside.at c.self.inside.bytes c.args.piece.now c.self.inside.progress c.self.inside.progress.cursor.ordered none h))

pub invariant_of-self-2 : goal.invariant_of-self-2
invariant_of-self-2 c = subst (λ
    (b : List ℕ). ∥ Holds c.self.inside.at b c.read_lines-self-inside.result ∥₁) c.as_slice.ensures c.read_lines-self-inside.ensures

-- the stream with the piece
pub returns-clause-done : goal.returns-clause-done
returns-clause-done c =
    let is : ∥ Holds c.self.inside.at c.extend.new.self c.read_lines-self-inside.result ∥₁ =
    subst (λ (b : List ℕ). ∥ Holds c.self.inside.at b c.read_lines-self-inside.result ∥₁) c.as_slice.ensures c.read_lines-self-inside.ensures in
    on_ok _ _ c.verdict.result c.verdict.ensures.none (λ none. (
      ap (λ (b : List ℕ). record { at = c.self.inside.at; bytes = b }) c.in-Ok.ensures.done
          ∙ ap (λ (s : Stream). record { at = s.at; bytes = s.bytes ++ c.args.piece.now }) c.self.view_is,
      stream_open (record { at = c.self.inside.at; bytes = c.extend.new.self }) c.self.inside.at c.extend.new.self c.read_lines-self-inside.result refl is none,
    ))

pub returns-clause-fault : goal.returns-clause-fault
returns-clause-fault c =
    let is : ∥ Holds c.self.inside.at c.extend.new.self c.read_lines-self-inside.result ∥₁ =
    subst (λ (b : List ℕ). ∥ Holds c.self.inside.at b c.read_lines-self-inside.result ∥₁) c.as_slice.ensures c.read_lines-self-inside.ensures in
    if_err _ _ c.verdict.result c.verdict.ensures.some (λ fault some other. stream_fault
    (record {
      at = c.self.inside.at;
      bytes =
          c.extend.new.self;
    }) c.self.inside.at c.extend.new.self c.read_lines-self-inside.result refl is fault some)

pub returns-clause-first : goal.returns-clause-first
returns-clause-first c =
    if_err _ _ c.verdict.result c.verdict.ensures.some (λ fault some other sound.
    ap (λ (b : List ℕ). record { at = c.self.inside.at; bytes = b }) c.in-Ok.ensures.done
    ∙ ap (λ (s : Stream). record { at = s.at; bytes = s.bytes ++ c.args.piece.now }) c.self.view_is)

pub returns-clause-again : goal.returns-clause-again
returns-clause-again c = λ fault first.
    absurd (stream_open c.args.self.now c.self.inside.at c.self.inside.bytes c.self.inside.progress c.self.view_is c.self.invariant
    (none_of c.self.inside.progress.fault c.in_default.not-Some) fault first)

pub returns-clause-kept : goal.returns-clause-kept
returns-clause-kept c =
    let is : ∥ Holds c.self.inside.at c.extend.new.self c.read_lines-self-inside.result ∥₁ =
    subst (λ (b : List ℕ). ∥ Holds c.self.inside.at b c.read_lines-self-inside.result ∥₁) c.as_slice.ensures c.read_lines-self-inside.ensures in
    λ e. absurd (other_than c.verdict.result _ faults.Memory c.verdict.ensures.some
    (λ some. not_memory c.self.inside.at c.extend.new.self faults.Memory
    (stream_fault (record {
      at = c.self.inside.at;
      bytes =
          c.extend.new.self;
    }) c.self.inside.at c.extend.new.self c.read_lines-self-inside.result refl is faults.Memory some) refl) e)

-- what stood for all that came stands for all that came and the piece
pub returns-clause-stands : goal.returns-clause-stands
returns-clause-stands c = λ all taken stands. on_ok_weaker c.verdict.result
    (λ both. piece_came all c.args.piece.now taken c.args.self.now _ stands both.0) (returns-clause-done c)
