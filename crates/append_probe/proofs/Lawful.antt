-- What a lawful server's answers tell of the mailbox.
use Rattle.std.proofs.Common.{◌≡◌, ◌↔◌, ℕ, ◌<◌, ◌≤◌, List, [], ◌∷◌, Option, Some, sym, ◌∙◌, subst, arith}
use Rattle.std.specs.Prelude.{Contains, nat_le}
use Rattle.std.specs.List.{AllByRecursion}
use Rattle.std.proofs.lemmas.Bool.{le-leb, or_left}
use Rattle.std.proofs.lemmas.Option.{same_Some}
use Rattle.uid_sets.specs.UidSet.{Member}
use Rattle.uid_sets.specs.declared.uid.UidRange.{UidRange}
use Rattle.imap_model.specs.CarriedOut.{Asks, Decides, EachFound, EachIds, Fulfils, IdsSay, SearchSays}
use Rattle.imap_model.specs.Carrying.{Waiting}
use Rattle.imap_model.specs.Remarks.{selected_box}
use Rattle.imap_model.specs.Searching.{is_last}
use Rattle.imap_model.specs.WellFormed.{IsWellFormedBox}
use Rattle.imap_model.specs.declared.command.Command.{Command}
use Rattle.imap_model.specs.declared.command.Command.TheVariants as commands
use Rattle.imap_model.specs.declared.ending.Ending.{Ending}
use Rattle.imap_model.specs.declared.replies.Replies.{Replies}
use Rattle.imap_model.specs.declared.server.Mailbox.{Mailbox}
use Rattle.imap_model.specs.declared.server.Server.{Server}
use Rattle.append_probe.specs.Candidates.{AreCandidates}
use Rattle.append_probe.specs.Laws.{Counts, Covers, IsAnswered}
use Rattle.append_probe.specs.Marked.{at_least, marked}
use Rattle.append_probe.specs.Question.{question_of, question_part}
use Rattle.append_probe.specs.Verdict.{IsVerdict, Matches}
use Rattle.append_probe.specs.declared.verdict.Verdict.{Verdict}
use Rattle.append_probe.specs.declared.verdict.Verdict.TheVariants as verdicts
use Rattle.append_probe.proofs.Marking.{IsMarked, marked_at, in_least, least_in, those_ascend, has_none, has_one}
use Rattle.append_probe.proofs.Parting.{part_found}
use Rattle.append_probe.proofs.Telling.{matches_are}

module _ (name : List ℕ) (box : Mailbox) (w : Waiting) (s t : Server) (r : Replies) (after : Option (List ℕ)) where
  fulfilled : (c : Command) → IsAnswered c name box w s r t after → Fulfils c w s r t after
  fulfilled c a =
      subst (λ (d : Command). Fulfils d w s r t after) a.is
      (subst (λ (e : Ending). Decides e w.command w s r t after) a.ok a.carried)

  -- the mailbox that is asked about is the selected one
  asked_box : (c : Command) (other : Mailbox) → IsAnswered c name box w s r t after → selected_box w.selected s.boxes ≡ Some other →
      other ≡ box
  asked_box c other a e =
      same_Some other box (sym (subst (λ (o : Option (List ℕ)). selected_box o s.boxes ≡ Some other) a.selected e) ∙ a.there)

  pub search_tells : (low : ℕ) (id : List ℕ) → IsAnswered (question_of low id) name box w s r t after →
      EachFound low (question_part id) box r.untagged
  search_tells low id a =
      let does : Asks (SearchSays low (question_part id)) (EachFound low (question_part id)) w s r t after =
      fulfilled (question_of low id) a in
      subst (λ (b : Mailbox). EachFound low (question_part id) b r.untagged)
      (asked_box (question_of low id) does.box a does.there) does.tells

  pub search_is_complete : (low : ℕ) (id : List ℕ) (set : List UidRange) → IsWellFormedBox box →
      IsAnswered (question_of low id) name box w s r t after →
      AreCandidates low r.untagged set → Covers low id box set
  search_is_complete low id set well a are = λ uid c l.
      let m : IsMarked id uid box.messages = marked_at 0 id box.messages uid well.rise c in
      (are uid).1 (
        search_tells low id a uid m.message m.there (or_left (nat_le low uid) (is_last uid box.messages) (le-leb low uid l))
            (part_found id m.message.text m.has),
        l,
      )

  pub fetch_says : (set : List UidRange) → IsAnswered (commands.FetchIds set) name box w s r t after →
      AllByRecursion (IdsSay set box) r.untagged × EachIds set box r.untagged
  fetch_says set a =
      let does : Asks (IdsSay set) (EachIds set) w s r t after = fulfilled (commands.FetchIds set) a in
      let same : does.box ≡ box = asked_box (commands.FetchIds set) does.box a does.there in (
        subst (λ (b : Mailbox). AllByRecursion (IdsSay set b) r.untagged) same does.says,
        subst (λ (b : Mailbox). EachIds set b r.untagged) same does.tells,
      )

-- a verdict on what these UIDs are counts them
pub counts_by : (So : ℕ → Type 0) (us : List ℕ) (low : ℕ) (id : List ℕ) (verdict : Verdict) → ((uid : ℕ) → So uid ↔ Contains us uid) →
    ((u : ℕ) → Contains us u → ((uid : ℕ) → Contains us uid → uid ≡ u) → us ≡ u ∷ []) → IsVerdict So verdict → Counts verdict us
counts_by So us low id verdicts.NotThere so one v = has_none us (λ uid c. v uid ((so uid).1 c))
counts_by So us low id (verdicts.There uid) so one v = one uid ((so uid).0 v.so) (λ other c. v.only other ((so other).1 c))
counts_by So us low id (verdicts.Several first second) so one v = record {
  apart = λ e. let rise : first < second = v.rise in absurd (omega arith);
  first = (so first).0 v.first;
  second = (so second).0 v.second;
}

pub counts_right : (low : ℕ) (id name : List ℕ) (box : Mailbox) (w : Waiting) (s t : Server) (r : Replies) (after : Option (List ℕ))
    (set : List UidRange)
    (verdict : Verdict) → IsWellFormedBox box → IsAnswered (commands.FetchIds set) name box w s r t after → Covers low id box set →
    ((uid : ℕ) → Member set uid → low ≤ uid) → IsVerdict (Matches set r.untagged id) verdict →
    Counts verdict (at_least low (marked id box.messages))
counts_right low id name box w s t r after set verdict well a covers from v =
    let f : AllByRecursion (IdsSay set box) r.untagged × EachIds set box r.untagged = fetch_says name box w s t r after set a in
    let us : List ℕ = at_least low (marked id box.messages) in
    counts_by (Matches set r.untagged id) us low id verdict
    (λ uid. (
      λ m. let p : Member set uid × Contains (marked id box.messages) uid = (matches_are set box r.untagged id well f.0 f.1 uid).0 m in
          in_least low (marked id box.messages) uid p.1 (from uid p.0),
      λ c. let p : Contains (marked id box.messages) uid × (low ≤ uid) = least_in low (marked id box.messages) uid c in
          (matches_are set box r.untagged id well f.0 f.1 uid).1 (covers uid p.0 p.1, p.0),
    ))
    (λ u. has_one 0 us u (those_ascend low id box.messages well.rise)) v
