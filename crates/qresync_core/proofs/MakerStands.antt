-- A maker stands for all that it took, and makes what the whole replies tell.
use Rattle.std.proofs.Common.{◌≡◌, ℕ, zero, suc, ◌+◌, ◌≤◌, Bool, true, false, cond, ◌||◌, ◌&&◌, List, [], ◌∷◌, ◌++◌, length, drop, reverse}
use Rattle.std.proofs.Common.{Option, Some, None, refl, sym, ◌∙◌, ap, subst, arith, append_assoc, length-append}
use Rattle.std.specs.Prelude.{is_none, is_some, Result, Ok, Err}
use Rattle.std.specs.List.{list_any}
use Rattle.std.specs.Option.{option_or, option_to_list, unwrap_or}
use Rattle.std.proofs.lemmas.List.{drop_all, reverse-append, append-nil}
use Rattle.std.proofs.lemmas.List.Folds.{list_any-append}
use Rattle.uid_sets.specs.declared.uid.UidRange.{UidRange}
use Rattle.mailbox_cache.specs.Rows.{row_at, has_uid}
use Rattle.mailbox_cache.specs.declared.cache.Cache.{Cache}
use Rattle.mailbox_cache.specs.declared.delta.Delta.{Delta}
use Rattle.mailbox_cache.specs.declared.row.Row.{Row}
use Rattle.imap_model.specs.declared.code.Code.{Code}
use Rattle.imap_model.specs.declared.replies.Replies.{Replies}
use Rattle.imap_model.specs.declared.response.Response.{Response}
use Rattle.qresync_core.specs.Behind.{is_closed, closed_len, behind_closed}
use Rattle.qresync_core.specs.Fitting.{Fits}
use Rattle.qresync_core.specs.Hearing.{nothing_told, heard, heard_all, numbers_told}
use Rattle.qresync_core.specs.Making.{StandsFor, StandForAll, StandForReplies, anew, row_by, Takes, HasMade, MakesDelta, made_judged, made_gone, codes_before}
use Rattle.qresync_core.specs.ReadRows.{told_row, is_bare, rows_in, last_row, first_bare}
use Rattle.qresync_core.specs.Resync.{TellsDelta, HasFault, judged, judged_by, unless, bare_fault, kept_fault, is_told_empty, read_for_rows, gone_beside}
use Rattle.qresync_core.specs.ToldCodes.{code_of, codes_in, told_codes}
use Rattle.qresync_core.specs.ToldGone.{tells_gone, is_told_gone, tells_empty}
use Rattle.qresync_core.specs.declared.codes.Codes.{Codes}
use Rattle.qresync_core.specs.declared.codes.Told.{Told}
use Rattle.qresync_core.specs.declared.fault.CodeFault.{CodeFault}
use Rattle.qresync_core.specs.declared.fault.ResyncFault.{ResyncFault}
use Rattle.qresync_core.specs.declared.fault.ResyncFault.TheVariants as faults
use Rattle.qresync_core.specs.declared.maker.DeltaMaker.{DeltaMaker}
use Rattle.qresync_core.proofs.Closing.{open_last, closed_last, closed_len_within}
use Rattle.qresync_core.proofs.Joining.{numbers_together}
use Rattle.qresync_core.proofs.Judging.{fitting}
use Rattle.qresync_core.proofs.LastRows.{row_behind}

-- ---- the parts, one response more

drop_one : (n : ℕ) (xs : List Response) (r : Response) → n ≤ length xs → drop n (xs ++ r ∷ []) ≡ drop n xs ++ r ∷ []
drop_one zero xs r le = refl
drop_one (suc n) [] r le = absurd (omega (arith, le))
drop_one (suc n) (x ∷ xs) r le = drop_one n xs r (omega (arith, le))

-- what isn't CLOSED stands behind the last one with the others
behind_more : (list : List Response) (r : Response) → is_closed r ≡ false → behind_closed (list ++ r ∷ []) ≡ behind_closed list ++ r ∷ []
behind_more list r e = ap (λ (n : ℕ). drop n (list ++ r ∷ [])) (open_last list r e) ∙ drop_one (closed_len list) list r (closed_len_within list)

-- and behind CLOSED there is nothing
behind_none : (list : List Response) (r : Response) → is_closed r ≡ true → behind_closed (list ++ r ∷ []) ≡ []
behind_none list r e =
    drop_all (closed_len (list ++ r ∷ [])) (list ++ r ∷ []) (omega (arith, closed_last list r e, length-append list (r ∷ [])))

codes_more : (xs : List Response) (r : Response) → codes_before (xs ++ r ∷ []) ≡ codes_before xs ++ option_to_list (code_of r)
codes_more [] r = append-nil (option_to_list (code_of r))
codes_more (x ∷ xs) r =
    ap (λ (l : List Code). option_to_list (code_of x) ++ l) (codes_more xs r)
    ∙ sym (append_assoc (option_to_list (code_of x)) (codes_before xs) (option_to_list (code_of r)))

heard_on : (t : Told) (a b : List Code) → heard_all t (a ++ b) ≡ heard_all (heard_all t a) b
heard_on t [] b = refl
heard_on t (c ∷ a) b = heard_on (heard t c) a b

codes_whole : (xs : List Response) (last : Code) → codes_in xs last ≡ codes_before xs ++ last ∷ []
codes_whole [] last = refl
codes_whole (x ∷ xs) last =
    ap (λ (l : List Code). option_to_list (code_of x) ++ l) (codes_whole xs last)
    ∙ sym (append_assoc (option_to_list (code_of x)) (codes_before xs) (last ∷ []))

rows_more : (xs : List Response) (r : Response) → rows_in (xs ++ r ∷ []) ≡ rows_in xs ++ option_to_list (told_row r)
rows_more [] r = append-nil (option_to_list (told_row r))
rows_more (x ∷ xs) r =
    ap (λ (l : List (ℕ × Row)). option_to_list (told_row x) ++ l) (rows_more xs r)
    ∙ sym (append_assoc (option_to_list (told_row x)) (rows_in xs) (option_to_list (told_row r)))

one_reversed : (o : Option (ℕ × Row)) → reverse (option_to_list o) ≡ option_to_list o
one_reversed None = refl
one_reversed (Some row) = refl

last_more : (uid : ℕ) (xs : List Response) (r : Response) → last_row uid (rows_in (xs ++ r ∷ [])) ≡ option_or (row_by r uid) (last_row uid (rows_in xs))
last_more uid xs r =
    ap (λ (l : List (ℕ × Row)). row_at uid (reverse l)) (rows_more xs r)
    ∙ ap (row_at uid) (reverse-append (rows_in xs) (option_to_list (told_row r)))
    ∙ row_behind uid (reverse (option_to_list (told_row r))) (reverse (rows_in xs))
    ∙ ap (λ (l : List (ℕ × Row)). option_or (row_at uid l) (last_row uid (rows_in xs))) (one_reversed (told_row r))

or_none : (b : Bool) → (b || false) ≡ b
or_none true = refl
or_none false = refl

any_more : (p : Response → Bool) (xs : List Response) (r : Response) → list_any p (xs ++ r ∷ []) ≡ (list_any p xs || p r)
any_more p xs r = list_any-append p xs (r ∷ []) ∙ ap (λ (b : Bool). list_any p xs || b) (or_none (p r))

first_of : (b : Bool) (n : ℕ) (p q rest : Option ℕ) → p ≡ option_or q rest → cond b (Some n) p ≡ option_or (cond b (Some n) q) rest
first_of true n p q rest e = refl
first_of false n p q rest e = e

bare_more : (n : ℕ) (xs : List Response) (r : Response) →
    first_bare n (xs ++ r ∷ []) ≡ option_or (first_bare n xs) (cond (is_bare r) (Some (n + length xs)) None)
bare_more n [] r = ap (λ (m : ℕ). cond (is_bare r) (Some m) None) (let e : n ≡ n + 0 = omega arith in e)
bare_more n (x ∷ xs) r =
    first_of (is_bare x) n (first_bare (n + 1) (xs ++ r ∷ [])) (first_bare (n + 1) xs) (cond (is_bare r) (Some (n + suc (length xs))) None)
    (bare_more (n + 1) xs r
    ∙ ap (λ (m : ℕ). option_or (first_bare (n + 1) xs) (cond (is_bare r) (Some m) None)) (let e : n + 1 + length xs ≡ n + suc (length xs) = omega arith in e))

length_drop : (n : ℕ) (xs : List Response) → n ≤ length xs → n + length (drop n xs) ≡ length xs
length_drop zero xs le = omega arith
length_drop (suc n) [] le = absurd (omega (arith, le))
length_drop (suc n) (x ∷ xs) le = let e = length_drop n xs (omega (arith, le)) in omega (arith, e)

-- ---- it stands for what it took

pub stands_first : StandsFor (anew 0) []
stands_first = record { count = refl; told = refl; rows = λ uid. refl; gone = λ uid. refl; empty = refl; bare = refl }

pub stands_on : (old new : DeltaMaker) (list : List Response) (r : Response) → StandsFor old list → is_closed r ≡ false → Takes r old new → StandsFor new (list ++ r ∷ [])
stands_on old new list r s e t =
    let b = behind_more list r e in
    let within = closed_len_within list in
    let place : closed_len list + length (behind_closed list) ≡ old.count = length_drop (closed_len list) list within ∙ sym s.count in
    record {
      count = omega (arith, t.count, s.count, length-append list (r ∷ []));
      told = t.told ∙ ap (λ (x : Told). heard_all x (option_to_list (code_of r))) s.told
          ∙ sym (heard_on nothing_told (codes_before (behind_closed list)) (option_to_list (code_of r)))
          ∙ ap (heard_all nothing_told) (sym (codes_more (behind_closed list) r))
          ∙ ap (λ (l : List Response). heard_all nothing_told (codes_before l)) (sym b);
      rows = λ uid. t.rows uid ∙ ap (option_or (row_by r uid)) (s.rows uid) ∙ sym (last_more uid (behind_closed list) r)
          ∙ ap (λ (l : List Response). last_row uid (rows_in l)) (sym b);
      gone = λ uid. t.gone uid ∙ ap (λ (x : Bool). x || tells_gone uid r) (s.gone uid) ∙ sym (any_more (tells_gone uid) (behind_closed list) r)
          ∙ ap (λ (l : List Response). is_told_gone l uid) (sym b);
      empty = t.empty ∙ ap (λ (x : Bool). x || tells_empty r) s.empty ∙ sym (any_more tells_empty (behind_closed list) r)
          ∙ ap (list_any tells_empty) (sym b);
      bare = t.bare ∙ ap (λ (o : Option ℕ). option_or o (cond (is_bare r) (Some old.count) None)) s.bare
          ∙ ap (λ (m : ℕ). option_or (first_bare (closed_len list) (behind_closed list)) (cond (is_bare r) (Some m) None)) (sym place)
          ∙ sym (bare_more (closed_len list) (behind_closed list) r)
          ∙ ap (first_bare (closed_len list)) (sym b)
          ∙ ap (λ (n : ℕ). first_bare n (behind_closed (list ++ r ∷ []))) (sym (open_last list r e));
    }

pub stands_anew : (old : DeltaMaker) (list : List Response) (r : Response) → StandsFor old list → is_closed r ≡ true → StandsFor (anew (old.count + 1)) (list ++ r ∷ [])
stands_anew old list r s e =
    let b = behind_none list r e in
    record {
      count = omega (arith, s.count, length-append list (r ∷ []));
      told = ap (λ (l : List Response). heard_all nothing_told (codes_before l)) (sym b);
      rows = λ uid. ap (λ (l : List Response). last_row uid (rows_in l)) (sym b);
      gone = λ uid. ap (λ (l : List Response). is_told_gone l uid) (sym b);
      empty = ap (list_any tells_empty) (sym b);
      bare = ap (first_bare (closed_len (list ++ r ∷ []))) (sym b);
    }

-- ---- what it makes

same_ok : (x y : Codes) (r : Result Codes ResyncFault) → r ≡ Ok x → r ≡ Ok y → x ≡ y
same_ok x y r p q = cc

codes_alike : (made : DeltaMaker) (selected : Replies) → StandsFor made selected.untagged → numbers_told (heard made.told selected.code) ≡ told_codes selected
codes_alike made selected s =
    ap (λ (t : Told). numbers_told (heard t selected.code)) s.told
    ∙ ap numbers_told (sym (heard_on nothing_told (codes_before (behind_closed selected.untagged)) (selected.code ∷ [])))
    ∙ ap (λ (l : List Code). numbers_told (heard_all nothing_told l)) (sym (codes_whole (behind_closed selected.untagged) selected.code))
    ∙ numbers_together (codes_in (behind_closed selected.untagged) selected.code)

-- the reply that is read for rows
read_alike : (made : DeltaMaker) (selected : Replies) (every : Option DeltaMaker) (all : Option Replies) → StandsFor made selected.untagged → StandForAll every all →
    StandsFor (unwrap_or every made) (read_for_rows selected all).untagged
read_alike made selected None None s a = s
read_alike made selected None (Some all) s a = absurd a
read_alike made selected (Some m) None s a = absurd a
read_alike made selected (Some m) (Some all) s a = a

gone_alike : (kept : Option Cache) (made : DeltaMaker) (selected : Replies) (row : Option Row) (uid : ℕ) → StandsFor made selected.untagged →
    made_gone kept made.gone row uid ≡ gone_beside kept selected row uid
gone_alike None made selected row uid s = refl
gone_alike (Some cache) made selected row uid s = ap (λ (b : Bool). b && is_none row) (s.gone uid)

-- where there are codes there was no fault
none_unless : (o : Option ResyncFault) (bare : Option ℕ) (told codes : Codes) → unless o (bare_fault bare) told ≡ Ok codes →
    (o ≡ None) × (bare ≡ None) × (told ≡ codes)
none_unless None None told codes e = (refl, refl, same_ok told codes (Ok told) refl e)
none_unless None (Some index) told codes e = absurd (cc)
none_unless (Some fault) bare told codes e = absurd (cc)

none_judged : (kept : Option Cache) (bare : Option ℕ) (r : Result Codes CodeFault) (codes : Codes) → judged_by kept bare r ≡ Ok codes →
    (r ≡ Ok codes) × (kept_fault kept codes ≡ None) × (bare ≡ None)
none_judged kept bare (Err fault) codes e = absurd (cc)
none_judged kept bare (Ok told) codes e =
    let none = none_unless (kept_fault kept told) bare told codes e in
    (ap Ok none.2, subst (λ (c : Codes). kept_fault kept c ≡ None) none.2 none.0, none.1)

module _ (kept : Option Cache) (made : DeltaMaker) (selected : Replies) (every : Option DeltaMaker) (all : Option Replies) (s : StandsFor made selected.untagged)
    (a : StandForAll every all) where
  pub judges_alike : made_judged kept made selected.code every ≡ judged kept selected all
  judges_alike =
      ap (λ (o : Option ℕ). judged_by kept o (numbers_told (heard made.told selected.code))) (read_alike made selected every all s a).bare
      ∙ ap (judged_by kept (first_bare (closed_len (read_for_rows selected all).untagged) (behind_closed (read_for_rows selected all).untagged)))
      (codes_alike made selected s)

  pub makes_told : (delta : Delta) → MakesDelta kept made selected.code every delta → TellsDelta kept selected all delta
  makes_told delta d =
      let read = read_alike made selected every all s a in
      let none = none_judged kept (unwrap_or every made).bare (numbers_told (heard made.told selected.code)) d.codes d.judged in
      let has = d.has in
      record {
        codes = d.codes;
        told = sym (codes_alike made selected s) ∙ none.0;
        fits = none.1;
        none_bare = sym read.bare ∙ none.2;
        whole = has.whole;
        validity = has.validity;
        uidnext = has.uidnext;
        highest = has.highest;
        rows = λ uid. has.rows uid ∙ read.rows uid;
        vanished = λ uid. has.vanished uid ∙ gone_alike kept made selected (row_at uid (unwrap_or every made).rows) uid s
            ∙ ap (λ (o : Option Row). gone_beside kept selected o uid) (read.rows uid);
      }

pub empty_alike : (made : DeltaMaker) (selected : Replies) → StandsFor made selected.untagged → made.empty ≡ is_told_empty selected
empty_alike made selected s = s.empty

-- ---- what a call of `finish` gives

no_row : (b : Bool) → (b && false) ≡ false
no_row true = refl
no_row false = refl

-- what has a row isn't gone
pub made_stays : (kept : Option Cache) (gone : List UidRange) (row : Option Row) (uid : ℕ) → is_some row ≡ true → made_gone kept gone row uid ≡ false
made_stays None gone row uid e = refl
made_stays (Some cache) gone None uid e = absurd (cc)
made_stays (Some cache) gone (Some row) uid e = no_row (has_uid gone uid)

fault_told : (kept : Option Cache) (selected : Replies) (all : Option Replies) (fault : ResyncFault) → judged kept selected all ≡ Err fault →
    HasFault kept selected all fault
fault_told kept selected all faults.Memory e = tt
fault_told kept selected all faults.NoModSeq e = e
fault_told kept selected all faults.NotSticky e = e
fault_told kept selected all (faults.NoCode which) e = e
fault_told kept selected all (faults.Validity old new) e = e
fault_told kept selected all (faults.Unfit mark highest) e = e
fault_told kept selected all (faults.BareRow index) e = e

-- the codes of the replies for which it stands
pub codes_of_replies : (made : DeltaMaker) (last : Code) (selected : Replies) → StandsFor made selected.untagged → selected.code ≡ last →
    numbers_told (heard made.told last) ≡ told_codes selected
codes_of_replies made last selected s e = ap (λ (c : Code). numbers_told (heard made.told c)) (sym e) ∙ codes_alike made selected s

module _ (kept : Option Cache) (made : DeltaMaker) (last : Code) (every : Option DeltaMaker) where
  judged_of : (selected : Replies) (all : Option Replies) → StandForReplies made last every selected all →
      made_judged kept made last every ≡ judged kept selected all
  judged_of selected all s = ap (λ (c : Code). made_judged kept made c every) (sym s.code) ∙ judges_alike kept made selected every all s.select s.fetch

  pub finished : (codes : Codes) (delta : Delta) → made_judged kept made last every ≡ Ok codes → HasMade kept made every codes delta →
      (selected : Replies) (all : Option Replies) → StandForReplies made last every selected all → TellsDelta kept selected all delta
  finished codes delta e has selected all s =
      makes_told kept made selected every all s.select s.fetch delta
      (record { codes = codes; judged = ap (λ (c : Code). made_judged kept made c every) s.code ∙ e; has = has })

  pub finished_fault : (fault : ResyncFault) → made_judged kept made last every ≡ Err fault →
      (selected : Replies) (all : Option Replies) → StandForReplies made last every selected all → HasFault kept selected all fault
  finished_fault fault e selected all s = fault_told kept selected all fault (sym (judged_of selected all s) ∙ e)

  pub finished_fits : (codes : Codes) (delta : Delta) → made_judged kept made last every ≡ Ok codes → HasMade kept made every codes delta → Fits kept delta
  finished_fits codes delta e has =
      fitting kept codes delta (none_judged kept (unwrap_or every made).bare (numbers_told (heard made.told last)) codes e).1
      has.whole has.validity has.highest
