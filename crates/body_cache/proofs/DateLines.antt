-- The lines of dates, one behind the other.
use Rattle.std.proofs.Common.{◌≡◌, ◌++◌, ◌≤◌, [], inl, inr, ℕ, List, Option, Some, None, Result, Ok, Err, length, drop, append-nil, refl, sym, ◌∙◌, ap, subst}
use Rattle.std.proofs.lemmas.List.{drop_all}
use Rattle.body_cache.specs.Carrying.{Dates, IsOfShelf}
use Rattle.body_cache.specs.Carrying.Dates.{fails, tells, wants}
use Rattle.body_cache.specs.Ending.{EndsDates, Shelving, Untouched}
use Rattle.body_cache.specs.Lines.{date_lines, dates_of}
use Rattle.body_cache.specs.Keys.{cached_in}
use Rattle.body_cache.specs.Telling.{status_of_read, text_of_read}
use Rattle.body_cache.proofs.Founds.{reads_of}
use Rattle.mail_top.specs.Course.{Course}
use Rattle.mail_top.specs.Showing.{EndsShowing, Shows}
use Rattle.mail_top.specs.declared.refusal.Refusal.{Refusal}
use Rattle.body_cache.specs.declared.key.KeptText.{KeptText}
use Rattle.body_cache.specs.declared.keys.Cached.{Cached}
use Rattle.body_cache.specs.declared.refused.ReadFault.{ReadFault}

-- a line was not told
pub dates_failed : (v : Shelving) (name : List ℕ) (cached : Cached) (r : Result (List ℕ) ReadFault) (fault : ReadFault) → r ≡ Err fault → IsOfShelf fault →
    Untouched v → Dates v name cached r
dates_failed v name cached r fault is (inl wanting) untouched = wants (is ∙ ap Err wanting) untouched
dates_failed v name cached r fault is (inr failed) untouched = fails (is ∙ ap Err failed) untouched

-- all lines
pub lines_all : (name : List ℕ) (validity : ℕ) (uids : List ℕ) (texts : List KeptText) (i : ℕ) (items : List ℕ) → length uids ≤ i →
    items ++ date_lines name validity (drop i uids) texts ≡ date_lines name validity uids texts → items ≡ date_lines name validity uids texts
lines_all name validity uids texts i items last so_far =
    sym (append-nil items)
    ∙ ap (λ (l : List ℕ). items ++ date_lines name validity l texts) (sym (drop_all i uids last)) ∙ so_far

-- the same of a cache that has these messages
pub dates_as : (v : Shelving) (name : List ℕ) (cached : Cached) (validity : ℕ) (uids : List ℕ) (r : Result (List ℕ) ReadFault) →
    cached.validity ≡ Some validity → uids ≡ cached.uids → Dates v name (record { validity = Some validity; uids = uids }) r → Dates v name cached r
dates_as v name cached validity uids r is same d =
    let one : Cached = record { validity = Some validity; uids = uids } in
    let both : one ≡ cached =
    ap (λ (o : Option ℕ). record { validity = o; uids = uids }) (sym is) ∙ ap (λ (l : List ℕ). record { validity = cached.validity; uids = l }) same in
    subst (λ (c : Cached). Dates v name c r) both d

-- and of a mailbox without a cache
pub dates_none : (v : Shelving) (name : List ℕ) (cached : Cached) (text : List ℕ) → text ≡ [] → cached.validity ≡ None → Untouched v →
    Dates v name cached (Ok text)
dates_none v name cached text nothing none untouched =
    tells text refl (λ t. nothing ∙ ap (λ (o : Option ℕ). dates_of name o cached.uids v.old) (sym none)) untouched

-- so the dates of a mailbox of the book end
pub dates_end : (name : List ℕ) (k : Course) (v : Shelving) (shown : Result (Option Cached) Refusal) (found : Option Cached) (cached : Cached)
    (r : Result (List ℕ) ReadFault) → shown ≡ Ok found → found ≡ Some cached → EndsShowing (λ b c. c ≡ cached_in b name) k shown → Dates v name cached r →
    EndsDates name k v (status_of_read r) (text_of_read r)
dates_end name k v shown found cached r was some ends d =
    by_dates d
  where
    shows : Shows (λ b c. c ≡ cached_in b name) k found
    shows = subst (EndsShowing (λ b c. c ≡ cached_in b name) k) was ends

    by_dates : Dates v name cached r → EndsDates name k v (status_of_read r) (text_of_read r)
    by_dates (tells text is told untouched) =
        subst (λ (x : Result (List ℕ) ReadFault). EndsDates name k v (status_of_read x) (text_of_read x)) (sym is)
        (record { book = shows.book; reads = reads_of k shows.book shows.stays; cached = cached; has = sym shows.fits ∙ some; is = told; untouched = untouched })
    by_dates (wants is untouched) =
        subst (λ (x : Result (List ℕ) ReadFault). EndsDates name k v (status_of_read x) (text_of_read x)) (sym is)
        (record { untouched = untouched; text_is = refl })
    by_dates (fails is untouched) =
        subst (λ (x : Result (List ℕ) ReadFault). EndsDates name k v (status_of_read x) (text_of_read x)) (sym is)
        (record { untouched = untouched; text_is = refl })
