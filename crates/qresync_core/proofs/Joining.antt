-- Codes heard one by one tell the same as all of them together.
use Rattle.std.proofs.Common.{◌≡◌, ℕ, ◌≤◌, Bool, true, false, ◌||◌, List, [], ◌∷◌, ◌++◌, length, drop, Option, Some, None, refl, sym, ◌∙◌, ap}
use Rattle.std.proofs.lemmas.List.{drop_all}
use Rattle.std.specs.List.{list_any}
use Rattle.std.specs.Option.{option_or}
use Rattle.imap_model.specs.declared.code.Code.{Code}
use Rattle.imap_model.specs.declared.response.Response.{Response}
use Rattle.qresync_core.specs.Hearing.{nothing_told, heard, heard_all, numbers_told}
use Rattle.qresync_core.specs.ToldCodes.{is_no_modseq, is_not_sticky, validity_in, uidnext_in, highest_in, last_told, codes_in, numbers_of}
use Rattle.qresync_core.specs.declared.codes.Told.{Told}

pub heard_behind : (t : Told) (xs ys : List Code) → heard_all t (xs ++ ys) ≡ heard_all (heard_all t xs) ys
heard_behind t [] ys = refl
heard_behind t (x ∷ xs) ys = heard_behind (heard t x) xs ys

same_or : (a b c : Bool) → (a || (b || c)) ≡ ((b || a) || c)
same_or true true c = refl
same_or true false c = refl
same_or false true c = refl
same_or false false c = refl

same_option : (a b c : Option ℕ) → option_or a (option_or b c) ≡ option_or (option_or a b) c
same_option None b c = refl
same_option (Some n) b c = refl

-- what the codes tell, behind what was told before
abbrev told_with : Told → List Code → Told
told_with t codes = record {
  no_modseq = list_any is_no_modseq codes || t.no_modseq;
  not_sticky = list_any is_not_sticky codes || t.not_sticky;
  validity = option_or (last_told validity_in codes) t.validity;
  uidnext = option_or (last_told uidnext_in codes) t.uidnext;
  highest = option_or (last_told highest_in codes) t.highest;
}

heard_together : (t : Told) (codes : List Code) → heard_all t codes ≡ told_with t codes
heard_together t [] = refl
heard_together t (c ∷ cs) =
    let rest = heard_together (heard t c) cs in
    let modseqs = same_or (list_any is_no_modseq cs) (is_no_modseq c) t.no_modseq in
    let stays = same_or (list_any is_not_sticky cs) (is_not_sticky c) t.not_sticky in
    let validity = same_option (last_told validity_in cs) (validity_in c) t.validity in
    let uidnext = same_option (last_told uidnext_in cs) (uidnext_in c) t.uidnext in
    let highest = same_option (last_told highest_in cs) (highest_in c) t.highest in
    cc

no_further : (b : Bool) → (b || false) ≡ b
no_further true = refl
no_further false = refl

no_other : (o : Option ℕ) → option_or o None ≡ o
no_other None = refl
no_other (Some n) = refl

pub numbers_together : (codes : List Code) → numbers_told (heard_all nothing_told codes) ≡ numbers_of codes
numbers_together codes =
    let all = heard_together nothing_told codes in
    let modseqs = no_further (list_any is_no_modseq codes) in
    let stays = no_further (list_any is_not_sticky codes) in
    let validity = no_other (last_told validity_in codes) in
    let uidnext = no_other (last_told uidnext_in codes) in
    let highest = no_other (last_told highest_in codes) in
    ap numbers_told all ∙ cc

-- what was heard of all of them, and of the completion's
pub heard_out : (told : Told) (i : ℕ) (rs : List Response) (last : Code) → length rs ≤ i →
    heard_all told (codes_in (drop i rs) last) ≡ heard_all nothing_told (codes_in rs last) → numbers_told (heard told last) ≡ numbers_of (codes_in rs last)
heard_out told i rs last l e =
    ap numbers_told (ap (λ (left : List Response). heard_all told (codes_in left last)) (sym (drop_all i rs l)) ∙ e) ∙ numbers_together (codes_in rs last)
