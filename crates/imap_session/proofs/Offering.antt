-- What was told last, and what was enabled.
use Rattle.std.proofs.Common.{◌≡◌, ◌∙◌, ap, refl, sym, Bool, true, false, ◌||◌, List, [], ◌∷◌, ◌++◌, ℕ, Option, Some, None, MatchOption}
use Rattle.imap_model.specs.declared.code.Code.{Code}
use Rattle.imap_model.specs.declared.response.Response.{Response}
use Rattle.imap_session.specs.Enabled.{is_enabled, tells_enabled}
use Rattle.imap_session.specs.Offers.{code_words, last_words, named_in, newer, told_words}
use Rattle.imap_session.specs.declared.offer.Offer.{Offer}

last_more : (before : List (List ℕ)) (rs : List Response) (r : Response)
    → last_words before (rs ++ r ∷ []) ≡ newer (told_words r) (last_words before rs)
last_more before [] r = refl
last_more before (q ∷ rs) r = last_more (newer (told_words q) before) rs r

newer_named : (told : Option (List (List ℕ))) (before : List (List ℕ)) (b found : Offer) → b ≡ named_in before
    → MatchOption told (found ≡ b) (λ words. found ≡ named_in words) → found ≡ named_in (newer told before)
newer_named None before b found was is = is ∙ was
newer_named (Some words) before b found was is = is

-- one response more
pub offer_more : (rs : List Response) (r : Response) (b found : Offer) → b ≡ named_in (last_words [] rs)
    → MatchOption (told_words r) (found ≡ b) (λ words. found ≡ named_in words) → found ≡ named_in (last_words [] (rs ++ r ∷ []))
offer_more rs r b found was is =
    newer_named (told_words r) (last_words [] rs) b found was is ∙ ap named_in (sym (last_more [] rs r))

-- and the completion
pub offered_as : (b found : Offer) (rs : List Response) (code : Code) → b ≡ named_in (last_words [] rs)
    → MatchOption (code_words code) (found ≡ b) (λ words. found ≡ named_in words)
    → found ≡ named_in (newer (code_words code) (last_words [] rs))
offered_as b found rs code was is = newer_named (code_words code) (last_words [] rs) b found was is

or_assoc : (a b c : Bool) → (a || b) || c ≡ a || (b || c)
or_assoc true b c = refl
or_assoc false b c = refl

or_false : (a : Bool) → a ≡ a || false
or_false true = refl
or_false false = refl

pub enabled_more : (name : List ℕ) (rs : List Response) (r : Response) → is_enabled name (rs ++ r ∷ []) ≡ is_enabled name rs || tells_enabled name r
enabled_more name [] r = sym (or_false (tells_enabled name r))
enabled_more name (q ∷ rs) r =
    ap (λ (x : Bool). tells_enabled name q || x) (enabled_more name rs r)
    ∙ sym (or_assoc (tells_enabled name q) (is_enabled name rs) (tells_enabled name r))
