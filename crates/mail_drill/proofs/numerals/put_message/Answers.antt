use Rattle.std.proofs.Common.{◌≡◌, ℕ, List, [], ◌∷◌, ◌++◌, Result, Ok, Err, OnOk, is_ok, cond, ◌∙◌, ap, append_assoc}
use Rattle.std.specs.Prelude.{codes, decimal}
use Rattle.mail_drill.specs.Texts.{message_text}
use Rattle.mail_drill.proofs.numerals.put_message.Goals as goal

-- pieces that are added one by one are added as one text
regroup : (old a b c d : List ℕ) → old ++ a ++ b ++ c ++ d ≡ old ++ (a ++ b ++ c ++ d)
regroup old a b c d = simp append_assoc

-- The four pieces stand one behind the other.
put : {T E : Type 0} (r : Result T E) (old one two three new : List ℕ) (letter m n : ℕ) → one ≡ old ++ codes "Message-ID: <" →
    two ≡ one ++ letter ∷ [] → three ≡ two ++ decimal m → m ≡ n → new ≡ cond (is_ok r) (three ++ codes "@d>\r\n\r\n") three →
    OnOk r (new ≡ old ++ message_text letter n)
unfolding message_text
put (Ok x) old one two three new letter m n first second third same last =
    last ∙ ap (λ (t : List ℕ). t ++ codes "@d>\r\n\r\n") (third ∙ ap (λ (k : ℕ). two ++ decimal k) same
    ∙ ap (λ (t : List ℕ). t ++ decimal n) (second ∙ ap (λ (t : List ℕ). t ++ letter ∷ []) first))
    ∙ regroup old (codes "Message-ID: <") (letter ∷ []) (decimal n) (codes "@d>\r\n\r\n")
put (Err x) old one two three new letter m n first second third same last = tt

pub returns : goal.returns
returns c =
    put c.extend_from_slice-2.result c.args.text.now.items _ _ _ _ c.args.letter _ c.args.number c.in_ok-extend_from_slice.ensures.items
    c.in_ok-push.ensures.items c.in_ok-put_number.ensures c.from.ensures c.extend_from_slice-2.ensures.items
