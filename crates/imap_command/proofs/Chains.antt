-- What several writes come to.
use Rattle.std.proofs.Common.{◌≡◌, ℕ, List, [], ◌∷◌, ◌++◌, Result, Ok, Err, ap, sym, ◌∙◌, append_assoc, length, decimal, String, Global}
use Rattle.std.specs.Prelude.{string_bytes}
use Rattle.std.specs.List.{flat_map}
use Rattle.std.proofs.lemmas.List.{append-nil}
use Rattle.std.specs.Result.{IfOk, OnOk}
use Rattle.base64.specs.declared.engine.general_purpose.GeneralPurpose.{GeneralPurpose}
use Rattle.base64.specs.GeneralPurpose.{encode_of}
use Rattle.mail_base.specs.Frames.{header}
use Rattle.imap_model.specs.Astring.{literal}
use Rattle.imap_model.specs.CommandParts.{line, crlf, wait, ◌⌢◌}
use Rattle.imap_model.proofs.Joining.{parts_assoc, behind_last, literal_is}

pub then_ok : {T E : Type 0} (r : Result T E) (z w v : List (List ℕ)) → w ≡ v → OnOk r (z ≡ w) → OnOk r (z ≡ v)
then_ok r z w v e h = rw e at h

-- two writes are one write of both
pub last_two : {T E : Type 0} (r : Result T E) (o a b x z : List (List ℕ)) → x ≡ o ⌢ a → OnOk r (z ≡ x ⌢ b) → OnOk r (z ≡ o ⌢ (a ⌢ b))
last_two r o a b x z h k = then_ok r z (x ⌢ b) (o ⌢ (a ⌢ b)) (ap (λ p. p ⌢ b) h ∙ parts_assoc o a b) k

pub last_three : {T E : Type 0} (r : Result T E) (o a b d x y z : List (List ℕ)) → x ≡ o ⌢ a → y ≡ x ⌢ b → OnOk r (z ≡ y ⌢ d) → OnOk r (z ≡ o ⌢ (a ⌢ (b ⌢ d)))
last_three r o a b d x y z h k l = last_two r o a (b ⌢ d) x z h (last_two r x b d y z k l)

pub last_four : {T E : Type 0} (r : Result T E) (o a b d e x y z w : List (List ℕ)) → x ≡ o ⌢ a → y ≡ x ⌢ b → z ≡ y ⌢ d →
    OnOk r (w ≡ z ⌢ e) → OnOk r (w ≡ o ⌢ (a ⌢ (b ⌢ (d ⌢ e))))
last_four r o a b d e x y z w h k l m = last_two r o a (b ⌢ (d ⌢ e)) x w h (last_three r x b d e y z w k l m)

-- the last part of what is written gets bytes
pub headed : (whole : List (List ℕ)) (last grown bytes : List ℕ) (self : List (List ℕ)) → whole ++ last ∷ [] ≡ self →
    grown ≡ last ++ bytes → whole ++ grown ∷ [] ≡ self ⌢ line bytes
headed whole last grown bytes self view h = ap (λ p. whole ++ p ∷ []) h ∙ sym (behind_last whole last (line bytes)) ∙ ap (λ p. p ⌢ line bytes) view

-- the last part ends with its line, and an empty one is the last
pub waited : {T E : Type 0} (r : Result T E) (whole : List (List ℕ)) (last grown part room : List ℕ) (self new : List (List ℕ)) →
    whole ++ last ∷ [] ≡ self → grown ≡ last ++ crlf → part ≡ grown → room ≡ []
    → OnOk r (new ≡ whole ++ part ∷ []) → OnOk r (new ++ room ∷ [] ≡ self ⌢ wait)
waited (Ok x) whole last grown part room self new view h is none k =
    ap (λ p. p ++ room ∷ []) k ∙ append_assoc whole (part ∷ []) (room ∷ []) ∙ ap (λ p. whole ++ p ∷ room ∷ []) (is ∙ h)
    ∙ ap (λ p. whole ++ (last ++ crlf) ∷ p ∷ []) none
    ∙ sym (behind_last whole last wait) ∙ ap (λ p. p ⌢ wait) view
waited (Err e) whole last grown part room self new view h is none k = tt

-- the text of other bytes, which are the same
pub encoded : {E : Type 0} (e : GeneralPurpose) (r : Result (String Global) E) (m n : List ℕ) → m ≡ n →
    IfOk r (λ t. string_bytes t ≡ encode_of e m) → IfOk r (λ t. string_bytes t ≡ encode_of e n)
encoded e r m n is h = rw is at h

-- all of a command
pub whole_text : {E : Type 0} (r : Result (List (List ℕ)) E) (a b d e o x y z w : List (List ℕ)) → o ≡ [] ∷ [] → x ≡ o ⌢ a → y ≡ x ⌢ b → z ≡ y ⌢ d → w ≡ z ⌢ e
    → ([] ∷ []) ⌢ (a ⌢ (b ⌢ (d ⌢ e))) ≡ a ⌢ (b ⌢ (d ⌢ e)) → IfOk r (λ p. p ≡ w) → IfOk r (λ p. p ≡ a ⌢ (b ⌢ (d ⌢ e)))
whole_text (Ok p) a b d e o x y z w empty h k l m begun is =
    is ∙ last_four {T = Unit {0}} {E = Unit {0}} (Ok tt) o a b d e x y z w h k l m ∙ ap (λ q. q ⌢ (a ⌢ (b ⌢ (d ⌢ e)))) empty ∙ begun
whole_text (Err f) a b d e o x y z w empty h k l m begun is = tt

-- a NUL, a text, a NUL and a text
pub message_is : (a b d e m user password : List ℕ) → a ≡ [] → b ≡ a ++ 0 ∷ [] → d ≡ b ++ user → e ≡ d ++ 0 ∷ [] → m ≡ e ++ password →
    m ≡ 0 ∷ (user ++ 0 ∷ password)
message_is a b d e m user password none first named second is =
    is ∙ ap (λ x. x ++ password) (second ∙ ap (λ x. x ++ 0 ∷ []) (named ∙ ap (λ x. x ++ user) (first ∙ ap (λ x. x ++ 0 ∷ []) none)))
    ∙ append_assoc (0 ∷ user) (0 ∷ []) password

-- a literal's parts one behind the other
pub flat_literal : (octets start opened ended written : List ℕ) → start ≡ [] → opened ≡ start ++ header (decimal (length octets)) →
    ended ≡ opened ++ crlf → written ≡ ended ++ octets
    → written ≡ flat_map (λ (part : List ℕ). part) (literal octets)
flat_literal octets start opened ended written none h k is =
    is ∙ ap (λ x. x ++ octets) (k ∙ ap (λ x. x ++ crlf) (h ∙ ap (λ x. x ++ header (decimal (length octets))) none))
    ∙ ap (λ x. (header (decimal (length octets)) ++ crlf) ++ x) (sym (append-nil octets))
    ∙ ap (λ ps. flat_map (λ (part : List ℕ). part) ps) (sym (literal_is octets))
