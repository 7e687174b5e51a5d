-- A command that stands for all commands whose texts have a front: what is awaited is one return, or a message of no octets.
-- Its text has the front but for the number of octets, which is one digit.
use Rattle.std.proofs.Common.{◌≡◌, ℕ, ◌<◌, List, [], ◌∷◌, ◌++◌, length, refl, ap, ◌∙◌, append_assoc, arith}
use Rattle.mail_base.specs.declared.tag.Tag.{Tag}
use Rattle.imap_model.specs.CommandParts.{line, words, ◌⌢◌}
use Rattle.imap_model.specs.CommandText.{parts_of}
use Rattle.imap_model.specs.TagText.{tag_parts}
use Rattle.imap_model.specs.declared.command.Command.{Command}
use Rattle.imap_model.proofs.Joining.{behind_last, some_behind, some_first}
use Rattle.command_texts.specs.AwaitedParts.{Awaited, Response, User, Password, Id, Message, front_parts}
use Rattle.command_texts.proofs.Leading.{front_is_led, filled, filled_is, lead, leading, mark_of, octets_of, awaited_text, tail, next_of, behind_of}

-- what is awaited, with so many octets
abbrev pub with_octets : ℕ → Awaited → Awaited
with_octets n Response = Response
with_octets n (User octets) = User n
with_octets n (Password user octets) = Password user n
with_octets n (Id from octets) = Id from n
with_octets n (Message to flags octets) = Message to flags n

-- what stands for what is awaited
abbrev pub little : Awaited → List ℕ
little Response = []
little (Message to flags octets) = []
little awaited = 13 ∷ []

-- the command that stands for those with this front
abbrev pub stand_in : Awaited → Command
stand_in awaited = filled awaited (little awaited)

-- its last part
abbrev last_of : Awaited → List ℕ
last_of awaited = next_of (awaited_text awaited (little awaited)) (tail awaited)

last_only : (awaited : Awaited) → behind_of (tail awaited) ≡ []
unfolding ◌⌢◌
last_only Response = refl
last_only (User octets) = refl
last_only (Password user octets) = refl
last_only (Id from octets) = refl
last_only (Message to flags octets) = refl

-- the text of the stand-in: the front with the number of its own octets, and one part more
stand_in_is : (tag : Tag) (awaited : Awaited) → parts_of tag (stand_in awaited)
    ≡ front_parts tag (with_octets (length (little awaited)) awaited) ++ last_of awaited ∷ []
stand_in_is tag Response = filled_is tag Response [] tt ∙ ap (λ p. front_parts tag Response ++ last_of Response ∷ p) (last_only Response)
stand_in_is tag (User n) = filled_is tag (User 1) (13 ∷ []) (refl, refl) ∙ ap (λ p. front_parts tag (User 1) ++ last_of (User 1) ∷ p) (last_only (User 1))
stand_in_is tag (Password user n) = filled_is tag (Password user 1) (13 ∷ []) (refl, refl)
stand_in_is tag (Id from n) = filled_is tag (Id from 1) (13 ∷ []) (refl, refl)
stand_in_is tag (Message to flags n) = filled_is tag (Message to flags 0) [] refl

-- the last of some parts, and those before it
record Split (parts : List (List ℕ)) : Type 0 where
  before : List (List ℕ)
  last : List ℕ
  is : parts ≡ before ++ last ∷ []

split : (parts : List (List ℕ)) → 0 < length parts → Split parts
split [] some = absurd (omega (arith, some))
split (p ∷ []) some = record { before = []; last = p; is = refl }
split (p ∷ q ∷ parts) some = let later = split (q ∷ parts) (omega arith) in
    record { before = p ∷ later.before; last = later.last; is = ap (λ r. p ∷ r) later.is }

led_alike : (tag : Tag) (n : ℕ) (awaited : Awaited) → leading tag (with_octets n awaited) ≡ leading tag awaited
led_alike tag n Response = refl
led_alike tag n (User octets) = refl
led_alike tag n (Password user octets) = refl
led_alike tag n (Id from octets) = refl
led_alike tag n (Message to flags octets) = refl

some_led : (tag : Tag) (awaited : Awaited) → 0 < length (leading tag awaited)
some_led tag awaited = some_behind (tag_parts tag) (words " " ⌢ lead awaited) (some_first _ _ _)

-- A front of any number of octets, and the text of its stand-in, part for part: the parts before the last one of the front are the same,
-- and that one begins alike up to the mark.
pub record IsCut (tag : Tag) (awaited : Awaited) : Type 0 where
  pub before : List (List ℕ)
  pub begun : List ℕ
  pub last : List ℕ
  pub front : (n : ℕ) → front_parts tag (with_octets n awaited) ≡ before ++ (begun ++ mark_of (with_octets n awaited)) ∷ []
  pub text : parts_of tag (stand_in awaited) ≡ before ++ (begun ++ mark_of (with_octets (length (little awaited)) awaited)) ∷ last ∷ []

pub cut_of : (tag : Tag) (awaited : Awaited) → IsCut tag awaited
cut_of tag awaited =
    let led = split (leading tag awaited) (some_led tag awaited) in
    let front : (n : ℕ) → front_parts tag (with_octets n awaited) ≡ led.before ++ (led.last ++ mark_of (with_octets n awaited)) ∷ [] =
    λ n. front_is_led tag (with_octets n awaited) ∙ ap (λ p. p ⌢ line (mark_of (with_octets n awaited))) (led_alike tag n awaited ∙ led.is)
    ∙ behind_last led.before led.last (line (mark_of (with_octets n awaited))) in
    record {
      before = led.before;
      begun = led.last;
      last = last_of awaited;
      front = front;
      text = stand_in_is tag awaited ∙ ap (λ p. p ++ last_of awaited ∷ []) (front (length (little awaited)))
          ∙ append_assoc led.before ((led.last ++ mark_of (with_octets (length (little awaited)) awaited)) ∷ []) (last_of awaited ∷ []);
    }

-- the front itself is the one of its own number of octets
pub own_octets : (awaited : Awaited) → with_octets (octets_of awaited) awaited ≡ awaited
own_octets Response = refl
own_octets (User octets) = refl
own_octets (Password user octets) = refl
own_octets (Id from octets) = refl
own_octets (Message to flags octets) = refl
