-- The front of a command's text is one of those that the client waits behind.
use Rattle.std.proofs.Common.{◌≡◌, ℕ, ◌<◌, ◌⊎◌, inl, inr, Option, Some, None, Bool, true, false, cond, List, [], ◌∷◌, ◌++◌, length}
use Rattle.std.proofs.Common.{decimal, codes, refl, ap, sym, ◌∙◌, arith}
use Rattle.std.specs.List.{list_all}
use Rattle.std.proofs.lemmas.Bool.Decides.{nat_tests}
use Rattle.std.proofs.lemmas.List.Sums.{list_all-from_AllPass}
use Rattle.mail_base.specs.Account.{Credentials}
use Rattle.mail_base.specs.BoxName.{IsNameByte, IsBoxName}
use Rattle.mail_base.specs.Frames.{header}
use Rattle.mail_base.specs.declared.tag.Tag.{Tag}
use Rattle.mail_base.specs.declared.tag.Tag.TheVariants.{Play, Count, Strange}
use Rattle.imap_model.specs.Astring.{is_bare, is_quotable, quoted, literal, astring_parts}
use Rattle.imap_model.specs.CommandParts.{line, words, crlf, wait, ◌⌢◌}
use Rattle.imap_model.specs.CommandText.{response_of, sign, command_parts, parts_of}
use Rattle.imap_model.specs.Held.{IsSent, IsHeldAccount}
use Rattle.imap_model.specs.TagText.{tag_parts, IsCommandTag}
use Rattle.imap_model.specs.declared.mark.Mark.{Mark}
use Rattle.imap_model.specs.declared.command.Command.{Command}
use Rattle.imap_model.specs.declared.command.Command.TheVariants as commands
use Rattle.imap_model.proofs.Joining.{parts_assoc, literal_is}
use Rattle.imap_model.proofs.OneLine.{IsLine, plain, behind, name_line, tag_line, select_line}
use Rattle.command_texts.specs.AwaitedParts.{Awaited, Response, User, Password, Id, Message, IsHeldFront, IsFrontOf, front_parts, append_at}
use Rattle.command_texts.specs.HeardParts.{IsFront, append_of}
use Rattle.command_texts.proofs.Leading.{cut_behind, behind_three, front_is_led, filled_is, lead, leading, mark_of, end}

-- two lines are one
join_lines : (a b : List ℕ) → line a ⌢ line b ≡ line (a ++ b)
unfolding ◌⌢◌
join_lines a b = refl

-- behind no part another is awaited
none_front : (x : List ℕ) (parts : List (List ℕ)) (next : List ℕ) (later : List (List ℕ)) → x ∷ [] ≡ parts ++ next ∷ later → 0 < length parts → ⊥
none_front x [] next later is some = absurd (omega (arith, some))
none_front x (p ∷ []) next later is some = absurd cc
none_front x (p ∷ q ∷ parts) next later is some = absurd cc

-- the one front of two parts
one_front : (x y : List ℕ) (parts : List (List ℕ)) (next : List ℕ) (later : List (List ℕ)) → x ∷ y ∷ [] ≡ parts ++ next ∷ later →
    0 < length parts → x ∷ [] ≡ parts
one_front x y [] next later is some = absurd (omega (arith, some))
one_front x y (p ∷ []) next later is some = let first : x ≡ p = cc in cc
one_front x y (p ∷ q ∷ []) next later is some = absurd cc
one_front x y (p ∷ q ∷ r ∷ parts) next later is some = absurd cc

-- the two fronts of three parts
two_fronts : (x y z : List ℕ) (parts : List (List ℕ)) (next : List ℕ) (later : List (List ℕ)) → x ∷ y ∷ z ∷ [] ≡ parts ++ next ∷ later → 0 < length parts
    → (x ∷ [] ≡ parts) ⊎ (x ∷ y ∷ [] ≡ parts)
two_fronts x y z [] next later is some = absurd (omega (arith, some))
two_fronts x y z (p ∷ []) next later is some = let first : x ≡ p = cc in inl cc
two_fronts x y z (p ∷ q ∷ []) next later is some = let first : x ≡ p = cc in let second : y ≡ q = cc in inr cc
two_fronts x y z (p ∷ q ∷ r ∷ []) next later is some = absurd cc
two_fronts x y z (p ∷ q ∷ r ∷ s ∷ parts) next later is some = absurd cc

-- an argument is one part, or it is a literal of some octets
data Shape (bytes : List ℕ) : Type 0 where
  whole : IsLine (astring_parts bytes) → Shape bytes
  counted : 0 < length bytes → astring_parts bytes ≡ literal bytes → Shape bytes

shape_from : (bytes : List ℕ) (b q : Bool) → 0 < length bytes →
    astring_parts bytes ≡ cond b (line bytes) (cond q (line (quoted bytes)) (literal bytes)) → Shape bytes
shape_from bytes true q some is = whole (record { text = bytes; is = is })
shape_from bytes false true some is = whole (record { text = quoted bytes; is = is })
shape_from bytes false false some is = counted some is

shape_of : (bytes : List ℕ) → Shape bytes
shape_of [] = whole (record { text = quoted []; is = refl })
shape_of (b ∷ bytes) = shape_from (b ∷ bytes) (is_bare (b ∷ bytes)) (list_all is_quotable (b ∷ bytes)) (omega arith) refl

-- the parts are such a front, and an APPEND's names its mailbox
abbrev Found : Tag → Command → List (List ℕ) → Type 0
Found tag command parts = (awaited : Awaited) × IsFrontOf tag awaited parts × (append_at awaited ≡ append_of command)

found_as : (tag : Tag) (command : Command) (parts : List (List ℕ)) (awaited : Awaited) → IsSent tag command → IsHeldFront awaited →
    append_at awaited ≡ append_of command
    → front_parts tag awaited ≡ parts → Found tag command parts
found_as tag command parts awaited sent held append is = (
  awaited,
  record { tagged = sent.writable.tagged; tag_fits = sent.tag_fits; held = held; text = is },
  append,
)

-- a command of one part has no front
none_found : (tag : Tag) (command : Command) (parts : List (List ℕ)) → IsFront tag command parts → 0 < length parts → IsLine (command_parts command ⌢ end) → ⊥
none_found tag command parts front some one =
    let all = behind _ _ (tag_line tag front.sent.writable.tagged) (behind _ _ (plain (codes " ")) one) in
    none_front all.text parts front.next front.behind (sym all.is ∙ front.text) some

-- what stands before the awaited literal is one part, and the literal is in the last two
one_found : (tag : Tag) (command : Command) (parts : List (List ℕ)) (awaited : Awaited) (next : List ℕ) → IsFront tag command parts →
    0 < length parts → IsHeldFront awaited
    → append_at awaited ≡ append_of command → IsLine (lead awaited) → parts_of tag command ≡ front_parts tag awaited ++ next ∷ [] → Found tag command parts
one_found tag command parts awaited next front some held append one is =
    let led = behind _ _ (behind _ _ (tag_line tag front.sent.writable.tagged) (behind _ _ (plain (codes " ")) one)) (plain (mark_of awaited)) in
    let whole = front_is_led tag awaited ∙ led.is in
    found_as tag command parts awaited front.sent held append
    (whole ∙ one_front led.text next parts front.next front.behind (sym (is ∙ ap (λ p. p ++ next ∷ []) whole) ∙ front.text) some)

plain_is : (tag : Tag) (account : Credentials) → parts_of tag (commands.Plain account) ≡ front_parts tag Response ++ (response_of account ++ crlf) ∷ []
plain_is tag account =
    ap (λ p. tag_parts tag ⌢ (words " " ⌢ p)) (parts_assoc (words "AUTHENTICATE PLAIN") (wait ⌢ line (response_of account)) end
    ∙ ap (λ p. words "AUTHENTICATE PLAIN" ⌢ p) (parts_assoc wait (line (response_of account)) end))
    ∙ behind_three (tag_parts tag) (words " ") (words "AUTHENTICATE PLAIN") (wait ⌢ (line (response_of account) ⌢ end))
    ∙ ap (λ p. leading tag Response ⌢ (wait ⌢ p)) (join_lines (response_of account) crlf)
    ∙ cut_behind (leading tag Response) crlf [] (line (response_of account ++ crlf))
    ∙ ap (λ p. p ++ (response_of account ++ crlf) ∷ []) (sym (front_is_led tag Response))

-- a LOGIN whose user is a literal, up to that one
user_is : (tag : Tag) (user password : List ℕ) → astring_parts user ≡ literal user
    → parts_of tag (commands.Login (record { user = user; password = password }))
    ≡ leading tag (User (length user)) ⌢ (((header (decimal (length user)) ++ crlf) ∷ user ∷ []) ⌢
    (words " " ⌢ (astring_parts password ⌢ end)))
user_is tag user password is =
    ap (λ p. tag_parts tag ⌢ (words " " ⌢ p)) (parts_assoc (words "LOGIN ") (astring_parts user ⌢ (words " " ⌢ astring_parts password)) end
    ∙ ap (λ p. words "LOGIN " ⌢ p) (parts_assoc (astring_parts user) (words " " ⌢ astring_parts password) end
    ∙ ap (λ p. astring_parts user ⌢ p) (parts_assoc (words " ") (astring_parts password) end)
    ∙ ap (λ p. p ⌢ (words " " ⌢ (astring_parts password ⌢ end))) (is ∙ literal_is user)))
    ∙ behind_three (tag_parts tag) (words " ") (words "LOGIN ") _

module _ (tag : Tag) (user password : List ℕ) where
  abbrev login : Command
  login = commands.Login (record { user = user; password = password })

  abbrev mark : List ℕ
  mark = header (decimal (length user)) ++ crlf

  led_user : IsCommandTag tag → IsLine (leading tag (User (length user)))
  led_user is = behind _ _ (tag_line tag is) (behind _ _ (plain (codes " ")) (plain (codes "LOGIN ")))

  -- the user is a literal, and the password isn't one
  user_found : (parts : List (List ℕ)) → IsFront tag login parts → 0 < length parts → 0 < length user → astring_parts user ≡ literal user →
      IsLine (astring_parts password) → Found tag login parts
  user_found parts front some many is one =
      let later = behind _ _ (plain (codes " ")) (behind _ _ one (plain crlf)) in
      one_found tag login parts (User (length user)) (user ++ later.text) front some
      (record { some = many; fits = front.sent.held.kept.user.short }) refl (plain (codes "LOGIN "))
      (user_is tag user password is
      ∙ ap (λ p. leading tag (User (length user)) ⌢ ((mark ∷ user ∷ []) ⌢ p)) later.is
      ∙ cut_behind (leading tag (User (length user))) mark user (line later.text)
      ∙ ap (λ p. p ++ (user ++ later.text) ∷ []) (sym (front_is_led tag (User (length user)))))

  -- the password is a literal, and the user isn't one
  password_found : (parts : List (List ℕ)) → IsFront tag login parts → 0 < length parts → 0 < length password →
      astring_parts password ≡ literal password → IsLine (astring_parts user) → Found tag login parts
  password_found parts front some many is one =
      one_found tag login parts (Password user (length password)) (password ++ crlf) front some (
        record { text = front.sent.held.kept.user; utf8 = front.sent.held.user; plain = front.sent.held.kept.plain.user_has_none },
        record { some = many; fits = front.sent.held.kept.password.short },
      )
      refl (behind _ _ (plain (codes "LOGIN ")) (behind _ _ one (plain (codes " "))))
      (filled_is tag (Password user (length password)) password (refl, is))

  cut_two : (g m u s w : List ℕ) → (line g ⌢ ((m ∷ u ∷ []) ⌢ line s)) ⌢ line w ≡ (g ++ m) ∷ ((u ++ s) ++ w) ∷ []
  unfolding ◌⌢◌
  cut_two g m u s w = refl

  line_two : (g m : List ℕ) → line g ⌢ line m ≡ line (g ++ m)
  line_two g m = join_lines g m

  -- both are literals
  both_found : (parts : List (List ℕ)) → IsFront tag login parts → 0 < length parts → 0 < length user → astring_parts user ≡ literal user →
      0 < length password → astring_parts password ≡ literal password → Found tag login parts
  both_found parts front some many is many' is' =
      let first = User (length user) in
      let second = Password user (length password) in
      let led = led_user front.sent.writable.tagged in
      let last = header (decimal (length password)) ++ crlf in
      let x = led.text ++ mark in
      let y = (user ++ codes " ") ++ last in
      let one : front_parts tag first ≡ x ∷ [] = front_is_led tag first ∙ ap (λ p. p ⌢ line mark) led.is ∙ join_lines led.text mark in
      let two : front_parts tag second ≡ x ∷ y ∷ [] =
      front_is_led tag second
      ∙ ap (λ p. (tag_parts tag ⌢ (words " " ⌢ (words "LOGIN " ⌢ (p ⌢ words " ")))) ⌢ line last) (is ∙ literal_is user)
      ∙ ap (λ p. p ⌢ line last) (behind_three (tag_parts tag) (words " ") (words "LOGIN ") ((mark ∷ user ∷ []) ⌢ words " ")
      ∙ ap (λ p. p ⌢ ((mark ∷ user ∷ []) ⌢ words " ")) led.is)
      ∙ cut_two led.text mark user (codes " ") last in
      let whole : x ∷ y ∷ (password ++ crlf) ∷ [] ≡ parts ++ front.next ∷ front.behind =
      sym (filled_is tag second password (refl, is') ∙ ap (λ p. p ++ (password ++ crlf) ∷ []) two) ∙ front.text in
      let held : IsHeldAccount (record { user = user; password = password }) = front.sent.held in
      elim (two_fronts x y (password ++ crlf) parts front.next front.behind whole some) [
        | inl here ↦ found_as tag login parts first front.sent (record { some = many; fits = held.kept.user.short }) refl (one ∙ here)
        | inr here ↦ found_as tag login parts second front.sent (
          record {
            text = held.kept.user;
            utf8 = held.user;
            plain =
                held.kept.plain.user_has_none;
          },
          record { some = many'; fits = held.kept.password.short },
        ) refl (two ∙ here)
      ]

  login_line : IsLine (astring_parts user) → IsLine (astring_parts password) → IsLine (command_parts login ⌢ end)
  login_line u p = behind _ _ (behind _ _ (plain (codes "LOGIN ")) (behind _ _ u (behind _ _ (plain (codes " ")) p))) (plain crlf)

  login_from : (parts : List (List ℕ)) → IsFront tag login parts → 0 < length parts → Shape user → Shape password → Found tag login parts
  login_from parts front some (whole u) (whole p) = absurd (none_found tag login parts front some (login_line u p))
  login_from parts front some (whole u) (counted n is) = password_found parts front some n is u
  login_from parts front some (counted n is) (whole p) = user_found parts front some n is p
  login_from parts front some (counted n is) (counted n' is') = both_found parts front some n is n' is'

search_found : (tag : Tag) (from : ℕ) (id : List ℕ) (parts : List (List ℕ)) → IsFront tag (commands.Search from id) parts →
    0 < length parts → Shape id → Found tag (commands.Search from id) parts
search_found tag from id parts front some (whole one) =
    absurd (none_found tag (commands.Search from id) parts front some
    (behind _ _ (behind _ _ (plain _) (behind _ _ (plain _) (behind _ _ (plain _) one))) (plain crlf)))
search_found tag from id parts front some (counted many is) =
    one_found tag (commands.Search from id) parts (Id from (length id)) (id ++ crlf) front some
    (front.sent.held.0, record { some = many; fits = front.sent.held.1.short }) refl
    (behind _ _ (plain _) (behind _ _ (plain _) (plain _))) (filled_is tag (Id from (length id)) id (refl, is))

append_found : (tag : Tag) (to : List ℕ) (flags : List (List ℕ)) (octets : List ℕ) (parts : List (List ℕ)) →
    IsFront tag (commands.Append to flags octets) parts → 0 < length parts
    → Found tag (commands.Append to flags octets) parts
append_found tag to flags octets parts front some =
    one_found tag (commands.Append to flags octets) parts (Message to flags (length octets)) (octets ++ crlf) front some
    (front.sent.held.0, front.sent.held.1, front.sent.held.2.short) refl
    (behind _ _ (plain _) (behind _ _ (name_line to front.sent.held.0) (behind _ _ (plain _) (behind _ _ (plain _) (plain _)))))
    (filled_is tag (Message to flags (length octets)) octets refl)

sign_line : (added : Bool) → IsLine (sign added)
sign_line true = plain _
sign_line false = plain _

enable_line : (rev2 : Bool) → IsLine (command_parts (commands.Enable rev2))
enable_line true = plain _
enable_line false = plain _

-- each front of a command's text that has come in one part or more is one that is awaited behind
pub front_found : (tag : Tag) (command : Command) (parts : List (List ℕ)) → IsFront tag command parts → 0 < length parts
    → (awaited : Awaited) × IsFrontOf tag awaited parts × (append_at awaited ≡ append_of command)
front_found tag commands.Capability parts front some = absurd (none_found tag commands.Capability parts front some (behind _ _ (plain _) (plain crlf)))
front_found tag (commands.Login account) parts front some = login_from tag account.user account.password parts front some
    (shape_of account.user) (shape_of account.password)
front_found tag (commands.Plain account) parts front some = one_found tag (commands.Plain account) parts Response
    (response_of account ++ crlf) front some tt refl (plain _) (plain_is tag account)
front_found tag (commands.Enable rev2) parts front some = absurd
    (none_found tag (commands.Enable rev2) parts front some (behind _ _ (enable_line rev2) (plain crlf)))
front_found tag (commands.Select name since) parts front some =
    absurd (none_found tag (commands.Select name since) parts front some (select_line name since (name_line name front.sent.held.0)))
front_found tag commands.FetchAll parts front some = absurd (none_found tag commands.FetchAll parts front some (behind _ _ (plain _) (plain crlf)))
front_found tag (commands.FetchRow uid) parts front some =
    absurd (none_found tag (commands.FetchRow uid) parts front some (behind _ _ (behind _ _ (plain _) (behind _ _ (plain _) (plain _))) (plain crlf)))
front_found tag (commands.Search from id) parts front some = search_found tag from id parts front some (shape_of id)
front_found tag (commands.FetchIds uids) parts front some =
    absurd (none_found tag (commands.FetchIds uids) parts front some (behind _ _ (behind _ _ (plain _) (behind _ _ (plain _) (plain _))) (plain crlf)))
front_found tag (commands.FetchText uid) parts front some =
    absurd (none_found tag (commands.FetchText uid) parts front some (behind _ _ (behind _ _ (plain _) (behind _ _ (plain _) (plain _))) (plain crlf)))
front_found tag (commands.Store uid since add flags) parts front some =
    absurd (none_found tag (commands.Store uid since add flags) parts front some
    (behind _ _ (behind _ _ (plain _) (behind _ _ (plain _) (behind _ _ (plain _)
    (behind _ _ (plain _) (behind _ _ (plain _) (behind _ _ (sign_line add)
    (behind _ _ (plain _) (behind _ _ (plain _) (plain _))))))))) (plain crlf)))
front_found tag (commands.Shift uid to) parts front some =
    absurd (none_found tag (commands.Shift uid to) parts front some
    (behind _ _ (behind _ _ (plain _) (behind _ _ (plain _) (behind _ _ (plain _) (name_line to front.sent.held.1)))) (plain crlf)))
front_found tag (commands.Copy uid to) parts front some =
    absurd (none_found tag (commands.Copy uid to) parts front some
    (behind _ _ (behind _ _ (plain _) (behind _ _ (plain _) (behind _ _ (plain _) (name_line to front.sent.held.1)))) (plain crlf)))
front_found tag (commands.Expunge uid) parts front some =
    absurd (none_found tag (commands.Expunge uid) parts front some (behind _ _ (behind _ _ (plain _) (plain _)) (plain crlf)))
front_found tag (commands.Append to flags octets) parts front some = append_found tag to flags octets parts front some
front_found tag commands.Logout parts front some = absurd (none_found tag commands.Logout parts front some (behind _ _ (plain _) (plain crlf)))
