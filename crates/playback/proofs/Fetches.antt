-- What the FETCH responses of a lawful reply tell of one message.
use Rattle.std.proofs.Common.{◌≡◌, ◌⊎◌, inl, inr, ℕ, zero, suc, ◌<◌, arith, Bool, cond, eqb, List, [], ◌∷◌, length, Option, Some, None}
use Rattle.std.proofs.Common.{Ok, refl, sym, ◌∙◌, ap, subst}
use Rattle.std.proofs.lemmas.Bool.{cond_both, cond-true, eqb-true, eq-eqb}
use Rattle.std.proofs.lemmas.Option.{same_Some}
use Rattle.std.specs.List.{AllByRecursion}
use Rattle.std.specs.Option.{option_map, option_or}
use Rattle.std.specs.Prelude.{Contains, slice_index_or}
use Rattle.mailbox_cache.specs.declared.row.Row.{Row}
use Rattle.imap_model.specs.Lookups.{message_at}
use Rattle.imap_model.specs.Remarks.{IsRow, MaySay, RowTold}
use Rattle.imap_model.specs.ToldRows.{row_of}
use Rattle.imap_model.specs.declared.fetched.Fetched.{Fetched}
use Rattle.imap_model.specs.declared.response.Response.{Response}
use Rattle.imap_model.specs.declared.response.Response.TheVariants as responses
use Rattle.imap_model.specs.declared.server.Message.{Message}
use Rattle.imap_model.specs.declared.server.Mailbox.{Mailbox}
use Rattle.imap_model.proofs.Finding.{message_at-uid}
use Rattle.qresync_core.specs.Fresh.{kept_row, server_row}
use Rattle.action_queue.specs.declared.action.Action.{Action}
use Rattle.playback.specs.Replying.{fetch_of, found_row, last_fetch, names_uid, read_row}
use Rattle.playback.specs.declared.finding.Finding.{Finding}
use Rattle.playback.specs.declared.finding.Finding.TheVariants as findings

first_at : {A : Type 0} (x y : A) (xs : List A) (k : ℕ) → k < length (x ∷ xs) → slice_index_or (x ∷ xs) k y ≡ y → (x ≡ y) ⊎ Contains xs y
first_at x y xs zero l e = inl e
first_at x y xs (suc k) l e = inr (k, omega arith, e)

-- an item is the first, or one behind it
pub first_or_behind : {A : Type 0} (x y : A) (xs : List A) → Contains (x ∷ xs) y → (x ≡ y) ⊎ Contains xs y
first_or_behind x y xs c = first_at x y xs c.0 c.1 c.2

pub in_none : {A : Type 0} (y : A) → Contains [] y → ⊥
in_none y c = let l : c.0 < 0 = c.1 in absurd (omega arith)

-- nothing, or the row of the message that has this UID
abbrev pub MayFetch : ℕ → Mailbox → Option Fetched → Type 0
MayFetch uid b None = Unit {0}
MayFetch uid b (Some fetched) = (m : Message) × (message_at uid b.messages ≡ Some m) × (fetched ≡ row_of m)

fetched_is : (uid : ℕ) (b : Mailbox) (fetched : Fetched) → IsRow b fetched →
    MayFetch uid b (cond (names_uid uid fetched.uid) (Some fetched) None)
fetched_is uid b fetched i =
    subst (λ (f : Fetched). MayFetch uid b (cond (names_uid uid f.uid) (Some f) None)) (sym i.3)
    (cond_both (eqb i.1.uid uid) (Some (row_of i.1)) None (λ (o : Option Fetched). MayFetch uid b o)
    (λ t. (
      i.1,
      subst (λ (k : ℕ). message_at k b.messages ≡ Some i.1)
          (sym (message_at-uid i.0 b.messages i.1 i.2) ∙ eqb-true i.1.uid uid t) i.2,
      refl,
    ))
    (λ f. tt))

response_is : (uid : ℕ) (b : Mailbox) (response : Response) → MaySay (Some b) response → MayFetch uid b (fetch_of uid response)
response_is uid b (responses.Fetch fetched) i = fetched_is uid b fetched i
response_is uid b (responses.Done tag ending code) i = tt
response_is uid b (responses.Untagged ending code) i = tt
response_is uid b responses.Bye i = tt
response_is uid b (responses.Preauth code) i = tt
response_is uid b responses.Go i = tt
response_is uid b (responses.Capability words) i = tt
response_is uid b (responses.Enabled words) i = tt
response_is uid b (responses.Exists count) i = tt
response_is uid b (responses.Vanished earlier uids) i = tt
response_is uid b (responses.Found uids) i = tt
response_is uid b responses.Other i = tt

or_is : (uid : ℕ) (b : Mailbox) (later now : Option Fetched) → MayFetch uid b later → MayFetch uid b now →
    MayFetch uid b (option_or later now)
or_is uid b None now l n = n
or_is uid b (Some fetched) now l n = l

-- whatever is told last of a UID is the row of its message
pub last_is : (uid : ℕ) (b : Mailbox) (told : List Response) → AllByRecursion (MaySay (Some b)) told → MayFetch uid b (last_fetch uid told)
last_is uid b [] a = tt
last_is uid b (r ∷ told) a = or_is uid b (last_fetch uid told) (fetch_of uid r) (last_is uid b told a.1) (response_is uid b r a.0)

none_if : (uid : ℕ) (b : Mailbox) (o : Option Fetched) → message_at uid b.messages ≡ None → MayFetch uid b o → o ≡ None
none_if uid b None n m = refl
none_if uid b (Some fetched) n m = let h : None ≡ Some m.0 = sym n ∙ m.1 in absurd (cc)

-- of a message that isn't there nothing is told
pub none_told : (uid : ℕ) (b : Mailbox) (told : List Response) → AllByRecursion (MaySay (Some b)) told → message_at uid b.messages ≡ None →
    last_fetch uid told ≡ None
none_told uid b told a n = none_if uid b (last_fetch uid told) n (last_is uid b told a)

-- something is there
abbrev IsSome : Option Fetched → Type 0
IsSome None = ⊥
IsSome (Some fetched) = Unit {0}

or_later : (later now : Option Fetched) → IsSome later → IsSome (option_or later now)
or_later None now s = absurd s
or_later (Some fetched) now s = tt

or_now : (later now : Option Fetched) → IsSome now → IsSome (option_or later now)
or_now None now s = s
or_now (Some fetched) now s = tt

fetch_told : (uid : ℕ) (m : Message) (told : List Response) → m.uid ≡ uid → RowTold told m → IsSome (last_fetch uid told)
fetch_told uid m [] u c = absurd (in_none (responses.Fetch (row_of m)) c)
fetch_told uid m (r ∷ told) u c =
    elim (first_or_behind r (responses.Fetch (row_of m)) told c) [
      | inl e ↦ or_now (last_fetch uid told) (fetch_of uid r)
          (subst (λ (x : Response). IsSome (fetch_of uid x)) (sym e)
          (subst (λ (o : Option Fetched). IsSome o) (sym (cond-true (eqb m.uid uid) (Some (row_of m)) None (eq-eqb m.uid uid u))) tt))
      | inr l ↦ or_later (last_fetch uid told) (fetch_of uid r) (fetch_told uid m told u l)
    ]

the_row : (uid : ℕ) (b : Mailbox) (m : Message) (o : Option Fetched) → message_at uid b.messages ≡ Some m → MayFetch uid b o → IsSome o →
    o ≡ Some (row_of m)
the_row uid b m None e f s = absurd s
the_row uid b m (Some fetched) e f s = ap (λ (x : Fetched). Some x) (f.2 ∙ ap row_of (same_Some f.0 m (sym f.1 ∙ e)))

told_if : (uid : ℕ) (b : Mailbox) (told : List Response) (o : Option Message) → message_at uid b.messages ≡ o →
    AllByRecursion (MaySay (Some b)) told →
    ((m : Message) → message_at uid b.messages ≡ Some m → RowTold told m) → last_fetch uid told ≡ option_map row_of o
told_if uid b told None e a r = none_told uid b told a e
told_if uid b told (Some m) e a r =
    the_row uid b m (last_fetch uid told) e (last_is uid b told a) (fetch_told uid m told (message_at-uid uid b.messages m e) (r m e))

-- where the row of a message that is there is told, it is what is told last of its UID
pub last_told : (uid : ℕ) (b : Mailbox) (told : List Response) → AllByRecursion (MaySay (Some b)) told →
    ((m : Message) → message_at uid b.messages ≡ Some m → RowTold told m) →
    last_fetch uid told ≡ option_map row_of (message_at uid b.messages)
last_told uid b told a r = told_if uid b told (message_at uid b.messages) refl a r

-- what is kept of a row that a server has, or of one that it hasn't
abbrev pub row_finding : Bool → Action → Option Row → Finding
row_finding barred action None = findings.NoRow
row_finding barred action (Some row) = found_row barred action row.modseq row.flags

read_is : (barred : Bool) (action : Action) (o : Option Message) →
    read_row barred action (option_map row_of o) ≡ Ok (row_finding barred action (option_map kept_row o))
read_is barred action None = refl
read_is barred action (Some m) = refl

-- so the reply to the question for a row tells the row that the server has
pub row_read : (barred : Bool) (action : Action) (uid : ℕ) (b : Mailbox) (told : List Response) → AllByRecursion (MaySay (Some b)) told →
    ((m : Message) → message_at uid b.messages ≡ Some m → RowTold told m) →
    read_row barred action (last_fetch uid told) ≡ Ok (row_finding barred action (server_row uid b))
row_read barred action uid b told a r = ap (read_row barred action) (last_told uid b told a r)
    ∙ read_is barred action (message_at uid b.messages)
