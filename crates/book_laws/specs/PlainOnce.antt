-- A plain program for `OnceByAction`: it looks at each deed and at each action (this client's profile of RFC 4549,
-- section 4.2).
use Rattle.std.specs.Prelude.{ℕ, suc, ◌-◌, Bool, true, false, not, ◌&&◌, ◌==◌, nat_le, List, [], ◌∷◌, length, slice_get, Option, Some, None, if◌then◌else◌}
use Rattle.std.specs.Cmp.Lexicographic.{pointwise}
use Rattle.std.specs.List.{list_all}
use Rattle.std.specs.Str.{bytes_eq}
use Rattle.flag_set.specs.FlagSet.{has}
use Rattle.mail_base.specs.Tags.{action_of}
use Rattle.imap_model.specs.Ours.{is_number, ours}
use Rattle.imap_model.specs.declared.deed.Author.{Author}
use Rattle.imap_model.specs.declared.deed.Author.TheVariants.{Other, Ours}
use Rattle.imap_model.specs.declared.deed.Change.{Change}
use Rattle.imap_model.specs.declared.deed.Change.TheVariants as changes
use Rattle.imap_model.specs.declared.deed.Deed.{Deed}
use Rattle.action_queue.specs.Targets.{resolved, is_at}
use Rattle.action_queue.specs.Book.{Meaning}
use Rattle.action_queue.specs.declared.action.Action.{Action}
use Rattle.action_queue.specs.declared.action.Action.TheVariants as actions
use Rattle.action_queue.specs.declared.intent.Intent.{Intent}
use Rattle.action_queue.specs.declared.outcome.Outcome.{Outcome}
use Rattle.action_queue.specs.declared.outcome.Outcome.TheVariants as outcomes
use Rattle.action_queue.specs.declared.outcome.Place.{Place}
use Rattle.action_queue.specs.declared.queued.Queued.{Queued}
use Rattle.book_laws.specs.Once.{new_uid, is_unsure}
use Rattle.book_laws.specs.Table.{intent_of}

abbrev pub is_asked : Bool → List (List ℕ) → List (List ℕ) → Bool
is_asked true asked flags = list_all (λ key. has flags key) asked
is_asked false asked flags = list_all (λ key. not (has flags key)) asked

-- the change adds this message to this mailbox
abbrev pub is_added : List ℕ → List (List ℕ) → List ℕ → List ℕ → Change → Bool
is_added to flags text name (changes.Add others content uid) = bytes_eq name to && (pointwise bytes_eq others flags && bytes_eq content text)
is_added to flags text name (changes.SetFlags uid others) = false
is_added to flags text name (changes.Drop uid) = false
is_added to flags text name (changes.Shift uid other received) = false
is_added to flags text name (changes.Reset under uids uidnext highest) = false

abbrev pub is_wanted : List Queued → Action → List ℕ → ℕ → Change → Bool
is_wanted queue (actions.Flag target add asked) name validity (changes.SetFlags uid flags) =
    is_at (resolved queue target) name validity uid && is_asked add asked flags
is_wanted queue (actions.Flag target add asked) name validity (changes.Add flags text uid) = false
is_wanted queue (actions.Flag target add asked) name validity (changes.Drop uid) = false
is_wanted queue (actions.Flag target add asked) name validity (changes.Shift uid to received) = false
is_wanted queue (actions.Flag target add asked) name validity (changes.Reset under uids uidnext highest) = false
is_wanted queue (actions.Move target to) name validity (changes.Shift uid other received) =
    is_at (resolved queue target) name validity uid && bytes_eq other to
is_wanted queue (actions.Move target to) name validity (changes.Add flags text uid) = false
is_wanted queue (actions.Move target to) name validity (changes.SetFlags uid flags) = false
is_wanted queue (actions.Move target to) name validity (changes.Drop uid) = false
is_wanted queue (actions.Move target to) name validity (changes.Reset under uids uidnext highest) = false
is_wanted queue (actions.Append to flags text id) name validity change = is_added to flags text name change

-- the deed is what this action wants
abbrev pub is_of_queued : List Queued → Deed → Option Queued → Bool
is_of_queued queue deed None = false
is_of_queued queue deed (Some q) = is_wanted queue q.action deed.name deed.validity deed.change

-- it is what the action of this number wants
abbrev pub is_of_number : List Queued → Deed → Option ℕ → Bool
is_of_number queue deed None = false
is_of_number queue deed (Some number) = if number == 0 then false else is_of_queued queue deed (slice_get queue (number - 1))

abbrev pub is_owned : List Queued → Deed → Author → Bool
is_owned queue deed Other = true
is_owned queue deed (Ours tag) = is_of_number queue deed (action_of tag)

abbrev pub is_place : Option Place → Deed → Bool
is_place None deed = true
is_place (Some place) deed = (place.validity == deed.received) && is_number place.uid (new_uid deed.change)

abbrev pub is_one : Option Place → List Deed → Bool
is_one place [] = false
is_one place (d ∷ []) = is_place place d
is_one place (d ∷ e ∷ ds) = false

abbrev pub is_none : {A : Type 0} → List A → Bool
is_none [] = true
is_none (x ∷ xs) = false

abbrev pub fits_conflict : Bool → List Deed → Bool
fits_conflict true mine = nat_le (length mine) 1
fits_conflict false mine = is_none mine

abbrev pub fits : Outcome → List Deed → Bool
fits (outcomes.Done place) mine = is_one place mine
fits (outcomes.Conflict kind) mine = fits_conflict (is_unsure kind) mine

abbrev pub row_fits : Option Intent → Option Outcome → List Deed → Bool
row_fits intent (Some outcome) mine = fits outcome mine
row_fits None None mine = is_none mine
row_fits (Some intent) None mine = nat_le (length mine) 1

-- the action in this place
abbrev pub place_fits : Meaning → List Deed → ℕ → Queued → Bool
place_fits b history place q = row_fits (intent_of b place) q.outcome (ours (suc place) history)

-- the actions from this place on
abbrev pub rows_fit : Meaning → List Deed → ℕ → List Queued → Bool
rows_fit b history place [] = true
rows_fit b history place (q ∷ qs) = place_fits b history place q && rows_fit b history (suc place) qs

abbrev pub once_holds : Meaning → List Deed → Bool
once_holds b history = list_all (λ (d : Deed). is_owned b.queue d d.author) history && rows_fit b history 0 b.queue
