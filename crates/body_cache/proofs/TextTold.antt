-- The reply of a lawful server to the FETCH of a message's text tells exactly the text that the message has.
use Rattle.std.proofs.Common.{◌≡◌, inl, inr, ℕ, eqb, List, [], ◌∷◌, Option, Some, None, refl, sym, ◌∙◌, ap, subst}
use Rattle.std.proofs.lemmas.Bool.{cond-true, cond_both, eq-eqb, eqb-true}
use Rattle.std.proofs.lemmas.Option.{none-some, same_Some}
use Rattle.std.specs.List.{AllByRecursion}
use Rattle.imap_model.proofs.Finding.{message_at-uid}
use Rattle.imap_model.specs.CarriedOut.{Asks, CarriesOut, Decides, Fulfils, OneText, TextSays, TextTold}
use Rattle.imap_model.specs.Carrying.{Waiting}
use Rattle.imap_model.specs.Lookups.{box_at, message_at}
use Rattle.imap_model.specs.Remarks.{IsRow, selected_box}
use Rattle.imap_model.specs.ToldRows.{TellsText}
use Rattle.imap_model.specs.declared.command.Command.{Command}
use Rattle.imap_model.specs.declared.command.Command.TheVariants as commands
use Rattle.imap_model.specs.declared.ending.Ending.{Ending}
use Rattle.imap_model.specs.declared.ending.Ending.TheVariants as endings
use Rattle.imap_model.specs.declared.fetched.Fetched.{Fetched}
use Rattle.imap_model.specs.declared.replies.Replies.{Replies}
use Rattle.imap_model.specs.declared.response.Response.{Response}
use Rattle.imap_model.specs.declared.response.Response.TheVariants as responses
use Rattle.imap_model.specs.declared.server.Mailbox.{Mailbox}
use Rattle.imap_model.specs.declared.server.Message.{Message}
use Rattle.imap_model.specs.declared.server.Server.{Server}
use Rattle.playback.proofs.Fetches.{first_or_behind, in_none}
use Rattle.body_cache.specs.TextFound.{in_fetched, in_item, in_response, text_found, then_found}
use Rattle.body_cache.specs.declared.found.TextFound.{TextFound}
use Rattle.body_cache.specs.declared.found.TextFound.TheVariants as founds

-- what is found of a message that a mailbox has, or hasn't
abbrev pub found_of : Option Message → TextFound
found_of None = founds.Gone
found_of (Some m) = founds.Text m.text

-- a text is found
abbrev IsFound : TextFound → Type 0
IsFound founds.Gone = ⊥
IsFound founds.Lacks = ⊥
IsFound (founds.Text text) = Unit {0}

found_later : (before later : TextFound) → IsFound later → IsFound (then_found before later)
found_later before founds.Gone f = absurd f
found_later before founds.Lacks f = absurd f
found_later before (founds.Text text) f = tt

found_before : (before later : TextFound) → IsFound before → IsFound (then_found before later)
found_before before founds.Gone f = f
found_before before (founds.Text text) f = tt
found_before founds.Gone founds.Lacks f = absurd f
found_before founds.Lacks founds.Lacks f = absurd f
found_before (founds.Text text) founds.Lacks f = tt

-- a message that is there
module _ (uid : ℕ) (b : Mailbox) (m : Message) (there : message_at uid b.messages ≡ Some m) where
  -- no other text is found
  abbrev IsIts : TextFound → Type 0
  IsIts founds.Gone = Unit {0}
  IsIts founds.Lacks = Unit {0}
  IsIts (founds.Text text) = text ≡ m.text

  its_then : (before later : TextFound) → IsIts before → IsIts later → IsIts (then_found before later)
  its_then before founds.Gone p q = p
  its_then before (founds.Text text) p q = q
  its_then founds.Gone founds.Lacks p q = tt
  its_then founds.Lacks founds.Lacks p q = tt
  its_then (founds.Text text) founds.Lacks p q = p

  of_uid : (item : Option (List ℕ)) → IsIts (in_item item) → (named : Option ℕ) → IsIts (in_fetched uid named item)
  of_uid item is None = tt
  of_uid item is (Some other) = cond_both (eqb other uid) (in_item item) founds.Gone IsIts (λ t. is) (λ f. tt)

  its_row : (fetched : Fetched) → IsRow b fetched → IsIts (in_fetched uid fetched.uid fetched.text)
  its_row fetched i =
      subst (λ (f : Fetched). IsIts (in_fetched uid f.uid f.text)) (sym i.3) (of_uid None tt (Some i.1.uid))

  its_text : (fetched : Fetched) (other : Message) → message_at uid b.messages ≡ Some other → TellsText other fetched →
      IsIts (in_fetched uid fetched.uid fetched.text)
  its_text fetched other at t =
      subst (λ (f : Fetched). IsIts (in_fetched uid f.uid f.text)) (sym t.text)
      (of_uid (Some other.text) (ap (λ (x : Message). x.text) (same_Some other m (sym at ∙ there))) (Some other.uid))

  its_response : (response : Response) → TextSays uid b response → IsIts (in_response uid response)
  its_response (responses.Fetch fetched) (inl row) = its_row fetched row
  its_response (responses.Fetch fetched) (inr t) = its_text fetched t.0 t.1 t.2
  its_response (responses.Done tag ending code) says = tt
  its_response (responses.Untagged ending code) says = tt
  its_response responses.Bye says = tt
  its_response (responses.Preauth code) says = tt
  its_response responses.Go says = tt
  its_response (responses.Capability words) says = tt
  its_response (responses.Enabled words) says = tt
  its_response (responses.Exists count) says = tt
  its_response (responses.Vanished earlier uids) says = tt
  its_response (responses.Found uids) says = tt
  its_response responses.Other says = tt

  its_told : (told : List Response) → AllByRecursion (TextSays uid b) told → IsIts (text_found uid told)
  its_told [] a = tt
  its_told (response ∷ told) a = its_then (in_response uid response) (text_found uid told) (its_response response a.0) (its_told told a.1)

  -- and this one is
  found_in : (fetched : Fetched) → TellsText m fetched → IsFound (in_fetched uid fetched.uid fetched.text)
  found_in fetched t =
      subst (λ (f : Fetched). IsFound (in_fetched uid f.uid f.text)) (sym t.text)
      (subst IsFound (sym (cond-true (eqb m.uid uid) (founds.Text m.text) founds.Gone (eq-eqb m.uid uid (message_at-uid uid b.messages m there)))) tt)

  found_told : (told : List Response) → TextTold told m → IsFound (text_found uid told)
  found_told [] t = absurd (in_none (responses.Fetch t.0) t.2)
  found_told (response ∷ told) t =
      elim (first_or_behind response (responses.Fetch t.0) told t.2) [
        | inl e ↦ found_before (in_response uid response) (text_found uid told)
            (subst (λ (x : Response). IsFound (in_response uid x)) (sym e) (found_in t.0 t.1))
        | inr l ↦ found_later (in_response uid response) (text_found uid told) (found_told told (t.0, t.1, l))
      ]

  so_found : (f : TextFound) → IsIts f → IsFound f → f ≡ founds.Text m.text
  so_found founds.Gone its found = absurd found
  so_found founds.Lacks its found = absurd found
  so_found (founds.Text text) its found = ap (λ (t : List ℕ). founds.Text t) its

  there_found : (told : List Response) → AllByRecursion (TextSays uid b) told → OneText uid b told → text_found uid told ≡ founds.Text m.text
  there_found told says one = so_found (text_found uid told) (its_told told says) (found_told told (one m there))

-- of a message that isn't there nothing is told
module _ (uid : ℕ) (b : Mailbox) (none : message_at uid b.messages ≡ None) where
  of_other : (item : Option (List ℕ)) (other : ℕ) → (other ≡ uid → ⊥) → in_fetched uid (Some other) item ≡ founds.Gone
  of_other item other apart =
      cond_both (eqb other uid) (in_item item) founds.Gone (λ (f : TextFound). f ≡ founds.Gone) (λ t. absurd (apart (eqb-true other uid t))) (λ f. refl)

  no_row : (fetched : Fetched) → IsRow b fetched → in_fetched uid fetched.uid fetched.text ≡ founds.Gone
  no_row fetched i =
      subst (λ (f : Fetched). in_fetched uid f.uid f.text ≡ founds.Gone) (sym i.3)
      (of_other None i.1.uid
      (λ same. none-some i.1 (sym none ∙ ap (λ (k : ℕ). message_at k b.messages) (sym same ∙ message_at-uid i.0 b.messages i.1 i.2) ∙ i.2)))

  none_in : (response : Response) → TextSays uid b response → in_response uid response ≡ founds.Gone
  none_in (responses.Fetch fetched) (inl row) = no_row fetched row
  none_in (responses.Fetch fetched) (inr t) = absurd (none-some t.0 (sym none ∙ t.1))
  none_in (responses.Done tag ending code) says = refl
  none_in (responses.Untagged ending code) says = refl
  none_in responses.Bye says = refl
  none_in (responses.Preauth code) says = refl
  none_in responses.Go says = refl
  none_in (responses.Capability words) says = refl
  none_in (responses.Enabled words) says = refl
  none_in (responses.Exists count) says = refl
  none_in (responses.Vanished earlier uids) says = refl
  none_in (responses.Found uids) says = refl
  none_in responses.Other says = refl

  none_told : (told : List Response) → AllByRecursion (TextSays uid b) told → text_found uid told ≡ founds.Gone
  none_told [] a = refl
  none_told (response ∷ told) a =
      ap (then_found (in_response uid response)) (none_told told a.1) ∙ none_in response a.0

told_if : (uid : ℕ) (b : Mailbox) (told : List Response) (o : Option Message) → message_at uid b.messages ≡ o → AllByRecursion (TextSays uid b) told →
    OneText uid b told → text_found uid told ≡ found_of o
told_if uid b told None at says one = none_told uid b at told says
told_if uid b told (Some m) at says one = there_found uid b m at told says one

-- So it is at the server that answers the FETCH, where this mailbox is selected.
pub record IsTold (name : List ℕ) (uid : ℕ) (told : List Response) (s : Server) : Type 0 where
  pub box : Mailbox
  pub there : box_at name s.boxes ≡ Some box
  pub found : text_found uid told ≡ found_of (message_at uid box.messages)

fulfilled : (c : Command) (w : Waiting) (s : Server) (r : Replies) (t : Server) (after : Option (List ℕ)) → w.command ≡ c → r.ending ≡ endings.Ok →
    CarriesOut w s r t after → Fulfils c w s r t after
fulfilled c w s r t after is ok carried =
    subst (λ (d : Command). Fulfils d w s r t after) is (subst (λ (e : Ending). Decides e w.command w s r t after) ok carried)

pub told_at : (name : List ℕ) (uid : ℕ) (w : Waiting) (s t : Server) (r : Replies) (after : Option (List ℕ)) → w.command ≡ commands.FetchText uid →
    w.selected ≡ Some name → r.ending ≡ endings.Ok → CarriesOut w s r t after → IsTold name uid r.untagged s
told_at name uid w s t r after is of ok carried =
    let does : Asks (TextSays uid) (OneText uid) w s r t after = fulfilled (commands.FetchText uid) w s r t after is ok carried in
    record {
      box = does.box;
      there = subst (λ (o : Option (List ℕ)). selected_box o s.boxes ≡ Some does.box) of does.there;
      found = told_if uid does.box r.untagged (message_at uid does.box.messages) refl does.says does.tells;
    }
