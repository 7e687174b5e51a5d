-- What a lawful server's answer to the fetch of Message-ID fields tells of each UID.
use Rattle.std.proofs.Common.{◌≡◌, ◌↔◌, inl, inr, ℕ, eqb, List, [], ◌∷◌, Option, Some, None, refl, sym, ◌∙◌, ap, subst}
use Rattle.std.specs.Prelude.{Contains}
use Rattle.std.specs.List.{AllByRecursion}
use Rattle.std.specs.Option.{option_or}
use Rattle.std.proofs.lemmas.Bool.{cond_both, cond-true, eqb-true, eq-eqb}
use Rattle.std.proofs.lemmas.Option.{same_Some}
use Rattle.uid_sets.specs.UidSet.{Member}
use Rattle.uid_sets.specs.declared.uid.UidRange.{UidRange}
use Rattle.imap_model.proofs.Finding.{message_at-uid}
use Rattle.imap_model.specs.CarriedOut.{EachIds, IdsSay, IdsTold}
use Rattle.imap_model.specs.Lookups.{message_at}
use Rattle.imap_model.specs.ToldRows.{TellsIds, id_fields}
use Rattle.imap_model.specs.WellFormed.{IsWellFormedBox}
use Rattle.imap_model.specs.declared.fetched.Fetched.{Fetched}
use Rattle.imap_model.specs.declared.response.Response.{Response}
use Rattle.imap_model.specs.declared.response.Response.TheVariants as responses
use Rattle.imap_model.specs.declared.server.Mailbox.{Mailbox}
use Rattle.imap_model.specs.declared.server.Message.{Message}
use Rattle.append_probe.specs.Marked.{has_id, marked}
use Rattle.append_probe.specs.Verdict.{Matches, MatchesBy, ids_in, ids_told, ids_under}
use Rattle.append_probe.proofs.Halves.{first_or_later, in_nothing}
use Rattle.append_probe.proofs.IdFields.{fields_have_id}
use Rattle.append_probe.proofs.Marking.{IsMarked, marked_at, at_marked}

-- these are the fields of the UID's message
pub record AreFields (uid : ℕ) (text : List ℕ) (b : Mailbox) : Type 0 where
  pub message : Message
  pub there : message_at uid b.messages ≡ Some message
  pub is : text ≡ id_fields message.text

none_under : (uid : ℕ) (told : Option ℕ) (text : List ℕ) → ids_under uid told None ≡ Some text → ⊥
none_under uid None text = λ e. absurd (cc)
none_under uid (Some u) text =
    cond_both (eqb u uid) None None (λ (o : Option (List ℕ)). o ≡ Some text → ⊥) (λ _ e. absurd (cc)) (λ _ e. absurd (cc))

some_under : (uid : ℕ) (m : Message) (fetched : Fetched) → TellsIds m fetched →
    ids_in uid (responses.Fetch fetched) ≡ ids_under uid (Some m.uid) (Some (id_fields m.text))
some_under uid m fetched t = ap (λ (f : Fetched). ids_under uid f.uid f.ids) t.ids

fields_under : (uid : ℕ) (m : Message) (text : List ℕ) (b : Mailbox) → message_at m.uid b.messages ≡ Some m →
    ids_under uid (Some m.uid) (Some (id_fields m.text)) ≡ Some text → AreFields uid text b
fields_under uid m text b there =
    cond_both (eqb m.uid uid) (Some (id_fields m.text)) None (λ (o : Option (List ℕ)). o ≡ Some text → AreFields uid text b)
    (λ t e. record {
      message = m;
      there = subst (λ (u : ℕ). message_at u b.messages ≡ Some m) (eqb-true m.uid uid t) there;
      is = sym (same_Some (id_fields m.text) text e);
    })
    (λ f e. absurd (cc))

-- what one response tells is so
in_true : (set : List UidRange) (b : Mailbox) (r : Response) (uid : ℕ) (text : List ℕ) → IdsSay set b r → ids_in uid r ≡ Some text →
    AreFields uid text b
in_true set b (responses.Fetch fetched) uid text (inl row) e =
    absurd (none_under uid (Some row.1.uid) text (sym (ap (λ (f : Fetched). ids_under uid f.uid f.ids) row.3) ∙ e))
in_true set b (responses.Fetch fetched) uid text (inr f) e =
    let same : f.1.uid ≡ f.0 = message_at-uid f.0 b.messages f.1 f.3 in
    fields_under uid f.1 text b (subst (λ (u : ℕ). message_at u b.messages ≡ Some f.1) (sym same) f.3)
    (sym (some_under uid f.1 fetched f.4) ∙ e)
in_true set b r uid text s e = absurd (cc)

last_true : (set : List UidRange) (b : Mailbox) (r : Response) (uid : ℕ) (text : List ℕ) (later : Option (List ℕ)) → IdsSay set b r →
    ((x : List ℕ) → later ≡ Some x → AreFields uid x b) → option_or later (ids_in uid r) ≡ Some text → AreFields uid text b
last_true set b r uid text None says before e = in_true set b r uid text says e
last_true set b r uid text (Some x) says before e = before text e

-- so is what all of them tell
pub told_true : (set : List UidRange) (b : Mailbox) (told : List Response) (uid : ℕ) (text : List ℕ) → AllByRecursion (IdsSay set b) told →
    ids_told uid told ≡ Some text → AreFields uid text b
told_true set b [] uid text a = λ e. absurd (cc)
told_true set b (r ∷ told) uid text a = last_true set b r uid text (ids_told uid told) a.0 (λ x. told_true set b told uid x a.1)

-- what is told of a UID isn't taken back
is_told : (uid : ℕ) (m : Message) (fetched : Fetched) (told : List Response) → TellsIds m fetched → m.uid ≡ uid →
    Contains told (responses.Fetch fetched) →
    (text : List ℕ) × (ids_told uid told ≡ Some text)
is_told uid m fetched [] t u c = absurd (in_nothing (responses.Fetch fetched) c)
is_told uid m fetched (r ∷ told) t u c =
    elim (first_or_later r (responses.Fetch fetched) told c) [
      | inl e ↦ first (ids_told uid told) (ids_in uid r) (id_fields m.text)
          (ap (ids_in uid) e ∙ some_under uid m fetched t ∙ cond-true (eqb m.uid uid) (Some (id_fields m.text)) None (eq-eqb m.uid uid u))
      | inr l ↦ behind (ids_told uid told) (ids_in uid r) (is_told uid m fetched told t u l)
    ]
  where
    first : (o p : Option (List ℕ)) (text : List ℕ) → p ≡ Some text → (x : List ℕ) × (option_or o p ≡ Some x)
    first None p text e = (text, e)
    first (Some later) p text e = (later, refl)

    behind : (o p : Option (List ℕ)) → (x : List ℕ) × (o ≡ Some x) → (x : List ℕ) × (option_or o p ≡ Some x)
    behind None p h = absurd (cc (h.1))
    behind (Some later) p h = (later, refl)

module _ (set : List UidRange) (b : Mailbox) (told : List Response) (id : List ℕ) (well : IsWellFormedBox b)
    (says : AllByRecursion (IdsSay set b) told)
    (tells : EachIds set b told) (uid : ℕ) where
  matched : (o : Option (List ℕ)) → ids_told uid told ≡ o → MatchesBy set id uid ⊥ o → Member set uid × Contains (marked id b.messages) uid
  matched None is m = absurd m
  matched (Some text) is m =
      let f : AreFields uid text b = told_true set b told uid text says is in
      (m.0, at_marked id b.messages uid f.message f.there (sym (fields_have_id id f.message.text) ∙ ap (has_id id) (sym f.is) ∙ m.1))

  matching : (o : Option (List ℕ)) → ids_told uid told ≡ o → Member set uid → IsMarked id uid b.messages → MatchesBy set id uid ⊥ o
  matching None is m i =
      let t : IdsTold told i.message = tells uid i.message m i.there in
      let s : (text : List ℕ) × (ids_told uid told ≡ Some text) =
      is_told uid i.message t.0 told t.1 (message_at-uid uid b.messages i.message i.there) t.2 in
      absurd (cc (is, s.1))
  matching (Some text) is m i =
      let f : AreFields uid text b = told_true set b told uid text says is in
      let same : f.message ≡ i.message = same_Some f.message i.message (sym f.there ∙ i.there) in
      (m, ap (has_id id) f.is ∙ fields_have_id id f.message.text ∙ ap (λ (x : Message). has_id id x.text) same ∙ i.has)

  -- what matches are the candidates that have the Message-ID
  pub matches_are : Matches set told id uid ↔ (Member set uid × Contains (marked id b.messages) uid)
  matches_are = (
    matched (ids_told uid told) refl,
    λ p. matching (ids_told uid told) refl p.0 (marked_at 0 id b.messages uid well.rise p.1),
  )
