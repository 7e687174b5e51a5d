-- Which way in there is, and whether a server serves this client.
use Rattle.std.proofs.Common.{◌≡◌, inl, inr, ap, ◌∙◌, ℕ, List, codes, if◌then◌else◌, Some, Bool, true, false, IsTrue, refl, sym}
use Rattle.literal_feed.specs.Stream.{Stream}
use Rattle.mail_base.specs.Account.{Credentials}
use Rattle.imap_model.specs.declared.item.Item.{Item}
use Rattle.imap_model.specs.declared.item.Item.TheVariants as items
use Rattle.imap_model.specs.declared.replies.Replies.{Replies}
use Rattle.imap_model.specs.declared.response.Response.{Response}
use Rattle.world_traits.specs.LinkState.{LinkState}
use Rattle.world_traits.specs.Moments.{Clock}
use Rattle.imap_session.specs.Dialogue.{Dialogue, BrokeOff, TalkedOut}
use Rattle.imap_session.specs.Dialogue.Dialogue.{Ends, Lacks, Asks}
use Rattle.imap_session.specs.Hearing.{Hears}
use Rattle.imap_session.specs.Enabled.{is_enabled}
use Rattle.imap_session.specs.LogIn.{NoWay, behind_offer, logged_in, switched_on, way_by, way_in}
use Rattle.imap_session.specs.Most.{most_of}
use Rattle.imap_session.specs.declared.fault.SessionFault.{SessionFault}
use Rattle.imap_session.specs.declared.fault.SessionFault.TheVariants as faults
use Rattle.imap_session.specs.declared.offer.Offer.{Offer}
use Rattle.imap_session.proofs.Dialogues.{broke_as, broke_first, broke_lack, out_lack}
use Rattle.imap_session.proofs.NoReply.{memory_fails}
use Rattle.imap_session.proofs.Sent.{sent_none}

pub behind_true : (preauth : Bool) (account : Credentials) (r : Replies) → IsTrue preauth → behind_offer preauth account r ≡ logged_in
behind_true true account r is = refl
behind_true false account r is = absurd (cc)

pub behind_false : (preauth : Bool) (account : Credentials) (r : Replies) → preauth ≡ false → behind_offer preauth account r ≡ way_in account r
behind_false true account r is = absurd (cc)
behind_false false account r is = refl

module _ (account : Credentials) (offer : Offer) where
  pub no_way_lacks : (item : Item) (count : ℕ) (k : Clock) (sent : List ℕ) → NoWay account offer (faults.Lacking item)
      → TalkedOut (way_by account offer) count (Some item) (record { clock = k; sent = sent }) (record { clock = k; sent = sent })
  no_way_lacks item count k sent (inl lack) = let same : items.Login ≡ item = cc lack.0 in out_lack (way_by account offer) count item k sent sent
      (lack.1 ∙ ap Lacks same) refl
  no_way_lacks item count k sent (inr want) = let e = want.0 in absurd (cc)

  pub no_way_broke : (fault : SessionFault) (count : ℕ) (heard : List Response) (link : LinkState) (feed : Stream)
      → (h : Hears heard link.connection feed)
      → NoWay account offer fault → BrokeOff (way_by account offer) count link.sent h.connection.received heard link fault
  no_way_broke fault count heard link feed h (inl lack) = broke_lack
      (way_by account offer) count link.sent h.connection.received heard items.Login link feed fault lack.1 lack.0
      (record { sends = refl; has = h.there; hears = h })
  no_way_broke fault count heard link feed h (inr want) =
      broke_as (Asks want.1.0 (λ s. logged_in)) (way_by account offer) count link.sent h.connection.received heard link fault want.1.1
      (broke_first want.1.0 (λ s. logged_in) count link.sent h.connection.received heard link fault (sent_none _ _ _ refl)
      (inl (memory_fails _ heard h.connection.received (most_of want.1.0) link.connection fault want.0)))

  pub no_way_bad : (at : ℕ) → NoWay account offer (faults.BadReply at) → ⊥
  no_way_bad at (inl lack) = let e = lack.0 in absurd (cc)
  no_way_bad at (inr want) = let e = want.0 in absurd (cc)

  pub no_way_link : NoWay account offer faults.Link → ⊥
  no_way_link (inl lack) = let e = lack.0 in absurd (cc)
  no_way_link (inr want) = let e = want.0 in absurd (cc)

-- QRESYNC was enabled, or not
pub on_ends : (rev2 on : Bool) (r : Replies) → on ≡ is_enabled (codes "QRESYNC") r.untagged → IsTrue on → switched_on rev2 r ≡ Ends rev2
on_ends rev2 on r same is = ap (λ (x : Bool). if x then Ends rev2 else Lacks items.Qresync) (sym same ∙ is)

if_off : (b : Bool) (x y : Dialogue) → ¬ (IsTrue b) → (if b then x else y) ≡ y
if_off true x y off = absurd (off refl)
if_off false x y off = refl

pub off_lacks : (rev2 on : Bool) (r : Replies) → on ≡ is_enabled (codes "QRESYNC") r.untagged → ¬ (IsTrue on)
    → switched_on rev2 r ≡ Lacks items.Qresync
off_lacks rev2 on r same off = if_off (is_enabled (codes "QRESYNC") r.untagged) (Ends rev2) (Lacks items.Qresync) (λ is. off (same ∙ is))
