-- How a fetching ends.
use Rattle.std.proofs.Common.{◌≡◌, inl, inr, ℕ, List, Result, Err, refl, sym, ap, subst}
use Rattle.mail_base.specs.Account.{Credentials}
use Rattle.mail_top.specs.Course.{Course}
use Rattle.play_driver.specs.declared.fault.PlayFault.{PlayFault}
use Rattle.play_driver.specs.declared.fault.PlayFault.TheVariants as plays
use Rattle.body_cache.specs.Carrying.{IsUnfetched, Puts, TellsRenewed}
use Rattle.body_cache.specs.Carrying.Puts.{fails, puts, wants}
use Rattle.body_cache.specs.Ending.{EndsFetch, Shelving, Untouched}
use Rattle.body_cache.specs.Fetching.{Fetches, NotFetched}
use Rattle.body_cache.specs.Finding.{Finds}
use Rattle.body_cache.specs.Lines.{error_validity}
use Rattle.body_cache.specs.Telling.{status_of_read, text_of_read}
use Rattle.body_cache.specs.declared.fault.TextFault.{TextFault}
use Rattle.body_cache.specs.declared.fault.TextFault.TheVariants as texts
use Rattle.body_cache.specs.declared.key.Key.{Key}
use Rattle.body_cache.specs.declared.refused.ReadFault.{ReadFault}
use Rattle.body_cache.specs.declared.refused.ReadFault.TheVariants as faults

module _ (account : Credentials) (name : List ℕ) (uid : ℕ) (k : Course) (v : Shelving) (key : Key) (finds : Finds name uid k key) where
  abbrev Ends : Result (List ℕ) ReadFault → Type 0
  Ends r = EndsFetch account name uid k v (status_of_read r) (text_of_read r)

  -- the text was fetched
  pub fetched_ends : (message : List ℕ) → Fetches account key message k.link_after → (r : Result (List ℕ) ReadFault) → Puts v key message r → Ends r
  fetched_ends message fetches r (puts is put) =
      subst Ends (sym is) (record { key = key; finds = finds; message = message; fetches = fetches; put = put; text_is = refl })
  fetched_ends message fetches r (wants is untouched) = subst Ends (sym is) (record { untouched = untouched; text_is = refl })
  fetched_ends message fetches r (fails is others) =
      subst Ends (sym is) (record { key = key; finds = finds; message = message; fetches = fetches; others = others; text_is = refl })

  -- the session ended early
  module _ (untouched : Untouched v) where
    stopped_ends : (fault : PlayFault) → NotFetched account key k.link k.link_after (texts.Stopped fault) → (fault ≡ plays.Disk → ⊥) →
        Ends (Err (faults.Stopped fault))
    stopped_ends plays.Memory why no_disk = record { untouched = untouched; text_is = refl }
    stopped_ends plays.Disk why no_disk = absurd (no_disk refl)
    stopped_ends plays.Link why no_disk =
        record { key = key; finds = finds; fault = plays.Link; why = why; untouched = untouched; status_is = refl; text_is = refl }
    stopped_ends (plays.Refused line) why no_disk =
        record { key = key; finds = finds; fault = plays.Refused line; why = why; untouched = untouched; status_is = refl; text_is = refl }
    stopped_ends (plays.BadReply w) why no_disk =
        record { key = key; finds = finds; fault = plays.BadReply w; why = why; untouched = untouched; status_is = refl; text_is = refl }
    stopped_ends (plays.Lacking what) why no_disk =
        record { key = key; finds = finds; fault = plays.Lacking what; why = why; untouched = untouched; status_is = refl; text_is = refl }
    stopped_ends (plays.Limit which number) why no_disk =
        record { key = key; finds = finds; fault = plays.Limit which number; why = why; untouched = untouched; status_is = refl; text_is = refl }

    -- another UIDVALIDITY was told
    renewed_ends : (told : ℕ) → key.name ≡ name → NotFetched account key k.link k.link_after (texts.Renewed told) → (fault : ReadFault) →
        TellsRenewed key told fault → Ends (Err fault)
    renewed_ends told named why fault (inl is) =
        subst (λ (f : ReadFault). Ends (Err f)) (sym is)
        (record {
          key = key;
          finds = finds;
          told = told;
          why = why;
          untouched = untouched;
          text_is = ap (λ (n : List ℕ). error_validity n key.validity told) named;
        })
    renewed_ends told named why fault (inr is) =
        subst (λ (f : ReadFault). Ends (Err f)) (sym is) (record { untouched = untouched; text_is = refl })

    pub unfetched_ends : key.name ≡ name → (x : TextFault) → NotFetched account key k.link k.link_after x → (x ≡ texts.Stopped plays.Disk → ⊥) →
        (fault : ReadFault) → IsUnfetched key x fault → Ends (Err fault)
    unfetched_ends named (texts.Stopped f) why no_disk fault is =
        subst (λ (g : ReadFault). Ends (Err g)) (sym is) (stopped_ends f why (λ e. no_disk (ap texts.Stopped e)))
    unfetched_ends named (texts.Renewed told) why no_disk fault is = renewed_ends told named why fault is
    unfetched_ends named texts.Gone why no_disk fault is =
        subst (λ (g : ReadFault). Ends (Err g)) (sym is)
        (inr (record { key = key; finds = finds; why = why; untouched = untouched; text_is = refl }))
