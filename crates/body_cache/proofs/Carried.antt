-- How a fetching ends, whatever world and shelf tell: whom it blames, and what it leaves.
use Rattle.std.proofs.Common.{◌≡◌, ◌≤◌, inl, inr, ℕ, List, OnOk, Result, Ok, Err, refl, sym, ◌∙◌, ap, subst}
use Rattle.mail_base.specs.declared.status.Status.{Status}
use Rattle.mail_base.specs.declared.status.Status.TheVariants as status
use Rattle.store_core.specs.Books.{HasBook}
use Rattle.store_core.specs.Mail.{mail}
use Rattle.world_traits.specs.Files.{Files}
use Rattle.world_traits.specs.Calls.{Rose}
use Rattle.world_traits.specs.LinkState.{LinkState}
use Rattle.world_traits.specs.Links.{AnyStep, Linked}
use Rattle.world_traits.specs.declared.clocked.Clocked.{Ghosts}
use Rattle.mail_top.specs.Causing.{HasCauses}
use Rattle.mail_top.specs.Course.{Course}
use Rattle.mail_top.specs.Telling.{status_of_fault}
use Rattle.play_driver.specs.declared.fault.PlayFault.{PlayFault}
use Rattle.play_driver.specs.declared.fault.PlayFault.TheVariants as plays
use Rattle.body_cache.proofs.Looking.{books_linked}
use Rattle.body_cache.specs.Asking.{OnlyAsks}
use Rattle.body_cache.specs.Carrying.{IsUnfetched, Puts}
use Rattle.body_cache.specs.Carrying.Puts.{fails, puts, wants}
use Rattle.body_cache.specs.Ending.{Shelving}
use Rattle.body_cache.specs.Finding.{Finds}
use Rattle.body_cache.specs.Shelf.{IsPut}
use Rattle.body_cache.specs.Telling.{status_of_read, status_of_unread}
use Rattle.body_cache.specs.declared.fault.TextFault.{TextFault}
use Rattle.body_cache.specs.declared.fault.TextFault.TheVariants as texts
use Rattle.body_cache.specs.declared.key.Key.{Key}
use Rattle.body_cache.specs.declared.refused.ReadFault.{ReadFault}

-- The key that was found is found still, where the link was called since.
pub finds_still : (name : List ℕ) (uid : ℕ) (k l : Course) (key : Key) → l.seen ≡ k.seen → Linked AnyStep k.new l.new → Finds name uid k key →
    Finds name uid l key
finds_still name uid k l key same linked f = record {
  book = f.book;
  reads = record {
    holds = subst (λ (s : Files). HasBook mail f.book s) (sym same) f.reads.holds;
    leaves = books_linked f.book k.new l.new f.reads.leaves linked;
  };
  is = f.is;
}

-- what was put, by another name of the text
pub puts_as : (v : Shelving) (key : Key) (text other : List ℕ) (r : Result (List ℕ) ReadFault) → text ≡ other → Puts v key text r → Puts v key other r
puts_as v key text other r same = subst (λ (m : List ℕ). Puts v key m r) same

-- What was put where the call went well.
pub put_done : (v : Shelving) (key : Key) (text : List ℕ) (r : Result (List ℕ) ReadFault) → Puts v key text r → OnOk r (v.tells → IsPut key text v.old v.new)
put_done v key text r (puts is put) = subst (λ (x : Result (List ℕ) ReadFault). OnOk x (v.tells → IsPut key text v.old v.new)) (sym is) put
put_done v key text r (wants is untouched) = subst (λ (x : Result (List ℕ) ReadFault). OnOk x (v.tells → IsPut key text v.old v.new)) (sym is) tt
put_done v key text r (fails is others) = subst (λ (x : Result (List ℕ) ReadFault). OnOk x (v.tells → IsPut key text v.old v.new)) (sym is) tt

pub on_ok_more : {T E : Type 0} (P Q : Type 0) → (P → Q) → (r : Result T E) → OnOk r P → OnOk r Q
on_ok_more P Q f (Ok x) p = f p
on_ok_more P Q f (Err e) p = tt

-- neither the disk nor the link is blamed by what is put
pub put_blames : (v : Shelving) (key : Key) (text : List ℕ) (r : Result (List ℕ) ReadFault) → Puts v key text r →
    (status_of_read r ≡ status.Disk → ⊥) × (status_of_read r ≡ status.Link → ⊥)
put_blames v key text r (puts is put) =
    subst (λ (x : Result (List ℕ) ReadFault). (status_of_read x ≡ status.Disk → ⊥) × (status_of_read x ≡ status.Link → ⊥)) (sym is) (λ e. cc e, λ e. cc e)
put_blames v key text r (wants is untouched) =
    subst (λ (x : Result (List ℕ) ReadFault). (status_of_read x ≡ status.Disk → ⊥) × (status_of_read x ≡ status.Link → ⊥)) (sym is) (λ e. cc e, λ e. cc e)
put_blames v key text r (fails is others) =
    subst (λ (x : Result (List ℕ) ReadFault). (status_of_read x ≡ status.Disk → ⊥) × (status_of_read x ≡ status.Link → ⊥)) (sym is) (λ e. cc e, λ e. cc e)

-- which fault of a fetching is told by these statuses
play_link : (f : PlayFault) → status_of_fault f ≡ status.Link → f ≡ plays.Link
play_link plays.Memory is = absurd cc
play_link plays.Disk is = absurd cc
play_link plays.Link is = refl
play_link (plays.Refused line) is = absurd cc
play_link (plays.BadReply why) is = absurd cc
play_link (plays.Lacking what) is = absurd cc
play_link (plays.Limit which number) is = absurd cc

play_disk : (f : PlayFault) → status_of_fault f ≡ status.Disk → f ≡ plays.Disk
play_disk plays.Memory is = absurd cc
play_disk plays.Disk is = refl
play_disk plays.Link is = absurd cc
play_disk (plays.Refused line) is = absurd cc
play_disk (plays.BadReply why) is = absurd cc
play_disk (plays.Lacking what) is = absurd cc
play_disk (plays.Limit which number) is = absurd cc

play_shelf : (f : PlayFault) → status_of_fault f ≡ status.Shelf → ⊥
play_shelf plays.Memory is = cc
play_shelf plays.Disk is = cc
play_shelf plays.Link is = cc
play_shelf (plays.Refused line) is = cc
play_shelf (plays.BadReply why) is = cc
play_shelf (plays.Lacking what) is = cc
play_shelf (plays.Limit which number) is = cc

-- what a status says of a fetching that failed
module _ (key : Key) where
  failed_link : (x : TextFault) (fault : ReadFault) → IsUnfetched key x fault → status_of_unread fault ≡ status.Link → x ≡ texts.Stopped plays.Link
  failed_link (texts.Stopped f) fault is e = ap texts.Stopped (play_link f (sym (ap status_of_unread is) ∙ e))
  failed_link (texts.Renewed told) fault (inl is) e = absurd (cc (sym (ap status_of_unread is) ∙ e))
  failed_link (texts.Renewed told) fault (inr is) e = absurd (cc (sym (ap status_of_unread is) ∙ e))
  failed_link texts.Gone fault is e = absurd (cc (sym (ap status_of_unread is) ∙ e))

  failed_disk : (x : TextFault) (fault : ReadFault) → IsUnfetched key x fault → status_of_unread fault ≡ status.Disk → x ≡ texts.Stopped plays.Disk
  failed_disk (texts.Stopped f) fault is e = ap texts.Stopped (play_disk f (sym (ap status_of_unread is) ∙ e))
  failed_disk (texts.Renewed told) fault (inl is) e = absurd (cc (sym (ap status_of_unread is) ∙ e))
  failed_disk (texts.Renewed told) fault (inr is) e = absurd (cc (sym (ap status_of_unread is) ∙ e))
  failed_disk texts.Gone fault is e = absurd (cc (sym (ap status_of_unread is) ∙ e))

  pub failed_shelf : (x : TextFault) (fault : ReadFault) → IsUnfetched key x fault → status_of_unread fault ≡ status.Shelf → ⊥
  failed_shelf (texts.Stopped f) fault is e = play_shelf f (sym (ap status_of_unread is) ∙ e)
  failed_shelf (texts.Renewed told) fault (inl is) e = cc (sym (ap status_of_unread is) ∙ e)
  failed_shelf (texts.Renewed told) fault (inr is) e = cc (sym (ap status_of_unread is) ∙ e)
  failed_shelf texts.Gone fault is e = cc (sym (ap status_of_unread is) ∙ e)

  lost_told : (x : TextFault) (fault : ReadFault) → IsUnfetched key x fault → x ≡ texts.Stopped plays.Link → status_of_unread fault ≡ status.Link
  lost_told (texts.Stopped f) fault is e =
      let same : f ≡ plays.Link = cc e in ap status_of_unread is ∙ ap status_of_fault same
  lost_told (texts.Renewed told) fault is e = absurd (cc e)
  lost_told texts.Gone fault is e = absurd (cc e)

-- The link is called behind the opening of the journal.
module _ {Self T : Type 0} (W : Ghosts Self) (old mid new : Self) (r : Result T TextFault) (asks : OnlyAsks W mid new r)
    (link : W.link mid ≡ W.link old) (count : W.disk_faults old ≤ W.disk_faults mid) (unfailed : W.disk_faults mid ≡ W.disk_faults old) where
  disk_same : W.disk_faults new ≡ W.disk_faults old
  disk_same = asks.disk ∙ unfailed

  disk_counts : W.disk_faults old ≤ W.disk_faults new
  disk_counts = subst (λ (n : ℕ). W.disk_faults old ≤ n) (sym asks.disk) count

  link_same : (W.link mid).faults ≡ (W.link old).faults
  link_same = ap (λ (l : LinkState). l.faults) link

  link_counts : (W.link old).faults ≤ (W.link new).faults
  link_counts = subst (λ (n : ℕ). n ≤ (W.link new).faults) link_same asks.count

  -- the text was fetched
  pub fetched_causes : (x : T) → r ≡ Ok x → (s : Status) → (s ≡ status.Disk → ⊥) → (s ≡ status.Link → ⊥) → HasCauses W old new s
  fetched_causes x done s no_disk no_link = record {
    disk = λ is. absurd (no_disk is);
    link_fault = λ is. absurd (no_link is);
    count = disk_counts;
    link_count = link_counts;
    disk_unfailed = λ other. disk_same;
    link_unfailed = λ other. asks.unfailed (λ bad. cc (done, bad)) ∙ link_same;
  }

  -- it wasn't
  pub unfetched_causes : (key : Key) (x : TextFault) → r ≡ Err x → (fault : ReadFault) → IsUnfetched key x fault → HasCauses W old new (status_of_unread fault)
  unfetched_causes key x was fault is = record {
    disk = λ e. absurd (asks.no_disk (was ∙ ap (λ (f : TextFault). Err f) (failed_disk key x fault is e)));
    link_fault = λ e.
        subst (λ (n : ℕ). Rose n (W.link new).faults) link_same
        (asks.cause (was ∙ ap (λ (f : TextFault). Err f) (failed_link key x fault is e)));
    count = disk_counts;
    link_count = link_counts;
    disk_unfailed = λ other. disk_same;
    link_unfailed = λ other. asks.unfailed
        (λ bad.
        let same : x ≡ texts.Stopped plays.Link = cc (was, bad) in other (lost_told key x fault is same)) ∙ link_same;
  }
