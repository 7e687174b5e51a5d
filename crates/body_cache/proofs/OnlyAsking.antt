-- What a call says that only asks, by its exchange; and two such calls, one behind the other.
use Rattle.std.proofs.Common.{◌≡◌, ℕ, ◌≤◌, Result, Ok, Err, IsErrAnd, refl, sym, ◌∙◌, ap, subst, false}
use Rattle.std.specs.Prelude.{IsErrOf}
use Rattle.mail_base.specs.declared.tag.Tag.{Tag}
use Rattle.imap_model.specs.Mutating.{is_mutating}
use Rattle.imap_model.specs.declared.command.Command.{Command}
use Rattle.imap_session.proofs.Talks.{asks_enquires}
use Rattle.imap_session.specs.Blame.{Blames}
use Rattle.imap_session.specs.Enquiring.{Enquiring}
use Rattle.imap_session.specs.Exchange.{Talks}
use Rattle.imap_session.specs.declared.fault.SessionFault.{SessionFault}
use Rattle.imap_session.specs.declared.fault.SessionFault.TheVariants as sessions
use Rattle.mail_base.specs.Account.{Credentials}
use Rattle.world_traits.specs.Calls.{Rose}
use Rattle.world_traits.specs.Links.{Any, AnyStep, LinkStep, Linked}
use Rattle.world_traits.specs.declared.clocked.Clocked.{Ghosts}
use Rattle.world_traits.proofs.Passing.{since_then}
use Rattle.play_driver.specs.Enters.{Enters}
use Rattle.play_driver.specs.Faults.{of_session}
use Rattle.play_driver.specs.declared.fault.PlayFault.{PlayFault}
use Rattle.play_driver.specs.declared.fault.PlayFault.TheVariants as plays
use Rattle.play_driver.specs.declared.fault.Why.TheVariants as whys
use Rattle.qresync_core.specs.declared.codes.Codes.{Codes}
use Rattle.qresync_core.specs.declared.fault.CodeFault.{CodeFault}
use Rattle.qresync_core.specs.declared.fault.CodeFault.TheVariants as codings
use Rattle.body_cache.specs.Asking.{OnlyAsks}
use Rattle.body_cache.specs.Fetching.{WhyNone, WhyUnfit, of_code}
use Rattle.body_cache.specs.declared.found.TextFound.{TextFound}
use Rattle.body_cache.specs.declared.found.TextFound.TheVariants as founds
use Rattle.body_cache.specs.declared.fault.TextFault.{TextFault}
use Rattle.body_cache.specs.declared.fault.TextFault.TheVariants as faults

-- the fault that is told
pub told_err : {T E : Type 0} (r : Result T E) (x : E) → IsErrAnd r (λ e. e ≡ x) → r ≡ Err x
told_err (Ok y) x is = absurd is
told_err (Err e) x is = ap (λ (f : _). Err f) is

pub same_err : {T E : Type 0} (r : Result T E) (x y : E) → r ≡ Err x → r ≡ Err y → x ≡ y
same_err r x y p q = cc (p, q)

-- a fault that is handed on
pub err_back : {S T E : Type 0} (a : Result S E) (b : Result T E) (x y : E) → a ≡ Err x → b ≡ Err x → b ≡ Err y → a ≡ Err y
err_back a b x y p q r = p ∙ ap (λ (e : _). Err e) (same_err b x y q r)

-- a session's fault as that of a text
abbrev pub stopped : SessionFault → TextFault
stopped f = faults.Stopped (of_session f)

bad_of : (f : SessionFault) (at : ℕ) → stopped f ≡ faults.Stopped (plays.BadReply (whys.At at)) → f ≡ sessions.BadReply at
bad_of sessions.Memory at is = absurd (cc is)
bad_of sessions.Link at is = absurd (cc is)
bad_of (sessions.Refused line) at is = absurd (cc is)
bad_of (sessions.BadReply place) at is = cc is
bad_of (sessions.Lacking item) at is = absurd (cc is)
bad_of (sessions.TooLarge limit number) at is = absurd (cc is)

link_of : (f : SessionFault) → stopped f ≡ faults.Stopped plays.Link → f ≡ sessions.Link
link_of sessions.Memory is = absurd (cc is)
link_of sessions.Link is = refl
link_of (sessions.Refused line) is = absurd (cc is)
link_of (sessions.BadReply place) is = absurd (cc is)
link_of (sessions.Lacking item) is = absurd (cc is)
link_of (sessions.TooLarge limit number) is = absurd (cc is)

no_disk_of : (f : SessionFault) → stopped f ≡ faults.Stopped plays.Disk → ⊥
no_disk_of sessions.Memory is = cc is
no_disk_of sessions.Link is = cc is
no_disk_of (sessions.Refused line) is = cc is
no_disk_of (sessions.BadReply place) is = cc is
no_disk_of (sessions.Lacking item) is = cc is
no_disk_of (sessions.TooLarge limit number) is = cc is

-- a fault that blames neither the disk nor the link, nor tells a place in the bytes that came
abbrev pub IsOwnPlay : PlayFault → Type 0
IsOwnPlay plays.Memory = Unit {0}
IsOwnPlay plays.Disk = ⊥
IsOwnPlay plays.Link = ⊥
IsOwnPlay (plays.Refused line) = Unit {0}
IsOwnPlay (plays.BadReply why) = (at : ℕ) → why ≡ whys.At at → ⊥
IsOwnPlay (plays.Lacking what) = Unit {0}
IsOwnPlay (plays.Limit which number) = Unit {0}

abbrev pub IsOwn : TextFault → Type 0
IsOwn (faults.Stopped fault) = IsOwnPlay fault
IsOwn (faults.Renewed validity) = Unit {0}
IsOwn faults.Gone = Unit {0}

-- so is one of a SELECT's codes
pub code_own : (f : CodeFault) → IsOwn (faults.Stopped (of_code f))
code_own codings.NoModSeq = tt
code_own codings.NotSticky = tt
code_own (codings.NoCode which) = λ at is. cc is

-- a call that goes well has no fault
pub ok_own : {T : Type 0} (x : T) (g : TextFault) → ◌≡◌ {A = Result T TextFault} (Ok x) (Err g) → IsOwn g
ok_own x g is = absurd (cc is)

err_own : {T : Type 0} (x g : TextFault) → ◌≡◌ {A = Result T TextFault} (Err x) (Err g) → IsOwn x → IsOwn g
err_own x g is own = subst IsOwn (same_err (Err x) x g refl is) own

-- nor does one that judges the codes blame anybody
unfit_own : (validity : ℕ) (told : Result Codes CodeFault) (fault : TextFault) → WhyUnfit validity told fault → IsOwn fault
unfit_own validity (Ok codes) fault why = subst IsOwn (sym why.0) tt
unfit_own validity (Err code) fault why = subst IsOwn (sym why) (code_own code)

pub own_unfit : {T : Type 0} (validity : ℕ) (told : Result Codes CodeFault) (fault : TextFault) → WhyUnfit validity told fault → (g : TextFault) →
    ◌≡◌ {A = Result T TextFault} (Err fault) (Err g) → IsOwn g
own_unfit {T} validity told fault why g is = err_own {T = T} fault g is (unfit_own validity told fault why)

-- nor one that looks for the text
none_own : (found : TextFound) (fault : TextFault) → WhyNone found fault → IsOwn fault
none_own founds.Gone fault why = subst IsOwn (sym why) tt
none_own founds.Lacks fault why = subst IsOwn (sym why) (λ at is. cc is)
none_own (founds.Text text) fault why = absurd why

pub own_none : {T : Type 0} (found : TextFound) (fault : TextFault) → WhyNone found fault → (g : TextFault) →
    ◌≡◌ {A = Result T TextFault} (Err fault) (Err g) → IsOwn g
own_none {T} found fault why g is = err_own {T = T} fault g is (none_own found fault why)

own_bad : (g : TextFault) (at : ℕ) → IsOwn g → g ≡ faults.Stopped (plays.BadReply (whys.At at)) → ⊥
own_bad g at own is = (subst IsOwn is own) at refl

-- a session's call that asks questions alone
pub record Questions {Self S : Type 0} (L : Ghosts Self) (old new : Self) (res : Result S SessionFault) : Type 0 where
  pub files : L.tells_files → Linked AnyStep (L.clock old) (L.clock new)
  pub told : L.tells_server → Linked Enquiring (L.clock old) (L.clock new)
  pub honest : L.tells_server → (at : ℕ) → IsErrOf res (sessions.BadReply at) → ⊥
  pub blames : Blames L old new res

never : {A E : Type 0} (r : Result A E) (y : A) (e : E) → r ≡ Ok y → r ≡ Err e → ⊥
never r y e p q = cc (p, q)

module _ {Self S : Type 0} (L : Ghosts Self) (old new : Self) (res : Result S SessionFault) where
  -- the exchange of one question
  pub by_talks : (tag : Tag) (command : Command) → is_mutating command ≡ false → Talks L tag command old new res → Questions L old new res
  by_talks tag command question talks = record {
    files = talks.files;
    told = λ t. asks_enquires _ tag command question (L.clock old) (L.clock new) (talks.told t);
    honest = talks.honest;
    blames = talks.blames;
  }

  -- the way in
  pub by_enters : (account : Credentials) → Enters L account old new res → Questions L old new res
  by_enters account e = record { files = e.files; told = e.told; honest = e.honest; blames = e.blames }

  -- it fails
  pub asks_failed : {T : Type 0} (out : Result T TextFault) (f : SessionFault) → Questions L old new res → res ≡ Err f → out ≡ Err (stopped f) →
      OnlyAsks L old new out
  asks_failed out f asks failed is = record {
    files = asks.files;
    told = asks.told;
    honest = λ t at bad. asks.honest t at (failed ∙ ap (λ (x : SessionFault). Err x) (bad_of f at (same_err out _ _ is bad)));
    disk = asks.blames.disk;
    no_disk = λ bad. no_disk_of f (same_err out _ _ is bad);
    count = asks.blames.count;
    cause = λ bad. asks.blames.cause (failed ∙ ap (λ (x : SessionFault). Err x) (link_of f (same_err out _ _ is bad)));
    unfailed = λ other. asks.blames.unfailed
        (λ link. other (is ∙ ap (λ (x : SessionFault). Err (stopped x)) (same_err res f sessions.Link failed link)));
  }

  -- it doesn't, and what comes of it blames nobody
  pub asks_done : {T : Type 0} (x : S) (out : Result T TextFault) → Questions L old new res → res ≡ Ok x → ((g : TextFault) → out ≡ Err g → IsOwn g) →
      OnlyAsks L old new out
  asks_done x out asks done own = record {
    files = asks.files;
    told = asks.told;
    honest = λ t at bad. own_bad _ at (own _ bad) refl;
    disk = asks.blames.disk;
    no_disk = λ bad. own _ bad;
    count = asks.blames.count;
    cause = λ bad. absurd (own _ bad);
    unfailed = λ other. asks.blames.unfailed (λ link. never res x sessions.Link done link);
  }

-- a fault that is handed on as it is
pub asks_as : {Self S T : Type 0} (L : Ghosts Self) (old new : Self) (a : Result S TextFault) (b : Result T TextFault) (x : TextFault) → a ≡ Err x →
    b ≡ Err x → OnlyAsks L old new a → OnlyAsks L old new b
asks_as L old new a b x p q asks = record {
  files = asks.files;
  told = asks.told;
  honest = λ t at bad. asks.honest t at (err_back a b x _ p q bad);
  disk = asks.disk;
  no_disk = λ bad. asks.no_disk (err_back a b x _ p q bad);
  count = asks.count;
  cause = λ bad. asks.cause (err_back a b x _ p q bad);
  unfailed = λ other. asks.unfailed (λ bad. other (err_back b a x _ q p bad));
}

-- a call that went well, and one behind it
module _ {Self : Type 0} (L : Ghosts Self) (old mid new : Self) where
  pub only_then : {S T : Type 0} (done : Result S TextFault) (x : S) (out : Result T TextFault) → done ≡ Ok x → OnlyAsks L old mid done →
      OnlyAsks L mid new out → OnlyAsks L old new out
  only_then done x out is a b =
      let same : (L.link mid).faults ≡ (L.link old).faults = a.unfailed (λ bad. absurd (cc (is, bad))) in
      record {
        files = λ t. since_then Any (LinkStep AnyStep) (L.clock old) (L.clock mid) (L.clock new) (a.files t) (b.files t);
        told = λ t. since_then Any (LinkStep Enquiring) (L.clock old) (L.clock mid) (L.clock new) (a.told t) (b.told t);
        honest = b.honest;
        disk = b.disk ∙ a.disk;
        no_disk = b.no_disk;
        count = subst (λ (n : ℕ). n ≤ (L.link new).faults) same b.count;
        cause = λ bad. subst (λ (n : ℕ). Rose n (L.link new).faults) same (b.cause bad);
        unfailed = λ other. b.unfailed other ∙ same;
      }
