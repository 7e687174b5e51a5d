-- What the codes of a reply tell of a command that changes something (RFC 7162, section 3.1.3; RFC 4315, section 3).
use Rattle.std.proofs.Common.{◌≡◌, ◌⊎◌, inl, inr, ℕ, arith, Bool, true, false, eqb, List, [], ◌∷◌, Option, Some, None, Ok, refl, sym, ◌∙◌}
use Rattle.std.proofs.Common.{ap, subst}
use Rattle.std.specs.List.{AllByRecursion}
use Rattle.std.specs.Option.{option_or}
use Rattle.std.proofs.lemmas.Bool.{cond-true, eq-eqb}
use Rattle.uid_sets.specs.UidSet.{Member}
use Rattle.mailbox_cache.specs.Rows.{has_uid}
use Rattle.mailbox_cache.proofs.Members.{has_uid-Decides}
use Rattle.imap_model.specs.CarriedOut.{MoveCode, MoveSays, only}
use Rattle.imap_model.specs.Carrying.{IsThere}
use Rattle.imap_model.specs.Changes.{Rewrites, Sets}
use Rattle.imap_model.specs.Lookups.{message_at, put_message}
use Rattle.imap_model.specs.Remarks.{CodeTold, MayCode, MaySay, Remarks}
use Rattle.imap_model.specs.declared.code.Code.{Code}
use Rattle.imap_model.specs.declared.code.Code.TheVariants as codings
use Rattle.imap_model.specs.declared.command.Command.{Command}
use Rattle.imap_model.specs.declared.command.Command.TheVariants as commands
use Rattle.imap_model.specs.declared.ending.Ending.{Ending}
use Rattle.imap_model.specs.declared.ending.Ending.TheVariants as endings
use Rattle.imap_model.specs.declared.response.Response.{Response}
use Rattle.imap_model.specs.declared.response.Response.TheVariants as responses
use Rattle.imap_model.specs.declared.server.Mailbox.{Mailbox}
use Rattle.imap_model.specs.declared.server.Server.{Server}
use Rattle.imap_model.proofs.Effects.{set_there}
use Rattle.imap_model.proofs.Finding.{message_at-put_same, message_at-uid}
use Rattle.action_queue.specs.declared.outcome.Outcome.TheVariants as outcomes
use Rattle.playback.specs.Replying.{copied_code, copied_in, copied_untagged, last_copied, names_modified, names_uid, one_of, place_if}
use Rattle.playback.specs.Replying.{read_copied}
use Rattle.playback.specs.Why.{NamesModified}
use Rattle.playback.specs.declared.finding.Finding.TheVariants as findings
use Rattle.playback.proofs.Fetches.{first_or_behind, in_none}

-- a remark's code isn't MODIFIED
pub unmodified : (uid : ℕ) (selected : Option Mailbox) (code : Code) → MayCode selected code → names_modified uid code ≡ false
unmodified uid selected codings.None m = refl
unmodified uid selected (codings.Capability words) m = refl
unmodified uid selected (codings.UidNext next) m = refl
unmodified uid selected (codings.UidValidity validity) m = refl
unmodified uid selected (codings.PermanentFlags flags any) m = refl
unmodified uid selected (codings.HighestModSeq modseq) m = refl
unmodified uid selected codings.NoModSeq m = refl
unmodified uid selected codings.UidNotSticky m = refl
unmodified uid selected (codings.AppendUid validity other) m = refl
unmodified uid selected (codings.CopyUid validity source target) m = refl
unmodified uid selected (codings.Modified uids) m = absurd m
unmodified uid selected codings.Closed m = refl
unmodified uid selected codings.Other m = refl

pub may_name : (command : Command) (selected : Option Mailbox) (code : Code) → MayCode selected code → NamesModified command code → ⊥
may_name command selected codings.None m n = n
may_name command selected (codings.Capability words) m n = n
may_name command selected (codings.UidNext next) m n = n
may_name command selected (codings.UidValidity validity) m n = n
may_name command selected (codings.PermanentFlags flags any) m n = n
may_name command selected (codings.HighestModSeq modseq) m n = n
may_name command selected codings.NoModSeq m n = n
may_name command selected codings.UidNotSticky m n = n
may_name command selected (codings.AppendUid validity other) m n = n
may_name command selected (codings.CopyUid validity source target) m n = n
may_name command selected (codings.Modified uids) m n = m
may_name command selected codings.Closed m n = n
may_name command selected codings.Other m n = n

-- a STORE's code that doesn't name its UID
pub store_name : (uid since : ℕ) (add : Bool) (flags : List (List ℕ)) (code : Code) → names_modified uid code ≡ false →
    NamesModified (commands.Store uid since add flags) code → ⊥
store_name uid since add flags codings.None f n = n
store_name uid since add flags (codings.Capability words) f n = n
store_name uid since add flags (codings.UidNext next) f n = n
store_name uid since add flags (codings.UidValidity validity) f n = n
store_name uid since add flags (codings.PermanentFlags others any) f n = n
store_name uid since add flags (codings.HighestModSeq modseq) f n = n
store_name uid since add flags codings.NoModSeq f n = n
store_name uid since add flags codings.UidNotSticky f n = n
store_name uid since add flags (codings.AppendUid validity other) f n = n
store_name uid since add flags (codings.CopyUid validity source target) f n = n
store_name uid since add flags (codings.Modified uids) f n =
    let is : uid ≡ n.0 = n.1 in
    let t : has_uid uids uid ≡ true = (has_uid-Decides uids uid).1 (subst (λ (u : ℕ). Member uids u) (sym is) n.2) in
    absurd (cc)
store_name uid since add flags codings.Closed f n = n
store_name uid since add flags codings.Other f n = n

-- the set of one UID names it
pub only_has : (uid : ℕ) → has_uid (only uid) uid ≡ true
only_has uid = (has_uid-Decides (only uid) uid).1 (inl (record { above = omega arith; below = omega arith }))

-- a remark's code is no COPYUID
uncopied : (selected : Option Mailbox) (code : Code) → MayCode selected code → copied_code code ≡ None
uncopied selected codings.None m = refl
uncopied selected (codings.Capability words) m = refl
uncopied selected (codings.UidNext next) m = refl
uncopied selected (codings.UidValidity validity) m = refl
uncopied selected (codings.PermanentFlags flags any) m = refl
uncopied selected (codings.HighestModSeq modseq) m = refl
uncopied selected codings.NoModSeq m = refl
uncopied selected codings.UidNotSticky m = refl
uncopied selected (codings.AppendUid validity other) m = refl
uncopied selected (codings.CopyUid validity source target) m = absurd m
uncopied selected (codings.Modified uids) m = refl
uncopied selected codings.Closed m = refl
uncopied selected codings.Other m = refl

uncopied_by : (selected : Option Mailbox) (ending : Ending) (code : Code) → MayCode selected code → copied_untagged ending code ≡ None
uncopied_by selected endings.Ok code m = uncopied selected code m
uncopied_by selected endings.No code m = refl
uncopied_by selected endings.Bad code m = refl

uncopied_in : (selected : Option Mailbox) (response : Response) → MaySay selected response → copied_in response ≡ None
uncopied_in selected (responses.Untagged ending code) m = uncopied_by selected ending code m
uncopied_in selected (responses.Done tag ending code) m = refl
uncopied_in selected responses.Bye m = refl
uncopied_in selected (responses.Preauth code) m = refl
uncopied_in selected responses.Go m = refl
uncopied_in selected (responses.Capability words) m = refl
uncopied_in selected (responses.Enabled words) m = refl
uncopied_in selected (responses.Exists count) m = refl
uncopied_in selected (responses.Fetch fetched) m = refl
uncopied_in selected (responses.Vanished earlier uids) m = refl
uncopied_in selected (responses.Found uids) m = refl
uncopied_in selected responses.Other m = refl

-- of a MOVE without effect no COPYUID is told
pub none_copied : (selected : Option Mailbox) (told : List Response) (code : Code) → Remarks selected told → MayCode selected code →
    last_copied told code ≡ None
none_copied selected [] code a m = uncopied selected code m
none_copied selected (response ∷ told) code a m =
    ap (λ (o : Option Code). option_or o (copied_in response)) (none_copied selected told code a.1 m) ∙ uncopied_in selected response a.0

-- none, or this one
abbrev OrThis : Code → Option Code → Type 0
OrThis copied o = (o ≡ None) ⊎ (o ≡ Some copied)

or_this : (copied : Code) (later now : Option Code) → OrThis copied later → OrThis copied now → OrThis copied (option_or later now)
or_this copied later now (inl e) n = subst (λ (o : Option Code). OrThis copied (option_or o now)) (sym e) n
or_this copied later now (inr e) n = subst (λ (o : Option Code). OrThis copied (option_or o now)) (sym e) (inr refl)

module _ (copied : Code) (is_copied : copied_code copied ≡ Some copied) (selected : Option Mailbox) where
  code_or : (code : Code) → MoveCode copied selected code → OrThis copied (copied_code code)
  code_or code (inl m) = inl (uncopied selected code m)
  code_or code (inr e) = inr (ap copied_code e ∙ is_copied)

  untagged_or : (ending : Ending) (code : Code) → MoveCode copied selected code → OrThis copied (copied_untagged ending code)
  untagged_or endings.Ok code m = code_or code m
  untagged_or endings.No code m = inl refl
  untagged_or endings.Bad code m = inl refl

  in_or : (response : Response) → MoveSays copied selected response → OrThis copied (copied_in response)
  in_or (responses.Untagged ending code) m = untagged_or ending code m
  in_or (responses.Done tag ending code) m = inl refl
  in_or responses.Bye m = inl refl
  in_or (responses.Preauth code) m = inl refl
  in_or responses.Go m = inl refl
  in_or (responses.Capability words) m = inl refl
  in_or (responses.Enabled words) m = inl refl
  in_or (responses.Exists count) m = inl refl
  in_or (responses.Fetch fetched) m = inl refl
  in_or (responses.Vanished earlier uids) m = inl refl
  in_or (responses.Found uids) m = inl refl
  in_or responses.Other m = inl refl

  last_or : (told : List Response) (code : Code) → AllByRecursion (MoveSays copied selected) told → MoveCode copied selected code →
      OrThis copied (last_copied told code)
  last_or [] code a m = code_or code m
  last_or (response ∷ told) code a m =
      or_this copied (last_copied told code) (copied_in response) (last_or told code a.1 m) (in_or response a.0)

  now_this : (later now : Option Code) → OrThis copied later → now ≡ Some copied → option_or later now ≡ Some copied
  now_this later now (inl e) n = ap (λ (o : Option Code). option_or o now) e ∙ n
  now_this later now (inr e) n = ap (λ (o : Option Code). option_or o now) e

  -- the COPYUID of a MOVE is the one that is read
  pub last_this : (told : List Response) (code : Code) → AllByRecursion (MoveSays copied selected) told → MoveCode copied selected code →
      CodeTold told code copied → last_copied told code ≡ Some copied
  last_this [] code a m (inl c) = absurd (in_none (responses.Untagged endings.Ok copied) c)
  last_this [] code a m (inr e) = ap copied_code e ∙ is_copied
  last_this (response ∷ told) code a m (inl c) =
      elim (first_or_behind response (responses.Untagged endings.Ok copied) told c) [
        | inl e ↦ now_this (last_copied told code) (copied_in response) (last_or told code a.1 m) (ap copied_in e ∙ is_copied)
        | inr l ↦ ap (λ (o : Option Code). option_or o (copied_in response)) (last_this told code a.1 m (inl l))
      ]
  last_this (response ∷ told) code a m (inr e) =
      ap (λ (o : Option Code). option_or o (copied_in response)) (last_this told code a.1 m (inr e))

one_is : (uid : ℕ) → one_of (only uid) ≡ Some uid
one_is uid = cond-true (eqb uid uid) (Some uid) None (eq-eqb uid uid refl)

-- such a COPYUID tells the place
pub copied_read : (uid validity received : ℕ) → read_copied uid (codings.CopyUid validity (only uid) (only received))
    ≡ Ok (findings.Ended (outcomes.Done (Some (record { validity = validity; uid = received }))))
copied_read uid validity received =
    ap (λ (o : Option ℕ). place_if (names_uid uid o) validity (one_of (only received))) (one_is uid)
    ∙ ap (λ (o : Option ℕ). place_if (eqb uid uid) validity o) (one_is received)
    ∙ ap (λ (t : Bool). place_if t validity (Some received)) (eq-eqb uid uid refl)

-- behind a STORE with effect the message is there
pub stored_there : (floor uid : ℕ) (flags : List (List ℕ)) (name : List ℕ) (old new : Server) →
    Rewrites (Sets floor uid flags) name old.boxes new.boxes →
    IsThere (Some name) uid new
stored_there floor uid flags name old new r = record {
  name = name;
  is_selected = refl;
  box = r.after;
  named = set_there floor uid flags name old.boxes new.boxes r;
  message = record r.becomes.message { flags = flags; modseq = r.becomes.modseq };
  there =
      let u : r.becomes.message.uid ≡ uid = message_at-uid uid r.before.messages r.becomes.message r.becomes.there in
      let put : message_at r.becomes.message.uid (put_message
      (record r.becomes.message { flags = flags; modseq = r.becomes.modseq }) r.before.messages)
      ≡ Some (record r.becomes.message { flags = flags; modseq = r.becomes.modseq }) =
      message_at-put_same (record r.becomes.message { flags = flags; modseq = r.becomes.modseq }) r.before.messages r.becomes.message
      (subst (λ (k : ℕ). message_at k r.before.messages ≡ Some r.becomes.message) (sym u) r.becomes.there) in
      ap (λ (x : Mailbox). message_at uid x.messages) r.becomes.becomes
      ∙ subst
      (λ (k : ℕ). message_at k (put_message (record r.becomes.message { flags = flags; modseq = r.becomes.modseq }) r.before.messages)
      ≡ Some (record r.becomes.message { flags = flags; modseq = r.becomes.modseq })) u put;
}
