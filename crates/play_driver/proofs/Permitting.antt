-- Where the flags of the action that is due can't be changed for good, a SELECT told so (RFC 9051, section 7.1, PERMANENTFLAGS).
use Rattle.action_queue.specs.Book.{Meaning}
use Rattle.action_queue.specs.Queues.{due_action}
use Rattle.action_queue.specs.declared.action.Action.{Action}
use Rattle.action_queue.specs.declared.queued.Queued.{Queued}
use Rattle.flag_set.specs.Flag.{is_keyword}
use Rattle.flag_set.specs.FlagSet.{has}
use Rattle.imap_model.proofs.Finding.{names_same}
use Rattle.imap_model.specs.declared.code.Code.{Code}
use Rattle.imap_model.specs.declared.replies.Replies.{Replies}
use Rattle.imap_model.specs.declared.response.Response.{Response}
use Rattle.imap_session.specs.Permanent.{behind, behind_all, behind_code, behind_untagged, keeps, permitted}
use Rattle.imap_session.specs.declared.permits.Permits.{Permits}
use Rattle.play_driver.specs.KnownAt.{IsPermitted}
use Rattle.play_driver.specs.Turning.{permits_action, permits_due}
use Rattle.playback.specs.Allowed.{LacksFlags, PermitsTruly}
use Rattle.playback.specs.Why.{Lacks, Permanent, TellsLack, last_permanent, permanent_in}
use Rattle.playback.specs.Worlds.{World, name_of}
use Rattle.qresync_core.proofs.Closing.{all_behind}
use Rattle.qresync_core.specs.Behind.{behind_closed, closed_len, is_closed, is_closed_code}
use Rattle.qresync_core.specs.ToldCodes.{codes_in}
use Rattle.std.proofs.Common.{Bool, List, None, Option, Some, [], ap, drop, false, refl, subst, suc, sym, true, ℕ, ◌∙◌, ◌∷◌, ◌≡◌}
use Rattle.std.proofs.Math.Bool.{or-true}
use Rattle.std.proofs.lemmas.Bool.{both_ways, cond-true, or_parts}
use Rattle.std.specs.List.{list_all, list_any}
use Rattle.std.specs.Option.{option_or}
use Rattle.std.specs.Prelude.{◌&&◌, ◌||◌}
use Rattle.std.specs.Str.{bytes_eq}
use Rattle.action_queue.specs.declared.action.Action.TheVariants as actions
use Rattle.imap_model.specs.declared.code.Code.TheVariants as codings
use Rattle.imap_model.specs.declared.response.Response.TheVariants as responses

-- PERMANENTFLAGS, as a reason says them
abbrev said : Option Permits → Option Permanent
said None = None
said (Some permits) = Some (record { flags = permits.flags; any = permits.any })

or_none : (o : Option Permanent) → option_or o None ≡ o
or_none None = refl
or_none (Some x) = refl

or_or : (a b c : Option Permanent) → option_or a (option_or b c) ≡ option_or (option_or a b) c
or_or None b c = refl
or_or (Some x) b c = refl

-- the code of the completion
last_said : (told : Option Permits) (code : Code) → said (behind_code told code) ≡ option_or (permanent_in code) (said told)
last_said told codings.None = refl
last_said told (codings.Capability words) = refl
last_said told (codings.UidNext uid) = refl
last_said told (codings.UidValidity validity) = refl
last_said told (codings.PermanentFlags flags any) = refl
last_said told (codings.HighestModSeq modseq) = refl
last_said told codings.NoModSeq = refl
last_said told codings.UidNotSticky = refl
last_said told (codings.AppendUid validity uid) = refl
last_said told (codings.CopyUid validity source target) = refl
last_said told (codings.Modified uids) = refl
last_said told codings.Closed = refl
last_said told codings.Other = refl

-- the code of an untagged OK, NO or BAD, but for CLOSED
untagged_said : (told : Option Permits) (code : Code) → is_closed_code code ≡ false →
    said (behind_untagged told code) ≡ option_or (permanent_in code) (said told)
untagged_said told codings.None e = refl
untagged_said told (codings.Capability words) e = refl
untagged_said told (codings.UidNext uid) e = refl
untagged_said told (codings.UidValidity validity) e = refl
untagged_said told (codings.PermanentFlags flags any) e = refl
untagged_said told (codings.HighestModSeq modseq) e = refl
untagged_said told codings.NoModSeq e = refl
untagged_said told codings.UidNotSticky e = refl
untagged_said told (codings.AppendUid validity uid) e = refl
untagged_said told (codings.CopyUid validity source target) e = refl
untagged_said told (codings.Modified uids) e = refl
untagged_said told codings.Closed e = absurd cc
untagged_said told codings.Other e = refl

-- behind CLOSED nothing was told
closed_code : (told : Option Permits) (code : Code) → is_closed_code code ≡ true → behind_untagged told code ≡ None
closed_code told codings.None e = absurd cc
closed_code told (codings.Capability words) e = absurd cc
closed_code told (codings.UidNext uid) e = absurd cc
closed_code told (codings.UidValidity validity) e = absurd cc
closed_code told (codings.PermanentFlags flags any) e = absurd cc
closed_code told (codings.HighestModSeq modseq) e = absurd cc
closed_code told codings.NoModSeq e = absurd cc
closed_code told codings.UidNotSticky e = absurd cc
closed_code told (codings.AppendUid validity uid) e = absurd cc
closed_code told (codings.CopyUid validity source target) e = absurd cc
closed_code told (codings.Modified uids) e = absurd cc
closed_code told codings.Closed e = refl
closed_code told codings.Other e = absurd cc

closed_anew : (told : Option Permits) (r : Response) → is_closed r ≡ true → behind told r ≡ None
closed_anew told (responses.Done tag ending code) e = absurd cc
closed_anew told (responses.Untagged ending code) e = closed_code told code e
closed_anew told responses.Bye e = absurd cc
closed_anew told (responses.Preauth code) e = absurd cc
closed_anew told responses.Go e = absurd cc
closed_anew told (responses.Capability words) e = absurd cc
closed_anew told (responses.Enabled words) e = absurd cc
closed_anew told (responses.Exists count) e = absurd cc
closed_anew told (responses.Fetch fetched) e = absurd cc
closed_anew told (responses.Vanished earlier uids) e = absurd cc
closed_anew told (responses.Found uids) e = absurd cc
closed_anew told responses.Other e = absurd cc

first_is : (a b : Bool) → (a || b) ≡ true → b ≡ false → a ≡ true
first_is true b e f = refl
first_is false b e f = absurd cc

module _ (code : Code) where
  abbrev Last : List Response → Option Permanent
  Last rs = last_permanent (codes_in rs code)

  -- what counts behind these and the completion, where so much was told before
  abbrev Behind : Option Permits → List Response → Option Permanent
  Behind told rs = said (behind_code (behind_all told rs) code)

  open_one : (told : Option Permits) (r : Response) (rs : List Response) → is_closed r ≡ false →
      Behind told (r ∷ rs) ≡ option_or (Last rs) (said (behind told r)) → Behind told (r ∷ rs) ≡ option_or (Last (r ∷ rs)) (said told)
  open_one told (responses.Done tag ending inner) rs e h = h
  open_one told (responses.Untagged ending inner) rs e h =
      h ∙ ap (λ (o : Option Permanent). option_or (Last rs) o) (untagged_said told inner e) ∙ or_or (Last rs) (permanent_in inner) (said told)
  open_one told responses.Bye rs e h = h
  open_one told (responses.Preauth inner) rs e h = h
  open_one told responses.Go rs e h = h
  open_one told (responses.Capability words) rs e h = h
  open_one told (responses.Enabled words) rs e h = h
  open_one told (responses.Exists count) rs e h = h
  open_one told (responses.Fetch fetched) rs e h = h
  open_one told (responses.Vanished earlier uids) rs e h = h
  open_one told (responses.Found uids) rs e h = h
  open_one told responses.Other rs e h = h

  -- without CLOSED
  open_all : (told : Option Permits) (rs : List Response) → list_any is_closed rs ≡ false → Behind told rs ≡ option_or (Last rs) (said told)
  open_all told [] e = last_said told code
  open_all told (r ∷ rs) e =
      let parts = or_parts (is_closed r) (list_any is_closed rs) e in
      open_one told r rs parts.0 (open_all (behind told r) rs parts.1)

  -- the last CLOSED is this response, or one behind it
  closed_one : (told : Option Permits) (r : Response) (rs : List Response) → list_any is_closed (r ∷ rs) ≡ true →
      (list_any is_closed rs ≡ true → Behind (behind told r) rs ≡ Last (behind_closed rs)) →
      (t : Bool) → list_any is_closed rs ≡ t → Behind (behind told r) rs ≡ Last (behind_closed rs)
  closed_one told r rs e later true is = later is
  closed_one told r rs e later false is =
      let closed = first_is (is_closed r) (list_any is_closed rs) e is in
      open_all (behind told r) rs is ∙ ap (λ (p : Option Permits). option_or (Last rs) (said p)) (closed_anew told r closed)
      ∙ or_none (Last rs) ∙ ap Last (sym (all_behind rs is))

  closed_all : (told : Option Permits) (rs : List Response) → list_any is_closed rs ≡ true → Behind told rs ≡ Last (behind_closed rs)
  closed_all told [] e = absurd cc
  closed_all told (r ∷ rs) e =
      closed_one told r rs e (closed_all (behind told r) rs) (list_any is_closed rs) refl
      ∙ sym (ap (λ (n : ℕ). Last (drop n (r ∷ rs))) (cond-true (list_any is_closed (r ∷ rs)) (suc (closed_len rs)) 0 e))

  at_first : (rs : List Response) (t : Bool) → list_any is_closed rs ≡ t → Behind None rs ≡ Last (behind_closed rs)
  at_first rs true is = closed_all None rs is
  at_first rs false is = open_all None rs is ∙ or_none (Last rs) ∙ ap Last (sym (all_behind rs is))

-- what counts of a reply to SELECT
permitted_said : (r : Replies) → said (permitted None r) ≡ last_permanent (codes_in (behind_closed r.untagged) r.code)
permitted_said r = at_first r.code r.untagged (list_any is_closed r.untagged) refl

-- one of these flags isn't kept
module _ (permits : Option Permits) where
  record NotKept (asked : List (List ℕ)) : Type 0 where
    pub key : List ℕ
    pub is_asked : has asked key ≡ true
    pub lost : keeps permits key ≡ false

  lost_here : (key : List ℕ) (keys : List (List ℕ)) → list_all (keeps permits) (key ∷ keys) ≡ false →
      (list_all (keeps permits) keys ≡ false → NotKept keys) → (t : Bool) → keeps permits key ≡ t → NotKept (key ∷ keys)
  lost_here key keys e later true is =
      let k = later (sym (ap (λ (t : Bool). t && list_all (keeps permits) keys) is) ∙ e) in
      record {
        key = k.key;
        is_asked = ap (λ (t : Bool). bytes_eq k.key key || t) k.is_asked ∙ or-true (bytes_eq k.key key);
        lost = k.lost;
      }
  lost_here key keys e later false is = record {
    key = key;
    is_asked = ap (λ (t : Bool). t || has keys key) (names_same key key refl);
    lost = is;
  }

  not_kept : (keys : List (List ℕ)) → list_all (keeps permits) keys ≡ false → NotKept keys
  not_kept [] e = absurd cc
  not_kept (key ∷ keys) e = lost_here key keys e (not_kept keys) (keeps permits key) refl

first_not : (a b : Bool) → (a && b) ≡ false → b ≡ true → a ≡ false
first_not true b e f = absurd (both_ways b e f)
first_not false b e f = refl

lacks_key : (permits : Permits) (asked : List (List ℕ)) → NotKept (Some permits) asked → Lacks asked permits.flags permits.any
lacks_key permits asked k =
    let parts = or_parts (has permits.flags k.key) (permits.any && is_keyword k.key) k.lost in
    record { key = k.key; is_asked = k.is_asked; lacks = parts.0; no_star = λ word. first_not permits.any (is_keyword k.key) parts.1 word }

tells_lack : (permits : Option Permits) (asked : List (List ℕ)) (r : Replies) → list_all (keeps permits) asked ≡ false →
    permits ≡ permitted None r → TellsLack asked r
tells_lack None asked r e is = absurd (both_ways true (not_kept None asked e).lost refl)
tells_lack (Some permits) asked r e is = (
  record { flags = permits.flags; any = permits.any },
  sym (permitted_said r) ∙ ap said (sym is),
  lacks_key permits asked (not_kept (Some permits) asked e),
)

lacks_flags : (permits : Option Permits) (w : World) (name : List ℕ) (action : Action) → name_of w.selected ≡ Some name →
    IsPermitted permits w → permits_action permits action ≡ false → LacksFlags w action
lacks_flags permits w name (actions.Flag target add asked) at told e =
    let s = told name at in
    (name, at, (s.0, s.1, (s.2.0, tells_lack permits asked s.0.reply e s.2.1)))
lacks_flags permits w name (actions.Move target to) at told e = tt
lacks_flags permits w name (actions.Append to flags text id) at told e = tt

-- whether the flags of the action that is due can be changed for good is what a SELECT told
pub fair_permits : (permits : Option Permits) (b : Meaning) (w : World) (name : List ℕ) → name_of w.selected ≡ Some name →
    IsPermitted permits w → PermitsTruly (permits_due permits (due_action b.queue)) b w
fair_permits permits b w name at told = λ e q is.
    lacks_flags permits w name q.action at told (subst (λ (o : Option Queued). permits_due permits o ≡ false) is e)
