-- A fresh cache and a true delta give the mailbox's rows, and a fresh cache.
use Rattle.std.proofs.Common.{◌≡◌, ◌⊎◌, inl, inr, ℕ, ◌<◌, ◌≤◌, Bool, true, false, eqb, ◌&&◌}
use Rattle.std.proofs.Common.{List, [], ◌∷◌, length, Option, Some, None, refl, sym, ◌∙◌, ap, subst, arith}
use Rattle.std.specs.Prelude.{is_none, Ok, Result}
use Rattle.std.specs.List.{AllByRecursion, list_any}
use Rattle.std.specs.Option.{option_map}
use Rattle.std.proofs.lemmas.Bool.{cases_lt, cond-true, eq-eqb, eqb-true}
use Rattle.mailbox_cache.proofs.Lookups.{known_after}
use Rattle.mailbox_cache.specs.Cache.{first, applied}
use Rattle.mailbox_cache.specs.Rows.{row_at, has_uid, told}
use Rattle.mailbox_cache.specs.declared.cache.Cache.{Cache}
use Rattle.mailbox_cache.specs.declared.delta.Delta.{Delta}
use Rattle.mailbox_cache.specs.declared.row.Row.{Row}
use Rattle.imap_model.specs.CarriedOut.{EachRow}
use Rattle.imap_model.specs.Evolving.{IsAbove, GoesOn, RowStep}
use Rattle.imap_model.specs.Lookups.{message_at, gone_at}
use Rattle.imap_model.specs.SelectTells.{ToldSince}
use Rattle.imap_model.specs.WellFormed.{IsWellFormedBox}
use Rattle.imap_model.specs.declared.mark.Mark.{Mark}
use Rattle.imap_model.specs.declared.replies.Replies.{Replies}
use Rattle.imap_model.specs.declared.response.Response.{Response}
use Rattle.imap_model.specs.declared.response.Response.TheVariants as responses
use Rattle.imap_model.specs.declared.server.Mailbox.{Mailbox}
use Rattle.imap_model.specs.declared.server.Message.{Message}
use Rattle.qresync_core.proofs.Judging.{no_fault}
use Rattle.qresync_core.proofs.Lawful.{IsTrueOf, either_true, told_there, message_told, told_absent, gone_is_told}
use Rattle.qresync_core.proofs.Replying.{Selecting, selecting, Fetching, fetching, said, said_true}
use Rattle.qresync_core.proofs.Replying.{said_behind, codes_true, select_whole, fetched_true, fetched_behind, fetch_whole, kept_goes_on}
use Rattle.qresync_core.specs.Behind.{behind_closed}
use Rattle.qresync_core.specs.Fresh.{FreshFacts, IsFresh, kept_row, server_row}
use Rattle.qresync_core.specs.Laws.{AnswersSelect, AnswersFetch, Mirrors, Levels, codes_of_box}
use Rattle.qresync_core.specs.Marking.{mark_of}
use Rattle.qresync_core.specs.Resync.{judged, TellsDelta, is_told_empty}
use Rattle.qresync_core.specs.ToldCodes.{told_codes}
use Rattle.qresync_core.specs.ToldGone.{is_told_gone, tells_empty}
use Rattle.qresync_core.specs.ReadRows.{rows_in, last_row}
use Rattle.qresync_core.specs.declared.codes.Codes.{Codes}
use Rattle.qresync_core.specs.declared.fault.CodeFault.{CodeFault}

-- a cache with the mailbox's rows is fresh
mirrored : (cache : Cache) (b : Mailbox) → cache.validity ≡ b.validity → cache.highest ≤ b.highest → ((uid : ℕ) → row_at uid cache.rows ≡ server_row uid b) →
    Mirrors cache b
mirrored cache b v h rows = record {
  rows = rows;
  fresh = record {
    validity = v;
    facts = record {
      highest = h;
      rows = λ uid m e l. rows uid ∙ ap (option_map kept_row) e;
      gone = λ uid row r e. let none : None ≡ Some row = sym (ap (option_map kept_row) e) ∙ sym (rows uid) ∙ r in absurd (cc);
    };
  };
}

module _ (cache : Cache) (b : Mailbox) (lines : List Response) (fresh : FreshFacts cache b) (all : AllByRecursion (IsTrueOf b) lines)
    (since : ToldSince cache.highest b lines) where
  old_row : (uid : ℕ) (m : Message) → message_at uid b.messages ≡ Some m → last_row uid (rows_in lines) ≡ None →
      (cache.highest < m.modseq) ⊎ (m.modseq ≤ cache.highest) → row_at uid cache.rows ≡ Some (kept_row m)
  old_row uid m e n (inl above) = let some = message_told b lines all uid m e (since.rows uid m e above) None n in absurd (cc)
  old_row uid m e n (inr kept) = fresh.rows uid m e kept

  -- what is known of a UID, by what was told, what was kept and what is there
  level : (uid : ℕ) (o : Option Row) (v : Bool) (c : Option Row) (m : Option Message) (g : Option ℕ) → last_row uid (rows_in lines) ≡ o →
      is_told_gone lines uid ≡ v → row_at uid cache.rows ≡ c → message_at uid b.messages ≡ m → gone_at uid b.gone ≡ g →
      told o (v && is_none o) c ≡ option_map kept_row m
  level uid (Some row) v c m g eo ev ec em eg = sym (told_there b lines all uid row eo) ∙ ap (option_map kept_row) em
  level uid None true c (Some m) g eo ev ec em eg = let none = told_absent b uid lines all ev in absurd (cc)
  level uid None true c None g eo ev ec em eg = refl
  level uid None false c (Some m) g eo ev ec em eg = sym ec ∙ old_row uid m em eo (cases_lt cache.highest m.modseq)
  level uid None false None None g eo ev ec em eg = refl
  level uid None false (Some row) None None eo ev ec em eg = absurd (subst (IsAbove cache.highest) eg (fresh.gone uid row ec em))
  level uid None false (Some row) None (Some k) eo ev ec em eg =
      let went = gone_is_told uid lines (since.gone uid k eg (subst (IsAbove cache.highest) eg (fresh.gone uid row ec em))) in absurd (cc)

  leveled : (delta : Delta) → ((uid : ℕ) → row_at uid delta.rows ≡ last_row uid (rows_in lines)) →
      ((uid : ℕ) → has_uid delta.vanished uid ≡ (is_told_gone lines uid && is_none (last_row uid (rows_in lines)))) →
      (uid : ℕ) → row_at uid (applied cache delta).rows ≡ server_row uid b
  leveled delta rows gone uid =
      known_after delta.vanished delta.rows cache.rows uid
      ∙ ap (λ (o : Option Row). told o (has_uid delta.vanished uid) (row_at uid cache.rows)) (rows uid)
      ∙ ap (λ (v : Bool). told (last_row uid (rows_in lines)) v (row_at uid cache.rows)) (gone uid)
      ∙ level uid (last_row uid (rows_in lines)) (is_told_gone lines uid) (row_at uid cache.rows) (message_at uid b.messages) (gone_at uid b.gone)
      refl refl refl refl refl

same_codes : (x y : Codes) (r : Result Codes CodeFault) → r ≡ Ok x → r ≡ Ok y → x ≡ y
same_codes x y r p q = cc

module _ (name : List ℕ) (cache : Cache) (b : Mailbox) (r : Replies) (a : AnswersSelect name (Some (mark_of cache)) b r)
    (v : cache.validity ≡ b.validity) (fresh : FreshFacts cache b) where
  abbrev q : Selecting (Some (mark_of cache)) b r
  q = selecting name (Some (mark_of cache)) b r a

  abbrev lines_said : List Response
  lines_said = said (Some (mark_of cache)) b r q

  behind_said : behind_closed r.untagged ≡ lines_said
  behind_said = said_behind (Some (mark_of cache)) b r q

  pub kept_judged : judged (Some cache) r None ≡ Ok (codes_of_box b)
  kept_judged =
      no_fault (Some cache) r None (codes_of_box b) (codes_true (Some (mark_of cache)) b r q) (kept_goes_on cache b v fresh.highest)
      (select_whole (Some (mark_of cache)) b r q)

  pub kept_levels : (delta : Delta) → TellsDelta (Some cache) r None delta → Levels cache delta b
  kept_levels delta t =
      let codes : t.codes ≡ codes_of_box b = same_codes t.codes (codes_of_box b) (told_codes r) t.told (codes_true (Some (mark_of cache)) b r q) in
      let validity : delta.validity ≡ b.validity = t.validity ∙ ap (λ (c : Codes). c.validity) codes in
      let highest : delta.highest ≡ b.highest = t.highest ∙ ap (λ (c : Codes). c.highest) codes in
      let below : cache.highest ≤ b.highest = fresh.highest in
      let rows : (uid : ℕ) → row_at uid delta.rows ≡ last_row uid (rows_in lines_said) =
      λ uid. t.rows uid ∙ ap (λ (l : List Response). last_row uid (rows_in l)) behind_said in
      let gone : (uid : ℕ) → has_uid delta.vanished uid ≡ (is_told_gone lines_said uid && is_none (last_row uid (rows_in lines_said))) =
      λ uid. t.vanished uid ∙ ap (λ (l : List Response). is_told_gone l uid && is_none (last_row uid (rows_in l))) behind_said in
      record {
        fits = (t.whole, validity ∙ sym v, omega (arith, highest, below));
        mirrors = mirrored (applied cache delta) b validity (omega (arith, highest))
            (leveled cache b lines_said fresh (said_true (Some (mark_of cache)) b r q) (q.tells.since_mark v) delta rows gone);
      }

-- the rows of a reply that tells each message
all_rows : (b : Mailbox) (lines : List Response) → AllByRecursion (IsTrueOf b) lines → EachRow b lines → (uid : ℕ) (o : Option Row) (m : Option Message) →
    last_row uid (rows_in lines) ≡ o → message_at uid b.messages ≡ m → o ≡ option_map kept_row m
all_rows b lines all each uid (Some row) m eo em = sym (told_there b lines all uid row eo) ∙ ap (option_map kept_row) em
all_rows b lines all each uid None (Some m) eo em = message_told b lines all uid m em (each uid m em) None eo
all_rows b lines all each uid None None eo em = refl

module _ (name : List ℕ) (since : Option Mark) (b later : Mailbox) (r f : Replies) (a : AnswersSelect name since b r) (g : AnswersFetch name later f) where
  abbrev p : Selecting since b r
  p = selecting name since b r a

  abbrev rows_read : Fetching later f
  rows_read = fetching name later f g

  pub first_judged : judged None r (Some f) ≡ Ok (codes_of_box b)
  first_judged = no_fault None r (Some f) (codes_of_box b) (codes_true since b r p) refl (fetch_whole later f rows_read)

  pub first_mirrors : later.validity ≡ b.validity → b.highest ≤ later.highest → (delta : Delta) → TellsDelta None r (Some f) delta → Mirrors (first delta) later
  first_mirrors v h delta t =
      let codes : t.codes ≡ codes_of_box b = same_codes t.codes (codes_of_box b) (told_codes r) t.told (codes_true since b r p) in
      let validity : delta.validity ≡ b.validity = t.validity ∙ ap (λ (c : Codes). c.validity) codes in
      let highest : delta.highest ≡ b.highest = t.highest ∙ ap (λ (c : Codes). c.highest) codes in
      mirrored (first delta) later (validity ∙ sym v) (omega (arith, highest, h))
      (λ uid. t.rows uid ∙ ap (λ (l : List Response). last_row uid (rows_in l)) (fetched_behind later f rows_read)
      ∙ all_rows later f.untagged (fetched_true later f rows_read) rows_read.each uid
      (last_row uid (rows_in f.untagged)) (message_at uid later.messages) refl refl)

-- EXISTS 0 is told of a mailbox without messages alone
empty_one : (b : Mailbox) (r : Response) → IsTrueOf b r → tells_empty r ≡ true → length b.messages ≡ 0
empty_one b (responses.Done tag ending code) t e = absurd (cc)
empty_one b (responses.Untagged ending code) t e = absurd (cc)
empty_one b responses.Bye t e = absurd (cc)
empty_one b (responses.Preauth code) t e = absurd (cc)
empty_one b responses.Go t e = absurd (cc)
empty_one b (responses.Capability words) t e = absurd (cc)
empty_one b (responses.Enabled words) t e = absurd (cc)
empty_one b (responses.Exists count) t e = sym t ∙ eqb-true count 0 e
empty_one b (responses.Fetch fetched) t e = absurd (cc)
empty_one b (responses.Vanished earlier uids) t e = absurd (cc)
empty_one b (responses.Found uids) t e = absurd (cc)
empty_one b responses.Other t e = absurd (cc)

empty_box : (b : Mailbox) (lines : List Response) → AllByRecursion (IsTrueOf b) lines → list_any tells_empty lines ≡ true → length b.messages ≡ 0
empty_box b [] all e = absurd (cc)
empty_box b (x ∷ xs) all e =
    elim (either_true (tells_empty x) (list_any tells_empty xs) e) [ inl here ↦ empty_one b x all.0 here | inr more ↦ empty_box b xs all.1 more ]

nothing_there : (uid : ℕ) (ms : List Message) → length ms ≡ 0 → message_at uid ms ≡ None
nothing_there uid [] e = refl
nothing_there uid (m ∷ ms) e = absurd (omega (arith, e))

no_row : (b : Mailbox) (lines : List Response) → AllByRecursion (IsTrueOf b) lines → length b.messages ≡ 0 → (uid : ℕ) (o : Option Row) →
    last_row uid (rows_in lines) ≡ o → o ≡ None
no_row b lines all n uid None e = refl
no_row b lines all n uid (Some row) e =
    let there = sym (ap (option_map kept_row) (nothing_there uid b.messages n)) ∙ told_there b lines all uid row e in absurd (cc)

no_rows : (rows : List (ℕ × Row)) → ((uid : ℕ) → row_at uid rows ≡ None) → rows ≡ []
no_rows [] f = refl
no_rows (r ∷ rs) f = let some = cond-true (eqb r.0 r.0) (Some r.1) (row_at r.0 rs) (eq-eqb r.0 r.0 refl) in let none = f r.0 in absurd (cc)

module _ (name : List ℕ) (since : Option Mark) (b : Mailbox) (r : Replies) (a : AnswersSelect name since b r) (empty : is_told_empty r ≡ true) where
  abbrev e : Selecting since b r
  e = selecting name since b r a

  abbrev heard : List Response
  heard = said since b r e

  pub empty_judged : judged None r None ≡ Ok (codes_of_box b)
  empty_judged = no_fault None r None (codes_of_box b) (codes_true since b r e) refl (select_whole since b r e)

  no_messages : length b.messages ≡ 0
  no_messages =
      empty_box b heard (said_true since b r e) (sym (ap (list_any tells_empty) (said_behind since b r e)) ∙ empty)

  pub empty_mirrors : (delta : Delta) → TellsDelta None r None delta → (delta.rows ≡ []) × Mirrors (first delta) b
  empty_mirrors delta t =
      let codes : t.codes ≡ codes_of_box b = same_codes t.codes (codes_of_box b) (told_codes r) t.told (codes_true since b r e) in
      let validity : delta.validity ≡ b.validity = t.validity ∙ ap (λ (c : Codes). c.validity) codes in
      let highest : delta.highest ≡ b.highest = t.highest ∙ ap (λ (c : Codes). c.highest) codes in
      let none : (uid : ℕ) → row_at uid delta.rows ≡ None =
      λ uid. t.rows uid ∙ ap (λ (l : List Response). last_row uid (rows_in l)) (said_behind since b r e)
      ∙ no_row b heard (said_true since b r e) no_messages uid (last_row uid (rows_in heard)) refl in (
        no_rows delta.rows none,
        mirrored (first delta) b validity (omega (arith, highest))
            (λ uid. none uid ∙ sym (ap (option_map kept_row) (nothing_there uid b.messages no_messages))),
      )

-- Where nothing is above the mark, the cache has the mailbox's rows.
level_already : (cache : Cache) (b : Mailbox) → IsWellFormedBox b → FreshFacts cache b →
    b.highest ≡ cache.highest → (uid : ℕ) (c : Option Row) (m : Option Message)
    (g : Option ℕ) → row_at uid cache.rows ≡ c → message_at uid b.messages ≡ m → gone_at uid b.gone ≡ g → c ≡ option_map kept_row m
level_already cache b well fresh h uid c (Some m) g ec em eg =
    let most : m.modseq ≤ b.highest = well.numbered uid m em in sym ec ∙ fresh.rows uid m em (omega (arith, most, h))
level_already cache b well fresh h uid None None g ec em eg = refl
level_already cache b well fresh h uid (Some row) None None ec em eg = absurd (subst (IsAbove cache.highest) eg (fresh.gone uid row ec em))
level_already cache b well fresh h uid (Some row) None (Some k) ec em eg =
    let most : k ≤ b.highest = well.gone_numbered uid k eg in
    let least : cache.highest < k = subst (IsAbove cache.highest) eg (fresh.gone uid row ec em) in
    absurd (omega (arith, most, least, h))

pub unchanged : (name : List ℕ) (cache : Cache) (b : Mailbox) (r : Replies) (delta : Delta) →
    AnswersSelect name (Some (mark_of cache)) b r → IsWellFormedBox b →
    cache.validity ≡ b.validity → FreshFacts cache b → b.highest ≡ cache.highest → TellsDelta (Some cache) r None delta →
    (delta.highest ≡ cache.highest) × ((uid : ℕ) → row_at uid (applied cache delta).rows ≡ row_at uid cache.rows)
unchanged name cache b r delta a well v fresh h t =
    let codes : t.codes ≡ codes_of_box b =
    same_codes t.codes (codes_of_box b) (told_codes r) t.told
    (codes_true (Some (mark_of cache)) b r (selecting name (Some (mark_of cache)) b r a)) in (
      t.highest ∙ ap (λ (c : Codes). c.highest) codes ∙ h,
      λ uid. (kept_levels name cache b r a v fresh delta t).mirrors.rows uid
          ∙ sym (level_already cache b well fresh h uid (row_at uid cache.rows) (message_at uid b.messages) (gone_at uid b.gone) refl refl refl),
    )

-- what becomes of a row that the cache knows
row_goes_on : (mark floor uidnext uid : ℕ) (went : Option ℕ) (old : Option Message) (m : Message) → mark ≤ floor → m.modseq ≤ mark →
    RowStep floor uidnext uid went old (Some m) → old ≡ Some m
row_goes_on mark floor uidnext uid went None m l k s = absurd (let above : floor < m.modseq = s.1 in omega (arith, above, l, k))
row_goes_on mark floor uidnext uid went (Some old) m l k s =
    elim s.1 [ inl same ↦ ap Some (sym same) | inr above ↦ absurd (omega (arith, above, l, k)) ]

lower : (low high : ℕ) (went : Option ℕ) → low ≤ high → IsAbove high went → IsAbove low went
lower low high None l a = a
lower low high (Some k) l a = omega (arith, l, a)

stays : (floor : ℕ) (o p : Option ℕ) → ((k : ℕ) → o ≡ Some k → p ≡ Some k) → IsAbove floor o → IsAbove floor p
stays floor None p s a = absurd a
stays floor (Some k) p s a = subst (λ (q : Option ℕ). IsAbove floor q) (sym (s k refl)) a

module _ (cache : Cache) (b later : Mailbox) (fresh : FreshFacts cache b) (goes : GoesOn b.highest b later) where
  gone_later : (uid : ℕ) (row : Row) → row_at uid cache.rows ≡ Some row → message_at uid later.messages ≡ None → (old : Option Message) →
      message_at uid b.messages ≡ old → IsAbove cache.highest (gone_at uid later.gone)
  gone_later uid row r n None eo = stays cache.highest (gone_at uid b.gone) (gone_at uid later.gone) (goes.gone uid) (fresh.gone uid row r eo)
  gone_later uid row r n (Some m) eo =
      let step : RowStep b.highest b.uidnext uid (gone_at uid later.gone) (Some m) None =
      subst (λ (o : Option Message). RowStep b.highest b.uidnext uid (gone_at uid later.gone) o None) eo
      (subst (λ (o : Option Message). RowStep b.highest b.uidnext uid (gone_at uid later.gone) (message_at uid b.messages) o) n (goes.rows uid)) in
      lower cache.highest b.highest (gone_at uid later.gone) fresh.highest step

  pub facts_later : FreshFacts cache later
  facts_later = record {
    highest = let low : cache.highest ≤ b.highest = fresh.highest in let high : b.highest ≤ later.highest = goes.highest in omega (arith, low, high);
    rows = λ uid m e l.
        fresh.rows uid m
        (row_goes_on cache.highest b.highest b.uidnext uid (gone_at uid later.gone) (message_at uid b.messages) m fresh.highest l
        (subst (λ (o : Option Message). RowStep b.highest b.uidnext uid (gone_at uid later.gone) (message_at uid b.messages) o) e (goes.rows uid)))
        l;
    gone = λ uid row r n. gone_later uid row r n (message_at uid b.messages) refl;
  }

pub fresh_later : (cache : Cache) (b later : Mailbox) → IsFresh cache b → later.validity ≡ b.validity → GoesOn b.highest b later → IsFresh cache later
fresh_later cache b later fresh v goes = record { validity = fresh.validity ∙ sym v; facts = facts_later cache b later fresh.facts goes }
