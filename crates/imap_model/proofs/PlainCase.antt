-- The plain server's turn is a case of the table of commands.
use Rattle.std.proofs.Common.{◌≡◌, ◌⊎◌, inl, inr, ℕ, ◌<◌, ◌≤◌, Bool, true, false, not, ◌&&◌, eqb, List, [], ◌∷◌, ◌++◌, Option, Some, None}
use Rattle.std.proofs.Common.{refl, sym, ◌∙◌, ap, subst, arith, length}
use Rattle.std.specs.Prelude.{Contains, IsTrue, nat_le, nat_lt, is_some, map, filter, codes}
use Rattle.std.specs.List.{AllByRecursion, list_any}
use Rattle.std.proofs.lemmas.Bool.{cond_both, and_parts, and_from, or_cases, or_left, or_right, ltb-true, ltb-false, leb-true, le-leb}
use Rattle.std.proofs.lemmas.Bool.{lt-ltb, eqb-true, eq-eqb, cond-true}
use Rattle.std.proofs.lemmas.Option.{same_Some}
use Rattle.flag_set.specs.FlagSet.{has}
use Rattle.flag_set.proofs.Members.{has-union, has-filter}
use Rattle.mail_base.specs.declared.tag.Tag.{Tag}
use Rattle.uid_sets.specs.Uid.{IsWithin}
use Rattle.uid_sets.specs.UidSet.{Member}
use Rattle.uid_sets.specs.declared.uid.UidRange.{UidRange}
use Rattle.imap_model.specs.Carrying.{IsChanged, IsThere, IsDeleted, deleted}
use Rattle.imap_model.specs.CarriedOut.{CarriesOut, Fulfils, Refuses, only, is_asked, Asks, RowsSay, EachRow, OneRow, IsFoundTrue}
use Rattle.imap_model.specs.CarriedOut.{SearchSays, EachFound, IdsSay, EachIds, TextSays, TextTold, OneText}
use Rattle.imap_model.specs.Changes.{Changes, floor_of}
use Rattle.imap_model.specs.Lawful.{broken_rule}
use Rattle.imap_model.specs.Lookups.{box_at, message_at, gone_at, without_message, validity_of}
use Rattle.imap_model.specs.PlainChanges.{with_change}
use Rattle.imap_model.specs.PlainServer as plain
use Rattle.imap_model.specs.PlainServer.{Choices, Turn}
use Rattle.imap_model.specs.Remarks.{selected_box, AreAbsent, MayCode, MaySay, Remarks, RowTold}
use Rattle.imap_model.specs.Searching.{in_tail, has_in_id_caseless}
use Rattle.imap_model.specs.SelectTells.{SelectTells, SelectSays, ToldSince, MarkTells, GoneTold, Parted}
use Rattle.imap_model.specs.ToldRows.{told_flags, row_of, ids_of, TellsIds, text_of, TellsText}
use Rattle.imap_model.specs.UidLists.{set_of}
use Rattle.imap_model.specs.WellFormed.{IsWellFormedBox, IsWellFormed}
use Rattle.imap_model.specs.declared.code.Code.{Code}
use Rattle.imap_model.specs.declared.code.Code.TheVariants as codings
use Rattle.imap_model.specs.declared.command.Command.{Command}
use Rattle.imap_model.specs.declared.command.Command.TheVariants as commands
use Rattle.imap_model.specs.declared.deed.Author.TheVariants.{Ours}
use Rattle.imap_model.specs.declared.deed.Change.{Change}
use Rattle.imap_model.specs.declared.deed.Change.TheVariants as changes
use Rattle.imap_model.specs.declared.mark.Mark.{Mark}
use Rattle.imap_model.specs.declared.replies.Replies.{Replies}
use Rattle.imap_model.specs.declared.response.Response.{Response}
use Rattle.imap_model.specs.declared.response.Response.TheVariants as responses
use Rattle.imap_model.specs.declared.server.Gone.{Gone}
use Rattle.imap_model.specs.declared.server.Message.{Message}
use Rattle.imap_model.specs.declared.server.Mailbox.{Mailbox}
use Rattle.imap_model.specs.declared.server.Server.{Server}
use Rattle.imap_model.proofs.Caseless.{found_caseless}
use Rattle.imap_model.proofs.Effects.{left_there, dropped_there}
use Rattle.imap_model.proofs.Finding.{message_at-uid, message_at-without}
use Rattle.imap_model.proofs.Possible.{plain_changes}
use Rattle.imap_model.proofs.Remarking.{here, behind, all_append, each_there, all_told, is_told}
use Rattle.imap_model.proofs.SetOf.{Among, into_among, into_set, from_set}

-- the turn carries the command out
abbrev pub IsCase : Option (List ℕ) → Tag → Command → Server → Turn → Type 0
IsCase selected tag command s turn = CarriesOut (record { selected = selected; tag = tag; command = command }) s turn.replies turn.server turn.selected

-- the rows of messages that are there are true
row_told : (b : Mailbox) (m : Message) → message_at m.uid b.messages ≡ Some m → MaySay (Some b) (responses.Fetch (row_of m))
row_told b m e = (m.uid, m, e, refl)

rows_true : (b : Mailbox) (test : Message → Bool) → IsWellFormedBox b → Remarks (Some b) (plain.rows_where test b.messages)
rows_true b test w =
    all_told (MaySay (Some b)) (λ (m : Message). message_at m.uid b.messages ≡ Some m) (λ m. responses.Fetch (row_of m)) test b.messages
    (λ m e t. row_told b m e) (each_there 0 b.messages w.rise)

rows_held : (b : Mailbox) (test : Message → Bool) (uid : ℕ) (m : Message) → test m ≡ true → message_at uid b.messages ≡ Some m →
    RowTold (plain.rows_where test b.messages) m
rows_held b test uid m t e = is_told (λ m. responses.Fetch (row_of m)) test uid m b.messages t e

fetch_code_true : (c : Choices) (b : Mailbox) → MayCode (Some b) (plain.fetch_code c b)
fetch_code_true c b = cond_both (plain.has_rev2 c) codings.None (codings.HighestModSeq b.highest) (λ (code : Code). MayCode (Some b) code) (λ _. tt) (λ _. refl)

row_if_true : (b : Mailbox) (uid : ℕ) (o : Option Message) → message_at uid b.messages ≡ o → Remarks (Some b) (plain.row_if o)
row_if_true b uid None e = tt
row_if_true b uid (Some m) e = ((uid, m, e, refl), tt)

row_if_held : (b : Mailbox) (uid : ℕ) (o : Option Message) (m : Message) → message_at uid b.messages ≡ o →
    message_at uid b.messages ≡ Some m → RowTold (plain.row_if o) m
row_if_held b uid None m e f = absurd (cc)
row_if_held b uid (Some x) m e f = subst (λ (y : Message). RowTold (plain.row_if (Some x)) y) (same_Some x m (sym e ∙ f)) (here (responses.Fetch (row_of x)) [])

-- the UIDs that are found
among_told : (test : Message → Bool) (uid : ℕ) (m : Message) (ms : List Message) → test m ≡ true → message_at uid ms ≡ Some m →
    Among uid (map (λ (x : Message). x.uid) (filter test ms))
among_told test uid m ms t e = into_among uid (map (λ (x : Message). x.uid) (filter test ms))
    (subst (λ (k : ℕ). Contains (map (λ (x : Message). x.uid) (filter test ms)) k) (message_at-uid uid ms m e)
    (is_told (λ (x : Message). x.uid) test uid m ms t e))

told_among : (P : ℕ → Type 0) (uids : List ℕ) (uid : ℕ) → AllByRecursion P uids → Among uid uids → P uid
told_among P [] uid a i = absurd i
told_among P (u ∷ us) uid a (inl e) = subst P (sym e) a.0
told_among P (u ∷ us) uid a (inr i) = told_among P us uid a.1 i

found_passes : (from : ℕ) (id : List ℕ) (b : Mailbox) (m : Message) → message_at m.uid b.messages ≡ Some m →
    plain.is_found from id b.messages m ≡ true → IsFoundTrue from id b m.uid
found_passes from id b m e t =
    let both = and_parts (in_tail from b.messages m.uid) (has_in_id_caseless id m.text) t in (m, e, both.0, both.1)

found_true : (from : ℕ) (id : List ℕ) (b : Mailbox) → IsWellFormedBox b → (uid : ℕ) →
    Member (set_of (plain.found_in from id b.messages)) uid → IsFoundTrue from id b uid
found_true from id b w uid m =
    told_among (λ (u : ℕ). IsFoundTrue from id b u) (plain.found_in from id b.messages) uid
    (all_told (λ (u : ℕ). IsFoundTrue from id b u) (λ (x : Message). message_at x.uid b.messages ≡ Some x) (λ (x : Message). x.uid)
    (plain.is_found from id b.messages) b.messages
    (λ x e t. found_passes from id b x e t) (each_there 0 b.messages w.rise))
    (from_set uid (plain.found_in from id b.messages) m)

found_held : (from : ℕ) (id : List ℕ) (b : Mailbox) → EachFound from id b (responses.Found (set_of (plain.found_in from id b.messages)) ∷ [])
found_held from id b uid m e tail has = (
  set_of (plain.found_in from id b.messages),
  here (responses.Found (set_of (plain.found_in from id b.messages))) [],
  into_set uid (plain.found_in from id b.messages) (among_told (plain.is_found from id b.messages) uid m b.messages
      (and_from (in_tail from b.messages m.uid) (has_in_id_caseless id m.text)
      (subst (λ (k : ℕ). in_tail from b.messages k ≡ true) (sym (message_at-uid uid b.messages m e)) tail)
      (found_caseless id m.text has)) e),
)

-- the UIDs that are named
named_from : (uid : ℕ) (range : UidRange) (rest : List UidRange) (P : Type 0) →
    (list_any (λ (r : UidRange). nat_le r.low uid && nat_le uid r.high) rest ≡ true → P) → (IsWithin range.low range.high uid → P) →
    list_any (λ (r : UidRange). nat_le r.low uid && nat_le uid r.high) (range ∷ rest) ≡ true → P
named_from uid range rest P later first t =
    elim (or_cases (nat_le range.low uid && nat_le uid range.high) (list_any (λ (r : UidRange). nat_le r.low uid && nat_le uid r.high) rest) t) [
      | inl u ↦ (let both = and_parts (nat_le range.low uid) (nat_le uid range.high) u in
          first (record { above = leb-true range.low uid both.0; below = leb-true uid range.high both.1 }))
      | inr u ↦ later u
    ]

is_member : (uid : ℕ) (uids : List UidRange) → list_any (λ (r : UidRange). nat_le r.low uid && nat_le uid r.high) uids ≡ true → Member uids uid
is_member uid [] = λ t. absurd (cc)
is_member uid (range ∷ rest) = named_from uid range rest (Member (range ∷ rest) uid) (λ u. inr (is_member uid rest u)) (λ i. inl i)

is_named : (uid : ℕ) (uids : List UidRange) → Member uids uid → list_any (λ (r : UidRange). nat_le r.low uid && nat_le uid r.high) uids ≡ true
is_named uid [] m = absurd m
is_named uid (range ∷ rest) (inl i) =
    or_left (nat_le range.low uid && nat_le uid range.high) (list_any (λ (r : UidRange). nat_le r.low uid && nat_le uid r.high) rest)
    (and_from (nat_le range.low uid) (nat_le uid range.high) (le-leb range.low uid i.above) (le-leb uid range.high i.below))
is_named uid (range ∷ rest) (inr m) =
    or_right (nat_le range.low uid && nat_le uid range.high) (list_any (λ (r : UidRange). nat_le r.low uid && nat_le uid r.high) rest) (is_named uid rest m)

-- the plain server tells neither the flags nor the mod-sequence with them
tells_ids : (m : Message) → TellsIds m (ids_of m)
tells_ids m = record { flags = inl refl; modseq = inl refl; ids = refl }

ids_true : (uids : List UidRange) (b : Mailbox) → IsWellFormedBox b → AllByRecursion (IdsSay uids b) (plain.ids_in uids b.messages)
ids_true uids b w =
    all_told (IdsSay uids b) (λ (x : Message). message_at x.uid b.messages ≡ Some x) (λ (x : Message). responses.Fetch (ids_of x))
    (plain.is_named uids) b.messages
    (λ x e t. inr (x.uid, x, is_member x.uid uids t, e, tells_ids x)) (each_there 0 b.messages w.rise)

ids_held : (uids : List UidRange) (b : Mailbox) → EachIds uids b (plain.ids_in uids b.messages)
ids_held uids b uid m member e = (
  ids_of m,
  tells_ids m,
  is_told (λ (x : Message). responses.Fetch (ids_of x)) (plain.is_named uids) uid m b.messages
      (subst (λ (k : ℕ). list_any (λ (r : UidRange). nat_le r.low k && nat_le k r.high) uids ≡ true)
      (sym (message_at-uid uid b.messages m e)) (is_named uid uids member)) e,
)

-- the text of a message that is there
tells_text : (m : Message) → TellsText m (text_of m)
tells_text m = record { flags = inl refl; modseq = inl refl; text = refl }

text_if_true : (b : Mailbox) (uid : ℕ) (o : Option Message) → message_at uid b.messages ≡ o → AllByRecursion (TextSays uid b) (plain.text_if o)
text_if_true b uid None e = tt
text_if_true b uid (Some m) e = (inr (m, e, tells_text m), tt)

text_if_held : (b : Mailbox) (uid : ℕ) (o : Option Message) (m : Message) → message_at uid b.messages ≡ o →
    message_at uid b.messages ≡ Some m → TextTold (plain.text_if o) m
text_if_held b uid None m e f = absurd (cc)
text_if_held b uid (Some x) m e f =
    subst (λ (y : Message). TextTold (plain.text_if (Some x)) y) (same_Some x m (sym e ∙ f)) (text_of x, tells_text x, here (responses.Fetch (text_of x)) [])

-- what went above a mark
gone_found : (modseq uid : ℕ) (gs : List Gone) → Among uid (plain.gone_above modseq gs) → (went : ℕ) × (gone_at uid gs ≡ Some went)
gone_found modseq uid [] = λ a. absurd a
gone_found modseq uid (g ∷ gs) =
    cond_both (eqb g.uid uid) (Some g.modseq) (gone_at uid gs) (λ (o : Option ℕ). Among uid (plain.gone_above modseq (g ∷ gs)) → (went : ℕ) × (o ≡ Some went))
    (λ _ a. (g.modseq, refl))
    (λ f. cond_both (nat_lt modseq g.modseq) (g.uid ∷ plain.gone_above modseq gs) (plain.gone_above modseq gs)
    (λ (l : List ℕ). Among uid l → (went : ℕ) × (gone_at uid gs ≡ Some went))
    (λ _ a. later g gs modseq uid f (gone_found modseq uid gs) a)
    (λ _ a. gone_found modseq uid gs a))
  where
    later : (g : Gone) (gs : List Gone) (modseq uid : ℕ) → eqb g.uid uid ≡ false →
        (Among uid (plain.gone_above modseq gs) → (went : ℕ) × (gone_at uid gs ≡ Some went)) →
        (uid ≡ g.uid) ⊎ Among uid (plain.gone_above modseq gs) → (went : ℕ) × (gone_at uid gs ≡ Some went)
    later g gs modseq uid f rest (inl e) = let t : eqb g.uid uid ≡ true = eq-eqb g.uid uid (sym e) in absurd (cc)
    later g gs modseq uid f rest (inr a) = rest a

gone_among : (modseq uid went : ℕ) (gs : List Gone) → modseq < went → gone_at uid gs ≡ Some went → Among uid (plain.gone_above modseq gs)
gone_among modseq uid went [] l = λ e. absurd (cc)
gone_among modseq uid went (g ∷ gs) l =
    cond_both (eqb g.uid uid) (Some g.modseq) (gone_at uid gs) (λ (o : Option ℕ). o ≡ Some went → Among uid (plain.gone_above modseq (g ∷ gs)))
    (λ t e. let same : g.modseq ≡ went = same_Some g.modseq went e in
    subst (λ (x : List ℕ). Among uid x) (sym (cond-true (nat_lt modseq g.modseq) (g.uid ∷ plain.gone_above modseq gs)
    (plain.gone_above modseq gs) (lt-ltb modseq g.modseq (omega arith))))
    (inl (sym (eqb-true g.uid uid t))))
    (λ _ e. cond_both (nat_lt modseq g.modseq) (g.uid ∷ plain.gone_above modseq gs) (plain.gone_above modseq gs) (λ (x : List ℕ). Among uid x)
    (λ _. inr (gone_among modseq uid went gs l e))
    (λ _. gone_among modseq uid went gs l e))

vanished_true : (b : Mailbox) (uids : List ℕ) → ((uid : ℕ) → Among uid uids → message_at uid b.messages ≡ None) →
    AllByRecursion (SelectSays b) (plain.vanished_of uids)
vanished_true b [] f = tt
vanished_true b (u ∷ us) f = ((λ uid m. f uid (from_set uid (u ∷ us) m)), tt)

vanished_held : (uid : ℕ) (uids : List ℕ) (rest : List Response) → Among uid uids → GoneTold (plain.vanished_of uids ++ rest) uid
vanished_held uid [] rest a = absurd a
vanished_held uid (u ∷ us) rest a = (set_of (u ∷ us), here (responses.Vanished true (set_of (u ∷ us))) rest, into_set uid (u ∷ us) a)

gone_absent : (modseq : ℕ) (b : Mailbox) → IsWellFormedBox b → (uid : ℕ) → Among uid (plain.gone_above modseq b.gone) → message_at uid b.messages ≡ None
gone_absent modseq b w uid a = let found = gone_found modseq uid b.gone a in w.apart uid found.0 found.1

above_true : (modseq : ℕ) (b : Mailbox) → IsWellFormedBox b → AllByRecursion (SelectSays b) (plain.told_above modseq b)
above_true modseq b w =
    all_append (SelectSays b) (plain.vanished_of (plain.gone_above modseq b.gone)) (plain.rows_where (λ m. nat_lt modseq m.modseq) b.messages)
    (vanished_true b (plain.gone_above modseq b.gone) (gone_absent modseq b w))
    (all_told (SelectSays b) (λ (m : Message). message_at m.uid b.messages ≡ Some m) (λ m. responses.Fetch (row_of m))
    (λ m. nat_lt modseq m.modseq) b.messages (λ m e t. row_told b m e) (each_there 0 b.messages w.rise))

since_true : (since : Option Mark) (b : Mailbox) → IsWellFormedBox b → AllByRecursion (SelectSays b) (plain.told_since since b)
since_true None b w = tt
since_true (Some mark) b w =
    cond_both (eqb mark.validity b.validity) (plain.told_above mark.modseq b) [] (λ (l : List Response). AllByRecursion (SelectSays b) l)
    (λ _. above_true mark.modseq b w) (λ _. tt)

above_held : (modseq : ℕ) (b : Mailbox) → ToldSince modseq b (plain.told_above modseq b)
above_held modseq b = record {
  rows = λ uid m e l. behind (plain.vanished_of (plain.gone_above modseq b.gone))
      (plain.rows_where (λ x. nat_lt modseq x.modseq) b.messages) (responses.Fetch (row_of m))
      (rows_held b (λ x. nat_lt modseq x.modseq) uid m (lt-ltb modseq m.modseq l) e);
  gone = λ uid went e l. vanished_held uid (plain.gone_above modseq b.gone) (plain.rows_where (λ x. nat_lt modseq x.modseq) b.messages)
      (gone_among modseq uid went b.gone l e);
}

behind_all : (modseq : ℕ) (b : Mailbox) (front told : List Response) → ToldSince modseq b told → ToldSince modseq b (front ++ told)
behind_all modseq b front told h = record {
  rows = λ uid m e l. behind front told (responses.Fetch (row_of m)) (h.rows uid m e l);
  gone = λ uid went e l. let g = h.gone uid went e l in (g.0, behind front told (responses.Vanished true g.0) g.1, g.2);
}

since_held : (since : Option Mark) (b : Mailbox) (front : List Response) → MarkTells since b (front ++ plain.told_since since b)
since_held None b front = tt
since_held (Some mark) b front = λ e.
    subst (λ (l : List Response). ToldSince mark.modseq b (front ++ l))
    (sym (cond-true (eqb mark.validity b.validity) (plain.told_above mark.modseq b) [] (eq-eqb mark.validity b.validity e)))
    (behind_all mark.modseq b front (plain.told_above mark.modseq b) (above_held mark.modseq b))

older_true : (c : Choices) (b : Mailbox) → AllByRecursion (SelectSays b) (plain.older_told c)
older_true c b = cond_both (plain.has_rev2 c) [] (responses.Other ∷ responses.Other ∷ responses.Other ∷ [])
    (λ (l : List Response). AllByRecursion (SelectSays b) l) (λ _. tt) (λ _. (tt, (tt, (tt, tt))))

-- the front of what a SELECT tells
select_front : Choices → Mailbox → List Response
select_front c b = responses.Exists (length b.messages) ∷ plain.coded (codings.PermanentFlags (told_flags c.flags) c.any) ∷ plain.coded
    (codings.UidValidity b.validity)
    ∷ plain.coded (codings.UidNext b.uidnext) ∷ plain.coded (codings.HighestModSeq b.highest) ∷ plain.older_told c

select_parted : (c : Choices) (selected : Option (List ℕ)) (since : Option Mark) (b : Mailbox) →
    Parted (plain.closed_told selected ++ plain.select_told c since b) [] (plain.select_told c since b)
select_parted c None since b = inr (refl, refl)
select_parted c (Some name) since b = inl refl

select_tells : (c : Choices) (selected : Option (List ℕ)) (old : Option Mailbox) (since : Option Mark) (b : Mailbox) → IsWellFormedBox b →
    SelectTells old since b (plain.closed_told selected ++ plain.select_told c since b) codings.Other
unfolding select_front
select_tells c selected old since b w =
    let told : List Response = plain.select_told c since b in
    let exists : Response = responses.Exists (length b.messages) in
    let flags : Response = plain.coded (codings.PermanentFlags (told_flags c.flags) c.any) in
    let validity : Response = plain.coded (codings.UidValidity b.validity) in
    let next : Response = plain.coded (codings.UidNext b.uidnext) in
    let highest : Response = plain.coded (codings.HighestModSeq b.highest) in
    let rest : List Response = plain.older_told c ++ plain.told_since since b in
    record {
      before = [];
      told = told;
      parted = select_parted c selected since b;
      of_old = tt;
      of_new = (
        refl,
        (
          tt,
          (
            refl,
            (
              refl,
              (
                refl,
                all_append (SelectSays b) (plain.older_told c) (plain.told_since since b) (older_true c b)
                    (since_true since b w),
              ),
            ),
          ),
        ),
      );
      code_of_new = tt;
      exists = here exists (flags ∷ validity ∷ next ∷ highest ∷ rest);
      validity = inl (behind (exists ∷ flags ∷ []) (validity ∷ next ∷ highest ∷ rest) validity (here validity (next ∷ highest ∷ rest)));
      uidnext = inl (behind (exists ∷ flags ∷ validity ∷ []) (next ∷ highest ∷ rest) next (here next (highest ∷ rest)));
      highest = inl (behind (exists ∷ flags ∷ validity ∷ next ∷ []) (highest ∷ rest) highest (here highest rest));
      since_mark = since_held since b (select_front c b);
    }

-- ENABLE
all_filtered : (P : List ℕ → Type 0) (test : List ℕ → Bool) (names : List (List ℕ)) → AllByRecursion P names → AllByRecursion P (filter test names)
all_filtered P test [] a = tt
all_filtered P test (x ∷ xs) a = cond_both (test x) (x ∷ filter test xs) (filter test xs) (λ (l : List (List ℕ)). AllByRecursion P l)
    (λ _. (a.0, all_filtered P test xs a.1)) (λ _. all_filtered P test xs a.1)

enabled_asked : (c : Choices) (rev2 : Bool) → AllByRecursion (λ name. IsTrue (is_asked rev2 name)) (plain.enabled_names c rev2)
enabled_asked c true = all_filtered (λ name. IsTrue (is_asked true name)) (plain.is_offered c.offers)
    (codes "IMAP4rev2" ∷ codes "QRESYNC" ∷ []) (refl, (refl, tt))
enabled_asked c false = all_filtered (λ name. IsTrue (is_asked false name)) (plain.is_offered c.offers) (codes "QRESYNC" ∷ []) (refl, tt)

offers_true : (selected : Option Mailbox) (offers : List (List ℕ)) → Remarks selected (plain.offers_told offers)
offers_true selected [] = tt
offers_true selected (w ∷ ws) = (tt, tt)

-- a message that is there is the one that was looked up
there_is : (name : List ℕ) (uid : ℕ) (s : Server) (b : Mailbox) → box_at name s.boxes ≡ Some b → (i : IsThere (Some name) uid s) →
    message_at uid b.messages ≡ Some i.message
there_is name uid s b e i =
    let n : name ≡ i.name = same_Some name i.name i.is_selected in
    let same : i.box ≡ b = same_Some i.box b (sym i.named ∙ ap (λ (k : List ℕ). box_at k s.boxes) (sym n) ∙ e) in
    ap (λ (x : Mailbox). message_at uid x.messages) (sym same) ∙ i.there

none_from : {A : Type 0} (o : Option A) → is_some o ≡ false → o ≡ None
none_from None = λ f. refl
none_from (Some x) = λ f. absurd (cc)

change_case : (P : Turn → Type 0) (selected : Option (List ℕ)) (tag : Tag) (name : List ℕ) (change : Change) (s : Server)
    (reply : Server → Replies) → P (plain.answered selected s (plain.denied codings.Other)) →
    (broken_rule s.boxes name change ≡ None → P (plain.answered selected (with_change (Ours tag) name change s)
    (reply (with_change (Ours tag) name change s)))) →
    P (plain.change_turn selected tag name change s reply)
change_case P selected tag name change s reply no_change changes_it =
    cond_both (is_some (broken_rule s.boxes name change)) (plain.answered selected s (plain.denied codings.Other))
    (plain.answered selected (with_change (Ours tag) name change s) (reply (with_change (Ours tag) name change s))) P
    (λ _. no_change) (λ f. changes_it (none_from (broken_rule s.boxes name change) f))

flags_changed : (add : Bool) (asked old : List (List ℕ)) → IsChanged add asked old (plain.stored_flags add asked old)
flags_changed true asked old = λ key. has-union old asked key
flags_changed false asked old = λ key. has-filter (λ k. not (has asked k)) old key

row_in_true : (uid : ℕ) (o : Option Mailbox) → Remarks o (plain.row_in uid o)
row_in_true uid None = tt
row_in_true uid (Some b) = row_if_true b uid (message_at uid b.messages) refl

only_one : (uid u : ℕ) → Member (only uid) u → u ≡ uid
only_one uid u (inl i) = let a : uid ≤ u = i.above in let b : u ≤ uid = i.below in omega arith
only_one uid u (inr n) = absurd n

-- the questions
module _ (tag : Tag) (s : Server) (w : IsWellFormed s.boxes) where
  formed : (selected : Option (List ℕ)) (b : Mailbox) → selected_box selected s.boxes ≡ Some b → IsWellFormedBox b
  formed None b = λ e. absurd (cc)
  formed (Some name) b = λ e. w.each name b e

  question : (May : Mailbox → Response → Type 0) (Tells : Mailbox → List Response → Type 0) (selected : Option (List ℕ))
      (command : Command) (untagged : Mailbox → List Response) (code : Mailbox → Code) →
      ((o : Option (List ℕ)) → Refuses command (record { selected = o; tag = tag; command = command }) s (plain.denied codings.Other) s o) →
      ((r : Replies) (t : Server) (after : Option (List ℕ)) → Asks May Tells
      (record { selected = selected; tag = tag; command = command }) s r t after →
      Fulfils command (record { selected = selected; tag = tag; command = command }) s r t after) →
      ((b : Mailbox) → IsWellFormedBox b → AllByRecursion (May b) (untagged b)) → ((b : Mailbox) → MayCode (Some b) (code b)) →
      ((b : Mailbox) → Tells b (untagged b)) →
      (o : Option Mailbox) → selected_box selected s.boxes ≡ o → IsCase selected tag command s
      (plain.question_turn selected s (λ b. plain.accepted (untagged b) (code b)) o)
  question May Tells selected command untagged code denies fulfils says coded tells None e = denies selected
  question May Tells selected command untagged code denies fulfils says coded tells (Some b) e =
      fulfils (plain.accepted (untagged b) (code b)) s selected
      (record { stays = record { server = refl; selection = refl }; box = b; there = e; says = says b (formed selected b e); code = coded b; tells = tells b })

  fetch_all : (c : Choices) (selected : Option (List ℕ)) → IsCase selected tag commands.FetchAll s (plain.turn_of c selected tag commands.FetchAll s)
  fetch_all c selected =
      question RowsSay EachRow selected commands.FetchAll (λ b. plain.rows_where plain.any_message b.messages) (plain.fetch_code c)
      (λ o. record { server = refl; selection = refl; says = tt; code = tt }) (λ r t after a. a)
      (λ b f. rows_true b plain.any_message f) (fetch_code_true c) (λ b uid m e. rows_held b plain.any_message uid m refl e)
      (selected_box selected s.boxes) refl

  fetch_row : (c : Choices) (selected : Option (List ℕ)) (uid : ℕ) →
      IsCase selected tag (commands.FetchRow uid) s (plain.turn_of c selected tag (commands.FetchRow uid) s)
  fetch_row c selected uid =
      question RowsSay (OneRow uid) selected (commands.FetchRow uid) (λ b. plain.row_if (message_at uid b.messages)) (plain.fetch_code c)
      (λ o. record { server = refl; selection = refl; says = tt; code = tt }) (λ r t after a. a)
      (λ b f. row_if_true b uid (message_at uid b.messages) refl) (fetch_code_true c) (λ b m e. row_if_held b uid (message_at uid b.messages) m refl e)
      (selected_box selected s.boxes) refl

  search : (c : Choices) (selected : Option (List ℕ)) (from : ℕ) (id : List ℕ) →
      IsCase selected tag (commands.Search from id) s (plain.turn_of c selected tag (commands.Search from id) s)
  search c selected from id =
      question (SearchSays from id) (EachFound from id) selected (commands.Search from id)
      (λ b. responses.Found (set_of (plain.found_in from id b.messages)) ∷ []) (λ b. codings.None)
      (λ o. record { server = refl; selection = refl; says = tt; code = tt }) (λ r t after a. a)
      (λ b f. (found_true from id b f, tt)) (λ b. tt) (λ b. found_held from id b)
      (selected_box selected s.boxes) refl

  fetch_ids : (c : Choices) (selected : Option (List ℕ)) (uids : List UidRange) →
      IsCase selected tag (commands.FetchIds uids) s (plain.turn_of c selected tag (commands.FetchIds uids) s)
  fetch_ids c selected uids =
      question (IdsSay uids) (EachIds uids) selected (commands.FetchIds uids) (λ b. plain.ids_in uids b.messages) (plain.fetch_code c)
      (λ o. record { server = refl; selection = refl; says = tt; code = tt }) (λ r t after a. a)
      (λ b f. ids_true uids b f) (fetch_code_true c) (λ b. ids_held uids b)
      (selected_box selected s.boxes) refl

  fetch_text : (c : Choices) (selected : Option (List ℕ)) (uid : ℕ) →
      IsCase selected tag (commands.FetchText uid) s (plain.turn_of c selected tag (commands.FetchText uid) s)
  fetch_text c selected uid =
      question (TextSays uid) (OneText uid) selected (commands.FetchText uid) (λ b. plain.text_if (message_at uid b.messages)) (plain.fetch_code c)
      (λ o. record { server = refl; selection = refl; says = tt; code = tt }) (λ r t after a. a)
      (λ b f. text_if_true b uid (message_at uid b.messages) refl) (fetch_code_true c) (λ b m e. text_if_held b uid (message_at uid b.messages) m refl e)
      (selected_box selected s.boxes) refl

  select : (c : Choices) (selected : Option (List ℕ)) (name : List ℕ) (since : Option Mark) (o : Option Mailbox) →
      box_at name s.boxes ≡ o → IsCase selected tag (commands.Select name since) s (plain.select_turn c selected name since s o)
  select c selected name since None e = record { server = refl; selection = refl; says = tt; code = tt }
  select c selected name since (Some b) e = record {
    box = b;
    there = e;
    server = refl;
    selection = refl;
    tells =
        select_tells c selected (selected_box selected s.boxes) since b (w.each name b e);
  }

  -- STORE
  stored : (name : List ℕ) (uid since : ℕ) (add : Bool) (asked : List (List ℕ)) (b : Mailbox) (m : Message) →
      box_at name s.boxes ≡ Some b → message_at uid b.messages ≡ Some m → m.modseq ≤ since →
      broken_rule s.boxes name (changes.SetFlags uid (plain.stored_flags add asked m.flags)) ≡ None →
      IsCase (Some name) tag (commands.Store uid since add asked) s
      (plain.answered (Some name) (with_change (Ours tag) name (changes.SetFlags uid (plain.stored_flags add asked m.flags)) s)
      (plain.accepted (plain.row_in uid (box_at name (with_change (Ours tag) name
      (changes.SetFlags uid (plain.stored_flags add asked m.flags)) s).boxes)) codings.None))
  stored name uid since add asked b m e f l lawful =
      let change : Change = changes.SetFlags uid (plain.stored_flags add asked m.flags) in
      let t : Server = with_change (Ours tag) name change s in
      inl (record {
        effect = record {
          found = record { name = name; is_selected = refl; box = b; named = e; message = m; there = f };
          since_then = l;
          flags = plain.stored_flags add asked m.flags;
          changed = flags_changed add asked m.flags;
          becomes = plain_changes (Ours tag) name change s w lawful;
        };
        selection = refl;
        says = record { untagged = row_in_true uid (box_at name t.boxes); code = tt };
        row = λ c k h i. subst (λ (o : Option Mailbox). RowTold (plain.row_in uid o) k) (sym h) (row_if_held c uid (message_at uid c.messages) k refl i);
      })

  store_message : (name : List ℕ) (uid since : ℕ) (add : Bool) (asked : List (List ℕ)) (b : Mailbox) (o : Option Message) →
      box_at name s.boxes ≡ Some b → message_at uid b.messages ≡ o →
      IsCase (Some name) tag (commands.Store uid since add asked) s (plain.store_message name tag uid since add asked s o)
  store_message name uid since add asked b None e f =
      inr (record {
        effect = record { greater = λ i l. let g : message_at uid b.messages ≡ Some i.message = there_is name uid s b e i in cc; stays = refl };
        selection = refl;
        says = tt;
        code = inl tt;
        modified = λ i. let g : message_at uid b.messages ≡ Some i.message = there_is name uid s b e i in absurd (cc);
      })
  store_message name uid since add asked b (Some m) e f =
      cond_both (nat_lt since m.modseq) (plain.answered (Some name) s (plain.denied (codings.Modified (only uid))))
      (plain.change_turn (Some name) tag name (changes.SetFlags uid (plain.stored_flags add asked m.flags)) s
      (λ t. plain.accepted (plain.row_in uid (box_at name t.boxes)) codings.None))
      (λ (turn : Turn). IsCase (Some name) tag (commands.Store uid since add asked) s turn)
      (λ t. let greater : since < m.modseq = ltb-true since m.modseq t in
      record {
        server = refl;
        selection = refl;
        says = tt;
        code = inr (
          refl,
          λ i l. let same : m ≡ i.message = same_Some m i.message (sym f ∙ there_is name uid s b e i) in
              let k : m.modseq ≡ i.message.modseq = ap (λ (x : Message). x.modseq) same in absurd (omega arith),
        );
      })
      (λ t. let least : m.modseq ≤ since = ltb-false since m.modseq t in
      change_case (λ (turn : Turn). IsCase (Some name) tag (commands.Store uid since add asked) s turn) (Some name) tag name
      (changes.SetFlags uid (plain.stored_flags add asked m.flags)) s
      (λ x. plain.accepted (plain.row_in uid (box_at name x.boxes)) codings.None)
      (record { server = refl; selection = refl; says = tt; code = inl tt })
      (λ lawful. stored name uid since add asked b m e f least lawful))

  store_in : (name : List ℕ) (uid since : ℕ) (add : Bool) (asked : List (List ℕ)) (o : Option Mailbox) → box_at name s.boxes ≡ o →
      IsCase (Some name) tag (commands.Store uid since add asked) s (plain.store_in name tag uid since add asked s o)
  store_in name uid since add asked None e = record { server = refl; selection = refl; says = tt; code = inl tt }
  store_in name uid since add asked (Some b) e = store_message name uid since add asked b (message_at uid b.messages) e refl

  store : (selected : Option (List ℕ)) (uid since : ℕ) (add : Bool) (asked : List (List ℕ)) →
      IsCase selected tag (commands.Store uid since add asked) s (plain.store_turn selected tag uid since add asked s)
  store None uid since add asked = record { server = refl; selection = refl; says = tt; code = inl tt }
  store (Some name) uid since add asked = store_in name uid since add asked (box_at name s.boxes) refl

  -- MOVE
  moved_case : (name : List ℕ) (uid : ℕ) (to : List ℕ) (b target : Mailbox) (m : Message) → box_at name s.boxes ≡ Some b → message_at uid b.messages ≡ Some m →
      broken_rule s.boxes name (changes.Shift uid to target.uidnext) ≡ None →
      IsCase (Some name) tag (commands.Shift uid to) s (plain.answered (Some name) (with_change (Ours tag) name (changes.Shift uid to target.uidnext) s)
      (plain.accepted (plain.coded (plain.copied_code uid to target.uidnext
      (with_change (Ours tag) name (changes.Shift uid to target.uidnext) s)) ∷ responses.Vanished false (only uid) ∷ []) codings.None))
  moved_case name uid to b target m e f lawful =
      let change : Change = changes.Shift uid to target.uidnext in
      let t : Server = with_change (Ours tag) name change s in
      let becomes : Changes s.boxes (Ours tag) name change s t = plain_changes (Ours tag) name change s w lawful in
      let copied : Code = plain.copied_code uid to target.uidnext t in
      let left : box_at name t.boxes ≡ Some becomes.effect.leaves.after =
      left_there (floor_of s.boxes) name uid to target.uidnext s.boxes t.boxes becomes.effect in
      let gone : AreAbsent becomes.effect.leaves.after (only uid) =
      λ u i. subst (λ (x : Mailbox). message_at u x.messages ≡ None) (sym becomes.effect.leaves.becomes.becomes)
      (subst (λ (k : ℕ). message_at k (without_message uid becomes.effect.leaves.before.messages) ≡ None) (sym (only_one uid u i))
      (message_at-without uid becomes.effect.leaves.before.messages)) in
      inl (record {
        effect = record {
          found = record { name = name; is_selected = refl; box = b; named = e; message = m; there = f };
          received =
              target.uidnext;
          becomes = becomes;
        };
        selection = refl;
        copied = copied;
        copied_is = refl;
        says = (inr refl, (subst (λ (o : Option Mailbox). MaySay o (responses.Vanished false (only uid))) (sym left) gone, tt));
        code = inl tt;
        told = inl (here (plain.coded copied) (responses.Vanished false (only uid) ∷ []));
      })

  move_message : (name : List ℕ) (uid : ℕ) (to : List ℕ) (b target : Mailbox) (o : Option Message) → box_at name s.boxes ≡ Some b →
      message_at uid b.messages ≡ o →
      IsCase (Some name) tag (commands.Shift uid to) s (plain.move_message name tag uid to s target o)
  move_message name uid to b target None e f =
      inr (record {
        effect = record { absent = λ i. let g : message_at uid b.messages ≡ Some i.message = there_is name uid s b e i in cc; stays = refl };
        selection = refl;
        says = record { untagged = tt; code = tt };
      })
  move_message name uid to b target (Some m) e f =
      change_case (λ (turn : Turn). IsCase (Some name) tag (commands.Shift uid to) s turn) (Some name) tag name (changes.Shift uid to target.uidnext) s
      (λ x. plain.accepted (plain.coded (plain.copied_code uid to target.uidnext x) ∷ responses.Vanished false (only uid) ∷ []) codings.None)
      (record { server = refl; selection = refl; says = tt; code = tt })
      (λ lawful. moved_case name uid to b target m e f lawful)

  move_in : (name : List ℕ) (uid : ℕ) (to : List ℕ) (o target : Option Mailbox) → box_at name s.boxes ≡ o →
      IsCase (Some name) tag (commands.Shift uid to) s (plain.move_in name tag uid to s o target)
  move_in name uid to None target e = record { server = refl; selection = refl; says = tt; code = tt }
  move_in name uid to (Some b) None e = record { server = refl; selection = refl; says = tt; code = tt }
  move_in name uid to (Some b) (Some target) e = move_message name uid to b target (message_at uid b.messages) e refl

  move : (selected : Option (List ℕ)) (uid : ℕ) (to : List ℕ) → IsCase selected tag (commands.Shift uid to) s (plain.move_turn selected tag uid to s)
  move None uid to = record { server = refl; selection = refl; says = tt; code = tt }
  move (Some name) uid to = move_in name uid to (box_at name s.boxes) (box_at to s.boxes) refl

  -- COPY
  copied_case : (name : List ℕ) (uid : ℕ) (to : List ℕ) (b target : Mailbox) (m : Message) → box_at name s.boxes ≡ Some b → message_at uid b.messages ≡ Some m →
      broken_rule s.boxes to (changes.Add m.flags m.text target.uidnext) ≡ None →
      IsCase (Some name) tag (commands.Copy uid to) s
      (plain.answered (Some name) (with_change (Ours tag) to (changes.Add m.flags m.text target.uidnext) s)
      (plain.accepted [] (plain.copied_code uid to target.uidnext (with_change (Ours tag) to (changes.Add m.flags m.text target.uidnext) s))))
  copied_case name uid to b target m e f lawful =
      let change : Change = changes.Add m.flags m.text target.uidnext in
      let t : Server = with_change (Ours tag) to change s in
      inl (record {
        effect = record {
          found = record { name = name; is_selected = refl; box = b; named = e; message = m; there = f };
          received =
              target.uidnext;
          becomes = plain_changes (Ours tag) to change s w lawful;
        };
        selection = refl;
        copied = plain.copied_code uid to target.uidnext t;
        copied_is = refl;
        says = tt;
        code = inr refl;
        told = inr refl;
      })

  copy_message : (name : List ℕ) (uid : ℕ) (to : List ℕ) (b target : Mailbox) (o : Option Message) → box_at name s.boxes ≡ Some b →
      message_at uid b.messages ≡ o →
      IsCase (Some name) tag (commands.Copy uid to) s (plain.copy_message name tag uid to s target o)
  copy_message name uid to b target None e f =
      inr (record {
        effect = record { absent = λ i. let g : message_at uid b.messages ≡ Some i.message = there_is name uid s b e i in cc; stays = refl };
        selection = refl;
        says = record { untagged = tt; code = tt };
      })
  copy_message name uid to b target (Some m) e f =
      change_case (λ (turn : Turn). IsCase (Some name) tag (commands.Copy uid to) s turn) (Some name) tag to (changes.Add m.flags m.text target.uidnext) s
      (λ x. plain.accepted [] (plain.copied_code uid to target.uidnext x))
      (record { server = refl; selection = refl; says = tt; code = tt })
      (λ lawful. copied_case name uid to b target m e f lawful)

  copy_in : (name : List ℕ) (uid : ℕ) (to : List ℕ) (o target : Option Mailbox) → box_at name s.boxes ≡ o →
      IsCase (Some name) tag (commands.Copy uid to) s (plain.copy_in name tag uid to s o target)
  copy_in name uid to None target e = record { server = refl; selection = refl; says = tt; code = tt }
  copy_in name uid to (Some b) None e = record { server = refl; selection = refl; says = tt; code = tt }
  copy_in name uid to (Some b) (Some target) e = copy_message name uid to b target (message_at uid b.messages) e refl

  copy : (selected : Option (List ℕ)) (uid : ℕ) (to : List ℕ) → IsCase selected tag (commands.Copy uid to) s (plain.copy_turn selected tag uid to s)
  copy None uid to = record { server = refl; selection = refl; says = tt; code = tt }
  copy (Some name) uid to = copy_in name uid to (box_at name s.boxes) (box_at to s.boxes) refl

  -- EXPUNGE
  expunged_case : (name : List ℕ) (uid : ℕ) (b : Mailbox) (m : Message) → box_at name s.boxes ≡ Some b → message_at uid b.messages ≡ Some m →
      IsTrue (has m.flags deleted) → broken_rule s.boxes name (changes.Drop uid) ≡ None →
      IsCase (Some name) tag (commands.Expunge uid) s
      (plain.answered (Some name) (with_change (Ours tag) name (changes.Drop uid) s)
      (plain.accepted (responses.Vanished false (only uid) ∷ []) codings.None))
  expunged_case name uid b m e f marked lawful =
      let change : Change = changes.Drop uid in
      let t : Server = with_change (Ours tag) name change s in
      let becomes : Changes s.boxes (Ours tag) name change s t = plain_changes (Ours tag) name change s w lawful in
      let left : box_at name t.boxes ≡ Some becomes.effect.after = dropped_there (floor_of s.boxes name) uid name s.boxes t.boxes becomes.effect in
      let gone : AreAbsent becomes.effect.after (only uid) =
      λ u i. subst (λ (x : Mailbox). message_at u x.messages ≡ None) (sym becomes.effect.becomes.becomes)
      (subst (λ (k : ℕ). message_at k (without_message uid becomes.effect.before.messages) ≡ None) (sym (only_one uid u i))
      (message_at-without uid becomes.effect.before.messages)) in
      inl (record {
        effect = record {
          is = record { found = record { name = name; is_selected = refl; box = b; named = e; message = m; there = f }; marked = marked };
          becomes = becomes;
        };
        selection = refl;
        says = record { untagged = (subst (λ (o : Option Mailbox). MaySay o (responses.Vanished false (only uid))) (sym left) gone, tt); code = tt };
      })

  unexpunged : (name : List ℕ) (uid : ℕ) → (IsDeleted (Some name) uid s → ⊥) →
      IsCase (Some name) tag (commands.Expunge uid) s (plain.answered (Some name) s (plain.accepted [] codings.None))
  unexpunged name uid kept =
      inr (record { effect = record { not_deleted = kept; stays = refl }; selection = refl; says = record { untagged = tt; code = tt } })

  expunge_message : (name : List ℕ) (uid : ℕ) (b : Mailbox) (o : Option Message) → box_at name s.boxes ≡ Some b → message_at uid b.messages ≡ o →
      IsCase (Some name) tag (commands.Expunge uid) s (plain.expunge_message name tag uid s o)
  expunge_message name uid b None e f =
      unexpunged name uid (λ d. let g : message_at uid b.messages ≡ Some d.found.message = there_is name uid s b e d.found in cc)
  expunge_message name uid b (Some m) e f =
      cond_both (has m.flags deleted)
      (plain.change_turn (Some name) tag name (changes.Drop uid) s (λ t. plain.accepted (responses.Vanished false (only uid) ∷ []) codings.None))
      (plain.answered (Some name) s (plain.accepted [] codings.None))
      (λ (turn : Turn). IsCase (Some name) tag (commands.Expunge uid) s turn)
      (λ marked. change_case (λ (turn : Turn). IsCase (Some name) tag (commands.Expunge uid) s turn) (Some name) tag name (changes.Drop uid) s
      (λ x. plain.accepted (responses.Vanished false (only uid) ∷ []) codings.None)
      (record { server = refl; selection = refl; says = tt; code = tt })
      (λ lawful. expunged_case name uid b m e f marked lawful))
      (λ unmarked. unexpunged name uid (λ d.
      let same : m ≡ d.found.message = same_Some m d.found.message (sym f ∙ there_is name uid s b e d.found) in
      let is : has m.flags deleted ≡ true = subst (λ (x : Message). has x.flags deleted ≡ true) (sym same) d.marked in
      absurd (cc)))

  expunge_in : (name : List ℕ) (uid : ℕ) (o : Option Mailbox) → box_at name s.boxes ≡ o →
      IsCase (Some name) tag (commands.Expunge uid) s (plain.expunge_in name tag uid s o)
  expunge_in name uid None e = record { server = refl; selection = refl; says = tt; code = tt }
  expunge_in name uid (Some b) e = expunge_message name uid b (message_at uid b.messages) e refl

  expunge : (selected : Option (List ℕ)) (uid : ℕ) → IsCase selected tag (commands.Expunge uid) s (plain.expunge_turn selected tag uid s)
  expunge None uid = record { server = refl; selection = refl; says = tt; code = tt }
  expunge (Some name) uid = expunge_in name uid (box_at name s.boxes) refl

  -- APPEND
  append_in : (selected : Option (List ℕ)) (to : List ℕ) (flags : List (List ℕ)) (text : List ℕ) (o : Option Mailbox) →
      IsCase selected tag (commands.Append to flags text) s (plain.append_turn selected tag to flags text s o)
  append_in selected to flags text None = record { server = refl; selection = refl; says = tt; code = tt }
  append_in selected to flags text (Some b) =
      change_case (λ (turn : Turn). IsCase selected tag (commands.Append to flags text) s turn) selected tag to (changes.Add flags text b.uidnext) s
      (λ x. plain.accepted [] (codings.AppendUid (validity_of (box_at to x.boxes)) b.uidnext))
      (record { server = refl; selection = refl; says = tt; code = tt })
      (λ lawful. record {
        effect = record {
          uid = b.uidnext;
          becomes =
              plain_changes (Ours tag) to (changes.Add flags text b.uidnext) s w lawful;
        };
        selection = refl;
        says = tt;
        code = refl;
      })

  append : (c : Choices) (selected : Option (List ℕ)) (to : List ℕ) (flags : List (List ℕ)) (text : List ℕ) →
      IsCase selected tag (commands.Append to flags text) s (plain.turn_of c selected tag (commands.Append to flags text) s)
  append c selected to flags text =
      cond_both (plain.is_closed c.closed to) (plain.answered selected s (plain.denied codings.Other))
      (plain.append_turn selected tag to flags text s (box_at to s.boxes))
      (λ (turn : Turn). IsCase selected tag (commands.Append to flags text) s turn)
      (λ _. record { server = refl; selection = refl; says = tt; code = tt })
      (λ _. append_in selected to flags text (box_at to s.boxes))

  pub plain_case : (c : Choices) (selected : Option (List ℕ)) (command : Command) → IsCase selected tag command s (plain.turn_of c selected tag command s)
  plain_case c selected commands.Capability = record {
    stays = record { server = refl; selection = refl };
    says =
        record { untagged = offers_true (selected_box selected s.boxes) c.offers; code = tt };
  }
  plain_case c selected (commands.Login account) = record { stays = record { server = refl; selection = refl }; says = record { untagged = tt; code = tt } }
  plain_case c selected (commands.Plain account) = record { stays = record { server = refl; selection = refl }; says = record { untagged = tt; code = tt } }
  plain_case c selected (commands.Enable rev2) = record {
    stays = record { server = refl; selection = refl };
    says =
        (enabled_asked c rev2, tt);
    code = tt;
    names = plain.enabled_names c rev2;
    told =
        here (responses.Enabled (plain.enabled_names c rev2)) [];
  }
  plain_case c selected (commands.Select name since) = select c selected name since (box_at name s.boxes) refl
  plain_case c selected commands.FetchAll = fetch_all c selected
  plain_case c selected (commands.FetchRow uid) = fetch_row c selected uid
  plain_case c selected (commands.Search from id) = search c selected from id
  plain_case c selected (commands.FetchIds uids) = fetch_ids c selected uids
  plain_case c selected (commands.FetchText uid) = fetch_text c selected uid
  plain_case c selected (commands.Store uid since add flags) = store selected uid since add flags
  plain_case c selected (commands.Shift uid to) = move selected uid to
  plain_case c selected (commands.Copy uid to) = copy selected uid to
  plain_case c selected (commands.Expunge uid) = expunge selected uid
  plain_case c selected (commands.Append to flags text) = append c selected to flags text
  plain_case c selected commands.Logout = record { stays = record { server = refl; selection = refl }; says = (tt, tt); code = tt; bye = here responses.Bye [] }
