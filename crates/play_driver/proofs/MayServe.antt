-- A server may serve a run: moment by moment.
use Rattle.std.proofs.Common.{◌≡◌, inl, inr, ℕ, zero, ◌<◌, true, false, List, [], ◌∷◌, ◌++◌, length, Option, Some, None, refl, sym, ◌∙◌, ap, subst, arith}
use Rattle.std.proofs.lemmas.Option.{none-some, same_Some}
use Rattle.std.specs.Prelude.{codes, ◌≢◌}
use Rattle.mail_base.specs.declared.tag.Tag.{Tag}
use Rattle.mail_base.specs.declared.tag.Tag.TheVariants.{Count}
use Rattle.imap_model.specs.CarriedOut.{CarriesOut, told_in}
use Rattle.imap_model.specs.Carrying.{Waiting}
use Rattle.imap_model.specs.CommandText.{parts_of}
use Rattle.imap_model.specs.CommandParts.{◌⌢◌}
use Rattle.imap_model.specs.Lookups.{box_at, message_at}
use Rattle.imap_model.specs.Talking.{IsPartOf, Peer, Talk, arrived, carried, greeted}
use Rattle.imap_model.specs.Talking.Answering.{carries}
use Rattle.imap_model.specs.Talking.Connecting.{begins}
use Rattle.imap_model.specs.declared.code.Code.TheVariants as codings
use Rattle.imap_model.specs.declared.command.Command.{Command}
use Rattle.imap_model.specs.declared.command.Command.TheVariants as commands
use Rattle.imap_model.specs.declared.ending.Ending.{Ending}
use Rattle.imap_model.specs.declared.code.Code.{Code}
use Rattle.imap_model.specs.declared.replies.Replies.{Replies}
use Rattle.imap_model.specs.declared.response.Response.{Response}
use Rattle.imap_model.specs.declared.response.Response.TheVariants as responses
use Rattle.imap_model.specs.declared.server.Mailbox.{Mailbox}
use Rattle.imap_model.specs.declared.server.Message.{Message}
use Rattle.imap_model.specs.declared.server.Server.{Server}
use Rattle.play_driver.proofs.PlayedKept.{withstood}
use Rattle.store_core.specs.Mail.{mail}
use Rattle.world_traits.specs.Asking.{Asking}
use Rattle.world_traits.specs.Asking.Asking.{arrives}
use Rattle.world_traits.specs.Links.{Any, becomes}
use Rattle.world_traits.specs.Moments.{Clock, Moment, Since}
use Rattle.world_traits.proofs.Passing.{since_start, since_then}
use Rattle.play_driver.specs.Joining.{IsFair}
use Rattle.play_driver.specs.MayServe.{MayBeServed, MayServe, bye, enabled, of_empty, offer, says}
use Rattle.play_driver.specs.Played.{SparesFrom, played}
use Rattle.play_driver.specs.Questioning.{RunStep}
use Rattle.play_driver.specs.Questioning.Conversing.{answering, sending}
use Rattle.play_driver.specs.Serving.{IsServing, Serves, ServesOn, begins_preauth}

-- what was told behind the same is the same
same_behind : (told xs ys : List Response) → told ++ xs ≡ told ++ ys → xs ≡ ys
same_behind [] xs ys e = e
same_behind (r ∷ rs) xs ys e = let rest : rs ++ xs ≡ rs ++ ys = cc in same_behind rs xs ys rest

no_end : (xs : List Response) (r : Response) → [] ≡ xs ++ r ∷ [] → ⊥
no_end [] r e = cc
no_end (x ∷ xs) r e = cc

same_ends : (xs ys : List Response) (r s : Response) → xs ++ r ∷ [] ≡ ys ++ s ∷ [] → (xs ≡ ys) × (r ≡ s)
same_ends [] [] r s e = let same : r ≡ s = cc in (refl, same)
same_ends [] (y ∷ ys) r s e = let rest : [] ≡ ys ++ s ∷ [] = cc in absurd (no_end ys s rest)
same_ends (x ∷ xs) [] r s e = let rest : [] ≡ xs ++ r ∷ [] = cc in absurd (no_end xs r rest)
same_ends (x ∷ xs) (y ∷ ys) r s e =
    let first : x ≡ y = cc in
    let rest : xs ++ r ∷ [] ≡ ys ++ s ∷ [] = cc in
    let both = same_ends xs ys r s rest in
    (ap (λ (z : Response). z ∷ xs) first ∙ ap (λ (zs : List Response). y ∷ zs) both.0, both.1)

same_completion : (tag : Tag) (a b : Ending) (c d : Code) → responses.Done tag a c ≡ responses.Done tag b d → (a ≡ b) × (c ≡ d)
same_completion tag a b c d e = let one : a ≡ b = cc in let other : c ≡ d = cc in (one, other)

same_fields : (r x : Replies) → r.untagged ≡ x.untagged → r.ending ≡ x.ending → r.code ≡ x.code → r ≡ x
same_fields r x u e c =
    ap (λ (us : List Response). record { untagged = us; ending = r.ending; code = r.code }) u
    ∙ ap (λ (n : Ending). record { untagged = x.untagged; ending = n; code = r.code }) e
    ∙ ap (λ (k : Code). record { untagged = x.untagged; ending = x.ending; code = k }) c

-- a reply is known by what it tells
same_replies : (told : List Response) (tag : Tag) (r x : Replies) → told ++ told_in tag r ≡ told ++ told_in tag x → r ≡ x
same_replies told tag r x e =
    let both = same_ends r.untagged x.untagged (responses.Done tag r.ending r.code) (responses.Done tag x.ending x.code)
    (same_behind told (told_in tag r) (told_in tag x) e) in
    let last = same_completion tag r.ending x.ending r.code x.code both.1 in
    same_fields r x both.0 last.0 last.1

-- the connection was greeted by PREAUTH, and nothing waits in it
record IsQuiet (p : Peer) : Type 0 where
  pub quiet : p.waiting ≡ None
  pub idle : p.talk.arriving ≡ None
  pub rest : List Response
  pub told : p.talk.told ≡ responses.Preauth codings.None ∷ rest

no_bye : (rest : List Response) (t : Talk) → t.told ≡ responses.Preauth codings.None ∷ rest → t ≢ greeted responses.Bye
no_bye rest t told = λ e. let both : responses.Preauth codings.None ∷ rest ≡ responses.Bye ∷ [] = sym told ∙ ap (λ (x : Talk). x.told) e in cc

-- one command more is asked and answered, and the server stays
abbrev asked : Tag → Command → Clock → Clock
asked tag command c = becomes (arrived tag command [] [] []) c

abbrev waits_at : Tag → Command → Clock → Waiting
waits_at tag command c = record { selected = c.now.outside.talk.selected; tag = tag; command = command }

abbrev answered : Tag → Command → Replies → Option (List ℕ) → Clock → Clock
answered tag command r after c =
    becomes (λ p. carried (waits_at tag command c) r c.now.outside.server after p) (asked tag command c)

-- so far all is well
record IsGoing (made now : Clock) : Type 0 where
  pub quiet : IsQuiet now.now.outside
  pub serving : Since Any IsServing made now
  pub fair : Since Any (IsFair mail played) made now
  pub runs : Since Any RunStep made now

fair_step : (m n : Moment) → n.outside.server ≡ m.outside.server → IsFair mail played m n
fair_step m n same = record {
  each = λ files b leaves holds batch. subst (λ (s : Server). SparesFrom b m.outside s) (sym same) (withstood.spared b m.outside);
}

module _ (c : Clock) (still : IsQuiet c.now.outside) (tag : Tag) (command : Command) (part : List ℕ) (text : IsPartOf tag command [] part [])
    (r : Replies) (after : Option (List ℕ)) (serves : Serves c.now.outside.talk.told (waits_at tag command c) c.now.outside.server r)
    (does : CarriesOut (waits_at tag command c) c.now.outside.server r c.now.outside.server after)
    (asks : Asking c.now.outside.talk.told tag command c.now.outside (asked tag command c).now.outside → RunStep c.now (asked tag command c).now) where
  abbrev P : Peer
  P = c.now.outside

  abbrev W : Waiting
  W = waits_at tag command c

  abbrev K : Clock
  K = asked tag command c

  abbrev L : Clock
  L = answered tag command r after c

  still_there : IsQuiet L.now.outside
  still_there = record {
    quiet = refl;
    idle = refl;
    rest = still.rest ++ told_in tag r;
    told = ap (λ (l : List Response). l ++ told_in tag r) still.told;
  }

  serves_asked : ServesOn P K.now.outside
  serves_asked = record {
    replies = λ w x is told. absurd (none-some w (sym still.quiet ∙ is));
    texts = λ a x is told. absurd (none-some a (sym still.idle ∙ is));
    greets = no_bye still.rest K.now.outside.talk still.told;
  }

  answers_it : (w : Waiting) (x : Replies) → W ≡ w → P.talk.told ++ told_in tag r ≡ P.talk.told ++ told_in w.tag x →
      Serves P.talk.told w P.server x
  answers_it w x same told =
      let as_asked : P.talk.told ++ told_in tag r ≡ P.talk.told ++ told_in tag x =
      told ∙ ap (λ (v : Waiting). P.talk.told ++ told_in v.tag x) (sym same) in
      subst (λ (v : Waiting). Serves P.talk.told v P.server x) same
      (subst (λ (y : Replies). Serves P.talk.told W P.server y) (same_replies P.talk.told tag r x as_asked) serves)

  serves_answered : ServesOn K.now.outside L.now.outside
  serves_answered = record {
    replies = λ w x is told. answers_it w x (same_Some W w is) told;
    texts = λ a x is told. absurd (none-some a is);
    greets = no_bye still_there.rest L.now.outside.talk still_there.told;
  }

  exchange : (made : Clock) → IsGoing made c → IsGoing made L
  exchange made so = record {
    quiet = still_there;
    serving = since_then Any IsServing made c L so.serving
        (record { added = L.now ∷ K.now ∷ []; grown = refl; each = (tt, serves_answered, (tt, serves_asked, tt)) });
    fair = since_then Any (IsFair mail played) made c L so.fair (record {
      added = L.now ∷ K.now ∷ [];
      grown = refl;
      each = (tt, fair_step K.now L.now refl, (tt, fair_step c.now K.now refl, tt));
    });
    runs = since_then Any RunStep made c L so.runs (record {
      added = L.now ∷ K.now ∷ [];
      grown = refl;
      each = (
        tt,
        inl (inr (record { left = refl; right = refl; outside = answering (carries W r P.server after refl does) })),
        (tt, asks (arrives [] part [] text (still.quiet, still.idle) (λ e. refl)), tt),
      );
    });
  }

-- a question is asked
by_sending : (c : Clock) (tag : Tag) (command : Command) → command ≢ commands.Logout →
    Asking c.now.outside.talk.told tag command c.now.outside (asked tag command c).now.outside → RunStep c.now (asked tag command c).now
by_sending c tag command other a =
    inl (inr (record { left = refl; right = refl; outside = sending c.now.outside.talk.told tag command other a }))

-- the texts
abbrev first_of : List (List ℕ) → List ℕ
first_of [] = []
first_of (part ∷ rest) = part

capability_text : (n : ℕ) → parts_of (Count n) commands.Capability ≡ first_of (parts_of (Count n) commands.Capability) ∷ []
unfolding ◌⌢◌
capability_text n = refl

enable_text : (n : ℕ) → parts_of (Count n) (commands.Enable true) ≡ first_of (parts_of (Count n) (commands.Enable true)) ∷ []
unfolding ◌⌢◌
enable_text n = refl

fetch_text : (n : ℕ) → parts_of (Count n) commands.FetchAll ≡ first_of (parts_of (Count n) commands.FetchAll) ∷ []
unfolding ◌⌢◌
fetch_text n = refl

logout_text : (n : ℕ) → parts_of (Count n) commands.Logout ≡ first_of (parts_of (Count n) commands.Logout) ∷ []
unfolding ◌⌢◌
logout_text n = refl

capability_part : (n : ℕ) → 0 < n → n < 4294967296 → IsPartOf (Count n) commands.Capability [] (first_of (parts_of (Count n) commands.Capability)) []
capability_part n some fits = record {
  sent = record { writable = record { tagged = some; carried = tt }; tag_fits = fits; held = tt };
  text = capability_text n;
}

enable_part : (n : ℕ) → 0 < n → n < 4294967296 → IsPartOf (Count n) (commands.Enable true) [] (first_of (parts_of (Count n) (commands.Enable true))) []
enable_part n some fits = record {
  sent = record { writable = record { tagged = some; carried = tt }; tag_fits = fits; held = tt };
  text = enable_text n;
}

fetch_part : (n : ℕ) → 0 < n → n < 4294967296 → IsPartOf (Count n) commands.FetchAll [] (first_of (parts_of (Count n) commands.FetchAll)) []
fetch_part n some fits = record {
  sent = record { writable = record { tagged = some; carried = tt }; tag_fits = fits; held = tt };
  text = fetch_text n;
}

logout_part : (n : ℕ) → 0 < n → n < 4294967296 → IsPartOf (Count n) commands.Logout [] (first_of (parts_of (Count n) commands.Logout)) []
logout_part n some fits = record {
  sent = record { writable = record { tagged = some; carried = tt }; tag_fits = fits; held = tt };
  text = logout_text n;
}

-- the replies
greeted_so : (told rest : List Response) → told ≡ responses.Preauth codings.None ∷ rest → begins_preauth told ≡ false → ⊥
greeted_so told rest is h = let clash : true ≡ false = sym (ap begins_preauth is) ∙ h in cc

module _ (told : List Response) (selected : Option (List ℕ)) (s : Server) where
  offer_serves : (n : ℕ) (rest : List Response) → told ≡ responses.Preauth codings.None ∷ rest →
      Serves told (record { selected = selected; tag = Count n; command = commands.Capability }) s offer
  offer_serves n rest is = record {
    grants = λ g. (λ d. d, (λ d. d.1 refl, tt));
    remains = λ other. (λ e. cc, (λ e. cc, tt));
    provides = λ ok. (λ first h. absurd (greeted_so told rest is h), λ later. record { qresync = refl; moves = inl refl });
  }

  enabled_serves : (n : ℕ) → Serves told (record { selected = selected; tag = Count n; command = commands.Enable true }) s enabled
  enabled_serves n = record {
    grants = λ g. (λ d. d, (λ d. d.1 refl, tt));
    remains = λ other. (λ e. cc, (λ e. cc, tt));
    provides = λ ok. refl;
  }

  select_serves : (n : ℕ) (name : List ℕ) (box : Mailbox) →
      Serves told (record { selected = selected; tag = Count n; command = commands.Select name None }) s (says (of_empty box))
  select_serves n name box = record {
    grants = λ g. (λ d. d, (λ d. d, (λ d. d, (λ d. d, (λ d. d.1 refl, tt)))));
    remains = λ other. (λ e. cc, (λ e. cc, (λ e. cc, (λ e. cc, (λ e. cc, tt)))));
    provides = λ ok. tt;
  }

  fetch_serves : (n : ℕ) → Serves told (record { selected = selected; tag = Count n; command = commands.FetchAll }) s (says [])
  fetch_serves n = record { grants = λ g. (λ d. d.1 refl, tt); remains = λ other. (λ e. cc, tt); provides = λ ok. tt }

  bye_serves : (n : ℕ) → Serves told (record { selected = selected; tag = Count n; command = commands.Logout }) s bye
  bye_serves n = record { grants = λ g. (λ d. d, (λ d. d.1 refl, tt)); remains = λ other. absurd (other refl); provides = λ ok. tt }

module _ (s : Server) (selected : Option (List ℕ)) where
  offer_does : (n : ℕ) → CarriesOut (record { selected = selected; tag = Count n; command = commands.Capability }) s offer s selected
  offer_does n = record { stays = record { server = refl; selection = refl }; says = record { untagged = (tt, tt); code = tt } }

  enabled_does : (n : ℕ) → CarriesOut (record { selected = selected; tag = Count n; command = commands.Enable true }) s enabled s selected
  enabled_does n = record {
    stays = record { server = refl; selection = refl };
    says = ((refl, tt), tt);
    code = tt;
    names = codes "QRESYNC" ∷ [];
    told = (zero, omega arith, refl);
  }

  bye_does : (n : ℕ) → CarriesOut (record { selected = selected; tag = Count n; command = commands.Logout }) s bye s selected
  bye_does n = record { stays = record { server = refl; selection = refl }; says = (tt, tt); code = tt; bye = (zero, omega arith, refl) }

  module _ (name : List ℕ) (box : Mailbox) (there : box_at name s.boxes ≡ Some box) (empty : box.messages ≡ []) where
    select_does : (n : ℕ) →
        CarriesOut (record { selected = selected; tag = Count n; command = commands.Select name None }) s (says (of_empty box)) s (Some name)
    select_does n = record {
      box = box;
      there = there;
      server = refl;
      selection = refl;
      tells = record {
        before = [];
        told = of_empty box;
        parted = inr (refl, refl);
        of_old = tt;
        of_new = (ap (λ (ms : List Message). length ms) (sym empty), (refl, (refl, (refl, tt))));
        code_of_new = tt;
        exists = (zero, omega arith, ap (λ (ms : List Message). responses.Exists (length ms)) (sym empty));
        validity = inl (1, omega arith, refl);
        uidnext = inl (2, omega arith, refl);
        highest = inl (3, omega arith, refl);
        since_mark = tt;
      };
    }

    fetch_does : (n : ℕ) → CarriesOut (record { selected = Some name; tag = Count n; command = commands.FetchAll }) s (says []) s (Some name)
    fetch_does n = record {
      stays = record { server = refl; selection = refl };
      box = box;
      there = there;
      says = tt;
      code = tt;
      tells = λ uid m at. absurd (none-some m (subst (λ (ms : List Message). message_at uid ms ≡ Some m) empty at));
    }

module _ (old : Clock) (name : List ℕ) (box : Mailbox) (text : List ℕ) (whole : IsPartOf (Count 4) (commands.Select name None) [] text [])
    (there : box_at name old.now.outside.server.boxes ≡ Some box) (empty : box.messages ≡ []) where
  abbrev S : Server
  S = old.now.outside.server

  abbrev Made : Clock
  Made = becomes (λ p. record { server = p.server; waiting = None; talk = greeted (responses.Preauth codings.None) }) old

  begun : IsGoing Made Made
  begun = record {
    quiet = record { quiet = refl; idle = refl; rest = []; told = refl };
    serving = since_start Any IsServing Made;
    fair = since_start Any (IsFair mail played) Made;
    runs = since_start Any RunStep Made;
  }

  abbrev Ck1 : Clock
  Ck1 = answered (Count 1) commands.Capability offer None Made

  first : IsGoing Made Ck1
  first = exchange Made begun.quiet (Count 1) commands.Capability (first_of (parts_of (Count 1) commands.Capability))
      (capability_part 1 (omega arith) (omega arith)) offer None (offer_serves Made.now.outside.talk.told None S 1 [] refl) (offer_does S None 1)
      (by_sending Made (Count 1) commands.Capability (λ e. cc)) Made begun

  abbrev Ck2 : Clock
  Ck2 = answered (Count 2) commands.Capability offer None Ck1

  second : IsGoing Made Ck2
  second = exchange Ck1 first.quiet (Count 2) commands.Capability (first_of (parts_of (Count 2) commands.Capability))
      (capability_part 2 (omega arith) (omega arith)) offer None (offer_serves Ck1.now.outside.talk.told None S 2 first.quiet.rest first.quiet.told)
      (offer_does S None 2) (by_sending Ck1 (Count 2) commands.Capability (λ e. cc)) Made first

  abbrev Ck3 : Clock
  Ck3 = answered (Count 3) (commands.Enable true) enabled None Ck2

  third : IsGoing Made Ck3
  third = exchange Ck2 second.quiet (Count 3) (commands.Enable true) (first_of (parts_of (Count 3) (commands.Enable true)))
      (enable_part 3 (omega arith) (omega arith)) enabled None (enabled_serves Ck2.now.outside.talk.told None S 3) (enabled_does S None 3)
      (by_sending Ck2 (Count 3) (commands.Enable true) (λ e. cc)) Made second

  abbrev Ck4 : Clock
  Ck4 = answered (Count 4) (commands.Select name None) (says (of_empty box)) (Some name) Ck3

  fourth : IsGoing Made Ck4
  fourth = exchange Ck3 third.quiet (Count 4) (commands.Select name None) text whole (says (of_empty box)) (Some name)
      (select_serves Ck3.now.outside.talk.told None S 4 name box) (select_does S None name box there empty 4)
      (by_sending Ck3 (Count 4) (commands.Select name None) (λ e. cc)) Made third

  abbrev Ck5 : Clock
  Ck5 = answered (Count 5) commands.FetchAll (says []) (Some name) Ck4

  fifth : IsGoing Made Ck5
  fifth = exchange Ck4 fourth.quiet (Count 5) commands.FetchAll (first_of (parts_of (Count 5) commands.FetchAll))
      (fetch_part 5 (omega arith) (omega arith)) (says []) (Some name) (fetch_serves Ck4.now.outside.talk.told (Some name) S 5)
      (fetch_does S None name box there empty 5) (by_sending Ck4 (Count 5) commands.FetchAll (λ e. cc)) Made fourth

  abbrev Ck6 : Clock
  Ck6 = answered (Count 6) commands.Logout bye (Some name) Ck5

  sixth : IsGoing Made Ck6
  sixth = exchange Ck5 fifth.quiet (Count 6) commands.Logout (first_of (parts_of (Count 6) commands.Logout))
      (logout_part 6 (omega arith) (omega arith)) bye (Some name) (bye_serves Ck5.now.outside.talk.told (Some name) S 6)
      (bye_does S (Some name) 6)
      (λ a. inr (record { left = refl; right = refl; outside = record { told = Ck5.now.outside.talk.told; tag = Count 6; asks = a } })) Made fifth

  pub may_be_served : MayBeServed box old
  may_be_served = record {
    new = Ck6;
    runs = record {
      at = Made;
      connects = record {
        added = Made.now ∷ [];
        grown = refl;
        each = (tt, record { left = refl; right = refl; outside = begins (responses.Preauth codings.None) tt }, tt);
      };
      behind = sixth.runs;
    };
    told = refl;
    fair = since_then Any (IsFair mail played) old Made Ck6
        (record { added = Made.now ∷ []; grown = refl; each = (tt, fair_step old.now Made.now refl, tt) }) sixth.fair;
    serving = record {
      made = Made;
      before = record { added = Made.now ∷ []; grown = refl; each = (tt, tt, tt) };
      fresh = record { greeting = responses.Preauth codings.None; greets = tt; quiet = refl; talk = refl };
      hello = no_bye [] Made.now.outside.talk refl;
      later = sixth.serving;
    };
  }

pub may_serve : MayServe
may_serve old name box text whole there empty = may_be_served old name box text whole there empty
