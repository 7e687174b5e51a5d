-- The deeds of an action, as the history grows.
use Rattle.std.proofs.Common.{◌≡◌, ℕ, true, false, List, [], ◌∷◌, ◌++◌, refl, sym, ◌∙◌, ap, subst}
use Rattle.std.proofs.lemmas.Bool.{cond-true, cond-false}
use Rattle.imap_model.specs.Ours.{is_ours, ours}
use Rattle.imap_model.specs.Changes.{deed_of, Batch}
use Rattle.imap_model.specs.Changes.Batch.{none, more}
use Rattle.imap_model.proofs.Finding.{cond_two}
use Rattle.imap_model.specs.declared.server.Mailbox.{Mailbox}
use Rattle.imap_model.specs.declared.deed.Deed.{Deed}
use Rattle.imap_model.specs.declared.server.Server.{Server}
use Rattle.imap_model.specs.declared.deed.Author.{Author}
use Rattle.imap_model.specs.declared.deed.Author.TheVariants.{Ours, Other}
use Rattle.imap_model.specs.declared.deed.Change.{Change}
use Rattle.imap_model.specs.declared.deed.Change.TheVariants as changes
use Rattle.book_laws.proofs.Queueing.{Stays, QueueGrows, resolved_stays}
use Rattle.action_queue.specs.declared.action.Action.{Action}
use Rattle.action_queue.specs.declared.action.Action.TheVariants as actions
use Rattle.action_queue.specs.declared.queued.Queued.{Queued}
use Rattle.book_laws.specs.Wanted.{IsWanted}
use Rattle.book_laws.specs.Once.{IsOwned, AllOwned}
use Rattle.book_laws.specs.Kept.{NoneOurs}

pub ours_push_other : (n : ℕ) (d : Deed) (h : List Deed) → is_ours n d.author ≡ false → ours n (h ++ d ∷ []) ≡ ours n h
ours_push_other n d [] f = cond-false (is_ours n d.author) (d ∷ []) [] f
ours_push_other n d (x ∷ xs) f =
    cond_two (is_ours n x.author) (x ∷ ours n (xs ++ d ∷ [])) (ours n (xs ++ d ∷ [])) (x ∷ ours n xs) (ours n xs) (λ (l k : List Deed). l ≡ k)
    (λ t. ap (λ (l : List Deed). x ∷ l) (ours_push_other n d xs f)) (λ u. ours_push_other n d xs f)

pub ours_push_mine : (n : ℕ) (d : Deed) (h : List Deed) → is_ours n d.author ≡ true → ours n (h ++ d ∷ []) ≡ ours n h ++ d ∷ []
ours_push_mine n d [] t = cond-true (is_ours n d.author) (d ∷ []) [] t
ours_push_mine n d (x ∷ xs) t =
    cond_two (is_ours n x.author) (x ∷ ours n (xs ++ d ∷ [])) (ours n (xs ++ d ∷ [])) (x ∷ ours n xs) (ours n xs) (λ (l k : List Deed). l ≡ k ++ d ∷ [])
    (λ _. ap (λ (l : List Deed). x ∷ l) (ours_push_mine n d xs t)) (λ _. ours_push_mine n d xs t)

pub owned_push : (queue : List Queued) (d : Deed) (h : List Deed) → IsOwned queue d d.author → AllOwned queue h → AllOwned queue (h ++ d ∷ [])
owned_push queue d [] o a = (o, tt)
owned_push queue d (x ∷ xs) o a = (a.0, owned_push queue d xs o a.1)

wanted_grows : (old new : List Queued) (action : Action) (name : List ℕ) (validity : ℕ) (change : Change) → QueueGrows old new →
    IsWanted old action name validity change → IsWanted new action name validity change
wanted_grows old new (actions.Flag target add asked) name validity (changes.SetFlags uid flags) g w =
    (resolved_stays old new target name validity uid g w.0, w.1)
wanted_grows old new (actions.Flag target add asked) name validity (changes.Add flags text uid) g w = w
wanted_grows old new (actions.Flag target add asked) name validity (changes.Drop uid) g w = w
wanted_grows old new (actions.Flag target add asked) name validity (changes.Shift uid to received) g w = w
wanted_grows old new (actions.Flag target add asked) name validity (changes.Reset under uids uidnext highest) g w = w
wanted_grows old new (actions.Move target to) name validity (changes.Shift uid other received) g w =
    (resolved_stays old new target name validity uid g w.0, w.1)
wanted_grows old new (actions.Move target to) name validity (changes.Add flags text uid) g w = w
wanted_grows old new (actions.Move target to) name validity (changes.SetFlags uid flags) g w = w
wanted_grows old new (actions.Move target to) name validity (changes.Drop uid) g w = w
wanted_grows old new (actions.Move target to) name validity (changes.Reset under uids uidnext highest) g w = w
wanted_grows old new (actions.Append to flags text id) name validity (changes.Add others content uid) g w = w
wanted_grows old new (actions.Append to flags text id) name validity (changes.SetFlags uid others) g w = w
wanted_grows old new (actions.Append to flags text id) name validity (changes.Drop uid) g w = w
wanted_grows old new (actions.Append to flags text id) name validity (changes.Shift uid other received) g w = w
wanted_grows old new (actions.Append to flags text id) name validity (changes.Reset under uids uidnext highest) g w = w

one_grows : (old new : List Queued) (d : Deed) (author : Author) → QueueGrows old new → IsOwned old d author → IsOwned new d author
one_grows old new d Other g o = tt
one_grows old new d (Ours tag) g o =
    let s : Stays o.queued new o.place = g.each o.place o.queued o.there in
    record {
      place = o.place;
      queued = s.queued;
      there = s.there;
      tagged = o.tagged;
      wanted =
          subst (λ (a : Action). IsWanted new a d.name d.validity d.change) (sym s.action)
          (wanted_grows old new o.queued.action d.name d.validity d.change g o.wanted);
    }

pub owned_grows : (old new : List Queued) (h : List Deed) → QueueGrows old new → AllOwned old h → AllOwned new h
owned_grows old new [] g a = tt
owned_grows old new (d ∷ ds) g a = (one_grows old new d d.author g a.0, owned_grows old new ds g a.1)

none_owned : (queue : List Queued) (d : Deed) → d.author ≡ Other → IsOwned queue d d.author
none_owned queue d e = subst (λ (a : Author). IsOwned queue d a) (sym e) tt

pub all_none_owned : (queue : List Queued) (h : List Deed) → NoneOurs h → AllOwned queue h
all_none_owned queue [] n = tt
all_none_owned queue (d ∷ ds) n = (none_owned queue d n.0, all_none_owned queue ds n.1)

pub none_ours : (n : ℕ) (h : List Deed) → NoneOurs h → ours n h ≡ []
none_ours n [] o = refl
none_ours n (d ∷ ds) o = cond-false (is_ours n d.author) (d ∷ ours n ds) (ours n ds) (ap (is_ours n) o.0) ∙ none_ours n ds o.1

none_push : (d : Deed) (h : List Deed) → d.author ≡ Other → NoneOurs h → NoneOurs (h ++ d ∷ [])
none_push d [] o n = (o, tt)
none_push d (x ∷ xs) o n = (n.0, none_push d xs o n.1)

-- changes by others leave our deeds
pub batch_ours : (n : ℕ) (base : List Mailbox) (s t : Server) → Batch base s t → ours n t.history ≡ ours n s.history
batch_ours n base s t none = refl
batch_ours n base s t (more {m = mid} name change c b) =
    batch_ours n base mid t b ∙ ap (ours n) c.history ∙ ours_push_other n (deed_of Other name change mid.boxes) s.history refl

pub batch_owned : (queue : List Queued) (base : List Mailbox) (s t : Server) → Batch base s t → AllOwned queue s.history → AllOwned queue t.history
batch_owned queue base s t none a = a
batch_owned queue base s t (more {m = mid} name change c b) a =
    batch_owned queue base mid t b (subst (λ (h : List Deed). AllOwned queue h) (sym c.history)
    (owned_push queue (deed_of Other name change mid.boxes) s.history tt a))

pub batch_none : (base : List Mailbox) (s t : Server) → Batch base s t → NoneOurs s.history → NoneOurs t.history
batch_none base s t none a = a
batch_none base s t (more {m = mid} name change c b) a =
    batch_none base mid t b (subst NoneOurs (sym c.history) (none_push (deed_of Other name change mid.boxes) s.history refl a))
