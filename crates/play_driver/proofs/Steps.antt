-- What withstands each step is kept by runs of steps.
use Rattle.std.proofs.Common.{◌≡◌, Bool, true, false, Option, Some, None, sym, subst}
use Rattle.imap_model.specs.Carrying.{Waiting}
use Rattle.imap_model.specs.Changes.{Batch}
use Rattle.imap_model.specs.Talking.{Peer}
use Rattle.imap_model.specs.declared.server.Server.{Server}
use Rattle.world_traits.specs.Links.{Any}
use Rattle.world_traits.specs.Moments.{Moment, Clock, Since}
use Rattle.world_traits.proofs.Passing.{since_weaker}
use Rattle.world_traits.proofs.Traces.{since_carry, carried_now}
use Rattle.store_core.specs.Keeping.{Keeping}
use Rattle.store_core.proofs.Folding.{OneEvent}
use Rattle.store_core.specs.Steps.{EachBook, chosen}
use Rattle.play_driver.specs.States.{State, state_of}
use Rattle.play_driver.specs.Machine.{Relation, Machine, Withstands, IsGood, Step}
use Rattle.play_driver.specs.Machine.Step.{rests, begins, firm, chooses, sends, asks, carries_out, foreign, connects}
use Rattle.play_driver.specs.Joining.{IsKept, Joined}
use Rattle.play_driver.proofs.EachOf.{each_as, each_both}
use Rattle.play_driver.proofs.Kept.{kept_books, books_kept}

module _ (K : Keeping) (M : Machine K) (R : Relation K) (stands : Withstands K M R) where
  module _ (x : State K) where
    abbrev Here : Option K.Book → Type 0
    Here b = R b x.server x.waiting

    abbrev Beside : Option Waiting → Option K.Book → Type 0
    Beside w b = R b x.server w

    chose : (first : Bool) (b c : Option K.Book) → Here b → Here c → Here (chosen first b c)
    chose true b c p q = p
    chose false b c p q = q

    -- the same with the waiting command spelled out
    waits_as : (w : Option Waiting) → x.waiting ≡ w → IsGood K R x → EachBook K (Beside w) x.books
    waits_as w is h = subst (λ (v : Option Waiting). EachBook K (Beside v) x.books) is h

    others_keep : (b : Option K.Book) (p : Peer) (t : Server) → p.server ≡ x.server → p.waiting ≡ x.waiting → Batch x.server.boxes x.server t → M.Spares b p t →
        Here b → R b t x.waiting
    others_keep b p t server waiting batch spares here =
        subst (R b t) waiting (stands.others b p t (subst (λ (s : Server). Batch s.boxes s t) (sym server) batch) spares
        (subst (λ (s : Server). R b s p.waiting) (sym server) (subst (R b x.server) (sym waiting) here)))

    pub step_keeps : (y : State K) → Step K M x y → IsGood K R x → IsGood K R y
    step_keeps y rests h = h
    step_keeps y (begins version b e is may permits) h =
        let here = subst (EachBook K Here) is h in
        (here, stands.event version b e x.server x.waiting may permits here)
    step_keeps y (firm b c is) h = (subst (EachBook K Here) is h).1
    step_keeps y (chooses first b c is) h =
        let both = subst (EachBook K Here) is h in
        chose first b c both.0 both.1
    step_keeps y (sends b w is quiet may) h =
        let here = subst (EachBook K (Beside None)) is (waits_as None quiet h) in
        subst (EachBook K (Beside (Some w))) (sym is) (stands.sent b x.server w may here)
    step_keeps y (asks w quiet question) h =
        each_as K (Beside None) (Beside (Some w)) (λ b p. stands.asked b x.server w question p) x.books (waits_as None quiet h)
    step_keeps y (carries_out w r t after waits out) h =
        each_as K (Beside (Some w)) (λ b. R b t None) (λ b p. stands.carried b w x.server r t after out p) x.books (waits_as (Some w) waits h)
    step_keeps y (foreign p t server waiting batch spares) h =
        each_both K (λ b. M.Spares b p t) Here (λ b. R b t x.waiting) (λ b spared here. others_keep b p t server waiting batch spared here) x.books spares h
    step_keeps y connects h = each_as K Here (Beside None) (λ b p. stands.dropped b x.server x.waiting p) x.books h

  module _ (one : OneEvent K) where
    -- from moment to moment
    pub joined_keeps : (m n : Moment) → Joined K M m n → IsKept K R m → IsKept K R n
    joined_keeps m n j k =
        books_kept K R j.new n j.at_new
        (step_keeps (state_of K j.old m.outside) (state_of K j.new n.outside) j.step (kept_books K R one j.old m k j.at_old))

    -- over many moments
    pub run_keeps : (old new : Clock) → IsKept K R old.now → Since Any (Joined K M) old new → Since (IsKept K R) (Joined K M) old new
    run_keeps old new k s =
        since_weaker (λ m. Any m × IsKept K R m) (IsKept K R) (λ m n. IsKept K R m × Joined K M m n) (Joined K M) (λ m p. p.1) (λ m n p. p.1) old new
        (since_carry Any (IsKept K R) (Joined K M) (λ m n any j h. joined_keeps m n j h) old k new s)

    pub run_kept : (old new : Clock) → IsKept K R old.now → Since Any (Joined K M) old new → IsKept K R new.now
    run_kept old new k s = carried_now Any (IsKept K R) (Joined K M) (λ m n any j h. joined_keeps m n j h) old k new s
