-- How a drill was held: what was done in its world, one thing behind another.
use Rattle.std.specs.Prelude.{◌≡◌, ◌⊎◌, ℕ, suc, ◌+◌, ◌*◌, ◌≤◌, nat_le, List, [], ◌∷◌, Option, None, codes, if◌then◌else◌}
use Rattle.mail_base.specs.declared.status.Status.{Status}
use Rattle.mail_base.specs.declared.status.Status.TheVariants as status
use Rattle.world_mem.specs.Draws.{next}
use Rattle.world_mem.specs.declared.mem_world.MemWorld.{MemWorld}
use Rattle.world_mem.specs.declared.plan.Plan.{Plan}
use Rattle.mail_drill.specs.Beginning.{IsNew}
use Rattle.mail_drill.specs.Came.{Begins, Runs}
use Rattle.mail_drill.specs.Misfortunes.{misfortune_at, nothing_fails, pick_of, plan_of}
use Rattle.mail_drill.specs.Orders.{behind_order, order_at}
use Rattle.mail_drill.specs.Texts.{input_of, words_of}

abbrev pub init_words : List (List ℕ)
init_words = codes "init" ∷ codes "INBOX" ∷ codes "Archive" ∷ []

abbrev pub play_words : List (List ℕ)
play_words = codes "play" ∷ []

-- The journal of a new world was set up and its mailboxes fetched, and then so many commands were given, in their order: the next one
-- has this number, and this number is what the draws left.
pub data Gives (size seed : ℕ) : ℕ → ℕ → MemWorld → Type 0 where
  sets_up : {new w v : MemWorld} {ready synced : List ℕ} → IsNew size new → Runs init_words [] new w status.Done ready
      → Runs play_words [] w v status.Done synced → Gives size seed 1 seed v
  goes_on : {number x : ℕ} {w v : MemWorld} {s : Status} {text : List ℕ} → Gives size seed number x w
      → Runs (words_of (order_at size number x)) (input_of (order_at size number x)) w v s text → Gives size seed (suc number) (behind_order x) v

-- `play` came to its end
abbrev pub CameToItsEnd : Status → Type 0
CameToItsEnd s = (s ≡ status.Done) ⊎ (s ≡ status.Conflicts)

-- So many rounds were played from the first world on, each begun with a misfortune of its own, and none of them came to its end or passed a
-- limit: the next one has this number, this number is what the draws left, and where the last one was to be stopped, the next one goes on by
-- this pick.
pub data Plays (first : MemWorld) (seed : ℕ) : ℕ → ℕ → Option ℕ → MemWorld → Type 0 where
  none : Plays first seed 1 seed None first
  again : {number x : ℕ} {pick : Option ℕ} {w v u : MemWorld} {s : Status} {text : List ℕ} → Plays first seed number x pick w → number ≤ 100
      → Begins pick (plan_of (misfortune_at number x)) w v → Runs play_words [] v u s text → (CameToItsEnd s → ⊥) → (s ≡ status.Limit → ⊥)
      → Plays first seed (suc number) (next (next x)) (pick_of (misfortune_at number x)) u

-- the plan of a round: from the hundred and first on nothing goes wrong
abbrev pub plan_in : ℕ → ℕ → Plan
plan_in number x = if nat_le number 100 then plan_of (misfortune_at number x) else nothing_fails

-- The last round: of at most a hundred and one, behind those before it. It ended with this status and this text.
pub record EndsPlaying (first : MemWorld) (seed : ℕ) (world : MemWorld) (s : Status) (text : List ℕ) : Type 0 where
  pub number : ℕ
  pub most : number ≤ 101
  pub x : ℕ
  pub pick : Option ℕ
  pub before : MemWorld
  pub plays : Plays first seed number x pick before
  pub begun : MemWorld
  pub begins : Begins pick (plan_in number x) before begun
  pub runs : Runs play_words [] begun world s text

-- All of a drill's commands were given, and its rounds played to the last one, which ended with this status and this text.
pub record WasHeld (size seed : ℕ) (world : MemWorld) (s : Status) (text : List ℕ) : Type 0 where
  pub first : MemWorld
  pub x : ℕ
  pub gives : Gives size seed (2 * size + 1) x first
  pub plays : EndsPlaying first x world s text

-- Its last run passed a limit, and this is the line that was printed: as the mailboxes were fetched, as a command was given, or in a round.
-- (`init` passes none, so the first case doesn't come.)
pub data PassesLimit (size seed : ℕ) (world : MemWorld) (text : List ℕ) : Type 0 where
  at_init : {new : MemWorld} → IsNew size new → Runs init_words [] new world status.Limit text → PassesLimit size seed world text
  at_first : {new w : MemWorld} {ready : List ℕ} → IsNew size new → Runs init_words [] new w status.Done ready
      → Runs play_words [] w world status.Limit text → PassesLimit size seed world text
  at_command : {number x : ℕ} {w : MemWorld} → number ≤ 2 * size → Gives size seed number x w
      → Runs (words_of (order_at size number x)) (input_of (order_at size number x)) w world status.Limit text
      → PassesLimit size seed world text
  in_a_round : WasHeld size seed world status.Limit text → PassesLimit size seed world text
