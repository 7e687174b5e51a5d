-- A run's course so far: the servers of its moments, and what was said in its connection (RFC 9051, section 2.2).
use Rattle.std.specs.Prelude.{◌≡◌, ◌⊎◌, ℕ, List, [], ◌∷◌, Option}
use Rattle.imap_model.specs.CarriedOut.{CarriesOut}
use Rattle.imap_model.specs.Carrying.{Waiting}
use Rattle.imap_model.specs.declared.replies.Replies.{Replies}
use Rattle.imap_model.specs.declared.server.Server.{Server}

-- A command that was answered, the server before and behind it, and the reply that was received: it was carried out, or it was refused
-- in place of a request to go on (an APPEND that is refused so never waits), and then nothing changed.
pub record Said : Type 0 where
  pub command : Waiting
  pub before : Server
  pub behind : Server
  pub reply : Replies

-- `first` is the server as the run's connection was made, and `now` the last one; of `past` and `said` the last ones stand first
pub record Course : Type 0 where
  pub first : Server
  pub now : Server
  pub past : List Server
  pub said : List Said

-- it is one of these
abbrev pub IsAmong : {A : Type 0} → A → List A → Type 0
IsAmong x [] = ⊥
IsAmong x (y ∷ ys) = (x ≡ y) ⊎ IsAmong x ys

-- The course tells the truth: the connection's first server is one of the run's moments; each command stands between two of them, and
-- its reply is one by which a server carries it out, or refuses it. A refusal in place of a request to go on is one of the latter.
pub record IsCourse (c : Course) : Type 0 where
  pub first : IsAmong c.first (c.now ∷ c.past)
  pub said : (e : Said) → IsAmong e c.said → IsAmong e.before (c.now ∷ c.past) × IsAmong e.behind (c.now ∷ c.past)
      × ((after : Option (List ℕ)) × CarriesOut e.command e.before e.reply e.behind after)

-- at a moment of the run this was so of the server
abbrev pub AtMoment : (Server → Type 0) → Course → Type 0
AtMoment P c = (s : Server) × IsAmong s (c.now ∷ c.past) × P s

-- a command with its reply of which this is so
abbrev pub WasSaid : (Said → Type 0) → Course → Type 0
WasSaid P c = (e : Said) × IsAmong e c.said × P e
