-- A text is the same in whatever pieces it comes (RFC 9051, section 2.2.1).
use Rattle.std.specs.Prelude.{ℕ, List, ◌++◌}
use Rattle.imap_model.specs.declared.response.Response.{Response}
use Rattle.server_mem.specs.Hearing.{Hears}
use Rattle.server_mem.specs.States.{State}

-- what is heard in two pieces is what is heard in one
abbrev pub TwoPieces : Type 0
TwoPieces = (s : State) (one two : List ℕ) (told : List Response) (t : State) (later : List Response) (u : State)
    → Hears s one told t → Hears t two later u → Hears s (one ++ two) (told ++ later) u
