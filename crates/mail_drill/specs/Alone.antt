-- A time in which nobody else changed anything at a server.
use Rattle.std.specs.Prelude.{Bool, true, false, List, ◌∷◌}
use Rattle.std.specs.List.{list_all}
use Rattle.imap_model.specs.declared.deed.Author.{Author}
use Rattle.imap_model.specs.declared.deed.Author.TheVariants.{Other, Ours}
use Rattle.imap_model.specs.declared.deed.Deed.{Deed}
use Rattle.world_traits.specs.Moments.{Moment, Clock}

-- this client made the change
abbrev pub is_own : Author → Bool
is_own Other = false
is_own (Ours tag) = true

-- this client made each of these changes
abbrev pub are_own : List Deed → Bool
are_own history = list_all (λ (d : Deed). is_own d.author) history

-- so it is in the server's history at a moment
abbrev pub is_own_at : Moment → Bool
is_own_at m = are_own m.outside.server.history

-- and at each moment so far
abbrev pub is_alone : Clock → Bool
is_alone c = list_all is_own_at (c.now ∷ c.past)
