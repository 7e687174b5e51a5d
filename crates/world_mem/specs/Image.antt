-- The image that a pick takes of those which a stop may leave (this project's own rule).
use Rattle.std.specs.Prelude.{ℕ, zero, suc, ◌%◌, ◌^◌, cond, List, [], ◌∷◌, ◌++◌, length, slice_index}
use Rattle.world_traits.specs.Files.{Files, furthest}
use Rattle.world_mem.specs.declared.files.Files.{Files as OwnFiles}
use Rattle.world_mem.specs.Draws.{next, after, drawn}
use Rattle.world_mem.specs.Torn.{Torn}
use Rattle.world_mem.specs.Unsynced.{is_unsynced, unsynced_before}
use Rattle.world_mem.specs.Both.{Both}

-- what a draw makes of an unsynced byte: the synced one, the written one, or 1
abbrev pub chosen : ℕ → ℕ → ℕ → ℕ
chosen zero kept written = kept
chosen (suc zero) kept written = written
chosen (suc (suc n)) kept written = 1

-- The byte at a place, where a draw for it leaves this number: an unsynced one is drawn, any other stays.
-- (Past the synced end `slice_index` gives 0.)
unfoldable pub byte_by : ℕ → Torn → ℕ → ℕ
byte_by x file k =
    let kept = slice_index file.stored.synced k in
    cond (is_unsynced file.stored k) (chosen (drawn 3 x) kept (slice_index file.reads k)) kept

-- the byte at a place, where the draws for the unsynced bytes before it were begun at this number
abbrev pub byte_at : ℕ → Torn → ℕ → ℕ
byte_at x file k = byte_by (next (after (unsynced_before file.stored k) x)) file k

-- the bytes that stand at the places below n
abbrev pub tabulated : (ℕ → ℕ) → ℕ → List ℕ
tabulated f zero = []
tabulated f (suc n) = tabulated f n ++ f n ∷ []

-- the furthest length
abbrev pub reach : Torn → ℕ
reach file = furthest file.stored.written (length file.stored.synced)

-- the image of one file by the draws from this number on
abbrev pub drawn_image : ℕ → Torn → List ℕ
drawn_image x file = tabulated (byte_at x file) (reach file)

-- the number that its draws leave
abbrev pub behind : ℕ → Torn → ℕ
behind x file = after (unsynced_before file.stored (reach file)) x

-- the images of both files, of which the left one is drawn first
abbrev pub drawn_images : ℕ → Both → Files
drawn_images x files = record {
  left = drawn_image x files.left;
  right = drawn_image (behind x files.left) files.right;
}

-- By the number of the pick: at 0 no unsynced byte is kept, at 1 all are, and else draws begun at it decide.
abbrev pub image_of : ℕ → Both → Files
image_of zero files = record { left = files.left.stored.synced; right = files.right.stored.synced }
image_of (suc zero) files = record { left = files.left.reads; right = files.right.reads }
image_of (suc (suc n)) files = drawn_images (suc (suc n) % 2 ^ 32) files

-- the bytes of both files, as the definitions have them
abbrev pub bytes_of : OwnFiles → Files
bytes_of files = record { left = files.left; right = files.right }
