-- A file between two syncs keeps an image of the furthest length as what it reads as.
use Rattle.std.proofs.Common.{◌≡◌, ℕ, ◌+◌, List, [], ◌∷◌, ◌++◌, length, reverse, Option, Vec, Bool, ◌<◌, ◌||◌, sym, ◌∙◌, ap, subst, arith}
use Rattle.std.proofs.lemmas.Bool.{lt-leb}
use Rattle.std.proofs.lemmas.List.{reverse-append}
use Rattle.std.proofs.lemmas.List.Sorted.{list_any-IsPermutation, IsPermutation-reverse}
use Rattle.std.specs.List.{list_any}
use Rattle.std.specs.declared.alloc.Global.{Global}
use Rattle.world_traits.specs.Content.{content}
use Rattle.world_traits.specs.Files.{Range, put, furthest}
use Rattle.world_traits.specs.Sound.{holds_put, length-put}
use Rattle.world_mem.specs.Torn.{Torn, IsWhole, wrote, torn_file}
use Rattle.world_mem.specs.Unsynced.{covers, is_unsynced}

wrote_whole : (at : ℕ) (bytes : List ℕ) (file : Torn) → IsWhole file → IsWhole (wrote at bytes file)
wrote_whole at bytes file h =
    let full : length file.reads ≡ furthest file.stored.written (length file.stored.synced) = h.full in
    record {
      lawful = holds_put file.stored file.reads at bytes h.lawful;
      full = omega (arith, length-put at bytes file.reads);
    }

-- the newest range stands in front
newest : (written : List Range) (range : Range) → reverse (written ++ range ∷ []) ≡ range ∷ reverse written
newest written range = reverse-append written (range ∷ [])

module _ (synced : List ℕ) (later next : Option (Vec ℕ Global)) (written more : List Range) (at : ℕ) (bytes : List ℕ) where
  abbrev range : Range
  range = record { low = at; high = at + length bytes }

  -- a write takes the file on
  pub write_is : content synced next ≡ put at bytes (content synced later) → more ≡ written ++ range ∷ [] →
      torn_file synced next more ≡ wrote at bytes (torn_file synced later written)
  write_is reads ranges =
      ap (λ (b : List ℕ). record { stored = record { synced = synced; written = reverse more }; reads = b }) reads
      ∙ ap (λ (rs : List Range). record { stored = record { synced = synced; written = rs }; reads = put at bytes (content synced later) })
      (ap (λ (rs : List Range). reverse rs) ranges ∙ newest written range)

  -- and keeps that
  pub write_whole : IsWhole (torn_file synced later written) → content synced next ≡ put at bytes (content synced later) →
      more ≡ written ++ range ∷ [] → IsWhole (torn_file synced next more)
  write_whole h reads ranges = subst IsWhole (sym (write_is reads ranges)) (wrote_whole at bytes (torn_file synced later written) h)

-- a place below the synced end is unsynced where one of the ranges has it, in whatever order they stand
pub unsynced_by : (synced : List ℕ) (later : Option (Vec ℕ Global)) (written : List Range) (k : ℕ) (r : Bool) → k < length synced →
    r ≡ list_any (covers k) written → r ≡ is_unsynced (torn_file synced later written).stored k
unsynced_by synced later written k r lt is =
    is
    ∙ list_any-IsPermutation (covers k) written (reverse written) (IsPermutation-reverse written)
    ∙ ap (λ (past : Bool). past || list_any (covers k) (reverse written)) (sym (lt-leb (length synced) k lt))
