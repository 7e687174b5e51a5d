-- A disk at rest has one image, and link calls leave it at rest.
use Rattle.std.proofs.Common.{◌≡◌, ℕ, List, ◌∙◌, ap, subst}
use Rattle.world_traits.specs.Files.{Stored, MayHold, Files, clean}
use Rattle.world_traits.specs.Moments.{Moment, MayLeave, Rests}
use Rattle.world_traits.proofs.Images.{image_clean}

holds_clean_only : (file : Stored) (bytes c : List ℕ) → file ≡ clean bytes → MayHold file c → c ≡ bytes
holds_clean_only file bytes c is h = image_clean bytes c (subst (λ (s : Stored). MayHold s c) is h)

same_files : (f g : Files) → f.left ≡ g.left → f.right ≡ g.right → f ≡ g
same_files f g l r = ap (λ (x : List ℕ). record f { left = x }) l ∙ ap (λ (x : List ℕ). record { left = g.left; right = x }) r

-- the one image
pub resting : (m : Moment) (seen files : Files) → Rests m seen → MayLeave m files → files ≡ seen
resting m seen files rests h = same_files files seen (holds_clean_only m.left seen.left files.left rests.left h.left)
    (holds_clean_only m.right seen.right files.right rests.right h.right)
