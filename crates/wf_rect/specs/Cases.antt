-- Blocks, owners and boxes worked by hand.
use Rattle.std.specs.Prelude.{◌≡◌, ℕ, pos, neg_ℤ, [], ◌∷◌, map}
use Rattle.wf_rect.specs.Blocks.{block_start, IsTheOne}
use Rattle.wf_rect.specs.Owners.{IsInPatch}
use Rattle.wf_rect.specs.Boxes.{box, shared}
use Rattle.wf_rect.specs.Tiles.{tile}

-- the patch, of 3 by 2 over 7 by 5 points, that owns the point at i and j
abbrev pub IsOwner : ℕ → ℕ → ℕ → Type 0
IsOwner i j p = IsTheOne 6 (λ q. IsInPatch 3 2 7 5 q i j) p

pub record WorkedCases : Type 0 where
  -- the starts of 3 blocks over 7 places, and the end
  pub starts : map (λ p. block_start p 3 7) (0 ∷ 1 ∷ 2 ∷ 3 ∷ []) ≡ 0 ∷ 2 ∷ 4 ∷ 7 ∷ []
  -- the first of 3 blocks over 2 places is empty
  pub none : block_start 1 3 2 ≡ 0
  pub south_west : IsOwner 1 1 0
  pub south_east : IsOwner 5 2 2
  pub middle : IsOwner 4 3 4
  pub north_east : IsOwner 7 5 5
  pub meeting :
      shared (box (pos 1) (pos 6) (neg_ℤ (pos 2)) (pos 4)) (box (pos 4) (pos 9) (pos 1) (pos 3))
      ≡ box (pos 4) (pos 6) (pos 1) (pos 3)
  pub first_tile : tile (box (pos 1) (pos 6) (neg_ℤ (pos 2)) (pos 3)) 2 0
      ≡ box (pos 1) (pos 6) (neg_ℤ (pos 2)) (pos 0)
  pub last_tile : tile (box (pos 1) (pos 6) (neg_ℤ (pos 2)) (pos 3)) 2 1
      ≡ box (pos 1) (pos 6) (pos 0) (pos 3)
  -- a box without rows has empty tiles
  pub empty_tile : tile (box (pos 1) (pos 6) (pos 3) (pos 3)) 2 1
      ≡ box (pos 1) (pos 6) (pos 3) (pos 3)
