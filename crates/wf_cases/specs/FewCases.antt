-- Worked cases of the halo check's few patches, beside the rule over all of them.
use Rattle.std.specs.Prelude.{ℕ, ◌≡◌, true, false, List, [], ◌∷◌, ◌++◌, pos, negsuc}
use Rattle.wf_model.specs.declared.plan.Item.{Item}
use Rattle.wf_model.specs.declared.plan.Item.TheVariants as item
use Rattle.wf_model.specs.declared.plan.Plan.{Plan}
use Rattle.wf_model.specs.Covered.{Asked}
use Rattle.wf_model.specs.Uncovered.{is_patch_covered, is_read_covered}
use Rattle.wf_check_laws.specs.Repeats.{next_x, columns_left, is_covered_at_few}
use Rattle.wf_cases.specs.HaloCases.{halo, phase, plan, reads}

-- ---- a row of 16 points: a is changed, and two phases with the margins 1 and 3 read it

abbrev pub margins : List Item → Plan
margins between =
    plan false 16 1 (item.Phase (phase 0 0 0 0)
    ∷ between ++ (item.Phase (phase 1 1 0 0) ∷ item.Phase (phase 1 3 0 0) ∷ []))

-- the second phase reads a[1,0,0], the third a[-1,0,0]
abbrev pub east : ℕ → Asked
east n = reads (phase 1 1 0 0) n (pos 1) (pos 0)

abbrev pub west : ℕ → Asked
west n = reads (phase 1 3 0 0) n (negsuc 0) (pos 0)

abbrev pub with_halo : Plan
with_halo = margins (halo false 1 ∷ [])

-- columns are counted from 0: those near an end of the row or of a region are left
pub record FewColumns : Type 0 where
  pub left : columns_left with_halo (east 2) ≡ 0 ∷ 1 ∷ 2 ∷ 3 ∷ 4 ∷ 12 ∷ 13 ∷ 14 ∷ 15 ∷ []
  pub stays : next_x with_halo (east 2) 4 ≡ 4
  pub leaps : next_x with_halo (east 2) 5 ≡ 12
  pub east_at_few : is_covered_at_few with_halo (east 2) ≡ true
  pub east_at_all : is_read_covered with_halo (east 2) ≡ true
  pub west_at_few : is_covered_at_few with_halo (west 3) ≡ true
  pub west_at_all : is_read_covered with_halo (west 3) ≡ true
  pub without_halo_at_few : is_covered_at_few (margins []) (east 1) ≡ false
  pub without_halo_at_all : is_read_covered (margins []) (east 1) ≡ false

-- ---- a phase with a margin of 1 and an extend of 1 stands in the halo's place

abbrev pub extended : Plan
extended = margins (item.Phase (phase 0 1 0 1) ∷ [])

-- one patch alone fails, the last but one: it reads the last point, which the extend leaves out
pub record OneColumnFails : Type 0 where
  pub before : is_patch_covered extended (east 2) 13 ≡ true
  pub fails : is_patch_covered extended (east 2) 14 ≡ false
  pub at_few : is_covered_at_few extended (east 2) ≡ false
  pub at_all : is_read_covered extended (east 2) ≡ false
