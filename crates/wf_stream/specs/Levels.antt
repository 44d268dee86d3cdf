-- Levels of a domain, of which only what the plan says of domain and field is known.
use Rattle.std.specs.Prelude.{◌≡◌, ℕ, ◌+◌, ◌-◌, ◌*◌, List, [], ◌∷◌, ◌++◌, length, take, drop}
use Rattle.std.specs.Prelude.{flat_map, ℤ, if◌then◌else◌, slice_index_or}
use Rattle.std.specs.List.{range_with_len}
use Rattle.wf_model.specs.declared.header.Header.{Header}
use Rattle.wf_model.specs.declared.plan.Domain.{Domain}
use Rattle.wf_model.specs.declared.plan.Field.{Field}
use Rattle.wf_model.specs.declared.plan.Plan.{Plan}
use Rattle.wf_model.specs.InputOf.{Asked, asked, is_input, level_read, zeros}
use Rattle.wf_model.specs.Outcome.{no_list}
use Rattle.wf_model.specs.Plans.{nx, ny, nz}
use Rattle.wf_model.specs.Sound.{IsLevel}
use Rattle.wf_model.specs.Streams.{one_if}

-- the lengths of a level in files
abbrev pub shape_in : Domain → Field → List ℕ
shape_in domain field = (if field.z then field.nz ∷ [] else [])
    ++ ((domain.jde - 1 + one_if field.stag_y) ∷ ((domain.ide - 1 + one_if field.stag_x) ∷ []))

-- the variable of a level in an input file
abbrev pub asked_in : Domain → Field → Asked
asked_in domain field = asked field.dname 4 (shape_in domain field)

-- what a level begins with where there is an input file
abbrev pub level_begin : Plan → ℕ → List ℕ → Header → ℕ → List ℤ
level_begin plan d bytes h f =
    if is_input plan f then level_read plan d 0 bytes h f else zeros plan d f

-- the first `kept` numbers of each of n rows of a width, the first of which is at a place
unfoldable pub rows_from : {X : Type 0} → List X → ℕ → ℕ → ℕ → ℕ → List X
rows_from list at n kept width =
    flat_map (λ j. take kept (drop (at + j * width) list)) (range_with_len 0 n)

-- a list for each level, of all its own points
pub record HasLevels (plan : Plan) (d : ℕ) (grids : List (List ℤ)) : Type 0 where
  pub count : length grids ≡ length plan.fields
  pub sizes : (f : ℕ) → IsLevel plan f →
      length (slice_index_or grids f no_list) ≡ nz plan f * (ny plan d f * nx plan d f)
