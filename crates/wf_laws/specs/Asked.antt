-- The list that a start and a force give to a function between points.
use Rattle.std.specs.Prelude.{ℕ, ◌+◌, List, [], ◌∷◌, ℤ, pos}
use Rattle.wf_model.specs.declared.plan.Plan.{Plan}
use Rattle.wf_model.specs.Grids.{Grids}
use Rattle.wf_model.specs.Plans.{domain_of, field_of}
use Rattle.wf_model.specs.Nests.{offset, held_at}

-- what a nest's point asks a function between points, over the grids
abbrev pub asked_between : Plan → Grids → ℕ → ℕ → ℕ → ℕ → ℕ → List ℤ
asked_between plan g c f k j i =
    let dom = domain_of plan c in
    let x = offset (field_of plan f).stag_x dom.i_start dom.ratio i in
    let y = offset (field_of plan f).stag_y dom.j_start dom.ratio j in
    let at : ℕ → ℕ → ℤ = λ dj di. held_at plan g dom.parent f k (y.at + dj) (x.at + di) in
    at 0 0 ∷ at 0 1 ∷ at 1 0 ∷ at 1 1 ∷ pos x.past ∷ pos y.past ∷ pos dom.ratio ∷ []
