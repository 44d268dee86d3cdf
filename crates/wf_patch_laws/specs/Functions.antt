-- The lists that nest items give to stored functions are accepted.
use Rattle.std.specs.Prelude.{◌≡◌, ℕ, ◌+◌, ◌<◌, List, [], ◌∷◌, map, ℤ, pos, unwrap_or, All}
use Rattle.wf_model.specs.declared.plan.Plan.{Plan}
use Rattle.wf_model.specs.Numbers.{in_i32}
use Rattle.wf_model.specs.Value.{Answers}
use Rattle.wf_model.specs.Grids.{Grids}
use Rattle.wf_model.specs.Plans.{domain_of, field_of, point_x, point_y}
use Rattle.wf_model.specs.Nests.{offset, between_points, digest, behind}
use Rattle.wf_model.specs.Outcome.{RunData}
use Rattle.wf_model.specs.Patches.{Cell}
use Rattle.wf_model.specs.Exchange.{cells_behind}
use Rattle.wf_model.specs.PatchEffect.{Mail, came, between_cells}
use Rattle.wf_model.specs.Sound.{IsDomain, IsSoundPlan, IsRangedPlan}
use Rattle.wf_model.specs.Hooks.{IsShort, IsInterpList, IsAverageList}
use Rattle.wf_laws.specs.Asked.{asked_between}

-- a nest of a plan that is sound and within its ranges
pub record IsPlannedNest (plan : Plan) (c : ℕ) : Type 0 where
  pub sound : IsSoundPlan plan
  pub ranged : IsRangedPlan plan
  pub domain : IsDomain plan c
  pub nest : 1 < c

-- all numbers of the grids are of 32 bits
abbrev pub AreShort : Grids → Type 0
AreShort g = (d f k j i : ℕ) → IsShort (g d f k j i)

-- and all that came
abbrev pub CameShort : Mail → Type 0
CameShort mail = All (λ (x : Cell × ℤ). IsShort x.1) mail

-- a start and a force ask with that list, and it is accepted
pub record AsksAccepted (plan : Plan) (g : Grids) (c f k j i : ℕ) : Type 0 where
  pub asks : (m : Answers) (id : ℕ) →
      between_points plan m g c f id k j i ≡ in_i32 (m id (asked_between plan g c f k j i))
  pub accepted : IsInterpList (asked_between plan g c f k j i)

-- over grids of 32 bits each list of a start or a force is accepted
abbrev pub StartsAskAccepted : Type 0
StartsAskAccepted = (plan : Plan) (g : Grids) (c f k j i : ℕ) → IsPlannedNest plan c → AreShort g →
    AsksAccepted plan g c f k j i

-- what a patch's cell asks, over its mail
abbrev pub asked_by_cell : Plan → ℕ → Mail → Cell → List ℤ
asked_by_cell plan c mail z =
    let dom = domain_of plan c in
    let i = point_x plan c z.field z.i in
    let j = point_y plan c z.field z.j in
    let x = offset (field_of plan z.field).stag_x dom.i_start dom.ratio i in
    let y = offset (field_of plan z.field).stag_y dom.j_start dom.ratio j in
    let cell : ℕ → ℕ → Cell = λ dj di. record {
      field = z.field;
      k = z.k;
      j = pos (y.at + dj);
      i = pos (x.at + di);
    } in
    let at : ℕ → ℕ → ℤ = λ dj di. unwrap_or (came mail (cell dj di)) (pos 0) in
    at 0 0 ∷ at 0 1 ∷ at 1 0 ∷ at 1 1 ∷ pos x.past ∷ pos y.past ∷ pos dom.ratio ∷ []

-- a patch asks with that list, and it is accepted
pub record PatchAsksAccepted (r : RunData) (c : ℕ) (mail : Mail) (z : Cell) : Type 0 where
  pub asks : (id : ℕ) →
      between_cells r c mail id z ≡ in_i32 (r.answers id (asked_by_cell r.plan c mail z))
  pub accepted : IsInterpList (asked_by_cell r.plan c mail z)

-- over mail of 32 bits each list that a patch gives in a start or a force is accepted
abbrev pub PatchesAskAccepted : Type 0
PatchesAskAccepted = (r : RunData) (c : ℕ) (mail : Mail) (z : Cell) → IsPlannedNest r.plan c →
    CameShort mail → PatchAsksAccepted r c mail z

-- over grids of 32 bits each list of a feedback is accepted
abbrev pub FeedbacksAskAccepted : Type 0
FeedbacksAskAccepted = (plan : Plan) (g : Grids) (c f k j i : ℕ) → IsPlannedNest plan c →
    AreShort g → IsAverageList (digest (behind plan g c f k j i))

-- and so is each that a patch gives in a feedback
abbrev pub PatchesFeedAccepted : Type 0
PatchesFeedAccepted =
    (plan : Plan) (c : ℕ) (mail : Mail) (z : Cell) → IsPlannedNest plan c → CameShort mail →
    IsAverageList (digest (map (λ x. unwrap_or (came mail x) (pos 0)) (cells_behind plan c z)))
