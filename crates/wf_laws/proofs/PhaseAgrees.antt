-- What a patch computes in a phase agrees with the phase on the grids.
use Rattle.std.proofs.Common.{◌≡◌, ℕ, ◌*◌, ◌<◌, true, refl, sym, ap, subst, ◌∙◌}
use Rattle.std.specs.Prelude.{ℤ, ◌==◌, is_none}
use Rattle.wf_model.specs.declared.plan.Plan.{Plan}
use Rattle.wf_model.specs.declared.plan.Phase.{Phase}
use Rattle.wf_model.specs.Value.{value_of}
use Rattle.wf_model.specs.Plans.{point_x, point_y}
use Rattle.wf_model.specs.Grids.{Grids}
use Rattle.wf_model.specs.Changes.{phase_change, in_region, sight_at}
use Rattle.wf_model.specs.Outcome.{RunData}
use Rattle.wf_model.specs.Patches.{Split, is_own, region_holds, computes}
use Rattle.wf_model.specs.Marks.{Marks}
use Rattle.wf_model.specs.PatchEffect.{Memory, phase_setting}
use Rattle.wf_model.specs.Sound.{IsDomain, IsSoundPhase}
use Rattle.wf_laws.proofs.Bools.{equal_of, and_left, and_right, and_both}
use Rattle.wf_laws.proofs.Places.{IsRoom, own-place}
use Rattle.wf_laws.proofs.PhaseStep.{computes-region, region-in}
use Rattle.wf_laws.proofs.Right.{AreRight, AreFresh, own_grown, computed_value}
use Rattle.wf_laws.proofs.Least.{Agrees}

-- an own cell of the region is computed
computes-own : (plan : Plan) (split : Split) (d : ℕ) (room : IsRoom plan split d) (p : ℕ) → p < split.in_x * split.in_y → (ph : Phase) (k : ℕ) (j i : ℤ) → is_own plan split d p ph.writes j i ≡ true →
    in_region plan d ph k (point_y plan d ph.writes j) (point_x plan d ph.writes i) ≡ true → computes plan split d p ph k j i ≡ true
unfolding computes region_holds
computes-own plan split d room p hp ph k j i own region = and_both _ _ (own_grown plan split d p ph.writes ph.extend j i own) (and_both _ _ (own-place plan split d room p ph.writes j i hp own) region)

-- a phase on a patch agrees with the phase on the grids
pub phase_agrees : (r : RunData) (split : Split) (d : ℕ) (room : IsRoom r.plan split d) (is : IsDomain r.plan d) (p step : ℕ) → p < split.in_x * split.in_y → (ph : Phase) (marks : Marks) (g : Grids) (mem : Memory) → IsSoundPhase r.plan ph →
    AreRight r.plan split d p marks g mem → AreFresh r.plan split d p ph marks → Agrees r.plan split d p (phase_setting r split d p step ph mem) (phase_change r.plan r.answers g d step ph)
phase_agrees r split d room is p step hp ph marks g mem sound right fresh = record {
  domain = refl;
  only = λ f k j i l u sets.
      let w : (f == ph.writes) ≡ true = and_left (f == ph.writes) (computes r.plan split d p ph k j i) sets in
      let c : computes r.plan split d p ph k j i ≡ true = and_right (f == ph.writes) (computes r.plan split d p ph k j i) sets in
      let writes : ph.writes ≡ f = sym (equal_of f ph.writes w) in
      let region = region-in r.plan d ph k j i (computes-region r.plan split d p ph k j i c) in (
        and_both _ _ w (subst (λ (m : ℕ). in_region r.plan d ph k (point_y r.plan d m j) (point_x r.plan d m i) ≡ true) writes region),
        ap is_none (computed_value r split d room is p step hp ph marks g mem sound right fresh k j i c)
            ∙ (λ n. is_none (value_of r.answers (sight_at r.plan g d step k (point_y r.plan d (writes n) j) (point_x r.plan d (writes n) i)) ph.expr)),
      );
  own = λ f k j i l u own sets.
      let w : (f == ph.writes) ≡ true = and_left (f == ph.writes) (in_region r.plan d ph k (point_y r.plan d f j) (point_x r.plan d f i)) sets in
      let writes : f ≡ ph.writes = equal_of f ph.writes w in
      and_both _ _ w (computes-own r.plan split d room p hp ph k j i (subst (λ (m : ℕ). is_own r.plan split d p m j i ≡ true) writes own)
      (subst (λ (m : ℕ). in_region r.plan d ph k (point_y r.plan d m j) (point_x r.plan d m i) ≡ true) writes (and_right (f == ph.writes) (in_region r.plan d ph k (point_y r.plan d f j) (point_x r.plan d f i)) sets)));
}
