use Rattle.std.proofs.Common.{◌≡◌, ℕ, ◌+◌, ◌-◌, ◌≤◌, ◌<◌, List, ◌++◌, length, ap, subst, ◌∙◌, arith}
use Rattle.wf_rect.specs.Tiles.{rows_of}
use Rattle.wf_model.specs.Patches.{Cell}
use Rattle.wf_field.proofs.Joining.{flat_more}
use Rattle.wf_field.specs.Regions.{plane_cells, planes_cells}
use Rattle.wf_halo.specs.Walks.{SetsBy, sent}
use Rattle.wf_halo.proofs.Walking.{sent-append}
use Rattle.wf_halo.proofs.Taking.{used_fits, sum_fits, rest_long, used_more, taken_more, kept_still, same_both}
use Rattle.wf_halo.proofs.unpacking.unpack_part.Goals as goal

pub behind-requires : goal.behind-requires
behind-requires g c =
    let a = c.args in
    let p = a.part.now in
    let r = p.cells.rect in
    let L : ℕ → List Cell = λ n. planes_cells p.field p.cells n in
    let R : ℕ → List Cell = λ n. plane_cells p.field (p.cells.k0 + n) r (rows_of r) in
    let step : (n : ℕ) → L (n + 1) ≡ L n ++ R n = λ n. flat_more (λ (x : ℕ). plane_cells p.field (p.cells.k0 + x) r (rows_of r)) n in
    let sent_step : (n : ℕ) → n < p.cells.k1 - p.cells.k0 → sent p (L (n + 1)) ≡ sent p (L n) ++ sent p (R n) = λ n h. ap (sent p) (step n) ∙ sent-append p (L n) (R n) in
    let count = c.saturating_sub-a-end.ensures in
    let below : c.loop-a.a < p.cells.k1 - p.cells.k0 = subst (λ (n : ℕ). c.loop-a.a < n) count c.loop-a-test.true in
    let long : length (sent p (L (p.cells.k1 - p.cells.k0))) ≤ length a.values.now = c.requires.long in
    used_fits (λ n. sent p (L n)) (λ n. sent p (R n)) (p.cells.k1 - p.cells.k0) sent_step a.values.now long c.loop-a.a c.loop-a.used below c.loop-a.invariant.used

pub unpack_plane-used-requires-clause-kept : goal.unpack_plane-used-requires-clause-kept
unpack_plane-used-requires-clause-kept g c = kept_still g.N.RunName.run.plan g.N.RunName.layout c.args.part.now c.args.memory.now c.loop-a.memory c.loop-a.invariant.same c.requires.kept

pub unpack_plane-used-requires-clause-long : goal.unpack_plane-used-requires-clause-long
unpack_plane-used-requires-clause-long g c =
    let a = c.args in
    let p = a.part.now in
    let r = p.cells.rect in
    let L : ℕ → List Cell = λ n. planes_cells p.field p.cells n in
    let R : ℕ → List Cell = λ n. plane_cells p.field (p.cells.k0 + n) r (rows_of r) in
    let step : (n : ℕ) → L (n + 1) ≡ L n ++ R n = λ n. flat_more (λ (x : ℕ). plane_cells p.field (p.cells.k0 + x) r (rows_of r)) n in
    let sent_step : (n : ℕ) → n < p.cells.k1 - p.cells.k0 → sent p (L (n + 1)) ≡ sent p (L n) ++ sent p (R n) = λ n h. ap (sent p) (step n) ∙ sent-append p (L n) (R n) in
    let count = c.saturating_sub-a-end.ensures in
    let below : c.loop-a.a < p.cells.k1 - p.cells.k0 = subst (λ (n : ℕ). c.loop-a.a < n) count c.loop-a-test.true in
    let long : length (sent p (L (p.cells.k1 - p.cells.k0))) ≤ length a.values.now = c.requires.long in
    rest_long (λ n. sent p (L n)) (λ n. sent p (R n)) (p.cells.k1 - p.cells.k0) sent_step a.values.now long c.loop-a.a c.loop-a.used below c.loop-a.invariant.used c.behind.result.now c.behind.ensures

pub overflow_add-used : goal.overflow_add-used
overflow_add-used g c =
    let a = c.args in
    let p = a.part.now in
    let r = p.cells.rect in
    let L : ℕ → List Cell = λ n. planes_cells p.field p.cells n in
    let R : ℕ → List Cell = λ n. plane_cells p.field (p.cells.k0 + n) r (rows_of r) in
    let step : (n : ℕ) → L (n + 1) ≡ L n ++ R n = λ n. flat_more (λ (x : ℕ). plane_cells p.field (p.cells.k0 + x) r (rows_of r)) n in
    let sent_step : (n : ℕ) → n < p.cells.k1 - p.cells.k0 → sent p (L (n + 1)) ≡ sent p (L n) ++ sent p (R n) = λ n h. ap (sent p) (step n) ∙ sent-append p (L n) (R n) in
    let count = c.saturating_sub-a-end.ensures in
    let below : c.loop-a.a < p.cells.k1 - p.cells.k0 = subst (λ (n : ℕ). c.loop-a.a < n) count c.loop-a-test.true in
    let long : length (sent p (L (p.cells.k1 - p.cells.k0))) ≤ length a.values.now = c.requires.long in
    let is : c.unpack_plane-used.result ≡ length (sent p (R c.loop-a.a)) = c.unpack_plane-used.ensures.used in
    let fits = sum_fits (λ n. sent p (L n)) (λ n. sent p (R n)) (p.cells.k1 - p.cells.k0) sent_step a.values.now long c.loop-a.a c.loop-a.used below c.loop-a.invariant.used in
    omega (arith, fits, is)

pub loop-a-preserved : goal.loop-a-preserved
loop-a-preserved g c =
    let a = c.args in
    let p = a.part.now in
    let r = p.cells.rect in
    let L : ℕ → List Cell = λ n. planes_cells p.field p.cells n in
    let R : ℕ → List Cell = λ n. plane_cells p.field (p.cells.k0 + n) r (rows_of r) in
    let step : (n : ℕ) → L (n + 1) ≡ L n ++ R n = λ n. flat_more (λ (x : ℕ). plane_cells p.field (p.cells.k0 + x) r (rows_of r)) n in
    let sent_step : (n : ℕ) → n < p.cells.k1 - p.cells.k0 → sent p (L (n + 1)) ≡ sent p (L n) ++ sent p (R n) = λ n h. ap (sent p) (step n) ∙ sent-append p (L n) (R n) in
    let count = c.saturating_sub-a-end.ensures in
    let below : c.loop-a.a < p.cells.k1 - p.cells.k0 = subst (λ (n : ℕ). c.loop-a.a < n) count c.loop-a-test.true in
    let long : length (sent p (L (p.cells.k1 - p.cells.k0))) ≤ length a.values.now = c.requires.long in
    record {
      used = used_more (λ n. sent p (L n)) (λ n. sent p (R n)) (p.cells.k1 - p.cells.k0) sent_step a.values.now long c.loop-a.a c.loop-a.used below c.loop-a.invariant.used c.unpack_plane-used.result (c.unpack_plane-used.ensures.used);
      same = same_both a.memory.now c.loop-a.memory c.unpack_plane-used.new.memory c.loop-a.invariant.same c.unpack_plane-used.ensures.same;
      set = taken_more g.N.RunName.run.plan g.N.RunName.layout a.values.now c.behind.result.now c.loop-a.used (sent p (L c.loop-a.a)) (sent p (R c.loop-a.a)) (sent p (L (c.loop-a.a + 1))) a.memory.now c.loop-a.memory c.unpack_plane-used.new.memory
          (ap (sent p) (step c.loop-a.a) ∙ sent-append p (L c.loop-a.a) _) c.loop-a.invariant.used c.behind.ensures c.loop-a.invariant.same c.loop-a.invariant.set c.unpack_plane-used.ensures.set;
    }

pub returns-clause-used : goal.returns-clause-used
returns-clause-used g c =
    let a = c.args in
    let p = a.part.now in
    let r = p.cells.rect in
    let L : ℕ → List Cell = λ n. planes_cells p.field p.cells n in
    let R : ℕ → List Cell = λ n. plane_cells p.field (p.cells.k0 + n) r (rows_of r) in
    let step : (n : ℕ) → L (n + 1) ≡ L n ++ R n = λ n. flat_more (λ (x : ℕ). plane_cells p.field (p.cells.k0 + x) r (rows_of r)) n in
    let sent_step : (n : ℕ) → n < p.cells.k1 - p.cells.k0 → sent p (L (n + 1)) ≡ sent p (L n) ++ sent p (R n) = λ n h. ap (sent p) (step n) ∙ sent-append p (L n) (R n) in
    let count = c.saturating_sub-a-end.ensures in
    let more = c.loop-a-test.false in
    let most = c.loop-a.auto.a-end in
    let all : c.loop-a.a ≡ p.cells.k1 - p.cells.k0 = omega (arith, more, most, count) in
    c.loop-a.invariant.used ∙ (λ n. length (sent p (planes_cells p.field p.cells (all n))))

pub returns-clause-set : goal.returns-clause-set
returns-clause-set g c =
    let a = c.args in
    let p = a.part.now in
    let r = p.cells.rect in
    let L : ℕ → List Cell = λ n. planes_cells p.field p.cells n in
    let R : ℕ → List Cell = λ n. plane_cells p.field (p.cells.k0 + n) r (rows_of r) in
    let step : (n : ℕ) → L (n + 1) ≡ L n ++ R n = λ n. flat_more (λ (x : ℕ). plane_cells p.field (p.cells.k0 + x) r (rows_of r)) n in
    let sent_step : (n : ℕ) → n < p.cells.k1 - p.cells.k0 → sent p (L (n + 1)) ≡ sent p (L n) ++ sent p (R n) = λ n h. ap (sent p) (step n) ∙ sent-append p (L n) (R n) in
    let count = c.saturating_sub-a-end.ensures in
    let more = c.loop-a-test.false in
    let most = c.loop-a.auto.a-end in
    let all : c.loop-a.a ≡ p.cells.k1 - p.cells.k0 = omega (arith, more, most, count) in
    subst (λ (cells : List Cell). SetsBy g.N.RunName.run.plan g.N.RunName.layout a.values.now (sent p cells) a.memory.now c.loop-a.memory) (λ n. planes_cells p.field p.cells (all n)) c.loop-a.invariant.set
