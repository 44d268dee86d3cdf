use Rattle.std.proofs.Common.{◌≡◌, ℕ, ◌+◌, ◌≤◌, ◌<◌, List, ◌++◌, length, sym, ap, subst, ◌∙◌, w64, to_z, of_z, rules, arith}
use Rattle.std.proofs.lemmas.Int.{to_z-of_z}
use Rattle.std.specs.Prelude.{ℤ, pos, ◌+ℤ◌}
use Rattle.wf_rect.proofs.Stored.{count_of}
use Rattle.wf_rect.specs.Tiles.{rows_of}
use Rattle.wf_model.specs.Patches.{Cell}
use Rattle.wf_laws.proofs.Cells.{span-holds}
use Rattle.wf_boxes.specs.Boxes.{IsNear, box_of}
use Rattle.wf_boxes.proofs.Ends.{near_count}
use Rattle.wf_field.proofs.Joining.{flat_more}
use Rattle.wf_field.specs.Regions.{columns_of, plane_cells}
use Rattle.wf_field.specs.Rows.{row_cells}
use Rattle.wf_halo.specs.Walks.{IsRowOf, SetsBy, sent}
use Rattle.wf_halo.proofs.Walking.{sent-append}
use Rattle.wf_halo.proofs.Taking.{used_fits, sum_fits, rest_long, used_more, taken_more, kept_still, same_both}
use Rattle.wf_halo.proofs.unpacking.unpack_plane.Goals as goal

pub count-y-end-requires : goal.count-y-end-requires
count-y-end-requires g c =
    let r = c.args.part.now.cells.rect in
    let ends = (c.requires.walked).ends in
    let few = near_count _ _ (subst IsNear (sym (to_z-of_z w64 r.j0 (search rules))) ends.south) (subst IsNear (sym (to_z-of_z w64 r.j1 (search rules))) ends.north) in
    omega (arith, few)

pub unpack_row-used-requires-clause-row : goal.unpack_row-used-requires-clause-row
unpack_row-used-requires-clause-row g c =
    let r = c.args.part.now.cells.rect in
    let count : c.count-y-end.result ≡ rows_of r = count_of r.j0 r.j1 _ (search rules) (search rules) c.count-y-end.ensures in
    let at = to_z-of_z w64 c.moved-j.result (search rules) ∙ c.moved-j.ensures ∙ ap (λ (z : ℤ). z +ℤ pos c.loop-y.y) (to_z-of_z w64 r.j0 (search rules)) in
    subst (IsRowOf c.args.part.now) (sym at) (span-holds (box_of r).y c.loop-y.y (subst (λ (n : ℕ). c.loop-y.y < n) count c.loop-y-test.true))

pub behind-requires : goal.behind-requires
behind-requires g c =
    let a = c.args in
    let p = a.part.now in
    let r = p.cells.rect in
    let L : ℕ → List Cell = λ n. plane_cells p.field a.k r n in
    let R : ℕ → List Cell = λ n. row_cells p.field a.k (r.j0 +ℤ pos n) r.i0 (columns_of r) in
    let step : (n : ℕ) → L (n + 1) ≡ L n ++ R n = λ n. flat_more (λ (y : ℕ). row_cells p.field a.k (r.j0 +ℤ pos y) r.i0 (columns_of r)) n in
    let sent_step : (n : ℕ) → n < rows_of r → sent p (L (n + 1)) ≡ sent p (L n) ++ sent p (R n) = λ n h. ap (sent p) (step n) ∙ sent-append p (L n) (R n) in
    let count : c.count-y-end.result ≡ rows_of r = count_of r.j0 r.j1 _ (search rules) (search rules) c.count-y-end.ensures in
    let below : c.loop-y.y < rows_of r = subst (λ (n : ℕ). c.loop-y.y < n) count c.loop-y-test.true in
    let long : length (sent p (L (rows_of r))) ≤ length a.values.now = c.requires.long in
    used_fits (λ n. sent p (L n)) (λ n. sent p (R n)) (rows_of r) sent_step a.values.now long c.loop-y.y c.loop-y.used below c.loop-y.invariant.used

pub unpack_row-used-requires-clause-kept : goal.unpack_row-used-requires-clause-kept
unpack_row-used-requires-clause-kept g c = kept_still g.N.RunName.run.plan g.N.RunName.layout c.args.part.now c.args.memory.now c.loop-y.memory c.loop-y.invariant.same c.requires.kept

pub unpack_row-used-requires-clause-long : goal.unpack_row-used-requires-clause-long
unpack_row-used-requires-clause-long g c =
    let a = c.args in
    let p = a.part.now in
    let r = p.cells.rect in
    let L : ℕ → List Cell = λ n. plane_cells p.field a.k r n in
    let R : ℕ → List Cell = λ n. row_cells p.field a.k (r.j0 +ℤ pos n) r.i0 (columns_of r) in
    let step : (n : ℕ) → L (n + 1) ≡ L n ++ R n = λ n. flat_more (λ (y : ℕ). row_cells p.field a.k (r.j0 +ℤ pos y) r.i0 (columns_of r)) n in
    let sent_step : (n : ℕ) → n < rows_of r → sent p (L (n + 1)) ≡ sent p (L n) ++ sent p (R n) = λ n h. ap (sent p) (step n) ∙ sent-append p (L n) (R n) in
    let count : c.count-y-end.result ≡ rows_of r = count_of r.j0 r.j1 _ (search rules) (search rules) c.count-y-end.ensures in
    let below : c.loop-y.y < rows_of r = subst (λ (n : ℕ). c.loop-y.y < n) count c.loop-y-test.true in
    let long : length (sent p (L (rows_of r))) ≤ length a.values.now = c.requires.long in
    let at = to_z-of_z w64 c.moved-j.result (search rules) ∙ c.moved-j.ensures ∙ ap (λ (z : ℤ). z +ℤ pos c.loop-y.y) (to_z-of_z w64 r.j0 (search rules)) in
    subst (λ (z : ℤ). length (sent p (row_cells p.field a.k z r.i0 (columns_of r))) ≤ length c.behind.result.now) (sym at) (rest_long (λ n. sent p (L n)) (λ n. sent p (R n)) (rows_of r) sent_step a.values.now long c.loop-y.y c.loop-y.used below c.loop-y.invariant.used c.behind.result.now c.behind.ensures)

pub overflow_add-used : goal.overflow_add-used
overflow_add-used g c =
    let a = c.args in
    let p = a.part.now in
    let r = p.cells.rect in
    let L : ℕ → List Cell = λ n. plane_cells p.field a.k r n in
    let R : ℕ → List Cell = λ n. row_cells p.field a.k (r.j0 +ℤ pos n) r.i0 (columns_of r) in
    let step : (n : ℕ) → L (n + 1) ≡ L n ++ R n = λ n. flat_more (λ (y : ℕ). row_cells p.field a.k (r.j0 +ℤ pos y) r.i0 (columns_of r)) n in
    let sent_step : (n : ℕ) → n < rows_of r → sent p (L (n + 1)) ≡ sent p (L n) ++ sent p (R n) = λ n h. ap (sent p) (step n) ∙ sent-append p (L n) (R n) in
    let count : c.count-y-end.result ≡ rows_of r = count_of r.j0 r.j1 _ (search rules) (search rules) c.count-y-end.ensures in
    let below : c.loop-y.y < rows_of r = subst (λ (n : ℕ). c.loop-y.y < n) count c.loop-y-test.true in
    let long : length (sent p (L (rows_of r))) ≤ length a.values.now = c.requires.long in
    let at = to_z-of_z w64 c.moved-j.result (search rules) ∙ c.moved-j.ensures ∙ ap (λ (z : ℤ). z +ℤ pos c.loop-y.y) (to_z-of_z w64 r.j0 (search rules)) in
    let is : c.unpack_row-used.result ≡ length (sent p (R c.loop-y.y)) = c.unpack_row-used.ensures.used ∙ ap (λ (z : ℤ). length (sent p (row_cells p.field a.k z r.i0 (columns_of r)))) at in
    let fits = sum_fits (λ n. sent p (L n)) (λ n. sent p (R n)) (rows_of r) sent_step a.values.now long c.loop-y.y c.loop-y.used below c.loop-y.invariant.used in
    omega (arith, fits, is)

pub loop-y-preserved : goal.loop-y-preserved
loop-y-preserved g c =
    let a = c.args in
    let p = a.part.now in
    let r = p.cells.rect in
    let L : ℕ → List Cell = λ n. plane_cells p.field a.k r n in
    let R : ℕ → List Cell = λ n. row_cells p.field a.k (r.j0 +ℤ pos n) r.i0 (columns_of r) in
    let step : (n : ℕ) → L (n + 1) ≡ L n ++ R n = λ n. flat_more (λ (y : ℕ). row_cells p.field a.k (r.j0 +ℤ pos y) r.i0 (columns_of r)) n in
    let sent_step : (n : ℕ) → n < rows_of r → sent p (L (n + 1)) ≡ sent p (L n) ++ sent p (R n) = λ n h. ap (sent p) (step n) ∙ sent-append p (L n) (R n) in
    let count : c.count-y-end.result ≡ rows_of r = count_of r.j0 r.j1 _ (search rules) (search rules) c.count-y-end.ensures in
    let below : c.loop-y.y < rows_of r = subst (λ (n : ℕ). c.loop-y.y < n) count c.loop-y-test.true in
    let long : length (sent p (L (rows_of r))) ≤ length a.values.now = c.requires.long in
    let at = to_z-of_z w64 c.moved-j.result (search rules) ∙ c.moved-j.ensures ∙ ap (λ (z : ℤ). z +ℤ pos c.loop-y.y) (to_z-of_z w64 r.j0 (search rules)) in
    record {
      used = used_more (λ n. sent p (L n)) (λ n. sent p (R n)) (rows_of r) sent_step a.values.now long c.loop-y.y c.loop-y.used below c.loop-y.invariant.used c.unpack_row-used.result (c.unpack_row-used.ensures.used ∙ ap (λ (z : ℤ). length (sent p (row_cells p.field a.k z r.i0 (columns_of r)))) at);
      same = same_both a.memory.now c.loop-y.memory c.unpack_row-used.new.memory c.loop-y.invariant.same c.unpack_row-used.ensures.same;
      set = taken_more g.N.RunName.run.plan g.N.RunName.layout a.values.now c.behind.result.now c.loop-y.used (sent p (L c.loop-y.y)) (sent p (row_cells p.field a.k (to_z w64 (of_z w64 c.moved-j.result)) r.i0 (columns_of r))) (sent p (L (c.loop-y.y + 1))) a.memory.now c.loop-y.memory c.unpack_row-used.new.memory
          (ap (sent p) (step c.loop-y.y ∙ (λ n. L c.loop-y.y ++ row_cells p.field a.k (sym at n) r.i0 (columns_of r))) ∙ sent-append p (L c.loop-y.y) (row_cells p.field a.k (to_z w64 (of_z w64 c.moved-j.result)) r.i0 (columns_of r))) c.loop-y.invariant.used c.behind.ensures c.loop-y.invariant.same c.loop-y.invariant.set c.unpack_row-used.ensures.set;
    }

pub returns-clause-used : goal.returns-clause-used
returns-clause-used g c =
    let a = c.args in
    let p = a.part.now in
    let r = p.cells.rect in
    let L : ℕ → List Cell = λ n. plane_cells p.field a.k r n in
    let R : ℕ → List Cell = λ n. row_cells p.field a.k (r.j0 +ℤ pos n) r.i0 (columns_of r) in
    let step : (n : ℕ) → L (n + 1) ≡ L n ++ R n = λ n. flat_more (λ (y : ℕ). row_cells p.field a.k (r.j0 +ℤ pos y) r.i0 (columns_of r)) n in
    let sent_step : (n : ℕ) → n < rows_of r → sent p (L (n + 1)) ≡ sent p (L n) ++ sent p (R n) = λ n h. ap (sent p) (step n) ∙ sent-append p (L n) (R n) in
    let count : c.count-y-end.result ≡ rows_of r = count_of r.j0 r.j1 _ (search rules) (search rules) c.count-y-end.ensures in
    let more = c.loop-y-test.false in
    let most = c.loop-y.auto.y-end in
    let all : c.loop-y.y ≡ rows_of r = omega (arith, more, most, count) in
    c.loop-y.invariant.used ∙ (λ n. length (sent p (plane_cells p.field a.k r (all n))))

pub returns-clause-set : goal.returns-clause-set
returns-clause-set g c =
    let a = c.args in
    let p = a.part.now in
    let r = p.cells.rect in
    let L : ℕ → List Cell = λ n. plane_cells p.field a.k r n in
    let R : ℕ → List Cell = λ n. row_cells p.field a.k (r.j0 +ℤ pos n) r.i0 (columns_of r) in
    let step : (n : ℕ) → L (n + 1) ≡ L n ++ R n = λ n. flat_more (λ (y : ℕ). row_cells p.field a.k (r.j0 +ℤ pos y) r.i0 (columns_of r)) n in
    let sent_step : (n : ℕ) → n < rows_of r → sent p (L (n + 1)) ≡ sent p (L n) ++ sent p (R n) = λ n h. ap (sent p) (step n) ∙ sent-append p (L n) (R n) in
    let count : c.count-y-end.result ≡ rows_of r = count_of r.j0 r.j1 _ (search rules) (search rules) c.count-y-end.ensures in
    let more = c.loop-y-test.false in
    let most = c.loop-y.auto.y-end in
    let all : c.loop-y.y ≡ rows_of r = omega (arith, more, most, count) in
    subst (λ (cells : List Cell). SetsBy g.N.RunName.run.plan g.N.RunName.layout a.values.now (sent p cells) a.memory.now c.loop-y.memory) (λ n. plane_cells p.field a.k r (all n)) c.loop-y.invariant.set
