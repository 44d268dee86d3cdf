use Rattle.std.proofs.Common.{◌≡◌, ℕ, ◌+◌, ◌≤◌, ◌<◌, List, [], ◌∷◌, ◌++◌, length, sym, ap, subst, ◌∙◌, w64, to_z, of_z, rules, arith}
use Rattle.std.proofs.lemmas.Int.{to_z-of_z}
use Rattle.std.specs.Prelude.{ℤ, pos, ◌+ℤ◌}
use Rattle.wf_rect.proofs.Stored.{count_of}
use Rattle.wf_model.specs.Patches.{Cell}
use Rattle.wf_laws.proofs.Cells.{span-holds}
use Rattle.wf_boxes.specs.Boxes.{IsNear, box_of}
use Rattle.wf_boxes.proofs.Ends.{near_count}
use Rattle.wf_field.specs.Regions.{columns_of}
use Rattle.wf_field.specs.Rows.{row_cells}
use Rattle.wf_field.specs.Settings.{cell_at}
use Rattle.wf_halo.specs.Walks.{IsColumnOf, SetsBy, sent}
use Rattle.wf_halo.proofs.Walking.{row_more, sent-append}
use Rattle.wf_halo.proofs.Taking.{used_fits, sum_fits, rest_long, used_more, taken_more, kept_still, same_both}
use Rattle.wf_halo.proofs.unpacking.unpack_row.Goals as goal

pub count-x-end-requires : goal.count-x-end-requires
count-x-end-requires g c =
    let r = c.args.part.now.cells.rect in
    let ends = (c.requires.walked).ends in
    let few = near_count _ _ (subst IsNear (sym (to_z-of_z w64 r.i0 (search rules))) ends.west) (subst IsNear (sym (to_z-of_z w64 r.i1 (search rules))) ends.east) in
    omega (arith, few)

pub unpack_cell-used-requires-clause-column : goal.unpack_cell-used-requires-clause-column
unpack_cell-used-requires-clause-column g c =
    let r = c.args.part.now.cells.rect in
    let count : c.count-x-end.result ≡ columns_of r = count_of r.i0 r.i1 _ (search rules) (search rules) c.count-x-end.ensures in
    let at = to_z-of_z w64 c.moved-i.result (search rules) ∙ c.moved-i.ensures ∙ ap (λ (z : ℤ). z +ℤ pos c.loop-x.x) (to_z-of_z w64 r.i0 (search rules)) in
    subst (IsColumnOf c.args.part.now) (sym at) (span-holds (box_of r).x c.loop-x.x (subst (λ (n : ℕ). c.loop-x.x < n) count c.loop-x-test.true))

pub behind-requires : goal.behind-requires
behind-requires g c =
    let a = c.args in
    let p = a.part.now in
    let r = p.cells.rect in
    let j = to_z w64 (of_z w64 a.j) in
    let L : ℕ → List Cell = λ n. row_cells p.field a.k j r.i0 n in
    let R : ℕ → List Cell = λ n. cell_at p.field a.k j (r.i0 +ℤ pos n) ∷ [] in
    let step : (n : ℕ) → L (n + 1) ≡ L n ++ R n = λ n. row_more p.field a.k n j r.i0 in
    let sent_step : (n : ℕ) → n < columns_of r → sent p (L (n + 1)) ≡ sent p (L n) ++ sent p (R n) = λ n h. ap (sent p) (step n) ∙ sent-append p (L n) (R n) in
    let count : c.count-x-end.result ≡ columns_of r = count_of r.i0 r.i1 _ (search rules) (search rules) c.count-x-end.ensures in
    let below : c.loop-x.x < columns_of r = subst (λ (n : ℕ). c.loop-x.x < n) count c.loop-x-test.true in
    let long : length (sent p (L (columns_of r))) ≤ length a.values.now = subst (λ (z : ℤ). length (sent p (row_cells p.field a.k z r.i0 (columns_of r))) ≤ length a.values.now) (sym (to_z-of_z w64 a.j c.ranges.j)) c.requires.long in
    used_fits (λ n. sent p (L n)) (λ n. sent p (R n)) (columns_of r) sent_step a.values.now long c.loop-x.x c.loop-x.used below c.loop-x.invariant.used

pub unpack_cell-used-requires-clause-kept : goal.unpack_cell-used-requires-clause-kept
unpack_cell-used-requires-clause-kept g c = kept_still g.N.RunName.run.plan g.N.RunName.layout c.args.part.now c.args.memory.now c.loop-x.memory c.loop-x.invariant.same c.requires.kept

pub unpack_cell-used-requires-clause-long : goal.unpack_cell-used-requires-clause-long
unpack_cell-used-requires-clause-long g c =
    let a = c.args in
    let p = a.part.now in
    let r = p.cells.rect in
    let j = to_z w64 (of_z w64 a.j) in
    let L : ℕ → List Cell = λ n. row_cells p.field a.k j r.i0 n in
    let R : ℕ → List Cell = λ n. cell_at p.field a.k j (r.i0 +ℤ pos n) ∷ [] in
    let step : (n : ℕ) → L (n + 1) ≡ L n ++ R n = λ n. row_more p.field a.k n j r.i0 in
    let sent_step : (n : ℕ) → n < columns_of r → sent p (L (n + 1)) ≡ sent p (L n) ++ sent p (R n) = λ n h. ap (sent p) (step n) ∙ sent-append p (L n) (R n) in
    let count : c.count-x-end.result ≡ columns_of r = count_of r.i0 r.i1 _ (search rules) (search rules) c.count-x-end.ensures in
    let below : c.loop-x.x < columns_of r = subst (λ (n : ℕ). c.loop-x.x < n) count c.loop-x-test.true in
    let long : length (sent p (L (columns_of r))) ≤ length a.values.now = subst (λ (z : ℤ). length (sent p (row_cells p.field a.k z r.i0 (columns_of r))) ≤ length a.values.now) (sym (to_z-of_z w64 a.j c.ranges.j)) c.requires.long in
    let at = to_z-of_z w64 c.moved-i.result (search rules) ∙ c.moved-i.ensures ∙ ap (λ (z : ℤ). z +ℤ pos c.loop-x.x) (to_z-of_z w64 r.i0 (search rules)) in
    subst (λ (z : ℤ). length (sent p (cell_at p.field a.k j z ∷ [])) ≤ length c.behind.result.now) (sym at) (rest_long (λ n. sent p (L n)) (λ n. sent p (R n)) (columns_of r) sent_step a.values.now long c.loop-x.x c.loop-x.used below c.loop-x.invariant.used c.behind.result.now c.behind.ensures)

pub overflow_add-used : goal.overflow_add-used
overflow_add-used g c =
    let a = c.args in
    let p = a.part.now in
    let r = p.cells.rect in
    let j = to_z w64 (of_z w64 a.j) in
    let L : ℕ → List Cell = λ n. row_cells p.field a.k j r.i0 n in
    let R : ℕ → List Cell = λ n. cell_at p.field a.k j (r.i0 +ℤ pos n) ∷ [] in
    let step : (n : ℕ) → L (n + 1) ≡ L n ++ R n = λ n. row_more p.field a.k n j r.i0 in
    let sent_step : (n : ℕ) → n < columns_of r → sent p (L (n + 1)) ≡ sent p (L n) ++ sent p (R n) = λ n h. ap (sent p) (step n) ∙ sent-append p (L n) (R n) in
    let count : c.count-x-end.result ≡ columns_of r = count_of r.i0 r.i1 _ (search rules) (search rules) c.count-x-end.ensures in
    let below : c.loop-x.x < columns_of r = subst (λ (n : ℕ). c.loop-x.x < n) count c.loop-x-test.true in
    let long : length (sent p (L (columns_of r))) ≤ length a.values.now = subst (λ (z : ℤ). length (sent p (row_cells p.field a.k z r.i0 (columns_of r))) ≤ length a.values.now) (sym (to_z-of_z w64 a.j c.ranges.j)) c.requires.long in
    let at = to_z-of_z w64 c.moved-i.result (search rules) ∙ c.moved-i.ensures ∙ ap (λ (z : ℤ). z +ℤ pos c.loop-x.x) (to_z-of_z w64 r.i0 (search rules)) in
    let is : c.unpack_cell-used.result ≡ length (sent p (R c.loop-x.x)) = c.unpack_cell-used.ensures.used ∙ ap (λ (z : ℤ). length (sent p (cell_at p.field a.k j z ∷ []))) at in
    let fits = sum_fits (λ n. sent p (L n)) (λ n. sent p (R n)) (columns_of r) sent_step a.values.now long c.loop-x.x c.loop-x.used below c.loop-x.invariant.used in
    omega (arith, fits, is)

pub loop-x-preserved : goal.loop-x-preserved
loop-x-preserved g c =
    let a = c.args in
    let p = a.part.now in
    let r = p.cells.rect in
    let j = to_z w64 (of_z w64 a.j) in
    let L : ℕ → List Cell = λ n. row_cells p.field a.k j r.i0 n in
    let R : ℕ → List Cell = λ n. cell_at p.field a.k j (r.i0 +ℤ pos n) ∷ [] in
    let step : (n : ℕ) → L (n + 1) ≡ L n ++ R n = λ n. row_more p.field a.k n j r.i0 in
    let sent_step : (n : ℕ) → n < columns_of r → sent p (L (n + 1)) ≡ sent p (L n) ++ sent p (R n) = λ n h. ap (sent p) (step n) ∙ sent-append p (L n) (R n) in
    let count : c.count-x-end.result ≡ columns_of r = count_of r.i0 r.i1 _ (search rules) (search rules) c.count-x-end.ensures in
    let below : c.loop-x.x < columns_of r = subst (λ (n : ℕ). c.loop-x.x < n) count c.loop-x-test.true in
    let long : length (sent p (L (columns_of r))) ≤ length a.values.now = subst (λ (z : ℤ). length (sent p (row_cells p.field a.k z r.i0 (columns_of r))) ≤ length a.values.now) (sym (to_z-of_z w64 a.j c.ranges.j)) c.requires.long in
    let at = to_z-of_z w64 c.moved-i.result (search rules) ∙ c.moved-i.ensures ∙ ap (λ (z : ℤ). z +ℤ pos c.loop-x.x) (to_z-of_z w64 r.i0 (search rules)) in
    record {
      used = used_more (λ n. sent p (L n)) (λ n. sent p (R n)) (columns_of r) sent_step a.values.now long c.loop-x.x c.loop-x.used below c.loop-x.invariant.used c.unpack_cell-used.result (c.unpack_cell-used.ensures.used ∙ ap (λ (z : ℤ). length (sent p (cell_at p.field a.k j z ∷ []))) at);
      same = same_both a.memory.now c.loop-x.memory c.unpack_cell-used.new.memory c.loop-x.invariant.same c.unpack_cell-used.ensures.same;
      set = taken_more g.N.RunName.run.plan g.N.RunName.layout a.values.now c.behind.result.now c.loop-x.used (sent p (L c.loop-x.x)) (sent p (cell_at p.field a.k j (to_z w64 (of_z w64 c.moved-i.result)) ∷ [])) (sent p (L (c.loop-x.x + 1))) a.memory.now c.loop-x.memory c.unpack_cell-used.new.memory
          (ap (sent p) (step c.loop-x.x ∙ (λ n. L c.loop-x.x ++ cell_at p.field a.k j (sym at n) ∷ [])) ∙ sent-append p (L c.loop-x.x) (cell_at p.field a.k j (to_z w64 (of_z w64 c.moved-i.result)) ∷ [])) c.loop-x.invariant.used c.behind.ensures c.loop-x.invariant.same c.loop-x.invariant.set c.unpack_cell-used.ensures.set;
    }

pub returns-clause-used : goal.returns-clause-used
returns-clause-used g c =
    let a = c.args in
    let p = a.part.now in
    let r = p.cells.rect in
    let j = to_z w64 (of_z w64 a.j) in
    let L : ℕ → List Cell = λ n. row_cells p.field a.k j r.i0 n in
    let R : ℕ → List Cell = λ n. cell_at p.field a.k j (r.i0 +ℤ pos n) ∷ [] in
    let step : (n : ℕ) → L (n + 1) ≡ L n ++ R n = λ n. row_more p.field a.k n j r.i0 in
    let sent_step : (n : ℕ) → n < columns_of r → sent p (L (n + 1)) ≡ sent p (L n) ++ sent p (R n) = λ n h. ap (sent p) (step n) ∙ sent-append p (L n) (R n) in
    let count : c.count-x-end.result ≡ columns_of r = count_of r.i0 r.i1 _ (search rules) (search rules) c.count-x-end.ensures in
    let more = c.loop-x-test.false in
    let most = c.loop-x.auto.x-end in
    let all : c.loop-x.x ≡ columns_of r = omega (arith, more, most, count) in
    c.loop-x.invariant.used ∙ (λ n. length (sent p (row_cells p.field a.k (to_z-of_z w64 a.j c.ranges.j n) r.i0 (all n))))

pub returns-clause-set : goal.returns-clause-set
returns-clause-set g c =
    let a = c.args in
    let p = a.part.now in
    let r = p.cells.rect in
    let j = to_z w64 (of_z w64 a.j) in
    let L : ℕ → List Cell = λ n. row_cells p.field a.k j r.i0 n in
    let R : ℕ → List Cell = λ n. cell_at p.field a.k j (r.i0 +ℤ pos n) ∷ [] in
    let step : (n : ℕ) → L (n + 1) ≡ L n ++ R n = λ n. row_more p.field a.k n j r.i0 in
    let sent_step : (n : ℕ) → n < columns_of r → sent p (L (n + 1)) ≡ sent p (L n) ++ sent p (R n) = λ n h. ap (sent p) (step n) ∙ sent-append p (L n) (R n) in
    let count : c.count-x-end.result ≡ columns_of r = count_of r.i0 r.i1 _ (search rules) (search rules) c.count-x-end.ensures in
    let more = c.loop-x-test.false in
    let most = c.loop-x.auto.x-end in
    let all : c.loop-x.x ≡ columns_of r = omega (arith, more, most, count) in
    subst (λ (cells : List Cell). SetsBy g.N.RunName.run.plan g.N.RunName.layout a.values.now (sent p cells) a.memory.now c.loop-x.memory) (λ n. row_cells p.field a.k (to_z-of_z w64 a.j c.ranges.j n) r.i0 (all n)) c.loop-x.invariant.set
