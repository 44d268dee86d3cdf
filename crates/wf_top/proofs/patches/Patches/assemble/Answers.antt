use Rattle.std.proofs.Common.{arith, sym, ap, ◌∙◌, ◌≡◌, ℕ, ◌+◌, ◌++◌, List, append-nil, ℤ, pos, map, flat_map}
use Rattle.std.specs.List.{range_with_len}
use Rattle.wf_model.specs.Plans.{up_to}
use Rattle.wf_model.specs.Grids.{listed}
use Rattle.wf_model.specs.Demo.{demo_value}
use Rattle.wf_top.proofs.RangeLaws.{flat_map_split}
use Rattle.wf_top.proofs.patches.Patches.assemble.Goals as goal

pub loop-r-preserved : goal.loop-r-preserved
loop-r-preserved c = λ n m h.
    let all = c.args.self.now in
    let g = demo_value all.nx all.ny n in
    let beside = demo_value all.nx all.ny m in
    let row : ℕ → List ℤ = λ j. map (λ i. pos (g j i)) (up_to all.nx) in
    let next : 1 + c.loop-r.r ≡ c.loop-r.r + 1 = omega arith in
    let added = c.in_ok-append_row.ensures g beside beside h in
    added ∙ ap (λ (xs : List ℤ). xs ++ row (c.loop-r.r + 1)) (c.loop-r.invariant n m h)
    ∙ ap (λ k. flat_map row (range_with_len 1 c.loop-r.r) ++ row k) (sym next)
    ∙ ap (λ (xs : List ℤ). flat_map row (range_with_len 1 c.loop-r.r) ++ xs) (sym (append-nil (row (1 + c.loop-r.r))))
    ∙ sym (flat_map_split row 1 c.loop-r.r 1)

pub returns : goal.returns
unfolding listed
returns c = λ n m h.
    let all = c.args.self.now in
    let row : ℕ → List ℤ = λ j. map (λ i. pos (demo_value all.nx all.ny n j i)) (up_to all.nx) in
    let last : c.loop-r.r ≡ all.ny = omega (arith, c.loop-r-test.false, c.loop-r.auto.r-end) in
    c.loop-r.invariant n m h ∙ ap (λ k. flat_map row (range_with_len 1 k)) last ∙ sym (append-nil (flat_map row (up_to all.ny)))
