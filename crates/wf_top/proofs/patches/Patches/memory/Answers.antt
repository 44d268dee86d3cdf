use Rattle.std.proofs.Common.{sym, ap, subst, ◌∙◌, ◌≡◌, ℕ, ◌-◌, ◌*◌, List, length, ℤ, pos, sum_by}
use Rattle.std.specs.List.{range_with_len}
use Rattle.wf_model.specs.Lockstep.{MemoryLine}
use Rattle.wf_model.specs.Demo.{demo_value, held_columns, column_sum}
use Rattle.wf_top.specs.Cells.{size_at, AreSmall}
use Rattle.wf_top.specs.Memories.{Holds, IsPatch}
use Rattle.wf_top.proofs.MemoryLaws.{memory_small, cells_are, sum_is}
use Rattle.wf_top.proofs.patches.Patches.memory.Goals as goal

pub cell_sum-requires-clause-small : goal.cell_sum-requires-clause-small
cell_sum-requires-clause-small c =
    let all = c.args.self.now in
    let patch = c.index-patch.result.now in
    let n = c.requires.grid.0 in
    let m = c.requires.grid.1 in
    let holds = subst (Holds all.ny (demo_value all.nx all.ny n) (demo_value all.nx all.ny m) (demo_value all.nx all.ny m)) (sym c.index-patch.ensures) (c.requires.grid.2 c.args.p c.requires.place patch) in
    subst (λ (v : List ℤ). AreSmall v patch.width all.ny) (sym c.deref.ensures.value) (memory_small all.nx all.ny n m m patch holds)

pub returns-clause-memory : goal.returns-clause-memory
returns-clause-memory c = λ d e.
    let all = c.args.self.now in
    let p = c.args.p in
    let patch = c.index-patch.result.now in
    let is0 : IsPatch all.nx all.ny (length all.patches.items) p patch = subst (IsPatch all.nx all.ny (length all.patches.items) p) (sym c.index-patch.ensures) (c.requires.domain.each p c.requires.place patch) in
    let is : IsPatch d.nx d.ny d.px p patch = subst (λ x. IsPatch x d.ny d.px p patch) (sym e.nx) (subst (λ y. IsPatch all.nx y d.px p patch) (sym e.ny) (subst (λ k. IsPatch all.nx all.ny k p patch) (sym e.px) is0)) in
    let h0 = subst (Holds all.ny (demo_value all.nx all.ny d.steps) (demo_value all.nx all.ny (d.steps - 1)) (demo_value all.nx all.ny (d.steps - 1))) (sym c.index-patch.ensures) (e.grid p c.requires.place patch) in
    let h1 = subst (λ y. Holds y (demo_value all.nx y d.steps) (demo_value all.nx y (d.steps - 1)) (demo_value all.nx y (d.steps - 1)) patch) (sym e.ny) h0 in
    let holds = subst (λ x. Holds d.ny (demo_value x d.ny d.steps) (demo_value x d.ny (d.steps - 1)) (demo_value x d.ny (d.steps - 1)) patch) (sym e.nx) h1 in
    let cells : patch.width * all.ny ≡ length (held_columns d p) * d.ny = ap (λ y. patch.width * y) (sym e.ny) ∙ cells_are d p patch is in
    let total : c.cell_sum.result ≡ sum_by (λ k. column_sum d.nx d.ny k.0 k.1) (held_columns d p) =
    c.cell_sum.ensures.value
    ∙ ap (λ (v : List ℤ). sum_by (λ i. sum_by (λ r. size_at v patch.width r i) (range_with_len 0 all.ny)) (range_with_len 0 patch.width)) c.deref.ensures.value
    ∙ ap (λ y. sum_by (λ i. sum_by (λ r. size_at patch.values.items patch.width r i) (range_with_len 0 y)) (range_with_len 0 patch.width)) (sym e.ny)
    ∙ sum_is d p patch is holds in
    let line : ℕ → ℕ → MemoryLine = λ x y. record { domain = 1; patch = p; cells = x; sum = pos y } in
    ap (λ x. line x (sum_by (λ k. column_sum d.nx d.ny k.0 k.1) (held_columns d p))) (sym cells) ∙ ap (line (patch.width * all.ny)) (sym total)
