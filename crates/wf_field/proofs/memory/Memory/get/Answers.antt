use Rattle.std.proofs.Common.{◌≡◌, sym, subst, ◌∙◌, w64, w32, rules}
use Rattle.std.proofs.lemmas.Int.{to_z-of_z}
use Rattle.wf_model.specs.Patches.{split_of, kept_at}
use Rattle.wf_model.specs.Kept.{IsKeptCell}
use Rattle.wf_field.specs.Kept.{KeptMemory}
use Rattle.wf_field.specs.Settings.{cell_at}
use Rattle.wf_field.proofs.Finding.{level_there, cell_there, read_there}
use Rattle.wf_field.proofs.memory.Memory.get.Goals as goal

pub number_of-requires-clause-level : goal.number_of-requires-clause-level
number_of-requires-clause-level g c =
    let w = c.self.inside in
    level_there g.N.RunName.run.plan g.N.RunName.layout w.domain w.patch w.boxes w.levels c.self.invariant _ _ c.as_slice.ensures c.as_slice-2.ensures c.args.field c.requires.field

pub number_of-requires-clause-cell : goal.number_of-requires-clause-cell
number_of-requires-clause-cell g c =
    let w = c.self.inside in
    let kept = subst (λ (v : KeptMemory). IsKeptCell g.N.RunName.run.plan (split_of g.N.RunName.layout) v.domain v.patch (cell_at c.args.field c.args.k c.args.j c.args.i)) (sym c.self.view_is) c.requires in
    cell_there g.N.RunName.run.plan g.N.RunName.layout w.domain w.patch w.boxes w.levels c.self.invariant _ c.as_slice.ensures (cell_at c.args.field c.args.k c.args.j c.args.i) kept _ _
    (to_z-of_z w64 c.args.j c.ranges.j) (to_z-of_z w64 c.args.i c.ranges.i)

pub returns : goal.returns
returns g c =
    let w = c.self.inside in
    let kept = subst (λ (v : KeptMemory). IsKeptCell g.N.RunName.run.plan (split_of g.N.RunName.layout) v.domain v.patch (cell_at c.args.field c.args.k c.args.j c.args.i)) (sym c.self.view_is) c.requires in
    to_z-of_z w32 c.number_of.result (search rules)
    ∙ subst (λ (v : KeptMemory). c.number_of.result ≡ kept_at g.N.RunName.run.plan (split_of g.N.RunName.layout) v.domain v.patch v.levels c.args.field c.args.k c.args.j c.args.i) c.self.view_is
    (read_there g.N.RunName.run.plan g.N.RunName.layout w.domain w.patch w.boxes w.levels c.self.invariant _ _ c.as_slice.ensures c.as_slice-2.ensures (cell_at c.args.field c.args.k c.args.j c.args.i) kept _ _
    (to_z-of_z w64 c.args.j c.ranges.j) (to_z-of_z w64 c.args.i c.ranges.i) c.number_of.result c.number_of.ensures)
