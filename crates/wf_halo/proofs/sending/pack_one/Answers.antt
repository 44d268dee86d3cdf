use Rattle.std.proofs.Common.{◌≡◌, ℕ, List, ◌++◌, map, ap, subst, ◌∙◌}
use Rattle.std.specs.Prelude.{ℤ, pos, OnOk}
use Rattle.wf_model.specs.Core.{memory_point}
use Rattle.wf_model.specs.Kept.{IsKeptCell}
use Rattle.wf_model.specs.Patches.{split_of}
use Rattle.wf_field.specs.Kept.{number_in}
use Rattle.wf_field.specs.Settings.{cell_at}
use Rattle.wf_halo.specs.Exchange.{brought}
use Rattle.wf_halo.specs.Parts.{row_of, column_of}
use Rattle.wf_halo.proofs.Carried.{walks, keeps_points, part_numbers}
use Rattle.wf_halo.proofs.sending.pack_one.Goals as goal

pub pack_part-requires-clause-walked : goal.pack_part-requires-clause-walked
pack_part-requires-clause-walked g c =
    let b = c.args.between in
    let q = c.requires.link in
    walks g.N.RunName.run.plan g.N.RunName.layout b.domain b.to b.from q.laid q.domain q.sender c.args.part c.args.outside c.part_of-part.result c.part_of-part.ensures

pub pack_part-requires-clause-kept : goal.pack_part-requires-clause-kept
pack_part-requires-clause-kept g c =
    let b = c.args.between in
    let m = c.args.memory.now in
    let q = c.requires.link in
    let here = c.requires.sender in
    let p = c.part_of-part.result in
    let plan = g.N.RunName.run.plan in
    let layout = g.N.RunName.layout in
    let keeps = keeps_points plan layout b.domain b.to b.from q.laid q.domain q.sender c.args.part c.args.outside c.part_of-part.result c.part_of-part.ensures
    (record { sound = (q.sound).sound; laid = q.laid; domain = q.domain; patch = q.sender }) q.level in
    λ k j i level row column sent.
    subst (λ (n : ℕ). IsKeptCell plan (split_of layout) n m.patch (cell_at p.field k (pos (row_of p j)) (pos (column_of p i)))) here.domain (subst (λ (n : ℕ). IsKeptCell plan (split_of layout) b.domain n (cell_at p.field k (pos (row_of p j)) (pos (column_of p i)))) here.patch (keeps k j i level row column sent))

pub returns : goal.returns
returns g c =
    let a = c.args in
    let b = a.between in
    let m = a.memory.now in
    let q = c.requires.link in
    let plan = g.N.RunName.run.plan in
    let layout = g.N.RunName.layout in
    let numbers = part_numbers plan layout b.domain b.to b.from q.laid q.domain q.sender a.part a.outside c.part_of-part.result c.part_of-part.ensures (number_in plan layout m) in
    subst (λ (xs : List ℤ). OnOk c.pack_part.result (c.pack_part.new.values.items ≡ a.values.now.items ++ xs))
    (numbers ∙ ap (λ (n : ℕ). map (memory_point plan n (number_in plan layout m)) (brought plan layout b a.outside a.part)) (c.requires.sender).domain) c.pack_part.ensures
