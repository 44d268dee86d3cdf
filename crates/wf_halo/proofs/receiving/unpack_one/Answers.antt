use Rattle.std.proofs.Common.{◌≤◌, List, length, sym, ap, subst, ◌∙◌}
use Rattle.wf_model.specs.Patches.{Cell}
use Rattle.wf_model.specs.Sound.{IsLevel}
use Rattle.wf_field.specs.Kept.{Keeps}
use Rattle.wf_halo.specs.Walks.{SetsBy}
use Rattle.wf_halo.proofs.Carried.{walks, each_sent, part_sent}
use Rattle.wf_halo.proofs.receiving.unpack_one.Goals as goal

pub unpack_part-requires-clause-walked : goal.unpack_part-requires-clause-walked
unpack_part-requires-clause-walked g c =
    let b = c.args.between in
    let q = c.requires.link in
    walks g.N.RunName.run.plan g.N.RunName.layout b.domain b.to b.from q.laid q.domain q.sender c.args.part c.args.outside c.part_of-part.result c.part_of-part.ensures

pub unpack_part-requires-clause-field : goal.unpack_part-requires-clause-field
unpack_part-requires-clause-field g c = subst (IsLevel g.N.RunName.run.plan) (sym c.part_of-part.ensures.field) (c.requires.link).level

pub unpack_part-requires-clause-kept : goal.unpack_part-requires-clause-kept
unpack_part-requires-clause-kept g c =
    let b = c.args.between in
    let q = c.requires.link in
    each_sent g.N.RunName.run.plan g.N.RunName.layout b.domain b.to b.from q.laid q.domain q.sender c.args.part c.args.outside c.part_of-part.result c.part_of-part.ensures
    (Keeps g.N.RunName.run.plan g.N.RunName.layout c.args.memory.now) c.requires.kept

pub unpack_part-requires-clause-long : goal.unpack_part-requires-clause-long
unpack_part-requires-clause-long g c =
    let b = c.args.between in
    let q = c.requires.link in
    subst (λ (cs : List Cell). length cs ≤ length c.args.values.now)
    (part_sent g.N.RunName.run.plan g.N.RunName.layout b.domain b.to b.from q.laid q.domain q.sender c.args.part c.args.outside c.part_of-part.result c.part_of-part.ensures) c.requires.long

pub returns-clause-used : goal.returns-clause-used
returns-clause-used g c =
    let b = c.args.between in
    let q = c.requires.link in
    c.unpack_part.ensures.used ∙ ap (λ (cs : List Cell). length cs)
    (sym (part_sent g.N.RunName.run.plan g.N.RunName.layout b.domain b.to b.from q.laid q.domain q.sender c.args.part c.args.outside c.part_of-part.result c.part_of-part.ensures))

pub returns-clause-set : goal.returns-clause-set
returns-clause-set g c =
    let b = c.args.between in
    let q = c.requires.link in
    subst (λ (cs : List Cell). SetsBy g.N.RunName.run.plan g.N.RunName.layout c.args.values.now cs c.args.memory.now c.unpack_part.new.memory)
    (sym (part_sent g.N.RunName.run.plan g.N.RunName.layout b.domain b.to b.from q.laid q.domain q.sender c.args.part c.args.outside c.part_of-part.result c.part_of-part.ensures)) c.unpack_part.ensures.set
