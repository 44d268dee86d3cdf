use Rattle.std.proofs.Common.{◌≤◌, List, [], ◌∷◌, length, sym, ap, subst, ◌∙◌, w64}
use Rattle.std.proofs.lemmas.Int.{to_z-of_z}
use Rattle.std.proofs.lemmas.List.{length-take-le}
use Rattle.wf_model.specs.Patches.{Cell, split_of}
use Rattle.wf_field.specs.Kept.{Keeps}
use Rattle.wf_field.specs.Settings.{cell_at}
use Rattle.wf_field.proofs.Joining.{none_kept, cells_kept}
use Rattle.wf_halo.specs.Parts.{is_sent}
use Rattle.wf_halo.specs.Walks.{sent}
use Rattle.wf_halo.proofs.Walking.{place_there, sent_yes, sent_no}
use Rattle.wf_halo.proofs.Taking.{one_row, one_set, first_is}
use Rattle.wf_halo.proofs.unpacking.unpack_cell.Goals as goal

pub is_sent-requires-clause-cell : goal.is_sent-requires-clause-cell
is_sent-requires-clause-cell g c =
    let a = c.args in
    place_there a.part.now c.requires.walked a.j a.i _ _ (to_z-of_z w64 a.j c.ranges.j) (to_z-of_z w64 a.i c.ranges.i) c.requires.row c.requires.column

pub returns-then-not-is_sent-clause-used : goal.returns-then-not-is_sent-clause-used
returns-then-not-is_sent-clause-used g c =
    let a = c.args in
    let p = a.part.now in
    let not = sym (c.is_sent.ensures ∙ (λ n. is_sent p (to_z-of_z w64 a.j c.ranges.j n) (to_z-of_z w64 a.i c.ranges.i n))) ∙ c.if-not-is_sent.true in
    sym (ap (λ (xs : List Cell). length xs) (sent_no p (cell_at p.field a.k a.j a.i) not))

pub returns-then-not-is_sent-clause-set : goal.returns-then-not-is_sent-clause-set
returns-then-not-is_sent-clause-set g c =
    let a = c.args in
    let p = a.part.now in
    let m = a.memory.now in
    let not = sym (c.is_sent.ensures ∙ (λ n. is_sent p (to_z-of_z w64 a.j c.ranges.j n) (to_z-of_z w64 a.i c.ranges.i n))) ∙ c.if-not-is_sent.true in
    λ v b. cells_kept g.N.RunName.run.plan (split_of g.N.RunName.layout) m.domain m.patch v [] (sent p (cell_at p.field a.k a.j a.i ∷ [])) m.levels m.levels (sym (sent_no p (cell_at p.field a.k a.j a.i) not))
    (none_kept g.N.RunName.run.plan (split_of g.N.RunName.layout) m.domain m.patch v m.levels)

pub first-requires : goal.first-requires
first-requires g c =
    let a = c.args in
    let p = a.part.now in
    let is = sym (c.is_sent.ensures ∙ (λ n. is_sent p (to_z-of_z w64 a.j c.ranges.j n) (to_z-of_z w64 a.i c.ranges.i n))) ∙ c.if-not-is_sent.false in
    subst (λ (xs : List Cell). length xs ≤ length a.values.now) (sent_yes p (cell_at p.field a.k a.j a.i) is) c.requires.long

pub set_row-requires-clause-row : goal.set_row-requires-clause-row
set_row-requires-clause-row g c =
    let a = c.args in
    let p = a.part.now in
    let is = sym (c.is_sent.ensures ∙ (λ n. is_sent p (to_z-of_z w64 a.j c.ranges.j n) (to_z-of_z w64 a.i c.ranges.i n))) ∙ c.if-not-is_sent.false in
    let some : 1 ≤ length a.values.now = subst (λ (xs : List Cell). length xs ≤ length a.values.now) (sent_yes p (cell_at p.field a.k a.j a.i) is) c.requires.long in
    one_row (Keeps g.N.RunName.run.plan g.N.RunName.layout a.memory.now) p.field a.k (length c.first.result.now) a.j a.i _ _ (ap (λ xs. length xs) c.first.ensures ∙ length-take-le 1 a.values.now some)
    (to_z-of_z w64 a.j c.ranges.j) (to_z-of_z w64 a.i c.ranges.i) (c.requires.kept a.k a.j a.i c.requires.level c.requires.row c.requires.column is)

pub returns-clause-used : goal.returns-clause-used
returns-clause-used g c =
    let a = c.args in
    let p = a.part.now in
    let is = sym (c.is_sent.ensures ∙ (λ n. is_sent p (to_z-of_z w64 a.j c.ranges.j n) (to_z-of_z w64 a.i c.ranges.i n))) ∙ c.if-not-is_sent.false in
    sym (ap (λ (xs : List Cell). length xs) (sent_yes p (cell_at p.field a.k a.j a.i) is))

pub returns-clause-set : goal.returns-clause-set
returns-clause-set g c =
    let a = c.args in
    let p = a.part.now in
    let m = a.memory.now in
    let plan = g.N.RunName.run.plan in
    let split = split_of g.N.RunName.layout in
    let cell = cell_at p.field a.k a.j a.i in
    let is = sym (c.is_sent.ensures ∙ (λ n. is_sent p (to_z-of_z w64 a.j c.ranges.j n) (to_z-of_z w64 a.i c.ranges.i n))) ∙ c.if-not-is_sent.false in
    let some : 1 ≤ length a.values.now = subst (λ (xs : List Cell). length xs ≤ length a.values.now) (sent_yes p cell is) c.requires.long in
    λ v b. cells_kept plan split m.domain m.patch v (cell ∷ []) (sent p (cell ∷ [])) m.levels _ (sym (sent_yes p cell is))
    (one_set plan split m.domain m.patch p.field a.k a.j a.i _ _ c.first.result.now a.values.now m.levels _ v (to_z-of_z w64 a.j c.ranges.j) (to_z-of_z w64 a.i c.ranges.i) c.first.ensures some (first_is p cell a.values.now v is b) c.set_row.ensures.set)
