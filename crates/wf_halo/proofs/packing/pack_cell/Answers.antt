use Rattle.std.proofs.Common.{ℕ, List, [], ◌∷◌, ◌++◌, map, sym, ap, subst, ◌∙◌, w64, w32, rules}
use Rattle.std.proofs.lemmas.Int.{to_z-of_z}
use Rattle.std.specs.Prelude.{ℤ, pos}
use Rattle.wf_model.specs.Patches.{Cell}
use Rattle.wf_field.specs.Kept.{Keeps, number_in}
use Rattle.wf_field.specs.Settings.{cell_at}
use Rattle.wf_halo.specs.Parts.{is_sent, row_of, column_of}
use Rattle.wf_halo.specs.Walks.{sent_number}
use Rattle.wf_halo.proofs.Lists.{alone}
use Rattle.wf_halo.proofs.Walking.{place_there, sent_yes, sent_no}
use Rattle.wf_halo.proofs.packing.pack_cell.Goals as goal

pub is_sent-requires-clause-cell : goal.is_sent-requires-clause-cell
is_sent-requires-clause-cell g c =
    let a = c.args in
    place_there a.part.now c.requires.walked a.j a.i _ _ (to_z-of_z w64 a.j c.ranges.j) (to_z-of_z w64 a.i c.ranges.i) c.requires.row c.requires.column

pub row_of-requires-clause-wide : goal.row_of-requires-clause-wide
row_of-requires-clause-wide g c =
    let a = c.args in
    (place_there a.part.now c.requires.walked a.j a.i _ _ (to_z-of_z w64 a.j c.ranges.j) (to_z-of_z w64 a.i c.ranges.i) c.requires.row c.requires.column).wide_j

pub row_of-requires-clause-inside : goal.row_of-requires-clause-inside
row_of-requires-clause-inside g c =
    let a = c.args in
    (place_there a.part.now c.requires.walked a.j a.i _ _ (to_z-of_z w64 a.j c.ranges.j) (to_z-of_z w64 a.i c.ranges.i) c.requires.row c.requires.column).in_y

pub column_of-requires-clause-wide : goal.column_of-requires-clause-wide
column_of-requires-clause-wide g c =
    let a = c.args in
    (place_there a.part.now c.requires.walked a.j a.i _ _ (to_z-of_z w64 a.j c.ranges.j) (to_z-of_z w64 a.i c.ranges.i) c.requires.row c.requires.column).wide_i

pub column_of-requires-clause-inside : goal.column_of-requires-clause-inside
column_of-requires-clause-inside g c =
    let a = c.args in
    (place_there a.part.now c.requires.walked a.j a.i _ _ (to_z-of_z w64 a.j c.ranges.j) (to_z-of_z w64 a.i c.ranges.i) c.requires.row c.requires.column).in_x

pub get-value-requires : goal.get-value-requires
get-value-requires g c =
    let a = c.args in
    let p = a.part.now in
    let plan = g.N.RunName.run.plan in
    let layout = g.N.RunName.layout in
    let is = sym (c.is_sent.ensures ∙ (λ n. is_sent p (to_z-of_z w64 a.j c.ranges.j n) (to_z-of_z w64 a.i c.ranges.i n))) ∙ c.if-is_sent.true in
    let y = to_z-of_z w64 c.from-y.result (search rules) ∙ c.from-y.ensures ∙ ap (λ (m : ℕ). pos m) (c.row_of.ensures ∙ ap (row_of p) (to_z-of_z w64 a.j c.ranges.j)) in
    let x = to_z-of_z w64 c.from-x.result (search rules) ∙ c.from-x.ensures ∙ ap (λ (m : ℕ). pos m) (c.column_of.ensures ∙ ap (column_of p) (to_z-of_z w64 a.i c.ranges.i)) in
    let kept : Keeps plan layout a.memory.now (cell_at p.field a.k (pos (row_of p a.j)) (pos (column_of p a.i))) = c.requires.kept a.k a.j a.i c.requires.level c.requires.row c.requires.column is in
    subst (λ (b : Cell). Keeps plan layout a.memory.now b) (λ n. cell_at p.field a.k (sym y n) (sym x n)) kept

pub returns-in_ok-push : goal.returns-in_ok-push
returns-in_ok-push g c =
    let a = c.args in
    let p = a.part.now in
    let m = number_in g.N.RunName.run.plan g.N.RunName.layout a.memory.now in
    let cell = cell_at p.field a.k a.j a.i in
    let is = sym (c.is_sent.ensures ∙ (λ n. is_sent p (to_z-of_z w64 a.j c.ranges.j n) (to_z-of_z w64 a.i c.ranges.i n))) ∙ c.if-is_sent.true in
    let y = to_z-of_z w64 c.from-y.result (search rules) ∙ c.from-y.ensures ∙ ap (λ (m : ℕ). pos m) (c.row_of.ensures ∙ ap (row_of p) (to_z-of_z w64 a.j c.ranges.j)) in
    let x = to_z-of_z w64 c.from-x.result (search rules) ∙ c.from-x.ensures ∙ ap (λ (m : ℕ). pos m) (c.column_of.ensures ∙ ap (column_of p) (to_z-of_z w64 a.i c.ranges.i)) in
    let value = to_z-of_z w32 c.get-value.result (search rules) ∙ c.get-value.ensures ∙ (λ n. m p.field a.k (y n) (x n)) in
    c.in_ok-push.ensures.items ∙ ap (λ (xs : List ℤ). a.values.now.items ++ xs) ((λ n. value n ∷ []) ∙ ap (λ (xs : List Cell). map (sent_number p m) xs) (sym (sent_yes p cell is)))

pub returns-else-is_sent : goal.returns-else-is_sent
returns-else-is_sent g c =
    let a = c.args in
    let p = a.part.now in
    let m = number_in g.N.RunName.run.plan g.N.RunName.layout a.memory.now in
    let cell = cell_at p.field a.k a.j a.i in
    let not = sym (c.is_sent.ensures ∙ (λ n. is_sent p (to_z-of_z w64 a.j c.ranges.j n) (to_z-of_z w64 a.i c.ranges.i n))) ∙ c.if-is_sent.false in
    sym (alone a.values.now.items) ∙ ap (λ (xs : List Cell). a.values.now.items ++ map (sent_number p m) xs) (sym (sent_no p cell not))
