use Rattle.std.proofs.Common.{◌≡◌, ◌+◌, ◌-◌, ◌^◌, ◌≤◌, ℕ, ap, sym, subst, ◌∙◌, w64, rules, arith}
use Rattle.std.proofs.lemmas.Int.{to_z-of_z}
use Rattle.wf_rect.specs.Tiles.{count_between}
use Rattle.wf_rect.proofs.Stored.{count_of}
use Rattle.wf_model.specs.declared.plan.Domain.{Domain}
use Rattle.wf_model.specs.Plans.{domain_of, field_of, extra, nx, ny, nz}
use Rattle.wf_model.specs.Patches.{Box, size_of, split_of}
use Rattle.wf_laws.proofs.Places.{room_of, some_nx, some_ny}
use Rattle.wf_boxes.specs.Boxes.{IsNear}
use Rattle.wf_boxes.proofs.Ends.{near_count}
use Rattle.wf_boxes.proofs.places.level_box.Goals as goal

pub count-requires-2 : goal.count-requires-2
count-requires-2 c =
    let at = c.memory_box-at.result in
    let near = c.memory_box-at.ensures.near in
    let few = near_count _ _ (subst IsNear (sym (to_z-of_z w64 at.i0 (search rules))) near.west)
    (subst IsNear (sym (to_z-of_z w64 at.i1 (search rules))) near.east) in
    omega (arith, few)

pub returns : goal.returns
returns c =
    let plan = c.args.patch.now.plan.now in
    let layout = c.args.patch.now.layout.now in
    let d = c.args.patch.now.domain in
    let at = c.memory_box-at.result in
    let is = c.memory_box-at.ensures.value in
    let near = c.memory_box-at.ensures.near in
    let rows : c.count.result ≡ count_between at.j0 at.j1 = count_of at.j0 at.j1 c.count.result (search rules) (search rules) c.count.ensures in
    let columns : c.count-2.result ≡ count_between at.i0 at.i1 = count_of at.i0 at.i1 c.count-2.result (search rules) (search rules) c.count-2.ensures in
    let domain : c.domain-domain.result.now ≡ domain_of plan d = search rules in
    let level : c.field.result.now ≡ field_of plan c.args.field = search rules in
    let room = room_of plan layout c.args.patch.now.laid.laid d c.args.patch.now.laid.domain in
    let levels : c.extents-extents.result.levels ≡ nz plan c.args.field = search rules in
    let width : c.extents-extents.result.columns ≡ nx plan d c.args.field = c.extents-extents.ensures.columns ∙ (λ n. (domain n).ide - 1 + extra (level n).stag_x (domain n).periodic_x) in
    let height : c.extents-extents.result.rows ≡ ny plan d c.args.field = c.extents-extents.ensures.rows ∙ (λ n. (domain n).jde - 1 + extra (level n).stag_y (domain n).periodic_y) in
    record {
      south = to_z-of_z w64 at.j0 (search rules) ∙ ap (λ (b : Box). b.y.low) is;
      west = to_z-of_z w64 at.i0 (search rules) ∙ ap (λ (b : Box). b.x.low) is;
      rows = rows ∙ ap (λ (b : Box). size_of b.y) is;
      columns = columns ∙ ap (λ (b : Box). size_of b.x) is;
      levels = levels;
      width = width;
      height = height;
      some = (subst (λ (n : ℕ). 1 ≤ n) (sym width) (some_nx plan (split_of layout) d room c.args.field), subst (λ (n : ℕ). 1 ≤ n) (sym height) (some_ny plan (split_of layout) d room c.args.field));
      periodic_x = ap (λ (x : Domain). x.periodic_x) domain;
      periodic_y = ap (λ (x : Domain). x.periodic_y) domain;
      near = (subst IsNear (sym (to_z-of_z w64 at.j0 (search rules))) near.south, subst IsNear (sym (to_z-of_z w64 at.i0 (search rules))) near.west);
      narrow = (
        subst (λ (n : ℕ). n ≤ 2 ^ 15) (sym rows) (near_count at.j0 at.j1 near.south near.north),
        subst (λ (n : ℕ). n ≤ 2 ^ 15) (sym columns) (near_count at.i0 at.i1 near.west near.east),
        subst (λ (n : ℕ). n ≤ 128) (sym levels) (c.args.patch.now.laid.levels c.args.field c.requires),
      );
    }
