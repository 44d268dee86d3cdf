use Rattle.std.proofs.Common.{false, refl, sym, ◌∙◌, w64}
use Rattle.std.proofs.lemmas.Int.{to_z-of_z}
use Rattle.wf_model.specs.Patches.{in_box}
use Rattle.wf_boxes.specs.Boxes.{box_of}
use Rattle.wf_halo.specs.Parts.{is_inside, is_around}
use Rattle.wf_halo.proofs.Tests.{brings_none, brings_own, brings_around}
use Rattle.wf_halo.proofs.parts.is_fetched.Goals as goal
use Rattle.wf_halo.proofs.parts.is_fetched.Goals.{then-not-inside-via-then-not-inside, then-not-inside-via-else-not-inside+then-has}

pub returns-then-not-inside : goal.returns-then-not-inside
returns-then-not-inside c =
    let a = c.args in
    let p = a.part.now in
    let inside = c.is_inside-inside.ensures ∙ (λ n. is_inside p (to_z-of_z w64 a.j c.ranges.j n) (to_z-of_z w64 a.i c.ranges.i n)) in
    elim c.then-not-inside.branch [
      | then-not-inside-via-then-not-inside w ↦ brings_none p.outside (is_inside p a.j a.i) (is_around p a.j a.i) (in_box (box_of p.to) a.j a.i) false c.if-part.false (sym inside ∙ w.if-not-inside.true) refl
      | then-not-inside-via-else-not-inside+then-has w ↦
          let own = w.has.ensures ∙ (λ n. in_box (box_of p.to) (to_z-of_z w64 a.j c.ranges.j n) (to_z-of_z w64 a.i c.ranges.i n)) in
          brings_own p.outside (is_inside p a.j a.i) (is_around p a.j a.i) (in_box (box_of p.to) a.j a.i) false c.if-part.false (sym own ∙ w.if-has.true) refl
    ]

pub returns : goal.returns
returns c =
    let a = c.args in
    let p = a.part.now in
    let inside = c.is_inside-inside.ensures ∙ (λ n. is_inside p (to_z-of_z w64 a.j c.ranges.j n) (to_z-of_z w64 a.i c.ranges.i n)) in
    let own = c.has.ensures ∙ (λ n. in_box (box_of p.to) (to_z-of_z w64 a.j c.ranges.j n) (to_z-of_z w64 a.i c.ranges.i n)) in
    let around = c.is_around.ensures ∙ (λ n. is_around p (to_z-of_z w64 a.j c.ranges.j n) (to_z-of_z w64 a.i c.ranges.i n)) in
    brings_around p.outside (is_inside p a.j a.i) (is_around p a.j a.i) (in_box (box_of p.to) a.j a.i) _ c.if-part.false (sym inside ∙ c.if-not-inside.false) (sym own ∙ c.if-has.false) around
