use Rattle.std.proofs.Common.{rules, arith, sym, ap, subst, ◌∙◌, ◌≡◌, ℕ, ◌+◌, ◌++◌, ◌∷◌, [], length}
use Rattle.std.proofs.lemmas.List.{length_push}
use Rattle.wf_model.specs.Demo.{demo_value}
use Rattle.wf_top.specs.declared.patch.Patch.{Patch}
use Rattle.wf_top.specs.Memories.{Hold, Each, IsPatch}
use Rattle.wf_top.proofs.PatchLaws.{each_push}
use Rattle.wf_top.proofs.patches.Patches.new.Goals as goal

pub loop-p-preserved : goal.loop-p-preserved
loop-p-preserved c =
    let before = c.loop-p.patches.items in
    let made = c.in_ok-new.field-0 in
    let pushed : c.push.new.self.items ≡ before ++ made ∷ [] = c.in_ok-push.ensures.items in
    let count : length before ≡ c.loop-p.p = c.loop-p.invariant.count in
    let is_patch : IsPatch c.args.nx c.args.ny c.args.px c.loop-p.p made = record { block = c.in_ok-new.ensures.block; rows = c.in_ok-new.ensures.rows } in
    let P : ℕ → Patch → Type 0 = IsPatch c.args.nx c.args.ny c.args.px in
    let Q : ℕ → Patch → Type 0 = λ p patch. Hold (demo_value c.args.nx c.args.ny 0) c.args.ny patch 0 patch.width in
    record {
      count = ap length pushed ∙ length_push before made ∙ ap (λ n. n + 1) count;
      each = subst (Each P) (sym pushed) (each_push P before made c.loop-p.invariant.each (subst (λ n. P n made) (sym count) is_patch));
      holds = subst (Each Q) (sym pushed) (each_push Q before made c.loop-p.invariant.holds c.in_ok-new.ensures.holds);
    }

pub returns-clause-domain : goal.returns-clause-domain
returns-clause-domain c =
    let count : c.args.px ≡ length c.loop-p.patches.items = omega (arith, c.loop-p.invariant.count, c.loop-p-test.false) in
    record {
      some = omega arith;
      most = omega arith;
      columns = omega arith;
      row = omega arith;
      rows = omega arith;
      each = subst (λ n. Each (IsPatch c.args.nx c.args.ny n) c.loop-p.patches.items) count c.loop-p.invariant.each;
      column = search rules;
    }
