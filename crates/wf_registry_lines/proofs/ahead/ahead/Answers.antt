use Rattle.std.proofs.Common.{◌≡◌, ℕ, ◌+◌, Bool, List, [], ◌∷◌, length, ap, arith, length-append, ◌∙◌, subst}
use Rattle.std.specs.Prelude.{◌||◌, nat_lt}
use Rattle.std.specs.List.{All}
use Rattle.std.proofs.lemmas.Bool.Decides.{nat_tests}
use Rattle.std.proofs.lemmas.List.{nil_from_length}
use Rattle.wf_registry_lines.specs.FileLines.{IsHeld}
use Rattle.wf_registry_lines.specs.declared.ahead.AheadLine.{AheadLine}
use Rattle.wf_registry_lines.specs.declared.ahead.FileLine.{FileLine}
use Rattle.wf_registry_lines.proofs.SpareEndifs.{IsMarked, MarksOf, marked_all, marked_more, marked_none, spared-below}
use Rattle.wf_registry_lines.proofs.ahead.ahead.Goals as goal
use Rattle.wf_registry_lines.proofs.ahead.ahead.Goals.{In_ok-push, then-faulty, else-faulty}

pub loop-line-init : goal.loop-line-init
loop-line-init c = marked_none c.args.faulty c.args.lines.items c.in_ok-ahead.ahead.items c.in_ok-ahead.ensures.items

pub spare_with-spare-requires : goal.spare_with-spare-requires
spare_with-spare-requires c =
    let below = spared-below c.args.faulty c.loop-line.lines.items c.args.lines.items c.loop-line.ahead.items c.loop-line.spare c.loop-line.invariant in
    let popped : length c.loop-line.lines.items ≡ length c.pop.new.self.items + 1 = ap length c.in-Some.ensures.items ∙ length-append c.pop.new.self.items (c.in-Some.line ∷ []) in
    omega (arith, c.args.lines.ok.0, c.args.lines.small)

-- an endif that would be the line's own follows, or the text has a fault
closed_is : (c : In_ok-push) → c.if-faulty.closed ≡ (c.args.faulty || nat_lt 0 c.loop-line.spare)
closed_is c = elim c.if-faulty.branch [ then-faulty w ↦ grind (arith, nat_tests) | else-faulty w ↦ grind (arith, nat_tests) ]

pub loop-line-preserved : goal.loop-line-preserved
loop-line-preserved c =
    marked_more c.args.faulty c.pop.new.self.items c.loop-line.lines.items c.args.lines.items c.loop-line.ahead.items c.push.new.self.items c.loop-line.spare c.spare_with-spare.result c.in-Some.line c.if-faulty.closed
    c.loop-line.invariant c.in-Some.ensures.items (closed_is c) c.spare_with-spare.ensures c.in_ok-push.ensures.items

-- each line is marked, whatever text they are held of
all_marked : (lines left : List FileLine) (faulty : Bool) (ahead : List AheadLine) (spare : ℕ) → length left ≡ 0 → IsMarked faulty left lines ahead spare
    → (text : List ℕ) → All (IsHeld text) lines → MarksOf text faulty lines ahead spare
all_marked lines left faulty ahead spare none m =
    marked_all faulty lines ahead spare (subst (λ (ls : List FileLine). IsMarked faulty ls lines ahead spare) (nil_from_length left none) m)

pub returns-clause-marked : goal.returns-clause-marked
returns-clause-marked c text held =
    (all_marked c.args.lines.items c.loop-line.lines.items c.args.faulty c.loop-line.ahead.items c.loop-line.spare (omega (arith, c.in_default.ensures.cases.0, c.loop-line.lines.ok.0)) c.loop-line.invariant text held).marked

pub returns-clause-held : goal.returns-clause-held
returns-clause-held c text held =
    (all_marked c.args.lines.items c.loop-line.lines.items c.args.faulty c.loop-line.ahead.items c.loop-line.spare (omega (arith, c.in_default.ensures.cases.0, c.loop-line.lines.ok.0)) c.loop-line.invariant text held).held
