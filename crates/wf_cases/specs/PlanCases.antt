-- Worked cases of a plan's tests: reads of a phase's points.
use Rattle.std.specs.Prelude.{ℕ, ◌≡◌, [], ◌∷◌, pos, negsuc, Option, Some, None, codes}
use Rattle.wf_model.specs.declared.plan.Plan.{Plan}
use Rattle.wf_model.specs.declared.plan.Phase.{Phase}
use Rattle.wf_model.specs.declared.plan.Item.TheVariants as item
use Rattle.wf_model.specs.declared.expr.Expr.{Expr, roll-Expr}
use Rattle.wf_model.specs.declared.expr.Args.TheOpen as e
use Rattle.wf_model.specs.declared.plan_fault.PlanFault.{PlanFault}
use Rattle.wf_model.specs.declared.plan_fault.PlanFault.TheVariants.{ReadPastEdge}
use Rattle.wf_model.specs.Reading.{first_fault}
use Rattle.wf_model.specs.PlanTests.{phase_edges}
use Rattle.wf_model.specs.DemoCase.{case_plan, case_field}

-- a[-1,0,0]
abbrev pub west : Expr
west = roll-Expr (e.Read 0 (negsuc 0) (pos 0) (pos 0))

-- phase q writes a margin mx 0 = a[-1,0,0]
abbrev pub q : ℕ → Phase
q mx = record {
  name = codes "q";
  writes = 0;
  mx = mx;
  my = 0;
  from = 0;
  to = 0;
  extend = 0;
  expr = west;
}

abbrev pub row : ℕ → Plan
row mx = case_plan 4 1 1 (case_field (codes "a") (codes "A")) (item.Phase (q mx) ∷ [])

abbrev pub edge_fault_of : ℕ → Option PlanFault
edge_fault_of mx = first_fault (phase_edges (row mx) (pos 1 ∷ []) 1 (q mx))

pub record ReadsAtTheEdge : Type 0 where
  pub past_the_edge : edge_fault_of 0 ≡ Some (ReadPastEdge 1 (codes "q") (codes "a"))
  pub inside : edge_fault_of 1 ≡ None
  -- a region without points asks for nothing
  pub no_region : edge_fault_of 2 ≡ None
