-- Worked cases of the halo rule, on the finest layout of small domains.
use Rattle.std.specs.Prelude.{ℕ, ◌≡◌, Bool, true, false, List, [], ◌∷◌, ◌++◌, ℤ, pos, negsuc, Some}
use Rattle.std.specs.Prelude.{codes}
use Rattle.wf_model.specs.declared.plan.Phase.{Phase}
use Rattle.wf_model.specs.declared.plan.Item.{Item}
use Rattle.wf_model.specs.declared.plan.Item.TheVariants as item
use Rattle.wf_model.specs.declared.plan.Plan.{Plan}
use Rattle.wf_model.specs.declared.expr.Expr.{roll-Expr}
use Rattle.wf_model.specs.declared.expr.Args.TheOpen as e
use Rattle.wf_model.specs.Covered.{Asked}
use Rattle.wf_model.specs.Uncovered.{is_read_covered}
use Rattle.wf_model.specs.DemoCase.{case_domain, case_field, case_plan}

-- ---- plans of two fields, a and b, with these items

abbrev pub halo : Bool → ℕ → Item
halo cross n = item.Halo (record { field = 0; cross = cross; radius = n }
    ∷ record { field = 1; cross = cross; radius = n } ∷ [])

abbrev pub period : ℕ → Item
period n = item.Period (record { field = 0; width = n } ∷ record { field = 1; width = n } ∷ [])

-- what a phase reads is said beside it
abbrev pub phase : ℕ → ℕ → ℕ → ℕ → Phase
phase writes mx my extend = record {
  name = codes "p";
  writes = writes;
  mx = mx;
  my = my;
  from = 0;
  to = 0;
  extend = extend;
  expr = roll-Expr (e.Num 0);
}

abbrev pub plan : Bool → ℕ → ℕ → List Item → Plan
plan periodic x y items = record (case_plan x y 1 (case_field (codes "a") (codes "A")) items) {
  domains = record (case_domain x y) { periodic_x = periodic } ∷ [];
  fields = case_field (codes "a") (codes "A")
      ∷ record (case_field (codes "b") (codes "B")) { pair = 1 } ∷ [];
}

-- the read a[di,0,dj] of a phase that is the item of this number, from 0
abbrev pub reads : Phase → ℕ → ℤ → ℤ → Asked
reads ph n di dj = record
    { domain = 1; item = n; phase = ph; read = record { field = 0; di = di; dk = pos 0; dj = dj } }

-- ---- a is changed, there is a halo, and a phase reads a corner

abbrev pub corner : Item → Plan
corner h = plan false 3 3 (item.Phase (phase 0 0 0 0) ∷ h ∷ item.Phase (phase 1 1 1 0) ∷ [])

pub record CornerAfterCross : Type 0 where
  pub after_cross : is_read_covered (corner (halo true 1))
      (reads (phase 1 1 1 0) 2 (pos 1) (pos 1)) ≡ false
  pub after_square : is_read_covered (corner (halo false 1))
      (reads (phase 1 1 1 0) 2 (pos 1) (pos 1)) ≡ true

-- ---- an extended phase covers nothing outside its region: q changes a, s writes the inner points
-- with extend 1, p reads at the edge

abbrev pub at_the_edge : List Item → Plan
at_the_edge between = plan false 3 3 (item.Phase (phase 0 0 0 0) ∷ between
    ++ (item.Phase (phase 0 1 1 1) ∷ item.Phase (phase 1 0 1 0) ∷ []))

pub record ExtendAtTheEdge : Type 0 where
  pub refused : is_read_covered (at_the_edge []) (reads (phase 1 0 1 0) 2 (pos 0) (pos 1)) ≡ false
  pub accepted : is_read_covered (at_the_edge (halo false 1 ∷ []))
      (reads (phase 1 0 1 0) 3 (pos 0) (pos 1)) ≡ true

-- ---- a periodic row of four points, where a phase reads its own field in the west

abbrev pub row : List Item → Plan
row items = plan true 4 1 (items ++ (item.Phase (phase 0 0 0 0) ∷ []))

pub record PeriodicRow : Type 0 where
  pub without_period : is_read_covered (row (halo false 1 ∷ []))
      (reads (phase 0 0 0 0) 1 (negsuc 0) (pos 0)) ≡ false
  pub with_period : is_read_covered (row (halo false 1 ∷ period 1 ∷ []))
      (reads (phase 0 0 0 0) 2 (negsuc 0) (pos 0)) ≡ true

-- ---- a row of eight points, where a phase reads three points in the west after a halo of n rows

abbrev pub long_row : ℕ → Plan
long_row n =
    plan false 8 1 (item.Phase (phase 0 0 0 0) ∷ halo false n ∷ item.Phase (phase 1 3 0 0) ∷ [])

pub record TwoPatchesAway : Type 0 where
  pub three_rows : is_read_covered (long_row 3) (reads (phase 1 3 0 0) 2 (negsuc 2) (pos 0)) ≡ true
  pub two_rows : is_read_covered (long_row 2) (reads (phase 1 3 0 0) 2 (negsuc 2) (pos 0)) ≡ false

-- ---- feedback writes a level with its letter, so a halo behind the read, which stood before the
-- feedback, doesn't serve it

abbrev pub fed : Bool → Plan
fed feedback = record (plan false 3 3 (item.Phase (phase 1 1 1 0) ∷ halo false 1 ∷ [])) {
  domains = case_domain 3 3 ∷ record (case_domain 3 3) {
    parent = 1;
    i_start = 2;
    j_start = 2;
    ratio = 3;
    time_ratio = 3;
    seconds = 20;
  } ∷ [];
  fields = record (case_field (codes "a") (codes "A")) { up = Some 4 }
      ∷ record (case_field (codes "b") (codes "B")) { pair = 1 } ∷ [];
  feedback = feedback;
}

pub record FeedbackWrites : Type 0 where
  pub with_feedback : is_read_covered (fed true) (reads (phase 1 1 1 0) 0 (pos 1) (pos 0)) ≡ false
  pub without_feedback : is_read_covered (fed false)
      (reads (phase 1 1 1 0) 0 (pos 1) (pos 0)) ≡ true
