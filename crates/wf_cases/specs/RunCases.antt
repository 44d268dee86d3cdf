-- Worked cases of whole runs of one domain: their grids, or their first overflow.
use Rattle.std.specs.Prelude.{ℕ, ◌≡◌, ◌*◌, Bool, true, false, replicate, List, [], ◌∷◌, length, ℤ}
use Rattle.std.specs.Prelude.{pos, negsuc, ◌+ℤ◌, ◌-ℤ◌, codes, Some, slice_index_or}
use Rattle.std.specs.Int.{int_div_euclid}
use Rattle.wf_model.specs.declared.expr.Expr.{Expr, roll-Expr}
use Rattle.wf_model.specs.declared.expr.Args.{roll-Args}
use Rattle.wf_model.specs.declared.expr.Args.TheOpen as e
use Rattle.wf_model.specs.declared.expr.Test.TheVariants.{Less, Equal}
use Rattle.wf_model.specs.declared.plan.Item.{Item}
use Rattle.wf_model.specs.declared.plan.Item.TheVariants as item
use Rattle.wf_model.specs.declared.point.What.TheVariants as what
use Rattle.wf_model.specs.declared.script.Act.TheVariants.{Table}
use Rattle.wf_model.specs.Grids.{level_list}
use Rattle.wf_model.specs.Outcome.{RunData, begin_grids, grids_at, overflow_of}
use Rattle.wf_model.specs.Value.{Answers}
use Rattle.wf_model.specs.Frames.{frames_of}
use Rattle.wf_model.specs.Lockstep.{memory_report}
use Rattle.wf_model.specs.Writes.{summary_of}
use Rattle.wf_model.specs.Bytes.{header_bytes}
use Rattle.wf_model.specs.Headers.{file_header}
use Rattle.wf_model.specs.Sizes.{file_size}
use Rattle.wf_model.specs.Streams.{file_name}
use Rattle.wf_model.specs.DemoCase.{columns_layout, case_start, case_domain, case_field, case_plan}
use Rattle.wf_model.specs.DemoCase.{case_values, demo_expr}

abbrev pub num : ℕ → Expr
num n = roll-Expr (e.Num n)

abbrev pub read : ℤ → Expr
read di = roll-Expr (e.Read 0 di (pos 0) (pos 0))

-- a run of x by y points with one phase q that writes a: one step, after the start frame
abbrev pub run : ℕ → ℕ → ℕ → Expr → RunData
run x y margin expr = record {
  plan = case_plan x y 1 (case_field (codes "a") (codes "A")) (item.Phase (record {
    name = codes "q";
    writes = 0;
    mx = margin;
    my = 0;
    from = 0;
    to = 0;
    extend = 0;
    expr = expr;
  }) ∷ []);
  initial = record {
    grids = (case_values 37 100 x y ∷ []) ∷ [];
    begins = record { steps = 0; start_text = case_start; resumed = false } ∷ [];
  };
  answers = λ id xs. pos 0;
}

-- a[-1,0,0] + a[1,0,0]
abbrev pub neighbours : Expr
neighbours = roll-Expr (e.Add (read (negsuc 0)) (read (pos 1)))

-- a phase reads the values before it, also where it has written already: 0 37 74 11 becomes
-- 0 74 48 11
pub record OldValues : Type 0 where
  pub grid : level_list (run 4 1 1 neighbours).plan 1 0 (grids_at (run 4 1 1 neighbours) 2)
      ≡ pos 0 ∷ pos 74 ∷ pos 48 ∷ pos 11 ∷ []

-- if j < 2 then (if i = 4 then 3000000000 else 0) else (if i = 1 then 3000000000 else 0)
abbrev pub large_at : ℕ → Expr
large_at n = roll-Expr (e.If Equal (roll-Expr e.I) (num n) (num 3000000000) (num 0))

abbrev pub both : Expr
both = roll-Expr (e.If Less (roll-Expr e.J) (num 2) (large_at 4) (large_at 1))

-- two patches overflow, and the least point by j and i is named
pub record BothPatchesOverflow : Type 0 where
  pub point : overflow_of (run 4 2 0 both)
      (record { domain = 1; step = 1; time = 0; act = Table 0 }) (begin_grids (run 4 2 0 both))
      ≡ Some (record { domain = 1; step = 1; what = what.Phase 0; field = 0; k = 1; j = 1; i = 4 })

-- ---- runs of two fields, a and b, of which b begins with 0

abbrev pub phase : ℕ → ℕ → ℕ → ℕ → Expr → Item
phase writes mx my extend expr = item.Phase (record {
  name = codes "p";
  writes = writes;
  mx = mx;
  my = my;
  from = 0;
  to = 0;
  extend = extend;
  expr = expr;
})

abbrev pub run_of_two : Bool → ℕ → ℕ → List Item → RunData
run_of_two periodic x y items = record {
  plan = record (case_plan x y 1 (case_field (codes "a") (codes "A")) items) {
    domains = record (case_domain x y) { periodic_x = periodic } ∷ [];
    fields = case_field (codes "a") (codes "A")
        ∷ record (case_field (codes "b") (codes "B")) { pair = 1; input = false } ∷ [];
  };
  initial = record {
    grids = (case_values 37 100 x y ∷ replicate (x * y) (pos 0) ∷ []) ∷ [];
    begins = record { steps = 0; start_text = case_start; resumed = false } ∷ [];
  };
  answers = λ id xs. pos 0;
}

-- the numbers of a level before the item at a place of the script, which begins with a frame
abbrev pub numbers : RunData → ℕ → ℕ → List ℤ
numbers r f place = level_list r.plan 1 f (grids_at r place)

-- a halo of two rows on a
abbrev pub square : Item
square = item.Halo (record { field = 0; cross = false; radius = 2 } ∷ [])

-- q writes a at the inner points from a point and its four neighbours, and p writes b from a's
-- neighbours in x
abbrev pub extended : RunData
extended = run_of_two false 6 3 (square ∷ phase 0 1 1 1 demo_expr ∷ phase 1 2 1 0 neighbours ∷ [])

pub record ExtendedPhase : Type 0 where
  pub a : numbers extended 0 4 ≡
      pos 0 ∷ pos 37 ∷ pos 74 ∷ pos 11 ∷ pos 48 ∷ pos 85
      ∷ pos 53 ∷ pos 65 ∷ pos 52 ∷ pos 39 ∷ pos 26 ∷ pos 38
      ∷ pos 6 ∷ pos 43 ∷ pos 80 ∷ pos 17 ∷ pos 54 ∷ pos 91 ∷ []
  pub b : numbers extended 1 4 ≡
      pos 0 ∷ pos 0 ∷ pos 0 ∷ pos 0 ∷ pos 0 ∷ pos 0
      ∷ pos 0 ∷ pos 0 ∷ pos 104 ∷ pos 78 ∷ pos 0 ∷ pos 0
      ∷ pos 0 ∷ pos 0 ∷ pos 0 ∷ pos 0 ∷ pos 0 ∷ pos 0 ∷ []

-- a row that wraps: each point has the number of its neighbour in the west
abbrev pub wrapped : RunData
wrapped = run_of_two true 4 1 (phase 0 0 0 0 (read (negsuc 0)) ∷ [])

pub record PeriodicGrid : Type 0 where
  pub a : numbers wrapped 0 2 ≡ pos 11 ∷ pos 0 ∷ pos 37 ∷ pos 74 ∷ []

-- a[0,0,0] + 1
abbrev pub raised : Expr
raised = roll-Expr (e.Add (read (pos 0)) (num 1))

-- q adds 1 to a, and p reads it three points in the west
abbrev pub far : RunData
far = run_of_two false 8 1 (phase 0 0 0 0 raised ∷ square ∷ phase 1 3 0 0 (read (negsuc 2)) ∷ [])

pub record FarGrid : Type 0 where
  pub b : numbers far 1 4 ≡ pos 0 ∷ pos 0 ∷ pos 0 ∷ pos 1 ∷ pos 38 ∷ pos 0 ∷ pos 0 ∷ pos 0 ∷ []

-- a run of no length has its start frame alone
abbrev pub short : RunData
short = record (run_of_two false 3 3
    (square ∷ [])) { plan = record ((run_of_two false 3 3 (square ∷ [])).plan) { steps = 0 } }

pub record RunOfNoLength : Type 0 where
  pub frames : length (frames_of short) ≡ 1

-- ---- a nest of 9 by 9 points on a domain of 8 by 8, and a phase that overflows where i is 9

abbrev pub at_nine : Expr
at_nine = roll-Expr (e.If Equal (roll-Expr e.I) (num 9) (num 3000000000) (read (pos 0)))

abbrev pub nested : RunData
nested = record {
  plan =
      record (case_plan 8 8 10 (case_field (codes "a") (codes "A")) (phase 0 0 0 0 at_nine ∷ [])) {
        domains = case_domain 8 8 ∷ record (case_domain 9 9) {
          parent = 1;
          i_start = 3;
          j_start = 3;
          ratio = 3;
          time_ratio = 3;
          seconds = 20;
        }
            ∷ [];
      };
  initial = record {
    grids = (case_values 37 100 8 8 ∷ []) ∷ [];
    begins = record { steps = 0; start_text = case_start; resumed = false }
        ∷ record { steps = 0; start_text = case_start; resumed = false } ∷ [];
  };
  answers = λ id xs. pos 0;
}

-- before the nest has started it holds 0
pub record NestOverflow : Type 0 where
  pub nest : overflow_of nested (record { domain = 2; step = 1; time = 0; act = Table 0 })
      (begin_grids nested)
      ≡ Some (record { domain = 2; step = 1; what = what.Phase 0; field = 0; k = 1; j = 1; i = 9 })

-- ---- the name of a file: its stream, its domain and the date of its first frame

pub record FileNames : Type 0 where
  pub history : file_name 0 1 case_start ≡ codes "wrfout_d01_2000-01-01_00:00:00"
  pub auxiliary : file_name 7 8 (codes "1999-12-31_18:30:00")
      ≡ codes "auxhist7_d08_1999-12-31_18:30:00"
  pub restart : file_name 10 2 (codes "2005-06-30_12:00:30")
      ≡ codes "wrfrst_d02_2005-06-30_12:00:30"

-- ---- a stored function: x + (y - x) div n

abbrev pub at_list : List ℤ → ℕ → ℤ
at_list xs n = slice_index_or xs n (pos 0)

abbrev pub relax : Answers
relax id xs = at_list xs 0 +ℤ int_div_euclid (at_list xs 1 -ℤ at_list xs 0) (at_list xs 2)

-- call relax(a[0,0,0], 100, 4)
abbrev pub relaxed : Expr
relaxed = roll-Expr (e.Call 1 (roll-Args (e.More (read (pos 0))
    (roll-Args (e.More (num 100) (roll-Args (e.More (num 4) (roll-Args e.End))))))))

abbrev pub hooked : RunData
hooked = record (run 2 1 0 relaxed) { answers = relax }

pub record RelaxHook : Type 0 where
  pub grid : level_list hooked.plan 1 0 (grids_at hooked 2) ≡ pos 25 ∷ pos 52 ∷ []

-- ---- a field that is staggered in x: five points, of which the last patch has the extra one

abbrev pub staggered : RunData
staggered = record {
  plan = record (case_plan 4 1 1
      (record (case_field (codes "u") (codes "U")) { stag_x = true }) []) { version = 1 };
  initial = record {
    grids = ((pos 10 ∷ pos 20 ∷ pos 30 ∷ pos 40 ∷ pos 50 ∷ []) ∷ []) ∷ [];
    begins = record { steps = 0; start_text = case_start; resumed = false } ∷ [];
  };
  answers = λ id xs. pos 0;
}

pub record StaggeredExtraPoint : Type 0 where
  pub memories : memory_report staggered (columns_layout 3) ≡
      record { domain = 1; patch = 0; cells = 1; sum = pos 10 }
      ∷ record { domain = 1; patch = 1; cells = 1; sum = pos 20 }
      ∷ record { domain = 1; patch = 2; cells = 3; sum = pos 120 } ∷ []
  pub summary : summary_of staggered ≡ record { files = 1; records = 2; bytes = 80; sum = 2255 }

-- ---- a stream without fields: its file has a header of 176 bytes, and two records of 19, which
-- aren't padded

pub record StreamWithoutFields : Type 0 where
  pub header : length (header_bytes (file_header short.plan 1 3 case_start 0)) ≡ 176
  pub whole_file : file_size (file_header short.plan 1 3 case_start 0) 2 ≡ 214
