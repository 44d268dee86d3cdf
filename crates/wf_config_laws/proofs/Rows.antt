-- The rows of the table of built-in names that have a range.
use Rattle.std.proofs.Common.{◌≡◌, ℕ, Bool, true, false, Some, ℤ, refl, codes, if◌then◌else◌}
use Rattle.wf_model.specs.declared.namelist.Value.{Value}
use Rattle.wf_model.specs.Letters.{Text}
use Rattle.wf_model.specs.BuiltIns.{an_integer, NameRule, most_values, built_in, built_ins, to, int, minus_one, minus_one_or, time_control, in_domains, bdy_control, namelist_quilt}
use Rattle.wf_model.specs.Config.{is_of}
use Rattle.wf_config_laws.proofs.Bound.{Row}

-- a rule for whole numbers
abbrev pub whole_rule : Text → Text → Bool → (ℕ → Value) → (ℤ → Bool) → NameRule
whole_rule name group each default allowed =
    record { name = name; group = group; type = an_integer; each = each; most = if each then most_values else 1; default = default; allowed = allowed }

whole_row : (name group : Text) (each : Bool) (default : ℕ → Value) (allowed : ℤ → Bool) → built_in name ≡ Some (whole_rule name group each default allowed)
    → ((d : ℕ) → is_of an_integer (default d) ≡ true) → Row name each allowed
whole_row name group each default allowed found whole =
    record { rule = whole_rule name group each default allowed; found = found; integers = refl; for_each = refl; allows = refl; whole = whole }

-- ---- a value for each domain

pub start_year : Row (codes "start_year") true (to 1 9999)
unfolding built_ins
start_year = whole_row (codes "start_year") time_control true (int 2000) (to 1 9999) refl (λ d. refl)

pub start_month : Row (codes "start_month") true (to 1 12)
unfolding built_ins
start_month = whole_row (codes "start_month") time_control true (int 1) (to 1 12) refl (λ d. refl)

pub start_day : Row (codes "start_day") true (to 1 31)
unfolding built_ins
start_day = whole_row (codes "start_day") time_control true (int 1) (to 1 31) refl (λ d. refl)

pub start_hour : Row (codes "start_hour") true (to 0 23)
unfolding built_ins
start_hour = whole_row (codes "start_hour") time_control true (int 0) (to 0 23) refl (λ d. refl)

pub start_minute : Row (codes "start_minute") true (to 0 59)
unfolding built_ins
start_minute = whole_row (codes "start_minute") time_control true (int 0) (to 0 59) refl (λ d. refl)

pub start_second : Row (codes "start_second") true (to 0 59)
unfolding built_ins
start_second = whole_row (codes "start_second") time_control true (int 0) (to 0 59) refl (λ d. refl)

pub e_we : Row (codes "e_we") true (to 2 2000)
unfolding built_ins
e_we = whole_row (codes "e_we") in_domains true (int 0) (to 2 2000) refl (λ d. refl)

pub e_sn : Row (codes "e_sn") true (to 2 2000)
unfolding built_ins
e_sn = whole_row (codes "e_sn") in_domains true (int 0) (to 2 2000) refl (λ d. refl)

pub e_vert : Row (codes "e_vert") true (to 2 128)
unfolding built_ins
e_vert = whole_row (codes "e_vert") in_domains true (int 0) (to 2 128) refl (λ d. refl)

pub parent_id : Row (codes "parent_id") true (to 0 8)
unfolding built_ins
parent_id = whole_row (codes "parent_id") in_domains true (int 0) (to 0 8) refl (λ d. refl)

pub i_parent_start : Row (codes "i_parent_start") true (to 1 2000)
unfolding built_ins
i_parent_start = whole_row (codes "i_parent_start") in_domains true (int 1) (to 1 2000) refl (λ d. refl)

pub j_parent_start : Row (codes "j_parent_start") true (to 1 2000)
unfolding built_ins
j_parent_start = whole_row (codes "j_parent_start") in_domains true (int 1) (to 1 2000) refl (λ d. refl)

pub parent_grid_ratio : Row (codes "parent_grid_ratio") true (to 1 15)
unfolding built_ins
parent_grid_ratio = whole_row (codes "parent_grid_ratio") in_domains true (int 1) (to 1 15) refl (λ d. refl)

pub parent_time_step_ratio : Row (codes "parent_time_step_ratio") true (to 1 16)
unfolding built_ins
parent_time_step_ratio = whole_row (codes "parent_time_step_ratio") in_domains true (int 1) (to 1 16) refl (λ d. refl)

pub history_interval : Row (codes "history_interval") true (to 0 100000)
unfolding built_ins
history_interval = whole_row (codes "history_interval") time_control true (int 60) (to 0 100000) refl (λ d. refl)

pub auxhist1_interval : Row (codes "auxhist1_interval") true (to 0 100000)
unfolding built_ins
auxhist1_interval = whole_row (codes "auxhist1_interval") time_control true (int 0) (to 0 100000) refl (λ d. refl)

pub auxhist2_interval : Row (codes "auxhist2_interval") true (to 0 100000)
unfolding built_ins
auxhist2_interval = whole_row (codes "auxhist2_interval") time_control true (int 0) (to 0 100000) refl (λ d. refl)

pub auxhist3_interval : Row (codes "auxhist3_interval") true (to 0 100000)
unfolding built_ins
auxhist3_interval = whole_row (codes "auxhist3_interval") time_control true (int 0) (to 0 100000) refl (λ d. refl)

pub auxhist4_interval : Row (codes "auxhist4_interval") true (to 0 100000)
unfolding built_ins
auxhist4_interval = whole_row (codes "auxhist4_interval") time_control true (int 0) (to 0 100000) refl (λ d. refl)

pub auxhist5_interval : Row (codes "auxhist5_interval") true (to 0 100000)
unfolding built_ins
auxhist5_interval = whole_row (codes "auxhist5_interval") time_control true (int 0) (to 0 100000) refl (λ d. refl)

pub auxhist6_interval : Row (codes "auxhist6_interval") true (to 0 100000)
unfolding built_ins
auxhist6_interval = whole_row (codes "auxhist6_interval") time_control true (int 0) (to 0 100000) refl (λ d. refl)

pub auxhist7_interval : Row (codes "auxhist7_interval") true (to 0 100000)
unfolding built_ins
auxhist7_interval = whole_row (codes "auxhist7_interval") time_control true (int 0) (to 0 100000) refl (λ d. refl)

pub auxhist8_interval : Row (codes "auxhist8_interval") true (to 0 100000)
unfolding built_ins
auxhist8_interval = whole_row (codes "auxhist8_interval") time_control true (int 0) (to 0 100000) refl (λ d. refl)

pub auxhist9_interval : Row (codes "auxhist9_interval") true (to 0 100000)
unfolding built_ins
auxhist9_interval = whole_row (codes "auxhist9_interval") time_control true (int 0) (to 0 100000) refl (λ d. refl)

pub frames_per_outfile : Row (codes "frames_per_outfile") true (to 1 100000)
unfolding built_ins
frames_per_outfile = whole_row (codes "frames_per_outfile") time_control true (int 1) (to 1 100000) refl (λ d. refl)

pub frames_per_auxhist1 : Row (codes "frames_per_auxhist1") true (to 1 100000)
unfolding built_ins
frames_per_auxhist1 = whole_row (codes "frames_per_auxhist1") time_control true (int 1) (to 1 100000) refl (λ d. refl)

pub frames_per_auxhist2 : Row (codes "frames_per_auxhist2") true (to 1 100000)
unfolding built_ins
frames_per_auxhist2 = whole_row (codes "frames_per_auxhist2") time_control true (int 1) (to 1 100000) refl (λ d. refl)

pub frames_per_auxhist3 : Row (codes "frames_per_auxhist3") true (to 1 100000)
unfolding built_ins
frames_per_auxhist3 = whole_row (codes "frames_per_auxhist3") time_control true (int 1) (to 1 100000) refl (λ d. refl)

pub frames_per_auxhist4 : Row (codes "frames_per_auxhist4") true (to 1 100000)
unfolding built_ins
frames_per_auxhist4 = whole_row (codes "frames_per_auxhist4") time_control true (int 1) (to 1 100000) refl (λ d. refl)

pub frames_per_auxhist5 : Row (codes "frames_per_auxhist5") true (to 1 100000)
unfolding built_ins
frames_per_auxhist5 = whole_row (codes "frames_per_auxhist5") time_control true (int 1) (to 1 100000) refl (λ d. refl)

pub frames_per_auxhist6 : Row (codes "frames_per_auxhist6") true (to 1 100000)
unfolding built_ins
frames_per_auxhist6 = whole_row (codes "frames_per_auxhist6") time_control true (int 1) (to 1 100000) refl (λ d. refl)

pub frames_per_auxhist7 : Row (codes "frames_per_auxhist7") true (to 1 100000)
unfolding built_ins
frames_per_auxhist7 = whole_row (codes "frames_per_auxhist7") time_control true (int 1) (to 1 100000) refl (λ d. refl)

pub frames_per_auxhist8 : Row (codes "frames_per_auxhist8") true (to 1 100000)
unfolding built_ins
frames_per_auxhist8 = whole_row (codes "frames_per_auxhist8") time_control true (int 1) (to 1 100000) refl (λ d. refl)

pub frames_per_auxhist9 : Row (codes "frames_per_auxhist9") true (to 1 100000)
unfolding built_ins
frames_per_auxhist9 = whole_row (codes "frames_per_auxhist9") time_control true (int 1) (to 1 100000) refl (λ d. refl)

pub s_we : Row (codes "s_we") true (to 1 1)
unfolding built_ins
s_we = whole_row (codes "s_we") in_domains true (int 1) (to 1 1) refl (λ d. refl)

pub s_sn : Row (codes "s_sn") true (to 1 1)
unfolding built_ins
s_sn = whole_row (codes "s_sn") in_domains true (int 1) (to 1 1) refl (λ d. refl)

pub s_vert : Row (codes "s_vert") true (to 1 1)
unfolding built_ins
s_vert = whole_row (codes "s_vert") in_domains true (int 1) (to 1 1) refl (λ d. refl)

-- ---- one value for all domains

pub run_days : Row (codes "run_days") false (to 0 100000)
unfolding built_ins
run_days = whole_row (codes "run_days") time_control false (int 0) (to 0 100000) refl (λ d. refl)

pub run_hours : Row (codes "run_hours") false (to 0 100000)
unfolding built_ins
run_hours = whole_row (codes "run_hours") time_control false (int 0) (to 0 100000) refl (λ d. refl)

pub run_minutes : Row (codes "run_minutes") false (to 0 100000)
unfolding built_ins
run_minutes = whole_row (codes "run_minutes") time_control false (int 0) (to 0 100000) refl (λ d. refl)

pub run_seconds : Row (codes "run_seconds") false (to 0 100000)
unfolding built_ins
run_seconds = whole_row (codes "run_seconds") time_control false (int 0) (to 0 100000) refl (λ d. refl)

pub restart_interval : Row (codes "restart_interval") false (to 0 1000000)
unfolding built_ins
restart_interval = whole_row (codes "restart_interval") time_control false (int 0) (to 0 1000000) refl (λ d. refl)

pub time_step : Row (codes "time_step") false (to 1 3600)
unfolding built_ins
time_step = whole_row (codes "time_step") in_domains false (int 0) (to 1 3600) refl (λ d. refl)

pub max_dom : Row (codes "max_dom") false (to 1 8)
unfolding built_ins
max_dom = whole_row (codes "max_dom") in_domains false (int 1) (to 1 8) refl (λ d. refl)

pub feedback : Row (codes "feedback") false (to 0 1)
unfolding built_ins
feedback = whole_row (codes "feedback") in_domains false (int 1) (to 0 1) refl (λ d. refl)

pub spec_bdy_width : Row (codes "spec_bdy_width") false (to 1 20)
unfolding built_ins
spec_bdy_width = whole_row (codes "spec_bdy_width") bdy_control false (int 5) (to 1 20) refl (λ d. refl)

pub numtiles : Row (codes "numtiles") false (to 1 1000)
unfolding built_ins
numtiles = whole_row (codes "numtiles") in_domains false (int 1) (to 1 1000) refl (λ d. refl)

pub nio_tasks_per_group : Row (codes "nio_tasks_per_group") false (to 0 16)
unfolding built_ins
nio_tasks_per_group = whole_row (codes "nio_tasks_per_group") namelist_quilt false (int 0) (to 0 16) refl (λ d. refl)

pub nio_groups : Row (codes "nio_groups") false (to 1 16)
unfolding built_ins
nio_groups = whole_row (codes "nio_groups") namelist_quilt false (int 1) (to 1 16) refl (λ d. refl)

pub quilt_depth : Row (codes "quilt_depth") false (to 1 64)
unfolding built_ins
quilt_depth = whole_row (codes "quilt_depth") namelist_quilt false (int 8) (to 1 64) refl (λ d. refl)

pub smooth_option : Row (codes "smooth_option") false (to 0 0)
unfolding built_ins
smooth_option = whole_row (codes "smooth_option") in_domains false (int 0) (to 0 0) refl (λ d. refl)

pub time_step_fract_num : Row (codes "time_step_fract_num") false (to 0 0)
unfolding built_ins
time_step_fract_num = whole_row (codes "time_step_fract_num") in_domains false (int 0) (to 0 0) refl (λ d. refl)

pub io_form_history : Row (codes "io_form_history") false (to 2 2)
unfolding built_ins
io_form_history = whole_row (codes "io_form_history") time_control false (int 2) (to 2 2) refl (λ d. refl)

pub io_form_restart : Row (codes "io_form_restart") false (to 2 2)
unfolding built_ins
io_form_restart = whole_row (codes "io_form_restart") time_control false (int 2) (to 2 2) refl (λ d. refl)

pub io_form_input : Row (codes "io_form_input") false (to 2 2)
unfolding built_ins
io_form_input = whole_row (codes "io_form_input") time_control false (int 2) (to 2 2) refl (λ d. refl)

pub io_form_boundary : Row (codes "io_form_boundary") false (to 2 2)
unfolding built_ins
io_form_boundary = whole_row (codes "io_form_boundary") time_control false (int 2) (to 2 2) refl (λ d. refl)

pub nproc_x : Row (codes "nproc_x") false (minus_one_or (to 1 2000))
unfolding built_ins
nproc_x = whole_row (codes "nproc_x") in_domains false minus_one (minus_one_or (to 1 2000)) refl (λ d. refl)

pub nproc_y : Row (codes "nproc_y") false (minus_one_or (to 1 2000))
unfolding built_ins
nproc_y = whole_row (codes "nproc_y") in_domains false minus_one (minus_one_or (to 1 2000)) refl (λ d. refl)

pub max_dom_group : max_dom.rule.group ≡ in_domains
unfolding max_dom whole_row
max_dom_group = refl
