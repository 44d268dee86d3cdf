-- The names of the rules that need no entry, as one text.
use Rattle.std.proofs.Common.{◌≡◌, ◌∙◌, sym, ap, refl, List, [], ◌∷◌, map}
use Rattle.std.specs.Prelude.{◌==◌, ◌||◌, codes}
use Rattle.std.specs.List.{list_any, slice_split}
use Rattle.std.specs.Str.{bytes_eq}
use Rattle.wf_model.specs.Letters.{Text}
use Rattle.wf_model.specs.BuiltIns.{NameRule, built_ins, is_built_in}
use Rattle.wf_registry_columns.proofs.AxisLemmas.{is_some-find}

abbrev pub all_names : Text
all_names = codes "run_days run_hours run_minutes run_seconds start_year start_month start_day start_hour start_minute start_second input_from_file history_interval auxhist1_interval auxhist2_interval auxhist3_interval auxhist4_interval auxhist5_interval auxhist6_interval auxhist7_interval auxhist8_interval auxhist9_interval frames_per_outfile frames_per_auxhist1 frames_per_auxhist2 frames_per_auxhist3 frames_per_auxhist4 frames_per_auxhist5 frames_per_auxhist6 frames_per_auxhist7 frames_per_auxhist8 frames_per_auxhist9 restart restart_interval time_step max_dom e_we e_sn e_vert parent_id i_parent_start j_parent_start parent_grid_ratio parent_time_step_ratio feedback smooth_option nproc_x nproc_y numtiles spec_bdy_width periodic_x periodic_y nio_tasks_per_group nio_groups quilt_depth io_form_history io_form_restart io_form_input io_form_boundary s_we s_sn s_vert time_step_fract_num end_year end_month end_day end_hour end_minute end_second interval_seconds debug_level time_step_fract_den grid_id dx dy"

names_are : map (λ (b : NameRule). b.name) built_ins ≡ slice_split (λ b. b == 32) all_names
unfolding built_ins
names_are = refl

any-map : {A : Type 0} (f : A → Text) (name : Text) (xs : List A) → list_any (λ x. bytes_eq (f x) name) xs ≡ list_any (λ w. bytes_eq w name) (map f xs)
any-map f name [] = refl
any-map f name (x ∷ xs) = ap (λ b. bytes_eq (f x) name || b) (any-map f name xs)

pub built_in_is : (name : Text) → list_any (λ w. bytes_eq w name) (slice_split (λ b. b == 32) all_names) ≡ is_built_in name
built_in_is name =
    ap (list_any (λ w. bytes_eq w name)) (sym names_are)
    ∙ sym (any-map (λ (b : NameRule). b.name) name built_ins)
    ∙ sym (is_some-find (λ (b : NameRule). bytes_eq b.name name) built_ins)
