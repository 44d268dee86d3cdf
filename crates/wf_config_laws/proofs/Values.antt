-- The numbers of a bound config are in their ranges.
use Rattle.std.proofs.Common.{◌≡◌, ◌⊎◌, inl, inr, ⊎_elim, ℕ, ◌-◌, ◌<◌, ◌≤◌, true, false, List, [], ◌∷◌, ◌++◌, map, Some, None, Ok, ℤ, pos, negsuc, if◌then◌else◌, refl, sym, ap, ap₂, subst, ◌∙◌, arith, codes}
use Rattle.std.specs.Prelude.{slice_get, int_le, unsigned_abs, unwrap_or}
use Rattle.std.specs.List.{All, range_with_len}
use Rattle.std.proofs.lemmas.List.Elements.{All-from_recursion}
use Rattle.std.specs.Option.{option_or}
use Rattle.wf_model.specs.declared.namelist.Value.{Value}
use Rattle.wf_model.specs.declared.namelist.Value.TheVariants as value
use Rattle.wf_model.specs.declared.registry.Registry.{Registry}
use Rattle.wf_model.specs.declared.namelist.Namelist.{Namelist}
use Rattle.wf_model.specs.declared.config.Config.{Config}
use Rattle.wf_model.specs.Letters.{Text}
use Rattle.wf_model.specs.ValueForms.{fits_bits}
use Rattle.wf_model.specs.Namelist.{Item}
use Rattle.wf_model.specs.BuiltIns.{NameRule, to, minus_one_or, in_domains}
use Rattle.wf_model.specs.Config.{config_of, known_items, rules_of, given, missing_value, missing_values, values_of, first_int, if_in_i32, default_max_dom, max_dom, domain_count}
use Rattle.wf_model.specs.Ranges.{Within}
use Rattle.wf_model.specs.PlanDomains.{integer, int_of, domain_total, interval_names, frames_names}
use Rattle.wf_config_laws.specs.RangedValues.{HasNumber, HasOwnValues, HasDomainValues, HasRangedValues}
use Rattle.wf_config_laws.proofs.Passed.{same}
use Rattle.wf_config_laws.proofs.Bound as bound
use Rattle.wf_config_laws.proofs.Bound.{Passed, Row, bound_values, kept, passed as passed_tests}
use Rattle.wf_config_laws.proofs.Rows as row

-- ---- ranges

abbrev pub IsNumber : ℕ → ℕ → ℤ → Type 0
IsNumber low high m = (m ≡ pos (unsigned_abs m)) × Within low high (unsigned_abs m)

in_range : (low high : ℕ) (m : ℤ) → to low high m ≡ true → IsNumber low high m
in_range low high (pos n) e = (refl, (grind (arith, e), grind (arith, e)))
in_range low high (negsuc n) e = cc

open_or_in_range : (m : ℤ) → minus_one_or (to 1 2000) m ≡ true → (m ≡ negsuc 0) ⊎ IsNumber 1 2000 m
open_or_in_range (pos n) e = inr (in_range 1 2000 (pos n) e)
open_or_in_range (negsuc n) e = inl (ap (λ k. negsuc k) (grind (arith, e)))

-- ---- how many domains there are

-- the first value says it
first_says : (domains : ℕ) (r : NameRule) (us : List Value) (m : ℤ) → r.each ≡ false → fits_bits 32 m ≡ true
    → slice_get (us ++ missing_values domains r us) 0 ≡ Some (value.Int m)
    → unwrap_or (option_or (if_in_i32 (first_int us)) (first_int (r.default 1 ∷ []))) (pos 1) ≡ m
first_says domains r [] m alone fits at =
    let default : r.default 1 ≡ value.Int m = same _ _ (ap (λ b. slice_get (map (missing_value r []) (range_with_len 1 ((if b then domains else 1) - 0))) 0) (sym alone) ∙ at) in
    ap (λ v. unwrap_or (first_int (v ∷ [])) (pos 1)) default
first_says domains r (u ∷ us) m alone fits at =
    ap (λ v. unwrap_or (option_or (if_in_i32 (first_int (v ∷ us))) (first_int (r.default 1 ∷ []))) (pos 1)) (same u (value.Int m) at)
    ∙ ap (λ b. unwrap_or (option_or (if b then Some m else None) (first_int (r.default 1 ∷ []))) (pos 1)) fits

-- a number above 0 counts so many
counts : (m : ℤ) → m ≡ pos (unsigned_abs m) → unsigned_abs m ≡ (if int_le (pos 0) m then unsigned_abs m else 0)
counts (pos n) is = grind arith
counts (negsuc n) is = cc

module _ (registry : Registry) (items : List Item) (passed : Passed registry items) (config : Config) (are : config.values ≡ bound_values registry items) where
  abbrev rules : List NameRule
  rules = rules_of registry

  -- a value is the config's
  integer_at : (name : Text) (d : ℕ) (m : ℤ) → slice_get (values_of (bound_values registry items) name) (d - 1) ≡ Some (value.Int m) → integer config name d ≡ m
  integer_at name d m at = ap int_of (ap (λ values. slice_get (values_of values name) (d - 1)) are ∙ at)

  -- the value of max_dom
  abbrev first : bound.NumberAt registry items passed row.max_dom 0
  first = bound.number_at registry items passed row.max_dom 0 (bound.one registry items passed row.max_dom refl)

  abbrev first_rule : NameRule
  first_rule = bound.r registry items passed row.max_dom

  given_is : given items in_domains (codes "max_dom") ≡ given items first_rule.group first_rule.name
  given_is =
      let same_rule = kept (bound.declared registry items passed row.max_dom) (row.max_dom).rule in
      ap₂ (given items) (sym (same_rule.group ∙ row.max_dom_group)) (sym (bound.r_named registry items passed row.max_dom))

  -- the config's number of domains is the one that says which values count
  pub max_dom_is : max_dom rules items ≡ first.m
  max_dom_is =
      let values = bound.values_are registry items passed row.max_dom in
      ap₂ (λ us o. unwrap_or (option_or (if_in_i32 (first_int us)) (first_int (default_max_dom o))) (pos 1)) given_is (bound.is_rule registry items passed row.max_dom)
      ∙ first_says (domain_count rules items) first_rule (given items first_rule.group first_rule.name) first.m (bound.r_each registry items passed row.max_dom) first.fits
      (sym (ap (λ us. slice_get us 0) values) ∙ first.at)

  pub total_is : domain_total config ≡ domain_count rules items
  total_is =
      let range = in_range 1 8 first.m first.is_allowed in
      ap unsigned_abs (integer_at (codes "max_dom") 1 first.m first.at) ∙ counts first.m range.0
      ∙ ap (λ m. if int_le (pos 0) m then unsigned_abs m else 0) (sym max_dom_is)

  has_number : (name : Text) (d low high : ℕ) (m : ℤ) → integer config name d ≡ m → IsNumber low high m → HasNumber config d low high name
  has_number name d low high m is range =
      record { number = is ∙ range.0 ∙ ap (λ z. pos (unsigned_abs z)) (sym is); within = subst (λ z. Within low high (unsigned_abs z)) (sym is) range.1 }

  -- a name with one number
  pub own_number : {name : Text} {low high : ℕ} → Row name false (to low high) → HasNumber config 1 low high name
  own_number {name} {low} {high} row =
      let n = bound.number_at registry items passed row 0 (bound.one registry items passed row refl) in
      has_number name 1 low high n.m (integer_at name 1 n.m n.at) (in_range low high n.m n.is_allowed)

  -- one that may be -1
  pub open_number : {name : Text} → Row name false (minus_one_or (to 1 2000)) → (integer config name 1 ≡ negsuc 0) ⊎ HasNumber config 1 1 2000 name
  open_number {name} row =
      let n = bound.number_at registry items passed row 0 (bound.one registry items passed row refl) in
      ⊎_elim (λ is. inl (integer_at name 1 n.m n.at ∙ is)) (λ range. inr (has_number name 1 1 2000 n.m (integer_at name 1 n.m n.at) range)) (open_or_in_range n.m n.is_allowed)

  -- a name with a number for each domain
  pub domain_number : {name : Text} {low high : ℕ} → Row name true (to low high) → (d : ℕ) → 1 ≤ d → d ≤ domain_total config → HasNumber config d low high name
  domain_number {name} {low} {high} row d from upto =
      let within : d - 1 < domain_count rules items = omega (arith, from, upto, total_is) in
      let n = bound.number_at registry items passed row (d - 1) (bound.of_domain registry items passed row (d - 1) refl within) in
      has_number name d low high n.m (integer_at name d n.m n.at) (in_range low high n.m n.is_allowed)

  ten_intervals : (d : ℕ) → 1 ≤ d → d ≤ domain_total config → All (HasNumber config d 0 100000) interval_names
  ten_intervals d from upto = All-from_recursion (HasNumber config d 0 100000) interval_names (
    domain_number row.history_interval d from upto,
    (
      domain_number row.auxhist1_interval d from upto,
      (
        domain_number row.auxhist2_interval d from upto,
        (
          domain_number row.auxhist3_interval d from upto,
          (
            domain_number row.auxhist4_interval d from upto,
            (
              domain_number row.auxhist5_interval d from upto,
              (
                domain_number row.auxhist6_interval d from upto,
                (
                  domain_number row.auxhist7_interval d from upto,
                  (
                    domain_number row.auxhist8_interval d from upto,
                    (
                      domain_number row.auxhist9_interval d from upto,
                      tt,
                    ),
                  ),
                ),
              ),
            ),
          ),
        ),
      ),
    ),
  )

  ten_frames : (d : ℕ) → 1 ≤ d → d ≤ domain_total config → All (HasNumber config d 1 100000) frames_names
  ten_frames d from upto = All-from_recursion (HasNumber config d 1 100000) frames_names (
    domain_number row.frames_per_outfile d from upto,
    (
      domain_number row.frames_per_auxhist1 d from upto,
      (
        domain_number row.frames_per_auxhist2 d from upto,
        (
          domain_number row.frames_per_auxhist3 d from upto,
          (
            domain_number row.frames_per_auxhist4 d from upto,
            (
              domain_number row.frames_per_auxhist5 d from upto,
              (
                domain_number row.frames_per_auxhist6 d from upto,
                (
                  domain_number row.frames_per_auxhist7 d from upto,
                  (
                    domain_number row.frames_per_auxhist8 d from upto,
                    (
                      domain_number row.frames_per_auxhist9 d from upto,
                      tt,
                    ),
                  ),
                ),
              ),
            ),
          ),
        ),
      ),
    ),
  )

  own_values : HasOwnValues config
  own_values = record {
    run_days = own_number row.run_days;
    run_hours = own_number row.run_hours;
    run_minutes = own_number row.run_minutes;
    run_seconds = own_number row.run_seconds;
    restart_interval = own_number row.restart_interval;
    time_step = own_number row.time_step;
    max_dom = own_number row.max_dom;
    feedback = own_number row.feedback;
    spec_bdy_width = own_number row.spec_bdy_width;
    numtiles = own_number row.numtiles;
    nio_tasks_per_group = own_number row.nio_tasks_per_group;
    nio_groups = own_number row.nio_groups;
    quilt_depth = own_number row.quilt_depth;
    smooth_option = own_number row.smooth_option;
    time_step_fract_num = own_number row.time_step_fract_num;
    io_form_history = own_number row.io_form_history;
    io_form_restart = own_number row.io_form_restart;
    io_form_input = own_number row.io_form_input;
    io_form_boundary = own_number row.io_form_boundary;
    nproc_x = open_number row.nproc_x;
    nproc_y = open_number row.nproc_y;
  }

  domain_values : (d : ℕ) → 1 ≤ d → d ≤ domain_total config → HasDomainValues config d
  domain_values d from upto =
      record {
        start_year = domain_number row.start_year d from upto;
        start_month = domain_number row.start_month d from upto;
        start_day = domain_number row.start_day d from upto;
        start_hour = domain_number row.start_hour d from upto;
        start_minute = domain_number row.start_minute d from upto;
        start_second = domain_number row.start_second d from upto;
        e_we = domain_number row.e_we d from upto;
        e_sn = domain_number row.e_sn d from upto;
        e_vert = domain_number row.e_vert d from upto;
        parent_id = domain_number row.parent_id d from upto;
        i_parent_start = domain_number row.i_parent_start d from upto;
        j_parent_start = domain_number row.j_parent_start d from upto;
        parent_grid_ratio = domain_number row.parent_grid_ratio d from upto;
        parent_time_step_ratio = domain_number row.parent_time_step_ratio d from upto;
        s_we = domain_number row.s_we d from upto;
        s_sn = domain_number row.s_sn d from upto;
        s_vert = domain_number row.s_vert d from upto;
        intervals = ten_intervals d from upto;
        frames = ten_frames d from upto;
      }

  pub ranged_values : HasRangedValues config
  ranged_values = record { own = own_values; domains = domain_values }

pub bound_values_ranged : (registry : Registry) (namelist : Namelist) (config : Config) → config_of registry namelist ≡ Ok config → HasRangedValues config
bound_values_ranged registry namelist config e =
    let whole = passed_tests registry namelist config e in
    ranged_values registry (known_items (rules_of registry) namelist) whole.0 config (ap (λ (c : Config). c.values) whole.1)
