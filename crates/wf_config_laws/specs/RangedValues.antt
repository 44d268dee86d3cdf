-- The values of the built-in names are in their ranges.
use Rattle.std.specs.Prelude.{◌≡◌, ℕ, ◌≤◌, ◌⊎◌, pos, negsuc, Ok, codes}
use Rattle.std.specs.List.{All}
use Rattle.wf_model.specs.declared.config.Config.{Config}
use Rattle.wf_model.specs.declared.registry.Registry.{Registry}
use Rattle.wf_model.specs.declared.namelist.Namelist.{Namelist}
use Rattle.wf_model.specs.Letters.{Text}
use Rattle.wf_model.specs.Config.{config_of}
use Rattle.wf_model.specs.PlanDomains.{integer, amount, domain_total, interval_names, frames_names}
use Rattle.wf_model.specs.Ranges.{Within}

-- a name's number for a domain, which is the namelist's or the default
pub record HasNumber (config : Config) (d low high : ℕ) (name : Text) : Type 0 where
  -- it isn't below 0, so that `amount` is it
  pub number : integer config name d ≡ pos (amount config name d)
  pub within : Within low high (amount config name d)

-- the values that each domain has of its own: the numbers of names with a value for each domain
pub record HasDomainValues (config : Config) (d : ℕ) : Type 0 where
  pub start_year : HasNumber config d 1 9999 (codes "start_year")
  pub start_month : HasNumber config d 1 12 (codes "start_month")
  pub start_day : HasNumber config d 1 31 (codes "start_day")
  pub start_hour : HasNumber config d 0 23 (codes "start_hour")
  pub start_minute : HasNumber config d 0 59 (codes "start_minute")
  pub start_second : HasNumber config d 0 59 (codes "start_second")
  pub e_we : HasNumber config d 2 2000 (codes "e_we")
  pub e_sn : HasNumber config d 2 2000 (codes "e_sn")
  pub e_vert : HasNumber config d 2 128 (codes "e_vert")
  pub parent_id : HasNumber config d 0 8 (codes "parent_id")
  pub i_parent_start : HasNumber config d 1 2000 (codes "i_parent_start")
  pub j_parent_start : HasNumber config d 1 2000 (codes "j_parent_start")
  pub parent_grid_ratio : HasNumber config d 1 15 (codes "parent_grid_ratio")
  pub parent_time_step_ratio : HasNumber config d 1 16 (codes "parent_time_step_ratio")
  pub s_we : HasNumber config d 1 1 (codes "s_we")
  pub s_sn : HasNumber config d 1 1 (codes "s_sn")
  pub s_vert : HasNumber config d 1 1 (codes "s_vert")
  -- of the ten streams, in minutes
  pub intervals : All (HasNumber config d 0 100000) interval_names
  pub frames : All (HasNumber config d 1 100000) frames_names

-- the numbers of names with one value for all domains
pub record HasOwnValues (config : Config) : Type 0 where
  pub run_days : HasNumber config 1 0 100000 (codes "run_days")
  pub run_hours : HasNumber config 1 0 100000 (codes "run_hours")
  pub run_minutes : HasNumber config 1 0 100000 (codes "run_minutes")
  pub run_seconds : HasNumber config 1 0 100000 (codes "run_seconds")
  pub restart_interval : HasNumber config 1 0 1000000 (codes "restart_interval")
  pub time_step : HasNumber config 1 1 3600 (codes "time_step")
  pub max_dom : HasNumber config 1 1 8 (codes "max_dom")
  pub feedback : HasNumber config 1 0 1 (codes "feedback")
  pub spec_bdy_width : HasNumber config 1 1 20 (codes "spec_bdy_width")
  pub numtiles : HasNumber config 1 1 1000 (codes "numtiles")
  pub nio_tasks_per_group : HasNumber config 1 0 16 (codes "nio_tasks_per_group")
  pub nio_groups : HasNumber config 1 1 16 (codes "nio_groups")
  pub quilt_depth : HasNumber config 1 1 64 (codes "quilt_depth")
  -- one value is built
  pub smooth_option : HasNumber config 1 0 0 (codes "smooth_option")
  pub time_step_fract_num : HasNumber config 1 0 0 (codes "time_step_fract_num")
  pub io_form_history : HasNumber config 1 2 2 (codes "io_form_history")
  pub io_form_restart : HasNumber config 1 2 2 (codes "io_form_restart")
  pub io_form_input : HasNumber config 1 2 2 (codes "io_form_input")
  pub io_form_boundary : HasNumber config 1 2 2 (codes "io_form_boundary")
  -- -1 leaves the number open
  pub nproc_x : (integer config (codes "nproc_x") 1 ≡ negsuc 0)
      ⊎ HasNumber config 1 1 2000 (codes "nproc_x")
  pub nproc_y : (integer config (codes "nproc_y") 1 ≡ negsuc 0)
      ⊎ HasNumber config 1 1 2000 (codes "nproc_y")

-- all values of a config
pub record HasRangedValues (config : Config) : Type 0 where
  pub own : HasOwnValues config
  pub domains : (d : ℕ) → 1 ≤ d → d ≤ domain_total config → HasDomainValues config d

abbrev pub BoundValuesAreInRange : Type 0
BoundValuesAreInRange = (registry : Registry) (namelist : Namelist) (config : Config) →
    config_of registry namelist ≡ Ok config → HasRangedValues config
