-- What the levels of a field share, and what each has of its own.
use Rattle.std.specs.Prelude.{◌≡◌, ℕ, ◌+◌, ◌==◌, Bool, true, false, List, [], ◌∷◌, ◌++◌, length, ℤ}
use Rattle.std.specs.Prelude.{pos, ◌-ℤ◌, unsigned_abs, flat_map, if◌then◌else◌, codes, slice_index}
use Rattle.std.specs.List.{list_any}
use Rattle.wf_model.specs.declared.config.Config.{Config}
use Rattle.wf_model.specs.declared.plan.Field.{Field}
use Rattle.wf_model.specs.declared.table.HookName.{HookName}
use Rattle.wf_model.specs.declared.table.HookKind.{HookKind}
use Rattle.wf_model.specs.Letters.{Text, lower, begins, behind, digits_value}
use Rattle.wf_model.specs.Io.{IoPart, reads_input, is_restarted, output_streams, last_fed}
use Rattle.wf_model.specs.Judging.{is_standard, by_namelist, constant}
use Rattle.wf_model.specs.PlanDomains.{integer}
use Rattle.wf_model.specs.PlanFields.{dataset_of, dimspec_of, function_name, has_letter, hook_id}
use Rattle.wf_model.specs.PlanFields.{is_average, is_interp, last_letter, stream_bits, z_extent}
use Rattle.wf_model.specs.PlanFields.{z_letter}
use Rattle.wf_plan_fields.specs.declared.io.Use.{Use}
use Rattle.wf_plan_fields.specs.declared.io.Use.TheVariants as use_of
use Rattle.wf_plan_fields.specs.declared.field_levels.Held.{Held}
use Rattle.wf_plan_fields.specs.declared.field_levels.Shape.{Shape}
use Rattle.wf_plan_fields.specs.declared.field_levels.Common.{Common}

-- ---- functions

-- a stored function of this kind serves the use
abbrev pub is_for : Use → HookKind → Bool
is_for use_of.Up = is_average
is_for use_of.Down = is_interp
is_for use_of.Edge = is_interp

abbrev pub usual_of : Use → Text
usual_of use_of.Up = codes "mean"
usual_of use_of.Down = codes "bilin"
usual_of use_of.Edge = codes "bilin"

-- ---- extents

-- by the how column of a dimspec
abbrev pub extent_by : Config → Text → ℤ
extent_by config how =
    if is_standard how then integer config (codes "e_vert") 1 -ℤ pos 1
    else (if begins how constant then pos (digits_value (behind how constant))
    else integer config (lower (behind how by_namelist)) 1)

-- ---- levels

-- what the IO column says of a level
abbrev pub held_by : List HookName → List IoPart → Held
held_by hooks parts = record {
  input = list_any reads_input parts;
  restart = list_any is_restarted parts;
  streams = stream_bits (flat_map output_streams parts);
  up = hook_id hooks (is_for use_of.Up) (function_name (usual_of use_of.Up) (last_fed 117 parts));
  down = hook_id hooks (is_for use_of.Down)
      (function_name (usual_of use_of.Down) (last_fed 100 parts));
  edge = hook_id hooks (is_for use_of.Edge)
      (function_name (usual_of use_of.Edge) (last_fed 102 parts));
}

-- the dimensions that the columns of a field say
pub record IsShape (config : Config) (dims stagger : Text) (s : Shape) : Type 0 where
  pub z : s.z ≡ (length dims == 3)
  pub extent : s.extent ≡ z_extent config dims stagger
  pub stag_x : s.stag_x ≡ has_letter 88 stagger
  pub stag_y : s.stag_y ≡ has_letter 89 stagger
  pub stag_z : s.stag_z ≡ has_letter 90 stagger
  pub x_name : s.x_name.now ≡ dataset_of (dimspec_of config (slice_index dims 0))
  pub y_name : s.y_name.now ≡ dataset_of (dimspec_of config (last_letter dims))
  pub z_name : s.z_name.now
      ≡ (if length dims == 3 then dataset_of (dimspec_of config (z_letter dims)) else [])

-- a level of this name, whose field's other level has this number
abbrev pub level_of : Common → Text → ℕ → Bool → Field
level_of c name pair last = record {
  name = name;
  dname = c.dname.now;
  pair = pair;
  last = last;
  z = c.shape.z;
  nz = unsigned_abs c.shape.extent;
  stag_x = c.shape.stag_x;
  stag_y = c.shape.stag_y;
  stag_z = c.shape.stag_z;
  input = c.held.input;
  restart = c.held.restart;
  streams = c.held.streams;
  up = c.held.up;
  down = c.held.down;
  edge = c.held.edge;
  x_name = c.shape.x_name.now;
  y_name = c.shape.y_name.now;
  z_name = c.shape.z_name.now;
  description = c.description.now;
  units = c.units.now;
}

-- the levels of a field of which the first has this number
abbrev pub levels_of : Common → Text → ℕ → Bool → List Field
levels_of c symbol first two =
    if two then level_of c (symbol ++ codes "_1") (first + 1) false
    ∷ level_of c (symbol ++ codes "_2") first true ∷ []
    else level_of c symbol first true ∷ []

-- their extents in z
abbrev pub extents_of : Common → Bool → List ℤ
extents_of c two = if two then c.shape.extent ∷ c.shape.extent ∷ [] else c.shape.extent ∷ []
