-- The names in the files of a stream tell its variables and its dimensions apart.
use Rattle.std.specs.Prelude.{◌≡◌, ℕ, ◌∷◌, map, codes, Contains}
use Rattle.std.specs.List.{IsDistinct}
use Rattle.std.specs.Str.{bytes_eq}
use Rattle.wf_model.specs.declared.header.Dim.{Dim}
use Rattle.wf_model.specs.declared.plan.Plan.{Plan}
use Rattle.wf_model.specs.Headers.{dims_of_level}
use Rattle.wf_model.specs.Sound.{IsDomain}
use Rattle.wf_model.specs.Streams.{stream_levels, variable_name}

-- no two variables have one name
abbrev pub HasFileVariables : Plan → ℕ → Type 0
HasFileVariables plan stream =
    IsDistinct bytes_eq
    (codes "Times" ∷ map (variable_name plan stream) (stream_levels plan stream))

-- dimensions of one name have one length, and none has the name of a dimension that each file has
pub record HasFileDims (plan : Plan) (d stream : ℕ) : Type 0 where
  pub alike : (f g : ℕ) (x y : Dim) → Contains (stream_levels plan stream) f →
      Contains (stream_levels plan stream) g → Contains (dims_of_level plan d f) x →
      Contains (dims_of_level plan d g) y → x.name ≡ y.name → x.len ≡ y.len
  pub free : (f : ℕ) (x : Dim) → Contains (stream_levels plan stream) f →
      Contains (dims_of_level plan d f) x →
      (x.name ≡ codes "Time" → ⊥) × (x.name ≡ codes "DateStrLen" → ⊥)

-- in the files of a stream
pub record HasFileNames (plan : Plan) (stream : ℕ) : Type 0 where
  pub variables : HasFileVariables plan stream
  pub dims : (d : ℕ) → IsDomain plan d → HasFileDims plan d stream
