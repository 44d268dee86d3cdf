-- Letters of dimensions and their axes.
use Rattle.std.specs.Prelude.{◌≡◌, ℕ, List, []}
use Rattle.wf_model.specs.declared.registry.Entry.{Entry}
use Rattle.wf_model.specs.declared.registry.Entry.TheVariants.{Dimspec}
use Rattle.wf_model.specs.Entries.{axis_of}
use Rattle.wf_model.specs.Judging.{is_known}

-- a dimspec of this letter and axis, without other columns
abbrev pub bare_dimspec : ℕ → ℕ → Entry
bare_dimspec letter axis = Dimspec letter [] axis []

-- the one list of entries has the letters of the other, with the same axes
pub record HasAxesOf (some others : List Entry) : Type 0 where
  pub known : (c : ℕ) → is_known some c ≡ is_known others c
  pub axes : (c : ℕ) → axis_of some c ≡ axis_of others c
