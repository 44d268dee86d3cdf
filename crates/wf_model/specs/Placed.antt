-- A patch that stands where the front is.
use Rattle.std.specs.Prelude.{◌≡◌, ◌⊎◌, ℕ, suc, ◌<◌, ◌≤◌, false}
use Rattle.wf_model.specs.declared.layout.Layout.{Layout}
use Rattle.wf_model.specs.Outcome.{RunData}
use Rattle.wf_model.specs.PatchEffect.{Memory}
use Rattle.wf_model.specs.Front.{front, halves_before}

-- a patch that has done n halves and has this memory stands where the front is: at no place up to
-- there has the front stopped it, and it has the front's memory there
pub record IsPlaced (r : RunData) (layout : Layout) (d p n : ℕ) (m : Memory) : Type 0 where
  pub live : (k : ℕ) → halves_before r d k ≤ n → (front r layout k d p).is_stopped ≡ false
  pub memory : (k : ℕ) → halves_before r d k ≤ n →
      (n ≡ halves_before r d k) ⊎ (n < halves_before r d (suc k)) →
      m ≡ (front r layout k d p).memory
