-- What a store that tells its files tells of the demo's file.
use Rattle.std.specs.Prelude.{◌≡◌, ℕ, ◌+◌, ◌≤◌, List, ◌∷◌, length, Option, Some, IsSome}
use Rattle.wf_model.specs.Files.{Files, StoreCall, create, append, bytes_at}
use Rattle.wf_model.specs.Demo.{demo_file, demo_header, demo_frames}

-- where the files are told, the demo's file is there and has room for the count of its records
pub record HasHeader (files : Option Files) : Type 0 where
  pub there : (m : Files) → files ≡ Some m → IsSome (m demo_file)
  pub room : (m : Files) → files ≡ Some m → 8 ≤ length (bytes_at m demo_file)

-- the calls that make the demo's file, with a frame at the start and after each step
abbrev pub file_calls : ℕ → ℕ → ℕ → List StoreCall
file_calls nx ny steps =
    create demo_file ∷ append demo_file (demo_header nx ny steps) ∷ demo_frames nx ny (steps + 1)
