-- The demo's files are small.
use Rattle.std.proofs.Common.{ℕ, zero, suc, ◌+◌, ◌*◌, ◌-◌, ◌/◌, ◌≤◌, sym, subst, arith}
use Rattle.std.proofs.Math.Nat.{mul-le-mul}
use Rattle.std.specs.Prelude.{min, max}
use Rattle.wf_model.specs.declared.plan.Plan.{Plan}
use Rattle.wf_model.specs.Plans.{domain_of, field_of}
use Rattle.wf_model.specs.Sound.{FilesFit}
use Rattle.wf_model.specs.DemoCase.{demo_plan}
use Rattle.wf_model.specs.Counts.{stream_bytes}
use Rattle.wf_model.specs.Bytes.{header_bytes}
use Rattle.wf_model.specs.Sizes.{most_bytes}
use Rattle.wf_model.specs.Headers.{file_header, dims_of}
use Rattle.wf_model.specs.Streams.{stream_levels}
use Rattle.wf_demo_laws.proofs.Accepted.{one_domain}

-- a file of so many records is small
size_fits : (n rows columns : ℕ) → rows ≤ 200 → columns ≤ 200 → 380 + max 1 (min 1000 n) * (20 + (1 * rows * columns * 4 + 3) / 4 * 4) ≤ 2147483644
size_fits n rows columns a b =
    let points : rows * columns ≤ 200 * 200 = mul-le-mul a b in
    let records : max 1 (min 1000 n) ≤ 1000 = omega arith in
    let size : 20 + (1 * rows * columns * 4 + 3) / 4 * 4 ≤ 160023 = omega (arith, points) in
    let all : max 1 (min 1000 n) * (20 + (1 * rows * columns * 4 + 3) / 4 * 4) ≤ 1000 * 160023 = mul-le-mul records size in
    omega (arith, all)

module _ (nx ny steps : ℕ) where
  abbrev plan : Plan
  plan = demo_plan nx ny steps

  -- of the one stream, and of the others, which hold no level
  stream_fits : nx ≤ 200 → ny ≤ 200 → (stream : ℕ) → stream ≤ 10 → stream_bytes plan 1 stream ≤ 2147483644
  unfolding domain_of field_of file_header dims_of stream_levels header_bytes
  stream_fits x y zero h = size_fits (1 + (steps * 60 - 0) / 60 / 1) (ny + 1 - 1 + 0) (nx + 1 - 1 + 0) (omega arith) (omega arith)
  stream_fits x y (suc zero) h = omega arith
  stream_fits x y (suc (suc zero)) h = omega arith
  stream_fits x y (suc (suc (suc zero))) h = omega arith
  stream_fits x y (suc (suc (suc (suc zero)))) h = omega arith
  stream_fits x y (suc (suc (suc (suc (suc zero))))) h = omega arith
  stream_fits x y (suc (suc (suc (suc (suc (suc zero)))))) h = omega arith
  stream_fits x y (suc (suc (suc (suc (suc (suc (suc zero))))))) h = omega arith
  stream_fits x y (suc (suc (suc (suc (suc (suc (suc (suc zero)))))))) h = omega arith
  stream_fits x y (suc (suc (suc (suc (suc (suc (suc (suc (suc zero))))))))) h = omega arith
  stream_fits x y (suc (suc (suc (suc (suc (suc (suc (suc (suc (suc zero)))))))))) h = omega arith
  stream_fits x y (suc (suc (suc (suc (suc (suc (suc (suc (suc (suc (suc n))))))))))) h = absurd (omega arith)

  -- and all its files fit
  pub files_fit : nx ≤ 200 → ny ≤ 200 → FilesFit plan
  files_fit x y d stream is h = subst (λ (e : ℕ). stream_bytes plan e stream ≤ most_bytes 1) (sym (one_domain nx ny steps d is)) (stream_fits x y stream h)
