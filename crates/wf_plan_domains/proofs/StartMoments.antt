-- A moment no seconds later.
use Rattle.std.proofs.Common.{◌≡◌, ℕ, ◌+◌, ◌/◌, ◌%◌, ◌<◌, Bool, IsTrue, nat_lt, ap₂, arith}
use Rattle.std.specs.Prelude.{◌&&◌}
use Rattle.std.proofs.lemmas.Bool.Decides.{nat_tests}
use Rattle.wf_model.specs.Calendar.{Moment, days_after, moment_after}
use Rattle.wf_stamp.specs.Moments.{is_moment}

below_day : (b : Bool) (s : ℕ) → IsTrue (b && nat_lt s 86400) → s < 86400
below_day b s h = grind (arith, nat_tests)

pub no_seconds_later : (m : Moment) → IsTrue (is_moment m) → moment_after m 0 ≡ m
unfolding days_after
no_seconds_later m h =
    let below : m.second < 86400 = below_day _ m.second h in
    let days : (m.second + 0) / 86400 ≡ 0 = omega arith in
    let second : (m.second + 0) % 86400 ≡ m.second = omega arith in
    ap₂ (λ n s. let t : Moment = record { date = days_after n m.date; second = s } in t) days second
