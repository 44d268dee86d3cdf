use Rattle.std.proofs.Common.{◌≡◌, ℕ, subst, IfOk}
use Rattle.wf_plan_domains.proofs.StreamIntervals.{minutes_at}
use Rattle.wf_plan_domains.proofs.intervals.minutes_of.Goals as goal

pub returns : goal.returns
returns c =
    let P : ℕ → Type 0 = λ n. IfOk c.small_amount.result (λ m. m ≡ n) in
    subst P (minutes_at c.args.config.now c.args.domain c.args.stream c.interval_names-names.result _ c.interval_names-names.ensures c.requires) c.small_amount.ensures
