-- How many events a run can have.
use Rattle.std.specs.Prelude.{ℕ, ◌+◌, length, sum_by}
use Rattle.wf_model.specs.declared.layout.Layout.{Layout}
use Rattle.wf_model.specs.Plans.{domains_of}
use Rattle.wf_model.specs.Outcome.{RunData}
use Rattle.wf_model.specs.Frames.{frames_of}
use Rattle.wf_model.specs.Patches.{split_of, patches_of}
use Rattle.wf_model.specs.Halves.{Half, acts, sends, takes, posts, Due, halves_of}

-- a half, and the gathering of each piece that it posts
abbrev pub events_of_half : Half → ℕ
events_of_half acts = 1
events_of_half sends = 1
events_of_half takes = 1
events_of_half (posts levels) = 1 + length levels

-- of each patch its halves and the gathering of its pieces, and of each frame its writing
unfoldable pub most_events : RunData → Layout → ℕ
most_events r layout =
    sum_by (λ d. sum_by (λ p. sum_by (λ (x : Due). events_of_half x.half) (halves_of r d))
    (patches_of (split_of layout))) (domains_of r.plan)
    + length (frames_of r)
