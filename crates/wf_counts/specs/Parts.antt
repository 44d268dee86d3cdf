-- Parts of a domain's counts, by the data that they look at.
use Rattle.std.specs.Prelude.{ℕ, ◌+◌, ◌-◌, ◌*◌, ◌/◌, ◌%◌, ◌^◌, ◌==◌, Bool, ◌&&◌, nat_le}
use Rattle.std.specs.Prelude.{length, sum_by, if◌then◌else◌}
use Rattle.std.specs.List.{list_all, range_with_len}
use Rattle.wf_model.specs.declared.plan.Plan.{Plan}
use Rattle.wf_model.specs.declared.plan.Field.{Field}
use Rattle.wf_model.specs.declared.plan.Item.{Item}
use Rattle.wf_model.specs.Plans.{domain_of, domains_of}
use Rattle.wf_model.specs.Script.{restart_stream}
use Rattle.wf_model.specs.Streams.{one_if}
use Rattle.wf_model.specs.Halves.{item_halves}
use Rattle.wf_model.specs.Counts.{more_restarts, more_events}
use Rattle.wf_model.specs.Weights.{begins_at, parent_seconds}
use Rattle.wf_count_laws.specs.InTime.{is_in_time}
use Rattle.wf_count_laws.specs.Occurrences.{frames_of_stream}
use Rattle.wf_count_laws.specs.ByDomains.{domain_events}

-- whether a stream holds a level of this field
abbrev pub holds : ℕ → Field → Bool
holds stream field = if stream == restart_stream then field.restart
    else (field.last && ((field.streams / 2 ^ stream) % 2 == 1))

-- 1 where it does, and else 0
abbrev pub one_held : ℕ → Field → ℕ
one_held stream field = one_if (holds stream field)

-- the halves of an item
abbrev pub half_count : Item → ℕ
half_count item = length (item_halves item)

-- ---- times

-- a step takes a second at least
abbrev pub has_seconds : Plan → ℕ → Bool
has_seconds plan d = nat_le 1 (domain_of plan d).seconds

-- the steps of a nest fill its parent's
abbrev pub fills_parent : Plan → ℕ → Bool
fills_parent plan c =
    (domain_of plan c).seconds * (domain_of plan c).time_ratio == parent_seconds plan c

-- it begins with one of them, and not before its parent
abbrev pub begins_with_parent : Plan → ℕ → Bool
begins_with_parent plan c = (begins_at plan c % parent_seconds plan c == 0)
    && nat_le (begins_at plan (domain_of plan c).parent) (begins_at plan c)

-- of all domains
abbrev pub all_in_time : Plan → Bool
all_in_time plan = list_all (has_seconds plan) (domains_of plan)
    && list_all (is_in_time plan) (range_with_len 2 (length plan.domains - 1))

-- ---- frames and events

-- the frames of the first streams of a domain
abbrev pub frames_to : Plan → ℕ → ℕ → ℕ
frames_to plan d n = sum_by (frames_of_stream plan d) (range_with_len 0 n)

-- the events of the frames of a stream of a domain
abbrev pub stream_events : Plan → ℕ → ℕ → ℕ → ℕ
stream_events plan patches d s = frames_of_stream plan d s * more_events plan patches s

-- and of the first streams
abbrev pub frame_events_to : Plan → ℕ → ℕ → ℕ → ℕ
frame_events_to plan patches d n = sum_by (stream_events plan patches d) (range_with_len 0 n)

-- and of all domains, with what a restart adds
abbrev pub events_by_domains : Plan → ℕ → ℕ
events_by_domains plan patches = sum_by (domain_events plan patches) (domains_of plan)
    + more_restarts plan * more_events plan patches restart_stream
