-- The first of some reads that is not covered, as the code answers it.
use Rattle.std.specs.Prelude.{ℕ, Bool, not, List, map, flat_map, find, Option}
use Rattle.std.specs.List.{enumerate_from}
use Rattle.std.specs.Option.{option_map}
use Rattle.wf_model.specs.declared.plan.Plan.{Plan}
use Rattle.wf_model.specs.Covered.{Asked, asked_of}
use Rattle.wf_model.specs.Reads.{Read}
use Rattle.wf_check_laws.specs.Repeats.{is_covered_at_few}
use Rattle.wf_check.specs.declared.error.HaloError.{HaloError}
use Rattle.wf_check.specs.declared.place.Place.{Place}

-- what names a read
abbrev pub error_of : Asked → HaloError
error_of a = record
    { domain = a.domain; phase = a.item; field = a.read.field; di = a.read.di; dj = a.read.dj }

-- the first of them
abbrev pub errors_in : Plan → List Asked → Option HaloError
errors_in plan asks = option_map error_of (find (λ a. not (is_covered_at_few plan a)) asks)

-- a read of a phase
abbrev pub asked_at : Place → Read → Asked
asked_at p r = record { domain = p.home.now.number; item = p.item; phase = p.phase.now; read = r }

-- the first of a phase's reads
abbrev pub first_error : Place → List Read → Option HaloError
first_error p reads = errors_in p.home.now.plan.now (map (asked_at p) reads)

-- all reads of a domain
abbrev pub asked_in_domain : Plan → ℕ → List Asked
asked_in_domain plan d = flat_map (λ p. asked_of d p.0 p.1) (enumerate_from 0 plan.items)
