-- The worked cases of a plan's tests, computed.
use Rattle.std.specs.Prelude.{◌≡◌, refl, [], ◌∷◌, pos, negsuc}
use Rattle.wf_model.specs.declared.expr.Expr.{fold-roll-Expr}
use Rattle.wf_model.specs.Reads.{reads_of}
use Rattle.wf_model.specs.Plans.{domain_of, field_of}
use Rattle.wf_cases.specs.PlanCases.{west, ReadsAtTheEdge}

-- the one read of that expression
reads_west : reads_of west ≡ record { field = 0; di = negsuc 0; dk = pos 0; dj = pos 0 } ∷ []
unfolding reads_of
reads_west = simp fold-roll-Expr refl

pub reads_at_the_edge : ReadsAtTheEdge
unfolding domain_of field_of
reads_at_the_edge = record { past_the_edge = simp reads_west refl; inside = simp reads_west refl; no_region = refl }
