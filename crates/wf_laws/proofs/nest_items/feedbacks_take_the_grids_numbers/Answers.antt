use Rattle.wf_laws.proofs.NestLaws.{feedback_values}
use Rattle.wf_laws.proofs.nest_items.feedbacks_take_the_grids_numbers.Goals as goal

pub returns : goal.returns
returns c = feedback_values
