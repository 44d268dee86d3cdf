use Rattle.wf_demo_laws.proofs.Grids.{grid_at_frame, grid_after_frame}
use Rattle.wf_demo_laws.proofs.demo_grid_is_its_outcome.Goals as goal

pub returns : goal.returns
returns c = λ nx ny steps m n j i h a b d e. (grid_at_frame nx ny steps m n h j i a b d e, grid_after_frame nx ny steps m n h j i a b d e)
