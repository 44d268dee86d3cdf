-- A read of a domain, and folds over the table.
use Rattle.std.specs.Prelude.{ℕ, List, fold}
use Rattle.wf_model.specs.declared.plan.Plan.{Plan}
use Rattle.wf_model.specs.declared.plan.Item.{Item}
use Rattle.wf_model.specs.Covered.{Asked}
use Rattle.wf_check_laws.specs.Repeats.{before_item_x, before_item_y}
use Rattle.wf_check_walk.specs.declared.walk.Question.{Question}
use Rattle.wf_check.specs.declared.home.Home.{Home}

-- a read of a phase of the domain
abbrev pub asked_in : Home → Question → Asked
asked_in h q = record {
  domain = h.number;
  item = q.item;
  phase = q.phase.now;
  read = record { field = q.field; di = q.di; dk = q.dk; dj = q.dj };
}

-- over items
abbrev pub columns_before : Plan → ℕ → ℕ → ℕ → ℕ → List Item → ℕ
columns_before plan d m x far items = fold (before_item_x plan d m x) far items

abbrev pub rows_before : Plan → ℕ → ℕ → ℕ → ℕ → List Item → ℕ
rows_before plan d m y far items = fold (before_item_y plan d m y) far items
