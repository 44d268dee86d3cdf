-- The laws of nest items: what patches make of their mail is what the grids give.
use Rattle.std.proofs.Common.{◌≡◌, ℕ, ◌<◌, true, List, get_or, sym, subst, Some}
use Rattle.std.specs.Prelude.{map, pos, unwrap_or, is_some, flat_map}
use Rattle.wf_model.specs.declared.script.Act.{Act}
use Rattle.wf_model.specs.declared.script.Act.TheVariants.{Start, Force, Feedback, Table, Emit}
use Rattle.wf_model.specs.declared.script.Entry.{Entry}
use Rattle.wf_model.specs.Plans.{domain_of, field_of, point_x, point_y}
use Rattle.wf_model.specs.Grids.{Grids}
use Rattle.wf_model.specs.Nests.{between_points, behind}
use Rattle.wf_model.specs.Outcome.{RunData, script, entry_at, no_entry, grids_at}
use Rattle.wf_model.specs.Patches.{Split, Cell, split_of}
use Rattle.wf_model.specs.Cycle.{Turn}
use Rattle.wf_model.specs.Covered.{IsCovered}
use Rattle.wf_model.specs.Exchange.{carried, around, cells_behind, start_cells, force_cells, feedback_cells, is_outer_cell, is_fed_cell}
use Rattle.wf_model.specs.PatchEffect.{came, between_cells}
use Rattle.wf_model.specs.Sound.{IsDomain, IsSoundPlan}
use Rattle.wf_model.specs.Agreement.{IsOwnCell, IsMemoryCell, memory_at}
use Rattle.wf_laws.specs.Stops.{Memories}
use Rattle.wf_laws.specs.NestValues.{StartsComputeTheGridsValues, ForcesComputeTheGridsValues, FeedbacksTakeTheGridsNumbers}
use Rattle.wf_laws.proofs.Places.{IsRoom}
use Rattle.wf_laws.proofs.CentralAll.{EachRight}
use Rattle.wf_laws.proofs.NestSteps.{between_same, start_asked, force_asked, some_of}
use Rattle.wf_laws.proofs.NestBack.{behind_same, behind_asked}
use Rattle.wf_laws.proofs.ScriptAll.{script-follows_all}
use Rattle.wf_laws.proofs.AllDomains.{rooms, Kind, kind_at, emit, item_at, start, force, feedback}
use Rattle.wf_laws.proofs.Names.{mail_by}
use Rattle.wf_laws.proofs.WholeRun.{turns}
use Rattle.wf_laws.proofs.StopLaws.{each_now}

module _ (r : RunData) (split : Split) (sound : IsSoundPlan r.plan) (covered : IsCovered r.plan) (rooms : (d : ℕ) → IsDomain r.plan d → IsRoom r.plan split d) (ts : ℕ → List Turn) (g : Grids) (ms : Memories)
    (each : EachRight r split sound covered rooms ts g ms) (e : Entry) (p : ℕ) (is : IsDomain r.plan e.domain) (nest : 1 < e.domain) where
  -- the nest's parent
  abbrev parent : ℕ
  parent = (domain_of r.plan e.domain).parent

  -- the parent is a domain of the plan
  up : IsDomain r.plan (domain_of r.plan e.domain).parent
  up = (sound.nests e.domain nest is).parent

  -- at a start
  start_value : (id : ℕ) (c : Cell) → IsMemoryCell r.plan split e.domain p c → (field_of r.plan c.field).down ≡ Some id →
      between_cells r e.domain (mail_by r split e g ms p Start) id c ≡ between_points r.plan r.answers g e.domain c.field id c.k (point_y r.plan e.domain c.field c.j) (point_x r.plan e.domain c.field c.i)
  unfolding carried
  start_value id c cell down =
      between_same r split sound e.domain (rooms parent up) (ts parent) g (ms parent) (each.all parent up) (flat_map (around r.plan e.domain) (start_cells r.plan split e.domain p)) id c.field c.k c.j c.i cell.level.0 cell.level.1
      (start_asked r split sound e.domain (rooms parent up) (ts parent) g (ms parent) (each.all parent up) (ms e.domain) p c.field c.k c.j c.i (some_of (field_of r.plan c.field).down id down) cell.level.0 cell.level.1 cell.within)

  -- at a force
  force_value : (id : ℕ) (c : Cell) → IsOwnCell r.plan split e.domain p c → is_outer_cell r.plan e.domain c ≡ true → (field_of r.plan c.field).edge ≡ Some id →
      between_cells r e.domain (mail_by r split e g ms p Force) id c ≡ between_points r.plan r.answers g e.domain c.field id c.k (point_y r.plan e.domain c.field c.j) (point_x r.plan e.domain c.field c.i)
  unfolding carried
  force_value id c own outer edge =
      between_same r split sound e.domain (rooms parent up) (ts parent) g (ms parent) (each.all parent up) (flat_map (around r.plan e.domain) (force_cells r.plan split e.domain p)) id c.field c.k c.j c.i own.level.0 own.level.1
      (force_asked r split sound e.domain (rooms parent up) (ts parent) g (ms parent) (each.all parent up) (ms e.domain) p c.field c.k c.j c.i (some_of (field_of r.plan c.field).edge id edge) own.level.0 own.level.1 own.own outer)

  -- at a feedback
  feedback_numbers : (c : Cell) → IsOwnCell r.plan split parent p c → is_fed_cell r.plan e.domain c ≡ true → is_some (field_of r.plan c.field).up ≡ true →
      map (λ x. unwrap_or (came (mail_by r split e g ms p Feedback) x) (pos 0)) (cells_behind r.plan e.domain c) ≡ behind r.plan g e.domain c.field c.k (point_y r.plan parent c.field c.j) (point_x r.plan parent c.field c.i)
  unfolding carried
  feedback_numbers c own is_it some =
      behind_same r split sound e.domain (rooms e.domain is) (sound.nests e.domain nest is).odd (ts e.domain) g (ms e.domain) (each.all e.domain is) (flat_map (cells_behind r.plan e.domain) (feedback_cells r.plan split e.domain p))
      c.field c.k c.j c.i own.level.0 own.level.1 is_it
      (behind_asked r split sound e.domain (rooms e.domain is) (sound.nests e.domain nest is).odd (ts e.domain) g (ms e.domain) (each.all e.domain is) p c.field c.k c.j c.i some own.level.0 own.level.1 own.own is_it)

-- the nest of a nest item is a domain of the plan, and not the first
record IsNest (r : RunData) (e : Entry) : Type 0 where
  domain : IsDomain r.plan e.domain
  nest : 1 < e.domain

-- an entry that is no item of the table and no emit is a nest item
nest_of : (r : RunData) {ts : ℕ → List Turn} (e : Entry) → Kind r.plan ts e → ((n : ℕ) → e.act ≡ Table n → ⊥) → ((s : ℕ) → e.act ≡ Emit s → ⊥) → IsNest r e
nest_of r e (emit s a) t m = absurd (m s a)
nest_of r e (item_at n is a w q) t m = absurd (t n a)
nest_of r e (start is nest a empty) t m = record { domain = is; nest = nest }
nest_of r e (force is nest a) t m = record { domain = is; nest = nest }
nest_of r e (feedback is nest a) t m = record { domain = is; nest = nest }

-- a start is no item of the table
start_table : {act : Act} → act ≡ Start → (n : ℕ) → act ≡ Table n → ⊥
start_table e n q = cc

-- and no emit
start_emit : {act : Act} → act ≡ Start → (s : ℕ) → act ≡ Emit s → ⊥
start_emit e s q = cc

-- a force is no item of the table
force_table : {act : Act} → act ≡ Force → (n : ℕ) → act ≡ Table n → ⊥
force_table e n q = cc

-- and no emit
force_emit : {act : Act} → act ≡ Force → (s : ℕ) → act ≡ Emit s → ⊥
force_emit e s q = cc

-- a feedback is no item of the table
feedback_table : {act : Act} → act ≡ Feedback → (n : ℕ) → act ≡ Table n → ⊥
feedback_table e n q = cc

-- and no emit
feedback_emit : {act : Act} → act ≡ Feedback → (s : ℕ) → act ≡ Emit s → ⊥
feedback_emit e s q = cc

-- what comes at a start gives the grids' values
pub start_values : StartsComputeTheGridsValues
unfolding entry_at
start_values r layout n p id c a up within hp act cell down =
    let e : Entry = get_or (script r) n no_entry in
    let k = nest_of r e (kind_at r.plan (script-follows_all r.plan a.sound r.initial.begins) n no_entry within) (start_table act) (start_emit act) in
    subst (λ (x : Act). between_cells r e.domain (mail_by r (split_of layout) e (grids_at r n) (memory_at r layout n) p x) id c
    ≡ between_points r.plan r.answers (grids_at r n) e.domain c.field id c.k (point_y r.plan e.domain c.field c.j) (point_x r.plan e.domain c.field c.i)) (sym act)
    (start_value r (split_of layout) a.sound a.covered (rooms r layout a.sound a.laid a.covered) (turns r layout a.sound a.laid a.covered n) (grids_at r n) (memory_at r layout n) (each_now r layout a n up within) e p k.domain k.nest id c cell down)

-- and so does what comes at a force
pub force_values : ForcesComputeTheGridsValues
unfolding entry_at
force_values r layout n p id c a up within hp act own outer edge =
    let e : Entry = get_or (script r) n no_entry in
    let k = nest_of r e (kind_at r.plan (script-follows_all r.plan a.sound r.initial.begins) n no_entry within) (force_table act) (force_emit act) in
    subst (λ (x : Act). between_cells r e.domain (mail_by r (split_of layout) e (grids_at r n) (memory_at r layout n) p x) id c
    ≡ between_points r.plan r.answers (grids_at r n) e.domain c.field id c.k (point_y r.plan e.domain c.field c.j) (point_x r.plan e.domain c.field c.i)) (sym act)
    (force_value r (split_of layout) a.sound a.covered (rooms r layout a.sound a.laid a.covered) (turns r layout a.sound a.laid a.covered n) (grids_at r n) (memory_at r layout n) (each_now r layout a n up within) e p k.domain k.nest id c own outer edge)

-- and what comes at a feedback are the grids' numbers
pub feedback_values : FeedbacksTakeTheGridsNumbers
unfolding entry_at
feedback_values r layout n p c a up within hp act own is_it some =
    let e : Entry = get_or (script r) n no_entry in
    let k = nest_of r e (kind_at r.plan (script-follows_all r.plan a.sound r.initial.begins) n no_entry within) (feedback_table act) (feedback_emit act) in
    subst (λ (x : Act). map (λ y. unwrap_or (came (mail_by r (split_of layout) e (grids_at r n) (memory_at r layout n) p x) y) (pos 0)) (cells_behind r.plan e.domain c)
    ≡ behind r.plan (grids_at r n) e.domain c.field c.k (point_y r.plan (domain_of r.plan e.domain).parent c.field c.j) (point_x r.plan (domain_of r.plan e.domain).parent c.field c.i)) (sym act)
    (feedback_numbers r (split_of layout) a.sound a.covered (rooms r layout a.sound a.laid a.covered) (turns r layout a.sound a.laid a.covered n) (grids_at r n) (memory_at r layout n) (each_now r layout a n up within) e p k.domain k.nest c own is_it some)
