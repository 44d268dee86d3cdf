-- Who sends a cell: of each carried cell the sender owns the point, and no other patch sends it.
use Rattle.std.proofs.Common.{◌≡◌, ℕ, ◌*◌, ◌≤◌, ◌<◌, true, List, sym, subst, ◌∙◌, arith}
use Rattle.std.specs.Prelude.{pos, ◌==◌, filter, flat_map, length}
use Rattle.std.specs.List.{list_any}
use Rattle.wf_model.specs.declared.plan.Plan.{Plan}
use Rattle.wf_model.specs.declared.script.Act.{Act}
use Rattle.wf_model.specs.declared.script.Act.TheVariants.{Start, Force, Feedback, Table, Emit}
use Rattle.wf_model.specs.declared.script.Entry.{Entry}
use Rattle.wf_model.specs.Plans.{domain_of, item_of, levels_of, nz, point_x, point_y}
use Rattle.wf_model.specs.Patches.{Split, Cell, own_box, is_own, is_place, is_in_domain, cells_in}
use Rattle.wf_model.specs.Shapes.{cell_owner, fetched_cells}
use Rattle.wf_model.specs.Exchange.{same_cell, sender_of, around, cells_behind, start_cells, force_cells, feedback_cells, owned_among, carried}
use Rattle.wf_model.specs.Sound.{IsLevel}
use Rattle.wf_laws.proofs.Bools.{equal_of}
use Rattle.wf_laws.proofs.Members.{In, In-flat_map, In-filter, In-filter_out, In-range, list_any-In}
use Rattle.wf_laws.proofs.Fetch.{same_cell-same}
use Rattle.wf_laws.proofs.Places.{IsRoom, owner_owns, range_x, range_y, place-domain, own-domain}
use Rattle.wf_laws.proofs.Cells.{IsPointCell, fetched_point, In-cells}
use Rattle.wf_laws.proofs.NestMail.{domain_x, domain_y, among_out}
use Rattle.wf_laws.proofs.Owners.{one_owner}

-- the cell of the point that a cell stands for is an own cell of its owner
pub record IsSent (plan : Plan) (split : Split) (d from : ℕ) (c : Cell) : Type 0 where
  pub low : 1 ≤ c.k
  pub high : c.k ≤ nz plan c.field
  pub place : is_place plan d c.field c.j c.i ≡ true
  pub own : is_own plan split d from c.field (pos (point_y plan d c.field c.j)) (pos (point_x plan d c.field c.i)) ≡ true

module _ (plan : Plan) (split : Split) (d : ℕ) (room : IsRoom plan split d) where
  -- who owns the point of a cell is its owner
  pub owner_is : (c : Cell) (q : ℕ) → q < split.in_x * split.in_y → is_place plan d c.field c.j c.i ≡ true →
      is_own plan split d q c.field (pos (point_y plan d c.field c.j)) (pos (point_x plan d c.field c.i)) ≡ true → q ≡ cell_owner plan split d c
  owner_is c q hq place own =
      let ry = range_y plan split d room c.field c.j c.i place in
      let rx = range_x plan split d room c.field c.j c.i place in
      let o = owner_owns plan split d room c.field (point_y plan d c.field c.j) (point_x plan d c.field c.i) ry.0 ry.1 rx.0 rx.1 in
      one_owner plan split d room q (cell_owner plan split d c) c.field (pos (point_y plan d c.field c.j)) (pos (point_x plan d c.field c.i)) hq o.0 own o.1

  -- its owner is a patch and owns its point
  pub owner_there : (c : Cell) → is_place plan d c.field c.j c.i ≡ true →
      (cell_owner plan split d c < split.in_x * split.in_y) × (is_own plan split d (cell_owner plan split d c) c.field (pos (point_y plan d c.field c.j)) (pos (point_x plan d c.field c.i)) ≡ true)
  owner_there c place =
      let ry = range_y plan split d room c.field c.j c.i place in
      let rx = range_x plan split d room c.field c.j c.i place in
      owner_owns plan split d room c.field (point_y plan d c.field c.j) (point_x plan d c.field c.i) ry.0 ry.1 rx.0 rx.1

  -- of a fetched cell the owner sends
  fetched_sent : (n from to : ℕ) (c : Cell) → In c (filter (λ x. cell_owner plan split d x == from) (fetched_cells plan split d (item_of plan n) to)) → IsSent plan split d from c
  fetched_sent n from to c h =
      let t = In-filter_out (λ (x : Cell). cell_owner plan split d x == from) c (fetched_cells plan split d (item_of plan n) to) h in
      let point : IsPointCell plan split d room c = fetched_point plan split d room (item_of plan n) to c t.0 in
      record {
        low = point.low;
        high = point.high;
        place = point.place;
        own = subst (λ (q : ℕ). is_own plan split d q c.field (pos (point_y plan d c.field c.j)) (pos (point_x plan d c.field c.i)) ≡ true) (equal_of (cell_owner plan split d c) from t.1) (owner_there c point.place).1;
      }

  -- an own cell is the cell of its point
  own_at_point : (from : ℕ) (c : Cell) → is_in_domain plan d c.field c.j c.i ≡ true → is_own plan split d from c.field c.j c.i ≡ true →
      is_own plan split d from c.field (pos (point_y plan d c.field c.j)) (pos (point_x plan d c.field c.i)) ≡ true
  own_at_point from c inside own = (λ n. is_own plan split d from c.field (domain_y plan d c.field c.j c.i inside n) (domain_x plan d c.field c.j c.i inside n)) ∙ own

  -- an own cell that is asked for is carried
  pub among_in : (from : ℕ) (asked : List Cell) (c : Cell) → IsLevel plan c.field → 1 ≤ c.k → c.k ≤ nz plan c.field → In c asked → is_own plan split d from c.field c.j c.i ≡ true →
      In c (owned_among plan split d from asked)
  unfolding is_own
  among_in from asked c level l u h own =
      In-filter (λ (x : Cell). list_any (same_cell x) asked) c (flat_map (λ f. cells_in plan f (own_box plan split d from f)) (levels_of plan))
      (In-flat_map (λ (f : ℕ). cells_in plan f (own_box plan split d from f)) c c.field (levels_of plan) (In-range c.field 0 (length plan.fields) (omega arith) (omega (arith, level)))
      (In-cells plan c.field c.k (own_box plan split d from c.field) c.j c.i l u own))
      (list_any-In (same_cell c) c asked h (same_cell-same c))

  -- of an asked cell the owner sends
  among_sent : (from : ℕ) (asked : List Cell) (c : Cell) → from < split.in_x * split.in_y → In c (owned_among plan split d from asked) → IsSent plan split d from c
  among_sent from asked c hq h =
      let own = among_out plan split d from asked c h in
      let inside = own-domain plan split d room from c.field c.j c.i hq own.0 in
      record { low = own.1; high = own.2; place = place-domain plan split d room c.field c.j c.i inside; own = own_at_point from c inside own.0 }

  -- the owner of a point that is asked for carries it, and no other patch does
  pub among_owner : (asked : List Cell) (c : Cell) → IsLevel plan c.field → 1 ≤ c.k → c.k ≤ nz plan c.field → In c asked → is_in_domain plan d c.field c.j c.i ≡ true →
      In c (owned_among plan split d (cell_owner plan split d c) asked)
  among_owner asked c level l u h inside =
      let o = owner_there c (place-domain plan split d room c.field c.j c.i inside) in
      among_in (cell_owner plan split d c) asked c level l u h
      ((λ n. is_own plan split d (cell_owner plan split d c) c.field (sym (domain_y plan d c.field c.j c.i inside) n) (sym (domain_x plan d c.field c.j c.i inside) n)) ∙ o.1)

-- of each cell that a message carries the sender owns the point
pub carried_sent : (plan : Plan) (split : Split) (e : Entry) (act : Act) (room : IsRoom plan split (sender_of plan e act)) (from to : ℕ) (c : Cell) → from < split.in_x * split.in_y →
    In c (carried plan split e act from to) → IsSent plan split (sender_of plan e act) from c
unfolding carried
carried_sent plan split e Start room from to c hq h =
    among_sent plan split (domain_of plan e.domain).parent room from (flat_map (around plan e.domain) (start_cells plan split e.domain to)) c hq h
carried_sent plan split e Force room from to c hq h =
    among_sent plan split (domain_of plan e.domain).parent room from (flat_map (around plan e.domain) (force_cells plan split e.domain to)) c hq h
carried_sent plan split e Feedback room from to c hq h =
    among_sent plan split e.domain room from (flat_map (cells_behind plan e.domain) (feedback_cells plan split e.domain to)) c hq h
carried_sent plan split e (Table n) room from to c hq h = fetched_sent plan split e.domain room n from to c h
carried_sent plan split e (Emit s) room from to c hq h = absurd h
