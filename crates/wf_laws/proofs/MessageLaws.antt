-- The laws of messages: each cell comes once, from its owner, with its numbers.
use Rattle.std.proofs.Common.{◌≡◌, ℕ, ◌*◌, ◌<◌, true, List, [], ⊎_elim, refl, sym, ap, subst, ◌∙◌, arith, length}
use Rattle.std.specs.Prelude.{pos, ◌==◌, map, if◌then◌else◌, zip}
use Rattle.wf_model.specs.declared.layout.Layout.{Layout}
use Rattle.wf_model.specs.declared.plan.Plan.{Plan}
use Rattle.wf_model.specs.declared.script.Act.{Act}
use Rattle.wf_model.specs.declared.script.Act.TheVariants.{Start, Force, Feedback, Table, Emit}
use Rattle.wf_model.specs.declared.script.Entry.{Entry}
use Rattle.wf_model.specs.Plans.{item_of, point_x, point_y}
use Rattle.wf_model.specs.Outcome.{RunData, script, entry_at, grids_at, outcome_of}
use Rattle.wf_model.specs.Patches.{Split, Cell, split_of, is_in_domain, patches_of}
use Rattle.wf_model.specs.Shapes.{cell_owner, fetched_cells, grid_cell}
use Rattle.wf_model.specs.Exchange.{sender_of, carried, is_expected, senders_to}
use Rattle.wf_model.specs.Core.{memory_point}
use Rattle.wf_model.specs.Held.{stands_past, grids_in_patches, numbers_at, message_numbers}
use Rattle.wf_model.specs.Sound.{IsDomain, IsLevel}
use Rattle.wf_model.specs.Agreement.{IsAccepted, IsUpToOverflow, IsPatch, IsLevelCell, memory_at}
use Rattle.wf_laws.specs.Messages.{Carries, FetchedCellsComeOnce, MessagesCarryFetchedCells, asked_points, AskedPointsComeOnce, ReceivedAreTheMessages, SendersSendTheNumbers, MessagesCarryTheGridsNumbers}
use Rattle.wf_laws.specs.Ownership.{IsTheOne}
use Rattle.wf_laws.proofs.Bools.{equal_of, equal_test, split_bool}
use Rattle.wf_laws.proofs.Members.{In, In-filter, In-filter_out, In-Contains, Contains-In, In-range_out, flat_map-same, map-same}
use Rattle.wf_laws.proofs.Places.{IsRoom, room_of, back_x, back_y, place-domain}
use Rattle.wf_laws.proofs.Cells.{IsPointCell, fetched_point}
use Rattle.wf_laws.proofs.Senders.{IsSent, owner_is, owner_there, among_owner, carried_sent}
use Rattle.wf_laws.proofs.FirstOverflow.{clean_up_to}
use Rattle.wf_laws.proofs.WholeRun.{own_right, sender_domain}

-- the owner carries a fetched cell, and no other patch does
table_once : (plan : Plan) (layout : Layout) (e : Entry) (n to : ℕ) (c : Cell) (room : IsRoom plan (split_of layout) e.domain) →
    In c (fetched_cells plan (split_of layout) e.domain (item_of plan n) to) →
    IsTheOne (layout.nproc_x * layout.nproc_y) (λ q. In c (carried plan (split_of layout) e (Table n) q to)) (cell_owner plan (split_of layout) e.domain c)
unfolding carried
table_once plan layout e n to c room h =
    let split : Split = split_of layout in
    let point : IsPointCell plan (split_of layout) e.domain room c = fetched_point plan (split_of layout) e.domain room (item_of plan n) to c h in
    record {
      below = (owner_there plan (split_of layout) e.domain room c point.place).0;
      passes = In-filter (λ (x : Cell). cell_owner plan (split_of layout) e.domain x == cell_owner plan (split_of layout) e.domain c) c (fetched_cells plan (split_of layout) e.domain (item_of plan n) to) h
          (equal_test (cell_owner plan (split_of layout) e.domain c) (cell_owner plan (split_of layout) e.domain c) refl);
      alone = λ q hq i.
          let t = In-filter_out (λ (x : Cell). cell_owner plan (split_of layout) e.domain x == q) c (fetched_cells plan (split_of layout) e.domain (item_of plan n) to) i in
          sym (equal_of (cell_owner plan (split_of layout) e.domain c) q t.1);
    }

-- the one that passes a test passes an equivalent one alone
the_one_by : (n p : ℕ) (P Q : ℕ → Type 0) → ((q : ℕ) → P q → Q q) → ((q : ℕ) → Q q → P q) → IsTheOne n P p → IsTheOne n Q p
the_one_by n p P Q to from h = record { below = h.below; passes = to p h.passes; alone = λ q hq t. h.alone q hq (from q t) }

-- each fetched cell comes once
pub fetched_once : FetchedCellsComeOnce
fetched_once plan layout e n to c laid is act h =
    the_one_by (layout.nproc_x * layout.nproc_y) (cell_owner plan (split_of layout) e.domain c) (λ q. In c (carried plan (split_of layout) e (Table n) q to)) (Carries plan (split_of layout) e to c)
    (λ q t. In-Contains c (carried plan (split_of layout) e e.act q to) (subst (λ (a : Act). In c (carried plan (split_of layout) e a q to)) (sym act) t))
    (λ q t. subst (λ (a : Act). In c (carried plan (split_of layout) e a q to)) act (Contains-In c (carried plan (split_of layout) e e.act q to) t))
    (table_once plan layout e n to c (room_of plan layout laid e.domain is) (Contains-In c (fetched_cells plan (split_of layout) e.domain (item_of plan n) to) h))

-- what is carried is fetched
carried_fetched : (plan : Plan) (split : Split) (e : Entry) (n from to : ℕ) (c : Cell) → In c (carried plan split e (Table n) from to) → In c (fetched_cells plan split e.domain (item_of plan n) to)
unfolding carried
carried_fetched plan split e n from to c h = (In-filter_out (λ (x : Cell). cell_owner plan split e.domain x == from) c (fetched_cells plan split e.domain (item_of plan n) to) h).0

-- only fetched cells come
pub fetched_alone : MessagesCarryFetchedCells
fetched_alone plan split e n from to c act h =
    In-Contains c (fetched_cells plan split e.domain (item_of plan n) to)
    (carried_fetched plan split e n from to c (subst (λ (a : Act). In c (carried plan split e a from to)) act (Contains-In c (carried plan split e e.act from to) h)))

-- the owner carries a point that is asked for
asked_carried : (plan : Plan) (split : Split) (e : Entry) (act : Act) (room : IsRoom plan split (sender_of plan e act)) (to : ℕ) (c : Cell) → IsLevel plan c.field → IsLevelCell plan c →
    is_in_domain plan (sender_of plan e act) c.field c.j c.i ≡ true → In c (asked_points plan split e act to) → In c (carried plan split e act (cell_owner plan split (sender_of plan e act) c) to)
unfolding carried
asked_carried plan split e Start room to c level k inside h = among_owner plan split (sender_of plan e Start) room (asked_points plan split e Start to) c level k.0 k.1 h inside
asked_carried plan split e Force room to c level k inside h = among_owner plan split (sender_of plan e Force) room (asked_points plan split e Force to) c level k.0 k.1 h inside
asked_carried plan split e Feedback room to c level k inside h = among_owner plan split (sender_of plan e Feedback) room (asked_points plan split e Feedback to) c level k.0 k.1 h inside
asked_carried plan split e (Table n) room to c level k inside h = absurd h
asked_carried plan split e (Emit s) room to c level k inside h = absurd h

-- each point that is asked for comes once
pub asked_once : AskedPointsComeOnce
asked_once plan layout e to c laid is level k inside h =
    let d : ℕ = sender_of plan e e.act in
    let split : Split = split_of layout in
    let room = room_of plan layout laid (sender_of plan e e.act) is in
    let here = asked_carried plan (split_of layout) e e.act room to c level k inside (Contains-In c (asked_points plan (split_of layout) e e.act to) h) in
    let place = (carried_sent plan (split_of layout) e e.act room (cell_owner plan (split_of layout) d c) to c (owner_below room) here).place in
    record {
      below = owner_below room;
      passes = In-Contains c (carried plan (split_of layout) e e.act (cell_owner plan (split_of layout) d c) to) here;
      alone = λ q hq t.
          let s = carried_sent plan (split_of layout) e e.act room q to c hq (Contains-In c (carried plan (split_of layout) e e.act q to) t) in
          owner_is plan (split_of layout) (sender_of plan e e.act) room c q hq s.place s.own;
    }
  where
    owner_below : (room : IsRoom plan (split_of layout) (sender_of plan e e.act)) → cell_owner plan (split_of layout) (sender_of plan e e.act) c < layout.nproc_x * layout.nproc_y
    owner_below room = (owner_there plan (split_of layout) (sender_of plan e e.act) room c (place-domain plan (split_of layout) (sender_of plan e e.act) room c.field c.j c.i inside)).0

module _ (r : RunData) (layout : Layout) (a : IsAccepted r layout) (n : ℕ) (within : n < length (script r)) (from to : ℕ) (hq : IsPatch layout from) where
  -- the entry
  abbrev e : Entry
  e = entry_at r n

  -- the domain
  abbrev d : ℕ
  d = sender_of r.plan (entry_at r n) (entry_at r n).act

  -- the cells that the message carries
  abbrev cells : List Cell
  cells = carried r.plan (split_of layout) (entry_at r n) (entry_at r n).act from to

  -- up to the first overflow the sender's own cell holds the grids' number
  sent_grid : (is : IsDomain r.plan d) → IsUpToOverflow r n → (c : Cell) → IsSent r.plan (split_of layout) d from c → memory_point r.plan d (memory_at r layout n d from) c ≡ grid_cell r.plan d (grids_at r n) c
  sent_grid is up c s =
      let room = room_of r.plan layout a.laid d is in
      own_right r layout a.sound a.laid a.covered d n from c.field c.k (pos (point_y r.plan d c.field c.j)) (pos (point_x r.plan d c.field c.i)) is up.within (clean_up_to r n up) hq s.low s.high s.own
      ∙ (λ m. grids_at r n d c.field c.k (back_y r.plan (split_of layout) d room c.field c.j c.i s.place m) (back_x r.plan (split_of layout) d room c.field c.j c.i s.place m))

  -- past it the message's number is that of the owner, who is the sender
  sent_patch : (is : IsDomain r.plan d) (c : Cell) → IsSent r.plan (split_of layout) d from c → memory_point r.plan d (memory_at r layout n d from) c ≡ grid_cell r.plan d (grids_in_patches r layout n) c
  sent_patch is c s =
      let room = room_of r.plan layout a.laid d is in
      ap (λ (q : ℕ). memory_point r.plan d (memory_at r layout n d q) c) (owner_is r.plan (split_of layout) d room c from hq s.place s.own)

  -- no message, or one from a domain of the plan
  sent_cell : (is : IsDomain r.plan d) (c : Cell) → In c cells → IsSent r.plan (split_of layout) d from c
  sent_cell is c h = carried_sent r.plan (split_of layout) (entry_at r n) (entry_at r n).act (room_of r.plan layout a.laid d is) from to c hq h

  -- so a message has the grids' numbers up to the first overflow
  grids_sent : IsUpToOverflow r n → IsDomain r.plan d → map (memory_point r.plan d (memory_at r layout n d from)) cells ≡ map (grid_cell r.plan d (grids_at r n)) cells
  grids_sent up is = map-same (memory_point r.plan d (memory_at r layout n d from)) (grid_cell r.plan d (grids_at r n)) cells (λ c h. sent_grid is up c (sent_cell is c h))

  -- and the message's numbers at each place
  numbers_sent : IsDomain r.plan d → map (memory_point r.plan d (memory_at r layout n d from)) cells ≡ map (grid_cell r.plan d (numbers_at r layout n)) cells
  unfolding numbers_at
  numbers_sent is =
      ⊎_elim
      (λ past. map-same (memory_point r.plan d (memory_at r layout n d from)) (grid_cell r.plan d (grids_in_patches r layout n)) cells (λ c h. sent_patch is c (sent_cell is c h))
      ∙ ap (λ b. map (grid_cell r.plan d (if b then grids_in_patches r layout n else grids_at r n)) cells) (sym past))
      (λ past. grids_sent (record { within = omega (arith, within); before = past }) is
      ∙ ap (λ b. map (grid_cell r.plan d (if b then grids_in_patches r layout n else grids_at r n)) cells) (sym past))
      (split_bool (stands_past n (outcome_of r)))

-- no cells have no numbers
map_none : {X Y : Type 0} (f g : X → Y) (xs : List X) → xs ≡ [] → map f xs ≡ map g xs
map_none f g xs e = ap (map f) e ∙ sym (ap (map g) e)

-- senders send the messages' numbers
pub senders_send : SendersSendTheNumbers
unfolding message_numbers
senders_send r layout n from to a within hq =
    ⊎_elim (λ is. numbers_sent r layout a n within from to hq is) (λ none. map_none _ _ _ none) (sender_domain r layout a.sound a.laid a.covered n within from to)

-- which are the grids' up to the first overflow
pub carry_grids : MessagesCarryTheGridsNumbers
carry_grids r layout n from to a within up hq =
    ⊎_elim (λ is. grids_sent r layout a n within from to hq up is) (λ none. map_none _ _ _ none) (sender_domain r layout a.sound a.laid a.covered n within from to)

-- what comes to a patch are the messages to it
pub received_messages : ReceivedAreTheMessages
received_messages r layout n to a within =
    flat_map-same _ _ (senders_to r.plan (split_of layout) (entry_at r n) to)
    (λ q i. let t = In-filter_out (λ (x : ℕ). is_expected r.plan (split_of layout) (entry_at r n) x to) q (patches_of (split_of layout)) i in
    let b = In-range_out q 0 (layout.nproc_x * layout.nproc_y) t.0 in
    ap (zip (carried r.plan (split_of layout) (entry_at r n) (entry_at r n).act q to)) (senders_send r layout n q to a within (omega (arith, b.1))))
