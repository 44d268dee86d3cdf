-- Overflow in patches: which point a patch names at a place.
use Rattle.std.specs.Prelude.{◌≡◌, ℕ, ◌<◌, length, map, flat_map, zip, find, Option, Some, None}
use Rattle.std.specs.Prelude.{Err, option_map, IsTrue}
use Rattle.std.specs.Option.{option_or}
use Rattle.std.specs.List.{list_any, Contains}
use Rattle.wf_model.specs.declared.layout.Layout.{Layout}
use Rattle.wf_model.specs.declared.plan.Plan.{Plan}
use Rattle.wf_model.specs.declared.script.Act.{Act}
use Rattle.wf_model.specs.declared.script.Entry.{Entry}
use Rattle.wf_model.specs.Changes.{Change, Spot, spots, overflows_at, overflow_in}
use Rattle.wf_model.specs.Outcome.{RunData, Overflow, script, entry_at, grids_at, change_of}
use Rattle.wf_model.specs.Outcome.{point_of, outcome_of}
use Rattle.wf_model.specs.Patches.{Split, split_of, owner_of, patches_of}
use Rattle.wf_model.specs.Exchange.{sender_of, receiver_of, carried, senders_to}
use Rattle.wf_model.specs.PatchEffect.{Memory, Mail, computing, taking, least_failure}
use Rattle.wf_model.specs.Core.{memory_point}
use Rattle.wf_model.specs.Agreement.{IsAccepted, IsUpToOverflow, IsPatch, memory_at}
use Rattle.wf_model.specs.LeastStop.{is_named, domain_at}

-- the memories of all patches, by domain and patch
abbrev pub Memories : Type 0
Memories = ℕ → ℕ → Memory

-- the cells and numbers of all messages to a patch, from the senders' memories
abbrev pub mail_from : Plan → Split → Entry → Act → (ℕ → Memory) → ℕ → Mail
mail_from plan split e act ms to =
    flat_map (λ q. zip (carried plan split e act q to)
    (map (memory_point plan (sender_of plan e act) (ms q)) (carried plan split e act q to)))
    (senders_to plan split e to)

-- all that comes to a patch at a place, from the senders' memories before it
abbrev pub received_at : RunData → Layout → ℕ → ℕ → Mail
received_at r layout n p =
    mail_from r.plan (split_of layout) (entry_at r n) (entry_at r n).act
    (memory_at r layout n (sender_of r.plan (entry_at r n) (entry_at r n).act)) p

-- the least point that overflows in what a patch computes at an entry
abbrev pub overflow_computed : RunData → Split → Entry → Memories → ℕ → Option Spot
overflow_computed r split e ms p =
    least_failure r.plan split e.domain p (computing r split e e.act p (ms e.domain p))

-- the least point that overflows in what it makes of its mail
abbrev pub overflow_taken : RunData → Split → Entry → Memories → ℕ → Option Spot
overflow_taken r split e ms p =
    let d : ℕ = receiver_of r.plan e e.act in
    least_failure r.plan split d p (taking r split e e.act p
    (mail_from r.plan split e e.act (ms (sender_of r.plan e e.act)) p) (ms d p))

-- the point that a patch names at a place, from the memories of the lockstep run before it
abbrev pub named_at : RunData → Layout → ℕ → ℕ → Option Spot
named_at r layout n p =
    option_or (overflow_computed r (split_of layout) (entry_at r n) (memory_at r layout n) p)
    (overflow_taken r (split_of layout) (entry_at r n) (memory_at r layout n) p)

-- what the item at a place does to the grids
abbrev pub change_at : RunData → ℕ → Change
change_at r n = change_of r (grids_at r n) (entry_at r n)

-- what a patch names overflows
abbrev pub NamedPointsOverflow : Type 0
NamedPointsOverflow =
    (r : RunData) (layout : Layout) (n p : ℕ) (x : Spot) → IsAccepted r layout →
    IsUpToOverflow r n → n < length (script r) → IsPatch layout p →
    named_at r layout n p ≡ Some x →
    Contains (spots r.plan (domain_at r n)) x × IsTrue (overflows_at (change_at r n) x)

-- the owner of the least point that overflows names it
abbrev pub OwnersNameTheLeastPoint : Type 0
OwnersNameTheLeastPoint =
    (r : RunData) (layout : Layout) (n : ℕ) (x : Spot) → IsAccepted r layout → IsUpToOverflow r n →
    n < length (script r) → overflow_in r.plan (change_at r n) ≡ Some x →
    named_at r layout n (owner_of r.plan (split_of layout) (domain_at r n) x.field x.j x.i) ≡ Some x

-- the first point, by level, k, j and i, that some patch names
abbrev pub least_named : RunData → Layout → ℕ → Option Spot
least_named r layout n =
    find (λ x. list_any (λ p. is_named x (named_at r layout n p)) (patches_of (split_of layout)))
    (spots r.plan (domain_at r n))

-- it is the first point that overflows, and no patch names a point where none does
abbrev pub LeastNamedIsTheOverflow : Type 0
LeastNamedIsTheOverflow =
    (r : RunData) (layout : Layout) (n : ℕ) → IsAccepted r layout → IsUpToOverflow r n →
    n < length (script r) → least_named r layout n ≡ overflow_in r.plan (change_at r n)

-- before the first overflow no patch names a point
abbrev pub NoPatchNamesAPointBefore : Type 0
NoPatchNamesAPointBefore =
    (r : RunData) (layout : Layout) (n m p : ℕ) → IsAccepted r layout → IsUpToOverflow r n → m < n →
    IsPatch layout p → named_at r layout m p ≡ None

-- and at its place the least point that a patch names is the outcome's
abbrev pub OutcomeIsTheLeastNamed : Type 0
OutcomeIsTheLeastNamed =
    (r : RunData) (layout : Layout) (o : Overflow) → IsAccepted r layout → outcome_of r ≡ Err o →
    option_map (point_of (change_at r o.place) (entry_at r o.place))
    (least_named r layout o.place) ≡ Some o.point
