-- The laws of patches: what they hold, read and compute up to the first overflow.
use Rattle.std.proofs.Common.{ℕ, sym, subst, ◌∙◌, arith}
use Rattle.wf_model.specs.declared.layout.Layout.{Layout}
use Rattle.wf_model.specs.Outcome.{RunData, entry_at, grids_at}
use Rattle.wf_model.specs.Patches.{split_of}
use Rattle.wf_model.specs.PatchEffect.{Memory}
use Rattle.wf_model.specs.Marks.{all_fresh, marks_after}
use Rattle.wf_model.specs.Sound.{IsDomain}
use Rattle.wf_model.specs.Turns.{turns_at}
use Rattle.wf_model.specs.Agreement.{IsAccepted, IsUpToOverflow, IsPatch, memory_at}
use Rattle.wf_laws.specs.Patches.{NoPatchStops, MailIsOfEarlierPlaces, OwnCellsHoldTheGrids, FreshCellsHoldTheGrids, PhasesReadFreshCells, PatchesComputeTheGridsValues}
use Rattle.wf_laws.proofs.Members.{Contains-In}
use Rattle.wf_laws.proofs.FirstOverflow.{clean_up_to}
use Rattle.wf_laws.proofs.HalvesBefore.{count_is}
use Rattle.wf_laws.proofs.Right.{AreRight, read_reaches, computed_value}
use Rattle.wf_laws.proofs.AllDomains.{rooms}
use Rattle.wf_laws.proofs.WholeRun.{stand, own_right, fresh_right, domain_right, memory_is, phase_ready}

-- no patch stops
pub no_stop : NoPatchStops
no_stop r layout n d p a up is hp =
    let s = (stand r layout a.sound a.laid a.covered n up.within (clean_up_to r n up)).patches d p is.0 (omega (arith, is.1)) hp in
    record { done = s.count ∙ count_is r d n; going = s.going }

-- the mail is of earlier places
pub mail_before : MailIsOfEarlierPlaces
mail_before r layout n l a up i = (stand r layout a.sound a.laid a.covered n up.within (clean_up_to r n up)).mail l (Contains-In l _ i)

-- own cells hold the grids' numbers
pub own_hold : OwnCellsHoldTheGrids
own_hold r layout n d p c a up is hp own =
    own_right r layout a.sound a.laid a.covered d n p c.field c.k c.j c.i is up.within (clean_up_to r n up) hp own.level.0 own.level.1 own.own

-- fresh cells do
pub fresh_hold : FreshCellsHoldTheGrids
fresh_hold r layout n d p c a up is hp within fresh =
    fresh_right r layout a.sound a.laid a.covered d n p c.field c.k c.j c.i is up.within (clean_up_to r n up) hp within.level.0 within.level.1 within.within fresh

-- what a phase reads is fresh
pub read_fresh_cells : PhasesReadFreshCells
unfolding entry_at
read_fresh_cells r layout n p ph rd k j i a hp at t c =
    let ready = phase_ready r layout a.sound a.laid a.covered n p at.number ph at.within hp at.act at.phase in
    let d : ℕ = (entry_at r n).domain in
    let there = read_reaches r (split_of layout) d (rooms r layout a.sound a.laid a.covered d ready.domain) ready.domain p hp ph (marks_after r.plan (split_of layout) d p (turns_at r d n) all_fresh) ready.phase ready.fresh k j i c rd (Contains-In rd _ t) in
    (record { level = there.0; within = there.1 }, ready.fresh.fresh k j i c rd (Contains-In rd _ t))

-- a patch's memory in the lockstep run holds the grids' numbers where it is fresh
pub memory_right : (r : RunData) (layout : Layout) (a : IsAccepted r layout) (n d p : ℕ) → IsUpToOverflow r n → IsDomain r.plan d → IsPatch layout p →
    AreRight r.plan (split_of layout) d p (marks_after r.plan (split_of layout) d p (turns_at r d n) all_fresh) (grids_at r n) (memory_at r layout n d p)
memory_right r layout a n d p up is hp =
    subst (λ (m : Memory). AreRight r.plan (split_of layout) d p (marks_after r.plan (split_of layout) d p (turns_at r d n) all_fresh) (grids_at r n) m)
    (sym (memory_is r layout a.sound a.laid a.covered d n p is up.within (clean_up_to r n up) hp))
    ((domain_right r layout a.sound a.laid a.covered d n is).right p hp)

-- a patch computes the grids' values
pub computes_values : PatchesComputeTheGridsValues
unfolding entry_at
computes_values r layout n p ph k j i a up hp at c =
    let ready = phase_ready r layout a.sound a.laid a.covered n p at.number ph at.within hp at.act at.phase in
    let d : ℕ = (entry_at r n).domain in
    computed_value r (split_of layout) d (rooms r layout a.sound a.laid a.covered d ready.domain) ready.domain p (entry_at r n).step hp ph (marks_after r.plan (split_of layout) d p (turns_at r d n) all_fresh) (grids_at r n) (memory_at r layout n d p)
    ready.phase (memory_right r layout a n d p up ready.domain hp) ready.fresh k j i c
