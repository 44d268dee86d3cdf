-- What is set by the lists is what is set by the function that they hold.
use Rattle.std.proofs.Common.{ℕ, List, refl}
use Rattle.std.specs.Prelude.{ℤ}
use Rattle.wf_model.specs.declared.plan.Plan.{Plan}
use Rattle.wf_model.specs.Patches.{Split, split_of, kept_at}
use Rattle.wf_model.specs.Exchange.{receiver_of}
use Rattle.wf_model.specs.PatchEffect.{Memory, Setting, after_setting, computing, taking}
use Rattle.wf_model.specs.Kept.{SetAlike, ShowsMemory}
use Rattle.wf_patch_laws.specs.Shown.{SetsAsShown, ListsComputeAsTheMemory, ListsTakeAsTheMemory}
use Rattle.wf_patch_laws.proofs.AlikeSettings.{compute_alike, take_alike, failure_alike, leave_alike}
use Rattle.wf_patch_laws.proofs.KeptLists.{settings_shown, shown_alike}

module _ (plan : Plan) (split : Split) (d p : ℕ) (half : Memory → Setting) (lists : List (List ℤ)) (m : Memory) (shows : ShowsMemory plan split d p lists m) where
  -- the function that reads the lists
  abbrev read : Memory
  read = kept_at plan split d p lists

  -- lists hold the function that reads them
  read_shown : ShowsMemory plan split d p lists read
  read_shown = record { levels = shows.levels; sizes = shows.sizes; holds = λ c h. refl }

  -- what is set alike is shown
  set_shown : SetAlike plan split d p (half read) (half m) → SetsAsShown plan split d p half lists m
  set_shown same = record {
    failure = failure_alike plan split d p (half read) (half m) same;
    shown = λ new exact.
        (shown_alike plan split d p new (after_setting (half read) read) (after_setting (half m) m) (settings_shown plan split d p (half read) lists new read read_shown exact)).shown
        (leave_alike plan split d p (half read) (half m) read m same shows.holds);
  }

-- the law on computing
pub compute_shown : ListsComputeAsTheMemory
compute_shown r layout e p lists m is shows =
    set_shown r.plan (split_of layout) e.domain p (computing r (split_of layout) e e.act p) lists m shows
    (compute_alike r layout e p (kept_at r.plan (split_of layout) e.domain p lists) m is shows.holds)

-- the law on taking
pub take_shown : ListsTakeAsTheMemory
take_shown r split e p mail lists m shows =
    set_shown r.plan split (receiver_of r.plan e e.act) p (taking r split e e.act p mail) lists m shows
    (take_alike r split e p mail (kept_at r.plan split (receiver_of r.plan e e.act) p lists) m shows.holds)
