-- A patch by its numbers, and as a member of the lists of domains and patches.
use Rattle.std.proofs.Common.{◌≡◌, inl, inr, ℕ, zero, suc, ◌+◌, ◌*◌, ◌<◌, ◌≤◌, ◌==◌, true, length, Some, arith}
use Rattle.std.specs.Prelude.{slice_get}
use Rattle.std.specs.List.{list_any, range_with_len}
use Rattle.std.proofs.lemmas.Bool.{eq-eqb, eqb-true}
use Rattle.wf_model.specs.declared.layout.Layout.{Layout}
use Rattle.wf_model.specs.declared.script.Entry.{Entry}
use Rattle.wf_model.specs.Outcome.{RunData, script}
use Rattle.wf_model.specs.Patches.{split_of, patches_of}
use Rattle.wf_model.specs.Exchange.{is_expected}
use Rattle.wf_laws.proofs.Bools.{or_left, or_right}
use Rattle.wf_model.specs.Agreement.{IsPatch}
use Rattle.wf_core_laws.specs.Patches.{IsDomainPatch, IsMessage}
use Rattle.wf_core_laws.proofs.Places.{lt_or_le}
use Rattle.wf_core_laws.proofs.Members.{Has, or_parts}
use Rattle.wf_core_laws.proofs.Progress.{There}

-- a number of a range is one of its list
pub has-range : (a n k : ℕ) → a ≤ k → k < a + n → Has (range_with_len a n) k
has-range a zero k low high = absurd (omega (arith, low, high))
has-range a (suc n) k low high =
    elim (lt_or_le a k) [
      | inl w ↦ or_right (a == k) _ (has-range (a + 1) n k (omega (arith, w)) (omega (arith, high)))
      | inr w ↦ or_left (a == k) (list_any (λ x. x == k) (range_with_len (a + 1) n)) (eq-eqb a k (omega (arith, low, w)))
    ]

-- and each of the list is a number of the range
pub range-has : (a n k : ℕ) → Has (range_with_len a n) k → (a ≤ k) × (k < a + n)
range-has a zero k h = absurd (cc (h))
range-has a (suc n) k h =
    elim (or_parts (a == k) (list_any (λ x. x == k) (range_with_len (a + 1) n)) h) [
      | inl e ↦ let w : a ≡ k = eqb-true a k e in (omega (arith, w), omega (arith, w))
      | inr e ↦ let r = range-has (a + 1) n k e in (omega (arith, r.0), omega (arith, r.1))
    ]

module _ (r : RunData) (layout : Layout) (d p : ℕ) where
  -- a patch by its numbers is one of the lists
  pub there_of : IsDomainPatch r.plan layout d p → There r layout d p
  there_of is = record {
    domain = has-range 1 (length (r.plan).domains) d ((is.domain).0) (omega (arith, (is.domain).1));
    patch = has-range 0 (layout.nproc_x * layout.nproc_y) p (omega arith) (omega (arith, is.patch));
  }

  -- and one of the lists has its numbers
  pub patch_of : There r layout d p → IsDomainPatch r.plan layout d p
  patch_of at =
      let dom = range-has 1 (length (r.plan).domains) d at.domain in
      let pat = range-has 0 (layout.nproc_x * layout.nproc_y) p at.patch in
      record { domain = (dom.0, omega (arith, dom.1)); patch = omega (arith, pat.1) }

-- a message, by its two patches as members of the list of patches
pub message_of : (r : RunData) (layout : Layout) (k : ℕ) (e : Entry) (q p : ℕ) → slice_get (script r) k ≡ Some e → is_expected r.plan (split_of layout) e q p ≡ true
    → Has (patches_of (split_of layout)) q → Has (patches_of (split_of layout)) p → IsMessage r layout k e q p
message_of r layout k e q p entry cells from to =
    let f = range-has 0 (layout.nproc_x * layout.nproc_y) q from in
    let t = range-has 0 (layout.nproc_x * layout.nproc_y) p to in
    record { entry = entry; cells = cells; from = omega (arith, f.1); to = omega (arith, t.1) }

-- a patch of the layout is one of the list of patches
pub patch_has : (layout : Layout) (p : ℕ) → IsPatch layout p → Has (patches_of (split_of layout)) p
patch_has layout p h = has-range 0 (layout.nproc_x * layout.nproc_y) p (omega arith) (omega (arith, h))
