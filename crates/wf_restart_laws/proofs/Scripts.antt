-- The script of a run that goes on, step by step.
use Rattle.std.proofs.Common.{◌≡◌, ℕ, zero, suc, ◌+◌, ◌-◌, List, [], ◌∷◌, ◌++◌, refl, sym, ap, ◌∙◌, arith, append_assoc}
use Rattle.std.proofs.lemmas.List.Concat.{flat_map-append}
use Rattle.std.specs.Prelude.{flat_map, if◌then◌else◌}
use Rattle.std.specs.List.{range_with_len}
use Rattle.wf_model.specs.declared.script.Entry.{Entry}
use Rattle.wf_model.specs.Plans.{begin_of}
use Rattle.wf_model.specs.Script.{script_of, start_frames}
use Rattle.wf_model.specs.Continued.{first_steps}
use Rattle.wf_restart_laws.specs.Shifted.{step_entries, ScriptsSplitAfterSteps}

-- a range in two parts
pub range-split : (a m n : ℕ) → range_with_len a (m + n) ≡ range_with_len a m ++ range_with_len (a + m) n
range-split a zero n = let none : 0 + n ≡ n = omega arith in let same : a + 0 ≡ a = omega arith in rw (none, same) refl
range-split a (suc m) n =
    ap (range_with_len a) (moved_out m n)
    ∙ ap (λ (ks : List ℕ). a ∷ ks) (range-split (a + 1) m n ∙ ap (λ (k : ℕ). range_with_len (a + 1) m ++ range_with_len k n) (moved_in a m))
  where
    moved_out : (m n : ℕ) → suc m + n ≡ suc (m + n)
    moved_out m n = omega arith

    moved_in : (a m : ℕ) → a + 1 + m ≡ a + suc m
    moved_in a m = omega arith

-- a range from further on
flat_map-moved : {X : Type 0} (f : ℕ → List X) (b a n : ℕ) → flat_map f (range_with_len (b + a) n) ≡ flat_map (λ k. f (b + k)) (range_with_len a n)
flat_map-moved f b a zero = refl
flat_map-moved f b a (suc n) = ap (λ (ys : List _). f (b + a) ++ ys) (ap (λ k. flat_map f (range_with_len k n)) (moved b a) ∙ flat_map-moved f b (a + 1) n)
  where
    moved : (b a : ℕ) → b + a + 1 ≡ b + (a + 1)
    moved b a = omega arith

-- the first steps and the others
pub split : ScriptsSplitAfterSteps
unfolding script_of first_steps
split r m within =
    let start : List Entry = if (begin_of r.initial.begins 1).resumed then [] else start_frames r.plan r.initial.begins 1 0 in
    let whole : m + (r.plan.steps - m) ≡ r.plan.steps = omega (arith, within) in
    ap (λ (ys : List Entry). start ++ ys)
    (ap (λ n. flat_map (step_entries r) (range_with_len 0 n)) (sym whole)
    ∙ ap (flat_map (step_entries r)) (range-split 0 m (r.plan.steps - m))
    ∙ flat_map-append (step_entries r) (range_with_len 0 m) (range_with_len (0 + m) (r.plan.steps - m))
    ∙ ap (λ (ys : List Entry). flat_map (step_entries r) (range_with_len 0 m) ++ ys)
    (ap (λ k. flat_map (step_entries r) (range_with_len k (r.plan.steps - m))) (zero_left m) ∙ flat_map-moved (step_entries r) m 0 (r.plan.steps - m)))
    ∙ sym (append_assoc start (flat_map (step_entries r) (range_with_len 0 m)) (flat_map (λ n. step_entries r (m + n)) (range_with_len 0 (r.plan.steps - m))))
  where
    zero_left : (m : ℕ) → 0 + m ≡ m + 0
    zero_left m = omega arith
