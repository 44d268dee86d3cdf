use Rattle.std.proofs.Common.{◌≡◌, ℕ, ◌+◌, ◌≤◌, ◌<◌, List, ◌++◌, length, get_or, take, flat_map, sym, ap, subst, ◌∙◌, All, arith}
use Rattle.std.proofs.lemmas.List.{take_all}
use Rattle.std.specs.Prelude.{true}
use Rattle.wf_model.specs.declared.plan.PeriodPart.{PeriodPart}
use Rattle.wf_model.specs.Patches.{Cell}
use Rattle.wf_field.specs.Kept.{Keeps}
use Rattle.wf_halo.specs.Exchange.{brought}
use Rattle.wf_halo.specs.Parts.{around}
use Rattle.wf_halo.proofs.Taking.{used_fits, sum_fits, rest_long, used_more, taken_more, same_both, flat_each, all_of, keeps_still}
use Rattle.wf_halo.proofs.receiving.unpack_periods.Goals as goal

pub behind-rest-requires : goal.behind-rest-requires
behind-rest-requires g c =
    let a = c.args in
    let r = g.N.RunName.run in
    let layout = g.N.RunName.layout in
    let b = a.between in
    let xs = a.parts.now in
    let none : PeriodPart = record { field = 0; width = 0 } in
    let x = get_or xs c.loop-part.part-index none in
    let F : PeriodPart → List Cell = (λ (x : PeriodPart). brought r.plan layout b true (around x)) in
    let L : ℕ → List Cell = λ n. flat_map F (take n xs) in
    let R : ℕ → List Cell = λ n. F (get_or xs n none) in
    let step : (n : ℕ) → n < length xs → L (n + 1) ≡ L n ++ R n = λ n h. flat_each F xs n none h in
    let whole : take (length xs) xs ≡ xs = take_all (length xs) xs (omega arith) in
    let long : length (L (length xs)) ≤ length a.values.now = subst (λ (ys : List PeriodPart). length (flat_map F ys) ≤ length a.values.now) (sym whole) c.requires.long in
    used_fits L R (length xs) step a.values.now long c.loop-part.part-index c.loop-part.used c.loop-part-test.true c.loop-part.invariant.used

pub unpack_one-used-requires-clause-kept : goal.unpack_one-used-requires-clause-kept
unpack_one-used-requires-clause-kept g c =
    let a = c.args in
    let r = g.N.RunName.run in
    let layout = g.N.RunName.layout in
    let b = a.between in
    let xs = a.parts.now in
    let none : PeriodPart = record { field = 0; width = 0 } in
    let x = get_or xs c.loop-part.part-index none in
    let F : PeriodPart → List Cell = (λ (x : PeriodPart). brought r.plan layout b true (around x)) in
    let L : ℕ → List Cell = λ n. flat_map F (take n xs) in
    let R : ℕ → List Cell = λ n. F (get_or xs n none) in
    let step : (n : ℕ) → n < length xs → L (n + 1) ≡ L n ++ R n = λ n h. flat_each F xs n none h in
    let whole : take (length xs) xs ≡ xs = take_all (length xs) xs (omega arith) in
    let long : length (L (length xs)) ≤ length a.values.now = subst (λ (ys : List PeriodPart). length (flat_map F ys) ≤ length a.values.now) (sym whole) c.requires.long in
    let here : F x ≡ brought r.plan layout b true c.around.result = ap (brought r.plan layout b true) (sym c.around.ensures) in
    subst (λ (cs : List Cell). All (Keeps r.plan layout c.loop-part.memory) cs) here (keeps_still r.plan layout a.memory.now c.loop-part.memory (F x) c.loop-part.invariant.same (all_of (Keeps r.plan layout a.memory.now) F xs c.loop-part.part-index none c.loop-part-test.true c.requires.kept))

pub unpack_one-used-requires-clause-long : goal.unpack_one-used-requires-clause-long
unpack_one-used-requires-clause-long g c =
    let a = c.args in
    let r = g.N.RunName.run in
    let layout = g.N.RunName.layout in
    let b = a.between in
    let xs = a.parts.now in
    let none : PeriodPart = record { field = 0; width = 0 } in
    let x = get_or xs c.loop-part.part-index none in
    let F : PeriodPart → List Cell = (λ (x : PeriodPart). brought r.plan layout b true (around x)) in
    let L : ℕ → List Cell = λ n. flat_map F (take n xs) in
    let R : ℕ → List Cell = λ n. F (get_or xs n none) in
    let step : (n : ℕ) → n < length xs → L (n + 1) ≡ L n ++ R n = λ n h. flat_each F xs n none h in
    let whole : take (length xs) xs ≡ xs = take_all (length xs) xs (omega arith) in
    let long : length (L (length xs)) ≤ length a.values.now = subst (λ (ys : List PeriodPart). length (flat_map F ys) ≤ length a.values.now) (sym whole) c.requires.long in
    let here : F x ≡ brought r.plan layout b true c.around.result = ap (brought r.plan layout b true) (sym c.around.ensures) in
    subst (λ (cs : List Cell). length cs ≤ length c.behind-rest.result.now) here (rest_long L R (length xs) step a.values.now long c.loop-part.part-index c.loop-part.used c.loop-part-test.true c.loop-part.invariant.used c.behind-rest.result.now c.behind-rest.ensures)

pub overflow_add-used : goal.overflow_add-used
overflow_add-used g c =
    let a = c.args in
    let r = g.N.RunName.run in
    let layout = g.N.RunName.layout in
    let b = a.between in
    let xs = a.parts.now in
    let none : PeriodPart = record { field = 0; width = 0 } in
    let x = get_or xs c.loop-part.part-index none in
    let F : PeriodPart → List Cell = (λ (x : PeriodPart). brought r.plan layout b true (around x)) in
    let L : ℕ → List Cell = λ n. flat_map F (take n xs) in
    let R : ℕ → List Cell = λ n. F (get_or xs n none) in
    let step : (n : ℕ) → n < length xs → L (n + 1) ≡ L n ++ R n = λ n h. flat_each F xs n none h in
    let whole : take (length xs) xs ≡ xs = take_all (length xs) xs (omega arith) in
    let long : length (L (length xs)) ≤ length a.values.now = subst (λ (ys : List PeriodPart). length (flat_map F ys) ≤ length a.values.now) (sym whole) c.requires.long in
    let here : F x ≡ brought r.plan layout b true c.around.result = ap (brought r.plan layout b true) (sym c.around.ensures) in
    let is : c.unpack_one-used.result ≡ length (R c.loop-part.part-index) = c.unpack_one-used.ensures.used ∙ ap (λ (cs : List Cell). length cs) (sym here) in
    let fits = sum_fits L R (length xs) step a.values.now long c.loop-part.part-index c.loop-part.used c.loop-part-test.true c.loop-part.invariant.used in
    omega (arith, fits, is)

pub loop-part-preserved : goal.loop-part-preserved
loop-part-preserved g c =
    let a = c.args in
    let r = g.N.RunName.run in
    let layout = g.N.RunName.layout in
    let b = a.between in
    let xs = a.parts.now in
    let none : PeriodPart = record { field = 0; width = 0 } in
    let x = get_or xs c.loop-part.part-index none in
    let F : PeriodPart → List Cell = (λ (x : PeriodPart). brought r.plan layout b true (around x)) in
    let L : ℕ → List Cell = λ n. flat_map F (take n xs) in
    let R : ℕ → List Cell = λ n. F (get_or xs n none) in
    let step : (n : ℕ) → n < length xs → L (n + 1) ≡ L n ++ R n = λ n h. flat_each F xs n none h in
    let whole : take (length xs) xs ≡ xs = take_all (length xs) xs (omega arith) in
    let long : length (L (length xs)) ≤ length a.values.now = subst (λ (ys : List PeriodPart). length (flat_map F ys) ≤ length a.values.now) (sym whole) c.requires.long in
    let here : F x ≡ brought r.plan layout b true c.around.result = ap (brought r.plan layout b true) (sym c.around.ensures) in
    record {
      used = used_more L R (length xs) step a.values.now long c.loop-part.part-index c.loop-part.used c.loop-part-test.true c.loop-part.invariant.used c.unpack_one-used.result (c.unpack_one-used.ensures.used ∙ ap (λ (cs : List Cell). length cs) (sym here));
      same = same_both a.memory.now c.loop-part.memory c.unpack_one-used.new.memory c.loop-part.invariant.same c.unpack_one-used.ensures.same;
      set = taken_more r.plan layout a.values.now c.behind-rest.result.now c.loop-part.used (L c.loop-part.part-index) (brought r.plan layout b true c.around.result) (L (c.loop-part.part-index + 1)) a.memory.now c.loop-part.memory c.unpack_one-used.new.memory
          (step c.loop-part.part-index c.loop-part-test.true ∙ ap (λ (cs : List Cell). L c.loop-part.part-index ++ cs) here) c.loop-part.invariant.used c.behind-rest.ensures c.loop-part.invariant.same c.loop-part.invariant.set c.unpack_one-used.ensures.set;
    }
