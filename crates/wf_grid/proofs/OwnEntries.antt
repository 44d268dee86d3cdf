-- The script of one domain has items of the table and frames alone.
use Rattle.std.proofs.Common.{◌≡◌, ℕ, zero, suc, ◌+◌, ◌*◌, ◌<◌, ◌≤◌, Bool, true, false, List, [], ◌∷◌, ◌++◌, map, length, get_or, refl, sym, subst, arith}
use Rattle.std.specs.Prelude.{flat_map, filter, ◌==◌, ◌||◌, if◌then◌else◌, nat_lt}
use Rattle.std.specs.List.{range_with_len}
use Rattle.wf_model.specs.declared.plan.Plan.{Plan}
use Rattle.wf_model.specs.declared.initial.Begin.{Begin}
use Rattle.wf_model.specs.declared.script.Act.{Act}
use Rattle.wf_model.specs.declared.script.Act.TheVariants.{Start, Force, Feedback, Table, Emit}
use Rattle.wf_model.specs.declared.script.Entry.{Entry}
use Rattle.wf_model.specs.Plans.{domain_of, begin_of, children, domains_of, up_to}
use Rattle.wf_model.specs.Script.{entry, step_of, script_of, steps_by, begin_time, start_frames, due_frames, restart_frames, restart_stream, table, is_due, interval}
use Rattle.wf_model.specs.Outcome.{RunData, script, entry_at, no_entry}
use Rattle.wf_grid.proofs.WholeScript.{childless}

-- ---- each of a list

abbrev pub Every : {X : Type 0} → (X → Type 0) → List X → Type 0
Every P [] = Unit {0}
Every P (x ∷ xs) = P x × Every P xs

every-append : {X : Type 0} (P : X → Type 0) (xs ys : List X) → Every P xs → Every P ys → Every P (xs ++ ys)
every-append P [] ys p q = q
every-append P (x ∷ xs) ys p q = (p.0, every-append P xs ys p.1 q)

every-map : {X Y : Type 0} (P : X → Type 0) (Q : Y → Type 0) (f : X → Y) (xs : List X) → Every P xs → ((x : X) → P x → Q (f x)) → Every Q (map f xs)
every-map P Q f [] p h = tt
every-map P Q f (x ∷ xs) p h = (h x p.0, every-map P Q f xs p.1 h)

every-if : {X : Type 0} (P : X → Type 0) (b : Bool) (x : X) (xs : List X) → P x → Every P xs → Every P (if b then x ∷ xs else xs)
every-if P true x xs p ps = (p, ps)
every-if P false x xs p ps = ps

every-filter : {X : Type 0} (P : X → Type 0) (test : X → Bool) (xs : List X) → Every P xs → Every P (filter test xs)
every-filter P test [] p = tt
every-filter P test (x ∷ xs) p = every-if P (test x) x (filter test xs) p.0 (every-filter P test xs p.1)

every-flat : {X Y : Type 0} (Q : Y → Type 0) (f : X → List Y) (xs : List X) → ((x : X) → Every Q (f x)) → Every Q (flat_map f xs)
every-flat Q f [] h = tt
every-flat Q f (x ∷ xs) h = every-append Q (f x) (flat_map f xs) (h x) (every-flat Q f xs h)

every-range : (a n m : ℕ) → a + n ≤ m → Every (λ k. k < m) (range_with_len a n)
every-range a zero m h = tt
every-range a (suc n) m h = (omega (arith, h), every-range (a + 1) n m (omega (arith, h)))

every-at : {X : Type 0} (P : X → Type 0) (xs : List X) (n : ℕ) (d : X) → Every P xs → n < length xs → P (get_or xs n d)
every-at P [] n d p h = absurd (omega (arith, h))
every-at P (x ∷ xs) zero d p h = p.0
every-at P (x ∷ xs) (suc n) d p h = every-at P xs n d p.1 (omega (arith, h))

-- ---- entries

-- an item of the table, or a frame of a stream
abbrev pub IsOwnAct : Plan → Act → Type 0
IsOwnAct plan Start = ⊥
IsOwnAct plan Force = ⊥
IsOwnAct plan Feedback = ⊥
IsOwnAct plan (Table n) = n < length plan.items
IsOwnAct plan (Emit s) = s ≤ 10

-- an item of domain 1
pub record IsOwnEntry (plan : Plan) (e : Entry) : Type 0 where
  pub domain : e.domain ≡ 1
  pub act : IsOwnAct plan e.act

module _ (plan : Plan) (begins : List Begin) (one : length plan.domains ≡ 1) where
  abbrev AreOwn : List Entry → Type 0
  AreOwn es = Every (IsOwnEntry plan) es

  -- frames of the streams that a test picks
  frames-own : (test : ℕ → Bool) (step t : ℕ) → AreOwn (map (λ s. entry 1 step t (Emit s)) (filter test (range_with_len 0 10)))
  frames-own test step t =
      every-map (λ s. s < 10) (IsOwnEntry plan) (λ s. entry 1 step t (Emit s)) (filter test (range_with_len 0 10)) (every-filter (λ s. s < 10) test (range_with_len 0 10) (every-range 0 10 10 (omega arith)))
      (λ s h. record { domain = refl; act = omega (arith, h) })

  table-own : (step t : ℕ) → AreOwn (table plan begins 1 step t)
  table-own step t =
      every-map (λ n. n < length plan.items) (IsOwnEntry plan) (λ n. entry 1 step t (Table n)) (range_with_len 0 (length plan.items)) (every-range 0 (length plan.items) (length plan.items) (omega arith))
      (λ n h. record { domain = refl; act = h })

  -- the domains are domain 1
  domains-one : Every (λ d. d ≡ 1) (domains_of plan)
  domains-one = subst (λ (n : ℕ). Every (λ d. d ≡ 1) (up_to n)) (sym one) (refl, tt)

  restart-own : (step t : ℕ) → AreOwn (restart_frames plan begins step t)
  restart-own step t = by (is_due plan.restart_steps step)
    where
      by : (b : Bool) → AreOwn (if b then map (λ d. entry d (steps_by plan begins d t) t (Emit restart_stream)) (filter (λ d. (begin_of begins d).resumed || nat_lt (begin_time plan begins d) t) (domains_of plan)) else [])
      by true =
          every-map (λ d. d ≡ 1) (IsOwnEntry plan) (λ d. entry d (steps_by plan begins d t) t (Emit restart_stream)) (filter (λ d. (begin_of begins d).resumed || nat_lt (begin_time plan begins d) t) (domains_of plan))
          (every-filter (λ d. d ≡ 1) (λ d. (begin_of begins d).resumed || nat_lt (begin_time plan begins d) t) (domains_of plan) domains-one) (λ d h. record { domain = h; act = omega arith })
      by false = tt

  step-parts : (t : ℕ) → step_of plan begins 1 1 t ≡
      (((([] ++ table plan begins 1 (steps_by plan begins 1 t + 1) t) ++ []) ++ due_frames plan begins 1 (steps_by plan begins 1 t + 1) (t + (domain_of plan 1).seconds))
      ++ (if 1 == 1 then restart_frames plan begins (steps_by plan begins 1 t + 1) (t + (domain_of plan 1).seconds) else []))
  unfolding step_of
  step-parts t = let none : children plan 1 ≡ [] = childless plan one in rw none refl

  step-own : (t : ℕ) → AreOwn (step_of plan begins 1 1 t)
  step-own t =
      let step : ℕ = steps_by plan begins 1 t + 1 in
      let end : ℕ = t + (domain_of plan 1).seconds in
      let items : List Entry = table plan begins 1 (steps_by plan begins 1 t + 1) t in
      let due : List Entry = due_frames plan begins 1 (steps_by plan begins 1 t + 1) (t + (domain_of plan 1).seconds) in
      let restart : List Entry = restart_frames plan begins (steps_by plan begins 1 t + 1) (t + (domain_of plan 1).seconds) in
      let all : AreOwn (((([] ++ items) ++ []) ++ due) ++ restart)
      = every-append (IsOwnEntry plan) ((([] ++ items) ++ []) ++ due) restart
      (every-append (IsOwnEntry plan) (([] ++ items) ++ []) due (every-append (IsOwnEntry plan) items [] (table-own step t) tt) (frames-own (λ s. is_due (interval plan begins 1 s) step) step end))
      (restart-own step end) in
      subst AreOwn (sym (step-parts t)) all

  script-own : AreOwn (script_of plan begins)
  unfolding script_of
  script-own =
      every-append (IsOwnEntry plan) (if (begin_of begins 1).resumed then [] else start_frames plan begins 1 0) (flat_map (λ n. step_of plan begins (length plan.domains) 1 (n * (domain_of plan 1).seconds)) (range_with_len 0 plan.steps))
      (start (begin_of begins 1).resumed)
      (every-flat (IsOwnEntry plan) (λ n. step_of plan begins (length plan.domains) 1 (n * (domain_of plan 1).seconds)) (range_with_len 0 plan.steps)
      (λ n. subst (λ (k : ℕ). AreOwn (step_of plan begins k 1 (n * (domain_of plan 1).seconds))) (sym one) (step-own (n * (domain_of plan 1).seconds))))
    where
      start : (b : Bool) → AreOwn (if b then [] else start_frames plan begins 1 0)
      start true = tt
      start false = frames-own (λ s. nat_lt 0 (interval plan begins 1 s)) 0 0

-- each entry of a run of one domain
pub entry_own : (r : RunData) (p : ℕ) → length r.plan.domains ≡ 1 → p < length (script r) → IsOwnEntry r.plan (entry_at r p)
unfolding entry_at
entry_own r p one h = every-at (IsOwnEntry r.plan) (script r) p no_entry (script-own r.plan r.initial.begins one) h
