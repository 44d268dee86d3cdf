-- A domain's start and its steps lead to the restart time.
use Rattle.std.proofs.Common.{◌≡◌, inl, inr, ℕ, zero, suc, ◌+◌, ◌-◌, ◌*◌, ◌/◌, ◌%◌, ◌≤◌, ◌<◌, Bool, true, false, List, [], ◌∷◌, length, get_or, ℤ, pos, negsuc, Option, Some, None, Result, Ok, Err, refl, sym, ap, ◌∙◌, subst, arith}
use Rattle.std.proofs.Math.Nat.{mul-le-mul_right}
use Rattle.std.proofs.lemmas.Bool.{cases_lt}
use Rattle.std.proofs.lemmas.Bool.Decides.{nat_tests}
use Rattle.std.proofs.lemmas.List.{get_or-map}
use Rattle.std.proofs.lemmas.List.FromFn.{get_or-range_with_len, length-range_with_len}
use Rattle.std.specs.Prelude.{◌&&◌, ◌||◌, not, nat_lt, unsigned_abs, if◌then◌else◌}
use Rattle.std.specs.Int.{int_rem_euclid}
use Rattle.std.specs.Str.{bytes_eq}
use Rattle.wf_model.specs.declared.header.Header.{Header}
use Rattle.wf_model.specs.declared.initial.Begin.{Begin}
use Rattle.wf_model.specs.declared.initial.Initial.{Initial}
use Rattle.wf_model.specs.declared.plan.Plan.{Plan}
use Rattle.wf_model.specs.declared.plan_fault.InputKind.{InputKind}
use Rattle.wf_model.specs.declared.plan_fault.InputKind.TheVariants as kind
use Rattle.wf_model.specs.Reading.{◌>>=◌, each, told_as, fault_if, fault_unless, first_fault, unless_fault}
use Rattle.wf_model.specs.Calendar.{moment_of, time_text}
use Rattle.wf_model.specs.Dates.{seconds_before}
use Rattle.wf_model.specs.Files.{Files}
use Rattle.wf_model.specs.Plans.{domain_of, begin_of, domains_of, no_begin}
use Rattle.wf_model.specs.InputOf.{DomainBegin, domain_begin, resumed_if, started, from_file, fault_of, header_read, restart_read, input_read, must_resume, may_resume, restart_file, input_file, has_attributes, leads_to, slabs_fault, all_slabs, is_restored, time_read, initial_from, input_of, with_zeros}
use Rattle.wf_model.specs.Outcome.{RunData}
use Rattle.wf_model.specs.Script.{not_before, restart_stream}
use Rattle.wf_model.specs.Sound.{IsDomain, IsSoundNest, IsTimedNest}
use Rattle.wf_model.specs.SoundRun.{IsSoundRun}
use Rattle.wf_laws.proofs.Bools.{split_bool, differ, equal_of}
use Rattle.wf_model.specs.Continued.{time_after, steps_after}
use Rattle.wf_restart_laws.specs.Filed.{BeginsLeadToTheTime}
use Rattle.wf_restart_laws.specs.Times.{IsInYears}
use Rattle.wf_restart_laws.proofs.SameTimes.{more_steps}
use Rattle.wf_restart_laws.proofs.LaterFrames.{in_years}
use Rattle.wf_restart_laws.proofs.Texts.{stamps}

-- ---- what was read

pub not_ok : {A F : Type 0} (f : F) (a : A) → Err f ≡ Ok a → ⊥
not_ok {A} {F} f a e = subst (λ (r : Result A F). elim r as (λ x. Type 0) [ Ok y ↦ ⊥ | Err y ↦ Unit {0} ]) e tt

pub same_ok : {A F : Type 0} (a b : A) → ◌≡◌ {A = Result A F} (Ok a) (Ok b) → a ≡ b
same_ok {A} {F} a b e = ap (λ (r : Result A F). elim r as (λ x. A) [ Ok y ↦ y | Err y ↦ a ]) e

pub bind-ok : {A B F : Type 0} (x : Result A F) (f : A → Result B F) (b : B) → (x >>= f) ≡ Ok b → (a : A) × (x ≡ Ok a) × (f a ≡ Ok b)
bind-ok (Ok a) f b e = (a, refl, e)
bind-ok (Err z) f b e = absurd (not_ok z b e)

pub unless-ok : {A F : Type 0} (o : Option F) (a b : A) → unless_fault o a ≡ Ok b → (o ≡ None) × (a ≡ b)
unless-ok None a b e = (refl, same_ok a b e)
unless-ok (Some f) a b e = absurd (not_ok f b e)

pub told-ok : {A E F : Type 0} (f : E → F) (x : Result A E) (a : A) → told_as f x ≡ Ok a → x ≡ Ok a
told-ok f (Ok b) a e = ap (λ (y : _). Ok y) (same_ok b a e)
told-ok f (Err z) a e = absurd (not_ok (f z) a e)

pub each-ok : {A B F : Type 0} (f : A → Result B F) (xs : List A) (ys : List B) (n : ℕ) (a : A) (b : B) → each f xs ≡ Ok ys → n < length xs → f (get_or xs n a) ≡ Ok (get_or ys n b)
each-ok f [] ys n a b e lt = absurd (omega (arith, lt))
each-ok f (x ∷ xs) ys zero a b e lt =
    let w = bind-ok (f x) (λ y. each f xs >>= λ zs. Ok (y ∷ zs)) ys e in
    let v = bind-ok (each f xs) (λ zs. Ok (w.0 ∷ zs)) ys w.2 in
    w.1 ∙ ap (λ zs. Ok (get_or zs 0 b)) (same_ok (w.0 ∷ v.0) ys v.2)
each-ok f (x ∷ xs) ys (suc n) a b e lt =
    let w = bind-ok (f x) (λ y. each f xs >>= λ zs. Ok (y ∷ zs)) ys e in
    let v = bind-ok (each f xs) (λ zs. Ok (w.0 ∷ zs)) ys w.2 in
    each-ok f xs v.0 n a b v.1 (omega (arith, lt)) ∙ ap (λ zs. Ok (get_or zs (suc n) b)) (same_ok (w.0 ∷ v.0) ys v.2)

pub each-length : {A B F : Type 0} (f : A → Result B F) (xs : List A) (ys : List B) → each f xs ≡ Ok ys → length ys ≡ length xs
each-length f [] ys e = ap length (sym (same_ok [] ys e))
each-length f (x ∷ xs) ys e =
    let w = bind-ok (f x) (λ y. each f xs >>= λ zs. Ok (y ∷ zs)) ys e in
    let v = bind-ok (each f xs) (λ zs. Ok (w.0 ∷ zs)) ys w.2 in
    ap length (sym (same_ok (w.0 ∷ v.0) ys v.2)) ∙ ap suc (each-length f xs v.0 v.1)

-- a domain that starts doesn't resume
pub started_fresh : (files : Files) (plan : Plan) (d : ℕ) (x : DomainBegin) → started files plan d ≡ Ok x → x.begin.resumed ≡ false
started_fresh files plan d x e = of (domain_of plan d).from_file e
  where
    read : (bytes : List ℕ) → input_read plan d bytes ≡ Ok x → x.begin.resumed ≡ false
    read bytes r =
        let w = bind-ok (header_read bytes) _ x r in
        let v = unless-ok _ _ x w.2 in
        ap (λ (y : DomainBegin). y.begin.resumed) (sym v.1)

    file : (o : Option (List ℕ)) → from_file (input_read plan d) (input_file d) o ≡ Ok x → x.begin.resumed ≡ false
    file None h = absurd (not_ok (fault_of (input_file d) kind.Missing) x h)
    file (Some bytes) h = read bytes (told-ok (fault_of (input_file d)) (input_read plan d bytes) x h)

    of : (b : Bool) → (if b then from_file (input_read plan d) (input_file d) (files (input_file d)) else Ok (with_zeros plan d)) ≡ Ok x → x.begin.resumed ≡ false
    of true h = file (files (input_file d)) h
    of false h = ap (λ (y : DomainBegin). y.begin.resumed) (sym (same_ok (with_zeros plan d) x h))

-- a restart file that was read leads to the restart's time
abbrev Leads : Plan → ℕ → Begin → Type 0
Leads plan d b = seconds_before (moment_of b.start_text) + b.steps * (domain_of plan d).seconds ≡ seconds_before (moment_of plan.start)

read_leads : (plan : Plan) (d : ℕ) (bytes : List ℕ) (x : DomainBegin) → restart_read plan d bytes ≡ Ok x → Leads plan d x.begin
read_leads plan d bytes x e =
    let w = bind-ok (header_read bytes) _ x e in
    let h : Header = w.0 in
    let v = unless-ok _ _ x w.2 in
    let ok = checks (slabs_fault bytes (all_slabs plan d restart_stream (is_restored plan) bytes h)) (bytes_eq (time_read bytes h) plan.start) (has_attributes h) (leads_to plan d h) v.0 in
    subst (λ (y : DomainBegin). Leads plan d y.begin) v.1 (equal_of _ (seconds_before (moment_of plan.start)) ok)
  where
    checks : (a : Option InputKind) (b has to : Bool) → first_fault (a ∷ fault_unless b kind.WrongTime ∷ fault_if (has && not to) kind.WrongTime ∷ fault_unless has kind.WrongAttribute ∷ []) ≡ None → to ≡ true
    checks (Some k) b has to h = absurd (some_none k h)
      where
        some_none : (k : InputKind) → Some k ≡ None → ⊥
        some_none k h = subst (λ (o : Option InputKind). elim o as (λ x. Type 0) [ None ↦ ⊥ | Some y ↦ Unit {0} ]) h tt
    checks None false has to h = absurd (subst (λ (o : Option InputKind). elim o as (λ x. Type 0) [ None ↦ ⊥ | Some y ↦ Unit {0} ]) h tt)
    checks None true true true h = refl
    checks None true true false h = absurd (subst (λ (o : Option InputKind). elim o as (λ x. Type 0) [ None ↦ ⊥ | Some y ↦ Unit {0} ]) h tt)
    checks None true false to h = absurd (subst (λ (o : Option InputKind). elim o as (λ x. Type 0) [ None ↦ ⊥ | Some y ↦ Unit {0} ]) h tt)

domain_leads : (files : Files) (plan : Plan) (d : ℕ) (x : DomainBegin) → domain_begin files plan d ≡ Ok x → x.begin.resumed ≡ true → Leads plan d x.begin
domain_leads files plan d x e on = of (may_resume plan d) e
  where
    file : (o : Option (List ℕ)) → resumed_if files plan d o ≡ Ok x → Leads plan d x.begin
    file None h = missing (must_resume plan d) h
      where
        missing : (b : Bool) → (if b then Err (fault_of (restart_file plan d) kind.Missing) else started files plan d) ≡ Ok x → Leads plan d x.begin
        missing true k = absurd (not_ok (fault_of (restart_file plan d) kind.Missing) x k)
        missing false k = absurd (differ (sym on ∙ started_fresh files plan d x k))
    file (Some bytes) h = read_leads plan d bytes x (told-ok (fault_of (restart_file plan d)) (restart_read plan d bytes) x h)

    of : (b : Bool) → (if b then resumed_if files plan d (files (restart_file plan d)) else started files plan d) ≡ Ok x → Leads plan d x.begin
    of true h = file (files (restart_file plan d)) h
    of false h = absurd (differ (sym on ∙ started_fresh files plan d x h))

-- what a run that was read begins with
pub begin_read : (r : RunData) (old : Files) (d : ℕ) → input_of old r.plan ≡ Ok r.initial → IsDomain r.plan d → (x : DomainBegin) × (domain_begin old r.plan d ≡ Ok x) × (begin_of r.initial.begins d ≡ x.begin)
unfolding input_of begin_of
begin_read r old d read dom =
    let none : DomainBegin = record { begin = no_begin; grids = [] } in
    let w = bind-ok (each (domain_begin old r.plan) (domains_of r.plan)) (λ ds. Ok (initial_from ds)) r.initial read in
    let initial : initial_from w.0 ≡ r.initial = same_ok (initial_from w.0) r.initial w.2 in
    let long : length w.0 ≡ length r.plan.domains = each-length (domain_begin old r.plan) (domains_of r.plan) w.0 w.1 ∙ length-range_with_len 1 (length r.plan.domains) in
    let there : d - 1 < length (domains_of r.plan) = let l : length (domains_of r.plan) ≡ length r.plan.domains = length-range_with_len 1 (length r.plan.domains) in omega (arith, l, dom) in
    let number : get_or (domains_of r.plan) (d - 1) 0 ≡ d = get_or-range_with_len 1 (length r.plan.domains) (d - 1) 0 (omega (arith, dom)) ∙ up_again d dom.0 in (
      get_or w.0 (d - 1) none,
      ap (domain_begin old r.plan) (sym number) ∙ each-ok (domain_begin old r.plan) (domains_of r.plan) w.0 (d - 1) 0 none w.1 there,
      ap (λ (y : Initial). get_or y.begins (d - 1) no_begin) (sym initial) ∙ get_or-map DomainBegin.begin w.0 (d - 1) none no_begin (omega (arith, long, dom)),
    )
  where
    up_again : (n : ℕ) → 1 ≤ n → 1 + (n - 1) ≡ n
    up_again n h = omega arith

-- ---- steps fill the time

-- a whole number of steps
record IsFilled (n a : ℕ) : Type 0 where
  times : ℕ
  is : n ≡ times * a

filled_times : (m n a : ℕ) → IsFilled n a → IsFilled (m * n) a
filled_times m n a f = record { times = m * f.times; is = ap (λ x. m * x) f.is ∙ moved m f.times a }
  where
    moved : (m t a : ℕ) → m * (t * a) ≡ (m * t) * a
    moved m t a = grind arith

first_filled : (r : RunData) → IsSoundRun r → (fuel d : ℕ) → d ≤ fuel → IsDomain r.plan d → IsFilled (domain_of r.plan 1).seconds (domain_of r.plan d).seconds
first_filled r sound zero d le dom = absurd (omega (arith, le, dom.0))
first_filled r sound (suc fuel) d le dom = elim (cases_lt 1 d) [
  | inl nest ↦
      let sn : IsSoundNest r.plan d = (sound.sound).nests d nest dom in
      let up : IsFilled (domain_of r.plan 1).seconds (domain_of r.plan (domain_of r.plan d).parent).seconds = first_filled r sound fuel (domain_of r.plan d).parent (omega (arith, sn.before, le)) sn.parent in
      record { times = up.times * (domain_of r.plan d).time_ratio; is = up.is ∙ ap (λ x. up.times * x) (sym sn.seconds) ∙ moved up.times (domain_of r.plan d).seconds (domain_of r.plan d).time_ratio }
  | inr first ↦ let one : d ≡ 1 = omega (arith, first, dom.0) in subst (λ x. IsFilled (domain_of r.plan 1).seconds (domain_of r.plan x).seconds) (sym one) (record { times = 1; is = once (domain_of r.plan 1).seconds })
]
  where
    moved : (u a k : ℕ) → u * (a * k) ≡ (u * k) * a
    moved u a k = grind arith

    once : (n : ℕ) → n ≡ 1 * n
    once n = omega arith

-- so does a nest's start
start_filled : (r : RunData) (d : ℕ) → IsSoundRun r → IsDomain r.plan d → IsFilled (not_before (domain_of r.plan d).begins) (domain_of r.plan d).seconds
start_filled r d sound dom = elim (cases_lt 1 d) [
  | inl nest ↦
      let sn : IsSoundNest r.plan d = (sound.sound).nests d nest dom in
      let timed : IsTimedNest r.plan d = (sound.ranged).nests d nest dom in
      of (domain_of r.plan d).begins (domain_of r.plan d).seconds (domain_of r.plan d).time_ratio (domain_of r.plan (domain_of r.plan d).parent).seconds sn.seconds timed.whole
  | inr first ↦
      let one : d ≡ 1 = omega (arith, first, dom.0) in
      record { times = 0; is = ap (λ x. not_before (domain_of r.plan x).begins) one ∙ ap not_before ((sound.ranged).first).begins ∙ none (domain_of r.plan d).seconds }
]
  where
    none : (n : ℕ) → 0 ≡ 0 * n
    none n = grind arith

    of : (t : ℤ) (a k p : ℕ) → a * k ≡ p → int_rem_euclid t (pos p) ≡ pos 0 → IsFilled (not_before t) a
    of (negsuc n) a k p e h = record { times = 0; is = none a }
    of (pos n) a k p e h =
        let rest : n % p ≡ 0 = ap (λ (z : ℤ). unsigned_abs z) h in
        let whole : n ≡ (n / p) * p + n % p = grind arith in
        record { times = (n / p) * k; is = whole ∙ ap (λ x. (n / p) * p + x) rest ∙ flat (n / p) p ∙ ap (λ x. (n / p) * x) (sym e) ∙ moved (n / p) a k }
      where
        flat : (u p : ℕ) → u * p + 0 ≡ u * p
        flat u p = omega arith

        moved : (u a k : ℕ) → u * (a * k) ≡ (u * k) * a
        moved u a k = grind arith

-- a time in whole steps
steps_fill : (n a : ℕ) → 1 ≤ a → IsFilled n a → n / a * a ≡ n
steps_fill n a some f =
    let one : (f.times * a + 0) / a ≡ f.times + 0 / a = more_steps 0 a f.times some in
    let zero_of : 0 / a ≡ 0 = omega (arith, some) in
    let same : n / a ≡ f.times = ap (λ x. x / a) (f.is ∙ add_none (f.times * a)) ∙ one ∙ ap (λ x. f.times + x) zero_of ∙ none_more f.times in
    ap (λ x. x * a) same ∙ sym f.is
  where
    add_none : (n : ℕ) → n ≡ n + 0
    add_none n = omega arith

    none_more : (n : ℕ) → n + 0 ≡ n
    none_more n = omega arith

filled_less : (m n a : ℕ) → IsFilled m a → IsFilled n a → IsFilled (m - n) a
filled_less m n a f g = record { times = f.times - g.times; is = (λ z. f.is z - g.is z) ∙ sym (monus_times f.times g.times a) }
  where
    monus_times : (x y a : ℕ) → (x - y) * a ≡ x * a - y * a
    monus_times x y a = elim (cases_lt x y) [
      | inl lt ↦
          let none : x - y ≡ 0 = omega (arith, lt) in
          let le : x * a ≤ y * a = mul-le-mul_right a (omega (arith, lt)) in
          let zero_of : 0 * a ≡ 0 = grind arith in
          omega (arith, ap (λ k. k * a) none, zero_of, le)
      | inr le ↦
          let more : (y + (x - y)) * a ≡ y * a + (x - y) * a = grind arith in
          let same : y + (x - y) ≡ x = omega (arith, le) in
          omega (arith, more, ap (λ k. k * a) same)
    ]

pub leads : BeginsLeadToTheTime
leads r m d old sound read some within dom on =
    let b : Begin = begin_of r.initial.begins d in
    let a : ℕ = (domain_of r.plan d).seconds in
    let T : ℕ = time_after r m in
    let S : ℕ = seconds_before (moment_of r.plan.start) in
    let some_a : 1 ≤ a = (sound.sound).steps d dom in
    let filled : IsFilled T a = filled_times m (domain_of r.plan 1).seconds a (first_filled r sound d d (omega arith) dom) in
    let x = begin_read r old d read dom in
    let resumed : b.resumed ≡ true → seconds_before (moment_of b.start_text) + steps_after r m d * a ≡ S + T = λ t.
    let told : seconds_before (moment_of b.start_text) + b.steps * a ≡ S = subst (λ (y : Begin). Leads r.plan d y) (sym x.2) (domain_leads old r.plan d x.0 x.1 (ap (λ (y : Begin). y.resumed) (sym x.2) ∙ t)) in
    ap (λ k. seconds_before (moment_of b.start_text) + k * a) (λ i. b.steps + (T - (if t i then 0 else not_before (domain_of r.plan d).begins)) / a)
    ∙ sum (seconds_before (moment_of b.start_text)) b.steps T a S told (steps_fill T a some_a filled) in
    let fresh : b.resumed ≡ false → seconds_before (moment_of b.start_text) + steps_after r m d * a ≡ S + T = λ t.
    let nb : ℕ = not_before (domain_of r.plan d).begins in
    let before : nb < T = below nb T (sym (λ i. t i || nat_lt (if t i then 0 else nb) T) ∙ on) in
    let text : b.start_text ≡ time_text r.plan.start nb = ((sound.fitting).sound d dom).own_start t in
    let none : b.steps ≡ 0 = (sound.fitting).fresh d t in
    let years : IsInYears r.plan.start nb = (let y : IsInYears r.plan.start T = in_years r m sound within in record { stamp = y.stamp; within = omega (arith, y.within, before) }) in
    let at : seconds_before (moment_of b.start_text) ≡ S + nb = ap (λ z. seconds_before (moment_of z)) text ∙ (stamps r.plan.start nb years).1 in
    ap (λ k. seconds_before (moment_of b.start_text) + k * a) (λ i. none i + (T - (if t i then 0 else nb)) / a)
    ∙ rest (seconds_before (moment_of b.start_text)) T nb a S at before (steps_fill (T - nb) a some_a (filled_less T nb a filled (start_filled r d sound dom))) in
    elim (split_bool b.resumed) [
      | inl t ↦ resumed t
      | inr t ↦ fresh t
    ]
  where
    below : (a b : ℕ) → (false || nat_lt a b) ≡ true → a < b
    below a b h = grind (arith, nat_tests)

    sum : (s k t a z : ℕ) → s + k * a ≡ z → t / a * a ≡ t → s + (k + (t - 0) / a) * a ≡ z + t
    sum s k t a z e f =
        let all : t - 0 ≡ t = omega arith in
        let split : (k + t / a) * a ≡ k * a + t / a * a = grind arith in
        ap (λ n. s + (k + n / a) * a) all ∙ omega (arith, split, e, f)

    rest : (s t n a z : ℕ) → s ≡ z + n → n < t → (t - n) / a * a ≡ t - n → s + (0 + (t - n) / a) * a ≡ z + t
    rest s t n a z e lt f =
        let none : 0 + (t - n) / a ≡ (t - n) / a = omega arith in
        ap (λ k. s + k * a) none ∙ omega (arith, e, lt, f)
