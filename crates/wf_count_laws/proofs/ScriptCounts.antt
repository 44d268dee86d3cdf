-- Items, frames and events are weights of the script.
use Rattle.std.proofs.Common.{◌≡◌, inl, inr, ℕ, suc, ◌+◌, ◌*◌, ◌<◌, ◌≤◌, Bool, true, false, List, [], ◌∷◌, ◌++◌, map, length, length-append, refl, sym, ap, ◌∙◌, arith}
use Rattle.std.proofs.lemmas.List.{length-map}
use Rattle.std.proofs.lemmas.List.Sums.{sum_by-cons}
use Rattle.std.proofs.lemmas.List.Concat.{length-flat_map}
use Rattle.std.specs.Prelude.{sum_by, ◌==◌, if◌then◌else◌}
use Rattle.std.specs.List.{range_with_len, enumerate_from}
use Rattle.wf_model.specs.declared.plan.Plan.{Plan}
use Rattle.wf_model.specs.declared.script.Act.{Act}
use Rattle.wf_model.specs.declared.script.Act.TheVariants.{Start, Force, Feedback, Table, Emit}
use Rattle.wf_model.specs.declared.script.Entry.{Entry}
use Rattle.wf_model.specs.Plans.{domain_of, domains_of, item_of}
use Rattle.wf_model.specs.Script.{entry}
use Rattle.wf_model.specs.Streams.{stream_levels}
use Rattle.wf_model.specs.Outcome.{script}
use Rattle.wf_model.specs.Halves.{Half, sends, takes, item_halves, emit_halves, if_same, act_halves, halves_of}
use Rattle.wf_model.specs.Frames.{Output, output_at, outputs_from, frames_from, frames_of}
use Rattle.wf_model.specs.Counts.{fresh_script, fresh_run, emit_events}
use Rattle.wf_laws.proofs.Bools.{equal_or_not, same_number, unlike, if_true, if_false}
use Rattle.wf_laws.proofs.Members.{In-range_out}
use Rattle.wf_model.specs.Sound.{IsDomain}
use Rattle.wf_model.specs.Weights.{Weights, script_weight, domain_weight, weight_by_domains, HasDomainsInTime}
use Rattle.wf_count_laws.specs.ScriptCounts.{one_each, ItemsAreCounted, frame_weight, FramesAreCounted, event_weight, EventsAreCounted}
use Rattle.wf_count_laws.proofs.Sums.{sum-times, sum-same, sum-both, sum-zeros, sum-one}
use Rattle.wf_count_laws.proofs.SameWeights.{IsSameAt, weight-same}
use Rattle.wf_count_laws.proofs.ScriptWeights.{weighs}

-- ---- items

pub length-ones : {X : Type 0} (xs : List X) → length xs ≡ sum_by (λ x. 1) xs
length-ones [] = refl
length-ones (x ∷ xs) = omega (arith, length-ones xs, sum_by-cons (λ y. 1) x xs)

pub items : ItemsAreCounted
items plan timed = omega (arith, length-ones (fresh_script plan), weighs plan one_each timed)

-- ---- frames

output_one : (n : ℕ) (e : Entry) (act : Act) → length (output_at n e act) ≡ frame_weight e.domain act
output_one n e Start = refl
output_one n e Force = refl
output_one n e Feedback = refl
output_one n e (Table t) = refl
output_one n e (Emit s) = refl

length-outputs : (n : ℕ) (es : List Entry) → length (outputs_from n es) ≡ sum_by (λ (e : Entry). frame_weight e.domain e.act) es
unfolding outputs_from
length-outputs n [] = refl
length-outputs n (e ∷ es) =
    omega (arith, length-append (output_at n e e.act) (outputs_from (n + 1) es), output_one n e e.act, length-outputs (n + 1) es, sum_by-cons (λ (x : Entry). frame_weight x.domain x.act) e es)

length-frames : (plan : Plan) (before os : List Output) → length (frames_from plan before os) ≡ length os
unfolding frames_from
length-frames plan before [] = refl
length-frames plan before (o ∷ os) = ap (λ (n : ℕ). suc n) (length-frames plan (before ++ (o ∷ [])) os)

pub frames : FramesAreCounted
unfolding frames_of fresh_script
frames plan timed = length-frames plan [] (outputs_from 0 (script (fresh_run plan))) ∙ length-outputs 0 (script (fresh_run plan)) ∙ weighs plan frame_weight timed

-- ---- events

sum-swap : {X Y : Type 0} (f : X → Y → ℕ) (xs : List X) (ys : List Y) → sum_by (λ x. sum_by (f x) ys) xs ≡ sum_by (λ y. sum_by (λ x. f x y) xs) ys
sum-swap f [] ys = sym (sum-zeros (λ y. 0) ys (λ y i. refl))
sum-swap f (x ∷ xs) ys =
    sum_by-cons (λ z. sum_by (f z) ys) x xs
    ∙ ap (λ (n : ℕ). sum_by (f x) ys + n) (sum-swap f xs ys)
    ∙ sum-both (f x) (λ y. sum_by (λ z. f z y) xs) (λ y. sum_by (λ z. f z y) (x ∷ xs)) ys (λ y i. sym (sum_by-cons (λ z. f z y) x xs))

sum-numbered : {X : Type 0} (f : X → ℕ) (n : ℕ) (xs : List X) → sum_by (λ (p : ℕ × X). f p.1) (enumerate_from n xs) ≡ sum_by f xs
sum-numbered f n [] = refl
sum-numbered f n (x ∷ xs) = omega (arith, sum_by-cons (λ (p : ℕ × _). f p.1) (n, x) (enumerate_from (n + 1) xs), sum-numbered f (n + 1) xs, sum_by-cons f x xs)

-- what domain `of` has alone
alone : (v n p : ℕ) → 1 ≤ p → p ≤ n → sum_by (λ x. if x == p then v else 0) (range_with_len 1 n) ≡ v
alone v n p low high =
    sum-same (λ x. if x == p then v else 0) (λ x. if p == x then v else 0) (range_with_len 1 n) (λ x i. turned x) ∙ sum-one p v 1 n low (omega (arith, high))
  where
    turned : (x : ℕ) → (if x == p then v else 0) ≡ (if p == x then v else 0)
    turned x = elim (equal_or_not x p) [
      | inl e ↦ if_true (x == p) v 0 (ap (λ (y : ℕ). x == y) (sym e) ∙ same_number x) ∙ sym (if_true (p == x) v 0 (ap (λ (y : ℕ). y == x) (sym e) ∙ same_number x))
      | inr o ↦ if_false (x == p) v 0 (unlike x p (λ e. o (sym e))) ∙ sym (if_false (p == x) v 0 (unlike p x o))
    ]

length-if : (b : Bool) (hs : List Half) (k : ℕ) → length (if b then hs else []) * k ≡ (if b then length hs * k else 0)
length-if true hs k = refl
length-if false hs k = omega arith

module _ (plan : Plan) (patches : ℕ) (timed : HasDomainsInTime plan) where
  -- the halves of an item at the patches of domain x
  abbrev half_weight : ℕ → Weights
  half_weight x d act = length (act_halves plan x (entry d 0 0 act) act) * patches

  -- and at those of all domains
  abbrev half_weights : Weights
  half_weights d act = sum_by (λ x. half_weight x d act) (domains_of plan)

  -- they hang on the item's domain and act alone
  by_act : (x : ℕ) (e : Entry) (act : Act) → length (act_halves plan x e act) ≡ length (act_halves plan x (entry e.domain 0 0 act) act)
  by_act x e Start = refl
  by_act x e Force = refl
  by_act x e Feedback = refl
  by_act x e (Table n) = refl
  by_act x e (Emit s) = refl

  -- the halves of a domain's patches
  halves_weigh : (x : ℕ) → length (halves_of (fresh_run plan) x) * patches ≡ sum_by (λ (e : Entry). half_weight x e.domain e.act) (fresh_script plan)
  unfolding halves_of fresh_script
  halves_weigh x =
      ap (λ (n : ℕ). n * patches) (length-flat_map (λ (p : ℕ × Entry). map (λ h. record { place = p.0; entry = p.1; half = h }) (act_halves plan x p.1 (p.1).act)) (enumerate_from 0 (script (fresh_run plan)))
      ∙ sum-same (λ (p : ℕ × Entry). length (map (λ h. record { place = p.0; entry = p.1; half = h }) (act_halves plan x p.1 (p.1).act))) (λ (p : ℕ × Entry). length (act_halves plan x p.1 (p.1).act)) (enumerate_from 0 (script (fresh_run plan)))
      (λ p i. length-map (act_halves plan x p.1 (p.1).act) (λ h. record { place = p.0; entry = p.1; half = h }))
      ∙ sum-numbered (λ (e : Entry). length (act_halves plan x e e.act)) 0 (script (fresh_run plan)))
      ∙ sum-times (λ (e : Entry). length (act_halves plan x e e.act)) patches (script (fresh_run plan))
      ∙ sum-same (λ (e : Entry). length (act_halves plan x e e.act) * patches) (λ (e : Entry). half_weight x e.domain e.act) (script (fresh_run plan)) (λ e i. ap (λ (n : ℕ). n * patches) (by_act x e e.act))

  -- of all domains
  all_halves : sum_by (λ x. length (halves_of (fresh_run plan) x) * patches) (domains_of plan) ≡ script_weight plan half_weights
  all_halves =
      sum-same (λ x. length (halves_of (fresh_run plan) x) * patches) (λ x. sum_by (λ (e : Entry). half_weight x e.domain e.act) (fresh_script plan)) (domains_of plan) (λ x i. halves_weigh x)
      ∙ sum-swap (λ x (e : Entry). half_weight x e.domain e.act) (domains_of plan) (fresh_script plan)

  abbrev raw_weight : Weights
  raw_weight d act = half_weights d act + emit_events plan patches act

  all_weigh : script_weight plan half_weights + sum_by (λ (e : Entry). emit_events plan patches e.act) (fresh_script plan) ≡ script_weight plan raw_weight
  all_weigh = sum-both (λ (e : Entry). half_weights e.domain e.act) (λ (e : Entry). emit_events plan patches e.act) (λ (e : Entry). raw_weight e.domain e.act) (fresh_script plan) (λ e i. refl)

  -- what one domain does
  one_domain : (hs : List Half) (d : ℕ) → IsDomain plan d → sum_by (λ x. length (if_same x d hs) * patches) (domains_of plan) ≡ length hs * patches
  one_domain hs d is =
      sum-same (λ x. length (if_same x d hs) * patches) (λ x. if x == d then length hs * patches else 0) (domains_of plan) (λ x i. length-if (x == d) hs patches)
      ∙ alone (length hs * patches) (length plan.domains) d is.0 is.1

  -- what two domains do
  two_domains : (gs hs : List Half) (d e : ℕ) → IsDomain plan d → IsDomain plan e → length gs ≡ 1 → length hs ≡ 1 → sum_by (λ x. length (if_same x d gs ++ if_same x e hs) * patches) (domains_of plan) ≡ 2 * patches
  two_domains gs hs d e is_d is_e one two =
      sym (sum-both (λ x. length (if_same x d gs) * patches) (λ x. length (if_same x e hs) * patches) (λ x. length (if_same x d gs ++ if_same x e hs) * patches) (domains_of plan)
      (λ x i. joined (if_same x d gs) (if_same x e hs) patches))
      ∙ (λ i. one_domain gs d is_d i + one_domain hs e is_e i)
      ∙ (λ i. one i * patches + two i * patches)
      ∙ twice patches
    where
      joined : (xs ys : List Half) (k : ℕ) → length xs * k + length ys * k ≡ length (xs ++ ys) * k
      joined xs ys k = sym (ap (λ (n : ℕ). n * k) (length-append xs ys) ∙ grind arith)

      twice : (k : ℕ) → 1 * k + 1 * k ≡ 2 * k
      twice k = omega arith

  same : (d : ℕ) → IsDomain plan d → IsSameAt raw_weight (event_weight plan patches) d
  same d is = record {
    start = λ nest. omega (arith, two_domains (sends ∷ []) (takes ∷ []) (domain_of plan d).parent d (up d is nest) is refl refl);
    force = λ nest. omega (arith, two_domains (sends ∷ []) (takes ∷ []) (domain_of plan d).parent d (up d is nest) is refl refl);
    feedback = λ nest. omega (arith, two_domains (sends ∷ []) (takes ∷ []) d (domain_of plan d).parent is (up d is nest) refl refl);
    table = λ n. omega (arith, one_domain (item_halves (item_of plan n)) d is);
    emit = λ s. omega (arith, one_domain (emit_halves (stream_levels plan s)) d is);
  }
    where
      up : (d : ℕ) → IsDomain plan d → (d == 1) ≡ false → IsDomain plan (domain_of plan d).parent
      up d is off = let below : 1 < d = elim (equal_or_not d 1) [ inl e ↦ absurd (both (d == 1) off (ap (λ (x : ℕ). x == 1) e ∙ same_number 1)) | inr o ↦ omega (arith, o, is.0) ] in (timed.nests d below is).parent
        where
          both : (b : Bool) → b ≡ false → b ≡ true → ⊥
          both b p q = grind arith

  events_weigh : script_weight plan raw_weight ≡ weight_by_domains plan (event_weight plan patches)
  events_weigh = weighs plan raw_weight timed
      ∙ sum-same (domain_weight plan raw_weight) (domain_weight plan (event_weight plan patches)) (domains_of plan)
      (λ d i. let l = In-range_out d 1 (length plan.domains) i in weight-same plan raw_weight (event_weight plan patches) d (same d (l.0, omega (arith, l.1))))

pub events : EventsAreCounted
events plan split timed =
    omega (arith, all_halves plan (split.in_x * split.in_y) timed, all_weigh plan (split.in_x * split.in_y) timed, events_weigh plan (split.in_x * split.in_y) timed)
