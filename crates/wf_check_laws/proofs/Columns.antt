-- A column of patches that repeats the one before it decides as that one does.
use Rattle.std.proofs.Common.{◌≡◌, inl, inr, ⊎_elim, ℕ, ◌+◌, ◌-◌, ◌/◌, ◌%◌, ◌<◌, ◌≤◌, true, refl, sym, subst, ◌∙◌, arith}
use Rattle.std.proofs.lemmas.Nat.{div-mul-add, mod-mul-add}
use Rattle.std.proofs.lemmas.Int.{ints}
use Rattle.std.specs.Prelude.{ℤ, pos, ◌+ℤ◌, ◌-ℤ◌, ◌≤ℤ◌, ◌<ℤ◌, ◌&&◌, ◌||◌, nat_lt, unsigned_abs}
use Rattle.wf_model.specs.declared.plan.Plan.{Plan}
use Rattle.wf_model.specs.declared.plan.Phase.{Phase}
use Rattle.wf_model.specs.declared.plan.Item.TheVariants as item
use Rattle.wf_model.specs.Plans.{domain_of, nx, ny, point_y, is_inside}
use Rattle.wf_model.specs.Changes.{in_region, is_phase_level}
use Rattle.wf_model.specs.Patches.{fine, in_span, in_box, grown, grown_box, cut_unless, block, own_box, is_own, is_place, is_in_domain, region_holds}
use Rattle.wf_model.specs.Covered.{Asked, all_asked, is_cell_covered}
use Rattle.wf_laws.proofs.Bools.{and_left, and_right, or_else, split_bool, less_of}
use Rattle.wf_laws.proofs.Members.{In, In-list_all, Contains-In}
use Rattle.wf_laws.proofs.Spans.{span-low, span-high}
use Rattle.wf_laws.proofs.Places.{whole}
use Rattle.wf_check_laws.specs.Repeats.{look_x, is_away, is_away_x, repeats_x, patch_in, RepeatedColumnsDecideAlike}
use Rattle.wf_check_laws.proofs.Steps.{IsPoint, one_point, moved_grown, moved_plain, uncut, AreEndsAway, IsStep, step_near, at_most_more, asked_member, near_point, near_itself, moved_next}
use Rattle.wf_check_laws.proofs.Alike.{IsAlike, covered_alike}

module _ (plan : Plan) (d : ℕ) where
  -- how many patches in a row
  abbrev many : ℕ
  many = (domain_of plan d).ide - 1

  -- the own span of a patch that is not the last of its row
  own_point : (p x f : ℕ) → p % many ≡ x → x + 1 < many → IsPoint (own_box plan (fine plan d) d p f).x x
  unfolding own_box
  own_point p x f e h = subst (λ (m : ℕ). IsPoint (block m many many (nx plan d f - many)) x) (sym e) (one_point x many (nx plan d f - many) h)

  -- patches of one row have one span in y
  same_other : (p q f : ℕ) → p / ((domain_of plan d).ide - 1) ≡ q / ((domain_of plan d).ide - 1) → (own_box plan (fine plan d) d p f).y ≡ (own_box plan (fine plan d) d q f).y
  unfolding own_box
  same_other p q f e = λ n. block (e n) ((domain_of plan d).jde - 1) ((domain_of plan d).jde - 1) (ny plan d f - ((domain_of plan d).jde - 1))

  -- two neighbours in a row
  record AreNeighbours (p q x : ℕ) : Type 0 where
    other : (f : ℕ) → (own_box plan (fine plan d) d p f).y ≡ (own_box plan (fine plan d) d q f).y
    first : (f : ℕ) → IsPoint (own_box plan (fine plan d) d p f).x x
    second : (f : ℕ) → IsPoint (own_box plan (fine plan d) d q f).x (x + 1)

  -- cells beside them, near or not
  near_alike : (p q x f n m : ℕ) (j i e : ℤ) → AreNeighbours p q x → e ≡ i +ℤ pos 1 → in_box (grown_box n m (own_box plan (fine plan d) d p f)) j i ≡ in_box (grown_box n m (own_box plan (fine plan d) d q f)) j e
  near_alike p q x f n m j i e two is =
      λ k. in_span (grown m (two.other f k)) j && moved_grown (own_box plan (fine plan d) d p f).x (own_box plan (fine plan d) d q f).x x n i e (two.first f) (two.second f) is k

  -- cells that are a place and the next one, and that no end of the domain or of a region parts
  neighbours_alike : (p q x : ℕ) (j i e : ℤ) → AreNeighbours p q x → e ≡ i +ℤ pos 1 → IsStep (domain_of plan d).periodic_x (nx plan d) (λ (ph : Phase). ph.mx) plan.items i e → IsAlike plan d p q j i j e
  unfolding is_own is_in_domain region_holds is_place in_region
  neighbours_alike p q x j i e two is step = record {
    near = λ f n m. near_alike p q x f n m j i e two is;
    own = λ f k. in_span (two.other f k) j && moved_plain (own_box plan (fine plan d) d p f).x (own_box plan (fine plan d) d q f).x x i e (two.first f) (two.second f) is k;
    reached = λ f n k.
        in_span (cut_unless (domain_of plan d).periodic_y 1 (ny plan d f) (grown n (two.other f k))) j && (uncut (domain_of plan d).periodic_x (nx plan d f) (grown n (own_box plan (fine plan d) d p f).x) i (step.here f)
        ∙ moved_grown (own_box plan (fine plan d) d p f).x (own_box plan (fine plan d) d q f).x x n i e (two.first f) (two.second f) is
        ∙ sym (uncut (domain_of plan d).periodic_x (nx plan d f) (grown n (own_box plan (fine plan d) d q f).x) e (step.next f))) k;
    domain = λ f k. in_span (whole (ny plan d f)) j && (step.here f ∙ sym (step.next f)) k;
    region = λ ph k h n.
        (((domain_of plan d).periodic_y || in_span (whole (ny plan d ph.writes)) j) && ((domain_of plan d).periodic_x || (step.here ph.writes ∙ sym (step.next ph.writes)) n))
        && ((is_phase_level plan ph k && is_inside (domain_of plan d).periodic_y ph.my (ny plan d ph.writes) (point_y plan d ph.writes j)) && step.region ph h n);
  }

-- a column that repeats the one before it
record Repeats (plan : Plan) (a : Asked) (x : ℕ) : Type 0 where
  low : look_x a < x
  high : x + look_x a < (domain_of plan a.domain).ide - 1
  not_last : x + 1 < (domain_of plan a.domain).ide - 1
  away : AreEndsAway (domain_of plan a.domain).periodic_x (nx plan a.domain) (λ (ph : Phase). ph.mx) plan.items (look_x a) x

repeats_out : (plan : Plan) (a : Asked) (x : ℕ) → repeats_x plan a x ≡ true → Repeats plan a x
unfolding repeats_x
repeats_out plan a x h =
    let b = and_right (nat_lt (look_x a) x) _ h in
    let c = and_right (nat_lt (x + look_x a) ((domain_of plan a.domain).ide - 1)) _ b in
    let e = and_right (nat_lt (x + 1) ((domain_of plan a.domain).ide - 1)) _ c in
    record {
      low = less_of (look_x a) x (and_left (nat_lt (look_x a) x) _ h);
      high = less_of (x + look_x a) ((domain_of plan a.domain).ide - 1) (and_left (nat_lt (x + look_x a) ((domain_of plan a.domain).ide - 1)) _ b);
      not_last = less_of (x + 1) ((domain_of plan a.domain).ide - 1) (and_left (nat_lt (x + 1) ((domain_of plan a.domain).ide - 1)) _ c);
      away = λ ph m.
          ⊎_elim (λ t. inl t)
          (λ t. let q = In-list_all (is_away_x plan a.domain (look_x a) x) (item.Phase ph) plan.items (or_else (domain_of plan a.domain).periodic_x _ t e) m in
          inr (and_left (is_away (look_x a) x ph.mx) _ q, and_right (is_away (look_x a) x ph.mx) _ q))
          (split_bool (domain_of plan a.domain).periodic_x);
    }

-- the first column repeats none
pub not_first : (plan : Plan) (a : Asked) → repeats_x plan a 0 ≡ true → ⊥
not_first plan a h = let r = repeats_out plan a 0 h in none (look_x a) r.low
  where
    none : (n : ℕ) → n < 0 → ⊥
    none n h = omega arith

-- neighbours of which the second lies in a column that repeats the first one's
neighbours : (plan : Plan) (a : Asked) (p q x k : ℕ) (j i : ℤ) → In (item.Phase a.phase) plan.items → AreNeighbours plan a.domain p q x → Repeats plan a (x + 1) → is_cell_covered plan a p k j i ≡ is_cell_covered plan a q k j (i +ℤ pos 1)
neighbours plan a p q x k j i member two r =
    covered_alike plan a member p q k j i j (i +ℤ pos 1) (near_alike plan a.domain p q x a.phase.writes a.phase.extend a.phase.extend j i (i +ℤ pos 1) two refl)
    (λ t.
    let in_s : in_span (grown a.phase.extend (own_box plan (fine plan a.domain) a.domain p a.phase.writes).x) i ≡ true = and_right (in_span (grown a.phase.extend (own_box plan (fine plan a.domain) a.domain p a.phase.writes).y) j) _ t in
    let point = two.first a.phase.writes in
    let low : ((own_box plan (fine plan a.domain) a.domain p a.phase.writes).x.low -ℤ pos a.phase.extend) ≤ℤ i = span-low (grown a.phase.extend (own_box plan (fine plan a.domain) a.domain p a.phase.writes).x) i in_s in
    let high : i <ℤ ((own_box plan (fine plan a.domain) a.domain p a.phase.writes).x.high +ℤ pos a.phase.extend) = span-high (grown a.phase.extend (own_box plan (fine plan a.domain) a.domain p a.phase.writes).x) i in_s in
    let l : pos (x + 1) ≤ℤ (i +ℤ pos a.phase.extend) = omega (arith, ints, point.low, low) in
    let u : i <ℤ pos (x + 2 + a.phase.extend) = omega (arith, ints, point.high, high) in
    let here = near_itself x a.phase.extend (unsigned_abs a.read.di) i l u in
    let there = near_point x a.phase.extend (unsigned_abs a.read.di) a.read.di i (omega arith) l u in (
      neighbours_alike plan a.domain p q x j i (i +ℤ pos 1) two refl
          (step_near (domain_of plan a.domain).periodic_x (nx plan a.domain) (λ (ph : Phase). ph.mx) plan.items ((domain_of plan a.domain).ide - 1) (look_x a) (x + 1) (λ f. at_most_more ((domain_of plan a.domain).ide - 1) _) r.low r.high r.away i (i +ℤ pos 1) refl here.0 here.1),
      neighbours_alike plan a.domain p q x (j +ℤ a.read.dj) (i +ℤ a.read.di) ((i +ℤ pos 1) +ℤ a.read.di) two (moved_next i a.read.di)
          (step_near (domain_of plan a.domain).periodic_x (nx plan a.domain) (λ (ph : Phase). ph.mx) plan.items ((domain_of plan a.domain).ide - 1) (look_x a) (x + 1) (λ f. at_most_more ((domain_of plan a.domain).ide - 1) _) r.low r.high r.away (i +ℤ a.read.di) ((i +ℤ pos 1) +ℤ a.read.di) (moved_next i a.read.di) there.0 there.1),
    ))

-- a column that repeats the one before it decides as that one does
pub columns_alike : RepeatedColumnsDecideAlike
columns_alike plan a y x k j i asked h =
    let r = repeats_out plan a (x + 1) h in
    let last : x + 1 + 1 < (domain_of plan a.domain).ide - 1 = r.not_last in
    let here : x + 1 < (domain_of plan a.domain).ide - 1 = omega arith in
    let first : x < (domain_of plan a.domain).ide - 1 = omega arith in
    sym (neighbours plan a (patch_in plan a y x) (patch_in plan a y (x + 1)) x k j i (asked_member plan a (Contains-In a (all_asked plan) asked))
    (record {
      other = λ f. same_other plan a.domain (patch_in plan a y x) (patch_in plan a y (x + 1)) f (div-mul-add y ((domain_of plan a.domain).ide - 1) x first ∙ sym (div-mul-add y ((domain_of plan a.domain).ide - 1) (x + 1) here));
      first = λ f. own_point plan a.domain (patch_in plan a y x) x f (mod-mul-add y ((domain_of plan a.domain).ide - 1) x first) here;
      second = λ f. own_point plan a.domain (patch_in plan a y (x + 1)) (x + 1) f (mod-mul-add y ((domain_of plan a.domain).ide - 1) (x + 1) here) last;
    }) r)
