-- The posting halves of an emit.
use Rattle.std.proofs.Common.{◌≡◌, ℕ, zero, suc, ◌==◌, if◌then◌else◌, Bool, true, false, List, [], ◌∷◌, ◌++◌, length, Some, refl, ap, sym, ◌∙◌, subst}
use Rattle.std.specs.Prelude.{slice_get}
use Rattle.std.proofs.lemmas.Bool.{eq-eqb, eqb-true}
use Rattle.wf_model.specs.declared.plan.Plan.{Plan}
use Rattle.wf_model.specs.declared.plan.Item.{Item}
use Rattle.wf_model.specs.declared.plan.Item.TheVariants as item
use Rattle.wf_model.specs.declared.script.Act.{Act}
use Rattle.wf_model.specs.declared.script.Act.TheVariants.{Start, Force, Feedback, Table, Emit}
use Rattle.wf_model.specs.declared.script.Entry.{Entry}
use Rattle.wf_model.specs.Plans.{domain_of, item_of}
use Rattle.wf_model.specs.Halves.{sends, takes, posts, act_halves, item_halves}
use Rattle.wf_model.specs.Streams.{stream_levels}
use Rattle.wf_core_laws.proofs.Members.{Has}

-- at an emit the patches of its domain have one half, which posts
pub posts-at : (plan : Plan) (e : Entry) (s : ℕ) (act : Act) → act ≡ Emit s → slice_get (act_halves plan e.domain e act) 0 ≡ Some (posts (stream_levels plan s))
posts-at plan e s act a = ap (λ (y : Act). slice_get (act_halves plan e.domain e y) 0) a ∙ rw (eq-eqb e.domain e.domain refl) refl

-- and no other half
pub posts-one : (plan : Plan) (e : Entry) (s : ℕ) (act : Act) → act ≡ Emit s → length (act_halves plan e.domain e act) ≡ 1
posts-one plan e s act a = ap (λ (y : Act). length (act_halves plan e.domain e y)) a ∙ rw (eq-eqb e.domain e.domain refl) refl

-- a sending and a receiving half are no posting ones
no_posts : (a b : Bool) (i : ℕ) (l : List ℕ) → slice_get ((if a then (sends ∷ []) else []) ++ (if b then (takes ∷ []) else [])) i ≡ Some (posts l) → ⊥
no_posts true true zero l e = absurd (cc (e))
no_posts true true (suc zero) l e = absurd (cc (e))
no_posts true true (suc (suc i)) l e = absurd (cc (e))
no_posts true false zero l e = absurd (cc (e))
no_posts true false (suc i) l e = absurd (cc (e))
no_posts false true zero l e = absurd (cc (e))
no_posts false true (suc i) l e = absurd (cc (e))
no_posts false false i l e = absurd (cc (e))

-- an item of the table has no posting half
item_posts : (b : Bool) (it : Item) (i : ℕ) (l : List ℕ) → slice_get (if b then item_halves it else []) i ≡ Some (posts l) → ⊥
item_posts true (item.Halo parts) i l e = no_posts true true i l e
item_posts true (item.Period parts) i l e = no_posts true true i l e
item_posts true (item.Swap one two) zero l e = absurd (cc (e))
item_posts true (item.Swap one two) (suc i) l e = absurd (cc (e))
item_posts true (item.Phase ph) zero l e = absurd (cc (e))
item_posts true (item.Phase ph) (suc i) l e = absurd (cc (e))
item_posts false it i l e = absurd (cc (e))

-- a posting half is of an emit
pub posts-emit : (plan : Plan) (d : ℕ) (e : Entry) (act : Act) (i : ℕ) (l : List ℕ) → slice_get (act_halves plan d e act) i ≡ Some (posts l) → (s : ℕ) × (act ≡ Emit s)
posts-emit plan d e Start i l h = absurd (no_posts (d == (domain_of plan e.domain).parent) (d == e.domain) i l h)
posts-emit plan d e Force i l h = absurd (no_posts (d == (domain_of plan e.domain).parent) (d == e.domain) i l h)
posts-emit plan d e Feedback i l h = absurd (no_posts (d == e.domain) (d == (domain_of plan e.domain).parent) i l h)
posts-emit plan d e (Table n) i l h = absurd (item_posts (d == e.domain) (item_of plan n) i l h)
posts-emit plan d e (Emit s) i l h = (s, refl)

-- where an emit's half stands the domain is the emit's
posts_here : (b : Bool) (l : List ℕ) (i : ℕ) (m : List ℕ) → slice_get (if b then (posts l ∷ []) else []) i ≡ Some (posts m) → b ≡ true
posts_here true l i m e = refl
posts_here false l i m e = absurd (cc (e))

-- a posting half is one of its entry's domain
pub posts-domain : (plan : Plan) (d : ℕ) (e : Entry) (act : Act) (i : ℕ) (l : List ℕ) → slice_get (act_halves plan d e act) i ≡ Some (posts l) → d ≡ e.domain
posts-domain plan d e Start i l h = absurd (no_posts (d == (domain_of plan e.domain).parent) (d == e.domain) i l h)
posts-domain plan d e Force i l h = absurd (no_posts (d == (domain_of plan e.domain).parent) (d == e.domain) i l h)
posts-domain plan d e Feedback i l h = absurd (no_posts (d == e.domain) (d == (domain_of plan e.domain).parent) i l h)
posts-domain plan d e (Table n) i l h = absurd (item_posts (d == e.domain) (item_of plan n) i l h)
posts-domain plan d e (Emit s) i l h = eqb-true d e.domain (posts_here (d == e.domain) _ i l h)

-- a posting half of an emit posts all levels of its stream
pub posts-levels : (b : Bool) (l : List ℕ) (i : ℕ) (m : List ℕ) → slice_get (if b then (posts l ∷ []) else []) i ≡ Some (posts m) → m ≡ l
posts-levels true l zero m e = let w : posts l ≡ posts m = cc (e) in cc (w)
posts-levels true l (suc i) m e = absurd (cc (e))
posts-levels false l i m e = absurd (cc (e))

-- and it posts levels of the emit's stream
pub posts-among : (plan : Plan) (d : ℕ) (e : Entry) (s : ℕ) (act : Act) → act ≡ Emit s → (i : ℕ) (l : List ℕ) → slice_get (act_halves plan d e act) i ≡ Some (posts l) → (v : ℕ) → Has l v → Has (stream_levels plan s) v
posts-among plan d e s act a i l h v is =
    subst (λ (m : List ℕ). Has m v) (posts-levels (d == e.domain) (stream_levels plan s) i l (ap (λ (y : Act). slice_get (act_halves plan d e y) i) (sym a) ∙ h)) is
