-- The trees of a call's arguments.
use Rattle.std.proofs.Common.{◌≡◌, ℕ, suc, ◌+◌, ◌<◌, ◌≤◌, Result, Ok, Err, IfOk, subst, max, List, [], ◌∷◌, ◌++◌, length, map, fold, refl, sym, ap, ◌∙◌, arith}
use Rattle.wf_model.specs.declared.expr.Args.{Args, roll-Args}
use Rattle.wf_model.specs.declared.expr.Args.TheOpen as e
use Rattle.wf_model.specs.ExprText.{Tree, arguments_tree, deepest}
use Rattle.wf_table.specs.declared.tree.Tree.{Tree as Read}
use Rattle.std.proofs.lemmas.List.{map-append}
use Rattle.std.proofs.lemmas.List.Elements.{All-push}
use Rattle.wf_table.specs.Expressions.{AllBelow, Within, tree_of}
use Rattle.wf_table.specs.declared.error.LineError.{LineError}
use Rattle.wf_table.specs.declared.place.Place.{Place}

-- trees in front of a list of arguments
abbrev pub before : List Read → Args → Args
before [] list = list
before (t ∷ ts) list = roll-Args (e.More (Read.expr t) (before ts list))

-- the last tree comes first
before_push : (ts : List Read) (t : Read) (list : Args) → before (ts ++ t ∷ []) list ≡ before ts (roll-Args (e.More (Read.expr t) list))
before_push [] t list = refl
before_push (x ∷ ts) t list = ap (λ a. roll-Args (e.More (Read.expr x) a)) (before_push ts t list)

-- the list of all of them
pub before_end : (ts : List Read) → before ts (roll-Args e.End) ≡ arguments_tree (map tree_of ts)
before_end [] = refl
before_end (t ∷ ts) = ap (λ a. roll-Args (e.More (Read.expr t) a)) (before_end ts)

-- the last tree is taken out
pub before_popped : (ts rest : List Read) (t : Read) (list total : Args) → ts ≡ rest ++ t ∷ [] → before ts list ≡ total → before rest (roll-Args (e.More t.expr list)) ≡ total
before_popped ts rest t list total popped so_far = sym (before_push rest t list) ∙ ap (λ xs. before xs list) (sym popped) ∙ so_far

-- the deepest of some trees
abbrev pub deepest_read : ℕ → List Read → ℕ
deepest_read d ts = fold (λ d t. max d (Read.depth t)) d ts

deepest_is : (ts : List Read) (d : ℕ) → deepest_read d ts ≡ fold (λ d t. max d (Tree.depth t)) d (map tree_of ts)
deepest_is [] d = refl
deepest_is (t ∷ ts) d = deepest_is ts (max d (Read.depth t))

-- ---- how deep they are

below_from : (depth d : ℕ) (ts : List Read) → d < depth → AllBelow depth ts → deepest_read d ts < depth
below_from depth d [] small all = small
below_from depth d (t ∷ ts) small all =
    let here : t.depth < depth = all 0 t (omega arith) in
    let behind : AllBelow depth ts = λ k e h. all (suc k) e (omega (arith, h)) in
    below_from depth (max d t.depth) ts (omega (arith, small, here)) behind

-- the deepest of some trees that are less deep
deepest_below : (depth : ℕ) (ts : List Read) → 0 < depth → AllBelow depth ts → deepest (map tree_of ts) < depth
deepest_below depth ts some all = omega (arith, below_from depth 0 ts some all, deepest_is ts 0)

-- one tree more that is less deep
pub below_push : (depth : ℕ) (ts us : List Read) (t : Read) → us ≡ ts ++ t ∷ [] → AllBelow depth ts → t.depth < depth → AllBelow depth us
below_push depth ts us t is all small =
    let P : Read → Type 0 = λ x. Read.depth x < depth in
    let pushed : AllBelow depth (ts ++ t ∷ []) = All-push P ts t all small in
    subst (AllBelow depth) (sym is) pushed

-- the trees as the grammar sees them
pub seen_push : (ts us : List Read) (t : Read) → us ≡ ts ++ t ∷ [] → map tree_of us ≡ map tree_of ts ++ tree_of t ∷ []
seen_push ts us t is = ap (map tree_of) is ∙ map-append tree_of ts (t ∷ [])

-- a call is one deeper than its arguments
pub call_within : (room n m : ℕ) (ts : List Read) (r : Result (Read × Place) LineError) → AllBelow (room + 1) ts → IfOk r (λ x. (x.0).depth ≡ 1 + deepest (map tree_of ts))
    → IfOk r (λ x. length x.1.tokens.now ≤ m) → m < n → IfOk r (Within (room + 1) n)
call_within room n m ts (Ok x) all deep long less = (omega (arith, deep, deepest_below (room + 1) ts (omega arith) all), omega (arith, long, less))
call_within room n m ts (Err e) all deep long less = tt
