-- Each arm of the walk: its operands are smaller, and the first read outside among theirs is the expression's.
use Rattle.std.proofs.Common.{◌≡◌, [], ◌∷◌, ◌++◌, refl, to_z, of_z, sym, ap, ap₂, ◌∙◌, arith, rules}
use Rattle.std.specs.Prelude.{FitsSigned}
use Rattle.std.proofs.lemmas.Int.{to_z-of_z}
use mir.Syntax.{w32}
use Rattle.wf_model.specs.Reads.{Read, reads_of}
use Rattle.wf_plan_reads.specs.Regions.{is_outside}
use Rattle.wf_plan_reads.specs.Sizes.{reads_of_list, size_of, size_of_list}
use Rattle.wf_plan_reads.proofs.Layers.{reads-Num, reads-I, reads-J, reads-K, reads-Step, reads-Read, reads-Neg, reads-Div, reads-Mod, reads-Add, reads-Sub, reads-Mul, reads-Min, reads-Max, reads-If, reads-Call, reads-End, reads-More, size-Neg, size-Div, size-Mod, size-Add, size-Sub, size-Mul, size-Min, size-Max, size-If, size-Call, size-More}
use Rattle.wf_plan_reads.proofs.FirstReads.{in_first, in_second, in_none, in_same, pair_is}
use Rattle.wf_plan_reads.proofs.walk.+walk.Goals as goal

pub first_outside-returns-in-I : goal.first_outside-returns-in-I
first_outside-returns-in-I t c = in_none (is_outside c.args.bounds.now) (reads_of c.args.expression.now) (reads-I c.args.expression.now c.in-I.is)

pub first_outside-returns-in-J : goal.first_outside-returns-in-J
first_outside-returns-in-J t c = in_none (is_outside c.args.bounds.now) (reads_of c.args.expression.now) (reads-J c.args.expression.now c.in-J.is)

pub first_outside-returns-in-K : goal.first_outside-returns-in-K
first_outside-returns-in-K t c = in_none (is_outside c.args.bounds.now) (reads_of c.args.expression.now) (reads-K c.args.expression.now c.in-K.is)

pub first_outside-returns-in-Step : goal.first_outside-returns-in-Step
first_outside-returns-in-Step t c = in_none (is_outside c.args.bounds.now) (reads_of c.args.expression.now) (reads-Step c.args.expression.now c.in-Step.is)

pub first_outside-returns-in-Num : goal.first_outside-returns-in-Num
first_outside-returns-in-Num t c = in_none (is_outside c.args.bounds.now) (reads_of c.args.expression.now) (reads-Num c.args.expression.now _ c.in-Num.is)

pub first_outside-returns-in-Read : goal.first_outside-returns-in-Read
first_outside-returns-in-Read t c =
    let fi : FitsSigned w32 c.in-Read.di = search rules in
    let fk : FitsSigned w32 c.in-Read.dk = search rules in
    let fj : FitsSigned w32 c.in-Read.dj = search rules in
    let same : ◌≡◌ {A = Read} (record { field = c.in-Read.field; di = to_z w32 (of_z w32 c.in-Read.di); dk = to_z w32 (of_z w32 c.in-Read.dk); dj = to_z w32 (of_z w32 c.in-Read.dj) })
    (record { field = c.in-Read.field; di = c.in-Read.di; dk = c.in-Read.dk; dj = c.in-Read.dj }) =
    λ n. record { field = c.in-Read.field; di = to_z-of_z w32 c.in-Read.di fi n; dk = to_z-of_z w32 c.in-Read.dk fk n; dj = to_z-of_z w32 c.in-Read.dj fj n } in
    in_same (is_outside c.args.bounds.now) _ (reads_of c.args.expression.now) c.outside.result (reads-Read c.args.expression.now c.in-Read.field c.in-Read.di c.in-Read.dk c.in-Read.dj c.in-Read.is ∙ ap (λ r. r ∷ []) (sym same)) c.outside.ensures

pub first_outside-first_outside-requires : goal.first_outside-first_outside-requires
first_outside-first_outside-requires t c = (omega (arith, c.decreases, size-Neg c.args.expression.now c.in-Neg.a c.in-Neg.is, ap size_of c.get.ensures), tt)

pub first_outside-returns-in-Neg : goal.first_outside-returns-in-Neg
first_outside-returns-in-Neg t c =
    in_same (is_outside c.args.bounds.now) (reads_of c.get.result.now) (reads_of c.args.expression.now) c.first_outside.result (reads-Neg c.args.expression.now c.in-Neg.a c.in-Neg.is ∙ ap reads_of (sym c.get.ensures)) c.first_outside.ensures

pub first_outside-first_outside-requires-in-Div : goal.first_outside-first_outside-requires-in-Div
first_outside-first_outside-requires-in-Div t c = (omega (arith, c.decreases, size-Div c.args.expression.now c.in-Div.a _ c.in-Div.is, ap size_of c.get-in-Div.ensures), tt)

pub first_outside-returns-in-Div : goal.first_outside-returns-in-Div
first_outside-returns-in-Div t c =
    in_same (is_outside c.args.bounds.now) (reads_of c.get-in-Div.result.now) (reads_of c.args.expression.now) c.first_outside-in-Div.result (reads-Div c.args.expression.now c.in-Div.a _ c.in-Div.is ∙ ap reads_of (sym c.get-in-Div.ensures)) c.first_outside-in-Div.ensures

pub first_outside-first_outside-requires-in-Mod : goal.first_outside-first_outside-requires-in-Mod
first_outside-first_outside-requires-in-Mod t c = (omega (arith, c.decreases, size-Mod c.args.expression.now c.in-Mod.a _ c.in-Mod.is, ap size_of c.get-in-Mod.ensures), tt)

pub first_outside-returns-in-Mod : goal.first_outside-returns-in-Mod
first_outside-returns-in-Mod t c =
    in_same (is_outside c.args.bounds.now) (reads_of c.get-in-Mod.result.now) (reads_of c.args.expression.now) c.first_outside-in-Mod.result (reads-Mod c.args.expression.now c.in-Mod.a _ c.in-Mod.is ∙ ap reads_of (sym c.get-in-Mod.ensures)) c.first_outside-in-Mod.ensures

pub first_outside-first_of_two-requires : goal.first_outside-first_of_two-requires
first_outside-first_of_two-requires t c = (omega (arith, c.decreases, size-Add c.args.expression.now c.in-Add.a c.in-Add.b c.in-Add.is, ap size_of c.get-in-Add.ensures, ap size_of c.get-in-Add-2.ensures), tt)

pub first_outside-returns-in-Add : goal.first_outside-returns-in-Add
first_outside-returns-in-Add t c =
    in_same (is_outside c.args.bounds.now) (reads_of c.get-in-Add.result.now ++ reads_of c.get-in-Add-2.result.now) (reads_of c.args.expression.now) c.first_of_two.result
    (reads-Add c.args.expression.now c.in-Add.a c.in-Add.b c.in-Add.is ∙ sym (pair_is (is_outside c.args.bounds.now) c.get-in-Add.result.now c.get-in-Add-2.result.now c.in-Add.a c.in-Add.b c.get-in-Add.ensures c.get-in-Add-2.ensures)) c.first_of_two.ensures

pub first_outside-first_of_two-requires-in-Sub : goal.first_outside-first_of_two-requires-in-Sub
first_outside-first_of_two-requires-in-Sub t c = (omega (arith, c.decreases, size-Sub c.args.expression.now c.in-Sub.a c.in-Sub.b c.in-Sub.is, ap size_of c.get-in-Sub.ensures, ap size_of c.get-in-Sub-2.ensures), tt)

pub first_outside-returns-in-Sub : goal.first_outside-returns-in-Sub
first_outside-returns-in-Sub t c =
    in_same (is_outside c.args.bounds.now) (reads_of c.get-in-Sub.result.now ++ reads_of c.get-in-Sub-2.result.now) (reads_of c.args.expression.now) c.first_of_two-in-Sub.result
    (reads-Sub c.args.expression.now c.in-Sub.a c.in-Sub.b c.in-Sub.is ∙ sym (pair_is (is_outside c.args.bounds.now) c.get-in-Sub.result.now c.get-in-Sub-2.result.now c.in-Sub.a c.in-Sub.b c.get-in-Sub.ensures c.get-in-Sub-2.ensures)) c.first_of_two-in-Sub.ensures

pub first_outside-first_of_two-requires-in-Mul : goal.first_outside-first_of_two-requires-in-Mul
first_outside-first_of_two-requires-in-Mul t c = (omega (arith, c.decreases, size-Mul c.args.expression.now c.in-Mul.a c.in-Mul.b c.in-Mul.is, ap size_of c.get-in-Mul.ensures, ap size_of c.get-in-Mul-2.ensures), tt)

pub first_outside-returns-in-Mul : goal.first_outside-returns-in-Mul
first_outside-returns-in-Mul t c =
    in_same (is_outside c.args.bounds.now) (reads_of c.get-in-Mul.result.now ++ reads_of c.get-in-Mul-2.result.now) (reads_of c.args.expression.now) c.first_of_two-in-Mul.result
    (reads-Mul c.args.expression.now c.in-Mul.a c.in-Mul.b c.in-Mul.is ∙ sym (pair_is (is_outside c.args.bounds.now) c.get-in-Mul.result.now c.get-in-Mul-2.result.now c.in-Mul.a c.in-Mul.b c.get-in-Mul.ensures c.get-in-Mul-2.ensures)) c.first_of_two-in-Mul.ensures

pub first_outside-first_of_two-requires-in-Min : goal.first_outside-first_of_two-requires-in-Min
first_outside-first_of_two-requires-in-Min t c = (omega (arith, c.decreases, size-Min c.args.expression.now c.in-Min.a c.in-Min.b c.in-Min.is, ap size_of c.get-in-Min.ensures, ap size_of c.get-in-Min-2.ensures), tt)

pub first_outside-returns-in-Min : goal.first_outside-returns-in-Min
first_outside-returns-in-Min t c =
    in_same (is_outside c.args.bounds.now) (reads_of c.get-in-Min.result.now ++ reads_of c.get-in-Min-2.result.now) (reads_of c.args.expression.now) c.first_of_two-in-Min.result
    (reads-Min c.args.expression.now c.in-Min.a c.in-Min.b c.in-Min.is ∙ sym (pair_is (is_outside c.args.bounds.now) c.get-in-Min.result.now c.get-in-Min-2.result.now c.in-Min.a c.in-Min.b c.get-in-Min.ensures c.get-in-Min-2.ensures)) c.first_of_two-in-Min.ensures

pub first_outside-first_of_two-requires-in-Max : goal.first_outside-first_of_two-requires-in-Max
first_outside-first_of_two-requires-in-Max t c = (omega (arith, c.decreases, size-Max c.args.expression.now c.in-Max.a c.in-Max.b c.in-Max.is, ap size_of c.get-in-Max.ensures, ap size_of c.get-in-Max-2.ensures), tt)

pub first_outside-returns-in-Max : goal.first_outside-returns-in-Max
first_outside-returns-in-Max t c =
    in_same (is_outside c.args.bounds.now) (reads_of c.get-in-Max.result.now ++ reads_of c.get-in-Max-2.result.now) (reads_of c.args.expression.now) c.first_of_two-in-Max.result
    (reads-Max c.args.expression.now c.in-Max.a c.in-Max.b c.in-Max.is ∙ sym (pair_is (is_outside c.args.bounds.now) c.get-in-Max.result.now c.get-in-Max-2.result.now c.in-Max.a c.in-Max.b c.get-in-Max.ensures c.get-in-Max-2.ensures)) c.first_of_two-in-Max.ensures

pub first_outside-first_of_two-requires-in-If : goal.first_outside-first_of_two-requires-in-If
first_outside-first_of_two-requires-in-If t c = (omega (arith, c.decreases, size-If c.args.expression.now c.in-If.test c.in-If.left c.in-If.right c.in-If.yes c.in-If.no c.in-If.is, ap size_of c.get-in-If.ensures, ap size_of c.get-in-If-2.ensures), tt)

pub first_outside-first_of_two-requires-in-None : goal.first_outside-first_of_two-requires-in-None
first_outside-first_of_two-requires-in-None t c = (omega (arith, c.decreases, size-If c.args.expression.now c.in-If.test c.in-If.left c.in-If.right c.in-If.yes c.in-If.no c.in-If.is, ap size_of c.get-in-None.ensures, ap size_of c.get-in-None-2.ensures), tt)

pub first_outside-returns-in-Some : goal.first_outside-returns-in-Some
first_outside-returns-in-Some t c =
    in_first (is_outside c.args.bounds.now) (reads_of c.get-in-If.result.now ++ reads_of c.get-in-If-2.result.now)
    (reads_of c.in-If.yes ++ reads_of c.in-If.no) (reads_of c.args.expression.now) c.first_of_two-in-If.result c.in-Some.field
    (reads-If c.args.expression.now c.in-If.test c.in-If.left c.in-If.right c.in-If.yes c.in-If.no c.in-If.is ∙ ap (λ rs. rs ++ (reads_of c.in-If.yes ++ reads_of c.in-If.no)) (sym (pair_is (is_outside c.args.bounds.now) c.get-in-If.result.now c.get-in-If-2.result.now c.in-If.left c.in-If.right c.get-in-If.ensures c.get-in-If-2.ensures)))
    c.first_of_two-in-If.ensures c.in-Some.is

pub first_outside-returns-in-None : goal.first_outside-returns-in-None
first_outside-returns-in-None t c =
    in_second (is_outside c.args.bounds.now) (reads_of c.get-in-If.result.now ++ reads_of c.get-in-If-2.result.now)
    (reads_of c.get-in-None.result.now ++ reads_of c.get-in-None-2.result.now) (reads_of c.args.expression.now) c.first_of_two-in-If.result c.first_of_two-in-None.result
    (reads-If c.args.expression.now c.in-If.test c.in-If.left c.in-If.right c.in-If.yes c.in-If.no c.in-If.is
    ∙ ap₂ (λ xs ys. xs ++ ys) (sym (pair_is (is_outside c.args.bounds.now) c.get-in-If.result.now c.get-in-If-2.result.now c.in-If.left c.in-If.right c.get-in-If.ensures c.get-in-If-2.ensures))
    (sym (pair_is (is_outside c.args.bounds.now) c.get-in-None.result.now c.get-in-None-2.result.now c.in-If.yes c.in-If.no c.get-in-None.ensures c.get-in-None-2.ensures)))
    c.first_of_two-in-If.ensures c.in-None.is c.first_of_two-in-None.ensures

pub first_outside-first_in_list-requires : goal.first_outside-first_in_list-requires
first_outside-first_in_list-requires t c = (omega (arith, c.decreases, size-Call c.args.expression.now c.in-Call.id c.in-Call.arguments c.in-Call.is, ap size_of_list c.get-in-Call.ensures), tt)

pub first_outside-returns-in-Call : goal.first_outside-returns-in-Call
first_outside-returns-in-Call t c =
    in_same (is_outside c.args.bounds.now) (reads_of_list c.get-in-Call.result.now) (reads_of c.args.expression.now) c.first_in_list.result (reads-Call c.args.expression.now c.in-Call.id c.in-Call.arguments c.in-Call.is ∙ ap reads_of_list (sym c.get-in-Call.ensures)) c.first_in_list.ensures

pub first_of_two-returns-in-Some : goal.first_of_two-returns-in-Some
first_of_two-returns-in-Some t c = in_first (is_outside c.args.bounds.now) (reads_of c.args.a.now) (reads_of c.args.b.now) (reads_of c.args.a.now ++ reads_of c.args.b.now) c.first_outside.result c.in-Some.field refl c.first_outside.ensures c.in-Some.is

pub first_of_two-returns-in-None : goal.first_of_two-returns-in-None
first_of_two-returns-in-None t c = in_second (is_outside c.args.bounds.now) (reads_of c.args.a.now) (reads_of c.args.b.now) (reads_of c.args.a.now ++ reads_of c.args.b.now) c.first_outside.result c.first_outside-in-None.result refl c.first_outside.ensures c.in-None.is c.first_outside-in-None.ensures

pub first_in_list-first_outside-requires : goal.first_in_list-first_outside-requires
first_in_list-first_outside-requires t c = (omega (arith, c.decreases, size-More c.args.arguments.now c.in-More.first c.in-More.others c.in-More.is, ap size_of c.get.ensures), tt)

pub first_in_list-first_in_list-requires : goal.first_in_list-first_in_list-requires
first_in_list-first_in_list-requires t c = (omega (arith, c.decreases, size-More c.args.arguments.now c.in-More.first c.in-More.others c.in-More.is, ap size_of_list c.get-in-None.ensures), tt)

pub first_in_list-returns-in-End : goal.first_in_list-returns-in-End
first_in_list-returns-in-End t c = in_none (is_outside c.args.bounds.now) (reads_of_list c.args.arguments.now) (reads-End c.args.arguments.now c.in-End.is)

pub first_in_list-returns-in-Some : goal.first_in_list-returns-in-Some
first_in_list-returns-in-Some t c =
    in_first (is_outside c.args.bounds.now) (reads_of c.get.result.now) (reads_of_list c.in-More.others) (reads_of_list c.args.arguments.now) c.first_outside.result c.in-Some.field
    (reads-More c.args.arguments.now c.in-More.first c.in-More.others c.in-More.is ∙ ap (λ x. reads_of x ++ reads_of_list c.in-More.others) (sym c.get.ensures)) c.first_outside.ensures c.in-Some.is

pub first_in_list-returns-in-None : goal.first_in_list-returns-in-None
first_in_list-returns-in-None t c =
    in_second (is_outside c.args.bounds.now) (reads_of c.get.result.now) (reads_of_list c.get-in-None.result.now) (reads_of_list c.args.arguments.now) c.first_outside.result c.first_in_list.result
    (reads-More c.args.arguments.now c.in-More.first c.in-More.others c.in-More.is ∙ ap₂ (λ x xs. reads_of x ++ reads_of_list xs) (sym c.get.ensures) (sym c.get-in-None.ensures)) c.first_outside.ensures c.in-None.is c.first_in_list.ensures
