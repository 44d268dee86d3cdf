-- Each arm of the walk: its operands are smaller, and the greatest of their reaches is the expression's.
use Rattle.std.proofs.Common.{◌≡◌, [], ◌∷◌, ◌++◌, max, to_z, of_z, sym, ap, ap₂, ◌∙◌, arith, rules}
use Rattle.std.specs.Prelude.{FitsSigned}
use Rattle.std.proofs.lemmas.Int.{to_z-of_z}
use mir.Syntax.{w32}
use Rattle.wf_model.specs.Reads.{Read, reads_of}
use Rattle.wf_plan_reads.specs.Sizes.{reads_of_list, size_of, size_of_list}
use Rattle.wf_plan_reads.proofs.Layers.{reads-Num, reads-I, reads-J, reads-K, reads-Step, reads-Read, reads-Neg, reads-Div, reads-Mod, reads-Add, reads-Sub, reads-Mul, reads-Min, reads-Max, reads-If, reads-Call, reads-End, reads-More, size-Neg, size-Div, size-Mod, size-Add, size-Sub, size-Mul, size-Min, size-Max, size-If, size-Call, size-More}
use Rattle.wf_margin.specs.Reaches.{reach_in}
use Rattle.wf_margin.proofs.Greatest.{reach_append, pair_is}
use Rattle.wf_margin.proofs.reaches.+walk.Goals as goal

pub expr_reach-returns-in-Num : goal.expr_reach-returns-in-Num
expr_reach-returns-in-Num t c = ap reach_in (sym (reads-Num c.args.expression.now _ c.in-Num.is))

pub expr_reach-returns-in-I : goal.expr_reach-returns-in-I
expr_reach-returns-in-I t c = ap reach_in (sym (reads-I c.args.expression.now c.in-I.is))

pub expr_reach-returns-in-J : goal.expr_reach-returns-in-J
expr_reach-returns-in-J t c = ap reach_in (sym (reads-J c.args.expression.now c.in-J.is))

pub expr_reach-returns-in-K : goal.expr_reach-returns-in-K
expr_reach-returns-in-K t c = ap reach_in (sym (reads-K c.args.expression.now c.in-K.is))

pub expr_reach-returns-in-Step : goal.expr_reach-returns-in-Step
expr_reach-returns-in-Step t c = ap reach_in (sym (reads-Step c.args.expression.now c.in-Step.is))

pub expr_reach-returns-in-Read : goal.expr_reach-returns-in-Read
expr_reach-returns-in-Read t c =
    let fi : FitsSigned w32 c.in-Read.di = search rules in
    let fk : FitsSigned w32 c.in-Read.dk = search rules in
    let fj : FitsSigned w32 c.in-Read.dj = search rules in
    let same : ◌≡◌ {A = Read} (record { field = c.in-Read.field; di = to_z w32 (of_z w32 c.in-Read.di); dk = to_z w32 (of_z w32 c.in-Read.dk); dj = to_z w32 (of_z w32 c.in-Read.dj) })
    (record { field = c.in-Read.field; di = c.in-Read.di; dk = c.in-Read.dk; dj = c.in-Read.dj }) =
    λ n. record { field = c.in-Read.field; di = to_z-of_z w32 c.in-Read.di fi n; dk = to_z-of_z w32 c.in-Read.dk fk n; dj = to_z-of_z w32 c.in-Read.dj fj n } in
    c.read_reach.ensures ∙ ap (λ r. reach_in (r ∷ [])) same ∙ ap reach_in (sym (reads-Read c.args.expression.now c.in-Read.field c.in-Read.di c.in-Read.dk c.in-Read.dj c.in-Read.is))

pub expr_reach-expr_reach-requires : goal.expr_reach-expr_reach-requires
expr_reach-expr_reach-requires t c = (omega (arith, c.decreases, size-Neg c.args.expression.now c.in-Neg.a c.in-Neg.is, ap size_of c.get.ensures), tt)

pub expr_reach-returns-in-Neg : goal.expr_reach-returns-in-Neg
expr_reach-returns-in-Neg t c =
    c.expr_reach.ensures ∙ ap reach_in (ap reads_of c.get.ensures ∙ sym (reads-Neg c.args.expression.now c.in-Neg.a c.in-Neg.is))

pub expr_reach-expr_reach-requires-in-Div : goal.expr_reach-expr_reach-requires-in-Div
expr_reach-expr_reach-requires-in-Div t c = (omega (arith, c.decreases, size-Div c.args.expression.now c.in-Div.a _ c.in-Div.is, ap size_of c.get-in-Div.ensures), tt)

pub expr_reach-returns-in-Div : goal.expr_reach-returns-in-Div
expr_reach-returns-in-Div t c =
    c.expr_reach-in-Div.ensures ∙ ap reach_in (ap reads_of c.get-in-Div.ensures ∙ sym (reads-Div c.args.expression.now c.in-Div.a _ c.in-Div.is))

pub expr_reach-expr_reach-requires-in-Mod : goal.expr_reach-expr_reach-requires-in-Mod
expr_reach-expr_reach-requires-in-Mod t c = (omega (arith, c.decreases, size-Mod c.args.expression.now c.in-Mod.a _ c.in-Mod.is, ap size_of c.get-in-Mod.ensures), tt)

pub expr_reach-returns-in-Mod : goal.expr_reach-returns-in-Mod
expr_reach-returns-in-Mod t c =
    c.expr_reach-in-Mod.ensures ∙ ap reach_in (ap reads_of c.get-in-Mod.ensures ∙ sym (reads-Mod c.args.expression.now c.in-Mod.a _ c.in-Mod.is))

pub expr_reach-reach_of_two-requires : goal.expr_reach-reach_of_two-requires
expr_reach-reach_of_two-requires t c = (omega (arith, c.decreases, size-Add c.args.expression.now c.in-Add.a c.in-Add.b c.in-Add.is, ap size_of c.get-in-Add.ensures, ap size_of c.get-in-Add-2.ensures), tt)

pub expr_reach-returns-in-Add : goal.expr_reach-returns-in-Add
expr_reach-returns-in-Add t c =
    c.reach_of_two.ensures ∙ ap reach_in (pair_is c.get-in-Add.result.now c.get-in-Add-2.result.now c.in-Add.a c.in-Add.b c.get-in-Add.ensures c.get-in-Add-2.ensures ∙ sym (reads-Add c.args.expression.now c.in-Add.a c.in-Add.b c.in-Add.is))

pub expr_reach-reach_of_two-requires-in-Sub : goal.expr_reach-reach_of_two-requires-in-Sub
expr_reach-reach_of_two-requires-in-Sub t c = (omega (arith, c.decreases, size-Sub c.args.expression.now c.in-Sub.a c.in-Sub.b c.in-Sub.is, ap size_of c.get-in-Sub.ensures, ap size_of c.get-in-Sub-2.ensures), tt)

pub expr_reach-returns-in-Sub : goal.expr_reach-returns-in-Sub
expr_reach-returns-in-Sub t c =
    c.reach_of_two-in-Sub.ensures ∙ ap reach_in (pair_is c.get-in-Sub.result.now c.get-in-Sub-2.result.now c.in-Sub.a c.in-Sub.b c.get-in-Sub.ensures c.get-in-Sub-2.ensures ∙ sym (reads-Sub c.args.expression.now c.in-Sub.a c.in-Sub.b c.in-Sub.is))

pub expr_reach-reach_of_two-requires-in-Mul : goal.expr_reach-reach_of_two-requires-in-Mul
expr_reach-reach_of_two-requires-in-Mul t c = (omega (arith, c.decreases, size-Mul c.args.expression.now c.in-Mul.a c.in-Mul.b c.in-Mul.is, ap size_of c.get-in-Mul.ensures, ap size_of c.get-in-Mul-2.ensures), tt)

pub expr_reach-returns-in-Mul : goal.expr_reach-returns-in-Mul
expr_reach-returns-in-Mul t c =
    c.reach_of_two-in-Mul.ensures ∙ ap reach_in (pair_is c.get-in-Mul.result.now c.get-in-Mul-2.result.now c.in-Mul.a c.in-Mul.b c.get-in-Mul.ensures c.get-in-Mul-2.ensures ∙ sym (reads-Mul c.args.expression.now c.in-Mul.a c.in-Mul.b c.in-Mul.is))

pub expr_reach-reach_of_two-requires-in-Min : goal.expr_reach-reach_of_two-requires-in-Min
expr_reach-reach_of_two-requires-in-Min t c = (omega (arith, c.decreases, size-Min c.args.expression.now c.in-Min.a c.in-Min.b c.in-Min.is, ap size_of c.get-in-Min.ensures, ap size_of c.get-in-Min-2.ensures), tt)

pub expr_reach-returns-in-Min : goal.expr_reach-returns-in-Min
expr_reach-returns-in-Min t c =
    c.reach_of_two-in-Min.ensures ∙ ap reach_in (pair_is c.get-in-Min.result.now c.get-in-Min-2.result.now c.in-Min.a c.in-Min.b c.get-in-Min.ensures c.get-in-Min-2.ensures ∙ sym (reads-Min c.args.expression.now c.in-Min.a c.in-Min.b c.in-Min.is))

pub expr_reach-reach_of_two-requires-in-Max : goal.expr_reach-reach_of_two-requires-in-Max
expr_reach-reach_of_two-requires-in-Max t c = (omega (arith, c.decreases, size-Max c.args.expression.now c.in-Max.a c.in-Max.b c.in-Max.is, ap size_of c.get-in-Max.ensures, ap size_of c.get-in-Max-2.ensures), tt)

pub expr_reach-returns-in-Max : goal.expr_reach-returns-in-Max
expr_reach-returns-in-Max t c =
    c.reach_of_two-in-Max.ensures ∙ ap reach_in (pair_is c.get-in-Max.result.now c.get-in-Max-2.result.now c.in-Max.a c.in-Max.b c.get-in-Max.ensures c.get-in-Max-2.ensures ∙ sym (reads-Max c.args.expression.now c.in-Max.a c.in-Max.b c.in-Max.is))

pub expr_reach-reach_of_two-compared-requires : goal.expr_reach-reach_of_two-compared-requires
expr_reach-reach_of_two-compared-requires t c = (omega (arith, c.decreases, size-If c.args.expression.now c.in-If.test c.in-If.left c.in-If.right c.in-If.yes c.in-If.no c.in-If.is, ap size_of c.get-in-If.ensures, ap size_of c.get-in-If-2.ensures), tt)

pub expr_reach-reach_of_two-chosen-requires : goal.expr_reach-reach_of_two-chosen-requires
expr_reach-reach_of_two-chosen-requires t c = (omega (arith, c.decreases, size-If c.args.expression.now c.in-If.test c.in-If.left c.in-If.right c.in-If.yes c.in-If.no c.in-If.is, ap size_of c.get-in-If-3.ensures, ap size_of c.get-in-If-4.ensures), tt)

pub expr_reach-returns-in-If : goal.expr_reach-returns-in-If
expr_reach-returns-in-If t c =
    c.max.ensures
    ∙ ap₂ max
    (c.reach_of_two-compared.ensures ∙ ap reach_in (pair_is c.get-in-If.result.now c.get-in-If-2.result.now c.in-If.left c.in-If.right c.get-in-If.ensures c.get-in-If-2.ensures))
    (c.reach_of_two-chosen.ensures ∙ ap reach_in (pair_is c.get-in-If-3.result.now c.get-in-If-4.result.now c.in-If.yes c.in-If.no c.get-in-If-3.ensures c.get-in-If-4.ensures))
    ∙ sym (reach_append (reads_of c.in-If.left ++ reads_of c.in-If.right) (reads_of c.in-If.yes ++ reads_of c.in-If.no))
    ∙ ap reach_in (sym (reads-If c.args.expression.now c.in-If.test c.in-If.left c.in-If.right c.in-If.yes c.in-If.no c.in-If.is))

pub expr_reach-list_reach-requires : goal.expr_reach-list_reach-requires
expr_reach-list_reach-requires t c = (omega (arith, c.decreases, size-Call c.args.expression.now c.in-Call.id c.in-Call.arguments c.in-Call.is, ap size_of_list c.get-in-Call.ensures), tt)

pub expr_reach-returns-in-Call : goal.expr_reach-returns-in-Call
expr_reach-returns-in-Call t c =
    c.list_reach.ensures ∙ ap reach_in (ap reads_of_list c.get-in-Call.ensures ∙ sym (reads-Call c.args.expression.now c.in-Call.id c.in-Call.arguments c.in-Call.is))

pub reach_of_two-returns : goal.reach_of_two-returns
reach_of_two-returns t c = c.max.ensures ∙ ap₂ max c.expr_reach-one.ensures c.expr_reach-two.ensures ∙ sym (reach_append (reads_of c.args.a.now) (reads_of c.args.b.now))

pub list_reach-expr_reach-one-requires : goal.list_reach-expr_reach-one-requires
list_reach-expr_reach-one-requires t c = (omega (arith, c.decreases, size-More c.args.arguments.now c.in-More.first c.in-More.others c.in-More.is, ap size_of c.get.ensures), tt)

pub list_reach-list_reach-rest-requires : goal.list_reach-list_reach-rest-requires
list_reach-list_reach-rest-requires t c = (omega (arith, c.decreases, size-More c.args.arguments.now c.in-More.first c.in-More.others c.in-More.is, ap size_of_list c.get-in-More.ensures), tt)

pub list_reach-returns-in-End : goal.list_reach-returns-in-End
list_reach-returns-in-End t c = ap reach_in (sym (reads-End c.args.arguments.now c.in-End.is))

pub list_reach-returns-in-More : goal.list_reach-returns-in-More
list_reach-returns-in-More t c =
    c.max.ensures
    ∙ ap₂ max (c.expr_reach-one.ensures ∙ ap (λ x. reach_in (reads_of x)) c.get.ensures) (c.list_reach-rest.ensures ∙ ap (λ xs. reach_in (reads_of_list xs)) c.get-in-More.ensures)
    ∙ sym (reach_append (reads_of c.in-More.first) (reads_of_list c.in-More.others))
    ∙ ap reach_in (sym (reads-More c.args.arguments.now c.in-More.first c.in-More.others c.in-More.is))
