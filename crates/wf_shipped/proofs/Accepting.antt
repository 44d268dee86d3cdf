-- The shipped functions accept each list of three numbers.
use Rattle.std.proofs.Common.{List, [], ◌∷◌, codes, sym, subst, lit<, lit≤, ◌≡◌}
use Rattle.std.proofs.lemmas.List.Elements.{All-cons, All-nil}
use Rattle.wf_model.specs.declared.table.HookName.{HookName}
use Rattle.wf_model.specs.declared.table.HookKind.TheVariants.{Call}
use Rattle.wf_model.specs.Hooks.{HasFewArguments}
use Rattle.wf_hooks.specs.Accepts.{AcceptsCalls, AcceptsHooks}
use Rattle.wf_shipped.specs.Shipping.{AcceptsShipped, shipped_hooks}

limit : HookName
limit = record { name = codes "limit"; id = 0; kind = Call; arity = 3 }

relax : HookName
relax = record { name = codes "relax"; id = 1; kind = Call; arity = 3 }

shipped : AcceptsHooks AcceptsShipped shipped_hooks
unfolding limit relax
shipped = record {
  few = All-cons HasFewArguments limit (relax ∷ []) (λ kind. lit≤ tt) (All-cons HasFewArguments relax [] (λ kind. lit≤ tt) (All-nil HasFewArguments));
  calls = All-cons (AcceptsCalls AcceptsShipped) limit (relax ∷ []) (λ kind zs long fit. record { shipped = lit< tt; three = long; fit = fit })
      (All-cons (AcceptsCalls AcceptsShipped) relax [] (λ kind zs long fit. record { shipped = lit< tt; three = long; fit = fit }) (All-nil (AcceptsCalls AcceptsShipped)));
}

pub accepted : (hooks : List HookName) → hooks ≡ shipped_hooks → AcceptsHooks AcceptsShipped hooks
accepted hooks is = subst (AcceptsHooks AcceptsShipped) (sym is) shipped
