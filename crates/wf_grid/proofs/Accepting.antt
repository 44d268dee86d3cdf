-- The calls of a plan are accepted, where its stored functions accept what they may be called on.
use Rattle.std.proofs.Common.{ℕ, ◌≤◌, List, get_or, sym, subst, ◌∙◌}
use Rattle.std.specs.Prelude.{ℤ}
use Rattle.std.specs.List.{All}
use Rattle.wf_model.specs.declared.table.HookName.{HookName}
use Rattle.wf_model.specs.declared.table.HookKind.TheVariants.{Call}
use Rattle.wf_model.specs.declared.plan.Item.{Item}
use Rattle.wf_model.specs.declared.plan.Item.TheVariants as item
use Rattle.wf_model.specs.ExprFacts.{CallOf, parts_of}
use Rattle.wf_model.specs.Sound.{IsHook, CallsHooks}
use Rattle.wf_model.specs.Hooks.{HasFewArguments}
use Rattle.wf_hooks.specs.Accepts.{AcceptsCalls, AcceptsHooks}
use Rattle.wf_eval.specs.Evaluable.{IsAccepted}
use Rattle.wf_grid.specs.Takeable.{CallsAreAccepted}

module _ (accepts : ℕ → List ℤ → Type 0) (hooks : List HookName) (ok : AcceptsHooks accepts hooks) where
  -- a call of one of them
  accepted_call : (c : CallOf) → IsHook hooks c.id Call c.arguments → IsAccepted accepts c
  accepted_call c is =
      let few : HasFewArguments is.1 = subst HasFewArguments is.3 (ok.few is.0 is.1 is.2) in
      let calls : AcceptsCalls accepts is.1 = subst (AcceptsCalls accepts) is.3 (ok.calls is.0 is.1 is.2) in
      record {
        few = subst (λ n. n ≤ 8) is.4.2 (few is.4.1);
        each = λ zs long fit. subst (λ id. accepts id zs) is.4.0 (calls is.4.1 zs (long ∙ sym is.4.2) fit);
      }

  accepted_item : (it : Item) → CallsHooks hooks it → CallsAreAccepted accepts it
  accepted_item (item.Halo parts) calls = tt
  accepted_item (item.Period parts) calls = tt
  accepted_item (item.Swap one two) calls = tt
  accepted_item (item.Phase ph) calls = λ n d h. accepted_call (get_or (parts_of ph.expr).calls n d) (calls n d h)

  -- those of a plan's items
  pub accepted_items : (items : List Item) → All (CallsHooks hooks) items → All (CallsAreAccepted accepts) items
  accepted_items items calls = λ n d h. accepted_item (get_or items n d) (calls n d h)
