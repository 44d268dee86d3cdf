-- What a list ends as, where its items are lent to be changed.
use Rattle.std.specs.Prelude.{List, ◌++◌, length, take, drop}
use Rattle.std.specs.Borrow.{Lends, Fml, RattleType, MutBor, Array}
use Rattle.wf_model.specs.contracts.list.List.{the_row}

-- with other items, as many as before
abbrev pub with_items : {T : Type 0} → List T → List T → List T
with_items items others = take (length items) (others ++ drop (length others) items)

module _ (T : RattleType) (list : MutBor (List T.Denot)) where
  -- with the items that the loan leaves
  abbrev pub LendsItems : MutBor (List T.Denot) → Fml
  LendsItems loan = Lends (the_row T) (Array T 0) list loan (with_items list.now)
