-- Worked cases of the stencil table.
use Rattle.std.specs.Prelude.{ℕ, ◌≡◌, zero, suc, List, [], ◌∷◌, ◌++◌, map, replicate, flat_map, ℤ}
use Rattle.std.specs.Prelude.{pos, negsuc, Some, None, Result, Ok, Err, codes}
use Rattle.std.specs.List.{range_with_len}
use Rattle.wf_model.specs.declared.plan.Item.{Item}
use Rattle.wf_model.specs.declared.plan.Item.TheVariants as item
use Rattle.wf_model.specs.declared.expr.Expr.{Expr, roll-Expr}
use Rattle.wf_model.specs.declared.expr.Args.{roll-Args}
use Rattle.wf_model.specs.declared.expr.Args.TheOpen as e
use Rattle.wf_model.specs.declared.expr.Test.TheVariants.{Less}
use Rattle.wf_model.specs.declared.table.Token.{Token}
use Rattle.wf_model.specs.declared.table.TableKind.{TableKind}
use Rattle.wf_model.specs.declared.table.TableKind.TheVariants.{NotText, BadText, Syntax}
use Rattle.wf_model.specs.declared.table.TableKind.TheVariants.{UnknownField, UnknownName}
use Rattle.wf_model.specs.declared.table.TableKind.TheVariants.{UnknownHook, Arity, ZeroDivisor}
use Rattle.wf_model.specs.declared.table.TableKind.TheVariants.{NotTwoLevels, TooDeep}
use Rattle.wf_model.specs.declared.table.TableKind.TheVariants.{RepeatedPhase, TooLong}
use Rattle.wf_model.specs.declared.table.TableFault.{TableFault}
use Rattle.wf_model.specs.Tokens.{tokens_of}
use Rattle.wf_model.specs.Table.{table_of, item_of_text}
use Rattle.wf_model.specs.GenCase.{lines}
use Rattle.wf_cases.specs.Texts.{fault, table_names}

abbrev pub read : List (List ℕ) → Result (List Item) TableFault
read ls = table_of (lines ls) table_names

abbrev pub refused : ℕ → TableKind → Result (List Item) TableFault
refused n kind = Err (record { line = n; kind = kind })

-- `phase q writes a = ` has 19 bytes, so the expression begins at column 20
pub record TableRefusals : Type 0 where
  pub not_text : table_of (255 ∷ []) table_names ≡ refused 0 NotText
  -- the good lines come first
  pub bad_text : read (codes "halo h24" ∷ codes "swap \"c" ∷ []) ≡ refused 2 BadText
  pub bad_text_waits : read (codes "halo h4" ∷ codes "swap \"c" ∷ []) ≡ refused 1 UnknownName
  pub zero_divisor : read (codes "halo h24" ∷ codes "phase q writes a = a[0,0,0] mod 0" ∷ [])
      ≡ refused 2 ZeroDivisor
  pub unknown_hook : read (codes "halo h24" ∷ codes "phase q writes a = call nosuch(1)" ∷ [])
      ≡ refused 2 UnknownHook
  pub arity : read (codes "phase q writes a = call relax(1, 2)" ∷ []) ≡ refused 1 Arity
  pub unknown_period : read (codes "period p1" ∷ []) ≡ refused 1 UnknownName
  pub unknown_field : read (codes "phase q writes d = 1" ∷ []) ≡ refused 1 UnknownField
  pub repeated_phase : read (codes "phase q writes a = 1" ∷ codes "phase Q writes b = 1" ∷ [])
      ≡ refused 2 RepeatedPhase
  pub taken_phase : read (codes "phase force writes a = 1" ∷ []) ≡ refused 1 (Syntax 7)
  pub one_level : read (codes "swap a" ∷ []) ≡ refused 1 NotTwoLevels
  -- a field without a z letter is read at its one level
  pub far_offset : read (codes "phase q writes a = a[7,0,0]" ∷ []) ≡ refused 1 (Syntax 22)
  pub no_z_letter : read (codes "phase q writes a = a[0,1,0]" ∷ []) ≡ refused 1 (Syntax 24)
  pub at_the_end : read (codes "phase q writes a = 1 +" ∷ []) ≡ refused 1 (Syntax 23)
  pub reserved_word : read (codes "phase q writes if = 1" ∷ []) ≡ refused 1 (Syntax 16)
  -- the words are joined by one blank, over lines that go on
  pub joined_column : read (codes "phase  q   writes a \\" ∷ codes "  = )" ∷ [])
      ≡ refused 1 (Syntax 20)

-- ---- trees

abbrev pub num : ℕ → Expr
num n = roll-Expr (e.Num n)

abbrev pub field : ℕ → ℤ → ℤ → Expr
field f di dj = roll-Expr (e.Read f di (pos 0) dj)

abbrev pub plus : Expr → Expr → Expr
plus a b = roll-Expr (e.Add a b)

abbrev pub minus : Expr → Expr → Expr
minus a b = roll-Expr (e.Sub a b)

-- a phase that writes field 1, without a margin, on all levels
abbrev pub whole_phase : Expr → Result Item TableKind
whole_phase x = Ok (item.Phase (record {
  name = codes "p";
  writes = 1;
  mx = 0;
  my = 0;
  from = 0;
  to = 0;
  extend = 0;
  expr = x;
}))

abbrev pub phase_of : List ℕ → Result Item TableKind
phase_of text = item_of_text table_names [] (codes "phase p writes b = " ++ text)

pub record TableTrees : Type 0 where
  pub columns : map Token.column (tokens_of (codes "a <= 12*(b")) ≡ 1 ∷ 3 ∷ 6 ∷ 8 ∷ 9 ∷ 10 ∷ 11 ∷ []
  pub all_parts : item_of_text table_names []
      (codes "Phase P writes c_2 margin 2 1 levels 1 1 extend 6 = a[-1,0,0] + a[1,0,0]")
      ≡ Ok (item.Phase (record {
        name = codes "p";
        writes = 3;
        mx = 2;
        my = 1;
        from = 1;
        to = 1;
        extend = 6;
        expr = plus (field 0 (negsuc 0) (pos 0)) (field 0 (pos 1) (pos 0));
      }))
  pub swapped : item_of_text table_names [] (codes "swap C") ≡ Ok (item.Swap 2 3)
  -- operators group from the left, and an else branch takes as much as it can
  pub grouping : phase_of (codes "if i < 2 then 1 - 2 - 3 else 4 + 5*6 div 7")
      ≡ whole_phase (roll-Expr (e.If Less (roll-Expr e.I) (num 2)
      (minus (minus (num 1) (num 2)) (num 3))
      (plus (num 4) (roll-Expr (e.Div (roll-Expr (e.Mul (num 5) (num 6))) 7)))))
  pub called : phase_of (codes "call relax(i, 100, 4)") ≡
      whole_phase (roll-Expr (e.Call 1 (roll-Args (e.More (roll-Expr e.I)
      (roll-Args (e.More (num 100) (roll-Args (e.More (num 4) (roll-Args e.End)))))))))

-- ---- limits

-- a number within so many parentheses
abbrev pub nested : ℕ → List ℕ
nested n = replicate n 40 ++ codes "1" ++ replicate n 41

-- 2 ^ (n + 1) - 1 nodes, at a depth of n + 1
abbrev pub balanced : ℕ → List ℕ
balanced zero = codes "1"
balanced (suc n) = codes "min(" ++ balanced n ++ codes "," ++ balanced n ++ codes ")"

abbrev pub many : ℕ → List ℕ
many n = flat_map (λ k. codes "halo h24" ++ 10 ∷ []) (range_with_len 0 n)

pub record TableLimits : Type 0 where
  pub depth_64 : fault (phase_of (nested 63)) ≡ None
  pub depth_65 : fault (phase_of (nested 64)) ≡ Some TooDeep
  pub nodes_1024 : fault (phase_of (codes "-" ++ balanced 9)) ≡ None
  pub nodes_1025 : fault (phase_of (codes "- -" ++ balanced 9)) ≡ Some TooLong
  -- the item after 256 is one too many, whatever it holds
  pub items_257 : fault (table_of (many 256 ++ codes "nonsense") table_names)
      ≡ Some (record { line = 257; kind = TooLong })
