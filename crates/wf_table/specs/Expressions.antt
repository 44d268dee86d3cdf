-- The grammar of expressions in the parts that its reader takes.
use Rattle.std.specs.Prelude.{ℕ, zero, suc, ◌+◌, ◌-◌, ◌<◌, ◌≤◌, ◌==◌, max, not, ◌&&◌, List, length}
use Rattle.std.specs.Prelude.{All, Option, Some, None, Result, Ok, Err, ℤ, if◌then◌else◌, codes}
use Rattle.std.specs.Option.{option_map}
use Rattle.std.specs.Str.{bytes_eq}
use Rattle.wf_model.specs.declared.expr.Test.{Test}
use Rattle.wf_model.specs.declared.expr.Expr.{Expr, roll-Expr}
use Rattle.wf_model.specs.declared.expr.Args.TheOpen as e
use Rattle.wf_model.specs.declared.table.Names.{Names}
use Rattle.wf_model.specs.declared.table.HookName.{HookName}
use Rattle.wf_model.specs.declared.table.TableKind.{TableKind}
use Rattle.wf_model.specs.declared.table.TableKind.TheVariants.{Arity, UnknownHook}
use Rattle.wf_model.specs.Reading.{◌>>=◌, or_fault}
use Rattle.wf_model.specs.Letters.{Text}
use Rattle.wf_model.specs.Tokens.{At, Reader, keyword, is_next, past, expect, name_next, signed}
use Rattle.wf_model.specs.TableNames.{called_hook, level, most_dk}
use Rattle.wf_model.specs.ExprText.{Tree, tree, node, operator, over, divided, test, all_arguments}
use Rattle.wf_model.specs.ExprText.{deepest, arguments_tree, factor_with, factors_below}
use Rattle.wf_table.specs.declared.place.Place.{Place}
use Rattle.wf_table.specs.declared.tree.Binary.{Binary}
use Rattle.wf_table.specs.declared.tree.Binary.TheVariants as binary
use Rattle.wf_table.specs.declared.tree.Product.{Product}
use Rattle.wf_table.specs.declared.tree.Product.TheVariants as product
use Rattle.wf_table.specs.declared.tree.Condition.{Condition as Asked}
use Rattle.wf_table.specs.declared.tree.Tree.{Tree as Read}
use Rattle.wf_table.specs.Place.{at_of}

-- ---- trees

-- a tree as the grammar sees it
abbrev pub tree_of : Read → Tree
tree_of t = record { expr = t.expr; depth = t.depth }

abbrev pub seen : Read × Place → Tree × At
seen x = (tree_of x.0, at_of x.1)

-- an operator over two expressions
abbrev pub made : Binary → Expr → Expr → Expr
made binary.Add a b = roll-Expr (e.Add a b)
made binary.Subtract a b = roll-Expr (e.Sub a b)
made binary.Multiply a b = roll-Expr (e.Mul a b)
made binary.Least a b = roll-Expr (e.Min a b)
made binary.Greatest a b = roll-Expr (e.Max a b)

-- the reading went on, and the tree is at most so deep
abbrev pub Within : ℕ → ℕ → Read × Place → Type 0
Within room tokens x = (x.0.depth ≤ room) × (length x.1.tokens.now < tokens)

-- ---- offsets of a read

-- an offset, and this word behind it
abbrev pub offset_and : Text → ℕ → Reader ℤ
offset_and word most at = signed most at >>= λ x. expect word x.1 >>= λ end. Ok (x.0, end)

-- [ di , dk , dj ]
unfoldable pub offsets : ℕ → Reader (ℤ × ℤ × ℤ)
offsets most at =
    expect (codes "[") at >>= λ a.
    offset_and (codes ",") 6 a >>= λ di.
    offset_and (codes ",") most di.1 >>= λ dk.
    offset_and (codes "]") 6 dk.1 >>= λ dj.
    Ok ((di.0, dk.0, dj.0), dj.1)

-- a level's name and the offsets
unfoldable pub read_of : Names → Reader Tree
read_of names at =
    level names at >>= λ f.
    node f.1 >>= λ counted.
    offsets (most_dk names f.0) counted >>= λ o.
    Ok (tree (roll-Expr (e.Read f.0 (o.0).0 (o.0).1 (o.0).2)) 1, o.1)

-- ---- operators

-- the operator of a sum
abbrev pub sum_operator : Text → Option Binary
sum_operator word =
    if bytes_eq word (codes "+") then Some binary.Add
    else (if bytes_eq word (codes "-") then Some binary.Subtract else None)

-- the operator of a product
abbrev pub product_operator : Text → Option Product
product_operator word =
    if bytes_eq word (codes "*") then Some product.Multiply
    else (if bytes_eq word (codes "div") then Some product.Divide
    else (if bytes_eq word (codes "mod") then Some product.Remainder else None))

-- one operand more behind an operator
unfoldable pub sum_turn : Reader Tree → ℕ → Binary → Tree → At → Result (Tree × At) TableKind
sum_turn right room op left at =
    operator room left at >>= right >>= λ r. Ok (over (made op) left r.0, r.1)

abbrev pub multiplied_by : Reader Tree → Tree → At → Result (Tree × At) TableKind
multiplied_by right left at = right at >>= λ r. Ok (over (made binary.Multiply) left r.0, r.1)

abbrev pub product_by : Reader Tree → Product → Tree → At → Result (Tree × At) TableKind
product_by right product.Multiply left at = multiplied_by right left at
product_by right product.Divide left at = divided (λ a n. roll-Expr (e.Div a n)) left at
product_by right product.Remainder left at = divided (λ a n. roll-Expr (e.Mod a n)) left at

unfoldable pub product_turn : Reader Tree → ℕ → Product → Tree → At → Result (Tree × At) TableKind
product_turn right room op left at = operator room left at >>= product_by right op left

-- a turn, if an operator follows
abbrev pub Turns : Type 0
Turns = Tree → At → Option (Result (Tree × At) TableKind)

abbrev pub sum_turns : Reader Tree → ℕ → Turns
sum_turns right room left at =
    option_map (λ op. sum_turn right room op left at) (sum_operator (keyword at))

abbrev pub product_turns : Reader Tree → ℕ → Turns
product_turns right room left at =
    option_map (λ op. product_turn right room op left at) (product_operator (keyword at))

abbrev pub go_on : Option (Result (Tree × At) TableKind) →
    (Tree × At → Result (Tree × At) TableKind) → Tree → At → Result (Tree × At) TableKind
go_on None next left at = Ok (left, at)
go_on (Some turn) next left at = turn >>= next

-- at most n turns
unfoldable pub chain : Turns → ℕ → Tree → At → Result (Tree × At) TableKind
chain turns zero left at = Ok (left, at)
chain turns (suc n) left at = go_on (turns left at) (λ r. chain turns n r.0 r.1) left at

-- ---- factors, terms and expressions by their room alone

-- a factor
unfoldable pub factor_at : Names → ℕ → Reader Tree
factor_at names room = factor_with names room (factors_below names room)

-- a term
unfoldable pub term_at : Names → ℕ → Reader Tree
term_at names room at = factor_at names room at >>= λ first.
    chain (product_turns (factor_at names (room - 1)) room) (length at.tokens) first.0 first.1

-- an expression
unfoldable pub expr_at : Names → ℕ → Reader Tree
expr_at names room at = term_at names room at >>= λ first.
    chain (sum_turns (term_at names (room - 1)) room) (length at.tokens) first.0 first.1

-- ---- parts of a factor, each of which an expression reads

-- an expression, and this word behind it
unfoldable pub inside_and : Text → Reader Tree → Reader Tree
inside_and word inside at = inside at >>= λ r. expect word r.1 >>= λ end. Ok (r.0, end)

-- two expressions in parentheses, which a node is made of
unfoldable pub pair_of : Binary → Reader Tree → Reader Tree
pair_of op inside at =
    node at >>= λ counted.
    expect (codes "(") (past counted) >>= λ open_.
    inside_and (codes ",") inside open_ >>= λ a.
    inside_and (codes ")") inside a.1 >>= λ b.
    Ok (over (made op) a.0 b.0, b.1)

-- what an `if` asks: two sides and a test
pub record Condition : Type 0 where
  pub test : Test
  pub left : Tree
  pub right : Tree

-- a condition as the grammar sees it
abbrev pub asked : Asked → Condition
asked x = record { test = x.test; left = tree_of x.left; right = tree_of x.right }

-- a < b then
unfoldable pub condition_of : Reader Tree → Reader Condition
condition_of inside at =
    inside at >>= λ a.
    test a.1 >>= λ t.
    inside_and (codes "then") inside t.1 >>= λ b.
    Ok (record { test = t.0; left = a.0; right = b.0 }, b.1)

-- c else d
unfoldable pub branches_of : Reader Tree → Reader (Tree × Tree)
branches_of inside at =
    inside_and (codes "else") inside at >>= λ c.
    inside c.1 >>= λ d.
    Ok ((c.0, d.0), d.1)

abbrev pub chosen : Condition → Tree → Tree → Tree
chosen x y z = tree (roll-Expr (e.If x.test (x.left).expr (x.right).expr y.expr z.expr))
    (1 + max (max (x.left).depth (x.right).depth) (max y.depth z.depth))

unfoldable pub choice_of : Reader Tree → Reader Tree
choice_of inside at =
    node at >>= λ counted.
    condition_of inside (past counted) >>= λ x.
    branches_of inside x.1 >>= λ y.
    Ok (chosen x.0 (y.0).0 (y.0).1, y.1)

-- in parentheses, one deeper
unfoldable pub parenthesis_of : Reader Tree → Reader Tree
parenthesis_of inside at =
    inside_and (codes ")") inside (past at) >>= λ r. Ok (tree (r.0).expr (1 + (r.0).depth), r.1)

-- `-` and a factor
unfoldable pub negation_of : Reader Tree → Reader Tree
negation_of factor at = node at >>= λ counted. factor (past counted) >>= λ r.
    Ok (tree (roll-Expr (e.Neg (r.0).expr)) (1 + (r.0).depth), r.1)

-- ---- calls

-- `call` NAME (
unfoldable pub called_at : Names → Reader HookName
called_at names at =
    node at >>= λ counted.
    name_next (past counted) >>= λ name.
    or_fault (called_hook names name) UnknownHook >>= λ h.
    expect (codes "(") (past (past counted)) >>= λ open_.
    Ok (h, open_)

-- the call, whose arguments end in `)` and are as many as the function takes
unfoldable pub call_of : HookName → List Tree → Reader Tree
call_of h trees at =
    (if is_next (codes ")") at && not (length trees == h.arity) then Err Arity
    else expect (codes ")") at) >>= λ end.
    Ok (tree (roll-Expr (e.Call h.id (arguments_tree trees))) (1 + deepest trees), end)

unfoldable pub call_at : Names → Reader Tree → Reader Tree
call_at names inside at =
    called_at names at >>= λ h.
    all_arguments inside h.1 >>= λ as_.
    call_of h.0 as_.0 as_.1

-- each tree is less deep
abbrev pub AllBelow : ℕ → List Read → Type 0
AllBelow depth trees = All (λ t. Read.depth t < depth) trees
