-- Each expression that is read keeps its ranges, its levels and its calls.
use Rattle.std.proofs.Common.{◌≡◌, ℕ, ◌^◌, ◌<◌, ◌≤◌, List, [], ◌∷◌, ◌++◌, length, append_assoc, sym, ap, ◌∙◌, subst, subst₂, arith}
use Rattle.std.specs.List.{All, AllByRecursion}
use Rattle.std.proofs.lemmas.List.Elements.{All-nil, All-cons, All-append}
use Rattle.wf_model.specs.declared.expr.Expr.{Expr, Expr-F, roll-Expr, map-Expr}
use Rattle.wf_model.specs.declared.expr.Args.{Args}
use Rattle.wf_model.specs.declared.expr.Args.TheOpen as e
use Rattle.wf_model.specs.declared.table.Names.{Names}
use Rattle.wf_model.specs.declared.table.HookKind.TheVariants.{Call}
use Rattle.wf_model.specs.Reads.{Read, reads_of, layer_reads}
use Rattle.wf_model.specs.ExprFacts.{CallOf, Parts, ArgumentParts, no_parts, parts_of, parts_of_both, divided, call_parts, layer_parts, IsNearRead}
use Rattle.wf_model.specs.ExprText.{Tree, arguments_tree}
use Rattle.wf_model.specs.Sound.{IsHook}
use Rattle.wf_table_laws.proofs.Layers.{parts_in, reads_in, parts_roll, reads_roll, parts_more, reads_more}
use Rattle.wf_table_laws.proofs.Rules.{Rules}
use Rattle.wf_table_laws.proofs.Tokens.{most_dk-within}
use Rattle.wf_table_laws.specs.ItemLaws.{IsKnownRead}

abbrev pub IsDivisor : ℕ → Type 0
IsDivisor n = (1 ≤ n) × (n < 2 ^ 63)

abbrev pub IsNumber : ℕ → Type 0
IsNumber n = n < 2 ^ 63

-- a call of one of the names
abbrev pub IsCallOf : Names → CallOf → Type 0
IsCallOf names c = IsHook names.hooks c.id Call c.arguments

-- a near read of a level that is there
abbrev pub IsReadOf : Names → Read → Type 0
IsReadOf names r = IsNearRead r × IsKnownRead names r

-- what is collected of an expression keeps this
pub record Collects (names : Names) (p : Parts) (rs : List Read) : Type 0 where
  pub divisors : All IsDivisor p.divisors
  pub numbers : All IsNumber p.numbers
  pub calls : All (IsCallOf names) p.calls
  pub reads : All (IsReadOf names) rs

abbrev pub Keeps : Names → Expr → Type 0
Keeps names x = Collects names (parts_of x) (reads_of x)

module _ (names : Names) where
  nothing : Collects names no_parts []
  nothing = record { divisors = All-nil IsDivisor; numbers = All-nil IsNumber; calls = All-nil (IsCallOf names); reads = All-nil (IsReadOf names) }

  both : (p q : Parts) (rs ss : List Read) → Collects names p rs → Collects names q ss → Collects names (parts_of_both p q) (rs ++ ss)
  both p q rs ss a b = record {
    divisors = All-append IsDivisor p.divisors q.divisors a.divisors b.divisors;
    numbers = All-append IsNumber p.numbers q.numbers a.numbers b.numbers;
    calls = All-append (IsCallOf names) p.calls q.calls a.calls b.calls;
    reads = All-append (IsReadOf names) rs ss a.reads b.reads;
  }

  -- an expression of one layer
  rolled : (x : Expr-F Args Expr)
      → Collects names (layer_parts (map-Expr Args Expr ArgumentParts Parts parts_in parts_of x)) (layer_reads (map-Expr Args Expr (List Read) (List Read) reads_in reads_of x))
      → Keeps names (roll-Expr x)
  rolled x h = subst₂ (Collects names) (sym (parts_roll x)) (sym (reads_roll x)) h

  divides : (p : Parts) (rs : List Read) (n : ℕ) → 1 ≤ n → n < 2 ^ 63 → Collects names p rs → Collects names (divided p n) rs
  divides p rs n low high a = record {
    divisors = All-append IsDivisor p.divisors (n ∷ []) a.divisors (All-cons IsDivisor n [] (low, high) (All-nil IsDivisor));
    numbers = a.numbers;
    calls = a.calls;
    reads = a.reads;
  }

  -- the arguments of a call, and how many they are
  listed : (trees : List Tree) → AllByRecursion (λ t. Keeps names (Tree.expr t)) trees
      → Collects names (parts_in (arguments_tree trees)).parts (reads_in (arguments_tree trees)) × ((parts_in (arguments_tree trees)).count ≡ length trees)
  listed [] all =
      (subst₂ (λ (p : ArgumentParts) rs. Collects names p.parts rs) (sym (parts_more e.End)) (sym (reads_more e.End)) nothing, ap (λ (p : ArgumentParts). p.count) (parts_more e.End))
  listed (t ∷ ts) all =
      let rest = listed ts all.1 in (
        subst₂ (λ (p : ArgumentParts) rs. Collects names p.parts rs) (sym (parts_more (e.More t.expr (arguments_tree ts)))) (sym (reads_more (e.More t.expr (arguments_tree ts))))
            (both (parts_of t.expr) (parts_in (arguments_tree ts)).parts (reads_of t.expr) (reads_in (arguments_tree ts)) all.0 rest.0),
        ap (λ (p : ArgumentParts). p.count) (parts_more (e.More t.expr (arguments_tree ts))) ∙ omega (arith, rest.1),
      )

  -- a call behind the calls of its arguments
  called : (id : ℕ) (list : ArgumentParts) (rs : List Read) → IsHook names.hooks id Call list.count → Collects names list.parts rs → Collects names (call_parts id list) rs
  called id list rs hook a = record {
    divisors = a.divisors;
    numbers = a.numbers;
    calls = All-append (IsCallOf names) list.parts.calls (record { id = id; arguments = list.count } ∷ []) a.calls (All-cons (IsCallOf names) (record { id = id; arguments = list.count }) [] hook (All-nil (IsCallOf names)));
    reads = a.reads;
  }

  of_four : (p q r s : Parts) (as_ bs cs ds : List Read) → Collects names p as_ → Collects names q bs → Collects names r cs → Collects names s ds
      → Collects names (parts_of_both (parts_of_both p q) (parts_of_both r s)) (as_ ++ bs ++ cs ++ ds)
  of_four p q r s as_ bs cs ds a b c d =
      subst (Collects names (parts_of_both (parts_of_both p q) (parts_of_both r s))) (sym (append_assoc (as_ ++ bs) cs ds))
      (both (parts_of_both p q) (parts_of_both r s) (as_ ++ bs) (cs ++ ds) (both p q as_ bs a b) (both r s cs ds c d))

  two : (a b : Expr) → Keeps names a → Keeps names b → Collects names (parts_of_both (parts_of a) (parts_of b)) (reads_of a ++ reads_of b)
  two a b p q = both (parts_of a) (parts_of b) (reads_of a) (reads_of b) p q

  -- every rule keeps it
  pub rules : Rules names (Keeps names)
  rules = record {
    num = λ n small. rolled (e.Num n) (record { divisors = All-nil IsDivisor; numbers = All-cons IsNumber n [] small (All-nil IsNumber); calls = All-nil (IsCallOf names); reads = All-nil (IsReadOf names) });
    i = rolled e.I nothing;
    j = rolled e.J nothing;
    k = rolled e.K nothing;
    step = rolled e.Step nothing;
    read = λ f di dk dj level hi hk hj. rolled (e.Read f di dk dj) (record {
      divisors = All-nil IsDivisor;
      numbers = All-nil IsNumber;
      calls = All-nil (IsCallOf names);
      reads = All-cons (IsReadOf names) (record { field = f; di = di; dk = dk; dj = dj }) [] ((hi, omega (arith, hk, most_dk-within names f), hj), record { level = level; near = hk }) (All-nil (IsReadOf names));
    });
    neg = λ a h. rolled (e.Neg a) h;
    add = λ a b p q. rolled (e.Add a b) (two a b p q);
    sub = λ a b p q. rolled (e.Sub a b) (two a b p q);
    mul = λ a b p q. rolled (e.Mul a b) (two a b p q);
    div = λ a n low high p. rolled (e.Div a n) (divides (parts_of a) (reads_of a) n low high p);
    mod_ = λ a n low high p. rolled (e.Mod a n) (divides (parts_of a) (reads_of a) n low high p);
    min_ = λ a b p q. rolled (e.Min a b) (two a b p q);
    max_ = λ a b p q. rolled (e.Max a b) (two a b p q);
    choice = λ t a b c d p q r s. rolled (e.If t a b c d)
        (of_four (parts_of a) (parts_of b) (parts_of c) (parts_of d) (reads_of a) (reads_of b) (reads_of c) (reads_of d) p q r s);
    call = λ id trees hook all.
        let list = listed trees all in
        rolled (e.Call id (arguments_tree trees)) (called id (parts_in (arguments_tree trees)) (reads_in (arguments_tree trees)) (subst (IsHook names.hooks id Call) (sym list.1) hook) list.0);
  }
