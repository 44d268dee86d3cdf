-- The items of lines, one after the other, as a loop reads them.
use Rattle.std.proofs.Common.{◌≡◌, ℕ, suc, ◌+◌, ◌<◌, ◌≤◌, Bool, true, false, List, [], ◌∷◌, ◌++◌, length, get_or, drop, Option, Result, Ok, Err, refl, sym, ap, ◌∙◌, add-one, drop-cons, if◌then◌else◌}
use Rattle.std.specs.Prelude.{nat_le}
use Rattle.std.proofs.Math.ListN.{drop_of_length-le}
use Rattle.wf_model.specs.declared.text.Line.{Line}
use Rattle.wf_model.specs.declared.plan.Item.{Item}
use Rattle.wf_model.specs.declared.table.Names.{Names}
use Rattle.wf_model.specs.declared.table.TableFault.{TableFault}
use Rattle.wf_model.specs.declared.table.TableKind.TheVariants.{TooLong}
use Rattle.wf_model.specs.Reading.{◌>>=◌, Fails, told_as}
use Rattle.wf_model.specs.Tokens.{joined_text}
use Rattle.wf_model.specs.Table.{fault_in, item_of_text, items_from, most_items}
use Rattle.wf_model.proofs.ReadingLemmas.{Fails-along, Fails-chain}
use Rattle.wf_table.specs.Lines.{item_of_line}

-- the items of a text, or its refusal
abbrev pub Found : Type 0
Found = Result (List Item) TableFault

by_count : (test : Bool) (fault : TableFault) (read : Result Item TableFault) (next : Item → Found)
    → (if test then Err fault else (read >>= next)) ≡ ((if test then Err fault else read) >>= next)
by_count true fault read next = refl
by_count false fault read next = refl

-- a line, and those behind it
line_and : (names : Names) (before : List Item) (l : Line) (ls : List Line)
    → items_from names before (l ∷ ls) ≡ (item_of_line names before l >>= λ i. items_from names (before ++ i ∷ []) ls)
unfolding items_from item_of_line
line_and names before l ls =
    by_count (nat_le most_items (length before)) (fault_in l TooLong) (told_as (fault_in l) (item_of_text names before (joined_text l))) (λ i. items_from names (before ++ i ∷ []) ls)

here : (names : Names) (before : List Item) (k : ℕ) (ls : List Line) (l : Line) → k < length ls → l ≡ get_or ls k l
    → items_from names before (drop k ls) ≡ (item_of_line names before l >>= λ i. items_from names (before ++ i ∷ []) (drop (k + 1) ls))
here names before k ls l lt is =
    rw add-one (ap (items_from names before) (drop-cons ls k l lt ∙ ap (λ x. x ∷ drop (suc k) ls) (sym is)) ∙ line_and names before l (drop (suc k) ls))

-- one item more
pub item_more : (names : Names) (before : List Item) (k : ℕ) (ls : List Line) (l : Line) (i : Item) (total : Found) → k < length ls → l ≡ get_or ls k l
    → item_of_line names before l ≡ Ok i → items_from names before (drop k ls) ≡ total → items_from names (before ++ i ∷ []) (drop (k + 1) ls) ≡ total
item_more names before k ls l i total lt is read so_far =
    sym (here names before k ls l lt is ∙ ap (λ (r : Result Item TableFault). r >>= λ i. items_from names (before ++ i ∷ []) (drop (k + 1) ls)) read) ∙ so_far

-- a line is refused
pub item_fails : (fault : Option TableFault) (names : Names) (before : List Item) (k : ℕ) (ls : List Line) (l : Line) (total : Found) → k < length ls → l ≡ get_or ls k l
    → Fails fault (item_of_line names before l) → items_from names before (drop k ls) ≡ total → Fails fault total
item_fails fault names before k ls l total lt is bad so_far =
    Fails-along fault (items_from names before (drop k ls)) total so_far
    (Fails-along fault _ (items_from names before (drop k ls)) (sym (here names before k ls l lt is)) (Fails-chain fault (item_of_line names before l) _ bad))

-- no line is left
pub items_all : (names : Names) (before : List Item) (k : ℕ) (ls : List Line) (total : Found) → length ls ≤ k → items_from names before (drop k ls) ≡ total → total ≡ Ok before
unfolding items_from
items_all names before k ls total le so_far = sym so_far ∙ ap (items_from names before) (drop_of_length-le ls le)
