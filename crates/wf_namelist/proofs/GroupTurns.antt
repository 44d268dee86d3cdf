-- The items of groups, as loops read them.
use Rattle.std.proofs.Common.{◌≡◌, ℕ, suc, ◌+◌, ◌-◌, ◌<◌, ◌≤◌, true, false, List, [], ◌∷◌, ◌++◌, length, Option, Some, None, Result, Ok, Err, refl, sym, ap, ◌∙◌, append_assoc, arith}
use Rattle.std.proofs.lemmas.List.{append-nil}
use Rattle.wf_model.specs.declared.namelist.NamelistFault.{NamelistFault}
use Rattle.wf_model.specs.declared.namelist.NamelistKind.TheVariants.{UnclosedGroup}
use Rattle.wf_model.specs.declared.namelist.Sort.{Sort}
use Rattle.wf_model.specs.declared.namelist.Sort.TheVariants as sort
use Rattle.wf_model.specs.Letters.{Text}
use Rattle.wf_model.specs.Namelist.{Tokens, Found, Item, group_here, group_items, groups, here, is_outside, is_slash, item_name, named_item, refuse, rest}
use Rattle.wf_model.specs.Reading.{◌>>=◌, Fails}
use Rattle.wf_model.proofs.ReadingLemmas.{chain_assoc, with_front, with_front-end, Fails-along, Fails-chain, Fails-front}
use Rattle.wf_namelist.specs.Turns.{item_at}
use Rattle.wf_namelist.specs.Groups.{group_at, group_of}

left : (most i : ℕ) → i < most → most - i ≡ suc (most - (i + 1))
left most i lt = omega arith

-- ---- the items of a group

-- items that were read, in front of those that follow
abbrev pub behind : List Item → Found (List Item) → Found (List Item)
behind front read = read >>= λ r. Ok (front ++ r.0, r.1)

one_more : (front : List Item) (i : Item) (read : Found (List Item)) → behind front (read >>= λ is. Ok (i ∷ is.0, is.1)) ≡ behind (front ++ i ∷ []) read
one_more front i (Ok r) = ap (λ (is : List Item). let found : Found (List Item) = Ok (is, r.1) in found) (sym (append_assoc front (i ∷ []) r.0))
one_more front i (Err f) = refl

-- an item stands here, and the others follow
first_item : (n : ℕ) (group : Text) (ts : Tokens) → is_outside (here ts).sort ≡ false → is_slash (here ts).sort ≡ false
    → group_items (suc n) group ts ≡ (item_at group ts >>= λ i. group_items n group i.1 >>= λ is. Ok (i.0 ∷ is.0, is.1))
unfolding group_items
first_item n group ts inside no_slash = rw (inside, no_slash) (sym (chain_assoc (item_name ts) (λ name. named_item group name ts) (λ i. group_items n group i.1 >>= λ is. Ok (i.0 ∷ is.0, is.1))))

pub after_item : (front : List Item) (i : Item) (next : Tokens) (most k : ℕ) (group : Text) (ts : Tokens) (total : Found (List Item)) → k < most
    → is_outside (here ts).sort ≡ false → is_slash (here ts).sort ≡ false → item_at group ts ≡ Ok (i, next)
    → behind front (group_items (most - k) group ts) ≡ total → behind (front ++ i ∷ []) (group_items (most - (k + 1)) group next) ≡ total
after_item front i next most k group ts total lt inside no_slash read so_far =
    let n = most - (k + 1) in
    sym (one_more front i (group_items n group next))
    ∙ ap (λ (r : Found Item). behind front (r >>= λ i. group_items n group i.1 >>= λ is. Ok (i.0 ∷ is.0, is.1))) (sym read)
    ∙ ap (behind front) (sym (ap (λ m. group_items m group ts) (left most k lt) ∙ first_item n group ts inside no_slash)) ∙ so_far

pub item_fails : (fault : Option NamelistFault) (front : List Item) (most k : ℕ) (group : Text) (ts : Tokens) (total : Found (List Item)) → k < most
    → is_outside (here ts).sort ≡ false → is_slash (here ts).sort ≡ false → Fails fault (item_at group ts)
    → behind front (group_items (most - k) group ts) ≡ total → Fails fault total
item_fails fault front most k group ts total lt inside no_slash bad so_far =
    let n = most - (k + 1) in
    Fails-along fault _ total (ap (behind front) (sym (ap (λ m. group_items m group ts) (left most k lt) ∙ first_item n group ts inside no_slash)) ∙ so_far)
    (Fails-chain fault _ (λ r. Ok (front ++ r.0, r.1)) (Fails-chain fault (item_at group ts) (λ i. group_items n group i.1 >>= λ is. Ok (i.0 ∷ is.0, is.1)) bad))

pub closed : (front : List Item) (most k : ℕ) (group : Text) (ts : Tokens) (total : Found (List Item)) → k < most
    → is_outside (here ts).sort ≡ false → is_slash (here ts).sort ≡ true → behind front (group_items (most - k) group ts) ≡ total → total ≡ Ok (front, rest ts)
unfolding group_items
closed front most k group ts total lt inside slash so_far =
    let one : group_items (suc (most - (k + 1))) group ts ≡ Ok ([], rest ts) = rw (inside, slash) refl in
    sym so_far ∙ ap (behind front) (ap (λ m. group_items m group ts) (left most k lt) ∙ one) ∙ ap (λ (is : List Item). let found : Found (List Item) = Ok (is, rest ts) in found) (append-nil front)

pub left_open : (front : List Item) (most k : ℕ) (group : Text) (ts : Tokens) (total : Found (List Item)) → k < most
    → is_outside (here ts).sort ≡ true → behind front (group_items (most - k) group ts) ≡ total → total ≡ refuse ts UnclosedGroup
unfolding group_items
left_open front most k group ts total lt outside so_far =
    let one : group_items (suc (most - (k + 1))) group ts ≡ refuse ts UnclosedGroup = rw outside refl in
    sym so_far ∙ ap (behind front) (ap (λ m. group_items m group ts) (left most k lt) ∙ one)

pub never_closed : (front : List Item) (most k : ℕ) (group : Text) (ts : Tokens) (total : Found (List Item)) → most ≤ k
    → behind front (group_items (most - k) group ts) ≡ total → total ≡ refuse ts UnclosedGroup
unfolding group_items
never_closed front most k group ts total le so_far =
    let none : most - k ≡ 0 = omega arith in
    sym so_far ∙ ap (λ m. behind front (group_items m group ts)) none

-- ---- groups

-- the items of the groups that follow, after the group that begins here
abbrev following : ℕ → Option (List Item × Tokens) → Result (List Item) NamelistFault
following n None = Ok []
following n (Some is) = groups n is.1 >>= λ more. Ok (is.0 ++ more)

begun : (n : ℕ) (read : Found (List Item)) → (read >>= λ is. groups n is.1 >>= λ more. Ok (is.0 ++ more)) ≡ (read >>= (λ is. Ok (Some is)) >>= following n)
begun n (Ok is) = refl
begun n (Err f) = refl

by_sort : (n : ℕ) (s : Sort) (ts : Tokens) → group_here (groups n) s ts ≡ (group_of s ts >>= following n)
by_sort n (sort.GroupBegins name) ts = begun n (group_items (length ts) name (rest ts))
by_sort n sort.NoName ts = refl
by_sort n other ts = refl

first_group : (n : ℕ) (ts : Tokens) → groups (suc n) ts ≡ (group_at ts >>= following n)
unfolding groups
first_group n ts = by_sort n (here ts).sort ts

some_more : (front is : List Item) (read : Result (List Item) NamelistFault) → with_front front (read >>= λ more. Ok (is ++ more)) ≡ with_front (front ++ is) read
some_more front is (Ok more) = ap (λ (xs : List Item). let r : Result (List Item) NamelistFault = Ok xs in r) (sym (append_assoc front is more))
some_more front is (Err f) = refl

-- what is read from here on
from_here : (front : List Item) (most k : ℕ) (ts : Tokens) (total : Result (List Item) NamelistFault) → k < most
    → with_front front (groups (most - k) ts) ≡ total → with_front front (group_at ts >>= following (most - (k + 1))) ≡ total
from_here front most k ts total lt so_far =
    ap (with_front front) (sym (ap (λ m. groups m ts) (left most k lt) ∙ first_group (most - (k + 1)) ts)) ∙ so_far

pub after_group : (front is : List Item) (next : Tokens) (most k : ℕ) (ts : Tokens) (total : Result (List Item) NamelistFault) → k < most → group_at ts ≡ Ok (Some (is, next))
    → with_front front (groups (most - k) ts) ≡ total → with_front (front ++ is) (groups (most - (k + 1)) next) ≡ total
after_group front is next most k ts total lt read so_far =
    sym (some_more front is (groups (most - (k + 1)) next))
    ∙ ap (λ (r : Result (Option (List Item × Tokens)) NamelistFault). with_front front (r >>= following (most - (k + 1)))) (sym read)
    ∙ from_here front most k ts total lt so_far

pub no_more : (front : List Item) (most k : ℕ) (ts : Tokens) (total : Result (List Item) NamelistFault) → k < most → group_at ts ≡ Ok None
    → with_front front (groups (most - k) ts) ≡ total → total ≡ Ok front
no_more front most k ts total lt read so_far =
    with_front-end front total (ap (λ (r : Result (Option (List Item × Tokens)) NamelistFault). with_front front (r >>= following (most - (k + 1)))) (sym read) ∙ from_here front most k ts total lt so_far)

pub group_fails : (fault : Option NamelistFault) (front : List Item) (most k : ℕ) (ts : Tokens) (total : Result (List Item) NamelistFault) → k < most → Fails fault (group_at ts)
    → with_front front (groups (most - k) ts) ≡ total → Fails fault total
group_fails fault front most k ts total lt bad so_far =
    Fails-front fault front (group_at ts >>= following (most - (k + 1))) total (from_here front most k ts total lt so_far) (Fails-chain fault (group_at ts) (following (most - (k + 1))) bad)

pub all_read : (front : List Item) (most k : ℕ) (ts : Tokens) (total : Result (List Item) NamelistFault) → most ≤ k
    → with_front front (groups (most - k) ts) ≡ total → total ≡ Ok front
unfolding groups
all_read front most k ts total le so_far =
    let none : most - k ≡ 0 = omega arith in
    with_front-end front total (ap (λ m. with_front front (groups m ts)) (sym none) ∙ so_far)
