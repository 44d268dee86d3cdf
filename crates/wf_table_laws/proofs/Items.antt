-- What holds of an item that is read.
use Rattle.std.proofs.Common.{◌≡◌, ℕ, ◌<◌, ◌≤◌, ◌==◌, Bool, false, IsTrue, IsFalse, List, length, Some, Result, refl, codes, arith}
use Rattle.std.specs.Prelude.{find, Any}
use Rattle.std.specs.Str.{bytes_eq}
use Rattle.wf_model.specs.declared.plan.HaloPart.{HaloPart}
use Rattle.wf_model.specs.declared.plan.PeriodPart.{PeriodPart}
use Rattle.wf_model.specs.declared.plan.Phase.{Phase}
use Rattle.wf_model.specs.declared.plan.Item.{Item}
use Rattle.wf_model.specs.declared.plan.Item.TheVariants as item
use Rattle.wf_model.specs.declared.table.Names.{Names}
use Rattle.wf_model.specs.declared.table.TableKind.TheVariants.{UnknownName, UnknownField, NotTwoLevels}
use Rattle.wf_model.specs.Letters.{Text, is_name, is_among}
use Rattle.wf_model.specs.Tokens.{At, Reader, is_next, past, expect, number, tokens_of}
use Rattle.wf_model.specs.TableNames.{level, field_name}
use Rattle.wf_model.specs.ExprText.{Tree}
use Rattle.wf_model.specs.Table.{entry_named, exchange, field_named, swap, phase_names, taken_phases, phase_name, perhaps, two_numbers, margins, levels, extend, phase, item_reader, is_end, item_of_text}
use Rattle.wf_table_laws.proofs.Finds.{find-Some}
use Rattle.wf_table_laws.proofs.Keeping.{Keeps, rules}
use Rattle.wf_table_laws.proofs.Tokens.{name-yields, number-yields, level-yields}
use Rattle.wf_table_laws.proofs.Rules.{IsTree, TreeFrom}
use Rattle.wf_table_laws.proofs.Walk.{whole-reads}
use Rattle.wf_table_laws.proofs.Yields.{Yields, yields-ok, yields-err, yields-or, chain, choose, weaker}

-- ---- names

-- something found by its name stands in the list
found_any : {X : Type 0} (p : X → Bool) (Q : X → Type 0) (xs : List X) (x : X) → find p xs ≡ Some x → Q x → Any Q xs
found_any p Q xs x is holds = let at = find-Some p xs x is in (at.0, x, at.1, at.2, holds)

-- any value
anything : {A F : Type 0} (read : Result A F) → Yields (λ x. Unit {0}) read
anything read = record { has = λ x e. tt }

-- a name that no phase before has, and none of the script's words
pub record IsNewName (before : List Item) (name : Text) : Type 0 where
  pub word : IsTrue (is_name name)
  pub free : IsFalse (is_among name taken_phases)
  pub new : IsFalse (is_among name (phase_names before))

phase_name-yields : (before : List Item) (at : At) → Yields (λ (r : Text × At). IsNewName before r.0) (phase_name before at)
phase_name-yields before at =
    let Q : Text × At → Type 0 = λ r. IsNewName before r.0 in
    chain (name-yields at) (λ name is.
    choose (is_among name taken_phases) (λ taken. yields-err Q _)
    (λ free. choose (is_among name (phase_names before)) (λ repeated. yields-err Q _)
    (λ new. yields-ok Q (name, past at) (record { word = is; free = free; new = new }))))

-- ---- numbers of a phase

perhaps-yields : {A : Type 0} (Q : A → Type 0) (word : Text) (reader : Reader A) (other : A) → ((at : At) → Yields (λ (r : A × At). Q r.0) (reader at)) → Q other
    → (at : At) → Yields (λ (r : A × At). Q r.0) (perhaps word reader other at)
perhaps-yields Q word reader other reads none at = choose (is_next word at) (λ is. reads (past at)) (λ not_. yields-ok (λ (r : _ × At). Q r.0) (other, at) none)

-- two numbers, of which the second has a least
pub record AreTwo (low high : ℕ) (least : ℕ → ℕ) (r : ℕ × ℕ) : Type 0 where
  pub first : low ≤ r.0
  pub most : r.0 ≤ high
  pub second : least r.0 ≤ r.1
  pub top : r.1 ≤ high

two-yields : (low high : ℕ) (least : ℕ → ℕ) (at : At) → Yields (λ (r : (ℕ × ℕ) × At). AreTwo low high least r.0) (two_numbers low high least at)
two-yields low high least at =
    chain (number-yields low high at) (λ a ha.
    chain (number-yields (least a.0) high a.1) (λ b hb.
    yields-ok (λ (r : (ℕ × ℕ) × At). AreTwo low high least r.0) _ (record { first = ha.low; most = ha.high; second = hb.low; top = hb.high })))

abbrev pub AreMargins : ℕ × ℕ → Type 0
AreMargins m = (m.0 ≤ 1000000) × (m.1 ≤ 1000000)

margins-yields : (at : At) → Yields (λ (r : (ℕ × ℕ) × At). AreMargins r.0) (margins at)
margins-yields at =
    perhaps-yields AreMargins (codes "margin") (two_numbers 0 1000000 (λ a. 0)) (0, 0)
    (λ a. weaker (λ r h. (h.most, h.top)) (two-yields 0 1000000 (λ a. 0) a)) (omega arith) at

-- all levels, or named ones from 1 to 128
pub record AreLevels (l : ℕ × ℕ) : Type 0 where
  pub order : l.0 ≤ l.1
  pub top : l.1 ≤ 128
  pub named : l.0 ≡ 0 → l.1 ≡ 0

levels-yields : (at : At) → Yields (λ (r : (ℕ × ℕ) × At). AreLevels r.0) (levels at)
levels-yields at =
    perhaps-yields AreLevels (codes "levels") (two_numbers 1 128 (λ a. a)) (0, 0)
    (λ a. weaker (λ r h. record { order = h.second; top = h.top; named = λ e. absurd (omega (arith, h.first, e)) }) (two-yields 1 128 (λ a. a) a))
    (record { order = omega arith; top = omega arith; named = λ e. refl }) at

extend-yields : (at : At) → Yields (λ (r : ℕ × At). r.0 ≤ 6) (extend at)
extend-yields at = perhaps-yields (λ n. n ≤ 6) (codes "extend") (number 0 6) 0 (λ a. weaker (λ r h. h.high) (number-yields 0 6 a)) (omega arith) at

-- ---- items

-- an expression that was read, where so many nodes were counted before
abbrev pub IsWhole : Names → Tree × At → Type 0
IsWhole names r = (n : ℕ) × TreeFrom (Keeps names) 64 n r

-- a phase
pub record IsPhaseOf (names : Names) (before : List Item) (ph : Phase) : Type 0 where
  pub name : IsNewName before ph.name
  pub writes : ph.writes < length names.levels
  pub margins : AreMargins (ph.mx, ph.my)
  pub levels : AreLevels (ph.from, ph.to)
  pub extend : ph.extend ≤ 6
  pub tree : (t : Tree) × (n m : ℕ) × IsTree (Keeps names) 64 n t m × (t.expr ≡ ph.expr)

-- an item of these names, behind these items
abbrev pub IsItemOf : Names → List Item → Item → Type 0
IsItemOf names before (item.Halo parts) = Any (λ (halo : Text × List HaloPart). halo.1 ≡ parts) names.halos
IsItemOf names before (item.Period parts) = Any (λ (period : Text × List PeriodPart). period.1 ≡ parts) names.periods
IsItemOf names before (item.Swap one two) = Any (λ (field : Text × ℕ × ℕ). (field.1 ≡ one) × (field.2 ≡ two)) names.fields × (one ≡ two → ⊥)
IsItemOf names before (item.Phase ph) = IsPhaseOf names before ph

-- a reader of such items
abbrev pub ReadsItem : Names → List Item → Reader Item → Type 0
ReadsItem names before reader = (at : At) → Yields (λ (r : Item × At). IsItemOf names before r.0) (reader at)

module _ (names : Names) (before : List Item) where
  exchange-reads : {A : Type 0} (entries : List (Text × A)) (make : A → Item) → ((parts : A) → Any (λ (x : Text × A). x.1 ≡ parts) entries → IsItemOf names before (make parts))
      → ReadsItem names before (exchange entries make)
  exchange-reads {A = A} entries make of_entry at =
      chain (name-yields (past at)) (λ name is.
      chain (yields-or (entry_named entries name) UnknownName) (λ x found.
      yields-ok (λ (r : Item × At). IsItemOf names before r.0) (make x.1, past (past at))
      (of_entry x.1 (found_any (λ (y : Text × A). bytes_eq y.0 name) (λ (y : Text × A). y.1 ≡ x.1) entries x found refl))))

  swap-reads : ReadsItem names before (swap names)
  swap-reads at =
      let Q : Item × At → Type 0 = λ r. IsItemOf names before r.0 in
      chain (anything (field_name (past at))) (λ name is.
      chain (yields-or (field_named names name) UnknownField) (λ x found.
      choose (x.1 == x.2) (λ same. yields-err Q NotTwoLevels)
      (λ not_. yields-ok Q (item.Swap x.1 x.2, past (past at))
      (found_any (λ (y : Text × ℕ × ℕ). bytes_eq y.0 name) (λ (y : Text × ℕ × ℕ). (y.1 ≡ x.1) × (y.2 ≡ x.2)) names.fields x found (refl, refl), unequal x.1 x.2 not_))))
    where
      unequal : (m n : ℕ) → (m == n) ≡ false → m ≡ n → ⊥
      unequal m n e same = grind arith

  phase-reads : ReadsItem names before (phase names before)
  phase-reads at =
      chain (phase_name-yields before (past at)) (λ name hn.
      chain (chain (anything (expect (codes "writes") name.1)) (λ a h. level-after a)) (λ f hf.
      chain (margins-yields f.1) (λ m hm.
      chain (levels-yields m.1) (λ l hl.
      chain (extend-yields l.1) (λ x hx.
      chain {Q = IsWhole names} (chain (anything (expect (codes "=") x.1)) (λ a h. weaker (λ r t. (a.nodes, t)) (whole-reads names (Keeps names) (rules names) a))) (λ t ht.
      yields-ok (λ (r : Item × At). IsItemOf names before r.0) _ (record {
        name = hn;
        writes = hf;
        margins = hm;
        levels = hl;
        extend = hx;
        tree = (t.0, ht.0, (t.1).nodes, ht.1, refl);
      })))))))
    where
      level-after : (a : At) → Yields (λ (r : ℕ × At). r.0 < length names.levels) (level names a)
      level-after a = weaker (λ r h. h.level) (level-yields names a)

  item-reads : ReadsItem names before (item_reader names before)
  item-reads at =
      choose (is_next (codes "halo") at) (λ is. exchange-reads names.halos item.Halo (λ parts h. h) at)
      (λ not0. choose (is_next (codes "period") at) (λ is. exchange-reads names.periods item.Period (λ parts h. h) at)
      (λ not1. choose (is_next (codes "swap") at) (λ is. swap-reads at)
      (λ not2. choose (is_next (codes "phase") at) (λ is. phase-reads at) (λ not3. yields-err (λ (r : Item × At). IsItemOf names before r.0) _))))

  -- the item of a line
  pub item-yields : (text : Text) → Yields (IsItemOf names before) (item_of_text names before text)
  item-yields text =
      chain (item-reads (record { tokens = tokens_of text; nodes = 0 })) (λ r h.
      choose (is_end r.1) (λ end. yields-ok (IsItemOf names before) r.0 h) (λ more. yields-err (IsItemOf names before) _))
