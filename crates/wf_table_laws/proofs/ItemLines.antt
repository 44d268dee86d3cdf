-- What holds of the items of lines, one after the other.
use Rattle.std.proofs.Common.{◌≡◌, ℕ, ◌<◌, ◌≤◌, Bool, true, false, IsFalse, nat_le, List, [], ◌∷◌, ◌++◌, length, length-append, Option, Some, None, refl, sym, ap, ◌∙◌, subst, append-nil, arith}
use Rattle.std.specs.Prelude.{All, AllPairs, ◌||◌}
use Rattle.std.specs.Str.{bytes_eq, is_utf8}
use Rattle.std.proofs.lemmas.List.Elements.{All-nil, All-cons, All-push}
use Rattle.std.proofs.lemmas.List.Quantifiers.{all_pairs_push}
use Rattle.std.proofs.lemmas.Slice.Eq.{bytes_eq-Decides}
use Rattle.wf_model.specs.declared.text.Line.{Line}
use Rattle.wf_model.specs.declared.plan.Item.{Item}
use Rattle.wf_model.specs.declared.plan.Item.TheVariants as item
use Rattle.wf_model.specs.declared.table.Names.{Names}
use Rattle.wf_model.specs.declared.text.TextFault.{TextFault}
use Rattle.wf_model.specs.Letters.{Text, is_among}
use Rattle.wf_model.specs.Lines.{lines_read}
use Rattle.wf_model.specs.Tokens.{joined_text}
use Rattle.wf_model.specs.Table.{fault_in, items_from, most_items, phase_names, taken_phases, unless_bad, table_of}
use Rattle.wf_table_laws.proofs.Finds.{differ}
use Rattle.wf_table_laws.proofs.Items.{IsItemOf, item-yields}
use Rattle.wf_table_laws.proofs.Yields.{Yields, yields-ok, yields-err, yields-told, chain, choose}

-- an item of these names, behind some items
abbrev pub IsItem : Names → Item → Type 0
IsItem names i = (before : List Item) × IsItemOf names before i

abbrev pub Differ : Text → Text → Type 0
Differ a b = a ≡ b → ⊥

abbrev pub IsFree : Text → Type 0
IsFree name = IsFalse (is_among name taken_phases)

-- what the items so far keep
pub record Kept (names : Names) (items : List Item) : Type 0 where
  pub each : All (IsItem names) items
  pub few : length items ≤ 256
  pub apart : AllPairs Differ (phase_names items)
  pub free : All IsFree (phase_names items)

-- ---- names of phases

-- the name of an item, if it is a phase
abbrev pub name_of : Item → List Text
name_of (item.Phase ph) = ph.name ∷ []
name_of other = []

phase_names-push : (items : List Item) (i : Item) → phase_names (items ++ i ∷ []) ≡ phase_names items ++ name_of i
phase_names-push [] (item.Phase ph) = refl
phase_names-push [] (item.Halo parts) = refl
phase_names-push [] (item.Period parts) = refl
phase_names-push [] (item.Swap one two) = refl
phase_names-push (item.Phase ph ∷ items) i = ap (λ (ns : List Text). ph.name ∷ ns) (phase_names-push items i)
phase_names-push (item.Halo parts ∷ items) i = phase_names-push items i
phase_names-push (item.Period parts ∷ items) i = phase_names-push items i
phase_names-push (item.Swap one two ∷ items) i = phase_names-push items i

neither : (a b : Bool) → (a || b) ≡ false → (a ≡ false) × (b ≡ false)
neither true b e = absurd (differ e)
neither false b e = (refl, e)

-- a text that is none of some differs from each
apart_of : (name : Text) (words : List Text) → is_among name words ≡ false → All (λ w. Differ w name) words
apart_of name [] e = All-nil (λ w. Differ w name)
apart_of name (w ∷ ws) e =
    let both = neither (bytes_eq name w) (is_among name ws) e in
    All-cons (λ w. Differ w name) w ws (λ same. differ (sym ((bytes_eq-Decides name w).1 (sym same)) ∙ both.0)) (apart_of name ws both.1)

module _ (names : Names) where
  -- one item more
  more : (items : List Item) (i : Item) → length items < 256 → Kept names items → IsItemOf names items i → Kept names (items ++ i ∷ [])
  more items i room kept is =
      let ns = named i is in
      record {
        each = All-push (IsItem names) items i kept.each (items, is);
        few = omega (arith, room, length-append items (i ∷ []));
        apart = subst (AllPairs Differ) (sym (phase_names-push items i)) ns.0;
        free = subst (All IsFree) (sym (phase_names-push items i)) ns.1;
      }
    where
      named : (i : Item) → IsItemOf names items i → AllPairs Differ (phase_names items ++ name_of i) × All IsFree (phase_names items ++ name_of i)
      named (item.Phase ph) is =
          (all_pairs_push Differ (phase_names items) ph.name kept.apart (λ k d lt. apart_of ph.name (phase_names items) is.name.new k d lt), All-push IsFree (phase_names items) ph.name kept.free is.name.free)
      named (item.Halo parts) is = (subst (AllPairs Differ) (sym (append-nil (phase_names items))) kept.apart, subst (All IsFree) (sym (append-nil (phase_names items))) kept.free)
      named (item.Period parts) is = (subst (AllPairs Differ) (sym (append-nil (phase_names items))) kept.apart, subst (All IsFree) (sym (append-nil (phase_names items))) kept.free)
      named (item.Swap one two) is = (subst (AllPairs Differ) (sym (append-nil (phase_names items))) kept.apart, subst (All IsFree) (sym (append-nil (phase_names items))) kept.free)

  items-yield : (ls : List Line) (items : List Item) → Kept names items → Yields (Kept names) (items_from names items ls)
  unfolding items_from
  items-yield [] items kept = yields-ok (Kept names) items kept
  items-yield (l ∷ ls) items kept =
      choose (nat_le most_items (length items)) (λ full. yields-err (Kept names) _)
      (λ room. chain (yields-told (fault_in l) (item-yields names items (joined_text l))) (λ i is. items-yield ls (items ++ i ∷ []) (more items i (below (length items) room) kept is)))
    where
      below : (n : ℕ) → nat_le 256 n ≡ false → n < 256
      below n e = grind arith

  none : Kept names []
  none = record { each = All-nil (IsItem names); few = omega arith; apart = λ i j d less long. absurd (omega (arith, long)); free = All-nil IsFree }

  unless-yields : (fault : Option TextFault) (items : List Item) → Kept names items → Yields (Kept names) (unless_bad fault items)
  unless-yields None items kept = yields-ok (Kept names) items kept
  unless-yields (Some f) items kept = yields-err (Kept names) _

  -- the items of a table
  pub table-yields : (text : List ℕ) → Yields (Kept names) (table_of text names)
  unfolding table_of
  table-yields text =
      choose (is_utf8 text) (λ is. chain (items-yield (lines_read text).lines [] none) (λ items kept. unless-yields (lines_read text).fault items kept)) (λ no_text. yields-err (Kept names) _)
