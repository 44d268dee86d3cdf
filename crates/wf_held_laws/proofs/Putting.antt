-- A slab is assembled piece by piece.
use Rattle.std.proofs.Common.{◌≡◌, inl, inr, ℕ, ◌+◌, ◌-◌, ◌*◌, ◌<◌, ◌≤◌, true, false, List, [], ◌∷◌, All, length, refl, sym, ap, ◌∙◌, subst, arith}
use Rattle.std.proofs.lemmas.Nat.{same_from_place}
use Rattle.std.proofs.lemmas.Int.{ints}
use Rattle.std.proofs.lemmas.List.Elements.{All-head, All-tail}
use Rattle.std.specs.Prelude.{ℤ, pos, ◌+ℤ◌, ◌-ℤ◌, unsigned_abs}
use Rattle.wf_model.specs.declared.layout.Layout.{Layout}
use Rattle.wf_model.specs.declared.plan.Plan.{Plan}
use Rattle.wf_model.specs.Streams.{file_x, file_y}
use Rattle.wf_model.specs.Patches.{split_of, Span, in_span, size_of, own_box, is_own, owner_of}
use Rattle.wf_model.specs.Sound.{IsDomain, IsSoundLayout}
use Rattle.wf_model.specs.Agreement.{IsPatch}
use Rattle.wf_laws.proofs.Bools.{and_both, split_bool, equal_or_not}
use Rattle.wf_laws.proofs.Members.{In, Contains-In}
use Rattle.wf_laws.proofs.Places.{IsRoom, room_of}
use Rattle.wf_laws.proofs.Spans.{span-in}
use Rattle.wf_laws.proofs.Cells.{size-below}
use Rattle.wf_laws.proofs.Owners.{one_owner}
use Rattle.wf_held_laws.specs.Slabs.{row_of, column_of, shows_own}
use Rattle.wf_held_laws.specs.Assembly.{FilePlacesAreApart, OwnRowsStandTogether, HoldsPiece, PiecesStayWhenOthersArePut, ListsWithEachPieceAreSlabs, ArePut, PiecesPutInAnyOrderMakeTheSlab}
use Rattle.wf_held_laws.proofs.SlabPlaces.{one_patch}
use Rattle.wf_held_laws.proofs.Assembling.{slab_by}

-- numbers from 1 are one where they are one without 1
same_before : (a b : ℕ) → 1 ≤ a → 1 ≤ b → a - 1 ≡ b - 1 → a ≡ b
same_before a b l m e = omega (arith, e, l, m)

-- the law on places
pub places_apart : FilePlacesAreApart
places_apart plan d f k j i l m n a b e =
    let outer = same_from_place ((k - 1) * file_y plan d f + (j - 1)) (i - 1) ((l - 1) * file_y plan d f + (m - 1)) (n - 1) (file_x plan d f) (omega (arith, (a.column).0, (a.column).1)) (omega (arith, (b.column).0, (b.column).1)) e in
    let inner = same_from_place (k - 1) (j - 1) (l - 1) (m - 1) (file_y plan d f) (omega (arith, (a.row).0, (a.row).1)) (omega (arith, (b.row).0, (b.row).1)) outer.0 in
    (same_before k l (a.level).0 (b.level).0 inner.0, same_before j m (a.row).0 (b.row).0 inner.1, same_before i n (a.column).0 (b.column).0 outer.1)

-- a number below the size lies in the span
size-in : (s : Span) (n : ℕ) → n < size_of s → in_span s (s.low +ℤ pos n) ≡ true
size-in s n h = span-in s (s.low +ℤ pos n) (omega (arith, ints)) (size-below s n h)

-- a number so far behind the low end
behind_low : (a m : ℕ) (low : ℤ) → pos a ≡ low → unsigned_abs (pos (a + m) -ℤ low) ≡ unsigned_abs (pos a -ℤ low) + m
behind_low a m low e = omega (arith, ints)

-- the own box of a patch begins at a column from 1 on
low_is : (plan : Plan) (layout : Layout) (d p f : ℕ) → (pos (unsigned_abs (own_box plan (split_of layout) d p f).x.low) ≡ (own_box plan (split_of layout) d p f).x.low) × (1 ≤ unsigned_abs (own_box plan (split_of layout) d p f).x.low)
unfolding own_box
low_is plan layout d p f = (refl, omega arith)

-- the law on rows
pub rows_together : OwnRowsStandTogether
unfolding is_own
rows_together plan layout d p f k y hy =
    let low = low_is plan layout d p f in
    let s : Span = (own_box plan (split_of layout) d p f).x in
    let a : ℕ = unsigned_abs s.low in
    record {
      first = a;
      low = low.0;
      own = λ m h.
          let at : s.low +ℤ pos m ≡ pos (a + m) = omega (arith, ints, low.0) in
          and_both _ _ hy (subst (λ (z : ℤ). in_span s z ≡ true) at (size-in s m h));
      in_piece = λ m. more_behind (((k - 1) * size_of (own_box plan (split_of layout) d p f).y + unsigned_abs (pos y -ℤ (own_box plan (split_of layout) d p f).y.low)) * size_of s) (unsigned_abs (pos (a + m) -ℤ s.low)) (unsigned_abs (pos a -ℤ s.low)) m (behind_low a m s.low low.0);
      in_file = λ m. more_behind (((k - 1) * file_y plan d f + (y - 1)) * file_x plan d f) (a + m - 1) (a - 1) m (omega (arith, low.1));
    }
  where
    more_behind : (z u v m : ℕ) → u ≡ v + m → z + u ≡ z + v + m
    more_behind z u v m e = omega (arith, e)

-- the law on pieces that are there
pub pieces_stay : PiecesStayWhenOthersArePut
pieces_stay plan layout d f p q piece other list new laid is hp hq apart put holds k j i at own =
    let room : IsRoom plan (split_of layout) d = room_of plan layout laid d is in
    let not_own : shows_own plan layout d f p j i ≡ false = elim (split_bool (shows_own plan layout d f p j i)) [
      | inl on ↦ absurd (apart (one_owner plan (split_of layout) d room q p f (pos (row_of plan d f j)) (pos (column_of plan d f i)) hq hp own on))
      | inr off ↦ off
    ] in
    put.rest k j i at not_own ∙ holds k j i at own

-- the law on lists with each piece
pub each_piece_slab : ListsWithEachPieceAreSlabs
each_piece_slab plan layout d f pieces list laid is long each =
    slab_by plan layout d f laid is pieces list long (λ k j i at.
    let one = one_patch plan layout d f k j i laid is at in
    each (owner_of plan (split_of layout) d f (row_of plan d f j) (column_of plan d f i)) one.below k j i at one.passes)

module _ (plan : Plan) (layout : Layout) (d f : ℕ) (pieces : ℕ → List ℤ) (laid : IsSoundLayout plan layout) (is : IsDomain plan d) where
  -- a list keeps its length as pieces are put
  put_long : (ps : List ℕ) (list new : List ℤ) → ArePut plan layout d f pieces ps list new → length new ≡ length list
  put_long [] list new h = sym (ap length h)
  put_long (p ∷ ps) list new h = put_long ps h.0 new h.2 ∙ (h.1).long

  -- a piece that is there stays there, or is put once more
  put_stays : (ps : List ℕ) (list new : List ℤ) (q : ℕ) → IsPatch layout q → All (IsPatch layout) ps → HoldsPiece plan layout d f q (pieces q) list → ArePut plan layout d f pieces ps list new → HoldsPiece plan layout d f q (pieces q) new
  put_stays [] list new q hq all holds h = subst (λ (xs : List ℤ). HoldsPiece plan layout d f q (pieces q) xs) h holds
  put_stays (p ∷ ps) list new q hq all holds h =
      let now : HoldsPiece plan layout d f q (pieces q) h.0 = elim (equal_or_not q p) [
        | inl e ↦ subst (λ (x : ℕ). HoldsPiece plan layout d f x (pieces x) h.0) (sym e) (h.1).own
        | inr apart ↦ pieces_stay plan layout d f p q (pieces p) (pieces q) list h.0 laid is (All-head (IsPatch layout) p ps all) hq apart h.1 holds
      ] in
      put_stays ps h.0 new q hq (All-tail (IsPatch layout) p ps all) now h.2

  -- each piece that is put is there
  put_there : (ps : List ℕ) (list new : List ℤ) (q : ℕ) → IsPatch layout q → All (IsPatch layout) ps → In q ps → ArePut plan layout d f pieces ps list new → HoldsPiece plan layout d f q (pieces q) new
  put_there [] list new q hq all i h = absurd i
  put_there (p ∷ ps) list new q hq all i h = elim i [
    | inl e ↦ put_stays ps h.0 new q hq (All-tail (IsPatch layout) p ps all) (subst (λ (x : ℕ). HoldsPiece plan layout d f x (pieces x) h.0) (sym e) (h.1).own) h.2
    | inr t ↦ put_there ps h.0 new q hq (All-tail (IsPatch layout) p ps all) t h.2
  ]

-- the law on all pieces
pub any_order : PiecesPutInAnyOrderMakeTheSlab
any_order plan layout d f pieces ps list new laid is long all each h =
    each_piece_slab plan layout d f pieces new laid is (put_long plan layout d f pieces laid is ps list new h ∙ long)
    (λ p hp. put_there plan layout d f pieces laid is ps list new p hp all (Contains-In p ps (each p hp)) h)
