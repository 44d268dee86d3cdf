-- A range of rows of numbers, row by row.
use Rattle.std.proofs.Common.{◌≡◌, ℕ, zero, suc, ◌+◌, ◌*◌, ◌++◌, ◌∷◌, map, refl, sym, ap, ◌∙◌, arith}
use Rattle.std.proofs.Math.Nat.{mul_comm, suc-mul, add-mul}
use Rattle.std.proofs.lemmas.List.Concat.{flat_map-cons}
use Rattle.std.specs.Prelude.{flat_map}
use Rattle.std.specs.List.{range_with_len}
use Rattle.wf_rect_laws.specs.Patches.{PatchesAreListedByRows}

-- a range in two parts
parts :
    (a k l : ℕ) → range_with_len a (k + l) ≡ range_with_len a k ++ range_with_len (a + k) l
parts a zero l =
    let e : a ≡ a + zero = omega arith in
    let f : zero + l ≡ l = omega arith in λ n. range_with_len (e n) (f n)
parts a (suc k) l =
    let e : a + 1 + k ≡ a + suc k = omega arith in
    let f : suc k + l ≡ suc (k + l) = omega arith in
    ap (λ (m : ℕ). range_with_len a m) f ∙ (λ n. a ∷ parts (a + 1) k l n)
    ∙ (λ n. a ∷ (range_with_len (a + 1) k ++ range_with_len (e n) l))

-- a range from a number on
moved : (a b k : ℕ) → range_with_len (a + b) k ≡ map (λ c. a + c) (range_with_len b k)
moved a b zero = refl
moved a b (suc k) =
    let e : a + b + 1 ≡ a + (b + 1) = omega arith in
    let rest : range_with_len (a + b + 1) k ≡ map (λ c. a + c) (range_with_len (b + 1) k) =
    ap (λ (m : ℕ). range_with_len m k) e ∙ moved a (b + 1) k in
    λ n. (a + b) ∷ rest n

-- n rows of m numbers, from row r on
row_list :
    (m r n : ℕ)
    → range_with_len (r * m) (n * m)
    ≡ flat_map (λ row. map (λ c. row * m + c) (range_with_len 0 m)) (range_with_len r n)
row_list m r zero =
    let none : zero * m ≡ 0 = omega arith in ap (λ (k : ℕ). range_with_len (r * m) k) none
row_list m r (suc n) =
    let many : suc n * m ≡ m + n * m = omega (arith, suc-mul n m) in
    let next : r * m + m ≡ (r + 1) * m = omega (arith, add-mul r 1 m) in
    let start : r * m ≡ r * m + 0 = omega arith in
    let first : range_with_len (r * m) m ≡ map (λ c. r * m + c) (range_with_len 0 m) =
    ap (λ (k : ℕ). range_with_len k m) start ∙ moved (r * m) 0 m in
    let rest = ap (λ (k : ℕ). range_with_len k (n * m)) next ∙ row_list m (r + 1) n in
    ap (λ (k : ℕ). range_with_len (r * m) k) many ∙ parts (r * m) m (n * m)
    ∙ (λ k. first k ++ rest k)
    ∙ sym (flat_map-cons (λ row. map (λ c. row * m + c) (range_with_len 0 m)) r
    (range_with_len (r + 1) n))

pub listed_by_rows : PatchesAreListedByRows
listed_by_rows layout =
    let none : 0 ≡ 0 * layout.nproc_x = omega arith in
    let swap : layout.nproc_x * layout.nproc_y ≡ layout.nproc_y * layout.nproc_x =
    mul_comm layout.nproc_x layout.nproc_y in
    (λ k. range_with_len (none k) (swap k)) ∙ row_list layout.nproc_x 0 layout.nproc_y
