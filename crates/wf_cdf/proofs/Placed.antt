-- Placed variables, one more at a time, and what they keep.
use Rattle.std.proofs.Common.{◌≡◌, ℕ, suc, ◌+◌, ◌^◌, ◌<◌, ◌≤◌, Bool, true, false, cond, not, List, [], ◌∷◌, ◌++◌, length, take, drop, get_or, set, arith, refl, sym, ap, ◌∙◌, add-zero, add-one}
use Rattle.std.proofs.lemmas.List.{length-append, length-take, append_assoc, take_more}
use Rattle.std.proofs.Math.Seq.{drop-cons, get_or-append_seam, set-append_seam}
use Rattle.std.specs.List.{filter, sum_by, flat_map, All}
use Rattle.std.proofs.lemmas.List.Sums.{sum_by_from, get_or-le-sum_by}
use Rattle.std.proofs.lemmas.List.Filters.{sum_by-filter_both}
use Rattle.std.proofs.lemmas.List.Elements.{All-cons, All-tail, All-nil}
use Rattle.wf_model.specs.declared.header.Header.{Header}
use Rattle.wf_model.specs.declared.header.Dim.{Dim}
use Rattle.wf_model.specs.declared.header.Var.{Var}
use Rattle.wf_model.specs.Bytes.{var_bytes, att_bytes, dim_bytes, list_bytes, header_bytes}
use Rattle.wf_model.specs.Sizes.{is_record_var, padded_size}
use Rattle.wf_model.specs.Headers.{vsize_of, placed_var, placed_from, placed}
use Rattle.wf_model.specs.SoundHeader.{IsSoundVar, IsSoundHeader, BeginsFit}
use Rattle.wf_cdf.proofs.Sizes.{sum_of_passing_added, sum_of_passing_take}
use Rattle.wf_cdf.proofs.Lengths.{length_var_bytes, length_list_bytes, length_header_bytes}

-- the padded sizes of the fixed variables, and of the record variables
abbrev pub fixed_of : List Dim → List Var → ℕ
fixed_of dims vs = sum_by (padded_size dims) (filter (λ v. not (is_record_var dims v)) vs)

abbrev pub moving_of : List Dim → List Var → ℕ
moving_of dims vs = sum_by (padded_size dims) (filter (is_record_var dims) vs)

fixed_of_cons : (dims : List Dim) (v : Var) (vs : List Var) →
    fixed_of dims (v ∷ vs) ≡ cond (is_record_var dims v) (fixed_of dims vs) (padded_size dims v + fixed_of dims vs)
fixed_of_cons dims v vs =
    elim (is_record_var dims v) as (λ b. sum_by (padded_size dims) (cond (not b) (v ∷ filter (λ x. not (is_record_var dims x)) vs) (filter (λ x. not (is_record_var dims x)) vs))
    ≡ cond b (fixed_of dims vs) (padded_size dims v + fixed_of dims vs)) [
      | true ↦ refl
      | false ↦ omega (arith, sum_by_from (padded_size dims) (0 + padded_size dims v) (filter (λ x. not (is_record_var dims x)) vs))
    ]

moving_of_cons : (dims : List Dim) (v : Var) (vs : List Var) →
    moving_of dims (v ∷ vs) ≡ cond (is_record_var dims v) (padded_size dims v + moving_of dims vs) (moving_of dims vs)
moving_of_cons dims v vs =
    elim (is_record_var dims v) as (λ b. sum_by (padded_size dims) (cond b (v ∷ filter (is_record_var dims) vs) (filter (is_record_var dims) vs))
    ≡ cond b (padded_size dims v + moving_of dims vs) (moving_of dims vs)) [
      | true ↦ omega (arith, sum_by_from (padded_size dims) (0 + padded_size dims v) (filter (is_record_var dims) vs))
      | false ↦ refl
    ]

-- the place of a variable after others
abbrev pub place_after : List Dim → ℕ → ℕ → List Var → Var → ℕ
place_after dims fixed moving vs v = cond (is_record_var dims v) (moving + moving_of dims vs) (fixed + fixed_of dims vs)

-- one more variable at the end, by cases of the first
push_case : (dims : List Dim) (fixed moving : ℕ) (w : Var) (vs : List Var) (v : Var) (b : Bool) (f m : ℕ) →
    f ≡ cond b (fixed_of dims vs) (padded_size dims w + fixed_of dims vs) →
    m ≡ cond b (padded_size dims w + moving_of dims vs) (moving_of dims vs) →
    placed_from dims fixed (moving + padded_size dims w) (vs ++ v ∷ [])
    ≡ placed_from dims fixed (moving + padded_size dims w) vs ++ placed_var dims (place_after dims fixed (moving + padded_size dims w) vs v) v ∷ [] →
    placed_from dims (fixed + padded_size dims w) moving (vs ++ v ∷ [])
    ≡ placed_from dims (fixed + padded_size dims w) moving vs ++ placed_var dims (place_after dims (fixed + padded_size dims w) moving vs v) v ∷ [] →
    cond b (placed_var dims moving w ∷ placed_from dims fixed (moving + padded_size dims w) (vs ++ v ∷ []))
    (placed_var dims fixed w ∷ placed_from dims (fixed + padded_size dims w) moving (vs ++ v ∷ []))
    ≡ cond b (placed_var dims moving w ∷ placed_from dims fixed (moving + padded_size dims w) vs)
    (placed_var dims fixed w ∷ placed_from dims (fixed + padded_size dims w) moving vs)
    ++ placed_var dims (cond (is_record_var dims v) (moving + m) (fixed + f)) v ∷ []
push_case dims fixed moving w vs v true f m ef em one two =
    let pm : moving + padded_size dims w + moving_of dims vs ≡ moving + m = omega arith in
    let pf : fixed + fixed_of dims vs ≡ fixed + f = omega arith in
    ap (λ t. placed_var dims moving w ∷ t) one
    ∙ ap (λ a. placed_var dims moving w ∷ (placed_from dims fixed (moving + padded_size dims w) vs ++ placed_var dims (cond (is_record_var dims v) a (fixed + fixed_of dims vs)) v ∷ [])) pm
    ∙ ap (λ a. placed_var dims moving w ∷ (placed_from dims fixed (moving + padded_size dims w) vs ++ placed_var dims (cond (is_record_var dims v) (moving + m) a) v ∷ [])) pf
push_case dims fixed moving w vs v false f m ef em one two =
    let pm : moving + moving_of dims vs ≡ moving + m = omega arith in
    let pf : fixed + padded_size dims w + fixed_of dims vs ≡ fixed + f = omega arith in
    ap (λ t. placed_var dims fixed w ∷ t) two
    ∙ ap (λ a. placed_var dims fixed w ∷ (placed_from dims (fixed + padded_size dims w) moving vs ++ placed_var dims (cond (is_record_var dims v) a (fixed + padded_size dims w + fixed_of dims vs)) v ∷ [])) pm
    ∙ ap (λ a. placed_var dims fixed w ∷ (placed_from dims (fixed + padded_size dims w) moving vs ++ placed_var dims (cond (is_record_var dims v) (moving + m) a) v ∷ [])) pf

placed_push : (dims : List Dim) (fixed moving : ℕ) (vs : List Var) (v : Var) →
    placed_from dims fixed moving (vs ++ v ∷ []) ≡ placed_from dims fixed moving vs ++ placed_var dims (place_after dims fixed moving vs v) v ∷ []
placed_push dims fixed moving [] v =
    elim (is_record_var dims v) as (λ b. cond b (placed_var dims moving v ∷ []) (placed_var dims fixed v ∷ []) ≡ placed_var dims (cond b (moving + 0) (fixed + 0)) v ∷ [])
    [ true ↦ ap (λ a. placed_var dims a v ∷ []) (sym (add-zero moving)) | false ↦ ap (λ a. placed_var dims a v ∷ []) (sym (add-zero fixed)) ]
placed_push dims fixed moving (w ∷ vs) v =
    push_case dims fixed moving w vs v (is_record_var dims w) (fixed_of dims (w ∷ vs)) (moving_of dims (w ∷ vs)) (fixed_of_cons dims w vs)
    (moving_of_cons dims w vs) (placed_push dims fixed (moving + padded_size dims w) vs v) (placed_push dims (fixed + padded_size dims w) moving vs v)

-- as many as before
pub length_placed_from : (dims : List Dim) (fixed moving : ℕ) (vs : List Var) → length (placed_from dims fixed moving vs) ≡ length vs
length_placed_from dims fixed moving [] = refl
length_placed_from dims fixed moving (v ∷ vs) =
    elim (is_record_var dims v) as (λ b. length (cond b (placed_var dims moving v ∷ placed_from dims fixed (moving + padded_size dims v) vs)
    (placed_var dims fixed v ∷ placed_from dims (fixed + padded_size dims v) moving vs)) ≡ suc (length vs)) [
      | true ↦ ap suc (length_placed_from dims fixed (moving + padded_size dims v) vs)
      | false ↦ ap suc (length_placed_from dims (fixed + padded_size dims v) moving vs)
    ]

-- what each placed variable keeps, all of them keep
pub All_placed : (P : Var → Type 0) (dims : List Dim) (fixed moving : ℕ) (vs : List Var) →
    ((v : Var) (at : ℕ) → P v → P (placed_var dims at v)) → All P vs → All P (placed_from dims fixed moving vs)
All_placed P dims fixed moving [] keeps all = All-nil P
All_placed P dims fixed moving (v ∷ vs) keeps all =
    elim (is_record_var dims v) as (λ b. All P (cond b (placed_var dims moving v ∷ placed_from dims fixed (moving + padded_size dims v) vs)
    (placed_var dims fixed v ∷ placed_from dims (fixed + padded_size dims v) moving vs))) [
      | true ↦ All-cons P (placed_var dims moving v) (placed_from dims fixed (moving + padded_size dims v) vs) (keeps v moving (all 0 v (omega arith)))
          (All_placed P dims fixed (moving + padded_size dims v) vs keeps (All-tail P v vs all))
      | false ↦ All-cons P (placed_var dims fixed v) (placed_from dims (fixed + padded_size dims v) moving vs) (keeps v fixed (all 0 v (omega arith)))
          (All_placed P dims (fixed + padded_size dims v) moving vs keeps (All-tail P v vs all))
    ]

-- begins stand below the end of the data, by cases of the first
below_case : (dims : List Dim) (fixed moving : ℕ) (v : Var) (vs : List Var) (end : ℕ) (b : Bool) (f m : ℕ) →
    f ≡ cond b (fixed_of dims vs) (padded_size dims v + fixed_of dims vs) →
    m ≡ cond b (padded_size dims v + moving_of dims vs) (moving_of dims vs) → fixed + f < end → moving + m < end →
    (fixed + fixed_of dims vs < end → moving + padded_size dims v + moving_of dims vs < end →
    All (λ x. x.begin < end) (placed_from dims fixed (moving + padded_size dims v) vs)) →
    (fixed + padded_size dims v + fixed_of dims vs < end → moving + moving_of dims vs < end →
    All (λ x. x.begin < end) (placed_from dims (fixed + padded_size dims v) moving vs)) →
    All (λ x. x.begin < end) (cond b (placed_var dims moving v ∷ placed_from dims fixed (moving + padded_size dims v) vs)
    (placed_var dims fixed v ∷ placed_from dims (fixed + padded_size dims v) moving vs))
below_case dims fixed moving v vs end true f m ef em hf hm one two =
    All-cons (λ x. x.begin < end) (placed_var dims moving v) (placed_from dims fixed (moving + padded_size dims v) vs) (omega arith)
    (one (omega arith) (omega arith))
below_case dims fixed moving v vs end false f m ef em hf hm one two =
    All-cons (λ x. x.begin < end) (placed_var dims fixed v) (placed_from dims (fixed + padded_size dims v) moving vs) (omega arith)
    (two (omega arith) (omega arith))

pub begins_below : (dims : List Dim) (fixed moving : ℕ) (vs : List Var) (end : ℕ) → fixed + fixed_of dims vs < end → moving + moving_of dims vs < end →
    All (λ v. v.begin < end) (placed_from dims fixed moving vs)
begins_below dims fixed moving [] end f m = All-nil (λ v. v.begin < end)
begins_below dims fixed moving (v ∷ vs) end f m =
    below_case dims fixed moving v vs end (is_record_var dims v) (fixed_of dims (v ∷ vs)) (moving_of dims (v ∷ vs)) (fixed_of_cons dims v vs)
    (moving_of_cons dims v vs) f m (begins_below dims fixed (moving + padded_size dims v) vs end)
    (begins_below dims (fixed + padded_size dims v) moving vs end)

-- what has been placed, and what is left
abbrev pub placed_so_far : List Dim → ℕ → ℕ → List Var → ℕ → List Var
placed_so_far dims fixed moving vs i = placed_from dims fixed moving (take i vs) ++ drop i vs

length_front : (dims : List Dim) (fixed moving : ℕ) (vs : List Var) (i : ℕ) → i < length vs → length (placed_from dims fixed moving (take i vs)) ≡ i
length_front dims fixed moving vs i h = omega (arith, length_placed_from dims fixed moving (take i vs), length-take i vs)

-- the next variable is as it was
pub next_unplaced : (dims : List Dim) (fixed moving : ℕ) (vs items : List Var) (i : ℕ) (v : Var) → i < length vs →
    items ≡ placed_so_far dims fixed moving vs i → v ≡ get_or items i v → v ≡ get_or vs i v
next_unplaced dims fixed moving vs items i v h e read =
    let front = placed_from dims fixed moving (take i vs) in
    let parts : drop i vs ≡ get_or vs i v ∷ drop (suc i) vs = drop-cons vs i v h in
    read ∙ ap (λ xs. get_or xs i v) e ∙ ap (λ xs. get_or (front ++ xs) i v) parts
    ∙ ap (λ k. get_or (front ++ get_or vs i v ∷ drop (suc i) vs) k v) (sym (length_front dims fixed moving vs i h))
    ∙ get_or-append_seam front (get_or vs i v) (drop (suc i) vs) v

-- and placed, it stands behind the others
pub placed_more : (dims : List Dim) (fixed moving : ℕ) (vs items : List Var) (i : ℕ) (v w : Var) → i < length vs →
    items ≡ placed_so_far dims fixed moving vs i → v ≡ get_or vs i v → w ≡ placed_var dims (place_after dims fixed moving (take i vs) v) v →
    set items i w ≡ placed_so_far dims fixed moving vs (i + 1)
placed_more dims fixed moving vs items i v w h e read placing =
    let front = placed_from dims fixed moving (take i vs) in
    let rest = drop (suc i) vs in
    let parts : drop i vs ≡ get_or vs i v ∷ rest = drop-cons vs i v h in
    let taken : take (i + 1) vs ≡ take i vs ++ v ∷ [] = take_more vs i v h ∙ ap (λ x. take i vs ++ x ∷ []) (sym read) in
    let after : placed_from dims fixed moving (take (i + 1) vs) ≡ front ++ w ∷ [] =
    ap (placed_from dims fixed moving) taken ∙ placed_push dims fixed moving (take i vs) v ∙ ap (λ x. front ++ x ∷ []) (sym placing) in
    ap (λ xs. set xs i w) e ∙ ap (λ xs. set (front ++ xs) i w) parts
    ∙ ap (λ k. set (front ++ get_or vs i v ∷ rest) k w) (sym (length_front dims fixed moving vs i h))
    ∙ set-append_seam front (get_or vs i v) rest w ∙ sym (append_assoc front (w ∷ []) rest)
    ∙ ap (λ xs. xs ++ rest) (sym after) ∙ ap (λ k. placed_from dims fixed moving (take (i + 1) vs) ++ drop k vs) (sym (add-one i))

-- a variable that stands fixed, or moves with the records
pub place_after_fixed : (dims : List Dim) (fixed moving : ℕ) (vs : List Var) (v : Var) → is_record_var dims v ≡ false →
    place_after dims fixed moving vs v ≡ fixed + fixed_of dims vs
place_after_fixed dims fixed moving vs v e = ap (λ b. cond b (moving + moving_of dims vs) (fixed + fixed_of dims vs)) e

pub place_after_moving : (dims : List Dim) (fixed moving : ℕ) (vs : List Var) (v : Var) → is_record_var dims v ≡ true →
    place_after dims fixed moving vs v ≡ moving + moving_of dims vs
place_after_moving dims fixed moving vs v e = ap (λ b. cond b (moving + moving_of dims vs) (fixed + fixed_of dims vs)) e

-- the bytes of variables do not depend on their places
length_placed_vars : (version : ℕ) (dims : List Dim) (fixed moving : ℕ) (vs : List Var) →
    length (flat_map (var_bytes version) (placed_from dims fixed moving vs)) ≡ length (flat_map (var_bytes version) vs)
length_placed_vars version dims fixed moving [] = refl
length_placed_vars version dims fixed moving (v ∷ vs) =
    let one : (at : ℕ) → length (var_bytes version (placed_var dims at v)) ≡ length (var_bytes version v) =
    λ at. length_var_bytes version (placed_var dims at v) ∙ sym (length_var_bytes version v) in
    elim (is_record_var dims v) as (λ b. length (flat_map (var_bytes version) (cond b (placed_var dims moving v ∷ placed_from dims fixed (moving + padded_size dims v) vs)
    (placed_var dims fixed v ∷ placed_from dims (fixed + padded_size dims v) moving vs))) ≡ length (flat_map (var_bytes version) (v ∷ vs))) [
      | true ↦
          length-append (var_bytes version (placed_var dims moving v)) (flat_map (var_bytes version) (placed_from dims fixed (moving + padded_size dims v) vs))
          ∙ ap (λ n. n + length (flat_map (var_bytes version) (placed_from dims fixed (moving + padded_size dims v) vs))) (one moving)
          ∙ ap (λ n. length (var_bytes version v) + n) (length_placed_vars version dims fixed (moving + padded_size dims v) vs)
          ∙ sym (length-append (var_bytes version v) (flat_map (var_bytes version) vs))
      | false ↦
          length-append (var_bytes version (placed_var dims fixed v)) (flat_map (var_bytes version) (placed_from dims (fixed + padded_size dims v) moving vs))
          ∙ ap (λ n. n + length (flat_map (var_bytes version) (placed_from dims (fixed + padded_size dims v) moving vs))) (one fixed)
          ∙ ap (λ n. length (var_bytes version v) + n) (length_placed_vars version dims (fixed + padded_size dims v) moving vs)
          ∙ sym (length-append (var_bytes version v) (flat_map (var_bytes version) vs))
    ]

-- a header has the same length once it is placed
pub length_placed : (h : Header) → length (header_bytes (placed h)) ≡ length (header_bytes h)
unfolding placed
length_placed h =
    let vars = placed_from h.dims (length (header_bytes h)) (length (header_bytes h) + fixed_of h.dims h.vars) h.vars in
    let same : length (list_bytes 11 (var_bytes h.version) vars) ≡ length (list_bytes 11 (var_bytes h.version) h.vars) =
    length_list_bytes 11 (var_bytes h.version) vars
    ∙ ap (λ n. 8 + n) (length_placed_vars h.version h.dims (length (header_bytes h)) (length (header_bytes h) + fixed_of h.dims h.vars) h.vars)
    ∙ sym (length_list_bytes 11 (var_bytes h.version) h.vars) in
    length_header_bytes (placed h)
    ∙ ap (λ n. length (list_bytes 10 dim_bytes h.dims) + length (list_bytes 12 att_bytes h.atts) + n + 8) same ∙ sym (length_header_bytes h)

-- a placed header is sound
pub IsSoundHeader_placed : (h : Header) → IsSoundHeader h → IsSoundHeader (placed h)
unfolding placed
IsSoundHeader_placed h sound = record {
  version = sound.version;
  numrecs = sound.numrecs;
  dim_count = sound.dim_count;
  dims = sound.dims;
  one_record = sound.one_record;
  att_count = sound.att_count;
  atts = sound.atts;
  var_count =
      let same : length (placed_from h.dims (length (header_bytes h)) (length (header_bytes h) + fixed_of h.dims h.vars) h.vars) ≡ length h.vars =
      length_placed_from h.dims (length (header_bytes h)) (length (header_bytes h) + fixed_of h.dims h.vars) h.vars in
      omega (arith, sound.var_count);
  vars = All_placed (IsSoundVar h.dims) h.dims (length (header_bytes h)) (length (header_bytes h) + fixed_of h.dims h.vars) h.vars
      (λ v at s. record { name = s.name; kind = s.kind; rank = s.rank; dims_are = s.dims_are; record_first = s.record_first; count = s.count; atts = s.atts }) sound.vars;
}

-- and its begins fit where its data end below 2 to the 32
pub BeginsFit_placed : (h : Header) → (h.version ≡ 1 → length (header_bytes h) + fixed_of h.dims h.vars + moving_of h.dims h.vars < 2 ^ 32) → BeginsFit (placed h)
unfolding placed
BeginsFit_placed h small = λ e.
    let end : length (header_bytes h) + fixed_of h.dims h.vars + moving_of h.dims h.vars < 2 ^ 32 = small e in
    begins_below h.dims (length (header_bytes h)) (length (header_bytes h) + fixed_of h.dims h.vars) h.vars (2 ^ 32) (omega arith) (omega arith)

-- no variable has more than all of them
pub padded_size_le : (dims : List Dim) (vs : List Var) (i : ℕ) (v : Var) → i < length vs → v ≡ get_or vs i v →
    padded_size dims v ≤ fixed_of dims vs + moving_of dims vs
padded_size_le dims vs i v h read =
    let same : padded_size dims v ≡ padded_size dims (get_or vs i v) = ap (padded_size dims) read in
    omega (arith, get_or-le-sum_by (padded_size dims) vs i v h, sum_by-filter_both (is_record_var dims) (λ x. not (is_record_var dims x)) (λ x. refl) (padded_size dims) vs)

-- the place behind a record variable is within the data
pub moving_fits : (dims : List Dim) (moving : ℕ) (vs : List Var) (i : ℕ) (v : Var) → i < length vs → v ≡ get_or vs i v →
    is_record_var dims v ≡ true → moving + moving_of dims (take i vs) + padded_size dims v ≤ moving + moving_of dims vs
moving_fits dims moving vs i v h read e =
    omega (arith, sum_of_passing_added (is_record_var dims) (padded_size dims) vs i v h read e, sum_of_passing_take (is_record_var dims) (padded_size dims) vs (i + 1))

-- and that behind a fixed one
pub fixed_fits : (dims : List Dim) (fixed : ℕ) (vs : List Var) (i : ℕ) (v : Var) → i < length vs → v ≡ get_or vs i v →
    is_record_var dims v ≡ false → fixed + fixed_of dims (take i vs) + padded_size dims v ≤ fixed + fixed_of dims vs
fixed_fits dims fixed vs i v h read e =
    omega (arith, sum_of_passing_added (λ x. not (is_record_var dims x)) (padded_size dims) vs i v h read (ap not e), sum_of_passing_take (λ x. not (is_record_var dims x)) (padded_size dims) vs (i + 1))

-- a variable as it is placed
pub placed_var_is : (dims : List Dim) (at size begin : ℕ) (v x w : Var) → v ≡ x → size ≡ padded_size dims v → begin ≡ at →
    w ≡ record { name = v.name; dims = v.dims; atts = v.atts; kind = v.kind; vsize = vsize_of size; begin = begin } → w ≡ placed_var dims at x
placed_var_is dims at size begin v x w same e b is =
    is ∙ ap (λ n. record { name = v.name; dims = v.dims; atts = v.atts; kind = v.kind; vsize = vsize_of n; begin = begin }) e
    ∙ ap (λ n. placed_var dims n v) b ∙ ap (λ y. placed_var dims at y) same
