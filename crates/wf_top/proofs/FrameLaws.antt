-- A frame: its time, its calls, and what they leave of the demo's file.
use Rattle.std.proofs.Common.{◌≡◌, ℕ, zero, suc, pos, ◌+◌, ◌-◌, ◌*◌, ◌/◌, ◌%◌, ◌<◌, ◌≤◌, List, [], ◌∷◌, ◌++◌, length, take, drop, flat_map, map, Option, Some, IsSome, unwrap_or, true, ℤ, sum_by, refl, sym, ap, ◌∙◌, subst, arith, length-append, length-take, length-drop, append-nil, codes}
use Rattle.std.specs.Str.{bytes_eq}
use Rattle.std.specs.List.{range_with_len}
use Rattle.std.proofs.lemmas.Slice.Eq.{bytes_eq-Decides}
use Rattle.std.proofs.lemmas.List.FromFn.{length-map-range_with_len}
use Rattle.wf_model.specs.declared.header.Header.{Header}
use Rattle.wf_model.specs.Plans.{up_to}
use Rattle.wf_model.specs.Grids.{listed}
use Rattle.wf_model.specs.Calendar.{time_text, days_after, moment_of, text_of}
use Rattle.wf_model.specs.DemoCase.{case_start}
use Rattle.wf_model.specs.Bytes.{four_bytes, slab_bytes, header_bytes, list_bytes, dim_bytes, att_bytes, var_bytes}
use Rattle.wf_model.specs.Files.{Files, StoreCall, create, append, write_at, with_file, bytes_at, patched, files_after_all}
use Rattle.wf_model.specs.StoreRuns.{Ran, Stopped}
use Rattle.wf_model.specs.Demo.{demo_file, demo_time, demo_value, demo_grid, demo_frame, demo_frames, frame_sum}
use Rattle.wf_model.specs.Failed.{Failed}
use Rattle.wf_model.proofs.StoreRunLaws.{told_back, ran_then, stopped_left, stopped_right, failed_left, failed_right}
use Rattle.wf_top.specs.Told.{HasHeader}
use Rattle.wf_top.proofs.RangeLaws.{flat_map_split, sum_more}

-- ---- the time

minute_text : ℕ → ℕ → ℕ → ℕ → ℕ → ℕ → List ℕ
minute_text a b c d e f = 50 ∷ 48 ∷ 48 ∷ 48 ∷ 45 ∷ 48 ∷ 49 ∷ 45 ∷ 48 ∷ 49 ∷ 95 ∷ a ∷ b ∷ 58 ∷ c ∷ d ∷ 58 ∷ e ∷ f ∷ []

-- the text of a moment of the first day
pub time_is : (n : ℕ) → n ≤ 100
    → ◌≡◌ {A = List ℕ} (50 ∷ 48 ∷ 48 ∷ 48 ∷ 45 ∷ 48 ∷ 49 ∷ 45 ∷ 48 ∷ 49 ∷ 95 ∷ 48 ∷ (48 + n / 60) ∷ 58 ∷ (48 + n % 60 / 10) ∷ (48 + n % 60 % 10) ∷ 58 ∷ 48 ∷ 48 ∷ []) (time_text case_start (60 * n))
unfolding time_text days_after minute_text
time_is n h =
    let shown : ℕ → ℕ → List ℕ = λ day second. text_of (record { date = days_after day (moment_of case_start).date; second = second }) in
    let day : 0 ≡ (0 + 60 * n) / 86400 = omega arith in
    let second : 60 * n ≡ (0 + 60 * n) % 86400 = omega arith in
    let a : 48 ≡ 48 + 60 * n / 3600 / 10 = omega arith in
    let b : 48 + n / 60 ≡ 48 + 60 * n / 3600 % 10 = omega arith in
    let c : 48 + n % 60 / 10 ≡ 48 + 60 * n / 60 % 60 / 10 = omega arith in
    let d : 48 + n % 60 % 10 ≡ 48 + 60 * n / 60 % 60 % 10 = omega arith in
    let e : 48 ≡ 48 + 60 * n % 60 / 10 = omega arith in
    let f : 48 ≡ 48 + 60 * n % 60 % 10 = omega arith in
    let same : minute_text 48 (48 + n / 60) (48 + n % 60 / 10) (48 + n % 60 % 10) 48 48 ≡ shown 0 (60 * n) = cc in
    same ∙ ap (λ x. shown x (60 * n)) day ∙ ap (shown ((0 + 60 * n) / 86400)) second

-- ---- the calls

-- the calls of a frame from its bytes
pub frame_is : (time slab count : List ℕ) (nx ny step : ℕ) → time ≡ demo_time step → slab ≡ slab_bytes (demo_grid nx ny step) → count ≡ four_bytes (step + 1)
    → ◌≡◌ {A = List StoreCall} (append demo_file time ∷ append demo_file slab ∷ write_at demo_file 4 count ∷ []) (demo_frame nx ny step)
frame_is time slab count nx ny step f g h =
    ap (λ (t : List ℕ). append demo_file t ∷ append demo_file slab ∷ write_at demo_file 4 count ∷ []) f
    ∙ ap (λ (s : List ℕ). append demo_file (demo_time step) ∷ append demo_file s ∷ write_at demo_file 4 count ∷ []) g
    ∙ ap (λ (c : List ℕ). append demo_file (demo_time step) ∷ append demo_file (slab_bytes (demo_grid nx ny step)) ∷ write_at demo_file 4 c ∷ []) h

-- a name that was written is there
with_there : (m : Files) (name b : List ℕ) → with_file m name b name ≡ Some b
with_there m name b = let e : bytes_eq name name ≡ true = (bytes_eq-Decides name name).1 refl in rw e refl

bytes_with : (m : Files) (name b : List ℕ) → bytes_at (with_file m name b) name ≡ b
bytes_with m name b = ap (λ (o : Option (List ℕ)). unwrap_or o []) (with_there m name b)

long_patched : (o w : List ℕ) → 8 ≤ length o → length w ≡ 4 → 8 ≤ length (patched o 4 w)
long_patched o w h e = omega (arith, length-append (take 4 o ++ w) (drop (4 + length w) o), length-append (take 4 o) w, length-take 4 o, length-drop (4 + length w) o)

-- a file with room has room after a record
room_after : (m : Files) (name t s w : List ℕ) → 8 ≤ length (bytes_at m name) → length w ≡ 4
    → 8 ≤ length (bytes_at (files_after_all m (append name t ∷ append name s ∷ write_at name 4 w ∷ [])) name)
room_after m name t s w h e =
    let m1 = with_file m name (bytes_at m name ++ t) in
    let m2 = with_file m1 name (bytes_at m1 name ++ s) in
    let h1 : 8 ≤ length (bytes_at m1 name) = omega (arith, ap length (bytes_with m name (bytes_at m name ++ t)), length-append (bytes_at m name) t) in
    let h2 : 8 ≤ length (bytes_at m2 name) = omega (arith, ap length (bytes_with m1 name (bytes_at m1 name ++ s)), length-append (bytes_at m1 name) s) in
    let p = patched (bytes_at m2 name) 4 w in
    omega (arith, ap length (bytes_with m2 name p), long_patched (bytes_at m2 name) w h2 e)

there_after : (m : Files) (name t s w : List ℕ) → IsSome (files_after_all m (append name t ∷ append name s ∷ write_at name 4 w ∷ []) name)
there_after m name t s w =
    let m1 = with_file m name (bytes_at m name ++ t) in
    let m2 = with_file m1 name (bytes_at m1 name ++ s) in
    subst (λ (o : Option (List ℕ)). IsSome o) (sym (with_there m2 name (patched (bytes_at m2 name) 4 w))) refl

-- a frame leaves the file with its header
pub header_after : (nx ny step : ℕ) (a b : Option Files) → HasHeader a → Ran (demo_frame nx ny step) a b → HasHeader b
header_after nx ny step a b h r = record {
  there = λ n e. let w = told_back a b (λ m n. n ≡ files_after_all m (demo_frame nx ny step)) r n e in
      subst (λ (k : Files). IsSome (k demo_file)) (sym w.2) (there_after w.0 demo_file (demo_time step) (slab_bytes (demo_grid nx ny step)) (four_bytes (step + 1)));
  room = λ n e. let w = told_back a b (λ m n. n ≡ files_after_all m (demo_frame nx ny step)) r n e in
      subst (λ (k : Files). 8 ≤ length (bytes_at k demo_file)) (sym w.2) (room_after w.0 demo_file (demo_time step) (slab_bytes (demo_grid nx ny step)) (four_bytes (step + 1)) (h.room w.0 w.1) refl);
}

-- ---- sizes

-- the bytes of a time
pub time_length : (n : ℕ) → length (demo_time n) ≡ 20
unfolding time_text
time_length n = refl

length_slab : (values : List ℤ) → length (slab_bytes values) ≡ 4 * length values
unfolding slab_bytes
length_slab [] = refl
length_slab (z ∷ zs) = ap (λ n. suc (suc (suc (suc n)))) (length_slab zs) ∙ omega arith

length_rows : (n : ℕ) (row : ℕ → List ℤ) (a k : ℕ) → ((j : ℕ) → length (row j) ≡ n) → length (flat_map row (range_with_len a k)) ≡ k * n
length_rows n row a zero e = omega arith
length_rows n row a (suc k) e = omega (arith, length-append (row a) (flat_map row (range_with_len (a + 1) k)), e a, length_rows n row (a + 1) k e)

length_grid : (nx ny n : ℕ) → length (demo_grid nx ny n) ≡ ny * nx
unfolding listed
length_grid nx ny n =
    let row : ℕ → List ℤ = λ j. map (λ i. pos (demo_value nx ny n j i)) (up_to nx) in
    ap length (append-nil (flat_map row (up_to ny))) ∙ length_rows nx row 1 ny (λ j. length-map-range_with_len (λ i. pos (demo_value nx ny n j i)) 1 nx)

area_small : (nx ny : ℕ) → nx ≤ 200 → ny ≤ 200 → ny * nx ≤ 40000
area_small nx ny p q = grind arith

-- the bytes of a slab
pub slab_small : (nx ny n : ℕ) → nx ≤ 200 → ny ≤ 200 → length (slab_bytes (demo_grid nx ny n)) ≤ 160000
slab_small nx ny n p q = omega (arith, length_slab (demo_grid nx ny n), length_grid nx ny n, area_small nx ny p q)

-- ---- frame after frame

pub frames_more : (nx ny n k : ℕ) → demo_frames nx ny (n + k) ≡ demo_frames nx ny n ++ flat_map (demo_frame nx ny) (range_with_len (0 + n) k)
frames_more nx ny n k = flat_map_split (demo_frame nx ny) 0 n k

pub frames_step : (nx ny n : ℕ) → demo_frames nx ny (n + 1) ≡ demo_frames nx ny n ++ demo_frame nx ny n
frames_step nx ny n =
    let e : 0 + n ≡ n = omega arith in
    frames_more nx ny n 1 ∙ ap (λ (xs : List StoreCall). demo_frames nx ny n ++ xs) (append-nil (demo_frame nx ny (0 + n)) ∙ ap (demo_frame nx ny) e)

pub sum_step : (nx ny n : ℕ) → sum_by (frame_sum nx ny) (range_with_len 0 (n + 1)) ≡ sum_by (frame_sum nx ny) (range_with_len 0 n) + frame_sum nx ny n
sum_step nx ny n = sum_more (frame_sum nx ny) n

pub ran_step : (nx ny n : ℕ) (a b c : Option Files) → Ran (demo_frames nx ny n) a b → Ran (demo_frame nx ny n) b c → Ran (demo_frames nx ny (n + 1)) a c
ran_step nx ny n a b c p q = subst (λ (cs : List StoreCall). Ran cs a c) (sym (frames_step nx ny n)) (ran_then (demo_frames nx ny n) (demo_frame nx ny n) a b c p q)

-- a run that stops before its last frame
stopped_at : (nx ny n m : ℕ) (a b : Option Files) → n ≤ m → Stopped (demo_frames nx ny n) a b → Stopped (demo_frames nx ny m) a b
stopped_at nx ny n m a b h p =
    let e : n + (m - n) ≡ m = omega arith in
    subst (λ k. Stopped (demo_frames nx ny k) a b) e
    (subst (λ (cs : List StoreCall). Stopped cs a b) (sym (frames_more nx ny n (m - n))) (stopped_left (demo_frames nx ny n) (flat_map (demo_frame nx ny) (range_with_len (0 + n) (m - n))) a b p))

-- a frame that stops
pub stopped_frame : (nx ny n m : ℕ) (a b c : Option Files) → n < m → Ran (demo_frames nx ny n) a b → Stopped (demo_frame nx ny n) b c → Stopped (demo_frames nx ny m) a c
stopped_frame nx ny n m a b c h p q =
    stopped_at nx ny (n + 1) m a c (omega arith) (subst (λ (cs : List StoreCall). Stopped cs a c) (sym (frames_step nx ny n)) (stopped_right (demo_frames nx ny n) (demo_frame nx ny n) a b c p q))

-- a run in which a call failed before its last frame
failed_at : (nx ny n m : ℕ) (a b : Option Files) → n ≤ m → Failed (demo_frames nx ny n) demo_file a b → Failed (demo_frames nx ny m) demo_file a b
failed_at nx ny n m a b h p =
    let e : n + (m - n) ≡ m = omega arith in
    subst (λ k. Failed (demo_frames nx ny k) demo_file a b) e
    (subst (λ (cs : List StoreCall). Failed cs demo_file a b) (sym (frames_more nx ny n (m - n))) (failed_left (demo_frames nx ny n) (flat_map (demo_frame nx ny) (range_with_len (0 + n) (m - n))) demo_file a b p))

-- a frame of which a call failed
pub failed_frame : (nx ny n m : ℕ) (a b c : Option Files) → n < m → Ran (demo_frames nx ny n) a b → Failed (demo_frame nx ny n) demo_file b c → Failed (demo_frames nx ny m) demo_file a c
failed_frame nx ny n m a b c h p q =
    failed_at nx ny (n + 1) m a c (omega arith) (subst (λ (cs : List StoreCall). Failed cs demo_file a c) (sym (frames_step nx ny n)) (failed_right (demo_frames nx ny n) (demo_frame nx ny n) demo_file a b c p q))

-- the frames of as many points
pub frame_along : (nx ny mx my n : ℕ) → mx ≡ nx → my ≡ ny → demo_frame mx my n ≡ demo_frame nx ny n
frame_along nx ny mx my n p q = ap (λ x. demo_frame x my n) p ∙ ap (λ y. demo_frame nx y n) q

pub sum_along : (nx ny mx my n : ℕ) → mx ≡ nx → my ≡ ny → frame_sum mx my n ≡ frame_sum nx ny n
sum_along nx ny mx my n p q = ap (λ x. frame_sum x my n) p ∙ ap (λ y. frame_sum nx y n) q

-- ---- the header

-- a header has room for the count of records
header_room : (h : Header) → 8 ≤ length (header_bytes h)
unfolding header_bytes
header_room h =
    let front : List ℕ = codes "CDF" ++ h.version ∷ four_bytes h.numrecs in
    let dims = list_bytes 10 dim_bytes h.dims in
    let atts = list_bytes 12 att_bytes h.atts in
    let vars = list_bytes 11 (var_bytes h.version) h.vars in
    let eight : length front ≡ 8 = refl in
    omega (arith, eight, length-append (front ++ dims ++ atts) vars, length-append (front ++ dims) atts, length-append front dims)

made_there : (m : Files) (name h : List ℕ) → IsSome (files_after_all m (create name ∷ append name h ∷ []) name)
made_there m name h =
    let m1 = with_file m name [] in
    subst (λ (o : Option (List ℕ)). IsSome o) (sym (with_there m1 name (bytes_at m1 name ++ h))) refl

made_room : (m : Files) (name h : List ℕ) → 8 ≤ length h → 8 ≤ length (bytes_at (files_after_all m (create name ∷ append name h ∷ [])) name)
made_room m name h long =
    let m1 = with_file m name [] in
    omega (arith, ap length (bytes_with m1 name (bytes_at m1 name ++ h)), length-append (bytes_at m1 name) h)

-- a file that was made has its header
pub header_made : (h : Header) (a b : Option Files) → Ran (create demo_file ∷ append demo_file (header_bytes h) ∷ []) a b → HasHeader b
header_made h a b r = record {
  there = λ n e. let w = told_back a b (λ m n. n ≡ files_after_all m (create demo_file ∷ append demo_file (header_bytes h) ∷ [])) r n e in
      subst (λ (k : Files). IsSome (k demo_file)) (sym w.2) (made_there w.0 demo_file (header_bytes h));
  room = λ n e. let w = told_back a b (λ m n. n ≡ files_after_all m (create demo_file ∷ append demo_file (header_bytes h) ∷ [])) r n e in
      subst (λ (k : Files). 8 ≤ length (bytes_at k demo_file)) (sym w.2) (made_room w.0 demo_file (header_bytes h) (header_room h));
}
