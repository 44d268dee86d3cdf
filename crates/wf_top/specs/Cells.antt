-- Numbers in rows and columns, both counted from 0, row by row in one list.
use Rattle.std.specs.Prelude.{ℕ, ◌+◌, ◌-◌, ◌*◌, ◌%◌, ◌<◌, ◌&&◌, Bool, nat_lt, List, ℤ, pos}
use Rattle.std.specs.Prelude.{unsigned_abs, if◌then◌else◌, slice_index_or}
use Rattle.wf_model.specs.Demo.{weighted}

-- the number in row r and column c, where a row has w of them
abbrev pub cell : List ℤ → ℕ → ℕ → ℕ → ℤ
cell values w r c = slice_index_or values (r * w + c) (pos 0)

abbrev pub size_at : List ℤ → ℕ → ℕ → ℕ → ℕ
size_at values w r c = unsigned_abs (cell values w r c)

-- a cell with its four neighbours, weighted
abbrev pub mean_at : List ℤ → ℕ → ℕ → ℕ → ℕ
mean_at values w r c =
    weighted (size_at values w r c) (size_at values w r (c - 1)) (size_at values w r (c + 1))
    (size_at values w (r - 1) c) (size_at values w (r + 1) c)

-- none at the border of h rows and w columns
abbrev pub is_within : ℕ → ℕ → ℕ → ℕ → Bool
is_within w h r c = nat_lt 0 c && nat_lt (c + 1) w && nat_lt 0 r && nat_lt (r + 1) h

-- a cell after a step: the border keeps its numbers
abbrev pub next_at : List ℤ → ℕ → ℕ → ℕ → ℕ → ℤ
next_at values w h r c = if is_within w h r c then pos (mean_at values w r c) else cell values w r c

-- no number of these rows is above 99 or below -99
abbrev pub AreSmall : List ℤ → ℕ → ℕ → Type 0
AreSmall values w h = (r c : ℕ) → r < h → c < w → size_at values w r c < 100

-- a cell before the first step, in column i of the domain, counted from 0
abbrev pub first_at : ℕ → ℕ → ℕ
first_at r i = (37 * i + 53 * r) % 100
