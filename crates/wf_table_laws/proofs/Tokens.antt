-- What holds of the tokens' readers: numbers are in their range, levels are there, and only a node is counted.
use Rattle.std.proofs.Common.{◌≡◌, ℕ, suc, ◌+◌, ◌<◌, ◌≤◌, Bool, true, false, nat_lt, nat_le, IsTrue, [], ◌∷◌, length, Result, ℤ, pos, refl, ap, ◌∙◌, arith, position, if◌then◌else◌}
use Rattle.std.specs.Prelude.{unsigned_abs, neg_ℤ, ◌&&◌}
use Rattle.std.specs.List.{list_all, slice_get}
use Rattle.std.specs.Char.{to_ascii_lowercase}
use Rattle.std.proofs.lemmas.Bool.Decides.{nat_tests}
use Rattle.wf_model.specs.declared.table.Names.{Names}
use Rattle.wf_model.specs.Letters.{Text, lower, is_name, is_name_byte, is_digits, digits_value}
use Rattle.wf_model.specs.Tokens.{At, next, is_next, past, expect, name_next, number, signed}
use Rattle.wf_model.specs.TableNames.{level, field_name, is_level, has_z, most_dk}
use Rattle.wf_model.specs.ExprText.{node}
use Rattle.wf_model.proofs.FirstPlaces.{found}
use Rattle.wf_table_laws.proofs.Yields.{Yields, yields-ok, yields-err, yields-or, chain, choose}

-- ---- words

-- as many nodes as before
abbrev pub Same : At → At → Type 0
Same at a = a.nodes ≡ at.nodes

-- a word
pub expect-yields : (word : Text) (at : At) → Yields (Same at) (expect word at)
expect-yields word at = choose (is_next word at) (λ e. yields-ok (Same at) (past at) refl) (λ e. yields-err (Same at) _)

-- one node more, of at most 1024
pub record OneMore (at a : At) : Type 0 where
  pub room : at.nodes < 1024
  pub one : a.nodes ≡ at.nodes + 1

room_of : (n : ℕ) → nat_lt n 1024 ≡ true → n < 1024
room_of n e = grind arith

pub node-yields : (at : At) → Yields (OneMore at) (node at)
node-yields at = choose _ (λ e. yields-ok (OneMore at) _ (record { room = room_of at.nodes e; one = refl })) (λ e. yields-err (OneMore at) _)

-- ---- names

-- a letter's lower case is one
byte : (b : ℕ) → is_name_byte (to_ascii_lowercase b) ≡ is_name_byte b
byte b = grind (arith, nat_tests)

bytes : (w : Text) → list_all is_name_byte (lower w) ≡ list_all is_name_byte w
bytes [] = refl
bytes (b ∷ bs) = rw (byte b, bytes bs) refl

same_length : (w : Text) → length (lower w) ≡ length w
same_length [] = refl
same_length (b ∷ bs) = ap suc (same_length bs)

-- a name in lower case is a name
is_name_lower : (w : Text) → is_name (lower w) ≡ is_name w
is_name_lower w = rw (same_length w, bytes w) refl

-- a name
abbrev pub IsName : Text → Type 0
IsName w = IsTrue (is_name w)

pub name-yields : (at : At) → Yields IsName (name_next at)
name-yields at = choose _ (λ e. yields-ok IsName _ (is_name_lower (next at) ∙ e)) (λ e. yields-err IsName _)

-- ---- numbers

-- a number within a range, and no node more
pub record Counts (least most : ℕ) (at : At) (r : ℕ × At) : Type 0 where
  pub low : least ≤ r.0
  pub high : r.0 ≤ most
  pub same : Same at r.1

pub within : (digits : Bool) (low high n : ℕ) → (digits && nat_le low n && nat_le n high) ≡ true → (low ≤ n) × (n ≤ high)
within true low high n e = grind arith
within false low high n e = grind arith

pub number-yields : (low high : ℕ) (at : At) → Yields (Counts low high at) (number low high at)
number-yields low high at =
    choose _
    (λ e. let h = within (is_digits (next at)) low high (digits_value (next at)) e in yields-ok (Counts low high at) _ (record { low = h.0; high = h.1; same = refl }))
    (λ e. yields-err (Counts low high at) _)

-- a number with a sign, at most so large, and no node more
pub record Reaches (most : ℕ) (at : At) (r : ℤ × At) : Type 0 where
  pub high : unsigned_abs r.0 ≤ most
  pub same : Same at r.1

negated : (n : ℕ) → unsigned_abs (neg_ℤ (pos n)) ≡ n
negated n = grind arith

pub signed-yields : (most : ℕ) (at : At) → Yields (Reaches most at) (signed most at)
signed-yields most at =
    choose _
    (λ e. chain (number-yields 0 most (past at)) (λ r h. yields-ok (Reaches most at) (neg_ℤ (pos r.0), r.1) (record { high = omega (arith, h.high, negated r.0); same = h.same })))
    (λ e. chain (number-yields 0 most at) (λ r h. yields-ok (Reaches most at) (pos r.0, r.1) (record { high = h.high; same = h.same })))

-- ---- levels

-- the number of a level, and no node more
pub record IsLevelAt (names : Names) (at : At) (r : ℕ × At) : Type 0 where
  pub level : r.0 < length names.levels
  pub same : Same at r.1

pub level-yields : (names : Names) (at : At) → Yields (IsLevelAt names at) (level names at)
level-yields names at =
    chain (anything (field_name at))
    (λ name h. chain (yields-or (position (is_level name) names.levels) _)
    (λ f e. yields-ok (IsLevelAt names at) _ (record { level = (found (is_level name) names.levels f e).1; same = refl })))
  where
    anything : {A F : Type 0} (read : Result A F) → Yields (λ x. Unit {0}) read
    anything read = record { has = λ x e. tt }

-- an offset in k is at most 127
pub most_dk-within : (names : Names) (f : ℕ) → most_dk names f ≤ 127
most_dk-within names f = by (has_z (slice_get names.levels f))
  where
    by : (b : Bool) → (if b then 127 else 0) ≤ 127
    by true = omega arith
    by false = omega arith
