-- The files of a store, and the calls that write them.
use Rattle.std.specs.Prelude.{ℕ, ◌+◌, List, [], ◌++◌, length, take, drop, fold, Option, Some}
use Rattle.std.specs.Prelude.{unwrap_or, if◌then◌else◌}
use Rattle.std.specs.Str.{bytes_eq}

-- the bytes that each name has, if it is a file's
abbrev pub Files : Type 0
Files = List ℕ → Option (List ℕ)

-- the files with these bytes at the name
abbrev pub with_file : Files → List ℕ → List ℕ → Files
with_file files name bytes = λ q. if bytes_eq q name then Some bytes else files q

-- the bytes of a name, and none where there is no such file
abbrev pub bytes_at : Files → List ℕ → List ℕ
bytes_at files name = unwrap_or (files name) []

-- the old bytes with those from place `at` on replaced
abbrev pub patched : List ℕ → ℕ → List ℕ → List ℕ
patched old at bytes = take at old ++ bytes ++ drop (at + length bytes) old

-- a call: make the name hold no bytes, add bytes at its end, or replace its bytes from a place on
pub data StoreCall : Type 0 where
  create : List ℕ → StoreCall
  append : List ℕ → List ℕ → StoreCall
  write_at : List ℕ → ℕ → List ℕ → StoreCall

-- the files after a call that went well
abbrev pub after_call : Files → StoreCall → Files
after_call files (create name) = with_file files name []
after_call files (append name bytes) = with_file files name (bytes_at files name ++ bytes)
after_call files (write_at name at bytes) =
    with_file files name (patched (bytes_at files name) at bytes)

-- the files after all of the calls
abbrev pub files_after_all : Files → List StoreCall → Files
files_after_all files calls = fold after_call files calls

-- the files after the first n calls
unfoldable pub files_after : Files → List StoreCall → ℕ → Files
files_after files calls n = files_after_all files (take n calls)
