-- Names that a store takes, and the file that a fault wants.
use Rattle.std.proofs.Common.{◌≡◌, ◌∙◌, sym, ap, refl, ℕ, zero, suc, ◌<◌, Bool, true, false, ◌&&◌, if◌then◌else◌, List, [], ◌∷◌, Option, Some, None, Result, Ok, Err, IfOk, IsTrue, arith}
use Rattle.std.specs.Option.{option_map, option_and_then}
use Rattle.std.specs.List.{list_all}
use Rattle.std.specs.Str.{IsUtf8, IsAscii}
use Rattle.std.proofs.lemmas.Str.{IsUtf8-from_ascii}
use Rattle.std.proofs.lemmas.Bool.Decides.{nat_tests}
use Rattle.wf_model.specs.declared.registry.SourceFile.{SourceFile}
use Rattle.wf_model.specs.declared.registry.RegistryFault.{RegistryFault}
use Rattle.wf_model.specs.Letters.{Text, is_store_name}
use Rattle.wf_model.specs.Files.{Files}
use Rattle.wf_model.specs.FilesRead.{source, wanted}
use Rattle.wf_setup.specs.Asked.{is_store_byte, source_named, wanted_source}

byte_small : (b : ℕ) → is_store_byte b ≡ true → b < 128
byte_small b is = grind (arith, nat_tests)

both_left : (a b : Bool) → (a && b) ≡ true → a ≡ true
both_left true b e = refl
both_left false b e = cc

both_right : (a b : Bool) → (a && b) ≡ true → b ≡ true
both_right true b e = e
both_right false b e = cc

bytes_small : (word : List ℕ) → list_all is_store_byte word ≡ true → IsAscii word
bytes_small [] is i = omega arith
bytes_small (b ∷ bs) is zero = byte_small b (both_left (is_store_byte b) (list_all is_store_byte bs) is)
bytes_small (b ∷ bs) is (suc i) = bytes_small bs (both_right (is_store_byte b) (list_all is_store_byte bs) is) i

-- a name that a store takes is a text
pub store_name_text : (word : List ℕ) → is_store_name word ≡ true → IsUtf8 word
store_name_text word is = IsUtf8-from_ascii word (bytes_small word (both_right _ (list_all is_store_byte word) is))

-- ---- the wanted file

pub none_wanted : (m : Files) (f : RegistryFault) → None ≡ wanted f.kind → None ≡ wanted_source m f
none_wanted m f e = ap (λ (o : Option Text). option_and_then (source_named m) o) e

pub none_taken : (m : Files) (f : RegistryFault) (name : Text) → Some name ≡ wanted f.kind → is_store_name name ≡ false → None ≡ wanted_source m f
none_taken m f name e not_taken =
    ap (λ (t : Bool). option_map (source name) (if t then m name else None)) (sym not_taken) ∙ ap (λ (o : Option Text). option_and_then (source_named m) o) e

pub found_wanted : (m : Files) (f : RegistryFault) (name : Text) → Some name ≡ wanted f.kind → is_store_name name ≡ true → option_map (source name) (m name) ≡ wanted_source m f
found_wanted m f name e taken =
    ap (λ (t : Bool). option_map (source name) (if t then m name else None)) (sym taken) ∙ ap (λ (o : Option Text). option_and_then (source_named m) o) e

-- the file that was read is the wanted one
pub found_named : {E : Type 0} (told : Option Files) (f : RegistryFault) (name other : Text) (result : Result (Option SourceFile) E)
    → Some name ≡ wanted f.kind → other ≡ name → IsTrue (is_store_name name)
    → IfOk result (λ o. (m : Files) → told ≡ Some m → o ≡ option_map (source other) (m other)) → IfOk result (λ o. (m : Files) → told ≡ Some m → o ≡ wanted_source m f)
found_named told f name other (Ok o) e same takes found =
    λ m is. found m is ∙ ap (λ (t : Text). option_map (source t) (m t)) same ∙ found_wanted m f name e takes
found_named told f name other (Err x) e same takes found = tt
