-- The numbers that the demo's words ask for, and the answer to any words.
use Rattle.std.proofs.Common.{◌≡◌, ℕ, ◌≤◌, Bool, true, false, List, refl, ap, ◌∙◌, subst, arith, Option, Some, None, Result}
use Rattle.std.proofs.lemmas.Bool.Decides.{nat_tests}
use Rattle.std.specs.Prelude.{nat_le, ◌&&◌, ◌||◌, ◌==◌, length, codes, if◌then◌else◌}
use Rattle.std.specs.Str.{bytes_eq}
use Rattle.wf_model.specs.declared.demo.Demo.{Demo}
use Rattle.wf_model.specs.Numbers.{and_then}
use Rattle.wf_model.specs.Letters.{Text, digits_value}
use Rattle.wf_model.specs.Demo.{is_word_number, word_number, word_at, demo_numbers, demo_of, asked_answer, tool_answer}
use Rattle.wf_model.specs.Answer.{Command, after, command_answer, answer_of}
use Rattle.wf_model.specs.Refusals.{Refusal}
use Rattle.wf_demo_laws.specs.DemoLaws.{asked_command, WordsAreAnsweredByTheDemo}
use Rattle.wf_demo_laws.proofs.Command.{answer_is}

-- both had something
both_had : {A B : Type 0} (o : Option A) (f : A → Option B) (b : B) → and_then o f ≡ Some b → (a : A) × (o ≡ Some a) × (f a ≡ Some b)
both_had None f b h = grind arith
both_had (Some a) f b h = (a, refl, h)

-- a word's number lies within its limits
word_within : (low high : ℕ) (word : Text) (n : ℕ) → word_number low high word ≡ Some n → (low ≤ n) × (n ≤ high)
word_within low high word n h = at (is_word_number word) (digits_value word) h
  where
    at : (b : Bool) (v : ℕ) → (if b && nat_le low v && nat_le v high then Some v else None) ≡ Some n → (low ≤ n) × (n ≤ high)
    at b v h = (grind (arith, nat_tests), grind (arith, nat_tests))

-- the numbers of a demo that words ask for
record IsAsked (d : Demo) : Type 0 where
  high : 1 ≤ d.ny
  some : 1 ≤ d.px
  few : d.steps ≤ 100

numbers_within : (x y n p : Text) (each : Bool) (d : Demo) → demo_numbers x y n p each ≡ Some d → IsAsked d
numbers_within x y n p each d h =
    let a = both_had (word_number 1 200 x) _ d h in
    let b = both_had (word_number 1 200 y) _ d a.2 in
    let s = both_had (word_number 0 100 n) _ d b.2 in
    let q = both_had (word_number 1 256 p) _ d s.2 in
    subst IsAsked (same q.2) (record { high = (word_within 1 200 y b.0 b.1).0; some = (word_within 1 256 p q.0 q.1).0; few = (word_within 0 100 n s.0 s.1).1 })
  where
    same : {a b : Demo} → Some a ≡ Some b → a ≡ b
    same e = cc

asked_within : (words : List Text) (d : Demo) → demo_of words ≡ Some d → IsAsked d
unfolding demo_of
asked_within words d h =
    at (bytes_eq (word_at words 0) (codes "demo") && ((length words == 5) || ((length words == 6) && bytes_eq (word_at words 5) (codes "--memory")))) h
  where
    at : (b : Bool) → (if b then demo_numbers (word_at words 1) (word_at words 2) (word_at words 3) (word_at words 4) (length words == 6) else None) ≡ Some d → IsAsked d
    at true q = numbers_within (word_at words 1) (word_at words 2) (word_at words 3) (word_at words 4) (length words == 6) d q
    at false q = grind arith

-- any words
pub words_are : WordsAreAnsweredByTheDemo
unfolding answer_of tool_answer
words_are outside files words h = ap (λ (c : Result Command Refusal). after c (command_answer outside files)) h ∙ at (demo_of words) refl
  where
    at : (o : Option Demo) → demo_of words ≡ o → after (asked_command o) (command_answer outside files) ≡ asked_answer o
    at None q = refl
    at (Some d) q = let asked = asked_within words d q in answer_is outside files d asked.high asked.some (omega (arith, asked.few))
