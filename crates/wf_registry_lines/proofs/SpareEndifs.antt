-- The endifs that close no ifdef among the lines before them.
use Rattle.std.proofs.Common.{◌≡◌, ℕ, zero, suc, ◌+◌, ◌-◌, ◌≤◌, Bool, true, false, cond, List, [], ◌∷◌, ◌++◌, length, map, reverse, refl, sym, ap, ◌∙◌, subst, arith, append_assoc, length-append}
use Rattle.std.specs.Prelude.{◌==◌, ◌||◌, nat_lt, codes}
use Rattle.std.specs.List.{All}
use Rattle.std.proofs.lemmas.Bool.Decides.{nat_tests}
use Rattle.std.proofs.lemmas.List.{append-nil, reverse-append}
use Rattle.std.proofs.lemmas.List.Elements.{All-head, All-nil, All-push, All-same, All-tail}
use Rattle.wf_model.specs.declared.text.Line.{Line}
use Rattle.wf_model.specs.KeptLines.{has_endif, is_kind, kind_word, texts}
use Rattle.wf_registry_lines.specs.Ahead.{Marked, kind_spare, marks, seen, spare_of, spare_with}
use Rattle.wf_registry_lines.specs.FileLines.{IsHeld, held}
use Rattle.wf_registry_lines.specs.Kinds.{kind_of}
use Rattle.wf_registry_lines.specs.declared.ahead.AheadLine.{AheadLine}
use Rattle.wf_registry_lines.specs.declared.ahead.FileLine.{FileLine}
use Rattle.wf_registry_lines.specs.declared.kind.Kind.{Kind}
use Rattle.wf_registry_lines.specs.declared.kind.Kind.TheVariants as kinds

-- one line in front: what it makes of the test is the same
in_front : (k n : ℕ) (ifdef endif : Bool)
    → cond ifdef (nat_lt (suc k) n) (cond endif (cond (k == 0) true (nat_lt (k - 1) n)) (nat_lt k n)) ≡ nat_lt k (cond ifdef (n - 1) (cond endif (n + 1) n))
in_front k n true endif = grind (arith, nat_tests)
in_front zero n false true = grind (arith, nat_tests)
in_front (suc k) n false true = grind (arith, nat_tests)
in_front k n false false = refl

-- an endif of its own follows where more of them are left over than are open
pub has_endif-spare : (k : ℕ) (ls : List Line) → has_endif k ls ≡ nat_lt k (spare_of ls)
unfolding has_endif
has_endif-spare k [] = grind (arith, nat_tests)
has_endif-spare k (l ∷ ls) =
    rw (has_endif-spare (suc k) ls, has_endif-spare (k - 1) ls, has_endif-spare k ls) (in_front k (spare_of ls) (is_kind (codes "ifdef") l) (is_kind (codes "endif") l))

-- by the line's kind it is the same
kind_spare-by : (n : ℕ) (ifdef endif include dimspec : Bool)
    → kind_spare (cond ifdef kinds.Ifdef (cond endif kinds.Endif (cond include kinds.Include (cond dimspec kinds.Dimspec kinds.Other)))) n ≡ cond ifdef (n - 1) (cond endif (n + 1) n)
kind_spare-by n true endif include dimspec = refl
kind_spare-by n false true include dimspec = refl
kind_spare-by n false false true dimspec = refl
kind_spare-by n false false false true = refl
kind_spare-by n false false false false = refl

kind_spare-of : (l : Line) (n : ℕ) → kind_spare (kind_of (kind_word (texts l))) n ≡ spare_with l n
kind_spare-of l n = kind_spare-by n (is_kind (codes "ifdef") l) (is_kind (codes "endif") l) (is_kind (codes "include") l) (is_kind (codes "dimspec") l)

kind_spare-within : (k : Kind) (n m : ℕ) → n ≤ m → kind_spare k n ≤ suc m
kind_spare-within kinds.Ifdef n m le = omega arith
kind_spare-within kinds.Endif n m le = omega arith
kind_spare-within kinds.Include n m le = omega arith
kind_spare-within kinds.Dimspec n m le = omega arith
kind_spare-within kinds.Other n m le = omega arith

-- ---- the lines, the last one first, as a loop marks them

-- the marks of the lines that were taken off the end, which are held of this text
pub record MarksOf (text : List ℕ) (faulty : Bool) (taken : List FileLine) (ahead : List AheadLine) (spare : ℕ) : Type 0 where
  pub marked : map (seen text) (reverse ahead) ≡ marks faulty (map (held text) taken)
  pub spared : spare ≡ spare_of (map (held text) taken)
  pub held : All (λ (a : AheadLine). IsHeld text a.line) ahead

-- what was marked, where `left` are left of all lines
pub record IsMarked (faulty : Bool) (left all : List FileLine) (ahead : List AheadLine) (spare : ℕ) : Type 0 where
  taken : List FileLine
  all_lines : left ++ taken ≡ all
  within : spare ≤ length taken
  marks_of : (text : List ℕ) → All (IsHeld text) taken → MarksOf text faulty taken ahead spare

pub marked_none : (faulty : Bool) (all : List FileLine) (ahead : List AheadLine) → ahead ≡ [] → IsMarked faulty all all ahead 0
marked_none faulty all ahead e = record {
  taken = [];
  all_lines = append-nil all;
  within = omega arith;
  marks_of = λ text h. record { marked = ap (λ (v : List AheadLine). map (seen text) (reverse v)) e; spared = refl; held = All-same (λ (a : AheadLine). IsHeld text a.line) ahead [] e (All-nil (λ (a : AheadLine). IsHeld text a.line)) };
}

module _ (text : List ℕ) (faulty : Bool) (taken : List FileLine) (ahead : List AheadLine) (spare : ℕ) (l : FileLine) (closed : Bool)
    (ec : closed ≡ (faulty || nat_lt 0 spare)) (h : IsHeld text l) (m : MarksOf text faulty taken ahead spare) where
  abbrev one : AheadLine
  one = record { line = l; closed = closed }

  -- its own mark is that of the definition
  marks_more : MarksOf text faulty (l ∷ taken) (ahead ++ one ∷ []) (kind_spare l.kind spare)
  marks_more = record {
    marked = ap (map (seen text)) (reverse-append ahead (one ∷ []))
        ∙ ap (λ (more : List Marked). seen text one ∷ more) m.marked
        ∙ ap (λ b. record { line = held text l; closed = b } ∷ marks faulty (map (held text) taken))
        (ec ∙ ap (λ b. faulty || b) (ap (nat_lt 0) m.spared ∙ sym (has_endif-spare 0 (map (held text) taken))));
    spared = ap (λ k. kind_spare k spare) h.kind ∙ kind_spare-of (held text l) spare ∙ ap (spare_with (held text l)) m.spared;
    held = All-push (λ (a : AheadLine). IsHeld text a.line) ahead one m.held h;
  }

pub marked_more : (faulty : Bool) (left old all : List FileLine) (ahead more : List AheadLine) (spare spare_more : ℕ) (l : FileLine) (closed : Bool)
    → IsMarked faulty old all ahead spare → old ≡ left ++ l ∷ [] → closed ≡ (faulty || nat_lt 0 spare) → spare_more ≡ kind_spare l.kind spare
    → more ≡ ahead ++ record { line = l; closed = closed } ∷ [] → IsMarked faulty left all more spare_more
marked_more faulty left old all ahead more spare spare_more l closed m el ec es em = rw (es, em) (record {
  taken = l ∷ m.taken;
  all_lines = sym (append_assoc left (l ∷ []) m.taken) ∙ ap (λ (ls : List FileLine). ls ++ m.taken) (sym el) ∙ m.all_lines;
  within = kind_spare-within l.kind spare (length m.taken) m.within;
  marks_of = λ text h. marks_more text faulty m.taken ahead spare l closed ec (All-head (IsHeld text) l m.taken h) (m.marks_of text (All-tail (IsHeld text) l m.taken h));
})

-- all lines are marked
pub marked_all : (faulty : Bool) (all : List FileLine) (ahead : List AheadLine) (spare : ℕ) → IsMarked faulty [] all ahead spare
    → (text : List ℕ) → All (IsHeld text) all → MarksOf text faulty all ahead spare
marked_all faulty all ahead spare m text h =
    subst (λ (ls : List FileLine). MarksOf text faulty ls ahead spare) m.all_lines (m.marks_of text (subst (All (IsHeld text)) (sym m.all_lines) h))

-- where a line is left, fewer are spared than there are lines
pub spared-below : (faulty : Bool) (left all : List FileLine) (ahead : List AheadLine) (spare : ℕ) → IsMarked faulty left all ahead spare → length left + spare ≤ length all
spared-below faulty left all ahead spare m = omega (arith, length-append left m.taken, ap length m.all_lines, m.within)
