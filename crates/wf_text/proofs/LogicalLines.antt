-- The logical lines of a text, line by line, as a loop joins them.
use Rattle.std.proofs.Common.{◌≡◌, ℕ, suc, ◌+◌, Bool, true, false, List, [], ◌∷◌, ◌++◌, length, Option, Some, None, Result, Ok, Err, refl, sym, ap, ◌∙◌, append_assoc, add-one, cond}
use Rattle.std.specs.Prelude.{◌==◌, filter, IfOk, IsSome}
use Rattle.std.proofs.lemmas.Bool.{eqb-true}
use Rattle.std.specs.Option.{option_or}
use Rattle.std.proofs.lemmas.List.{append-nil, nil_from_length}
use Rattle.wf_model.specs.declared.text.TextFault.{TextFault}
use Rattle.wf_model.specs.declared.text.TextFault.TheVariants.{DanglingBackslash}
use Rattle.wf_model.specs.declared.text.Line.{Line}
use Rattle.wf_model.specs.declared.text.Word.{Word}
use Rattle.wf_model.specs.Lines.{LinesRead, physical, words_from, last_of, goes_on, without_backslash, line, attach, lines_from, lines_read, lines_of, has_words}
use Rattle.wf_model.specs.Reading.{Fails}
use Rattle.wf_text.specs.declared.logical.LinesRead.{LinesRead as Handed}
use Rattle.wf_text.specs.declared.logical.Pending.{Pending}
use Rattle.wf_text.specs.Pending.{first_of, unfinished, words_so_far}

-- a logical line that has these words up to the physical line `last`, and the lines that are read after it
abbrev pub joined_with : ℕ → ℕ → List Word → Option TextFault → List Line → LinesRead
joined_with last number words f [] = record { lines = []; fault = option_or f (Some (DanglingBackslash last)) }
joined_with last number words f (l ∷ ls) = record { lines = line number (words ++ l.words) ∷ ls; fault = f }

-- what is pending, and the lines that are read after it
abbrev pub lead : Option Pending → ℕ → Option TextFault → List Line → LinesRead
lead None last f ls = record { lines = ls; fault = f }
lead (Some p) last f ls = joined_with last p.number p.words.items f ls

-- behind the lines that are done
abbrev pub behind : List Line → LinesRead → LinesRead
behind done read = record { lines = done ++ filter has_words read.lines; fault = read.fault }

-- the lines that are done, what is pending up to the physical line `last`, and the lines that are still read
abbrev pub whole : List Line → Option Pending → ℕ → LinesRead → LinesRead
whole done p last read = behind done (lead p last read.fault read.lines)

-- one physical line more that goes on
grown : (p : Option Pending) (last n : ℕ) (words : List Word) (q : Pending) (f : Option TextFault) (ls : List Line) → q.number ≡ first_of p n → q.words.items ≡ words_so_far p words
    → (let r = attach n words (record { lines = ls; fault = f }) ls in lead p last r.fault r.lines) ≡ lead (Some q) n f ls
grown None last n words q f [] en ew = refl
grown (Some p) last n words q None [] en ew = refl
grown (Some p) last n words q (Some f) [] en ew = refl
grown None last n words q f (x ∷ xs) en ew = rw (en, ew) refl
grown (Some p) last n words q f (x ∷ xs) en ew = rw (en, ew) (ap (λ (ws : List Word). let r : LinesRead = record { lines = line p.number ws ∷ xs; fault = f } in r) (sym (append_assoc p.words.items words x.words)))

-- one physical line more that doesn't go on
closed : (p : Option Pending) (last n : ℕ) (words : List Word) (q : Pending) (f : Option TextFault) (ls : List Line) → q.number ≡ first_of p n → q.words.items ≡ words_so_far p words
    → lead p last f (line n words ∷ ls) ≡ record { lines = line q.number q.words.items ∷ ls; fault = f }
closed None last n words q f ls en ew = rw (en, ew) refl
closed (Some p) last n words q f ls en ew = rw (en, ew) refl

-- a line in front of others is kept or not, whatever they are
one_more : (l : Line) (ls : List Line) → filter has_words (l ∷ []) ++ filter has_words ls ≡ filter has_words (l ∷ ls)
one_more l ls = go (has_words l)
  where
    go : (b : Bool) → cond b (l ∷ []) [] ++ filter has_words ls ≡ cond b (l ∷ filter has_words ls) (filter has_words ls)
    go true = refl
    go false = refl

-- the first of the lines is done
done_more : (done more : List Line) (l : Line) (ls : List Line) → more ≡ done ++ filter has_words (l ∷ []) → done ++ filter has_words (l ∷ ls) ≡ more ++ filter has_words ls
done_more done more l ls e = rw e (ap (λ (r : List Line). done ++ r) (sym (one_more l ls)) ∙ sym (append_assoc done (filter has_words (l ∷ [])) (filter has_words ls)))

-- a physical line that goes on is read
pub goes : (done : List Line) (p : Option Pending) (n : ℕ) (l : List ℕ) (ls : List (List ℕ)) (words : List Word) (q : Pending) (total : LinesRead)
    → words_from (n + 1) 1 0 l ≡ Ok words → goes_on (last_of words) ≡ true → q.number ≡ first_of p (n + 1) → q.words.items ≡ words_so_far p (without_backslash words)
    → whole done p n (lines_from (n + 1) (l ∷ ls)) ≡ total → whole done (Some q) (n + 1) (lines_from (n + 1 + 1) ls) ≡ total
unfolding lines_from
goes done p n l ls words q total read on en ew so_far =
    let rest : LinesRead = lines_from (suc (n + 1)) ls in
    let one : lines_from (n + 1) (l ∷ ls) ≡ attach (n + 1) (without_backslash words) rest rest.lines = rw (read, on) refl in
    rw (add-one (n + 1)) (sym (ap (whole done p n) one ∙ ap (behind done) (grown p n (n + 1) (without_backslash words) q rest.fault rest.lines en ew)) ∙ so_far)

-- a physical line that doesn't go on is read
pub stops : (done more : List Line) (p : Option Pending) (n : ℕ) (l : List ℕ) (ls : List (List ℕ)) (words : List Word) (q : Pending) (total : LinesRead)
    → words_from (n + 1) 1 0 l ≡ Ok words → goes_on (last_of words) ≡ false → q.number ≡ first_of p (n + 1) → q.words.items ≡ words_so_far p words
    → more ≡ done ++ filter has_words (line q.number q.words.items ∷ [])
    → whole done p n (lines_from (n + 1) (l ∷ ls)) ≡ total → whole more None (n + 1) (lines_from (n + 1 + 1) ls) ≡ total
unfolding lines_from
stops done more p n l ls words q total read off en ew em so_far =
    let rest : LinesRead = lines_from (suc (n + 1)) ls in
    let one : lines_from (n + 1) (l ∷ ls) ≡ record { lines = line (n + 1) words ∷ rest.lines; fault = rest.fault } = rw (read, off) refl in
    rw (add-one (n + 1)) (sym (ap (whole done p n) one ∙ ap (behind done) (closed p n (n + 1) words q rest.fault rest.lines en ew) ∙ ap (λ (ls : List Line). let r : LinesRead = record { lines = ls; fault = rest.fault } in r) (done_more done more (line q.number q.words.items) rest.lines em)) ∙ so_far)

-- a physical line has a fault: nothing that is pending or follows is a whole line
pub fails : (f : TextFault) (done : List Line) (p : Option Pending) (n : ℕ) (l : List ℕ) (ls : List (List ℕ)) (total : LinesRead)
    → words_from (n + 1) 1 0 l ≡ Err f → whole done p n (lines_from (n + 1) (l ∷ ls)) ≡ total → total ≡ record { lines = done; fault = Some f }
unfolding lines_from
fails f done p n l ls total bad so_far =
    let one : lines_from (n + 1) (l ∷ ls) ≡ record { lines = []; fault = Some f } = rw bad refl in
    sym so_far ∙ ap (whole done p n) one ∙ nothing p
  where
    nothing : (p : Option Pending) → whole done p n (record { lines = []; fault = Some f }) ≡ record { lines = done; fault = Some f }
    nothing None = ap (λ (ls : List Line). let r : LinesRead = record { lines = ls; fault = Some f } in r) (append-nil done)
    nothing (Some p) = ap (λ (ls : List Line). let r : LinesRead = record { lines = ls; fault = Some f } in r) (append-nil done)

-- the text is at its end
ended_at : (done : List Line) (p : Option Pending) (n : ℕ) → whole done p n (lines_from (n + 1) []) ≡ record { lines = done; fault = unfinished p n }
unfolding lines_from
ended_at done None n = ap (λ (ls : List Line). let r : LinesRead = record { lines = ls; fault = None } in r) (append-nil done)
ended_at done (Some p) n = ap (λ (ls : List Line). let r : LinesRead = record { lines = ls; fault = Some (DanglingBackslash n) } in r) (append-nil done)

-- nothing of the text is left
pub ended : (done : List Line) (p : Option Pending) (n : ℕ) (rest : List ℕ) (total : LinesRead) → (length rest == 0) ≡ true
    → whole done p n (lines_from (n + 1) (physical rest)) ≡ total → total ≡ record { lines = done; fault = unfinished p n }
unfolding physical
ended done p n rest total none so_far =
    let nothing : rest ≡ [] = nil_from_length _ (eqb-true _ _ none) in
    sym so_far ∙ ap (λ (bs : List ℕ). whole done p n (lines_from (n + 1) (physical bs))) nothing ∙ ended_at done p n

-- what is read in all, where a physical line has a fault that is handed out
pub stopped : (fault shown : Option TextFault) (done : List Line) (p : Option Pending) (n : ℕ) (l : List ℕ) (ls : List (List ℕ)) (total : LinesRead)
    → shown ≡ fault → IsSome shown → Fails fault (words_from (n + 1) 1 0 l) → whole done p n (lines_from (n + 1) (l ∷ ls)) ≡ total
    → total ≡ record { lines = done; fault = fault }
stopped None shown done p n l ls total same found bad so_far = let found' = rw same at found in absurd cc
stopped (Some f) shown done p n l ls total same found bad so_far = fails f done p n l ls total bad so_far

-- the lines that are handed out then
pub stopped_lines : {E : Type 0} (result : Result Handed E) (fault : Option TextFault) (done : List Line) (p : Option Pending) (n : ℕ) (l : List ℕ) (ls : List (List ℕ)) (total : LinesRead)
    → IfOk result (λ r. r.lines.items ≡ done) → IfOk result (λ r. r.fault ≡ fault) → IfOk result (λ r. IsSome r.fault)
    → Fails fault (words_from (n + 1) 1 0 l) → whole done p n (lines_from (n + 1) (l ∷ ls)) ≡ total → IfOk result (λ r. r.lines.items ≡ total.lines)
stopped_lines (Err e) fault done p n l ls total kept same found bad so_far = tt
stopped_lines (Ok r) fault done p n l ls total kept same found bad so_far =
    kept ∙ sym (ap (λ (t : LinesRead). t.lines) (stopped fault r.fault done p n l ls total same found bad so_far))

-- the fault that is handed out then
pub stopped_fault : {E : Type 0} (result : Result Handed E) (fault : Option TextFault) (done : List Line) (p : Option Pending) (n : ℕ) (l : List ℕ) (ls : List (List ℕ)) (total : LinesRead)
    → IfOk result (λ r. r.fault ≡ fault) → IfOk result (λ r. IsSome r.fault)
    → Fails fault (words_from (n + 1) 1 0 l) → whole done p n (lines_from (n + 1) (l ∷ ls)) ≡ total → IfOk result (λ r. r.fault ≡ total.fault)
stopped_fault (Err e) fault done p n l ls total same found bad so_far = tt
stopped_fault (Ok r) fault done p n l ls total same found bad so_far =
    same ∙ sym (ap (λ (t : LinesRead). t.fault) (stopped fault r.fault done p n l ls total same found bad so_far))

-- a text without a fault has the lines that were read
pub lines_of-whole : (text : List ℕ) (ls : List Line) (fault : Option TextFault) → ls ≡ (lines_read text).lines → fault ≡ (lines_read text).fault → fault ≡ None → lines_of text ≡ Ok ls
unfolding lines_of
lines_of-whole text ls fault el ef none = let e : (lines_read text).fault ≡ None = sym ef ∙ none in rw (e, el) refl

-- a text with a fault has no lines
pub lines_of-faulty : (text : List ℕ) (fault : Option TextFault) (f : TextFault) → fault ≡ (lines_read text).fault → fault ≡ Some f → lines_of text ≡ Err f
unfolding lines_of
lines_of-faulty text fault f ef some = let e : (lines_read text).fault ≡ Some f = sym ef ∙ some in rw e refl
