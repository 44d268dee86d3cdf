-- As many letters to a patch as patches that send to it, exactly where all its mail is there.
use Rattle.std.proofs.Common.{◌≡◌, inl, inr, ℕ, suc, ◌+◌, ◌*◌, ◌≤◌, ◌==◌, ◌&&◌, ◌||◌, cond, Bool, true, false, not, List, [], ◌∷◌, ◌++◌, map, length, Option, Some, None, refl, ap, sym, ◌∙◌, subst, arith}
use Rattle.std.specs.Prelude.{ℤ, find, filter, count_by, sum_by, is_some}
use Rattle.std.specs.List.{list_any, list_all}
use Rattle.std.proofs.lemmas.List.Sums.{sum_by-cons, count_by-le-length}
use Rattle.wf_model.specs.declared.layout.Layout.{Layout}
use Rattle.wf_model.specs.declared.script.Entry.{Entry}
use Rattle.wf_model.specs.declared.event.Event.{Event}
use Rattle.wf_model.specs.declared.event.Event.TheVariants.{Step, Take, Stop, Gather, Write}
use Rattle.wf_model.specs.Outcome.{RunData}
use Rattle.wf_model.specs.Patches.{split_of, patches_of}
use Rattle.wf_model.specs.Exchange.{Letter, sender_of, is_expected, senders_to, receivers_from, carried}
use Rattle.wf_model.specs.Halves.{Half, acts, sends, takes, posts, Due}
use Rattle.wf_model.specs.Core.{CoreState, is_letter, letter_of, due_of, left_mail, new_letters, memory_point, begin_state}
use Rattle.wf_model.specs.Replay.{may_step, may_take, patch_may, go, is_enabled, state_after_event, replay}
use Rattle.wf_model.specs.Front.{halves_before}
use Rattle.wf_laws.proofs.Bools.{split_bool, and_left, and_right, and_both, same_number, unlike, equal_of, equal_test}
use Rattle.wf_laws.proofs.Members.{In, find-None_In}
use Rattle.wf_core_laws.specs.Patches.{IsCanonical}
use Rattle.wf_core_laws.proofs.Members.{Has, has-filter, not_both}
use Rattle.wf_core_laws.proofs.HalvesAt.{SendsFirst, sends-first}
use Rattle.wf_core_laws.proofs.FrontLaws.{At, due-at}
use Rattle.wf_core_laws.proofs.Mail.{letter}
use Rattle.wf_core_laws.proofs.Sane.{Sane, Expected}
use Rattle.wf_core_laws.proofs.Kept.{kept, sane_begin, DueHere, due_here_of}
use Rattle.wf_core_laws.proofs.Replays.{reached}
use Rattle.wf_core_laws.proofs.Canonical.{canonical, expected_of}
use Rattle.wf_core_laws.proofs.Counts.{one_if, count-append, count-parts, count-none, count-map, count-once, count-cons}
use Rattle.wf_patch_laws.specs.Offered.{MailIsCounted}

-- where nothing is found nothing counts
find_count : {A : Type 0} (test : A → Bool) (xs : List A) → find test xs ≡ None → count_by test xs ≡ 0
find_count test [] h = refl
find_count test (x ∷ xs) h =
    (elim (test x) as (λ b. test x ≡ b → cond b (Some x) (find test xs) ≡ None → count_by test (x ∷ xs) ≡ 0) [
      | true ↦ λ is u. absurd (cc (u))
      | false ↦ λ is u. let z : one_if (test x) ≡ 0 = ap one_if is in omega (arith, count-cons test x xs, z, find_count test xs u)
    ]) refl h

-- what is found counts
some_count : {A : Type 0} (test : A → Bool) (y : A) (xs : List A) → find test xs ≡ Some y → 1 ≤ count_by test xs
some_count test y [] h = absurd (cc (h))
some_count test y (x ∷ xs) h =
    (elim (test x) as (λ b. test x ≡ b → cond b (Some x) (find test xs) ≡ Some y → 1 ≤ count_by test (x ∷ xs)) [
      | true ↦ λ is u. let z : one_if (test x) ≡ 1 = ap one_if is in omega (arith, count-cons test x xs, z)
      | false ↦ λ is u. let w : 1 ≤ count_by test xs = some_count test y xs u in omega (arith, count-cons test x xs, w)
    ]) refl h

-- none counts where the test of any fails
any_count : (test : ℕ → Bool) (xs : List ℕ) → list_any test xs ≡ false → count_by test xs ≡ 0
any_count test [] h = refl
any_count test (x ∷ xs) h =
    (elim (test x) as (λ b. test x ≡ b → (b || list_any test xs) ≡ false → count_by test (x ∷ xs) ≡ 0) [
      | true ↦ λ is u. absurd (cc (u))
      | false ↦ λ is u. let z : one_if (test x) ≡ 0 = ap one_if is in omega (arith, count-cons test x xs, z, any_count test xs u)
    ]) refl h

-- a number that is found at most once is there exactly where it counts 1
count_found : {A : Type 0} (test : A → Bool) (xs : List A) → count_by test xs ≤ 1 → (o : Option A) → find test xs ≡ o → count_by test xs ≡ one_if (is_some o)
count_found test xs most None h = find_count test xs h
count_found test xs most (Some y) h = let w : 1 ≤ count_by test xs = some_count test y xs h in omega (arith, w, most)

-- sums of equal numbers
sum_two : (f g h : ℕ → ℕ) (qs : List ℕ) → ((q : ℕ) → h q ≡ f q + g q) → sum_by h qs ≡ sum_by f qs + sum_by g qs
sum_two f g h [] is = refl
sum_two f g h (q ∷ qs) is = omega (arith, sum_by-cons h q qs, sum_by-cons f q qs, sum_by-cons g q qs, is q, sum_two f g h qs is)

-- equal numbers, one by one
sum_same : (f g : ℕ → ℕ) (qs : List ℕ) → ((q : ℕ) → f q ≡ g q) → sum_by f qs ≡ sum_by g qs
sum_same f g [] is = refl
sum_same f g (q ∷ qs) is = omega (arith, sum_by-cons f q qs, sum_by-cons g q qs, is q, sum_same f g qs is)

-- a sum of nothing
sum_none : (f : ℕ → ℕ) (qs : List ℕ) → ((q : ℕ) → f q ≡ 0) → sum_by f qs ≡ 0
sum_none f [] is = refl
sum_none f (q ∷ qs) is = omega (arith, sum_by-cons f q qs, is q, sum_none f qs is)

-- two pairs that are equal together
equal_alike : (m n a b : ℕ) → (m ≡ n → a ≡ b) → (a ≡ b → m ≡ n) → (m == n) ≡ (a == b)
equal_alike m n a b to back =
    elim (split_bool (m == n)) [
      | inl t ↦ t ∙ sym (equal_test a b (to (equal_of m n t)))
      | inr f ↦ elim (split_bool (a == b)) [
        | inl u ↦ absurd (not_both (m == n) (equal_test m n (back (equal_of a b u))) f)
        | inr u ↦ f ∙ sym u
      ]
    ]

-- all pass exactly where as many pass as there are
all_count : (test : ℕ → Bool) (xs : List ℕ) → list_all test xs ≡ (count_by test xs == length xs)
all_count test [] = refl
all_count test (x ∷ xs) =
    (elim (test x) as (λ b. test x ≡ b → (b && list_all test xs) ≡ (count_by test (x ∷ xs) == length (x ∷ xs))) [
      | true ↦ λ is.
          let z : one_if (test x) ≡ 1 = ap one_if is in
          let more : count_by test (x ∷ xs) ≡ 1 + count_by test xs = omega (arith, count-cons test x xs, z) in
          all_count test xs ∙ equal_alike (count_by test xs) (length xs) (count_by test (x ∷ xs)) (suc (length xs)) (λ e. omega (arith, more, e)) (λ e. omega (arith, more, e))
      | false ↦ λ is.
          let z : one_if (test x) ≡ 0 = ap one_if is in
          let few : count_by test (x ∷ xs) ≤ length xs = omega (arith, count-cons test x xs, z, count_by-le-length test xs) in
          sym (unlike (count_by test (x ∷ xs)) (suc (length xs)) (λ e. omega (arith, few, e)))
    ]) refl

-- a letter to a patch, of a place
abbrev is_to : ℕ → ℕ → Letter → Bool
is_to k p l = (l.place == k) && (l.to == p)

-- of two tests that hold the third one is left
left_one : (a b c : Bool) → (a && c) ≡ true → (a && (b && c)) ≡ b
left_one true true c h = h
left_one true false c h = refl
left_one false b c h = absurd (cc (h))

-- and of two that fail none
left_none : (a b c : Bool) → (a && c) ≡ false → (a && (b && c)) ≡ false
left_none true true c h = h
left_none true false c h = refl
left_none false b c h = refl

-- the test of equal numbers goes both ways
flip : (m n : ℕ) → (m == n) ≡ (n == m)
flip m n = equal_alike m n n m (λ e. sym e) (λ e. sym e)

-- letters counted by their senders
count_senders : (k p : ℕ) (qs : List ℕ) (ls : List Letter) → ((l : Letter) → In l ls → is_to k p l ≡ true → count_by (λ x. x == l.from) qs ≡ 1) →
    count_by (is_to k p) ls ≡ sum_by (λ q. count_by (is_letter k q p) ls) qs
count_senders k p qs [] once = sym (sum_none (λ q. count_by (is_letter k q p) []) qs (λ q. refl))
count_senders k p qs (l ∷ ls) once =
    let rest = count_senders k p qs ls (λ x i. once x (inr i)) in
    let parts = sum_two (λ q. one_if (is_letter k q p l)) (λ q. count_by (is_letter k q p) ls) (λ q. count_by (is_letter k q p) (l ∷ ls)) qs (λ q. count-cons (is_letter k q p) l ls) in
    let here : sum_by (λ q. one_if (is_letter k q p l)) qs ≡ one_if (is_to k p l) = elim (split_bool (is_to k p l)) [
      | inl t ↦ sum_same (λ q. one_if (is_letter k q p l)) (λ q. one_if (q == l.from)) qs (λ q. ap one_if (left_one (l.place == k) (l.from == q) (l.to == p) t ∙ flip l.from q)) ∙ once l (inl refl) t ∙ sym (ap one_if t)
      | inr f ↦ sum_none (λ q. one_if (is_letter k q p l)) qs (λ q. ap one_if (left_none (l.place == k) (l.from == q) (l.to == p) f)) ∙ sym (ap one_if f)
    ] in
    omega (arith, count-cons (is_to k p) l ls, rest, parts, here)

module _ (r : RunData) (layout : Layout) where
  -- no two letters have one place, one sender and one receiver
  abbrev Single : CoreState → Type 0
  Single s = (k q t : ℕ) → count_by (is_letter k q t) s.mail ≤ 1

  module _ (s : CoreState) (d p : ℕ) (due : Due) (ok : Sane r layout s) (single : Single s) (is : due_of r layout s d p ≡ Some due) (there : Has (patches_of (split_of layout)) p) where
    -- where the half stands
    here : At r layout d (s.patches d p).done due
    here = due-at r layout d (s.patches d p).done due is

    -- the numbers that it sends
    abbrev numbers : ℕ → List ℤ
    numbers t = map (memory_point r.plan d (s.patches d p).memory) (carried r.plan (split_of layout) due.entry (due.entry).act p t)

    -- the patches that it sends to
    abbrev to_all : List ℕ
    to_all = receivers_from r.plan (split_of layout) due.entry p

    -- before it sends, no letter of its own lies in the mail
    none_yet : due.half ≡ sends → (t : ℕ) → Has to_all t → count_by (is_letter due.place p t) s.mail ≡ 0
    none_yet h t to =
        let a : At r layout d (s.patches d p).done due = here in
        let first : SendsFirst d (sender_of r.plan due.entry (due.entry).act) a.i = sends-first r.plan d due.entry (due.entry).act a.i (a.half ∙ ap (λ (y : Half). Some y) h) in
        let both = sym (has-filter (is_expected r.plan (split_of layout) due.entry p) (patches_of (split_of layout)) t) ∙ to in
        let x : Expected r layout due.place due.entry p t = record { entry = a.entry; cells = and_right (list_any (λ y. y == t) (patches_of (split_of layout))) _ both; from = there; to = and_left _ (is_expected r.plan (split_of layout) due.entry p t) both } in
        let late : (s.patches d p).done ≤ halves_before r d due.place = omega (arith, a.is, first.first) in
        find_count (is_letter due.place p t) s.mail (ok.unsent due.place due.entry p t x (subst (λ (y : ℕ). (s.patches y p).done ≤ halves_before r y due.place) first.domain late))

    -- the letters that it sends to one patch
    own_letters : (t : ℕ) → count_by (is_letter due.place p t) (map (letter due.place p numbers) to_all) ≡ count_by (λ x. x == t) to_all
    own_letters t = count-map (is_letter due.place p t) (letter due.place p numbers) (λ x. x == t) to_all (λ x. rw (same_number due.place, same_number p) refl)

    -- with the letters that it sends
    sent_single : due.half ≡ sends → (t : ℕ) → count_by (is_letter due.place p t) (s.mail ++ map (letter due.place p numbers) to_all) ≤ 1
    sent_single h t =
        let all = count-append (is_letter due.place p t) s.mail (map (letter due.place p numbers) to_all) in
        elim (split_bool (list_any (λ x. x == t) to_all)) [
          | inl to ↦
              let one = count-once (is_expected r.plan (split_of layout) due.entry p) t 0 (layout.nproc_x * layout.nproc_y) to in
              omega (arith, all, own_letters t, none_yet h t to, one)
          | inr off ↦ let none = any_count (λ x. x == t) to_all off in omega (arith, all, own_letters t, none, single due.place p t)
        ]

    -- letters of another place or sender
    other_letters : (k q t : ℕ) → ((due.place == k) && (p == q)) ≡ false → count_by (is_letter k q t) (map (letter due.place p numbers) to_all) ≡ 0
    other_letters k q t off = count-none (is_letter k q t) (letter due.place p numbers) to_all (λ x. fails (due.place == k) (p == q) (x == t) off)
      where
        fails : (a b c : Bool) → (a && b) ≡ false → (a && (b && c)) ≡ false
        fails true true c h = absurd (cc (h))
        fails true false c h = refl
        fails false b c h = refl

    -- the mail after a half
    mail_single : (h : Half) → due.half ≡ h → (k q t : ℕ) → count_by (is_letter k q t) (left_mail p due h s.mail ++ new_letters r layout s d p due h) ≤ 1
    mail_single acts e k q t = omega (arith, count-append (is_letter k q t) s.mail [], single k q t)
    mail_single sends e k q t =
        elim (split_bool ((due.place == k) && (p == q))) [
          | inl w ↦
              let place : due.place ≡ k = equal_of due.place k (and_left (due.place == k) (p == q) w) in
              let from : p ≡ q = equal_of p q (and_right (due.place == k) (p == q) w) in
              subst (λ (y : ℕ). count_by (is_letter y q t) (s.mail ++ map (letter due.place p numbers) to_all) ≤ 1) place
              (subst (λ (y : ℕ). count_by (is_letter due.place y t) (s.mail ++ map (letter due.place p numbers) to_all) ≤ 1) from (sent_single e t))
          | inr w ↦ omega (arith, count-append (is_letter k q t) s.mail (map (letter due.place p numbers) to_all), other_letters k q t w, single k q t)
        ]
    mail_single takes e k q t =
        let keep : Letter → Bool = λ l. (l.place == due.place) && (l.to == p) in
        omega (arith, count-append (is_letter k q t) (filter (λ l. not (keep l)) s.mail) [], count-parts (is_letter k q t) keep s.mail, single k q t)
    mail_single (posts levels) e k q t = omega (arith, count-append (is_letter k q t) s.mail [], single k q t)

  -- each state keeps it
  abbrev Kept : CoreState → Type 0
  Kept s = Sane r layout s × Single s

  -- a half keeps it
  go_single : (s : CoreState) (d p : ℕ) (test : CoreState → ℕ → ℕ → Due → Half → Bool) → Sane r layout s → Single s → patch_may r layout test s d p ≡ true → Single (go r layout s d p (due_of r layout s d p))
  go_single s d p test ok single on =
      let w : DueHere r layout s d p test = due_here_of r layout test s d p on in
      subst (λ (o : Option Due). Single (go r layout s d p o)) (sym w.is) (mail_single s d p w.due ok single w.is w.there (w.due).half refl)

  -- each event does
  event_single : (s : CoreState) (e : Event) → Sane r layout s → Single s → is_enabled r layout s e ≡ true → Single (state_after_event r layout s e)
  unfolding is_enabled state_after_event
  event_single s (Step d p) ok single on = go_single s d p (may_step r layout) ok single on
  event_single s (Take d p) ok single on = go_single s d p (may_take r layout) ok single on
  event_single s (Stop d p) ok single on = single
  event_single s (Gather group server frame f p) ok single on = single
  event_single s (Write n) ok single on = single

  -- at the begin there is no mail
  begin_single : Single (begin_state r layout)
  unfolding begin_state
  begin_single k q t = omega arith

  -- each state that a list leads to keeps it
  kept_all : (es : List Event) (s : CoreState) → replay r layout es ≡ Some s → Kept s
  kept_all es s h = reached r layout Kept (λ u e k on. (kept r layout u e k.0 on, event_single u e k.0 k.1 on)) (sane_begin r layout, begin_single) es s h

-- the law on mail
pub mail_counted : MailIsCounted
mail_counted r layout s d p due reach is_patch is half =
    let can : IsCanonical r layout s = canonical r layout reach.0 s reach.1 in
    let all : Kept r layout s = kept_all r layout reach.0 s reach.1 in
    let k : ℕ = due.place in
    let at : At r layout d (s.patches d p).done due = due-at r layout d (s.patches d p).done due is in
    let qs : List ℕ = senders_to r.plan (split_of layout) due.entry p in
    let from_sender : (l : Letter) → In l s.mail → is_to k p l ≡ true → Has qs l.from = λ l i t.
    elim (split_bool (list_any (λ x. x == l.from) qs)) [
      | inl h ↦ h
      | inr off ↦
          let none = can.no_other_mail k l.from p (λ e m.
          let x : Expected r layout k e l.from p = expected_of r layout k e l.from p m in
          let same : e ≡ due.entry = some_same e due.entry (sym x.entry ∙ at.entry) in
          not_both (list_any (λ y. y == l.from) qs) (has-filter (λ y. is_expected r.plan (split_of layout) due.entry y p) (patches_of (split_of layout)) l.from
          ∙ and_both _ _ x.from (subst (λ (y : Entry). is_expected r.plan (split_of layout) y l.from p ≡ true) same x.cells)) off) in
          absurd (not_both (is_letter k l.from p l) (left_one (l.place == k) (l.from == l.from) (l.to == p) t ∙ same_number l.from) (find-None_In (is_letter k l.from p) l s.mail none i))
    ] in
    let total = count_senders k p qs s.mail (λ l i t. count-once (λ y. is_expected r.plan (split_of layout) due.entry y p) l.from 0 (layout.nproc_x * layout.nproc_y) (from_sender l i t)) in
    let by_sender = sum_same (λ q. count_by (is_letter k q p) s.mail) (λ q. one_if (is_some (letter_of s k q p))) qs (λ q. count_found (is_letter k q p) s.mail (all.1 k q p) (letter_of s k q p) refl) in
    all_count (λ q. is_some (letter_of s k q p)) qs ∙ ap (λ (n : ℕ). n == length qs) (sym (total ∙ by_sender))
  where
    some_same : (a b : Entry) → Some a ≡ Some b → a ≡ b
    some_same a b h = cc (h)
