-- What the checker's four questions say, and that it is sound: a model that it accepts is a smallest model of the machine.
use Rattle.std.specs.Prelude.{◌≡◌, ◌⊎◌, ◌≢◌, ◌↔◌, true, false, not, ◌&&◌, ◌||◌, length, get_or}
use Rattle.std.proofs.Math.Path.{refl, ap, ap₂, subst}
use Rattle.std.proofs.Common.{sym, ◌∙◌, inl, inr, true≢false, not-suc-le-zero, le_of_suc-le-suc, arith}
use Rattle.std.proofs.Math.Bool.{Bool}
use mathlib.Core.List.{List, [], ◌∷◌, ◌++◌}
use Prim.Native.Nat.{ℕ, zero, suc, ◌+◌, ◌*◌, ◌/◌, ◌≤◌, ◌<◌}
use Rattle.std.proofs.Math.Arith.{digits_lt}
use Rattle.std.proofs.Math.Dec.{eqb, ltb}
use Rattle.rules.specs.Tests.{outcome, and_split, or_split, not-true, not-false, eqb_true, eqb_false, is_true, ltb_yes, all_from, all_true, true_all}
use Rattle.rules.specs.Words.{Word, Below}
use Rattle.rules.specs.Search.{walk}
use Rattle.rules.specs.Machine.{Machine, Complete, lent, answer_from, answer, last_from, ask, Equal, SmallestModel}
use Rattle.rules.specs.Closing.{Told, cells_at}
use Rattle.rules.specs.Round.{lower_bound}
use Rattle.rules.proofs.Links.{machine_classes}
use Rattle.rules.proofs.Smallest.{after}
use Rattle.rules.specs.Answer.{gives}
use Rattle.rules.specs.Sheets.{Proof}
use Rattle.machine.specs.LentLaws.{all_at, demanded, last_demanded}
use Rattle.sheets.specs.Checker.{some_word, model_of, reaches_all, told_apart, all_apart, model_state, step_agrees, map_holds, judge}
use Rattle.sheets.specs.Seen.{Seen}
use Rattle.sheets.specs.CheckerLaws.{Alike, Step, Accepted}

-- ---- some word passes, or none does
pub some_true : (p : Word → Bool) (words : List Word) → some_word p words ≡ true → (c : ℕ) × (c < length words) × (p (get_or words c []) ≡ true)
unfolding some_word
some_true p [] e = absurd (true≢false (sym e))
some_true p (w ∷ words) e = go (or_split (p w) (some_word p words) e) (some_true p words)
  where
    go : (p w ≡ true) ⊎ (some_word p words ≡ true) → (some_word p words ≡ true → (c : ℕ) × (c < length words) × (p (get_or words c []) ≡ true))
        → (c : ℕ) × (c < length (w ∷ words)) × (p (get_or (w ∷ words) c []) ≡ true)
    go (inl h) ih = (0, omega arith, h)
    go (inr h) ih = let r = ih h in let l = r.1 in (suc r.0, omega arith, r.2)

or_false : (a b : Bool) → (a || b) ≡ false → (a ≡ false) × (b ≡ false)
or_false true b e = absurd (true≢false e)
or_false false b e = (refl, e)

pub some_false : (p : Word → Bool) (words : List Word) → some_word p words ≡ false → (c : ℕ) → c < length words → p (get_or words c []) ≡ false
unfolding some_word
some_false p [] e c h = absurd (not-suc-le-zero h)
some_false p (w ∷ words) e zero h = (or_false (p w) (some_word p words) e).0
some_false p (w ∷ words) e (suc c) h = some_false p words (or_false (p w) (some_word p words) e).1 c (le_of_suc-le-suc h)

pub or_true : (a b : Bool) → b ≡ true → (a || b) ≡ true
or_true true b e = refl
or_true false b e = e

module _ (M : Machine) (P : Proof) where
  -- ---- 12
  reaches_test : ℕ → Bool
  reaches_test j = eqb (walk (model_of P).next 0 (get_or P.reaching j [])) j

  reaches_says : (reaches_all M P ≡ true) ↔ ((j : ℕ) → j < P.m → walk (model_of P).next 0 (get_or P.reaching j []) ≡ j)
  unfolding reaches_all reaches_test
  reaches_says = (
    λ e j h. eqb_true (walk (model_of P).next 0 (get_or P.reaching j [])) j (all_true reaches_test 0 P.m e j (omega arith) (omega arith)),
    λ f. true_all reaches_test 0 P.m (λ j l u. is_true (walk (model_of P).next 0 (get_or P.reaching j [])) j (f j (omega arith))),
  )

  -- ---- 13
  tells : ℕ → ℕ → Word → Bool
  tells i j e = not (eqb (last_from (model_of P) 0 i e) (last_from (model_of P) 0 j e))

  apart_says : (i j : ℕ) → ((eqb i j || told_apart M P i j) ≡ true) ↔ (Alike P i j → i ≡ j)
  unfolding told_apart tells
  apart_says i j = (λ e f. says f (or_split (eqb i j) (told_apart M P i j) e), λ f. test f (outcome (told_apart M P i j)))
    where
      answer_of : ℕ → ℕ → ℕ
      answer_of i c = last_from (model_of P) 0 i (get_or P.columns c [])

      says : Alike P i j → (eqb i j ≡ true) ⊎ (told_apart M P i j ≡ true) → i ≡ j
      says f (inl h) = eqb_true i j h
      says f (inr h) =
          let r = some_true (tells i j) P.columns h in
          absurd (eqb_false (answer_of i r.0) (answer_of j r.0) (not-true (eqb (answer_of i r.0) (answer_of j r.0)) r.2) (f r.0 r.1))

      test : (Alike P i j → i ≡ j) → (told_apart M P i j ≡ true) ⊎ (told_apart M P i j ≡ false) → (eqb i j || told_apart M P i j) ≡ true
      test f (inl e) = or_true (eqb i j) (told_apart M P i j) e
      test f (inr e) =
          rw (is_true i j (f (λ c h. eqb_true (answer_of i c) (answer_of j c) (not-false (eqb (answer_of i c) (answer_of j c)) (some_false (tells i j) P.columns e c h)))))

  all_apart_says : (all_apart M P ≡ true) ↔ ((i j : ℕ) → i < P.m → j < P.m → Alike P i j → i ≡ j)
  unfolding all_apart
  all_apart_says = (
    λ e i j hi hj. (apart_says i j).0 (all_true (test i) 0 P.m (all_true row 0 P.m e i (omega arith) (omega arith)) j (omega arith) (omega arith)),
    λ f. true_all row 0 P.m (λ i l u. true_all (test i) 0 P.m (λ j l' u'. (apart_says i j).1 (f i j (omega arith) (omega arith)))),
  )
    where
      test : ℕ → ℕ → Bool
      test i j = eqb i j || told_apart M P i j

      row : ℕ → Bool
      row i = all_from (test i) 0 P.m

  -- ---- 14
  step_says : (s a : ℕ) → (step_agrees M P s a ≡ true) ↔ Step M P s a
  unfolding step_agrees
  step_says s a = (
    λ e. let t = and_split (eqb x y) (eqb u v) e in (eqb_true x y t.0, eqb_true u v t.1),
    λ t. rw (is_true x y t.0) (is_true u v t.1),
  )
    where
      x : ℕ
      x = M.out s a

      y : ℕ
      y = (model_of P).out (model_state M P s) a

      u : ℕ
      u = model_state M P (M.next s a)

      v : ℕ
      v = (model_of P).next (model_state M P s) a

  map_says : (map_holds M P ≡ true) ↔ ((model_state M P 0 ≡ 0) × ((s a : ℕ) → s < P.n → a < P.k → model_state M P s ≢ 255 → Step M P s a))
  unfolding map_holds
  map_says = (
    λ e. let t = and_split (eqb (model_state M P 0) 0) (all_from row 0 P.n) e in
        (eqb_true (model_state M P 0) 0 t.0, λ s a hs ha d. says s a ha d (or_split (eqb (model_state M P s) 255) (letters s) (all_true row 0 P.n t.1 s (omega arith) (omega arith)))),
    λ f. rw (is_true (model_state M P 0) 0 f.0) (true_all row 0 P.n (λ s l u. test s (λ a ha d. f.1 s a (omega arith) ha d) (outcome (eqb (model_state M P s) 255)))),
  )
    where
      letters : ℕ → Bool
      letters s = all_from (step_agrees M P s) 0 P.k

      row : ℕ → Bool
      row s = eqb (model_state M P s) 255 || letters s

      says : (s a : ℕ) → a < P.k → model_state M P s ≢ 255 → (eqb (model_state M P s) 255 ≡ true) ⊎ (letters s ≡ true) → Step M P s a
      says s a ha d (inl e) = absurd (d (eqb_true (model_state M P s) 255 e))
      says s a ha d (inr e) = (step_says s a).0 (all_true (step_agrees M P s) 0 P.k e a (omega arith) (omega arith))

      test : (s : ℕ) → ((a : ℕ) → a < P.k → model_state M P s ≢ 255 → Step M P s a)
          → (eqb (model_state M P s) 255 ≡ true) ⊎ (eqb (model_state M P s) 255 ≡ false) → row s ≡ true
      test s f (inl e) = rw e
      test s f (inr e) =
          or_true (eqb (model_state M P s) 255) (letters s)
          (true_all (step_agrees M P s) 0 P.k (λ a l u. (step_says s a).1 (f a (omega arith) (eqb_false (model_state M P s) 255 e))))

-- THE CHECKER accepts exactly the sheets of which this holds
pub judged : (n k : ℕ) (M : Machine) (P : Proof) → (judge n k M P ≡ gives tt) ↔ Accepted n k M P
unfolding judge
judged n k M P = (says, test)
  where
    says : judge n k M P ≡ gives tt → Accepted n k M P
    says e =
        let a = demanded (eqb P.n n && eqb P.k k) 11 _ tt e in
        let b = demanded (reaches_all M P) 12 _ tt a.1 in
        let c = demanded (all_apart M P) 13 _ tt b.1 in
        let d = (map_says M P).0 (last_demanded (map_holds M P) 14 c.1) in
        let t = and_split (eqb P.n n) (eqb P.k k) a.0 in
        record {
          states = eqb_true P.n n t.0;
          letters = eqb_true P.k k t.1;
          reaches = (reaches_says M P).0 b.0;
          apart = (all_apart_says M P).0 c.0;
          start = d.0;
          steps = d.1;
        }

    test : Accepted n k M P → judge n k M P ≡ gives tt
    test A =
        rw (is_true P.n n A.states, is_true P.k k A.letters, (reaches_says M P).1 A.reaches, (all_apart_says M P).1 A.apart, (map_says M P).1 (A.start, A.steps))

-- ---- sound
module _ {M : Machine} {P : Proof} (S : Seen P) (whole : Complete P.k M) (A : Accepted M.states P.k M P) where
  model_complete : Complete P.k (model_of P)
  unfolding lent
  model_complete = (
    S.m_low,
    λ s a h ha. ltb_yes (get_or P.model (s * P.k + a) 0 / 256) P.m
        (all_at (λ (x : ℕ). ltb (x / 256) P.m) P.model (s * P.k + a) S.model_next (rw S.model_long (digits_lt h ha))),
  )

  -- the map carries answers over
  simulates : (s : ℕ) (w : Word) → s < M.states → model_state M P s < P.m → Below P.k w → answer_from M s w ≡ answer_from (model_of P) (model_state M P s) w
  unfolding answer_from lent
  simulates s [] hs hm b = refl
  simulates s (a ∷ w) hs hm b =
      let t = A.steps s a (rw A.states hs) b.0 (λ e. mapped e) in
      ap₂ {C = List ℕ} ◌∷◌ t.0
      (simulates (M.next s a) w (whole.1 s a hs b.0) (rw t.1 (next_low a b.0)) b.1 ∙ ap (λ (j : ℕ). answer_from (model_of P) j w) t.1)
    where
      mapped : model_state M P s ≡ 255 → ⊥
      mapped e = omega (arith, S.m_high)

      next_low : (a : ℕ) → a < P.k → (model_of P).next (model_state M P s) a < P.m
      next_low a ha = model_complete.1 (model_state M P s) a hm ha

  model_equal : Equal P.k M (model_of P)
  unfolding answer
  model_equal w b = simulates 0 w whole.0 (rw A.start S.m_low) b ∙ ap (λ (j : ℕ). answer_from (model_of P) j w) A.start

  -- so the columns tell the AW words apart in the machine
  told : Told (ask M) P.columns P.reaching
  told i j h hj e =
      let hj' : j < P.m = omega (arith, S.reaching_many) in
      let hi' : i < P.m = omega arith in
      let q = A.apart i j hi' hj' (λ c hc. sym (from i hi' c hc) ∙ cells_at (ask M) P.columns (get_or P.reaching i []) (get_or P.reaching j []) e c hc ∙ from j hj' c hc) in
      absurd (omega arith)
    where
      -- after its word, the machine answers as the model does at the state
      from : (i : ℕ) → i < P.m → (c : ℕ) → c < length P.columns
          → ask M (get_or P.reaching i [] ++ get_or P.columns c []) ≡ last_from (model_of P) 0 i (get_or P.columns c [])
      from i hi c hc =
          let hc' : c < P.c = omega (arith, S.columns_many) in
          after P.k M (model_of P) model_equal (get_or P.reaching i []) (get_or P.columns c []) (S.reaching_letters i hi) (S.columns_letters c hc') (S.columns_long c hc')
          ∙ ap (λ (s : ℕ). last_from (model_of P) 0 s (get_or P.columns c [])) (A.reaches i hi)

  accepted_smallest : SmallestModel P.k M (model_of P)
  unfolding lent
  accepted_smallest = record {
    complete = model_complete;
    equal = model_equal;
    fewest = λ N wholeN equal.
        subst (λ (z : ℕ). z ≤ N.states) S.reaching_many
        (lower_bound (ask M) P.k 1 N.states P.columns P.reaching (machine_classes P.k M N wholeN equal) told
        (λ j h. S.reaching_letters j (omega (arith, S.reaching_many))) (λ c h. S.columns_long c (omega (arith, S.columns_many))) (λ c h. S.columns_letters c (omega (arith, S.columns_many))));
  }

-- AN ACCEPTED MODEL is a smallest model of the machine
pub sound : {k : ℕ} {M : Machine} {P : Proof} → Seen P → Complete k M → judge M.states k M P ≡ gives tt → SmallestModel k M (model_of P)
sound {k} {M} {P} S whole e =
    let A = (judged M.states k M P).0 e in
    subst (λ (z : ℕ). Complete z M → Accepted M.states z M P → SmallestModel z M (model_of P)) A.letters (λ w B. accepted_smallest S w B) whole A
