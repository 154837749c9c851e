-- The checker step by step, as the code goes through it: its loops, its questions, and their order.
use Rattle.std.specs.Prelude.{◌≡◌, ◌⊎◌, ◌≢◌, true, ◌&&◌, ◌||◌, length, get_or, drop, ltb}
use Rattle.std.proofs.Math.Path.{refl, ap}
use Rattle.std.proofs.Common.{sym, ◌∙◌, subst, inl, inr, not-suc-le-zero, le_of_suc-le-suc}
use Rattle.std.proofs.Math.Bool.{Bool, false, not}
use mathlib.Core.List.{List, [], ◌∷◌}
use Prim.Native.Nat.{ℕ, zero, suc, ◌+◌, ◌*◌, ◌-◌, ◌/◌, ◌≤◌, ◌<◌}
use Rattle.std.proofs.Math.Numerals.{add-one}
use native.Mathlib.Omega.{arith}
use Rattle.std.proofs.Math.ListN.{drop_of_length-le}
use Rattle.std.proofs.Math.Seq.{drop-cons}
use Rattle.std.proofs.Math.Dec.{eqb}
use Rattle.rules.specs.Tests.{outcome, or_split, eqb_true, eqb_false, ltb_yes, ltb_no, is_true, is_false, all_from, all_true, true_all}
use Rattle.rules.specs.Words.{Word}
use Rattle.rules.specs.Machine.{Machine, lent, last_from}
use Rattle.rules.specs.Answer.{Answer, refused, gives, demand, ◌>>◌}
use Rattle.rules.specs.Sheets.{Proof}
use Rattle.std.specs.List.{list_all, range_with_len}
use Rattle.machine.specs.Lent.{link, Sound}
use Rattle.machine.specs.LentLaws.{all_at}
use Rattle.sheets.specs.Reading.{Parsed, bad, good}
use Rattle.sheets.specs.Proofs.{map_byte, proof_sheet, Counts, counts_of, read_proof}
use Rattle.sheets.specs.ProofParts.{counts}
use Rattle.sheets.specs.WordSteps.{clash}
use Rattle.sheets.specs.Places.{laid, read_good}
use Rattle.sheets.specs.Checker.{some_word, model_of, reaches_all, told_apart, all_apart, step_agrees, map_holds, judge, judge_sheet}
use Rattle.sheets.proofs.CheckerLaws.{or_true}
use Rattle.sheets.specs.Held.{said, Held, model_is, mapped_states}
use Rattle.sheets.specs.CheckerSteps.{reached, tells, apart_before, Mapping, mapped, state_agrees}

-- ---- loops over numbers: the start, one that passes, one that does not, the end
pub begins : (p : ℕ → Bool) (n : ℕ) → all_from p 0 n ≡ all_from p 0 (n - 0)
begins p n = let e : n ≡ n - 0 = omega arith in ap (all_from p 0) e

module _ (p : ℕ → Bool) (n i : ℕ) where
  pub passes : i < n → p i ≡ true → all_from p i (n - i) ≡ all_from p (i + 1) (n - (i + 1))
  unfolding all_from
  passes h t = let e : n - i ≡ suc (n - (i + 1)) = omega arith in ap (all_from p i) e ∙ rw (t, add-one i) refl

  pub fails : i < n → p i ≡ false → all_from p i (n - i) ≡ false
  unfolding all_from
  fails h t = let e : n - i ≡ suc (n - (i + 1)) = omega arith in ap (all_from p i) e ∙ rw t refl

  pub ends : n ≤ i → all_from p i (n - i) ≡ true
  unfolding all_from
  ends h = let e : n - i ≡ 0 = omega arith in ap (all_from p i) e

-- ---- over words: one that passes, one that does not, the end
module _ (p : Word → Bool) (words : List Word) (c : ℕ) where
  pub some_here : c < length words → p (get_or words c []) ≡ true → some_word p (drop c words) ≡ true
  unfolding some_word
  some_here h t = rw (drop-cons words c [], t)

  pub some_later : c < length words → p (get_or words c []) ≡ false → some_word p (drop c words) ≡ some_word p (drop (c + 1) words)
  unfolding some_word
  some_later h t = rw (add-one, drop-cons words c [], t)

  pub some_none : length words ≤ c → some_word p (drop c words) ≡ false
  unfolding some_word
  some_none h = rw drop_of_length-le

-- 12 and 13 look at the model alone: any machine may stand in their place for one
pub reaches_alone : (M N : Machine) (P : Proof) → reaches_all M P ≡ reaches_all N P
unfolding reaches_all
reaches_alone M N P = refl

pub apart_alone : (M N : Machine) (P : Proof) → all_apart M P ≡ all_apart N P
unfolding all_apart told_apart
apart_alone M N P = refl

module _ {sheet model : List ℕ} {m k : ℕ} (H : Held sheet model m k) (M : Machine) where
  pub reaches_from : reaches_all M (said sheet) ≡ all_from (reached (link m k model) (said sheet)) 0 m
  unfolding reaches_all
  reaches_from =
      ap (λ (N : Machine). all_from (reached N (said sheet)) 0 (said sheet).m) (model_is H)
      ∙ ap (all_from (reached (link m k model) (said sheet)) 0) H.states

  pub told_from : (i j : ℕ) → told_apart M (said sheet) i j ≡ some_word (tells (link m k model) i j) (said sheet).columns
  unfolding told_apart tells
  told_from i j = ap (λ (N : Machine). some_word (tells N i j) (said sheet).columns) (model_is H)

-- each pair is asked once: what tells i from j tells j from i
eqb_turned : (x y : ℕ) → eqb x y ≡ eqb y x
eqb_turned x y = go (outcome (eqb x y))
  where
    go : (eqb x y ≡ true) ⊎ (eqb x y ≡ false) → eqb x y ≡ eqb y x
    go (inl e) = e ∙ sym (is_true y x (sym (eqb_true x y e)))
    go (inr e) = e ∙ sym (is_false y x (λ q. eqb_false x y e (sym q)))

same_words : (p q : Word → Bool) (words : List Word) → ((w : Word) → p w ≡ q w) → some_word p words ≡ some_word q words
unfolding some_word
same_words p q [] f = refl
same_words p q (w ∷ words) f = rw (f w, same_words p q words f) refl

same_test : (a b : Bool) → (a ≡ true → b ≡ true) → (b ≡ true → a ≡ true) → a ≡ b
same_test true b f g = sym (f refl)
same_test false true f g = g refl
same_test false false f g = refl

module _ (M : Machine) (P : Proof) where
  told_turned : (i j : ℕ) → told_apart M P i j ≡ told_apart M P j i
  unfolding told_apart tells
  told_turned i j =
      same_words (tells (model_of P) i j) (tells (model_of P) j i) P.columns (λ e. ap not (eqb_turned (last_from (model_of P) 0 i e) (last_from (model_of P) 0 j e)))

  apart_from : all_apart M P ≡ all_from (apart_before M P) 0 P.m
  unfolding all_apart apart_before
  apart_from = same_test (all_apart M P) (all_from (apart_before M P) 0 P.m) once both
    where
      test : ℕ → ℕ → Bool
      test i j = eqb i j || told_apart M P i j

      row : ℕ → Bool
      row i = all_from (test i) 0 P.m

      other : (i j : ℕ) → j < i → (eqb i j ≡ true) ⊎ (told_apart M P i j ≡ true) → told_apart M P i j ≡ true
      other i j h (inl e) = let q = eqb_true i j e in absurd (omega arith)
      other i j h (inr e) = e

      asked : all_apart M P ≡ true → (i j : ℕ) → i < P.m → j < P.m → test i j ≡ true
      asked e i j hi hj = all_true (test i) 0 P.m (all_true row 0 P.m e i (omega arith) (omega arith)) j (omega arith) (omega arith)

      once : all_apart M P ≡ true → all_from (apart_before M P) 0 P.m ≡ true
      once e =
          true_all (apart_before M P) 0 P.m
          (λ i l u. true_all (told_apart M P i) 0 i
          (λ j l' u'. other i j (omega arith) (or_split (eqb i j) (told_apart M P i j) (asked e i j (omega arith) (omega arith)))))

      below : all_from (apart_before M P) 0 P.m ≡ true → (i j : ℕ) → i < P.m → j < i → told_apart M P i j ≡ true
      below e i j hi h =
          all_true (told_apart M P i) 0 i (all_true (apart_before M P) 0 P.m e i (omega arith) (omega arith)) j (omega arith) (omega arith)

      pair : all_from (apart_before M P) 0 P.m ≡ true → (i j : ℕ) → i < P.m → j < P.m
          → (eqb i j ≡ true) ⊎ (eqb i j ≡ false) → (ltb i j ≡ true) ⊎ (ltb i j ≡ false) → test i j ≡ true
      pair e i j hi hj (inl q) a = rw q refl
      pair e i j hi hj (inr d) (inl a) = or_true (eqb i j) (told_apart M P i j) (told_turned i j ∙ below e j i hj (ltb_yes i j a))
      pair e i j hi hj (inr d) (inr a) =
          let l = ltb_no i j a in
          or_true (eqb i j) (told_apart M P i j) (below e i j hi (omega (arith, eqb_false i j d)))

      both : all_from (apart_before M P) 0 P.m ≡ true → all_apart M P ≡ true
      both e =
          true_all row 0 P.m
          (λ i l u. true_all (test i) 0 P.m (λ j l' u'. pair e i j (omega arith) (omega arith) (outcome (eqb i j)) (outcome (ltb i j))))

pub apart_asked : {sheet model : List ℕ} {m k : ℕ} → Held sheet model m k → (M : Machine)
    → all_apart M (said sheet) ≡ all_from (apart_before M (said sheet)) 0 m
apart_asked {sheet} H M = apart_from M (said sheet) ∙ ap (all_from (apart_before M (said sheet)) 0) H.states

pub map_alone : (M : Machine) (P : Proof) → map_holds M P ≡ map_holds M (mapped P.n P.k P.m P.model P.state_map)
unfolding map_holds step_agrees
map_alone M P = refl

-- a number that stands in a list is the same whatever stands for none
at_any : (l : List ℕ) (i : ℕ) → i < length l → get_or l i 255 ≡ get_or l i 0
at_any [] i h = absurd (not-suc-le-zero h)
at_any (x ∷ l) zero h = refl
at_any (x ∷ l) (suc i) h = at_any l i (le_of_suc-le-suc h)

module _ {n k : ℕ} {words : List ℕ} {m : ℕ} {model map : List ℕ} (G : Mapping n k words m model map) where
  -- what is read lies in the map
  pub next_in : (s a : ℕ) → s < n → a < k → get_or words (s * k + a) 0 / 256 < length map
  next_in s a hs ha = rw G.long (G.sound.next s a hs ha)

  -- a machine state that is not marked 255 has a model state
  pub has_state : (s : ℕ) → s < n → get_or map s 0 ≢ 255 → get_or map s 0 < m
  has_state s hs d = go (or_split (ltb (get_or map s 0) m) (eqb (get_or map s 0) 255) (all_at (map_byte m) map s G.bytes (rw G.long hs)))
    where
      go : (ltb (get_or map s 0) m ≡ true) ⊎ (eqb (get_or map s 0) 255 ≡ true) → get_or map s 0 < m
      go (inl e) = ltb_yes (get_or map s 0) m e
      go (inr e) = absurd (d (eqb_true (get_or map s 0) 255 e))

  pub state_is : (s : ℕ) → s < n → get_or map s 255 ≡ get_or map s 0
  state_is s hs = at_any map s (rw G.long hs)

  -- a step, by what the code reads
  pub step_at : (s a : ℕ) → s < n → a < k → step_agrees (link n k words) (mapped n k m model map) s a
      ≡ (eqb ((link n k words).out s a) ((link m k model).out (get_or map s 0) a)
      && eqb (get_or map ((link n k words).next s a) 0) ((link m k model).next (get_or map s 0) a))
  unfolding step_agrees lent
  step_at s a hs ha = rw (state_is s hs, at_any map (get_or words (s * k + a) 0 / 256) (next_in s a hs ha)) refl

  -- a state that is asked nothing, and one that is asked at each letter
  pub agrees_none : (s : ℕ) → s < n → get_or map s 0 ≡ 255 → state_agrees (link n k words) (mapped n k m model map) s ≡ true
  unfolding state_agrees
  agrees_none s hs e = rw (state_is s hs, e) refl

  pub agrees_from : (s : ℕ) → s < n → get_or map s 0 ≢ 255
      → state_agrees (link n k words) (mapped n k m model map) s ≡ all_from (step_agrees (link n k words) (mapped n k m model map) s) 0 k
  unfolding state_agrees
  agrees_from s hs d = rw (state_is s hs, is_false (get_or map s 0) 255 d) refl

  -- machine state 0 has another model state than 0, or has it and the states are asked
  start_in : 0 < n
  start_in = omega (arith, G.sound.n_low)

  pub holds_not : get_or map 0 0 ≢ 0 → map_holds (link n k words) (mapped n k m model map) ≡ false
  unfolding map_holds
  holds_not d = rw (state_is 0 start_in, is_false (get_or map 0 0) 0 d) refl

  pub holds_from : get_or map 0 0 ≡ 0
      → map_holds (link n k words) (mapped n k m model map) ≡ all_from (state_agrees (link n k words) (mapped n k m model map)) 0 n
  unfolding map_holds state_agrees
  holds_from e = rw (state_is 0 start_in, e) refl

-- ---- the questions in order
-- 12 to 14
abbrev three : Machine → Proof → Answer (Unit {0})
three M P = do
  demand (reaches_all M P) 12
  demand (all_apart M P) 13
  demand (map_holds M P) 14

module _ {sheet model : List ℕ} {m k n c : ℕ} (H : Held sheet model m k) (e : read_proof sheet ≡ gives (counts m k n c)) where
  pub mapping : {words : List ℕ} → Sound n k words → Mapping n k words m model (said sheet).state_map
  mapping sound =
      let l = laid sheet (said sheet) [] H.read in
      record {
        sound = sound;
        model_sound = H.sound;
        long = l.states.0 ∙ mapped_states H e;
        bytes = subst (λ (z : ℕ). list_all (map_byte z) (said sheet).state_map ≡ true) H.states l.states.1;
      }

  pub map_same : (M : Machine) → map_holds M (said sheet) ≡ map_holds M (mapped n k m model (said sheet).state_map)
  map_same M = map_alone M (said sheet) ∙ rw (mapped_states H e, H.letters, H.states, H.words) refl

  -- n and k are the machine's: the other three questions are left
  pub judge_same : (M : Machine) → judge n k M (said sheet) ≡ three M (said sheet)
  unfolding judge
  judge_same M = rw (is_true (said sheet).n n (mapped_states H e), is_true (said sheet).k k H.letters) refl

-- ---- a sheet that is refused, one of another size, and one that is judged
pub judge_refused : (n k : ℕ) (M : Machine) (sheet : List ℕ) (x : ℕ) → read_proof sheet ≡ refused x → judge_sheet n k M (proof_sheet sheet) ≡ refused x
unfolding read_proof
judge_refused n k M sheet x e = go (proof_sheet sheet) e
  where
    go : (p : Parsed Proof) → counts_of p ≡ refused x → judge_sheet n k M p ≡ refused x
    go (bad y) e = let h : y ≡ x = cc in ap refused h
    go (good P rest) e = absurd (clash (sym e))

module _ (n k : ℕ) (M : Machine) (sheet : List ℕ) (h : Counts) (e : read_proof sheet ≡ gives h) where
  -- 11
  pub judge_other : (eqb h.n n && eqb h.k k) ≡ false → judge_sheet n k M (proof_sheet sheet) ≡ refused 11
  unfolding judge
  judge_other t =
      let g = read_good sheet h e in
      let c : (eqb g.0.n n && eqb g.0.k k) ≡ false = ap (λ (h : Counts). eqb h.n n && eqb h.k k) g.3 ∙ t in
      ap (judge_sheet n k M) g.2 ∙ rw c refl

-- a test of all numbers of a range
pub all_ranged : (p : ℕ → Bool) (i n : ℕ) → list_all p (range_with_len i n) ≡ all_from p i n
unfolding all_from
all_ranged p i zero = refl
all_ranged p i (suc n) = let e : i + 1 ≡ suc i = omega arith in rw e (ap (λ (b : Bool). p i && b) (all_ranged p (suc i) n))
