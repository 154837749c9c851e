-- How large things get, at every stop: words, rows, columns, rounds, counterexamples, and the finished sheet.
use Rattle.std.specs.Prelude.{◌≡◌, get_or}
use Rattle.std.proofs.Math.Path.{refl}
use Rattle.std.proofs.Common.{sym, ◌∙◌, arith}
use Rattle.std.proofs.Math.Option.{Option, none, some}
use mathlib.Core.List.{List, []}
use Prim.Native.Nat.{ℕ, zero, suc, ◌+◌, ◌*◌, ◌≤◌, ◌<◌}
use Rattle.std.proofs.Math.Nat.{mul-le-mul}
use Rattle.std.proofs.Math.Decide.{dec_lt}
use Rattle.std.proofs.Math.ListN.{length, length-drop}
use Rattle.rules.specs.Least.{stable}
use Rattle.rules.specs.Words.{Word}
use Rattle.rules.specs.Machine.{Machine, ask}
use Rattle.rules.specs.Table.{conjecture, suffix}
use Rattle.rules.specs.Closing.{all_snoc}
use Rattle.rules.specs.Rounds.{Stop, more, rounds, learned}
use Rattle.rules.specs.Difference.{pairs}
use Rattle.rules.specs.DifferenceLaws.{pairs_few, found_short}
use Rattle.rules.specs.Links.{counterexample, stopped}
use Rattle.rules.proofs.Links.{at_stop, conjecture_complete, words_few, one_letter_at, one_letter_length}
use Rattle.rules.specs.Advance.{advance}
use Rattle.rules.proofs.Advance.{stop_more}
use Rattle.rules.proofs.Smallest.{full_none}
use Rattle.learning.specs.Proper.{Proper}

pub record Bounds (k : ℕ) (M : Machine) (x : Stop) : Type 0 where
  -- no more words than machine states
  pub words : length x.S ≤ M.states
  pub words_most : length x.S ≤ 48
  pub word_short : (i : ℕ) → i < length x.S → length (get_or x.S i []) ≤ 47
  pub rows_most : 1 + length x.S * k ≤ 577
  -- fewer rounds than words
  pub rounds : x.past < length x.S
  pub columns : length x.E ≡ k + x.past
  pub columns_most : length x.E ≤ 59
  pub column_long : (c : ℕ) → c < length x.E → 1 ≤ length (get_or x.E c [])
  pub column_short : (c : ℕ) → c < length x.E → length (get_or x.E c []) ≤ 93
  -- a counterexample is left only where a word more is to come
  pub open_words : (w : Word) → x.left ≡ some w → length x.S < M.states
  pub word_left_short : (w : Word) → x.left ≡ some w → length w ≤ 94
  -- the pairs of states that the search meets
  pub pairs_most : length (pairs M (conjecture (ask M) x.E x.S) k 0 0) ≤ 2304

module _ {k : ℕ} {M : Machine} (I : Proper k M) where
  few : (R : ℕ) → length (stopped k M R).S ≤ M.states
  few R = words_few k M I.k_low I.whole R M I.whole (λ w b. refl)

  -- a closed table with as many words as states leaves no counterexample
  fewer : (R : ℕ) (w : Word) → (stopped k M R).left ≡ some w → length (stopped k M R).S < M.states
  fewer R w e = stable (dec_lt (length (stopped k M R).S) M.states) never
    where
      never : ¬ ¬ (length (stopped k M R).S < M.states)
      never f =
          let s = at_stop k M I.k_low I.whole R in
          let n = sym (full_none k I.k_low M I.whole s.stage (omega arith)) ∙ sym s.asked ∙ e in
          let z : ◌≡◌ {A = ℕ} 0 1 = cc in
          absurd (omega arith)

  -- a least difference has fewer letters than machine and conjecture have states
  left_short : (R : ℕ) (w : Word) → (stopped k M R).left ≡ some w → length w ≤ 94
  unfolding counterexample conjecture
  left_short R w e =
      let s = at_stop k M I.k_low I.whole R in
      let C = conjecture_complete k M s.stage in
      let l = found_short k I.k_low M (conjecture (ask M) (stopped k M R).E (stopped k M R).S) I.whole C 0 0 I.whole.0 C.0 w (sym s.asked ∙ e) in
      let f = fewer R w e in
      omega (arith, I.n_high)

  met : (R : ℕ) → length (pairs M (conjecture (ask M) (stopped k M R).E (stopped k M R).S) k 0 0) ≤ 2304
  unfolding conjecture
  met R =
      let C = conjecture_complete k M (at_stop k M I.k_low I.whole R).stage in
      let l = pairs_few k I.k_low M (conjecture (ask M) (stopped k M R).E (stopped k M R).S) I.whole C 0 0 I.whole.0 C.0 in
      let f = few R in
      omega (arith, mul-le-mul {n₁ = M.states} {m₁ = length (stopped k M R).S} {n₂ = 48} {m₂ = 48} I.n_high (omega (arith, I.n_high)))

  abbrev Short : List Word → Type 0
  Short E = (c : ℕ) → c < length E → length (get_or E c []) ≤ 93

  -- the first columns have one letter, and a round's has fewer than its counterexample
  short : (R : ℕ) → Short (stopped k M R).E
  unfolding stopped learned rounds advance more suffix
  short zero = λ c h. rw (one_letter_at k c (rw (one_letter_length k) at h)) (omega arith)
  short (suc R) = rw (stop_more k M R) (go (stopped k M R) (left_short R) (short R))
    where
      go : (x : Stop) → ((w : Word) → x.left ≡ some w → length w ≤ 94) → Short x.E → Short (advance (ask M) k 1 M.states (counterexample k M) x).E
      go x bound sh = on x.left refl
        where
          on : (o : Option Word) → x.left ≡ o → Short (advance (ask M) k 1 M.states (counterexample k M) x).E
          on none e = rw (e, advance) sh
          on (some w) e =
              let b = bound w e in
              rw (e, advance) (all_snoc (λ i v. length v ≤ 93) [] x.E (suffix (ask M) 1 x.E x.S w) sh (rw length-drop (omega arith)))

  pub stop_bounds : (R : ℕ) → Bounds k M (stopped k M R)
  stop_bounds R =
      let st = (at_stop k M I.k_low I.whole R).stage in
      let w = few R in
      record {
        words = w;
        words_most = omega (arith, I.n_high);
        word_short = λ i h. omega (arith, st.short i h, I.n_high);
        rows_most = omega (arith, mul-le-mul {n₁ = length (stopped k M R).S} {m₁ = k} {n₂ = 48} {m₂ = 12} (omega (arith, I.n_high)) I.k_high);
        rounds = st.grown;
        columns = st.wide;
        columns_most = omega (arith, st.wide, st.grown, I.n_high, I.k_high);
        column_long = st.columns;
        column_short = short R;
        open_words = fewer R;
        word_left_short = left_short R;
        pairs_most = met R;
      }
