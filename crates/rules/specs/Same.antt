-- Machines that agree state by state, whatever their functions do elsewhere; and that a machine written as lent words is read back.
use Rattle.std.specs.Prelude.{◌≡◌, ℕ, ◌+◌, ◌*◌, ◌/◌, ◌%◌, ◌<◌, length, get_or}
use Rattle.std.proofs.Math.Path.{refl, ap, ap₂}
use Rattle.std.proofs.Common.{sym, ◌∙◌, mul_comm, mod-lt, arith}
use mathlib.Core.List.{List, [], ◌∷◌}
use Rattle.std.proofs.Math.Arith.{digits_lt, digits_div, digits_mod}
use Rattle.rules.specs.Words.{Word, Below}
use Rattle.rules.specs.Search.{walk}
use Rattle.rules.specs.Machine.{Machine, Complete, answer_from, answer, SmallestModel, ByLeastWords, lent}
use Rattle.rules.specs.FromLaws.{map_from_length, map_from_at}
use Rattle.rules.specs.Sheets.{words_of}

-- N has M's states, and at each state and letter M's next state and output
pub record Same (k : ℕ) (M N : Machine) : Type 0 where
  pub states : N.states ≡ M.states
  pub next : (s a : ℕ) → s < M.states → a < k → N.next s a ≡ M.next s a
  pub out : (s a : ℕ) → s < M.states → a < k → N.out s a ≡ M.out s a

module _ {k : ℕ} {M N : Machine} (whole : Complete k M) (same : Same k M N) where
  pub same_complete : Complete k N
  same_complete = (rw same.states whole.0, λ s a h ha. low s a (rw same.states at h) ha)
    where
      low : (s a : ℕ) → s < M.states → a < k → N.next s a < N.states
      low s a h ha = rw (same.states, same.next s a h ha) (whole.1 s a h ha)

  pub same_walk : (s : ℕ) (w : Word) → s < M.states → Below k w → walk N.next s w ≡ walk M.next s w
  same_walk s [] h b = refl
  same_walk s (a ∷ w) h b =
      ap (λ (t : ℕ). walk N.next t w) (same.next s a h b.0) ∙ same_walk (M.next s a) w (whole.1 s a h b.0) b.1

  pub same_answers : (s : ℕ) (w : Word) → s < M.states → Below k w → answer_from M s w ≡ answer_from N s w
  unfolding answer_from
  same_answers s [] h b = refl
  same_answers s (a ∷ w) h b =
      ap₂ {C = List ℕ} ◌∷◌ (sym (same.out s a h b.0))
      (same_answers (M.next s a) w (whole.1 s a h b.0) b.1 ∙ ap (λ (t : ℕ). answer_from N t w) (sym (same.next s a h b.0)))

pub same_smallest : {k : ℕ} {M N N' : Machine} → SmallestModel k M N → Same k N N' → SmallestModel k M N'
unfolding answer
same_smallest m same = record {
  complete = same_complete m.complete same;
  equal = λ w b. m.equal w b ∙ same_answers m.complete same 0 w m.complete.0 b;
  fewest = λ K whole equal. rw same.states (m.fewest K whole equal);
}

pub same_numbered : {k : ℕ} {N N' : Machine} {reaching : List Word} → Complete k N → ByLeastWords k N reaching → Same k N N' → ByLeastWords k N' reaching
same_numbered {k} {N} {N'} {reaching} whole by same = record {
  all = by.all ∙ sym same.states;
  letters = λ j h. by.letters j (low j h);
  reaches = λ j h. to (get_or reaching j []) (by.letters j (low j h)) ∙ by.reaches j (low j h);
  least = λ j h v b e. by.least j (low j h) v b (sym (to v b) ∙ e);
  rising = λ i j h hj. by.rising i j h (low j hj);
}
  where
    low : (j : ℕ) → j < N'.states → j < N.states
    low j h = rw same.states at h

    to : (v : Word) → Below k v → walk N'.next 0 v ≡ walk N.next 0 v
    to v b = same_walk whole same 0 v whole.0 b

-- ---- a machine as lent words
pub words_length : (B k : ℕ) (N : Machine) → length (words_of B k N) ≡ N.states * k
unfolding words_of
words_length B k N = map_from_length (λ (i : ℕ). B * N.next (i / k) (i % k) + N.out (i / k) (i % k)) 0 (N.states * k)

pub words_at : (B k : ℕ) (N : Machine) (s a : ℕ) → s < N.states → a < k → get_or (words_of B k N) (s * k + a) 0 ≡ N.next s a * B + N.out s a
unfolding words_of
words_at B k N s a h ha =
    let z : 0 + (s * k + a) ≡ s * k + a = omega arith in
    map_from_at (λ (i : ℕ). B * N.next (i / k) (i % k) + N.out (i / k) (i % k)) 0 (N.states * k) (s * k + a) 0 (digits_lt h ha)
    ∙ rw (z, digits_div s ha, digits_mod s ha, mul_comm B (N.next s a))

-- outputs below B are read back, and so are all nexts
pub read_back : (B k : ℕ) (N : Machine) → ((s a : ℕ) → s < N.states → a < k → N.out s a < B) → Same k N (lent B N.states k (words_of B k N))
unfolding lent
read_back B k N low = record {
  states = refl;
  next = λ s a h ha. ap (λ (x : ℕ). x / B) (words_at B k N s a h ha) ∙ digits_div (N.next s a) (low s a h ha);
  out = λ s a h ha. ap (λ (x : ℕ). x % B) (words_at B k N s a h ha) ∙ digits_mod (N.next s a) (low s a h ha);
}

-- what is lent puts out less than B
pub lent_low : (B n k : ℕ) (words : List ℕ) → 0 < B → (s a : ℕ) → (lent B n k words).out s a < B
unfolding lent
lent_low B n k words pos s a = mod-lt (get_or words (s * k + a) 0) pos
