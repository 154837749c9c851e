-- A machine as document 01 has it, whatever its coding: the numbers of its states and letters, complete, its outputs bytes.
use Rattle.std.specs.Prelude.{ℕ, ◌≤◌, ◌<◌, List}
use Rattle.std.proofs.Common.{lit<}
use Rattle.rules.specs.Machine.{Machine, Complete, lent}
use Rattle.rules.specs.Same.{lent_low}
use Rattle.machine.specs.Lent.{link, Sound}
use Rattle.machine.specs.LentLaws.{sound_steps, steps_complete}

pub record Proper (k : ℕ) (M : Machine) : Type 0 where
  pub k_low : 1 ≤ k
  pub k_high : k ≤ 12
  pub n_high : M.states ≤ 48
  pub whole : Complete k M
  pub bytes : (s a : ℕ) → M.out s a < 256

pub sound_proper : {n k : ℕ} {words : List ℕ} → Sound n k words → Proper k (link n k words)
unfolding lent
sound_proper {n} {k} {words} s = record {
  k_low = s.k_low;
  k_high = s.k_high;
  n_high = s.n_high;
  whole = steps_complete (sound_steps s);
  bytes = lent_low 256 n k words (lit< tt);
}
