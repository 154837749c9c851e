-- A machine beside one that stays in its single state: the pairs are its own states, and the search over pairs is the search over them.
use Rattle.std.specs.Prelude.{◌≡◌, ℕ, ◌+◌, ◌*◌}
use Rattle.std.proofs.Common.{mul-one}
use Rattle.std.proofs.Math.Path.{fun_ext}
use Rattle.std.proofs.Math.Nat.{div-one, mod-one}
use native.Mathlib.Omega.{arith}
use Rattle.rules.specs.Machine.{Machine}
use Rattle.rules.specs.Difference.{pair_step, pairs}
use Rattle.rules.specs.Numbering.{reached}

module _ (k : ℕ) (M T : Machine) (one : T.states ≡ 1) (stays : (a : ℕ) → T.next 0 a ≡ 0) where
  pub alone_step : pair_step M T ≡ M.next
  unfolding pair_step
  alone_step = fun_ext (λ x. fun_ext (λ a. rw (one, div-one, mod-one, stays a, mul-one) (omega arith)))

  pub alone : pairs M T k 0 0 ≡ reached k M
  unfolding pairs reached
  alone = let z : 0 * T.states + 0 ≡ 0 = omega arith in rw (alone_step, z, one, mul-one)
