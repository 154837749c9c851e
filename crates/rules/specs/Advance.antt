-- The rounds one by one: what one round more makes of a stop.
use Rattle.std.specs.Prelude.{◌≡◌}
use Rattle.std.proofs.Math.Path.{refl}
use Rattle.std.proofs.Common.{sym, ap}
use Rattle.std.proofs.Math.Option.{Option, none, some}
use mathlib.Core.List.{List}
use Prim.Native.Nat.{ℕ, zero, suc}
use Rattle.rules.specs.Words.{Word}
use Rattle.rules.specs.Table.{close}
use Rattle.rules.specs.Rounds.{Stop, more, rounds}

module _ (ask : Word → ℕ) (k τ room : ℕ) (find : List Word → List Word → Option Word) where
  -- a round with the counterexample that is left, where one is
  unfoldable pub advance : Stop → Stop
  unfolding more close
  advance x =
      elim x.left [
        | none ↦ x
        | some w ↦
            let E = more ask τ x.E x.S w in
            let S = close ask k room E x.S in
            record { S = S; E = E; past = suc x.past; left = find E S }
      ]

  pub rounds_more : (r p : ℕ) (E S : List Word) → rounds ask k τ room find (suc r) p E S ≡ advance (rounds ask k τ room find r p E S)
  unfolding rounds advance
  rounds_more zero p E S = go (find E S) refl
    where
      go : (o : Option Word) → find E S ≡ o → rounds ask k τ room find 1 p E S ≡ advance (rounds ask k τ room find 0 p E S)
      go none e = rw (e, rounds, advance) (ap (λ (o : Option Word). record { S = S; E = E; past = p; left = o }) (sym e))
      go (some w) e = rw (e, rounds, advance)
  rounds_more (suc r) p E S = go (find E S) refl (rounds_more r (suc p))
    where
      go : (o : Option Word) → find E S ≡ o → ((E S : List Word) → rounds ask k τ room find (suc r) (suc p) E S ≡ advance (rounds ask k τ room find r (suc p) E S))
          → rounds ask k τ room find (suc (suc r)) p E S ≡ advance (rounds ask k τ room find (suc r) p E S)
      go none e ih = rw (e, rounds, advance, e, rounds)
      go (some w) e ih = rw (e, rounds) (ih (more ask τ E S w) (close ask k room (more ask τ E S w) S))
