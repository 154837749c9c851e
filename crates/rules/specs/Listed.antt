-- What can be chosen for each place makes a list.
use Rattle.std.specs.Prelude.{◌≡◌, refl, List, [], ◌∷◌, ◌++◌, ℕ, zero, suc, ◌<◌, length, get_or}
use Rattle.std.proofs.Common.{sym, subst, not-suc-le-zero, arith, length-append}
use Rattle.rules.specs.Closing.{all_snoc}

pub record Listed {A : Type 0} (P : ℕ → A → Type 0) (z : A) (n : ℕ) : Type 0 where
  pub list : List A
  pub long : length list ≡ n
  pub at : (i : ℕ) → i < n → P i (get_or list i z)

pub listed : {A : Type 0} (P : ℕ → A → Type 0) (z : A) (n : ℕ) → ((i : ℕ) → i < n → (a : A) × P i a) → Listed P z n
listed P z zero f = record { list = []; long = refl; at = λ i h. absurd (not-suc-le-zero h) }
listed {A} P z (suc n) f = more (listed P z n (λ i h. f i (omega arith))) (f n (omega arith))
  where
    more : Listed P z n → (a : A) × P n a → Listed P z (suc n)
    more l x =
        let long : length (l.list ++ (x.0 ∷ [])) ≡ suc n = simp length-append (omega (arith, l.long)) in
        record {
          list = l.list ++ (x.0 ∷ []);
          long = long;
          at = λ i h. all_snoc P z l.list x.0 (λ i h. l.at i (omega (arith, l.long))) (subst (λ (j : ℕ). P j x.0) (sym l.long) x.1) i (rw long h);
        }
