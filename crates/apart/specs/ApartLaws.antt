-- From what the search leaves to what is told, as the code goes.
use Rattle.std.specs.Prelude.{◌≡◌, refl, Option, Some, None, List, [], ◌∷◌, ℕ, ◌≤◌, ◌<◌, length, take}
use Rattle.std.proofs.Common.{sym, ap₂, ◌∙◌, subst, arith, length-append}
use Rattle.std.proofs.Math.Option.{none, some}
use Rattle.std.proofs.Math.Option as paper
use Rattle.rules.specs.Words.{Word, Below, below_append}
use Rattle.rules.specs.Areas.{put, put_start, put_part}
use Rattle.rules.specs.Machine.{Machine, Complete, last_from}
use Rattle.rules.specs.Difference.{difference}
use Rattle.rules.specs.DifferenceLaws.{found, found_alone}
use Rattle.rules.specs.Answer.{gives}
use Rattle.search.specs.Pairs.{found_length, found_put}
use Rattle.apart.specs.Apart.{tells}

-- w is the word that was found
pub record Found (k : ℕ) (M : Machine) (s t : ℕ) (w : Word) : Type 0 where
  pub is : difference M M k s t ≡ some w
  pub long : 1 ≤ length w
  pub letters : Below k w
  pub short : length w < M.states

module _ (k : ℕ) (pos : 0 < k) (M : Machine) (whole : Complete k M) (s t : ℕ) (hs : s < M.states) (ht : t < M.states) where
  pub is_found : (w : Word) → difference M M k s t ≡ some w → Found k M s t w
  is_found w e =
      let f = found k pos M M whole whole s t hs ht w e in
      record {
        is = e;
        long = rw (f.joined, length-append) (omega arith);
        letters = rw f.joined (below_append k f.front (f.last ∷ []) f.letters (f.low, tt));
        short = found_alone k pos M whole s t hs ht w e;
      }

  -- no length: none was found
  pub none_found : ◌≡◌ {A = Option ℕ} None (found_length (difference M M k s t)) → difference M M k s t ≡ none
  none_found h = go (difference M M k s t) refl h
    where
      go : (o : paper.Option Word) → difference M M k s t ≡ o → ◌≡◌ {A = Option ℕ} None (found_length o) → difference M M k s t ≡ none
      go none e h = e
      go (some w) e h = cc

  -- else the first letters of what was written are the word
  pub word_found : (r : ℕ) (into written : List ℕ) → M.states ≤ length into → Some r ≡ found_length (difference M M k s t)
      → written ≡ found_put (difference M M k s t) into → Found k M s t (take r written) × (r < M.states)
  word_found r into written room size is = go (difference M M k s t) refl size is
    where
      go : (o : paper.Option Word) → difference M M k s t ≡ o → Some r ≡ found_length o → written ≡ found_put o into → Found k M s t (take r written) × (r < M.states)
      go none e size is = cc
      go (some w) e size is =
          let f = is_found w e in
          let r_is : r ≡ length w = cc in
          let same : take r written ≡ w = ap₂ (λ (n : ℕ) (l : List ℕ). take n l) r_is is ∙ put_part 0 w into (omega (arith, f.short)) in
          (subst (Found k M s t) (sym same) f, omega (arith, r_is, f.short))

-- the parts of what is told
pub named : (M : Machine) (s t : ℕ) (w area left : List ℕ) (first second : ℕ) → first ≡ last_from M 0 s w → second ≡ last_from M 0 t w → left ≡ put 0 w area
    → record { answer = gives (some (record { length = length w; first = first; second = second })); area = left } ≡ tells M s t (some w) area
named M s t w area left first second p q e = rw (p, q, e, put_start)
