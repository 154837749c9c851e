-- The conjecture as lent words, and the difference that is sought from it.
use Rattle.std.specs.Prelude.{◌≡◌, List, [], ℕ, ◌+◌, ◌*◌, ◌/◌, ◌%◌, ◌≤◌, ◌<◌, length, get_or}
use Rattle.std.proofs.Math.Path.{refl, sym, ap}
use Rattle.std.proofs.Common.{◌∙◌, arith}
use Rattle.std.proofs.Math.Arith.{digits_lt}
use Rattle.rules.specs.Words.{Word}
use Rattle.rules.specs.Areas.{put, put_in}
use Rattle.rules.specs.Machine.{Machine, Complete, lent, ask}
use Rattle.rules.specs.MachineLaws.{ask_snoc}
use Rattle.rules.specs.Table.{conjecture}
use Rattle.rules.specs.Closing.{Shut}
use Rattle.rules.specs.Difference.{difference}
use Rattle.rules.specs.Links.{counterexample}
use Rattle.rules.specs.Sheets.{words_of}
use Rattle.rules.specs.Same.{Same, words_length, read_back, lent_low}
use Rattle.rules.specs.SameDifference.{difference_same}
use Rattle.machine.specs.Lent.{link, Steps, Sound}
use Rattle.machine.specs.LentLaws.{sound_steps, steps_complete}

pub record Modelled (n k : ℕ) (words : List ℕ) (S E : List Word) (model : List ℕ) : Type 0 where
  pub steps : Steps (length S) k model
  pub same : Same k (conjecture (ask (link n k words)) E S) (link (length S) k model)

module _ {n k : ℕ} {words : List ℕ} (sound : Sound n k words) (S E : List Word) (some : 0 < length S) (shut : Shut (ask (link n k words)) k E S) where
  -- the conjecture of a closed table is complete
  whole : Complete k (conjecture (ask (link n k words)) E S)
  unfolding conjecture
  whole = (some, shut)

  module _ (model model' : List ℕ) (room : length S * k ≤ length model) (puts : model' ≡ put 0 (words_of 256 k (conjecture (ask (link n k words)) E S)) model) where
    same' : Same k (conjecture (ask (link n k words)) E S) (link (length S) k model')
    unfolding conjecture lent
    same' = record {
      states = refl;
      next = λ j a h ha. ap (λ (x : ℕ). x / 256) (at j a h ha) ∙ R.next j a h ha;
      out = λ j a h ha. ap (λ (x : ℕ). x % 256) (at j a h ha) ∙ R.out j a h ha;
    }
      where
        C : Machine
        C = conjecture (ask (link n k words)) E S

        low : (j a : ℕ) → j < C.states → a < k → C.out j a < 256
        low j a h ha = rw (ask_snoc (link n k words) (get_or S j []) a) (lent_low 256 n k words (omega arith) _ a)

        R : Same k C (lent 256 C.states k (words_of 256 k C))
        R = read_back 256 k C low

        size : length (words_of 256 k C) ≡ length S * k
        size = words_length 256 k C

        at : (j a : ℕ) → j < C.states → a < k → get_or model' (j * k + a) 0 ≡ get_or (words_of 256 k C) (j * k + a) 0
        at j a h ha =
            let z : 0 + (j * k + a) ≡ j * k + a = omega arith in
            ap (λ (l : List ℕ). get_or l (j * k + a) 0) puts
            ∙ ap (λ (i : ℕ). get_or (put 0 (words_of 256 k C) model) i 0) (sym z)
            ∙ put_in 0 (words_of 256 k C) model (omega (arith, size)) (j * k + a) (rw size (digits_lt h ha))

    pub modelled : length model' ≡ length model → Modelled n k words S E model'
    unfolding conjecture lent
    modelled long = record {
      steps = record { some = some; long = omega arith; next = λ j a h ha. rw (same'.next j a h ha) (whole.1 j a h ha) };
      same = same';
    }

  -- what is sought from the lent words is rule 5's
  pub modelled_difference : {model : List ℕ} → Modelled n k words S E model → difference (link n k words) (link (length S) k model) k 0 0 ≡ counterexample k (link n k words) E S
  unfolding counterexample
  modelled_difference {model} K =
      sym (difference_same k (link n k words) (conjecture (ask (link n k words)) E S) (link (length S) k model) sound.k_low (steps_complete (sound_steps sound)) whole K.same)
