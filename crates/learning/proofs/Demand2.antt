-- What the learner's answers mean: theorems about `learn`, for lent words, limits and areas that are not refused at the door. The machine
-- is `link n k words`; `sheet_of` is the proof sheet at the stop, `model_on` the machine that its model rows say, and `conjectured` the
-- conjecture of the table at the stop.
use Rattle.std.specs.Prelude.{◌≡◌, refl, ◌⊎◌, ◌≢◌, ◌↔◌, List, ℕ, ◌+◌, ◌*◌, ◌-◌, ◌≤◌, ◌<◌, get_or}
use Rattle.std.proofs.Math.Path.{sym, ap}
use Rattle.std.proofs.Common.{◌∙◌, subst, inl, inr}
use Rattle.std.proofs.Math.Option.{Option, none, some}
use Rattle.std.proofs.Math.Nat.{mul-le-mul, mul-le-mul_right}
use native.Mathlib.Omega.{arith}
use Rattle.std.proofs.Math.ListN.{length}
use Rattle.rules.specs.Words.{Word, Below}
use Rattle.rules.specs.Search.{walk}
use Rattle.rules.specs.Machine.{Machine, Complete, lent, Equal, SmallestModel, ByLeastWords}
use Rattle.rules.specs.Table.{conjecture}
use Rattle.rules.specs.Rounds.{cell_count}
use Rattle.rules.specs.Links.{counterexample, stopped}
use Rattle.rules.proofs.Links.{at_stop, conjecture_complete, rounds_enough, words_few}
use Rattle.rules.specs.Differs.{Differs, difference_differs}
use Rattle.rules.specs.Sheets.{proof_bytes, word_bytes, CX}
use Rattle.rules.specs.Areas.{over, zeros}
use Rattle.rules.specs.Answer.{Answer, refused, gives}
use Rattle.machine.specs.Lent.{link}
use Rattle.machine.specs.LentLaws.{lent_sound}
use Rattle.learning.specs.Learner.{Counts, done, unfinished, Left, table_size, table_bytes, learn_check, counts, learn_leaves, learn}
use Rattle.learning.specs.Outcomes.{Outcome, over_limit, is_done, is_open, AtDone, AtOpen}
use Rattle.learning.proofs.Outcomes.{taken, at_ten, ten_at, at_done, at_open, ended}
use Rattle.learning.specs.Proper.{Proper, sound_proper}
use Rattle.learning.specs.Bounds.{stop_bounds}
use Rattle.learning.proofs.Finished as finish
use Rattle.learning.specs.Finished.{conjectured, sheet_of, model_on}
use Rattle.learning.specs.Demand2.{Figures}

-- no counterexample is left, or one is
left_none : {A : Type 0} {w : Word} → ◌≡◌ {A = Option Word} none (some w) → A
left_none e = let z : ◌≡◌ {A = ℕ} 0 1 = cc in absurd (omega arith)

-- REFUSED at the door: no byte of either area changes.
pub refused_leaves : (n k : ℕ) (words : List ℕ) (L R : ℕ) (table sheet : List ℕ) (x : ℕ) → learn_check n k words L R table sheet ≡ refused x
    → learn n k words L R table sheet ≡ record { answer = refused x; table = table; sheet = sheet }
unfolding learn learn_leaves
refused_leaves n k words L R table sheet x e = ap (λ (a : Answer (Unit {0})). learn_leaves a n k words L R table sheet) e

module _ (n k : ℕ) (words : List ℕ) (L R : ℕ) (table sheet : List ℕ) (asked : learn_check n k words L R table sheet ≡ gives tt) where
  proper : Proper k (link n k words)
  proper = sound_proper (lent_sound n k words (taken n k words L R table sheet asked).machine)

  figures : (bytes : List ℕ) → Figures n k (stopped k (link n k words) R) (counts k (stopped k (link n k words) R) bytes)
  unfolding counts cell_count lent
  figures bytes =
      let x = stopped k (link n k words) R in
      let b = stop_bounds proper R in
      let rows : 1 + length x.S * k ≤ 1 + n * k = omega (arith, mul-le-mul_right k b.words) in
      let columns : length x.E ≤ k + n - 1 = omega (arith, b.columns, b.rounds, b.words) in
      record {
        words = refl;
        columns = sym b.columns;
        cells = ap (λ (c : ℕ). (1 + length x.S * k) * c) b.columns;
        fewer = b.rounds;
        few = b.words;
        most = mul-le-mul rows columns;
      }

  -- TEN is given exactly when S has more than L words where the rounds stop.
  pub ten_when : ((learn n k words L R table sheet).answer ≡ refused 10) ↔ (L < length (stopped k (link n k words) R).S)
  ten_when = let o = ended n k words L R table sheet asked in (λ e. (at_ten o e).0, ten_at o)

  -- It zeroes the first 34,043 bytes of the table area, and leaves all else as it was.
  pub ten_leaves_is : (learn n k words L R table sheet).answer ≡ refused 10
      → learn n k words L R table sheet ≡ record { answer = refused 10; table = over (zeros table_size) table; sheet = sheet }
  ten_leaves_is e = (at_ten (ended n k words L R table sheet asked) e).1

  module _ (c : Counts) (is : (learn n k words L R table sheet).answer ≡ gives (done c)) where
    at : AtDone k (link n k words) L (stopped k (link n k words) R) table sheet c (learn n k words L R table sheet)
    at = at_done (ended n k words L R table sheet asked) is

    -- DONE. The sheet area begins with the proof sheet.
    pub done_sheet : (learn n k words L R table sheet).sheet ≡ over (proof_bytes (sheet_of k (link n k words) R)) sheet
    done_sheet = ap (λ (l : Left). l.sheet) at.leaves

    -- The bytes counted are the sheet's.
    pub done_bytes : c.bytes ≡ length (proof_bytes (sheet_of k (link n k words) R))
    unfolding counts
    done_bytes = ap (λ (c : Counts). c.bytes) at.counted

    -- The model on it is a smallest model of the machine: complete, equal, and no equal complete machine has fewer states.
    pub done_model : SmallestModel k (link n k words) (model_on k (sheet_of k (link n k words) R))
    done_model = finish.model_smallest proper R at.closed

    -- Its states are numbered by the least words that reach them, and these words stand on the sheet.
    pub done_numbered : ByLeastWords k (model_on k (sheet_of k (link n k words) R)) (sheet_of k (link n k words) R).reaching
    done_numbered = finish.model_numbered proper R at.closed

    -- Where a word leads the machine, the state map has the state to which it leads the model.
    pub done_map : (w : Word) → Below k w
        → get_or (sheet_of k (link n k words) R).state_map (walk (link n k words).next 0 w) 255 ≡ walk (model_on k (sheet_of k (link n k words) R)).next 0 w
    done_map w b = finish.map_reached proper R at.closed w b

    -- A machine state that no word reaches has 255.
    pub done_unreached : (s : ℕ) → s < n → ((w : Word) → Below k w → walk (link n k words).next 0 w ≢ s) → get_or (sheet_of k (link n k words) R).state_map s 255 ≡ 255
    unfolding lent
    done_unreached s h f = finish.map_unreached proper R at.closed s h f

    -- The states counted are the model's.
    pub done_states : c.states ≡ (sheet_of k (link n k words) R).m
    unfolding counts
    done_states = ap (λ (c : Counts). c.states) at.counted ∙ sym (finish.model_states proper R at.closed)

    -- The cells counted are those of the table left, rows times columns; the rounds are fewer than the states.
    pub done_figures : Figures n k (stopped k (link n k words) R) c
    done_figures = subst (Figures n k (stopped k (link n k words) R)) (sym at.counted) (figures (proof_bytes (sheet_of k (link n k words) R)))

    -- The table area begins with the table at the stop.
    pub done_table : (learn n k words L R table sheet).table ≡ over (table_bytes k (link n k words) (stopped k (link n k words) R)) table
    done_table = ap (λ (l : Left). l.table) at.leaves

  module _ (c : Counts) (is : (learn n k words L R table sheet).answer ≡ gives (unfinished c)) where
    stop : AtOpen k (link n k words) L (stopped k (link n k words) R) table sheet c (learn n k words L R table sheet)
    stop = at_open (ended n k words L R table sheet asked) is

    differs : Differs k (link n k words) (conjectured k (link n k words) R) stop.word
    unfolding counterexample
    differs =
        let s = at_stop k (link n k words) proper.k_low proper.whole R in
        difference_differs k (link n k words) (conjectured k (link n k words) R) proper.k_low proper.whole (conjecture_complete k (link n k words) s.stage) stop.word (sym s.asked ∙ stop.still)

    -- OPEN. The sheet area begins with a word, the least on which machine and conjecture differ; only its last outputs differ.
    pub open_word : (w : Word) × ((learn n k words L R table sheet).sheet ≡ over (word_bytes CX w) sheet) × (c.bytes ≡ length (word_bytes CX w))
        × Differs k (link n k words) (conjectured k (link n k words) R) w
    unfolding counts
    open_word = (stop.word, ap (λ (l : Left). l.sheet) stop.leaves, ap (λ (c : Counts). c.bytes) stop.counted, differs)

    -- R rounds are past.
    pub open_rounds : c.rounds ≡ R
    unfolding counts
    open_rounds = ap (λ (c : Counts). c.rounds) stop.counted ∙ go (at_stop k (link n k words) proper.k_low proper.whole R).end
      where
        go : ((stopped k (link n k words) R).left ≡ none) ⊎ ((stopped k (link n k words) R).past ≡ 0 + R) → (stopped k (link n k words) R).past ≡ R
        go (inl e) = left_none (sym e ∙ stop.still)
        go (inr e) = omega arith

    -- They are fewer than the words of S; the cells counted are those of the table left, rows times columns.
    pub open_figures : Figures n k (stopped k (link n k words) R) c
    open_figures = subst (Figures n k (stopped k (link n k words) R)) (sym stop.counted) (figures (word_bytes CX stop.word))

    -- The table area begins with the table of that conjecture.
    pub open_table : (learn n k words L R table sheet).table ≡ over (table_bytes k (link n k words) (stopped k (link n k words) R)) table
    open_table = ap (λ (l : Left). l.table) stop.leaves

module _ (n k : ℕ) (words : List ℕ) (L : ℕ) (table sheet : List ℕ) (asked : learn_check n k words L 47 table sheet ≡ gives tt) where
  is_proper : Proper k (link n k words)
  is_proper = proper n k words L 47 table sheet asked

  none_left : (stopped k (link n k words) 47).left ≡ none
  unfolding lent
  none_left = rounds_enough k (link n k words) is_proper.k_low is_proper.whole 47 is_proper.n_high

  end : Outcome k (link n k words) L (stopped k (link n k words) 47) table sheet (learn n k words L 47 table sheet)
  end = ended n k words L 47 table sheet asked

  -- WITH 47 ROUNDS the learner is done or refuses with 10 ..
  pub done_or_ten : ((c : Counts) × ((learn n k words L 47 table sheet).answer ≡ gives (done c))) ⊎ ((learn n k words L 47 table sheet).answer ≡ refused 10)
  done_or_ten = go end
    where
      go : Outcome k (link n k words) L (stopped k (link n k words) 47) table sheet (learn n k words L 47 table sheet)
          → ((c : Counts) × ((learn n k words L 47 table sheet).answer ≡ gives (done c))) ⊎ ((learn n k words L 47 table sheet).answer ≡ refused 10)
      go (over_limit h l) = inr (ap (λ (l : Left). l.answer) l)
      go (is_done h f l) = inl (counts k (stopped k (link n k words) 47) (proof_bytes (sheet_of k (link n k words) 47)), ap (λ (l : Left). l.answer) l)
      go (is_open w h f l) = left_none (sym none_left ∙ f)

  -- .. and never ends open.
  pub never_open : (c : Counts) → (learn n k words L 47 table sheet).answer ≢ gives (unfinished c)
  never_open c e = left_none (sym none_left ∙ (at_open end e).still)

  -- 10 IS EXACT: it is given exactly when every complete machine that is equal to the lent one has more than L states.
  pub ten_exact : ((learn n k words L 47 table sheet).answer ≡ refused 10) ↔ ((N : Machine) → Complete k N → Equal k (link n k words) N → L < N.states)
  unfolding conjecture
  ten_exact = (
    λ e N wholeN equal. let h = (at_ten end e).0 in let f = words_few k (link n k words) is_proper.k_low is_proper.whole 47 N wholeN equal in omega arith,
    -- the conjecture is such a machine, with a state for each word of S
    λ f. let m = finish.smallest is_proper 47 none_left in ten_at end (f (conjectured k (link n k words) 47) m.complete m.equal),
  )
