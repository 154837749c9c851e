-- The checker is complete: a proof sheet for any smallest model, whatever its numbering, that the reader reads and the checker accepts. It
-- has the columns of the learner's table, a word that reaches each state, and the model's state for each machine state that words reach.
use Rattle.std.specs.Prelude.{◌≡◌, refl, ◌⊎◌, ◌≢◌, true, ℕ, zero, suc, ◌*◌, ◌/◌, ◌%◌, ◌≤◌, ◌<◌, length, get_or, ltb}
use Rattle.std.proofs.Math.Path.{sym}
use Rattle.std.proofs.Common.{ap, ◌∙◌, subst, inl, inr, not-suc-le-zero, le_of_suc-le-suc, div-add-mod', mod-lt, div-lt_iff_lt-mul, arith}
use Rattle.std.proofs.Math.Option.{none}
use Rattle.std.proofs.lemmas.List.Sums.{list_all-from_AllPass}
use mathlib.Core.List.{List, [], ◌∷◌, ◌++◌}
use Rattle.std.proofs.Math.Arith.{digits_div}
use Rattle.rules.specs.Tests.{lt_yes}
use Rattle.rules.specs.Words.{Word, Below, below_append}
use Rattle.rules.specs.Search.{walk, walk_append}
use Rattle.rules.specs.Machine.{Machine, Complete, lent, SmallestModel}
use Rattle.rules.specs.MachineLaws.{walk_low}
use Rattle.rules.specs.Listed.{Listed, listed}
use Rattle.rules.specs.Links.{stopped}
use Rattle.rules.specs.Same.{Same, words_length, words_at, read_back, same_walk, same_smallest}
use Rattle.rules.proofs.Smallest.{after_letter, each_reached, one_state, one_for_each, outputs}
use Rattle.rules.specs.StateMap.{renumbered_smallest, Reached, Unreached, reached_or_not}
use Rattle.rules.specs.Answer.{gives}
use Rattle.rules.specs.Sheets.{Proof, words_of}
use Rattle.machine.specs.Lent.{next_below}
use Rattle.learning.specs.Learner.{finished}
use Rattle.learning.specs.Proper.{Proper}
use Rattle.learning.specs.Bounds.{stop_bounds}
use Rattle.finish.specs.Sheet.{numbered_sheet}
use Rattle.learning.specs.Finished.{Entries, sheet_of}
use Rattle.learning.proofs.Finished.{tells, smallest, entries}
use Rattle.sheets.specs.Proofs.{map_byte}
use Rattle.sheets.specs.Checker.{model_of, model_state, judge}
use Rattle.sheets.specs.Seen.{Seen}
use Rattle.sheets.specs.CheckerLaws.{Step, Accepted}
use Rattle.sheets.proofs.CheckerLaws.{or_true, judged}
use Rattle.sheets.specs.SmallestSheets.{sheet_for}

-- within a list it does not matter what stands for none
any_default : (l : List ℕ) (i d e : ℕ) → i < length l → get_or l i d ≡ get_or l i e
any_default [] i d e h = absurd (not-suc-le-zero h)
any_default (x ∷ l) zero d e h = refl
any_default (x ∷ l) (suc i) d e h = any_default l i d e (le_of_suc-le-suc h)

-- the words of a complete machine have their nexts below its states
words_next : (k : ℕ) (N : Machine) → 0 < k → Complete k N → ((s a : ℕ) → s < N.states → a < k → N.out s a < 256) → next_below N.states (words_of 256 k N) ≡ true
words_next k N pos whole low =
    list_all-from_AllPass (λ (x : ℕ). ltb (x / 256) N.states) (words_of 256 k N)
    (λ i d h. rw (any_default (words_of 256 k N) i d 0 h) (lt_yes (get_or (words_of 256 k N) i 0 / 256) N.states (next i (rw (words_length 256 k N) at h))))
  where
    next : (i : ℕ) → i < N.states * k → get_or (words_of 256 k N) i 0 / 256 < N.states
    next i h =
        let s = i / k in
        let a = i % k in
        let hs : s < N.states = (div-lt_iff_lt-mul pos).1 h in
        let ha : a < k = mod-lt i pos in
        let is = ap (λ (j : ℕ). get_or (words_of 256 k N) j 0 / 256) (sym (div-add-mod' i k)) ∙ ap (λ (x : ℕ). x / 256) (words_at 256 k N s a hs ha) ∙ digits_div (N.next s a) (low s a hs ha) in
        rw is (whole.1 s a hs ha)

module _ {k : ℕ} {M N : Machine} {reaching : List Word} {states : List ℕ} (I : Proper k M) (R : ℕ) (closed : (stopped k M R).left ≡ none)
    (m : SmallestModel k M N) (X : Entries k M N reaching states) where
  abbrev P : Proof
  P = sheet_for k M (stopped k M R).E N reaching states

  low : (s a : ℕ) → s < N.states → a < k → N.out s a < 256
  low = outputs (tells I R closed N m) (λ x. x < 256) I.bytes

  pub model_same : Same k N (model_of (sheet_for k M (stopped k M R).E N reaching states))
  model_same = read_back 256 k N low

  -- a machine state has a model state below m, or 255
  map_byte_is : (s : ℕ) → s < M.states → map_byte N.states (get_or states s 255) ≡ true
  map_byte_is s h = go (reached_or_not k M I.whole s)
    where
      go : Reached k M s ⊎ Unreached k M s → map_byte N.states (get_or states s 255) ≡ true
      go (inl r) =
          let e = ap (λ (t : ℕ). get_or states t 255) (sym r.leads) ∙ X.mapped r.word r.letters in
          rw (e, lt_yes (walk N.next 0 r.word) N.states (walk_low N.states k N.next m.complete.1 0 r.word m.complete.0 r.letters))
      go (inr u) = rw (X.unmapped s h u) (or_true (ltb 255 N.states) true refl)

  -- THE READER reads it ..
  pub sheet_seen : Seen (sheet_for k M (stopped k M R).E N reaching states)
  sheet_seen =
      let b = stop_bounds I R in
      let T = tells I R closed N m in
      record {
        m_low = m.complete.0;
        m_high = omega (arith, T.few, b.words_most);
        k_low = I.k_low;
        k_high = I.k_high;
        n_low = I.whole.0;
        n_high = I.n_high;
        c_high = b.columns_most;
        model_long = words_length 256 k N;
        model_next = words_next k N I.k_low m.complete low;
        reaching_many = X.many;
        reaching_short = X.short;
        reaching_letters = X.letters;
        columns_many = refl;
        columns_long = b.column_long;
        columns_short = b.column_short;
        columns_letters = T.letters;
        map_long = X.long;
        map_bytes_pass = list_all-from_AllPass (map_byte N.states) states (λ i d h. rw (any_default states i d 255 h) (map_byte_is i (rw X.long at h)));
      }

  -- .. and the checker accepts it
  pub sheet_accepted : Accepted M.states k M (sheet_for k M (stopped k M R).E N reaching states)
  unfolding lent
  sheet_accepted = record {
    states = refl;
    letters = refl;
    reaches = λ j h. same_walk m.complete model_same 0 (get_or reaching j []) m.complete.0 (X.letters j h) ∙ X.reaches j h;
    apart = one_state (tells I R closed (model_of P) (same_smallest m model_same));
    start = X.mapped [] tt;
    steps = λ s a hs ha d. go s a hs ha d (reached_or_not k M I.whole s);
  }
    where
      after_word : (w : Word) → Below k w → model_state M P (walk M.next 0 w) ≡ walk (model_of P).next 0 w
      after_word w b = X.mapped w b ∙ sym (same_walk m.complete model_same 0 w m.complete.0 b)

      step : (w : Word) → Below k w → (a : ℕ) → a < k → Step M P (walk M.next 0 w) a
      step w b a ha = (
        after_letter k M (model_of P) (same_smallest m model_same).equal w a b ha ∙ ap (λ (j : ℕ). (model_of P).out j a) (sym (after_word w b)),
        ap (model_state M P) (sym (walk_append M.next 0 w (a ∷ []))) ∙ after_word (w ++ (a ∷ [])) (below_append k w (a ∷ []) b (ha, tt))
            ∙ walk_append (model_of P).next 0 w (a ∷ []) ∙ ap (λ (j : ℕ). (model_of P).next j a) (sym (after_word w b)),
      )

      go : (s a : ℕ) → s < M.states → a < k → model_state M P s ≢ 255 → Reached k M s ⊎ Unreached k M s → Step M P s a
      go s a hs ha d (inl r) = subst (λ (t : ℕ). Step M P t a) r.leads (step r.word r.letters a ha)
      go s a hs ha d (inr u) = absurd (d (X.unmapped s hs u))

  pub sheet_judged : judge M.states k M (sheet_for k M (stopped k M R).E N reaching states) ≡ gives tt
  sheet_judged = (judged M.states k M (sheet_for k M (stopped k M R).E N reaching states)).1 sheet_accepted

-- ---- the learner's sheet
module _ {k : ℕ} {M : Machine} (I : Proper k M) (R : ℕ) (closed : (stopped k M R).left ≡ none) where
  pub learner_seen : Seen (sheet_of k M R)
  unfolding finished numbered_sheet
  learner_seen = sheet_seen I R closed (renumbered_smallest (smallest I R closed)) (entries I R closed)

  pub learner_judged : judge M.states k M (sheet_of k M R) ≡ gives tt
  unfolding finished numbered_sheet
  learner_judged = sheet_judged I R closed (renumbered_smallest (smallest I R closed)) (entries I R closed)

-- ---- any smallest model's
module _ {k : ℕ} {M N : Machine} (I : Proper k M) (R : ℕ) (closed : (stopped k M R).left ≡ none) (m : SmallestModel k M N) where
  -- words of S that lead N to its states
  words : Listed (λ j w. (length w ≤ 47) × Below k w × (walk N.next 0 w ≡ j)) [] N.states
  words =
      listed (λ j w. (length w ≤ 47) × Below k w × (walk N.next 0 w ≡ j)) [] N.states
      (λ j h. let l = each_reached (tells I R closed N m) j h in
      (get_or (stopped k M R).S l.at [], ((stop_bounds I R).word_short l.at l.below, (tells I R closed N m).words l.at l.below, l.has)))

  -- N's states for those of M
  abbrev StateFor : ℕ → ℕ → Type 0
  StateFor s t = ((w : Word) → Below k w → walk M.next 0 w ≡ s → t ≡ walk N.next 0 w) × (Unreached k M s → t ≡ 255)

  states : Listed StateFor 255 M.states
  states = listed StateFor 255 M.states (λ s h. one s (reached_or_not k M I.whole s))
    where
      one : (s : ℕ) → Reached k M s ⊎ Unreached k M s → (t : ℕ) × StateFor s t
      one s (inl r) = (
        walk N.next 0 r.word,
        (λ w b e. one_for_each (tells I R closed N m) r.word w r.letters b (r.leads ∙ sym e), λ u. absurd (u r.word r.letters r.leads)),
      )
      one s (inr u) = (255, (λ w b e. absurd (u w b e), λ v. refl))

  any_entries : Entries k M N words.list states.list
  any_entries = record {
    many = words.long;
    short = λ j h. (words.at j h).0;
    letters = λ j h. (words.at j h).1;
    reaches = λ j h. (words.at j h).2;
    long = states.long;
    mapped = λ w b. (states.at (walk M.next 0 w) (walk_low M.states k M.next I.whole.1 0 w I.whole.0 b)).0 w b refl;
    unmapped = λ s h u. (states.at s h).1 u;
  }

  pub any_judged : (P : Proof) × Same k N (model_of P) × Seen P × (judge M.states k M P ≡ gives tt)
  any_judged = (
    sheet_for k M (stopped k M R).E N words.list states.list,
    model_same I R closed m any_entries,
    sheet_seen I R closed m any_entries,
    sheet_judged I R closed m any_entries,
  )
