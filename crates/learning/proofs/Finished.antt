-- The finished sheet of a learner that is done: what its model, its reaching words and its state map mean for the machine.
use Rattle.std.specs.Prelude.{◌≡◌, List, [], ℕ, ◌≤◌, ◌<◌, length, get_or}
use Rattle.std.proofs.Math.Path.{sym}
use Rattle.std.proofs.Common.{◌∙◌, arith}
use Rattle.std.proofs.Math.Option.{none}
use Rattle.rules.specs.Words.{Word, Below}
use Rattle.rules.specs.Search.{walk}
use Rattle.rules.specs.Machine.{Machine, ask, SmallestModel, ByLeastWords}
use Rattle.rules.specs.MachineLaws.{walk_low, ask_snoc}
use Rattle.rules.specs.Table.{conjecture}
use Rattle.rules.specs.Links.{stopped}
use Rattle.rules.proofs.Links.{at_stop, done_smallest}
use Rattle.rules.specs.Numbering.{place, order, renumbered, model_state}
use Rattle.rules.specs.NumberingLaws.{renumbered_complete, number_of, numbered}
use Rattle.rules.specs.Same.{Same, words_length, same_walk, same_smallest, same_numbered, read_back}
use Rattle.rules.specs.Smallest.{Tells}
use Rattle.rules.proofs.Smallest.{one_for_each}
use Rattle.rules.specs.StateMap.{Unreached, map_length, reaching_short, renumbered_smallest, renumbered_states, map_at, state_placed, state_unreached}
use Rattle.rules.specs.Sheets.{proof_bytes}
use Rattle.rules.specs.ProofLength.{proof_most}
use Rattle.learning.specs.Proper.{Proper}
use Rattle.learning.specs.Bounds.{stop_bounds}
use Rattle.finish.specs.Sheet.{numbered_sheet}
use Rattle.learning.specs.Learner.{finished}
use Rattle.learning.specs.Finished.{conjectured, sheet_of, model_on, Entries}

-- the conjecture puts out what the machine does
renumbered_low : (k : ℕ) (M : Machine) → ((s a : ℕ) → M.out s a < 256) → (E S : List Word) (i a : ℕ) → (renumbered k (conjecture (ask M) E S)).out i a < 256
unfolding renumbered conjecture
renumbered_low k M low E S i a =
    let w = get_or S (get_or (order k (conjecture (ask M) E S)) i 0) [] in
    rw (ask_snoc M w a) (low (walk M.next 0 w) a)

module _ {k : ℕ} {M : Machine} (I : Proper k M) (R : ℕ) (closed : (stopped k M R).left ≡ none) where
  pub smallest : SmallestModel k M (conjectured k M R)
  smallest = done_smallest k M I.k_low I.whole R closed

  -- the table at the stop, held against any smallest model
  pub tells : (N : Machine) → SmallestModel k M N → Tells k M N (stopped k M R).E (stopped k M R).S
  unfolding conjecture
  tells N m =
      let st = (at_stop k M I.k_low I.whole R).stage in
      record {
        whole = m.complete;
        equal = m.equal;
        told = st.told;
        words = st.words;
        columns = st.columns;
        letters = st.letters;
        few = m.fewest (conjectured k M R) smallest.complete smallest.equal;
      }

  -- ---- the model
  -- its words are those of the conjecture numbered anew
  model_same : Same k (renumbered k (conjectured k M R)) (model_on k (sheet_of k M R))
  unfolding finished numbered_sheet
  model_same = read_back 256 k (renumbered k (conjectured k M R)) (λ s a h ha. renumbered_low k M I.bytes (stopped k M R).E (stopped k M R).S s a)

  pub model_smallest : SmallestModel k M (model_on k (sheet_of k M R))
  model_smallest = same_smallest (renumbered_smallest smallest) model_same

  pub model_numbered : ByLeastWords k (model_on k (sheet_of k M R)) (sheet_of k M R).reaching
  unfolding finished numbered_sheet
  model_numbered = same_numbered (renumbered_complete k (conjectured k M R) smallest.complete) (numbered k (conjectured k M R) smallest.complete) model_same

  pub model_states : (sheet_of k M R).m ≡ length (stopped k M R).S
  unfolding finished numbered_sheet conjecture
  model_states = renumbered_states smallest

  -- ---- words and states
  -- a machine state's number is that of the state which the conjecture reaches, on whichever word leads there
  pub state_number : (w : Word) → Below k w → model_state k M (conjectured k M R) (walk M.next 0 w) ≡ place (order k (conjectured k M R)) (walk (conjectured k M R).next 0 w)
  state_number w b = state_placed k M I.whole (conjectured k M R) (one_for_each (tells (conjectured k M R) smallest)) w b

  pub state_none : (s : ℕ) → Unreached k M s → model_state k M (conjectured k M R) s ≡ 255
  state_none s u = state_unreached k M I.whole (conjectured k M R) s u

  pub entries : Entries k M (renumbered k (conjectured k M R)) (sheet_of k M R).reaching (sheet_of k M R).state_map
  unfolding finished numbered_sheet
  entries =
      let C = conjectured k M R in
      let by = numbered k C smallest.complete in
      record {
        many = by.all;
        short = λ j h. omega (arith, reaching_short k C smallest.complete j h, model_states, (stop_bounds I R).words_most);
        letters = by.letters;
        reaches = by.reaches;
        long = map_length k M I.whole C;
        mapped = λ w b. map_at k M I.whole C (walk M.next 0 w) (walk_low M.states k M.next I.whole.1 0 w I.whole.0 b) ∙ state_number w b ∙ sym (number_of k C smallest.complete w b);
        unmapped = λ s h u. map_at k M I.whole C s h ∙ state_none s u;
      }

  -- THE STATE MAP as it stands on the sheet
  pub map_reached : (w : Word) → Below k w → get_or (sheet_of k M R).state_map (walk M.next 0 w) 255 ≡ walk (model_on k (sheet_of k M R)).next 0 w
  map_reached w b =
      let whole = renumbered_complete k (conjectured k M R) smallest.complete in
      entries.mapped w b ∙ sym (same_walk whole model_same 0 w whole.0 b)

  pub map_unreached : (s : ℕ) → s < M.states → Unreached k M s → get_or (sheet_of k M R).state_map s 255 ≡ 255
  map_unreached = entries.unmapped

  -- ---- its bytes are at most 9,368
  pub sheet_most : length (proof_bytes (sheet_of k M R)) ≤ 9368
  unfolding finished numbered_sheet
  sheet_most =
      let b = stop_bounds I R in
      let X = entries in
      proof_most (sheet_of k M R) (omega (arith, model_states, b.words_most)) I.k_high (words_length 256 k (renumbered k (conjectured k M R))) X.many X.short b.columns_most b.column_short
      (omega (arith, X.long, I.n_high))
