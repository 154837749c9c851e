-- What the checker's answers mean: theorems about `check`, for all lent words and all sheets. The machine is `link n k words`; a sheet that is
-- read as P has the model `model_of P`.
use Rattle.std.specs.Prelude.{◌≡◌, refl, ◌↔◌, ℕ, ◌≤◌, length, take}
use Rattle.std.proofs.Common.{sym, ap, ◌∙◌, subst, arith}
use Rattle.std.proofs.Math.Path.{ap₂}
use mathlib.Core.List.{List, []}
use Rattle.std.proofs.Math.Seq.{take-append_seam}
use Rattle.rules.specs.Words.{Word, Below}
use Rattle.rules.specs.Machine.{Machine, Complete, lent, answer, SmallestModel}
use Rattle.rules.proofs.Links.{rounds_enough}
use Rattle.rules.specs.Same.{Same}
use Rattle.rules.specs.Sheets.{Proof, proof_bytes}
use Rattle.rules.specs.Areas.{over}
use Rattle.rules.specs.Answer.{Answer, refused, gives}
use Rattle.machine.specs.Lent.{link, lent_check}
use Rattle.machine.specs.LentLaws.{both, lent_sound}
use Rattle.learning.specs.Learner.{Counts, done, learn_check, learn_leaves, learn}
use Rattle.learning.proofs.Outcomes.{taken, at_done, ended}
use Rattle.learning.specs.Proper.{Proper, sound_proper}
use Rattle.learning.specs.Finished.{sheet_of}
use Rattle.learning.proofs.Demand2.{done_sheet, done_bytes}
use Rattle.sheets.specs.Reading.{Parsed, bad, good}
use Rattle.sheets.specs.Proofs.{proof_sheet}
use Rattle.sheets.specs.ProofLaws.{read_ends}
use Rattle.sheets.specs.Checker.{model_of, judge, judge_sheet, check}
use Rattle.sheets.specs.Seen.{Seen}
use Rattle.sheets.specs.SeenLaws.{read_seen, seen_reads, seen_bytes, seen_most}
use Rattle.sheets.proofs.CheckerLaws as laws
use Rattle.sheets.specs.CheckerLaws.{Accepted}
use Rattle.sheets.proofs.CheckerLaws.{judged}
use Rattle.sheets.proofs.SmallestSheets.{learner_seen, learner_judged, any_judged}

proper : (n k : ℕ) (words : List ℕ) → lent_check n k words ≡ gives tt → Proper k (link n k words)
proper n k words t = sound_proper (lent_sound n k words t)

-- a sheet that is read as P is judged as P
read_judged_is : (n k : ℕ) (words sheet rest : List ℕ) (P : Proof) → lent_check n k words ≡ gives tt → proof_sheet sheet ≡ good P rest
    → check n k words sheet ≡ judge n k (link n k words) P
unfolding check
read_judged_is n k words sheet rest P t e = rw (t, e)

-- whatever is accepted was read and judged so
was_read : (n k : ℕ) (words sheet : List ℕ) → check n k words sheet ≡ gives tt
    → (lent_check n k words ≡ gives tt) × ((P : Proof) × (proof_sheet sheet ≡ good P []) × (judge n k (link n k words) P ≡ gives tt))
unfolding check
was_read n k words sheet e = let a = both (lent_check n k words) _ e in (a.0, read (proof_sheet sheet) refl a.1)
  where
    read : (p : Parsed Proof) → proof_sheet sheet ≡ p → judge_sheet n k (link n k words) p ≡ gives tt
        → (P : Proof) × (proof_sheet sheet ≡ good P []) × (judge n k (link n k words) P ≡ gives tt)
    read (bad x) q e = let z : ◌≡◌ {A = ℕ} 0 1 = cc in absurd (omega arith)
    read (good P rest) q e = (P, q ∙ ap (good P) (read_ends sheet P rest q), e)

-- ACCEPTED is exactly a sheet that is read to its end, held against a machine within the limits, of which the four questions hold.
pub accepts : (n k : ℕ) (words sheet : List ℕ)
    → (check n k words sheet ≡ gives tt) ↔ ((lent_check n k words ≡ gives tt) × ((P : Proof) × (proof_sheet sheet ≡ good P []) × Accepted n k (link n k words) P))
accepts n k words sheet = (
  λ e. let r = was_read n k words sheet e in (r.0, (r.1.0, r.1.1, (judged n k (link n k words) r.1.0).0 r.1.2)),
  λ r. read_judged_is n k words sheet [] r.1.0 r.0 r.1.1 ∙ (judged n k (link n k words) r.1.0).1 r.1.2,
)

module _ (n k : ℕ) (words sheet : List ℕ) (bytes : Below 256 sheet) (accepted : check n k words sheet ≡ gives tt) where
  -- SOUND. Whatever bytes are accepted are a sheet whose model is a smallest model of the machine ..
  pub accepted_smallest : (P : Proof) × (proof_sheet sheet ≡ good P []) × SmallestModel k (link n k words) (model_of P)
  unfolding lent
  accepted_smallest =
      let r = was_read n k words sheet accepted in
      (r.1.0, r.1.1, laws.sound (read_seen sheet [] r.1.0 bytes r.1.1) (proper n k words r.0).whole r.1.2)

  module _ (P : Proof) (rest : List ℕ) (read : proof_sheet sheet ≡ good P rest) where
    smallest : SmallestModel k (link n k words) (model_of P)
    smallest =
        let a = accepted_smallest in
        let same : a.0 ≡ P = let q = sym a.1 ∙ read in cc in
        subst (λ (Q : Proof). SmallestModel k (link n k words) (model_of Q)) same a.2

    -- .. that is: the model that is read from them answers every word as the machine does,
    pub accepted_equal : (w : Word) → Below k w → answer (link n k words) w ≡ answer (model_of P) w
    accepted_equal = smallest.equal

    -- and no complete machine over the same letters with fewer states does.
    pub accepted_fewest : (N : Machine) → Complete k N → ((w : Word) → Below k w → answer (link n k words) w ≡ answer N w) → P.m ≤ N.states
    unfolding lent
    accepted_fewest = smallest.fewest

-- what has been seen to and judged is accepted as it is written
written_accepted : (n k : ℕ) (words : List ℕ) (P : Proof) → lent_check n k words ≡ gives tt → Seen P → judge n k (link n k words) P ≡ gives tt → check n k words (proof_bytes P) ≡ gives tt
written_accepted n k words P t s e = read_judged_is n k words (proof_bytes P) [] P t (seen_reads P s) ∙ e

-- a learner that is done was not refused at the door
asked : (n k : ℕ) (words : List ℕ) (L R : ℕ) (table sheet : List ℕ) (c : Counts) → (learn n k words L R table sheet).answer ≡ gives (done c) → learn_check n k words L R table sheet ≡ gives tt
unfolding learn learn_leaves
asked n k words L R table sheet c is = go (learn_check n k words L R table sheet) is
  where
    go : (a : Answer (Unit {0})) → (learn_leaves a n k words L R table sheet).answer ≡ gives (done c) → a ≡ gives tt
    go (refused x) e = let z : ◌≡◌ {A = ℕ} 0 1 = cc in absurd (omega arith)
    go (gives u) e = refl

module _ (n k : ℕ) (words : List ℕ) (L R : ℕ) (table sheet : List ℕ) (c : Counts) (is : (learn n k words L R table sheet).answer ≡ gives (done c)) where
  -- COMPLETE. The sheet of a learner that is done is accepted.
  pub learner_accepted : check n k words (proof_bytes (sheet_of k (link n k words) R)) ≡ gives tt
  unfolding lent
  learner_accepted =
      let a = asked n k words L R table sheet c is in
      let t = (taken n k words L R table sheet a).machine in
      let closed = (at_done (ended n k words L R table sheet a) is).closed in
      let I = proper n k words t in
      written_accepted n k words (sheet_of k (link n k words) R) t (learner_seen I R closed) (learner_judged I R closed)

  -- It is what the learner leaves at the start of the sheet area, as many bytes as it says;
  pub learner_left : take c.bytes (learn n k words L R table sheet).sheet ≡ proof_bytes (sheet_of k (link n k words) R)
  unfolding over
  learner_left =
      let a = asked n k words L R table sheet c is in
      ap₂ (take {A = ℕ}) (done_bytes n k words L R table sheet a c is) (done_sheet n k words L R table sheet a c is) ∙ take-append_seam (proof_bytes (sheet_of k (link n k words) R)) _

  -- so these bytes are accepted.
  pub left_accepted : check n k words (take c.bytes (learn n k words L R table sheet).sheet) ≡ gives tt
  left_accepted = ap (check n k words) learner_left ∙ learner_accepted

-- Each smallest model N of a machine within the limits, whatever its numbering, has a sheet of at most 9,368 bytes that is accepted: it is
-- read as one on which N's states, nexts and outputs stand.
pub every_smallest_accepted : (n k : ℕ) (words : List ℕ) → lent_check n k words ≡ gives tt → (N : Machine) → SmallestModel k (link n k words) N
    → (sheet : List ℕ) × Below 256 sheet × (length sheet ≤ 9368) × (check n k words sheet ≡ gives tt)
    × ((P : Proof) × (proof_sheet sheet ≡ good P []) × Same k N (model_of P))
unfolding lent
every_smallest_accepted n k words t N m =
    let I = proper n k words t in
    let a = any_judged I 47 (rounds_enough k (link n k words) I.k_low I.whole 47 I.n_high) m in
    let P = a.0 in
    let s = a.2 in
    (proof_bytes P, seen_bytes P s, seen_most P s, written_accepted n k words P t s a.3, (P, seen_reads P s, a.1))
