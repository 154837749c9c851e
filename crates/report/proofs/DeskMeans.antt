-- What the desk programs' answers mean: theorems about `verdict` and `send`.
use Rattle.std.specs.Prelude.{◌≡◌, refl, ℕ, ◌≤◌, length, get_or, take}
use Rattle.std.proofs.Common.{sym, ◌∙◌, arith}
use Rattle.std.proofs.Math.Path.{ap}
use mathlib.Core.List.{List, []}
use Rattle.std.proofs.lemmas.List.{length-replicate}
use Rattle.rules.specs.Words.{Below}
use Rattle.rules.specs.Machine.{lent, SmallestModel}
use Rattle.rules.specs.Sheets.{Proof, machine_bytes, proof_bytes}
use Rattle.rules.specs.Areas.{zeros}
use Rattle.rules.specs.Answer.{Answer, refused, gives}
use Rattle.machine.specs.Lent.{link, lent_check}
use Rattle.learning.specs.Learner.{table_size, sheet_size, learn}
use Rattle.learning.specs.Finished.{sheet_of, model_on}
use Rattle.sheets.specs.Reading.{Parsed, bad, good}
use Rattle.sheets.specs.Machines.{Sheet, Left, machine_sheet}
use Rattle.sheets.specs.MachineSteps.{sheet_were}
use Rattle.sheets.specs.MachineLaws.{written_reads}
use Rattle.sheets.specs.Proofs.{Counts, proof_sheet}
use Rattle.sheets.specs.Places.{laid}
use Rattle.sheets.specs.Checker.{model_of, check}
use Rattle.sheets.proofs.Demand3 as checker
use Rattle.report.specs.Desk.{accepted, machine_refused, judged, verdict, length_of, sending, send}
use Rattle.report.specs.Reading.{sheet_refused, sheet_read, sheet_words, always_done}
use Rattle.report.specs.DeskLaws.{machine_refused_is, proof_judged, learnt_sent}

-- a machine sheet that cannot be read is refused as the reader does; else the verdict is the checker's, of the machine that it says
bad_says : (machine proof : List ℕ) (x : ℕ) → machine_sheet machine ≡ bad x → verdict machine proof ≡ machine_refused x
bad_says machine proof x e = machine_refused_is machine proof _ _ (sheet_refused machine x e) x refl

good_says : (machine proof rest : List ℕ) (s : Sheet) → machine_sheet machine ≡ good s rest
    → verdict machine proof ≡ judged (get_or proof 2 0) (check s.n s.k s.words proof)
good_says machine proof rest s e =
    proof_judged machine proof _ _ (sheet_read machine rest s e) _ _ refl refl
    ∙ ap (λ (words : List ℕ). judged (get_or proof 2 0) (check s.n s.k words proof)) (sheet_words machine rest s e)

-- what the checker accepts is accepted, with the number after the mark
pub accepts : (machine proof rest : List ℕ) (s : Sheet) → machine_sheet machine ≡ good s rest → check s.n s.k s.words proof ≡ gives tt
    → verdict machine proof ≡ accepted (get_or proof 2 0)
accepts machine proof rest s e a = good_says machine proof rest s e ∙ ap (judged (get_or proof 2 0)) a

-- and nothing else is
was_judged : (a : Answer (Unit {0})) (x m : ℕ) → judged x a ≡ accepted m → (a ≡ gives tt) × (x ≡ m)
was_judged (refused y) x m e = let z : ◌≡◌ {A = ℕ} 0 1 = cc in absurd (omega arith)
was_judged (gives u) x m e = (refl, cc)

module _ (machine proof : List ℕ) (m : ℕ) (is : verdict machine proof ≡ accepted m) where
  was_accepted : (s : Sheet) × (machine_sheet machine ≡ good s []) × (check s.n s.k s.words proof ≡ gives tt) × (get_or proof 2 0 ≡ m)
  was_accepted = go (machine_sheet machine) refl
    where
      go : (p : Parsed Sheet) → machine_sheet machine ≡ p
          → (s : Sheet) × (machine_sheet machine ≡ good s []) × (check s.n s.k s.words proof ≡ gives tt) × (get_or proof 2 0 ≡ m)
      go (bad x) e = let q = sym (bad_says machine proof x e) ∙ is in let z : ◌≡◌ {A = ℕ} 0 1 = cc in absurd (omega arith)
      go (good s rest) e =
          let j = was_judged (check s.n s.k s.words proof) (get_or proof 2 0) m (sym (good_says machine proof rest s e) ∙ is) in
          (s, e ∙ ap (good s) (sheet_were machine rest s e).ends, j.0, j.1)

  -- ACCEPTED m: the machine sheet says a machine, and the proof sheet a model with m states that is a smallest model of it.
  pub accepted_smallest : Below 256 proof
      → (s : Sheet) × (machine_sheet machine ≡ good s [])
      × ((P : Proof) × (proof_sheet proof ≡ good P []) × ((model_of P).states ≡ m) × SmallestModel s.k (link s.n s.k s.words) (model_of P))
  unfolding lent
  accepted_smallest b =
      let a = was_accepted in
      let s = a.0 in
      let p = checker.accepted_smallest s.n s.k s.words proof b a.2 in
      (s, a.1, (p.0, p.1, ap (λ (h : Counts). h.m) (laid proof p.0 [] p.1).said ∙ a.3, p.2))

-- SENT. For the sheet of each machine within the limits `proof` sends a sheet, which the checker accepts for that machine; and so does
-- `accept`, with the number of the model's states.
pub sent_accepted : (n k : ℕ) (words area : List ℕ) → lent_check n k words ≡ gives tt → sheet_size ≤ length area
    → let l = send (machine_bytes n k words) area in
    (size : ℕ) × (l.answer ≡ gives size) × (check n k words (take size l.area) ≡ gives tt)
    × (verdict (machine_bytes n k words) (take size l.area) ≡ accepted (model_on k (sheet_of k (link n k words) 47)).states)
unfolding proof_bytes lent zeros
sent_accepted n k words area sound room =
    let s : Sheet = record { n = n; k = k; words = words } in
    let reads = written_reads n k words sound in
    let left = learn n k words 48 47 (zeros table_size) area in
    let a = always_done n k words (zeros table_size) area sound (omega (arith, length-replicate {A = ℕ} table_size 0)) room in
    let c = a.1.0 in
    let is = a.1.1 in
    let sent : send (machine_bytes n k words) area ≡ sending left =
    learnt_sent (machine_bytes n k words) area _ _ (sheet_read (machine_bytes n k words) [] s reads) _ _ refl
    (ap (λ (w : List ℕ). learn n k w 48 47 (zeros table_size) area) (sym (sheet_words (machine_bytes n k words) [] s reads))) in
    let there : take c.bytes (send (machine_bytes n k words) area).area ≡ proof_bytes (sheet_of k (link n k words) 47) =
    ap (λ (l : Left ℕ). take c.bytes l.area) sent ∙ checker.learner_left n k words 48 47 (zeros table_size) area c is in
    let judged = checker.learner_accepted n k words 48 47 (zeros table_size) area c is in (
      c.bytes,
      ap (λ (l : Left ℕ). l.answer) sent ∙ ap length_of is,
      ap (check n k words) there ∙ judged,
      ap (verdict (machine_bytes n k words)) there ∙ accepts (machine_bytes n k words) (proof_bytes (sheet_of k (link n k words) 47)) [] s reads judged,
    )
