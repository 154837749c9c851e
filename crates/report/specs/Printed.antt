-- What the program `learn` prints means: its lines are those of a smallest model of the machine on the sheet.
use Rattle.std.specs.Prelude.{◌≡◌, ◌⊎◌, get_or}
use Rattle.std.proofs.Math.Path.{refl, ap, ap₂, subst}
use Rattle.std.proofs.Common.{sym, ◌∙◌, inl, inr, div-lt_iff_lt-mul, mod-lt, arith}
use mathlib.Core.List.{List, [], ◌++◌}
use Prim.Native.Nat.{ℕ, zero, suc, ◌+◌, ◌*◌, ◌/◌, ◌%◌, ◌≤◌, ◌<◌}
use Rattle.std.proofs.Math.Nat.{suc-mul, mul-le-mul_right}
use Rattle.std.proofs.Math.ListN.{length, get_or-append}
use Rattle.std.proofs.lemmas.List.{length-replicate}
use Rattle.rules.specs.Words.{Below, below_at}
use Rattle.rules.specs.Machine.{Machine, lent, SmallestModel, ByLeastWords}
use Rattle.rules.specs.Links.{stopped}
use Rattle.rules.specs.Sheets.{Proof, machine_bytes, proof_bytes}
use Rattle.rules.specs.Areas.{over, zeros}
use Rattle.rules.specs.Answer.{Answer, gives}
use Rattle.machine.specs.Lent.{link, lent_check}
use Rattle.machine.specs.LentLaws.{lent_sound}
use Rattle.finish.specs.Sheet.{numbered_sheet}
use Rattle.learning.specs.Learner.{Counts, Learnt, table_size, sheet_size, finished, learn}
use Rattle.learning.proofs.Outcomes.{at_done, ended}
use Rattle.learning.specs.Proper.{sound_proper}
use Rattle.learning.specs.Finished.{sheet_of, model_on}
use Rattle.learning.specs.Demand2.{Figures}
use Rattle.learning.proofs.Demand2.{done_sheet, done_model, done_numbered, done_states, done_figures}
use Rattle.sheets.specs.Reading.{Parsed, bad, good}
use Rattle.sheets.specs.Machines.{Sheet, machine_sheet}
use Rattle.sheets.specs.MachineLaws.{written_reads, read_was}
use Rattle.sheets.specs.Places.{laid, model_at}
use Rattle.sheets.specs.Seen.{Seen}
use Rattle.sheets.specs.SeenLaws.{seen_reads, seen_bytes}
use Rattle.sheets.proofs.SmallestSheets.{learner_seen}
use Rattle.report.specs.Report.{line, model_mark, refusal, pair_line, pair_lines, model, told, told_of, report}
use Rattle.report.specs.Reading.{sheet_refused, sheet_read, sheet_words, refused_says, read_says, always_done}

-- ---- the text of a machine N over k letters
-- state, letter, output and next: the line of the step number i
unfoldable pub step_line : ℕ → Machine → ℕ → List ℕ
unfolding line
step_line k N i = line (i / k) (i % k) (N.out (i / k) (i % k)) (N.next (i / k) (i % k))

-- the first of them, state by state and letter by letter
unfoldable pub step_lines : ℕ → Machine → ℕ → List ℕ
unfolding step_line
step_lines k N zero = []
step_lines k N (suc i) = step_lines k N i ++ step_line k N i

-- states, letters, rounds and cells; then all of them
unfoldable pub model_text : ℕ → Machine → Counts → List ℕ
unfolding line step_lines
model_text k N c = model_mark ++ (line N.states k c.rounds c.cells ++ step_lines k N (N.states * k))

-- ---- the pairs on a sheet are the steps of its model
module _ (P : Proof) (seen : Seen P) (area : List ℕ) where
  abbrev sheet : List ℕ
  sheet = over (proof_bytes P) area

  -- the two bytes of a step lie on the sheet, and they are its output and its next state
  step_at : (s a : ℕ) → s < P.m → a < P.k → let at = 6 + (s * (2 + 2 * P.k) + (2 + 2 * a)) in
      (get_or sheet at 0 ≡ (model_on P.k P).out s a) × (get_or sheet (at + 1) 0 ≡ (model_on P.k P).next s a)
  unfolding over lent
  step_at s a hs ha =
      let reads = seen_reads P seen in
      let at = 6 + (s * (2 + 2 * P.k) + (2 + 2 * a)) in
      let start = (laid (proof_bytes P) P [] reads).start in
      let rows = mul-le-mul_right {m = suc s} {n = P.m} (2 + 2 * P.k) hs in
      let h : at + 1 < length (proof_bytes P) = omega (arith, suc-mul s (2 + 2 * P.k)) in
      let output = below_at 256 (proof_bytes P) at (seen_bytes P seen) (omega arith) in
      let word = model_at (proof_bytes P) P [] reads s a hs ha in (
        get_or-append (proof_bytes P) _ 0 at (omega arith) ∙ rw word (omega arith),
        get_or-append (proof_bytes P) _ 0 (at + 1) h ∙ rw word (omega arith),
      )

  lines_same : (i : ℕ) → i ≤ P.m * P.k → pair_lines P.k sheet i ≡ step_lines P.k (model_on P.k P) i
  unfolding pair_lines step_lines pair_line step_line
  lines_same zero h = refl
  lines_same (suc i) h =
      let k = P.k in
      let b = step_at (i / k) (i % k) ((div-lt_iff_lt-mul seen.k_low).1 h) (mod-lt i seen.k_low) in
      ap₂ (λ (x y : List ℕ). x ++ y) (lines_same i (omega arith)) (ap₂ (λ (x y : ℕ). line (i / k) (i % k) x y) b.0 b.1)

  model_same : (k : ℕ) → P.k ≡ k → (c : Counts) → c.states ≡ P.m → model k c sheet ≡ model_text k (model_on k P) c
  unfolding model model_text lent
  model_same k e c is =
      subst (λ (k : ℕ). model k c sheet ≡ model_text k (model_on k P) c) e
      (ap (λ (m : ℕ). model_mark ++ (line m P.k c.rounds c.cells ++ pair_lines P.k sheet (m * P.k))) is
      ∙ ap (λ (l : List ℕ). model_mark ++ (line P.m P.k c.rounds c.cells ++ l)) (lines_same (P.m * P.k) (omega arith)))

sheet_letters : (k : ℕ) (M : Machine) (R : ℕ) → (sheet_of k M R).k ≡ k
unfolding finished numbered_sheet
sheet_letters k M R = refl

-- ---- what is printed
-- the proof sheet of a lent machine, and the model on it
abbrev pub sheet_for : ℕ → ℕ → List ℕ → Proof
sheet_for n k words = sheet_of k (link n k words) 47

abbrev pub model_for : ℕ → ℕ → List ℕ → Machine
model_for n k words = model_on k (sheet_for n k words)

-- A text is the one of a machine N, `model_for`: a line with `model`, the states of N, the letters, the rounds and the cells; then for each state
-- and each letter of N, in order, a line with state, letter, output and next.
pub record Printed (n k : ℕ) (words text : List ℕ) : Type 0 where
  pub counts : Counts
  pub is : text ≡ model_text k (model_for n k words) counts
  -- N is a smallest model of the machine,
  pub smallest : SmallestModel k (link n k words) (model_for n k words)
  -- its states are numbered by the least words that reach them,
  pub numbered : ByLeastWords k (model_for n k words) (sheet_for n k words).reaching
  -- and the rounds and the cells are those of the table where the rounds stop
  pub figures : Figures n k (stopped k (link n k words) 47) counts

-- PRINTED. For the sheet of each machine within the limits `learn` prints the text of such a model ..
pub printed : (n k : ℕ) (words : List ℕ) → lent_check n k words ≡ gives tt → Printed n k words (report (machine_bytes n k words))
unfolding zeros
printed n k words sound =
    let bytes = machine_bytes n k words in
    let s : Sheet = record { n = n; k = k; words = words } in
    let reads = written_reads n k words sound in
    let table = zeros table_size in
    let area = zeros sheet_size in
    let left = learn n k words 48 47 table area in
    let room = length-replicate {A = ℕ} table_size 0 in
    let a = always_done n k words table area sound (omega arith) (omega (arith, length-replicate {A = ℕ} sheet_size 0)) in
    let asked = a.0 in
    let c = a.1.0 in
    let done = a.1.1 in
    let closed = (at_done (ended n k words 48 47 table area asked) done).closed in
    let seen = learner_seen (sound_proper (lent_sound n k words sound)) 47 closed in
    let same = ap (λ (w : List ℕ). learn n k w 48 47 table area) (sym (sheet_words bytes [] s reads)) in
    let says : report bytes ≡ told_of k left = read_says bytes _ _ (sheet_read bytes [] s reads) _ left refl same in
    record {
      counts = c;
      is =
          says ∙ ap₂ (λ (answer : Answer Learnt) (sheet : List ℕ). told k answer sheet) done (done_sheet n k words 48 47 table area asked c done)
          ∙ model_same (sheet_for n k words) seen area k (sheet_letters k (link n k words) 47) c (done_states n k words 48 47 table area asked c done);
      smallest = done_model n k words 48 47 table area asked c done;
      numbered = done_numbered n k words 48 47 table area asked c done;
      figures = done_figures n k words 48 47 table area asked c done;
    }

-- .. and so it is with all bytes: a sheet that cannot be read has a refusal's line, with the reader's number, and each other one says a
-- machine, whose text this is.
pub all_printed : (bytes : List ℕ) → Below 256 bytes
    → ((x : ℕ) × (machine_sheet bytes ≡ bad x) × (report bytes ≡ refusal x))
    ⊎ ((s : Sheet) × (machine_sheet bytes ≡ good s []) × Printed s.n s.k s.words (report bytes))
all_printed bytes b = go (machine_sheet bytes) refl
  where
    go : (p : Parsed Sheet) → machine_sheet bytes ≡ p
        → ((x : ℕ) × (machine_sheet bytes ≡ bad x) × (report bytes ≡ refusal x))
        ⊎ ((s : Sheet) × (machine_sheet bytes ≡ good s []) × Printed s.n s.k s.words (report bytes))
    go (bad x) e = inl (x, e, refused_says bytes _ _ (sheet_refused bytes x e) x refl)
    go (good s rest) e =
        let was = read_was bytes rest s b e in
        let text = printed s.n s.k s.words was.2 in
        inr (s, e ∙ ap (good s) was.0, subst (λ (bytes : List ℕ). Printed s.n s.k s.words (report bytes)) (sym was.1) text)
