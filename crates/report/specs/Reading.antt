-- From the bytes of a machine sheet to the text: a refusal, or what the learner's answer makes of it, whose counts are small.
use Rattle.std.proofs.Math.Path.{◌≡◌, refl, sym, ap}
use Rattle.std.proofs.Common.{◌∙◌, inl, inr, mul-le-mul, arith}
use Rattle.std.specs.Prelude.{◌⊎◌, List, ℕ, ◌+◌, ◌*◌, ◌-◌, ◌≤◌, length, take}
use Rattle.std.proofs.Math.ListN.{length-replicate}
use Rattle.std.proofs.Math.Seq.{take_at}
use borrow.Author.Tests.{le-leb}
use Rattle.rules.specs.Areas.{over, zeros}
use Rattle.rules.specs.Answer.{Answer, refused, gives}
use Rattle.machine.specs.Lent.{lent_check}
use Rattle.machine.specs.LentLaws.{lent_sound, within_both}
use Rattle.learning.specs.Learner.{Counts, Learnt, done, unfinished, Left, table_size, sheet_size, learn_check, learn}
use Rattle.learning.proofs.Outcomes.{taken, at_done, ended}
use Rattle.learning.specs.Proper.{sound_proper}
use Rattle.learning.specs.Bounds.{stop_bounds}
use Rattle.learning.proofs.Finished.{sheet_most}
use Rattle.learning.proofs.Demand2.{refused_leaves, ten_when, done_bytes, done_figures, done_or_ten}
use Rattle.sheets.specs.Reading.{Parsed, bad, good}
use Rattle.sheets.specs.Machines as machines
use Rattle.sheets.specs.Machines.{Sheet, Size, machine_sheet, read_leaves, read_machine}
use Rattle.sheets.specs.MachineSteps.{sheet_were, read_leaves_is}
use Rattle.sheets.specs.WordSteps.{clash}
use Rattle.report.specs.Report.{refusal, told_of, read_told, report}
use Rattle.report.specs.ReportLaws.{Small, SmallIfDone}

-- a sheet that cannot be read is refused; one that says a machine is read as its n, its k and its words
pub sheet_refused : (bytes : List ℕ) (x : ℕ) → machine_sheet bytes ≡ bad x
    → record { answer = refused x; area = zeros 576 } ≡ read_machine bytes (zeros 576)
unfolding read_machine read_leaves
sheet_refused bytes x e = ap (λ (p : Parsed Sheet). read_leaves p (zeros 576)) (sym e)

module _ (bytes rest : List ℕ) (s : Sheet) (e : machine_sheet bytes ≡ good s rest) where
  pub sheet_read : record { answer = gives (record { n = s.n; k = s.k }); area = over s.words (zeros 576) } ≡ read_machine bytes (zeros 576)
  unfolding zeros
  sheet_read = sym (read_leaves_is bytes (zeros 576) s rest e (omega (arith, length-replicate {A = ℕ} 576 0)))

  pub sheet_words : take (s.n * s.k) (over s.words (zeros 576)) ≡ s.words
  unfolding over
  sheet_words = take_at s.words _ (s.n * s.k) (sheet_were bytes rest s e).rows.long

module _ (bytes area : List ℕ) (answer : Answer Size) (was : record { answer = answer; area = area } ≡ read_machine bytes (zeros 576)) where
  said : report bytes ≡ read_told answer area
  unfolding report
  said = ap (λ (l : machines.Left Size). read_told l.answer l.area) (sym was)

  pub refused_says : (x : ℕ) → answer ≡ refused x → report bytes ≡ refusal x
  refused_says x e = said ∙ ap (λ (a : Answer Size). read_told a area) e

  pub read_says : (s : Size) (l : Left) → answer ≡ gives s → l ≡ learn s.n s.k (take (s.n * s.k) area) 48 47 (zeros table_size) (zeros sheet_size)
      → report bytes ≡ told_of s.k l
  read_says s l e is = said ∙ ap (λ (a : Answer Size). read_told a area) e ∙ ap (told_of s.k) (sym is)

  -- n and k are in their ranges
  pub read_sized : (s : Size) → answer ≡ gives s → (s.n ≤ 48) × (1 ≤ s.k) × (s.k ≤ 12)
  unfolding read_machine zeros
  read_sized s e = go (machine_sheet bytes) refl (ap (λ (l : machines.Left Size). l.answer) was)
    where
      go : (p : Parsed Sheet) → machine_sheet bytes ≡ p → answer ≡ (read_leaves p (zeros 576)).answer → (s.n ≤ 48) × (1 ≤ s.k) × (s.k ≤ 12)
      go (bad x) is a = absurd (clash (sym a ∙ e))
      go (good sheet rest) is a =
          let r = sheet_were bytes rest sheet is in
          let n = within_both 1 48 sheet.n r.n_within in
          let k = within_both 1 12 sheet.k r.k_within in
          let same : ◌≡◌ {A = Answer Size} (gives s) (gives (record { n = sheet.n; k = sheet.k })) = sym e ∙ a in
          let size : s ≡ record { n = sheet.n; k = sheet.k } = cc in
          rw size (n.1, k.0, k.1)

-- what the learner counts when it is done is small
pub small_done : (n k : ℕ) (words : List ℕ) (L R : ℕ) (table sheet : List ℕ) (l : Left) → l ≡ learn n k words L R table sheet → SmallIfDone l.answer
small_done n k words L R table sheet l is = go (learn_check n k words L R table sheet) refl l.answer (ap (λ (l : Left). l.answer) is)
  where
    small : (c : Counts) → learn_check n k words L R table sheet ≡ gives tt → gives (done c) ≡ (learn n k words L R table sheet).answer → Small c
    small c asked e =
        let f = done_figures n k words L R table sheet asked c (sym e) in
        let s = lent_sound n k words (taken n k words L R table sheet asked).machine in
        let rows : 1 + n * k ≤ 577 = omega (arith, mul-le-mul s.n_high s.k_high) in
        let columns : k + n - 1 ≤ 59 = omega (arith, s.n_high, s.k_high) in
        let cells : (1 + n * k) * (k + n - 1) ≤ 577 * 59 = mul-le-mul rows columns in
        let closed = (at_done (ended n k words L R table sheet asked) (sym e)).closed in
        let most = sheet_most (sound_proper s) R closed in
        let bytes = done_bytes n k words L R table sheet asked c (sym e) in
        (omega (arith, f.few, s.n_high), omega (arith, f.few, f.fewer, s.n_high), omega (arith, f.most), omega arith)

    go : (a : Answer (Unit {0})) → learn_check n k words L R table sheet ≡ a → (answer : Answer Learnt) → answer ≡ (learn n k words L R table sheet).answer → SmallIfDone answer
    go (refused x) asked (refused y) e = tt
    go (refused x) asked (gives z) e = absurd (clash (sym (e ∙ ap (λ (l : Left). l.answer) (refused_leaves n k words L R table sheet x asked))))
    go (gives u) asked (refused y) e = tt
    go (gives u) asked (gives (done c)) e = small c asked e
    go (gives u) asked (gives (unfinished c)) e = tt

-- With 48 states and 47 rounds allowed, sound words are learnt: S has no more words than there are states, so 10 is never given.
module _ (n k : ℕ) (words table sheet : List ℕ) (sound : lent_check n k words ≡ gives tt) (t : table_size ≤ length table)
    (s : sheet_size ≤ length sheet) where
  asked : learn_check n k words 48 47 table sheet ≡ gives tt
  unfolding learn_check
  asked = rw (sound, le-leb table_size (length table) t, le-leb sheet_size (length sheet) s)

  abbrev said_done : Type 0
  said_done = (c : Counts) × ((learn n k words 48 47 table sheet).answer ≡ gives (done c))

  pub always_done : (learn_check n k words 48 47 table sheet ≡ gives tt) × ((c : Counts) × ((learn n k words 48 47 table sheet).answer ≡ gives (done c)))
  always_done = (asked, go (done_or_ten n k words 48 table sheet asked))
    where
      go : said_done ⊎ ((learn n k words 48 47 table sheet).answer ≡ refused 10) → said_done
      go (inl d) = d
      go (inr e) =
          let many = (ten_when n k words 48 47 table sheet asked).0 e in
          let few = (stop_bounds (sound_proper (lent_sound n k words sound)) 47).words_most in
          absurd (omega arith)
