-- From the bytes of the sheets to the verdict and to the sheet sent, step by step as the code goes.
use Rattle.std.specs.Prelude.{◌≡◌, List, ℕ, ◌*◌, ◌≤◌, length, get_or, take}
use Rattle.std.proofs.Common.{sym, ◌∙◌, subst, arith}
use Rattle.std.proofs.Math.Path.{ap}
use Rattle.rules.specs.Areas.{zeros}
use Rattle.rules.specs.Answer.{Answer, refused, gives}
use Rattle.sheets.specs.Machines.{Left, Size, read_machine}
use Rattle.sheets.specs.Places.{laid}
use Rattle.sheets.specs.Checker.{check}
use Rattle.sheets.proofs.Demand3.{accepts}
use Rattle.learning.specs.Learner as learner
use Rattle.learning.specs.Learner.{Learnt, done, unfinished, table_size, learn}
use Rattle.apart.specs.Apart as apart
use Rattle.apart.specs.ApartMeans as told
use Rattle.report.specs.ReportLaws.{SmallIfDone}
use Rattle.report.specs.Desk.{machine_refused, judged, read_judged, verdict, length_of, sending, read_sent, send, read_apart, why}

module _ (machine proof area : List ℕ) (answer : Answer Size) (was : record { answer = answer; area = area } ≡ read_machine machine (zeros 576)) where
  said : verdict machine proof ≡ read_judged answer area proof
  unfolding verdict
  said = ap (λ (l : Left Size). read_judged l.answer l.area proof) (sym was)

  pub machine_refused_is : (x : ℕ) → answer ≡ refused x → verdict machine proof ≡ machine_refused x
  machine_refused_is x e = said ∙ ap (λ (a : Answer Size). read_judged a area proof) e

  pub proof_judged : (s : Size) (a : Answer (Unit {0})) → answer ≡ gives s → a ≡ check s.n s.k (take (s.n * s.k) area) proof
      → verdict machine proof ≡ judged (get_or proof 2 0) a
  proof_judged s a e is = said ∙ ap (λ (a : Answer Size). read_judged a area proof) e ∙ ap (judged (get_or proof 2 0)) (sym is)

-- an accepted sheet has its header
pub accepted_long : (n k : ℕ) (words sheet : List ℕ) → check n k words sheet ≡ gives tt → 6 ≤ length sheet
accepted_long n k words sheet e = let a = ((accepts n k words sheet).0 e).1 in (laid sheet a.0 _ a.1).head.within

-- ---- what is sent
module _ (machine area words : List ℕ) (answer : Answer Size) (was : record { answer = answer; area = words } ≡ read_machine machine (zeros 576)) where
  sent : send machine area ≡ read_sent answer words area
  unfolding send
  sent = ap (λ (l : Left Size). read_sent l.answer l.area area) (sym was)

  pub none_sent : (x : ℕ) → answer ≡ refused x → send machine area ≡ record { answer = refused x; area = area }
  none_sent x e = sent ∙ ap (λ (a : Answer Size). read_sent a words area) e

  pub learnt_sent : (s : Size) (l : learner.Left) → answer ≡ gives s → l ≡ learn s.n s.k (take (s.n * s.k) words) 48 47 (zeros table_size) area
      → send machine area ≡ sending l
  learnt_sent s l e is = sent ∙ ap (λ (a : Answer Size). read_sent a words area) e ∙ ap sending (sym is)

-- ---- why two states are apart
module _ (machine area words : List ℕ) (s t : ℕ) (answer : Answer Size) (was : record { answer = answer; area = words } ≡ read_machine machine (zeros 576)) where
  asked : why machine s t area ≡ read_apart answer words s t area
  unfolding why
  asked = ap (λ (l : Left Size). read_apart l.answer l.area s t area) (sym was)

  pub none_asked : (x : ℕ) → answer ≡ refused x → why machine s t area ≡ record { answer = refused x; area = area }
  none_asked x e = asked ∙ ap (λ (a : Answer Size). read_apart a words s t area) e

  pub sheet_asked : (z : Size) (l : apart.Left) → answer ≡ gives z → l ≡ apart.apart z.n z.k (take (z.n * z.k) words) s t area
      → (why machine s t area ≡ l) × told.Short l.answer
  sheet_asked z l e is = (
    asked ∙ ap (λ (a : Answer Size). read_apart a words s t area) e ∙ sym is,
    subst (λ (l : apart.Left). told.Short l.answer) (sym is) (told.always_short z.n z.k (take (z.n * z.k) words) s t area),
  )

-- a sheet that is sent has at most 9,368 bytes
abbrev pub Short : Answer ℕ → Type 0
Short (refused x) = Unit {0}
Short (gives size) = size ≤ 9368

pub sent_short : (a : Answer Learnt) → SmallIfDone a → Short (length_of a)
sent_short (refused x) s = tt
sent_short (gives (done c)) s = s.3
sent_short (gives (unfinished c)) s = omega arith
