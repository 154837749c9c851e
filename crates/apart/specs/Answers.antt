-- The operation's answer in the paper's terms, and that its promise fixes it: two answers that meet it are equal, and so are the areas.
use Rattle.std.specs.Prelude.{◌≡◌, refl, List, ℕ, Option, Some, None, Result}
use Rattle.std.proofs.Common.{sym, ap, ◌∙◌}
use Rattle.std.proofs.Math.Option.{none, some}
use Rattle.std.proofs.Math.Option as paper
use Rattle.rules.specs.Answer.{Answer, refused, gives}
use Rattle.machine.specs.declared.refusal.Refusal.{Refusal}
use Rattle.machine.specs.Answers.{answer, answer_fixed}
use Rattle.apart.specs.declared.Told as code
use Rattle.apart.specs.Apart.{Told, Left, apart}

abbrev pub told_of : code.Told → Told
told_of x = record { length = x.length; first = x.first; second = x.second }

abbrev pub told_if : Option code.Told → paper.Option Told
told_if None = none
told_if (Some x) = some (told_of x)

abbrev pub why_of : Result (Option code.Told) Refusal → Answer (paper.Option Told)
why_of r = answer told_if r

-- what is told, where something is
abbrev pub told_in : Answer (paper.Option Told) → Told
told_in (refused x) = record { length = 0; first = 0; second = 0 }
told_in (gives none) = record { length = 0; first = 0; second = 0 }
told_in (gives (some x)) = x

told_same : {l l' f f' s s' : ℕ} → l ≡ l' → f ≡ f' → s ≡ s' → ◌≡◌ {A = code.Told} (record { length = l; first = f; second = s }) (record { length = l'; first = f'; second = s' })
told_same p q r = rw (p, q, r)

told_if_fixed : (x y : Option code.Told) → told_if x ≡ told_if y → x ≡ y
told_if_fixed None None e = refl
told_if_fixed None (Some y) e = cc
told_if_fixed (Some x) None e = cc
told_if_fixed (Some x) (Some y) e =
    let same = ap (λ (o : paper.Option Told). told_in (gives o)) e in
    ap Some (told_same (ap (λ (t : Told). t.length) same) (ap (λ (t : Told). t.first) same) (ap (λ (t : Told). t.second) same))

-- an answer x and the area a after it, promised to be what is left
abbrev pub Promise : Left → Result (Option code.Told) Refusal → List ℕ → Type 0
Promise l x a = record { answer = why_of x; area = a } ≡ l

pub left_fixed : (l : Left) (x y : Result (Option code.Told) Refusal) (a b : List ℕ) → Promise l x a → Promise l y b → (x ≡ y) × (a ≡ b)
left_fixed l x y a b p q =
    let e = p ∙ sym q in
    (answer_fixed told_if told_if_fixed x y (ap (λ (l : Left). l.answer) e), ap (λ (l : Left). l.area) e)

pub why_apart_fixed : (n k : ℕ) (words : List ℕ) (s t : ℕ) (area : List ℕ) (x y : Result (Option code.Told) Refusal) (a b : List ℕ)
    → Promise (apart n k words s t area) x a → Promise (apart n k words s t area) y b → (x ≡ y) × (a ≡ b)
why_apart_fixed n k words s t area = left_fixed (apart n k words s t area)
