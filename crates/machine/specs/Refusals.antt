-- Document 01, 'Refusal numbers': the number of each refusal. No two have the same.
use Rattle.std.specs.Prelude.{◌≡◌, refl, [], ◌∷◌, ℕ, get_or}
use Rattle.std.proofs.Common.{sym, ap, ◌∙◌}
use Rattle.machine.specs.declared.refusal.Refusal.{Refusal}
use Rattle.machine.specs.declared.refusal.Refusal.TheVariants.{EndsEarly, WrongMark, OutOfRange, NoSuchState, LeftOver, BadWord, BadLimit, SmallArea, SmallSheet, OverLimit, OtherSize, NotReached, NotApart, WrongMap}

abbrev pub number : Refusal → ℕ
number EndsEarly = 1
number WrongMark = 2
number OutOfRange = 3
number NoSuchState = 4
number LeftOver = 5
number BadWord = 6
number BadLimit = 7
number SmallArea = 8
number SmallSheet = 9
number OverLimit = 10
number OtherSize = 11
number NotReached = 12
number NotApart = 13
number WrongMap = 14

-- the refusal with a number
abbrev named : ℕ → Refusal
named x =
    get_or (EndsEarly ∷ EndsEarly ∷ WrongMark ∷ OutOfRange ∷ NoSuchState ∷ LeftOver ∷ BadWord ∷ BadLimit ∷ SmallArea ∷ SmallSheet ∷ OverLimit ∷ OtherSize ∷ NotReached ∷ NotApart ∷ WrongMap ∷ []) x EndsEarly

named_number : (r : Refusal) → named (number r) ≡ r
named_number EndsEarly = refl
named_number WrongMark = refl
named_number OutOfRange = refl
named_number NoSuchState = refl
named_number LeftOver = refl
named_number BadWord = refl
named_number BadLimit = refl
named_number SmallArea = refl
named_number SmallSheet = refl
named_number OverLimit = refl
named_number OtherSize = refl
named_number NotReached = refl
named_number NotApart = refl
named_number WrongMap = refl

pub number_inj : (r s : Refusal) → number r ≡ number s → r ≡ s
number_inj r s e = sym (named_number r) ∙ ap named e ∙ named_number s
