-- The three ways in which the learner ends once it is not refused at the door: 10, Done and Open.
use Rattle.std.specs.Prelude.{◌≡◌, refl, Bool, true, false, ◌&&◌, List, ℕ, ◌<◌, length, leb}
use Rattle.std.proofs.Common.{sym, ap, ap₂, ◌∙◌, subst, arith, leb-false}
use Rattle.std.proofs.Math.Option.{Option, none, some}
use Rattle.rules.specs.Tests.{and_split, leb_yes}
use Rattle.rules.specs.Words.{Word}
use Rattle.rules.specs.Machine.{Machine}
use Rattle.rules.specs.Rounds.{Stop}
use Rattle.rules.specs.Links.{stopped}
use Rattle.rules.specs.Answer.{Answer, refused, gives, within}
use Rattle.machine.specs.Lent.{link, lent_check}
use Rattle.machine.specs.LentLaws.{both, demanded, last_demanded, within_both}
use Rattle.learning.specs.Learner.{Counts, Learnt, done, unfinished, Left, table_size, sheet_size, learn_check, stop_leaves, learn_leaves, learn}
use Rattle.learning.specs.Outcomes.{Taken, ten_leaves, done_leaves, open_leaves, Outcome, AtDone, AtOpen, over_limit, is_done, is_open}

pub taken : (n k : ℕ) (words : List ℕ) (L R : ℕ) (table sheet : List ℕ) → learn_check n k words L R table sheet ≡ gives tt → Taken n k words L R table sheet
unfolding learn_check
taken n k words L R table sheet e =
    let a = demanded (within 1 48 L && leb R 47) 7 _ tt e in
    let b = both (lent_check n k words) _ a.1 in
    let c = demanded (leb table_size (length table)) 8 _ tt b.1 in
    let d = last_demanded (leb sheet_size (length sheet)) 9 c.1 in
    let r = and_split (within 1 48 L) (leb R 47) a.0 in
    record {
      limit_low = (within_both 1 48 L r.0).0;
      limit_high = (within_both 1 48 L r.0).1;
      rounds_high = leb_yes R 47 r.1;
      machine = b.0;
      table_long = leb_yes table_size (length table) c.0;
      sheet_long = leb_yes sheet_size (length sheet) d;
    }

pub learn_leaves_stop : (n k : ℕ) (words : List ℕ) (L R : ℕ) (table sheet : List ℕ) → learn_check n k words L R table sheet ≡ gives tt
    → learn n k words L R table sheet ≡ stop_leaves k (link n k words) L (stopped k (link n k words) R) table sheet
unfolding learn learn_leaves
learn_leaves_stop n k words L R table sheet e = ap (λ (a : Answer (Unit {0})). learn_leaves a n k words L R table sheet) e

-- of three, the one that the test and the counterexample say
abbrev either : Bool → Option Word → Left → Left → (Word → Left) → Left
either b o ten finish cut = elim b [ false ↦ ten | true ↦ elim o [ none ↦ finish | some w ↦ cut w ] ]

pub outcome : (k : ℕ) (M : Machine) (L : ℕ) (x : Stop) (table sheet : List ℕ) → Outcome k M L x table sheet (stop_leaves k M L x table sheet)
unfolding stop_leaves
outcome k M L x table sheet = go (leb (length x.S) L) refl x.left refl
  where
    leaves : Bool → Option Word → Left
    leaves b o = either b o (ten_leaves table sheet) (done_leaves k M x table sheet) (λ w. open_leaves k M x w table sheet)

    go : (b : Bool) → leb (length x.S) L ≡ b → (o : Option Word) → x.left ≡ o → Outcome k M L x table sheet (stop_leaves k M L x table sheet)
    go false e o f = over_limit (leb-false (length x.S) L e) (ap₂ leaves e f)
    go true e none f = is_done (leb_yes (length x.S) L e) f (ap₂ leaves e f)
    go true e (some w) f = is_open w (leb_yes (length x.S) L e) f (ap₂ leaves e f)

-- ---- what each answer says of the stop
-- answers that exclude each other
ten_done : {A : Type 0} {c : Counts} → ◌≡◌ {A = Answer Learnt} (refused 10) (gives (done c)) → A
ten_done e = let z : ◌≡◌ {A = ℕ} 0 1 = cc in absurd (omega arith)

ten_open : {A : Type 0} {c : Counts} → ◌≡◌ {A = Answer Learnt} (refused 10) (gives (unfinished c)) → A
ten_open e = let z : ◌≡◌ {A = ℕ} 0 1 = cc in absurd (omega arith)

done_open : {A : Type 0} {c d : Counts} → ◌≡◌ {A = Answer Learnt} (gives (done c)) (gives (unfinished d)) → A
done_open e = let z : ◌≡◌ {A = ℕ} 0 1 = cc in absurd (omega arith)

module _ {k : ℕ} {M : Machine} {L : ℕ} {x : Stop} {table sheet : List ℕ} {left : Left} where
  pub at_ten : Outcome k M L x table sheet left → left.answer ≡ refused 10 → (L < length x.S) × (left ≡ ten_leaves table sheet)
  at_ten (over_limit h l) e = (h, l)
  at_ten (is_done h f l) e = ten_done (sym e ∙ ap (λ (y : Left). y.answer) l)
  at_ten (is_open w h f l) e = ten_open (sym e ∙ ap (λ (y : Left). y.answer) l)

  pub ten_at : Outcome k M L x table sheet left → L < length x.S → left.answer ≡ refused 10
  ten_at (over_limit h l) m = ap (λ (y : Left). y.answer) l
  ten_at (is_done h f l) m = absurd (omega arith)
  ten_at (is_open w h f l) m = absurd (omega arith)

  pub at_done : {c : Counts} → Outcome k M L x table sheet left → left.answer ≡ gives (done c) → AtDone k M L x table sheet c left
  at_done (over_limit h l) e = ten_done (sym (ap (λ (y : Left). y.answer) l) ∙ e)
  at_done (is_done h f l) e = let a = sym e ∙ ap (λ (y : Left). y.answer) l in record { few = h; closed = f; leaves = l; counted = cc }
  at_done (is_open w h f l) e = done_open (sym e ∙ ap (λ (y : Left). y.answer) l)

  pub at_open : {c : Counts} → Outcome k M L x table sheet left → left.answer ≡ gives (unfinished c) → AtOpen k M L x table sheet c left
  at_open (over_limit h l) e = ten_open (sym (ap (λ (y : Left). y.answer) l) ∙ e)
  at_open (is_done h f l) e = done_open (sym (ap (λ (y : Left). y.answer) l) ∙ e)
  at_open (is_open w h f l) e = let a = sym e ∙ ap (λ (y : Left). y.answer) l in record { word = w; few = h; still = f; leaves = l; counted = cc }

pub ended : (n k : ℕ) (words : List ℕ) (L R : ℕ) (table sheet : List ℕ) → learn_check n k words L R table sheet ≡ gives tt
    → Outcome k (link n k words) L (stopped k (link n k words) R) table sheet (learn n k words L R table sheet)
ended n k words L R table sheet e =
    let M = link n k words in
    subst (Outcome k M L (stopped k M R) table sheet) (sym (learn_leaves_stop n k words L R table sheet e)) (outcome k M L (stopped k M R) table sheet)
