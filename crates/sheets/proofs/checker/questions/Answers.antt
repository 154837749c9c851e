use Rattle.std.proofs.Common.{◌≡◌, ℕ, ◌-◌, List, length, take, drop, refl, sym, ap, ◌∙◌}
use Rattle.std.specs.Prelude.{Bool}
use Rattle.rules.specs.Answer.{gives}
use Rattle.machine.specs.declared.lent.Lent.{Lent}
use Rattle.machine.specs.Linked.{linked}
use Rattle.sheets.specs.declared.checker.Sheet.{Sheet}
use Rattle.sheets.specs.Proofs.{read_proof}
use Rattle.sheets.specs.ProofParts.{counts}
use Rattle.sheets.specs.Checker.{reaches_all, all_apart, map_holds}
use Rattle.sheets.specs.CheckerSteps.{mapped}
use Rattle.sheets.specs.Held.{Held, said, map_is, read_letters, read_as}
use Rattle.sheets.proofs.CheckerSteps.{reaches_alone, apart_alone, mapping, map_same, judge_same}
use Rattle.sheets.proofs.checker.questions.Goals as goal

-- the sheet's letters and states are the machine's
module _ (m : Lent) (s : Sheet) (same : (s.counts.n ≡ m.n) × (s.counts.k ≡ m.k)) where
  letters : s.model.k ≡ m.k
  letters = sym (read_letters s.held _ s.read) ∙ same.1

  held : Held s.bytes.now s.model.words.now s.model.n m.k
  held = rw letters at s.held

  read : read_proof s.bytes.now ≡ gives (counts s.model.n m.k m.n s.counts.c)
  read = rw (letters, same.0) at (read_as s.held _ s.read)

  -- 12 and 13 come out for the machine as they do for the model
  reached : (t : Bool) → t ≡ reaches_all (linked s.model) (said s.bytes.now) → reaches_all (linked m) (said s.bytes.now) ≡ t
  reached t e = reaches_alone _ _ _ ∙ sym e

  apart : (t : Bool) → t ≡ all_apart (linked s.model) (said s.bytes.now) → all_apart (linked m) (said s.bytes.now) ≡ t
  apart t e = apart_alone _ _ _ ∙ sym e

  -- 14 is asked of the sheet's last bytes, which are the map
  held_map : (t : Bool) → t ≡ map_holds (linked m) (mapped m.n m.k s.model.n s.model.words.now (take (length s.bytes.now - (length s.bytes.now - m.n)) (drop (length s.bytes.now - m.n) s.bytes.now)))
      → map_holds (linked m) (said s.bytes.now) ≡ t
  held_map t e =
      map_same held read (linked m)
      ∙ sym (e ∙ ap (λ (map : List ℕ). map_holds (linked m) (mapped m.n m.k s.model.n s.model.words.now map)) (map_is held read).1)

pub returns-then-not-reaches_all : goal.returns-then-not-reaches_all
returns-then-not-reaches_all c =
    let m = c.args.machine.now in
    let s = c.args.sheet.now in
    let p = c.requires.same in
    sym (judge_same (held m s p) (read m s p) (linked m) ∙ rw (reached m s p _ c.reaches_all.ensures, c.if-not-reaches_all.true) refl)

pub returns-then-not-all_apart : goal.returns-then-not-all_apart
returns-then-not-all_apart c =
    let m = c.args.machine.now in
    let s = c.args.sheet.now in
    let p = c.requires.same in
    sym (judge_same (held m s p) (read m s p) (linked m)
    ∙ rw (reached m s p _ c.reaches_all.ensures, c.if-not-reaches_all.false, apart m s p _ c.all_apart.ensures, c.if-not-all_apart.true) refl)

pub overflow_sub-mapped : goal.overflow_sub-mapped
overflow_sub-mapped c =
    let m = c.args.machine.now in
    let s = c.args.sheet.now in
    let p = c.requires.same in
    (map_is (held m s p) (read m s p)).0

pub invariant_of-mapped : goal.invariant_of-mapped
invariant_of-mapped c =
    let m = c.args.machine.now in
    let s = c.args.sheet.now in
    let p = c.requires.same in
    record { mapping = rw (map_is (held m s p) (read m s p)).1 (mapping (held m s p) (read m s p) c.requires.sound); letters = letters m s p }

pub returns-then-not-holds : goal.returns-then-not-holds
returns-then-not-holds c =
    let m = c.args.machine.now in
    let s = c.args.sheet.now in
    let p = c.requires.same in
    sym (judge_same (held m s p) (read m s p) (linked m)
    ∙ rw (reached m s p _ c.reaches_all.ensures, c.if-not-reaches_all.false, apart m s p _ c.all_apart.ensures, c.if-not-all_apart.false, held_map m s p _ c.holds.ensures, c.if-not-holds.true) refl)

pub returns : goal.returns
returns c =
    let m = c.args.machine.now in
    let s = c.args.sheet.now in
    let p = c.requires.same in
    sym (judge_same (held m s p) (read m s p) (linked m)
    ∙ rw (reached m s p _ c.reaches_all.ensures, c.if-not-reaches_all.false, apart m s p _ c.all_apart.ensures, c.if-not-all_apart.false, held_map m s p _ c.holds.ensures, c.if-not-holds.false) refl)
