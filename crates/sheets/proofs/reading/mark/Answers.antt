use Rattle.std.proofs.Common.{rules, ◌≡◌, ◌≢◌, ◌∷◌, [], ◌-◌, length, take, drop, get_or, ap, sym, ◌∙◌, take_all, arith, length-drop}
use Rattle.sheets.specs.Steps.{two, mark_short, mark_same, mark_other}
use Rattle.sheets.proofs.reading.mark.Goals as goal

pub returns-in_default : goal.returns-in_default
returns-in_default c = rw (mark_short _ _ c.in_default.len_below)

pub returns-then-ne : goal.returns-then-ne
returns-then-ne c =
    let a = c.args in
    let b = a.bytes.now in
    let front : take 2 b ≡ (get_or b 0 0 ∷ get_or b 1 0 ∷ []) = ap (take 2) (two b 0 c.in-len2-up.len_at_least) in
    let d : (get_or b 0 0 ∷ get_or b 1 0 ∷ []) ≢ a.due.now = search rules in
    rw (mark_other a.due.now b c.in-len2-up.len_at_least (λ e. d (sym front ∙ e)))

pub returns : goal.returns
returns c =
    let a = c.args in
    let b = a.bytes.now in
    let front : take 2 b ≡ (get_or b 0 0 ∷ get_or b 1 0 ∷ []) = ap (take 2) (two b 0 c.in-len2-up.len_at_least) in
    let e : (get_or b 0 0 ∷ get_or b 1 0 ∷ []) ≡ a.due.now = search rules in
    rw (mark_same a.due.now b c.in-len2-up.len_at_least (front ∙ e), take_all (length b - 2) (drop 2 b) (omega (arith, length-drop 2 b)))
