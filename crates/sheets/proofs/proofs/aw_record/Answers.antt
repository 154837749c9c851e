use Rattle.std.proofs.Common.{rules, ◌≡◌, ◌+◌, ◌-◌, ◌≤◌, ℕ, length, get_or, take, drop, refl, sym, ap, ◌∙◌, arith}
use Rattle.sheets.specs.Places.{aw_refused, aw_none, aw_found}
use Rattle.sheets.proofs.proofs.aw_record.Goals as goal

pub returns-in_default : goal.returns-in_default
returns-in_default c =
    let z = aw_refused c.args.sheet.now c.args.state _ (sym c.in_default.ensures) in
    record { result_value = sym z.0; ref_ptr_value = (refl, rw z.1 (search rules)) }

pub returns-then-counts-state : goal.returns-then-counts-state
returns-then-counts-state c =
    let z = aw_none c.args.sheet.now _ c.args.state (sym c.in-Ok.ensures) c.if-counts-state.true in
    record { result_value = sym z.0; ref_ptr_value = (refl, rw z.1 (search rules)) }

pub reaching-requires : goal.reaching-requires
reaching-requires c =
    let t = aw_found c.args.sheet.now _ c.args.state (sym c.in-Ok.ensures) c.if-counts-state.false in
    (t.ranges.m_high, t.ranges.k_high)

pub record_place-at-requires : goal.record_place-at-requires
record_place-at-requires c =
    let t = aw_found c.args.sheet.now _ c.args.state (sym c.in-Ok.ensures) c.if-counts-state.false in
    rw c.reaching.ensures (omega (arith, t.is, t.within))

pub overflow_add-end : goal.overflow_add-end
overflow_add-end c =
    let t = aw_found c.args.sheet.now _ c.args.state (sym c.in-Ok.ensures) c.if-counts-state.false in
    let at = (rw c.reaching.ensures at c.record_place-at.ensures) ∙ t.is in
    rw at (let w = t.within in search rules)

pub word_at-requires : goal.word_at-requires
word_at-requires c =
    let t = aw_found c.args.sheet.now _ c.args.state (sym c.in-Ok.ensures) c.if-counts-state.false in
    let at = (rw c.reaching.ensures at c.record_place-at.ensures) ∙ t.is in
    rw at t.within

pub overflow_add-end-2 : goal.overflow_add-end-2
overflow_add-end-2 c =
    let t = aw_found c.args.sheet.now _ c.args.state (sym c.in-Ok.ensures) c.if-counts-state.false in
    let at = (rw c.reaching.ensures at c.record_place-at.ensures) ∙ t.is in
    rw (c.word_at.ensures.size, at) (let w = t.within in search rules)

pub slice_bounds-result-end-2 : goal.slice_bounds-result-end-2
slice_bounds-result-end-2 c =
    let t = aw_found c.args.sheet.now _ c.args.state (sym c.in-Ok.ensures) c.if-counts-state.false in
    let at = (rw c.reaching.ensures at c.record_place-at.ensures) ∙ t.is in
    let p = c.record_place-at.result in
    let w : p + (3 + get_or c.args.sheet.now (p + 2) 0) ≤ length c.args.sheet.now = rw at t.within in
    omega (arith, c.word_at.ensures.size)

pub returns : goal.returns
returns c =
    let s = c.args.sheet in
    let t = aw_found s.now _ c.args.state (sym c.in-Ok.ensures) c.if-counts-state.false in
    let at = (rw c.reaching.ensures at c.record_place-at.ensures) ∙ t.is in
    let p = c.record_place-at.result in
    let n : p + 3 + length c.word_at.result.now - p ≡ 3 + get_or s.now (p + 2) 0 = omega (arith, c.word_at.ensures.size) in record {
      result_value = ap (λ (i : ℕ). take i (drop p s.now)) n ∙ rw at t.part;
      ref_ptr_value = (refl, ap (λ (i : ℕ). i + s.ref_ptr.1) at);
    }
