use Rattle.std.proofs.Common.{◌≡◌, ◌<◌, ◌≤◌, ◌+◌, ◌-◌, ◌++◌, ◌∷◌, [], ℕ, List, suc, length, get_or, set, refl, sym, ap, ◌∙◌, arith, length-append, length-set, append-nil, append_assoc}
use Rattle.std.proofs.Math.Path.{ap₂}
use Rattle.rules.specs.Words.{Word}
use Rattle.rules.specs.Areas.{put, put_none}
use Rattle.search.specs.Queue.{count_is, place_is, within, word_at, Earlier, word_start, word_step, word_longer, put_before}
use Rattle.search.proofs.queue.Queue.spell.Goals as goal
use Rattle.search.proofs.queue.Queue.spell.Goals.{In-loop-q}

-- the word has its room
room : (c : In-loop-q) → c.args.at + length (word_at c.self.inside.parent c.self.inside.letter c.args.p) ≤ length c.args.into.now
room c =
    let s = c.self.inside in
    rw (ap (λ e. e.word) (place_is s.nodes s.parent s.letter s.count _ c.self.view_is c.args.p c.requires.there)) c.requires.room

-- a turn steps back to an earlier place and by one letter
turn : (c : In-loop-q) → let s = c.self.inside in let l = c.loop-q in let q = get_or s.parent l.q 0 in
    (l.q < 2304) × (q < l.q) × (l.i ≡ suc (c.args.at + length (word_at s.parent s.letter q))) × (l.i ≤ length c.args.into.now) × Earlier s.parent (suc l.q)
turn c =
    let s = c.self.inside in
    let l = c.loop-q in
    let used : l.q < s.count = omega (arith, count_is s.nodes s.parent s.letter s.count _ c.self.view_is, c.requires.there, l.invariant.back) in
    let F : Earlier s.parent (suc l.q) = λ q h u. c.self.invariant.earlier q h (omega arith) in (
      omega (arith, within c.self.invariant),
      F l.q c.loop-q-test.true (omega arith),
      omega (arith, l.invariant.left, word_longer s.parent s.letter l.q F c.loop-q-test.true),
      omega (arith, l.invariant.left, room c, ap length l.invariant.word, length-append (word_at s.parent s.letter l.q) l.invariant.rest),
      F,
    )

pub loop-q-init : goal.loop-q-init
loop-q-init c =
    let s = c.self.inside in
    let word = word_at s.parent s.letter c.args.p in
    let is = ap (λ e. length e.word) (place_is s.nodes s.parent s.letter s.count _ c.self.view_is c.args.p c.requires.there) in record {
      back = omega arith;
      size = refl;
      left = omega (arith, is, c.depth.ensures);
      rest = [];
      word = sym (append-nil word);
      put = sym (put_none _ c.args.into.now);
    }

pub overflow_sub-i : goal.overflow_sub-i
overflow_sub-i c = omega (arith, (turn c).2)

pub bounds-self-inside-q : goal.bounds-self-inside-q
bounds-self-inside-q c = (turn (goal.at.bounds-self-inside-q c).In-loop-q).0

pub bounds-into-i : goal.bounds-into-i
bounds-into-i c = let t = turn (goal.at.bounds-into-i c).In-loop-q in omega (arith, t.2, t.3)

pub offset_bounds-self-inside-q : goal.offset_bounds-self-inside-q
offset_bounds-self-inside-q c = omega (arith, (turn (goal.at.offset_bounds-self-inside-q c).In-loop-q).0)

pub bounds-self-inside-q-in-loop-q : goal.bounds-self-inside-q-in-loop-q
bounds-self-inside-q-in-loop-q c = (turn (goal.at.bounds-self-inside-q-in-loop-q c).In-loop-q).0

pub loop-q-smaller : goal.loop-q-smaller
loop-q-smaller c = omega (arith, (turn (goal.at.loop-q-smaller c).In-loop-q).1, c.from-q.ensures)

pub loop-q-preserved : goal.loop-q-preserved
loop-q-preserved c =
    let s = c.self.inside in
    let l = c.loop-q in
    let t = turn (goal.at.loop-q-preserved c).In-loop-q in
    let v = get_or s.letter l.q 0 in
    let z : l.i ≡ suc (l.i - 1) = omega (arith, t.2) in record {
      back = omega (arith, t.1, c.from-q.ensures, l.invariant.back);
      size = simp length-set l.invariant.size;
      left = rw c.from-q.ensures (omega (arith, t.2));
      rest = v ∷ l.invariant.rest;
      word = rw c.from-q.ensures
          (l.invariant.word ∙ ap (λ (w : Word). w ++ l.invariant.rest) (word_step s.parent s.letter l.q t.4 c.loop-q-test.true)
          ∙ append_assoc (word_at s.parent s.letter (get_or s.parent l.q 0)) (v ∷ []) l.invariant.rest);
      put = ap (λ (x : List ℕ). set x (l.i - 1) v) (l.invariant.put ∙ ap (λ (j : ℕ). put j l.invariant.rest c.args.into.now) z)
          ∙ put_before (l.i - 1) v l.invariant.rest c.args.into.now (omega (arith, t.2, t.3));
    }

pub returns-clause-into_after : goal.returns-clause-into_after
returns-clause-into_after c =
    let s = c.self.inside in
    let l = c.loop-q in
    let z : l.q ≡ 0 = omega (arith, c.loop-q-test.false) in
    let start = ap (word_at s.parent s.letter) z ∙ word_start s.parent s.letter in
    let rest : word_at s.parent s.letter c.args.p ≡ l.invariant.rest = l.invariant.word ∙ ap (λ (w : Word). w ++ l.invariant.rest) start in
    let i : l.i ≡ c.args.at = omega (arith, l.invariant.left, ap length start) in
    let is = ap (λ e. e.word) (place_is s.nodes s.parent s.letter s.count _ c.self.view_is c.args.p c.requires.there) in
    l.invariant.put ∙ ap₂ (λ (j : ℕ) (w : Word). put j w c.args.into.now) i (sym rest ∙ is)
