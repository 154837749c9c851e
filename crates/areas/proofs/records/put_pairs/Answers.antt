use Rattle.std.proofs.Common.{◌≡◌, ◌+◌, ◌*◌, ℕ, List, get_or, refl, sym, ap, ◌∙◌, rules, arith, take_all}
use Rattle.rules.specs.Areas.{put, put_none}
use Rattle.rules.specs.Sheets.{pair_bytes}
use Rattle.rules.specs.SheetLaws.{pair, put_pairs_more}
use Rattle.areas.proofs.records.put_pairs.Goals as goal

pub loop-i-init : goal.loop-i-init
unfolding pair_bytes
loop-i-init c = let a = c.args in record { size = refl; pairs = sym (put_none a.at a.area.now) }

pub loop-i-preserved : goal.loop-i-preserved
loop-i-preserved c =
    let a = c.args in
    let l = c.loop-i in
    let z : 0 + l.i ≡ l.i = omega arith in record {
      size = search rules;
      pairs =
          c.put_pair.ensures
          ∙ ap (put (a.at + 2 * l.i) (pair (get_or a.words.now l.i 0))) l.invariant.pairs
          ∙ (rw z at (put_pairs_more a.at 0 l.i a.words.now a.area.now (search rules) (search rules)));
    }

pub returns : goal.returns
returns c =
    let a = c.args in
    c.loop-i.invariant.pairs ∙ ap (λ (w : List ℕ). put a.at (pair_bytes w) a.area.now) (take_all c.loop-i.i a.words.now (search rules))
