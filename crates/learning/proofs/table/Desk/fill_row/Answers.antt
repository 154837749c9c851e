use Rattle.std.proofs.Common.{List, ℕ, ◌++◌, [], get_or, refl, sym, ap, ◌∙◌, rules, take, arith}
use Rattle.rules.specs.Areas.{put, put_none}
use Rattle.rules.specs.Words.{Word}
use Rattle.rules.specs.Machine.{ask}
use Rattle.machine.specs.Linked.{linked}
use Rattle.learning.specs.Grid.{cells_from_none, put_cell}
use Rattle.learning.proofs.table.Desk.fill_row.Goals as goal

pub loop-c-init : goal.loop-c-init
loop-c-init c =
    let a = c.args in record {
      size = refl;
      word = refl;
      cells = sym (ap (λ (x : List ℕ). put a.from x a.row.now) (cells_from_none (ask (linked a.self.now.machine)) a.self.now.columns a.from (take a.len a.word.now) c.requires.from_in.0) ∙ put_none a.from a.row.now);
    }

pub loop-c-preserved : goal.loop-c-preserved
loop-c-preserved c =
    let a = c.args in
    let l = c.loop-c in
    let q = ask (linked a.self.now.machine) in record {
      size = search rules;
      word = c.ask_column.ensures.stays ∙ l.invariant.word;
      cells =
          put_cell q a.self.now.columns a.from l.c (take a.len a.word.now) c.ask_column.result l.row a.row.now (omega arith) (omega arith) (omega arith)
          (c.ask_column.ensures.value ∙ ap (λ (x : Word). q (x ++ get_or a.self.now.columns l.c [])) l.invariant.word) l.invariant.cells;
    }
