use Rattle.std.proofs.Common.{◌≡◌, ◌+◌, ◌++◌, [], length, take, get_or, ap, ◌∙◌, arith}
use Rattle.rules.specs.Areas.{put_front, put_keeps}
use Rattle.rules.specs.Words.{Word}
use Rattle.rules.specs.Machine.{ask}
use Rattle.machine.specs.Linked.{linked}
use Rattle.learning.specs.Grid.{letters_append}
use Rattle.learning.proofs.table.Desk.ask_column.Goals as goal
use Rattle.learning.proofs.table.Desk.ask_column.Goals.{After-put_letters}

-- up to the end stand the letters and the column
joined : (c : After-put_letters) → let a = c.args in take (a.len + length c.word-column.result.now) c.put_letters.new.area ≡ take a.len a.word.now ++ get_or a.self.now.columns a.c []
joined c =
    let a = c.args in
    let w = c.word-column.result.now in
    ap (take (a.len + length w)) c.put_letters.ensures ∙ put_front a.len w a.word.now (omega (arith, c.word-column.ensures.short))
    ∙ ap (λ (x : Word). take a.len a.word.now ++ x) c.word-column.ensures.word

pub last_output-requires : goal.last_output-requires
last_output-requires c =
    let a = c.args in
    rw (joined (goal.at.last_output-requires c).After-put_letters)
    (letters_append a.self.now.machine.k (take a.len a.word.now) (get_or a.self.now.columns a.c []) c.requires.letters (a.self.now.laid.column_letters a.c c.requires.there))

pub returns : goal.returns
returns c =
    let a = c.args in record {
      value = c.last_output.ensures ∙ ap (ask (linked a.self.now.machine)) (joined (goal.at.returns c).After-put_letters);
      stays = ap (take a.len) c.put_letters.ensures ∙ put_keeps a.len c.word-column.result.now a.word.now (omega arith);
    }
