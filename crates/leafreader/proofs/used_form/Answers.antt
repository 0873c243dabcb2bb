use Rattle.grammar.specs.Syntax.{used}
use Rattle.itemreader.specs.Answers.{pool_of, same}
use Rattle.leafreader.specs.Forms.{begun_of}
use Rattle.leafreader.proofs.used_form.Goals as goal

pub returns-clause-form_read : goal.returns-clause-form_read
returns-clause-form_read c =
    let s = c.args in
    λ a h R b f sh vs. c.item_form.ensures.item_form a R b (used (pool_of s.pool)) same s.at (c.read_used-item.ensures.reads a h R b) (begun_of s.n) s.cells.now vs vs f (λ k. sh s.n k s.cells.now vs)
