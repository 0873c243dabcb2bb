use mathlib.Core.Path.{◌∙◌}
use Rattle.formreader.proofs.close_child.Goals as goal

pub returns : goal.returns
returns c =
    let s = c.args in
    record { value = c.close_form.ensures.value; new_cells = c.close_form.ensures.new_cells ∙ rw (c.pick.ensures, c.pick-2.ensures); cells_unchanged = c.close_form.ensures.cells_unchanged }
