-- `take_row` meets its contract. What is lent is words.
use Rattle.closure.proofs.take_row.Goals as goal

pub take_in-requires : goal.take_in-requires
take_in-requires c = (c.requires.0, c.requires.1, λ i. (c.slice_known-1.given i).fits)
