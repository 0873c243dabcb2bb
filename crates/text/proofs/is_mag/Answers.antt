use Rattle.text.proofs.Decimals.{is_mag-at}
use Rattle.text.proofs.is_mag.Goals as goal

pub returns : goal.returns
returns c =
    rw (c.byte-b.ensures, c.all_digits.ensures) (is_mag-at c.args.book.now c.args.at c.args.end c.requires.0 c.requires.1)
