-- `text::put_decimal` meets its contract: the last digit behind those of the tenth. The measure is the number. Assumes nothing.
use Rattle.text.proofs.+put_decimal.Given as goal

abbrev pub decreases-put_decimal : goal.decreases-put_decimal
decreases-put_decimal l = l.n
