-- `text::width` meets its contract: a number of more than one digit has one more than its tenth. The measure is the number. Assumes nothing.
use Rattle.text.proofs.+width.Given as goal

abbrev pub decreases-width : goal.decreases-width
decreases-width l = l.n
