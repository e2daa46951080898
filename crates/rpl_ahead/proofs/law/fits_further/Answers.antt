use Rattle.rpl_ahead.proofs.Blocks.{fits_further}
use Rattle.rpl_ahead.proofs.law.fits_further.Goals as goal

pub returns : goal.returns
returns c = fits_further
