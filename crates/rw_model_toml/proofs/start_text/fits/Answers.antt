use Rattle.std.proofs.Common.{sym}
use Rattle.rw_model_toml.proofs.Forms.{fits-lengths}
use Rattle.rw_model_toml.proofs.start_text.fits.Goals as goal

pub returns-then-form-text : goal.returns-then-form-text
returns-then-form-text c = sym (fits-lengths _ _ c.if-form-text.true)
