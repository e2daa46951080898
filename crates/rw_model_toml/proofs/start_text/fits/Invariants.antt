use Rattle.std.proofs.Common.{◌≡◌, drop}
use Rattle.rw_model_toml.specs.StartText.{fits_forms}
use Rattle.rw_model_toml.proofs.start_text.fits.Given as goal

abbrev pub invariant-loop-place : goal.invariant-loop-place
invariant-loop-place l = fits_forms (drop l.place l.form) (drop l.place l.text) ≡ fits_forms l.form l.text
