-- The volume on the line from one row to the next.
use Rattle.rw_table.proofs.Common.{IsAbove, IsLastOnLine, Row, arith, between, ints, negsuc, pos, refl, ℕ, ℤ, ◌*◌, ◌+ℤ◌, ◌+◌, ◌-ℤ◌, ◌/◌, ◌<ℤ◌, ◌<◌}
use Rattle.rw_table.proofs.Common.{◌≡◌, ◌≤ℤ◌, ◌≤◌}
use Rattle.rw_table.proofs.Quotient.{share_below, share_rises}

-- a number that isn't negative is a natural one
pub natural : (z : ℤ) → pos 0 ≤ℤ z → (n : ℕ) × (z ≡ pos n)
natural (pos n) h = (n, refl)
natural (negsuc n) h = absurd (omega (arith, ints))

-- how far b is from a
pub distance : (a b : ℤ) → a ≤ℤ b → (n : ℕ) × (b -ℤ a ≡ pos n)
distance a b h = natural (b -ℤ a) (omega (arith, ints))

-- the line, by distances
pub between-is : (low high : Row) (e : ℤ) (d rise run : ℕ) → e -ℤ low.0 ≡ pos d → high.1 -ℤ low.1 ≡ pos rise → high.0 -ℤ low.0 ≡ pos run
    → between low high e ≡ low.1 +ℤ pos (d * rise / run)
between-is low high e d rise run along up over = rw (along, up, over) refl

-- from its lower row to just before its higher one, the line is at or above the lower volume and below the higher
pub between_bounds : (low high : Row) (e : ℤ) → IsAbove high low → low.0 ≤ℤ e → e <ℤ high.0
    → (low.1 ≤ℤ between low high e) × (between low high e <ℤ high.1)
between_bounds low high e above from to =
    let d = distance low.0 e from in
    let rise = distance low.1 high.1 (omega (arith, ints, above.volume)) in
    let run = distance low.0 high.0 (omega (arith, ints, above.elevation)) in
    let is = between-is low high e d.0 rise.0 run.0 d.1 rise.1 run.1 in
    let below = share_below d.0 rise.0 run.0 (omega (arith, ints)) (omega (arith, ints)) in
    (omega (arith, ints), omega (arith, ints))

-- further along the line the volume is no less
pub between_rises : (low high : Row) (e later : ℤ) → IsAbove high low → low.0 ≤ℤ e → e ≤ℤ later → between low high e ≤ℤ between low high later
between_rises low high e later above from after =
    let d = distance low.0 e from in
    let l = distance low.0 later (omega (arith, ints)) in
    let rise = distance low.1 high.1 (omega (arith, ints, above.volume)) in
    let run = distance low.0 high.0 (omega (arith, ints, above.elevation)) in
    let is = between-is low high e d.0 rise.0 run.0 d.1 rise.1 run.1 in
    let is_later = between-is low high later l.0 rise.0 run.0 l.1 rise.1 run.1 in
    let more = share_rises d.0 l.0 rise.0 run.0 (omega (arith, ints)) (omega (arith, ints)) in
    omega (arith, ints)

-- at the lower row it is that row's volume
pub between_low : (low high : Row) → IsAbove high low → between low high low.0 ≡ low.1
between_low low high above =
    let rise = distance low.1 high.1 (omega (arith, ints, above.volume)) in
    let run = distance low.0 high.0 (omega (arith, ints, above.elevation)) in
    let none : low.0 -ℤ low.0 ≡ pos 0 = omega (arith, ints) in
    let is = between-is low high low.0 0 rise.0 run.0 none rise.1 run.1 in
    let zero_share : 0 * rise.0 / run.0 ≡ 0 = grind arith in
    omega (arith, ints)

-- the greatest distance at which the share is at most what s has above the lower row
pub last_on_line : (low high : Row) (s e : ℤ) (d held rise run : ℕ) → s -ℤ low.1 ≡ pos held → high.1 -ℤ low.1 ≡ pos rise → high.0 -ℤ low.0 ≡ pos run
    → e ≡ low.0 +ℤ pos d → d < run → d * rise / run ≤ held → held < (d + 1) * rise / run → IsLastOnLine low high s e
last_on_line low high s e d held rise run is_s up over is_e before within past =
    let is = between-is low high e d rise run (omega (arith, ints)) up over in
    let next = between-is low high (e +ℤ pos 1) (d + 1) rise run (omega (arith, ints)) up over in
    record {
      from_low = omega (arith, ints);
      to_high = omega (arith, ints);
      at_most = omega (arith, ints);
      last = λ _. omega (arith, ints);
    }
