-- The order of dispatches that a word names.
use Rattle.std.specs.Prelude.{codes, Option, Some, None, if◌then◌else◌}
use Rattle.std.specs.Str.{bytes_eq}
use Rattle.rw_words.specs.Job.{Text}
use Rattle.rw_words.specs.declared.order.Order.{Order}
use Rattle.rw_words.specs.declared.order.Order.TheVariants.{Oldest, Newest}

abbrev pub order_named : Text → Option Order
order_named word =
    if bytes_eq word (codes "oldest") then Some Oldest
    else if bytes_eq word (codes "newest") then Some Newest
    else None

-- the oldest first where there is no word
abbrev pub order_or_oldest : Option Text → Option Order
order_or_oldest None = Some Oldest
order_or_oldest (Some word) = order_named word
