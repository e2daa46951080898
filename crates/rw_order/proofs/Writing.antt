-- What puts leave in cells.
use Rattle.rw_order.proofs.Common.{AllByRecursion, Asked, Bool, ByObject, Cell, Cells, Content, Decides-int_eq, Denied, Draft, Event, IsFault, Kept}
use Rattle.rw_order.proofs.Common.{List, None, Option, Some, [], ap, ap₂, arith, both_ways, denied_by, end_in, end_of_put, false, filter_passes, find}
use Rattle.rw_order.proofs.Common.{if◌then◌else◌, int_eq, is_same_object, is_shared, is_written, judged, last_put, nat_le, nat_tests, none-some}
use Rattle.rw_order.proofs.Common.{option_map, option_or, or_fault, put, puts_written, recursion_from_All, refl, same_Some, subst, sym, true}
use Rattle.rw_order.proofs.Common.{value_in, ℕ, ℤ, ◌==◌, ◌∙◌, ◌∷◌, ◌≡◌}
use Rattle.rw_order.proofs.Lists.{all_kept}
use Rattle.rw_base.proofs.Lists.{both_all, weaker_all}

-- what one has in a cell has the value that stands there in the other
abbrev pub AreBelow : Cells → Cells → Type 0
AreBelow low high = (cell : Cell) (content : Content) → low cell ≡ Some content → value_in high cell ≡ Some content.value

-- contents stay
abbrev pub Grow : Cells → Cells → Type 0
Grow old new = (cell : Cell) (content : Content) → old cell ≡ Some content → new cell ≡ Some content

pub grow_below : (old new : Cells) → Grow old new → AreBelow old new
grow_below old new grow cell content is = ap (option_map (λ (c : Content). c.value)) (grow cell content is)

-- all numbers are 0
abbrev pub HaveZeros : Cells → Type 0
HaveZeros cells = (cell : Cell) (content : Content) → cells cell ≡ Some content → content.number ≡ 0

-- cells that share their value hold the same content
abbrev pub AreShared : Draft → Cells → Type 0
AreShared basin cells = (cell other : Cell) → is_shared basin cell other ≡ true → cells cell ≡ cells other

-- the value of each put stands in its cell
abbrev pub HeldIn : Cells → List Asked → Type 0
HeldIn cells puts = AllByRecursion (λ (put : Asked). value_in cells put.cell ≡ Some put.content.value) puts

-- what stands in a cell once these were written
abbrev pub after_puts : Draft → Cells → List Asked → Cells
after_puts basin cells written cell = option_or (last_put basin written cell) (cells cell)

-- ---- the put that a cell has its content from

pub record IsLast (basin : Draft) (P : Asked → Type 0) (cell : Cell) (content : Content) : Type 0 where
  pub put : Asked
  pub is : P put
  pub shares : is_shared basin put.cell cell ≡ true
  pub same : put.content ≡ content

last_by : (basin : Draft) (P : Asked → Type 0) (put : Asked) (cell : Cell) (content : Content) (later : Option Content) (test : Bool)
    → is_shared basin put.cell cell ≡ test
    → P put → ((c : Content) → later ≡ Some c → IsLast basin P cell c) → option_or later (if test then Some put.content else None) ≡ Some content
    → IsLast basin P cell content
last_by basin P put cell content (Some c) test shares is more e = subst (IsLast basin P cell) (same_Some _ _ e) (more c refl)
last_by basin P put cell content None true shares is more e = record { put = put; is = is; shares = shares; same = same_Some _ _ e }
last_by basin P put cell content None false shares is more e = absurd (none-some _ e)

pub last_of : (basin : Draft) (P : Asked → Type 0) (puts : List Asked) (cell : Cell) (content : Content) → AllByRecursion P puts
    → last_put basin puts cell ≡ Some content
    → IsLast basin P cell content
last_of basin P [] cell content all e = absurd (none-some _ e)
last_of basin P (put ∷ puts) cell content all e =
    last_by basin P put cell content (last_put basin puts cell) (is_shared basin put.cell cell) refl all.0
    (λ c later. last_of basin P puts cell c all.1 later) e

-- what stands in a cell afterwards was put just now, or stood there
pub either_by : {X : Type 0} → (new old : Option Content) (content : Content) → option_or new old ≡ Some content → (new ≡ Some content → X)
    → (new ≡ None → old ≡ Some content → X) → X
either_by (Some c) old content e f g = f e
either_by None old content e f g = g refl e

pub stays_below : (basin : Draft) (low high : Cells) (written : List Asked) → AreShared basin high → AreBelow low high → HeldIn high written
    → AreBelow (after_puts basin low written) high
stays_below basin low high written shared below held cell content is =
    either_by (last_put basin written cell) (low cell) content is
    (λ put.
    let last = last_of basin (λ (p : Asked). value_in high p.cell ≡ Some p.content.value) written cell content held put in
    sym (ap (option_map (λ (c : Content). c.value)) (shared last.put.cell cell last.shares)) ∙ last.is ∙ ap (λ (c : Content). Some c.value) last.same)
    (λ none stood. below cell content stood)

-- ---- a put to a cell that holds its value already, with priority 0

same_kept : (held new : Content) → held.value ≡ new.value → held.number ≡ 0 → end_of_put (Some held) new ≡ Kept
same_kept held new same zero_number =
    let values : int_eq held.value new.value ≡ true = (Decides-int_eq held.value new.value).1 same in
    let numbers : nat_le held.number new.number ≡ true = grind (arith, nat_tests, zero_number) in
    rw (values, numbers) refl

passes : (low high : Cells) (put : Asked) (found : Option Content) → low put.cell ≡ found → HaveZeros low → AreBelow low high
    → value_in high put.cell ≡ Some put.content.value → denied_by (end_of_put found put.content) put ≡ None
passes low high put None is zeros below stands = refl
passes low high put (Some held) is zeros below stands =
    let same : held.value ≡ put.content.value = same_Some _ _ (sym (below put.cell held is) ∙ stands) in
    ap (λ end. denied_by end put) (same_kept held put.content same (zeros put.cell held is))

-- none is denied
abbrev pub AllPass : Cells → List Asked → Type 0
AllPass cells puts = AllByRecursion (λ (put : Asked). denied_by (end_in cells put) put ≡ None) puts

pub all_pass_rest : (cells : Cells) (object : ℕ) (puts : List Asked) (rest : Event) → AllPass cells puts → judged cells object puts rest ≡ rest
all_pass_rest cells object [] rest pass = refl
all_pass_rest cells object (put ∷ puts) rest pass =
    ap (λ found. or_fault found object put (judged cells object puts rest)) pass.0 ∙ all_pass_rest cells object puts rest pass.1

pub none_denied : (low high : Cells) (object : ℕ) (puts : List Asked) (rest : Event) → HaveZeros low → AreBelow low high → HeldIn high puts
    → judged low object puts rest ≡ rest
none_denied low high object puts rest zeros below held =
    all_pass_rest low object puts rest
    (weaker_all (λ (put : Asked). value_in high put.cell ≡ Some put.content.value) (λ (put : Asked). denied_by (end_in low put) put ≡ None) puts
    (λ put stands. passes low high put (low put.cell) refl zeros below stands) held)

pass_first : (cells : Cells) (object : ℕ) (put : Asked) (puts : List Asked) (rest event : Event) (found : Option (ℤ × ℤ))
    → denied_by (end_in cells put) put ≡ found
    → or_fault found object put (judged cells object puts rest) ≡ event → ¬ IsFault event
    → (denied_by (end_in cells put) put ≡ None) × (judged cells object puts rest ≡ event)
pass_first cells object put puts rest event None is e fine = (is, e)
pass_first cells object put puts rest event (Some values) is e fine = absurd (fine (subst IsFault e tt))

pub all_pass : (cells : Cells) (object : ℕ) (puts : List Asked) (rest event : Event) → judged cells object puts rest ≡ event → ¬ IsFault event
    → AllPass cells puts
all_pass cells object [] rest event e fine = tt
all_pass cells object (put ∷ puts) rest event e fine =
    let first = pass_first cells object put puts rest event (denied_by (end_in cells put) put) refl e fine in
    (first.0, all_pass cells object puts rest event first.1 fine)

-- ---- what a put finds in its cell: nothing, or its value

pub data Finds (held : Option Content) (value : ℤ) : Type 0 where
  nothing : held ≡ None → Finds held value
  the_same : (content : Content) → held ≡ Some content → content.value ≡ value → Finds held value

abbrev pub AllFind : Cells → List Asked → Type 0
AllFind cells puts = AllByRecursion (λ (put : Asked). Finds (cells put.cell) put.content.value) puts

find_held : (held : Option Content) (value : ℤ) → option_map (λ (content : Content). content.value) held ≡ Some value → Finds held value
find_held None value is = absurd (none-some _ is)
find_held (Some content) value is = the_same content refl (same_Some _ _ is)

pub all_find_held : (cells : Cells) (puts : List Asked) → HeldIn cells puts → AllFind cells puts
all_find_held cells puts held =
    weaker_all (λ (put : Asked). value_in cells put.cell ≡ Some put.content.value) (λ (put : Asked). Finds (cells put.cell) put.content.value) puts
    (λ put is. find_held (cells put.cell) put.content.value is) held

find_by : (object : ℕ) (put : Asked) (held : Content) → put.content.writer ≡ ByObject (record { 0 = object }) → held.number ≡ 0
    → is_same_object held.writer (ByObject (record { 0 = object })) ≡ false → denied_by (end_of_put (Some held) put.content) put ≡ None
    → (test : Bool) → int_eq held.value put.content.value ≡ test → held.value ≡ put.content.value
find_by object put held writer zero_number other pass true same = (Decides-int_eq held.value put.content.value).0 same
find_by object put held writer zero_number other pass false differs =
    let way : is_same_object held.writer put.content.writer ≡ false = ap (is_same_object held.writer) writer ∙ other in
    let here : (held.number == 0) ≡ true = grind (arith, nat_tests, zero_number) in
    let end : end_of_put (Some held) put.content ≡ Denied held = rw (differs, here, way) refl in
    absurd (none-some _ (sym pass ∙ ap (λ e. denied_by e put) end))

-- a put that isn't denied, over nothing of its object's own
pub find_pass : (object : ℕ) (put : Asked) (found : Option Content) → put.content.writer ≡ ByObject (record { 0 = object })
    → ((held : Content) → found ≡ Some held → (held.number ≡ 0) × (is_same_object held.writer (ByObject (record { 0 = object })) ≡ false))
    → denied_by (end_of_put found put.content) put ≡ None → Finds found put.content.value
find_pass object put None writer others pass = nothing refl
find_pass object put (Some held) writer others pass =
    let own = others held refl in the_same held refl (find_by object put held writer own.0 own.1 pass (int_eq held.value put.content.value) refl)

-- ---- what is written is to unknown cells, so that what is known stays

abbrev pub AllNew : Cells → List Asked → Type 0
AllNew cells puts = AllByRecursion (λ (put : Asked). cells put.cell ≡ None) puts

found_new : (cells : Cells) (put : Asked) → HaveZeros cells → Finds (cells put.cell) put.content.value → is_written (end_in cells put) ≡ true
    → cells put.cell ≡ None
found_new cells put zeros (nothing none) is = none
found_new cells put zeros (the_same content held same) is =
    let end : is_written (end_in cells put) ≡ false =
    ap (λ found. is_written (end_of_put found put.content)) held ∙ ap is_written (same_kept content put.content same (zeros put.cell content held)) in
    absurd (both_ways (is_written (end_in cells put)) end is)

pub all_new : (cells : Cells) (puts : List Asked) → HaveZeros cells → AllFind cells puts → AllNew cells (puts_written cells puts)
all_new cells puts zeros find =
    weaker_all (λ (put : Asked). Finds (cells put.cell) put.content.value × (is_written (end_in cells put) ≡ true))
    (λ (put : Asked). cells put.cell ≡ None)
    (puts_written cells puts) (λ put both. found_new cells put zeros both.0 both.1)
    (both_all (λ (put : Asked). Finds (cells put.cell) put.content.value) (λ (put : Asked). is_written (end_in cells put) ≡ true)
    (puts_written cells puts)
    (all_kept (λ (put : Asked). Finds (cells put.cell) put.content.value) (λ (put : Asked). is_written (end_in cells put)) puts find)
    (recursion_from_All (λ (put : Asked). is_written (end_in cells put) ≡ true) (puts_written cells puts)
    (filter_passes (λ (put : Asked). is_written (end_in cells put)) puts)))

pub known_stays : (basin : Draft) (cells : Cells) (written : List Asked) → AreShared basin cells → AllNew cells written
    → Grow cells (after_puts basin cells written)
known_stays basin cells written shared new cell content is = by (last_put basin written cell) refl
  where
    by : (last : Option Content) → last_put basin written cell ≡ last → option_or last (cells cell) ≡ Some content
    by None none = is
    by (Some c) put =
        let last = last_of basin (λ (p : Asked). cells p.cell ≡ None) written cell c new put in
        absurd (none-some _ (sym last.is ∙ shared last.put.cell cell last.shares ∙ is))

-- ---- afterwards all puts stand

-- the put shares no value with the others, from either side
abbrev pub IsClear : Draft → Asked → List Asked → Type 0
IsClear basin put others =
    AllByRecursion (λ (other : Asked). (is_shared basin put.cell other.cell ≡ false) × (is_shared basin other.cell put.cell ≡ false)) others

abbrev pub AreClear : Draft → List Asked → Type 0
AreClear basin [] = Unit {0}
AreClear basin (put ∷ puts) = (is_shared basin put.cell put.cell ≡ true) × (IsClear basin put puts × AreClear basin puts)

-- with these written, each of the puts stands
abbrev StandWith : Draft → Cells → List Asked → List Asked → Type 0
StandWith basin cells written puts = HeldIn (after_puts basin cells written) puts

clear_if : (basin : Draft) (cells : Cells) (put other : Asked) (others : List Asked) (test : Bool) → is_shared basin other.cell put.cell ≡ false
    → last_put basin (puts_written cells others) put.cell ≡ None
    → last_put basin (if test then other ∷ puts_written cells others else puts_written cells others) put.cell ≡ None
clear_if basin cells put other others true apart rest = ap₂ option_or rest (ap (λ shared. if shared then Some other.content else None) apart)
clear_if basin cells put other others false apart rest = rest

clear_last : (basin : Draft) (cells : Cells) (put : Asked) (puts : List Asked) → IsClear basin put puts
    → last_put basin (puts_written cells puts) put.cell ≡ None
clear_last basin cells put [] clear = refl
clear_last basin cells put (other ∷ others) clear =
    clear_if basin cells put other others (is_written (end_in cells other)) clear.0.1 (clear_last basin cells put others clear.1)

pub or_none : {X : Type 0} (held : Option X) → option_or held None ≡ held
or_none None = refl
or_none (Some content) = refl

stand_more : (basin : Draft) (cells : Cells) (put : Asked) (written puts : List Asked) (test : Bool) → IsClear basin put puts
    → StandWith basin cells written puts
    → StandWith basin cells (if test then put ∷ written else written) puts
stand_more basin cells put written puts false clear stand = stand
stand_more basin cells put written [] true clear stand = tt
stand_more basin cells put written (other ∷ others) true clear stand = (
  ap (λ last. option_map (λ (content : Content). content.value) (option_or last (cells other.cell)))
      (ap (λ shared. option_or (last_put basin written other.cell) (if shared then Some put.content else None)) clear.0.0
      ∙ or_none (last_put basin written other.cell))
      ∙ stand.0,
  stand_more basin cells put written others true clear.1 stand.1,
)

stand_first : (basin : Draft) (cells : Cells) (put : Asked) (puts : List Asked) (test : Bool) → is_written (end_in cells put) ≡ test
    → is_shared basin put.cell put.cell ≡ true → IsClear basin put puts → Finds (cells put.cell) put.content.value
    → option_map (λ (content : Content). content.value)
    (option_or (last_put basin (if test then put ∷ puts_written cells puts else puts_written cells puts) put.cell) (cells put.cell))
    ≡ Some put.content.value
stand_first basin cells put puts true is own clear find =
    ap (λ last. option_map (λ (content : Content). content.value) (option_or last (cells put.cell)))
    (ap₂ option_or (clear_last basin cells put puts clear) (ap (λ shared. if shared then Some put.content else None) own))
stand_first basin cells put puts false is own clear (nothing none) =
    absurd (both_ways (is_written (end_in cells put)) is (ap (λ found. is_written (end_of_put found put.content)) none))
stand_first basin cells put puts false is own clear (the_same content held same) =
    ap (option_map (λ (c : Content). c.value)) (ap₂ option_or (clear_last basin cells put puts clear) held) ∙ ap Some same

pub all_stand : (basin : Draft) (cells : Cells) (puts : List Asked) → AreClear basin puts → AllFind cells puts
    → StandWith basin cells (puts_written cells puts) puts
all_stand basin cells [] clear find = tt
all_stand basin cells (put ∷ puts) clear find = (
  stand_first basin cells put puts (is_written (end_in cells put)) refl clear.0 clear.1.0 find.0,
  stand_more basin cells put (puts_written cells puts) puts (is_written (end_in cells put)) clear.1.0 (all_stand basin cells puts clear.1.1 find.1),
)
