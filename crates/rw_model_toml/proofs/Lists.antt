-- Reading the items of an array one by one.
use Rattle.rw_base.proofs.Common.{None, ◌≢◌, ◌≡◌, ℕ, ◌+◌, ◌<◌, List, [], ◌∷◌, ◌++◌, length, drop, get_or, append_assoc, subst, Result, Ok, Err, refl}
use Rattle.rw_base.proofs.Common.{ap, sym, ◌∙◌, IsErrAnd}
use Rattle.toml.specs.declared.value.Value.{Value}
use Rattle.toml.specs.View.{view, items_view}
use Rattle.toml.proofs.Views.{items_view-drop}
use Rattle.toml.specs.Data.{Data, Items, item}
use Rattle.rw_model_toml.specs.declared.fault.ModelFault.{ModelFault}
use Rattle.rw_model.proofs.Common.{Draft, numbers_of}
use Rattle.rw_base.specs.declared.number.SlotNo.{SlotNo}
use Rattle.rw_model_toml.specs.Model.{in_turn}
use Rattle.rw_model_toml.specs.Fault.{IsModelWhy, Gives}
use Rattle.rw_model_toml.specs.Refusal.{ModelRefusal, ◌>>=◌}
use Rattle.rw_model_toml.specs.Path.{element_path}
use Rattle.rw_model_toml.specs.ListOf.{list_read}
use Rattle.rw_model_toml.specs.Kinds.{row_in}

-- what is read after what is there already
abbrev pub after : {A : Type 0} → List A → Result (List A) ModelRefusal → Result (List A) ModelRefusal
after done rest = rest >>= λ xs. Ok (done ++ xs)

after-cons : {A : Type 0} (done : List A) (x : A) (rest : Result (List A) ModelRefusal)
    → after (done ++ x ∷ []) rest ≡ after done (rest >>= λ xs. Ok (x ∷ xs))
after-cons done x (Ok xs) = ap Ok (append_assoc done (x ∷ []) xs)
after-cons done x (Err refusal) = refl

-- one more item is read
pub list_of-next : {A : Type 0} (judge : List ℕ → Data → Result A ModelRefusal) (path : List ℕ) (number : ℕ) (value : Data) (rest : Items)
    (done : List A) (x : A)
    → judge (element_path path number) value ≡ Ok x
    → after (done ++ x ∷ []) (list_read judge path (number + 1) rest) ≡ after done (list_read judge path number (item value rest))
list_of-next judge path number value rest done x e = after-cons done x (list_read judge path (number + 1) rest) ∙ rw e refl

-- an item is refused
pub list_of-fails : {A : Type 0} (judge : List ℕ → Data → Result A ModelRefusal) (path : List ℕ) (number : ℕ) (value : Data) (rest : Items)
    (done : List A) (fault : ModelFault)
    → IsModelWhy (judge (element_path path number) value) fault → IsModelWhy (after done (list_read judge path number (item value rest))) fault
list_of-fails judge path number value rest done fault why = (λ refusal is. rw (why.0 refusal is) refl, why.1)

-- the code's loop reads one more item
pub items-next : {A : Type 0} (judge : List ℕ → Data → Result A ModelRefusal) (path : List ℕ) (vs : List Value) (place : ℕ) (v : Value) (at : List ℕ)
    (done : List A) (x : A) (new : List A) (all : Result (List A) ModelRefusal)
    → place < length vs → v ≡ get_or vs place v → at ≡ element_path path (place + 1)
    → judge at (view v) ≡ Ok x → new ≡ done ++ x ∷ []
    → after done (list_read judge path (place + 1) (items_view (drop place vs))) ≡ all
    → after new (list_read judge path (place + 1 + 1) (items_view (drop (place + 1) vs))) ≡ all
items-next judge path vs place v at done x new all within is where_ read added before =
    rw added (list_of-next judge path (place + 1) (view v) (items_view (drop (place + 1) vs)) done x (ap (λ p. judge p (view v)) (sym where_) ∙ read)
    ∙ ap (λ is_. after done (list_read judge path (place + 1) is_))
    (ap (λ w. item (view w) (items_view (drop (place + 1) vs))) is ∙ sym (items_view-drop vs place v within))
    ∙ before)

-- the code's loop comes to an item that is refused
pub items-fails : {A : Type 0} (judge : List ℕ → Data → Result A ModelRefusal) (path : List ℕ) (vs : List Value) (place : ℕ) (v : Value) (at : List ℕ)
    (done : List A) (all : Result (List A) ModelRefusal) (fault : ModelFault)
    → place < length vs → v ≡ get_or vs place v → at ≡ element_path path (place + 1)
    → IsModelWhy (judge at (view v)) fault
    → after done (list_read judge path (place + 1) (items_view (drop place vs))) ≡ all
    → IsModelWhy all fault
items-fails judge path vs place v at done all fault within is where_ why before =
    subst (λ r. IsModelWhy r fault) (ap (λ is_. after done (list_read judge path (place + 1) is_))
    (ap (λ w. item (view w) (items_view (drop (place + 1) vs))) is ∙ sym (items_view-drop vs place v within)) ∙ before)
    (list_of-fails judge path (place + 1) (view v) (items_view (drop (place + 1) vs)) done fault
    (subst (λ p. IsModelWhy (judge p (view v)) fault) where_ why))

-- a fault that is handed on is why the reading is refused
pub gives-fault : {X Y : Type 0} (seen : X → Y) (result : Result X ModelFault) (reading : Result Y ModelRefusal) (fault : ModelFault)
    → IsErrAnd result (λ e. e ≡ fault) → IsModelWhy reading fault → Gives seen result reading
gives-fault seen (Ok x) reading fault same why = absurd same
gives-fault seen (Err e) reading fault same why = subst (IsModelWhy reading) (sym same) why

-- what is refused is refused, whatever would be read next
pub stops : {A B : Type 0} (reading : Result A ModelRefusal) (next : A → Result B ModelRefusal) (fault : ModelFault) → IsModelWhy reading fault
    → IsModelWhy (reading >>= next) fault
stops reading next fault why = (λ refusal is. rw (why.0 refusal is) refl, why.1)

-- what is read next is refused
pub goes-on : {A B : Type 0} (reading : Result A ModelRefusal) (next : A → Result B ModelRefusal) (x : A) (fault : ModelFault) → reading ≡ Ok x
    → IsModelWhy (next x) fault → IsModelWhy (reading >>= next) fault
goes-on reading next x fault read why = subst (λ r. IsModelWhy (r >>= next) fault) (sym read) why

-- an array of another number of values is no row
pub items-not-two : (vs : List Value) → length vs ≢ 2 → row_in (items_view vs) ≡ None
items-not-two [] other = refl
items-not-two (x ∷ []) other = refl
items-not-two (x ∷ y ∷ []) other = absurd (other refl)
items-not-two (x ∷ y ∷ z ∷ vs) other = refl

-- the code's loop tells one more item to the builder
pub turn-next : (told : List ℕ → Data → Draft → Result Draft ModelRefusal) (path : List ℕ) (vs : List Value) (place : ℕ) (v : Value) (at : List ℕ)
    (draft new : Draft) (all : Result Draft ModelRefusal)
    → place < length vs → v ≡ get_or vs place v → at ≡ element_path path (place + 1)
    → told at (view v) draft ≡ Ok new
    → in_turn told path (place + 1) (items_view (drop place vs)) draft ≡ all
    → in_turn told path (place + 1 + 1) (items_view (drop (place + 1) vs)) new ≡ all
turn-next told path vs place v at draft new all within is where_ read before =
    sym (ap (λ r. r >>= in_turn told path (place + 1 + 1) (items_view (drop (place + 1) vs))) (ap (λ p. told p (view v) draft) (sym where_) ∙ read))
    ∙ ap (λ is_. in_turn told path (place + 1) is_ draft)
    (ap (λ w. item (view w) (items_view (drop (place + 1) vs))) is ∙ sym (items_view-drop vs place v within))
    ∙ before

-- the code's loop comes to an item that the builder refuses
pub turn-fails : (told : List ℕ → Data → Draft → Result Draft ModelRefusal) (path : List ℕ) (vs : List Value) (place : ℕ) (v : Value) (at : List ℕ)
    (draft : Draft) (all : Result Draft ModelRefusal) (fault : ModelFault)
    → place < length vs → v ≡ get_or vs place v → at ≡ element_path path (place + 1)
    → IsModelWhy (told at (view v) draft) fault
    → in_turn told path (place + 1) (items_view (drop place vs)) draft ≡ all
    → IsModelWhy all fault
turn-fails told path vs place v at draft all fault within is where_ why before =
    subst (λ r. IsModelWhy r fault) (ap (λ is_. in_turn told path (place + 1) is_ draft)
    (ap (λ w. item (view w) (items_view (drop (place + 1) vs))) is ∙ sym (items_view-drop vs place v within)) ∙ before)
    (stops _ (in_turn told path (place + 1 + 1) (items_view (drop (place + 1) vs))) fault
    (subst (λ p. IsModelWhy (told p (view v) draft) fault) where_ why))

-- the numbers of slots, and one more
pub numbers-push : (slots : List SlotNo) (slot : SlotNo) → numbers_of (slots ++ slot ∷ []) ≡ numbers_of slots ++ slot.0 ∷ []
numbers-push [] slot = refl
numbers-push (s ∷ slots) slot = ap (λ ns. s.0 ∷ ns) (numbers-push slots slot)
