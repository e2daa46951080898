-- A text that grows part by part.
use Rattle.rw_base.proofs.Common.{◌≡◌, ℕ, ◌+◌, List, [], ◌∷◌, ◌++◌, Some, sym, ap, ◌∙◌, drop, drop-cons, suc, append_assoc, suc-eq-add-one, slice_get}
use Rattle.rw_base.proofs.Common.{slice_get_within, get_or_from_slice_get}
use Rattle.rw_report.specs.Section.{for_each}

-- two parts, one after the other
pub both : (front text new first second : List ℕ) → text ≡ front ++ first → new ≡ text ++ second → new ≡ front ++ (first ++ second)
both front text new first second is added = added ∙ ap (λ t. t ++ second) is ∙ append_assoc front first second

-- a text that was taken empty
pub afresh : (cleared new whole : List ℕ) → cleared ≡ [] → new ≡ cleared ++ whole → new ≡ whole
afresh cleared new whole empty added = added ∙ ap (λ t. t ++ whole) empty

-- what is written of one number more
pub next : (words : ℕ → List ℕ) (before : ℕ) (front text new : List ℕ)
    → text ≡ front ++ for_each words before → new ≡ text ++ words (before + 1) → new ≡ front ++ for_each words (before + 1)
next words before front text new is added =
    let e = suc-eq-add-one before in
    both front text new (for_each words before) (words (before + 1)) is added
    ∙ ap (λ n. front ++ (for_each words before ++ words n)) (sym e)
    ∙ ap (λ n. front ++ for_each words n) e

-- what is left of a text once its first part is written
pub written : (text new part rest whole : List ℕ) → text ++ (part ++ rest) ≡ whole → new ≡ text ++ part → new ++ rest ≡ whole
written text new part rest whole left is = ap (λ t. t ++ rest) is ∙ append_assoc text part rest ∙ left

-- the item in a place is the first of those from there on
pub here : {A : Type 0} (items : List A) (place : ℕ) (item : A) → slice_get items place ≡ Some item
    → drop place items ≡ item ∷ drop (place + 1) items
here items place item is =
    drop-cons items place item (slice_get_within items place item is)
    ∙ ap (λ x. x ∷ drop (suc place) items) (get_or_from_slice_get items place item item is)
    ∙ ap (λ n. item ∷ drop n items) (suc-eq-add-one place)

-- what is written of the numbers up to one, in front of what is left, where that of the last of them is written too
pub back : (words : ℕ → List ℕ) (left less : ℕ) (now new whole : List ℕ) → left ≡ less + 1
    → for_each words left ++ now ≡ whole → new ≡ words left ++ now → for_each words less ++ new ≡ whole
back words left less now new whole e is added =
    let s : left ≡ suc less = e ∙ sym (suc-eq-add-one less) in
    ap (λ t. for_each words less ++ t) added
    ∙ sym (append_assoc (for_each words less) (words left) now)
    ∙ ap (λ t. t ++ now) (ap (λ n. for_each words less ++ words n) s ∙ sym (ap (for_each words) s))
    ∙ is

-- a piece, behind what is there
pub piece : (words : ℕ → List ℕ) (first last : ℕ) (front text tail new : List ℕ)
    → for_each words first ++ tail ≡ for_each words last → text ≡ front ++ for_each words first → new ≡ text ++ tail
    → new ≡ front ++ for_each words last
piece words first last front text tail new whole is added =
    both front text new (for_each words first) tail is added ∙ ap (λ t. front ++ t) whole

-- a part more, with a front before what is there
pub behind : (front text new part : List ℕ) → new ≡ text ++ part → front ++ new ≡ (front ++ text) ++ part
behind front text new part is = ap (λ t. front ++ t) is ∙ sym (append_assoc front text part)
