-- How what an object sees goes on from one event to the next.
use Rattle.std.specs.Prelude.{◌≡◌, ◌≢◌, ◌⊎◌, ℕ, ◌≤◌, false, true, List, Contains, Some}
use Rattle.rw_model.specs.declared.content.Content.{Content}
use Rattle.rw_model.specs.declared.writer.Writer.TheVariants.{Object}
use Rattle.rw_method.specs.declared.put.Put.{Put}
use Rattle.rw_method.specs.declared.view.View.{View}
use Rattle.rw_method.specs.View.{known}
use Rattle.rw_method.specs.Left.{is_own}

-- another wrote to a slot, over a content with no lesser number if there was one
pub record IsReplaced (old new : View) (place : ℕ) : Type 0 where
  pub content : Content
  pub is : known new place ≡ Some content
  pub other : is_own old content ≡ false
  pub falls : (before : Content) → known old place ≡ Some before → content.number ≤ before.number

-- what others leave: each slot holds what it held, or what another wrote
pub record IsAfterOthers (old new : View) : Type 0 where
  pub own : new.own ≡ old.own
  pub past : new.past ≡ old.past
  pub slots : (place : ℕ) → (known new place ≡ known old place) ⊎ IsReplaced old new place

-- the content that a put of the object makes
abbrev pub put_content : View → Put → Content
put_content view put = record { value = put.value; number = put.number; writer = Object view.own }

-- a put is written, over a content with no lesser number if there was one
pub record IsWritten (old new : View) (put : Put) : Type 0 where
  pub is : known new put.place ≡ Some (put_content old put)
  pub falls : (before : Content) → known old put.place ≡ Some before → put.number ≤ before.number

-- a put is kept: its value is there, with no lower priority
pub record IsPutKept (old new : View) (put : Put) : Type 0 where
  pub content : Content
  pub was : known old put.place ≡ Some content
  pub is : known new put.place ≡ Some content
  pub value : content.value ≡ put.value
  pub number : content.number ≤ put.number

-- what the object's own puts leave: each is written or kept, and every other slot holds what it held
pub record IsAfterOwn (old new : View) (puts : List Put) : Type 0 where
  pub own : new.own ≡ old.own
  pub past : new.past ≡ old.past
  pub put : (put : Put) → Contains puts put → IsWritten old new put ⊎ IsPutKept old new put
  pub rest : (place : ℕ) → ((put : Put) → Contains puts put → put.place ≢ place) → known new place ≡ known old place

-- over a content that the object wrote itself a put has no lower priority
abbrev pub IsOwnFall : View → Put → Type 0
IsOwnFall view put = (content : Content) → known view put.place ≡ Some content → is_own view content ≡ true → put.number ≤ content.number
