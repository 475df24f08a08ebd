-- Where the cursors of a group stand.
use Rattle.std.specs.Prelude.{◌≡◌, ℕ, ◌<◌, ◌≤◌, min, Bool, false, ◌||◌, ◌&&◌, nat_eq, nat_lt, is_some, ℤ, List, [], ◌∷◌, ◌++◌, length, map, drop, slice_index_or, All, Option, Some, None}
use Rattle.std.specs.List.{list_any, AllWithin}
use Rattle.tsd_base.specs.Dots.{IsRising}
use Rattle.lerp_aggregate.specs.declared.cursors.Ahead.{Ahead}
use Rattle.lerp_aggregate.specs.declared.cursors.Cursor.{Cursor}
use Rattle.lerp_aggregate.specs.declared.cursors.Bundle.{Bundle}
use Rattle.lerp_aggregate.specs.declared.cursors.Walk.{Walk, One, Both'}

-- the time of the first of these points
abbrev pub first_time : List (ℕ × ℤ) → Option ℕ
first_time [] = None
first_time (p ∷ points) = Some p.0

-- the cursor over a series in order of time is behind the points before this time, and knows the next one's time
pub record StandsAt (series : List (ℕ × ℤ)) (time : ℕ) (cursor : Cursor) : Type 0 where
  pub rising : IsRising series
  pub place : cursor.place ≤ length series
  pub before : AllWithin (λ p. p.0 < time) series 0 cursor.place
  pub after : AllWithin (λ p. time ≤ p.0) series cursor.place (length series)
  pub next : cursor.next ≡ first_time (drop cursor.place series)

-- the earlier of two times that may be there
abbrev pub earlier : Option ℕ → Option ℕ → Option ℕ
earlier None other = other
earlier (Some a) None = Some a
earlier (Some a) (Some b) = Some (min a b)

-- the earliest next time of these cursors
abbrev pub earliest : List Cursor → Option ℕ
earliest [] = None
earliest (cursor ∷ cursors) = earlier cursor.next (earliest cursors)

-- whether the cursor stands between two points of its series: it has passed one, and one is left
abbrev pub is_inside : Cursor → Bool
is_inside cursor = nat_lt 0 cursor.place && is_some cursor.next

-- what lies ahead of these cursors: their earliest next time, and whether one of them stands between two points
abbrev pub ahead_of : List Cursor → Ahead
ahead_of cursors = record { next = earliest cursors; inside = list_any is_inside cursors }

-- what lies ahead of some cursors and of others
abbrev pub joined : Ahead → Ahead → Ahead
joined some others = record { next = earlier some.next others.next; inside = some.inside || others.inside }

-- the series of these cursors, in order
abbrev pub series_of : List (List (ℕ × ℤ)) → List Cursor → List (List (ℕ × ℤ))
series_of list cursors = map (λ cursor. slice_index_or list cursor.index []) cursors

-- the cursor stands at this time in its series
abbrev pub Stands : List (List (ℕ × ℤ)) → ℕ → Cursor → Type 0
Stands list time cursor = (cursor.index < length list) × StandsAt (slice_index_or list cursor.index []) time cursor

-- the cursors of a bundle do, and it knows what lies ahead of them
abbrev pub BundleStands : List (List (ℕ × ℤ)) → ℕ → Bundle → Type 0
BundleStands list time bundle = (bundle.ahead ≡ ahead_of bundle.cursors.items) × All (Stands list time) bundle.cursors.items

-- what a walk knows of what lies ahead
abbrev pub walk_ahead : Walk → Ahead
walk_ahead (One bundle) = bundle.ahead
walk_ahead (Both' ahead p left q right) = ahead

-- the earliest next time of a walk
abbrev pub next_of : Walk → Option ℕ
next_of walk = (walk_ahead walk).next

-- whether series with this next time may give something at a time, from the point there or between two points
abbrev pub is_due : Option ℕ → Bool → ℕ → Bool
is_due None between time = false
is_due (Some next) between time = between || nat_eq next time

-- the series of a walk, in order
abbrev pub walked : List (List (ℕ × ℤ)) → Walk → List (List (ℕ × ℤ))
walked list (One bundle) = series_of list bundle.cursors.items
walked list (Both' ahead p left q right) = walked list left ++ walked list right

-- each cursor stands at this time, and each pair of halves knows what lies ahead of them
abbrev pub StandAt : List (List (ℕ × ℤ)) → ℕ → Walk → Type 0
StandAt list time (One bundle) = BundleStands list time bundle
StandAt list time (Both' ahead p left q right) = (ahead ≡ joined (walk_ahead left) (walk_ahead right)) × StandAt list time left × StandAt list time right
