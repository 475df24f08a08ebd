-- The point of a line's words, and that of an element's members.
use Rattle.std.proofs.Common.{◌≡◌, ℕ, ℤ, Bool, List, Result, Ok, Err, refl, ap}
use Rattle.serde_json.specs.Data.{Data, Members}
use Rattle.tsd_base.specs.declared.names.NameFault.{NameFault}
use Rattle.tsd_base.specs.declared.points.PointFault.{PointFault}
use Rattle.tsd_base.specs.declared.points.PointFault.TheVariants.{Metric, Time, Value, Tags}
use Rattle.tsd_base.specs.declared.tags.TagsFault.{TagsFault}
use Rattle.tsd_base.specs.declared.times.BadTime.{BadTime}
use Rattle.tsd_base.specs.declared.values.ValueFault.{ValueFault}
use Rattle.tsd_base.specs.Names.{name_of}
use Rattle.tsd_base.specs.Points as line
use Rattle.tsd_base.specs.Points.{DataPoint, point_of_parts, pairs_of, told_as}
use Rattle.tsd_base.specs.TagList.{Pair}
use Rattle.tsd_base.specs.Tags.{tags_of}
use Rattle.tsd_base.specs.Times.{time_of}
use Rattle.tsd_base.specs.Values.{value_of}
use Rattle.json_points.specs.declared.fault.ElementFault.{ElementFault}
use Rattle.json_points.specs.Elements as element
use Rattle.json_points.specs.Elements.{point_in, pairs_in, time_in, told, value_in}

abbrev point_with : List ℕ → ℕ × Bool → ℤ → List Pair → DataPoint
point_with name moment number all = record { metric = name; tags = all; time = moment.0; fine = moment.1; value = number }

abbrev by_line : Result (List ℕ) NameFault → Result (ℕ × Bool) BadTime → Result ℤ ValueFault → Result (List Pair) PointFault → (List Pair → Result (List Pair) TagsFault) → Result DataPoint PointFault
by_line name moment number pairs tags =
    line.◌>>=◌ (told_as Metric name) (λ n. line.◌>>=◌ (told_as (λ _. Time) moment) (λ m. line.◌>>=◌ (told_as Value number) (λ v. line.◌>>=◌ pairs (λ ps. line.◌>>=◌ (told_as Tags (tags ps)) (λ all. Ok (point_with n m v all))))))

abbrev by_element : Result (List ℕ) NameFault → Result (ℕ × Bool) BadTime → Result ℤ ValueFault → Result (List Pair) ElementFault → (List Pair → Result (List Pair) TagsFault) → Result DataPoint ElementFault
by_element name moment number pairs tags =
    element.◌>>=◌ (told Metric name) (λ n. element.◌>>=◌ (told (λ _. Time) moment) (λ m. element.◌>>=◌ (told Value number) (λ v. element.◌>>=◌ pairs (λ ps. element.◌>>=◌ (told Tags (tags ps)) (λ all. Ok (point_with n m v all))))))

two_answers : {A E : Type 0} (e : E) (a : A) → ◌≡◌ {A = Result A E} (Err e) (Ok a) → ⊥
two_answers e a is = cc

same_Ok : {A E : Type 0} (a b : A) → ◌≡◌ {A = Result A E} (Ok a) (Ok b) → a ≡ b
same_Ok a b is = cc

with_tags : (n : List ℕ) (m : ℕ × Bool) (v : ℤ) (ps sorted : List Pair) (all : Result (List Pair) TagsFault) (point : DataPoint) → ((tags : List Pair) → all ≡ Ok tags → tags_of sorted ≡ Ok tags)
    → line.◌>>=◌ (told_as Tags all) (λ all. Ok (point_with n m v all)) ≡ Ok point → element.◌>>=◌ (told Tags (tags_of sorted)) (λ all. Ok (point_with n m v all)) ≡ Ok point
with_tags n m v ps sorted (Err e) point alike is = absurd (two_answers _ point is)
with_tags n m v ps sorted (Ok tags) point alike is = rw (alike tags refl) (ap (λ (p : DataPoint). Ok p) (same_Ok (point_with n m v tags) point is))

with_pairs : (name : Result (List ℕ) NameFault) (moment : Result (ℕ × Bool) BadTime) (number : Result ℤ ValueFault) (pairs : Result (List Pair) PointFault) (other : Result (List Pair) ElementFault) (point : DataPoint)
    → ((ps : List Pair) → pairs ≡ Ok ps → (sorted : List Pair) × (other ≡ Ok sorted) × ((tags : List Pair) → tags_of ps ≡ Ok tags → tags_of sorted ≡ Ok tags))
    → by_line name moment number pairs tags_of ≡ Ok point → by_element name moment number other tags_of ≡ Ok point
with_pairs (Err e) moment number pairs other point alike is = absurd (two_answers _ point is)
with_pairs (Ok n) (Err e) number pairs other point alike is = absurd (two_answers _ point is)
with_pairs (Ok n) (Ok m) (Err e) pairs other point alike is = absurd (two_answers _ point is)
with_pairs (Ok n) (Ok m) (Ok v) (Err e) other point alike is = absurd (two_answers _ point is)
with_pairs (Ok n) (Ok m) (Ok v) (Ok ps) other point alike is =
    let a = alike ps refl in
    rw a.1 (with_tags n m v ps a.0 (tags_of ps) point a.2 is)

-- where the words are a point, the members are that point
pub parts_alike : (metric t v : List ℕ) (tags : List (List ℕ)) (time value : Data) (members : Members) (point : DataPoint) → time_in time ≡ told (λ _. Time) (time_of t) → value_in value ≡ told Value (value_of v)
    → ((ps : List Pair) → pairs_of 1 tags ≡ Ok ps → (sorted : List Pair) × (pairs_in 1 members ≡ Ok sorted) × ((all : List Pair) → tags_of ps ≡ Ok all → tags_of sorted ≡ Ok all))
    → point_of_parts metric t v tags ≡ Ok point → point_in metric time value members ≡ Ok point
unfolding point_of_parts point_in
parts_alike metric t v tags time value members point time_is value_is alike is = rw (time_is, value_is) (with_pairs (name_of metric) (time_of t) (value_of v) (pairs_of 1 tags) (pairs_in 1 members) point alike is)
