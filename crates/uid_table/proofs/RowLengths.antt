-- How long the row of a key is, and the row of its series at another hour.
use Rattle.std.proofs.Common.{◌≡◌, ℕ, ◌+◌, ◌≤◌, List, ◌++◌, length, take, drop, sym, ap, ap₂, ◌∙◌, append_assoc, length-append, arith}
use Rattle.std.proofs.Math.Seq.{take-append_seam, drop-append_seam}
use Rattle.std.specs.Int.{w32, to_be_bytes}
use Rattle.std.specs.List.{flat_map}
use Rattle.row_key.specs.Key.{id_bytes, pair_bytes, key_bytes}
use Rattle.row_key.proofs.CallerLemmas.{key_fits, key_length, length_bytes}
use Rattle.cell_model.specs.declared.row.Row.{Row}
use Rattle.uid_table.specs.PlacedPoints.{IsMoved, IsSomeRow, key_at}

pub row_most : (width : ℕ) (row : Row) (base : ℕ) → IsSomeRow width row base → length row.bytes ≤ 72
row_most width row base r =
    let e = ap (λ (x : Row). length x.bytes) r.row_of.1 in
    let fits = key_fits r.widths r.key r.row_of.0 in
    omega (arith, e, fits)

pub row_least : (width : ℕ) (row : Row) (base : ℕ) → IsSomeRow width row base → width + 4 ≤ length row.bytes
row_least width row base r =
    let e = ap (λ (x : Row). length x.bytes) r.row_of.1 in
    let n = key_length r.widths r.key in
    let is = r.width_is in
    omega (arith, e, n, is)

-- the bytes before the hour, the hour, and the bytes behind it
abbrev Hour : ℕ → ℕ → ℕ → List ℕ → List ℕ
Hour width metric base rest = (id_bytes width metric ++ to_be_bytes w32 base) ++ rest

front_is : (width metric base : ℕ) (rest : List ℕ) → take width (Hour width metric base rest) ≡ id_bytes width metric
front_is width metric base rest =
    let front = id_bytes width metric in
    let later = to_be_bytes w32 base ++ rest in
    ap (take width) (append_assoc front (to_be_bytes w32 base) rest) ∙ ap (λ n. take n (front ++ later)) (sym (length_bytes width metric)) ∙ take-append_seam front later

rest_is : (width metric base : ℕ) (rest : List ℕ) → drop (width + 4) (Hour width metric base rest) ≡ rest
rest_is width metric base rest =
    let hour = id_bytes width metric ++ to_be_bytes w32 base in
    let long : length hour ≡ width + 4 = length-append (id_bytes width metric) (to_be_bytes w32 base) ∙ ap (λ n. n + 4) (length_bytes width metric) in
    ap (λ n. drop n (hour ++ rest)) (sym long) ∙ drop-append_seam hour rest

other_hour : (width metric base new : ℕ) (rest : List ℕ) → (take width (Hour width metric base rest) ++ to_be_bytes w32 new) ++ drop (width + 4) (Hour width metric base rest) ≡ Hour width metric new rest
other_hour width metric base new rest = ap₂ (λ xs ys. (xs ++ to_be_bytes w32 new) ++ ys) (front_is width metric base rest) (rest_is width metric base rest)

-- the row of a series, with its hour exchanged, is its row at that hour
pub row_moved : (width base : ℕ) (old : Row) (list made : List ℕ) → list ≡ old.bytes → made ≡ (take width list ++ to_be_bytes w32 base) ++ drop (width + 4) list → IsMoved width old base (record { table = old.table; bytes = made })
row_moved width base old list made same is w key width_is (is_key, row_is) =
    let tail = flat_map (pair_bytes w) key.pairs.items in
    let bytes_are : list ≡ Hour width key.metric key.base tail = same ∙ ap (λ (r : Row). r.bytes) row_is ∙ ap (λ n. Hour n key.metric key.base tail) width_is in
    let made_is : made ≡ key_bytes w (key_at key base) =
    is ∙ ap (λ xs. (take width xs ++ to_be_bytes w32 base) ++ drop (width + 4) xs) bytes_are ∙ other_hour width key.metric key.base base tail ∙ ap (λ n. Hour n key.metric base tail) (sym width_is) in
    λ i. record { table = ap (λ (r : Row). r.table) row_is i; bytes = made_is i }
