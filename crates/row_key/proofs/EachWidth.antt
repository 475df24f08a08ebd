-- What holds of two, three and four bytes holds of each width.
use Rattle.std.proofs.Common.{◌≡◌, ℕ, zero, suc, ◌≤◌, List, ◌++◌, length, drop, get_or, refl, ap, arith}
use Rattle.std.specs.Int.{byte_at, bytes_high_first}
use Rattle.row_key.specs.IdWidths.{IsWidth, id_bytes, most_ids}

pub at_width : (P : ℕ → Type 0) → P 2 → P 3 → P 4 → (width : ℕ) → IsWidth width → P width
at_width P two three four zero fits = absurd (omega (arith, fits.0))
at_width P two three four (suc zero) fits = absurd (omega (arith, fits.0))
at_width P two three four (suc (suc zero)) fits = two
at_width P two three four (suc (suc (suc zero))) fits = three
at_width P two three four (suc (suc (suc (suc zero)))) fits = four
at_width P two three four (suc (suc (suc (suc (suc n))))) fits = absurd (omega (arith, fits.1))

-- an id has as many bytes as its width
pub length_bytes : (k x : ℕ) → length (bytes_high_first k x) ≡ k
length_bytes zero x = refl
length_bytes (suc k) x = let e = length_bytes k x in omega (arith, e)

-- ---- bytes tell one id

two_once : (a b : ℕ) → a ≤ most_ids 2 → b ≤ most_ids 2 → byte_at 1 a ≡ byte_at 1 b → byte_at 0 a ≡ byte_at 0 b → a ≡ b
two_once a b la lb e f = omega (arith, la, lb, e, f)

three_once : (a b : ℕ) → a ≤ most_ids 3 → b ≤ most_ids 3 → byte_at 2 a ≡ byte_at 2 b → byte_at 1 a ≡ byte_at 1 b → byte_at 0 a ≡ byte_at 0 b → a ≡ b
three_once a b la lb e f g = omega (arith, la, lb, e, f, g)

four_once : (a b : ℕ) → a ≤ most_ids 4 → b ≤ most_ids 4 → byte_at 3 a ≡ byte_at 3 b → byte_at 2 a ≡ byte_at 2 b → byte_at 1 a ≡ byte_at 1 b → byte_at 0 a ≡ byte_at 0 b → a ≡ b
four_once a b la lb e f g h = omega (arith, la, lb, e, f, g, h)

at : (k : ℕ) (xs ys : List ℕ) → xs ≡ ys → get_or xs k 0 ≡ get_or ys k 0
at k xs ys e = ap (λ zs. get_or zs k 0) e

-- two lists that begin with ids of one width have one id there, and go on alike
abbrev FrontsAreOne : ℕ → Type 0
FrontsAreOne width = (a b : ℕ) (r s : List ℕ) → a ≤ most_ids width → b ≤ most_ids width → id_bytes width a ++ r ≡ id_bytes width b ++ s → (a ≡ b) × (r ≡ s)

two_fronts : FrontsAreOne 2
two_fronts a b r s la lb e = (two_once a b la lb (at 0 _ _ e) (at 1 _ _ e), ap (drop 2) e)

three_fronts : FrontsAreOne 3
three_fronts a b r s la lb e = (three_once a b la lb (at 0 _ _ e) (at 1 _ _ e) (at 2 _ _ e), ap (drop 3) e)

four_fronts : FrontsAreOne 4
four_fronts a b r s la lb e = (four_once a b la lb (at 0 _ _ e) (at 1 _ _ e) (at 2 _ _ e) (at 3 _ _ e), ap (drop 4) e)

pub one_front : (width : ℕ) → IsWidth width → (a b : ℕ) (r s : List ℕ) → a ≤ most_ids width → b ≤ most_ids width → id_bytes width a ++ r ≡ id_bytes width b ++ s → (a ≡ b) × (r ≡ s)
one_front width fits = at_width FrontsAreOne two_fronts three_fronts four_fronts width fits

pub fits_four : IsWidth 4
fits_four = (omega arith, omega arith)
