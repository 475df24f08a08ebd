-- The order of ids by their bytes.
use Rattle.std.proofs.Common.{◌≡◌, ℕ, ◌≤◌, ◌<◌, false, List, [], ◌∷◌, ◌++◌, refl, sym, ap, ap₂, ◌∙◌, arith}
use Rattle.std.proofs.lemmas.Cmp.{ranked}
use Rattle.std.specs.Int.{byte_at}
use Rattle.std.specs.declared.cmp.Ordering.{Ordering}
use Rattle.std.specs.declared.cmp.Ordering.TheVariants.{Less, Equal, Greater}
use Rattle.std.specs.Ordering.{nat_cmp, ordering_then, is_lt}
use Rattle.std.specs.Cmp.{nat_cmp_total, tied_itself}
use Rattle.std.specs.Cmp.Lexicographic.{nat_list_cmp_total}
use Rattle.tsd_base.specs.declared.kinds.Kind.{Kind}
use Rattle.list_lemmas.specs.BytesOrder.{bytes_cmp}
use Rattle.list_lemmas.proofs.ListCuts.{nothing_behind}
use Rattle.row_key.specs.IdWidths.{IsWidth, id_bytes, most_ids}
use Rattle.row_key.proofs.CallerLemmas.{at_width}
use Rattle.cell_model.specs.KindWidths.{Widths, greatest, kind_bytes, width_of}
use Rattle.cell_model.proofs.CallerLemmas.{kind_fits}
use Rattle.listing_print.proofs.RowOrder.{not_back}

less_step : (a b : ℕ) (o : Ordering) → (b < a → ⊥) → (a ≡ b → o ≡ Less) → ordering_then (nat_cmp a b) o ≡ Less
less_step a b o up same = at (nat_cmp a b) refl
  where
    at : (r : Ordering) → r ≡ nat_cmp a b → ordering_then r o ≡ Less
    at Less e = refl
    at Equal e = same (ranked a b Equal e)
    at Greater e = absurd (up (ranked a b Greater e))

-- the lesser id has the lesser bytes, whatever stands behind them
abbrev Below : ℕ → Type 0
Below width = (x y : ℕ) (r s : List ℕ) → x < y → y ≤ most_ids width → bytes_cmp (id_bytes width x ++ r) (id_bytes width y ++ s) ≡ Less

below_two : Below 2
below_two x y r s lt most =
    less_step (byte_at 1 x) (byte_at 1 y) _ (λ u. omega (arith, lt, most, u)) (λ a.
    less_step (byte_at 0 x) (byte_at 0 y) _ (λ u. omega (arith, lt, most, a, u)) (λ b. absurd (omega (arith, lt, most, a, b))))

below_three : Below 3
below_three x y r s lt most =
    less_step (byte_at 2 x) (byte_at 2 y) _ (λ u. omega (arith, lt, most, u)) (λ a.
    less_step (byte_at 1 x) (byte_at 1 y) _ (λ u. omega (arith, lt, most, a, u)) (λ b.
    less_step (byte_at 0 x) (byte_at 0 y) _ (λ u. omega (arith, lt, most, a, b, u)) (λ c. absurd (omega (arith, lt, most, a, b, c)))))

below_four : Below 4
below_four x y r s lt most =
    less_step (byte_at 3 x) (byte_at 3 y) _ (λ u. omega (arith, lt, most, u)) (λ a.
    less_step (byte_at 2 x) (byte_at 2 y) _ (λ u. omega (arith, lt, most, a, u)) (λ b.
    less_step (byte_at 1 x) (byte_at 1 y) _ (λ u. omega (arith, lt, most, a, b, u)) (λ c.
    less_step (byte_at 0 x) (byte_at 0 y) _ (λ u. omega (arith, lt, most, a, b, c, u)) (λ d. absurd (omega (arith, lt, most, a, b, c, d))))))

pub id_below : (width : ℕ) → IsWidth width → Below width
id_below width fits = at_width Below below_two below_three below_four width fits

pub same_front : (front r s : List ℕ) → bytes_cmp (front ++ r) (front ++ s) ≡ bytes_cmp r s
same_front [] r s = refl
same_front (x ∷ front) r s = ap (λ o. ordering_then o (bytes_cmp (front ++ r) (front ++ s))) (tied_itself nat_cmp_total x) ∙ same_front front r s

-- of one kind
pub kind_below : (w : Widths) (kind : Kind) (x y : ℕ) → x < y → y ≤ greatest w kind → bytes_cmp (kind_bytes w kind x) (kind_bytes w kind y) ≡ Less
kind_below w kind x y lt most =
    ap₂ bytes_cmp (sym (nothing_behind (kind_bytes w kind x))) (sym (nothing_behind (kind_bytes w kind y))) ∙ id_below (width_of w kind) (kind_fits w kind) x y [] [] lt most

-- an id from another one on isn't below it
pub kind_on : (w : Widths) (kind : Kind) (x y : ℕ) → x ≤ y → y ≤ greatest w kind → is_lt (bytes_cmp (kind_bytes w kind y) (kind_bytes w kind x)) ≡ false
kind_on w kind x y le most = at (nat_cmp x y) refl
  where
    at : (r : Ordering) → r ≡ nat_cmp x y → is_lt (bytes_cmp (kind_bytes w kind y) (kind_bytes w kind x)) ≡ false
    at Less e = not_back nat_list_cmp_total (kind_bytes w kind x) (kind_bytes w kind y) (kind_below w kind x y (ranked x y Less e) most)
    at Equal e = ap (λ n. is_lt (bytes_cmp (kind_bytes w kind y) (kind_bytes w kind n))) (ranked x y Equal e) ∙ ap is_lt (tied_itself nat_list_cmp_total (kind_bytes w kind y))
    at Greater e = let up = ranked x y Greater e in absurd (omega (arith, up, le))
