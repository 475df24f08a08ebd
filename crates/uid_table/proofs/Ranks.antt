-- Bytes as numbers that rise with their order, by which a search comes to its end.
use Rattle.std.proofs.Common.{◌≡◌, ◌⊎◌, inl, inr, ℕ, zero, suc, ◌+◌, ◌-◌, ◌≤◌, ◌<◌, true, false, List, [], ◌∷◌, ◌++◌, length, sym, ap, subst, ◌∙◌, arith, length-append, Less, Equal, Greater}
use Rattle.std.specs.Prelude.{All}
use Rattle.std.specs.List.{list_all}
use Rattle.std.specs.Ordering.{is_lt}
use Rattle.std.proofs.lemmas.List.Elements.{All-cons, All-nil, All-tail, All-head, All-push}
use Rattle.list_lemmas.proofs.BoolTests.{both_true}
use Rattle.tsd_base.specs.Alphabet.{is_name_byte}
use Rattle.row_key.specs.declared.tables.Table.TheVariants.{Ids}
use Rattle.list_lemmas.specs.BytesOrder.{bytes_cmp}
use Rattle.cell_model.specs.KindWidths.{Widths}
use Rattle.cell_model.specs.Ranges.{InOneRange, IsWithin}
use Rattle.uid_table.specs.Suggest.{CanSearch, IsBehind, IsNameRange}
use Rattle.uid_table.proofs.ByteOrder.{by_order, decides, greater_less, nothing_below, at_least, not_below, not_both, less_or_not, behind_above, behind_in, behind_is_above, below_first, first_above, tied}

-- (k + 1) * t
times : ℕ → ℕ → ℕ
times zero t = t
times (suc k) t = times k t + t

-- above all numbers of n bytes
top : ℕ → ℕ
top zero = 1
top (suc n) = times 256 (top n)

-- the first n bytes as a number, each byte one more, so that a longer list is above its beginning
rank : ℕ → List ℕ → ℕ
rank zero xs = 0
rank (suc n) [] = 0
rank (suc n) (b ∷ bs) = times b (top n) + rank n bs

times-least : (k t : ℕ) → t ≤ times k t
unfolding times
times-least zero t = omega arith
times-least (suc k) t = omega arith

times-less : (x y t : ℕ) → x < y → times x t + t ≤ times y t
unfolding times
times-less x zero t lt = absurd (omega (arith, lt))
times-less zero (suc y) t lt = let m = times-least y t in omega (arith, m)
times-less (suc x) (suc y) t lt = let m = times-less x y t (omega (arith, lt)) in omega (arith, m)

top-least : (n : ℕ) → 1 ≤ top n
unfolding top
top-least zero = omega arith
top-least (suc n) = let a = top-least n in let b = times-least 256 (top n) in omega (arith, a, b)

rank-top : (n : ℕ) (a : List ℕ) → All (λ b. b < 256) a → rank n a < top n
unfolding rank top
rank-top zero a all = omega arith
rank-top (suc n) [] all = top-least (suc n)
rank-top (suc n) (b ∷ a) all =
    let low = All-head (λ x. x < 256) b a all in
    let rest = rank-top n a (All-tail (λ x. x < 256) b a all) in
    let up = times-less b 256 (top n) low in
    omega (arith, rest, up)

rank-less : (n : ℕ) (a b : List ℕ) → length a ≤ n → length b ≤ n → All (λ x. x < 256) a → bytes_cmp a b ≡ Less → rank n a < rank n b
unfolding rank
rank-less zero [] [] la lb all lt = absurd cc
rank-less zero [] (y ∷ b) la lb all lt = absurd (omega (arith, lb))
rank-less zero (x ∷ a) b la lb all lt = absurd (omega (arith, la))
rank-less (suc n) [] [] la lb all lt = absurd cc
rank-less (suc n) [] (y ∷ b) la lb all lt = let t = top-least n in let m = times-least y (top n) in omega (arith, t, m)
rank-less (suc n) (x ∷ a) [] la lb all lt = absurd (nothing_below (x ∷ a) lt)
rank-less (suc n) (x ∷ a) (y ∷ b) la lb all lt =
    by_order x y
    (λ o l. let m = times-less x y (top n) l in let r = rank-top n a (All-tail (λ z. z < 256) x a all) in omega (arith, m, r))
    (λ o s. let r = rank-less n a b (omega (arith, la)) (omega (arith, lb)) (All-tail (λ z. z < 256) x a all) (sym (decides x y a b Equal o) ∙ lt) in let e = ap (λ k. times k (top n)) s in omega (arith, r, e))
    (λ o l. absurd (greater_less (sym (decides x y a b Greater o) ∙ lt)))

-- how far it is to the end
pub left_from : List ℕ → ℕ
left_from xs = top 256 - rank 256 xs

byte_small : (b : ℕ) → is_name_byte b ≡ true → b < 256
byte_small b e = grind (arith)

pub name_bytes : (xs : List ℕ) → list_all is_name_byte xs ≡ true → All (λ b. b < 256) xs
name_bytes [] e = All-nil (λ b. b < 256)
name_bytes (x ∷ xs) e = let w = both_true (is_name_byte x) (list_all is_name_byte xs) e in All-cons (λ b. b < 256) x xs (byte_small x w.0) (name_bytes xs w.1)

-- the edges of a range
pub range_edges : (low high : ℕ) → IsNameRange low high → (1 ≤ low) × (low < high)
range_edges low high (inl e) = (let a = e.0 in omega (arith, a), let a = e.0 in let b = e.1 in omega (arith, a, b))
range_edges low high (inr (inl e)) = (let a = e.0 in omega (arith, a), let a = e.0 in let b = e.1 in omega (arith, a, b))
range_edges low high (inr (inr (inl e))) = (let a = e.0 in omega (arith, a), let a = e.0 in let b = e.1 in omega (arith, a, b))
range_edges low high (inr (inr (inr e))) = (let a = e.0 in omega (arith, a), let a = e.0 in let b = e.1 in omega (arith, a, b))

within : (prefix : List ℕ) (low high : ℕ) (from : List ℕ) → low < high → CanSearch prefix low high from → IsWithin low high from (high ∷ [])
within prefix low high from lt s = record { from_on = s.on; from_at = s.at; to_on = first_above high low [] (omega (arith, lt)); to_at = ap is_lt (tied (high ∷ [])) }

pub in_one_range : (w : Widths) (prefix : List ℕ) (low high : ℕ) (from : List ℕ) → IsNameRange low high → CanSearch prefix low high from → InOneRange w Ids from (high ∷ [])
in_one_range w prefix low high from r s = at r (within prefix low high from (range_edges low high r).1 s)
  where
    moved : (a b : ℕ) → low ≡ a → high ≡ b → IsWithin low high from (high ∷ []) → IsWithin a b from (high ∷ [])
    moved a b x y w = subst (λ (e : ℕ × ℕ). IsWithin e.0 e.1 from (high ∷ [])) (λ i. (x i, y i)) w

    at : IsNameRange low high → IsWithin low high from (high ∷ []) → InOneRange w Ids from (high ∷ [])
    at (inl e) within_it = inl (moved 1 65 e.0 e.1 within_it)
    at (inr (inl e)) within_it = inr (inl (moved 65 97 e.0 e.1 within_it))
    at (inr (inr (inl e))) within_it = inr (inr (inl (moved 97 110 e.0 e.1 within_it)))
    at (inr (inr (inr e))) within_it = inr (inr (inr (moved 110 123 e.0 e.1 within_it)))

-- the row of the counters is before all of them
pub above_zero : (prefix : List ℕ) (low high : ℕ) (from : List ℕ) → 1 ≤ low → CanSearch prefix low high from → bytes_cmp (0 ∷ []) from ≡ Less
above_zero prefix low high from some s = elim (less_or_not (bytes_cmp (0 ∷ []) from)) [
  | inl l ↦ l
  | inr e ↦ absurd (not_both _ (at_least (0 ∷ []) from (low ∷ []) e (below_first 0 low [] (omega (arith, some)))) s.on)
]

-- the search goes on behind a name
pub can_go_on : (prefix : List ℕ) (low high : ℕ) (from next : List ℕ) → low < high → CanSearch prefix low high from → IsBehind from high next → CanSearch prefix low high next
can_go_on prefix low high from next lt s (name, is, named, on, before) = subst (CanSearch prefix low high) (sym is) (record {
  on = behind_above name (low ∷ []) (not_below name from (low ∷ []) on s.on);
  at = behind_in name high (omega (arith, lt)) before;
  above = behind_above name prefix (not_below name from prefix on s.above);
  short = let n = length-append name (0 ∷ []) in let m = named.most in omega (arith, n, m);
  bytes = All-push (λ b. b < 256) name 0 (name_bytes name named.alphabet) (omega arith);
})

-- and is nearer to its end
pub nearer : (prefix : List ℕ) (low high : ℕ) (from next : List ℕ) → low < high → CanSearch prefix low high from → IsBehind from high next → left_from next < left_from from
unfolding left_from
nearer prefix low high from next lt s (name, is, named, on, before) =
    let later = can_go_on prefix low high from next lt s (name, is, named, on, before) in
    let above : bytes_cmp from next ≡ Less = subst (λ n. bytes_cmp from n ≡ Less) (sym is) (up (less_or_not (bytes_cmp from (name ++ 0 ∷ [])))) in
    let more = rank-less 256 from next s.short later.short s.bytes above in
    let end = rank-top 256 next later.bytes in
    omega (arith, more, end)
  where
    up : (bytes_cmp from (name ++ 0 ∷ []) ≡ Less) ⊎ (is_lt (bytes_cmp from (name ++ 0 ∷ [])) ≡ false) → bytes_cmp from (name ++ 0 ∷ []) ≡ Less
    up (inl l) = l
    up (inr e) = absurd (not_both _ (behind_is_above name) (not_below name from (name ++ 0 ∷ []) on e))
