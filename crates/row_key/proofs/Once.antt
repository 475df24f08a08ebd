-- A row reads as one thing alone.
use Rattle.std.proofs.Common.{◌≡◌, ◌≢◌, ◌⊎◌, inl, inr, ℕ, zero, suc, ◌+◌, ◌-◌, ◌*◌, ◌/◌, ◌%◌, ◌^◌, ◌≤◌, ◌<◌, List, [], ◌∷◌, ◌++◌, length, get_or, take, drop, Result, Ok, Err, add-zero, zero-mul, take-add, refl, sym, ap, subst, ◌∙◌, arith}
use Rattle.std.proofs.lemmas.List.{append_assoc, drop-drop, flat_map_more, get_or_default, get_or-drop, length-append, length-drop, length_push, take-append-drop}
use Rattle.std.proofs.lemmas.Nat.{div-mul-add}
use Rattle.std.proofs.lemmas.Bool.{cases_lt}
use Rattle.std.proofs.lemmas.List.Elements.{All-head, All-push, All-tail, All-weaker}
use Rattle.std.specs.Prelude.{All, None}
use Rattle.std.specs.List.{flat_map, Any}
use Rattle.std.specs.Int.{w32, to_be_bytes}
use Rattle.row_hours.specs.declared.hours.TheConstants.{HOUR}
use Rattle.row_key.specs.declared.widths.Widths.{Widths}
use Rattle.row_key.specs.declared.keys.RowKey.{RowKey}
use Rattle.row_key.specs.declared.keys.KeyFault.{KeyFault}
use Rattle.row_key.specs.declared.keys.KeyFault.TheVariants.{Length, NoPairs, ZeroId, BaseNotHour, PairsNotRising}
use Rattle.row_key.specs.Key.{CountsPairs, IsId, IsKey, HasParts, HasZeroId, IsFirstFault, ReadsAs, Rises, Small, hour_bytes, hour_len, id_bytes, key_bytes, most_ids, pair_bytes, pair_len}
use Rattle.row_key.proofs.EachWidth.{fits_four, length_bytes, one_front}

-- the tags that were read, and the bytes that are left
pub record IsTail (w : Widths) (bytes : List ℕ) (pairs : List (ℕ × ℕ)) (rest : List ℕ) : Type 0 where
  pub parts : bytes ≡ flat_map (pair_bytes w) pairs ++ rest
  pub ids : All (Small w) pairs
  pub count : ℕ
  pub left : length rest ≡ count * pair_len w
  pub most : count + length pairs ≤ 8
  pub len : length bytes ≡ (count + length pairs) * pair_len w

-- ---- how long a key is

pub pair_length : (w : Widths) (p : ℕ × ℕ) → length (pair_bytes w p) ≡ pair_len w
pair_length w p =
    let joined = length-append (id_bytes w.tag_key p.0) (id_bytes w.tag_value p.1) in
    let key = length_bytes w.tag_key p.0 in
    let value = length_bytes w.tag_value p.1 in
    omega (arith, joined, key, value)

pub long : (w : Widths) (ps : List (ℕ × ℕ)) → length (flat_map (pair_bytes w) ps) ≡ length ps * pair_len w
long w [] = sym (zero-mul (pair_len w))
long w (p ∷ ps) =
    let joined = length-append (pair_bytes w p) (flat_map (pair_bytes w) ps) in
    let h = long w ps in
    let one = pair_length w p in
    omega (arith, joined, h, one)

pub length_of_key : (w : Widths) (key : RowKey) → length (key_bytes w key) ≡ hour_len w + length key.pairs.items * pair_len w
length_of_key w key =
    let joined = length-append (hour_bytes w key.metric key.base) (flat_map (pair_bytes w) key.pairs.items) in
    let hour = length-append (id_bytes w.metric key.metric) (to_be_bytes w32 key.base) in
    let metric = length_bytes w.metric key.metric in
    let tags = long w key.pairs.items in
    omega (arith, joined, hour, metric, tags)

length_of_parts : (w : Widths) (row : List ℕ) (key : RowKey) → HasParts w row key → length row ≡ hour_len w + length key.pairs.items * pair_len w
length_of_parts w row key has = ap (λ (l : List ℕ). length l) has.row_is ∙ length_of_key w key

-- ---- a row has one list of numbers

no_pair : (w : Widths) (p : ℕ × ℕ) (ps : List (ℕ × ℕ)) → length (flat_map (pair_bytes w) (p ∷ ps)) ≡ 0 → ⊥
no_pair w p ps e =
    let l = long w (p ∷ ps) in
    let k = w.key_fits.0 in
    omega (arith, e, l, k)

pairs_once : (w : Widths) (ps qs : List (ℕ × ℕ)) → All (Small w) ps → All (Small w) qs → flat_map (pair_bytes w) ps ≡ flat_map (pair_bytes w) qs → ps ≡ qs
pairs_once w [] [] sp sq e = refl
pairs_once w [] (q ∷ qs) sp sq e = absurd (no_pair w q qs (ap (λ (l : List ℕ). length l) (sym e)))
pairs_once w (p ∷ ps) [] sp sq e = absurd (no_pair w p ps (ap (λ (l : List ℕ). length l) e))
pairs_once w (p ∷ ps) (q ∷ qs) sp sq e =
    let a = All-head (Small w) p ps sp in
    let b = All-head (Small w) q qs sq in
    let joined = sym (append_assoc (id_bytes w.tag_key p.0) (id_bytes w.tag_value p.1) (flat_map (pair_bytes w) ps)) ∙ e ∙ append_assoc (id_bytes w.tag_key q.0) (id_bytes w.tag_value q.1) (flat_map (pair_bytes w) qs) in
    let k = one_front w.tag_key w.key_fits p.0 q.0 _ _ a.0 b.0 joined in
    let v = one_front w.tag_value w.value_fits p.1 q.1 _ _ a.1 b.1 k.1 in
    let rest = pairs_once w ps qs (All-tail (Small w) p ps sp) (All-tail (Small w) q qs sq) v.1 in
    λ i. (k.0 i, v.0 i) ∷ rest i

pub key_parts : (w : Widths) (key : RowKey) → key_bytes w key ≡ id_bytes w.metric key.metric ++ (to_be_bytes w32 key.base ++ flat_map (pair_bytes w) key.pairs.items)
key_parts w key = append_assoc (id_bytes w.metric key.metric) (to_be_bytes w32 key.base) (flat_map (pair_bytes w) key.pairs.items)

parts_once : (w : Widths) (row : List ℕ) (a b : RowKey) → HasParts w row a → HasParts w row b → a ≡ b
parts_once w row a b x y =
    let e = sym (key_parts w a) ∙ sym x.row_is ∙ y.row_is ∙ key_parts w b in
    let metric = one_front w.metric w.metric_fits a.metric b.metric _ _ x.metric y.metric e in
    let base = one_front 4 fits_four a.base b.base _ _ (omega (arith, x.base)) (omega (arith, y.base)) metric.1 in
    let pairs = pairs_once w a.pairs.items b.pairs.items x.ids y.ids base.1 in
    λ i. record { metric = metric.0 i; base = base.0 i; pairs = record { items = pairs i } }

-- ---- a key, from its numbers and back

parts_of_key : (w : Widths) (row : List ℕ) (key : RowKey) → IsKey w key → row ≡ key_bytes w key → HasParts w row key
parts_of_key w row key is e =
    record {
      metric = is.metric.1;
      base = is.base;
      some = is.some;
      most = is.most;
      ids = All-weaker (λ p. IsId w.tag_key p.0 × IsId w.tag_value p.1) (Small w) (λ p h. (h.0.1, h.1.1)) key.pairs.items is.ids;
      row_is = e;
    }

above_zero : (n : ℕ) → n ≢ 0 → 1 ≤ n
above_zero zero h = absurd (h refl)
above_zero (suc n) h = omega arith

abbrev Zero : ℕ × ℕ → Type 0
Zero p = (p.0 ≡ 0) ⊎ (p.1 ≡ 0)

zero_at : (ps : List (ℕ × ℕ)) (k : ℕ) (d : ℕ × ℕ) → k < length ps → Zero (get_or ps k d) → Any Zero ps
zero_at ps k d lt z = (k, get_or ps k d, lt, get_or_default ps k (get_or ps k d) d lt, z)

pub key_of_parts : (w : Widths) (row : List ℕ) (key : RowKey) → HasParts w row key → ¬ HasZeroId key → key.base % HOUR ≡ 0 → Rises key → IsKey w key
key_of_parts w row key has none hour rising =
    record {
      metric = (above_zero key.metric (λ e. none (inl e)), has.metric);
      base = has.base;
      hour = hour;
      some = has.some;
      most = has.most;
      ids = λ k d lt.
          let s = has.ids k d lt in
          ((above_zero _ (λ e. none (inr (zero_at key.pairs.items k d lt (inl e)))), s.0), (above_zero _ (λ e. none (inr (zero_at key.pairs.items k d lt (inr e)))), s.1));
      rising = rising;
    }

no_zero : (w : Widths) (p : ℕ × ℕ) → IsId w.tag_key p.0 × IsId w.tag_value p.1 → ¬ Zero p
no_zero w p is (inl e) = omega (arith, e, is.0.0)
no_zero w p is (inr e) = omega (arith, e, is.1.0)

no_zero_in_key : (w : Widths) (key : RowKey) → IsKey w key → ¬ HasZeroId key
no_zero_in_key w key is (inl e) = omega (arith, e, is.metric.0)
no_zero_in_key w key is (inr (k, p, lt, e, z)) = no_zero w p (subst (λ p. IsId w.tag_key p.0 × IsId w.tag_value p.1) e (is.ids k p lt)) z

-- ---- one answer

fitting : (w : Widths) (row : List ℕ) (key : RowKey) → HasParts w row key → IsFirstFault w row Length → ⊥
fitting w row key has h = h (length key.pairs.items) has.most (length_of_parts w row key has)

some_pairs : (w : Widths) (row : List ℕ) (key : RowKey) → HasParts w row key → length row ≡ hour_len w → ⊥
some_pairs w row key has h =
    let l = length_of_parts w row key has in
    let some = has.some in
    no_tags (length key.pairs.items) (pair_len w) (hour_len w) (length row) some w.key_fits.0 h l
  where
    no_tags : (n pair hour len : ℕ) → 1 ≤ n → 2 ≤ w.tag_key → len ≡ hour → len ≡ hour + n * pair_len w → ⊥
    no_tags zero pair hour len some k h l = absurd (omega (arith, some))
    no_tags (suc n) pair hour len some k h l = omega (arith, k, h, l)

key_or_fault : (w : Widths) (row : List ℕ) (key : RowKey) (fault : KeyFault) → IsKey w key → HasParts w row key → IsFirstFault w row fault → ⊥
key_or_fault w row key Length is has f = fitting w row key has f
key_or_fault w row key NoPairs is has f = some_pairs w row key has f
key_or_fault w row key ZeroId is has (k, h, z) = no_zero_in_key w k (subst (IsKey w) (parts_once w row key k has h) is) z
key_or_fault w row key BaseNotHour is has (k, h, n, b) = b (subst (IsKey w) (parts_once w row key k has h) is).hour
key_or_fault w row key PairsNotRising is has (k, h, n, b, r) = r (subst (IsKey w) (parts_once w row key k has h) is).rising

zero_once : (w : Widths) (row : List ℕ) (a b : RowKey) → HasParts w row a → HasParts w row b → HasZeroId a → ¬ HasZeroId b → ⊥
zero_once w row a b x y z n = n (subst HasZeroId (parts_once w row a b x y) z)

hour_once : (w : Widths) (row : List ℕ) (a b : RowKey) → HasParts w row a → HasParts w row b → a.base % HOUR ≢ 0 → b.base % HOUR ≡ 0 → ⊥
hour_once w row a b x y n e = n (ap (λ (k : RowKey). k.base % HOUR) (parts_once w row a b x y) ∙ e)

fault_once : (w : Widths) (row : List ℕ) (f g : KeyFault) → IsFirstFault w row f → IsFirstFault w row g → f ≡ g
fault_once w row Length Length x y = refl
fault_once w row Length NoPairs x y = absurd (x 0 (omega arith) (omega (arith, y)))
fault_once w row Length ZeroId x y = absurd (fitting w row y.0 y.1 x)
fault_once w row Length BaseNotHour x y = absurd (fitting w row y.0 y.1 x)
fault_once w row Length PairsNotRising x y = absurd (fitting w row y.0 y.1 x)
fault_once w row NoPairs Length x y = absurd (y 0 (omega arith) (omega (arith, x)))
fault_once w row NoPairs NoPairs x y = refl
fault_once w row NoPairs ZeroId x y = absurd (some_pairs w row y.0 y.1 x)
fault_once w row NoPairs BaseNotHour x y = absurd (some_pairs w row y.0 y.1 x)
fault_once w row NoPairs PairsNotRising x y = absurd (some_pairs w row y.0 y.1 x)
fault_once w row ZeroId Length x y = absurd (fitting w row x.0 x.1 y)
fault_once w row ZeroId NoPairs x y = absurd (some_pairs w row x.0 x.1 y)
fault_once w row ZeroId ZeroId x y = refl
fault_once w row ZeroId BaseNotHour x y = absurd (zero_once w row x.0 y.0 x.1 y.1 x.2 y.2)
fault_once w row ZeroId PairsNotRising x y = absurd (zero_once w row x.0 y.0 x.1 y.1 x.2 y.2)
fault_once w row BaseNotHour Length x y = absurd (fitting w row x.0 x.1 y)
fault_once w row BaseNotHour NoPairs x y = absurd (some_pairs w row x.0 x.1 y)
fault_once w row BaseNotHour ZeroId x y = absurd (zero_once w row y.0 x.0 y.1 x.1 y.2 x.2)
fault_once w row BaseNotHour BaseNotHour x y = refl
fault_once w row BaseNotHour PairsNotRising x y = absurd (hour_once w row x.0 y.0 x.1 y.1 x.3 y.3)
fault_once w row PairsNotRising Length x y = absurd (fitting w row x.0 x.1 y)
fault_once w row PairsNotRising NoPairs x y = absurd (some_pairs w row x.0 x.1 y)
fault_once w row PairsNotRising ZeroId x y = absurd (zero_once w row y.0 x.0 y.1 x.1 y.2 x.2)
fault_once w row PairsNotRising BaseNotHour x y = absurd (hour_once w row y.0 x.0 y.1 x.1 y.3 x.3)
fault_once w row PairsNotRising PairsNotRising x y = refl

pub reads_once : (w : Widths) (row : List ℕ) (a b : Result RowKey KeyFault) → ReadsAs w row a → ReadsAs w row b → a ≡ b
reads_once w row (Ok a) (Ok b) x y = ap Ok (parts_once w row a b (parts_of_key w row a x.0 x.1) (parts_of_key w row b y.0 y.1))
reads_once w row (Ok a) (Err g) x y = absurd (key_or_fault w row a g x.0 (parts_of_key w row a x.0 x.1) y)
reads_once w row (Err f) (Ok b) x y = absurd (key_or_fault w row b f y.0 (parts_of_key w row b y.0 y.1) x)
reads_once w row (Err f) (Err g) x y = ap Err (fault_once w row f g x y)

pub alone : (w : Widths) (row : List ℕ) (b : Result RowKey KeyFault) → ReadsAs w row b → (a : Result RowKey KeyFault) → ReadsAs w row a → a ≡ b
alone w row b y a x = reads_once w row a b x y

pub unique_keys : (w : Widths) (a b : RowKey) → IsKey w a → IsKey w b → key_bytes w a ≡ key_bytes w b → a ≡ b
unique_keys w a b x y e = parts_once w (key_bytes w a) a b (parts_of_key w _ a x refl) (parts_of_key w _ b y e)

-- ---- for the code

-- one more tag, whose key is above the last one's
pub rises_more : (ps : List (ℕ × ℕ)) (i : ℕ) → ((j k : ℕ) (d : ℕ × ℕ) → j < k → k < i → (get_or ps j d).0 < (get_or ps k d).0) → i < length ps → (get_or ps (i - 1) (0, 0)).0 < (get_or ps i (0, 0)).0 → (j k : ℕ) (d : ℕ × ℕ) → j < k → k < i + 1 → (get_or ps j d).0 < (get_or ps k d).0
rises_more ps i before inside last j k d jk ki =
    let low = ap (λ (p : ℕ × ℕ). p.0) (get_or_default ps (i - 1) (0, 0) d (omega (arith, inside))) in
    let high = ap (λ (p : ℕ × ℕ). p.0) (get_or_default ps i (0, 0) d inside) in
    let up : (get_or ps (i - 1) d).0 < (get_or ps i d).0 = omega (arith, low, high, last) in
    elim (cases_lt k i) [
      | inl lt ↦ before j k d jk lt
      | inr ge ↦
          let is : k ≡ i = omega (arith, ki, ge) in
          subst (λ n. (get_or ps j d).0 < (get_or ps n d).0) (sym is)
          (elim (cases_lt j (i - 1)) [
            | inl lt ↦ let a = before j (i - 1) d lt (omega (arith, is, jk)) in omega (arith, a, up)
            | inr le ↦ let same : i - 1 ≡ j = omega (arith, is, jk, le) in subst (λ n. (get_or ps n d).0 < (get_or ps i d).0) same up
          ])
    ]

-- ---- how many tags a row has

count_is : (w : Widths) (len n : ℕ) → len ≡ hour_len w + n * pair_len w → (len - hour_len w) / pair_len w ≡ n
count_is w len n e =
    let some = w.key_fits.0 in
    let left : len - hour_len w ≡ n * pair_len w + 0 = omega (arith, e) in
    ap (λ m. m / pair_len w) left ∙ div-mul-add n (pair_len w) 0 (omega (arith, some))

pub none_short : (w : Widths) (len : ℕ) → len < hour_len w → CountsPairs w len None
none_short w len lt n most e = omega (arith, lt, e)

pub none_many : (w : Widths) (len : ℕ) → 8 < (len - hour_len w) / pair_len w → CountsPairs w len None
none_many w len more n most e = let is = count_is w len n e in omega (arith, more, most, is)

pub none_between : (w : Widths) (len : ℕ) → (len - hour_len w) / pair_len w * pair_len w ≢ len - hour_len w → CountsPairs w len None
none_between w len off n most e =
    let left : n * pair_len w ≡ len - hour_len w = omega (arith, e) in
    off (ap (λ m. m * pair_len w) (count_is w len n e) ∙ left)

-- ---- the numbers of a row

front_four : (r : List ℕ) → 4 ≤ length r → r ≡ (get_or r 0 0 ∷ get_or r 1 0 ∷ get_or r 2 0 ∷ get_or r 3 0 ∷ []) ++ drop 4 r
front_four [] l = absurd (omega (arith, l))
front_four (a ∷ []) l = absurd (omega (arith, l))
front_four (a ∷ b ∷ []) l = absurd (omega (arith, l))
front_four (a ∷ b ∷ c ∷ []) l = absurd (omega (arith, l))
front_four (a ∷ b ∷ c ∷ d ∷ r) l = refl

at_drop : (n k m : ℕ) (row : List ℕ) → n + k ≡ m → get_or (drop n row) k 0 ≡ get_or row m 0
at_drop n k m row e = get_or-drop n row k 0 ∙ ap (λ j. get_or row j 0) e

-- a row that is cut before and behind its four bytes from a place on
pub four_at : (n : ℕ) (row b : List ℕ) → n + 4 ≤ length row → b ≡ get_or row n 0 ∷ get_or row (n + 1) 0 ∷ get_or row (n + 2) 0 ∷ get_or row (n + 3) 0 ∷ [] → row ≡ take n row ++ (b ++ drop (n + 4) row)
four_at n row b le is =
    let long : 4 ≤ length (drop n row) = omega (arith, length-drop n row, le) in
    let a = at_drop n 0 n row (omega arith) in
    let c = at_drop n 1 (n + 1) row (omega arith) in
    let d = at_drop n 2 (n + 2) row (omega arith) in
    let e = at_drop n 3 (n + 3) row (omega arith) in
    let behind : drop 4 (drop n row) ≡ drop (n + 4) row = drop-drop 4 n row ∙ ap (λ j. drop j row) (omega arith) in
    let front : get_or (drop n row) 0 0 ∷ get_or (drop n row) 1 0 ∷ get_or (drop n row) 2 0 ∷ get_or (drop n row) 3 0 ∷ [] ≡ b = (λ i. a i ∷ c i ∷ d i ∷ e i ∷ []) ∙ sym is in
    sym (take-append-drop n row) ∙ ap (λ l. take n row ++ l) (front_four (drop n row) long ∙ (λ i. front i ++ behind i))

-- the numbers that were read are those of the row
pub has_parts : (w : Widths) (row : List ℕ) (key : RowKey) (n : ℕ) → 1 ≤ n → n ≤ 8 → length row ≡ hour_len w + n * pair_len w → id_bytes w.metric key.metric ≡ take w.metric row → key.metric ≤ most_ids w.metric → key.base < 2 ^ 32
    → to_be_bytes w32 key.base ≡ get_or row w.metric 0 ∷ get_or row (w.metric + 1) 0 ∷ get_or row (w.metric + 2) 0 ∷ get_or row (w.metric + 3) 0 ∷ []
    → drop (w.metric + 4) row ≡ flat_map (pair_bytes w) key.pairs.items → All (Small w) key.pairs.items → HasParts w row key
has_parts w row key n some most len metric small base four tags ids =
    let l = long w key.pairs.items in
    let d = length-drop (w.metric + 4) row in
    let cut : n * pair_len w ≡ length key.pairs.items * pair_len w = omega (arith, len, d) ∙ ap (λ (x : List ℕ). length x) tags ∙ l in
    let count : n ≡ length key.pairs.items = sym (whole n) ∙ ap (λ m. m / pair_len w) cut ∙ whole (length key.pairs.items) in
    record {
      metric = small;
      base = base;
      some = omega (arith, count, some);
      most = omega (arith, count, most);
      ids = ids;
      row_is = four_at w.metric row (to_be_bytes w32 key.base) (omega (arith, len)) four ∙ (λ i. sym metric i ++ (to_be_bytes w32 key.base ++ tags i)) ∙ sym (key_parts w key);
    }
  where
    whole : (m : ℕ) → (m * pair_len w) / pair_len w ≡ m
    whole m = let some = w.key_fits.0 in ap (λ k. k / pair_len w) (sym (add-zero (m * pair_len w))) ∙ div-mul-add m (pair_len w) 0 (omega (arith, some))

-- the bytes of a tag's two ids
pub first_two : (w : Widths) (bytes : List ℕ) (a b : ℕ) → id_bytes w.tag_key a ≡ take w.tag_key bytes → id_bytes w.tag_value b ≡ take (w.tag_key + w.tag_value - w.tag_key) (drop w.tag_key bytes) → pair_bytes w (a, b) ≡ take (pair_len w) bytes
first_two w bytes a b x y =
    let behind : w.tag_key + w.tag_value - w.tag_key ≡ w.tag_value = omega arith in
    let value = y ∙ ap (λ n. take n (drop w.tag_key bytes)) behind in
    (λ i. x i ++ value i) ∙ sym (take-add w.tag_key w.tag_value bytes)

-- where bytes are left, there are those of a tag
pub some_pair : (w : Widths) (bytes rest : List ℕ) (pairs : List (ℕ × ℕ)) → IsTail w bytes pairs rest → 1 ≤ length rest → pair_len w ≤ length rest
some_pair w bytes rest pairs t some = by t.count t.left
  where
    by : (n : ℕ) → length rest ≡ n * pair_len w → pair_len w ≤ length rest
    by zero e = absurd (omega (arith, e, some))
    by (suc n) e = omega (arith, e)

-- one more tag is read
pub tag_more : (w : Widths) (bytes rest after : List ℕ) (pairs new : List (ℕ × ℕ)) (p : ℕ × ℕ) → IsTail w bytes pairs rest → 1 ≤ length rest → after ≡ drop (pair_len w) rest → new ≡ pairs ++ p ∷ []
    → pair_bytes w p ≡ take (pair_len w) rest → Small w p → IsTail w bytes new after
tag_more w bytes rest after pairs new p t some after_is new_is one small = by t.count t.left t.most t.len
  where
    la : length after ≡ length rest - pair_len w
    la = ap (λ (l : List ℕ). length l) after_is ∙ length-drop (pair_len w) rest

    ln : length new ≡ length pairs + 1
    ln = ap (λ (l : List (ℕ × ℕ)). length l) new_is ∙ length_push pairs p

    by : (n : ℕ) → length rest ≡ n * pair_len w → n + length pairs ≤ 8 → length bytes ≡ (n + length pairs) * pair_len w → IsTail w bytes new after
    by zero left most len = absurd (omega (arith, left, some))
    by (suc n) left most len =
        record {
          parts = t.parts ∙ ap (λ l. flat_map (pair_bytes w) pairs ++ l) (sym (take-append-drop (pair_len w) rest)) ∙ sym (append_assoc (flat_map (pair_bytes w) pairs) (take (pair_len w) rest) (drop (pair_len w) rest))
              ∙ (λ i. (flat_map (pair_bytes w) pairs ++ sym one i) ++ sym after_is i) ∙ ap (λ l. l ++ after) (flat_map_more (pair_bytes w) [] pairs p) ∙ ap (λ l. flat_map (pair_bytes w) l ++ after) (sym new_is);
          ids = subst (All (Small w)) (sym new_is) (All-push (Small w) pairs p t.ids small);
          count = n;
          left = omega (arith, la, left);
          most = omega (arith, ln, most);
          len = let same : n + length new ≡ suc n + length pairs = omega (arith, ln) in len ∙ ap (λ k. k * pair_len w) (sym same);
        }
