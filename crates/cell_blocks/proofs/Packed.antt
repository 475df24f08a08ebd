-- What a block's cells are after an edit.
use Rattle.std.proofs.Common.{◌≡◌, ◌⊎◌, inl, inr, ℕ, zero, suc, ◌+◌, ◌≤◌, ◌<◌, List, [], ◌∷◌, ◌++◌, length, take, drop, refl, sym, ap, subst, ◌∙◌, arith}
use Rattle.std.specs.Prelude.{map, insert, slice_set, slice_index_or}
use Rattle.std.specs.List.{remove}
use Rattle.std.proofs.lemmas.List.{length-take-le, drop-drop, take-append-le, drop-append-le, take_at, drop_at, take_all, length-append, take-append-drop, length-drop, append_assoc}
use Rattle.std.proofs.lemmas.Slice.{drop-put_mid}
use Rattle.qual_codec.specs.declared.cells.Cell.{Cell}
use Rattle.cell_blocks.specs.declared.mixed_cells.Span.{Span}
use Rattle.cell_blocks.specs.Packed.{cell_at, cells_at, AllApart, AllKept, end_of, stamped_at, overwritten}

pub slice_kept : (bytes more : List ℕ) (at n : ℕ) → at + n ≤ length bytes → take n (drop at (bytes ++ more)) ≡ take n (drop at bytes)
slice_kept bytes more at n le =
    ap (take n) (drop-append-le at bytes more (omega arith)) ∙ take-append-le n (drop at bytes) more (omega (arith, length-drop at bytes))

pub cell_kept : (bytes more : List ℕ) (h : Span) → h.at + h.qual_len + h.value_len ≤ length bytes → cell_at (bytes ++ more) h ≡ cell_at bytes h
cell_kept bytes more h le =
    let q : take h.qual_len (drop h.at (bytes ++ more)) ≡ take h.qual_len (drop h.at bytes) = slice_kept bytes more h.at h.qual_len (omega arith) in
    let v : take h.value_len (drop (h.at + h.qual_len) (bytes ++ more)) ≡ take h.value_len (drop (h.at + h.qual_len) bytes) = slice_kept bytes more (h.at + h.qual_len) h.value_len (omega arith) in
    λ i. record { qual = q i; value = v i; version = h.version }

-- bytes behind the block change no cell
pub cells_kept : (bytes more : List ℕ) (hs : List Span) → AllKept (length bytes) hs → cells_at (bytes ++ more) hs ≡ cells_at bytes hs
cells_kept bytes more [] k = refl
cells_kept bytes more (h ∷ hs) k = λ i. cell_kept bytes more h k.0 i ∷ cells_kept bytes more hs k.1.1 i

pub kept_longer : (n m : ℕ) (hs : List Span) → n ≤ m → AllKept n hs → AllKept m hs
kept_longer n m [] le k = tt
kept_longer n m (h ∷ hs) le k = (omega (arith, k.0), (k.1.0, kept_longer n m hs le k.1.1))

pub kept_at : (n : ℕ) (hs : List Span) (i : ℕ) (d : Span) → AllKept n hs → i < length hs → (slice_index_or hs i d).at + (slice_index_or hs i d).qual_len + (slice_index_or hs i d).value_len ≤ n
kept_at n [] i d k lt = absurd (omega arith)
kept_at n (h ∷ hs) zero d k lt = k.0
kept_at n (h ∷ hs) (suc i) d k lt = kept_at n hs i d k.1.1 (omega arith)

swap : (a b c d : ℕ) → (b ≤ c) ⊎ (d ≤ a) → (d ≤ a) ⊎ (b ≤ c)
swap a b c d (inl le) = inr le
swap a b c d (inr le) = inl le

apart_insert : (a b : ℕ) (hs : List Span) (i : ℕ) (h : Span) → AllApart a b hs → (b ≤ h.at) ⊎ (end_of h ≤ a) → AllApart a b (insert hs i h)
apart_insert a b [] zero h k p = (p, tt)
apart_insert a b [] (suc i) h k p = (p, tt)
apart_insert a b (x ∷ hs) zero h k p = (p, k)
apart_insert a b (x ∷ hs) (suc i) h k p = (k.0, apart_insert a b hs i h k.1 p)

apart_set : (a b : ℕ) (hs : List Span) (i : ℕ) (h : Span) → AllApart a b hs → (b ≤ h.at) ⊎ (end_of h ≤ a) → AllApart a b (slice_set hs i h)
apart_set a b [] i h k p = tt
apart_set a b (x ∷ hs) zero h k p = (p, k.1)
apart_set a b (x ∷ hs) (suc i) h k p = (k.0, apart_set a b hs i h k.1 p)

apart_remove : (a b : ℕ) (hs : List Span) (i : ℕ) → AllApart a b hs → AllApart a b (remove hs i)
apart_remove a b [] zero k = tt
apart_remove a b [] (suc i) k = tt
apart_remove a b (x ∷ hs) zero k = k.1
apart_remove a b (x ∷ hs) (suc i) k = (k.0, apart_remove a b hs i k.1)

-- a head with the place of the one at i, and another version
abbrev pub moved : Span → ℕ → Span
moved h n = record { at = h.at; qual_len = h.qual_len; value_len = h.value_len; version = n }

apart_stamp : (a b : ℕ) (hs : List Span) (i n : ℕ) (d : Span) → AllApart a b hs → AllApart a b (slice_set hs i (moved (slice_index_or hs i d) n))
apart_stamp a b [] i n d k = tt
apart_stamp a b (x ∷ hs) zero n d k = (k.0, k.1)
apart_stamp a b (x ∷ hs) (suc i) n d k = (k.0, apart_stamp a b hs i n d k.1)

-- heads of a block of n bytes are apart from all that begins at n
apart_behind : (n b : ℕ) (hs : List Span) → AllKept n hs → AllApart n b hs
apart_behind n b [] k = tt
apart_behind n b (h ∷ hs) k = (inr k.0, apart_behind n b hs k.1.1)

-- a head behind the first n bytes, within m
pub kept_insert : (n m : ℕ) (hs : List Span) (i : ℕ) (h : Span) → AllKept n hs → n ≤ h.at → end_of h ≤ m → AllKept m (insert hs i h)
kept_insert n m [] zero h k from to = (to, (tt, tt))
kept_insert n m [] (suc i) h k from to = (to, (tt, tt))
kept_insert n m (x ∷ hs) zero h k from to = (to, (apart_behind h.at (end_of h) (x ∷ hs) (kept_longer n h.at (x ∷ hs) from k), kept_longer n m (x ∷ hs) (omega (arith, from, to)) k))
kept_insert n m (x ∷ hs) (suc i) h k from to = (omega (arith, k.0, from, to), (apart_insert x.at (end_of x) hs i h k.1.0 (inl (omega (arith, k.0, from))), kept_insert n m hs i h k.1.1 from to))

pub kept_set : (n m : ℕ) (hs : List Span) (i : ℕ) (h : Span) → AllKept n hs → n ≤ h.at → end_of h ≤ m → AllKept m (slice_set hs i h)
kept_set n m [] i h k from to = tt
kept_set n m (x ∷ hs) zero h k from to = (to, (apart_behind h.at (end_of h) hs (kept_longer n h.at hs from k.1.1), kept_longer n m hs (omega (arith, from, to)) k.1.1))
kept_set n m (x ∷ hs) (suc i) h k from to = (omega (arith, k.0, from, to), (apart_set x.at (end_of x) hs i h k.1.0 (inl (omega (arith, k.0, from))), kept_set n m hs i h k.1.1 from to))

kept_moved : (n : ℕ) (hs : List Span) (i v : ℕ) (d : Span) → AllKept n hs → AllKept n (slice_set hs i (moved (slice_index_or hs i d) v))
kept_moved n [] i v d k = tt
kept_moved n (x ∷ hs) zero v d k = (k.0, (k.1.0, k.1.1))
kept_moved n (x ∷ hs) (suc i) v d k = (k.0, (apart_stamp x.at (end_of x) hs i v d k.1.0, kept_moved n hs i v d k.1.1))

pub kept_remove : (n : ℕ) (hs : List Span) (i : ℕ) → AllKept n hs → AllKept n (remove hs i)
kept_remove n [] zero k = tt
kept_remove n [] (suc i) k = tt
kept_remove n (x ∷ hs) zero k = k.1.1
kept_remove n (x ∷ hs) (suc i) k = (k.0, (apart_remove x.at (end_of x) hs i k.1.0, kept_remove n hs i k.1.1))

-- what was put behind the block is the new head's cell
pub cell_new : (bytes q v : List ℕ) (n : ℕ) → cell_at (bytes ++ q ++ v) (record { at = length bytes; qual_len = length q; value_len = length v; version = n }) ≡ record { qual = q; value = v; version = n }
cell_new bytes q v n =
    let a : take (length q) (drop (length bytes) (bytes ++ q ++ v)) ≡ q = slice_kept (bytes ++ q) v (length bytes) (length q) (omega (arith, length-append bytes q)) ∙ ap (take (length q)) (drop_at bytes q (length bytes) refl) ∙ take_all (length q) q (omega arith) in
    let b : take (length v) (drop (length bytes + length q) (bytes ++ q ++ v)) ≡ v = ap (take (length v)) (drop_at (bytes ++ q) v (length bytes + length q) (length-append bytes q)) ∙ take_all (length v) v (omega arith) in
    λ i. record { qual = a i; value = b i; version = n }

module _ {A B : Type 0} (f : A → B) where
  pub map_insert : (xs : List A) (i : ℕ) (x : A) → map f (insert xs i x) ≡ insert (map f xs) i (f x)
  map_insert [] zero x = refl
  map_insert [] (suc i) x = refl
  map_insert (y ∷ xs) zero x = refl
  map_insert (y ∷ xs) (suc i) x = ap (λ zs. f y ∷ zs) (map_insert xs i x)

  pub map_set : (xs : List A) (i : ℕ) (x : A) → map f (slice_set xs i x) ≡ slice_set (map f xs) i (f x)
  map_set [] i x = refl
  map_set (y ∷ xs) zero x = refl
  map_set (y ∷ xs) (suc i) x = ap (λ zs. f y ∷ zs) (map_set xs i x)

  pub map_remove : (xs : List A) (i : ℕ) → map f (remove xs i) ≡ remove (map f xs) i
  map_remove [] zero = refl
  map_remove [] (suc i) = refl
  map_remove (y ∷ xs) zero = refl
  map_remove (y ∷ xs) (suc i) = ap (λ zs. f y ∷ zs) (map_remove xs i)

  pub map_at : (xs : List A) (i : ℕ) (d : A) (e : B) → i < length xs → slice_index_or (map f xs) i e ≡ f (slice_index_or xs i d)
  map_at [] i d e lt = absurd (omega arith)
  map_at (y ∷ xs) zero d e lt = refl
  map_at (y ∷ xs) (suc i) d e lt = map_at xs i d e (omega arith)

-- the block and the heads after a cell was put behind the block
abbrev head : List ℕ → List ℕ → List ℕ → ℕ → Span
head bytes q v n = record { at = length bytes; qual_len = length q; value_len = length v; version = n }

head_fits : (bytes q v : List ℕ) → length bytes + length q + length v ≤ length (bytes ++ q ++ v)
head_fits bytes q v = omega (arith, length-append (bytes ++ q) v, length-append bytes q)

pub inserted_kept : (bytes q v : List ℕ) (n : ℕ) (hs : List Span) (i : ℕ) → AllKept (length bytes) hs → AllKept (length (bytes ++ q ++ v)) (insert hs i (record { at = length bytes; qual_len = length q; value_len = length v; version = n }))
inserted_kept bytes q v n hs i k =
    kept_insert (length bytes) _ hs i (head bytes q v n) k (omega arith) (head_fits bytes q v)

pub inserted : (bytes q v : List ℕ) (n : ℕ) (hs : List Span) (i : ℕ) → AllKept (length bytes) hs → cells_at (bytes ++ q ++ v) (insert hs i (record { at = length bytes; qual_len = length q; value_len = length v; version = n })) ≡ insert (cells_at bytes hs) i (record { qual = q; value = v; version = n })
inserted bytes q v n hs i k =
    let same : cells_at (bytes ++ q ++ v) hs ≡ cells_at bytes hs = subst (λ (b : List ℕ). cells_at b hs ≡ cells_at bytes hs) (sym (append_assoc bytes q v)) (cells_kept bytes (q ++ v) hs k) in
    map_insert (cell_at (bytes ++ q ++ v)) hs i (head bytes q v n) ∙ (λ j. insert (same j) i (cell_new bytes q v n j))

pub set_kept : (bytes q v : List ℕ) (n : ℕ) (hs : List Span) (i : ℕ) → AllKept (length bytes) hs → AllKept (length (bytes ++ q ++ v)) (slice_set hs i (record { at = length bytes; qual_len = length q; value_len = length v; version = n }))
set_kept bytes q v n hs i k =
    kept_set (length bytes) _ hs i (head bytes q v n) k (omega arith) (head_fits bytes q v)

pub was_set : (bytes q v : List ℕ) (n : ℕ) (hs : List Span) (i : ℕ) → AllKept (length bytes) hs → cells_at (bytes ++ q ++ v) (slice_set hs i (record { at = length bytes; qual_len = length q; value_len = length v; version = n })) ≡ slice_set (cells_at bytes hs) i (record { qual = q; value = v; version = n })
was_set bytes q v n hs i k =
    let same : cells_at (bytes ++ q ++ v) hs ≡ cells_at bytes hs = subst (λ (b : List ℕ). cells_at b hs ≡ cells_at bytes hs) (sym (append_assoc bytes q v)) (cells_kept bytes (q ++ v) hs k) in
    map_set (cell_at (bytes ++ q ++ v)) hs i (head bytes q v n) ∙ (λ j. slice_set (same j) i (cell_new bytes q v n j))

pub more_kept : (bytes more : List ℕ) (hs : List Span) → AllKept (length bytes) hs → AllKept (length (bytes ++ more)) hs
more_kept bytes more hs k = kept_longer (length bytes) _ hs (omega (arith, length-append bytes more)) k

-- a stamp
pub stamp_kept : (m : ℕ) (hs : List Span) (i n : ℕ) (h : Span) → AllKept m hs → i < length hs → ((d : Span) → h ≡ slice_index_or hs i d) → AllKept m (slice_set hs i (record { at = h.at; qual_len = h.qual_len; value_len = h.value_len; version = n }))
stamp_kept m hs i n h k lt is = subst (λ (x : Span). AllKept m (slice_set hs i (moved x n))) (sym (is h)) (kept_moved m hs i n h k)

pub was_stamped : (bytes : List ℕ) (hs : List Span) (i n : ℕ) (h : Span) (d : Cell) → i < length hs → ((e : Span) → h ≡ slice_index_or hs i e) → cells_at bytes (slice_set hs i (record { at = h.at; qual_len = h.qual_len; value_len = h.value_len; version = n })) ≡ slice_set (cells_at bytes hs) i (stamped_at (slice_index_or (cells_at bytes hs) i d) n)
was_stamped bytes hs i n h d lt is =
    map_set (cell_at bytes) hs i _ ∙ ap (λ (c : Cell). slice_set (cells_at bytes hs) i (stamped_at c n)) (ap (cell_at bytes) (is h) ∙ sym (map_at (cell_at bytes) hs i h d lt))

-- a write within the block changes nothing before it and nothing behind it
pub written_before : (bytes w : List ℕ) (p at n : ℕ) → p + length w ≤ length bytes → at + n ≤ p → take n (drop at (overwritten bytes p w)) ≡ take n (drop at bytes)
written_before bytes w p at n fits le =
    slice_kept (take p bytes) (w ++ drop (p + length w) bytes) at n (omega (arith, length-take-le p bytes (omega arith)))
    ∙ sym (slice_kept (take p bytes) (drop p bytes) at n (omega (arith, length-take-le p bytes (omega arith))))
    ∙ ap (λ (b : List ℕ). take n (drop at b)) (take-append-drop p bytes)

written_behind : (bytes w : List ℕ) (p at n : ℕ) → p + length w ≤ length bytes → p + length w ≤ at → take n (drop at (overwritten bytes p w)) ≡ take n (drop at bytes)
written_behind bytes w p at n fits le =
    ap (λ (b : List ℕ). take n (drop at (take p bytes ++ (w ++ b)))) (sym (drop-drop (length w) p bytes))
    ∙ ap (take n) (drop-put_mid p (length w) bytes w at le (omega arith) refl)

pub written_at : (bytes w : List ℕ) (p : ℕ) → p + length w ≤ length bytes → take (length w) (drop p (overwritten bytes p w)) ≡ w
written_at bytes w p fits = ap (take (length w)) (drop_at (take p bytes) _ p (length-take-le p bytes (omega arith))) ∙ take_at w _ (length w) refl

pub written_length : (bytes w : List ℕ) (p : ℕ) → p + length w ≤ length bytes → length (overwritten bytes p w) ≡ length bytes
written_length bytes w p fits = omega (arith, length-append (take p bytes) (w ++ drop (p + length w) bytes), length-append w (drop (p + length w) bytes), length-take-le p bytes (omega arith), length-drop (p + length w) bytes)

-- a qualifier and behind it a value, written within the block
abbrev pub both : List ℕ → ℕ → List ℕ → List ℕ → List ℕ
both bytes p q v = overwritten (overwritten bytes p q) (p + length q) v

both_fits : (bytes q v : List ℕ) (p : ℕ) → p + length q + length v ≤ length bytes → p + length q + length v ≤ length (overwritten bytes p q)
both_fits bytes q v p fits = omega (arith, written_length bytes q p (omega arith))

both_length : (bytes q v : List ℕ) (p : ℕ) → p + length q + length v ≤ length bytes → length (both bytes p q v) ≡ length bytes
both_length bytes q v p fits = written_length (overwritten bytes p q) v (p + length q) (both_fits bytes q v p fits) ∙ written_length bytes q p (omega arith)

both_apart : (bytes q v : List ℕ) (p at n : ℕ) → p + length q + length v ≤ length bytes → (p + length q + length v ≤ at) ⊎ (at + n ≤ p) → take n (drop at (both bytes p q v)) ≡ take n (drop at bytes)
both_apart bytes q v p at n fits (inl le) = written_behind (overwritten bytes p q) v (p + length q) at n (both_fits bytes q v p fits) le ∙ written_behind bytes q p at n (omega arith) (omega arith)
both_apart bytes q v p at n fits (inr le) = written_before (overwritten bytes p q) v (p + length q) at n (both_fits bytes q v p fits) (omega arith) ∙ written_before bytes q p at n (omega arith) le

narrow : (a b at ql vl : ℕ) → (b ≤ at) ⊎ (at + ql + vl ≤ a) → ((b ≤ at) ⊎ (at + ql ≤ a)) × ((b ≤ at + ql) ⊎ (at + ql + vl ≤ a))
narrow a b at ql vl (inl le) = (inl le, inl (omega arith))
narrow a b at ql vl (inr le) = (inr (omega arith), inr le)

-- the cell of a head that is apart from the place
cell_apart : (bytes q v : List ℕ) (p : ℕ) (h : Span) → p + length q + length v ≤ length bytes → (p + length q + length v ≤ h.at) ⊎ (end_of h ≤ p) → cell_at (both bytes p q v) h ≡ cell_at bytes h
cell_apart bytes q v p h fits far =
    let two = narrow p (p + length q + length v) h.at h.qual_len h.value_len far in
    let a : take h.qual_len (drop h.at (both bytes p q v)) ≡ take h.qual_len (drop h.at bytes) = both_apart bytes q v p h.at h.qual_len fits two.0 in
    let b : take h.value_len (drop (h.at + h.qual_len) (both bytes p q v)) ≡ take h.value_len (drop (h.at + h.qual_len) bytes) = both_apart bytes q v p (h.at + h.qual_len) h.value_len fits two.1 in
    λ i. record { qual = a i; value = b i; version = h.version }

cells_apart : (bytes q v : List ℕ) (p : ℕ) (hs : List Span) → p + length q + length v ≤ length bytes → AllApart p (p + length q + length v) hs → cells_at (both bytes p q v) hs ≡ cells_at bytes hs
cells_apart bytes q v p [] fits far = refl
cells_apart bytes q v p (h ∷ hs) fits far = λ i. cell_apart bytes q v p h fits far.0 i ∷ cells_apart bytes q v p hs fits far.1 i

-- the cell at the place
cell_both : (bytes q v : List ℕ) (p n : ℕ) → p + length q + length v ≤ length bytes → cell_at (both bytes p q v) (record { at = p; qual_len = length q; value_len = length v; version = n }) ≡ record { qual = q; value = v; version = n }
cell_both bytes q v p n fits =
    let a : take (length q) (drop p (both bytes p q v)) ≡ q = written_before (overwritten bytes p q) v (p + length q) p (length q) (both_fits bytes q v p fits) (omega arith) ∙ written_at bytes q p (omega arith) in
    let b : take (length v) (drop (p + length q) (both bytes p q v)) ≡ v = written_at (overwritten bytes p q) v (p + length q) (both_fits bytes q v p fits) in
    λ i. record { qual = a i; value = b i; version = n }

-- a cell that is overwritten in its place
module _ (bytes q v : List ℕ) (n p : ℕ) where
  abbrev new : Span
  new = record { at = p; qual_len = length q; value_len = length v; version = n }

  abbrev IsPlace : Span → Type 0
  IsPlace h = (h.at ≡ p) × ((h.qual_len ≡ length q) × (h.value_len ≡ length v))

  place_turned : (a b : ℕ) (hs : List Span) (i : ℕ) (d : Span) → AllApart a b hs → i < length hs → (b ≤ (slice_index_or hs i d).at) ⊎ (end_of (slice_index_or hs i d) ≤ a)
  place_turned a b [] i d k lt = absurd (omega arith)
  place_turned a b (h ∷ hs) zero d k lt = k.0
  place_turned a b (h ∷ hs) (suc i) d k lt = place_turned a b hs i d k.1 (omega arith)

  far : (a b at end : ℕ) → at ≡ p → end ≡ p + length q + length v → (b ≤ at) ⊎ (end ≤ a) → (p + length q + length v ≤ a) ⊎ (b ≤ p)
  far a b at end e f (inl le) = inr (omega arith)
  far a b at end e f (inr le) = inl (omega arith)

  was_over : (hs : List Span) (i : ℕ) (d : Span) → AllKept (length bytes) hs → i < length hs → IsPlace (slice_index_or hs i d) → p + length q + length v ≤ length bytes → cells_at (both bytes p q v) (slice_set hs i new) ≡ slice_set (cells_at bytes hs) i (record { qual = q; value = v; version = n })
  was_over [] i d k lt is fits = absurd (omega arith)
  was_over (h ∷ hs) zero d k lt is fits =
      let to : end_of h ≡ p + length q + length v = omega (arith, is.0, is.1.0, is.1.1) in
      let here : AllApart p (p + length q + length v) hs = subst (λ (a : ℕ). AllApart a (p + length q + length v) hs) is.0 (subst (λ (b : ℕ). AllApart h.at b hs) to k.1.0) in
      λ j. cell_both bytes q v p n fits j ∷ cells_apart bytes q v p hs fits here j
  was_over (h ∷ hs) (suc i) d k lt is fits =
      let to : end_of (slice_index_or hs i d) ≡ p + length q + length v = omega (arith, is.0, is.1.0, is.1.1) in
      λ j. cell_apart bytes q v p h fits (far h.at (end_of h) (slice_index_or hs i d).at (end_of (slice_index_or hs i d)) is.0 to (place_turned h.at (end_of h) hs i d k.1.0 (omega arith))) j ∷ was_over hs i d k.1.1 (omega arith) is fits j

-- the same in the words of a caller, whose h is the head at i
pub was_overwritten : (bytes q v : List ℕ) (n : ℕ) (hs : List Span) (i : ℕ) (h : Span) → AllKept (length bytes) hs → i < length hs → ((d : Span) → h ≡ slice_index_or hs i d) → h.qual_len ≡ length q → h.value_len ≡ length v → cells_at (both bytes h.at q v) (slice_set hs i (moved h n)) ≡ slice_set (cells_at bytes hs) i (record { qual = q; value = v; version = n })
was_overwritten bytes q v n hs i h k lt is eq ev =
    let fits : end_of h ≤ length bytes = subst (λ (x : Span). end_of x ≤ length bytes) (sym (is h)) (kept_at (length bytes) hs i h k lt) in
    let place : (slice_index_or hs i h).at ≡ h.at = ap (λ (x : Span). x.at) (sym (is h)) in
    let quals : (slice_index_or hs i h).qual_len ≡ length q = ap (λ (x : Span). x.qual_len) (sym (is h)) ∙ eq in
    let values : (slice_index_or hs i h).value_len ≡ length v = ap (λ (x : Span). x.value_len) (sym (is h)) ∙ ev in
    (λ j. cells_at (both bytes h.at q v) (slice_set hs i (record { at = h.at; qual_len = eq j; value_len = ev j; version = n }))) ∙ was_over bytes q v n h.at hs i h k lt (place, (quals, values)) (omega (arith, fits, eq, ev))

pub overwritten_kept : (bytes q v : List ℕ) (n : ℕ) (hs : List Span) (i : ℕ) (h : Span) → AllKept (length bytes) hs → i < length hs → ((d : Span) → h ≡ slice_index_or hs i d) → h.qual_len ≡ length q → h.value_len ≡ length v → AllKept (length (both bytes h.at q v)) (slice_set hs i (moved h n))
overwritten_kept bytes q v n hs i h k lt is eq ev =
    let fits : end_of h ≤ length bytes = subst (λ (x : Span). end_of x ≤ length bytes) (sym (is h)) (kept_at (length bytes) hs i h k lt) in
    subst (λ (m : ℕ). AllKept m (slice_set hs i (moved h n))) (sym (both_length bytes q v h.at (omega (arith, fits, eq, ev)))) (stamp_kept (length bytes) hs i n h k lt is)

-- one more cell of a list behind those that were taken
pub copied : (cells : List Cell) (i n : ℕ) (q v : List ℕ) → i < length cells → ((d : Cell) → q ≡ (slice_index_or cells i d).qual) → ((d : Cell) → v ≡ (slice_index_or cells i d).value) → ((d : Cell) → n ≡ (slice_index_or cells i d).version) → insert (take i cells) i (record { qual = q; value = v; version = n }) ≡ take (i + 1) cells
copied [] i n q v lt a b c = absurd (omega arith)
copied (x ∷ cells) zero n q v lt a b c = λ i. record { qual = a x i; value = b x i; version = c x i } ∷ []
copied (x ∷ cells) (suc i) n q v lt a b c =
    let step : suc (i + 1) ≡ suc i + 1 = omega arith in
    ap (λ (zs : List Cell). x ∷ zs) (copied cells i n q v (omega arith) a b c) ∙ ap (λ (m : ℕ). take m (x ∷ cells)) step

pub taken_length : (cells : List Cell) (i : ℕ) → i ≤ length cells → length (take i cells) ≡ i
taken_length cells i le = length-take-le i cells le

-- the lengths that a head tells are those of its cell
pub cell_lengths : (bytes : List ℕ) (hs : List Span) (i : ℕ) (h : Span) (d : Cell) → AllKept (length bytes) hs → i < length hs → h ≡ slice_index_or hs i h → (length (slice_index_or (cells_at bytes hs) i d).qual ≡ h.qual_len) × (length (slice_index_or (cells_at bytes hs) i d).value ≡ h.value_len)
cell_lengths bytes hs i h d k lt is =
    let fits : end_of h ≤ length bytes = subst (λ (x : Span). end_of x ≤ length bytes) (sym is) (kept_at (length bytes) hs i h k lt) in
    let cell : slice_index_or (cells_at bytes hs) i d ≡ cell_at bytes h = map_at (cell_at bytes) hs i h d lt ∙ ap (cell_at bytes) (sym is) in
    let q : length (take h.qual_len (drop h.at bytes)) ≡ h.qual_len = length-take-le h.qual_len (drop h.at bytes) (omega (arith, fits, length-drop h.at bytes)) in
    let v : length (take h.value_len (drop (h.at + h.qual_len) bytes)) ≡ h.value_len = length-take-le h.value_len (drop (h.at + h.qual_len) bytes) (omega (arith, fits, length-drop (h.at + h.qual_len) bytes)) in
    (ap (λ (c : Cell). length c.qual) cell ∙ q, ap (λ (c : Cell). length c.value) cell ∙ v)
