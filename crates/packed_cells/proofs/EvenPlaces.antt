-- Places of which some have no cell, and the cells that are there.
use Rattle.std.proofs.Common.{◌≡◌, ℕ, zero, suc, ◌+◌, ◌*◌, ◌<◌, ◌≤◌, Bool, true, false, cond, List, [], ◌∷◌, ◌++◌, length, map, refl, sym, ap, ◌∙◌, arith}
use Rattle.std.specs.Prelude.{Option, None, Some, slice_index_or, slice_set}
use Rattle.std.specs.List.{remove}
use Rattle.std.specs.Ordering.{is_eq}
use Rattle.std.specs.FinMap.{find, get-from_entries}
use Rattle.std.specs.FinMap as fin
use Rattle.std.specs.Cmp.Lexicographic.{nat_list_cmp_total}
use Rattle.list_lemmas.specs.BytesOrder.{bytes_cmp}
use Rattle.list_lemmas.proofs.BoolTests.{is_equal}
use Rattle.qual_codec.specs.declared.cells.Cell.{Cell}
use Rattle.packed_cells.specs.Keyed.{entry_of, map_of}
use Rattle.packed_cells.specs.EvenCells.{present, places, even_cell}
use Rattle.packed_cells.specs.declared.even_cells.EvenSlot.{EvenSlot}
use Rattle.packed_cells.proofs.Keyed.{exact}

pub no_cell : (c : Cell) → ◌≡◌ {A = Option Cell} None (Some c) → ⊥
no_cell c e = cc

-- how many cells stand before a place
abbrev pub rank : ℕ → List (Option Cell) → ℕ
rank zero os = 0
rank (suc p) [] = 0
rank (suc p) (None ∷ os) = rank p os
rank (suc p) (Some c ∷ os) = suc (rank p os)

pub within : (os : List (Option Cell)) (p : ℕ) (c : Cell) → slice_index_or os p None ≡ Some c → p < length os
within [] zero c is = absurd (no_cell c is)
within [] (suc p) c is = absurd (no_cell c is)
within (o ∷ os) zero c is = omega arith
within (o ∷ os) (suc p) c is = let more = within os p c is in omega (arith, more)

pub rank_below : (os : List (Option Cell)) (p : ℕ) (c : Cell) → slice_index_or os p None ≡ Some c → rank p os < length (present os)
rank_below [] zero c is = absurd (no_cell c is)
rank_below [] (suc p) c is = absurd (no_cell c is)
rank_below (None ∷ os) zero c is = absurd (no_cell c is)
rank_below (Some x ∷ os) zero c is = omega arith
rank_below (None ∷ os) (suc p) c is = rank_below os p c is
rank_below (Some x ∷ os) (suc p) c is = let more = rank_below os p c is in omega (arith, more)

pub at_rank : (os : List (Option Cell)) (p : ℕ) (c d : Cell) → slice_index_or os p None ≡ Some c → slice_index_or (present os) (rank p os) d ≡ c
at_rank [] zero c d is = absurd (no_cell c is)
at_rank [] (suc p) c d is = absurd (no_cell c is)
at_rank (None ∷ os) zero c d is = absurd (no_cell c is)
at_rank (Some x ∷ os) zero c d is = cc
at_rank (None ∷ os) (suc p) c d is = at_rank os p c d is
at_rank (Some x ∷ os) (suc p) c d is = at_rank os p c d is

-- another cell at a place that has one
pub present_set : (os : List (Option Cell)) (p : ℕ) (c e : Cell) → slice_index_or os p None ≡ Some c → present (slice_set os p (Some e)) ≡ slice_set (present os) (rank p os) e
present_set [] zero c e is = absurd (no_cell c is)
present_set [] (suc p) c e is = absurd (no_cell c is)
present_set (None ∷ os) zero c e is = absurd (no_cell c is)
present_set (Some x ∷ os) zero c e is = refl
present_set (None ∷ os) (suc p) c e is = present_set os p c e is
present_set (Some x ∷ os) (suc p) c e is = ap (λ (cells : List Cell). x ∷ cells) (present_set os p c e is)

-- none there any more
pub present_gone : (os : List (Option Cell)) (p : ℕ) (c : Cell) → slice_index_or os p None ≡ Some c → present (slice_set os p None) ≡ remove (present os) (rank p os)
present_gone [] zero c is = absurd (no_cell c is)
present_gone [] (suc p) c is = absurd (no_cell c is)
present_gone (None ∷ os) zero c is = absurd (no_cell c is)
present_gone (Some x ∷ os) zero c is = refl
present_gone (None ∷ os) (suc p) c is = present_gone os p c is
present_gone (Some x ∷ os) (suc p) c is = ap (λ (cells : List Cell). x ∷ cells) (present_gone os p c is)

-- one place more
pub present_more : (os : List (Option Cell)) (e : Cell) → present (os ++ Some e ∷ []) ≡ present os ++ e ∷ []
present_more [] e = refl
present_more (None ∷ os) e = present_more os e
present_more (Some x ∷ os) e = ap (λ (cells : List Cell). x ∷ cells) (present_more os e)

-- the cells of places that are read one by one
pub present_joined : (os rest : List (Option Cell)) → present (os ++ rest) ≡ present os ++ present rest
present_joined [] rest = refl
present_joined (None ∷ os) rest = present_joined os rest
present_joined (Some x ∷ os) rest = ap (λ (cells : List Cell). x ∷ cells) (present_joined os rest)

pub present_few : (os : List (Option Cell)) → length (present os) ≤ length os
present_few [] = omega arith
present_few (None ∷ os) = let more = present_few os in omega (arith, more)
present_few (Some x ∷ os) = let more = present_few os in omega (arith, more)

-- a qualifier that no cell has
not_first : (b : Bool) (q : List ℕ) (x : Cell) (os : List (Option Cell)) → is_eq (bytes_cmp q x.qual) ≡ b → (x.qual ≡ q → ⊥) → find bytes_cmp q (map entry_of (present os)) ≡ None → find bytes_cmp q (map entry_of (present (Some x ∷ os))) ≡ None
not_first true q x os e none rest = absurd (none (sym (exact q x.qual (is_equal _ e))))
not_first false q x os e none rest = ap (λ b. cond b (Some (x.value, x.version)) (find bytes_cmp q (map entry_of (present os)))) e ∙ rest

not_found : (os : List (Option Cell)) (q : List ℕ) → ((p : ℕ) (c : Cell) → slice_index_or os p None ≡ Some c → c.qual ≡ q → ⊥) → find bytes_cmp q (map entry_of (present os)) ≡ None
not_found [] q none = refl
not_found (None ∷ os) q none = not_found os q (λ p c is same. none (suc p) c is same)
not_found (Some x ∷ os) q none = not_first (is_eq (bytes_cmp q x.qual)) q x os refl (none 0 x refl) (not_found os q (λ p c is same. none (suc p) c is same))

pub get_none : (os : List (Option Cell)) (q : List ℕ) → ((p : ℕ) (c : Cell) → slice_index_or os p None ≡ Some c → c.qual ≡ q → ⊥) → fin.get (map_of (present os)) q ≡ None
get_none os q none = get-from_entries nat_list_cmp_total (map entry_of (present os)) q ∙ not_found os q none

-- ---- what stands at each step

pub length-places : (o st : ℕ) (ss : List EvenSlot) → length (places o st ss) ≡ length ss
length-places o st [] = refl
length-places o st (s ∷ ss) = ap suc (length-places (o + st) st ss)

later : (o st p : ℕ) → o + st + p * st ≡ o + suc p * st
later o st p = let product : suc p * st ≡ st + p * st = grind arith in omega (arith, product)

at_begin : (o st : ℕ) → o ≡ o + 0 * st
at_begin o st = omega arith

pub place_at : (o st : ℕ) (ss : List EvenSlot) (p : ℕ) (d : EvenSlot) → p < length ss → slice_index_or (places o st ss) p None ≡ even_cell (o + p * st) (slice_index_or ss p d)
place_at o st [] p d lt = absurd (omega (arith, lt))
place_at o st (s ∷ ss) zero d lt = ap (λ (n : ℕ). even_cell n s) (at_begin o st)
place_at o st (s ∷ ss) (suc p) d lt = place_at (o + st) st ss p d (omega (arith, lt)) ∙ ap (λ (n : ℕ). even_cell n (slice_index_or ss p d)) (later o st p)

pub place_set : (o st : ℕ) (ss : List EvenSlot) (p : ℕ) (x : EvenSlot) → places o st (slice_set ss p x) ≡ slice_set (places o st ss) p (even_cell (o + p * st) x)
place_set o st [] zero x = refl
place_set o st [] (suc p) x = refl
place_set o st (s ∷ ss) zero x = ap (λ (n : ℕ). even_cell n x ∷ places (o + st) st ss) (at_begin o st)
place_set o st (s ∷ ss) (suc p) x =
    ap (λ (os : List (Option Cell)). even_cell o s ∷ os) (place_set (o + st) st ss p x ∙ ap (λ (n : ℕ). slice_set (places (o + st) st ss) p (even_cell n x)) (later o st p))

pub place_more : (o st : ℕ) (ss : List EvenSlot) (x : EvenSlot) → places o st (ss ++ x ∷ []) ≡ places o st ss ++ even_cell (o + length ss * st) x ∷ []
place_more o st [] x = ap (λ (n : ℕ). even_cell n x ∷ []) (at_begin o st)
place_more o st (s ∷ ss) x =
    ap (λ (os : List (Option Cell)). even_cell o s ∷ os) (place_more (o + st) st ss x ∙ ap (λ (n : ℕ). places (o + st) st ss ++ even_cell n x ∷ []) (later o st (length ss)))
