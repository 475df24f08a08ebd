-- Cells at even steps: their order, and what they are after an edit.
use Rattle.std.proofs.Common.{◌≡◌, ◌⊎◌, inl, inr, ℕ, zero, suc, ◌+◌, ◌-◌, ◌*◌, ◌/◌, ◌%◌, ◌^◌, ◌<◌, ◌≤◌, true, false, List, [], ◌∷◌, ◌++◌, length, refl, sym, ap, subst, ◌∙◌, arith}
use Rattle.std.specs.Prelude.{Option, None, Some, slice_index_or, slice_set, drop}
use Rattle.std.specs.List.{insert as insert_at, remove as remove_at}
use Rattle.std.specs.Int.{w16, w64, byte_at, to_be_bytes, from_be_bytes, to_le_bytes, from_le_bytes}
use Rattle.std.specs.Ordering.{nat_cmp, ordering_then}
use Rattle.std.specs.declared.cmp.Ordering.{Ordering}
use Rattle.std.specs.declared.cmp.Ordering.TheVariants.{Less, Equal}
use Rattle.std.specs.FinMap as fin
use Rattle.std.proofs.lemmas.Cmp.{tied_itself}
use Rattle.std.specs.Cmp.Lexicographic.{nat_list_cmp_total}
use Rattle.std.proofs.lemmas.Bool.Decides.{nat_tests}
use Rattle.std.proofs.lemmas.List.{length-append, length-set, length-drop, drop_more, get_or_default, append_assoc, append-nil, drop_all}
use Rattle.std.proofs.lemmas.List.Edits.{insert_end, length-insert, length-remove}
use Rattle.std.proofs.lemmas.Nat.{from_be_bytes-to_be_bytes_2, from_le_bytes-to_le_bytes_8, mul-le, same_from_place}
use Rattle.qual_codec.specs.declared.cells.Cell.{Cell}
use Rattle.list_lemmas.specs.BytesOrder.{bytes_cmp}
use Rattle.cell_blocks.specs.Seeks.{Rises, IsCellAt, IsCellGap}
use Rattle.packed_cells.specs.Keyed.{map_of, cells_in, stamped, stamped_over, goes, without}
use Rattle.packed_cells.specs.EvenCells.{second_qual, flags_in, bytes_in, value_cell, even_cell, places, present, even_cells, IsGrid, IsEven, IsSlotAt}
use Rattle.packed_cells.specs.declared.even_cells.EvenSlot.{EvenSlot}
use Rattle.packed_cells.specs.declared.even_cells.EvenValue.{EvenValue}
use Rattle.packed_cells.specs.declared.even_cells.EvenValue.TheVariants.{One, Two, Gone}
use Rattle.cell_blocks.proofs.Halves.{turn}
use Rattle.cell_blocks.proofs.Order.{tri}
use Rattle.packed_cells.proofs.Keyed.{value_of_some, len_is, cells_are, get_at, set_is_put, insert_is_put, goes_at, stays_at, remove_is_without}
use Rattle.cell_blocks.proofs.Order.{none}
use Rattle.packed_cells.proofs.EvenPlaces.{no_cell, rank, within, rank_below, at_rank, present_set, present_gone, present_more, present_joined, get_none, length-places, place_at, place_set, place_more}

-- ---- two bytes are in the order of their numbers
less_is : (a b : ℕ) → a < b → nat_cmp a b ≡ Less
less_is a b lt = grind (arith, nat_tests, lt)

equal_is : (a b : ℕ) → a ≡ b → nat_cmp a b ≡ Equal
equal_is a b e = grind (arith, nat_tests, e)

two_below : (m n : ℕ) → m < n → n < 65536 → bytes_cmp (to_be_bytes w16 m) (to_be_bytes w16 n) ≡ Less
two_below m n lt short = at (tri (byte_at 1 m) (byte_at 1 n))
  where
    rest : Ordering
    rest = ordering_then (nat_cmp (byte_at 0 m) (byte_at 0 n)) Equal

    at : (byte_at 1 m < byte_at 1 n) ⊎ ((byte_at 1 m ≡ byte_at 1 n) ⊎ (byte_at 1 n < byte_at 1 m)) → ordering_then (nat_cmp (byte_at 1 m) (byte_at 1 n)) rest ≡ Less
    at (inl p) = ap (λ (o : Ordering). ordering_then o rest) (less_is _ _ p)
    at (inr (inl p)) = ap (λ (o : Ordering). ordering_then o rest) (equal_is _ _ p) ∙ ap (λ (o : Ordering). ordering_then o Equal) (less_is (byte_at 0 m) (byte_at 0 n) (omega (arith, lt, short, p)))
    at (inr (inr p)) = absurd (omega (arith, lt, short, p))

-- ---- steps
rows : (o st n : ℕ) → o + st + n * st ≡ o + suc n * st
rows o st n = let product : suc n * st ≡ st + n * st = grind arith in omega (arith, product)

one_more : (n st : ℕ) → (n + 1) * st ≡ n * st + st
one_more n st = grind arith

-- a step that is there begins in twelve bits
begins : (o st n p : ℕ) → p < n → o + n * st ≤ 4095 + st → o + p * st ≤ 4095
begins o st n p lt fits =
    let product : suc p * st ≡ st + p * st = grind arith in
    let below = mul-le (suc p) st n st (omega (arith, lt)) (omega arith) in
    omega (arith, fits, product, below)

-- a number's two bytes, within bounds
record IsNumber (low high : ℕ) (qual : List ℕ) : Type 0 where
  number : ℕ
  is : qual ≡ to_be_bytes w16 number
  from : low ≤ number
  below : number < high
  short : number < 65536

wider : (low high more most : ℕ) (qual : List ℕ) → more ≤ low → high ≤ most → IsNumber low high qual → IsNumber more most qual
wider low high more most qual a b n = record { number = n.number; is = n.is; from = omega (arith, a, n.from); below = omega (arith, b, n.below); short = n.short }

one_number : (v : EvenValue) (o version high : ℕ) (os : List (Option Cell)) → o ≤ 4095 → 16 * o + 16 ≤ high → ((j : ℕ) → j < length (present os) → (d : Cell) → IsNumber (16 * o) high (slice_index_or (present os) j d).qual)
    → (j : ℕ) → j < length (present (value_cell v o version ∷ os)) → (d : Cell) → IsNumber (16 * o) high (slice_index_or (present (value_cell v o version ∷ os)) j d).qual
one_number Gone o version high os first room rest j inside d = rest j inside d
one_number (One b) o version high os first room rest zero inside d = record { number = 16 * o + 0; is = refl; from = omega arith; below = omega (arith, room); short = omega (arith, first) }
one_number (One b) o version high os first room rest (suc j) inside d = rest j (omega (arith, inside)) d
one_number (Two b) o version high os first room rest zero inside d = record { number = 16 * o + 1; is = refl; from = omega arith; below = omega (arith, room); short = omega (arith, first) }
one_number (Two b) o version high os first room rest (suc j) inside d = rest j (omega (arith, inside)) d

numbers : (o st : ℕ) (ss : List EvenSlot) → 1 ≤ st → o + length ss * st ≤ 4095 + st → (k : ℕ) → k < length (even_cells o st ss) → (d : Cell) → IsNumber (16 * o) (16 * (o + length ss * st)) (slice_index_or (even_cells o st ss) k d).qual
numbers o st [] forward fits k lt d = absurd (omega (arith, lt))
numbers o st (s ∷ ss) forward fits k lt d =
    let ends = rows o st (length ss) in
    one_number s.value o (from_le_bytes w64 s.version) (16 * (o + suc (length ss) * st)) (places (o + st) st ss) (omega (arith, fits, ends)) (omega (arith, ends, forward))
    (λ j inside e. wider (16 * (o + st)) (16 * (o + st + length ss * st)) (16 * o) (16 * (o + suc (length ss) * st)) _ (omega arith) (omega (arith, ends)) (numbers (o + st) st ss forward (omega (arith, fits, ends)) j inside e)) k lt d

rises_first : (c : Cell) (cells : List Cell) → ((k : ℕ) → k < length cells → (d : Cell) → bytes_cmp c.qual (slice_index_or cells k d).qual ≡ Less) → Rises cells → Rises (c ∷ cells)
rises_first c cells first rest zero zero lt inside d = absurd (omega (arith, lt))
rises_first c cells first rest zero (suc j) lt inside d = first j (omega (arith, inside)) d
rises_first c cells first rest (suc i) zero lt inside d = absurd (omega (arith, lt))
rises_first c cells first rest (suc i) (suc j) lt inside d = rest i j (omega (arith, lt)) (omega (arith, inside)) d

one_rises : (v : EvenValue) (o version low high : ℕ) (os : List (Option Cell)) → 16 * o + 16 ≤ low → ((k : ℕ) → k < length (present os) → (d : Cell) → IsNumber low high (slice_index_or (present os) k d).qual) → Rises (present os) → Rises (present (value_cell v o version ∷ os))
one_rises Gone o version low high os room numbered rest = rest
one_rises (One b) o version low high os room numbered rest =
    rises_first _ (present os) (λ k inside d. let n = numbered k inside d in ap (bytes_cmp (to_be_bytes w16 (16 * o + 0))) n.is ∙ two_below (16 * o + 0) n.number (omega (arith, n.from, room)) n.short) rest
one_rises (Two b) o version low high os room numbered rest =
    rises_first _ (present os) (λ k inside d. let n = numbered k inside d in ap (bytes_cmp (to_be_bytes w16 (16 * o + 1))) n.is ∙ two_below (16 * o + 1) n.number (omega (arith, n.from, room)) n.short) rest

even_rises : (o st : ℕ) (ss : List EvenSlot) → 1 ≤ st → o + length ss * st ≤ 4095 + st → Rises (even_cells o st ss)
even_rises o st [] forward fits = λ i j lt inside d. absurd (omega (arith, inside))
even_rises o st (s ∷ ss) forward fits =
    let ends = rows o st (length ss) in
    let more : o + st + length ss * st ≤ 4095 + st = omega (arith, fits, ends) in
    one_rises s.value o (from_le_bytes w64 s.version) (16 * (o + st)) (16 * (o + st + length ss * st)) (places (o + st) st ss) (omega (arith, forward)) (numbers (o + st) st ss forward more) (even_rises (o + st) st ss forward more)

-- behind all of them
even_gap : (o st n : ℕ) (ss : List EvenSlot) → 1 ≤ st → o + length ss * st ≤ 4095 + st → 16 * (o + length ss * st) ≤ n → n < 65536 → IsCellGap (to_be_bytes w16 n) (even_cells o st ss) (length (even_cells o st ss))
even_gap o st n ss forward fits above short = record {
  in_range = omega arith;
  before = λ k lt d.
      let m = numbers o st ss forward fits k lt d in
      turn (to_be_bytes w16 n) (slice_index_or (even_cells o st ss) k d).qual Less (ap (λ (q : List ℕ). bytes_cmp q (to_be_bytes w16 n)) m.is ∙ two_below m.number n (omega (arith, m.below, above)) short);
  behind = λ k le lt d. absurd (omega (arith, le, lt));
}

-- ---- the cell of a slot
live_cell : (v : EvenValue) (f offset version : ℕ) → flags_in v ≡ f → f < 16 → value_cell v offset version ≡ Some (record { qual = second_qual offset f; value = bytes_in v; version = version })
live_cell (One b) f offset version is low = ap (λ (g : ℕ). Some (record { qual = second_qual offset g; value = b; version = version })) is
live_cell (Two b) f offset version is low = ap (λ (g : ℕ). Some (record { qual = second_qual offset g; value = b; version = version })) is
live_cell Gone f offset version is low = absurd (omega (arith, is, low))

qual_of : (x y : Cell) → ◌≡◌ {A = Option Cell} (Some x) (Some y) → x.qual ≡ y.qual
qual_of x y e = cc

of_live : (v : EvenValue) (offset version : ℕ) (c : Cell) → value_cell v offset version ≡ Some c → (second_qual offset (flags_in v) ≡ c.qual) × (flags_in v < 16)
of_live (One b) offset version c is = (qual_of _ c is, omega arith)
of_live (Two b) offset version c is = (qual_of _ c is, omega arith)
of_live Gone offset version c is = absurd (no_cell c is)

-- ---- a row without any cell of a qualifier
pub not_there : (o st : ℕ) (ss : List EvenSlot) (q : List ℕ) → IsGrid o st (length ss) → ((n p : ℕ) → IsSlotAt o st ss q n p → ⊥) → fin.get (map_of (even_cells o st ss)) q ≡ None
not_there o st ss q grid no_slot = get_none (places o st ss) q at
  where
    at : (p : ℕ) (c : Cell) → slice_index_or (places o st ss) p None ≡ Some c → c.qual ≡ q → ⊥
    at p c is same =
        let lt : p < length ss = (let inside = within (places o st ss) p c is in omega (arith, inside, length-places o st ss)) in
        let low = begins o st (length ss) p lt grid.fits in
        let of : (d : EvenSlot) → (second_qual (o + p * st) (flags_in (slice_index_or ss p d).value) ≡ c.qual) × (flags_in (slice_index_or ss p d).value < 16) =
        λ d. of_live (slice_index_or ss p d).value (o + p * st) _ c (sym (place_at o st ss p d lt) ∙ is) in
        let blank : EvenSlot = record { version = []; value = Gone } in
        let n : ℕ = 16 * (o + p * st) + flags_in (slice_index_or ss p blank).value in
        let read : (d : EvenSlot) → n ≡ 16 * (o + p * st) + flags_in (slice_index_or ss p d).value = λ d.
        let a = (of blank).1 in
        let b = (of d).1 in
        sym (from_be_bytes-to_be_bytes_2 n (omega (arith, low, a))) ∙ ap (from_be_bytes w16) ((of blank).0 ∙ sym (of d).0) ∙ from_be_bytes-to_be_bytes_2 (16 * (o + p * st) + flags_in (slice_index_or ss p d).value) (omega (arith, low, b)) in
        no_slot n p (record {
          two = (of blank).0 ∙ same;
          in_range = lt;
          offset = let a = (of blank).1 in omega (arith, a);
          flags = λ d. let a = (of d).1 in let e = read d in omega (arith, a, e);
        })

-- two places at one second are one
same_step : (o st p r m : ℕ) → 1 ≤ st → o + p * st ≡ m → o + r * st ≡ m → p ≡ r
same_step o st p r m forward a b = (same_from_place p 0 r 0 st (omega (arith, forward)) (omega (arith, forward)) (omega (arith, a, b))).0

-- one number has these two bytes
same_number : (m n : ℕ) (q : List ℕ) → m < 65536 → n < 65536 → to_be_bytes w16 m ≡ q → to_be_bytes w16 n ≡ q → m ≡ n
same_number m n q a b is also = sym (from_be_bytes-to_be_bytes_2 m a) ∙ ap (from_be_bytes w16) (is ∙ sym also) ∙ from_be_bytes-to_be_bytes_2 n b

slot_number : (o st : ℕ) (ss : List EvenSlot) (q : List ℕ) (m p : ℕ) → IsGrid o st (length ss) → IsSlotAt o st ss q m p → m < 65536
slot_number o st ss q m p grid at = let low = begins o st (length ss) p at.in_range grid.fits in omega (arith, low, at.offset)

module _ (o st : ℕ) (ss : List EvenSlot) (q : List ℕ) (grid : IsGrid o st (length ss)) (n : ℕ) (short : n < 65536) (two : to_be_bytes w16 n ≡ q) where
  -- no step is at its second
  pub no_step : ((p : ℕ) → o + p * st ≡ n / 16 → ⊥) → fin.get (map_of (even_cells o st ss)) q ≡ None
  no_step none = not_there o st ss q grid (λ m p at. none p (at.offset ∙ ap (λ (k : ℕ). k / 16) (same_number m n q (slot_number o st ss q m p grid at) short at.two two)))

  -- the step at its second has no such slot
  pub no_match : (p : ℕ) → o + p * st ≡ n / 16 → (p < length ss → ((d : EvenSlot) → flags_in (slice_index_or ss p d).value ≡ n % 16) → ⊥) → fin.get (map_of (even_cells o st ss)) q ≡ None
  no_match p here none = not_there o st ss q grid at
    where
      at : (m r : ℕ) → IsSlotAt o st ss q m r → ⊥
      at m r a =
          let same = same_number m n q (slot_number o st ss q m r grid a) short a.two two in
          let place : r ≡ p = same_step o st r p (n / 16) grid.forward (a.offset ∙ ap (λ (k : ℕ). k / 16) same) here in
          none (subst (λ (k : ℕ). k < length ss) place a.in_range) (λ d. ap (λ (k : ℕ). flags_in (slice_index_or ss k d).value) (sym place) ∙ a.flags d ∙ ap (λ (k : ℕ). k % 16) same)

-- no number is the qualifier
pub no_number : (o st : ℕ) (ss : List EvenSlot) (q : List ℕ) → IsGrid o st (length ss) → ((n : ℕ) → to_be_bytes w16 n ≡ q → ⊥) → fin.get (map_of (even_cells o st ss)) q ≡ None
no_number o st ss q grid none = not_there o st ss q grid (λ n p at. none n at.two)

itself : (q : List ℕ) → bytes_cmp q q ≡ Equal
itself q = tied_itself {K = List ℕ} {R = bytes_cmp} nat_list_cmp_total q

-- ---- a slot whose cell is known
pub length_even : (o st : ℕ) (ss : List EvenSlot) → IsGrid o st (length ss) → length (even_cells o st ss) ≡ fin.len (map_of (even_cells o st ss))
length_even o st ss grid = len_is (even_cells o st ss) (even_rises o st ss grid.forward grid.fits)

pub rises_even : (o st : ℕ) (ss : List EvenSlot) → IsGrid o st (length ss) → Rises (even_cells o st ss)
rises_even o st ss grid = even_rises o st ss grid.forward grid.fits

pub cells_even : (o st : ℕ) (ss : List EvenSlot) → IsGrid o st (length ss) → even_cells o st ss ≡ cells_in (map_of (even_cells o st ss))
cells_even o st ss grid = cells_are (even_cells o st ss) (rises_even o st ss grid)

parts : (n : ℕ) → 16 * (n / 16) + n % 16 ≡ n
parts n = omega arith

module _ (o st next holes : ℕ) (ss : List EvenSlot) (even : IsEven o st next holes ss) (q : List ℕ) (n p : ℕ) (at : IsSlotAt o st ss q n p) (s : EvenSlot) (here : s ≡ slice_index_or ss p s) where
  abbrev os : List (Option Cell)
  os = places o st ss

  abbrev i : ℕ
  i = rank p (places o st ss)

  abbrev cell : Cell
  cell = record { qual = q; value = bytes_in s.value; version = from_le_bytes w64 s.version }

  flags_are : flags_in s.value ≡ n % 16
  flags_are = ap (λ (x : EvenSlot). flags_in x.value) here ∙ at.flags s

  with_version : (version : ℕ) → value_cell s.value (n / 16) version ≡ Some (record { qual = q; value = bytes_in s.value; version = version })
  with_version version =
      live_cell s.value (n % 16) (n / 16) version flags_are (omega arith)
      ∙ ap (λ (x : List ℕ). Some (record { qual = x; value = bytes_in s.value; version = version })) (ap (to_be_bytes w16) (parts n) ∙ at.two)

  stands : slice_index_or os p None ≡ Some cell
  stands =
      place_at o st ss p s at.in_range ∙ (λ j. even_cell (at.offset j) (sym here j)) ∙ with_version (from_le_bytes w64 s.version)

  rises : Rises (even_cells o st ss)
  rises = rises_even o st ss even.grid

  cell_at : IsCellAt q (even_cells o st ss) i
  cell_at = record {
    in_range = rank_below os p cell stands;
    here = λ d. ap (λ (c : Cell). bytes_cmp q c.qual) (at_rank os p cell d stands) ∙ itself q;
  }

  pub get_found : fin.get (map_of (even_cells o st ss)) q ≡ Some (bytes_in s.value, from_le_bytes w64 s.version)
  get_found = get_at q (even_cells o st ss) i none rises cell_at ∙ ap (λ (c : Cell). Some (c.value, c.version)) (at_rank os p cell none stands)

  kept_grid : (x : EvenSlot) → IsGrid o st (length (slice_set ss p x))
  kept_grid x = subst (λ (k : ℕ). IsGrid o st k) (sym (length-set ss p x)) even.grid

  kept_ends : (x : EvenSlot) → next ≡ o + length (slice_set ss p x) * st
  kept_ends x = even.ends ∙ ap (λ (k : ℕ). o + k * st) (sym (length-set ss p x))

  -- another cell of the same qualifier
  module _ (x : EvenSlot) (v : List ℕ) (m : ℕ) (told : even_cell (n / 16) x ≡ Some (record { qual = q; value = v; version = m })) where
    set_cells : even_cells o st (slice_set ss p x) ≡ slice_set (even_cells o st ss) i (record { qual = q; value = v; version = m })
    set_cells =
        ap present (place_set o st ss p x ∙ ap (λ (c : Option Cell). slice_set os p c) (ap (λ (k : ℕ). even_cell k x) at.offset ∙ told))
        ∙ present_set os p cell (record { qual = q; value = v; version = m }) stands

    pub set_put : map_of (even_cells o st (slice_set ss p x)) ≡ fin.insert (map_of (even_cells o st ss)) q (v, m)
    set_put =
        ap map_of set_cells
        ∙ set_is_put q v m (even_cells o st ss) i rises (subst (λ (cells : List Cell). Rises cells) set_cells (rises_even o st (slice_set ss p x) (kept_grid x))) cell_at

    pub set_even : IsEven o st next holes (slice_set ss p x)
    set_even = record {
      grid = kept_grid x;
      ends = kept_ends x;
      lacking =
          ap (λ (k : ℕ). holes + k) (ap length set_cells ∙ length-set (even_cells o st ss) i (record { qual = q; value = v; version = m }))
          ∙ even.lacking ∙ sym (length-set ss p x);
    }

  -- another version
  module _ (digits : List ℕ) (m : ℕ) (written : digits ≡ to_le_bytes w64 m) (fits : m < 2 ^ 64) where
    restamped : even_cell (n / 16) (record { version = digits; value = s.value }) ≡ Some (record { qual = q; value = bytes_in s.value; version = m })
    restamped = ap (value_cell s.value (n / 16)) (ap (from_le_bytes w64) written ∙ from_le_bytes-to_le_bytes_8 m fits) ∙ with_version m

    pub stamp_even : IsEven o st next holes (slice_set ss p (record { version = digits; value = s.value }))
    stamp_even = set_even (record { version = digits; value = s.value }) (bytes_in s.value) m restamped

    pub stamp_stamped : map_of (even_cells o st (slice_set ss p (record { version = digits; value = s.value }))) ≡ stamped (map_of (even_cells o st ss)) q m
    stamp_stamped =
        set_put (record { version = digits; value = s.value }) (bytes_in s.value) m restamped ∙ ap (λ c. stamped_over c (map_of (even_cells o st ss)) q m) (sym get_found)

  -- no cell any more
  gone_cells : (x : EvenSlot) → x.value ≡ Gone → even_cells o st (slice_set ss p x) ≡ remove_at (even_cells o st ss) i
  gone_cells x gone =
      ap present (place_set o st ss p x ∙ ap (λ (c : Option Cell). slice_set os p c) (ap (λ (v : EvenValue). value_cell v (o + p * st) (from_le_bytes w64 x.version)) gone))
      ∙ present_gone os p cell stands

  version_is : (slice_index_or (even_cells o st ss) i none).version ≡ from_le_bytes w64 s.version
  version_is = ap (λ (c : Cell). c.version) (at_rank os p cell none stands)

  pub still_there : (m : ℕ) → m < from_le_bytes w64 s.version → goes (fin.get (map_of (even_cells o st ss)) q) m ≡ false
  still_there m lt = stays_at q m (even_cells o st ss) i none rises cell_at (omega (arith, lt, version_is))

  module _ (m : ℕ) (le : from_le_bytes w64 s.version ≤ m) where
    old_enough : (slice_index_or (even_cells o st ss) i none).version ≤ m
    old_enough = omega (arith, le, version_is)

    pub goes_away : goes (fin.get (map_of (even_cells o st ss)) q) m ≡ true
    goes_away = goes_at q m (even_cells o st ss) i none rises cell_at old_enough

    module _ (x : EvenSlot) (gone : x.value ≡ Gone) where
      pub gone_without : map_of (even_cells o st (slice_set ss p x)) ≡ without (map_of (even_cells o st ss)) q m
      gone_without = ap map_of (gone_cells x gone) ∙ remove_is_without q m (even_cells o st ss) i none rises cell_at old_enough

      pub gone_even : IsEven o st next (holes + 1) (slice_set ss p x)
      gone_even = record {
        grid = kept_grid x;
        ends = kept_ends x;
        lacking = omega (arith, ap length (gone_cells x gone), length-remove (even_cells o st ss) i cell_at.in_range, even.lacking, length-set ss p x);
      }

-- ---- a slot behind the last one
module _ (o st holes : ℕ) (ss : List EvenSlot) (grid : IsGrid o st (length ss)) (lacking : holes + length (even_cells o st ss) ≡ length ss) (q v : List ℕ) (n m : ℕ) (short : n < 65536) (two : to_be_bytes w16 n ≡ q)
    (next : o + length ss * st ≡ n / 16) (x : EvenSlot) (told : even_cell (n / 16) x ≡ Some (record { qual = to_be_bytes w16 n; value = v; version = m })) where
  more_length : length (ss ++ x ∷ []) ≡ length ss + 1
  more_length = length-append ss (x ∷ [])

  more_ends : o + length (ss ++ x ∷ []) * st ≡ n / 16 + st
  more_ends = ap (λ (k : ℕ). o + k * st) more_length ∙ (let product = one_more (length ss) st in omega (arith, product, next))

  more_grid : IsGrid o st (length (ss ++ x ∷ []))
  more_grid = record { forward = grid.forward; short = grid.short; fits = omega (arith, more_ends, short) }

  more_cells : even_cells o st (ss ++ x ∷ []) ≡ insert_at (even_cells o st ss) (length (even_cells o st ss)) (record { qual = q; value = v; version = m })
  more_cells =
      ap present (place_more o st ss x ∙ ap (λ (c : Option Cell). places o st ss ++ c ∷ []) (ap (λ (k : ℕ). even_cell k x) next ∙ told ∙ ap (λ (y : List ℕ). Some (record { qual = y; value = v; version = m })) two))
      ∙ present_more (places o st ss) (record { qual = q; value = v; version = m })
      ∙ sym (insert_end (even_cells o st ss) (record { qual = q; value = v; version = m }))

  last_gap : IsCellGap q (even_cells o st ss) (length (even_cells o st ss))
  last_gap = subst (λ (y : List ℕ). IsCellGap y (even_cells o st ss) (length (even_cells o st ss))) two (even_gap o st n ss grid.forward grid.fits (omega (arith, next)) short)

  pub more_put : map_of (even_cells o st (ss ++ x ∷ [])) ≡ fin.insert (map_of (even_cells o st ss)) q (v, m)
  more_put =
      ap map_of more_cells
      ∙ insert_is_put q v m (even_cells o st ss) (length (even_cells o st ss)) (rises_even o st ss grid) (subst (λ (cells : List Cell). Rises cells) more_cells (rises_even o st (ss ++ x ∷ []) more_grid)) last_gap

  pub more_even : IsEven o st (n / 16 + st) holes (ss ++ x ∷ [])
  more_even = record {
    grid = more_grid;
    ends = sym more_ends;
    lacking = omega (arith, ap length more_cells, length-insert (even_cells o st ss) (length (even_cells o st ss)) (record { qual = q; value = v; version = m }) (omega arith), lacking, more_length);
  }

-- the first slot stands at its second whatever the step
pub one_place : (o st r : ℕ) (ss : List EvenSlot) → length ss ≡ 1 → places o r ss ≡ places o st ss
one_place o st r [] e = absurd (omega (arith, e))
one_place o st r (s ∷ []) e = refl
one_place o st r (s ∷ t ∷ ss) e = absurd (omega (arith, e))

-- the last step
pub last_slot : (o st next len : ℕ) (ss : List EvenSlot) (q : List ℕ) (n : ℕ) → to_be_bytes w16 n ≡ q → 0 < length ss → len ≡ length ss → next ≡ o + length ss * st → next - st ≡ n / 16
    → ((d : EvenSlot) → flags_in (slice_index_or ss (length ss - 1) d).value ≡ n % 16) → IsSlotAt o st ss q n (len - 1)
last_slot o st next len ss q n two some all ends offset flags = record {
  two = two;
  in_range = omega (arith, some, all);
  offset =
      let product : (len - 1 + 1) * st ≡ (len - 1) * st + st = one_more (len - 1) st in
      let whole : len - 1 + 1 ≡ length ss = omega (arith, some, all) in
      let same : (len - 1 + 1) * st ≡ length ss * st = ap (λ (k : ℕ). k * st) whole in
      omega (arith, product, same, ends, offset);
  flags = λ d. ap (λ (k : ℕ). flags_in (slice_index_or ss (k - 1) d).value) all ∙ flags d;
}

few_flags : (v : EvenValue) → flags_in v < 16 → flags_in v < 2
few_flags (One b) lt = omega arith
few_flags (Two b) lt = omega arith
few_flags Gone lt = absurd (omega (arith, lt))

-- a value of the length that stands there suits
pub same_suits : (o st next holes : ℕ) (ss : List EvenSlot) (even : IsEven o st next holes ss) (q : List ℕ) (n p : ℕ) (at : IsSlotAt o st ss q n p) (s : EvenSlot) (here : s ≡ slice_index_or ss p s)
    (v w : List ℕ) (m : ℕ) → fin.get (map_of (even_cells o st ss)) q ≡ Some (v, m) → length v ≡ length w → (flags_in s.value < 2 → length (bytes_in s.value) ≡ flags_in s.value + 1) → (n % 16 < 2) × (length w ≡ n % 16 + 1)
same_suits o st next holes ss even q n p at s here v w m found long count =
    let flags : flags_in s.value ≡ n % 16 = ap (λ (x : EvenSlot). flags_in x.value) here ∙ at.flags s in
    let few = few_flags s.value (omega (arith, flags)) in
    let value : bytes_in s.value ≡ v = value_of_some (bytes_in s.value) v (from_le_bytes w64 s.version) m (sym (get_found o st next holes ss even q n p at s here) ∙ found) in
    (omega (arith, flags, few), omega (arith, flags, long, ap length value, count few))

-- ---- slots that are read one by one
rest_length : (ss : List EvenSlot) (i : ℕ) → i < length ss → length (drop i ss) ≡ suc (length (drop (i + 1) ss))
rest_length ss i lt = omega (arith, lt, length-drop i ss, length-drop (i + 1) ss)

pub offset_fits : (o st i : ℕ) (ss : List EvenSlot) → i < length ss → IsGrid o st (length (drop i ss)) → o ≤ 4095
offset_fits o st i ss lt grid =
    let low = begins o st (length (drop i ss)) 0 (omega (arith, rest_length ss i lt)) grid.fits in
    omega (arith, low)

pub next_grid : (o st i : ℕ) (ss : List EvenSlot) → i < length ss → IsGrid o st (length (drop i ss)) → IsGrid (o + st) st (length (drop (i + 1) ss))
next_grid o st i ss lt grid =
    let fewer : o + length (drop i ss) * st ≡ o + suc (length (drop (i + 1) ss)) * st = ap (λ (n : ℕ). o + n * st) (rest_length ss i lt) in
    record { forward = grid.forward; short = grid.short; fits = omega (arith, grid.fits, fewer, rows o st (length (drop (i + 1) ss))) }

pub next_cells : (o st i : ℕ) (ss : List EvenSlot) (s : EvenSlot) (made new all : List Cell) → i < length ss → s ≡ slice_index_or ss i s → new ≡ made ++ present (even_cell o s ∷ []) → made ++ even_cells o st (drop i ss) ≡ all
    → new ++ even_cells (o + st) st (drop (i + 1) ss) ≡ all
next_cells o st i ss s made new all lt here added was =
    ap (λ (cells : List Cell). cells ++ even_cells (o + st) st (drop (i + 1) ss)) added
    ∙ append_assoc made (present (even_cell o s ∷ [])) (even_cells (o + st) st (drop (i + 1) ss))
    ∙ ap (λ (cells : List Cell). made ++ cells) (sym (present_joined (even_cell o s ∷ []) (places (o + st) st (drop (i + 1) ss))))
    ∙ ap (λ (rest : List EvenSlot). made ++ even_cells o st rest) (ap (λ (x : EvenSlot). x ∷ drop (i + 1) ss) here ∙ sym (drop_more ss i s lt))
    ∙ was

pub no_cells_left : (o st i : ℕ) (ss : List EvenSlot) (made all : List Cell) → length ss ≤ i → made ++ even_cells o st (drop i ss) ≡ all → made ≡ all
no_cells_left o st i ss made all le was =
    sym (append-nil made) ∙ ap (λ (rest : List EvenSlot). made ++ even_cells o st rest) (sym (drop_all i ss le)) ∙ was

-- what was read there, whatever stands for none
pub read_slot : (other ss : List EvenSlot) (i : ℕ) (d : EvenSlot) → other ≡ ss → i < length ss → slice_index_or other i d ≡ slice_index_or ss i (slice_index_or other i d)
read_slot other ss i d same lt =
    ap (λ (all : List EvenSlot). slice_index_or all i d) same ∙ get_or_default ss i d (slice_index_or other i d) lt
