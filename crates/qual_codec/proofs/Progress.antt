-- How far reading has come.
use Rattle.std.proofs.Common.{◌≡◌, inl, inr, ℕ, zero, suc, ◌+◌, ◌-◌, ◌*◌, ◌%◌, ◌≤◌, ◌<◌, Bool, true, false, List, [], ◌∷◌, ◌++◌, length, get_or, refl, sym, ap, subst, ◌∙◌, arith, append_assoc}
use Rattle.std.proofs.lemmas.Bool.{cases_lt, false_from_ne_true, true≢false, lt-ltb, le-ltb, le-leb, lt-leb, leb-false}
use Rattle.std.proofs.lemmas.List.{flat_map_more, length-append, length_push, map-append}
use Rattle.std.proofs.lemmas.List.Elements.{All-push}
use Rattle.std.proofs.lemmas.List.Folds.{list_any-append, list_any_at}
use Rattle.std.proofs.lemmas.List.Quantifiers.{all_pairs_push}
use Rattle.std.proofs.lemmas.List.Sums.{sum_by_push}
use Rattle.std.specs.Prelude.{All, ℤ, FitsSigned, nat_lt, nat_le, not, ◌==◌, ◌||◌, if◌then◌else◌}
use Rattle.std.specs.List.{flat_map, list_any}
use Rattle.std.specs.Int.{w16, w32, to_be_bytes}
use Rattle.row_hours.specs.declared.hours.TheConstants.{HOUR_MILLIS}
use Rattle.qual_codec.specs.declared.cells.Item.{Item}
use Rattle.qual_codec.specs.declared.cells.Dot.{Dot}
use Rattle.qual_codec.specs.declared.cells.CellFault.{CellFault}
use Rattle.qual_codec.specs.Items.{IsItem, Fields, fields_of, field_bytes, item_bytes}
use Rattle.qual_codec.specs.CellDots.{items_of, number_bytes, value_bytes, width_of}
use Rattle.qual_codec.specs.CellFaults.{Begins, values_length, IsFirstFault, bits_fault}
use Rattle.qual_codec.specs.CellFaults.IsFirstFault.{cut, item}
use Rattle.qual_codec.specs.CellSteps.{IsNextItem, IsNextFault}
use Rattle.qual_codec.proofs.Bits.{length_high, coarse, fine_number}

abbrev pub Fits : Dot → Type 0
Fits d = FitsSigned (width_of d.item.len) d.value

-- the items before `rest` are those of the dots, and their values stand before `left` where the value has them all
pub record HasCome (qual value rest left : List ℕ) (dots : List Dot) (least len : ℕ) (fine coarse : Bool) : Type 0 where
  pub begins : Begins qual (items_of dots) (length qual - length rest) rest
  pub least_is : (o : ℕ) → list_any (λ (i : Item). nat_le o i.offset) (items_of dots) ≡ nat_lt o least
  pub count : length dots ≤ least
  pub most : least ≤ HOUR_MILLIS
  pub len_is : len ≡ values_length (items_of dots)
  pub few : len ≤ 8 * length dots
  pub values : len ≤ length value → value ≡ flat_map value_bytes dots ++ left
  pub left_is : len ≤ length value → len + length left ≡ length value
  pub fits : All Fits dots
  pub fine_is : fine ≡ list_any (λ (i : Item). i.fine) (items_of dots)
  pub coarse_is : coarse ≡ list_any (λ (i : Item). not i.fine) (items_of dots)

-- ---- an item has two bytes or four

pub long_fields : (f : Fields) → 2 ≤ length (field_bytes f)
long_fields f = at f.fine
  where
    at : (b : Bool) → 2 ≤ length (if b then to_be_bytes w32 (fine_number f.offset f.reserved f.flags) else to_be_bytes w16 (coarse f.offset f.flags))
    at true = omega arith
    at false = omega arith

even_fields : (f : Fields) → length (field_bytes f) % 2 ≡ 0
even_fields f = at f.fine
  where
    at : (b : Bool) → length (if b then to_be_bytes w32 (fine_number f.offset f.reserved f.flags) else to_be_bytes w16 (coarse f.offset f.flags)) % 2 ≡ 0
    at true = refl
    at false = refl

pub even_items : (items : List Item) → length (flat_map item_bytes items) % 2 ≡ 0
even_items [] = refl
even_items (i ∷ items) =
    let a = even_fields (fields_of i) in
    let b = even_items items in
    let c = length-append (item_bytes i) (flat_map item_bytes items) in
    omega (arith, a, b, c)

pub some_left : (b : Bool) (n : ℕ) → b ≡ (n == 0) → b ≡ false → 0 < n
some_left b zero e f = let bad : true ≡ false = sym e ∙ f in cc
some_left b (suc n) e f = omega arith

pub two_left : (qual rest : List ℕ) (items : List Item) (at : ℕ) → Begins qual items at rest → 0 < length rest → 2 ≤ length rest
two_left qual rest items at b some =
    let even = b.pairs.1 in
    let len = ap (λ (l : List ℕ). length l) b.qual_is ∙ length-append (flat_map item_bytes items) rest in
    let e = even_items items in
    omega (arith, even, len, e, some)

pub shorter : (least : ℕ) (rest after : List ℕ) (i : Item) → IsNextItem least rest i after → length after < length rest
shorter least rest after i n =
    let len = ap (λ (l : List ℕ). length l) n.parts ∙ length-append (item_bytes i) after in
    let two = long_fields (fields_of i) in
    omega (arith, len, two)

-- ---- the first fault

pub next_is_first : (qual value rest left : List ℕ) (dots : List Dot) (least len : ℕ) (fine coarse : Bool) (fault : CellFault) → HasCome qual value rest left dots least len fine coarse
    → IsNextFault (length qual - length rest) least rest fault → IsFirstFault qual value fault
next_is_first qual value rest left dots least len fine coarse fault h (inl (is_cut, e)) =
    subst (IsFirstFault qual value) (sym e) (cut (items_of dots) (length qual - length rest) rest h.begins is_cut)
next_is_first qual value rest left dots least len fine coarse fault h (inr (f, after, parts, fields, e)) =
    let at = length qual - length rest in
    item (items_of dots) at f after fault (subst (Begins qual (items_of dots) at) parts h.begins) fields (ap (λ late. bits_fault at late f) (h.least_is f.offset) ∙ e)

-- ---- one more item

later : (o least offset : ℕ) → least ≤ offset → (nat_lt o least || nat_le o offset) ≡ nat_lt o (offset + 1)
later o least offset le =
    elim (cases_lt o (offset + 1)) [
      | inl lt ↦ any_true (nat_lt o least) (nat_le o offset) (le-leb o offset (omega (arith, lt))) ∙ sym (lt-ltb o (offset + 1) lt)
      | inr ge ↦ (λ k. le-ltb o least (omega (arith, le, ge)) k || lt-leb o offset (omega (arith, ge)) k) ∙ sym (le-ltb o (offset + 1) ge)
    ]
  where
    any_true : (a b : Bool) → b ≡ true → (a || b) ≡ true
    any_true true b e = refl
    any_true false b e = e

alone : (b : Bool) → (b || false) ≡ b
alone true = refl
alone false = refl

pub any_push : (p : Item → Bool) (items : List Item) (i : Item) → list_any p (items ++ i ∷ []) ≡ (list_any p items || p i)
any_push p items i = list_any-append p items (i ∷ []) ∙ ap (λ b. list_any p items || b) (alone (p i))

-- each item before stands lower
below : (items : List Item) (least offset : ℕ) → ((o : ℕ) → list_any (λ (i : Item). nat_le o i.offset) items ≡ nat_lt o least) → least ≤ offset → (k : ℕ) (d : Item) → k < length items → (get_or items k d).offset < offset
below items least offset is le k d lt =
    let none = is offset ∙ le-ltb offset least le in
    leb-false offset (get_or items k d).offset (false_from_ne_true _ (λ e. true≢false (sym (list_any_at (λ (i : Item). nat_le offset i.offset) items k d lt e) ∙ none)))

place : (qual front rest : List ℕ) → qual ≡ front ++ rest → length qual - length rest ≡ length front
place qual front rest e = let len = ap (λ (l : List ℕ). length l) e ∙ length-append front rest in omega (arith, len)

begins_on : (qual rest after : List ℕ) (items : List Item) (at least : ℕ) (i : Item) → Begins qual items at rest → ((o : ℕ) → list_any (λ (i : Item). nat_le o i.offset) items ≡ nat_lt o least) → IsNextItem least rest i after
    → Begins qual (items ++ i ∷ []) (length qual - length after) after
begins_on qual rest after items at least i b is n =
    let parts : qual ≡ flat_map item_bytes (items ++ i ∷ []) ++ after =
    b.qual_is ∙ ap (λ l. flat_map item_bytes items ++ l) n.parts ∙ sym (append_assoc (flat_map item_bytes items) (item_bytes i) after) ∙ ap (λ l. l ++ after) (flat_map_more item_bytes [] items i) in
    record {
      pairs = b.pairs;
      each = All-push IsItem items i b.each n.item;
      rising = all_pairs_push (λ (i j : Item). i.offset < j.offset) items i b.rising (below items least i.offset is n.rising);
      qual_is = parts;
      at_is = place qual (flat_map item_bytes (items ++ i ∷ [])) after parts;
    }

-- the value at the front, where the bytes have it
pub record IsNextValue (len : ℕ) (bytes : List ℕ) (v : ℤ) (after : List ℕ) : Type 0 where
  pub bytes_are : len ≤ length bytes → bytes ≡ number_bytes len v ++ after
  pub fits : FitsSigned (width_of len) v
  pub less : len ≤ length bytes → length after + len ≡ length bytes

pub come_on : (qual value rest left after behind : List ℕ) (dots new : List Dot) (least len l : ℕ) (fine coarse : Bool) (i : Item) (v : ℤ) → HasCome qual value rest left dots least len fine coarse → IsNextItem least rest i after
    → IsNextValue i.len left v behind → l ≡ i.len → new ≡ dots ++ record { item = i; value = v } ∷ [] → HasCome qual value after behind new (i.offset + 1) (len + l) (fine || i.fine) (coarse || not i.fine)
come_on qual value rest left after behind dots new least len l fine coarse i v h n w l_is new_is =
    let d : Dot = record { item = i; value = v } in
    let items = items_of dots in
    let items_are : items_of new ≡ items ++ i ∷ [] = ap items_of new_is ∙ map-append (λ (d : Dot). d.item) dots (d ∷ []) in
    let count = ap (λ (ds : List Dot). length ds) new_is ∙ length_push dots d in
    let rising = n.rising in
    let most = n.item.offset in
    let high = length_high i.len n.item.len in
    record {
      begins = subst (λ is. Begins qual is (length qual - length after) after) (sym items_are) (begins_on qual rest after items (length qual - length rest) least i h.begins h.least_is n);
      least_is = λ o. ap (list_any (λ (i : Item). nat_le o i.offset)) items_are ∙ any_push (λ (i : Item). nat_le o i.offset) items i ∙ ap (λ b. b || nat_le o i.offset) (h.least_is o) ∙ later o least i.offset rising;
      count = omega (arith, count, h.count, rising);
      most = omega (arith, most);
      len_is = (λ k. h.len_is k + l_is k) ∙ sym (sum_by_push (λ (i : Item). i.len) items i) ∙ sym (ap values_length items_are);
      few = omega (arith, count, h.few, l_is, high);
      values = λ fit. values fit;
      left_is = λ fit. left_is fit;
      fits = subst (All Fits) (sym new_is) (All-push Fits dots d h.fits w.fits);
      fine_is = ap (λ b. b || i.fine) h.fine_is ∙ sym (any_push (λ (i : Item). i.fine) items i) ∙ sym (ap (list_any (λ (i : Item). i.fine)) items_are);
      coarse_is = ap (λ b. b || not i.fine) h.coarse_is ∙ sym (any_push (λ (i : Item). not i.fine) items i) ∙ sym (ap (list_any (λ (i : Item). not i.fine)) items_are);
    }
  where
    enough : len + l ≤ length value → (len ≤ length value) × (i.len ≤ length left)
    enough fit =
        let le : len ≤ length value = omega (arith, fit) in
        let is = h.left_is le in
        (le, omega (arith, is, fit, l_is))

    values : len + l ≤ length value → value ≡ flat_map value_bytes new ++ behind
    values fit =
        let e = enough fit in
        let d : Dot = record { item = i; value = v } in
        h.values e.0 ∙ ap (λ x. flat_map value_bytes dots ++ x) (w.bytes_are e.1) ∙ sym (append_assoc (flat_map value_bytes dots) (value_bytes d) behind) ∙ ap (λ x. x ++ behind) (flat_map_more value_bytes [] dots d)
        ∙ ap (λ ds. flat_map value_bytes ds ++ behind) (sym new_is)

    left_is : len + l ≤ length value → len + l + length behind ≡ length value
    left_is fit =
        let e = enough fit in
        let is = h.left_is e.0 in
        let less = w.less e.1 in
        omega (arith, is, less, l_is)

-- ---- behind the dots of other cells

-- what has come stands behind the old dots
pub record HasAdded (qual value rest left : List ℕ) (old now : List Dot) (least len : ℕ) (fine coarse : Bool) : Type 0 where
  pub points : List Dot
  pub parts : now ≡ old ++ points
  pub come : HasCome qual value rest left points least len fine coarse

pub add_on : (qual value rest left after behind : List ℕ) (old now new : List Dot) (least len l : ℕ) (fine coarse : Bool) (i : Item) (v : ℤ) → HasAdded qual value rest left old now least len fine coarse → IsNextItem least rest i after
    → IsNextValue i.len left v behind → l ≡ i.len → new ≡ now ++ record { item = i; value = v } ∷ [] → HasAdded qual value after behind old new (i.offset + 1) (len + l) (fine || i.fine) (coarse || not i.fine)
add_on qual value rest left after behind old now new least len l fine coarse i v h n w l_is new_is = record {
  points = h.points ++ record { item = i; value = v } ∷ [];
  parts = new_is ∙ ap (λ (ds : List Dot). ds ++ record { item = i; value = v } ∷ []) h.parts ∙ append_assoc old h.points (record { item = i; value = v } ∷ []);
  come = come_on qual value rest left after behind h.points (h.points ++ record { item = i; value = v } ∷ []) least len l fine coarse i v h.come n w l_is refl;
}
