-- A cell reads as one thing alone, by its items.
use Rattle.std.proofs.Common.{◌≡◌, ℕ, ◌+◌, ◌-◌, ◌%◌, ◌^◌, ◌≤◌, ◌<◌, Bool, true, false, cond, List, [], ◌∷◌, ◌++◌, length, get_or, drop, Option, None, Some, Result, Ok, Err, refl, sym, ap, subst, ◌∙◌, arith, append_assoc}
use Rattle.std.proofs.lemmas.Bool.{eq-eqb, le-ltb, lt-leb}
use Rattle.std.proofs.lemmas.List.{append-nil, drop_at, get_or_at, get_or_append_left, length-append}
use Rattle.std.proofs.lemmas.List.Elements.{All-head, All-tail}
use Rattle.std.proofs.lemmas.List.Folds.{list_any_none}
use Rattle.std.proofs.lemmas.List.Sums.{sum_by-cons}
use Rattle.std.proofs.lemmas.Int.{to_z-of_z}
use Rattle.std.proofs.lemmas.Nat.{from_be_bytes-to_be_bytes_2, from_be_bytes-to_be_bytes_4, from_be_bytes-to_be_bytes_8}
use Rattle.std.proofs.Math.Facts.{Fits-of_z}
use mir.Val.{bits}
use Rattle.std.specs.Prelude.{All, ℤ, FitsSigned, nat_lt, nat_le, not, if◌then◌else◌, slice_index}
use Rattle.std.specs.List.{flat_map}
use Rattle.std.specs.Int.{w16, w32, w64, to_be_bytes, from_be_bytes, cast_unsigned, cast_signed}
use Rattle.list_lemmas.proofs.ListMembers.{prefix_one}
use Rattle.row_hours.specs.declared.hours.TheConstants.{LAST_OFFSET}
use Rattle.qual_codec.specs.declared.cells.Item.{Item}
use Rattle.qual_codec.specs.declared.cells.Dot.{Dot}
use Rattle.qual_codec.specs.declared.cells.CellFault.{CellFault}
use Rattle.qual_codec.specs.declared.cells.CellFault.TheVariants.{OddLength, CutItem, OffsetTooLarge, FloatFlag, BadLength, NotRising, ValueShort, ValueLong, BadTail}
use Rattle.qual_codec.specs.Items.{IsLength, IsItem, IsItems, Rises, Fields, AreFields, fields_of, field_bytes, item_bytes}
use Rattle.qual_codec.specs.Items.IsLength.{one, two, four, eight}
use Rattle.qual_codec.specs.CellDots.{IsDots, items_of, value_bytes, number_bytes, width_of, tail_of, tail_for, has_both}
use Rattle.qual_codec.specs.CellFaults.{HasWholePairs, Begins, IsCut, is_length, item_fault, values_length, value_fault, tail_fault}
use Rattle.qual_codec.proofs.Bits.{length_low, length_high, are_fields, fields_once, item_once, items_once, some_bytes, coarse, fine_number, coarse_high}
use Rattle.qual_codec.proofs.Progress.{Fits, even_items, long_fields}

-- ---- where the items of a qualifier end

-- no item is next: the bytes end, or one is cut, or the bits are no next item's
pub data Ends (items : List Item) (at : ℕ) (rest : List ℕ) : Option CellFault → Type 0 where
  done : rest ≡ [] → Ends items at rest None
  at_cut : IsCut rest → Ends items at rest (Some (CutItem at))
  at_bits : (f : Fields) (after : List ℕ) (fault : CellFault) → rest ≡ field_bytes f ++ after → AreFields f → item_fault items at f ≡ Some fault → Ends items at rest (Some fault)

abbrev pub none_of : Option CellFault
none_of = None

abbrev bits_of : Bool → Fields → List ℕ
bits_of b f = if b then to_be_bytes w32 (fine_number f.offset f.reserved f.flags) else to_be_bytes w16 (coarse f.offset f.flags)

pub cut_fields : (f : Fields) (rest x : List ℕ) → AreFields f → IsCut rest → rest ≡ field_bytes f ++ x → ⊥
cut_fields f rest x are c e = at f.fine refl (ap (λ l. slice_index l 0) e) (ap (λ (l : List ℕ). length l) e)
  where
    at : (b : Bool) → f.fine ≡ b → slice_index rest 0 ≡ slice_index (bits_of b f ++ x) 0 → length rest ≡ length (bits_of b f ++ x) → ⊥
    at true fb h l = let short = c.1 in omega (arith, short, l)
    at false fb h l =
        let high = c.0 in
        let low = coarse_high f.offset f.flags (are.seconds fb).0 are.flags in
        omega (arith, high, low, h)

tests_length : (n : ℕ) → IsLength n → is_length (n - 1 + 1) ≡ true
tests_length _ one = refl
tests_length _ two = refl
tests_length _ four = refl
tests_length _ eight = refl

-- an item behind lower ones has no fault
pub no_fault : (before : List Item) (at : ℕ) (i : Item) → IsItem i → All (λ (j : Item). j.offset < i.offset) before → item_fault before at (fields_of i) ≡ None
no_fault before at i is low =
    let most = is.offset in
    let high = length_high i.len is.len in
    let l1 = length_low i.len is.len in
    let late = list_any_none (λ (j : Item). nat_le i.offset j.offset) before (λ k d lt. lt-leb i.offset (get_or before k d).offset (low k d lt)) in
    (λ k. cond (le-ltb LAST_OFFSET i.offset most k) (Some (OffsetTooLarge at)) (cond (lt-leb 8 (i.len - 1) (omega (arith, high, l1)) k) (Some (FloatFlag at)) (cond (not (tests_length i.len is.len k)) (Some (BadLength at (i.len - 1 + 1))) (cond (late k) (Some (NotRising at)) none_of))))

pub some_is : (f g : CellFault) → Some f ≡ Some g → f ≡ g
some_is f g e = cc

-- where no item is next, none is
no_more : (items : List Item) (at : ℕ) (rest x : List ℕ) (o : Option CellFault) (j : Item) → Ends items at rest o → IsItem j → All (λ (i : Item). i.offset < j.offset) items → rest ≡ item_bytes j ++ x → ⊥
no_more items at rest x _ j (done none) is low e = some_bytes (fields_of j) x (sym none ∙ e)
no_more items at rest x _ j (at_cut c) is low e = cut_fields (fields_of j) rest x (are_fields j is) c e
no_more items at rest x _ j (at_bits f after fault parts are bad) is low e =
    let w = fields_once f (fields_of j) after x are (are_fields j is) (sym parts ∙ e) in
    let none = ap (λ (g : Fields). item_fault items at g) w.0 ∙ no_fault items at j is low in
    let conflict : Some fault ≡ none_of = sym bad ∙ none in
    cc

one_end : (items : List Item) (at : ℕ) (rest : List ℕ) (o p : Option CellFault) → Ends items at rest o → Ends items at rest p → o ≡ p
one_end items at rest _ _ (done none) (done again) = refl
one_end items at rest _ _ (done none) (at_cut c) = let len = ap (λ l. slice_index l 0) none in let high = c.0 in absurd (omega (arith, len, high))
one_end items at rest _ _ (done none) (at_bits f after fault parts are bad) = absurd (some_bytes f after (sym none ∙ parts))
one_end items at rest _ _ (at_cut c) (done none) = let len = ap (λ l. slice_index l 0) none in let high = c.0 in absurd (omega (arith, len, high))
one_end items at rest _ _ (at_cut c) (at_cut d) = refl
one_end items at rest _ _ (at_cut c) (at_bits f after fault parts are bad) = absurd (cut_fields f rest after are c parts)
one_end items at rest _ _ (at_bits f after fault parts are bad) (done none) = absurd (some_bytes f after (sym none ∙ parts))
one_end items at rest _ _ (at_bits f after fault parts are bad) (at_cut c) = absurd (cut_fields f rest after are c parts)
one_end items at rest _ _ (at_bits f after fault parts are bad) (at_bits g more other others ares worse) =
    let w = fields_once f g after more are ares (sym parts ∙ others) in
    sym bad ∙ ap (λ (h : Fields). item_fault items at h) w.0 ∙ worse

-- two lists of items at the front of the same bytes: one begins the other
data Compared (a b : List Item) (ra rb : List ℕ) : Type 0 where
  alike : a ≡ b → ra ≡ rb → Compared a b ra rb
  more : (j : Item) (c : List Item) (x : List ℕ) → b ≡ a ++ j ∷ c → ra ≡ item_bytes j ++ x → Compared a b ra rb
  less : (i : Item) (c : List Item) (x : List ℕ) → a ≡ b ++ i ∷ c → rb ≡ item_bytes i ++ x → Compared a b ra rb

compare : (a b : List Item) (ra rb : List ℕ) → All IsItem a → All IsItem b → flat_map item_bytes a ++ ra ≡ flat_map item_bytes b ++ rb → Compared a b ra rb
compare [] [] ra rb p q e = alike refl e
compare [] (j ∷ b) ra rb p q e = more j b (flat_map item_bytes b ++ rb) refl (e ∙ append_assoc (item_bytes j) (flat_map item_bytes b) rb)
compare (i ∷ a) [] ra rb p q e = less i a (flat_map item_bytes a ++ ra) refl (sym e ∙ append_assoc (item_bytes i) (flat_map item_bytes a) ra)
compare (i ∷ a) (j ∷ b) ra rb p q e =
    let w = item_once i j (flat_map item_bytes a ++ ra) (flat_map item_bytes b ++ rb) (All-head IsItem i a p) (All-head IsItem j b q)
    (sym (append_assoc (item_bytes i) (flat_map item_bytes a) ra) ∙ e ∙ append_assoc (item_bytes j) (flat_map item_bytes b) rb) in
    go w.0 (compare a b ra rb (All-tail IsItem i a p) (All-tail IsItem j b q) w.1)
  where
    go : i ≡ j → Compared a b ra rb → Compared (i ∷ a) (j ∷ b) ra rb
    go h (alike s t) = alike (λ k. h k ∷ s k) t
    go h (more m c x s t) = more m c x (λ k. sym h k ∷ s k) t
    go h (less m c x s t) = less m c x (λ k. h k ∷ s k) t

-- the item behind the others
item_behind : (a c : List Item) (j : Item) → All IsItem (a ++ j ∷ c) → IsItem j
item_behind a c j all = subst IsItem (get_or_at a j c j (length a) refl) (all (length a) j (omega (arith, length-append a (j ∷ c))))

above_others : (a c : List Item) (j : Item) → Rises (a ++ j ∷ c) → All (λ (i : Item). i.offset < j.offset) a
above_others a c j rises k d lt =
    let up = rises k (length a) d lt (omega (arith, length-append a (j ∷ c))) in
    let low = ap (λ (i : Item). i.offset) (get_or_append_left a (j ∷ c) d k lt) in
    let high = ap (λ (i : Item). i.offset) (get_or_at a j c d (length a) refl) in
    omega (arith, up, low, high)

ends_once : (qual : List ℕ) (a b : List Item) (at bt : ℕ) (ra rb : List ℕ) (o p : Option CellFault) → Begins qual a at ra → Ends a at ra o → Begins qual b bt rb → Ends b bt rb p → o ≡ p
ends_once qual a b at bt ra rb o p ba ea bb eb = go (compare a b ra rb ba.each bb.each (sym ba.qual_is ∙ bb.qual_is))
  where
    go : Compared a b ra rb → o ≡ p
    go (alike same rest) =
        let place : at ≡ bt = ba.at_is ∙ ap (λ l. length (flat_map item_bytes l)) same ∙ sym bb.at_is in
        one_end b bt rb o p (subst (λ r. Ends b bt r o) rest (subst (λ n. Ends b n ra o) place (subst (λ l. Ends l at ra o) same ea))) eb
    go (more j c x e r) = absurd (no_more a at ra x o j ea (item_behind a c j (subst (All IsItem) e bb.each)) (above_others a c j (subst Rises e bb.rising)) r)
    go (less i c x e r) = absurd (no_more b bt rb x p i eb (item_behind b c i (subst (All IsItem) e ba.each)) (above_others b c i (subst Rises e ba.rising)) r)

some_length : (items : List Item) → 1 ≤ length items → 1 ≤ length (flat_map item_bytes items)
some_length [] some = absurd (omega (arith, some))
some_length (i ∷ items) some = let two = long_fields (fields_of i) in omega (arith, two, length-append (item_bytes i) (flat_map item_bytes items))

pub whole_pairs : (qual : List ℕ) (items : List Item) → IsItems qual items → HasWholePairs qual
whole_pairs qual items is =
    let len = ap (λ (l : List ℕ). length l) is.qual_is in
    let some = some_length items is.some in
    let even = even_items items in
    (omega (arith, len, some), omega (arith, len, even))

begins_all : (qual : List ℕ) (items : List Item) → IsItems qual items → Begins qual items (length qual) []
begins_all qual items is =
    record { pairs = whole_pairs qual items is; each = is.each; rising = is.rising; qual_is = is.qual_is ∙ sym (append-nil (flat_map item_bytes items)); at_is = ap (λ (l : List ℕ). length l) is.qual_is }

-- ---- the values of the same items

same_length : (len : ℕ) → IsLength len → (n m : ℕ) → length (to_be_bytes (width_of len) n) ≡ length (to_be_bytes (width_of len) m)
same_length _ one n m = refl
same_length _ two n m = refl
same_length _ four n m = refl
same_length _ eight n m = refl

pub number_length : (len : ℕ) → IsLength len → (v : ℤ) → length (number_bytes len v) ≡ len
number_length _ one v = refl
number_length _ two v = refl
number_length _ four v = refl
number_length _ eight v = refl

bounded : (len : ℕ) (v : ℤ) → FitsSigned (width_of len) v → cast_unsigned (width_of len) v < 2 ^ bits (width_of len)
bounded len v f = (Fits-of_z f).fits

number_once : (len n m : ℕ) → IsLength len → n < 2 ^ bits (width_of len) → m < 2 ^ bits (width_of len) → to_be_bytes (width_of len) n ≡ to_be_bytes (width_of len) m → n ≡ m
number_once _ n m one a b e = let h : n % 256 ≡ m % 256 = cc in omega (arith, h, a, b)
number_once _ n m two a b e = sym (from_be_bytes-to_be_bytes_2 n a) ∙ ap (from_be_bytes w16) e ∙ from_be_bytes-to_be_bytes_2 m b
number_once _ n m four a b e = sym (from_be_bytes-to_be_bytes_4 n a) ∙ ap (from_be_bytes w32) e ∙ from_be_bytes-to_be_bytes_4 m b
number_once _ n m eight a b e = sym (from_be_bytes-to_be_bytes_8 n a) ∙ ap (from_be_bytes w64) e ∙ from_be_bytes-to_be_bytes_8 m b

pub value_once : (len : ℕ) (v w : ℤ) (x y : List ℕ) → IsLength len → FitsSigned (width_of len) v → FitsSigned (width_of len) w → number_bytes len v ++ x ≡ number_bytes len w ++ y → (v ≡ w) × (x ≡ y)
value_once len v w x y l f g e =
    let p = prefix_one (number_bytes len v) (number_bytes len w) x y (same_length len l (cast_unsigned (width_of len) v) (cast_unsigned (width_of len) w)) e in
    let n = number_once len _ _ l (bounded len v f) (bounded len w g) p.0 in
    (sym (to_z-of_z (width_of len) v f) ∙ ap (cast_signed (width_of len)) n ∙ to_z-of_z (width_of len) w g, p.1)

values_once : (a b : List Dot) (x y : List ℕ) → All IsItem (items_of a) → All Fits a → All Fits b → items_of a ≡ items_of b → flat_map value_bytes a ++ x ≡ flat_map value_bytes b ++ y → a ≡ b
values_once [] [] x y i f g same e = refl
values_once [] (d ∷ b) x y i f g same e = cc
values_once (c ∷ a) [] x y i f g same e = cc
values_once (c ∷ a) (d ∷ b) x y i f g same e =
    let head : c.item ≡ d.item = cc in
    let tail : items_of a ≡ items_of b = cc in
    let len = ap (λ (j : Item). j.len) head in
    let there : FitsSigned (width_of c.item.len) d.value = subst (λ (l : ℕ). FitsSigned (width_of l) d.value) (sym len) (All-head Fits d b g) in
    let bytes = sym (append_assoc (value_bytes c) (flat_map value_bytes a) x) ∙ e ∙ append_assoc (value_bytes d) (flat_map value_bytes b) y ∙ ap (λ (l : ℕ). number_bytes l d.value ++ (flat_map value_bytes b ++ y)) (sym len) in
    let v = value_once c.item.len c.value d.value (flat_map value_bytes a ++ x) (flat_map value_bytes b ++ y) (All-head IsItem c.item (items_of a) i).len (All-head Fits c a f) there bytes in
    let rest = values_once a b x y (All-tail IsItem c.item (items_of a) i) (All-tail Fits c a f) (All-tail Fits d b g) tail v.1 in
    λ k. (record { item = head k; value = v.0 k }) ∷ rest k

dots_once : (qual value : List ℕ) (a b : List Dot) → IsDots qual value a → IsDots qual value b → a ≡ b
dots_once qual value a b p q = values_once a b _ _ p.items.each p.fits q.fits (items_once qual (items_of a) (items_of b) p.items q.items) (sym p.value_is ∙ q.value_is)

pub all_values : (dots : List Dot) → All IsItem (items_of dots) → length (flat_map value_bytes dots) ≡ values_length (items_of dots)
all_values [] is = refl
all_values (d ∷ dots) is =
    let a = number_length d.item.len (All-head IsItem d.item (items_of dots) is).len d.value in
    let b = all_values dots (All-tail IsItem d.item (items_of dots) is) in
    let s = sum_by-cons (λ (i : Item). i.len) d.item (items_of dots) in
    omega (arith, a, b, s, length-append (value_bytes d) (flat_map value_bytes dots))

own_tail : (count : ℕ) (both : Bool) → tail_fault (tail_for count both) (tail_for count both) ≡ None
own_tail count both = at (nat_lt 1 count)
  where
    at : (b : Bool) → tail_fault (if b then (if both then 1 else 0) ∷ [] else []) (if b then (if both then 1 else 0) ∷ [] else []) ≡ None
    at true = let same = eq-eqb (if both then 1 else 0) (if both then 1 else 0) refl in ap (λ (b : Bool). cond b none_of (Some (BadTail (if both then 1 else 0)))) same
    at false = refl

value_is_right : (qual value : List ℕ) (dots : List Dot) → IsDots qual value dots → value_fault (values_length (items_of dots)) (tail_of (items_of dots)) value ≡ None
value_is_right qual value dots is =
    let items = items_of dots in
    let tail = tail_of items in
    let len = values_length items in
    let front = all_values dots is.items.each in
    let long : length value ≡ len + length tail = ap (λ (l : List ℕ). length l) is.value_is ∙ length-append (flat_map value_bytes dots) tail ∙ ap (λ n. n + length tail) front in
    let rest : drop len value ≡ tail = ap (drop len) is.value_is ∙ drop_at (flat_map value_bytes dots) tail len front in
    (λ k. cond (le-ltb (length value) (len + length tail) (omega (arith, long)) k) (Some (ValueShort (len + length tail))) (cond (le-ltb (len + length tail) (length value) (omega (arith, long)) k) (Some (ValueLong (len + length tail))) (tail_fault tail (rest k))))
    ∙ own_tail (length items) (has_both items)

-- ---- one answer

-- what a cell reads as, by where its items end
pub data Kind (qual value : List ℕ) : Result (List Dot) CellFault → Type 0 where
  no_pairs : (HasWholePairs qual → ⊥) → Kind qual value (Err OddLength)
  stops : (items : List Item) (at : ℕ) (rest : List ℕ) (fault : CellFault) → Begins qual items at rest → Ends items at rest (Some fault) → Kind qual value (Err fault)
  is_dots : (dots : List Dot) → IsDots qual value dots → Kind qual value (Ok dots)
  bad_value : (items : List Item) (fault : CellFault) → IsItems qual items → value_fault (values_length items) (tail_of items) value ≡ Some fault → Kind qual value (Err fault)

ended : (qual : List ℕ) (a b : List Item) (at : ℕ) (rest : List ℕ) (fault : CellFault) → Begins qual a at rest → Ends a at rest (Some fault) → IsItems qual b → ⊥
ended qual a b at rest fault begins ends is =
    let conflict : Some fault ≡ none_of = ends_once qual a b at (length qual) rest [] (Some fault) None begins ends (begins_all qual b is) (done refl) in
    cc

right_and_wrong : (qual value : List ℕ) (dots : List Dot) (items : List Item) (fault : CellFault) → IsDots qual value dots → IsItems qual items → value_fault (values_length items) (tail_of items) value ≡ Some fault → ⊥
right_and_wrong qual value dots items fault d is bad =
    let same = items_once qual items (items_of dots) is d.items in
    let conflict : Some fault ≡ none_of = sym bad ∙ ap (λ l. value_fault (values_length l) (tail_of l) value) same ∙ value_is_right qual value dots d in
    cc

pub kinds_once : (qual value : List ℕ) (a b : Result (List Dot) CellFault) → Kind qual value a → Kind qual value b → a ≡ b
kinds_once qual value _ _ (no_pairs h) (no_pairs g) = refl
kinds_once qual value _ _ (no_pairs h) (stops b bt rb g bb eb) = absurd (h bb.pairs)
kinds_once qual value _ _ (no_pairs h) (is_dots d p) = absurd (h (whole_pairs qual (items_of d) p.items))
kinds_once qual value _ _ (no_pairs h) (bad_value b g is e) = absurd (h (whole_pairs qual b is))
kinds_once qual value _ _ (stops a at ra f ba ea) (no_pairs g) = absurd (g ba.pairs)
kinds_once qual value _ _ (stops a at ra f ba ea) (stops b bt rb g bb eb) = ap Err (some_is f g (ends_once qual a b at bt ra rb (Some f) (Some g) ba ea bb eb))
kinds_once qual value _ _ (stops a at ra f ba ea) (is_dots d p) = absurd (ended qual a (items_of d) at ra f ba ea p.items)
kinds_once qual value _ _ (stops a at ra f ba ea) (bad_value b g is e) = absurd (ended qual a b at ra f ba ea is)
kinds_once qual value _ _ (is_dots c p) (no_pairs g) = absurd (g (whole_pairs qual (items_of c) p.items))
kinds_once qual value _ _ (is_dots c p) (stops b bt rb g bb eb) = absurd (ended qual b (items_of c) bt rb g bb eb p.items)
kinds_once qual value _ _ (is_dots c p) (is_dots d q) = ap Ok (dots_once qual value c d p q)
kinds_once qual value _ _ (is_dots c p) (bad_value b g is e) = absurd (right_and_wrong qual value c b g p is e)
kinds_once qual value _ _ (bad_value a f is e) (no_pairs g) = absurd (g (whole_pairs qual a is))
kinds_once qual value _ _ (bad_value a f is e) (stops b bt rb g bb eb) = absurd (ended qual b a bt rb g bb eb is)
kinds_once qual value _ _ (bad_value a f is e) (is_dots d q) = absurd (right_and_wrong qual value d a f q is e)
kinds_once qual value _ _ (bad_value a f is e) (bad_value b g js h) =
    let same = items_once qual a b is js in
    ap Err (some_is f g (sym e ∙ ap (λ l. value_fault (values_length l) (tail_of l) value) same ∙ h))
