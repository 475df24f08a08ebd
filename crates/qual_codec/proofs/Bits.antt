-- The bits of an item are one list of bytes, and no other item's bits begin with them.
use Rattle.std.proofs.Common.{◌≡◌, ◌≢◌, ℕ, ◌+◌, ◌*◌, ◌/◌, ◌%◌, ◌^◌, ◌≤◌, ◌<◌, Bool, true, false, List, [], ◌∷◌, ◌++◌, refl, sym, ap, ◌∙◌, arith}
use Rattle.std.specs.Prelude.{All, if◌then◌else◌}
use Rattle.std.specs.List.{flat_map}
use Rattle.std.specs.Int.{w16, w32, to_be_bytes, byte_at}
use Rattle.std.proofs.lemmas.List.Elements.{All-head, All-tail}
use Rattle.qual_codec.specs.declared.cells.Item.{Item}
use Rattle.qual_codec.specs.Items.{IsLength, IsItem, IsItems, Fields, AreFields, field_bytes, fields_of, item_bytes}
use Rattle.qual_codec.specs.Items.IsLength.{one, two, four, eight}

pub length_low : (n : ℕ) → IsLength n → 1 ≤ n
length_low _ one = omega arith
length_low _ two = omega arith
length_low _ four = omega arith
length_low _ eight = omega arith

pub length_high : (n : ℕ) → IsLength n → n ≤ 8
length_high _ one = omega arith
length_high _ two = omega arith
length_high _ four = omega arith
length_high _ eight = omega arith

-- an item's bits are bits
pub are_fields : (i : Item) → IsItem i → AreFields (fields_of i)
are_fields i is =
    let most = is.offset in
    let high = length_high i.len is.len in
    record { seconds = λ e. (omega (arith, most), is.whole e, refl); milliseconds = λ e. (omega (arith, most), omega arith); flags = omega (arith, high) }

abbrev pub coarse : ℕ → ℕ → ℕ
coarse o l = o / 1000 * 16 + l

abbrev pub fine_number : ℕ → ℕ → ℕ → ℕ
fine_number o r l = 15 * 2 ^ 28 + o * 64 + r * 16 + l

record Same (f g : Fields) (x y : List ℕ) : Type 0 where
  pub fine : f.fine ≡ g.fine
  pub offset : f.offset ≡ g.offset
  pub reserved : f.reserved ≡ g.reserved
  pub flags : f.flags ≡ g.flags
  pub rest : x ≡ y

heads : (a b : ℕ) (x y : List ℕ) → a ∷ x ≡ b ∷ y → a ≡ b
heads a b x y e = cc

tails : (a b : ℕ) (x y : List ℕ) → a ∷ x ≡ b ∷ y → x ≡ y
tails a b x y e = cc

two_bytes : (a b : ℕ) → a < 65536 → b < 65536 → byte_at 1 a ≡ byte_at 1 b → byte_at 0 a ≡ byte_at 0 b → a ≡ b
two_bytes a b la lb e f = omega (arith, e, f)

four_bytes : (a b : ℕ) → a < 4294967296 → b < 4294967296 → byte_at 3 a ≡ byte_at 3 b → byte_at 2 a ≡ byte_at 2 b → byte_at 1 a ≡ byte_at 1 b → byte_at 0 a ≡ byte_at 0 b → a ≡ b
four_bytes a b la lb e f g h = omega (arith, e, f, g, h)

-- the bits 1111 begin four bytes, and no two
pub coarse_high : (o l : ℕ) → o < 3840000 → l < 16 → byte_at 1 (coarse o l) < 240
coarse_high o l lo ll = omega (arith, lo, ll)

pub fine_high : (o r l : ℕ) → o < 2 ^ 22 → r < 4 → l < 16 → 240 ≤ byte_at 3 (fine_number o r l)
fine_high o r l lo lr ll = omega (arith, lo, lr, ll)

coarse_once : (o p l m : ℕ) (x y : List ℕ) → o < 3840000 → p < 3840000 → o % 1000 ≡ 0 → p % 1000 ≡ 0 → l < 16 → m < 16 → to_be_bytes w16 (coarse o l) ++ x ≡ to_be_bytes w16 (coarse p m) ++ y
    → (o ≡ p) × (l ≡ m) × (x ≡ y)
coarse_once o p l m x y lo lp wo wp ll lm e =
    let e1 = tails _ _ _ _ e in
    let n = two_bytes (coarse o l) (coarse p m) (omega arith) (omega arith) (heads _ _ _ _ e) (heads _ _ _ _ e1) in
    (omega (arith, n), omega (arith, n), tails _ _ _ _ e1)

fine_once : (o p r s l m : ℕ) (x y : List ℕ) → o < 2 ^ 22 → p < 2 ^ 22 → r < 4 → s < 4 → l < 16 → m < 16 → to_be_bytes w32 (fine_number o r l) ++ x ≡ to_be_bytes w32 (fine_number p s m) ++ y
    → (o ≡ p) × (r ≡ s) × (l ≡ m) × (x ≡ y)
fine_once o p r s l m x y lo lp lr ls ll lm e =
    let e1 = tails _ _ _ _ e in
    let e2 = tails _ _ _ _ e1 in
    let e3 = tails _ _ _ _ e2 in
    let n = four_bytes (fine_number o r l) (fine_number p s m) (omega arith) (omega arith) (heads _ _ _ _ e) (heads _ _ _ _ e1) (heads _ _ _ _ e2) (heads _ _ _ _ e3) in
    (omega (arith, n), omega (arith, n), omega (arith, n), tails _ _ _ _ e3)

differ : (o p r l m : ℕ) (x y : List ℕ) → o < 2 ^ 22 → r < 4 → l < 16 → p < 3840000 → m < 16 → to_be_bytes w32 (fine_number o r l) ++ x ≡ to_be_bytes w16 (coarse p m) ++ y → ⊥
differ o p r l m x y lo lr ll lp lm e =
    let h = heads _ _ _ _ e in
    let low = coarse_high p m lp lm in
    let high = fine_high o r l lo lr ll in
    omega (arith, h, low, high)

same : (f g : Fields) (x y : List ℕ) (b c : Bool) → f.fine ≡ b → g.fine ≡ c → AreFields f → AreFields g
    → (if b then to_be_bytes w32 (fine_number f.offset f.reserved f.flags) else to_be_bytes w16 (coarse f.offset f.flags)) ++ x
    ≡ (if c then to_be_bytes w32 (fine_number g.offset g.reserved g.flags) else to_be_bytes w16 (coarse g.offset g.flags)) ++ y
    → Same f g x y
same f g x y true true fb gc af ag e =
    let mf = af.milliseconds fb in
    let mg = ag.milliseconds gc in
    let w = fine_once f.offset g.offset f.reserved g.reserved f.flags g.flags x y mf.0 mg.0 mf.1 mg.1 af.flags ag.flags e in
    record { fine = fb ∙ sym gc; offset = w.0; reserved = w.1; flags = w.2; rest = w.3 }
same f g x y false false fb gc af ag e =
    let sf = af.seconds fb in
    let sg = ag.seconds gc in
    let w = coarse_once f.offset g.offset f.flags g.flags x y sf.0 sg.0 sf.1 sg.1 af.flags ag.flags e in
    record { fine = fb ∙ sym gc; offset = w.0; reserved = sf.2 ∙ sym sg.2; flags = w.1; rest = w.2 }
same f g x y true false fb gc af ag e =
    let mf = af.milliseconds fb in
    absurd (differ f.offset g.offset f.reserved f.flags g.flags x y mf.0 mf.1 af.flags (ag.seconds gc).0 ag.flags e)
same f g x y false true fb gc af ag e =
    let mg = ag.milliseconds gc in
    absurd (differ g.offset f.offset g.reserved g.flags f.flags y x mg.0 mg.1 ag.flags (af.seconds fb).0 af.flags (sym e))

-- bytes begin with the bits of one item
pub fields_once : (f g : Fields) (x y : List ℕ) → AreFields f → AreFields g → field_bytes f ++ x ≡ field_bytes g ++ y → (f ≡ g) × (x ≡ y)
fields_once f g x y af ag e =
    let s = same f g x y f.fine g.fine refl refl af ag e in
    (λ k. record { fine = s.fine k; offset = s.offset k; reserved = s.reserved k; flags = s.flags k }, s.rest)

same_item : (i j : Item) → IsItem i → IsItem j → fields_of i ≡ fields_of j → i ≡ j
same_item i j a b e =
    let f = ap (λ (x : Fields). x.fine) e in
    let o = ap (λ (x : Fields). x.offset) e in
    let l = ap (λ (x : Fields). x.flags) e in
    let li = length_low i.len a.len in
    let lj = length_low j.len b.len in
    let len : i.len ≡ j.len = omega (arith, l, li, lj) in
    λ k. record { offset = o k; fine = f k; len = len k }

pub item_once : (i j : Item) (x y : List ℕ) → IsItem i → IsItem j → item_bytes i ++ x ≡ item_bytes j ++ y → (i ≡ j) × (x ≡ y)
item_once i j x y a b e =
    let w = fields_once (fields_of i) (fields_of j) x y (are_fields i a) (are_fields j b) e in
    (same_item i j a b w.0, w.1)

pub some_bytes : (f : Fields) (x : List ℕ) → [] ≢ field_bytes f ++ x
some_bytes f x e = at f.fine e
  where
    at : (b : Bool) → [] ≢ (if b then to_be_bytes w32 (fine_number f.offset f.reserved f.flags) else to_be_bytes w16 (coarse f.offset f.flags)) ++ x
    at true e = cc
    at false e = cc

list_once : (a b : List Item) → All IsItem a → All IsItem b → flat_map item_bytes a ≡ flat_map item_bytes b → a ≡ b
list_once [] [] p q e = refl
list_once [] (j ∷ b) p q e = absurd (some_bytes (fields_of j) (flat_map item_bytes b) e)
list_once (i ∷ a) [] p q e = absurd (some_bytes (fields_of i) (flat_map item_bytes a) (sym e))
list_once (i ∷ a) (j ∷ b) p q e =
    let s = item_once i j (flat_map item_bytes a) (flat_map item_bytes b) (All-head IsItem i a p) (All-head IsItem j b q) e in
    let t = list_once a b (All-tail IsItem i a p) (All-tail IsItem j b q) s.1 in
    λ k. s.0 k ∷ t k

-- a qualifier is one list of items
pub items_once : (qual : List ℕ) (a b : List Item) → IsItems qual a → IsItems qual b → a ≡ b
items_once qual a b p q = list_once a b p.each q.each (sym p.qual_is ∙ q.qual_is)

-- a length that is none of the lesser ones
pub eight_left : (n : ℕ) → IsLength n → n ≢ 1 → n ≢ 2 → n ≢ 4 → n ≡ 8
eight_left _ one a b c = absurd (a refl)
eight_left _ two a b c = absurd (b refl)
eight_left _ four a b c = absurd (c refl)
eight_left _ eight a b c = refl
