-- A row that is compacted twice: its history is lawful, and one cell is left.
use Rattle.std.proofs.Common.{◌≡◌, ◌≢◌, ◌⊎◌, inl, inr, ℕ, zero, suc, ◌%◌, ◌≤◌, ◌<◌, true, false, List, [], ◌∷◌, length, refl, ap, subst, ◌∙◌, arith, rules}
use Rattle.std.specs.Prelude.{◌++◌, pos, neg_ℤ, Some, option_and_then, Contains, All, AllPairs, FitsSigned}
use Rattle.row_key.specs.Made.{three}
use Rattle.tsd_base.specs.declared.kinds.Kind.{Kind}
use Rattle.tsd_base.specs.declared.kinds.Kind.TheVariants.{Metric, TagKey, TagValue}
use Rattle.tsd_base.specs.Alphabet.{IsName}
use Rattle.tsd_base.specs.TagList.{Pair, IsTags}
use Rattle.tsd_base.specs.Points.{DataPoint}
use Rattle.row_key.specs.Key.{IsId, IsKey, id_bytes}
use Rattle.cell_model.specs.Store.{no_cells}
use Rattle.std.specs.declared.cmp.Ordering.TheVariants.{Less}
use Rattle.list_lemmas.specs.BytesOrder.{bytes_cmp}
use Rattle.std.specs.List.{flat_map}
use Rattle.row_hours.specs.declared.hours.TheConstants.{HOUR_MILLIS}
use Rattle.qual_codec.specs.declared.cells.Item.{Item}
use Rattle.qual_codec.specs.declared.cells.Dot.{Dot}
use Rattle.qual_codec.specs.Items.{IsLength, IsItem, IsItems, item_bytes}
use Rattle.qual_codec.specs.Items.IsLength.{one, two, four, eight}
use Rattle.qual_codec.specs.CellDots.{IsDots, width_of, items_of, value_bytes, tail_of}
use Rattle.qual_codec.specs.Order.{IsAsGood, IsBelow}
use Rattle.qual_codec.specs.Spelling.{IsShortest, dot_of}
use Rattle.cell_model.specs.declared.answers.Bumped.TheVariants.{Given}
use Rattle.cell_model.specs.declared.answers.Claimed.TheVariants.{Done}
use Rattle.cell_model.specs.declared.events.Step.TheVariants.{Open, Bump, Claim, PutPoint, PutMerged, DropCells}
use Rattle.cell_model.specs.declared.events.Reply.TheVariants.{Opened, BumpReply, ClaimReply, Written, Removed}
use Rattle.cell_model.specs.Machine.{kind_qual}
use Rattle.cell_model.specs.History.{History}
use Rattle.cell_model.specs.History.History.{Base, Then}
use Rattle.cell_model.specs.IdRows.{id_number, name_row, id_row, id_of}
use Rattle.cell_model.specs.Layout.{IsPoint, HasKey, names_of}
use Rattle.cell_model.specs.Lawful.{IsLawful, PointBasis, HadCell}
use Rattle.cell_laws.specs.Examples.{did, name_a, series_row, point, at_start, at_minute, at_quarter, at_second, three_qual, three_value, four_qual, four_value, compacted, OneCellIsLeft}
use Rattle.list_lemmas.proofs.ListMembers.{here, there, split, not_in}
use Rattle.cell_laws.proofs.Sheets.{IsFresh, value_in, sheet}
use Rattle.cell_laws.proofs.EmptyStore.{empty_base}
use Rattle.cell_laws.proofs.Worked.{is_name, more, value_after, cells_after}

name_m : IsName (109 ∷ [])
name_m = record { some = omega arith; most = omega arith; alphabet = refl }

name_h : IsName (104 ∷ [])
name_h = record { some = omega arith; most = omega arith; alphabet = refl }

-- ---- lists of a few elements

all_none : {A : Type 0} (P : A → Type 0) → All P []
all_none P i d lt = absurd (omega (arith, lt))

all_more : {A : Type 0} (P : A → Type 0) (x : A) (xs : List A) → P x → All P xs → All P (x ∷ xs)
all_more P x xs p ps zero d lt = p
all_more P x xs p ps (suc i) d lt = ps i d (omega (arith, lt))

pairs_none : {A : Type 0} (R : A → A → Type 0) (x : A) → AllPairs R (x ∷ [])
pairs_none R x i j d lt within = absurd (omega (arith, lt, within))

alone : {A : Type 0} (x y : A) → Contains (x ∷ []) y → x ≡ y
alone x y c = at (split x y [] c)
  where
    at : (x ≡ y) ⊎ Contains [] y → x ≡ y
    at (inl same) = same
    at (inr none) = absurd (not_in y none)

in_two : {A : Type 0} (P : A → Type 0) (x y : A) → P x → P y → (z : A) → Contains (x ∷ y ∷ []) z → P z
in_two P x y px py z c = at (split x z (y ∷ []) c)
  where
    at : (x ≡ z) ⊎ Contains (y ∷ []) z → P z
    at (inl same) = subst P same px
    at (inr later) = subst P (alone y z later) py

in_three : {A : Type 0} (P : A → Type 0) (w x y : A) → P w → P x → P y → (z : A) → Contains (w ∷ x ∷ y ∷ []) z → P z
in_three P w x y pw px py z c = at (split w z (x ∷ y ∷ []) c)
  where
    at : (w ≡ z) ⊎ Contains (x ∷ y ∷ []) z → P z
    at (inl same) = subst P same pw
    at (inr later) = in_two P x y px py z later

-- ---- points

tags : IsTags ((104 ∷ [], name_a) ∷ [])
tags = record { some = omega arith; most = omega arith; rising = pairs_none (λ (s t : Pair). bytes_cmp s.0 t.0 ≡ Less) (104 ∷ [], name_a); names = ((name_h, is_name), tt) }

abbrev AreIds : ℕ × ℕ → Type 0
AreIds i = IsId 3 i.0 × IsId 3 i.1

is_key : IsKey three (record { metric = 1; base = 1356998400; pairs = record { items = (1, 1) ∷ [] } })
is_key = record {
  metric = (omega arith, omega arith);
  base = omega arith;
  hour = refl;
  some = omega arith;
  most = omega arith;
  ids = all_more AreIds (1, 1) [] ((omega arith, omega arith), (omega arith, omega arith)) (all_none AreIds);
  rising = pairs_none (λ (i j : ℕ × ℕ). i.0 < j.0) (1, 1);
}

abbrev ones : Kind → List ℕ → ℕ
ones kind name = 1

abbrev Has : History → Kind → List ℕ → ℕ → Type 0
Has h kind name id = id_of h kind name ≡ Some id

id_after : (h : History) (kind : Kind) (name : List ℕ) → IsFresh h → value_in (sheet h) (name_row name) (kind_qual kind) ≡ Some (id_bytes 3 1) → id_of h kind name ≡ Some 1
id_after h kind name fresh is = ap (option_and_then id_number) (value_after h (name_row name) (kind_qual kind) fresh ∙ is)

abbrev Names : List (Kind × List ℕ)
Names = (Metric, 109 ∷ []) ∷ (TagKey, 104 ∷ []) ∷ (TagValue, name_a) ∷ []

resolved : (h : History) → IsFresh h → value_in (sheet h) (name_row (109 ∷ [])) (kind_qual Metric) ≡ Some (id_bytes 3 1) → value_in (sheet h) (name_row (104 ∷ [])) (kind_qual TagKey) ≡ Some (id_bytes 3 1)
    → value_in (sheet h) (name_row name_a) (kind_qual TagValue) ≡ Some (id_bytes 3 1) → (x : Kind × List ℕ) → Contains Names x → Has h x.0 x.1 1
resolved h fresh m k v = in_three (λ (x : Kind × List ℕ). Has h x.0 x.1 1) (Metric, 109 ∷ []) (TagKey, 104 ∷ []) (TagValue, name_a) (id_after h Metric (109 ∷ []) fresh m) (id_after h TagKey (104 ∷ []) fresh k) (id_after h TagValue name_a fresh v)

abbrev FitsDot : Dot → Type 0
FitsDot d = FitsSigned (width_of d.item.len) d.value

one_dot : (q v : List ℕ) (d : Dot) → IsItem d.item → FitsDot d → q ≡ flat_map item_bytes (d.item ∷ []) → v ≡ flat_map value_bytes (d ∷ []) ++ tail_of (d.item ∷ []) → IsDots q v (d ∷ [])
one_dot q v d i f qual value = record {
  items = record { some = omega arith; each = all_more IsItem d.item [] i (all_none IsItem); rising = pairs_none (λ (x y : Item). x.offset < y.offset) d.item; qual_is = qual };
  fits = all_more FitsDot d [] f (all_none FitsDot);
  value_is = value;
}

least_one : (n : ℕ) → IsLength n → 1 ≤ n
least_one _ one = omega arith
least_one _ two = omega arith
least_one _ four = omega arith
least_one _ eight = omega arith

least_two : (n : ℕ) → IsLength n → FitsSigned (width_of n) (pos 300) → 2 ≤ n
least_two _ one f = absurd (search (rules, f))
least_two _ two f = omega arith
least_two _ four f = omega arith
least_two _ eight f = omega arith

is_start : IsPoint (point 1356998400000 false (pos 42))
is_start = record { metric = name_m; tags = tags; timed = record { most = omega arith; whole = λ e. refl } }

key_start : HasKey three ones (point 1356998400000 false (pos 42)) (record { metric = 1; base = 1356998400; pairs = record { items = (1, 1) ∷ [] } })
key_start = record {
  is_key = is_key;
  metric = refl;
  base = refl;
  count = refl;
  each_tag = λ t c. here {X = ℕ × ℕ} (1, 1) [];
  each_pair = λ i c. ((104 ∷ [], name_a), here {X = Pair} (104 ∷ [], name_a) [], alone {A = ℕ × ℕ} (1, 1) i c);
}

item_start : IsItem (record { offset = 0; fine = false; len = 1 })
item_start = record { offset = omega arith; whole = λ e. refl; len = one }

abbrev dot_start : Dot
dot_start = dot_of 0 false (pos 42) 1

fits_start : FitsSigned (width_of 1) (pos 42)
fits_start = search rules

dots_start : IsDots at_start (42 ∷ []) (dot_start ∷ [])
dots_start = one_dot _ _ dot_start item_start fits_start refl refl

short_start : IsShortest (pos 42) (42 ∷ [])
short_start = record { len = one; fits = fits_start; bytes_are = refl; least = λ n l f. least_one n l }

is_minute : IsPoint (point 1356998460000 false (pos 300))
is_minute = record { metric = name_m; tags = tags; timed = record { most = omega arith; whole = λ e. refl } }

key_minute : HasKey three ones (point 1356998460000 false (pos 300)) (record { metric = 1; base = 1356998400; pairs = record { items = (1, 1) ∷ [] } })
key_minute = record {
  is_key = is_key;
  metric = refl;
  base = refl;
  count = refl;
  each_tag = λ t c. here {X = ℕ × ℕ} (1, 1) [];
  each_pair = λ i c. ((104 ∷ [], name_a), here {X = Pair} (104 ∷ [], name_a) [], alone {A = ℕ × ℕ} (1, 1) i c);
}

item_minute : IsItem (record { offset = 60000; fine = false; len = 2 })
item_minute = record { offset = omega arith; whole = λ e. refl; len = two }

abbrev dot_minute : Dot
dot_minute = dot_of 60000 false (pos 300) 2

fits_minute : FitsSigned (width_of 2) (pos 300)
fits_minute = search rules

dots_minute : IsDots at_minute (1 ∷ 44 ∷ []) (dot_minute ∷ [])
dots_minute = one_dot _ _ dot_minute item_minute fits_minute refl refl

short_minute : IsShortest (pos 300) (1 ∷ 44 ∷ [])
short_minute = record { len = two; fits = fits_minute; bytes_are = refl; least = λ n l f. least_two n l f }

is_quarter : IsPoint (point 1356998400250 true (neg_ℤ (pos 1)))
is_quarter = record { metric = name_m; tags = tags; timed = record { most = omega arith; whole = λ e. cc } }

key_quarter : HasKey three ones (point 1356998400250 true (neg_ℤ (pos 1))) (record { metric = 1; base = 1356998400; pairs = record { items = (1, 1) ∷ [] } })
key_quarter = record {
  is_key = is_key;
  metric = refl;
  base = refl;
  count = refl;
  each_tag = λ t c. here {X = ℕ × ℕ} (1, 1) [];
  each_pair = λ i c. ((104 ∷ [], name_a), here {X = Pair} (104 ∷ [], name_a) [], alone {A = ℕ × ℕ} (1, 1) i c);
}

item_quarter : IsItem (record { offset = 250; fine = true; len = 1 })
item_quarter = record { offset = omega arith; whole = λ e. cc; len = one }

abbrev dot_quarter : Dot
dot_quarter = dot_of 250 true (neg_ℤ (pos 1)) 1

fits_quarter : FitsSigned (width_of 1) (neg_ℤ (pos 1))
fits_quarter = search rules

dots_quarter : IsDots at_quarter (255 ∷ []) (dot_quarter ∷ [])
dots_quarter = one_dot _ _ dot_quarter item_quarter fits_quarter refl refl

short_quarter : IsShortest (neg_ℤ (pos 1)) (255 ∷ [])
short_quarter = record { len = one; fits = fits_quarter; bytes_are = refl; least = λ n l f. least_one n l }

is_second : IsPoint (point 1356998401000 false (pos 7))
is_second = record { metric = name_m; tags = tags; timed = record { most = omega arith; whole = λ e. refl } }

key_second : HasKey three ones (point 1356998401000 false (pos 7)) (record { metric = 1; base = 1356998400; pairs = record { items = (1, 1) ∷ [] } })
key_second = record {
  is_key = is_key;
  metric = refl;
  base = refl;
  count = refl;
  each_tag = λ t c. here {X = ℕ × ℕ} (1, 1) [];
  each_pair = λ i c. ((104 ∷ [], name_a), here {X = Pair} (104 ∷ [], name_a) [], alone {A = ℕ × ℕ} (1, 1) i c);
}

item_second : IsItem (record { offset = 1000; fine = false; len = 1 })
item_second = record { offset = omega arith; whole = λ e. refl; len = one }

abbrev dot_second : Dot
dot_second = dot_of 1000 false (pos 7) 1

fits_second : FitsSigned (width_of 1) (pos 7)
fits_second = search rules

dots_second : IsDots at_second (7 ∷ []) (dot_second ∷ [])
dots_second = one_dot _ _ dot_second item_second fits_second refl refl

short_second : IsShortest (pos 7) (7 ∷ [])
short_second = record { len = one; fits = fits_second; bytes_are = refl; least = λ n l f. least_one n l }

-- ---- merged cells

rising_three : (a b c : Item) → a.offset < b.offset → b.offset < c.offset → AllPairs (λ (i j : Item). i.offset < j.offset) (a ∷ b ∷ c ∷ [])
rising_three a b c lt mt zero (suc zero) d l w = lt
rising_three a b c lt mt zero (suc (suc zero)) d l w = omega (arith, lt, mt)
rising_three a b c lt mt (suc zero) (suc (suc zero)) d l w = mt
rising_three a b c lt mt zero zero d l w = absurd (omega (arith, l))
rising_three a b c lt mt (suc i) zero d l w = absurd (omega (arith, l))
rising_three a b c lt mt (suc i) (suc zero) d l w = absurd (omega (arith, l))
rising_three a b c lt mt (suc (suc i)) (suc (suc zero)) d l w = absurd (omega (arith, l))
rising_three a b c lt mt i (suc (suc (suc j))) d l w = absurd (omega (arith, w))

rising_four : (a b c e : Item) → a.offset < b.offset → b.offset < c.offset → c.offset < e.offset → AllPairs (λ (i j : Item). i.offset < j.offset) (a ∷ b ∷ c ∷ e ∷ [])
rising_four a b c e lt mt nt zero (suc zero) d l w = lt
rising_four a b c e lt mt nt zero (suc (suc zero)) d l w = omega (arith, lt, mt)
rising_four a b c e lt mt nt zero (suc (suc (suc zero))) d l w = omega (arith, lt, mt, nt)
rising_four a b c e lt mt nt zero (suc (suc (suc (suc j)))) d l w = absurd (omega (arith, w))
rising_four a b c e lt mt nt zero zero d l w = absurd (omega (arith, l))
rising_four a b c e lt mt nt (suc i) zero d l w = absurd (omega (arith, l))
rising_four a b c e lt mt nt (suc i) (suc j) d l w = rising_three b c e mt nt i j d (omega (arith, l)) (omega (arith, w))

abbrev three_dots : List Dot
three_dots = dot_start ∷ dot_quarter ∷ dot_minute ∷ []

dots_three : IsDots three_qual three_value (dot_start ∷ dot_quarter ∷ dot_minute ∷ [])
dots_three = record {
  items = record { some = omega arith; each = (all_more IsItem dot_start.item (dot_quarter.item ∷ dot_minute.item ∷ []) item_start (all_more IsItem dot_quarter.item (dot_minute.item ∷ []) item_quarter (all_more IsItem dot_minute.item ([]) item_minute (all_none IsItem)))); rising = rising_three dot_start.item dot_quarter.item dot_minute.item (omega arith) (omega arith); qual_is = refl };
  fits = (all_more FitsDot dot_start (dot_quarter ∷ dot_minute ∷ []) fits_start (all_more FitsDot dot_quarter (dot_minute ∷ []) fits_quarter (all_more FitsDot dot_minute ([]) fits_minute (all_none FitsDot))));
  value_is = refl;
}

abbrev four_dots : List Dot
four_dots = dot_start ∷ dot_quarter ∷ dot_second ∷ dot_minute ∷ []

dots_four : IsDots four_qual four_value (dot_start ∷ dot_quarter ∷ dot_second ∷ dot_minute ∷ [])
dots_four = record {
  items = record { some = omega arith; each = (all_more IsItem dot_start.item (dot_quarter.item ∷ dot_second.item ∷ dot_minute.item ∷ []) item_start (all_more IsItem dot_quarter.item (dot_second.item ∷ dot_minute.item ∷ []) item_quarter (all_more IsItem dot_second.item (dot_minute.item ∷ []) item_second (all_more IsItem dot_minute.item ([]) item_minute (all_none IsItem))))); rising = rising_four dot_start.item dot_quarter.item dot_second.item dot_minute.item (omega arith) (omega arith) (omega arith); qual_is = refl };
  fits = (all_more FitsDot dot_start (dot_quarter ∷ dot_second ∷ dot_minute ∷ []) fits_start (all_more FitsDot dot_quarter (dot_second ∷ dot_minute ∷ []) fits_quarter (all_more FitsDot dot_second (dot_minute ∷ []) fits_second (all_more FitsDot dot_minute ([]) fits_minute (all_none FitsDot)))));
  value_is = refl;
}

good : (i : Item) → IsAsGood i i
good i = record { offset = refl; better = inr (refl, omega arith) }

-- a qualifier whose items are among those of another is at most it
part : (q r : List ℕ) (items others : List Item) → IsItems q items → IsItems r others → ((i : Item) → Contains items i → Contains others i) → q ≢ r → IsBelow q r
part q r items others a b among ne = record { at_most = record { items = items; others = others; reads = a; others_read = b; each = λ i c. (i, among i c, good i) }; differ = ne }

longer : (q r : List ℕ) → length q < length r → q ≢ r
longer q r lt e = let same : length q ≡ length r = ap length e in omega (arith, lt, same)

-- what a put of a point stands on
basis : (h : History) → IsFresh h → (p : DataPoint) (q v : List ℕ) → IsPoint p → ((x : Kind × List ℕ) → Contains (names_of p) x → Has h x.0 x.1 1) → HasKey three ones p (record { metric = 1; base = 1356998400; pairs = record { items = (1, 1) ∷ [] } })
    → IsDots q v (dot_of (p.time % HOUR_MILLIS) p.fine p.value (length v) ∷ []) → IsShortest p.value v → PointBasis three (Has h) p series_row q v
basis h fresh p q v ok names k dots short = record {
  is_point = ok;
  in_points = refl;
  ids = ones;
  resolved = λ kind name c. names (kind, name) c;
  layout = record { key = record { metric = 1; base = 1356998400; pairs = record { items = (1, 1) ∷ [] } }; has = k; row_is = refl; dot = dots; shortest = short };
}

-- ---- the history

abbrev g1 : History
g1 = Then (Base (no_cells three)) (did 1 Open (Opened 1))

abbrev g2 : History
g2 = Then g1 (did 1 (Bump Metric) (BumpReply (Given 1)))

abbrev g3 : History
g3 = Then g2 (did 1 (Claim (id_row three Metric 1) (kind_qual Metric) (109 ∷ [])) (ClaimReply Done))

abbrev g4 : History
g4 = Then g3 (did 1 (Claim (name_row (109 ∷ [])) (kind_qual Metric) (id_bytes 3 1)) (ClaimReply Done))

abbrev g5 : History
g5 = Then g4 (did 1 (Bump TagKey) (BumpReply (Given 1)))

abbrev g6 : History
g6 = Then g5 (did 1 (Claim (id_row three TagKey 1) (kind_qual TagKey) (104 ∷ [])) (ClaimReply Done))

abbrev g7 : History
g7 = Then g6 (did 1 (Claim (name_row (104 ∷ [])) (kind_qual TagKey) (id_bytes 3 1)) (ClaimReply Done))

abbrev g8 : History
g8 = Then g7 (did 1 (Bump TagValue) (BumpReply (Given 1)))

abbrev g9 : History
g9 = Then g8 (did 1 (Claim (id_row three TagValue 1) (kind_qual TagValue) name_a) (ClaimReply Done))

abbrev g10 : History
g10 = Then g9 (did 1 (Claim (name_row name_a) (kind_qual TagValue) (id_bytes 3 1)) (ClaimReply Done))

abbrev g11 : History
g11 = Then g10 (did 1 (PutPoint (point 1356998400000 false (pos 42)) series_row at_start (42 ∷ [])) Written)

abbrev g12 : History
g12 = Then g11 (did 1 (PutPoint (point 1356998460000 false (pos 300)) series_row at_minute (1 ∷ 44 ∷ [])) Written)

abbrev g13 : History
g13 = Then g12 (did 1 (PutPoint (point 1356998400250 true (neg_ℤ (pos 1))) series_row at_quarter (255 ∷ [])) Written)

abbrev g14 : History
g14 = Then g13 (did 1 (PutMerged series_row three_qual three_value) Written)

abbrev g15 : History
g15 = Then g14 (did 1 (DropCells series_row ((at_start, 11) ∷ (at_minute, 12) ∷ (at_quarter, 13) ∷ [])) (Removed 3))

abbrev g16 : History
g16 = Then g15 (did 1 (PutPoint (point 1356998401000 false (pos 7)) series_row at_second (7 ∷ [])) Written)

abbrev g17 : History
g17 = Then g16 (did 1 (PutMerged series_row four_qual four_value) Written)

abbrev g18 : History
g18 = Then g17 (did 1 (DropCells series_row ((three_qual, 14) ∷ (at_second, 16) ∷ [])) (Removed 2))

m1 : IsLawful g1
m1 = more (Base (no_cells three)) (did 1 Open (Opened 1)) (empty_base three) refl tt refl refl

m2 : IsLawful g2
m2 = more g1 (did 1 (Bump Metric) (BumpReply (Given 1))) m1 refl (1, refl) tt refl

m3 : IsLawful g3
m3 = more g2 (did 1 (Claim (id_row three Metric 1) (kind_qual Metric) (109 ∷ [])) (ClaimReply Done)) m2 refl (1, refl) (record { kind = Metric; number = 1; is_kind = refl; is_id = refl; is_name = name_m; bumped = (2, refl) }) refl

m4 : IsLawful g4
m4 = more g3 (did 1 (Claim (name_row (109 ∷ [])) (kind_qual Metric) (id_bytes 3 1)) (ClaimReply Done)) m3 refl (1, refl) (record { who = 1; reversed = (3, refl) }) refl

m5 : IsLawful g5
m5 = more g4 (did 1 (Bump TagKey) (BumpReply (Given 1))) m4 refl (1, refl) tt refl

m6 : IsLawful g6
m6 = more g5 (did 1 (Claim (id_row three TagKey 1) (kind_qual TagKey) (104 ∷ [])) (ClaimReply Done)) m5 refl (1, refl) (record { kind = TagKey; number = 1; is_kind = refl; is_id = refl; is_name = name_h; bumped = (5, refl) }) refl

m7 : IsLawful g7
m7 = more g6 (did 1 (Claim (name_row (104 ∷ [])) (kind_qual TagKey) (id_bytes 3 1)) (ClaimReply Done)) m6 refl (1, refl) (record { who = 1; reversed = (6, refl) }) refl

m8 : IsLawful g8
m8 = more g7 (did 1 (Bump TagValue) (BumpReply (Given 1))) m7 refl (1, refl) tt refl

m9 : IsLawful g9
m9 = more g8 (did 1 (Claim (id_row three TagValue 1) (kind_qual TagValue) name_a) (ClaimReply Done)) m8 refl (1, refl) (record { kind = TagValue; number = 1; is_kind = refl; is_id = refl; is_name = is_name; bumped = (8, refl) }) refl

m10 : IsLawful g10
m10 = more g9 (did 1 (Claim (name_row name_a) (kind_qual TagValue) (id_bytes 3 1)) (ClaimReply Done)) m9 refl (1, refl) (record { who = 1; reversed = (9, refl) }) refl

m11 : IsLawful g11
m11 = more g10 (did 1 (PutPoint (point 1356998400000 false (pos 42)) series_row at_start (42 ∷ [])) Written) m10 refl (1, refl) (basis g10 refl (point 1356998400000 false (pos 42)) at_start (42 ∷ []) is_start (resolved g10 refl refl refl refl) key_start dots_start short_start) refl

m12 : IsLawful g12
m12 = more g11 (did 1 (PutPoint (point 1356998460000 false (pos 300)) series_row at_minute (1 ∷ 44 ∷ [])) Written) m11 refl (1, refl) (basis g11 refl (point 1356998460000 false (pos 300)) at_minute (1 ∷ 44 ∷ []) is_minute (resolved g11 refl refl refl refl) key_minute dots_minute short_minute) refl

m13 : IsLawful g13
m13 = more g12 (did 1 (PutPoint (point 1356998400250 true (neg_ℤ (pos 1))) series_row at_quarter (255 ∷ [])) Written) m12 refl (1, refl) (basis g12 refl (point 1356998400250 true (neg_ℤ (pos 1))) at_quarter (255 ∷ []) is_quarter (resolved g12 refl refl refl refl) key_quarter dots_quarter short_quarter) refl

-- each data point that is merged stood in a cell
abbrev Stood : History → Dot → Type 0
Stood h d = (q : List ℕ) × (v : List ℕ) × (ds : List Dot) × HadCell h series_row q v × IsDots q v ds × Contains ds d

each_three : (d : Dot) → Contains three_dots d → Stood g13 d
each_three = in_three (Stood g13) dot_start dot_quarter dot_minute
    (at_start, 42 ∷ [], dot_start ∷ [], inr (did 1 (PutPoint (point 1356998400000 false (pos 42)) series_row at_start (42 ∷ [])) Written, (11, refl), (refl, refl, refl)), dots_start, here dot_start [])
    (at_quarter, 255 ∷ [], dot_quarter ∷ [], inr (did 1 (PutPoint (point 1356998400250 true (neg_ℤ (pos 1))) series_row at_quarter (255 ∷ [])) Written, (13, refl), (refl, refl, refl)), dots_quarter, here dot_quarter [])
    (at_minute, 1 ∷ 44 ∷ [], dot_minute ∷ [], inr (did 1 (PutPoint (point 1356998460000 false (pos 300)) series_row at_minute (1 ∷ 44 ∷ [])) Written, (12, refl), (refl, refl, refl)), dots_minute, here dot_minute [])

m14 : IsLawful g14
m14 = more g13 (did 1 (PutMerged series_row three_qual three_value) Written) m13 refl (1, refl) (record { in_points = refl; dots = three_dots; reads = dots_three; each = each_three }) refl

-- each cell that is dropped is below one that was put
abbrev Above : History → List ℕ × ℕ → Type 0
Above h d = (q : List ℕ) × (v : List ℕ) × HadCell h series_row q v × IsBelow d.0 q

one_of : (x : Item) (xs : List Item) → Contains xs x → (i : Item) → Contains (x ∷ []) i → Contains xs i
one_of x xs c i d = subst (Contains xs) (alone x i d) c

drop_three : (d : List ℕ × ℕ) → Contains ((at_start, 11) ∷ (at_minute, 12) ∷ (at_quarter, 13) ∷ []) d → Above g14 d
drop_three = in_three (Above g14) (at_start, 11) (at_minute, 12) (at_quarter, 13)
    (three_qual, three_value, inr (did 1 (PutMerged series_row three_qual three_value) Written, (14, refl), (refl, refl, refl)), part at_start three_qual (dot_start.item ∷ []) (items_of three_dots) dots_start.items dots_three.items (one_of dot_start.item (items_of three_dots) (here dot_start.item (dot_quarter.item ∷ dot_minute.item ∷ []))) (longer at_start three_qual (omega arith)))
    (three_qual, three_value, inr (did 1 (PutMerged series_row three_qual three_value) Written, (14, refl), (refl, refl, refl)), part at_minute three_qual (dot_minute.item ∷ []) (items_of three_dots) dots_minute.items dots_three.items (one_of dot_minute.item (items_of three_dots) (there dot_start.item dot_minute.item (dot_quarter.item ∷ dot_minute.item ∷ []) (there dot_quarter.item dot_minute.item (dot_minute.item ∷ []) (here dot_minute.item ([]))))) (longer at_minute three_qual (omega arith)))
    (three_qual, three_value, inr (did 1 (PutMerged series_row three_qual three_value) Written, (14, refl), (refl, refl, refl)), part at_quarter three_qual (dot_quarter.item ∷ []) (items_of three_dots) dots_quarter.items dots_three.items (one_of dot_quarter.item (items_of three_dots) (there dot_start.item dot_quarter.item (dot_quarter.item ∷ dot_minute.item ∷ []) (here dot_quarter.item (dot_minute.item ∷ [])))) (longer at_quarter three_qual (omega arith)))

m15 : IsLawful g15
m15 = more g14 (did 1 (DropCells series_row ((at_start, 11) ∷ (at_minute, 12) ∷ (at_quarter, 13) ∷ [])) (Removed 3)) m14 refl (1, refl) (record { in_points = refl; each = drop_three }) refl

m16 : IsLawful g16
m16 = more g15 (did 1 (PutPoint (point 1356998401000 false (pos 7)) series_row at_second (7 ∷ [])) Written) m15 refl (1, refl) (basis g15 refl (point 1356998401000 false (pos 7)) at_second (7 ∷ []) is_second (resolved g15 refl refl refl refl) key_second dots_second short_second) refl

in_four : {A : Type 0} (P : A → Type 0) (u w x y : A) → P u → P w → P x → P y → (z : A) → Contains (u ∷ w ∷ x ∷ y ∷ []) z → P z
in_four P u w x y pu pw px py z c = at (split u z (w ∷ x ∷ y ∷ []) c)
  where
    at : (u ≡ z) ⊎ Contains (w ∷ x ∷ y ∷ []) z → P z
    at (inl same) = subst P same pu
    at (inr later) = in_three P w x y pw px py z later

each_four : (d : Dot) → Contains four_dots d → Stood g16 d
each_four = in_four (Stood g16) dot_start dot_quarter dot_second dot_minute
    (three_qual, three_value, three_dots, inr (did 1 (PutMerged series_row three_qual three_value) Written, (14, refl), (refl, refl, refl)), dots_three, (here dot_start (dot_quarter ∷ dot_minute ∷ [])))
    (three_qual, three_value, three_dots, inr (did 1 (PutMerged series_row three_qual three_value) Written, (14, refl), (refl, refl, refl)), dots_three, (there dot_start dot_quarter (dot_quarter ∷ dot_minute ∷ []) (here dot_quarter (dot_minute ∷ []))))
    (at_second, 7 ∷ [], dot_second ∷ [], inr (did 1 (PutPoint (point 1356998401000 false (pos 7)) series_row at_second (7 ∷ [])) Written, (16, refl), (refl, refl, refl)), dots_second, here dot_second [])
    (three_qual, three_value, three_dots, inr (did 1 (PutMerged series_row three_qual three_value) Written, (14, refl), (refl, refl, refl)), dots_three, (there dot_start dot_minute (dot_quarter ∷ dot_minute ∷ []) (there dot_quarter dot_minute (dot_minute ∷ []) (here dot_minute ([])))))

m17 : IsLawful g17
m17 = more g16 (did 1 (PutMerged series_row four_qual four_value) Written) m16 refl (1, refl) (record { in_points = refl; dots = four_dots; reads = dots_four; each = each_four }) refl

three_in_four : (i : Item) → Contains (items_of three_dots) i → Contains (items_of four_dots) i
three_in_four = in_three (Contains (items_of four_dots)) dot_start.item dot_quarter.item dot_minute.item (here dot_start.item (dot_quarter.item ∷ dot_second.item ∷ dot_minute.item ∷ [])) (there dot_start.item dot_quarter.item (dot_quarter.item ∷ dot_second.item ∷ dot_minute.item ∷ []) (here dot_quarter.item (dot_second.item ∷ dot_minute.item ∷ []))) (there dot_start.item dot_minute.item (dot_quarter.item ∷ dot_second.item ∷ dot_minute.item ∷ []) (there dot_quarter.item dot_minute.item (dot_second.item ∷ dot_minute.item ∷ []) (there dot_second.item dot_minute.item (dot_minute.item ∷ []) (here dot_minute.item ([])))))

drop_four : (d : List ℕ × ℕ) → Contains ((three_qual, 14) ∷ (at_second, 16) ∷ []) d → Above g17 d
drop_four = in_two (Above g17) (three_qual, 14) (at_second, 16)
    (four_qual, four_value, inr (did 1 (PutMerged series_row four_qual four_value) Written, (17, refl), (refl, refl, refl)), part three_qual four_qual (items_of three_dots) (items_of four_dots) dots_three.items dots_four.items three_in_four (longer three_qual four_qual (omega arith)))
    (four_qual, four_value, inr (did 1 (PutMerged series_row four_qual four_value) Written, (17, refl), (refl, refl, refl)), part at_second four_qual (dot_second.item ∷ []) (items_of four_dots) dots_second.items dots_four.items (one_of dot_second.item (items_of four_dots) (there dot_start.item dot_second.item (dot_quarter.item ∷ dot_second.item ∷ dot_minute.item ∷ []) (there dot_quarter.item dot_second.item (dot_second.item ∷ dot_minute.item ∷ []) (here dot_second.item (dot_minute.item ∷ []))))) (longer at_second four_qual (omega arith)))

m18 : IsLawful g18
m18 = more g17 (did 1 (DropCells series_row ((three_qual, 14) ∷ (at_second, 16) ∷ [])) (Removed 2)) m17 refl (1, refl) (record { in_points = refl; each = drop_four }) refl

pub one_cell_is_left : OneCellIsLeft
one_cell_is_left = record { lawful = m18; left = cells_after compacted series_row refl }
