-- Numbers and dates.
use Rattle.std.proofs.Common.{◌≡◌, ℕ, ◌+◌, ◌-◌, ◌^◌, ◌<◌, ◌≤◌, min, Bool, true, false, cond, List, [], ◌∷◌, length, take, drop, refl, sym, ap, subst, ◌∙◌, arith, Option, Some, None, MatchOption}
use Rattle.std.specs.Prelude.{ℤ, pos, neg_ℤ, nat_le, ◌&&◌, ◌*ℤ◌, ◌+ℤ◌, ◌*◌, ◌≤ℤ◌}
use Rattle.std.specs.Char.{digit_value, is_ascii_digit}
use Rattle.std.specs.List.{list_all}
use Rattle.std.specs.Str.Parse.{digits_value, AllDigits}
use Rattle.std.proofs.lemmas.Bool.{and_parts}
use Rattle.std.proofs.lemmas.Bool.Decides.{nat_tests}
use Rattle.std.proofs.lemmas.Int.Digits.{digits_value-lt}
use Rattle.std.proofs.Math.Nat.{pow-le-pow_right}
use Rattle.std.proofs.lemmas.List.{length-take}
use Rattle.std.proofs.Common.{w8, w16}
use Rattle.std.specs.Int.{cast_signed as to_z}
use Rattle.std.proofs.lemmas.Int.{ints, to_z_pos}
use Rattle.jiff_core.specs.Calendar.{IsDate, days_in_month, days_from_civil}
use Rattle.jiff_core.specs.Time.{IsTime, IsHms}
use Rattle.jiff_core.specs.Date.{IsYmd}
use Rattle.jiff_core.specs.DateTime.{civil_seconds}
use Rattle.jiff_core.specs.declared.civil.date.Date.{Date}
use Rattle.jiff_core.specs.declared.civil.time.Time.{Time}
use Rattle.jiff_core.specs.declared.civil.datetime.DateTime.{DateTime}
use Rattle.query_requests.specs.CivilMoments.{IsThere}
use Rattle.query_requests.specs.CivilDates.{is_civil, second_of, milli_of, civil_time}
use Rattle.tsd_base.specs.Digits.{is_number}

digit_value-lt : (c : ℕ) → is_ascii_digit c ≡ true → digit_value c < 10
digit_value-lt c e = grind (arith, nat_tests)

AllDigits-from_list_all : (text : List ℕ) → list_all is_ascii_digit text ≡ true → AllDigits 10 text
AllDigits-from_list_all [] e = tt
AllDigits-from_list_all (c ∷ text) e = let parts = and_parts _ _ e in (digit_value-lt c parts.0, AllDigits-from_list_all text parts.1)

-- up to four digits are below 10,000
digits_value-short : (text : List ℕ) → length text ≤ 4 → is_number text ≡ true → digits_value 10 text < 10000
digits_value-short [] le e = cc
digits_value-short (c ∷ text) le e =
    let p : 10 ^ length (c ∷ text) ≤ 10 ^ 4 = pow-le-pow_right (omega arith) le in
    let d = digits_value-lt 10 (c ∷ text) (AllDigits-from_list_all (c ∷ text) e) in
    omega (arith, p, d)

-- what was read of a few digits is their number
pub number_is : (s : List ℕ) (o : Option ℕ) → length s ≤ 4 → MatchOption o (is_number s ≡ false) (λ n. (is_number s ≡ true) × (n ≡ min (digits_value 10 s) (2 ^ 64 - 1))) → o ≡ cond (is_number s) (Some (digits_value 10 s)) None
number_is s None le m = sym (ap (λ t. cond t (Some (digits_value 10 s)) None) m)
number_is s (Some n) le m =
    let lt = digits_value-short s le m.0 in
    let same : n ≡ digits_value 10 s = (let e = m.1 in omega (arith, e, lt)) in
    sym (ap (λ t. cond t (Some (digits_value 10 s)) None) m.0 ∙ ap (λ (x : ℕ). Some x) (sym same))

pub slice_short : (text : List ℕ) (at len : ℕ) → len ≤ 4 → length (take len (drop at text)) ≤ 4
slice_short text at len le = let l = length-take len (drop at text) in omega (arith, l, le)

-- ---- dates

parts : (a b : Bool) → a && b ≡ true → (a ≡ true) × (b ≡ true)
parts true b e = (refl, e)
parts false b e = absurd (cc)

le_is : (m n : ℕ) → nat_le m n ≡ true → m ≤ n
le_is m n e = grind (arith, e)

le_true : (m n : ℕ) → m ≤ n → nat_le m n ≡ true
le_true m n h = grind (arith, h)

z_le : (a b : ℕ) → a ≤ b → pos a ≤ℤ pos b
z_le a b h = omega (arith, ints)

z_is : (a b : ℕ) → pos a ≤ℤ pos b → a ≤ b
z_is a b h = omega (arith, ints)

z_from : (b : ℕ) → pos 0 ≤ℤ pos b
z_from b = z_le 0 b (omega arith)

z_neg : (b : ℕ) → neg_ℤ (pos 9999) ≤ℤ pos b
z_neg b = omega (arith, ints)

-- the test is what the library asks
pub is_date : (y m d h n s : ℕ) → is_civil (record { year = y; month = m; day = d; hour = h; minute = n; second = s }) ≡ true → IsThere y m d h n s
is_date y m d h n s e =
    let both = parts _ _ e in
    let date = parts _ _ both.0 in
    let front = parts _ _ date.0 in
    let month = parts _ _ front.1 in
    let day = parts _ _ date.1 in
    let time = parts _ _ both.1 in
    let clock = parts _ _ time.0 in (
      ((z_neg y, z_le y 9999 (le_is y 9999 front.0)), (z_le 1 m (le_is 1 m month.0), z_le m 12 (le_is m 12 month.1)), (z_le 1 d (le_is 1 d day.0), z_le d (days_in_month (pos y) m) (le_is d (days_in_month (pos y) m) day.1))),
      ((z_from h, z_le h 23 (le_is h 23 clock.0)), (z_from n, z_le n 59 (le_is n 59 clock.1)), (z_from s, z_le s 59 (le_is s 59 time.1)), (z_from 0, z_from 999999999)),
    )

pub date_is : (y m d h n s : ℕ) → IsThere y m d h n s → is_civil (record { year = y; month = m; day = d; hour = h; minute = n; second = s }) ≡ true
date_is y m d h n s there =
    let date = there.0 in
    let time = there.1 in
    let y1 = le_true y 9999 (z_is y 9999 date.0.1) in
    let m1 = le_true 1 m (z_is 1 m date.1.0) in
    let m2 = le_true m 12 (z_is m 12 date.1.1) in
    let d1 = le_true 1 d (z_is 1 d date.2.0) in
    let d2 = le_true d (days_in_month (pos y) m) (z_is d (days_in_month (pos y) m) date.2.1) in
    let h1 = le_true h 23 (z_is h 23 time.0.1) in
    let n1 = le_true n 59 (z_is n 59 time.1.1) in
    let s1 = le_true s 59 (z_is s 59 time.2.1) in
    λ i. (y1 i && (m1 i && m2 i) && (d1 i && d2 i)) && (h1 i && n1 i && s1 i)

-- the library's numbers are these
pub there_by : (Y M D H N S : ℤ) (y m d h n s : ℕ) → Y ≡ pos y → M ≡ pos m → D ≡ pos d → H ≡ pos h → N ≡ pos n → S ≡ pos s → IsDate Y M D × IsTime H N S (pos 0) → IsThere y m d h n s
there_by Y M D H N S y m d h n s a b c e f g x =
    subst (λ (t : ℤ × (ℤ × (ℤ × (ℤ × (ℤ × ℤ))))). IsDate t.0 t.1.0 t.1.1.0 × IsTime t.1.1.1.0 t.1.1.1.1.0 t.1.1.1.1.1 (pos 0)) (λ i. (a i, (b i, (c i, (e i, (f i, g i)))))) x

pub there_from : (Y M D H N S : ℤ) (y m d h n s : ℕ) → Y ≡ pos y → M ≡ pos m → D ≡ pos d → H ≡ pos h → N ≡ pos n → S ≡ pos s → IsThere y m d h n s → IsDate Y M D × IsTime H N S (pos 0)
there_from Y M D H N S y m d h n s a b c e f g x =
    subst (λ (t : ℤ × (ℤ × (ℤ × (ℤ × (ℤ × ℤ))))). IsDate t.0 t.1.0 t.1.1.0 × IsTime t.1.1.1.0 t.1.1.1.1.0 t.1.1.1.1.1 (pos 0)) (λ i. (sym a i, (sym b i, (sym c i, (sym e i, (sym f i, sym g i)))))) x

pub ymd_by : (Y M D : ℤ) (y m d : ℕ) (date : Date) → Y ≡ pos y → M ≡ pos m → D ≡ pos d → IsYmd Y M D date → IsYmd (pos y) (pos m) (pos d) date
ymd_by Y M D y m d date a b c x = (x.0 ∙ a, x.1 ∙ b, x.2 ∙ c)

pub hms_by : (H N S : ℤ) (h n s : ℕ) (time : Time) → H ≡ pos h → N ≡ pos n → S ≡ pos s → IsHms H N S (pos 0) time → IsHms (pos h) (pos n) (pos s) (pos 0) time
hms_by H N S h n s time a b c x = (x.0 ∙ a, x.1 ∙ b, x.2 ∙ c, x.3)

pub word : (y : ℕ) → y ≤ 9999 → to_z w16 y ≡ pos y
word y le = to_z_pos w16 y (omega (arith, le))

pub byte : (y : ℕ) → y ≤ 59 → to_z w8 y ≡ pos y
byte y le = to_z_pos w8 y (omega (arith, le))

pub no_moment : (y m d h n s : ℕ) → (IsThere y m d h n s → ⊥) → civil_time (record { year = y; month = m; day = d; hour = h; minute = n; second = s }) ≡ None
no_moment y m d h n s none = by (is_civil (record { year = y; month = m; day = d; hour = h; minute = n; second = s })) refl
  where
    by : (t : Bool) → is_civil (record { year = y; month = m; day = d; hour = h; minute = n; second = s }) ≡ t → cond t (milli_of (second_of (record { year = y; month = m; day = d; hour = h; minute = n; second = s }))) None ≡ None
    by true e = absurd (none (is_date y m d h n s e))
    by false e = refl

pos_is : (a b : ℕ) → pos a ≡ pos b → a ≡ b
pos_is a b e = cc

pub second_is : (y m d h n s : ℕ) (moment : DateTime) → IsYmd (pos y) (pos m) (pos d) moment.date → IsHms (pos h) (pos n) (pos s) (pos 0) moment.time → civil_seconds moment ≡ second_of (record { year = y; month = m; day = d; hour = h; minute = n; second = s })
unfolding civil_seconds
second_is y m d h n s moment date time =
    let month = pos_is _ _ date.1 in
    let day = pos_is _ _ date.2 in
    let hour = pos_is _ _ time.0 in
    let minute = pos_is _ _ time.1 in
    let second = pos_is _ _ time.2 in
    λ i. days_from_civil (date.0 i) (month i) (day i) *ℤ pos 86400 +ℤ pos (hour i * 3600 + minute i * 60 + second i)

pub a_moment : (y m d h n s : ℕ) (moment : DateTime) (seconds : ℤ) → IsThere y m d h n s → IsYmd (pos y) (pos m) (pos d) moment.date → IsHms (pos h) (pos n) (pos s) (pos 0) moment.time → seconds ≡ civil_seconds moment
    → milli_of seconds ≡ civil_time (record { year = y; month = m; day = d; hour = h; minute = n; second = s })
a_moment y m d h n s moment seconds there date time is =
    ap milli_of (is ∙ second_is y m d h n s moment date time)
    ∙ sym (ap (λ t. cond t (milli_of (second_of (record { year = y; month = m; day = d; hour = h; minute = n; second = s }))) None) (date_is y m d h n s there))
