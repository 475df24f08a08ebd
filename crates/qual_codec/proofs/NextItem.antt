-- What the next bytes of a qualifier are.
use Rattle.std.proofs.Common.{◌≡◌, inr, ℕ, ◌+◌, ◌-◌, ◌*◌, ◌/◌, ◌%◌, ◌^◌, ◌≤◌, ◌<◌, Bool, true, false, List, [], ◌∷◌, ◌++◌, length, get_or, drop, Option, None, Some, Ok, Err, refl, sym, ap, subst, ◌∙◌, arith, rules}
use Rattle.std.specs.Prelude.{nat_eq, nat_lt, nat_le, not, ◌||◌, if◌then◌else◌}
use Rattle.list_lemmas.proofs.BoolTests.{nat_eq_is}
use Rattle.row_hours.specs.declared.hours.TheConstants.{LAST_OFFSET}
use Rattle.qual_codec.specs.declared.cells.Item.{Item}
use Rattle.qual_codec.specs.declared.cells.CellFault.{CellFault}
use Rattle.qual_codec.specs.Items.{IsLength, Fields, AreFields, field_bytes, fields_of}
use Rattle.qual_codec.specs.Items.IsLength.{one, two, four, eight}
use Rattle.qual_codec.specs.CellFaults.{is_length, bits_fault}
use Rattle.qual_codec.specs.CellSteps.{item_of, item_unless, IsNextItem, IsNextFault}

-- ---- no fault, and what follows from it

guarded : (b : Bool) (fault : CellFault) (o : Option CellFault) → (if b then Some fault else o) ≡ None → (b ≡ false) × (o ≡ None)
guarded true fault o e = cc
guarded false fault o e = (refl, e)

not_false : (b : Bool) → not b ≡ false → b ≡ true
not_false true e = refl
not_false false e = cc

pub tested_length : (n : ℕ) → is_length n ≡ true → IsLength n
tested_length n e = at (nat_eq n 1) (nat_eq n 2) (nat_eq n 4) (nat_eq n 8) refl refl refl refl e
  where
    at : (a b c d : Bool) → nat_eq n 1 ≡ a → nat_eq n 2 ≡ b → nat_eq n 4 ≡ c → nat_eq n 8 ≡ d → (a || b || c || d) ≡ true → IsLength n
    at true b c d ea eb ec ed t = subst IsLength (sym (nat_eq_is n 1 ea)) one
    at false true c d ea eb ec ed t = subst IsLength (sym (nat_eq_is n 2 eb)) two
    at false false true d ea eb ec ed t = subst IsLength (sym (nat_eq_is n 4 ec)) four
    at false false false true ea eb ec ed t = subst IsLength (sym (nat_eq_is n 8 ed)) eight
    at false false false false ea eb ec ed t = cc

-- the bits are those of an item
pub record AreItem (late : Bool) (f : Fields) : Type 0 where
  pub offset : f.offset ≤ LAST_OFFSET
  pub flags : f.flags < 8
  pub reserved : f.reserved ≡ 0
  pub len : IsLength (f.flags + 1)
  pub early : late ≡ false

pub no_fault : (at : ℕ) (late : Bool) (f : Fields) → bits_fault at late f ≡ None → AreItem late f
no_fault at late f e =
    let a = guarded (nat_lt LAST_OFFSET f.offset) _ _ e in
    let b = guarded (nat_le 8 f.flags) _ _ a.1 in
    let c = guarded (nat_lt 0 f.reserved) _ _ b.1 in
    let d = guarded (not (is_length (f.flags + 1))) _ _ c.1 in
    let g = guarded late _ _ d.1 in
    let a0 = a.0 in let b0 = b.0 in let c0 = c.0 in
    let none : f.reserved ≤ 0 = search (rules, c0) in
    record { offset = search (rules, a0); flags = search (rules, b0); reserved = omega (arith, none); len = tested_length (f.flags + 1) (not_false _ d.0); early = g.0 }

-- ---- the code's answer

unless_ok : (f : Fields) (o : Option CellFault) (i : Item) → Ok i ≡ item_unless f o → (o ≡ None) × (item_of f ≡ i)
unless_ok f None i e = (refl, cc)
unless_ok f (Some fault) i e = cc

unless_err : (f : Fields) (o : Option CellFault) (fault : CellFault) → Err fault ≡ item_unless f o → o ≡ Some fault
unless_err f None fault e = cc
unless_err f (Some other) fault e = let h : other ≡ fault = cc in ap Some h

pub next_ok : (at least : ℕ) (f : Fields) (bytes after : List ℕ) (i : Item) → bytes ≡ field_bytes f ++ after → AreFields f → Ok i ≡ item_unless f (bits_fault at (nat_lt f.offset least) f) → IsNextItem least bytes i after
next_ok at least f bytes after i parts fields e =
    let u = unless_ok f (bits_fault at (nat_lt f.offset least) f) i e in
    let a = no_fault at (nat_lt f.offset least) f u.0 in
    let early = a.early in
    let flags : f.flags ≡ f.flags + 1 - 1 = omega arith in
    let same : f ≡ fields_of (item_of f) = λ k. record { fine = f.fine; offset = f.offset; reserved = a.reserved k; flags = flags k } in
    let rising : least ≤ f.offset = search (rules, early) in
    subst (λ (x : Item). IsNextItem least bytes x after) u.1 (record {
      parts = parts ∙ ap (λ (g : Fields). field_bytes g ++ after) same;
      item = record { offset = a.offset; whole = λ h. (fields.seconds h).1; len = a.len };
      rising = rising;
    })

pub next_err : (at least : ℕ) (f : Fields) (bytes after : List ℕ) (fault : CellFault) → bytes ≡ field_bytes f ++ after → AreFields f → Err fault ≡ item_unless f (bits_fault at (nat_lt f.offset least) f) → IsNextFault at least bytes fault
next_err at least f bytes after fault parts fields e = inr (f, after, parts, fields, unless_err f (bits_fault at (nat_lt f.offset least) f) fault e)

-- ---- the bits of two bytes and of four

abbrev pub IsBytes : List ℕ → Type 0
IsBytes bytes = (i : ℕ) → get_or bytes i 0 < 256

abbrev pub two_fields : ℕ → ℕ → Fields
two_fields n s = record { fine = false; offset = s * 1000; reserved = 0; flags = n % 16 }

abbrev pub four_fields : ℕ → Fields
four_fields n = record { fine = true; offset = n / 64 % 4194304; reserved = n / 16 % 4; flags = n % 16 }

two_1 : (a b n s : ℕ) → a < 240 → b < 256 → n ≡ a * 256 + b → s ≡ n / 16 → a ≡ (s * 1000 / 1000 * 16 + n % 16) / 256 % 256
two_1 a b n s la lb e f = omega (arith, la, lb, e, f)

two_0 : (a b n s : ℕ) → a < 240 → b < 256 → n ≡ a * 256 + b → s ≡ n / 16 → b ≡ (s * 1000 / 1000 * 16 + n % 16) % 256
two_0 a b n s la lb e f = omega (arith, la, lb, e, f)

pub two_front : (bytes after : List ℕ) (n s : ℕ) → IsBytes bytes → 2 ≤ length bytes → get_or bytes 0 0 < 240 → n ≡ get_or bytes 0 0 * 256 + get_or bytes 1 0 → s ≡ n / 16 → after ≡ drop 2 bytes
    → AreFields (two_fields n s) × (bytes ≡ field_bytes (two_fields n s) ++ after)
two_front [] after n s fits long low e f g = absurd (omega (arith, long))
two_front (a ∷ []) after n s fits long low e f g = absurd (omega (arith, long))
two_front (a ∷ b ∷ rest) after n s fits long low e f g =
    let lb = fits 1 in
    let ea = two_1 a b n s low lb e f in
    let eb = two_0 a b n s low lb e f in
    (record { seconds = λ _. (omega (arith, low, lb, e, f), omega arith, refl); milliseconds = λ h. let bad : false ≡ true = h in cc; flags = omega arith }, λ k. ea k ∷ eb k ∷ sym g k)

whole : (n : ℕ) → 4026531840 ≤ n → n < 4294967296 → n ≡ 15 * 2 ^ 28 + n / 64 % 4194304 * 64 + n / 16 % 4 * 16 + n % 16
whole n low high = omega (arith, low, high)

number_of : ℕ → ℕ → ℕ → ℕ → ℕ
number_of a b c d = a * 16777216 + b * 65536 + c * 256 + d

four_3 : (a b c d : ℕ) → a < 256 → b < 256 → c < 256 → d < 256 → a ≡ number_of a b c d / 16777216 % 256
unfolding number_of
four_3 a b c d la lb lc ld = omega (arith, la, lb, lc, ld)

four_2 : (a b c d : ℕ) → a < 256 → b < 256 → c < 256 → d < 256 → b ≡ number_of a b c d / 65536 % 256
unfolding number_of
four_2 a b c d la lb lc ld = omega (arith, la, lb, lc, ld)

four_1 : (a b c d : ℕ) → a < 256 → b < 256 → c < 256 → d < 256 → c ≡ number_of a b c d / 256 % 256
unfolding number_of
four_1 a b c d la lb lc ld = omega (arith, la, lb, lc, ld)

four_0 : (a b c d : ℕ) → a < 256 → b < 256 → c < 256 → d < 256 → d ≡ number_of a b c d % 256
unfolding number_of
four_0 a b c d la lb lc ld = omega (arith, la, lb, lc, ld)

pub four_front : (bytes after : List ℕ) (n : ℕ) → IsBytes bytes → 4 ≤ length bytes → 240 ≤ get_or bytes 0 0
    → n ≡ get_or bytes 0 0 * 16777216 + get_or bytes 1 0 * 65536 + get_or bytes 2 0 * 256 + get_or bytes 3 0 → after ≡ drop 4 bytes → AreFields (four_fields n) × (bytes ≡ field_bytes (four_fields n) ++ after)
unfolding number_of
four_front [] after n fits long high e g = absurd (omega (arith, long))
four_front (a ∷ []) after n fits long high e g = absurd (omega (arith, long))
four_front (a ∷ b ∷ []) after n fits long high e g = absurd (omega (arith, long))
four_front (a ∷ b ∷ c ∷ []) after n fits long high e g = absurd (omega (arith, long))
four_front (a ∷ b ∷ c ∷ d ∷ rest) after n fits long high e g =
    let la = fits 0 in
    let lb = fits 1 in
    let lc = fits 2 in
    let ld = fits 3 in
    let low : 4026531840 ≤ n = omega (arith, high, e) in
    let top : n < 4294967296 = omega (arith, la, lb, lc, ld, e) in
    let w = sym e ∙ whole n low top in (
      record { seconds = λ h. let bad : true ≡ false = h in cc; milliseconds = λ _. (omega arith, omega arith); flags = omega arith },
      (λ k. four_3 a b c d la lb lc ld k ∷ four_2 a b c d la lb lc ld k ∷ four_1 a b c d la lb lc ld k ∷ four_0 a b c d la lb lc ld k ∷ sym g k)
          ∙ (λ k. w k / 16777216 % 256 ∷ w k / 65536 % 256 ∷ w k / 256 % 256 ∷ w k % 256 ∷ after),
    )
