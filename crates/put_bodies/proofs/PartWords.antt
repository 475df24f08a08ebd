-- The words of strings and numbers, and what they read as.
use Rattle.std.proofs.Common.{◌≡◌, ℕ, ◌^◌, ◌<◌, ◌≤◌, true, List, [], ◌∷◌, length, Float, Option, None, Some, IfSome, option_map, inl, inr, ◌⊎◌, refl, sym, ap, subst, ◌∙◌, arith, le-leb}
use Rattle.std.specs.Borrow.{Bor}
use Rattle.std.specs.Char.{is_ascii_digit}
use Rattle.std.specs.List.{list_all}
use Rattle.std.specs.Str.Parse.{digits_value}
use Rattle.std.proofs.lemmas.Bool.{and_parts}
use Rattle.std.proofs.lemmas.Bool.Decides.{nat_tests}
use Rattle.fast_float.specs.Text.{with_sign}
use Rattle.json.specs.Json.{Json, string, number}
use Rattle.serde_json.specs.Data as plain
use Rattle.serde_json.specs.Data.{float, negative, unsigned}
use Rattle.serde_json.specs.Read.{of_json}
use Rattle.tsd_base.specs.declared.points.PointFault.TheVariants.{Time, Value}
use Rattle.tsd_base.specs.Values.{value_of}
use Rattle.json_points.specs.Elements.{number_value, told}
use Rattle.put_bodies.specs.ElementParts.{IsNumberOf, IsOf, IsRead, IsTimeWord, IsValueWord}
use Rattle.put_bodies.specs.LineWords.{AreWordBytes, IsWord, is_word_byte}
use Rattle.put_bodies.specs.TextNumbers.{IsFraction, IsNegative, IsWhole}
use Rattle.put_bodies.specs.declared.text_numbers.NumberKind.{NumberKind}
use Rattle.put_bodies.specs.declared.text_numbers.NumberKind.TheVariants.{Whole, Negative, Fraction}
use Rattle.put_bodies.specs.declared.element_scan.PlainValue.{PlainValue}
use Rattle.put_bodies.specs.declared.element_scan.PlainValue.TheVariants.{Text, Number}
use Rattle.put_bodies.proofs.NumberLemmas.{number_of-digits}
use Rattle.put_bodies.proofs.NumberReads.{time_alike}
use Rattle.put_bodies.proofs.TextNumberLemmas.{kind_reads, negative_of, whole_digits, whole_some}
use Rattle.put_bodies.proofs.ValueReads.{gone, taken, value_alike}

digit_word : (c : ℕ) → is_ascii_digit c ≡ true → is_word_byte c ≡ true
digit_word c e = grind (arith, nat_tests)

digits_word : (s : List ℕ) → list_all is_ascii_digit s ≡ true → AreWordBytes s
digits_word [] e = refl
digits_word (c ∷ s) e = let parts = and_parts _ _ e in rw (digit_word c parts.0) (digits_word s parts.1)

whole_word : (s : List ℕ) → IsWhole s → IsWord s
whole_word s w = (whole_some s w, digits_word s w.digits)

negative_word : (s : List ℕ) → IsNegative s → IsWord s
negative_word s n = rw n.text (omega arith, digits_word n.digits n.whole.digits)

-- ---- what has data

pub plain_read : (v : PlainValue) (j : Json) → IsOf v j → IsRead 1 j
plain_read (Text text) j is = rw is (record { d = plain.string text.now; reads = refl; shallow = omega arith })
plain_read (Number kind text) j (is, of_kind) = let n = kind_reads kind text.now of_kind in rw is (record { d = plain.number n.0; reads = ap (option_map plain.number) n.1; shallow = omega arith })

-- ---- times

pub text_time : (j : Json) (s : List ℕ) → j ≡ string s → IsWord s → IsTimeWord j s
text_time j s is word = record { full = word; d = plain.string s; reads = ap of_json is; same = refl }

pub whole_time : (j : Json) (s : List ℕ) → j ≡ number s → IsWhole s → IsTimeWord j s
whole_time j s is w =
    let digits = whole_digits s w in
    record {
      full = whole_word s w;
      d = plain.number (unsigned (digits_value 10 s));
      reads = ap of_json is ∙ ap (option_map plain.number) (number_of-digits s digits.0 digits.1 digits.2);
      same = ap (told (λ _. Time)) (sym (time_alike s digits.0 digits.1 digits.2));
    }

-- ---- values

pub text_value : (j : Json) (s : List ℕ) → j ≡ string s → IsWord s → IsValueWord j s
text_value j s is word = record { full = word; d = plain.string s; reads = ap of_json is; same = refl }

pub whole_value : (j : Json) (s : List ℕ) → j ≡ number s → IsWhole s → IsValueWord j s
whole_value j s is w =
    let digits = whole_digits s w in
    record {
      full = whole_word s w;
      d = plain.number (unsigned (digits_value 10 s));
      reads = ap of_json is ∙ ap (option_map plain.number) (number_of-digits s digits.0 digits.1 digits.2);
      same = ap (told Value) (sym (value_alike s digits.0 digits.1));
    }

negative_alike : (s : List ℕ) → IsWhole s → digits_value 10 s ≤ 2 ^ 63 → value_of (45 ∷ s) ≡ number_value (Some (negative (with_sign true (digits_value 10 s))))
unfolding value_of
negative_alike [] w fits = absurd (let e : 0 < length {A = ℕ} [] = whole_some [] w in omega arith)
negative_alike (c ∷ cs) w fits = let digits = whole_digits (c ∷ cs) w in rw (taken (c ∷ cs) digits.0) (rw (gone (c ∷ cs)) (rw (le-leb _ _ fits) refl))

pub negative_value : (j : Json) (s : List ℕ) → j ≡ number s → IsNegative s → IsValueWord j s
negative_value j s is n = record {
  full = negative_word s n;
  d = plain.number (negative (with_sign true (digits_value 10 n.digits)));
  reads = ap of_json is ∙ ap (option_map plain.number) (negative_of s n);
  same = ap (told Value) (sym (ap value_of n.text ∙ negative_alike n.digits n.whole n.fits));
}

float_word : (x : Float) → value_of (48 ∷ 46 ∷ []) ≡ number_value (Some (float x))
unfolding value_of
float_word x = refl

-- any word of a float is refused as a float
pub fraction_value : (j : Json) (s : List ℕ) → j ≡ number s → IsFraction s → IsValueWord j (48 ∷ 46 ∷ [])
fraction_value j s is f = record {
  full = (omega arith, refl);
  d = plain.number (float f.0);
  reads = ap of_json is ∙ ap (option_map plain.number) f.1;
  same = ap (told Value) (sym (float_word f.0));
}

-- ---- the words that were chosen

some_as : {A : Type 0} {P Q : A → Type 0} (o : Option A) → ((a : A) → P a → Q a) → IfSome o P → IfSome o Q
some_as None f h = tt
some_as (Some a) f h = f a h

pub text_as_time : (v : PlainValue) (text : Bor (List ℕ)) (r : Option (Bor (List ℕ))) (j : Json) → v ≡ Text text → IsOf v j → IfSome r (λ word. (word.now ≡ text.now) × IsWord text.now) → IfSome r (λ word. IsTimeWord j word.now)
text_as_time v text r j is of full = some_as r (λ word so. subst (IsTimeWord j) (sym so.0) (text_time j text.now (subst (λ (x : PlainValue). IsOf x j) is of) so.1)) full

pub text_as_value : (v : PlainValue) (text : Bor (List ℕ)) (r : Option (Bor (List ℕ))) (j : Json) → v ≡ Text text → IsOf v j → IfSome r (λ word. (word.now ≡ text.now) × IsWord text.now) → IfSome r (λ word. IsValueWord j word.now)
text_as_value v text r j is of full = some_as r (λ word so. subst (IsValueWord j) (sym so.0) (text_value j text.now (subst (λ (x : PlainValue). IsOf x j) is of) so.1)) full

-- a number's word, as its form says
pub whole_as_time : (kind : NumberKind) (text : List ℕ) (j : Json) → kind ≡ Whole → IsNumberOf kind text j → IsTimeWord j text
whole_as_time kind text j is of = let so = subst (λ (k : NumberKind). IsNumberOf k text j) is of in whole_time j text so.0 so.1

pub whole_as_value : (kind : NumberKind) (text : List ℕ) (j : Json) → kind ≡ Whole → IsNumberOf kind text j → IsValueWord j text
whole_as_value kind text j is of = let so = subst (λ (k : NumberKind). IsNumberOf k text j) is of in whole_value j text so.0 so.1

pub negative_as_value : (kind : NumberKind) (text : List ℕ) (j : Json) → kind ≡ Negative → IsNumberOf kind text j → IsValueWord j text
negative_as_value kind text j is of = let so = subst (λ (k : NumberKind). IsNumberOf k text j) is of in negative_value j text so.0 so.1

pub fraction_as_value : (kind : NumberKind) (text : List ℕ) (j : Json) → kind ≡ Fraction → IsNumberOf kind text j → IsValueWord j (48 ∷ 46 ∷ [])
fraction_as_value kind text j is of = let so = subst (λ (k : NumberKind). IsNumberOf k text j) is of in fraction_value j text so.0 so.1

pub integer_as_value : (kind : NumberKind) (text : List ℕ) (j : Json) → (kind ≡ Whole) ⊎ (kind ≡ Negative) → IsNumberOf kind text j → IsValueWord j text
integer_as_value kind text j (inl is) of = whole_as_value kind text j is of
integer_as_value kind text j (inr is) of = negative_as_value kind text j is of
