-- What the readers of ids, names and kinds say, and that each thing is read back.
use Rattle.std.proofs.Common.{◌≡◌, ◌≢◌, ℕ, Bool, true, false, cond, List, [], ◌∷◌, length, refl, sym, ap, subst, ◌∙◌, arith}
use Rattle.std.specs.Prelude.{Option, None, Some, option_and_then, nat_le, ◌&&◌}
use Rattle.std.specs.List.{list_all}
use Rattle.std.specs.Int.{w64, to_be_bytes, from_be_bytes}
use Rattle.std.specs.Cmp.Lexicographic.{nat_list_eq_equiv}
use Rattle.std.proofs.lemmas.Bool.{leb-true, le-leb, cond-true, and_parts}
use Rattle.std.proofs.lemmas.Option.{cond_some, none-some}
use Rattle.std.proofs.lemmas.Nat.{from_be_bytes-to_be_bytes_8}
use Rattle.list_lemmas.proofs.BoolTests.{same_Some}
use Rattle.short_bytes.specs.Alike.{same_list}
use Rattle.tsd_base.specs.Alphabet.{IsName, is_name, is_name_byte}
use Rattle.tsd_base.specs.declared.kinds.Kind.{Kind}
use Rattle.tsd_base.specs.declared.kinds.Kind.TheVariants.{Metric, TagKey, TagValue}
use Rattle.cell_model.specs.KindWidths.{Widths, IsKindId, greatest, kind_bytes}
use Rattle.cell_model.specs.Store.{same_bytes}
use Rattle.cell_model.specs.Machine.{kind_qual}
use Rattle.cell_model.specs.IdRows.{id_number}
use Rattle.cell_model.proofs.CallerLemmas.{greatest_fits, number-bytes}
use Rattle.listing_check.specs.UidCells.{kind_named, is_id, if_spelled, id_spelled, counter_spelled, name_spelled}

pub same_itself : (x : List ℕ) → same_bytes x x ≡ true
same_itself x = nat_list_eq_equiv.refl x

pub same_as : (x y : List ℕ) → x ≡ y → same_bytes x y ≡ true
same_as x y e = ap (same_bytes x) (sym e) ∙ same_itself x

-- ---- kinds

pub kind_is : (qual : List ℕ) (kind : Kind) → kind_named qual ≡ Some kind → qual ≡ kind_qual kind
kind_is qual kind e = at (same_bytes qual (kind_qual Metric)) (same_bytes qual (kind_qual TagKey)) (same_bytes qual (kind_qual TagValue)) refl refl refl e
  where
    same : (k : Kind) → same_bytes qual (kind_qual k) ≡ true → Some k ≡ Some kind → qual ≡ kind_qual kind
    same k is s = let one : k ≡ kind = same_Some k kind s in subst (λ (x : Kind). qual ≡ kind_qual x) one (same_list qual (kind_qual k) is)

    at : (a b c : Bool) → same_bytes qual (kind_qual Metric) ≡ a → same_bytes qual (kind_qual TagKey) ≡ b → same_bytes qual (kind_qual TagValue) ≡ c
        → cond a (Some Metric) (cond b (Some TagKey) (cond c (Some TagValue) None)) ≡ Some kind → qual ≡ kind_qual kind
    at true b c x y z e = same Metric x e
    at false true c x y z e = same TagKey y e
    at false false true x y z e = same TagValue z e
    at false false false x y z e = absurd (none-some kind e)

pub kind_back : (kind : Kind) → kind_named (kind_qual kind) ≡ Some kind
kind_back Metric = refl
kind_back TagKey = refl
kind_back TagValue = refl

pub same_kind : (a b : Kind) → kind_qual a ≡ kind_qual b → a ≡ b
same_kind a b e = same_Some a b (sym (kind_back a) ∙ ap kind_named e ∙ kind_back b)

-- ---- numbers

module _ (w : Widths) (kind : Kind) where
  pub id_is : (n : ℕ) → is_id w kind n ≡ true → IsKindId w kind n
  id_is n e = let p = and_parts (nat_le 1 n) (nat_le n (greatest w kind)) e in (leb-true 1 n p.0, leb-true n (greatest w kind) p.1)

  pub is_id_from : (n : ℕ) → IsKindId w kind n → is_id w kind n ≡ true
  is_id_from n d = λ i. le-leb 1 n d.0 i && le-leb n (greatest w kind) d.1 i

  pub record IsSpelled (value bytes : List ℕ) (n m : ℕ) : Type 0 where
    pub id : IsKindId w kind m
    pub value_is : value ≡ bytes
    pub number_is : n ≡ m

  pub spelled_is : (value bytes : List ℕ) (n m : ℕ) → if_spelled w kind value bytes n ≡ Some m → IsSpelled value bytes n m
  spelled_is value bytes n m e =
      let p = cond_some (is_id w kind n && same_bytes bytes value) n m e in
      let q = and_parts (is_id w kind n) (same_bytes bytes value) p.0 in
      record { id = subst (IsKindId w kind) p.1 (id_is n q.0); value_is = sym (same_list bytes value q.1); number_is = p.1 }

  pub spelled_back : (bytes : List ℕ) (n : ℕ) → IsKindId w kind n → if_spelled w kind bytes bytes n ≡ Some n
  spelled_back bytes n d = cond-true _ _ _ (λ i. is_id_from n d i && same_itself bytes i)

  and_then_is : (f : ℕ → Option ℕ) (o : Option ℕ) (y : ℕ) → option_and_then f o ≡ Some y → (x : ℕ) × (f x ≡ Some y)
  and_then_is f None y e = absurd (none-some y e)
  and_then_is f (Some x) y e = (x, e)

  pub id_read : (value : List ℕ) (id : ℕ) → id_spelled w kind value ≡ Some id → IsKindId w kind id × (value ≡ kind_bytes w kind id)
  id_read value id e =
      let x = and_then_is (λ n. if_spelled w kind value (kind_bytes w kind n) n) (id_number value) id e in
      let s = spelled_is value (kind_bytes w kind x.0) x.0 id x.1 in
      (s.id, s.value_is ∙ ap (kind_bytes w kind) s.number_is)

  pub id_back : (id : ℕ) → IsKindId w kind id → id_spelled w kind (kind_bytes w kind id) ≡ Some id
  id_back id d = ap (option_and_then (λ n. if_spelled w kind (kind_bytes w kind id) (kind_bytes w kind n) n)) (number-bytes w kind id d.1) ∙ spelled_back (kind_bytes w kind id) id d

  pub record IsCount (value : List ℕ) (n : ℕ) : Type 0 where
    pub id : IsKindId w kind n
    pub value_is : value ≡ to_be_bytes w64 n
    pub number_is : from_be_bytes w64 value ≡ n

  pub counter_read : (value : List ℕ) (n : ℕ) → counter_spelled w kind value ≡ Some n → IsCount value n
  counter_read value n e =
      let s = spelled_is value (to_be_bytes w64 (from_be_bytes w64 value)) (from_be_bytes w64 value) n e in
      record { id = s.id; value_is = s.value_is ∙ ap (to_be_bytes w64) s.number_is; number_is = s.number_is }

  pub counter_back : (n : ℕ) → IsKindId w kind n → counter_spelled w kind (to_be_bytes w64 n) ≡ Some n
  counter_back n d =
      let most = d.1 in
      let fits = greatest_fits w kind in
      let same : from_be_bytes w64 (to_be_bytes w64 n) ≡ n = from_be_bytes-to_be_bytes_8 n (omega (arith, most, fits)) in
      ap (λ (m : ℕ). if_spelled w kind (to_be_bytes w64 n) (to_be_bytes w64 m) m) same ∙ spelled_back (to_be_bytes w64 n) n d

-- ---- names

pub name_is : (bytes : List ℕ) → is_name bytes ≡ true → IsName bytes
name_is bytes e =
    let p = and_parts (nat_le 1 (length bytes)) (nat_le (length bytes) 255 && list_all is_name_byte bytes) e in
    let q = and_parts (nat_le (length bytes) 255) (list_all is_name_byte bytes) p.1 in
    record { some = leb-true 1 (length bytes) p.0; most = leb-true (length bytes) 255 q.0; alphabet = q.1 }

pub is_name_from : (bytes : List ℕ) → IsName bytes → is_name bytes ≡ true
is_name_from bytes n = λ i. le-leb 1 (length bytes) n.some i && (le-leb (length bytes) 255 n.most i && n.alphabet i)

pub name_read : (bytes name : List ℕ) → name_spelled bytes ≡ Some name → IsName bytes × (bytes ≡ name)
name_read bytes name e = let p = cond_some (is_name bytes) bytes name e in (name_is bytes p.0, p.1)

pub name_back : (bytes : List ℕ) → IsName bytes → name_spelled bytes ≡ Some bytes
name_back bytes n = cond-true _ _ _ (is_name_from bytes n)

-- no name is the row of the counters
pub no_name_zero : (name : List ℕ) → IsName name → name ≢ 0 ∷ []
no_name_zero name n e = let zero_in : false ≡ true = subst (λ (xs : List ℕ). list_all is_name_byte xs ≡ true) e n.alphabet in cc
