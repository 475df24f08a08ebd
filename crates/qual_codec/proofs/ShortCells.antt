-- A cell of one item of two bytes.
use Rattle.std.proofs.Common.{◌≡◌, ℕ, ◌≤◌, List, [], ◌∷◌, ◌++◌, length, sym, ap, ◌∙◌, refl, arith}
use Rattle.std.proofs.lemmas.List.{append-nil, length-append}
use Rattle.std.proofs.lemmas.List.Elements.{All-cons, All-nil}
use Rattle.std.specs.Prelude.{ℤ}
use Rattle.qual_codec.specs.declared.cells.Item.{Item}
use Rattle.qual_codec.specs.Items.{IsItem, fields_of, item_bytes}
use Rattle.qual_codec.specs.CellDots.{IsDots, number_bytes}
use Rattle.qual_codec.specs.CellSteps.{IsNextItem}
use Rattle.qual_codec.proofs.Progress.{Fits, IsNextValue, long_fields}

nothing : (xs : List ℕ) → length xs ≡ 0 → xs ≡ []
nothing [] none = refl
nothing (x ∷ xs) none = absurd (omega (arith, none))

-- a cell whose qualifier has two bytes, which begin with an item, and whose value has as many bytes as the item says
pub one_dot : (qual value after behind : List ℕ) (i : Item) (v : ℤ) → length qual ≡ 2 → length value ≡ i.len → IsNextItem 0 qual i after → IsNextValue i.len value v behind → IsDots qual value ((record { item = i; value = v }) ∷ [])
one_dot qual value after behind i v two long n w = record {
  items = record {
    some = omega arith;
    each = All-cons IsItem i [] n.item (All-nil IsItem);
    rising = λ j k d lt within. absurd (omega (arith, lt, within));
    qual_is = n.parts ∙ ap (λ (l : List ℕ). item_bytes i ++ l) (nothing after no_more);
  };
  fits = All-cons Fits (record { item = i; value = v }) [] w.fits (All-nil Fits);
  value_is = w.bytes_are enough ∙ ap (λ (l : List ℕ). number_bytes i.len v ++ l) (nothing behind no_behind) ∙ sym (append-nil (number_bytes i.len v ++ []));
}
  where
    no_more : length after ≡ 0
    no_more =
        let len = ap (λ (l : List ℕ). length l) n.parts ∙ length-append (item_bytes i) after in
        let least = long_fields (fields_of i) in
        omega (arith, two, len, least)

    enough : i.len ≤ length value
    enough = omega (arith, long)

    no_behind : length behind ≡ 0
    no_behind = let less = w.less enough in omega (arith, less, long)
