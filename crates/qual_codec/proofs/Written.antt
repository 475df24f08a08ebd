-- Writing the cell of data points.
use Rattle.std.proofs.Common.{◌≡◌, ℕ, ◌+◌, ◌≤◌, ◌<◌, Bool, true, false, List, [], ◌∷◌, ◌++◌, length, get_or, take, sym, ap, subst, ◌∙◌, arith}
use Rattle.std.proofs.lemmas.List.{flat_map_more, get_or-map, length-map, map-append, take_all, take_more}
use Rattle.std.specs.Prelude.{Option, not, ◌||◌, ◌&&◌}
use Rattle.std.specs.List.{flat_map, list_any}
use Rattle.qual_codec.specs.declared.cells.Item.{Item}
use Rattle.qual_codec.specs.declared.cells.Dot.{Dot}
use Rattle.qual_codec.specs.Items.{IsItem, item_bytes}
use Rattle.qual_codec.specs.CellDots.{IsDots, items_of, has_both, tail_for, tail_of, value_bytes}
use Rattle.qual_codec.specs.CellSteps.{bytes_in}
use Rattle.qual_codec.specs.MergeSteps.{AreOfCell}
use Rattle.qual_codec.proofs.Progress.{any_push}

-- the dots' items and values were written, and which forms occur
pub record HasWritten (dots : List Dot) (qual value : List ℕ) (fine coarse : Bool) : Type 0 where
  pub qual_is : qual ≡ flat_map item_bytes (items_of dots)
  pub value_is : value ≡ flat_map value_bytes dots
  pub fine_is : fine ≡ list_any (λ (i : Item). i.fine) (items_of dots)
  pub coarse_is : coarse ≡ list_any (λ (i : Item). not i.fine) (items_of dots)

-- one dot more
pub write_more : (dots more : List Dot) (d : Dot) (qual value new_qual new_value : List ℕ) (fine coarse : Bool) → HasWritten dots qual value fine coarse → more ≡ dots ++ d ∷ [] → new_qual ≡ qual ++ item_bytes d.item → new_value ≡ value ++ value_bytes d
    → HasWritten more new_qual new_value (fine || d.item.fine) (coarse || not d.item.fine)
write_more dots more d qual value new_qual new_value fine coarse h is q v =
    let items : items_of more ≡ items_of dots ++ d.item ∷ [] = ap items_of is ∙ map-append (λ (x : Dot). x.item) dots (d ∷ []) in
    record {
      qual_is = q ∙ ap (λ l. l ++ item_bytes d.item) h.qual_is ∙ flat_map_more item_bytes [] (items_of dots) d.item ∙ ap (flat_map item_bytes) (sym items);
      value_is = v ∙ ap (λ l. l ++ value_bytes d) h.value_is ∙ flat_map_more value_bytes [] dots d ∙ ap (flat_map value_bytes) (sym is);
      fine_is = ap (λ b. b || d.item.fine) h.fine_is ∙ sym (any_push (λ (i : Item). i.fine) (items_of dots) d.item) ∙ sym (ap (list_any (λ (i : Item). i.fine)) items);
      coarse_is = ap (λ b. b || not d.item.fine) h.coarse_is ∙ sym (any_push (λ (i : Item). not i.fine) (items_of dots) d.item) ∙ sym (ap (list_any (λ (i : Item). not i.fine)) items);
    }

-- the next of the dots
pub write_next : (dots : List Dot) (i : ℕ) (d : Dot) (qual value new_qual new_value : List ℕ) (fine coarse : Bool) → HasWritten (take i dots) qual value fine coarse → i < length dots → new_qual ≡ qual ++ item_bytes (get_or dots i d).item
    → new_value ≡ value ++ value_bytes (get_or dots i d) → HasWritten (take (i + 1) dots) new_qual new_value (fine || (get_or dots i d).item.fine) (coarse || not (get_or dots i d).item.fine)
write_next dots i d qual value new_qual new_value fine coarse h lt q v = write_more (take i dots) (take (i + 1) dots) (get_or dots i d) qual value new_qual new_value fine coarse h (take_more dots i d lt) q v

-- an item of the dots is one
pub item_is : (dots : List Dot) (i : ℕ) (d : Dot) → AreOfCell dots → i < length dots → IsItem (get_or dots i d).item
item_is dots i d are lt = subst IsItem (get_or-map (λ (x : Dot). x.item) dots i d d.item lt) (are.each i d.item (let n = length-map dots (λ (x : Dot). x.item) in omega (arith, lt, n)))

-- the bytes are those of the cell, once the tail stands behind the values
pub written : (dots : List Dot) (i count : ℕ) (qual value whole : List ℕ) (fine coarse : Bool) (tail : Option ℕ) → AreOfCell dots → HasWritten (take i dots) qual value fine coarse → length dots ≤ i → count ≡ length dots
    → bytes_in tail ≡ tail_for count (fine && coarse) → whole ≡ value ++ bytes_in tail → IsDots qual whole dots
written dots i count qual value whole fine coarse tail are h all n t is =
    let w = subst (λ (l : List Dot). HasWritten l qual value fine coarse) (take_all i dots all) h in
    let both : (fine && coarse) ≡ has_both (items_of dots) = λ k. w.fine_is k && w.coarse_is k in
    let tail_is : bytes_in tail ≡ tail_of (items_of dots) = t ∙ (λ k. tail_for (n k) (both k)) ∙ ap (λ m. tail_for m (has_both (items_of dots))) (sym (length-map dots (λ (d : Dot). d.item))) in
    record {
      items = record { some = are.some; each = are.each; rising = are.rising; qual_is = w.qual_is };
      fits = are.fits;
      value_is = is ∙ (λ k. w.value_is k ++ tail_is k);
    }

pub and_then : (b c r : Bool) → b ≡ true → r ≡ c → r ≡ (b && c)
and_then b c r t e = e ∙ sym (ap (λ x. x && c) t)

pub and_else : (b c r : Bool) → b ≡ false → r ≡ b → r ≡ (b && c)
and_else b c r f e = e ∙ f ∙ sym (ap (λ x. x && c) f)
