-- A point has one layout, which the ids of its names decide.
use Rattle.std.proofs.Common.{◌≡◌, ℕ, ℤ, ◌<◌, ◌%◌, List, [], ◌∷◌, ◌++◌, length, sym, ap, subst, ◌∙◌, arith, ⊎_elim}
use Rattle.std.specs.Prelude.{Contains}
use Rattle.std.specs.List.{flat_map}
use Rattle.row_hours.specs.declared.hours.TheConstants.{HOUR_MILLIS}
use Rattle.row_key.specs.declared.keys.RowKey.{RowKey}
use Rattle.row_key.specs.Key.{hour_bytes, key_bytes, pair_bytes}
use Rattle.tsd_base.specs.Points.{DataPoint}
use Rattle.tsd_base.specs.TagList.{Pair}
use Rattle.tsd_base.specs.declared.kinds.Kind.{Kind}
use Rattle.tsd_base.specs.declared.kinds.Kind.TheVariants.{Metric, TagKey, TagValue}
use Rattle.qual_codec.specs.CellDots.{items_of, number_bytes}
use Rattle.qual_codec.specs.Items.{item_bytes}
use Rattle.qual_codec.specs.Spelling.{IsShortest, dot_of}
use Rattle.cell_model.specs.KindWidths.{Widths}
use Rattle.cell_model.specs.Layout.{HasKey, IsLayout, ids_of_tag, names_of, tag_names}
use Rattle.list_lemmas.proofs.ListMembers.{here, there, not_in, split}
use Rattle.list_lemmas.proofs.SameLists.{same_rising}

one_shortest : (value : ℤ) (a b : List ℕ) → IsShortest value a → IsShortest value b → a ≡ b
one_shortest value a b x y =
    let up = x.least (length b) y.len y.fits in
    let down = y.least (length a) x.len x.fits in
    let same : length a ≡ length b = omega (arith, up, down) in
    x.bytes_are ∙ ap (λ n. number_bytes n value) same ∙ sym y.bytes_are

below_asym : (a b : ℕ × ℕ) → a.0 < b.0 → b.0 < a.0 → ⊥
below_asym a b x y = omega (arith, x, y)

module _ (w : Widths) (ids : Kind → List ℕ → ℕ) (p : DataPoint) where
  pairs_within : (k l : RowKey) → HasKey w ids p k → HasKey w ids p l → (i : ℕ × ℕ) → Contains k.pairs.items i → Contains l.pairs.items i
  pairs_within k l x y i c = let t = x.each_pair i c in subst (Contains l.pairs.items) t.2 (y.each_tag t.0 t.1)

  one_row : (k l : RowKey) → HasKey w ids p k → HasKey w ids p l → key_bytes w k ≡ key_bytes w l
  one_row k l x y =
      let metric : k.metric ≡ l.metric = x.metric ∙ sym y.metric in
      let base : k.base ≡ l.base = x.base ∙ sym y.base in
      let pairs : k.pairs.items ≡ l.pairs.items = same_rising (λ (i j : ℕ × ℕ). i.0 < j.0) below_asym k.pairs.items l.pairs.items x.is_key.rising y.is_key.rising (pairs_within k l x y) (pairs_within l k y x) in
      λ i. hour_bytes w (metric i) (base i) ++ flat_map (pair_bytes w) (pairs i)

  -- two layouts of one point are one
  pub one_layout : (r q v r' q' v' : List ℕ) → IsLayout w ids p r q v → IsLayout w ids p r' q' v' → (r ≡ r') × (q ≡ q') × (v ≡ v')
  one_layout r q v r' q' v' x y =
      let value = one_shortest p.value v v' x.shortest y.shortest in (
        x.row_is ∙ one_row x.key y.key x.has y.has ∙ sym y.row_is,
        x.dot.items.qual_is ∙ ap (λ (xs : List ℕ). flat_map item_bytes (items_of (dot_of (p.time % HOUR_MILLIS) p.fine p.value (length xs) ∷ []))) value ∙ sym y.dot.items.qual_is,
        value,
      )

-- the names of a tag are among those of the tags
tag_in : (tags : List Pair) (t : Pair) → Contains tags t → Contains (tag_names tags) (TagKey, t.0) × Contains (tag_names tags) (TagValue, t.1)
tag_in [] t c = absurd (not_in t c)
tag_in (u ∷ tags) t c = ⊎_elim
    (λ (same : u ≡ t). subst (λ (x : Pair). Contains (tag_names (u ∷ tags)) (TagKey, x.0) × Contains (tag_names (u ∷ tags)) (TagValue, x.1)) same
    (here (TagKey, u.0) ((TagValue, u.1) ∷ tag_names tags), there (TagKey, u.0) (TagValue, u.1) ((TagValue, u.1) ∷ tag_names tags) (here (TagValue, u.1) (tag_names tags))))
    (λ (later : Contains tags t).
    let w = tag_in tags t later in (
      there (TagKey, u.0) (TagKey, t.0) ((TagValue, u.1) ∷ tag_names tags) (there (TagValue, u.1) (TagKey, t.0) (tag_names tags) w.0),
      there (TagKey, u.0) (TagValue, t.1) ((TagValue, u.1) ∷ tag_names tags) (there (TagValue, u.1) (TagValue, t.1) (tag_names tags) w.1),
    ))
    (split u t tags c)

-- a layout is one with other ids that the point's names have
module _ (w : Widths) (ids ids' : Kind → List ℕ → ℕ) (p : DataPoint) (alike : (kind : Kind) (name : List ℕ) → Contains (names_of p) (kind, name) → ids kind name ≡ ids' kind name) where
  same_pair : (t : Pair) → Contains p.tags t → ids_of_tag ids t ≡ ids_of_tag ids' t
  same_pair t c =
      let w = tag_in p.tags t c in
      let k = alike TagKey t.0 (there (Metric, p.metric) (TagKey, t.0) (tag_names p.tags) w.0) in
      let v = alike TagValue t.1 (there (Metric, p.metric) (TagValue, t.1) (tag_names p.tags) w.1) in
      λ i. (k i, v i)

  same_key : (key : RowKey) → HasKey w ids p key → HasKey w ids' p key
  same_key key x = record {
    is_key = x.is_key;
    metric = x.metric ∙ alike Metric p.metric (here (Metric, p.metric) (tag_names p.tags));
    base = x.base;
    count = x.count;
    each_tag = λ t c. subst (Contains key.pairs.items) (same_pair t c) (x.each_tag t c);
    each_pair = λ i c. let t = x.each_pair i c in (t.0, t.1, sym (same_pair t.0 t.1) ∙ t.2);
  }

  pub layout_alike : (r q v : List ℕ) → IsLayout w ids p r q v → IsLayout w ids' p r q v
  layout_alike r q v x = record { key = x.key; has = same_key x.key x.has; row_is = x.row_is; dot = x.dot; shortest = x.shortest }
