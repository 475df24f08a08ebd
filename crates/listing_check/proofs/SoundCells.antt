-- Cells that rise are without a flaw exactly where a history may begin with their store.
use Rattle.std.proofs.Common.{◌≡◌, ◌≢◌, inl, inr, ℕ, ◌≤◌, Bool, true, false, cond, List, [], ◌∷◌, refl, sym, ap, subst, ◌∙◌, arith}
use Rattle.std.specs.Prelude.{Option, None, Some, option_and_then, unwrap_or, Contains, nat_lt, ◌&&◌, slice_index_or}
use Rattle.std.specs.Option.{option_map_or}
use Rattle.std.specs.List.{list_all}
use Rattle.std.specs.Int.{w64, to_be_bytes, from_be_bytes}
use Rattle.std.proofs.lemmas.Bool.{ltb-false, le-ltb, and_parts}
use Rattle.std.proofs.lemmas.Option.{none-some}
use Rattle.std.proofs.lemmas.List.Elements.{All-contains_itself}
use Rattle.list_lemmas.proofs.BoolTests.{not_Some, same_Some}
use Rattle.list_lemmas.proofs.ListMembers.{here, there, split, not_in}
use Rattle.short_bytes.specs.Alike.{same_list}
use Rattle.tsd_base.specs.Alphabet.{IsName, is_name}
use Rattle.tsd_base.specs.declared.kinds.Kind.{Kind}
use Rattle.tsd_base.specs.declared.kinds.Kind.TheVariants.{Metric, TagKey, TagValue}
use Rattle.row_key.specs.Key.{IsKey}
use Rattle.row_key.specs.declared.keys.RowKey.{RowKey}
use Rattle.row_key.specs.declared.tables.Table.{Table}
use Rattle.row_key.specs.declared.tables.Table.TheVariants.{Ids, Names, Points}
use Rattle.qual_codec.specs.CellDots.{Reads}
use Rattle.cell_model.specs.declared.row.Row.{Row}
use Rattle.cell_model.specs.declared.row.ListLine.{ListLine}
use Rattle.cell_model.specs.Store.{Store, same_bytes, value_at}
use Rattle.cell_model.specs.Machine.{counter_of, counter_row, kind_qual}
use Rattle.cell_model.specs.IdRows.{id_in, id_number, id_row, name_in, name_row, reverse_row}
use Rattle.cell_model.specs.Layout.{RowResolved}
use Rattle.cell_model.specs.Rising.{LinesRise}
use Rattle.cell_model.specs.KindWidths.{Widths, IsKindId, kind_bytes}
use Rattle.cell_model.specs.Sound.{IsBase, IsCounter, IsForward, IsGiven, IsReverse, IsSound}
use Rattle.cell_model.proofs.CallerLemmas.{number-bytes}
use Rattle.listing_check.specs.UidCells.{counter_by, counter_spelled, counter_with, forward_by, forward_with, id_spelled, kind_named, name_spelled, reverse_by, reverse_with, uid_in}
use Rattle.listing_check.specs.Flaws.{FlawIn, FlawOf, IsKeyOf, NoFlaw, PointFlaw, all_named, counter_in, has_id, has_name, is_named, is_named_by, is_value, pair_named, uid_flaw, value_in}
use Rattle.listing_check.specs.Laws.{FlawlessIsBase, FlawlessLoads, store_in}
use Rattle.listing_check.specs.declared.report.Flaw.{Flaw}
use Rattle.listing_check.specs.declared.report.Flaw.TheVariants.{BadUidCell, AboveCounter, NoName}
use Rattle.listing_check.proofs.Spelled.{counter_back, counter_read, id_back, id_read, is_name_from, kind_back, kind_is, name_back, name_is, name_read, no_name_zero, same_as, same_itself, same_kind}
use Rattle.listing_check.proofs.Standing.{each_stands, holds_there, unversioned, value_same}

-- ---- tests on what stands

pub value_is_there : (bytes : List ℕ) (o : Option (List ℕ)) → is_value bytes o ≡ true → o ≡ Some bytes
value_is_there bytes None e = cc
value_is_there bytes (Some v) e = ap Some (same_list v bytes e)

pub there_is_value : (bytes : List ℕ) (o : Option (List ℕ)) → o ≡ Some bytes → is_value bytes o ≡ true
there_is_value bytes o e = ap (is_value bytes) e ∙ same_itself bytes

no_flaw_here : (f : Flaw) → None ≡ Some f → ⊥
no_flaw_here f e = not_Some f (sym e)

-- two tests in a row that find nothing
pub found_none : (a b : Bool) (f g : Flaw) → None ≡ cond a (Some f) (cond b None (Some g)) → (a ≡ false) × (b ≡ true)
found_none true b f g e = absurd (no_flaw_here f e)
found_none false true f g e = (refl, refl)
found_none false false f g e = absurd (no_flaw_here g e)

pub found_none_once : (a : Bool) (f : Flaw) → None ≡ cond a (Some f) None → a ≡ false
found_none_once true f e = absurd (no_flaw_here f e)
found_none_once false f e = refl

-- ---- counters

counter_at_most : (w : Widths) (kind : Kind) (o : Option (List ℕ)) → unwrap_or (option_and_then (counter_spelled w kind) o) 0 ≤ option_map_or (from_be_bytes w64) o 0
counter_at_most w kind None = omega arith
counter_at_most w kind (Some v) = at (counter_spelled w kind v) refl
  where
    at : (n : Option ℕ) → counter_spelled w kind v ≡ n → unwrap_or n 0 ≤ from_be_bytes w64 v
    at None e = omega arith
    at (Some n) e = let c = counter_read w kind v n e in let same = c.number_is in omega (arith, same)

pub counter_below : (w : Widths) (cells : List ListLine) (kind : Kind) → counter_in w cells kind ≤ counter_of (store_in w cells) kind
counter_below w cells kind =
    subst (λ o. unwrap_or (option_and_then (counter_spelled w kind) o) 0 ≤ option_map_or (from_be_bytes w64) (value_at (store_in w cells) counter_row (kind_qual kind)) 0)
    (value_same w cells counter_row (kind_qual kind)) (counter_at_most w kind (value_at (store_in w cells) counter_row (kind_qual kind)))

-- where the counter reads the two are one
counter_at_least : (w : Widths) (kind : Kind) (o : Option (List ℕ)) → ((v : List ℕ) → o ≡ Some v → (n : ℕ) × (counter_spelled w kind v ≡ Some n)) → option_map_or (from_be_bytes w64) o 0 ≤ unwrap_or (option_and_then (counter_spelled w kind) o) 0
counter_at_least w kind None reads = omega arith
counter_at_least w kind (Some v) reads =
    let x = reads v refl in
    let c = counter_read w kind v x.0 x.1 in
    let same = c.number_is in
    let is : unwrap_or (counter_spelled w kind v) 0 ≡ x.0 = ap (λ o. unwrap_or o 0) x.1 in
    omega (arith, same, is)

-- an id that is named is the id of its name
record HasName (s : Store) (kind : Kind) (id : ℕ) : Type 0 where
  name : List ℕ
  is_name : IsName name
  is : id_in s kind name ≡ Some id

-- ---- without a flaw, each cell is what a base asks of it

module _ (w : Widths) (cells : List ListLine) where
  abbrev s : Store
  s = store_in w cells

  counter_reads : (qual value : List ℕ) (k : Option Kind) → kind_named qual ≡ k → None ≡ uid_flaw w cells (counter_by w k value) → IsCounter w qual value
  counter_reads qual value None named e = absurd (no_flaw_here BadUidCell e)
  counter_reads qual value (Some kind) named e = at (counter_spelled w kind value) refl e
    where
      at : (n : Option ℕ) → counter_spelled w kind value ≡ n → None ≡ uid_flaw w cells (counter_with kind n) → IsCounter w qual value
      at (Some n) read e =
          let c = counter_read w kind value n read in
          record { kind = kind; number = n; is_kind = kind_is qual kind named; least = c.id.0; most = c.id.1; value_is = c.value_is }
      at None read e = absurd (no_flaw_here BadUidCell e)

  is_given : (kind : Kind) (id : ℕ) → IsKindId w kind id → nat_lt (counter_in w cells kind) id ≡ false → IsGiven s kind id
  is_given kind id d low =
      let a = ltb-false (counter_in w cells kind) id low in
      let b = counter_below w cells kind in
      record { is_id = d; counted = omega (arith, a, b) }

  forward_reads : (name qual value : List ℕ) (k : Option Kind) → kind_named qual ≡ k → None ≡ uid_flaw w cells (forward_by w k name value) → IsForward s name qual value
  forward_reads name qual value None named e = absurd (no_flaw_here BadUidCell e)
  forward_reads name qual value (Some kind) named e = at (name_spelled name) (id_spelled w kind value) refl refl e
    where
      at : (m : Option (List ℕ)) (i : Option ℕ) → name_spelled name ≡ m → id_spelled w kind value ≡ i → None ≡ uid_flaw w cells (forward_with kind m i) → IsForward s name qual value
      at (Some m) (Some id) spelled read e =
          let n = name_read name m spelled in
          let d = id_read w kind value id read in
          let tests = found_none (nat_lt (counter_in w cells kind) id) (has_name w cells kind id m) AboveCounter NoName e in
          record {
            kind = kind;
            id = id;
            is_kind = kind_is qual kind named;
            is_name = n.0;
            given = is_given kind id d.0 tests.0;
            value_is = d.1;
            name_is = value_same w cells (id_row w kind id) (kind_qual kind) ∙ value_is_there m (value_in cells (id_row w kind id) (kind_qual kind)) tests.1 ∙ ap Some (sym n.1);
          }
      at (Some m) None spelled read e = absurd (no_flaw_here BadUidCell e)
      at None i spelled read e = absurd (no_flaw_here BadUidCell e)

  reverse_reads : (bytes qual name : List ℕ) (k : Option Kind) → kind_named qual ≡ k → None ≡ uid_flaw w cells (reverse_by w k bytes name) → IsReverse s bytes qual name
  reverse_reads bytes qual name None named e = absurd (no_flaw_here BadUidCell e)
  reverse_reads bytes qual name (Some kind) named e = at (id_spelled w kind bytes) (name_spelled name) refl refl e
    where
      at : (i : Option ℕ) (m : Option (List ℕ)) → id_spelled w kind bytes ≡ i → name_spelled name ≡ m → None ≡ uid_flaw w cells (reverse_with kind i m) → IsReverse s bytes qual name
      at (Some id) (Some m) read spelled e =
          let n = name_read name m spelled in
          let d = id_read w kind bytes id read in
          record {
            kind = kind;
            id = id;
            is_kind = kind_is qual kind named;
            is_name = n.0;
            given = is_given kind id d.0 (found_none_once (nat_lt (counter_in w cells kind) id) AboveCounter e);
            bytes_are = d.1;
          }
      at (Some id) None read spelled e = absurd (no_flaw_here BadUidCell e)
      at None m read spelled e = absurd (no_flaw_here BadUidCell e)

  named_has : (kind : Kind) (id : ℕ) → IsKindId w kind id → (o : Option (List ℕ)) → is_named_by w cells kind id o ≡ true → HasName s kind id
  named_has kind id d None e = absurd cc
  named_has kind id d (Some name) e =
      let p = and_parts (is_name name) (has_id w cells kind name id) e in
      let there : value_at s (name_row name) (kind_qual kind) ≡ Some (kind_bytes w kind id) = value_same w cells (name_row name) (kind_qual kind) ∙ value_is_there (kind_bytes w kind id) (value_in cells (name_row name) (kind_qual kind)) p.1 in
      record { name = name; is_name = name_is name p.0; is = ap (option_and_then id_number) there ∙ number-bytes w kind id d.1 }

  has_named : (kind : Kind) (id : ℕ) → IsKindId w kind id → is_named w cells kind id ≡ true → HasName s kind id
  has_named kind id d e = named_has kind id d (value_in cells (id_row w kind id) (kind_qual kind)) e

  pub all_pass : (p : ℕ × ℕ → Bool) (xs : List (ℕ × ℕ)) (x : ℕ × ℕ) → list_all p xs ≡ true → Contains xs x → p x ≡ true
  all_pass p [] x e c = absurd (not_in x c)
  all_pass p (y ∷ xs) x e c =
      let q = and_parts (p y) (list_all p xs) e in
      elim (split y x xs c) [ inl same ↦ ap p (sym same) ∙ q.0 | inr later ↦ all_pass p xs x q.1 later ]

  each_id : (key : RowKey) → IsKey w key → (i : ℕ × ℕ) → Contains key.pairs.items i → IsKindId w TagKey i.0 × IsKindId w TagValue i.1
  each_id key k i c = subst (λ (p : ℕ × ℕ). IsKindId w TagKey p.0 × IsKindId w TagValue p.1) c.2 (k.ids c.0 i c.1)

  resolved : (row : List ℕ) (key : RowKey) → IsKeyOf w row key → all_named w cells key ≡ true → RowResolved w (id_in s) row
  resolved row key k e =
      let p = and_parts (is_named w cells Metric key.metric) (list_all (pair_named w cells) key.pairs.items) e in
      let m = has_named Metric key.metric k.0.metric p.0 in
      record {
        key = key;
        is_key = k.0;
        row_is = k.1;
        name = m.name;
        is_name = m.is_name;
        metric_is = m.is;
        each = λ i c.
            let d = each_id key k.0 i c in
            let q = and_parts (is_named w cells TagKey i.0) (is_named w cells TagValue i.1) (all_pass (pair_named w cells) key.pairs.items i p.1 c) in
            let a = has_named TagKey i.0 d.0 q.0 in
            let b = has_named TagValue i.1 d.1 q.1 in
            ((a.name, b.name), a.is_name, b.is_name, a.is, b.is);
      }

  -- ---- so their store is a base

  pub flawless : NoFlaw w cells → (row : Row) (qual value : List ℕ) → value_at s row qual ≡ Some value → FlawIn w cells row.table row.bytes qual value None
  flawless none row qual value there = holds_there w (λ t r q v. FlawIn w cells t r q v None) cells none row qual value there

  forward_at : (name qual value : List ℕ) → name ≢ 0 ∷ [] → (b : Bool) → same_bytes name (0 ∷ []) ≡ b
      → None ≡ uid_flaw w cells (cond b (counter_by w (kind_named qual) value) (forward_by w (kind_named qual) name value)) → IsForward s name qual value
  forward_at name qual value other true same e = absurd (other (same_list name (0 ∷ []) same))
  forward_at name qual value other false same e = forward_reads name qual value (kind_named qual) refl e

  point_at : NoFlaw w cells → (row : Row) (qual value : List ℕ) → row.table ≡ Points → value_at s row qual ≡ Some value → PointFlaw w cells row.bytes qual value None
  point_at none row qual value points there = subst (λ (t : Table). FlawIn w cells t row.bytes qual value None) points (flawless none row qual value there)

  pub flawless_base : NoFlaw w cells → IsBase s
  flawless_base none = record {
    sound = record {
      counters = λ qual value there. counter_reads qual value (kind_named qual) refl (flawless none counter_row qual value there);
      forward = λ name qual value other there. forward_at name qual value other (same_bytes name (0 ∷ [])) refl (flawless none (name_row name) qual value there);
      reverse = λ bytes qual name there. reverse_reads bytes qual name (kind_named qual) refl (flawless none (reverse_row bytes) qual name there);
      rows = λ row qual value points there. let p = point_at none row qual value points there in resolved row.bytes p.0 p.1 p.2;
      cells = λ row qual value points there. (point_at none row qual value points there).3;
    };
    versions = unversioned w cells;
  }

  -- ---- of a base no cell has a flaw

  module _ (sound : IsSound s) where
    reads_counter : (kind : Kind) (v : List ℕ) → value_at s counter_row (kind_qual kind) ≡ Some v → (n : ℕ) × (counter_spelled w kind v ≡ Some n)
    reads_counter kind v is =
        let c = sound.counters (kind_qual kind) v is in
        (c.number, ap (counter_spelled w kind) c.value_is ∙ subst (λ (k : Kind). counter_spelled w k (to_be_bytes w64 c.number) ≡ Some c.number) (sym (same_kind kind c.kind c.is_kind)) (counter_back w c.kind c.number (c.least, c.most)))

    counter_above : (kind : Kind) → counter_of s kind ≤ counter_in w cells kind
    counter_above kind =
        subst (λ o. option_map_or (from_be_bytes w64) (value_at s counter_row (kind_qual kind)) 0 ≤ unwrap_or (option_and_then (counter_spelled w kind) o) 0)
        (value_same w cells counter_row (kind_qual kind)) (counter_at_least w kind (value_at s counter_row (kind_qual kind)) (reads_counter kind))

    not_above : (kind : Kind) (id : ℕ) → IsGiven s kind id → nat_lt (counter_in w cells kind) id ≡ false
    not_above kind id g =
        let a = counter_above kind in
        let b = g.counted in
        le-ltb (counter_in w cells kind) id (omega (arith, a, b))

    counter_free : (qual value : List ℕ) → IsCounter w qual value → None ≡ uid_flaw w cells (uid_in w Ids (0 ∷ []) qual value)
    counter_free qual value c =
        sym (ap (λ (p : List ℕ × List ℕ). uid_flaw w cells (counter_by w (kind_named p.0) p.1)) (λ i. (c.is_kind i, c.value_is i))
        ∙ ap (λ k. uid_flaw w cells (counter_by w k (to_be_bytes w64 c.number))) (kind_back c.kind)
        ∙ ap (λ n. uid_flaw w cells (counter_with c.kind n)) (counter_back w c.kind c.number (c.least, c.most)))

    none_is : (a b : Bool) (f g : Flaw) → a ≡ false → b ≡ true → None ≡ cond a (Some f) (cond b None (Some g))
    none_is a b f g x y = sym (λ i. cond (x i) (Some f) (cond (y i) None (Some g)))

    forward_free : (name qual value : List ℕ) → name ≢ 0 ∷ [] → IsForward s name qual value → None ≡ uid_flaw w cells (uid_in w Ids name qual value)
    forward_free name qual value other f =
        let named : is_value name (value_in cells (id_row w f.kind f.id) (kind_qual f.kind)) ≡ true = there_is_value name (value_in cells (id_row w f.kind f.id) (kind_qual f.kind)) (sym (value_same w cells (id_row w f.kind f.id) (kind_qual f.kind)) ∙ f.name_is) in
        none_is (nat_lt (counter_in w cells f.kind) f.id) (has_name w cells f.kind f.id name) AboveCounter NoName (not_above f.kind f.id f.given) named
        ∙ sym (ap (λ (p : List ℕ × List ℕ). uid_flaw w cells (uid_in w Ids name p.0 p.1)) (λ i. (f.is_kind i, f.value_is i))
        ∙ ap (λ b. uid_flaw w cells (cond b (counter_by w (kind_named (kind_qual f.kind)) (kind_bytes w f.kind f.id)) (forward_by w (kind_named (kind_qual f.kind)) name (kind_bytes w f.kind f.id)))) differs
        ∙ ap (λ k. uid_flaw w cells (forward_by w k name (kind_bytes w f.kind f.id))) (kind_back f.kind)
        ∙ (λ i. uid_flaw w cells (forward_with f.kind (name_back name f.is_name i) (id_back w f.kind f.id f.given.is_id i))))
      where
        differs : same_bytes name (0 ∷ []) ≡ false
        differs = at (same_bytes name (0 ∷ [])) refl
          where
            at : (b : Bool) → same_bytes name (0 ∷ []) ≡ b → b ≡ false
            at true e = absurd (other (same_list name (0 ∷ []) e))
            at false e = refl

    reverse_free : (bytes qual name : List ℕ) → IsReverse s bytes qual name → None ≡ uid_flaw w cells (uid_in w Names bytes qual name)
    reverse_free bytes qual name r =
        sym (ap (λ (p : List ℕ × List ℕ). uid_flaw w cells (uid_in w Names p.0 p.1 name)) (λ i. (r.bytes_are i, r.is_kind i))
        ∙ ap (λ k. uid_flaw w cells (reverse_by w k (kind_bytes w r.kind r.id) name)) (kind_back r.kind)
        ∙ (λ i. uid_flaw w cells (reverse_with r.kind (id_back w r.kind r.id r.given.is_id i) (name_back name r.is_name i)))
        ∙ ap (λ b. cond b (Some AboveCounter) None) (not_above r.kind r.id r.given))

    -- an id of a name that stands is named
    id_named : (kind : Kind) (name : List ℕ) (id : ℕ) → IsName name → id_in s kind name ≡ Some id → is_named w cells kind id ≡ true
    id_named kind name id n e = at (value_at s (name_row name) (kind_qual kind)) refl e
      where
        at : (o : Option (List ℕ)) → value_at s (name_row name) (kind_qual kind) ≡ o → option_and_then id_number o ≡ Some id → is_named w cells kind id ≡ true
        at None there e = absurd (none-some id e)
        at (Some v) there e =
            let f = sound.forward name (kind_qual kind) v (no_name_zero name n) there in
            let k : kind ≡ f.kind = same_kind kind f.kind f.is_kind in
            let i : f.id ≡ id = same_Some f.id id (sym (ap id_number f.value_is ∙ number-bytes w f.kind f.id f.given.is_id.1) ∙ e) in
            let back : value_in cells (id_row w kind id) (kind_qual kind) ≡ Some name = sym (value_same w cells (id_row w kind id) (kind_qual kind)) ∙ subst (λ (p : Kind × ℕ). name_in s p.0 p.1 ≡ Some name) (λ t. (sym k t, i t)) f.name_is in
            let has : has_id w cells kind name id ≡ true = there_is_value (kind_bytes w kind id) (value_in cells (name_row name) (kind_qual kind)) (sym (value_same w cells (name_row name) (kind_qual kind)) ∙ there ∙ ap Some (f.value_is ∙ (λ t. kind_bytes w (sym k t) (i t)))) in
            ap (is_named_by w cells kind id) back ∙ (λ t. is_name_from name n t && has t)

    list_all_from : (p : ℕ × ℕ → Bool) (xs : List (ℕ × ℕ)) → ((x : ℕ × ℕ) → Contains xs x → p x ≡ true) → list_all p xs ≡ true
    list_all_from p [] each = refl
    list_all_from p (x ∷ xs) each = let rest = list_all_from p xs (λ y c. each y (there x y xs c)) in λ i. each x (here x xs) i && rest i

    point_free : (row qual value : List ℕ) → RowResolved w (id_in s) row → Reads qual value → PointFlaw w cells row qual value None
    point_free row qual value r reads =
        (r.key, (r.is_key, r.row_is), (λ i. id_named Metric r.name r.key.metric r.is_name r.metric_is i && list_all_from (pair_named w cells) r.key.pairs.items pair i), reads)
      where
        pair : (x : ℕ × ℕ) → Contains r.key.pairs.items x → pair_named w cells x ≡ true
        pair x c =
            let e = r.each x c in
            λ i. id_named TagKey e.0.0 x.0 e.1 e.3 i && id_named TagValue e.0.1 x.1 e.2 e.4 i

    free_at : (t : Table) (row qual value : List ℕ) → value_at s (record { table = t; bytes = row }) qual ≡ Some value → FlawIn w cells t row qual value None
    free_at Ids row qual value there = at (same_bytes row (0 ∷ [])) refl
      where
        at : (b : Bool) → same_bytes row (0 ∷ []) ≡ b → None ≡ uid_flaw w cells (uid_in w Ids row qual value)
        at true same =
            let is : row ≡ 0 ∷ [] = same_list row (0 ∷ []) same in
            subst (λ (r : List ℕ). None ≡ uid_flaw w cells (uid_in w Ids r qual value)) (sym is)
            (counter_free qual value (sound.counters qual value (subst (λ (r : List ℕ). value_at s (name_row r) qual ≡ Some value) is there)))
        at false other =
            let differs : row ≢ 0 ∷ [] = λ e. (let same = same_as row (0 ∷ []) e in let t : true ≡ false = sym same ∙ other in cc) in
            forward_free row qual value differs (sound.forward row qual value differs there)
    free_at Names row qual value there = reverse_free row qual value (sound.reverse row qual value there)
    free_at Points row qual value there =
        point_free row qual value (sound.rows (record { table = Points; bytes = row }) qual value refl there) (sound.cells (record { table = Points; bytes = row }) qual value refl there)

  pub base_flawless : LinesRise cells → IsBase s → NoFlaw w cells
  base_flawless up b l c = free_at b.sound l.table l.row l.qual l.value (each_stands w cells l up c)

pub flawless_is_base : FlawlessIsBase
flawless_is_base w cells up = (flawless_base w cells, base_flawless w cells up)

-- ---- and its counters read

pub flawless_loads : FlawlessLoads
flawless_loads w cells none k d lt is_ids is_row = at (slice_index_or cells k d) is_ids is_row (none _ (All-contains_itself cells k d lt))
  where
    at : (l : ListLine) → l.table ≡ Ids → l.row ≡ 0 ∷ [] → FlawOf w cells l None → IsCounter w l.qual l.value
    at l t r f =
        let e : None ≡ uid_flaw w cells (uid_in w Ids (0 ∷ []) l.qual l.value) = subst (λ (p : Table × List ℕ). FlawIn w cells p.0 p.1 l.qual l.value None) (λ i. (t i, r i)) f in
        counter_reads w cells l.qual l.value (kind_named l.qual) refl e
