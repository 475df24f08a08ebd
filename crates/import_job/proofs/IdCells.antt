-- The tables of ids and names where ids are the places of names.
use Rattle.std.proofs.Common.{◌≡◌, ◌≢◌, ◌⊎◌, inl, inr, ⊎_elim, ℕ, ◌≤◌, Bool, true, false, List, [], ◌∷◌, length, refl, sym, ap, subst, ◌∙◌, arith}
use Rattle.std.specs.Prelude.{Option, None, Some, option_and_then}
use Rattle.std.specs.Option.{option_map_or}
use Rattle.std.specs.Int.{w64, from_be_bytes, to_be_bytes}
use Rattle.std.specs.Cmp.Lexicographic.{nat_list_eq_equiv}
use Rattle.std.proofs.lemmas.Nat.{from_be_bytes-to_be_bytes_8}
use Rattle.std.proofs.lemmas.Bool.{true≢false}
use Rattle.tsd_base.specs.Alphabet.{IsName}
use Rattle.tsd_base.specs.TagList.{is_same}
use Rattle.tsd_base.specs.declared.kinds.Kind.{Kind}
use Rattle.row_key.specs.declared.tables.Table.{Table}
use Rattle.row_key.specs.declared.tables.Table.TheVariants.{Ids, Names as NamesTable, Points}
use Rattle.cell_model.specs.declared.row.Row.{Row}
use Rattle.cell_model.specs.History.{History, store_after}
use Rattle.cell_model.specs.IdRows.{id_number, id_of, id_row, name_of, name_row, reverse_row}
use Rattle.cell_model.specs.KindWidths.{Widths, greatest, kind_bytes}
use Rattle.cell_model.specs.Lawful.{IsLawful}
use Rattle.cell_model.specs.Machine.{counter_row, kind_qual}
use Rattle.cell_model.specs.Sound.{IsSound}
use Rattle.cell_model.specs.Store.{Store, value_at}
use Rattle.cell_model.proofs.CallerLemmas.{greatest_fits, number-bytes}
use Rattle.cell_laws.proofs.CallerLemmas.{names_back, not_zero, same_kind, sound_after}
use Rattle.point_lines.specs.LoneHistories.{IsNumbered}
use Rattle.point_lines.specs.NameIds.{Names, id_in, list_of}
use Rattle.point_lines.proofs.CallerLemmas.{same_bytes}
use Rattle.import_job.specs.ImportedCells.{IsIdCell}
use Rattle.import_job.specs.ImportedCells.IsIdCell.{counter, forward, reverse}
use Rattle.import_job.proofs.PlacedNames.{AllHavePlaces}

pub bytes_or : (a b : List ℕ) → (a ≡ b) ⊎ (a ≢ b)
bytes_or a b = at (is_same a b) refl
  where
    at : (t : Bool) → is_same a b ≡ t → (a ≡ b) ⊎ (a ≢ b)
    at true e = inl (same_bytes a b e)
    at false e = inr (λ same. true≢false (sym (nat_list_eq_equiv.refl a) ∙ ap (is_same a) same ∙ e))

none_some : {A : Type 0} {x : A} → ◌≡◌ {A = Option A} None (Some x) → ⊥
none_some e = cc

some_is : {A : Type 0} (x y : A) → ◌≡◌ {A = Option A} (Some x) (Some y) → x ≡ y
some_is x y e = cc

row_is : (row : Row) (table : Table) → row.table ≡ table → row ≡ record { table = table; bytes = row.bytes }
row_is row table e = λ i. record { table = e i; bytes = row.bytes }

module _ (h : History) (names : Names) (lawful : IsLawful h) (numbered : IsNumbered names h) (places : AllHavePlaces names) where
  abbrev s : Store
  s = store_after h

  sound : IsSound s
  sound = sound_after h lawful

  -- ---- what stands there is one of these cells
  counted : (kind : Kind) (number : ℕ) → number ≤ greatest s.widths kind → value_at s counter_row (kind_qual kind) ≡ Some (to_be_bytes w64 number) → number ≡ length (list_of names kind)
  counted kind number most is =
      let fits = greatest_fits s.widths kind in
      sym (ap (λ o. option_map_or (from_be_bytes w64) o 0) is ∙ from_be_bytes-to_be_bytes_8 number (omega (arith, most, fits))) ∙ numbered.counts kind

  of_counter : (qual value : List ℕ) → value_at s counter_row qual ≡ Some value → IsIdCell s.widths names counter_row qual value
  of_counter qual value is =
      let c = sound.counters qual value is in
      let number = counted c.kind c.number c.most (ap (value_at s counter_row) (sym c.is_kind) ∙ is ∙ ap Some c.value_is) in
      let least : 1 ≤ length (list_of names c.kind) = (let low = c.least in omega (arith, low, number)) in
      subst (λ (q : List ℕ). IsIdCell s.widths names counter_row q value) (sym c.is_kind)
      (subst (λ (v : List ℕ). IsIdCell s.widths names counter_row (kind_qual c.kind) v) (sym (c.value_is ∙ ap (to_be_bytes w64) number)) (counter c.kind least))

  of_name : (name qual value : List ℕ) → name ≢ 0 ∷ [] → value_at s (name_row name) qual ≡ Some value → IsIdCell s.widths names (name_row name) qual value
  of_name name qual value other is =
      let f = sound.forward name qual value other is in
      let shown : value_at s (name_row name) (kind_qual f.kind) ≡ Some (kind_bytes s.widths f.kind f.id) = ap (value_at s (name_row name)) (sym f.is_kind) ∙ is ∙ ap Some f.value_is in
      let id : id_in (list_of names f.kind) name ≡ Some f.id = sym (numbered.ids f.kind name f.is_name) ∙ ap (option_and_then id_number) shown ∙ number-bytes s.widths f.kind f.id f.given.is_id.1 in
      subst (λ (q : List ℕ). IsIdCell s.widths names (name_row name) q value) (sym f.is_kind)
      (subst (λ (v : List ℕ). IsIdCell s.widths names (name_row name) (kind_qual f.kind) v) (sym f.value_is) (forward f.kind name f.id id))

  of_id : (bytes qual name : List ℕ) → value_at s (reverse_row bytes) qual ≡ Some name → IsIdCell s.widths names (reverse_row bytes) qual name
  of_id bytes qual name is =
      let r = sound.reverse bytes qual name is in
      let counts = numbered.counts r.kind in
      let most = r.given.counted in
      let least = r.given.is_id.0 in
      let m = (places r.kind).at r.id least (omega (arith, counts, most)) in
      let back : name_of h r.kind r.id ≡ Some m.0 = names_back h r.kind m.0 r.id lawful m.1 (numbered.ids r.kind m.0 m.1 ∙ m.2) in
      let shown : name_of h r.kind r.id ≡ Some name = (λ i. value_at s (reverse_row (sym r.bytes_are i)) (sym r.is_kind i)) ∙ is in
      let same : m.0 ≡ name = some_is m.0 name (sym back ∙ shown) in
      let id : id_in (list_of names r.kind) name ≡ Some r.id = ap (id_in (list_of names r.kind)) (sym same) ∙ m.2 in
      subst (λ (q : List ℕ). IsIdCell s.widths names (reverse_row bytes) q name) (sym r.is_kind)
      (subst (λ (b : List ℕ). IsIdCell s.widths names (reverse_row b) (kind_qual r.kind) name) (sym r.bytes_are) (reverse r.kind name r.id id))

  of_ids : (row : Row) (qual value : List ℕ) → row.table ≡ Ids → value_at s row qual ≡ Some value → IsIdCell s.widths names row qual value
  of_ids row qual value ids is =
      let same = row_is row Ids ids in
      let there : value_at s (name_row row.bytes) qual ≡ Some value = ap (λ (r : Row). value_at s r qual) (sym same) ∙ is in
      subst (λ (r : Row). IsIdCell s.widths names r qual value) (sym same) (⊎_elim
      (λ (zero_ : row.bytes ≡ 0 ∷ []). subst (λ (b : List ℕ). IsIdCell s.widths names (name_row b) qual value) (sym zero_) (of_counter qual value (ap (λ (b : List ℕ). value_at s (name_row b) qual) (sym zero_) ∙ there)))
      (λ (other : row.bytes ≢ 0 ∷ []). of_name row.bytes qual value other there)
      (bytes_or row.bytes (0 ∷ [])))

  pub is_id_cell : (row : Row) (qual value : List ℕ) → row.table ≢ Points → value_at s row qual ≡ Some value → IsIdCell s.widths names row qual value
  is_id_cell row qual value other is = at row.table refl
    where
      at : (t : Table) → row.table ≡ t → IsIdCell s.widths names row qual value
      at Ids e = of_ids row qual value e is
      at NamesTable e =
          let same = row_is row NamesTable e in
          subst (λ (r : Row). IsIdCell s.widths names r qual value) (sym same) (of_id row.bytes qual value (ap (λ (r : Row). value_at s r qual) (sym same) ∙ is))
      at Points e = absurd (other e)

  -- ---- and each of these cells stands there
  counter_there : (kind : Kind) → 1 ≤ length (list_of names kind) → value_at s counter_row (kind_qual kind) ≡ Some (to_be_bytes w64 (length (list_of names kind)))
  counter_there kind some = at (value_at s counter_row (kind_qual kind)) refl
    where
      at : (o : Option (List ℕ)) → value_at s counter_row (kind_qual kind) ≡ o → o ≡ Some (to_be_bytes w64 (length (list_of names kind)))
      at None e =
          let none : 0 ≡ length (list_of names kind) = sym (ap (λ o. option_map_or (from_be_bytes w64) o 0) e) ∙ numbered.counts kind in
          absurd (omega (arith, some, none))
      at (Some value) e =
          let c = sound.counters (kind_qual kind) value e in
          let same : kind ≡ c.kind = same_kind kind c.kind c.is_kind in
          let number = counted c.kind c.number c.most (ap (value_at s counter_row) (sym c.is_kind) ∙ e ∙ ap Some c.value_is) in
          ap Some (c.value_is ∙ ap (to_be_bytes w64) (number ∙ ap (λ (k : Kind). length (list_of names k)) (sym same)))

  forward_there : (kind : Kind) (name : List ℕ) (id : ℕ) → id_in (list_of names kind) name ≡ Some id → value_at s (name_row name) (kind_qual kind) ≡ Some (kind_bytes s.widths kind id)
  forward_there kind name id is = at (value_at s (name_row name) (kind_qual kind)) refl
    where
      is_name : IsName name
      is_name = ((places kind).named name id is).0

      resolved : id_of h kind name ≡ Some id
      resolved = numbered.ids kind name is_name ∙ is

      at : (o : Option (List ℕ)) → value_at s (name_row name) (kind_qual kind) ≡ o → o ≡ Some (kind_bytes s.widths kind id)
      at None e = absurd (none_some (sym (ap (option_and_then id_number) e) ∙ resolved))
      at (Some value) e =
          let f = sound.forward name (kind_qual kind) value (not_zero name is_name) e in
          let same : kind ≡ f.kind = same_kind kind f.kind f.is_kind in
          let number : f.id ≡ id = some_is f.id id (sym (ap (option_and_then id_number) (e ∙ ap Some f.value_is) ∙ number-bytes s.widths f.kind f.id f.given.is_id.1) ∙ resolved) in
          ap Some (f.value_is ∙ (λ i. kind_bytes s.widths (sym same i) (number i)))

  reverse_there : (kind : Kind) (name : List ℕ) (id : ℕ) → id_in (list_of names kind) name ≡ Some id → value_at s (id_row s.widths kind id) (kind_qual kind) ≡ Some name
  reverse_there kind name id is =
      let is_name = ((places kind).named name id is).0 in
      names_back h kind name id lawful is_name (numbered.ids kind name is_name ∙ is)

  pub id_cell_there : {row : Row} {qual value : List ℕ} → IsIdCell s.widths names row qual value → value_at s row qual ≡ Some value
  id_cell_there (counter kind some) = counter_there kind some
  id_cell_there (forward kind name id is) = forward_there kind name id is
  id_cell_there (reverse kind name id is) = reverse_there kind name id is

-- none of them is in the table of points
pub not_in_points : {w : Widths} {names : Names} {row : Row} {qual value : List ℕ} → IsIdCell w names row qual value → row.table ≢ Points
not_in_points (counter kind some) = λ e. cc
not_in_points (forward kind name id is) = λ e. cc
not_in_points (reverse kind name id is) = λ e. cc
