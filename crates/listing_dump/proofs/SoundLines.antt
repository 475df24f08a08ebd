-- What soundness says of the lines of a listing.
use Rattle.std.proofs.Common.{◌≡◌, ℕ, ◌≤◌, Bool, true, false, not, ◌&&◌, List, [], ◌∷◌, length, refl, sym, ap, subst, ◌∙◌}
use Rattle.std.specs.Prelude.{Option, None, Some, option_map, option_and_then, unwrap_or, Contains}
use Rattle.std.specs.List.{slice_get}
use Rattle.list_lemmas.proofs.BoolTests.{both_true, not_Some, same_Some}
use Rattle.tsd_base.specs.declared.kinds.Kind.{Kind}
use Rattle.tsd_base.specs.declared.kinds.Kind.TheVariants.{Metric, TagKey, TagValue}
use Rattle.tsd_base.specs.Alphabet.{IsName}
use Rattle.row_key.specs.declared.tables.Table.{Table}
use Rattle.row_key.specs.declared.tables.Table.TheVariants.{Ids, Names, Points}
use Rattle.row_key.proofs.CallerLemmas.{length_bytes}
use Rattle.qual_codec.specs.CellDots.{Reads}
use Rattle.cell_model.specs.declared.row.ListLine.{ListLine}
use Rattle.cell_model.specs.declared.row.Listing.{Listing}
use Rattle.cell_model.specs.declared.events.Place.{Place}
use Rattle.cell_model.specs.KindWidths.{Widths, greatest, kind_bytes, width_of}
use Rattle.cell_model.specs.Machine.{kind_qual}
use Rattle.cell_model.specs.Store.{Store, same_bytes, value_at}
use Rattle.cell_model.specs.IdRows.{id_in, id_number, name_in, name_row}
use Rattle.cell_model.specs.Layout.{RowResolved}
use Rattle.cell_model.specs.Rising.{LinesRise}
use Rattle.cell_model.specs.Listed.{store_of}
use Rattle.cell_model.specs.Sound.{IsBase, IsForward}
use Rattle.cell_model.proofs.CallerLemmas.{number-bytes}
use Rattle.listing_dump.specs.NameRanks.{HaveWidth, IsRank, is_ids, is_name_of}
use Rattle.listing_dump.specs.RowPlaces.{AreAllRanks, HaveRankedKeys}
use Rattle.listing_dump.specs.RowPoints.{row_at}
use Rattle.listing_dump.specs.declared.name_ranks.NameRanks.{NameRanks}
use Rattle.listing_dump.proofs.Filters.{in_place, place_in}
use Rattle.listing_dump.proofs.LineStores.{line_stands, line_there}
use Rattle.listing_dump.proofs.RowCells.{points_is, same_is, same_itself}

ids_is : (t : Table) → is_ids t ≡ true → t ≡ Ids
ids_is Ids e = refl
ids_is Names e = cc
ids_is Points e = cc

false_true : false ≡ true → ⊥
false_true e = cc

not_true : (b : Bool) → not b ≡ true → b ≡ false
not_true true e = absurd (false_true e)
not_true false e = refl

-- a cell of a name's id, by its parts
pub record NameCell (kind : Kind) (l : ListLine) : Type 0 where
  pub table : l.table ≡ Ids
  pub qual : l.qual ≡ kind_qual kind
  pub row : l.row ≡ 0 ∷ [] → ⊥

pub name_cell : (kind : Kind) (l : ListLine) → is_name_of kind l ≡ true → NameCell kind l
name_cell kind l e =
    let one = both_true (is_ids l.table) (same_bytes l.qual (kind_qual kind) && not (same_bytes l.row (0 ∷ []))) e in
    let two = both_true (same_bytes l.qual (kind_qual kind)) (not (same_bytes l.row (0 ∷ []))) one.1 in
    record {
      table = ids_is l.table one.0;
      qual = same_is l.qual (kind_qual kind) two.0;
      row = λ r. false_true (sym (not_true (same_bytes l.row (0 ∷ [])) two.1) ∙ ap (λ x. same_bytes x (0 ∷ [])) r ∙ same_itself (0 ∷ []));
    }

is_name_cell : (kind : Kind) (l : ListLine) → l.table ≡ Ids → l.qual ≡ kind_qual kind → (l.row ≡ 0 ∷ [] → ⊥) → is_name_of kind l ≡ true
is_name_cell kind l t q r =
    ap (λ x. is_ids x && (same_bytes l.qual (kind_qual kind) && not (same_bytes l.row (0 ∷ [])))) t
    ∙ ap (λ x. same_bytes x (kind_qual kind) && not (same_bytes l.row (0 ∷ []))) q
    ∙ ap (λ b. b && not (same_bytes l.row (0 ∷ []))) (same_itself (kind_qual kind))
    ∙ ap not (other (same_bytes l.row (0 ∷ [])) refl)
  where
    other : (b : Bool) → same_bytes l.row (0 ∷ []) ≡ b → b ≡ false
    other true e = absurd (r (same_is l.row (0 ∷ []) e))
    other false e = refl

-- a name isn't the row of the counters
no_counter : (name : List ℕ) → IsName name → name ≡ 0 ∷ [] → ⊥
no_counter name is e = let n = subst IsName e is in false_true n.alphabet

one_kind : (a b : Kind) → kind_qual a ≡ kind_qual b → a ≡ b
one_kind Metric Metric e = refl
one_kind Metric TagKey e = absurd (false_true (sym (ap (λ q. same_bytes q (kind_qual Metric)) e)))
one_kind Metric TagValue e = absurd (false_true (sym (ap (λ q. same_bytes q (kind_qual Metric)) e)))
one_kind TagKey Metric e = absurd (false_true (sym (ap (λ q. same_bytes q (kind_qual TagKey)) e)))
one_kind TagKey TagKey e = refl
one_kind TagKey TagValue e = absurd (false_true (sym (ap (λ q. same_bytes q (kind_qual TagKey)) e)))
one_kind TagValue Metric e = absurd (false_true (sym (ap (λ q. same_bytes q (kind_qual TagValue)) e)))
one_kind TagValue TagKey e = absurd (false_true (sym (ap (λ q. same_bytes q (kind_qual TagValue)) e)))
one_kind TagValue TagValue e = refl

pub row_value : (cells : List ListLine) (at : ℕ) (l : ListLine) → slice_get cells at ≡ Some l → row_at cells at ≡ l.row
row_value cells at l is = ap (λ (o : Option ListLine). unwrap_or (option_map (λ (x : ListLine). x.row) o) []) is

module _ (l : Listing) (up : LinesRise l.lines) (base : IsBase (store_of l)) where
  abbrev pub w : Widths
  w = l.widths

  abbrev pub cells : List ListLine
  cells = l.lines

  abbrev pub s : Store
  s = store_of l

  forward_of : (kind : Kind) (c : ListLine) → Contains cells c → NameCell kind c → IsForward s c.row c.qual c.value
  forward_of kind c among is =
      base.sound.forward c.row c.qual c.value is.row (ap (λ (t : Table). value_at s (record { table = t; bytes = c.row }) c.qual) (sym is.table) ∙ line_stands l c up among)

  -- ids have their width
  pub have_width : (kind : Kind) → HaveWidth w cells kind
  have_width kind at c isc names =
      let n = name_cell kind c names in
      let f = forward_of kind c (in_place cells at c isc) n in
      let same = one_kind f.kind kind (sym f.is_kind ∙ n.qual) in
      ap length f.value_is ∙ length_bytes (width_of w f.kind) f.id ∙ ap (width_of w) same

  -- the name of an id stands on the line of its rank
  pub name_of_rank : (kind : Kind) (id rank : ℕ) → IsRank w cells kind id rank → name_in s kind id ≡ Some (row_at cells rank)
  name_of_rank kind id rank r =
      let n = name_cell kind r.line r.names in
      let f = forward_of kind r.line (in_place cells rank r.line r.there) n in
      let bytes : kind_bytes w kind id ≡ kind_bytes w f.kind f.id = sym r.value_is ∙ f.value_is in
      ap (λ (bs : List ℕ). value_at s (record { table = Names; bytes = bs }) (kind_qual kind)) bytes ∙ ap (value_at s (record { table = Names; bytes = kind_bytes w f.kind f.id })) (sym n.qual ∙ f.is_kind) ∙ f.name_is
      ∙ ap Some (sym (row_value cells rank r.line r.there))

  -- the id of a name has a rank
  ranked : (kind : Kind) (name : List ℕ) (id : ℕ) → IsName name → id_in s kind name ≡ Some id → (rank : ℕ) × IsRank w cells kind id rank
  ranked kind name id is e = at (value_at s (name_row name) (kind_qual kind)) refl e
    where
      at : (o : Option (List ℕ)) → value_at s (name_row name) (kind_qual kind) ≡ o → option_and_then id_number o ≡ Some id → (rank : ℕ) × IsRank w cells kind id rank
      at None v number = absurd (not_Some id (sym number))
      at (Some value) v number =
          let x = line_there l (name_row name) (kind_qual kind) value v in
          let table : x.line.table ≡ Ids = sym (ap (λ (p : Place). p.row.table) x.place_is) in
          let row : x.line.row ≡ name = sym (ap (λ (p : Place). p.row.bytes) x.place_is) in
          let qual : x.line.qual ≡ kind_qual kind = sym (ap (λ (p : Place). p.qual) x.place_is) in
          let other : x.line.row ≡ 0 ∷ [] → ⊥ = λ r. no_counter name is (sym row ∙ r) in
          let p = place_in cells x.line x.among in
          let f = forward_of kind x.line x.among (record { table = table; qual = qual; row = other }) in
          let read : Some f.id ≡ Some id = sym (number-bytes w f.kind f.id f.given.is_id.1) ∙ ap id_number (sym f.value_is ∙ x.value_is) ∙ number in
          let same = same_Some f.id id read in (
            p.0,
            record {
              line = x.line;
              there = p.1;
              names = is_name_cell kind x.line table qual other;
              fits = subst (λ (n : ℕ). n ≤ greatest w kind) same (subst (λ (k : Kind). f.id ≤ greatest w k) (one_kind f.kind kind (sym f.is_kind ∙ qual)) f.given.is_id.1);
              value_is = f.value_is ∙ ap (kind_bytes w f.kind) same ∙ ap (λ k. kind_bytes w k id) (one_kind f.kind kind (sym f.is_kind ∙ qual));
            },
          )

  row_resolved : (at : ℕ) (c : ListLine) → slice_get cells at ≡ Some c → c.table ≡ Points → RowResolved w (id_in s) c.row
  row_resolved at c isc t = base.sound.rows (record { table = c.table; bytes = c.row }) c.qual c.value t (line_stands l c up (in_place cells at c isc))

  -- each cell of points reads
  pub line_reads : (at : ℕ) (c : ListLine) → slice_get cells at ≡ Some c → c.table ≡ Points → Reads c.qual c.value
  line_reads at c isc t = base.sound.cells (record { table = c.table; bytes = c.row }) c.qual c.value t (line_stands l c up (in_place cells at c isc))

  -- each point row has a key, each id of which has a rank
  pub have_keys : (ranks : NameRanks) → AreAllRanks w cells ranks → HaveRankedKeys w cells ranks
  have_keys ranks are at c isc points =
      let x = row_resolved at c isc (points_is c.table points) in
      let m = ranked Metric x.name x.key.metric x.is_name x.metric_is in (
        x.key,
        (x.is_key, x.row_is),
        record {
          metric = are.metrics.all x.key.metric m.0 m.1;
          tags = λ p cp.
              let t = x.each p cp in
              let k = ranked TagKey t.0.0 p.0 t.1 t.3 in
              let v = ranked TagValue t.0.1 p.1 t.2 t.4 in
              (are.tag_keys.all p.0 k.0 k.1, are.tag_values.all p.1 v.0 v.1);
        },
      )
