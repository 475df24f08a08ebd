-- The store into which one caller alone imported lines of points.
use Rattle.std.proofs.Common.{◌≡◌, ◌≢◌, ◌⊎◌, inl, inr, ⊎_elim, ℕ, ◌≤◌, List, [], ◌∷◌, refl, sym, ap, subst, ◌∙◌, arith, append-nil}
use Rattle.std.specs.Prelude.{◌↔◌, Some, Ok, Contains}
use Rattle.std.specs.List.{flat_map}
use Rattle.std.proofs.lemmas.List.Elements.{Contains-append_cases}
use Rattle.list_lemmas.proofs.ListMembers.{here, there, not_in}
use Rattle.tsd_base.specs.Alphabet.{IsName}
use Rattle.tsd_base.specs.Points.{DataPoint}
use Rattle.tsd_base.specs.declared.kinds.Kind.{Kind}
use Rattle.tsd_hooks.specs.declared.name_patterns.Patterns.{Patterns}
use Rattle.row_key.specs.declared.tables.Table.{Table}
use Rattle.row_key.specs.declared.tables.Table.TheVariants.{Ids, Names as NamesTable, Points}
use Rattle.qual_codec.specs.CellDots.{column_qual}
use Rattle.qual_codec.proofs.CallerLemmas.{items_no_column}
use Rattle.cell_model.specs.declared.row.Row.{Row}
use Rattle.cell_model.specs.History.{History, first, store_after}
use Rattle.cell_model.specs.KindWidths.{Widths}
use Rattle.cell_model.specs.Layout.{IsPoint, names_of}
use Rattle.cell_model.specs.Readings.{point_row}
use Rattle.cell_model.specs.Store.{Store, value_at}
use Rattle.cell_laws.proofs.CallerLemmas.{base_widths, first_lawful}
use Rattle.line_stream.specs.Lines.{Line}
use Rattle.point_lines.specs.LinePoints.{points_from}
use Rattle.point_lines.specs.NameIds.{no_names}
use Rattle.point_lines.proofs.CallerLemmas.{base_of_first, point_names}
use Rattle.point_import.specs.ImportedLines.{WereAccepted}
use Rattle.point_import.specs.LoneImports.{AreNumbered, IsAloneIn}
use Rattle.point_import.proofs.CallerLemmas.{import_numbers}
use Rattle.import_job.specs.ImportedCells.{IsFilled, IsIdCell, IsLastAt, IsPointCell}
use Rattle.import_job.specs.ImportedCells.IsPointCell.{laid_out}
use Rattle.import_job.proofs.IdCells.{id_cell_there, is_id_cell, not_in_points}
use Rattle.import_job.proofs.PlacedNames.{AllHavePlaces, places}
use Rattle.import_job.proofs.PointCells.{AreStored, points_are, points_in, stored_cells}

-- a name of points is one of a point
names_in : (points : List DataPoint) → ((p : DataPoint) → Contains points p → IsPoint p) → (n : Kind × List ℕ) → Contains (flat_map names_of points) n → IsName n.1
names_in [] are n c = absurd (not_in n c)
names_in (p ∷ points) are n c = ⊎_elim
    (λ (first_ : Contains (names_of p) n). point_names p (are p (here p points)) n first_)
    (λ (later : Contains (flat_map names_of points) n). names_in points (λ q i. are q (there p q points i)) n later)
    (Contains-append_cases (names_of p) (flat_map names_of points) n c)

module _ (w : Widths) (patterns : Patterns) (h : History) (caller from to : ℕ) (b : IsAloneIn w h caller from to) {lines : List Line} {count n : ℕ} (up : n ≤ to) (low : from ≤ n) (accepted : WereAccepted patterns h caller from lines count n) where
  alone : IsAloneIn w h caller from n
  alone = record { lawful = b.lawful; base = b.base; empty = b.empty; only = λ place e above most is. b.only place e above (omega (arith, most, up)) is }

  a : AreNumbered w lines count (first n h)
  a = import_numbers w patterns h caller from n lines count alone low accepted

  reads : points_from w 1 no_names lines ≡ Ok a.points
  reads = ap (points_from w 1 no_names) (sym (append-nil lines)) ∙ a.first_points 1 [] ∙ ap Ok (append-nil a.points)

  same : a.points ≡ points_in lines
  same = points_are w 1 no_names lines a.points reads

  cells : AreStored w patterns h caller from n alone a.names a.numbered.ids (points_in lines) n
  cells = stored_cells w patterns h caller from n alone a.names a.numbered.ids (omega arith) accepted

  -- the points are points, so their names are names
  pub named : (points : List DataPoint) → points_from w 1 no_names lines ≡ Ok points → (m : Kind × List ℕ) → Contains (flat_map names_of points) m → IsName m.1
  named points is m c = names_in (points_in lines) cells.are_points m (subst (λ (ps : List DataPoint). Contains (flat_map names_of ps) m) (points_are w 1 no_names lines points is) c)

  have : AllHavePlaces a.names
  have = places w (flat_map names_of a.points) a.names a.noted (named a.points reads)

  s : Store
  s = store_after (first n h)

  wide : (store_after (first n h)).widths ≡ w
  wide = sym (base_widths (first n h)) ∙ ap (λ (x : Store). x.widths) (base_of_first h n ∙ b.base)

  row_is : (row : Row) → row.table ≡ Points → row ≡ point_row row.bytes
  row_is row e = λ i. record { table = e i; bytes = row.bytes }

  points_or : (t : Table) → (t ≡ Points) ⊎ (t ≢ Points)
  points_or Ids = inr (λ e. cc)
  points_or NamesTable = inr (λ e. cc)
  points_or Points = inl refl

  point_there : {row : Row} {qual value : List ℕ} → IsPointCell w a.names a.points row qual value → value_at (store_after (first n h)) row qual ≡ Some value
  point_there (laid_out r q v l) = (cells.cells r q v).1 (subst (λ (ps : List DataPoint). IsLastAt w a.names ps r q v) same l)

  cells_are : (row : Row) (qual value : List ℕ) → value_at (store_after (first n h)) row qual ≡ Some value ↔ (IsIdCell w a.names row qual value ⊎ IsPointCell w a.names a.points row qual value)
  cells_are row qual value = (to_, from_)
    where
      point_cell : row.table ≡ Points → value_at (store_after (first n h)) row qual ≡ Some value → IsPointCell w a.names a.points row qual value
      point_cell e is =
          let there_ : value_at (store_after (first n h)) (point_row row.bytes) qual ≡ Some value = ap (λ (r : Row). value_at (store_after (first n h)) r qual) (sym (row_is row e)) ∙ is in
          subst (λ (r : Row). IsPointCell w a.names a.points r qual value) (sym (row_is row e))
          (laid_out row.bytes qual value (subst (λ (ps : List DataPoint). IsLastAt w a.names ps row.bytes qual value) (sym same) ((cells.cells row.bytes qual value).0 there_)))

      to_ : value_at (store_after (first n h)) row qual ≡ Some value → IsIdCell w a.names row qual value ⊎ IsPointCell w a.names a.points row qual value
      to_ is = ⊎_elim
          (λ (e : row.table ≡ Points). inr (point_cell e is))
          (λ (e : row.table ≢ Points). inl (subst (λ (x : Widths). IsIdCell x a.names row qual value) wide (is_id_cell (first n h) a.names (first_lawful h n b.lawful) a.numbered have row qual value e is)))
          (points_or row.table)

      from_ : IsIdCell w a.names row qual value ⊎ IsPointCell w a.names a.points row qual value → value_at (store_after (first n h)) row qual ≡ Some value
      from_ (inl id) = id_cell_there (first n h) a.names (first_lawful h n b.lawful) a.numbered have (subst (λ (x : Widths). IsIdCell x a.names row qual value) (sym wide) id)
      from_ (inr cell) = point_there cell

  pub filled : (points : List DataPoint) → points_from w 1 no_names lines ≡ Ok points → IsFilled w points (store_after (first n h))
  filled points is = subst (λ (ps : List DataPoint). IsFilled w ps (store_after (first n h))) (same ∙ sym (points_are w 1 no_names lines points is)) (record { names = a.names; noted = a.noted; widths = wide; cells = cells_are })

-- in such a store no point was appended
pub lacks_column : (w : Widths) (points : List DataPoint) (s : Store) → IsFilled w points s → (row : Row) → row.table ≡ Points → (value : List ℕ) → value_at s row column_qual ≡ Some value → ⊥
lacks_column w points s f row in_points value is = ⊎_elim
    (λ (id : IsIdCell w f.names row column_qual value). not_in_points id in_points)
    (λ (cell : IsPointCell w f.names points row column_qual value). at cell refl)
    ((f.cells row column_qual value).0 is)
  where
    at : {r : Row} {q v : List ℕ} → IsPointCell w f.names points r q v → q ≡ column_qual → ⊥
    at (laid_out r q v l) same = items_no_column q _ l.layout.dot.items same
